-- The ways out of a writer, whatever its format. Assumes nothing.
use mathlib.Core.Path.{◌≡◌, refl, sym, ap, ◌∙◌}
use mathlib.Core.Logic.{◌≢◌}
use mathlib.Core.Bool.{true}
use mathlib.Core.List.{List, [], ◌++◌}
use Prim.Native.Nat.{ℕ, ◌*◌, ◌≤◌, ◌<◌}
use native.Mathlib.Omega.{arith}
use borrow.Author.Tests.{lt-ltb, le-ltb}
use lib.ListN.{length, take, drop, replicate}
use lib.Seq.{length-take-le}
use Rattle.lists.proofs.Lent.{as_lent, as_new}
use Rattle.refusals.specs.Rows.{first}
use Rattle.refusals.specs.Causes.{work_rows, room_rows}
use Rattle.std.specs.Prelude.{Ok, Err}
use Rattle.refusals.specs.Refusals.{as_number}
use Rattle.refusals.specs.declared.Refusal.{Refusal}
use Rattle.refusals.specs.declared.CountError.TheVariants.{Refused, Short}
use Rattle.refusals.proofs.Refusals.{above_none}
use Rattle.refusals.proofs.Rows.{stops, goes_on}
use Rattle.mesh.specs.Mesh.{points_of}
use Rattle.mesh.specs.Judged.{count_rows, whole_rows, size_rows, name_rows, mesh_rows}
use Rattle.mesh.proofs.Unrefused.{mesh_proper, mesh_fits, points_work}
use Rattle.components.proofs.WaysOut.{asks}
use Rattle.file_steps.specs.Writer.{write_number, written_by, Writes}
use Rattle.file_steps.specs.Parts.{Storable, Placed}
use Rattle.file_steps.proofs.Numbers.{written_refused, lacks, first_lacks}

module _ (e n : ℕ) (f P C o w : List ℕ) where
  no_nine : lacks 9 (mesh_rows (length P) C (length w) 0 e) ≡ true
  unfolding lacks mesh_rows size_rows count_rows whole_rows work_rows name_rows
  no_nine = refl

  pub refused : {why : Refusal} → as_number why ≡ first (mesh_rows (length P) C (length w) 0 e) → Writes e n f P C o w (Err (Refused why)) o w
  refused {why} q =
      let r : ℕ = as_number why in
      let d : r ≢ 0 = above_none why in
      let k : write_number e n P C o w ≡ r = sym (stops (mesh_rows (length P) C (length w) 0 e) _ q d) in
      let d9 : r ≢ 9 = λ z. first_lacks 9 (mesh_rows (length P) C (length w) 0 e) (omega arith) no_nine (sym q ∙ z) in
      record { answer = rw k (sym (written_refused r n why refl d9)); file = rw k (sym (as_lent r _ o d)); work = rw k (sym (as_lent r _ w d)) }

  module _ (z : first (mesh_rows (length P) C (length w) 0 e) ≡ 0) where
    number : write_number e n P C o w ≡ first (room_rows (length o) n)
    number = goes_on (mesh_rows (length P) C (length w) 0 e) (room_rows (length o) n) (mesh_proper (length P) C (length w) 0 e) refl z

    pub work_long : e * points_of P ≤ length w
    work_long = points_work (length P) C (length w) e (mesh_fits (length P) C (length w) 0 e z)

    pub short : {m : ℕ} → m ≡ n → length o < m → Writes e n f P C o w (Err (Short m)) o w
    unfolding written_by first room_rows
    short {m} q h =
        let k : write_number e n P C o w ≡ 9 = number ∙ rw (← q, lt-ltb (length o) m h) refl in
        record { answer = rw k (ap (λ (j : ℕ). Err (Short j)) q); file = rw k (sym (as_lent 9 _ o (λ d. omega arith))); work = rw k (sym (as_lent 9 _ w (λ d. omega arith))) }

    pub done : {m : ℕ} {o' w' : List ℕ} → m ≡ n → m ≤ length o → Placed f o' (take (e * points_of P) w) w'
        → Writes e n f P C o w (Ok m) (o' ++ drop m o) (w' ++ drop (e * points_of P) w)
    unfolding written_by first room_rows
    done {m} {o'} {w'} q h p =
        let k : write_number e n P C o w ≡ 0 = number ∙ rw (← q, le-ltb (length o) m h) refl in
        let zeros : w' ≡ replicate (e * points_of P) 0 = p.zero ∙ ap (λ (j : ℕ). replicate j 0) (length-take-le (e * points_of P) w work_long) in
        record { answer = rw k (ap Ok q); file = rw (k, p.file, q) (sym (as_new [] _ o)); work = rw (k, zeros) (sym (as_new [] _ w)) }

-- the parts that are lent on by a writer that gives component numbers
pub storable : (n : ℕ) (P C o w : List ℕ) → first (mesh_rows (length P) C (length w) 0 2) ≡ 0 → {m : ℕ} → m ≡ n → m ≤ length o
    → Storable n P C (take m o) (take (2 * points_of P) w)
storable n P C o w z {m} q h =
    let f = mesh_fits (length P) C (length w) 0 2 z in
    record {
      whole = f.points;
      fits = asks (length P) C w f;
      points = length-take-le (2 * points_of P) w (points_work (length P) C (length w) 2 f);
      long = length-take-le m o h ∙ q;
    }
