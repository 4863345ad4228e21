-- What the contracts of readers and writers mean, whatever their format; stated on what they hand out. Assumes nothing.
use mathlib.Core.Path.{◌≡◌, refl, sym, ap, ap₂, subst, ◌∙◌}
use mathlib.Core.Logic.{◌≢◌, ◌↔◌}
use mathlib.Core.Bool.{true, false}
use mathlib.Core.List.{List, [], ◌∷◌, ◌++◌}
use Prim.Native.Nat.{ℕ, ◌*◌, ◌≤◌, ◌<◌}
use native.Mathlib.Omega.{arith}
use borrow.Author.Tests.{le-ltb, not-false}
use lib.ListN.{length, take}
use lib.Seq.{take_at}
use Rattle.lists.specs.Tables.{all_below, front, zeroed, Determined}
use Rattle.lists.proofs.Lent.{all_below_lem, as_lent, as_new, determined}
use Rattle.refusals.specs.Rows.{Row, InTurn, first, proper, rising, caused, lower}
use Rattle.refusals.specs.Causes.{work_rows, room_rows}
use Rattle.std.specs.Prelude.{Result, Ok}
use Rattle.refusals.specs.Refusals.{as_refusal, named, count_number}
use Rattle.refusals.specs.declared.CountError.{CountError}
use Rattle.refusals.proofs.Refusals.{first_named}
use Rattle.refusals.proofs.Rows.{clear, goes_on, front_clear, rest_clear, in_turn, exactly}
use Rattle.mesh.specs.Mesh.{most, points_of, cells_of, Cells}
use Rattle.mesh.specs.Judged.{count_rows, whole_rows, size_rows, name_rows, mesh_rows}
use Rattle.mesh.proofs.Unrefused.{mesh_proper, mesh_fits, fits_mesh}
use Rattle.words.proofs.Words.{length_words, length_cells, words_small}
use Rattle.file_components.specs.Blocks.{points_in, cells_in, right_numbers}
use Rattle.file_components.specs.Parts.{Stands}
use Rattle.file_components.specs.declared.Blocks.{Blocks}
use Rattle.file_steps.specs.Loaded.{done, number_of, loaded_by}
use Rattle.file_steps.specs.Reader.{content_rows, table_rows, number_rows, read_rows, read_number, Reads}
use Rattle.file_steps.specs.Writer.{write_rows, write_number, written_by, Writes}
use Rattle.file_steps.specs.Meshes.{Mesh, Room, Back}
use Rattle.file_steps.specs.declared.Loaded.{Loaded}
use Rattle.file_steps.specs.declared.LoadError.{LoadError}
use Rattle.file_steps.proofs.Numbers.{named_both, loaded_number, loaded_done, written_number, written_done}
use Rattle.file_steps.proofs.Readers.{rooms_proper, unrefused}

-- ---- writers

module _ (e n : ℕ) (f P C o w : List ℕ) where
  -- one outcome only
  pub write_one : Determined (λ (z : Result ℕ CountError × List ℕ × List ℕ). Writes e n f P C o w z.0 z.1 z.2)
  write_one = determined (λ z a i. (a.answer i, a.file i, a.work i))

  rise : rising 1 (write_rows e n P C o w) ≡ true
  unfolding rising mesh_rows size_rows count_rows whole_rows work_rows name_rows room_rows
  rise = refl

  names : named (write_rows e n P C o w) ≡ true
  unfolding named as_refusal mesh_rows size_rows count_rows whole_rows work_rows name_rows room_rows
  names = refl

  module _ {r : Result ℕ CountError} {o' w' : List ℕ} (d : Writes e n f P C o w r o' w') where
    number : count_number r ≡ write_number e n P C o w
    number = ap count_number d.answer ∙ written_number (write_number e n P C o w) n (first_named (write_rows e n P C o w) names)

    -- each refusal exactly when, in order; and so the lowest first
    pub write_in_turn : (k : ℕ) → 0 < k → (count_number r ≡ k) ↔ InTurn k (write_rows e n P C o w)
    write_in_turn = in_turn (write_rows e n P C o w) number

    pub write_exactly : (k : ℕ) → 0 < k → (count_number r ≡ k) ↔ ((caused k (write_rows e n P C o w) ≡ true) × (lower k (write_rows e n P C o w) ≡ false))
    write_exactly = exactly (write_rows e n P C o w) rise number

    -- nothing is stored on a refusal
    pub write_refused : count_number r ≢ 0 → (o' ≡ o) × (w' ≡ w)
    write_refused q =
        let k : write_number e n P C o w ≢ 0 = λ z. q (number ∙ z) in
        (d.file ∙ as_lent _ _ o k, d.work ∙ as_lent _ _ w k)

  -- an answer
  module _ {bytes : ℕ} {o' w' : List ℕ} (d : Writes e n f P C o w (Ok bytes) o' w') where
    answered : (write_number e n P C o w ≡ 0) × (n ≡ bytes)
    answered = written_done (write_number e n P C o w) n (sym d.answer)

    -- what is taken, of any bits, is a mesh
    pub taken : all_below 4294967296 P ≡ true → Mesh P C
    taken bits =
        let g = mesh_fits (length P) C (length w) 0 e (front_clear (mesh_rows (length P) C (length w) 0 e) _ answered.0) in
        record { points = g.points; cells = g.cells; bits = bits }

    -- and the bytes that are left in the file's table are the file
    pub file_left : length f ≡ n → take bytes o' ≡ f
    file_left l =
        let k : o' ≡ front n f o = d.file ∙ rw answered.0 (as_new [] _ o) in
        ap₂ (λ (m : ℕ) (z : List ℕ). take m z) (sym answered.1) k ∙ take_at f _ n l

  -- with room every mesh is taken
  pub takes : Mesh P C → e * points_of P ≤ length w → n ≤ length o → {r : Result ℕ CountError} {o' w' : List ℕ} → Writes e n f P C o w r o' w' → r ≡ Ok n
  unfolding written_by first room_rows
  takes m v h d =
      let z : first (mesh_rows (length P) C (length w) 0 e) ≡ 0 = fits_mesh (length P) C (length w) 0 e (record { points = m.points; cells = m.cells; work = omega arith }) in
      let k : write_number e n P C o w ≡ 0 = goes_on (mesh_rows (length P) C (length w) 0 e) (room_rows (length o) n) (mesh_proper (length P) C (length w) 0 e) refl z ∙ rw (le-ltb (length o) n h) refl in
      d.answer ∙ rw k refl

-- ---- readers

-- the mesh that a file has
pub record Says (b : List ℕ) (s : Blocks) (P C : List ℕ) : Type 0 where
  pub points : points_in b s ≡ P
  pub cells : cells_in b s ≡ C
  pub count_points : s.p ≡ points_of P
  pub count_cells : s.n ≡ cells_of C
  pub right : right_numbers b s ≡ true

-- such a file is not refused for its mesh
pub contents_clear : (b : List ℕ) (s : Blocks) (P C : List ℕ) → Mesh P C → Says b s P C → first (content_rows b s) ≡ 0
unfolding content_rows first count_rows name_rows
contents_clear b s P C m h =
    rw (
      h.cells,
      h.count_points,
      h.count_cells,
      le-ltb most (points_of P) m.cells.small,
      le-ltb most (cells_of C) m.cells.few,
      all_below_lem (points_of P) C m.cells.names,
    )
    refl

-- what an answer of a reader says of the file, and of the tables
pub record Answered (rows : List Row) (b : List ℕ) (s : Blocks) (p n : ℕ) (x' y' : List ℕ) : Type 0 where
  pub clear_rows : first rows ≡ 0
  pub right : right_numbers b s ≡ true
  pub count_points : s.p ≡ p
  pub count_cells : s.n ≡ n
  pub points : take (3 * p) x' ≡ points_in b s
  pub cells : take (4 * n) y' ≡ cells_in b s

module _ (rows : List Row) (b : List ℕ) (s : Blocks) (x y w : List ℕ) where
  -- one outcome only
  pub read_one : Determined (λ (z : Result Loaded LoadError × List ℕ × List ℕ × List ℕ). Reads rows b s x y w z.0 z.1 z.2 z.3)
  read_one = determined (λ z a i. (a.answer i, a.points i, a.cells i, a.work i))

  module _ {r : Result Loaded LoadError} {x' y' w' : List ℕ} (d : Reads rows b s x y w r x' y' w') where
    pub read_number_lem : number_of r ≡ read_number rows b s x y w
    unfolding named as_refusal table_rows room_rows number_rows
    read_number_lem =
        let more : named (table_rows (length x) (length y) (length w) s.p s.n ++ number_rows b s) ≡ true = refl in
        ap number_of d.answer ∙ loaded_number (read_number rows b s x y w) s.p s.n (first_named (read_rows rows b s x y w) (named_both rows _ d.causes more))

    -- each refusal exactly when, in order
    pub read_in_turn : (k : ℕ) → 0 < k → (number_of r ≡ k) ↔ InTurn k (read_rows rows b s x y w)
    read_in_turn = in_turn (read_rows rows b s x y w) read_number_lem

    -- nothing of a mesh is stored on a refusal
    pub read_refused : number_of r ≢ 0 → (x' ≡ x) × (y' ≡ y)
    unfolding loaded_by
    read_refused q =
        let k : read_number rows b s x y w ≢ 0 = λ z. q (ap number_of d.answer ∙ ap (λ (j : ℕ). number_of (loaded_by j s.p s.n)) z) in
        (d.points ∙ as_lent _ _ x k, d.cells ∙ as_lent _ _ y k)

    -- a file that is not refused by itself, read with room, is the mesh that it has
    pub reads_mesh : (P C : List ℕ) → proper rows ≡ true → first rows ≡ 0 → Mesh P C → Says b s P C → Room (length x) (length y) (length w) (points_of P) (cells_of C)
        → Back P C x y w r x' y' w'
    unfolding loaded_by number_rows first
    reads_mesh P C h z m q v =
        let u : Room (length x) (length y) (length w) s.p s.n = rw (q.count_points, q.count_cells) v in
        let k : read_number rows b s x y w ≡ 0 =
        goes_on rows _ h refl z
        ∙ goes_on (table_rows (length x) (length y) (length w) s.p s.n) (number_rows b s) (rooms_proper (length x) (length y) (length w) s.p s.n) refl (unrefused (length x) (length y) (length w) s.p s.n u)
        ∙ rw q.right refl in
        let lp : 3 * s.p ≡ length P = omega (arith, q.count_points, m.points) in
        let lc : 4 * s.n ≡ length C = omega (arith, q.count_cells, m.cells.whole) in
        record {
          answer = d.answer ∙ rw k (ap₂ done q.count_points q.count_cells);
          points = d.points ∙ rw k (as_new [] _ x) ∙ ap₂ (λ (j : ℕ) (l : List ℕ). front j l x) lp q.points;
          cells = d.cells ∙ rw k (as_new [] _ y) ∙ ap₂ (λ (j : ℕ) (l : List ℕ). front j l y) lc q.cells;
          work = d.work ∙ rw k (as_new (13 ∷ []) _ w) ∙ ap (λ (j : ℕ). zeroed (2 * j) w) q.count_points;
        }

  -- and the other way
  pub read_answered : {p n : ℕ} {x' y' w' : List ℕ} → proper rows ≡ true → Reads rows b s x y w (done p n) x' y' w' → Answered rows b s p n x' y'
  unfolding number_rows proper
  read_answered {p} {n} {x'} {y'} h d =
      let a = loaded_done (read_number rows b s x y w) s.p s.n (sym d.answer) in
      let rooms = table_rows (length x) (length y) (length w) s.p s.n in
      let last : first (number_rows b s) ≡ 0 = rest_clear rooms _ (rooms_proper (length x) (length y) (length w) s.p s.n) (rest_clear rows _ h a.0) in
      let px : x' ≡ front (3 * s.p) (points_in b s) x = d.points ∙ rw a.0 (as_new [] _ x) in
      let py : y' ≡ front (4 * s.n) (cells_in b s) y = d.cells ∙ rw a.0 (as_new [] _ y) in
      record {
        clear_rows = front_clear rows _ a.0;
        right = not-false _ (clear (number_rows b s) refl last 0);
        count_points = a.1;
        count_cells = a.2;
        points = ap₂ (λ (j : ℕ) (l : List ℕ). take (3 * j) l) (sym a.1) px ∙ take_at (points_in b s) _ (3 * s.p) (length_words s.big b s.points (3 * s.p));
        cells = ap₂ (λ (j : ℕ) (l : List ℕ). take (4 * j) l) (sym a.2) py ∙ take_at (cells_in b s) _ (4 * s.n) (length_cells s.big s.stride b s.cells s.n);
      }

-- what a file of bytes has, where its cells name points that are there, is a mesh
pub mesh_in : (b : List ℕ) (s : Blocks) → all_below 256 b ≡ true → Stands b s → Cells (cells_in b s) s.p → Mesh (points_in b s) (cells_in b s)
mesh_in b s bytes h c =
    let l : length (points_in b s) ≡ 3 * s.p = length_words s.big b s.points (3 * s.p) in
    let e : s.p ≡ points_of (points_in b s) = omega arith in
    record { points = omega arith; cells = subst (Cells (cells_in b s)) e c; bits = words_small s.big b s.points (3 * s.p) bytes (omega (arith, h.points)) }
