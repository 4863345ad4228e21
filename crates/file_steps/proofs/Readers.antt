-- The ways out of a reader, whatever its format. Assumes nothing.
use mathlib.Core.Path.{◌≡◌, refl, sym, ap, subst, ◌∙◌}
use mathlib.Core.Logic.{◌≢◌, ◌⊎◌, inl, inr}
use mathlib.Core.Bool.{Bool, true, false, cond}
use mathlib.Core.List.{List, [], ◌∷◌, ◌++◌, append_assoc}
use Prim.Native.Nat.{ℕ, ◌*◌, ◌/◌, ◌≤◌, ◌<◌}
use native.Mathlib.Omega.{arith}
use borrow.Author.Tests.{lt-ltb, le-ltb, lt-leb, le-leb, ltb-false, eqb-true, eqb-false}
use lib.Dec.{eqb, leb, ltb}
use lib.ListN.{length, take, drop, replicate}
use lib.Seq.{length-take-le}
use Rattle.lists.proofs.Cases.{lt_or}
use Rattle.lists.proofs.Lent.{below_at, as_lent, as_new}
use Rattle.refusals.specs.Rows.{Row, first, proper}
use Rattle.refusals.specs.Causes.{room_rows}
use Rattle.refusals.proofs.Rows.{clear, stops, goes_on, front_clear, rest_clear}
use Rattle.refusals.proofs.Causes.{room_fits}
use Rattle.mesh.specs.Mesh.{most, Cells}
use Rattle.mesh.specs.Judged.{count_rows}
use Rattle.mesh.proofs.Unrefused.{names_fit}
use Rattle.words.specs.Words.{words_at}
use Rattle.components.specs.Parts.{Fits}
use Rattle.file_components.specs.Blocks.{points_in, cells_in}
use Rattle.file_components.specs.Parts.{Told}
use Rattle.file_components.specs.declared.Blocks.{Blocks}
use Rattle.file_steps.specs.Loaded.{done as read, loaded_by}
use Rattle.file_steps.specs.Reader.{content_rows, table_rows, number_rows, read_number, Reads}
use Rattle.file_steps.specs.Meshes.{Room}
use Rattle.file_steps.specs.declared.Loaded.{Loaded}
use Rattle.file_steps.specs.declared.LoadError.{LoadError}
use Rattle.file_steps.specs.declared.LoadError.TheVariants.{Refused, Short}
use Rattle.std.specs.Prelude.{Result, Err}
use Rattle.refusals.specs.Refusals.{as_number, as_refusal, named}
use Rattle.refusals.specs.declared.Refusal.{Refusal}
use Rattle.refusals.specs.declared.Refusal.TheVariants.{Numbers}
use Rattle.refusals.proofs.Refusals.{above_none}
use Rattle.file_steps.proofs.Numbers.{loaded_refused, lacks, first_lacks, lent_twice, new_twice}

-- ---- room

module _ (points cells work p n : ℕ) where
  pub rooms_proper : proper (table_rows points cells work p n) ≡ true
  unfolding proper table_rows room_rows
  rooms_proper = refl

  -- tables that are not refused have room
  pub roomy : first (table_rows points cells work p n) ≡ 0 → Room points cells work p n
  unfolding table_rows proper room_rows
  roomy z =
      let r = rest_clear (room_rows (points / 3) p) _ refl z in
      record {
        for_points = room_fits (points / 3) p (front_clear (room_rows (points / 3) p) _ z);
        for_cells = room_fits (cells / 4) n (front_clear (room_rows (cells / 4) n) _ r);
        for_work = room_fits work (2 * p) (rest_clear (room_rows (cells / 4) n) _ refl r);
      }

  pub points_room : first (table_rows points cells work p n) ≡ 0 → 3 * p ≤ points
  points_room z = omega (arith, (roomy z).for_points)

  pub cells_room : first (table_rows points cells work p n) ≡ 0 → 4 * n ≤ cells
  cells_room z = omega (arith, (roomy z).for_cells)

  pub work_room : first (table_rows points cells work p n) ≡ 0 → 2 * p ≤ work
  work_room z = (roomy z).for_work

  -- and tables that have room are not refused
  pub unrefused : Room points cells work p n → first (table_rows points cells work p n) ≡ 0
  unfolding table_rows first room_rows
  unrefused r = rw (le-ltb (points / 3) p r.for_points, le-ltb (cells / 4) n r.for_cells, le-ltb work (2 * p) r.for_work) refl

  -- the test of it, one table after the other
  pub no_points : points / 3 < p → false ≡ eqb (first (table_rows points cells work p n)) 0
  unfolding table_rows first room_rows
  no_points h = rw (lt-ltb (points / 3) p h) refl

  module _ (hp : p ≤ points / 3) where
    pub no_cells : cells / 4 < n → false ≡ eqb (first (table_rows points cells work p n)) 0
    unfolding table_rows first room_rows
    no_cells h = rw (le-ltb (points / 3) p hp, lt-ltb (cells / 4) n h) refl

    pub work_told : n ≤ cells / 4 → leb (2 * p) work ≡ eqb (first (table_rows points cells work p n)) 0
    unfolding table_rows first room_rows
    work_told h = go (lt_or work (2 * p))
      where
        go : (work < 2 * p) ⊎ (2 * p ≤ work) → leb (2 * p) work ≡ eqb (first (table_rows points cells work p n)) 0
        go (inl l) = rw (le-ltb (points / 3) p hp, le-ltb (cells / 4) n h, lt-ltb work (2 * p) l, lt-leb (2 * p) work l) refl
        go (inr l) = rw (le-ltb (points / 3) p hp, le-ltb (cells / 4) n h, le-ltb work (2 * p) l, le-leb (2 * p) work l) refl

  pub has : {r : Bool} → r ≡ eqb (first (table_rows points cells work p n)) 0 → r ≡ true → first (table_rows points cells work p n) ≡ 0
  has e h = eqb-true _ _ (sym e ∙ h)

  pub has_not : {r : Bool} → r ≡ eqb (first (table_rows points cells work p n)) 0 → r ≡ false → first (table_rows points cells work p n) ≢ 0
  has_not e h = eqb-false _ _ (sym e ∙ h)

  -- the only number of a refusal
  pub short_nine : first (table_rows points cells work p n) ≢ 0 → first (table_rows points cells work p n) ≡ 9
  unfolding table_rows first room_rows
  short_nine = go (ltb (points / 3) p) (ltb (cells / 4) n) (ltb work (2 * p))
    where
      number : Bool → Bool → Bool → ℕ
      number s t u = cond s 9 (cond t 9 (cond u 9 0))

      go : (s t u : Bool) → number s t u ≢ 0 → number s t u ≡ 9
      go true t u d = refl
      go false true u d = refl
      go false false true d = refl
      go false false false d = absurd (d refl)

-- ---- the mesh of a file

-- cells of a file that is not refused for its mesh
pub contents_fit : (b : List ℕ) (s : Blocks) → length (cells_in b s) ≡ 4 * s.n → first (content_rows b s) ≡ 0 → Cells (cells_in b s) s.p
unfolding content_rows proper count_rows
contents_fit b s long z =
    let c = clear (count_rows s.p s.n) refl (front_clear (count_rows s.p s.n) _ z) in
    record {
      whole = omega arith;
      few = omega (arith, ltb-false most s.n (c 1));
      small = ltb-false most s.p (c 0);
      names = below_at s.p (cells_in b s) (names_fit s.p (cells_in b s) (rest_clear (count_rows s.p s.n) _ refl z));
    }

-- the front of a work table with room that is lent on
pub work_fits : (b : List ℕ) (s : Blocks) (w : List ℕ) → 2 * s.p ≤ length w → Cells (cells_in b s) s.p → Fits (cells_in b s) (take (2 * s.p) w)
work_fits b s w h c =
    let half : length (take (2 * s.p) w) / 2 ≡ s.p = omega (arith, length-take-le (2 * s.p) w h) in
    record { cells = subst (Cells (cells_in b s)) (sym half) c; even = omega (arith, length-take-le (2 * s.p) w h) }

-- ---- the ways out

module _ (rows : List Row) (b : List ℕ) (s : Blocks) (x y w : List ℕ) where
  -- refused by the file alone
  pub refused : {why : Refusal} → named rows ≡ true → lacks 9 rows ≡ true → lacks 13 rows ≡ true → as_number why ≡ first rows → Reads rows b s x y w (Err (Refused why)) x y w
  refused {why} causes nine thirteen e =
      let r : ℕ = as_number why in
      let d : r ≢ 0 = above_none why in
      let k : read_number rows b s x y w ≡ r = sym (stops rows _ e d) in
      let d9 : r ≢ 9 = λ q. first_lacks 9 rows (omega arith) nine (sym e ∙ q) in
      let d13 : r ≢ 13 = λ q. first_lacks 13 rows (omega arith) thirteen (sym e ∙ q) in
      record {
        causes = causes;
        answer = rw k (sym (loaded_refused r s.p s.n why refl d9));
        points = rw k (sym (as_lent r _ x d));
        cells = rw k (sym (as_lent r _ y d));
        work = rw k (sym (lent_twice 13 r _ w d d13));
      }

  -- rows that give the number which others give, whatever follows
  shift : (more : List Row) → named rows ≡ true → ((T : List Row) → first (rows ++ T) ≡ first (more ++ T)) → {r : Result Loaded LoadError} {x' y' w' : List ℕ}
      → Reads more b s x y w r x' y' w' → Reads rows b s x y w r x' y' w'
  shift more causes h l =
      let k : read_number rows b s x y w ≡ read_number more b s x y w = h (table_rows (length x) (length y) (length w) s.p s.n ++ number_rows b s) in
      record { causes = causes; answer = rw k l.answer; points = rw k l.points; cells = rw k l.cells; work = rw k l.work }

  -- what follows where it is not refused by the file alone, or by the first rows
  pub after : proper rows ≡ true → named rows ≡ true → first rows ≡ 0 → {r : Result Loaded LoadError} {x' y' w' : List ℕ} → Reads [] b s x y w r x' y' w' → Reads rows b s x y w r x' y' w'
  after h causes z = shift [] causes (λ T. goes_on rows T h refl z)

pub behind : (rows more : List Row) (b : List ℕ) (s : Blocks) (x y w : List ℕ) → proper rows ≡ true → named (rows ++ more) ≡ true → first rows ≡ 0 → {r : Result Loaded LoadError} {x' y' w' : List ℕ}
    → Reads more b s x y w r x' y' w' → Reads (rows ++ more) b s x y w r x' y' w'
behind rows more b s x y w h causes z = shift (rows ++ more) b s x y w more causes (λ T. ap first (append_assoc rows more T) ∙ goes_on rows (more ++ T) h refl z)

module _ (b : List ℕ) (s : Blocks) (x y w : List ℕ) where
  pub short : first (table_rows (length x) (length y) (length w) s.p s.n) ≢ 0 → Reads [] b s x y w (Err (Short s.p s.n)) x y w
  unfolding loaded_by named
  short d =
      let q : first (table_rows (length x) (length y) (length w) s.p s.n) ≡ 9 = short_nine (length x) (length y) (length w) s.p s.n d in
      let k : read_number [] b s x y w ≡ 9 = sym (stops (table_rows (length x) (length y) (length w) s.p s.n) _ (sym q) (λ z. omega arith)) in
      record {
        causes = refl;
        answer = rw k refl;
        points = rw k (sym (as_lent 9 _ x (λ z. omega arith)));
        cells = rw k (sym (as_lent 9 _ y (λ z. omega arith)));
        work = rw k (sym (lent_twice 13 9 _ w (λ z. omega arith) (λ z. omega arith)));
      }

  module _ (z : first (table_rows (length x) (length y) (length w) s.p s.n) ≡ 0) where
    points_lent : length (take (3 * s.p) x) ≡ 3 * s.p
    points_lent = length-take-le (3 * s.p) x (points_room (length x) (length y) (length w) s.p s.n z)

    work_lent : length (take (2 * s.p) w) ≡ 2 * s.p
    work_lent = length-take-le (2 * s.p) w (work_room (length x) (length y) (length w) s.p s.n z)

    zeros : {w' : List ℕ} → w' ≡ replicate (length (take (2 * s.p) w)) 0 → w' ≡ replicate (2 * s.p) 0
    zeros e = e ∙ ap (λ (k : ℕ). replicate k 0) work_lent

    number : read_number [] b s x y w ≡ first (number_rows b s)
    number = goes_on (table_rows (length x) (length y) (length w) s.p s.n) (number_rows b s) (rooms_proper (length x) (length y) (length w) s.p s.n) refl z

    pub wrong : {w' : List ℕ} {r : Bool} → r ≡ false → Told b s (take (2 * s.p) w) w' r → Reads [] b s x y w (Err (Refused Numbers)) x y (w' ++ drop (2 * s.p) w)
    unfolding loaded_by as_refusal number_rows first named
    wrong f t =
        let k : read_number [] b s x y w ≡ 13 = number ∙ rw (sym t.right ∙ f) refl in
        record {
          causes = refl;
          answer = rw k refl;
          points = rw k (sym (as_lent 13 _ x (λ q. omega arith)));
          cells = rw k (sym (as_lent 13 _ y (λ q. omega arith)));
          work = rw (k, zeros t.zero) (sym (new_twice 13 13 _ w refl));
        }

    pub done : {x' y' w' : List ℕ} {r : Bool} → r ≡ true → Told b s (take (2 * s.p) w) w' r → x' ≡ words_at s.big b s.points (length (take (3 * s.p) x))
        → y' ≡ cells_in b s → Reads [] b s x y w (read s.p s.n) (x' ++ drop (3 * s.p) x) (y' ++ drop (4 * s.n) y) (w' ++ drop (2 * s.p) w)
    unfolding loaded_by number_rows first named
    done {x'} f t ex ey =
        let k : read_number [] b s x y w ≡ 0 = number ∙ rw (sym t.right ∙ f) refl in
        let px : x' ≡ points_in b s = ex ∙ ap (words_at s.big b s.points) points_lent in
        record {
          causes = refl;
          answer = rw k refl;
          points = rw (k, px) (sym (as_new [] _ x));
          cells = rw (k, ey) (sym (as_new [] _ y));
          work = rw (k, zeros t.zero) (sym (as_new (13 ∷ []) _ w));
        }
