-- How many cells and vertices the lattice has. Assumes nothing.
use mathlib.Core.Path.{◌≡◌, refl, sym, ap, ◌∙◌, fun_ext}
use mathlib.Core.Logic.{◌⊎◌, inl, inr}
use mathlib.Core.Bool.{Bool, true, false, cond, ◌&&◌}
use mathlib.Core.List.{List, [], ◌∷◌}
use Prim.Native.Nat.{ℕ, ◌+◌, ◌*◌, ◌-◌, ◌/◌, ◌≤◌, ◌<◌}
use native.Mathlib.Omega.{arith}
use borrow.Author.Tests.{lt-ltb, le-ltb}
use lib.Dec.{ltb}
use lib.ListN.{length, length-append}
use Rattle.lists.specs.Tests.{bit}
use Rattle.lists.specs.Runs.{sums}
use Rattle.lists.proofs.Cases.{lt_or}
use Rattle.lists.proofs.Running.{length_run, sum_same, sum_flat, sum_add, sum_before}
use Rattle.space.specs.Space.{Axis, ax, ay, az, Pos, pos}
use Rattle.lattice.specs.Lattice.{evens, odds, size, box_up, doubled, lattice_vertices, octahedron, axis_cells, centre_cells, lattice_cells}
use Rattle.lattice.proofs.Octahedra.{there, complete_is}

-- ---- the length of a box

length_box : {A : Type 0} (n : Pos) (f : Pos → List A)
    → length (box_up n f) ≡ sums (n az) (λ k. sums (n ay) (λ j. sums (n ax) (λ i. length (f (pos i j k))) 0) 0) 0
unfolding box_up
length_box n f =
    length_run (n az) _ 0
    ∙ ap (λ (g : ℕ → ℕ). sums (n az) g 0)
    (fun_ext (λ k. length_run (n ay) _ 0 ∙ ap (λ (g : ℕ → ℕ). sums (n ay) g 0) (fun_ext (λ j. length_run (n ax) (λ i. f (pos i j k)) 0))))

pub one_each : {A : Type 0} (n : Pos) (f : Pos → A) → length (box_up n (λ x. f x ∷ [])) ≡ size n
one_each n f =
    let row : sums (n ax) (λ i. 1) 0 ≡ n ax = sum_flat (n ax) 1 0 ∙ omega arith in
    let layer : sums (n ay) (λ j. n ax) 0 ≡ n ay * n ax = sum_flat (n ay) (n ax) 0 in
    length_box n (λ x. f x ∷ []) ∙ rw row (rw layer (sum_flat (n az) (n ay * n ax) 0 ∙ omega arith))

-- how many vertices
pub vertices_count : (d : Pos) → length (lattice_vertices d) ≡ size (evens d) + size (odds d)
unfolding lattice_vertices
vertices_count d =
    length-append (box_up (evens d) (λ x. doubled 0 x ∷ [])) (box_up (odds d) (λ x. doubled 1 x ∷ []))
    ∙ ap (λ (s : ℕ). s + length (box_up (odds d) (λ x. doubled 1 x ∷ []))) (one_each (evens d) (doubled 0)) ∙ ap (λ (s : ℕ). size (evens d) + s) (one_each (odds d) (doubled 1))

-- ---- the cells at a centre

axis_length : (d x : Pos) → ((k : Axis) → x k < odds d k) → (a : Axis) → length (axis_cells d (doubled 1 x) a) ≡ 4 * bit (there d x a)
unfolding axis_cells
axis_length d x h a = rw (complete_is d x h a) (go (there d x a))
  where
    go : (t : Bool) → length (cond t (octahedron a (doubled 1 x)) []) ≡ 4 * bit t
    go true = unfold octahedron in refl
    go false = refl

centre_length : (d x : Pos) → ((k : Axis) → x k < odds d k) → length (centre_cells d (doubled 1 x)) ≡ 4 * bit (there d x ax) + 4 * bit (there d x ay) + 4 * bit (there d x az)
unfolding centre_cells
centre_length d x h = simp length-append (omega (arith, axis_length d x h ax, axis_length d x h ay, axis_length d x h az))

-- ---- sums over the centres

unit_and : (s t : Bool) → bit (s && t) ≡ bit s * bit t
unit_and true t = omega arith
unit_and false t = omega arith

before_last : (i n : ℕ) → ltb (i + 1) n ≡ ltb i (n - 1)
before_last i n = go (lt_or (i + 1) n)
  where
    go : (i + 1 < n) ⊎ (n ≤ i + 1) → ltb (i + 1) n ≡ ltb i (n - 1)
    go (inl h) = lt-ltb (i + 1) n h ∙ sym (lt-ltb i (n - 1) (omega arith))
    go (inr h) = le-ltb (i + 1) n h ∙ sym (le-ltb i (n - 1) (omega arith))

up_to : (m n c : ℕ) → m ≤ n → sums n (λ j. bit (ltb j m) * c) 0 ≡ m * c
up_to m n c h = let e : m - 0 ≡ m = omega arith in sum_before m n c 0 (omega arith) ∙ rw e refl

three : (n p q r a b c : ℕ) → p ≤ n → q ≤ n → r ≤ n
    → sums n (λ j. bit (ltb j p) * a + bit (ltb j q) * b + bit (ltb j r) * c) 0 ≡ p * a + q * b + r * c
three n p q r a b c hp hq hr =
    sum_add n (λ j. bit (ltb j p) * a + bit (ltb j q) * b) (λ j. bit (ltb j r) * c) 0
    ∙ omega (
      arith,
      sum_add n (λ j. bit (ltb j p) * a) (λ j. bit (ltb j q) * b) 0,
      up_to p n a hp,
      up_to q n b hq,
      up_to r n c hr,
    )

module _ (d : Pos) where
  abbrev ox : ℕ
  ox = (d ax + 1) / 2

  abbrev oy : ℕ
  oy = (d ay + 1) / 2

  abbrev oz : ℕ
  oz = (d az + 1) / 2

  abbrev hx : ℕ
  hx = d ax / 2

  abbrev hy : ℕ
  hy = d ay / 2

  abbrev hz : ℕ
  hz = d az / 2

  at_centre : (i j k : ℕ) → i < ox → j < oy → k < oz → length (centre_cells d (doubled 1 (pos i j k)))
      ≡ bit (ltb i (ox - 1)) * (4 * (bit (ltb j hy) * bit (ltb k hz))) + bit (ltb i hx) * (4 * (bit (ltb j (oy - 1)) * bit (ltb k hz)))
      + bit (ltb i hx) * (4 * (bit (ltb j hy) * bit (ltb k (oz - 1))))
  at_centre i j k hi hj hk =
      centre_length d (pos i j k) inside
      ∙ rw (before_last i ox, before_last j oy, before_last k oz)
      (simp unit_and (omega arith))
    where
      inside : (a : Axis) → pos i j k a < odds d a
      inside ax = hi
      inside ay = hj
      inside az = hk

  row : (j k : ℕ) → j < oy → k < oz → sums ox (λ i. length (centre_cells d (doubled 1 (pos i j k)))) 0
      ≡ bit (ltb j hy) * ((ox - 1) * (4 * bit (ltb k hz))) + bit (ltb j (oy - 1)) * (hx * (4 * bit (ltb k hz))) + bit (ltb j hy) * (hx * (4 * bit (ltb k (oz - 1))))
  row j k hj hk =
      sum_same ox _ _ 0 (λ i a b. at_centre i j k (omega arith) hj hk)
      ∙ three ox (ox - 1) hx hx _ _ _ (omega arith) (omega arith) (omega arith)
      ∙ omega arith

  layer : (k : ℕ) → k < oz → sums oy (λ j. sums ox (λ i. length (centre_cells d (doubled 1 (pos i j k)))) 0) 0
      ≡ bit (ltb k hz) * (4 * ((ox - 1) * hy)) + bit (ltb k hz) * (4 * (hx * (oy - 1))) + bit (ltb k (oz - 1)) * (4 * (hx * hy))
  layer k hk =
      sum_same oy _ _ 0 (λ j a b. row j k (omega arith) hk)
      ∙ three oy hy (oy - 1) hy _ _ _ (omega arith) (omega arith) (omega arith)
      ∙ omega arith

  -- how many cells: four an octahedron
  pub cells_count : length (lattice_cells d)
      ≡ 4 * (((d ax + 1) / 2 - 1) * (d ay / 2) * (d az / 2) + d ax / 2 * ((d ay + 1) / 2 - 1) * (d az / 2) + d ax / 2 * (d ay / 2) * ((d az + 1) / 2 - 1))
  unfolding lattice_cells
  cells_count =
      length_box (odds d) (λ x. centre_cells d (doubled 1 x))
      ∙ sum_same oz _ _ 0 (λ k a b. layer k (omega arith))
      ∙ three oz hz hz (oz - 1) _ _ _ (omega arith) (omega arith) (omega arith)
      ∙ omega arith
