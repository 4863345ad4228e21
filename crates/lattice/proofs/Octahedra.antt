-- The octahedra of the lattice by the numbers of their vertices. Assumes nothing.
use mathlib.Core.Path.{◌≡◌, refl, sym, ap, ◌∙◌, fun_ext}
use mathlib.Core.Logic.{◌⊎◌, inl, inr}
use mathlib.Core.Bool.{Bool, true, false, cond, ◌&&◌, and-false}
use mathlib.Core.List.{[]}
use Prim.Native.Nat.{ℕ, ◌+◌, ◌*◌, ◌-◌, ◌/◌, ◌%◌, ◌≤◌, ◌<◌}
use native.Mathlib.Omega.{arith}
use borrow.Author.Tests.{eq-eqb, ne_eqb, lt-ltb, le-ltb, le-leb, lt-leb}
use lib.Dec.{leb, ltb}
use Rattle.lists.proofs.Cases.{lt_or}
use Rattle.space.specs.Space.{Axis, ax, ay, az, Pos, frame, next}
use Rattle.space.proofs.Space.{frame_all, frame_eta}
use Rattle.lattice.specs.declared.Octa.{Octa}
use Rattle.octree_cells.specs.Cells.{flat}
use Rattle.lattice.specs.Parts.{octa_numbers, step}
use Rattle.lattice.specs.Lattice.{evens, odds, size, doubled, slot, index_of, in_range, opposite, corner0, corner1, corner2, corner3, complete, octahedron, axis_cells}

-- ---- the number of a vertex

pub even_index : (d y p : Pos) → ((a : Axis) → p a ≡ 2 * y a) → index_of d p ≡ slot (evens d) y
unfolding index_of
even_index d y p h =
    let half : (λ a. p a / 2) ≡ y = fun_ext (λ a. omega (arith, h a)) in
    rw (eq-eqb (p ax % 2) 0 (omega (arith, h ax))) (ap (slot (evens d)) half)

pub odd_index : (d y p : Pos) → ((a : Axis) → p a ≡ 2 * y a + 1) → index_of d p ≡ size (evens d) + slot (odds d) y
unfolding index_of
odd_index d y p h =
    let half : (λ a. p a / 2) ≡ y = fun_ext (λ a. omega (arith, h a)) in
    rw (ne_eqb (p ax % 2) 0 (λ e. omega (arith, h ax))) (ap (λ (q : Pos). size (evens d) + slot (odds d) q) half)

-- what steps along the axes add
slot_frame : (n x : Pos) (a : Axis) (i j k : ℕ)
    → slot n (frame a (x a + i) (x (next a) + j) (x (next (next a)) + k)) ≡ slot n x + i * step n a + j * step n (next a) + k * step n (next (next a))
slot_frame n x ax i j k = omega arith
slot_frame n x ay i j k = omega arith
slot_frame n x az i j k = omega arith

-- an octahedron by the numbers of its vertices
abbrev octa_at : Pos → Pos → Axis → Octa
octa_at d x a = record {
  centre = size (evens d) + slot (odds d) x;
  opposite = size (evens d) + slot (odds d) x + step (odds d) a;
  low = slot (evens d) x + step (evens d) a;
  u = step (evens d) (next a);
  v = step (evens d) (next (next a));
}

module _ (d x : Pos) (a : Axis) where
  abbrev u : Axis
  u = next a

  abbrev v : Axis
  v = next (next a)

  even_at : (p q r i j k : ℕ) → p ≡ 2 * (x a + i) → q ≡ 2 * (x (next a) + j) → r ≡ 2 * (x (next (next a)) + k)
      → index_of d (frame a p q r) ≡ slot (evens d) x + i * step (evens d) a + j * step (evens d) (next a) + k * step (evens d) (next (next a))
  even_at p q r i j k e f g =
      even_index d (frame a (x a + i) (x u + j) (x v + k)) (frame a p q r) (frame_all (λ m n. m ≡ 2 * n) a p q r _ _ _ e f g)
      ∙ slot_frame (evens d) x a i j k

  odd_at : (p q r i j k : ℕ) → p ≡ 2 * (x a + i) + 1 → q ≡ 2 * (x (next a) + j) + 1 → r ≡ 2 * (x (next (next a)) + k) + 1
      → index_of d (frame a p q r) ≡ size (evens d) + (slot (odds d) x + i * step (odds d) a + j * step (odds d) (next a) + k * step (odds d) (next (next a)))
  odd_at p q r i j k e f g =
      odd_index d (frame a (x a + i) (x u + j) (x v + k)) (frame a p q r) (frame_all (λ m n. m ≡ 2 * n + 1) a p q r _ _ _ e f g)
      ∙ ap (λ (s : ℕ). size (evens d) + s) (slot_frame (odds d) x a i j k)

  abbrev low : ℕ
  low = slot (evens d) x + step (evens d) a

  abbrev middle : ℕ
  middle = size (evens d) + slot (odds d) x

  -- the sixteen numbers of an octahedron
  pub octahedron_numbers : flat (index_of d) (octahedron a (doubled 1 x))
      ≡ octa_numbers true (octa_at d x a)
  unfolding flat octahedron octa_numbers
  octahedron_numbers =
      let ec : index_of d (doubled 1 x) ≡ middle = odd_index d x (doubled 1 x) (λ k. refl) in
      let fo = odd_at (2 * x a + 1 + 2) (2 * x u + 1) (2 * x v + 1) 1 0 0 (omega arith) (omega arith) (omega arith) in
      let eo : index_of d (opposite a (doubled 1 x)) ≡ middle + step (odds d) a = omega (arith, fo) in
      let f0 = even_at (2 * x a + 1 + 1) (2 * x u + 1 + 1) (2 * x v + 1 + 1) 1 1 1 (omega arith) (omega arith) (omega arith) in
      let e0 : index_of d (corner0 a (doubled 1 x)) ≡ low + step (evens d) u + step (evens d) v = omega (arith, f0) in
      let f1 = even_at (2 * x a + 1 + 1) (2 * x u + 1 - 1) (2 * x v + 1 + 1) 1 0 1 (omega arith) (omega arith) (omega arith) in
      let e1 : index_of d (corner1 a (doubled 1 x)) ≡ low + step (evens d) v = omega (arith, f1) in
      let f2 = even_at (2 * x a + 1 + 1) (2 * x u + 1 - 1) (2 * x v + 1 - 1) 1 0 0 (omega arith) (omega arith) (omega arith) in
      let e2 : index_of d (corner2 a (doubled 1 x)) ≡ low = omega (arith, f2) in
      let f3 = even_at (2 * x a + 1 + 1) (2 * x u + 1 + 1) (2 * x v + 1 - 1) 1 1 0 (omega arith) (omega arith) (omega arith) in
      let e3 : index_of d (corner3 a (doubled 1 x)) ≡ low + step (evens d) u = omega (arith, f3) in
      cc

-- ---- which octahedra are there

in_true : (d p : Pos) → ((k : Axis) → p k ≤ d k) → in_range d p ≡ true
unfolding in_range
in_true d p h = rw (le-leb (p ax) (d ax) (h ax), le-leb (p ay) (d ay) (h ay), le-leb (p az) (d az) (h az)) refl

in_false : (d p : Pos) (k : Axis) → d k < p k → in_range d p ≡ false
unfolding in_range
in_false d p ax h = rw (lt-leb (p ax) (d ax) h) refl
in_false d p ay h = rw (lt-leb (p ay) (d ay) h) (and-false (leb (p ax) (d ax)))
in_false d p az h = rw (lt-leb (p az) (d az) h, and-false (leb (p ay) (d ay))) (and-false (leb (p ax) (d ax)))

frame_first : (a : Axis) (p q r : ℕ) → frame a p q r a ≡ p
frame_first ax p q r = refl
frame_first ay p q r = refl
frame_first az p q r = refl

frame_next : (a : Axis) (p q r : ℕ) → frame a p q r (next a) ≡ q
frame_next ax p q r = refl
frame_next ay p q r = refl
frame_next az p q r = refl

frame_last : (a : Axis) (p q r : ℕ) → frame a p q r (next (next a)) ≡ r
frame_last ax p q r = refl
frame_last ay p q r = refl
frame_last az p q r = refl

-- there is a centre further on along a, and the corners on the far sides are there
abbrev pub there : Pos → Pos → Axis → Bool
there d x a = ltb (x a + 1) (odds d a) && (ltb (x (next a)) (d (next a) / 2) && ltb (x (next (next a))) (d (next (next a)) / 2))

-- exactly then an octahedron is complete
module _ (d x : Pos) (h : (k : Axis) → x k < odds d k) (a : Axis) where
  range : (p q r : ℕ) → p ≤ d a → q ≤ d (next a) → r ≤ d (next (next a)) → in_range d (frame a p q r) ≡ true
  range p q r e f g =
      in_true d (frame a p q r) (λ k. omega (arith, frame_all ◌≤◌ a p q r _ _ _ e f g k, ap (λ (y : Pos). y k) (frame_eta a d)))

  pub complete_is : complete d a (doubled 1 x) ≡ there d x a
  unfolding complete
  complete_is = go (lt_or (x a + 1) (odds d a)) (lt_or (x (next a)) (d (next a) / 2)) (lt_or (x (next (next a))) (d (next (next a)) / 2))
    where
      go : (x a + 1 < odds d a) ⊎ (odds d a ≤ x a + 1) → (x (next a) < d (next a) / 2) ⊎ (d (next a) / 2 ≤ x (next a))
          → (x (next (next a)) < d (next (next a)) / 2) ⊎ (d (next (next a)) / 2 ≤ x (next (next a)))
          → in_range d (opposite a (doubled 1 x))
          && (in_range d (corner0 a (doubled 1 x)) && (in_range d (corner1 a (doubled 1 x)) && (in_range d (corner2 a (doubled 1 x)) && in_range d (corner3 a (doubled 1 x)))))
          ≡ there d x a
      go (inl p) (inl q) (inl r) =
          rw (
            range (2 * x a + 1 + 2) (2 * x (next a) + 1) (2 * x (next (next a)) + 1) (omega arith) (omega arith) (omega arith),
            range (2 * x a + 1 + 1) (2 * x (next a) + 1 + 1) (2 * x (next (next a)) + 1 + 1) (omega arith) (omega arith) (omega arith),
            range (2 * x a + 1 + 1) (2 * x (next a) + 1 - 1) (2 * x (next (next a)) + 1 + 1) (omega arith) (omega arith) (omega arith),
            range (2 * x a + 1 + 1) (2 * x (next a) + 1 - 1) (2 * x (next (next a)) + 1 - 1) (omega arith) (omega arith) (omega arith),
            range (2 * x a + 1 + 1) (2 * x (next a) + 1 + 1) (2 * x (next (next a)) + 1 - 1) (omega arith) (omega arith) (omega arith),
            lt-ltb (x a + 1) (odds d a) p,
            lt-ltb (x (next a)) (d (next a) / 2) q,
            lt-ltb (x (next (next a))) (d (next (next a)) / 2) r,
          )
          refl
      go (inr p) q r =
          rw (in_false d (opposite a (doubled 1 x)) a (omega (arith, frame_first a (2 * x a + 1 + 2) (2 * x (next a) + 1) (2 * x (next (next a)) + 1))), le-ltb (x a + 1) (odds d a) p) refl
      go (inl p) (inr q) r =
          rw (in_false d (corner0 a (doubled 1 x)) (next a) (omega (arith, frame_next a (2 * x a + 1 + 1) (2 * x (next a) + 1 + 1) (2 * x (next (next a)) + 1 + 1))), le-ltb (x (next a)) (d (next a) / 2) q)
          (and-false (in_range d (opposite a (doubled 1 x))) ∙ sym (and-false (ltb (x a + 1) (odds d a))))
      go (inl p) (inl q) (inr r) =
          rw (in_false d (corner0 a (doubled 1 x)) (next (next a)) (omega (arith, frame_last a (2 * x a + 1 + 1) (2 * x (next a) + 1 + 1) (2 * x (next (next a)) + 1 + 1))), le-ltb (x (next (next a))) (d (next (next a)) / 2) r, and-false (ltb (x (next a)) (d (next a) / 2)))
          (and-false (in_range d (opposite a (doubled 1 x))) ∙ sym (and-false (ltb (x a + 1) (odds d a))))

  -- the numbers at one axis
  pub axis_numbers : flat (index_of d) (axis_cells d (doubled 1 x) a)
      ≡ octa_numbers (there d x a) (octa_at d x a)
  unfolding axis_cells
  axis_numbers = rw complete_is (go (there d x a))
    where
      go : (s : Bool) → flat (index_of d) (cond s (octahedron a (doubled 1 x)) [])
          ≡ octa_numbers s (octa_at d x a)
      go true = octahedron_numbers d x a
      go false = unfold flat in unfold octa_numbers in refl
