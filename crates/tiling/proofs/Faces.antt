-- What the cells of one leaf at one face add up to, by what stands beside it. Assumes nothing.
use mathlib.Core.Path.{◌≡◌, refl, ap, ◌∙◌}
use mathlib.Core.Bool.{Bool, true, false, cond, not}
use mathlib.Core.List.{List, [], ◌∷◌, ◌++◌}
use Prim.Native.Nat.{ℕ, zero, suc, ◌+◌, ◌*◌, ◌^◌, ◌≤◌}
use native.Mathlib.Omega.{arith}
use lib.ListN.{get_or, replicate}
use Rattle.space.specs.Space.{Axis, Pos, pos}
use Rattle.octants.specs.Oct.{width}
use Rattle.octree_cells.specs.Cells.{Cell, cell, Face, centre, middle, end, face, face_centre, turned, turns_to, over, fan, halves, Side, split, equal, coarser, border, cells_to}
use Rattle.octree_cells.proofs.Points.{Drawn, DrawnFace, small, by_axis, drawn_middle, drawn_centre, drawn_opposite, drawn_face}
use Rattle.face_cells.proofs.Link.{turns_at_most}
use Rattle.tiling.specs.Volume.{six_fold, sum_six}
use Rattle.tiling.proofs.Volume.{drawn_six}

pub six_append : (a b : List Cell) → sum_six (a ++ b) ≡ sum_six a + sum_six b
unfolding sum_six
six_append [] b = omega arith
six_append (c ∷ a) b = omega (arith, six_append a b)

-- ---- a cube of width 2 at 0, whose volumes are computed

-- over an edge from u to v with the midpoint r, between p and q: one cell, or two
abbrev over_edge : (p q u v r : Pos) → List ℕ
over_edge p q u v r = six_fold (cell p q u v) ∷ (six_fold (cell p q u r) + six_fold (cell p q r v)) ∷ []

-- over the four edges of its face on a side
abbrev over_face : Pos → Pos → Bool → List ℕ
over_face p q s =
    let f = small s in
    over_edge p q f.p0 f.p1 (pos (2 * end s) 1 0) ++ over_edge p q f.p1 f.p2 (pos (2 * end s) 2 1)
    ++ over_edge p q f.p2 f.p3 (pos (2 * end s) 1 2) ++ over_edge p q f.p3 f.p0 (pos (2 * end s) 0 1)

-- from the centre of the face to that of the cube, and between two cubes' centres
abbrev face_middle : Bool → Pos
face_middle s = pos (2 * end s) 1 1

to_face : (s : Bool) → over_face (face_middle s) (pos 1 1 1) s ≡ replicate 8 2
unfolding six_fold
to_face false = refl
to_face true = refl

across : over_face (pos 1 1 1) (pos 3 1 1) true ≡ replicate 8 4
unfolding six_fold
across = refl

-- two half-pyramids over a face, from whichever point it is walked
abbrev halved : Face → List ℕ
halved f = six_fold (cell (pos 1 1 1) f.p0 f.p1 f.p2) ∷ six_fold (cell (pos 1 1 1) f.p0 f.p2 f.p3) ∷ []

from_any : (s : Bool) (r : ℕ) → r ≤ 3 → halved (turned r (small s)) ≡ replicate 2 4
unfolding six_fold
from_any false zero h = refl
from_any false (suc zero) h = refl
from_any false (suc (suc zero)) h = refl
from_any false (suc (suc (suc zero))) h = refl
from_any false (suc (suc (suc (suc n)))) h = absurd (omega arith)
from_any true zero h = refl
from_any true (suc zero) h = refl
from_any true (suc (suc zero)) h = refl
from_any true (suc (suc (suc zero))) h = refl
from_any true (suc (suc (suc (suc n)))) h = absurd (omega arith)

-- ---- drawn h times as large

module _ (a : Axis) (i j k h : ℕ) where
  one_six : (c e : Cell) (n : ℕ)
      → Drawn a i j k h c.c0 e.c0 → Drawn a i j k h c.c1 e.c1 → Drawn a i j k h c.c2 e.c2 → Drawn a i j k h c.c3 e.c3
      → six_fold e ≡ n → six_fold c ≡ h * h * h * n
  one_six c e n d0 d1 d2 d3 g = drawn_six a i j k h c e d0 d1 d2 d3 ∙ ap (λ (t : ℕ). h * h * h * t) g

  over_six : (fine : Pos → Bool) (p q u v p₁ q₁ u₁ v₁ r₁ : Pos) (n : ℕ) → six_fold (cell p₁ q₁ u₁ v₁) ≡ n → six_fold (cell p₁ q₁ u₁ r₁) + six_fold (cell p₁ q₁ r₁ v₁) ≡ n
      → ((b : Axis) → u₁ b + v₁ b ≡ 2 * r₁ b) → Drawn a i j k h p p₁ → Drawn a i j k h q q₁ → Drawn a i j k h u u₁ → Drawn a i j k h v v₁
      → sum_six (over fine p q u v) ≡ h * h * h * n
  unfolding over sum_six
  over_six fine p q u v p₁ q₁ u₁ v₁ r₁ n one both half dp dq du dv = go (fine (middle u v))
    where
      dr : Drawn a i j k h (middle u v) r₁
      dr = drawn_middle a i j k h u v u₁ v₁ r₁ du dv half

      go : (b : Bool) → sum_six (cond b (cell p q u (middle u v) ∷ cell p q (middle u v) v ∷ []) (cell p q u v ∷ [])) ≡ h * h * h * n
      go true =
          let f = drawn_six a i j k h (cell p q u (middle u v)) (cell p₁ q₁ u₁ r₁) dp dq du dr in
          let g = drawn_six a i j k h (cell p q (middle u v) v) (cell p₁ q₁ r₁ v₁) dp dq dr dv in
          omega (arith, ap (λ (t : ℕ). h * h * h * t) both)
      go false = omega (arith, one_six (cell p q u v) (cell p₁ q₁ u₁ v₁) n dp dq du dv one)

  fan_six : (fine : Pos → Bool) (p q p₁ q₁ : Pos) (f : Face) (s : Bool) (n : ℕ) → over_face p₁ q₁ s ≡ replicate 8 n
      → Drawn a i j k h p p₁ → Drawn a i j k h q q₁ → DrawnFace a i j k h f (small s) → sum_six (fan fine p q f) ≡ 4 * (h * h * h * n)
  unfolding fan
  fan_six fine p q p₁ q₁ f s n e dp dq df =
      let o0 = over_six fine p q f.p0 f.p1 p₁ q₁ _ _ (pos (2 * end s) 1 0) n (nth 0) (nth 1) (by_axis _ _ _ (omega arith) refl refl) dp dq df.d0 df.d1 in
      let o1 = over_six fine p q f.p1 f.p2 p₁ q₁ _ _ (pos (2 * end s) 2 1) n (nth 2) (nth 3) (by_axis _ _ _ (omega arith) refl refl) dp dq df.d1 df.d2 in
      let o2 = over_six fine p q f.p2 f.p3 p₁ q₁ _ _ (pos (2 * end s) 1 2) n (nth 4) (nth 5) (by_axis _ _ _ (omega arith) refl refl) dp dq df.d2 df.d3 in
      let o3 = over_six fine p q f.p3 f.p0 p₁ q₁ _ _ (pos (2 * end s) 0 1) n (nth 6) (nth 7) (by_axis _ _ _ (omega arith) refl refl) dp dq df.d3 df.d0 in
      simp six_append (omega arith)
    where
      nth : (m : ℕ) → get_or (over_face p₁ q₁ s) m 0 ≡ get_or (replicate 8 n) m 0
      nth m = ap (λ (l : List ℕ). get_or l m 0) e

  halves_six : (c : Pos) (f g : Face) → halved g ≡ replicate 2 4 → Drawn a i j k h c (pos 1 1 1) → DrawnFace a i j k h f g → sum_six (halves c f) ≡ 8 * (h * h * h)
  unfolding halves sum_six
  halves_six c f g e dc df =
      omega (
        arith,
        one_six (cell c f.p0 f.p1 f.p2) (cell (pos 1 1 1) g.p0 g.p1 g.p2) 4 dc df.d0 df.d1 df.d2 (ap (λ (l : List ℕ). get_or l 0 0) e),
        one_six (cell c f.p0 f.p2 f.p3) (cell (pos 1 1 1) g.p0 g.p2 g.p3) 4 dc df.d0 df.d2 df.d3 (ap (λ (l : List ℕ). get_or l 1 0) e),
      )

  drawn_turned : (r : ℕ) (f g : Face) → DrawnFace a i j k h f g → DrawnFace a i j k h (turned r f) (turned r g)
  drawn_turned zero f g d = d
  drawn_turned (suc r) f g d = drawn_turned r _ _ (record { d0 = d.d1; d1 = d.d2; d2 = d.d3; d3 = d.d0 })

-- ---- a face of a leaf

abbrev pub cube : ℕ → ℕ
cube n = n * n * n

-- how many cubes of its own width the cells at a face make up, in six-fold volume
abbrev pub share : Bool → Side → ℕ
share s split = 1
share false equal = 0
share true equal = 2
share s (coarser n z) = 1
share s border = 1

module _ (fine : Pos → Bool) (m : ℕ) (x : Pos) (a : Axis) where
  split_six : (s : Bool) → sum_six (fan fine (face_centre (face m x a s)) (centre m x) (face m x a s)) ≡ cube (width m)
  split_six s =
      fan_six a _ _ _ (2 ^ m) fine _ _ (face_middle s) (pos 1 1 1) (face m x a s) s 2 (to_face s)
      (drawn_middle a _ _ _ (2 ^ m) _ _ _ _ (face_middle s) (drawn_face a m x s).d0 (drawn_face a m x s).d2 (by_axis _ _ _ (omega arith) refl refl)) (drawn_centre a m x) (drawn_face a m x s)
      ∙ omega arith

  halves_at : (s : Bool) (r : ℕ) → r ≤ 3 → sum_six (halves (centre m x) (turned r (face m x a s))) ≡ 1 * cube (width m)
  halves_at s r h =
      halves_six a _ _ _ (2 ^ m) (centre m x) (turned r (face m x a s)) (turned r (small s)) (from_any s r h)
      (drawn_centre a m x) (drawn_turned a _ _ _ (2 ^ m) r _ _ (drawn_face a m x s))
      ∙ omega arith

  pub cells_six : (s : Bool) (b : Side) → sum_six (cells_to fine m x a s b) ≡ share s b * cube (width m)
  unfolding cells_to sum_six
  cells_six s split = split_six s ∙ omega arith
  cells_six false equal = omega arith
  cells_six true equal =
      fan_six a _ _ _ (2 ^ m) fine _ _ (pos 1 1 1) (pos 3 1 1) (face m x a true) true 4 across (drawn_centre a m x) (drawn_opposite a m x) (drawn_face a m x true)
      ∙ omega arith
  cells_six s (coarser n z) = halves_at s (turns_to (face_centre (face n z a (not s))) (face m x a s)) (turns_at_most (face_centre (face n z a (not s))) (face m x a s))
  cells_six s border = halves_at s 0 (omega arith)
