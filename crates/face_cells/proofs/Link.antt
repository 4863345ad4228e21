-- The numbers that are stored for a leaf are those of its cells' vertices. Assumes nothing.
use mathlib.Core.Path.{◌≡◌, refl, ap, ap₂, ◌∙◌}
use mathlib.Core.Bool.{Bool, true, false, cond, not}
use mathlib.Core.List.{List, [], ◌∷◌, ◌++◌, append_assoc}
use Prim.Native.Nat.{ℕ, zero, suc, ◌+◌, ◌*◌, ◌^◌, ◌≤◌}
use native.Mathlib.Omega.{arith}
use Rattle.space.specs.Space.{Axis, ax, ay, az, Pos, pos, next}
use Rattle.octants.specs.Oct.{width, Closed}
use Rattle.octants.specs.Table.{read}
use Rattle.octree_cells.specs.Cells.{Cell, cell, Face, face, face_centre, centre, middle, beside, end, turned, turns_to, same, over, fan, halves, cells_to, Side, split, equal, coarser, border, side, finer, face_cells, axis_cells, leaf_cells, flat}
use Rattle.octree_cells.proofs.Flat.{flat_append}
use Rattle.octree_cells.proofs.Points.{Here, drawn_centre, drawn_opposite, drawn_face, drawn_middle, small, by_axis, DrawnFace}
use Rattle.octree_cells.specs.Leaf.{IsLeaf}
use Rattle.vertex_keys.specs.Keys.{key_of, stride}
use Rattle.sides.specs.Parts.{told, beside_at, sides_at}
use Rattle.sides.proofs.Ties.{AllFine, split_fine}
use Rattle.face_cells.specs.declared.Quad.{Quad}
use Rattle.face_cells.specs.declared.Edge.{Edge}
use Rattle.sides.specs.declared.Edges.{Edges}
use Rattle.face_cells.specs.Parts.{over_numbers, edge0, edge1, edge2, edge3, fan_numbers, all_fine, halves_numbers, turned_numbers, face_numbers, axis_numbers, corners_at, axis_keyed, leaf_numbers, Turns, AllTurn}

-- ---- the vertices of cells under a naming

module _ (f : Pos → ℕ) (number : ℕ → ℕ) where
  flat_over : (fine : Pos → Bool) (p q a b : Pos) (t : Bool) (e : Edge)
      → fine (middle a b) ≡ t → f p ≡ e.p → f q ≡ e.q → f a ≡ e.a → f (middle a b) ≡ number e.m → f b ≡ e.b
      → flat f (over fine p q a b) ≡ over_numbers number t e
  unfolding flat over over_numbers
  flat_over fine p q a b t e et ep eq ea em eb =
      ap (λ (c : Bool). flat f (cond c (cell p q a (middle a b) ∷ cell p q (middle a b) b ∷ []) (cell p q a b ∷ []))) et ∙ go t
    where
      go : (c : Bool) → flat f (cond c (cell p q a (middle a b) ∷ cell p q (middle a b) b ∷ []) (cell p q a b ∷ []))
          ≡ cond c (e.p ∷ e.q ∷ e.a ∷ number e.m ∷ e.p ∷ e.q ∷ number e.m ∷ e.b ∷ []) (e.p ∷ e.q ∷ e.a ∷ e.b ∷ [])
      go true = cc
      go false = cc

  four_lists : {a b c d a' b' c' d' : List ℕ} → a ≡ a' → b ≡ b' → c ≡ c' → d ≡ d' → a ++ b ++ c ++ d ≡ a' ++ (b' ++ (c' ++ d'))
  four_lists {a} {b} {c} {d} {a'} {b'} {c'} {d'} e0 e1 e2 e3 =
      rw (e0, e1, e2, e3) (append_assoc (a' ++ b') c' d' ∙ append_assoc a' b' (c' ++ d'))

  -- four edges, with the numbers of the corners and the keys of the midpoints
  flat_fan : (fine : Pos → Bool) (p q : Pos) (g : Face) (t : Edges) (p' q' : ℕ) (h : Quad)
      → fine (middle g.p0 g.p1) ≡ t.e0 → fine (middle g.p1 g.p2) ≡ t.e1 → fine (middle g.p2 g.p3) ≡ t.e2 → fine (middle g.p3 g.p0) ≡ t.e3
      → f p ≡ p' → f q ≡ q' → f g.p0 ≡ h.p0 → f g.p1 ≡ h.p1 → f g.p2 ≡ h.p2 → f g.p3 ≡ h.p3
      → f (middle g.p0 g.p1) ≡ number (h.k + h.v) → f (middle g.p1 g.p2) ≡ number (h.k + 2 * h.v + h.w)
      → f (middle g.p2 g.p3) ≡ number (h.k + 2 * h.w + h.v) → f (middle g.p3 g.p0) ≡ number (h.k + h.w)
      → flat f (fan fine p q g) ≡ fan_numbers number p' q' h t
  unfolding fan fan_numbers
  flat_fan fine p q g t p' q' h s0 s1 s2 s3 ep eq e0 e1 e2 e3 m0 m1 m2 m3 =
      simp (flat_append f)
      (four_lists
      (flat_over fine p q g.p0 g.p1 t.e0 (edge0 p' q' h) s0 ep eq e0 m0 e1)
      (flat_over fine p q g.p1 g.p2 t.e1 (edge1 p' q' h) s1 ep eq e1 m1 e2)
      (flat_over fine p q g.p2 g.p3 t.e2 (edge2 p' q' h) s2 ep eq e2 m2 e3)
      (flat_over fine p q g.p3 g.p0 t.e3 (edge3 p' q' h) s3 ep eq e3 m3 e0))

  flat_halves : (c : Pos) (g : Face) (c' p q r s : ℕ) → f c ≡ c' → f g.p0 ≡ p → f g.p1 ≡ q → f g.p2 ≡ r → f g.p3 ≡ s
      → flat f (halves c g) ≡ halves_numbers c' p q r s
  unfolding flat halves halves_numbers
  flat_halves c g c' p q r s e e0 e1 e2 e3 = cc

  flat_turned : (c : Pos) (n : ℕ) (g : Face) (c' p q r s : ℕ) → f c ≡ c' → f g.p0 ≡ p → f g.p1 ≡ q → f g.p2 ≡ r → f g.p3 ≡ s
      → flat f (halves c (turned n g)) ≡ turned_numbers n c' p q r s
  unfolding turned_numbers
  flat_turned c zero g c' p q r s e e0 e1 e2 e3 = flat_halves c g c' p q r s e e0 e1 e2 e3
  flat_turned c (suc n) g c' p q r s e e0 e1 e2 e3 = flat_turned c n _ c' q r s p e e1 e2 e3 e0

-- ---- the keys of an octant's points

key_turn : (a : Axis) (p : Pos) → key_of p ≡ p a * stride a + p (next a) * stride (next a) + p (next (next a)) * stride (next (next a))
unfolding key_of
key_turn ax p = omega arith
key_turn ay p = omega arith
key_turn az p = omega arith

-- at a place of the small cube
abbrev spot : (k u v w : ℕ) → Pos → ℕ
spot k u v w q = k + q ax * u + q ay * v + q az * w

drawn_sum : (i j k h x y z s t r a b c : ℕ) → a ≡ i + x * h → b ≡ j + y * h → c ≡ k + z * h
    → a * s + b * t + c * r ≡ (i * s + j * t + k * r) + x * (h * s) + y * (h * t) + z * (h * r)
drawn_sum i j k h x y z s t r a b c e f g = rw (e, f, g) (omega arith)

-- the low corner, and half the width along each axis
abbrev pub low_key : ℕ → Pos → Axis → ℕ
low_key m x a = x a * width m * stride a + x (next a) * width m * stride (next a) + x (next (next a)) * width m * stride (next (next a))

abbrev pub half : ℕ → Axis → ℕ
half m a = 2 ^ m * stride a

-- from the low corner of the face
abbrev from_key : ℕ → Pos → Axis → Bool → ℕ
from_key m x a false = low_key m x a
from_key m x a true = low_key m x a + 2 * half m a

module _ (m : ℕ) (x : Pos) (a : Axis) where
  abbrev u : ℕ
  u = half m a

  abbrev v : ℕ
  v = half m (next a)

  abbrev w : ℕ
  w = half m (next (next a))

  pub key_of_lem : (p q : Pos) → Here a m x p q → key_of p ≡ spot (low_key m x a) u v w q
  key_of_lem p q d =
      key_turn a p
      ∙ drawn_sum _ _ _ (2 ^ m) (q ax) (q ay) (q az) (stride a) (stride (next a)) (stride (next (next a))) _ _ _ d.on0 d.on1 d.on2

  record FacePoints (s : Bool) (k : ℕ) : Type 0 where
    k0 : key_of (face m x a s).p0 ≡ k
    k1 : key_of (face m x a s).p1 ≡ k + 2 * v
    k2 : key_of (face m x a s).p2 ≡ k + 2 * v + 2 * w
    k3 : key_of (face m x a s).p3 ≡ k + 2 * w
    n0 : key_of (middle (face m x a s).p0 (face m x a s).p1) ≡ k + v
    n1 : key_of (middle (face m x a s).p1 (face m x a s).p2) ≡ k + 2 * v + w
    n2 : key_of (middle (face m x a s).p2 (face m x a s).p3) ≡ k + 2 * w + v
    n3 : key_of (middle (face m x a s).p3 (face m x a s).p0) ≡ k + w
    mid : key_of (face_centre (face m x a s)) ≡ k + v + w

  face_points : (s : Bool) → FacePoints s (from_key m x a s)
  face_points s = record {
    k0 = key_of_lem _ _ d.d0 ∙ go s 0 0 ∙ omega arith;
    k1 = key_of_lem _ _ d.d1 ∙ go s 2 0 ∙ omega arith;
    k2 = key_of_lem _ _ d.d2 ∙ go s 2 2 ∙ omega arith;
    k3 = key_of_lem _ _ d.d3 ∙ go s 0 2 ∙ omega arith;
    n0 = key_of_lem _ _ (drawn_middle a _ _ _ (2 ^ m) _ _ _ _ (pos (2 * end s) 1 0) d.d0 d.d1 (by_axis _ _ _ (omega arith) refl refl)) ∙ go s 1 0 ∙ omega arith;
    n1 = key_of_lem _ _ (drawn_middle a _ _ _ (2 ^ m) _ _ _ _ (pos (2 * end s) 2 1) d.d1 d.d2 (by_axis _ _ _ (omega arith) refl refl)) ∙ go s 2 1 ∙ omega arith;
    n2 = key_of_lem _ _ (drawn_middle a _ _ _ (2 ^ m) _ _ _ _ (pos (2 * end s) 1 2) d.d2 d.d3 (by_axis _ _ _ (omega arith) refl refl)) ∙ go s 1 2 ∙ omega arith;
    n3 = key_of_lem _ _ (drawn_middle a _ _ _ (2 ^ m) _ _ _ _ (pos (2 * end s) 0 1) d.d3 d.d0 (by_axis _ _ _ (omega arith) refl refl)) ∙ go s 0 1 ∙ omega arith;
    mid = key_of_lem _ _ (drawn_middle a _ _ _ (2 ^ m) _ _ _ _ (pos (2 * end s) 1 1) d.d0 d.d2 (by_axis _ _ _ (omega arith) refl refl)) ∙ go s 1 1 ∙ omega arith;
  }
    where
      d : DrawnFace a (x a * width m) (x (next a) * width m) (x (next (next a)) * width m) (2 ^ m) (face m x a s) (small s)
      d = drawn_face a m x s

      go : (s : Bool) (f g : ℕ) → spot (low_key m x a) u v w (pos (2 * end s) f g) ≡ from_key m x a s + f * v + g * w
      go false f g = omega arith
      go true f g = omega arith

  pub key_centre : key_of (centre m x) ≡ low_key m x a + u + v + w
  key_centre = key_of_lem _ _ (drawn_centre a m x) ∙ omega arith

  key_opposite : key_of (centre m (beside a true x)) ≡ from_key m x a true + u + v + w
  key_opposite = key_of_lem _ _ (drawn_opposite a m x) ∙ omega arith

  -- the list that is stored at a face is that of the definition's cells
  module _ (fine : Pos → Bool) (number : ℕ → ℕ) where
    abbrev f : Pos → ℕ
    f p = number (key_of p)

    -- the face in numbers, its low corner at the key k
    abbrev quad_at : ℕ → Quad
    quad_at k = record { p0 = number k; p1 = number (k + 2 * v); p2 = number (k + 2 * v + 2 * w); p3 = number (k + 2 * w); k = k; u = u; v = v; w = w }

    face_link : (s : Bool) (b : Side) → (b ≡ split → AllFine fine (face m x a s))
        → flat f (cells_to fine m x a s b)
        ≡ face_numbers number (told fine m x a s b) (number (low_key m x a + u + v + w)) (quad_at (from_key m x a s))
    unfolding cells_to face_numbers flat
    face_link s split h =
        let g = face_points s in
        let t = h refl in
        flat_fan f number fine (face_centre (face m x a s)) (centre m x) (face m x a s) all_fine _ _ (quad_at (from_key m x a s))
        t.e0 t.e1 t.e2 t.e3 (ap number g.mid) (ap number key_centre) (ap number g.k0) (ap number g.k1) (ap number g.k2) (ap number g.k3)
        (ap number g.n0) (ap number g.n1) (ap number g.n2) (ap number g.n3)
    face_link false equal h = refl
    face_link true equal h =
        let g = face_points true in
        flat_fan f number fine (centre m x) (centre m (beside a true x)) (face m x a true) _ _ _ (quad_at (from_key m x a true))
        refl refl refl refl (ap number key_centre) (ap number key_opposite) (ap number g.k0) (ap number g.k1) (ap number g.k2) (ap number g.k3)
        (ap number g.n0) (ap number g.n1) (ap number g.n2) (ap number g.n3)
    face_link s (coarser n z) h =
        let g = face_points s in
        flat_turned f number (centre m x) (turns_to (face_centre (face n z a (not s))) (face m x a s)) (face m x a s) _ _ _ _ _ (ap number key_centre)
        (ap number g.k0) (ap number g.k1) (ap number g.k2) (ap number g.k3)
    face_link s border h =
        let g = face_points s in
        flat_halves f number (centre m x) (face m x a s) _ _ _ _ _ (ap number key_centre) (ap number g.k0) (ap number g.k1) (ap number g.k2) (ap number g.k3)

-- a rotation is by a corner
pub turns_at_most : (p : Pos) (f : Face) → turns_to p f ≤ 3
turns_at_most p f = go (same f.p0 p) (same f.p1 p) (same f.p2 p) (same f.p3 p)
  where
    go : (a b c d : Bool) → cond a 0 (cond b 1 (cond c 2 (cond d 3 0))) ≤ 3
    go true b c d = omega arith
    go false true c d = omega arith
    go false false true d = omega arith
    go false false false true = omega arith
    go false false false false = omega arith

told_turns : (fine : Pos → Bool) (m : ℕ) (x : Pos) (a : Axis) (s : Bool) (b : Side) → Turns (told fine m x a s b)
told_turns fine m x a s split = omega arith
told_turns fine m x a false equal = omega arith
told_turns fine m x a true equal = omega arith
told_turns fine m x a s (coarser n z) = turns_at_most (face_centre (face n z a (not s))) (face m x a s)
told_turns fine m x a s border = omega arith

module _ (d : Pos) (l : ℕ) (s : List ℕ) (c : Closed l d (read d l s)) (m : ℕ) (x : Pos) (leaf : IsLeaf l d (read d l s) m x) where
  pub all_turn : AllTurn (sides_at l d (read d l s) m x)
  unfolding sides_at
  all_turn = record {
    x = (told_turns (finer l d (read d l s) m) m x ax false (side l d (read d l s) m x ax false), told_turns (finer l d (read d l s) m) m x ax true (side l d (read d l s) m x ax true));
    y = (told_turns (finer l d (read d l s) m) m x ay false (side l d (read d l s) m x ay false), told_turns (finer l d (read d l s) m) m x ay true (side l d (read d l s) m x ay true));
    z = (told_turns (finer l d (read d l s) m) m x az false (side l d (read d l s) m x az false), told_turns (finer l d (read d l s) m) m x az true (side l d (read d l s) m x az true));
  }

  module _ (number : ℕ → ℕ) where
    axis_link : (a : Axis) → flat (λ p. number (key_of p)) (axis_cells l d (read d l s) m x a)
        ≡ axis_keyed number (beside_at l d (read d l s) m x a false) (beside_at l d (read d l s) m x a true) (low_key m x a) (half m a) (half m (next a)) (half m (next (next a)))
    unfolding axis_keyed axis_numbers corners_at
    axis_link a =
        flat_append (λ p. number (key_of p)) (face_cells l d (read d l s) m x a false) (face_cells l d (read d l s) m x a true)
        ∙ ap₂ (λ (p q : List ℕ). p ++ q)
        (face_link m x a (finer l d (read d l s) m) number false (side l d (read d l s) m x a false) (split_fine d l s c m x a false leaf))
        (face_link m x a (finer l d (read d l s) m) number true (side l d (read d l s) m x a true) (split_fine d l s c m x a true leaf))

    -- the numbers stored for a leaf are those of its cells
    pub leaf_link : flat (λ p. number (key_of p)) (leaf_cells l d (read d l s) m x)
        ≡ leaf_numbers number (sides_at l d (read d l s) m x) (low_key m x ax) (2 ^ m)
    unfolding leaf_cells leaf_numbers sides_at
    leaf_link =
        let ey : low_key m x ay ≡ low_key m x ax = omega arith in
        let ez : low_key m x az ≡ low_key m x ax = omega arith in
        let A : List Cell = axis_cells l d (read d l s) m x ax in
        let B : List Cell = axis_cells l d (read d l s) m x ay in
        let C : List Cell = axis_cells l d (read d l s) m x az in
        let f : (Pos → ℕ) = λ p. number (key_of p) in
        flat_append f (A ++ B) C ∙ ap (λ (p : List ℕ). p ++ flat f C) (flat_append f A B) ∙ append_assoc (flat f A) (flat f B) (flat f C)
        ∙ ap₂ (λ (p q : List ℕ). p ++ q) (axis_link ax)
        (ap₂ (λ (p q : List ℕ). p ++ q)
        (axis_link ay ∙ ap (λ (k : ℕ). axis_keyed number (beside_at l d (read d l s) m x ay false) (beside_at l d (read d l s) m x ay true) k (half m ay) (half m az) (half m ax)) ey)
        (axis_link az ∙ ap (λ (k : ℕ). axis_keyed number (beside_at l d (read d l s) m x az false) (beside_at l d (read d l s) m x az true) k (half m az) (half m ax) (half m ay)) ez))
