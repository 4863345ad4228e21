-- Laws of the lists of numbers that are stored. Assumes nothing.
use mathlib.Core.Path.{◌≡◌, refl, sym, ap, ◌∙◌}
use mathlib.Core.Bool.{Bool, true, false}
use mathlib.Core.List.{List, [], ◌∷◌, ◌++◌}
use Prim.Native.Nat.{ℕ, zero, suc, ◌+◌, ◌*◌, ◌^◌, ◌≤◌, ◌<◌}
use native.Mathlib.Omega.{arith}
use lib.ListN.{length, length-append}
use lib.Seq.{sets, length-sets}
use Rattle.lists.specs.Runs.{Stored, Room}
use Rattle.lists.proofs.Running.{stored_both, room_as, room_first}
use Rattle.sides.specs.declared.Beside.{Beside}
use Rattle.sides.specs.declared.Beside.TheVariants.{Split, Equal, Given, Coarser, Border}
use Rattle.sides.specs.declared.Edges.{Edges}
use Rattle.sides.specs.declared.Sides.{Sides}
use Rattle.space.specs.Space.{Axis, ax, ay, az}
use Rattle.vertex_keys.specs.Keys.{stride, most_keys}
use Rattle.face_cells.specs.declared.Edge.{Edge}
use Rattle.face_cells.specs.declared.Quad.{Quad}
use Rattle.face_cells.specs.declared.Corners.{Corners}
use Rattle.face_cells.specs.Parts.{over_numbers, edge0, edge1, edge2, edge3, fan_numbers, all_fine, halves_numbers, turned_numbers, face_numbers, low_face, high_face, axis_numbers, corners_at, from_next, axis_keyed, leaf_numbers, turns_of}

-- ---- room

pub room_to : {o K A : List ℕ} {at : ℕ} → K ≡ A → Room o at K → Room o at A
room_to e h = room_as (sym e) h

pub room_front : (A B : List ℕ) {o : List ℕ} {at : ℕ} → Room o at (A ++ B) → Room o at A
room_front A B h = room_first (record { whole = refl }) h

pub room_rest : (A B : List ℕ) {o o₁ : List ℕ} {at r : ℕ} → Room o at (A ++ B) → Stored o at A r o₁ → Room o₁ r B
room_rest A B {o} {o₁} {at} {r} h p =
    record { fits = omega (arith, h.fits, length-append A B, p.count, ap length p.kept, length-sets o at A) }

-- ---- cells stored one after the other

pub stored_one : {o o₁ K : List ℕ} {at a b c d : ℕ} → K ≡ a ∷ b ∷ c ∷ d ∷ [] → o₁ ≡ sets o at (a ∷ b ∷ c ∷ d ∷ []) → Stored o at K (at + 4) o₁
stored_one {o} {at = at} k p = record { count = ap (λ (l : List ℕ). at + length l) (sym k); kept = p ∙ ap (sets o at) (sym k) }

module _ {o o₁ o₂ K : List ℕ} {at a b c d e f g h : ℕ} where
  pub stored_two : K ≡ (a ∷ b ∷ c ∷ d ∷ []) ++ (e ∷ f ∷ g ∷ h ∷ []) → o₁ ≡ sets o at (a ∷ b ∷ c ∷ d ∷ []) → o₂ ≡ sets o₁ (at + 4) (e ∷ f ∷ g ∷ h ∷ [])
      → Stored o at K (at + 8) o₂
  stored_two k p q = record {
    count = ap (λ (l : List ℕ). at + length l) (sym k);
    kept = (stored_both {A = a ∷ b ∷ c ∷ d ∷ []} {B = e ∷ f ∷ g ∷ h ∷ []} {at = at} {n = at + 4} {r = at + 4 + 4} k (record { count = refl; kept = p }) (record { count = refl; kept = q })).kept;
  }

-- ---- an edge

module _ (number : ℕ → ℕ) (t : Bool) (e : Edge) where
  pub over_fine : (n : ℕ) → t ≡ true → n ≡ number e.m
      → over_numbers number t e ≡ (e.p ∷ e.q ∷ e.a ∷ n ∷ []) ++ (e.p ∷ e.q ∷ n ∷ e.b ∷ [])
  unfolding over_numbers
  over_fine n h g = rw (h, g) refl

  pub over_plain : t ≡ false → over_numbers number t e ≡ e.p ∷ e.q ∷ e.a ∷ e.b ∷ []
  unfolding over_numbers
  over_plain h = rw h refl

  pub room_fine : {o : List ℕ} {at : ℕ} → t ≡ true → Room o at (over_numbers number t e) → at + 8 ≤ length o
  room_fine h r = omega (arith, r.fits, ap length (over_fine (number e.m) h refl))

  pub room_plain : {o : List ℕ} {at : ℕ} → t ≡ false → Room o at (over_numbers number t e) → at + 4 ≤ length o
  room_plain h r = omega (arith, r.fits, ap length (over_plain h))

-- ---- the half-pyramids from another corner on

pub halves_are : (c p q r s : ℕ) → halves_numbers c p q r s ≡ (c ∷ p ∷ q ∷ r ∷ []) ++ (c ∷ p ∷ r ∷ s ∷ [])
unfolding halves_numbers
halves_are c p q r s = refl

pub room_halves : (c p q r s : ℕ) {o : List ℕ} {at : ℕ} → at + 8 ≤ length o → Room o at (halves_numbers c p q r s)
unfolding halves_numbers
room_halves c p q r s h = record { fits = h }

pub halves_room : (c p q r s : ℕ) {o : List ℕ} {at : ℕ} → Room o at (halves_numbers c p q r s) → at + 8 ≤ length o
unfolding halves_numbers
halves_room c p q r s h = h.fits

module _ (c p q r s : ℕ) where
  pub turned_0 : (n : ℕ) → n ≡ 0 → turned_numbers n c p q r s ≡ halves_numbers c p q r s
  unfolding turned_numbers
  turned_0 n h = rw h refl

  pub turned_1 : (n : ℕ) → n ≡ 1 → turned_numbers n c p q r s ≡ halves_numbers c q r s p
  unfolding turned_numbers
  turned_1 n h = rw h refl

  pub turned_2 : (n : ℕ) → n ≡ 2 → turned_numbers n c p q r s ≡ halves_numbers c r s p q
  unfolding turned_numbers
  turned_2 n h = rw h refl

  pub turned_3 : (n : ℕ) → n ≡ 3 → turned_numbers n c p q r s ≡ halves_numbers c s p q r
  unfolding turned_numbers
  turned_3 n h = rw h refl

pub turned_room : (n c p q r s : ℕ) {o : List ℕ} {at : ℕ} → Room o at (turned_numbers n c p q r s) → at + 8 ≤ length o
unfolding turned_numbers
turned_room zero c p q r s h = halves_room c p q r s h
turned_room (suc n) c p q r s h = turned_room n c q r s p h

-- ---- room is a matter of counts, not of which vertices

over_long : (number : ℕ → ℕ) (fine : Bool) (e g : Edge) → length (over_numbers number fine e) ≡ length (over_numbers number fine g)
unfolding over_numbers
over_long number true e g = refl
over_long number false e g = refl

pub room_over : (number : ℕ → ℕ) (fine : Bool) (e g : Edge) {o : List ℕ} {at : ℕ} → Room o at (over_numbers number fine e) → Room o at (over_numbers number fine g)
room_over number fine e g h = record { fits = omega (arith, h.fits, over_long number fine e g) }

fan_long : (number : ℕ → ℕ) (p q : ℕ) (f : Quad) (fine : Edges) → length (fan_numbers number p q f fine)
    ≡ length (over_numbers number fine.e0 (edge0 0 0 f)) + length (over_numbers number fine.e1 (edge1 0 0 f))
    + length (over_numbers number fine.e2 (edge2 0 0 f)) + length (over_numbers number fine.e3 (edge3 0 0 f))
unfolding fan_numbers
fan_long number p q f fine =
    let a : List ℕ = over_numbers number fine.e0 (edge0 p q f) in
    let b : List ℕ = over_numbers number fine.e1 (edge1 p q f) in
    let c : List ℕ = over_numbers number fine.e2 (edge2 p q f) in
    let d : List ℕ = over_numbers number fine.e3 (edge3 p q f) in
    omega (
      arith,
      length-append a (b ++ (c ++ d)),
      length-append b (c ++ d),
      length-append c d,
      over_long number fine.e0 (edge0 p q f) (edge0 0 0 f),
      over_long number fine.e1 (edge1 p q f) (edge1 0 0 f),
      over_long number fine.e2 (edge2 p q f) (edge2 0 0 f),
      over_long number fine.e3 (edge3 p q f) (edge3 0 0 f),
    )

pub room_fan : (number : ℕ → ℕ) (p q p' q' : ℕ) (f : Quad) (fine : Edges) {o : List ℕ} {at : ℕ} → Room o at (fan_numbers number p q f fine) → Room o at (fan_numbers number p' q' f fine)
room_fan number p q p' q' f fine h = record { fits = omega (arith, h.fits, fan_long number p q f fine, fan_long number p' q' f fine) }

-- ---- a face, by what stands beside it

module _ (number : ℕ → ℕ) (side : Beside) (c : ℕ) (f : Quad) where
  pub face_split : (m : ℕ) → side ≡ Split → m ≡ number (f.k + f.v + f.w)
      → face_numbers number side c f ≡ fan_numbers number m c f all_fine
  unfolding face_numbers
  face_split m e g = rw (e, g) refl

  pub face_equal : (o : ℕ) {fine : Edges} → side ≡ Equal fine → o ≡ number (f.k + f.u + f.v + f.w)
      → face_numbers number side c f ≡ fan_numbers number c o f fine
  unfolding face_numbers
  face_equal o e g = rw (e, g) refl

  pub face_given : side ≡ Given → face_numbers number side c f ≡ []
  unfolding face_numbers
  face_given e = rw e refl

  pub face_coarser : {n : ℕ} → side ≡ Coarser n → face_numbers number side c f ≡ turned_numbers n c f.p0 f.p1 f.p2 f.p3
  unfolding face_numbers
  face_coarser e = rw e refl

  pub face_border : side ≡ Border → face_numbers number side c f ≡ halves_numbers c f.p0 f.p1 f.p2 f.p3
  unfolding face_numbers
  face_border e = rw e refl

pub turns_few : (side : Beside) {n : ℕ} → side ≡ Coarser n → turns_of side ≤ 3 → n ≤ 3
turns_few side e h = rw e at h

-- ---- the faces of a leaf

module _ (o : Corners) where
  pub low_small : {f : Quad} → f ≡ low_face o → o.k + 3 * o.u + 2 * o.v + 2 * o.w < 2 ^ 64 → f.k + f.u + 2 * f.v + 2 * f.w < 2 ^ 64
  low_small e h = rw e (omega (arith, h))

  pub high_small : {g : Quad} → g ≡ high_face o → o.k + 3 * o.u + 2 * o.v + 2 * o.w < 2 ^ 64 → g.k + g.u + 2 * g.v + 2 * g.w < 2 ^ 64
  high_small e h = rw e (omega (arith, h))

  pub axis_faces : (number : ℕ → ℕ) (low high : Beside) {f g : Quad} → f ≡ low_face o → g ≡ high_face o
      → axis_numbers number low high o ≡ face_numbers number low o.centre f ++ face_numbers number high o.centre g
  unfolding axis_numbers
  axis_faces number low high e e' = rw (e, e') refl

-- ---- a leaf from each of its axes on

next_at : (number : ℕ → ℕ) (k u v w : ℕ) {o n : Corners} → o ≡ corners_at number k u v w → n ≡ from_next o → n ≡ corners_at number k v w u
unfolding corners_at
next_at number k u v w at e =
    let middle : k + u + v + w ≡ k + v + w + u = omega arith in
    let seventh : k + 2 * u + 2 * v + 2 * w ≡ k + 2 * v + 2 * w + 2 * u = omega arith in
    let fifth : k + 2 * u + 2 * v ≡ k + 2 * v + 2 * u = omega arith in
    let sixth : k + 2 * u + 2 * w ≡ k + 2 * w + 2 * u = omega arith in
    rw (e, at, middle, seventh, fifth, sixth) refl

module _ (number : ℕ → ℕ) (k h : ℕ) {x y z : Corners}
    (from-x : x ≡ corners_at number k (h * stride ax) (h * stride ay) h) (from-y : y ≡ from_next x) (from-z : z ≡ from_next y) where
  abbrev at : Axis → Axis → Axis → Corners
  at a b c = corners_at number k (h * stride a) (h * stride b) (h * stride c)

  x_at : x ≡ at ax ay az
  x_at = let e : h ≡ h * 1 = omega arith in from-x ∙ ap (λ (w : ℕ). corners_at number k (h * stride ax) (h * stride ay) w) e

  y_at : y ≡ at ay az ax
  y_at = next_at number k _ _ _ x_at from-y

  z_at : z ≡ at az ax ay
  z_at = next_at number k _ _ _ y_at from-z

  -- the keys of a leaf are small
  small : {o : Corners} (a b c : Axis) → o ≡ at a b c → k < most_keys → h ≤ 32 → o.k + 3 * o.u + 2 * o.v + 2 * o.w < 2 ^ 64
  unfolding corners_at
  small a b c e p q = rw e (omega (arith, p, wide a q, wide b q, wide c q))
    where
      wide : (a : Axis) → h ≤ 32 → h * stride a ≤ 2147483648
      wide ax q = omega arith
      wide ay q = omega arith
      wide az q = omega arith

  pub all_small : k < most_keys → h ≤ 32
      → (x.k + 3 * x.u + 2 * x.v + 2 * x.w < 2 ^ 64) × (y.k + 3 * y.u + 2 * y.v + 2 * y.w < 2 ^ 64) × (z.k + 3 * z.u + 2 * z.v + 2 * z.w < 2 ^ 64)
  all_small p q = (small ax ay az x_at p q, small ay az ax y_at p q, small az ax ay z_at p q)

  pub leaf_axes : (f : Sides)
      → leaf_numbers number f k h ≡ axis_numbers number f.x0 f.x1 x ++ (axis_numbers number f.y0 f.y1 y ++ axis_numbers number f.z0 f.z1 z)
  unfolding leaf_numbers axis_keyed
  leaf_axes f = rw (x_at, y_at, z_at) refl
