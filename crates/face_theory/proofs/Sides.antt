-- Where the points of a face stand in its cell. Assumes nothing.
use mathlib.Core.Path.{◌≡◌, refl, sym, ap, ◌∙◌}
use mathlib.Core.Logic.{◌⊎◌, inl, inr, ◌≢◌}
use mathlib.Core.Bool.{true, not}
use mathlib.Core.List.{List, [], ◌∷◌}
use Prim.Native.Nat.{ℕ, zero, suc, ◌+◌, ◌-◌, ◌/◌, ◌%◌, ◌≤◌, ◌<◌}
use native.Mathlib.Nat.{not-suc-le-zero, le_of_suc-le-suc}
use native.Mathlib.Omega.{arith}
use borrow.Author.Tests.{lt-ltb, le-ltb, not-true}
use lib.ListN.{length, get_or}
use Rattle.lists.specs.Tables.{among}
use Rattle.lists.proofs.Cases.{lt_or}
use Rattle.lists.proofs.Bools.{and_left, and_right, clash}
use Rattle.face_theory.specs.Faces.{point_at, cell_at, differ, slot, side}
use Rattle.face_theory.proofs.Triples.{In, first, second, third, among_at, among_place}

-- ---- slots

pub slot_low : (k i : ℕ) → i < k → i ≡ slot k i
slot_low k i h = rw (lt-ltb i k h) refl

pub slot_high : (k i : ℕ) → k ≤ i → i + 1 ≡ slot k i
slot_high k i h = rw (le-ltb i k h) refl

pub slot_most : (k i : ℕ) → i < 3 → slot k i ≤ 3
slot_most k i h = go (lt_or i k)
  where
    go : (i < k) ⊎ (k ≤ i) → slot k i ≤ 3
    go (inl b) = omega (arith, slot_low k i b)
    go (inr b) = omega (arith, slot_high k i b)

-- the place that is left out is none
pub slot_apart : (k i : ℕ) → slot k i ≢ k
slot_apart k i e = go (lt_or i k)
  where
    go : (i < k) ⊎ (k ≤ i) → ⊥
    go (inl b) = omega (arith, slot_low k i b)
    go (inr b) = omega (arith, slot_high k i b)

slot_rises : (k i j : ℕ) → i < j → slot k i < slot k j
slot_rises k i j h = go (lt_or i k) (lt_or j k)
  where
    go : (i < k) ⊎ (k ≤ i) → (j < k) ⊎ (k ≤ j) → slot k i < slot k j
    go (inl a) (inl b) = omega (arith, slot_low k i a, slot_low k j b)
    go (inl a) (inr b) = omega (arith, slot_low k i a, slot_high k j b)
    go (inr a) (inl b) = omega arith
    go (inr a) (inr b) = omega (arith, slot_high k i a, slot_high k j b)

-- and every other place is one
slot_of : (k t : ℕ) → t < 4 → t ≢ k → k < 4 → (i : ℕ) × (i < 3) × (slot k i ≡ t)
slot_of k t h d b = go (lt_or t k)
  where
    go : (t < k) ⊎ (k ≤ t) → (i : ℕ) × (i < 3) × (slot k i ≡ t)
    go (inl a) = (t, omega arith, sym (slot_low k t a))
    go (inr a) = (t - 1, omega arith, omega (arith, slot_high k (t - 1) (omega arith)))

-- ---- the points of a cell

pub differ_at : (l : List ℕ) (i j : ℕ) → differ l ≡ true → i < j → j < length l → get_or l i 0 ≢ get_or l j 0
unfolding differ
differ_at [] i j d a b e = not-suc-le-zero b
differ_at (x ∷ l) i zero d a b e = not-suc-le-zero a
differ_at (x ∷ l) zero (suc j) d a b e =
    clash (ap (λ (n : ℕ). among n l) e ∙ among_at l j (le_of_suc-le-suc b)) (not-true (among x l) (and_left (not (among x l)) (differ l) d))
differ_at (x ∷ l) (suc i) (suc j) d a b e =
    differ_at l i j (and_right (not (among x l)) (differ l) d) (le_of_suc-le-suc a) (le_of_suc-le-suc b) e

module _ (C : List ℕ) (q : ℕ) where
  pub point_is : (t : ℕ) → t < 4 → get_or (cell_at C q) t 0 ≡ point_at C q t
  point_is zero h = refl
  point_is (suc zero) h = refl
  point_is (suc (suc zero)) h = refl
  point_is (suc (suc (suc zero))) h = refl
  point_is (suc (suc (suc (suc t)))) h = omega arith

  point_in : (t : ℕ) → t < 4 → among (point_at C q t) (cell_at C q) ≡ true
  point_in t h = ap (λ (x : ℕ). among x (cell_at C q)) (sym (point_is t h)) ∙ among_at (cell_at C q) t h

  pub place_of : (x : ℕ) → among x (cell_at C q) ≡ true → (t : ℕ) × (t < 4) × (point_at C q t ≡ x)
  place_of x h = let a = among_place x (cell_at C q) h in (a.0, a.1, sym (point_is a.0 a.1) ∙ a.2)

-- ---- the points of a face

module _ (C : List ℕ) (o : ℕ) where
  pub side_in : (i : ℕ) → i < 3 → among (side C o i) (cell_at C (o / 4)) ≡ true
  unfolding side
  side_in i h = point_in C (o / 4) (slot (o % 4) i) (omega (arith, slot_most (o % 4) i h))

  pub sides_differ : differ (cell_at C (o / 4)) ≡ true → (i j : ℕ) → i < j → j < 3 → side C o i ≢ side C o j
  unfolding side
  sides_differ d i j h b e =
      let most = slot_most (o % 4) j b in
      let rise = slot_rises (o % 4) i j h in
      differ_at (cell_at C (o / 4)) (slot (o % 4) i) (slot (o % 4) j) d rise (omega arith)
      (point_is C (o / 4) (slot (o % 4) i) (omega arith) ∙ e ∙ sym (point_is C (o / 4) (slot (o % 4) j) (omega arith)))

  -- a point of the cell is one of the face that does not leave it out
  pub on_side : (t x : ℕ) → t < 4 → t ≢ o % 4 → point_at C (o / 4) t ≡ x → In x (side C o 0) (side C o 1) (side C o 2)
  unfolding side
  on_side t x h d e = let a = slot_of (o % 4) t h d (omega arith) in go a.0 a.1 (sym e ∙ ap (point_at C (o / 4)) (sym a.2))
    where
      go : (i : ℕ) → i < 3 → x ≡ side C o i → In x (side C o 0) (side C o 1) (side C o 2)
      go zero h p = first p
      go (suc zero) h p = second p
      go (suc (suc zero)) h p = third p
      go (suc (suc (suc i))) h p = let z : ⊥ = omega arith in absurd z
