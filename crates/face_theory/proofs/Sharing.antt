-- Two cells have three points in common exactly where a face of one is a face of the other. Assumes nothing.
use mathlib.Core.Path.{◌≡◌, refl, sym, ap, subst, ◌∙◌}
use mathlib.Core.Logic.{◌⊎◌, inl, inr, ◌≢◌}
use mathlib.Core.Bool.{Bool, true, false}
use mathlib.Core.List.{List, [], ◌∷◌}
use Prim.Native.Nat.{ℕ, zero, suc, ◌+◌, ◌*◌, ◌/◌, ◌%◌, ◌≤◌, ◌<◌, min, suc-le-suc}
use native.Mathlib.Nat.{not-suc-le-zero, le_of_suc-le-suc}
use native.Mathlib.Omega.{arith}
use lib.ListN.{length, get_or}
use Rattle.lists.specs.Tables.{among}
use Rattle.lists.specs.Tests.{bit}
use Rattle.lists.proofs.Bools.{bool_cases}
use Rattle.mesh.specs.Mesh.{cells_of}
use Rattle.sorting.specs.Entries.{many}
use Rattle.passes.proofs.Counting.{many_most, many_all}
use Rattle.face_theory.specs.Faces.{point_at, cell_at, Proper, lowest, middle, highest, slot, side, face_of, names, common, Shares}
use Rattle.face_theory.proofs.Triples.{ordered_among}
use Rattle.face_theory.proofs.Sides.{slot_apart, slot_most, point_is, on_side}
use Rattle.face_theory.proofs.Naming.{names_order, names_own, named_in, has_named, face_rises}

-- ---- all entries but one pass a test

module _ (t : ℕ → Bool) where
  all_pass : (l : List ℕ) → length l ≤ many t l → (k : ℕ) → k < length l → t (get_or l k 0) ≡ true
  unfolding many
  all_pass [] h k b = absurd (not-suc-le-zero b)
  all_pass (x ∷ l) h k b = go (bool_cases (t x)) (all_pass l) k b
    where
      go : (t x ≡ true) ⊎ (t x ≡ false) → (length l ≤ many t l → (k : ℕ) → k < length l → t (get_or l k 0) ≡ true)
          → (k : ℕ) → k < length (x ∷ l) → t (get_or (x ∷ l) k 0) ≡ true
      go (inl e) on zero b = e
      go (inl e) on (suc k) b = on (omega (arith, ap bit e)) k (le_of_suc-le-suc b)
      go (inr e) on k b = let z : ⊥ = omega (arith, ap bit e, many_most t l) in absurd z

  -- all entries but the one at s pass
  abbrev BesidesAt : List ℕ → ℕ → Type 0
  BesidesAt l s = (k : ℕ) → k < length l → k ≢ s → t (get_or l k 0) ≡ true

  but_one : (l : List ℕ) → length l ≤ many t l + 1 → (s : ℕ) × BesidesAt l s
  unfolding many
  but_one [] h = (0, λ k b d. absurd (not-suc-le-zero b))
  but_one (x ∷ l) h = go (bool_cases (t x)) (but_one l)
    where
      later : (s : ℕ) → t x ≡ true → BesidesAt l s → BesidesAt (x ∷ l) (suc s)
      later s e a zero b d = e
      later s e a (suc k) b d = a k (le_of_suc-le-suc b) (λ q. d (ap suc q))

      here : length l ≤ many t l → BesidesAt (x ∷ l) 0
      here n zero b d = absurd (d refl)
      here n (suc k) b d = all_pass l n k (le_of_suc-le-suc b)

      go : (t x ≡ true) ⊎ (t x ≡ false) → (length l ≤ many t l + 1 → (s : ℕ) × BesidesAt l s) → (s : ℕ) × BesidesAt (x ∷ l) s
      go (inl e) on = let a = on (omega (arith, ap bit e)) in (suc a.0, later a.0 e a.1)
      go (inr e) on = (0, here (omega (arith, ap bit e)))

  one_short : (l : List ℕ) (s : ℕ) → BesidesAt l s → length l ≤ many t l + 1
  unfolding many
  one_short [] s h = omega arith
  one_short (x ∷ l) zero h = omega (arith, many_all t 0 l (λ k b. h (suc k) (suc-le-suc b) (λ e. omega arith)))
  one_short (x ∷ l) (suc s) h =
      omega (arith, ap bit (h 0 (omega arith) (λ e. omega arith)), one_short l s (λ k b d. h (suc k) (suc-le-suc b) (λ e. d (omega arith))))

-- ---- cells that share a face

-- some owner of one cell and some owner of the other have one face
pub record Touching (C : List ℕ) (q r : ℕ) : Type 0 where
  pub one : ℕ
  pub other : ℕ
  pub of_one : one / 4 ≡ q
  pub of_other : other / 4 ≡ r
  pub meet : face_of C one ≡ face_of C other

module _ (C : List ℕ) (proper : Proper C) (q r : ℕ) (hq : q < cells_of C) where
  -- all points of q but the one at s are points of r
  touch : (s : ℕ) → s < 4 → ((t : ℕ) → t < 4 → t ≢ s → among (point_at C q t) (cell_at C r) ≡ true) → Touching C q r
  unfolding side
  touch s b h =
      let o : ℕ = 4 * q + s in
      let up = face_rises C proper (4 * q + s) (omega (arith, hq)) in
      let w = has_named C r (lowest (side C o 0) (side C o 1) (side C o 2)) (middle (side C o 0) (side C o 1) (side C o 2))
      (highest (side C o 0) (side C o 1) (side C o 2)) up.0 up.1
      (names_order (cell_at C r) (side C o 0) (side C o 1) (side C o 2) (at 0 (omega arith)) (at 1 (omega arith)) (at 2 (omega arith)))
      in
      record { one = o; other = w.0; of_one = omega arith; of_other = w.1; meet = sym w.2 }
    where
      at : (i : ℕ) → i < 3 → among (side C (4 * q + s) i) (cell_at C r) ≡ true
      at i k =
          let e : (4 * q + s) / 4 ≡ q = omega arith in
          let f : (4 * q + s) % 4 ≡ s = omega arith in
          rw (e, f) (h (slot s i) (omega (arith, slot_most s i k)) (slot_apart s i))

  pub shares_touch : Shares C q r → Touching C q r
  unfolding common
  shares_touch h =
      let a = but_one (λ p. among p (cell_at C r)) (cell_at C q) (omega arith) in
      touch (min a.0 3) (omega arith) (λ t b d.
      ap (λ (x : ℕ). among x (cell_at C r)) (sym (point_is C q t b)) ∙ a.1 t b (λ e. d (omega arith)))

-- and where owners have one face, their cells share it
pub touch_shares : (C : List ℕ) (x o : ℕ) → face_of C o ≡ face_of C x → Shares C (o / 4) (x / 4)
unfolding common
touch_shares C x o e = let s = one_short (λ p. among p (cell_at C (x / 4))) (cell_at C (o / 4)) (o % 4) shared in omega arith
  where
    shared : (t : ℕ) → t < 4 → t ≢ o % 4 → among (get_or (cell_at C (o / 4)) t 0) (cell_at C (x / 4)) ≡ true
    shared t h d =
        named_in (cell_at C (x / 4)) (face_of C o) (get_or (cell_at C (o / 4)) t 0)
        (subst (λ (f : List ℕ). names (cell_at C (x / 4)) f ≡ true) (sym e) (names_own C x))
        (ordered_among (side C o 0) (side C o 1) (side C o 2) (get_or (cell_at C (o / 4)) t 0) (on_side C o t (get_or (cell_at C (o / 4)) t 0) h d (sym (point_is C (o / 4) t h))))
