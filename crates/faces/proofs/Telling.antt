-- Runs of owners with one face, and the tally. Assumes nothing.
use mathlib.Core.Path.{◌≡◌, refl, sym, ap, ap₂, subst, ◌∙◌}
use mathlib.Core.Logic.{◌⊎◌, inl, inr, ◌≢◌}
use mathlib.Core.Bool.{Bool, true, false, ◌&&◌, and-false, true≢false}
use mathlib.Core.List.{List, [], ◌∷◌, ◌++◌}
use Prim.Native.Nat.{ℕ, ◌+◌, ◌*◌, ◌≤◌, ◌<◌}
use native.Mathlib.Omega.{arith}
use borrow.Author.Tests.{eq-eqb, ne_eqb}
use lib.Dec.{eqb}
use lib.ListN.{length, get_or, take}
use lib.Seq.{take_at}
use Rattle.lists.specs.Tables.{all_below, same}
use Rattle.lists.proofs.Cases.{eq_or}
use Rattle.lists.proofs.Listing.{same_eq, same_refl, list_is}
use Rattle.passes.specs.Passes.{up_to}
use Rattle.passes.proofs.Composing.{pair_first, pair_second}
use Rattle.face_theory.specs.Faces.{face_of}
use Rattle.faces.specs.Parts.{corner_of, key_of, owner_at, RunFound}
use Rattle.faces.proofs.Corners.{corner_below}

-- the front was lent to be numbered, and is now s
pub numbered : (n : ℕ) (s d : List ℕ) → length s ≡ n → ((k : ℕ) → k < n → get_or s k 0 ≡ k) → take n (s ++ d) ≡ up_to n
numbered n s d l e = take_at s d n l ∙ sym (list_is (λ i. i) n s l (λ i b. sym (e i b)))

-- ---- the test of a face

module _ (C : List ℕ) (o a b c : ℕ) where
  pub other_high : (r : ℕ) → r ≡ corner_of C 2 o → r ≢ c → false ≡ same (face_of C o) (a ∷ b ∷ c ∷ [])
  unfolding same corner_of
  other_high r e n =
      let f = face_of C o in
      let d : get_or f 2 0 ≢ c = (λ q. n (e ∙ q)) in
      sym (ap (λ (t : Bool). eqb (get_or f 0 0) a && (eqb (get_or f 1 0) b && (t && true))) (ne_eqb (get_or f 2 0) c d)
      ∙ ap (λ (t : Bool). eqb (get_or f 0 0) a && t) (and-false (eqb (get_or f 1 0) b))
      ∙ and-false (eqb (get_or f 0 0) a))

  pub other_mid : (r : ℕ) → r ≡ corner_of C 1 o → r ≢ b → false ≡ same (face_of C o) (a ∷ b ∷ c ∷ [])
  unfolding same corner_of
  other_mid r e n =
      let f = face_of C o in
      let d : get_or f 1 0 ≢ b = (λ q. n (e ∙ q)) in
      sym (ap (λ (t : Bool). eqb (get_or f 0 0) a && (t && (eqb (get_or f 2 0) c && true))) (ne_eqb (get_or f 1 0) b d)
      ∙ and-false (eqb (get_or f 0 0) a))

  pub low_decides : (h m l : ℕ) → h ≡ corner_of C 2 o → h ≡ c → m ≡ corner_of C 1 o → m ≡ b → l ≡ corner_of C 0 o
      → eqb l a ≡ same (face_of C o) (a ∷ b ∷ c ∷ [])
  unfolding same corner_of
  low_decides h m l eh hc em mb el =
      let f = face_of C o in
      let p : get_or f 2 0 ≡ c = sym eh ∙ hc in
      let q : get_or f 1 0 ≡ b = sym em ∙ mb in
      ap (λ (n : ℕ). eqb n a) el
      ∙ sym (ap₂ (λ (s t : Bool). eqb (get_or f 0 0) a && (s && (t && true))) (eq-eqb (get_or f 1 0) b q) (eq-eqb (get_or f 2 0) c p)
      ∙ and_one (eqb (get_or f 0 0) a))
    where
      and_one : (t : Bool) → t && true ≡ t
      and_one true = refl
      and_one false = refl

  -- the test in a run: of the face of o against that of p
  pub run_test : (r : Bool) (p i j : ℕ) → r ≡ same (face_of C p) (a ∷ b ∷ c ∷ []) → a ≡ corner_of C 0 o → b ≡ corner_of C 1 o → c ≡ corner_of C 2 o
      → o ≡ i → p ≡ j → r ≡ same (face_of C j) (face_of C i)
  unfolding corner_of
  run_test r p i j e ea eb ec eo ep =
      e ∙ rw (ea, eb, ec) refl ∙ ap₂ (λ (x y : ℕ). same (face_of C x) (face_of C y)) ep eo

-- from i to j stand owners with the face of that at i
pub record Running (C W : List ℕ) (at i j : ℕ) : Type 0 where
  pub on : i < j
  pub within : j ≤ length C
  pub inside : (k : ℕ) → i ≤ k → k < j → same (face_of C (owner_at W at k)) (face_of C (owner_at W at i)) ≡ true

pub run_start : (C W : List ℕ) (at i : ℕ) → i < length C → Running C W at i (i + 1)
run_start C W at i h = record {
  on = omega arith;
  within = omega arith;
  inside = λ k a b.
      let e : i ≡ k = omega arith in
      subst (λ (n : ℕ). same (face_of C (owner_at W at n)) (face_of C (owner_at W at i)) ≡ true) e (same_refl (face_of C (owner_at W at i)));
}

module _ (C W : List ℕ) (at i j : ℕ) (p : Running C W at i j) where
  pub run_next : j < length C → same (face_of C (owner_at W at j)) (face_of C (owner_at W at i)) ≡ true → Running C W at i (j + 1)
  run_next h e = record { on = omega (arith, p.on); within = omega arith; inside = inside' }
    where
      inside' : (k : ℕ) → i ≤ k → k < j + 1 → same (face_of C (owner_at W at k)) (face_of C (owner_at W at i)) ≡ true
      inside' k a b = go (eq_or j k)
        where
          go : (j ≡ k) ⊎ (j ≢ k) → same (face_of C (owner_at W at k)) (face_of C (owner_at W at i)) ≡ true
          go (inl q) = subst (λ (n : ℕ). same (face_of C (owner_at W at n)) (face_of C (owner_at W at i)) ≡ true) q e
          go (inr n) = p.inside k a (omega arith)

  pub run_stop : same (face_of C (owner_at W at j)) (face_of C (owner_at W at i)) ≡ false → RunFound C W at i j
  run_stop e = record { on = p.on; within = p.within; inside = p.inside; stop = λ h. e }

-- ---- marking

pub record Marking (W₀ W : List ℕ) (at to n i j v k : ℕ) : Type 0 where
  pub on : i ≤ k
  pub up : k ≤ j
  pub size : length W ≡ length W₀
  pub kept : (m : ℕ) → m < to → get_or W m 0 ≡ get_or W₀ m 0
  pub new : (m : ℕ) → i ≤ m → m < k → get_or W (to + owner_at W₀ at m) 0 ≡ v
  pub old : (o : ℕ) → ((m : ℕ) → i ≤ m → m < k → owner_at W₀ at m ≢ o) → get_or W (to + o) 0 ≡ get_or W₀ (to + o) 0

-- ---- keys

module _ (m : ℕ) (C : List ℕ) (below : all_below m C ≡ true) (some : 0 < m) where
  pub key_of_lem : (x y : ℕ) → face_of C x ≡ face_of C y → key_of m C x ≡ key_of m C y
  unfolding key_of corner_of
  key_of_lem x y e = ap (λ (l : List ℕ). (get_or l 0 0 * m + get_or l 1 0) * m + get_or l 2 0) e

  pub face_of_lem : (x y : ℕ) → key_of m C x ≡ key_of m C y → face_of C x ≡ face_of C y
  unfolding key_of corner_of
  face_of_lem x y e =
      let small : (r o : ℕ) → corner_of C r o < m = corner_below m C below some in
      let hi : corner_of C 2 x ≡ corner_of C 2 y =
      pair_second m (corner_of C 0 x * m + corner_of C 1 x) (corner_of C 2 x) (corner_of C 0 y * m + corner_of C 1 y) (corner_of C 2 y) (small 2 x) (small 2 y) e
      in
      let two : corner_of C 0 x * m + corner_of C 1 x ≡ corner_of C 0 y * m + corner_of C 1 y =
      pair_first m (corner_of C 0 x * m + corner_of C 1 x) (corner_of C 2 x) (corner_of C 0 y * m + corner_of C 1 y) (corner_of C 2 y) (small 2 x) (small 2 y) e
      in
      let lo : corner_of C 0 x ≡ corner_of C 0 y = pair_first m (corner_of C 0 x) (corner_of C 1 x) (corner_of C 0 y) (corner_of C 1 y) (small 1 x) (small 1 y) two in
      let mid : corner_of C 1 x ≡ corner_of C 1 y = pair_second m (corner_of C 0 x) (corner_of C 1 x) (corner_of C 0 y) (corner_of C 1 y) (small 1 x) (small 1 y) two in
      faces_eq x y lo mid hi
    where
      three : (a b c a' b' c' : ℕ) → a ≡ a' → b ≡ b' → c ≡ c' → ◌≡◌ {A = List ℕ} (a ∷ b ∷ c ∷ []) (a' ∷ b' ∷ c' ∷ [])
      three a b c a' b' c' p q r = rw (p, q, r) refl

      faces_eq : (x y : ℕ) → corner_of C 0 x ≡ corner_of C 0 y → corner_of C 1 x ≡ corner_of C 1 y → corner_of C 2 x ≡ corner_of C 2 y
          → face_of C x ≡ face_of C y
      faces_eq x y p q r = three (corner_of C 0 x) (corner_of C 1 x) (corner_of C 2 x) (corner_of C 0 y) (corner_of C 1 y) (corner_of C 2 y) p q r

  pub not_same : (x y : ℕ) → key_of m C x ≢ key_of m C y → same (face_of C x) (face_of C y) ≡ false
  not_same x y n = go (same (face_of C x) (face_of C y)) refl
    where
      go : (t : Bool) → same (face_of C x) (face_of C y) ≡ t → t ≡ false
      go true e = absurd (n (key_of_lem x y (same_eq (face_of C x) (face_of C y) e)))
      go false e = refl

  pub not_key : (x y : ℕ) → same (face_of C x) (face_of C y) ≡ false → key_of m C x ≢ key_of m C y
  not_key x y n e =
      true≢false (sym (subst (λ (l : List ℕ). same (face_of C x) l ≡ true) (face_of_lem x y e) (same_refl (face_of C x))) ∙ n)
