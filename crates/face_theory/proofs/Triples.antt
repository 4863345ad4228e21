-- Which numbers are among some, and three numbers put in order. Assumes nothing.
use mathlib.Core.Path.{◌≡◌, refl, sym, ap, subst, ◌∙◌}
use mathlib.Core.Logic.{◌⊎◌, inl, inr, ◌≢◌}
use mathlib.Core.Bool.{Bool, true, false, ◌||◌, true≢false}
use mathlib.Core.List.{List, [], ◌∷◌}
use Prim.Native.Nat.{ℕ, zero, suc, ◌≤◌, ◌<◌, min, max, suc-le-suc}
use native.Mathlib.Nat.{not-suc-le-zero, le_of_suc-le-suc}
use native.Mathlib.Omega.{arith}
use borrow.Author.Tests.{eqb-true, eq-eqb}
use lib.Dec.{eqb}
use lib.ListN.{length, get_or}
use Rattle.lists.specs.Tables.{among}
use Rattle.lists.proofs.Cases.{lt_or, eq_or}
use Rattle.face_theory.specs.Faces.{lowest, middle, highest, ascending}

-- ---- entries are among a list, and what is among it is an entry

among_here : (x y : ℕ) (l : List ℕ) → x ≡ y → among x (y ∷ l) ≡ true
unfolding among
among_here x y l e = rw (eq-eqb x y e) refl

among_on : (x y : ℕ) (l : List ℕ) → among x l ≡ true → among x (y ∷ l) ≡ true
unfolding among
among_on x y l h = go (eqb x y)
  where
    go : (t : Bool) → t || among x l ≡ true
    go true = refl
    go false = h

pub among_or : (x y : ℕ) (l : List ℕ) → among x (y ∷ l) ≡ true → (x ≡ y) ⊎ (among x l ≡ true)
unfolding among
among_or x y l h = go (eqb x y) refl h
  where
    go : (t : Bool) → eqb x y ≡ t → t || among x l ≡ true → (x ≡ y) ⊎ (among x l ≡ true)
    go true e p = inl (eqb-true x y e)
    go false e p = inr p

pub among_none : (x : ℕ) → among x [] ≢ true
unfolding among
among_none x e = true≢false (sym e)

pub among_at : (l : List ℕ) (k : ℕ) → k < length l → among (get_or l k 0) l ≡ true
among_at [] k h = absurd (not-suc-le-zero h)
among_at (y ∷ l) zero h = among_here y y l refl
among_at (y ∷ l) (suc k) h = among_on (get_or l k 0) y l (among_at l k (le_of_suc-le-suc h))

pub among_place : (x : ℕ) (l : List ℕ) → among x l ≡ true → (k : ℕ) × (k < length l) × (get_or l k 0 ≡ x)
among_place x [] h = absurd (among_none x h)
among_place x (y ∷ l) h = go (among_or x y l h) (among_place x l)
  where
    go : (x ≡ y) ⊎ (among x l ≡ true) → (among x l ≡ true → (k : ℕ) × (k < length l) × (get_or l k 0 ≡ x))
        → (k : ℕ) × (k < length (y ∷ l)) × (get_or (y ∷ l) k 0 ≡ x)
    go (inl e) on = (0, omega arith, sym e)
    go (inr m) on = let a = on m in (suc a.0, suc-le-suc a.1, a.2)

-- ---- three numbers

-- one of three
pub data In (x a b c : ℕ) : Type 0 where
  first : x ≡ a → In x a b c
  second : x ≡ b → In x a b c
  third : x ≡ c → In x a b c

one_of : (x a b c : ℕ) → (x ≢ a → x ≢ b → x ≡ c) → In x a b c
one_of x a b c h = go (eq_or x a) (eq_or x b)
  where
    go : (x ≡ a) ⊎ (x ≢ a) → (x ≡ b) ⊎ (x ≢ b) → In x a b c
    go (inl e) d = first e
    go (inr n) (inl e) = second e
    go (inr n) (inr m) = third (h n m)

swap : {x a b c : ℕ} → In x a b c → In x b a c
swap (first e) = second e
swap (second e) = first e
swap (third e) = third e

turn : {x a b c : ℕ} → In x a b c → In x a c b
turn (first e) = first e
turn (second e) = third e
turn (third e) = second e

three : (x y z a b c : ℕ) → x ≡ a → y ≡ b → z ≡ c → ◌≡◌ {A = List ℕ} (x ∷ y ∷ z ∷ []) (a ∷ b ∷ c ∷ [])
three x y z a b c p q r = rw (p, q, r) refl

-- what holds of the three in each order that they may have holds of them put in order
in_order : (P : List ℕ → Type 0) (x y z : ℕ)
    → (x ≤ y → y ≤ z → P (x ∷ y ∷ z ∷ []))
    → (x ≤ z → z ≤ y → P (x ∷ z ∷ y ∷ []))
    → (y ≤ x → x ≤ z → P (y ∷ x ∷ z ∷ []))
    → (y ≤ z → z ≤ x → P (y ∷ z ∷ x ∷ []))
    → (z ≤ x → x ≤ y → P (z ∷ x ∷ y ∷ []))
    → (z ≤ y → y ≤ x → P (z ∷ y ∷ x ∷ []))
    → P (ascending x y z)
unfolding lowest middle highest
in_order P x y z xyz xzy yxz yzx zxy zyx = go (lt_or x y) (lt_or y z) (lt_or x z)
  where
    put : (a b c : ℕ) → min x (min y z) ≡ a → max (min x y) (min (max x y) z) ≡ b → max x (max y z) ≡ c → P (a ∷ b ∷ c ∷ [])
        → P (ascending x y z)
    put a b c p q r h = subst P (sym (three (min x (min y z)) (max (min x y) (min (max x y) z)) (max x (max y z)) a b c p q r)) h

    go : (x < y) ⊎ (y ≤ x) → (y < z) ⊎ (z ≤ y) → (x < z) ⊎ (z ≤ x) → P (ascending x y z)
    go (inl p) (inl q) r = put x y z (omega arith) (omega arith) (omega arith) (xyz (omega arith) (omega arith))
    go (inl p) (inr q) (inl r) = put x z y (omega arith) (omega arith) (omega arith) (xzy (omega arith) q)
    go (inl p) (inr q) (inr r) = put z x y (omega arith) (omega arith) (omega arith) (zxy r (omega arith))
    go (inr p) (inl q) (inl r) = put y x z (omega arith) (omega arith) (omega arith) (yxz p (omega arith))
    go (inr p) (inl q) (inr r) = put y z x (omega arith) (omega arith) (omega arith) (yzx (omega arith) r)
    go (inr p) (inr q) r = put z y x (omega arith) (omega arith) (omega arith) (zyx q p)

-- three that rise, each one of three in order, are those
module _ (a b c : ℕ) (ab : a ≤ b) (bc : b ≤ c) where
  up : (u v : ℕ) → In u a b c → In v a b c → u < v → (b ≤ v) × (u ≤ b)
  up u v (first p) (first q) h = omega arith
  up u v (first p) (second q) h = omega arith
  up u v (first p) (third q) h = omega arith
  up u v (second p) (first q) h = omega arith
  up u v (second p) (second q) h = omega arith
  up u v (second p) (third q) h = omega arith
  up u v (third p) (first q) h = omega arith
  up u v (third p) (second q) h = omega arith
  up u v (third p) (third q) h = omega arith

  bottom : (u : ℕ) → In u a b c → u < b → a ≡ u
  bottom u (first p) h = sym p
  bottom u (second p) h = omega arith
  bottom u (third p) h = omega arith

  top : (u : ℕ) → In u a b c → b < u → c ≡ u
  top u (first p) h = omega arith
  top u (second p) h = omega arith
  top u (third p) h = sym p

  rising : (u v w : ℕ) → u < v → v < w → In u a b c → In v a b c → In w a b c → ◌≡◌ {A = List ℕ} (a ∷ b ∷ c ∷ []) (u ∷ v ∷ w ∷ [])
  rising u v w uv vw p q r =
      let h = up u v p q uv in
      let k = up v w q r vw in
      three a b c u v w (bottom u p (omega arith)) (omega arith) (top w r (omega arith))

module _ (x y z : ℕ) where
  -- each of the three is one of them put in order
  ordered : (v : ℕ) → In v x y z → In v (lowest x y z) (middle x y z) (highest x y z)
  ordered v i =
      in_order (λ (l : List ℕ). In v (get_or l 0 0) (get_or l 1 0) (get_or l 2 0)) x y z
      (λ m n. i) (λ m n. turn i) (λ m n. swap i) (λ m n. turn (swap i)) (λ m n. swap (turn i)) (λ m n. turn (swap (turn i)))

  pub ordered_among : (v : ℕ) → In v x y z → among v (ascending x y z) ≡ true
  ordered_among v i = go (ordered v i)
    where
      go : In v (lowest x y z) (middle x y z) (highest x y z) → among v (ascending x y z) ≡ true
      go (first e) = ap (λ (n : ℕ). among n (ascending x y z)) e ∙ among_at (ascending x y z) 0 (omega arith)
      go (second e) = ap (λ (n : ℕ). among n (ascending x y z)) e ∙ among_at (ascending x y z) 1 (omega arith)
      go (third e) = ap (λ (n : ℕ). among n (ascending x y z)) e ∙ among_at (ascending x y z) 2 (omega arith)

  -- and the other way round
  pub lowest_in : In (lowest x y z) x y z
  unfolding lowest
  lowest_in = one_of (lowest x y z) x y z (λ n m. omega arith)

  pub middle_in : In (middle x y z) x y z
  unfolding middle
  middle_in = one_of (middle x y z) x y z (λ n m. omega arith)

  pub highest_in : In (highest x y z) x y z
  unfolding highest
  highest_in = one_of (highest x y z) x y z (λ n m. omega arith)

  -- three that rise, each one of them, are they put in order
  pub put_right : (a b c : ℕ) → a < b → b < c → In a x y z → In b x y z → In c x y z → ascending x y z ≡ a ∷ b ∷ c ∷ []
  put_right a b c ab bc p q r =
      rising (lowest x y z) (middle x y z) (highest x y z) (unfold lowest middle in omega arith) (unfold middle highest in omega arith)
      a b c ab bc (ordered a p) (ordered b q) (ordered c r)

  -- different numbers put in order rise
  pub rises : x ≢ y → x ≢ z → y ≢ z → (lowest x y z < middle x y z) × (middle x y z < highest x y z)
  rises xy xz yz =
      in_order (λ (l : List ℕ). (get_or l 0 0 < get_or l 1 0) × (get_or l 1 0 < get_or l 2 0)) x y z
      (λ m n. omega arith) (λ m n. omega arith) (λ m n. omega arith) (λ m n. omega arith) (λ m n. omega arith) (λ m n. omega arith)
