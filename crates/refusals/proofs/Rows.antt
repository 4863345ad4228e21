-- Laws of the refusals in their order. Assumes nothing.
use mathlib.Core.Path.{◌≡◌, refl, sym, ap, ◌∙◌}
use mathlib.Core.Logic.{◌⊎◌, inl, inr, ◌≢◌, ◌↔◌}
use mathlib.Core.Bool.{true, false, and-false, true≢false}
use mathlib.Core.List.{List, [], ◌∷◌, ◌++◌}
use Prim.Native.Nat.{ℕ, zero, suc, ◌≤◌, ◌<◌}
use native.Mathlib.Omega.{arith}
use borrow.Author.Tests.{leb-true, ltb-true, le-ltb, lt-ltb, eq-eqb, ne_eqb}
use lib.Dec.{eqb, ltb, leb}
use Rattle.refusals.specs.Rows.{Row, ◌when◌, first, number_at, cause_at, InTurn, proper, rising, under, caused, lower, unless}
use Rattle.lists.proofs.Cases.{eq_or, lt_or}
use Rattle.lists.proofs.Bools.{and_left, and_right}

-- no row's cause is there
pub clear : (l : List Row) → proper l ≡ true → first l ≡ 0 → (i : ℕ) → cause_at i l ≡ false
unfolding first proper
clear [] h e i = refl
clear (k when true ∷ l) h e i = absurd (omega (arith, ltb-true 0 k (and_left (ltb 0 k) (proper l) h)))
clear (k when false ∷ l) h e zero = refl
clear (k when false ∷ l) h e (suc i) = clear l (and_right (ltb 0 k) (proper l) h) e i

-- rows that were looked at by themselves, in front of others
pub stops : (a b : List Row) {r : ℕ} → r ≡ first a → r ≢ 0 → r ≡ first (a ++ b)
unfolding first
stops [] b e n = absurd (n e)
stops (k when true ∷ a) b e n = e
stops (k when false ∷ a) b e n = stops a b e n

past : (a b : List Row) → ((i : ℕ) → cause_at i a ≡ false) → first (a ++ b) ≡ first b
unfolding first
past [] b h = refl
past (k when true ∷ a) b h = absurd (true≢false (h 0))
past (k when false ∷ a) b h = past a b (λ i. h (suc i))

pub goes_on : (a b : List Row) {r : ℕ} → proper a ≡ true → r ≡ first a → r ≡ 0 → first (a ++ b) ≡ first b
goes_on a b h e z = past a b (clear a h (sym e ∙ z))

-- where no row's cause is there, none is in the front
pub front_clear : (a b : List Row) → first (a ++ b) ≡ 0 → first a ≡ 0
front_clear a b e = go (eq_or (first a) 0)
  where
    go : (first a ≡ 0) ⊎ (first a ≢ 0) → first a ≡ 0
    go (inl z) = z
    go (inr d) = stops a b refl d ∙ e

-- and where the front is proper, none is in the rest
pub rest_clear : (a b : List Row) → proper a ≡ true → first (a ++ b) ≡ 0 → first b ≡ 0
rest_clear a b h e = sym (goes_on a b h refl (front_clear a b e)) ∙ e

-- ---- exactly when

found : (k : ℕ) (l : List Row) → 0 < k → first l ≡ k → InTurn k l
unfolding first number_at
found k [] p e = absurd (omega arith)
found k (n when true ∷ l) p e = record { row = 0; number = e; cause = refl; before = λ i h. absurd (omega arith) }
found k (n when false ∷ l) p e =
    let t = found k l p e in
    record { row = suc t.row; number = t.number; cause = t.cause; before = earlier t }
  where
    earlier : (t : InTurn k l) (i : ℕ) → i < suc t.row → cause_at i (n when false ∷ l) ≡ false
    earlier t zero h = refl
    earlier t (suc i) h = t.before i (omega arith)

leads : (k : ℕ) (l : List Row) → InTurn k l → first l ≡ k
unfolding first number_at
leads k [] t = absurd (true≢false (sym t.cause))
leads k (n when true ∷ l) t = go t.row t.number t.before
  where
    go : (i : ℕ) → number_at i (n when true ∷ l) ≡ k → ((j : ℕ) → j < i → cause_at j (n when true ∷ l) ≡ false) → n ≡ k
    go zero e b = e
    go (suc i) e b = absurd (true≢false (b 0 (omega arith)))
leads k (n when false ∷ l) t = leads k l (go t.row t.number t.cause t.before)
  where
    go : (i : ℕ) → number_at i (n when false ∷ l) ≡ k → cause_at i (n when false ∷ l) ≡ true → ((j : ℕ) → j < i → cause_at j (n when false ∷ l) ≡ false) → InTurn k l
    go zero e c b = absurd (true≢false (sym c))
    go (suc i) e c b = record { row = i; number = e; cause = c; before = λ j h. b (suc j) (omega arith) }

-- a number is given exactly when some row of this number has its cause and no row before it has one, whatever the rows
pub in_turn : {number : ℕ} (l : List Row) → number ≡ first l → (k : ℕ) → 0 < k → (number ≡ k) ↔ InTurn k l
in_turn l e k p = (λ n. found k l p (sym e ∙ n), λ t. e ∙ leads k l t)

quiet : (l : List Row) → ((i : ℕ) → cause_at i l ≡ false) → first l ≡ 0
unfolding first
quiet [] c = refl
quiet (k when true ∷ l) c = absurd (true≢false (c 0))
quiet (k when false ∷ l) c = quiet l (λ i. c (suc i))

-- and none is given exactly when no row has its cause
pub none_given : {number : ℕ} (l : List Row) → proper l ≡ true → number ≡ first l → (number ≡ 0) ↔ ((i : ℕ) → cause_at i l ≡ false)
none_given l h e = (λ n. clear l h (sym e ∙ n), λ c. e ∙ quiet l c)

-- ---- the lowest first, where the numbers of the rows do not fall

-- no cause for a number below m is there where the rows start at m
none_lower : (k m : ℕ) (l : List Row) → k ≤ m → rising m l ≡ true → lower k l ≡ false
unfolding lower rising
none_lower k m [] h r = refl
none_lower k m (n when b ∷ l) h r =
    let g : m ≤ n = leb-true m n (and_left (leb m n) (rising n l) r) in
    rw (le-ltb n k (omega arith)) (none_lower k n l (omega arith) (and_right (leb m n) (rising n l) r))

pub given : (k m : ℕ) (l : List Row) → rising m l ≡ true → 0 < k → first l ≡ k → (caused k l ≡ true) × (lower k l ≡ false)
unfolding first caused lower rising
given k m [] r p e = absurd (omega arith)
given k m (n when true ∷ l) r p e =
    (rw (eq-eqb n k e) refl, rw (le-ltb n k (omega arith)) (none_lower k n l (omega arith) (and_right (leb m n) (rising n l) r)))
given k m (n when false ∷ l) r p e =
    let g = given k n l (and_right (leb m n) (rising n l) r) p e in
    (rw (and-false (eqb n k)) g.0, rw (and-false (ltb n k)) g.1)

-- no cause for a number below m is there where the rows start at m
none_caused : (k m : ℕ) (l : List Row) → k < m → rising m l ≡ true → caused k l ≡ false
unfolding caused rising
none_caused k m [] h r = refl
none_caused k m (n when b ∷ l) h r =
    let g : m ≤ n = leb-true m n (and_left (leb m n) (rising n l) r) in
    rw (ne_eqb n k (λ e. omega arith)) (none_caused k n l (omega arith) (and_right (leb m n) (rising n l) r))

pub gives : (k m : ℕ) (l : List Row) → rising m l ≡ true → caused k l ≡ true → lower k l ≡ false → first l ≡ k
unfolding first caused lower rising
gives k m [] r c n = absurd (true≢false (sym c))
gives k m (j when true ∷ l) r c n = go (eq_or j k) (lt_or j k)
  where
    go : (j ≡ k) ⊎ (j ≢ k) → (j < k) ⊎ (k ≤ j) → j ≡ k
    go (inl e) q = e
    go (inr d) (inl q) = absurd (true≢false (rw (lt-ltb j k q) at n))
    go (inr d) (inr q) =
        absurd (true≢false (sym (rw (ne_eqb j k d) at c) ∙ none_caused k j l (omega arith) (and_right (leb m j) (rising j l) r)))
gives k m (j when false ∷ l) r c n =
    gives k j l (and_right (leb m j) (rising j l) r) (rw (and-false (eqb j k)) at c) (rw (and-false (ltb j k)) at n)

-- a number is given exactly when a cause for it is there, and none for a lower one
pub exactly : {number : ℕ} (l : List Row) → rising 1 l ≡ true → number ≡ first l → (k : ℕ) → 0 < k
    → (number ≡ k) ↔ ((caused k l ≡ true) × (lower k l ≡ false))
exactly l r e k p = (λ n. given k 1 l r p (sym e ∙ n), λ h. e ∙ gives k 1 l r h.0 h.1)

-- a number given is that of a row
pub first_under : (m : ℕ) (l : List Row) → 0 < m → under m l ≡ true → first l < m
unfolding first under
first_under m [] p h = p
first_under m (k when true ∷ l) p h = ltb-true k m (and_left (ltb k m) (under m l) h)
first_under m (k when false ∷ l) p h = first_under m l p (and_right (ltb k m) (under m l) h)

-- ---- the answer after the number

module _ {A : Type 0} (n : ℕ) (R : ℕ → A) (a : A) where
  pub unless_none : n ≡ 0 → unless n R a ≡ a
  unfolding unless
  unless_none e = ap (λ (k : ℕ). unless k R a) e

  pub unless_some : n ≢ 0 → unless n R a ≡ R n
  unless_some h = go n h
    where
      go : (k : ℕ) → k ≢ 0 → unless k R a ≡ R k
      go zero d = absurd (d refl)
      go (suc k) d = unfold unless in refl

-- a step's number is that of the first row, where what follows the first rows has the number of the others
pub number_rows : {A : Type 0} (number : A → ℕ) (R : ℕ → A) (a : A) (rows more : List Row) → proper rows ≡ true
    → ((k : ℕ) → number (R k) ≡ k) → number a ≡ first more → number (unless (first rows) R a) ≡ first (rows ++ more)
number_rows number R a rows more h n e = go (eq_or (first rows) 0)
  where
    go : (first rows ≡ 0) ⊎ (first rows ≢ 0) → number (unless (first rows) R a) ≡ first (rows ++ more)
    go (inl z) = ap number (unless_none (first rows) R a z) ∙ e ∙ sym (goes_on rows more h refl z)
    go (inr d) = ap number (unless_some (first rows) R a d) ∙ n (first rows) ∙ stops rows more refl d

-- and where nothing follows them that refuses
pub number_alone : {A : Type 0} (number : A → ℕ) (R : ℕ → A) (a : A) (rows : List Row) → ((k : ℕ) → number (R k) ≡ k) → number a ≡ 0
    → number (unless (first rows) R a) ≡ first rows
number_alone number R a rows n e = go (eq_or (first rows) 0)
  where
    go : (first rows ≡ 0) ⊎ (first rows ≢ 0) → number (unless (first rows) R a) ≡ first rows
    go (inl z) = ap number (unless_none (first rows) R a z) ∙ e ∙ sym z
    go (inr d) = ap number (unless_some (first rows) R a d) ∙ n (first rows)
