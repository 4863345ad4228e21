-- Refusals in their order: a list of numbers, each with whether its cause is there, of which the first is given.
use Rattle.std.specs.Prelude.{◌≡◌, Bool, true, false, cond, ◌&&◌, ◌||◌, List, [], ◌∷◌, ℕ, zero, suc, ◌<◌, eqb, ltb, leb}

-- a refusal's number, and whether a cause for it is there
infix 70 ◌when◌
pub data Row : Type 0 where
  ◌when◌ : ℕ → Bool → Row

-- the number of the first row whose cause is there, and 0 where there is none
unfoldable pub first : List Row → ℕ
first [] = 0
first (k when b ∷ l) = cond b k (first l)

-- the number of row i and its cause; past the last row 0, and none
unfoldable pub number_at : ℕ → List Row → ℕ
number_at i [] = 0
number_at zero (k when b ∷ l) = k
number_at (suc i) (k when b ∷ l) = number_at i l

abbrev pub cause_at : ℕ → List Row → Bool
cause_at i [] = false
cause_at zero (k when b ∷ l) = b
cause_at (suc i) (k when b ∷ l) = cause_at i l

-- some row of the number k has its cause, and no row before it has one
pub record InTurn (k : ℕ) (l : List Row) : Type 0 where
  pub row : ℕ
  pub number : number_at row l ≡ k
  pub cause : cause_at row l ≡ true
  pub before : (i : ℕ) → i < row → cause_at i l ≡ false

-- no row has the number 0
unfoldable pub proper : List Row → Bool
proper [] = true
proper (k when b ∷ l) = ltb 0 k && proper l

-- the numbers of the rows do not fall, from m on
unfoldable pub rising : ℕ → List Row → Bool
rising m [] = true
rising m (k when b ∷ l) = leb m k && rising k l

-- the numbers of the rows are below m
unfoldable pub under : ℕ → List Row → Bool
under m [] = true
under m (k when b ∷ l) = ltb k m && under m l

-- a cause for the number k is there
unfoldable pub caused : ℕ → List Row → Bool
caused k [] = false
caused k (m when b ∷ l) = (eqb m k && b) || caused k l

-- a cause for a number below k is there
unfoldable pub lower : ℕ → List Row → Bool
lower k [] = false
lower k (m when b ∷ l) = (ltb m k && b) || lower k l

-- the refusal with this number, and what follows where the number is 0
unfoldable pub unless : {A : Type 0} → ℕ → (ℕ → A) → A → A
unless zero refused answer = answer
unless (suc k) refused answer = refused (suc k)
