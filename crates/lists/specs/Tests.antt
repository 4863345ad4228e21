-- Tests of numbers.
use Rattle.std.specs.Prelude.{Bool, true, false, ◌||◌, ℕ, zero, suc}

-- a test as a number
abbrev pub bit : Bool → ℕ
bit true = 1
bit false = 0

-- some number below n passes
unfoldable pub any : ℕ → (ℕ → Bool) → Bool
any zero f = false
any (suc n) f = any n f || f n
