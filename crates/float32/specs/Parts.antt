-- What the parts of the code ask and give: nothing to believe.
use Rattle.std.specs.Prelude.{ℕ, ◌<◌, ◌≤◌, true, ◌≢◌, Float}
use Rattle.float32.specs.Ceiling.{not_above}

-- n is at most `most`, and no whole number before it is one that x is not above
pub record Tried (most : ℕ) (x : Float) (n : ℕ) : Type 0 where
  pub within : n ≤ most
  pub before : (k : ℕ) → k < n → not_above x k ≢ true
