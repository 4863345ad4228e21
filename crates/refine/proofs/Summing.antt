-- The sum of a table. Assumes nothing.
use mathlib.Core.Path.{◌≡◌, refl, sym, ap, ◌∙◌}
use mathlib.Core.List.{List, [], ◌∷◌}
use Prim.Native.Nat.{ℕ, ◌+◌}
use Rattle.std.specs.Prelude.{sum}
use Rattle.std.proofs.lemmas.List.Sums.{sum_by-cons}
use Rattle.octants.specs.Table.{total}

pub total_sum : (s : List ℕ) → total s ≡ sum s
unfolding total
total_sum [] = refl
total_sum (x ∷ s) = ap (λ (n : ℕ). x + n) (total_sum s) ∙ sym (sum_by-cons (λ (n : ℕ). n) x s)
