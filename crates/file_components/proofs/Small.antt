-- Component numbers fit a word. Assumes nothing.
use mathlib.Core.Path.{◌≡◌, ap}
use mathlib.Core.Bool.{true}
use mathlib.Core.List.{List, []}
use mathlib.Core.Logic.{◌⊎◌, inl, inr}
use Prim.Native.Nat.{ℕ, zero, suc, ◌≤◌, ◌<◌}
use native.Mathlib.Omega.{arith}
use lib.ListN.{length, get_or}
use Rattle.lists.specs.Tables.{all_below}
use Rattle.lists.specs.Appearance.{place, noted, seen_of}
use Rattle.lists.proofs.Cases.{lt_or}
use Rattle.lists.proofs.Lent.{all_below_lem}
use Rattle.lists.proofs.Appearing.{place_le, noted_old, length_noted, number_next}
use Rattle.mesh.specs.Mesh.{most}
use Rattle.links.specs.Labels.{label_at}
use Rattle.components.specs.Numbers.{component_numbers}
use Rattle.components.proofs.Patterns.{length_components}

seen_le : (g : ℕ → ℕ) (n : ℕ) → length (seen_of g n) ≤ n
unfolding seen_of
seen_le g zero = omega arith
seen_le g (suc n) = go (seen_le g n) (lt_or (place (g n) (seen_of g n)) (length (seen_of g n)))
  where
    go : length (seen_of g n) ≤ n → (place (g n) (seen_of g n) < length (seen_of g n)) ⊎ (length (seen_of g n) ≤ place (g n) (seen_of g n))
        → length (noted (g n) (seen_of g n)) ≤ suc n
    go ih (inl q) = omega (arith, ap length (noted_old (g n) (seen_of g n) q))
    go ih (inr q) = omega (arith, length_noted (g n) (seen_of g n) q)

-- a cell's number is not above the cell's
number_le : (C : List ℕ) (n i : ℕ) → i < n → get_or (component_numbers C n) i 0 ≤ i
unfolding component_numbers
number_le C n i h =
    omega (arith, number_next (label_at C [] n) n i h, place_le (label_at C [] n i) (seen_of (label_at C [] n) i), seen_le (label_at C [] n) i)

pub numbers_small : (C : List ℕ) (n : ℕ) → n ≤ most → all_below 4294967296 (component_numbers C n) ≡ true
numbers_small C n few =
    all_below_lem 4294967296 (component_numbers C n)
    (λ i h. let k : i < n = omega (arith, length_components C n) in omega (arith, number_le C n i k))
