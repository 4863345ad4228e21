-- The roots that a tape tells of. Assumes nothing.
use Prim.Native.Nat.{ℕ, ◌≤◌}
use Rattle.space.specs.Space.{pos}
use Rattle.space.specs.Levels.{most_roots, Counts}
use Rattle.space.proofs.Space.{on_all}

abbrev Few : ℕ → Type 0
Few n = (1 ≤ n) × (n ≤ most_roots)

pub roots_few : (nx ny nz : ℕ) → Few nx → Few ny → Few nz → Counts most_roots (pos nx ny nz)
roots_few nx ny nz p q r =
    record {
      some = on_all (λ a. 1 ≤ pos nx ny nz a) p.0 q.0 r.0;
      few = on_all (λ a. pos nx ny nz a ≤ most_roots) p.1 q.1 r.1;
    }
