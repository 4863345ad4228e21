-- The level k levels down, as code has it. Assumes nothing.
use mathlib.Core.Path.{◌≡◌, refl, ap, ap₂, sym, ◌∙◌, subst, subst₂}
use mathlib.Core.List.{List}
use Prim.Native.Nat.{ℕ, suc, ◌+◌, ◌-◌, ◌*◌, ◌/◌, ◌^◌, ◌≤◌}
use native.Mathlib.Omega.{arith}
use native.Mathlib.Nat.{one-mul}
use lib.ListN.{length}
use Rattle.space.specs.Space.{Pos, pos}
use Rattle.space.proofs.Space.{pos_eta}
use Rattle.space.specs.Levels.{most_levels, most_roots, most_along, Counts, depth, size, off}
use Rattle.space.proofs.Levels.{off_suc, off_closed}
use Rattle.octants.specs.Oct.{counts, hit}
use Rattle.octants.specs.Table.{at, read}
use Rattle.octants.specs.Levels.{twice}
use Rattle.octants.proofs.Levels.{depth_counts, twice_depth, hit_level}
use Rattle.octree.specs.Parts.{counts_of, level_at, in_level, Stacked}
use Rattle.octree.specs.declared.Level.{Level}

module _ (d : Pos) (k : ℕ) {v : Level} (e : v ≡ level_at d k) where
  pub level_start : v.start ≡ off d k
  unfolding level_at
  level_start = ap (λ (v : Level). v.start) e

  pub level_counts : counts_of v ≡ depth d k
  unfolding level_at
  level_counts = ap counts_of e ∙ pos_eta (depth d k)

  -- a level by its place and its counts
  pub level_eq : {A : Type 0} (f : ℕ → Pos → A) → f v.start (counts_of v) ≡ f (off d k) (depth d k)
  level_eq f = ap₂ f level_start level_counts

  pub on_level : (P : ℕ → Pos → Type 0) → P v.start (counts_of v) → P (off d k) (depth d k)
  on_level P h = subst₂ P level_start level_counts h

  pub level_end : v.start + size (counts_of v) ≡ off d (suc k)
  level_end = level_eq (λ o n. o + size n) ∙ sym (off_suc d k)

  -- and the level below
  pub below_eq : {A : Type 0} (f : ℕ → Pos → A) → f (v.start + size (counts_of v)) (twice (counts_of v)) ≡ f (off d (suc k)) (depth d (suc k))
  below_eq f = ap₂ f level_end (ap twice level_counts ∙ twice_depth d k)

  pub on_below : (P : ℕ → Pos → Type 0) → P (v.start + size (counts_of v)) (twice (counts_of v)) → P (off d (suc k)) (depth d (suc k))
  on_below P h = subst₂ P level_end (ap twice level_counts ∙ twice_depth d k) h

  pub stacked : {s : List ℕ} → Counts most_roots d → k ≤ most_levels → off d (suc (suc k)) ≤ length s → Stacked s v
  stacked {s} c h f =
      record { counts = subst (Counts most_along) (sym level_counts) (depth_counts k c h); room = omega (arith, off_suc d (suc k), below_eq (λ o n. o + size n)) }

-- what `level_at` works out
pub level_is : (nx ny nz k w : ℕ) → w ≡ 1 * 2 ^ k
    → record { start = nx * ny * nz * ((w * w * w - 1) / 7); nx = nx * w; ny = ny * w; nz = nz * w } ≡ level_at (pos nx ny nz) k
unfolding level_at
level_is nx ny nz k w f = rw (f, one-mul, off_closed (pos nx ny nz) k) refl

-- what is read of an octant is what the tree says
pub split_is : (d : Pos) (l m : ℕ) (s : List ℕ) (p : Pos) {v : Level} → v ≡ level_at d (l - m) → 1 ≤ m → m ≤ l
    → hit (counts_of v) (in_level s v) p ≡ hit (counts l d m) (read d l s m) p
split_is d l m s p e h g =
    level_eq d (l - m) e (λ q n. hit n (at s q n) p) ∙ hit_level d l m s p h g
