-- The balance level by level, from the finest up, makes the balanced tree. Assumes nothing.
use mathlib.Core.Path.{◌≡◌, refl, ap, sym, ◌∙◌, subst, subst₂}
use mathlib.Core.Bool.{Bool, true, false, not, ◌&&◌, ◌||◌}
use mathlib.Core.List.{List}
use Prim.Native.Nat.{ℕ, suc, ◌+◌, ◌-◌, ◌≤◌, ◌<◌}
use native.Mathlib.Omega.{arith}
use native.Mathlib.Nat.{mul-le-mul}
use lib.Pow.{pow_mono}
use lib.Dec.{eqb}
use lib.ListN.{get_or, length}
use Rattle.lists.specs.Tests.{any, bit}
use Rattle.lists.specs.Tables.{all_at_most}
use Rattle.lists.proofs.Any.{some_any}
use Rattle.space.specs.Space.{ax, Pos}
use Rattle.space.specs.Levels.{most_roots, Counts, depth, size, off}
use Rattle.octants.specs.Oct.{Tree, near, balanced}
use Rattle.octants.specs.Table.{place, at, read, balance_of}
use Rattle.octants.specs.Judge.{unsteady, is_graded}
use Rattle.octants.proofs.TableLaws.{bit_read}
use Rattle.octants.proofs.Near.{near_cong}
use Rattle.octree.specs.Parts.{counts_of, level_at}
use Rattle.octree.specs.Sweep.{one, Swept, Shows}
use Rattle.octree.specs.declared.Level.{Level}
use Rattle.octree.proofs.Levels.{level_counts, level_eq, on_level, below_eq, stacked}
use Rattle.octree.proofs.Sweeping.{swept_cong}
use Rattle.octree.proofs.Showing.{shows_at, shows_table, shows_read, shows_part, shows_above, shows_under, shows_join}
use Rattle.balance.proofs.Rowing.{any_cong}
use Rattle.balance.specs.Parts.{LevelAsked, touches, balanced_byte, gives}

-- a split octant of the level below touches octant i of the level j levels down
abbrev near_at : Pos → List ℕ → ℕ → Pos → Bool
near_at d s j x = near (depth d (suc j)) (at s (off d (suc j)) (depth d (suc j))) x

module _ (d : Pos) (j : ℕ) {v : Level} (e : v ≡ level_at d j) where
  pub level_asked : {s : List ℕ} → Counts most_roots d → j ≤ 3 → off d (suc (suc j)) ≤ length s → LevelAsked s v
  level_asked c h f =
      record {
        stacked = stacked d j e c (omega arith) f;
        short = omega (arith, ap (λ (n : Pos). n ax) (level_counts d j e), mul-le-mul (c.few ax) (pow_mono h));
      }

  touches_at : (s : List ℕ) (i : ℕ) → touches s v i ≡ near_at d s j (place (counts_of v) i)
  unfolding touches
  touches_at s i = below_eq d j e (λ o n. near n (at s o n) (place (counts_of v) i))

  level_balanced : {s t : List ℕ} → Swept s t v.start (size (counts_of v)) (balanced_byte s v)
      → Swept s t (off d j) (size (depth d j)) (λ i. bit (one s (off d j + i) || near_at d s j (place (depth d j) i)))
  level_balanced {s} {t} w = on_level d j e (λ o n. Swept s t o (size n) (λ i. bit (one s (o + i) || near_at d s j (place n i))))
      (swept_cong _ w (λ i h. ap (λ (b : Bool). bit (one s (v.start + i) || b)) (touches_at s i)))

  -- what the test of the level tells
  pub level_unsteady : (s : List ℕ) → any (size (counts_of v)) (gives s v) ≡ any (size (depth d j)) (unsteady d s j)
  unfolding unsteady
  level_unsteady s =
      any_cong (size (counts_of v)) _ _ (λ i h. ap (λ (b : Bool). not (one s (v.start + i)) && b) (touches_at s i))
      ∙ level_eq d j e (λ o n. any (size n) (λ i. not (one s (o + i)) && near_at d s j (place n i)))

module _ (d : Pos) (l : ℕ) (r : Tree) where
  -- the balance in terms of the depth
  balanced_at : (j : ℕ) (x : Pos) → suc (suc j) ≤ l → balanced l d r (l - j) x ≡ r (l - j) x || near (depth d (suc j)) (balanced l d r (l - suc j)) x
  unfolding balanced
  balanced_at j x h =
      let m : ℕ = l - suc (suc j) in
      let e1 : suc (suc m) ≡ l - j = omega arith in
      let e2 : suc m ≡ l - suc j = omega arith in
      let e3 : l - suc m ≡ suc j = omega arith in
      subst₂ (λ (a b : ℕ). balanced l d r a x ≡ r a x || near (depth d (suc j)) (balanced l d r b) x) e1 e2
      (ap (λ (k : ℕ). r (suc (suc m)) x || near (depth d k) (balanced l d r (suc m)) x) e3)

  balanced_last : (j : ℕ) (x : Pos) → suc j ≡ l → balanced l d r (l - j) x ≡ r (l - j) x
  unfolding balanced
  balanced_last j x h =
      let e : 1 ≡ l - j = omega arith in
      subst (λ (a : ℕ). balanced l d r a x ≡ r a x) e refl

  -- the levels above j as given, those from j on balanced
  pub record Half (s : List ℕ) (j : ℕ) : Type 0 where
    pub above : Shows d l s r 0 j
    pub below : Shows d l s (balanced l d r) j l

  half_start : {s : List ℕ} (j : ℕ) → suc j ≡ l → Shows d l s r 0 l → Half s j
  half_start {s} j e h =
      record {
        above = shows_part d l s r 0 l 0 j (omega arith) (omega arith) h;
        below = record { byte = λ k i p q o. h.byte k i (omega arith) q o ∙ ap bit (sym (balanced_last k (place (depth d k) i) (omega arith))) };
      }

  half_more : {s t : List ℕ} (j : ℕ) → suc (suc j) ≤ l
      → Swept s t (off d j) (size (depth d j)) (λ i. bit (one s (off d j + i) || near_at d s j (place (depth d j) i))) → Half s (suc j) → Half t j
  half_more {s} {t} j f w h =
      record {
        above = shows_above d l j r 0 j w (omega arith) (shows_part d l s r 0 (suc j) 0 j (omega arith) (omega arith) h.above);
        below = shows_join d l t (balanced l d r) j l j byte (record { byte = λ k i p q o. absurd (omega arith) })
            (shows_under d l j (balanced l d r) (suc j) l w (omega arith) h.below);
      }
    where
      byte : (i : ℕ) → i < size (depth d j) → get_or t (off d j + i) 0 ≡ bit (balanced l d r (l - j) (place (depth d j) i))
      byte i o =
          let x : Pos = place (depth d j) i in
          w.done i o
          ∙ ap (λ (b : ℕ). bit (eqb b 1 || near_at d s j x)) (h.above.byte j i (omega arith) (omega arith) o)
          ∙ ap (λ (b : Bool). bit (b || near_at d s j x)) (bit_read (r (l - j) x))
          ∙ ap (λ (b : Bool). bit (r (l - j) x || b)) (near_cong (depth d (suc j)) _ _ (shows_at d l s (balanced l d r) (suc j) l (suc j) h.below (omega arith) (omega arith)) x)
          ∙ ap bit (sym (balanced_at j x f))

-- ---- as the code's loop asks

module _ (d : Pos) (l : ℕ) (c : List ℕ) where
  -- what it knows before it balances the level j levels down
  pub record Balanced (s : List ℕ) (j : ℕ) : Type 0 where
    pub few : j < l
    pub long : length s ≡ length c
    pub half : Half d l (read d l c) s j

  pub balance_start : (j : ℕ) → suc j ≡ l → length c ≡ off d l → all_at_most 1 c ≡ true → Balanced c j
  balance_start j e f a = record { few = omega arith; long = refl; half = half_start d l (read d l c) j e (shows_read d l c f a) }

  pub balance_turn : {s t : List ℕ} (j : ℕ) {v : Level} → 0 < j → v ≡ level_at d (j - 1) → Swept s t v.start (size (counts_of v)) (balanced_byte s v)
      → Balanced s j → Balanced t (j - 1)
  balance_turn {s} {t} j p e w h =
      let u : j ≡ suc (j - 1) = omega arith in
      let q : j < l = h.few in
      record {
        few = omega arith;
        long = w.long ∙ h.long;
        half = half_more d l (read d l c) (j - 1) (omega arith) (level_balanced d (j - 1) e w) (subst (Half d l (read d l c) s) u h.half);
      }

  pub balance_end : (s : List ℕ) (j : ℕ) → j ≤ 0 → length c ≡ off d l → Balanced s j → s ≡ balance_of d l c
  balance_end s j p e h =
      shows_table d l s (balanced l d (read d l c)) (h.long ∙ e) (shows_part d l s (balanced l d (read d l c)) j l 0 l p (omega arith) h.half.below)

-- ---- the whole test

pub graded_not : (d : Pos) (l j : ℕ) (s : List ℕ) → j < l - 1 → any (size (depth d j)) (unsteady d s j) ≡ true → false ≡ is_graded d l s
unfolding is_graded
graded_not d l j s f h = ap not (sym (some_any (l - 1) (λ j. any (size (depth d j)) (unsteady d s j)) j f h))

pub graded_all : (d : Pos) (l j : ℕ) (s : List ℕ) → j ≤ l - 1 → l - 1 ≤ j → any j (λ j. any (size (depth d j)) (unsteady d s j)) ≡ false → true ≡ is_graded d l s
unfolding is_graded
graded_all d l j s f g h =
    let e : j ≡ l - 1 = omega arith in
    ap not (sym h) ∙ ap (λ (k : ℕ). not (any k (λ j. any (size (depth d j)) (unsteady d s j)))) e
