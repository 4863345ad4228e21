-- What the table shows of a tree, level by level. Assumes nothing.
use mathlib.Core.Path.{◌≡◌, refl, ap, sym, ◌∙◌, subst}
use mathlib.Core.Bool.{true}
use mathlib.Core.List.{List}
use Prim.Native.Nat.{ℕ, zero, suc, ◌+◌, ◌-◌, ◌≤◌, ◌<◌}
use native.Mathlib.Omega.{arith}
use native.Mathlib.Decide.{dec_le}
use lib.Dec.{eqb}
use lib.ListN.{get_or, length}
use Rattle.lists.specs.Tests.{bit}
use Rattle.lists.specs.Tables.{all_at_most}
use Rattle.lists.proofs.Lent.{below_at}
use Rattle.space.specs.Space.{Pos, Inside}
use Rattle.space.specs.Levels.{depth, size, off}
use Rattle.space.proofs.Levels.{off_suc}
use Rattle.octants.specs.Oct.{Tree}
use Rattle.octants.specs.Table.{slot, place, at, read, table}
use Rattle.octants.proofs.TableLaws.{place_slot, slot_place, slot_lt, table_is, off_mono, off_le, bit_read}
use Rattle.octants.proofs.Levels.{read_at}
use Rattle.octree.specs.Sweep.{one, Swept, Shows}

bit_of : (b : ℕ) → b < 2 → b ≡ bit (eqb b 1)
bit_of zero h = refl
bit_of (suc zero) h = refl
bit_of (suc (suc b)) h = absurd (omega arith)

module _ (d : Pos) (l : ℕ) where
  -- a level that the table shows is read so
  pub shows_at : (s : List ℕ) (t : Tree) (lo hi j : ℕ) → Shows d l s t lo hi → lo ≤ j → j < hi → (y : Pos) → Inside (depth d j) y
      → at s (off d j) (depth d j) y ≡ t (l - j) y
  shows_at s t lo hi j h p q y i =
      ap (λ (b : ℕ). eqb b 1) (h.byte j (slot (depth d j) y) p q (slot_lt (depth d j) y i))
      ∙ bit_read (t (l - j) (place (depth d j) (slot (depth d j) y)))
      ∙ ap (t (l - j)) (place_slot (depth d j) y i)

  pub shows_table : (s : List ℕ) (t : Tree) → length s ≡ off d l → Shows d l s t 0 l → s ≡ table d l t
  shows_table s t e h = table_is d l t s e (λ j r p q. h.byte j r (omega arith) p q)

  -- a table of 0 and 1 shows what is read from it
  pub read_one : (s : List ℕ) (j r : ℕ) → j < l → one s (off d j + r) ≡ read d l s (l - j) (place (depth d j) r)
  read_one s j r f =
      ap (λ (v : ℕ). one s (off d j + v)) (sym (slot_place (depth d j) r)) ∙ sym (read_at d l s j (place (depth d j) r) f)

  pub shows_read : (s : List ℕ) → length s ≡ off d l → all_at_most 1 s ≡ true → Shows d l s (read d l s) 0 l
  shows_read s e a = record {
    byte = λ j r p q i. bit_of (get_or s (off d j + r) 0) (below_at 2 s a (off d j + r) (omega (arith, off_mono d j l r q i)))
        ∙ ap bit (read_one s j r q);
  }

  -- fewer levels
  pub shows_part : (s : List ℕ) (t : Tree) (lo hi lo' hi' : ℕ) → lo ≤ lo' → hi' ≤ hi → Shows d l s t lo hi → Shows d l s t lo' hi'
  shows_part s t lo hi lo' hi' p q h = record { byte = λ j r a b i. h.byte j r (omega arith) (omega arith) i }

  -- a pass over the level k levels down leaves the others
  module _ {e s : List ℕ} {f : ℕ → ℕ} (k : ℕ) (t : Tree) (lo hi : ℕ) (w : Swept e s (off d k) (size (depth d k)) f) where
    pub shows_above : hi ≤ k → Shows d l e t lo hi → Shows d l s t lo hi
    shows_above f h = record { byte = λ j r p q i. w.low (off d j + r) (off_mono d j k r (omega arith) i) ∙ h.byte j r p q i }

    pub shows_under : suc k ≤ lo → Shows d l e t lo hi → Shows d l s t lo hi
    shows_under f h = record { byte = λ j r p q i. w.high (off d j + r) (omega (arith, off_le d (suc k) j (omega arith), off_suc d k)) ∙ h.byte j r p q i }

  -- the level k levels down, between those above and those below it
  pub shows_join : (s : List ℕ) (t : Tree) (lo hi k : ℕ)
      → ((i : ℕ) → i < size (depth d k) → get_or s (off d k + i) 0 ≡ bit (t (l - k) (place (depth d k) i)))
      → Shows d l s t lo k → Shows d l s t (suc k) hi → Shows d l s t lo hi
  shows_join s t lo hi k b g h = record { byte = here }
    where
      here : (j i : ℕ) → lo ≤ j → j < hi → i < size (depth d j) → get_or s (off d j + i) 0 ≡ bit (t (l - j) (place (depth d j) i))
      here j i p q o = go (dec_le (suc k) j) (dec_le k j)
        where
          go : Dec (suc k ≤ j) → Dec (k ≤ j) → get_or s (off d j + i) 0 ≡ bit (t (l - j) (place (depth d j) i))
          go (yes a) c = h.byte j i a q o
          go (no a) (no c) = g.byte j i p (omega arith) o
          go (no a) (yes c) =
              let u : k ≡ j = omega arith in
              subst (λ (j : ℕ). (i : ℕ) → i < size (depth d j) → get_or s (off d j + i) 0 ≡ bit (t (l - j) (place (depth d j) i))) u b i o
