-- Sums that grow turn by turn and are looked at each time: since they only grow, one that does not fit on the way does not fit at the end. Assumes nothing.
use mathlib.Core.Path.{◌≡◌, refl, sym, ap, ◌∙◌}
use mathlib.Core.Logic.{◌⊎◌, inl, inr}
use mathlib.Core.Bool.{Bool, true, false, cond, ◌&&◌, and-false}
use mathlib.Core.List.{List}
use Prim.Native.Nat.{ℕ, suc, ◌+◌, ◌-◌, ◌^◌, ◌≤◌, ◌<◌}
use native.Mathlib.Numerals.{add-one}
use native.Mathlib.Omega.{arith}
use borrow.Author.Tests.{lt-ltb, le-ltb, ltb-false}
use lib.ListN.{length}
use Rattle.std.specs.Prelude.{Some, None}
use Rattle.std.proofs.lemmas.Option.{none-some, same_Some}
use Rattle.sorting.specs.Numbers.{cnt}
use Rattle.lists.specs.Runs.{sums}
use Rattle.lists.proofs.Cases.{lt_or}
use Rattle.coverage.specs.Parts.{fits64, sums_of, with_counts, counted_of}
use Rattle.coverage.specs.declared.Totals.{Totals}
use Rattle.coverage.specs.declared.Sums.{Sums}

-- what is still to be added, after one more turn, and at the end
sums_turn : (f : ℕ → ℕ) (n i : ℕ) → i < n → sums (n - i) f i ≡ f i + sums (n - (i + 1)) f (i + 1)
unfolding sums
sums_turn f n i h =
    let e : n - i ≡ suc (n - (i + 1)) = omega arith in
    ap (λ (k : ℕ). sums k f i) e ∙ ap (λ (k : ℕ). f i + sums (n - (i + 1)) f k) (sym (add-one i))

sums_end : (f : ℕ → ℕ) (n i : ℕ) → n ≤ i → sums (n - i) f i ≡ 0
unfolding sums
sums_end f n i h = let e : n - i ≡ 0 = omega arith in ap (λ (k : ℕ). sums k f i) e

-- at turn i the sum is s, and with the turns still to come it is total
pub record Growing (f : ℕ → ℕ) (n i s total : ℕ) : Type 0 where
  pub left : s + sums (n - i) f i ≡ total
  pub fit : fits64 s ≡ true

pub grow_start : (f : ℕ → ℕ) (n s : ℕ) → s < 2 ^ 64 → Growing f n 0 s (s + sums n f 0)
grow_start f n s h = record {
  left = let e : n - 0 ≡ n = omega arith in ap (λ (k : ℕ). s + sums k f 0) e;
  fit = lt-ltb s (2 ^ 64) h;
}

module _ {f : ℕ → ℕ} {n i s total : ℕ} (g : Growing f n i s total) where
  pub grow_turn : {v : ℕ} → i < n → v ≡ f i → fits64 (s + v) ≡ true → Growing f n (i + 1) (s + v) total
  grow_turn h e t = record { left = omega (arith, g.left, sums_turn f n i h, e); fit = t }

  pub grow_over : {v : ℕ} → i < n → v ≡ f i → fits64 (s + v) ≡ false → fits64 total ≡ false
  grow_over {v} h e t = le-ltb total (2 ^ 64) (omega (arith, g.left, sums_turn f n i h, e, ltb-false (s + v) (2 ^ 64) t))

  pub grow_done : n ≤ i → s ≡ total
  grow_done h = omega (arith, g.left, sums_end f n i h)

-- two sums
abbrev as_sums : ℕ → ℕ → Sums
as_sums part all = record { part = part; all = all }

pub over_part : (part all : ℕ) → fits64 part ≡ false → None ≡ sums_of part all
unfolding sums_of
over_part part all e = rw e refl

pub over_all : (part all : ℕ) → fits64 all ≡ false → None ≡ sums_of part all
unfolding sums_of
over_all part all e = rw (e, and-false (fits64 part)) refl

pub both_fit : {p a part all : ℕ} → p ≡ part → a ≡ all → fits64 p ≡ true → fits64 a ≡ true → Some (record { part = p; all = a }) ≡ sums_of part all
unfolding sums_of
both_fit e f h k = rw (← e, ← f, h, k) refl

pub no_sums : (part all : ℕ) → sums_of part all ≡ None → (fits64 part ≡ false) ⊎ (fits64 all ≡ false)
unfolding sums_of
no_sums part all e = go (fits64 part) (fits64 all) e
  where
    go : (a b : Bool) → cond (a && b) (Some (as_sums part all)) None ≡ None → (a ≡ false) ⊎ (b ≡ false)
    go true true e = absurd (none-some _ (sym e))
    go true false e = inr refl
    go false b e = inl refl

pub the_sums : (part all : ℕ) {z : Sums} → sums_of part all ≡ Some z → (z.part ≡ part) × (z.all ≡ all) × (fits64 part ≡ true) × (fits64 all ≡ true)
unfolding sums_of
the_sums part all {z} e = go (fits64 part) (fits64 all) e
  where
    go : (b d : Bool) → cond (b && d) (Some (as_sums part all)) None ≡ Some z → (z.part ≡ part) × (z.all ≡ all) × (b ≡ true) × (d ≡ true)
    go true true e = let q : as_sums part all ≡ z = same_Some _ _ e in (sym (ap (λ (s : Sums). s.part) q), sym (ap (λ (s : Sums). s.all) q), refl, refl)
    go true false e = absurd (none-some _ e)
    go false d e = absurd (none-some _ e)

-- ---- three counts
module _ (t : Totals) (M : List ℕ) where
  pub no_cells : fits64 (t.cells + length M) ≡ false → None ≡ counted_of t M
  unfolding counted_of
  no_cells e = rw e refl

  pub no_kept : {n : ℕ} → n ≡ cnt 1 M → fits64 (t.kept + n) ≡ false → None ≡ counted_of t M
  unfolding counted_of
  no_kept q e = rw (rw q at e, and-false (fits64 (t.cells + length M))) refl

  pub no_dropped : {n : ℕ} → n ≡ cnt 2 M → fits64 (t.dropped + n) ≡ false → None ≡ counted_of t M
  unfolding counted_of
  no_dropped q e = rw (rw q at e, and-false (fits64 (t.kept + cnt 1 M)), and-false (fits64 (t.cells + length M))) refl

  pub counts_fit : {k d : ℕ} → k ≡ cnt 1 M → d ≡ cnt 2 M → fits64 (t.cells + length M) ≡ true → fits64 (t.kept + k) ≡ true → fits64 (t.dropped + d) ≡ true
      → Some (record { cells = t.cells + length M; kept = t.kept + k; dropped = t.dropped + d; sixfold_kept = t.sixfold_kept; sixfold_all = t.sixfold_all }) ≡ counted_of t M
  unfolding counted_of
  counts_fit ek ed fn fk fd = rw (ek, ed, fn, rw ek at fk, rw ed at fd) refl

  -- which of them does not fit; or they all do
  pub no_counts : counted_of t M ≡ None → (fits64 (t.cells + length M) ≡ false) ⊎ ((fits64 (t.kept + cnt 1 M) ≡ false) ⊎ (fits64 (t.dropped + cnt 2 M) ≡ false))
  unfolding counted_of
  no_counts e = go (fits64 (t.cells + length M)) (fits64 (t.kept + cnt 1 M)) (fits64 (t.dropped + cnt 2 M)) e
    where
      go : (a b c : Bool) → cond (a && (b && c)) (Some (with_counts t M)) None ≡ None → (a ≡ false) ⊎ ((b ≡ false) ⊎ (c ≡ false))
      go true true true e = absurd (none-some _ (sym e))
      go true true false e = inr (inr refl)
      go true false c e = inr (inl refl)
      go false b c e = inl refl

  pub the_counts : {u : Totals} → counted_of t M ≡ Some u
      → (u ≡ with_counts t M) × (fits64 (t.cells + length M) ≡ true) × (fits64 (t.kept + cnt 1 M) ≡ true) × (fits64 (t.dropped + cnt 2 M) ≡ true)
  unfolding counted_of
  the_counts {u} e = go (fits64 (t.cells + length M)) (fits64 (t.kept + cnt 1 M)) (fits64 (t.dropped + cnt 2 M)) e
    where
      go : (a b c : Bool) → cond (a && (b && c)) (Some (with_counts t M)) None ≡ Some u → (u ≡ with_counts t M) × (a ≡ true) × (b ≡ true) × (c ≡ true)
      go true true true e = (sym (same_Some _ _ e), refl, refl, refl)
      go true true false e = absurd (none-some _ e)
      go true false c e = absurd (none-some _ e)
      go false b c e = absurd (none-some _ e)

-- ---- room for one more number

pub room : (a b : ℕ) → a + b < 2 ^ 64 → fits64 (a + b) ≡ true
room a b h = lt-ltb (a + b) (2 ^ 64) h

pub no_room : (a b : ℕ) → (a + b < 2 ^ 64 → ⊥) → fits64 (a + b) ≡ false
no_room a b h = go (lt_or (a + b) (2 ^ 64))
  where
    go : (a + b < 2 ^ 64) ⊎ (2 ^ 64 ≤ a + b) → fits64 (a + b) ≡ false
    go (inl q) = absurd (h q)
    go (inr q) = le-ltb (a + b) (2 ^ 64) q
