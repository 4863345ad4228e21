-- Laws of the parts of the viewer's file as the code reads them. Assumes nothing.
use mathlib.Core.Path.{◌≡◌, sym, ap, ◌∙◌}
use mathlib.Core.Logic.{◌≢◌, ◌⊎◌, inl, inr}
use mathlib.Core.Bool.{true, cond}
use mathlib.Core.List.{List, ◌∷◌}
use Prim.Native.Nat.{ℕ, zero, suc, ◌+◌, ◌-◌, ◌≤◌, ◌<◌}
use native.Mathlib.Nat.{not-suc-le-zero}
use native.Mathlib.Numerals.{add-one}
use native.Mathlib.Omega.{arith}
use borrow.Author.Tests.{lt-ltb, le-ltb, eq-eqb, ne_eqb}
use lib.Dec.{ltb}
use lib.ListN.{length, get_or}
use Rattle.decimal.specs.Text.{text_at}
use Rattle.decimal.specs.Digits.{number_at, count_at, read}
use Rattle.decimal.proofs.Texts.{either_way, never_at, number_small}
use Rattle.decimal.proofs.Counts.{count_found, never_read}
use Rattle.lists.proofs.Cases.{lt_or}
use Rattle.std.specs.Prelude.{Ok, Err}
use Rattle.refusals.specs.declared.Refusal.TheVariants.{Cut, Trailing}
use Rattle.vtk_layout.specs.Texts.{feed, version_line, dataset_lines}
use Rattle.vtk_layout.specs.Layout.{title_at, block_at, line_at, section_at, counted_at, head_of, no_feed}

-- ---- the loop that passes over a title

pub title_on : (b : List ℕ) (q left : ℕ) → 0 < left → q < length b → get_or b q 0 ≢ 10 → title_at left b q ≡ title_at (left - 1) b (q + 1)
unfolding title_at
title_on b q zero h l n = absurd (not-suc-le-zero h)
title_on b q (suc k) h l n = let e : suc k - 1 ≡ k = omega arith in rw (e, add-one q, lt-ltb q (length b) l, ne_eqb _ _ n)

pub title_feed : (b : List ℕ) (q left : ℕ) → 0 < left → q < length b → get_or b q 0 ≡ 10 → title_at left b q ≡ Ok (q + 1)
unfolding title_at
title_feed b q zero h l n = absurd (not-suc-le-zero h)
title_feed b q (suc k) h l n = rw (add-one q, lt-ltb q (length b) l, eq-eqb _ _ n)

pub title_ends : (b : List ℕ) (q left : ℕ) → 0 < left → length b ≤ q → title_at left b q ≡ Err Cut
unfolding title_at
title_ends b q zero h l = absurd (not-suc-le-zero h)
title_ends b q (suc k) h l = rw (le-ltb q (length b) l)

pub title_last : (b : List ℕ) (q left : ℕ) → left ≤ 0 → title_at left b q ≡ text_at feed b q
unfolding title_at
title_last b q left h = let e : left ≡ 0 = omega arith in ap (λ (k : ℕ). title_at k b q) e

pub title_next : (k : ℕ) (b : List ℕ) (at : ℕ) → at < length b → get_or b at 0 ≢ 10 → title_at (suc k) b at ≡ title_at k b (suc at)
unfolding title_at
title_next k b at l y = rw (lt-ltb at (length b) l, ne_eqb _ _ y)

pub no_feed_lem : (y : ℕ) (t : List ℕ) → y ≢ 10 → no_feed t ≡ true → no_feed (y ∷ t) ≡ true
unfolding no_feed
no_feed_lem y t d h = rw (ne_eqb y 10 d) h

-- ---- a block

module _ (size : ℕ) (b : List ℕ) (at : ℕ) where
  pub block_ends : length b < at + size → Err Cut ≡ block_at size b at
  unfolding block_at
  block_ends h = rw (lt-ltb (length b) (at + size) h)

  pub block_there : at + size ≤ length b → block_at size b at ≡ Ok at
  unfolding block_at
  block_there h = rw (le-ltb (length b) (at + size) h)

  pub block_in : (block : ℕ) → block_at size b at ≡ Ok block → (at ≡ block) × (block + size ≤ length b)
  block_in block e = by_size (lt_or (length b) (at + size))
    where
      by_size : (length b < at + size) ⊎ (at + size ≤ length b) → (at ≡ block) × (block + size ≤ length b)
      by_size (inl h) = absurd (never_at Cut block (block_ends h ∙ e))
      by_size (inr h) =
          let d : Ok at ≡ Ok block = sym (block_there h) ∙ e in
          let q : at ≡ block = cc in
          (q, omega arith)

-- ---- a block behind header lines

pub line_in : (t : List ℕ) (size : ℕ) (b : List ℕ) (at block : ℕ) → line_at t size b at ≡ Ok block → block + size ≤ length b
unfolding line_at
line_in t size b at block =
    either_way (text_at t b at) Err (block_at size b) (λ r. r ≡ Ok block → block + size ≤ length b) (λ k d f. absurd (never_at k block f))
    (λ q d f. (block_in size b q block f).1)

pub section_in : (before : List ℕ) (n : ℕ) (after : List ℕ) (size : ℕ) (b : List ℕ) (at block : ℕ) → section_at before n after size b at ≡ Ok block → block + size ≤ length b
unfolding section_at
section_in before n after size b at block =
    either_way (text_at before b at) Err _ (λ r. r ≡ Ok block → block + size ≤ length b) (λ k d f. absurd (never_at k block f))
    (λ q d. either_way (number_at n b q) Err (line_at after size b) (λ r. r ≡ Ok block → block + size ≤ length b) (λ k d f. absurd (never_at k block f))
    (λ q d f. line_in after size b q block f))

pub section_small : (before : List ℕ) (n : ℕ) (after : List ℕ) (size : ℕ) (b : List ℕ) (at block : ℕ) → section_at before n after size b at ≡ Ok block → n < 10000000000
unfolding section_at
section_small before n after size b at block =
    either_way (text_at before b at) Err _ (λ r. r ≡ Ok block → n < 10000000000) (λ k d f. absurd (never_at k block f))
    (λ q d. either_way (number_at n b q) Err (line_at after size b) (λ r. r ≡ Ok block → n < 10000000000) (λ k d f. absurd (never_at k block f))
    (λ z d f. number_small n b q z d))

-- ---- a count behind a text

pub counted_small : (t b : List ℕ) (at v next : ℕ) → counted_at t b at ≡ Ok (read v next) → v < 10000000000
unfolding counted_at
counted_small t b at v next =
    either_way (text_at t b at) Err (count_at b) (λ r. r ≡ Ok (read v next) → v < 10000000000) (λ k d f. absurd (never_read k v next f))
    (λ q d f. (count_found b q v next f).small)

pub head_small : (b : List ℕ) (v next : ℕ) → head_of b ≡ Ok (read v next) → v < 10000000000
unfolding head_of
head_small b v next =
    either_way (text_at version_line b 0) Err _ (λ r. r ≡ Ok (read v next) → v < 10000000000) (λ k d f. absurd (never_read k v next f))
    (λ q d. either_way (title_at 255 b q) Err (counted_at dataset_lines b) (λ r. r ≡ Ok (read v next) → v < 10000000000) (λ k d f. absurd (never_read k v next f))
    (λ q d f. counted_small dataset_lines b q v next f))

-- ---- the end

pub past : (b : List ℕ) (q : ℕ) → q < length b → Err Trailing ≡ cond (ltb q (length b)) (Err Trailing) (Ok q)
past b q h = rw (lt-ltb q (length b) h)

pub not_past : (b : List ℕ) (q : ℕ) → length b ≤ q → Ok q ≡ cond (ltb q (length b)) (Err Trailing) (Ok q)
not_past b q h = rw (le-ltb q (length b) h)
