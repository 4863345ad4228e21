-- The ways out of `judge_cells` and of `judge`. Assumes nothing.
use mathlib.Core.Path.{◌≡◌, refl, sym, ap, ◌∙◌}
use mathlib.Core.Logic.{◌≢◌}
use mathlib.Core.Bool.{Bool, true, false, cond, not, ◌&&◌, and-true}
use mathlib.Core.List.{List}
use Prim.Native.Nat.{ℕ, ◌+◌, ◌*◌, ◌≤◌, ◌<◌, min}
use native.Mathlib.Nat.{min-eq_left}
use native.Mathlib.Omega.{arith}
use borrow.Author.Tests.{lt-ltb, le-ltb, eqb-true, eqb-false}
use lib.Dec.{eqb}
use lib.ListN.{length, get_or, drop, replicate}
use Rattle.lists.specs.Tables.{all_below, same}
use Rattle.lists.proofs.Listing.{length_list, list_at, each_on, each_off, each_end}
use Rattle.lists.proofs.Tests.{falls, stays}
use Rattle.std.specs.Prelude.{Result, Ok, Err}
use Rattle.refusals.specs.Rows.{first}
use Rattle.refusals.specs.Refusals.{number_in}
use Rattle.refusals.specs.declared.Refusal.{Refusal}
use Rattle.refusals.specs.declared.Refusal.TheVariants.{CellSize, Bounds, Levels, TooLarge, Length, Byte, Ungraded, Point, NoRoom, NothingKept, Cut, Trailing, Numbers, Text, Shape, Range, Twice}
use Rattle.refusals.specs.contracts.RefusalPartialEq.TheImpl.{eq-value}
use Rattle.std.specs.Result.{result_eq}
use Rattle.mesh.specs.Mesh.{most}
use Rattle.mesh.specs.Judged.{count_rows, name_rows}
use Rattle.words.specs.Words.{word_at, words_at, cells_at}
use Rattle.words.proofs.Turns.{below_by, below_all}
use Rattle.file_steps.specs.Reader.{content_rows}
use Rattle.vtk_layout.specs.declared.Layout.{Layout}
use Rattle.vtk_reader.specs.Step.{blocks_of, leads_in, types_in, shape_rows, body_rows}
use Rattle.vtk_reader.specs.Parts.{cell_rows}

-- ---- the loop that looks at the cells

-- what is still to be looked at
pub record Looking (b : List ℕ) (at n bound : ℕ) (named : Bool) (i : ℕ) : Type 0 where
  pub leads : same (leads_in b n at) (replicate n 4) ≡ same (drop i (leads_in b n at)) (drop i (replicate n 4))
  pub names : all_below bound (cells_at true 5 b (at + 4) n) ≡ named && all_below bound (drop (4 * i) (cells_at true 5 b (at + 4) n))

module _ (b : List ℕ) (at n bound i : ℕ) where
  leads_long : length (leads_in b n at) ≡ n
  unfolding leads_in
  leads_long = length_list (λ k. word_at true b (at + 20 * k)) n

  lead_is : i < n → get_or (leads_in b n at) i 0 ≡ word_at true b (at + 20 * i)
  unfolding leads_in
  lead_is h = list_at (λ k. word_at true b (at + 20 * k)) n i h

  cell_by : {t : Bool} → i < n → all_below bound (words_at true b (at + 20 * i + 4) 4) ≡ t
      → all_below bound (drop (4 * i) (cells_at true 5 b (at + 4) n)) ≡ t && all_below bound (drop (4 * (i + 1)) (cells_at true 5 b (at + 4) n))
  cell_by h e =
      let p : at + 4 + 4 * (5 * i) ≡ at + 20 * i + 4 = omega arith in
      below_by true 5 b (at + 4) n bound i h (ap (λ (k : ℕ). all_below bound (words_at true b k 4)) p ∙ e)

  module _ (named : Bool) (w : Looking b at n bound named i) where
    module _ {x : ℕ} (h : i < n) (e : x ≡ word_at true b (at + 20 * i)) (f : x ≡ 4) where
      leads_on : same (leads_in b n at) (replicate n 4) ≡ same (drop (i + 1) (leads_in b n at)) (drop (i + 1) (replicate n 4))
      leads_on = w.leads ∙ each_on (leads_in b n at) n i 4 leads_long h (lead_is h ∙ sym e ∙ f)

      pub looking_on : {t : Bool} → all_below bound (words_at true b (at + 20 * i + 4) 4) ≡ true → t ≡ named → Looking b at n bound t (i + 1)
      looking_on p q = record { leads = leads_on; names = w.names ∙ stays named (cell_by h p) q }

      pub looking_past : {t : Bool} → all_below bound (words_at true b (at + 20 * i + 4) 4) ≡ false → t ≡ false → Looking b at n bound t (i + 1)
      looking_past p q = record { leads = leads_on; names = w.names ∙ falls named _ (cell_by h p) q }

    pub looking_off : (x : ℕ) → i < n → x ≡ word_at true b (at + 20 * i) → x ≢ 4 → 15 ≡ first (cell_rows b bound n at)
    unfolding cell_rows first
    looking_off x h e f = sym (rw (w.leads ∙ each_off (leads_in b n at) n i 4 leads_long h (λ q. f (e ∙ sym (lead_is h) ∙ q))) refl)

    module _ (d : n ≤ i) where
      led_all : same (leads_in b n at) (replicate n 4) ≡ true
      led_all = w.leads ∙ each_end (leads_in b n at) n i 4 leads_long d

      named_all : all_below bound (cells_at true 5 b (at + 4) n) ≡ named
      named_all = w.names ∙ ap (λ (q : Bool). named && q) (below_all true 5 b (at + 4) n bound i d) ∙ and-true named

      pub looking_all : named ≡ true → 0 ≡ first (cell_rows b bound n at)
      unfolding cell_rows first
      looking_all t = sym (rw (led_all, named_all, t) refl)

      pub looking_some : named ≡ false → 8 ≡ first (cell_rows b bound n at)
      unfolding cell_rows first
      looking_some t = sym (rw (led_all, named_all, t) refl)

-- ---- `judge`

-- the test whether cells are refused with 15 is that of their number
shape_test : (unit : Unit → Unit → Bool) (s : Result Unit Refusal) → result_eq unit eq-value.it s (Err Shape) ≡ eqb (number_in s) 15
shape_test unit (Ok x) = refl
shape_test unit (Err CellSize) = refl
shape_test unit (Err Bounds) = refl
shape_test unit (Err Levels) = refl
shape_test unit (Err TooLarge) = refl
shape_test unit (Err Length) = refl
shape_test unit (Err Byte) = refl
shape_test unit (Err Ungraded) = refl
shape_test unit (Err Point) = refl
shape_test unit (Err NoRoom) = refl
shape_test unit (Err NothingKept) = refl
shape_test unit (Err Cut) = refl
shape_test unit (Err Trailing) = refl
shape_test unit (Err Numbers) = refl
shape_test unit (Err Text) = refl
shape_test unit (Err Shape) = refl
shape_test unit (Err Range) = refl
shape_test unit (Err Twice) = refl

module _ (unit : Unit → Unit → Bool) (s : Result Unit Refusal) {t : Bool} (e : t ≡ result_eq unit eq-value.it s (Err Shape)) where
  pub shape : t ≡ true → number_in s ≡ 15
  shape h = eqb-true _ _ (sym (shape_test unit s) ∙ sym e ∙ h)

  pub no_shape : t ≡ false → number_in s ≢ 15
  no_shape h = eqb-false _ _ (sym (shape_test unit s) ∙ sym e ∙ h)

module _ (b : List ℕ) (l : Layout) (m : ℕ) {r : ℕ} (q : r ≡ first (cell_rows b m l.n l.cells)) where
  led : Bool
  led = same (leads_in b l.n l.cells) (replicate l.n 4)

  by_cells : {A : Type 0} → (led ≡ false → A) → (led ≡ true → r ≡ cond (not (all_below m (cells_at true 5 b (l.cells + 4) l.n))) 8 0 → A) → A
  unfolding cell_rows first led
  by_cells {A} off on-way = go led refl
    where
      go : (s : Bool) → same (leads_in b l.n l.cells) (replicate l.n 4) ≡ s → A
      go true e = on-way e (q ∙ rw e refl)
      go false e = off e

  low : (s : Bool) → ◌≢◌ {A = ℕ} (cond (not s) 8 0) 15
  low true e = omega arith
  low false e = omega arith

  pub row_1 : r ≡ 15 → 15 ≡ first (body_rows b l)
  unfolding body_rows shape_rows first led
  row_1 e = by_cells (λ h. sym (rw h refl)) (λ h f. absurd (low (all_below m (cells_at true 5 b (l.cells + 4) l.n)) (sym f ∙ e)))

  module _ (d : r ≢ 15) where
    led_here : (same (leads_in b l.n l.cells) (replicate l.n 4) ≡ true) × (r ≡ cond (not (all_below m (cells_at true 5 b (l.cells + 4) l.n))) 8 0)
    unfolding cell_rows first led
    led_here = by_cells (λ h. absurd (d (q ∙ rw h refl))) (λ h f. (h, f))

    pub row_2 : same (types_in b l.n l.types) (replicate l.n 10) ≡ false → 15 ≡ first (body_rows b l)
    unfolding body_rows shape_rows first
    row_2 h = sym (rw (led_here.0, h) refl)

    module _ (h2 : same (types_in b l.n l.types) (replicate l.n 10) ≡ true) where
      pub row_3 : most < l.p → 4 ≡ first (body_rows b l)
      unfolding body_rows shape_rows content_rows count_rows name_rows blocks_of first
      row_3 h = sym (rw (led_here.0, h2, lt-ltb most l.p h) refl)

      module _ (h3 : l.p ≤ most) where
        pub row_4 : most < l.n → 4 ≡ first (body_rows b l)
        unfolding body_rows shape_rows content_rows count_rows name_rows blocks_of first
        row_4 h = sym (rw (led_here.0, h2, le-ltb most l.p h3, lt-ltb most l.n h) refl)

        pub row_5 : l.n ≤ most → m ≡ min l.p 4294967295 → r ≡ first (body_rows b l)
        unfolding body_rows shape_rows content_rows count_rows name_rows blocks_of first
        row_5 h e =
            let f : l.p ≤ 4294967295 = omega arith in
            led_here.1 ∙ ap (λ (k : ℕ). cond (not (all_below k (cells_at true 5 b (l.cells + 4) l.n))) 8 0) (e ∙ min-eq_left f)
            ∙ sym (rw (led_here.0, h2, le-ltb most l.p h3, le-ltb most l.n h) refl)
