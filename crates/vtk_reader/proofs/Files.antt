-- The rows of a viewer's file by itself, and what is known where none has its cause. Assumes nothing.
use mathlib.Core.Path.{◌≡◌, refl, sym, ap, subst, ◌∙◌}
use mathlib.Core.Logic.{◌⊎◌, inl, inr}
use mathlib.Core.Bool.{true}
use mathlib.Core.List.{List, []}
use Prim.Native.Nat.{ℕ}
use native.Mathlib.Omega.{arith}
use borrow.Author.Tests.{not-false}
use lib.ListN.{replicate}
use Rattle.lists.specs.Tables.{same}
use Rattle.refusals.specs.Rows.{first, proper}
use Rattle.refusals.proofs.Rows.{clear, front_clear, rest_clear}
use Rattle.mesh.specs.Mesh.{Cells}
use Rattle.mesh.specs.Judged.{count_rows, name_rows}
use Rattle.words.proofs.Words.{length_cells}
use Rattle.file_components.specs.Blocks.{cells_in}
use Rattle.file_components.specs.Parts.{Stands}
use Rattle.file_steps.specs.Reader.{content_rows, Reads}
use Rattle.file_steps.specs.Parts.{Loadable}
use Rattle.file_steps.specs.declared.Loaded.{Loaded}
use Rattle.file_steps.specs.declared.LoadError.{LoadError}
use Rattle.file_steps.specs.declared.LoadError.TheVariants.{Refused}
use Rattle.file_steps.proofs.Numbers.{lacks}
use Rattle.file_steps.proofs.Readers.{contents_fit, refused, after, behind}
use Rattle.std.specs.Prelude.{Result, Ok, Err}
use Rattle.refusals.specs.declared.Refusal.{Refusal}
use Rattle.refusals.specs.declared.Refusal.TheVariants.{Cut, Trailing, Text}
use Rattle.refusals.specs.Refusals.{as_number, as_refusal, named as named_rows}
use Rattle.refusals.proofs.Refusals.{above_none}
use Rattle.vtk_layout.specs.Layout.{located_of}
use Rattle.vtk_layout.specs.Parts.{Laid}
use Rattle.vtk_layout.specs.declared.Layout.{Layout}
use Rattle.vtk_layout.proofs.Front.{located_stops}
use Rattle.vtk_reader.specs.Step.{blocks_of, leads_in, types_in, layout_of, stopped, layout_rows, shape_rows, body_rows, file_rows, ReadDone}

-- ---- the blocks

module _ (b : List ℕ) (l : Layout) where
  pub shape_proper : proper (shape_rows b l) ≡ true
  unfolding proper shape_rows
  shape_proper = refl

  pub body_proper : proper (body_rows b l) ≡ true
  unfolding proper body_rows shape_rows content_rows count_rows name_rows
  body_proper = refl

  pub body_named : named_rows (body_rows b l) ≡ true
  unfolding named_rows as_refusal body_rows shape_rows content_rows count_rows name_rows
  body_named = refl

  pub body_nine : lacks 9 (body_rows b l) ≡ true
  unfolding lacks body_rows shape_rows content_rows count_rows name_rows
  body_nine = refl

  pub body_thirteen : lacks 13 (body_rows b l) ≡ true
  unfolding lacks body_rows shape_rows content_rows count_rows name_rows
  body_thirteen = refl

  pub laid_stands : Laid b l → Stands b (blocks_of l)
  unfolding blocks_of
  laid_stands h = record {
    points = h.points_in_lem;
    cells = record { there = λ i k. omega (arith, h.cells_in_lem) };
    numbers = h.numbers_in_lem;
  }

  -- a file whose blocks are not refused
  module _ (z : first (body_rows b l) ≡ 0) where
    pub led : same (leads_in b l.n l.cells) (replicate l.n 4) ≡ true
    unfolding body_rows shape_rows proper
    led = not-false _ (clear (shape_rows b l) refl (front_clear (shape_rows b l) _ z) 0)

    pub typed : same (types_in b l.n l.types) (replicate l.n 10) ≡ true
    unfolding body_rows shape_rows proper
    typed = not-false _ (clear (shape_rows b l) refl (front_clear (shape_rows b l) _ z) 1)

    pub named : Cells (cells_in b (blocks_of l)) (blocks_of l).p
    unfolding body_rows
    named =
        contents_fit b (blocks_of l) (length_cells (blocks_of l).big (blocks_of l).stride b (blocks_of l).cells (blocks_of l).n)
        (rest_clear (shape_rows b l) _ shape_proper z)

    pub loadable : Laid b l → Loadable b (blocks_of l)
    loadable h = record { stands = laid_stands h; cells = named }

  -- the ways out of `load`
  module _ {x y w : List ℕ} where
    pub body_refused : {why : Refusal} → as_number why ≡ first (body_rows b l) → Reads (body_rows b l) b (blocks_of l) x y w (Err (Refused why)) x y w
    body_refused = refused (body_rows b l) b (blocks_of l) x y w body_named body_nine body_thirteen

    pub body_loaded : first (body_rows b l) ≡ 0 → {r : Result Loaded LoadError} {x' y' w' : List ℕ} → Reads [] b (blocks_of l) x y w r x' y' w'
        → Reads (body_rows b l) b (blocks_of l) x y w r x' y' w'
    body_loaded z = after (body_rows b l) b (blocks_of l) x y w body_proper body_named z

-- ---- the layout

layout_proper : (k : Result Layout Refusal) → proper (layout_rows k) ≡ true
unfolding proper layout_rows
layout_proper k = refl

pub file_proper : (k : Result Layout Refusal) (b : List ℕ) → proper (file_rows k b) ≡ true
unfolding proper file_rows layout_rows body_rows shape_rows content_rows count_rows name_rows
file_proper k b = refl

pub file_named : (k : Result Layout Refusal) (b : List ℕ) → named_rows (file_rows k b) ≡ true
unfolding named_rows as_refusal file_rows layout_rows body_rows shape_rows content_rows count_rows name_rows
file_named k b = refl

file_nine : (k : Result Layout Refusal) (b : List ℕ) → lacks 9 (file_rows k b) ≡ true
unfolding lacks file_rows layout_rows body_rows shape_rows content_rows count_rows name_rows
file_nine k b = refl

file_thirteen : (k : Result Layout Refusal) (b : List ℕ) → lacks 13 (file_rows k b) ≡ true
unfolding lacks file_rows layout_rows body_rows shape_rows content_rows count_rows name_rows
file_thirteen k b = refl

found_clear : (l : Layout) → first (layout_rows (Ok l)) ≡ 0
unfolding layout_rows stopped first
found_clear l = refl

-- a layout that stops has its number first
stopped_first : (why : Refusal) (b : List ℕ) → (why ≡ Cut) ⊎ ((why ≡ Trailing) ⊎ (why ≡ Text)) → as_number why ≡ first (file_rows (Err why) b)
unfolding file_rows layout_rows stopped first
stopped_first why b (inl e) = rw e refl
stopped_first why b (inr (inl e)) = rw e refl
stopped_first why b (inr (inr e)) = rw e refl

-- the ways out of `read_vtk`
module _ {b x y w : List ℕ} {k : Result Layout Refusal} (e : located_of b ≡ k) where
  by_layout : {r : Result Loaded LoadError} {x' y' w' : List ℕ} → Reads (file_rows k b) b (blocks_of (layout_of k)) x y w r x' y' w' → ReadDone b x y w r x' y' w'
  by_layout {r} {x'} {y'} {w'} = subst (λ (j : Result Layout Refusal). Reads (file_rows j b) b (blocks_of (layout_of j)) x y w r x' y' w') (sym e)

pub located : {b x y w : List ℕ} {l : Layout} {r : Result Loaded LoadError} {x' y' w' : List ℕ} → located_of b ≡ Ok l → Reads (body_rows b l) b (blocks_of l) x y w r x' y' w'
    → ReadDone b x y w r x' y' w'
unfolding file_rows layout_of
located {b} {x} {y} {w} {l} e d = by_layout e (behind (layout_rows (Ok l)) (body_rows b l) b (blocks_of l) x y w (layout_proper (Ok l)) (file_named (Ok l) b) (found_clear l) d)

pub unlocated : {b x y w : List ℕ} {why : Refusal} → located_of b ≡ Err why → ReadDone b x y w (Err (Refused why)) x y w
unlocated {b} {x} {y} {w} {why} e =
    by_layout e
    (refused (file_rows (Err why) b) b (blocks_of (layout_of (Err why))) x y w (file_named (Err why) b) (file_nine (Err why) b) (file_thirteen (Err why) b) (stopped_first why b (located_stops b why e)))

-- a file whose layout stops is refused
pub stopped_refuses : (b : List ℕ) (why : Refusal) → located_of b ≡ Err why → first (file_rows (located_of b) b) ≡ 0 → ⊥
stopped_refuses b why e z =
    above_none why (stopped_first why b (located_stops b why e) ∙ ap (λ (k : Result Layout Refusal). first (file_rows k b)) (sym e) ∙ z)
