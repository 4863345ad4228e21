-- The rows of a mesh file by its sections. Assumes nothing.
use mathlib.Core.Path.{◌≡◌, refl, sym, ap, subst, ◌∙◌}
use mathlib.Core.Bool.{true, false}
use mathlib.Core.List.{List, []}
use Prim.Native.Nat.{ℕ, ◌≤◌, ◌<◌}
use borrow.Author.Tests.{lt-ltb, le-ltb, ltb-false}
use lib.ListN.{length}
use Rattle.refusals.specs.Rows.{first, proper}
use Rattle.refusals.proofs.Rows.{clear, goes_on, front_clear, rest_clear}
use Rattle.mesh.specs.Judged.{count_rows, name_rows}
use Rattle.mesh.specs.Mesh.{Cells}
use Rattle.words.proofs.Words.{length_cells}
use Rattle.file_components.specs.Blocks.{cells_in}
use Rattle.file_components.specs.Parts.{CellsStand}
use Rattle.file_components.specs.declared.Blocks.{Blocks}
use Rattle.file_steps.specs.Reader.{content_rows, Reads}
use Rattle.file_steps.specs.Parts.{Loadable}
use Rattle.file_steps.specs.declared.Loaded.{Loaded}
use Rattle.file_steps.specs.declared.LoadError.{LoadError}
use Rattle.std.specs.Prelude.{Result}
use Rattle.refusals.specs.Refusals.{as_refusal, named}
use Rattle.file_steps.proofs.Numbers.{lacks}
use Rattle.file_steps.proofs.Readers.{contents_fit, after}
use Rattle.mesh_layout.specs.Layout.{cut_at, end_of, second, third, end, blocks_of}
use Rattle.mesh_layout.specs.Parts.{Laid}
use Rattle.mesh_layout.proofs.Sections.{three, four, one, standing, uncut, laid_stands}
use Rattle.mesh_reader.specs.Step.{section_rows, file_rows, ReadDone}

pub sections_proper : (b : List ℕ) → proper (section_rows b) ≡ true
unfolding proper section_rows
sections_proper b = refl

pub laid : (b : List ℕ) → first (section_rows b) ≡ 0 → Laid b
unfolding section_rows first proper
laid b e =
    let h = clear (section_rows b) refl e in
    record {
      points = standing 3 b 0 three (h 0);
      cells = standing 4 b (second b) four (h 1);
      numbers = standing 1 b (third b) one (h 2);
      all = ltb-false _ _ (h 3);
    }

pub laid_clear : (b : List ℕ) → Laid b → first (section_rows b) ≡ 0
unfolding section_rows first
laid_clear b l =
    rw (
      uncut 3 b 0 three l.points,
      uncut 4 b (second b) four l.cells,
      uncut 1 b (third b) one l.numbers,
      le-ltb (end b) (length b) l.all,
    )
    refl

-- the ways out of `judge_sections`
module _ (b : List ℕ) where
  pub sections_1 : cut_at 3 b 0 ≡ true → 11 ≡ first (section_rows b)
  unfolding section_rows first
  sections_1 h = rw h refl

  module _ (h1 : cut_at 3 b 0 ≡ false) {s : ℕ} (es : s ≡ second b) where
    pub sections_2 : cut_at 4 b s ≡ true → 11 ≡ first (section_rows b)
    unfolding section_rows first
    sections_2 h = rw (h1, ← es, h) refl

    module _ (h2 : cut_at 4 b s ≡ false) {t : ℕ} (et : t ≡ end_of 4 b s) where
      pub sections_3 : cut_at 1 b t ≡ true → 11 ≡ first (section_rows b)
      unfolding section_rows first
      sections_3 h = rw (h1, ← es, h2, ← et, h) refl

      module _ (h3 : cut_at 1 b t ≡ false) {e : ℕ} (ee : e ≡ end_of 1 b t) where
        pub sections_4 : e < length b → 12 ≡ first (section_rows b)
        unfolding section_rows first
        sections_4 h = rw (h1, ← es, h2, ← et, h3, ← ee, lt-ltb e (length b) h) refl

        pub sections_5 : length b ≤ e → 0 ≡ first (section_rows b)
        unfolding section_rows first
        sections_5 h = rw (h1, ← es, h2, ← et, h3, ← ee, le-ltb e (length b) h) refl

-- ---- the file by itself

-- the blocks that the code found
module _ (b : List ℕ) {s : Blocks} (e : s ≡ blocks_of b) where
  pub cells_stand : first (section_rows b) ≡ 0 → CellsStand b s
  cells_stand z = subst (CellsStand b) (sym e) (laid_stands b (laid b z)).cells

  pub content_judged : {r : ℕ} → first (section_rows b) ≡ 0 → r ≡ first (content_rows b s) → r ≡ first (file_rows b)
  unfolding file_rows
  content_judged z q = q ∙ ap (λ (k : Blocks). first (content_rows b k)) e ∙ sym (goes_on (section_rows b) _ (sections_proper b) refl z)

module _ (b : List ℕ) where
  pub file_proper : proper (file_rows b) ≡ true
  unfolding proper file_rows section_rows content_rows count_rows name_rows
  file_proper = refl

  pub file_named : named (file_rows b) ≡ true
  unfolding named as_refusal file_rows section_rows content_rows count_rows name_rows
  file_named = refl

  pub no_nine : lacks 9 (file_rows b) ≡ true
  unfolding lacks file_rows section_rows content_rows count_rows name_rows
  no_nine = refl

  pub no_thirteen : lacks 13 (file_rows b) ≡ true
  unfolding lacks file_rows section_rows content_rows count_rows name_rows
  no_thirteen = refl

  -- a file that is not refused by itself
  module _ (z : first (file_rows b) ≡ 0) where
    pub laid_file : Laid b
    unfolding file_rows
    laid_file = laid b (front_clear (section_rows b) _ z)

    pub named_file : Cells (cells_in b (blocks_of b)) (blocks_of b).p
    unfolding file_rows
    named_file =
        contents_fit b (blocks_of b) (length_cells (blocks_of b).big (blocks_of b).stride b (blocks_of b).cells (blocks_of b).n) (rest_clear (section_rows b) _ (sections_proper b) z)

    pub loadable : Loadable b (blocks_of b)
    loadable = record { stands = laid_stands b laid_file; cells = named_file }

  module _ {s : Blocks} (e : s ≡ blocks_of b) (z : first (file_rows b) ≡ 0) where
    pub loads : Loadable b s
    loads = subst (Loadable b) (sym e) (loadable z)

    pub loaded : {x y w : List ℕ} {r : Result Loaded LoadError} {x' y' w' : List ℕ} → Reads [] b s x y w r x' y' w' → ReadDone b x y w r x' y' w'
    loaded {x} {y} {w} {r} {x'} {y'} {w'} l =
        after (file_rows b) b (blocks_of b) x y w file_proper file_named z (subst (λ (k : Blocks). Reads [] b k x y w r x' y' w') e l)
