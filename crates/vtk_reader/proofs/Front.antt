-- What the numbers of a file read from the front mean: 14 a byte that departs, 12 bytes behind a whole file, 11 a file that bytes would complete. From
-- the contract. Assumes nothing.
use mathlib.Core.Path.{◌≡◌, refl, sym, ap, subst, ◌∙◌}
use mathlib.Core.Logic.{◌↔◌}
use mathlib.Core.Bool.{true}
use mathlib.Core.List.{List, ◌++◌}
use Prim.Native.Nat.{ℕ, ◌<◌}
use native.Mathlib.Omega.{arith}
use lib.ListN.{length}
use Rattle.refusals.specs.Rows.{Row, first}
use Rattle.refusals.specs.Causes.{room_rows}
use Rattle.mesh.specs.Judged.{count_rows, name_rows}
use Rattle.file_steps.specs.Loaded.{number_of}
use Rattle.file_steps.specs.Reader.{content_rows, table_rows, number_rows, read_number}
use Rattle.file_steps.specs.declared.Loaded.{Loaded}
use Rattle.file_steps.specs.declared.LoadError.{LoadError}
use Rattle.file_steps.specs.declared.LoadError.TheVariants.{Refused}
use Rattle.file_steps.proofs.Numbers.{lacks, first_lacks}
use Rattle.file_steps.proofs.Theorems.{read_one, read_number_lem}
use Rattle.std.specs.Prelude.{Result, Ok, Err}
use Rattle.refusals.specs.declared.Refusal.{Refusal}
use Rattle.refusals.specs.declared.Refusal.TheVariants.{Cut, Trailing, Text}
use Rattle.refusals.specs.Refusals.{as_number, as_refusal}
use Rattle.refusals.proofs.Refusals.{its_own}
use Rattle.decimal.specs.Digits.{read}
use Rattle.vtk_layout.specs.Layout.{located_of}
use Rattle.vtk_layout.specs.declared.Layout.{Layout}
use Rattle.vtk_layout.proofs.Front.{Departs, first_departs, departs_stops}
use Rattle.vtk_layout.proofs.Sound.{Behind, ended_behind, behind_ends}
use Rattle.vtk_layout.proofs.Cut.{cell_count, Completed, cut_completed, completed_cut}
use Rattle.vtk_reader.specs.Step.{blocks_of, layout_of, stopped, layout_rows, shape_rows, body_rows, file_rows, ReadDone}
use Rattle.vtk_reader.proofs.Files.{unlocated}

module _ (b x y w : List ℕ) {r : Result Loaded LoadError} {x' y' w' : List ℕ} (d : ReadDone b x y w r x' y' w') where
  -- where the layout is not found, its number is told
  told : (k : Refusal) → located_of b ≡ Err k → number_of r ≡ as_number k
  told k e = ap (λ (z : Result Loaded LoadError × List ℕ × List ℕ × List ℕ). number_of z.0) (read_one _ b _ x y w (r, x', y', w') (Err (Refused k), x, y, w) d (unlocated e))

  -- the rows behind a layout that is found
  abbrev rest : Layout → List Row
  rest l = body_rows b l ++ (table_rows (length x) (length y) (length w) (blocks_of l).p (blocks_of l).n ++ number_rows b (blocks_of l))

  -- and a number that they lack is told only there
  untold : (k : Refusal) → 0 < as_number k → ((l : Layout) → lacks (as_number k) (rest l) ≡ true) → number_of r ≡ as_number k → located_of b ≡ Err k
  unfolding file_rows layout_rows layout_of stopped first
  untold k p h e = by_layout (located_of b) refl
    where
      found_first : (l : Layout) → located_of b ≡ Ok l → first (rest l) ≡ as_number k
      found_first l q =
          subst (λ (j : Result Layout Refusal). read_number (file_rows j b) b (blocks_of (layout_of j)) x y w ≡ as_number k) q (sym (read_number_lem _ b _ x y w d) ∙ e)

      by_layout : (j : Result Layout Refusal) → located_of b ≡ j → located_of b ≡ Err k
      by_layout (Err m) q = q ∙ ap Err (sym (its_own m) ∙ ap as_refusal (sym (told m q) ∙ e) ∙ its_own k)
      by_layout (Ok l) q = absurd (first_lacks (as_number k) (rest l) p (h l) (found_first l q))

  -- 14 exactly where there is a first byte that departs
  pub read_departs : (number_of r ≡ 14) ↔ Departs b
  unfolding lacks body_rows shape_rows content_rows count_rows name_rows table_rows room_rows number_rows
  read_departs = (λ e. first_departs b (untold Text (omega arith) (λ l. refl) e), λ h. told Text (departs_stops b h))

  -- 12 exactly where the bytes up to some place are a whole file, and others follow
  pub read_behind : (number_of r ≡ 12) ↔ Behind b
  unfolding lacks body_rows shape_rows content_rows count_rows name_rows table_rows room_rows number_rows
  read_behind = (λ e. ended_behind b (untold Trailing (omega arith) (λ l. refl) e), λ h. told Trailing (behind_ends b h))

  -- 11 exactly where some bytes behind the file would make it whole; a file that announces 2·10^9 cells or more is none, since no count of ten digits
  -- says the words of its cells
  pub read_cut : ((n next : ℕ) → cell_count b ≡ Ok (read n next) → n < 2000000000) → (number_of r ≡ 11) ↔ Completed b
  unfolding lacks body_rows shape_rows content_rows count_rows name_rows table_rows room_rows number_rows
  read_cut few = (λ e. cut_completed b few (untold Cut (omega arith) (λ l. refl) e), λ h. told Cut (completed_cut b h))
