-- Six roots an axis, none of them crossed: none is split; the cells and vertices of that octree. The cells are counted by computation; the distinct keys of their vertices
-- are those of nine points a leaf (same_vertices), which are sorted and counted by computation.
use mathlib.Core.Path.{◌≡◌, refl, ap, sym, ◌∙◌, fun_ext}
use mathlib.Core.Bool.{false}
use Prim.Native.Nat.{ℕ, zero, suc, ◌+◌, ◌-◌, ◌≤◌}
use native.Mathlib.Omega.{arith}
use lib.Dec.{eqb}
use lib.ListN.{length, length-map}
use Rattle.space.specs.Space.{Pos}
use Rattle.space.proofs.Space.{on_all}
use Rattle.lists.specs.Tests.{any}
use Rattle.octants.specs.Oct.{Tree, balanced, near, raw_from, refined}
use Rattle.lists.proofs.Bools.{clash}
use Rattle.space.specs.Levels.{off, depth}
use Rattle.octants.specs.Table.{slot, read, refine_of, tab, levels, table}
use Rattle.octree_cells.specs.Cells.{cells, leaf_cells, box_down, down, below, descent, side, finer, over, fan, halves, cells_to, flat}
use Rattle.lists.proofs.Lent.{zeros_at}
use Rattle.vertex_keys.specs.Keys.{key_of, triple_of}
use Rattle.sorting.specs.Numbers.{insert, distinct_sorted}
use Rattle.sorting.proofs.Members.{same_distinct}
use Rattle.octree.specs.declared.Roots.{Roots}
use Rattle.sides.specs.Parts.{Taken}
use Rattle.leaf_cells.specs.Parts.{keys_of, leaf_keys}
use Rattle.leaf_cells.proofs.Leafwise.{same_vertices}
use Rattle.worked.specs.Worked.{six, none}
use Rattle.grid.specs.Grid.{grid_cells, grid_vertices, vertex_keys}

abbrev whole : Tree
whole m x = false

reads_whole : read six 1 none ≡ whole
unfolding read
reads_whole = fun_ext (λ m. fun_ext (go m))
  where
    go : (m : ℕ) (x : Pos) → read six 1 none m x ≡ false
    go zero x = refl
    go (suc m) x = ap (λ (n : ℕ). eqb n 1) (zeros_at 216 (off six (1 - suc m) + slot (depth six (1 - suc m)) x))

abbrev sixes : Roots
sixes = record { nx = 6; ny = 6; nz = 6; levels = 1 }

taken : Taken none sixes
unfolding off
taken = record {
  covers = record {
    roots = record { some = on_all (λ a. 1 ≤ six a) (omega arith) (omega arith) (omega arith); few = on_all (λ a. six a ≤ 64) (omega arith) (omega arith) (omega arith) };
    levels = omega arith;
    octants = refl;
  };
  some = omega arith;
  graded = record {
    finest = λ x. ap (λ (t : Tree). t 0 x) reads_whole;
    push = λ m x y h p q r e. clash e (ap (λ (t : Tree). t m y) reads_whole);
  };
}

whole_cells : length (cells 1 six whole) ≡ 2592
unfolding any leaf_cells box_down down below descent side finer over fan halves cells_to
whole_cells = refl

whole_keys : length (distinct_sorted (leaf_keys 1 six whole)) ≡ 559
unfolding box_down down below keys_of key_of insert distinct_sorted
whole_keys = refl

pub none_split : refine_of six 1 none ≡ none
unfolding balanced near any raw_from off levels tab
none_split = ap (λ (t : Tree). table six 1 (refined 1 six t)) reads_whole

pub octree_six : (length (grid_cells 1 six none) ≡ 2592) × (length (grid_vertices 1 six none) ≡ 559)
unfolding grid_cells grid_vertices vertex_keys
octree_six = (
  ap (λ (t : Tree). length (cells 1 six t)) reads_whole ∙ whole_cells,
  length-map (distinct_sorted (flat key_of (cells 1 six (read six 1 none)))) triple_of
      ∙ ap length (sym (same_distinct (flat key_of (cells 1 six (read six 1 none))) (leaf_keys 1 six (read six 1 none)) (same_vertices none sixes taken)))
      ∙ ap (λ (t : Tree). length (distinct_sorted (leaf_keys 1 six t))) reads_whole ∙ whole_keys,
)
