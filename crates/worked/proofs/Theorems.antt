-- The worked numbers of section 13 of the rules that are marked (P) are those of the definitions: one theorem over one table. Assumes nothing.
use mathlib.Core.Path.{refl}
use mathlib.Core.List.{[]}
use native.Mathlib.Omega.{arith}
use lib.Ieee.{add, sub, mul, div, neg, lt, of_int, of_bits}
use Rattle.float32.specs.Ceiling.{ceil_to}
use Rattle.space.specs.Levels.{off}
use Rattle.plan.specs.Step.{all_finite, scale_of, dim_of, fits_on, stretch_of, straight, straight_box, counted, axes_of, plan_of}
use Rattle.lists.specs.Runs.{run, those}
use Rattle.lists.specs.Appearance.{place, noted, seen_of, numbers_of}
use Rattle.lists.specs.Tests.{any}
use Rattle.links.specs.Labels.{shares, touched, taken_over, add_cell, labels, label_at}
use Rattle.components.specs.Numbers.{component_numbers}
use Rattle.representatives.specs.Highest.{is_highest, representatives_of}
use Rattle.mesh.specs.Mesh.{cell_of, in_order}
use Rattle.volume.specs.Cell.{point_of, corners_of}
use Rattle.volume.specs.Volume.{volume_of, size_of, verdict_of, verdict_at}
use Rattle.marked.specs.Weighed.{shaped, shape_at, final_cells}
use Rattle.marked.specs.Used.{first_uses, used_of, renumbered}
use Rattle.octree_cells.specs.Cells.{flat}
use Rattle.lattice.specs.Lattice.{box_up, lattice_vertices, index_of, in_range, complete, octahedron, axis_cells, centre_cells, lattice_cells}
use Rattle.space.specs.Space.{pos}
use Rattle.tiling.proofs.Theorems.{grid_six, grid_fours}
use Rattle.worked.specs.Worked.{Every, done, row, Says, table, six, none}
use Rattle.worked.proofs.Octree.{none_split, octree_six}
use Rattle.worked.proofs.Refinement.{root_and_child_lem, child_alone_lem}

pub worked : Every Says table
unfolding Says table of_bits add sub mul div neg lt of_int ceil_to all_finite scale_of dim_of fits_on stretch_of off straight straight_box counted axes_of plan_of run those place noted seen_of numbers_of any shares touched taken_over add_cell labels label_at component_numbers is_highest representatives_of cell_of in_order point_of corners_of volume_of size_of verdict_of verdict_at shaped shape_at final_cells first_uses used_of renumbered box_up lattice_vertices index_of in_range complete octahedron axis_cells centre_cells lattice_cells flat
worked =
    row refl (row refl (row (grid_fours (pos 8 8 8) []) (row refl (row refl (row (grid_fours (pos 9 9 9) []) (row refl (row none_split (row octree_six
    (row (grid_six 1 six none (omega arith)) (row refl (row root_and_child_lem (row child_alone_lem
    (row refl (row refl (row refl (row refl (row refl (row (refl, refl) (row refl (row (refl, refl) (row refl (row refl (row refl (row refl (row refl done)))))))))))))))))))))))))
