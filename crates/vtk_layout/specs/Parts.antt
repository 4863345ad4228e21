-- What a layout that is found says of the file, which the parts of the code ask and give.
use Rattle.std.specs.Prelude.{◌≡◌, true, List, ℕ, ◌+◌, ◌*◌, ◌≤◌, length, take, drop}
use Rattle.vtk_layout.specs.Layout.{is_title, written}
use Rattle.vtk_layout.specs.declared.Layout.{Layout}

pub record Laid (b : List ℕ) (l : Layout) : Type 0 where
  pub title : List ℕ
  pub plain : is_title title ≡ true
  pub points_in_lem : l.points + 12 * l.p ≤ length b
  pub cells_in_lem : l.cells + 20 * l.n ≤ length b
  pub types_in_lem : l.types + 4 * l.n ≤ length b
  pub numbers_in_lem : l.numbers + 4 * l.n ≤ length b
  pub bytes : b ≡ written title l.p l.n (take (12 * l.p) (drop l.points b)) (take (20 * l.n) (drop l.cells b))
      (take (4 * l.n) (drop l.types b)) (take (4 * l.n) (drop l.numbers b))
