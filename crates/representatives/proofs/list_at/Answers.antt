use mathlib.Core.Path.{refl}
use Rattle.mesh.proofs.Named.{cell_points}
use Rattle.representatives.specs.Highest.{centroid_bits}
use Rattle.representatives.proofs.Listing.{listed_one}
use Rattle.representatives.proofs.list_at.Goals as goal

pub corners_at-requires : goal.corners_at-requires
corners_at-requires c = cell_points _ _ _ c.requires.cells c.requires.inside c.cell_at.ensures

pub returns : goal.returns
unfolding centroid_bits
returns c =
    listed_one _ _ _ _ _ _ c.if-not-last.false
    (rw (
      c.store_all.ensures,
      c.from_f32-3.ensures,
      c.from_f32-2.ensures,
      c.from_f32.ensures,
      c.centroid-z.ensures,
      c.corners_at.ensures,
      c.cell_at.ensures,
    )
    refl)
