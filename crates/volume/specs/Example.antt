-- Verdicts and centroids of cells, computed from the definitions.
use Rattle.std.specs.Prelude.{◌≡◌, refl, List, [], ◌∷◌, map, ℕ}
use Rattle.std.specs.Float.{binary32}
use Rattle.std.specs.Float.Ieee.{of_bits, to_bits, add, sub, mul, div, neg, lt}
use Rattle.float32.specs.Operations.{f32}
use Rattle.mesh.specs.Mesh.{cell_of}
use Rattle.volume.specs.Cell.{point_of, corners_of}
use Rattle.volume.specs.Volume.{volume_of, size_of, least_of, verdict_of, verdict_at, centroid_of}
use Rattle.volume.specs.declared.Verdict.{Verdict}
use Rattle.volume.specs.declared.Verdict.TheVariants.{Kept, Exchanged, Dropped}

-- four points, the cell's vertices, the cell size, all as patterns; the verdict, and the centroid's patterns
pub record Case : Type 0 where
  pub points : List ℕ
  pub cell : List ℕ
  pub size : ℕ
  pub verdict : Verdict
  pub centroid : List ℕ

abbrev one : ℕ
one = 0x3f80_0000

abbrev less : ℕ
less = 0xbf80_0000

abbrev case : List ℕ → List ℕ → ℕ → Verdict → List ℕ → Case
case p k c v m = record { points = p; cell = k; size = c; verdict = v; centroid = m }

-- the points 0, x, y unit, and (0, 0, z)
abbrev up : ℕ → List ℕ
up z = 0 ∷ 0 ∷ 0 ∷ one ∷ 0 ∷ 0 ∷ 0 ∷ one ∷ 0 ∷ 0 ∷ 0 ∷ z ∷ []

abbrev straight : List ℕ
straight = 0 ∷ 1 ∷ 2 ∷ 3 ∷ []

abbrev quarter : ℕ
quarter = 0x3e80_0000

abbrev table : List Case
table =
    -- unit points: a sixth, and exchanged where it is negative
    case (up one) straight one (Kept (f32 0x3e2a_aaab)) (quarter ∷ quarter ∷ quarter ∷ [])
    ∷ case (up one) (0 ∷ 2 ∷ 1 ∷ 3 ∷ []) one (Exchanged (f32 0xbe2a_aaab)) (quarter ∷ quarter ∷ quarter ∷ [])
    ∷ case (up one) (2 ∷ 0 ∷ 1 ∷ 3 ∷ []) one (Kept (f32 0x3e2a_aaab)) (quarter ∷ quarter ∷ quarter ∷ [])
    -- a flat cell is dropped, and kept where c is 2 ^ -50: the least volume is 0 then
    ∷ case (up 0) straight one (Dropped (f32 0)) (quarter ∷ quarter ∷ 0 ∷ [])
    ∷ case (up 0) straight 0x2680_0000 (Kept (f32 0)) (quarter ∷ quarter ∷ 0 ∷ [])
    -- c 0.01, and exactly the least volume: it stays, exchanged where it is negative; one place less is dropped
    ∷ case (up 0x2cd3_1b32) straight 0x3c23_d70a (Kept (f32 0x2b8c_bccc)) (quarter ∷ quarter ∷ 0x2bd3_1b32 ∷ [])
    ∷ case (up 0xacd3_1b32) straight 0x3c23_d70a (Exchanged (f32 0xab8c_bccc)) (quarter ∷ quarter ∷ 0xabd3_1b32 ∷ [])
    ∷ case (up 0x2cd3_1b30) straight 0x3c23_d70a (Dropped (f32 0x2b8c_bccb)) (quarter ∷ quarter ∷ 0x2bd3_1b30 ∷ [])
    -- a volume of -0 is not exchanged
    ∷ case (0 ∷ 0 ∷ 0 ∷ one ∷ 0 ∷ 0 ∷ 0 ∷ one ∷ 0 ∷ less ∷ less ∷ 0x8000_0000 ∷ []) straight 0x2680_0000 (Kept (f32 0x8000_0000)) (0 ∷ 0 ∷ 0 ∷ [])
    -- a NaN with a payload: the cell stays, and the NaN leaves as 7FC00000
    ∷ case (up 0xff81_2345) straight one (Kept (f32 0x7fc0_0000)) (quarter ∷ quarter ∷ 0x7fc0_0000 ∷ [])
    -- infinity less infinity in the centroid
    ∷ case (0 ∷ 0 ∷ 0x7f80_0000 ∷ one ∷ 0 ∷ 0xff80_0000 ∷ 0 ∷ one ∷ 0 ∷ 0 ∷ 0 ∷ 0 ∷ []) straight one (Kept (f32 0x7fc0_0000)) (quarter ∷ quarter ∷ 0x7fc0_0000 ∷ [])
    ∷ []

abbrev asked : Case → Case
asked k =
    let z = centroid_of (corners_of k.points (cell_of k.cell 0)) in
    case k.points k.cell k.size (verdict_at k.points k.cell 0 (least_of (f32 k.size))) (to_bits binary32 z.x ∷ to_bits binary32 z.y ∷ to_bits binary32 z.z ∷ [])

examples : map asked table ≡ table
unfolding of_bits to_bits add sub mul div neg lt cell_of point_of corners_of volume_of size_of verdict_of verdict_at
examples = refl
