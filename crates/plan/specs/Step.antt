-- The plan: from a box, a cell size c and a number of levels to an origin, a unit and dimensions, or to a refusal. Every operation on
-- floats is one of binary32, in the order written.
use Rattle.std.specs.Prelude.{◌≡◌, ℕ, ◌*◌, ◌^◌, ◌<◌, max, Bool, true, false, not, ◌&&◌, cond, List, [], ◌∷◌, ◌++◌, leb, ltb, eqb, get_or, Float, Option, Some, None}
use Rattle.std.specs.Float.Ieee.{neg, lt}
use Rattle.std.specs.Float.Ieee.Scale.{finite}
use Rattle.std.specs.Float.Ieee.Positive.{positive}
use Rattle.float32.specs.Operations.{zero32, ◌+f◌, ◌-f◌, ◌*f◌, ◌/f◌, whole32, half32, two32}
use Rattle.float32.specs.Ceiling.{ceil_to}
use Rattle.space.specs.Space.{Axis, ax, ay, az, Pos, pos}
use Rattle.space.specs.Levels.{most_levels, most_roots, most_octants, off}
use Rattle.refusals.specs.Rows.{Row, ◌when◌}
use Rattle.plan.specs.declared.Bounds.{Bounds}
use Rattle.plan.specs.declared.Scale.{Scale}
use Rattle.plan.specs.declared.Stretch.{Stretch}
use Rattle.plan.specs.declared.Plan.{Plan}
use Rattle.plan.specs.declared.Fault.{Fault}
use Rattle.plan.specs.declared.Fault.TheVariants.{X, Y, Z, Octants}
use Rattle.plan.specs.declared.Refusal.{Refusal}
use Rattle.plan.specs.declared.Refusal.TheVariants.{Number, TooLarge}
use Rattle.plan.specs.declared.Planned.{Planned}
use Rattle.plan.specs.declared.Planned.TheVariants.{Ready, Refused}

-- the most units of a lattice along an axis; the bounds of an octree stand with its levels
abbrev pub most_lattice : ℕ
most_lattice = 128

-- ---- the box, by axes

abbrev pub low : Bounds → Axis → Float
low b ax = b.x0
low b ay = b.y0
low b az = b.z0

abbrev pub high : Bounds → Axis → Float
high b ax = b.x1
high b ay = b.y1
high b az = b.z1

-- the bounds of an axis are finite, and the lower one is not above the upper one
unfoldable pub straight : Float → Float → Bool
straight lo hi = finite lo && (finite hi && not (lt hi lo))

unfoldable pub straight_box : Bounds → Bool
straight_box b = straight (low b ax) (high b ax) && (straight (low b ay) (high b ay) && straight (low b az) (high b az))

-- ---- what holds for all three axes

-- the lattice: a margin of c, units of c / 2, at least 2 of them
abbrev pub lattice_scale : Float → Scale
lattice_scale c = record { margin = c; width = c *f half32; half = c *f half32; least = 2; most = most_lattice; units = 1 }

-- the octree: a margin of 2 c, roots of width c, at least 1, each 2 · 2 ^ L units wide
abbrev pub octree_scale : Float → ℕ → Scale
octree_scale c levels =
    record {
      margin = c *f two32;
      width = c;
      half = c /f whole32 (2 ^ levels) *f half32;
      least = 1;
      most = most_roots;
      units = 2 * 2 ^ levels;
    }

unfoldable pub scale_of : Float → ℕ → Scale
scale_of c levels = cond (eqb levels 0) (lattice_scale c) (octree_scale c levels)

-- ---- one axis, from lo to hi

abbrev pub origin_of : Scale → Float → Float → Float
origin_of s c lo = lo +f neg c -f s.margin

abbrev pub extent_of : Scale → Float → Float → Float → Float
extent_of s c lo hi = (hi +f c -f (lo +f neg c)) +f s.margin *f two32

unfoldable pub dim_of : Scale → Float → Float → Float → ℕ
dim_of s c lo hi = max s.least (ceil_to s.most (extent_of s c lo hi /f s.width))

abbrev pub far_of : Scale → Float → Float → Float → Float
far_of s c lo hi = origin_of s c lo +f whole32 (dim_of s c lo hi * s.units) *f s.half

unfoldable pub all_finite : Float → Float → Float → Float → Bool
all_finite a b c d = finite a && (finite b && (finite c && finite d))

-- the domain's bounds, the origin, the extent and the far corner are finite, and the dimension is in its bound
unfoldable pub fits_on : Scale → Float → Float → Float → Bool
fits_on s c lo hi =
    all_finite (lo +f neg c) (hi +f c) (origin_of s c lo) (extent_of s c lo hi)
    && (leb (dim_of s c lo hi) s.most && finite (far_of s c lo hi))

unfoldable pub stretch_of : Scale → Float → Float → Float → Option Stretch
stretch_of s c lo hi = cond (fits_on s c lo hi) (Some (record { origin = origin_of s c lo; count = dim_of s c lo hi })) None

-- ---- the three of them

-- along axis a of the box
abbrev pub fits_at : Scale → Bounds → Float → Axis → Bool
fits_at s b c a = fits_on s c (low b a) (high b a)

abbrev pub stretch_at : Scale → Bounds → Float → Axis → Option Stretch
stretch_at s b c a = stretch_of s c (low b a) (high b a)

-- what a 4 says of an axis, and of N: rule R2.1
abbrev pub fault_at : Axis → ℕ
fault_at ax = 0
fault_at ay = 1
fault_at az = 2

abbrev pub octants_fault : ℕ
octants_fault = 3

-- an axis as what is at fault
abbrev pub axis_fault : Axis → Fault
axis_fault ax = X
axis_fault ay = Y
axis_fault az = Z

-- and what a 4 says of it
abbrev pub fault_number : Fault → ℕ
fault_number X = fault_at ax
fault_number Y = fault_at ay
fault_number Z = fault_at az
fault_number Octants = octants_fault

-- refusal 4 of axis a where it does not fit, else what is made of its origin and dimension
abbrev pub on_axis : Axis → Option Stretch → (Float → ℕ → Planned) → Planned
on_axis a None k = Refused (TooLarge (axis_fault a))
on_axis a (Some s) k = k s.origin s.count

unfoldable pub counted : Plan → Planned
counted p = cond (leb p.octants most_octants) (Ready p) (Refused (TooLarge Octants))

unfoldable pub axes_of : Scale → Bounds → Float → ℕ → Planned
axes_of s b c levels =
    on_axis ax (stretch_at s b c ax) λ ox nx.
    on_axis ay (stretch_at s b c ay) λ oy ny.
    on_axis az (stretch_at s b c az) λ oz nz.
    counted
    (record {
      ox = ox;
      oy = oy;
      oz = oz;
      half = s.half;
      nx = nx;
      ny = ny;
      nz = nz;
      levels = levels;
      octants = off (pos nx ny nz) levels;
    })

unfoldable pub plan_of : Bounds → Float → ℕ → Planned
plan_of b c levels =
    cond (positive c)
    (cond (straight_box b) (cond (leb levels most_levels) (axes_of (scale_of c levels) b c levels) (Refused (Number 3))) (Refused (Number 2)))
    (Refused (Number 1))

-- the number and values of a refusal: rules 11.4, R2.1
abbrev pub refusal_number : Refusal → ℕ
refusal_number (Number n) = n
refusal_number (TooLarge fault) = 4

abbrev pub refusal_values : Refusal → List ℕ
refusal_values (Number n) = []
refusal_values (TooLarge fault) = fault_number fault ∷ []

-- of each answer; the number 0 stands for none
abbrev pub refusal_of : Planned → Refusal
refusal_of (Ready p) = Number 0
refusal_of (Refused why) = why

abbrev pub number_of : Planned → ℕ
number_of a = refusal_number (refusal_of a)

-- the axis or N that a 4 names; 0 in every other answer
abbrev pub fault_of : Planned → ℕ
fault_of a = get_or (refusal_values (refusal_of a)) 0 0

-- the plan, all of whose numbers are 0 where it is refused
abbrev pub no_plan : Plan
no_plan = record { ox = zero32; oy = zero32; oz = zero32; half = zero32; nx = 0; ny = 0; nz = 0; levels = 0; octants = 0 }

abbrev pub values_of : Planned → Plan
values_of (Ready p) = p
values_of (Refused why) = no_plan

-- the refusal handed up, else what is made of the plan
abbrev pub on_plan : {A : Type 0} → Planned → (Refusal → A) → (Plan → A) → A
on_plan (Ready p) refused answer = answer p
on_plan (Refused why) refused answer = refused why

-- ---- exactly when

-- the dimension along axis a, and those of the three
abbrev pub dim_at : Scale → Bounds → Float → Axis → ℕ
dim_at s b c a = dim_of s c (low b a) (high b a)

abbrev pub dims_at : Scale → Bounds → Float → Pos
dims_at s b c = pos (dim_at s b c ax) (dim_at s b c ay) (dim_at s b c az)

-- axis a is the first at fault: it does not fit, and those before it do
pub record FirstAtFault (fits : Axis → Bool) (a : Axis) : Type 0 where
  pub fault : fits a ≡ false
  pub before : (e : Axis) → fault_at e < fault_at a → fits e ≡ true

-- only N is at fault: every axis fits, and there are more octants than the bound
pub record OctantsAtFault (fits : Axis → Bool) (octants : ℕ) : Type 0 where
  pub fit : (a : Axis) → fits a ≡ true
  pub above : most_octants < octants

-- all three axes fit, and the octants are in their bound
unfoldable pub fits_all : Scale → Bounds → Float → ℕ → Bool
fits_all s b c levels = fits_at s b c ax && (fits_at s b c ay && (fits_at s b c az && leb (off (dims_at s b c) levels) most_octants))

-- c is not the size of a cell
abbrev pub cell_size_rows : Float → List Row
cell_size_rows c = 1 when not (positive c) ∷ []

-- refusals 1 to 4, in their order, each with its cause
unfoldable pub plan_rows : Bounds → Float → ℕ → List Row
plan_rows b c levels =
    cell_size_rows c
    ++ 2 when not (straight_box b)
    ∷ 3 when ltb most_levels levels
    ∷ 4 when not (fits_all (scale_of c levels) b c levels)
    ∷ []
