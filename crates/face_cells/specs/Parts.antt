-- What the parts of the code ask and give: the cells of a leaf as lists of vertex numbers, in the form that the code stores them.
use Rattle.std.specs.Prelude.{Bool, true, cond, List, [], ◌∷◌, ◌++◌, ℕ, zero, suc, ◌+◌, ◌*◌, ◌≤◌, take}
use Rattle.sorting.specs.Numbers.{rank}
use Rattle.sides.specs.declared.Beside.{Beside}
use Rattle.sides.specs.declared.Beside.TheVariants.{Split, Equal, Given, Coarser, Border}
use Rattle.sides.specs.declared.Edges.{Edges}
use Rattle.sides.specs.declared.Sides.{Sides}
use Rattle.space.specs.Space.{ax, ay, az}
use Rattle.vertex_keys.specs.Keys.{stride}
use Rattle.face_cells.specs.declared.Edge.{Edge}
use Rattle.face_cells.specs.declared.Quad.{Quad}
use Rattle.face_cells.specs.declared.Corners.{Corners}

-- the number of a key among the first v entries of the work
abbrev pub rank_in : List ℕ → ℕ → ℕ → ℕ
rank_in w v key = rank key (take v w)

unfoldable pub over_numbers : (ℕ → ℕ) → Bool → Edge → List ℕ
over_numbers number fine e =
    cond fine
    (e.p ∷ e.q ∷ e.a ∷ number e.m ∷ e.p ∷ e.q ∷ number e.m ∷ e.b ∷ [])
    (e.p ∷ e.q ∷ e.a ∷ e.b ∷ [])

-- the four edges of a face
abbrev pub edge0 : (p q : ℕ) → Quad → Edge
edge0 p q f = record { p = p; q = q; a = f.p0; b = f.p1; m = f.k + f.v }

abbrev pub edge1 : (p q : ℕ) → Quad → Edge
edge1 p q f = record { p = p; q = q; a = f.p1; b = f.p2; m = f.k + 2 * f.v + f.w }

abbrev pub edge2 : (p q : ℕ) → Quad → Edge
edge2 p q f = record { p = p; q = q; a = f.p2; b = f.p3; m = f.k + 2 * f.w + f.v }

abbrev pub edge3 : (p q : ℕ) → Quad → Edge
edge3 p q f = record { p = p; q = q; a = f.p3; b = f.p0; m = f.k + f.w }

unfoldable pub fan_numbers : (ℕ → ℕ) → (p q : ℕ) → Quad → Edges → List ℕ
fan_numbers number p q f fine =
    over_numbers number fine.e0 (edge0 p q f)
    ++ (over_numbers number fine.e1 (edge1 p q f)
    ++ (over_numbers number fine.e2 (edge2 p q f) ++ over_numbers number fine.e3 (edge3 p q f)))

abbrev pub all_fine : Edges
all_fine = record { e0 = true; e1 = true; e2 = true; e3 = true }

unfoldable pub halves_numbers : (c p q r s : ℕ) → List ℕ
halves_numbers c p q r s = c ∷ p ∷ q ∷ r ∷ c ∷ p ∷ r ∷ s ∷ []

unfoldable pub turned_numbers : ℕ → (c p q r s : ℕ) → List ℕ
turned_numbers zero c p q r s = halves_numbers c p q r s
turned_numbers (suc n) c p q r s = turned_numbers n c q r s p

-- the face's centre is at k + v + w, that of the leaf across it at k + u + v + w
unfoldable pub face_numbers : (ℕ → ℕ) → Beside → ℕ → Quad → List ℕ
face_numbers number Split c f = fan_numbers number (number (f.k + f.v + f.w)) c f all_fine
face_numbers number (Equal fine) c f = fan_numbers number c (number (f.k + f.u + f.v + f.w)) f fine
face_numbers number Given c f = []
face_numbers number (Coarser n) c f = turned_numbers n c f.p0 f.p1 f.p2 f.p3
face_numbers number Border c f = halves_numbers c f.p0 f.p1 f.p2 f.p3

-- a rotation is by a corner of the face
abbrev pub turns_of : Beside → ℕ
turns_of Split = 0
turns_of (Equal fine) = 0
turns_of Given = 0
turns_of (Coarser n) = n
turns_of Border = 0

abbrev pub Turns : Beside → Type 0
Turns side = turns_of side ≤ 3

-- the faces of a leaf across its first axis
abbrev pub low_face : Corners → Quad
low_face o = record { p0 = o.c0; p1 = o.c2; p2 = o.c6; p3 = o.c4; k = o.k; u = o.u; v = o.v; w = o.w }

abbrev pub high_face : Corners → Quad
high_face o = record { p0 = o.c1; p1 = o.c3; p2 = o.c7; p3 = o.c5; k = o.k + 2 * o.u; u = o.u; v = o.v; w = o.w }

unfoldable pub axis_numbers : (ℕ → ℕ) → (low high : Beside) → Corners → List ℕ
axis_numbers number low high o = face_numbers number low o.centre (low_face o) ++ face_numbers number high o.centre (high_face o)

-- the leaf whose low corner has the key k, where every number is that of its key
unfoldable pub corners_at : (ℕ → ℕ) → (k u v w : ℕ) → Corners
corners_at number k u v w =
    record {
      centre = number (k + u + v + w);
      c0 = number k;
      c1 = number (k + 2 * u);
      c2 = number (k + 2 * v);
      c3 = number (k + 2 * u + 2 * v);
      c4 = number (k + 2 * w);
      c5 = number (k + 2 * u + 2 * w);
      c6 = number (k + 2 * v + 2 * w);
      c7 = number (k + 2 * u + 2 * v + 2 * w);
      k = k;
      u = u;
      v = v;
      w = w;
    }

-- the same leaf, from the next axis on
abbrev pub from_next : Corners → Corners
from_next o =
    record {
      centre = o.centre;
      c0 = o.c0;
      c1 = o.c2;
      c2 = o.c4;
      c3 = o.c6;
      c4 = o.c1;
      c5 = o.c3;
      c6 = o.c5;
      c7 = o.c7;
      k = o.k;
      u = o.v;
      v = o.w;
      w = o.u;
    }

unfoldable pub axis_keyed : (ℕ → ℕ) → (low high : Beside) → (k u v w : ℕ) → List ℕ
axis_keyed number low high k u v w = axis_numbers number low high (corners_at number k u v w)

-- the six faces of a leaf, h half its width
unfoldable pub leaf_numbers : (ℕ → ℕ) → Sides → (k h : ℕ) → List ℕ
leaf_numbers number f k h =
    axis_keyed number f.x0 f.x1 k (h * stride ax) (h * stride ay) (h * stride az)
    ++ (axis_keyed number f.y0 f.y1 k (h * stride ay) (h * stride az) (h * stride ax)
    ++ axis_keyed number f.z0 f.z1 k (h * stride az) (h * stride ax) (h * stride ay))

pub record AllTurn (f : Sides) : Type 0 where
  pub x : Turns f.x0 × Turns f.x1
  pub y : Turns f.y0 × Turns f.y1
  pub z : Turns f.z0 × Turns f.z1
