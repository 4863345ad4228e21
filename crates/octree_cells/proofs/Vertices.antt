-- In a graded octree the vertices of the cells are the corners and the centres of the leaves.
use mathlib.Core.Path.{◌≡◌, refl, ap, sym, ◌∙◌, subst, fun_ext}
use mathlib.Core.Bool.{Bool, true, false, cond, not, ◌&&◌, ◌||◌}
use mathlib.Core.List.{List, [], ◌∷◌, ◌++◌}
use mathlib.Core.Logic.{◌⊎◌, inl, inr, ⊎_elim}
use Prim.Native.Nat.{ℕ, zero, suc, ◌+◌, ◌*◌, ◌-◌, ◌/◌, ◌%◌, ◌≤◌, ◌<◌}
use native.Mathlib.Omega.{arith}
use native.Mathlib.Nat.{div-add-mod'}
use lib.Dec.{eqb}
use borrow.Author.Tests.{eqb-true, ltb-true}
use Rattle.space.specs.Space.{Axis, ax, ay, az, Pos, pos, Inside, frame}
use Rattle.lists.specs.Tests.{any}
use Rattle.octants.specs.Oct.{Tree, counts, width, Closed, within}
use Rattle.lists.proofs.Bools.{and_both, or_cases, or_left, or_right, bool_cases, bool_ext, clash}
use Rattle.lists.proofs.Any.{any_some}
use Rattle.space.proofs.Space.{pos_eta}
use Rattle.octants.proofs.Near.{within_in}
use Rattle.octree_cells.specs.Cells.{Cell, cell, Face, face, face_centre, corner, centre, middle, end, turned, turns_to, over, fan, halves, cells_to, Side, split, equal, coarser, border, side, beside, face_cells, axis_cells, leaf_cells, cells, over_leaves, box_down, two, finer, leaf_around, leaf_at, at_most, is_leaf, on_grid, reaches, stepped, Cover, none, leaf, descent, covered_by, of_level}
use Rattle.octree_cells.specs.Leaf.{own}
use Rattle.octree_cells.proofs.Opened.{two_lt}
use Rattle.octree_cells.specs.Leaf.{IsLeaf}
use Rattle.octree_cells.proofs.LeafSome.{whole_of, leaves_some, some_leaves, box_some, some_box}
use Rattle.octree_cells.proofs.Local.{is_own, at_most_lem, between, finer_mid, some_around}
use Rattle.octree_cells.proofs.Sides.{beside_in_lem}
use Rattle.octree_cells.specs.Vertices.{names, marks, leaf_points}

module _ (q : Pos → Bool) where
  or_assoc : (a b c : Bool) → a || (b || c) ≡ a || b || c
  or_assoc true b c = refl
  or_assoc false b c = refl

  names_append : (a b : List Cell) → names q (a ++ b) ≡ names q a || names q b
  unfolding names
  names_append [] b = refl
  names_append (c ∷ a) b = ap (λ (r : Bool). (q c.c0 || q c.c1 || q c.c2 || q c.c3) || r) (names_append a b) ∙ or_assoc (q c.c0 || q c.c1 || q c.c2 || q c.c3) (names q a) (names q b)

  marks_append : (a b : List Pos) → marks q (a ++ b) ≡ marks q a || marks q b
  unfolding marks
  marks_append [] b = refl
  marks_append (p ∷ a) b = ap (λ (r : Bool). q p || r) (marks_append a b) ∙ or_assoc (q p) (marks q a) (marks q b)

  Q : Pos → Type 0
  Q p = q p ≡ true

  -- one cell
  cell_names : (p0 p1 p2 p3 : Pos) (cs : List Cell) → names q (cell p0 p1 p2 p3 ∷ cs) ≡ true → (q p0 ≡ true) ⊎ (q p1 ≡ true) ⊎ (q p2 ≡ true) ⊎ (q p3 ≡ true) ⊎ (names q cs ≡ true)
  unfolding names
  cell_names p0 p1 p2 p3 cs h = go (q p0) (q p1) (q p2) (q p3) (names q cs) h
    where
      go : (a b c d e : Bool) → (a || b || c || d) || e ≡ true → (a ≡ true) ⊎ (b ≡ true) ⊎ (c ≡ true) ⊎ (d ≡ true) ⊎ (e ≡ true)
      go true b c d e h = inl refl
      go false true c d e h = inr (inl refl)
      go false false true d e h = inr (inr (inl refl))
      go false false false true e h = inr (inr (inr (inl refl)))
      go false false false false e h = inr (inr (inr (inr h)))

  names_cell : (p0 p1 p2 p3 : Pos) (cs : List Cell) → (q p0 ≡ true) ⊎ (q p1 ≡ true) ⊎ (q p2 ≡ true) ⊎ (q p3 ≡ true) ⊎ (names q cs ≡ true) → names q (cell p0 p1 p2 p3 ∷ cs) ≡ true
  unfolding names
  names_cell p0 p1 p2 p3 cs h = go (q p0) (q p1) (q p2) (q p3) (names q cs) h
    where
      go : (a b c d e : Bool) → (a ≡ true) ⊎ (b ≡ true) ⊎ (c ≡ true) ⊎ (d ≡ true) ⊎ (e ≡ true) → (a || b || c || d) || e ≡ true
      go true b c d e h = refl
      go false true c d e h = refl
      go false false true d e h = refl
      go false false false true e h = refl
      go false false false false true h = refl
      go false false false false false (inl h) = h
      go false false false false false (inr (inl h)) = h
      go false false false false false (inr (inr (inl h))) = h
      go false false false false false (inr (inr (inr (inl h)))) = h
      go false false false false false (inr (inr (inr (inr h)))) = h

-- a corner of a face passes
pub data FaceHas (q : Pos → Bool) (f : Face) : Type 0 where
  h0 : q f.p0 ≡ true → FaceHas q f
  h1 : q f.p1 ≡ true → FaceHas q f
  h2 : q f.p2 ≡ true → FaceHas q f
  h3 : q f.p3 ≡ true → FaceHas q f

-- what passes among the vertices of the cells at a face
pub data Met (q fine : Pos → Bool) (p r : Pos) (f : Face) : Type 0 where
  first : q p ≡ true → Met q fine p r f
  second : q r ≡ true → Met q fine p r f
  on_face : FaceHas q f → Met q fine p r f
  on_edge : (v : Pos) → fine v ≡ true → q v ≡ true → Met q fine p r f

module _ (q : Pos → Bool) where
  turned_has : (n : ℕ) (f : Face) → FaceHas q f → FaceHas q (turned n f)
  turned_has zero f h = h
  turned_has (suc n) f h = turned_has n _ (go h)
    where
      go : FaceHas q f → FaceHas q (record { p0 = f.p1; p1 = f.p2; p2 = f.p3; p3 = f.p0 })
      go (h0 e) = h3 e
      go (h1 e) = h0 e
      go (h2 e) = h1 e
      go (h3 e) = h2 e

  has_turned : (n : ℕ) (f : Face) → FaceHas q (turned n f) → FaceHas q f
  has_turned zero f h = h
  has_turned (suc n) f h = go (has_turned n _ h)
    where
      go : FaceHas q (record { p0 = f.p1; p1 = f.p2; p2 = f.p3; p3 = f.p0 }) → FaceHas q f
      go (h0 e) = h1 e
      go (h1 e) = h2 e
      go (h2 e) = h3 e
      go (h3 e) = h0 e

  -- over an edge
  over_found : (fine : Pos → Bool) (p r a b : Pos) → names q (over fine p r a b) ≡ true
      → (q p ≡ true) ⊎ (q r ≡ true) ⊎ (q a ≡ true) ⊎ (q b ≡ true) ⊎ ((fine (middle a b) ≡ true) × (q (middle a b) ≡ true))
  unfolding over names
  over_found fine p r a b h = ⊎_elim (λ e. two_cells e (at true e h)) (λ e. one_cell (at false e h)) (bool_cases (fine (middle a b)))
    where
      at : (c : Bool) → fine (middle a b) ≡ c
          → names q (cond (fine (middle a b)) (cell p r a (middle a b) ∷ cell p r (middle a b) b ∷ []) (cell p r a b ∷ [])) ≡ true
          → names q (cond c (cell p r a (middle a b) ∷ cell p r (middle a b) b ∷ []) (cell p r a b ∷ [])) ≡ true
      at c e h = subst (λ (c : Bool). names q (cond c (cell p r a (middle a b) ∷ cell p r (middle a b) b ∷ []) (cell p r a b ∷ [])) ≡ true) e h

      one_cell : names q (cell p r a b ∷ []) ≡ true
          → (q p ≡ true) ⊎ (q r ≡ true) ⊎ (q a ≡ true) ⊎ (q b ≡ true) ⊎ ((fine (middle a b) ≡ true) × (q (middle a b) ≡ true))
      one_cell h = go (cell_names q p r a b [] h)
        where
          go : (q p ≡ true) ⊎ (q r ≡ true) ⊎ (q a ≡ true) ⊎ (q b ≡ true) ⊎ (names q [] ≡ true)
              → (q p ≡ true) ⊎ (q r ≡ true) ⊎ (q a ≡ true) ⊎ (q b ≡ true) ⊎ ((fine (middle a b) ≡ true) × (q (middle a b) ≡ true))
          go (inl e) = inl e
          go (inr (inl e)) = inr (inl e)
          go (inr (inr (inl e))) = inr (inr (inl e))
          go (inr (inr (inr (inl e)))) = inr (inr (inr (inl e)))
          go (inr (inr (inr (inr e)))) = clash e refl

      two_cells : fine (middle a b) ≡ true → names q (cell p r a (middle a b) ∷ cell p r (middle a b) b ∷ []) ≡ true
          → (q p ≡ true) ⊎ (q r ≡ true) ⊎ (q a ≡ true) ⊎ (q b ≡ true) ⊎ ((fine (middle a b) ≡ true) × (q (middle a b) ≡ true))
      two_cells f h = go (cell_names q p r a (middle a b) (cell p r (middle a b) b ∷ []) h)
        where
          last : (q p ≡ true) ⊎ (q r ≡ true) ⊎ (q (middle a b) ≡ true) ⊎ (q b ≡ true) ⊎ (names q [] ≡ true)
              → (q p ≡ true) ⊎ (q r ≡ true) ⊎ (q a ≡ true) ⊎ (q b ≡ true) ⊎ ((fine (middle a b) ≡ true) × (q (middle a b) ≡ true))
          last (inl e) = inl e
          last (inr (inl e)) = inr (inl e)
          last (inr (inr (inl e))) = inr (inr (inr (inr (f, e))))
          last (inr (inr (inr (inl e)))) = inr (inr (inr (inl e)))
          last (inr (inr (inr (inr e)))) = clash e refl

          go : (q p ≡ true) ⊎ (q r ≡ true) ⊎ (q a ≡ true) ⊎ (q (middle a b) ≡ true) ⊎ (names q (cell p r (middle a b) b ∷ []) ≡ true)
              → (q p ≡ true) ⊎ (q r ≡ true) ⊎ (q a ≡ true) ⊎ (q b ≡ true) ⊎ ((fine (middle a b) ≡ true) × (q (middle a b) ≡ true))
          go (inl e) = inl e
          go (inr (inl e)) = inr (inl e)
          go (inr (inr (inl e))) = inr (inr (inl e))
          go (inr (inr (inr (inl e)))) = inr (inr (inr (inr (f, e))))
          go (inr (inr (inr (inr e)))) = last (cell_names q p r (middle a b) b [] e)

  over_has : (fine : Pos → Bool) (p r a b : Pos) → (q p ≡ true) ⊎ (q r ≡ true) ⊎ (q a ≡ true) → names q (over fine p r a b) ≡ true
  unfolding over
  over_has fine p r a b h = go (fine (middle a b)) h
    where
      go : (c : Bool) → (q p ≡ true) ⊎ (q r ≡ true) ⊎ (q a ≡ true)
          → names q (cond c (cell p r a (middle a b) ∷ cell p r (middle a b) b ∷ []) (cell p r a b ∷ [])) ≡ true
      go true (inl e) = names_cell q _ _ _ _ _ (inl e)
      go true (inr (inl e)) = names_cell q _ _ _ _ _ (inr (inl e))
      go true (inr (inr e)) = names_cell q _ _ _ _ _ (inr (inr (inl e)))
      go false (inl e) = names_cell q _ _ _ _ _ (inl e)
      go false (inr (inl e)) = names_cell q _ _ _ _ _ (inr (inl e))
      go false (inr (inr e)) = names_cell q _ _ _ _ _ (inr (inr (inl e)))

  names_4 : (a b c d : List Cell) → names q (a ++ b ++ c ++ d) ≡ names q a || names q b || names q c || names q d
  names_4 a b c d = simp (names_append q)

  or_4 : (a b c d : Bool) → a || b || c || d ≡ true → (a ≡ true) ⊎ (b ≡ true) ⊎ (c ≡ true) ⊎ (d ≡ true)
  or_4 true b c d h = inl refl
  or_4 false true c d h = inr (inl refl)
  or_4 false false true d h = inr (inr (inl refl))
  or_4 false false false d h = inr (inr (inr h))

  4_or : (a b c d : Bool) → (a ≡ true) ⊎ (b ≡ true) ⊎ (c ≡ true) ⊎ (d ≡ true) → a || b || c || d ≡ true
  4_or true b c d h = refl
  4_or false true c d h = refl
  4_or false false true d h = refl
  4_or false false false true h = refl
  4_or false false false false (inl h) = h
  4_or false false false false (inr (inl h)) = h
  4_or false false false false (inr (inr (inl h))) = h
  4_or false false false false (inr (inr (inr h))) = h

  fan_found : (fine : Pos → Bool) (p r : Pos) (f : Face) → names q (fan fine p r f) ≡ true → Met q fine p r f
  unfolding fan
  fan_found fine p r f h = go (or_4 _ _ _ _ (sym (names_4 o0 o1 o2 o3) ∙ h))
    where
      o0 : List Cell
      o0 = over fine p r f.p0 f.p1

      o1 : List Cell
      o1 = over fine p r f.p1 f.p2

      o2 : List Cell
      o2 = over fine p r f.p2 f.p3

      o3 : List Cell
      o3 = over fine p r f.p3 f.p0

      at : (a b : Pos) → (q a ≡ true → FaceHas q f) → (q b ≡ true → FaceHas q f)
          → (q p ≡ true) ⊎ (q r ≡ true) ⊎ (q a ≡ true) ⊎ (q b ≡ true) ⊎ ((fine (middle a b) ≡ true) × (q (middle a b) ≡ true)) → Met q fine p r f
      at a b i j (inl e) = first e
      at a b i j (inr (inl e)) = second e
      at a b i j (inr (inr (inl e))) = on_face (i e)
      at a b i j (inr (inr (inr (inl e)))) = on_face (j e)
      at a b i j (inr (inr (inr (inr e)))) = on_edge (middle a b) e.0 e.1

      go : (names q o0 ≡ true) ⊎ (names q o1 ≡ true) ⊎ (names q o2 ≡ true) ⊎ (names q o3 ≡ true) → Met q fine p r f
      go (inl e) = at f.p0 f.p1 h0 h1 (over_found fine p r f.p0 f.p1 e)
      go (inr (inl e)) = at f.p1 f.p2 h1 h2 (over_found fine p r f.p1 f.p2 e)
      go (inr (inr (inl e))) = at f.p2 f.p3 h2 h3 (over_found fine p r f.p2 f.p3 e)
      go (inr (inr (inr e))) = at f.p3 f.p0 h3 h0 (over_found fine p r f.p3 f.p0 e)

  fan_has : (fine : Pos → Bool) (p r : Pos) (f : Face) → (q p ≡ true) ⊎ (q r ≡ true) ⊎ FaceHas q f → names q (fan fine p r f) ≡ true
  unfolding fan
  fan_has fine p r f h =
      names_4 (over fine p r f.p0 f.p1) (over fine p r f.p1 f.p2) (over fine p r f.p2 f.p3) (over fine p r f.p3 f.p0)
      ∙ 4_or _ _ _ _ (go h)
    where
      go : (q p ≡ true) ⊎ (q r ≡ true) ⊎ FaceHas q f
          → (names q (over fine p r f.p0 f.p1) ≡ true) ⊎ (names q (over fine p r f.p1 f.p2) ≡ true) ⊎ (names q (over fine p r f.p2 f.p3) ≡ true) ⊎ (names q (over fine p r f.p3 f.p0) ≡ true)
      go (inl e) = inl (over_has fine p r f.p0 f.p1 (inl e))
      go (inr (inl e)) = inl (over_has fine p r f.p0 f.p1 (inr (inl e)))
      go (inr (inr (h0 e))) = inl (over_has fine p r f.p0 f.p1 (inr (inr e)))
      go (inr (inr (h1 e))) = inr (inl (over_has fine p r f.p1 f.p2 (inr (inr e))))
      go (inr (inr (h2 e))) = inr (inr (inl (over_has fine p r f.p2 f.p3 (inr (inr e)))))
      go (inr (inr (h3 e))) = inr (inr (inr (over_has fine p r f.p3 f.p0 (inr (inr e)))))

  halves_found : (c : Pos) (f : Face) → names q (halves c f) ≡ true → (q c ≡ true) ⊎ FaceHas q f
  unfolding halves names
  halves_found c f h = go (cell_names q c f.p0 f.p1 f.p2 (cell c f.p0 f.p2 f.p3 ∷ []) h)
    where
      last : (q c ≡ true) ⊎ (q f.p0 ≡ true) ⊎ (q f.p2 ≡ true) ⊎ (q f.p3 ≡ true) ⊎ (names q [] ≡ true) → (q c ≡ true) ⊎ FaceHas q f
      last (inl e) = inl e
      last (inr (inl e)) = inr (h0 e)
      last (inr (inr (inl e))) = inr (h2 e)
      last (inr (inr (inr (inl e)))) = inr (h3 e)
      last (inr (inr (inr (inr e)))) = clash e refl

      go : (q c ≡ true) ⊎ (q f.p0 ≡ true) ⊎ (q f.p1 ≡ true) ⊎ (q f.p2 ≡ true) ⊎ (names q (cell c f.p0 f.p2 f.p3 ∷ []) ≡ true) → (q c ≡ true) ⊎ FaceHas q f
      go (inl e) = inl e
      go (inr (inl e)) = inr (h0 e)
      go (inr (inr (inl e))) = inr (h1 e)
      go (inr (inr (inr (inl e)))) = inr (h2 e)
      go (inr (inr (inr (inr e)))) = last (cell_names q c f.p0 f.p2 f.p3 [] e)

  halves_has : (c : Pos) (f : Face) → (q c ≡ true) ⊎ FaceHas q f → names q (halves c f) ≡ true
  unfolding halves
  halves_has c f (inl e) = names_cell q _ _ _ _ _ (inl e)
  halves_has c f (inr (h0 e)) = names_cell q _ _ _ _ _ (inr (inl e))
  halves_has c f (inr (h1 e)) = names_cell q _ _ _ _ _ (inr (inr (inl e)))
  halves_has c f (inr (h2 e)) = names_cell q _ _ _ _ _ (inr (inr (inr (inl e))))
  halves_has c f (inr (h3 e)) = names_cell q _ _ _ _ _ (inr (inr (inr (inr (names_cell q _ _ _ _ _ (inr (inr (inr (inl e)))))))))

-- a corner of the face, by its offset
frame_two : (a : Axis) (e f g : ℕ) → e < 2 → f < 2 → g < 2 → Inside two (frame a e f g)
frame_two ax e f g p q r ax = p
frame_two ax e f g p q r ay = q
frame_two ax e f g p q r az = r
frame_two ay e f g p q r ax = r
frame_two ay e f g p q r ay = p
frame_two ay e f g p q r az = q
frame_two az e f g p q r ax = q
frame_two az e f g p q r ay = r
frame_two az e f g p q r az = p

end_lt : (s : Bool) → end s < 2
end_lt true = omega arith
end_lt false = omega arith

has_corner : (q : Pos → Bool) (m : ℕ) (x : Pos) (a : Axis) (s : Bool) → FaceHas q (face m x a s) → (o : Pos) × (Inside two o) × (q (corner m x o) ≡ true)
has_corner q m x a s (h0 e) = (frame a (end s) 0 0, frame_two a _ _ _ (end_lt s) (omega arith) (omega arith), e)
has_corner q m x a s (h1 e) = (frame a (end s) 1 0, frame_two a _ _ _ (end_lt s) (omega arith) (omega arith), e)
has_corner q m x a s (h2 e) = (frame a (end s) 1 1, frame_two a _ _ _ (end_lt s) (omega arith) (omega arith), e)
has_corner q m x a s (h3 e) = (frame a (end s) 0 1, frame_two a _ _ _ (end_lt s) (omega arith) (omega arith), e)

step_hold : (s : Bool) (n i : ℕ) → reaches n s i ≡ true → (2 * stepped s i ≤ 2 * i + end s + end s) × (2 * i + end s + end s ≤ 2 * stepped s i + 2)
step_hold true n i r = (omega arith, omega arith)
step_hold false n i r = let h : 0 < i = ltb-true 0 i r in (omega arith, omega arith)

self_hold : (i : ℕ) → (2 * i ≤ 2 * i + 0 + 1) × (2 * i + 0 + 1 ≤ 2 * i + 2)
self_hold i = (omega arith, omega arith)

beside_hold : (n : Pos) (a : Axis) (s : Bool) (x : Pos) → reaches (n a) s (x a) ≡ true
    → (b : Axis) → (2 * beside a s x b ≤ between x (frame a (end s) 0 0) (frame a (end s) 1 1) b) × (between x (frame a (end s) 0 0) (frame a (end s) 1 1) b ≤ 2 * beside a s x b + 2)
beside_hold n ax s x r ax = step_hold s (n ax) (x ax) r
beside_hold n ax s x r ay = self_hold (x ay)
beside_hold n ax s x r az = self_hold (x az)
beside_hold n ay s x r ax = self_hold (x ax)
beside_hold n ay s x r ay = step_hold s (n ay) (x ay) r
beside_hold n ay s x r az = self_hold (x az)
beside_hold n az s x r ax = self_hold (x ax)
beside_hold n az s x r ay = self_hold (x ay)
beside_hold n az s x r az = step_hold s (n az) (x az) r

between_hold : (x o p : Pos) → ((b : Axis) → o b < 2) → ((b : Axis) → p b < 2) → (b : Axis) → (2 * x b ≤ between x o p b) × (between x o p b ≤ 2 * x b + 2)
between_hold x o p h g b = (omega arith, omega (arith, h b, g b))

module _ (l : ℕ) (d : Pos) (t : Tree) where
  -- a finer vertex is a leaf's corner
  finer_corner : (m : ℕ) (v : Pos) → m ≤ l → finer l d t m v ≡ true → (n : ℕ) × (z : Pos) × (o : Pos) × (IsLeaf l d t n z) × (Inside two o) × (corner n z o ≡ v)
  unfolding finer
  finer_corner zero v h s = clash s refl
  finer_corner (suc n) v h s =
      let b : Pos = λ k. v k / width n in
      let g = and_both (on_grid (width n) v) (leaf_around l d t n b) s in
      let rk = any_some 2 (λ k. any 2 (λ j. any 2 (λ i. leaf_at l d t n b (pos i j k)))) g.1 in
      let rj = any_some 2 (λ j. any 2 (λ i. leaf_at l d t n b (pos i j rk.0))) rk.2 in
      let ri = any_some 2 (λ i. leaf_at l d t n b (pos i rj.0 rk.0)) rj.2 in
      let c : Pos = pos ri.0 rj.0 rk.0 in
      let z : Pos = λ a. b a - c a in
      let p = and_both (at_most c b) (is_leaf l d t n z) ri.2 in
      let r = and_both (within (counts l d n) z) (own t n z (l - n)) (sym (is_own l d t n z) ∙ p.1) in (
        n,
        z,
        c,
        record { fits = omega arith; inside = within_in (counts l d n) z r.0; owns = r.1 },
        frame_two ax ri.0 rj.0 rk.0 ri.1 rj.1 rk.1,
        fun_ext (λ a. back (v a) (width n) (c a) (at_most_lem l d t c b p.0 a) (grid a g.0)),
      )
    where
      back : (v w c : ℕ) → c ≤ v / w → v % w ≡ 0 → (v / w - c + c) * w ≡ v
      back v w c h e = let f : v / w - c + c ≡ v / w = omega arith in ap (λ (n : ℕ). n * w) f ∙ omega (arith, div-add-mod' v w)

      on : Axis → Bool
      on a = eqb (v a % width n) 0

      grid : (a : Axis) → on_grid (width n) v ≡ true → v a % width n ≡ 0
      grid ax h = eqb-true _ 0 (and_both (on ax) (on ay) (and_both (on ax && on ay) (on az) h).0).0
      grid ay h = eqb-true _ 0 (and_both (on ax) (on ay) (and_both (on ax && on ay) (on az) h).0).1
      grid az h = eqb-true _ 0 (and_both (on ax && on ay) (on az) h).1

  -- the centre of a face towards a split neighbour is a finer vertex
  pub centre_finer : Closed l d t → (m : ℕ) (x : Pos) (a : Axis) (s : Bool) → IsLeaf l d t m x → reaches (counts l d m a) s (x a) ≡ true → t m (beside a s x) ≡ true
      → finer l d t m (face_centre (face m x a s)) ≡ true
  centre_finer c zero x a s p r e = clash e (c.finest (beside a s x))
  centre_finer c (suc n) x a s p r e =
      finer_mid l d t n x (frame a (end s) 0 0) (frame a (end s) 1 1)
      ∙ some_around l d t c n (between x (frame a (end s) 0 0) (frame a (end s) 1 1)) x (beside a s x) p.fits p.inside (whole_of l d t (suc n) x p)
      (between_hold x (frame a (end s) 0 0) (frame a (end s) 1 1) (two_lt _ (frame_two a _ _ _ (end_lt s) (omega arith) (omega arith))) (two_lt _ (frame_two a _ _ _ (end_lt s) (omega arith) (omega arith))))
      (beside_in_lem (counts l d (suc n)) a s x p.inside r) e (beside_hold (counts l d (suc n)) a s x r)

  pub side_is_split : (m : ℕ) (x : Pos) (a : Axis) (s : Bool) → side l d t m x a s ≡ split → (reaches (counts l d m a) s (x a) ≡ true) × (t m (beside a s x) ≡ true)
  unfolding side
  side_is_split m x a s h = go (reaches (counts l d m a) s (x a)) (t m (beside a s x)) (descent t m (beside a s x) (l - m)) h
    where
      go : (r b : Bool) (c : Cover) → cond r (cond b split (covered_by m c)) border ≡ split → (r ≡ true) × (b ≡ true)
      go true true c h = (refl, refl)
      go true false none h = let z : ◌≡◌ {A = ℕ} 0 1 = cc in absurd (omega arith)
      go true false (leaf n y) h = no (eqb n m) h
        where
          no : (e : Bool) → cond e equal (coarser n y) ≡ split → (true ≡ true) × (false ≡ true)
          no true h = let z : ◌≡◌ {A = ℕ} 0 1 = cc in absurd (omega arith)
          no false h = let z : ◌≡◌ {A = ℕ} 0 1 = cc in absurd (omega arith)
      go false b c h = let z : ◌≡◌ {A = ℕ} 0 1 = cc in absurd (omega arith)

  side_is_equal : (m : ℕ) (x : Pos) (a : Axis) (s : Bool) → side l d t m x a s ≡ equal → (reaches (counts l d m a) s (x a) ≡ true) × (own t m (beside a s x) (l - m) ≡ true)
  unfolding side
  side_is_equal m x a s h = go (reaches (counts l d m a) s (x a)) (t m (beside a s x)) (descent t m (beside a s x) (l - m)) h
    where
      go : (r b : Bool) (c : Cover) → cond r (cond b split (covered_by m c)) border ≡ equal → (r ≡ true) × (of_level m c ≡ true)
      go true true c h = let z : ◌≡◌ {A = ℕ} 0 1 = cc in absurd (omega arith)
      go true false none h = let z : ◌≡◌ {A = ℕ} 0 1 = cc in absurd (omega arith)
      go true false (leaf n y) h = yes' (eqb n m) h
        where
          yes' : (e : Bool) → cond e equal (coarser n y) ≡ equal → (true ≡ true) × (e ≡ true)
          yes' true h = (refl, refl)
          yes' false h = let z : ◌≡◌ {A = ℕ} 0 1 = cc in absurd (omega arith)
      go false b c h = let z : ◌≡◌ {A = ℕ} 0 1 = cc in absurd (omega arith)

  beside_leaf : (m : ℕ) (x : Pos) (a : Axis) (s : Bool) → IsLeaf l d t m x → side l d t m x a s ≡ equal → IsLeaf l d t m (beside a s x)
  beside_leaf m x a s p h =
      let r = side_is_equal m x a s h in
      record { fits = p.fits; inside = beside_in_lem (counts l d m) a s x p.inside r.0; owns = r.1 }

module _ (l : ℕ) (d : Pos) (t : Tree) (c : Closed l d t) (q : Pos → Bool) where
  leaf_centre : (m : ℕ) (x : Pos) → IsLeaf l d t m x → q (centre m x) ≡ true → marks q (over_leaves l d t leaf_points) ≡ true
  unfolding marks
  leaf_centre m x p e = some_leaves (marks q) refl (marks_append q) l d t leaf_points m x p (or_left (q (centre m x)) _ e)

  leaf_corner : (m : ℕ) (x o : Pos) → IsLeaf l d t m x → Inside two o → q (corner m x o) ≡ true → marks q (over_leaves l d t leaf_points) ≡ true
  unfolding marks
  leaf_corner m x o p i e =
      some_leaves (marks q) refl (marks_append q) l d t leaf_points m x p
      (or_right (q (centre m x)) (marks q (box_down two (λ o. corner m x o ∷ [])))
      (some_box (marks q) refl (marks_append q) two (λ o. corner m x o ∷ []) o i (or_left (q (corner m x o)) false e)))

  finer_marks : (m : ℕ) (v : Pos) → m ≤ l → finer l d t m v ≡ true → q v ≡ true → marks q (over_leaves l d t leaf_points) ≡ true
  finer_marks m v h f e =
      let r = finer_corner l d t m v h f in
      leaf_corner r.0 r.1 r.2 r.3 r.4 (ap q r.5 ∙ e)

  -- each vertex of a cell is a leaf's corner or centre
  face_to : (m : ℕ) (x : Pos) (a : Axis) (s : Bool) → IsLeaf l d t m x → names q (face_cells l d t m x a s) ≡ true → marks q (over_leaves l d t leaf_points) ≡ true
  unfolding cells_to names
  face_to m x a s p h = go s (side l d t m x a s) refl h
    where
      on_face_lem : (s : Bool) → FaceHas q (face m x a s) → marks q (over_leaves l d t leaf_points) ≡ true
      on_face_lem s e = let r = has_corner q m x a s e in leaf_corner m x r.0 p r.1 r.2

      met : (s : Bool) (u v : Pos) → (q u ≡ true → marks q (over_leaves l d t leaf_points) ≡ true) → (q v ≡ true → marks q (over_leaves l d t leaf_points) ≡ true)
          → Met q (finer l d t m) u v (face m x a s) → marks q (over_leaves l d t leaf_points) ≡ true
      met s u v f g (first e) = f e
      met s u v f g (second e) = g e
      met s u v f g (on_face e) = on_face_lem s e
      met s u v f g (on_edge w e k) = finer_marks m w p.fits e k

      half : (s : Bool) (n : ℕ) → (q (centre m x) ≡ true) ⊎ FaceHas q (turned n (face m x a s)) → marks q (over_leaves l d t leaf_points) ≡ true
      half s n (inl e) = leaf_centre m x p e
      half s n (inr e) = on_face_lem s (has_turned q n (face m x a s) e)

      go : (s : Bool) (b : Side) → side l d t m x a s ≡ b → names q (cells_to (finer l d t m) m x a s b) ≡ true → marks q (over_leaves l d t leaf_points) ≡ true
      go s split e h =
          let r = side_is_split l d t m x a s e in
          met s (face_centre (face m x a s)) (centre m x)
          (λ k. finer_marks m (face_centre (face m x a s)) p.fits (centre_finer l d t c m x a s p r.0 r.1) k) (leaf_centre m x p)
          (fan_found q (finer l d t m) (face_centre (face m x a s)) (centre m x) (face m x a s) h)
      go false equal e h = clash h refl
      go true equal e h =
          met true (centre m x) (centre m (beside a true x)) (leaf_centre m x p) (leaf_centre m (beside a true x) (beside_leaf l d t m x a true p e))
          (fan_found q (finer l d t m) (centre m x) (centre m (beside a true x)) (face m x a true) h)
      go s (coarser n z) e h = half s (turns_to (face_centre (face n z a (not s))) (face m x a s)) (halves_found q (centre m x) (turned (turns_to (face_centre (face n z a (not s))) (face m x a s)) (face m x a s)) h)
      go s border e h = half s 0 (halves_found q (centre m x) (face m x a s) h)

  leaf_names : (u v w : Bool) → u || v || w ≡ true → (u ≡ true) ⊎ (v ≡ true) ⊎ (w ≡ true)
  leaf_names true v w h = inl refl
  leaf_names false true w h = inr (inl refl)
  leaf_names false false w h = inr (inr h)

  axis_to : (m : ℕ) (x : Pos) (a : Axis) → IsLeaf l d t m x → names q (axis_cells l d t m x a) ≡ true → marks q (over_leaves l d t leaf_points) ≡ true
  axis_to m x a p h = ⊎_elim (face_to m x a false p) (face_to m x a true p)
      (or_cases _ _ (sym (names_append q (face_cells l d t m x a false) (face_cells l d t m x a true)) ∙ h))

  leaf_to : (m : ℕ) (x : Pos) → IsLeaf l d t m x → names q (leaf_cells l d t m x) ≡ true → marks q (over_leaves l d t leaf_points) ≡ true
  unfolding leaf_cells
  leaf_to m x p h =
      go (leaf_names _ _ _ (sym (names_append q (axis_cells l d t m x ax ++ axis_cells l d t m x ay) (axis_cells l d t m x az)
      ∙ ap (λ (b : Bool). b || names q (axis_cells l d t m x az)) (names_append q (axis_cells l d t m x ax) (axis_cells l d t m x ay))) ∙ h))
    where
      go : (names q (axis_cells l d t m x ax) ≡ true) ⊎ (names q (axis_cells l d t m x ay) ≡ true) ⊎ (names q (axis_cells l d t m x az) ≡ true)
          → marks q (over_leaves l d t leaf_points) ≡ true
      go (inl e) = axis_to m x ax p e
      go (inr (inl e)) = axis_to m x ay p e
      go (inr (inr e)) = axis_to m x az p e

  -- and each of these is a vertex
  cells_has : (m : ℕ) (x : Pos) (s : Bool) (b : Side) → (s ≡ false → b ≡ equal → ⊥) → (q (centre m x) ≡ true) ⊎ FaceHas q (face m x ax s)
      → names q (cells_to (finer l d t m) m x ax s b) ≡ true
  unfolding cells_to
  cells_has m x s split n (inl e) = fan_has q (finer l d t m) _ _ _ (inr (inl e))
  cells_has m x s split n (inr e) = fan_has q (finer l d t m) _ _ _ (inr (inr e))
  cells_has m x false equal n h = absurd (n refl refl)
  cells_has m x true equal n (inl e) = fan_has q (finer l d t m) _ _ _ (inl e)
  cells_has m x true equal n (inr e) = fan_has q (finer l d t m) _ _ _ (inr (inr e))
  cells_has m x s (coarser k z) n (inl e) = halves_has q _ _ (inl e)
  cells_has m x s (coarser k z) n (inr e) = halves_has q _ _ (inr (turned_has q (turns_to (face_centre (face k z ax (not s))) (face m x ax s)) (face m x ax s) e))
  cells_has m x s border n h = halves_has q _ _ h

  from_face : (m : ℕ) (x : Pos) (s : Bool) → IsLeaf l d t m x → names q (face_cells l d t m x ax s) ≡ true → names q (cells l d t) ≡ true
  unfolding leaf_cells names
  from_face m x s p h =
      some_leaves (names q) refl (names_append q) l d t (leaf_cells l d t) m x p
      (names_append q (axis_cells l d t m x ax ++ axis_cells l d t m x ay) (axis_cells l d t m x az)
      ∙ or_left _ _ (names_append q (axis_cells l d t m x ax) (axis_cells l d t m x ay)
      ∙ or_left _ _ (names_append q (face_cells l d t m x ax false) (face_cells l d t m x ax true) ∙ at s h)))
    where
      at : (s : Bool) → names q (face_cells l d t m x ax s) ≡ true → names q (face_cells l d t m x ax false) || names q (face_cells l d t m x ax true) ≡ true
      at false h = or_left (names q (face_cells l d t m x ax false)) (names q (face_cells l d t m x ax true)) h
      at true h = or_right (names q (face_cells l d t m x ax false)) (names q (face_cells l d t m x ax true)) h

  corner_has : (m : ℕ) (x : Pos) (s : Bool) (f g : ℕ) → f < 2 → g < 2 → q (corner m x (frame ax (end s) f g)) ≡ true → FaceHas q (face m x ax s)
  corner_has m x s zero zero p r e = h0 e
  corner_has m x s (suc zero) zero p r e = h1 e
  corner_has m x s (suc zero) (suc zero) p r e = h2 e
  corner_has m x s zero (suc zero) p r e = h3 e
  corner_has m x s (suc (suc f)) g p r e = absurd (omega arith)
  corner_has m x s zero (suc (suc g)) p r e = absurd (omega arith)
  corner_has m x s (suc zero) (suc (suc g)) p r e = absurd (omega arith)

  same_corner : (m : ℕ) (x : Pos) (f g : ℕ) → 0 < x ax → corner m (beside ax false x) (frame ax 1 f g) ≡ corner m x (frame ax 0 f g)
  same_corner m x f g h = fun_ext go
    where
      go : (a : Axis) → corner m (beside ax false x) (frame ax 1 f g) a ≡ corner m x (frame ax 0 f g) a
      go ax = let e : x ax - 1 + 1 ≡ x ax + 0 = omega arith in ap (λ (n : ℕ). n * width m) e
      go ay = refl
      go az = refl

  leaf_from : (m : ℕ) (x : Pos) → IsLeaf l d t m x → marks q (leaf_points m x) ≡ true → names q (cells l d t) ≡ true
  unfolding marks
  leaf_from m x p h = ⊎_elim
      (λ e. from_face m x true p (cells_has m x true (side l d t m x ax true) (λ u. clash refl u) (inl e)))
      (λ e. let r = box_some (marks q) refl (marks_append q) two (λ o. corner m x o ∷ []) e in
      corners (r.0 ax) (r.0 ay) (r.0 az) (r.1 ax) (r.1 ay) (r.1 az)
      (subst (λ (o : Pos). q (corner m x o) ≡ true) (sym (pos_eta r.0)) (⊎_elim (λ k. k) (λ k. clash k refl) (or_cases (q (corner m x r.0)) false r.2))))
      (or_cases (q (centre m x)) (marks q (box_down two (λ o. corner m x o ∷ []))) h)
    where
      low : (f g : ℕ) → f < 2 → g < 2 → q (corner m x (frame ax 0 f g)) ≡ true → (b : Side) → side l d t m x ax false ≡ b → names q (cells l d t) ≡ true
      low f g pf pg e equal h =
          let r = side_is_equal l d t m x ax false h in
          let y = beside_leaf l d t m x ax false p h in
          from_face m (beside ax false x) true y
          (cells_has m (beside ax false x) true (side l d t m (beside ax false x) ax true) (λ u. clash refl u)
          (inr (corner_has m (beside ax false x) true f g pf pg (ap q (same_corner m x f g (ltb-true 0 (x ax) r.0)) ∙ e))))
      low f g pf pg e split h =
          from_face m x false p (cells_has m x false (side l d t m x ax false) (λ u v. let z : ◌≡◌ {A = ℕ} 0 1 = cc in omega arith) (inr (corner_has m x false f g pf pg e)))
      low f g pf pg e (coarser n z) h =
          from_face m x false p (cells_has m x false (side l d t m x ax false) (λ u v. let z : ◌≡◌ {A = ℕ} 0 1 = cc in omega arith) (inr (corner_has m x false f g pf pg e)))
      low f g pf pg e border h =
          from_face m x false p (cells_has m x false (side l d t m x ax false) (λ u v. let z : ◌≡◌ {A = ℕ} 0 1 = cc in omega arith) (inr (corner_has m x false f g pf pg e)))

      corners : (i f g : ℕ) → i < 2 → f < 2 → g < 2 → q (corner m x (pos i f g)) ≡ true → names q (cells l d t) ≡ true
      corners zero f g pi pf pg e = low f g pf pg e (side l d t m x ax false) refl
      corners (suc zero) f g pi pf pg e =
          from_face m x true p (cells_has m x true (side l d t m x ax true) (λ u. clash refl u) (inr (corner_has m x true f g pf pg e)))
      corners (suc (suc i)) f g pi pf pg e = absurd (omega arith)

  -- the vertices of the cells are the points of the leaves
  pub vertices : names q (cells l d t) ≡ marks q (over_leaves l d t leaf_points)
  unfolding names marks
  vertices = bool_ext (names q (cells l d t)) (marks q (over_leaves l d t leaf_points))
      (λ h. let r = leaves_some (names q) refl (names_append q) l d t (leaf_cells l d t) c.finest h in leaf_to r.0 r.1 r.2 r.3)
      (λ h. let r = leaves_some (marks q) refl (marks_append q) l d t leaf_points c.finest h in leaf_from r.0 r.1 r.2 r.3)
