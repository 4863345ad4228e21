-- Every vertex of a grid has coordinates of at most 4,096, which fit its key. Assumes nothing.
use mathlib.Core.Path.{◌≡◌, refl, ap, ◌∙◌}
use mathlib.Core.Bool.{Bool, true, false, ◌||◌}
use mathlib.Core.List.{List, [], ◌∷◌, ◌++◌}
use mathlib.Core.Logic.{◌⊎◌, inl, inr, ⊎_elim}
use Prim.Native.Nat.{ℕ, zero, suc, ◌+◌, ◌*◌, ◌^◌, ◌≤◌, ◌<◌}
use native.Mathlib.Omega.{arith}
use native.Mathlib.Nat.{not-suc-le-zero, le_of_suc-le-suc}
use lib.Dec.{leb}
use lib.ListN.{length, get_or}
use borrow.Author.Tests.{leb-true, le-leb}
use Rattle.space.specs.Space.{Axis, ax, ay, az, Pos, Inside}
use Rattle.octants.specs.Oct.{Tree, width}
use Rattle.lists.proofs.Bools.{or_cases, neither, bool_cases, clash}
use Rattle.octree_cells.specs.Cells.{corner, centre, two, box_down, over_leaves, cells}
use Rattle.octree_cells.specs.Leaf.{IsLeaf}
use Rattle.octree_cells.proofs.LeafSome.{leaves_some, box_some}
use Rattle.octree_cells.specs.Vertices.{leaf_points, names, marks}
use Rattle.octree_cells.proofs.Vertices.{vertices}
use Rattle.lists.proofs.Cases.{lt_or}
use Rattle.vertex_keys.specs.Keys.{most_keys, Packs}
use Rattle.vertex_keys.proofs.Packing.{key_small}
use Rattle.sides.specs.Parts.{Taken}
use Rattle.octree.specs.Parts.{roots_of, tree_of}
use Rattle.octree.specs.declared.Roots.{Roots}
use Rattle.leaf_cells.specs.Parts.{keys_of, leaf_keys}
use Rattle.leaf_cells.proofs.Keys.{along_few}

-- a coordinate is beyond 4,096, the end of the largest grid
abbrev pub far : Pos → Bool
far p = leb 4097 (p ax) || leb 4097 (p ay) || leb 4097 (p az)

pub near_low : (p : Pos) → far p ≡ false → (a : Axis) → p a ≤ 4096
near_low p e a = go a
  where
    small : (n : ℕ) → leb 4097 n ≡ false → n ≤ 4096
    small n q = ⊎_elim (λ h. omega arith) (λ h. clash (le-leb 4097 n h) q) (lt_or n 4097)

    on : Axis → Bool
    on a = leb 4097 (p a)

    go : (a : Axis) → p a ≤ 4096
    go ax = small (p ax) (neither (on ax) (on ay) (neither (on ax || on ay) (on az) e).0).0
    go ay = small (p ay) (neither (on ax) (on ay) (neither (on ax || on ay) (on az) e).0).1
    go az = small (p az) (neither (on ax || on ay) (on az) e).1

-- and so it fits the field of a key
pub near_packs : (p : Pos) → far p ≡ false → Packs p
near_packs p e a = omega (arith, near_low p e a)

far_append : (a b : List Pos) → marks far (a ++ b) ≡ marks far a || marks far b
unfolding marks
far_append [] b = refl
far_append (p ∷ a) b = ap (λ (r : Bool). far p || r) (far_append a b) ∙ go (far p) (marks far a) (marks far b)
  where
    go : (u v w : Bool) → u || (v || w) ≡ u || v || w
    go true v w = refl
    go false v w = refl

module _ (s : List ℕ) (r : Roots) (h : Taken s r) where
  abbrev l : ℕ
  l = r.levels

  abbrev d : Pos
  d = roots_of r

  abbrev t : Tree
  t = tree_of r s

  -- along an axis: a leaf ends within 4,096 units
  end_few : (m : ℕ) (x : Pos) → IsLeaf l d t m x → (a : Axis) → (x a + 1) * width m ≤ 4096
  end_few m x leaf a = twice (x a + 1) (2 ^ m) (along_few s r h m x leaf a)
    where
      twice : (i n : ℕ) → i * n ≤ 2048 → i * (2 * n) ≤ 4096
      twice i n q = omega arith

  not_far : (p : Pos) → ((a : Axis) → p a ≤ 4096) → far p ≡ true → ⊥
  not_far p q e = go (or_cases (leb 4097 (p ax) || leb 4097 (p ay)) (leb 4097 (p az)) e)
    where
      at : (a : Axis) → leb 4097 (p a) ≡ true → ⊥
      at a k = omega (arith, leb-true 4097 (p a) k, q a)

      go : (leb 4097 (p ax) || leb 4097 (p ay) ≡ true) ⊎ (leb 4097 (p az) ≡ true) → ⊥
      go (inl k) = ⊎_elim (at ax) (at ay) (or_cases (leb 4097 (p ax)) (leb 4097 (p ay)) k)
      go (inr k) = at az k

  corner_few : (m : ℕ) (x o : Pos) → IsLeaf l d t m x → Inside two o → (a : Axis) → corner m x o a ≤ 4096
  corner_few m x o leaf i a = go (o a) (small i a)
    where
      small : Inside two o → (a : Axis) → o a < 2
      small i ax = i ax
      small i ay = i ay
      small i az = i az

      go : (e : ℕ) → e < 2 → (x a + e) * width m ≤ 4096
      go zero p = omega (arith, end_few m x leaf a)
      go (suc zero) p = end_few m x leaf a
      go (suc (suc e)) p = absurd (omega arith)

  centre_few : (m : ℕ) (x : Pos) → IsLeaf l d t m x → (a : Axis) → centre m x a ≤ 4096
  centre_few m x leaf a = omega (arith, end_few m x leaf a)

  leaf_near : (m : ℕ) (x : Pos) → IsLeaf l d t m x → marks far (leaf_points m x) ≡ true → ⊥
  unfolding marks
  leaf_near m x leaf e = ⊎_elim
      (λ k. not_far (centre m x) (centre_few m x leaf) k)
      (λ k. let c = box_some (marks far) refl far_append two (λ o. corner m x o ∷ []) k in
      not_far (corner m x c.0) (corner_few m x c.0 leaf c.1) (⊎_elim (λ q. q) (λ q. clash q refl) (or_cases (far (corner m x c.0)) false c.2)))
      (or_cases (far (centre m x)) (marks far (box_down two (λ o. corner m x o ∷ []))) e)

  points_near : marks far (over_leaves l d t leaf_points) ≡ false
  unfolding marks
  points_near = ⊎_elim
      (λ e. let y = leaves_some (marks far) refl far_append l d t leaf_points h.graded.finest e in absurd (leaf_near y.0 y.1 y.2 y.3))
      (λ e. e)
      (bool_cases (marks far (over_leaves l d t leaf_points)))

  -- no vertex of a cell has such a coordinate
  pub cells_near : names far (cells l d t) ≡ false
  cells_near = vertices l d t h.graded far ∙ points_near

  keys_under : (ps : List Pos) → marks far ps ≡ false → (j : ℕ) → j < length (keys_of ps) → get_or (keys_of ps) j 0 < most_keys
  unfolding marks keys_of
  keys_under [] e j p = absurd (not-suc-le-zero p)
  keys_under (q ∷ ps) e zero p = key_small q (near_packs q (neither (far q) (marks far ps) e).0)
  keys_under (q ∷ ps) e (suc j) p = keys_under ps (neither (far q) (marks far ps) e).1 j (le_of_suc-le-suc p)

  -- every key of a leaf's vertices is below their bound
  pub keys_small : (j : ℕ) → j < length (leaf_keys l d t) → get_or (leaf_keys l d t) j 0 < most_keys
  keys_small = keys_under (over_leaves l d t leaf_points) points_near
