-- A listed leaf is a leaf; its keys and its cells are those of the definition. Assumes nothing.
use mathlib.Core.Path.{◌≡◌, refl, sym, ap, ap₂, ◌∙◌, subst}
use mathlib.Core.Bool.{Bool, true, false, ◌||◌}
use mathlib.Core.List.{List, [], ◌∷◌, ◌++◌}
use mathlib.Core.Logic.{⊎_elim}
use Prim.Native.Nat.{ℕ, zero, suc, ◌+◌, ◌<◌, min}
use native.Mathlib.Omega.{arith}
use native.Mathlib.Nat.{not-suc-le-zero, le_of_suc-le-suc}
use lib.Dec.{eqb}
use lib.ListN.{length, get_or, drop}
use lib.Seq.{get_or-take, get_or-drop}
use borrow.Author.Tests.{eqb-true, eq-eqb}
use Rattle.space.specs.Space.{Pos}
use Rattle.octants.specs.Oct.{Tree}
use Rattle.lists.proofs.Bools.{or_cases, clash}
use Rattle.octree_cells.specs.Cells.{Cell, leaf_cells, cells, over_leaves, flat}
use Rattle.octree_cells.specs.Leaf.{IsLeaf}
use Rattle.octree_cells.proofs.LeafSome.{leaves_some}
use Rattle.octree_cells.specs.Vertices.{leaf_points, names, marks}
use Rattle.octree_cells.proofs.Vertices.{vertices}
use Rattle.lists.specs.Runs.{run}
use Rattle.lists.specs.Tests.{bit}
use Rattle.sorting.specs.Entries.{many}
use Rattle.sorting.specs.Numbers.{cnt, SameSet}
use Rattle.lists.proofs.Running.{run_same}
use Rattle.vertex_keys.specs.Keys.{key_of, Packs}
use Rattle.octree.specs.Parts.{roots_of, tree_of}
use Rattle.octree.specs.declared.Roots.{Roots}
use Rattle.sides.specs.Parts.{Taken, cells_in}
use Rattle.sides.proofs.Levels.{in_small}
use Rattle.leaves.specs.Parts.{packed, level_in, place_in, alone, leaf_list}
use Rattle.octree_cells.proofs.Flat.{flat_append}
use Rattle.leaf_cells.specs.Parts.{keys_of, keys_from, leaf_keys, Standing}
use Rattle.leaf_cells.proofs.Listing.{level_back, place_back, each, each_leaves, each_run, map_each, leaves_same}

-- ---- an entry of the list is a leaf

unfoldable has : ℕ → List ℕ → Bool
has z [] = false
has z (y ∷ ys) = eqb z y || has z ys

has_append : (z : ℕ) (a b : List ℕ) → has z (a ++ b) ≡ has z a || has z b
unfolding has
has_append z [] b = refl
has_append z (y ∷ a) b = ap (λ (r : Bool). eqb z y || r) (has_append z a b) ∙ go (eqb z y) (has z a) (has z b)
  where
    go : (p q r : Bool) → p || (q || r) ≡ p || q || r
    go true q r = refl
    go false q r = refl

has_at : (l : List ℕ) (j : ℕ) → j < length l → has (get_or l j 0) l ≡ true
unfolding has
has_at [] j h = absurd (not-suc-le-zero h)
has_at (y ∷ ys) zero h = ap (λ (b : Bool). b || has y ys) (eq-eqb y y refl)
has_at (y ∷ ys) (suc j) h = ap (λ (b : Bool). eqb (get_or ys j 0) y || b) (has_at ys j (le_of_suc-le-suc h)) ∙ go (eqb (get_or ys j 0) y)
  where
    go : (b : Bool) → b || true ≡ true
    go true = refl
    go false = refl

module _ (s : List ℕ) (r : Roots) (h : Taken s r) where
  abbrev l : ℕ
  l = r.levels

  abbrev d : Pos
  d = roots_of r

  abbrev t : Tree
  t = tree_of r s

  unpacked : (m : ℕ) (x : Pos) → IsLeaf l d t m x → (level_in (packed m x) ≡ m) × (place_in (packed m x) ≡ x)
  unpacked m x leaf = let b : Packs x = λ a. omega (arith, in_small d l m x h.covers.roots h.covers.levels leaf.inside a) in (level_back m x b, place_back m x b)

  pub leaf_at_lem : (j : ℕ) → j < length (leaf_list l d t) → IsLeaf l d t (level_in (get_or (leaf_list l d t) j 0)) (place_in (get_or (leaf_list l d t) j 0))
  unfolding has
  leaf_at_lem j p =
      let z : ℕ = get_or (leaf_list l d t) j 0 in
      let y = leaves_some (has z) refl (has_append z) l d t alone h.graded.finest (has_at (leaf_list l d t) j p) in
      let q : eqb z (packed y.0 y.1) ≡ true = ⊎_elim (λ k. k) (λ k. clash k refl) (or_cases (eqb z (packed y.0 y.1)) false y.3) in
      let e : z ≡ packed y.0 y.1 = eqb-true z (packed y.0 y.1) q in
      let u = unpacked y.0 y.1 y.2 in
      subst (λ (n : ℕ). IsLeaf l d t n (place_in z)) (sym (ap level_in e ∙ u.0))
      (subst (λ (x : Pos). IsLeaf l d t y.0 x) (sym (ap place_in e ∙ u.1)) y.2)

  -- what the leaves give, entry by entry
  module _ {A : Type 0} (f : ℕ → Pos → List A) where
    leafwise : over_leaves l d t f ≡ each (λ z. f (level_in z) (place_in z)) (leaf_list l d t)
    leafwise =
        leaves_same l d t h.graded.finest f (λ m x. f (level_in (packed m x)) (place_in (packed m x)))
        (λ m x leaf. let u = unpacked m x leaf in sym (ap₂ f u.0 u.1))
        ∙ sym (each_leaves (λ z. f (level_in z) (place_in z)) l d t)

    module _ (g : List A → List ℕ) (none : g [] ≡ []) (both : (a b : List A) → g (a ++ b) ≡ g a ++ g b) where
      by_list : g (over_leaves l d t f) ≡ run (length (leaf_list l d t)) (λ j. g (f (level_in (get_or (leaf_list l d t) j 0)) (place_in (get_or (leaf_list l d t) j 0)))) 0
      by_list =
          ap g leafwise ∙ map_each g none both (λ z. f (level_in z) (place_in z)) (leaf_list l d t)
          ∙ each_run (λ z. g (f (level_in z) (place_in z))) (leaf_list l d t)

      -- the list as it stands in the work
      module _ (w : List ℕ) (list leaves : ℕ) (k : Standing s r w list leaves) where
        entry_at : (j : ℕ) → j < leaves → get_or w (list + j) 0 ≡ get_or (leaf_list l d t) j 0
        entry_at j p = sym (get_or-drop list w j 0) ∙ sym (get_or-take leaves (drop list w) j 0 p) ∙ ap (λ (r : List ℕ). get_or r j 0) k.here

        pub by_work : g (over_leaves l d t f) ≡ run leaves (λ j. g (f (level_in (get_or w (list + j) 0)) (place_in (get_or w (list + j) 0)))) 0
        by_work =
            by_list ∙ ap (λ (n : ℕ). run n (λ j. g (f (level_in (get_or (leaf_list l d t) j 0)) (place_in (get_or (leaf_list l d t) j 0)))) 0) (sym k.many)
            ∙ run_same leaves _ _ 0 (λ j a b. ap (λ (z : ℕ). g (f (level_in z) (place_in z))) (sym (entry_at j (omega arith))))

  module _ (w : List ℕ) (list leaves : ℕ) (k : Standing s r w list leaves) where
    same_at : (j : ℕ) → j < leaves → get_or w (list + j) 0 ≡ get_or (leaf_list l d t) j 0
    same_at = entry_at alone (λ (z : List ℕ). z) refl (λ a b. refl) w list leaves k

    pub listed : (j : ℕ) → j < leaves → IsLeaf l d t (level_in (get_or w (list + j) 0)) (place_in (get_or w (list + j) 0))
    listed j p = subst (λ (z : ℕ). IsLeaf l d t (level_in z) (place_in z)) (sym (same_at j p)) (leaf_at_lem j (omega (arith, k.many)))

    pub cells_by : (f : Pos → ℕ) → flat f (cells l d t) ≡ run leaves (λ j. flat f (leaf_cells l d t (level_in (get_or w (list + j) 0)) (place_in (get_or w (list + j) 0)))) 0
    unfolding flat
    cells_by f = by_work (leaf_cells l d t) (flat f) refl (flat_append f) w list leaves k

    keys_append : (a b : List Pos) → keys_of (a ++ b) ≡ keys_of a ++ keys_of b
    unfolding keys_of
    keys_append [] b = refl
    keys_append (p ∷ a) b = ap (λ (r : List ℕ). key_of p ∷ r) (keys_append a b)

    -- the keys that are stored are those of the leaves
    pub keys_by : leaf_keys l d t ≡ keys_from w list leaves
    unfolding keys_of
    keys_by = by_work leaf_points keys_of refl keys_append w list leaves k

-- ---- the vertices of the cells are those of the leaves

cnt_names : (x : ℕ) (cs : List Cell) → min 1 (cnt x (flat key_of cs)) ≡ bit (names (λ p. eqb x (key_of p)) cs)
unfolding many flat names
cnt_names x [] = omega arith
cnt_names x (c ∷ cs) =
    go (eqb x (key_of c.c0)) (eqb x (key_of c.c1)) (eqb x (key_of c.c2)) (eqb x (key_of c.c3)) (cnt x (flat key_of cs))
    (names (λ p. eqb x (key_of p)) cs) (cnt_names x cs)
  where
    go : (p q r u : Bool) (n : ℕ) (b : Bool) → min 1 n ≡ bit b → min 1 (bit p + (bit q + (bit r + (bit u + n)))) ≡ bit ((p || q || r || u) || b)
    go true q r u n b e = omega arith
    go false true r u n b e = omega arith
    go false false true u n b e = omega arith
    go false false false true n b e = omega arith
    go false false false false n b e = omega arith

cnt_marks : (x : ℕ) (ps : List Pos) → min 1 (cnt x (keys_of ps)) ≡ bit (marks (λ p. eqb x (key_of p)) ps)
unfolding many keys_of marks
cnt_marks x [] = omega arith
cnt_marks x (p ∷ ps) = go (eqb x (key_of p)) (cnt x (keys_of ps)) (marks (λ p. eqb x (key_of p)) ps) (cnt_marks x ps)
  where
    go : (p : Bool) (n : ℕ) (b : Bool) → min 1 n ≡ bit b → min 1 (bit p + n) ≡ bit (p || b)
    go true n b e = omega arith
    go false n b e = omega arith

pub same_vertices : (s : List ℕ) (d : Roots) → Taken s d → SameSet (flat key_of (cells_in s d)) (leaf_keys d.levels (roots_of d) (tree_of d s))
same_vertices s d h x =
    cnt_marks x _ ∙ ap bit (sym (vertices d.levels (roots_of d) (tree_of d s) h.graded (λ p. eqb x (key_of p)))) ∙ sym (cnt_names x _)
