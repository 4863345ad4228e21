-- The cells of a listed leaf, and the loop over the list. Assumes nothing.
use mathlib.Core.Path.{◌≡◌, refl, sym, ap, ap₂, ◌∙◌, subst}
use mathlib.Core.List.{List}
use Prim.Native.Nat.{ℕ, ◌+◌, ◌-◌, ◌*◌, ◌^◌, ◌≤◌, ◌<◌}
use native.Mathlib.Omega.{arith}
use lib.ListN.{length, get_or, take, drop}
use lib.Seq.{get_or-take}
use Rattle.std.proofs.lemmas.List.{get_or-drop}
use Rattle.space.specs.Space.{Pos}
use Rattle.octree_cells.specs.Cells.{flat}
use Rattle.octree_cells.specs.Leaf.{IsLeaf}
use Rattle.lists.specs.Runs.{run, Stored, Storing, Room}
use Rattle.lists.proofs.Running.{loop_next, loop_room, loop_done, storing_length}
use Rattle.lists.proofs.Parts.{sets_whole}
use Rattle.sides.specs.declared.Sides.{Sides}
use Rattle.sides.specs.Parts.{Taken, LeafIn, sides_at, sides_of, cells_in}
use Rattle.leaves.specs.Parts.{level_in, place_in}
use Rattle.octree.specs.Parts.{roots_of, place_of, tree_of}
use Rattle.octree.specs.declared.Roots.{Roots}
use Rattle.octree.specs.declared.Octant.{Octant}
use Rattle.octree_cells.proofs.Flat.{flat_length}
use Rattle.face_cells.specs.Parts.{rank_in, leaf_numbers, AllTurn}
use Rattle.face_cells.proofs.Link.{leaf_link, all_turn}
use Rattle.leaf_cells.specs.Parts.{ListedIn, cells_of, low_in, number_in, Standing}
use Rattle.leaf_cells.proofs.Leafwise.{cells_by}
use Rattle.leaf_cells.proofs.Keys.{low_key_lem}

-- ---- one leaf

module _ (s : List ℕ) (d : Roots) (h : Taken s d) (z : ℕ) (leaf : ListedIn s d z) where
  -- the octant that its number is read as
  module _ {o : Octant} (level : o.level ≡ level_in z) (place : place_of o ≡ place_in z) where
    pub listed_leaf : LeafIn s d o
    listed_leaf =
        subst (λ (m : ℕ). IsLeaf d.levels (roots_of d) (tree_of d s) m (place_of o)) (sym level)
        (subst (λ (x : Pos). IsLeaf d.levels (roots_of d) (tree_of d s) (level_in z) x) (sym place) leaf)

    module _ {f : Sides} (g : f ≡ sides_of s d o) where
      told : f ≡ sides_at d.levels (roots_of d) (tree_of d s) (level_in z) (place_in z)
      told = g ∙ ap₂ (sides_at d.levels (roots_of d) (tree_of d s)) level place

      pub sides_turn : AllTurn f
      sides_turn = subst AllTurn (sym told) (all_turn (roots_of d) d.levels s h.graded (level_in z) (place_in z) leaf)

      pub leaf_numbers_lem : (w : List ℕ) (v : ℕ) {k n : ℕ} → k ≡ low_in z → n ≡ 2 ^ level_in z
          → flat (number_in w v) (cells_of s d z) ≡ leaf_numbers (rank_in w v) f k n
      leaf_numbers_lem w v e q =
          leaf_link (roots_of d) d.levels s h.graded (level_in z) (place_in z) leaf (rank_in w v)
          ∙ ap (λ (k : ℕ). leaf_numbers (rank_in w v) (sides_at d.levels (roots_of d) (tree_of d s) (level_in z) (place_in z)) k (2 ^ level_in z)) (sym (low_key_lem z))
          ∙ rw (told, e, q) refl

-- ---- the loop

-- an entry of the list, which is lent as a part of the work
pub entry_at : (w : List ℕ) (list leaves n : ℕ) → n < leaves → get_or (take (list + leaves - list) (drop list w)) n 0 ≡ get_or w (list + n) 0
entry_at w list leaves n h = get_or-take (list + leaves - list) (drop list w) n 0 (omega arith) ∙ get_or-drop list w n 0

module _ (s : List ℕ) (d : Roots) (w : List ℕ) (v list leaves : ℕ) where
  abbrev turn : ℕ → List ℕ
  turn j = flat (number_in w v) (cells_of s d (get_or w (list + j) 0))

  pub record Emitting (o₀ o : List ℕ) (n at : ℕ) : Type 0 where
    pub left : n ≤ leaves
    pub same : length o ≡ length o₀
    pub stored : Storing o₀ 0 (run leaves turn 0) o at (run (leaves - n) turn n)

  module _ (o₀ o : List ℕ) (n at : ℕ) (e : Emitting o₀ o n at) where
    pub emitting_on : (o₁ : List ℕ) (r : ℕ) → n < leaves → Stored o at (turn n) r o₁ → Emitting o₀ o₁ (n + 1) r
    emitting_on o₁ r h p =
        let q : Storing o₀ 0 (run leaves turn 0) o₁ r (run (leaves - (n + 1)) turn (n + 1)) = loop_next leaves turn o₀ 0 e.stored h p in
        record { left = omega arith; same = storing_length q; stored = q }

    module _ (h : Taken s d) (k : Standing s d w list leaves) (g : length o₀ ≡ 4 * length (cells_in s d)) where
      whole : flat (number_in w v) (cells_in s d) ≡ run leaves turn 0
      whole = cells_by s d h w list leaves k (number_in w v)

      lengths : length (run leaves turn 0) ≡ length o₀
      lengths = sym (ap length whole) ∙ flat_length (number_in w v) (cells_in s d) ∙ sym g

      pub emitting_room : n < leaves → Room o at (turn n)
      emitting_room q = loop_room leaves turn o₀ 0 e.stored q (record { fits = omega (arith, lengths) })

      pub emitting_done : leaves ≤ n → o ≡ flat (number_in w v) (cells_in s d)
      emitting_done q = (loop_done leaves turn o₀ 0 e.stored q).kept ∙ sets_whole (run leaves turn 0) o₀ lengths ∙ sym whole
