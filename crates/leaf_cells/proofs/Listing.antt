-- From the list of leaves to what the leaves give. Assumes nothing.
use mathlib.Core.Path.{◌≡◌, refl, sym, ap, ◌∙◌, fun_ext}
use mathlib.Core.Bool.{Bool, true, false, cond}
use mathlib.Core.List.{List, [], ◌∷◌, ◌++◌, append-nil, append_assoc}
use Prim.Native.Nat.{ℕ, zero, suc, ◌%◌}
use native.Mathlib.Omega.{arith}
use lib.ListN.{length, get_or}
use Rattle.space.specs.Space.{Pos, Inside}
use Rattle.octants.specs.Oct.{Tree}
use Rattle.space.specs.Levels.{size}
use Rattle.octants.specs.Table.{place}
use Rattle.octants.proofs.TableLaws.{place_in_lem}
use Rattle.octree_cells.specs.Cells.{down, box_down, below, child, two, over_leaves}
use Rattle.octree_cells.proofs.Opened.{root_reached, child_reached, leaf_reached}
use Rattle.octree_cells.specs.Leaf.{IsLeaf, Reached}
use Rattle.vertex_keys.specs.Keys.{most_keys, key_of, triple_of, Packs}
use Rattle.vertex_keys.proofs.Packing.{key_small, triple_key}
use Rattle.lists.specs.Runs.{run}
use Rattle.leaves.specs.Parts.{packed, level_in, place_in, alone, leaf_list}
use Rattle.leaves.proofs.Lines.{box_line, down_cong}

-- ---- a leaf from its number

module _ (m : ℕ) (x : Pos) (h : Packs x) where
  pub level_back : level_in (packed m x) ≡ m
  level_back = omega (arith, key_small x h)

  pub place_back : place_in (packed m x) ≡ x
  place_back = let e : packed m x % most_keys ≡ key_of x = omega (arith, key_small x h) in ap triple_of e ∙ triple_key x h

-- ---- each entry of a list in turn

unfoldable pub each : {A : Type 0} → (ℕ → List A) → List ℕ → List A
each g [] = []
each g (z ∷ zs) = g z ++ each g zs

module _ {A : Type 0} (g : ℕ → List A) where
  each_append : (a b : List ℕ) → each g (a ++ b) ≡ each g a ++ each g b
  unfolding each
  each_append [] b = refl
  each_append (z ∷ a) b = ap (λ (r : List A). g z ++ r) (each_append a b) ∙ sym (append_assoc (g z) (each g a) (each g b))

  each_down : (n : ℕ) (f : ℕ → List ℕ) → each g (down n f) ≡ down n (λ i. each g (f i))
  unfolding down each
  each_down zero f = refl
  each_down (suc n) f = each_append (f n) (down n f) ∙ ap (λ (r : List A). each g (f n) ++ r) (each_down n f)

  each_box : (d : Pos) (f : Pos → List ℕ) → each g (box_down d f) ≡ box_down d (λ x. each g (f x))
  each_box d f = ap (each g) (box_line d f) ∙ each_down (size d) (λ r. f (place d r)) ∙ sym (box_line d (λ x. each g (f x)))

  each_below : (t : Tree) (f : ℕ → Pos → List ℕ) (m : ℕ) (x : Pos) → each g (below t f m x) ≡ below t (λ n y. each g (f n y)) m x
  unfolding below
  each_below t f zero x = refl
  each_below t f (suc m) x = go (λ o. each_below t f m (child x o)) (t (suc m) x)
    where
      go : ((o : Pos) → each g (below t f m (child x o)) ≡ below t (λ n y. each g (f n y)) m (child x o)) → (b : Bool)
          → each g (cond b (box_down two (λ o. below t f m (child x o))) (f (suc m) x))
          ≡ cond b (box_down two (λ o. below t (λ n y. each g (f n y)) m (child x o))) (each g (f (suc m) x))
      go e true = each_box two (λ o. below t f m (child x o)) ∙ ap (box_down two) (fun_ext e)
      go e false = refl

  -- over the list of leaves
  pub each_leaves : (l : ℕ) (d : Pos) (t : Tree) → each g (leaf_list l d t) ≡ over_leaves l d t (λ m x. g (packed m x))
  unfolding each
  each_leaves l d t =
      each_box d (below t alone l) ∙ ap (box_down d) (fun_ext (λ x. each_below t alone l x))
      ∙ ap (λ (f : ℕ → Pos → List A). over_leaves l d t f) (fun_ext (λ m. fun_ext (λ x. append-nil (g (packed m x)))))

  run_shift : (n : ℕ) (f : ℕ → List A) (i : ℕ) → run n f (suc i) ≡ run n (λ j. f (suc j)) i
  unfolding run
  run_shift zero f i = refl
  run_shift (suc n) f i = ap (λ (r : List A). f (suc i) ++ r) (run_shift n f (suc i))

  pub each_run : (zs : List ℕ) → each g zs ≡ run (length zs) (λ j. g (get_or zs j 0)) 0
  unfolding each run
  each_run [] = refl
  each_run (z ∷ zs) = ap (λ (r : List A). g z ++ r) (each_run zs ∙ sym (run_shift (length zs) (λ j. g (get_or (z ∷ zs) j 0)) 0))

-- what keeps the empty list and the joining of two
module _ {A : Type 0} (h : List A → List ℕ) (none : h [] ≡ []) (both : (a b : List A) → h (a ++ b) ≡ h a ++ h b) (g : ℕ → List A) where
  pub map_each : (zs : List ℕ) → h (each g zs) ≡ each (λ z. h (g z)) zs
  unfolding each
  map_each [] = none
  map_each (z ∷ zs) = both (g z) (each g zs) ∙ ap (λ (r : List ℕ). h (g z) ++ r) (map_each zs)

-- ---- what the leaves give is the same where it is the same at each leaf

module _ {A : Type 0} (l : ℕ) (d : Pos) (t : Tree) (finest : (x : Pos) → t 0 x ≡ false) (f g : ℕ → Pos → List A)
    (same : (m : ℕ) (x : Pos) → IsLeaf l d t m x → f m x ≡ g m x) where
  box_same : (n : Pos) (p q : Pos → List A) → ((x : Pos) → Inside n x → p x ≡ q x) → box_down n p ≡ box_down n q
  box_same n p q h = box_line n p ∙ down_cong (size n) _ _ (λ r k. h (place n r) (place_in_lem n r k)) ∙ sym (box_line n q)

  below_same : (m : ℕ) (x : Pos) → Reached l d t m x → below t f m x ≡ below t g m x
  unfolding below
  below_same zero x r = same 0 x (leaf_reached l d t r (finest x))
  below_same (suc m) x r = go (t (suc m) x) refl (λ c e k. below_same m (child x c) (child_reached l d t r k c e))
    where
      go : (b : Bool) → t (suc m) x ≡ b → ((c : Pos) → Inside two c → t (suc m) x ≡ true → below t f m (child x c) ≡ below t g m (child x c))
          → cond (t (suc m) x) (box_down two (λ c. below t f m (child x c))) (f (suc m) x) ≡ cond (t (suc m) x) (box_down two (λ c. below t g m (child x c))) (g (suc m) x)
      go true e h = rw e (box_same two _ _ (λ c k. h c k e))
      go false e h = rw e (same (suc m) x (leaf_reached l d t r e))

  pub leaves_same : over_leaves l d t f ≡ over_leaves l d t g
  leaves_same = box_same d (below t f l) (below t g l) (λ x h. below_same l x (root_reached l d t x h))
