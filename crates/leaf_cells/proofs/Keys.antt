-- The keys of a leaf, from its number in the list. Assumes nothing.
use mathlib.Core.Path.{◌≡◌, refl, sym, ap, ap₂, ◌∙◌}
use mathlib.Core.List.{List, [], ◌∷◌}
use Prim.Native.Nat.{ℕ, zero, suc, ◌+◌, ◌-◌, ◌*◌, ◌%◌, ◌^◌, ◌≤◌, ◌<◌}
use native.Mathlib.Omega.{arith}
use native.Mathlib.Nat.{mul-le-mul, two-pow-succ}
use lib.ListN.{length, get_or}
use lib.Seq.{sets, get_or-set_other, length-sets}
use lib.Pow.{pow_mono}
use Rattle.space.specs.Space.{Axis, ax, ay, az, Pos, pos}
use Rattle.octants.specs.Oct.{width}
use Rattle.octree_cells.specs.Cells.{corner, box_down, down}
use Rattle.octree_cells.proofs.Points.{drawn_corner}
use Rattle.octree_cells.specs.Leaf.{IsLeaf}
use Rattle.octree_cells.specs.Vertices.{leaf_points}
use Rattle.lists.specs.Runs.{run, Storing}
use Rattle.lists.proofs.Running.{loop_next, loop_done}
use Rattle.vertex_keys.specs.Keys.{most_keys, key_of, stride}
use Rattle.sides.specs.Parts.{Taken}
use Rattle.leaves.specs.Parts.{level_in, place_in}
use Rattle.octree.specs.Parts.{roots_of, tree_of}
use Rattle.octree.specs.declared.Roots.{Roots}
use Rattle.space.specs.Levels.{most_along}
use Rattle.vertex_keys.proofs.Packing.{key_triple}
use Rattle.face_cells.proofs.Link.{low_key, half, key_of_lem, key_centre}
use Rattle.leaf_cells.specs.Parts.{Placed, AllPlaced, ListedIn, low_in, nine_keys, keys_of, keys_in, keys_from, Standing}
use Rattle.leaf_cells.proofs.Leafwise.{listed}

cons : {x y : ℕ} {xs ys : List ℕ} → x ≡ y → xs ≡ ys → x ∷ xs ≡ y ∷ ys
cons p q = ap₂ (λ (a : ℕ) (b : List ℕ). a ∷ b) p q

corner_key : (m : ℕ) (x : Pos) (e f g : ℕ) → key_of (corner m x (pos e f g)) ≡ low_key m x ax + 2 * e * half m ax + 2 * f * half m ay + 2 * g * half m az
corner_key m x e f g = key_of_lem m x ax _ _ (drawn_corner ax m x e f g)

-- the nine keys of a leaf are those of its points, in order
nine_link : (m : ℕ) (x : Pos) → keys_of (leaf_points m x) ≡ nine_keys (low_key m x ax) (half m ax) (half m ay) (half m az)
unfolding keys_of nine_keys box_down down
nine_link m x =
    cons (key_centre m x ax)
    (cons (corner_key m x 1 1 1 ∙ omega arith) (cons (corner_key m x 0 1 1 ∙ omega arith) (cons (corner_key m x 1 0 1 ∙ omega arith) (cons (corner_key m x 0 0 1 ∙ omega arith)
    (cons (corner_key m x 1 1 0 ∙ omega arith) (cons (corner_key m x 0 1 0 ∙ omega arith) (cons (corner_key m x 1 0 0 ∙ omega arith) (cons (corner_key m x 0 0 0 ∙ omega arith) refl))))))))

-- ---- the key of the low corner, read off the leaf's number

spread : (i j k w : ℕ) → (i * stride ax + j * stride ay + k) * w ≡ i * w * stride ax + j * w * stride ay + k * w * stride az
spread i j k w = omega arith

pub low_key_lem : (z : ℕ) → low_in z ≡ low_key (level_in z) (place_in z) ax
unfolding key_of
low_key_lem z = ap (λ (k : ℕ). k * width (level_in z)) (sym (key_triple (z % most_keys))) ∙ spread (place_in z ax) (place_in z ay) (place_in z az) (width (level_in z))

-- every key is small
pub half_few : (z : ℕ) → Placed z → 2 ^ level_in z ≤ 32
half_few z p = pow_mono p.few

pub low_few : (z : ℕ) → Placed z → low_in z ≤ 4096 * 67117057
low_few z p = omega (arith, low_key_lem z, u ax, u ay, u az)
  where
    twice : (i n : ℕ) → i * n ≤ 2048 → i * (2 * n) ≤ 4096
    twice i n q = omega arith

    u : (a : Axis) → place_in z a * width (level_in z) ≤ 4096
    u a = twice (place_in z a) (2 ^ level_in z) (p.within a)

pub keys_are : (z k h : ℕ) → k ≡ low_in z → h ≡ 2 ^ level_in z → keys_in z ≡ nine_keys k (h * stride ax) (h * stride ay) h
keys_are z k h e f =
    let g : 2 ^ level_in z * stride az ≡ 2 ^ level_in z = omega arith in
    nine_link (level_in z) (place_in z)
    ∙ ap₂ (λ (a b : ℕ). nine_keys a (2 ^ level_in z * stride ax) (2 ^ level_in z * stride ay) b) (sym (low_key_lem z)) g
    ∙ rw (e, f) refl

pub keys_nine : (z : ℕ) → length (keys_in z) ≡ 9
unfolding nine_keys
keys_nine z = ap length (nine_link (level_in z) (place_in z))

-- ---- a leaf is within the bounds of a grid

pow_join : (a b : ℕ) → 2 ^ a * 2 ^ b ≡ 2 ^ (a + b)
pow_join a zero = let e : a + 0 ≡ a = omega arith in rw e (omega arith)
pow_join a (suc b) =
    let e : a + suc b ≡ suc (a + b) = omega arith in
    let f : 2 ^ a * 2 ^ suc b ≡ 2 ^ a * (2 ^ b + 2 ^ b) = ap (λ (n : ℕ). 2 ^ a * n) (two-pow-succ b) in
    rw e (omega (arith, f, two-pow-succ (a + b), pow_join a b))

module _ (s : List ℕ) (d : Roots) (h : Taken s d) where
  -- a leaf ends within 2,048 finest octants
  pub along_few : (m : ℕ) (x : Pos) → IsLeaf d.levels (roots_of d) (tree_of d s) m x → (a : Axis) → (x a + 1) * 2 ^ m ≤ most_along
  along_few m x leaf a =
      let l = d.levels in
      let n = roots_of d a in
      let e : l - m + m ≡ l = omega (arith, leaf.fits) in
      let g : n * (2 ^ (l - m) * 2 ^ m) ≡ n * 2 ^ l = ap (λ (k : ℕ). n * k) (pow_join (l - m) m ∙ ap (λ (k : ℕ). 2 ^ k) e) in
      let p : x a + 1 ≤ n * 2 ^ (l - m) = omega (arith, leaf.inside a) in
      let r : 2 ^ m ≤ 2 ^ m = omega arith in
      let b : (x a + 1) * 2 ^ m ≤ n * 2 ^ (l - m) * 2 ^ m = mul-le-mul p r in
      let q : 2 ^ l ≤ 32 = pow_mono h.covers.levels in
      let f : n * 2 ^ l ≤ 64 * 32 = mul-le-mul (h.covers.roots.few a) q in
      let c : n * 2 ^ (l - m) * 2 ^ m ≡ n * (2 ^ (l - m) * 2 ^ m) = omega arith in
      omega arith

  pub placed : (z : ℕ) → ListedIn s d z → Placed z
  placed z leaf = record { few = omega (arith, leaf.fits, h.covers.levels); within = λ a. omega (arith, along_few (level_in z) (place_in z) leaf a) }

  pub all_placed : (w : List ℕ) (list leaves : ℕ) → Standing s d w list leaves → AllPlaced w list leaves
  all_placed w list leaves k j p = placed (get_or w (list + j) 0) (listed s d h w list leaves k j p)

-- ---- the loop over the leaves, in the table that holds their list

get_d_past : (vs l : List ℕ) (at j : ℕ) → at + length vs ≤ j → get_or (sets l at vs) j 0 ≡ get_or l j 0
get_d_past [] l at j h = refl
get_d_past (v ∷ vs) l at j h = get_d_past vs _ (suc at) j (omega arith) ∙ get_or-set_other l at j v 0 (λ e. omega arith)

pub record Keying (w₀ : List ℕ) (list leaves : ℕ) (w : List ℕ) (n : ℕ) : Type 0 where
  pub left : n ≤ leaves
  pub same : length w ≡ length w₀
  pub stored : Storing w₀ 0 (keys_from w₀ list leaves) w (9 * n) (run (leaves - n) (λ j. keys_in (get_or w₀ (list + j) 0)) n)
  pub behind : (j : ℕ) → list ≤ j → get_or w j 0 ≡ get_or w₀ j 0

module _ (w₀ : List ℕ) (list leaves : ℕ) (w : List ℕ) (n : ℕ) (k : Keying w₀ list leaves w n) where
  pub keying_on : (w₁ : List ℕ) → n < leaves → 9 * leaves ≤ list → w₁ ≡ sets w (9 * n) (keys_in (get_or w (list + n) 0)) → Keying w₀ list leaves w₁ (n + 1)
  keying_on w₁ h f e =
      let z : ℕ = get_or w₀ (list + n) 0 in
      let g : w₁ ≡ sets w (9 * n) (keys_in z) = e ∙ ap (λ (y : ℕ). sets w (9 * n) (keys_in y)) (k.behind (list + n) (omega arith)) in
      record {
        left = omega arith;
        same = ap length g ∙ length-sets w (9 * n) (keys_in z) ∙ k.same;
        stored =
            loop_next leaves (λ j. keys_in (get_or w₀ (list + j) 0)) w₀ 0 k.stored h
            (record { count = omega (arith, keys_nine z); kept = g });
        behind = λ j q. ap (λ (r : List ℕ). get_or r j 0) g ∙ get_d_past (keys_in z) w (9 * n) j (omega (arith, keys_nine z)) ∙ k.behind j q;
      }

  pub keying_done : leaves ≤ n → w ≡ sets w₀ 0 (keys_from w₀ list leaves)
  keying_done h = (loop_done leaves (λ j. keys_in (get_or w₀ (list + j) 0)) w₀ 0 k.stored h).kept
