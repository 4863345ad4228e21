-- The numbering of an octree's vertices in the work, and the tables that come of it. Assumes nothing.
use mathlib.Core.Path.{◌≡◌, refl, sym, ap, ap₂, ◌∙◌}
use mathlib.Core.List.{List, [], ◌∷◌, ◌++◌, map}
use Prim.Native.Nat.{ℕ, zero, suc, ◌+◌, ◌*◌, ◌-◌, ◌^◌, ◌≤◌, ◌<◌}
use native.Mathlib.Nat.{pow-suc}
use native.Mathlib.Omega.{arith}
use lib.ListN.{length, get_or, take, drop, length-append, length-drop, length-map, take-append-drop}
use lib.Seq.{sets, sets-eq, length-take-le, take_at, drop_at, drop-drop, take-append-le, length-sets}
use borrow.Rule.Slice.PartMut.{put_mid, post_of, same_len_mid, mid_len}
use Rattle.sorting.specs.Numbers.{SortedTo, distinct_sorted, rank, StrictTo}
use Rattle.space.specs.Space.{Axis, ax, ay, Pos}
use Rattle.space.specs.Levels.{off, size, depth}
use Rattle.octants.specs.Table.{read}
use Rattle.octree_cells.specs.Cells.{Cell, cells, flat}
use Rattle.plan.specs.declared.Plan.{Plan}
use Rattle.vertex_keys.specs.Keys.{stride, most_keys, key_of, triple_of}
use Rattle.vertex_keys.specs.Parts.{numbered, Indexes}
use Rattle.sorting.proofs.Members.{same_distinct, members, distinct_short}
use Rattle.vertex_keys.proofs.Front.{numbered_front, numbered_rises}
use Rattle.vertex_keys.proofs.Indexing.{same_rises, rising_sorted, find_ready}
use Rattle.plan.specs.Vertices.{spread}
use Rattle.plan.specs.Vertices.{dims_of, triple_at, point_at}
use Rattle.grid.specs.Grid.{grid_cells, grid_vertices, vertex_keys, vertex_number, cell_table, triple_table, point_table}
use Rattle.grid.specs.Step.{cell_count, vertex_count}
use Rattle.grid.specs.Parts.{key_table}
use Rattle.grid.proofs.Vertices.{spread_keys}
use mathlib.Core.Path.{subst₂}
use mathlib.Core.Bool.{true}
use borrow.Author.Tests.{lt-ltb}
use lib.Dec.{ltb}
use lib.ListN.{replicate, length-replicate}
use lib.Seq.{get_or-take}
use Rattle.lists.specs.Tables.{all_below}
use Rattle.lists.specs.Runs.{run}
use Rattle.lists.proofs.Bools.{and_left, and_right}
use Rattle.lists.proofs.Lent.{below_at}
use Rattle.sorting.proofs.Counting.{cnt_at, cnt_find}
use Rattle.lists.proofs.Running.{length_run, sum_same, sum_flat}
use Rattle.leaves.specs.Parts.{level_in, leaves_in, alone}
use Rattle.octree.specs.Parts.{roots_of, tree_of}
use Rattle.octree.specs.declared.Roots.{Roots}
use Rattle.leaves.proofs.Lines.{leaves_bound}
use Rattle.leaf_cells.specs.Parts.{low_in, Placed, nine_keys, keys_in, keys_from, Standing}
use Rattle.leaf_cells.proofs.Leafwise.{keys_by, same_vertices}
use Rattle.leaf_cells.proofs.Keys.{half_few, low_few, keys_are, keys_nine, all_placed}
use Rattle.grid.specs.Parts.{Numberable, Ready}

-- ---- few leaves

eight : (k : ℕ) → 8 ^ k ≡ 2 ^ k * 2 ^ k * 2 ^ k
eight zero = refl
eight (suc k) = rw (pow-suc, pow-suc) (omega (arith, eight k))

-- the octants below the finest level bound the finest places
pub places_few : (d : Pos) (l : ℕ) → 1 ≤ l → size d * 8 ^ l ≤ 8 * off d l
unfolding off
places_few d zero h = absurd (omega arith)
places_few d (suc k) h =
    let e : size d * (2 ^ k * 2 ^ k * 2 ^ k * 8) ≡ 8 * size (depth d k) = omega arith in
    let o : off d (suc k) ≡ off d k + size (depth d k) = refl in
    rw (pow-suc 8 k, eight k) (omega (arith, e, o))

-- ---- the list of leaves behind the keys

-- a front that is written anew leaves what stands behind it
behind : (a z : List ℕ) (i : ℕ) → length a ≡ i → drop (i + 1) (a ++ drop i z) ≡ drop (i + 1) z
behind a z i e =
    sym (drop-drop 1 i (a ++ drop i z)) ∙ ap (drop 1) (drop_at a (drop i z) i e) ∙ drop-drop 1 i z

front_of : (v m : ℕ) (z : List ℕ) → v ≤ m → m ≤ length z → take v (take m z) ≡ take v z
front_of v m z h f =
    sym (take-append-le v (take m z) (drop m z) (omega (arith, length-take-le m z f))) ∙ ap (take v) (take-append-drop m z)

module _ (w L K : List ℕ) (n : ℕ) (h : 10 * n < length w) (el : length L ≡ n) (ek : length K ≡ 9 * n) where
  abbrev listed : List ℕ
  listed = put_mid (9 * n + 1) (9 * n + 1 + n - (9 * n + 1)) w L

  pub listed_length : length (put_mid (9 * n + 1) (9 * n + 1 + n - (9 * n + 1)) w L) ≡ length w
  listed_length =
      same_len_mid (9 * n + 1) (9 * n + 1 + n - (9 * n + 1)) w L (el ∙ sym (mid_len (9 * n + 1) (9 * n + 1 + n) w (omega arith) ∙ omega arith))

  pub list_behind : take n (drop (9 * n + 1) (put_mid (9 * n + 1) (9 * n + 1 + n - (9 * n + 1)) w L)) ≡ L
  list_behind =
      ap (take n) (drop_at (take (9 * n + 1) w) (L ++ post_of (9 * n + 1) (9 * n + 1 + n - (9 * n + 1)) w) (9 * n + 1) (length-take-le (9 * n + 1) w (omega arith)))
      ∙ take_at L (post_of (9 * n + 1) (9 * n + 1 + n - (9 * n + 1)) w) n el

  keyed : sets (put_mid (9 * n + 1) (9 * n + 1 + n - (9 * n + 1)) w L) 0 K ≡ K ++ drop (9 * n) (put_mid (9 * n + 1) (9 * n + 1 + n - (9 * n + 1)) w L)
  keyed =
      let e : 0 + length K ≡ 9 * n = omega arith in
      sets-eq K listed 0 (omega (arith, listed_length)) ∙ ap (λ (i : ℕ). K ++ drop i listed) e

  pub keys_front : take (9 * n) (sets (put_mid (9 * n + 1) (9 * n + 1 + n - (9 * n + 1)) w L) 0 K) ≡ K
  keys_front = ap (take (9 * n)) keyed ∙ take_at K (drop (9 * n) listed) (9 * n) ek

  -- numbered in front, then indexed, the list behind
  pub list_still : (M Q w₂ : List ℕ) → w₂ ≡ sets (put_mid (9 * n + 1) (9 * n + 1 + n - (9 * n + 1)) w L) 0 K → length M ≡ 9 * n → length Q ≡ 9 * n + 1
      → take n (drop (9 * n + 1) (Q ++ drop (9 * n + 1) (M ++ drop (9 * n) w₂))) ≡ L
  list_still M Q w₂ e em eq =
      ap (take n)
      (drop_at Q (drop (9 * n + 1) (M ++ drop (9 * n) w₂)) (9 * n + 1) eq
      ∙ behind M w₂ (9 * n) em
      ∙ ap (drop (9 * n + 1)) (e ∙ keyed)
      ∙ behind K listed (9 * n) ek)
      ∙ list_behind

-- ---- the tables

module _ (p : Plan) (s : List ℕ) (h : 1 ≤ p.levels) where
  pub octree_cells : grid_cells p.levels (dims_of p) s ≡ cells p.levels (dims_of p) (read (dims_of p) p.levels s)
  octree_cells = go p.levels h
    where
      go : (l : ℕ) → 1 ≤ l → grid_cells l (dims_of p) s ≡ cells l (dims_of p) (read (dims_of p) l s)
      go zero g = absurd (omega arith)
      go (suc l) g = unfold grid_cells in refl

  pub octree_vertices : grid_vertices p.levels (dims_of p) s ≡ map triple_of (vertex_keys p.levels (dims_of p) s)
  octree_vertices = go p.levels h
    where
      go : (l : ℕ) → 1 ≤ l → grid_vertices l (dims_of p) s ≡ map triple_of (vertex_keys l (dims_of p) s)
      go zero g = absurd (omega arith)
      go (suc l) g = unfold grid_vertices in refl

  pub octree_number : vertex_number p.levels (dims_of p) s ≡ (λ q. rank (key_of q) (vertex_keys p.levels (dims_of p) s))
  octree_number = go p.levels h
    where
      go : (l : ℕ) → 1 ≤ l → vertex_number l (dims_of p) s ≡ (λ q. rank (key_of q) (vertex_keys l (dims_of p) s))
      go zero g = absurd (omega arith)
      go (suc l) g = unfold vertex_number in refl

  pub octree_cell_count : cell_count p s ≡ length (cells p.levels (dims_of p) (read (dims_of p) p.levels s))
  octree_cell_count = ap length octree_cells

  module _ (w : List ℕ) (v : ℕ) (hv : v ≤ length w) (ek : take v w ≡ vertex_keys p.levels (dims_of p) s) where
    pub octree_vertex_count : v ≡ vertex_count p s
    octree_vertex_count = sym (length-take-le v w hv) ∙ ap length ek ∙ sym (length-map (vertex_keys p.levels (dims_of p) s) triple_of) ∙ ap length (sym octree_vertices)

    pub octree_table : flat (λ q. rank (key_of q) (take v w)) (cells p.levels (dims_of p) (read (dims_of p) p.levels s)) ≡ cell_table p s
    unfolding cell_table
    octree_table =
        ap (λ (l : List ℕ). flat (λ q. rank (key_of q) l) (cells p.levels (dims_of p) (read (dims_of p) p.levels s))) ek
        ∙ ap₂ (λ (f : Pos → ℕ) (l : List Cell). flat f l) (sym octree_number) (sym octree_cells)

    spread_table : (g : Axis → ℕ → ℕ) → key_table g v w ≡ spread g (grid_vertices p.levels (dims_of p) s)
    spread_table g = sym (spread_keys g v w hv) ∙ ap (λ (l : List ℕ). spread g (map triple_of l)) ek ∙ ap (spread g) (sym octree_vertices)

    pub octree_triples : key_table triple_at v w ≡ triple_table p s
    unfolding triple_table
    octree_triples = spread_table triple_at

    pub octree_points : key_table (point_at p) v w ≡ point_table p s
    unfolding point_table
    octree_points = spread_table (point_at p)

-- ---- every key is small

abbrev most : ℕ
most = most_keys

below_both : (n : ℕ) (a b : List ℕ) → all_below n a ≡ true → all_below n b ≡ true → all_below n (a ++ b) ≡ true
unfolding all_below
below_both n [] b p q = q
below_both n (x ∷ a) b p q =
    rw (and_left (ltb x n) (all_below n a) p) (below_both n a b (and_right (ltb x n) (all_below n a) p) q)

below_run : (n : ℕ) (f : ℕ → List ℕ) (m i : ℕ) → ((j : ℕ) → i ≤ j → j < i + m → all_below n (f j) ≡ true) → all_below n (run m f i) ≡ true
unfolding run all_below
below_run n f zero i h = refl
below_run n f (suc m) i h =
    below_both n (f i) (run m f (suc i)) (h i (omega arith) (omega arith)) (below_run n f m (suc i) (λ j a b. h j (omega arith) (omega arith)))

nine_below : (k u v w : ℕ) → k + 2 * v + 2 * w + 2 * u < most → k + u + v + w < most → all_below most (nine_keys k u v w) ≡ true
unfolding nine_keys all_below
nine_below k u v w h g =
    rw (
      lt-ltb (k + u + v + w) most g,
      lt-ltb (k + 2 * v + 2 * w + 2 * u) most h,
      lt-ltb (k + 2 * v + 2 * w) most (omega arith),
      lt-ltb (k + 2 * w + 2 * u) most (omega arith),
      lt-ltb (k + 2 * w) most (omega arith),
      lt-ltb (k + 2 * v + 2 * u) most (omega arith),
      lt-ltb (k + 2 * v) most (omega arith),
      lt-ltb (k + 2 * u) most (omega arith),
      lt-ltb k most (omega arith),
    )
    refl

leaf_below : (z : ℕ) → Placed z → all_below most (keys_in z) ≡ true
leaf_below z p =
    ap (all_below most) (keys_are z (low_in z) (2 ^ level_in z) refl refl)
    ∙ nine_below (low_in z) (2 ^ level_in z * stride ax) (2 ^ level_in z * stride ay) (2 ^ level_in z)
    (omega (arith, half_few z p, low_few z p)) (omega (arith, half_few z p, low_few z p))

-- of the distinct ones of small keys each is small
distinct_below : (l : List ℕ) → all_below most l ≡ true → (i : ℕ) → i < length (distinct_sorted l) → get_or (distinct_sorted l) i 0 < most
distinct_below l h i b =
    let x : ℕ = get_or (distinct_sorted l) i 0 in
    let r = cnt_find x l (omega (arith, cnt_at (distinct_sorted l) i b, members l x)) in
    omega (arith, below_at most l h r.0 r.1, r.2)

-- ---- the work once the vertices are numbered

module _ (s : List ℕ) (d : Roots) (n : ℕ) (w : List ℕ) (h : Numberable s d n w) where
  abbrev L : List ℕ
  L = leaves_in s d

  abbrev listed_work : List ℕ → List ℕ
  listed_work z = put_mid (9 * n + 1) (9 * n + 1 + n - (9 * n + 1)) w z

  pub list_length : {z : List ℕ} → z ≡ leaves_in s d → length z ≡ n
  list_length e = ap length e ∙ sym h.leaves

  module _ (z : List ℕ) (ez : z ≡ leaves_in s d) where
    pub standing : Standing s d (put_mid (9 * n + 1) (9 * n + 1 + n - (9 * n + 1)) w z) (9 * n + 1) n
    standing = record {
      fits = omega (arith, listed_length w z (replicate (9 * n) 0) n h.room (list_length ez) (length-replicate (9 * n) zero), h.room);
      many = h.leaves;
      here = list_behind w z (replicate (9 * n) 0) n h.room (list_length ez) (length-replicate (9 * n) zero) ∙ ez;
    }

    abbrev K : List ℕ
    K = keys_from (put_mid (9 * n + 1) (9 * n + 1 + n - (9 * n + 1)) w z) (9 * n + 1) n

    keys_long : length (keys_from (put_mid (9 * n + 1) (9 * n + 1 + n - (9 * n + 1)) w z) (9 * n + 1) n) ≡ 9 * n
    keys_long = length_run n _ 0 ∙ sum_same n _ _ 0 (λ j a b. keys_nine (get_or (listed_work z) (9 * n + 1 + j) 0)) ∙ sum_flat n 9 0 ∙ omega arith

    keys_same : distinct_sorted (keys_from (put_mid (9 * n + 1) (9 * n + 1 + n - (9 * n + 1)) w z) (9 * n + 1) n) ≡ vertex_keys d.levels (roots_of d) s
    unfolding vertex_keys
    keys_same =
        ap distinct_sorted (sym (keys_by s d h.taken (listed_work z) (9 * n + 1) n standing))
        ∙ same_distinct _ _ (same_vertices s d h.taken)

    keys_below : all_below most K ≡ true
    keys_below = below_run most (λ j. keys_in (get_or (listed_work z) (9 * n + 1 + j) 0)) n 0 (λ j a b. leaf_below (get_or (listed_work z) (9 * n + 1 + j) 0) (all_placed s d h.taken (listed_work z) (9 * n + 1) n standing j (omega arith)))

    leaves_few : n ≤ 8388608
    leaves_few =
        let a = leaves_bound (tree_of d s) alone 1 (λ m x. omega arith) d.levels (roots_of d) in
        omega (arith, a, h.leaves, places_few (roots_of d) d.levels h.taken.some, h.taken.covers.octants, h.octants)

    -- what the sort of the keys leaves
    module _ (M : List ℕ) (v : ℕ) (w₂ : List ℕ) (e₂ : w₂ ≡ sets (put_mid (9 * n + 1) (9 * n + 1 + n - (9 * n + 1)) w z) 0 (keys_from (put_mid (9 * n + 1) (9 * n + 1 + n - (9 * n + 1)) w z) (9 * n + 1) n))
        (lm : length M ≡ length (take (9 * n) w₂)) (em : M ≡ numbered (take (9 * n) w₂)) (ev : v ≡ length (distinct_sorted (take (9 * n) w₂))) where
      front_is : take (9 * n) w₂ ≡ K
      front_is = ap (take (9 * n)) e₂ ∙ keys_front w z K n h.room (list_length ez) keys_long

      m_is : M ≡ numbered K
      m_is = em ∙ ap numbered front_is

      v_is : v ≡ length (distinct_sorted K)
      v_is = ev ∙ ap (λ (l : List ℕ). length (distinct_sorted l)) front_is

      m_long : length M ≡ 9 * n
      m_long = lm ∙ ap length front_is ∙ keys_long

      v_few : v < 2 ^ 32
      v_few = omega (arith, v_is, distinct_short K, keys_long, leaves_few)

      abbrev w₃ : List ℕ
      w₃ = M ++ drop (9 * n) w₂

      fronts : take v (M ++ drop (9 * n) w₂) ≡ distinct_sorted K
      fronts =
          ap₂ (λ (i : ℕ) (q : List ℕ). take i (q ++ drop (9 * n) w₂)) v_is m_is ∙ numbered_front K (drop (9 * n) w₂)

      v_fits : v ≤ 9 * n
      v_fits = omega (arith, v_is, distinct_short K, keys_long)

      long : 9 * n + 1 ≤ length (M ++ drop (9 * n) w₂)
      long =
          omega (
            arith,
            length-append M (drop (9 * n) w₂),
            length-drop (9 * n) w₂,
            m_long,
            ap length e₂,
            length-sets (listed_work z) 0 K,
            listed_length w z K n h.room (list_length ez) keys_long,
            h.room,
          )

      pub front_long : length (take (9 * n + 1) (M ++ drop (9 * n) w₂)) ≡ 9 * n + 1
      front_long = length-take-le (9 * n + 1) w₃ long

      front_same : take v (take (9 * n + 1) (M ++ drop (9 * n) w₂)) ≡ take v (M ++ drop (9 * n) w₂)
      front_same = front_of v (9 * n + 1) w₃ (omega (arith, v_fits)) long

      rises : StrictTo v (take (9 * n + 1) (M ++ drop (9 * n) w₂))
      rises =
          same_rises w₃ (take (9 * n + 1) w₃) v front_same
          (subst₂ (λ (i : ℕ) (q : List ℕ). StrictTo i (q ++ drop (9 * n) w₂)) (sym v_is) (sym m_is) (numbered_rises K (drop (9 * n) w₂)))

      -- what the index asks for
      pub index_asks : (v < length (take (9 * n + 1) (M ++ drop (9 * n) w₂))) × SortedTo v (take (9 * n + 1) (M ++ drop (9 * n) w₂))
      index_asks = (omega (arith, v_fits, front_long), rising_sorted (take (9 * n + 1) w₃) v rises)

      module _ (Q : List ℕ) (lq : length Q ≡ length (take (9 * n + 1) (M ++ drop (9 * n) w₂))) (ix : Indexes (take (9 * n + 1) (M ++ drop (9 * n) w₂)) Q v) where
        abbrev w₄ : List ℕ
        w₄ = Q ++ drop (9 * n + 1) (M ++ drop (9 * n) w₂)

        firsts : take v (Q ++ drop (9 * n + 1) (M ++ drop (9 * n) w₂)) ≡ distinct_sorted K
        firsts =
            take-append-le v Q (drop (9 * n + 1) w₃) (omega (arith, v_fits, lq, front_long)) ∙ ix.same ∙ front_same ∙ fronts

        pub ready : Ready s d n (Q ++ drop (9 * n + 1) (M ++ drop (9 * n) w₂)) v
        ready = record {
          lookup = find_ready (take (9 * n + 1) w₃) Q (drop (9 * n + 1) w₃) v rises v_few ix;
          keys = firsts ∙ keys_same;
          small = small';
          list = list_still w z K n h.room (list_length ez) keys_long M Q w₂ e₂ m_long (lq ∙ front_long) ∙ ez;
        }
          where
            small' : (i : ℕ) → i < v → get_or (Q ++ drop (9 * n + 1) (M ++ drop (9 * n) w₂)) i 0 < most
            small' i b =
                let e : get_or w₄ i 0 ≡ get_or (distinct_sorted K) i 0 =
                sym (get_or-take v w₄ i 0 b) ∙ ap (λ (q : List ℕ). get_or q i 0) firsts
                in
                omega (arith, e, distinct_below K keys_below i (omega (arith, v_is)))
