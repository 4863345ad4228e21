-- Each vertex of the lattice stands at its number and at no other place, and the cells name vertices only. Assumes nothing.
use mathlib.Core.Path.{◌≡◌, refl, sym, ap, ◌∙◌, fun_ext}
use mathlib.Core.Logic.{◌⊎◌, inl, inr, ◌≢◌}
use mathlib.Core.Bool.{Bool, true, false, cond}
use mathlib.Core.List.{List, [], ◌∷◌, ◌++◌}
use Prim.Native.Nat.{ℕ, zero, suc, ◌+◌, ◌*◌, ◌-◌, ◌/◌, ◌%◌, ◌≤◌, ◌<◌}
use native.Mathlib.Nat.{mul-le-mul_right, mod-lt, div-add-mod', div-lt_iff_lt-mul, not-suc-le-zero, le_of_suc-le-suc}
use native.Mathlib.Omega.{arith}
use borrow.Author.Tests.{leb-true}
use lib.Dec.{leb}
use lib.ListN.{length, get_or, get_or-append}
use lib.Seq.{get_or-append-add}
use Rattle.lists.specs.Runs.{run}
use Rattle.lists.proofs.Cases.{lt_or, eq_or}
use Rattle.lists.proofs.Bools.{and_left, and_right}
use Rattle.lists.proofs.Running.{length_run, sum_same, sum_flat}
use Rattle.space.specs.Space.{Axis, ax, ay, az, Pos, pos, Inside, frame, next}
use Rattle.octree_cells.specs.Cells.{Cell}
use Rattle.lattice.specs.Lattice.{evens, odds, size, box_up, doubled, lattice_vertices, LatticeVertex, slot, index_of, in_range, opposite, corner0, corner1, corner2, complete, octahedron, axis_cells, centre_cells, lattice_cells}
use Rattle.space.proofs.Space.{frame_all}
use Rattle.lattice.proofs.Octahedra.{even_index, odd_index}
use Rattle.lattice.proofs.Formulas.{one_each, vertices_count}

-- ---- a box by its places

-- entry j of turn k, where every turn gives m entries
run_at : {A : Type 0} (n m : ℕ) (f : ℕ → List A) (z : A) (i k j : ℕ) → ((t : ℕ) → length (f t) ≡ m) → k < n → j < m
    → get_or (run n f i) (j + k * m) z ≡ get_or (f (i + k)) j z
unfolding run
run_at zero m f z i k j e h b = absurd (not-suc-le-zero h)
run_at (suc n) m f z i zero j e h b =
    let p : j + 0 * m ≡ j = omega arith in
    let q : i + 0 ≡ i = omega arith in
    let r : j < length (f i) = omega (arith, e i) in
    rw (p, q) (get_or-append (f i) (run n f (suc i)) z j r)
run_at (suc n) m f z i (suc k) j e h b =
    let p : j + suc k * m ≡ length (f i) + (j + k * m) = omega (arith, e i) in
    let q : suc i + k ≡ i + suc k = omega arith in
    rw p (get_or-append-add (f i) (run n f (suc i)) (j + k * m) z ∙ run_at n m f z (suc i) k j e (le_of_suc-le-suc h) b ∙ ap (λ (t : ℕ). get_or (f t) j z) q)

turns_long : {A : Type 0} (n m : ℕ) (f : ℕ → List A) (i : ℕ) → ((t : ℕ) → length (f t) ≡ m) → length (run n f i) ≡ n * m
turns_long n m f i e = length_run n f i ∙ sum_same n _ _ i (λ t a b. e t) ∙ sum_flat n m i

-- entry i of row j stands below m rows of l
in_rows : (i j l m : ℕ) → i < l → j < m → i + j * l < m * l
in_rows i j l m p q =
    let a : j + 1 ≤ m = omega arith in
    let b : (j + 1) * l ≤ m * l = mul-le-mul_right l a in
    omega arith

module _ (n x : Pos) (h : Inside n x) where
  slot_in : slot n x < size n
  slot_in = omega (arith, in_rows (x ax) (x ay + x az * n ay) (n ax) (n az * n ay) (h ax) (in_rows (x ay) (x az) (n ay) (n az) (h ay) (h az)))

  module _ {A : Type 0} (f : Pos → A) (z : A) where
    abbrev row : ℕ → ℕ → List A
    row k j = run (n ax) (λ i. f (pos i j k) ∷ []) 0

    abbrev layer : ℕ → List A
    layer k = run (n ay) (row k) 0

    row_long : (k j : ℕ) → length (row k j) ≡ n ax
    row_long k j = turns_long (n ax) 1 (λ i. f (pos i j k) ∷ []) 0 (λ t. refl) ∙ omega arith

    layer_long : (k : ℕ) → length (layer k) ≡ n ay * n ax
    layer_long k = turns_long (n ay) (n ax) (row k) 0 (row_long k)

    -- what a box gives at a place stands at the place's slot
    box_at : get_or (box_up n (λ y. f y ∷ [])) (slot n x) z ≡ f x
    unfolding box_up
    box_at =
        let e : slot n x ≡ x ax + x ay * n ax + x az * (n ay * n ax) = omega arith in
        let i : x ax ≡ 0 + x ax * 1 = omega arith in
        rw e (run_at (n az) (n ay * n ax) layer z 0 (x az) (x ax + x ay * n ax) layer_long (h az) (in_rows (x ax) (x ay) (n ax) (n ay) (h ax) (h ay)))
        ∙ run_at (n ay) (n ax) (row (0 + x az)) z 0 (x ay) (x ax) (row_long (0 + x az)) (h ay) (h ax)
        ∙ ap (λ (k : ℕ). get_or (row (0 + x az) (0 + x ay)) k z) i
        ∙ run_at (n ax) 1 (λ k. f (pos k (0 + x ay) (0 + x az)) ∷ []) z 0 (x ax) 0 (λ t. refl) (h ax) (omega arith)
        ∙ ap f (fun_ext own)
      where
        own : (a : Axis) → pos (0 + x ax) (0 + x ay) (0 + x az) a ≡ x a
        own ax = omega arith
        own ay = omega arith
        own az = omega arith

-- every number below the size of a box is a slot
module _ (n : Pos) (j : ℕ) (h : j < size n) where
  some : (a : Axis) → 0 < n a
  some a = go (eq_or (n a) 0)
    where
      none : (b : Axis) → n b ≡ 0 → size n ≡ 0
      none ax e = ap (λ (k : ℕ). k * n ay * n az) e ∙ omega arith
      none ay e = ap (λ (k : ℕ). n ax * k * n az) e ∙ omega arith
      none az e = ap (λ (k : ℕ). n ax * n ay * k) e ∙ omega arith

      go : (n a ≡ 0) ⊎ (n a ≢ 0) → 0 < n a
      go (inl e) = absurd (omega (arith, none a e))
      go (inr k) = omega arith

  abbrev place : Pos
  place = pos (j % n ax) (j / n ax % n ay) (j / n ax / n ay)

  place_in_lem : Inside n place
  place_in_lem ax = mod-lt j (some ax)
  place_in_lem ay = mod-lt (j / n ax) (some ay)
  place_in_lem az = (div-lt_iff_lt-mul (some ay)).1 ((div-lt_iff_lt-mul (some ax)).1 (omega arith))

  slot_place : slot n place ≡ j
  slot_place =
      let r : j / n ax % n ay + j / n ax / n ay * n ay ≡ j / n ax = omega (arith, div-add-mod' (j / n ax) (n ay)) in
      ap (λ (k : ℕ). j % n ax + k * n ax) r ∙ omega (arith, div-add-mod' j (n ax))

-- ---- the vertices

module _ (d : Pos) (z : Pos) where
  -- a place among the even ones, and one among the odd ones
  even_at : (x : Pos) → Inside (evens d) x → (slot (evens d) x < size (evens d)) × (get_or (lattice_vertices d) (slot (evens d) x) z ≡ doubled 0 x)
  unfolding lattice_vertices
  even_at x i =
      let b = slot_in (evens d) x i in
      (b, get_or-append (box_up (evens d) (λ y. doubled 0 y ∷ [])) _ z (slot (evens d) x) (omega (arith, b, one_each (evens d) (doubled 0))) ∙ box_at (evens d) x i (doubled 0) z)

  odd_at : (x : Pos) → Inside (odds d) x → (slot (odds d) x < size (odds d)) × (get_or (lattice_vertices d) (size (evens d) + slot (odds d) x) z ≡ doubled 1 x)
  unfolding lattice_vertices
  odd_at x i =
      let e = one_each (evens d) (doubled 0) in (
        slot_in (odds d) x i,
        ap (λ (k : ℕ). get_or (lattice_vertices d) (k + slot (odds d) x) z) (sym e)
            ∙ get_or-append-add (box_up (evens d) (λ y. doubled 0 y ∷ [])) _ (slot (odds d) x) z ∙ box_at (odds d) x i (doubled 1) z,
      )

  -- a vertex stands at its number
  pub named : (q : Pos) → LatticeVertex d q → (index_of d q < length (lattice_vertices d)) × (get_or (lattice_vertices d) (index_of d q) z ≡ q)
  named q h = go (eq_or (q ax % 2) 0)
    where
      half : Pos
      half a = q a / 2

      go : (q ax % 2 ≡ 0) ⊎ (q ax % 2 ≢ 0) → (index_of d q < length (lattice_vertices d)) × (get_or (lattice_vertices d) (index_of d q) z ≡ q)
      go (inl e) =
          let twice : (a : Axis) → q a ≡ 2 * half a = λ a. omega (arith, (h a).1) in
          let n = even_index d half q twice in
          let r = even_at half (λ a. omega (arith, (h a).0)) in
          (omega (arith, n, r.0, vertices_count d), rw n (r.1 ∙ fun_ext (λ a. omega (arith, twice a))))
      go (inr k) =
          let twice : (a : Axis) → q a ≡ 2 * half a + 1 = λ a. omega (arith, (h a).1) in
          let n = odd_index d half q twice in
          let r = odd_at half (λ a. omega (arith, (h a).0, twice a)) in
          (omega (arith, n, r.0, vertices_count d), rw n (r.1 ∙ fun_ext (λ a. omega (arith, twice a))))

  -- two vertices with one number are one
  pub one_number : (p q : Pos) → LatticeVertex d p → LatticeVertex d q → index_of d p ≡ index_of d q → p ≡ q
  one_number p q h g e = sym (named p h).1 ∙ ap (λ (k : ℕ). get_or (lattice_vertices d) k z) e ∙ (named q g).1

  -- what stands in the list is a vertex, and its place is its number: none stands there twice
  pub listed : (j : ℕ) → j < length (lattice_vertices d) → LatticeVertex d (get_or (lattice_vertices d) j z) × (index_of d (get_or (lattice_vertices d) j z) ≡ j)
  listed j b = go (lt_or j (size (evens d)))
    where
      go : (j < size (evens d)) ⊎ (size (evens d) ≤ j) → LatticeVertex d (get_or (lattice_vertices d) j z) × (index_of d (get_or (lattice_vertices d) j z) ≡ j)
      go (inl h) =
          let x = place (evens d) j h in
          let i = place_in_lem (evens d) j h in
          let s = slot_place (evens d) j h in
          let e : get_or (lattice_vertices d) j z ≡ doubled 0 x = ap (λ (k : ℕ). get_or (lattice_vertices d) k z) (sym s) ∙ (even_at x i).1 in
          rw e ((λ a. (omega (arith, i a), omega arith)), even_index d x (doubled 0 x) (λ a. omega arith) ∙ s)
      go (inr h) =
          let l : j - size (evens d) < size (odds d) = omega (arith, vertices_count d) in
          let x = place (odds d) (j - size (evens d)) l in
          let i = place_in_lem (odds d) (j - size (evens d)) l in
          let s = slot_place (odds d) (j - size (evens d)) l in
          let t : size (evens d) + slot (odds d) x ≡ j = omega (arith, s) in
          let e : get_or (lattice_vertices d) j z ≡ doubled 1 x = ap (λ (k : ℕ). get_or (lattice_vertices d) k z) (sym t) ∙ (odd_at x i).1 in
          rw e ((λ a. (omega (arith, i a), omega arith)), odd_index d x (doubled 1 x) (λ a. refl) ∙ t)

-- ---- the cells

-- every vertex of every cell has a property
abbrev pub Each : (Pos → Type 0) → List Cell → Type 0
Each R [] = Unit {0}
Each R (c ∷ D) = R c.c0 × R c.c1 × R c.c2 × R c.c3 × Each R D

module _ (R : Pos → Type 0) where
  each_append : (C D : List Cell) → Each R C → Each R D → Each R (C ++ D)
  each_append [] D p q = q
  each_append (c ∷ C) D p q = (p.0, p.1, p.2, p.3, each_append C D p.4 q)

  each_run : (n : ℕ) (f : ℕ → List Cell) (i : ℕ) → ((j : ℕ) → i ≤ j → j < i + n → Each R (f j)) → Each R (run n f i)
  unfolding run
  each_run zero f i h = tt
  each_run (suc n) f i h = each_append (f i) (run n f (suc i)) (h i (omega arith) (omega arith)) (each_run n f (suc i) (λ j a b. h j (omega arith) (omega arith)))

  each_box : (n : Pos) (f : Pos → List Cell) → ((x : Pos) → Inside n x → Each R (f x)) → Each R (box_up n f)
  unfolding box_up
  each_box n f h = each_run (n az) _ 0 (λ k a b. each_run (n ay) _ 0 (λ j p q. each_run (n ax) (λ i. f (pos i j k)) 0 (λ i u v. h (pos i j k) (inside i j k (omega arith) (omega arith) (omega arith)))))
    where
      inside : (i j k : ℕ) → i < n ax → j < n ay → k < n az → Inside n (pos i j k)
      inside i j k u v w ax = u
      inside i j k u v w ay = v
      inside i j k u v w az = w

in_bounds : (d p : Pos) → in_range d p ≡ true → (a : Axis) → p a ≤ d a
unfolding in_range
in_bounds d p e ax = leb-true (p ax) (d ax) (and_left (leb (p ax) (d ax)) _ e)
in_bounds d p e ay = leb-true (p ay) (d ay) (and_left (leb (p ay) (d ay)) _ (and_right (leb (p ax) (d ax)) _ e))
in_bounds d p e az = leb-true (p az) (d az) (and_right (leb (p ay) (d ay)) _ (and_right (leb (p ax) (d ax)) _ e))

module _ (d x : Pos) (h : Inside (odds d) x) where
  abbrev c : Pos
  c = doubled 1 x

  centre_vertex : LatticeVertex d (doubled 1 x)
  centre_vertex a = (omega (arith, h a), omega arith)

  module _ (a : Axis) where
    -- in range, and of one parity along the three axes of a frame
    framed : (p q r e : ℕ) → in_range d (frame a p q r) ≡ true → p % 2 ≡ e → q % 2 ≡ e → r % 2 ≡ e → LatticeVertex d (frame a p q r)
    framed p q r e t u v w k =
        let alike : (b : Axis) → frame a p q r b % 2 ≡ e = frame_all (λ m n. m % 2 ≡ e) a p q r 0 0 0 u v w in
        (in_bounds d (frame a p q r) t k, alike k ∙ sym (alike ax))

    octahedron_vertices : complete d a (doubled 1 x) ≡ true → Each (LatticeVertex d) (octahedron a (doubled 1 x))
    unfolding complete octahedron
    octahedron_vertices t =
        let t0 = and_right (in_range d (opposite a c)) _ t in
        let t1 = and_right (in_range d (corner0 a c)) _ t0 in
        let t2 = and_right (in_range d (corner1 a c)) _ t1 in
        let m = centre_vertex in
        let o = framed (c a + 2) (c (next a)) (c (next (next a))) 1 (and_left (in_range d (opposite a c)) _ t) (omega arith) (omega arith) (omega arith) in
        let k0 = framed (c a + 1) (c (next a) + 1) (c (next (next a)) + 1) 0 (and_left (in_range d (corner0 a c)) _ t0) (omega arith) (omega arith) (omega arith) in
        let k1 = framed (c a + 1) (c (next a) - 1) (c (next (next a)) + 1) 0 (and_left (in_range d (corner1 a c)) _ t1) (omega arith) (omega arith) (omega arith) in
        let k2 = framed (c a + 1) (c (next a) - 1) (c (next (next a)) - 1) 0 (and_left (in_range d (corner2 a c)) _ t2) (omega arith) (omega arith) (omega arith) in
        let k3 = framed (c a + 1) (c (next a) + 1) (c (next (next a)) - 1) 0 (and_right (in_range d (corner2 a c)) _ t2) (omega arith) (omega arith) (omega arith) in
        (m, o, k0, k1, (m, o, k1, k2, (m, o, k2, k3, (m, o, k3, k0, tt))))

    axis_vertices : Each (LatticeVertex d) (axis_cells d (doubled 1 x) a)
    unfolding axis_cells
    axis_vertices = go (complete d a (doubled 1 x)) octahedron_vertices
      where
        go : (t : Bool) → (t ≡ true → Each (LatticeVertex d) (octahedron a (doubled 1 x))) → Each (LatticeVertex d) (cond t (octahedron a (doubled 1 x)) [])
        go true f = f refl
        go false f = tt

  centre_vertices : Each (LatticeVertex d) (centre_cells d (doubled 1 x))
  unfolding centre_cells
  centre_vertices =
      let R = LatticeVertex d in
      each_append R (axis_cells d c ax ++ axis_cells d c ay) (axis_cells d c az) (each_append R (axis_cells d c ax) (axis_cells d c ay) (axis_vertices ax) (axis_vertices ay)) (axis_vertices az)

-- every vertex of a cell is a vertex of the lattice
pub cells_vertices : (d : Pos) → Each (LatticeVertex d) (lattice_cells d)
unfolding lattice_cells
cells_vertices d = each_box (LatticeVertex d) (odds d) (λ x. centre_cells d (doubled 1 x)) (λ x h. centre_vertices d x h)
