-- The six-fold volumes of all cells of an octree add up to that of its box. Assumes nothing.
use mathlib.Core.Path.{◌≡◌, refl, ap, ap₂, sym, ◌∙◌}
use mathlib.Core.Bool.{Bool, true, false, cond, not, ◌&&◌, and-false}
use mathlib.Core.List.{List}
use Prim.Native.Nat.{ℕ, zero, suc, ◌+◌, ◌*◌, ◌-◌}
use native.Mathlib.Omega.{arith}
use native.Mathlib.Nat.{two-pow-succ}
use lib.Dec.{eqb, ltb}
use borrow.Author.Tests.{lt-ltb, le-ltb}
use Rattle.lists.specs.Tests.{bit}
use Rattle.lists.specs.Runs.{sums}
use Rattle.space.specs.Space.{Axis, ax, ay, az, Pos, next, frame}
use Rattle.octants.specs.Oct.{Tree, counts, width}
use Rattle.octants.specs.Table.{read}
use Rattle.octree_cells.specs.Cells.{Cover, none, leaf, descent, of_level, two, child, Side, split, equal, coarser, border, side, covered_by, reaches, beside, stepped, finer, face_cells, leaf_cells, cells}
use Rattle.octree_cells.specs.Leaf.{opened, own}
use Rattle.octree_cells.proofs.Opened.{own_opened}
use Rattle.tiling.specs.Volume.{sum_six}
use Rattle.tiling.proofs.Faces.{six_append, cube, share, cells_six}
use Rattle.tiling.proofs.Sums.{sum_cong, sum_cong_in, sum_last, sum_next, box_sum, box_cong, box_add, box_flat, box_turn}
use Rattle.tiling.proofs.Leaves.{total, leaves_sum, total_cong, total_add, level_sums, of_level_sum, leaves_levels}

abbrev is_equal : Side → Bool
is_equal split = false
is_equal equal = true
is_equal (coarser n z) = false
is_equal border = false

share_low : (b : Side) → share false b + bit (is_equal b) ≡ 1
share_low split = refl
share_low equal = refl
share_low (coarser n z) = refl
share_low border = refl

share_high : (b : Side) → share true b ≡ 1 + bit (is_equal b)
share_high split = refl
share_high equal = refl
share_high (coarser n z) = refl
share_high border = refl

cond_same : {A : Type 0} (b : Bool) (x y : A) → x ≡ y → cond b x y ≡ y
cond_same true x y h = h
cond_same false x y h = refl

-- the leaves below an octant make it up
total_cube : (t : Tree) (c m : ℕ) (x : Pos) → total t (λ n y. c * cube (width n)) m x ≡ c * cube (width m)
unfolding total
total_cube t c zero x = refl
total_cube t c (suc m) x =
    cond_same (t (suc m) x) _ _
    (box_cong two (λ o. total_cube t c m (child x o)) ∙ box_flat two (c * cube (width m)) ∙ rw two-pow-succ (omega arith))

-- ---- pairs of neighbours along a line

-- each but the last, and each but the first with the one before it
but_last : (n : ℕ) (f : ℕ → ℕ) → sums (suc n) (λ i. bit (ltb (i + 1) (suc n)) * f i) 0 ≡ sums n f 0
but_last n f =
    let e : ltb (0 + n + 1) (suc n) ≡ false = le-ltb (0 + n + 1) (suc n) (omega arith) in
    let g : sums n (λ i. bit (ltb (i + 1) (suc n)) * f i) 0 ≡ sums n f 0
    = sum_cong_in n (λ i h. ap (λ (b : Bool). bit b * f i) (lt-ltb (i + 1) (suc n) (omega arith)) ∙ omega arith) in
    sum_last n (λ i. bit (ltb (i + 1) (suc n)) * f i) 0 ∙ ap₂ (λ (b : Bool) (s : ℕ). bit b * f (0 + n) + s) e g ∙ omega arith

but_first : (n : ℕ) (f : ℕ → ℕ) → sums (suc n) (λ i. bit (ltb 0 i) * f (i - 1)) 0 ≡ sums n f 0
unfolding sums
but_first n f =
    let e : (i : ℕ) → bit (ltb 0 (suc i)) * f (suc i - 1) ≡ f i
    = λ i. let k : suc i - 1 ≡ i = omega arith in ap₂ (λ (b : Bool) (j : ℕ). bit b * f j) (lt-ltb 0 (suc i) (omega arith)) k ∙ omega arith in
    ap (λ (b : Bool). bit b * f (0 - 1) + sums n (λ i. bit (ltb 0 i) * f (i - 1)) 1) (le-ltb 0 0 (omega arith))
    ∙ omega (arith, sum_next n (λ i. bit (ltb 0 i) * f (i - 1)) 0, sum_cong n e)

shifted : (n : ℕ) (f : ℕ → ℕ) → sums n (λ i. bit (ltb (i + 1) n) * f i) 0 ≡ sums n (λ i. bit (ltb 0 i) * f (i - 1)) 0
unfolding sums
shifted zero f = refl
shifted (suc n) f = but_last n f ∙ sym (but_first n f)

-- pairs of neighbours that pass, counted from either
pairs : (n w : ℕ) (h : ℕ → ℕ) → sums n (λ i. h i * (bit (reaches n true i) * h (i + 1) * w)) 0 ≡ sums n (λ i. h i * (bit (reaches n false i) * h (i - 1) * w)) 0
pairs n w h =
    sum_cong n (λ i. let e : h i * (bit (ltb (i + 1) n) * h (i + 1) * w) ≡ bit (ltb (i + 1) n) * (h i * h (i + 1) * w) = omega arith in e)
    ∙ shifted n (λ i. h i * h (i + 1) * w)
    ∙ sum_cong n back
  where
    back : (i : ℕ) → bit (ltb 0 i) * (h (i - 1) * h (i - 1 + 1) * w) ≡ h i * (bit (ltb 0 i) * h (i - 1) * w)
    back zero = omega arith
    back (suc i) =
        let e : suc i - 1 + 1 ≡ suc i = omega arith in
        ap (λ (k : ℕ). bit (ltb 0 (suc i)) * (h (suc i - 1) * h k * w)) e ∙ omega arith

-- ---- all leaves

sum_ends : (v s lo sl u hi c k : ℕ) → v ≡ s → s + lo ≡ sl → sl ≡ u → u ≡ c + hi → c ≡ k → hi ≡ lo → v ≡ k
sum_ends v s lo sl u hi c k e0 e1 e2 e3 e4 e5 = omega arith

module _ (l : ℕ) (d : Pos) (t : Tree) where
  -- a leaf's face towards one of its own level, in cubes
  abbrev twins : Bool → Axis → ℕ → Pos → ℕ
  twins s a m x = bit (is_equal (side l d t m x a s)) * cube (width m)

  abbrev all_twins : Bool → ℕ → Pos → ℕ
  all_twins s m x = twins s ax m x + twins s ay m x + twins s az m x

  face_low : (m : ℕ) (x : Pos) (a : Axis) → sum_six (face_cells l d t m x a false) + twins false a m x ≡ cube (width m)
  face_low m x a =
      let b : Side = side l d t m x a false in
      omega (arith, cells_six (finer l d t m) m x a false b, ap (λ (n : ℕ). n * cube (width m)) (share_low b))

  face_high : (m : ℕ) (x : Pos) (a : Axis) → sum_six (face_cells l d t m x a true) ≡ cube (width m) + twins true a m x
  face_high m x a =
      let b : Side = side l d t m x a true in
      omega (arith, cells_six (finer l d t m) m x a true b, ap (λ (n : ℕ). n * cube (width m)) (share_high b))

  leaf_six : (m : ℕ) (x : Pos) → sum_six (leaf_cells l d t m x) + all_twins false m x ≡ 6 * cube (width m) + all_twins true m x
  unfolding leaf_cells
  leaf_six m x =
      simp six_append
      (omega (arith, face_low m x ax, face_low m x ay, face_low m x az, face_high m x ax, face_high m x ay, face_high m x az))

  side_twin : (m : ℕ) (x : Pos) (a : Axis) (s : Bool)
      → bit (is_equal (side l d t m x a s)) ≡ bit (reaches (counts l d m a) s (x a)) * bit (own t m (beside a s x) (l - m))
  unfolding side
  side_twin m x a s =
      go (reaches (counts l d m a) s (x a)) (t m (beside a s x)) (descent t m (beside a s x) (l - m)) (own_opened t m (beside a s x) (l - m))
    where
      covered : (c : Cover) → bit (is_equal (covered_by m c)) ≡ bit (of_level m c)
      covered none = refl
      covered (leaf n z) = same (eqb n m)
        where
          same : (b : Bool) → bit (is_equal (cond b equal (coarser n z))) ≡ bit b
          same true = refl
          same false = refl

      go : (r b : Bool) (c : Cover) → of_level m c ≡ opened t m (beside a s x) (l - m) && not b
          → bit (is_equal (cond r (cond b split (covered_by m c)) border)) ≡ bit r * bit (of_level m c)
      go false b c h = omega arith
      go true true c h = let e : bit (of_level m c) ≡ 0 = ap bit (h ∙ and-false (opened t m (beside a s x) (l - m))) in omega arith
      go true false c h = omega (arith, covered c)

  -- a line along axis a, at v and w on the other two
  abbrev own_at : Axis → ℕ → ℕ → ℕ → ℕ → ℕ
  own_at a m v w u = bit (own t m (frame a u v w) (l - m))

  line_twins : (a : Axis) (m u v w : ℕ) (s : Bool)
      → own_at a m v w u * twins s a m (frame a u v w)
      ≡ own_at a m v w u * (bit (reaches (counts l d m a) s u) * own_at a m v w (stepped s u) * cube (width m))
  line_twins ax m u v w s = ap (λ (n : ℕ). own_at ax m v w u * (n * cube (width m))) (side_twin m (frame ax u v w) ax s)
  line_twins ay m u v w s = ap (λ (n : ℕ). own_at ay m v w u * (n * cube (width m))) (side_twin m (frame ay u v w) ay s)
  line_twins az m u v w s = ap (λ (n : ℕ). own_at az m v w u * (n * cube (width m))) (side_twin m (frame az u v w) az s)

  level_twins : (a : Axis) (m : ℕ) → of_level_sum l d t (twins true a) m ≡ of_level_sum l d t (twins false a) m
  level_twins a m = by_lines true ∙ sum_cong _ (λ w. sum_cong _ (λ v. pairs (counts l d m a) (cube (width m)) (own_at a m v w))) ∙ sym (by_lines false)
    where
      by_lines : (s : Bool) → of_level_sum l d t (twins s a) m
          ≡ sums (counts l d m (next (next a))) (λ w. sums (counts l d m (next a)) (λ v. sums (counts l d m a)
          (λ u. own_at a m v w u * (bit (reaches (counts l d m a) s u) * own_at a m v w (stepped s u) * cube (width m))) 0) 0) 0
      by_lines s =
          box_turn a (counts l d m) (λ x. bit (own t m x (l - m)) * twins s a m x)
          ∙ sum_cong _ (λ w. sum_cong _ (λ v. sum_cong _ (λ u. line_twins a m u v w s)))

  levels_twins : (a : Axis) (m : ℕ) → level_sums l d t (twins true a) m ≡ level_sums l d t (twins false a) m
  unfolding level_sums
  levels_twins a zero = level_twins a zero
  levels_twins a (suc m) = ap₂ (λ (p q : ℕ). p + q) (level_twins a (suc m)) (levels_twins a m)

  module _ (finest : (x : Pos) → t 0 x ≡ false) where
    leaves_twins : (a : Axis) → box_sum d (total t (twins true a) l) ≡ box_sum d (total t (twins false a) l)
    leaves_twins a = leaves_levels l d t (twins true a) finest ∙ levels_twins a l ∙ sym (leaves_levels l d t (twins false a) finest)

    all_twins_lem : (s : Bool) → box_sum d (total t (all_twins s) l)
        ≡ box_sum d (total t (twins s ax) l) + box_sum d (total t (twins s ay) l) + box_sum d (total t (twins s az) l)
    all_twins_lem s =
        box_cong d (λ x. total_add t (λ m y. twins s ax m y + twins s ay m y) (twins s az) l x
        ∙ ap (λ (n : ℕ). n + total t (twins s az) l x) (total_add t (twins s ax) (twins s ay) l x))
        ∙ box_add d (λ x. total t (twins s ax) l x + total t (twins s ay) l x) (λ x. total t (twins s az) l x)
        ∙ ap (λ (n : ℕ). n + box_sum d (total t (twins s az) l)) (box_add d (λ x. total t (twins s ax) l x) (λ x. total t (twins s ay) l x))

    all_six : sum_six (cells l d t) ≡ 6 * (d ax * width l * (d ay * width l) * (d az * width l))
    unfolding sum_six
    all_six =
        let six : ℕ → Pos → ℕ = λ m x. sum_six (leaf_cells l d t m x) in
        let low : ℕ → Pos → ℕ = λ m x. all_twins false m x in
        let high : ℕ → Pos → ℕ = λ m x. all_twins true m x in
        let e0 : sum_six (cells l d t) ≡ box_sum d (total t six l) = leaves_sum sum_six refl six_append l d t (leaf_cells l d t) in
        let e1 : box_sum d (total t six l) + box_sum d (total t low l) ≡ box_sum d (total t (λ m x. six m x + low m x) l)
        = sym (box_cong d (λ x. total_add t six low l x) ∙ box_add d (λ x. total t six l x) (λ x. total t low l x)) in
        let e2 : box_sum d (total t (λ m x. six m x + low m x) l) ≡ box_sum d (total t (λ m x. 6 * cube (width m) + high m x) l)
        = box_cong d (λ x. total_cong t _ _ leaf_six l x) in
        let e3 : box_sum d (total t (λ m x. 6 * cube (width m) + high m x) l) ≡ box_sum d (total t (λ m x. 6 * cube (width m)) l) + box_sum d (total t high l)
        = box_cong d (λ x. total_add t (λ m x. 6 * cube (width m)) high l x) ∙ box_add d (λ x. total t (λ m x. 6 * cube (width m)) l x) (λ x. total t high l x) in
        let e4 : box_sum d (total t (λ m x. 6 * cube (width m)) l) ≡ d az * (d ay * (d ax * (6 * cube (width l))))
        = box_cong d (λ x. total_cube t 6 l x) ∙ box_flat d (6 * cube (width l)) in
        let e5 : box_sum d (total t high l) ≡ box_sum d (total t low l)
        = all_twins_lem true ∙ ap₂ (λ (p q : ℕ). p + q) (ap₂ (λ (p q : ℕ). p + q) (leaves_twins ax) (leaves_twins ay)) (leaves_twins az) ∙ sym (all_twins_lem false) in
        let e6 : d az * (d ay * (d ax * (6 * cube (width l)))) ≡ 6 * (d ax * width l * (d ay * width l) * (d az * width l)) = omega arith in
        sum_ends _ _ _ _ _ _ _ _ e0 e1 e2 e3 e4 e5 ∙ e6

-- for every split table, dimensions and levels: X, Y, Z are the box's sides in units
pub octree_six : (d : Pos) (l : ℕ) (s : List ℕ) → sum_six (cells l d (read d l s)) ≡ 6 * (d ax * width l * (d ay * width l) * (d az * width l))
unfolding read
octree_six d l s = all_six l d (read d l s) (λ x. refl)
