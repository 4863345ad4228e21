-- A sum over the leaves is a sum over the levels and the places of each. Assumes nothing.
use mathlib.Core.Path.{◌≡◌, refl, ap, ap₂, sym, ◌∙◌, fun_ext}
use mathlib.Core.Bool.{Bool, true, false, cond, not, ◌&&◌}
use mathlib.Core.List.{List, [], ◌++◌}
use Prim.Native.Nat.{ℕ, zero, suc, ◌+◌, ◌*◌, ◌-◌, ◌/◌, ◌^◌, ◌≤◌}
use native.Mathlib.Omega.{arith}
use Rattle.lists.specs.Tests.{bit}
use Rattle.lists.specs.Runs.{sums}
use Rattle.space.specs.Space.{ax, ay, az, Pos, pos, Inside}
use Rattle.space.proofs.Space.{on_all}
use Rattle.octants.specs.Oct.{Tree, counts}
use Rattle.octants.proofs.Axis1.{count_half, child_parent}
use Rattle.octree_cells.specs.Cells.{down, box_down, below, two, child, over_leaves}
use Rattle.octree_cells.specs.Leaf.{opened, own}
use Rattle.octree_cells.proofs.Opened.{own_opened, opened_parent}
use Rattle.tiling.proofs.Sums.{sum_cong, sum_last, box_sum, box_cong, box_cong_in, box_add, box_flat, box_double}

-- what the leaves below an octant add up to
unfoldable pub total : Tree → (ℕ → Pos → ℕ) → ℕ → Pos → ℕ
total t v zero x = v zero x
total t v (suc m) x = cond (t (suc m) x) (box_sum two (λ o. total t v m (child x o))) (v (suc m) x)

cond_map : {A B : Type 0} (f : A → B) (b : Bool) (x y : A) → f (cond b x y) ≡ cond b (f x) (f y)
cond_map f true x y = refl
cond_map f false x y = refl

cond_both : {A : Type 0} (b : Bool) {x y u v : A} → x ≡ u → y ≡ v → cond b x y ≡ cond b u v
cond_both true p q = p
cond_both false p q = q

cond_add : (b : Bool) (x y u v : ℕ) → cond b (x + y) (u + v) ≡ cond b x u + cond b y v
cond_add true x y u v = refl
cond_add false x y u v = refl

-- a measure of lists that adds up
module _ {A : Type 0} (h : List A → ℕ) (nil : h [] ≡ 0) (app : (a b : List A) → h (a ++ b) ≡ h a + h b) where
  down_sum : (n : ℕ) (f : ℕ → List A) → h (down n f) ≡ sums n (λ i. h (f i)) 0
  unfolding down sums
  down_sum zero f = nil
  down_sum (suc n) f =
      let e : n ≡ 0 + n = omega arith in
      app (f n) (down n f) ∙ ap₂ (λ (k s : ℕ). h (f k) + s) e (down_sum n f) ∙ sym (sum_last n (λ i. h (f i)) 0)

  box_sum_lem : (n : Pos) (f : Pos → List A) → h (box_down n f) ≡ box_sum n (λ x. h (f x))
  unfolding box_down box_sum
  box_sum_lem n f =
      down_sum (n az) _
      ∙ sum_cong (n az) (λ k. down_sum (n ay) _ ∙ sum_cong (n ay) (λ j. down_sum (n ax) (λ i. f (pos i j k))))

  below_sum : (t : Tree) (f : ℕ → Pos → List A) (m : ℕ) (x : Pos) → h (below t f m x) ≡ total t (λ n y. h (f n y)) m x
  unfolding below total
  below_sum t f zero x = refl
  below_sum t f (suc m) x =
      cond_map h (t (suc m) x) _ _
      ∙ cond_both (t (suc m) x) (box_sum_lem two _ ∙ box_cong two (λ o. below_sum t f m (child x o))) refl

  pub leaves_sum : (l : ℕ) (d : Pos) (t : Tree) (f : ℕ → Pos → List A) → h (over_leaves l d t f) ≡ box_sum d (total t (λ n y. h (f n y)) l)
  leaves_sum l d t f = box_sum_lem d _ ∙ box_cong d (λ x. below_sum t f l x)

pub total_cong : (t : Tree) (v w : ℕ → Pos → ℕ) → ((m : ℕ) (x : Pos) → v m x ≡ w m x) → (m : ℕ) (x : Pos) → total t v m x ≡ total t w m x
total_cong t v w h m x = ap (λ (u : ℕ → Pos → ℕ). total t u m x) (fun_ext (λ n. fun_ext (h n)))

pub total_add : (t : Tree) (v w : ℕ → Pos → ℕ) (m : ℕ) (x : Pos) → total t (λ n y. v n y + w n y) m x ≡ total t v m x + total t w m x
unfolding total
total_add t v w zero x = refl
total_add t v w (suc m) x =
    cond_both (t (suc m) x) (box_cong two (λ o. total_add t v w m (child x o)) ∙ box_add two _ _) refl
    ∙ cond_add (t (suc m) x) _ _ _ _

module _ (l : ℕ) (d : Pos) (t : Tree) (v : ℕ → Pos → ℕ) where
  -- the leaves of level m
  abbrev pub of_level_sum : ℕ → ℕ
  of_level_sum m = box_sum (counts l d m) (λ x. bit (own t m x (l - m)) * v m x)

  -- of the levels up to m
  unfoldable pub level_sums : ℕ → ℕ
  level_sums zero = of_level_sum zero
  level_sums (suc m) = of_level_sum (suc m) + level_sums m

  times_one : (T : Pos → ℕ) → box_sum two (λ o. 1 * T o) ≡ box_sum two T
  times_one T = box_cong two (λ o. let e : 1 * T o ≡ T o = omega arith in e)

  times_none : (T : Pos → ℕ) → box_sum two (λ o. 0 * T o) ≡ 0
  times_none T = box_cong two {f = λ o. 0 * T o} {g = λ o. 0} (λ o. omega arith) ∙ box_flat two 0

  split_or_not : (T : Pos → ℕ) (w : ℕ) (b c : Bool)
      → bit c * cond b (box_sum two T) w ≡ bit (c && not b) * w + box_sum two (λ o. bit (b && c) * T o)
  split_or_not T w true true = omega (arith, times_one T)
  split_or_not T w true false = omega (arith, times_none T)
  split_or_not T w false true = omega (arith, times_none T)
  split_or_not T w false false = omega (arith, times_none T)

  level_step : (m : ℕ) (x : Pos) (k : ℕ)
      → bit (opened t (suc m) x k) * total t v (suc m) x
      ≡ bit (own t (suc m) x k) * v (suc m) x + box_sum two (λ o. bit (opened t m (child x o) (suc k)) * total t v m (child x o))
  unfolding total
  level_step m x k =
      split_or_not (λ o. total t v m (child x o)) (v (suc m) x) (t (suc m) x) (opened t (suc m) x k)
      ∙ ap₂ (λ (p q : ℕ). p + q) (ap (λ (b : Bool). bit b * v (suc m) x) (sym (own_opened t (suc m) x k)))
      (box_cong_in two (λ o h. ap (λ (b : Bool). bit b * total t v m (child x o)) (sym (child_opened o h))))
    where
      child_opened : (o : Pos) → Inside two o → opened t m (child x o) (suc k) ≡ t (suc m) x && opened t (suc m) x k
      child_opened o h =
          opened_parent t m (child x o) k
          ∙ ap (λ (z : Pos). t (suc m) z && opened t (suc m) z k) (fun_ext (on_all (λ a. child x o a / 2 ≡ x a)
          (child_parent (x ax) (o ax) (h ax)) (child_parent (x ay) (o ay) (h ay)) (child_parent (x az) (o az) (h az))))

  and_true : (b : Bool) → b && true ≡ b
  and_true true = refl
  and_true false = refl

  levels_below : ((x : Pos) → t 0 x ≡ false) → (m : ℕ) → m ≤ l
      → box_sum (counts l d m) (λ x. bit (opened t m x (l - m)) * total t v m x) ≡ level_sums m
  unfolding level_sums total
  levels_below fin zero h =
      box_cong (counts l d zero) (λ x. ap (λ (b : Bool). bit b * v zero x) (sym (own_opened t zero x (l - zero) ∙ ap (λ (b : Bool). opened t zero x (l - zero) && not b) (fin x) ∙ and_true (opened t zero x (l - zero)))))
  levels_below fin (suc m) h =
      let e : suc (l - suc m) ≡ l - m = omega arith in
      box_cong (counts l d (suc m)) (λ x. level_step m x (l - suc m))
      ∙ box_add (counts l d (suc m)) _ _
      ∙ ap (λ (s : ℕ). of_level_sum (suc m) + s)
      (sym (box_double (counts l d (suc m)) (λ y. bit (opened t m y (suc (l - suc m))) * total t v m y))
      ∙ ap (λ (n : Pos). box_sum n (λ y. bit (opened t m y (suc (l - suc m))) * total t v m y)) (fun_ext (λ a. sym (count_half l (d a) m h)))
      ∙ ap (λ (k : ℕ). box_sum (counts l d m) (λ y. bit (opened t m y k) * total t v m y)) e
      ∙ levels_below fin m (omega arith))

  -- a sum over the leaves, level by level
  pub leaves_levels : ((x : Pos) → t 0 x ≡ false) → box_sum d (total t v l) ≡ level_sums l
  unfolding opened
  leaves_levels fin =
      let e : l - l ≡ 0 = omega arith in
      let n : counts l d l ≡ d = fun_ext (λ a. ap (λ (k : ℕ). d a * 2 ^ k) e ∙ omega arith) in
      box_cong d (λ x. let z : total t v l x ≡ 1 * total t v l x = omega arith in z)
      ∙ ap₂ (λ (k : ℕ) (n : Pos). box_sum n (λ x. bit (opened t l x k) * total t v l x)) (sym e) (sym n)
      ∙ levels_below fin l (omega arith)
