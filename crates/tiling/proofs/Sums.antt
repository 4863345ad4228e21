-- Sums over a box of places. Assumes nothing.
use mathlib.Core.Path.{◌≡◌, refl, ap, sym, ◌∙◌, fun_ext}
use Prim.Native.Nat.{ℕ, zero, suc, ◌+◌, ◌*◌, ◌<◌}
use native.Mathlib.Omega.{arith}
use Rattle.lists.specs.Runs.{sums}
use Rattle.lists.proofs.Running.{sum_same, sum_add, sum_flat}
use Rattle.space.specs.Space.{Axis, ax, ay, az, Pos, pos, Inside, next, frame}
use Rattle.space.proofs.Space.{on_all}
use Rattle.octree_cells.specs.Cells.{two, child}

-- ---- along a line

pub sum_cong : (n : ℕ) {f g : ℕ → ℕ} → ((i : ℕ) → f i ≡ g i) → sums n f 0 ≡ sums n g 0
sum_cong n h = ap (λ (f : ℕ → ℕ). sums n f 0) (fun_ext h)

-- equal below n is enough
pub sum_cong_in : (n : ℕ) {f g : ℕ → ℕ} → ((i : ℕ) → i < n → f i ≡ g i) → sums n f 0 ≡ sums n g 0
sum_cong_in n {f} {g} h = sum_same n f g 0 (λ j a b. h j (omega arith))

-- the last number by itself
pub sum_last : (n : ℕ) (f : ℕ → ℕ) (i : ℕ) → sums (suc n) f i ≡ f (i + n) + sums n f i
unfolding sums
sum_last zero f i = let e : i ≡ i + 0 = omega arith in ap (λ (k : ℕ). f k + 0) e
sum_last (suc n) f i =
    let e : suc i + n ≡ i + suc n = omega arith in
    omega (arith, sum_last n f (suc i), ap f e)

-- counted from one further on
pub sum_next : (n : ℕ) (f : ℕ → ℕ) (i : ℕ) → sums n f (suc i) ≡ sums n (λ j. f (suc j)) i
unfolding sums
sum_next zero f i = refl
sum_next (suc n) f i = ap (λ (s : ℕ). f (suc i) + s) (sum_next n f (suc i))

sum_swap : (n m : ℕ) (f : ℕ → ℕ → ℕ) (i : ℕ) → sums n (λ j. sums m (f j) 0) i ≡ sums m (λ k. sums n (λ j. f j k) i) 0
unfolding sums
sum_swap zero m f i = sym (sum_flat m 0 0 ∙ omega arith)
sum_swap (suc n) m f i = ap (λ (s : ℕ). sums m (f i) 0 + s) (sum_swap n m f (suc i)) ∙ sym (sum_add m (f i) (λ k. sums n (λ j. f j k) (suc i)) 0)

sum_double : (n : ℕ) (f : ℕ → ℕ) (i : ℕ) → sums (2 * n) f (2 * i) ≡ sums n (λ j. sums 2 (λ o. f (2 * j + o)) 0) i
unfolding sums
sum_double zero f i = refl
sum_double (suc n) f i =
    let e : 2 * suc n ≡ suc (suc (2 * n)) = omega arith in
    let e0 : 2 * i ≡ 2 * i + 0 = omega arith in
    let e1 : suc (2 * i) ≡ 2 * i + 1 = omega arith in
    let e2 : suc (suc (2 * i)) ≡ 2 * suc i = omega arith in
    ap (λ (k : ℕ). sums k f (2 * i)) e
    ∙ omega (arith, ap f e0, ap f e1, ap (sums (2 * n) f) e2, sum_double n f (suc i))

-- ---- over a box

unfoldable pub box_sum : Pos → (Pos → ℕ) → ℕ
box_sum n g = sums (n az) (λ k. sums (n ay) (λ j. sums (n ax) (λ i. g (pos i j k)) 0) 0) 0

pub box_cong : (n : Pos) {f g : Pos → ℕ} → ((x : Pos) → f x ≡ g x) → box_sum n f ≡ box_sum n g
box_cong n h = ap (box_sum n) (fun_ext h)

pub box_cong_in : (n : Pos) {f g : Pos → ℕ} → ((x : Pos) → Inside n x → f x ≡ g x) → box_sum n f ≡ box_sum n g
unfolding box_sum
box_cong_in n h = sum_cong_in (n az) (λ k r. sum_cong_in (n ay) (λ j q. sum_cong_in (n ax) (λ i p. h (pos i j k) (on_all (λ a. pos i j k a < n a) p q r))))

pub box_add : (n : Pos) (f g : Pos → ℕ) → box_sum n (λ x. f x + g x) ≡ box_sum n f + box_sum n g
unfolding box_sum
box_add n f g =
    sum_cong (n az) (λ k. sum_cong (n ay) (λ j. sum_add (n ax) (λ i. f (pos i j k)) (λ i. g (pos i j k)) 0)
    ∙ sum_add (n ay) (λ j. sums (n ax) (λ i. f (pos i j k)) 0) (λ j. sums (n ax) (λ i. g (pos i j k)) 0) 0)
    ∙ sum_add (n az) _ _ 0

-- one number for each place
pub box_flat : (n : Pos) (c : ℕ) → box_sum n (λ x. c) ≡ n az * (n ay * (n ax * c))
unfolding box_sum
box_flat n c =
    sum_cong (n az) (λ k. sum_cong (n ay) (λ j. sum_flat (n ax) c 0) ∙ sum_flat (n ay) (n ax * c) 0) ∙ sum_flat (n az) (n ay * (n ax * c)) 0

-- a box of twice as many along each axis is a box of boxes of two
pub box_double : (n : Pos) (g : Pos → ℕ) → box_sum (λ a. 2 * n a) g ≡ box_sum n (λ x. box_sum two (λ o. g (child x o)))
unfolding box_sum
box_double n g =
    sum_double (n az) _ 0
    ∙ sum_cong (n az) (λ k. sum_cong 2 (λ c. plane (2 * k + c)) ∙ sum_swap 2 (n ay) _ 0
    ∙ sum_cong (n ay) (λ j. sum_swap 2 (n ax) _ 0))
  where
    row : (j k : ℕ) → sums (2 * n ax) (λ i. g (pos i j k)) 0 ≡ sums (n ax) (λ i. sums 2 (λ a. g (pos (2 * i + a) j k)) 0) 0
    row j k = sum_double (n ax) _ 0

    plane : (k : ℕ) → sums (2 * n ay) (λ j. sums (2 * n ax) (λ i. g (pos i j k)) 0) 0
        ≡ sums (n ay) (λ j. sums (n ax) (λ i. sums 2 (λ b. sums 2 (λ a. g (pos (2 * i + a) (2 * j + b) k)) 0) 0) 0) 0
    plane k =
        sum_double (n ay) _ 0
        ∙ sum_cong (n ay) (λ j. sum_cong 2 (λ b. row (2 * j + b) k) ∙ sum_swap 2 (n ax) _ 0)

-- the same sum with the lines along axis a innermost
pub box_turn : (a : Axis) (n : Pos) (g : Pos → ℕ)
    → box_sum n g ≡ sums (n (next (next a))) (λ w. sums (n (next a)) (λ v. sums (n a) (λ u. g (frame a u v w)) 0) 0) 0
unfolding box_sum
box_turn ax n g = refl
box_turn ay n g = sum_cong (n az) (λ k. sum_swap (n ay) (n ax) (λ j i. g (pos i j k)) 0) ∙ sum_swap (n az) (n ax) _ 0
box_turn az n g = sum_swap (n az) (n ay) _ 0 ∙ sum_cong (n ay) (λ j. sum_swap (n az) (n ax) (λ k i. g (pos i j k)) 0)
