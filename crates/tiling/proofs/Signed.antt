-- Laws of whole numbers with a sign, each told as the difference of two without one. Assumes nothing.
use mathlib.Core.Path.{◌≡◌, refl, sym, ap, ap₂, ◌∙◌, subst}
use mathlib.Core.Logic.{◌⊎◌, inl, inr}
use Prim.Native.Nat.{ℕ, zero, suc, ◌+◌, ◌*◌, ◌-◌, ◌≤◌, ◌<◌}
use native.Mathlib.Omega.{arith}
use borrow.Author.Tests.{lt-ltb, le-ltb}
use lib.IntN.{ℤ, pos, negsuc, neg_ℤ, nat_abs, sub_ℕ, ◌+ℤ◌, ◌-ℤ◌, ◌*ℤ◌}
use Rattle.lists.proofs.Cases.{lt_or}

-- ---- p - n, which sub_ℕ p n is

is_pos : (p n k : ℕ) → p ≡ n + k → sub_ℕ p n ≡ pos k
is_pos p n k e =
    let f : p - n ≡ k = omega arith in
    rw (le-ltb p n (omega arith), f) refl

is_negsuc : (p n k : ℕ) → n ≡ p + suc k → sub_ℕ p n ≡ negsuc k
is_negsuc p n k e =
    let f : n - suc p ≡ k = omega arith in
    rw (lt-ltb p n (omega arith), f) refl

data Signed : ℕ → ℕ → Type 0 where
  up : (n k : ℕ) → Signed (n + k) n
  down : (p k : ℕ) → Signed p (p + suc k)

signed : (p n : ℕ) → Signed p n
signed p n = go (lt_or p n)
  where
    go : (p < n) ⊎ (n ≤ p) → Signed p n
    go (inl h) = let e : p + suc (n - suc p) ≡ n = omega arith in subst (Signed p) e (down p (n - suc p))
    go (inr h) = let e : n + (p - n) ≡ p = omega arith in subst (λ (q : ℕ). Signed q n) e (up n (p - n))

-- two differences of the same size and sign are one
pub sub_same : (p n q m : ℕ) → p + m ≡ q + n → sub_ℕ p n ≡ sub_ℕ q m
sub_same p n q m = go p n (signed p n)
  where
    go : (p n : ℕ) → Signed p n → p + m ≡ q + n → sub_ℕ p n ≡ sub_ℕ q m
    go _ _ (up n k) e = is_pos (n + k) n k refl ∙ sym (is_pos q m k (omega arith))
    go _ _ (down p k) e = is_negsuc p (p + suc k) k refl ∙ sym (is_negsuc q m k (omega arith))

pub add_sub : (p n q m : ℕ) → sub_ℕ p n +ℤ sub_ℕ q m ≡ sub_ℕ (p + q) (n + m)
add_sub p n q m = go p n q m (signed p n) (signed q m)
  where
    go : (p n q m : ℕ) → Signed p n → Signed q m → sub_ℕ p n +ℤ sub_ℕ q m ≡ sub_ℕ (p + q) (n + m)
    go _ _ _ _ (up n k) (up m j) = rw (is_pos (n + k) n k refl, is_pos (m + j) m j refl) (sym (is_pos (n + k + (m + j)) (n + m) (k + j) (omega arith)))
    go _ _ _ _ (up n k) (down q j) = rw (is_pos (n + k) n k refl, is_negsuc q (q + suc j) j refl) (sub_same k (suc j) (n + k + q) (n + (q + suc j)) (omega arith))
    go _ _ _ _ (down p k) (up m j) = rw (is_negsuc p (p + suc k) k refl, is_pos (m + j) m j refl) (sub_same j (suc k) (p + (m + j)) (p + suc k + m) (omega arith))
    go _ _ _ _ (down p k) (down q j) = rw (is_negsuc p (p + suc k) k refl, is_negsuc q (q + suc j) j refl) (sym (is_negsuc (p + q) (p + suc k + (q + suc j)) (suc (k + j)) (omega arith)))

pub neg_sub : (p n : ℕ) → neg_ℤ (sub_ℕ p n) ≡ sub_ℕ n p
neg_sub p n = go p n (signed p n)
  where
    back : (n k : ℕ) → neg_ℤ (pos k) ≡ sub_ℕ n (n + k)
    back n zero = sym (is_pos n (n + 0) 0 (omega arith))
    back n (suc k) = sym (is_negsuc n (n + suc k) k refl)

    go : (p n : ℕ) → Signed p n → neg_ℤ (sub_ℕ p n) ≡ sub_ℕ n p
    go _ _ (up n k) = rw (is_pos (n + k) n k refl) (back n k)
    go _ _ (down p k) = rw (is_negsuc p (p + suc k) k refl) (sym (is_pos (p + suc k) p (suc k) refl))

pub minus_sub : (p n q m : ℕ) → sub_ℕ p n -ℤ sub_ℕ q m ≡ sub_ℕ (p + m) (n + q)
minus_sub p n q m = ap (λ (z : ℤ). sub_ℕ p n +ℤ z) (neg_sub q m) ∙ add_sub p n m q

pub mul_sub : (p n q m : ℕ) → sub_ℕ p n *ℤ sub_ℕ q m ≡ sub_ℕ (p * q + n * m) (p * m + n * q)
mul_sub p n q m = go p n q m (signed p n) (signed q m)
  where
    neg_pos : (k : ℕ) → neg_ℤ (pos k) ≡ sub_ℕ 0 k
    neg_pos k = ap neg_ℤ (sym (is_pos k 0 k (omega arith))) ∙ neg_sub k 0

    go : (p n q m : ℕ) → Signed p n → Signed q m → sub_ℕ p n *ℤ sub_ℕ q m ≡ sub_ℕ (p * q + n * m) (p * m + n * q)
    go _ _ _ _ (up n k) (up m j) =
        rw (is_pos (n + k) n k refl, is_pos (m + j) m j refl) (sym (is_pos ((n + k) * (m + j) + n * m) ((n + k) * m + n * (m + j)) (k * j) (omega arith)))
    go _ _ _ _ (up n k) (down q j) =
        rw (is_pos (n + k) n k refl, is_negsuc q (q + suc j) j refl) (neg_pos (k * suc j) ∙ sub_same 0 (k * suc j) ((n + k) * q + n * (q + suc j)) ((n + k) * (q + suc j) + n * q) (omega arith))
    go _ _ _ _ (down p k) (up m j) =
        rw (is_negsuc p (p + suc k) k refl, is_pos (m + j) m j refl) (neg_pos (suc k * j) ∙ sub_same 0 (suc k * j) (p * (m + j) + (p + suc k) * m) (p * m + (p + suc k) * (m + j)) (omega arith))
    go _ _ _ _ (down p k) (down q j) =
        rw (is_negsuc p (p + suc k) k refl, is_negsuc q (q + suc j) j refl) (sym (is_pos (p * q + (p + suc k) * (q + suc j)) (p * (q + suc j) + (p + suc k) * q) (suc k * suc j) (omega arith)))

-- every whole number is a difference
abbrev over : ℤ → ℕ
over (pos k) = k
over (negsuc k) = 0

abbrev under : ℤ → ℕ
under (pos k) = 0
under (negsuc k) = suc k

as_sub : (z : ℤ) → z ≡ sub_ℕ (over z) (under z)
as_sub (pos k) = sym (is_pos k 0 k (omega arith))
as_sub (negsuc k) = sym (is_negsuc 0 (suc k) k (omega arith))

pub edge_sub : (p q : ℕ) → pos q -ℤ pos p ≡ sub_ℕ q p
edge_sub p q = ap₂ (λ (y z : ℤ). y -ℤ z) (sym (is_pos q 0 q (omega arith))) (sym (is_pos p 0 p (omega arith))) ∙ minus_sub q 0 p 0 ∙ sub_same (q + 0) (0 + p) q p (omega arith)

-- ---- h times as large

abbrev pub times : ℕ → ℤ → ℤ
times h z = pos h *ℤ z

times_sub : (h p n : ℕ) → times h (sub_ℕ p n) ≡ sub_ℕ (h * p) (h * n)
times_sub h p n = ap (λ (y : ℤ). y *ℤ sub_ℕ p n) (sym (is_pos h 0 h (omega arith))) ∙ mul_sub h 0 p n ∙ sub_same (h * p + 0 * n) (h * n + 0 * p) (h * p) (h * n) (omega arith)

-- of two numbers that are so: their product, their difference and their sum
pub times_product : (h k : ℕ) (x y : ℤ) → times h x *ℤ times k y ≡ times (h * k) (x *ℤ y)
times_product h k x y = rw (as_sub x, as_sub y) (go (over x) (under x) (over y) (under y))
  where
    go : (p n q m : ℕ) → times h (sub_ℕ p n) *ℤ times k (sub_ℕ q m) ≡ times (h * k) (sub_ℕ p n *ℤ sub_ℕ q m)
    go p n q m =
        rw (times_sub h p n, times_sub k q m, mul_sub (h * p) (h * n) (k * q) (k * m), mul_sub p n q m)
        (sub_same (h * p * (k * q) + h * n * (k * m)) (h * p * (k * m) + h * n * (k * q)) (h * k * (p * q + n * m)) (h * k * (p * m + n * q)) (omega arith)
        ∙ sym (times_sub (h * k) (p * q + n * m) (p * m + n * q)))

pub times_minus : (h : ℕ) (x y : ℤ) → times h x -ℤ times h y ≡ times h (x -ℤ y)
times_minus h x y = rw (as_sub x, as_sub y) (go (over x) (under x) (over y) (under y))
  where
    go : (p n q m : ℕ) → times h (sub_ℕ p n) -ℤ times h (sub_ℕ q m) ≡ times h (sub_ℕ p n -ℤ sub_ℕ q m)
    go p n q m =
        rw (times_sub h p n, times_sub h q m, minus_sub (h * p) (h * n) (h * q) (h * m), minus_sub p n q m)
        (sub_same (h * p + h * m) (h * n + h * q) (h * (p + m)) (h * (n + q)) (omega arith) ∙ sym (times_sub h (p + m) (n + q)))

pub times_plus : (h : ℕ) (x y : ℤ) → times h x +ℤ times h y ≡ times h (x +ℤ y)
times_plus h x y = rw (as_sub x, as_sub y) (go (over x) (under x) (over y) (under y))
  where
    go : (p n q m : ℕ) → times h (sub_ℕ p n) +ℤ times h (sub_ℕ q m) ≡ times h (sub_ℕ p n +ℤ sub_ℕ q m)
    go p n q m =
        rw (times_sub h p n, times_sub h q m, add_sub (h * p) (h * n) (h * q) (h * m), add_sub p n q m)
        (sub_same (h * p + h * q) (h * n + h * m) (h * (p + q)) (h * (n + m)) (omega arith) ∙ sym (times_sub h (p + q) (n + m)))

-- a coordinate drawn h times as large from i on
pub times_edge : (i h p q : ℕ) → pos (i + q * h) -ℤ pos (i + p * h) ≡ times h (pos q -ℤ pos p)
times_edge i h p q =
    edge_sub (i + p * h) (i + q * h) ∙ sub_same (i + q * h) (i + p * h) (h * q) (h * p) (omega arith)
    ∙ sym (ap (times h) (edge_sub p q) ∙ times_sub h q p)

-- ---- the absolute value

apart : (p n : ℕ) → nat_abs (sub_ℕ p n) ≡ (p - n) + (n - p)
apart p n = go p n (signed p n)
  where
    go : (p n : ℕ) → Signed p n → nat_abs (sub_ℕ p n) ≡ (p - n) + (n - p)
    go _ _ (up n k) = ap nat_abs (is_pos (n + k) n k refl) ∙ omega arith
    go _ _ (down p k) = ap nat_abs (is_negsuc p (p + suc k) k refl) ∙ omega arith

pub abs_neg : (z : ℤ) → nat_abs (neg_ℤ z) ≡ nat_abs z
abs_neg (pos zero) = refl
abs_neg (pos (suc k)) = refl
abs_neg (negsuc k) = refl

pub abs_mul : (x y : ℤ) → nat_abs (x *ℤ y) ≡ nat_abs x * nat_abs y
abs_mul (pos k) (pos j) = refl
abs_mul (pos k) (negsuc j) = abs_neg (pos (k * suc j))
abs_mul (negsuc k) (pos j) = abs_neg (pos (suc k * j))
abs_mul (negsuc k) (negsuc j) = refl

pub abs_plus : (x y : ℤ) → nat_abs (x +ℤ y) ≤ nat_abs x + nat_abs y
abs_plus (pos k) (pos j) = omega arith
abs_plus (pos k) (negsuc j) = omega (arith, apart k (suc j))
abs_plus (negsuc k) (pos j) = omega (arith, apart j (suc k))
abs_plus (negsuc k) (negsuc j) = omega arith

pub abs_minus : (x y : ℤ) → nat_abs (x -ℤ y) ≤ nat_abs x + nat_abs y
abs_minus x y = omega (arith, abs_plus x (neg_ℤ y), abs_neg y)

pub abs_edge : (m p q : ℕ) → p ≤ m → q ≤ m → nat_abs (pos q -ℤ pos p) ≤ m
abs_edge m p q h k = omega (arith, ap nat_abs (edge_sub p q), apart q p)
