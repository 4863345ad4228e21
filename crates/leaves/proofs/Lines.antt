-- Boxes and octants walked one after the other. Assumes nothing.
use mathlib.Core.Path.{◌≡◌, refl, sym, ap, ap₂, ◌∙◌}
use mathlib.Core.Bool.{Bool, true, false, cond}
use mathlib.Core.List.{List, [], ◌++◌, append_assoc}
use Prim.Native.Nat.{ℕ, zero, suc, ◌+◌, ◌-◌, ◌*◌, ◌^◌, ◌≤◌, ◌<◌}
use native.Mathlib.Omega.{arith}
use native.Mathlib.Nat.{suc-add, suc-mul, zero-add, zero-mul, mul_comm, pow-succ', pow-le-pow_right, mul-le-mul}
use native.Mathlib.Numerals.{sub-one}
use lib.ListN.{length, length-append}
use Rattle.space.specs.Space.{ax, ay, az, Pos, pos}
use Rattle.space.proofs.Space.{on_all}
use Rattle.octants.specs.Oct.{Tree}
use Rattle.space.specs.Levels.{size}
use Rattle.octants.specs.Table.{slot, place}
use Rattle.octants.proofs.TableLaws.{place_slot}
use Rattle.octree_cells.specs.Cells.{down, box_down, below, child, two, over_leaves}
use Rattle.leaves.specs.Parts.{kids}

module _ {A : Type 0} where
  pub down_cong : (n : ℕ) (f g : ℕ → List A) → ((i : ℕ) → i < n → f i ≡ g i) → down n f ≡ down n g
  unfolding down
  down_cong zero f g h = refl
  down_cong (suc n) f g h = ap₂ (λ (a b : List A). a ++ b) (h n (omega arith)) (down_cong n f g (λ i q. h i (omega arith)))

  down_add : (a b : ℕ) (f : ℕ → List A) → down (a + b) f ≡ down a (λ i. f (b + i)) ++ down b f
  unfolding down
  down_add zero b f = ap (λ (n : ℕ). down n f) (zero-add b)
  down_add (suc a) b f =
      let e : a + b ≡ b + a = omega arith in
      ap (λ (n : ℕ). down n f) (suc-add a b)
      ∙ ap₂ (λ (u v : List A). u ++ v) (ap f e) (down_add a b f)
      ∙ sym (append_assoc (f (b + a)) (down a (λ i. f (b + i))) (down b f))

  down_mul : (n a : ℕ) (f : ℕ → List A) → down (n * a) f ≡ down n (λ j. down a (λ i. f (j * a + i)))
  unfolding down
  down_mul zero a f = ap (λ (n : ℕ). down n f) (zero-mul a)
  down_mul (suc n) a f =
      let e : suc n * a ≡ a + n * a = omega arith in
      ap (λ (k : ℕ). down k f) e ∙ down_add a (n * a) f
      ∙ ap (λ (v : List A). down a (λ i. f (n * a + i)) ++ v) (down_mul n a f)

  -- a box by one number: the crate's order of roots and of children
  pub box_line : (d : Pos) (f : Pos → List A) → box_down d f ≡ down (size d) (λ r. f (place d r))
  unfolding box_down
  box_line d f =
      sym
      (ap (λ (n : ℕ). down n g) (mul_comm (d ax * d ay) (d az))
      ∙ down_mul (d az) (d ax * d ay) g
      ∙ down_cong (d az) _ _ (λ k hk.
      ap (λ (n : ℕ). down n (λ q. g (k * (d ax * d ay) + q))) (mul_comm (d ax) (d ay))
      ∙ down_mul (d ay) (d ax) (λ q. g (k * (d ax * d ay) + q))
      ∙ down_cong (d ay) _ _ (λ j hj. down_cong (d ax) _ _ (λ i hi. at i j k hi hj hk))))
    where
      g : ℕ → List A
      g r = f (place d r)

      at : (i j k : ℕ) → i < d ax → j < d ay → k < d az → f (place d (k * (d ax * d ay) + (j * d ax + i))) ≡ f (pos i j k)
      at i j k p q r =
          let e : k * (d ax * d ay) + (j * d ax + i) ≡ slot d (pos i j k) = omega arith in
          ap (λ (n : ℕ). f (place d n)) e ∙ ap f (place_slot d (pos i j k) (on_all _ p q r))

  pub down_none : (n : ℕ) (f : ℕ → List A) → n ≡ 0 → down n f ≡ []
  unfolding down
  down_none zero f e = refl
  down_none (suc n) f e = absurd (omega arith)

  pub down_more : (n : ℕ) (f : ℕ → List A) → 0 < n → down n f ≡ f (n - 1) ++ down (n - 1) f
  unfolding down
  down_more zero f h = absurd (omega arith)
  down_more (suc n) f h = simp sub-one

  module _ (t : Tree) (f : ℕ → Pos → List A) where
    pub octant_leaf : (m : ℕ) (x : Pos) → t m x ≡ false → below t f m x ≡ f m x
    unfolding below
    octant_leaf zero x e = refl
    octant_leaf (suc m) x e = rw e

    pub octant_split : (m : ℕ) (x : Pos) → 0 < m → t m x ≡ true → below t f m x ≡ kids t f (m - 1) x 8
    unfolding below kids
    octant_split zero x h e = absurd (omega arith)
    octant_split (suc m) x h e = rw (e, sub-one) (box_line two (λ o. below t f m (child x o)))

    pub kids_none : (m : ℕ) (x : Pos) (n : ℕ) → n ≡ 0 → kids t f m x n ≡ []
    unfolding kids
    kids_none m x n e = down_none n _ e

    pub kids_more : (m : ℕ) (x : Pos) (n : ℕ) → 0 < n → kids t f m x n ≡ below t f m (child x (place two (n - 1))) ++ kids t f m x (n - 1)
    unfolding kids
    kids_more m x n h = down_more n _ h

    -- how much there can be
    module _ (most : ℕ) (h : (m : ℕ) (x : Pos) → length (f m x) ≤ most) where
      down_bound : (g : ℕ → List A) (b : ℕ) → ((i : ℕ) → length (g i) ≤ b) → (n : ℕ) → length (down n g) ≤ n * b
      unfolding down
      down_bound g b q zero = omega arith
      down_bound g b q (suc n) = simp (length-append, suc-mul) (omega (arith, down_bound g b q n, q n))

      below_bound : (m : ℕ) (x : Pos) → length (below t f m x) ≤ 8 ^ m * most
      unfolding below
      below_bound zero x = omega (arith, h zero x)
      below_bound (suc m) x = go (λ r. below_bound m (child x (place two r))) (t (suc m) x)
        where
          one : 1 ≤ 8 ^ suc m
          one = pow-le-pow_right {n = 8} (omega arith) {i = 0} {j = suc m} (omega arith)

          go : ((r : ℕ) → length (below t f m (child x (place two r))) ≤ 8 ^ m * most) → (b : Bool)
              → length (cond b (box_down two (λ o. below t f m (child x o))) (f (suc m) x)) ≤ 8 ^ suc m * most
          go q true =
              let e : 8 ^ suc m * most ≡ 8 * (8 ^ m * most) = rw pow-succ' (omega arith) in
              let g = down_bound (λ r. below t f m (child x (place two r))) (8 ^ m * most) q 8 in
              rw (e, box_line two (λ o. below t f m (child x o))) g
          go q false = let g : 1 * most ≤ 8 ^ suc m * most = mul-le-mul one (h_self most) in omega (arith, h (suc m) x)
            where
              h_self : (n : ℕ) → n ≤ n
              h_self n = omega arith

      pub leaves_bound : (l : ℕ) (d : Pos) → length (over_leaves l d t f) ≤ size d * (8 ^ l * most)
      leaves_bound l d =
          rw (box_line d (below t f l)) (down_bound (λ r. below t f l (place d r)) (8 ^ l * most) (λ r. below_bound l (place d r)) (size d))

    -- where each leaf gives something, so does an octree with a root
    module _ (some : (m : ℕ) (x : Pos) → 1 ≤ length (f m x)) where
      down_some : (g : ℕ → List A) → ((i : ℕ) → 1 ≤ length (g i)) → (n : ℕ) → 0 < n → 1 ≤ length (down n g)
      down_some g q n h = rw (down_more n g h) (simp length-append (omega (arith, q (n - 1))))

      below_some : (m : ℕ) (x : Pos) → 1 ≤ length (below t f m x)
      unfolding below
      below_some zero x = some zero x
      below_some (suc m) x = go (λ r. below_some m (child x (place two r))) (t (suc m) x)
        where
          go : ((r : ℕ) → 1 ≤ length (below t f m (child x (place two r)))) → (b : Bool)
              → 1 ≤ length (cond b (box_down two (λ o. below t f m (child x o))) (f (suc m) x))
          go q true = rw (box_line two (λ o. below t f m (child x o))) (down_some (λ r. below t f m (child x (place two r))) q 8 (omega arith))
          go q false = some (suc m) x

      pub leaves_some : (l : ℕ) (d : Pos) → 0 < size d → 1 ≤ length (over_leaves l d t f)
      leaves_some l d h = rw (box_line d (below t f l)) (down_some (λ r. below t f l (place d r)) (λ r. below_some l (place d r)) (size d) h)

-- where each leaf gives k of the one for each of the other, so do all
module _ {A B : Type 0} (t : Tree) (f : ℕ → Pos → List A) (g : ℕ → Pos → List B) (k : ℕ) (h : (m : ℕ) (x : Pos) → k * length (f m x) ≤ length (g m x)) where
  down_times : (n : ℕ) (p : ℕ → List A) (q : ℕ → List B) → ((i : ℕ) → k * length (p i) ≤ length (q i)) → k * length (down n p) ≤ length (down n q)
  unfolding down
  down_times zero p q e = omega arith
  down_times (suc n) p q e =
      simp length-append
      (omega (arith, e n, down_times n p q e))

  below_times : (m : ℕ) (x : Pos) → k * length (below t f m x) ≤ length (below t g m x)
  unfolding below
  below_times zero x = h zero x
  below_times (suc m) x = go (λ r. below_times m (child x (place two r))) (t (suc m) x)
    where
      go : ((r : ℕ) → k * length (below t f m (child x (place two r))) ≤ length (below t g m (child x (place two r)))) → (b : Bool)
          → k * length (cond b (box_down two (λ o. below t f m (child x o))) (f (suc m) x)) ≤ length (cond b (box_down two (λ o. below t g m (child x o))) (g (suc m) x))
      go e true = rw (box_line two (λ o. below t f m (child x o)), box_line two (λ o. below t g m (child x o))) (down_times 8 _ _ e)
      go e false = h (suc m) x

  pub leaves_times : (l : ℕ) (d : Pos) → k * length (over_leaves l d t f) ≤ length (over_leaves l d t g)
  leaves_times l d = rw (box_line d (below t f l), box_line d (below t g l)) (down_times (size d) _ _ (λ r. below_times l (place d r)))
