-- The Rust's shell test is `Gives`: a finest octant one step outside a leaf is covered by a leaf more than a level finer exactly when the leaf
-- touches such a leaf. Assumes nothing.
use mathlib.Core.Path.{◌≡◌, refl, ap, sym, ◌∙◌, subst, fun_ext}
use mathlib.Core.Bool.{Bool, true, false, cond, not, ◌||◌, false≢true}
use mathlib.Core.Logic.{◌⊎◌, inl, inr, ⊎_elim, ◌↔◌}
use Prim.Native.Nat.{ℕ, zero, suc, ◌+◌, ◌*◌, ◌-◌, ◌/◌, ◌^◌, ◌≤◌, ◌<◌}
use native.Mathlib.Omega.{arith}
use native.Mathlib.Nat.{div-div-eq-div-mul, div-one, pow-zero, pow-suc, mul-le-mul_right}
use native.Mathlib.Decide.{dec_le}
use borrow.Author.Tests.{ltb-true, lt-ltb, le-leb}
use lib.Arith.{digits_div}
use lib.Dec.{ltb}
use lib.Pow.{pow-add, pow_pos}
use Rattle.lists.specs.Tests.{any}
use Rattle.lists.proofs.Bools.{and_both, both_and, and_left, and_right, or_left, or_right, or_cases, clash}
use Rattle.lists.proofs.Any.{any_some, some_any}
use Rattle.space.specs.Space.{Axis, ax, ay, az, Pos, pos, next, frame}
use Rattle.space.proofs.Space.{on_all, frame_all, frame_eta}
use Rattle.octants.specs.Oct.{Tree, In, counts, within, parent, Touch, Octree, Leaf}
use Rattle.octants.specs.Rounds.{Gives}
use Rattle.octants.proofs.Near.{within_in, in_within}
use Rattle.octants.proofs.Least.{parent_inside, touch_up}
use Rattle.octree_cells.specs.Cells.{Cover, none, leaf, up, descent, covering, at_most}
use Rattle.octree_cells.specs.Leaf.{opened, IsLeaf}
use Rattle.octree_cells.specs.Shell.{outside, finer_than, too_fine, side_at, shell_on, shell_splits}
use Rattle.octree_cells.proofs.Opened.{own_opened}
use Rattle.octree_cells.proofs.Local.{at_most_lem}
use Rattle.octree_cells.proofs.OneLeaf.{is_leaf_lem}

-- ---- ancestors

pub up_zero : (y : Pos) → up 0 y ≡ y
up_zero y = fun_ext (λ a. ap (λ (v : ℕ). y a / v) (pow-zero 2) ∙ div-one (y a))

up_up : (j k : ℕ) (y : Pos) → up j (up k y) ≡ up (k + j) y
up_up j k y = fun_ext (λ a. div-div-eq-div-mul (y a) (2 ^ k) (2 ^ j) ∙ ap (λ (v : ℕ). y a / v) (sym (pow-add 2 k j)))

parent_up : (k : ℕ) (y : Pos) → parent (up k y) ≡ up (suc k) y
parent_up k y = fun_ext (λ a. div-div-eq-div-mul (y a) (2 ^ k) 2 ∙ ap (λ (v : ℕ). y a / v) (twice k))
  where
    twice : (k : ℕ) → 2 ^ k * 2 ≡ 2 ^ suc k
    twice k = rw pow-suc (omega arith)

-- ---- what covers a finest octant

record Over (l : ℕ) (t : Tree) (y : Pos) (n : ℕ) (z : Pos) : Type 0 where
  fits : n ≤ l
  place : z ≡ up n y
  whole : t n z ≡ false
  under : n < l → t (suc n) (parent z) ≡ true

module _ (l : ℕ) (d : Pos) (t : Tree) (y : Pos) where
  -- from k levels up, where what stands above is split
  cover_leaf : (k : ℕ) → k ≤ l → (k < l → t (suc k) (up (suc k) y) ≡ true) → (n : ℕ) (z : Pos) → descent t 0 y k ≡ leaf n z → Over l t y n z
  unfolding descent
  cover_leaf zero f s n z e = go (t 0 y) refl e
    where
      go : (b : Bool) → t 0 y ≡ b → cond b none (leaf 0 y) ≡ leaf n z → Over l t y n z
      go true h g = let no : ◌≡◌ {A = ℕ} 0 1 = cc in absurd (omega arith)
      go false h g =
          let en : 0 ≡ n = cc in
          let ez : y ≡ z = cc in
          subst (λ (n : ℕ). Over l t y n z) en
          (subst (Over l t y 0) ez
          (record { fits = omega arith; place = sym (up_zero y); whole = h; under = λ i. ap (t 1) (ap parent (sym (up_zero y)) ∙ parent_up 0 y) ∙ s i }))
  cover_leaf (suc k) f s n z e = go (λ h g. cover_leaf k (omega arith) (λ _. h) n z g) (t (0 + suc k) (up (suc k) y)) refl e
    where
      i : 0 + suc k ≡ suc k
      i = omega arith

      go : (t (suc k) (up (suc k) y) ≡ true → descent t 0 y k ≡ leaf n z → Over l t y n z)
          → (b : Bool) → t (0 + suc k) (up (suc k) y) ≡ b → cond b (descent t 0 y k) (leaf (0 + suc k) (up (suc k) y)) ≡ leaf n z → Over l t y n z
      go c true h g = c (subst (λ (m : ℕ). t m (up (suc k) y) ≡ true) i h) g
      go c false h g =
          let en : 0 + suc k ≡ n = cc in
          let ez : up (suc k) y ≡ z = cc in
          subst (λ (n : ℕ). Over l t y n z) (sym i ∙ en)
          (subst (Over l t y (suc k)) ez
          (record {
            fits = f;
            place = refl;
            whole = subst (λ (m : ℕ). t m (up (suc k) y) ≡ false) i h;
            under = λ j. ap (t (suc (suc k))) (parent_up (suc k) y) ∙ s j;
          }))

  up_in : (n : ℕ) → n ≤ l → In l d 0 y → In l d n (up n y)
  up_in zero f h = subst (In l d 0) (sym (up_zero y)) h
  up_in (suc n) f h = subst (In l d (suc n)) (parent_up n y) (parent_inside l d n (up n y) f (up_in n (omega arith) h))

  touch_all : (m : ℕ) (x : Pos) (n : ℕ) → Touch m x 0 y → Touch m x n (up n y)
  touch_all m x zero h = subst (Touch m x 0) (sym (up_zero y)) h
  touch_all m x (suc n) h = subst (Touch m x (suc n)) (parent_up n y) (touch_up l d m x n (up n y) (touch_all m x n h))

  -- and that of an octant in a leaf is the leaf
  leaf_covers : (j n : ℕ) → opened t n (up n y) j ≡ true → t n (up n y) ≡ false → descent t 0 y (n + j) ≡ leaf n (up n y)
  unfolding descent opened
  leaf_covers zero zero o w = rw (ap (t 0) (sym (up_zero y)) ∙ w) (ap (leaf 0) (sym (up_zero y)))
  leaf_covers zero (suc n) o w =
      let i : 0 + suc n ≡ suc n = omega arith in
      let k : suc n + 0 ≡ suc n = omega arith in
      ap (descent t 0 y) k
      ∙ ap (λ (b : Bool). cond b (descent t 0 y n) (leaf (0 + suc n) (up (suc n) y))) (ap (λ (m : ℕ). t m (up (suc n) y)) i ∙ w)
      ∙ ap (λ (m : ℕ). leaf m (up (suc n) y)) i
  leaf_covers (suc j) n o w =
      let b = and_both (t (n + suc j) (up (suc j) (up n y))) (opened t n (up n y) j) o in
      let k : n + suc j ≡ suc (n + j) = omega arith in
      let i : 0 + suc (n + j) ≡ n + suc j = omega arith in
      let p : up (suc (n + j)) y ≡ up (suc j) (up n y) = ap (λ (v : ℕ). up v y) (sym k) ∙ sym (up_up (suc j) n y) in
      let h : t (0 + suc (n + j)) (up (suc (n + j)) y) ≡ true = ap (λ (m : ℕ). t m (up (suc (n + j)) y)) i ∙ ap (t (n + suc j)) p ∙ b.0 in
      ap (descent t 0 y) k
      ∙ ap (λ (c : Bool). cond c (descent t 0 y (n + j)) (leaf (0 + suc (n + j)) (up (suc (n + j)) y))) h
      ∙ leaf_covers j n b.1 w

opened_at : (t : Tree) (n : ℕ) (y : Pos) (k j : ℕ) → j < k → opened t n y k ≡ true → t (n + suc j) (up (suc j) y) ≡ true
unfolding opened
opened_at t n y zero j f h = absurd (omega arith)
opened_at t n y (suc k) j f h = go (λ g. opened_at t n y k j g (and_right (t (n + suc k) (up (suc k) y)) (opened t n y k) h)) (dec_le k j)
  where
    go : (j < k → t (n + suc j) (up (suc j) y) ≡ true) → Dec (k ≤ j) → t (n + suc j) (up (suc j) y) ≡ true
    go c (yes p) =
        let e : k ≡ j = omega arith in
        subst (λ (j : ℕ). t (n + suc j) (up (suc j) y) ≡ true) e (and_left (t (n + suc k) (up (suc k) y)) (opened t n y k) h)
    go c (no p) = c (omega arith)

-- ---- a place of the shell

-- it is one step outside at most
within_shell : (m : ℕ) (x p : Pos) → ((a : Axis) → 1 ≤ x a * 2 ^ m + p a) → ((a : Axis) → p a ≤ 2 ^ m + 1) → Touch m x 0 (outside m x p)
within_shell m x p f g a =
    let h : 1 ≤ x a * 2 ^ m + p a = f a in
    let k : p a ≤ 2 ^ m + 1 = g a in
    (omega arith, omega arith)

module _ (l : ℕ) (d : Pos) (t : Tree) (m : ℕ) (x : Pos) (whole : Leaf l d t m x) where
  -- a finest octant of the shell under a leaf that is too fine
  place_gives : (p : Pos) → ((a : Axis) → p a ≤ 2 ^ m + 1) → too_fine l d t m x p ≡ true → Gives l d t m x
  place_gives p g h =
      let b = and_both (at_most (pos 1 1 1) (λ a. x a * 2 ^ m + p a)) (finer_than m (covering l d t 0 y)) h in
      go (λ a. on_all (λ a. 1 ≤ x a * 2 ^ m + p a) (low b.0 ax) (low b.0 ay) (low b.0 az) a) (within (counts l d 0) y) refl b.1
    where
      y : Pos
      y = outside m x p

      low : at_most (pos 1 1 1) (λ a. x a * 2 ^ m + p a) ≡ true → (a : Axis) → pos 1 1 1 a ≤ x a * 2 ^ m + p a
      low e = at_most_lem l d t (pos 1 1 1) (λ a. x a * 2 ^ m + p a) e

      found : ((a : Axis) → 1 ≤ x a * 2 ^ m + p a) → In l d 0 y → (c : Cover) → descent t 0 y l ≡ c → finer_than m c ≡ true → Gives l d t m x
      found f q none e k = absurd (false≢true k)
      found f q (leaf n z) e k =
          let o = cover_leaf l d t y l (omega arith) (λ i. absurd (omega arith)) n z e in
          record {
            leaf = whole;
            n = n;
            y = z;
            fine = record { fits = o.fits; inside = subst (In l d n) (sym o.place) (up_in l d t y n o.fits q); whole = o.whole; under = o.under };
            touch = subst (Touch m x n) (sym o.place) (touch_all l d t y m x n (within_shell m x p f g));
            far = let r : n + 1 < m = ltb-true (n + 1) m k in omega arith;
          }

      go : ((a : Axis) → 1 ≤ x a * 2 ^ m + p a) → (b : Bool) → within (counts l d 0) y ≡ b → finer_than m (cond b (descent t 0 y (l - 0)) none) ≡ true → Gives l d t m x
      go f false w k = absurd (false≢true k)
      go f true w k =
          let i : l - 0 ≡ l = omega arith in
          found f (within_in (counts l d 0) y w) (descent t 0 y l) refl (subst (λ (j : ℕ). finer_than m (descent t 0 y j) ≡ true) i k)

  side_few : (s : ℕ) → side_at m s ≤ 2 ^ m + 1
  side_few zero = omega arith
  side_few (suc s) = omega arith

  axis_gives : (a : Axis) → shell_on l d t m x a ≡ true → Gives l d t m x
  axis_gives a h =
      let s = any_some 2 (λ s. any (2 ^ m + 2) (λ u. any (2 ^ m + 2) (λ v. too_fine l d t m x (frame a (side_at m s) u v)))) h in
      let u = any_some (2 ^ m + 2) (λ u. any (2 ^ m + 2) (λ v. too_fine l d t m x (frame a (side_at m s.0) u v))) s.2 in
      let v = any_some (2 ^ m + 2) (λ v. too_fine l d t m x (frame a (side_at m s.0) u.0 v)) u.2 in
      let c : ℕ = 2 ^ m + 1 in
      let hu : u.0 ≤ c = omega (arith, u.1) in
      let hv : v.0 ≤ c = omega (arith, v.1) in
      place_gives (frame a (side_at m s.0) u.0 v.0)
      (λ b. subst (λ (k : ℕ). frame a (side_at m s.0) u.0 v.0 b ≤ k) (flat a c b) (frame_all ◌≤◌ a (side_at m s.0) u.0 v.0 c c c (side_few s.0) hu hv b))
      v.2
    where
      flat : (a : Axis) (c : ℕ) (b : Axis) → frame a c c c b ≡ c
      flat ax c b = on_all (λ b. pos c c c b ≡ c) refl refl refl b
      flat ay c b = on_all (λ b. pos c c c b ≡ c) refl refl refl b
      flat az c b = on_all (λ b. pos c c c b ≡ c) refl refl refl b

  pub shell_gives : shell_splits l d t m x ≡ true → Gives l d t m x
  shell_gives h =
      let b = and_both (ltb 0 m) (shell_on l d t m x ax || shell_on l d t m x ay || shell_on l d t m x az) h in
      ⊎_elim (λ e. ⊎_elim (axis_gives ax) (axis_gives ay) (or_cases (shell_on l d t m x ax) (shell_on l d t m x ay) e)) (axis_gives az)
      (or_cases (shell_on l d t m x ax || shell_on l d t m x ay) (shell_on l d t m x az) b.1)

-- ---- a finest octant of a leaf that touches, in the shell

-- along one axis: w and v finest octants wide, at x and y
record Meeting (w v x y : ℕ) : Type 0 where
  q : ℕ
  low : x * w ≤ q + 1
  high : q ≤ x * w + w
  from : y * v ≤ q
  to : q < (y + 1) * v

meeting : (w v x y : ℕ) → 1 ≤ v → x * w ≤ (y + 1) * v → y * v ≤ (x + 1) * w → Meeting w v x y
meeting w v x y s f g = go (dec_le (x * w) (y * v))
  where
    go : Dec (x * w ≤ y * v) → Meeting w v x y
    go (yes h) = record { q = y * v; low = omega arith; high = omega arith; from = omega arith; to = omega arith }
    go (no h) = record { q = x * w - 1; low = omega arith; high = omega arith; from = omega arith; to = omega arith }

div_is : (q y v : ℕ) → y * v ≤ q → q < (y + 1) * v → q / v ≡ y
div_is q y v f g =
    let e : q ≡ y * v + (q - y * v) = omega arith in
    ap (λ (k : ℕ). k / v) e ∙ digits_div y {m = v} {r = q - y * v} (omega arith)

module _ (l : ℕ) (d : Pos) (t : Tree) (oct : Octree l d t) (m : ℕ) (x : Pos) (g : Gives l d t m x) where
  met : (a : Axis) → Meeting (2 ^ m) (2 ^ g.n) (x a) (g.y a)
  met a =
      let h = g.touch a in
      let w : ℕ = 2 ^ m in
      let v : ℕ = 2 ^ g.n in
      let f : x a * (2 * w) ≤ (g.y a + 1) * (2 * v) = h.0 in
      let k : g.y a * (2 * v) ≤ (x a + 1) * (2 * w) = h.1 in
      meeting w v (x a) (g.y a) (pow_pos g.n) (omega arith) (omega arith)

  -- the finest octant, and its place in the shell
  abbrev fine : Pos
  fine a = (met a).q

  abbrev place : Pos
  place a = (met a).q + 1 - x a * 2 ^ m

  up_fine : up g.n fine ≡ g.y
  up_fine = fun_ext (λ a. div_is (met a).q (g.y a) (2 ^ g.n) (met a).from (met a).to)

  outside_is : outside m x place ≡ fine
  outside_is = fun_ext (λ a.
      let h : x a * 2 ^ m ≤ (met a).q + 1 = (met a).low in
      omega arith)

  place_few : (a : Axis) → place a ≤ 2 ^ m + 1
  place_few a =
      let h : (met a).q ≤ x a * 2 ^ m + 2 ^ m = (met a).high in
      omega arith

  below_some : (a : Axis) → 1 ≤ x a * 2 ^ m + place a
  below_some a =
      let h : x a * 2 ^ m ≤ (met a).q + 1 = (met a).low in
      omega arith

  fine_in : In l d 0 fine
  fine_in a =
      let f : g.n ≤ l = g.fine.fits in
      let v : ℕ = 2 ^ g.n in
      let h : (met a).q < (g.y a + 1) * v = (met a).to in
      let i : g.y a < d a * 2 ^ (l - g.n) = g.fine.inside a in
      let e : l - 0 ≡ l - g.n + g.n = omega arith in
      let s : d a * 2 ^ (l - 0) ≡ d a * 2 ^ (l - g.n) * v =
      ap (λ (k : ℕ). d a * 2 ^ k) e ∙ ap (λ (k : ℕ). d a * k) (pow-add 2 (l - g.n) g.n) ∙ omega arith in
      omega (arith, mul-le-mul_right v i)

  leaf_there : IsLeaf l d t g.n g.y
  leaf_there = is_leaf_lem l d t g.n g.y oct g.fine

  open_there : opened t g.n g.y (l - g.n) ≡ true
  open_there = and_left (opened t g.n g.y (l - g.n)) (not (t g.n g.y)) (sym (own_opened t g.n g.y (l - g.n)) ∙ leaf_there.owns)

  covered : covering l d t 0 fine ≡ leaf g.n g.y
  covered =
      let f : g.n ≤ l = g.fine.fits in
      let e : l - 0 ≡ g.n + (l - g.n) = omega arith in
      ap (λ (b : Bool). cond b (descent t 0 fine (l - 0)) none) (in_within (counts l d 0) fine fine_in)
      ∙ ap (descent t 0 fine) e
      ∙ leaf_covers l d t fine (l - g.n) g.n
      (subst (λ (z : Pos). opened t g.n z (l - g.n) ≡ true) (sym up_fine) open_there)
      (subst (λ (z : Pos). t g.n z ≡ false) (sym up_fine) g.fine.whole)
      ∙ ap (leaf g.n) up_fine

  too_fine_lem : too_fine l d t m x place ≡ true
  too_fine_lem = both_and (at_most (pos 1 1 1) (λ a. x a * 2 ^ m + place a)) (finer_than m (covering l d t 0 (outside m x place)))
      (both_and _ _ (both_and _ _ (le-leb 1 _ (below_some ax)) (le-leb 1 _ (below_some ay))) (le-leb 1 _ (below_some az)))
      (ap (λ (y : Pos). finer_than m (covering l d t 0 y)) outside_is ∙ ap (finer_than m) covered ∙ lt-ltb (g.n + 1) m (omega (arith, g.far)))

  -- on some axis it is a step outside: else the leaf would hold it, and be split
  abbrev Out : Axis → Type 0
  Out a = (place a ≡ 0) ⊎ (place a ≡ 2 ^ m + 1)

  out_or : (a : Axis) → Out a ⊎ (fine a / 2 ^ m ≡ x a)
  out_or a = go (dec_le (x a * 2 ^ m) (met a).q) (dec_le (x a * 2 ^ m + 2 ^ m) (met a).q)
    where
      go : Dec (x a * 2 ^ m ≤ (met a).q) → Dec (x a * 2 ^ m + 2 ^ m ≤ (met a).q) → Out a ⊎ (fine a / 2 ^ m ≡ x a)
      go (no p) r = inl (inl (omega (arith, (met a).low)))
      go (yes p) (yes r) = inl (inr (omega (arith, (met a).high)))
      go (yes p) (no r) = inr (div_is (met a).q (x a) (2 ^ m) p (omega arith))

  held : ((a : Axis) → fine a / 2 ^ m ≡ x a) → t m x ≡ true
  held h =
      let f : suc g.n < m = g.far in
      let r : m ≤ l = g.leaf.fits in
      let j : ℕ = m - suc g.n in
      let e : g.n + suc j ≡ m = omega arith in
      let p : up (suc j) g.y ≡ x = ap (up (suc j)) (sym up_fine) ∙ up_up (suc j) g.n fine ∙ ap (λ (k : ℕ). up k fine) e ∙ fun_ext h in
      let s = opened_at t g.n g.y (l - g.n) j (omega arith) open_there in
      sym (ap (λ (k : ℕ). t k x) e) ∙ sym (ap (t (g.n + suc j)) p) ∙ s

  side_of : (a : Axis) → Out a → (s : ℕ) × (s < 2) × (side_at m s ≡ place a)
  side_of a (inl e) = (0, omega arith, sym e)
  side_of a (inr e) = (1, omega arith, sym e)

  on_shell : (a : Axis) → Out a → shell_on l d t m x a ≡ true
  on_shell a o =
      let s = side_of a o in
      some_any 2 (λ s. any (2 ^ m + 2) (λ u. any (2 ^ m + 2) (λ v. too_fine l d t m x (frame a (side_at m s) u v)))) s.0 s.1
      (some_any (2 ^ m + 2) (λ u. any (2 ^ m + 2) (λ v. too_fine l d t m x (frame a (side_at m s.0) u v))) (place (next a)) (omega (arith, place_few (next a)))
      (some_any (2 ^ m + 2) (λ v. too_fine l d t m x (frame a (side_at m s.0) (place (next a)) v)) (place (next (next a))) (omega (arith, place_few (next (next a))))
      (ap (λ (k : ℕ). too_fine l d t m x (frame a k (place (next a)) (place (next (next a))))) s.2
      ∙ ap (too_fine l d t m x) (frame_eta a place) ∙ too_fine_lem)))

  pub gives_shell : shell_splits l d t m x ≡ true
  gives_shell = both_and (ltb 0 m) (shell_on l d t m x ax || shell_on l d t m x ay || shell_on l d t m x az) (lt-ltb 0 m (omega (arith, g.far))) (go (out_or ax) (out_or ay) (out_or az))
    where
      go : Out ax ⊎ (fine ax / 2 ^ m ≡ x ax) → Out ay ⊎ (fine ay / 2 ^ m ≡ x ay) → Out az ⊎ (fine az / 2 ^ m ≡ x az)
          → shell_on l d t m x ax || shell_on l d t m x ay || shell_on l d t m x az ≡ true
      go (inl o) q r = or_left (shell_on l d t m x ax || shell_on l d t m x ay) (shell_on l d t m x az) (or_left (shell_on l d t m x ax) (shell_on l d t m x ay) (on_shell ax o))
      go (inr p) (inl o) r = or_left (shell_on l d t m x ax || shell_on l d t m x ay) (shell_on l d t m x az) (or_right (shell_on l d t m x ax) (shell_on l d t m x ay) (on_shell ay o))
      go (inr p) (inr q) (inl o) = or_right (shell_on l d t m x ax || shell_on l d t m x ay) (shell_on l d t m x az) (on_shell az o)
      go (inr p) (inr q) (inr r) = clash (held (on_all (λ a. fine a / 2 ^ m ≡ x a) p q r)) g.leaf.whole

-- the Rust's test of a leaf of an octree passes exactly when it touches a leaf more than a level finer
pub shell_is_gives : (l : ℕ) (d : Pos) (t : Tree) → Octree l d t → (m : ℕ) (x : Pos) → Leaf l d t m x → (shell_splits l d t m x ≡ true) ↔ Gives l d t m x
shell_is_gives l d t oct m x h = (shell_gives l d t m x h, gives_shell l d t oct m x)
