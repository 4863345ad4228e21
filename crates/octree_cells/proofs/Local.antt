-- In a graded octree what stands around a leaf is told by the splits of its own level and of the next.
use mathlib.Core.Path.{◌≡◌, refl, ap, ap₂, sym, ◌∙◌, subst, fun_ext}
use mathlib.Core.Bool.{Bool, true, false, cond, not, ◌&&◌, ◌||◌, and-false}
use mathlib.Core.Logic.{◌⊎◌, inl, inr, ⊎_elim}
use Prim.Native.Nat.{ℕ, zero, suc, ◌+◌, ◌*◌, ◌-◌, ◌/◌, ◌%◌, ◌≤◌, ◌<◌, min}
use native.Mathlib.Omega.{arith}
use native.Mathlib.Decide.{dec_le}
use native.Mathlib.Nat.{mul-div_cancel, mul-mod_left, two-pow-succ}
use lib.Dec.{leb}
use lib.Pow.{pow_pos}
use borrow.Author.Tests.{leb-true, le-leb, eq-eqb}
use Rattle.space.specs.Space.{Axis, ax, ay, az, Pos, pos, next, frame}
use Rattle.lists.specs.Tests.{any}
use Rattle.octants.specs.Oct.{Tree, counts, count, width, parent, In, Octree, Closed, within}
use Rattle.octants.proofs.Axis1.{Close, close_meet, child_in, child_parent}
use Rattle.lists.proofs.Bools.{and_both, both_and, bool_cases, bool_ext, clash}
use Rattle.lists.proofs.Any.{any_some, some_any}
use Rattle.space.proofs.Space.{pos_eta, frame_all, frame_eta}
use Rattle.octants.proofs.Near.{within_in, in_within}
use Rattle.octants.proofs.Least.{closed_octree, parent_inside}
use Rattle.octree_cells.specs.Cells.{corner, middle, end, none, descent, of_level, is_leaf, at_most, leaf_at, leaf_around, finer, stepped}
use Rattle.octree_cells.specs.Leaf.{own, opened}
use Rattle.octree_cells.proofs.Opened.{own_opened, opened_parent}

module _ (l : ℕ) (d : Pos) (t : Tree) where
  -- under a split octant all ancestors are split
  pub opened_under : Octree l d t → (k m : ℕ) (y : Pos) → m + k ≤ l → In l d m y → t m y ≡ true → opened t m y k ≡ true
  unfolding opened
  opened_under o zero m y h p s = refl
  opened_under o (suc k) m y h p s =
      let q : t (suc m) (parent y) ≡ true = o.closed m y (omega arith) p s in
      opened_parent t m y k
      ∙ both_and (t (suc m) (parent y)) (opened t (suc m) (parent y) k) q
      (opened_under o k (suc m) (parent y) (omega arith) (parent_inside l d m y (omega arith) p) q)

  and_known : (a b : Bool) → (a ≡ true → b ≡ true) → a && b ≡ a
  and_known true b f = f refl
  and_known false b f = refl

  -- an octant below the roots is a leaf exactly when its parent is split and it is not
  pub own_local : Octree l d t → (m : ℕ) (y : Pos) → m < l → In l d m y → own t m y (l - m) ≡ t (suc m) (parent y) && not (t m y)
  own_local o m y h p =
      let e : l - m ≡ suc (l - suc m) = omega arith in
      own_opened t m y (l - m)
      ∙ ap (λ (k : ℕ). opened t m y k && not (t m y)) e
      ∙ ap (λ (b : Bool). b && not (t m y)) (opened_parent t m y (l - suc m)
      ∙ and_known (t (suc m) (parent y)) (opened t (suc m) (parent y) (l - suc m))
      (λ q. opened_under o (l - suc m) (suc m) (parent y) (omega arith) (parent_inside l d m y h p) q))

  pub own_root : (y : Pos) → own t l y (l - l) ≡ not (t l y)
  unfolding opened
  own_root y = let e : l - l ≡ 0 = omega arith in own_opened t l y (l - l) ∙ ap (λ (k : ℕ). opened t l y k && not (t l y)) e

  pub is_own : (m : ℕ) (y : Pos) → is_leaf l d t m y ≡ within (counts l d m) y && own t m y (l - m)
  is_own m y = go (within (counts l d m) y)
    where
      go : (b : Bool) → of_level m (cond b (descent t m y (l - m)) none) ≡ b && own t m y (l - m)
      go true = refl
      go false = refl

  pub at_most_lem : (o b : Pos) → at_most o b ≡ true → (a : Axis) → o a ≤ b a
  at_most_lem o b h a = go a
    where
      on : Axis → Bool
      on a = leb (o a) (b a)

      go : (a : Axis) → o a ≤ b a
      go ax = leb-true _ _ (and_both (on ax) (on ay) (and_both (on ax && on ay) (on az) h).0).0
      go ay = leb-true _ _ (and_both (on ax) (on ay) (and_both (on ax && on ay) (on az) h).0).1
      go az = leb-true _ _ (and_both (on ax && on ay) (on az) h).1

  most_at : (o b : Pos) → ((a : Axis) → o a ≤ b a) → at_most o b ≡ true
  most_at o b h = both_and _ _ (both_and _ _ (le-leb _ _ (h ax)) (le-leb _ _ (h ay))) (le-leb _ _ (h az))

  -- the closed octant y of the level above holds the place b of a level
  abbrev pub Holds2 : Pos → Pos → Type 0
  Holds2 y b = (a : Axis) → (2 * y a ≤ b a) × (b a ≤ 2 * y a + 2)

  by_axis : (P : Axis → Type 0) → P ax → P ay → P az → (a : Axis) → P a
  by_axis P p q r ax = p
  by_axis P p q r ay = q
  by_axis P p q r az = r

  -- a leaf of level n has a corner at its place b: then a split octant of the level above holds b
  pub around_some : Octree l d t → (n : ℕ) (b : Pos) → n < l → leaf_around l d t n b ≡ true
      → (y : Pos) × (In l d (suc n) y) × (t (suc n) y ≡ true) × Holds2 y b
  around_some o n b h s =
      let rk = any_some 2 (λ k. any 2 (λ j. any 2 (λ i. leaf_at l d t n b (pos i j k)))) s in
      let rj = any_some 2 (λ j. any 2 (λ i. leaf_at l d t n b (pos i j rk.0))) rk.2 in
      let ri = any_some 2 (λ i. leaf_at l d t n b (pos i rj.0 rk.0)) rj.2 in
      let c : Pos = pos ri.0 rj.0 rk.0 in
      let z : Pos = λ a. b a - c a in
      let small : ((a : Axis) → c a < 2) = by_axis (λ a. c a < 2) ri.1 rj.1 rk.1 in
      let p = and_both (at_most c b) (is_leaf l d t n z) ri.2 in
      let q = and_both (within (counts l d n) z) (own t n z (l - n)) (sym (is_own n z) ∙ p.1) in
      let inside : In l d n z = within_in (counts l d n) z q.0 in
      let u = and_both (t (suc n) (parent z)) (not (t n z)) (sym (own_local o n z h inside) ∙ q.1) in
      (parent z, parent_inside l d n z h inside, u.0, λ a. holds (b a) (c a) (small a) (at_most_lem c b p.0 a))
    where
      holds : (b c : ℕ) → c < 2 → c ≤ b → (2 * ((b - c) / 2) ≤ b) × (b ≤ 2 * ((b - c) / 2) + 2)
      holds b c h g = (omega arith, omega arith)

  -- and back, where an unsplit octant holds b too
  pub some_around : Closed l d t → (n : ℕ) (b x y : Pos) → n < l → In l d (suc n) x → t (suc n) x ≡ false → Holds2 x b
      → In l d (suc n) y → t (suc n) y ≡ true → Holds2 y b → leaf_around l d t n b ≡ true
  some_around c n b x y h p f hx q s hy =
      some_any 2 (λ k. any 2 (λ j. any 2 (λ i. leaf_at l d t n b (pos i j k)))) (o az) (o_lt az)
      (some_any 2 (λ j. any 2 (λ i. leaf_at l d t n b (pos i j (o az)))) (o ay) (o_lt ay)
      (some_any 2 (λ i. leaf_at l d t n b (pos i (o ay) (o az))) (o ax) (o_lt ax)
      (subst (λ (e : Pos). leaf_at l d t n b e ≡ true) (sym (pos_eta o))
      (both_and (at_most o b) (is_leaf l d t n z) (most_at o b o_le) (is_own n z ∙ both_and _ _ (in_within _ z z_in) z_own)))))
    where
      oct : Octree l d t
      oct = closed_octree l d t c

      o : Pos
      o a = min 1 (b a - 2 * y a)

      o_lt : (a : Axis) → o a < 2
      o_lt a = omega arith

      o_le : (a : Axis) → o a ≤ b a
      o_le a = omega arith

      z : Pos
      z a = b a - o a

      child : (a : Axis) → z a ≡ 2 * y a + (z a - 2 * y a)
      child a = omega (arith, hy a)

      bit2 : (a : Axis) → z a - 2 * y a < 2
      bit2 a = omega (arith, hy a)

      z_in : In l d n z
      z_in a = subst (λ (i : ℕ). i < count l (d a) n) (sym (child a)) (child_in l (d a) n (y a) (z a - 2 * y a) h (bit2 a) (q a))

      z_parent : parent z ≡ y
      z_parent = fun_ext (λ a. ap (λ (i : ℕ). i / 2) (child a) ∙ child_parent (y a) (z a - 2 * y a) (bit2 a))

      near : (a : Axis) → Close (x a) (z a)
      near a = (omega (arith, hx a, hy a), omega (arith, hx a, hy a))

      whole : t n z ≡ false
      whole = ⊎_elim (λ e. clash (c.push n x z h p z_in (λ a. close_meet n (x a) (z a) (near a)) e) f) (λ e. e) (bool_cases (t n z))

      z_own : own t n z (l - n) ≡ true
      z_own =
          own_local oct n z h z_in
          ∙ both_and (t (suc n) (parent z)) (not (t n z)) (ap (t (suc n)) z_parent ∙ s) (ap not whole)

-- the midpoint of two corners of an octant, in places of the level below
mid_place : (w i o p : ℕ) → ((i + o) * (2 * w) + (i + p) * (2 * w)) / 2 ≡ (2 * i + o + p) * w
mid_place w i o p = omega arith

abbrev pub between : Pos → Pos → Pos → Pos
between x o p = λ a. 2 * x a + o a + p a

module _ (l : ℕ) (d : Pos) (t : Tree) where
  pub finer_mid : (n : ℕ) (x o p : Pos)
      → finer l d t (suc n) (middle (corner (suc n) x o) (corner (suc n) x p)) ≡ leaf_around l d t n (between x o p)
  unfolding finer
  finer_mid n x o p =
      let v : Pos = middle (corner (suc n) x o) (corner (suc n) x p) in
      let e : (λ (a : Axis). v a / width n) ≡ between x o p = fun_ext (λ a. ap (λ (i : ℕ). i / width n) (place a) ∙ mul-div_cancel (between x o p a) pos_width) in
      ap₂ (λ (g : Bool) (b : Pos). g && leaf_around l d t n b)
      (both_and _ _ (both_and _ _ (eq-eqb _ 0 (on ax)) (eq-eqb _ 0 (on ay))) (eq-eqb _ 0 (on az))) e
    where
      pos_width : 0 < width n
      pos_width = omega (arith, pow_pos n)

      place : (a : Axis) → middle (corner (suc n) x o) (corner (suc n) x p) a ≡ between x o p a * width n
      place a =
          let g : width (suc n) ≡ 2 * width n = omega (arith, two-pow-succ n) in
          ap (λ (w : ℕ). ((x a + o a) * w + (x a + p a) * w) / 2) g ∙ mid_place (width n) (x a) (o a) (p a)

      on : (a : Axis) → middle (corner (suc n) x o) (corner (suc n) x p) a % width n ≡ 0
      on a = ap (λ (i : ℕ). i % width n) (place a) ∙ mul-mod_left (between x o p a) (width n)

-- on one axis: the octants i and i' of a level both hold the place p of the level below
pub data Step : ℕ → ℕ → ℕ → Type 0 where
  high : {i : ℕ} → Step i (i + 1) (2 * i + 2)
  low : {i : ℕ} → Step i (i - 1) (2 * i)
  still : {i : ℕ} → Step i i (2 * i + 1)

step_cases : {i j p : ℕ} (y : ℕ) → Step i j p → 2 * y ≤ p → p ≤ 2 * y + 2 → (y ≡ i) ⊎ (y ≡ j)
step_cases {i} y high h g = go (dec_le y i)
  where
    go : Dec (y ≤ i) → (y ≡ i) ⊎ (y ≡ i + 1)
    go (yes e) = inl (omega arith)
    go (no e) = inr (omega arith)
step_cases {i} y low h g = go (dec_le i y)
  where
    go : Dec (i ≤ y) → (y ≡ i) ⊎ (y ≡ i - 1)
    go (yes e) = inl (omega arith)
    go (no e) = inr (omega arith)
step_cases y still h g = inl (omega arith)

step_holds : {i j p : ℕ} → Step i j p → (2 * i ≤ p) × (p ≤ 2 * i + 2) × (2 * j ≤ p) × (p ≤ 2 * j + 2)
step_holds high = (omega arith, omega arith, omega arith, omega arith)
step_holds low = (omega arith, omega arith, omega arith, omega arith)
step_holds still = (omega arith, omega arith, omega arith, omega arith)

abbrev pub pick : ℕ → ℕ → ℕ → ℕ
pick zero i j = i
pick (suc c) i j = j

pick_holds : {i j p : ℕ} (c : ℕ) → Step i j p → (2 * pick c i j ≤ p) × (p ≤ 2 * pick c i j + 2)
pick_holds zero s = ((step_holds s).0, (step_holds s).1)
pick_holds (suc c) s = ((step_holds s).2, (step_holds s).3)

pick_some : {i j p : ℕ} (y : ℕ) → Step i j p → 2 * y ≤ p → p ≤ 2 * y + 2 → (c : ℕ) × (c < 2) × (pick c i j ≡ y)
pick_some y s h g = ⊎_elim (λ e. (0, omega arith, sym e)) (λ e. (1, omega arith, sym e)) (step_cases y s h g)

frame_read : (R : ℕ → ℕ → Type 0) (a : Axis) (y : Pos) (p q r : ℕ) → ((b : Axis) → R (y b) (frame a p q r b)) → R (y a) p × R (y (next a)) q × R (y (next (next a))) r
frame_read R ax y p q r h = (h ax, h ay, h az)
frame_read R ay y p q r h = (h ay, h az, h ax)
frame_read R az y p q r h = (h az, h ax, h ay)

abbrev Hold : ℕ → ℕ → Type 0
Hold y b = (2 * y ≤ b) × (b ≤ 2 * y + 2)

-- a split octant of level m, in the box
abbrev pub split_at : ℕ → Pos → Tree → ℕ → Pos → Bool
split_at l d t m y = within (counts l d m) y && t m y

-- one of the octants of level m at i or i', j or j', k or k' is split
unfoldable pub eight : ℕ → Pos → Tree → ℕ → Axis → (i i' j j' k k' : ℕ) → Bool
eight l d t m a i i' j j' k k' = any 2 (λ w. any 2 (λ v. any 2 (λ u. split_at l d t m (frame a (pick u i i') (pick v j j') (pick w k k')))))

module _ (l : ℕ) (d : Pos) (t : Tree) (n : ℕ) (a : Axis) (i i' j j' k k' p q r : ℕ) where
  pub around_eight : Closed l d t → n < l → In l d (suc n) (frame a i j k) → t (suc n) (frame a i j k) ≡ false
      → Step i i' p → Step j j' q → Step k k' r → leaf_around l d t n (frame a p q r) ≡ eight l d t (suc n) a i i' j j' k k'
  unfolding eight
  around_eight c h x f si sj sk = bool_ext (leaf_around l d t n (frame a p q r)) (eight l d t (suc n) a i i' j j' k k') to back
    where
      to : leaf_around l d t n (frame a p q r) ≡ true → eight l d t (suc n) a i i' j j' k k' ≡ true
      to s =
          let y = around_some l d t (closed_octree l d t c) n (frame a p q r) h s in
          let g = frame_read Hold a y.0 p q r y.3 in
          let u = pick_some (y.0 a) si g.0.0 g.0.1 in
          let v = pick_some (y.0 (next a)) sj g.1.0 g.1.1 in
          let w = pick_some (y.0 (next (next a))) sk g.2.0 g.2.1 in
          let e : frame a (pick u.0 i i') (pick v.0 j j') (pick w.0 k k') ≡ y.0
          = ap (λ (z : ℕ). frame a z (pick v.0 j j') (pick w.0 k k')) u.2 ∙ ap₂ (λ (z z' : ℕ). frame a (y.0 a) z z') v.2 w.2 ∙ frame_eta a y.0 in
          some_any 2 (λ w. any 2 (λ v. any 2 (λ u. split_at l d t (suc n) (frame a (pick u i i') (pick v j j') (pick w k k'))))) w.0 w.1
          (some_any 2 (λ v. any 2 (λ u. split_at l d t (suc n) (frame a (pick u i i') (pick v j j') (pick w.0 k k')))) v.0 v.1
          (some_any 2 (λ u. split_at l d t (suc n) (frame a (pick u i i') (pick v.0 j j') (pick w.0 k k'))) u.0 u.1
          (subst (λ (z : Pos). split_at l d t (suc n) z ≡ true) (sym e) (both_and _ _ (in_within _ y.0 y.1) y.2))))

      back : eight l d t (suc n) a i i' j j' k k' ≡ true → leaf_around l d t n (frame a p q r) ≡ true
      back s =
          let w = any_some 2 (λ w. any 2 (λ v. any 2 (λ u. split_at l d t (suc n) (frame a (pick u i i') (pick v j j') (pick w k k'))))) s in
          let v = any_some 2 (λ v. any 2 (λ u. split_at l d t (suc n) (frame a (pick u i i') (pick v j j') (pick w.0 k k')))) w.2 in
          let u = any_some 2 (λ u. split_at l d t (suc n) (frame a (pick u i i') (pick v.0 j j') (pick w.0 k k'))) v.2 in
          let y : Pos = frame a (pick u.0 i i') (pick v.0 j j') (pick w.0 k k') in
          let g = and_both (within (counts l d (suc n)) y) (t (suc n) y) u.2 in
          some_around l d t c n (frame a p q r) (frame a i j k) y h x f
          (frame_all Hold a i j k p q r (pick_holds 0 si) (pick_holds 0 sj) (pick_holds 0 sk))
          (within_in _ y g.0) g.1
          (frame_all Hold a _ _ _ p q r (pick_holds u.0 si) (pick_holds v.0 sj) (pick_holds w.0 sk))

-- the three octants of level m that share an edge with one that is not split: the third axis stays
or_still_1 : (x p q r : Bool) → x ≡ false → ((x || p) || (x || p)) || ((q || r) || (q || r)) ≡ p || q || r
or_still_1 x p q r h = rw h (go p q r)
  where
    go : (p q r : Bool) → (p || p) || ((q || r) || (q || r)) ≡ p || q || r
    go true q r = refl
    go false true r = refl
    go false false true = refl
    go false false false = refl

or_still_2 : (x p q r : Bool) → x ≡ false → ((x || p) || (q || r)) || ((x || p) || (q || r)) ≡ p || q || r
or_still_2 x p q r h = rw h (go p q r)
  where
    go : (p q r : Bool) → (p || (q || r)) || (p || (q || r)) ≡ p || q || r
    go true q r = refl
    go false true r = refl
    go false false true = refl
    go false false false = refl

not_split : (l : ℕ) (d : Pos) (t : Tree) (m : ℕ) (y : Pos) → t m y ≡ false → split_at l d t m y ≡ false
not_split l d t m y h = ap (λ (b : Bool). within (counts l d m) y && b) h ∙ and-false (within (counts l d m) y)

between_frame : (a : Axis) (i j k e f g e' f' g' : ℕ)
    → between (frame a i j k) (frame a e f g) (frame a e' f' g') ≡ frame a (2 * i + e + e') (2 * j + f + f') (2 * k + g + g')
between_frame ax i j k e f g e' f' g' = sym (pos_eta (between (frame ax i j k) (frame ax e f g) (frame ax e' f' g')))
between_frame ay i j k e f g e' f' g' = sym (pos_eta (between (frame ay i j k) (frame ay e f g) (frame ay e' f' g')))
between_frame az i j k e f g e' f' g' = sym (pos_eta (between (frame az i j k) (frame az e f g) (frame az e' f' g')))

step_to : (s : Bool) (i : ℕ) → Step i (stepped s i) (2 * i + end s + end s)
step_to true i = let e : 2 * i + 2 ≡ 2 * i + 1 + 1 = omega arith in subst (Step i (i + 1)) e high
step_to false i = let e : 2 * i ≡ 2 * i + 0 + 0 = omega arith in subst (Step i (i - 1)) e low

step_still : (i : ℕ) (f f' : ℕ) → f + f' ≡ 1 → Step i i (2 * i + f + f')
step_still i f f' h = let e : 2 * i + 1 ≡ 2 * i + f + f' = omega arith in subst (Step i i) e still

module _ (l : ℕ) (d : Pos) (t : Tree) (c : Closed l d t) (n : ℕ) (h : n < l) (a : Axis) (i j k : ℕ)
    (x : In l d (suc n) (frame a i j k)) (whole : t (suc n) (frame a i j k) ≡ false) where
  abbrev at3 : ℕ → ℕ → ℕ → Bool
  at3 u v w = split_at l d t (suc n) (frame a u v w)

  -- an edge along the next axis, on side s of axis a and side r of the last
  pub edge_next : (s r : Bool) (f f' : ℕ) → f + f' ≡ 1
      → finer l d t (suc n) (middle (corner (suc n) (frame a i j k) (frame a (end s) f (end r))) (corner (suc n) (frame a i j k) (frame a (end s) f' (end r))))
      ≡ at3 (stepped s i) j k || at3 i j (stepped r k) || at3 (stepped s i) j (stepped r k)
  unfolding eight any
  edge_next s r f f' g =
      finer_mid l d t n (frame a i j k) (frame a (end s) f (end r)) (frame a (end s) f' (end r))
      ∙ ap (leaf_around l d t n) (between_frame a i j k (end s) f (end r) (end s) f' (end r))
      ∙ around_eight l d t n a i (stepped s i) j j k (stepped r k) _ _ _ c h x whole (step_to s i) (step_still j f f' g) (step_to r k)
      ∙ or_still_1 (at3 i j k) (at3 (stepped s i) j k) (at3 i j (stepped r k)) (at3 (stepped s i) j (stepped r k)) (not_split l d t (suc n) (frame a i j k) whole)

  -- an edge along the last axis, on side s of axis a and side r of the next
  pub edge_last : (s r : Bool) (f f' : ℕ) → f + f' ≡ 1
      → finer l d t (suc n) (middle (corner (suc n) (frame a i j k) (frame a (end s) (end r) f)) (corner (suc n) (frame a i j k) (frame a (end s) (end r) f')))
      ≡ at3 (stepped s i) j k || at3 i (stepped r j) k || at3 (stepped s i) (stepped r j) k
  unfolding eight any
  edge_last s r f f' g =
      finer_mid l d t n (frame a i j k) (frame a (end s) (end r) f) (frame a (end s) (end r) f')
      ∙ ap (leaf_around l d t n) (between_frame a i j k (end s) (end r) f (end s) (end r) f')
      ∙ around_eight l d t n a i (stepped s i) j (stepped r j) k k _ _ _ c h x whole (step_to s i) (step_to r j) (step_still k f f' g)
      ∙ or_still_2 (at3 i j k) (at3 (stepped s i) j k) (at3 i (stepped r j) k) (at3 (stepped s i) (stepped r j) k) (not_split l d t (suc n) (frame a i j k) whole)
