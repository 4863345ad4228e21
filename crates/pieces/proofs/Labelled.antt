-- The definition `piece_at` is a labelling of the cells that share faces. Assumes nothing.
use mathlib.Core.Path.{◌≡◌, refl, sym, ap, subst, ◌∙◌}
use mathlib.Core.Logic.{◌⊎◌, inl, inr, ◌≢◌}
use mathlib.Core.Bool.{Bool, true, false, cond, ◌&&◌}
use mathlib.Core.List.{List}
use Prim.Native.Nat.{ℕ, zero, suc, ◌/◌, ◌≤◌, ◌<◌}
use native.Mathlib.Nat.{not-suc-le-zero}
use native.Mathlib.Omega.{arith}
use borrow.Author.Tests.{eqb-true, eq-eqb, leb-true, le-leb}
use lib.Dec.{eqb}
use lib.ListN.{length}
use Rattle.lists.specs.Tests.{any}
use Rattle.lists.specs.Appearance.{seen_of, numbers_of}
use Rattle.lists.proofs.Cases.{eq_or, lt_or}
use Rattle.lists.proofs.Bools.{and_both, both_and, bool_cases, clash}
use Rattle.lists.proofs.Any.{any_some, some_any}
use Rattle.lists.proofs.Appearing.{same_count, same_numbers, length_numbers}
use Rattle.mesh.specs.Mesh.{cells_of}
use Rattle.links.specs.Walks.{Walk, here, fore, Groups}
use Rattle.links.proofs.Walking.{walk_trans, walk_sym, walk_in, walk_same, group_joined, groups_keep}
use Rattle.face_theory.specs.Faces.{Proper, Shares}
use Rattle.face_theory.proofs.Sharing.{Touching, shares_touch, touch_shares}
use Rattle.pieces.specs.Pieces.{meets, piece_at, face_numbers, face_count, ShareFace}

-- the cell i is before the cell j, both are below n, and they have three points in common
pub record Meet (C : List ℕ) (n i j : ℕ) : Type 0 where
  pub order : i < j
  pub below : j < n
  pub meet : meets C i j ≡ true

module _ (C : List ℕ) where
  -- the cell n meets a cell of the group of m
  taken : ℕ → ℕ → Bool
  taken n m = any n (λ j. eqb (piece_at C n j) m && meets C j n)

  -- what becomes of the label of i
  data Next (n i : ℕ) : Type 0 where
    joins : (j : ℕ) → j < n → piece_at C n j ≡ piece_at C n i → meets C j n ≡ true → piece_at C (suc n) i ≡ n → Next n i
    stays : taken n (piece_at C n i) ≡ false → piece_at C (suc n) i ≡ piece_at C n i → Next n i

  next : (n i : ℕ) → Next n i
  unfolding taken piece_at
  next n i = go (bool_cases (taken n (piece_at C n i)))
    where
      go : (taken n (piece_at C n i) ≡ true) ⊎ (taken n (piece_at C n i) ≡ false) → Next n i
      go (inl t) =
          let a = any_some n (λ j. eqb (piece_at C n j) (piece_at C n i) && meets C j n) t in
          let b = and_both (eqb (piece_at C n a.0) (piece_at C n i)) (meets C a.0 n) a.2 in
          joins a.0 a.1 (eqb-true (piece_at C n a.0) (piece_at C n i) b.0) b.1 (ap (λ (x : Bool). cond x n (piece_at C n i)) t)
      go (inr f) = stays f (ap (λ (x : Bool). cond x n (piece_at C n i)) f)

  -- labels of the first n cells are below n, and those of the others their own numbers
  record Ranged (n : ℕ) : Type 0 where
    inside : (i : ℕ) → i < n → piece_at C n i < n
    outside : (i : ℕ) → n ≤ i → piece_at C n i ≡ i

  ranged : (n : ℕ) → Ranged n
  ranged zero = record { inside = λ i h. absurd (not-suc-le-zero h); outside = λ i h. unfold piece_at in refl }
  ranged (suc n) = go (ranged n)
    where
      go : Ranged n → Ranged (suc n)
      go r = record { inside = λ i h. low i h (next n i) (eq_or i n); outside = λ i h. high i h (next n i) }
        where
          low : (i : ℕ) → i < suc n → Next n i → (i ≡ n) ⊎ (i ≢ n) → piece_at C (suc n) i < suc n
          low i h (joins j b e m q) d = omega arith
          low i h (stays f q) (inl d) = omega (arith, q, r.outside i (omega arith))
          low i h (stays f q) (inr d) = omega (arith, q, r.inside i (omega arith))

          high : (i : ℕ) → suc n ≤ i → Next n i → piece_at C (suc n) i ≡ i
          high i h (joins j b e m q) = absurd (omega (arith, e, r.inside j b, r.outside i (omega arith)))
          high i h (stays f q) = q ∙ r.outside i (omega arith)

  -- the cell n keeps its number
  own : (n : ℕ) → piece_at C (suc n) n ≡ n
  own n = go (next n n)
    where
      go : Next n n → piece_at C (suc n) n ≡ n
      go (joins j b e m q) = q
      go (stays f q) = q ∙ (ranged n).outside n (omega arith)

  -- a cell that it meets gets it
  met : (n i : ℕ) → i < n → meets C i n ≡ true → piece_at C (suc n) i ≡ n
  unfolding taken
  met n i h m = go (next n i)
    where
      hit : taken n (piece_at C n i) ≡ true
      hit =
          some_any n (λ j. eqb (piece_at C n j) (piece_at C n i) && meets C j n) i h
          (both_and (eqb (piece_at C n i) (piece_at C n i)) (meets C i n) (eq-eqb (piece_at C n i) (piece_at C n i) refl) m)

      go : Next n i → piece_at C (suc n) i ≡ n
      go (joins j b e k q) = q
      go (stays f q) = clash hit f

  -- cells with one label keep one
  alike : (n i j : ℕ) → piece_at C n i ≡ piece_at C n j → piece_at C (suc n) i ≡ piece_at C (suc n) j
  unfolding taken piece_at
  alike n i j e = ap (λ (m : ℕ). cond (taken n m) n m) e

  widen : (n i j : ℕ) → Meet C n i j → Walk (Meet C (suc n)) i j
  widen n i j m = fore (record { order = m.order; below = omega (arith, m.below); meet = m.meet }) here

  labelling : (n : ℕ) → Groups (Meet C n) (piece_at C n)
  labelling zero = record {
    walk = λ i. subst (Walk (Meet C 0) i) (sym ((ranged 0).outside i (omega arith))) here;
    same = λ i j m. absurd (not-suc-le-zero m.below);
  }
  labelling (suc n) = go (labelling n)
    where
      go : Groups (Meet C n) (piece_at C n) → Groups (Meet C (suc n)) (piece_at C (suc n))
      go l = record { walk = λ i. walk' i (next n i); same = λ i j m. same' i j m (lt_or j n) }
        where
          old : (i : ℕ) → Walk (Meet C (suc n)) i (piece_at C n i)
          old i = walk_in (widen n) (l.walk i)

          walk' : (i : ℕ) → Next n i → Walk (Meet C (suc n)) i (piece_at C (suc n) i)
          walk' i (stays f q) = subst (Walk (Meet C (suc n)) i) (sym q) (old i)
          walk' i (joins j b e m q) =
              subst (Walk (Meet C (suc n)) i) (sym q)
              (walk_trans (subst (Walk (Meet C (suc n)) i) (sym e) (old i))
              (walk_trans (walk_sym (old j)) (fore (record { order = b; below = omega arith; meet = m }) here)))

          same' : (i j : ℕ) → Meet C (suc n) i j → (j < n) ⊎ (n ≤ j) → piece_at C (suc n) i ≡ piece_at C (suc n) j
          same' i j m (inl h) = alike n i j (l.same i j (record { order = m.order; below = h; meet = m.meet }))
          same' i j m (inr h) =
              let e : j ≡ n = omega (arith, m.below) in
              met n i (omega (arith, m.order)) (ap (meets C i) (sym e) ∙ m.meet) ∙ sym (ap (piece_at C (suc n)) e ∙ own n)

-- ---- proper cells

module _ (C : List ℕ) (proper : Proper C) where
  -- to share a face is mutual
  mutual_faces : (q r : ℕ) → ShareFace C q r → ShareFace C r q
  mutual_faces q r s = record { q_in = s.r_in; r_in = s.q_in; shares = turn (shares_touch C proper q r s.q_in s.shares) }
    where
      turn : Touching C q r → Shares C r q
      turn t =
          subst (λ (k : ℕ). Shares C k q) t.of_other
          (subst (λ (k : ℕ). Shares C (t.other / 4) k) t.of_one
          (touch_shares C t.one t.other (sym t.meet)))

  pub pieces_labelled : Groups (ShareFace C) (piece_at C (cells_of C))
  unfolding meets
  pieces_labelled = groups_keep (Meet C (cells_of C)) (ShareFace C) (piece_at C (cells_of C)) (labelling C (cells_of C)) there same'
    where
      there : (q r : ℕ) → Meet C (cells_of C) q r → Walk (ShareFace C) q r
      there q r m =
          let s : ShareFace C q r = record { q_in = omega (arith, m.order, m.below); r_in = m.below; shares = leb-true 3 _ m.meet } in
          fore s here

      up : (q r : ℕ) → ShareFace C q r → q < r → piece_at C (cells_of C) q ≡ piece_at C (cells_of C) r
      up q r s h = (labelling C (cells_of C)).same q r (record { order = h; below = s.r_in; meet = le-leb 3 _ s.shares })

      same' : (q r : ℕ) → ShareFace C q r → piece_at C (cells_of C) q ≡ piece_at C (cells_of C) r
      same' q r s = go (lt_or q r) (lt_or r q)
        where
          go : (q < r) ⊎ (r ≤ q) → (r < q) ⊎ (q ≤ r) → piece_at C (cells_of C) q ≡ piece_at C (cells_of C) r
          go (inl h) k = up q r s h
          go (inr h) (inl k) = sym (up r q (mutual_faces q r s) k)
          go (inr h) (inr k) = let e : q ≡ r = omega arith in ap (piece_at C (cells_of C)) e

  -- any labels of the groups give these numbers
  module _ (f : ℕ → ℕ) (l : Groups (ShareFace C) f) where
    -- the two labels of one cell
    Both : ℕ → ℕ → Type 0
    Both a b = (i : ℕ) × (a ≡ f i) × (b ≡ piece_at C (cells_of C) i)

    one_one : (a a' b b' : ℕ) → Both a b → Both a' b' → (a ≡ a' → b ≡ b') × (b ≡ b' → a ≡ a')
    unfolding Both
    one_one a a' b b' r s = (
      λ q. r.2 ∙ walk_same (piece_at C (cells_of C)) pieces_labelled.same (group_joined (ShareFace C) f l r.0 s.0 (sym r.1 ∙ q ∙ s.1)) ∙ sym s.2,
      λ q. r.1 ∙ walk_same f l.same (group_joined (ShareFace C) (piece_at C (cells_of C)) pieces_labelled r.0 s.0 (sym r.2 ∙ q ∙ s.2)) ∙ sym s.1,
    )

    pub numbers_are : numbers_of f (cells_of C) ≡ face_numbers C (cells_of C)
    unfolding face_numbers Both
    numbers_are = same_numbers Both one_one f (piece_at C (cells_of C)) (cells_of C) (λ i h. (i, refl, refl))

    pub count_is : length (seen_of f (cells_of C)) ≡ face_count C (cells_of C)
    unfolding face_count Both
    count_is = same_count Both one_one f (piece_at C (cells_of C)) (cells_of C) (λ i h. (i, refl, refl))

pub length_faces : (C : List ℕ) (n : ℕ) → length (face_numbers C n) ≡ n
unfolding face_numbers
length_faces C n = length_numbers (piece_at C n) n
