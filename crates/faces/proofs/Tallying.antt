-- The walk over the runs, and what stands in the tally at the end. Assumes nothing.
use mathlib.Core.Path.{◌≡◌, refl, sym, ap, subst, ◌∙◌}
use mathlib.Core.Logic.{◌⊎◌, inl, inr, ◌≢◌}
use mathlib.Core.Bool.{true, false}
use mathlib.Core.List.{List}
use Prim.Native.Nat.{ℕ, ◌+◌, ◌-◌, ◌*◌, ◌/◌, ◌≤◌, ◌<◌, min}
use native.Mathlib.Omega.{arith}
use borrow.Author.Tests.{eqb-true, eq-eqb}
use lib.Dec.{eqb}
use lib.ListN.{length, get_or}
use lib.Seq.{ext_get_or}
use Rattle.lists.specs.Tables.{same}
use Rattle.mesh.specs.Mesh.{cells_of}
use Rattle.lists.proofs.Cases.{lt_or, eq_or}
use Rattle.lists.proofs.Listing.{same_eq, length_list, list_at}
use Rattle.lists.proofs.Lent.{below_at}
use Rattle.sorting.specs.Entries.{many, Alike}
use Rattle.passes.specs.Passes.{up_to, Ordered, TiesRise}
use Rattle.sorting.proofs.Counting.{many_at, many_find}
use Rattle.passes.proofs.Counting.{many_ext}
use Rattle.face_theory.specs.Faces.{face_of, cell_at, names, Proper, crowd}
use Rattle.lists.proofs.Bools.{bool_ext}
use Rattle.face_theory.proofs.Naming.{has_named, names_own, face_rises}
use Rattle.faces.proofs.Changes.{hits, hit_place, place_hit, changes_count, changes_same}
use Rattle.faces.specs.Parts.{part, key_of, Whole, SortAsked, FaceSorted, owner_at, RunAsked, RunFound, MarkAsked, Marked, changes, TellAsked, Rising, Told, Tallied, corner_of}
use Rattle.faces.proofs.Scattering.{part_at, part_length, owners_length, owner_below}
use Rattle.faces.proofs.Telling.{key_of_lem, not_key}

-- the owners before i are told, and each has a lower face than those from i on
pub record Telling (C W₀ W : List ℕ) (points at i : ℕ) : Type 0 where
  pub size : length W ≡ length W₀
  pub within : i ≤ length C
  pub kept : (k : ℕ) → k < 2 * length C → get_or W k 0 ≡ get_or W₀ k 0
  pub cut : (k m : ℕ) → k < i → i ≤ m → m < length C → key_of points C (owner_at W₀ at k) < key_of points C (owner_at W₀ at m)
  pub told : (k : ℕ) → k < i → Rising C (owner_at W₀ at k) → get_or W (2 * length C + owner_at W₀ at k) 0 ≡ min (crowd C (owner_at W₀ at k)) 3

module _ (C W₀ : List ℕ) (points at : ℕ) (asked : TellAsked C W₀ points at) where
  long : length (part at (length C) W₀) ≡ length C
  long = owners_length (length C) (part at (length C) W₀) asked.sorted.standing.owners

  pub at_end : at + length C ≤ 2 * length C
  at_end = go asked.sorted.standing.half
    where
      go : (at ≡ 0) ⊎ (at ≡ length C) → at + length C ≤ 2 * length C
      go (inl e) = omega arith
      go (inr e) = omega arith

  entry : (k : ℕ) → k < length C → get_or (part at (length C) W₀) k 0 ≡ owner_at W₀ at k
  entry k h = part_at at (length C) W₀ k h

  pub owners : (k : ℕ) → k < length C → owner_at W₀ at k < length C
  owners k h =
      subst (λ (x : ℕ). x < length C) (entry k h)
      (owner_below (length C) (part at (length C) W₀) asked.sorted.standing.owners k h)

  pub rising : (i j : ℕ) → i ≤ j → j < length C → key_of points C (owner_at W₀ at i) ≤ key_of points C (owner_at W₀ at j)
  rising i j h b = go (eq_or i j)
    where
      go : (i ≡ j) ⊎ (i ≢ j) → key_of points C (owner_at W₀ at i) ≤ key_of points C (owner_at W₀ at j)
      go (inl e) = omega (arith, ap (λ (n : ℕ). key_of points C (owner_at W₀ at n)) e)
      go (inr n) =
          omega (
            arith,
            asked.sorted.order i j (omega arith) (omega (arith, long)),
            ap (key_of points C) (entry i (omega arith)),
            ap (key_of points C) (entry j b),
          )

  pub points_some : (k : ℕ) → k < length C → 0 < points
  points_some k h = omega (arith, below_at points C asked.asked.below k h)

  -- where an owner stands
  pub position : (o : ℕ) → o < length C → (k : ℕ) × (k < length C) × (owner_at W₀ at k ≡ o)
  position o b =
      let there : 0 < many (eqb o) (up_to (length C)) =
      many_at (eqb o) 0 (up_to (length C)) o (omega (arith, length_list (λ x. x) (length C)))
      (ap (eqb o) (list_at (λ x. x) (length C) o b) ∙ eq-eqb o o refl)
      in
      let r =
      many_find (eqb o) 0 (part at (length C) W₀)
      (subst (λ (n : ℕ). 0 < n) (sym (asked.sorted.standing.owners (eqb o))) there)
      in
      let k : r.0 < length C = omega (arith, r.1, long) in
      (r.0, k, sym (entry r.0 k) ∙ sym (eqb-true o (get_or (part at (length C) W₀) r.0 0) r.2))

  -- a run between two cuts is all that has its face
  module _ (i j : ℕ) (ij : i < j) (jn : j ≤ length C)
      (low : (k : ℕ) → k < i → key_of points C (owner_at W₀ at k) < key_of points C (owner_at W₀ at i))
      (mid : (k : ℕ) → i ≤ k → k < j → same (face_of C (owner_at W₀ at k)) (face_of C (owner_at W₀ at i)) ≡ true)
      (high : (k : ℕ) → j ≤ k → k < length C → key_of points C (owner_at W₀ at i) < key_of points C (owner_at W₀ at k)) where
    some : 0 < points
    some = points_some i (omega arith)

    one_face : (k : ℕ) → i ≤ k → k < j → face_of C (owner_at W₀ at k) ≡ face_of C (owner_at W₀ at i)
    one_face k a b = same_eq (face_of C (owner_at W₀ at k)) (face_of C (owner_at W₀ at i)) (mid k a b)

    one_key : (k : ℕ) → i ≤ k → k < j → key_of points C (owner_at W₀ at k) ≡ key_of points C (owner_at W₀ at i)
    one_key k a b = key_of_lem points C asked.asked.below some (owner_at W₀ at k) (owner_at W₀ at i) (one_face k a b)

    fours : 4 * cells_of C ≡ length C
    fours = omega (arith, asked.asked.whole.fours)

    inside : (k : ℕ) → k < length C → owner_at W₀ at k / 4 < cells_of C
    inside k h = omega (arith, owners k h, fours)

    up : (k l : ℕ) → i ≤ k → k < l → l < j → owner_at W₀ at k < owner_at W₀ at l
    up k l a b c =
        let hk : k < length C = omega arith in
        let hl : l < length C = omega arith in
        omega (
          arith,
          entry k hk,
          entry l hl,
          asked.sorted.ties k l b (omega (arith, long))
              (ap (key_of points C) (entry k hk) ∙ one_key k a (omega arith) ∙ sym (one_key l (omega arith) c) ∙ sym (ap (key_of points C) (entry l hl))),
        )

    -- a cell owns one of the run exactly where it names the face
    named : Rising C (owner_at W₀ at i) → (q : ℕ) → q < cells_of C → names (cell_at C q) (face_of C (owner_at W₀ at i)) ≡ hits W₀ at i (j - 1 - i) q
    unfolding corner_of
    named r q h = bool_ext (names (cell_at C q) (face_of C (owner_at W₀ at i))) (hits W₀ at i (j - 1 - i) q) there back
      where
        f : List ℕ
        f = face_of C (owner_at W₀ at i)

        seat : (x : ℕ) → x / 4 ≡ q → face_of C x ≡ face_of C (owner_at W₀ at i) → (k : ℕ) × (k < length C) × (owner_at W₀ at k ≡ x) → hits W₀ at i (j - 1 - i) q ≡ true
        seat x e g k = go (lt_or k.0 i) (lt_or k.0 j)
          where
            keys : key_of points C (owner_at W₀ at k.0) ≡ key_of points C (owner_at W₀ at i)
            keys = ap (key_of points C) k.2 ∙ key_of_lem points C asked.asked.below some x (owner_at W₀ at i) g

            go : (k.0 < i) ⊎ (i ≤ k.0) → (k.0 < j) ⊎ (j ≤ k.0) → hits W₀ at i (j - 1 - i) q ≡ true
            go (inl a) b = let z : ⊥ = omega (arith, low k.0 a, keys) in absurd z
            go (inr a) (inr b) = let z : ⊥ = omega (arith, high k.0 b k.1, keys) in absurd z
            go (inr a) (inl b) =
                subst (λ (n : ℕ). hits W₀ at i (j - 1 - i) n ≡ true) (ap (λ (n : ℕ). n / 4) k.2 ∙ e)
                (place_hit W₀ at i (j - 1 - i) k.0 a (omega arith))

        there : names (cell_at C q) (face_of C (owner_at W₀ at i)) ≡ true → hits W₀ at i (j - 1 - i) q ≡ true
        there n =
            let w = has_named C q (get_or (face_of C (owner_at W₀ at i)) 0 0) (get_or (face_of C (owner_at W₀ at i)) 1 0) (get_or (face_of C (owner_at W₀ at i)) 2 0) r.low r.high n in
            seat w.0 w.1 w.2 (position w.0 (omega (arith, fours, w.1)))

        back : hits W₀ at i (j - 1 - i) q ≡ true → names (cell_at C q) (face_of C (owner_at W₀ at i)) ≡ true
        back t =
            let w = hit_place W₀ at i (j - 1 - i) q t in
            let b : w.0 < j = omega (arith, w.2) in
            subst (λ (n : ℕ). names (cell_at C n) (face_of C (owner_at W₀ at i)) ≡ true) w.3
            (subst (λ (l : List ℕ). names (cell_at C (owner_at W₀ at w.0 / 4)) l ≡ true) (one_face w.0 w.1 b)
            (names_own C (owner_at W₀ at w.0)))

    first_crowd : Rising C (owner_at W₀ at i) → crowd C (owner_at W₀ at i) ≡ changes W₀ at i (j - 1 - i)
    unfolding crowd
    first_crowd r =
        many_ext (λ q. names (cell_at C q) (face_of C (owner_at W₀ at i))) (hits W₀ at i (j - 1 - i)) 0 (up_to (cells_of C))
        (λ k b.
        let m = cells_of C in
        let q : k < m = omega (arith, length_list (λ x. x) m) in
        named r (get_or (up_to m) k 0) (subst (λ (x : ℕ). x < m) (sym (list_at (λ x. x) m k q)) q))
        ∙ changes_count W₀ at i (cells_of C) (j - 1 - i) (λ k a b. inside k (omega arith)) (λ k l a b c. up k l a b (omega arith))

    pub run_crowd : (k : ℕ) → i ≤ k → k < j → Rising C (owner_at W₀ at k) → crowd C (owner_at W₀ at k) ≡ changes W₀ at i (j - 1 - i)
    unfolding crowd corner_of
    run_crowd k a b r =
        let e = one_face k a b in
        ap (λ (l : List ℕ). many (λ q. names (cell_at C q) l) (up_to (cells_of C))) e
        ∙ first_crowd (record {
          low = subst (λ (l : List ℕ). get_or l 0 0 < get_or l 1 0) e r.low;
          high = subst (λ (l : List ℕ). get_or l 1 0 < get_or l 2 0) e r.high;
        })

  module _ (W : List ℕ) (i : ℕ) (p : Telling C W₀ W points at i) where
    kept_owner : (k : ℕ) → k < length C → owner_at W at k ≡ owner_at W₀ at k
    kept_owner k h = p.kept (at + k) (omega (arith, at_end))

    owners_now : (k : ℕ) → k < length C → owner_at W at k < length C
    owners_now k h = omega (arith, kept_owner k h, owners k h)

    pub run_asked : i < length C → RunAsked C W at i
    run_asked h = record { whole = asked.asked.whole; room = omega (arith, at_end, asked.asked.room, p.size); here = h; owners = owners_now }

    module _ (j : ℕ) (run : RunFound C W at i j) where
      pub mark_asked : MarkAsked W at (2 * length C) (length C) i j
      mark_asked = record {
        before = at_end;
        room = omega (arith, asked.asked.room, p.size);
        order = omega (arith, run.on);
        within = run.within;
        owners = owners_now;
      }

      here : i < length C
      here = omega (arith, run.on, run.within)

      mid : (k : ℕ) → i ≤ k → k < j → same (face_of C (owner_at W₀ at k)) (face_of C (owner_at W₀ at i)) ≡ true
      mid k a b =
          subst (λ (x : ℕ). same (face_of C x) (face_of C (owner_at W₀ at i)) ≡ true) (kept_owner k (omega (arith, run.within)))
          (subst (λ (x : ℕ). same (face_of C (owner_at W at k)) (face_of C x) ≡ true) (kept_owner i here) (run.inside k a b))

      key_mid : (k : ℕ) → i ≤ k → k < j → key_of points C (owner_at W₀ at k) ≡ key_of points C (owner_at W₀ at i)
      key_mid k a b =
          key_of_lem points C asked.asked.below (points_some i here) (owner_at W₀ at k) (owner_at W₀ at i)
          (same_eq (face_of C (owner_at W₀ at k)) (face_of C (owner_at W₀ at i)) (mid k a b))

      high : (k : ℕ) → j ≤ k → k < length C → key_of points C (owner_at W₀ at i) < key_of points C (owner_at W₀ at k)
      high k a b =
          let jn : j < length C = omega arith in
          let d : same (face_of C (owner_at W₀ at j)) (face_of C (owner_at W₀ at i)) ≡ false =
          subst (λ (x : ℕ). same (face_of C x) (face_of C (owner_at W₀ at i)) ≡ false) (kept_owner j jn)
          (subst (λ (x : ℕ). same (face_of C (owner_at W at j)) (face_of C x) ≡ false) (kept_owner i here) (run.stop jn))
          in
          omega (
            arith,
            not_key points C asked.asked.below (points_some i here) (owner_at W₀ at j) (owner_at W₀ at i) d,
            rising i j (omega (arith, run.on)) jn,
            rising j k a b,
          )

      cut' : (k m : ℕ) → k < j → j ≤ m → m < length C → key_of points C (owner_at W₀ at k) < key_of points C (owner_at W₀ at m)
      cut' k m a b c = go (lt_or k i)
        where
          go : (k < i) ⊎ (i ≤ k) → key_of points C (owner_at W₀ at k) < key_of points C (owner_at W₀ at m)
          go (inl q) = p.cut k m q (omega (arith, run.on)) c
          go (inr q) = omega (arith, key_mid k q a, high m b c)

      pub tell_next : (W' : List ℕ) (v c : ℕ) → length W' ≡ length W → c ≡ changes W at i (j - 1 - i) → v ≡ min c 3 → Marked W W' at (2 * length C) (length C) i j v
          → Telling C W₀ W' points at j
      tell_next W' v c l ec e q = record {
        size = l ∙ p.size;
        within = run.within;
        kept = λ k b. q.kept k b ∙ p.kept k b;
        cut = cut';
        told = told';
      }
        where
          told' : (k : ℕ) → k < j → Rising C (owner_at W₀ at k) → get_or W' (2 * length C + owner_at W₀ at k) 0 ≡ min (crowd C (owner_at W₀ at k)) 3
          told' k b r = go (lt_or k i)
            where
              kn : k < length C
              kn = omega (arith, run.within)

              apart : k < i → (m : ℕ) → i ≤ m → m < j → owner_at W at m ≢ owner_at W₀ at k
              apart c m a h e =
                  let mn : m < length C = omega (arith, run.within) in
                  let same_key : key_of points C (owner_at W₀ at m) ≡ key_of points C (owner_at W₀ at k) = ap (key_of points C) (sym (kept_owner m mn) ∙ e) in
                  omega (arith, p.cut k m c a mn)

              go : (k < i) ⊎ (i ≤ k) → get_or W' (2 * length C + owner_at W₀ at k) 0 ≡ min (crowd C (owner_at W₀ at k)) 3
              go (inl h) = q.old (owner_at W₀ at k) (apart h) ∙ p.told k h r
              go (inr h) =
                  ap (λ (x : ℕ). get_or W' (2 * length C + x) 0) (sym (kept_owner k kn))
                  ∙ q.new k h b
                  ∙ e
                  ∙ ap (λ (x : ℕ). min x 3)
                  (ec
                  ∙ changes_same W W₀ at i (j - 1 - i) (λ m a d. kept_owner m (omega (arith, run.on, run.within)))
                  ∙ sym (run_crowd i j run.on run.within (λ m g. p.cut m i g (omega arith) here) mid high k h b r))

    pub tell_done : length C ≤ i → Told C W₀ W points at
    tell_done h = record {
      kept = p.kept;
      told = λ o b r.
          let w = position o b in
          subst (λ (x : ℕ). Rising C x → get_or W (2 * length C + x) 0 ≡ min (crowd C x) 3) w.2 (p.told w.0 (omega (arith, w.1))) r;
    }

  -- ---- both steps

  pub tallied : (W : List ℕ) → length W ≡ length W₀ → Told C W₀ W points at → Tallied C W points at
  tallied W l t = record {
    sorted = record {
      standing = record {
        half = asked.sorted.standing.half;
        owners = subst (Alike (up_to (length C))) (sym still) asked.sorted.standing.owners;
      };
      order = subst (Ordered (key_of points C)) (sym still) asked.sorted.order;
      ties = subst (TiesRise (key_of points C)) (sym still) asked.sorted.ties;
    };
    crowds = t.told;
  }
    where
      still : part at (length C) W ≡ part at (length C) W₀
      still =
          ext_get_or 0 (part at (length C) W) (part at (length C) W₀)
          (part_length at (length C) W (omega (arith, at_end, asked.asked.room)) ∙ sym long)
          (λ k b. let q : k < length C = omega (arith, part_length at (length C) W (omega (arith, at_end, asked.asked.room))) in
          part_at at (length C) W k q ∙ t.kept (at + k) (omega (arith, at_end)) ∙ sym (entry k q))

pub tell_asked : (C W W' : List ℕ) (points at : ℕ) → SortAsked C W points → length W' ≡ length W → FaceSorted C W' points at → TellAsked C W' points at
tell_asked C W W' points at a l s = record {
  asked = record { whole = a.whole; below = a.below; points_fit = a.points_fit; room = omega (arith, a.room) };
  sorted = s;
}

-- the faces of proper cells have three points
pub proper_rising : (C : List ℕ) → Whole C → Proper C → (o : ℕ) → o < length C → Rising C o
unfolding corner_of
proper_rising C w p o h = let r = face_rises C p o (omega (arith, w.fours)) in record { low = r.0; high = r.1 }
