-- Owners that stand beside each other with one face join their cells; sorted, that joins all cells that share a face. Assumes nothing.
use mathlib.Core.Path.{◌≡◌, refl, sym, ap, subst, ◌∙◌}
use mathlib.Core.Logic.{◌⊎◌, inl, inr}
use mathlib.Core.Bool.{Bool, true, false, true≢false}
use mathlib.Core.List.{List}
use Prim.Native.Nat.{ℕ, zero, suc, ◌+◌, ◌-◌, ◌*◌, ◌/◌, ◌≤◌, ◌<◌}
use native.Mathlib.Omega.{arith}
use borrow.Rule.Slice.PartMut.{put_mid}
use lib.ListN.{length, get_or, take, drop}
use Rattle.lists.specs.Tables.{same}
use Rattle.mesh.specs.Mesh.{cells_of}
use Rattle.lists.proofs.Cases.{lt_or}
use Rattle.lists.proofs.Listing.{same_eq, same_refl}
use Rattle.links.specs.Walks.{Walk, here, fore, Groups}
use Rattle.links.specs.Parts.{Forest, Roots, Own, merge}
use Rattle.links.proofs.Walking.{groups_keep, groups_merge}
use Rattle.links.proofs.Vertexes.{own_forest}
use Rattle.face_theory.specs.Faces.{face_of, Proper, Shares}
use Rattle.face_theory.proofs.Sharing.{Touching, shares_touch, touch_shares}
use Rattle.faces.specs.Parts.{part, key_of, owner_at}
use Rattle.sorting.specs.Entries.{Alike}
use Rattle.passes.specs.Passes.{up_to, Ordered, TiesRise}
use Rattle.faces.proofs.Passing.{put_part}
use Rattle.faces.proofs.Telling.{key_of_lem, face_of_lem}
use Rattle.faces.proofs.Tallying.{at_end, owners, rising, points_some, position}
use Rattle.pieces.specs.Pieces.{ShareFace}
use Rattle.pieces.specs.Parts.{parents, LinkAsked, Linked, NextAsked, NextJoined}
use Rattle.pieces.proofs.Joining.{put_length, put_is, put_kept}

-- the cells of two owners with one face, the second at a place below i and the first before it
pub record Near (C W : List ℕ) (at i q r : ℕ) : Type 0 where
  pub place : ℕ
  pub on : 0 < place
  pub below : place < i
  pub inside : place < length C
  pub face : same (face_of C (owner_at W at place)) (face_of C (owner_at W at (place - 1))) ≡ true
  pub q_is : owner_at W at (place - 1) / 4 ≡ q
  pub r_is : owner_at W at place / 4 ≡ r

-- the places below i are joined
pub record Chained (C W₀ W : List ℕ) (at i : ℕ) : Type 0 where
  pub on : 0 < i
  pub size : length W ≡ length W₀
  pub kept : (k : ℕ) → k < 2 * length C → get_or W k 0 ≡ get_or W₀ k 0
  pub forest : Forest (parents C W)
  pub f : ℕ → ℕ
  pub roots : Roots (parents C W) f
  pub groups : Groups (Near C W₀ at i) f

-- ---- one more place

module _ (C W : List ℕ) (at i : ℕ) (on : 0 < i) (inside : i < length C) (f : ℕ → ℕ) (l : Groups (Near C W at i) f) where
  near : {q r : ℕ} {j : ℕ} → j ≤ i + 1 → (n : Near C W at j q r) → n.place < i → Near C W at i q r
  near h n b = record { place = n.place; on = n.on; below = b; inside = n.inside; face = n.face; q_is = n.q_is; r_is = n.r_is }

  more : (q r : ℕ) → Near C W at i q r → Walk (Near C W at (i + 1)) q r
  more q r n =
      fore (record { place = n.place; on = n.on; below = omega (arith, n.below); inside = n.inside; face = n.face; q_is = n.q_is; r_is = n.r_is }) here

  last : {q r : ℕ} → (n : Near C W at (i + 1) q r) → i ≤ n.place → n.place ≡ i
  last n h = omega (arith, n.below)

  pub chain_skip : same (face_of C (owner_at W at i)) (face_of C (owner_at W at (i - 1))) ≡ false → Groups (Near C W at (i + 1)) f
  chain_skip e = groups_keep (Near C W at i) (Near C W at (i + 1)) f l more same'
    where
      same' : (q r : ℕ) → Near C W at (i + 1) q r → f q ≡ f r
      same' q r n = go (lt_or n.place i)
        where
          go : (n.place < i) ⊎ (i ≤ n.place) → f q ≡ f r
          go (inl b) = l.same q r (near (omega arith) n b)
          go (inr b) =
              absurd (true≢false (sym (subst (λ (k : ℕ). same (face_of C (owner_at W at k)) (face_of C (owner_at W at (k - 1))) ≡ true) (last n b) n.face) ∙ e))

  pub chain_join : same (face_of C (owner_at W at i)) (face_of C (owner_at W at (i - 1))) ≡ true
      → Groups (Near C W at (i + 1)) (merge f (owner_at W at (i - 1) / 4) (owner_at W at i / 4))
  chain_join e =
      groups_merge (Near C W at i) (Near C W at (i + 1)) f l more (owner_at W at (i - 1) / 4) (owner_at W at i / 4)
      (fore (record { place = i; on = on; below = omega arith; inside = inside; face = e; q_is = refl; r_is = refl }) here) cases
    where
      cases : (q r : ℕ) → Near C W at (i + 1) q r
          → (f q ≡ f r) ⊎ (((f q ≡ f (owner_at W at (i - 1) / 4)) ⊎ (f q ≡ f (owner_at W at i / 4))) × ((f r ≡ f (owner_at W at (i - 1) / 4)) ⊎ (f r ≡ f (owner_at W at i / 4))))
      cases q r n = go (lt_or n.place i)
        where
          go : (n.place < i) ⊎ (i ≤ n.place)
              → (f q ≡ f r) ⊎ (((f q ≡ f (owner_at W at (i - 1) / 4)) ⊎ (f q ≡ f (owner_at W at i / 4))) × ((f r ≡ f (owner_at W at (i - 1) / 4)) ⊎ (f r ≡ f (owner_at W at i / 4))))
          go (inl b) = inl (l.same q r (near (omega arith) n b))
          go (inr b) =
              inr (
                inl (ap f (sym n.q_is ∙ ap (λ (k : ℕ). owner_at W at (k - 1) / 4) (last n b))),
                inr (ap f (sym n.r_is ∙ ap (λ (k : ℕ). owner_at W at k / 4) (last n b))),
              )

-- ---- the walk over all places

module _ (C W₀ : List ℕ) (points at : ℕ) (asked : LinkAsked C W₀ points at) where
  -- the table with the parents written still has its owners
  module _ (z : List ℕ) (lz : length z ≡ length (take (2 * length C + length C / 4 - 2 * length C) (drop (2 * length C) W₀))) where
    still : part at (length C) (put_mid (2 * length C) (2 * length C + length C / 4 - 2 * length C) W₀ z) ≡ part at (length C) W₀
    still =
        put_part (2 * length C) (2 * length C + length C / 4 - 2 * length C) W₀ z (omega (arith, asked.tell.asked.room)) at (length C)
        (put_length C W₀ asked.tell.asked.room z lz) (omega (arith, at_end C W₀ points at asked.tell))

    pub asked_after : LinkAsked C (put_mid (2 * length C) (2 * length C + length C / 4 - 2 * length C) W₀ z) points at
    asked_after = record {
      tell = record {
        asked = record {
          whole = asked.tell.asked.whole;
          below = asked.tell.asked.below;
          points_fit = asked.tell.asked.points_fit;
          room = omega (arith, asked.tell.asked.room, put_length C W₀ asked.tell.asked.room z lz);
        };
        sorted = record {
          standing = record {
            half = asked.tell.sorted.standing.half;
            owners = subst (Alike (up_to (length C))) (sym still) asked.tell.sorted.standing.owners;
          };
          order = subst (Ordered (key_of points C)) (sym still) asked.tell.sorted.order;
          ties = subst (TiesRise (key_of points C)) (sym still) asked.tell.sorted.ties;
        };
      };
      few = asked.few;
    }

    pub chain_start : Own z
        → Chained C (put_mid (2 * length C) (2 * length C + length C / 4 - 2 * length C) W₀ z) (put_mid (2 * length C) (2 * length C + length C / 4 - 2 * length C) W₀ z) at 1
    chain_start o = record {
      on = omega arith;
      size = refl;
      kept = λ k b. refl;
      forest = subst Forest (sym (put_is C W₀ asked.tell.asked.room z lz)) (own_forest z o);
      f = λ i. i;
      roots =
          subst (λ (l : List ℕ). Roots l (λ i. i)) (sym (put_is C W₀ asked.tell.asked.room z lz))
          (record { keeps = o; ends = λ i h e. refl });
      groups = record { walk = λ i. here; same = λ q r n. absurd (omega (arith, n.on, n.below)) };
    }

    pub pieces_of : (W : List ℕ) → Linked C (put_mid (2 * length C) (2 * length C + length C / 4 - 2 * length C) W₀ z) W → Linked C W₀ W
    pieces_of W p = record {
      kept = λ k b. p.kept k b ∙ put_kept C W₀ asked.tell.asked.room z lz k b;
      forest = p.forest;
      f = p.f;
      roots = p.roots;
      groups = p.groups;
    }

  module _ (W : List ℕ) (i : ℕ) (p : Chained C W₀ W at i) where
    kept_owner : (k : ℕ) → k < length C → owner_at W at k ≡ owner_at W₀ at k
    kept_owner k h = p.kept (at + k) (omega (arith, at_end C W₀ points at asked.tell))

    pub next_asked : i < length C → NextAsked C W at i
    next_asked h = record {
      whole = asked.tell.asked.whole;
      few = asked.few;
      at_end = at_end C W₀ points at asked.tell;
      room = omega (arith, asked.tell.asked.room, p.size);
      on = p.on;
      here = h;
      owners = λ k b. omega (arith, kept_owner k b, owners C W₀ points at asked.tell k b);
      forest = p.forest;
    }

    pub chain_next : i < length C → (W' : List ℕ) → length W' ≡ length W → NextJoined C W W' at i → Chained C W₀ W' at (i + 1)
    chain_next h W' l j = go (same (face_of C (owner_at W₀ at i)) (face_of C (owner_at W₀ at (i - 1)))) refl
      where
        here_is : owner_at W at i ≡ owner_at W₀ at i
        here_is = kept_owner i h

        before_is : owner_at W at (i - 1) ≡ owner_at W₀ at (i - 1)
        before_is = kept_owner (i - 1) (omega arith)

        then : (t : Bool) → same (face_of C (owner_at W₀ at i)) (face_of C (owner_at W₀ at (i - 1))) ≡ t
            → same (face_of C (owner_at W at i)) (face_of C (owner_at W at (i - 1))) ≡ t
        then t e =
            ap (λ (x : ℕ). same (face_of C x) (face_of C (owner_at W at (i - 1)))) here_is
            ∙ ap (λ (x : ℕ). same (face_of C (owner_at W₀ at i)) (face_of C x)) before_is ∙ e

        on' : 0 < i + 1
        on' = omega arith

        go : (t : Bool) → same (face_of C (owner_at W₀ at i)) (face_of C (owner_at W₀ at (i - 1))) ≡ t → Chained C W₀ W' at (i + 1)
        go false e = record {
          on = on';
          size = l ∙ p.size;
          kept = λ k b. j.kept k b ∙ p.kept k b;
          forest = j.forest;
          f = p.f;
          roots = subst (λ (l : List ℕ). Roots l p.f) (sym (j.apart (then false e))) p.roots;
          groups = chain_skip C W₀ at i p.on h p.f p.groups e;
        }
        go true e = record {
          on = on';
          size = l ∙ p.size;
          kept = λ k b. j.kept k b ∙ p.kept k b;
          forest = j.forest;
          f = merge p.f (owner_at W₀ at (i - 1) / 4) (owner_at W₀ at i / 4);
          roots =
              subst (λ (x : ℕ). Roots (parents C W') (merge p.f x (owner_at W₀ at i / 4))) (ap (λ (n : ℕ). n / 4) before_is)
              (subst (λ (x : ℕ). Roots (parents C W') (merge p.f (owner_at W at (i - 1) / 4) x)) (ap (λ (n : ℕ). n / 4) here_is)
              ((j.joined (then true e)).merges p.f p.roots));
          groups = chain_join C W₀ at i p.on h p.f p.groups e;
        }

    -- ---- at the end

    module _ (end : length C ≤ i) (proper : Proper C) where
      fours : 4 * cells_of C ≡ length C
      fours = omega (arith, asked.tell.asked.whole.fours)

      -- places with one face, and all between them
      chain : (a d : ℕ) → a + d < length C → key_of points C (owner_at W₀ at a) ≡ key_of points C (owner_at W₀ at (a + d))
          → p.f (owner_at W₀ at a / 4) ≡ p.f (owner_at W₀ at (a + d) / 4)
      chain a zero h e = ap (λ (n : ℕ). p.f (owner_at W₀ at n / 4)) (omega arith)
      chain a (suc d) h e =
          let k : a + d < length C = omega arith in
          let up = rising C W₀ points at asked.tell a (a + d) (omega arith) k in
          let on = rising C W₀ points at asked.tell (a + d) (a + suc d) (omega arith) h in
          let below = asked.tell.asked.below in
          let some = points_some C W₀ points at asked.tell a (omega arith) in
          let same-face : face_of C (owner_at W₀ at (a + suc d)) ≡ face_of C (owner_at W₀ at (a + d)) =
          face_of_lem points C below some (owner_at W₀ at (a + suc d)) (owner_at W₀ at (a + d)) (omega arith)
          in
          let before : a + suc d - 1 ≡ a + d = omega arith in
          chain a d k (omega arith)
          ∙ p.groups.same (owner_at W₀ at (a + d) / 4) (owner_at W₀ at (a + suc d) / 4)
          (record {
            place = a + suc d;
            on = omega arith;
            below = omega arith;
            inside = h;
            face = rw (before) (subst (λ (l : List ℕ). same l (face_of C (owner_at W₀ at (a + d))) ≡ true) (sym same-face) (same_refl (face_of C (owner_at W₀ at (a + d)))));
            q_is = ap (λ (n : ℕ). owner_at W₀ at n / 4) before;
            r_is = refl;
          })

      same_group : (x y : ℕ) → x < length C → y < length C → face_of C x ≡ face_of C y → p.f (x / 4) ≡ p.f (y / 4)
      same_group x y hx hy e = go (position C W₀ points at asked.tell x hx) (position C W₀ points at asked.tell y hy)
        where
          go : (k : ℕ) × (k < length C) × (owner_at W₀ at k ≡ x) → (k : ℕ) × (k < length C) × (owner_at W₀ at k ≡ y) → p.f (x / 4) ≡ p.f (y / 4)
          go a b = between (lt_or a.0 b.0)
            where
              keys : key_of points C (owner_at W₀ at a.0) ≡ key_of points C (owner_at W₀ at b.0)
              keys =
                  ap (key_of points C) a.2
                  ∙ key_of_lem points C asked.tell.asked.below (points_some C W₀ points at asked.tell x hx) x y e
                  ∙ sym (ap (key_of points C) b.2)

              at_a : p.f (owner_at W₀ at a.0 / 4) ≡ p.f (x / 4)
              at_a = ap (λ (n : ℕ). p.f (n / 4)) a.2

              at_b : p.f (owner_at W₀ at b.0 / 4) ≡ p.f (y / 4)
              at_b = ap (λ (n : ℕ). p.f (n / 4)) b.2

              between : (a.0 < b.0) ⊎ (b.0 ≤ a.0) → p.f (x / 4) ≡ p.f (y / 4)
              between (inl h) =
                  let s : a.0 + (b.0 - a.0) ≡ b.0 = omega arith in
                  sym at_a
                  ∙ chain a.0 (b.0 - a.0) (omega (arith, b.1)) (keys ∙ ap (λ (n : ℕ). key_of points C (owner_at W₀ at n)) (sym s))
                  ∙ ap (λ (n : ℕ). p.f (owner_at W₀ at n / 4)) s ∙ at_b
              between (inr h) =
                  let s : b.0 + (a.0 - b.0) ≡ a.0 = omega arith in
                  sym (sym at_b
                  ∙ chain b.0 (a.0 - b.0) (omega (arith, a.1)) (sym keys ∙ ap (λ (n : ℕ). key_of points C (owner_at W₀ at n)) (sym s))
                  ∙ ap (λ (n : ℕ). p.f (owner_at W₀ at n / 4)) s ∙ at_a)

      all_groups : Groups (ShareFace C) p.f
      all_groups =
          groups_keep (Near C W₀ at i) (ShareFace C) p.f p.groups (λ q r n. fore (linked q r n) here) (λ q r s. apart q r s (shares_touch C proper q r s.q_in s.shares))
        where
          linked : (q r : ℕ) → Near C W₀ at i q r → ShareFace C q r
          linked q r n =
              let x = owner_at W₀ at n.place in
              let y = owner_at W₀ at (n.place - 1) in
              let hx : x < length C = owners C W₀ points at asked.tell n.place n.inside in
              let hy : y < length C = owners C W₀ points at asked.tell (n.place - 1) (omega (arith, n.inside)) in
              record {
                q_in = omega (arith, fours, n.q_is);
                r_in = omega (arith, fours, n.r_is);
                shares =
                    subst (λ (k : ℕ). Shares C k r) n.q_is
                    (subst (λ (k : ℕ). Shares C (y / 4) k) n.r_is
                    (touch_shares C x y (sym (same_eq (face_of C x) (face_of C y) n.face))));
              }

          apart : (q r : ℕ) → ShareFace C q r → Touching C q r → p.f q ≡ p.f r
          apart q r s t =
              ap p.f (sym t.of_one)
              ∙ same_group t.one t.other (omega (arith, fours, t.of_one, s.q_in)) (omega (arith, fours, t.of_other, s.r_in)) t.meet
              ∙ ap p.f t.of_other

    pub chain_done : length C ≤ i → Linked C W₀ W
    chain_done h = record { kept = p.kept; forest = p.forest; f = p.f; roots = p.roots; groups = all_groups h }
