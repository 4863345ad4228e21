-- The turns of `note_roots` and `note_lasts`. Assumes nothing.
use mathlib.Core.Path.{◌≡◌, sym, ap, subst, ◌∙◌}
use mathlib.Core.Logic.{◌⊎◌, inl, inr, ◌≢◌}
use mathlib.Core.List.{List, ◌++◌}
use Prim.Native.Nat.{ℕ, ◌+◌, ◌*◌, ◌≤◌, ◌<◌}
use native.Mathlib.Omega.{arith}
use lib.ListN.{length, get_or, set, take, drop, length-set, length-drop}
use lib.Seq.{length-take-le, length_front, get_or-set_same, get_or-set_other, take_at, drop_at, take-set-le, take-set-lt, drop-set-lt, drop-set-add, get_or-take, get_or-drop}
use Rattle.mesh.specs.Mesh.{cells_of}
use Rattle.lists.proofs.Cases.{eq_or, below_set}
use Rattle.links.specs.Walks.{Groups}
use Rattle.links.specs.Parts.{Forest, Roots, Rooted, SameCell, Joint}
use Rattle.groups.specs.Parts.{Sized, Linked, RootNoted, Rooting, LastNoted, Labelled}
use Rattle.groups.proofs.Highest.{Last, last_is}

-- ---- one root

module _ (C X w : List ℕ) (n i : ℕ) where
  -- the parents were lent to find the root r, and are now P
  pub root_noted : (P : List ℕ) {v r : ℕ} → n ≤ length w → length P ≡ length (take n w) → v ≡ get_or C (i * 4) 0 → Rooted (take n w) P v r
      → get_or X i 0 ≡ 0 → RootNoted C X w (set (P ++ drop n w) (n + i) r) n i
  root_noted P {v} {r} h kept ev ro z =
      let len : length P ≡ n = kept ∙ length-take-le n w h in
      record {
        crossed = λ d. absurd (d z);
        root = r;
        noted = λ y. (
          subst (λ (u : ℕ). Rooted (take n w) (take n (set (P ++ drop n w) (n + i) r)) u r) ev
              (subst (λ (u : List ℕ). Rooted (take n w) u v r) (sym (take-set-le n (P ++ drop n w) (n + i) r (omega arith) ∙ take_at P (drop n w) n len)) ro),
          drop-set-add n (P ++ drop n w) i r ∙ ap (λ (u : List ℕ). set u i r) (drop_at P (drop n w) n len),
        );
      }

-- ---- the roots

-- the roots of the first i cells are stored
pub record Noting (C X w : List ℕ) (n i : ℕ) : Type 0 where
  pub sized : Sized C w n
  pub forest : Forest (take n w)
  pub f : ℕ → ℕ
  pub roots : Roots (take n w) f
  pub groups : Groups (SameCell C X (length C)) f
  pub noted : (j : ℕ) → j < i → get_or X j 0 ≡ 0 → (get_or (drop n w) j 0 ≡ f (get_or C (j * 4) 0)) × (get_or (drop n w) j 0 < n)

-- the parents were lent to be linked, and are now P
pub linked : (C X w P : List ℕ) (n : ℕ) → Sized C w n → length P ≡ length (take n w) → Joint C X P → Linked C X (P ++ drop n w) n
linked C X w P n s kept j =
    let len : length P ≡ n = kept ∙ length-take-le n w (omega (arith, s.long)) in
    record { sized = record { cells = s.cells; long = length_front w P n kept ∙ s.long }; joint = subst (Joint C X) (sym (take_at P (drop n w) n len)) j }

pub noting_step : (C X w w' : List ℕ) (n i : ℕ) → Noting C X w n i → i < cells_of C → length w' ≡ length w → RootNoted C X w w' n i
    → Noting C X w' n (i + 1)
noting_step C X w w' n i l h kept r = go (eq_or (get_or X i 0) 0)
  where
    sized' : Sized C w' n
    sized' = record { cells = l.sized.cells; long = kept ∙ l.sized.long }

    Fact : ℕ → ℕ → Type 0
    Fact j v = get_or X j 0 ≡ 0 → (v ≡ l.f (get_or C (j * 4) 0)) × (v < n)

    go : (get_or X i 0 ≡ 0) ⊎ (get_or X i 0 ≢ 0) → Noting C X w' n (i + 1)
    go (inr d) = subst (λ (u : List ℕ). Noting C X u n (i + 1)) (sym (r.crossed d)) (record {
      sized = l.sized;
      forest = l.forest;
      f = l.f;
      roots = l.roots;
      groups = l.groups;
      noted = λ j b z. l.noted j (below j b (λ e. d (ap (λ (k : ℕ). get_or X k 0) (sym e) ∙ z))) z;
    })
      where
        below : (j : ℕ) → j < i + 1 → j ≢ i → j < i
        below j b e = omega arith
    go (inl z) =
        let q = r.noted z in
        let found = q.0.finds l.f l.roots in
        let inside : r.root < n = omega (arith, q.0.within, length-take-le n w' (omega (arith, sized'.long))) in
        let room : i < length (drop n w) = omega (arith, length-drop n w, l.sized.long) in
        record {
          sized = sized';
          forest = q.0.forest;
          f = l.f;
          roots = found.0;
          groups = l.groups;
          noted = subst (λ (u : List ℕ). (j : ℕ) → j < i + 1 → Fact j (get_or u j 0)) (sym q.1)
              (below_set Fact (drop n w) i r.root room l.noted (λ y. (found.1, inside)));
        }

-- ---- the last cell of each group

-- among the first i cells, the last of each group stands at its root
pub record Lasting (X D w : List ℕ) (n m i : ℕ) : Type 0 where
  pub long : length w ≡ n + m
  pub same : drop n w ≡ D
  pub last : (j : ℕ) → j < i → get_or X j 0 ≡ 0 → Last X D i j (get_or (take n w) (get_or D j 0) 0)

pub root_at : {X D w : List ℕ} {n m i : ℕ} → Lasting X D w n m i → get_or w (n + i) 0 ≡ get_or D i 0
root_at {w = w} {n = n} {i = i} l = sym (get_or-drop n w i 0) ∙ ap (λ (u : List ℕ). get_or u i 0) l.same

module _ (X D w w' : List ℕ) (n m i : ℕ) (l : Lasting X D w n m i) where
  widen : (j k : ℕ) → Last X D i j k → Last X D (i + 1) j k
  widen j k q = record { up = q.up; below = omega (arith, q.below); free = q.free; group = q.group }

  pub lasting_step : (get_or X i 0 ≡ 0 → get_or D i 0 < n) → LastNoted X w w' n i → Lasting X D w' n m (i + 1)
  lasting_step small r = go (eq_or (get_or X i 0) 0)
    where
      go : (get_or X i 0 ≡ 0) ⊎ (get_or X i 0 ≢ 0) → Lasting X D w' n m (i + 1)
      go (inr d) = subst (λ (u : List ℕ). Lasting X D u n m (i + 1)) (sym (r.crossed d)) (record {
        long = l.long;
        same = l.same;
        last = λ j b z. widen j _ (l.last j (below j b (λ e. d (ap (λ (k : ℕ). get_or X k 0) (sym e) ∙ z))) z);
      })
        where
          below : (j : ℕ) → j < i + 1 → j ≢ i → j < i
          below j b e = omega arith
      go (inl z) = subst (λ (u : List ℕ). Lasting X D u n m (i + 1)) (sym (r.noted z ∙ ap (λ (k : ℕ). set w k i) (root_at l))) (record {
        long = length-set w (get_or D i 0) i ∙ l.long;
        same = drop-set-lt n w (get_or D i 0) i inside ∙ l.same;
        last = λ j b y. subst (λ (u : List ℕ). Last X D (i + 1) j (get_or u (get_or D j 0) 0)) (sym (take-set-lt n w (get_or D i 0) i inside)) (by j b y (eq_or (get_or D j 0) (get_or D i 0)));
      })
        where
          inside : get_or D i 0 < n
          inside = small z

          front : get_or D i 0 < length (take n w)
          front = omega (arith, inside, length-take-le n w (omega (arith, l.long)))

          by : (j : ℕ) → j < i + 1 → get_or X j 0 ≡ 0 → (get_or D j 0 ≡ get_or D i 0) ⊎ (get_or D j 0 ≢ get_or D i 0)
              → Last X D (i + 1) j (get_or (set (take n w) (get_or D i 0) i) (get_or D j 0) 0)
          by j b y (inl e) =
              subst (Last X D (i + 1) j) (sym (ap (λ (k : ℕ). get_or (set (take n w) (get_or D i 0) i) k 0) e ∙ get_or-set_same (take n w) (get_or D i 0) i 0 front))
              (record { up = omega arith; below = omega arith; free = z; group = sym e })
          by j b y (inr d) =
              subst (Last X D (i + 1) j) (sym (get_or-set_other (take n w) (get_or D i 0) (get_or D j 0) i 0 d))
              (widen j _ (l.last j (lower (λ e. d (ap (λ (k : ℕ). get_or D k 0) e))) y))
            where
              lower : (j ≢ i) → j < i
              lower ne = omega arith

pub lasting_done : (C X w₀ w : List ℕ) (n i : ℕ) → Rooting C X w₀ n → Lasting X (drop n w₀) w n (cells_of C) i → i ≡ cells_of C → Labelled C X w n
lasting_done C X w₀ w n i r l e =
    let at : (j : ℕ) → get_or w (n + j) 0 ≡ get_or (drop n w₀) j 0 = λ j. sym (get_or-drop n w j 0) ∙ ap (λ (u : List ℕ). get_or u j 0) l.same in
    record {
      sized = record { cells = r.sized.cells; long = l.long };
      root = λ j h z. omega (arith, at j, (r.noted j h z).1);
      label = λ j h z.
          ap (λ (k : ℕ). get_or w k 0) (at j)
          ∙ sym (get_or-take n w (get_or (drop n w₀) j 0) 0 (r.noted j h z).1)
          ∙ last_is C X (drop n w₀) (take n w) (cells_of C) r.sized.cells.whole r.f r.groups (λ k b y. (r.noted k b y).0)
          (λ k b y. subst (λ (t : ℕ). Last X (drop n w₀) t k (get_or (take n w) (get_or (drop n w₀) k 0) 0)) e (l.last k (omega arith) y)) j h z;
    }
