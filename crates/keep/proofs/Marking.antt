-- Marks as the code has them, and the turns of `mark_crust` and `mark_cover`. Assumes nothing.
use mathlib.Core.Path.{◌≡◌, refl, sym, ap, subst, ◌∙◌}
use mathlib.Core.Logic.{◌⊎◌, inl, inr, ◌≢◌}
use mathlib.Core.Bool.{Bool, true, false, not, ◌||◌}
use mathlib.Core.List.{List}
use Prim.Native.Nat.{ℕ, ◌+◌, ◌≤◌, ◌<◌}
use native.Mathlib.Omega.{arith}
use borrow.Author.Tests.{ne_eqb}
use lib.Dec.{eqb}
use mir.Val.{bool_byte}
use lib.ListN.{get_or, set, take, drop, length-set, length-drop}
use lib.Seq.{get_or-set_other, take-set-le, drop-set-add, get_or-take, get_or-drop}
use Rattle.lists.specs.Tests.{bit}
use Rattle.mesh.specs.Mesh.{cells_of}
use Rattle.lists.proofs.Cases.{eq_or, below_set}
use Rattle.links.specs.Labels.{label_at}
use Rattle.groups.specs.Parts.{Sized}
use Rattle.groups.proofs.Highest.{label_below}
use Rattle.marked.specs.Parts.{marked_in}
use Rattle.keep.specs.Marked.{crust_mark, is_inside, cover_mark}
use Rattle.keep.specs.Parts.{cover_in, ProbeAsked, CoverAsked, MarksOf}

-- a test as a number, as the code has it
pub as_bit : (b : Bool) → bool_byte b ≡ bit b
as_bit true = refl
as_bit false = refl

-- ---- marks, one after the other

-- the first i cells are marked
pub record Marking (mark : ℕ → Bool) (C w : List ℕ) (n i : ℕ) : Type 0 where
  pub sized : Sized C w n
  pub marks : (j : ℕ) → j < i → get_or (drop n w) j 0 ≡ bit (mark j)

pub marking_step : (mark : ℕ → Bool) (C w : List ℕ) (n i v : ℕ) → Marking mark C w n i → i < cells_of C → v ≡ bit (mark i)
    → Marking mark C (set w (n + i) v) n (i + 1)
marking_step mark C w n i v l h e = record {
  sized = record { cells = l.sized.cells; long = length-set w (n + i) v ∙ l.sized.long };
  marks = subst (λ (u : List ℕ). (j : ℕ) → j < i + 1 → get_or u j 0 ≡ bit (mark j)) (sym (drop-set-add n w i v))
      (below_set (λ j x. x ≡ bit (mark j)) (drop n w) i v (omega (arith, length-drop n w, l.sized.long)) l.marks e);
}

unit_marks : (b : Bool) → not (eqb (bit b) 0) ≡ b
unit_marks true = refl
unit_marks false = refl

pub marking_done : (mark : ℕ → Bool) (C w : List ℕ) (n i : ℕ) → Marking mark C w n i → cells_of C ≤ i → MarksOf mark C w n
unfolding marked_in
marking_done mark C w n i l d = record {
  sized = l.sized;
  marked = λ j h. ap (λ (k : ℕ). not (eqb k 0)) (l.marks j (omega arith)) ∙ unit_marks (mark j);
}

-- ---- the groups stay readable while the cells before are marked

module _ (C X Q w₀ : List ℕ) (n : ℕ) (a : CoverAsked C X Q w₀ n) where
  -- the entries of points are as they were, and those of cells from i on
  pub record Behind (w : List ℕ) (i : ℕ) : Type 0 where
    pub marking : Marking (cover_mark C X Q (cells_of C)) C w n i
    pub front : take n w ≡ take n w₀
    pub rest : (j : ℕ) → i ≤ j → get_or (drop n w) j 0 ≡ get_or (drop n w₀) j 0

  module _ (w : List ℕ) (i : ℕ) (l : Behind w i) (h : i < cells_of C) where
    root_same : get_or w (n + i) 0 ≡ get_or w₀ (n + i) 0
    root_same = sym (get_or-drop n w i 0) ∙ l.rest i (omega arith) ∙ get_or-drop n w₀ i 0

    label_same : get_or X i 0 ≡ 0 → get_or w (get_or w (n + i) 0) 0 ≡ label_at C X (cells_of C) i
    label_same z =
        let r : get_or w₀ (n + i) 0 < n = a.labelled.root i h z in
        ap (λ (k : ℕ). get_or w k 0) root_same
        ∙ sym (get_or-take n w (get_or w₀ (n + i) 0) 0 r) ∙ ap (λ (u : List ℕ). get_or u (get_or w₀ (n + i) 0) 0) l.front ∙ get_or-take n w₀ (get_or w₀ (n + i) 0) 0 r
        ∙ a.labelled.label i h z

    pub probe_asked : ProbeAsked X Q w n i
    probe_asked = record {
      inside = omega (arith, l.marking.sized.long);
      root = λ z. omega (arith, root_same, a.labelled.root i h z, l.marking.sized.long);
      label = λ z. omega (arith, label_same z, label_below C X (cells_of C) i h, a.probes);
    }

    pub cover_is : cover_in X Q w n i ≡ cover_mark C X Q (cells_of C) i
    unfolding cover_in cover_mark crust_mark is_inside
    cover_is = go (eq_or (get_or X i 0) 0)
      where
        go : (get_or X i 0 ≡ 0) ⊎ (get_or X i 0 ≢ 0)
            → not (eqb (get_or X i 0) 0) || not (eqb (get_or Q (get_or w (get_or w (n + i) 0) 0) 0) 0) ≡ not (eqb (get_or X i 0) 0) || not (eqb (get_or Q (label_at C X (cells_of C) i) 0) 0)
        go (inl z) = ap (λ (k : ℕ). not (eqb (get_or X i 0) 0) || not (eqb (get_or Q k 0) 0)) (label_same z)
        go (inr d) = rw (ne_eqb (get_or X i 0) 0 d) refl

    pub behind_step : {v : ℕ} → v ≡ bit (cover_in X Q w n i) → Behind (set w (n + i) v) (i + 1)
    behind_step {v} e = record {
      marking = marking_step (cover_mark C X Q (cells_of C)) C w n i v l.marking h (e ∙ ap bit cover_is);
      front = take-set-le n w (n + i) v (omega arith) ∙ l.front;
      rest = λ j b. ap (λ (u : List ℕ). get_or u j 0) (drop-set-add n w i v) ∙ get_or-set_other (drop n w) i j v 0 (above j b) ∙ l.rest j (omega arith);
    }
      where
        above : (j : ℕ) → i + 1 ≤ j → j ≢ i
        above j b q = omega arith
