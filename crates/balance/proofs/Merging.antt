-- Marking the shell of a row. Assumes nothing.
use mathlib.Core.Path.{◌≡◌, refl, ap, sym, ◌∙◌}
use mathlib.Core.Bool.{Bool, false, ◌||◌, or-false, or_assoc}
use mathlib.Core.List.{List}
use Prim.Native.Nat.{ℕ, zero, suc, ◌+◌, ◌≤◌}
use native.Mathlib.Omega.{arith}
use native.Mathlib.Numerals.{add-one}
use borrow.Author.Tests.{le-leb, lt-leb}
use Rattle.lists.specs.Tests.{any}
use Rattle.octree.specs.Sweep.{one}
use Rattle.balance.specs.Parts.{from, some, Merged}

-- ---- rows after one another

merged_then : {a b c : List ℕ} {w : ℕ} {f g h : ℕ → Bool} → Merged a b w f → Merged b c w g → ((x : ℕ) → f x || g x ≡ h x) → Merged a c w h
merged_then {a} {b} {c} {w} {f} {g} {h} p q e =
    record {
      long = q.long ∙ p.long;
      marks = λ x i. q.marks x i ∙ ap (λ (t : Bool). t || g x) (p.marks x i) ∙ or_assoc (one a (x + 1)) (f x) (g x) ∙ ap (λ (t : Bool). one a (x + 1) || t) (e x);
      before = q.before ∙ p.before;
      past = λ j i. q.past j i ∙ p.past j i;
    }

some_none : (n lo : ℕ) (f : ℕ → Bool) → n ≤ lo → any n (from lo f) ≡ false
unfolding any
some_none zero lo f h = refl
some_none (suc n) lo f h = rw (some_none n lo f (omega arith), lt-leb lo n h)

-- no row yet, and one row more
pub marks_none : (a : List ℕ) (w lo : ℕ) (F : ℕ → ℕ → Bool) → Merged a a w (λ x. some lo lo (λ y. F y x))
marks_none a w lo F =
    record {
      long = refl;
      marks = λ x h. sym (or-false (one a (x + 1))) ∙ ap (λ (t : Bool). one a (x + 1) || t) (sym (some_none lo lo (λ y. F y x) (omega arith)));
      before = refl;
      past = λ j h. refl;
    }

pub marks_more : {a b c : List ℕ} {w : ℕ} (lo y : ℕ) (F : ℕ → ℕ → Bool) → lo ≤ y → Merged a b w (λ x. some lo y (λ k. F k x)) → Merged b c w (F y)
    → Merged a c w (λ x. some lo (y + 1) (λ k. F k x))
unfolding any
marks_more lo y F h p q = merged_then p q (λ x. rw (add-one y, le-leb lo y h))
