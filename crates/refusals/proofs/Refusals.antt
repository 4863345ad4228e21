-- Laws of the refusals and their numbers. Assumes nothing.
use mathlib.Core.Path.{◌≡◌, refl, sym, ap, ◌∙◌}
use mathlib.Core.Logic.{◌⊎◌, inl, inr, ◌≢◌}
use mathlib.Core.Bool.{Bool, true, false, cond}
use mathlib.Core.List.{List, [], ◌∷◌, ◌++◌}
use Prim.Native.Nat.{ℕ}
use native.Mathlib.Omega.{arith}
use borrow.Author.Tests.{eqb-true}
use lib.Dec.{eqb, ltb}
use Rattle.std.specs.Prelude.{Result, Err}
use Rattle.refusals.specs.Rows.{Row, ◌when◌, first, proper, unless}
use Rattle.refusals.specs.Causes.{room_rows}
use Rattle.refusals.specs.Refusals.{as_number, as_refusal, named, refused, count_number}
use Rattle.refusals.specs.declared.Refusal.{Refusal}
use Rattle.refusals.specs.declared.Refusal.TheVariants.{CellSize, Bounds, Levels, TooLarge, Length, Byte, Ungraded, Point, NoRoom, NothingKept, Cut, Trailing, Numbers, Text, Shape, Range, Twice}
use Rattle.refusals.specs.declared.CountError.{CountError}
use Rattle.refusals.specs.declared.CountError.TheVariants.{Short}
use Rattle.lists.proofs.Cases.{eq_or}
use Rattle.lists.proofs.Bools.{and_left, and_right}
use Rattle.refusals.proofs.Rows.{unless_none, unless_some, stops, goes_on}

-- a refusal is the one of its number
pub its_own : (why : Refusal) → as_refusal (as_number why) ≡ why
unfolding as_refusal
its_own CellSize = refl
its_own Bounds = refl
its_own Levels = refl
its_own TooLarge = refl
its_own Length = refl
its_own Byte = refl
its_own Ungraded = refl
its_own Point = refl
its_own NoRoom = refl
its_own NothingKept = refl
its_own Cut = refl
its_own Trailing = refl
its_own Numbers = refl
its_own Text = refl
its_own Shape = refl
its_own Range = refl
its_own Twice = refl

-- and its number is not 0
pub above_none : (why : Refusal) → as_number why ≢ 0
above_none CellSize e = absurd (omega (arith, e))
above_none Bounds e = absurd (omega (arith, e))
above_none Levels e = absurd (omega (arith, e))
above_none TooLarge e = absurd (omega (arith, e))
above_none Length e = absurd (omega (arith, e))
above_none Byte e = absurd (omega (arith, e))
above_none Ungraded e = absurd (omega (arith, e))
above_none Point e = absurd (omega (arith, e))
above_none NoRoom e = absurd (omega (arith, e))
above_none NothingKept e = absurd (omega (arith, e))
above_none Cut e = absurd (omega (arith, e))
above_none Trailing e = absurd (omega (arith, e))
above_none Numbers e = absurd (omega (arith, e))
above_none Text e = absurd (omega (arith, e))
above_none Shape e = absurd (omega (arith, e))
above_none Range e = absurd (omega (arith, e))
above_none Twice e = absurd (omega (arith, e))

-- where a judge gave this refusal, what follows the number is what it makes of the refusal
pub handed_up : {A : Type 0} {n : ℕ} (R : Refusal → A) (a : A) (why : Refusal) → as_number why ≡ n → unless n (λ k. R (as_refusal k)) a ≡ R why
handed_up {A} {n} R a why e =
    ap (λ (k : ℕ). unless k (λ j. R (as_refusal j)) a) (sym e)
    ∙ unless_some (as_number why) (λ j. R (as_refusal j)) a (above_none why)
    ∙ ap R (its_own why)

-- the number of the first row is that of a refusal, where there is one
pub first_named : (l : List Row) → named l ≡ true → first l ≢ 0 → as_number (as_refusal (first l)) ≡ first l
unfolding first named
first_named [] h d = absurd (d refl)
first_named (k when true ∷ l) h d = eqb-true _ _ (and_left (eqb (as_number (as_refusal k)) k) (named l) h)
first_named (k when false ∷ l) h d = first_named l (and_right (eqb (as_number (as_refusal k)) k) (named l) h) d

-- a step's number is that of the first row, where what follows the first rows has the number of the others
pub named_rows : {A : Type 0} (number : A → ℕ) (R : ℕ → A) (a : A) (rows more : List Row) → proper rows ≡ true → named rows ≡ true
    → ((k : ℕ) → number (R k) ≡ as_number (as_refusal k)) → number a ≡ first more → number (unless (first rows) R a) ≡ first (rows ++ more)
named_rows number R a rows more h w n e = go (eq_or (first rows) 0)
  where
    go : (first rows ≡ 0) ⊎ (first rows ≢ 0) → number (unless (first rows) R a) ≡ first (rows ++ more)
    go (inl z) = ap number (unless_none (first rows) R a z) ∙ e ∙ sym (goes_on rows more h refl z)
    go (inr d) = ap number (unless_some (first rows) R a d) ∙ n (first rows) ∙ first_named rows w d ∙ stops rows more refl d

-- and where nothing follows them that refuses
pub named_alone : {A : Type 0} (number : A → ℕ) (R : ℕ → A) (a : A) (rows : List Row) → named rows ≡ true
    → ((k : ℕ) → number (R k) ≡ as_number (as_refusal k)) → number a ≡ 0 → number (unless (first rows) R a) ≡ first rows
named_alone number R a rows w n e = go (eq_or (first rows) 0)
  where
    go : (first rows ≡ 0) ⊎ (first rows ≢ 0) → number (unless (first rows) R a) ≡ first rows
    go (inl z) = ap number (unless_none (first rows) R a z) ∙ e ∙ sym z
    go (inr d) = ap number (unless_some (first rows) R a d) ∙ n (first rows) ∙ first_named rows w d

-- ---- a step that counts

-- short of room, and else what follows
pub room_number : {A : Type 0} (room need count : ℕ) (a : Result A CountError) (more : List Row) → count_number a ≡ first more
    → count_number (cond (ltb room need) (Err (Short count)) a) ≡ first (room_rows room need ++ more)
unfolding first room_rows
room_number {A} room need count a more e = go (ltb room need)
  where
    go : (t : Bool) → count_number {A = A} (cond t (Err (Short count)) a) ≡ cond t 9 (first more)
    go true = refl
    go false = e

-- refused, and else what follows
pub counted_number : {A : Type 0} (rows more : List Row) (a : Result A CountError) → proper rows ≡ true → named rows ≡ true
    → count_number a ≡ first more → count_number (unless (first rows) refused a) ≡ first (rows ++ more)
counted_number {A} rows more a h w e = named_rows count_number refused a rows more h w (λ k. refl) e
