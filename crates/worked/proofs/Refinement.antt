-- The refinement of two crossing tables of box all 0, c 1, L 2, by computation. A table of bits is read as one number, by arithmetic on numerals, so
-- that the definitions compute quickly.
use mathlib.Core.Path.{◌≡◌, refl, ap, sym, ◌∙◌, fun_ext, subst}
use mathlib.Core.Bool.{Bool, true, false, ◌&&◌}
use mathlib.Core.List.{List, [], ◌∷◌}
use Prim.Native.Nat.{ℕ, zero, suc, ◌+◌, ◌*◌, ◌-◌, ◌/◌, ◌%◌, ◌^◌, ◌<◌}
use native.Mathlib.Omega.{arith}
use native.Mathlib.Nat.{zero-div, zero-mod, div-one, div-div-eq-div-mul, pow-succ', pow-zero}
use lib.Dec.{eqb, ltb}
use lib.ListN.{get_or}
use borrow.Author.Tests.{ltb-true}
use Rattle.space.specs.Space.{Pos}
use Rattle.lists.specs.Tests.{any}
use Rattle.octants.specs.Oct.{Tree, balanced, near, raw_from, refined}
use Rattle.lists.proofs.Bools.{and_both}
use Rattle.space.specs.Levels.{off, depth}
use Rattle.worked.specs.Worked.{six, root_and_child, child_alone, Splits}
use Rattle.octants.specs.Table.{slot, read, total, refine_of, tab, levels, table}

unfoldable are_bits : List ℕ → Bool
are_bits [] = true
are_bits (x ∷ xs) = ltb x 2 && are_bits xs

unfoldable packed : List ℕ → ℕ
packed [] = 0
packed (x ∷ xs) = x + 2 * packed xs

packed_at : (s : List ℕ) → are_bits s ≡ true → (i : ℕ) → get_or s i 0 ≡ packed s / 2 ^ i % 2
unfolding are_bits packed
packed_at [] h i = simp (zero-div, zero-mod)
packed_at (x ∷ xs) h zero =
    let p : x < 2 = ltb-true x 2 (and_both (ltb x 2) (are_bits xs) h).0 in
    simp (pow-zero, div-one) (omega arith)
packed_at (x ∷ xs) h (suc i) =
    let p : x < 2 = ltb-true x 2 (and_both (ltb x 2) (are_bits xs) h).0 in
    let e : (x + 2 * packed xs) / 2 ≡ packed xs = omega arith in
    packed_at xs (and_both (ltb x 2) (are_bits xs) h).1 i
    ∙ ap (λ (n : ℕ). n / 2 ^ i % 2) (sym e)
    ∙ ap (λ (n : ℕ). n % 2) (div-div-eq-div-mul (x + 2 * packed xs) 2 (2 ^ i))
    ∙ ap (λ (n : ℕ). (x + 2 * packed xs) / n % 2) (sym (pow-succ' 2 i))

unfoldable read_packed : Pos → ℕ → ℕ → Tree
read_packed d l n zero x = false
read_packed d l n (suc m) x = eqb (n / 2 ^ (off d (l - suc m) + slot (depth d (l - suc m)) x) % 2) 1

read_packed_lem : (d : Pos) (l : ℕ) (s : List ℕ) → are_bits s ≡ true → read d l s ≡ read_packed d l (packed s)
unfolding read read_packed
read_packed_lem d l s h = fun_ext (λ m. fun_ext (λ x. go m x))
  where
    go : (m : ℕ) (x : Pos) → read d l s m x ≡ read_packed d l (packed s) m x
    go zero x = refl
    go (suc m) x = ap (λ (n : ℕ). eqb n 1) (packed_at s h (off d (l - suc m) + slot (depth d (l - suc m)) x))

by_number : (s : List ℕ) (n : ℕ) → are_bits s ≡ true → packed s ≡ n → table six 2 (refined 2 six (read_packed six 2 n)) ≡ refine_of six 2 s
by_number s n h e = sym (ap (λ (c : Tree). table six 2 (refined 2 six c)) (read_packed_lem six 2 s h ∙ ap (read_packed six 2) e))

both_number : table six 2 (refined 2 six (read_packed six 2 (2 ^ 86 + 2 ^ 844))) ≡ refine_of six 2 root_and_child
unfolding are_bits packed
both_number = by_number root_and_child (2 ^ 86 + 2 ^ 844) refl refl

child_number : table six 2 (refined 2 six (read_packed six 2 (2 ^ 844))) ≡ refine_of six 2 child_alone
unfolding are_bits packed
child_number = by_number child_alone (2 ^ 844) refl refl

both_splits : Splits (table six 2 (refined 2 six (read_packed six 2 (2 ^ 86 + 2 ^ 844)))) 9 1
unfolding balanced near any raw_from read_packed off total levels tab
both_splits = (refl, refl)

child_splits : Splits (table six 2 (refined 2 six (read_packed six 2 (2 ^ 844)))) 0 0
unfolding balanced near any raw_from read_packed off total levels tab
child_splits = (refl, refl)

pub root_and_child_lem : Splits (refine_of six 2 root_and_child) 9 1
root_and_child_lem = subst (λ (s : List ℕ). Splits s 9 1) both_number both_splits

pub child_alone_lem : Splits (refine_of six 2 child_alone) 0 0
child_alone_lem = subst (λ (s : List ℕ). Splits s 0 0) child_number child_splits
