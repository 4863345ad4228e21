-- Decimal digits without leading zeros, as bytes, and a count of at most ten of them in a file.
use Rattle.std.specs.Prelude.{Bool, cond, ◌&&◌, List, [], ◌∷◌, ◌++◌, ℕ, zero, suc, ◌+◌, ◌-◌, ◌*◌, ◌/◌, ◌%◌, eqb, ltb, leb, length, get_or, Result, Ok, Err}
use Rattle.decimal.specs.Text.{text_at, on_place}
use Rattle.decimal.specs.declared.Counted.{Counted}
use Rattle.refusals.specs.declared.Refusal.{Refusal}
use Rattle.refusals.specs.declared.Refusal.TheVariants.{Cut, Text}

-- the digits of a number of at most k + 1 of them; 48 is the byte of 0
unfoldable pub digits_by : ℕ → ℕ → List ℕ
digits_by zero n = (48 + n) ∷ []
digits_by (suc k) n = cond (ltb n 10) ((48 + n) ∷ []) (digits_by k (n / 10) ++ ((48 + n % 10) ∷ []))

-- those of a number of 64 bits
unfoldable pub digits : ℕ → List ℕ
digits n = digits_by 19 n

-- the digits of a number where a file repeats a count; where they are more than ten, no byte is right behind the first ten
unfoldable pub none_at : List ℕ → ℕ → Result ℕ Refusal
none_at b at = cond (ltb at (length b)) (Err Text) (Err Cut)

unfoldable pub number_at : ℕ → List ℕ → ℕ → Result ℕ Refusal
number_at n b at = cond (ltb n 10000000000) (text_at (digits n) b at) (on_place (text_at (digits (n / 10)) b at) Err (none_at b))

abbrev pub is_digit : ℕ → Bool
is_digit x = leb 48 x && leb x 57

-- a count that is there, and the place after it
abbrev pub read : ℕ → ℕ → Counted
read value at = record { value = value; next = at }

-- up to k digits from a place on, behind digits of the value x
unfoldable pub more_at : ℕ → List ℕ → ℕ → ℕ → Counted
more_at zero b at x = read x at
more_at (suc k) b at x = cond (is_digit (get_or b at 0)) (more_at k b (suc at) (10 * x + (get_or b at 0 - 48))) (read x at)

-- the count at a place: a 0, or up to ten digits of which the first is not 0
unfoldable pub count_at : List ℕ → ℕ → Result Counted Refusal
count_at b at =
    cond (ltb at (length b))
    (cond (is_digit (get_or b at 0)) (cond (eqb (get_or b at 0) 48) (Ok (read 0 (suc at))) (Ok (more_at 9 b (suc at) (get_or b at 0 - 48)))) (Err Text))
    (Err Cut)

-- what follows a count that is there
unfoldable pub on_count : {A : Type 0} → Result Counted Refusal → (Refusal → A) → (ℕ → ℕ → A) → A
on_count (Ok count) stopped next = next count.value count.next
on_count (Err why) stopped next = stopped why
