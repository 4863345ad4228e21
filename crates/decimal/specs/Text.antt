-- A text in a file, read from the front. b is the list of the file's bytes.
use Rattle.std.specs.Prelude.{cond, List, [], ◌∷◌, ℕ, suc, eqb, ltb, length, get_or, Result, Ok, Err}
use Prim.Native.Char.{code}
use Prim.Native.String.{String, [] as none, ◌∷◌ as ◌then◌}
use Rattle.refusals.specs.declared.Refusal.{Refusal}
use Rattle.refusals.specs.declared.Refusal.TheVariants.{Cut, Text}

-- the bytes of a text
unfoldable pub text_of : String → List ℕ
text_of none = []
text_of (c then s) = code c ∷ text_of s

-- where a text ends that stands at a place: refused with 14 at the first byte that departs, with 11 where the file ends before any does
unfoldable pub text_at : List ℕ → List ℕ → ℕ → Result ℕ Refusal
text_at [] b at = Ok at
text_at (x ∷ t) b at = cond (ltb at (length b)) (cond (eqb (get_or b at 0) x) (text_at t b (suc at)) (Err Text)) (Err Cut)

-- what follows a part that is there
unfoldable pub on_place : {A : Type 0} → Result ℕ Refusal → (Refusal → A) → (ℕ → A) → A
on_place (Ok at) stopped next = next at
on_place (Err why) stopped next = stopped why
