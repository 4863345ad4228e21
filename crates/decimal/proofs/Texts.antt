-- Laws of texts in a file. Assumes nothing.
use mathlib.Core.Path.{◌≡◌, refl, sym, ap, ◌∙◌}
use mathlib.Core.Logic.{◌≢◌, ◌⊎◌, inl, inr}
use mathlib.Core.Bool.{Bool, true, false, cond}
use mathlib.Core.List.{List, [], ◌∷◌, ◌++◌}
use Prim.Native.Nat.{ℕ, suc, ◌+◌, ◌/◌, ◌≤◌, ◌<◌}
use native.Mathlib.Nat.{add-zero}
use native.Mathlib.Numerals.{add-one}
use native.Mathlib.Omega.{arith}
use borrow.Author.Tests.{lt-ltb, le-ltb, eq-eqb, ne_eqb}
use lib.Dec.{ltb}
use lib.ListN.{length, get_or, set, take, drop, length-set}
use lib.Seq.{length-sets, sets-eq, take_at, drop-cons, drop-drop, drop-append_seam}
use Rattle.lists.specs.Runs.{Stored}
use Rattle.lists.proofs.Cases.{lt_or, eq_or}
use Rattle.decimal.specs.Text.{text_at, on_place}
use Rattle.decimal.specs.Digits.{digits, none_at, number_at}
use Rattle.refusals.specs.declared.Refusal.{Refusal}
use Rattle.refusals.specs.declared.Refusal.TheVariants.{Cut, Text}
use Rattle.std.specs.Prelude.{Result, Ok, Err}
use Rattle.std.specs.Result.{IsErrAnd}
use Rattle.std.proofs.lemmas.Result.{err_from_is_err_and}

-- ---- the loop that passes over a text

module _ (t b : List ℕ) (i q : ℕ) (h : i < length t) where
  pub text_on : q < length b → get_or b q 0 ≡ get_or t i 0 → text_at (drop i t) b q ≡ text_at (drop (i + 1) t) b (q + 1)
  unfolding text_at
  text_on l e = rw (add-one i, add-one q, drop-cons t i 0 h, lt-ltb q (length b) l, eq-eqb _ _ e)

  pub text_off : q < length b → get_or b q 0 ≢ get_or t i 0 → text_at (drop i t) b q ≡ Err Text
  unfolding text_at
  text_off l e = rw (drop-cons t i 0 h, lt-ltb q (length b) l, ne_eqb _ _ e)

  pub text_ends : length b ≤ q → text_at (drop i t) b q ≡ Err Cut
  unfolding text_at
  text_ends l = rw (drop-cons t i 0 h, le-ltb q (length b) l)

pub text_done : (t b : List ℕ) (i q : ℕ) → length t ≤ i → text_at (drop i t) b q ≡ Ok q
unfolding text_at
text_done t b i q h = rw (lib.ListN.drop_of_length-le t h)

-- ---- there and back

pub never_at : (k : Refusal) (next : ℕ) → ◌≡◌ {A = Result ℕ Refusal} (Err k) (Ok next) → ⊥
never_at k next d = cc

pub other_stop : {j k : Refusal} → (j ≡ k → ⊥) → ◌≡◌ {A = Result ℕ Refusal} (Err j) (Err k) → ⊥
other_stop d e = d (cc)

-- the places of a text that is there
pub record Here (t b : List ℕ) (at next : ℕ) : Type 0 where
  pub long : next ≡ at + length t
  pub bytes : drop at b ≡ t ++ drop next b

pub text_found : (t b : List ℕ) (at next : ℕ) → text_at t b at ≡ Ok next → Here t b at next
unfolding text_at
text_found [] b at next e = let n : at ≡ next = cc in record { long = rw add-zero (sym n); bytes = ap (λ (k : ℕ). drop k b) n }
text_found (x ∷ t) b at next e = by_tests (text_found t b (suc at) next) (lt_or at (length b)) (eq_or (get_or b at 0) x)
  where
    by_tests : (text_at t b (suc at) ≡ Ok next → Here t b (suc at) next) → (at < length b) ⊎ (length b ≤ at) → (get_or b at 0 ≡ x) ⊎ (get_or b at 0 ≢ x) → Here (x ∷ t) b at next
    by_tests go (inl l) (inl d) =
        let r : Here t b (suc at) next = go (rw (lt-ltb at (length b) l, eq-eqb _ _ d) at e) in
        record { long = omega (arith, r.long); bytes = rw (drop-cons b at 0 l, d) (ap (λ (s : List ℕ). x ∷ s) r.bytes) }
    by_tests go (inl l) (inr d) = absurd (never_at Text next (rw (lt-ltb at (length b) l, ne_eqb _ _ d) at e))
    by_tests go (inr l) d = absurd (never_at Cut next (rw (le-ltb at (length b) l) at e))

-- a text that the file ends in: so much of it is there, and this is missing
pub record Missing (t s : List ℕ) : Type 0 where
  pub rest : List ℕ
  pub whole : t ≡ s ++ rest

pub text_cut : (t b : List ℕ) (at : ℕ) → text_at t b at ≡ Err Cut → Missing t (drop at b)
unfolding text_at
text_cut [] b at e = absurd (never_at Cut at (sym e))
text_cut (x ∷ t) b at e = by_tests (text_cut t b (suc at)) (lt_or at (length b)) (eq_or (get_or b at 0) x)
  where
    by_tests : (text_at t b (suc at) ≡ Err Cut → Missing t (drop (suc at) b)) → (at < length b) ⊎ (length b ≤ at) → (get_or b at 0 ≡ x) ⊎ (get_or b at 0 ≢ x)
        → Missing (x ∷ t) (drop at b)
    by_tests go (inl l) (inl d) =
        let r : Missing t (drop (suc at) b) = go (rw (lt-ltb at (length b) l, eq-eqb _ _ d) at e) in
        let f : x ∷ drop (suc at) b ≡ drop at b = ap (λ (y : ℕ). y ∷ drop (suc at) b) (sym d) ∙ sym (drop-cons b at 0 l) in
        record { rest = r.rest; whole = ap (λ (s : List ℕ). x ∷ s) r.whole ∙ ap (λ (s : List ℕ). s ++ r.rest) f }
    by_tests go (inl l) (inr d) = absurd (other_stop (λ q. cc) (rw (lt-ltb at (length b) l, ne_eqb _ _ d) at e))
    by_tests go (inr l) d = record { rest = x ∷ t; whole = ap (λ (s : List ℕ). s ++ (x ∷ t)) (sym (lib.ListN.drop_of_length-le b l)) }

-- what is left behind bytes that are there
pub drop_on : (t rest b : List ℕ) (at : ℕ) → drop at b ≡ t ++ rest → drop (at + length t) b ≡ rest
drop_on t rest b at e = sym (drop-drop (length t) at b) ∙ ap (drop (length t)) e ∙ drop-append_seam t rest

-- a place that has a byte
pub in_file : (b : List ℕ) (x : ℕ) (rest : List ℕ) (at : ℕ) → drop at b ≡ x ∷ rest → (at < length b) × (get_or b at 0 ≡ x)
in_file b x rest at e = go (lt_or at (length b))
  where
    go : (at < length b) ⊎ (length b ≤ at) → (at < length b) × (get_or b at 0 ≡ x)
    go (inl l) = let d = drop-cons b at 0 l in (l, cc)
    go (inr l) = let d : drop at b ≡ [] = lib.ListN.drop_of_length-le b l in absurd (let z : ◌≡◌ {A = ℕ} 0 1 = cc in omega arith)

pub text_there : (t rest b : List ℕ) (at : ℕ) → drop at b ≡ t ++ rest → text_at t b at ≡ Ok (at + length t)
unfolding text_at
text_there [] rest b at e = ap Ok (sym (add-zero at))
text_there (x ∷ t) rest b at e =
    let i = in_file b x (t ++ rest) at e in
    let n : at + length (x ∷ t) ≡ suc at + length t = omega arith in
    let d : drop (suc at) b ≡ t ++ rest = ap (λ (k : ℕ). drop k b) (sym (add-one at)) ∙ drop_on (x ∷ []) (t ++ rest) b at e in
    rw (lt-ltb at (length b) i.0, eq-eqb _ _ i.1, n) (text_there t rest b (suc at) d)

-- what a call was refused with is handed up
pub exits : {T : Type 0} {r : Result T Refusal} {k : Refusal} → IsErrAnd r (λ y. y ≡ k) → r ≡ Err k
exits {T} {r} h = let p = err_from_is_err_and r h in p.1 ∙ ap Err p.2

-- ---- parts one behind another

module _ {A : Type 0} (p : Result ℕ Refusal) (stop : Refusal → A) (next : ℕ → A) where
  -- a part that is not there stops the whole, and behind one that is there the next follows
  pub stopped : (k : Refusal) → p ≡ Err k → on_place p stop next ≡ stop k
  unfolding on_place
  stopped k e = rw e

  pub went : (at : ℕ) → p ≡ Ok at → on_place p stop next ≡ next at
  unfolding on_place
  went at e = rw e

  -- the same for a call that answers the part
  pub halted : (k : Refusal) → Err k ≡ p → stop k ≡ on_place p stop next
  halted k e = sym (stopped k (sym e))

  pub onwards : (at : ℕ) {r : A} → Ok at ≡ p → r ≡ next at → r ≡ on_place p stop next
  onwards at e f = f ∙ sym (went at (sym e))

  -- what holds of both ways
  pub either_way : (P : A → Type 0) → ((k : Refusal) → p ≡ Err k → P (stop k)) → ((at : ℕ) → p ≡ Ok at → P (next at)) → P (on_place p stop next)
  either_way P no_way way = by_place p refl
    where
      by_place : (q : Result ℕ Refusal) → p ≡ q → P (on_place p stop next)
      by_place (Ok at) e = rw (went at e) (way at e)
      by_place (Err k) e = rw (stopped k e) (no_way k e)

-- ---- the digits of a number

module _ (n : ℕ) (b : List ℕ) (at : ℕ) where
  pub number_low : n < 10000000000 → number_at n b at ≡ text_at (digits n) b at
  unfolding number_at
  number_low h = rw (lt-ltb n 10000000000 h)

  number_high : 10000000000 ≤ n → number_at n b at ≡ on_place (text_at (digits (n / 10)) b at) Err (none_at b)
  unfolding number_at
  number_high h = rw (le-ltb n 10000000000 h)

  module _ (h : 10000000000 ≤ n) where
    pub number_stops : (k : Refusal) → Err k ≡ text_at (digits (n / 10)) b at → Err k ≡ number_at n b at
    number_stops k e = sym (number_high h ∙ stopped (text_at (digits (n / 10)) b at) Err (none_at b) k (sym e))

    pub number_ends : (next : ℕ) → Ok next ≡ text_at (digits (n / 10)) b at → length b ≤ next → Err Cut ≡ number_at n b at
    unfolding none_at
    number_ends next e l = sym (number_high h ∙ went (text_at (digits (n / 10)) b at) Err (none_at b) next (sym e) ∙ rw (le-ltb next (length b) l))

    pub number_over : (next : ℕ) → Ok next ≡ text_at (digits (n / 10)) b at → next < length b → Err Text ≡ number_at n b at
    unfolding none_at
    number_over next e l = sym (number_high h ∙ went (text_at (digits (n / 10)) b at) Err (none_at b) next (sym e) ∙ rw (lt-ltb next (length b) l))

  -- digits that are there are ten at most
  pub number_small : (next : ℕ) → number_at n b at ≡ Ok next → n < 10000000000
  unfolding none_at
  number_small next e = by_size (lt_or n 10000000000)
    where
      none : (t : Bool) → cond t (Err Text) (Err Cut) ≡ Ok next → ⊥
      none true f = never_at Text next f
      none false f = never_at Cut next f

      by_size : (n < 10000000000) ⊎ (10000000000 ≤ n) → n < 10000000000
      by_size (inl l) = l
      by_size (inr l) =
          absurd
          (either_way (text_at (digits (n / 10)) b at) Err (none_at b) (λ r. r ≡ Ok next → ⊥) (λ k d. never_at k next) (λ q d. none (ltb q (length b)))
          (sym (number_high l) ∙ e))

  pub number_found : (next : ℕ) → number_at n b at ≡ Ok next → Here (digits n) b at next
  number_found next e = text_found (digits n) b at next (sym (number_low (number_small next e)) ∙ e)

-- ---- a text stored in front of a table

module _ (o t o' : List ℕ) (r : ℕ) (s : Stored o 0 t r o') (h : length t ≤ length o) where
  pub front_in : r ≤ length o'
  front_in = omega (arith, s.count, ap length s.kept, length-sets o 0 t)

  pub front_is : take r o' ≡ t
  front_is = ap (take r) (s.kept ∙ sets-eq t o 0 (omega arith)) ∙ take_at t _ r (omega (arith, s.count))
