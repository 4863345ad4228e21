-- Laws of a count in a file. Assumes nothing.
use mathlib.Core.Path.{◌≡◌, refl, sym, ap, ◌∙◌}
use mathlib.Core.Logic.{◌≢◌, ◌⊎◌, inl, inr}
use mathlib.Core.Bool.{Bool, true, false, cond}
use mathlib.Core.List.{List, [], ◌∷◌, ◌++◌, append-nil}
use Prim.Native.Nat.{ℕ, zero, suc, ◌+◌, ◌-◌, ◌*◌, ◌/◌, ◌%◌, ◌^◌, ◌≤◌, ◌<◌}
use native.Mathlib.Nat.{add-zero, not-suc-le-zero, pow-le-pow_right}
use native.Mathlib.Numerals.{add-one}
use native.Mathlib.Omega.{arith}
use borrow.Author.Tests.{lt-ltb, le-ltb, le-leb, lt-leb, leb-true, ne_eqb}
use lib.Dec.{eqb, leb}
use lib.ListN.{length, get_or, drop, get_or-eq_default}
use lib.Seq.{drop-cons, get_or-drop, append_snoc}
use Rattle.lists.proofs.Bools.{and_left, and_right}
use Rattle.lists.proofs.Cases.{lt_or, eq_or}
use Rattle.decimal.specs.Digits.{digits_by, digits, is_digit, read, more_at, count_at, on_count}
use Rattle.decimal.specs.declared.Counted.{Counted}
use Rattle.refusals.specs.declared.Refusal.{Refusal}
use Rattle.refusals.specs.declared.Refusal.TheVariants.{Cut, Text}
use Rattle.std.specs.Prelude.{Result, Ok, Err}
use Rattle.decimal.proofs.Texts.{drop_on, in_file}
use Rattle.decimal.proofs.Decimals.{pow_ten, by_low, by_high, digits_low, digits_more, digits_few}

pub is_digit_lem : (x : ℕ) → 48 ≤ x → x ≤ 57 → is_digit x ≡ true
is_digit_lem x l h = rw (le-leb 48 x l, le-leb x 57 h)

pub not_low : (x : ℕ) → x < 48 → is_digit x ≡ false
not_low x h = rw (lt-leb 48 x h)

pub not_high : (x : ℕ) → 57 < x → is_digit x ≡ false
not_high x h = let l : 48 ≤ x = omega arith in rw (le-leb 48 x l, lt-leb x 57 h)

pub digit_within : (x : ℕ) → is_digit x ≡ true → (48 ≤ x) × (x ≤ 57)
digit_within x e = (leb-true 48 x (and_left (leb 48 x) (leb x 57) e), leb-true x 57 (and_right (leb 48 x) (leb x 57) e))

-- ---- the loop that reads digits

pub more_on : (b : List ℕ) (q x left y : ℕ) → 0 < left → y ≡ get_or b q 0 → 48 ≤ y → y ≤ 57 → more_at left b q x ≡ more_at (left - 1) b (q + 1) (10 * x + (y - 48))
unfolding more_at
more_on b q x zero y h e l g = absurd (not-suc-le-zero h)
more_on b q x (suc k) y h e l g = let n : suc k - 1 ≡ k = omega arith in rw (n, add-one q, ← e, is_digit_lem y l g)

pub more_off : (b : List ℕ) (q x left : ℕ) → is_digit (get_or b q 0) ≡ false → more_at left b q x ≡ read x q
unfolding more_at
more_off b q x zero e = refl
more_off b q x (suc k) e = rw e

pub more_ends : (b : List ℕ) (q x left : ℕ) → length b ≤ q → more_at left b q x ≡ read x q
more_ends b q x left h = more_off b q x left (ap is_digit (get_or-eq_default b 0 h))

pub record Counting (b : List ℕ) (at x value q i : ℕ) : Type 0 where
  pub less : i ≤ 9
  pub still : more_at 9 b at x ≡ more_at (9 - i) b q value
  pub small : value < 10 ^ suc i

module _ (b : List ℕ) (at x value q i : ℕ) (w : Counting b at x value q i) where
  pub counting_on : i < 9 → is_digit (get_or b q 0) ≡ true → Counting b at x (10 * value + (get_or b q 0 - 48)) (q + 1) (i + 1)
  counting_on h e =
      let n : 9 - i - 1 ≡ 9 - (i + 1) = omega arith in
      let d = digit_within (get_or b q 0) e in
      record {
        less = omega arith;
        still = w.still ∙ more_on b q value (9 - i) (get_or b q 0) (omega arith) refl d.0 d.1 ∙ ap (λ (k : ℕ). more_at k b (q + 1) (10 * value + (get_or b q 0 - 48))) n;
        small = rw (add-one i, pow_ten (suc i)) (omega (arith, w.small));
      }

  pub counting_off : is_digit (get_or b q 0) ≡ false → read value q ≡ more_at 9 b at x
  counting_off e = sym (w.still ∙ more_off b q value (9 - i) e)

  pub counting_ends : length b ≤ q → read value q ≡ more_at 9 b at x
  counting_ends h = sym (w.still ∙ more_ends b q value (9 - i) h)

  pub counting_done : 9 ≤ i → read value q ≡ more_at 9 b at x
  unfolding more_at
  counting_done h = let z : 9 - i ≡ 0 = omega arith in sym (w.still ∙ ap (λ (k : ℕ). more_at k b q value) z)

-- ---- the first digit

module _ (b : List ℕ) (at y : ℕ) (h : at < length b) (e : y ≡ get_or b at 0) where
  pub count_off : is_digit y ≡ false → Err Text ≡ count_at b at
  unfolding count_at
  count_off d = rw (lt-ltb at (length b) h, ← e, d)

  pub count_zero : y ≡ 48 → Ok (read 0 (at + 1)) ≡ count_at b at
  unfolding count_at
  count_zero z = rw (lt-ltb at (length b) h, ← e, z, add-one at)

  pub count_more : is_digit y ≡ true → y ≢ 48 → count_at b at ≡ Ok (more_at 9 b (at + 1) (y - 48))
  unfolding count_at
  count_more d z = rw (lt-ltb at (length b) h, ← e, d, ne_eqb _ _ z, add-one at)

pub count_ends : (b : List ℕ) (at : ℕ) → length b ≤ at → Err Cut ≡ count_at b at
unfolding count_at
count_ends b at h = rw (le-ltb at (length b) h)

-- ---- what reads as a count are its digits

record More (b : List ℕ) (at x v next : ℕ) : Type 0 where
  s : List ℕ
  same_digits : digits v ≡ digits x ++ s
  bytes : drop at b ≡ s ++ drop next b
  long : next ≡ at + length s
  small : v < 10000000000

no_more : (b : List ℕ) (at x v next m : ℕ) → m ≤ 10 → x < 10 ^ m → read x at ≡ read v next → More b at x v next
no_more b at x v next m h l e =
    let ev : x ≡ v = ap (λ (q : Counted). q.value) e in
    let en : at ≡ next = ap (λ (q : Counted). q.next) e in
    record {
      s = [];
      same_digits = sym (append-nil (digits x) ∙ ap digits ev);
      bytes = ap (λ (k : ℕ). drop k b) en;
      long = rw add-zero (sym en);
      small = omega (arith, pow-le-pow_right {n = 10} (omega arith) {i = m} {j = 10} h);
    }

more_found : (k m : ℕ) (b : List ℕ) (at x v next : ℕ) → m + k ≡ 10 → x < 10 ^ m → 0 < x → more_at k b at x ≡ read v next → More b at x v next
unfolding more_at
more_found zero m b at x v next h l p e = no_more b at x v next m (omega arith) l e
more_found (suc k) m b at x v next h l p e = by_byte (more_found k (suc m) b (suc at) (10 * x + (get_or b at 0 - 48)) v next (omega arith)) (lt_or (get_or b at 0) 48) (lt_or 57 (get_or b at 0))
  where
    stops : is_digit (get_or b at 0) ≡ false → More b at x v next
    stops d = no_more b at x v next m (omega arith) l (sym (more_off b at x (suc k) d) ∙ e)

    goes : 48 ≤ get_or b at 0 → get_or b at 0 ≤ 57 → More b (suc at) (10 * x + (get_or b at 0 - 48)) v next → More b at x v next
    goes g g' r =
        let i : at < length b = in_length (lt_or at (length b)) in
        let y : 48 + (get_or b at 0 - 48) ≡ get_or b at 0 = omega arith in
        let w : 10 * x + (get_or b at 0 - 48) < 100000000000000000000 = omega (arith, pow-le-pow_right {n = 10} (omega arith) {i = m} {j = 10} (omega arith)) in
        let d : digits (10 * x + (get_or b at 0 - 48)) ≡ digits x ++ (get_or b at 0 ∷ []) =
        digits_more x (get_or b at 0 - 48) p (omega arith) w ∙ ap (λ (z : ℕ). digits x ++ (z ∷ [])) y in
        record {
          s = get_or b at 0 ∷ r.s;
          same_digits = r.same_digits ∙ ap (λ (t : List ℕ). t ++ r.s) d ∙ append_snoc (digits x) (get_or b at 0) r.s;
          bytes = drop-cons b at 0 i ∙ ap (λ (t : List ℕ). get_or b at 0 ∷ t) r.bytes;
          long = omega (arith, r.long);
          small = r.small;
        }
      where
        in_length : (at < length b) ⊎ (length b ≤ at) → at < length b
        in_length (inl i) = i
        in_length (inr i) = absurd (omega (arith, get_or-eq_default b 0 i))

    by_byte : (10 * x + (get_or b at 0 - 48) < 10 ^ suc m → 0 < 10 * x + (get_or b at 0 - 48) → more_at k b (suc at) (10 * x + (get_or b at 0 - 48)) ≡ read v next → More b (suc at) (10 * x + (get_or b at 0 - 48)) v next)
        → (get_or b at 0 < 48) ⊎ (48 ≤ get_or b at 0) → (57 < get_or b at 0) ⊎ (get_or b at 0 ≤ 57) → More b at x v next
    by_byte go (inl f) g = stops (not_low (get_or b at 0) f)
    by_byte go (inr f) (inl g) = stops (not_high (get_or b at 0) g)
    by_byte go (inr f) (inr g) = goes f g (go (omega (arith, pow_ten m)) (omega arith) (rw (is_digit_lem (get_or b at 0) f g) at e))

-- the places of a count that is there
pub record CountHere (b : List ℕ) (at v next : ℕ) : Type 0 where
  pub small : v < 10000000000
  pub long : next ≡ at + length (digits v)
  pub bytes : drop at b ≡ digits v ++ drop next b

pub never_read : (k : Refusal) (v next : ℕ) → ◌≡◌ {A = Result Counted Refusal} (Err k) (Ok (read v next)) → ⊥
never_read k v next d = cc

pub count_found : (b : List ℕ) (at v next : ℕ) → count_at b at ≡ Ok (read v next) → CountHere b at v next
count_found b at v next e = by_tests (lt_or at (length b)) (lt_or (get_or b at 0) 48) (lt_or 57 (get_or b at 0)) (eq_or (get_or b at 0) 48)
  where
    zero_here : at < length b → get_or b at 0 ≡ 48 → ◌≡◌ {A = Result Counted Refusal} (Ok (read 0 (at + 1))) (Ok (read v next)) → CountHere b at v next
    zero_here l y d =
        let r : read 0 (at + 1) ≡ read v next = cc in
        let ev : 0 ≡ v = ap (λ (q : Counted). q.value) r in
        let en : at + 1 ≡ next = ap (λ (q : Counted). q.next) r in
        let one : digits v ≡ 48 ∷ [] = ap digits (sym ev) ∙ digits_low 0 (omega arith) in
        record {
          small = omega arith;
          long = rw (one) (sym en);
          bytes = rw (one, drop-cons b at 0 l, y, ← en, add-one at);
        }

    more_here : at < length b → 48 ≤ get_or b at 0 → get_or b at 0 ≤ 57 → get_or b at 0 ≢ 48 → More b (at + 1) (get_or b at 0 - 48) v next → CountHere b at v next
    more_here l g g' n r =
        let y : 48 + (get_or b at 0 - 48) ≡ get_or b at 0 = omega arith in
        let d : digits v ≡ get_or b at 0 ∷ r.s =
        r.same_digits ∙ ap (λ (t : List ℕ). t ++ r.s) (digits_low (get_or b at 0 - 48) (omega arith)) ∙ ap (λ (z : ℕ). z ∷ r.s) y in
        record {
          small = r.small;
          long = rw d (omega (arith, r.long));
          bytes = rw d (drop-cons b at 0 l ∙ ap (λ (t : List ℕ). get_or b at 0 ∷ t) (ap (λ (k : ℕ). drop k b) (sym (add-one at)) ∙ r.bytes));
        }

    found : ◌≡◌ {A = Result Counted Refusal} (Ok (more_at 9 b (at + 1) (get_or b at 0 - 48))) (Ok (read v next)) → more_at 9 b (at + 1) (get_or b at 0 - 48) ≡ read v next
    found d = cc

    by_tests : (at < length b) ⊎ (length b ≤ at) → (get_or b at 0 < 48) ⊎ (48 ≤ get_or b at 0) → (57 < get_or b at 0) ⊎ (get_or b at 0 ≤ 57)
        → (get_or b at 0 ≡ 48) ⊎ (get_or b at 0 ≢ 48) → CountHere b at v next
    by_tests (inr l) f g n = absurd (never_read Cut v next (count_ends b at l ∙ e))
    by_tests (inl l) (inl f) g n = absurd (never_read Text v next (count_off b at (get_or b at 0) l refl (not_low (get_or b at 0) f) ∙ e))
    by_tests (inl l) (inr f) (inl g) n = absurd (never_read Text v next (count_off b at (get_or b at 0) l refl (not_high (get_or b at 0) g) ∙ e))
    by_tests (inl l) (inr f) (inr g) (inl n) = zero_here l n (count_zero b at (get_or b at 0) l refl n ∙ e)
    by_tests (inl l) (inr f) (inr g) (inr n) =
        more_here l f g n (more_found 9 1 b (at + 1) (get_or b at 0 - 48) v next refl (omega arith) (omega (arith, pos n)) (found (sym (count_more b at (get_or b at 0) l refl (is_digit_lem (get_or b at 0) f g) n) ∙ e)))
      where
        pos : get_or b at 0 ≢ 48 → 48 < get_or b at 0
        pos d = go (lt_or 48 (get_or b at 0))
          where
            go : (48 < get_or b at 0) ⊎ (get_or b at 0 ≤ 48) → 48 < get_or b at 0
            go (inl i) = i
            go (inr i) = absurd (d (omega arith))

-- a count that the file ends before
pub count_cut : (b : List ℕ) (at : ℕ) → count_at b at ≡ Err Cut → length b ≤ at
unfolding count_at
count_cut b at e = by_end (lt_or at (length b))
  where
    by_byte : (s t : Bool) → ◌≡◌ {A = Result Counted Refusal} (cond s (cond t (Ok (read 0 (suc at))) (Ok (more_at 9 b (suc at) (get_or b at 0 - 48)))) (Err Text)) (Err Cut) → ⊥
    by_byte true true f = cc
    by_byte true false f = cc
    by_byte false t f = cc

    by_end : (at < length b) ⊎ (length b ≤ at) → length b ≤ at
    by_end (inl l) = absurd (by_byte (is_digit (get_or b at 0)) (eqb (get_or b at 0) 48) (rw (lt-ltb at (length b) l) at e))
    by_end (inr l) = l

-- ---- the digits of a count read as it

value_from : ℕ → List ℕ → ℕ
value_from x [] = x
value_from x (y ∷ s) = value_from (10 * x + (y - 48)) s

value_snoc : (s : List ℕ) (x y : ℕ) → value_from x (s ++ (y ∷ [])) ≡ 10 * value_from x s + (y - 48)
unfolding value_from
value_snoc [] x y = refl
value_snoc (z ∷ s) x y = value_snoc s (10 * x + (z - 48)) y

data AllDigits : List ℕ → Type 0 where
  none : AllDigits []
  more : {y : ℕ} {s : List ℕ} → 48 ≤ y → y ≤ 57 → AllDigits s → AllDigits (y ∷ s)

digits_snoc : {s : List ℕ} {y : ℕ} → AllDigits s → 48 ≤ y → y ≤ 57 → AllDigits (s ++ (y ∷ []))
digits_snoc none l h = more l h none
digits_snoc (more a b d) l h = more a b (digits_snoc d l h)

-- a number that is not 0: its first digit is not 0, and its digits have its value
record Shape (l : List ℕ) (n : ℕ) : Type 0 where
  head : ℕ
  tail : List ℕ
  parts : l ≡ head ∷ tail
  low : 49 ≤ head
  high : head ≤ 57
  rest : AllDigits tail
  value : value_from (head - 48) tail ≡ n

one_digit : (n : ℕ) → 0 < n → n < 10 → Shape ((48 + n) ∷ []) n
unfolding value_from
one_digit n p h = record { head = 48 + n; tail = []; parts = refl; low = omega arith; high = omega arith; rest = none; value = omega arith }

shape : (k n : ℕ) → 0 < n → n < 10 ^ suc k → Shape (digits_by k n) n
shape zero n p h = rw (by_low zero n h) (one_digit n p h)
shape (suc k) n p h = by_size (shape k (n / 10)) (lt_or n 10)
  where
    by_size : (0 < n / 10 → n / 10 < 10 ^ suc k → Shape (digits_by k (n / 10)) (n / 10)) → (n < 10) ⊎ (10 ≤ n) → Shape (digits_by (suc k) n) n
    by_size go (inl l) = rw (by_low (suc k) n l) (one_digit n p l)
    by_size go (inr l) =
        let s = go (omega arith) (omega (arith, pow_ten (suc k))) in
        record {
          head = s.head;
          tail = s.tail ++ ((48 + n % 10) ∷ []);
          parts = by_high k n l ∙ ap (λ (t : List ℕ). t ++ ((48 + n % 10) ∷ [])) s.parts;
          low = s.low;
          high = s.high;
          rest = digits_snoc s.rest (omega arith) (omega arith);
          value = value_snoc s.tail (s.head - 48) (48 + n % 10) ∙ omega (arith, s.value);
        }

more_there : (s rest b : List ℕ) (k at x : ℕ) → AllDigits s → length s ≤ k → drop at b ≡ s ++ rest → is_digit (get_or rest 0 0) ≡ false
    → more_at k b at x ≡ read (value_from x s) (at + length s)
unfolding value_from more_at
more_there [] rest b k at x d h e n =
    let y : get_or b at 0 ≡ get_or rest 0 0 = ap (λ (j : ℕ). get_or b j 0) (sym (add-zero at)) ∙ sym (get_or-drop at b 0 0) ∙ ap (λ (t : List ℕ). get_or t 0 0) e in
    more_off b at x k (ap is_digit y ∙ n) ∙ ap (read x) (sym (add-zero at))
more_there (y ∷ s) rest b zero at x d h e n = absurd (not-suc-le-zero h)
more_there (y ∷ s) rest b (suc k) at x (more l g d) h e n =
    let i = in_file b y (s ++ rest) at e in
    let f : drop (suc at) b ≡ s ++ rest = ap (λ (j : ℕ). drop j b) (sym (add-one at)) ∙ drop_on (y ∷ []) (s ++ rest) b at e in
    let p : at + length (y ∷ s) ≡ suc at + length s = omega arith in
    rw (i.1, is_digit_lem y l g, p) (more_there s rest b k (suc at) (10 * x + (y - 48)) d (omega arith) f n)

pub count_there : (v : ℕ) (rest b : List ℕ) (at : ℕ) → v < 10000000000 → drop at b ≡ digits v ++ rest → is_digit (get_or rest 0 0) ≡ false
    → count_at b at ≡ Ok (read v (at + length (digits v)))
unfolding digits
count_there v rest b at h e n = by_size (eq_or v 0)
  where
    by_size : (v ≡ 0) ⊎ (v ≢ 0) → count_at b at ≡ Ok (read v (at + length (digits v)))
    by_size (inl z) =
        let d : digits v ≡ 48 ∷ [] = ap digits z ∙ digits_low 0 (omega arith) in
        let i = in_file b 48 rest at (e ∙ ap (λ (t : List ℕ). t ++ rest) d) in
        sym (count_zero b at (get_or b at 0) i.0 refl i.1) ∙ rw (d, z)
    by_size (inr z) =
        let p : 0 < v = pos (lt_or 0 v) in
        let s = shape 19 v p (omega arith) in
        let i = in_file b s.head (s.tail ++ rest) at (e ∙ ap (λ (t : List ℕ). t ++ rest) s.parts) in
        let f : drop (at + 1) b ≡ s.tail ++ rest = drop_on (s.head ∷ []) (s.tail ++ rest) b at (e ∙ ap (λ (t : List ℕ). t ++ rest) s.parts) in
        let few : length s.tail ≤ 9 = omega (arith, ap length s.parts, digits_few 9 v (omega arith) h) in
        let long : at + length (digits v) ≡ at + 1 + length s.tail = omega (arith, ap length s.parts) in
        count_more b at s.head i.0 (sym i.1) (is_digit_lem s.head (omega (arith, s.low)) s.high) (λ q. omega (arith, s.low))
        ∙ ap Ok (more_there s.tail rest b 9 (at + 1) (s.head - 48) s.rest few f n)
        ∙ rw (s.value, long)
      where
        pos : (0 < v) ⊎ (v ≤ 0) → 0 < v
        pos (inl l) = l
        pos (inr l) = absurd (z (omega arith))

-- ---- what follows a count

module _ {A : Type 0} (c : Result Counted Refusal) (stop : Refusal → A) (next : ℕ → ℕ → A) where
  count_stopped : (k : Refusal) → c ≡ Err k → on_count c stop next ≡ stop k
  unfolding on_count
  count_stopped k e = rw e

  pub count_went : (v at : ℕ) → c ≡ Ok (read v at) → on_count c stop next ≡ next v at
  unfolding on_count
  count_went v at e = rw e

  pub count_halted : (k : Refusal) → Err k ≡ c → stop k ≡ on_count c stop next
  count_halted k e = sym (count_stopped k (sym e))

  pub count_onwards : (v at : ℕ) {r : A} → Ok (read v at) ≡ c → r ≡ next v at → r ≡ on_count c stop next
  count_onwards v at e f = f ∙ sym (count_went v at (sym e))

  pub count_either_way : (P : A → Type 0) → ((k : Refusal) → c ≡ Err k → P (stop k)) → ((v at : ℕ) → c ≡ Ok (read v at) → P (next v at)) → P (on_count c stop next)
  count_either_way P no_way way = by_count c refl
    where
      by_count : (q : Result Counted Refusal) → c ≡ q → P (on_count c stop next)
      by_count (Ok r) e = rw (count_went r.value r.next e) (way r.value r.next e)
      by_count (Err k) e = rw (count_stopped k e) (no_way k e)
