-- Laws of words in bytes: how many there are, each of them, and there and back. Assumes nothing.
use mathlib.Core.Path.{◌≡◌, refl, sym, ap, ap₂, subst, ◌∙◌}
use mathlib.Core.Logic.{◌≢◌}
use mathlib.Core.Bool.{Bool, true, false, cond}
use mathlib.Core.List.{List, [], ◌∷◌, ◌++◌, append_assoc, append-nil}
use Prim.Native.Nat.{ℕ, zero, suc, ◌+◌, ◌*◌, ◌/◌, ◌%◌, ◌≤◌, ◌<◌}
use native.Mathlib.Nat.{add-zero}
use native.Mathlib.Omega.{arith}
use lib.ListN.{length, get_or, take, drop, length-append}
use lib.Seq.{length-take-le, drop-cons, drop-drop, take-add, get_or-append-add}
use Rattle.lists.specs.Tables.{list_of, all_below}
use Rattle.lists.proofs.Lent.{below_at, all_below_lem}
use Rattle.lists.proofs.Listing.{list_is, list_at, list_same, length_list}
use Rattle.words.specs.Words.{bytes4, bytes_of, four, word_at, words_at, cells_at}
use Rattle.words.specs.Parts.{turned_of}
use Rattle.std.specs.Int.{w32, from_le_bytes, from_be_bytes, to_le_bytes, to_be_bytes, swap_bytes}

-- ---- the library's words are these

pub low_word : (a b c d : ℕ) → from_le_bytes w32 (a ∷ b ∷ c ∷ d ∷ []) ≡ four false a b c d
low_word a b c d = omega arith

pub high_word : (a b c d : ℕ) → from_be_bytes w32 (a ∷ b ∷ c ∷ d ∷ []) ≡ four true a b c d
high_word a b c d = omega arith

pub library_bytes : (big : Bool) (x : ℕ) → x < 4294967296 → cond big (to_be_bytes w32 x) (to_le_bytes w32 x) ≡ bytes4 big x
unfolding bytes4
library_bytes false x h = let e : x / 16777216 % 256 ≡ x / 16777216 = omega arith in rw e refl
library_bytes true x h = let e : x / 16777216 % 256 ≡ x / 16777216 = omega arith in rw e refl

pub swapped : (x : ℕ) → x < 4294967296 → swap_bytes w32 x ≡ turned_of true x
unfolding turned_of
swapped x h = let e : x / 16777216 % 256 ≡ x / 16777216 = omega arith in omega arith

-- four bytes
abbrev pub Bytes : ℕ → ℕ → ℕ → ℕ → Type 0
Bytes a b c d = (a < 256) × (b < 256) × (c < 256) × (d < 256)

pub length_four : (big : Bool) (x : ℕ) → length (bytes4 big x) ≡ 4
unfolding bytes4
length_four false x = refl
length_four true x = refl

pub length_bytes : (big : Bool) (xs : List ℕ) → length (bytes_of big xs) ≡ 4 * length xs
unfolding bytes_of
length_bytes big [] = refl
length_bytes big (x ∷ xs) = length-append (bytes4 big x) (bytes_of big xs) ∙ omega (arith, length_four big x, length_bytes big xs)

-- the words from a place on
module _ (big : Bool) (b : List ℕ) (at n : ℕ) where
  pub length_words : length (words_at big b at n) ≡ n
  unfolding words_at
  length_words = length_list (λ k. word_at big b (at + 4 * k)) n

  pub words_at_lem : (i : ℕ) → i < n → get_or (words_at big b at n) i 0 ≡ word_at big b (at + 4 * i)
  unfolding words_at
  words_at_lem i h = list_at (λ k. word_at big b (at + 4 * k)) n i h

-- the cells from a place on
module _ (big : Bool) (stride : ℕ) (b : List ℕ) (at n : ℕ) where
  pub length_cells : length (cells_at big stride b at n) ≡ 4 * n
  unfolding cells_at
  length_cells = length_list (λ k. word_at big b (at + 4 * (stride * (k / 4) + k % 4))) (4 * n)

  -- the place of the vertex k of the cell i
  pub vertex_place : (i k : ℕ) → k < 4 → at + 4 * (stride * ((4 * i + k) / 4) + (4 * i + k) % 4) ≡ at + 4 * (stride * i) + 4 * k
  vertex_place i k h =
      let d : (4 * i + k) / 4 ≡ i = omega arith in
      let m : (4 * i + k) % 4 ≡ k = omega arith in
      rw (d, m) (omega arith)

  pub vertex_at : (i k : ℕ) → i < n → k < 4 → get_or (cells_at big stride b at n) (4 * i + k) 0 ≡ word_at big b (at + 4 * (stride * i) + 4 * k)
  unfolding cells_at
  vertex_at i k h l =
      list_at (λ j. word_at big b (at + 4 * (stride * (j / 4) + j % 4))) (4 * n) (4 * i + k) (omega arith) ∙ ap (word_at big b) (vertex_place i k l)

-- cells without a word between them are words
pub cells_plain : (big : Bool) (b : List ℕ) (at n : ℕ) → cells_at big 4 b at n ≡ words_at big b at (4 * n)
unfolding cells_at words_at
cells_plain big b at n =
    list_same (λ j. word_at big b (at + 4 * (4 * (j / 4) + j % 4))) (λ j. word_at big b (at + 4 * j)) (4 * n)
    (λ i h. let e : at + 4 * (4 * (i / 4) + i % 4) ≡ at + 4 * i = omega arith in ap (word_at big b) e)

-- words of bytes are small
word_small : (big : Bool) (b : List ℕ) (at : ℕ) → all_below 256 b ≡ true → at + 4 ≤ length b → word_at big b at < 4294967296
unfolding word_at
word_small big b at s h = go big
  where
    q : (i : ℕ) → i < length b → get_or b i 0 < 256
    q = below_at 256 b s

    go : (t : Bool) → four t (get_or b at 0) (get_or b (at + 1) 0) (get_or b (at + 2) 0) (get_or b (at + 3) 0) < 4294967296
    go false = omega (arith, q at (omega arith), q (at + 1) (omega arith), q (at + 2) (omega arith), q (at + 3) (omega arith))
    go true = omega (arith, q at (omega arith), q (at + 1) (omega arith), q (at + 2) (omega arith), q (at + 3) (omega arith))

pub words_small : (big : Bool) (b : List ℕ) (at n : ℕ) → all_below 256 b ≡ true → at + 4 * n ≤ length b → all_below 4294967296 (words_at big b at n) ≡ true
words_small big b at n s h =
    all_below_lem 4294967296 (words_at big b at n)
    (λ i k.
    let j : i < n = omega (arith, length_words big b at n) in
    omega (arith, words_at_lem big b at n i j, word_small big b (at + 4 * i) s (omega arith)))

-- ---- there and back

-- the four digits of a number to the base 256
module _ (a b c d : ℕ) (ha : a < 256) (hb : b < 256) (hc : c < 256) (hd : d < 256) where
  x : ℕ
  x = a + 256 * b + 65536 * c + 16777216 * d

  x_0 : x % 256 ≡ a
  unfolding x
  x_0 = omega arith

  x_1 : x / 256 ≡ b + 256 * c + 65536 * d
  unfolding x
  x_1 = omega arith

  x_2 : x / 65536 ≡ c + 256 * d
  unfolding x
  x_2 = omega arith

  x_3 : x / 16777216 ≡ d
  unfolding x
  x_3 = omega arith

  digit_1 : x / 256 % 256 ≡ b
  digit_1 = rw x_1 (omega arith)

  digit_2 : x / 65536 % 256 ≡ c
  digit_2 = rw x_2 (omega arith)

  low_bytes : bytes4 false x ≡ a ∷ b ∷ c ∷ d ∷ []
  unfolding bytes4
  low_bytes = rw (x_0, digit_1, digit_2, x_3)

  high_bytes : bytes4 true x ≡ d ∷ c ∷ b ∷ a ∷ []
  unfolding bytes4
  high_bytes = rw (x_0, digit_1, digit_2, x_3)

-- a word's bytes are its bytes in the file
four_bytes : (big : Bool) (a b c d : ℕ) → a < 256 → b < 256 → c < 256 → d < 256 → bytes4 big (four big a b c d) ≡ a ∷ b ∷ c ∷ d ∷ []
unfolding x
four_bytes false a b c d ha hb hc hd = low_bytes a b c d ha hb hc hd
four_bytes true a b c d ha hb hc hd = high_bytes d c b a hd hc hb ha

drop_four : (b : List ℕ) (at : ℕ) → at + 4 ≤ length b → take 4 (drop at b) ≡ get_or b at 0 ∷ get_or b (at + 1) 0 ∷ get_or b (at + 2) 0 ∷ get_or b (at + 3) 0 ∷ []
drop_four b at h =
    let e1 : at + 1 ≡ suc at = omega arith in
    let e2 : at + 2 ≡ suc (suc at) = omega arith in
    let e3 : at + 3 ≡ suc (suc (suc at)) = omega arith in
    rw (e1, e2, e3, drop-cons b at 0 (omega arith), drop-cons b (suc at) 0 (omega arith), drop-cons b (suc (suc at)) 0 (omega arith), drop-cons b (suc (suc (suc at))) 0 (omega arith))

pub word_bytes : (big : Bool) (b : List ℕ) (at : ℕ) → all_below 256 b ≡ true → at + 4 ≤ length b → bytes4 big (word_at big b at) ≡ take 4 (drop at b)
unfolding word_at
word_bytes big b at s h =
    four_bytes big _ _ _ _ (below_at 256 b s at (omega arith)) (below_at 256 b s (at + 1) (omega arith)) (below_at 256 b s (at + 2) (omega arith)) (below_at 256 b s (at + 3) (omega arith))
    ∙ sym (drop_four b at h)

pub bytes_append : (big : Bool) (xs ys : List ℕ) → bytes_of big (xs ++ ys) ≡ bytes_of big xs ++ bytes_of big ys
unfolding bytes_of
bytes_append big [] ys = refl
bytes_append big (x ∷ xs) ys = ap (λ (t : List ℕ). bytes4 big x ++ t) (bytes_append big xs ys) ∙ sym (append_assoc (bytes4 big x) (bytes_of big xs) (bytes_of big ys))

-- words that were read are written as the bytes that they were read from
pub words_bytes : (big : Bool) (b : List ℕ) (at n : ℕ) → all_below 256 b ≡ true → at + 4 * n ≤ length b
    → bytes_of big (words_at big b at n) ≡ take (4 * n) (drop at b)
unfolding bytes_of list_of words_at
words_bytes big b at zero s h = refl
words_bytes big b at (suc n) s h =
    let e : 4 * suc n ≡ 4 * n + 4 = omega arith in
    bytes_append big (words_at big b at n) (word_at big b (at + 4 * n) ∷ [])
    ∙ ap₂ (λ (x y : List ℕ). x ++ y) (words_bytes big b at n s (omega arith)) (append-nil (bytes4 big (word_at big b (at + 4 * n))) ∙ word_bytes big b (at + 4 * n) s (omega arith))
    ∙ ap (λ (t : List ℕ). take (4 * n) (drop at b) ++ take 4 t) (sym (drop-drop (4 * n) at b))
    ∙ sym (take-add (4 * n) 4 (drop at b))
    ∙ ap (λ (t : ℕ). take t (drop at b)) (sym e)

-- what is written is read back
bytes_four : (big : Bool) (x : ℕ) → x < 4294967296 → (rest : List ℕ) → word_at big (bytes4 big x ++ rest) 0 ≡ x
unfolding bytes4 word_at
bytes_four false x h rest =
    let a : x / 65536 ≡ x / 256 / 256 = omega arith in
    let b : x / 16777216 ≡ x / 65536 / 256 = omega arith in
    omega arith
bytes_four true x h rest =
    let a : x / 65536 ≡ x / 256 / 256 = omega arith in
    let b : x / 16777216 ≡ x / 65536 / 256 = omega arith in
    omega arith

at_more : (pre ys : List ℕ) (at k : ℕ) → at ≡ length pre → get_or (pre ++ ys) (at + k) 0 ≡ get_or ys k 0
at_more pre ys at k e = ap (λ (n : ℕ). get_or (pre ++ ys) (n + k) 0) e ∙ get_or-append-add pre ys k 0

-- four bytes are x exactly when, the low one read first, they are what x is turned into
module _ (a b c d v : ℕ) (s : Bytes a b c d) (h : v < 4294967296) where
  is_turned : (big : Bool) → four big a b c d ≡ v → four false a b c d ≡ turned_of big v
  unfolding turned_of x
  is_turned false e = e
  is_turned true e =
      subst (λ (y : ℕ). four false a b c d ≡ turned_of true y) e
      (sym (rw (x_0 d c b a s.3 s.2 s.1 s.0, digit_1 d c b a s.3 s.2 s.1 s.0, digit_2 d c b a s.3 s.2 s.1 s.0, x_3 d c b a s.3 s.2 s.1 s.0)))

  turned_is : (big : Bool) → four false a b c d ≡ turned_of big v → four big a b c d ≡ v
  unfolding turned_of x bytes4 word_at
  turned_is false e = e
  turned_is true e =
      let h3 : v / 16777216 < 256 = omega arith in
      let h2 : v / 65536 % 256 < 256 = omega arith in
      let h1 : v / 256 % 256 < 256 = omega arith in
      let h0 : v % 256 < 256 = omega arith in
      let ea : a ≡ v / 16777216 = sym (x_0 a b c d s.0 s.1 s.2 s.3) ∙ ap (λ (y : ℕ). y % 256) e ∙ x_0 _ _ _ _ h3 h2 h1 h0 in
      let eb : b ≡ v / 65536 % 256 = sym (digit_1 a b c d s.0 s.1 s.2 s.3) ∙ ap (λ (y : ℕ). y / 256 % 256) e ∙ digit_1 _ _ _ _ h3 h2 h1 h0 in
      let ec : c ≡ v / 256 % 256 = sym (digit_2 a b c d s.0 s.1 s.2 s.3) ∙ ap (λ (y : ℕ). y / 65536 % 256) e ∙ digit_2 _ _ _ _ h3 h2 h1 h0 in
      let ed : d ≡ v % 256 = sym (x_3 a b c d s.0 s.1 s.2 s.3) ∙ ap (λ (y : ℕ). y / 16777216) e ∙ x_3 _ _ _ _ h3 h2 h1 h0 in
      rw (ea, eb, ec, ed) (bytes_four true v h [])

  -- z are the four bytes, the low one first, and y is what v is turned into
  module _ {y z : ℕ} (big : Bool) (ez : z ≡ four false a b c d) (ey : y ≡ turned_of big v) where
    pub turned_same : z ≡ y → four big a b c d ≡ v
    turned_same e = turned_is big (sym ez ∙ e ∙ ey)

    pub turned_other : z ≢ y → four big a b c d ≢ v
    turned_other n e = n (ez ∙ is_turned big e ∙ sym ey)

-- a word behind others
pub word_behind : (big : Bool) (pre ys : List ℕ) (at k : ℕ) → at ≡ length pre → word_at big (pre ++ ys) (at + k) ≡ word_at big ys k
unfolding word_at
word_behind big pre ys at k e =
    let a1 : at + k + 1 ≡ at + (k + 1) = omega arith in
    let a2 : at + k + 2 ≡ at + (k + 2) = omega arith in
    let a3 : at + k + 3 ≡ at + (k + 3) = omega arith in
    rw (a1, a2, a3, at_more pre ys at k e, at_more pre ys at (k + 1) e, at_more pre ys at (k + 2) e, at_more pre ys at (k + 3) e)

pub word_there : (big : Bool) (pre post : List ℕ) (x at : ℕ) → at ≡ length pre → x < 4294967296 → word_at big (pre ++ (bytes4 big x ++ post)) at ≡ x
word_there big pre post x at e h =
    ap (word_at big (pre ++ (bytes4 big x ++ post))) (sym (add-zero at)) ∙ word_behind big pre (bytes4 big x ++ post) at 0 e ∙ bytes_four big x h post

-- word i of a list of words
word_in : (big : Bool) (xs post : List ℕ) (i : ℕ) → all_below 4294967296 xs ≡ true → i < length xs → word_at big (bytes_of big xs ++ post) (4 * i) ≡ get_or xs i 0
word_in big xs post i s h =
    let d : xs ≡ take i xs ++ (get_or xs i 0 ∷ drop (suc i) xs) = lib.Seq.split_at xs i 0 h in
    let l : 4 * i ≡ length (bytes_of big (take i xs)) = omega (arith, length_bytes big (take i xs), length-take-le i xs (omega arith)) in
    ap (λ (t : List ℕ). word_at big (bytes_of big t ++ post) (4 * i)) d
    ∙ ap (λ (t : List ℕ). word_at big (t ++ post) (4 * i)) (bytes_append big (take i xs) (get_or xs i 0 ∷ drop (suc i) xs))
    ∙ ap (λ (t : List ℕ). word_at big t (4 * i)) (apart (bytes_of big (take i xs)))
    ∙ word_there big (bytes_of big (take i xs)) (bytes_of big (drop (suc i) xs) ++ post) (get_or xs i 0) (4 * i) l (below_at 4294967296 xs s i h)
  where
    apart : (p : List ℕ) → p ++ bytes_of big (get_or xs i 0 ∷ drop (suc i) xs) ++ post ≡ p ++ (bytes4 big (get_or xs i 0) ++ (bytes_of big (drop (suc i) xs) ++ post))
    apart p = unfold bytes_of in simp append_assoc

pub words_there : (big : Bool) (pre xs post : List ℕ) (at n : ℕ) → at ≡ length pre → n ≡ length xs → all_below 4294967296 xs ≡ true
    → words_at big (pre ++ (bytes_of big xs ++ post)) at n ≡ xs
unfolding words_at
words_there big pre xs post at n e l s =
    list_is _ n xs (sym l) (λ i h. word_behind big pre (bytes_of big xs ++ post) at (4 * i) e ∙ word_in big xs post i s (omega arith))
