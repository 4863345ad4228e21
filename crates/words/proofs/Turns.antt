-- The turns of the loops over words. Assumes nothing.
use mathlib.Core.Path.{◌≡◌, refl, sym, ap, ap₂, ◌∙◌}
use mathlib.Core.Logic.{◌≢◌}
use mathlib.Core.Bool.{Bool, true, false, ◌&&◌, and-true, and_assoc}
use mathlib.Core.List.{List, [], ◌∷◌}
use Prim.Native.Nat.{ℕ, ◌+◌, ◌*◌, ◌/◌, ◌%◌, ◌≤◌, ◌<◌}
use native.Mathlib.Nat.{add-zero}
use native.Mathlib.Numerals.{add-one}
use native.Mathlib.Omega.{arith}
use lib.Dec.{ltb}
use lib.ListN.{length, get_or, take, drop, replicate, length-drop, take-append-drop}
use lib.Seq.{sets, length-sets, length-take-le, drop-cons, drop-length, drop-drop, get_or-take, get_or-drop}
use Rattle.lists.specs.Tables.{list_of, all_below, same}
use Rattle.lists.proofs.Lent.{below_append, below_end}
use Rattle.lists.proofs.Listing.{list_is, each_on, each_off, each_end, Filling, filling_four, filling_done}
use Rattle.lists.proofs.Parts.{sets_append}
use Rattle.lists.proofs.Tests.{falls, stays}
use Rattle.words.specs.Words.{bytes4, bytes_of, word_at, words_at, cells_at}
use Rattle.words.proofs.Words.{length_four, length_words, words_at_lem, length_cells, vertex_place, vertex_at}

-- ---- cells that are read

-- the word that entry j of a table of cells gets
abbrev pub vertex_word : Bool → ℕ → List ℕ → ℕ → ℕ → ℕ
vertex_word big stride b at j = word_at big b (at + 4 * (stride * (j / 4) + j % 4))

module _ (big : Bool) (stride : ℕ) (b : List ℕ) (at n : ℕ) where
  pub cell_read : {y₀ y y' q : List ℕ} {i : ℕ} → Filling (vertex_word big stride b at) y₀ y (4 * i) → length y₀ ≡ 4 * n → i < n
      → q ≡ words_at big b (at + 4 * (stride * i)) 4 → y' ≡ sets y (4 * i) q → Filling (vertex_word big stride b at) y₀ y' (4 * (i + 1))
  unfolding words_at list_of
  cell_read {y₀} {y} {y'} {q} {i} w l h e f =
      let m : 4 * i + 4 ≡ 4 * (i + 1) = omega arith in
      let z0 : 4 * i + 0 ≡ 4 * i = omega arith in
      let p0 = vertex_place big stride b at n i 0 (omega arith) in
      rw (← m)
      (filling_four (vertex_word big stride b at) w (omega (arith, w.long))
      (ap (word_at big b) (sym p0) ∙ ap (vertex_word big stride b at) z0)
      (ap (word_at big b) (sym (vertex_place big stride b at n i 1 (omega arith))))
      (ap (word_at big b) (sym (vertex_place big stride b at n i 2 (omega arith))))
      (ap (word_at big b) (sym (vertex_place big stride b at n i 3 (omega arith))))
      (f ∙ ap (sets y (4 * i)) e))

  pub cells_read : {y₀ y : List ℕ} {i : ℕ} → Filling (vertex_word big stride b at) y₀ y (4 * i) → length y₀ ≡ 4 * n → n ≤ i → y ≡ cells_at big stride b at n
  unfolding cells_at
  cells_read w l h = filling_done (vertex_word big stride b at) w (omega (arith, w.long)) ∙ ap (list_of (vertex_word big stride b at)) l

-- ---- four words compared with a bound

pub four_tests : (a b c d bound : ℕ) → ltb a bound && ltb b bound && ltb c bound && ltb d bound ≡ all_below bound (a ∷ b ∷ c ∷ d ∷ [])
unfolding all_below
four_tests a b c d bound = rw (and-true (ltb d bound)) (and_assoc (ltb a bound && ltb b bound) (ltb c bound) (ltb d bound) ∙ and_assoc (ltb a bound) (ltb b bound) (ltb c bound && ltb d bound))

-- the cell i among those that are still to be compared
module _ (big : Bool) (stride : ℕ) (b : List ℕ) (at n bound i : ℕ) where
  cell_words : i < n → take 4 (drop (4 * i) (cells_at big stride b at n)) ≡ words_at big b (at + 4 * (stride * i)) 4
  unfolding words_at
  cell_words h =
      let W : List ℕ = cells_at big stride b at n in
      sym
      (list_is (λ k. word_at big b (at + 4 * (stride * i) + 4 * k)) 4 (take 4 (drop (4 * i) W))
      (length-take-le 4 (drop (4 * i) W) (omega (arith, length-drop (4 * i) W, length_cells big stride b at n)))
      (λ k l. sym (vertex_at big stride b at n i k h l) ∙ sym (get_or-drop (4 * i) W k 0) ∙ sym (get_or-take 4 (drop (4 * i) W) k 0 l)))

  pub cell_below : i < n → all_below bound (drop (4 * i) (cells_at big stride b at n))
      ≡ all_below bound (words_at big b (at + 4 * (stride * i)) 4) && all_below bound (drop (4 * (i + 1)) (cells_at big stride b at n))
  cell_below h =
      let W : List ℕ = cells_at big stride b at n in
      let j : 4 * i + 4 ≡ 4 * (i + 1) = omega arith in
      ap (all_below bound) (sym (take-append-drop 4 (drop (4 * i) W))) ∙ below_append bound (take 4 (drop (4 * i) W)) (drop 4 (drop (4 * i) W))
      ∙ ap₂ (λ (x y : List ℕ). all_below bound x && all_below bound y) (cell_words h) (drop-drop 4 (4 * i) W ∙ ap (λ (k : ℕ). drop k W) j)

  pub below_by : {t : Bool} → i < n → all_below bound (words_at big b (at + 4 * (stride * i)) 4) ≡ t
      → all_below bound (drop (4 * i) (cells_at big stride b at n)) ≡ t && all_below bound (drop (4 * (i + 1)) (cells_at big stride b at n))
  below_by h e = cell_below h ∙ ap (λ (t : Bool). t && all_below bound (drop (4 * (i + 1)) (cells_at big stride b at n))) e

  pub below_all : n ≤ i → all_below bound (drop (4 * i) (cells_at big stride b at n)) ≡ true
  below_all h = below_end bound (4 * i) (cells_at big stride b at n) (omega (arith, length_cells big stride b at n))

-- ---- the loop that compares words with one value

module _ (big : Bool) (b : List ℕ) (at n x : ℕ) where
  -- what is still to be compared, beside what was found
  abbrev pub comparing : Bool → ℕ → Bool
  comparing all i = all && same (drop i (words_at big b at n)) (drop i (replicate n x))

  module _ (i : ℕ) (all : Bool) where
    here : i < n → get_or (words_at big b at n) i 0 ≡ word_at big b (at + 4 * i)
    here h = words_at_lem big b at n i h

    pub are_not : {all' : Bool} {y : ℕ} → i < n → y ≡ word_at big b (at + 4 * i) → y ≢ x → all' ≡ false → comparing all i ≡ comparing all' (i + 1)
    are_not h e d =
        falls all (same (drop (i + 1) (words_at big b at n)) (drop (i + 1) (replicate n x)))
        (each_off (words_at big b at n) n i x (length_words big b at n) h (λ q. d (e ∙ sym (here h) ∙ q)))

    pub are_still : {all' : Bool} {y : ℕ} → i < n → y ≡ word_at big b (at + 4 * i) → y ≡ x → all' ≡ all → comparing all i ≡ comparing all' (i + 1)
    are_still h e d = stays all (each_on (words_at big b at n) n i x (length_words big b at n) h (here h ∙ sym e ∙ d))

    pub are_all : n ≤ i → comparing all i ≡ all
    are_all h = ap (λ (t : Bool). all && t) (each_end (words_at big b at n) n i x (length_words big b at n) h) ∙ and-true all

-- ---- the loop that writes words: what is still to be written makes up the whole

pub record Writing (big : Bool) (src o₀ : List ℕ) (at : ℕ) (o : List ℕ) (i : ℕ) : Type 0 where
  pub less : i ≤ length src
  pub long : length o ≡ length o₀
  pub left : sets o (at + 4 * i) (bytes_of big (drop i src)) ≡ sets o₀ at (bytes_of big src)

pub writing_start : (big : Bool) (src o : List ℕ) (at : ℕ) → Writing big src o at o 0
writing_start big src o at = record { less = omega arith; long = refl; left = rw add-zero }

pub writing_on : (big : Bool) (src o₀ : List ℕ) (at : ℕ) (o : List ℕ) (i : ℕ) {o1 : List ℕ} {x : ℕ} → Writing big src o₀ at o i → i < length src
    → x ≡ get_or src i 0 → o1 ≡ sets o (at + 4 * i) (bytes4 big x) → Writing big src o₀ at o1 (i + 1)
unfolding bytes_of
writing_on big src o₀ at o i {o1} {x} w h g e =
    let rest : List ℕ = bytes_of big (drop (i + 1) src) in
    let d : drop i src ≡ x ∷ drop (i + 1) src = rw (g, add-one i, drop-cons src i 0) in
    let a : at + 4 * (i + 1) ≡ at + 4 * i + length (bytes4 big x) = omega (arith, length_four big x) in
    record {
      less = omega arith;
      long = ap length e ∙ length-sets o (at + 4 * i) (bytes4 big x) ∙ w.long;
      left =
          ap (λ (t : List ℕ). sets t (at + 4 * (i + 1)) rest) e ∙ ap (λ (t : ℕ). sets (sets o (at + 4 * i) (bytes4 big x)) t rest) a
          ∙ sym (sets_append (bytes4 big x) rest o (at + 4 * i))
          ∙ ap (λ (t : List ℕ). sets o (at + 4 * i) (bytes_of big t)) (sym d)
          ∙ w.left;
    }

pub writing_done : (big : Bool) (src o₀ : List ℕ) (at : ℕ) (o : List ℕ) (i : ℕ) → Writing big src o₀ at o i → length src ≤ i
    → o ≡ sets o₀ at (bytes_of big src)
unfolding bytes_of
writing_done big src o₀ at o i w h =
    let e : i ≡ length src = omega (arith, w.less) in
    let d : drop i src ≡ [] = rw (e, drop-length) in
    ap (λ (t : List ℕ). sets o (at + 4 * i) (bytes_of big t)) (sym d) ∙ w.left
