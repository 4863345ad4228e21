-- What is written as a mesh file is found in it. Assumes nothing.
use mathlib.Core.Path.{◌≡◌, refl, sym, ap, subst, ◌∙◌}
use mathlib.Core.Bool.{true, false}
use mathlib.Core.List.{List, [], ◌++◌, append_assoc, append-nil}
use Prim.Native.Nat.{ℕ, ◌+◌, ◌*◌, ◌/◌, ◌≤◌, ◌<◌}
use native.Mathlib.Omega.{arith}
use lib.ListN.{length, length-append}
use Rattle.lists.specs.Tables.{all_below}
use Rattle.words.specs.Words.{bytes4, bytes_of, words_at}
use Rattle.words.proofs.Words.{length_four, word_there, words_there, cells_plain}
use Rattle.file_components.specs.Blocks.{points_in, cells_in, numbers_in}
use Rattle.mesh_layout.specs.Layout.{section, encode, count_at, end_of, second, third, end, blocks_of}
use Rattle.mesh_layout.specs.Parts.{Entries, Standing, Laid}
use Rattle.mesh_layout.proofs.Sections.{three, four, one, length_section}

-- ---- one section

-- words that a section can hold, w to an entry
pub record Holds (w : ℕ) (words : List ℕ) : Type 0 where
  pub entries : length words ≡ w * (length words / w)
  pub count : length words / w < 4294967296
  pub small : all_below 4294967296 words ≡ true

-- the section at a place is this one
record Is (w : ℕ) (b : List ℕ) (at : ℕ) (words : List ℕ) : Type 0 where
  counted : count_at b at ≡ length words / w
  reads : words_at false b (at + 4) (w * count_at b at) ≡ words
  ends : end_of w b at ≡ at + length (section w words)
  within : at + length (section w words) ≤ length b

-- a section that was written between other bytes is read there
section_is : (w at : ℕ) (pre words post : List ℕ) → at ≡ length pre → Holds w words → Is w (pre ++ (section w words ++ post)) at words
unfolding section end_of
section_is w at pre words post e h =
    let n : ℕ = length words / w in
    let b : List ℕ = pre ++ (section w words ++ post) in
    let d : b ≡ pre ++ (bytes4 false n ++ (bytes_of false words ++ post)) = ap (λ (t : List ℕ). pre ++ t) (append_assoc (bytes4 false n) (bytes_of false words) post) in
    let d' : b ≡ (pre ++ bytes4 false n) ++ (bytes_of false words ++ post) = d ∙ sym (append_assoc pre (bytes4 false n) (bytes_of false words ++ post)) in
    let c : count_at b at ≡ n = ap (λ (t : List ℕ). count_at t at) d ∙ word_there false pre (bytes_of false words ++ post) n at e h.count in
    let l : w * count_at b at ≡ length words = ap (λ (k : ℕ). w * k) c ∙ sym h.entries in
    let f : at + 4 ≡ length (pre ++ bytes4 false n) = omega (arith, length-append pre (bytes4 false n), length_four false n) in
    record {
      counted = c;
      reads =
          ap (words_at false b (at + 4)) l ∙ ap (λ (t : List ℕ). words_at false t (at + 4) (length words)) d'
          ∙ words_there false (pre ++ bytes4 false n) words post (at + 4) (length words) f refl h.small;
      ends = omega (arith, length_section w words);
      within = omega (arith, length-append pre (section w words ++ post), length-append (section w words) post);
    }

stands : (w : ℕ) (b : List ℕ) (at : ℕ) (words : List ℕ) → Entries w → Is w b at words → Standing w b at
stands w b at words e i = record { entries = e; counted = omega (arith, i.within, length_section w words); fits = omega (arith, i.within, i.ends) }

-- ---- the file

-- a file in which these are found
pub record Found (b P C N : List ℕ) : Type 0 where
  pub laid : Laid b
  pub points : points_in b (blocks_of b) ≡ P
  pub cells : cells_in b (blocks_of b) ≡ C
  pub numbers : numbers_in b (blocks_of b) ≡ N
  pub count_points : (blocks_of b).p ≡ length P / 3
  pub count_cells : (blocks_of b).n ≡ length C / 4
  pub count_numbers : (blocks_of b).m ≡ length N

module _ (P C N : List ℕ) (hp : Holds 3 P) (hc : Holds 4 C) (hn : Holds 1 N) where
  b : List ℕ
  b = encode P C N

  A : List ℕ
  A = section 3 P

  B : List ℕ
  B = section 4 C

  D : List ℕ
  D = section 1 N

  first_is : Is 3 b 0 P
  unfolding b encode
  first_is = section_is 3 0 [] P (section 4 C ++ section 1 N) refl hp

  second_is : Is 4 b (length A) C
  unfolding b encode A
  second_is = section_is 4 (length A) A C (section 1 N) refl hc

  third_is : Is 1 b (length (A ++ B)) N
  unfolding b encode A B D
  third_is =
      subst (λ (l : List ℕ). Is 1 l (length (A ++ B)) N) (append_assoc A B (D ++ []) ∙ ap (λ (l : List ℕ). A ++ (B ++ l)) (append-nil D))
      (section_is 1 (length (A ++ B)) (A ++ B) N [] refl hn)

  second_at : second b ≡ length A
  unfolding A
  second_at = first_is.ends ∙ omega arith

  third_at : third b ≡ length (A ++ B)
  unfolding A B
  third_at = ap (end_of 4 b) second_at ∙ second_is.ends ∙ sym (length-append A B)

  end_at : end b ≡ length b
  unfolding b encode A B D
  end_at = ap (end_of 1 b) third_at ∙ third_is.ends ∙ omega (arith, length-append A B, length-append A (B ++ D), length-append B D)

  pub encode_found : Found (encode P C N) P C N
  unfolding b blocks_of
  encode_found = record {
    laid = record {
      points = stands 3 b 0 P three first_is;
      cells = subst (Standing 4 b) (sym second_at) (stands 4 b (length A) C four second_is);
      numbers = subst (Standing 1 b) (sym third_at) (stands 1 b (length (A ++ B)) N one third_is);
      all = omega (arith, end_at);
    };
    points = first_is.reads;
    cells =
        cells_plain false b (second b + 4) (count_at b (second b))
        ∙ ap (λ (k : ℕ). words_at false b (k + 4) (4 * count_at b k)) second_at ∙ second_is.reads;
    numbers =
        let z : count_at b (third b) ≡ 1 * count_at b (third b) = omega arith in
        ap (words_at false b (third b + 4)) z ∙ ap (λ (k : ℕ). words_at false b (k + 4) (1 * count_at b k)) third_at ∙ third_is.reads;
    count_points = first_is.counted;
    count_cells = ap (count_at b) second_at ∙ second_is.counted;
    count_numbers = ap (count_at b) third_at ∙ third_is.counted ∙ omega arith;
  }

-- how long a file is
pub length_encode : (P C N : List ℕ) → length (encode P C N) ≡ 12 + 4 * length P + 4 * length C + 4 * length N
unfolding encode
length_encode P C N =
    length-append (section 3 P) (section 4 C ++ section 1 N)
    ∙ omega (arith, length-append (section 4 C) (section 1 N), length_section 3 P, length_section 4 C, length_section 1 N)
