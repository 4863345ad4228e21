-- A file whose sections are there is what is written for what is read. Assumes nothing.
use mathlib.Core.Path.{◌≡◌, sym, ap, ap₂, ◌∙◌}
use mathlib.Core.Bool.{true, false}
use mathlib.Core.List.{List, ◌++◌}
use Prim.Native.Nat.{ℕ, ◌+◌, ◌*◌, ◌/◌, ◌≤◌}
use native.Mathlib.Omega.{arith}
use lib.ListN.{length, take, drop}
use lib.Seq.{drop-drop, take-add, take_all}
use Rattle.lists.specs.Tables.{all_below}
use Rattle.words.specs.Words.{bytes4, words_at}
use Rattle.words.proofs.Words.{length_words, word_bytes, words_bytes, cells_plain}
use Rattle.file_components.specs.Blocks.{points_in, cells_in, numbers_in}
use Rattle.mesh_layout.specs.Layout.{section, encode, count_at, end_of, second, third, blocks_of}
use Rattle.mesh_layout.specs.Parts.{Standing, Laid}

-- a section that is there
section_bytes : (w : ℕ) (b : List ℕ) (at : ℕ) → all_below 256 b ≡ true → Standing w b at → w * count_at b at / w ≡ count_at b at
    → take (4 + 4 * (w * count_at b at)) (drop at b) ≡ section w (words_at false b (at + 4) (w * count_at b at))
unfolding section end_of
section_bytes w b at s h e =
    take-add 4 (4 * (w * count_at b at)) (drop at b)
    ∙ ap₂ (λ (x y : List ℕ). x ++ y)
    (sym (word_bytes false b at s h.counted) ∙ ap (bytes4 false) (sym (ap (λ (k : ℕ). k / w) (length_words false b (at + 4) (w * count_at b at)) ∙ e)))
    (ap (take (4 * (w * count_at b at))) (drop-drop 4 at b) ∙ sym (words_bytes false b (at + 4) (w * count_at b at) s h.fits))

module _ (b : List ℕ) (s : all_below 256 b ≡ true) (l : Laid b) where
  one : ℕ
  one = 4 + 4 * (3 * count_at b 0)

  two : ℕ
  two = 4 + 4 * (4 * count_at b (second b))

  three : ℕ
  three = 4 + 4 * (1 * count_at b (third b))

  at_two : second b ≡ one
  unfolding one end_of
  at_two = omega arith

  at_three : third b ≡ one + two
  unfolding one two end_of
  at_three = omega arith

  long : length b ≤ one + (two + three)
  unfolding one two three end_of
  long = omega (arith, l.all)

  parts : b ≡ take one b ++ (take two (drop (second b) b) ++ take three (drop (third b) b))
  parts =
      sym (take_all (one + (two + three)) b long) ∙ take-add one (two + three) b
      ∙ ap (λ (t : List ℕ). take one b ++ t) (take-add two three (drop one b))
      ∙ ap₂ (λ (u v : List ℕ). take one b ++ (take two u ++ take three v)) (ap (λ (k : ℕ). drop k b) (sym at_two))
      (drop-drop two one b ∙ ap (λ (k : ℕ). drop k b) (sym at_three))

  pub laid_encodes : b ≡ encode (points_in b (blocks_of b)) (cells_in b (blocks_of b)) (numbers_in b (blocks_of b))
  unfolding encode one two three blocks_of
  laid_encodes =
      let z : 1 * count_at b (third b) ≡ count_at b (third b) = omega arith in
      parts
      ∙ ap₂ (λ (x y : List ℕ). x ++ y) (section_bytes 3 b 0 s l.points (omega arith))
      (ap₂ (λ (x y : List ℕ). x ++ y)
      (section_bytes 4 b (second b) s l.cells (omega arith) ∙ ap (section 4) (sym (cells_plain false b (second b + 4) (count_at b (second b)))))
      (section_bytes 1 b (third b) s l.numbers (omega arith) ∙ ap (λ (k : ℕ). section 1 (words_at false b (third b + 4) k)) z))
