-- The words of the cells, each four led by a four. Assumes nothing.
use mathlib.Core.Path.{◌≡◌, refl, sym, ap, ap₂, ◌∙◌}
use mathlib.Core.Logic.{◌⊎◌, inl, inr, ◌≢◌}
use mathlib.Core.Bool.{true}
use mathlib.Core.List.{List, ◌++◌}
use Prim.Native.Nat.{ℕ, zero, suc, ◌+◌, ◌-◌, ◌*◌, ◌/◌, ◌%◌, ◌≤◌, ◌<◌}
use native.Mathlib.Omega.{arith}
use borrow.Author.Tests.{eq-eqb, ne_eqb}
use lib.ListN.{length, get_or, take, drop, replicate, length-replicate, get_or-replicate, take-append-drop}
use lib.Seq.{drop-drop, length-take-le}
use Rattle.lists.specs.Tables.{all_below, list_of, same}
use Rattle.lists.proofs.Cases.{eq_or}
use Rattle.lists.proofs.Lent.{all_below_lem}
use Rattle.lists.proofs.Listing.{length_list, list_at, list_is, list_same, same_eq, same_refl}
use Rattle.mesh.specs.Mesh.{cells_of, Cells}
use Rattle.words.specs.Words.{bytes_of, word_at, words_at, cells_at}
use Rattle.words.proofs.Words.{words_at_lem, length_cells, vertex_at, words_there}
use Rattle.vtk_layout.specs.File.{led_word, led}
use Rattle.vtk_reader.specs.Step.{leads_in}

positive : (k : ℕ) → k ≢ 0 → 0 < k
positive zero d = absurd (d refl)
positive (suc k) d = omega arith

-- a word that leads, and one that does not
lead_word : (C : List ℕ) (i : ℕ) → led_word C (5 * i) ≡ 4
unfolding led_word
lead_word C i = let e : 5 * i % 5 ≡ 0 = omega arith in rw (eq-eqb (5 * i % 5) 0 e)

cell_word : (C : List ℕ) (j : ℕ) → j % 5 ≢ 0 → led_word C j ≡ get_or C (j / 5 * 4 + j % 5 - 1) 0
unfolding led_word
cell_word C j d = rw (ne_eqb (j % 5) 0 d)

place_word : (C : List ℕ) (i : ℕ) → led_word C (5 * (i / 4) + i % 4 + 1) ≡ get_or C i 0
place_word C i =
    let e : (5 * (i / 4) + i % 4 + 1) / 5 * 4 + (5 * (i / 4) + i % 4 + 1) % 5 - 1 ≡ i = omega arith in
    cell_word C (5 * (i / 4) + i % 4 + 1) (λ q. omega arith) ∙ ap (λ (k : ℕ). get_or C k 0) e

length_led : (C : List ℕ) → length (led C) ≡ 5 * cells_of C
unfolding led
length_led C = length_list (led_word C) (5 * cells_of C)

-- ---- from the block to the cells

module _ (b : List ℕ) (c n : ℕ) (s : same (leads_in b n c) (replicate n 4) ≡ true) where
  abbrev C : List ℕ
  C = cells_at true 5 b (c + 4) n

  lead_at : (i : ℕ) → i < n → word_at true b (c + 20 * i) ≡ 4
  unfolding leads_in
  lead_at i h =
      sym (list_at (λ k. word_at true b (c + 20 * k)) n i h) ∙ ap (λ (l : List ℕ). get_or l i 0) (same_eq (leads_in b n c) (replicate n 4) s) ∙ get_or-replicate n i 4 0 h

  at_word : (j : ℕ) → j < 5 * n → (j % 5 ≡ 0) ⊎ (j % 5 ≢ 0) → word_at true b (c + 4 * j) ≡ led_word C j
  at_word j h (inl z) =
      let f : c + 4 * j ≡ c + 20 * (j / 5) = omega arith in
      let g : 5 * (j / 5) ≡ j = omega arith in
      let k : j / 5 < n = omega arith in
      ap (word_at true b) f ∙ lead_at (j / 5) k ∙ sym (lead_word C (j / 5)) ∙ ap (led_word C) g
  at_word j h (inr z) =
      let r : 0 < j % 5 = positive (j % 5) z in
      let f : c + 4 * j ≡ c + 4 + 4 * (5 * (j / 5)) + 4 * (j % 5 - 1) = omega arith in
      let g : 4 * (j / 5) + (j % 5 - 1) ≡ j / 5 * 4 + j % 5 - 1 = omega arith in
      let k : j / 5 < n = omega arith in
      let m : j % 5 - 1 < 4 = omega arith in
      ap (word_at true b) f ∙ sym (vertex_at true 5 b (c + 4) n (j / 5) (j % 5 - 1) k m) ∙ ap (λ (i : ℕ). get_or C i 0) g ∙ sym (cell_word C j z)

  -- the words of the block one behind the other are the cells with their leads
  pub led_is : words_at true b c (5 * n) ≡ led (cells_at true 5 b (c + 4) n)
  unfolding words_at led
  led_is =
      let e : n ≡ cells_of (cells_at true 5 b (c + 4) n) = omega (arith, length_cells true 5 b (c + 4) n) in
      list_same (λ j. word_at true b (c + 4 * j)) (led_word C) (5 * n) (λ j h. at_word j h (eq_or (j % 5) 0))
      ∙ ap (λ (m : ℕ). list_of (led_word C) (5 * m)) e

-- ---- and back

-- a block's words, from its bytes
pub block_words : (b X : List ℕ) (at k : ℕ) → all_below 4294967296 X ≡ true → length X ≡ k → at + 4 * k ≤ length b
    → take (4 * k) (drop at b) ≡ bytes_of true X → words_at true b at k ≡ X
block_words b X at k small long there e =
    let f : b ≡ take at b ++ (bytes_of true X ++ drop (at + 4 * k) b) =
    sym (take-append-drop at b)
    ∙ ap (λ (l : List ℕ). take at b ++ l) (sym (take-append-drop (4 * k) (drop at b)) ∙ ap₂ (λ (u v : List ℕ). u ++ v) e (drop-drop (4 * k) at b)) in
    let h : at ≡ length (take at b) = sym (length-take-le at b (omega arith)) in
    ap (λ (l : List ℕ). words_at true l at k) f ∙ words_there true (take at b) X (drop (at + 4 * k) b) at k h (sym long) small

module _ (C : List ℕ) (p : ℕ) (v : Cells C p) where
  led_small : all_below 4294967296 (led C) ≡ true
  unfolding led
  led_small = all_below_lem 4294967296 (led C) (λ i h. small i (omega (arith, length_led C)) (eq_or (i % 5) 0))
    where
      small : (i : ℕ) → i < 5 * cells_of C → (i % 5 ≡ 0) ⊎ (i % 5 ≢ 0) → get_or (led C) i 0 < 4294967296
      small i h (inl z) =
          let g : 5 * (i / 5) ≡ i = omega arith in
          omega (arith, list_at (led_word C) (5 * cells_of C) i h, lead_word C (i / 5), ap (led_word C) g)
      small i h (inr z) =
          let r : 0 < i % 5 = positive (i % 5) z in
          omega (arith, list_at (led_word C) (5 * cells_of C) i h, cell_word C i z, v.names (i / 5 * 4 + i % 5 - 1) (omega (arith, v.whole)), v.small)

  module _ (b : List ℕ) (c : ℕ) (there : c + 20 * cells_of C ≤ length b) (e : take (20 * cells_of C) (drop c b) ≡ bytes_of true (led C)) where
    led_read : (j : ℕ) → j < 5 * cells_of C → word_at true b (c + 4 * j) ≡ led_word C j
    unfolding led
    led_read j h =
        let k : 4 * (5 * cells_of C) ≡ 20 * cells_of C = omega arith in
        let w : words_at true b c (5 * cells_of C) ≡ led C = block_words b (led C) c (5 * cells_of C) led_small (length_led C) (omega arith) (ap (λ (i : ℕ). take i (drop c b)) k ∙ e) in
        sym (words_at_lem true b c (5 * cells_of C) j h) ∙ ap (λ (l : List ℕ). get_or l j 0) w ∙ list_at (led_word C) (5 * cells_of C) j h

    pub cells_read : cells_at true 5 b (c + 4) (cells_of C) ≡ C
    unfolding cells_at
    cells_read =
        list_is (λ i. word_at true b (c + 4 + 4 * (5 * (i / 4) + i % 4))) (4 * cells_of C) C v.whole
        (λ i h.
        let k : c + 4 + 4 * (5 * (i / 4) + i % 4) ≡ c + 4 * (5 * (i / 4) + i % 4 + 1) = omega arith in
        ap (word_at true b) k ∙ led_read (5 * (i / 4) + i % 4 + 1) (omega arith) ∙ place_word C i)

    pub leads_right : same (leads_in b (cells_of C) c) (replicate (cells_of C) 4) ≡ true
    unfolding leads_in
    leads_right =
        ap (λ (l : List ℕ). same l (replicate (cells_of C) 4))
        (list_is (λ i. word_at true b (c + 20 * i)) (cells_of C) (replicate (cells_of C) 4) (length-replicate (cells_of C) 4)
        (λ i h.
        let k : c + 20 * i ≡ c + 4 * (5 * i) = omega arith in
        ap (word_at true b) k ∙ led_read (5 * i) (omega arith) ∙ lead_word C i ∙ sym (get_or-replicate (cells_of C) i 4 0 h)))
        ∙ same_refl (replicate (cells_of C) 4)
