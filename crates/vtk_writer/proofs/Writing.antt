-- The parts of the file stored one behind the other. Assumes nothing.
use mathlib.Core.Path.{◌≡◌, refl, sym, ap, ap₂, ◌∙◌}
use mathlib.Core.Logic.{◌≢◌}
use mathlib.Core.Bool.{true}
use mathlib.Core.List.{List, ◌∷◌, ◌++◌, append_assoc}
use Prim.Native.Nat.{ℕ, suc, ◌+◌, ◌-◌, ◌*◌, ◌/◌, ◌%◌, ◌≤◌, ◌<◌}
use native.Mathlib.Omega.{arith}
use borrow.Author.Tests.{eq-eqb, ne_eqb}
use lib.ListN.{length, get_or, drop, length-append, length-replicate}
use lib.Seq.{sets, length-sets, drop-cons}
use Rattle.mesh.specs.Mesh.{points_of, cells_of}
use Rattle.lists.specs.Runs.{Stored, Splits, Room}
use Rattle.lists.proofs.Running.{storing_start, storing_on, storing_room, room_first, stored_both}
use Rattle.lists.proofs.Listing.{list_at, length_list}
use Rattle.lists.proofs.Parts.{sets_append, sets_whole}
use Rattle.words.specs.Words.{bytes4, bytes_of}
use Rattle.words.proofs.Words.{length_bytes, bytes_append}
use Rattle.words.proofs.Turns.{Writing, writing_start, writing_on, writing_done}
use Rattle.components.specs.Numbers.{component_numbers}
use Rattle.components.proofs.Patterns.{length_components}
use Rattle.decimal.specs.Text.{text_of}
use Rattle.decimal.specs.Digits.{digits}
use Rattle.vtk_layout.specs.Texts.{version_line, our_title, feed, dataset_lines, float_line, cells_word, space, types_word, data_word, scalar_lines}
use Rattle.vtk_layout.specs.Layout.{written}
use Rattle.vtk_layout.specs.File.{led_word, led, types_of, vtk_file}
use Rattle.file_steps.specs.Parts.{Storable, Placed}
use Rattle.vtk_writer.specs.Step.{vtk_bytes}
use Rattle.vtk_writer.specs.Parts.{led_cell, points_part, cells_part, types_part, numbers_part, Ended}

-- ---- the cells led by fours

drop_five : (l : List ℕ) (j : ℕ) → j + 5 ≤ length l
    → drop j l ≡ get_or l j 0 ∷ get_or l (j + 1) 0 ∷ get_or l (j + 2) 0 ∷ get_or l (j + 3) 0 ∷ get_or l (j + 4) 0 ∷ drop (j + 5) l
drop_five l j h =
    let e1 : j + 1 ≡ suc j = omega arith in
    let e2 : j + 2 ≡ suc (suc j) = omega arith in
    let e3 : j + 3 ≡ suc (suc (suc j)) = omega arith in
    let e4 : j + 4 ≡ suc (suc (suc (suc j))) = omega arith in
    let e5 : j + 5 ≡ suc (suc (suc (suc (suc j)))) = omega arith in
    rw (
      e1,
      e2,
      e3,
      e4,
      e5,
      drop-cons l j 0 (omega arith),
      drop-cons l (suc j) 0 (omega arith),
      drop-cons l (suc (suc j)) 0 (omega arith),
      drop-cons l (suc (suc (suc j))) 0 (omega arith),
      drop-cons l (suc (suc (suc (suc j)))) 0 (omega arith),
    )

module _ (C : List ℕ) where
  pub length_led : length (led C) ≡ 5 * cells_of C
  unfolding led
  length_led = length_list (led_word C) (5 * cells_of C)

  -- the words of one cell among them
  four_at : (i : ℕ) → i < cells_of C → get_or (led C) (5 * i) 0 ≡ 4
  unfolding led led_word
  four_at i h =
      let z : 5 * i % 5 ≡ 0 = omega arith in
      list_at (led_word C) (5 * cells_of C) (5 * i) (omega arith) ∙ rw (eq-eqb (5 * i % 5) 0 z) refl

  vertex_at : (j k : ℕ) → j < 5 * cells_of C → j % 5 ≢ 0 → j / 5 * 4 + j % 5 - 1 ≡ k → get_or (led C) j 0 ≡ get_or C k 0
  unfolding led led_word
  vertex_at j k h d e = list_at (led_word C) (5 * cells_of C) j h ∙ rw (ne_eqb (j % 5) 0 d) (ap (λ (m : ℕ). get_or C m 0) e)

  cell_led : (i : ℕ) → i < cells_of C → drop (5 * i) (led C) ≡ led_cell C i ++ drop (5 * (i + 1)) (led C)
  unfolding led_cell
  cell_led i h =
      let e : 5 * i + 5 ≡ 5 * (i + 1) = omega arith in
      drop_five (led C) (5 * i) (omega (arith, length_led))
      ∙ rw (
        e,
        four_at i h,
        vertex_at (5 * i + 1) (4 * i) (omega arith) (λ q. omega arith) (omega arith),
        vertex_at (5 * i + 2) (4 * i + 1) (omega arith) (λ q. omega arith) (omega arith),
        vertex_at (5 * i + 3) (4 * i + 2) (omega arith) (λ q. omega arith) (omega arith),
        vertex_at (5 * i + 4) (4 * i + 3) (omega arith) (λ q. omega arith) (omega arith),
      )
      refl

  -- the loop that stores them cell by cell
  pub cells_on : (o₀ : List ℕ) (at : ℕ) (o : List ℕ) (i : ℕ) {o1 : List ℕ} → Writing true (led C) o₀ at o (5 * i) → i < cells_of C
      → o1 ≡ sets o (at + 20 * i) (bytes_of true (led_cell C i)) → Writing true (led C) o₀ at o1 (5 * (i + 1))
  unfolding led_cell
  cells_on o₀ at o i {o1} w h e =
      let rest : List ℕ = bytes_of true (drop (5 * (i + 1)) (led C)) in
      let a : at + 20 * i ≡ at + 4 * (5 * i) = omega arith in
      let l : at + 4 * (5 * (i + 1)) ≡ at + 20 * i + length (bytes_of true (led_cell C i)) = omega (arith, length_bytes true (led_cell C i)) in
      record {
        less = omega (arith, length_led);
        long = ap length e ∙ length-sets o (at + 20 * i) (bytes_of true (led_cell C i)) ∙ w.long;
        left =
            ap₂ (λ (t : List ℕ) (k : ℕ). sets t k rest) e l
            ∙ sym (sets_append (bytes_of true (led_cell C i)) rest o (at + 20 * i))
            ∙ ap (sets o (at + 20 * i)) (sym (bytes_append true (led_cell C i) (drop (5 * (i + 1)) (led C))) ∙ ap (bytes_of true) (sym (cell_led i h)))
            ∙ ap (λ (k : ℕ). sets o k (bytes_of true (drop (5 * i) (led C)))) a
            ∙ w.left;
      }

  -- the five words of a cell
  pub cell_stored : (i at : ℕ) (o : List ℕ) {o1 o2 o3 o4 o5 : List ℕ} → o1 ≡ sets o at (bytes4 true 4) → o2 ≡ sets o1 (at + 4) (bytes4 true (get_or C (4 * i) 0))
      → o3 ≡ sets o2 (at + 8) (bytes4 true (get_or C (4 * i + 1) 0)) → o4 ≡ sets o3 (at + 12) (bytes4 true (get_or C (4 * i + 2) 0))
      → o5 ≡ sets o4 (at + 16) (bytes4 true (get_or C (4 * i + 3) 0)) → o5 ≡ sets o at (bytes_of true (led_cell C i))
  unfolding led_cell
  cell_stored i at o {o1} {o2} {o3} {o4} {o5} e1 e2 e3 e4 e5 =
      let src : List ℕ = led_cell C i in
      let z : at ≡ at + 4 * 0 = omega arith in
      let w1 = writing_on true src o at o 0 (writing_start true src o at) (omega arith) refl (e1 ∙ ap (λ (k : ℕ). sets o k (bytes4 true 4)) z) in
      let w2 = writing_on true src o at o1 1 w1 (omega arith) refl e2 in
      let w3 = writing_on true src o at o2 2 w2 (omega arith) refl e3 in
      let w4 = writing_on true src o at o3 3 w3 (omega arith) refl e4 in
      writing_done true src o at o5 5 (writing_on true src o at o4 4 w4 (omega arith) refl e5) (omega arith)

-- ---- the parts

-- a block that was stored
pub block_stored : (W : List ℕ) {o o1 : List ℕ} {at r : ℕ} → o1 ≡ sets o at (bytes_of true W) → r ≡ at + 4 * length W → Stored o at (bytes_of true W) r o1
block_stored W e f = record { count = omega (arith, length_bytes true W); kept = e }

-- a piece and what follows it
first_of : (A B : List ℕ) → Splits (A ++ B) A B
first_of A B = record { whole = refl }

-- room for a piece, and for what follows it
module _ (A B : List ℕ) {o : List ℕ} {at : ℕ} (r : Room o at (A ++ B)) where
  pub room_one : at + length A ≤ length o
  room_one = (room_first (first_of A B) r).fits

  pub room_then : {o1 : List ℕ} {a : ℕ} → Stored o at A a o1 → Room o1 a B
  room_then s = storing_room (storing_on storing_start (first_of A B) s) r

-- room for a block, in which the place after it does not wrap
pub room_block : (W : List ℕ) {o : List ℕ} {at : ℕ} → Room o at (bytes_of true W) → at + 4 * length W ≤ length o
room_block W r = omega (arith, r.fits, length_bytes true W)

-- the pieces of each part, stored one behind the other: room for the next, and at last the part

module _ (P : List ℕ) {o : List ℕ} (r : Room o 0 (points_part P)) where
  abbrev point_lines : List ℕ
  point_lines = dataset_lines ++ (digits (points_of P) ++ float_line)

  pub points_1 : 0 + length version_line ≤ length o
  unfolding points_part
  points_1 = room_one version_line _ r

  module _ {o1 : List ℕ} {a : ℕ} (s1 : Stored o 0 version_line a o1) where
    points_rest : Room o1 a ((our_title ++ feed) ++ (point_lines ++ bytes_of true P))
    unfolding points_part
    points_rest = room_then version_line _ r s1

    pub points_2 : a + length (our_title ++ feed) ≤ length o1
    points_2 = room_one (our_title ++ feed) _ points_rest

    module _ {o2 : List ℕ} {b : ℕ} (s2 : Stored o1 a (our_title ++ feed) b o2) where
      pub points_3 : b + length point_lines ≤ length o2
      points_3 = room_one point_lines (bytes_of true P) (room_then (our_title ++ feed) _ points_rest s2)

      module _ {o3 : List ℕ} {c : ℕ} (s3 : Stored o2 b point_lines c o3) where
        pub points_4 : c + 4 * length P ≤ length o3
        points_4 = room_block P (room_then point_lines (bytes_of true P) (room_then (our_title ++ feed) _ points_rest s2) s3)

        pub points_stored : {o4 : List ℕ} → o4 ≡ sets o3 c (bytes_of true P) → Stored o 0 (points_part P) (c + 4 * length P) o4
        unfolding points_part
        points_stored e = stored_both refl s1 (stored_both refl s2 (stored_both refl s3 (block_stored P e refl)))

module _ (C : List ℕ) {o : List ℕ} {at : ℕ} (r : Room o at (cells_part C)) where
  abbrev cell_lines : List ℕ
  cell_lines = cells_word ++ (digits (cells_of C) ++ space)

  pub cells_1 : at + length cell_lines ≤ length o
  unfolding cells_part
  cells_1 = room_one cell_lines _ r

  module _ {o1 : List ℕ} {a : ℕ} (s1 : Stored o at cell_lines a o1) where
    cells_rest : Room o1 a (digits (5 * cells_of C) ++ (feed ++ bytes_of true (led C)))
    unfolding cells_part
    cells_rest = room_then cell_lines _ r s1

    pub cells_2 : a + length (digits (5 * cells_of C)) ≤ length o1
    cells_2 = room_one (digits (5 * cells_of C)) _ cells_rest

    module _ {o2 : List ℕ} {b : ℕ} (s2 : Stored o1 a (digits (5 * cells_of C)) b o2) where
      pub cells_3 : b + length feed ≤ length o2
      cells_3 = room_one feed (bytes_of true (led C)) (room_then (digits (5 * cells_of C)) _ cells_rest s2)

      module _ {o3 : List ℕ} {c : ℕ} (s3 : Stored o2 b feed c o3) where
        pub cells_4 : c + 20 * cells_of C ≤ length o3
        cells_4 = omega (arith, room_block (led C) (room_then feed (bytes_of true (led C)) (room_then (digits (5 * cells_of C)) _ cells_rest s2) s3), length_led C)

        pub cells_stored : {o4 : List ℕ} → o4 ≡ sets o3 c (bytes_of true (led C)) → Stored o at (cells_part C) (c + 20 * cells_of C) o4
        unfolding cells_part
        cells_stored e = stored_both refl s1 (stored_both refl s2 (stored_both refl s3 (block_stored (led C) e (omega (arith, length_led C)))))

module _ (n : ℕ) {o : List ℕ} {at : ℕ} (r : Room o at (types_part n)) where
  abbrev type_lines : List ℕ
  type_lines = types_word ++ (digits n ++ feed)

  pub types_1 : at + length type_lines ≤ length o
  unfolding types_part
  types_1 = room_one type_lines _ r

  module _ {o1 : List ℕ} {a : ℕ} (s1 : Stored o at type_lines a o1) where
    pub types_2 : a + 4 * n ≤ length o1
    unfolding types_part
    types_2 = omega (arith, room_block (types_of n) (room_then type_lines (bytes_of true (types_of n)) r s1), length-replicate {A = ℕ} n 10)

    pub types_stored : {o2 : List ℕ} → o2 ≡ sets o1 a (bytes_of true (types_of n)) → Stored o at (types_part n) (a + 4 * n) o2
    unfolding types_part
    types_stored e = stored_both refl s1 (block_stored (types_of n) e (omega (arith, length-replicate {A = ℕ} n 10)))

module _ (C : List ℕ) {o : List ℕ} {at : ℕ} (r : Room o at (numbers_part C)) where
  abbrev number_lines : List ℕ
  number_lines = data_word ++ (digits (cells_of C) ++ scalar_lines)

  abbrev numbers : List ℕ
  numbers = component_numbers C (cells_of C)

  numbers_long : length (bytes_of true numbers) ≡ 4 * cells_of C
  numbers_long = length_bytes true numbers ∙ omega (arith, length_components C (cells_of C))

  pub numbers_1 : at + length number_lines ≤ length o
  unfolding numbers_part
  numbers_1 = room_one number_lines _ r

  module _ {o1 : List ℕ} {a : ℕ} (s1 : Stored o at number_lines a o1) where
    numbers_rest : Room o1 a (bytes_of true numbers ++ feed)
    unfolding numbers_part
    numbers_rest = room_then number_lines _ r s1

    pub numbers_2 : a + 4 * cells_of C ≤ length o1
    numbers_2 = omega (arith, room_one (bytes_of true numbers) feed numbers_rest, numbers_long)

    module _ {o2 : List ℕ} (e2 : o2 ≡ sets o1 a (bytes_of true numbers)) where
      s2 : Stored o1 a (bytes_of true numbers) (a + 4 * cells_of C) o2
      s2 = block_stored numbers e2 (omega (arith, length_components C (cells_of C)))

      pub numbers_3 : a + 4 * cells_of C + length feed ≤ length o2
      numbers_3 = (room_then (bytes_of true numbers) feed numbers_rest s2).fits

      pub numbers_stored : {o3 : List ℕ} {b : ℕ} → Stored o2 (a + 4 * cells_of C) feed b o3 → o3 ≡ sets o at (numbers_part C)
      unfolding numbers_part
      numbers_stored s3 = (stored_both refl s1 (stored_both refl s2 s3)).kept

-- ---- the file

module _ (P C : List ℕ) where
  pub parts_are : points_part P ++ (cells_part C ++ (types_part (cells_of C) ++ numbers_part C)) ≡ vtk_file our_title P C
  unfolding vtk_file written points_part cells_part types_part numbers_part
  parts_are = simp append_assoc

  pub length_file : length P ≡ 3 * points_of P → length (vtk_file our_title P C) ≡ vtk_bytes P C
  unfolding points_part cells_part types_part numbers_part version_line our_title feed dataset_lines float_line cells_word space types_word data_word scalar_lines text_of
  length_file h =
      ap length (sym parts_are)
      ∙ simp length-append
      (omega (
        arith,
        length_bytes true P,
        length_bytes true (led C),
        length_led C,
        length_bytes true (types_of (cells_of C)),
        length-replicate {A = ℕ} (cells_of C) 10,
        length_bytes true (component_numbers C (cells_of C)),
        length_components C (cells_of C),
      ))

  -- the file is stored part by part
  module _ {o w : List ℕ} (h : Storable (vtk_bytes P C) P C o w) where
    file_room : Room o 0 (points_part P ++ (cells_part C ++ (types_part (cells_of C) ++ numbers_part C)))
    file_room = record { fits = omega (arith, ap length parts_are, length_file h.whole, h.long) }

    pub room_1 : Room o 0 (points_part P)
    room_1 = record { fits = room_one (points_part P) _ file_room }

    pub room_2 : {o1 : List ℕ} {a : ℕ} → Stored o 0 (points_part P) a o1 → Room o1 a (cells_part C)
    room_2 e1 = record { fits = room_one (cells_part C) _ (room_then (points_part P) _ file_room e1) }

    pub room_3 : {o1 o2 : List ℕ} {a b : ℕ} → Stored o 0 (points_part P) a o1 → Stored o1 a (cells_part C) b o2 → Room o2 b (types_part (cells_of C))
    room_3 e1 e2 = record { fits = room_one (types_part (cells_of C)) _ (room_then (cells_part C) _ (room_then (points_part P) _ file_room e1) e2) }

    pub room_4 : {o1 o2 o3 : List ℕ} {a b c : ℕ} → Stored o 0 (points_part P) a o1 → Stored o1 a (cells_part C) b o2
        → Stored o2 b (types_part (cells_of C)) c o3 → Room o3 c (numbers_part C)
    room_4 e1 e2 e3 = room_then (types_part (cells_of C)) (numbers_part C) (room_then (cells_part C) _ (room_then (points_part P) _ file_room e1) e2) e3

    pub mesh_placed : {o1 o2 o3 o4 w' : List ℕ} {a b c : ℕ} → Stored o 0 (points_part P) a o1 → Stored o1 a (cells_part C) b o2
        → Stored o2 b (types_part (cells_of C)) c o3 → Ended C c o3 o4 w w' → Placed (vtk_file our_title P C) o4 w w'
    mesh_placed {o1} {o2} {o3} {o4} {w'} {a} {b} {c} e1 e2 e3 e4 =
        let k = storing_on (storing_on (storing_on storing_start (first_of (points_part P) _) e1) (first_of (cells_part C) _) e2) (first_of (types_part (cells_of C)) (numbers_part C)) e3 in
        record {
          file = e4.stored ∙ k.kept ∙ ap (sets o 0) parts_are ∙ sets_whole (vtk_file our_title P C) o (length_file h.whole ∙ sym h.long);
          zero = e4.zero;
        }
