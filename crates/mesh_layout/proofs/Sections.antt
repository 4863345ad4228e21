-- Sections that are there, and those that are not. Assumes nothing.
use mathlib.Core.Path.{◌≡◌, refl, sym, ap, ◌∙◌}
use mathlib.Core.Bool.{true, false}
use mathlib.Core.List.{List}
use Prim.Native.Nat.{ℕ, ◌+◌, ◌-◌, ◌*◌, ◌/◌, ◌≤◌, ◌<◌, min}
use native.Mathlib.Nat.{le-div_iff_mul-le}
use native.Mathlib.Omega.{arith}
use borrow.Author.Tests.{lt-ltb, le-ltb, ltb-false}
use lib.Dec.{ltb}
use lib.ListN.{length, length-append}
use lib.Seq.{sets}
use Rattle.lists.specs.Runs.{Stored}
use Rattle.lists.proofs.Bools.{neither}
use Rattle.lists.proofs.Running.{stored_both}
use Rattle.words.specs.Words.{bytes4, bytes_of}
use Rattle.words.proofs.Words.{length_four, length_bytes}
use Rattle.file_components.specs.Parts.{Stands}
use Rattle.mesh_layout.specs.Layout.{section, count_at, whole_at, cut_at, end_of, second, third, blocks_of}
use Rattle.mesh_layout.specs.Parts.{Entries, Standing, Laid}

pub three : Entries 3
three = record { some = omega arith; few = omega arith }

pub four : Entries 4
four = record { some = omega arith; few = omega arith }

pub one : Entries 1
one = record { some = omega arith; few = omega arith }

-- ---- one section

module _ (w : ℕ) (b : List ℕ) (at : ℕ) (e : Entries w) where
  -- all entries that are announced fit into what is there
  all_fit : count_at b at ≤ (length b - (at + 4)) / (4 * w) → at + 4 ≤ length b → end_of w b at ≤ length b
  unfolding end_of
  all_fit h c =
      let k : count_at b at * (4 * w) ≤ length b - (at + 4) = (le-div_iff_mul-le {k = 4 * w} (omega (arith, e.some))).0 h in
      omega arith

  fit_all : end_of w b at ≤ length b → count_at b at ≤ (length b - (at + 4)) / (4 * w)
  unfolding end_of
  fit_all h =
      let k : count_at b at * (4 * w) ≤ length b - (at + 4) = omega arith in
      (le-div_iff_mul-le {k = 4 * w} (omega (arith, e.some))).1 k

  pub standing : cut_at w b at ≡ false → Standing w b at
  unfolding cut_at whole_at
  standing q =
      let h = neither (ltb (length b) (at + 4)) (ltb (whole_at w b at) (count_at b at)) q in
      let c : at + 4 ≤ length b = ltb-false (length b) (at + 4) h.0 in
      let k : count_at b at ≤ min (count_at b at) ((length b - (at + 4)) / (4 * w)) = ltb-false (whole_at w b at) (count_at b at) h.1 in
      record { entries = e; counted = c; fits = all_fit (omega arith) c }

  pub uncut : Standing w b at → cut_at w b at ≡ false
  unfolding cut_at whole_at
  uncut s =
      let k : count_at b at ≤ min (count_at b at) ((length b - (at + 4)) / (4 * w)) = omega (arith, fit_all s.fits) in
      rw (le-ltb (length b) (at + 4) s.counted, le-ltb (whole_at w b at) (count_at b at) k) refl

  pub cut_count : at ≤ length b → length b - at < 4 → true ≡ cut_at w b at
  unfolding cut_at
  cut_count h s = let t : length b < at + 4 = omega arith in rw (lt-ltb _ _ t) refl

  pub cut_entries : at ≤ length b → 4 ≤ length b - at → {n m : ℕ} → m ≡ whole_at w b at → n ≡ count_at b at → ltb m n ≡ cut_at w b at
  unfolding cut_at
  cut_entries h s em en = let t : at + 4 ≤ length b = omega arith in rw (em, en, le-ltb _ _ t) refl

  pub end_is : {n : ℕ} → n ≡ count_at b at → at + 4 + 4 * (w * n) ≡ end_of w b at
  unfolding end_of
  end_is q = rw q refl

-- ---- the three

-- the blocks of a file whose sections are there
pub laid_stands : (b : List ℕ) → Laid b → Stands b (blocks_of b)
unfolding blocks_of end_of
laid_stands b l = record {
  points = omega (arith, l.points.fits);
  cells = record { there = λ i h. omega (arith, l.cells.fits) };
  numbers = omega (arith, l.numbers.fits);
}

pub blocks_are : (b : List ℕ) {s t i j k : ℕ} → s ≡ second b → t ≡ end_of 4 b s → i ≡ count_at b 0 → j ≡ count_at b s → k ≡ count_at b t
    → blocks_of b ≡ record { p = i; n = j; m = k; points = 4; cells = s + 4; numbers = t + 4; stride = 4; big = false }
unfolding blocks_of
blocks_are b {s} {t} {i} {j} {k} es et ei ej ek =
    let et' : t ≡ third b = et ∙ ap (end_of 4 b) es in
    sym (rw (ei, ej, ek, et', es) refl)

-- ---- a section that is stored

pub length_section : (w : ℕ) (words : List ℕ) → length (section w words) ≡ 4 + 4 * length words
unfolding section
length_section w words =
    length-append (bytes4 false (length words / w)) (bytes_of false words) ∙ omega (arith, length_four false (length words / w), length_bytes false words)

pub section_stored : (w at : ℕ) (words o : List ℕ) {o1 o2 : List ℕ} → o1 ≡ sets o at (bytes4 false (length words / w)) → o2 ≡ sets o1 (at + 4) (bytes_of false words)
    → o2 ≡ sets o at (section w words)
unfolding section
section_stored w at words o {o1} {o2} e f =
    let a : Stored o at (bytes4 false (length words / w)) (at + 4) o1 = record { count = omega (arith, length_four false (length words / w)); kept = e } in
    let b : Stored o1 (at + 4) (bytes_of false words) (at + 4 + 4 * length words) o2 = record { count = omega (arith, length_bytes false words); kept = f } in
    (stored_both refl a b).kept
