-- The turns of `count_last` and `list_last`. Assumes nothing.
use mathlib.Core.Path.{◌≡◌, refl, sym, ap, subst, ◌∙◌}
use mathlib.Core.Logic.{◌⊎◌, inl, inr, ◌≢◌}
use mathlib.Core.Bool.{Bool, true, false, cond, ◌&&◌}
use mathlib.Core.List.{List, [], ◌∷◌, ◌++◌, append-nil}
use Prim.Native.Nat.{ℕ, ◌+◌, ◌*◌, ◌≤◌, ◌<◌}
use native.Mathlib.Numerals.{add-one}
use native.Mathlib.Omega.{arith}
use borrow.Author.Tests.{ne_eqb}
use lib.Dec.{eqb}
use lib.ListN.{length, get_or, set}
use lib.Seq.{length-sets, sets}
use Rattle.lists.specs.Runs.{run, those, spread, Stored}
use Rattle.lists.proofs.Cases.{eq_or}
use Rattle.lists.proofs.Parts.{sets_whole}
use Rattle.lists.proofs.Running.{run_room, stored_both, stored_none}
use Rattle.lists.proofs.Passing.{those_next, those_same, spread_append, spread_length}
use Rattle.mesh.specs.Mesh.{cells_of, Cells}
use Rattle.links.specs.Labels.{label_at}
use Rattle.groups.specs.Parts.{Labelled}
use Rattle.representatives.specs.Highest.{is_highest, representatives_of, centroid_bits, centroids_of}
use Rattle.representatives.specs.Parts.{is_last, RoomFor, Storable, ListedAt, Storing, Listed}

pub centroid_three : (P C : List ℕ) (i : ℕ) → length (centroid_bits P C i) ≡ 3
unfolding centroid_bits
centroid_three P C i = refl

-- ---- the last cell of a group is its highest

module _ (C X w : List ℕ) (n : ℕ) (l : Labelled C X w n) where
  pub last_highest : (i : ℕ) → i < cells_of C → is_last X w n i ≡ is_highest C X (cells_of C) i
  unfolding is_last is_highest
  last_highest i h = go (eq_or (get_or X i 0) 0)
    where
      go : (get_or X i 0 ≡ 0) ⊎ (get_or X i 0 ≢ 0)
          → eqb (get_or X i 0) 0 && eqb (get_or w (get_or w (n + i) 0) 0) i ≡ eqb (get_or X i 0) 0 && eqb (label_at C X (cells_of C) i) i
      go (inl z) = ap (λ (k : ℕ). eqb (get_or X i 0) 0 && eqb k i) (l.label i h z)
      go (inr d) = rw (ne_eqb (get_or X i 0) 0 d) refl

-- ---- counting

pub counted : (C X w : List ℕ) (n : ℕ) {count i : ℕ} → Labelled C X w n → count ≡ length (those (is_last X w n) i) → count ≤ i → i ≡ cells_of C
    → RoomFor C X count
unfolding representatives_of
counted C X w n {count} {i} l e few q = record {
  count =
      e ∙ ap (λ (k : ℕ). length (those (is_last X w n) k)) q
      ∙ ap length (those_same (is_last X w n) (is_highest C X (cells_of C)) (cells_of C) (last_highest C X w n l));
  few = omega arith;
}

-- ---- storing

-- the first i cells are looked at, and k of them stored
pub record Listing (P C X w o₀ z₀ o z : List ℕ) (n i k : ℕ) : Type 0 where
  pub below : k ≤ i
  pub numbers : Stored o₀ 0 (those (is_last X w n) i) k o
  pub centroids : Stored z₀ 0 (spread (centroid_bits P C) (those (is_last X w n) i)) (3 * k) z

pub listing_start : (P C X w o z : List ℕ) (n : ℕ) → Listing P C X w o z o z n 0 0
unfolding those run spread
listing_start P C X w o z n = record { below = omega arith; numbers = stored_none o [] 0 refl; centroids = stored_none z [] 0 refl }

-- what one cell gives to the two lists
one_few : (i : ℕ) (t : Bool) → length (cond t (i ∷ []) []) ≤ 1
one_few i true = omega arith
one_few i false = omega arith

spread_one : (f : ℕ → List ℕ) (i : ℕ) (t : Bool) → spread f (cond t (i ∷ []) []) ≡ cond t (f i) []
unfolding spread
spread_one f i true = append-nil (f i)
spread_one f i false = refl

module _ (test : ℕ → Bool) (f : ℕ → List ℕ) (i : ℕ) where
  numbers_next : those test (i + 1) ≡ those test i ++ cond (test i) (i ∷ []) []
  numbers_next = ap (those test) (add-one i) ∙ those_next test i

  spread_next : spread f (those test (i + 1)) ≡ spread f (those test i) ++ cond (test i) (f i) []
  spread_next = ap (spread f) numbers_next ∙ spread_append f (those test i) _ ∙ ap (λ (l : List ℕ). spread f (those test i) ++ l) (spread_one f i (test i))

module _ (P C X w o₀ z₀ o z : List ℕ) (n i k : ℕ) (l : Listing P C X w o₀ z₀ o z n i k) where
  abbrev test : ℕ → Bool
  test = is_last X w n

  pub listing_step : {t : Bool} {r : ℕ} {o' z' : List ℕ} → t ≡ is_last X w n i → ListedAt P C o z o' z' t i k r → Listing P C X w o₀ z₀ o' z' n (i + 1) r
  listing_step {r = r} {o' = o'} {z' = z'} e s =
      let s' : ListedAt P C o z o' z' (test i) i k r = rw (← e) s in
      record {
        below = omega (arith, l.below, s'.number.count, one_few i (test i));
        numbers = stored_both (numbers_next test (centroid_bits P C) i) l.numbers s'.number;
        centroids = stored_both (spread_next test (centroid_bits P C) i) l.centroids s'.centroid;
      }

  module _ (s : Storing P C X o₀ z₀ w n) where
    all_last : those test (cells_of C) ≡ representatives_of C X (cells_of C)
    unfolding representatives_of
    all_last = those_same test (is_highest C X (cells_of C)) (cells_of C) (last_highest C X w n s.found.labelled)

    module _ (h : i < cells_of C) where
      room_for : test i ≡ true → k + 1 ≤ length (representatives_of C X (cells_of C))
      unfolding those
      room_for t =
          let one-long : length (cond (test i) (i ∷ []) []) ≡ 1 = rw t refl in
          omega (arith, l.numbers.count, run_room (cells_of C) (λ j. cond (test j) (j ∷ []) []) i h, ap length all_last)

      pub storable : {t : Bool} → t ≡ is_last X w n i → Storable P C o z t i k
      storable e = record {
        cells = subst (Cells C) s.found.points s.found.labelled.sized.cells;
        inside = h;
        few = l.below;
        room = λ t. (
          omega (arith, room_for (sym e ∙ t), s.numbers, ap length l.numbers.kept, length-sets o₀ 0 (those test i)),
          omega (arith, room_for (sym e ∙ t), s.centroids, ap length l.centroids.kept, length-sets z₀ 0 (spread (centroid_bits P C) (those test i))),
        );
      }

    pub listing_done : i ≡ cells_of C → Listed P C X o z
    unfolding centroids_of
    listing_done e =
        let all : those test i ≡ representatives_of C X (cells_of C) = ap (those test) e ∙ all_last in
        record {
          numbers = l.numbers.kept ∙ ap (sets o₀ 0) all ∙ sets_whole (representatives_of C X (cells_of C)) o₀ (sym s.numbers);
          centroids =
              l.centroids.kept ∙ ap (λ (a : List ℕ). sets z₀ 0 (spread (centroid_bits P C) a)) all
              ∙ sets_whole (spread (centroid_bits P C) (representatives_of C X (cells_of C))) z₀
              (spread_length (centroid_bits P C) 3 (centroid_three P C) (representatives_of C X (cells_of C)) ∙ sym s.centroids);
        }

-- ---- one cell

module _ (P C o z : List ℕ) (i k : ℕ) where
  pub listed_one : {t : Bool} {z' : List ℕ} → t ≡ true → z' ≡ sets z (3 * k) (centroid_bits P C i) → ListedAt P C o z (set o k i) z' t i k (k + 1)
  listed_one t e = record {
    number = rw t (record { count = refl; kept = refl });
    centroid = rw t (record { count = omega (arith, centroid_three P C i); kept = e });
  }
