-- The turn of `number_cells`, and the part of the work table that it is lent. Assumes nothing.
use mathlib.Core.Path.{◌≡◌, refl, sym, ap, subst, ◌∙◌}
use mathlib.Core.Logic.{◌⊎◌, ◌≢◌}
use mathlib.Core.Bool.{Bool}
use mathlib.Core.List.{List}
use Prim.Native.Nat.{ℕ, ◌+◌, ◌-◌, ◌*◌, ◌/◌, ◌%◌, ◌≤◌, ◌<◌}
use native.Mathlib.Omega.{arith}
use borrow.Rule.Slice.PartMut.{put_mid, same_len_mid}
use lib.ListN.{length, get_or, set, take, drop, replicate}
use lib.Seq.{length-take-le, take-take, sets}
use Rattle.lists.specs.Appearance.{seen_of, numbers_of}
use Rattle.lists.proofs.Lent.{all_below_lem}
use Rattle.lists.proofs.Appearing.{same_count, same_numbers}
use Rattle.mesh.specs.Mesh.{most}
use Rattle.links.specs.Parts.{Forest, Roots}
use Rattle.links.proofs.Levelling.{level_root}
use Rattle.components.specs.Parts.{Numbers, NumberedAt, Settled}
use Rattle.components.proofs.Counting.{Counting, counting_start, counting_step, turn_of, all_counted, all_few, all_stored}
use Rattle.faces.specs.Parts.{part, SortAsked, FaceSorted}
use Rattle.faces.proofs.Scattering.{part_length}
use Rattle.faces.proofs.Tallying.{tell_asked}
use Rattle.pieces.specs.Parts.{parents, LinkAsked, Linked, NumberAsked, Numbered, Fits, Listed}
use Rattle.pieces.proofs.Labelled.{numbers_are, count_is}

-- ---- the turn

-- the first i cells have their numbers: the work table was W₀ when the parents were roots, of m cells
pub record Turning (W₀ W o₀ o : List ℕ) (m count i : ℕ) : Type 0 where
  pub few : m ≤ most
  pub long : length W ≡ 2 * m
  pub parents : take m W ≡ take m W₀
  pub counting : Counting (λ k. k) (take m W₀) (drop m W) o₀ o m m count i

pub turning_start : (w W o : List ℕ) (m : ℕ) {one : Bool} → NumberAsked w → m ≡ length w / 2 → length W ≡ length w → Settled m w W one
    → Turning W W o o m 0 0
turning_start w W o m a e l s = record {
  few = omega (arith, a.few);
  long = omega (arith, a.even);
  parents = refl;
  counting =
      counting_start (λ k. k) (take m W) (drop m W) o m m (length-take-le m W (omega (arith, a.even))) s.zeros s.levelled.forest;
}

module _ {W₀ W o₀ o : List ℕ} {m count i : ℕ} (t : Turning W₀ W o₀ o m count i) (h : i < m) where
  module _ (W' : List ℕ) (k : ℕ) (kept : length W' ≡ length W) (a : NumberedAt m W W' i count k) where
    number : Numbers (drop m W) (drop m W') (get_or (take m W₀) i 0) count k
    number = turn_of (take m W) (take m W₀) i i t.parents refl a.number

    pub turning_on : (count' : ℕ) → ((k ≡ count) × (count' ≡ count + 1)) ⊎ ((k ≢ count) × (count' ≡ count))
        → Turning W₀ W' o₀ (set o i k) m count' (i + 1)
    turning_on count' c = record {
      few = t.few;
      long = kept ∙ t.long;
      parents = a.parents ∙ t.parents;
      counting = counting_step (λ k. k) (take m W₀) (drop m W) o₀ o m m count i t.counting h (drop m W') k h number count' c;
    }

-- the numbers of the roots are those of any labels that the parents end at
module _ (w W₀ : List ℕ) {one : Bool} {m : ℕ} (v : Settled m w W₀ one) {W o₀ o : List ℕ} {count i : ℕ} (t : Turning W₀ W o₀ o m count i) (d : m ≤ i) where
  same_root : (f : ℕ → ℕ) → Roots (take m w) f → (k : ℕ) → k < m → get_or (take m W₀) k 0 ≡ f k
  same_root f r k h =
      sym (level_root v.levelled.forest v.levelled.level (v.levelled.keeps f r) (omega (arith, t.counting.size_p)))

  Equal : ℕ → ℕ → Type 0
  Equal a b = a ≡ b

  one_one : (a a' b b' : ℕ) → Equal a b → Equal a' b' → (a ≡ a' → b ≡ b') × (b ≡ b' → a ≡ a')
  unfolding Equal
  one_one a a' b b' p q = (λ e. sym p ∙ e ∙ q, λ e. p ∙ e ∙ sym q)

  pub turning_done : Numbered w o₀ o m count
  unfolding Equal
  turning_done = record {
    few = all_few t.counting d;
    count = λ f r. all_counted t.counting d ∙ same_count Equal one_one (λ k. get_or (take m W₀) k 0) f m (same_root f r);
    numbers = λ f r.
        all_stored t.counting d ∙ ap (sets o₀ 0) (same_numbers Equal one_one (λ k. get_or (take m W₀) k 0) f m (same_root f r));
  }

-- ---- what the parts are asked

module _ (C w : List ℕ) (points : ℕ) (fits : Fits C w points) where
  fours : length C % 4 ≡ 0
  fours = omega (arith, fits.cells.whole)

  room : 4 * length C ≤ length w
  room = omega (arith, fits.long, fits.cells.whole)

  pub sort_asked : SortAsked C w points
  sort_asked = record {
    whole = record { fours = fours; few = omega (arith, fits.cells.few) };
    below = all_below_lem points C fits.cells.names;
    points_fit = omega (arith, fits.cells.small);
    room = room;
  }

  pub link_asked : (W : List ℕ) (at : ℕ) → length W ≡ length w → FaceSorted C W points at → LinkAsked C W points at
  link_asked W at e s = record { tell = tell_asked C w W points at sort_asked e s; few = fits.cells.few }

  -- the parents and the numbers behind them are lent
  module _ (W₀ W : List ℕ) (size : length W ≡ length w) (l : Linked C W₀ W) where
    abbrev lent : List ℕ
    lent = take (2 * length C + length C / 2 - 2 * length C) (drop (2 * length C) W)

    lent_is : lent ≡ part (2 * length C) (length C / 2) W
    lent_is =
        let e : 2 * length C + length C / 2 - 2 * length C ≡ length C / 2 = omega arith in
        ap (λ (n : ℕ). take n (drop (2 * length C) W)) e

    lent_long : length lent ≡ length C / 2
    lent_long = ap length lent_is ∙ part_length (2 * length C) (length C / 2) W (omega (arith, room))

    half : length lent / 2 ≡ length C / 4
    half = omega (arith, lent_long, fours)

    front_is : take (length lent / 2) lent ≡ parents C W
    front_is =
        ap (λ (n : ℕ). take n lent) half
        ∙ ap (take (length C / 4)) lent_is
        ∙ take-take (length C / 4) (length C / 2) (drop (2 * length C) W) (omega arith)

    pub number_asked : NumberAsked lent
    number_asked = record {
      even = omega (arith, lent_long, fours);
      forest = subst Forest (sym front_is) l.forest;
      few = omega (arith, half, fits.cells.few);
    }

    -- the table with the part put back is as long as before
    pub after_long : (z : List ℕ) → length z ≡ length lent
        → length (put_mid (2 * length C) (2 * length C + length C / 2 - 2 * length C) W z) ≡ length w
    after_long z lz = same_len_mid (2 * length C) (2 * length C + length C / 2 - 2 * length C) W z lz ∙ size

    pub listed : {o o' w' : List ℕ} {r : ℕ} → Numbered lent o o' (length lent / 2) r → w' ≡ replicate (length w) 0 → Listed C o o' w w' r
    listed {o} {o'} {w'} {r} n z = record {
      count = n.count l.f roots ∙ ap (λ (k : ℕ). length (seen_of l.f k)) half ∙ count_is C fits.proper l.f (l.groups fits.proper);
      few = omega (arith, n.few, half);
      numbers =
          n.numbers l.f roots ∙ ap (λ (k : ℕ). sets o 0 (numbers_of l.f k)) half
          ∙ ap (sets o 0) (numbers_are C fits.proper l.f (l.groups fits.proper));
      zero = z;
    }
      where
        roots : Roots (take (length lent / 2) lent) l.f
        roots = subst (λ (P : List ℕ). Roots P l.f) (sym front_is) l.roots
