-- The parents as a part of the work table. Assumes nothing.
use mathlib.Core.Path.{◌≡◌, sym, ap, subst, ◌∙◌}
use mathlib.Core.Bool.{Bool, true, true≢false}
use mathlib.Core.List.{List, ◌++◌}
use Prim.Native.Nat.{ℕ, ◌+◌, ◌-◌, ◌*◌, ◌/◌, ◌≤◌, ◌<◌}
use native.Mathlib.Omega.{arith}
use borrow.Rule.Slice.PartMut.{put_mid, post_of, same_len_mid}
use lib.ListN.{length, get_or, take, drop}
use lib.Seq.{length-take-le, take_at, drop_at}
use Rattle.lists.specs.Tables.{same}
use Rattle.links.specs.Parts.{Forest, Joined}
use Rattle.face_theory.specs.Faces.{face_of}
use Rattle.faces.specs.Parts.{part, owner_at}
use Rattle.faces.proofs.Scattering.{part_length}
use Rattle.faces.proofs.Passing.{put_before}
use Rattle.pieces.specs.Parts.{parents, NextAsked, NextJoined}

-- a part lent and put back is the part
pub put_whole : (a m : ℕ) (w z : List ℕ) → a ≤ length w → length z ≡ m → part a m (put_mid a (a + m - a) w z) ≡ z
put_whole a m w z h l =
    ap (take m) (drop_at (take a w) (z ++ post_of a (a + m - a) w) a (length-take-le a w h)) ∙ take_at z (post_of a (a + m - a) w) m l

module _ (C W : List ℕ) (room : 4 * length C ≤ length W) where
  pub lent_is : take (2 * length C + length C / 4 - 2 * length C) (drop (2 * length C) W) ≡ parents C W
  lent_is =
      let e : 2 * length C + length C / 4 - 2 * length C ≡ length C / 4 = omega arith in
      ap (λ (n : ℕ). take n (drop (2 * length C) W)) e

  pub parents_length : length (parents C W) ≡ length C / 4
  parents_length = part_length (2 * length C) (length C / 4) W (omega arith)

  module _ (z : List ℕ) (lz : length z ≡ length (take (2 * length C + length C / 4 - 2 * length C) (drop (2 * length C) W))) where
    pub put_length : length (put_mid (2 * length C) (2 * length C + length C / 4 - 2 * length C) W z) ≡ length W
    put_length = same_len_mid (2 * length C) (2 * length C + length C / 4 - 2 * length C) W z lz

    pub put_is : parents C (put_mid (2 * length C) (2 * length C + length C / 4 - 2 * length C) W z) ≡ z
    put_is = put_whole (2 * length C) (length C / 4) W z (omega arith) (lz ∙ ap length lent_is ∙ parents_length)

    pub put_kept : (k : ℕ) → k < 2 * length C → get_or (put_mid (2 * length C) (2 * length C + length C / 4 - 2 * length C) W z) k 0 ≡ get_or W k 0
    put_kept k b = put_before (2 * length C) (2 * length C + length C / 4 - 2 * length C) W z (omega arith) k b

module _ (C W : List ℕ) (at i : ℕ) (asked : NextAsked C W at i) (p q : ℕ) (ep : p ≡ get_or W (at + (i - 1)) 0) (eq : q ≡ get_or W (at + i) 0) where
  test : (r : Bool) → r ≡ same (face_of C q) (face_of C p) → r ≡ same (face_of C (owner_at W at i)) (face_of C (owner_at W at (i - 1)))
  test r e = e ∙ ap (λ (x : ℕ). same (face_of C x) (face_of C p)) eq ∙ ap (λ (x : ℕ). same (face_of C (owner_at W at i)) (face_of C x)) ep

  pub is_joined : same (face_of C q) (face_of C p) ≡ true → (z : List ℕ)
      → length z ≡ length (take (2 * length C + length C / 4 - 2 * length C) (drop (2 * length C) W))
      → Joined (take (2 * length C + length C / 4 - 2 * length C) (drop (2 * length C) W)) z (p / 4) (q / 4)
      → NextJoined C W (put_mid (2 * length C) (2 * length C + length C / 4 - 2 * length C) W z) at i
  is_joined e z lz j = record {
    kept = put_kept C W asked.room z lz;
    forest = subst Forest (sym (put_is C W asked.room z lz)) j.forest;
    apart = λ h. absurd (true≢false (test true (sym e) ∙ h));
    joined = λ h.
        subst (λ (l : List ℕ). Joined (parents C W) l (owner_at W at (i - 1) / 4) (owner_at W at i / 4)) (sym (put_is C W asked.room z lz))
        (subst (λ (l : List ℕ). Joined l z (owner_at W at (i - 1) / 4) (owner_at W at i / 4)) (lent_is C W asked.room)
        (subst (λ (x : ℕ). Joined (take (2 * length C + length C / 4 - 2 * length C) (drop (2 * length C) W)) z x (owner_at W at i / 4)) (ap (λ (n : ℕ). n / 4) ep)
        (subst (λ (x : ℕ). Joined (take (2 * length C + length C / 4 - 2 * length C) (drop (2 * length C) W)) z (p / 4) x) (ap (λ (n : ℕ). n / 4) eq) j)));
  }
