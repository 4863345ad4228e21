-- A digest taken entry by entry: what is left to take. Assumes nothing.
use mathlib.Core.Path.{◌≡◌, sym, ap}
use mathlib.Core.List.{List, map}
use Prim.Native.Nat.{ℕ, suc, ◌+◌, ◌≤◌, ◌<◌}
use native.Mathlib.Numerals.{add-one}
use lib.ListN.{length, get_or, drop, drop_of_length-le}
use lib.Seq.{drop-cons}
use Rattle.std.proofs.lemmas.List.{map-id}
use Rattle.tape.specs.Digest.{mixed, digest_of}

module _ {A : Type 0} (f : A → ℕ) where
  -- the entry x, at i, is taken
  pub digest_on : (d i : ℕ) (l : List A) (x : A) → i < length l → x ≡ get_or l i x
      → digest_of (mixed d (f x)) (map f (drop (i + 1) l)) ≡ digest_of d (map f (drop i l))
  unfolding digest_of
  digest_on d i l x h e =
      rw (drop-cons l i x, add-one i) (ap (λ (y : A). digest_of (mixed d (f y)) (map f (drop (suc i) l))) e)

  pub digest_end : (d i : ℕ) (l : List A) → length l ≤ i → d ≡ digest_of d (map f (drop i l))
  unfolding digest_of
  digest_end d i l h = sym (ap (λ (k : List A). digest_of d (map f k)) (drop_of_length-le l h))

-- a table of bytes, words or long words, whose numbers are themselves
pub itself_digest : (d : ℕ) (l : List ℕ) → digest_of d (map (λ (x : ℕ). x) l) ≡ digest_of d l
itself_digest d l = ap (digest_of d) (map-id l)
