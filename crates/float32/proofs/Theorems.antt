-- The ceiling is the least whole number that a float is not above. Assumes nothing.
use Rattle.std.proofs.Common.{◌≡◌, ℕ, suc, ◌+◌, ◌*◌, ◌<◌, ◌≤◌, min, Bool, true, false, sym, refl, ◌∙◌, zero-le, le_trans, le_of_eq, le_refl, le_antisymm, add-one, arith, le-leb, leb-true}
use lib.Ieee.{Float, nan, inf, fin, up, down}
use lib.Ieee.Fits.{down_pos}
use Rattle.float32.specs.Ceiling.{not_above, up_div, ceil_to}
use Rattle.float32.specs.Parts.{Tried}
use Rattle.float32.proofs.Floats.{apart}
use Rattle.float32.proofs.Wholes.{up_least, up_covers}

-- ---- what `ceil_to` says: where it is at most `most` x is not above it, and no number up to `most` that x is not above is less

module _ (most : ℕ) where
  pub ceil_covers : (x : Float) → ceil_to most x ≤ most → not_above x (ceil_to most x) ≡ true
  unfolding ceil_to not_above
  ceil_covers nan h = refl
  ceil_covers (inf true) h = refl
  ceil_covers (inf false) h = absurd (over most h)
    where
      over : (m : ℕ) → suc m ≤ m → ⊥
      over m h = omega arith
  ceil_covers (fin true m e) h = refl
  ceil_covers (fin false m e) h =
      let u = up_div (m * up e) (down e) in
      le-leb (m * up e) (min u (suc most) * down e) (up_covers (m * up e) (down e) (min u (suc most)) (down_pos e) (go u h))
    where
      go : (u : ℕ) → min u (suc most) ≤ most → u ≤ min u (suc most)
      go u h = omega arith

  pub ceil_least : (x : Float) (n : ℕ) → n ≤ suc most → not_above x n ≡ true → ceil_to most x ≤ n
  unfolding ceil_to not_above
  ceil_least nan n l h = zero-le
  ceil_least (inf true) n l h = zero-le
  ceil_least (inf false) n l h = apart h
  ceil_least (fin true m e) n l h = zero-le
  ceil_least (fin false m e) n l h = go (up_div (m * up e) (down e)) (up_least (m * up e) (down e) n (down_pos e) (leb-true (m * up e) (n * down e) h))
    where
      go : (u : ℕ) → u ≤ n → min u (suc most) ≤ n
      go u h = omega arith

  pub ceil_most : (x : Float) → ceil_to most x ≤ suc most
  unfolding ceil_to
  ceil_most nan = zero-le
  ceil_most (inf true) = zero-le
  ceil_most (inf false) = le_refl (suc most)
  ceil_most (fin true m e) = zero-le
  ceil_most (fin false m e) = go (up_div (m * up e) (down e))
    where
      go : (u : ℕ) → min u (suc most) ≤ suc most
      go u = omega arith

  -- the first n that x is not above, or most + 1 where there is none
  pub first_is : (x : Float) (n : ℕ) → Tried (most + 1) x n → (n ≤ most → not_above x n ≡ true) → n ≡ ceil_to most x
  first_is x n t here = le_antisymm (reached (ceil_to most x) (λ g l. t.before (ceil_to most x) g (ceil_covers x l))) (least (not_above x n) refl)
    where
      reached : (c : ℕ) → (c < n → c ≤ most → ⊥) → n ≤ c
      reached c f = lt_or (λ (g : c < n). f g (short c t.within g))
        where
          short : (c : ℕ) → n ≤ most + 1 → c < n → c ≤ most
          short c h g = omega arith

          lt_or : (c < n → ⊥) → n ≤ c
          lt_or f = omega arith

      least : (b : Bool) → not_above x n ≡ b → ceil_to most x ≤ n
      least true e = ceil_least x n (le_trans t.within (le_of_eq (add-one most))) e
      least false e = le_trans (ceil_most x) (past (λ (g : n ≤ most). apart (sym e ∙ here g)))
        where
          past : (n ≤ most → ⊥) → suc most ≤ n
          past f = omega arith
