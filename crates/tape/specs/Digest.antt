-- A digest: one number for all that a call answered and left.
use Rattle.std.specs.Prelude.{List, [], ◌∷◌, ℕ, ◌+◌, ◌*◌, ◌%◌}

-- a number more: a polynomial modulo a prime
abbrev pub mixed : ℕ → ℕ → ℕ
mixed d x = (d % 4294967291 * 2654435761 + x % 4294967291) % 4294967291

-- a table more
unfoldable pub digest_of : ℕ → List ℕ → ℕ
digest_of d [] = d
digest_of d (x ∷ l) = digest_of (mixed d x) l
