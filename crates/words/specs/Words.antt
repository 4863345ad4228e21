-- Words of four bytes in a list of bytes, the low byte first or, where `big` says so, the high one.
use Rattle.std.specs.Prelude.{Bool, true, false, List, [], ◌∷◌, ◌++◌, ℕ, ◌+◌, ◌*◌, ◌/◌, ◌%◌, get_or}
use Rattle.lists.specs.Tables.{list_of}

-- the bytes of a word, and those of a list of words
unfoldable pub bytes4 : Bool → ℕ → List ℕ
bytes4 false x = x % 256 ∷ x / 256 % 256 ∷ x / 65536 % 256 ∷ x / 16777216 ∷ []
bytes4 true x = x / 16777216 ∷ x / 65536 % 256 ∷ x / 256 % 256 ∷ x % 256 ∷ []

unfoldable pub bytes_of : Bool → List ℕ → List ℕ
bytes_of big [] = []
bytes_of big (x ∷ xs) = bytes4 big x ++ bytes_of big xs

-- the word that four bytes are, and the word at a place
abbrev pub four : Bool → ℕ → ℕ → ℕ → ℕ → ℕ
four false a b c d = a + 256 * b + 65536 * c + 16777216 * d
four true a b c d = d + 256 * c + 65536 * b + 16777216 * a

unfoldable pub word_at : Bool → List ℕ → ℕ → ℕ
word_at big b at = four big (get_or b at 0) (get_or b (at + 1) 0) (get_or b (at + 2) 0) (get_or b (at + 3) 0)

-- n words from a place on
unfoldable pub words_at : Bool → List ℕ → ℕ → ℕ → List ℕ
words_at big b at n = list_of (λ i. word_at big b (at + 4 * i)) n

-- n cells from a place on, four words each; a cell starts `stride` words behind the one before it
unfoldable pub cells_at : Bool → ℕ → List ℕ → ℕ → ℕ → List ℕ
cells_at big stride b at n = list_of (λ i. word_at big b (at + 4 * (stride * (i / 4) + i % 4))) (4 * n)
