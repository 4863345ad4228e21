-- What the parts of the code ask and give.
use Rattle.std.specs.Prelude.{◌≡◌, Bool, true, cond, ◌&&◌, List, [], ◌∷◌, ℕ, ◌+◌, ◌*◌, ◌≤◌, ◌<◌, eqb, length, get_or, Result}
use Rattle.lists.specs.Runs.{Stored}
use Rattle.refusals.specs.declared.CountError.{CountError}
use Rattle.mesh.specs.Mesh.{points_of, cells_of, Cells}
use Rattle.groups.specs.Parts.{Labelled}
use Rattle.representatives.specs.Highest.{representatives_of, centroid_bits, centroids_of}
use Rattle.representatives.specs.Step.{listed_of, numbers_after, centroids_after}

-- the cell i is not crossed, and stands at its root in the work table, which has n entries for the points in front
unfoldable pub is_last : List ℕ → List ℕ → ℕ → ℕ → Bool
is_last X w n i = eqb (get_or X i 0) 0 && eqb (get_or w (get_or w (n + i) 0) 0) i

pub record Readable (X w : List ℕ) (n i : ℕ) : Type 0 where
  pub inside : n + i < length w
  pub root : get_or X i 0 ≡ 0 → get_or w (n + i) 0 < length w

-- how many there are
pub record RoomFor (C X : List ℕ) (r : ℕ) : Type 0 where
  pub count : r ≡ length (representatives_of C X (cells_of C))
  pub few : r ≤ cells_of C

-- the cell i may be stored as the k-th, where it is one of the list
pub record Storable (P C o z : List ℕ) (last : Bool) (i k : ℕ) : Type 0 where
  pub cells : Cells C (points_of P)
  pub inside : i < cells_of C
  pub few : k ≤ i
  pub room : last ≡ true → (k < length o) × (3 * k + 3 ≤ length z)

pub record ListedAt (P C o z o' z' : List ℕ) (last : Bool) (i k r : ℕ) : Type 0 where
  pub number : Stored o k (cond last (i ∷ []) []) r o'
  pub centroid : Stored z (3 * k) (cond last (centroid_bits P C i) []) (3 * r) z'

-- the groups are found
pub record Found (P C X w : List ℕ) (n : ℕ) : Type 0 where
  pub points : n ≡ points_of P
  pub labelled : Labelled C X w n

-- all are stored, in tables that are just as long
pub record Storing (P C X o z w : List ℕ) (n : ℕ) : Type 0 where
  pub found : Found P C X w n
  pub numbers : length o ≡ length (representatives_of C X (cells_of C))
  pub centroids : length z ≡ 3 * length (representatives_of C X (cells_of C))

pub record Listed (P C X o' z' : List ℕ) : Type 0 where
  pub numbers : o' ≡ representatives_of C X (cells_of C)
  pub centroids : z' ≡ centroids_of P C X (cells_of C)

pub record Represents (P C X o z : List ℕ) (r : Result ℕ CountError) (o' z' : List ℕ) : Type 0 where
  pub answer : r ≡ listed_of C X o z
  pub numbers : o' ≡ numbers_after (listed_of C X o z) C X o
  pub centroids : z' ≡ centroids_after (listed_of C X o z) P C X z
