-- What `representatives` promises, about its definitions: the list is exactly the highest cells of the groups, ascending, each with its
-- centroid; each refusal exactly when, the lowest first; one outcome only. Assumes nothing.
use mathlib.Core.Path.{◌≡◌, refl, sym, ap, ◌∙◌}
use mathlib.Core.Logic.{◌⊎◌, inl, inr, ◌≢◌, ◌↔◌}
use mathlib.Core.Bool.{Bool, true, false, cond}
use mathlib.Core.List.{List, [], ◌∷◌, ◌++◌}
use Prim.Native.Nat.{ℕ, ◌+◌, ◌*◌, ◌/◌, ◌≤◌, ◌<◌}
use native.Mathlib.Omega.{arith}
use borrow.Author.Tests.{eqb-true, eq-eqb}
use lib.Dec.{eqb, ltb}
use lib.ListN.{length, get_or, drop, get_or-append}
use Rattle.sorting.specs.Numbers.{Strict}
use Rattle.lists.specs.Tables.{front, on, Determined}
use Rattle.lists.proofs.Bools.{and_left, and_right}
use Rattle.lists.proofs.Cases.{eq_or}
use Rattle.lists.proofs.Lent.{as_new, determined}
use Rattle.refusals.specs.Rows.{first, InTurn, rising, caused, lower}
use Rattle.refusals.specs.Causes.{work_rows, each_rows, answer_rows, room_rows}
use Rattle.std.specs.Prelude.{Result, Ok, Err}
use Rattle.refusals.specs.Refusals.{count_number, count_values}
use Rattle.refusals.specs.declared.CountError.{CountError}
use Rattle.refusals.specs.declared.CountError.TheVariants.{Short}
use Rattle.refusals.proofs.Rows.{unless_none, unless_some, in_turn, exactly}
use Rattle.refusals.proofs.Refusals.{above_none, room_number, counted_number}
use Rattle.mesh.specs.Mesh.{cells_of}
use Rattle.mesh.specs.Judged.{count_rows, whole_rows, size_rows, name_rows}
use Rattle.links.specs.Labels.{label_at}
use Rattle.links.specs.Walks.{Walk, Share}
use Rattle.links.proofs.Groups.{label_joined, label_highest}
use Rattle.groups.specs.Judged.{crossed_rows}
use Rattle.groups.proofs.Unrefused.{crossed_proper, crossed_named}
use Rattle.representatives.specs.Highest.{is_highest, representatives_of, centroid_bits, centroids_of}
use Rattle.representatives.specs.Step.{count_of, input_rows, representatives_rows, listed_of, represented_of, RepresentativesDone}
use Rattle.lists.proofs.Passing.{those_pass, those_all, those_rise, spread_length, spread_at}
use Rattle.representatives.proofs.Listing.{centroid_three}

-- the cell i is not crossed, and no cell that it is joined with is higher
pub record Highest (C X : List ℕ) (n i : ℕ) : Type 0 where
  pub free : get_or X i 0 ≡ 0
  pub top : (j : ℕ) → Walk (Share C X (4 * n)) i j → j ≤ i

highest_means : (C X : List ℕ) (n i : ℕ) → (is_highest C X n i ≡ true) ↔ Highest C X n i
unfolding is_highest
highest_means C X n i = (
  λ h.
      let e : label_at C X n i ≡ i = eqb-true _ _ (and_right (eqb (get_or X i 0) 0) (eqb (label_at C X n i) i) h) in
      record {
        free = eqb-true _ _ (and_left (eqb (get_or X i 0) 0) (eqb (label_at C X n i) i) h);
        top = λ j w. omega (arith, label_highest C X n i j w);
      },
  λ h.
      let up : i ≤ label_at C X n i = label_highest C X n i i (Rattle.links.specs.Walks.here) in
      let e : label_at C X n i ≡ i = omega (arith, h.top (label_at C X n i) (label_joined C X n i)) in
      rw (eq-eqb (get_or X i 0) 0 h.free, eq-eqb (label_at C X n i) i e) refl,
)

module _ (C X : List ℕ) (n : ℕ) where
  -- each entry of the list is the highest cell of its group, every such cell is in the list, and the list ascends
  pub listed_highest : (k : ℕ) → k < length (representatives_of C X n) → (get_or (representatives_of C X n) k 0 < n) × Highest C X n (get_or (representatives_of C X n) k 0)
  unfolding representatives_of
  listed_highest k h =
      let p = those_pass (is_highest C X n) n k h in
      (p.0, (highest_means C X n (get_or (representatives_of C X n) k 0)).0 p.1)

  pub highest_listed : (i : ℕ) → i < n → Highest C X n i → (k : ℕ) × (k < length (representatives_of C X n)) × (get_or (representatives_of C X n) k 0 ≡ i)
  unfolding representatives_of
  highest_listed i h p = those_all (is_highest C X n) n i h ((highest_means C X n i).1 p)

  pub ascending : Strict (representatives_of C X n)
  unfolding representatives_of
  ascending = those_rise (is_highest C X n) n

-- ---- each refusal exactly when: in its turn, which is the lowest first

module _ (P C X o z w : List ℕ) where
  number_is : count_number (represented_of P C X o z w) ≡ first (representatives_rows P C X o z w)
  unfolding represented_of listed_of first room_rows
  number_is =
      let k : ℕ = count_of C X in
      counted_number (input_rows P C X w) (room_rows (length o) k ++ room_rows (length z / 3) k) _ (crossed_proper (length P) C X (length w) 1 1)
      (crossed_named (length P) C X (length w) 1 1)
      (room_number (length o) k k _ (room_rows (length z / 3) k) (room_number (length z / 3) k k _ [] refl))

  pub representatives_in_turn : (k : ℕ) → 0 < k → (count_number (represented_of P C X o z w) ≡ k) ↔ InTurn k (representatives_rows P C X o z w)
  representatives_in_turn = in_turn (representatives_rows P C X o z w) number_is

  pub representatives_exactly : (k : ℕ) → 0 < k
      → (count_number (represented_of P C X o z w) ≡ k) ↔ ((caused k (representatives_rows P C X o z w) ≡ true) × (lower k (representatives_rows P C X o z w) ≡ false))
  unfolding rising crossed_rows size_rows count_rows whole_rows work_rows each_rows answer_rows name_rows room_rows
  representatives_exactly = exactly (representatives_rows P C X o z w) refl number_is

  pub representatives_one : Determined (λ (a : Result ℕ CountError × List ℕ × List ℕ × List ℕ). RepresentativesDone P C X o z w a.0 a.1 a.2 a.3)
  representatives_one = determined (λ a d i. (d.answer i, d.numbers i, d.centroids i, d.work i))

  -- ---- the tables of an answer

  -- entry k of the numbers is the k-th representative, and of the centroids its centroid, three patterns each
  pub record Represented (count : ℕ) (o' z' : List ℕ) : Type 0 where
    pub highest : (k : ℕ) → k < count → (get_or o' k 0 < cells_of C) × Highest C X (cells_of C) (get_or o' k 0)
    pub all : (i : ℕ) → i < cells_of C → Highest C X (cells_of C) i → (k : ℕ) × (k < count) × (get_or o' k 0 ≡ i)
    pub rising : (j k : ℕ) → j < k → k < count → get_or o' j 0 < get_or o' k 0
    pub centroid : (k b : ℕ) → k < count → b < 3 → get_or z' (3 * k + b) 0 ≡ get_or (centroid_bits P C (get_or o' k 0)) b 0

  listed_is : count_number (listed_of C X o z) ≡ 0 → listed_of C X o z ≡ Ok (count_of C X)
  unfolding listed_of
  listed_is = go (ltb (length o) (count_of C X)) (ltb (length z / 3) (count_of C X))
    where
      go : (s t : Bool) → count_number {A = ℕ} (cond s (Err (Short (count_of C X))) (cond t (Err (Short (count_of C X))) (Ok (count_of C X)))) ≡ 0
          → cond s (Err (Short (count_of C X))) (cond t (Err (Short (count_of C X))) (Ok (count_of C X))) ≡ Ok (count_of C X)
      go true t e = absurd (omega arith)
      go false true e = absurd (omega arith)
      go false false e = refl

  answer_is : count_number (represented_of P C X o z w) ≡ 0 → represented_of P C X o z w ≡ Ok (count_of C X)
  unfolding represented_of
  answer_is e = go (eq_or (first (input_rows P C X w)) 0)
    where
      go : (first (input_rows P C X w) ≡ 0) ⊎ (first (input_rows P C X w) ≢ 0) → represented_of P C X o z w ≡ Ok (count_of C X)
      go (inl q) =
          let a : represented_of P C X o z w ≡ listed_of C X o z = unless_none _ _ _ q in
          a ∙ listed_is (sym (ap (λ (a : Result ℕ CountError). count_number a) a) ∙ e)
      go (inr d) = absurd (above_none _ (sym (ap (λ (a : Result ℕ CountError). count_number a) (unless_some _ _ (listed_of C X o z) d)) ∙ e))

  module _ {r : Result ℕ CountError} {o' z' w' : List ℕ} {count : ℕ} (d : RepresentativesDone P C X o z w r o' z' w') (e : r ≡ Ok count) where
    number_zero : count_number (represented_of P C X o z w) ≡ 0
    number_zero = ap (λ (a : Result ℕ CountError). count_number a) (sym d.answer ∙ e)

    count_is : count ≡ count_of C X
    count_is =
        let v : count ∷ [] ≡ count_of C X ∷ [] = ap count_values (sym e ∙ d.answer ∙ answer_is number_zero) in
        ap (λ (l : List ℕ). get_or l 0 0) v

    number_at : (k : ℕ) → k < count → get_or o' k 0 ≡ get_or (representatives_of C X (cells_of C)) k 0
    number_at k h =
        ap (λ (l : List ℕ). get_or l k 0)
        (d.numbers ∙ ap (λ (n : ℕ). on (0 ∷ []) n (front (count_of C X) (representatives_of C X (cells_of C)) o) o) number_zero ∙ as_new [] _ o)
        ∙ get_or-append (representatives_of C X (cells_of C)) (drop (count_of C X) o) 0 k (omega (arith, count_is))

    centroid_at : (k b : ℕ) → k < count → b < 3 → get_or z' (3 * k + b) 0 ≡ get_or (centroid_bits P C (get_or o' k 0)) b 0
    unfolding centroids_of
    centroid_at k b h g =
        ap (λ (l : List ℕ). get_or l (3 * k + b) 0)
        (d.centroids ∙ ap (λ (n : ℕ). on (0 ∷ []) n (front (3 * count_of C X) (centroids_of P C X (cells_of C)) z) z) number_zero ∙ as_new [] _ z)
        ∙ get_or-append (centroids_of P C X (cells_of C)) (drop (3 * count_of C X) z) 0 (3 * k + b)
        (omega (arith, count_is, spread_length (centroid_bits P C) 3 (centroid_three P C) (representatives_of C X (cells_of C))))
        ∙ spread_at (centroid_bits P C) 3 (centroid_three P C) (representatives_of C X (cells_of C)) k b (omega (arith, count_is)) g
        ∙ ap (λ (i : ℕ). get_or (centroid_bits P C i) b 0) (sym (number_at k h))

    pub represented : Represented count o' z'
    represented = record {
      highest = λ k h. rw (number_at k h) (listed_highest C X (cells_of C) k (omega (arith, count_is)));
      all = λ i h p.
          let f = highest_listed C X (cells_of C) i h p in
          let k : f.0 < count = omega (arith, f.1, count_is) in
          (f.0, k, number_at f.0 k ∙ f.2);
      rising = λ j k a b.
          let g : j < count = omega arith in
          omega (arith, number_at j g, number_at k b, ascending C X (cells_of C) j k a (omega (arith, count_is)));
      centroid = centroid_at;
    }
