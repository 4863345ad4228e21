-- The outcomes of readers and writers by their numbers. Assumes nothing.
use mathlib.Core.Path.{◌≡◌, refl, sym, ap, ◌∙◌}
use mathlib.Core.Logic.{◌⊎◌, inl, inr, ◌≢◌}
use mathlib.Core.Bool.{Bool, true, false, cond, not, ◌&&◌, ◌||◌}
use mathlib.Core.List.{List, [], ◌∷◌, ◌++◌}
use Prim.Native.Nat.{ℕ, ◌<◌}
use native.Mathlib.Omega.{arith}
use borrow.Author.Tests.{eq-eqb, ne_eqb, eqb-false, not-true}
use lib.Dec.{eqb}
use Rattle.lists.specs.Tables.{on, among}
use Rattle.lists.proofs.Bools.{and_left, and_right, both_and}
use Rattle.lists.proofs.Cases.{eq_or}
use Rattle.refusals.specs.Rows.{Row, ◌when◌, first}
use Rattle.refusals.specs.Refusals.{as_number, as_refusal, named, count_number}
use Rattle.refusals.specs.declared.Refusal.{Refusal}
use Rattle.refusals.specs.declared.CountError.{CountError}
use Rattle.refusals.specs.declared.CountError.TheVariants as count
use Rattle.refusals.proofs.Refusals.{its_own, above_none}
use Rattle.file_steps.specs.Loaded.{done, number_of, loaded_by}
use Rattle.file_steps.specs.Writer.{written_by}
use Rattle.file_steps.specs.declared.Loaded.{Loaded}
use Rattle.file_steps.specs.declared.LoadError.{LoadError}
use Rattle.file_steps.specs.declared.LoadError.TheVariants as loads
use Rattle.std.specs.Prelude.{Result, Ok, Err}

-- ---- an outcome has the number that it is made of

-- each of two groups of rows has the numbers of refusals
pub named_both : (a b : List Row) → named a ≡ true → named b ≡ true → named (a ++ b) ≡ true
unfolding named
named_both [] b h g = g
named_both (k when t ∷ a) b h g =
    both_and (eqb (as_number (as_refusal k)) k) (named (a ++ b)) (and_left (eqb (as_number (as_refusal k)) k) (named a) h)
    (named_both a b (and_right (eqb (as_number (as_refusal k)) k) (named a) h) g)

module _ (k p n : ℕ) where
  pub loaded_number : (k ≢ 0 → as_number (as_refusal k) ≡ k) → number_of (loaded_by k p n) ≡ k
  unfolding loaded_by
  loaded_number h = go (eq_or k 0) (eq_or k 9)
    where
      go : (k ≡ 0) ⊎ (k ≢ 0) → (k ≡ 9) ⊎ (k ≢ 9) → number_of (loaded_by k p n) ≡ k
      go (inl z) q = rw (eq-eqb k 0 z) (sym z)
      go (inr z) (inl q) = rw (ne_eqb k 0 z, eq-eqb k 9 q) (sym q)
      go (inr z) (inr q) = rw (ne_eqb k 0 z, ne_eqb k 9 q) (h z)

  pub loaded_refused : (why : Refusal) → as_number why ≡ k → k ≢ 9 → loaded_by k p n ≡ Err (loads.Refused why)
  unfolding loaded_by
  loaded_refused why e q =
      let z : k ≢ 0 = λ d. above_none why (e ∙ d) in
      rw (ne_eqb k 0 z, ne_eqb k 9 q) (ap (λ (y : ℕ). Err (loads.Refused (as_refusal y))) (sym e) ∙ ap (λ (y : Refusal). Err (loads.Refused y)) (its_own why))

  -- and an answer carries points and cells
  pub loaded_done : {p' n' : ℕ} → loaded_by k p n ≡ done p' n' → (k ≡ 0) × (p ≡ p') × (n ≡ n')
  unfolding loaded_by
  loaded_done {p'} {n'} e = go (eq_or k 0) (eq_or k 9)
    where
      go : (k ≡ 0) ⊎ (k ≢ 0) → (k ≡ 9) ⊎ (k ≢ 9) → (k ≡ 0) × (p ≡ p') × (n ≡ n')
      go (inl z) q =
          let d : done p n ≡ done p' n' = rw (eq-eqb k 0 z) at e in
          let r : ◌≡◌ {A = Loaded} (record { points = p; cells = n }) (record { points = p'; cells = n' }) = cc in
          (z, ap (λ (x : Loaded). x.points) r, ap (λ (x : Loaded). x.cells) r)
      go (inr z) (inl q) = let d : ◌≡◌ {A = Result Loaded LoadError} (Err (loads.Short p n)) (done p' n') = rw (ne_eqb k 0 z, eq-eqb k 9 q) at e in cc
      go (inr z) (inr q) = let d : ◌≡◌ {A = Result Loaded LoadError} (Err (loads.Refused (as_refusal k))) (done p' n') = rw (ne_eqb k 0 z, ne_eqb k 9 q) at e in cc

module _ (k n : ℕ) where
  pub written_number : (k ≢ 0 → as_number (as_refusal k) ≡ k) → count_number (written_by k n) ≡ k
  unfolding written_by
  written_number h = go (eq_or k 0) (eq_or k 9)
    where
      go : (k ≡ 0) ⊎ (k ≢ 0) → (k ≡ 9) ⊎ (k ≢ 9) → count_number (written_by k n) ≡ k
      go (inl z) q = rw (eq-eqb k 0 z) (sym z)
      go (inr z) (inl q) = rw (ne_eqb k 0 z, eq-eqb k 9 q) (sym q)
      go (inr z) (inr q) = rw (ne_eqb k 0 z, ne_eqb k 9 q) (h z)

  pub written_refused : (why : Refusal) → as_number why ≡ k → k ≢ 9 → written_by k n ≡ Err (count.Refused why)
  unfolding written_by
  written_refused why e q =
      let z : k ≢ 0 = λ d. above_none why (e ∙ d) in
      rw (ne_eqb k 0 z, ne_eqb k 9 q) (ap (λ (y : ℕ). Err (count.Refused (as_refusal y))) (sym e) ∙ ap (λ (y : Refusal). Err (count.Refused y)) (its_own why))

  pub written_done : {m : ℕ} → written_by k n ≡ Ok m → (k ≡ 0) × (n ≡ m)
  unfolding written_by
  written_done {m} e = go (eq_or k 0) (eq_or k 9)
    where
      go : (k ≡ 0) ⊎ (k ≢ 0) → (k ≡ 9) ⊎ (k ≢ 9) → (k ≡ 0) × (n ≡ m)
      go (inl z) q = let d : ◌≡◌ {A = Result ℕ CountError} (Ok n) (Ok m) = rw (eq-eqb k 0 z) at e in (z, (cc))
      go (inr z) (inl q) = let d : ◌≡◌ {A = Result ℕ CountError} (Err (count.Short n)) (Ok m) = rw (ne_eqb k 0 z, eq-eqb k 9 q) at e in cc
      go (inr z) (inr q) = let d : ◌≡◌ {A = Result ℕ CountError} (Err (count.Refused (as_refusal k))) (Ok m) = rw (ne_eqb k 0 z, ne_eqb k 9 q) at e in cc

-- ---- rows without a number

-- no row has the number k
unfoldable pub lacks : ℕ → List Row → Bool
lacks k [] = true
lacks k (m when t ∷ l) = not (eqb m k) && lacks k l

pub first_lacks : (k : ℕ) (l : List Row) → 0 < k → lacks k l ≡ true → first l ≢ k
unfolding lacks first
first_lacks k [] p h e = omega arith
first_lacks k (m when true ∷ l) p h e = eqb-false m k (not-true (eqb m k) (and_left (not (eqb m k)) (lacks k l) h)) e
first_lacks k (m when false ∷ l) p h e = first_lacks k l p (and_right (not (eqb m k)) (lacks k l) h) e

-- ---- a table that is new on an answer and on one number more

pub lent_twice : (j k : ℕ) (new lent : List ℕ) → k ≢ 0 → k ≢ j → on (0 ∷ j ∷ []) k new lent ≡ lent
unfolding among
lent_twice j k new lent z d = rw (ne_eqb k 0 z, ne_eqb k j d) refl

pub new_twice : (j k : ℕ) (new lent : List ℕ) → k ≡ j → on (0 ∷ j ∷ []) k new lent ≡ new
unfolding among
new_twice j k new lent e = go (eqb k 0)
  where
    go : (t : Bool) → cond (t || (eqb k j || false)) new lent ≡ new
    go true = refl
    go false = rw (eq-eqb k j e) refl
