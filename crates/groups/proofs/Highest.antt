-- The last cell of a group is its label. Assumes nothing.
use mathlib.Core.Path.{◌≡◌, sym, ap, ◌∙◌}
use mathlib.Core.List.{List}
use Prim.Native.Nat.{ℕ, ◌*◌, ◌≤◌, ◌<◌}
use native.Mathlib.Omega.{arith}
use lib.ListN.{length, get_or}
use Rattle.links.specs.Labels.{label_at}
use Rattle.links.specs.Walks.{Walk, here, fore, back, Groups, Share}
use Rattle.links.specs.Parts.{SameCell}
use Rattle.links.proofs.Walking.{one_label}
use Rattle.links.proofs.Defined.{labelling, label_in, label_lt}
use Rattle.links.proofs.Patterns.{onto_vertices, onto_cells}

-- k is a cell below i, of the group of j, and not below it; D has the group of each cell
pub record Last (X D : List ℕ) (i j k : ℕ) : Type 0 where
  pub up : j ≤ k
  pub below : k < i
  pub free : get_or X k 0 ≡ 0
  pub group : get_or D k 0 ≡ get_or D j 0

-- who is joined with a cell that is not crossed is not crossed
pub walk_free : {C X : List ℕ} {M i j : ℕ} → Walk (Share C X M) i j → get_or X i 0 ≡ 0 → get_or X j 0 ≡ 0
walk_free here h = h
walk_free {X = X} (fore s v) h = walk_free v (ap (λ (k : ℕ). get_or X k 0) (sym s.q_cell) ∙ s.q_free)
walk_free {X = X} (back s v) h = walk_free v (ap (λ (k : ℕ). get_or X k 0) (sym s.p_cell) ∙ s.p_free)

module _ (C X : List ℕ) (n : ℕ) where
  pub label_below : (i : ℕ) → i < n → label_at C X n i < n
  label_below i h = omega (arith, label_in C X n i h, label_lt C X n i h)

  pub label_free : (i : ℕ) → get_or X i 0 ≡ 0 → get_or X (label_at C X n i) 0 ≡ 0
  label_free i h = walk_free ((labelling C X n).walk i) h

module _ (C X D T : List ℕ) (n : ℕ) (e : length C ≡ 4 * n) (f : ℕ → ℕ) (l : Groups (SameCell C X (length C)) f)
    (at : (j : ℕ) → j < n → get_or X j 0 ≡ 0 → get_or D j 0 ≡ f (get_or C (j * 4) 0))
    (last : (j : ℕ) → j < n → get_or X j 0 ≡ 0 → Last X D n j (get_or T (get_or D j 0) 0)) where
  pub last_is : (j : ℕ) → j < n → get_or X j 0 ≡ 0 → get_or T (get_or D j 0) 0 ≡ label_at C X n j
  last_is j h z =
      let k : ℕ = get_or T (get_or D j 0) 0 in
      let m : ℕ = label_at C X n j in
      let q = last j h z in
      let mh : m < n = label_below C X n j h in
      let mz : get_or X m 0 ≡ 0 = label_free C X n j z in
      let same : label_at C X n m ≡ label_at C X n j = sym (one_label (Share C X (4 * n)) (label_at C X n) (labelling C X n) ((labelling C X n).walk j)) in
      let dm : get_or D m 0 ≡ get_or D j 0 = at m mh mz ∙ onto_vertices C X n e f l m j same ∙ sym (at j h z) in
      let up : m ≤ get_or T (get_or D m 0) 0 = (last m mh mz).up in
      let same-entry : get_or T (get_or D m 0) 0 ≡ k = ap (λ (d : ℕ). get_or T d 0) dm in
      let lk : label_at C X n k ≡ label_at C X n j =
      onto_cells C X n e f l k j q.below h q.free z (sym (at k q.below q.free) ∙ q.group ∙ at j h z) in
      omega (arith, (labelling C X n).up k)
