-- What the numbers by faces mean, that they refine those by vertices, and the two steps' refusals and outcomes as a whole. Assumes nothing.
use mathlib.Core.Path.{◌≡◌, refl, sym, ap, ◌∙◌}
use mathlib.Core.Logic.{◌↔◌}
use mathlib.Core.Bool.{Bool, true, false}
use mathlib.Core.List.{List, [], ◌++◌}
use Prim.Native.Nat.{ℕ, ◌+◌, ◌*◌, ◌<◌}
use native.Mathlib.Omega.{arith}
use borrow.Author.Tests.{eqb-true, eq-eqb}
use lib.Dec.{eqb}
use lib.ListN.{length, get_or, drop, get_or-append}
use Rattle.lists.specs.Tables.{among, Determined}
use Rattle.lists.proofs.Lent.{determined, as_new}
use Rattle.lists.proofs.Appearing.{same_number, one_number}
use Rattle.refusals.specs.Rows.{first, InTurn}
use Rattle.refusals.specs.Causes.{room_rows}
use Rattle.std.specs.Prelude.{Result, Ok, Err}
use Rattle.refusals.specs.Refusals.{as_refusal, count_number}
use Rattle.refusals.specs.declared.Refusal.{Refusal}
use Rattle.refusals.specs.declared.CountError.{CountError}
use Rattle.refusals.proofs.Rows.{in_turn, front_clear, unless_none}
use Rattle.refusals.proofs.Refusals.{named_alone, room_number, counted_number}
use Rattle.mesh.specs.Mesh.{cells_of}
use Rattle.sorting.proofs.Counting.{many_find}
use Rattle.links.specs.Walks.{Walk, here, fore, Share}
use Rattle.links.proofs.Walking.{walk_in, walk_same, group_joined}
use Rattle.components.specs.Numbers.{component_numbers}
use Rattle.components.specs.Step.{ComponentsDone, components_of, numbers_after}
use Rattle.components.proofs.Patterns.{length_components}
use Rattle.components.proofs.Theorems.{Joined, numbers_mean}
use Rattle.face_theory.specs.Faces.{cell_at, common, Proper}
use Rattle.face_theory.proofs.Triples.{among_at}
use Rattle.face_theory.proofs.Sides.{place_of}
use Rattle.faces.proofs.Twice.{rows_proper, rows_named, once}
use Rattle.pieces.specs.Pieces.{piece_at, face_numbers, face_count, ShareFace, JoinedByFaces}
use Rattle.pieces.specs.Step.{piece_rows, face_components_rows, face_components_of, face_numbers_after, FaceComponentsDone, piece_number, one_piece_of, OnePieceDone}
use Rattle.pieces.proofs.Labelled.{pieces_labelled, length_faces}

-- ---- the numbers

module _ (C : List ℕ) (proper : Proper C) where
  same_label : (i j : ℕ) → (piece_at C (cells_of C) i ≡ piece_at C (cells_of C) j) ↔ JoinedByFaces C i j
  same_label i j = (
    group_joined (ShareFace C) (piece_at C (cells_of C)) (pieces_labelled C proper) i j,
    walk_same (piece_at C (cells_of C)) (pieces_labelled C proper).same,
  )

  -- two cells have one number exactly when a chain of cells leads from one to the other, each sharing a face with the next
  pub faces_mean : (i j : ℕ) → i < cells_of C → j < cells_of C
      → (get_or (face_numbers C (cells_of C)) i 0 ≡ get_or (face_numbers C (cells_of C)) j 0) ↔ JoinedByFaces C i j
  unfolding face_numbers
  faces_mean i j hi hj =
      let a = same_number (piece_at C (cells_of C)) (cells_of C) i j hi hj in
      let b = same_label i j in
      (λ e. b.0 (a.0 e), λ w. a.1 (b.1 w))

  -- there is one number exactly when there are cells, and all are joined
  pub one_piece_means : (face_count C (cells_of C) ≡ 1) ↔ ((0 < cells_of C) × ((i j : ℕ) → i < cells_of C → j < cells_of C → JoinedByFaces C i j))
  unfolding face_count
  one_piece_means =
      let a = one_number (piece_at C (cells_of C)) (cells_of C) in (
        λ e. ((a.0 e).0, λ i j hi hj. (same_label i j).0 ((a.0 e).1 i j hi hj)),
        λ h. a.1 (h.0, λ i j hi hj. (same_label i j).1 (h.1 i j hi hj)),
      )

-- ---- each refusal exactly when: in its turn

module _ (P C o w : List ℕ) where
  number_is : count_number (face_components_of P C o w) ≡ first (face_components_rows P C o w)
  unfolding face_components_of first room_rows
  number_is =
      counted_number (piece_rows P C w) (room_rows (length o) (cells_of C)) _ (rows_proper (length P) C (length w)) (rows_named (length P) C (length w))
      (room_number (length o) (cells_of C) (cells_of C) _ [] refl)

  pub face_components_in_turn : (k : ℕ) → 0 < k → (count_number (face_components_of P C o w) ≡ k) ↔ InTurn k (face_components_rows P C o w)
  face_components_in_turn = in_turn (face_components_rows P C o w) number_is

module _ (P C w : List ℕ) where
  piece_number_is : piece_number (one_piece_of P C w) ≡ first (piece_rows P C w)
  unfolding one_piece_of
  piece_number_is = named_alone piece_number (λ k. Err (as_refusal k)) _ (piece_rows P C w) (rows_named (length P) C (length w)) (λ k. refl) refl

  pub one_piece_in_turn : (k : ℕ) → 0 < k → (piece_number (one_piece_of P C w) ≡ k) ↔ InTurn k (piece_rows P C w)
  one_piece_in_turn = in_turn (piece_rows P C w) piece_number_is

-- ---- one outcome only

pub face_components_one : (P C o w : List ℕ) → Determined (λ (z : Result ℕ CountError × List ℕ × List ℕ). FaceComponentsDone P C o w z.0 z.1 z.2)
face_components_one P C o w = determined (λ z a i. (a.answer i, a.numbers i, a.work i))

pub one_piece_one : (P C w : List ℕ) → Determined (λ (z : Result Bool Refusal × List ℕ). OnePieceDone P C w z.0 z.1)
one_piece_one P C w = determined (λ z a i. (a.answer i, a.work i))

-- ---- from the contract

module _ {P C o w o' w' : List ℕ} {r : ℕ} (d : FaceComponentsDone P C o w (Ok r) o' w') where
  zero_number : count_number (face_components_of P C o w) ≡ 0
  zero_number = sym (ap (λ (a : Result ℕ CountError). count_number a) d.answer)

  pub answered_proper : Proper C
  answered_proper = once (length P) C (length w) (front_clear (piece_rows P C w) _ (sym (number_is P C o w) ∙ zero_number))

  pub stored : (i : ℕ) → i < cells_of C → get_or o' i 0 ≡ get_or (face_numbers C (cells_of C)) i 0
  stored i h =
      let e : face_numbers_after P C o w ≡ face_numbers C (cells_of C) ++ drop (cells_of C) o = rw zero_number (as_new [] _ o) in
      ap (λ (l : List ℕ). get_or l i 0) (d.numbers ∙ e)
      ∙ get_or-append (face_numbers C (cells_of C)) _ 0 i (omega (arith, length_faces C (cells_of C)))

  -- numbers that were answered are equal exactly when a chain of cells leads from one to the other, each sharing a face with the next
  pub answered_means : (i j : ℕ) → i < cells_of C → j < cells_of C → (get_or o' i 0 ≡ get_or o' j 0) ↔ JoinedByFaces C i j
  answered_means i j hi hj =
      let m = faces_mean C answered_proper i j hi hj in
      (λ e. m.0 (sym (stored i hi) ∙ e ∙ stored j hj), λ v. stored i hi ∙ m.1 v ∙ sym (stored j hj))

module _ {P C w w' : List ℕ} {b : Bool} (d : OnePieceDone P C w (Ok b) w') where
  abbrev whole : Result Bool Refusal → Bool
  whole (Ok x) = x
  whole (Err why) = false

  not_refused : first (piece_rows P C w) ≡ 0
  not_refused = sym (piece_number_is P C w) ∙ sym (ap piece_number d.answer)

  told_is : b ≡ eqb (face_count C (cells_of C)) 1
  unfolding one_piece_of
  told_is = ap whole (d.answer ∙ unless_none _ _ _ not_refused)

  -- a mesh is told to be one piece exactly when there are cells and all are joined
  pub told_means : (b ≡ true) ↔ ((0 < cells_of C) × ((i j : ℕ) → i < cells_of C → j < cells_of C → JoinedByFaces C i j))
  told_means =
      let m = one_piece_means C (once (length P) C (length w) not_refused) in
      (λ t. m.0 (eqb-true (face_count C (cells_of C)) 1 (sym told_is ∙ t)), λ h. told_is ∙ eq-eqb (face_count C (cells_of C)) 1 (m.1 h))

-- ---- the numbering by faces refines the one by vertices

-- cells that share a face share a vertex
share : (C : List ℕ) (q r : ℕ) → ShareFace C q r → Walk (Share C [] (4 * cells_of C)) q r
unfolding common
share C q r s =
    let a = many_find (λ p. among p (cell_at C r)) 0 (cell_at C q) (omega (arith, s.shares)) in
    let x : ℕ = get_or (cell_at C q) a.0 0 in
    let u = place_of C q x (among_at (cell_at C q) a.0 a.1) in
    let v = place_of C r x a.2 in
    let vertex : Share C [] (4 * cells_of C) q r =
    record {
      p = 4 * q + u.0;
      q = 4 * r + v.0;
      p_in = omega (arith, s.q_in, u.1);
      q_in = omega (arith, s.r_in, v.1);
      vertex = u.2 ∙ sym v.2;
      p_free = refl;
      q_free = refl;
      p_cell = omega (arith, u.1);
      q_cell = omega (arith, v.1);
    }
    in
    fore vertex here

pub joined_by_vertices : (C : List ℕ) (i j : ℕ) → JoinedByFaces C i j → Joined C (cells_of C) i j
joined_by_vertices C i j = walk_in (share C)

-- cells with one number by faces have one number by vertices, whatever tables both steps were lent
pub refines : {P Q C o w o' w' v n v' n' : List ℕ} {r s : ℕ} → FaceComponentsDone P C o w (Ok r) o' w' → ComponentsDone Q C n v (Ok s) n' v'
    → (i j : ℕ) → i < cells_of C → j < cells_of C → get_or o' i 0 ≡ get_or o' j 0 → get_or n' i 0 ≡ get_or n' j 0
refines {Q = Q} {C = C} {v = v} {n = n} {n' = n'} d c i j hi hj e =
    kept i hi ∙ (numbers_mean C (cells_of C) i j hi hj).1 (joined_by_vertices C i j ((answered_means d i j hi hj).0 e)) ∙ sym (kept j hj)
  where
    kept : (k : ℕ) → k < cells_of C → get_or n' k 0 ≡ get_or (component_numbers C (cells_of C)) k 0
    kept k h =
        let z : count_number (components_of Q C n v) ≡ 0 = sym (ap (λ (a : Result ℕ CountError). count_number a) c.answer) in
        let e : numbers_after Q C n v ≡ component_numbers C (cells_of C) ++ drop (cells_of C) n = rw z (as_new [] _ n) in
        ap (λ (l : List ℕ). get_or l k 0) (c.numbers ∙ e)
        ∙ get_or-append (component_numbers C (cells_of C)) _ 0 k (omega (arith, length_components C (cells_of C)))
