-- The mark of a cell by its entry of the work, and the marks of all. Assumes nothing.
use mathlib.Core.Path.{◌≡◌, refl, sym, ap, subst, ◌∙◌}
use mathlib.Core.Logic.{◌≢◌}
use mathlib.Core.Bool.{Bool}
use mathlib.Core.List.{List}
use Prim.Native.Nat.{ℕ, ◌+◌}
use borrow.Author.Tests.{eq-eqb, ne_eqb}
use lib.Ieee.{Float}
use lib.ListN.{get_or, drop}
use lib.Seq.{get_or-drop}
use Rattle.lists.proofs.Listing.{list_same}
use Rattle.mesh.specs.Mesh.{points_of, cells_of, cell_of, Points}
use Rattle.mesh.proofs.Named.{cell_points}
use Rattle.mesh.specs.declared.Cell.{Cell}
use Rattle.volume.specs.Cell.{corners_of}
use Rattle.volume.specs.Volume.{least_of, volume_of, verdict_of, verdict_at}
use Rattle.marked.specs.Parts.{marked_in}
use Rattle.keep.specs.Marked.{cover_mark}
use Rattle.keep.specs.Parts.{MarksOf}
use Rattle.marks.specs.Marks.{verdict_mark, mark_by, marks_of}
use Rattle.marks.specs.Parts.{MarkAsked, marks_by}

pub corners_in : (P C w : List ℕ) (n i : ℕ) {k : Cell} → MarkAsked P C w n i → k ≡ cell_of C i → Points (points_of P) k
corners_in P C w n i {k} a e = subst (λ (m : ℕ). Points m k) a.laid.points (cell_points C n i a.laid.sized.cells a.inside e)

module _ (P C w : List ℕ) (n i : ℕ) (least : Float) where
  pub not_marked : get_or w (n + i) 0 ≡ 0 → 0 ≡ mark_by (marked_in (drop n w) i) (verdict_at P C i least)
  unfolding marked_in mark_by
  not_marked z = rw (eq-eqb _ _ (get_or-drop n w i 0 ∙ z)) refl

  pub is_marked : {k : Cell} {r : ℕ} → get_or w (n + i) 0 ≢ 0 → k ≡ cell_of C i → r ≡ verdict_mark (verdict_of (volume_of (corners_of P k)) least)
      → r ≡ mark_by (marked_in (drop n w) i) (verdict_at P C i least)
  unfolding marked_in mark_by verdict_at
  is_marked d e q = rw (ne_eqb (get_or (drop n w) i 0) 0 (λ z. d (sym (get_or-drop n w i 0) ∙ z))) (q ∙ ap (λ (k : Cell). verdict_mark (verdict_of (volume_of (corners_of P k)) least)) e)

-- where the entries mark the cells that Cover keeps, these are the marks
pub marks_are : (c : Float) (P C X Q w : List ℕ) (n : ℕ) {least : Float} → least ≡ least_of c → MarksOf (cover_mark C X Q (cells_of C)) C w n
    → marks_by P C w n least ≡ marks_of c P C X Q
unfolding marks_of
marks_are c P C X Q w n {least} e m =
    rw e (list_same _ _ (cells_of C) (λ i h. ap (λ (b : Bool). mark_by b (verdict_at P C i (least_of c))) (m.marked i h)))
