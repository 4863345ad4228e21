use Rattle.std.proofs.lemmas.Result.{err_from_is_err_and}
use mathlib.Core.Path.{sym, ap}
use Prim.Native.Nat.{ℕ}
use lib.Dec.{eqb}
use lib.Seq.{length-take-le}
use Rattle.pieces.proofs.WaysOut.{work_in, asks, piece_refused, piece_told}
use Rattle.pieces.proofs.one_piece.Goals as goal

pub returns-in_err-judge : goal.returns-in_err-judge
returns-in_err-judge c =
    let p = err_from_is_err_and c.from_residual.result c.from_residual.ensures.1 in
    rw (p.1, p.2) (piece_refused _ _ _ c.in_err-judge.ensures)

pub slice_bounds-number_all-end-2 : goal.slice_bounds-number_all-end-2
slice_bounds-number_all-end-2 c = work_in _ _ _ (sym c.in_ok-judge.ensures)

pub slice_bounds-number_all-end-3 : goal.slice_bounds-number_all-end-3
slice_bounds-number_all-end-3 c = sym (length-take-le _ _ (work_in _ _ _ (sym c.in_ok-judge.ensures)))

pub number_all-count-requires : goal.number_all-count-requires
number_all-count-requires c = asks _ _ _ (sym c.in_ok-judge.ensures)

pub returns : goal.returns
returns c =
    let n = c.number_all-count in
    piece_told _ _ _
    (sym c.in_ok-judge.ensures)
    (ap (λ (k : ℕ). eqb k 1) n.ensures.count) n.ensures.zero
