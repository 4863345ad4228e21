use mathlib.Core.Path.{sym, ap, ◌∙◌}
use mathlib.Core.List.{List}
use native.Mathlib.Omega.{arith}
use Prim.Native.Nat.{ℕ}
use lib.Seq.{length-take-le}
use Rattle.decimal.specs.Text.{text_at}
use Rattle.decimal.proofs.Decimals.{digits_room}
use Rattle.decimal.proofs.Texts.{front_in, front_is}
use Rattle.decimal.proofs.digits_of.Goals as goal

pub put_digits-many-requires : goal.put_digits-many-requires
put_digits-many-requires c = omega (arith, digits_room c.args.n)

pub slice_bounds-room-end : goal.slice_bounds-room-end
slice_bounds-room-end c = front_in _ _ _ _ c.put_digits-many.ensures (digits_room c.args.n)

pub slice_bounds-text-end : goal.slice_bounds-text-end
slice_bounds-text-end c = sym (length-take-le _ _ (front_in _ _ _ _ c.put_digits-many.ensures (digits_room c.args.n)))

pub returns : goal.returns
returns c = c.text.ensures ∙ ap (λ (t : List ℕ). text_at t c.args.file.now c.args.at) (front_is _ _ _ _ c.put_digits-many.ensures (digits_room c.args.n))
