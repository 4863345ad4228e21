use Rattle.std.proofs.Common.{◌≡◌, ℕ, ◌^◌, ◌≤◌, ◌<◌, true, sym, subst, le_trans, lt_of_lt_of_le, le_of_lt, lit≤, le→leb, Fits-le, Fits-lit}
use lib.Ieee.{of_bits, in_float, lt, to_unsigned}
use Rattle.std.specs.Prelude.{Float}
use Rattle.float32.specs.Ceiling.{not_above}
use Rattle.float32.specs.Parts.{Tried}
use Rattle.float32.proofs.Floats.{zero32}
use Rattle.float32.proofs.Wholes.{stays, bound_tried, part_low, part_high, part_tried}
use Rattle.float32.proofs.start.Goals as goal

small : (most : ℕ) → most < 8388608 → most ≤ 2 ^ 24
small most h = le_trans (le_of_lt h) (lit≤ tt)

pub int_to_float-most : goal.int_to_float-most
unfolding in_float
int_to_float-most c = le→leb c.args.most (2 ^ 24) (small _ c.requires)

pub returns-then-x-most : goal.returns-then-x-most
returns-then-x-most c =
    bound_tried c.args.most c.args.x (small _ c.requires) c.if-x-most.true

pub truncating_f32_to_u64-requires : goal.truncating_f32_to_u64-requires
unfolding of_bits
truncating_f32_to_u64-requires c =
    record {
      lower_bound = part_low c.args.x c.if-x.true;
      upper_bound = part_high c.args.most (lt_of_lt_of_le c.requires (lit≤ tt)) c.args.x c.if-x.true (stays _ c.args.x (small _ c.requires) c.if-x-most.false);
    }

tried : (most : ℕ) (x : Float) (r : ℕ) → r ≡ to_unsigned 64 x → most < 8388608 → lt zero32 x ≡ true → not_above x most ≡ true → Tried most x r
tried most x r e h p q = subst (Tried most x) (sym e) (part_tried most x p q)

pub overflow_cast-result : goal.overflow_cast-result
unfolding of_bits
overflow_cast-result c =
    let t : Tried c.args.most c.args.x c.truncating_f32_to_u64.result =
    tried _ c.args.x _ c.truncating_f32_to_u64.ensures c.requires c.if-x.true (stays _ c.args.x (small _ c.requires) c.if-x-most.false) in
    Fits-le (le_trans t.within (le_of_lt c.requires)) (Fits-lit tt)

pub returns-then-x : goal.returns-then-x
unfolding of_bits
returns-then-x c =
    tried _ c.args.x _ c.truncating_f32_to_u64.ensures c.requires c.if-x.true (stays _ c.args.x (small _ c.requires) c.if-x-most.false)
