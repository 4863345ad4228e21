use native.Mathlib.Nat.{mul-le-mul}
use native.Mathlib.Omega.{arith}
use borrow.Author.Tests.{lt-ltb, le-ltb, eq-eqb, ne_eqb}
use Rattle.refusals.specs.Rows.{first}
use Rattle.refusals.specs.Causes.{work_rows}
use Rattle.mesh.specs.Judged.{count_rows, whole_rows, size_rows}
use Rattle.mesh.proofs.judge_sizes.Goals as goal

pub returns-then-points-gt-MOST : goal.returns-then-points-gt-MOST
unfolding first size_rows count_rows whole_rows work_rows
returns-then-points-gt-MOST c = rw (lt-ltb _ _ c.if-points-gt-MOST.true)

pub returns-then-cells-gt-MOST : goal.returns-then-cells-gt-MOST
unfolding first size_rows count_rows whole_rows work_rows
returns-then-cells-gt-MOST c = rw (le-ltb _ _ c.if-points-gt-MOST.false, lt-ltb _ _ c.if-cells-gt-MOST.true)

pub returns-then-points-ne0 : goal.returns-then-points-ne0
unfolding first size_rows count_rows whole_rows work_rows
returns-then-points-ne0 c = rw (le-ltb _ _ c.if-points-gt-MOST.false, le-ltb _ _ c.if-cells-gt-MOST.false, ne_eqb _ _ c.if-points-ne0.true)

pub returns-then-cells-ne0 : goal.returns-then-cells-ne0
unfolding first size_rows count_rows whole_rows work_rows
returns-then-cells-ne0 c =
    rw (
      le-ltb _ _ c.if-points-gt-MOST.false,
      le-ltb _ _ c.if-cells-gt-MOST.false,
      eq-eqb _ _ c.if-points-ne0.false,
      ne_eqb _ _ c.if-cells-ne0.true,
    )

pub overflow_mul-a : goal.overflow_mul-a
overflow_mul-a c = omega (arith, mul-le-mul c.requires.0 c.if-cells-gt-MOST.false)

pub overflow_mul-b : goal.overflow_mul-b
overflow_mul-b c = omega (arith, mul-le-mul c.requires.1 c.if-points-gt-MOST.false)

pub overflow_add-a : goal.overflow_add-a
overflow_add-a c =
    omega (
      arith,
      mul-le-mul c.requires.0 c.if-cells-gt-MOST.false,
      mul-le-mul c.requires.1 c.if-points-gt-MOST.false,
    )

pub returns-then-room-a : goal.returns-then-room-a
unfolding first size_rows count_rows whole_rows work_rows
returns-then-room-a c =
    rw (
      le-ltb _ _ c.if-points-gt-MOST.false,
      le-ltb _ _ c.if-cells-gt-MOST.false,
      eq-eqb _ _ c.if-points-ne0.false,
      eq-eqb _ _ c.if-cells-ne0.false,
      lt-ltb _ _ c.if-room-a.true,
    )

pub returns : goal.returns
unfolding first size_rows count_rows whole_rows work_rows
returns c =
    rw (
      le-ltb _ _ c.if-points-gt-MOST.false,
      le-ltb _ _ c.if-cells-gt-MOST.false,
      eq-eqb _ _ c.if-points-ne0.false,
      eq-eqb _ _ c.if-cells-ne0.false,
      le-ltb _ _ c.if-room-a.false,
    )
