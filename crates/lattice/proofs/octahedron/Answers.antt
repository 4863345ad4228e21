use native.Mathlib.Omega.{arith}
use Rattle.lattice.proofs.Stores.{octa_row, octa_here, octa_long, octa_stored}
use Rattle.lattice.proofs.octahedron.Goals as goal

pub returns-then-not-row : goal.returns-then-not-row
returns-then-not-row c = let a = c.args in octa_row a.row a.here a.o _ _ c.if-not-row.true

pub returns-then-not-here : goal.returns-then-not-here
returns-then-not-here c = let a = c.args in octa_here a.row a.here a.o _ _ c.if-not-row.false c.if-not-here.true

pub store_all-requires : goal.store_all-requires
store_all-requires c =
    let a = c.args in
    omega (arith, c.requires.room.fits, octa_long a.row a.here a.o c.if-not-row.false c.if-not-here.false)

pub store_all-requires-2 : goal.store_all-requires-2
store_all-requires-2 c =
    let a = c.args in
    omega (arith, c.requires.room.fits, octa_long a.row a.here a.o c.if-not-row.false c.if-not-here.false, c.store_all.auto.table)

pub store_all-requires-3 : goal.store_all-requires-3
store_all-requires-3 c =
    let a = c.args in
    omega (arith, c.requires.room.fits, octa_long a.row a.here a.o c.if-not-row.false c.if-not-here.false, c.store_all.auto.table, c.store_all-2.auto.table)

pub store_all-requires-4 : goal.store_all-requires-4
store_all-requires-4 c =
    let a = c.args in
    omega (arith, c.requires.room.fits, octa_long a.row a.here a.o c.if-not-row.false c.if-not-here.false, c.store_all.auto.table, c.store_all-2.auto.table, c.store_all-3.auto.table)

pub returns : goal.returns
returns c =
    let a = c.args in
    octa_stored a.row a.here a.o c.if-not-row.false c.if-not-here.false _ _ _ _ _ a.at c.store_all.ensures c.store_all-2.ensures c.store_all-3.ensures c.store_all-4.ensures
