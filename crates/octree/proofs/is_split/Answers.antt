use mathlib.Core.Path.{◌∙◌}
use Prim.Native.Nat.{suc, ◌-◌}
use native.Mathlib.Omega.{arith}
use Rattle.octants.specs.Oct.{counts}
use Rattle.octants.proofs.TableLaws.{off_le}
use Rattle.octants.proofs.Levels.{hit_finest}
use Rattle.octree.specs.Parts.{roots_of, place_of}
use Rattle.octree.proofs.Levels.{level_end, split_is}
use Rattle.octree.proofs.is_split.Goals as goal

pub returns-then-o-eq0 : goal.returns-then-o-eq0
returns-then-o-eq0 c =
    let a = c.args in
    let d = roots_of a.t.now.roots in
    hit_finest a.t.now.roots.levels a.o.level d a.t.now.split.now (counts a.t.now.roots.levels d a.o.level) (place_of a.o) c.if-o-eq0.true

pub hits-requires : goal.hits-requires
hits-requires c =
    let d = c.args.t.now.roots in
    let k = d.levels - c.args.o.level in
    omega (arith, level_end (roots_of d) k c.level_at.ensures, c.args.t.now.covers.octants, off_le (roots_of d) (suc k) d.levels (omega arith))

pub returns : goal.returns
returns c =
    let a = c.args in
    c.hits.ensures
    ∙ split_is (roots_of a.t.now.roots) a.t.now.roots.levels a.o.level a.t.now.split.now (place_of a.o) c.level_at.ensures (omega (arith, c.if-o-eq0.false)) c.requires
