-- The split table that the passes make is the refinement of the crossing table. Assumes nothing.
use mathlib.Core.Path.{◌≡◌, ap, ◌∙◌}
use mathlib.Core.List.{List, []}
use Prim.Native.Nat.{ℕ}
use native.Mathlib.Omega.{arith}
use lib.ListN.{length}
use lib.Seq.{ext_get_or}
use Rattle.space.specs.Levels.{off}
use Rattle.octants.specs.Table.{levels, raw_of, balance_of, refine_of, total}
use Rattle.octants.proofs.DemandTable.{raw_balanced}
use Rattle.octree.specs.Parts.{roots_of, Covers}
use Rattle.octree.specs.declared.Roots.{Roots}
use Rattle.refine.specs.Parts.{TableAsked, TableDone}

-- no levels: no octants
pub none_done : {d : Roots} {C o : List ℕ} → TableAsked d C o → d.levels ≡ 0 → TableDone d C 0 o
unfolding levels off total
none_done {d} {C} {o} h e =
    let z : length o ≡ off (roots_of d) 0 = h.same ∙ h.octants ∙ ap (off (roots_of d)) e in
    let n : o ≡ [] = ext_get_or 0 o [] z (λ i p. absurd (omega arith)) in
    record { split = n ∙ rw e; ones = rw e }

pub covers_again : {d : Roots} {m n : ℕ} → Covers d m → n ≡ m → Covers d n
covers_again c e = record { roots = c.roots; levels = c.levels; octants = e ∙ c.octants }

-- copied, cleared, balanced and counted
pub table_done : {d : Roots} {C s t u : List ℕ} {r : ℕ} → s ≡ C → t ≡ raw_of (roots_of d) d.levels s → u ≡ balance_of (roots_of d) d.levels t → r ≡ total u → TableDone d C r u
table_done {d} {C} {s} {t} {u} {r} e f g n =
    let p : u ≡ refine_of (roots_of d) d.levels C =
    g ∙ ap (balance_of (roots_of d) d.levels) (f ∙ ap (raw_of (roots_of d) d.levels) e) ∙ raw_balanced (roots_of d) d.levels C in
    record { split = p; ones = n ∙ ap total p }
