use native.Mathlib.Omega.{arith}
use Rattle.lists.proofs.Tests.{told}
use Rattle.mesh_layout.proofs.Sections.{three, four, one, standing}
use Rattle.mesh_reader.proofs.Sections.{sections_1, sections_2, sections_3, sections_4, sections_5}
use Rattle.mesh_reader.proofs.judge_sections.Goals as goal

pub returns-then-is_cut : goal.returns-then-is_cut
returns-then-is_cut c = sections_1 _ (told c.is_cut.ensures c.if-is_cut.true)

pub end_of-second-requires : goal.end_of-second-requires
end_of-second-requires c = standing 3 _ _ three (told c.is_cut.ensures c.if-is_cut.false)

pub is_cut-requires-2 : goal.is_cut-requires-2
is_cut-requires-2 c = (four, let s = standing 3 _ _ three (told c.is_cut.ensures c.if-is_cut.false) in omega (arith, s.fits, c.end_of-second.ensures))

pub returns-then-is_cut-2 : goal.returns-then-is_cut-2
returns-then-is_cut-2 c = sections_2 _ (told c.is_cut.ensures c.if-is_cut.false) c.end_of-second.ensures (told c.is_cut-2.ensures c.if-is_cut-2.true)

pub end_of-third-requires : goal.end_of-third-requires
end_of-third-requires c = standing 4 _ _ four (told c.is_cut-2.ensures c.if-is_cut-2.false)

pub is_cut-requires-3 : goal.is_cut-requires-3
is_cut-requires-3 c = (one, let s = standing 4 _ _ four (told c.is_cut-2.ensures c.if-is_cut-2.false) in omega (arith, s.fits, c.end_of-third.ensures))

pub returns-then-is_cut-3 : goal.returns-then-is_cut-3
returns-then-is_cut-3 c = sections_3 _ (told c.is_cut.ensures c.if-is_cut.false) c.end_of-second.ensures (told c.is_cut-2.ensures c.if-is_cut-2.false) c.end_of-third.ensures (told c.is_cut-3.ensures c.if-is_cut-3.true)

pub end_of-requires : goal.end_of-requires
end_of-requires c = standing 1 _ _ one (told c.is_cut-3.ensures c.if-is_cut-3.false)

pub returns-then-end_of-file : goal.returns-then-end_of-file
returns-then-end_of-file c = sections_4 _ (told c.is_cut.ensures c.if-is_cut.false) c.end_of-second.ensures (told c.is_cut-2.ensures c.if-is_cut-2.false) c.end_of-third.ensures (told c.is_cut-3.ensures c.if-is_cut-3.false) c.end_of.ensures c.if-end_of-file.true

pub returns : goal.returns
returns c = sections_5 _ (told c.is_cut.ensures c.if-is_cut.false) c.end_of-second.ensures (told c.is_cut-2.ensures c.if-is_cut-2.false) c.end_of-third.ensures (told c.is_cut-3.ensures c.if-is_cut-3.false) c.end_of.ensures c.if-end_of-file.false
