-- `visits::visit_in` meets its contract.
use Rattle.record.specs.Laws.Sounded.{sound_vertices}
use Rattle.queries.proofs.Laws.Singles.{visit_told, visit_stray}
use Rattle.queries.specs.Seen.{seen}
use Prim.Native.Nat.{◌-◌}
use native.Mathlib.Omega.{arith}
use Rattle.queries.proofs.visits.visit_in.Goals as goal

pub returns-then-i-x : goal.returns-then-i-x
returns-then-i-x c =
    let i = c.args.i.now in
    visit_stray (seen i) {u = c.args.v.0 - 1} c.stored-x.ensures.0 (omega (arith, sound_vertices i.layout.sound))

pub returns : goal.returns
returns c =
    let i = c.args.i.now in
    visit_told (seen i) {u = c.args.v.0 - 1} c.stored-x.ensures.0 (omega (arith, sound_vertices i.layout.sound))
