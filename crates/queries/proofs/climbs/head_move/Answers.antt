-- `climbs::head_move` meets its contract.
use mathlib.Core.Path.{◌≡◌}
use native.Mathlib.Omega.{arith}
use Rattle.queries.specs.Queries.{rise, step_up}
use Rattle.queries.specs.Seen.{seen}
use Rattle.queries.proofs.Laws.Climbing.{beside, starts_long, rise_read, rise_room, head_stops, head_rises}
use Rattle.queries.proofs.climbs.head_move.Goals as goal
use Rattle.queries.proofs.climbs.head_move.Goals.{In-Some}

pub get-from-requires : goal.get-from-requires
get-from-requires c =
    let a = c.args.a.now in
    omega (arith, starts_long a.indexed.layout.sound a.are_starts, c.requires)

pub get-to-requires : goal.get-to-requires
get-to-requires c =
    let a = c.args.a.now in
    omega (arith, starts_long a.indexed.layout.sound a.are_starts, c.requires)

-- the step up that the code has
risen : (c : In-Some) → let w = seen c.args.a.now.indexed in
    rise c.in-Some.rise.at c.in-Some.rise.to ≡ step_up w.graph w.marks_p c.args.u
risen c = rise_read c.in_ok-rise.was c.step_up.ensures c.in-Some.is

pub overflow_add-from-3 : goal.overflow_add-from-3
overflow_add-from-3 c =
    let a = c.args.a.now in
    let o = beside a.indexed in
    let e = risen (goal.at.overflow_add-from-3 c).In-Some in
    let r = rise_room o a.are_starts c.requires c.get-from.ensures.0 c.get-to.ensures.0 e in
    omega (arith, r, o.framed.n_fits, o.framed.m_fits)

pub bridge_mark-requires : goal.bridge_mark-requires
bridge_mark-requires c =
    let a = c.args.a.now in
    rise_room (beside a.indexed) a.are_starts c.requires c.get-from.ensures.0 c.get-to.ensures.0
    (risen (goal.at.bridge_mark-requires c).In-Some)

pub returns-then-bridge_mark : goal.returns-then-bridge_mark
returns-then-bridge_mark c =
    let a = c.args.a.now in
    head_stops (beside a.indexed) a.are_starts c.requires c.get-from.ensures.0 c.get-to.ensures.0
    (risen (goal.at.returns-then-bridge_mark c).In-Some) c.bridge_mark.ensures c.if-bridge_mark.true

pub returns : goal.returns
returns c =
    let a = c.args.a.now in
    head_rises (beside a.indexed) a.are_starts c.requires c.get-from.ensures.0 c.get-to.ensures.0
    (risen (goal.at.returns c).In-Some) c.bridge_mark.ensures c.if-bridge_mark.false
