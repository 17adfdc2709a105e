-- `columns::place_of` meets its contract.
use mathlib.Core.Path.{◌≡◌, sym, ap, ◌∙◌}
use Prim.Native.Nat.{◌+◌, ◌*◌, ◌<◌}
use native.Mathlib.Omega.{arith}
use Rattle.std.specs.Prelude.{Ok}
use Rattle.queries.specs.Seen.{seen}
use Rattle.queries.specs.Steps.{step_of}
use Rattle.queries.specs.Queries.{step_up, rise}
use Rattle.queries.proofs.Laws.Climbing.{starts_long, rise_room, head_stops, head_rises}
use Rattle.queries.proofs.Laws.Climbing.{beside, rise_told, top_told}
use Rattle.queries.proofs.Laws.Tabling.{built_ready, never_refused, root_parent, root_head, risen_to}
use Rattle.queries.proofs.Laws.Tabling.{risen_parent, bridge_head, risen_head}
use Rattle.queries.proofs.columns.place_of.Goals as goal
use Rattle.queries.proofs.columns.place_of.Goals.{In-Some}

pub get-from-requires : goal.get-from-requires
get-from-requires c = omega (arith, starts_long c.args.b.now.indexed.layout.sound c.requires.0, c.requires.1)

pub get-to-requires : goal.get-to-requires
get-to-requires c = omega (arith, starts_long c.args.b.now.indexed.layout.sound c.requires.0, c.requires.1)

pub unwrap-requires : goal.unwrap-requires
unwrap-requires c = never_refused (built_ready c.args.b.now) c.requires.1 c.step_up.result c.step_up.ensures

pub returns-in_default : goal.returns-in_default
returns-in_default c =
    let r = built_ready c.args.b.now in
    let h = c.requires.1 in
    let e = top_told _ (sym (ap step_of (c.unwrap.ensures ∙ ap Ok c.in_default.is)) ∙ c.step_up.ensures) in
    let f = c.args.b.now.indexed.framed.n_fits in
    (root_parent r h e, root_head r h e, omega arith, omega arith)

-- ---- a step to the parent

risen : (c : In-Some) → let w = seen c.args.b.now.indexed in
    rise c.in-Some.rise.at c.in-Some.rise.to ≡ step_up w.graph w.marks_p c.args.v
risen c = rise_told _ (sym (ap step_of (c.unwrap.ensures ∙ ap Ok c.in-Some.is)) ∙ c.step_up.ensures)

to_inside : (c : In-Some) → c.in-Some.rise.to < c.args.b.now.indexed.layout.n
to_inside c =
    risen_to (built_ready c.args.b.now) c.requires.1 c.requires.0 c.get-from.ensures.0 c.get-to.ensures.0 (risen c)

room : (c : In-Some) → let l = c.args.b.now.indexed.layout in
    c.get-from.result + c.args.v + 1 + c.in-Some.rise.at < l.n + 2 * l.m
room c =
    rise_room (beside c.args.b.now.indexed) c.requires.0 c.requires.1 c.get-from.ensures.0 c.get-to.ensures.0
    (risen c)

pub overflow_add-parent : goal.overflow_add-parent
overflow_add-parent c =
    omega (arith, to_inside (goal.at.overflow_add-parent c).In-Some, c.args.b.now.indexed.framed.n_fits)

pub overflow_add-from-3 : goal.overflow_add-from-3
overflow_add-from-3 c =
    let f = c.args.b.now.indexed.framed in
    omega (arith, room (goal.at.overflow_add-from-3 c).In-Some, f.n_fits, f.m_fits)

pub bridge_mark-requires : goal.bridge_mark-requires
bridge_mark-requires c = room (goal.at.bridge_mark-requires c).In-Some

pub returns-then-bridge_mark : goal.returns-then-bridge_mark
returns-then-bridge_mark c =
    let r = built_ready c.args.b.now in
    let h = c.requires.1 in
    let e = risen (goal.at.returns-then-bridge_mark c).In-Some in
    let l = to_inside (goal.at.returns-then-bridge_mark c).In-Some in
    let f = c.args.b.now.indexed.framed.n_fits in (
      risen_parent r h e,
      bridge_head r h
          (head_stops (beside c.args.b.now.indexed) c.requires.0 h c.get-from.ensures.0 c.get-to.ensures.0 e
          c.bridge_mark.ensures c.if-bridge_mark.true),
      omega arith,
      omega arith,
    )

pub get-requires : goal.get-requires
get-requires c = omega (arith, to_inside (goal.at.get-requires c).In-Some, c.requires.2.size)

pub returns : goal.returns
returns c =
    let r = built_ready c.args.b.now in
    let h = c.requires.1 in
    let e = risen (goal.at.returns c).In-Some in
    let l = to_inside (goal.at.returns c).In-Some in
    let up =
    head_rises (beside c.args.b.now.indexed) c.requires.0 h c.get-from.ensures.0 c.get-to.ensures.0 e
    c.bridge_mark.ensures c.if-bridge_mark.false in
    let f = c.args.b.now.indexed.framed.n_fits in
    (risen_parent r h e, risen_head r h l e up c.requires.2 c.get.ensures.0, omega arith, c.get.ensures.1)
