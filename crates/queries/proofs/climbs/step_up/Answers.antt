-- `climbs::step_up` meets its contract: the only mark of the block leads to the parent.
use mathlib.Core.Bool.{Bool}
use mathlib.Core.List.{List}
use mathlib.Core.Path.{ap}
use native.Mathlib.Omega.{arith}
use Prim.Native.Nat.{◌+◌, ◌-◌, ◌*◌, ◌≤◌}
use Rattle.queries.specs.Laws.Framed.{length_p}
use Rattle.queries.specs.Steps.{risen}
use Rattle.queries.specs.View.{section_of}
use Rattle.queries.specs.declared.indexed.Indexed.{Indexed}
use Rattle.queries.proofs.Laws.Stepping.{block_fits, step_root, step_doubled, lone_field, step_risen, step_stray}
use Rattle.queries.proofs.climbs.step_up.Goals as goal
use Rattle.queries.proofs.climbs.step_up.Goals.{Start}

fits : (s : Start) → let a = s.args in
    (a.a ≤ a.b) × (a.a + a.u + 1 + (a.b - a.a) ≤ a.i.now.layout.n + 2 * a.i.now.layout.m)
    × (a.i.now.layout.n ≤ 4096) × (a.i.now.layout.m ≤ 16384)
fits s = block_fits s.args.i.now.layout.sound s.requires.0 s.requires.1 s.requires.2

-- P's section
abbrev section : Indexed → List Bool
section i = section_of i.layout.n i.layout.m i.index.now 1

pub overflow_add-a : goal.overflow_add-a
overflow_add-a c = omega (arith, fits (goal.at.overflow_add-a c).Start)

pub overflow_add-a-2 : goal.overflow_add-a-2
overflow_add-a-2 c = omega (arith, fits (goal.at.overflow_add-a-2 c).Start)

pub overflow_sub-b : goal.overflow_sub-b
overflow_sub-b c = (fits (goal.at.overflow_sub-b c).Start).0

pub lone_parent-requires : goal.lone_parent-requires
lone_parent-requires c = (fits (goal.at.lone_parent-requires c).Start).1

pub returns-in-None : goal.returns-in-None
returns-in-None c =
    let i = c.args.i.now in
    let (h, ea, eb) = c.requires in
    ap risen (step_root i.layout.sound h ea eb (section i) _ c.lone_parent.ensures c.in-None.is)

pub returns-in-More : goal.returns-in-More
returns-in-More c =
    let i = c.args.i.now in
    let (h, ea, eb) = c.requires in
    ap risen (step_doubled i.layout.sound h ea eb (section i) _ c.lone_parent.ensures c.in-More.is)

pub overflow_add-a-in-At : goal.overflow_add-a-in-At
overflow_add-a-in-At c =
    let i = c.args.i.now in
    let (h, ea, eb) = c.requires in
    let (l, m) =
    lone_field i.layout.sound h ea eb (section i) _ c.lone_parent.ensures c.in-At.is (length_p i.framed) in
    omega arith

pub field-to-requires : goal.field-to-requires
field-to-requires c =
    let i = c.args.i.now in
    let (h, ea, eb) = c.requires in
    (lone_field i.layout.sound h ea eb (section i) _ c.lone_parent.ensures c.in-At.is (length_p i.framed)).0

pub returns-then-i-to : goal.returns-then-i-to
returns-then-i-to c =
    let i = c.args.i.now in
    let (h, ea, eb) = c.requires in
    ap risen (step_stray i.layout.sound h ea eb (section i) _ c.lone_parent.ensures c.in-At.is (length_p i.framed)
    c.field-to.ensures.0 c.if-i-to.true)

pub returns-else-i-to : goal.returns-else-i-to
returns-else-i-to c =
    let i = c.args.i.now in
    let (h, ea, eb) = c.requires in
    ap risen (step_risen i.layout.sound h ea eb (section i) _ c.lone_parent.ensures c.in-At.is (length_p i.framed)
    c.field-to.ensures.0 c.if-i-to.false)
