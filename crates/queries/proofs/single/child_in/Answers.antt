-- `single::child_in` meets its contract.
use Prim.Native.Nat.{◌-◌}
use native.Mathlib.Omega.{arith}
use Rattle.queries.specs.Seen.{seen}
use Rattle.queries.proofs.Laws.Ones.{positive}
use Rattle.queries.proofs.Laws.Climbing.{beside}
use Rattle.queries.proofs.Laws.Singles.{Room, block_room, no_first}
use Rattle.queries.proofs.Laws.Singles.{Chosen, few_told, child_room, there_told, stray_told}
use Rattle.queries.proofs.single.child_in.Goals as goal
use Rattle.queries.proofs.single.child_in.Goals.{After-fields_of-s, After-nth_child-p}

pub returns-then-j-eq0 : goal.returns-then-j-eq0
returns-then-j-eq0 c = no_first (seen c.args.i.now) (c.args.v.0 - 1) c.args.j c.if-j-eq0.true

room : (c : After-fields_of-s) → let l = c.args.i.now.layout in
    Room l.n l.m (c.args.v.0 - 1) c.fields_of-s.result.from c.fields_of-s.result.to
room c = block_room (beside c.args.i.now) c.requires c.fields_of-s.ensures

pub overflow_add-s : goal.overflow_add-s
overflow_add-s c = omega (arith, room (goal.at.overflow_add-s c).After-fields_of-s)

pub overflow_add-s-2 : goal.overflow_add-s-2
overflow_add-s-2 c = omega (arith, room (goal.at.overflow_add-s-2 c).After-fields_of-s)

pub overflow_sub-s : goal.overflow_sub-s
overflow_sub-s c = (room (goal.at.overflow_sub-s c).After-fields_of-s).0

pub nth_child-p-requires : goal.nth_child-p-requires
nth_child-p-requires c =
    (omega (arith, room (goal.at.nth_child-p-requires c).After-fields_of-s), positive c.if-j-eq0.false)

chosen : (c : After-nth_child-p) → let i = c.args.i.now in
    Chosen i.layout.bytes.now i.index.now i.layout.n i.layout.m c.args.v.0 c.fields_of-s.result.from
    c.fields_of-s.result.to c.args.j c.nth_child-p.result
chosen c = record {
  beside = beside c.args.i.now;
  ranged = c.requires;
  fields = c.fields_of-s.ensures;
  asked = c.if-j-eq0.false;
  chosen = c.nth_child-p.ensures;
}

pub returns-then-p-eq0 : goal.returns-then-p-eq0
returns-then-p-eq0 c = few_told (chosen (goal.at.returns-then-p-eq0 c).After-nth_child-p) c.if-p-eq0.true

pub overflow_add-s-3 : goal.overflow_add-s-3
overflow_add-s-3 c =
    omega (arith, child_room (chosen (goal.at.overflow_add-s-3 c).After-nth_child-p) c.if-p-eq0.false)

pub field-t-requires : goal.field-t-requires
field-t-requires c = (child_room (chosen (goal.at.field-t-requires c).After-nth_child-p) c.if-p-eq0.false).0

pub returns-then-i-t : goal.returns-then-i-t
returns-then-i-t c =
    stray_told (chosen (goal.at.returns-then-i-t c).After-nth_child-p) c.if-p-eq0.false c.field-t.ensures.0
    c.if-i-t.true

pub returns : goal.returns
returns c =
    there_told (chosen (goal.at.returns c).After-nth_child-p) c.if-p-eq0.false c.field-t.ensures.0 c.if-i-t.false
