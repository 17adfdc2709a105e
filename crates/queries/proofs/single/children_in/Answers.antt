-- `single::children_in` meets its contract.
use Prim.Native.Nat.{◌-◌}
use native.Mathlib.Omega.{arith}
use Rattle.queries.specs.Laws.Asked.{vertex_in}
use Rattle.queries.proofs.Laws.Climbing.{beside}
use Rattle.queries.proofs.Laws.Singles.{Room, block_room, children_counted}
use Rattle.queries.proofs.single.children_in.Goals as goal
use Rattle.queries.proofs.single.children_in.Goals.{After-fields_of-s}

room : (c : After-fields_of-s) → let l = c.args.i.now.layout in
    Room l.n l.m (c.args.v.0 - 1) c.fields_of-s.result.from c.fields_of-s.result.to
room c = block_room (beside c.args.i.now) c.requires c.fields_of-s.ensures

pub overflow_add-s : goal.overflow_add-s
overflow_add-s c = omega (arith, room (goal.at.overflow_add-s c).After-fields_of-s)

pub overflow_add-s-2 : goal.overflow_add-s-2
overflow_add-s-2 c = omega (arith, room (goal.at.overflow_add-s-2 c).After-fields_of-s)

pub overflow_sub-s : goal.overflow_sub-s
overflow_sub-s c = (room (goal.at.overflow_sub-s c).After-fields_of-s).0

pub count_children-requires : goal.count_children-requires
count_children-requires c = omega (arith, room (goal.at.count_children-requires c).After-fields_of-s)

pub returns : goal.returns
returns c =
    let i = c.args.i.now in
    let e = c.fields_of-s.ensures in
    children_counted i.index.now i.layout.sound (vertex_in c.requires) e.from e.to c.count_children.ensures
