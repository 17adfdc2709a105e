-- `search::step` meets its contract.
use mathlib.Core.Path.{◌≡◌}
use Prim.Native.Nat.{suc, ◌-◌}
use native.Mathlib.Omega.{arith}
use Rattle.forest.proofs.Laws.Begins.{next_start}
use Rattle.forest.proofs.Laws.Stepping.{hand_vertex}
use Rattle.forest.proofs.search.step.Goals as goal

pub try_next-requires : goal.try_next-requires
try_next-requires c =
    let e : c.args.hand.cur ≡ suc (c.args.hand.cur - 1) = omega arith in
    let t = rw e at c.requires.1 in
    (hand_vertex c.args.g.now t.searching, t)

pub returns-then-hand-gt0 : goal.returns-then-hand-gt0
returns-then-hand-gt0 c = λ roots left t.
    let e : c.args.hand.cur ≡ suc (c.args.hand.cur - 1) = omega arith in
    c.try_next.ensures roots _ left (rw e at t)

pub returns-else-hand-gt0 : goal.returns-else-hand-gt0
returns-else-hand-gt0 c = λ roots left t.
    let e : c.args.hand.cur ≡ 0 = omega arith in
    c.try_start.ensures roots _ left (next_start c.args.g.now c.args.i (c.requires.0 e) (rw e at t))
