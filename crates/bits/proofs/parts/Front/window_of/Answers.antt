-- `parts::Front::window_of` meets its contract: the one stands in the first part, or in the word that was reached.
use mathlib.Core.Path.{refl}
use Prim.Native.Nat.{◌*◌, ◌<◌}
use native.Mathlib.Omega.{arith}
use lib.Count.{ones}
use lib.ListN.{length}
use Rattle.bits.specs.Bits.{bits}
use Rattle.bits.proofs.Windows.{Opened, window_some, window_here, window_before, window_there}
use Rattle.bits.proofs.parts.Front.window_of.Goals as goal
use Rattle.bits.proofs.parts.Front.window_of.Goals.{After-part_from-first, After-skip_from-reached}

-- the first part, read
opened : (c : After-part_from-first)
    → Opened (bits c.args.self.now.bytes.now) c.args.start c.args.self.now.end c.args.k
    (length c.args.self.now.bytes.now) c.part_from-first.result.width c.part_from-first.result.bits
    (ones c.part_from-first.result.bits)
opened c =
    let pre = c.requires in
    record {
      some = pre.0;
      all = pre.1;
      between = pre.2;
      held = c.args.self.now.held;
      part = c.part_from-first.ensures;
      count = refl;
    }

-- the word that was reached begins before the end
before : (c : After-skip_from-reached) → 8 * c.skip_from-reached.result.at < c.args.self.now.end
before c =
    let pre = c.requires in
    let part = c.part_from-first in
    let o : Opened (bits c.args.self.now.bytes.now) c.args.start c.args.self.now.end c.args.k
    (length c.args.self.now.bytes.now) part.result.width part.result.bits (ones part.result.bits) =
    record {
      some = pre.0;
      all = pre.1;
      between = pre.2;
      held = c.args.self.now.held;
      part = part.ensures;
      count = refl;
    } in
    window_before o c.if-k-c.false c.skip_from-reached.ensures

pub part_from-first-requires : goal.part_from-first-requires
part_from-first-requires c =
    let a = c.args in
    let pre = c.requires in
    let l = window_some (bits a.self.now.bytes.now) a.start a.self.now.end pre.2 pre.0 pre.1 in
    omega arith

pub returns-then-k-c : goal.returns-then-k-c
returns-then-k-c c = window_here (opened (goal.at.returns-then-k-c c).After-part_from-first) c.if-k-c.true

pub part_from-part-requires : goal.part_from-part-requires
part_from-part-requires c = let l = before (goal.at.part_from-part-requires c).After-skip_from-reached in omega arith

pub overflow_mul-from : goal.overflow_mul-from
overflow_mul-from c = let l = before (goal.at.overflow_mul-from c).After-skip_from-reached in omega arith

pub returns : goal.returns
returns c =
    let o = opened (goal.at.returns c).After-part_from-first in
    window_there o c.if-k-c.false c.skip_from-reached.ensures c.part_from-part.ensures
