-- `header::spare_set` meets its contract: fewer than eight bits are left, and their ones are counted.
use mathlib.Core.Path.{refl}
use Prim.Native.Nat.{◌+◌, ◌-◌, ◌*◌}
use lib.ListN.{length}
use Rattle.record.specs.Laws.Sounded.{spare_counted}
use Rattle.record.proofs.header.spare_set.Goals as goal

pub returns : goal.returns
returns c =
    spare_counted c.args.l.now.sound
    (8 * length
    c.args.l.now.bytes.now - (28 + (c.args.l.now.n + 2 * c.args.l.now.m) + 12 * (2 * c.args.l.now.m))) refl
    c.rank.ensures
