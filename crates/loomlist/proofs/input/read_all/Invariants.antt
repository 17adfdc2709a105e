-- `input::read_all` meets its contract.
use Rattle.std.proofs.Common.{◌-◌, ◌≤◌, length}
use Rattle.loomlist.proofs.input.read_all.Given as goal

abbrev pub invariant-loop-len : goal.invariant-loop-len
invariant-loop-len g l = l.len ≤ length l.room

abbrev pub decreases-loop-len : goal.decreases-loop-len
decreases-loop-len g l = length l.room - l.len
