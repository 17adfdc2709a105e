-- `lengths::record_length` meets its contract.
use native.Mathlib.Omega.{arith}
use Rattle.record.specs.Record.{used_bits, record_length}
use Rattle.record.proofs.lengths.record_length.Goals as goal

pub returns : goal.returns
unfolding used_bits record_length
returns c = omega (arith, c.div_ceil.ensures)
