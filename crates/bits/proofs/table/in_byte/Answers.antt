-- `table::in_byte` meets its contract: the table's rule at one entry.
use mathlib.Core.Path.{◌∙◌}
use native.Mathlib.Omega.{arith}
use Rattle.bits.proofs.Entries.{entries, entry_rule}
use Rattle.bits.proofs.table.in_byte.Goals as goal

pub returns : goal.returns
unfolding entries
returns c =
    let a = c.args in
    let pre = c.requires in
    c.from-2.ensures ∙ rw c.from.ensures (entry_rule a.b a.k (omega arith) pre.0 pre.1)
