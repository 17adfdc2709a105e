-- `list` meets its contract: where Table refuses nothing, its parents are those of the record.
use mathlib.Core.Path.{ap, ◌∙◌}
use Prim.Native.Nat.{ℕ}
use Rattle.record.specs.Answers.{verdict}
use Rattle.queries.specs.Table.{Columns, table_of}
use Rattle.queries.specs.Laws.Figured.{table_left}
use Rattle.loomlist.proofs.list.Goals as goal

pub figure-loops-requires : goal.figure-loops-requires
figure-loops-requires c =
    let bytes = c.in_ok-layout.layout.bytes.now in
    let (accepted, left) = table_left c.table.ensures (ap verdict c.in_ok-table.was) in
    record {
      accepted = accepted;
      written = ap (λ (t : Columns). t.parents) left
          ∙ ap (λ (x : ℕ). (table_of bytes x).parents) c.first_start.ensures;
    }
