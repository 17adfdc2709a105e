-- `lookups::lookup_in` meets its contract: rule 15, and then the list.
use mathlib.Core.Path.{sym, ◌∙◌}
use Rattle.queries.specs.Lookup.{lists}
use Rattle.queries.proofs.Laws.Looking.{lookup_bad}
use Rattle.queries.proofs.Laws.Climbing.{beside}
use Rattle.queries.proofs.lookups.lookup_in.Goals as goal

pub returns-then-bad_list : goal.returns-then-bad_list
returns-then-bad_list c =
    let a = c.args in
    let i = a.i.now in
    lookup_bad i.layout.bytes.now i.index.now a.list.now (lists a.heads.now a.visits.now) (beside i)
    (sym c.bad_list.ensures ∙ c.if-bad_list.true)
