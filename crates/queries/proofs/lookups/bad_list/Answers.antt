-- `lookups::bad_list` meets its contract.
use mathlib.Core.Logic.{inl, inr}
use Rattle.queries.proofs.Laws.Looking.{list_long, heads_misfit, visits_tested}
use Rattle.queries.proofs.lookups.bad_list.Goals as goal

pub returns-then-heads-list : goal.returns-then-heads-list
returns-then-heads-list c =
    let a = c.args in
    elim c.if-heads-list.either [
      | inl l ↦ let e = list_long a.list.now a.heads.now a.visits.now l in cc
      | inr (s, d) ↦ let e = heads_misfit a.list.now a.heads.now a.visits.now s d in cc
    ]

pub returns-else-heads-list : goal.returns-else-heads-list
returns-else-heads-list c =
    let a = c.args in
    visits_tested a.list.now a.heads.now a.visits.now c.if-heads-list.false.0 c.if-heads-list.false.1
