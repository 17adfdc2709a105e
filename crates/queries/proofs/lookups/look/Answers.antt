-- `lookups::look` meets its contract: 11, and then what Head and Visit answer on the view.
use mathlib.Core.Path.{sym, ◌∙◌}
use native.Mathlib.Omega.{arith}
use Rattle.std.proofs.lemmas.Result.{err_from_is_err_and}
use Rattle.queries.specs.Steps.{Ranged}
use Rattle.queries.specs.Laws.Asked.{vertex_in}
use Rattle.queries.proofs.Laws.Asking.{ranged_by}
use Rattle.queries.proofs.Laws.Looking.{outside_told, head_refused, visit_refused, both_told}
use Rattle.queries.proofs.Laws.Climbing.{beside}
use Rattle.queries.proofs.lookups.look.Goals as goal
use Rattle.queries.proofs.lookups.look.Goals.{Else-out_of_range}

ranged : (c : Else-out_of_range) → Ranged c.args.a.now.indexed.layout.n c.args.v.0
ranged c = ranged_by c.out_of_range.ensures c.if-out_of_range.false

pub returns-then-out_of_range : goal.returns-then-out_of_range
returns-then-out_of_range c = (
  outside_told (beside c.args.a.now.indexed) c.args.v.0 (sym c.out_of_range.ensures ∙ c.if-out_of_range.true),
  c.requires.0,
)

pub overflow_sub-v : goal.overflow_sub-v
overflow_sub-v c = omega (arith, (ranged (goal.at.overflow_sub-v c).Else-out_of_range).some)

pub find_head-requires : goal.find_head-requires
find_head-requires c =
    (c.requires.0, c.requires.1, vertex_in (ranged (goal.at.find_head-requires c).Else-out_of_range))

pub returns-in_err-head : goal.returns-in_err-head
returns-in_err-head c =
    let r = ranged (goal.at.returns-in_err-head c).Else-out_of_range in
    let p = err_from_is_err_and c.from_residual.result c.from_residual.ensures.1 in
    rw (p.1, p.2) (
      head_refused (beside c.args.a.now.indexed) c.args.v.0 r c.in_err-head.ensures.0,
      c.find_head.ensures.1,
    )

pub visit_in-requires : goal.visit_in-requires
visit_in-requires c = ranged (goal.at.visit_in-requires c).Else-out_of_range

pub returns-in_err-visit : goal.returns-in_err-visit
returns-in_err-visit c =
    let r = ranged (goal.at.returns-in_err-visit c).Else-out_of_range in
    let p = err_from_is_err_and c.from_residual-in_err-visit.result c.from_residual-in_err-visit.ensures.1 in
    rw (p.1, p.2) (
      visit_refused (beside c.args.a.now.indexed) c.args.v.0 r c.in_ok-head.ensures.0 c.in_err-visit.ensures,
      c.find_head.ensures.1,
    )

pub returns : goal.returns
returns c =
    let r = ranged (goal.at.returns c).Else-out_of_range in (
      both_told (beside c.args.a.now.indexed) c.args.v.0 r c.in_ok-head.ensures.0 c.in_ok-visit.ensures,
      c.find_head.ensures.1,
    )
