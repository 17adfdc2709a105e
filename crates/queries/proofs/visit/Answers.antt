-- `visit` meets its contract: order Q first, and then the view.
use mathlib.Core.Path.{◌∙◌}
use Prim.Native.Nat.{◌-◌}
use Rattle.record.specs.Laws.Told.{exit_told}
use Rattle.queries.specs.Operations.{visit}
use Rattle.queries.specs.Queries.{visit_of}
use Rattle.queries.specs.View.{View}
use Rattle.queries.proofs.Laws.Asking.{query_refused, query_ranged, query_answered}
use Rattle.queries.proofs.visit.Goals as goal

pub returns-in_err-i : goal.returns-in_err-i
unfolding visit
returns-in_err-i c =
    let args = c.args in
    exit_told _ _ _ c.from_residual.ensures.1
    ∙ query_refused args.bytes.now args.index.now args.v.0 _ c.in_err-i.ensures

pub visit_in-requires : goal.visit_in-requires
visit_in-requires c = query_ranged c.args.bytes.now c.args.index.now c.args.v.0 c.in_ok-i.i c.in_ok-i.ensures

pub returns : goal.returns
unfolding visit
returns c =
    let args = c.args in
    query_answered args.bytes.now args.index.now args.v.0 c.in_ok-i.i c.in_ok-i.ensures
    (λ (w : View). visit_of w (args.v.0 - 1)) c.visit_in.ensures
