-- `visited` meets its contract: order Q first, and then the view.
use mathlib.Core.Path.{◌∙◌}
use Prim.Native.Nat.{◌-◌}
use Rattle.record.specs.Laws.Told.{exit_told}
use Rattle.queries.specs.Operations.{visited}
use Rattle.queries.specs.Queries.{visited_of}
use Rattle.queries.specs.View.{View}
use Rattle.queries.proofs.Laws.Asking.{query_refused, query_ranged, query_answered}
use Rattle.queries.proofs.visited.Goals as goal

pub returns-in_err-asked : goal.returns-in_err-asked
unfolding visited
returns-in_err-asked c =
    let args = c.args in
    exit_told _ _ _ c.from_residual.ensures.1
    ∙ query_refused args.bytes.now args.index.now args.i.0 _ c.in_err-asked.ensures

pub visited_in-requires : goal.visited_in-requires
visited_in-requires c =
    query_ranged c.args.bytes.now c.args.index.now c.args.i.0 c.in_ok-asked.asked c.in_ok-asked.ensures

pub returns : goal.returns
unfolding visited
returns c =
    let args = c.args in
    query_answered args.bytes.now args.index.now args.i.0 c.in_ok-asked.asked c.in_ok-asked.ensures
    (λ (w : View). visited_of w (args.i.0 - 1)) c.visited_in.ensures
