-- `search::try_start` meets its contract.
use borrow.Author.Rules.{rules}
use Rattle.forest.proofs.Laws.Graphs.{many}
use Rattle.forest.proofs.Laws.Stepping.{new_room, start_passed, start_entered}
use Rattle.forest.proofs.search.try_start.Goals as goal

-- vertex v is not visited, so there is room for it
pub enter-requires-clause-fits : goal.enter-requires-clause-fits
enter-requires-clause-fits c =
    let r = new_room c.requires.1.searching (many c.args.g.now) c.requires.0 (cc) in
    search rules

pub returns-then-get-eq0 : goal.returns-then-get-eq0
returns-then-get-eq0 c = λ roots todo left t. start_entered c.args.g.now t c.requires.0 (cc) c.enter.ensures

pub returns : goal.returns
returns c = λ roots todo left t. start_passed c.args.g.now t c.requires.0 (λ z. c.if-get-eq0.false (cc))
