-- `pair::heads_of_two` meets its contract.
use Rattle.queries.proofs.Laws.Paired.{paired}
use mathlib.Core.Path.{sym, ◌∙◌}
use Rattle.queries.proofs.pair.heads_of_two.Goals as goal

pub returns : goal.returns
returns c =
    let args = c.args in
    let (answer, buffer) = c.build-built.ensures in
    let x = c.head-first.ensures in
    let y = c.head-second.ensures in
    let tell = paired args.bytes.now args.start.0 args.work.now args.index.now buffer x y in
    (answer, buffer, x, y, λ e t r. tell (sym answer ∙ e) t r)
