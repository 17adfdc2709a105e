-- `reverse::all_mutual` meets its contract: turned round, and found again.
use Rattle.adjacency.specs.Tally.{nay}
use Rattle.adjacency.specs.Laws.Tells.{told_yes, told_no, told_on}
use Rattle.adjacency.proofs.Laws.Turned.{turned_divided}
use Rattle.adjacency.proofs.Laws.Mutual.{mutual_kept}
use Rattle.adjacency.proofs.Laws.Reversed.{reversed}
use Rattle.adjacency.proofs.Laws.Orderly.{orderly}
use Rattle.adjacency.proofs.reverse.all_mutual.Goals as goal

pub returns-then-not-turn_all : goal.returns-then-not-turn_all
returns-then-not-turn_all c = nay (told_no c.turn_all.ensures c.if-not-turn_all.true)

pub invariant_of-parts : goal.invariant_of-parts
invariant_of-parts c =
    let turned = told_yes c.turn_all.ensures c.if-not-turn_all.false in
    record { divided = turned_divided turned.turned; reversed = ∣ reversed turned ∣₁ }

pub returns : goal.returns
returns c =
    let turned = told_yes c.turn_all.ensures c.if-not-turn_all.false in
    told_on c.match_all.ensures (mutual_kept turned) (orderly turned)
