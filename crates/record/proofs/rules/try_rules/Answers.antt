-- `rules::try_rules` meets its contract: a rule is broken where the quick test says no, and rule 8 where it is not
-- rule 6.
use Rattle.adjacency.specs.Laws.Tells.{told_yes, told_no}
use Rattle.record.proofs.Laws.Telling.InTurn.{turn_6, turn_8, kept_told}
use Rattle.record.proofs.rules.try_rules.Goals as goal

pub returns-then-all_mutual : goal.returns-then-all_mutual
returns-then-all_mutual c =
    kept_told (told_yes c.all_mutual.ensures c.if-all_mutual.true)

pub returns-then-some_stray : goal.returns-then-some_stray
returns-then-some_stray c =
    turn_6 _ c.some_stray.ensures c.if-some_stray.true

pub returns-else-some_stray : goal.returns-else-some_stray
returns-else-some_stray c =
    turn_8 _ c.some_stray.ensures c.if-some_stray.false
    (told_no c.all_mutual.ensures c.if-all_mutual.false)
