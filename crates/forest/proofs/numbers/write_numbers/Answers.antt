-- `numbers::write_numbers` meets its contract: the numbers of the first i pairs are written.
use Prim.Native.Nat.{◌-◌, ◌*◌}
use mathlib.Core.Path.{◌≡◌}
use native.Mathlib.Omega.{arith}
use lib.ListN.{length}
use borrow.Author.Rules.{rules}
use Rattle.forest.proofs.Laws.Numbers.{pairs_begin, pairs_room, pairs_rest, pairs_more, pairs_last, pairs_end}
use Rattle.forest.proofs.numbers.write_numbers.Goals as goal

pub loop-i-init : goal.loop-i-init
loop-i-init c =
    let zeros = c.fill.ensures.after (λ y same. same) in
    pairs_begin c.args.visits.now c.requires.1 zeros (λ j. (c.type_inv.section j).fits)

pub write_pair-requires : goal.write_pair-requires
write_pair-requires c = let r = pairs_room c.loop-i.invariant (omega arith) in search rules

pub loop-i-preserved : goal.loop-i-preserved
loop-i-preserved c =
    pairs_more c.loop-i.invariant (λ j. (c.type_inv.section j).fits) c.write_pair.ensures.section_len_unchanged
    (omega arith) c.visit.ensures.0 c.visit-in-loop-i.ensures.0 c.write_pair.ensures.section_after

pub write_last-requires : goal.write_last-requires
write_last-requires c =
    let few = c.requires.0.few in
    let r = pairs_rest c.loop-i.invariant (omega arith) in
    let v : length c.args.visits.now - 1 ≡ 2 * c.loop-i.i = omega arith in
    (omega arith, omega arith, c.visit-then-n-eq1.ensures.1, c.visit-then-n-eq1.ensures.2)

pub returns-then-n-eq1 : goal.returns-then-n-eq1
returns-then-n-eq1 c =
    pairs_last c.loop-i.invariant (λ j. (c.type_inv.section j).fits) c.write_last.ensures.section_len_unchanged
    (omega arith) (omega arith) c.visit-then-n-eq1.ensures.0 c.write_last.ensures.section_after

pub returns-else-n-eq1 : goal.returns-else-n-eq1
returns-else-n-eq1 c = pairs_end c.loop-i.invariant (omega arith)
