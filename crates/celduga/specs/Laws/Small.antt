-- The values that operations on a record alone answer fit the low half of a result, for every record. Those of the
-- queries do too: `Laws/Small` of `queries`.
use Rattle.std.specs.Prelude.{refl, List, [], ℕ, ◌-◌, length}
use Rattle.std.proofs.Common.{arith}
use Rattle.graph.specs.Graph.{block}
use Rattle.record.specs.Record.{terminals, blocks}
use Rattle.record.specs.Rules.{check_rules}
use Rattle.record.specs.Operations.{out_of_range, degree_rules, degree, Accepted}
use Rattle.record.specs.Laws.First.{both_kept, order_numbered, rule_kept}
use Rattle.record.specs.Laws.Range.{range_inside}
use Rattle.record.specs.Laws.Sounded.{sound_of, accepted_sound}
use Rattle.record.specs.Laws.Spans.{block_small}
use Rattle.record.specs.Laws.Valued.{Small, tried_valued}
use Rattle.forest.specs.Operations.{loops, loop_figure}
use Rattle.forest.proofs.Laws.Loops.{loops_few}

pub degree_small : (bytes : List ℕ) (v : ℕ) → Small (degree bytes v)
unfolding degree degree_rules
degree_small bytes v = tried_valued (degree_rules bytes v) (length (block (blocks bytes) (v - 1))) (λ k. (
    let (r, more) = both_kept (order_numbered bytes) _ k in
    let (y, _) = rule_kept 10 (out_of_range (terminals bytes) v) [] more in
    let (a, b) = range_inside (terminals bytes) v y in
    let c = block_small (sound_of bytes r refl refl) {u = v - 1} (omega arith) in
    omega arith
    ))

-- it is at most 16,383
pub figure_small : (bytes : List ℕ) → Small (loop_figure bytes)
unfolding loop_figure
figure_small bytes = tried_valued (check_rules bytes) (loops bytes) (λ k. (
    let a : Accepted bytes = record { unbroken = k } in
    omega (arith, loops_few a, (accepted_sound a).m_fits)
    ))
