-- `strays::some_stray` meets its contract: no block passed holds a stray neighbour.
use mathlib.Core.Path.{sym, ◌∙◌}
use native.Mathlib.Omega.{arith}
use Rattle.adjacency.specs.Laws.Rows.{length_cut}
use Rattle.adjacency.proofs.Laws.Strays.{block_passes, block_fails, no_block_left}
use Rattle.adjacency.proofs.strays.some_stray.Goals as goal

pub returns-then-stray_in : goal.returns-then-stray_in
returns-then-stray_in c =
    let l = c.args.lists.now in
    let n = length_cut l.starts.now l.nbrs.now in
    block_passes _ _ (omega arith) c.if-stray_in.ensures ∙ sym c.loop-u.invariant

pub loop-u-preserved : goal.loop-u-preserved
loop-u-preserved c =
    let l = c.args.lists.now in
    let n = length_cut l.starts.now l.nbrs.now in
    c.loop-u.invariant ∙ block_fails _ _ (omega arith) c.if-stray_in.ensures

pub returns : goal.returns
returns c =
    let l = c.args.lists.now in
    let n = length_cut l.starts.now l.nbrs.now in
    no_block_left _ _ (omega arith) ∙ sym c.loop-u.invariant
