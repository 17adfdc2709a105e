-- `roots::count_roots` meets its contract: the roots so far are counted.
use mathlib.Core.Path.{sym, ap, ◌∙◌}
use native.Mathlib.Omega.{arith}
use lib.Dec.{eqb}
use lib.Seq.{take_all}
use Rattle.std.specs.Prelude.{count_by}
use Rattle.std.proofs.lemmas.List.Sums.{count_by-le-length}
use Rattle.forest.proofs.Laws.Rooting.{roots_counted}
use Rattle.forest.proofs.roots.count_roots.Goals as goal

pub returns : goal.returns
returns c =
    let parents = c.args.parents.now in
    let all = take_all c.loop-parent.parent-index parents (omega arith) in
    let e = c.loop-parent.invariant ∙ ap (count_by (λ p. eqb p 0)) all in
    (e ∙ sym (roots_counted parents), omega (arith, e, count_by-le-length (λ p. eqb p 0) parents))
