-- `lists::try_lists` meets its contract: the arrays hold the blocks that the lists give.
use mathlib.Core.Path.{ap, ap₂, ◌∙◌}
use mathlib.Core.List.{map}
use lib.ListN.{length-map}
use Rattle.adjacency.specs.Arrays.{cut}
use Rattle.record.specs.Operations.{check_graph}
use Rattle.record.specs.Steps.{vertex_of}
use Rattle.record.specs.Laws.Sums.{cut_sums, divided_sums}
use Rattle.record.proofs.lists.try_lists.Goals as goal

pub invariant_of-try_rules : goal.invariant_of-try_rules
invariant_of-try_rules c =
    let lists = c.args.lists.now in
    let vertices = map vertex_of lists.neighbours.now in
    rw (c.fill_starts.ensures, c.fill_neighbours.ensures)
    (record { divided = divided_sums lists.listed vertices (length-map lists.neighbours.now vertex_of) })

pub returns : goal.returns
returns c =
    let lists = c.args.lists.now in
    let arrays = ap₂ cut c.fill_starts.ensures c.fill_neighbours.ensures in
    c.try_rules.ensures
    ∙ ap check_graph (arrays ∙ cut_sums 0 lists.degrees.now (map vertex_of lists.neighbours.now))
