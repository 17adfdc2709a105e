-- `figures::figure_from` meets its contract: the search, and the roots among the parents.
use mathlib.Core.Path.{◌∙◌}
use Rattle.forest.proofs.Laws.Building.{graph_asked}
use Rattle.forest.proofs.Laws.Figuring.{figure_none, parents_asked, figure_shown}
use Rattle.forest.proofs.figures.figure_from.Goals as goal

pub returns-then-n-eq0 : goal.returns-then-n-eq0
returns-then-n-eq0 c =
    figure_none c.requires.accepted.0 c.requires.accepted.1 c.if-n-eq0.true

pub invariant_of-g : goal.invariant_of-g
invariant_of-g c =
    let (arrays, formed, sized, places) = graph_asked c.requires.accepted.0 c.requires.accepted.1 in
    record { arrays = arrays; formed = formed; sized = sized; places = places; apart = c.stride-s.ensures }

pub loops_by-requires : goal.loops_by-requires
loops_by-requires c =
    parents_asked c.requires.accepted.0 c.requires.accepted.1 c.search.ensures

pub returns : goal.returns
returns c =
    c.loops_by.ensures ∙ figure_shown c.requires.accepted.0 c.requires.accepted.1 c.search.ensures
