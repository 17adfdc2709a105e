-- The first broken one of rules 6 and 8 of a graph: none after a yes of the quick test, and else 6 or, where that is
-- kept, 8.
use mathlib.Core.Path.{◌≡◌, refl, sym, ◌∙◌}
use mathlib.Core.Bool.{Bool, true, false}
use mathlib.Core.List.{List, [], ◌∷◌}
use Rattle.graph.specs.Graph.{Blocks}
use Rattle.graph.specs.Laws.Places.Basics.{Told, pass, fail, told as tell}
use Rattle.adjacency.specs.Reverse.{Kept}
use Rattle.record.specs.Rules.{Rule, first_broken, place_rules}
use Rattle.adjacency.specs.Places.{any_place, stray, one_sided}
use Rattle.record.specs.Answers.{refused, answered}
use Rattle.record.specs.Operations.{check_graph}
use Rattle.record.specs.Laws.First.{first_broken_lem, first_kept}
use Rattle.record.specs.Laws.Told.{told, untold}

-- what is left after rule 6
abbrev from_8 : Blocks → List Rule
from_8 g = (8, any_place (one_sided g) g) ∷ []

module _ (g : Blocks) {a : Bool} (tested : a ≡ any_place (stray g) g) where
  pub turn_6 : a ≡ true → refused 6 ≡ check_graph g
  unfolding check_graph place_rules
  turn_6 e = told tt (first_broken_lem 6 (from_8 g) (sym tested ∙ e))

  module _ (no_stray : a ≡ false) where
    past_6 : first_broken (place_rules g) ≡ first_broken (from_8 g)
    unfolding place_rules
    past_6 = first_kept 6 (from_8 g) (sym tested ∙ no_stray)

    -- a rule is broken, and it is not the first
    pub turn_8 : (Kept g → ⊥) → refused 8 ≡ check_graph g
    unfolding check_graph
    turn_8 broken = go (tell (any_place (one_sided g) g))
      where
        go : Told (any_place (one_sided g) g) → refused 8 ≡ check_graph g
        go (pass e) = told tt (past_6 ∙ first_broken_lem 8 [] e)
        go (fail e) = absurd (broken (record { no_stray = sym tested ∙ no_stray; no_one_sided = e }))

-- none is broken
pub kept_told : {g : Blocks} → Kept g → answered tt ≡ check_graph g
unfolding check_graph first_broken
kept_told {g} k = untold tt (past_6 g (sym k.no_stray) refl ∙ first_kept 8 [] k.no_one_sided)
