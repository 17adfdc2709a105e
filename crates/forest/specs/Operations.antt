-- What Build answers, the index buffer that it leaves, and the loop figure (document 01, "Operations and their
-- answers"; the start, and the figure where there are several looms, are document 02's).
use Rattle.std.specs.Prelude.{◌≡◌, Bool, not, List, [], ◌∷◌, ◌++◌, ℕ, zero, suc, ◌+◌, ◌-◌, ◌*◌, eqb, ltb}
use Rattle.std.specs.Prelude.{length, get_or}
use Rattle.graph.specs.Search.{forest}
use Rattle.graph.specs.Forest.{roots}
use Rattle.graph.specs.Counts.{when, sum}
use Rattle.record.specs.Record.{terminals, wires, blocks}
use Rattle.record.specs.Rules.{Rule, check_rules}
use Rattle.record.specs.Answers.{Answer, tried, buffer_after}
use Rattle.record.specs.Operations.{other_length, out_of_range}
use Rattle.forest.specs.Index.{index_of, index_length}

-- 14: the start is 0 or above n, except that an empty record takes 0 only
unfoldable pub no_start : ℕ → ℕ → Bool
no_start zero start = not (eqb start 0)
no_start (suc n) start = out_of_range (suc n) start

-- Check's rules, then 9, 10 and 14
unfoldable pub build_rules : List ℕ → ℕ → List ℕ → List ℕ → List Rule
build_rules bytes start work index =
    check_rules bytes
    ++ ((9, ltb (length work) (8 * terminals bytes))
    ∷ (10, other_length index (index_length (terminals bytes) (wires bytes)))
    ∷ (14, no_start (terminals bytes) start)
    ∷ [])

unfoldable pub build : List ℕ → ℕ → List ℕ → List ℕ → Answer (Unit {0})
build bytes start work index = tried (build_rules bytes start work index) tt

-- the index buffer afterwards; terminal v is vertex v - 1, and an empty record has no vertex to start from
unfoldable pub built : List ℕ → ℕ → List ℕ → List ℕ → List ℕ
built bytes start work index =
    buffer_after (build_rules bytes start work index) (index_of (blocks bytes) (start - 1)) index

-- Build's answer, and the buffer that it leaves
pub record BuildDone (bytes : List ℕ) (start : ℕ) (work index after : List ℕ) (answer : Answer (Unit {0}))
    : Type 0 where
  pub told : answer ≡ build bytes start work index
  pub left : after ≡ built bytes start work index

-- the start that a listing takes: terminal 1, and 0 for the empty record
unfoldable pub first_start : ℕ → ℕ
first_start zero = 0
first_start (suc n) = 1

-- Loop figure: m − n plus the number of roots. Another start gives as many roots (`roots_from`), and nothing is cut
-- off: m and the roots together are no fewer than n (`loops_whole`)
unfoldable pub loops : List ℕ → ℕ
loops bytes = wires bytes + roots (forest (blocks bytes) 0) - terminals bytes

unfoldable pub loop_figure : List ℕ → Answer ℕ
loop_figure bytes = tried (check_rules bytes) (loops bytes)

-- how many roots a list of parents shows: 0 stands for none
unfoldable pub roots_in : List ℕ → ℕ
roots_in parents = sum (length parents) (λ v. when (eqb (get_or parents v 0) 0) 1)
