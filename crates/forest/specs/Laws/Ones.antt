-- The ones of a row of marks, and of a section: as many as places that its test marks.
use Rattle.std.specs.Prelude.{◌≡◌, refl, Bool, true, false, List, [], ◌∷◌, map, ℕ, zero, suc, length}
use Rattle.std.proofs.Common.{ap, arith}
use Rattle.bits.specs.Bits.{bit, count}
use Rattle.bits.specs.Laws.Rank.{count_cons, count_append}
use Rattle.graph.specs.Graph.{Blocks}
use Rattle.graph.specs.Search.{PlaceTest, count_up}
use Rattle.graph.specs.Counts.{when, sum, over, count_places}
use Rattle.graph.specs.Laws.Places.CountUp.{each_next}
use Rattle.graph.specs.Laws.Counts.Sums.{sum_first}
use Rattle.graph.specs.Laws.Counts.Places.{over_cons}
use Rattle.record.specs.Record.{lay_out}
use Rattle.forest.specs.Index.{marks_from, section}
use Rattle.forest.specs.Laws.Sections.{laid_from, marks_of}

bit_when : (b : Bool) → bit b ≡ when b 1
bit_when true = refl
bit_when false = refl

-- of one block
pub count_row : (f : ℕ → Bool) (n : ℕ) → count (map f (count_up 0 n)) ≡ sum n (λ j. when (f j) 1)
unfolding count count_up sum
count_row f zero = refl
count_row f (suc n) =
    omega (
      arith,
      count_cons (f 0) (map f (count_up 1 n)),
      bit_when (f 0),
      ap count (each_next f 0 n),
      count_row (λ j. f (suc j)) n,
      sum_first n (λ j. when (f j) 1),
    )

-- the blocks behind the first
marks_next : (test : PlaceTest) (u : ℕ) (g : Blocks) → marks_from test (suc u) g ≡ marks_from (λ x. test (suc x)) u g
unfolding marks_from
marks_next test u [] = refl
marks_next test u (b ∷ g) = ap (λ (l : List (List Bool)). marks_of test (suc u) b ∷ l) (marks_next test (suc u) g)

pub count_section : (test : PlaceTest) (g : Blocks) → count (section test g) ≡ count_places g test
unfolding section count_places count lay_out marks_from over sum
count_section test [] = refl
count_section test (b ∷ g) =
    omega (
      arith,
      count_append (marks_of test 0 b) (laid_from test 1 g),
      count_row (test 0) (length b),
      ap (λ (l : List (List Bool)). count (lay_out false l)) (marks_next test 0 g),
      count_section (λ x. test (suc x)) g,
      over_cons b g (λ x j. when (test x j) 1),
    )
