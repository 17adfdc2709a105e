-- What rule 16 tells, and what File answers and leaves.
--   file_bad_lists                          rule 16 is broken
--   file_refused                            rule 6 or 8 is
--   file_numbers                            none of these is: each neighbour fits into a field
--   file_misfit, file_done                  and rule 17 is broken, or not
use mathlib.Core.Path.{◌≡◌, ap, ◌∙◌}
use mathlib.Core.Bool.{true, not}
use mathlib.Core.List.{List, []}
use Prim.Native.Nat.{ℕ, suc, ◌/◌}
use native.Mathlib.Omega.{arith}
use borrow.Author.Tests.{eq-eqb, ne_eqb}
use lib.ListN.{length}
use Rattle.record.specs.Record.{record_length}
use Rattle.record.specs.Rules.{first_broken, place_rules}
use Rattle.record.specs.Answers.{refused, answered}
use Rattle.record.specs.Operations.{other_length, check_graph}
use Rattle.record.specs.Filing.{record_from, bad_lists, file_rules, file, filed}
use Rattle.record.specs.Steps.{Listed, graph_from, Numbers}
use Rattle.record.specs.Laws.First.{first_broken_lem, first_kept}
use Rattle.record.specs.Laws.Told.{told, untold, told_back, untold_back, buffer_kept, buffer_written}
use Rattle.record.specs.Laws.Filed.{known_numbers, between_kept, file_between, file_last, file_first}

-- ---- File

module _ (degrees neighbours bytes : List ℕ) where
  -- a rule is broken
  file_broken : {k : ℕ} → first_broken (file_rules degrees neighbours bytes) ≡ suc k
      → (refused (suc k) ≡ file degrees neighbours bytes) × (bytes ≡ filed degrees neighbours bytes)
  unfolding file filed
  file_broken e =
      (told tt e, buffer_kept (file_rules degrees neighbours bytes) (record_from degrees neighbours) bytes e)

  -- rule 16 is
  pub file_bad_lists : bad_lists degrees neighbours ≡ true
      → (refused 16 ≡ file degrees neighbours bytes) × (bytes ≡ filed degrees neighbours bytes)
  file_bad_lists e = file_broken (file_first degrees neighbours bytes e)

module _ {degrees neighbours : List ℕ} (l : Listed degrees neighbours) (bytes : List ℕ) where
  -- rule 6 or 8 is
  pub file_refused : {k : ℕ} → refused k ≡ check_graph (graph_from degrees neighbours)
      → (refused k ≡ file degrees neighbours bytes) × (bytes ≡ filed degrees neighbours bytes)
  unfolding check_graph
  file_refused e =
      let g = graph_from degrees neighbours in
      let (i, f, z) = told_back (first_broken (place_rules g)) tt e in
      rw z (file_broken degrees neighbours bytes (file_between l bytes f))

  module _ (e : answered tt ≡ check_graph (graph_from degrees neighbours)) where
    kept : first_broken (place_rules (graph_from degrees neighbours)) ≡ 0
    unfolding check_graph
    kept = (untold_back (first_broken (place_rules (graph_from degrees neighbours))) tt e).0

    -- each neighbour fits into a field
    pub file_numbers : Numbers neighbours
    file_numbers i h =
        let few = l.few in
        let known = known_numbers l (between_kept l kept).0 i h in
        (omega arith, omega arith)

    -- rule 17 is
    pub file_misfit : (length bytes ≡ record_length (length degrees) (length neighbours / 2) → ⊥)
        → (refused 17 ≡ file degrees neighbours bytes) × (bytes ≡ filed degrees neighbours bytes)
    unfolding other_length
    file_misfit h =
        file_broken degrees neighbours bytes
        (file_last l bytes kept ∙ first_broken_lem 17 [] (ap not (ne_eqb (length bytes) _ h)))

    -- none is
    pub file_done : length bytes ≡ record_length (length degrees) (length neighbours / 2)
        → (answered tt ≡ file degrees neighbours bytes)
        × (record_from degrees neighbours ≡ filed degrees neighbours bytes)
    unfolding file filed other_length first_broken
    file_done h =
        let f : first_broken (file_rules degrees neighbours bytes) ≡ 0 =
        file_last l bytes kept ∙ first_kept 17 [] (ap not (eq-eqb (length bytes) _ h)) in
        (untold tt f, buffer_written (file_rules degrees neighbours bytes) (record_from degrees neighbours) bytes f)
