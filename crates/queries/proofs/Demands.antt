-- The rest of the demands, as theorems: what no operation answers, which bits no answer reads, and Lookup by the single
-- calls. They stand beside specs/Demands.antt, which has the others.
use Rattle.std.specs.Prelude.{◌≡◌, false, List, [], ℕ, ◌<◌, length, get_or}
use Rattle.record.specs.Rules.{first_broken}
use Rattle.record.specs.Answers.{refused, answered}
use Rattle.queries.specs.View.{Alike}
use Rattle.queries.specs.Operations.{beside_rules, head, visit}
use Rattle.queries.specs.Written.{Written, Terminal, SameAnswers}
use Rattle.queries.specs.Lookup.{Lists, lists, bad_list, lookup, looked_up, BothAnswer, LookupCells}
use Rattle.queries.specs.Given.{NeverGiven}
use Rattle.queries.specs.Laws.Given.{never_seven}
use Rattle.queries.specs.Laws.Looked.{lookup_cells}
use Rattle.queries.proofs.Laws.Alike.{alike_answers}
use Rattle.queries.proofs.Laws.Answering.{lookup_refuses_head, lookup_refuses_visit, lookup_built, lookup_none}

-- 7 is given no longer, by any operation
pub never_7 : (bytes : List ℕ) → NeverGiven 7 bytes
never_7 = never_seven

-- fill bits, and the bits at D's ones, affect no answer, on any index of the right length
pub fill_unread : {bytes a b : List ℕ} → Alike bytes a b → SameAnswers bytes a b
fill_unread = alike_answers

-- ---- Lookup, on any index

module _ (bytes index list : List ℕ) (lent : Lists) where
  -- where it refuses nothing, each answer is the single call's
  pub lookup_told : lookup bytes index list lent ≡ answered tt
      → LookupCells bytes index list (looked_up bytes index list lent)
  lookup_told = lookup_cells bytes index list lent

  -- once order R, 10 and 15 are kept, and the single calls answer for the terminals before cell i
  module _ (b : first_broken (beside_rules bytes index) ≡ 0) (g : bad_list list lent ≡ false)
      {i : ℕ} (h : i < length list) (before : (j : ℕ) → j < i → BothAnswer bytes index (get_or list j 0)) where
    -- a refusal by Head there is the call's, and so is one by Visit where Head answers
    pub lookup_head_refused : {k : ℕ} → head bytes index (get_or list i 0) ≡ refused k
        → lookup bytes index list lent ≡ refused k
    lookup_head_refused = lookup_refuses_head bytes index list lent b g h before

    pub lookup_visit_refused : {k x : ℕ} → head bytes index (get_or list i 0) ≡ answered x
        → visit bytes index (get_or list i 0) ≡ refused k → lookup bytes index list lent ≡ refused k
    lookup_visit_refused = lookup_refuses_visit bytes index list lent b g h before

-- a list of none is answered, once order R, 10 and 15 are kept
pub lookup_of_none : (bytes index : List ℕ) → first_broken (beside_rules bytes index) ≡ 0
    → lookup bytes index [] (lists [] []) ≡ answered tt
lookup_of_none = lookup_none

-- ---- Lookup, on an index that Build writes

module _ {bytes index : List ℕ} (w : Written bytes index) where
  -- Lookup: a list of terminals is answered, if it has at most 512 and the answer lists have its length
  pub lookup_answered : (list : List ℕ) (lent : Lists) → bad_list list lent ≡ false
      → ((i : ℕ) → i < length list → Terminal bytes (get_or list i 0)) → lookup bytes index list lent ≡ answered tt
  lookup_answered = lookup_built w
