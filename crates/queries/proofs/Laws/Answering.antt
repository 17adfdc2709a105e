-- Lookup's answer, by the single calls in list order.
--   lookup_refuses_head, lookup_refuses_visit    the first refusal in list order is the answer
--   lookup_answers   where both single calls answer for each terminal, so does Lookup
--   lookup_built     a list of terminals, on an index that Build writes
--   lookup_none      a list of none
use Rattle.std.proofs.Math.Path.{◌≡◌, refl, sym}
use Rattle.std.proofs.Common.{◌∙◌, arith}
use Rattle.std.specs.Prelude.{false, List, [], length, get_or}
use Prim.Native.Nat.{ℕ, ◌<◌}
use Rattle.record.specs.Rules.{first_broken}
use Rattle.record.specs.Answers.{refused, answered}
use Rattle.record.specs.Operations.{other_length}
use Rattle.record.specs.Laws.Told.{told_number, untold}
use Rattle.queries.specs.Operations.{beside_rules, head, visit}
use Rattle.queries.specs.Lookup.{Lists, lists, head_and_visit, bad_list, lookup_rules, lookup, BothAnswer}
use Rattle.queries.specs.Written.{Written, Terminal}
use Rattle.queries.specs.Laws.Asked.{beside_unbroken}
use Rattle.queries.specs.Laws.Answered.{beside_written, head_answer, visit_answer}
use Rattle.queries.specs.Laws.Asks.{asked_refused, asked_all, passed_to}
use Rattle.queries.specs.Laws.Looked.{both_first, both_second, both_values, both_some, questions_left}

module _ (bytes index list : List ℕ) (lent : Lists) where
  -- once order R, 10 and 15 are kept
  module _ (b : first_broken (beside_rules bytes index) ≡ 0) (g : bad_list list lent ≡ false) where
    both_answered : {v : ℕ} → BothAnswer bytes index v → (p : ℕ × ℕ) × (answered p ≡ head_and_visit bytes index v)
    unfolding head_and_visit
    both_answered a = ((a.its_head, a.its_visit), both_values (sym a.head_is) (sym a.visit_is))

    module _ {i : ℕ} (h : i < length list) (before : (j : ℕ) → j < i → BothAnswer bytes index (get_or list j 0)) {k : ℕ}
      where
        stops : refused k ≡ head_and_visit bytes index (get_or list i 0) → lookup bytes index list lent ≡ refused k
        unfolding lookup
        stops e =
            let ask = head_and_visit bytes index in
            let left =
            questions_left bytes index list lent b g
            ∙ passed_to ask list i (omega arith) (λ j l. both_answered (before j l)) in
            sym (told_number (first_broken (lookup_rules bytes index list lent)) tt (left ∙ asked_refused ask list h e)
            (both_some bytes index (get_or list i 0) k e))

        pub lookup_refuses_head : head bytes index (get_or list i 0) ≡ refused k
            → lookup bytes index list lent ≡ refused k
        unfolding head_and_visit
        lookup_refuses_head e = stops (both_first (visit bytes index (get_or list i 0)) (sym e))

        pub lookup_refuses_visit : {x : ℕ} → head bytes index (get_or list i 0) ≡ answered x
            → visit bytes index (get_or list i 0) ≡ refused k → lookup bytes index list lent ≡ refused k
        unfolding head_and_visit
        lookup_refuses_visit e f = stops (both_second (sym e) (sym f))

    pub lookup_answers : ((i : ℕ) → i < length list → BothAnswer bytes index (get_or list i 0))
        → lookup bytes index list lent ≡ answered tt
    unfolding lookup
    lookup_answers each =
        let ask = head_and_visit bytes index in
        let all = passed_to ask list (length list) (omega arith) (λ j l. both_answered (each j l)) in
        sym (untold tt (questions_left bytes index list lent b g ∙ all ∙ asked_all ask list refl))

-- a list of terminals, on an index that Build writes
pub lookup_built : {bytes index : List ℕ} → Written bytes index → (list : List ℕ) (lent : Lists)
    → bad_list list lent ≡ false → ((i : ℕ) → i < length list → Terminal bytes (get_or list i 0))
    → lookup bytes index list lent ≡ answered tt
lookup_built {bytes} {index} w list lent g each =
    lookup_answers bytes index list lent (beside_unbroken (beside_written w)) g
    (λ i h. record {
      its_head = _;
      its_visit = _;
      head_is = head_answer w (each i h);
      visit_is = visit_answer w (each i h);
    })

pub lookup_none : (bytes index : List ℕ) → first_broken (beside_rules bytes index) ≡ 0
    → lookup bytes index [] (lists [] []) ≡ answered tt
unfolding bad_list other_length
lookup_none bytes index b = lookup_answers bytes index [] (lists [] []) b refl (λ i h. absurd (omega arith))
