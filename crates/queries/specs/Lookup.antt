-- Lookup: what Head and Visit answer for each terminal of a list, by one call (document 02, "Many questions on one
-- reading").
--   Lists, lists   two lists, in which cell i is that of the list's terminal i
--   both           two answers as one: the first refusal, or the two values
--   head_and_visit   what the single calls say of one terminal, Head before Visit
--   refused_by      an answer as a rule: broken where it refuses, and with that number
--   asks           what is asked of each number of a list, as rules in list order
--   bad_list        15
--   lookup_rules    order R, 10 and 15, and then what each terminal is refused with, in list order
--   lookup         what the operation answers
--   lookup_lists    the heads and the visit numbers of a list
--   looked_up       what the two lists hold afterwards
--   LookupDone     the answer and the lists of a call
--   BothAnswer     both single calls answer for a terminal
--   LookupCells    each cell is what its single call answers
use Rattle.std.specs.Prelude.{◌≡◌, Bool, true, false, ◌||◌, List, ◌∷◌, ◌++◌, map, ℕ, ◌<◌, ltb, length, get_or}
use Rattle.record.specs.Rules.{Rule}
use Rattle.record.specs.Answers.{Answer, refused, answered, said, tried, buffer_after}
use Rattle.record.specs.Operations.{other_length}
use Rattle.queries.specs.Operations.{beside_rules, head, visit}

pub record Lists : Type 0 where
  pub heads : List ℕ
  pub visits : List ℕ

abbrev pub lists : List ℕ → List ℕ → Lists
lists h v = record { heads = h; visits = v }

-- ---- one terminal

unfoldable pub both : {A B : Type 0} → Answer A → Answer B → Answer (A × B)
both (refused k) b = refused k
both (answered x) (refused k) = refused k
both (answered x) (answered y) = answered (x, y)

unfoldable pub head_and_visit : List ℕ → List ℕ → ℕ → Answer (ℕ × ℕ)
head_and_visit bytes index v = both (head bytes index v) (visit bytes index v)

unfoldable pub refused_by : {A : Type 0} → Answer A → Rule
refused_by (refused k) = (k, true)
refused_by (answered x) = (0, false)

-- ---- the list

abbrev pub asks : {A : Type 0} → (ℕ → Answer A) → List ℕ → List Rule
asks ask list = map (λ v. refused_by (ask v)) list

-- it has more than 512 terminals, or an answer list has another length
unfoldable pub bad_list : List ℕ → Lists → Bool
bad_list list lent =
    ltb 512 (length list) || (other_length lent.heads (length list) || other_length lent.visits (length list))

unfoldable pub lookup_rules : List ℕ → List ℕ → List ℕ → Lists → List Rule
lookup_rules bytes index list lent =
    beside_rules bytes index ++ ((15, bad_list list lent) ∷ asks (head_and_visit bytes index) list)

unfoldable pub lookup : List ℕ → List ℕ → List ℕ → Lists → Answer (Unit {0})
lookup bytes index list lent = tried (lookup_rules bytes index list lent) tt

-- 0 would stand for a refusal, and where one of these is refused, the call is
unfoldable pub lookup_lists : List ℕ → List ℕ → List ℕ → Lists
lookup_lists bytes index list =
    lists
    (map (λ v. said (λ h. h) (head bytes index v)) list)
    (map (λ v. said (λ i. i) (visit bytes index v)) list)

unfoldable pub looked_up : List ℕ → List ℕ → List ℕ → Lists → Lists
looked_up bytes index list lent = buffer_after (lookup_rules bytes index list lent) (lookup_lists bytes index list) lent

-- a call answers r, and the lists before it become those after it
pub record LookupDone (bytes index list : List ℕ) (before after : Lists) (r : Answer (Unit {0})) : Type 0 where
  pub answers : r ≡ lookup bytes index list before
  pub leaves : after ≡ looked_up bytes index list before

-- ---- cell by cell

-- both single calls answer for v
pub record BothAnswer (bytes index : List ℕ) (v : ℕ) : Type 0 where
  pub its_head : ℕ
  pub its_visit : ℕ
  pub head_is : head bytes index v ≡ answered its_head
  pub visit_is : visit bytes index v ≡ answered its_visit

pub record LookupCells (bytes index list : List ℕ) (found : Lists) : Type 0 where
  pub heads_are : (i : ℕ) → i < length list → head bytes index (get_or list i 0) ≡ answered (get_or found.heads i 0)
  pub visits_are : (i : ℕ) → i < length list → visit bytes index (get_or list i 0) ≡ answered (get_or found.visits i 0)
