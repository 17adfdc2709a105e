-- From the steps of the code to what Lookup answers.
--   outside_told, head_refused, visit_refused, both_told, both_near    one terminal
--   LookingAt    the terminals before cell i are answered, and their answers are in the lists
--   looking_..   from its begin to its end
--   lookup_..    the call, by the rules that are tried in turn
--   list_long, heads_misfit, visits_tested, lists_fit    rule 15
use mathlib.Core.Path.{◌≡◌, refl, sym, ap₂, subst, ◌∙◌}
use mathlib.Core.Bool.{true, false, not}
use mathlib.Core.List.{List, ◌∷◌, ◌++◌}
use Prim.Native.Nat.{ℕ, ◌+◌, ◌-◌, ◌≤◌, ◌<◌}
use native.Mathlib.Omega.{arith}
use borrow.Author.Tests.{eq-eqb, ne_eqb, lt-ltb, le-ltb, ltb-false}
use lib.Dec.{eqb, ltb}
use lib.ListN.{length, drop, get_or, set, length-map}
use Rattle.adjacency.specs.Laws.Anywhere.{neither}
use Rattle.adjacency.specs.Laws.InOrder.{InOrder, order_start, order_more, order_end}
use Rattle.record.specs.Rules.{Rule, first_broken}
use Rattle.record.specs.Answers.{Answer, refused, answered, said, tried, number}
use Rattle.record.specs.Operations.{other_length, out_of_range}
use Rattle.record.specs.declared.Refusal.{Refusal}
use Rattle.record.specs.Laws.First.{first_broken_lem, append_kept, append_broken}
use Rattle.record.specs.Laws.Settled.{number_bounds}
use Rattle.record.specs.Laws.Valued.{value_at}
use Rattle.record.specs.Laws.Told.{told, told_number, untold, told_back, untold_back, then_told}
use Rattle.record.specs.Laws.Told.{buffer_kept, buffer_written}
use Rattle.queries.specs.View.{View, view_by, view_of}
use Rattle.queries.specs.Queries.{head_of, visit_of}
use Rattle.queries.specs.Operations.{beside_rules, order_q, head, visit}
use Rattle.queries.specs.Lookup.{Lists, lists, head_and_visit, asks, bad_list, lookup_rules, lookup}
use Rattle.queries.specs.Lookup.{lookup_lists, looked_up, LookupDone}
use Rattle.queries.specs.Looking.{LookedAll}
use Rattle.queries.specs.Steps.{Beside, Ranged}
use Rattle.queries.specs.Laws.Asked.{beside_numbered, same_length, beside_unbroken, Asked, asked_inside}
use Rattle.queries.specs.Laws.Asked.{asked_outside}
use Rattle.queries.specs.Laws.Asks.{asked_refused, asked_passed, asked_all}
use Rattle.queries.specs.Laws.Looked.{both_first, both_second, both_values, both_back, head_cell, visit_cell_lem}
use Rattle.queries.specs.Laws.Looked.{questions_left}
use Rattle.queries.specs.Laws.Small.{head_small, visit_small}
use Rattle.queries.proofs.Laws.Asking.{passed_on}

-- ---- one terminal

module _ {bytes index : List ℕ} {n m : ℕ} (b : Beside bytes index n m) (v : ℕ) where
  pub outside_told : out_of_range n v ≡ true → refused 11 ≡ head_and_visit bytes index v
  unfolding head head_and_visit
  outside_told o =
      both_first (visit bytes index v)
      (then_told (order_q bytes index v) (head_of (view_of bytes index) (v - 1)) (asked_outside b v o))

  module _ (r : Ranged n v) where
    here : Asked bytes index v n m
    here = asked_inside b v r

    head_here : {a : Answer ℕ} → a ≡ head_of (view_by n m bytes index) (v - 1) → a ≡ head bytes index v
    unfolding head
    head_here e = passed_on here (λ (w : View). head_of w (v - 1)) e

    visit_here : {a : Answer ℕ} → a ≡ visit_of (view_by n m bytes index) (v - 1) → a ≡ visit bytes index v
    unfolding visit
    visit_here e = passed_on here (λ (w : View). visit_of w (v - 1)) e

    pub head_refused : {k : ℕ} → refused k ≡ head_of (view_by n m bytes index) (v - 1)
        → refused k ≡ head_and_visit bytes index v
    unfolding head_and_visit
    head_refused e = both_first (visit bytes index v) (head_here e)

    module _ {h : ℕ} (e : answered h ≡ head_of (view_by n m bytes index) (v - 1)) where
      pub visit_refused : {k : ℕ} → refused k ≡ visit_of (view_by n m bytes index) (v - 1)
          → refused k ≡ head_and_visit bytes index v
      unfolding head_and_visit
      visit_refused f = both_second (head_here e) (visit_here f)

      pub both_told : {i : ℕ} → answered i ≡ visit_of (view_by n m bytes index) (v - 1)
          → answered (h, i) ≡ head_and_visit bytes index v
      unfolding head_and_visit
      both_told f = both_values (head_here e) (visit_here f)

-- the two numbers are of 16 bits
pub both_near : (bytes index : List ℕ) (v : ℕ) {h x : ℕ} → answered (h, x) ≡ head_and_visit bytes index v
    → (h < 65536) × (x < 65536)
unfolding head_and_visit
both_near bytes index v e =
    let (f, g) = both_back (head bytes index v) (visit bytes index v) e in
    (value_at (head_small bytes index v) f, value_at (visit_small bytes index v) g)

-- ---- the list, cell by cell

pub record LookingAt (bytes index list : List ℕ) (found : Lists) (i : ℕ) : Type 0 where
  pub left : first_broken (asks (head_and_visit bytes index) (drop i list))
      ≡ first_broken (asks (head_and_visit bytes index) list)
  pub heads_to : InOrder (lookup_lists bytes index list).heads found.heads i
  pub visits_to : InOrder (lookup_lists bytes index list).visits found.visits i

module _ (bytes index list : List ℕ) where
  length_heads : length (lookup_lists bytes index list).heads ≡ length list
  unfolding lookup_lists
  length_heads = length-map list (λ v. said (λ h. h) (head bytes index v))

  length_visits : length (lookup_lists bytes index list).visits ≡ length list
  unfolding lookup_lists
  length_visits = length-map list (λ v. said (λ i. i) (visit bytes index v))

  pub looking_begins : {heads visits : List ℕ} → length heads ≡ length list → length visits ≡ length list
      → LookingAt bytes index list (lists heads visits) 0
  looking_begins {heads} {visits} h v = record {
    left = refl;
    heads_to = order_start (lookup_lists bytes index list).heads heads (h ∙ sym length_heads);
    visits_to = order_start (lookup_lists bytes index list).visits visits (v ∙ sym length_visits);
  }

  module _ {found : Lists} {i : ℕ} (l : LookingAt bytes index list found i) where
    looking_inside : i ≤ length list
    looking_inside = let e = length_heads in let u = l.heads_to.upto in omega arith

    pub looking_heads : length found.heads ≡ length list
    looking_heads = l.heads_to.size ∙ length_heads

    pub looking_visits : length found.visits ≡ length list
    looking_visits = l.visits_to.size ∙ length_visits

    pub looking_stops : i < length list → (q : Refusal)
        → refused (number q) ≡ head_and_visit bytes index (get_or list i 0)
        → LookedAll bytes index list found (refused (number q))
    looking_stops h q e = record {
      answers = told_number (first_broken (asks (head_and_visit bytes index) list)) tt
          (sym l.left ∙ asked_refused (head_and_visit bytes index) list h e) (number_bounds q).0;
      finds = λ f. absurd (let z : ◌≡◌ {A = ℕ} 0 1 = cc in omega arith);
    }

    module _ {h x : ℕ} (k : i < length list) (e : answered (h, x) ≡ head_and_visit bytes index (get_or list i 0)) where
      pub looking_on : {heads visits : List ℕ} → heads ≡ set found.heads i h → visits ≡ set found.visits i x
          → LookingAt bytes index list (lists heads visits) (i + 1)
      looking_on a b =
          let m = length_heads in
          let n = length_visits in
          record {
            left = sym (asked_passed (head_and_visit bytes index) list k e) ∙ l.left;
            heads_to = order_more l.heads_to h a (head_cell bytes index list k e) (omega arith);
            visits_to = order_more l.visits_to x b (visit_cell_lem bytes index list k e) (omega arith);
          }

    pub looking_ends : length list ≤ i → LookedAll bytes index list found (answered tt)
    looking_ends h =
        let u = looking_inside in
        let z : i ≡ length list = omega arith in
        let m = length_heads in
        let n = length_visits in
        record {
          answers = untold tt (sym l.left ∙ asked_all (head_and_visit bytes index) list z);
          finds = λ e. ap₂ lists (order_end l.heads_to (omega arith)) (order_end l.visits_to (omega arith));
        }

-- ---- the call

module _ (bytes index list : List ℕ) (lent : Lists) where
  abbrev rest : List Rule
  rest = (15, bad_list list lent) ∷ asks (head_and_visit bytes index) list

  -- order R or rule 10 is broken
  pub lookup_unread : {A : Type 0} (a : A) {k : ℕ} → refused k ≡ tried (beside_rules bytes index) a
      → LookupDone bytes index list lent lent (refused k)
  unfolding lookup looked_up lookup_rules
  lookup_unread a e =
      let (i, f, g) = told_back (first_broken (beside_rules bytes index)) a e in
      let h = append_broken (beside_rules bytes index) rest i f in
      record {
        answers = rw g (told tt h);
        leaves = buffer_kept (beside_rules bytes index ++ rest) (lookup_lists bytes index list) lent h;
      }

  -- what they let pass is the record and the index that they were asked of
  pub lookup_read : {p : List ℕ × List ℕ} {after : Lists} {r : Answer (Unit {0})}
      → answered p ≡ tried (beside_rules bytes index) (bytes, index) → LookupDone p.0 p.1 list lent after r
      → LookupDone bytes index list lent after r
  lookup_read {after = after} {r = r} e d =
      let same = (untold_back (first_broken (beside_rules bytes index)) (bytes, index) e).1 in
      subst (λ (p : List ℕ × List ℕ). LookupDone p.0 p.1 list lent after r) same d

  module _ {n m : ℕ} (b : Beside bytes index n m) where
    rest_told : first_broken (lookup_rules bytes index list lent) ≡ first_broken rest
    unfolding lookup_rules
    rest_told = append_kept (beside_numbered bytes index) rest (beside_unbroken b)

    pub lookup_bad : bad_list list lent ≡ true → LookupDone bytes index list lent lent (refused 15)
    unfolding lookup looked_up
    lookup_bad o =
        let h = rest_told ∙ first_broken_lem 15 (asks (head_and_visit bytes index) list) o in
        record {
          answers = told tt h;
          leaves = buffer_kept (lookup_rules bytes index list lent) (lookup_lists bytes index list) lent h;
        }

    module _ (g : bad_list list lent ≡ false) where
      pub lookup_refused : {k : ℕ} → refused k ≡ tried {A = Unit {0}} (asks (head_and_visit bytes index) list) tt
          → LookupDone bytes index list lent lent (refused k)
      unfolding lookup looked_up
      lookup_refused e =
          let (i, f, q) = told_back (first_broken (asks (head_and_visit bytes index) list)) tt e in
          let h = questions_left bytes index list lent (beside_unbroken b) g ∙ f in
          record {
            answers = rw q (told tt h);
            leaves = buffer_kept (lookup_rules bytes index list lent) (lookup_lists bytes index list) lent h;
          }

      pub lookup_filled : {after : Lists}
          → answered tt ≡ tried {A = Unit {0}} (asks (head_and_visit bytes index) list) tt
          → after ≡ lookup_lists bytes index list → LookupDone bytes index list lent after (answered tt)
      unfolding lookup looked_up
      lookup_filled e f =
          let h = questions_left bytes index list lent (beside_unbroken b) g
          ∙ (untold_back (first_broken (asks (head_and_visit bytes index) list)) tt e).0 in
          record {
            answers = untold tt h;
            leaves = f ∙ buffer_written (lookup_rules bytes index list lent) (lookup_lists bytes index list) lent h;
          }

-- ---- rule 15

module _ (list heads visits : List ℕ) where
  pub list_long : 512 < length list → true ≡ bad_list list (lists heads visits)
  unfolding bad_list
  list_long h = rw (lt-ltb 512 (length list) h)

  module _ (s : length list ≤ 512) where
    pub heads_misfit : (length heads ≡ length list → ⊥) → true ≡ bad_list list (lists heads visits)
    unfolding bad_list other_length
    heads_misfit d = rw (le-ltb 512 (length list) s, ne_eqb (length heads) (length list) d)

    pub visits_tested : length heads ≡ length list
        → not (eqb (length visits) (length list)) ≡ bad_list list (lists heads visits)
    unfolding bad_list other_length
    visits_tested e = rw (le-ltb 512 (length list) s, eq-eqb (length heads) (length list) e)

  -- the list and the two others fit
  pub lists_fit : bad_list list (lists heads visits) ≡ false
      → (length list ≤ 512) × (length heads ≡ length list) × (length visits ≡ length list)
  unfolding bad_list
  lists_fit e =
      let (a, more) = neither (ltb 512 (length list)) _ e in
      let (b, c) = neither (other_length heads (length list)) (other_length visits (length list)) more in
      (ltb-false 512 (length list) a, same_length heads (length list) b, same_length visits (length list) c)
