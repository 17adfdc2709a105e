-- Lookup and the single calls.
--   both_..          the two answers of one terminal, and back
--   head_cell, visit_cell_lem    the cells of an answered terminal
--   head_gives, visit_gives  which refusals are left once order R and rule 10 are kept
--   lookup_cells     where nothing is refused, each cell is its single call's answer
--   lookup_unwritten where one is, the lists stay
--   questions_left   the rules that are left once order R, 10 and 15 are kept
use Rattle.std.proofs.Math.Path.{◌≡◌, refl, sym, ap, subst}
use Rattle.std.proofs.Common.{◌∙◌, arith}
use Rattle.std.specs.Prelude.{Bool, true, false, List, [], ◌∷◌, ◌⊎◌, length, get_or}
use Rattle.std.proofs.Math.Logic.{inl, inr}
use Prim.Native.Nat.{ℕ, zero, suc, ◌-◌, ◌≤◌, ◌<◌}
use Rattle.record.specs.Record.{terminals}
use Rattle.record.specs.Rules.{Rule, first_broken}
use Rattle.record.specs.Answers.{Answer, refused, answered, said, otherwise, tried_then}
use Rattle.record.specs.Operations.{out_of_range}
use Rattle.record.specs.Laws.First.{first_broken_lem, first_kept, append_kept, both_kept, rule_kept}
use Rattle.record.specs.Laws.Mapped.{map_at}
use Rattle.record.specs.Laws.Told.{told_back, untold_back, buffer_kept, buffer_written}
use Rattle.queries.specs.View.{view_of}
use Rattle.queries.specs.Queries.{head_of, visit_of}
use Rattle.queries.specs.Operations.{beside_rules, order_q, head, visit}
use Rattle.queries.specs.Lookup.{Lists, both, head_and_visit, asks, bad_list, lookup_rules, lookup}
use Rattle.queries.specs.Lookup.{lookup_lists, looked_up, LookupCells}
use Rattle.queries.specs.Laws.Asked.{beside_numbered, beside_of, order_told}
use Rattle.queries.specs.Laws.Twelve.{Twelve, head_twelve, visit_twelve}
use Rattle.queries.specs.Laws.Asks.{all_answered}

-- ---- two answers

module _ {A B : Type 0} where
  pub both_first : {k : ℕ} {a : Answer A} (b : Answer B) → refused k ≡ a → refused k ≡ both a b
  unfolding both
  both_first b e = ap (λ x. both x b) e

  pub both_second : {x : A} {k : ℕ} {a : Answer A} {b : Answer B} → answered x ≡ a → refused k ≡ b
      → refused k ≡ both a b
  unfolding both
  both_second e f = rw (← e, ← f)

  pub both_values : {x : A} {y : B} {a : Answer A} {b : Answer B} → answered x ≡ a → answered y ≡ b
      → answered (x, y) ≡ both a b
  unfolding both
  both_values e f = rw (← e, ← f)

  pub both_back : (a : Answer A) (b : Answer B) {p : A × B} → answered p ≡ both a b
      → (answered p.0 ≡ a) × (answered p.1 ≡ b)
  unfolding both
  both_back (refused k) b e = absurd (let z : ◌≡◌ {A = ℕ} 0 1 = cc in omega arith)
  both_back (answered x) (refused k) e = absurd (let z : ◌≡◌ {A = ℕ} 0 1 = cc in omega arith)
  both_back (answered x) (answered y) {p} e =
      let z : p ≡ (x, y) = cc in
      (ap (λ q. answered q.0) z, ap (λ q. answered q.1) z)

  -- a refusal is the first one's, or the second one's where the first is answered
  pub both_refused : (a : Answer A) (b : Answer B) {k : ℕ} → refused k ≡ both a b → (refused k ≡ a) ⊎ (refused k ≡ b)
  unfolding both
  both_refused (refused j) b {k} e = inl (let z : k ≡ j = cc in ap refused z)
  both_refused (answered x) (refused j) {k} e = inr (let z : k ≡ j = cc in ap refused z)
  both_refused (answered x) (answered y) e = absurd (let z : ◌≡◌ {A = ℕ} 0 1 = cc in omega arith)

-- ---- the cells of a terminal

module _ (bytes index list : List ℕ) {i h x : ℕ} (k : i < length list)
    (e : answered (h, x) ≡ head_and_visit bytes index (get_or list i 0)) where
  pub head_cell : h ≡ get_or (lookup_lists bytes index list).heads i 0
  unfolding head_and_visit lookup_lists said
  head_cell =
      let f = (both_back (head bytes index (get_or list i 0)) (visit bytes index (get_or list i 0)) e).0 in
      ap (said (λ h. h)) f ∙ sym (map_at (λ v. said (λ h. h) (head bytes index v)) list i k)

  pub visit_cell_lem : x ≡ get_or (lookup_lists bytes index list).visits i 0
  unfolding head_and_visit lookup_lists said
  visit_cell_lem =
      let f = (both_back (head bytes index (get_or list i 0)) (visit bytes index (get_or list i 0)) e).1 in
      ap (said (λ i. i)) f ∙ sym (map_at (λ v. said (λ i. i) (visit bytes index v)) list i k)

-- ---- which refusals are given

-- by rules, and then by an answer that refuses with 12 alone
then_some : {A : Type 0} (rules : List Rule) {a : Answer A} → Twelve a → {k : ℕ} → refused k ≡ tried_then rules a
    → 1 ≤ k
unfolding otherwise
then_some {A} rules {a} t {k} e = go (first_broken rules) e
  where
    go : (j : ℕ) → refused k ≡ otherwise j a → 1 ≤ k
    go zero f = let z = t k (sym f) in omega arith
    go (suc j) f = let z : k ≡ suc j = cc in omega arith

module _ (bytes index : List ℕ) where
  head_some : (v : ℕ) {k : ℕ} → refused k ≡ head bytes index v → 1 ≤ k
  unfolding head
  head_some v e = then_some (order_q bytes index v) (head_twelve (view_of bytes index) (v - 1)) e

  visit_some : (v : ℕ) {k : ℕ} → refused k ≡ visit bytes index v → 1 ≤ k
  unfolding visit
  visit_some v e = then_some (order_q bytes index v) (visit_twelve (view_of bytes index) (v - 1)) e

  pub both_some : (v k : ℕ) → refused k ≡ head_and_visit bytes index v → 1 ≤ k
  unfolding head_and_visit
  both_some v k e = elim (both_refused (head bytes index v) (visit bytes index v) e) [
    | inl f ↦ head_some v f
    | inr f ↦ visit_some v f
  ]

  -- once order R and rule 10 are kept: 11 or 12 by Head, and then 12 alone by Visit
  module _ (b : first_broken (beside_rules bytes index) ≡ 0) (v : ℕ) where
    last_rule : first_broken (order_q bytes index v) ≡ first_broken ((11, out_of_range (terminals bytes) v) ∷ [])
    last_rule = order_told (beside_of bytes index b refl refl) v

    pub head_gives : {k : ℕ} → head bytes index v ≡ refused k → (k ≡ 11) ⊎ (k ≡ 12)
    unfolding head otherwise first_broken
    head_gives {k} e = go (out_of_range (terminals bytes) v) refl
      where
        at : (j : ℕ) → first_broken (order_q bytes index v) ≡ j
            → otherwise j (head_of (view_of bytes index) (v - 1)) ≡ refused k
        at j f = ap (λ (i : ℕ). otherwise i (head_of (view_of bytes index) (v - 1))) (sym f) ∙ e

        go : (t : Bool) → t ≡ out_of_range (terminals bytes) v → (k ≡ 11) ⊎ (k ≡ 12)
        go true f = let q = at 11 (last_rule ∙ first_broken_lem 11 [] (sym f)) in inl cc
        go false f =
            let q = at 0 (last_rule ∙ first_kept 11 [] (sym f)) in
            inr (head_twelve (view_of bytes index) (v - 1) k q)

  pub visit_gives : (v : ℕ) {h k : ℕ} → head bytes index v ≡ answered h → visit bytes index v ≡ refused k → k ≡ 12
  unfolding head visit otherwise
  visit_gives v {h} {k} e f = go (first_broken (order_q bytes index v)) e f
    where
      go : (j : ℕ) → otherwise j (head_of (view_of bytes index) (v - 1)) ≡ answered h
          → otherwise j (visit_of (view_of bytes index) (v - 1)) ≡ refused k → k ≡ 12
      go zero e f = visit_twelve (view_of bytes index) (v - 1) k f
      go (suc j) e f = absurd (let z : ◌≡◌ {A = ℕ} 0 1 = cc in omega arith)

-- ---- the operation

module _ (bytes index list : List ℕ) (lent : Lists) where
  abbrev questions : List Rule
  questions = asks (head_and_visit bytes index) list

  -- where none is refused
  module _ (none : first_broken questions ≡ 0) {i : ℕ} (h : i < length list) where
    found : (p : ℕ × ℕ) × (answered p ≡ head_and_visit bytes index (get_or list i 0))
    found = all_answered (head_and_visit bytes index) (both_some bytes index) list none i h

    cells_back : (answered found.0.0 ≡ head bytes index (get_or list i 0))
        × (answered found.0.1 ≡ visit bytes index (get_or list i 0))
    unfolding head_and_visit
    cells_back = both_back (head bytes index (get_or list i 0)) (visit bytes index (get_or list i 0)) found.1

    head_found : head bytes index (get_or list i 0) ≡ answered (get_or (lookup_lists bytes index list).heads i 0)
    head_found = sym cells_back.0 ∙ ap answered (head_cell bytes index list h found.1)

    visit_found : visit bytes index (get_or list i 0) ≡ answered (get_or (lookup_lists bytes index list).visits i 0)
    visit_found = sym cells_back.1 ∙ ap answered (visit_cell_lem bytes index list h found.1)

  pub lookup_cells : lookup bytes index list lent ≡ answered tt
      → LookupCells bytes index list (looked_up bytes index list lent)
  unfolding lookup looked_up lookup_rules
  lookup_cells e =
      let rules = lookup_rules bytes index list lent in
      let k = (untold_back (first_broken rules) tt (sym e)).0 in
      let (_, more) = both_kept (beside_numbered bytes index) _ k in
      let (_, none) = rule_kept 14 (bad_list list lent) questions more in
      subst (LookupCells bytes index list) (buffer_written rules (lookup_lists bytes index list) lent k)
      (record { heads_are = λ i h. head_found none h; visits_are = λ i h. visit_found none h })

  pub lookup_unwritten : {k : ℕ} → lookup bytes index list lent ≡ refused k → looked_up bytes index list lent ≡ lent
  unfolding lookup looked_up
  lookup_unwritten e =
      let rules = lookup_rules bytes index list lent in
      let (i, f, _) = told_back (first_broken rules) tt (sym e) in
      sym (buffer_kept rules (lookup_lists bytes index list) lent f)

  -- once order R, 10 and 15 are kept
  module _ (b : first_broken (beside_rules bytes index) ≡ 0) (g : bad_list list lent ≡ false) where
    pub questions_left : first_broken (lookup_rules bytes index list lent) ≡ first_broken questions
    unfolding lookup_rules
    questions_left =
        append_kept (beside_numbered bytes index) ((15, bad_list list lent) ∷ questions) b ∙ first_kept 15 questions g
