-- The first broken rule of a list, and what is known of a record that breaks none.
use Rattle.std.specs.Prelude.{◌≡◌, refl, Bool, true, false, not, List, [], ◌∷◌, ◌++◌, ◌⊎◌, ℕ, suc, ◌≤◌, eqb, ltb}
use Rattle.std.specs.Prelude.{length}
use Rattle.std.proofs.Common.{sym, ◌∙◌, inl, inr, arith}
use borrow.Author.Tests.{ltb-false, eqb-true, not-false}
use Rattle.bits.specs.Bits.{count}
use Rattle.adjacency.specs.Places.{any_place, stray, one_sided}
use Rattle.record.specs.Record.{terminals, wires, record_length, unary, blocks}
use Rattle.record.specs.Rules.{Rule, first_broken, begins_with_zero, order_r, spare_set}
use Rattle.record.specs.Rules.{place_rules, layout_rules, check_rules}
use Rattle.record.specs.Operations.{Accepted}
use Rattle.adjacency.specs.Laws.Anywhere.{neither}

-- ---- one rule and the rest

module _ (k : ℕ) (rules : List Rule) {b : Bool} where
  -- a broken first rule is told
  pub first_broken_lem : b ≡ true → first_broken ((k, b) ∷ rules) ≡ k
  unfolding first_broken
  first_broken_lem e = rw (e, first_broken)

  -- an unbroken one is passed over
  pub first_kept : b ≡ false → first_broken ((k, b) ∷ rules) ≡ first_broken rules
  unfolding first_broken
  first_kept e = rw (e, first_broken)

-- the rules are numbered from 1, so that 0 tells that none is broken
pub data Numbered : List Rule → Type 0 where
  none : Numbered []
  rule : {k : ℕ} {b : Bool} {rules : List Rule} → Numbered rules → Numbered ((suc k, b) ∷ rules)

-- where none is broken, the first is not, nor one of the rest
pub rule_kept : (k : ℕ) (b : Bool) (rules : List Rule) → first_broken ((suc k, b) ∷ rules) ≡ 0
    → (b ≡ false) × (first_broken rules ≡ 0)
unfolding first_broken
rule_kept k true rules e = absurd (omega arith)
rule_kept k false rules e = (refl, e)

-- the only rule
pub only_one : (n : ℕ) (b : Bool) {k : ℕ} → first_broken ((n, b) ∷ []) ≡ suc k → suc k ≡ n
unfolding first_broken
only_one n true e = sym e
only_one n false e = absurd (omega arith)

-- the first or the second of two
pub one_of_two : (n m : ℕ) (a b : Bool) {k : ℕ} → first_broken ((n, a) ∷ (m, b) ∷ []) ≡ suc k
    → (suc k ≡ n) ⊎ (suc k ≡ m)
unfolding first_broken
one_of_two n m true b e = inl (sym e)
one_of_two n m false b e = inr (only_one m b e)

-- ---- one list of rules and then another

-- the first list is unbroken
pub append_kept : {a : List Rule} → Numbered a → (c : List Rule) → first_broken a ≡ 0
    → first_broken (a ++ c) ≡ first_broken c
append_kept none c e = refl
append_kept (rule {k} {b} {rules} r) c e =
    let (f, g) = rule_kept k b rules e in
    first_kept (suc k) (rules ++ c) f ∙ append_kept r c g

-- it is broken
pub append_broken : (a c : List Rule) (k : ℕ) → first_broken a ≡ suc k → first_broken (a ++ c) ≡ suc k
unfolding first_broken
append_broken [] c k e = absurd (omega arith)
append_broken ((n, true) ∷ a) c k e = e
append_broken ((n, false) ∷ a) c k e = append_broken a c k e

-- neither is broken
pub both_kept : {a : List Rule} → Numbered a → (c : List Rule) → first_broken (a ++ c) ≡ 0
    → (first_broken a ≡ 0) × (first_broken c ≡ 0)
unfolding first_broken
both_kept none c e = (refl, e)
both_kept (rule {k} {b} {rules} r) c e =
    let (f, g) = rule_kept k b (rules ++ c) e in
    let (h, i) = both_kept r c g in
    (first_kept (suc k) rules f ∙ h, i)

-- ---- order R

-- what order R asks of a record
pub record Shaped (bytes : List ℕ) : Type 0 where
  pub long : 4 ≤ length bytes
  pub terminals_fit : terminals bytes ≤ 4096
  pub wires_fit : wires bytes ≤ 16384
  pub sized : length bytes ≡ record_length (terminals bytes) (wires bytes)
  pub ones : count (unary bytes) ≡ terminals bytes
  pub begins : begins_with_zero (unary bytes) ≡ false

module _ (bytes : List ℕ) where
  pub order_numbered : Numbered (order_r bytes)
  unfolding order_r
  order_numbered = rule (rule (rule (rule none)))

  pub shaped : first_broken (order_r bytes) ≡ 0 → Shaped bytes
  unfolding order_r
  shaped e =
      let (a, e₁) = rule_kept 0 _ _ e in
      let (b, e₂) = rule_kept 1 _ _ e₁ in
      let (c, e₃) = rule_kept 2 _ _ e₂ in
      let (d, e₄) = rule_kept 3 _ _ e₃ in
      let (n, m) = neither (ltb 4096 (terminals bytes)) (ltb 16384 (wires bytes)) b in
      let (o, z) = neither (not (eqb (count (unary bytes)) (terminals bytes))) (begins_with_zero (unary bytes)) d in
      record {
        long = ltb-false _ _ a;
        terminals_fit = ltb-false _ _ n;
        wires_fit = ltb-false _ _ m;
        sized = eqb-true _ _ (not-false _ c);
        ones = eqb-true _ _ (not-false _ o);
        begins = z;
      }

-- ---- Check

pub layout_numbered : (bytes : List ℕ) → Numbered (layout_rules bytes)
unfolding order_r layout_rules
layout_numbered bytes = rule (rule (rule (rule (rule none))))

pub check_numbered : (bytes : List ℕ) → Numbered (check_rules bytes)
unfolding order_r layout_rules place_rules check_rules
check_numbered bytes = rule (rule (rule (rule (rule (rule (rule none))))))

-- what Check asks of a record
pub record Checked (bytes : List ℕ) : Type 0 where
  pub shape : Shaped bytes
  pub spare : spare_set bytes ≡ false
  pub no_stray : any_place (stray (blocks bytes)) (blocks bytes) ≡ false
  pub two_sided : any_place (one_sided (blocks bytes)) (blocks bytes) ≡ false

pub checked : {bytes : List ℕ} → Accepted bytes → Checked bytes
unfolding check_rules layout_rules place_rules
checked {bytes} accepted =
    let (l, r) = both_kept (layout_numbered bytes) _ accepted.unbroken in
    let (e, s) = both_kept (order_numbered bytes) _ l in
    let (e₅, _) = rule_kept 4 _ _ s in
    let (e₆, r₆) = rule_kept 5 _ _ r in
    let (e₈, _) = rule_kept 7 _ _ r₆ in
    record { shape = shaped bytes e; spare = e₅; no_stray = e₆; two_sided = e₈ }
