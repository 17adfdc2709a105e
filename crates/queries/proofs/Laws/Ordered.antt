-- Order R, rule 10 and order Q: which rule is the first broken one, by what the code tests in turn.
use mathlib.Core.Path.{◌≡◌, sym, ap, ap₂, subst, ◌∙◌}
use mathlib.Core.Bool.{Bool, true, false, not}
use mathlib.Core.List.{List, [], ◌∷◌}
use Prim.Native.Nat.{ℕ}
use borrow.Author.Tests.{ne_eqb}
use lib.ListN.{length}
use Rattle.record.specs.Record.{terminals, wires}
use Rattle.record.specs.Rules.{Rule, first_broken, order_r}
use Rattle.record.specs.Answers.{refused, answered, tried}
use Rattle.record.specs.Operations.{other_length, out_of_range}
use Rattle.record.specs.declared.layout.Layout.{Layout}
use Rattle.record.specs.Laws.First.{first_broken_lem, first_kept, append_kept, order_numbered}
use Rattle.record.specs.Laws.Told.{told, untold, untold_back, told_append}
use Rattle.forest.specs.Index.{index_length}
use Rattle.queries.specs.Operations.{beside_rules, order_q}
use Rattle.queries.specs.Steps.{Framed}
use Rattle.queries.specs.declared.indexed.Indexed.{Indexed}
use Rattle.queries.specs.Laws.Asked.{beside_unbroken, order_told}
use Rattle.queries.proofs.Laws.Climbing.{beside}

-- the bytes that are read
abbrev both : List ℕ → List ℕ → List ℕ × List ℕ
both bytes index = (bytes, index)

-- ---- rule 10

abbrev tenth : List ℕ → List ℕ → List Rule
tenth bytes index = (10, other_length index (index_length (terminals bytes) (wires bytes))) ∷ []

pub record_refused : {A : Type 0} (bytes index : List ℕ) (a : A) {k : ℕ} → refused k ≡ tried (order_r bytes) a
    → refused k ≡ tried (beside_rules bytes index) (both bytes index)
unfolding beside_rules
record_refused bytes index a e = told_append (order_r bytes) (tenth bytes index) a (both bytes index) e

-- order R lets l pass, and x is the length that the index must have
module _ (bytes index : List ℕ) (l : Layout) (same : l.bytes.now ≡ bytes) {x : ℕ} (e : x ≡ index_length l.n l.m) where
  right : x ≡ index_length (terminals l.bytes.now) (wires l.bytes.now)
  right = e ∙ ap₂ index_length l.sound.is_n l.sound.is_m

  pub index_misfit : (length index ≡ x → ⊥) → refused 10 ≡ tried (beside_rules bytes index) (both bytes index)
  unfolding beside_rules other_length
  index_misfit h =
      let b = l.bytes.now in
      let size : ℕ = index_length (terminals b) (wires b) in
      let other = ne_eqb (length index) size (λ z. h (z ∙ sym right)) in
      subst (λ (b : List ℕ). refused 10 ≡ tried (beside_rules b index) (both b index)) same
      (told (both b index)
      (append_kept (order_numbered b) (tenth b index) l.sound.kept ∙ first_broken_lem 10 [] (ap not other)))

  pub index_fits : length index ≡ x
      → answered (both l.bytes.now index) ≡ tried (beside_rules bytes index) (both bytes index)
  index_fits h =
      let o = l.sound in
      let f : Framed index l.n l.m = record { n_fits = o.n_fits; m_fits = o.m_fits; sized = h ∙ e } in
      subst (λ (b : List ℕ). answered (both l.bytes.now index) ≡ tried (beside_rules b index) (both b index)) same
      (untold (both l.bytes.now index) (beside_unbroken (record { sound = o; framed = f })))

-- ---- rule 11

abbrev eleventh : List ℕ → ℕ → List Rule
eleventh bytes k = (11, out_of_range (terminals bytes) k) ∷ []

pub beside_refused : (bytes index : List ℕ) (k : ℕ) {q : ℕ}
    → refused q ≡ tried (beside_rules bytes index) (both bytes index)
    → refused q ≡ tried (order_q bytes index k) (both bytes index)
unfolding order_q
beside_refused bytes index k e =
    told_append (beside_rules bytes index) (eleventh bytes k) (both bytes index) (both bytes index) e

-- order R and rule 10 let i pass, and t is the test of the number
module _ (bytes index : List ℕ) (k : ℕ) (i : Indexed)
    (w : answered (both i.layout.bytes.now i.index.now) ≡ tried (beside_rules bytes index) (both bytes index))
    {t : Bool} (e : t ≡ out_of_range i.layout.n k) where
  abbrev its : List ℕ × List ℕ
  its = both i.layout.bytes.now i.index.now

  same : its ≡ both bytes index
  same = (untold_back (first_broken (beside_rules bytes index)) (both bytes index) w).1

  last_told : first_broken (order_q i.layout.bytes.now i.index.now k) ≡ first_broken ((11, t) ∷ [])
  last_told = order_told (beside i) k ∙ ap (λ (b : Bool). first_broken ((11, b) ∷ [])) (sym e)

  pub number_outside : t ≡ true → refused 11 ≡ tried (order_q bytes index k) (both bytes index)
  number_outside o =
      subst (λ (p : List ℕ × List ℕ). refused 11 ≡ tried (order_q p.0 p.1 k) p) same
      (told its (last_told ∙ first_broken_lem 11 [] o))

  pub order_passed : t ≡ false → answered its ≡ tried (order_q bytes index k) (both bytes index)
  unfolding first_broken
  order_passed o =
      subst (λ (p : List ℕ × List ℕ). answered its ≡ tried (order_q p.0 p.1 k) p) same
      (untold its (last_told ∙ first_kept 11 [] o))
