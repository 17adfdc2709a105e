-- What is known once order R and rule 10 are kept, and once order Q is.
use Rattle.std.specs.Prelude.{◌≡◌, true, false, not, ℕ, ◌-◌, ◌<◌, eqb, length}
use Rattle.std.proofs.Common.{sym, ap₂, ◌∙◌, arith, eq-eqb, eqb-true}
use Rattle.std.proofs.Math.Path.{ap}
use mathlib.Core.List.{List, [], ◌∷◌}
use Rattle.std.proofs.lemmas.Bool.{not-false}
use Rattle.record.specs.Record.{terminals, wires}
use Rattle.record.specs.Rules.{first_broken, order_r}
use Rattle.record.specs.Answers.{answered, tried}
use Rattle.record.specs.Sized.{Sizes, sizes_of}
use Rattle.record.specs.Operations.{other_length, out_of_range}
use Rattle.record.specs.Laws.First.{Numbered, none, rule, first_broken_lem, first_kept, rule_kept, append_kept}
use Rattle.record.specs.Laws.First.{both_kept, order_numbered}
use Rattle.record.specs.Laws.Range.{inside_range, range_inside}
use Rattle.record.specs.Laws.Sounded.{sound_of}
use Rattle.record.specs.Laws.Told.{untold_back}
use Rattle.forest.specs.Index.{index_length}
use Rattle.queries.specs.Operations.{beside_rules, order_q}
use Rattle.queries.specs.Steps.{Beside, Ranged}

-- ---- order R and rule 10

pub beside_numbered : (bytes index : List ℕ) → Numbered (beside_rules bytes index)
unfolding beside_rules order_r
beside_numbered bytes index = rule (rule (rule (rule (rule none))))

pub same_length : (l : List ℕ) (k : ℕ) → other_length l k ≡ false → length l ≡ k
unfolding other_length
same_length l k e = eqb-true (length l) k (not-false (eqb (length l) k) e)

-- n and m are the record's
pub beside_of : (bytes index : List ℕ) {n m : ℕ} → first_broken (beside_rules bytes index) ≡ 0 → n ≡ terminals bytes
    → m ≡ wires bytes → Beside bytes index n m
unfolding beside_rules
beside_of bytes index k en em =
    let (r, more) = both_kept (order_numbered bytes) _ k in
    let (x, _) = rule_kept 9 (other_length index (index_length (terminals bytes) (wires bytes))) [] more in
    let o = sound_of bytes r en em in
    record {
      sound = o;
      framed = record {
        n_fits = o.n_fits;
        m_fits = o.m_fits;
        sized = same_length index (index_length (terminals bytes) (wires bytes)) x ∙ sym (ap₂ index_length en em);
      };
    }

-- by the sizes that are handed on
pub beside_told : (bytes index : List ℕ) {s : Sizes} → answered s ≡ tried (beside_rules bytes index) (sizes_of bytes)
    → Beside bytes index s.n s.m
beside_told bytes index e =
    let (k, q) = untold_back (first_broken (beside_rules bytes index)) (sizes_of bytes) e in
    beside_of bytes index k (ap (λ (z : Sizes). z.n) q) (ap (λ (z : Sizes). z.m) q)

-- and back
pub beside_unbroken : {bytes index : List ℕ} {n m : ℕ} → Beside bytes index n m
    → first_broken (beside_rules bytes index) ≡ 0
unfolding beside_rules other_length first_broken
beside_unbroken {bytes} {index} b =
    let size : ℕ = index_length (terminals bytes) (wires bytes) in
    let l : length index ≡ size = b.framed.sized ∙ ap₂ index_length b.sound.is_n b.sound.is_m in
    append_kept (order_numbered bytes) ((10, other_length index size) ∷ []) b.sound.kept
    ∙ first_kept 10 [] (ap not (eq-eqb (length index) size l))

-- ---- order Q

pub order_numbered_q : (bytes index : List ℕ) (v : ℕ) → Numbered (order_q bytes index v)
unfolding order_q beside_rules order_r
order_numbered_q bytes index v = rule (rule (rule (rule (rule (rule none)))))

-- it is kept for v, and n and m are the record's
pub record Asked (bytes index : List ℕ) (v n m : ℕ) : Type 0 where
  pub kept : first_broken (order_q bytes index v) ≡ 0
  pub beside : Beside bytes index n m
  pub ranged : Ranged n v

pub asked : (bytes index : List ℕ) (v : ℕ) {s : Sizes} → answered s ≡ tried (order_q bytes index v) (sizes_of bytes)
    → Asked bytes index v s.n s.m
unfolding order_q
asked bytes index v {s} e =
    let (k, q) = untold_back (first_broken (order_q bytes index v)) (sizes_of bytes) e in
    let (r, last) = both_kept (beside_numbered bytes index) _ k in
    let (y, _) = rule_kept 10 (out_of_range (terminals bytes) v) [] last in
    let en : s.n ≡ terminals bytes = ap (λ (z : Sizes). z.n) q in
    let em : s.m ≡ wires bytes = ap (λ (z : Sizes). z.m) q in
    let (a, b) = range_inside (terminals bytes) v y in
    record {
      kept = k;
      beside = beside_of bytes index r en em;
      ranged = record { some = a; upto = omega arith };
    }

-- for a number in range, and for one that is not, once order R and rule 10 are kept
module _ {bytes index : List ℕ} {n m : ℕ} (b : Beside bytes index n m) (v : ℕ) where
  pub order_told : first_broken (order_q bytes index v) ≡ first_broken ((11, out_of_range n v) ∷ [])
  unfolding order_q
  order_told =
      append_kept (beside_numbered bytes index) ((11, out_of_range (terminals bytes) v) ∷ []) (beside_unbroken b)
      ∙ ap (λ (k : ℕ). first_broken ((11, out_of_range k v) ∷ [])) (sym b.sound.is_n)

  pub asked_inside : Ranged n v → Asked bytes index v n m
  unfolding first_broken
  asked_inside r = record {
    kept = order_told ∙ first_kept 11 [] (inside_range n v r.some r.upto);
    beside = b;
    ranged = r;
  }

  pub asked_outside : out_of_range n v ≡ true → first_broken (order_q bytes index v) ≡ 11
  asked_outside o = order_told ∙ first_broken_lem 11 [] o

-- the vertex of a terminal
pub vertex_in : {n k : ℕ} → Ranged n k → k - 1 < n
vertex_in r = omega (arith, r.some, r.upto)
