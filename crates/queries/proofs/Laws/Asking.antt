-- From order Q to a query's answer.
--   query_refused    what order Q refuses is the query's refusal
--   query_ranged     what it hands on is in range
--   query_answered   and the query answers what the view gives
--   then_append      rules, and then more of them
--   second_outside, second_inside    rule 11 for Ancestor's second terminal
--   ranged_by        a number that the code finds in range
use mathlib.Core.Path.{◌≡◌, refl, sym, ap, ap₂, ◌∙◌}
use mathlib.Core.Bool.{Bool, true, false}
use mathlib.Core.List.{List, [], ◌∷◌, ◌++◌}
use Prim.Native.Nat.{ℕ, zero, suc, ◌-◌}
use native.Mathlib.Omega.{arith}
use Rattle.record.specs.Record.{terminals}
use Rattle.record.specs.Rules.{Rule, first_broken}
use Rattle.record.specs.Answers.{Answer, refused, answered, tried, tried_then, otherwise}
use Rattle.record.specs.Sized.{sizes_of}
use Rattle.record.specs.Operations.{out_of_range}
use Rattle.record.specs.Laws.First.{Numbered, first_broken_lem, first_kept, append_kept, append_broken}
use Rattle.record.specs.Laws.Range.{range_inside}
use Rattle.record.specs.Laws.Told.{told_back, untold, untold_back, then_told, then_untold}
use Rattle.queries.specs.View.{View, view_by, view_of}
use Rattle.queries.specs.Operations.{order_q, ancestor_rules, ancestor}
use Rattle.queries.specs.Queries.{ancestor_of}
use Rattle.queries.specs.Seen.{seen}
use Rattle.queries.specs.Steps.{Ranged}
use Rattle.queries.specs.declared.indexed.Indexed.{Indexed}
use Rattle.queries.specs.Laws.Asked.{Asked, asked, order_numbered_q}

-- rules that are numbered from 1, and then more of them
pub then_append : {A : Type 0} {first : List Rule} → Numbered first → (more : List Rule) (a : Answer A)
    → tried_then (first ++ more) a ≡ tried_then first (tried_then more a)
unfolding otherwise
then_append {first = first} n more a = go (first_broken first) refl
  where
    go : (k : ℕ) → first_broken first ≡ k → tried_then (first ++ more) a ≡ otherwise k (tried_then more a)
    go zero e = ap (λ (k : ℕ). otherwise k a) (append_kept n more e)
    go (suc k) e = ap (λ (k : ℕ). otherwise k a) (append_broken first more k e)

-- the same view
module _ {A : Type 0} {bytes index : List ℕ} {v n m : ℕ} (q : Asked bytes index v n m) (f : View → Answer A) where
  pub passed_on : {a : Answer A} → a ≡ f (view_by n m bytes index)
      → a ≡ tried_then (order_q bytes index v) (f (view_of bytes index))
  passed_on e =
      e ∙ ap₂ (λ (x y : ℕ). f (view_by x y bytes index)) q.beside.sound.is_n q.beside.sound.is_m
      ∙ then_untold (order_q bytes index v) (f (view_of bytes index)) q.kept

-- order Q as the code tries it
module _ (bytes index : List ℕ) (k : ℕ) where
  -- the bytes that are read
  abbrev both : List ℕ × List ℕ
  both = (bytes, index)

  abbrev its : Indexed → List ℕ × List ℕ
  its i = (i.layout.bytes.now, i.index.now)

  pub query_refused : {A : Type 0} (a : Answer A) {q : ℕ} → refused q ≡ tried (order_q bytes index k) both
      → refused q ≡ tried_then (order_q bytes index k) a
  query_refused a e =
      let (j, f, g) = told_back (first_broken (order_q bytes index k)) both e in
      rw g (then_told (order_q bytes index k) a f)

  -- i is what it hands on
  module _ (i : Indexed) (e : answered (its i) ≡ tried (order_q bytes index k) both) where
    kept : first_broken (order_q bytes index k) ≡ 0
    kept = (untold_back (first_broken (order_q bytes index k)) both e).0

    same : its i ≡ both
    same = (untold_back (first_broken (order_q bytes index k)) both e).1

    is_n : i.layout.n ≡ terminals bytes
    is_n = i.layout.sound.is_n ∙ ap (λ (p : List ℕ × List ℕ). terminals p.0) same

    pub query_ranged : Ranged i.layout.n k
    query_ranged =
        let r = (asked bytes index k (untold (sizes_of bytes) kept)).ranged in
        record { some = r.some; upto = omega (arith, r.upto, is_n) }

    seen_is : seen i ≡ view_of bytes index
    seen_is =
        ap₂ (λ (x y : ℕ). view_by x y i.layout.bytes.now i.index.now) i.layout.sound.is_n i.layout.sound.is_m
        ∙ ap (λ (p : List ℕ × List ℕ). view_of p.0 p.1) same

    pub query_answered : {A : Type 0} (question : View → Answer A) {a : Answer A} → a ≡ question (seen i)
        → a ≡ tried_then (order_q bytes index k) (question (view_of bytes index))
    query_answered question q =
        q ∙ ap question seen_is ∙ then_untold (order_q bytes index k) (question (view_of bytes index)) kept

-- a second terminal v, of Ancestor, once order Q is kept for u
module _ (bytes index : List ℕ) (u v : ℕ) (i : Indexed)
    (e : answered (its bytes index u i) ≡ tried (order_q bytes index u) (both bytes index u)) {b : Bool}
    (t : out_of_range i.layout.n v ≡ b) where
  abbrev last : List Rule
  last = (11, out_of_range (terminals bytes) v) ∷ []

  tested : out_of_range (terminals bytes) v ≡ b
  tested = sym (ap (λ (k : ℕ). out_of_range k v) (is_n bytes index u i e)) ∙ t

  answers : {a : Answer Bool} → a ≡ tried_then last (ancestor_of (seen i) (u - 1) (v - 1))
      → a ≡ ancestor bytes index u v
  unfolding ancestor ancestor_rules
  answers a =
      query_answered bytes index u i e (λ (w : View). tried_then last (ancestor_of w (u - 1) (v - 1))) a
      ∙ sym (then_append (order_numbered_q bytes index u) last (ancestor_of (view_of bytes index) (u - 1) (v - 1)))

  pub second_outside : b ≡ true → refused 11 ≡ ancestor bytes index u v
  second_outside o = answers (then_told last _ (first_broken_lem 11 [] (tested ∙ o)))

  pub second_inside : b ≡ false → {a : Answer Bool} → a ≡ ancestor_of (seen i) (u - 1) (v - 1)
      → a ≡ ancestor bytes index u v
  unfolding first_broken
  second_inside o a = answers (a ∙ then_untold last _ (first_kept 11 [] (tested ∙ o)))

-- a number that the code finds in range
pub ranged_by : {n k : ℕ} {t : Bool} → t ≡ out_of_range n k → t ≡ false → Ranged n k
ranged_by {n} {k} e f = let (a, b) = range_inside n k (sym e ∙ f) in record { some = a; upto = b }
