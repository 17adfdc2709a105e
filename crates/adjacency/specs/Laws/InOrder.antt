-- A list that is filled from the front: its first i numbers are those of the list that it is to become.
use Rattle.std.specs.Prelude.{◌≡◌, refl, List, [], ◌∷◌, ◌++◌, ℕ, ◌+◌, ◌≤◌, ◌<◌, length, take, get_or, set}
use Rattle.std.proofs.Common.{sym, ap₂, ◌∙◌, add-one, arith, length-set, take-suc, take-suc-set, take_all}

pub record InOrder (goal list : List ℕ) (i : ℕ) : Type 0 where
  pub upto : i ≤ length goal
  pub size : length list ≡ length goal
  pub same : take i list ≡ take i goal

pub order_start : (goal list : List ℕ) → length list ≡ length goal → InOrder goal list 0
order_start goal list e = record { upto = omega arith; size = e; same = refl }

module _ {goal list : List ℕ} {i : ℕ} (o : InOrder goal list i) where
  pub order_more : {next : List ℕ} (v : ℕ) → next ≡ set list i v → v ≡ get_or goal i 0 → i < length goal
      → InOrder goal next (i + 1)
  order_more v e g h =
      let s = o.size in
      rw e (record {
        upto = omega arith;
        size = length-set list i v ∙ s;
        same =
            rw (add-one i)
            (take-suc-set list i v (omega arith) ∙ ap₂ (λ (l : List ℕ) (x : ℕ). l ++ (x ∷ [])) o.same g
            ∙ sym (take-suc goal i 0 h));
      })

  pub order_end : length goal ≤ i → list ≡ goal
  order_end h = let s = o.size in sym (take_all i list (omega arith)) ∙ o.same ∙ take_all i goal h
