-- Functions that name each group of numbers by one of its members: the same groups are as many, whoever names them.
use Rattle.std.specs.Prelude.{ℕ, ◌<◌, ◌≡◌, refl, ◌↔◌, true, ◌&&◌, eqb}
use Rattle.std.proofs.Common.{sym, ◌∙◌, ap, eqb-true, eq-eqb, ne_eqb}
use Rattle.std.proofs.Math.Bool.{and_comm}
use Rattle.std.proofs.Math.Decide.{ℕ_discrete}
use Rattle.graph.specs.Counts.{when, sum}
use Rattle.graph.specs.Laws.Places.Basics.{fails, and_parts}
use Rattle.graph.specs.Laws.Counts.Sums.{when_no, sum_same, sum_zero, sum_one, sum_swap}

-- below n, f names a number that it leaves as it is
pub record Names (n : ℕ) (f : ℕ → ℕ) : Type 0 where
  pub inside : (v : ℕ) → v < n → f v < n
  pub settled : (v : ℕ) → v < n → f (f v) ≡ f v

unfoldable pub named : ℕ → (ℕ → ℕ) → ℕ  -- how many numbers below n name themselves
named n f = sum n (λ x. when (eqb (f x) x) 1)

-- 1 where f names y by x, and h names x by y
both : (ℕ → ℕ) → (ℕ → ℕ) → ℕ → ℕ → ℕ
both f h x y = when (eqb (f y) x && eqb (h x) y) 1

both_turned : (f h : ℕ → ℕ) (x y : ℕ) → both f h x y ≡ both h f y x
unfolding both
both_turned f h x y = ap (λ b. when b 1) (and_comm (eqb (f y) x) (eqb (h x) y))

-- one y for each x that names itself
both_row : {n : ℕ} (f h : ℕ → ℕ) → Names n f → Names n h
    → ((u v : ℕ) → u < n → v < n → h u ≡ h v → f u ≡ f v) → (x : ℕ) → x < n
    → sum n (both f h x) ≡ when (eqb (f x) x) 1
unfolding both
both_row {n} f h nf nh to x l = go (ℕ_discrete (f x) x)
  where
    parts : (y : ℕ) → (eqb (f y) x && eqb (h x) y) ≡ true → (f y ≡ x) × (h x ≡ y)
    parts y t =
        let (p, q) = and_parts (eqb (f y) x) (eqb (h x) y) t in
        (eqb-true (f y) x p, eqb-true (h x) y q)

    none : (y : ℕ) → ((f y ≡ x) × (h x ≡ y) → ⊥) → both f h x y ≡ 0
    none y d = when_no 1 (fails (eqb (f y) x && eqb (h x) y) (λ t. d (parts y t)))

    go : Dec (f x ≡ x) → sum n (both f h x) ≡ when (eqb (f x) x) 1
    go (yes e) =
        let q : f (h x) ≡ x = to (h x) x (nh.inside x l) l (nh.settled x l) ∙ e in
        sum_one n (h x) (nh.inside x l) (λ y c d. none y (λ t. d (sym t.1)))
        ∙ rw (eq-eqb (f (h x)) x q, eq-eqb (h x) (h x) refl, eq-eqb (f x) x e)
    go (no d) =
        sum_zero n (λ y c. none y (λ t. d (ap f (sym t.0) ∙ (nf.settled y c ∙ t.0))))
        ∙ sym (when_no 1 (ne_eqb (f x) x d))

pub same_number : {n : ℕ} {f h : ℕ → ℕ} → Names n f → Names n h
    → ((u v : ℕ) → u < n → v < n → (f u ≡ f v) ↔ (h u ≡ h v)) → named n f ≡ named n h
unfolding named
same_number {n} {f} {h} nf nh told =
    sum_same n (λ x l. sym (both_row f h nf nh (λ u v a b. (told u v a b).1) x l))
    ∙ (sum_swap n n (both f h)
    ∙ sum_same n (λ y l. sum_same n (λ x c. both_turned f h x y)
    ∙ both_row h f nh nf (λ u v a b. (told u v a b).0) y l))
