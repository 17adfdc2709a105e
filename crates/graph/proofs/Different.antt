-- How many different numbers stand in a list.
--   different_names   of the names of the numbers below n, where each group is named by one of its members: as many as
--                     numbers that name themselves
--   different_map     of the values of a function that keeps numbers apart: as many as in the list itself
use Rattle.std.specs.Prelude.{ℕ, ◌+◌, ◌<◌, min, ◌≡◌, eqb}
use Rattle.std.proofs.Math.Path.{refl, ap}
use Rattle.std.proofs.Common.{sym, ◌∙◌, arith, eq-eqb, ne_eqb}
use mathlib.Core.List.{List, [], ◌∷◌, map}
use Rattle.std.proofs.Math.Decide.{ℕ_discrete}
use Rattle.graph.specs.Graph.{mentions, position}
use Rattle.graph.specs.Search.{count_up}
use Rattle.graph.specs.Counts.{when, sum, different}
use Rattle.graph.specs.Laws.Places.CountUp.{length_each, each_is}
use Rattle.graph.specs.Laws.Places.Mentions.{mentions_nil, mentions_hit, mentions_miss, mention_at, mention_found}
use Rattle.graph.specs.Laws.Counts.Sums.{when_yes, when_no, sum_same, sum_zero, sum_add, sum_one}
use Rattle.graph.specs.Laws.Counts.Names.{Names, named}

-- ---- as many as the list mentions

-- 1 where the list mentions x, else 0
abbrev seen : List ℕ → ℕ → ℕ
seen l x = min 1 (mentions x l)

-- a number more in front: it is mentioned now, and the others are as before
seen_cons : (x : ℕ) (l : List ℕ) (y : ℕ)
    → seen (x ∷ l) y ≡ when (eqb y x) (when (eqb (mentions x l) 0) 1) + seen l y
seen_cons x l y = go (ℕ_discrete y x) (ℕ_discrete (mentions x l) 0)
  where
    go : Dec (y ≡ x) → Dec (mentions x l ≡ 0)
        → seen (x ∷ l) y ≡ when (eqb y x) (when (eqb (mentions x l) 0) 1) + seen l y
    go (yes e) (yes z) = rw (eq-eqb y x e, eq-eqb _ 0 z) (omega (arith, mentions_hit l e, ap (λ v. mentions v l) e))
    go (yes e) (no n) = rw (eq-eqb y x e, ne_eqb _ 0 n) (omega (arith, mentions_hit l e, ap (λ v. mentions v l) e))
    go (no d) z = rw (ne_eqb y x d) (omega (arith, mentions_miss l d))

different_sum : (n : ℕ) (l : List ℕ) → ((x : ℕ) → 0 < mentions x l → x < n) → different l ≡ sum n (seen l)
unfolding different
different_sum n [] h = sym (sum_zero n (λ x k. omega (arith, mentions_nil x)))
different_sum n (x ∷ l) h =
    let new : ℕ = when (eqb (mentions x l) 0) 1 in
    let inside : x < n = h x (omega (arith, mentions_hit l (refl {a = x}))) in
    let a = different_sum n l (λ y k. h y (omega (arith, seen_cons x l y))) in
    let b = sum_same n (λ y k. seen_cons x l y) in
    let c = sum_add n (λ y. when (eqb y x) new) (seen l) in
    let d = sum_one n x inside (λ y k n. when_no new (ne_eqb y x n)) in
    let e = when_yes new (eq-eqb x x refl) in
    omega arith

-- ---- names

module _ {n : ℕ} {f : ℕ → ℕ} (na : Names n f) where
  abbrev names : List ℕ
  names = map f (count_up 0 n)

  -- a name that is mentioned is below n, and names itself
  mentioned : (x : ℕ) → 0 < mentions x names → (x < n) × (f x ≡ x)
  mentioned x h =
      let m = mention_at x names 0 h in
      let v : ℕ = position x names 0 in
      let l : v < n = omega (arith, m.inside, length_each f 0 n) in
      let e : f v ≡ x = sym (each_is f 0 n v l) ∙ m.there in
      (omega (arith, na.inside v l, e), ap f (sym e) ∙ (na.settled v l ∙ e))

  -- and one that names itself is mentioned
  self_mentioned : (x : ℕ) → x < n → f x ≡ x → 0 < mentions x names
  self_mentioned x h e =
      omega (arith, (mention_found x names x (omega (arith, length_each f 0 n)) (each_is f 0 n x h ∙ e)).counted)

  pub different_names : different (map f (count_up 0 n)) ≡ named n f
  unfolding named
  different_names =
      different_sum n names (λ x h. (mentioned x h).0)
      ∙ sum_same n (λ x h. one x h (ℕ_discrete (f x) x))
    where
      one : (x : ℕ) → x < n → Dec (f x ≡ x) → seen names x ≡ when (eqb (f x) x) 1
      one x h (yes e) = rw (eq-eqb (f x) x e) (omega (arith, self_mentioned x h e))
      one x h (no d) =
          let z : (0 < mentions x names) → ⊥ = λ m. d (mentioned x m).1 in
          rw (ne_eqb (f x) x d) (omega arith)

-- ---- the values of a function that keeps numbers apart

module _ {f : ℕ → ℕ} (apart : (x y : ℕ) → f x ≡ f y → x ≡ y) where
  mentions_map : (x : ℕ) (l : List ℕ) → mentions (f x) (map f l) ≡ mentions x l
  mentions_map x [] = mentions_nil (f x) ∙ sym (mentions_nil x)
  mentions_map x (y ∷ l) = go (ℕ_discrete x y) (mentions_map x l)
    where
      go : Dec (x ≡ y) → mentions (f x) (map f l) ≡ mentions x l → mentions (f x) (map f (y ∷ l)) ≡ mentions x (y ∷ l)
      go (yes e) h = omega (arith, h, mentions_hit (map f l) (ap f e), mentions_hit l e)
      go (no d) h = omega (arith, h, mentions_miss (map f l) (λ e. d (apart x y e)), mentions_miss l d)

  pub different_map : (l : List ℕ) → different (map f l) ≡ different l
  unfolding different
  different_map [] = refl
  different_map (x ∷ l) =
      omega (arith, ap (λ (k : ℕ). when (eqb k 0) 1) (mentions_map x l), different_map l)
