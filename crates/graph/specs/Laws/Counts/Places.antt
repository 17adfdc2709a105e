-- Sums over the places of a graph.
--   at, at_yes, at_no                          one place alone
--   over_same, over_zero, over_add, over_one   as over the numbers below n
--   over_pair, over_twin                       the sum over the places is the sum over their pairs
--   over_cons, over_places                     one more vertex in front; as many terms as places
--   marked_length                              the neighbours at the marked positions of a block
use Prim.Native.Nat.{ℕ, zero, suc, ◌+◌, ◌<◌}
use Rattle.std.specs.Prelude.{◌≡◌, refl, Bool, true, false, ◌&&◌, eqb, length}
use Rattle.std.proofs.Common.{sym, ◌∙◌, ap, length-append, eq-eqb, ne_eqb}
use mathlib.Core.List.{List, [], ◌∷◌, flatten}
use native.Mathlib.Omega.{arith}
use Rattle.std.proofs.Math.Decide.{ℕ_discrete}
use Rattle.graph.specs.Graph.{Blocks, block, target, Place, pair, twin, WellFormed}
use Rattle.graph.specs.Counts.{when, sum, over}
use Rattle.graph.specs.Laws.Places.Basics.{Told, pass, fail, told}
use Rattle.graph.specs.Laws.Places.Pairing.{Balanced, balanced_sym, source, place_at, pair_place, pair_pair}
use Rattle.graph.specs.Laws.Places.Pairing.{both_ends}
use Rattle.graph.specs.Laws.Edges.Children.{marked}
use Rattle.graph.specs.Laws.Counts.Sums.{sum_same, sum_zero, sum_ones, sum_add, sum_one, sum_first}

-- ---- the place (a, b) alone

-- the place (u, j) is (a, b)
abbrev pub at : ℕ → ℕ → ℕ → ℕ → Bool
at a b u j = eqb u a && eqb j b

pub at_yes : {a b u j : ℕ} (x : ℕ) → u ≡ a → j ≡ b → when (at a b u j) x ≡ x
at_yes x p q = rw (eq-eqb _ _ p, eq-eqb _ _ q)

pub at_no : {a b u j : ℕ} (x : ℕ) → ((u ≡ a) × (j ≡ b) → ⊥) → when (at a b u j) x ≡ 0
at_no {a} {b} {u} {j} x h = go (ℕ_discrete u a) (ℕ_discrete j b)
  where
    go : Dec (u ≡ a) → Dec (j ≡ b) → when (at a b u j) x ≡ 0
    go (yes p) (yes q) = absurd (h (p, q))
    go (yes p) (no q) = rw (eq-eqb _ _ p, ne_eqb _ _ q)
    go (no p) d = rw (ne_eqb _ _ p)

-- ---- sums over the places

module _ (g : Blocks) where
  -- equal terms
  pub over_same : {f h : ℕ → ℕ → ℕ} → ((u j : ℕ) → u < length g → j < length (block g u) → f u j ≡ h u j)
      → over g f ≡ over g h
  unfolding over
  over_same e = sum_same (length g) (λ u l. sum_same (length (block g u)) (λ j k. e u j l k))

  -- terms of 0
  pub over_zero : {f : ℕ → ℕ → ℕ} → ((u j : ℕ) → u < length g → j < length (block g u) → f u j ≡ 0) → over g f ≡ 0
  unfolding over
  over_zero e = sum_zero (length g) (λ u l. sum_zero (length (block g u)) (λ j k. e u j l k))

  -- a sum of two
  pub over_add : (f h : ℕ → ℕ → ℕ) → over g (λ u j. f u j + h u j) ≡ over g f + over g h
  unfolding over
  over_add f h =
      sum_same (length g) (λ u l. sum_add (length (block g u)) (f u) (h u))
      ∙ sum_add (length g) (λ u. sum (length (block g u)) (f u)) (λ u. sum (length (block g u)) (h u))

  -- one term only
  pub over_one : {f : ℕ → ℕ → ℕ} (a b : ℕ) → a < length g → b < length (block g a)
      → ((u j : ℕ) → u < length g → j < length (block g u) → ((u ≡ a) × (j ≡ b) → ⊥) → f u j ≡ 0)
      → over g f ≡ f a b
  unfolding over
  over_one a b la lb e =
      sum_one (length g) a la (λ u l n. sum_zero (length (block g u)) (λ j k. e u j l k (λ p. n p.0)))
      ∙ sum_one (length (block g a)) b lb (λ j k n. e a j la k (λ p. n p.1))

  -- two sums in either order
  over_sum : (n : ℕ) (K : ℕ → ℕ → ℕ → ℕ) → over g (λ u j. sum n (K u j)) ≡ sum n (λ x. over g (λ u j. K u j x))
  unfolding sum
  over_sum zero K = over_zero (λ u j l k. refl)
  over_sum (suc n) K =
      let a = over_add (λ u j. sum n (K u j)) (λ u j. K u j n) in
      let b = over_sum n K in
      omega arith

over_swap : (g h : Blocks) (K : ℕ → ℕ → ℕ → ℕ → ℕ)
    → over h (λ u j. over g (λ a b. K u j a b)) ≡ over g (λ a b. over h (λ u j. K u j a b))
unfolding over
over_swap g h K =
    over_sum h (length g) (λ u j a. sum (length (block g a)) (K u j a))
    ∙ sum_same (length g) (λ a l. over_sum h (length (block g a)) (λ u j b. K u j a b))

-- ---- the two places of a wire, or of an arc

-- the sum over the places of one side is the sum over their pairs on the other
pub over_pair : {g h : Blocks} → Balanced g h → (f : ℕ → ℕ → ℕ)
    → over h f ≡ over g (λ u j. f (target g u j) (pair g h u j))
over_pair {g} {h} bal f =
    over_same h (λ u j l k. sym (mine u j k))
    ∙ (over_swap g h K ∙ over_same g (λ a b l k. theirs a b k))
  where
    K : ℕ → ℕ → ℕ → ℕ → ℕ
    K u j a b = when (at (target g a b) (pair g h a b) u j) (f u j)

    back : {u j a b : ℕ} → b < length (block g a) → u ≡ target g a b → j ≡ pair g h a b
        → (a ≡ target h u j) × (b ≡ pair h g u j)
    back k e₁ e₂ =
        let x = (pair_place bal (place_at k)).leads in
        let y = pair_pair bal (place_at k) in
        (sym (cc), sym (cc))

    mine : (u j : ℕ) → j < length (block h u) → over g (λ a b. K u j a b) ≡ f u j
    mine u j k =
        let p : Place h u j (target h u j) = place_at k in
        let q = pair_place (balanced_sym bal) p in
        over_one g (target h u j) (pair h g u j) (source q) q.fits
        (λ a b la kb n. at_no (f u j) (λ e. n (back kb e.0 e.1)))
        ∙ at_yes (f u j) (sym q.leads) (sym (pair_pair (balanced_sym bal) p))

    theirs : (a b : ℕ) → b < length (block g a) → over h (λ u j. K u j a b) ≡ f (target g a b) (pair g h a b)
    theirs a b k =
        let q = pair_place bal (place_at k) in
        over_one h (target g a b) (pair g h a b) (source q) q.fits (λ u j lu kj n. at_no (f u j) n)
        ∙ at_yes {a = target g a b} {b = pair g h a b} (f (target g a b) (pair g h a b)) refl refl

-- the sum over the places is the sum over their twins
pub over_twin : {g : Blocks} → WellFormed g → (f : ℕ → ℕ → ℕ)
    → over g f ≡ over g (λ u j. f (target g u j) (twin g u j))
over_twin wf = over_pair (both_ends wf)

-- ---- how many places there are

-- of a graph with one more vertex in front
pub over_cons : (l : List ℕ) (g : Blocks) (f : ℕ → ℕ → ℕ)
    → over (l ∷ g) f ≡ sum (length l) (f 0) + over g (λ u j. f (suc u) j)
unfolding over
over_cons l g f = sum_first (length g) (λ u. sum (length (block (l ∷ g) u)) (f u))

-- as many terms as places
pub over_places : (g : Blocks) → over g (λ u j. 1) ≡ length (flatten g)
unfolding flatten
over_places [] = over_zero [] (λ u j l k. absurd (omega arith))
over_places (l ∷ g) =
    let a = over_cons l g (λ u j. 1) in
    let b = over_places g in
    let c = length-append l (flatten g) in
    let d = sum_ones (length l) in
    omega arith

-- ---- the neighbours at the marked positions of a block

marked_next : (f : ℕ → Bool) (i : ℕ) (l : List ℕ) → marked f (suc i) l ≡ marked (λ j. f (suc j)) i l
unfolding marked
marked_next f i [] = refl
marked_next f i (v ∷ l) =
    ap (λ (r : List ℕ). elim (f (suc i)) [ true ↦ v ∷ r | false ↦ r ]) (marked_next f (suc i) l)

pub marked_length : (f : ℕ → Bool) (l : List ℕ) → length (marked f 0 l) ≡ sum (length l) (λ j. when (f j) 1)
unfolding marked sum
marked_length f [] = refl
marked_length f (v ∷ l) =
    omega (
      arith,
      one (told (f 0)),
      ap length (marked_next f 0 l),
      marked_length (λ j. f (suc j)) l,
      sum_first (length l) (λ j. when (f j) 1),
    )
  where
    one : Told (f 0) → length (marked f 0 (v ∷ l)) ≡ when (f 0) 1 + length (marked f 1 l)
    one (pass e) = rw (e, marked) (omega arith)
    one (fail e) = rw (e, marked) (omega arith)
