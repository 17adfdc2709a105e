-- Theorem 1: visit numbers. A parent's is below its child's, numbers and vertices are inverse, and a forest of n
-- vertices has n entries.
use Prim.Native.Nat.{ℕ, zero, suc, ◌+◌, ◌≤◌, ◌<◌}
use Rattle.std.specs.Prelude.{◌≡◌, true, false, length}
use Rattle.std.proofs.Math.Path.{refl}
use Rattle.std.proofs.Common.{sym, ◌∙◌, ap, eq-eqb, ne_eqb}
use mathlib.Core.List.{[], ◌∷◌, Memᴰ}
use native.Mathlib.Omega.{arith}
use Rattle.std.proofs.Math.Decide.{ℕ_discrete}
use Rattle.graph.specs.Search.{Goal, via, aim, Forest, entered}
use Rattle.graph.specs.Forest.{number, vertex_at}
use Rattle.graph.specs.Laws.Tree.Entries.{Entered, now, old, test_entered, test_new, dec_entered, entered_cast}
use Rattle.graph.specs.Laws.Tree.Entries.{none_entered, entered_rest, new_cons, apart, entry_entered, via_root}
use Rattle.graph.specs.Laws.Tree.Entries.{Grows, Built, built_root, built_via, fresh, before, parent_entered}
use Rattle.graph.specs.Laws.Tree.Entries.{stays}

-- ---- the clauses as equations

pub number_hit : (a : Goal) (F : Forest) {x : ℕ} → x ≡ aim a → number (a ∷ F) x ≡ length F
unfolding number
number_hit a F e = rw (eq-eqb _ _ e, number)

pub number_miss : (a : Goal) (F : Forest) {x : ℕ} → (x ≡ aim a → ⊥) → number (a ∷ F) x ≡ number F x
unfolding number
number_miss a F h = rw (ne_eqb _ _ h, number)

pub vertex_hit : (a : Goal) (F : Forest) {k : ℕ} → k ≡ length F → vertex_at (a ∷ F) k ≡ aim a
unfolding vertex_at
vertex_hit a F e = rw (eq-eqb _ _ e, vertex_at)

pub vertex_miss : (a : Goal) (F : Forest) {k : ℕ} → (k ≡ length F → ⊥) → vertex_at (a ∷ F) k ≡ vertex_at F k
unfolding vertex_at
vertex_miss a F h = rw (ne_eqb _ _ h, vertex_at)

-- ---- numbers and vertices are inverse

pub number_bound : {x : ℕ} {F : Forest} → Entered x F → number F x < length F
number_bound {x} (now {a = a} {F = F} e) = rw (number_hit a F e) (omega arith)
number_bound {x} (old {a = a} {F = F} m) = go (number_bound m) (ℕ_discrete x (aim a))
  where
    go : number F x < length F → Dec (x ≡ aim a) → number (a ∷ F) x < length (a ∷ F)
    go ih (yes e) = rw (number_hit a F e) (omega arith)
    go ih (no h) = rw (number_miss a F h) (omega arith)

-- the vertex of an entered vertex's number is that vertex
pub vertex_number : {F : Forest} {x : ℕ} → Entered x F → vertex_at F (number F x) ≡ x
vertex_number {F = []} m = absurd (none_entered m)
vertex_number {F = a ∷ F} {x = x} m = go (ℕ_discrete x (aim a)) (λ k. vertex_number k)
  where
    go : Dec (x ≡ aim a) → (Entered x F → vertex_at F (number F x) ≡ x) → vertex_at (a ∷ F) (number (a ∷ F) x) ≡ x
    go (yes e) rec = vertex_hit a F (number_hit a F e) ∙ sym e
    go (no h) rec =
        let k = entered_rest m h in
        let e = number_miss a F h in
        let l = number_bound k in
        rw e (vertex_miss a F (λ q. omega arith) ∙ rec k)

pub number_injective : (F : Forest) {x y : ℕ} → Entered x F → Entered y F → number F x ≡ number F y → x ≡ y
number_injective F m k e = sym (vertex_number m) ∙ (ap (vertex_at F) e ∙ vertex_number k)

pub vertex_entered : (F : Forest) (k : ℕ) → k < length F → Entered (vertex_at F k) F
vertex_entered [] k h = absurd (omega arith)
vertex_entered (a ∷ F) k h = go (ℕ_discrete k (length F)) (λ l. vertex_entered F k l)
  where
    go : Dec (k ≡ length F) → (k < length F → Entered (vertex_at F k) F) → Entered (vertex_at (a ∷ F) k) (a ∷ F)
    go (yes e) rec = now (vertex_hit a F e)
    go (no n) rec = old (entered_cast (vertex_miss a F n) (rec (omega arith)))

module _ {Ok : ℕ → ℕ → ℕ → Type 0} where
  -- the number of the vertex of a number is that number
  pub number_vertex : {F : Forest} → Built Ok F → (k : ℕ) → k < length F → number F (vertex_at F k) ≡ k
  number_vertex {F = []} b k h = absurd (omega arith)
  number_vertex {F = a ∷ F} b k h = go (ℕ_discrete k (length F)) (λ l. number_vertex (before b) k l)
    where
      go : Dec (k ≡ length F) → (k < length F → number F (vertex_at F k) ≡ k) → number (a ∷ F) (vertex_at (a ∷ F) k) ≡ k
      go (yes e) rec = number_hit a F (vertex_hit a F e) ∙ sym e
      go (no n) rec =
          let l : k < length F = omega arith in
          rw (vertex_miss a F n) (number_miss a F (apart (vertex_entered F k l) (fresh b)) ∙ rec l)

  -- ---- growth, parents

  pub number_stays : {F H : Forest} {x : ℕ} → Grows F H → Built Ok H → Entered x F → number H x ≡ number F x
  number_stays e b m = stays number (λ a F x h. number_miss a F h) e b m

  -- a parent is visited before its child
  pub parent_first : {u j v : ℕ} {F : Forest} → Built Ok F → Memᴰ (via u j v) F → number F u < number F v
  parent_first {F = []} b m = elim m [ ]
  parent_first {u = u} {j = j} {v = v} {F = a ∷ F} b (Memᴰ.tail m) =
      rw (
        number_miss a F (apart (parent_entered (before b) m) (fresh b)),
        number_miss a F
            (apart (entry_entered m) (fresh b)),
      ) (parent_first (before b) m)
  parent_first {u = u} {j = j} {v = v} {F = a ∷ F} b (Memᴰ.head e) =
      let k = above b e in
      rw (number_miss a F (apart k (fresh b)), number_hit a F (ap aim e)) (number_bound k)
    where
      above : {a : Goal} → Built Ok (a ∷ F) → via u j v ≡ a → Entered u F
      above (built_root h b') q = absurd (via_root q)
      above (built_via h k o b') q = entered_cast (cc) k

  pub parent_apart : {F : Forest} {u j v : ℕ} → Built Ok F → Memᴰ (via u j v) F → u ≡ v → ⊥
  parent_apart {F = F} b m e = omega (arith, parent_first b m, ap (number F) e)

-- ---- how much is left: the weights of the vertices below n that are not entered

unfoldable pub left : (ℕ → ℕ) → Forest → ℕ → ℕ
left w F zero = 0
left w F (suc n) = elim (entered n F) [ true ↦ left w F n | false ↦ w n + left w F n ]

module _ (w : ℕ → ℕ) where
  left_old : {F : Forest} {n : ℕ} → Entered n F → left w F (suc n) ≡ left w F n
  unfolding left
  left_old i = rw (test_entered i, left)

  pub left_new : (F : Forest) {n : ℕ} → (Entered n F → ⊥) → left w F (suc n) ≡ w n + left w F n
  unfolding left
  left_new F {n} h = rw (test_new n F h, left)

  -- nothing is left when all are entered
  pub left_none : (F : Forest) (n : ℕ) → ((v : ℕ) → v < n → Entered v F) → left w F n ≡ 0
  unfolding left
  left_none F zero h = refl
  left_none F (suc n) h = left_old (h n (omega arith)) ∙ left_none F n (λ v l. h v (omega arith))

  left_beyond : (a : Goal) (F : Forest) (n : ℕ) → n ≤ aim a → left w (a ∷ F) n ≡ left w F n
  unfolding left
  left_beyond a F zero h = refl
  left_beyond a F (suc n) h = go (left_beyond a F n (omega arith)) (dec_entered n F)
    where
      go : left w (a ∷ F) n ≡ left w F n → Dec (Entered n F) → left w (a ∷ F) (suc n) ≡ left w F (suc n)
      go ih (yes i) = rw (left_old {F = a ∷ F} (old i), left_old i) ih
      go ih (no k) =
          let d : n ≡ aim a → ⊥ = λ (e : n ≡ aim a). omega arith in
          rw (left_new (a ∷ F) (new_cons d k), left_new F k, ih)

  -- a new entry takes its weight away
  pub left_enter : (a : Goal) (F : Forest) (n : ℕ) → aim a < n → (Entered (aim a) F → ⊥)
      → w (aim a) + left w (a ∷ F) n ≡ left w F n
  left_enter a F zero h k = absurd (omega arith)
  left_enter a F (suc n) h k = go (ℕ_discrete n (aim a)) (dec_entered n F) (λ l. left_enter a F n l k)
    where
      go : Dec (n ≡ aim a) → Dec (Entered n F) → (aim a < n → w (aim a) + left w (a ∷ F) n ≡ left w F n)
          → w (aim a) + left w (a ∷ F) (suc n) ≡ left w F (suc n)
      go (yes e) d ih =
          let x = left_old {F = a ∷ F} (now e) in
          let y = left_beyond a F n (omega arith) in
          let z = left_new F (λ i. k (entered_cast (sym e) i)) in
          let q = ap w e in
          omega arith
      go (no d) (yes i) ih =
          let x = left_old {F = a ∷ F} (old i) in
          let y = left_old i in
          let z = ih (omega arith) in
          omega arith
      go (no d) (no j) ih =
          let x = left_new (a ∷ F) (new_cons d j) in
          let y = left_new F j in
          let z = ih (omega arith) in
          omega arith

-- ---- the weights of those that are entered

unfoldable pub aims : (ℕ → ℕ) → Forest → ℕ
aims w [] = 0
aims w (a ∷ F) = w (aim a) + aims w F

pub left_entered : {Ok : ℕ → ℕ → ℕ → Type 0} (w : ℕ → ℕ) {F : Forest} (n : ℕ) → Built Ok F
    → ((v : ℕ) → Entered v F → v < n) → aims w F + left w F n ≡ left w [] n
unfolding aims
left_entered w {F = []} n b h = omega arith
left_entered w {F = a ∷ F} n b h =
    let e = left_enter w a F n (h (aim a) (now refl)) (fresh b) in
    let c = left_entered w n (before b) (λ v i. h v (old i)) in
    omega arith

-- ---- the count: with weight 1

left_ones : (n : ℕ) → left (λ x. 1) [] n ≡ n
unfolding left entered
left_ones zero = refl
left_ones (suc n) = let e = left_ones n in omega arith

aims_ones : (F : Forest) → aims (λ x. 1) F ≡ length F
unfolding aims
aims_ones [] = refl
aims_ones (a ∷ F) = let e = aims_ones F in omega arith

module _ {Ok : ℕ → ℕ → ℕ → Type 0} where
  count : {F : Forest} (n : ℕ) → Built Ok F → ((v : ℕ) → Entered v F → v < n) → length F + left (λ x. 1) F n ≡ n
  count {F = F} n b h = omega (arith, left_entered (λ x. 1) n b h, left_ones n, aims_ones F)

  pub count_most : {F : Forest} (n : ℕ) → Built Ok F → ((v : ℕ) → Entered v F → v < n) → length F ≤ n
  count_most n b h = let c = count n b h in omega arith

  pub count_whole : {F : Forest} (n : ℕ) → Built Ok F → ((v : ℕ) → Entered v F → v < n)
      → ((v : ℕ) → v < n → Entered v F) → length F ≡ n
  count_whole {F = F} n b h w = omega (arith, count n b h, left_none (λ x. 1) F n w)
