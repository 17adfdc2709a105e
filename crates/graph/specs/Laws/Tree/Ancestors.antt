-- Ancestors: the relation, its test, and how ancestors of one vertex stand to each other.
use Rattle.std.specs.Prelude.{ℕ, ◌≤◌, ◌≡◌, refl, ◌⊎◌, ◌↔◌, Bool, true, ◌||◌}
use Rattle.std.proofs.Common.{ap, sym, ◌∙◌, inl, inr, arith, eqb-true, eq-eqb}
use mathlib.Core.List.{Memᴰ}
use Rattle.std.proofs.Math.Dec.{eqb}
use Rattle.graph.specs.Search.{root, via, Forest}
use Rattle.graph.specs.Forest.{number, climb, root_of, Ancestor, self, child}
use Rattle.graph.specs.Laws.Places.Basics.{Told, pass, fail, told, clash, or_cases, or_left, or_right}
use Rattle.graph.specs.Laws.Tree.Entries.{Entered, Grows, entry_grows, Built, entry_once, root_no_child}
use Rattle.graph.specs.Laws.Tree.Entries.{forest_ind}
use Rattle.graph.specs.Laws.Tree.Numbers.{parent_first}
use Rattle.graph.specs.Laws.Tree.Climbs.{climb_root, climb_child, root_itself, root_parent}

-- the relation as a test
unfoldable pub ancestor : Forest → ℕ → ℕ → Bool
ancestor F x = climb (λ v. eqb x v) (λ u j v a. eqb x v || a) F

pub ancestor_grows : {F H : Forest} {c x : ℕ} → Grows F H → Ancestor F c x → Ancestor H c x
ancestor_grows e self = self
ancestor_grows e (child m b) = child (entry_grows e m) (ancestor_grows e b)

pub ancestor_trans : {F : Forest} {a b c : ℕ} → Ancestor F a b → Ancestor F b c → Ancestor F a c
ancestor_trans p self = p
ancestor_trans p (child m q) = child m (ancestor_trans p q)

-- equal vertices
pub ancestor_same : {F : Forest} {c x : ℕ} → c ≡ x → Ancestor F c x
ancestor_same e = rw e self

module _ {Ok : ℕ → ℕ → ℕ → Type 0} {F : Forest} (b : Built Ok F) where
  pub ancestor_first : {c x : ℕ} → Ancestor F c x → number F c ≤ number F x
  ancestor_first self = omega arith
  ancestor_first (child m q) = omega (arith, parent_first b m, ancestor_first q)

  pub ancestor_root : {c x : ℕ} → Ancestor F c x → root_of F x ≡ root_of F c
  ancestor_root self = refl
  ancestor_root (child m q) = root_parent b m ∙ ancestor_root q

  pub root_ancestor : (x : ℕ) → Entered x F → Ancestor F (root_of F x) x
  root_ancestor = forest_ind (λ x. Ancestor F (root_of F x) x) b
      (λ v m. rw (root_itself b m) self)
      (λ u j v m q. rw (root_parent b m) (child m q))

  -- no vertex is an ancestor of its parent
  pub parent_not_below : {p j c : ℕ} → Memᴰ (via p j c) F → Ancestor F c p → ⊥
  parent_not_below m q = omega (arith, parent_first b m, ancestor_first q)

  -- the ancestors of a root, and of a child
  ancestor_of_root : {v c : ℕ} → Memᴰ (root v) F → Ancestor F c v → c ≡ v
  ancestor_of_root m self = refl
  ancestor_of_root m (child k q) = absurd (root_no_child b m k)

  pub ancestor_of_child : {u j v c : ℕ} → Memᴰ (via u j v) F → Ancestor F c v → (c ≡ v) ⊎ Ancestor F c u
  ancestor_of_child m self = inl refl
  ancestor_of_child {u = u} m (child {u = w} k q) =
      let e = entry_once b k m refl in
      let p : u ≡ w = cc in
      inr (rw p q)

  -- ---- the test

  pub ancestor_at_root : (x : ℕ) {v : ℕ} → Memᴰ (root v) F → ancestor F x v ≡ eqb x v
  unfolding ancestor
  ancestor_at_root x m = climb_root (λ v. eqb x v) (λ u j v a. eqb x v || a) b m

  pub ancestor_at_child : (x : ℕ) {u j v : ℕ} → Memᴰ (via u j v) F → ancestor F x v ≡ (eqb x v || ancestor F x u)
  unfolding ancestor
  ancestor_at_child x m = climb_child (λ v. eqb x v) (λ u j v a. eqb x v || a) b m

  pub ancestor_test : (x v : ℕ) → Entered v F → (ancestor F x v ≡ true) ↔ Ancestor F x v
  ancestor_test x = forest_ind (λ v. (ancestor F x v ≡ true) ↔ Ancestor F x v) b on_root on_child
    where
      on_root : (v : ℕ) → Memᴰ (root v) F → (ancestor F x v ≡ true) ↔ Ancestor F x v
      on_root v m = (
        λ e. ancestor_same (eqb-true x v (sym (ancestor_at_root x m) ∙ e)),
        λ q. ancestor_at_root x m ∙ eq-eqb x v (ancestor_of_root m q),
      )

      on_child : (u j v : ℕ) → Memᴰ (via u j v) F → (ancestor F x u ≡ true) ↔ Ancestor F x u
          → (ancestor F x v ≡ true) ↔ Ancestor F x v
      on_child u j v m ih = (
        λ e. elim (or_cases (eqb x v) (ancestor F x u) (sym (ancestor_at_child x m) ∙ e)) [
          | inl h ↦ ancestor_same
              (eqb-true x v h)
          | inr h ↦ child m (ih.0 h)
        ],
        λ q. ancestor_at_child x m
            ∙ elim (ancestor_of_child m q) [
              | inl e ↦ or_left (ancestor F x u) (eq-eqb x v e)
              | inr k ↦ or_right
                  (eqb x v) (ih.1 k)
            ],
      )

  pub dec_ancestor : (x v : ℕ) → Entered v F → Dec (Ancestor F x v)
  dec_ancestor x v i = go (told (ancestor F x v))
    where
      go : Told (ancestor F x v) → Dec (Ancestor F x v)
      go (pass e) = yes ((ancestor_test x v i).0 e)
      go (fail e) = no (λ q. clash ((ancestor_test x v i).1 q) e)

  -- of two ancestors of one vertex the earlier is an ancestor of the later
  pub ancestors_chain : {a c : ℕ} (x : ℕ) → Entered x F → Ancestor F a x → Ancestor F c x → number F c ≤ number F a
      → Ancestor F c a
  ancestors_chain {a} {c} =
      forest_ind (λ x. Ancestor F a x → Ancestor F c x → number F c ≤ number F a → Ancestor F c a) b
      (λ v m p q l. rw (ancestor_of_root m p) q)
      (λ u j v m ih p q l. go m ih q l (ancestor_of_child m p) (ancestor_of_child m q))
    where
      go : {u j v : ℕ} → Memᴰ (via u j v) F
          → (Ancestor F a u → Ancestor F c u → number F c ≤ number F a → Ancestor F c a)
          → Ancestor F c v → number F c ≤ number F a → (a ≡ v) ⊎ Ancestor F a u → (c ≡ v) ⊎ Ancestor F c u
          → Ancestor F c a
      go m ih q l (inl e) d = rw e q
      go m ih q l (inr p) (inl e) =
          let h = parent_first b m in
          let k = ancestor_first p in
          let z = ap (number F) e in
          absurd (omega arith)
      go m ih q l (inr p) (inr q') = ih p q' l
