-- Climbing with a bound, as the queries do: n - 1 steps up give the head, and tell the ancestors.
use Prim.Native.Nat.{ℕ, zero, suc, ◌-◌, ◌≤◌, ◌<◌}
use Rattle.std.specs.Prelude.{◌≡◌, refl, ◌⊎◌, Bool, true, false, ◌||◌, length}
use Rattle.std.proofs.Common.{sym, ◌∙◌, ap, inl, inr, arith, eq-eqb, ne_eqb}
use mathlib.Core.List.{Memᴰ}
use Rattle.std.proofs.Math.Decide.{ℕ_discrete}
use Rattle.graph.specs.Graph.{Blocks, block, target, pair, twin, WellFormed}
use Rattle.graph.specs.Search.{Goal, root, via, aim, Forest}
use Rattle.graph.specs.Joined.{bridge}
use Rattle.graph.specs.Forest.{number, parent, head, parent_mark}
use Rattle.graph.specs.Walk.{walk}
use Rattle.graph.specs.Laws.Places.Basics.{Told, pass, fail, told, or_left}
use Rattle.graph.specs.Laws.Places.Pairing.{Balanced, both_ends, pair_place, twin_place}
use Rattle.graph.specs.Laws.Tree.Entries.{Entered, entry_entered, Entry, as_root, as_child, entry, Built}
use Rattle.graph.specs.Laws.Tree.Entries.{parent_entered}
use Rattle.graph.specs.Laws.Tree.Numbers.{parent_first}
use Rattle.graph.specs.Laws.Tree.Climbs.{parent_root}
use Rattle.graph.specs.Laws.Tree.Ancestors.{ancestor, ancestor_at_root, ancestor_at_child}
use Rattle.graph.specs.Laws.Joined.Spanning.{Spanning, tree_place, number_range}
use Rattle.graph.specs.Laws.Edges.Marks.{back, back_place, back_marked}
use Rattle.graph.specs.Laws.Bridges.Crossings.{bridge_twin}
use Rattle.graph.specs.Laws.Heads.Sections.{head_root, head_bridge, head_parent}

-- steps that go up the forest and stop with the value, which is the parent's where they go on
record Follows {A : Type 0} (F : Forest) (next : ℕ → A ⊎ ℕ) (value : ℕ → A) : Type 0 where
  at_root : (v : ℕ) → Memᴰ (root v) F → next v ≡ inl (value v)
  at_child : (u j v : ℕ) → Memᴰ (via u j v) F → (next v ≡ inl (value v)) ⊎ ((next v ≡ inr u) × (value v ≡ value u))

module _ {A : Type 0} (next : ℕ → A ⊎ ℕ) (late : A) where
  pub walk_stop : (k : ℕ) {v : ℕ} {a : A} → next v ≡ inl a → walk next late k v ≡ a
  unfolding walk
  walk_stop zero e = rw (e, walk)
  walk_stop (suc k) e = rw (e, walk)

  pub walk_up : (k : ℕ) {u v : ℕ} → next v ≡ inr u → walk next late (suc k) v ≡ walk next late k u
  unfolding walk
  walk_up k e = rw (e, walk)

  pub walk_late : {u v : ℕ} → next v ≡ inr u → walk next late 0 v ≡ late
  unfolding walk
  walk_late e = rw (e, walk)

  -- a walk finds the value in as many steps as the visit number
  walk_value : {Ok : ℕ → ℕ → ℕ → Type 0} {F : Forest} {value : ℕ → A} → Built Ok F → Follows F next value
      → (k v : ℕ) → Entered v F → number F v ≤ k → walk next late k v ≡ value v
  walk_value {F = F} {value = value} b f zero v i h = go (entry i)
    where
      go : Entry F v → walk next late 0 v ≡ value v
      go (as_root m) = walk_stop 0 (f.at_root v m)
      go (as_child u j m) = let l = parent_first b m in absurd (omega arith)
  walk_value {F = F} {value = value} b f (suc k) v i h = go (entry i) (λ u iu hu. walk_value b f k u iu hu)
    where
      go : Entry F v → ((u : ℕ) → Entered u F → number F u ≤ k → walk next late k u ≡ value u)
          → walk next late (suc k) v ≡ value v
      go (as_root m) rec = walk_stop (suc k) (f.at_root v m)
      go (as_child u j m) rec = elim (f.at_child u j v m) [
        | inl e ↦ walk_stop (suc k) e
        | inr s ↦ (let l = parent_first b m in walk_up k s.0
            ∙ (rec u (parent_entered b m) (omega arith) ∙ sym s.1))
      ]

-- ---- what holds of every end of a walk

-- a step that stops with such a value, or leads to such a vertex
pub data Steps {A : Type 0} (P : A → Type 0) (Q : ℕ → Type 0) : A ⊎ ℕ → Type 0 where
  stops : {a : A} → P a → Steps P Q (inl a)
  leads : {u : ℕ} → Q u → Steps P Q (inr u)

pub walk_has : {A : Type 0} {P : A → Type 0} {Q : ℕ → Type 0} (next : ℕ → A ⊎ ℕ) (late : A) → P late
    → ((v : ℕ) → Q v → Steps P Q (next v)) → (k v : ℕ) → Q v → P (walk next late k v)
unfolding walk
walk_has {A} {P} {Q} next late l each zero v q = last (next v) (each v q)
  where
    last : (x : A ⊎ ℕ) → Steps P Q x → P (elim x [ inl a ↦ a | inr u ↦ late ])
    last (inl a) (stops p) = p
    last (inr u) (leads q) = l
walk_has {A} {P} {Q} next late l each (suc k) v q = on (λ u r. walk_has next late l each k u r) (next v) (each v q)
  where
    on : ((u : ℕ) → Q u → P (walk next late k u)) → (x : A ⊎ ℕ) → Steps P Q x
        → P (elim x [ inl a ↦ a | inr u ↦ walk next late k u ])
    on more (inl a) (stops p) = p
    on more (inr u) (leads q) = more u q

-- ---- Head: up by the parent mark, unless it is at a bridge

pub record HeadSteps {A : Type 0} (g : Blocks) (F : Forest) (answer : ℕ → A) (next : ℕ → A ⊎ ℕ) : Type 0 where
  pub root_stops : (v : ℕ) → v < length g → parent F v ≡ 0 → next v ≡ inl (answer v)
  pub bridge_stops : (v i : ℕ) → i < length (block g v) → parent_mark g g F v i ≡ true → bridge g v i ≡ true
      → next v ≡ inl (answer v)
  pub goes_up : (v i : ℕ) → i < length (block g v) → parent_mark g g F v i ≡ true → bridge g v i ≡ false
      → next v ≡ inr (target g v i)

follows_head : {A : Type 0} {g : Blocks} → WellFormed g → {F : Forest} → Spanning g F
    → {answer : ℕ → A} {next : ℕ → A ⊎ ℕ}
    → HeadSteps g F answer next → Follows F next (λ v. answer (head g F v))
follows_head {g = g} wf {F = F} span {answer = answer} {next = next} st =
    record { at_root = on_root; at_child = λ u j x m. on_child u j x m (told (bridge g u j)) }
  where
    on_root : (x : ℕ) → Memᴰ (root x) F → next x ≡ inl (answer (head g F x))
    on_root x m =
        st.root_stops x (span.within x (entry_entered m)) (parent_root span.built m)
        ∙ ap (λ y. inl (answer y)) (sym (head_root g span.built m))

    fits : {u j x : ℕ} → Memᴰ (via u j x) F → twin g u j < length (block g x)
    fits {u} {j} m = back_place (both_ends wf) span.built (back u j m refl)

    marked : {u j x : ℕ} → Memᴰ (via u j x) F → parent_mark g g F x (twin g u j) ≡ true
    marked {u} {j} m = back_marked (both_ends wf) span.built (back u j m refl)

    both : {u j x : ℕ} → Memᴰ (via u j x) F → bridge g x (twin g u j) ≡ bridge g u j
    both m = bridge_twin wf (tree_place span m)

    on_child : (u j x : ℕ) → Memᴰ (via u j x) F → Told (bridge g u j)
        → (next x ≡ inl (answer (head g F x))) ⊎ ((next x ≡ inr u) × (answer (head g F x) ≡ answer (head g F u)))
    on_child u j x m (pass e) =
        inl
        (st.bridge_stops x (twin g u j) (fits m) (marked m) (both m ∙ e)
        ∙ ap (λ y. inl (answer y)) (sym (head_bridge g span.built m e)))
    on_child u j x m (fail e) =
        inr (
          st.goes_up x (twin g u j) (fits m) (marked m) (both m ∙ e)
              ∙ ap inr (twin_place wf (tree_place span m)).leads,
          ap answer (head_parent g span.built m e),
        )

module _ {A : Type 0} {g : Blocks} (wf : WellFormed g) {F : Forest} (span : Spanning g F) {answer : ℕ → A}
    {next : ℕ → A ⊎ ℕ} (st : HeadSteps g F answer next) where
  walk_enough : (late : A) (k v : ℕ) → v < length g → length g - 1 ≤ k → walk next late k v ≡ answer (head g F v)
  walk_enough late k v h l =
      walk_value next late span.built (follows_head wf span st) k v (span.whole v h)
      (let a = number_range span v h in omega arith)

  pub walk_head : (late : A) (v : ℕ) → v < length g → walk next late (length g - 1) v ≡ answer (head g F v)
  walk_head late v h = walk_enough late (length g - 1) v h (omega arith)

  -- a step up leaves the answer as it is
  pub rise_head : {v u : ℕ} → v < length g → u < length g → next v ≡ inr u → answer (head g F v) ≡ answer (head g F u)
  rise_head {v} {u} h l e =
      let late : A = answer v in
      sym (walk_enough late (suc (length g)) v h (omega arith)) ∙ walk_up next late (length g) e
      ∙ walk_enough late (length g) u l (omega arith)

-- ---- Ancestor: up by the parent mark, on the side h that lists the way back

pub record AncestorSteps {A : Type 0} (g h : Blocks) (F : Forest) (x : ℕ) (answer : Bool → A)
    (next : ℕ → A ⊎ ℕ) : Type 0 where
  pub found : (v : ℕ) → v < length g → x ≡ v → next v ≡ inl (answer true)
  pub root_stops : (v : ℕ) → v < length g → (x ≡ v → ⊥) → parent F v ≡ 0 → next v ≡ inl (answer false)
  pub goes_up : (v i : ℕ) → (x ≡ v → ⊥) → i < length (block h v) → parent_mark h g F v i ≡ true
      → next v ≡ inr (target h v i)

pub walk_ancestor : {A : Type 0} {g h : Blocks} → Balanced g h → {F : Forest} → Spanning g F
    → {x : ℕ} {answer : Bool → A} {next : ℕ → A ⊎ ℕ}
    → AncestorSteps g h F x answer next → (late : A) (v : ℕ) → v < length g
    → walk next late (length g - 1) v ≡ answer (ancestor F x v)
walk_ancestor {g = g} {h = h} bal {F = F} span {x = x} {answer = answer} {next = next} st late v l =
    walk_value next late span.built
    (record
    { at_root = λ y m. on_root y m (ℕ_discrete x y); at_child = λ u j y m. on_child u j y m (ℕ_discrete x y) })
    (length g - 1) v (span.whole v l) (let a = number_range span v l in omega arith)
  where
    inside : {a : Goal} → Memᴰ a F → aim a < length g
    inside {a} m = span.within (aim a) (entry_entered m)

    on_root : (y : ℕ) → Memᴰ (root y) F → Dec (x ≡ y) → next y ≡ inl (answer (ancestor F x y))
    on_root y m (yes e) =
        st.found y (inside m) e ∙ ap (λ t. inl (answer t)) (sym (ancestor_at_root span.built x m ∙ eq-eqb x y e))
    on_root y m (no n) =
        st.root_stops y (inside m) n (parent_root span.built m)
        ∙ ap (λ t. inl (answer t)) (sym (ancestor_at_root span.built x m ∙ ne_eqb x y n))

    on_child : (u j y : ℕ) → Memᴰ (via u j y) F → Dec (x ≡ y)
        → (next y ≡ inl (answer (ancestor F x y))) ⊎
        ((next y ≡ inr u) × (answer (ancestor F x y) ≡ answer (ancestor F x u)))
    on_child u j y m (yes e) =
        inl
        (st.found y (inside m) e
        ∙ ap (λ t. inl (answer t))
        (sym (ancestor_at_child span.built x m ∙ or_left (ancestor F x u) (eq-eqb x y e))))
    on_child u j y m (no n) =
        let w = back u j m refl in
        let a = st.goes_up y (pair g h u j) n (back_place bal span.built w) (back_marked bal span.built w) in
        inr (
          a ∙ ap inr (pair_place bal (tree_place span m)).leads,
          ap answer
              (ancestor_at_child span.built x m ∙ ap (λ t. t || ancestor F x u) (ne_eqb x y n)),
        )
