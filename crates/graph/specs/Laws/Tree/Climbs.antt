-- What is read by climbing: the value at a root, and at a child from its parent's. Parents, slots and roots.
use Prim.Native.Nat.{ℕ, suc}
use Rattle.std.specs.Prelude.{◌≡◌}
use Rattle.std.proofs.Math.Path.{refl}
use Rattle.std.proofs.Common.{sym, ◌∙◌, ap, arith, eq-eqb, ne_eqb}
use mathlib.Core.List.{[], ◌∷◌, Memᴰ}
use Rattle.graph.specs.Search.{Goal, root, via, aim, Forest}
use Rattle.graph.specs.Forest.{climb, parent, root_of}
use Rattle.graph.specs.Laws.Tree.Entries.{Entered, entry_entered, apart, Entry, as_root, as_child, entry, Built}
use Rattle.graph.specs.Laws.Tree.Entries.{fresh, before, parent_entered, forest_ind}
use Rattle.graph.specs.Laws.Tree.Numbers.{parent_apart}

module _ {A : Type 0} (r : ℕ → A) (s : ℕ → ℕ → ℕ → A → A) where
  climb_miss : (a : Goal) (F : Forest) (x : ℕ) → (x ≡ aim a → ⊥) → climb r s (a ∷ F) x ≡ climb r s F x
  unfolding climb
  climb_miss (root v) F x h = rw (ne_eqb _ _ h, climb)
  climb_miss (via u j v) F x h = rw (ne_eqb _ _ h, climb)

  climb_new_root : (v : ℕ) (F : Forest) → climb r s (root v ∷ F) v ≡ r v
  unfolding climb
  climb_new_root v F = rw (eq-eqb v v refl, climb)

  climb_new_child : (u j v : ℕ) (F : Forest) → climb r s (via u j v ∷ F) v ≡ s u j v (climb r s F u)
  unfolding climb
  climb_new_child u j v F = rw (eq-eqb v v refl, climb)

  module _ {Ok : ℕ → ℕ → ℕ → Type 0} where
    pub climb_root : {v : ℕ} {F : Forest} → Built Ok F → Memᴰ (root v) F → climb r s F v ≡ r v
    climb_root {F = []} b m = elim m [ ]
    climb_root {v = v} {F = a ∷ F} b (Memᴰ.head e) = rw (← e) (climb_new_root v F)
    climb_root {v = v} {F = a ∷ F} b (Memᴰ.tail m) =
        climb_miss a F v (apart (entry_entered m) (fresh b)) ∙ climb_root (before b) m

    pub climb_child : {u j v : ℕ} {F : Forest} → Built Ok F → Memᴰ (via u j v) F
        → climb r s F v ≡ s u j v (climb r s F u)
    climb_child {F = []} b m = elim m [ ]
    climb_child {u = u} {j = j} {v = v} {F = a ∷ F} b (Memᴰ.head e) =
        let d : u ≡ v → ⊥ = parent_apart b (Memᴰ.head e) in
        rw (← e) (climb_new_child u j v F ∙ ap (s u j v) (sym (climb_miss (via u j v) F u d)))
    climb_child {u = u} {j = j} {v = v} {F = a ∷ F} b (Memᴰ.tail m) =
        climb_miss a F v (apart (entry_entered m) (fresh b))
        ∙ (climb_child (before b) m
        ∙ ap (s u j v) (sym (climb_miss a F u (apart (parent_entered (before b) m) (fresh b)))))

-- ---- parents, slots, roots

-- the position, in the parent's block, of the place by which x was entered; 0 for a root
unfoldable pub slot : Forest → ℕ → ℕ
slot F = climb (λ v. 0) (λ u j v a. j) F

pub parent_miss : (a : Goal) (F : Forest) (x : ℕ) → (x ≡ aim a → ⊥) → parent (a ∷ F) x ≡ parent F x
unfolding parent
parent_miss = climb_miss (λ v. 0) (λ u j v a. suc u)

pub slot_miss : (a : Goal) (F : Forest) (x : ℕ) → (x ≡ aim a → ⊥) → slot (a ∷ F) x ≡ slot F x
unfolding slot
slot_miss = climb_miss (λ v. 0) (λ u j v a. j)

module _ {Ok : ℕ → ℕ → ℕ → Type 0} {F : Forest} (b : Built Ok F) where
  pub parent_root : {v : ℕ} → Memᴰ (root v) F → parent F v ≡ 0
  unfolding parent
  parent_root m = climb_root (λ v. 0) (λ u j v a. suc u) b m

  pub parent_child : {u j v : ℕ} → Memᴰ (via u j v) F → parent F v ≡ suc u
  unfolding parent
  parent_child m = climb_child (λ v. 0) (λ u j v a. suc u) b m

  pub slot_root : {v : ℕ} → Memᴰ (root v) F → slot F v ≡ 0
  unfolding slot
  slot_root m = climb_root (λ v. 0) (λ u j v a. j) b m

  pub slot_child : {u j v : ℕ} → Memᴰ (via u j v) F → slot F v ≡ j
  unfolding slot
  slot_child m = climb_child (λ v. 0) (λ u j v a. j) b m

  -- the entry of a vertex, by its parent
  pub child_entry : {u v : ℕ} → Entered v F → parent F v ≡ suc u → Memᴰ (via u (slot F v) v) F
  child_entry {u} {v} i e = go (entry i)
    where
      go : Entry F v → Memᴰ (via u (slot F v) v) F
      go (as_root m) = let a = parent_root m in absurd (omega arith)
      go (as_child p j m) =
          let a = parent_child m in
          let c : u ≡ p = omega arith in
          rw (c, slot_child m) m

  pub root_itself : {v : ℕ} → Memᴰ (root v) F → root_of F v ≡ v
  unfolding root_of
  root_itself m = climb_root (λ v. v) (λ u j v a. a) b m

  pub root_parent : {u j v : ℕ} → Memᴰ (via u j v) F → root_of F v ≡ root_of F u
  unfolding root_of
  root_parent m = climb_child (λ v. v) (λ u j v a. a) b m

  pub root_is_root : (v : ℕ) → Entered v F → Memᴰ (root (root_of F v)) F
  root_is_root =
      forest_ind (λ v. Memᴰ (root (root_of F v)) F) b (λ v m. rw (root_itself m) m)
      (λ u j v m c. rw (root_parent m) c)
