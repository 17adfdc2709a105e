-- Theorem 6: heads are equal exactly where two vertices are joined and stay joined whichever one wire is taken out.
--   head_root, head_bridge, head_parent  the climb, step by step
--   Top, top_entered, top_head           where a head stands: it is entered, and its own head
--   head_top                             each head stands so
--   same_head                            the theorem
use Rattle.std.specs.Prelude.{ℕ, ◌<◌, ◌≡◌, refl, ◌↔◌, length}
use Rattle.std.proofs.Common.{◌∙◌, ap, inl, inr, arith}
use Rattle.std.proofs.Math.Bool.{true, false}
use mathlib.Core.List.{Memᴰ}
use Rattle.std.proofs.Math.Decide.{dec_lt}
use Rattle.graph.specs.Graph.{Blocks, Place, WellFormed}
use Rattle.graph.specs.Search.{root, via, Forest, PlaceTest, all}
use Rattle.graph.specs.Joined.{Chain, here, without, bridge, DoublyJoined}
use Rattle.graph.specs.Forest.{number, root_of, head, Ancestor}
use Rattle.graph.specs.Laws.Places.Basics.{Told, pass, fail, told}
use Rattle.graph.specs.Laws.Tree.Entries.{Entered, entry_entered, Built, parent_entered, forest_ind}
use Rattle.graph.specs.Laws.Tree.Numbers.{number_injective}
use Rattle.graph.specs.Laws.Tree.Climbs.{climb_root, climb_child, root_itself, root_parent}
use Rattle.graph.specs.Laws.Tree.Ancestors.{ancestor_first, root_ancestor, parent_not_below}
use Rattle.graph.specs.Laws.Joined.Chains.{chain_trans, chain_one, chain_map, chain_sym, all_twinned, wire_or_not}
use Rattle.graph.specs.Laws.Joined.Chains.{without_same, without_twinned}
use Rattle.graph.specs.Laws.Joined.Spanning.{Spanning, tree_place}
use Rattle.graph.specs.Laws.Joined.Roots.{chain_root, chain_beside}
use Rattle.graph.specs.Laws.Bridges.Crossings.{bridge_joined, bridge_parts}

doubly_sym : {g : Blocks} → WellFormed g → {u v : ℕ} → DoublyJoined g u v → DoublyJoined g v u
doubly_sym {g} wf f = record {
  joined_all = chain_sym wf (all_twinned g) f.joined_all;
  joined_without = λ a b c p. chain_sym wf (without_twinned wf p) (f.joined_without a b c p);
}

-- ---- the climb, step by step

module _ {Ok : ℕ → ℕ → ℕ → Type 0} (g : Blocks) {F : Forest} (b : Built Ok F) where
  pub head_root : {v : ℕ} → Memᴰ (root v) F → head g F v ≡ v
  unfolding head
  head_root m = climb_root (λ v. v) (λ u j v a. elim (bridge g u j) [ true ↦ v | false ↦ a ]) b m

  pub head_bridge : {u j v : ℕ} → Memᴰ (via u j v) F → bridge g u j ≡ true → head g F v ≡ v
  unfolding head
  head_bridge m e = climb_child (λ v. v) (λ u j v a. elim (bridge g u j) [ true ↦ v | false ↦ a ]) b m ∙ rw e

  pub head_parent : {u j v : ℕ} → Memᴰ (via u j v) F → bridge g u j ≡ false → head g F v ≡ head g F u
  unfolding head
  head_parent m e = climb_child (λ v. v) (λ u j v a. elim (bridge g u j) [ true ↦ v | false ↦ a ]) b m ∙ rw e

-- where a head stands: at a root, or below a bridge
pub data Top (g : Blocks) (F : Forest) (h : ℕ) : Type 0 where
  top_root : Memᴰ (root h) F → Top g F h
  top_bridge : (p j : ℕ) → Memᴰ (via p j h) F → bridge g p j ≡ true → Top g F h

pub top_entered : {g : Blocks} {F : Forest} {h : ℕ} → Top g F h → Entered h F
top_entered (top_root m) = entry_entered m
top_entered (top_bridge p j m e) = entry_entered m

-- there the climb stops
pub top_head : {Ok : ℕ → ℕ → ℕ → Type 0} {g : Blocks} {F : Forest} {h : ℕ} → Built Ok F → Top g F h → head g F h ≡ h
top_head {g = g} b (top_root m) = head_root g b m
top_head {g = g} b (top_bridge p j m e) = head_bridge g b m e

module _ {g : Blocks} {F : Forest} (span : Spanning g F) where
  pub head_top : (v : ℕ) → Entered v F → Top g F (head g F v)
  head_top = forest_ind (λ v. Top g F (head g F v)) span.built
      (λ v m. rw (head_root g span.built m) (top_root m))
      (λ u j v m t. go u j v m t (told (bridge g u j)))
    where
      go : (u j v : ℕ) → Memᴰ (via u j v) F → Top g F (head g F u) → Told (bridge g u j) → Top g F (head g F v)
      go u j v m t (pass e) = rw (head_bridge g span.built m e) (top_bridge u j m e)
      go u j v m t (fail e) = rw (head_parent g span.built m e) t

module _ {g : Blocks} (wf : WellFormed g) {F : Forest} (span : Spanning g F) where
  -- from the head down, where each place that is no bridge can be replaced
  head_chain : (ok : PlaceTest) → ((u j v : ℕ) → Place g u j v → bridge g u j ≡ false → Chain g ok u v) → (v : ℕ)
      → Entered v F
      → Chain g ok (head g F v) v
  head_chain ok f = forest_ind (λ v. Chain g ok (head g F v) v) span.built
      (λ v m. rw (head_root g span.built m) here)
      (λ u j v m c. go u j v m c (told (bridge g u j)))
    where
      go : (u j v : ℕ) → Memᴰ (via u j v) F → Chain g ok (head g F u) u → Told (bridge g u j)
          → Chain g ok (head g F v) v
      go u j v m c (pass e) = rw (head_bridge g span.built m e) here
      go u j v m c (fail e) = rw (head_parent g span.built m e) (chain_trans c (f u j v (tree_place span m) e))

  -- so each vertex and its head are doubly joined
  head_doubly : (v : ℕ) → Entered v F → DoublyJoined g (head g F v) v
  head_doubly v i = record {
    joined_all = head_chain all (λ u j x p e. chain_one p refl) v i;
    joined_without = λ a b c w. head_chain (without g a b) (around w) v i;
  }
    where
      around : {a b c : ℕ} → Place g a b c → (u j x : ℕ) → Place g u j x → bridge g u j ≡ false
          → Chain g (without g a b) u x
      around {a} {b} w u j x p e = elim (wire_or_not g a b u j) [
        | inl o ↦ chain_one p o
        | inr on ↦ chain_map (without_same wf w on) ((bridge_joined wf.in_range p).0 e)
      ]

  doubly_trans : {u v w : ℕ} → DoublyJoined g u v → DoublyJoined g v w → DoublyJoined g u w
  doubly_trans d e = record {
    joined_all = chain_trans d.joined_all e.joined_all;
    joined_without = λ a b c p. chain_trans (d.joined_without a b c p) (e.joined_without a b c p);
  }

  -- a head that is visited later is not doubly joined to an earlier vertex
  later_apart : {h k : ℕ} → Entered h F → Top g F k → number F h < number F k → DoublyJoined g h k → ⊥
  later_apart {h} {k} i (top_root m) l f =
      let e : root_of F h ≡ k = chain_root span wf f.joined_all ∙ root_itself span.built m in
      let q = ancestor_first span.built (root_ancestor span.built h i) in
      let z = ap (number F) e in
      omega arith
  later_apart {h} {k} i (top_bridge p j m e) l f =
      let pl = tree_place span m in
      let nh : Ancestor F k h → ⊥ = λ (q : Ancestor F k h). (omega (arith, ancestor_first span.built q)) in
      let c₁ = chain_beside span wf m h i nh in
      let c₂ = chain_beside span wf m p (parent_entered span.built m) (parent_not_below span.built m) in
      let r : root_of F h ≡ root_of F p = chain_root span wf f.joined_all ∙ root_parent span.built m in
      bridge_parts wf.in_range pl e
      (chain_trans (chain_sym wf (without_twinned wf pl) c₂)
      (chain_trans (rw r at c₁) (f.joined_without p j k pl)))

  same_top : {h k : ℕ} → Top g F h → Top g F k → DoublyJoined g h k → h ≡ k
  same_top {h} {k} s t d = go (dec_lt (number F h) (number F k)) (dec_lt (number F k) (number F h))
    where
      go : Dec (number F h < number F k) → Dec (number F k < number F h) → h ≡ k
      go (yes l) x = absurd (later_apart (top_entered s) t l d)
      go (no n) (yes l) = absurd (later_apart (top_entered t) s l (doubly_sym wf d))
      go (no n) (no m) = number_injective F (top_entered s) (top_entered t) (omega arith)

  pub same_head : (u v : ℕ) → u < length g → v < length g → (head g F u ≡ head g F v) ↔ DoublyJoined g u v
  same_head u v hu hv = (
    λ e. doubly_trans (doubly_sym wf (at u hu)) (rw e (at v hv)),
    λ d. same_top (head_top span u (span.whole u hu)) (head_top span v (span.whole v hv))
        (doubly_trans (at u hu) (doubly_trans d (doubly_sym wf (at v hv)))),
  )
    where
      at : (x : ℕ) → x < length g → DoublyJoined g (head g F x) x
      at x h = head_doubly x (span.whole x h)
