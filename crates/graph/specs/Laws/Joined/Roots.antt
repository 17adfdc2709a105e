-- Theorem 4: two vertices have the same root exactly when they are joined. And the ways down the tree that avoid a
-- wire.
use Rattle.std.specs.Prelude.{ℕ, ◌<◌, ◌≡◌, refl, ◌↔◌, true, length}
use Rattle.std.proofs.Common.{sym, ◌∙◌, ap, inl, inr, arith}
use mathlib.Core.List.{Memᴰ}
use Rattle.graph.specs.Graph.{Blocks, Place, WellFormed}
use Rattle.graph.specs.Search.{via, Forest, PlaceTest, all}
use Rattle.graph.specs.Joined.{Chain, here, along, without}
use Rattle.graph.specs.Forest.{number, root_of, Ancestor, child}
use Rattle.graph.specs.Laws.Places.Pairing.{twin_place}
use Rattle.graph.specs.Laws.Tree.Entries.{Entered, forest_ind}
use Rattle.graph.specs.Laws.Tree.Numbers.{parent_first}
use Rattle.graph.specs.Laws.Tree.Climbs.{root_itself, root_parent}
use Rattle.graph.specs.Laws.Tree.Ancestors.{ancestor_root, ancestor_same}
use Rattle.graph.specs.Laws.Joined.Chains.{chain_trans, chain_one, chain_sym, all_twinned, OnWire, this, that}
use Rattle.graph.specs.Laws.Joined.Chains.{wire_stays}
use Rattle.graph.specs.Laws.Joined.Spanning.{Spanning, tree_place, ends_related}

module _ {g : Blocks} {F : Forest} (span : Spanning g F) where
  -- down from the root, where the tree places on the way are allowed; Q tells the way
  tree_chain : {ok : PlaceTest} (Q : ℕ → Type 0) → ((u j v : ℕ) → Memᴰ (via u j v) F → Q v → Q u × (ok u j ≡ true))
      → (v : ℕ) → Entered v F → Q v → Chain g ok (root_of F v) v
  tree_chain {ok} Q f = forest_ind (λ v. Q v → Chain g ok (root_of F v) v) span.built
      (λ v m h. rw (root_itself span.built m) here)
      (λ u j v m c h. let (a, o) = f u j v m h in rw (root_parent span.built m)
      (chain_trans (c a) (chain_one (tree_place span m) o)))

  -- where every tree place is allowed
  pub tree_chain_all : {ok : PlaceTest} → ((u j v : ℕ) → Memᴰ (via u j v) F → ok u j ≡ true) → (v : ℕ)
      → Entered v F → Chain g ok (root_of F v) v
  tree_chain_all f v i = tree_chain (λ x. Unit {0}) (λ u j x m t. (tt, f u j x m)) v i tt

  module _ (wf : WellFormed g) where
    pub place_root : {u j v : ℕ} → Place g u j v → root_of F u ≡ root_of F v
    place_root p =
        elim (ends_related span wf p) [
          | inl q ↦ sym (ancestor_root span.built q)
          | inr q ↦ ancestor_root
              span.built q
        ]

    pub chain_root : {ok : PlaceTest} {u v : ℕ} → Chain g ok u v → root_of F u ≡ root_of F v
    chain_root here = refl
    chain_root (along p o c) = place_root p ∙ chain_root c

    pub same_root_joined : (u v : ℕ) → u < length g → v < length g → (root_of F u ≡ root_of F v) ↔ Chain g all u v
    same_root_joined u v hu hv =
        (λ e. chain_trans (chain_sym wf (all_twinned g) (down u hu)) (rw e (down v hv)), λ c. chain_root c)
      where
        down : (x : ℕ) → x < length g → Chain g all (root_of F x) x
        down x h = tree_chain_all (λ a j y m. refl) x (span.whole x h)

    module _ {p j c : ℕ} (m : Memᴰ (via p j c) F) where
      -- another tree place is not on the tree wire into c
      pub tree_without : {u i y : ℕ} → Memᴰ (via u i y) F → (y ≡ c → ⊥) → without g p j u i ≡ true
      tree_without {u} {i} {y} k h = wire_stays g p j u i bad
        where
          bad : OnWire g p j u i → ⊥
          bad (this a b) =
              let e₁ = (tree_place span m).leads in
              let e₂ = (tree_place span k).leads in
              h (cc)
          bad (that a b) =
              let e₁ = (tree_place span m).leads in
              let e₂ = (tree_place span k).leads in
              let e₃ = (twin_place wf (tree_place span m)).leads in
              let uc : u ≡ c = cc in
              let yp : y ≡ p = cc in
              let n₁ = ap (number F) uc in
              let n₂ = ap (number F) yp in
              let l₁ = parent_first span.built m in
              let l₂ = parent_first span.built k in
              omega arith

      -- so what does not descend from c has a way down without that wire
      pub chain_beside : (v : ℕ) → Entered v F → (Ancestor F c v → ⊥) → Chain g (without g p j) (root_of F v) v
      chain_beside =
          tree_chain (λ v. Ancestor F c v → ⊥)
          (λ u i v k h. (λ q. h (child k q), tree_without k (λ e. h (ancestor_same (sym e)))))
