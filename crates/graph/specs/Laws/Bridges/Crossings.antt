-- Theorem 5: which wires are bridges. None outside the tree; the tree wire into c exactly when no other wire leaves the
-- descendants of c.
use Rattle.std.specs.Prelude.{ℕ, ◌≡◌, ◌↔◌, true, false}
use Rattle.std.proofs.Common.{sym, ◌∙◌, ap, subst, arith}
use mathlib.Core.List.{Memᴰ}
use Rattle.std.proofs.lemmas.Bool.{not-false}
use Rattle.graph.specs.Graph.{Blocks, target, Place, twin, WellFormed}
use Rattle.graph.specs.Search.{via, Forest}
use Rattle.graph.specs.Joined.{Chain, here, along, without, joined, bridge}
use Rattle.graph.specs.Forest.{number, root_of, Ancestor, self, child, child_mark, parent_mark}
use Rattle.graph.specs.Laws.Places.Basics.{Told, pass, fail, told, clash}
use Rattle.graph.specs.Laws.Places.Pairing.{InRange, source, both_ends, twin_place, twin_twin}
use Rattle.graph.specs.Laws.Tree.Entries.{parent_entered}
use Rattle.graph.specs.Laws.Tree.Numbers.{parent_first}
use Rattle.graph.specs.Laws.Tree.Climbs.{root_parent}
use Rattle.graph.specs.Laws.Tree.Ancestors.{ancestor_first, ancestor_root, parent_not_below, dec_ancestor}
use Rattle.graph.specs.Laws.Joined.Chains.{chain_trans, chain_one, chain_map, chain_sym, OnWire, this, that}
use Rattle.graph.specs.Laws.Joined.Chains.{wire_stays, without_same, without_twinned}
use Rattle.graph.specs.Laws.Joined.Reach.{joined_chain}
use Rattle.graph.specs.Laws.Joined.Spanning.{Spanning, tree_place, source_entered, target_entered}
use Rattle.graph.specs.Laws.Joined.Roots.{tree_chain_all, place_root, tree_without, chain_beside}
use Rattle.graph.specs.Laws.Edges.Marks.{child_mark_lem, mark_paired}

-- ---- the mark

-- no mark: the ends are joined without the wire
pub bridge_joined : {g : Blocks} → InRange g → {u j v : ℕ} → Place g u j v
    → (bridge g u j ≡ false) ↔ Chain g (without g u j) u v
unfolding bridge
bridge_joined {g} r {u} {j} {v} p = (
  λ e. subst (λ x. Chain g (without g u j) u x) p.leads
      (test.0 (not-false (joined g (without g u j) u (target g u j)) e)),
  λ c. rw (test.1 (subst (λ x. Chain g (without g u j) u x) (sym p.leads) c)),
)
  where
    test : (joined g (without g u j) u (target g u j) ≡ true) ↔ Chain g (without g u j) u (target g u j)
    test = joined_chain r (without g u j) u (target g u j) (source p)

pub bridge_parts : {g : Blocks} → InRange g → {u j v : ℕ} → Place g u j v → bridge g u j ≡ true
    → Chain g (without g u j) u v → ⊥
bridge_parts r p e c = clash e ((bridge_joined r p).1 c)

module _ {g : Blocks} (wf : WellFormed g) where
  turned : {u j v : ℕ} → Place g u j v → Chain g (without g u j) u v → Chain g (without g v (twin g u j)) v u
  turned {u} {j} {v} p c =
      let q = twin_place wf p in
      let w : OnWire g v (twin g u j) u j = that (sym q.leads) (sym (twin_twin wf p)) in
      chain_sym wf (without_twinned wf q) (chain_map (without_same wf q w) c)

  -- of several wires between two vertices none is a bridge
  pub doubled_no_bridge : {u i j v : ℕ} → Place g u j v → Place g u i v → (i ≡ j → ⊥) → bridge g u j ≡ false
  doubled_no_bridge {u} {i} {j} p q n = (bridge_joined wf.in_range p).1 (chain_one q (wire_stays g u j u i other))
    where
      other : OnWire g u j u i → ⊥
      other (this a b) = n b
      other (that a b) = wf.no_loop u j (record { fits = p.fits; leads = sym a })

  -- both places of a wire bear the mark, or neither
  pub bridge_twin : {u j v : ℕ} → Place g u j v → bridge g v (twin g u j) ≡ bridge g u j
  bridge_twin {u} {j} {v} p = go (told (bridge g u j)) (told (bridge g v (twin g u j)))
    where
      q : Place g v (twin g u j) u
      q = twin_place wf p

      again : Chain g (without g v (twin g u j)) v u → Chain g (without g u j) u v
      again c = subst (λ x. Chain g (without g u x) u v) (twin_twin wf p) (turned q c)

      go : Told (bridge g u j) → Told (bridge g v (twin g u j)) → bridge g v (twin g u j) ≡ bridge g u j
      go (pass a) (pass b) = b ∙ sym a
      go (fail a) (fail b) = b ∙ sym a
      go (pass a) (fail b) = absurd (bridge_parts wf.in_range p a (again ((bridge_joined wf.in_range q).0 b)))
      go (fail a) (pass b) = absurd (bridge_parts wf.in_range q b (turned p ((bridge_joined wf.in_range p).0 a)))

-- ---- wires outside the tree

module _ {g : Blocks} (wf : WellFormed g) {F : Forest} (span : Spanning g F) where
  pub outside_no_bridge : {u i w : ℕ} → Place g u i w → child_mark F u i ≡ false → parent_mark g g F u i ≡ false
      → bridge g u i ≡ false
  outside_no_bridge {u} {i} {w} p h k = (bridge_joined wf.in_range p).1
      (chain_trans (chain_sym wf (without_twinned wf p) (tree_chain_all span free u (source_entered span p)))
      (rw (place_root span wf p) (tree_chain_all span free w (target_entered span p))))
    where
      bad : {a b y : ℕ} → Memᴰ (via a b y) F → OnWire g u i a b → ⊥
      bad {a} {b} {y} m (this r s) =
          clash (child_mark_lem m)
          (subst (λ x. child_mark F x b ≡ false) (sym r) (subst (λ x. child_mark F u x ≡ false) (sym s) h))
      bad {a} {b} {y} m (that r s) =
          let e₁ = mark_paired (both_ends wf) span.built (twin_place wf p) in
          let e₂ = twin_twin wf p in
          let e₃ = p.leads in
          let e₄ : parent_mark g g F u i ≡ child_mark F w (twin g u i) = rw e₂ at e₁ in
          let e₅ : a ≡ w = cc in
          let e₆ : child_mark F a b ≡ false = cc in
          clash (child_mark_lem m) e₆

      free : (a b y : ℕ) → Memᴰ (via a b y) F → without g u i a b ≡ true
      free a b y m = wire_stays g u i a b (bad m)

-- ---- the tree wire into c, which is at (p, j)

-- another wire leads from a descendant of c to a vertex that is none
pub record Crossing (g : Blocks) (F : Forest) (p j c : ℕ) : Type 0 where
  pub from : ℕ
  pub at : ℕ
  pub to : ℕ
  pub place : Place g from at to
  pub other : without g p j from at ≡ true
  pub inside : Ancestor F c from
  pub outside : Ancestor F c to → ⊥

module _ {g : Blocks} (wf : WellFormed g) {F : Forest} (span : Spanning g F) {p j c : ℕ}
    (m : Memᴰ (via p j c) F) where
  inner : {x : ℕ} → Ancestor F c x → Chain g (without g p j) c x
  inner self = here
  inner (child {v = y} k q) =
      let ne : y ≡ c → ⊥ =
      λ (e : y ≡ c).
      (omega (arith, parent_first span.built k, ancestor_first span.built q, ap (number F) e)) in
      chain_trans (inner q) (chain_one (tree_place span k) (tree_without span wf m k ne))

  crossing_joined : Crossing g F p j c → Chain g (without g p j) p c
  crossing_joined x =
      let tw = without_twinned wf (tree_place span m) in
      let up = chain_beside span wf m x.to (target_entered span x.place) x.outside in
      let at_p = chain_beside span wf m p (parent_entered span.built m) (parent_not_below span.built m) in
      let e₁ = ancestor_root span.built x.inside in
      let e₂ = place_root span wf x.place in
      let e₃ = root_parent span.built m in
      let e : root_of F x.to ≡ root_of F p = cc in
      chain_trans (chain_sym wf tw at_p)
      (chain_trans (rw e at up)
      (chain_sym wf tw (chain_trans (inner x.inside) (chain_one x.place x.other))))

  -- with no such wire, chains from c stay below c
  stays_below : (Crossing g F p j c → ⊥) → {x y : ℕ} → Chain g (without g p j) x y → Ancestor F c x → Ancestor F c y
  stays_below h here q = q
  stays_below h (along {u = d} {j = i} {v = w} pl o r) q =
      stays_below h r (elim (dec_ancestor span.built c w (target_entered span pl)) [
        | yes z ↦ z
        | no n ↦ absurd (h (record { from = d; at = i; to = w; place = pl; other = o; inside = q; outside = n }))
      ])

  pub bridge_crossing : (bridge g p j ≡ true) ↔ (Crossing g F p j c → ⊥)
  bridge_crossing = (
    λ e x. bridge_parts wf.in_range (tree_place span m) e (crossing_joined x),
    λ h. go h (told (bridge g p j)),
  )
    where
      go : (Crossing g F p j c → ⊥) → Told (bridge g p j) → bridge g p j ≡ true
      go h (pass e) = e
      go h (fail e) =
          let r = (bridge_joined wf.in_range (tree_place span m)).0 e in
          absurd (parent_not_below span.built m
          (stays_below h (chain_sym wf (without_twinned wf (tree_place span m)) r) self))
