-- Theorem 5 by lowpoints: the tree wire into c is a bridge exactly when c's lowpoint is its own visit number.
-- Stated for any table that meets the rule at each vertex, so that a program may fill it as it likes.
use Rattle.std.specs.Prelude.{ℕ, zero, suc, ◌+◌, ◌≤◌, ◌<◌, ◌≡◌, ◌⊎◌, ◌↔◌, true, eqb, length}
use Rattle.std.proofs.Common.{sym, ◌∙◌, ap, subst, inl, inr, arith, eqb-true, eq-eqb}
use mathlib.Core.List.{Memᴰ}
use Rattle.std.proofs.Math.Decide.{dec_lt}
use Rattle.graph.specs.Graph.{Blocks, target, Place, twin, WellFormed}
use Rattle.graph.specs.Search.{via, Forest}
use Rattle.graph.specs.Joined.{bridge}
use Rattle.graph.specs.Forest.{number, Ancestor, self, child, child_mark, parent_mark}
use Rattle.graph.specs.Laws.Places.Basics.{clash, same_outcome}
use Rattle.graph.specs.Laws.Places.Pairing.{both_ends, twin_place}
use Rattle.graph.specs.Laws.Tree.Entries.{Entered, entry_entered, entry_once}
use Rattle.graph.specs.Laws.Tree.Numbers.{number_bound, parent_first}
use Rattle.graph.specs.Laws.Tree.Ancestors.{ancestor_first, ancestor_trans, ancestor_of_child, parent_not_below}
use Rattle.graph.specs.Laws.Tree.Ancestors.{ancestors_chain}
use Rattle.graph.specs.Laws.Joined.Chains.{OnWire, this, that, wire_out, wire_stays}
use Rattle.graph.specs.Laws.Joined.Spanning.{Spanning, tree_place, source_entered, ends_related}
use Rattle.graph.specs.Laws.Edges.Marks.{Back, back, child_mark_entry, marked_back}
use Rattle.graph.specs.Laws.Bridges.Crossings.{Crossing, bridge_crossing, bridge_twin}

-- why t has its value at c; of the children, those with visit number m or more count
pub data Attained (g : Blocks) (F : Forest) (m : ℕ) (t : ℕ → ℕ) (c : ℕ) : Type 0 where
  by_self : t c ≡ number F c → Attained g F m t c
  by_place : (i w : ℕ) → Place g c i w → (Back g g F c i → ⊥) → t c ≡ number F w → Attained g F m t c
  by_child : (j x : ℕ) → Memᴰ (via c j x) F → m ≤ number F x → t c ≡ t x → Attained g F m t c

-- t is at each vertex the least of its visit number, of those at its places but the way back, and of t at the children
-- that count
pub record Lows (g : Blocks) (F : Forest) (m : ℕ) (t : ℕ → ℕ) : Type 0 where
  pub at_most : (c : ℕ) → Entered c F → t c ≤ number F c
  pub at_place : (c i w : ℕ) → Place g c i w → (Back g g F c i → ⊥) → t c ≤ number F w
  pub at_child : (c j x : ℕ) → Memᴰ (via c j x) F → m ≤ number F x → t c ≤ t x
  pub attained : (c : ℕ) → Entered c F → Attained g F m t c

-- the lowpoints: all children count
abbrev pub Lowpoints : Blocks → Forest → (ℕ → ℕ) → Type 0
Lowpoints g F t = Lows g F 0 t

-- a place from below c that reaches l
record Dip (g : Blocks) (F : Forest) (c l : ℕ) : Type 0 where
  from : ℕ
  at : ℕ
  to : ℕ
  place : Place g from at to
  forth : Back g g F from at → ⊥
  inside : Ancestor F c from
  low : number F to ≡ l

module _ {g : Blocks} (wf : WellFormed g) {F : Forest} (span : Spanning g F) {t : ℕ → ℕ} (lo : Lowpoints g F t) where
  low_below : {c d : ℕ} → Ancestor F c d → t c ≤ t d
  low_below self = omega arith
  low_below (child {u = u} {j = j} {v = v} m q) =
      let a = low_below q in
      let b = lo.at_child u j v m (omega arith) in
      omega arith

  dip : (k c : ℕ) → Entered c F → length F ≤ number F c + k → t c < number F c → Dip g F c (t c)
  dip zero c i h l = absurd (omega (arith, number_bound i))
  dip (suc k) c i h l = go (lo.attained c i) (λ x ix hx lx. dip k x ix hx lx)
    where
      go : Attained g F 0 t c → ((x : ℕ) → Entered x F → length F ≤ number F x + k → t x < number F x → Dip g F x (t x))
          → Dip g F c (t c)
      go (by_self e) rec = absurd (omega arith)
      go (by_place j w p nb e) rec =
          record { from = c; at = j; to = w; place = p; forth = nb; inside = self; low = sym e }
      go (by_child j x m a e) rec =
          let pf = parent_first span.built m in
          let r = rec x (entry_entered m) (omega arith) (omega arith) in
          record {
            from = r.from;
            at = r.at;
            to = r.to;
            place = r.place;
            forth = r.forth;
            inside = ancestor_trans
                (child m self) r.inside;
            low = r.low ∙ sym e;
          }

  module _ {p j c : ℕ} (m : Memᴰ (via p j c) F) where
    low_crossing : t c < number F c → Crossing g F p j c
    low_crossing l =
        let r = dip (length F) c (entry_entered m) (omega arith) l in
        let e = r.low in
        record {
          from = r.from;
          at = r.at;
          to = r.to;
          place = r.place;
          other = wire_stays g p j r.from r.at (bad r.forth r.inside);
          inside = r.inside;
          outside = λ (q : Ancestor F c r.to). (let z = ancestor_first span.built q in omega arith);
        }
      where
        bad : {d i : ℕ} → (Back g g F d i → ⊥) → Ancestor F c d → OnWire g p j d i → ⊥
        bad nb q (this a b) = parent_not_below span.built m (subst (λ x. Ancestor F c x) a q)
        bad {d} nb q (that a b) =
            let e₁ = (tree_place span m).leads in
            let e : c ≡ d = cc in
            nb (back p j (subst (λ x. Memᴰ (via p j x) F) e m) b)

    -- the wire of a crossing is not the way back from its vertex
    crossing_forth : (x : Crossing g F p j c) → Back g g F x.from x.at → ⊥
    crossing_forth x (back p' j' k e) = ends (ancestor_of_child span.built k x.inside)
      where
        e₁ : target g x.from x.at ≡ x.to
        e₁ = x.place.leads

        e₂ : target g x.from (twin g p' j') ≡ p'
        e₂ = (twin_place wf (tree_place span k)).leads

        e₃ : target g p j ≡ c
        e₃ = (tree_place span m).leads

        ends : (c ≡ x.from) ⊎ Ancestor F c p' → ⊥
        ends (inl q) =
            let f : via p j c ≡ via p' j' x.from = entry_once span.built m k q in
            let f₁ : p ≡ p' = cc in
            let f₂ : j ≡ j' = cc in
            let f₃ : x.from ≡ target g p j = cc e₃ in
            let f₄ : x.at ≡ twin g p j = cc in
            clash x.other (wire_out (that f₃ f₄))
        ends (inr q) = let f : p' ≡ x.to = cc (e₁, e₂) in x.outside (subst (λ y. Ancestor F c y) f q)

    crossing_low : Crossing g F p j c → t c < number F c
    crossing_low x = go (dec_lt (t c) (number F c))
      where
        go : Dec (t c < number F c) → t c < number F c
        go (yes l) = l
        go (no n) =
            let a = low_below x.inside in
            let b = lo.at_place x.from x.at x.to x.place (crossing_forth x) in
            absurd (x.outside (elim (ends_related span wf x.place) [
              | inl q ↦ ancestor_trans x.inside q
              | inr q ↦ ancestors_chain span.built x.from (source_entered span x.place) q x.inside
                  (omega arith)
            ]))

    pub bridge_lowpoint : (bridge g p j ≡ true) ↔ (t c ≡ number F c)
    bridge_lowpoint = (
      λ e. elim (dec_lt (t c) (number F c)) [
        | yes l ↦ absurd ((bridge_crossing wf span m).0 e (low_crossing l))
        | no n ↦ (let a = lo.at_most c (entry_entered m) in omega arith)
      ],
      λ e. (bridge_crossing wf span m).1 (λ x. let l = crossing_low x in omega arith),
    )

  -- ---- the mark at a place, by the lowpoints

  low_test : {p j c : ℕ} → Memᴰ (via p j c) F → eqb (t c) (number F c) ≡ bridge g p j
  low_test {p} {j} {c} m = same_outcome (eqb (t c) (number F c)) (bridge g p j) (
    λ e. (bridge_lowpoint m).1 (eqb-true (t c) (number F c) e),
    λ e. eq-eqb (t c) (number F c) ((bridge_lowpoint m).0 e),
  )

  -- at a child mark the child's lowpoint tells, at a parent mark the vertex's own
  pub bridge_at_child : {u i v : ℕ} → Place g u i v → child_mark F u i ≡ true → eqb (t v) (number F v) ≡ bridge g u i
  bridge_at_child p e = low_test ((child_mark_entry span.built p).0 e)

  pub bridge_at_parent : {u i v : ℕ} → Place g u i v → parent_mark g g F u i ≡ true
      → eqb (t u) (number F u) ≡ bridge g u i
  bridge_at_parent {u} {i} p e = go (marked_back (both_ends wf) span.built p e)
    where
      go : Back g g F u i → eqb (t u) (number F u) ≡ bridge g u i
      go (back q j m a) = low_test m ∙ (sym (bridge_twin wf (tree_place span m)) ∙ ap (bridge g u) (sym a))
