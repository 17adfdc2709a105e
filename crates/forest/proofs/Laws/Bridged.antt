-- Section B, vertex by vertex: where a vertex's lowpoint is its own visit number, it owns both ends of the edge to it.
--   bridge_step   what a vertex does to the bits
--   Bridging      the marks of the vertices below c are there, for every forest that the work slice shows
--   bridging_begin, bridging_asks, bridging_more, bridging_end   before the first, before and after one, past the last
use mathlib.Core.Path.{◌≡◌, refl, sym, ap, subst, ◌∙◌}
use mathlib.Core.Logic.{◌⊎◌, inl, inr}
use mathlib.Core.Bool.{Bool, true, false}
use mathlib.Core.List.{List, Memᴰ}
use Prim.Native.Nat.{ℕ, suc, ◌+◌, ◌*◌, ◌≤◌, ◌<◌}
use native.Mathlib.Omega.{arith}
use borrow.Author.Tests.{eq-eqb, eqb-true}
use lib.Dec.{eqb}
use lib.ListN.{length, get_or, replicate}
use Rattle.bits.specs.Bits.{bits}
use Rattle.bits.specs.Laws.Bytes.{AreBytes}
use Rattle.bits.specs.Laws.Packing.{zero_bits}
use Rattle.graph.specs.Graph.{Blocks, block, target, WellFormed, twin}
use Rattle.graph.specs.Search.{Forest, via}
use Rattle.graph.specs.Joined.{bridge}
use Rattle.graph.specs.Forest.{number, child_mark, parent_mark}
use Rattle.graph.specs.Laws.Places.Basics.{Told, pass, fail, told, fails, clash}
use Rattle.graph.specs.Laws.Places.Pairing.{place_at, both_ends}
use Rattle.graph.specs.Laws.Tree.Numbers.{parent_first}
use Rattle.graph.specs.Laws.Tree.Climbs.{parent_child}
use Rattle.graph.specs.Laws.Joined.Spanning.{Spanning, tree_place}
use Rattle.graph.specs.Laws.Edges.Marks.{Back, back, child_mark_entry, back_parent, back_place}
use Rattle.graph.specs.Laws.Bridges.Crossings.{outside_no_bridge}
use Rattle.graph.specs.Laws.Bridges.Lowpoints.{Lows, bridge_at_child, bridge_at_parent}
use Rattle.forest.specs.Steps.{Room}
use Rattle.forest.specs.Lows.{Lifting, Lifts}
use Rattle.forest.specs.Marks.{child_end, bridge_marks, marked, BridgeStep, parts, stays}
use Rattle.forest.proofs.Laws.Graphs.{Sized}
use Rattle.forest.specs.Laws.Marking.{also}
use Rattle.forest.proofs.Laws.Marked.{no_marks, bits_also, same_bits}
use Rattle.forest.proofs.Laws.Marked.{Own, owns_none, owns_two, upto_none, upto_all}
use Rattle.forest.proofs.Laws.Listed.{Owns, nothing, one, owns_below}
use Rattle.forest.proofs.Laws.Owned.{entry_at, child_own, children_own, back_at, parent_own, parents_own}

-- the marks that c owns in E, in P and in B
abbrev OwnChild : Blocks → Forest → ℕ → ℕ → ℕ → Type 0
OwnChild g F c x i = Own (child_mark F) (target g) c x i

abbrev OwnParent : Blocks → Forest → ℕ → ℕ → ℕ → Type 0
OwnParent g F c x i = Own (parent_mark g g F) (λ u j. u) c x i

abbrev OwnBridge : Blocks → Forest → ℕ → ℕ → ℕ → Type 0
OwnBridge g F c x i = Own (bridge g) (child_end g F) c x i

-- ---- the owner of a mark of B

child_end_lem : (g : Blocks) (F : Forest) (x i : ℕ) → child_mark F x i ≡ true → child_end g F x i ≡ target g x i
unfolding child_end
child_end_lem g F x i e = rw (e, child_end)

own_end : (g : Blocks) (F : Forest) (x i : ℕ) → child_mark F x i ≡ false → child_end g F x i ≡ x
unfolding child_end
own_end g F x i e = rw (e, child_end)

module _ {g : Blocks} (wf : WellFormed g) {F : Forest} (span : Spanning g F) {c : ℕ} where
  -- it is a mark of E or of P
  bridge_own : (x i : ℕ) → i < length (block g x) → OwnBridge g F c x i → OwnChild g F c x i ⊎ OwnParent g F c x i
  bridge_own x i l o = go (told (child_mark F x i)) (told (parent_mark g g F x i))
    where
      go : Told (child_mark F x i) → Told (parent_mark g g F x i) → OwnChild g F c x i ⊎ OwnParent g F c x i
      go (pass e) p = inl (record { is_marked = e; owned = sym (child_end_lem g F x i e) ∙ o.owned })
      go (fail e) (pass p) = inr (record { is_marked = p; owned = sym (own_end g F x i e) ∙ o.owned })
      go (fail e) (fail p) = absurd (clash o.is_marked (outside_no_bridge wf span (place_at l) e p))

  -- where c owns no mark of E, it owns none of P, and the other way round
  no_parent : ((x i : ℕ) → i < length (block g x) → OwnChild g F c x i → ⊥)
      → (x i : ℕ) → i < length (block g x) → OwnParent g F c x i → ⊥
  no_parent n x i l o = elim (back_at (both_ends wf) span.built l o) [
    | back u j m e ↦ n u j (tree_place span m).fits (child_own span m)
  ]

  has_parent : {u j : ℕ} → Memᴰ (via u j c) F
      → ((x i : ℕ) → i < length (block g x) → OwnParent g F c x i → ⊥) → ⊥
  has_parent {u} {j} m n =
      let r : Back g g F c (twin g u j) = back u j m refl in
      n c (twin g u j) (back_place (both_ends wf) span.built r) (parent_own (both_ends wf) span.built r)

  -- the way back is not a way down
  not_down : {x i : ℕ} → i < length (block g x) → OwnParent g F c x i → child_mark F x i ≡ true → ⊥
  not_down {x} {i} l o a = go (back_at (both_ends wf) span.built l o)
    where
      go : Back g g F c i → ⊥
      go (back u j m e) =
          let up = back_parent (both_ends wf) span.built (back u j m e) in
          let p = parent_child span.built m in
          let r = parent_first span.built m in
          let s = parent_first span.built ((child_mark_entry span.built (place_at l)).0 a) in
          let q : u ≡ target g c i = omega arith in
          let f = ap (number F) q in
          let y = ap (number F) o.owned in
          let w = ap (λ (v : ℕ). number F (target g v i)) o.owned in
          omega arith

  -- ---- the lowpoint tells

  module _ {t : ℕ → ℕ} (lo : Lows g F 0 t) where
    tells : {x i : ℕ} → i < length (block g x) → OwnChild g F c x i ⊎ OwnParent g F c x i
        → eqb (t c) (number F c) ≡ bridge g x i
    tells l (inl o) = rw o.owned at (bridge_at_child wf span lo (place_at l) o.is_marked)
    tells {x} {i} l (inr o) =
        subst (λ (v : ℕ). eqb (t v) (number F v) ≡ bridge g x i) o.owned
        (bridge_at_parent wf span lo (place_at l) o.is_marked)

    no_bridge : (t c ≡ number F c → ⊥) → (x i : ℕ) → i < length (block g x) → OwnBridge g F c x i → ⊥
    no_bridge d x i l o = d (eqb-true (t c) (number F c) (tells l (bridge_own x i l o) ∙ o.is_marked))

    module _ (same : t c ≡ number F c) where
      own_down : {x i : ℕ} → i < length (block g x) → OwnChild g F c x i → OwnBridge g F c x i
      own_down {x} {i} l o = record {
        is_marked = sym (tells l (inl o)) ∙ eq-eqb (t c) (number F c) same;
        owned = child_end_lem g F x i o.is_marked ∙ o.owned;
      }

      own_up : {x i : ℕ} → i < length (block g x) → OwnParent g F c x i → OwnBridge g F c x i
      own_up {x} {i} l o = record {
        is_marked = sym (tells l (inr o)) ∙ eq-eqb (t c) (number F c) same;
        owned = own_end g F x i (fails (child_mark F x i) (not_down l o)) ∙ o.owned;
      }

    pub bridge_step : {d b low visit : ℕ} {s s' : List Bool} → Owns g (child_mark F) (target g) c d
        → Owns g (parent_mark g g F) (λ u j. u) c b → low ≡ suc (t c) → visit ≡ suc (number F c)
        → s ≡ bits (marked g (bridge_marks g F c)) → BridgeStep d b low visit s s'
        → s' ≡ bits (marked g (bridge_marks g F (c + 1)))
    bridge_step (nothing z n) p el ev is (stays d e) =
        e ∙ is ∙ ap bits (owns_none g (bridge g) (child_end g F) c (λ x i l o. (
        elim (bridge_own x i l o) [ inl a ↦ n x i l a | inr b ↦ no_parent n x i l b ]
        )))
    bridge_step (one u j f at o n) p el ev is (stays d e) =
        e ∙ is ∙ ap bits (owns_none g (bridge g) (child_end g F) c (no_bridge (λ q. d (omega arith) (omega arith))))
    bridge_step (nothing z n) p el ev is (parts h q e) = absurd (omega arith)
    bridge_step (one u j f at o n) (nothing z m) el ev is (parts h q e) = absurd (has_parent (entry_at span f o) m)
    bridge_step (one u j f at o n) (one w k f' at' o' n') el ev is (parts h q e) =
        let same : t c ≡ number F c = omega arith in
        let test = bridge_marks g F c in
        let both = owns_two g (bridge g) (child_end g F) c (own_down same f o) (own_up same f' o') (λ x i l r. (
        elim (bridge_own x i l r) [ inl a ↦ inl (n x i l a) | inr b ↦ inr (n' x i l b) ]
        )) in
        cc (bits_also g test u j f, bits_also g (also test u j) w k f')

-- ---- all vertices

pub record Bridging (g : Blocks) (n s : ℕ) (work section₀ section : List ℕ) (c : ℕ) : Type 0 where
  pub upto : c ≤ n
  pub same_size : length section ≡ length section₀
  pub are_bytes : AreBytes section
  pub each : (F : Forest) → Lifting g F n s work 0 → bits section ≡ bits (marked g (bridge_marks g F c))

pub bridging_begin : {g : Blocks} {n m k : ℕ} (s : ℕ) (work : List ℕ) {section : List ℕ} → Sized g n m k
    → section ≡ replicate k 0 → AreBytes section → Bridging g n s work section section 0
bridging_begin {g} {k = k} s work z e are = record {
  upto = omega arith;
  same_size = refl;
  are_bytes = are;
  each = λ F f. cc (zero_bits k, no_marks z, upto_none g (bridge g) (child_end g F));
}

module _ {g : Blocks} {n s c : ℕ} {work section₀ section : List ℕ} (wf : WellFormed g)
    (t : Bridging g n s work section₀ section c) where
  down : {F : Forest} → length g ≡ n → Lifting g F n s work 0 → c < n
      → Owns g (child_mark F) (target g) c (get_or work (4 * s + c) 0)
  down many f h = rw (f.searched.downs c h) (children_own f.searched.spans (omega arith))

  up : {F : Forest} → Lifting g F n s work 0 → c < n → Owns g (parent_mark g g F) (λ u j. u) c (get_or work c 0)
  up f h = parents_own (both_ends wf) f.searched.spans.built (f.backs c h)

  pub bridging_asks : {m k : ℕ} → Sized g n m k → length section₀ ≡ k → Lifts g n s work 0 → c < n
      → (Room n s work × (c < n))
      × ((get_or work (4 * s + c) 0 < 8 * length section) × (get_or work c 0 < 8 * length section))
  bridging_asks z e l h =
      let f = l.lifting in
      let a = owns_below z f.searched.room.some (down z.vertices f h) in
      let b = owns_below z f.searched.room.some (up f h) in
      ((f.searched.room, h), (omega arith, omega arith))

  pub bridging_more : {next : List ℕ} → length g ≡ n → c < n → AreBytes next → length next ≡ length section
      → BridgeStep (get_or work (4 * s + c) 0) (get_or work c 0) (get_or work (5 * s + c) 0) (get_or work (2 * s + c) 0)
      (bits section) (bits next)
      → Bridging g n s work section₀ next (c + 1)
  bridging_more many h are e step = record {
    upto = omega arith;
    same_size = e ∙ t.same_size;
    are_bytes = are;
    each = λ F f. bridge_step wf f.searched.spans f.lows (down many f h) (up f h) (f.low_cells c h)
        (f.searched.visits c h) (t.each F f) step;
  }

  pub bridging_end : length g ≡ n → Lifts g n s work 0 → n ≤ c → section ≡ marked g (bridge g)
  bridging_end many l h =
      same_bits g (bridge g) t.are_bytes
      (t.each l.forest l.lifting ∙ ap bits (upto_all g (bridge g) (child_end g l.forest) below))
    where
      span : Spanning g l.forest
      span = l.lifting.searched.spans

      below : (x i : ℕ) → x < length g → i < length (block g x) → child_end g l.forest x i < c
      below x i a k = go (told (child_mark l.forest x i))
        where
          go : Told (child_mark l.forest x i) → child_end g l.forest x i < c
          go (pass e) =
              let w = span.within (target g x i) (span.closed x i (target g x i) (place_at k)) in
              let q = child_end_lem g l.forest x i e in
              omega arith
          go (fail e) = let q = own_end g l.forest x i e in omega arith
