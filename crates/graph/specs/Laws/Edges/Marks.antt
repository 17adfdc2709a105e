-- Theorem 2: child marks and parent marks stand at paired places and show the same tree edges.
use Rattle.std.specs.Prelude.{ℕ, suc, ◌<◌, ◌≡◌, refl, ◌⊎◌, ◌↔◌, true, false, ◌&&◌, eqb, length}
use Rattle.std.proofs.Common.{sym, ◌∙◌, ap, subst, inl, inr, arith, eqb-true, eq-eqb}
use mathlib.Core.List.{[], ◌∷◌, Memᴰ}
use Rattle.graph.specs.Graph.{Blocks, block, target, Place, position, pair}
use Rattle.graph.specs.Search.{root, via, Forest}
use Rattle.graph.specs.Forest.{parent, child_mark, parent_mark}
use Rattle.graph.specs.Laws.Places.Basics.{clash, fails, or_cases, or_left, or_right, and_parts, and_both}
use Rattle.graph.specs.Laws.Places.Pairing.{Balanced, balanced_sym, place_at, pair_place, pair_pair}
use Rattle.graph.specs.Laws.Tree.Entries.{Entered, Entry, as_root, as_child, entry, via_root, Built, entry_once}
use Rattle.graph.specs.Laws.Tree.Entries.{entry_allowed}
use Rattle.graph.specs.Laws.Tree.Climbs.{parent_root, parent_child, slot, child_entry}
use Rattle.graph.specs.Laws.Joined.Spanning.{Spanning, tree_place, tree_position, tree_pair}

-- ---- a child mark is an entry

pub record Child (F : Forest) (u j : ℕ) : Type 0 where
  pub vertex : ℕ
  pub entry_at : Memᴰ (via u j vertex) F

pub mark_child : (F : Forest) (u j : ℕ) → child_mark F u j ≡ true → Child F u j
unfolding child_mark
mark_child [] u j e = absurd (clash e refl)
mark_child (root v ∷ F) u j e =
    let c = mark_child F u j e in
    record { vertex = c.vertex; entry_at = Memᴰ.tail c.entry_at }
mark_child (via p i v ∷ F) u j e = go (λ h. mark_child F u j h) (or_cases (eqb u p && eqb j i) (child_mark F u j) e)
  where
    go : (child_mark F u j ≡ true → Child F u j) → (eqb u p && eqb j i ≡ true) ⊎ (child_mark F u j ≡ true)
        → Child (via p i v ∷ F) u j
    go rec (inl h) =
        let (a, b) = and_parts (eqb u p) (eqb j i) h in
        let x : u ≡ p = eqb-true u p a in
        let y : j ≡ i = eqb-true j i b in
        let z : via u j v ≡ via p i v = cc in
        record { vertex = v; entry_at = Memᴰ.head z }
    go rec (inr h) = let c = rec h in record { vertex = c.vertex; entry_at = Memᴰ.tail c.entry_at }

pub child_mark_lem : {u j v : ℕ} {F : Forest} → Memᴰ (via u j v) F → child_mark F u j ≡ true
unfolding child_mark
child_mark_lem {F = []} m = elim m [ ]
child_mark_lem {F = root w ∷ F} (Memᴰ.head e) = absurd (via_root e)
child_mark_lem {F = root w ∷ F} (Memᴰ.tail m) = child_mark_lem m
child_mark_lem {u = u} {j = j} {F = via p i w ∷ F} (Memᴰ.head e) =
    let x : u ≡ p = cc in
    let y : j ≡ i = cc in
    or_left (child_mark F u j) (and_both (eq-eqb u p x) (eq-eqb j i y))
child_mark_lem {u = u} {j = j} {F = via p i w ∷ F} (Memᴰ.tail m) = or_right (eqb u p && eqb j i) (child_mark_lem m)

module _ {g : Blocks} {F : Forest} (b : Built (Place g) F) where
  pub child_mark_entry : {u j v : ℕ} → Place g u j v → (child_mark F u j ≡ true) ↔ Memᴰ (via u j v) F
  child_mark_entry {u} {j} {v} p = (there, λ m. child_mark_lem m)
    where
      there : child_mark F u j ≡ true → Memᴰ (via u j v) F
      there e =
          let c = mark_child F u j e in
          let q : c.vertex ≡ v = sym (entry_allowed b c.entry_at).leads ∙ p.leads in
          subst (λ x. Memᴰ (via u j x) F) q c.entry_at

-- ---- parent marks, on a side h that lists the way back

-- place i of v is the way back by which v was entered
pub data Back (g h : Blocks) (F : Forest) (v i : ℕ) : Type 0 where
  back : (u j : ℕ) → Memᴰ (via u j v) F → i ≡ pair g h u j → Back g h F v i

module _ {g h : Blocks} (bal : Balanced g h) {F : Forest} (b : Built (Place g) F) where
  -- paired places have the marks together
  pub mark_paired : {u j v : ℕ} → Place g u j v → parent_mark h g F v (pair g h u j) ≡ child_mark F u j
  unfolding parent_mark
  mark_paired p = rw ((pair_place bal p).leads, pair_pair bal p)

  pub back_place : {v i : ℕ} → Back g h F v i → i < length (block h v)
  back_place (back u j m e) = rw e (pair_place bal (entry_allowed b m)).fits

  pub back_marked : {v i : ℕ} → Back g h F v i → parent_mark h g F v i ≡ true
  back_marked (back u j m e) = rw e (mark_paired (entry_allowed b m) ∙ child_mark_lem m)

  pub marked_back : {v i u : ℕ} → Place h v i u → parent_mark h g F v i ≡ true → Back g h F v i
  unfolding parent_mark
  marked_back {v} {i} {u} p e =
      back u (pair h g v i) ((child_mark_entry b (pair_place (balanced_sym bal) p)).0 (rw p.leads at e))
      (sym (pair_pair (balanced_sym bal) p))

  pub unmarked : {v i u : ℕ} → Place h v i u → (Back g h F v i → ⊥) → parent_mark h g F v i ≡ false
  unmarked {v} {i} p n = fails (parent_mark h g F v i) (λ e. n (marked_back p e))

  -- a parent mark shows the parent
  pub back_parent : {v i : ℕ} → Back g h F v i → parent F v ≡ suc (target h v i)
  back_parent (back u j m e) = let a = (pair_place bal (entry_allowed b m)).leads in parent_child b m ∙ ap suc (cc)

  -- one in a block at most
  pub back_once : {v i k : ℕ} → Back g h F v i → Back g h F v k → i ≡ k
  back_once (back u j m e) (back u' j' m' e') =
      let f = entry_once b m m' refl in
      let f₁ : u ≡ u' = cc in
      let f₂ : j ≡ j' = cc in
      cc

  -- and none exactly at a root
  pub root_unmarked : {v : ℕ} → Entered v F
      → (parent F v ≡ 0) ↔ ((i : ℕ) → i < length (block h v) → parent_mark h g F v i ≡ false)
  root_unmarked {v} k =
      (λ e i l. unmarked (place_at l) (λ r. let a = back_parent r in omega arith), λ f. go f (entry k))
    where
      go : ((i : ℕ) → i < length (block h v) → parent_mark h g F v i ≡ false) → Entry F v → parent F v ≡ 0
      go f (as_root m) = parent_root b m
      go f (as_child u j m) =
          let r = back u j m refl in
          absurd (clash (back_marked r) (f (pair g h u j) (back_place r)))

-- ---- both marks stand at first mentions

module _ {g : Blocks} {F : Forest} (span : Spanning g F) where
  pub child_mark_first : {u j v : ℕ} → Place g u j v
      → (child_mark F u j ≡ true) ↔ ((parent F v ≡ suc u) × (j ≡ position v (block g u) 0))
  child_mark_first {u} {j} {v} p = (
    λ e. (let m = (child_mark_entry span.built p).0 e in (parent_child span.built m, sym (tree_position span m))),
    λ h.
        (let m = child_entry span.built (span.closed u j v p) h.0 in subst (λ x. child_mark F u x ≡ true)
        (sym (tree_position span m) ∙ sym h.1) (child_mark_lem m)),
  )

  module _ {h : Blocks} (bal : Balanced g h) where
    pub back_first : {v i : ℕ} → Back g h F v i → i ≡ position (target h v i) (block h v) 0
    back_first {v} {i} (back u j m e) =
        let a : target h v i ≡ u = ap (target h v) e ∙ (pair_place bal (tree_place span m)).leads in
        rw a (e ∙ tree_pair span h m)

    pub first_back : {u v : ℕ} → v < length g → parent F v ≡ suc u → Back g h F v (position u (block h v) 0)
    first_back {u} {v} l e =
        let m = child_entry span.built (span.whole v l) e in
        back u (slot F v) m (sym (tree_pair span h m))

    pub parent_mark_first : {v i u : ℕ} → v < length g → Place h v i u
        → (parent_mark h g F v i ≡ true) ↔ ((parent F v ≡ suc u) × (i ≡ position u (block h v) 0))
    parent_mark_first {v} {i} {u} l p = (
      λ e.
          (let r = marked_back bal
          span.built p e in (
            back_parent bal span.built r ∙ ap suc p.leads,
            back_first r
                ∙ ap (λ x. position x (block h v) 0) p.leads,
          )),
      λ q. subst (λ x. parent_mark h g F v x ≡ true) (sym q.1) (back_marked bal span.built (first_back l q.0)),
    )
