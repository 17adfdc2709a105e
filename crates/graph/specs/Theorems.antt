-- The theorems, for the forest of any list of starts that covers the vertices, and for doubled neighbours too. Each is
-- a citation of a law.
use Rattle.std.specs.Prelude.{ℕ, suc, ◌-◌, ◌*◌, ◌+◌, ◌≤◌, ◌<◌, min, ◌≡◌, ◌⊎◌, ◌↔◌, Bool, true, false, eqb, length, take}
use Rattle.std.proofs.Common.{inr}
use mathlib.Core.List.{List, [], ◌∷◌, Memᴰ, flatten}
use Rattle.graph.specs.Graph.{Blocks, block, Place, mentions, position, pair, twin, WellFormed}
use Rattle.graph.specs.Search.{Forest, PlaceTest, all, entered, search, count_up, starts_from, forest}
use Rattle.graph.specs.Joined.{Chain, without, joined, bridge, DoublyJoined}
use Rattle.graph.specs.Forest.{number, vertex_at, parent, roots, root_of, head, Ancestor, children}
use Rattle.graph.specs.Forest.{child_mark, parent_mark}
use Rattle.graph.specs.Counts.{when, sum, count_places, count_edges, at_neither, lowest, looms}
use Rattle.graph.specs.Walk.{walk}
use Rattle.graph.specs.Laws.Places.Mentions.{Mention}
use Rattle.graph.specs.Laws.Places.Pairing.{InRange, Balanced, pair_told, both_ends}
use Rattle.graph.specs.Laws.Tree.Entries.{entered_test, test_entered}
use Rattle.graph.specs.Laws.Tree.Numbers.{vertex_number, number_vertex, vertex_entered, parent_first}
use Rattle.graph.specs.Laws.Tree.Climbs.{slot, child_entry}
use Rattle.graph.specs.Laws.Tree.Ancestors.{ancestor, ancestor_test}
use Rattle.graph.specs.Laws.Run.Segments.{search_segment}
use Rattle.graph.specs.Laws.Joined.Reach.{searched_down, joined_chain}
use Rattle.graph.specs.Laws.Joined.Spanning.{Covers, Spanning, search_spans}
use Rattle.graph.specs.Laws.Joined.Spanning.{forest_length, number_range, tree_place, ends_related}
use Rattle.graph.specs.Laws.Joined.Starts.{Startable, starts_cover, start_0, First, start_first}
use Rattle.graph.specs.Laws.Joined.Roots.{same_root_joined}
use Rattle.graph.specs.Laws.Edges.Marks.{child_mark_lem, child_mark_entry, child_mark_first, mark_paired}
use Rattle.graph.specs.Laws.Edges.Marks.{marked_back, back_once, root_unmarked, parent_mark_first}
use Rattle.graph.specs.Laws.Edges.Children.{marked, children_marked}
use Rattle.graph.specs.Laws.Bridges.Crossings.{bridge_joined, bridge_twin, doubled_no_bridge, outside_no_bridge}
use Rattle.graph.specs.Laws.Bridges.Crossings.{Crossing, bridge_crossing}
use Rattle.graph.specs.Laws.Bridges.Stores.{Stored}
use Rattle.graph.specs.Laws.Bridges.Lowpoints.{Lows, Lowpoints, bridge_lowpoint}
use Rattle.graph.specs.Laws.Bridges.Lowpoints.{bridge_at_child, bridge_at_parent}
use Rattle.graph.specs.Laws.Bridges.Sweep.{Least, sweep_begin, sweep_root, sweep_child}
use Rattle.graph.specs.Laws.Heads.Sections.{same_head}
use Rattle.graph.specs.Laws.Loop.Arrays.{Cells, Kept, Enters}
use Rattle.graph.specs.Laws.Loop.Invariant.{Loop, loop_begin, loop_pass_start, loop_enter_start, Visited}
use Rattle.graph.specs.Laws.Loop.Invariant.{loop_enter_at, loop_leave, loop_full, loop_end}
use Rattle.graph.specs.Laws.Heads.Walks.{HeadSteps, walk_head, rise_head, AncestorSteps, walk_ancestor}
use Rattle.graph.specs.Laws.Counts.Places.{marked_length}
use Rattle.graph.specs.Laws.Counts.Edges.{two_places, neither_twin, all_edges}
use Rattle.graph.specs.Laws.Counts.Roots.{roots_parentless, roots_fewer}
use Rattle.graph.specs.Laws.Counts.Looms.{lowest_joined, lowest_least, lowest_told, roots_looms}
use Rattle.graph.specs.Laws.Counts.Loops.{roots_and_edges}
use Rattle.graph.specs.Laws.Counts.Sections.{bridges_twice}

-- `forest g s` takes s and then the vertices in order: they cover
pub start_covers : (g : Blocks) (s : ℕ) → Startable g s → Covers g (starts_from (length g) s)
start_covers = starts_cover

-- a graph of wires is balanced with itself: where h is g, `pair` is `twin`
pub wires_balance : {g : Blocks} → WellFormed g → Balanced g g
wires_balance = both_ends

-- the two places of a wire: the k-th mention of v at u, and of u at v
pub wire_places : {g : Blocks} → WellFormed g → {u j v : ℕ} → Place g u j v → (i : ℕ)
    → (i ≡ twin g u j) ↔ Mention u (block g v) (mentions v (take j (block g u))) i
wire_places wf = pair_told (both_ends wf)

module _ {g : Blocks} (r : InRange g) {starts : List ℕ} (cov : Covers g starts) where
  spans : Spanning g (search g all starts)
  spans = search_spans r cov

  -- ---- 1. Every vertex is entered once, a parent before its child; visit numbers and vertices are inverse

  pub as_many_entries : length (search g all starts) ≡ length g
  as_many_entries = forest_length spans

  pub each_entered : (v : ℕ) → v < length g → entered v (search g all starts) ≡ true
  each_entered v h = test_entered (spans.whole v h)

  pub number_in_range : (v : ℕ) → v < length g → number (search g all starts) v < length g
  number_in_range = number_range spans

  pub vertex_in_range : (k : ℕ) → k < length g → vertex_at (search g all starts) k < length g
  vertex_in_range k h =
      let F = search g all starts in
      spans.within (vertex_at F k) (vertex_entered F k (rw as_many_entries h))

  pub vertex_of_number : (v : ℕ) → v < length g → vertex_at (search g all starts) (number (search g all starts) v) ≡ v
  vertex_of_number v h = vertex_number (spans.whole v h)

  pub number_of_vertex : (k : ℕ) → k < length g → number (search g all starts) (vertex_at (search g all starts) k) ≡ k
  number_of_vertex k h = number_vertex spans.built k (rw as_many_entries h)

  pub parent_before_child : (u v : ℕ) → v < length g → parent (search g all starts) v ≡ suc u
      → number (search g all starts) u < number (search g all starts) v
  parent_before_child u v h e = parent_first spans.built (child_entry spans.built (spans.whole v h) e)

  -- ---- 2. Child marks and parent marks show the same tree edges from either end, where the side h lists the way back

  -- a child mark stands where a child is mentioned first, and each tree edge has one
  pub child_marks : {u j v : ℕ} → Place g u j v
      → (child_mark (search g all starts) u j ≡ true)
      ↔ ((parent (search g all starts) v ≡ suc u) × (j ≡ position v (block g u) 0))
  child_marks = child_mark_first spans

  pub edge_has_mark : (u v : ℕ) → v < length g → parent (search g all starts) v ≡ suc u
      → (j : ℕ) × Place g u j v × (child_mark (search g all starts) u j ≡ true)
  edge_has_mark u v h e =
      let m = child_entry spans.built (spans.whole v h) e in
      (slot (search g all starts) v, tree_place spans m, child_mark_lem m)

  -- in the order of their visits, the children are the child-marked neighbours in listed order, as many as the marks
  pub children_as_listed : (u : ℕ)
      → children (search g all starts) u ≡ marked (child_mark (search g all starts) u) 0 (block g u)
  children_as_listed = children_marked spans.built spans.order

  pub children_counted : (u : ℕ)
      → length (children (search g all starts) u)
      ≡ sum (length (block g u)) (λ j. when (child_mark (search g all starts) u j) 1)
  children_counted u = rw (children_as_listed u) (marked_length (child_mark (search g all starts) u) (block g u))

  module _ {h : Blocks} (bal : Balanced g h) where
    -- paired places have the marks together
    pub marks_at_pairs : {u j v : ℕ} → Place g u j v
        → parent_mark h g (search g all starts) v (pair g h u j) ≡ child_mark (search g all starts) u j
    marks_at_pairs = mark_paired bal spans.built

    -- a parent mark stands where the parent is mentioned first
    pub parent_marks : {v i u : ℕ} → v < length g → Place h v i u
        → (parent_mark h g (search g all starts) v i ≡ true)
        ↔ ((parent (search g all starts) v ≡ suc u) × (i ≡ position u (block h v) 0))
    parent_marks = parent_mark_first spans bal

    -- one parent mark at most in a block, and none exactly at a root
    pub parent_mark_once : {v i k u w : ℕ} → Place h v i u → Place h v k w
        → parent_mark h g (search g all starts) v i ≡ true → parent_mark h g (search g all starts) v k ≡ true → i ≡ k
    parent_mark_once p q e f =
        let b = spans.built in
        back_once bal b (marked_back bal b p e) (marked_back bal b q f)

    pub parent_mark_none : (v : ℕ) → v < length g
        → (parent (search g all starts) v ≡ 0)
        ↔ ((i : ℕ) → i < length (block h v) → parent_mark h g (search g all starts) v i ≡ false)
    parent_mark_none v l = root_unmarked bal spans.built (spans.whole v l)

    -- at most n - 1 steps up tell the ancestors
    pub ancestor_by_steps : {A : Type 0} {x : ℕ} {answer : Bool → A} {next : ℕ → A ⊎ ℕ}
        → AncestorSteps g h (search g all starts) x answer next → (late : A) (v : ℕ) → v < length g
        → walk next late (length g - 1) v ≡ answer (ancestor (search g all starts) x v)
    ancestor_by_steps = walk_ancestor bal spans

  -- the test is the relation
  pub ancestor_told : (x v : ℕ) → v < length g
      → (ancestor (search g all starts) x v ≡ true) ↔ Ancestor (search g all starts) x v
  ancestor_told x v h = ancestor_test spans.built x v (spans.whole v h)

-- ---- 3. An arc from an earlier visited vertex to a later one leads to a descendant: for any arcs, also one-way ones,
-- and any starts. So of the two ends of a wire one is an ancestor of the other

pub arc_goes_down : {g : Blocks} → InRange g → (ok : PlaceTest) (starts : List ℕ)
    → ((v : ℕ) → Memᴰ v starts → v < length g)
    → {u j v : ℕ} → Place g u j v → ok u j ≡ true → entered u (search g ok starts) ≡ true
    → number (search g ok starts) u < number (search g ok starts) v → Ancestor (search g ok starts) u v
arc_goes_down {g} r ok starts h {u} p o i l =
    let seen = entered_test u (search g ok starts) i in
    searched_down starts (search_segment g ok r starts h) seen (record { place = p; allowed = o }) l

module _ {g : Blocks} (wf : WellFormed g) {starts : List ℕ} (cov : Covers g starts) where
  pub wire_ends : {u j v : ℕ} → Place g u j v → Ancestor (search g all starts) u v ⊎ Ancestor (search g all starts) v u
  wire_ends = ends_related (spans wf.in_range cov) wf

  -- ---- 4. Two vertices have the same root exactly when they are joined

  pub same_root : (u v : ℕ) → u < length g → v < length g
      → (root_of (search g all starts) u ≡ root_of (search g all starts) v) ↔ Chain g all u v
  same_root = same_root_joined (spans wf.in_range cov) wf

  -- ---- 5. A wire outside the tree is no bridge. The tree wire into c is one exactly when no other wire leaves the
  -- descendants of c, and exactly when c's lowpoint is its visit number

  pub no_bridge_outside : {u j v : ℕ} → Place g u j v → child_mark (search g all starts) u j ≡ false
      → parent_mark g g (search g all starts) u j ≡ false → bridge g u j ≡ false
  no_bridge_outside = outside_no_bridge wf (spans wf.in_range cov)

  pub bridge_no_crossing : {p j c : ℕ} → Place g p j c → child_mark (search g all starts) p j ≡ true
      → (bridge g p j ≡ true) ↔ (Crossing g (search g all starts) p j c → ⊥)
  bridge_no_crossing p e =
      let t = spans wf.in_range cov in
      bridge_crossing wf t ((child_mark_entry t.built p).0 e)

  pub bridge_by_lowpoint : {t : ℕ → ℕ} → Lowpoints g (search g all starts) t → {p j c : ℕ} → Place g p j c
      → child_mark (search g all starts) p j ≡ true → (bridge g p j ≡ true) ↔ (t c ≡ number (search g all starts) c)
  bridge_by_lowpoint lo p e =
      let t = spans wf.in_range cov in
      bridge_lowpoint wf t lo ((child_mark_entry t.built p).0 e)

  -- so the lowpoints tell every mark: the child's own at a child mark, the vertex's at a parent mark
  pub bridge_at_child_mark : {t : ℕ → ℕ} → Lowpoints g (search g all starts) t → {u j v : ℕ} → Place g u j v
      → child_mark (search g all starts) u j ≡ true → eqb (t v) (number (search g all starts) v) ≡ bridge g u j
  bridge_at_child_mark = bridge_at_child wf (spans wf.in_range cov)

  pub bridge_at_parent_mark : {t : ℕ → ℕ} → Lowpoints g (search g all starts) t → {u j v : ℕ} → Place g u j v
      → parent_mark g g (search g all starts) u j ≡ true → eqb (t u) (number (search g all starts) u) ≡ bridge g u j
  bridge_at_parent_mark = bridge_at_parent wf (spans wf.in_range cov)

  -- the lowpoints, from the last visited vertex back: at first no child counts, in the end all do, and `Lows g F 0` is
  -- `Lowpoints g F`
  pub sweep_begins : {t : ℕ → ℕ} → ((c : ℕ) → c < length g → Least g (search g all starts) c (length (block g c)) (t c))
      → Lows g (search g all starts) (length g) t
  sweep_begins = sweep_begin (spans wf.in_range cov)

  pub sweep_passes_root : {m : ℕ} {t : ℕ → ℕ} → m < length g
      → parent (search g all starts) (vertex_at (search g all starts) m) ≡ 0
      → Lows g (search g all starts) (suc m) t → Lows g (search g all starts) m t
  sweep_passes_root h e lo = sweep_root (spans wf.in_range cov) h e lo

  pub sweep_lifts_child : {m u : ℕ} {t t' : ℕ → ℕ} → m < length g
      → parent (search g all starts) (vertex_at (search g all starts) m) ≡ suc u
      → Stored (length g) t t' u (min (t u) (t (vertex_at (search g all starts) m)))
      → Lows g (search g all starts) (suc m) t → Lows g (search g all starts) m t'
  sweep_lifts_child h e s lo = sweep_child (spans wf.in_range cov) h e s lo

  -- ---- 6. Heads are equal exactly when two vertices are joined, and still joined whichever one wire is taken out

  pub same_heads : (u v : ℕ) → u < length g → v < length g
      → (head g (search g all starts) u ≡ head g (search g all starts) v) ↔ DoublyJoined g u v
  same_heads = same_head wf (spans wf.in_range cov)

  -- so other starts give the same groups
  pub same_groups : {others : List ℕ} → Covers g others → (u v : ℕ) → u < length g → v < length g
      → (head g (search g all starts) u ≡ head g (search g all starts) v)
      ↔ (head g (search g all others) u ≡ head g (search g all others) v)
  same_groups o u v hu hv =
      let s = same_heads u v hu hv in
      let t = same_head wf (spans wf.in_range o) u v hu hv in
      (λ e. t.1 (s.0 e), λ e. s.1 (t.0 e))

  -- at most n - 1 steps up, by the marks P and B, find the head
  pub head_by_steps : {A : Type 0} {answer : ℕ → A} {next : ℕ → A ⊎ ℕ} → HeadSteps g (search g all starts) answer next
      → (late : A) (v : ℕ) → v < length g → walk next late (length g - 1) v ≡ answer (head g (search g all starts) v)
  head_by_steps = walk_head wf (spans wf.in_range cov)

  -- where such a step goes up, both vertices have one head
  pub head_of_step : {A : Type 0} {answer : ℕ → A} {next : ℕ → A ⊎ ℕ} → HeadSteps g (search g all starts) answer next
      → {v u : ℕ} → v < length g → u < length g → next v ≡ inr u
      → answer (head g (search g all starts) v) ≡ answer (head g (search g all starts) u)
  head_of_step = rise_head wf (spans wf.in_range cov)

-- the test of joined is the relation, and bridge marks stand at both places of a wire or at neither
pub joined_told : {g : Blocks} → InRange g → (ok : PlaceTest) (u v : ℕ) → u < length g
    → (joined g ok u v ≡ true) ↔ Chain g ok u v
joined_told = joined_chain

pub bridge_told : {g : Blocks} → InRange g → {u j v : ℕ} → Place g u j v
    → (bridge g u j ≡ false) ↔ Chain g (without g u j) u v
bridge_told = bridge_joined

pub bridge_both : {g : Blocks} → WellFormed g → {u j v : ℕ} → Place g u j v → bridge g v (twin g u j) ≡ bridge g u j
bridge_both = bridge_twin

-- of several wires between two vertices none is a bridge
pub no_bridge_doubled : {g : Blocks} → WellFormed g → {u i j v : ℕ} → Place g u j v → Place g u i v → (i ≡ j → ⊥)
    → bridge g u j ≡ false
no_bridge_doubled = doubled_no_bridge

-- ---- 7. The start is a root and visited first; vertex 0 as the start gives the forest of the vertices in order. Two
-- starts give the same groups: `same_groups`

pub start_visited_first : {g : Blocks} → InRange g → {s : ℕ} → s < length g → First (forest g s) s
start_visited_first = start_first

pub start_1 : {g : Blocks} → InRange g → search g all (count_up 0 (length g)) ≡ forest g 0
start_1 = start_0

-- ---- 8. The invariant of a loop: from the state that the arrays hold, the search ends in H. It begins, tries a start,
-- enters a neighbour, leaves a block and ends

pub search_begins : {g : Blocks} {starts : List ℕ} → InRange g → ((v : ℕ) → Memᴰ v starts → v < length g)
    → {c : Cells} → ((v : ℕ) → v < length g → c.visits v ≡ 0)
    → {left : ℕ} → 2 * length starts + 2 * length (flatten g) ≤ left → Loop g (search g all starts) left starts 0 0 c
search_begins = loop_begin

module _ {g : Blocks} {H : Forest} {left : ℕ} {todo : List ℕ} {k : ℕ} {c : Cells} where
  pub start_passed : {v : ℕ} → Loop g H left (v ∷ todo) 0 k c → v < length g → (c.visits v ≡ 0 → ⊥)
      → Loop g H (left - 1) todo 0 k c
  start_passed = loop_pass_start

  pub start_entered : {v : ℕ} {c' : Cells} → Loop g H left (v ∷ todo) 0 k c → v < length g → c.visits v ≡ 0
      → Enters (length g) c c' c.nexts v k 0 0 → Loop g H (left - 1) todo (suc v) (suc k) c'
  start_entered i h z s = loop_enter_start i h z s

  -- the visited neighbours are passed over at once: behind them one is entered, or the parent comes to hand
  pub neighbour_entered : {u j v : ℕ} {c' : Cells} {at : ℕ → ℕ} → Loop g H left todo (suc u) k c → InRange g
      → c.nexts u ≤ j → Visited g c u (c.nexts u) j → Place g u j v → c.visits v ≡ 0
      → Stored (length g) c.nexts at u (suc j) → Enters (length g) c c' at v k (suc u) j
      → Loop g H (left - 1) todo (suc v) (suc k) c'
  neighbour_entered i r f m p z s t = loop_enter_at i r f m p z s t

  pub block_done : {u : ℕ} → Loop g H left todo (suc u) k c → InRange g
      → Visited g c u (c.nexts u) (length (block g u)) → Loop g H (left - 1) todo (c.parents u) k c
  block_done = loop_leave

-- once every vertex is entered the arrays are the forest's, whatever is left to try; with nothing left, that is so
pub search_full : {g : Blocks} {H : Forest} {left : ℕ} {todo : List ℕ} {cur k : ℕ} {c : Cells}
    → Loop g H left todo cur k c → length H ≤ k → Kept g H c
search_full = loop_full

pub search_ends : {g : Blocks} {H : Forest} {left k : ℕ} {c : Cells} → Loop g H left [] 0 k c → k ≡ length H
search_ends = loop_end

-- ---- 9. There are as many roots as looms. With m wires, m and the roots are as many as n and the wires that have a
-- child mark at neither end

-- a root is a vertex without a parent
pub roots_counted : {g : Blocks} → InRange g → {starts : List ℕ} → Covers g starts
    → sum (length g) (λ v. when (eqb (parent (search g all starts) v) 0) 1) ≡ roots (search g all starts)
roots_counted r cov = roots_parentless (spans r cov)

-- the lowest vertex of a loom is joined to each of it, and no lower one is; two vertices have the same exactly when
-- they are joined
pub lowest_in_loom : {g : Blocks} → WellFormed g → (v : ℕ) → v < length g → Chain g all (lowest g v) v
lowest_in_loom = lowest_joined

pub none_lower : {g : Blocks} → WellFormed g → (u v : ℕ) → u < length g → Chain g all u v → lowest g v ≤ u
none_lower = lowest_least

pub looms_told : {g : Blocks} → WellFormed g → (u v : ℕ) → u < length g → v < length g
    → (lowest g u ≡ lowest g v) ↔ Chain g all u v
looms_told = lowest_told

-- there are m wires, and where one has a mark at neither end, two places say so
pub edges_counted : {g : Blocks} → WellFormed g → (m : ℕ) → length (flatten g) ≡ 2 * m → count_edges g all ≡ m
edges_counted = all_edges

pub counted_twice : {g : Blocks} → WellFormed g → (mark : PlaceTest)
    → count_places g (at_neither g mark) ≡ 2 * count_edges g (at_neither g mark)
counted_twice {g} wf mark = two_places wf (at_neither g mark) (neither_twin wf mark)

module _ {g : Blocks} (wf : WellFormed g) {starts : List ℕ} (cov : Covers g starts) where
  pub as_many_looms : roots (search g all starts) ≡ looms g
  as_many_looms = roots_looms wf (spans wf.in_range cov)

  -- where there is a wire, some vertex is no root
  pub some_no_root : 0 < length (flatten g) → roots (search g all starts) < length g
  some_no_root = roots_fewer wf (spans wf.in_range cov)

  pub edges_outside : (m : ℕ) → length (flatten g) ≡ 2 * m
      → m + roots (search g all starts) ≡ length g + count_edges g (at_neither g (child_mark (search g all starts)))
  edges_outside = roots_and_edges wf (spans wf.in_range cov)

-- ---- 10. There are as many different heads as roots and half the places with the mark B together

-- a bridge has two such places, so that their number is even
pub bridges_counted : {g : Blocks} → WellFormed g → count_places g (bridge g) ≡ 2 * count_edges g (bridge g)
bridges_counted = bridges_twice

-- the two counts stand in proofs/Theorems.antt
