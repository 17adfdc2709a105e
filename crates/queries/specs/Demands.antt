-- Demands 2 and 3 as theorems, and what document 02 says of the start, of doubled wires, of a list of terminals, of the
-- loop figure, of filing from lists and of the number of sections: open this file first. The index is any that Build
-- writes for the record, with any start (`Written`), or, where it is said, any at all; the marks are the bits of that
-- index; the answers are those of the operations, as `Operations`, `Lookup` and `Filing` define them and as the
-- contracts of the code say. Terminal v is vertex v - 1 of the graph; positions of a block and cells of a list count
-- from 0. The rest, what no operation answers and what no answer reads, stands in proofs/Demands.antt.
use Rattle.std.specs.Prelude.{◌≡◌, ◌⊎◌, ◌↔◌, Bool, true, false, List, map, ℕ, suc, ◌+◌, ◌-◌, ◌*◌, ◌/◌, ◌≤◌, ◌<◌, length}
use Rattle.std.specs.Prelude.{get_or, take}
use Rattle.std.proofs.Common.{sym, ap, subst, ◌∙◌, arith}
use Rattle.std.proofs.Math.Option.{none}
use Rattle.bits.specs.Laws.Bytes.{AreBytes}
use Rattle.graph.specs.Graph.{Blocks, block, Place, mentions, twin}
use Rattle.graph.specs.Search.{Forest, all, search, count_up, forest}
use Rattle.graph.specs.Joined.{Chain, without}
use Rattle.graph.specs.Laws.Places.Mentions.{Mention}
use Rattle.graph.specs.Laws.Tree.Ancestors.{ancestor as ancestor_in}
use Rattle.graph.specs.Forest.{number, vertex_at, parent as parent_in, roots, head as head_in, Ancestor}
use Rattle.graph.specs.Forest.{children as children_in}
use Rattle.graph.specs.Counts.{count_places, count_edges, at_neither, lowest, looms, different}
use Rattle.graph.specs.Theorems.{wire_places, ancestor_told, looms_told, as_many_looms, edges_counted}
use Rattle.graph.specs.Theorems.{counted_twice}
use Rattle.record.specs.Record.{terminals, wires, unary, blocks}
use Rattle.record.specs.Rules.{first_broken}
use Rattle.record.specs.Answers.{refused, answered}
use Rattle.forest.specs.Index.{index_by, index_of, mark_bytes, index_length}
use Rattle.record.specs.Operations.{out_of_range, Accepted, check, degree, unpack, unpacked}
use Rattle.record.specs.Filing.{record_from, bad_lists, file, filed}
use Rattle.record.proofs.Laws.Refiled as Refiled
use Rattle.adjacency.specs.Places.{any_in}
use Rattle.record.specs.Laws.Sound.{accepted_well_formed}
use Rattle.record.specs.Laws.Sounded.{accepted_sound, sound_all}
use Rattle.forest.specs.Operations.{build, built, first_start, loops, loop_figure, roots_in}
use Rattle.forest.specs.Laws.Figures.{roots_from, loops_whole, figure_told}
use Rattle.forest.proofs.Laws.Loops.{loops_few}
use Rattle.forest.specs.Laws.Taken.{first_index}
use Rattle.queries.specs.View.{section_bit, ones_of_b, number_bit, place_of}
use Rattle.queries.specs.Answers.{unless_zero}
use Rattle.queries.specs.Operations.{beside_rules, parent, head, ancestor, children, child, visit, visited}
use Rattle.queries.specs.Written.{Written, forest_from, Terminal, VisitNumber, Once, HeadsTell}
use Rattle.queries.specs.Laws.Answered as Answered
use Rattle.queries.specs.Laws.Built.{built_own, built_fill, built_rest}
use Rattle.queries.specs.Laws.Edges.{e_told, p_told, p_as_e, e_as_p, p_none, p_once, b_told, b_both, b_doubled}
use Rattle.queries.specs.Laws.Columns.{table_cells}
use Rattle.queries.specs.Laws.Figured.{loops_marked, table_loops}
use Rattle.queries.specs.Laws.Sectioned as Sectioned
use Rattle.queries.specs.Laws.Looked as Looked
use Rattle.queries.specs.Laws.Looked.{head_gives, visit_gives}
use Rattle.queries.specs.Lookup.{Lists, lookup, looked_up}
use Rattle.queries.specs.Table.{parents_on, heads_on, table_on, table_of, Tabled}

-- where Build refuses nothing, it has written the index, with the start that it was given
pub build_writes : (bytes : List ℕ) (start : ℕ) (work buffer : List ℕ) → build bytes start work buffer ≡ answered tt
    → (w : Written bytes (built bytes start work buffer)) × (w.start ≡ start)
build_writes = Answered.written_by

-- ---- Lookup, on any index

module _ (bytes index list : List ℕ) (lent : Lists) where
  -- where it refuses, nothing is written
  pub lookup_unwritten : {k : ℕ} → lookup bytes index list lent ≡ refused k → looked_up bytes index list lent ≡ lent
  lookup_unwritten = Looked.lookup_unwritten bytes index list lent

-- once order R and rule 10 are kept, Head refuses with 11 or 12, and Visit, where Head answers, with 12
pub head_refusals : (bytes index : List ℕ) → first_broken (beside_rules bytes index) ≡ 0 → (v : ℕ) {k : ℕ}
    → head bytes index v ≡ refused k → (k ≡ 11) ⊎ (k ≡ 12)
head_refusals = head_gives

pub visit_refusals : (bytes index : List ℕ) (v : ℕ) {h k : ℕ} → head bytes index v ≡ answered h
    → visit bytes index v ≡ refused k → k ≡ 12
visit_refusals = visit_gives

-- ---- The loop figure, of an accepted record

module _ {bytes : List ℕ} (a : Accepted bytes) where
  pub loop_figure_told : loop_figure bytes ≡ answered (loops bytes)
  loop_figure_told = figure_told a

  -- it is m − n plus the number of roots, as whole numbers: m and the roots together are no fewer than n
  pub loops_never_below : terminals bytes ≤ wires bytes + roots (forest (blocks bytes) 0)
  loops_never_below = omega (arith, loops_whole a)

  pub loops_counted : terminals bytes + loops bytes ≡ wires bytes + roots (forest (blocks bytes) 0)
  loops_counted = loops_whole a

  -- and at most 16,383
  pub loops_most : loops bytes ≤ 16383
  loops_most = omega (arith, loops_few a, (accepted_sound a).m_fits)

  -- the count of wires by which the figure is told below finds all m of them
  pub wires_counted : count_edges (blocks bytes) all ≡ wires bytes
  wires_counted = edges_counted (accepted_well_formed a) (wires bytes) (sound_all (accepted_sound a))

-- ---- File, from any lists and for any buffer

module _ (degrees neighbours buffer : List ℕ) where
  -- its refusals
  pub file_refusals : {k : ℕ} → file degrees neighbours buffer ≡ refused k
      → (k ≡ 16) ⊎ ((k ≡ 6) ⊎ ((k ≡ 8) ⊎ (k ≡ 17)))
  file_refusals = Refiled.only_refusals degrees neighbours buffer

  pub file_unwritten : {k : ℕ} → file degrees neighbours buffer ≡ refused k → filed degrees neighbours buffer ≡ buffer
  file_unwritten = Refiled.file_unwritten degrees neighbours buffer

  -- else it writes the record of the two lists
  module _ (e : file degrees neighbours buffer ≡ answered tt) where
    pub file_written : filed degrees neighbours buffer ≡ record_from degrees neighbours
    file_written = Refiled.file_written degrees neighbours buffer e

    pub filed_accepted : Accepted (filed degrees neighbours buffer)
    filed_accepted = Refiled.filed_accepted degrees neighbours buffer e

    -- Degree tells the degrees again
    pub filed_terminals : terminals (filed degrees neighbours buffer) ≡ length degrees
    filed_terminals = Refiled.filed_terminals degrees neighbours buffer e

    pub filed_degree : {v : ℕ} → v < length degrees
        → degree (filed degrees neighbours buffer) (v + 1) ≡ answered (get_or degrees v 0)
    filed_degree {v} = Refiled.filed_degree degrees neighbours buffer e v

    -- and Unpack the neighbours
    pub filed_wires : 2 * wires (filed degrees neighbours buffer) ≡ length neighbours
    filed_wires = Refiled.filed_wires degrees neighbours buffer e

    pub filed_unpack : (list : List ℕ) → length list ≡ length neighbours
        → (unpack (filed degrees neighbours buffer) list ≡ answered tt)
        × (unpacked (filed degrees neighbours buffer) list ≡ neighbours)
    filed_unpack = Refiled.filed_unpack degrees neighbours buffer e

-- between 16 and 17 come 6 and 8 alone: a neighbour that is 0 or above n gives 6, and where there is none, Check
-- refuses the result by no other rule
module _ (degrees neighbours : List ℕ) (good : bad_lists degrees neighbours ≡ false) where
  pub outside_refused : any_in (out_of_range (length degrees)) neighbours ≡ true → (buffer : List ℕ)
      → file degrees neighbours buffer ≡ refused 6
  outside_refused = Refiled.outside_refused degrees neighbours good

  pub result_refusals : any_in (out_of_range (length degrees)) neighbours ≡ false → {k : ℕ}
      → check (record_from degrees neighbours) ≡ refused k → (k ≡ 6) ⊎ (k ≡ 8)
  result_refusals = Refiled.result_refusals degrees neighbours good

-- Degree tells every degree of an accepted record, and each is a number of 16 bits
module _ {bytes : List ℕ} (a : Accepted bytes) where
  pub degrees_told : (v : ℕ) → v < terminals bytes
      → degree bytes (v + 1) ≡ answered (get_or (map length (blocks bytes)) v 0)
  degrees_told = Refiled.degrees_told a

  pub degrees_few : (v : ℕ) → v < terminals bytes → get_or (map length (blocks bytes)) v 0 ≤ 32768
  degrees_few = Refiled.degrees_few a

-- a record unpacked and written again has its former bytes: written from its degrees, as Degree tells them, and from
-- the list that Unpack leaves
pub filed_again : {bytes : List ℕ} → Accepted bytes → AreBytes bytes → (degrees list buffer : List ℕ)
    → length degrees ≡ terminals bytes
    → ((v : ℕ) → v < terminals bytes → degree bytes (v + 1) ≡ answered (get_or degrees v 0))
    → length list ≡ 2 * wires bytes → length buffer ≡ length bytes
    → (unpack bytes list ≡ answered tt)
    × (file degrees (unpacked bytes list) buffer ≡ answered tt) × (filed degrees (unpacked bytes list) buffer ≡ bytes)
filed_again = Refiled.filed_again

-- ---- for any index that Build writes

module _ {bytes index : List ℕ} (w : Written bytes index) where
  abbrev g : Blocks
  g = blocks bytes

  abbrev F : Forest
  F = forest_from bytes w.start

  -- the bits of E, P and B at position j of u's block
  abbrev E : ℕ → ℕ → Bool
  E u j = section_bit bytes index 0 (place_of bytes u j)

  abbrev P : ℕ → ℕ → Bool
  P u j = section_bit bytes index 1 (place_of bytes u j)

  abbrev B : ℕ → ℕ → Bool
  B u j = section_bit bytes index 2 (place_of bytes u j)

  -- ---- Demand 2: the marks

  module _ {u j v : ℕ} (p : Place (blocks bytes) u j v) where
    -- the other end of the wire is the k-th mention of u at v, where this one is the k-th of v at u
    pub two_ends : (i : ℕ) → (i ≡ twin g u j) ↔ Mention u (block g v) (mentions v (take j (block g u))) i
    two_ends = wire_places (Answered.formed w) p

    -- E is set where the neighbour is a child, and P where it is the parent, each where it is mentioned first
    pub child_mark_told : (E u j ≡ true) ↔ ((parent_in F v ≡ suc u) × (mentions v (take j (block g u)) ≡ 0))
    child_mark_told = e_told w p

    pub parent_mark_told : (P u j ≡ true) ↔ ((parent_in F u ≡ suc v) × (mentions v (take j (block g u)) ≡ 0))
    parent_mark_told = p_told w p

    -- at the two ends of one wire: they show the same tree edges from either end
    pub same_edges : P v (twin g u j) ≡ E u j
    same_edges = p_as_e w p

    pub same_edges_back : E v (twin g u j) ≡ P u j
    same_edges_back = e_as_p w p

    -- B stands at just the wires whose removal parts their ends
    pub bridge_mark_told : (B u j ≡ true) ↔ (Chain g (without g u j) u v → ⊥)
    bridge_mark_told = b_told w p

    -- at both ends
    pub bridge_marks_both : B v (twin g u j) ≡ B u j
    bridge_marks_both = b_both w p

    -- a doubled wire is no single feed
    pub doubled_unmarked : {i : ℕ} → Place g u i v → (i ≡ j → ⊥) → B u j ≡ false
    doubled_unmarked = b_doubled w p

  -- a terminal with no mark in its block of P is a root, and any other has just one
  module _ {u : ℕ} (h : u < length (blocks bytes)) where
    pub root_unmarked : (parent_in F u ≡ 0) ↔ ((j : ℕ) → j < length (block g u) → P u j ≡ false)
    root_unmarked = p_none w h

    pub other_marked_once : (parent_in F u ≡ 0 → ⊥) → Once (P u) (length (block g u))
    other_marked_once = p_once w h

  -- nowhere else: a section, k = 0, 1 or 2, has zeros at D's ones and in its fill, and so has the fill of the numbers
  pub own_unmarked : (k p : ℕ) → k < 3 → get_or (unary bytes) p false ≡ true → section_bit bytes index k p ≡ false
  own_unmarked k p l e =
      ap (λ (x : List ℕ). section_bit bytes x k p) w.is ∙ built_own w.accepted (w.start - 1) k p l e

  pub fill_unmarked : (k p : ℕ) → k < 3 → terminals bytes + 2 * wires bytes ≤ p
      → p < 8 * mark_bytes (terminals bytes) (wires bytes)
      → section_bit bytes index k p ≡ false
  fill_unmarked k p l a b =
      ap (λ (x : List ℕ). section_bit bytes x k p) w.is ∙ built_fill w.accepted (w.start - 1) k p l a b

  pub fill_unnumbered : (i : ℕ) → 12 * terminals bytes ≤ i
      → 8 * (3 * mark_bytes (terminals bytes) (wires bytes)) + i < 8 * index_length (terminals bytes) (wires bytes)
      → number_bit bytes index i ≡ false
  fill_unnumbered i a b =
      ap (λ (x : List ℕ). number_bit bytes x i) w.is ∙ built_rest w.accepted (w.start - 1) i a b

  -- ---- Demand 2: every query gives what the forest gives, and none gives 12

  module _ {v : ℕ} (t : Terminal bytes v) where
    -- Parent: the parent, none for a root
    pub parent_told : parent bytes index v ≡ answered (unless_zero (parent_in F (v - 1)))
    parent_told = Answered.parent_answer w t

    pub head_told : head bytes index v ≡ answered (suc (head_in g F (v - 1)))
    head_told = Answered.head_answer w t

    -- Children and Child: their number, and the j-th in order of visits; 13 where there is none
    pub children_told : children bytes index v ≡ answered (length (children_in F (v - 1)))
    children_told = Answered.children_answer w t

    pub child_told : {k : ℕ} → k < length (children_in F (v - 1))
        → child bytes index v (suc k) ≡ answered (suc (get_or (children_in F (v - 1)) k 0))
    child_told = Answered.child_answer w t

    pub no_child_told : (j : ℕ) → (j ≡ 0) ⊎ (length (children_in F (v - 1)) < j) → child bytes index v j ≡ refused 13
    no_child_told = Answered.child_refused w t

    -- Visit, and that Visited undoes it
    pub visit_told : visit bytes index v ≡ answered (suc (number F (v - 1)))
    visit_told = Answered.visit_answer w t

    pub visited_of_visit : {i : ℕ} → visit bytes index v ≡ answered i → visited bytes index i ≡ answered v
    visited_of_visit = Answered.visited_back w t

  -- Visited, and that Visit undoes it
  module _ {i : ℕ} (t : VisitNumber bytes i) where
    pub visited_told : visited bytes index i ≡ answered (suc (vertex_at F (i - 1)))
    visited_told = Answered.visited_answer w t

    pub visit_of_visited : {v : ℕ} → visited bytes index i ≡ answered v → visit bytes index v ≡ answered i
    visit_of_visited = Answered.visit_back w t

  -- Ancestor: yes or no, by the forest's relation
  module _ {u v : ℕ} (t : Terminal bytes u) (r : Terminal bytes v) where
    pub ancestor_answered : ancestor bytes index u v ≡ answered (ancestor_in F (u - 1) (v - 1))
    ancestor_answered = Answered.ancestor_answer w t r

    pub ancestor_relation : (ancestor_in F (u - 1) (v - 1) ≡ true) ↔ Ancestor F (u - 1) (v - 1)
    ancestor_relation =
        ancestor_told (Answered.formed w).in_range (Answered.covered w) (u - 1) (v - 1) (Answered.vertex_of_lem w r)

  -- Table: each cell is what its query answers, so none is a refusal
  pub table_told : Tabled bytes index (table_of bytes w.start)
  table_told = subst (λ (x : List ℕ). Tabled bytes index (table_on bytes x)) w.is (table_cells w)

  -- ---- The loop figure, beside the index

  -- every start gives as many roots: as many as there are looms, the groups of terminals that wires join
  pub roots_are_looms : roots F ≡ looms g
  roots_are_looms = as_many_looms (Answered.formed w) (Answered.covered w)

  pub looms_are_joined : (u v : ℕ) → u < length g → v < length g → (lowest g u ≡ lowest g v) ↔ Chain g all u v
  looms_are_joined = looms_told (Answered.formed w)

  -- so the figure is m − n plus the roots of this forest too
  pub loops_from_start : terminals bytes + loops bytes ≡ wires bytes + roots F
  loops_from_start = omega (arith, loops_whole w.accepted, roots_from w.accepted w.start w.taken)

  -- the figure counts the wires that have no mark in E at either end, by the wire, and by its two places
  pub loops_unmarked : loops bytes ≡ count_edges g (at_neither g E)
  loops_unmarked = loops_marked w

  pub loops_unmarked_twice : 2 * loops bytes ≡ count_places g (at_neither g E)
  loops_unmarked_twice = ap (λ (k : ℕ). 2 * k) loops_unmarked ∙ sym (counted_twice (Answered.formed w) E)

  -- and it follows from Table's parents, of which those that are 0 are the roots'
  pub loops_by_table : terminals bytes + loops bytes ≡ wires bytes + roots_in (table_of bytes w.start).parents
  loops_by_table =
      subst (λ (x : List ℕ). terminals bytes + loops bytes ≡ wires bytes + roots_in (table_on bytes x).parents) w.is
      (table_loops w)

  -- ---- The number of sections: terminals that share a head are one section

  -- the lists of what Head and Parent answer are Table's: each cell is an answer, 0 for a root's parent
  pub heads_answered : {v : ℕ} → Terminal bytes v
      → head bytes index v ≡ answered (get_or (heads_on bytes index) (v - 1) 0)
  unfolding table_on
  heads_answered = (table_cells w).heads_are

  pub parents_answered : {v : ℕ} → Terminal bytes v
      → parent bytes index v ≡ answered (unless_zero (get_or (parents_on bytes index) (v - 1) 0))
  unfolding table_on
  parents_answered = (table_cells w).parents_are

  -- the number of ones of B is even: half of it is that of the wires that B marks
  pub ones_even : ones_of_b bytes index ≡ 2 * (ones_of_b bytes index / 2)
  ones_even = omega (arith, Sectioned.ones_edges w)

  pub single_feeds : ones_of_b bytes index / 2 ≡ count_edges g B
  single_feeds = omega (arith, Sectioned.ones_edges w)

  -- as many different heads as roots and half the ones of B together
  pub sections_counted : different (heads_on bytes index) ≡ roots_in (parents_on bytes index) + ones_of_b bytes index / 2
  sections_counted = Sectioned.heads_roots w

  -- ---- Demand 3

  pub heads_tell : {u v : ℕ} → Terminal bytes u → Terminal bytes v
      → HeadsTell bytes w.start u v (head bytes index u) (head bytes index v)
  heads_tell = Answered.heads_answer w

  -- ---- The start

  -- the tree hangs from the start: it is a root, and visited first
  module _ (t : Terminal bytes w.start) where
    pub start_parent : parent bytes index w.start ≡ answered none
    start_parent = Answered.parent_answer w t ∙ ap (λ (k : ℕ). answered (unless_zero k)) (Answered.first w t).a_root

    pub start_visit : visit bytes index w.start ≡ answered 1
    start_visit = Answered.visit_answer w t ∙ ap (λ (k : ℕ). answered (suc k)) (Answered.first w t).number_zero

  -- the first start, terminal 1 or 0 for the empty record, gives the former index: of the search that takes the
  -- vertices in order
  pub start_1 : w.start ≡ first_start (terminals bytes)
      → index_by g (search g all (count_up 0 (length g))) ≡ index
  start_1 e =
      first_index (Answered.formed w).in_range (terminals bytes)
      ∙ ap (λ (x : ℕ). index_of g (x - 1)) (sym e)
      ∙ sym w.is

-- two starts give the same groups of heads, though the heads may differ
pub same_groups : {bytes a b : List ℕ} → Written bytes a → Written bytes b → {u v : ℕ} → Terminal bytes u
    → Terminal bytes v → (head bytes a u ≡ head bytes a v) ↔ (head bytes b u ≡ head bytes b v)
same_groups w x t r =
    let p = (heads_tell w t r).equal_exactly in
    let q = (heads_tell x t r).equal_exactly in
    (λ e. q.1 (p.0 e), λ e. p.1 (q.0 e))

-- and as many different heads
pub same_sections : {bytes a b : List ℕ} → Written bytes a → Written bytes b
    → different (heads_on bytes a) ≡ different (heads_on bytes b)
same_sections w x = Sectioned.heads_looms w ∙ sym (Sectioned.heads_looms x)
