-- The sample of document 01, from two starts, a pair of doubled wires, and vertices without wires, computed. Vertices
-- and visit numbers count from 0.
use Rattle.std.specs.Prelude.{ℕ, suc, ◌<◌, ◌≡◌, refl, ◌↔◌, Bool, true, false, not, ◌&&◌, eqb, ltb, length}
use Rattle.std.proofs.Common.{sym, ap, ◌∙◌, arith, ltb-true, eqb-true, eq-eqb}
use mathlib.Core.List.{List, [], ◌∷◌, map, flatten}
use Rattle.std.proofs.lemmas.Bool.{not-true}
use Rattle.graph.specs.Graph.{Blocks, block, Place, mentions, position, pair, twin, WellFormed}
use Rattle.graph.specs.Search.{root, via, Forest, PlaceTest, entered, arcs, run, search, count_up, starts_from}
use Rattle.graph.specs.Search.{forest}
use Rattle.graph.specs.Joined.{without, joined, bridge, DoublyJoined}
use Rattle.graph.specs.Forest.{number, vertex_at, climb, parent, roots, root_of, head, children, child_mark}
use Rattle.graph.specs.Forest.{parent_mark}
use Rattle.graph.specs.Counts.{sum, over, count_places, count_edges, at_neither, first, lowest, looms, different}
use Rattle.graph.specs.Counts.{sections}
use Rattle.graph.specs.Theorems.{start_covers, same_heads}
use Rattle.graph.specs.Laws.Places.Basics.{clash, and_parts}
use Rattle.graph.specs.Laws.Places.Pairing.{well_formed_at}
use Rattle.graph.specs.Laws.Places.Each.{each_of, each_from, each, each_place}

-- the marks of each block: 1 where the test holds
marks_of : PlaceTest → ℕ → ℕ → List ℕ → List ℕ
marks_of test u j [] = []
marks_of test u j (v ∷ l) =
    elim (test u j) [ true ↦ 1 ∷ marks_of test u (suc j) l | false ↦ 0 ∷ marks_of test u (suc j) l ]

marks_from : PlaceTest → ℕ → Blocks → List (List ℕ)
marks_from test u [] = []
marks_from test u (l ∷ g) = marks_of test u 0 l ∷ marks_from test (suc u) g

-- the roots, the looms, and the wires and the places that have a child mark at neither end
abbrev counts : Blocks → Forest → List ℕ
counts g F =
    roots F ∷ looms g ∷ count_edges g (at_neither g (child_mark F)) ∷ count_places g (at_neither g (child_mark F)) ∷ []

-- the sections, the roots, the places with the mark B, and the bridges
abbrev section_counts : Blocks → Forest → List ℕ
section_counts g F = sections g F ∷ roots F ∷ count_places g (bridge g) ∷ count_edges g (bridge g) ∷ []

-- ---- well formed: tested at each place

-- the neighbour is a vertex, not its own, and mentioned as often on both sides
sound : Blocks → ℕ → ℕ → ℕ → Bool
sound g u j v = ltb v (length g) && (not (eqb v u) && eqb (mentions v (block g u)) (mentions u (block g v)))

sound_well_formed : (g : Blocks) → each (sound g) g ≡ true → WellFormed g
unfolding sound
sound_well_formed g e = well_formed_at
    (λ u j v p. ltb-true v (length g) (parts p).0)
    (λ u j p. clash (eq-eqb u u refl) (not-true (eqb u u) (parts p).1))
    (λ u j v p. eqb-true (mentions v (block g u)) (mentions u (block g v)) (parts p).2)
  where
    parts : {u j v : ℕ} → Place g u j v
        → (ltb v (length g) ≡ true) × (not (eqb v u) ≡ true)
        × (eqb (mentions v (block g u)) (mentions u (block g v)) ≡ true)
    parts {u} {j} {v} p =
        let t : sound g u j v ≡ true = (each_place (sound g) g).0 e u j v p in
        let (a, b) = and_parts (ltb v (length g))
        (not (eqb v u) && eqb (mentions v (block g u)) (mentions u (block g v))) t in
        let (c, d) = and_parts (not (eqb v u)) (eqb (mentions v (block g u)) (mentions u (block g v))) b in
        (a, c, d)

-- ---- the sample

abbrev pub sample : Blocks
sample = (2 ∷ 1 ∷ []) ∷ (0 ∷ 2 ∷ []) ∷ (1 ∷ 3 ∷ 0 ∷ []) ∷ (2 ∷ []) ∷ (5 ∷ []) ∷ (4 ∷ []) ∷ []

sample_well_formed : WellFormed sample
unfolding each each_from each_of sound mentions
sample_well_formed = sound_well_formed sample refl

abbrev vertices : List ℕ
vertices = 0 ∷ 1 ∷ 2 ∷ 3 ∷ 4 ∷ 5 ∷ []

-- from vertex 0
abbrev sample_forest : Forest
sample_forest = via 4 0 5 ∷ root 4 ∷ via 2 1 3 ∷ via 2 0 1 ∷ via 0 0 2 ∷ root 0 ∷ []

sample_forest_lem : forest sample 0 ≡ sample_forest
unfolding search run starts_from count_up arcs entered flatten
sample_forest_lem = refl

sample_numbers : map (number sample_forest) vertices ≡ 0 ∷ 2 ∷ 1 ∷ 3 ∷ 4 ∷ 5 ∷ []
unfolding number
sample_numbers = refl

sample_order : map (vertex_at sample_forest) vertices ≡ 0 ∷ 2 ∷ 1 ∷ 3 ∷ 4 ∷ 5 ∷ []
unfolding vertex_at
sample_order = refl

-- 0 for a root, else 1 + the parent
sample_parents : map (parent sample_forest) vertices ≡ 0 ∷ 3 ∷ 1 ∷ 3 ∷ 0 ∷ 5 ∷ []
unfolding parent climb
sample_parents = refl

sample_children : map (children sample_forest) vertices ≡ (2 ∷ []) ∷ [] ∷ (1 ∷ 3 ∷ []) ∷ [] ∷ (5 ∷ []) ∷ [] ∷ []
unfolding children
sample_children = refl

sample_roots : map (root_of sample_forest) vertices ≡ 0 ∷ 0 ∷ 0 ∷ 0 ∷ 4 ∷ 4 ∷ []
unfolding root_of climb
sample_roots = refl

-- the marks E, P and B, block by block
sample_e : marks_from (child_mark sample_forest) 0 sample ≡ (1 ∷ 0 ∷ []) ∷ (0 ∷ 0 ∷ []) ∷ (1 ∷ 1 ∷ 0 ∷ []) ∷ (0 ∷ [])
    ∷ (1 ∷ []) ∷ (0 ∷ []) ∷ []
unfolding marks_from marks_of child_mark
sample_e = refl

sample_p : marks_from (parent_mark sample sample sample_forest) 0 sample ≡ (0 ∷ 0 ∷ []) ∷ (0 ∷ 1 ∷ [])
    ∷ (0 ∷ 0 ∷ 1 ∷ []) ∷ (1 ∷ []) ∷ (0 ∷ []) ∷ (1 ∷ []) ∷ []
unfolding marks_from marks_of parent_mark pair position mentions child_mark
sample_p = refl

sample_b : marks_from (bridge sample) 0 sample ≡ (0 ∷ 0 ∷ []) ∷ (0 ∷ 0 ∷ []) ∷ (0 ∷ 1 ∷ 0 ∷ []) ∷ (1 ∷ []) ∷ (1 ∷ [])
    ∷ (1 ∷ []) ∷ []
unfolding marks_from marks_of bridge joined without pair position mentions search run arcs entered flatten
sample_b = refl

sample_heads : map (head sample sample_forest) vertices ≡ 0 ∷ 0 ∷ 0 ∷ 3 ∷ 4 ∷ 5 ∷ []
unfolding head climb bridge joined without pair position mentions search run arcs entered flatten
sample_heads = refl

-- so the theorem says that 0 and 1 are doubly joined, and that 2 and 3 are not
sample_head : (v : ℕ) → head sample (forest sample 0) v ≡ head sample sample_forest v
sample_head v = ap (λ (F : Forest). head sample F v) sample_forest_lem

sample_heads_tell : (u v : ℕ) → u < 6 → v < 6
    → (head sample sample_forest u ≡ head sample sample_forest v) ↔ DoublyJoined sample u v
sample_heads_tell u v hu hv =
    let (there, back) = same_heads sample_well_formed (start_covers sample 0 (λ h. h)) u v hu hv in
    (λ e. there (sample_head u ∙ e ∙ sym (sample_head v)), λ d. sym (sample_head u) ∙ back d ∙ sample_head v)

sample_section : DoublyJoined sample 0 1
unfolding head climb bridge joined without pair position mentions search run arcs entered flatten
sample_section = (sample_heads_tell 0 1 (omega arith) (omega arith)).0 refl

sample_apart : DoublyJoined sample 2 3 → ⊥
unfolding head climb bridge joined without pair position mentions search run arcs entered flatten
sample_apart d =
    let e : ◌≡◌ {A = ℕ} 0 3 = (sample_heads_tell 2 3 (omega arith) (omega arith)).1 d in
    omega arith

sample_counts : counts sample sample_forest ≡ 2 ∷ 2 ∷ 1 ∷ 2 ∷ []
unfolding roots looms lowest first joined search run arcs entered flatten count_edges count_places over sum at_neither
    pair position mentions child_mark
sample_counts = refl

-- 4 = 2 + 4 / 2
sample_sections : section_counts sample sample_forest ≡ 4 ∷ 2 ∷ 4 ∷ 2 ∷ []
unfolding sections different head climb roots bridge joined without pair position mentions search run count_up arcs
    entered flatten count_edges count_places over sum
sample_sections = refl

-- from vertex 3: the same groups, in which 0, 1 and 2 have the head 2
sample_heads_from_3 : map (head sample (forest sample 3)) vertices ≡ 2 ∷ 2 ∷ 2 ∷ 3 ∷ 4 ∷ 5 ∷ []
unfolding head climb bridge joined without pair position mentions search run starts_from count_up arcs entered flatten
sample_heads_from_3 = refl

-- and as many roots, wires outside the forest, and sections
sample_counts_from_3 : counts sample (forest sample 3) ≡ 2 ∷ 2 ∷ 1 ∷ 2 ∷ []
unfolding roots looms lowest first joined search run starts_from count_up arcs entered flatten count_edges count_places over
    sum at_neither pair position mentions child_mark
sample_counts_from_3 = refl

sample_sections_from_3 : section_counts sample (forest sample 3) ≡ 4 ∷ 2 ∷ 4 ∷ 2 ∷ []
unfolding sections different head climb roots bridge joined without pair position mentions search run starts_from count_up
    arcs entered flatten count_edges count_places over sum
sample_sections_from_3 = refl

-- ---- two wires between the same ends, and a single one further on

abbrev pub doubled : Blocks
doubled = (1 ∷ 1 ∷ []) ∷ (0 ∷ 2 ∷ 0 ∷ []) ∷ (1 ∷ []) ∷ []

doubled_well_formed : WellFormed doubled
unfolding each each_from each_of sound mentions
doubled_well_formed = sound_well_formed doubled refl

doubled_e : marks_from (child_mark (forest doubled 0)) 0 doubled ≡ (1 ∷ 0 ∷ []) ∷ (0 ∷ 1 ∷ 0 ∷ []) ∷ (0 ∷ []) ∷ []
unfolding marks_from marks_of child_mark search run starts_from count_up arcs entered flatten
doubled_e = refl

doubled_p : marks_from (parent_mark doubled doubled (forest doubled 0)) 0 doubled ≡ (0 ∷ 0 ∷ []) ∷ (1 ∷ 0 ∷ 0 ∷ [])
    ∷ (1 ∷ []) ∷ []
unfolding marks_from marks_of parent_mark pair position mentions child_mark search run starts_from count_up arcs entered
    flatten
doubled_p = refl

doubled_b : marks_from (bridge doubled) 0 doubled ≡ (0 ∷ 0 ∷ []) ∷ (0 ∷ 1 ∷ 0 ∷ []) ∷ (1 ∷ []) ∷ []
unfolding marks_from marks_of bridge joined without pair position mentions search run arcs entered flatten
doubled_b = refl

doubled_heads : map (head doubled (forest doubled 0)) (0 ∷ 1 ∷ 2 ∷ []) ≡ 0 ∷ 0 ∷ 2 ∷ []
unfolding head climb bridge joined without pair position mentions search run starts_from count_up arcs entered flatten
doubled_heads = refl

-- the twins of the two mentions of 1 at 0, in order
doubled_twins : map (twin doubled 0) (0 ∷ 1 ∷ []) ≡ 0 ∷ 2 ∷ []
unfolding pair position mentions
doubled_twins = refl

doubled_counts : counts doubled (forest doubled 0) ≡ 1 ∷ 1 ∷ 1 ∷ 2 ∷ []
unfolding roots looms lowest first joined search run starts_from count_up arcs entered flatten count_edges count_places over
    sum at_neither pair position mentions child_mark
doubled_counts = refl

-- 2 = 1 + 2 / 2: the doubled wire is no bridge
doubled_sections : section_counts doubled (forest doubled 0) ≡ 2 ∷ 1 ∷ 2 ∷ 1 ∷ []
unfolding sections different head climb roots bridge joined without pair position mentions search run starts_from count_up
    arcs entered flatten count_edges count_places over sum
doubled_sections = refl

-- ---- no vertices, and three without wires

empty_counts : counts [] (forest [] 0) ≡ 0 ∷ 0 ∷ 0 ∷ 0 ∷ []
unfolding roots looms search run starts_from flatten count_edges count_places over sum
empty_counts = refl

empty_sections : section_counts [] (forest [] 0) ≡ 0 ∷ 0 ∷ 0 ∷ 0 ∷ []
unfolding sections different roots search run starts_from count_up flatten count_edges count_places over sum
empty_sections = refl

abbrev isolated : Blocks
isolated = [] ∷ [] ∷ [] ∷ []

isolated_counts : counts isolated (forest isolated 0) ≡ 3 ∷ 3 ∷ 0 ∷ 0 ∷ []
unfolding roots looms lowest first joined search run starts_from count_up arcs entered flatten count_edges count_places over
    sum
isolated_counts = refl

isolated_sections : section_counts isolated (forest isolated 0) ≡ 3 ∷ 3 ∷ 0 ∷ 0 ∷ []
unfolding sections different head climb roots mentions search run starts_from count_up arcs entered flatten count_edges
    count_places over sum
isolated_sections = refl
