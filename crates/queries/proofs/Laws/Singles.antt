-- Answers about one vertex: its parent, its children, its number.
--   no_first          child 0 is refused
--   visit_told        a stored number that is a vertex's
--   visit_stray       one that is none
--   met               u is the first vertex that has number k
--   unmet             no vertex has it
--   Room              the numbers of a block are small
--   block_room        so they are
--   children_counted  Children
--   Chosen            what Child reads
--   few_told          a child past the count is refused
--   child_room        the child's field is one of the record's
--   there_told        it is a vertex
--   stray_told        it is none
use mathlib.Core.Path.{◌≡◌, refl, sym, ap, ◌∙◌}
use mathlib.Core.Bool.{Bool, true, false}
use mathlib.Core.List.{List, [], ◌∷◌, map}
use Prim.Native.Nat.{ℕ, zero, suc, ◌+◌, ◌-◌, ◌*◌, ◌≤◌, ◌<◌}
use native.Mathlib.Numerals.{add-one}
use native.Mathlib.Decide.{dec_lt}
use native.Mathlib.Omega.{arith}
use borrow.Author.Tests.{eq-eqb, ne_eqb, lt-ltb, le-ltb}
use lib.Dec.{eqb}
use lib.ListN.{length, take, drop, get_or}
use Rattle.bits.specs.Bits.{bit, count, select}
use Rattle.bits.specs.Laws.Select.{select_none, select_bounds, select_le}
use Rattle.graph.specs.Graph.{target}
use Rattle.graph.specs.Search.{count_up}
use Rattle.graph.specs.Laws.Places.CountUp.{length_each, each_is}
use Rattle.record.specs.Record.{unary, fields, blocks}
use Rattle.record.specs.Rules.{first_broken}
use Rattle.record.specs.Starts.{starts_of}
use Rattle.record.specs.Answers.{refused, answered, tried_then}
use Rattle.record.specs.Steps.{Sound}
use Rattle.record.specs.Laws.First.{first_broken_lem, first_kept}
use Rattle.record.specs.Laws.Sounded.{sound_vertices}
use Rattle.record.specs.Laws.Told.{then_told, then_untold}
use Rattle.queries.specs.View.{View, view_by, block_marks, section_of}
use Rattle.queries.specs.Queries.{child_count, vertex_or, child_of, past_count, visit_of, found, visited_of}
use Rattle.queries.proofs.Laws.Ones.{positive, part_length, count_next, found_here, found_none}
use Rattle.queries.specs.Steps.{Beside, Ranged, FieldsOf, OthersBefore}
use Rattle.queries.specs.Laws.Asked.{vertex_in}
use Rattle.queries.specs.Laws.Framed.{length_e}
use Rattle.queries.proofs.Laws.Stepping.{block_bounds, block_marks_lem, block_neighbour, below_end}

-- ---- a number that is a vertex's

module _ (w : View) where
  vertex_yes : {v : ℕ} → v < length w.graph → answered (v + 1) ≡ vertex_or w v
  vertex_yes {v} h = rw (lt-ltb v (length w.graph) h, vertex_or) (ap answered (add-one v))

  vertex_no : {v : ℕ} → length w.graph ≤ v → refused 12 ≡ vertex_or w v
  vertex_no {v} h = rw (le-ltb v (length w.graph) h, vertex_or)

  -- 13, and then the child
  module _ (u j : ℕ) where
    abbrev rule : Bool
    rule = past_count w u j

    pub no_first : j ≡ 0 → refused 13 ≡ tried_then ((13, rule) ∷ []) (child_of w u j)
    no_first e = then_told ((13, rule) ∷ []) (child_of w u j) (first_broken_lem 13 [] (rw (eq-eqb j 0 e)))

    module _ (nz : j ≡ 0 → ⊥) {p : ℕ} (ep : p ≡ select (w.marks_e u) j) where
      too_few : p ≡ 0 → refused 13 ≡ tried_then ((13, rule) ∷ []) (child_of w u j)
      unfolding child_count
      too_few z =
          let l : count (w.marks_e u) < j = few (dec_lt (count (w.marks_e u)) j) in
          then_told ((13, rule) ∷ []) (child_of w u j)
          (first_broken_lem 13 [] (rw (ne_eqb j 0 nz, lt-ltb (count (w.marks_e u)) j l)))
        where
          few : Dec (count (w.marks_e u) < j) → count (w.marks_e u) < j
          few (yes l) = l
          few (no l) = let (a, b) = select_bounds (w.marks_e u) j (omega arith) (omega arith) in absurd (omega arith)

      module _ (some : p ≡ 0 → ⊥) {t : ℕ} (et : target w.graph u (p - 1) ≡ t) where
        enough : first_broken ((13, rule) ∷ []) ≡ 0
        unfolding child_count first_broken
        enough = let e : rule ≡ false = kept in first_kept 13 [] e
          where
            least : Dec (count (w.marks_e u) < j) → j ≤ count (w.marks_e u)
            least (yes l) = absurd (some (ep ∙ select_none (w.marks_e u) j l))
            least (no l) = omega arith

            kept : rule ≡ false
            kept = rw (ne_eqb j 0 nz, le-ltb (count (w.marks_e u)) j (least (dec_lt (count (w.marks_e u)) j)))

        is_t : target w.graph u (select (w.marks_e u) j - 1) ≡ t
        is_t = ap (λ (x : ℕ). target w.graph u (x - 1)) (sym ep) ∙ et

        child_there : t < length w.graph → answered (t + 1) ≡ tried_then ((13, rule) ∷ []) (child_of w u j)
        unfolding child_of
        child_there l =
            vertex_yes l ∙ ap (vertex_or w) (sym is_t) ∙ then_untold ((13, rule) ∷ []) (child_of w u j) enough

        child_stray : length w.graph ≤ t → refused 12 ≡ tried_then ((13, rule) ∷ []) (child_of w u j)
        unfolding child_of
        child_stray l =
            vertex_no l ∙ ap (vertex_or w) (sym is_t) ∙ then_untold ((13, rule) ∷ []) (child_of w u j) enough

  -- ---- Visit

  pub visit_told : {u x : ℕ} → x ≡ w.stored u → x < length w.graph → answered (x + 1) ≡ visit_of w u
  unfolding visit_of
  visit_told e l = vertex_yes l ∙ ap (vertex_or w) e

  pub visit_stray : {u x : ℕ} → x ≡ w.stored u → length w.graph ≤ x → refused 12 ≡ visit_of w u
  unfolding visit_of
  visit_stray e l = vertex_no l ∙ ap (vertex_or w) e

  -- ---- Visited

  module _ (k : ℕ) where
    hits : List Bool
    hits = map (λ u. eqb (w.stored u) k) (count_up 0 (length w.graph))

    hits_long : length hits ≡ length w.graph
    unfolding hits
    hits_long = length_each (λ u. eqb (w.stored u) k) 0 (length w.graph)

    hit_at : (u : ℕ) → u < length w.graph → get_or hits u false ≡ eqb (w.stored u) k
    unfolding hits
    hit_at u h = each_is (λ u. eqb (w.stored u) k) false (length w.graph) u h

    hits_next : (u : ℕ) → u < length w.graph
        → count (take (u + 1) hits) ≡ count (take u hits) + bit (eqb (w.stored u) k)
    hits_next u l =
        count_next hits u (omega (arith, hits_long)) ∙ ap (λ (b : Bool). count (take u hits) + bit b) (hit_at u l)

    no_hits : (u : ℕ) → u ≤ length w.graph → OthersBefore w.stored k u → count (take u hits) ≡ 0
    unfolding count
    no_hits zero l others = refl
    no_hits (suc u) l others =
        let before = no_hits u (omega arith) (λ v h. others v (omega arith)) in
        let here = ap bit (ne_eqb (w.stored u) k (others u (omega arith))) in
        ap (λ (x : ℕ). count (take x hits)) (sym (add-one u)) ∙ hits_next u (omega arith) ∙ omega (arith, before, here)

    pub met : {u : ℕ} → u < length w.graph → OthersBefore w.stored k u → w.stored u ≡ k
        → answered (u + 1) ≡ visited_of w k
    unfolding visited_of hits
    met {u} l others e =
        let here : eqb (w.stored u) k ≡ true = eq-eqb (w.stored u) k e in
        let before = no_hits u (omega arith) others in
        let one : count (take (u + 1) hits) ≡ 1 = hits_next u l ∙ omega (arith, before, ap bit here) in
        ap answered (add-one u) ∙ ap found (sym (add-one u) ∙ found_here hits u (hit_at u l ∙ here) one)

    pub unmet : OthersBefore w.stored k (length w.graph) → refused 12 ≡ visited_of w k
    unfolding visited_of hits
    unmet others =
        let none = no_hits (length w.graph) (omega arith) others in
        ap found (found_none hits {i = length w.graph} (omega (arith, hits_long)) (omega (arith, none)))

-- ---- the block of u, whose fields are those from a up to b

-- its numbers are small
abbrev pub Room : ℕ → ℕ → ℕ → ℕ → ℕ → Type 0
Room n m u a b = (a ≤ b) × (b ≤ 2 * m) × (u < n) × (n ≤ 4096) × (m ≤ 16384)

pub block_room : {bytes index : List ℕ} {n m v a b : ℕ} → Beside bytes index n m → Ranged n v
    → FieldsOf bytes (v - 1) a b → Room n m (v - 1) a b
block_room o r f =
    let h = vertex_in r in
    let (x, y) = block_bounds o.sound h f.from f.to in
    (x, y, h, o.framed.n_fits, o.framed.m_fits)

module _ {bytes : List ℕ} {n m u a b : ℕ} (index : List ℕ) (o : Sound bytes n m) (h : u < n)
    (ea : a ≡ get_or (starts_of (unary bytes)) u 0) (eb : b ≡ get_or (starts_of (unary bytes)) (u + 1) 0) where
  pub children_counted : {r : ℕ} → r ≡ count (take (b - a) (drop (a + u + 1) (section_of n m index 0)))
      → r ≡ child_count (view_by n m bytes index) u
  unfolding child_count
  children_counted e = e ∙ ap count (sym (block_marks_lem o h ea eb (section_of n m index 0)))

-- Child, from the numbers that the code reads: p is the place of E's j-th one in the block
pub record Chosen (bytes index : List ℕ) (n m v a b j p : ℕ) : Type 0 where
  pub beside : Beside bytes index n m
  pub ranged : Ranged n v
  pub fields : FieldsOf bytes (v - 1) a b
  pub asked : j ≡ 0 → ⊥
  pub chosen : p ≡ select (take (b - a) (drop (a + (v - 1) + 1) (section_of n m index 0))) j

module _ {bytes index : List ℕ} {n m v a b j p : ℕ} (c : Chosen bytes index n m v a b j p) where
  abbrev view : View
  view = view_by n m bytes index

  abbrev u : ℕ
  u = v - 1

  inside : v - 1 < n
  inside = vertex_in c.ranged

  place : p ≡ select (block_marks bytes (section_of n m index 0) u) j
  place =
      let f = c.fields in
      let marks = block_marks_lem c.beside.sound inside f.from f.to (section_of n m index 0) in
      c.chosen ∙ ap (λ (t : List Bool). select t j) (sym marks)

  fits : p ≤ b - a
  fits =
      let k = length_e c.beside.framed in
      let (r, l, h, y, z) = block_room c.beside c.ranged c.fields in
      let x = part_length (section_of n m index 0) (a + u + 1) (b - a) (omega arith) in
      let q = select_le (take (b - a) (drop (a + u + 1) (section_of n m index 0))) j in
      let o = c.chosen in
      omega arith

  pub few_told : p ≡ 0 → refused 13 ≡ tried_then ((13, past_count view u j) ∷ []) (child_of view u j)
  few_told z = too_few view u j c.asked place z

  module _ (some : p ≡ 0 → ⊥) where
    pub child_room : (a + (p - 1) < 2 * m) × (m ≤ 16384)
    child_room =
        let (r, l, h, y, z) = block_room c.beside c.ranged c.fields in
        (below_end r l fits some, c.beside.framed.m_fits)

    module _ {t : ℕ} (et : t ≡ get_or (fields bytes) (a + (p - 1)) 0) where
      leads : target (blocks bytes) u (p - 1) ≡ t
      leads =
          let i = fits in
          let q = positive some in
          let f = c.fields in
          block_neighbour c.beside.sound inside f.from f.to (p - 1) (omega arith) ∙ sym et

      vertices : length (blocks bytes) ≡ n
      vertices = sound_vertices c.beside.sound

      pub there_told : t < n → answered (t + 1) ≡ tried_then ((13, past_count view u j) ∷ []) (child_of view u j)
      there_told l = child_there view u j c.asked place some leads (omega (arith, vertices))

      pub stray_told : n ≤ t → refused 12 ≡ tried_then ((13, past_count view u j) ∷ []) (child_of view u j)
      stray_told l = child_stray view u j c.asked place some leads (omega (arith, vertices))
