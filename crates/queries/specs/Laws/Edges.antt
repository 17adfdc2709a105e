-- The marks of an index that Build wrote, as its bits, and the tree edges and bridges that they show.
use Rattle.std.specs.Prelude.{◌≡◌, refl, ◌↔◌, Bool, true, false, List, ℕ, zero, suc, ◌-◌, ◌<◌, length, take}
use Rattle.std.proofs.Common.{sym, ap, ◌∙◌}
use Rattle.graph.specs.Graph.{Blocks, block, Place, mentions, position, twin}
use Rattle.graph.specs.Search.{Forest}
use Rattle.graph.specs.Joined.{Chain, without, bridge}
use Rattle.graph.specs.Forest.{parent as parent_in, child_mark, parent_mark}
use Rattle.graph.specs.Theorems.{wires_balance, child_marks, parent_marks, marks_at_pairs, parent_mark_once}
use Rattle.graph.specs.Theorems.{parent_mark_none, bridge_told, bridge_both, no_bridge_doubled}
use Rattle.graph.specs.Laws.Places.Basics.{clash}
use Rattle.graph.specs.Laws.Places.Mentions.{first_mention}
use Rattle.graph.specs.Laws.Places.Pairing.{source, place_at, twin_place, twin_twin}
use Rattle.graph.specs.Laws.Joined.Spanning.{search_spans}
use Rattle.graph.specs.Laws.Edges.Marks.{back_place, back_marked, first_back}
use Rattle.record.specs.Record.{blocks}
use Rattle.forest.specs.Index.{index_of}
use Rattle.queries.specs.View.{section_bit, place_of}
use Rattle.queries.specs.Written.{Written, forest_from, Once}
use Rattle.queries.specs.Laws.Answered.{formed, covered}
use Rattle.queries.specs.Laws.Built.{built_e, built_p, built_b}

passes : (b : Bool) → (b ≡ false → ⊥) → b ≡ true
passes true h = refl
passes false h = absurd (h refl)

module _ {bytes index : List ℕ} (w : Written bytes index) where
  abbrev g : Blocks
  g = blocks bytes

  abbrev F : Forest
  F = forest_from bytes w.start

  -- the bit of section k at position j of u's block
  abbrev at : ℕ → ℕ → ℕ → Bool
  at k u j = section_bit bytes index k (place_of bytes u j)

  written_bit : (k u j : ℕ) {b : Bool} → section_bit bytes (index_of g (w.start - 1)) k (place_of bytes u j) ≡ b
      → at k u j ≡ b
  written_bit k u j e = ap (λ (x : List ℕ). section_bit bytes x k (place_of bytes u j)) w.is ∙ e

  pub e_at : {u j v : ℕ} → Place g u j v → at 0 u j ≡ child_mark F u j
  e_at {u} {j} p = written_bit 0 u j (built_e w.accepted (w.start - 1) p)

  p_at : {u j v : ℕ} → Place g u j v → at 1 u j ≡ parent_mark g g F u j
  p_at {u} {j} p = written_bit 1 u j (built_p w.accepted (w.start - 1) p)

  pub b_at : {u j v : ℕ} → Place g u j v → at 2 u j ≡ bridge g u j
  b_at {u} {j} p = written_bit 2 u j (built_b w.accepted (w.start - 1) p)

  module _ {u j v : ℕ} (p : Place (blocks bytes) u j v) where
    other : Place g v (twin g u j) u
    other = twin_place (formed w) p

    -- a mark at v's first mention: by its position, and by the mentions before it
    first : {a b : Bool} {A : Type 0} → a ≡ b → (b ≡ true) ↔ (A × (j ≡ position v (block g u) 0))
        → (a ≡ true) ↔ (A × (mentions v (take j (block g u)) ≡ 0))
    first is q =
        let f = first_mention v (block g u) j p.fits p.leads in (
          λ e. (let r = q.0 (sym is ∙ e) in (r.0, f.0 r.1)),
          λ h. is ∙ q.1 (h.0, f.1 h.1),
        )

    pub e_told : (at 0 u j ≡ true) ↔ ((parent_in F v ≡ suc u) × (mentions v (take j (block g u)) ≡ 0))
    e_told = first (e_at p) (child_marks (formed w).in_range (covered w) p)

    pub p_told : (at 1 u j ≡ true) ↔ ((parent_in F u ≡ suc v) × (mentions v (take j (block g u)) ≡ 0))
    p_told = first (p_at p) (parent_marks (formed w).in_range (covered w) (wires_balance (formed w)) (source p) p)

    pub p_as_e : at 1 v (twin g u j) ≡ at 0 u j
    p_as_e = p_at other ∙ marks_at_pairs (formed w).in_range (covered w) (wires_balance (formed w)) p ∙ sym (e_at p)

    pub b_told : (at 2 u j ≡ true) ↔ (Chain g (without g u j) u v → ⊥)
    b_told =
        let q = bridge_told (formed w).in_range p in
        (λ e c. clash (sym (b_at p) ∙ e) (q.1 c), λ n. b_at p ∙ passes (bridge g u j) (λ e. n (q.0 e)))

    pub b_both : at 2 v (twin g u j) ≡ at 2 u j
    b_both = b_at other ∙ bridge_both (formed w) p ∙ sym (b_at p)

    pub b_doubled : {i : ℕ} → Place g u i v → (i ≡ j → ⊥) → at 2 u j ≡ false
    b_doubled q n = b_at p ∙ no_bridge_doubled (formed w) p q n

  -- the other way round
  pub e_as_p : {u j v : ℕ} → Place (blocks bytes) u j v → at 0 v (twin g u j) ≡ at 1 u j
  e_as_p {u} p = sym (p_as_e (twin_place (formed w) p)) ∙ ap (at 1 u) (twin_twin (formed w) p)

  -- ---- one mark of P, or none

  module _ {u : ℕ} (h : u < length (blocks bytes)) where
    pub p_none : (parent_in F u ≡ 0) ↔ ((j : ℕ) → j < length (block g u) → at 1 u j ≡ false)
    p_none =
        let q = parent_mark_none (formed w).in_range (covered w) (wires_balance (formed w)) u h in
        (λ e j l. p_at (place_at l) ∙ q.0 e j l, λ f. q.1 (λ j l. sym (p_at (place_at l)) ∙ f j l))

    pub p_once : (parent_in F u ≡ 0 → ⊥) → Once (at 1 u) (length (block g u))
    p_once n = go (parent_in F u) refl n
      where
        go : (k : ℕ) → parent_in F u ≡ k → (k ≡ 0 → ⊥) → Once (at 1 u) (length (block g u))
        go zero e z = absurd (z refl)
        go (suc v) e z =
            let span = search_spans (formed w).in_range (covered w) in
            let bal = wires_balance (formed w) in
            let b = first_back span bal h e in
            let l = back_place bal span.built b in
            let mark = back_marked bal span.built b in
            record {
              at = position v (block g u) 0;
              inside = l;
              passes = p_at (place_at l) ∙ mark;
              only =
                  λ i k q. parent_mark_once (formed w).in_range (covered w) bal (place_at k) (place_at l)
                  (sym (p_at (place_at k)) ∙ q) mark;
            }
