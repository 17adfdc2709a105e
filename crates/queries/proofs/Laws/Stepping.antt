-- One step up, from the only mark of a block.
--   block_bounds     a block's fields are the record's
--   block_fits       its marks have a place in a section
--   block_marks_lem      its marks, by its fields
--   block_neighbour  its fields are the neighbours
--   step_root        no mark
--   step_doubled     more than one
--   lone_field       the marked field is one of the record's
--   step_risen       it is a vertex
--   step_stray       it is none
--   below_end        the field of a child is one of the record's
use mathlib.Core.Path.{◌≡◌, refl, sym, ap, ap₂, subst, ◌∙◌}
use mathlib.Core.Bool.{Bool}
use mathlib.Core.List.{List}
use Prim.Native.Nat.{ℕ, zero, suc, ◌+◌, ◌-◌, ◌*◌, ◌≤◌, ◌<◌}
use native.Mathlib.Omega.{arith}
use borrow.Author.Tests.{lt-ltb, le-ltb}
use lib.ListN.{length, take, drop, get_or}
use Rattle.bits.specs.Bits.{count, select}
use Rattle.bits.specs.Spans.{LoneOf}
use Rattle.bits.specs.declared.spans.Lone.{Lone}
use Rattle.bits.specs.Laws.Select.{select_le}
use Rattle.graph.specs.Graph.{Blocks, block, target}
use Rattle.record.specs.Record.{unary, fields, blocks}
use Rattle.record.specs.Starts.{starts_of}
use Rattle.record.specs.Steps.{Sound}
use Rattle.record.specs.Laws.Sounded.{sound_vertices}
use Rattle.record.specs.Laws.Spans.{span_rises, span_ends, span_size, span_one, span_neighbour}
use Rattle.queries.specs.View.{block_marks}
use Rattle.queries.specs.Queries.{stuck, top, rise, step_by, step_up}
use Rattle.queries.proofs.Laws.Ones.{positive, part_length}

-- ---- steps by counts

step_top : (g : Blocks) (u j : ℕ) {c : ℕ} → c ≡ 0 → top ≡ step_by g u c j
unfolding step_by
step_top g u j e = rw e

step_many : (g : Blocks) (u c j : ℕ) → 2 ≤ c → stuck ≡ step_by g u c j
unfolding step_by
step_many g u zero j h = absurd (omega arith)
step_many g u (suc zero) j h = absurd (omega arith)
step_many g u (suc (suc c)) j h = refl

step_rises : (g : Blocks) (u j : ℕ) {c : ℕ} → c ≡ 1 → target g u j < length g → rise j (target g u j) ≡ step_by g u c j
unfolding step_by
step_rises g u j e h = rw (e, step_by, lt-ltb (target g u j) (length g) h)

step_strays : (g : Blocks) (u j : ℕ) {c : ℕ} → c ≡ 1 → length g ≤ target g u j → stuck ≡ step_by g u c j
unfolding step_by
step_strays g u j e h = rw (e, step_by, le-ltb (target g u j) (length g) h)

-- ---- the block of u, whose fields are those from a up to b

module _ {bytes : List ℕ} {n m u a b : ℕ} (o : Sound bytes n m) (h : u < n) (ea : a ≡ get_or (starts_of (unary bytes)) u 0)
    (eb : b ≡ get_or (starts_of (unary bytes)) (u + 1) 0) where
  pub block_bounds : (a ≤ b) × (b ≤ 2 * m)
  block_bounds = (omega (arith, span_rises o h), omega (arith, span_ends o h))

  -- its marks have a place in a section
  pub block_fits : (a ≤ b) × (a + u + 1 + (b - a) ≤ n + 2 * m) × (n ≤ 4096) × (m ≤ 16384)
  block_fits = let (r, e) = block_bounds in (r, omega arith, o.n_fits, o.m_fits)

  pub block_marks_lem : (s : List Bool) → block_marks bytes s u ≡ take (b - a) (drop (a + u + 1) s)
  unfolding block_marks
  block_marks_lem s =
      let x : length (block (blocks bytes) u) ≡ b - a = span_size o h ∙ sym (ap₂ ◌-◌ eb ea) in
      let y : select (unary bytes) (suc u) ≡ a + u + 1 = sym (span_one o h) ∙ ap (λ (z : ℕ). z + u + 1) (sym ea) in
      ap₂ (λ (i j : ℕ). take i (drop j s)) x y

  pub block_neighbour : (j : ℕ) → j < b - a → target (blocks bytes) u j ≡ get_or (fields bytes) (a + j) 0
  block_neighbour j k = span_neighbour o h j (omega arith) ∙ ap (λ (x : ℕ). get_or (fields bytes) (x + j) 0) (sym ea)

  -- the step up by the only mark of a section s
  module _ (s : List Bool) (r : Lone) (l : LoneOf (take (b - a) (drop (a + u + 1) s)) r) where
    lone : {x : Lone} → r ≡ x → LoneOf (block_marks bytes s u) x
    lone {x} e =
        subst (λ (t : List Bool). LoneOf t x) (sym (block_marks_lem s))
        (subst (LoneOf (take (b - a) (drop (a + u + 1) s))) e l)

    pub step_root : r ≡ Lone.None → top ≡ step_up (blocks bytes) (block_marks bytes s) u
    unfolding step_up
    step_root e = step_top (blocks bytes) u (select (block_marks bytes s u) 1 - 1) (lone e)

    pub step_doubled : r ≡ Lone.More → stuck ≡ step_up (blocks bytes) (block_marks bytes s) u
    unfolding step_up
    step_doubled e =
        step_many (blocks bytes) u (count (block_marks bytes s u)) (select (block_marks bytes s u) 1 - 1) (lone e)

    -- bit p of the block is the only mark
    module _ {p : ℕ} (e : r ≡ Lone.At p) where
      single : count (block_marks bytes s u) ≡ 1
      single = (lone e).0

      at : p ≡ select (block_marks bytes s u) 1 - 1
      at = let q = (lone e).1 in omega arith

      module _ (long : length s ≡ n + 2 * m) where
        inside : p < b - a
        inside =
            let (x, y, z, w) = block_fits in
            let d : length (block_marks bytes s u) ≡ b - a =
            ap length (block_marks_lem s) ∙ part_length s (a + u + 1) (b - a) (omega arith) in
            let q = (lone e).1 in
            let k = select_le (block_marks bytes s u) 1 in
            omega arith

        -- so its field is one of the record's
        pub lone_field : (a + p < 2 * m) × (m ≤ 16384)
        lone_field = (omega (arith, block_bounds.1, inside), o.m_fits)

        module _ {t : ℕ} (et : t ≡ get_or (fields bytes) (a + p) 0) where
          leads : target (blocks bytes) u p ≡ t
          leads = block_neighbour p inside ∙ sym et

          pub step_risen : t < n → rise p t ≡ step_up (blocks bytes) (block_marks bytes s) u
          unfolding step_up
          step_risen l =
              let k = sound_vertices o in
              let e = leads in
              ap (rise p) (sym leads) ∙ step_rises (blocks bytes) u p single (omega arith)
              ∙ ap (step_by (blocks bytes) u (count (block_marks bytes s u))) at

          pub step_stray : n ≤ t → stuck ≡ step_up (blocks bytes) (block_marks bytes s) u
          unfolding step_up
          step_stray l =
              let k = sound_vertices o in
              let e = leads in
              step_strays (blocks bytes) u p single (omega arith)
              ∙ ap (step_by (blocks bytes) u (count (block_marks bytes s u))) at

-- the field of a child's place in the block is one of the record's
pub below_end : {a b p e : ℕ} → a ≤ b → b ≤ e → p ≤ b - a → (p ≡ 0 → ⊥) → a + (p - 1) < e
below_end r l f z = let q = positive z in omega arith
