-- The arrays of a search program, as functions of an index: what they say of a forest, and what a step stores in them.
--   Cells                                  the arrays
--   visit_cell, visit_entered, visit_new    what stands in the visit cell of a vertex
--   Kept                                   the arrays hold a forest
--   Enters, kept_enter                     the stores that enter a vertex, after which they hold one entry more
--   room                                   a forest that lacks a vertex has fewer entries than there are vertices
use Rattle.std.specs.Prelude.{ℕ, suc, ◌<◌, ◌≡◌, refl, true, false, ◌∷◌, length}
use Rattle.std.proofs.Common.{sym, ◌∙◌, ap, arith}
use Rattle.std.proofs.Math.Decide.{ℕ_discrete}
use Rattle.graph.specs.Graph.{Blocks}
use Rattle.graph.specs.Search.{Goal, root, aim, Forest, entered}
use Rattle.graph.specs.Forest.{number, vertex_at, parent}
use Rattle.graph.specs.Laws.Tree.Entries.{Entered, now, old, test_entered, test_new, dec_entered, entered_rest}
use Rattle.graph.specs.Laws.Tree.Entries.{Built, built_root}
use Rattle.graph.specs.Laws.Tree.Numbers.{number_hit, number_miss, vertex_hit, vertex_miss, count_most}
use Rattle.graph.specs.Laws.Tree.Climbs.{parent_miss, slot, slot_miss}
use Rattle.graph.specs.Laws.Bridges.Stores.{Stored}

-- for each vertex: its visit cell, 1 + its parent or 0, its slot, and the position in its block to try next; and the
-- vertex of each visit number
pub record Cells : Type 0 where
  pub visits : ℕ → ℕ
  pub parents : ℕ → ℕ
  pub slots : ℕ → ℕ
  pub nexts : ℕ → ℕ
  pub order : ℕ → ℕ

-- 0 before the visit, then 1 + the visit number
unfoldable pub visit_cell : Forest → ℕ → ℕ
visit_cell F x = elim (entered x F) [ true ↦ suc (number F x) | false ↦ 0 ]

pub visit_entered : {F : Forest} {x : ℕ} → Entered x F → visit_cell F x ≡ suc (number F x)
unfolding visit_cell
visit_entered {F} {x} i = rw (test_entered i, visit_cell)

pub visit_new : (F : Forest) (x : ℕ) → (Entered x F → ⊥) → visit_cell F x ≡ 0
unfolding visit_cell
visit_new F x h = rw (test_new x F h, visit_cell)

visit_miss : (a : Goal) (F : Forest) (x : ℕ) → (x ≡ aim a → ⊥) → visit_cell (a ∷ F) x ≡ visit_cell F x
visit_miss a F x h = go (dec_entered x F)
  where
    go : Dec (Entered x F) → visit_cell (a ∷ F) x ≡ visit_cell F x
    go (yes i) = visit_entered (old i) ∙ (ap suc (number_miss a F h) ∙ sym (visit_entered i))
    go (no n) = visit_new (a ∷ F) x (λ i. n (entered_rest i h)) ∙ sym (visit_new F x n)

-- what the arrays say of the forest; of a vertex that is not entered only its visit cell is known
pub record Kept (g : Blocks) (F : Forest) (c : Cells) : Type 0 where
  pub visit_cells_lem : (v : ℕ) → v < length g → c.visits v ≡ visit_cell F v
  pub parent_cells : (v : ℕ) → Entered v F → c.parents v ≡ parent F v
  pub slot_cells : (v : ℕ) → Entered v F → c.slots v ≡ slot F v
  pub order_cells : (k : ℕ) → k < length F → c.order k ≡ vertex_at F k

-- ---- what a step stores

-- v is entered as number k under p (0, or 1 + its parent) by position j; before that the next positions were `at`
pub record Enters (n : ℕ) (c c' : Cells) (at : ℕ → ℕ) (v k p j : ℕ) : Type 0 where
  pub visits_set : Stored n c.visits c'.visits v (suc k)
  pub parents_set : Stored n c.parents c'.parents v p
  pub slots_set : Stored n c.slots c'.slots v j
  pub nexts_set : Stored n at c'.nexts v 0
  pub order_set : Stored n c.order c'.order k v

-- the entries are fewer than the vertices while one is missing
pub room : {Ok : ℕ → ℕ → ℕ → Type 0} {F : Forest} {n x : ℕ} → Built Ok F → ((v : ℕ) → Entered v F → v < n) → x < n
    → (Entered x F → ⊥) → length F < n
room {F = F} {n = n} {x = x} b w h k = count_most n (built_root k b) inside
  where
    inside : (v : ℕ) → Entered v (root x ∷ F) → v < n
    inside v (now e) = rw e h
    inside v (old i) = w v i

-- a table that is read from a vertex's own entry, after a new entry
table_enter : (f : Forest → ℕ → ℕ) → ((a : Goal) (F : Forest) (x : ℕ) → (x ≡ aim a → ⊥) → f (a ∷ F) x ≡ f F x)
    → {n : ℕ} (a : Goal) {F : Forest} {t t' : ℕ → ℕ} {y : ℕ} → f (a ∷ F) (aim a) ≡ y → Stored n t t' (aim a) y
    → (v : ℕ) → v < n → ((v ≡ aim a → ⊥) → t v ≡ f F v) → t' v ≡ f (a ∷ F) v
table_enter f miss {n} a {F} {t} {t'} {y} e s v l h = go (ℕ_discrete v (aim a))
  where
    go : Dec (v ≡ aim a) → t' v ≡ f (a ∷ F) v
    go (yes q) = rw q (s.hit ∙ sym e)
    go (no q) = s.rest v l q ∙ (h q ∙ sym (miss a F v q))

module _ {g : Blocks} {F : Forest} {c c' : Cells} (ke : Kept g F c) where
  pub kept_enter : {at : ℕ → ℕ} {p j : ℕ} (a : Goal) → ((v : ℕ) → Entered v (a ∷ F) → v < length g)
      → length F < length g → parent (a ∷ F) (aim a) ≡ p → slot (a ∷ F) (aim a) ≡ j
      → Enters (length g) c c' at (aim a) (length F) p j → Kept g (a ∷ F) c'
  kept_enter a w l ep ej s = record {
    visit_cells_lem = λ v h. table_enter visit_cell visit_miss a (visit_entered (now refl) ∙ ap suc (number_hit a F refl))
        s.visits_set v h (λ q. ke.visit_cells_lem v h);
    parent_cells = λ v i. table_enter parent parent_miss a ep s.parents_set v (w v i)
        (λ q. ke.parent_cells v (entered_rest i q));
    slot_cells = λ v i. table_enter slot slot_miss a ej s.slots_set v (w v i)
        (λ q. ke.slot_cells v (entered_rest i q));
    order_cells = λ k h. at_number k h (ℕ_discrete k (length F));
  }
    where
      at_number : (k : ℕ) → k < length (a ∷ F) → Dec (k ≡ length F) → c'.order k ≡ vertex_at (a ∷ F) k
      at_number k h (yes e) = rw e s.order_set.hit ∙ sym (vertex_hit a F e)
      at_number k h (no n) =
          s.order_set.rest k (omega arith) n ∙ (ke.order_cells k (omega arith) ∙ sym (vertex_miss a F n))
