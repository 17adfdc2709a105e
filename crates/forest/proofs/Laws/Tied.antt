-- How the cells of the work slice stand for the next positions and the slots, and what the stores of a step do to it.
--   room_after        room is left by what keeps the length
--   tied_next         a next position is stored
--   tied_enter        a vertex is entered
--   enters            the same, for the arrays of a search program
use mathlib.Core.Path.{◌≡◌, refl, sym, ap, ◌∙◌}
use mathlib.Core.List.{List}
use Prim.Native.Nat.{ℕ, ◌+◌, ◌*◌, ◌≤◌, ◌<◌}
use native.Mathlib.Decide.{ℕ_discrete}
use native.Mathlib.Omega.{arith}
use borrow.Author.Rules.{rules}
use lib.ListN.{length, get_or}
use Rattle.graph.specs.Graph.{Blocks}
use Rattle.graph.specs.Laws.Loop.Arrays.{Enters}
use Rattle.forest.specs.Steps.{Room, down_bit, cells_of, Tied, Entering}
use Rattle.forest.proofs.Laws.Stores.{Put, put_length, put_other, put_here}
use Rattle.forest.proofs.Laws.Stores.{changed, stored_changed, stored_after}

pub room_after : {n s : ℕ} {work next : List ℕ} → Room n s work → length next ≡ length work → Room n s next
room_after r e = search rules

module _ {g : Blocks} {starts : List ℕ} {n s : ℕ} {work : List ℕ} {next_of slot_of : ℕ → ℕ}
    (t : Tied g starts n s work next_of slot_of) where
  -- the next position of u, a visited vertex, becomes x
  module _ {u : ℕ} (x : ℕ) {mid : List ℕ} (h : u < n) (old : get_or work (2 * s + u) 0 ≡ 0 → ⊥)
      (p : Put work mid u (get_or starts u 0 + x)) where
    behind : (i : ℕ) → s ≤ i → get_or mid i 0 ≡ get_or work i 0
    behind i l = let r = t.room.apart in put_other p i (λ e. omega arith)

    pub tied_next : Tied g starts n s mid (changed next_of u x) slot_of
    tied_next = record {
      room = room_after t.room (put_length p);
      nexts = λ v l. at v l (ℕ_discrete v u);
      fresh = λ v l z. new v l (sym (behind (2 * s + v) (omega arith)) ∙ z);
      downs = λ v l z.
          behind (4 * s + v) (omega arith)
          ∙ t.downs v l (λ e. z (behind (2 * s + v) (omega arith) ∙ e))
          ∙ ap (λ y. down_bit g y (slot_of v)) (sym (behind (s + v) (omega arith)));
    }
      where
        at : (v : ℕ) → v < n → Dec (v ≡ u) → get_or mid v 0 ≡ get_or starts v 0 + changed next_of u x v
        at v l (yes e) = rw e (cc (put_here p (omega arith), (stored_changed n next_of u x).hit))
        at v l (no d) = cc (put_other p v d, t.nexts v l, (stored_changed n next_of u x).rest v l d)

        new : (v : ℕ) → v < n → get_or work (2 * s + v) 0 ≡ 0 → changed next_of u x v ≡ 0
        new v l z =
            (stored_changed n next_of u x).rest v l (λ e. old (ap (λ y. get_or work (2 * s + y) 0) (sym e) ∙ z))
            ∙ t.fresh v l z

  -- v is entered
  module _ {v k p bit : ℕ} (j : ℕ) {next : List ℕ} (e : Entering n s work next v k p bit)
      (b : bit ≡ down_bit g p j) where
    pub tied_enter : Tied g starts n s next next_of (changed slot_of v j)
    tied_enter = record {
      room = room_after t.room e.same_size;
      nexts = λ x l. e.nexts_same x l ∙ t.nexts x l;
      fresh = λ x l z. t.fresh x l (sym (e.visits_set.rest x l (other x z)) ∙ z);
      downs = λ x l z. at x l z (ℕ_discrete x v);
    }
      where
        other : (x : ℕ) → get_or next (2 * s + x) 0 ≡ 0 → x ≡ v → ⊥
        other x z q =
            let y = ap (λ i. get_or next (2 * s + i) 0) q in
            omega arith

        at : (x : ℕ) → x < n → (get_or next (2 * s + x) 0 ≡ 0 → ⊥) → Dec (x ≡ v)
            → get_or next (4 * s + x) 0 ≡ down_bit g (get_or next (s + x) 0) (changed slot_of v j x)
        at x l z (yes q) = rw q (cc (stored_changed n slot_of v j).hit)
        at x l z (no d) =
            let old = t.downs x l (λ y. z (e.visits_set.rest x l d ∙ y)) in
            cc (e.downs_set.rest x l d, e.parents_set.rest x l d, (stored_changed n slot_of v j).rest x l d)

-- v is entered, after stores in the first part
pub enters : {n s v k p bit : ℕ} (j : ℕ) (work : List ℕ) {mid next : List ℕ} (before next_of slot_of : ℕ → ℕ)
    → ((i : ℕ) → s ≤ i → get_or mid i 0 ≡ get_or work i 0) → Entering n s mid next v k p bit → next_of v ≡ 0
    → Enters n (cells_of s before slot_of work) (cells_of s next_of (changed slot_of v j) next) next_of v k p j
enters {n} {s} {v} j work before next_of slot_of same e z = record {
  visits_set = stored_after (λ i h. same (2 * s + i) (omega arith)) e.visits_set;
  parents_set = stored_after (λ i h. same (s + i) (omega arith)) e.parents_set;
  slots_set = stored_changed n slot_of v j;
  nexts_set = record { hit = z; rest = λ i h d. refl };
  order_set = stored_after (λ i h. same (3 * s + i) (omega arith)) e.order_set;
}
