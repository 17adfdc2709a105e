-- The parts of blocks turned round: they hold vertices, and while they are read, none comes to its end too early.
--   not_full      a part that is full has no vertex to come
--   turned_back   after the first pass a block has a vertex as often as that one's part has the block's
--   reversed      so the parts are the blocks turned round
--   read_on       in the second pass the part of the vertex at hand is not at its end
use Prim.Native.Nat.{ℕ, ◌+◌, ◌-◌, ◌≤◌, ◌<◌}
use mathlib.Core.Path.{◌≡◌, refl, sym, ◌∙◌, ap}
use mathlib.Core.List.{List, [], ◌∷◌}
use mathlib.Core.Logic.{∥∥₁_elim}
use native.Mathlib.Bridge.{le_prop}
use native.Mathlib.Omega.{arith}
use native.Mathlib.Decide.{ℕ_discrete, dec_lt}
use lib.ListN.{length, get_or}
use Rattle.graph.specs.Graph.{block, mentions}
use Rattle.adjacency.specs.Arrays.{cut, Divided, Holds, up_to}
use Rattle.adjacency.specs.Reverse.{Turned, TurnedBefore, Reversed}
use Rattle.adjacency.specs.Laws.Rows.{no_block, divided_too, row_size}
use Rattle.adjacency.proofs.Laws.Mentions.{mentions_append, one_hit, one_miss, fewer}
use Rattle.adjacency.proofs.Laws.Parts.{upto_past, upto_end}
use Rattle.adjacency.proofs.Laws.Counts.{count_part, count_more}
use Rattle.adjacency.proofs.Laws.Turned.{turned_divided}
use Rattle.adjacency.proofs.Laws.Mutual.{turned_end, turned_whole}

-- ---- parts and blocks in which two vertices stand equally often

module _ {starts nbrs reverse next : List ℕ} {p : ℕ} (t : Turned starts nbrs reverse next p) {u : ℕ}
    (h : Holds starts u p) {v : ℕ}
    (is-v : v ≡ get_or nbrs p 0) (k : v + 1 < length starts) where
  pub not_full : (row : List ℕ) → length row ≡ length nbrs
      → ((w : ℕ) → mentions w (block (cut starts row) v) ≡ mentions v (block (cut starts nbrs) w))
      → get_or next v 0 ≡ get_or starts (v + 1) 0 → ⊥
  not_full row f b e =
      let l = fewer (u ∷ block (cut starts reverse) v) (block (cut starts row) v) (λ x. each x (ℕ_discrete x u)) in
      let d : Divided starts row = divided_too t.divided f in
      let r = row_size d v k in
      let s = row_size (turned_divided t) v k in
      omega arith
    where
      part : (x : ℕ) → mentions x (block (cut starts reverse) v) ≡ mentions v (up_to starts nbrs x p)
      part x = ap (mentions x) (sym (upto_past (turned_divided t) v (get_or next v 0) k (omega arith))) ∙ t.same v x k

      each : (x : ℕ) → Dec (x ≡ u)
          → mentions x (u ∷ block (cut starts reverse) v) ≤ mentions x (block (cut starts row) v)
      each x (yes q) =
          let a = mentions_append x (u ∷ []) (block (cut starts reverse) v) in
          let c = one_hit x u q in
          let d = part x in
          let n = count_more t.divided x p v (rw q h) is-v in
          let m = b x in
          omega arith
      each x (no q) =
          let a = mentions_append x (u ∷ []) (block (cut starts reverse) v) in
          let c = one_miss x u q in
          let d = part x in
          let n = count_part starts nbrs x p v in
          let m = b x in
          omega arith

-- ---- after the first pass

module _ {starts nbrs reverse next : List ℕ} (done : TurnedBefore starts nbrs reverse next (length starts - 1)) where
  -- v's block has x as often as part x has v
  pub turned_back : (v x : ℕ) → v + 1 < length starts
      → mentions x (block (cut starts nbrs) v) ≡ mentions v (block (cut starts reverse) x)
  unfolding mentions
  turned_back v x k = go (dec_lt (x + 1) (length starts)) (dec_lt 0 (mentions x (block (cut starts nbrs) v)))
    where
      go : Dec (x + 1 < length starts) → Dec (0 < mentions x (block (cut starts nbrs) v))
          → mentions x (block (cut starts nbrs) v) ≡ mentions v (block (cut starts reverse) x)
      go (yes l) d = sym (turned_whole done x l v)
      go (no l) (yes m) =
          let a = ap (mentions x) (upto_end done.turned.divided v) in
          let b = ((turned_end done).others v x (omega arith)).0 in
          absurd (omega arith)
      go (no l) (no m) =
          let a = ap (mentions v) (no_block starts reverse x (omega arith)) in
          omega arith

  pub reversed : Reversed starts reverse
  unfolding mentions
  reversed = record {
    row = nbrs;
    size = sym done.turned.size;
    known = λ v q h. vertex v q h (dec_lt (get_or reverse q 0 + 1) (length starts));
    same = turned_back;
  }
    where
      vertex : (v q : ℕ) → Holds starts v q → Dec (get_or reverse q 0 + 1 < length starts)
          → get_or reverse q 0 + 1 < length starts
      vertex v q h (yes l) = l
      vertex v q h (no l) =
          let x : ℕ = get_or reverse q 0 in
          let a = count_more (turned_divided done.turned) v q x h refl in
          let c = turned_whole done v h.inside x in
          let d = ap (mentions v) (no_block starts nbrs x (omega arith)) in
          absurd (omega arith)

-- ---- in the second pass

-- w is a vertex, and q, the place of its part that comes next, is not the part's end
pub record ReadOn (starts : List ℕ) (w q : ℕ) : Type 0 where
  pub inside : w + 1 < length starts
  pub free : q ≡ get_or starts (w + 1) 0 → ⊥

pub read_on : {starts reverse next : List ℕ} {u p w q : ℕ} → Turned starts reverse reverse next p → Holds starts u p
    → ∥ Reversed starts reverse ∥₁ → w ≡ get_or reverse p 0 → q ≡ get_or next w 0
    → ReadOn starts w q
read_on {starts} {reverse} {u = u} {p} {w} {q} t h some is-w is-q = ∥∥₁_elim some (hlevel le_prop) with_row
  where
    with_row : Reversed starts reverse → ReadOn starts w q
    with_row r =
        let k : w + 1 < length starts = rw is-w (r.known u p h) in
        record { inside = k; free = λ e. not_full t h is-w k r.row r.size (λ x. r.same w x k) (sym is-q ∙ e) }
