-- The blocks turned round: what the parts hold, a place at a time.
use Prim.Native.Nat.{ℕ, ◌+◌, ◌-◌, ◌≤◌, ◌<◌}
use mathlib.Core.Path.{◌≡◌, refl, sym, ◌∙◌, ap}
use mathlib.Core.List.{List}
use native.Mathlib.Omega.{arith}
use native.Mathlib.Decide.{ℕ_discrete}
use lib.ListN.{length, get_or, set, length-set}
use Rattle.graph.specs.Graph.{mentions}
use Rattle.adjacency.specs.Arrays.{Divided, Holds, up_to}
use Rattle.adjacency.specs.Reverse.{Turned, Turning, TurnedBefore, AtStarts}
use Rattle.adjacency.specs.Laws.Stores.{cell_same, cell_other}
use Rattle.adjacency.specs.Laws.Rows.{starts_fit, one_block, divided_too}
use Rattle.adjacency.proofs.Laws.Parts.{upto_other}
use Rattle.adjacency.proofs.Laws.Counts.{count_start, count_hit, count_miss, count_agree}
use Rattle.adjacency.proofs.Laws.Totals.{total_set, total_start}

-- ---- nothing is turned round yet

pub turned_start : {starts nbrs reverse next : List ℕ} {p : ℕ} → Divided starts nbrs → length reverse ≡ length nbrs
    → AtStarts starts next → p ≡ 0
    → Turned starts nbrs reverse next p
turned_start {starts} {nbrs} {reverse} {next} {p} i e a z = record {
  divided = i;
  size = e;
  cells = a.cells;
  near = λ v k. (omega (arith, a.begins v k), omega (arith, a.begins v k, i.rising v k));
  same =
      λ v w k. (let b = a.begins v k in count_start starts reverse v (get_or next v 0) w (omega arith))
      ∙ sym (count_start starts nbrs w p v (omega arith));
}

pub turning_start : {starts nbrs reverse next : List ℕ} → Divided starts nbrs → length reverse ≡ length nbrs
    → AtStarts starts next
    → TurnedBefore starts nbrs reverse next 0
turning_start {starts} {nbrs} {next = next} i e a = record {
  turned = turned_start i e a i.first;
  spent = omega (arith, total_start a, i.first);
  others =
      λ w v m. absurd (omega (arith, count_start starts nbrs w (get_or starts 0 0) v (omega (arith, i.first))));
  rising = λ v q h l. absurd (none v q h (omega arith));
  below = λ v q h l. absurd (none v q h l);
}
  where
    none : (v q : ℕ) → Holds starts v q → q < get_or next v 0 → ⊥
    none v q h l = let b = a.begins v h.inside in omega arith

-- ---- one place, in the block of u, where v stands

module _ {starts nbrs reverse next : List ℕ} {p : ℕ} (t : Turned starts nbrs reverse next p) where
  pub turned_divided : Divided starts reverse
  turned_divided = divided_too t.divided t.size

  pub turned_place : {u : ℕ} → Holds starts u p → p < length nbrs
  turned_place {u} h = let f = starts_fit t.divided (u + 1) h.inside in omega arith

  -- the place of v's part that comes next
  module _ (v : ℕ) {q : ℕ} (k : v + 1 < length starts) (is-next : q ≡ get_or next v 0)
      (free : q ≡ get_or starts (v + 1) 0 → ⊥) where
    next_holds : Holds starts v q
    next_holds = let n = t.near v k in record { inside = k; low = omega arith; high = omega arith }

    pub next_place : (v < length next) × (q < length reverse) × (length reverse ≤ 32768)
    next_place =
        let h = next_holds in
        let f = starts_fit turned_divided (v + 1) k in
        let b = t.cells in
        let c = turned_divided.few_places in
        (omega arith, omega arith, c)

    -- no part has it yet
    apart : (x r : ℕ) → Holds starts x r → r < get_or next x 0 → r ≡ q → ⊥
    apart x r h m e =
        let s : x ≡ v = one_block t.divided h (rw e next_holds) in
        let d : get_or next x 0 ≡ get_or next v 0 = ap (λ (y : ℕ). get_or next y 0) s in
        omega arith

    -- so a store there changes no part
    store : (u : ℕ) → Turned starts nbrs (set reverse q u) next p
    store u = record {
      divided = t.divided;
      size = length-set reverse q u ∙ t.size;
      cells = t.cells;
      near = t.near;
      same = λ x w h.
          count_agree (divided_too t.divided (length-set reverse q u ∙ t.size)) turned_divided x w h
          (t.near x h).0 (t.near x h).1
          (λ r l m. cell_other reverse u
          (apart x r (let n = t.near x h in record { inside = h; low = l; high = omega arith }) m))
          ∙ t.same x w h;
    }

    -- u stands there
    module _ {u : ℕ} (h : Holds starts u p) (is-v : v ≡ get_or nbrs p 0) where
      pub turned_more : get_or reverse q 0 ≡ u → {out : List ℕ} → out ≡ set next v (q + 1)
          → Turned starts nbrs reverse out (p + 1)
      turned_more there o = rw o (record {
        divided = t.divided;
        size = t.size;
        cells = omega (arith, length-set next v (q + 1), t.cells);
        near = λ x l. near x l (ℕ_discrete x v);
        same = λ x w l. same x w l (ℕ_discrete x v) (ℕ_discrete w u);
      })
        where
          hit : {x : ℕ} → x ≡ v → get_or (set next v (q + 1)) x 0 ≡ q + 1
          hit e = cell_same next (q + 1) e (omega (arith, next_place.0, t.cells))

          near : (x : ℕ) → x + 1 < length starts → Dec (x ≡ v)
              → (get_or starts x 0 ≤ get_or (set next v (q + 1)) x 0)
              × (get_or (set next v (q + 1)) x 0 ≤ get_or starts (x + 1) 0)
          near x l (yes e) = let b = next_holds in rw (e, rw e at (hit e)) (omega arith, omega arith)
          near x l (no n) = rw (cell_other next {i = v} {j = x} (q + 1) n) (t.near x l)

          same : (x w : ℕ) → x + 1 < length starts → Dec (x ≡ v) → Dec (w ≡ u)
              → mentions w (up_to starts reverse x (get_or (set next v (q + 1)) x 0))
              ≡ mentions x (up_to starts nbrs w (p + 1))
          same x w l (no n) d =
              ap (λ (y : ℕ). mentions w (up_to starts reverse x y)) (cell_other next (q + 1) n)
              ∙ t.same x w l ∙ sym (count_miss t.divided w p x (λ e. n (e ∙ sym is-v)))
          same x w l (yes e) (yes f) =
              rw e (
              let a = t.same v w k in
              let b = ap (λ (y : ℕ). mentions w (up_to starts reverse v y)) is-next in
              let c = count_hit turned_divided v q w next_holds (f ∙ sym there) in
              let d = count_hit t.divided w p v (rw f h) is-v in
              ap (λ (y : ℕ). mentions w (up_to starts reverse v y)) (hit refl) ∙ omega arith
              )
          same x w l (yes e) (no n) =
              rw e (
              ap (λ (y : ℕ). mentions w (up_to starts reverse v y)) (hit refl)
              ∙ count_miss turned_divided v q w (λ f. n (f ∙ there))
              ∙ ap (λ (y : ℕ). mentions w (up_to starts reverse v y)) is-next
              ∙ t.same v w k
              ∙ ap (mentions v) (sym (upto_other t.divided h n))
              )

-- ---- the same while the blocks are turned round

module _ {starts nbrs reverse next : List ℕ} {u p : ℕ} (t : Turning starts nbrs reverse next u p) (h : Holds starts u p)
    {v : ℕ}
    (is-v : v ≡ get_or nbrs p 0) where
  others_more : v + 1 < length starts → (v ≡ u → ⊥) → (w x : ℕ) → 0 < mentions x (up_to starts nbrs w (p + 1))
      → (x + 1 < length starts) × (x ≡ w → ⊥)
  others_more k o w x m = go (ℕ_discrete x v) (ℕ_discrete w u)
    where
      go : Dec (x ≡ v) → Dec (w ≡ u) → (x + 1 < length starts) × (x ≡ w → ⊥)
      go (no n) d = t.others w x (rw (count_miss t.turned.divided w p x (λ e. n (e ∙ sym is-v))) at m)
      go (yes e) (no n) = t.others w x (rw (upto_other t.turned.divided h n) at m)
      go (yes e) (yes f) = (omega arith, λ d. o (sym e ∙ d ∙ f))

  module _ (k : v + 1 < length starts) {q : ℕ} (is-q : q ≡ get_or next v 0)
      (free : q ≡ get_or starts (v + 1) 0 → ⊥) where
    -- past the store, part v has one vertex more, and the others what they had
    data Grown (x r : ℕ) : Type 0 where
      last : r ≡ q → x ≡ v → Grown x r
      old : r < get_or next x 0 → Grown x r

    grown : (x r : ℕ) → r < get_or (set next v (q + 1)) x 0 → Grown x r
    grown x r l = go (ℕ_discrete x v) (ℕ_discrete r q)
      where
        go : Dec (x ≡ v) → Dec (r ≡ q) → Grown x r
        go (yes e) (yes f) = last f e
        go (yes e) (no f) =
            let a = cell_same next (q + 1) e (next_place t.turned v k is-q free).0 in
            let b : get_or next x 0 ≡ get_or next v 0 = ap (λ (y : ℕ). get_or next y 0) e in
            old (omega arith)
        go (no e) f = old (rw (cell_other next {i = v} {j = x} (q + 1) e) at l)

    stays : (x r : ℕ) → Holds starts x r → r < get_or next x 0 → get_or (set reverse q u) r 0 ≡ get_or reverse r 0
    stays x r o l = cell_other reverse u (apart t.turned v k is-q free x r o l)

    stored : (r : ℕ) → r ≡ q → get_or (set reverse q u) r 0 ≡ u
    stored r e = cell_same reverse u e (next_place t.turned v k is-q free).1

    below_more : (x r : ℕ) → Holds starts x r → r < get_or (set next v (q + 1)) x 0 → get_or (set reverse q u) r 0 ≤ u
    below_more x r o l = go (grown x r l)
      where
        go : Grown x r → get_or (set reverse q u) r 0 ≤ u
        go (last e f) = let a = stored r e in omega arith
        go (old m) = omega (arith, stays x r o m, t.below x r o m)

    rising_more : (x r : ℕ) → Holds starts x r → r + 1 < get_or (set next v (q + 1)) x 0
        → get_or (set reverse q u) r 0 ≤ get_or (set reverse q u) (r + 1) 0
    rising_more x r o l = go (grown x (r + 1) l)
      where
        go : Grown x (r + 1) → get_or (set reverse q u) r 0 ≤ get_or (set reverse q u) (r + 1) 0
        go (last e f) = omega (arith, stored (r + 1) e, below_more x r o (omega arith))
        go (old m) =
            let n = t.turned.near x o.inside in
            let a = stays x r o (omega arith) in
            let b = stays x (r + 1) (record { inside = o.inside; low = omega arith; high = omega arith }) m in
            let c = t.rising x r o m in
            omega arith

  pub turning_more : v < length starts - 1 → (v ≡ u → ⊥) → {q : ℕ} → q ≡ get_or next v 0
      → (q ≡ get_or starts (v + 1) 0 → ⊥)
      → {reverse' next' : List ℕ} → reverse' ≡ set reverse q u → next' ≡ set next v (q + 1)
      → Turning starts nbrs reverse' next' u (p + 1)
  turning_more k o {q} is-q free e f =
      let l : v + 1 < length starts = omega arith in
      let s = store t.turned v l is-q free u in
      rw (e, f) (record {
        turned = turned_more s v l is-q free h is-v (stored l is-q free q refl) refl;
        spent =
            let a = total_set next v (next_place t.turned v l is-q free).0 in
            let b = t.spent in
            rw (length-set next v (q + 1), is-q) (omega arith);
        others = others_more l o;
        rising = rising_more l is-q free;
        below = below_more l is-q free;
      })

-- the block ends
pub turning_on : {starts nbrs reverse next : List ℕ} {u p : ℕ} → Turning starts nbrs reverse next u p
    → p ≡ get_or starts (u + 1) 0
    → TurnedBefore starts nbrs reverse next (u + 1)
turning_on t e = rw (← e) (record {
  turned = t.turned;
  spent = t.spent;
  others = t.others;
  rising = t.rising;
  below = λ v q h l. (let b = t.below v q h l in omega arith);
})
