-- The table of lowpoints: filled vertex by vertex, and then lifted from the last visited vertex back.
--   Filled        the first c vertices have the least number over their own places, for every forest
--   filled_begin, filled_more, filled_end   before the first, at the next, and past the last
--   lift_room, lift_up      the cells of that vertex and of its parent are there
--   lift_root, lift_child   the vertex of visit number k, where it has no parent and where it has one
--   Swept         the vertices of visit number k and more are lifted
--   swept_asks, swept_more, swept_end   before and after the next, and past the first
use mathlib.Core.Path.{◌≡◌, refl, sym, ap, ◌∙◌}
use mathlib.Core.List.{List}
use Rattle.std.specs.Option.{unwrap_or}
use Prim.Native.Nat.{ℕ, zero, suc, ◌+◌, ◌-◌, ◌*◌, ◌≤◌, ◌<◌, min}
use native.Mathlib.Numerals.{add-one}
use native.Mathlib.Omega.{arith}
use native.Mathlib.Decide.{ℕ_discrete}
use lib.ListN.{length, get_or, set}
use Rattle.graph.specs.Graph.{Blocks, block}
use Rattle.graph.specs.Search.{Forest}
use Rattle.graph.specs.Forest.{vertex_at, parent}
use Rattle.graph.specs.Laws.Tree.Entries.{parent_entered}
use Rattle.graph.specs.Laws.Tree.Numbers.{vertex_entered}
use Rattle.graph.specs.Laws.Tree.Climbs.{child_entry}
use Rattle.graph.specs.Laws.Joined.Spanning.{forest_length}
use Rattle.graph.specs.Laws.Bridges.Lowpoints.{Lows}
use Rattle.graph.specs.Laws.Bridges.Stores.{Stored}
use Rattle.graph.specs.Laws.Bridges.Sweep.{Least, sweep_begin, sweep_root, sweep_child}
use Rattle.forest.specs.Steps.{Room, Searched}
use Rattle.forest.specs.Lows.{OwnLow, Lifting, Searches, Lifts, Lowers, LiftsOne}
use Rattle.forest.specs.declared.lows.Low.{Low}
use Rattle.forest.proofs.Laws.Lowest.{LowCells, low_cells}
use Rattle.forest.proofs.Laws.Stores.{Put, put_length, put_other, put_here, changed, stored_changed}
use Rattle.forest.proofs.Laws.Tied.{room_after}

-- ---- the parts of the forest stay

stays_searched : {g : Blocks} {F : Forest} {n s : ℕ} {work next : List ℕ} → length next ≡ length work
    → ((i : ℕ) → s ≤ i → i < 5 * s → get_or next i 0 ≡ get_or work i 0) → Searched g F n s work → Searched g F n s next
stays_searched {n = n} {s = s} e same a =
    record {
      spans = a.spans;
      room = room_after a.room e;
      visits = λ v h. same (2 * s + v) (omega arith) (omega arith) ∙ a.visits v h;
      parents = λ v h. same (s + v) (omega arith) (omega arith) ∙ a.parents v h;
      order = λ v h. same (3 * s + v) (omega arith) (omega arith) ∙ a.order v h;
      downs = λ v h. same (4 * s + v) (omega arith) (omega arith) ∙ a.downs v h;
    }

-- ---- the cells of a spanning forest are vertices

module _ {g : Blocks} {F : Forest} {n s : ℕ} {work : List ℕ} (many : length g ≡ n) (a : Searched g F n s work) where
  order_inside : (k : ℕ) → k < n → get_or work (3 * s + k) 0 < n
  order_inside k h =
      let l = forest_length a.spans in
      let w = a.spans.within (vertex_at F k) (vertex_entered F k (omega arith)) in
      let e = a.order k h in
      omega arith

  parent_inside : (v : ℕ) → v < n → get_or work (s + v) 0 ≤ n
  parent_inside v h = go (parent F v) refl
    where
      go : (p : ℕ) → parent F v ≡ p → get_or work (s + v) 0 ≤ n
      go zero e = let q = a.parents v h in omega arith
      go (suc u) e =
          let m = child_entry a.spans.built (a.spans.whole v (omega arith)) e in
          let w = a.spans.within u (parent_entered a.spans.built m) in
          let q = a.parents v h in
          omega arith

-- ---- vertex by vertex

pub record Filled (g : Blocks) (n s : ℕ) (work₀ work : List ℕ) (c : ℕ) : Type 0 where
  pub upto : c ≤ n
  pub room : Room n s work
  pub searched : (F : Forest) → Searched g F n s work₀ → Searched g F n s work
  pub each : (F : Forest) → Searched g F n s work₀ → (x : ℕ) → x < c
      → LowCells g F x (length (block g x)) (get_or work (5 * s + x) 0) (get_or work x 0)

pub filled_begin : (g : Blocks) {n s : ℕ} {work : List ℕ} → Room n s work → Filled g n s work work 0
filled_begin g r = record {
  upto = omega arith;
  room = r;
  searched = λ F a. a;
  each = λ F a x l. absurd (omega arith);
}

module _ {g : Blocks} {n s : ℕ} {work₀ work : List ℕ} {c : ℕ} (f : Filled g n s work₀ work c) where
  pub filled_more : (is : Low) {mid next : List ℕ} → c < n → OwnLow g n s work c is
      → mid ≡ set work (5 * s + c) is.low → next ≡ set mid c (unwrap_or is.back 0) → Filled g n s work₀ next (c + 1)
  filled_more is {mid} {next} h own e₁ e₂ =
      record {
        upto = omega arith;
        room = room_after r size;
        searched = λ F a. stays_searched size (λ i j k. other i (λ q. omega arith) (λ q. let o = r in omega arith))
            (f.searched F a);
        each = λ F a x l. more F a x l (ℕ_discrete x c);
      }
    where
      r : Room n s work
      r = f.room

      low : ℕ
      low = is.low

      back : ℕ
      back = unwrap_or is.back 0

      p : Put work mid (5 * s + c) low
      p = record { is = e₁ }

      q : Put mid next c back
      q = record { is = e₂ }

      size : length next ≡ length work
      size = put_length q ∙ put_length p

      other : (i : ℕ) → (i ≡ 5 * s + c → ⊥) → (i ≡ c → ⊥) → get_or next i 0 ≡ get_or work i 0
      other i d e = put_other q i e ∙ put_other p i d

      low_here : get_or next (5 * s + c) 0 ≡ low
      low_here = let o = r in put_other q (5 * s + c) (λ e. omega arith) ∙ put_here p (omega arith)

      back_here : get_or next c 0 ≡ back
      back_here = let o = r in put_here q (omega (arith, put_length p))

      more : (F : Forest) → Searched g F n s work₀ → (x : ℕ) → x < c + 1 → Dec (x ≡ c)
          → LowCells g F x (length (block g x)) (get_or next (5 * s + x) 0) (get_or next x 0)
      more F a x l (yes e) = rw (e, low_here, back_here) (low_cells is (own F (f.searched F a)))
      more F a x l (no d) =
          let b = other (5 * s + x) (λ e. d (omega arith)) (λ e. omega arith) in
          rw (b, other x (λ e. omega arith) d) (f.each F a x (omega arith))

  pub filled_end : length g ≡ n → n ≤ c → Lowers g n s work₀ work n
  filled_end many h F a = record {
    searched = f.searched F a;
    low_of = low_of;
    low_cells = λ v k. (let l = (at v k).is_low in omega arith);
    lows = rw many at (sweep_begin a.spans (λ v k. least v (omega arith)));
    backs = λ v k. (at v k).passed;
  }
    where
      low_of : ℕ → ℕ
      low_of v = get_or work (5 * s + v) 0 - 1

      at : (v : ℕ) → v < n → LowCells g F v (length (block g v)) (get_or work (5 * s + v) 0) (get_or work v 0)
      at v k = f.each F a v (omega arith)

      least : (v : ℕ) → v < n → Least g F v (length (block g v)) (low_of v)
      least v k =
          let l = (at v k).is_low in
          let e : low_of v ≡ (at v k).least_number = omega arith in
          rw e (at v k).least

-- ---- the vertex of visit number k

module _ {g : Blocks} {F : Forest} {n s k v : ℕ} {work : List ℕ} (many : length g ≡ n) (h : k < n)
    (is-v : v ≡ get_or work (3 * s + k) 0) (f : Lifting g F n s work (k + 1)) where
  inside : v < n
  inside = let i = order_inside many f.searched k h in omega arith

  pub lift_room : 5 * s + v < length work
  lift_room = let r = f.searched.room in omega (arith, inside)

  module _ {up : ℕ} (is_up : up ≡ get_or work (s + v) 0) where
    vertex : v ≡ vertex_at F k
    vertex = is-v ∙ f.searched.order k h

    the_parent : up ≡ parent F (vertex_at F k)
    the_parent = is_up ∙ f.searched.parents v inside ∙ ap (parent F) vertex

    lows_here : Lows g F (suc k) f.low_of
    lows_here = rw (add-one k) at f.lows

    pub lift_root : (1 ≤ up → ⊥) → Lifting g F n s work k
    lift_root z = record {
      searched = f.searched;
      low_of = f.low_of;
      low_cells = f.low_cells;
      lows = let e = the_parent in sweep_root f.searched.spans (omega arith) (none (ℕ_discrete up 0)) lows_here;
      backs = f.backs;
    }
      where
        none : Dec (up ≡ 0) → parent F (vertex_at F k) ≡ 0
        none (yes e) = sym the_parent ∙ e
        none (no d) = absurd (z (omega arith))

    module _ {u : ℕ} (raised : (1 ≤ up) × (u ≡ up - 1)) where
      up_inside : u < n
      up_inside = let p = parent_inside many f.searched v inside in omega arith

      pub lift_up : 5 * s + u < length work
      lift_up = let r = f.searched.room in omega (arith, up_inside)

      pub lift_child : {a b x : ℕ} {next : List ℕ} → a ≡ get_or work (5 * s + v) 0 → b ≡ get_or work (5 * s + u) 0
          → x ≡ min b a → next ≡ set work (5 * s + u) x → Lifting g F n s next k
      lift_child {a} {b} {x} {next} is-a is_b is_x e = record {
        searched = stays_searched (put_length p) (λ i l m. put_other p i (λ q. omega arith)) f.searched;
        low_of = changed f.low_of u least;
        low_cells = λ y l. cells y l (ℕ_discrete y u);
        lows = sweep_child f.searched.spans (omega arith) (let q = the_parent in omega arith) stored lows_here;
        backs = λ y l. rw (put_other p y (λ q. let r = f.searched.room in omega arith)) (f.backs y l);
      }
        where
          p : Put work next (5 * s + u) x
          p = record { is = e }

          least : ℕ
          least = min (f.low_of u) (f.low_of (vertex_at F k))

          stored : Stored (length g) f.low_of (changed f.low_of u least) u least
          stored = stored_changed (length g) f.low_of u least

          is_least : x ≡ suc least
          is_least =
              let q = is-a ∙ f.low_cells v inside ∙ ap (λ (y : ℕ). suc (f.low_of y)) vertex in
              let r = is_b ∙ f.low_cells u up_inside in
              omega arith

          cells : (y : ℕ) → y < n → Dec (y ≡ u) → get_or next (5 * s + y) 0 ≡ suc (changed f.low_of u least y)
          cells y l (yes q) = rw q (cc (put_here p lift_up, is_least, stored.hit))
          cells y l (no d) =
              let other = put_other p (5 * s + y) (λ q. d (omega arith)) in
              cc (f.low_cells y l, stored.rest y (omega arith) d)

-- ---- from the last visited vertex back

pub record Swept (g : Blocks) (n s : ℕ) (work₀ work : List ℕ) (k : ℕ) : Type 0 where
  pub upto : k ≤ n
  pub each : (F : Forest) → Lifting g F n s work₀ n → Lifting g F n s work k

module _ {g : Blocks} {n s k : ℕ} {work₀ work : List ℕ} (t : Swept g n s work₀ work k) where
  -- the same, where k is one more than the visit number that comes next
  again : 0 < k → (F : Forest) → Lifting g F n s work₀ n → Lifting g F n s work (k - 1 + 1)
  again h F f = let e : k - 1 + 1 ≡ k = omega arith in rw e (t.each F f)

  pub swept_asks : {before : List ℕ} → 0 < k → Searches g n s before → Lowers g n s before work₀ n
      → (k - 1 < n) × Lifts g n s work (k - 1 + 1)
  swept_asks h a l =
      (omega (arith, t.upto), record { forest = a.forest; lifting = again h a.forest (l a.forest a.searched) })

  pub swept_more : {next : List ℕ} → 0 < k → LiftsOne g n s work next (k - 1) → Swept g n s work₀ next (k - 1)
  swept_more h one = record { upto = omega (arith, t.upto); each = λ F f. one F (again h F f) }

  pub swept_end : {before : List ℕ} → k ≤ 0 → Lowers g n s before work₀ n → Lowers g n s before work 0
  swept_end h l F a = let e : k ≡ 0 = omega arith in rw e at (t.each F (l F a))
