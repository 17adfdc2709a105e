-- Listed order: when a vertex is entered by a place, the places before it in the block have been tried.
use Prim.Native.Nat.{ℕ, suc, ◌+◌, ◌<◌}
use Rattle.std.specs.Prelude.{◌≡◌, false}
use Rattle.std.proofs.Common.{sym, ◌∙◌, ap, subst}
use mathlib.Core.List.{List, [], ◌∷◌, Memᴰ, map}
use native.Mathlib.Omega.{arith}
use Rattle.std.proofs.Math.Decide.{ℕ_discrete}
use Rattle.std.proofs.Math.ListN.{length, get_or}
use Rattle.graph.specs.Graph.{Blocks, block, target}
use Rattle.graph.specs.Search.{Goal, root, via, aim, Forest, PlaceTest, arcs}
use Rattle.graph.specs.Laws.Places.Basics.{Told, pass, fail, told, clash}
use Rattle.graph.specs.Laws.Tree.Entries.{Entered, now, old, entered_cast, Grows, same, more, entered_grows}
use Rattle.graph.specs.Laws.Tree.Entries.{Built, fresh, before}
use Rattle.graph.specs.Laws.Run.Arcs.{arcs_of, Step, arcs_yes, arcs_no}
use Rattle.graph.specs.Laws.Run.Segments.{Segment, done, skip, enter, segment_grows}

-- the vertices at the allowed places before a goal's are entered
pub data Tried (g : Blocks) (ok : PlaceTest) (F : Forest) : Goal → Type 0 where
  tried_start : {v : ℕ} → Tried g ok F (root v)
  tried_via : {u j v : ℕ} → ((i x : ℕ) → i < j → Step g ok u i x → Entered x F) → Tried g ok F (via u j v)

-- each entry was taken when the places before it had been tried
pub data InOrder (g : Blocks) (ok : PlaceTest) : Forest → Type 0 where
  order_nil : InOrder g ok []
  order_cons : {a : Goal} {F : Forest} → Tried g ok F a → InOrder g ok F → InOrder g ok (a ∷ F)

-- the goals to come will be taken so
data Queue (g : Blocks) (ok : PlaceTest) : Forest → List Goal → Type 0 where
  queue_nil : {F : Forest} → Queue g ok F []
  queue_cons : {F : Forest} {a : Goal} {xs : List Goal} → Tried g ok F a → Queue g ok (a ∷ F) xs → Queue g ok F (a ∷ xs)

-- the state in which an entry was taken
record Taken (g : Blocks) (ok : PlaceTest) (F : Forest) (a : Goal) : Type 0 where
  earlier : Forest
  part : Grows earlier F
  new : Entered (aim a) earlier → ⊥
  tried : Tried g ok earlier a

cons_map : {F H : Forest} (a : Goal) → ((x : ℕ) → Entered x F → Entered x H) → (x : ℕ) → Entered x (a ∷ F)
    → Entered x (a ∷ H)
cons_map a f x (now e) = now e
cons_map a f x (old i) = old (f x i)

module _ {g : Blocks} {ok : PlaceTest} where
  tried_map : {F H : Forest} {a : Goal} → ((x : ℕ) → Entered x F → Entered x H) → Tried g ok F a → Tried g ok H a
  tried_map f tried_start = tried_start
  tried_map f (tried_via h) = tried_via (λ i x l s. f x (h i x l s))

  queue_map : {F H : Forest} {xs : List Goal} → ((x : ℕ) → Entered x F → Entered x H) → Queue g ok F xs
      → Queue g ok H xs
  queue_map f queue_nil = queue_nil
  queue_map f (queue_cons {a = a} h q) = queue_cons (tried_map f h) (queue_map (cons_map a f) q)

  -- the rest l of u's block, from position i on
  queue_arcs : (u i : ℕ) (l : List ℕ) (F : Forest) → ((d : ℕ) → d < length l → target g u (i + d) ≡ get_or l d 0)
      → ((k w : ℕ) → k < i → Step g ok u k w → Entered w F) → Queue g ok F (arcs ok u i l)
  unfolding arcs
  queue_arcs u i [] F f h = queue_nil
  queue_arcs u i (v ∷ l) F f h = go (told (ok u i)) (λ H k. queue_arcs u (suc i) l H later k)
    where
      later : (d : ℕ) → d < length l → target g u (suc i + d) ≡ get_or l d 0
      later d c = let z : suc i + d ≡ i + suc d = omega arith in rw z (f (suc d) (omega arith))

      at_i : {w : ℕ} → Step g ok u i w → w ≡ v
      at_i s =
          let z : i + 0 ≡ i = omega arith in
          let a : target g u i ≡ v = rw z at (f 0 (omega arith)) in
          sym s.place.leads ∙ a

      taken : (k w : ℕ) → k < suc i → Step g ok u k w → Dec (k ≡ i) → Entered w (via u i v ∷ F)
      taken k w c s (yes e) = now (at_i (rw e at s))
      taken k w c s (no n) = old (h k w (omega arith) s)

      passed : ok u i ≡ false → (k w : ℕ) → k < suc i → Step g ok u k w → Dec (k ≡ i) → Entered w F
      passed o k w c s (yes e) = absurd (clash s.allowed (ap (ok u) e ∙ o))
      passed o k w c s (no n) = h k w (omega arith) s

      go : Told (ok u i)
          → ((H : Forest) → ((k w : ℕ) → k < suc i → Step g ok u k w → Entered w H)
          → Queue g ok H (arcs ok u (suc i) l))
          → Queue g ok F (arcs ok u i (v ∷ l))
      go (pass o) rec =
          rw (arcs_yes ok u v l o)
          (queue_cons (tried_via (λ k w c s. h k w c s))
          (rec (via u i v ∷ F) (λ k w c s. taken k w c s (ℕ_discrete k i))))
      go (fail o) rec = rw (arcs_no ok u v l o) (rec F (λ k w c s. passed o k w c s (ℕ_discrete k i)))

  queue_arcs_of : (u : ℕ) (F : Forest) → Queue g ok F (arcs_of g ok u)
  queue_arcs_of u F =
      queue_arcs u 0 (block g u) F (λ d c. let z : 0 + d ≡ d = omega arith in ap (target g u) z)
      (λ k w c s. absurd (omega arith))

  queue_starts : (starts : List ℕ) (F : Forest) → Queue g ok F (map root starts)
  queue_starts [] F = queue_nil
  queue_starts (v ∷ starts) F = queue_cons tried_start (queue_starts starts (root v ∷ F))

  segment_order : {F H : Forest} {xs : List Goal} → Segment g ok F xs H → Queue g ok F xs → InOrder g ok F
      → InOrder g ok H
  segment_order done q o = o
  segment_order (skip {F = F} {a = a} i t) (queue_cons h q) o = segment_order t (queue_map known q) o
    where
      known : (x : ℕ) → Entered x (a ∷ F) → Entered x F
      known x (now e) = entered_cast e i
      known x (old k) = k
  segment_order (enter {F = F} {a = a} n k t) (queue_cons h q) o =
      segment_order t (queue_map (λ x i. entered_grows (segment_grows k) i) q)
      (segment_order k (queue_arcs_of (aim a) (a ∷ F)) (order_cons h o))

  pub starts_order : (starts : List ℕ) {H : Forest} → Segment g ok [] (map root starts) H → InOrder g ok H
  starts_order starts s = segment_order s (queue_starts starts []) order_nil

  -- ---- what the order says of an entry

  taken_entry : {Ok : ℕ → ℕ → ℕ → Type 0} {F : Forest} {a : Goal} → Built Ok F → InOrder g ok F → Memᴰ a F
      → Taken g ok F a
  taken_entry b order_nil m = elim m [ ]
  taken_entry {F = c ∷ F} b (order_cons t o) (Memᴰ.head e) =
      subst (λ x. Taken g ok (c ∷ F) x) (sym e) (record { earlier = F; part = more same; new = fresh b; tried = t })
  taken_entry b (order_cons t o) (Memᴰ.tail m) =
      let r = taken_entry (before b) o m in
      record { earlier = r.earlier; part = more r.part; new = r.new; tried = r.tried }

  pub order_before : {a : Goal} {F : Forest} → InOrder g ok (a ∷ F) → InOrder g ok F
  order_before (order_cons t o) = o

  tried_step : {F : Forest} {u j v i x : ℕ} → Tried g ok F (via u j v) → i < j → Step g ok u i x → Entered x F
  tried_step {i = i} {x = x} (tried_via h) l s = h i x l s

  module _ {Ok : ℕ → ℕ → ℕ → Type 0} {F : Forest} (b : Built Ok F) (o : InOrder g ok F) where
    -- the vertices at the places before an entry's are entered
    pub order_entered : {u j v i x : ℕ} → Memᴰ (via u j v) F → i < j → Step g ok u i x → Entered x F
    order_entered m l s = let r = taken_entry b o m in entered_grows r.part (tried_step r.tried l s)

    -- a vertex is entered by its first allowed mention
    pub order_first : {u j v i : ℕ} → Memᴰ (via u j v) F → i < j → Step g ok u i v → ⊥
    order_first m l s = let r = taken_entry b o m in r.new (tried_step r.tried l s)
