-- What the search does from a partly done state: a segment takes a forest and the goals still to try to the forest when
-- they are done.
use Prim.Native.Nat.{ℕ, zero, suc, ◌+◌, ◌≤◌, ◌<◌}
use Rattle.std.specs.Prelude.{◌≡◌, refl, length, take}
use Rattle.std.proofs.Common.{sym, ap, subst, inl, inr, arith, length-append, take-suc}
use mathlib.Core.List.Memᴰ
use mathlib.Core.List.{List, [], ◌∷◌, ◌++◌, Memᴰ, map}
use mathlib.Core.List.{flatten}
use Rattle.std.proofs.Math.Decide.{ℕ_discrete}
use Rattle.std.proofs.lemmas.List.{length-map}
use Rattle.std.proofs.Math.Seq.{take-length}
use Rattle.graph.specs.Graph.{Blocks, block}
use Rattle.graph.specs.Search.{Goal, root, aim, Forest, PlaceTest, entered, run, search}
use Rattle.graph.specs.Laws.Places.Basics.{Told, pass, fail, told, clash}
use Rattle.graph.specs.Laws.Places.Pairing.{InRange}
use Rattle.graph.specs.Laws.Tree.Entries.{Entered, now, entered_test, test_entered, dec_entered, entered_cast}
use Rattle.graph.specs.Laws.Tree.Entries.{none_entered, new_cons, Grows, same, more, grows_trans, entered_grows}
use Rattle.graph.specs.Laws.Tree.Numbers.{left, left_new, left_enter}
use Rattle.graph.specs.Laws.Run.Arcs.{arcs_of, arcs_length, arcs_range}

pub data Segment (g : Blocks) (ok : PlaceTest) : Forest → List Goal → Forest → Type 0 where
  done : {F : Forest} → Segment g ok F [] F
  skip : {F H : Forest} {a : Goal} {xs : List Goal} → Entered (aim a) F → Segment g ok F xs H
      → Segment g ok F (a ∷ xs) H
  enter : {F M H : Forest} {a : Goal} {xs : List Goal} → (Entered (aim a) F → ⊥)
      → Segment g ok (a ∷ F) (arcs_of g ok (aim a)) M → Segment g ok M xs H
      → Segment g ok F (a ∷ xs) H

module _ {g : Blocks} {ok : PlaceTest} where
  -- ---- goals in two parts, and one step of the machine each way

  segment_split : (xs : List Goal) {F H : Forest} {ys : List Goal} → Segment g ok F (xs ++ ys) H
      → (M : Forest) × Segment g ok F xs M × Segment g ok M ys H
  segment_split [] {F = F} s = (F, done, s)
  segment_split (a ∷ xs) (skip i s) = let (M, p, q) = segment_split xs s in (M, skip i p, q)
  segment_split (a ∷ xs) (enter h k s) = let (M, p, q) = segment_split xs s in (M, enter h k p, q)

  segment_join : {F M H : Forest} {xs ys : List Goal} → Segment g ok F xs M → Segment g ok M ys H
      → Segment g ok F (xs ++ ys) H
  segment_join done t = t
  segment_join (skip i s) t = skip i (segment_join s t)
  segment_join (enter h k s) t = enter h k (segment_join s t)

  pub segment_pass : {F H : Forest} {a : Goal} {xs : List Goal} → Entered (aim a) F → Segment g ok F (a ∷ xs) H
      → Segment g ok F xs H
  segment_pass i (skip i' s) = s
  segment_pass i (enter h k s) = absurd (h i)

  pub segment_enter : {F H : Forest} {a : Goal} {xs : List Goal} → (Entered (aim a) F → ⊥) → Segment g ok F (a ∷ xs) H
      → Segment g ok (a ∷ F) (arcs_of g ok (aim a) ++ xs) H
  segment_enter h (skip i s) = absurd (h i)
  segment_enter h (enter h' k s) = segment_join k s

  -- a segment has one end
  pub segment_unique : {F H K : Forest} {xs : List Goal} → Segment g ok F xs H → Segment g ok F xs K → H ≡ K
  segment_unique done done = refl
  segment_unique (skip i s) (skip i' t) = segment_unique s t
  segment_unique (skip i s) (enter h k t) = absurd (h i)
  segment_unique (enter h k s) (skip i t) = absurd (h i)
  segment_unique (enter {M = M} {xs = xs} h k s) (enter {M = M'} {H = K} h' k' t) =
      let e : M ≡ M' = segment_unique k k' in
      segment_unique s (subst (λ z. Segment g ok z xs K) (sym e) t)

  pub segment_grows : {F H : Forest} {xs : List Goal} → Segment g ok F xs H → Grows F H
  segment_grows done = same
  segment_grows (skip i s) = segment_grows s
  segment_grows (enter h k s) = grows_trans (grows_trans (more same) (segment_grows k)) (segment_grows s)

  -- every goal's vertex is entered
  pub segment_aims : {F H : Forest} {xs : List Goal} {a : Goal} → Segment g ok F xs H → Memᴰ a xs
      → Entered (aim a) H
  segment_aims done m = elim m [ ]
  segment_aims (skip i s) (Memᴰ.head e) = entered_grows (segment_grows s) (entered_cast (ap aim e) i)
  segment_aims (skip i s) (Memᴰ.tail m) = segment_aims s m
  segment_aims (enter h k s) (Memᴰ.head e) =
      entered_grows (segment_grows s) (entered_grows (segment_grows k) (now (ap aim e)))
  segment_aims (enter h k s) (Memᴰ.tail m) = segment_aims s m

-- where a vertex that an entering segment adds was entered: at once, below, or after
pub data Added (a : Goal) (F M : Forest) (x : ℕ) : Type 0 where
  at_once : x ≡ aim a → Added a F M x
  below : Entered x M → (Entered x (a ∷ F) → ⊥) → Added a F M x
  after : (Entered x M → ⊥) → Added a F M x

pub added : (a : Goal) (F M : Forest) (x : ℕ) → (Entered x F → ⊥) → Added a F M x
added a F M x h = go (ℕ_discrete x (aim a)) (dec_entered x M)
  where
    go : Dec (x ≡ aim a) → Dec (Entered x M) → Added a F M x
    go (yes e) d = at_once e
    go (no p) (yes i) = below i (new_cons p h)
    go (no p) (no q) = after q

module _ {g : Blocks} {ok : PlaceTest} where
  -- every arc of a vertex that the segment enters leads to an entered one
  pub segment_closed : {F H : Forest} {xs : List Goal} {u : ℕ} {a : Goal} → Segment g ok F xs H → Entered u H
      → (Entered u F → ⊥)
      → Memᴰ a (arcs_of g ok u) → Entered (aim a) H
  segment_closed done i h m = absurd (h i)
  segment_closed (skip k s) i h m = segment_closed s i h m
  segment_closed {u = u} {a = a} (enter {F = F} {M = M} {H = H} {a = c} n k s) i h m =
      go (added c F M u h) (λ p q. segment_closed k p q m) (λ q. segment_closed s i q m)
    where
      go : Added c F M u → (Entered u M → (Entered u (c ∷ F) → ⊥) → Entered (aim a) M)
          → ((Entered u M → ⊥) → Entered (aim a) H) → Entered (aim a) H
      go (at_once e) f r =
          entered_grows (segment_grows s) (segment_aims k (subst (λ x. Memᴰ a (arcs_of g ok x)) e m))
      go (below p q) f r = entered_grows (segment_grows s) (f p q)
      go (after q) f r = r q

-- ---- the run is a segment: its steps suffice

-- the goals still to come from the vertices that are not entered
unfoldable pub coming : Blocks → PlaceTest → Forest → ℕ
coming g ok F = left (λ u. length (arcs_of g ok u)) F (length g)

module _ (g : Blocks) (ok : PlaceTest) (r : InRange g) where
  run_segment : (k : ℕ) (F : Forest) (xs : List Goal) → ((a : Goal) → Memᴰ a xs → aim a < length g)
      → length xs + coming g ok F ≤ k
      → Segment g ok F xs (run g ok k F xs)
  unfolding run coming
  run_segment zero F [] un l = done
  run_segment zero F (a ∷ xs) un l = absurd (omega arith)
  run_segment (suc k) F [] un l = done
  run_segment (suc k) F (a ∷ xs) un l = go (told (entered (aim a) F)) (λ G ys. run_segment k G ys)
    where
      new_segment : {F H : Forest} {a : Goal} → (Entered (aim a) F → ⊥)
          → Segment g ok (a ∷ F) (arcs_of g ok (aim a) ++ xs) H
          → Segment g ok F (a ∷ xs) H
      new_segment {a = a} h s = let (M, p, q) = segment_split (arcs_of g ok (aim a)) s in enter h p q

      both : (c : Goal) → Memᴰ c (arcs_of g ok (aim a) ++ xs) → aim c < length g
      both c m =
          elim (Memᴰ.append_cases (arcs_of g ok (aim a)) m) [
            | inl x ↦ arcs_range g ok r (aim a) x
            | inr y ↦ un c
                (Memᴰ.tail y)
          ]

      go : Told (entered (aim a) F)
          → ((G : Forest) (ys : List Goal) → ((c : Goal) → Memᴰ c ys → aim c < length g)
          → length ys + coming g ok G ≤ k → Segment g ok G ys (run g ok k G ys))
          → Segment g ok F (a ∷ xs) (run g ok (suc k) F (a ∷ xs))
      go (pass e) rec =
          rw (e, run) (skip (entered_test (aim a) F e) (rec F xs (λ c m. un c (Memᴰ.tail m)) (omega arith)))
      go (fail e) rec =
          let h : Entered (aim a) F → ⊥ = λ i. clash (test_entered i) e in
          let x = left_enter (λ u. length (arcs_of g ok u)) a F (length g) (un a (Memᴰ.head refl)) h in
          let y = length-append (arcs_of g ok (aim a)) xs in
          rw (e, run) (new_segment h (rec (a ∷ F) (arcs_of g ok (aim a) ++ xs) both (omega arith)))

-- all places are enough for the goals to come
coming_take : (g : Blocks) (ok : PlaceTest) (n : ℕ) → n ≤ length g
    → left (λ u. length (arcs_of g ok u)) [] n ≤ length (flatten (take n g))
unfolding left flatten
coming_take g ok zero h = omega arith
coming_take g ok (suc n) h =
    let a = left_new (λ u. length (arcs_of g ok u)) [] {n = n} none_entered in
    let b = arcs_length ok n 0 (block g n) in
    let c = coming_take g ok n (omega arith) in
    let e = ap (λ (l : Blocks). length (flatten l)) (take-suc g n [] h) in
    let d = flatten_snoc (take n g) (block g n) in
    omega arith
  where
    flatten_snoc : (h : Blocks) (l : List ℕ) → length (flatten (h ++ (l ∷ []))) ≡ length (flatten h) + length l
    flatten_snoc [] l = let a = length-append l [] in omega arith
    flatten_snoc (k ∷ h) l =
        let a = flatten_snoc h l in
        let b = length-append k (flatten (h ++ (l ∷ []))) in
        let c = length-append k (flatten h) in
        omega arith

pub coming_most : (g : Blocks) (ok : PlaceTest) → coming g ok [] ≤ length (flatten g)
unfolding coming
coming_most g ok =
    let b = coming_take g ok (length g) (omega arith) in
    let c = ap (λ (l : Blocks). length (flatten l)) (take-length g) in
    omega arith

-- a start, as a goal
pub data Start (starts : List ℕ) : Goal → Type 0 where
  start : {v : ℕ} → Memᴰ v starts → Start starts (root v)

start_further : (w : ℕ) {starts : List ℕ} {a : Goal} → Start starts a → Start (w ∷ starts) a
start_further w (start k) = start (Memᴰ.tail k)

pub start_goal : (starts : List ℕ) {a : Goal} → Memᴰ a (map root starts) → Start starts a
start_goal [] m = elim m [ ]
start_goal (v ∷ starts) (Memᴰ.head e) = subst (λ x. Start (v ∷ starts) x) (sym e) (start (Memᴰ.head refl))
start_goal (v ∷ starts) (Memᴰ.tail m) = start_further v (start_goal starts m)

pub start_place : {starts : List ℕ} {a : Goal} → Start starts a → Memᴰ (aim a) starts
start_place (start k) = k

pub goal_start : {v : ℕ} {starts : List ℕ} → Memᴰ v starts → Memᴰ (root v) (map root starts)
goal_start (Memᴰ.head e) = Memᴰ.head (ap root e)
goal_start (Memᴰ.tail m) = Memᴰ.tail (goal_start m)

pub search_segment : (g : Blocks) (ok : PlaceTest) → InRange g → (starts : List ℕ)
    → ((v : ℕ) → Memᴰ v starts → v < length g)
    → Segment g ok [] (map root starts) (search g ok starts)
unfolding search
search_segment g ok r starts h =
    run_segment g ok r (length starts + length (flatten g)) [] (map root starts) inside enough
  where
    inside : (a : Goal) → Memᴰ a (map root starts) → aim a < length g
    inside a m = h (aim a) (start_place (start_goal starts m))

    enough : length (map root starts) + coming g ok [] ≤ length starts + length (flatten g)
    enough = omega (arith, length-map starts root, coming_most g ok)
