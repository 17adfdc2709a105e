-- Heads that are known: a way that gets a head, and a climb up to a head that is known.
--   known_none, known_kept   the known heads at first, and after a way has got one
--   head_at_lem                  a climb that stops is what Head answers
--   head_here, head_above    a climb that stops here, and one that goes on
--   WayTo, way_..            the vertices that a climb has passed, and where it stands
--   Climbed, climbed_..      what the loop keeps, from its begin to its end
use mathlib.Core.Path.{◌≡◌, refl, sym, ap, subst, ◌∙◌}
use mathlib.Core.Logic.{◌⊎◌, inl, inr}
use mathlib.Core.List.{List, [], ◌∷◌}
use Prim.Native.Nat.{ℕ, zero, suc, ◌+◌, ◌-◌, ◌≤◌, ◌<◌}
use native.Mathlib.Decide.{ℕ_discrete}
use native.Mathlib.Omega.{arith}
use lib.ListN.{length, take, get_or, set, length-take, length-set}
use Rattle.std.proofs.lemmas.List.{get_or-take}
use lib.Seq.{length-take-le}
use Rattle.adjacency.specs.Laws.Stores.{cell_same, cell_other}
use Rattle.graph.specs.Walk.{here, up}
use Rattle.graph.specs.Laws.Heads.Limits.{walk_stops}
use Rattle.record.specs.Answers.{Answer, refused, answered}
use Rattle.queries.specs.View.{View, view_by}
use Rattle.queries.specs.Queries.{head_next, head_of}
use Rattle.queries.specs.Steps.{Beside}
use Rattle.queries.specs.Looking.{HeadIs, Known, Vertices, OnWay, Kept}
use Rattle.queries.proofs.Laws.Climbing.{climb, climb_stop, climb_on, head_inside, head_begin}

-- ---- the known heads

-- none is known in the front part of an array of zeros
pub known_none : (w : View) (n : ℕ) (known : List ℕ) → n ≤ length known → ((u : ℕ) → get_or known u 0 ≡ 0)
    → Known w n (take n known)
known_none w n known h zeros = record {
  size = length-take-le n known h;
  heads = λ u s. absurd (let z = front n known u (zeros u) in omega arith);
}
  where
    front : (k : ℕ) (l : List ℕ) (u : ℕ) → get_or l u 0 ≡ 0 → get_or (take k l) u 0 ≡ 0
    front zero l u e = refl
    front (suc k) [] u e = refl
    front (suc k) (x ∷ l) zero e = e
    front (suc k) (x ∷ l) (suc u) e = front k l u e

module _ {w : View} {n : ℕ} where
  pub known_kept : {way : List ℕ} {k h : ℕ} {before after : List ℕ} → Known w n before → Kept way k h before after
      → ((i : ℕ) → i < k → HeadIs w (get_or way i 0) h) → Known w n after
  known_kept {way} {k} {h} {before} {after} known kept each = record {
    size = kept.size ∙ known.size;
    heads = λ u s. cell u s (kept.cells u);
  }
    where
      cell : (u : ℕ) → 0 < get_or after u 0
          → (get_or after u 0 ≡ get_or before u 0) ⊎ ((get_or after u 0 ≡ h) × OnWay way k u)
          → HeadIs w u (get_or after u 0)
      cell u s (inl e) = subst (HeadIs w u) (sym e) (known.heads u (omega arith))
      cell u s (inr e) =
          let o = e.1 in
          subst (HeadIs w u) (sym e.0) (subst (λ (x : ℕ). HeadIs w x h) o.is (each o.at o.before))

-- ---- a climb

module _ (w : View) {n : ℕ} (e : length w.graph ≡ n) where
  -- what Head answers where the climb stops
  pub head_at_lem : {v h : ℕ} → v < n → HeadIs w v h → answered h ≡ head_of w v
  unfolding head_of
  head_at_lem l is = sym (walk_stops (head_next w) (refused 12) inside (omega arith) is.ends)
    where
      inside : (u p : ℕ) → u < length w.graph → head_next w u ≡ inr p → p < length w.graph
      inside u p l f = head_inside w u (sym f)

pub head_here : {w : View} {u h : ℕ} → inl (answered h) ≡ head_next w u → HeadIs w u h
head_here f = record { steps = 0; ends = here (sym f) }

pub head_above : {w : View} {u p h : ℕ} → inr p ≡ head_next w u → HeadIs w p h → HeadIs w u h
head_above f is = record { steps = suc is.steps; ends = up (sym f) is.ends }

-- the climb from v has passed the first k vertices of the way, and stands at u: the head of u is theirs
pub record WayTo (w : View) (n v : ℕ) (way : List ℕ) (k u : ℕ) : Type 0 where
  pub inside : u < n
  pub size : length way ≡ n
  pub vertices : Vertices n way k
  pub passed : (h : ℕ) → HeadIs w u h → (i : ℕ) → i < k → HeadIs w (get_or way i 0) h
  pub begun : (h : ℕ) → HeadIs w u h → HeadIs w v h

pub way_begins : (w : View) {n v : ℕ} {way : List ℕ} → v < n → length way ≡ n → WayTo w n v way 0 v
way_begins w l e = record {
  inside = l;
  size = e;
  vertices = λ i h. absurd (omega arith);
  passed = λ h is i l. absurd (omega arith);
  begun = λ h is. is;
}

module _ {w : View} {n v : ℕ} {way : List ℕ} {k u : ℕ} (y : WayTo w n v way k u) where
  -- the vertex at hand is on the way too
  pub way_put : {next : List ℕ} → k < n → next ≡ set way k u → WayTo w n v next (k + 1) u
  way_put {next} s e = record {
    inside = y.inside;
    size = ap length e ∙ length-set way k u ∙ y.size;
    vertices = λ i h. vertex i h (ℕ_discrete i k);
    passed = λ h is i b. pass h is i b (ℕ_discrete i k);
    begun = y.begun;
  }
    where
      new : (i : ℕ) → i ≡ k → get_or next i 0 ≡ u
      new i q = let z = y.size in ap (λ (t : List ℕ). get_or t i 0) e ∙ cell_same way u q (omega arith)

      old : (i : ℕ) → (i ≡ k → ⊥) → get_or next i 0 ≡ get_or way i 0
      old i q = ap (λ (t : List ℕ). get_or t i 0) e ∙ cell_other way u q

      vertex : (i : ℕ) → i < k + 1 → Dec (i ≡ k) → get_or next i 0 < n
      vertex i h (yes q) = let z = new i q in let b = y.inside in omega arith
      vertex i h (no q) = let z = old i q in let b = y.vertices i (omega arith) in omega arith

      pass : (h : ℕ) → HeadIs w u h → (i : ℕ) → i < k + 1 → Dec (i ≡ k) → HeadIs w (get_or next i 0) h
      pass h is i b (yes q) = subst (λ (x : ℕ). HeadIs w x h) (sym (new i q)) is
      pass h is i b (no q) = subst (λ (x : ℕ). HeadIs w x h) (sym (old i q)) (y.passed h is i (omega arith))

  -- a step up
  pub way_up : {p : ℕ} → inr p ≡ head_next w u → p < n → WayTo w n v way k p
  way_up f l = record {
    inside = l;
    size = y.size;
    vertices = y.vertices;
    passed = λ h is. y.passed h (head_above f is);
    begun = λ h is. y.begun h (head_above f is);
  }

  -- the head of u: what Head answers for v, and what those on the way get
  module _ {h : ℕ} (is : HeadIs w u h) where
    pub way_head : length w.graph ≡ n → v < n → answered h ≡ head_of w v
    way_head e l = head_at_lem w e l (y.begun h is)

    pub way_kept : {before after : List ℕ} → Known w n before
        → Kept (take k way) (length (take k way)) h before after → Known w n after
    way_kept known t =
        known_kept known t (λ i l. let b : i < k = omega (arith, length-take k way) in
        subst (λ (x : ℕ). HeadIs w x h) (sym (get_or-take k way i 0 b)) (y.passed h is i b))

-- ---- the loop

-- the heads that are known, the way from v to u, and what is left of the climb
pub record Climbed (w : View) (n v : ℕ) (known way : List ℕ) (u k : ℕ) : Type 0 where
  pub heads : Known w n known
  pub along : WayTo w n v way k u
  pub rest : climb (head_next w) (refused 12) (n - k) u ≡ head_of w v

pub climbed_begins : {bytes index known way : List ℕ} {n m v : ℕ} → Beside bytes index n m
    → Known (view_by n m bytes index) n known → length way ≡ n → v < n
    → Climbed (view_by n m bytes index) n v known way v 0
climbed_begins {bytes} {index} {n = n} {m = m} {v = v} b known size l =
    record {
      heads = known;
      along = way_begins (view_by n m bytes index) l size;
      rest = head_begin b.sound index v l;
    }

module _ {w : View} {n v : ℕ} {known way : List ℕ} {u k : ℕ} (c : Climbed w n v known way u k) where
  -- the head of u is known
  pub climbed_known : {h : ℕ} → h ≡ get_or known u 0 → 0 < h → HeadIs w u h
  climbed_known e s = subst (HeadIs w u) (sym e) (c.heads.heads u (omega arith))

  module _ (l : k < n) where
    pub climbed_stops : {a : Answer ℕ} → inl a ≡ head_next w u → a ≡ head_of w v
    climbed_stops e = climb_stop (head_next w) (refused 12) n k u c.rest l e

    pub climbed_on : {next : List ℕ} {p : ℕ} → next ≡ set way k u → inr p ≡ head_next w u → p < n
        → Climbed w n v known next p (k + 1)
    climbed_on {p = p} e f i =
        record {
          heads = c.heads;
          along = way_up (way_put c.along l e) f i;
          rest = climb_on (head_next w) (refused 12) n k u c.rest l f;
        }
