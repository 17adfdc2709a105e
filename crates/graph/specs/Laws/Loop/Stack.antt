-- The stack of a search program that goes back by the parents: the way from `cur` (0, or 1 + a vertex) up, each vertex
-- with its next position.
use Rattle.std.specs.Prelude.{ℕ, suc, ◌<◌, ◌≡◌, refl, ◌∷◌}
use Rattle.std.proofs.Common.{sym, subst, arith}
use Rattle.graph.specs.Search.{Goal, aim, Forest}
use Rattle.graph.specs.Forest.{parent}
use Rattle.graph.specs.Laws.Tree.Entries.{Entered, old, entered_cast, apart}
use Rattle.graph.specs.Laws.Tree.Climbs.{parent_miss}
use Rattle.graph.specs.Laws.Bridges.Stores.{Stored}
use Rattle.graph.specs.Laws.Loop.Machine.{Frames, bottom, frame}

-- u stands in no frame
pub data Away (u : ℕ) : Frames → Type 0 where
  away_bottom : Away u bottom
  away_frame : {w j : ℕ} {fr : Frames} → (u ≡ w → ⊥) → Away u fr → Away u (frame w j fr)

-- the frames, as `cur` and the parents show them
pub data Stack (F : Forest) (next : ℕ → ℕ) : Frames → ℕ → Type 0 where
  stack_bottom : Stack F next bottom 0
  stack_frame : {u : ℕ} {fr : Frames} → Entered u F → Away u fr → Stack F next fr (parent F u)
      → Stack F next (frame u (next u) fr) (suc u)

pub away_new : {F : Forest} {next : ℕ → ℕ} {fr : Frames} {c v : ℕ} → Stack F next fr c → (Entered v F → ⊥) → Away v fr
away_new stack_bottom h = away_bottom
away_new (stack_frame i a s) h = away_frame (λ e. h (entered_cast e i)) (away_new s h)

-- a store off the stack leaves it
stack_off : {n : ℕ} {F : Forest} {next next' : ℕ → ℕ} {fr : Frames} {c u x : ℕ} → ((v : ℕ) → Entered v F → v < n)
    → Stored n next next' u x
    → Away u fr → Stack F next fr c → Stack F next' fr c
stack_off w t a stack_bottom = stack_bottom
stack_off {F = F} {next' = next'} w t (away_frame n a) (stack_frame {u = v} {fr = fr} i b s) =
    let e = t.rest v (w v i) (λ q. n (sym q)) in
    subst (λ z. Stack F next' (frame v z fr) (suc v)) e (stack_frame i b (stack_off w t a s))

-- a new entry leaves it
pub stack_old : {F : Forest} {next : ℕ → ℕ} {fr : Frames} {c : ℕ} (a : Goal) → (Entered (aim a) F → ⊥)
    → Stack F next fr c → Stack (a ∷ F) next fr c
stack_old a h stack_bottom = stack_bottom
stack_old {F} {next} a h (stack_frame {u = u} {fr = fr} i b s) =
    stack_frame (old i) b (subst (λ z. Stack (a ∷ F) next fr z) (sym (parent_miss a F u (apart i h))) (stack_old a h s))

-- a frame whose position was just stored
pub stack_top : {n : ℕ} {F : Forest} {next next' : ℕ → ℕ} {fr : Frames} {u c x : ℕ} → ((v : ℕ) → Entered v F → v < n)
    → Stored n next next' u x
    → Entered u F → Away u fr → parent F u ≡ c → Stack F next fr c → Stack F next' (frame u x fr) (suc u)
stack_top {F = F} {next' = next'} {fr = fr} {u = u} w t o a e s =
    subst (λ z. Stack F next' (frame u z fr) (suc u)) t.hit
    (stack_frame o a (subst (λ z. Stack F next' fr z) (sym e) (stack_off w t a s)))

-- cur is 0: no frame
pub stack_none : {F : Forest} {next : ℕ → ℕ} {fr : Frames} {c : ℕ} → c ≡ 0 → Stack F next fr c → fr ≡ bottom
stack_none e stack_bottom = refl
stack_none e (stack_frame i a s) = absurd (omega arith)

-- cur is 1 + u: the frame of u is on top
pub record Top (F : Forest) (next : ℕ → ℕ) (fr : Frames) (u : ℕ) : Type 0 where
  pub under : Frames
  pub is_frame : fr ≡ frame u (next u) under
  pub has : Entered u F
  pub away : Away u under
  pub rest : Stack F next under (parent F u)

pub stack_some : {F : Forest} {next : ℕ → ℕ} {fr : Frames} {u c : ℕ} → c ≡ suc u → Stack F next fr c → Top F next fr u
stack_some e stack_bottom = absurd (omega arith)
stack_some {F} {next} {u = u} e (stack_frame {u = x} {fr = fr} i a s) =
    let q : x ≡ u = omega arith in
    subst (λ z. Top F next (frame x (next x) fr) z) q
    (record { under = fr; is_frame = refl; has = i; away = a; rest = s })
