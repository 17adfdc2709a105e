-- A climb that stops at all stops after fewer steps than there are vertices, so a limit of that many changes no answer.
--   ends_same     a climb has its steps by where it begins
--   pigeonhole    among more numbers than n there are two equal ones, or one that is not below n
--   ends_soon     fewer steps than vertices
--   walk_ends     a walk with as many steps finds the value
--   walk_stops    so does one with n - 1 steps
use Rattle.std.specs.Prelude.{ℕ, zero, suc, ◌+◌, ◌-◌, ◌≤◌, ◌<◌, ◌≡◌, refl, ◌⊎◌}
use Rattle.std.proofs.Common.{◌∙◌, ap, inl, inr, arith}
use Rattle.std.proofs.Math.Decide.{ℕ_discrete}
use Rattle.graph.specs.Walk.{walk, Ends, here, up}
use Rattle.graph.specs.Laws.Heads.Walks.{walk_stop, walk_up}

-- a climb does not both stop and go on
apart : {A : Type 0} {s : A ⊎ ℕ} {a : A} {p : ℕ} → s ≡ inl a → s ≡ inr p → ⊥
apart e f = let z : ◌≡◌ {A = ℕ} 0 1 = cc in omega arith

-- the steps are settled by the vertex
ends_same : {A : Type 0} {next : ℕ → A ⊎ ℕ} {d e u : ℕ} {a b : A} → Ends next d u a → Ends next e u b → d ≡ e
ends_same (here e) (here f) = refl
ends_same (here e) (up f s) = absurd (apart e f)
ends_same (up e r) (here f) = absurd (apart f e)
ends_same (up {p = p} e r) (up {p = q} f s) =
    let z : p ≡ q = cc in
    ap suc (ends_same (rw z at r) s)

-- ---- different numbers below n

-- x, with t in the place of n
record Moved (n t x : ℕ) : Type 0 where
  to : ℕ
  how : ((x ≡ n) × (to ≡ t)) ⊎ ((x ≡ n → ⊥) × (to ≡ x))

moved : (n t x : ℕ) → Moved n t x
moved n t x = go (ℕ_discrete x n)
  where
    go : Dec (x ≡ n) → Moved n t x
    go (yes e) = record { to = t; how = inl (e, refl) }
    go (no e) = record { to = x; how = inr (e, refl) }

-- d + 1 different numbers below n
pub pigeonhole : (n d : ℕ) (f : ℕ → ℕ) → ((j : ℕ) → j ≤ d → f j < n)
    → ((i j : ℕ) → i ≤ d → j ≤ d → f i ≡ f j → i ≡ j) → d < n
pigeonhole zero d f low one = let l = low 0 (omega arith) in absurd (omega arith)
pigeonhole (suc n) zero f low one = omega arith
pigeonhole (suc n) (suc d) f low one =
    let l = pigeonhole n d (λ j. (put j).to) (λ j h. small j h (put j)) (λ i j h k. same i j h k (put i) (put j)) in
    omega arith
  where
    put : (j : ℕ) → Moved n (f (suc d)) (f j)
    put j = moved n (f (suc d)) (f j)

    other : (j : ℕ) → j ≤ d → f j ≡ f (suc d) → ⊥
    other j h e = let z = one j (suc d) (omega arith) (omega arith) e in omega arith

    small : (j : ℕ) → j ≤ d → (m : Moved n (f (suc d)) (f j)) → m.to < n
    small j h m =
        let a = low j (omega arith) in
        let b = low (suc d) (omega arith) in
        let c = other j h in
        elim m.how [ inl s ↦ omega arith | inr s ↦ omega arith ]

    same : (i j : ℕ) → i ≤ d → j ≤ d → (p : Moved n (f (suc d)) (f i)) (q : Moved n (f (suc d)) (f j))
        → p.to ≡ q.to → i ≡ j
    same i j h k p q e =
        let a = other i h in
        let b = other j k in
        elim p.how [
          | inl s ↦ elim q.how [
            | inl t ↦ one i j (omega arith) (omega arith) (omega arith)
            | inr t ↦ absurd (omega arith)
          ]
          | inr s ↦ elim q.how [
            | inl t ↦ absurd (omega arith)
            | inr t ↦ one i j (omega arith) (omega arith) (omega arith)
          ]
        ]

-- ---- the vertices on the way

-- the vertex after j of d steps, with the steps left
record Way {A : Type 0} (next : ℕ → A ⊎ ℕ) (n d j : ℕ) (a : A) : Type 0 where
  vertex : ℕ
  left : ℕ
  low : vertex < n
  sum : j ≤ d → j + left ≡ d
  rest : Ends next left vertex a

module _ {A : Type 0} {next : ℕ → A ⊎ ℕ} {n : ℕ} (inside : (u p : ℕ) → u < n → next u ≡ inr p → p < n) where
  way : {d u : ℕ} {a : A} → u < n → Ends next d u a → (j : ℕ) → Way next n d j a
  way {u = u} h (here e) j = record { vertex = u; left = 0; low = h; sum = omega arith; rest = here e }
  way {u = u} h (up {d = d} e r) zero =
      record { vertex = u; left = suc d; low = h; sum = omega arith; rest = up e r }
  way {u = u} h (up {d = d} {p = p} e r) (suc j) =
      let w = way (inside u p h e) r j in
      record {
        vertex = w.vertex;
        left = w.left;
        low = w.low;
        sum = λ l. let s = w.sum (omega arith) in omega arith;
        rest = w.rest;
      }

  pub ends_soon : {d u : ℕ} {a : A} → u < n → Ends next d u a → d < n
  ends_soon {d = d} {a = a} h r =
      pigeonhole n d (λ j. (way h r j).vertex) (λ j l. (way h r j).low)
      (λ i j l k e. different i j l k (way h r i) (way h r j) e)
    where
      different : (i j : ℕ) → i ≤ d → j ≤ d → (v : Way next n d i a) (w : Way next n d j a)
          → v.vertex ≡ w.vertex → i ≡ j
      different i j l k v w e =
          let s = v.sum l in
          let t = w.sum k in
          let z = ends_same (rw e at v.rest) w.rest in
          omega arith

-- ---- walks

pub walk_ends : {A : Type 0} (next : ℕ → A ⊎ ℕ) (late : A) {d u : ℕ} {a : A} (k : ℕ) → Ends next d u a → d ≤ k
    → walk next late k u ≡ a
walk_ends next late k (here e) h = walk_stop next late k e
walk_ends next late zero (up e r) h = absurd (omega arith)
walk_ends next late (suc k) (up e r) h = walk_up next late k e ∙ walk_ends next late k r (omega arith)

pub walk_stops : {A : Type 0} (next : ℕ → A ⊎ ℕ) (late : A) {n : ℕ} → ((u p : ℕ) → u < n → next u ≡ inr p → p < n)
    → {d u : ℕ} {a : A} → u < n → Ends next d u a → walk next late (n - 1) u ≡ a
walk_stops next late {n} inside h r =
    walk_ends next late (n - 1) r (let l = ends_soon inside h r in omega arith)
