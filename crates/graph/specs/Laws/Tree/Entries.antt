-- The entries of a forest: who is entered, forests that grow, forests that are built goal by goal, and induction from
-- the roots down.
use Rattle.std.specs.Prelude.{ℕ, ◌≤◌, ◌≡◌, refl, ◌⊎◌, true, false, length, eqb}
use Rattle.std.proofs.Common.{sym, ◌∙◌, ap, inl, inr, arith, eqb-true, eq-eqb}
use mathlib.Core.List.{[], ◌∷◌, Memᴰ}
use Rattle.graph.specs.Search.{Goal, root, via, aim, Forest, entered}
use Rattle.graph.specs.Laws.Places.Basics.{Told, pass, fail, told, clash, fails, or_cases, or_left, or_right}

-- ---- entered vertices

pub data Entered (v : ℕ) : Forest → Type 0 where
  now : {a : Goal} {F : Forest} → v ≡ aim a → Entered v (a ∷ F)
  old : {a : Goal} {F : Forest} → Entered v F → Entered v (a ∷ F)

pub entered_test : (v : ℕ) (F : Forest) → entered v F ≡ true → Entered v F
unfolding entered
entered_test v [] e = absurd (clash e refl)
entered_test v (a ∷ F) e = go (λ h. entered_test v F h) (or_cases (eqb v (aim a)) (entered v F) e)
  where
    go : (entered v F ≡ true → Entered v F) → (eqb v (aim a) ≡ true) ⊎ (entered v F ≡ true) → Entered v (a ∷ F)
    go rec (inl h) = now (eqb-true v (aim a) h)
    go rec (inr h) = old (rec h)

pub test_entered : {v : ℕ} {F : Forest} → Entered v F → entered v F ≡ true
unfolding entered
test_entered (now {F = F} e) = or_left (entered _ F) (eq-eqb _ _ e)
test_entered {v} (old {a = a} m) = or_right (eqb v (aim a)) (test_entered m)

pub test_new : (v : ℕ) (F : Forest) → (Entered v F → ⊥) → entered v F ≡ false
test_new v F h = fails (entered v F) (λ e. h (entered_test v F e))

pub dec_entered : (v : ℕ) (F : Forest) → Dec (Entered v F)
dec_entered v F = go (told (entered v F))
  where
    go : Told (entered v F) → Dec (Entered v F)
    go (pass e) = yes (entered_test v F e)
    go (fail e) = no (λ m. clash (test_entered m) e)

pub entered_cast : {v w : ℕ} {F : Forest} → w ≡ v → Entered v F → Entered w F
entered_cast e (now p) = now (e ∙ p)
entered_cast e (old m) = old (entered_cast e m)

pub none_entered : {v : ℕ} → Entered v [] → ⊥
none_entered m = elim m [ ]

pub entered_rest : {a : Goal} {F : Forest} {v : ℕ} → Entered v (a ∷ F) → (v ≡ aim a → ⊥) → Entered v F
entered_rest (now e) h = absurd (h e)
entered_rest (old m) h = m

pub new_cons : {a : Goal} {F : Forest} {v : ℕ} → (v ≡ aim a → ⊥) → (Entered v F → ⊥) → Entered v (a ∷ F) → ⊥
new_cons h k m = k (entered_rest m h)

-- an entered vertex is not one that is not
pub apart : {v w : ℕ} {F : Forest} → Entered w F → (Entered v F → ⊥) → w ≡ v → ⊥
apart m h e = h (entered_cast (sym e) m)

-- ---- entries

pub entry_entered : {a : Goal} {F : Forest} → Memᴰ a F → Entered (aim a) F
entry_entered (Memᴰ.head e) = now (ap aim e)
entry_entered (Memᴰ.tail m) = old (entry_entered m)

-- how v was entered
pub data Entry (F : Forest) (v : ℕ) : Type 0 where
  as_root : Memᴰ (root v) F → Entry F v
  as_child : (u j : ℕ) → Memᴰ (via u j v) F → Entry F v

pub entry : {v : ℕ} {F : Forest} → Entered v F → Entry F v
entry (now {a = root w} e) = as_root (Memᴰ.head (ap root e))
entry (now {a = via u j w} e) = as_child u j (Memᴰ.head (ap (via u j) e))
entry (old m) =
    elim (entry m) [ as_root k ↦ as_root (Memᴰ.tail k) | as_child u j k ↦ as_child u j (Memᴰ.tail k) ]

pub via_root : {u j v w : ℕ} → via u j v ≡ root w → ⊥
via_root e = let z : ◌≡◌ {A = ℕ} 0 1 = cc in omega arith

-- ---- a forest that grows

pub data Grows (F : Forest) : Forest → Type 0 where
  same : Grows F F
  more : {a : Goal} {H : Forest} → Grows F H → Grows F (a ∷ H)

pub grows_trans : {F G H : Forest} → Grows F G → Grows G H → Grows F H
grows_trans p same = p
grows_trans p (more q) = more (grows_trans p q)

grows_length : {F H : Forest} → Grows F H → length F ≤ length H
grows_length same = omega arith
grows_length (more e) = let l = grows_length e in omega arith

-- no longer, so not grown
pub grows_full : {F H : Forest} → Grows F H → length H ≤ length F → F ≡ H
grows_full same h = refl
grows_full (more e) h = absurd (let l = grows_length e in omega arith)

pub entered_grows : {F H : Forest} {v : ℕ} → Grows F H → Entered v F → Entered v H
entered_grows same m = m
entered_grows (more e) m = old (entered_grows e m)

pub entry_grows : {F H : Forest} {a : Goal} → Grows F H → Memᴰ a F → Memᴰ a H
entry_grows same m = m
entry_grows (more e) m = Memᴰ.tail (entry_grows e m)

-- ---- a forest over the places that Ok allows: each vertex is entered once, a child after its parent

pub data Built (Ok : ℕ → ℕ → ℕ → Type 0) : Forest → Type 0 where
  built_nil : Built Ok []
  built_root : {v : ℕ} {F : Forest} → (Entered v F → ⊥) → Built Ok F → Built Ok (root v ∷ F)
  built_via : {u j v : ℕ} {F : Forest} → (Entered v F → ⊥) → Entered u F → Ok u j v → Built Ok F
      → Built Ok (via u j v ∷ F)

pub built_map : {Ok Ok' : ℕ → ℕ → ℕ → Type 0} {F : Forest} → ((u j v : ℕ) → Ok u j v → Ok' u j v) → Built Ok F
    → Built Ok' F
built_map f built_nil = built_nil
built_map f (built_root h b) = built_root h (built_map f b)
built_map f (built_via {u = u} {j = j} {v = v} h i o b) = built_via h i (f u j v o) (built_map f b)

module _ {Ok : ℕ → ℕ → ℕ → Type 0} where
  pub fresh : {a : Goal} {F : Forest} → Built Ok (a ∷ F) → Entered (aim a) F → ⊥
  fresh (built_root h b) = h
  fresh (built_via h m o b) = h

  pub before : {a : Goal} {F : Forest} → Built Ok (a ∷ F) → Built Ok F
  before (built_root h b) = b
  before (built_via h m o b) = b

  pub built_grows : {F H : Forest} → Grows F H → Built Ok H → Built Ok F
  built_grows same b = b
  built_grows (more e) b = built_grows e (before b)

  -- one entry for each vertex
  pub entry_once : {a c : Goal} {F : Forest} → Built Ok F → Memᴰ a F → Memᴰ c F → aim a ≡ aim c → a ≡ c
  entry_once {F = []} b m k e = elim m [ ]
  entry_once {F = x ∷ F} b (Memᴰ.head p) (Memᴰ.head q) e = p ∙ sym q
  entry_once {F = x ∷ F} b (Memᴰ.head p) (Memᴰ.tail q) e =
      absurd (fresh b (entered_cast (ap aim (sym p) ∙ e) (entry_entered q)))
  entry_once {F = x ∷ F} b (Memᴰ.tail p) (Memᴰ.head q) e =
      absurd (fresh b (entered_cast (ap aim (sym q) ∙ sym e) (entry_entered p)))
  entry_once {F = x ∷ F} b (Memᴰ.tail p) (Memᴰ.tail q) e = entry_once (before b) p q e

  pub root_no_child : {F : Forest} {u j v : ℕ} → Built Ok F → Memᴰ (root v) F → Memᴰ (via u j v) F → ⊥
  root_no_child b m k = via_root (entry_once b k m refl)

  pub parent_entered : {F : Forest} {u j v : ℕ} → Built Ok F → Memᴰ (via u j v) F → Entered u F
  parent_entered built_nil m = elim m [ ]
  parent_entered (built_root h b) (Memᴰ.head e) = absurd (via_root e)
  parent_entered (built_root h b) (Memᴰ.tail m) = old (parent_entered b m)
  parent_entered (built_via h k o b) (Memᴰ.head e) = old (entered_cast (cc) k)
  parent_entered (built_via h k o b) (Memᴰ.tail m) = old (parent_entered b m)

  pub entry_allowed : {F : Forest} {u j v : ℕ} → Built Ok F → Memᴰ (via u j v) F → Ok u j v
  entry_allowed built_nil m = elim m [ ]
  entry_allowed (built_root h b) (Memᴰ.head e) = absurd (via_root e)
  entry_allowed (built_root h b) (Memᴰ.tail m) = entry_allowed b m
  entry_allowed {u = u} {j = j} {v = v} (built_via {u = u'} {j = j'} {v = v'} h k o b) (Memᴰ.head e) =
      let p : u ≡ u' = cc in
      let q : j ≡ j' = cc in
      let r : v ≡ v' = cc in
      rw (p, q, r) o
  entry_allowed (built_via h k o b) (Memᴰ.tail m) = entry_allowed b m

  -- what is read from a vertex's own entry stays when the forest grows
  pub stays : {A : Type 0} (f : Forest → ℕ → A)
      → ((a : Goal) (F : Forest) (x : ℕ) → (x ≡ aim a → ⊥) → f (a ∷ F) x ≡ f F x)
      → {F H : Forest} {x : ℕ} → Grows F H → Built Ok H → Entered x F → f H x ≡ f F x
  stays f miss same b m = refl
  stays f miss {x = x} (more {a = a} {H = H} e) b m =
      miss a H x (apart (entered_grows e m) (fresh b)) ∙ stays f miss e (before b) m

  -- induction from the roots down
  forest_ind_in : {F G : Forest} (Q : ℕ → Type 0) → Built Ok G → ((a : Goal) → Memᴰ a G → Memᴰ a F)
      → ((v : ℕ) → Memᴰ (root v) F → Q v)
      → ((u j v : ℕ) → Memᴰ (via u j v) F → Q u → Q v)
      → (v : ℕ) → Entered v G → Q v
  forest_ind_in Q built_nil sub r s v m = elim m [ ]
  forest_ind_in Q (built_root {v = w} h b) sub r s v (now e) = rw e (r w (sub (root w) (Memᴰ.head refl)))
  forest_ind_in Q (built_root h b) sub r s v (old m) = forest_ind_in Q b (λ a k. sub a (Memᴰ.tail k)) r s v m
  forest_ind_in Q (built_via {u = u} {j = j} {v = w} h k o b) sub r s v (now e) =
      rw e
      (s u j w (sub (via u j w) (Memᴰ.head refl))
      (forest_ind_in Q b (λ a k'. sub a (Memᴰ.tail k')) r s u k))
  forest_ind_in Q (built_via h k o b) sub r s v (old m) = forest_ind_in Q b (λ a k'. sub a (Memᴰ.tail k')) r s v m

  pub forest_ind : {F : Forest} (Q : ℕ → Type 0) → Built Ok F → ((v : ℕ) → Memᴰ (root v) F → Q v)
      → ((u j v : ℕ) → Memᴰ (via u j v) F → Q u → Q v) → (v : ℕ) → Entered v F → Q v
  forest_ind Q b = forest_ind_in Q b (λ a m. m)
