-- The arcs of a vertex are its allowed places.
use Rattle.std.specs.Prelude.{ℕ, zero, suc, ◌+◌, ◌≤◌, ◌<◌, ◌≡◌, refl, ◌⊎◌, false, get_or}
use Rattle.std.proofs.Common.{sym, ap, subst, inl, inr}
use Rattle.std.proofs.Math.Bool.{true}
use mathlib.Core.List.Memᴰ
use mathlib.Core.List.{List, [], ◌∷◌, Memᴰ}
use native.Mathlib.Omega.{arith}
use Rattle.std.proofs.Math.ListN.{length}
use Rattle.graph.specs.Graph.{Blocks, block, Place}
use Rattle.graph.specs.Search.{Goal, via, aim, PlaceTest, all, arcs}
use Rattle.graph.specs.Laws.Places.Basics.{Told, pass, fail, told}
use Rattle.graph.specs.Laws.Places.Pairing.{InRange}

-- all arcs of u
abbrev pub arcs_of : Blocks → PlaceTest → ℕ → List Goal
arcs_of g ok u = arcs ok u 0 (block g u)

-- an allowed place
pub record Step (g : Blocks) (ok : PlaceTest) (u j v : ℕ) : Type 0 where
  pub place : Place g u j v
  pub allowed : ok u j ≡ true

-- a goal that stands for an allowed place of u
pub data Arc (g : Blocks) (ok : PlaceTest) (u : ℕ) : Goal → Type 0 where
  arc : {j v : ℕ} → Step g ok u j v → Arc g ok u (via u j v)

-- a goal of a part of the block, which begins at position i
record Out (ok : PlaceTest) (u i : ℕ) (l : List ℕ) (a : Goal) : Type 0 where
  d : ℕ
  within : d < length l
  form : a ≡ via u (i + d) (get_or l d 0)
  allowed : ok u (i + d) ≡ true

module _ (ok : PlaceTest) (u : ℕ) where
  pub arcs_yes : {i : ℕ} (v : ℕ) (l : List ℕ) → ok u i ≡ true → arcs ok u i (v ∷ l) ≡ via u i v ∷ arcs ok u (suc i) l
  unfolding arcs
  arcs_yes v l e = rw (e, arcs)

  pub arcs_no : {i : ℕ} (v : ℕ) (l : List ℕ) → ok u i ≡ false → arcs ok u i (v ∷ l) ≡ arcs ok u (suc i) l
  unfolding arcs
  arcs_no v l e = rw (e, arcs)

  out_later : {i : ℕ} (v : ℕ) {l : List ℕ} {a : Goal} → Out ok u (suc i) l a → Out ok u i (v ∷ l) a
  out_later {i} v {l} r =
      let e : suc i + r.d ≡ i + suc r.d = omega arith in
      let w = r.within in
      record { d = suc r.d; within = omega arith; form = rw (← e) r.form; allowed = rw (← e) r.allowed }

  arcs_out : (i : ℕ) (l : List ℕ) {a : Goal} → Memᴰ a (arcs ok u i l) → Out ok u i l a
  unfolding arcs
  arcs_out i [] m = elim m [ ]
  arcs_out i (v ∷ l) {a} m = go (told (ok u i)) (λ k. arcs_out (suc i) l k)
    where
      first : ok u i ≡ true → a ≡ via u i v → Out ok u i (v ∷ l) a
      first e p =
          let z : i + 0 ≡ i = omega arith in
          record { d = 0; within = omega arith; form = rw z p; allowed = rw z e }

      cases : ok u i ≡ true → (Memᴰ a (arcs ok u (suc i) l) → Out ok u (suc i) l a)
          → (a ≡ via u i v) ⊎ Memᴰ a (arcs ok u (suc i) l)
          → Out ok u i (v ∷ l) a
      cases e rec (inl p) = first e p
      cases e rec (inr k) = out_later v (rec k)

      go : Told (ok u i) → (Memᴰ a (arcs ok u (suc i) l) → Out ok u (suc i) l a) → Out ok u i (v ∷ l) a
      go (pass e) rec = cases e rec (Memᴰ.cases_cons (subst (λ x. Memᴰ a x) (arcs_yes v l e) m))
      go (fail e) rec = out_later v (rec (subst (λ x. Memᴰ a x) (arcs_no v l e) m))

  out_arcs : (i : ℕ) (l : List ℕ) (d : ℕ) → d < length l → ok u (i + d) ≡ true
      → Memᴰ (via u (i + d) (get_or l d 0)) (arcs ok u i l)
  out_arcs i [] d h o = absurd (omega arith)
  out_arcs i (v ∷ l) zero h o =
      let z : i + 0 ≡ i = omega arith in
      rw z (rw (arcs_yes v l (rw z at o)) (Memᴰ.head refl))
  out_arcs i (v ∷ l) (suc d) h o =
      let z : i + suc d ≡ suc i + d = omega arith in
      rw z (go (told (ok u i)) (out_arcs (suc i) l d (omega arith) (rw z at o)))
    where
      go : Told (ok u i) → Memᴰ (via u (suc i + d) (get_or l d 0)) (arcs ok u (suc i) l)
          → Memᴰ (via u (suc i + d) (get_or l d 0)) (arcs ok u i (v ∷ l))
      go (pass e) k = rw (arcs_yes v l e) (Memᴰ.tail k)
      go (fail e) k = rw (arcs_no v l e) k

  -- no more arcs than places, and as many if all are allowed
  pub arcs_length : (i : ℕ) (l : List ℕ) → length (arcs ok u i l) ≤ length l
  unfolding arcs
  arcs_length i [] = omega arith
  arcs_length i (v ∷ l) = go (told (ok u i)) (arcs_length (suc i) l)
    where
      go : Told (ok u i) → length (arcs ok u (suc i) l) ≤ length l → length (arcs ok u i (v ∷ l)) ≤ length (v ∷ l)
      go (pass e) h = rw (arcs_yes v l e) (omega arith)
      go (fail e) h = rw (arcs_no v l e) (omega arith)

pub arcs_length_all : (u i : ℕ) (l : List ℕ) → length (arcs all u i l) ≡ length l
unfolding arcs
arcs_length_all u i [] = refl
arcs_length_all u i (v ∷ l) = ap suc (arcs_length_all u (suc i) l)

module _ (g : Blocks) (ok : PlaceTest) where
  pub arcs_arc : {u : ℕ} {a : Goal} → Memᴰ a (arcs_of g ok u) → Arc g ok u a
  arcs_arc {u} {a} m =
      let r = arcs_out ok u 0 (block g u) m in
      let z : 0 + r.d ≡ r.d = omega arith in
      let p : Place g u (0 + r.d) (get_or (block g u) r.d 0) =
      record { fits = let w = r.within in omega arith; leads = ap (λ x. get_or (block g u) x 0) z } in
      subst (λ x. Arc g ok u x) (sym r.form) (arc (record { place = p; allowed = r.allowed }))

  pub arc_arcs : {u j v : ℕ} → Step g ok u j v → Memᴰ (via u j v) (arcs_of g ok u)
  arc_arcs {u} {j} {v} s =
      let z : 0 + j ≡ j = omega arith in
      let m = out_arcs ok u 0 (block g u) j s.place.fits (rw z s.allowed) in
      rw (z, s.place.leads) at m

  pub arcs_range : InRange g → (u : ℕ) {a : Goal} → Memᴰ a (arcs_of g ok u) → aim a < length g
  arcs_range r u {a} m = go (arcs_arc m)
    where
      go : {a : Goal} → Arc g ok u a → aim a < length g
      go (arc {j = j} {v = v} s) = r u j v s.place
