-- Chains, and what it means to take a wire out: its two places, whichever of them names it.
use Rattle.std.specs.Prelude.{ℕ, ◌≡◌, refl, ◌⊎◌, Bool, true, false, not, ◌&&◌, ◌||◌, eqb}
use Rattle.std.proofs.Common.{◌∙◌, ap, inl, inr, eqb-true, eq-eqb}
use Rattle.graph.specs.Graph.{Blocks, target, Place, twin, WellFormed}
use Rattle.graph.specs.Search.{PlaceTest, all}
use Rattle.graph.specs.Joined.{Chain, here, along, without}
use Rattle.graph.specs.Laws.Places.Basics.{Told, pass, fail, told, clash, or_cases, or_left, or_right, and_parts}
use Rattle.graph.specs.Laws.Places.Basics.{and_both}
use Rattle.graph.specs.Laws.Places.Pairing.{twin_place, twin_twin}

-- ---- chains

module _ {g : Blocks} {ok : PlaceTest} where
  pub chain_trans : {a b c : ℕ} → Chain g ok a b → Chain g ok b c → Chain g ok a c
  chain_trans here q = q
  chain_trans (along p o r) q = along p o (chain_trans r q)

  pub chain_one : {u j v : ℕ} → Place g u j v → ok u j ≡ true → Chain g ok u v
  chain_one p o = along p o here

pub chain_map : {g : Blocks} {ok ok' : PlaceTest} {a b : ℕ} → ((u j : ℕ) → ok u j ≡ true → ok' u j ≡ true)
    → Chain g ok a b → Chain g ok' a b
chain_map f here = here
chain_map f (along {u = u} {j = j} p o r) = along p (f u j o) (chain_map f r)

-- a test that allows both places of a wire or neither
abbrev pub Twinned : Blocks → PlaceTest → Type 0
Twinned g ok = (u j v : ℕ) → Place g u j v → ok u j ≡ true → ok v (twin g u j) ≡ true

pub chain_sym : {g : Blocks} → WellFormed g → {ok : PlaceTest} {a b : ℕ} → Twinned g ok → Chain g ok a b
    → Chain g ok b a
chain_sym wf t here = here
chain_sym wf t (along {u = u} {j = j} {v = v} p o r) =
    chain_trans (chain_sym wf t r) (chain_one (twin_place wf p) (t u j v p o))

pub all_twinned : (g : Blocks) → Twinned g all
all_twinned g u j v p o = refl

-- ---- the places of a wire

-- (u, j) is one of the two places of the wire at (a, b)
pub data OnWire (g : Blocks) (a b u j : ℕ) : Type 0 where
  this : u ≡ a → j ≡ b → OnWire g a b u j
  that : u ≡ target g a b → j ≡ twin g a b → OnWire g a b u j

pub wire_out : {g : Blocks} {a b u j : ℕ} → OnWire g a b u j → without g a b u j ≡ false
unfolding without
wire_out {g} {a} {b} {u} {j} (this p q) =
    rw (or_left (eqb u (target g a b) && eqb j (twin g a b)) (and_both (eq-eqb u a p) (eq-eqb j b q)))
wire_out {g} {a} {b} {u} {j} (that p q) =
    rw (or_right (eqb u a && eqb j b) (and_both (eq-eqb u (target g a b) p) (eq-eqb j (twin g a b) q)))

pub wire_or_not : (g : Blocks) (a b u j : ℕ) → (without g a b u j ≡ true) ⊎ OnWire g a b u j
unfolding without
wire_or_not g a b u j = go (told (near || far))
  where
    near : Bool
    near = eqb u a && eqb j b

    far : Bool
    far = eqb u (target g a b) && eqb j (twin g a b)

    on : (near ≡ true) ⊎ (far ≡ true) → OnWire g a b u j
    on (inl e) = let (p, q) = and_parts (eqb u a) (eqb j b) e in this (eqb-true u a p) (eqb-true j b q)
    on (inr e) =
        let (p, q) = and_parts (eqb u (target g a b)) (eqb j (twin g a b)) e in
        that (eqb-true u (target g a b) p) (eqb-true j (twin g a b) q)

    go : Told (near || far) → (not (near || far) ≡ true) ⊎ OnWire g a b u j
    go (pass e) = inr (on (or_cases near far e))
    go (fail e) = inl (rw e)

pub wire_stays : (g : Blocks) (a b u j : ℕ) → (OnWire g a b u j → ⊥) → without g a b u j ≡ true
wire_stays g a b u j h = elim (wire_or_not g a b u j) [ inl e ↦ e | inr o ↦ absurd (h o) ]

module _ {g : Blocks} (wf : WellFormed g) {a b c : ℕ} (w : Place g a b c) where
  far_end : target g a b ≡ c
  far_end = w.leads

  near_end : target g (target g a b) (twin g a b) ≡ a
  near_end = ap (λ x. target g x (twin g a b)) far_end ∙ (twin_place wf w).leads

  near_place : twin g (target g a b) (twin g a b) ≡ b
  near_place = ap (λ x. twin g x (twin g a b)) far_end ∙ twin_twin wf w

  -- from one of its places, the wire at the other one
  wire_turn : {u j x i : ℕ} → OnWire g a b u j → OnWire g a b x i → OnWire g u j x i
  wire_turn (this p q) (this r s) = this (cc) (cc)
  wire_turn (this p q) (that r s) = that (cc) (cc)
  wire_turn (that p q) (this r s) = that (cc near_end) (cc near_place)
  wire_turn (that p q) (that r s) = this (cc) (cc)

  -- a wire taken out is the same from both of its places
  pub without_same : {u j : ℕ} → OnWire g a b u j → (x i : ℕ) → without g u j x i ≡ true → without g a b x i ≡ true
  without_same {u} {j} on x i o = wire_stays g a b x i (λ z. clash o (wire_out (wire_turn on z)))

  pub without_twinned : Twinned g (without g a b)
  without_twinned u j v p o = wire_stays g a b v (twin g u j) bad
    where
      e₃ : target g v (twin g u j) ≡ u
      e₃ = (twin_place wf p).leads

      e₄ : twin g v (twin g u j) ≡ j
      e₄ = twin_twin wf p

      bad : OnWire g a b v (twin g u j) → ⊥
      bad (this r s) = clash o (wire_out (that (cc e₃) (cc e₄)))
      bad (that r s) = clash o (wire_out (this (cc (near_end, e₃)) (cc (near_place, e₄))))
