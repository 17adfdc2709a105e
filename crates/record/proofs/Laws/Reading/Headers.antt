-- Order R, rule by rule, in the words of the code that tries it.
use mathlib.Core.Path.{◌≡◌, sym, ap, ap₂, ◌∙◌}
use mathlib.Core.Bool.{Bool, true, false, not, ◌||◌}
use mathlib.Core.List.{List, [], ◌∷◌}
use Prim.Native.Nat.{ℕ, zero, suc, ◌+◌, ◌*◌, ◌≤◌, ◌<◌}
use native.Mathlib.Omega.{arith}
use borrow.Author.Tests.{lt-ltb, le-ltb, le-leb, eq-eqb, ne_eqb}
use lib.Dec.{eqb, ltb}
use lib.ListN.{length, take, drop, get_or}
use lib.Seq.{drop-cons}
use Rattle.bits.specs.Bits.{bits, string, count, rank}
use Rattle.bits.specs.Laws.Bytes.{length_bits}
use Rattle.bits.specs.Laws.Rank.{held, length_string, rank_past}
use Rattle.record.specs.Record.{terminals, wires, used_bits, record_length, unary}
use Rattle.record.specs.Rules.{Rule, first_broken, order_r, begins_with_zero, spare_set, layout_rules}
use Rattle.record.specs.Answers.{Answer, refused, answered, tried}
use Rattle.record.specs.Sized.{sizes_of}
use Rattle.record.specs.Sized.{Sizes}
use Rattle.record.specs.Steps.{Headed, Sound}
use Rattle.record.specs.Laws.Sounded.{sound_of}
use Rattle.graph.specs.Laws.Places.Basics.{or_left, or_right}
use Rattle.std.specs.Prelude.{◌⊎◌}
use Rattle.std.proofs.Common.{inl, inr}
use Rattle.record.specs.Laws.First.{first_broken_lem, first_kept, append_kept, order_numbered}
use Rattle.record.specs.Laws.Told.{told, untold, untold_back}

-- what is left after rule 3
abbrev last : List ℕ → List Rule
last bytes = (4, not (eqb (count (unary bytes)) (terminals bytes)) || begins_with_zero (unary bytes)) ∷ []

module _ (bytes : List ℕ) where
  pub rule_1 : length bytes < 4 → first_broken (order_r bytes) ≡ 1
  unfolding order_r
  rule_1 h = first_broken_lem 1 _ (lt-ltb (length bytes) 4 h)

  module _ (long : 4 ≤ length bytes) where
    pub rule_2 : {n m : ℕ} → n ≡ terminals bytes → m ≡ wires bytes → (4096 < n) ⊎ ((n ≤ 4096) × (16384 < m))
        → first_broken (order_r bytes) ≡ 2
    unfolding order_r
    rule_2 {n} {m} is_n is_m h = first_kept 1 _ (le-ltb (length bytes) 4 long) ∙ first_broken_lem 2 _ (go h)
      where
        go : (4096 < n) ⊎ ((n ≤ 4096) × (16384 < m)) → (ltb 4096 (terminals bytes) || ltb 16384 (wires bytes)) ≡ true
        go (inl l) = or_left (ltb 16384 (wires bytes)) (lt-ltb 4096 (terminals bytes) (omega arith))
        go (inr (_, l)) = or_right (ltb 4096 (terminals bytes)) (lt-ltb 16384 (wires bytes) (omega arith))

    module _ (n_fits : terminals bytes ≤ 4096) (m_fits : wires bytes ≤ 16384) where
      past_2 : first_broken (order_r bytes)
          ≡ first_broken ((3, not (eqb (length bytes) (record_length (terminals bytes) (wires bytes)))) ∷ last bytes)
      unfolding order_r
      past_2 =
          first_kept 1 _ (le-ltb (length bytes) 4 long)
          ∙ first_kept 2 _ (rw (le-ltb 4096 (terminals bytes) n_fits, le-ltb 16384 (wires bytes) m_fits))

      pub rule_3 : (length bytes ≡ record_length (terminals bytes) (wires bytes) → ⊥) → first_broken (order_r bytes) ≡ 3
      rule_3 h =
          past_2
          ∙ first_broken_lem 3 _ (ap not (ne_eqb (length bytes) (record_length (terminals bytes) (wires bytes)) h))

-- ---- D, where rules 1 to 3 are kept

module _ {bytes : List ℕ} {n m : ℕ} (headed : Headed bytes n m) where
  same_places : n + 2 * m ≡ terminals bytes + 2 * wires bytes
  same_places = omega (arith, headed.is_n, headed.is_m)

  -- the bytes hold the used bits
  pub holds_all : used_bits n m ≤ 8 * length bytes
  unfolding record_length
  holds_all = let s = headed.sized in omega arith

  pub unary_held : unary bytes ≡ take (n + 2 * m) (drop 28 (bits bytes))
  unfolding unary used_bits
  unary_held =
      let h = holds_all in
      ap (string bytes 28) (sym same_places)
      ∙ held bytes 28 (n + 2 * m) (le-leb (28 + (n + 2 * m)) (8 * length bytes) (omega arith))

  pub count_unary : rank (string bytes 28 (n + 2 * m)) (n + 2 * m) ≡ count (unary bytes)
  unfolding unary
  count_unary =
      rank_past (string bytes 28 (n + 2 * m)) (n + 2 * m) (length_string bytes 28 (n + 2 * m))
      ∙ ap (λ (k : ℕ). count (string bytes 28 k)) same_places

  -- rule 4, by the first bit of D and its ones
  module _ {r : ℕ} (ranked : r ≡ rank (string bytes 28 (n + 2 * m)) (n + 2 * m)) where
    pub ones_differ : (r ≡ n → ⊥)
        → true ≡ (not (eqb (count (unary bytes)) (terminals bytes)) || begins_with_zero (unary bytes))
    ones_differ h =
        let e = headed.is_n in
        let d : count (unary bytes) ≡ terminals bytes → ⊥ =
        λ (z : count (unary bytes) ≡ terminals bytes). h (omega (arith, count_unary)) in
        rw (ne_eqb (count (unary bytes)) (terminals bytes) d)

    module _ (same : r ≡ n) where
      ones_agree : (not (eqb (count (unary bytes)) (terminals bytes)) || begins_with_zero (unary bytes))
          ≡ begins_with_zero (unary bytes)
      ones_agree =
          let e = headed.is_n in
          rw (eq-eqb (count (unary bytes)) (terminals bytes) (omega (arith, count_unary)))

      pub no_first : n + 2 * m ≡ 0
          → false ≡ (not (eqb (count (unary bytes)) (terminals bytes)) || begins_with_zero (unary bytes))
      unfolding begins_with_zero
      no_first z = sym (ones_agree ∙ ap begins_with_zero (unary_held ∙ ap (λ (k : ℕ). take k (drop 28 (bits bytes))) z))

      pub first_is : 0 < n + 2 * m
          → not (get_or (bits bytes) 28 false)
          ≡ (not (eqb (count (unary bytes)) (terminals bytes)) || begins_with_zero (unary bytes))
      unfolding begins_with_zero used_bits
      first_is h = sym (ones_agree ∙ go (n + 2 * m) h unary_held)
        where
          inside : 28 < length (bits bytes)
          inside = let a = holds_all in rw (length_bits bytes) (omega arith)

          go : (k : ℕ) → 0 < k → unary bytes ≡ take k (drop 28 (bits bytes))
              → begins_with_zero (unary bytes) ≡ not (get_or (bits bytes) 28 false)
          go zero h e = absurd (omega arith)
          go (suc k) h e = ap begins_with_zero (e ∙ ap (take (suc k)) (drop-cons (bits bytes) 28 false inside))

  -- and rule 4 is left
  module _ {b : Bool}
      (tested : b ≡ (not (eqb (count (unary bytes)) (terminals bytes)) || begins_with_zero (unary bytes))) where
    rule_last : first_broken (order_r bytes) ≡ first_broken (last bytes)
    unfolding record_length used_bits
    rule_last =
        let n = headed.is_n in
        let m = headed.is_m in
        let n_fits = headed.n_fits in
        let m_fits = headed.m_fits in
        let s = headed.sized in
        let e : length bytes ≡ record_length (terminals bytes) (wires bytes) = s ∙ ap₂ record_length n m in
        past_2 bytes (omega arith) (omega arith) (omega arith) ∙ first_kept 3 _ (ap not (eq-eqb (length bytes) _ e))

    pub rule_4 : b ≡ true → first_broken (order_r bytes) ≡ 4
    rule_4 h = rule_last ∙ first_broken_lem 4 [] (sym tested ∙ h)

    pub headed_sound : b ≡ false → Sound bytes n m
    unfolding first_broken
    headed_sound h = sound_of bytes (rule_last ∙ first_kept 4 [] (sym tested ∙ h)) headed.is_n headed.is_m

-- ---- order R is kept, and then rule 5

pub sound_told : {bytes : List ℕ} {n m : ℕ} → Sound bytes n m
    → answered (record { n = n; m = m }) ≡ tried (order_r bytes) (sizes_of bytes)
sound_told {bytes} s =
    let sized : ℕ → ℕ → Answer Sizes = λ x y. answered (record { n = x; m = y }) in
    ap₂ sized s.is_n s.is_m ∙ untold (sizes_of bytes) s.kept

module _ (bytes : List ℕ) {s : Sizes} (e : answered s ≡ tried (order_r bytes) (sizes_of bytes)) where
  left_5 : first_broken (layout_rules bytes) ≡ first_broken ((5, spare_set bytes) ∷ [])
  unfolding layout_rules
  left_5 = append_kept (order_numbered bytes) _ (untold_back (first_broken (order_r bytes)) (sizes_of bytes) e).0

  pub layout_spare : spare_set bytes ≡ true → refused 5 ≡ tried (layout_rules bytes) (sizes_of bytes)
  layout_spare b = told (sizes_of bytes) (left_5 ∙ first_broken_lem 5 [] b)

  pub layout_kept : spare_set bytes ≡ false → answered s ≡ tried (layout_rules bytes) (sizes_of bytes)
  unfolding first_broken
  layout_kept b =
      let g = (untold_back (first_broken (order_r bytes)) (sizes_of bytes) e).1 in
      ap answered g ∙ untold (sizes_of bytes) (left_5 ∙ first_kept 5 [] b)
