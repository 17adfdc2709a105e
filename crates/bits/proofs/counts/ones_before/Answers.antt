-- `counts::ones_before` meets its contract. The invariant: the ones of the words passed are counted.
use mathlib.Core.Path.{◌≡◌, ◌∙◌, ap, ap₂, sym, refl}
use Prim.Native.Nat.{ℕ, ◌+◌, ◌*◌, ◌/◌, ◌%◌}
use native.Mathlib.Omega.{arith}
use lib.ListN.{take, drop}
use Rattle.bits.specs.Bits.{bits, count}
use Rattle.bits.specs.Laws.Rank.{count_take_le, count_take_add}
use Rattle.bits.proofs.counts.ones_before.Goals as goal

pub loop-i-init : goal.loop-i-init
unfolding count
loop-i-init c = (omega arith, refl)

pub overflow_add-sum : goal.overflow_add-sum
overflow_add-sum c =
    let s = bits c.args.bytes.now in
    omega (arith, count_take_le (64 * c.loop-i.i) s)

pub loop-i-preserved : goal.loop-i-preserved
loop-i-preserved c =
    let s = bits c.args.bytes.now in
    let i = c.loop-i.i in
    let e : 64 * (i + 1) ≡ 64 * i + 64 = omega arith in
    let f : 8 * (8 * i) ≡ 64 * i = omega arith in (
      omega arith,
      ap₂ ◌+◌ c.loop-i.invariant.1
          (c.word_ones-sum.ensures.0 ∙ ap (λ (n : ℕ). count (take 64 (drop n s))) f)
          ∙ sym (ap (λ (n : ℕ). count (take n s)) e ∙ count_take_add s (64 * i) 64),
    )

pub overflow_add-result : goal.overflow_add-result
overflow_add-result c =
    let s = bits c.args.bytes.now in
    omega (arith, count_take_le (64 * c.loop-i.i) s)

pub returns : goal.returns
returns c =
    let loop = c.loop-i in
    let s = bits c.args.bytes.now in
    let n = c.args.n in
    let i = loop.i in
    let e : n ≡ 64 * i + n % 64 = omega arith in
    let f : 8 * (8 * (n / 64)) ≡ 64 * i = omega arith in
    ap₂ ◌+◌ loop.invariant.1 (c.short_ones.ensures.0 ∙ ap (λ (x : ℕ). count (take (n % 64) (drop x s))) f)
    ∙ sym (ap (λ (x : ℕ). count (take x s)) e ∙ count_take_add s (64 * i) (n % 64))
