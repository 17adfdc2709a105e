-- `header::order_r` meets its contract: each return tells the first broken rule.
use mathlib.Core.Path.{◌∙◌, sym, ap₂}
use native.Mathlib.Omega.{arith}
use Rattle.record.specs.Record.{terminals, wires, record_length}
use Rattle.record.specs.Sized.{sizes_of}
use Rattle.record.specs.Steps.{Headed}
use Rattle.record.specs.Laws.Told.{told}
use Rattle.record.proofs.Laws.Reading.Headers.{rule_1, rule_2, rule_3, rule_4, headed_sound, sound_told}
use Rattle.record.proofs.header.order_r.Goals as goal
use Rattle.record.proofs.header.order_r.Goals.{Else-bytes-record_length}

-- rules 1 to 3 are kept
headed : (c : Else-bytes-record_length) → Headed c.args.bytes.now c.read-n.result c.read-m.result
unfolding terminals wires
headed c =
    record {
      is_n = c.read-n.ensures.0;
      is_m = c.read-m.ensures.0;
      n_fits = c.if-n-gt4096.false;
      m_fits = c.if-m-gt16384.false;
      sized = c.if-bytes-record_length.false ∙ c.record_length.ensures;
    }

pub returns-then-bytes-lt4-clause-sizes : goal.returns-then-bytes-lt4-clause-sizes
returns-then-bytes-lt4-clause-sizes c =
    let bytes = c.args.bytes.now in
    told (sizes_of bytes) (rule_1 bytes c.if-bytes-lt4.true)

pub returns-then-n-gt4096-clause-sizes : goal.returns-then-n-gt4096-clause-sizes
unfolding terminals wires
returns-then-n-gt4096-clause-sizes c =
    let bytes = c.args.bytes.now in
    told (sizes_of bytes)
    (rule_2 bytes c.if-bytes-lt4.false c.read-n.ensures.0 c.read-m.ensures.0 c.then-n-gt4096.either)

pub returns-then-bytes-record_length-clause-sizes : goal.returns-then-bytes-record_length-clause-sizes
unfolding terminals wires
returns-then-bytes-record_length-clause-sizes c =
    let bytes = c.args.bytes.now in
    let e = c.record_length.ensures ∙ ap₂ record_length c.read-n.ensures.0 c.read-m.ensures.0 in
    told (sizes_of bytes)
    (rule_3 bytes (omega arith) (omega arith) (omega arith) (λ z. c.if-bytes-record_length.true (z ∙ sym e)))

pub bad_unary-requires : goal.bad_unary-requires
bad_unary-requires c = headed (goal.at.bad_unary-requires c).Else-bytes-record_length

pub returns-then-bad_unary-clause-sizes : goal.returns-then-bad_unary-clause-sizes
returns-then-bad_unary-clause-sizes c =
    let h = headed (goal.at.returns-then-bad_unary-clause-sizes c).Else-bytes-record_length in
    told (sizes_of c.args.bytes.now) (rule_4 h c.bad_unary.ensures c.if-bad_unary.true)

pub invariant_of-result : goal.invariant_of-result
invariant_of-result c =
    let h = headed (goal.at.invariant_of-result c).Else-bytes-record_length in
    record { sound = headed_sound h c.bad_unary.ensures c.if-bad_unary.false }

pub returns-clause-sizes : goal.returns-clause-sizes
returns-clause-sizes c =
    let h = headed (goal.at.returns-clause-sizes c).Else-bytes-record_length in
    sound_told (headed_sound h c.bad_unary.ensures c.if-bad_unary.false)
