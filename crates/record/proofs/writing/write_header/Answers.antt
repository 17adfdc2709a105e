-- `writing::write_header` meets its contract: n and m are put behind each other.
use mathlib.Core.Path.{refl, sym}
use native.Mathlib.Omega.{arith}
use Rattle.bits.specs.Laws.Begun.{begun_put}
use Rattle.bits.specs.Laws.Digits.{length_to_bits}
use Rattle.record.specs.Record.{header_bits}
use Rattle.record.proofs.writing.write_header.Goals as goal

pub returns : goal.returns
unfolding header_bits
returns c =
    let (n, n_size) = c.write.ensures in
    let (m, m_size) = c.write-2.ensures in
    let first = begun_put c.requires.3 13 c.args.n refl (omega arith) n n_size in
    begun_put first 15 c.args.m (sym (length_to_bits 13 c.args.n)) (omega arith) m m_size
