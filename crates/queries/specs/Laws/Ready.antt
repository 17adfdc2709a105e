-- A record and the index that Build wrote for it pass order R and rule 10.
use Rattle.std.specs.Prelude.{◌≡◌, List, ℕ, ◌-◌, length}
use Rattle.std.proofs.Common.{sym, ap, ap₂, ◌∙◌}
use Rattle.record.specs.Laws.Sounded.{sound_of, accepted_sound}
use Rattle.forest.specs.Index.{index_length}
use Rattle.queries.specs.Steps.{Beside}
use Rattle.queries.specs.Filling.{Ready}
use Rattle.queries.specs.Laws.Built.{built_length}

pub ready_beside : {bytes index : List ℕ} {n m : ℕ} → Ready bytes index n m → Beside bytes index n m
ready_beside {bytes} {index} {n} {m} r =
    let a = r.written.accepted in
    let o = sound_of bytes (accepted_sound a).kept r.is_n r.is_m in
    let l : length index ≡ index_length n m =
    ap length r.written.is
    ∙ built_length a (r.written.start - 1)
    ∙ ap₂ index_length (sym r.is_n) (sym r.is_m) in
    record { sound = o; framed = record { n_fits = o.n_fits; m_fits = o.m_fits; sized = l } }
