-- The listing's text: what has been written before each terminal's line.
use Rattle.std.specs.Fmt.{HasWritten, IsPlainFormatter}
use Rattle.loomlist.specs.Text.{lines}
use Rattle.loomlist.proofs.listing.ListingDisplay.fmt.Given as goal

abbrev pub invariant-loop-v : goal.invariant-loop-v
invariant-loop-v g l =
    IsPlainFormatter l.initial.f
    → HasWritten
    g.W.Write.write_str_gives
    l.initial.f
    (lines l.self.visits.now l.self.parents.now l.self.counts.now l.self.heads.now l.v)
    l.f
