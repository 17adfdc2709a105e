-- `put` meets its contract: what was written is the listing.
use Rattle.std.proofs.lemmas.Result.{on_ok_weaker}
use Rattle.loomlist.proofs.Put.{put_behind}
use Rattle.loomlist.proofs.listing.put.Goals as goal

pub returns : goal.returns
returns g c = on_ok_weaker _ (λ w. put_behind w) c.write.ensures.writes
