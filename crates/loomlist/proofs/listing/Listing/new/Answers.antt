-- `Listing::new` meets its contract: the text fits.
use Rattle.loomlist.proofs.Fits.{listing_fits}
use Rattle.loomlist.proofs.listing.Listing.new.Goals as goal

pub invariant_of-result : goal.invariant_of-result
invariant_of-result c =
    let a = c.args in
    let asked = c.requires in
    let small = c.type_inv in
    record {
      few = asked.few;
      parents_fit = asked.parents_fit;
      counts_fit = asked.counts_fit;
      heads_fit = asked.heads_fit;
      fits = listing_fits a.visits.now a.parents.now a.counts.now a.heads.now
          (record { small = λ i. (small.visits i).fits })
          (record { small = λ i. (small.parents i).fits })
          (record { small = λ i. (small.counts i).fits })
          (record { small = λ i. (small.heads i).fits })
          _ a.loops asked.few c.ranges.loops.fits;
    }
