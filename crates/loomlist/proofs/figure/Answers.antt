-- `figure` meets its contract.
use Rattle.loomlist.proofs.Figured.{figure_asked, figure_given}
use Rattle.loomlist.proofs.figure.Goals as goal

pub returns : goal.returns
returns c =
    let l = c.args.layout.now in
    figure_given l.sound c.requires.accepted c.requires.written c.loops_by.ensures

pub loops_by-requires : goal.loops_by-requires
loops_by-requires c =
    let l = c.args.layout.now in
    figure_asked l.sound c.requires.accepted c.requires.written
