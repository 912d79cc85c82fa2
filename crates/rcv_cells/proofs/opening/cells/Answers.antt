-- New cells at the ends of new channels are at home.
use Rattle.rcv_cells.proofs.Starting.{start_home, start_bases}
use Rattle.rcv_cells.proofs.opening.cells.Goals as goal

pub returns-clause-home : goal.returns-clause-home
returns-clause-home c =
    start_home c.args.setup.now c.in_ok-all.all.items c.in_ok-cells.cells.items c.in_ok-all.ensures c.in_ok-cells.ensures

pub returns-clause-bases : goal.returns-clause-bases
returns-clause-bases c = start_bases c.args.setup.now c.in_ok-all.all.items c.in_ok-cells.cells.items c.in_ok-cells.ensures
