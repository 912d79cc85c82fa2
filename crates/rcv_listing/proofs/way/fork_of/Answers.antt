-- The first of two points or more.
use Rattle.std.proofs.Common.{arith}
use Rattle.rcv_points.specs.Follow.{net_in}
use Rattle.rcv_listing.proofs.Forking.{fork_here, fork_in_text}
use Rattle.rcv_listing.proofs.way.fork_of.Goals as goal

pub returns-then-chain_meets-clause-fork : goal.returns-then-chain_meets-clause-fork
returns-then-chain_meets-clause-fork c = fork_here (net_in c.args.points.now) c.args.role c.args.place c.args.offered.now c.index-offered-0.result
    (omega arith) c.index-offered-0.is (c.chain_meets.ensures.0 c.if-chain_meets.true)

pub returns-then-chain_meets-clause-text : goal.returns-then-chain_meets-clause-text
returns-then-chain_meets-clause-text c =
    fork_in_text (net_in c.args.points.now) c.args.role c.args.place c.args.offered.now c.index-offered-0.result c.requires.text
    (returns-then-chain_meets-clause-fork c)
