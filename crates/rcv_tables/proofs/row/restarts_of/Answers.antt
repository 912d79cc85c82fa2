-- Another role restarts at the points that it receives among those that are marked first.
use Rattle.std.proofs.Common.{◌≡◌, ℕ, arith}
use Rattle.std.specs.declared.alloc.Global.{Global}
use Rattle.std.specs.declared.vec.Vec.{Vec}
use Rattle.rcv_model.specs.Table.{AreRestarts}
use Rattle.rcv_tables.specs.Starts.{AreReceived}
use Rattle.std.proofs.lemmas.Result.{IfOk-weaker}
use Rattle.std.proofs.lemmas.Bool.Decides.{nat_tests}
use Rattle.rcv_points.specs.Follow.{net_in}
use Rattle.rcv_tables.proofs.Restarting.{other_restarts}
use Rattle.rcv_tables.proofs.row.restarts_of.Goals as goal

pub received-requires-clause-text : goal.received-requires-clause-text
received-requires-clause-text c z i = let a = c.requires.marked.2.sound z i in (a.0, a.1)

pub received-requires-clause-ascending : goal.received-requires-clause-ascending
received-requires-clause-ascending c = c.requires.marked.2.ascending

pub returns-else-eq : goal.returns-else-eq
returns-else-eq c =
    let apart : c.args.other ≡ c.args.role → ⊥ = (λ s. let f = c.if-eq.false in let g = c.eq.ensures in absurd (grind (arith, nat_tests))) in
    IfOk-weaker c.received.result (λ (found : Vec ℕ Global). AreReceived (net_in c.args.points.now) c.args.marked.now c.args.other found.items) (λ (found : Vec ℕ Global). AreRestarts (net_in c.args.points.now) c.args.role c.args.point c.args.other found.items) (λ found are. other_restarts (net_in c.args.points.now) c.requires.lanes c.args.role c.args.point c.args.other c.requires.marked.0 c.args.marked.now found.items c.count.ensures.within.proper c.count.ensures.within.few apart c.requires.start c.requires.marked.1 c.requires.marked.2 are) c.received.ensures
