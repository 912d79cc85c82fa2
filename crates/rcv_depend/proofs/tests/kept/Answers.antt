-- The logs are those of the events.
use Rattle.std.proofs.Common.{List, sym, subst}
use Rattle.rcv_tree.specs.declared.event.Event.{Event}
use Rattle.rcv_model.specs.Net.{Net}
use Rattle.rcv_points.specs.Follow.{net_in}
use Rattle.rcv_depend.specs.Logs.{AreFew, AreSound, AreOfEvents}
use Rattle.rcv_depend.specs.Rounds.{both_logs}
use Rattle.rcv_depend.proofs.tests.kept.Goals as goal

pub cut-requires-clause-protocol : goal.cut-requires-clause-protocol
cut-requires-clause-protocol c = subst (AreSound (net_in c.in_ok-points.points)) (sym c.in_ok-logs.ensures) (subst (λ (n : Net). AreSound n (both_logs c.args.events.now)) (sym c.in_ok-points.ensures) c.requires.sound)

pub cut-requires-clause-few : goal.cut-requires-clause-few
cut-requires-clause-few c = subst AreFew (sym c.in_ok-logs.ensures) (record { eight = c.requires.logs.eight; each = c.requires.logs.few })

pub cut-requires-clause-logs : goal.cut-requires-clause-logs
cut-requires-clause-logs c = subst (AreOfEvents (net_in c.in_ok-points.points)) (sym c.in_ok-logs.ensures) (subst (λ (n : Net). AreOfEvents n (both_logs c.args.events.now)) (sym c.in_ok-points.ensures) (c.args.events.now, c.requires.logs))
