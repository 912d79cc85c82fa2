-- The entries so far are told, and the stamps are theirs.
use Rattle.rcv_session.specs.Session.{roles_of}
use Rattle.rcv_ledger.specs.Logs.{log_at}
use Rattle.rcv_retold.specs.Retold.{with_protocol}
use Rattle.rcv_tree.specs.Lists.{lists_in}
use Rattle.rcv_retold.specs.Stamps.{AreStamps}
use Rattle.rcv_retold.proofs.Telling.{IsAt}
use Rattle.rcv_retold.proofs.retell.tell_all.Given as goal

abbrev pub invariant-loop-number : goal.invariant-loop-number
invariant-loop-number l = record {
  at : IsAt (with_protocol l.setup l.fn.guide.protocol) l.entries l.number l.guide;
  stamps : AreStamps (roles_of (with_protocol l.setup l.fn.guide.protocol)) (log_at l.guide.logs) (lists_in l.stamps.items);
}
