-- The point is the one that was read.
use Rattle.std.proofs.Common.{◌∙◌, ℕ, ap, sym}
use Rattle.rcv_session.specs.Session.{net_for}
use Rattle.rcv_journal.specs.Recorded.{bare}
use Rattle.rcv_lines.proofs.events.event_of.Goals as goal

pub returns-then-not-is_same-clause-none : goal.returns-then-not-is_same-clause-none
returns-then-not-is_same-clause-none c = λ e formed says.
    let same = c.in_ok-point.ensures.only e.point formed.named.last says.point in
    c.is_same.ensures.no c.if-not-is_same.true (says.label ∙ ap (λ (p : ℕ). (net_for (bare c.args.accepted.now.protocol)).label p) same ∙ sym c.label.ensures)
