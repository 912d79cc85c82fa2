-- The line of what the guide holds.
use Rattle.std.proofs.Common.{List, subst, sym}
use Rattle.rcv_model.specs.Net.{Net}
use Rattle.rcv_model.specs.Text.{body_of}
use Rattle.rcv_model.specs.Places.{net_of}
use Rattle.rcv_points.specs.Follow.{net_in}
use Rattle.rcv_points.proofs.Whole.{same_net}
use Rattle.rcv_ledger.specs.Ledger.{AreCarried}
use Rattle.rcv_depend.specs.Logs.{AreOfEvents}
use Rattle.rcv_guide.specs.declared.numbers.Numbers.{Numbers}
use Rattle.rcv_guide.specs.Guide.{GuideView}
use Rattle.rcv_guide.specs.Line.{IsLine, IsLineIn, AreNumbered}
use Rattle.rcv_guide.proofs.Guides.{carried}
use Rattle.rcv_guide.proofs.Leaving.{logs_are, few_to_cut}
use Rattle.rcv_guide.proofs.Lines.{line_is_its, numbered}
use Rattle.rcv_guide.proofs.guide.Guide.line.Goals as goal

pub line-requires-clause-carried : goal.line-requires-clause-carried
line-requires-clause-carried c = subst (λ (net : Net). AreCarried net c.self.inside.ledger.logs c.self.inside.ledger.channels) (sym (same_net (body_of c.self.inside.accepted.protocol.body) _ c.points.result.now c.self.invariant.protocol.form c.points.ensures)) (carried c.self.invariant)

pub line-requires-clause-few : goal.line-requires-clause-few
line-requires-clause-few c = few_to_cut c.self.invariant

pub line-requires-clause-logs : goal.line-requires-clause-logs
line-requires-clause-logs c = subst (λ (net : Net). AreOfEvents net c.self.inside.ledger.logs) (sym (same_net (body_of c.self.inside.accepted.protocol.body) _ c.points.result.now c.self.invariant.protocol.form c.points.ensures)) (c.self.invariant.holds.memory.held, logs_are c.self.invariant c.self.invariant.holds.memory c.self.invariant.holds.is)

pub line-requires-clause-numbered : goal.line-requires-clause-numbered
line-requires-clause-numbered c =
    subst (λ (n : List Numbers). AreNumbered (net_in c.points.result.now) c.self.inside.ledger.logs n) (sym c.as_slice.ensures.value)
    (subst (λ (net : Net). AreNumbered net c.self.inside.ledger.logs c.self.inside.numbers.items) (sym (same_net (body_of c.self.inside.accepted.protocol.body) _ c.points.result.now c.self.invariant.protocol.form c.points.ensures)) (numbered c.self.invariant))

pub returns : goal.returns
returns c = subst (λ (g : GuideView). IsLine g c.args.saves.now c.line.result) c.self.view_is
    (line_is_its c.self.invariant c.args.saves.now c.line.result
    (subst (λ (n : List Numbers). IsLineIn (net_of (body_of c.self.inside.accepted.protocol.body)) c.self.inside.ledger.logs n c.args.saves.now c.line.result) c.as_slice.ensures.value
    (subst (λ (net : Net). IsLineIn net c.self.inside.ledger.logs c.as_slice.result.now c.args.saves.now c.line.result) (same_net (body_of c.self.inside.accepted.protocol.body) _ c.points.result.now c.self.invariant.protocol.form c.points.ensures) c.line.ensures)))
