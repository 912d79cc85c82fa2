-- What is counted with one event fewer.
use Rattle.std.proofs.Common.{◌-◌, sym, ◌∙◌, ap, subst}
use Rattle.std.specs.Prelude.{slice_index, slice_set}
use Rattle.rcv_points.specs.Follow.{net_in}
use Rattle.rcv_depend.specs.Logs.{between}
use Rattle.rcv_depend.specs.Cuts.{AreCounted}
use Rattle.rcv_depend.proofs.Lowering.{mark_in_net, sent_lowered, got_lowered}
use Rattle.rcv_depend.proofs.cut.Counted.lower.Goals as goal

pub receiver-requires-clause-first : goal.receiver-requires-clause-first
receiver-requires-clause-first g c = (mark_in_net (net_in c.args.points.now) (g.L.EventLogs.logs c.args.logs.now) c.args.role _ c.mark_at-mark.result c.requires.sound c.mark_at-mark.ensures).first

pub receiver-requires-clause-last : goal.receiver-requires-clause-last
receiver-requires-clause-last g c = (mark_in_net (net_in c.args.points.now) (g.L.EventLogs.logs c.args.logs.now) c.args.role _ c.mark_at-mark.result c.requires.sound c.mark_at-mark.ensures).last

pub sender-requires-clause-first : goal.sender-requires-clause-first
sender-requires-clause-first g c = (mark_in_net (net_in c.args.points.now) (g.L.EventLogs.logs c.args.logs.now) c.args.role _ c.mark_at-mark.result c.requires.sound c.mark_at-mark.ensures).first

pub sender-requires-clause-last : goal.sender-requires-clause-last
sender-requires-clause-last g c = (mark_in_net (net_in c.args.points.now) (g.L.EventLogs.logs c.args.logs.now) c.args.role _ c.mark_at-mark.result c.requires.sound c.mark_at-mark.ensures).last

pub returns-in-Sent-clause-counted : goal.returns-in-Sent-clause-counted
returns-in-Sent-clause-counted g c =
    let logs = g.L.EventLogs.logs c.args.logs.now in
    let net = net_in c.args.points.now in
    let has = c.mark_at-mark.ensures in
    let own = (c.requires.sound c.args.role _ has.event has.there).role in
    subst (λ put. AreCounted net logs (slice_set c.args.self.now.counts c.args.role (slice_index c.args.self.now.counts c.args.role - 1)) put c.args.self.now.taken) (sym c.take_one.ensures)
    (sent_lowered net logs c.args.self.now.counts c.args.role has.event c.requires.few c.requires.sound c.requires.role c.requires.some has.there c.requires.counted.eight c.args.self.now.put c.args.self.now.taken c.requires.counted c.receiver.result _
    (sym has.own.dir ∙ c.in-Sent.is) (c.receiver.ensures ∙ ap net.receiver has.own.point) (ap (λ r. between r c.receiver.result) (sym own)))

pub returns-in-Got-clause-counted : goal.returns-in-Got-clause-counted
returns-in-Got-clause-counted g c =
    let logs = g.L.EventLogs.logs c.args.logs.now in
    let net = net_in c.args.points.now in
    let has = c.mark_at-mark.ensures in
    let own = (c.requires.sound c.args.role _ has.event has.there).role in
    subst (AreCounted net logs (slice_set c.args.self.now.counts c.args.role (slice_index c.args.self.now.counts c.args.role - 1)) c.args.self.now.put) (sym c.take_one-in-Got.ensures)
    (got_lowered net logs c.args.self.now.counts c.args.role has.event c.requires.few c.requires.sound c.requires.role c.requires.some has.there c.requires.counted.eight c.args.self.now.put c.args.self.now.taken c.requires.counted c.sender.result _
    (sym has.own.dir ∙ c.in-Got.is) (c.sender.ensures ∙ ap net.sender has.own.point) (ap (between c.sender.result) (sym own)))
