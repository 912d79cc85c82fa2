-- Both logs are those of their roles.
use Rattle.std.proofs.Common.{◌≡◌, sym, ◌∙◌, subst}
use Rattle.std.specs.Prelude.{slice_index_or}
use Rattle.rcv_points.specs.Follow.{net_in}
use Rattle.rcv_depend.specs.Logs.{IsSoundLog}
use Rattle.rcv_depend.proofs.Reading.{log_read}
use Rattle.rcv_depend.proofs.lists.LogsEventLogs.counts.Goals as goal

pub put_by-put-requires : goal.put_by-put-requires
put_by-put-requires c =
    let is = subst (λ r. c.index.result.now ≡ slice_index_or c.args.self.now.items r c.index.result.now) c.from.view_is c.index.ensures in
    subst (IsSoundLog (net_in c.args.points.now) c.args.from) (log_read c.args.self.now.items c.args.from c.index.result.now c.requires.roles.0 is ∙ sym c.deref.ensures.value) (c.requires.protocol c.args.from)

pub taken_by-taken-requires : goal.taken_by-taken-requires
taken_by-taken-requires c =
    let is = subst (λ r. c.index-2.result.now ≡ slice_index_or c.args.self.now.items r c.index-2.result.now) c.to.view_is c.index-2.ensures in
    subst (IsSoundLog (net_in c.args.points.now) c.args.to) (log_read c.args.self.now.items c.args.to c.index-2.result.now c.requires.roles.1 is ∙ sym c.deref-2.ensures.value) (c.requires.protocol c.args.to)
