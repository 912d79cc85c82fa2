-- No entry without a mark is undone.
use Rattle.std.proofs.Common.{◌∙◌, ap}
use Rattle.rcv_fates.specs.Record.{RecordView}
use Rattle.rcv_fates.proofs.Recording.{no_mark}
use Rattle.rcv_fates.proofs.record.Record.is_undone.Goals as goal

pub returns-in-None : goal.returns-in-None
returns-in-None c = λ kept has. no_mark c.args.self.now kept c.args.place c.deref.result.now (c.deref.ensures.value ∙ ap (λ (r : RecordView). r.undone) c.self.view_is) c.in-None.ensures.lookup.3 has
