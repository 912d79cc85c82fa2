-- At the end the steps of one thread are its journal.
use Rattle.std.proofs.Common.{rules, subst}
use Rattle.rcv_core.specs.Book.{BookView}
use Rattle.rcv_jobs.specs.Texts.{IsAloneText}
use Rattle.rcv_jobs.proofs.Stepping.{is_written}
use Rattle.rcv_jobs.proofs.running.Running.write.Goals as goal

pub returns-clause-text : goal.returns-clause-text
returns-clause-text c =
    subst (λ (b : BookView). IsAloneText b.setup c.args.json c.all_done-completed.result c.in_ok-text.text.items) c.self.view_is
    (is_written c.self.inside.book c.self.inside.skip c.args.json c.all_done-completed.result c.in_ok-text.text.items c.self.invariant c.entries-entries.ensures.legal (search rules)
    c.all_done-completed.ensures.value c.all_done-completed.ensures.limit c.in_ok-text.ensures)
