-- The entry is that of the book.
use Rattle.std.proofs.Common.{subst}
use Rattle.rcv_core.specs.Book.{BookView, IsOneThreadStep}
use Rattle.rcv_jobs.proofs.running.Running.next.Goals as goal

pub returns : goal.returns
returns c = subst (λ (b : BookView). IsOneThreadStep b c.next_entry.result) c.self.view_is c.next_entry.ensures.step
