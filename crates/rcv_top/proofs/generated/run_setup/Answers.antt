-- The book that ran alone has the summary's journal.
use Rattle.std.proofs.lemmas.Result.{IfOk-weaker}
use Rattle.rcv_top.proofs.Sessions.{summed}
use Rattle.rcv_top.proofs.generated.run_setup.Goals as goal

pub returns : goal.returns
returns c =
    IfOk-weaker c.summary_of.result _ _
    (λ output said. summed c.args.number c.args.setup.now c.in_ok-book.book c.run_alone.new.self output.status output.bytes.items c.requires c.in_ok-book.ensures c.run_alone.ensures said.1 said.0)
    c.summary_of.ensures
