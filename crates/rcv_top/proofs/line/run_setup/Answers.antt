-- The book that ran alone has the line's journal.
use Rattle.std.proofs.lemmas.Result.{IfOk-weaker}
use Rattle.rcv_top.proofs.Sessions.{lined}
use Rattle.rcv_top.proofs.line.run_setup.Goals as goal

pub returns : goal.returns
returns c =
    IfOk-weaker c.line_of.result _ _
    (λ output said. lined c.args.setup.now c.in_ok-book.book c.run_alone.new.self output.status output.bytes.items c.requires c.in_ok-book.ensures c.run_alone.ensures said.1 said.0)
    c.line_of.ensures
