-- By what the line says, or that it says nothing.
use Rattle.std.proofs.Common.{inl, subst, IfOk}
use Rattle.rcv_journal.specs.Recorded.{bare}
use Rattle.rcv_lines.specs.Said.{view_of}
use Rattle.rcv_lines.specs.Reading.{Takes}
use Rattle.rcv_lines.proofs.Progress.{takes_text}
use Rattle.rcv_lines.proofs.text.read_next.Goals as goal

pub returns-in-Some : goal.returns-in-Some
returns-in-Some c =
    let said = view_of c.in-Some.said in
    let says = rw c.in-Some.is at c.in_ok-said.ensures.some in
    takes_text (bare c.args.accepted.now.protocol) c.args.line.now c.args.reading.now c.take.new.self said c.take.result says (subst (λ n. IfOk c.take.result (λ taken. Takes n c.args.reading.now said taken c.take.new.self)) c.requires c.take.ensures)

pub returns-in-None : goal.returns-in-None
returns-in-None c = inl (rw c.in-None.is at c.in_ok-said.ensures.none)
