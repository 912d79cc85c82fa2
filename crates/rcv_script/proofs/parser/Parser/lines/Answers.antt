use Rattle.std.proofs.Common.{arith}
use Rattle.rcv_script.proofs.Stops.{to_line}
use Rattle.rcv_script.proofs.parser.Parser.lines.Goals as goal

pub returns-in_err-line-clause-goes : goal.returns-in_err-line-clause-goes
returns-in_err-line-clause-goes c =
    let at = to_line c.loop-self.writing c.loop-self.self.rest c.takes.new.self.rest (c.takes.ensures.no c.loop-self-test.true) in
    grind (arith, at)
