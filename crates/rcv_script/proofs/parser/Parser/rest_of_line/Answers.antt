use Rattle.std.proofs.Common.{arith}
use Rattle.rcv_script.proofs.Stops.{to_end}
use Rattle.rcv_script.proofs.parser.Parser.rest_of_line.Goals as goal

pub returns-else-takes_word-clause-goes : goal.returns-else-takes_word-clause-goes
returns-else-takes_word-clause-goes c =
    let at = to_end c.args.self.now.rest c.takes_word.new.self.rest (c.takes_word.ensures.no c.if-takes_word.false) in
    rw c.in-Pick.is (grind (arith, at))
