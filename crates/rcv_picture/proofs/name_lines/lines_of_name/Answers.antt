-- One line more, and the last one.
use Rattle.rcv_picture.proofs.Naming.{line_taken, last_line, lines_are_name}
use Rattle.rcv_picture.proofs.name_lines.lines_of_name.Goals as goal

pub loop-rest-preserved : goal.loop-rest-preserved
loop-rest-preserved c =
    line_taken c.args.name.now c.loop-rest.rest.now c.first_line.result.1.now c.loop-rest.lines.items c.push.new.self.items c.first_line.result.0
    c.loop-rest.invariant c.loop-rest-test.true c.first_line.ensures.whole c.first_line.ensures.end c.in_ok-push.ensures.items

pub returns-clause-broken : goal.returns-clause-broken
returns-clause-broken c =
    last_line c.args.name.now c.loop-rest.lines.items c.push-2.new.self.items c.loop-rest.rest c.loop-rest.invariant c.loop-rest-test.false
    c.in_ok-push-2.ensures.items

pub returns-clause-whole : goal.returns-clause-whole
returns-clause-whole c = lines_are_name c.args.name.now c.push-2.new.self.items (returns-clause-broken c)
