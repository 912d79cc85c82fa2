use Rattle.std.proofs.Common.{◌≡◌, length}
use Rattle.rcv_script.specs.Machine.{Scripts, awaited, answer}
use Rattle.rcv_script.proofs.parser.Parser.scripts.Given as goal

abbrev pub invariant-loop-self : goal.invariant-loop-self
invariant-loop-self l = record {
  goes : answer (awaited l.roles l.points.messages) l.fn.self.rest ≡ answer (Scripts (record {
    roles = l.roles;
    messages = l.points.messages;
    scripts = l.scripts.items;
    given = l.given.items;
  })) l.self.rest;
  sized : length l.scripts.items ≡ length l.roles;
}

abbrev pub decreases-loop-self : goal.decreases-loop-self
decreases-loop-self l = length l.self.rest
