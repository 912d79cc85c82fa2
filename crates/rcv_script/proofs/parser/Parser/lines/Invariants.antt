use Rattle.std.proofs.Common.{◌≡◌, ◌≤◌, List, length}
use Rattle.rcv_model.specs.Script.{Line}
use Rattle.rcv_script.specs.declared.sign.Sign.TheVariants.{Open}
use Rattle.rcv_script.specs.Symbols.{Is}
use Rattle.rcv_script.specs.Machine.{Item, This, Lines, begun, answer}
use Rattle.rcv_script.proofs.parser.Parser.lines.Given as goal

abbrev pub invariant-loop-self : goal.invariant-loop-self
invariant-loop-self l = record {
  goes : (k : List Line → Item)
      → answer (This (Is Open) (Lines (begun l.points.messages l.role) k)) l.fn.self.rest ≡ answer (Lines l.writing k) l.self.rest;
  shorter : length l.self.rest ≤ length l.fn.self.rest;
}

abbrev pub decreases-loop-self : goal.decreases-loop-self
decreases-loop-self l = length l.self.rest
