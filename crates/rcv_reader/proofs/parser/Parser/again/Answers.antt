use Rattle.std.proofs.Common.{◌∷◌, arith}
use Rattle.std.proofs.lemmas.Grind.{common_steps}
use Rattle.rcv_machine.specs.Words.{Semicolon, Is, This}
use Rattle.rcv_reader.proofs.Stops.{halts_behind}
use Rattle.rcv_reader.proofs.parser.Parser.again.Goals as goal

pub returns-in_err-expect-clause-goes : goal.returns-in_err-expect-clause-goes
returns-in_err-expect-clause-goes c =
    halts_behind _ _ _ c.go_to.new.self _ _ (λ k. This (Is Semicolon) ∷ k) (λ k. k) _ c.from_residual.ensures.1 c.in_err-expect.ensures.goes
    (λ k. grind (arith, common_steps))
