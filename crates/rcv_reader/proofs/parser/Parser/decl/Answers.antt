use Rattle.std.proofs.Common.{◌∷◌, ◌∙◌, codes}
use Rattle.rcv_machine.specs.Words.{Word, This, Alias}
use Rattle.rcv_reader.proofs.Stops.{halts_behind}
use Rattle.rcv_reader.proofs.parser.Parser.decl.Goals as goal

pub returns-in_err-alias-clause-goes : goal.returns-in_err-alias-clause-goes
returns-in_err-alias-clause-goes c = λ names has.
    (halts_behind _ _ _ _ _ _ (λ k. This (Word (codes "as")) ∷ Alias names ∷ k) (λ k. k) _ c.from_residual-in_err-alias.ensures.1
    (c.in_err-alias.ensures.goes names has)
    (λ k. c.in_ok-word.ensures.goes names _ ∙ c.in_ok-name_behind.ensures.goes _ ∙ c.in_ok-extern_name.ensures.goes _
    ∙ c.in_ok-file.ensures.goes _)).0
