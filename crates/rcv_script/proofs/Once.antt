-- There is one answer to a list of symbols.
use Rattle.std.proofs.Common.{◌≡◌, arith}
use Rattle.rcv_lexer.proofs.Refusing.{one_first}
use Rattle.rcv_script.specs.declared.fault.Fault.{Fault}
use Rattle.rcv_script.specs.Refusals.{code_of, HoldsAt}
use Rattle.rcv_script.specs.Laws.{ScriptsHaveOneAnswer}
use Rattle.rcv_script.proofs.Answering.{answered, one_reading}

apart : (f g : Fault) → code_of f ≡ code_of g → f ≡ g
apart f g same = grind (arith, same)

pub scripts_have_one_answer : ScriptsHaveOneAnswer
scripts_have_one_answer = record {
  answered = answered;
  either = λ roles messages symbols ss f left r h. r.free f h.front left h.cut h.holds;
  one = one_reading;
  first = λ roles messages symbols f g left other h i. one_first code_of (HoldsAt roles messages) apart symbols f g left other h i;
}
