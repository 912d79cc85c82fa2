-- There is one answer to a list of symbols.
use Rattle.std.proofs.Common.{◌≡◌, arith, refl}
use Rattle.rcv_lexer.proofs.Refusing.{one_first}
use Rattle.rcv_plan.specs.declared.fault.Fault.{Fault}
use Rattle.rcv_plan.specs.declared.fault.Fault.TheVariants.{Token, Role, Twice, Range}
use Rattle.rcv_plan.specs.Refusing.{code_of, HoldsAt}
use Rattle.rcv_plan.specs.Laws.{PlansHaveOneAnswer}
use Rattle.rcv_plan.proofs.Answered.{answered, same_lines}

fault_of : (f g : Fault) → code_of f ≡ code_of g → f ≡ g
fault_of Token Token e = refl
fault_of Role Role e = refl
fault_of Twice Twice e = refl
fault_of Range Range e = refl
fault_of _ _ e = absurd (omega (arith, e))

pub plans_have_one_answer : PlansHaveOneAnswer
plans_have_one_answer = record {
  answered = answered;
  lines = same_lines;
  either = λ roles symbols lines f left r h. r.free f h.front left h.cut h.holds;
  first = λ roles symbols f g left other h i. one_first code_of (HoldsAt roles) fault_of symbols f g left other h i;
}
