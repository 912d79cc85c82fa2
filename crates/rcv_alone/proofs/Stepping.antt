-- A step that is to be made is something that is left to do; and steps one behind another are steps.
use Rattle.std.proofs.Common.{List, [], ◌∷◌, ◌++◌, inl, inr, arith}
use Rattle.rcv_tree.specs.declared.entry.Entry.{Entry}
use Rattle.rcv_tree.specs.declared.entry.Entry.TheVariants.{Send, Recv, Crash, Recover}
use Rattle.rcv_model.specs.Journal.{Rules, State, after, reading_from, IsLegal}
use Rattle.rcv_model.specs.Final.{IsStep}
use Rattle.rcv_model.proofs.Numbers.{bounded}
use Rattle.rcv_session.specs.Session.{rules_of}
use Rattle.rcv_core.specs.Book.{BookView, state_of, HasMore}
use Rattle.rcv_alone.specs.Steps.{AreSteps}

-- where a step is to be made, something is left to do
pub step_left : (book : BookView) (e : Entry) → IsLegal (rules_of book.setup) book.entries → IsStep (rules_of book.setup) (state_of book) e → HasMore book
step_left book (Send e) legal x = inr (inr (e.role, x.3.1.free.declared, x.2.0))
step_left book (Recv e) legal x = inr (inr (e.role, x.3.1.own.free.declared, x.2.0))
step_left book (Crash p) legal x = inr (inl (p, x.2, x.1.0))
step_left book (Recover p c k u) legal x =
    let count = (bounded (rules_of book.setup) book.entries legal).numbers in
    let lt = x.0.0.0 in
    inl (p, omega (arith, lt, count), x.0.0)

-- one step more
pub steps_more : (rules : Rules) (s : State) (j : List Entry) (e : Entry) → AreSteps rules s j → IsStep rules (reading_from rules s j) e → AreSteps rules s (j ++ e ∷ [])
steps_more rules s [] e are step = (step, tt)
steps_more rules s (d ∷ j) e are step = (are.0, steps_more rules (after rules s d) j e are.1 step)
