-- The Send that may come is the chosen one.
use Rattle.std.proofs.Common.{◌≡◌, true, false, subst, arith}
use Rattle.std.proofs.lemmas.Bool.Decides.{nat_tests}
use Rattle.rcv_model.specs.Journal.{MaySend}
use Rattle.rcv_model.proofs.Unique.{one_send}
use Rattle.rcv_session.specs.Session.{rules_of}
use Rattle.rcv_core.specs.Book.{state_of}
use Rattle.rcv_judge.specs.Could.{HasSender}
use Rattle.rcv_judge.proofs.Sends.{not_to_send}
use Rattle.rcv_judge.proofs.sending.is_chosen.Goals as goal

pub returns-then-ne : goal.returns-then-ne
returns-then-ne c = (
  (λ t. let wrong : false ≡ true = t in absurd (cc)),
  λ may. absurd (not_to_send c.args.book.now c.args.event.now c.args.sender c.requires.next (λ same. let f = c.if-ne.true in let g = c.ne.ensures in grind (arith, nat_tests)) may),
)

pub chosen-requires-clause-next : goal.chosen-requires-clause-next
chosen-requires-clause-next c =
    let f = c.if-ne.false in
    let g = c.ne.ensures in
    let same : c.args.sender ≡ c.args.event.now.role = grind (arith, nat_tests) in
    subst (HasSender c.args.book.now c.args.event.now.role) same c.requires.next

pub returns : goal.returns
returns c = (
  (λ t. subst (MaySend (rules_of c.args.book.now.setup) (state_of c.args.book.now)) (c.is_same_event.ensures.0 t) c.chosen.ensures.1),
  λ may. c.is_same_event.ensures.1 (one_send (rules_of c.args.book.now.setup) (state_of c.args.book.now) c.chosen.result c.args.event.now c.chosen.ensures.0 c.chosen.ensures.1 may),
)
