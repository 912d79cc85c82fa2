-- A role that isn't free doesn't send, nor one that is done.
use Rattle.std.proofs.Common.{◌≡◌, true, false}
use Rattle.rcv_judge.proofs.Sends.{none_to_send}
use Rattle.rcv_judge.proofs.sending.may_send.Goals as goal

pub returns-then-not-is_free : goal.returns-then-not-is_free
returns-then-not-is_free c = (
  (λ t. let wrong : false ≡ true = t in absurd (cc)),
  λ may. let yes = c.is_free.ensures.1 may.free in let no = c.if-not-is_free.true in absurd (cc),
)

pub is_chosen-requires-clause-free : goal.is_chosen-requires-clause-free
is_chosen-requires-clause-free c = c.is_free.ensures.0 (let no = c.if-not-is_free.false in cc)

pub returns-in-None : goal.returns-in-None
returns-in-None c = (
  (λ t. let wrong : false ≡ true = t in absurd (cc)),
  λ may. absurd (none_to_send c.args.book.now c.args.event.now c.in-None.ensures may),
)
