-- What the guide refuses may not come.
use Rattle.std.proofs.Common.{ℕ, ap, subst}
use Rattle.rcv_tree.specs.declared.event.Event.{Event}
use Rattle.rcv_guide.specs.declared.news.News.{News}
use Rattle.rcv_guide.specs.Causes.{IsCauseNotToReceive}
use Rattle.rcv_retold.proofs.Refusing.{no_recv}
use Rattle.rcv_retold.proofs.tell.tell_recv.Goals as goal

pub returns-in-Err-clause-wrong : goal.returns-in-Err-clause-wrong
returns-in-Err-clause-wrong c = λ f room m mem may.
    no_recv c.args.guide.now m mem c.args.event.now c.in-Err.field-0 room
    (subst (λ (n : News). IsCauseNotToReceive c.args.guide.now n c.args.event.now.sent c.in-Err.field-0) c.news_of-news.ensures
    (subst (λ (s : ℕ). IsCauseNotToReceive c.args.guide.now c.news_of-news.result s c.in-Err.field-0) (ap (λ (e : Event). e.sent) c.event.view_is) c.in-Err.ensures.cause)) may
