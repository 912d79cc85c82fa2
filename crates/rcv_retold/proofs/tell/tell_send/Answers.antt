-- What the guide refuses may not come.
use Rattle.std.proofs.Common.{subst}
use Rattle.rcv_guide.specs.declared.news.News.{News}
use Rattle.rcv_guide.specs.Causes.{IsCauseNotToSend}
use Rattle.rcv_retold.proofs.Refusing.{no_send}
use Rattle.rcv_retold.proofs.tell.tell_send.Goals as goal

pub returns-in-Err-clause-wrong : goal.returns-in-Err-clause-wrong
returns-in-Err-clause-wrong c = λ f room m mem may.
    no_send c.args.guide.now m mem c.args.event.now c.in-Err.field-0 room
    (subst (λ (n : News). IsCauseNotToSend c.args.guide.now n c.in-Err.field-0) c.news_of-news.ensures c.in-Err.ensures.cause) may
