-- What is told of the code.
use Rattle.rcv_look.proofs.Pictures.{explained_said, no_rule_said}
use Rattle.rcv_look.proofs.texts.explain_answer.Goals as goal

pub returns-in-Some : goal.returns-in-Some
returns-in-Some c = explained_said c.args.code c.short.result c.in_ok-told.told c.in-Some.bytes c.short.ensures c.in-Some.is c.in_ok-told.ensures

pub returns-in-None : goal.returns-in-None
returns-in-None c = no_rule_said c.no_rule.result c.args.code c.short.result c.in_ok-told.told c.short.ensures c.in-None.is c.in_ok-told.ensures c.no_rule.ensures.status c.no_rule.ensures.bytes
