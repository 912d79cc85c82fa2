use Rattle.rcv_lexer.proofs.TokenBytes.{all_lie}
use Rattle.rcv_found.proofs.Counting.{few_tokens}
use Rattle.rcv_found.proofs.finding.find_wrong.Goals as goal

pub wrong_at-requires-clause-few : goal.wrong_at-requires-clause-few
wrong_at-requires-clause-few c = few_tokens c.args.input.now c.args.part c.args.list.now c.requires.tokens

pub wrong_at-requires-clause-inside : goal.wrong_at-requires-clause-inside
wrong_at-requires-clause-inside c = all_lie c.args.input.now c.args.part c.args.list.now c.requires.tokens
