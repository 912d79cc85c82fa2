use Rattle.rcv_script.proofs.parser.Parser.leaf.Goals as goal

pub returns-in-Err-clause-goes : goal.returns-in-Err-clause-goes
returns-in-Err-clause-goes c = λ depth minus left k. c.in-Err.ensures.err depth k _ _ c.in-Some-word.ensures.some
