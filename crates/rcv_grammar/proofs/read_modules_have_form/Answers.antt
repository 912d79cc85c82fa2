use Rattle.rcv_grammar.proofs.read_modules_have_form.Goals as goal

pub returns : goal.returns
returns c = Rattle.rcv_grammar.proofs.Formed.read_modules_have_form
