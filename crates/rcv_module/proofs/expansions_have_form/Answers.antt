use Rattle.rcv_module.proofs.Formed as formed
use Rattle.rcv_module.proofs.expansions_have_form.Goals as goal

pub returns : goal.returns
returns c = formed.expansions_have_form
