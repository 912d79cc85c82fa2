use Rattle.rcv_json.proofs.OneJson.{one_json}
use Rattle.rcv_json.proofs.journals_have_one_json.Goals as goal

pub returns : goal.returns
returns c = one_json
