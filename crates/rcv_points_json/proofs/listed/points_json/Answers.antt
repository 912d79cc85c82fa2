-- What was read is full and has names.
use Rattle.rcv_input.proofs.Formed.{is_full, has_names}
use Rattle.rcv_points_json.proofs.listed.points_json.Goals as goal

pub json_of-requires-clause-full : goal.json_of-requires-clause-full
json_of-requires-clause-full c = is_full c.args.input.now c.in-Ok.source.protocol c.in-Ok.ensures.read.text

pub json_of-requires-clause-names : goal.json_of-requires-clause-names
json_of-requires-clause-names c = has_names c.args.input.now c.in-Ok.source.protocol c.in-Ok.ensures.read.text
