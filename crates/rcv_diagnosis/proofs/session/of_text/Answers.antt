-- By its first byte.
use Rattle.std.proofs.Common.{sym}
use Rattle.rcv_diagnosis.proofs.Parting.{lines_found, json_found}
use Rattle.rcv_diagnosis.proofs.session.of_text.Goals as goal

pub returns-then-is_json : goal.returns-then-is_json
returns-then-is_json c = json_found c.of_json.result c.args.setup.now c.args.text.now c.args.feeds c.is_json.result (sym c.is_json.ensures) c.if-is_json.true c.of_json.ensures

pub returns-else-is_json : goal.returns-else-is_json
returns-else-is_json c = lines_found c.of_lines.result c.args.setup.now c.args.text.now c.args.feeds c.is_json.result (sym c.is_json.ensures) c.if-is_json.false c.of_lines.ensures
