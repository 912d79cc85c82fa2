-- The listing as JSON, which is written.
use Rattle.rcv_look.proofs.texts.points_json_answer.Goals as goal

pub returns : goal.returns
returns c = record { listing = c.in_ok-points_json.field-0; is_json = c.in_ok-points_json.ensures; lists = c.listed.ensures }
