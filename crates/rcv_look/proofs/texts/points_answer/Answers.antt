-- The listing, which is written.
use Rattle.rcv_look.proofs.texts.points_answer.Goals as goal

pub returns : goal.returns
returns c = record { listing = c.in_ok-points_text.field-0; is_listing = c.in_ok-points_text.ensures; lists = c.listed.ensures }
