use Rattle.std.proofs.Common.{length}
use Rattle.rcv_model.specs.Text.{body_of}
use Rattle.rcv_model.proofs.Forms.{proper}
use Rattle.rcv_accept.proofs.accepted_is_proper.Goals as goal

pub returns : goal.returns
returns c = λ protocol a. (proper (body_of protocol.body) (length protocol.roles) a.form, a.accepted.lanes_end)
