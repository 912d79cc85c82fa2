-- The name's front is copied.
use Rattle.std.proofs.Common.{◌∙◌, ap, length}
use Rattle.rcv_c.proofs.refusal.at_role.Goals as goal

pub returns-clause-name : goal.returns-clause-name
returns-clause-name c = record {
  count_is = ap length c.front-name.ensures.front;
  bytes_are = c.filled.ensures ∙ c.front-name.ensures.front;
}
