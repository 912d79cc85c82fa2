-- The table's value has no float.
use Rattle.std.proofs.Common.{◌≡◌, false, sym, ◌∙◌, ap, subst}
use Rattle.std.proofs.lemmas.Result.{IfOk-weaker}
use Rattle.serde_json.specs.Data.{Data}
use Rattle.serde_json.specs.Written.{has_float}
use Rattle.rcv_export.specs.Pieces.{line_of}
use Rattle.rcv_export.specs.TableJson.{table_data}
use Rattle.rcv_export.proofs.Plain.{value_whole}
use Rattle.rcv_export.proofs.Tables.{plain_table}
use Rattle.rcv_export.proofs.table.table_json.Goals as goal

pub line_of-requires : goal.line_of-requires
line_of-requires c = subst (λ (d : Data). has_float d ≡ false) (sym c.in_ok-value.ensures) (value_whole 100 (table_data c.args.accepted.now c.args.table.now) (plain_table c.args.accepted.now c.args.table.now c.protocol-protocol.ensures.accepted c.requires))

pub returns : goal.returns
returns c = IfOk-weaker c.line_of.result _ _ (λ text e. e ∙ ap line_of c.in_ok-value.ensures) c.line_of.ensures
