-- A point's label is text.
use Rattle.std.proofs.Common.{sym, subst}
use Rattle.std.specs.Str.{IsUtf8}
use Rattle.rcv_json.proofs.Words.{has_texts}
use Rattle.rcv_json.proofs.texts.label_text.Goals as goal

pub text_of-requires : goal.text_of-requires
text_of-requires c = subst IsUtf8 (sym c.label.ensures) ((has_texts c.args.setup.now c.protocol-protocol.ensures.accepted).labels c.args.point)
