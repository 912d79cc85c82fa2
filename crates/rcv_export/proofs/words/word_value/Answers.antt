-- The ASCII bytes are text.
use Rattle.std.proofs.Common.{sym, ◌∙◌, subst}
use Rattle.std.specs.Str.{IsUtf8}
use Rattle.rcv_export.proofs.Names.{ascii_is_text}
use Rattle.rcv_export.proofs.words.word_value.Goals as goal

pub text_of-requires : goal.text_of-requires
text_of-requires c = subst IsUtf8 (sym (c.as_slice.ensures.value ∙ c.in_ok-kept.ensures)) (ascii_is_text c.args.name.now)
