-- It only fails where the bytes are no text.
use Rattle.rcv_export.proofs.Names.{is_text}
use Rattle.rcv_export.proofs.words.text_of.Goals as goal

pub unwrap-requires : goal.unwrap-requires
unwrap-requires c = is_text c.from_utf8.result _ _ _ c.from_utf8.ensures.cases (λ e fails text. fails.0 text) c.requires
