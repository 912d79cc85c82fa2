-- No line of a journal is one of a session.
use Rattle.std.specs.Prelude.{slice_index_or}
use Rattle.rcv_section.proofs.Texts.{sections_are_texts}
use Rattle.rcv_look.proofs.Plain.{journals_are_plain}
use Rattle.rcv_look.proofs.sections_are_journals.Goals as goal

pub returns : goal.returns
returns c = λ session texts i few formed less. sections_are_texts texts i few (λ k d within. let it = formed k d within in journals_are_plain session (slice_index_or texts k d) it.0 it.1) less
