-- JSON that says no journal.
use Rattle.std.proofs.Common.{◌+◌, refl, sym, subst}
use Rattle.rcv_tree.specs.declared.protocol.Protocol.{Protocol}
use Rattle.rcv_json_reader.specs.Reading.{IsReadAs}
use Rattle.rcv_look.proofs.Journals.{shapeless_said}
use Rattle.rcv_look.proofs.journal.json_answer.Goals as goal

pub returns-in-Err-Shape : goal.returns-in-Err-Shape
returns-in-Err-Shape c =
    shapeless_said c.malformed.result c.args.setup.now c.args.text.now c.args.feeds (c.args.feeds + 1) c.requires.json
    (λ j is. c.in-Err-Shape.ensures.shape c.in-Err-Shape.field-0-is j
    (subst (λ (p : Protocol). IsReadAs p c.args.text.now j) (sym c.accepted.ensures) is.0))
    refl c.malformed.ensures.status c.malformed.ensures.bytes
