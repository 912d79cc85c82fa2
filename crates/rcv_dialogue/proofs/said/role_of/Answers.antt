-- The names are the protocol's.
use Rattle.std.proofs.Common.{◌∙◌, ap}
use Rattle.rcv_tree.specs.declared.protocol.Protocol.{Protocol}
use Rattle.rcv_tree.specs.Names.{place_of}
use Rattle.rcv_dialogue.proofs.said.role_of.Goals as goal

pub returns : goal.returns
returns c = c.role_named.ensures ∙ ap (λ (p : Protocol). place_of p.roles c.args.word.now) c.protocol.ensures.value
