-- Piece by piece.
use Rattle.std.proofs.Common.{◌∙◌, ◌++◌, ap, codes, string_bytes}
use Rattle.rcv_gen.specs.Generated.{head, messages, protocol}
use Rattle.rcv_gen.proofs.Lists.{joined}
use Rattle.rcv_gen.proofs.generate.push_protocol.Goals as goal

pub returns : goal.returns
unfolding protocol
returns c =
    c.in_ok-push_str-2.ensures.bytes ∙ ap (λ t. t ++ codes "}\n}\n}\n") (c.in_ok-push_messages-2.ensures
    ∙ ap (λ t. t ++ messages (codes "stop()") 7) (c.in_ok-push_str.ensures.bytes
    ∙ ap (λ t. t ++ codes "continue L;\n} or {\n") (c.in_ok-push_messages.ensures
    ∙ ap (λ t. t ++ messages (codes "more(Int)") 8) c.in_ok-push_head.ensures)))
    ∙ joined (string_bytes c.args.text.now) head (messages (codes "more(Int)") 8) (codes "continue L;\n} or {\n") (messages (codes "stop()") 7) (codes "}\n}\n}\n")
