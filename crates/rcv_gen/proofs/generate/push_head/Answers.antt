-- Piece by piece.
use Rattle.std.proofs.Common.{◌∙◌, ◌++◌, ap, codes, string_bytes}
use Rattle.rcv_gen.specs.Generated.{head}
use Rattle.rcv_gen.proofs.Lists.{three_pieces}
use Rattle.rcv_gen.proofs.generate.push_head.Goals as goal

pub returns : goal.returns
unfolding head
returns c =
    c.in_ok-push_str-3.ensures.bytes ∙ ap (λ t. t ++ codes ") {\nrec L {\nchoice at R0 {\n") (c.in_ok-push_str-2.ensures.bytes
    ∙ ap (λ t. t ++ codes "role R0, role R1, role R2, role R3, role R4, role R5, role R6, role R7") c.in_ok-push_str.ensures.bytes)
    ∙ three_pieces (string_bytes c.args.text.now) (codes "module gen;\nglobal protocol Gen(") (codes "role R0, role R1, role R2, role R3, role R4, role R5, role R6, role R7") (codes ") {\nrec L {\nchoice at R0 {\n")
