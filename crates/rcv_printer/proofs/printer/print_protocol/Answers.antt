use Rattle.std.proofs.Common.{[], ◌∙◌, sym, ap, append-nil, ◌++◌, codes}
use Rattle.rcv_model.specs.Text.{body_of}
use Rattle.rcv_printer.specs.CanonicalText.{body_text, head_line, canonical}
use Rattle.rcv_printer.proofs.printer.print_protocol.Goals as goal

pub returns : goal.returns
returns c =
    let body = body_text c.args.protocol.now.roles (codes "  ") (body_of c.args.protocol.now.body) (codes "}\n") in
    c.finish.ensures ∙ sym (append-nil _) ∙ c.in_ok-put-2.ensures [] ∙ c.in_ok-put_block.ensures _ ∙ c.in_ok-put_head.ensures _
    ∙ ap (λ name. c.put.new.text ++ head_line name c.args.protocol.now.roles body) c.as_slice.ensures
    ∙ c.in_ok-put.ensures _ ∙ c.in_ok-put_decls.ensures _ ∙ c.in_ok-put_module.ensures _
    ∙ ap (λ text. text ++ canonical c.args.protocol.now) c.new-text.ensures
