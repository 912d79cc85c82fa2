-- The pieces, one after another.
use Rattle.std.proofs.Common.{◌++◌, codes, decimal, ◌∙◌, ap}
use Rattle.rcv_listing.specs.Lines.{line_of}
use Rattle.rcv_listing.proofs.Lines.{four}
use Rattle.rcv_listing.proofs.told.write_first.Goals as goal

pub returns : goal.returns
returns c = four c.args.text.now c.word.new.self c.number.new.self c.word-2.new.self c.large_number.new.self
    (codes "The choice whose first message is point ") (decimal c.args.point) (codes ", line ") (decimal (line_of c.args.table.now.lines.now c.args.point))
    c.in_ok-word.ensures.ok (c.in_ok-number.ensures.ok ∙ ap (λ n. c.word.new.self ++ decimal n) c.point.view_is) c.in_ok-word-2.ensures.ok
    (c.in_ok-large_number.ensures.ok ∙ ap (λ n. c.word-2.new.self ++ decimal n) c.line.ensures)
