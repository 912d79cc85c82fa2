-- The pieces, one after another.
use Rattle.std.proofs.Common.{◌++◌, codes, ◌∙◌, ap}
use Rattle.rcv_tree.specs.Names.{name_at}
use Rattle.rcv_listing.proofs.Lines.{three}
use Rattle.rcv_listing.proofs.told.write_decides.Goals as goal

pub returns : goal.returns
returns c = three c.args.text.now c.word.new.self c.word-2.new.self c.word-3.new.self
    (codes ", stands in its way. There ") (name_at c.args.table.now.roles.now c.args.role) (codes " decides.\n")
    c.in_ok-word.ensures.ok (c.in_ok-word-2.ensures.ok ∙ ap (λ l. c.word.new.self ++ l) c.name.ensures) c.in_ok-word-3.ensures.ok
