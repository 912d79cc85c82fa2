-- A bundle that is too long, or its parts.
use Rattle.std.proofs.Common.{rules, arith, length, drop, ◌-◌, ◌∙◌}
use Rattle.std.proofs.lemmas.List.{length-drop, take_all}
use Rattle.rcv_look.proofs.Guided.{long_said, parted_said}
use Rattle.rcv_look.proofs.told.cut_answer.Goals as goal

pub returns-then-cut-gt-MOST_OF_BUNDLE : goal.returns-then-cut-gt-MOST_OF_BUNDLE
returns-then-cut-gt-MOST_OF_BUNDLE c = long_said c.args.input.now c.args.cut c.new.result.items c.requires.cut (omega (arith, c.if-cut-gt-MOST_OF_BUNDLE.true)) c.new.ensures.items

pub returns : goal.returns
returns c = parted_said c.bundle_answer.result c.args.input.now c.args.cut _ _ c.line_feeds-feeds.result c.requires.cut (omega (arith, c.if-cut-gt-MOST_OF_BUNDLE.false)) (search rules)
    (take_all (length c.args.input.now - c.args.cut.behind) (drop c.args.cut.behind c.args.input.now) (omega (arith, length-drop c.args.cut.behind c.args.input.now))) (c.line_feeds-feeds.ensures ∙ search rules) c.bundle_answer.ensures
