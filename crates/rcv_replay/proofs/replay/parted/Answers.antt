-- The parts of the input.
use Rattle.std.proofs.Common.{rules, arith, length, drop, ◌-◌, ◌∙◌}
use Rattle.std.proofs.lemmas.List.{length-drop, take_all}
use Rattle.rcv_replay.proofs.Judging.{parted_said}
use Rattle.rcv_replay.proofs.replay.parted.Goals as goal

pub returns : goal.returns
returns c = parted_said c.of_bundle.result c.args.input.now c.args.cut _ _ c.line_feeds-feeds.result c.requires.cut (search rules)
    (take_all (length c.args.input.now - c.args.cut.behind) (drop c.args.cut.behind c.args.input.now) (omega (arith, length-drop c.args.cut.behind c.args.input.now))) (c.line_feeds-feeds.ensures ∙ search rules) c.of_bundle.ensures
