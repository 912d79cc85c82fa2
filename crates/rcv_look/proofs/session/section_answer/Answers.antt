-- By the bundle and the section's bytes.
use Rattle.std.proofs.Common.{rules, ◌∙◌}
use Rattle.rcv_look.proofs.Sessions.{bytes_of, section_said}
use Rattle.rcv_look.proofs.session.section_answer.Goals as goal

pub returns : goal.returns
returns c = section_said c.later_answer.result c.args.number c.args.input.now c.args.cut c.args.section _ _ c.line_feeds-feeds.result c.requires.cut c.requires.few c.requires.is (search rules)
    (bytes_of c.args.input.now c.args.cut c.args.section) (c.line_feeds-feeds.ensures ∙ search rules) c.later_answer.ensures
