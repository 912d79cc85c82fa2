-- One line more.
use Rattle.std.proofs.Common.{rules}
use Rattle.rcv_scene.specs.Seen.{drawn_in}
use Rattle.rcv_scene.proofs.Heading.{no_lines, next_line}
use Rattle.rcv_scene.proofs.heads.add_lines.Goals as goal

pub loop-line-init : goal.loop-line-init
loop-line-init c = no_lines c.args.x c.args.top (drawn_in c.args.shapes.now)

pub loop-line-preserved : goal.loop-line-preserved
loop-line-preserved c =
    next_line c.args.x c.args.top c.loop-line.y c.further-y.result c.at.result c.args.lines.now c.loop-line.line-index _ (drawn_in c.args.shapes.now) (drawn_in c.loop-line.shapes)
    (drawn_in c.words.new.self) (search rules) c.at.ensures c.further-y.ensures c.loop-line.invariant c.in_ok-words.ensures
