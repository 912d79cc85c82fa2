-- The lines of the role's name.
use Rattle.std.proofs.Common.{◌∙◌, ap}
use Rattle.rcv_scene.specs.Seen.{drawn_in}
use Rattle.rcv_picture.specs.Names.{joined}
use Rattle.rcv_scene.proofs.Heading.{name_is}
use Rattle.rcv_scene.proofs.heads.add_name.Goals as goal

pub returns : goal.returns
returns c =
    name_is c.args.layout.now.setup.now c.args.role c.args.x c.args.top c.in_ok-under.under c.as_slice.result.now c.name_of.result.now
    (drawn_in c.args.shapes.now) (drawn_in c.add_lines.new.shapes) (ap joined c.as_slice.ensures.value ∙ c.in_ok-lines.ensures.whole) c.name_of.ensures c.in_ok-under.ensures
