-- One text there.
use Rattle.rcv_scene.specs.Seen.{drawn_in}
use Rattle.rcv_scene.proofs.Heading.{host_named}
use Rattle.rcv_scene.proofs.heads.add_host_name.Goals as goal

pub returns : goal.returns
returns c =
    host_named c.args.place c.as_slice.result.now c.in_ok-words.words.items (drawn_in c.args.shapes.now) (drawn_in c.text.new.self)
    c.in_ok-words.ensures c.in_ok-text.ensures
