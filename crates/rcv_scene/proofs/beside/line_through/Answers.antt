-- A line if the event is undone, else none.
use Rattle.rcv_scene.proofs.Labelling.{is_struck}
use Rattle.rcv_scene.proofs.beside.line_through.Goals as goal

pub returns-then-undone : goal.returns-then-undone
returns-then-undone c =
    is_struck c.args.undone c.args.x c.args.y c.beside.result c.at.result c.at-then-undone.result c.if-undone.true c.at.ensures c.at-then-undone.ensures
