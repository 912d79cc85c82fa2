-- One more is said.
use Rattle.std.proofs.Common.{rules}
use Rattle.rcv_fates.specs.Record.{journal_of}
use Rattle.rcv_scene.specs.Grid.{scene_of}
use Rattle.rcv_scene.proofs.Telling.{next_of_all}
use Rattle.rcv_scene.proofs.groups.add_all.Goals as goal

pub loop-number-preserved : goal.loop-number-preserved
loop-number-preserved c =
    next_of_all (journal_of c.args.record.now) (scene_of c.args.layout.now) c.args.groups.now.items c.loop-number.groups.items c.add_one.new.groups.items c.args.all.now
    c.loop-number.number _ (search rules) (search rules) c.loop-number.invariant (c.in_ok-add_one.ensures (scene_of c.args.layout.now) c.in_ok-shapes.ensures)
