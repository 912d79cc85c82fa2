-- Those so far.
use Rattle.std.proofs.Common.{take}
use Rattle.rcv_fates.specs.Record.{journal_of}
use Rattle.rcv_scene.specs.Grid.{scene_of}
use Rattle.rcv_scene.specs.Told.{Adds}
use Rattle.rcv_scene.proofs.groups.add_all.Given as goal

abbrev pub invariant-loop-number : goal.invariant-loop-number
invariant-loop-number l = Adds (journal_of l.record) (scene_of l.layout) l.fn.groups.items l.groups.items (take l.number l.all)
