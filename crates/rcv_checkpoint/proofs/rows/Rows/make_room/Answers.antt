-- Within the room there is room for one event more.
use Rattle.std.proofs.Common.{arith}
use Rattle.rcv_checkpoint.proofs.Stacks.{room_for_one}
use Rattle.rcv_checkpoint.proofs.rows.Rows.make_room.Goals as goal

pub returns-then-len-room-clause-ok : goal.returns-then-len-room-clause-ok
returns-then-len-room-clause-ok c =
    let lt = c.if-len-room.true in
    let len = c.len.ensures in
    room_for_one c.args.self.now c.args.room c.requires.rows c.requires.room (omega (arith, lt, len))
