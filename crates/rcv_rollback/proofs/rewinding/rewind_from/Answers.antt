-- One channel more went back.
use Rattle.std.proofs.Common.{rules, ◌≡◌}
use Rattle.rcv_session.specs.Session.{roles_of}
use Rattle.rcv_rollback.proofs.Stepping.{moved_self, moved_then, next_sender}
use Rattle.rcv_rollback.proofs.rewinding.rewind_from.Goals as goal

pub loop-to-init : goal.loop-to-init
loop-to-init c = (c.requires.going, moved_self c.args.book.now c.args.from 0 c.args.half.now.items c.requires.going)

pub loop-to-preserved : goal.loop-to-preserved
loop-to-preserved c = (
  c.rewind_channel.ensures.going,
  moved_then c.args.half.now.items c.loop-to.half.items
      c.rewind_channel.new.half.items c.loop-to.invariant.1 c.rewind_channel.ensures.moved,
)

pub returns-clause-going : goal.returns-clause-going
returns-clause-going c =
    let all : c.loop-to.to ≡ roles_of c.args.book.now.setup = search rules in
    next_sender c.args.book.now c.args.from c.loop-to.to c.loop-to.half.items all c.loop-to.invariant.0
