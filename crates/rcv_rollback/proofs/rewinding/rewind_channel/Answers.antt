-- The channel's counts are those of what the book keeps.
use Rattle.rcv_rollback.proofs.Channels.{can_both, can_alone}
use Rattle.rcv_rollback.proofs.Stepping.{kept_run, have_stepped, going_on, moved_on, self_on}
use Rattle.rcv_rollback.proofs.rewinding.rewind_channel.Goals as goal

pub returns-then-from-to-clause-going : goal.returns-then-from-to-clause-going
returns-then-from-to-clause-going c = (self_on c.args.book.now c.args.from c.args.to c.args.half.now.items c.if-from-to.true c.requires.going).0

pub returns-then-from-to-clause-moved : goal.returns-then-from-to-clause-moved
returns-then-from-to-clause-moved c = (self_on c.args.book.now c.args.from c.args.to c.args.half.now.items c.if-from-to.true c.requires.going).1

pub rewind_between-requires-clause-pair : goal.rewind_between-requires-clause-pair
rewind_between-requires-clause-pair c = can_both c.args.book.now c.args.from c.args.to c.args.half.now.items
    c.requires.going c.requires.from c.requires.to c.if-from-to.false c.channel-put.result.1 c.channel-put.result.0
    c.channel-put.ensures.recvs c.channel-put.ensures.sends (kept_run c.args.book.now c.entries-entries.ensures.runs)

pub rewind_between-requires-clause-alone : goal.rewind_between-requires-clause-alone
rewind_between-requires-clause-alone c = λ b has lacks. can_alone c.args.book.now c.args.from c.args.to
    c.args.half.now.items c.requires.going c.requires.from c.requires.to c.if-from-to.false c.channel-put.result.1
    c.channel-put.result.0 c.channel-put.ensures.recvs c.channel-put.ensures.sends b has

pub returns-clause-going : goal.returns-clause-going
returns-clause-going c =
    let stepped = have_stepped c.args.book.now c.args.from c.args.to c.channel-put.result.1 c.channel-put.result.0
    c.args.half.now.items c.rewind_between.new.half.items c.requires.going c.requires.from c.requires.to
    c.if-from-to.false (kept_run c.args.book.now c.entries-entries.ensures.runs) c.channel-put.ensures.recvs
    c.channel-put.ensures.sends c.rewind_between.ensures in
    going_on c.args.book.now c.args.from c.args.to c.channel-put.result.1 c.args.half.now.items
    c.rewind_between.new.half.items c.requires.going c.requires.from c.requires.to c.if-from-to.false stepped

pub returns-clause-moved : goal.returns-clause-moved
returns-clause-moved c =
    let stepped = have_stepped c.args.book.now c.args.from c.args.to c.channel-put.result.1 c.channel-put.result.0
    c.args.half.now.items c.rewind_between.new.half.items c.requires.going c.requires.from c.requires.to
    c.if-from-to.false (kept_run c.args.book.now c.entries-entries.ensures.runs) c.channel-put.ensures.recvs
    c.channel-put.ensures.sends c.rewind_between.ensures in
    moved_on c.args.book.now c.args.from c.args.to c.channel-put.result.1 c.args.half.now.items
    c.rewind_between.new.half.items c.requires.going c.requires.from c.requires.to c.if-from-to.false stepped
