-- Half of what is left is taken away, as stamps grow along the kept events of a role.
use Rattle.std.proofs.Common.{◌+◌, ◌-◌, ◌/◌, ◌∙◌, arith}
use Rattle.rcv_model.proofs.Bystanders.{as_many}
use Rattle.rcv_model.specs.Journal.{events_of}
use Rattle.rcv_session.specs.Session.{rules_of}
use Rattle.rcv_core.specs.Book.{state_of}
use Rattle.rcv_fates.proofs.Rising.{rising_kept, wide, raised, lowered, narrow}
use Rattle.rcv_fates.proofs.kept.number_of.Goals as goal

pub loop-low-init : goal.loop-low-init
loop-low-init c = wide (events_of c.args.role (state_of c.args.book.now).kept) c.args.stamp c.kept-high.result (c.kept-high.ensures ∙ as_many c.args.role (state_of c.args.book.now).kept)

pub event-requires-clause-number : goal.event-requires-clause-number
event-requires-clause-number c =
    let all = as_many c.args.role (state_of c.args.book.now).kept in
    let high = c.loop-low.invariant.within in
    let test = c.loop-low-test.true in
    omega (arith, all, high, test)

pub loop-low-preserved-then-event-stamp : goal.loop-low-preserved-then-event-stamp
loop-low-preserved-then-event-stamp c =
    let rising = rising_kept (rules_of c.args.book.now.setup) c.args.book.now.entries c.entries-entries.ensures.legal in
    let test = c.loop-low-test.true in
    raised c.args.role (state_of c.args.book.now).kept c.args.stamp c.loop-low.low c.loop-low.high (c.loop-low.low + (c.loop-low.high - c.loop-low.low) / 2) c.event.result.now rising c.loop-low.invariant (omega (arith, test)) c.event.ensures c.if-event-stamp.true

pub loop-low-preserved : goal.loop-low-preserved
loop-low-preserved c =
    let rising = rising_kept (rules_of c.args.book.now.setup) c.args.book.now.entries c.entries-entries.ensures.legal in
    let test = c.loop-low-test.true in
    let over = c.if-event-stamp.false in
    lowered c.args.role (state_of c.args.book.now).kept c.args.stamp c.loop-low.low c.loop-low.high (c.loop-low.low + (c.loop-low.high - c.loop-low.low) / 2) c.event.result.now rising c.loop-low.invariant (omega arith) (omega (arith, test)) c.event.ensures (omega (arith, over))

pub returns : goal.returns
returns c =
    let rising = rising_kept (rules_of c.args.book.now.setup) c.args.book.now.entries c.entries-entries.ensures.legal in
    let over = c.loop-low-test.false in
    narrow c.args.role (state_of c.args.book.now).kept c.args.stamp c.loop-low.low c.loop-low.high rising c.loop-low.invariant (omega (arith, over))
