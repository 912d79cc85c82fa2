use Rattle.std.proofs.Common.{[], ◌∷◌, false, true, refl, sym, ap, subst, ◌∙◌, arith}
use Rattle.std.proofs.lemmas.Grind.{common_steps}
use Rattle.rcv_machine.specs.Words.{At, Left, Semicolon, From, Choice, Rec, Continue, Do, Place, Is, Word, This, AnyName, Argument, Sorts, Sender, Subject, RecName, AgainName, Opening, Rest, More, after_statement}
use Rattle.rcv_reader.specs.Descent.{Standing, named_in, place_of_spot}
use Rattle.rcv_reader.proofs.Blocks.{rec_read, choice_next, choice_read, IsBeside, lane_opens, par_first, par_next, par_read, par_statement, block_read, stmts_next, statement}
use Rattle.rcv_reader.proofs.parser.Parser.+descent.Goals as goal

pub block-returns-clause-read : goal.block-returns-clause-read
block-returns-clause-read t c =
    block_read _ _ _ c.stmts.new.self c.stmts.new.block _ _ c.in_ok-open.ensures.read.0 c.new-block.ensures c.in_ok-stmt.ensures.read
    c.in_ok-stmts.ensures.read

pub choice-loop-branches-preserved : goal.choice-loop-branches-preserved
choice-loop-branches-preserved t c =
    choice_next _ _ _ _ _ _ _ _ c.in_ok-block.field-0 c.loop-branches.invariant c.in_ok-block.ensures.goes.0 c.in_ok-block.ensures.read
    c.in_ok-push.ensures.ok c.in_ok-block.ensures.goes.1 (c.takes.ensures.yes c.if-not-takes.false)

pub choice-returns-clause-read : goal.choice-returns-clause-read
choice-returns-clause-read t c =
    choice_read _ _ _ _ _ _ _ c.push.new.self c.in_ok-block.field-0 _ _ c.loop-branches.invariant c.in_ok-block.ensures.read
    c.in_ok-push.ensures.ok c.in_ok-block.ensures.goes.1 (c.takes.ensures.no c.if-not-takes.true).0 c.in_ok-push-2.ensures.ok

pub lane-returns-clause-goes : goal.lane-returns-clause-goes
lane-returns-clause-goes t c =
    lane_opens _ _ _ c.args.spot c.beside.result
    (subst (λ (x : Standing). IsBeside c.args.spot c.beside.result x.since) c.block.view_is c.beside.ensures.place) c.block-2.ensures.goes

pub par-loop-blocks-init : goal.par-loop-blocks-init
par-loop-blocks-init t c =
    par_first _ _ _ _ _ _ c.in_ok-lane.field-0 c.in_ok-lane.ensures.goes.0 c.in_ok-lane.ensures.read c.new-blocks.ensures
    c.in_ok-push.ensures.ok c.in_ok-lane.ensures.goes.1 c.in_ok-expect.ensures.read

pub par-loop-blocks-preserved : goal.par-loop-blocks-preserved
par-loop-blocks-preserved t c =
    par_next _ _ _ _ _ _ _ c.in_ok-lane-2.field-0 c.loop-blocks.invariant c.in_ok-lane-2.ensures.goes.0 c.in_ok-lane-2.ensures.read
    c.in_ok-push-2.ensures.ok c.in_ok-lane-2.ensures.goes.1 (c.takes.ensures.yes c.if-not-takes.false)

pub par-returns-clause-read : goal.par-returns-clause-read
par-returns-clause-read t c =
    par_read _ _ _ _ _ _ c.push-in-loop-blocks.new.self c.in_ok-lane-2.field-0 _ _ c.loop-blocks.invariant c.in_ok-lane-2.ensures.read
    c.in_ok-push-2.ensures.ok (c.takes.ensures.no c.if-not-takes.true).0 c.in_ok-push-3.ensures.ok

pub recursion-returns-clause-read : goal.recursion-returns-clause-read
recursion-returns-clause-read t c =
    rec_read _ _ _ _ _ c.in_ok-body.body _ _ c.in_ok-enter.ensures.read c.in_ok-body.ensures.read c.leave-name.ensures c.in_ok-push.ensures.ok

pub stmts-loop-alloc-preserved : goal.stmts-loop-alloc-preserved
stmts-loop-alloc-preserved t c =
    let over = c.takes.ensures.no c.loop-alloc-test.true in
    stmts_next _ _ _ _ _ _ _ _ _ _ c.loop-alloc.invariant over.0 over.1 c.in_ok-stmt.ensures.goes.0 c.in_ok-stmt.ensures.read c.stmt.ensures.start
    c.in_ok-stmt.ensures.goes.1

pub stmt-returns-in-Some-Word-default-clause-goes : goal.stmt-returns-in-Some-Word-default-clause-goes
stmt-returns-in-Some-Word-default-clause-goes t c =
    let arm = c.in-Some-Word-default in
    let new = c.go_to.new.self in
    statement _ c.args.spot.now.ended c.args.self.now new c.message.new.self c.args.spot.now (Word arm.label.now)
    (λ k. This (Is Left) ∷ Sorts ∷ This (Is From) ∷ Sender (named_in new.roles c.args.spot.now.earlier.0) ∷ k) (λ k. Rest (after_statement (place_of_spot new c.args.spot.now) false) ∷ k)
    (λ k. k) _ _ c.message.ensures.goes (c.go_to.ensures.taken _ (rw arm.field-0-0-is at arm.ensures.some))
    (λ k. rw c.if-here.false refl) c.message.ensures.read
    (λ e k. rw c.if-here.false (ap (λ (x : Place). Rest (after_statement x false) ∷ k) e))

pub stmt-returns-in-Some-Is-Choice-default-clause-goes : goal.stmt-returns-in-Some-Is-Choice-default-clause-goes
stmt-returns-in-Some-Is-Choice-default-clause-goes t c =
    let arm = c.in-Some-Is-Choice-default in
    let new = c.go_to-in-Some-Is-Choice-default.new.self in
    let p = place_of_spot new c.args.spot.now in
    statement _ c.args.spot.now.ended c.args.self.now new c.choice.new.self c.args.spot.now (Is Choice) (λ k. This (Is At) ∷ Subject p.earlier ∷ Opening p ∷ More p ∷ k) (λ k. k)
    (λ k. Rest (after_statement (place_of_spot c.choice.new.self c.args.spot.now) false) ∷ k) _ _ c.choice.ensures.goes
    (c.go_to-in-Some-Is-Choice-default.ensures.taken _ (rw (arm.field-0-0-is, arm.field-0-0-0-is) at arm.ensures.some))
    (λ k. rw c.if-here.false refl) c.choice.ensures.read (λ e k. rw c.if-here.false refl)

pub stmt-returns-in-Some-Is-Rec-default-clause-goes : goal.stmt-returns-in-Some-Is-Rec-default-clause-goes
stmt-returns-in-Some-Is-Rec-default-clause-goes t c =
    let arm = c.in-Some-Is-Rec-default in
    let new = c.go_to-in-Some-Is-Rec-default.new.self in
    let p = place_of_spot new c.args.spot.now in
    statement _ c.args.spot.now.ended c.args.self.now new c.recursion.new.self c.args.spot.now (Is Rec) (λ k. RecName p ∷ k) (λ k. Rest (after_statement p false) ∷ k)
    (λ k. k) _ _ c.recursion.ensures.goes (c.go_to-in-Some-Is-Rec-default.ensures.taken _ (rw (arm.field-0-0-is, arm.field-0-0-0-is) at arm.ensures.some))
    (λ k. rw c.if-here.false refl) c.recursion.ensures.read
    (λ e k. rw c.if-here.false (ap (λ (x : Place). Rest (after_statement x false) ∷ k) e))

pub stmt-returns-else-is_unguarded-clause-goes : goal.stmt-returns-else-is_unguarded-clause-goes
stmt-returns-else-is_unguarded-clause-goes t c =
    let arm = c.in-Some-Is-Continue-default in
    let new = c.go_to-in-Some-Is-Continue-default.new.self in
    let p = place_of_spot new c.args.spot.now in
    statement _ true c.args.self.now new c.again.new.self c.args.spot.now (Is Continue) (λ k. AgainName p ∷ k) (λ k. Rest (after_statement p true) ∷ k)
    (λ k. k) _ _ c.again.ensures.goes (c.go_to-in-Some-Is-Continue-default.ensures.taken _ (rw (arm.field-0-0-is, arm.field-0-0-0-is) at arm.ensures.some))
    (λ k. grind (arith, common_steps)) c.again.ensures.read (λ e k. ap (λ (x : Place). Rest (after_statement x true) ∷ k) e)

pub stmt-returns-else-is_inner-clause-goes : goal.stmt-returns-else-is_inner-clause-goes
stmt-returns-else-is_inner-clause-goes t c =
    let arm = c.in-Some-Is-Par-default in
    par_statement _ c.args.spot.now.ended c.args.self.now c.begin_par.new.self c.par.new.self c.args.spot.now arm.after c.par.ensures.goes
    (rw (arm.field-0-0-is, arm.field-0-0-0-is) at arm.ensures.some) c.begin_par.ensures c.if-here.false
    (sym c.is_inner.ensures ∙ c.if-is_inner.false) c.if-here.false

pub stmt-returns-in-Some-Is-Do-default-clause-goes : goal.stmt-returns-in-Some-Is-Do-default-clause-goes
stmt-returns-in-Some-Is-Do-default-clause-goes t c =
    let arm = c.in-Some-Is-Do-default in
    let new = c.go_to-in-Some-Is-Do-default.new.self in
    let p = place_of_spot new c.args.spot.now in
    statement _ c.args.spot.now.ended c.args.self.now new c.call.new.self c.args.spot.now (Is Do)
    (λ k. AnyName ∷ This (Is Left) ∷ Argument p.earlier [] ∷ This (Is Semicolon) ∷ k) (λ k. Rest (after_statement p false) ∷ k)
    (λ k. k) _ _ c.call.ensures.goes (c.go_to-in-Some-Is-Do-default.ensures.taken _ (rw (arm.field-0-0-is, arm.field-0-0-0-is) at arm.ensures.some))
    (λ k. rw c.if-here.false refl) c.call.ensures.read
    (λ e k. rw c.if-here.false (ap (λ (x : Place). Rest (after_statement x false) ∷ k) e))
