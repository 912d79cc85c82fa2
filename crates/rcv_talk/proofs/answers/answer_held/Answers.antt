-- All are answered; one more is, behind which none is for now; and one more is, and so on.
use Rattle.std.proofs.Common.{◌≡◌, false, true, true≢false, not, refl, sym, subst}
use denote.Enum.Bare.{sameb}
use Rattle.rcv_talk.specs.contracts.answers.Next.{the_type}
use Rattle.rcv_talk.specs.declared.answers.Next.{Next}
use Rattle.rcv_talk.specs.declared.answers.Next.TheVariants.{Ended, More, Written}
use Rattle.rcv_talk.proofs.AnswersGiven.{held_all, held_more}
use Rattle.rcv_talk.proofs.answers.answer_held.Goals as goal

-- The test.
is_other : (next : Next) → true ≡ not (sameb the_type next More) → next ≡ More → ⊥
is_other next other is = true≢false (subst (λ (n : Next). true ≡ not (sameb the_type n More)) is other)

is_more : (next : Next) → false ≡ not (sameb the_type next More) → next ≡ More
is_more More off = refl
is_more Written off = absurd (true≢false (sym off))
is_more Ended off = absurd (true≢false (sym off))

pub returns-in_default : goal.returns-in_default
returns-in_default c = λ bytes waits.
    held_all c.args.session.now c.loop.session bytes c.args.text.now c.loop.text c.loop.pipe (c.loop.invariant bytes waits) c.in_default.ensures.none

pub returns-then-ne : goal.returns-then-ne
returns-then-ne c = λ bytes waits.
    let a = c.loop.invariant bytes waits in
    held_more c.args.session.now c.loop.session c.answer_first.new.session bytes c.args.text.now c.loop.text c.answer_first.new.text
    c.loop.pipe c.pass.new.self c.in-Some.feed c.in_ok-next.next a (c.in_ok-next.ensures a.rest a.waits) c.pass.ensures
    c.in_ok-next.next (is_other c.in_ok-next.next c.if-ne.ensures) (λ is. is) (λ is. is)

pub loop-preserved : goal.loop-preserved
loop-preserved c = λ bytes waits.
    let a = c.loop.invariant bytes waits in
    let more = is_more c.in_ok-next.next c.if-ne.ensures in
    held_more c.args.session.now c.loop.session c.answer_first.new.session bytes c.args.text.now c.loop.text c.answer_first.new.text
    c.loop.pipe c.pass.new.self c.in-Some.feed c.in_ok-next.next a (c.in_ok-next.ensures a.rest a.waits) c.pass.ensures
    Written (λ is. absurd (cc)) (λ is. absurd (cc)) (λ is. absurd (cc))
