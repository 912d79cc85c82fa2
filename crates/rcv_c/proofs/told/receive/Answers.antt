-- The session hears the receipt, or has no such role or point.
use Rattle.std.proofs.Common.{◌∙◌, sym, ap, subst}
use Rattle.rcv_dialogue.specs.declared.line.Line.TheVariants as line
use Rattle.rcv_guided.specs.Hearing.{accepted_of}
use Rattle.rcv_guided.specs.Typed.{IsHeardAs}
use Rattle.rcv_c.specs.declared.held.Held.{Held}
use Rattle.rcv_c.proofs.Events.{no_message, recv_formed, outside, told_so}
use Rattle.rcv_c.proofs.told.receive.Goals as goal

pub returns-then-not-has_both : goal.returns-then-not-has_both
returns-then-not-has_both c =
    let held = c.in-Some.held.value in
    let told = c.args.told.now in
    let same = c.accepted.ensures ∙ ap (λ (h : Held). accepted_of h.session) c.deref.ensures in
    outside (line.Recv told) c.args.session.now.handle.value c.hold.new.self.handle.value c.args.stamp.now held
    c.in-Some.ensures.value c.hold.ensures
    (λ is. no_message c.accepted.result.now (accepted_of held.session) same told.role told.point c.has_both.result
    c.has_both.ensures.1 c.if-not-has_both.true told.value is.0 is.1)

pub tell_receipt-heard-requires : goal.tell_receipt-heard-requires
tell_receipt-heard-requires c =
    let same = c.accepted.ensures ∙ ap (λ (h : Held). accepted_of h.session) (c.deref.ensures ∙ sym c.deref_mut.ensures.value) in
    recv_formed c.accepted.result.now (accepted_of c.deref_mut.result.now.session) same c.has_both.result c.args.told.now
    c.has_both.ensures.0 c.if-not-has_both.false c.requires.value c.requires.stamp c.requires.sent c.requires.incarnation

pub returns : goal.returns
returns c =
    let held = c.in-Some.held.value in
    let told = line.Recv c.args.told.now in
    let same = c.accepted.ensures ∙ ap (λ (h : Held). accepted_of h.session) c.deref.ensures in
    told_so told c.args.session.now.handle.value c.hold-2.new.self.handle.value c.args.stamp.now c.status_of.new.stamp c.status_of.result
    held (record { session = c.tell_receipt-heard.new.self; answer = c.deref_mut.result.now.answer }) c.tell_receipt-heard.result
    c.in-Some.ensures.value c.hold-2.ensures (ap (λ (h : Held). h.answer) c.deref_mut.ensures.value)
    (recv_formed c.accepted.result.now (accepted_of held.session) same c.has_both.result c.args.told.now
    c.has_both.ensures.0 c.if-not-has_both.false c.requires.value c.requires.stamp c.requires.sent c.requires.incarnation)
    (subst (λ (h : Held). IsHeardAs h.session told c.tell_receipt-heard.new.self c.tell_receipt-heard.result)
    c.deref_mut.ensures.value c.tell_receipt-heard.ensures.heard)
    c.status_of.ensures.status c.status_of.ensures.stamp
