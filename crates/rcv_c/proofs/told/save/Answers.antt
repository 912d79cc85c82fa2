-- The session hears the save, or has no such role.
use Rattle.std.proofs.Common.{◌∙◌, sym, ap, subst}
use Rattle.rcv_dialogue.specs.declared.line.Line.TheVariants as line
use Rattle.rcv_guided.specs.Hearing.{accepted_of}
use Rattle.rcv_guided.specs.Typed.{IsHeardAs}
use Rattle.rcv_c.specs.declared.held.Held.{Held}
use Rattle.rcv_c.proofs.Events.{no_role, save_formed, outside, told_so}
use Rattle.rcv_c.proofs.told.save.Goals as goal

pub returns-then-not-has_role : goal.returns-then-not-has_role
returns-then-not-has_role c =
    let held = c.in-Some.held.value in
    let told = c.args.told.now in
    let same = c.accepted.ensures ∙ ap (λ (h : Held). accepted_of h.session) c.deref.ensures in (
      0,
      outside (line.Save told) c.args.session.now.handle.value c.hold.new.self.handle.value 0 held
          c.in-Some.ensures.value c.hold.ensures
          (λ is. no_role c.accepted.result.now (accepted_of held.session) same told.role 0 c.has_role.result
          c.has_role.ensures.1 c.if-not-has_role.true is.0),
    )

pub tell_save-heard-requires : goal.tell_save-heard-requires
tell_save-heard-requires c =
    let same = c.accepted.ensures ∙ ap (λ (h : Held). accepted_of h.session) (c.deref.ensures ∙ sym c.deref_mut.ensures.value) in
    save_formed c.accepted.result.now (accepted_of c.deref_mut.result.now.session) same c.has_role.result c.args.told.now
    c.has_role.ensures.0 c.if-not-has_role.false c.requires.count c.requires.incarnation

pub returns : goal.returns
returns c =
    let held = c.in-Some.held.value in
    let told = line.Save c.args.told.now in
    let same = c.accepted.ensures ∙ ap (λ (h : Held). accepted_of h.session) c.deref.ensures in (
      c.status_of.new.stamp,
      told_so told c.args.session.now.handle.value c.hold-2.new.self.handle.value 0 c.status_of.new.stamp c.status_of.result
          held (record { session = c.tell_save-heard.new.self; answer = c.deref_mut.result.now.answer }) c.tell_save-heard.result
          c.in-Some.ensures.value c.hold-2.ensures (ap (λ (h : Held). h.answer) c.deref_mut.ensures.value)
          (save_formed c.accepted.result.now (accepted_of held.session) same c.has_role.result c.args.told.now
          c.has_role.ensures.0 c.if-not-has_role.false c.requires.count c.requires.incarnation)
          (subst (λ (h : Held). IsHeardAs h.session told c.tell_save-heard.new.self c.tell_save-heard.result)
          c.deref_mut.ensures.value c.tell_save-heard.ensures.heard)
          c.status_of.ensures.status c.status_of.ensures.stamp,
    )
