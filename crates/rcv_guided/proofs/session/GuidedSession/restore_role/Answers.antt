-- What the session keeps.
use Rattle.std.proofs.Common.{◌≡◌, ◌≤◌, true, sym, subst, arith}
use Rattle.std.specs.Prelude.{slice_set}
use Rattle.rcv_dialogue.specs.declared.line.ToldStanding.{ToldStanding}
use Rattle.rcv_guided.specs.Session.{SessionView, IsSession}
use Rattle.rcv_guided.specs.Restoring.{IsUnsaved}
use Rattle.rcv_guided.proofs.Sessions.{session_same, session_stands}
use Rattle.rcv_guided.proofs.session.GuidedSession.restore_role.Goals as goal

pub invariant_of-self : goal.invariant_of-self
invariant_of-self c =
    let s : SessionView = record { guide = c.self.inside.guide; saves = c.self.inside.saves; incarnations = c.self.inside.incarnations.items; restored = c.self.inside.restored } in
    session_same s c.stand_again.new.self c.self.invariant c.in_default.ensures.err

pub invariant_of-self-2 : goal.invariant_of-self-2
invariant_of-self-2 c =
    let s : SessionView = record { guide = c.self.inside.guide; saves = c.self.inside.saves; incarnations = c.self.inside.incarnations.items; restored = c.self.inside.restored } in
    let told = c.args.told.now in
    let low : told.incarnation ≤ s.guide.told = (let a = c.if-told.false in let b = c.told.ensures.value in omega (arith, a, b)) in
    let yes : c.is_unsaved.result ≡ true = (let f = c.if-not-is_unsaved.false in cc) in
    let unsaved = subst (λ (x : SessionView). IsUnsaved x told.role) (sym c.self.view_is) (c.is_unsaved.ensures.0 yes) in
    subst (λ (t : ToldStanding). IsSession (record s { guide = c.stand_again.new.self; incarnations = slice_set s.incarnations t.role t.incarnation })) (sym c.told-2.view_is)
    (session_stands s c.stand_again.new.self told.role c.standing.result told.incarnation c.self.invariant low unsaved c.in-Ok.ensures.ok)
