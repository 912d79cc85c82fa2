-- It is down, or crashes.
use Rattle.std.proofs.Common.{◌≡◌, false, true, Some, ◌∙◌, ap, subst}
use Rattle.rcv_guide.specs.Guide.{GuideView, stand, terms_of}
use Rattle.rcv_guided.specs.Session.{SessionView}
use Rattle.rcv_guided.specs.Histories.{GoesOnBy}
use Rattle.rcv_guided.specs.Failures.{fall_of}
use Rattle.rcv_guided.proofs.Falling.{known_down}
use Rattle.rcv_guided.proofs.Returned.{fell, fell_not}
use Rattle.rcv_guided.proofs.Sessions.{session_crash}
use Rattle.rcv_guided.proofs.session.GuidedSession.fall.Goals as goal

pub returns-then-is_down-clause-history : goal.returns-then-is_down-clause-history
returns-then-is_down-clause-history c =
    let down = subst (λ (s : SessionView). (stand s.guide c.args.role).down ≡ Some true) c.self.view_is (c.is_down.ensures ∙ ap Some c.if-is_down.true) in
    fell_not c.args.self.now c.args.role (known_down c.args.self.now c.args.role true down)

pub returns-clause-history : goal.returns-clause-history
returns-clause-history c =
    let up = c.is_down.ensures ∙ ap Some c.if-is_down.false in
    subst (λ (s : SessionView). GoesOnBy s (fall_of s.guide c.args.role) (record { guide = c.tell_crash.new.self; saves = c.self.inside.saves; incarnations = c.self.inside.incarnations.items; restored = c.self.inside.restored })) c.self.view_is
    (fell (record { guide = c.self.inside.guide; saves = c.self.inside.saves; incarnations = c.self.inside.incarnations.items; restored = c.self.inside.restored }) (record { guide = c.tell_crash.new.self; saves = c.self.inside.saves; incarnations = c.self.inside.incarnations.items; restored = c.self.inside.restored }) c.args.role
    (known_down (record { guide = c.self.inside.guide; saves = c.self.inside.saves; incarnations = c.self.inside.incarnations.items; restored = c.self.inside.restored }) c.args.role false up)
    c.in-Ok.ensures.after (ap (λ (g : GuideView). terms_of g) c.in-Ok.ensures.ok))

pub invariant_of-self : goal.invariant_of-self
invariant_of-self c =
    let s : SessionView = record { guide = c.self.inside.guide; saves = c.self.inside.saves; incarnations = c.self.inside.incarnations.items; restored = c.self.inside.restored } in
    session_crash s c.tell_crash.new.self c.args.role c.self.invariant c.in-Ok.ensures.ok
