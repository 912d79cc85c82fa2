-- What the session keeps.
use Rattle.std.proofs.Common.{◌≡◌, true, Some, sym, subst}
use Rattle.rcv_guided.specs.Session.{SessionView}
use Rattle.rcv_guided.specs.Restoring.{MayBegin}
use Rattle.rcv_guided.proofs.Sessions.{session_same, session_begun}
use Rattle.rcv_guided.proofs.session.GuidedSession.restore_extent.Goals as goal

pub invariant_of-self : goal.invariant_of-self
invariant_of-self c =
    let s : SessionView = record { guide = c.self.inside.guide; saves = c.self.inside.saves; incarnations = c.self.inside.incarnations.items; restored = c.self.inside.restored } in
    session_same s c.begin_again.new.self c.self.invariant c.in_default.ensures.err

pub invariant_of-self-2 : goal.invariant_of-self-2
invariant_of-self-2 c =
    let s : SessionView = record { guide = c.self.inside.guide; saves = c.self.inside.saves; incarnations = c.self.inside.incarnations.items; restored = c.self.inside.restored } in
    let told = c.args.told.now in
    let yes : c.may_begin.result ≡ true = (let f = c.if-not-may_begin.false in cc) in
    let may = subst (λ (x : SessionView). MayBegin x told) (sym c.self.view_is) (c.may_begin.ensures.0 yes) in
    session_begun s c.begin_again.new.self told.room told.told (Some told.told) c.self.invariant may.nothing may.unsaved may.least c.in-Ok.ensures.ok
