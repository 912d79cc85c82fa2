-- What the session keeps.
use Rattle.std.proofs.Common.{◌≤◌, sym, subst, arith}
use Rattle.rcv_guided.specs.Session.{SessionView, made_in, IsSession}
use Rattle.rcv_guided.proofs.Sessions.{session_saved}
use Rattle.rcv_guided.proofs.session.GuidedSession.restore_save.Goals as goal

pub invariant_of-self : goal.invariant_of-self
invariant_of-self c =
    let s : SessionView = record { guide = c.self.inside.guide; saves = c.self.inside.saves; incarnations = c.self.inside.incarnations.items; restored = c.self.inside.restored } in
    subst (λ x. IsSession (record s { saves = x })) (sym c.in_default.ensures.err) c.self.invariant

pub invariant_of-self-2 : goal.invariant_of-self-2
invariant_of-self-2 c =
    let s : SessionView = record { guide = c.self.inside.guide; saves = c.self.inside.saves; incarnations = c.self.inside.incarnations.items; restored = c.self.inside.restored } in
    let low : c.args.count ≤ made_in s.guide c.args.role = (let a = c.if-count-made.false in let b = c.made.ensures in omega (arith, a, b)) in
    session_saved s c.save.new.self c.args.role c.args.count c.self.invariant low c.in-Ok.ensures.ok
