-- Where something was forgotten, nothing more can be.
use Rattle.std.proofs.Common.{sym, subst, ◌≤◌, arith}
use Rattle.rcv_guide.specs.History.{HasHistory}
use Rattle.rcv_guided.specs.Session.{SessionView}
use Rattle.rcv_guided.proofs.Going.{on_forgotten}
use Rattle.rcv_guided.proofs.Forgotten.{may_forget_nothing}
use Rattle.rcv_guided.proofs.Sessions.{session_same, session_forgot, session_left}
use Rattle.rcv_guided.proofs.session.GuidedSession.forget_stable.Goals as goal

pub returns-clause-all : goal.returns-clause-all
returns-clause-all c = may_forget_nothing c.self.inside.guide c.forget.new.self c.line-stable.result c.room-room.result c.roles-roles.ensures.memory c.in_ok-forget.ensures.ok

pub returns-clause-history : goal.returns-clause-history
returns-clause-history c = λ history has.
    let s : SessionView = record { guide = c.self.inside.guide; saves = c.self.inside.saves; incarnations = c.self.inside.incarnations.items; restored = c.self.inside.restored } in
    on_forgotten s (record s { guide = c.forget.new.self }) c.line-stable.result c.room-room.result c.in_ok-forget.ensures.ok history (subst (λ (x : SessionView). HasHistory x.guide history) (sym c.self.view_is) has)

pub invariant_of-self : goal.invariant_of-self
invariant_of-self c =
    let s : SessionView = record { guide = c.self.inside.guide; saves = c.self.inside.saves; incarnations = c.self.inside.incarnations.items; restored = c.self.inside.restored } in
    session_same s c.forget.new.self c.self.invariant c.in_err-forget.ensures.err

pub invariant_of-self-2 : goal.invariant_of-self-2
invariant_of-self-2 c =
    let s : SessionView = record { guide = c.self.inside.guide; saves = c.self.inside.saves; incarnations = c.self.inside.incarnations.items; restored = c.self.inside.restored } in
    let some : 1 ≤ c.room-room.result = (let a = c.self.invariant.room in let b = c.room-room.ensures in omega (arith, a, b)) in
    session_left (record s { guide = c.forget.new.self }) c.forget_saves.new.saves
    (session_forgot s c.forget.new.self c.line-stable.result c.room-room.result c.self.invariant c.roles-roles.ensures.memory c.in_ok-forget.ensures.ok some) c.forget_saves.ensures
