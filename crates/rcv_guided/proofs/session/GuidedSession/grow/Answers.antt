-- Nothing more is forgotten.
use Rattle.std.proofs.Common.{◌≡◌, ◌≤◌, ◌*◌, [], replicate, subst, arith}
use Rattle.rcv_guide.specs.Guide.{HasForgotten}
use Rattle.rcv_guide.proofs.Memories.{on_success}
use Rattle.rcv_guided.specs.Session.{SessionView}
use Rattle.rcv_guided.specs.Histories.{GoesOnBy}
use Rattle.rcv_guided.proofs.Going.{on_forgotten}
use Rattle.rcv_guided.proofs.Sessions.{IsSessionWith, session_same, session_forgot, either_way}
use Rattle.rcv_guided.proofs.session.GuidedSession.grow.Goals as goal

pub returns-clause-history : goal.returns-clause-history
returns-clause-history c =
    let s : SessionView = record { guide = c.self.inside.guide; saves = c.self.inside.saves; incarnations = c.self.inside.incarnations.items; restored = c.self.inside.restored } in
    on_success (HasForgotten c.self.inside.guide c.forget.new.self (replicate 8 0) (2 * c.room-room.result)) (GoesOnBy c.args.self.now [] (record s { guide = c.forget.new.self })) c.forget.result
    (λ forgot. subst (λ (x : SessionView). GoesOnBy x [] (record s { guide = c.forget.new.self })) c.self.view_is (on_forgotten s (record s { guide = c.forget.new.self }) (replicate 8 0) (2 * c.room-room.result) forgot))
    c.forget.ensures.ok

pub invariant_of-self : goal.invariant_of-self
invariant_of-self c =
    let s : SessionView = record { guide = c.self.inside.guide; saves = c.self.inside.saves; incarnations = c.self.inside.incarnations.items; restored = c.self.inside.restored } in
    let some : 1 ≤ 2 * c.room-room.result = (let a = c.self.invariant.room in let b = c.room-room.ensures in omega (arith, a, b)) in
    either_way (HasForgotten c.self.inside.guide c.forget.new.self (replicate 8 0) (2 * c.room-room.result)) (c.forget.new.self ≡ c.self.inside.guide) (IsSessionWith s c.forget.new.self) c.forget.result
    (λ forgot. session_forgot s c.forget.new.self (replicate 8 0) (2 * c.room-room.result) c.self.invariant c.roles-roles.ensures.memory forgot some)
    (λ same. session_same s c.forget.new.self c.self.invariant same)
    c.forget.ensures.ok c.forget.ensures.err
