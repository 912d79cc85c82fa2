-- The role and its group go back.
use Rattle.std.proofs.Common.{◌≤◌, true, ◌∷◌, [], subst, sym, arith}
use Rattle.std.specs.Prelude.{slice_index}
use Rattle.rcv_guide.specs.Guide.{roles_of, MayRecover, recovery_entry}
use Rattle.rcv_guide.proofs.Memories.{declared_by}
use Rattle.rcv_guided.specs.Session.{SessionView}
use Rattle.rcv_guided.specs.Histories.{GoesOnBy}
use Rattle.rcv_guided.specs.Failures.{AreCut, GoesBack}
use Rattle.rcv_guided.specs.Taking.{IsStill}
use Rattle.rcv_guided.proofs.Enough.{may_recover}
use Rattle.rcv_guided.proofs.Returned.{is_still, is_session, has_gone_back, goes_on}
use Rattle.rcv_guided.proofs.session.GuidedSession.go_back.Goals as goal

pub group-group-requires : goal.group-group-requires
group-group-requires c =
    let may = subst (λ (s : SessionView). MayRecover s.guide c.args.role c.args.saved.now) (sym c.self.view_is) c.requires in
    let lt = declared_by c.self.inside.guide c.roles-roles.ensures.memory.memory c.roles-roles.ensures.memory.is c.args.role true may.down in
    let few = c.roles-roles.ensures.few in
    let value = c.roles-roles.ensures.value in
    omega (arith, lt, few, value)

pub unreachable-requires : goal.unreachable-requires
unreachable-requires c =
    let may = subst (λ (s : SessionView). MayRecover s.guide c.args.role c.args.saved.now) (sym c.self.view_is) c.requires in
    let lt = declared_by c.self.inside.guide c.roles-roles.ensures.memory.memory c.roles-roles.ensures.memory.is c.args.role true may.down in
    may_recover c.self.inside.guide c.args.role c.args.saved.now c.in-Err._why lt may c.in-Err.ensures.cause

pub invariant_of-self : goal.invariant_of-self
invariant_of-self c =
    is_session (record { guide = c.self.inside.guide; saves = c.self.inside.saves; incarnations = c.self.inside.incarnations.items; restored = c.self.inside.restored }) c.tell_recovered.new.self c.cut.new.saves c.raise.new.incarnations.items
    c.args.role c.args.saved.now c.in-Ok.recovery c.roles-roles.ensures.memory c.in-Ok.ensures.back c.in-Ok.ensures.gone c.self.invariant
    (subst (λ n. AreCut c.self.inside.saves c.cut.new.saves n (slice_index c.in-Ok.recovery.kept)) c.roles-roles.ensures.value c.cut.ensures)
    c.who_goes_back-back.result.0 c.raise.ensures

pub returns-clause-back : goal.returns-clause-back
returns-clause-back c =
    let may = subst (λ (s : SessionView). MayRecover s.guide c.args.role c.args.saved.now) (sym c.self.view_is) c.requires in
    let few : roles_of c.self.inside.guide ≤ 8 = (let few = c.roles-roles.ensures.few in let value = c.roles-roles.ensures.value in omega (arith, few, value)) in
    subst (λ (s : SessionView). GoesBack c.args.role c.args.saved.now s c.in-Ok.recovery (record { guide = c.tell_recovered.new.self; saves = c.cut.new.saves; incarnations = c.raise.new.incarnations.items; restored = c.self.inside.restored })) c.self.view_is
    (has_gone_back (record { guide = c.self.inside.guide; saves = c.self.inside.saves; incarnations = c.self.inside.incarnations.items; restored = c.self.inside.restored }) c.tell_recovered.new.self c.cut.new.saves c.raise.new.incarnations.items
    c.args.role c.args.saved.now c.in-Ok.recovery c.roles-roles.ensures.memory c.in-Ok.ensures.back c.in-Ok.ensures.gone c.self.invariant may few c.group-group.result.0 c.who_goes_back-back.result.0 c.all_made-before.result
    c.group-group.ensures c.all_made-before.ensures.all c.who_goes_back-back.ensures
    (subst (λ n. AreCut c.self.inside.saves c.cut.new.saves n (slice_index c.in-Ok.recovery.kept)) c.roles-roles.ensures.value c.cut.ensures) c.raise.ensures)

pub returns-clause-still : goal.returns-clause-still
returns-clause-still c =
    subst (λ (s : SessionView). IsStill s (record { guide = c.tell_recovered.new.self; saves = c.cut.new.saves; incarnations = c.raise.new.incarnations.items; restored = c.self.inside.restored }) 1) c.self.view_is
    (is_still (record { guide = c.self.inside.guide; saves = c.self.inside.saves; incarnations = c.self.inside.incarnations.items; restored = c.self.inside.restored }) c.tell_recovered.new.self c.cut.new.saves c.raise.new.incarnations.items
    c.args.role c.args.saved.now c.in-Ok.recovery c.roles-roles.ensures.memory c.in-Ok.ensures.back c.in-Ok.ensures.gone)

pub returns-clause-history : goal.returns-clause-history
returns-clause-history c =
    subst (λ (s : SessionView). GoesOnBy s (recovery_entry c.args.role c.in-Ok.recovery ∷ []) (record { guide = c.tell_recovered.new.self; saves = c.cut.new.saves; incarnations = c.raise.new.incarnations.items; restored = c.self.inside.restored })) c.self.view_is
    (goes_on (record { guide = c.self.inside.guide; saves = c.self.inside.saves; incarnations = c.self.inside.incarnations.items; restored = c.self.inside.restored }) c.tell_recovered.new.self c.cut.new.saves c.raise.new.incarnations.items
    c.args.role c.args.saved.now c.in-Ok.recovery c.roles-roles.ensures.memory c.in-Ok.ensures.back c.in-Ok.ensures.gone (recovery_entry c.args.role c.in-Ok.recovery) c.in-Ok.ensures.after)
