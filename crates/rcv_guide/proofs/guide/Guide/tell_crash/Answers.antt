-- A role that is up is down now.
use Rattle.std.proofs.Common.{◌≡◌, ◌+◌, ◌<◌, ◌^◌, false, Some, length, sym, ◌∙◌, ap, subst, arith}
use Rattle.rcv_tree.specs.declared.entry.Entry.TheVariants.{Crash}
use Rattle.rcv_guide.specs.Guide.{GuideView, guide_of, stand, IsAfter, IsGuide}
use Rattle.rcv_guide.proofs.Starting.{view_with}
use Rattle.rcv_guide.proofs.Crashing.{crash_after, guide_crash}
use Rattle.rcv_guide.proofs.guide.Guide.tell_crash.Goals as goal

pub invariant_of-self : goal.invariant_of-self
invariant_of-self c =
    let calm : c.is_down.result ≡ false = (let f = c.if-is_down.false in cc) in
    let up = subst (λ (g : GuideView). (stand g c.args.role).down ≡ Some false) (sym c.self.view_is) (c.is_down.ensures ∙ ap Some calm) in
    let few : c.self.inside.told < 2 ^ 62 = omega (arith, c.if-self-ge-MOST_TOLD.false) in
    subst (λ (n : GuideView). IsGuide n c.self.inside.table c.self.inside.ledger) (sym (ap (λ n. view_with c.self.inside.accepted.protocol c.self.inside.plan c.self.inside.ledger.logs n c.self.inside.room (length c.self.inside.ledger.entries) (c.self.inside.told + 1)) c.fall.ensures)) (guide_crash c.self.invariant c.args.role up few)

pub returns-clause-after : goal.returns-clause-after
returns-clause-after c =
    let calm : c.is_down.result ≡ false = (let f = c.if-is_down.false in cc) in
    let up = subst (λ (g : GuideView). (stand g c.args.role).down ≡ Some false) (sym c.self.view_is) (c.is_down.ensures ∙ ap Some calm) in
    let few : c.self.inside.told < 2 ^ 62 = omega (arith, c.if-self-ge-MOST_TOLD.false) in
    subst (λ (g : GuideView). IsAfter g (guide_of c.self.inside.accepted.protocol c.self.inside.plan c.self.inside.ledger c.fall.new.numbers.items c.self.inside.room (c.self.inside.told + 1)) (Crash c.args.role)) c.self.view_is
    (subst (λ (n : GuideView). IsAfter (guide_of c.self.inside.accepted.protocol c.self.inside.plan c.self.inside.ledger c.self.inside.numbers.items c.self.inside.room c.self.inside.told) n (Crash c.args.role)) (sym (ap (λ n. view_with c.self.inside.accepted.protocol c.self.inside.plan c.self.inside.ledger.logs n c.self.inside.room (length c.self.inside.ledger.entries) (c.self.inside.told + 1)) c.fall.ensures)) (crash_after c.self.invariant c.args.role up few))
