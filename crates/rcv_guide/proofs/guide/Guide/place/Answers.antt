-- The place is that behind the role's last event, or behind what is forgotten.
use Rattle.std.proofs.Common.{◌≡◌, suc, ◌-◌, ◌<◌, ◌≤◌, length, get_or, sym, ◌∙◌, ap, subst, arith}
use Rattle.rcv_tree.specs.declared.event.Event.{Event}
use Rattle.rcv_model.specs.Next.{IsPlaceOf}
use Rattle.rcv_model.proofs.Located.{get_below}
use Rattle.rcv_ledger.specs.Logs.{log_at}
use Rattle.rcv_guide.specs.declared.numbers.Numbers.{Numbers}
use Rattle.rcv_guide.specs.Numbers.{numbers_at}
use Rattle.rcv_guide.specs.Guide.{GuideView, guide_of, net_for, roles_of, stand}
use Rattle.rcv_guide.proofs.Guides.{own_at, stands_at}
use Rattle.rcv_guide.proofs.Placing.{place_first, place_last}
use Rattle.rcv_guide.proofs.guide.Guide.place.Goals as goal

pub returns-then-made-own-clause-value : goal.returns-then-made-own-clause-value
returns-then-made-own-clause-value c =
    let own = own_at c.self.invariant c.args.role (subst (λ (g : GuideView). c.args.role < roles_of g) (sym c.self.view_is) c.requires) c.index-own.result.now (c.index-own.ensures ∙ ap (λ q. get_or c.self.inside.numbers.items q c.index-own.result.now) c.role.view_is) in
    let seeds = ap (λ (x : Numbers). x.seeds) own in
    let made = c.made-made.ensures in
    let all : length (log_at c.self.inside.ledger.logs c.args.role) ≤ (numbers_at c.self.inside.numbers.items c.args.role).seeds = omega (arith, seeds, made, c.if-made-own.true) in
    ap (λ (x : Numbers). x.point) own ∙ place_first c.self.invariant c.args.role all ∙ ap (λ (g : GuideView). (stand g c.args.role).place) c.self.view_is

pub returns-clause-value : goal.returns-clause-value
returns-clause-value c =
    let within = get_below (log_at c.self.inside.ledger.logs c.args.role) (c.made-made.result - 1) c.event.result.now c.event.ensures in
    let made = c.made-made.ensures in
    let size : length (log_at c.self.inside.ledger.logs c.args.role) ≡ suc (c.made-made.result - 1) = omega (arith, made, within) in
    let seeds = ap (λ (x : Numbers). x.seeds) (own_at c.self.invariant c.args.role (subst (λ (g : GuideView). c.args.role < roles_of g) (sym c.self.view_is) c.requires) c.index-own.result.now (c.index-own.ensures ∙ ap (λ q. get_or c.self.inside.numbers.items q c.index-own.result.now) c.role.view_is)) in
    let held = c.self.invariant.sound.seeds c.args.role (subst (λ (g : GuideView). c.args.role < roles_of g) (sym c.self.view_is) c.requires) in
    let few : (numbers_at c.self.inside.numbers.items c.args.role).seeds ≤ c.made-made.result - 1 = omega (arith, seeds, held, made, c.if-made-own.false) in
    let value : c.event.result.now.point ≡ (stand (guide_of c.self.inside.accepted.protocol c.self.inside.plan c.self.inside.ledger c.self.inside.numbers.items c.self.inside.room c.self.inside.told) c.args.role).place = place_last c.self.invariant c.args.role (c.made-made.result - 1) c.event.result.now c.event.ensures size few in
    let inner = ap (λ (e : Event). e.point) c.behind-self.view_is in
    inner ∙ value ∙ ap (λ (g : GuideView). (stand g c.args.role).place) c.self.view_is

pub returns-clause-own : goal.returns-clause-own
returns-clause-own c =
    let within = get_below (log_at c.self.inside.ledger.logs c.args.role) (c.made-made.result - 1) c.event.result.now c.event.ensures in
    let made = c.made-made.ensures in
    let size : length (log_at c.self.inside.ledger.logs c.args.role) ≡ suc (c.made-made.result - 1) = omega (arith, made, within) in
    let seeds = ap (λ (x : Numbers). x.seeds) (own_at c.self.invariant c.args.role (subst (λ (g : GuideView). c.args.role < roles_of g) (sym c.self.view_is) c.requires) c.index-own.result.now (c.index-own.ensures ∙ ap (λ q. get_or c.self.inside.numbers.items q c.index-own.result.now) c.role.view_is)) in
    let held = c.self.invariant.sound.seeds c.args.role (subst (λ (g : GuideView). c.args.role < roles_of g) (sym c.self.view_is) c.requires) in
    let few : (numbers_at c.self.inside.numbers.items c.args.role).seeds ≤ c.made-made.result - 1 = omega (arith, seeds, held, made, c.if-made-own.false) in
    let value : c.event.result.now.point ≡ (stand (guide_of c.self.inside.accepted.protocol c.self.inside.plan c.self.inside.ledger c.self.inside.numbers.items c.self.inside.room c.self.inside.told) c.args.role).place = place_last c.self.invariant c.args.role (c.made-made.result - 1) c.event.result.now c.event.ensures size few in
    let inner = ap (λ (e : Event). e.point) c.behind-self.view_is in
    subst (λ (g : GuideView). IsPlaceOf (net_for g) c.args.role c.behind-self.inside.0.1.1.0.0) c.self.view_is (subst (IsPlaceOf (net_for (guide_of c.self.inside.accepted.protocol c.self.inside.plan c.self.inside.ledger c.self.inside.numbers.items c.self.inside.room c.self.inside.told)) c.args.role) (sym (inner ∙ value)) (stands_at c.self.invariant c.args.role))
