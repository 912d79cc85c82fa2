-- An event that fits keeps the guide, whose room is reserved.
use Rattle.std.proofs.Common.{replicate, refl, sym, ◌∙◌, ap, subst}
use Rattle.std.specs.Prelude.{pos}
use Rattle.rcv_model.specs.Net.{Net}
use Rattle.rcv_model.specs.Text.{body_of}
use Rattle.rcv_model.specs.Places.{net_of}
use Rattle.rcv_points.proofs.Whole.{same_net}
use Rattle.rcv_ledger.specs.Channels.{channel_at, HasFront}
use Rattle.rcv_depend.specs.Logs.{IsSound}
use Rattle.rcv_ledger.proofs.Lists.{of_ok}
use Rattle.rcv_guide.specs.Guide.{GuideView, IsGuide}
use Rattle.rcv_guide.specs.Renewal.{HasRoomToAdd, with_one}
use Rattle.rcv_guide.specs.Restoring.{FitsEvent, with_logged}
use Rattle.rcv_guide.proofs.Memories.{not_err}
use Rattle.rcv_guide.proofs.Reserved.{few_held, no_change}
use Rattle.rcv_guide.proofs.Logging.{is_sound, logged_guide, room_for, waits_for}
use Rattle.rcv_guide.proofs.Again.{logged_view}
use Rattle.rcv_guide.proofs.guide.Guide.log.Goals as goal

pub add_event-added-requires-clause-sound : goal.add_event-added-requires-clause-sound
add_event-added-requires-clause-sound c =
    let fits = (subst (λ (g : GuideView). FitsEvent g c.args.event.now c.args.seeds) (sym c.self.view_is) c.requires) in
    subst (λ (n : Net). IsSound n c.args.event.now.role c.args.event.now) (sym (same_net (body_of c.self.inside.accepted.protocol.body) _ c.points.result.now c.self.invariant.protocol.form c.points.ensures)) (is_sound c.self.invariant c.args.event.now c.args.seeds fits)

pub add_event-added-requires-clause-change : goal.add_event-added-requires-clause-change
add_event-added-requires-clause-change c =
    let fits = (subst (λ (g : GuideView). FitsEvent g c.args.event.now c.args.seeds) (sym c.self.view_is) c.requires) in
    no_change c.self.invariant fits.log.room c.args.event.now.role fits.log.declared

pub add_event-added-requires-clause-waits : goal.add_event-added-requires-clause-waits
add_event-added-requires-clause-waits c got =
    let fits = (subst (λ (g : GuideView). FitsEvent g c.args.event.now c.args.seeds) (sym c.self.view_is) c.requires) in
    subst (λ (n : Net). HasFront (channel_at c.self.inside.ledger.channels (n.sender c.args.event.now.point) c.args.event.now.role)) (sym (same_net (body_of c.self.inside.accepted.protocol.body) _ c.points.result.now c.self.invariant.protocol.form c.points.ensures)) (waits_for c.self.invariant c.args.event.now c.args.seeds fits got)

pub add_event-added-requires-clause-few : goal.add_event-added-requires-clause-few
add_event-added-requires-clause-few c =
    let fits = (subst (λ (g : GuideView). FitsEvent g c.args.event.now c.args.seeds) (sym c.self.view_is) c.requires) in
    few_held c.self.invariant fits.log.room c.args.event.now.role fits.log.declared

pub unreachable-requires : goal.unreachable-requires
unreachable-requires c =
    let fits = (subst (λ (g : GuideView). FitsEvent g c.args.event.now c.args.seeds) (sym c.self.view_is) c.requires) in
    let room = room_for c.self.invariant c.args.event.now c.args.seeds fits c.args.event.now.dir refl in
    not_err c.add_event-added.result
    (c.add_event-added.ensures.room (subst (λ (n : Net). HasRoomToAdd n c.self.inside.ledger c.args.event.now c.args.event.now.dir) (sym (same_net (body_of c.self.inside.accepted.protocol.body) _ c.points.result.now c.self.invariant.protocol.form c.points.ensures)) room))
    c.if-is_err.ensures.value

pub invariant_of-self : goal.invariant_of-self
invariant_of-self c =
    let fits = (subst (λ (g : GuideView). FitsEvent g c.args.event.now c.args.seeds) (sym c.self.view_is) c.requires) in
    let one = (of_ok _ c.add_event-added.result c.add_event-added.ensures.ok (sym c.if-is_err.ensures.value) ∙ ap (λ (n : Net). with_one n c.self.inside.ledger c.args.event.now (replicate 16 (pos 0))) (same_net (body_of c.self.inside.accepted.protocol.body) _ c.points.result.now c.self.invariant.protocol.form c.points.ensures)) in
    subst (λ (g : GuideView). IsGuide g c.self.inside.table c.add_event-added.new.fresh) (sym (logged_view (net_of (body_of c.self.inside.accepted.protocol.body)) c.self.inside.accepted.protocol c.self.inside.plan c.self.inside.ledger c.add_event-added.new.fresh c.self.inside.numbers.items c.set_seeds.new.numbers.items c.self.inside.room c.self.inside.told c.args.event.now c.args.seeds one c.set_seeds.ensures))
    (logged_guide c.self.invariant c.args.event.now c.args.seeds fits c.add_event-added.new.fresh one)

pub returns : goal.returns
returns c =
    let one = (of_ok _ c.add_event-added.result c.add_event-added.ensures.ok (sym c.if-is_err.ensures.value) ∙ ap (λ (n : Net). with_one n c.self.inside.ledger c.args.event.now (replicate 16 (pos 0))) (same_net (body_of c.self.inside.accepted.protocol.body) _ c.points.result.now c.self.invariant.protocol.form c.points.ensures)) in
    logged_view (net_of (body_of c.self.inside.accepted.protocol.body)) c.self.inside.accepted.protocol c.self.inside.plan c.self.inside.ledger c.add_event-added.new.fresh c.self.inside.numbers.items c.set_seeds.new.numbers.items c.self.inside.room c.self.inside.told c.args.event.now c.args.seeds one c.set_seeds.ensures
    ∙ ap (λ (g : GuideView). with_logged g c.args.event.now c.args.seeds) c.self.view_is
