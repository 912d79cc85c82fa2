-- A ledger that holds what stays takes the place of the old one.
use Rattle.std.proofs.Common.{◌≤◌, List, length, refl, sym, ◌∙◌, subst, arith}
use Rattle.rcv_model.specs.Net.{Net}
use Rattle.rcv_model.specs.Text.{body_of}
use Rattle.rcv_points.proofs.Whole.{same_net}
use Rattle.rcv_guide.specs.declared.numbers.Numbers.{Numbers}
use Rattle.rcv_guide.specs.Failing.{all_events}
use Rattle.rcv_guide.specs.Guide.{GuideView, guide_of, net_for, MayForget, HasForgotten}
use Rattle.rcv_guide.specs.Renewal.{AreOrdered, AreEnds, MayEnd, IsRenewed}
use Rattle.rcv_guide.proofs.Forgetting.{may_end, short, memory_short, has_forgotten}
use Rattle.rcv_guide.proofs.Lasting.{sound_now, stamped_now, few_now, rooms_now, holds_now}
use Rattle.rcv_guide.proofs.Ordering.{guide_ordered, log_long, log_small}
use Rattle.rcv_guide.proofs.guide.Guide.forget.Goals as goal

pub renewed-requires-clause-ordered : goal.renewed-requires-clause-ordered
renewed-requires-clause-ordered c = subst (λ (net : Net). AreOrdered net c.self.inside.ledger.logs) (sym (same_net (body_of c.self.inside.accepted.protocol.body) _ c.points.result.now c.self.invariant.protocol.form c.points.ensures)) (guide_ordered c.self.invariant)

pub renewed-requires-clause-may : goal.renewed-requires-clause-may
renewed-requires-clause-may c = subst (λ (net : Net). MayEnd net c.self.inside.ledger.logs c.ends-ends.result) (sym (same_net (body_of c.self.inside.accepted.protocol.body) _ c.points.result.now c.self.invariant.protocol.form c.points.ensures))
    (may_end (guide_of c.self.inside.accepted.protocol c.self.inside.plan c.self.inside.ledger c.self.inside.numbers.items c.self.inside.room c.self.inside.told) c.args.counts.now c.ends-ends.result c.self.invariant.logs c.self.invariant.numbers (guide_ordered c.self.invariant) (subst (λ (g : GuideView). MayForget g c.args.counts.now) (sym c.self.view_is) c.requires.counts) (subst (λ (l : List Numbers). AreEnds l c.args.counts.now c.ends-ends.result) c.as_slice.ensures.value c.ends-ends.ensures))

pub forget-requires-clause-seeds : goal.forget-requires-clause-seeds
forget-requires-clause-seeds c = λ r lt. log_long (net_for (guide_of c.self.inside.accepted.protocol c.self.inside.plan c.self.inside.ledger c.self.inside.numbers.items c.self.inside.room c.self.inside.told)) c.self.inside.ledger.logs c.ends-ends.result c.args.room c.in_ok-ledger.ledger (guide_ordered c.self.invariant) (subst (λ (net : Net). IsRenewed net c.self.inside.ledger.logs c.ends-ends.result c.args.room c.in_ok-ledger.ledger) (same_net (body_of c.self.inside.accepted.protocol.body) _ c.points.result.now c.self.invariant.protocol.form c.points.ensures) c.in_ok-ledger.ensures) r
    (may_end (guide_of c.self.inside.accepted.protocol c.self.inside.plan c.self.inside.ledger c.self.inside.numbers.items c.self.inside.room c.self.inside.told) c.args.counts.now c.ends-ends.result c.self.invariant.logs c.self.invariant.numbers (guide_ordered c.self.invariant) (subst (λ (g : GuideView). MayForget g c.args.counts.now) (sym c.self.view_is) c.requires.counts) (subst (λ (l : List Numbers). AreEnds l c.args.counts.now c.ends-ends.result) c.as_slice.ensures.value c.ends-ends.ensures))
    (let a = c.self.invariant.logs in let b = c.self.invariant.numbers in omega (arith, a, b, lt))

pub forget-requires-clause-size : goal.forget-requires-clause-size
forget-requires-clause-size c = λ r lt. log_small (net_for (guide_of c.self.inside.accepted.protocol c.self.inside.plan c.self.inside.ledger c.self.inside.numbers.items c.self.inside.room c.self.inside.told)) c.self.inside.ledger.logs c.ends-ends.result c.args.room c.in_ok-ledger.ledger (guide_ordered c.self.invariant) (subst (λ (net : Net). IsRenewed net c.self.inside.ledger.logs c.ends-ends.result c.args.room c.in_ok-ledger.ledger) (same_net (body_of c.self.inside.accepted.protocol.body) _ c.points.result.now c.self.invariant.protocol.form c.points.ensures) c.in_ok-ledger.ensures) r

pub invariant_of-self : goal.invariant_of-self
invariant_of-self c = record {
  protocol = c.self.invariant.protocol;
  planned = c.self.invariant.planned;
  table_is = c.self.invariant.table_is;
  logs = (subst (λ (net : Net). IsRenewed net c.self.inside.ledger.logs c.ends-ends.result c.args.room c.in_ok-ledger.ledger) (same_net (body_of c.self.inside.accepted.protocol.body) _ c.points.result.now c.self.invariant.protocol.form c.points.ensures) c.in_ok-ledger.ensures).holds.logs ∙ c.self.invariant.logs;
  numbers = c.forget.ensures.all ∙ c.self.invariant.numbers;
  holds = record {
    memory = short (guide_of c.self.inside.accepted.protocol c.self.inside.plan c.self.inside.ledger c.self.inside.numbers.items c.self.inside.room c.self.inside.told) c.args.counts.now c.ends-ends.result c.self.invariant.logs c.self.invariant.numbers (guide_ordered c.self.invariant) (subst (λ (g : GuideView). MayForget g c.args.counts.now) (sym c.self.view_is) c.requires.counts) (subst (λ (l : List Numbers). AreEnds l c.args.counts.now c.ends-ends.result) c.as_slice.ensures.value c.ends-ends.ensures) c.args.room c.in_ok-ledger.ledger (subst (λ (net : Net). IsRenewed net c.self.inside.ledger.logs c.ends-ends.result c.args.room c.in_ok-ledger.ledger) (same_net (body_of c.self.inside.accepted.protocol.body) _ c.points.result.now c.self.invariant.protocol.form c.points.ensures) c.in_ok-ledger.ensures) c.forget.new.numbers.items c.forget.ensures c.self.invariant.holds.memory;
    is = memory_short (guide_of c.self.inside.accepted.protocol c.self.inside.plan c.self.inside.ledger c.self.inside.numbers.items c.self.inside.room c.self.inside.told) c.args.counts.now c.ends-ends.result c.self.invariant.logs c.self.invariant.numbers (guide_ordered c.self.invariant) (subst (λ (g : GuideView). MayForget g c.args.counts.now) (sym c.self.view_is) c.requires.counts) (subst (λ (l : List Numbers). AreEnds l c.args.counts.now c.ends-ends.result) c.as_slice.ensures.value c.ends-ends.ensures) c.args.room c.in_ok-ledger.ledger (subst (λ (net : Net). IsRenewed net c.self.inside.ledger.logs c.ends-ends.result c.args.room c.in_ok-ledger.ledger) (same_net (body_of c.self.inside.accepted.protocol.body) _ c.points.result.now c.self.invariant.protocol.form c.points.ensures) c.in_ok-ledger.ensures) c.forget.new.numbers.items c.forget.ensures c.self.invariant.holds.memory c.self.invariant.holds.is (length c.in_ok-ledger.ledger.entries);
    holds = holds_now (guide_of c.self.inside.accepted.protocol c.self.inside.plan c.self.inside.ledger c.self.inside.numbers.items c.self.inside.room c.self.inside.told) c.args.counts.now c.ends-ends.result c.self.invariant.logs c.self.invariant.numbers (guide_ordered c.self.invariant) (subst (λ (g : GuideView). MayForget g c.args.counts.now) (sym c.self.view_is) c.requires.counts) (subst (λ (l : List Numbers). AreEnds l c.args.counts.now c.ends-ends.result) c.as_slice.ensures.value c.ends-ends.ensures) c.args.room c.in_ok-ledger.ledger (subst (λ (net : Net). IsRenewed net c.self.inside.ledger.logs c.ends-ends.result c.args.room c.in_ok-ledger.ledger) (same_net (body_of c.self.inside.accepted.protocol.body) _ c.points.result.now c.self.invariant.protocol.form c.points.ensures) c.in_ok-ledger.ensures) c.forget.new.numbers.items c.forget.ensures _ refl;
  };
  sound = sound_now (guide_of c.self.inside.accepted.protocol c.self.inside.plan c.self.inside.ledger c.self.inside.numbers.items c.self.inside.room c.self.inside.told) c.args.counts.now c.ends-ends.result c.self.invariant.logs c.self.invariant.numbers (guide_ordered c.self.invariant) (subst (λ (g : GuideView). MayForget g c.args.counts.now) (sym c.self.view_is) c.requires.counts) (subst (λ (l : List Numbers). AreEnds l c.args.counts.now c.ends-ends.result) c.as_slice.ensures.value c.ends-ends.ensures) c.args.room c.in_ok-ledger.ledger (subst (λ (net : Net). IsRenewed net c.self.inside.ledger.logs c.ends-ends.result c.args.room c.in_ok-ledger.ledger) (same_net (body_of c.self.inside.accepted.protocol.body) _ c.points.result.now c.self.invariant.protocol.form c.points.ensures) c.in_ok-ledger.ensures) c.forget.new.numbers.items c.forget.ensures c.self.invariant.sound c.self.invariant.holds.memory c.self.invariant.holds.is;
  stamped = stamped_now (guide_of c.self.inside.accepted.protocol c.self.inside.plan c.self.inside.ledger c.self.inside.numbers.items c.self.inside.room c.self.inside.told) c.args.counts.now c.ends-ends.result c.self.invariant.logs c.self.invariant.numbers (guide_ordered c.self.invariant) (subst (λ (g : GuideView). MayForget g c.args.counts.now) (sym c.self.view_is) c.requires.counts) (subst (λ (l : List Numbers). AreEnds l c.args.counts.now c.ends-ends.result) c.as_slice.ensures.value c.ends-ends.ensures) c.args.room c.in_ok-ledger.ledger (subst (λ (net : Net). IsRenewed net c.self.inside.ledger.logs c.ends-ends.result c.args.room c.in_ok-ledger.ledger) (same_net (body_of c.self.inside.accepted.protocol.body) _ c.points.result.now c.self.invariant.protocol.form c.points.ensures) c.in_ok-ledger.ensures) c.forget.new.numbers.items c.forget.ensures c.self.invariant.stamped;
  told = c.self.invariant.told;
  few = few_now (guide_of c.self.inside.accepted.protocol c.self.inside.plan c.self.inside.ledger c.self.inside.numbers.items c.self.inside.room c.self.inside.told) c.args.counts.now c.ends-ends.result c.self.invariant.logs c.self.invariant.numbers (guide_ordered c.self.invariant) (subst (λ (g : GuideView). MayForget g c.args.counts.now) (sym c.self.view_is) c.requires.counts) (subst (λ (l : List Numbers). AreEnds l c.args.counts.now c.ends-ends.result) c.as_slice.ensures.value c.ends-ends.ensures) c.args.room c.in_ok-ledger.ledger (subst (λ (net : Net). IsRenewed net c.self.inside.ledger.logs c.ends-ends.result c.args.room c.in_ok-ledger.ledger) (same_net (body_of c.self.inside.accepted.protocol.body) _ c.points.result.now c.self.invariant.protocol.form c.points.ensures) c.in_ok-ledger.ensures) c.forget.new.numbers.items c.forget.ensures c.self.invariant.few;
  rooms = rooms_now (guide_of c.self.inside.accepted.protocol c.self.inside.plan c.self.inside.ledger c.self.inside.numbers.items c.self.inside.room c.self.inside.told) c.args.counts.now c.ends-ends.result c.self.invariant.logs c.self.invariant.numbers (guide_ordered c.self.invariant) (subst (λ (g : GuideView). MayForget g c.args.counts.now) (sym c.self.view_is) c.requires.counts) (subst (λ (l : List Numbers). AreEnds l c.args.counts.now c.ends-ends.result) c.as_slice.ensures.value c.ends-ends.ensures) c.args.room c.in_ok-ledger.ledger (subst (λ (net : Net). IsRenewed net c.self.inside.ledger.logs c.ends-ends.result c.args.room c.in_ok-ledger.ledger) (same_net (body_of c.self.inside.accepted.protocol.body) _ c.points.result.now c.self.invariant.protocol.form c.points.ensures) c.in_ok-ledger.ensures) c.forget.new.numbers.items c.forget.ensures c.requires.room (subst (λ (g : GuideView). all_events g.logs ≤ c.args.room) (sym c.self.view_is) c.requires.fits);
}

pub returns-clause-ok : goal.returns-clause-ok
returns-clause-ok c = subst (λ (g : GuideView). HasForgotten g (guide_of c.self.inside.accepted.protocol c.self.inside.plan c.in_ok-ledger.ledger c.forget.new.numbers.items c.args.room c.self.inside.told) c.args.counts.now c.args.room) c.self.view_is
    (has_forgotten (guide_of c.self.inside.accepted.protocol c.self.inside.plan c.self.inside.ledger c.self.inside.numbers.items c.self.inside.room c.self.inside.told) c.args.counts.now c.ends-ends.result c.self.invariant.logs c.self.invariant.numbers (guide_ordered c.self.invariant) (subst (λ (g : GuideView). MayForget g c.args.counts.now) (sym c.self.view_is) c.requires.counts) (subst (λ (l : List Numbers). AreEnds l c.args.counts.now c.ends-ends.result) c.as_slice.ensures.value c.ends-ends.ensures) c.args.room c.in_ok-ledger.ledger (subst (λ (net : Net). IsRenewed net c.self.inside.ledger.logs c.ends-ends.result c.args.room c.in_ok-ledger.ledger) (same_net (body_of c.self.inside.accepted.protocol.body) _ c.points.result.now c.self.invariant.protocol.form c.points.ensures) c.in_ok-ledger.ensures) c.forget.new.numbers.items c.forget.ensures (length c.in_ok-ledger.ledger.entries) refl)
