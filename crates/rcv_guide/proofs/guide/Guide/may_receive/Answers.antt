-- A role that is able is declared.
use Rattle.std.proofs.Common.{◌≡◌, ◌<◌, ◌≤◌, ◌^◌, true, sym, subst}
use Rattle.rcv_told.specs.Told.{IsInFront}
use Rattle.rcv_ledger.proofs.Lists.{on_ok}
use Rattle.rcv_guide.specs.Guide.{GuideView, net_for, roles_of, stand, message, IsAble, IsTurnToReceive}
use Rattle.rcv_guide.proofs.Memories.{on_success}
use Rattle.rcv_guide.proofs.Telling.{able_declared, few_sent}
use Rattle.rcv_guide.proofs.guide.Guide.may_receive.Goals as goal

pub is_turn_to_receive-requires : goal.is_turn_to_receive-requires
is_turn_to_receive-requires c = (subst (λ (g : GuideView). c.args.news.now.role < roles_of g) c.self.view_is (able_declared c.self.invariant c.args.news.now (subst (λ (g : GuideView). IsAble g c.args.news.now) (sym c.self.view_is) c.in_default.ensures)))

pub returns-clause-declared : goal.returns-clause-declared
returns-clause-declared c = on_ok (c.args.news.now.role < roles_of c.args.self.now) c.has_in_front.result (subst (λ (g : GuideView). c.args.news.now.role < roles_of g) c.self.view_is (able_declared c.self.invariant c.args.news.now (subst (λ (g : GuideView). IsAble g c.args.news.now) (sym c.self.view_is) c.in_default.ensures)))

pub returns-clause-few : goal.returns-clause-few
returns-clause-few c =
    let yes : c.is_turn_to_receive.result ≡ true = (let f = c.if-not-is_turn_to_receive.false in cc) in
    let turn = subst (λ (g : GuideView). IsTurnToReceive g c.args.news.now) (sym c.self.view_is) (c.is_turn_to_receive.ensures.0 yes) in
    on_success (IsInFront (net_for c.args.self.now) (stand c.args.self.now c.args.news.now.role) (message c.args.news.now c.args.stamp)) (c.args.stamp ≤ 2 ^ 62) c.has_in_front.result
    (λ front. few_sent c.self.invariant c.args.news.now (subst (λ (g : GuideView). IsAble g c.args.news.now) (sym c.self.view_is) c.in_default.ensures) c.args.stamp (record {
      able = (subst (λ (g : GuideView). IsAble g c.args.news.now) (sym c.self.view_is) c.in_default.ensures);
      turn = turn;
      front = subst (λ (g : GuideView). IsInFront (net_for g) (stand g c.args.news.now.role) (message c.args.news.now c.args.stamp)) (sym c.self.view_is) front;
    }))
    c.has_in_front.ensures.ok
