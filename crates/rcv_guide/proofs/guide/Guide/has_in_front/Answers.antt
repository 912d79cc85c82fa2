-- What lies in front of the channel from the sender.
use Rattle.std.proofs.Common.{◌≡◌, ◌<◌, ◌≤◌, true, false, [], ◌∷◌, sym, ◌∙◌, ap, subst}
use Rattle.rcv_tree.specs.declared.event.Message.{Message}
use Rattle.rcv_model.specs.Net.{Net}
use Rattle.rcv_model.specs.Text.{body_of}
use Rattle.rcv_model.specs.Places.{net_of}
use Rattle.rcv_points.proofs.Whole.{same_net}
use Rattle.rcv_told.specs.Told.{IsInFront}
use Rattle.rcv_guide.specs.Causes.{IsEmpty, IsNotFront}
use Rattle.rcv_guide.specs.Guide.{GuideView, guide_of, net_for, stand, in_channel, message, IsAble, IsTurnToReceive}
use Rattle.rcv_guide.proofs.Memories.{true_or_false}
use Rattle.rcv_guide.proofs.Guides.{low, next_in, sender_in}
use Rattle.rcv_guide.proofs.Telling.{able_declared}
use Rattle.rcv_guide.proofs.Lying.{front_rest, front_none}
use Rattle.rcv_guide.proofs.guide.Guide.has_in_front.Goals as goal

pub sender-sender-requires-clause-first : goal.sender-sender-requires-clause-first
sender-sender-requires-clause-first c = (next_in c.self.invariant c.args.news.now.role c.args.news.now.point (subst (λ (g : GuideView). IsTurnToReceive g c.args.news.now) (sym c.self.view_is) c.requires.turn).0).0

pub sender-sender-requires-clause-last : goal.sender-sender-requires-clause-last
sender-sender-requires-clause-last c = subst (λ (n : Net). c.args.news.now.point ≤ n.count) (sym (same_net (body_of c.self.inside.accepted.protocol.body) _ c.points.result.now c.self.invariant.protocol.form c.points.ensures)) (next_in c.self.invariant c.args.news.now.role c.args.news.now.point (subst (λ (g : GuideView). IsTurnToReceive g c.args.news.now) (sym c.self.view_is) c.requires.turn).0).1

pub front-requires : goal.front-requires
front-requires c = ((subst (λ q. q < 8) (sym (c.sender-sender.ensures ∙ ap (λ (n : Net). n.sender c.args.news.now.point) (same_net (body_of c.self.inside.accepted.protocol.body) _ c.points.result.now c.self.invariant.protocol.form c.points.ensures))) (low c.self.invariant ((net_of (body_of c.self.inside.accepted.protocol.body)).sender c.args.news.now.point) (sender_in c.self.invariant c.args.news.now.point (next_in c.self.invariant c.args.news.now.role c.args.news.now.point (subst (λ (g : GuideView). IsTurnToReceive g c.args.news.now) (sym c.self.view_is) c.requires.turn).0)))), (low c.self.invariant c.args.news.now.role (able_declared c.self.invariant c.args.news.now (subst (λ (g : GuideView). IsAble g c.args.news.now) (sym c.self.view_is) c.requires.able))))

pub returns-in_default-clause-cause : goal.returns-in_default-clause-cause
returns-in_default-clause-cause c =
    subst (λ (g : GuideView). IsEmpty g c.args.news.now) c.self.view_is
    (record {
      able = (subst (λ (g : GuideView). IsAble g c.args.news.now) (sym c.self.view_is) c.requires.able);
      turn = (subst (λ (g : GuideView). IsTurnToReceive g c.args.news.now) (sym c.self.view_is) c.requires.turn);
      nothing = subst (λ q. in_channel (guide_of c.self.inside.accepted.protocol c.self.inside.plan c.self.inside.ledger c.self.inside.numbers.items c.self.inside.room c.self.inside.told) q c.args.news.now.role ≡ []) (c.sender-sender.ensures ∙ ap (λ (n : Net). n.sender c.args.news.now.point) (same_net (body_of c.self.inside.accepted.protocol.body) _ c.points.result.now c.self.invariant.protocol.form c.points.ensures)) (front_none c.self.invariant c.sender-sender.result c.args.news.now.role (subst (λ q. q < 8) (sym (c.sender-sender.ensures ∙ ap (λ (n : Net). n.sender c.args.news.now.point) (same_net (body_of c.self.inside.accepted.protocol.body) _ c.points.result.now c.self.invariant.protocol.form c.points.ensures))) (low c.self.invariant ((net_of (body_of c.self.inside.accepted.protocol.body)).sender c.args.news.now.point) (sender_in c.self.invariant c.args.news.now.point (next_in c.self.invariant c.args.news.now.role c.args.news.now.point (subst (λ (g : GuideView). IsTurnToReceive g c.args.news.now) (sym c.self.view_is) c.requires.turn).0)))) (low c.self.invariant c.args.news.now.role (able_declared c.self.invariant c.args.news.now (subst (λ (g : GuideView). IsAble g c.args.news.now) (sym c.self.view_is) c.requires.able))) c.in_default.ensures);
    })

pub returns-then-not-is_message-clause-cause : goal.returns-then-not-is_message-clause-cause
returns-then-not-is_message-clause-cause c =
    let other : c.in-Some.front ≡ message c.args.news.now c.args.stamp → ⊥ = (λ e. let yes = c.is_message.ensures.1 e in let no : c.is_message.result ≡ false = (let f = c.if-not-is_message.true in cc) in true_or_false (sym yes ∙ no)) in
    subst (λ (g : GuideView). IsNotFront g c.args.news.now c.args.stamp) c.self.view_is
    (record {
      able = (subst (λ (g : GuideView). IsAble g c.args.news.now) (sym c.self.view_is) c.requires.able);
      turn = (subst (λ (g : GuideView). IsTurnToReceive g c.args.news.now) (sym c.self.view_is) c.requires.turn);
      front = c.in-Some.front;
      rest = (front_rest c.self.invariant c.sender-sender.result c.args.news.now.role (subst (λ q. q < 8) (sym (c.sender-sender.ensures ∙ ap (λ (n : Net). n.sender c.args.news.now.point) (same_net (body_of c.self.inside.accepted.protocol.body) _ c.points.result.now c.self.invariant.protocol.form c.points.ensures))) (low c.self.invariant ((net_of (body_of c.self.inside.accepted.protocol.body)).sender c.args.news.now.point) (sender_in c.self.invariant c.args.news.now.point (next_in c.self.invariant c.args.news.now.role c.args.news.now.point (subst (λ (g : GuideView). IsTurnToReceive g c.args.news.now) (sym c.self.view_is) c.requires.turn).0)))) (low c.self.invariant c.args.news.now.role (able_declared c.self.invariant c.args.news.now (subst (λ (g : GuideView). IsAble g c.args.news.now) (sym c.self.view_is) c.requires.able))) c.in-Some.front c.in-Some.ensures).0;
      there = subst (λ q. in_channel (guide_of c.self.inside.accepted.protocol c.self.inside.plan c.self.inside.ledger c.self.inside.numbers.items c.self.inside.room c.self.inside.told) q c.args.news.now.role ≡ c.in-Some.front ∷ (front_rest c.self.invariant c.sender-sender.result c.args.news.now.role (subst (λ q. q < 8) (sym (c.sender-sender.ensures ∙ ap (λ (n : Net). n.sender c.args.news.now.point) (same_net (body_of c.self.inside.accepted.protocol.body) _ c.points.result.now c.self.invariant.protocol.form c.points.ensures))) (low c.self.invariant ((net_of (body_of c.self.inside.accepted.protocol.body)).sender c.args.news.now.point) (sender_in c.self.invariant c.args.news.now.point (next_in c.self.invariant c.args.news.now.role c.args.news.now.point (subst (λ (g : GuideView). IsTurnToReceive g c.args.news.now) (sym c.self.view_is) c.requires.turn).0)))) (low c.self.invariant c.args.news.now.role (able_declared c.self.invariant c.args.news.now (subst (λ (g : GuideView). IsAble g c.args.news.now) (sym c.self.view_is) c.requires.able))) c.in-Some.front c.in-Some.ensures).0) (c.sender-sender.ensures ∙ ap (λ (n : Net). n.sender c.args.news.now.point) (same_net (body_of c.self.inside.accepted.protocol.body) _ c.points.result.now c.self.invariant.protocol.form c.points.ensures)) (front_rest c.self.invariant c.sender-sender.result c.args.news.now.role (subst (λ q. q < 8) (sym (c.sender-sender.ensures ∙ ap (λ (n : Net). n.sender c.args.news.now.point) (same_net (body_of c.self.inside.accepted.protocol.body) _ c.points.result.now c.self.invariant.protocol.form c.points.ensures))) (low c.self.invariant ((net_of (body_of c.self.inside.accepted.protocol.body)).sender c.args.news.now.point) (sender_in c.self.invariant c.args.news.now.point (next_in c.self.invariant c.args.news.now.role c.args.news.now.point (subst (λ (g : GuideView). IsTurnToReceive g c.args.news.now) (sym c.self.view_is) c.requires.turn).0)))) (low c.self.invariant c.args.news.now.role (able_declared c.self.invariant c.args.news.now (subst (λ (g : GuideView). IsAble g c.args.news.now) (sym c.self.view_is) c.requires.able))) c.in-Some.front c.in-Some.ensures).1;
      other = other;
    })

pub returns-clause-ok : goal.returns-clause-ok
returns-clause-ok c =
    let same : c.in-Some.front ≡ message c.args.news.now c.args.stamp = c.is_message.ensures.0 (let yes : c.is_message.result ≡ true = (let f = c.if-not-is_message.false in cc) in yes) in
    subst (λ (g : GuideView). IsInFront (net_for g) (stand g c.args.news.now.role) (message c.args.news.now c.args.stamp)) c.self.view_is
    ((front_rest c.self.invariant c.sender-sender.result c.args.news.now.role (subst (λ q. q < 8) (sym (c.sender-sender.ensures ∙ ap (λ (n : Net). n.sender c.args.news.now.point) (same_net (body_of c.self.inside.accepted.protocol.body) _ c.points.result.now c.self.invariant.protocol.form c.points.ensures))) (low c.self.invariant ((net_of (body_of c.self.inside.accepted.protocol.body)).sender c.args.news.now.point) (sender_in c.self.invariant c.args.news.now.point (next_in c.self.invariant c.args.news.now.role c.args.news.now.point (subst (λ (g : GuideView). IsTurnToReceive g c.args.news.now) (sym c.self.view_is) c.requires.turn).0)))) (low c.self.invariant c.args.news.now.role (able_declared c.self.invariant c.args.news.now (subst (λ (g : GuideView). IsAble g c.args.news.now) (sym c.self.view_is) c.requires.able))) c.in-Some.front c.in-Some.ensures).0, subst (λ q. in_channel (guide_of c.self.inside.accepted.protocol c.self.inside.plan c.self.inside.ledger c.self.inside.numbers.items c.self.inside.room c.self.inside.told) q c.args.news.now.role ≡ message c.args.news.now c.args.stamp ∷ (front_rest c.self.invariant c.sender-sender.result c.args.news.now.role (subst (λ q. q < 8) (sym (c.sender-sender.ensures ∙ ap (λ (n : Net). n.sender c.args.news.now.point) (same_net (body_of c.self.inside.accepted.protocol.body) _ c.points.result.now c.self.invariant.protocol.form c.points.ensures))) (low c.self.invariant ((net_of (body_of c.self.inside.accepted.protocol.body)).sender c.args.news.now.point) (sender_in c.self.invariant c.args.news.now.point (next_in c.self.invariant c.args.news.now.role c.args.news.now.point (subst (λ (g : GuideView). IsTurnToReceive g c.args.news.now) (sym c.self.view_is) c.requires.turn).0)))) (low c.self.invariant c.args.news.now.role (able_declared c.self.invariant c.args.news.now (subst (λ (g : GuideView). IsAble g c.args.news.now) (sym c.self.view_is) c.requires.able))) c.in-Some.front c.in-Some.ensures).0) (c.sender-sender.ensures ∙ ap (λ (n : Net). n.sender c.args.news.now.point) (same_net (body_of c.self.inside.accepted.protocol.body) _ c.points.result.now c.self.invariant.protocol.form c.points.ensures)) ((front_rest c.self.invariant c.sender-sender.result c.args.news.now.role (subst (λ q. q < 8) (sym (c.sender-sender.ensures ∙ ap (λ (n : Net). n.sender c.args.news.now.point) (same_net (body_of c.self.inside.accepted.protocol.body) _ c.points.result.now c.self.invariant.protocol.form c.points.ensures))) (low c.self.invariant ((net_of (body_of c.self.inside.accepted.protocol.body)).sender c.args.news.now.point) (sender_in c.self.invariant c.args.news.now.point (next_in c.self.invariant c.args.news.now.role c.args.news.now.point (subst (λ (g : GuideView). IsTurnToReceive g c.args.news.now) (sym c.self.view_is) c.requires.turn).0)))) (low c.self.invariant c.args.news.now.role (able_declared c.self.invariant c.args.news.now (subst (λ (g : GuideView). IsAble g c.args.news.now) (sym c.self.view_is) c.requires.able))) c.in-Some.front c.in-Some.ensures).1 ∙ ap (λ (m : Message). m ∷ (front_rest c.self.invariant c.sender-sender.result c.args.news.now.role (subst (λ q. q < 8) (sym (c.sender-sender.ensures ∙ ap (λ (n : Net). n.sender c.args.news.now.point) (same_net (body_of c.self.inside.accepted.protocol.body) _ c.points.result.now c.self.invariant.protocol.form c.points.ensures))) (low c.self.invariant ((net_of (body_of c.self.inside.accepted.protocol.body)).sender c.args.news.now.point) (sender_in c.self.invariant c.args.news.now.point (next_in c.self.invariant c.args.news.now.role c.args.news.now.point (subst (λ (g : GuideView). IsTurnToReceive g c.args.news.now) (sym c.self.view_is) c.requires.turn).0)))) (low c.self.invariant c.args.news.now.role (able_declared c.self.invariant c.args.news.now (subst (λ (g : GuideView). IsAble g c.args.news.now) (sym c.self.view_is) c.requires.able))) c.in-Some.front c.in-Some.ensures).0) same))
