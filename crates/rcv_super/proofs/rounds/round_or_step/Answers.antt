-- A round that added something has gone on; behind one that added nothing something is left to do still.
use Rattle.std.proofs.Common.{rules, ◌<◌, ◌≤◌, ◌∙◌, length, subst, sym}
use Rattle.rcv_accept.specs.Accepted.{IsAcceptedProtocol}
use Rattle.rcv_fence.specs.Shown.{with_raised}
use Rattle.rcv_session.specs.Session.{SessionView}
use Rattle.rcv_core.specs.Book.{HasMore}
use Rattle.rcv_super.proofs.Bases.{based_on, then_ok, then_err}
use Rattle.rcv_super.proofs.InOrder.{stays_in_order}
use Rattle.rcv_super.proofs.Ending.{round_went, round_stayed, round_stepped}
use Rattle.rcv_super.proofs.rounds.round_or_step.Goals as goal

pub returns-then-len-before-clause-round : goal.returns-then-len-before-clause-round
returns-then-len-before-clause-round g c =
    let lt : length c.args.house.now.book.entries < length c.make_round.new.house.book.entries = search rules in
    round_went c.args.house.now.book c.make_round.new.house.book c.args.house.now.lanes.items (with_raised c.args.house.now.watch 0) c.requires.order.home c.in_ok-activity.ensures.made lt

pub make_step-requires-clause-more : goal.make_step-requires-clause-more
make_step-requires-clause-more g c =
    let le : length c.make_round.new.house.book.entries ≤ length c.args.house.now.book.entries = search rules in
    subst HasMore (sym (round_stayed c.args.house.now.book c.make_round.new.house.book c.args.house.now.lanes.items (with_raised c.args.house.now.watch 0) c.requires.order.home c.in_ok-activity.ensures.made le)) c.requires.more

pub make_step-requires-clause-based : goal.make_step-requires-clause-based
make_step-requires-clause-based g c = based_on c.args.house.now.book c.make_round.new.house.book c.args.house.now.lanes.items c.make_round.new.house.lanes.items
    (subst (λ (s : SessionView). IsAcceptedProtocol s.protocol) c.setup.ensures c.protocol-protocol.ensures.accepted)
    c.entries-entries.ensures.legal
    c.make_round.ensures.grown
    c.in_ok-activity.ensures.bases
    c.requires.order.based

pub returns-then-len-before-clause-order : goal.returns-then-len-before-clause-order
returns-then-len-before-clause-order g c = record {
  home = c.in_ok-activity.ensures.home;
  bases = c.in_ok-activity.ensures.bases;
  watched = (c.make_round.ensures.watched, c.make_round.ensures.watches ∙ c.requires.order.watched.1);
}

pub returns-clause-order : goal.returns-clause-order
returns-clause-order g c = stays_in_order c.make_step.result c.args.house.now _ c.make_step.ensures.home
    (then_ok c.make_step.result (λ stepped r d. stepped r d ∙ c.in_ok-activity.ensures.bases r d) c.make_step.ensures.bases)
    (c.make_round.ensures.watched, c.make_round.ensures.watches ∙ c.requires.order.watched.1)

pub returns-clause-round : goal.returns-clause-round
returns-clause-round g c =
    let le : length c.make_round.new.house.book.entries ≤ length c.args.house.now.book.entries = search rules in
    then_ok c.make_step.result (round_stepped c.args.house.now.book c.make_round.new.house.book c.args.house.now.lanes.items (with_raised c.args.house.now.watch 0) c.requires.order.home c.in_ok-activity.ensures.made c.make_step.new.book le) c.make_step.ensures.stepped

pub returns-clause-same : goal.returns-clause-same
returns-clause-same g c =
    let le : length c.make_round.new.house.book.entries ≤ length c.args.house.now.book.entries = search rules in
    then_err c.make_step.result (λ same. same ∙ round_stayed c.args.house.now.book c.make_round.new.house.book c.args.house.now.lanes.items (with_raised c.args.house.now.watch 0) c.requires.order.home c.in_ok-activity.ensures.made le) c.make_step.ensures.same
