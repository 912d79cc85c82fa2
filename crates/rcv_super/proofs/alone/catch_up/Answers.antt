-- The copy has one more of the book's entries, and the cells are at home with it.
use Rattle.std.proofs.Common.{rules, ◌≡◌, ◌<◌, [], length, subst, sym, ◌∙◌}
use Rattle.rcv_model.proofs.Forms.{proper}
use Rattle.rcv_accept.specs.Accepted.{IsAcceptedProtocol}
use Rattle.rcv_session.specs.Session.{SessionView, text_of, roles_of}
use Rattle.rcv_cells.specs.Home.{AreHome, HaveBases}
use Rattle.rcv_core.specs.Book.{BookView}
use Rattle.rcv_super.proofs.Bases.{nothing_stable}
use Rattle.rcv_super.proofs.OneByOne.{left_at, next_copy, copied}
use Rattle.rcv_super.proofs.alone.catch_up.Goals as goal

pub make_step-requires-clause-more : goal.make_step-requires-clause-more
make_step-requires-clause-more c =
    let lt : c.loop.counter < length c.args.book.now.entries = search rules in
    left_at c.args.book.now c.loop.counter lt c.requires.steps c.loop.copy c.loop.invariant.0 c.entries-entries.ensures.legal

pub loop-preserved : goal.loop-preserved
loop-preserved c =
    let lt : c.loop.counter < length c.args.book.now.entries = search rules in
    let accepted : IsAcceptedProtocol c.args.book.now.setup.protocol = subst (λ (s : SessionView). IsAcceptedProtocol s.protocol) c.setup.ensures c.protocol-protocol.ensures.accepted in (
      next_copy c.args.book.now c.loop.counter lt c.requires.steps c.loop.copy c.make_step.new.book c.loop.invariant.0 (proper (text_of c.args.book.now.setup) (roles_of c.args.book.now.setup) accepted.form).two_ends c.in_ok-make_step.ensures.stepped,
      c.in_ok-make_step.ensures.home,
      λ r d low. c.in_ok-make_step.ensures.bases r d ∙ c.loop.invariant.2 r d low,
    )

pub returns-clause-home : goal.returns-clause-home
returns-clause-home c =
    let all : c.loop.counter ≡ length c.args.book.now.entries = search rules in
    subst (λ (b : BookView). AreHome b c.loop.lanes.items) (c.loop.invariant.0 ∙ copied c.args.book.now c.loop.counter all) c.loop.invariant.1

pub make_step-requires-clause-based : goal.make_step-requires-clause-based
make_step-requires-clause-based c = record {
  line = [];
  stable = nothing_stable c.loop.copy;
  bases = subst (λ (b : BookView). HaveBases (roles_of b.setup) [] c.loop.lanes.items) (sym c.loop.invariant.0) c.loop.invariant.2;
}

pub returns-clause-bases : goal.returns-clause-bases
returns-clause-bases c = c.loop.invariant.2
