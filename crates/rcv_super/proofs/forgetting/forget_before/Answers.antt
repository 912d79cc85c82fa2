-- Each cell has saved the state at its count, and stays where it is.
use Rattle.std.proofs.Common.{subst}
use Rattle.rcv_accept.specs.Accepted.{IsAcceptedProtocol}
use Rattle.rcv_session.specs.Session.{SessionView}
use Rattle.rcv_super.proofs.Bases.{can_forget, forgot_home, forgot_bases}
use Rattle.rcv_super.proofs.Returning.{few_cells}
use Rattle.rcv_super.proofs.forgetting.forget_before.Goals as goal

pub forget_all-requires-clause-few : goal.forget_all-requires-clause-few
forget_all-requires-clause-few c = few_cells c.args.book.now c.args.lanes.now.items (subst (λ (s : SessionView). IsAcceptedProtocol s.protocol) c.setup.ensures c.protocol-protocol.ensures.accepted) c.requires.home

pub forget_all-requires-clause-can : goal.forget_all-requires-clause-can
forget_all-requires-clause-can c = can_forget c.args.book.now c.args.lanes.now.items c.args.line.now c.requires.home c.requires.stable c.requires.above

pub returns-clause-home : goal.returns-clause-home
returns-clause-home c = forgot_home c.args.book.now c.args.lanes.now.items c.forget_all.new.lanes.items c.args.line.now c.requires.home c.forget_all.ensures.count c.forget_all.ensures.forgot

pub returns-clause-bases : goal.returns-clause-bases
returns-clause-bases c = forgot_bases c.args.book.now c.args.lanes.now.items c.forget_all.new.lanes.items c.args.line.now c.requires.home c.forget_all.ensures.count c.forget_all.ensures.forgot
