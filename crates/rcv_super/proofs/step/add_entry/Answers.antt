-- The cells come home with the entry.
use Rattle.std.proofs.Common.{◌≡◌, subst}
use Rattle.rcv_accept.specs.Accepted.{IsAcceptedProtocol}
use Rattle.rcv_session.specs.Session.{SessionView}
use Rattle.rcv_core.specs.Book.{with_entry}
use Rattle.rcv_core.proofs.Alone.{succeeded}
use Rattle.rcv_cells.proofs.Bases.{cleared_bases}
use Rattle.rcv_super.proofs.OneEntry.{come_home_with}
use Rattle.rcv_super.proofs.step.add_entry.Goals as goal

pub returns-clause-home : goal.returns-clause-home
returns-clause-home c = come_home_with c.args.book.now c.args.lanes.now c.args.entry c.requires (subst (λ (s : SessionView). IsAcceptedProtocol s.protocol) c.setup.ensures c.protocol-protocol.ensures.accepted) c.entries-entries.ensures.legal c.push-reserved.new.self c.clear_logs.new.lanes (succeeded c.push-reserved.result (c.push-reserved.new.self ≡ with_entry c.args.book.now c.args.entry) c.push-reserved.ensures.reserved c.push-reserved.ensures.ok) c.clear_logs.ensures.count c.clear_logs.ensures.cleared

pub returns-clause-bases : goal.returns-clause-bases
returns-clause-bases c = cleared_bases c.args.lanes.now c.clear_logs.new.lanes c.clear_logs.ensures.count c.clear_logs.ensures.cleared

pub returns-clause-stepped : goal.returns-clause-stepped
returns-clause-stepped c = record { entry = c.args.entry; step = c.requires.step; added = (succeeded c.push-reserved.result (c.push-reserved.new.self ≡ with_entry c.args.book.now c.args.entry) c.push-reserved.ensures.reserved c.push-reserved.ensures.ok) }
