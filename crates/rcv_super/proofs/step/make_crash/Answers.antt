-- The cell whose role is due crashes.
use Rattle.std.proofs.Common.{◌∙◌}
use Rattle.rcv_super.proofs.Bases.{polled_bases}
use Rattle.rcv_super.proofs.Stepping.{can_poll, out_with_crash}
use Rattle.rcv_super.proofs.step.make_crash.Goals as goal

pub poll_at-requires-clause-ready : goal.poll_at-requires-clause-ready
poll_at-requires-clause-ready g c = λ d. can_poll c.args.book.now c.args.lanes.now c.requires.home c.args.role d c.requires.step.2 c.requires.step.1.0.0

pub add_entry-requires : goal.add_entry-requires
add_entry-requires g c = out_with_crash c.args.book.now c.args.lanes.now c.poll_at.new.lanes c.requires.home c.args.role c.requires.step c.poll_at.ensures.count c.poll_at.ensures.others c.poll_at.ensures.polled

pub returns-clause-bases : goal.returns-clause-bases
returns-clause-bases g c r d = c.add_entry.ensures.bases r d ∙ polled_bases c.args.lanes.now c.poll_at.new.lanes c.args.role c.poll_at.ensures.others c.poll_at.ensures.polled r d
