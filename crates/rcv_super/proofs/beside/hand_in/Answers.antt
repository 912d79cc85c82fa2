-- The merged entries may come behind the recovery, and the cells come home with them.
use Rattle.std.proofs.Common.{List, subst, sym, ◌∙◌, ap}
use Rattle.rcv_tree.specs.declared.entry.Entry.{Entry}
use Rattle.rcv_tree.specs.declared.entry.Timed.{Timed}
use Rattle.rcv_model.specs.Journal.{IsLegalFrom}
use Rattle.rcv_accept.specs.Accepted.{IsAcceptedProtocol}
use Rattle.rcv_session.specs.Session.{SessionView, rules_of}
use Rattle.rcv_core.specs.Book.{state_of, with_more}
use Rattle.rcv_merge.specs.Merge.{IsMergeOf}
use Rattle.rcv_cells.specs.Ahead.{BringHome}
use Rattle.rcv_cells.proofs.Bases.{met_bases, cleared_bases}
use Rattle.rcv_super.proofs.Behind.{meet_behind, few_behind, met_logs, rise_behind, follow_behind, home_behind, behind_brings_home}
use Rattle.rcv_super.proofs.beside.hand_in.Goals as goal

pub meet_all-requires : goal.meet_all-requires
meet_all-requires c = meet_behind c.args.watch.now c.args.book.now c.args.lanes.now c.requires

pub merge_logs-requires-clause-few : goal.merge_logs-requires-clause-few
merge_logs-requires-clause-few c = few_behind c.args.watch.now c.args.book.now c.args.lanes.now c.meet_all.new.lanes c.requires c.meet_all.ensures.met c.meet_all.ensures.begun (subst (λ (s : SessionView). IsAcceptedProtocol s.protocol) c.setup.ensures c.protocol-protocol.ensures.accepted) c.entries-entries.ensures.legal

pub merge_logs-requires-clause-rise : goal.merge_logs-requires-clause-rise
merge_logs-requires-clause-rise c = rise_behind c.args.watch.now c.args.book.now c.args.lanes.now c.meet_all.new.lanes c.requires c.meet_all.ensures.met c.meet_all.ensures.begun (subst (λ (s : SessionView). IsAcceptedProtocol s.protocol) c.setup.ensures c.protocol-protocol.ensures.accepted) c.entries-entries.ensures.legal

pub push_all-requires-clause-legal : goal.push_all-requires-clause-legal
push_all-requires-clause-legal c =
    subst (IsLegalFrom (rules_of c.args.book.now.setup) (state_of c.args.book.now)) (sym c.as_slice.ensures.value) (follow_behind c.args.watch.now c.args.book.now c.args.lanes.now c.meet_all.new.lanes c.requires c.meet_all.ensures.met c.meet_all.ensures.begun (subst (λ (s : SessionView). IsAcceptedProtocol s.protocol) c.setup.ensures c.protocol-protocol.ensures.accepted) c.entries-entries.ensures.legal c.merge_logs.new.merged.items c.in_ok-merge_logs.ensures)

pub push_all-requires-clause-home : goal.push_all-requires-clause-home
push_all-requires-clause-home c =
    subst (λ (merged : List Entry). BringHome c.args.book.now merged c.meet_all.new.lanes) (sym c.as_slice.ensures.value) (behind_brings_home c.args.watch.now c.args.book.now c.args.lanes.now c.meet_all.new.lanes c.requires c.meet_all.ensures.met c.meet_all.ensures.begun (subst (λ (s : SessionView). IsAcceptedProtocol s.protocol) c.setup.ensures c.protocol-protocol.ensures.accepted) c.entries-entries.ensures.legal c.merge_logs.new.merged.items c.in_ok-merge_logs.ensures)

pub returns-clause-home : goal.returns-clause-home
returns-clause-home c =
    home_behind c.args.watch.now c.args.book.now c.args.lanes.now c.meet_all.new.lanes c.requires c.meet_all.ensures.met c.meet_all.ensures.begun (subst (λ (s : SessionView). IsAcceptedProtocol s.protocol) c.setup.ensures c.protocol-protocol.ensures.accepted) c.entries-entries.ensures.legal c.merge_logs.new.merged.items c.in_ok-merge_logs.ensures c.push_all.new.book c.clear_logs.new.lanes (c.push_all.ensures ∙ ap (with_more c.args.book.now) c.as_slice.ensures.value) c.clear_logs.ensures.count c.clear_logs.ensures.cleared

pub returns-clause-bases : goal.returns-clause-bases
returns-clause-bases c r d = cleared_bases c.meet_all.new.lanes c.clear_logs.new.lanes c.clear_logs.ensures.count c.clear_logs.ensures.cleared r d ∙ met_bases c.args.lanes.now c.meet_all.new.lanes c.meet_all.ensures.met r d

pub returns-clause-merged : goal.returns-clause-merged
returns-clause-merged c = record {
  merged = c.merge_logs.new.merged.items;
  is = subst (λ (logs : List (List Timed)). IsMergeOf logs c.merge_logs.new.merged.items) (met_logs c.args.lanes.now c.meet_all.new.lanes c.meet_all.ensures.met) c.in_ok-merge_logs.ensures;
  added = c.push_all.ensures ∙ ap (with_more c.args.book.now) c.as_slice.ensures.value;
}
