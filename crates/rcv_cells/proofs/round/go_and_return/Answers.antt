-- The merged entries may come, and the cells come home with them.
use Rattle.std.proofs.Common.{◌≡◌, subst, sym, ◌∙◌, ap}
use Rattle.rcv_model.specs.Journal.{IsLegalFrom}
use Rattle.rcv_accept.specs.Accepted.{IsAcceptedProtocol}
use Rattle.rcv_session.specs.Session.{SessionView, rules_of}
use Rattle.rcv_core.specs.Book.{state_of, with_more}
use Rattle.rcv_cells.specs.Ahead.{BringHome}
use Rattle.rcv_cells.proofs.Ahead.{round_brings_home}
use Rattle.rcv_cells.proofs.Bases.{round_bases}
use Rattle.rcv_cells.proofs.Rounds.{rise, may_come, come_back, gone_can_meet, made_round}
use Rattle.rcv_cells.proofs.round.go_and_return.Goals as goal

pub meet_all-requires : goal.meet_all-requires
meet_all-requires g c =
    gone_can_meet c.args.book.now c.args.lanes.now c.go_out-activity.new.lanes c.requires.home c.go_out-activity.ensures.go

pub merge_logs-requires-clause-rise : goal.merge_logs-requires-clause-rise
merge_logs-requires-clause-rise g c =
    let accepted = subst (λ (s : SessionView). IsAcceptedProtocol s.protocol) c.setup.ensures c.protocol-protocol.ensures.accepted in
    rise c.args.book.now c.args.lanes.now c.go_out-activity.new.lanes c.meet_all.new.lanes c.requires.home c.go_out-activity.ensures.go
    c.meet_all.ensures.met c.meet_all.ensures.begun accepted c.entries-entries.ensures.legal

pub push_all-requires-clause-legal : goal.push_all-requires-clause-legal
push_all-requires-clause-legal g c =
    let accepted = subst (λ (s : SessionView). IsAcceptedProtocol s.protocol) c.setup.ensures c.protocol-protocol.ensures.accepted in
    subst (IsLegalFrom (rules_of c.args.book.now.setup) (state_of c.args.book.now)) (sym c.as_slice.ensures.value)
    (may_come c.args.book.now c.args.lanes.now c.go_out-activity.new.lanes c.meet_all.new.lanes c.requires.home c.go_out-activity.ensures.go
    c.meet_all.ensures.met c.meet_all.ensures.begun accepted c.entries-entries.ensures.legal c.merge_logs.new.merged.items c.in_ok-merge_logs.ensures)

pub push_all-requires-clause-home : goal.push_all-requires-clause-home
push_all-requires-clause-home g c =
    let accepted = subst (λ (s : SessionView). IsAcceptedProtocol s.protocol) c.setup.ensures c.protocol-protocol.ensures.accepted in
    subst (λ merged. BringHome c.args.book.now merged c.meet_all.new.lanes) (sym c.as_slice.ensures.value)
    (round_brings_home c.args.book.now c.args.lanes.now c.go_out-activity.new.lanes c.meet_all.new.lanes c.requires.home c.go_out-activity.ensures.go
    c.meet_all.ensures.met c.meet_all.ensures.begun accepted c.entries-entries.ensures.legal c.merge_logs.new.merged.items c.in_ok-merge_logs.ensures)

pub returns-clause-home : goal.returns-clause-home
returns-clause-home g c =
    let accepted = subst (λ (s : SessionView). IsAcceptedProtocol s.protocol) c.setup.ensures c.protocol-protocol.ensures.accepted in
    let added : c.push_all.new.book ≡ with_more c.args.book.now c.merge_logs.new.merged.items = c.push_all.ensures ∙ ap (with_more c.args.book.now) c.as_slice.ensures.value in
    come_back c.args.book.now c.args.lanes.now c.go_out-activity.new.lanes c.meet_all.new.lanes c.requires.home c.go_out-activity.ensures.go
    c.meet_all.ensures.met c.meet_all.ensures.begun accepted c.entries-entries.ensures.legal c.merge_logs.new.merged.items c.in_ok-merge_logs.ensures c.push_all.new.book c.clear_logs.new.lanes added
    c.clear_logs.ensures.count c.clear_logs.ensures.cleared

pub returns-clause-made : goal.returns-clause-made
returns-clause-made g c =
    let accepted = subst (λ (s : SessionView). IsAcceptedProtocol s.protocol) c.setup.ensures c.protocol-protocol.ensures.accepted in
    let added : c.push_all.new.book ≡ with_more c.args.book.now c.merge_logs.new.merged.items = c.push_all.ensures ∙ ap (with_more c.args.book.now) c.as_slice.ensures.value in
    made_round c.args.watch.now c.args.book.now c.args.lanes.now c.go_out-activity.new.lanes c.meet_all.new.lanes c.requires.home
    c.go_out-activity.ensures.ran c.meet_all.ensures.met c.meet_all.ensures.begun accepted c.entries-entries.ensures.legal c.merge_logs.new.merged.items
    c.in_ok-merge_logs.ensures c.push_all.new.book added

pub returns-clause-bases : goal.returns-clause-bases
returns-clause-bases g c =
    round_bases c.args.lanes.now c.go_out-activity.new.lanes c.meet_all.new.lanes c.clear_logs.new.lanes c.go_out-activity.ensures.go c.meet_all.ensures.met
    c.clear_logs.ensures.count c.clear_logs.ensures.cleared
