-- The cell of the event's role makes its step, and the cells are out with it.
use Rattle.std.proofs.Common.{◌≡◌, ◌≤◌, sym, ◌∙◌, ap, subst}
use Rattle.rcv_plan.specs.Lines.{IsPlanned}
use Rattle.rcv_accept.specs.Accepted.{IsAcceptedProtocol}
use Rattle.rcv_session.specs.Session.{SessionView, roles_of, net_for}
use Rattle.rcv_super.proofs.Bases.{event_bases}
use Rattle.rcv_super.proofs.Stepping.{event_between, old_from, old_to, from_apart, met_can_poll, gone_from, gone_to, gone_meet, event_out}
use Rattle.rcv_super.proofs.step.make_event.Goals as goal

pub sender-requires-clause-first : goal.sender-requires-clause-first
sender-requires-clause-first g c =
    let accepted : IsAcceptedProtocol c.args.book.now.setup.protocol = subst (λ (s : SessionView). IsAcceptedProtocol s.protocol) c.setup.ensures c.roles-roles.ensures.accepted in
    (event_between c.args.book.now accepted c.args.entry.now c.args.event.now c.requires.next).first

pub sender-requires-clause-last : goal.sender-requires-clause-last
sender-requires-clause-last g c =
    let accepted : IsAcceptedProtocol c.args.book.now.setup.protocol = subst (λ (s : SessionView). IsAcceptedProtocol s.protocol) c.setup.ensures c.roles-roles.ensures.accepted in
    subst (λ (s : SessionView). c.args.event.now.point ≤ (net_for s).count) (sym c.setup-2.ensures) (event_between c.args.book.now accepted c.args.entry.now c.args.event.now c.requires.next).last

pub receiver-requires-clause-first : goal.receiver-requires-clause-first
receiver-requires-clause-first g c =
    let accepted : IsAcceptedProtocol c.args.book.now.setup.protocol = subst (λ (s : SessionView). IsAcceptedProtocol s.protocol) c.setup.ensures c.roles-roles.ensures.accepted in
    (event_between c.args.book.now accepted c.args.entry.now c.args.event.now c.requires.next).first

pub receiver-requires-clause-last : goal.receiver-requires-clause-last
receiver-requires-clause-last g c =
    let accepted : IsAcceptedProtocol c.args.book.now.setup.protocol = subst (λ (s : SessionView). IsAcceptedProtocol s.protocol) c.setup.ensures c.roles-roles.ensures.accepted in
    subst (λ (s : SessionView). c.args.event.now.point ≤ (net_for s).count) (sym c.setup-3.ensures) (event_between c.args.book.now accepted c.args.entry.now c.args.event.now c.requires.next).last

pub meet_pair-requires-clause-from : goal.meet_pair-requires-clause-from
meet_pair-requires-clause-from g c =
    let from : (net_for c.args.book.now.setup).sender c.args.event.now.point ≡ c.from.inside.0 = sym (c.from.view_is ∙ c.sender.ensures ∙ ap (λ (s : SessionView). (net_for s).sender c.args.event.now.point) c.setup-2.ensures) in
    let to : (net_for c.args.book.now.setup).receiver c.args.event.now.point ≡ c.to.inside.0 = sym (c.to.view_is ∙ c.receiver.ensures ∙ ap (λ (s : SessionView). (net_for s).receiver c.args.event.now.point) c.setup-3.ensures) in
    let accepted : IsAcceptedProtocol c.args.book.now.setup.protocol = subst (λ (s : SessionView). IsAcceptedProtocol s.protocol) c.setup.ensures c.roles-roles.ensures.accepted in
    old_from c.args.book.now c.args.lanes.now c.requires.home c.args.entry.now c.args.event.now c.requires.next c.from.inside.0 c.to.inside.0 from to accepted

pub meet_pair-requires-clause-to : goal.meet_pair-requires-clause-to
meet_pair-requires-clause-to g c =
    let from : (net_for c.args.book.now.setup).sender c.args.event.now.point ≡ c.from.inside.0 = sym (c.from.view_is ∙ c.sender.ensures ∙ ap (λ (s : SessionView). (net_for s).sender c.args.event.now.point) c.setup-2.ensures) in
    let to : (net_for c.args.book.now.setup).receiver c.args.event.now.point ≡ c.to.inside.0 = sym (c.to.view_is ∙ c.receiver.ensures ∙ ap (λ (s : SessionView). (net_for s).receiver c.args.event.now.point) c.setup-3.ensures) in
    let accepted : IsAcceptedProtocol c.args.book.now.setup.protocol = subst (λ (s : SessionView). IsAcceptedProtocol s.protocol) c.setup.ensures c.roles-roles.ensures.accepted in
    old_to c.args.book.now c.args.lanes.now c.requires.home c.args.entry.now c.args.event.now c.requires.next c.from.inside.0 c.to.inside.0 from to accepted

pub meet_pair-requires-clause-apart : goal.meet_pair-requires-clause-apart
meet_pair-requires-clause-apart g c =
    let from : (net_for c.args.book.now.setup).sender c.args.event.now.point ≡ c.from.inside.0 = sym (c.from.view_is ∙ c.sender.ensures ∙ ap (λ (s : SessionView). (net_for s).sender c.args.event.now.point) c.setup-2.ensures) in
    let to : (net_for c.args.book.now.setup).receiver c.args.event.now.point ≡ c.to.inside.0 = sym (c.to.view_is ∙ c.receiver.ensures ∙ ap (λ (s : SessionView). (net_for s).receiver c.args.event.now.point) c.setup-3.ensures) in
    let accepted : IsAcceptedProtocol c.args.book.now.setup.protocol = subst (λ (s : SessionView). IsAcceptedProtocol s.protocol) c.setup.ensures c.roles-roles.ensures.accepted in
    from_apart c.args.book.now c.args.lanes.now c.requires.home c.args.entry.now c.args.event.now c.requires.next c.from.inside.0 c.to.inside.0 from to accepted

pub poll_at-requires-clause-ready : goal.poll_at-requires-clause-ready
poll_at-requires-clause-ready g c =
    let from : (net_for c.args.book.now.setup).sender c.args.event.now.point ≡ c.from.inside.0 = sym (c.from.view_is ∙ c.sender.ensures ∙ ap (λ (s : SessionView). (net_for s).sender c.args.event.now.point) c.setup-2.ensures) in
    let to : (net_for c.args.book.now.setup).receiver c.args.event.now.point ≡ c.to.inside.0 = sym (c.to.view_is ∙ c.receiver.ensures ∙ ap (λ (s : SessionView). (net_for s).receiver c.args.event.now.point) c.setup-3.ensures) in
    let accepted : IsAcceptedProtocol c.args.book.now.setup.protocol = subst (λ (s : SessionView). IsAcceptedProtocol s.protocol) c.setup.ensures c.roles-roles.ensures.accepted in
    met_can_poll c.args.book.now c.args.lanes.now c.requires.home c.args.entry.now c.args.event.now c.requires.next c.from.inside.0 c.to.inside.0 from to accepted c.meet_pair.new.lanes c.meet_pair.ensures.met

pub meet_pair-requires-2-clause-from : goal.meet_pair-requires-2-clause-from
meet_pair-requires-2-clause-from g c =
    let from : (net_for c.args.book.now.setup).sender c.args.event.now.point ≡ c.from.inside.0 = sym (c.from.view_is ∙ c.sender.ensures ∙ ap (λ (s : SessionView). (net_for s).sender c.args.event.now.point) c.setup-2.ensures) in
    let to : (net_for c.args.book.now.setup).receiver c.args.event.now.point ≡ c.to.inside.0 = sym (c.to.view_is ∙ c.receiver.ensures ∙ ap (λ (s : SessionView). (net_for s).receiver c.args.event.now.point) c.setup-3.ensures) in
    let accepted : IsAcceptedProtocol c.args.book.now.setup.protocol = subst (λ (s : SessionView). IsAcceptedProtocol s.protocol) c.setup.ensures c.roles-roles.ensures.accepted in
    let planned : IsPlanned (roles_of c.args.book.now.setup) c.args.book.now.setup.plan = subst (λ (s : SessionView). IsPlanned (roles_of s) s.plan) c.setup.ensures c.roles-roles.ensures.planned in
    gone_from c.args.book.now c.args.lanes.now c.requires.home c.args.entry.now c.args.event.now c.requires.next c.from.inside.0 c.to.inside.0 from to accepted c.meet_pair.new.lanes c.meet_pair.ensures.met c.meet_pair.ensures.paired planned c.entries-entries.ensures.legal c.poll_at.new.lanes c.poll_at.ensures.count c.poll_at.ensures.others c.poll_at.ensures.polled

pub meet_pair-requires-2-clause-to : goal.meet_pair-requires-2-clause-to
meet_pair-requires-2-clause-to g c =
    let from : (net_for c.args.book.now.setup).sender c.args.event.now.point ≡ c.from.inside.0 = sym (c.from.view_is ∙ c.sender.ensures ∙ ap (λ (s : SessionView). (net_for s).sender c.args.event.now.point) c.setup-2.ensures) in
    let to : (net_for c.args.book.now.setup).receiver c.args.event.now.point ≡ c.to.inside.0 = sym (c.to.view_is ∙ c.receiver.ensures ∙ ap (λ (s : SessionView). (net_for s).receiver c.args.event.now.point) c.setup-3.ensures) in
    let accepted : IsAcceptedProtocol c.args.book.now.setup.protocol = subst (λ (s : SessionView). IsAcceptedProtocol s.protocol) c.setup.ensures c.roles-roles.ensures.accepted in
    let planned : IsPlanned (roles_of c.args.book.now.setup) c.args.book.now.setup.plan = subst (λ (s : SessionView). IsPlanned (roles_of s) s.plan) c.setup.ensures c.roles-roles.ensures.planned in
    gone_to c.args.book.now c.args.lanes.now c.requires.home c.args.entry.now c.args.event.now c.requires.next c.from.inside.0 c.to.inside.0 from to accepted c.meet_pair.new.lanes c.meet_pair.ensures.met c.meet_pair.ensures.paired planned c.entries-entries.ensures.legal c.poll_at.new.lanes c.poll_at.ensures.count c.poll_at.ensures.others c.poll_at.ensures.polled

pub meet_pair-requires-2-clause-apart : goal.meet_pair-requires-2-clause-apart
meet_pair-requires-2-clause-apart g c =
    let from : (net_for c.args.book.now.setup).sender c.args.event.now.point ≡ c.from.inside.0 = sym (c.from.view_is ∙ c.sender.ensures ∙ ap (λ (s : SessionView). (net_for s).sender c.args.event.now.point) c.setup-2.ensures) in
    let to : (net_for c.args.book.now.setup).receiver c.args.event.now.point ≡ c.to.inside.0 = sym (c.to.view_is ∙ c.receiver.ensures ∙ ap (λ (s : SessionView). (net_for s).receiver c.args.event.now.point) c.setup-3.ensures) in
    let accepted : IsAcceptedProtocol c.args.book.now.setup.protocol = subst (λ (s : SessionView). IsAcceptedProtocol s.protocol) c.setup.ensures c.roles-roles.ensures.accepted in
    from_apart c.args.book.now c.args.lanes.now c.requires.home c.args.entry.now c.args.event.now c.requires.next c.from.inside.0 c.to.inside.0 from to accepted

pub meet_pair-requires-2-clause-pairs : goal.meet_pair-requires-2-clause-pairs
meet_pair-requires-2-clause-pairs g c =
    let from : (net_for c.args.book.now.setup).sender c.args.event.now.point ≡ c.from.inside.0 = sym (c.from.view_is ∙ c.sender.ensures ∙ ap (λ (s : SessionView). (net_for s).sender c.args.event.now.point) c.setup-2.ensures) in
    let to : (net_for c.args.book.now.setup).receiver c.args.event.now.point ≡ c.to.inside.0 = sym (c.to.view_is ∙ c.receiver.ensures ∙ ap (λ (s : SessionView). (net_for s).receiver c.args.event.now.point) c.setup-3.ensures) in
    let accepted : IsAcceptedProtocol c.args.book.now.setup.protocol = subst (λ (s : SessionView). IsAcceptedProtocol s.protocol) c.setup.ensures c.roles-roles.ensures.accepted in
    let planned : IsPlanned (roles_of c.args.book.now.setup) c.args.book.now.setup.plan = subst (λ (s : SessionView). IsPlanned (roles_of s) s.plan) c.setup.ensures c.roles-roles.ensures.planned in
    gone_meet c.args.book.now c.args.lanes.now c.requires.home c.args.entry.now c.args.event.now c.requires.next c.from.inside.0 c.to.inside.0 from to accepted c.meet_pair.new.lanes c.meet_pair.ensures.met c.meet_pair.ensures.paired planned c.entries-entries.ensures.legal c.poll_at.new.lanes c.poll_at.ensures.count c.poll_at.ensures.others c.poll_at.ensures.polled

pub add_entry-requires : goal.add_entry-requires
add_entry-requires g c =
    let from : (net_for c.args.book.now.setup).sender c.args.event.now.point ≡ c.from.inside.0 = sym (c.from.view_is ∙ c.sender.ensures ∙ ap (λ (s : SessionView). (net_for s).sender c.args.event.now.point) c.setup-2.ensures) in
    let to : (net_for c.args.book.now.setup).receiver c.args.event.now.point ≡ c.to.inside.0 = sym (c.to.view_is ∙ c.receiver.ensures ∙ ap (λ (s : SessionView). (net_for s).receiver c.args.event.now.point) c.setup-3.ensures) in
    let accepted : IsAcceptedProtocol c.args.book.now.setup.protocol = subst (λ (s : SessionView). IsAcceptedProtocol s.protocol) c.setup.ensures c.roles-roles.ensures.accepted in
    let planned : IsPlanned (roles_of c.args.book.now.setup) c.args.book.now.setup.plan = subst (λ (s : SessionView). IsPlanned (roles_of s) s.plan) c.setup.ensures c.roles-roles.ensures.planned in
    event_out c.args.book.now c.args.lanes.now c.requires.home c.args.entry.now c.args.event.now c.requires.next c.from.inside.0 c.to.inside.0 from to accepted c.meet_pair.new.lanes c.meet_pair.ensures.met c.meet_pair.ensures.paired planned c.entries-entries.ensures.legal c.poll_at.new.lanes c.poll_at.ensures.count c.poll_at.ensures.others c.poll_at.ensures.polled c.meet_pair-2.new.lanes c.meet_pair-2.ensures.met c.meet_pair-2.ensures.paired

pub returns-clause-bases : goal.returns-clause-bases
returns-clause-bases g c r d =
    c.add_entry.ensures.bases r d ∙ event_bases c.args.lanes.now c.meet_pair.new.lanes c.poll_at.new.lanes c.meet_pair-2.new.lanes c.args.event.now.role c.meet_pair.ensures.met c.poll_at.ensures.others c.poll_at.ensures.polled c.meet_pair-2.ensures.met r d
