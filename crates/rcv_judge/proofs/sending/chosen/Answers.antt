-- The parts of the Send.
use Rattle.std.proofs.Common.{◌+◌, ◌<◌, ◌^◌, refl, sym, ◌∙◌, ap, subst, arith, rules}
use Rattle.std.specs.List.{All}
use Rattle.rcv_tree.specs.declared.event.Event.{Event}
use Rattle.rcv_model.specs.Journal.{numbers_at, place}
use Rattle.rcv_model.proofs.Numbers.{bounded}
use Rattle.rcv_accept.specs.Accepted.{IsAcceptedProtocol}
use Rattle.rcv_session.specs.Session.{SessionView, rules_of, IsPointOf}
use Rattle.rcv_core.specs.Book.{state_of, most_entries}
use Rattle.rcv_core.proofs.Books.{IsOfText, few_entries}
use Rattle.rcv_core.proofs.Picking.{in_text, offered_text}
use Rattle.rcv_judge.specs.Could.{IsSendOf}
use Rattle.rcv_judge.proofs.Sends.{stands_there, are_sent, pick_in, pick_told, number_told, sends}
use Rattle.rcv_judge.proofs.sending.chosen.Goals as goal

pub choose-point-requires-clause-some : goal.choose-point-requires-clause-some
choose-point-requires-clause-some c = (are_sent c.args.book.now c.args.role c.next_points-offered.result.now c.requires.next c.next_points-offered.ensures).some

pub choose-point-requires-clause-points : goal.choose-point-requires-clause-points
choose-point-requires-clause-points c =
    let plain : IsAcceptedProtocol c.args.book.now.setup.protocol = subst (λ (s : SessionView). IsAcceptedProtocol s.protocol) c.setup-setup.ensures c.roles-roles.ensures.accepted in
    subst (λ (s : SessionView). All (IsPointOf s) c.next_points-offered.result.now) (sym c.setup-setup.ensures) (offered_text c.args.book.now.setup plain c.args.role (place (state_of c.args.book.now) c.args.role) c.requires.free.declared (stands_there c.args.book.now plain c.entries-entries.ensures.legal c.args.role) c.next_points-offered.result.now c.next_points-offered.ensures)

pub overflow_add-stamp : goal.overflow_add-stamp
overflow_add-stamp c =
    let most = subst (λ (s : SessionView). most_entries (rules_of s) + 1 < 2 ^ 34) c.setup-setup.ensures (few_entries c.setup-setup.result.now c.roles-roles.ensures.accepted c.roles-roles.ensures.planned) in
    let bounds = bounded (rules_of c.args.book.now.setup) c.args.book.now.entries c.entries-entries.ensures.legal in
    let few = bounds.entries in
    let clock = bounds.clocks c.args.role in
    let here = c.clock-stamp.ensures in
    omega (arith, most, few, clock, here)

pub value-value-requires-clause-first : goal.value-value-requires-clause-first
value-value-requires-clause-first c =
    let plain : IsAcceptedProtocol c.args.book.now.setup.protocol = subst (λ (s : SessionView). IsAcceptedProtocol s.protocol) c.setup-setup.ensures c.roles-roles.ensures.accepted in
    let told = pick_told c.setup-setup.result.now c.args.book.now.setup c.args.role c.choose-point.result c.attempt-attempt.result (numbers_at (state_of c.args.book.now).roles c.args.role).attempt c.vars-vars.result.now c.next_points-offered.result.now c.setup-setup.ensures c.attempt-attempt.ensures c.choose-point.ensures in
    (in_text c.args.book.now.setup plain c.args.role (place (state_of c.args.book.now) c.args.role) c.requires.free.declared (stands_there c.args.book.now plain c.entries-entries.ensures.legal c.args.role) c.next_points-offered.result.now c.next_points-offered.ensures c.choose-point.result
    (pick_in c.args.book.now.setup (state_of c.args.book.now) c.args.role c.vars-vars.result.now c.next_points-offered.result.now c.vars-vars.ensures c.next_points-offered.ensures c.choose-point.result (are_sent c.args.book.now c.args.role c.next_points-offered.result.now c.requires.next c.next_points-offered.ensures).some told)).first

pub value-value-requires-clause-last : goal.value-value-requires-clause-last
value-value-requires-clause-last c =
    let plain : IsAcceptedProtocol c.args.book.now.setup.protocol = subst (λ (s : SessionView). IsAcceptedProtocol s.protocol) c.setup-setup.ensures c.roles-roles.ensures.accepted in
    let told = pick_told c.setup-setup.result.now c.args.book.now.setup c.args.role c.choose-point.result c.attempt-attempt.result (numbers_at (state_of c.args.book.now).roles c.args.role).attempt c.vars-vars.result.now c.next_points-offered.result.now c.setup-setup.ensures c.attempt-attempt.ensures c.choose-point.ensures in
    (subst (λ (s : SessionView). IsOfText s c.choose-point.result) (sym c.setup-setup.ensures) (in_text c.args.book.now.setup plain c.args.role (place (state_of c.args.book.now) c.args.role) c.requires.free.declared (stands_there c.args.book.now plain c.entries-entries.ensures.legal c.args.role) c.next_points-offered.result.now c.next_points-offered.ensures c.choose-point.result
    (pick_in c.args.book.now.setup (state_of c.args.book.now) c.args.role c.vars-vars.result.now c.next_points-offered.result.now c.vars-vars.ensures c.next_points-offered.ensures c.choose-point.result (are_sent c.args.book.now c.args.role c.next_points-offered.result.now c.requires.next c.next_points-offered.ensures).some told))).last

pub returns : goal.returns
returns c =
    let told = pick_told c.setup-setup.result.now c.args.book.now.setup c.args.role c.choose-point.result c.attempt-attempt.result (numbers_at (state_of c.args.book.now).roles c.args.role).attempt c.vars-vars.result.now c.next_points-offered.result.now c.setup-setup.ensures c.attempt-attempt.ensures c.choose-point.ensures in
    let number = number_told c.setup-setup.result.now c.args.book.now.setup c.args.role c.choose-point.result c.choose-point.result c.attempt-attempt.result (numbers_at (state_of c.args.book.now).roles c.args.role).attempt c.value-value.result c.vars-vars.result.now c.setup-setup.ensures c.attempt-attempt.ensures refl c.value-value.ensures in
    subst (λ (e : Event). IsSendOf c.args.book.now c.args.role e) (sym c.send.ensures) (
      refl,
      sends c.args.book.now.setup (state_of c.args.book.now) c.args.role c.vars-vars.result.now c.next_points-offered.result.now c.vars-vars.ensures c.next_points-offered.ensures c.choose-point.result (c.clock-stamp.result + 1) _ c.requires.free
          (are_sent c.args.book.now c.args.role c.next_points-offered.result.now c.requires.next c.next_points-offered.ensures) told (search rules ∙ number) (ap (λ n. n + 1) c.clock-stamp.ensures),
    )
