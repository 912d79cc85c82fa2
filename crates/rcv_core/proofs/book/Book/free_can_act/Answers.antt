-- The next points decide: the chosen point's channel has room, a message waits, or nothing comes next.
use Rattle.std.proofs.Common.{◌≡◌, subst, sym, ◌∙◌, arith}
use Rattle.std.specs.Prelude.{IsTrue, ◌↔◌}
use Rattle.std.proofs.lemmas.Bool.Decides.{nat_tests}
use Rattle.rcv_model.specs.Next.{AreNext}
use Rattle.rcv_model.specs.Journal.{IsFree}
use Rattle.rcv_model.specs.Final.{CanAct}
use Rattle.rcv_session.specs.Session.{net_for, rules_of}
use Rattle.rcv_core.specs.Choices.{AreSent}
use Rattle.rcv_core.specs.Book.{BookView, state_of, point_chosen_in, HasRoomAt, IsNextStep, IsNextRecv}
use Rattle.rcv_core.proofs.Books.{declared_in, stood, of_next}
use Rattle.rcv_core.proofs.Picking.{nothing, first_in, all_sent}
use Rattle.rcv_core.proofs.Stepping.{done_role, next_step, recv_of, able_to_send}
use Rattle.rcv_core.proofs.book.Book.free_can_act.Goals as goal

pub next-offered-requires-clause-place : goal.next-offered-requires-clause-place
next-offered-requires-clause-place c = stood c.self.inside.setup.now c.self.inside.ledger.entries c.self.inside.numbers.items c.self.inside.ledger c.self.invariant.book c.args.role c.top.result.now (declared_in c.args.self.now c.self.inside.setup.now c.self.inside.ledger.entries c.args.role c.self.view_is c.requires.declared) c.top.ensures

pub sender-sender-requires-clause-first : goal.sender-sender-requires-clause-first
sender-sender-requires-clause-first c = (of_next c.self.inside.setup.now c.args.role c.top.result.now.k c.first-item.result c.self.invariant.book.protocol (c.next-offered.ensures.sound c.first-item.result (first_in c.next-offered.result.now c.first-item.result c.in-len1-up.len_at_least c.first-item.is))).first

pub sender-sender-requires-clause-last : goal.sender-sender-requires-clause-last
sender-sender-requires-clause-last c = (of_next c.self.inside.setup.now c.args.role c.top.result.now.k c.first-item.result c.self.invariant.book.protocol (c.next-offered.ensures.sound c.first-item.result (first_in c.next-offered.result.now c.first-item.result c.in-len1-up.len_at_least c.first-item.is))).last

pub returns-in_default : goal.returns-in_default
returns-in_default c =
    let lt = declared_in c.args.self.now c.self.inside.setup.now c.self.inside.ledger.entries c.args.role c.self.view_is c.requires.declared in (
      (λ t. absurd (cc)),
      λ able. absurd (subst (λ (b : BookView). CanAct (rules_of b.setup) (state_of b) c.args.role → ⊥) c.self.view_is
          (done_role c.self.inside.setup.now c.self.inside.ledger.entries c.self.inside.numbers.items c.self.inside.ledger c.self.invariant.book c.args.role c.top.result.now lt c.top.ensures (subst (AreNext (net_for c.self.inside.setup.now) c.args.role c.top.result.now.k) (nothing c.next-offered.result.now c.in_default.len_below) c.next-offered.ensures)) able),
    )

pub can_send-requires-clause-step : goal.can_send-requires-clause-step
can_send-requires-clause-step c =
    let lt = declared_in c.args.self.now c.self.inside.setup.now c.self.inside.ledger.entries c.args.role c.self.view_is c.requires.declared in
    let free = subst (λ (b : BookView). IsFree (rules_of b.setup) (state_of b) c.args.role) (sym c.self.view_is) c.requires.free in
    subst (λ (b : BookView). IsNextStep b c.args.role c.next-offered.result.now) c.self.view_is
    (next_step c.self.inside.setup.now c.self.inside.ledger.entries c.self.inside.numbers.items c.self.inside.ledger c.self.invariant.book c.args.role c.top.result.now lt c.top.ensures c.next-offered.result.now free c.next-offered.ensures)

pub can_send-requires-clause-sends : goal.can_send-requires-clause-sends
can_send-requires-clause-sends c =
    let lt = declared_in c.args.self.now c.self.inside.setup.now c.self.inside.ledger.entries c.args.role c.self.view_is c.requires.declared in
    let stands = stood c.self.inside.setup.now c.self.inside.ledger.entries c.self.inside.numbers.items c.self.inside.ledger c.self.invariant.book c.args.role c.top.result.now lt c.top.ensures in
    let own : c.sender-sender.result ≡ c.args.role = let f = c.if-eq.ensures in grind (arith, nat_tests) in
    subst (λ (b : BookView). AreSent (net_for b.setup) c.args.role c.next-offered.result.now) c.self.view_is
    (all_sent c.self.inside.setup.now c.self.invariant.book.protocol c.args.role c.top.result.now.k lt stands c.next-offered.result.now c.next-offered.ensures c.first-item.result c.in-len1-up.len_at_least c.first-item.is (sym c.sender-sender.ensures ∙ own))

pub can_recv-requires : goal.can_recv-requires
can_recv-requires c =
    let lt = declared_in c.args.self.now c.self.inside.setup.now c.self.inside.ledger.entries c.args.role c.self.view_is c.requires.declared in
    let free = subst (λ (b : BookView). IsFree (rules_of b.setup) (state_of b) c.args.role) (sym c.self.view_is) c.requires.free in
    let other : c.sender-sender.result ≡ c.args.role → ⊥ = λ e. let f = c.if-eq.ensures in grind (arith, nat_tests) in
    subst (λ (b : BookView). IsNextRecv b c.args.role c.sender-sender.result) c.self.view_is
    (recv_of c.self.inside.setup.now c.self.inside.ledger.entries c.self.inside.numbers.items c.self.inside.ledger c.self.invariant.book c.args.role c.top.result.now lt c.top.ensures c.next-offered.result.now c.first-item.result c.sender-sender.result free c.next-offered.ensures c.in-len1-up.len_at_least c.first-item.is c.sender-sender.ensures other)

pub returns-then-eq : goal.returns-then-eq
returns-then-eq c =
    let setup = c.self.inside.setup.now in
    let lt = declared_in c.args.self.now setup c.self.inside.ledger.entries c.args.role c.self.view_is c.requires.declared in
    let free = subst (λ (b : BookView). IsFree (rules_of b.setup) (state_of b) c.args.role) (sym c.self.view_is) c.requires.free in
    let own : c.sender-sender.result ≡ c.args.role = let f = c.if-eq.ensures in let t = c.if-eq.true in grind (arith, nat_tests) in
    let step = next_step setup c.self.inside.ledger.entries c.self.inside.numbers.items c.self.inside.ledger c.self.invariant.book c.args.role c.top.result.now lt c.top.ensures c.next-offered.result.now free c.next-offered.ensures in
    let stands = stood setup c.self.inside.ledger.entries c.self.inside.numbers.items c.self.inside.ledger c.self.invariant.book c.args.role c.top.result.now lt c.top.ensures in
    let sends = all_sent setup c.self.invariant.book.protocol c.args.role c.top.result.now.k lt stands c.next-offered.result.now c.next-offered.ensures c.first-item.result c.in-len1-up.len_at_least c.first-item.is (sym c.sender-sender.ensures ∙ own) in
    let room = subst (λ (b : BookView). IsTrue c.can_send.result ↔ HasRoomAt b c.args.role (point_chosen_in b c.args.role c.next-offered.result.now)) (sym c.self.view_is) c.can_send.ensures in
    subst (λ (b : BookView). IsTrue c.can_send.result ↔ CanAct (rules_of b.setup) (state_of b) c.args.role) c.self.view_is
    (able_to_send setup c.self.inside.ledger.entries c.self.inside.numbers.items c.self.inside.ledger c.self.invariant.book c.args.role c.next-offered.result.now step sends c.can_send.result room)
