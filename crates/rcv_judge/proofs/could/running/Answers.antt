-- At the limit or below it; there it sends or receives.
use Rattle.std.proofs.Common.{◌≡◌, ◌≢◌, sym, ◌∙◌, ap, subst, arith}
use Rattle.std.proofs.lemmas.Bool.Decides.{nat_tests}
use Rattle.rcv_accept.specs.Accepted.{IsAcceptedProtocol}
use Rattle.rcv_session.specs.Session.{SessionView, rules_of}
use Rattle.rcv_core.specs.Book.{state_of}
use Rattle.rcv_judge.specs.Could.{HasSender}
use Rattle.rcv_judge.proofs.Doing.{is_at_limit, is_free, sends}
use Rattle.rcv_judge.proofs.could.running.Goals as goal
use Rattle.rcv_model.specs.Journal.{numbers_at}

pub returns-then-raw-limit : goal.returns-then-raw-limit
returns-then-raw-limit c =
    let t = c.if-raw-limit.true in
    let same : c.raw.result ≡ c.limit.result = omega (arith, t) in
    is_at_limit c.args.book.now c.args.role c.requires.calm c.requires.idle c.args.sender c.requires.next (sym c.raw.ensures ∙ same ∙ c.limit.ensures.value ∙ ap (λ (s : SessionView). (rules_of s).limit) c.setup-setup.ensures)

pub chosen-requires-clause-free : goal.chosen-requires-clause-free
chosen-requires-clause-free c =
    let plain : IsAcceptedProtocol c.args.book.now.setup.protocol = subst (λ (s : SessionView). IsAcceptedProtocol s.protocol) c.setup-setup.ensures c.protocol-protocol.ensures.accepted in
    let below : (numbers_at (state_of c.args.book.now).roles c.args.role).raw ≢ (rules_of c.args.book.now.setup).limit =
    λ at. let same = c.raw.ensures ∙ at ∙ sym (c.limit.ensures.value ∙ ap (λ (s : SessionView). (rules_of s).limit) c.setup-setup.ensures) in let f = c.if-raw-limit.false in omega (arith, same, f) in
    is_free c.args.book.now plain c.entries-entries.ensures.legal c.args.role c.requires.declared c.requires.calm c.requires.idle below

pub chosen-requires-clause-next : goal.chosen-requires-clause-next
chosen-requires-clause-next c =
    let f = c.if-eq.true in
    let g = c.eq.ensures in
    let same : c.args.sender ≡ c.args.role = grind (arith, nat_tests) in
    subst (HasSender c.args.book.now c.args.role) same c.requires.next

pub receiving-requires-clause-free : goal.receiving-requires-clause-free
receiving-requires-clause-free c =
    let plain : IsAcceptedProtocol c.args.book.now.setup.protocol = subst (λ (s : SessionView). IsAcceptedProtocol s.protocol) c.setup-setup.ensures c.protocol-protocol.ensures.accepted in
    let below : (numbers_at (state_of c.args.book.now).roles c.args.role).raw ≢ (rules_of c.args.book.now.setup).limit =
    λ at. let same = c.raw.ensures ∙ at ∙ sym (c.limit.ensures.value ∙ ap (λ (s : SessionView). (rules_of s).limit) c.setup-setup.ensures) in let f = c.if-raw-limit.false in omega (arith, same, f) in
    is_free c.args.book.now plain c.entries-entries.ensures.legal c.args.role c.requires.declared c.requires.calm c.requires.idle below

pub receiving-requires-clause-other : goal.receiving-requires-clause-other
receiving-requires-clause-other c = λ same. let f = c.if-eq.false in let g = c.eq.ensures in grind (arith, nat_tests)

pub returns-then-eq : goal.returns-then-eq
returns-then-eq c =
    let plain : IsAcceptedProtocol c.args.book.now.setup.protocol = subst (λ (s : SessionView). IsAcceptedProtocol s.protocol) c.setup-setup.ensures c.protocol-protocol.ensures.accepted in
    sends c.args.book.now plain c.args.role c.chosen.result c.chosen.ensures
