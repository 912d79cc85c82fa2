-- A line of a role that is another one; or the last line.
use Rattle.std.proofs.Common.{◌≡◌, ◌<◌, ℕ, length, List, sym, ◌∙◌, ap, subst}
use Rattle.std.specs.Prelude.{slice_get}
use Rattle.rcv_session.specs.Session.{SessionView, roles_of, rules_of}
use Rattle.rcv_core.specs.Book.{state_of}
use Rattle.rcv_journal.specs.Recorded.{JournalView}
use Rattle.rcv_journal.specs.declared.line.RoleLine.{RoleLine}
use Rattle.rcv_judge.specs.Closing.{IsFirstOther}
use Rattle.rcv_judge.proofs.Closings.{first_wrong, last_wrong}
use Rattle.rcv_judge.proofs.closing.wrong_closing.Goals as goal

pub returns-in-Some-clause-wrong : goal.returns-in-Some-clause-wrong
returns-in-Some-clause-wrong c =
    let found : c.as_slice-2.result.now ≡ c.args.journal.now.roles = c.as_slice-2.ensures.value ∙ ap (λ (j : JournalView). j.roles) c.journal.view_is in
    first_wrong (rules_of c.args.book.now.setup) (state_of c.args.book.now) c.in_ok-lines.lines.items c.args.journal.now.roles c.args.journal.now.limited c.in_ok-lines.ensures.lines c.in-Some.number
    (subst (λ (ls : List RoleLine). IsFirstOther ls c.args.journal.now.roles c.in-Some.number) c.as_slice.ensures.value (subst (λ (fs : List RoleLine). IsFirstOther c.as_slice.result.now fs c.in-Some.number) found c.in-Some.ensures))

pub returns-clause-wrong : goal.returns-clause-wrong
returns-clause-wrong c =
    let found : c.as_slice-2.result.now ≡ c.args.journal.now.roles = c.as_slice-2.ensures.value ∙ ap (λ (j : JournalView). j.roles) c.journal.view_is in
    let many : c.roles-roles.result ≡ length c.in_ok-lines.lines.items = c.roles-roles.ensures.value ∙ ap (λ (s : SessionView). roles_of s) c.setup.ensures ∙ sym c.in_ok-lines.ensures.lines.all in
    let each : (r : ℕ) → r < length c.in_ok-lines.lines.items → slice_get c.args.journal.now.roles r ≡ slice_get c.in_ok-lines.lines.items r =
    subst (λ (ls : List RoleLine). (r : ℕ) → r < length ls → slice_get c.args.journal.now.roles r ≡ slice_get ls r) c.as_slice.ensures.value (subst (λ (fs : List RoleLine). (r : ℕ) → r < length c.as_slice.result.now → slice_get fs r ≡ slice_get c.as_slice.result.now r) found c.in_default.ensures) in
    last_wrong (rules_of c.args.book.now.setup) (state_of c.args.book.now) c.in_ok-lines.lines.items c.args.journal.now.roles c.args.journal.now.limited c.in_ok-lines.ensures.lines c.roles-roles.result many each
    (λ x. let yes = c.closes.ensures.1 x in let no = c.if-closes.false in absurd (cc))
