-- The three lists are a journal's, or the value is none.
use Rattle.std.proofs.Common.{◌≡◌, sym, subst}
use Rattle.serde_json.specs.View.{view}
use Rattle.rcv_journal.specs.Recorded.{JournalView, bare}
use Rattle.rcv_json_reader.specs.declared.error.JsonError.TheVariants.{Shape}
use Rattle.rcv_json_reader.specs.Parts.{SaysJournal, SaysLimited, SaysLines}
use Rattle.rcv_json_reader.proofs.Items.{given}
use Rattle.rcv_json_reader.proofs.Wholes.{entries_said, handed_on, journal_said, limited_said}
use Rattle.rcv_json_reader.proofs.read.journal.Goals as goal

pub returns-in_err-read_entries-clause-shape : goal.returns-in_err-read_entries-clause-shape
returns-in_err-read_entries-clause-shape c =
    let setup = bare c.args.accepted.now.protocol in
    let members = c.in_ok-members.members in
    handed_on c.from_residual-in_err-read_entries.result c.in_err-read_entries.field-0.0 (λ e. e ≡ Shape → (j : JournalView) → SaysJournal setup (view c.args.value.now) j → ⊥) c.from_residual-in_err-read_entries.ensures.1
    (λ shape j says. c.in_err-read_entries.ensures.shape shape j.entries
    (entries_said setup (view c.args.value.now) (view members.entries.now) (view members.limited.now) (view members.roles.now) j (given _ c.members.result c.in_ok-members.members c.in_ok-members.ensures.ok_part c.members.ensures.some) says))

pub returns-in_err-read_limited-clause-shape : goal.returns-in_err-read_limited-clause-shape
returns-in_err-read_limited-clause-shape c =
    let setup = bare c.args.accepted.now.protocol in
    let members = c.in_ok-members.members in
    handed_on c.from_residual-in_err-read_limited.result c.in_err-read_limited.field-0.0 (λ e. e ≡ Shape → (j : JournalView) → SaysJournal setup (view c.args.value.now) j → ⊥)
    c.from_residual-in_err-read_limited.ensures.1
    (λ shape j says. c.in_err-read_limited.ensures.shape shape j.limited
    (subst (λ p. SaysLimited (bare p) (view members.limited.now) j.limited) (sym c.protocol-protocol.ensures.value)
    (limited_said setup (view c.args.value.now) (view members.entries.now) (view members.limited.now) (view members.roles.now) j (given _ c.members.result c.in_ok-members.members c.in_ok-members.ensures.ok_part c.members.ensures.some) says)))

pub returns-clause-ok : goal.returns-clause-ok
returns-clause-ok c =
    let setup = bare c.args.accepted.now.protocol in
    let members = c.in_ok-members.members in
    let j : JournalView = record { entries = c.in_ok-read_entries.field-0.items; roles = c.in_ok-read_lines.field-0.items; limited = c.in_ok-read_limited.field-0.items } in
    journal_said setup (view c.args.value.now) (view members.entries.now) (view members.limited.now) (view members.roles.now) j (given _ c.members.result c.in_ok-members.members c.in_ok-members.ensures.ok_part c.members.ensures.some)
    c.in_ok-read_entries.ensures.ok
    (subst (λ p. SaysLimited (bare p) (view members.limited.now) j.limited) c.protocol-protocol.ensures.value c.in_ok-read_limited.ensures.ok)
    (subst (λ p. SaysLines (bare p) (view members.roles.now) j.roles) c.protocol-protocol.ensures.value c.in_ok-read_lines.ensures.ok)
