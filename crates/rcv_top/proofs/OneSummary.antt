-- A journal has one summary under a number.
use Rattle.std.proofs.Common.{◌≡◌, ℕ, List, sym, ◌∙◌, ap}
use Rattle.rcv_tree.specs.declared.entry.Entry.{Entry}
use Rattle.rcv_model.specs.Journal.{reading}
use Rattle.rcv_session.specs.Session.{SessionView, net_for, roles_of, rules_of}
use Rattle.rcv_journal.specs.declared.line.RoleLine.{RoleLine}
use Rattle.rcv_journal.specs.JournalText.{last_line}
use Rattle.rcv_journal.proofs.OneText.{same_lines}
use Rattle.rcv_gen.specs.Summary.{summary_text}
use Rattle.rcv_top.specs.Generating.{kept_in, IsSummaryOf}

pub one_summary : (session : SessionView) (journal : List Entry) (number : ℕ) (a b : List ℕ) → IsSummaryOf session journal number a → IsSummaryOf session journal number b → a ≡ b
one_summary session journal number a b x y =
    let same : x.lines ≡ y.lines = same_lines (rules_of session) (reading (rules_of session) journal) x.lines y.lines x.are_lines y.are_lines in
    x.is_summary ∙ ap (λ (lines : List RoleLine). summary_text number (roles_of session) (net_for session).count journal (kept_in lines) (last_line session lines)) same ∙ sym y.is_summary
