-- A journal's text that went through an empty page: all of it was written, or a beginning.
use Rattle.std.proofs.Common.{◌≡◌, ℕ, Bool, true, false, List, [], Option, Some, None, ap, subst}
use Rattle.rcv_tree.specs.declared.entry.Entry.{Entry}
use Rattle.rcv_model.specs.Journal.{reading}
use Rattle.rcv_page.specs.Page.{PageView, Adds, state}
use Rattle.rcv_page.proofs.Adding.{whole_written, partly_written}
use Rattle.rcv_session.specs.Session.{SessionView, rules_of}
use Rattle.rcv_journal.specs.declared.line.RoleLine.{RoleLine}
use Rattle.rcv_journal.specs.Growing.{Grown}
use Rattle.rcv_journal.specs.JournalText.{journal_text}
use Rattle.rcv_journal.specs.Lines.{AreLinesOf}
use Rattle.rcv_journal.specs.Writing.{WroteText, BrokeText}

-- a page that is empty, and of which no call has failed
abbrev pub empty : PageView
empty = record { held = []; failed = false }

module _ (setup : SessionView) (entries : List Entry) (lines : List RoleLine) (are : AreLinesOf (rules_of setup) (reading (rules_of setup) entries) lines)
    (page : PageView) (is : page ≡ empty) (start now : Option (List ℕ)) (before faults : ℕ) (text : List ℕ) (same : text ≡ journal_text setup entries lines) where
  began : (failed : Bool) → Adds (state start before page.held page.failed) (state now faults [] failed) text → Adds (state start before [] false) (state now faults [] failed) text
  began failed adds = subst (λ (p : PageView). Adds (state start before p.held p.failed) (state now faults [] failed) text) is adds

  pub wrote : Adds (state start before page.held page.failed) (state now faults [] false) text → WroteText setup entries start now before faults
  wrote adds =
      let all = whole_written start now before faults text (began false adds) in
      record {
        bytes = text;
        is_text = record { lines = lines; are_lines = are; is_text = same };
        written = all.0;
        fine = all.1;
      }

  pub broke : Adds (state start before page.held page.failed) (state now faults [] true) text → BrokeText setup entries start now before faults
  broke adds =
      let some = partly_written start now before faults text (began true adds) in
      record {
        bytes = text;
        is_text = record { lines = lines; are_lines = are; is_text = same };
        beginning = some.beginning;
        later = some.later;
        rose = some.rose;
      }

abbrev told : List ℕ → Option (List ℕ) → List ℕ
told other None = other
told other (Some bytes) = bytes

-- an empty sink that grows has grown by the text
pub grown : (sink now : Grown) (page : PageView) (text : List ℕ) → sink ≡ record { bytes = []; faults = 0 } → page ≡ empty
    → Adds (state (Some sink.bytes) sink.faults page.held page.failed) (state (Some now.bytes) now.faults [] false) text → now.bytes ≡ text
grown sink now page text none is adds =
    let began = subst (λ (p : PageView). Adds (state (Some sink.bytes) sink.faults p.held p.failed) (state (Some now.bytes) now.faults [] false) text) is adds in
    let fresh = subst (λ (s : Grown). Adds (state (Some s.bytes) s.faults [] false) (state (Some now.bytes) now.faults [] false) text) none began in
    ap (told []) (whole_written (Some []) (Some now.bytes) 0 now.faults text fresh).0
