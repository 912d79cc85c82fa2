-- A journal has one list of role lines, and so one JSON.
use Rattle.std.proofs.Common.{◌≡◌, ◌∙◌, ℕ, List, sym, ap}
use Rattle.rcv_tree.specs.declared.entry.Entry.{Entry}
use Rattle.rcv_model.specs.Journal.{reading}
use Rattle.rcv_session.specs.Session.{SessionView, rules_of}
use Rattle.rcv_journal.proofs.OneText.{same_lines}
use Rattle.rcv_journal.specs.Json.{IsJsonOf, json_text}

pub one_json : (setup : SessionView) (entries : List Entry) (a b : List ℕ) → IsJsonOf setup entries a → IsJsonOf setup entries b → a ≡ b
one_json setup entries a b i j =
    let same : i.lines ≡ j.lines = same_lines (rules_of setup) (reading (rules_of setup) entries) i.lines j.lines i.are_lines j.are_lines in
    i.is_json ∙ ap (json_text setup entries) same ∙ sym j.is_json
