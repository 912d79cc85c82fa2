-- What holds of replays.
use Rattle.std.specs.Prelude.{◌≡◌, ◌↔◌, ℕ, ◌<◌, ◌^◌, Bool, true, Some, List, length}
use Rattle.rcv_tree.specs.declared.entry.Entry.{Entry}
use Rattle.rcv_model.specs.Journal.{reading, IsLegal}
use Rattle.rcv_model.specs.Final.{IsFinal, AreDone}
use Rattle.rcv_session.specs.Session.{SessionView, rules_of}
use Rattle.rcv_input.specs.Input.{IsTaken}
use Rattle.rcv_journal.specs.Lines.{IsTextOf}
use Rattle.rcv_replay.specs.declared.cut.Cut.{Cut}
use Rattle.rcv_replay.specs.declared.replayed.Replayed.{Replayed}
use Rattle.rcv_replay.specs.declared.replayed.Replayed.TheVariants.{Legal}
use Rattle.rcv_replay.specs.Cutting.{cut_of, bundle_of, journal_of}
use Rattle.rcv_replay.specs.Replaying.{IsReplay}

-- One thing is said of an input.
abbrev pub OneReplay : Type 0
OneReplay = (input : List ℕ) (a b : Replayed) → IsReplay input a → IsReplay input b → a ≡ b

-- And something is said of each.
abbrev pub ReplaysExist : Type 0
ReplaysExist = (input : List ℕ) → length input < 2 ^ 63 → (said : Replayed) × IsReplay input said

-- The text is that of a legal and final journal of the session, with so many entries; limited is whether some role isn't
-- done.
pub record IsWholeText (session : SessionView) (text : List ℕ) (count : ℕ) (limited : Bool) : Type 0 where
  pub entries : List Entry
  pub counted : count ≡ length entries
  pub legal : IsLegal (rules_of session) entries
  pub final : IsFinal (rules_of session) (reading (rules_of session) entries)
  pub is_text : IsTextOf session entries text
  pub told : (limited ≡ true) ↔ (AreDone (rules_of session) (reading (rules_of session) entries) → ⊥)

-- If the bundle is taken as a session, a replay is legal exactly if the text after it is that of a legal and final journal of this session.
abbrev pub LegalReplaysAreJournals : Type 0
LegalReplaysAreJournals =
    (input : List ℕ) (cut : Cut) (session : SessionView) (count : ℕ) (limited : Bool)
    → cut_of input ≡ Some cut → IsTaken (bundle_of input cut) session
    → IsReplay input (Legal count limited) ↔ IsWholeText session (journal_of input cut) count limited
