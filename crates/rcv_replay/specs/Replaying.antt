-- What is said of a journal that stands after its bundle.
use Rattle.std.specs.Prelude.{◌≡◌, ◌≢◌, ◌⊎◌, ◌↔◌, ℕ, ◌+◌, true, List, [], length, Some, None}
use Rattle.rcv_model.specs.Journal.{IsLegal}
use Rattle.rcv_session.specs.Session.{SessionView, rules_of}
use Rattle.rcv_input.specs.declared.refused.Refused.TheVariants.{Line}
use Rattle.rcv_input.specs.declared.refused.Refused as refusals
use Rattle.rcv_input.specs.Input.{IsTaken}
use Rattle.rcv_input.specs.Refusals.{IsFirstRefusal}
use Rattle.rcv_journal.specs.Form as form
use Rattle.rcv_journal.specs.Recorded.{JournalView, bare}
use Rattle.rcv_judge.specs.Closing.{ClosesRight}
use Rattle.rcv_judge.specs.Judged.{IsFirstWrong}
use Rattle.rcv_replay.specs.declared.cut.Cut.{Cut}
use Rattle.rcv_replay.specs.declared.replayed.Replayed.{Replayed}
use Rattle.rcv_replay.specs.declared.replayed.Replayed.TheVariants.{Refused, Legal, WrongEntry, WrongEnd}
use Rattle.rcv_replay.specs.Cutting.{cut_of, bundle_of, journal_of, feeds_before, line_of_end}

-- Of a journal of the form: it is legal and closes as its entries leave it; or which entry, counted from 1, is the first
-- that may not come; or each may, but it doesn't close so.
abbrev pub IsVerdict : SessionView → JournalView → Replayed → Type 0
IsVerdict session j (Legal entries limited) =
    IsLegal (rules_of session) j.entries × ClosesRight session j.entries j.roles j.limited
    × (entries ≡ length j.entries) × ((limited ≡ true) ↔ (j.limited ≢ []))
IsVerdict session j (WrongEntry k) = (i : ℕ) × (k ≡ i + 1) × IsFirstWrong (rules_of session) j.entries i
IsVerdict session j WrongEnd = IsLegal (rules_of session) j.entries × (ClosesRight session j.entries j.roles j.limited → ⊥)
IsVerdict session j (Refused r) = ⊥

-- Of the text after so many line feeds: the first line at which it isn't a journal of the form, or what is said of its journal.
abbrev pub IsOfText : SessionView → List ℕ → ℕ → Replayed → Type 0
IsOfText session text feeds said =
    ((k : ℕ) × (said ≡ Refused (Line 51 (feeds + k))) × form.IsFirstWrong (bare session.protocol) text k)
    ⊎ ((j : JournalView) × form.Spells (bare session.protocol) text j × IsVerdict session j said)

-- Of a bundle and a text: the bundle's first refusal, or what is said of the text by its session.
abbrev pub IsOfBundle : List ℕ → List ℕ → ℕ → Replayed → Type 0
IsOfBundle bundle text feeds said =
    ((r : refusals.Refused) × (said ≡ Refused r) × IsFirstRefusal bundle r)
    ⊎ ((session : SessionView) × IsTaken bundle session × IsOfText session text feeds said)

-- Of an input: no line is `%% journal`, and the refusal names the line of its end; or what is said of its parts.
abbrev pub IsReplay : List ℕ → Replayed → Type 0
IsReplay input said =
    ((cut_of input ≡ None) × (said ≡ Refused (Line 50 (line_of_end input))))
    ⊎ ((cut : Cut) × (cut_of input ≡ Some cut)
    × IsOfBundle (bundle_of input cut) (journal_of input cut) (feeds_before input cut) said)
