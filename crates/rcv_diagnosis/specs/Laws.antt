-- What holds of diagnoses.
use Rattle.std.specs.Prelude.{◌≡◌, ◌≤◌, ℕ, false, List, Some, length}
use Rattle.rcv_replay.specs.declared.cut.Cut.{Cut}
use Rattle.rcv_replay.specs.Cutting.{cut_of, journal_of}
use Rattle.rcv_replay.specs.Replaying.{IsReplay}
use Rattle.rcv_diagnosis.specs.declared.diagnosis.Finding.{Finding}
use Rattle.rcv_diagnosis.specs.Diagnosing.{is_json, Says, IsDiagnosis}

-- If an input is short enough to be replayed and its journal isn't JSON, a diagnosis of it says first what a replay says.
abbrev pub DiagnosesAreReplays : Type 0
DiagnosesAreReplays =
    (input : List ℕ) (finding : Finding) (bytes : List ℕ) → length input ≤ 1048576
    → ((cut : Cut) → cut_of input ≡ Some cut → is_json (journal_of input cut) ≡ false)
    → IsDiagnosis input finding bytes → Says (λ said more. IsReplay input said) finding bytes
