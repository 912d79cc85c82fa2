-- What came of writing an answer to a sink, by what is told of the sink before and after.
use Rattle.std.specs.Prelude.{◌≡◌, ◌⊎◌, ℕ, List, Result, Ok, Err}
use Rattle.std.specs.declared.alloc.AllocError.{AllocError}
use Rattle.std.specs.declared.option.Option.{Option}
use Rattle.std.specs.Io.KnownBytes.{append_known}
use Rattle.rcv_io.specs.Causes.{Rose}
use Rattle.rcv_io.specs.Sink.{WroteBeginning}
use Rattle.rcv_top.specs.declared.output.Output.{Output}
use Rattle.rcv_top.specs.declared.status.Status.{Status}
use Rattle.rcv_top.specs.declared.status.Status.TheVariants.{WriteFault}

-- These bytes were written with this status, and no call of the sink failed; or the sink failed.
abbrev pub Wrote : Option (List ℕ) → Option (List ℕ) → ℕ → ℕ → List ℕ → Status → Status → Type 0
Wrote before after faults_before faults_after bytes status result =
    ((result ≡ status) × (after ≡ append_known before bytes) × (faults_after ≡ faults_before))
    ⊎ ((result ≡ WriteFault) × Rose faults_before faults_after × WroteBeginning before after bytes)

-- A status and bytes of this kind were written so.
pub record WroteSome
    (IsKind : Status → List ℕ → Type 0)
    (before after : Option (List ℕ)) (faults_before faults_after : ℕ) (result : Status) : Type 0 where
  pub status : Status
  pub bytes : List ℕ
  pub is_kind : IsKind status bytes
  pub wrote : Wrote before after faults_before faults_after bytes status result

-- They were; or memory ran out, and nothing was written.
abbrev pub Writes : (Status → List ℕ → Type 0) → Option (List ℕ) → Option (List ℕ) → ℕ → ℕ → Result Status AllocError → Type 0
Writes IsKind before after faults_before faults_after (Ok result) = WroteSome IsKind before after faults_before faults_after result
Writes IsKind before after faults_before faults_after (Err e) = (after ≡ before) × (faults_after ≡ faults_before)

-- What was made was written, if it was made.
abbrev pub Put : Result Output AllocError → Option (List ℕ) → Option (List ℕ) → ℕ → ℕ → Result Status AllocError → Type 0
Put (Ok output) before after faults_before faults_after (Ok result) =
    Wrote before after faults_before faults_after output.bytes.items output.status result
Put (Err e) before after faults_before faults_after (Err d) = (after ≡ before) × (faults_after ≡ faults_before)
Put (Ok output) before after faults_before faults_after (Err d) = ⊥
Put (Err e) before after faults_before faults_after (Ok result) = ⊥
