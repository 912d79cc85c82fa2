-- What came of writing an answer to a sink, by what is told of the sink before and after.
use Rattle.std.specs.Prelude.{◌≡◌, ◌⊎◌, ℕ, List}
use Rattle.std.specs.declared.option.Option.{Option}
use Rattle.std.specs.Io.KnownBytes.{append_known}
use Rattle.rcv_io.specs.Causes.{Rose}
use Rattle.rcv_io.specs.Sink.{WroteBeginning}
use Rattle.rcv_look.specs.declared.status.Status.{Status}
use Rattle.rcv_look.specs.declared.status.Status.TheVariants.{WriteFault}

-- These bytes were written with this status, and no call of the sink failed; or the sink failed.
abbrev pub Wrote : Option (List ℕ) → Option (List ℕ) → ℕ → ℕ → List ℕ → Status → Status → Type 0
Wrote before after faults_before faults_after bytes status result =
    ((result ≡ status) × (after ≡ append_known before bytes) × (faults_after ≡ faults_before))
    ⊎ ((result ≡ WriteFault) × Rose faults_before faults_after × WroteBeginning before after bytes)
