-- What is written of one kind is written of another, and what was made is written.
use Rattle.std.proofs.Common.{ℕ, List, Option}
use Rattle.std.specs.Prelude.{Result, Ok, Err, IfOk}
use Rattle.std.specs.declared.alloc.AllocError.{AllocError}
use Rattle.rcv_top.specs.declared.output.Output.{Output}
use Rattle.rcv_top.specs.declared.status.Status.{Status}
use Rattle.rcv_top.specs.Writing.{Writes, Put}

module _ (before after : Option (List ℕ)) (faults_before faults_after : ℕ) where
  pub widen : (A B : Status → List ℕ → Type 0) (result : Result Status AllocError) → ((s : Status) (b : List ℕ) → A s b → B s b)
      → Writes A before after faults_before faults_after result → Writes B before after faults_before faults_after result
  widen A B (Ok ended) into w = record { status = w.status; bytes = w.bytes; is_kind = into w.status w.bytes w.is_kind; wrote = w.wrote }
  widen A B (Err e) into w = w

  pub put_writes : (A : Status → List ℕ → Type 0) (made : Result Output AllocError) (result : Result Status AllocError) → IfOk made (λ output. A output.status output.bytes.items)
      → Put made before after faults_before faults_after result → Writes A before after faults_before faults_after result
  put_writes A (Ok output) (Ok ended) is wrote = record { status = output.status; bytes = output.bytes.items; is_kind = is; wrote = wrote }
  put_writes A (Err e) (Err d) is wrote = wrote
  put_writes A (Ok output) (Err d) is wrote = absurd wrote
  put_writes A (Err e) (Ok ended) is wrote = absurd wrote
