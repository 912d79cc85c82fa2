-- What is written of one kind is written of another.
use Rattle.std.proofs.Common.{◌≡◌, ℕ, List, sym, subst}
use Rattle.std.specs.Prelude.{Result, Ok, Err, IfOk}
use Rattle.rcv_input.specs.declared.refused.Refused as refusals
use Rattle.rcv_input.specs.declared.refused.InputError.{InputError}
use Rattle.rcv_input.specs.declared.refused.InputError.TheVariants as causes
use Rattle.rcv_input.specs.Line.{refusal_line}
use Rattle.rcv_look.specs.declared.output.Output.{Output}
use Rattle.rcv_look.specs.declared.status.Status.{Status}
use Rattle.rcv_look.specs.declared.status.Status.TheVariants as statuses

-- A kind of answers.
abbrev pub Kind : Type 1
Kind = Status → List ℕ → Type 0

abbrev pub Makes : {E : Type 0} → Kind → Result Output E → Type 0
Makes IsKind result = IfOk result (λ output. IsKind output.status output.bytes.items)

-- The same status and bytes are of this kind, too.
pub as_it_is : (IsKind : Kind) (s t : Status) (b c : List ℕ) → s ≡ t → b ≡ c → IsKind t c → IsKind s b
as_it_is IsKind s t b c status bytes is = subst (λ (x : Status). IsKind x b) (sym status) (subst (IsKind t) (sym bytes) is)

pub widen : {E : Type 0} (A B : Kind) (result : Result Output E) → ((s : Status) (b : List ℕ) → A s b → B s b) → Makes A result → Makes B result
widen A B (Ok output) into is = into output.status output.bytes.items is
widen A B (Err e) into is = tt

-- This status was made with these bytes.
pub made : {E : Type 0} (IsKind : Kind) (result : Result Output E) (s : Status) (b : List ℕ) → IfOk result (λ output. output.status ≡ s) → IfOk result (λ output. output.bytes.items ≡ b) → IsKind s b → Makes IsKind result
made IsKind (Ok output) s b status bytes is = as_it_is IsKind output.status s output.bytes.items b status bytes is
made IsKind (Err e) s b status bytes is = tt

-- A refusal was.
pub refused : {E : Type 0} (IsKind : Kind) (error : InputError) (result : Result Output E)
    → IfOk result (λ output. (refusal : refusals.Refused) × (error ≡ causes.Refused refusal) × (output.status ≡ statuses.Refused) × (output.bytes.items ≡ refusal_line refusal))
    → ((refusal : refusals.Refused) → error ≡ causes.Refused refusal → IsKind statuses.Refused (refusal_line refusal)) → Makes IsKind result
refused IsKind error (Ok output) said is = as_it_is IsKind output.status statuses.Refused output.bytes.items (refusal_line said.0) said.2 said.3 (is said.0 said.1)
refused IsKind error (Err e) said is = tt
