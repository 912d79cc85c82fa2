-- What is said of one kind is said of another.
use Rattle.std.proofs.Common.{◌≡◌, ℕ, Bool, List, [], ◌++◌, refl, sym, ◌∙◌, append-nil}
use Rattle.std.specs.Prelude.{Result, Ok, Err, IfOk}
use Rattle.rcv_input.specs.declared.refused.Refused as refusals
use Rattle.rcv_input.specs.Line.{refusal_line}
use Rattle.rcv_replay.specs.declared.replayed.Replayed.{Replayed}
use Rattle.rcv_replay.specs.declared.replayed.Replayed.TheVariants as replayed
use Rattle.rcv_replay.specs.Lines.{legal_line}
use Rattle.rcv_diagnosis.specs.declared.diagnosis.Diagnosis.{Diagnosis}
use Rattle.rcv_diagnosis.specs.declared.diagnosis.Finding.{Finding}
use Rattle.rcv_diagnosis.specs.declared.diagnosis.Finding.TheVariants as found
use Rattle.rcv_diagnosis.specs.Diagnosing.{Says, IsRefusal, IsLegalOf}
use Rattle.rcv_diagnosis.specs.Telling.{said_line, finding_of}

-- A kind of what is said and told.
abbrev pub Kind : Type 1
Kind = Replayed → List ℕ → Type 0

abbrev pub Answers : {E : Type 0} → Kind → Result Diagnosis E → Type 0
Answers IsKind result = IfOk result (λ answer. Says IsKind answer.finding answer.bytes.items)

pub says_more : (A B : Kind) → ((said : Replayed) (more : List ℕ) → A said more → B said more) → (f : Finding) (bytes : List ℕ) → Says A f bytes → Says B f bytes
says_more A B into f bytes (said, more, is, finding, text) = (said, more, into said more is, finding, text)

pub widen : {E : Type 0} (A B : Kind) (result : Result Diagnosis E) → ((said : Replayed) (more : List ℕ) → A said more → B said more) → Answers A result → Answers B result
widen A B (Ok answer) into is = says_more A B into answer.finding answer.bytes.items is
widen A B (Err e) into is = tt

pub made : {E : Type 0} (IsKind : Kind) (result : Result Diagnosis E) (said : Replayed) (more : List ℕ) → IsKind said more → IfOk result (λ answer. answer.finding ≡ finding_of said) → IfOk result (λ answer. answer.bytes.items ≡ said_line said ++ more) → Answers IsKind result
made IsKind (Ok answer) said more is finding bytes = (said, more, is, finding, bytes)
made IsKind (Err e) said more is finding bytes = tt

-- a refusal, and a legal journal
pub refused_says : (r : refusals.Refused) (bytes : List ℕ) → bytes ≡ refusal_line r → Says (IsRefusal r) found.Refused bytes
refused_says r bytes is = (replayed.Refused r, [], (refl, refl), refl, is ∙ sym (append-nil (refusal_line r)))

pub legal_says : (entries : ℕ) (limited : Bool) (bytes : List ℕ) → bytes ≡ legal_line entries limited → Says (IsLegalOf entries limited) found.Legal bytes
legal_says entries limited bytes is = (replayed.Legal entries limited, [], (refl, refl), refl, is ∙ sym (append-nil (legal_line entries limited)))
