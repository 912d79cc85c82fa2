-- How a command comes to the text that it works on.
use Rattle.std.specs.Prelude.{◌≡◌, ℕ, ◌⊎◌, List, Result, Vec, IfOk, IfErr, OnOk}
use Rattle.std.specs.declared.option.Option.{Option}
use Rattle.std.specs.declared.alloc.Global.{Global}
use Rattle.std.specs.Io.KnownBytes.{IsAtEnd}
use Rattle.rcv_io.specs.declared.fault.ReadError.{ReadError}
use Rattle.rcv_io.specs.declared.fault.ReadError.TheVariants as errors
use Rattle.rcv_io.specs.Source.{ReadsWhole}
use Rattle.rcv_gen.specs.Generated.{generated}
use Rattle.rcv_words.specs.Commands.{CommandView, Gen}
use Rattle.rcv_top.specs.Commands.{WorksOnSource}
use Rattle.rcv_top.specs.Outcome.{most_bytes}

-- What is told of a source before and after a call: its bytes, its count of given ones and its faults.
pub record Reading : Type 0 where
  pub rest_before : Option (List ℕ)
  pub rest_after : Option (List ℕ)
  pub given_before : ℕ
  pub given_after : ℕ
  pub faults_before : ℕ
  pub faults_after : ℕ

-- What these functions tell of a source, before and after.
abbrev pub reading_of : {S : Type 0} → (S → Option (List ℕ)) → (S → ℕ) → (S → ℕ) → S → S → Reading
reading_of rest given faults source source_after =
    record {
      rest_before = rest source;
      rest_after = rest source_after;
      given_before = given source;
      given_after = given source_after;
      faults_before = faults source;
      faults_after = faults source_after;
    }

-- Nothing was read: what is told of the source is as before.
pub record ReadNothing (reading : Reading) : Type 0 where
  pub rest : reading.rest_after ≡ reading.rest_before
  pub given : reading.given_after ≡ reading.given_before
  pub faults : reading.faults_after ≡ reading.faults_before

-- A call that gives a text, or says why it doesn't.
abbrev pub TextResult : Type 0
TextResult = Result (Vec ℕ Global) ReadError

-- The source was read to its end, which gave the text.
pub record HasRead (reading : Reading) (result : TextResult) : Type 0 where
  pub whole : ReadsWhole reading.rest_before reading.rest_after reading.given_before reading.given_after most_bytes result
  pub end : OnOk result (IsAtEnd reading.rest_after)

-- The text is the generated one, and nothing was read. It is missing only if memory ran out.
pub record HasGenerated (number : ℕ) (reading : Reading) (result : TextResult) : Type 0 where
  pub unread : ReadNothing reading
  pub text : IfOk result (λ text. text.items ≡ generated number)
  pub error : IfErr result (λ e. e ≡ errors.Memory)

-- A command got the text that it works on.
abbrev pub HasGot : CommandView → Reading → TextResult → Type 0
HasGot command reading result =
    (WorksOnSource command × HasRead reading result)
    ⊎ ((number : ℕ) × (command ≡ Gen number) × HasGenerated number reading result)
