-- How a command comes to its input.
use Rattle.std.specs.Prelude.{◌≡◌, ℕ, ◌⊎◌, List, [], Result, Vec, IfOk, IfErr, OnOk}
use Rattle.std.specs.declared.option.Option.{Option}
use Rattle.std.specs.declared.alloc.Global.{Global}
use Rattle.std.specs.Io.KnownBytes.{IsAtEnd}
use Rattle.rcv_io.specs.declared.fault.ReadError.{ReadError}
use Rattle.rcv_io.specs.Source.{ReadsWhole}
use Rattle.rcv_look.specs.Asking.{most_for, ReadsSource}
use Rattle.rcv_look.specs.Commands.{CommandView}

-- What is told of a source before and after a call: its bytes, its count of given ones and its faults.
pub record Reading : Type 0 where
  pub rest_before : Option (List ℕ)
  pub rest_after : Option (List ℕ)
  pub given_before : ℕ
  pub given_after : ℕ
  pub faults_before : ℕ
  pub faults_after : ℕ

-- This is told of a source.
abbrev pub reading_of : {S : Type 0} → (S → Option (List ℕ)) → (S → ℕ) → (S → ℕ) → S → S → Reading
reading_of rest given faults source source_after =
    record {
      rest_before = rest source;
      rest_after = rest source_after;
      given_before = given source;
      given_after = given source_after;
      faults_before = faults source;
      faults_after = faults source_after;
    }

-- Nothing was read: what is told of the source is as before.
pub record ReadNothing (reading : Reading) : Type 0 where
  pub rest : reading.rest_after ≡ reading.rest_before
  pub given : reading.given_after ≡ reading.given_before
  pub faults : reading.faults_after ≡ reading.faults_before

-- A call that gives an input, or says why it doesn't.
abbrev pub InputResult : Type 0
InputResult = Result (Vec ℕ Global) ReadError

-- The source was read to its end, which gave the input, of at most so many bytes.
pub record HasRead (most : ℕ) (reading : Reading) (result : InputResult) : Type 0 where
  pub whole : ReadsWhole reading.rest_before reading.rest_after reading.given_before reading.given_after most result
  pub end : OnOk result (IsAtEnd reading.rest_after)

-- Nothing was read, and the input is empty.
pub record HasNone (reading : Reading) (result : InputResult) : Type 0 where
  pub unread : ReadNothing reading
  pub empty : IfOk result (λ input. input.items ≡ [])
  pub given : IfErr result (λ e. ⊥)

-- A command got its input.
abbrev pub HasGot : CommandView → Reading → InputResult → Type 0
HasGot command reading result =
    (ReadsSource command × HasRead (most_for command) reading result)
    ⊎ ((ReadsSource command → ⊥) × HasNone reading result)
