-- What a call took from its source and wrote to its sink.
use Rattle.std.specs.Prelude.{◌≡◌, ℕ, List}
use Rattle.std.specs.declared.option.Option.{Option}
use Rattle.std.specs.Io.KnownBytes.{append_known}
use Rattle.rcv_io.specs.Source.{Took}

-- What is told of a source and a sink before and after a call.
pub record Around : Type 0 where
  pub rest_before : Option (List ℕ)
  pub rest_after : Option (List ℕ)
  pub given_before : ℕ
  pub given_after : ℕ
  pub read_faults_before : ℕ
  pub read_faults_after : ℕ
  pub written_before : Option (List ℕ)
  pub written_after : Option (List ℕ)
  pub write_faults_before : ℕ
  pub write_faults_after : ℕ

-- This of a source, by what it tells of its bytes, its count of given ones and its faults, and this of a sink.
abbrev pub around : {S K : Type 0} → (S → Option (List ℕ)) → (S → ℕ) → (S → ℕ) → S → S → (K → Option (List ℕ)) → (K → ℕ) → K → K → Around
around rest given read_faults source source_after written write_faults sink sink_after =
    record {
      rest_before = rest source;
      rest_after = rest source_after;
      given_before = given source;
      given_after = given source_after;
      read_faults_before = read_faults source;
      read_faults_after = read_faults source_after;
      written_before = written sink;
      written_after = written sink_after;
      write_faults_before = write_faults sink;
      write_faults_after = write_faults sink_after;
    }

-- These bytes were taken from the source; and these were written to the sink.
abbrev pub Takes : Around → List ℕ → Type 0
Takes call taken = Took call.rest_before call.rest_after call.given_before call.given_after taken

abbrev pub Writes : Around → List ℕ → Type 0
Writes call bytes = call.written_after ≡ append_known call.written_before bytes
