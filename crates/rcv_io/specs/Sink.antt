-- What a write that failed midway has written.
use Rattle.std.specs.Prelude.{◌≡◌, ℕ, ◌<◌, List, ◌++◌, length}
use Rattle.std.specs.declared.option.Option.{Option}
use Rattle.std.specs.Io.KnownBytes.{append_known}

-- A beginning of the bytes was written, and at least one byte after it wasn't.
pub record WroteBeginning (written_old written_new : Option (List ℕ)) (bytes : List ℕ) : Type 0 where
  pub front : List ℕ
  pub back : List ℕ
  pub whole : front ++ back ≡ bytes
  pub missing : 0 < length back
  pub written : written_new ≡ append_known written_old front
