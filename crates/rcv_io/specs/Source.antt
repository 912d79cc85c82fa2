-- What reading a source to its end takes from it.
use Rattle.std.specs.Prelude.{◌≡◌, ℕ, ◌+◌, ◌<◌, ◌≤◌, ◌↔◌, List, length, Result, IfOk, IsErrOf, Vec}
use Rattle.std.specs.declared.option.Option.{Option}
use Rattle.std.specs.declared.alloc.Global.{Global}
use Rattle.std.specs.Io.KnownBytes.{prepend_known}
use Rattle.rcv_io.specs.declared.fault.ReadError.{ReadError}
use Rattle.rcv_io.specs.declared.fault.ReadError.TheVariants.{TooLong}
use Rattle.rcv_io.specs.Causes.{counted}

-- These bytes were taken: they stood in front of what is left now, if that is told.
-- Each of them was counted, up to the last count, and nothing else was.
pub record Took (rest_old rest_new : Option (List ℕ)) (given_old given_new : ℕ) (taken : List ℕ) : Type 0 where
  pub front : rest_old ≡ prepend_known taken rest_new
  pub each_counted : counted given_old (length taken) ≤ given_new
  pub no_other : given_new ≤ given_old + length taken

-- A call that reads all took some bytes. At `Ok` they are the answer.
-- `TooLong` comes exactly if they are more than the caller takes.
pub record ReadsWhole (rest_old rest_new : Option (List ℕ)) (given_old given_new most : ℕ)
    (result : Result (Vec ℕ Global) ReadError) : Type 0 where
  pub taken : List ℕ
  pub took : Took rest_old rest_new given_old given_new taken
  pub bytes : IfOk result (λ bytes. bytes.items ≡ taken)
  pub too_long : IsErrOf result TooLong ↔ (most < length taken)
