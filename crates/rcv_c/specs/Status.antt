-- What statuses are for C.
use Rattle.std.specs.Prelude.{◌≡◌, ℕ}
use Rattle.rcv_c.specs.declared.status.Status.{Status}
use Rattle.rcv_c.specs.declared.status.Status.TheVariants.{Done, Refused, Illegal, Closed, Opened, Range, Short, Long, Memory, Stale}

-- The numbers of rcv.h.
abbrev pub number_of : Status → ℕ
number_of Done = 0
number_of Refused = 1
number_of Illegal = 2
number_of Closed = 3
number_of Opened = 4
number_of Range = 5
number_of Short = 6
number_of Long = 7
number_of Memory = 8
number_of Stale = 10

-- A call answers the number of a status for which this holds.
pub record Ends (number : ℕ) (P : Status → Type 0) : Type 0 where
  pub status : Status
  pub number_is : number ≡ number_of status
  pub holds : P status
