-- Texts that aren't taken, and sessions that stay closed.
use Rattle.std.proofs.Common.{◌≡◌, ℕ, List, Option, Some, None, refl, true≢false, false}
use Rattle.rcv_guided.specs.declared.saving.Saving.{Saving}
use Rattle.rcv_c.specs.declared.held.Held.{Held}
use Rattle.rcv_c.specs.declared.refusal.Refusal.{Refusal}
use Rattle.rcv_c.specs.declared.status.Status.{Status}
use Rattle.rcv_c.specs.declared.status.Status.TheVariants as status
use Rattle.rcv_c.specs.Owned.{has_box}
use Rattle.rcv_c.specs.Opening.{Fails, Checks, StaysClosed, Opens}

-- Without a box there is nothing.
pub no_box : (v : Option Held) → has_box v ≡ false → v ≡ None
no_box None e = refl
no_box (Some x) e = absurd (true≢false e)

module _ (text : List ℕ) (old new : Refusal) where
  pub checks_failed : (s : Status) → Fails text old new s → Checks text old new s
  checks_failed status.Done f = absurd f
  checks_failed status.Refused f = f
  checks_failed status.Illegal f = f
  checks_failed status.Closed f = f
  checks_failed status.Opened f = f
  checks_failed status.Range f = f
  checks_failed status.Short f = f
  checks_failed status.Long f = absurd f
  checks_failed status.Memory f = f
  checks_failed status.Stale f = f

  pub opens_failed : (saving : Saving) (before after : Option Held) → StaysClosed before after → (s : Status) → Fails text old new s
      → Opens text saving before after old new s
  opens_failed saving before after closed status.Done f = absurd f
  opens_failed saving before after closed status.Refused f = (closed, f)
  opens_failed saving before after closed status.Illegal f = (closed, f)
  opens_failed saving before after closed status.Closed f = (closed, f)
  opens_failed saving before after closed status.Opened f = absurd f
  opens_failed saving before after closed status.Range f = (closed, f)
  opens_failed saving before after closed status.Short f = (closed, f)
  opens_failed saving before after closed status.Long f = absurd f
  opens_failed saving before after closed status.Memory f = (closed, f)
  opens_failed saving before after closed status.Stale f = (closed, f)
