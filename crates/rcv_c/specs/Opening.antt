-- What is said of a text, and how a session of it opens.
use Rattle.std.specs.Prelude.{◌≡◌, ℕ, ◌<◌, ◌≤◌, Bool, true, false, List, [], length, Option, Some, None}
use Rattle.rcv_session.specs.Session.{SessionView}
use Rattle.rcv_input.specs.Input.{IsTaken}
use Rattle.rcv_input.specs.Refusals.{IsFirstRefusal}
use Rattle.rcv_input.specs.declared.refused.Refused.{Refused as Cause}
use Rattle.rcv_guided.specs.declared.saving.Saving.{Saving}
use Rattle.rcv_guided.specs.declared.saving.Saving.TheVariants.{ByPlan, Told}
use Rattle.rcv_talk.specs.Openings.{Begins}
use Rattle.rcv_c.specs.declared.held.Held.{Held}
use Rattle.rcv_c.specs.declared.refusal.Refusal.{Refusal}
use Rattle.rcv_c.specs.declared.status.Status.{Status}
use Rattle.rcv_c.specs.declared.status.Status.TheVariants.{Done, Refused, Opened, Long, Memory}
use Rattle.rcv_c.specs.Owned.{has_box}
use Rattle.rcv_c.specs.Refusals.{IsRefusalFor}

-- The most bytes that a text may have.
abbrev pub most : ℕ
most = 1048576

-- The text is an accepted protocol with scripts and a plan.
pub record IsAccepted (text : List ℕ) : Type 0 where
  pub bundle : SessionView
  pub taken : IsTaken text bundle
  pub short : length text ≤ most

-- Its first refusal is this.
pub record IsRefusedAs (text : List ℕ) (why : Refusal) : Type 0 where
  pub first : Cause
  pub is : IsFirstRefusal text first
  pub why_is : IsRefusalFor first why

-- Why it isn't taken, if it isn't too long: it is refused; or there was no memory to tell.
abbrev pub Fails : List ℕ → Refusal → Refusal → Status → Type 0
Fails text old new Refused = IsRefusedAs text new
Fails text old new Memory = new ≡ old
Fails text old new other = ⊥

-- What a check of the text answers. If there is a refusal, it is written.
abbrev pub Checks : List ℕ → Refusal → Refusal → Status → Type 0
Checks text old new Done = IsAccepted text × (new ≡ old)
Checks text old new Long = (most < length text) × (new ≡ old)
Checks text old new other = Fails text old new other

-- Saves are told; or the plan says them.
abbrev pub saving_by : Bool → Saving
saving_by true = Told
saving_by false = ByPlan

-- The session before its first line, which has answered nothing.
pub record IsBegun (text : List ℕ) (saving : Saving) (held : Held) : Type 0 where
  pub begins : Begins text saving held.session
  pub silent : held.answer.items ≡ []

pub record OpensAs (text : List ℕ) (saving : Saving) (after : Option Held) : Type 0 where
  pub held : Held
  pub after_is : after ≡ Some held
  pub begun : IsBegun text saving held
  pub short : length text ≤ most

-- It was closed, and still is.
abbrev pub StaysClosed : Option Held → Option Held → Type 0
StaysClosed before after = (before ≡ None) × (after ≡ None)

-- How the text's session opens.
abbrev pub Opens : List ℕ → Saving → Option Held → Option Held → Refusal → Refusal → Status → Type 0
Opens text saving before after old new Done = (before ≡ None) × OpensAs text saving after × (new ≡ old)
Opens text saving before after old new Opened = (has_box before ≡ true) × (after ≡ before) × (new ≡ old)
Opens text saving before after old new Long = StaysClosed before after × (most < length text) × (new ≡ old)
Opens text saving before after old new other = StaysClosed before after × Fails text old new other
