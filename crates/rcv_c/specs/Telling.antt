-- What a session is told, and what it answers.
use Rattle.std.specs.Prelude.{◌≡◌, ◌==◌, ℕ, ℤ, ◌<◌, ◌≤◌, true, if◌then◌else◌, List, length, take, drop, Option, Some, None}
use Rattle.rcv_tree.specs.declared.entry.Entry.{Entry}
use Rattle.rcv_accept.specs.Accepted.{AcceptedView, net_for}
use Rattle.rcv_dialogue.specs.declared.line.Line.{Line}
use Rattle.rcv_dialogue.specs.declared.line.Line.TheVariants as line
use Rattle.rcv_dialogue.specs.declared.answer.Answer.{Answer}
use Rattle.rcv_dialogue.specs.Answers.{answer_text}
use Rattle.rcv_dialogue.specs.Lines.{IsLine}
use Rattle.rcv_guided.specs.declared.typed.Heard.{Heard}
use Rattle.rcv_guided.specs.declared.typed.Heard.TheVariants as heard
use Rattle.rcv_guided.specs.Hearing.{accepted_of}
use Rattle.rcv_guided.specs.Typed.{IsHeardAs}
use Rattle.rcv_talk.specs.Dialogue.{IsTold}
use Rattle.rcv_c.specs.declared.held.Held.{Held}
use Rattle.rcv_c.specs.declared.status.Status.{Status}
use Rattle.rcv_c.specs.declared.status.Status.TheVariants.{Done, Illegal, Closed, Range, Short, Memory, Stale}
use Rattle.rcv_c.specs.Owned.{has_box}
use Rattle.rcv_c.specs.Opening.{StaysClosed}

-- ---- events, as numbers

-- The number that C gives, if it gives one: not the greatest of 64 bits.
abbrev pub number_given : ℕ → Option ℕ
number_given n = if n == 18446744073709551615 then None else Some n

-- A point of the text.
pub record IsPointOf (a : AcceptedView) (p : ℕ) : Type 0 where
  pub first : 1 ≤ p
  pub last : p ≤ (net_for a).count

-- The lines that C's numbers say.
abbrev pub send_of : ℕ → ℕ → ℤ → ℕ → Line
send_of r p value incarnation =
    line.Send (record { role = r; point = p; value = value; stamp = None; incarnation = number_given incarnation })

abbrev pub recv_of : ℕ → ℕ → ℤ → ℕ → ℕ → Line
recv_of r p value sent incarnation =
    line.Recv (record { role = r; point = p; value = value; stamp = None; sent = number_given sent; incarnation = number_given incarnation })

abbrev pub save_of : ℕ → ℕ → ℕ → Line
save_of r count incarnation = line.Save (record { role = r; count = count; incarnation = number_given incarnation })

-- The status of what was heard; and the stamp that overwrites an old number.
abbrev pub status_of : Heard → Status
status_of (heard.Done stamp) = Done
status_of heard.Illegal = Illegal
status_of heard.Stale = Stale
status_of heard.Memory = Memory

abbrev pub stamp_over : ℕ → Heard → ℕ
stamp_over old (heard.Done stamp) = stamp
stamp_over old kind = old

-- An open session, which has the line's role and point, heard it. What it answered before is kept.
pub record Hears (told : Line) (before after : Option Held) (old new : ℕ) (status : Status) : Type 0 where
  pub held : Held
  pub before_is : before ≡ Some held
  pub formed : IsLine (accepted_of held.session) told
  pub next : Held
  pub after_is : after ≡ Some next
  pub kind : Heard
  pub hears : IsHeardAs held.session told next.session kind
  pub status_is : status ≡ status_of kind
  pub stamp_is : new ≡ stamp_over old kind
  pub answer : next.answer ≡ held.answer

-- The line names a role or a point that the protocol of an open session doesn't have.
pub record IsOutside (told : Line) (before after : Option Held) (old new : ℕ) : Type 0 where
  pub held : Held
  pub before_is : before ≡ Some held
  pub none : IsLine (accepted_of held.session) told → ⊥
  pub same : after ≡ before
  pub stamp_same : new ≡ old

-- What a call that tells an event answers. If the event was taken, a number is its stamp then.
abbrev pub TellsEvent : Line → Option Held → Option Held → ℕ → ℕ → Status → Type 0
TellsEvent told before after old new Done = Hears told before after old new Done
TellsEvent told before after old new Illegal = Hears told before after old new Illegal
TellsEvent told before after old new Stale = Hears told before after old new Stale
TellsEvent told before after old new Memory = Hears told before after old new Memory
TellsEvent told before after old new Range = IsOutside told before after old new
TellsEvent told before after old new Closed = StaysClosed before after × (new ≡ old)
TellsEvent told before after old new other = ⊥

-- What a call that tells a save answers. A save has no stamp.
abbrev pub TellsSave : Line → Option Held → Option Held → Status → Type 0
TellsSave told before after status = (stamp : ℕ) × TellsEvent told before after 0 stamp status

-- ---- lines, as text

-- It is told this line, and holds the bytes of its answer.
pub record IsToldAs (text : List ℕ) (held next : Held) : Type 0 where
  pub said : Answer
  pub added : List Entry
  pub told : IsTold held.session text said added next.session
  pub answer : next.answer.items ≡ answer_text (accepted_of held.session) said

-- An open session was told a line, and its answer has so many bytes.
pub record IsToldLine (text : List ℕ) (before after : Option Held) (count : ℕ) : Type 0 where
  pub held : Held
  pub before_is : before ≡ Some held
  pub next : Held
  pub after_is : after ≡ Some next
  pub told : IsToldAs text held next
  pub count_is : count ≡ length next.answer.items

-- What a call that tells a line answers. If there is no memory for the answer, the session is closed.
abbrev pub TellsLine : List ℕ → Option Held → Option Held → ℕ → ℕ → Status → Type 0
TellsLine text before after old new Done = IsToldLine text before after new
TellsLine text before after old new Closed = StaysClosed before after × (new ≡ old)
TellsLine text before after old new Memory = (has_box before ≡ true) × (after ≡ None) × (new ≡ old)
TellsLine text before after old new other = ⊥

-- ---- answers

-- An open session's last answer has so many bytes.
pub record HasAnswer (before after : Option Held) (answer : List ℕ) (count : ℕ) : Type 0 where
  pub held : Held
  pub before_is : before ≡ Some held
  pub same : after ≡ before
  pub answer_is : answer ≡ held.answer.items
  pub count_is : count ≡ length answer

-- The bytes stand in front in C's list; or they don't fit.
pub record IsCopied (before after : Option Held) (out_old out_new : List ℕ) (count : ℕ) : Type 0 where
  pub answer : List ℕ
  pub has : HasAnswer before after answer count
  pub front : take count out_new ≡ answer
  pub rest : drop count out_new ≡ drop count out_old

pub record IsTooLong (before after : Option Held) (out_old out_new : List ℕ) (count : ℕ) : Type 0 where
  pub answer : List ℕ
  pub has : HasAnswer before after answer count
  pub short : length out_old < count
  pub untouched : out_new ≡ out_old

-- What a call that asks for the last answer answers.
abbrev pub Answers : Option Held → Option Held → List ℕ → List ℕ → ℕ → ℕ → Status → Type 0
Answers before after out_old out_new old new Done = IsCopied before after out_old out_new new
Answers before after out_old out_new old new Short = IsTooLong before after out_old out_new new
Answers before after out_old out_new old new Closed = StaysClosed before after × (out_new ≡ out_old) × (new ≡ old)
Answers before after out_old out_new old new other = ⊥
