-- Laws: what polls and runs answer, exactly; how a cell's steps are those of its role in a session; and what going back
-- leaves in its channels.
use Rattle.std.specs.Prelude.{◌≡◌, ◌↔◌, ℕ, ◌≤◌, List, [], length, take}
use Rattle.rcv_tree.specs.declared.event.Event.{Event}
use Rattle.rcv_model.specs.Net.{Net}
use Rattle.rcv_model.specs.Run.{put, taken}
use Rattle.rcv_model.specs.Journal.{State, own_of, reading_from}
use Rattle.rcv_theory.specs.Round.{entries, IsLog}
use Rattle.rcv_fence.specs.Shown.{Shown}
use Rattle.rcv_mailbox.specs.Ends.{End, received}
use Rattle.rcv_session.specs.Session.{rules_of}
use Rattle.rcv_role.specs.declared.poll.Poll.{Poll}
use Rattle.rcv_role.specs.declared.poll.Poll.TheVariants as polls
use Rattle.rcv_role.specs.declared.poll.Stop.{Stop}
use Rattle.rcv_role.specs.declared.poll.Stop.TheVariants as stops
use Rattle.rcv_role.specs.Part.{PartView, Offers, IsBelow}
use Rattle.rcv_role.specs.Ends.{AreRewound}
use Rattle.rcv_role.specs.Cell.{CellView, Goes}
use Rattle.rcv_role.specs.Poll.{IsDue, Polled}
use Rattle.rcv_role.specs.Run.{IsFencedBy, Ran}

-- The cases of a poll, in their order: each comes exactly if it holds and none before it does.
pub record IsExact (p : PartView) (poll : Poll) : Type 0 where
  pub crashed : (poll ≡ polls.Crashed) ↔ IsDue p
  pub done : (poll ≡ polls.Done) ↔ ((IsDue p → ⊥) × Offers p [])
  pub tired : (poll ≡ polls.Tired) ↔ ((IsDue p → ⊥) × (Offers p [] → ⊥) × (IsBelow p → ⊥))

abbrev pub PollsAreExact : Type 0
PollsAreExact = (old new : CellView) (poll : Poll) → Polled old new poll → IsExact old.part poll

-- A run is fenced exactly if its last look showed a failure that reaches its role.
abbrev pub RunsAreFencedExactly : Type 0
RunsAreFencedExactly =
    (turns : ℕ) (old new : CellView) (watch now : Shown) (stop : Stop) → Ran turns old new watch now stop
    → (stop ≡ stops.Fenced) ↔ IsFencedBy old.part now.last

-- If a session's state has of the role what its cell has, the cell's entries are a log of the role there, and after them the
-- state has what the cell has then.
abbrev pub CellsFollowTheSession : Type 0
CellsFollowTheSession =
    (old new : CellView) (s : State) (goes : Goes old new) → own_of s old.part.role ≡ old.part.own
    → IsLog (rules_of old.part.setup) old.part.role s goes.more
    × (own_of (reading_from (rules_of old.part.setup) s (entries goes.more)) old.part.role ≡ new.part.own)

-- The ends of the channel from s to r hold what the events of both say.
pub record IsHeld (net : Net) (s r : ℕ) (sent got : List Event) (post inbox : End) : Type 0 where
  pub put : post.list ≡ put net s r sent
  pub count : inbox.got ≡ length (taken net s r got)
  pub taken : take inbox.got inbox.list ≡ taken net s r got

-- They went back by the counts of the first events of both.
pub record WentBackTo (net : Net) (s r : ℕ) (sent got : List Event) (post post_now inbox inbox_now : End) (sends gots : ℕ)
    : Type 0 where
  pub keep : ℕ
  pub drop_from : ℕ
  pub order : keep ≤ drop_from
  pub keep_is : keep ≡ length (taken net s r (take gots got))
  pub drop_is : drop_from ≡ length (put net s r (take sends sent))
  pub rewound : AreRewound post post_now inbox inbox_now keep drop_from

-- Then they hold what those first events say.
abbrev pub RewindsHoldFirstEvents : Type 0
RewindsHoldFirstEvents =
    (net : Net) (s r : ℕ) (sent got : List Event) (post post_now inbox inbox_now : End) (sends gots : ℕ)
    → IsHeld net s r sent got post inbox → WentBackTo net s r sent got post post_now inbox inbox_now sends gots
    → IsHeld net s r (take sends sent) (take gots got) post_now inbox_now

-- They also do if the inbox went back alone, by the count of the receiver's first events.
abbrev pub RewindsAloneHoldFirstEvents : Type 0
RewindsAloneHoldFirstEvents =
    (net : Net) (s r : ℕ) (sent got : List Event) (post inbox : End) (gots : ℕ)
    → IsHeld net s r sent got post inbox
    → IsHeld net s r sent (take gots got) post (received inbox (length (taken net s r (take gots got))))
