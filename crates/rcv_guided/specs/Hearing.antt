-- What lines have in common: when a role is heard, and what a line leaves as it is.
use Rattle.std.specs.Prelude.{◌≡◌, ℕ, ℤ, ◌<◌, true, false, List, [], Option, Some, None}
use Rattle.rcv_tree.specs.declared.entry.Entry.{Entry}
use Rattle.rcv_accept.specs.Accepted.{AcceptedView}
use Rattle.rcv_guide.specs.declared.news.News.{News}
use Rattle.rcv_guide.specs.Numbers.{numbers_at}
use Rattle.rcv_guide.specs.Guide.{stand}
use Rattle.rcv_dialogue.specs.declared.answer.Answer.{Answer}
use Rattle.rcv_dialogue.specs.declared.answer.Answer.TheVariants as answer
use Rattle.rcv_dialogue.specs.declared.answer.Cause.TheVariants as cause
use Rattle.rcv_dialogue.specs.declared.answer.Stale.TheVariants as stale
use Rattle.rcv_guided.specs.Session.{SessionView, incarnation_of}

-- The protocol of a session.
abbrev pub accepted_of : SessionView → AcceptedView
accepted_of s = record { protocol = s.guide.protocol }

-- What is said: the answer that was found, or that there was no memory for it.
abbrev pub said_of : Option Answer → Answer
said_of None = answer.Memory
said_of (Some said) = said

-- The line isn't taken: the session is the same, and its history too.
pub record IsUnchanged (s : SessionView) (added : List Entry) (after : SessionView) : Type 0 where
  pub nothing : added ≡ []
  pub same : after ≡ s

-- If a number is told, it is this one.
abbrev pub Agrees : Option ℕ → ℕ → Type 0
Agrees None right = Unit {0}
Agrees (Some n) right = n ≡ right

-- It is told in an older incarnation of the role than the current one; in a later one; in the current one, or in none.
abbrev pub IsOld : SessionView → ℕ → Option ℕ → Type 0
IsOld s r None = ⊥
IsOld s r (Some n) = n < incarnation_of s r

abbrev pub IsEarly : SessionView → ℕ → Option ℕ → Type 0
IsEarly s r None = ⊥
IsEarly s r (Some n) = incarnation_of s r < n

abbrev pub IsOfNow : SessionView → ℕ → Option ℕ → Type 0
IsOfNow s r told = Agrees told (incarnation_of s r)

abbrev pub IsUp : SessionView → ℕ → Type 0
IsUp s r = (stand s.guide r).down ≡ Some false

abbrev pub IsDown : SessionView → ℕ → Type 0
IsDown s r = (stand s.guide r).down ≡ Some true

-- What a guide is told of an event: it belongs to its role's current attempt.
abbrev pub news_of : SessionView → ℕ → ℕ → ℤ → News
news_of s r point value = record { role = r; attempt = (numbers_at s.guide.numbers r).attempt; point = point; value = value }

-- The told stamp isn't the right one, and this is the answer.
pub record IsRefusalOfStamp (told : Option ℕ) (right : ℕ) (said : Answer) : Type 0 where
  pub other : Agrees told right → ⊥
  pub says : said ≡ answer.Illegal (cause.Stamp right)

-- The role is heard: it isn't told in another incarnation than the current one, and the role is up.
pub record IsHeard (s : SessionView) (r : ℕ) (told : Option ℕ) : Type 0 where
  pub now : IsOfNow s r told
  pub up : IsUp s r

-- It isn't heard, and this is the answer.
abbrev pub IsUnheard : SessionView → ℕ → Option ℕ → Answer → Type 0
IsUnheard s r told (answer.Stale (stale.Incarnation n)) = IsOld s r told × (n ≡ incarnation_of s r)
IsUnheard s r told (answer.Illegal (cause.Incarnation n)) = IsEarly s r told × (n ≡ incarnation_of s r)
IsUnheard s r told (answer.Illegal cause.Down) = IsOfNow s r told × IsDown s r
IsUnheard s r told _ = ⊥
