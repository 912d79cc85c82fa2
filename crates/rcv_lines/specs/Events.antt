-- What some fields of a line say of what the line says.
use Rattle.std.specs.Prelude.{◌≡◌, ℕ, List, [], ◌∷◌, ◌++◌, decimal}
use Rattle.std.specs.Fmt.{signed_decimal}
use Rattle.rcv_tree.specs.declared.event.Event.{Event}
use Rattle.rcv_tree.specs.declared.entry.Entry.{Entry}
use Rattle.rcv_tree.specs.declared.entry.Entry.TheVariants.{Send, Recv, Crash, Recover}
use Rattle.rcv_session.specs.Session.{SessionView, roles_of, net_for}
use Rattle.rcv_journal.specs.declared.line.RoleLine.{RoleLine}
use Rattle.rcv_journal.specs.JournalText.{name_of, word_text}
use Rattle.rcv_lines.specs.Named.{cuts_fields}

-- Its role, its point with the point's label, and its value.
pub record SaysEvent (setup : SessionView) (e : Event) (of at named value : List ℕ) : Type 0 where
  pub role : of ≡ name_of setup e.role
  pub point : at ≡ decimal e.point
  pub label : named ≡ (net_for setup).label e.point
  pub number : value ≡ signed_decimal e.value

-- The role, its two numbers and its word.
pub record SaysRole (setup : SessionView) (line : RoleLine) (of kept raw word : List ℕ) : Type 0 where
  pub role : of ≡ name_of setup line.role
  pub kept_is : kept ≡ decimal line.kept
  pub raw_is : raw ≡ decimal line.raw
  pub word_is : word ≡ word_text line.word

-- The role that failed, how many events are undone, and what is kept of the concerned roles; no other entry.
abbrev pub SaysRecovery : SessionView → Entry → List ℕ → List ℕ → List (List ℕ) → Type 0
SaysRecovery setup (Send e) of number cuts = ⊥
SaysRecovery setup (Recv e) of number cuts = ⊥
SaysRecovery setup (Crash p) of number cuts = ⊥
SaysRecovery setup (Recover p concerned kept undone) of number cuts =
    (of ≡ name_of setup p) × (number ≡ decimal undone ++ 58 ∷ [])
    × (cuts ≡ cuts_fields setup.protocol.roles concerned.0 kept (roles_of setup))
