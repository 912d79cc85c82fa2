-- The fields of a line: what stands between its spaces.
use Rattle.std.specs.Prelude.{◌≡◌, ◌≢◌, ℕ, List, [], ◌∷◌, ◌++◌, map, length, codes, decimal}
use Rattle.std.specs.Fmt.{signed_decimal}
use Rattle.rcv_tree.specs.declared.event.Event.{Event}
use Rattle.rcv_tree.specs.declared.event.Dir.{Dir}
use Rattle.rcv_tree.specs.declared.event.Dir.TheVariants.{Got}
use Rattle.rcv_tree.specs.declared.entry.Entry.{Entry}
use Rattle.rcv_tree.specs.declared.entry.Entry.TheVariants.{Send, Recv, Crash, Recover}
use Rattle.rcv_session.specs.Session.{SessionView, roles_of, net_for}
use Rattle.rcv_journal.specs.declared.line.RoleLine.{RoleLine}
use Rattle.rcv_journal.specs.JournalText.{name_of, word_text}
use Rattle.rcv_journal.specs.Form.{IsFormedEvent, AreLimited}
use Rattle.rcv_lines.specs.Named.{cuts_fields}
use Rattle.rcv_lines.specs.Line.{IsFormedLine, IsFormedRoleLine, LineView, EntryLine, RoleLineOf, EndLine}

-- The fields of an event: its kind, and what an event of each kind has; a Recv has one more.
abbrev pub event_fields : SessionView → List ℕ → Event → List (List ℕ) → List (List ℕ)
event_fields setup kind e more =
    kind ∷ name_of setup e.role ∷ decimal e.point ∷ (net_for setup).label e.point ∷ signed_decimal e.value
    ∷ (64 ∷ decimal e.stamp) ∷ more

abbrev pub entry_fields : SessionView → Entry → List (List ℕ)
entry_fields setup (Send e) = event_fields setup (codes "send") e []
entry_fields setup (Recv e) = event_fields setup (codes "recv") e ((60 ∷ decimal e.sent) ∷ [])
entry_fields setup (Crash p) = codes "crash" ∷ name_of setup p ∷ []
entry_fields setup (Recover p concerned kept undone) =
    codes "recover" ∷ name_of setup p ∷ codes "undone" ∷ (decimal undone ++ 58 ∷ [])
    ∷ cuts_fields setup.protocol.roles concerned.0 kept (roles_of setup)

abbrev pub role_fields : SessionView → RoleLine → List (List ℕ)
role_fields setup line =
    codes "role" ∷ name_of setup line.role ∷ codes "kept" ∷ decimal line.kept ∷ codes "raw" ∷ decimal line.raw
    ∷ word_text line.word ∷ []

abbrev pub end_fields : SessionView → List ℕ → List (List ℕ)
end_fields setup [] = codes "completed" ∷ []
end_fields setup (r ∷ rest) = codes "limited" ∷ map (name_of setup) (r ∷ rest)

-- The fields say that these are the roles at the limit, at least one.
pub record SaysLimited (setup : SessionView) (limited : List ℕ) (fields : List (List ℕ)) : Type 0 where
  pub some : length limited ≢ 0
  pub said : fields ≡ codes "limited" ∷ map (name_of setup) limited

-- The fields of what a line says.
abbrev pub line_fields : SessionView → LineView → List (List ℕ)
line_fields setup (EntryLine entry) = entry_fields setup entry
line_fields setup (RoleLineOf line) = role_fields setup line
line_fields setup (EndLine limited) = end_fields setup limited

-- The fields say no event of this kind that is made this way; no Recv; no line of a role; no last line.
abbrev pub SayNoEvent : SessionView → Dir → List ℕ → List (List ℕ) → Type 0
SayNoEvent setup dir kind fields = (e : Event) → IsFormedEvent setup dir e → fields ≡ event_fields setup kind e [] → ⊥

abbrev pub SayNoRecv : SessionView → List (List ℕ) → Type 0
SayNoRecv setup fields =
    (e : Event) → IsFormedEvent setup Got e
    → fields ≡ event_fields setup (codes "recv") e ((60 ∷ decimal e.sent) ∷ []) → ⊥

abbrev pub SayNoRole : SessionView → List (List ℕ) → Type 0
SayNoRole setup fields = (line : RoleLine) → IsFormedRoleLine setup line → fields ≡ role_fields setup line → ⊥

abbrev pub SayNoLimited : SessionView → List (List ℕ) → Type 0
SayNoLimited setup fields = (roles : List ℕ) → AreLimited setup roles → SaysLimited setup roles fields → ⊥

abbrev pub SayNoEnd : SessionView → List (List ℕ) → Type 0
SayNoEnd setup fields = (roles : List ℕ) → AreLimited setup roles → fields ≡ end_fields setup roles → ⊥

-- The fields say no line of the form.
abbrev pub SayNothing : SessionView → List (List ℕ) → Type 0
SayNothing setup fields = (said : LineView) → IsFormedLine setup said → fields ≡ line_fields setup said → ⊥
