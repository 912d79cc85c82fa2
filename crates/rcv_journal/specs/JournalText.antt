-- The text of a journal: a line for each entry, a line for each role, and how the session ended.
use Rattle.std.specs.Prelude.{◌≡◌, ℕ, ◌<◌, ◌≤◌, Bool, true, false, if◌then◌else◌, List, [], ◌++◌, flat_map, slice_index, codes, decimal, All}
use Rattle.std.specs.Fmt.{signed_decimal}
use Rattle.std.specs.List.{list_all, range_with_len}
use Rattle.rcv_tree.specs.Bits.{has_bit}
use Rattle.rcv_tree.specs.declared.event.Event.{Event}
use Rattle.rcv_tree.specs.declared.entry.Entry.{Entry}
use Rattle.rcv_tree.specs.declared.entry.Entry.TheVariants.{Send, Recv, Crash, Recover}
use Rattle.rcv_tree.specs.Names.{name_at}
use Rattle.rcv_session.specs.Session.{SessionView, roles_of, net_for}
use Rattle.rcv_journal.specs.declared.line.RoleLine.{RoleLine}
use Rattle.rcv_journal.specs.declared.line.RoleWord.{RoleWord}
use Rattle.rcv_journal.specs.declared.line.RoleWord.TheVariants.{Done, Limit, Waits}

-- The event is one of a declared role at a point of the text.
pub record IsNamedEvent (setup : SessionView) (e : Event) : Type 0 where
  pub role : e.role < roles_of setup
  pub first : 1 ≤ e.point
  pub last : e.point ≤ (net_for setup).count

-- Each role and each point that the entry names is one of the protocol; who sends at a point is its sender, and who
-- receives there its receiver.
abbrev pub IsNamed : SessionView → Entry → Type 0
IsNamed setup (Send e) = IsNamedEvent setup e × (e.role ≡ (net_for setup).sender e.point)
IsNamed setup (Recv e) = IsNamedEvent setup e × (e.role ≡ (net_for setup).receiver e.point)
IsNamed setup (Crash p) = p < roles_of setup
IsNamed setup (Recover p concerned kept undone) = p < roles_of setup

-- The same, whoever makes its event.
abbrev pub IsDeclared : SessionView → Entry → Type 0
IsDeclared setup (Send e) = IsNamedEvent setup e
IsDeclared setup (Recv e) = IsNamedEvent setup e
IsDeclared setup (Crash p) = p < roles_of setup
IsDeclared setup (Recover p concerned kept undone) = p < roles_of setup

abbrev pub AreNamed : SessionView → List Entry → Type 0
AreNamed setup entries = All (IsNamed setup) entries

-- The roles of these lines are declared.
abbrev pub HaveRoles : SessionView → List RoleLine → Type 0
HaveRoles setup lines = All (λ line. line.role < roles_of setup) lines

-- The name of a role.
abbrev pub name_of : SessionView → ℕ → List ℕ
name_of setup r = name_at setup.protocol.roles r

-- What a Send and a Recv have in common: `ROLE POINT LABEL VALUE @STAMP`.
abbrev pub event_text : SessionView → Event → List ℕ
event_text setup e =
    name_of setup e.role ++ codes " " ++ decimal e.point ++ codes " " ++ (net_for setup).label e.point
    ++ codes " " ++ signed_decimal e.value ++ codes " @" ++ decimal e.stamp

-- What a recovery says of role q: ` ROLE KEPT` if the role is concerned, else nothing.
abbrev pub kept_text : SessionView → ℕ → List ℕ → ℕ → List ℕ
kept_text setup concerned kept q =
    if has_bit concerned q then codes " " ++ name_of setup q ++ codes " " ++ decimal (slice_index kept q) else []

-- The line of an entry.
abbrev pub entry_line : SessionView → Entry → List ℕ
entry_line setup (Send e) = codes "send " ++ event_text setup e ++ codes "\n"
entry_line setup (Recv e) = codes "recv " ++ event_text setup e ++ codes " <" ++ decimal e.sent ++ codes "\n"
entry_line setup (Crash p) = codes "crash " ++ name_of setup p ++ codes "\n"
entry_line setup (Recover p concerned kept undone) =
    codes "recover " ++ name_of setup p ++ codes " undone " ++ decimal undone ++ codes ":"
    ++ flat_map (kept_text setup concerned.0 kept) (range_with_len 0 (roles_of setup)) ++ codes "\n"

-- What the last column of a role's line says.
abbrev pub word_text : RoleWord → List ℕ
word_text Done = codes "done"
word_text Limit = codes "limit"
word_text Waits = codes "waits"

-- The line of a role: `role ROLE kept N raw N WORD`.
abbrev pub role_line : SessionView → RoleLine → List ℕ
role_line setup line =
    codes "role " ++ name_of setup line.role ++ codes " kept " ++ decimal line.kept
    ++ codes " raw " ++ decimal line.raw ++ codes " " ++ word_text line.word ++ codes "\n"

-- The word is `done`; the word is `limit`.
abbrev pub is_done : RoleWord → Bool
is_done Done = true
is_done Limit = false
is_done Waits = false

abbrev pub is_limit : RoleWord → Bool
is_limit Done = false
is_limit Limit = true
is_limit Waits = false

-- A space and the role's name if the line has the word `limit`, else nothing.
abbrev pub limit_text : SessionView → RoleLine → List ℕ
limit_text setup line = if is_limit line.word then codes " " ++ name_of setup line.role else []

-- How the session ended: completed if all roles are done, else which roles are at the limit.
abbrev pub last_line : SessionView → List RoleLine → List ℕ
last_line setup lines =
    if list_all (λ line. is_done line.word) lines then codes "completed\n"
    else codes "limited" ++ flat_map (limit_text setup) lines ++ codes "\n"

-- What stands after the entries: the lines of the roles, and the last line.
abbrev pub closing_text : SessionView → List RoleLine → List ℕ
closing_text setup lines = flat_map (role_line setup) lines ++ last_line setup lines

-- The whole text.
abbrev pub journal_text : SessionView → List Entry → List RoleLine → List ℕ
journal_text setup entries lines =
    flat_map (entry_line setup) entries ++ flat_map (role_line setup) lines ++ last_line setup lines
