-- What the parts of a journal's value say.
use Rattle.std.specs.Prelude.{◌≡◌, ◌≤◌, ◌<◌, ◌^◌, ◌-◌, ◌+◌, ℕ, false, List, [], ◌∷◌, All, codes, length, map, take, drop, flat_map, slice_index, slice_get, Some}
use Rattle.std.specs.List.{range_with_len}
use Rattle.serde_json.specs.Data.{Data, member, no_members, number, object, string}
use Rattle.serde_json.specs.Find.{of_integer}
use Rattle.rcv_tree.specs.Bits.{has_bit}
use Rattle.serde_json.specs.View.{view}
use Rattle.rcv_tree.specs.declared.event.Dir.{Dir}
use Rattle.rcv_tree.specs.declared.event.Event.{Event}
use Rattle.rcv_tree.specs.declared.entry.Entry.{Entry}
use Rattle.rcv_tree.specs.declared.entry.Entry.TheVariants.{Recover}
use Rattle.rcv_session.specs.Session.{SessionView, roles_of, net_for}
use Rattle.rcv_journal.specs.declared.line.RoleLine.{RoleLine}
use Rattle.rcv_journal.specs.JournalText.{word_text}
use Rattle.rcv_journal.specs.Recorded.{JournalView}
use Rattle.rcv_journal.specs.Form.{IsFormed, IsFormedEntry, IsFormedEvent, AreCuts, FitsLine}
use Rattle.rcv_json_reader.specs.declared.entry.Recovery.{Recovery}
use Rattle.rcv_json_reader.specs.declared.event.Said.{Said}
use Rattle.rcv_journal.specs.Json.{count, cut_data, cuts_data, entry_data, formed_data, line_data, list_of, role_data}

-- The event is of the form, and these values say it.
pub record SaysEvent (setup : SessionView) (dir : Dir) (said : Said) (e : Event) : Type 0 where
  pub formed : IsFormedEvent setup dir e
  pub role : view said.role.now ≡ role_data setup e.role
  pub point : view said.point.now ≡ count e.point
  pub label : view said.label.now ≡ string ((net_for setup).label e.point)
  pub value : view said.value.now ≡ number (of_integer e.value)
  pub stamp : view said.stamp.now ≡ count e.stamp
  pub sent : view said.sent.now ≡ count e.sent

-- The value of a role's pair.
abbrev pub pair_data : SessionView → ℕ → ℕ → Data
pair_data setup q n = list_of (role_data setup q ∷ count n ∷ [])

-- The value says these cuts.
pub record SaysCuts (setup : SessionView) (value : Data) (concerned : ℕ) (kept : List ℕ) : Type 0 where
  pub cuts : AreCuts (roles_of setup) concerned kept
  pub is : value ≡ list_of (cuts_data setup concerned kept (roles_of setup))

-- Three values say the recovery.
pub record SaysRecovery (setup : SessionView) (failed undone pairs : Data) (r : Recovery) : Type 0 where
  pub declared : r.role < roles_of setup
  pub fits : r.undone < 2 ^ 32
  pub role : failed ≡ role_data setup r.role
  pub number : undone ≡ count r.undone
  pub cuts : SaysCuts setup pairs r.cuts.concerned.0 r.cuts.kept

-- The entry of a recovery.
abbrev pub recovered : Recovery → Entry
recovered r = Recover r.role r.cuts.concerned r.cuts.kept r.undone

-- What the pairs from role q on say.
abbrev pub later_cuts : SessionView → ℕ → List ℕ → ℕ → List Data
later_cuts setup concerned kept q = flat_map (cut_data setup concerned kept) (range_with_len q (roles_of setup - q))

-- So many pairs were read as the cuts of the roles below q. Whatever recovery all pairs say, the other pairs say its cuts of the roles from
-- q on.
pub record HasRead (setup : SessionView) (pairs : List Data) (q read concerned : ℕ) (kept : List ℕ) : Type 0 where
  pub within : read ≤ length pairs
  pub said : take read pairs ≡ cuts_data setup concerned kept q
  pub later : (r : ℕ) → q ≤ r → r < 8 → has_bit concerned r ≡ false
  pub byte : concerned < 2 ^ 8
  pub eight : length kept ≡ 8
  pub fit : All (λ n. n < 2 ^ 32) kept
  pub others : (r : ℕ) → has_bit concerned r ≡ false → r < 8 → slice_index kept r ≡ 0
  pub rest : (c : ℕ) (k : List ℕ) → All (λ n. n < 2 ^ 32) k → pairs ≡ cuts_data setup c k (roles_of setup)
      → drop read pairs ≡ later_cuts setup c k q

-- The line of role r, with numbers that fit their types.
pub record IsFormedLine (r : ℕ) (line : RoleLine) : Type 0 where
  pub role : line.role ≡ r
  pub kept : line.kept < 2 ^ 32
  pub raw : line.raw < 2 ^ 32

pub record SaysLine (setup : SessionView) (r : ℕ) (value : Data) (line : RoleLine) : Type 0 where
  pub formed : IsFormedLine r line
  pub is : value ≡ line_data setup line

-- Three values say what a line says of its role.
pub record SaysNumbers (line : RoleLine) (k r w : Data) : Type 0 where
  pub kept : k ≡ count line.kept
  pub raw : r ≡ count line.raw
  pub word : w ≡ string (word_text line.word)

-- The value is the entry's, which is of the form.
pub record SaysEntry (setup : SessionView) (value : Data) (e : Entry) : Type 0 where
  pub formed : IsFormedEntry setup e
  pub is : value ≡ entry_data setup e

-- The value is the list of the entries' values.
pub record SaysEntries (setup : SessionView) (value : Data) (entries : List Entry) : Type 0 where
  pub formed : All (IsFormedEntry setup) entries
  pub is : value ≡ list_of (map (entry_data setup) entries)

-- The value is the list of the lines, one for each role, in order.
pub record SaysLines (setup : SessionView) (value : Data) (lines : List RoleLine) : Type 0 where
  pub all : length lines ≡ roles_of setup
  pub in_order : (r : ℕ) (line : RoleLine) → slice_get lines r ≡ Some line → line.role ≡ r
  pub fit : All FitsLine lines
  pub is : value ≡ list_of (map (line_data setup) lines)

-- Roles, ascending, from a on and below b.
abbrev pub Rise : ℕ → List ℕ → ℕ → Type 0
Rise a [] b = a ≤ b
Rise a (r ∷ rs) b = (a ≤ r) × Rise (r + 1) rs b

-- The value is the list of the names of declared roles, ascending.
pub record SaysLimited (setup : SessionView) (value : Data) (limited : List ℕ) : Type 0 where
  pub rise : Rise 0 limited (roles_of setup)
  pub is : value ≡ list_of (map (role_data setup) limited)

-- An object of three members.
abbrev pub three_data : Data → Data → Data → Data
three_data entries limited roles =
    object (member (codes "entries") entries (member (codes "limited") limited (member (codes "roles") roles no_members)))

-- The value is the journal's, which is of the form.
pub record SaysJournal (setup : SessionView) (value : Data) (j : JournalView) : Type 0 where
  pub formed : IsFormed setup j
  pub is : value ≡ formed_data setup j
