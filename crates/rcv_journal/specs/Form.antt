-- The texts that are read back as a journal, and the first line at which a text is none of them.
use Rattle.std.specs.Prelude.{◌≡◌, ◌≢◌, ◌⊎◌, ◌<◌, ◌≤◌, ◌^◌, ◌+◌, ◌-◌, ◌==◌, ℕ, false, if◌then◌else◌, List, [], ◌∷◌, ◌++◌, All, length, map, take, flat_map, codes, slice_get, slice_index, FitsSigned, Some}
use mir.Syntax.{w64}
use Rattle.rcv_tree.specs.Bits.{has_bit}
use Rattle.rcv_tree.specs.declared.event.Dir.{Dir}
use Rattle.rcv_tree.specs.declared.event.Dir.TheVariants.{Sent, Got}
use Rattle.rcv_tree.specs.declared.event.Event.{Event}
use Rattle.rcv_tree.specs.declared.entry.Entry.{Entry}
use Rattle.rcv_tree.specs.declared.entry.Entry.TheVariants.{Send, Recv, Crash, Recover}
use Rattle.rcv_session.specs.Session.{SessionView, roles_of}
use Rattle.rcv_journal.specs.declared.line.RoleLine.{RoleLine}
use Rattle.rcv_journal.specs.JournalText.{IsNamedEvent, entry_line, name_of, role_line}
use Rattle.rcv_journal.specs.Recorded.{JournalView}

-- An event with numbers that fit their types.
pub record IsFormedEvent (setup : SessionView) (dir : Dir) (e : Event) : Type 0 where
  pub named : IsNamedEvent setup e
  pub way : e.dir ≡ dir
  pub value : FitsSigned w64 e.value
  pub stamp : e.stamp < 2 ^ 64
  pub sent : e.sent < 2 ^ 64

-- What a recovery says of so many roles: it concerns at least one of them; a role that isn't concerned keeps 0.
pub record AreCuts (roles concerned : ℕ) (kept : List ℕ) : Type 0 where
  pub some : concerned ≢ 0
  pub declared : concerned < 2 ^ roles
  pub eight : length kept ≡ 8
  pub fit : All (λ n. n < 2 ^ 32) kept
  pub others : (q : ℕ) → has_bit concerned q ≡ false → q < 8 → slice_index kept q ≡ 0

pub record IsFormedRecovery (setup : SessionView) (p concerned : ℕ) (kept : List ℕ) (undone : ℕ) : Type 0 where
  pub role : p < roles_of setup
  pub cuts : AreCuts (roles_of setup) concerned kept
  pub undone_fits : undone < 2 ^ 32

abbrev pub IsFormedEntry : SessionView → Entry → Type 0
IsFormedEntry setup (Send e) = IsFormedEvent setup Sent e × (e.sent ≡ e.stamp)
IsFormedEntry setup (Recv e) = IsFormedEvent setup Got e
IsFormedEntry setup (Crash p) = p < roles_of setup
IsFormedEntry setup (Recover p concerned kept undone) = IsFormedRecovery setup p concerned.0 kept undone

-- The numbers of a role's line fit their types.
abbrev pub FitsLine : RoleLine → Type 0
FitsLine line = (line.kept < 2 ^ 32) × (line.raw < 2 ^ 32)

-- Each number is below the next one.
abbrev pub IsAscending : List ℕ → Type 0
IsAscending roles = (k a b : ℕ) → slice_get roles k ≡ Some a → slice_get roles (k + 1) ≡ Some b → a < b

-- Declared roles in order, each once.
pub record AreLimited (setup : SessionView) (limited : List ℕ) : Type 0 where
  pub declared : All (λ r. r < roles_of setup) limited
  pub ascending : IsAscending limited

-- One line for each role, in order, and the roles that the last line names.
pub record IsFormed (setup : SessionView) (j : JournalView) : Type 0 where
  pub entries : All (IsFormedEntry setup) j.entries
  pub all : length j.roles ≡ roles_of setup
  pub in_order : (r : ℕ) (line : RoleLine) → slice_get j.roles r ≡ Some line → line.role ≡ r
  pub fit : All FitsLine j.roles
  pub limited : AreLimited setup j.limited

-- The last line: `completed`, or `limited` and the roles.
abbrev pub end_line : SessionView → List ℕ → List ℕ
end_line setup [] = codes "completed\n"
end_line setup (r ∷ rest) = codes "limited" ++ flat_map (λ q. codes " " ++ name_of setup q) (r ∷ rest) ++ codes "\n"

-- The lines of a journal, each with its line feed.
abbrev pub journal_lines : SessionView → JournalView → List (List ℕ)
journal_lines setup j = map (entry_line setup) j.entries ++ map (role_line setup) j.roles ++ end_line setup j.limited ∷ []

-- The lines of a text, each with its line feed; what stands after the last line feed is a line too.
abbrev pub lines_from : List ℕ → List ℕ → List (List ℕ)
lines_from [] [] = []
lines_from (b ∷ begun) [] = (b ∷ begun) ∷ []
lines_from begun (b ∷ rest) =
    if b == 10 then (begun ++ b ∷ []) ∷ lines_from [] rest else lines_from (begun ++ b ∷ []) rest

abbrev pub lines_of : List ℕ → List (List ℕ)
lines_of text = lines_from [] text

-- The text is the journal's.
abbrev pub Spells : SessionView → List ℕ → JournalView → Type 0
Spells setup text j = IsFormed setup j × (lines_of text ≡ journal_lines setup j)

-- Some text of the form begins with these lines.
abbrev pub MayBegin : SessionView → List (List ℕ) → Type 0
MayBegin setup lines = (j : JournalView) × IsFormed setup j × (more : List (List ℕ)) × (journal_lines setup j ≡ lines ++ more)

-- Line k, counted from 1, is the first at which the text isn't of the form: no text of the form begins with the first k lines,
-- but one does with those before. If the text stops too early, k is the line after the last.
pub record IsFirstWrong (setup : SessionView) (text : List ℕ) (k : ℕ) : Type 0 where
  pub first : 1 ≤ k
  pub before : MayBegin setup (take (k - 1) (lines_of text))
  pub wrong : ((k ≤ length (lines_of text)) × (MayBegin setup (take k (lines_of text)) → ⊥))
      ⊎ ((k ≡ length (lines_of text) + 1) × ((j : JournalView) → Spells setup text j → ⊥))
