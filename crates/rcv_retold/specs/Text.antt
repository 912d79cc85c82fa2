-- The text of a told journal, and the first line at which a text isn't one.
use Rattle.std.specs.Prelude.{◌≡◌, ◌⊎◌, ◌≤◌, ◌+◌, ◌-◌, ℕ, Option, List, ◌∷◌, ◌++◌, All, length, take, flat_map, MatchOption}
use Rattle.rcv_tree.specs.declared.entry.Entry.{Entry}
use Rattle.rcv_tree.specs.declared.protocol.Protocol.{Protocol}
use Rattle.rcv_session.specs.Session.{SessionView}
use Rattle.rcv_journal.specs.JournalText.{entry_line}
use Rattle.rcv_journal.specs.Recorded.{bare}
use Rattle.rcv_journal.specs.Form.{IsFormedEntry, lines_of}
use Rattle.rcv_told.specs.Told.{Remembered, told}
use Rattle.rcv_retold.specs.Retold.{terms_for, IsRetold}
use Rattle.rcv_retold.specs.Closing.{IsClosing}

-- Entries of the protocol's journals, and the lines that say them.
abbrev pub AreFormed : Protocol → List Entry → Type 0
AreFormed protocol entries = All (IsFormedEntry (bare protocol)) entries

abbrev pub line_of : Protocol → Entry → List ℕ
line_of protocol e = entry_line (bare protocol) e

abbrev pub entries_text : Protocol → List Entry → List ℕ
entries_text protocol entries = flat_map (line_of protocol) entries

-- The text is that of these told entries: each may be told as it stands after those before it, and after the last one the text
-- says where the roles are then.
pub record IsToldText (setup : SessionView) (text : List ℕ) (entries : List Entry) : Type 0 where
  pub formed : AreFormed setup.protocol entries
  pub retold : IsRetold (terms_for setup) entries
  pub closing : List ℕ
  pub closes : IsClosing setup.protocol (told (terms_for setup) entries) closing
  pub is_text : text ≡ entries_text setup.protocol entries ++ closing

-- Some told text begins with these lines.
pub record MayBegin (setup : SessionView) (lines : List (List ℕ)) : Type 0 where
  pub text : List ℕ
  pub entries : List Entry
  pub is_told : IsToldText setup text entries
  pub more : List (List ℕ)
  pub begins : lines_of text ≡ lines ++ more

-- Line k, counted from 1, is the first wrong one: no told text begins with the first k lines, but one does with those before.
-- It is the line after the last one if the text stops too early.
pub record IsFirstWrong (setup : SessionView) (text : List ℕ) (k : ℕ) : Type 0 where
  pub first : 1 ≤ k
  pub before : MayBegin setup (take (k - 1) (lines_of text))
  pub wrong : ((k ≤ length (lines_of text)) × (MayBegin setup (take k (lines_of text)) → ⊥))
      ⊎ ((k ≡ length (lines_of text) + 1) × ((entries : List Entry) → IsToldText setup text entries → ⊥))

-- Line k, counted from 1, is the first at which a text isn't the right one: the line after its last one if it stops too early.
pub record IsFirstOther (text right : List ℕ) (k : ℕ) : Type 0 where
  pub first : 1 ≤ k
  pub before : take (k - 1) (lines_of text) ≡ take (k - 1) (lines_of right)
  pub other : ((k ≤ length (lines_of text)) × (take k (lines_of text) ≡ take k (lines_of right) → ⊥))
      ⊎ ((k ≡ length (lines_of text) + 1) × (text ≡ right → ⊥))

-- The right one stands after entries that leave this memory; and the line at which a text isn't it, if there is one.
abbrev pub IsEnd : Protocol → Remembered → List ℕ → Option ℕ → Type 0
IsEnd protocol m text other =
    (closing : List ℕ) × IsClosing protocol m closing × MatchOption other (text ≡ closing) (IsFirstOther text closing)

-- The lines don't begin with an entry.
abbrev pub BeginOtherwise : Protocol → List (List ℕ) → Type 0
BeginOtherwise protocol lines = (e : Entry) (more : List (List ℕ)) → IsFormedEntry (bare protocol) e → lines ≡ line_of protocol e ∷ more → ⊥

-- The text is these entries' lines and the rest; and the rest doesn't begin with an entry.
pub record AreFirst (protocol : Protocol) (text : List ℕ) (entries : List Entry) (rest : List ℕ) : Type 0 where
  pub formed : AreFormed protocol entries
  pub is_text : text ≡ entries_text protocol entries ++ rest
  pub few : length entries + length rest ≤ length text
  pub otherwise : BeginOtherwise protocol (lines_of rest)
