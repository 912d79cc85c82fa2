-- The rule of the fence's word, and what each step tells.
use Rattle.std.specs.Prelude.{◌≡◌, ℕ, ◌+◌, List, [], ◌∷◌, ◌++◌}
use mathlib.Core.Option.{some}
use lib.ListN.{get_elem?}
use Rattle.atomic_table.specs.Table.{State, Me, Step}
use Rattle.atomic_table.specs.Seated.{TableId}
use Rattle.rcv_fence.specs.declared.rule.Sight.{Sight}
use Rattle.rcv_fence.specs.Codes.{IsWord}
use Rattle.rcv_fence.specs.Shown.{Shown}

-- The table's word and what each seat knows; what one seat knows.
abbrev pub Fence : Type 0
Fence = State (Unit {0}) Sight

abbrev pub Mine : Type 0
Mine = Me (Unit {0}) Sight

-- Nothing was looked at or written.
abbrev pub unlooked : Sight
unlooked = record { looks = 0; last = 0; seen = []; raised = [] }

-- What contracts see of a seat of this table.
abbrev pub shown : TableId → Sight → Shown
shown id sight = record { fence = id; looks = sight.looks; last = sight.last; seen = sight.seen; raised = sight.raised }

-- What each seat saw last is 0 or a code.
abbrev pub AllSawWords : List Sight → Type 0
AllSawWords views = (k : ℕ) (v : Sight) → get_elem? views k ≡ some v → IsWord v.last

-- The rule: there is one word, and it and all that was seen last is 0 or a code.
pub record Keeps (s : Fence) : Type 0 where
  pub word : ℕ
  pub words_are : s.words ≡ word ∷ []
  pub word_is : IsWord word
  pub seen : AllSawWords s.views

-- A look adds 1 to the looks, keeps the word found and appends it to those seen; a write appends its word to those
-- written. All else stays.
abbrev pub after_look : Sight → ℕ → Sight
after_look v found = record { looks = v.looks + 1; last = found; seen = v.seen ++ found ∷ []; raised = v.raised }

abbrev pub after_write : Sight → ℕ → Sight
after_write v word = record { looks = v.looks; last = v.last; seen = v.seen; raised = v.raised ++ word ∷ [] }

abbrev pub Looked : Step (Unit {0}) → Mine → ℕ → Mine → Type 0
Looked st m found m' = (m'.0 ≡ after_look m.0 found) × IsWord found

abbrev pub Wrote : Step (Unit {0}) → Mine → ℕ → Mine → Type 0
Wrote st m found m' = m'.0 ≡ after_write m.0 st.first

-- A seat of a table of one word, which has seen 0 or a code.
pub record IsSeated (table seat : TableId) (sight : Sight) : Type 0 where
  pub one_word : table.words ≡ 1
  pub its_table : seat ≡ table
  pub word : IsWord sight.last
