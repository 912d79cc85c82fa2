-- The first entry at which a list isn't a legal journal.
use Rattle.std.specs.Prelude.{◌≡◌, ℕ, ◌<◌, Some, List, length, take, slice_get}
use Rattle.rcv_tree.specs.declared.entry.Entry.{Entry}
use Rattle.rcv_model.specs.Journal.{Rules, reading, May, IsLegal}

-- The entry with number k, counted from 0, is the first that may not come: those before it are a legal journal.
pub record IsFirstWrong (rules : Rules) (entries : List Entry) (k : ℕ) : Type 0 where
  pub inside : k < length entries
  pub before : IsLegal rules (take k entries)
  pub wrong : (e : Entry) → slice_get entries k ≡ Some e → May rules (reading rules (take k entries)) e → ⊥
