-- What the groups of a picture tell, and what stands in their titles.
use Rattle.std.specs.Prelude.{◌≡◌, ℕ, Bool, true, false, List, ◌++◌, map, flat_map, filter, Some, slice_get, codes, decimal}
use Rattle.std.specs.List.{All, range_with_len}
use Rattle.rcv_tree.specs.declared.entry.Entry as entries
use Rattle.rcv_tree.specs.declared.entry.Entry.TheVariants.{Send, Recv, Crash, Recover}
use Rattle.rcv_session.specs.Session.{SessionView, roles_of}
use Rattle.rcv_core.specs.Book.{BookView}
use Rattle.rcv_journal.specs.JournalText.{name_of, event_text, kept_text, entry_line}
use Rattle.rcv_scene.specs.Grid.{Scene}
use Rattle.rcv_scene.specs.Drawn.{AreDrawn}
use Rattle.rcv_picture.specs.declared.group.Group.{Group}
use Rattle.rcv_picture.specs.declared.group.Says.{Says}
use Rattle.rcv_picture.specs.declared.group.Says.TheVariants.{Nothing, Entry, Fold, Arrow}

-- Whether it says anything.
abbrev pub says_something : Says → Bool
says_something Nothing = false
says_something (Entry place undone) = true
says_something (Fold first end counts) = true
says_something (Arrow send receive undone) = true

-- These, without those that say nothing.
abbrev pub said : List Says → List Says
said says = filter says_something says

-- What the groups tell, in order.
abbrev pub told : List Group → List Says
told groups = said (map (λ g. g.says) groups)

-- The text is the line of the entry at this place, if there is one, without the line feed.
abbrev pub IsLineAt : BookView → ℕ → List ℕ → Type 0
IsLineAt book place text =
    (e : entries.Entry) → slice_get book.entries place ≡ Some e → entry_line book.setup e ≡ text ++ codes "\n"

-- A title of what is said: if it says an entry of the journal, the title is the entry's line.
abbrev pub IsTitle : BookView → Says → List ℕ → Type 0
IsTitle book Nothing title = Unit {0}
IsTitle book (Entry place undone) title = IsLineAt book place title
IsTitle book (Fold first end counts) title = Unit {0}
IsTitle book (Arrow send receive undone) title = Unit {0}

-- Each group that says an entry has its line as its title.
abbrev pub AreTitled : BookView → List Group → Type 0
AreTitled book groups = All (λ g. IsTitle book g.says g.title.items) groups

-- The groups have grown by some that say these, or nothing.
pub record Adds (book : BookView) (scene : Scene) (old new : List Group) (says : List Says) : Type 0 where
  pub tell : told new ≡ told old ++ said says
  pub titled : AreTitled book old → AreTitled book new
  pub drawn : AreDrawn scene old → AreDrawn scene new

-- The line of an entry, except for its line feed.
abbrev pub bare_line : SessionView → entries.Entry → List ℕ
bare_line setup (Send e) = codes "send " ++ event_text setup e
bare_line setup (Recv e) = codes "recv " ++ event_text setup e ++ codes " <" ++ decimal e.sent
bare_line setup (Crash p) = codes "crash " ++ name_of setup p
bare_line setup (Recover p concerned kept undone) =
    codes "recover " ++ name_of setup p ++ codes " undone " ++ decimal undone ++ codes ":"
    ++ flat_map (kept_text setup concerned.0 kept) (range_with_len 0 (roles_of setup))
