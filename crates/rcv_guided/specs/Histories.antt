-- The whole history of a session: what was told from its start on, though most of it is forgotten.
use Rattle.std.specs.Prelude.{List, ◌++◌}
use Rattle.rcv_tree.specs.declared.entry.Entry.{Entry}
use Rattle.rcv_guide.specs.History.{HasHistory}
use Rattle.rcv_guided.specs.Session.{SessionView}

-- If the old session has some history, the new one has that history with these entries after it.
abbrev pub GoesOnBy : SessionView → List Entry → SessionView → Type 0
GoesOnBy old entries new = (history : List Entry) → HasHistory old.guide history → HasHistory new.guide (history ++ entries)
