-- What holds of each dialogue.
use Rattle.std.specs.Prelude.{ℕ, List, ◌++◌}
use Rattle.rcv_tree.specs.declared.entry.Entry.{Entry}
use Rattle.rcv_guide.specs.History.{HasHistory}
use Rattle.rcv_guided.specs.Session.{SessionView}
use Rattle.rcv_talk.specs.Dialogue.{AreTold, NoneRestores}

-- If a session has a history, it goes on by what is told and taken, as long as no line of a snapshot is told. So a restored
-- session goes on like the session whose snapshot it was.
abbrev pub HistoriesGoOnBehindSnapshots : Type 0
HistoriesGoOnBehindSnapshots =
    (s last : SessionView) (lines : List (List ℕ)) (output : List ℕ) (added : List Entry)
    → NoneRestores s lines → AreTold s lines output added last
    → (history : List Entry) → HasHistory s.guide history → HasHistory last.guide (history ++ added)
