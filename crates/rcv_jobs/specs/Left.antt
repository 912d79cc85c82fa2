-- How many turns are left of a session at most.
use Rattle.std.specs.Prelude.{ℕ, ◌+◌, ◌-◌, length}
use Rattle.rcv_session.specs.Session.{SessionView, rules_of}
use Rattle.rcv_core.specs.Book.{BookView, most_entries}

-- After the entries of this book: one for each that may still come, and one to write.
abbrev pub left_behind : BookView → ℕ
left_behind book = (most_entries (rules_of book.setup) + 1) - length book.entries

-- Before it is opened: that one too.
abbrev pub left_before : SessionView → ℕ
left_before session = most_entries (rules_of session) + 2
