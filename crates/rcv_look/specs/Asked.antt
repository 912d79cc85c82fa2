-- The one command that a word can be, with what is given beside it.
use Rattle.std.specs.Prelude.{[], unwrap_or, if◌then◌else◌, codes}
use Rattle.std.specs.Str.{bytes_eq}
use Rattle.clap.specs.Words.{Text}
use Rattle.rcv_look.specs.Commands.{CommandView, DrawTold, ReplayJournal, DrawTable, ExportTable, DrawRole, ExportRole, DrawProtocol, ListPoints, ExportPoints, DrawFailures, ListFailures, ExportFailures, Explain, Given, journal_for}

-- What a word asks for, with these options and flags.
abbrev pub asked_by : Text → Given → CommandView
asked_by word g =
    if bytes_eq word (codes "journal") then journal_for g.session
    else (if bytes_eq word (codes "told") then DrawTold
    else (if bytes_eq word (codes "replay") then ReplayJournal
    else (if bytes_eq word (codes "table") then (if g.json then ExportTable else DrawTable)
    else (if bytes_eq word (codes "role") then (if g.json then ExportRole (unwrap_or g.role []) else DrawRole (unwrap_or g.role []))
    else (if bytes_eq word (codes "protocol") then DrawProtocol
    else (if bytes_eq word (codes "points") then (if g.json then ExportPoints else ListPoints)
    else (if bytes_eq word (codes "failures") then (if g.text then ListFailures else (if g.json then ExportFailures else DrawFailures))
    else Explain (unwrap_or g.code 0))))))))

abbrev pub asked : Given → CommandView
asked g = asked_by (unwrap_or g.command []) g
