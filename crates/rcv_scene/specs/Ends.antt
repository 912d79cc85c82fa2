-- How the roles of a journal ended, as its lines say.
use Rattle.std.specs.Prelude.{List, map}
use Rattle.rcv_journal.specs.declared.line.RoleLine.{RoleLine}
use Rattle.rcv_journal.specs.declared.line.RoleWord.{RoleWord}
use Rattle.rcv_journal.specs.declared.line.RoleWord.TheVariants as words
use Rattle.rcv_scene.specs.declared.ends.End.{End}
use Rattle.rcv_scene.specs.declared.ends.End.TheVariants.{Done, Limit, Waits}
use Rattle.rcv_scene.specs.declared.ends.RoleEnd.{RoleEnd}

abbrev pub end_with : RoleWord → End
end_with words.Done = Done
end_with words.Limit = Limit
end_with words.Waits = Waits

-- What a line says.
abbrev pub end_in : RoleLine → RoleEnd
end_in line = record { role = line.role; kept = line.kept; raw = line.raw; end = end_with line.word }

abbrev pub ends_in : List RoleLine → List RoleEnd
ends_in lines = map end_in lines
