-- What contracts see of a line that was read.
use Rattle.rcv_lines.specs.declared.line.Line.{Line}
use Rattle.rcv_lines.specs.declared.line.Line.TheVariants.{Entry, Role, End}
use Rattle.rcv_lines.specs.Line.{LineView, EntryLine, RoleLineOf, EndLine}

abbrev pub view_of : Line → LineView
view_of (Entry entry) = EntryLine entry
view_of (Role line) = RoleLineOf line
view_of (End limited) = EndLine limited.items
