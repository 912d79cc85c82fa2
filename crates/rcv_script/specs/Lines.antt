-- What the lines of the program say.
use Rattle.std.specs.Prelude.{ℕ, List, [], option_map, slice_index_or}
use Rattle.rcv_model.specs.Script as script
use Rattle.rcv_script.specs.declared.line.Comparison.{Comparison}
use Rattle.rcv_script.specs.declared.line.Comparison.TheVariants.{Less, AtMost, Same, Differ, More, AtLeast}
use Rattle.rcv_script.specs.declared.line.Condition.{Condition}
use Rattle.rcv_script.specs.declared.line.Line.{Line}
use Rattle.rcv_script.specs.declared.line.Line.TheVariants.{Var, Send, Pick, On}

-- how a line compares
abbrev pub test_of : Comparison → script.Test
test_of Less = script.Less
test_of AtMost = script.AtMost
test_of Same = script.Same
test_of Differ = script.Differ
test_of More = script.More
test_of AtLeast = script.AtLeast

-- the condition of a line
abbrev pub condition_of : Condition → script.Condition
condition_of c = record { left = c.left; test = test_of c.comparison; right = c.right }

-- what a line says
abbrev pub line_of : Line → script.Line
line_of (Var first) = script.VarLine first
line_of (Send label number) = script.SendLine label number
line_of (Pick label when) = script.PickLine label (option_map condition_of when)
line_of (On label place number) = script.OnLine label place number

-- the lines of role r; a role without a script has none
abbrev pub lines_at : List (List script.Line) → ℕ → List script.Line
lines_at scripts r = slice_index_or scripts r []
