-- What holds of the dialogue's lines.
use Rattle.std.specs.Prelude.{◌≡◌, ℕ, List, Ok}
use Rattle.rcv_accept.specs.Accepted.{AcceptedView, IsAcceptedProtocol}
use Rattle.rcv_dialogue.specs.declared.line.Line.{Line}
use Rattle.rcv_lines.specs.Cutting.{joined}
use Rattle.rcv_dialogue.specs.Lines.{IsLine, SaysLine, line_words}
use Rattle.rcv_dialogue.specs.Reading.{reading}

-- A text says one line at most.
abbrev pub LinesSayOneThing : Type 0
LinesSayOneThing =
    (a : AcceptedView) (text : List ℕ) (x y : Line) → IsAcceptedProtocol a.protocol → SaysLine a text x → SaysLine a text y → x ≡ y

-- Each line of the form has a text that isn't too long and is read as this line.
abbrev pub LinesAreReadBack : Type 0
LinesAreReadBack =
    (a : AcceptedView) (l : Line) → IsAcceptedProtocol a.protocol → IsLine a l
    → SaysLine a (joined (line_words a l)) l × (reading a (joined (line_words a l)) ≡ Ok l)
