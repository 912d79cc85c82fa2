-- What holds of the definitions.
use Rattle.std.specs.Prelude.{◌≡◌, ℕ, List, [], ◌∷◌, ◌++◌}
use Rattle.rcv_accept.specs.Accepted.{IsAcceptedProtocol}
use Rattle.rcv_session.specs.Session.{SessionView}
use Rattle.rcv_lines.specs.Cutting.{Lacks}
use Rattle.rcv_lines.specs.Line.{LineView, SaysLine}

-- One line feed, at the end.
pub record EndsInFeed (line : List ℕ) : Type 0 where
  pub front : List ℕ
  pub lacks : Lacks 10 front
  pub whole : line ≡ front ++ 10 ∷ []

abbrev pub LinesEndInFeeds : Type 0
LinesEndInFeeds =
    (setup : SessionView) (line : List ℕ) (said : LineView) → IsAcceptedProtocol setup.protocol → SaysLine setup line said → EndsInFeed line

-- A line says one thing at most.
abbrev pub LinesSayOneThing : Type 0
LinesSayOneThing =
    (setup : SessionView) (line : List ℕ) (a b : LineView) → IsAcceptedProtocol setup.protocol
    → SaysLine setup line a → SaysLine setup line b → a ≡ b
