-- What is next for a role.
use Rattle.std.specs.Prelude.{◌≡◌, ℕ, List, [], ◌∷◌}
use Rattle.rcv_model.specs.Net.{Net}
use Rattle.rcv_model.specs.Next.{AreNext}
use Rattle.rcv_guide.specs.Guide.{net_for, stand}
use Rattle.rcv_dialogue.specs.declared.answer.Turn.{Turn}
use Rattle.rcv_dialogue.specs.declared.answer.Turn.TheVariants as turn
use Rattle.rcv_guided.specs.Session.{SessionView}

-- These are all its next points, ascending.
abbrev pub AreAhead : SessionView → ℕ → List ℕ → Type 0
AreAhead s r points = AreNext (net_for s.guide) r (stand s.guide r).place points

-- There is a first one, which the role sends; or which it doesn't send.
abbrev pub IsSentFirst : Net → ℕ → List ℕ → Type 0
IsSentFirst net r [] = ⊥
IsSentFirst net r (p ∷ points) = net.sender p ≡ r

abbrev pub IsReceivedFirst : Net → ℕ → List ℕ → Type 0
IsReceivedFirst net r [] = ⊥
IsReceivedFirst net r (p ∷ points) = net.sender p ≡ r → ⊥

-- It sends, it receives, or its part is over. (In an accepted protocol no role has points of both kinds ahead.)
abbrev pub IsTurnOf : SessionView → ℕ → Turn → Type 0
IsTurnOf s r (turn.Sends points) = AreAhead s r points.now × IsSentFirst (net_for s.guide) r points.now
IsTurnOf s r (turn.Receives points) = AreAhead s r points.now × IsReceivedFirst (net_for s.guide) r points.now
IsTurnOf s r turn.Over = AreAhead s r []
