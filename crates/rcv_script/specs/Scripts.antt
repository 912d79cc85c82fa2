-- What contracts see of scripts, and which protocol they belong to.
use Rattle.std.specs.Prelude.{◌≡◌, ℕ, ◌≤◌, List, [], length, map}
use Rattle.rcv_tree.specs.declared.protocol.Protocol.{Protocol}
use Rattle.rcv_lexer.specs.declared.token.Token.{Token}
use Rattle.rcv_tree.specs.declared.refusal.TextError.{TextError}
use Rattle.rcv_model.specs.Net.{Net}
use Rattle.rcv_model.specs.Places.{singles}
use Rattle.rcv_model.specs.Script.{Line}
use Rattle.rcv_model.specs.Text.{body_of}
use Rattle.rcv_points.specs.Follow.{PointView, message_of, net_in}
use Rattle.rcv_script.specs.Symbols.{Symbol}
use Rattle.rcv_script.specs.Refusals.{AreRead, IsRefused}

-- The lines of each role, and the message of each point of the protocol that they were read against.
pub record ScriptsView : Type 0 where
  pub lines : List (List Line)
  pub messages : List PointView

-- What messages say of a protocol, without its places.
abbrev pub net_by : List PointView → Net
net_by messages = net_in (record { places = []; messages = messages; choices = []; lanes = []; lane_numbers = [] })

-- A point among the messages.
abbrev pub HasPoint : List PointView → ℕ → Type 0
HasPoint messages p = (1 ≤ p) × (p ≤ length messages)

-- The messages of a protocol, by point.
abbrev pub messages_of : Protocol → List PointView
messages_of protocol = map message_of (singles (body_of protocol.body))

-- The scripts were read against this protocol: its messages are those that they know, and each role has its lines.
pub record AreScriptsFor (protocol : Protocol) (scripts : ScriptsView) : Type 0 where
  pub roles : length scripts.lines ≡ length protocol.roles
  pub messages : scripts.messages ≡ messages_of protocol

-- The symbols say these scripts, for the roles and the messages of this protocol.
pub record AreScriptsOf (protocol : Protocol) (symbols : List Symbol) (scripts : ScriptsView) : Type 0 where
  pub read : AreRead protocol.roles (messages_of protocol) symbols scripts.lines
  pub for : AreScriptsFor protocol scripts

-- They are refused, for these roles and messages.
abbrev pub AreRefusedFor : List ℕ → List Token → ℕ → Protocol → TextError → Type 0
AreRefusedFor bundle tokens last protocol error = IsRefused bundle tokens last protocol.roles (messages_of protocol) error
