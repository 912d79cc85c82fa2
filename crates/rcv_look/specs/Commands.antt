-- The commands, and the words that say them.
use Rattle.std.specs.Prelude.{◌≡◌, ◌≤◌, ℕ, Bool, true, false, codes, List, [], ◌∷◌, ⊤, Option, Some, None, option_map, map}
use Rattle.std.specs.Option.{option_map_or}
use Rattle.std.specs.Str.{bytes_eq}
use Rattle.std.specs.String.{string_bytes}
use Rattle.std.specs.Str.Parse.{digits_value, without_leading_plus}
use Rattle.std.specs.declared.string.String.{String}
use Rattle.std.specs.declared.alloc.Global.{Global}
use Rattle.clap.specs.Words.{Row, Text, first_of, one_of, matches_of, fault_of}
use Rattle.rcv_look.specs.declared.command.Command.{Command}
use Rattle.rcv_look.specs.declared.command.Command.TheVariants as commands
use Rattle.rcv_look.specs.declared.given.Given.{Given as Found}
use Rattle.rcv_look.specs.Program.{rcv_show}

-- What words may ask for.
pub data CommandView : Type 0 where
  DrawJournal : CommandView
  DrawSession : (number : ℕ) → CommandView
  DrawTold : CommandView
  ReplayJournal : CommandView
  DrawTable : CommandView
  ExportTable : CommandView
  DrawRole : (name : Text) → CommandView
  ExportRole : (name : Text) → CommandView
  DrawProtocol : CommandView
  ListPoints : CommandView
  ExportPoints : CommandView
  DrawFailures : CommandView
  ListFailures : CommandView
  ExportFailures : CommandView
  Explain : (code : ℕ) → CommandView

-- What a command says.
abbrev pub view_of : Command → CommandView
view_of commands.Journal = DrawJournal
view_of (commands.Session number) = DrawSession number
view_of commands.Told = DrawTold
view_of commands.Replay = ReplayJournal
view_of commands.Table = DrawTable
view_of commands.TableJson = ExportTable
view_of (commands.Role role) = DrawRole role
view_of (commands.RoleJson role) = ExportRole role
view_of commands.Protocol = DrawProtocol
view_of commands.Points = ListPoints
view_of commands.PointsJson = ExportPoints
view_of commands.Failures = DrawFailures
view_of commands.FailuresText = ListFailures
view_of commands.FailuresJson = ExportFailures
view_of (commands.Explain code) = Explain code

-- Words as their bytes.
abbrev pub texts_of : List (String Global) → List Text
texts_of words = map string_bytes words

-- The crate is given the program's name before the words.
abbrev pub line_of : List Text → List Text
line_of words = codes "rcv-show" ∷ words

-- The crate's definition of a simple command takes the words.
abbrev pub AreTaken : List Text → Type 0
AreTaken words = fault_of rcv_show (line_of words) ≡ []

-- What the crate finds in them.
abbrev pub found_in : List Text → List Row
found_in words = matches_of rcv_show (line_of words)

-- What is given of each option.
pub record Given : Type 0 where
  pub command : Option Text
  pub role : Option Text
  pub code : Option ℕ
  pub session : Option ℕ
  pub text : Bool
  pub json : Bool

-- The number that is given for the option. `one_of` gives the text without a `-` in front. Of the texts that passed, only a 0
-- has one.
abbrev pub number_in : Text → List Row → Option ℕ
number_in name rows = option_map (λ text. digits_value 10 (without_leading_plus text)) (one_of name rows)

-- Whether the flag is given.
abbrev pub flag_in : Text → List Row → Bool
flag_in name rows = option_map_or (λ text. bytes_eq text (codes "true")) (one_of name rows) false

abbrev pub given_in : List Row → Given
given_in rows = record {
  command = first_of (codes "command") rows;
  role = first_of (codes "role") rows;
  code = number_in (codes "code") rows;
  session = number_in (codes "session") rows;
  text = flag_in (codes "text") rows;
  json = flag_in (codes "json") rows;
}

abbrev pub given_of : Found → Given
given_of found = record {
  command = option_map (λ text. text.now) found.command;
  role = option_map (λ text. text.now) found.role;
  code = found.code;
  session = found.session;
  text = found.text;
  json = found.json;
}

abbrev pub given : List Text → Given
given words = given_in (found_in words)

-- The journal of an input is asked for, or that of one of its sessions.
abbrev pub journal_for : Option ℕ → CommandView
journal_for None = DrawJournal
journal_for (Some number) = DrawSession number

-- How the answer is written: as a command writes it, as text, or as JSON.
pub data Form : Type 0 where
  Usual : Form
  AsText : Form
  AsJson : Form

-- The flags say the form.
abbrev pub AreFlags : Form → Bool → Bool → Type 0
AreFlags Usual text json = (text ≡ false) × (json ≡ false)
AreFlags AsText text json = (text ≡ true) × (json ≡ false)
AreFlags AsJson text json = (text ≡ false) × (json ≡ true)

-- The word is given, and these of the options.
pub record IsGiven (g : Given) (word : Text) (role : Option Text) (code session : Option ℕ) (form : Form) : Type 0 where
  pub word_is : g.command ≡ Some word
  pub role_is : g.role ≡ role
  pub code_is : g.code ≡ code
  pub session_is : g.session ≡ session
  pub flags : AreFlags form g.text g.json

-- What is given says the command: its word and its options, and no option of another one.
abbrev pub Says : Given → CommandView → Type 0
Says g DrawJournal = IsGiven g (codes "journal") None None None Usual
Says g (DrawSession number) = IsGiven g (codes "journal") None None (Some number) Usual
Says g DrawTold = IsGiven g (codes "told") None None None Usual
Says g ReplayJournal = IsGiven g (codes "replay") None None None Usual
Says g DrawTable = IsGiven g (codes "table") None None None Usual
Says g ExportTable = IsGiven g (codes "table") None None None AsJson
Says g (DrawRole name) = IsGiven g (codes "role") (Some name) None None Usual
Says g (ExportRole name) = IsGiven g (codes "role") (Some name) None None AsJson
Says g DrawProtocol = IsGiven g (codes "protocol") None None None Usual
Says g ListPoints = IsGiven g (codes "points") None None None Usual
Says g ExportPoints = IsGiven g (codes "points") None None None AsJson
Says g DrawFailures = IsGiven g (codes "failures") None None None Usual
Says g ListFailures = IsGiven g (codes "failures") None None None AsText
Says g ExportFailures = IsGiven g (codes "failures") None None None AsJson
Says g (Explain code) = IsGiven g (codes "explain") None (Some code) None Usual

-- Its number is in range.
abbrev pub IsWithin : CommandView → Type 0
IsWithin (DrawSession number) = (1 ≤ number) × (number ≤ 64)
IsWithin (Explain code) = code ≤ 255
IsWithin _ = ⊤

-- The words are this command: the crate takes them, and what is given in them says it.
abbrev pub IsCommand : List Text → CommandView → Type 0
IsCommand words command = AreTaken words × Says (given words) command × IsWithin command

-- They are none.
abbrev pub IsNoCommand : List Text → Type 0
IsNoCommand words = (command : CommandView) → IsCommand words command → ⊥
