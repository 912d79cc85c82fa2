-- The commands, and the words that say them.
use Rattle.std.specs.Prelude.{◌≡◌, ◌≤◌, ◌==◌, if◌then◌else◌, ℕ, Bool, false, codes, List, [], ◌∷◌, ⊤, Option, Some, None, option_map, unwrap_or, map}
use Rattle.std.specs.Option.{option_map_or}
use Rattle.std.specs.Str.{bytes_eq}
use Rattle.std.specs.String.{string_bytes}
use Rattle.std.specs.Str.Parse.{digits_value, without_leading_plus}
use Rattle.std.specs.declared.string.String.{String}
use Rattle.std.specs.declared.alloc.Global.{Global}
use Rattle.clap.specs.Words.{Row, Text, first_of, one_of, matches_of, fault_of}
use Rattle.rcv_words.specs.declared.command.Command.{Command}
use Rattle.rcv_words.specs.declared.command.Command.TheVariants as commands
use Rattle.rcv_words.specs.declared.given.Given.{Given as Found}
use Rattle.rcv_words.specs.Program.{rcv}

-- What words may ask for.
pub data CommandView : Type 0 where
  Run : (workers : ℕ) (json : Bool) → CommandView
  RunMany : (sessions workers : ℕ) (json : Bool) → CommandView
  Check : CommandView
  Project : (role : Text) → CommandView
  Table : CommandView
  Gen : (number : ℕ) → CommandView
  Replay : CommandView
  Line : CommandView

-- What a command says.
abbrev pub view_of : Command → CommandView
view_of (commands.Run workers json) = Run workers json
view_of (commands.RunMany sessions workers json) = RunMany sessions workers json
view_of commands.Check = Check
view_of (commands.Project role) = Project role
view_of commands.Table = Table
view_of (commands.Gen number) = Gen number
view_of commands.Replay = Replay
view_of commands.Line = Line

-- So many sessions are run.
abbrev pub run_for : ℕ → ℕ → Bool → CommandView
run_for sessions workers json = if sessions == 1 then Run workers json else RunMany sessions workers json

-- Words, as lists of bytes.
abbrev pub texts_of : List (String Global) → List Text
texts_of words = map string_bytes words

-- The crate is given the program's name before the words.
abbrev pub line_of : List Text → List Text
line_of words = codes "rcv" ∷ words

-- The crate's definition of a simple command takes the words.
abbrev pub AreTaken : List Text → Type 0
AreTaken words = fault_of rcv (line_of words) ≡ []

-- What the crate finds in the words.
abbrev pub found_in : List Text → List Row
found_in words = matches_of rcv (line_of words)

-- What is given of each option.
pub record Given : Type 0 where
  pub command : Option Text
  pub workers : Option ℕ
  pub json : Bool
  pub role : Option Text
  pub number : Option ℕ
  pub sessions : Option ℕ

-- The number that is given for the option. `one_of` gives the text without a `-` in front: only a 0 that passed has one.
abbrev pub number_in : Text → List Row → Option ℕ
number_in name rows = option_map (λ text. digits_value 10 (without_leading_plus text)) (one_of name rows)

abbrev pub given_in : List Row → Given
given_in rows = record {
  command = first_of (codes "command") rows;
  workers = number_in (codes "workers") rows;
  json = option_map_or (λ text. bytes_eq text (codes "true")) (one_of (codes "json") rows) false;
  role = first_of (codes "role") rows;
  number = number_in (codes "number") rows;
  sessions = number_in (codes "sessions") rows;
}

abbrev pub given_of : Found → Given
given_of found = record {
  command = option_map (λ text. text.now) found.command;
  workers = found.workers;
  json = found.json;
  role = option_map (λ text. text.now) found.role;
  number = found.number;
  sessions = found.sessions;
}

abbrev pub given : List Text → Given
given words = given_in (found_in words)

-- At most a role and a number are given of the options: these.
pub record HasOptions (g : Given) (r : Option Text) (n : Option ℕ) : Type 0 where
  pub workers : g.workers ≡ None
  pub json : g.json ≡ false
  pub role : g.role ≡ r
  pub number : g.number ≡ n
  pub sessions : g.sessions ≡ None

-- What is given says the command: its word and its options, and no option of another one. If no number of sessions is given,
-- it is one.
abbrev pub Says : Given → CommandView → Type 0
Says g (Run workers json) =
    (g.command ≡ Some (codes "run"))
    × (unwrap_or g.workers 1 ≡ workers)
    × (g.json ≡ json)
    × (g.role ≡ None)
    × (g.number ≡ None)
    × (unwrap_or g.sessions 1 ≡ 1)
Says g (RunMany sessions workers json) =
    (g.command ≡ Some (codes "run"))
    × (unwrap_or g.workers 1 ≡ workers)
    × (g.json ≡ json)
    × (g.role ≡ None)
    × (g.number ≡ None)
    × (unwrap_or g.sessions 1 ≡ sessions)
Says g Check = (g.command ≡ Some (codes "check")) × HasOptions g None None
Says g (Project role) = (g.command ≡ Some (codes "project")) × HasOptions g (Some role) None
Says g Table = (g.command ≡ Some (codes "table")) × HasOptions g None None
Says g (Gen number) = (g.command ≡ Some (codes "gen")) × HasOptions g None (Some number)
Says g Replay = (g.command ≡ Some (codes "replay")) × HasOptions g None None
Says g Line = (g.command ≡ Some (codes "line")) × HasOptions g None None

-- Its numbers are in range.
abbrev pub IsWithin : CommandView → Type 0
IsWithin (Run workers json) = (1 ≤ workers) × (workers ≤ 8)
IsWithin (RunMany sessions workers json) = (2 ≤ sessions) × (sessions ≤ 64) × (1 ≤ workers) × (workers ≤ 8)
IsWithin (Gen number) = number ≤ 4000
IsWithin _ = ⊤

-- The words are this command: the crate takes them, and what is given in them says it.
abbrev pub IsCommand : List Text → CommandView → Type 0
IsCommand words command = AreTaken words × Says (given words) command × IsWithin command

-- The words are no command.
abbrev pub IsNoCommand : List Text → Type 0
IsNoCommand words = (command : CommandView) → IsCommand words command → ⊥
