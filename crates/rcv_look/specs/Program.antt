-- What the crate `clap` is told of the program: a simple command of a word, three options and two flags.
use Rattle.std.specs.Prelude.{◌≡◌, ℕ, pos, true, codes, Some}
use Rattle.clap.specs.Words.{App, IsParsedFrom, IsSignedIn, Rule, Text, app_of, new_app, new_rule, with_rule, without_minus}
use Rattle.clap.specs.declared.builder.ArgAction.TheVariants.{SetTrue}
use Rattle.clap.specs.declared.builder.value_parser.ValueParser.TheVariants as vp
use Rattle.clap.specs.declared.builder.command.Command.{Command}
use Rattle.clap.specs.declared.parser.matches.ArgMatches.{ArgMatches}

-- The option with this name takes any text.
abbrev pub text_rule : Text → Rule
text_rule name = record (new_rule name) { long = Some name }

-- The option with this name is given or it isn't.
abbrev pub flag_rule : Text → Rule
flag_rule name = record (text_rule name) { action = Some SetTrue; parser = Some vp.Bool }

-- The option with this name takes a number from the least to the most.
abbrev pub number_rule : Text → ℕ → ℕ → Rule
number_rule name least most = record (text_rule name) { parser = Some (vp.Signed (pos least) (pos most)) }

-- The word that says what to do must be there.
abbrev pub command_rule : Rule
command_rule = record (new_rule (codes "command")) { required = true }

abbrev pub rcv_show : App
rcv_show =
    with_rule (with_rule (with_rule (with_rule (with_rule (with_rule (new_app (codes "rcv-show"))
    command_rule)
    (text_rule (codes "role")))
    (number_rule (codes "code") 0 255))
    (number_rule (codes "session") 1 64))
    (flag_rule (codes "text")))
    (flag_rule (codes "json"))

-- The crate found these matches by what it was told of the program.
abbrev pub IsOfProgram : ArgMatches → Type 0
IsOfProgram matches = (program : Command) × (app_of program ≡ rcv_show) × IsParsedFrom program matches

-- The text says a number from the least to the most, as the crate takes it.
abbrev pub IsNumberText : ℕ → ℕ → Text → Type 0
IsNumberText least most text = (value : Text) × (text ≡ without_minus value) × IsSignedIn (pos least) (pos most) value
