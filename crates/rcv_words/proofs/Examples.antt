-- Words that are commands, and words that are none, by the crate's definition.
use Rattle.std.proofs.Common.{◌≡◌, true, false, List, [], ◌∷◌, Some, None, refl, codes}
use Rattle.clap.specs.Words.{Text}
use Rattle.clap.specs.declared.error.kind.ErrorKind.TheVariants as kind
use Rattle.clap.proofs.OnLiterals.{clap_on_literals}
use Rattle.clap.specs.Words.{Kinds, fault_of}
use Rattle.rcv_words.specs.Commands.{AreTaken, given, line_of}
use Rattle.rcv_words.specs.Program.{rcv}

abbrev faults : List Text → Kinds
faults words = fault_of rcv (line_of words)

-- Options stand before or behind the word, with `=` or without.
run_4 : given (codes "run" ∷ codes "--workers" ∷ codes "4" ∷ []) ≡ record { command = Some (codes "run"); workers = Some 4; json = false; role = None; number = None; sessions = None }
unfolding clap_on_literals
run_4 = refl

role_first : given (codes "--role=B" ∷ codes "project" ∷ []) ≡ record { command = Some (codes "project"); workers = None; json = false; role = Some (codes "B"); number = None; sessions = None }
unfolding clap_on_literals
role_first = refl

sessions_64 : given (codes "run" ∷ codes "--sessions" ∷ codes "64" ∷ []) ≡ record { command = Some (codes "run"); workers = None; json = false; role = None; number = None; sessions = Some 64 }
unfolding clap_on_literals
sessions_64 = refl

-- Behind `--` nothing is an option.
behind : given (codes "--json" ∷ codes "--" ∷ codes "run" ∷ []) ≡ record { command = Some (codes "run"); workers = None; json = true; role = None; number = None; sessions = None }
unfolding clap_on_literals
behind = refl

-- A number may have a sign and zeros in front.
plus : AreTaken (codes "run" ∷ codes "--workers" ∷ codes "+4" ∷ [])
unfolding clap_on_literals
plus = refl

zeros : given (codes "gen" ∷ codes "--number" ∷ codes "0012" ∷ []) ≡ record { command = Some (codes "gen"); workers = None; json = false; role = None; number = Some 12; sessions = None }
unfolding clap_on_literals
zeros = refl

minus_zero : given (codes "gen" ∷ codes "--number=-0" ∷ []) ≡ record { command = Some (codes "gen"); workers = None; json = false; role = None; number = Some 0; sessions = None }
unfolding clap_on_literals
minus_zero = refl

-- The empty role is a role.
empty_role : given (codes "project" ∷ codes "--role=" ∷ []) ≡ record { command = Some (codes "project"); workers = None; json = false; role = Some []; number = None; sessions = None }
unfolding clap_on_literals
empty_role = refl

-- No words; a number out of range; an option twice; a value that a flag doesn't take; part of a name; no value; help.
nothing : faults [] ≡ kind.MissingRequiredArgument ∷ []
unfolding clap_on_literals
nothing = refl

none_works : faults (codes "run" ∷ codes "--workers" ∷ codes "0" ∷ []) ≡ kind.ValueValidation ∷ []
unfolding clap_on_literals
none_works = refl

no_sessions : faults (codes "run" ∷ codes "--sessions" ∷ codes "0" ∷ []) ≡ kind.ValueValidation ∷ []
unfolding clap_on_literals
no_sessions = refl

sessions_65 : faults (codes "run" ∷ codes "--sessions" ∷ codes "65" ∷ []) ≡ kind.ValueValidation ∷ []
unfolding clap_on_literals
sessions_65 = refl

nine_workers : faults (codes "run" ∷ codes "--workers" ∷ codes "9" ∷ []) ≡ kind.ValueValidation ∷ []
unfolding clap_on_literals
nine_workers = refl

too_great : faults (codes "gen" ∷ codes "--number" ∷ codes "4001" ∷ []) ≡ kind.ValueValidation ∷ []
unfolding clap_on_literals
too_great = refl

twice : faults (codes "run" ∷ codes "--json" ∷ codes "--json" ∷ []) ≡ kind.ArgumentConflict ∷ []
unfolding clap_on_literals
twice = refl

flag_value : faults (codes "run" ∷ codes "--json=1" ∷ []) ≡ kind.TooManyValues ∷ []
unfolding clap_on_literals
flag_value = refl

part : faults (codes "run" ∷ codes "--jso" ∷ []) ≡ kind.UnknownArgument ∷ []
unfolding clap_on_literals
part = refl

no_value : faults (codes "project" ∷ codes "--role" ∷ codes "--json" ∷ []) ≡ kind.InvalidValue ∷ []
unfolding clap_on_literals
no_value = refl

help : faults (codes "run" ∷ codes "--help" ∷ []) ≡ kind.DisplayHelp ∷ []
unfolding clap_on_literals
help = refl

version : faults (codes "--version" ∷ []) ≡ kind.UnknownArgument ∷ []
unfolding clap_on_literals
version = refl

two_words : faults (codes "run" ∷ codes "check" ∷ []) ≡ kind.UnknownArgument ∷ []
unfolding clap_on_literals
two_words = refl
