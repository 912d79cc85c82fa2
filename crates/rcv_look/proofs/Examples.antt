-- Words that are commands, and words that are none, by the crate's definition.
use Rattle.std.proofs.Common.{◌≡◌, List, [], ◌∷◌, Some, None, true, false, refl, codes}
use Rattle.clap.specs.Words.{Kinds, Text, fault_of}
use Rattle.clap.specs.declared.error.kind.ErrorKind.TheVariants as kind
use Rattle.clap.proofs.OnLiterals.{clap_on_literals}
use Rattle.rcv_look.specs.Commands.{given, line_of}
use Rattle.rcv_look.specs.Program.{rcv_show}

abbrev faults : List Text → Kinds
faults words = fault_of rcv_show (line_of words)

-- Options stand before or behind the word, with `=` or without.
role_first : given (codes "--role=B" ∷ codes "role" ∷ []) ≡ record { command = Some (codes "role"); role = Some (codes "B"); code = None; session = None; text = false; json = false }
unfolding clap_on_literals
role_first = refl

code_24 : given (codes "explain" ∷ codes "--code" ∷ codes "024" ∷ []) ≡ record { command = Some (codes "explain"); role = None; code = Some 24; session = None; text = false; json = false }
unfolding clap_on_literals
code_24 = refl

session_2 : given (codes "journal" ∷ codes "--session=2" ∷ []) ≡ record { command = Some (codes "journal"); role = None; code = None; session = Some 2; text = false; json = false }
unfolding clap_on_literals
session_2 = refl

-- No words; a code and a session out of range; an option of the other program; an option twice; a word too many.
nothing : faults [] ≡ kind.MissingRequiredArgument ∷ []
unfolding clap_on_literals
nothing = refl

too_great : faults (codes "explain" ∷ codes "--code" ∷ codes "256" ∷ []) ≡ kind.ValueValidation ∷ []
unfolding clap_on_literals
too_great = refl

no_session : faults (codes "journal" ∷ codes "--session" ∷ codes "0" ∷ []) ≡ kind.ValueValidation ∷ []
unfolding clap_on_literals
no_session = refl

session_65 : faults (codes "journal" ∷ codes "--session" ∷ codes "65" ∷ []) ≡ kind.ValueValidation ∷ []
unfolding clap_on_literals
session_65 = refl

table_json : given (codes "table" ∷ codes "--json" ∷ []) ≡ record { command = Some (codes "table"); role = None; code = None; session = None; text = false; json = true }
unfolding clap_on_literals
table_json = refl

no_workers : faults (codes "journal" ∷ codes "--workers=2" ∷ []) ≡ kind.UnknownArgument ∷ []
unfolding clap_on_literals
no_workers = refl

twice : faults (codes "role" ∷ codes "--role=A" ∷ codes "--role=B" ∷ []) ≡ kind.ArgumentConflict ∷ []
unfolding clap_on_literals
twice = refl

two_words : faults (codes "role" ∷ codes "table" ∷ []) ≡ kind.UnknownArgument ∷ []
unfolding clap_on_literals
two_words = refl
