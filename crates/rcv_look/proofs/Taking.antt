-- Which words the crate takes, and what is given then.
use Rattle.std.proofs.Common.{◌≡◌, ◌≢◌, ◌∙◌, true, List, [], refl, sym, ap, ap₂, subst, inl, inr}
use Rattle.std.specs.Prelude.{Result, Ok, Err, IfOk}
use Rattle.clap.specs.Words.{HasKind, HasMatchesOf, IsAmong, Kinds, Text, app_of, fault_of, found_of, is_simple, is_simple_and_free, kind_of, matches_of, rows_of}
use Rattle.clap.specs.declared.builder.command.Command.{Command}
use Rattle.clap.specs.declared.error.Error.{Error}
use Rattle.clap.specs.declared.error.kind.ErrorKind.TheVariants.{OutOfMemory}
use Rattle.clap.specs.declared.parser.matches.ArgMatches.{ArgMatches}
use Rattle.rcv_look.specs.Commands.{AreTaken, Given, given, given_in, line_of}
use Rattle.rcv_look.specs.Program.{rcv_show}

-- The crate's definition is exact for the program.
is_exact : is_simple_and_free rcv_show ≡ true
is_exact = refl

has_matches : is_simple rcv_show ≡ true
has_matches = refl

-- Where there are matches, the words are taken, and what is found is what is given in them.
pub taken : (program : Command) (words line : List Text) (m : ArgMatches) (g : Given) → app_of program ≡ rcv_show → line ≡ line_of words
    → (is_simple_and_free (app_of program) ≡ true → fault_of (app_of program) line ≡ []) → HasMatchesOf (app_of program) line m
    → g ≡ given_in (rows_of (found_of m)) → AreTaken words × (g ≡ given words)
taken program words line m g is line_is faultless matches found = (
  ap₂ fault_of (sym is) (sym line_is) ∙ faultless (ap is_simple_and_free is ∙ is_exact),
  found ∙ ap given_in ((matches (ap is_simple is ∙ has_matches)).0 ∙ ap₂ matches_of is line_is),
)

among_none : (e : Error) (kinds : Kinds) → HasKind kinds e → kind_of e ≢ OutOfMemory → kinds ≡ [] → ⊥
among_none e kinds (inl memory) not_memory none = not_memory memory
among_none e kinds (inr among) not_memory none = subst (IsAmong (kind_of e)) none among

-- Where the crate fails, and not for memory, they aren't.
pub not_taken : (program : Command) (words line : List Text) (e : Error) → app_of program ≡ rcv_show → line ≡ line_of words
    → (is_simple_and_free (app_of program) ≡ true → HasKind (fault_of (app_of program) line) e) → kind_of e ≢ OutOfMemory → AreTaken words → ⊥
not_taken program words line e is line_is fails not_memory none =
    among_none e (fault_of (app_of program) line) (fails (ap is_simple_and_free is ∙ is_exact)) not_memory (ap₂ fault_of is line_is ∙ none)

-- What holds of an answer by two facts of it.
pub both_hold : {T E : Type 0} (r : Result T E) (P Q R : T → Type 0) → ((x : T) → P x → Q x → R x) → IfOk r P → IfOk r Q → IfOk r R
both_hold (Ok x) P Q R so p q = so x p q
both_hold (Err e) P Q R so p q = tt
