-- What words ask for: one command or none, and whether it reads the source.
use Rattle.std.proofs.Common.{◌≡◌, ℕ, List, subst}
use Rattle.rcv_look.specs.Commands.{CommandView, IsCommand, IsNoCommand, given}
use Rattle.rcv_look.specs.Asking.{AskForSource, ReadsSource}
use Rattle.rcv_look.proofs.OneCommand as said

-- the words are one command at most
pub one_command : (words : List (List ℕ)) (c d : CommandView) → IsCommand words c → IsCommand words d → c ≡ d
one_command words c d x y = said.one_command (given words) c d x.1 y.1

-- a command that reads the source asks for it; another doesn't
pub asks : (words : List (List ℕ)) (c : CommandView) → IsCommand words c → ReadsSource c → AskForSource words
asks words c is reads = (c, record { words_are = is; reads = reads })

pub asks_not : (words : List (List ℕ)) (c : CommandView) → IsCommand words c → (ReadsSource c → ⊥) → AskForSource words → ⊥
asks_not words c is not_read (d, asked) = not_read (subst ReadsSource (one_command words d c asked.words_are is) asked.reads)

pub none_asks : (words : List (List ℕ)) → IsNoCommand words → AskForSource words → ⊥
none_asks words none (d, asked) = none d asked.words_are
