-- What the reader answers, by the grammar and the table of the codes alone.
use Rattle.std.specs.Prelude.{◌≡◌, ℕ, List, length}
use Rattle.rcv_tree.specs.declared.refusal.Refusal.TheVariants as refusals
use Rattle.rcv_tree.specs.Lists.{protocols}
use Rattle.rcv_tree.specs.declared.module.Module.{Module}
use Rattle.rcv_tree.specs.declared.protocol.Protocol.{Protocol}
use Rattle.rcv_lexer.specs.declared.token.Token.{Token}
use Rattle.rcv_tree.specs.declared.refusal.TextError.{TextError}
use Rattle.rcv_tree.specs.declared.refusal.TextError.TheVariants as errors
use Rattle.rcv_machine.specs.Words.{Fault, Symbol, symbols_of, line_before, code_of, IsFree, IsFirst, Reads, lines_of_calls}

-- The grammar derives the symbols, no code holds at any of them nor at the end, and these are the trees of their protocols.
abbrev pub AreReadAs : List Symbol → Protocol → List Protocol → Type 0
AreReadAs symbols main others = IsFree symbols × Reads symbols main others

-- What the tokens say is read as the protocols of this module, and these are the lines of its calls.
abbrev pub IsRead : List ℕ → List Token → Module → Type 0
IsRead bundle tokens m =
    AreReadAs (symbols_of bundle tokens) m.main (protocols m.others) × (m.dos ≡ lines_of_calls bundle tokens)

-- The code holds at this token, or at the end; no lesser one holds there, and none at an earlier token.
abbrev pub IsRefused : List ℕ → List Token → ℕ → TextError → Type 0
IsRefused bundle tokens last errors.Memory = Unit {0}
IsRefused bundle tokens last (errors.Refused r) =
    (fault : Fault) × (left : List Symbol) × IsFirst (symbols_of bundle tokens) fault left
    × (r ≡ refusals.Text (code_of fault) (line_before tokens last (length left)))
