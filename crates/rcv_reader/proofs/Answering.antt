-- What the reader answers, and what the machine answers: the one where the other, by the machine's laws.
use Rattle.std.proofs.Common.{◌≡◌, ℕ, List, length}
use Rattle.rcv_tree.specs.declared.protocol.Protocol.{Protocol}
use Rattle.rcv_tree.specs.declared.refusal.Refusal.{Refusal}
use Rattle.rcv_tree.specs.declared.refusal.Refusal.TheVariants as refusals
use Rattle.rcv_lexer.specs.declared.token.Token.{Token}
use Rattle.rcv_tree.specs.declared.refusal.TextError.TheVariants as errors
use Rattle.rcv_machine.specs.Words.{Fault, Symbol, symbols_of, line_before, Reads, code_of, Taken, Refuses, reading}
use Rattle.rcv_machine.proofs.Exactly.{taken_is_free, texts_are_taken_exactly, texts_are_refused_exactly}
use Rattle.rcv_reader.specs.Refusals.{AreReadAs, IsRefused}

-- The machine takes the symbols, and these are the trees of their protocols.
abbrev pub AreTakenAs : List Symbol → Protocol → List Protocol → Type 0
AreTakenAs symbols main others = (reading symbols ≡ Taken) × Reads symbols main others

pub taken_of : (symbols : List Symbol) (main : Protocol) (others : List Protocol) → AreReadAs symbols main others
    → AreTakenAs symbols main others
taken_of symbols main others h = ((texts_are_taken_exactly symbols).1 ((h.1.source, h.1.spelled), h.0), h.1)

pub read_of : (symbols : List Symbol) (main : Protocol) (others : List Protocol) → AreTakenAs symbols main others
    → AreReadAs symbols main others
read_of symbols main others h = ((taken_is_free symbols h.0).1, h.1)

-- The machine stops with this code at a token of this line, or at the end.
abbrev pub IsStopped : List ℕ → List Token → ℕ → Refusal → Type 0
IsStopped bundle tokens last r =
    (fault : Fault) × (left : List Symbol) × (reading (symbols_of bundle tokens) ≡ Refuses fault left)
    × (r ≡ refusals.Text (code_of fault) (line_before tokens last (length left)))

pub stopped_of : (bundle : List ℕ) (tokens : List Token) (last : ℕ) (r : Refusal) → IsRefused bundle tokens last (errors.Refused r)
    → IsStopped bundle tokens last r
stopped_of bundle tokens last r h = (h.0, h.1, (texts_are_refused_exactly (symbols_of bundle tokens) h.0 h.1).1 h.2, h.3)
