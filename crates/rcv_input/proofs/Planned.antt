-- Inputs with plans: one that is taken, and two that are refused for their plans.
use Rattle.std.proofs.Common.{ℕ, Some, codes, List, [], ◌∷◌, ◌++◌, refl}
use Rattle.rcv_model.specs.Plan.{CrashLine, HostLine}
use Rattle.rcv_session.specs.Session.{SessionView}
use Rattle.rcv_lexer.specs.declared.piece.Piece.{Piece}
use Rattle.rcv_lexer.specs.declared.token.Kind.TheVariants.{Number}
use Rattle.rcv_lexer.specs.declared.token.Token.{Token}
use Rattle.rcv_lexer.specs.Parts.{parts_of}
use Rattle.rcv_lexer.specs.Tokens.{tokens_of}
use Rattle.rcv_script.specs.Meaning.{no_lines}
use Rattle.rcv_script.specs.Scripts.{messages_of}
use Rattle.rcv_script.proofs.Answering.{none_read}
use Rattle.rcv_plan.specs.declared.sign.Sign.TheVariants.{Equals, Comma}
use Rattle.rcv_plan.specs.Symbols as plans
use Rattle.rcv_plan.specs.declared.fault.Fault.TheVariants.{Twice}
use Rattle.rcv_plan.specs.Items.{KnownView}
use Rattle.rcv_plan.specs.Refusing.{IsFirst, IsRead}
use Rattle.rcv_plan.proofs.Answered.{none}
use Rattle.rcv_plan.proofs.Exactly.{SoFar, begin, one_more, done, stop}
use Rattle.rcv_input.specs.declared.refused.Refused.TheVariants.{Line}
use Rattle.rcv_input.specs.Input.{IsAcceptedOf, AreScriptsOf, ArePlanTokens, IsTaken}
use Rattle.rcv_input.specs.Refusals.{IsFirstRefusal, plan_letter, unplanned}
use Rattle.rcv_input.proofs.Cutting.{cuts}
use Rattle.rcv_input.proofs.Worked as worked
use Rattle.rcv_input.proofs.Worked.{word, sign, space, both, protocol}

-- the protocol of the worked input, with a plan behind it
abbrev with_plan : List ℕ → List ℕ
with_plan plan = codes "module m;global protocol P(role A,role B){p()from A to B;}\n%% plan\n" ++ plan

abbrev pieces : List Piece
pieces = worked.pieces ++ space ∷ []

is_accepted : (plan : List ℕ) → IsAcceptedOf (with_plan plan) protocol
is_accepted plan = record {
  text = record {
    tokens = tokens_of (with_plan plan) 0 pieces;
    whole = worked.alone protocol;
    cut = (pieces, cuts 40 (codes "module m;global protocol P(role A,role B){p()from A to B;}\n") pieces refl, refl);
    read = (worked.is_read, refl);
    expanded = worked.expanded;
  };
  accepted = worked.taken.protocol.accepted;
}

are_scripts : (plan : List ℕ) → AreScriptsOf (with_plan plan) protocol (no_lines protocol.roles)
are_scripts plan = record { tokens = []; cut = ([], refl, refl); read = none_read protocol.roles (messages_of protocol) }

-- ---- the first role crashes at 1, and both have one host

abbrev pub input : List ℕ
input = with_plan (codes "crash A 1\nhost h=A,B")

abbrev number : Piece
number = record { token = Some Number; len = 1 }

abbrev plan_pieces : List Piece
plan_pieces = word 5 ∷ space ∷ word 1 ∷ space ∷ number ∷ space ∷ word 4 ∷ space ∷ word 1 ∷ sign ∷ word 1 ∷ sign ∷ word 1 ∷ []

abbrev plan_tokens : List Token
plan_tokens = tokens_of input (parts_of input).plan.start plan_pieces

cut : ArePlanTokens input plan_tokens
cut = (plan_pieces, cuts 20 (codes "crash A 1\nhost h=A,B") plan_pieces refl, refl)

abbrev host : List plans.Symbol
host =
    plans.Word (codes "host") ∷ plans.Word (codes "h") ∷ plans.Is Equals ∷ plans.Word (codes "A")
    ∷ plans.Is Comma ∷ plans.Word (codes "B") ∷ []

abbrev crash : List plans.Symbol → List plans.Symbol
crash behind = plans.Word (codes "crash") ∷ plans.Word (codes "A") ∷ plans.Number 1 ∷ behind

abbrev with_crash : KnownView
with_crash = record { lines = CrashLine 0 1 ∷ []; names = [] }

abbrev with_host : KnownView
with_host = record { lines = CrashLine 0 1 ∷ HostLine (0 ∷ 1 ∷ []) ∷ []; names = codes "h" ∷ [] }

-- behind the first crash line
first_read : (symbols : List plans.Symbol) → SoFar both (crash symbols) symbols with_crash
first_read symbols = one_more both (crash symbols) (crash symbols) symbols none with_crash (begin both (crash symbols) none refl refl) (λ e. cc) refl

is_read : IsRead both (crash host) with_host.lines
is_read = done both (crash host) [] with_host (one_more both (crash host) host [] with_crash with_host (first_read host) (λ e. cc) refl) refl

abbrev pub session : SessionView
session = record { protocol = protocol; scripts = no_lines protocol.roles; plan = with_host.lines }

pub is_taken : IsTaken input session
is_taken = record {
  protocol = is_accepted (codes "crash A 1\nhost h=A,B");
  are_scripts = are_scripts (codes "crash A 1\nhost h=A,B");
  plan = record { tokens = plan_tokens; cut = cut; read = is_read };
}

-- ---- it crashes there twice: refused on the fourth line

abbrev twice : List ℕ
twice = codes "crash A 1\ncrash A 1"

abbrev twice_pieces : List Piece
twice_pieces = word 5 ∷ space ∷ word 1 ∷ space ∷ number ∷ space ∷ word 5 ∷ space ∷ word 1 ∷ space ∷ number ∷ []

abbrev twice_tokens : List Token
twice_tokens = tokens_of (with_plan twice) (parts_of (with_plan twice)).plan.start twice_pieces

is_first : IsFirst both (crash (crash [])) Twice (plans.Number 1 ∷ [])
is_first = stop both (crash (crash [])) (crash []) (plans.Number 1 ∷ []) with_crash Twice (first_read (crash [])) (λ e. cc) refl

crashes_twice : IsFirstRefusal (with_plan twice) (Line 42 4)
crashes_twice =
    unplanned protocol (no_lines protocol.roles) twice_tokens 42 4 (is_accepted twice) (are_scripts twice)
    (twice_pieces, cuts 20 twice twice_pieces refl, refl) (Twice, plans.Number 1 ∷ [], is_first, refl)

-- ---- a bad letter on its second line

letter_in_plan : IsFirstRefusal (with_plan (codes "\n#")) (Line 10 4)
letter_in_plan = plan_letter protocol (no_lines protocol.roles) 4 (is_accepted (codes "\n#")) (are_scripts (codes "\n#"))
    (68, (space ∷ [], codes "#", (refl, refl), λ e. cc, refl, refl), refl)
