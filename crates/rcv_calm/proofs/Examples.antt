-- An input with a crash line and a limit, and the same without the crash line; it's not the input without both, nor the
-- one with both.
use Rattle.std.proofs.Common.{◌≡◌, ℕ, Some, codes, List, [], ◌∷◌, ◌++◌, drop, map, refl}
use Rattle.std.specs.Prelude.{Option}
use Rattle.rcv_model.specs.Plan.{PlanLine, CrashLine, LimitLine}
use Rattle.rcv_session.specs.Session.{SessionView}
use Rattle.rcv_lexer.specs.declared.piece.Piece.{Piece}
use Rattle.rcv_lexer.specs.declared.token.Kind.TheVariants.{Number}
use Rattle.rcv_lexer.specs.declared.token.Token.{Token}
use Rattle.rcv_lexer.specs.Parts.{parts_of}
use Rattle.rcv_lexer.specs.Pieces.{piece_of}
use Rattle.rcv_lexer.specs.Tokens.{Cuts, tokens_of, text_of_part}
use Rattle.rcv_script.specs.Scripts.{messages_of}
use Rattle.rcv_script.proofs.Answering.{none_read as no_scripts_read}
use Rattle.rcv_plan.specs.Symbols as plans
use Rattle.rcv_plan.specs.Grammar.{Written, WrittenCrash, WrittenLimit, plan_text}
use Rattle.rcv_plan.specs.Refusing.{IsRead}
use Rattle.rcv_plan.specs.Items.{KnownView}
use Rattle.rcv_plan.proofs.Exactly.{SoFar, begin, one_more, done}
use Rattle.rcv_input.specs.Input.{AreProtocolTokens, ArePlanTokens, IsTaken}
use Rattle.rcv_input.proofs.Once.{one_answer}
use Rattle.rcv_input.proofs.Worked as worked
use Rattle.rcv_transparent.specs.Calm.{calm, with_plan}
use Rattle.rcv_calm.specs.Without.{IsWithoutCrashLines}
use Rattle.rcv_calm.proofs.Calming.{known_of}
use Rattle.rcv_calm.proofs.Taken.{taken_without}

-- ---- cutting by computing

abbrev heads : List Piece → List ℕ → List (Option Piece)
heads [] text = []
heads (p ∷ ps) text = piece_of text ∷ heads ps (drop p.len text)

abbrev left_behind : List Piece → List ℕ → List ℕ
left_behind [] text = text
left_behind (p ∷ ps) text = left_behind ps (drop p.len text)

cuts : (ps : List Piece) (text : List ℕ) → heads ps text ≡ map (λ (p : Piece). Some p) ps → left_behind ps text ≡ [] → Cuts ps text []
cuts [] text heads_are over = over
cuts (p ∷ ps) text heads_are over =
    let rest : heads ps (drop p.len text) ≡ map (λ (q : Piece). Some q) ps = cc in (cc, cuts ps (drop p.len text) rest over)

-- ---- the texts

abbrev text : List ℕ
text = worked.input ++ codes "\n%% plan\ncrash A 1\nlimit 5\n"

abbrev other : List ℕ
other = worked.input ++ codes "\n%% plan\nlimit 5\n"

abbrev protocol_pieces : List Piece
protocol_pieces = worked.pieces ++ worked.space ∷ []

cut : AreProtocolTokens text worked.tokens
cut = (protocol_pieces, cuts protocol_pieces (text_of_part text (parts_of text).protocol) refl refl, refl)

other_cut : AreProtocolTokens other worked.tokens
other_cut = (protocol_pieces, cuts protocol_pieces (text_of_part other (parts_of other).protocol) refl refl, refl)

abbrev digit : Piece
digit = record { token = Some Number; len = 1 }

abbrev limit_pieces : List Piece
limit_pieces = worked.word 5 ∷ worked.space ∷ digit ∷ worked.space ∷ []

abbrev plan_pieces : List Piece
plan_pieces = worked.word 5 ∷ worked.space ∷ worked.word 1 ∷ worked.space ∷ digit ∷ worked.space ∷ limit_pieces

abbrev plan_tokens : List Token
plan_tokens = tokens_of text (parts_of text).plan.start plan_pieces

abbrev limit_tokens : List Token
limit_tokens = tokens_of other (parts_of other).plan.start limit_pieces

plan_cut : ArePlanTokens text plan_tokens
plan_cut = (plan_pieces, cuts plan_pieces (text_of_part text (parts_of text).plan) refl refl, refl)

limit_cut : ArePlanTokens other limit_tokens
limit_cut = (limit_pieces, cuts limit_pieces (text_of_part other (parts_of other).plan) refl refl, refl)

abbrev items : List Written
items = WrittenCrash (codes "A") 1 ∷ WrittenLimit 5 ∷ []

is_without : IsWithoutCrashLines text other
is_without = record {
  same_protocol = record { tokens = worked.tokens; other_tokens = worked.tokens; cut = cut; other_cut = other_cut; same = refl };
  same_scripts = record { tokens = []; other_tokens = []; cut = ([], refl, refl); other_cut = ([], refl, refl); same = refl };
  plan = record { items = items; tokens = plan_tokens; other_tokens = limit_tokens; cut = plan_cut; other_cut = limit_cut; written = refl; left = refl };
}

-- ---- what they are taken as

abbrev lines : List PlanLine
lines = CrashLine 0 1 ∷ LimitLine 5 ∷ []

abbrev session : SessionView
session = with_plan worked.session lines

abbrev known : List PlanLine → KnownView
known so_far = known_of so_far []

abbrev limit_left : List plans.Symbol
limit_left = plan_text (WrittenLimit 5 ∷ [])

lines_read : IsRead worked.both (plan_text items) lines
lines_read =
    let none : SoFar worked.both (plan_text items) (plan_text items) (known []) = begin worked.both (plan_text items) (known []) refl refl in
    let one : SoFar worked.both (plan_text items) limit_left (known (CrashLine 0 1 ∷ [])) =
    one_more worked.both (plan_text items) (plan_text items) limit_left (known []) (known (CrashLine 0 1 ∷ [])) none (λ e. cc) refl in
    let two : SoFar worked.both (plan_text items) [] (known lines) =
    one_more worked.both (plan_text items) limit_left [] (known (CrashLine 0 1 ∷ [])) (known lines) one (λ e. cc) refl in
    done worked.both (plan_text items) [] (known lines) two refl

taken : IsTaken text session
taken = record {
  protocol = record { text = record { tokens = worked.tokens; whole = worked.alone worked.protocol; cut = cut; read = (worked.is_read, refl); expanded = worked.expanded }; accepted = worked.taken.protocol.accepted };
  are_scripts = record { tokens = []; cut = ([], refl, refl); read = no_scripts_read worked.both (messages_of worked.protocol) };
  plan = record { tokens = plan_tokens; cut = plan_cut; read = lines_read };
}

limit_stays : IsTaken other (with_plan worked.session (LimitLine 5 ∷ []))
limit_stays = taken_without text other session taken is_without

-- ---- what they aren't

-- the input without the limit isn't the one without its crash lines
limit_left_out : IsWithoutCrashLines text worked.input → ⊥
limit_left_out without =
    let plans = (one_answer.sessions worked.input (calm session) worked.session (taken_without text worked.input session taken without) worked.taken).plans in
    cc

-- nor is the input itself, which has a crash line
crash_line_kept : IsWithoutCrashLines text text → ⊥
crash_line_kept without =
    let plans = (one_answer.sessions text (calm session) session (taken_without text text session taken without) taken).plans in
    cc
