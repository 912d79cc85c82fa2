-- The line of what is wrong is that of the reader's refusal.
use Rattle.std.proofs.Common.{◌≡◌, ℕ, zero, suc, ◌+◌, ◌-◌, List, [], ◌∷◌, length, drop, refl, ◌∙◌, ap, arith}
use Rattle.std.specs.Prelude.{slice_get}
use Rattle.rcv_tree.specs.declared.refusal.Refusal.TheVariants as refusals
use Rattle.rcv_lexer.specs.declared.token.Span.{Span}
use Rattle.rcv_lexer.specs.declared.token.Token.{Token}
use Rattle.rcv_tree.specs.declared.refusal.TextError.TheVariants as errors
use Rattle.rcv_lexer.specs.Tokens.{IsLetter, line_at}
use Rattle.rcv_lexer.specs.Symbols as scan
use Rattle.rcv_syntax.specs.Codes as protocols_codes
use Rattle.rcv_script.specs.Refusals as scripting
use Rattle.rcv_plan.specs.Refusing as planning
use Rattle.rcv_found.specs.Grammars.{GrammarView, OfProtocol, OfScripts, OfPlan}
use Rattle.rcv_found.specs.Stops.{IsRefusedBy}
use Rattle.rcv_found.specs.Spots.{spot_of, IsWrongAt}
use Rattle.rcv_found.specs.Letters.{IsLetterTold}
use Rattle.rcv_found.specs.declared.wrong.Wrong.{Wrong}

line_found : (bundle : List ℕ) (end : ℕ) (ts : List Token) (k : ℕ)
    → (spot_of bundle end (slice_get ts k)).line ≡ scan.line_of_first (drop k ts) (line_at bundle end)
line_found bundle end [] zero = refl
line_found bundle end [] (suc k) = refl
line_found bundle end (t ∷ ts) zero = refl
line_found bundle end (t ∷ ts) (suc k) = line_found bundle end ts k

line_is : (bundle : List ℕ) (end : ℕ) (ts : List Token) (place left : ℕ) → place + left ≡ length ts
    → (spot_of bundle end (slice_get ts place)).line ≡ scan.line_before ts (line_at bundle end) left
line_is bundle end ts place left e =
    let same : place ≡ length ts - left = omega (arith, e) in
    line_found bundle end ts place ∙ ap (λ (k : ℕ). scan.line_of_first (drop k ts) (line_at bundle end)) same

pub refused_there : (g : GrammarView) (bundle : List ℕ) (ts : List Token) (end : ℕ) (w : Wrong) → IsWrongAt g bundle ts end w
    → IsRefusedBy g bundle ts (line_at bundle end) (errors.Refused (refusals.Text w.code w.spot.line))
refused_there OfProtocol bundle ts end w wrong =
    let first = wrong.first in
    let code : w.code ≡ protocols_codes.code_of first.0 = first.3 in
    let line : w.spot.line ≡ scan.line_before ts (line_at bundle end) (length first.1)
    = ap (λ s. s.line) wrong.spot ∙ line_is bundle end ts wrong.place (length first.1) first.4 in
    (first.0, first.1, first.2, cc)
refused_there (OfScripts a) bundle ts end w wrong =
    let first = wrong.first in
    let code : w.code ≡ scripting.code_of first.0 = first.3 in
    let line : w.spot.line ≡ scan.line_before ts (line_at bundle end) (length first.1)
    = ap (λ s. s.line) wrong.spot ∙ line_is bundle end ts wrong.place (length first.1) first.4 in
    (first.0, first.1, first.2, cc)
refused_there (OfPlan a) bundle ts end w wrong =
    let first = wrong.first in
    let code : w.code ≡ planning.code_of first.0 = first.3 in
    let line : w.spot.line ≡ scan.line_before ts (line_at bundle end) (length first.1)
    = ap (λ s. s.line) wrong.spot ∙ line_is bundle end ts wrong.place (length first.1) first.4 in
    (first.0, first.1, first.2, cc)

-- A bad letter's line is that of the place where it is told to stand.
pub letter_line : (g : GrammarView) (bundle : List ℕ) (part : Span) (w : Wrong) → IsLetterTold g bundle part w → IsLetter bundle part w.spot.line
letter_line g bundle part w told = (told.place, told.letter, ap (λ s. s.line) told.spot)
