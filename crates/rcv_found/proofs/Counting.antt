-- A part has no more tokens than the bundle has bytes.
use Rattle.std.proofs.Common.{◌≤◌, ℕ, ◌+◌, ◌-◌, List, [], ◌∷◌, length, drop, sym, ap, arith, length-append, length-drop, Option, Some, None}
use Rattle.std.proofs.lemmas.List.{length-take}
use Rattle.rcv_lexer.specs.declared.token.Kind.{Kind}
use Rattle.rcv_lexer.specs.declared.token.Span.{Span}
use Rattle.rcv_lexer.specs.declared.token.Token.{Token}
use Rattle.rcv_lexer.specs.declared.piece.Piece.{Piece}
use Rattle.rcv_lexer.specs.Tokens.{Cuts, line_at, token_at, tokens_of, text_of_part, AreTokens}
use Rattle.rcv_lexer.proofs.Fitting.{piece_lies}

one_at_most : (place line len : ℕ) (o : Option Kind) → length (token_at place line len o) ≤ 1
one_at_most place line len None = omega arith
one_at_most place line len (Some kind) = omega arith

few : (ps : List Piece) (text : List ℕ) (bundle : List ℕ) (place : ℕ) → Cuts ps text [] → length (tokens_of bundle place ps) ≤ length text
few [] text bundle place cuts = omega arith
few (p ∷ ps) text bundle place cuts =
    let rest = few ps (drop p.len text) bundle (place + p.len) cuts.1 in
    let lies = piece_lies text (Some p) (sym cuts.0) in
    let some = lies.0 in
    let within = lies.1 in
    let one = one_at_most place (line_at bundle place) p.len p.token in
    let all = length-append (token_at place (line_at bundle place) p.len p.token) (tokens_of bundle (place + p.len) ps) in
    let left = length-drop {A = ℕ} p.len text in
    omega (arith, rest, some, within, one, all, left)

pub few_tokens : (bundle : List ℕ) (part : Span) (ts : List Token) → AreTokens bundle part ts → length ts ≤ length bundle
few_tokens bundle part ts are =
    let all = few are.0 (text_of_part bundle part) bundle part.start are.1 in
    let same = ap length are.2 in
    let cut = length-take {A = ℕ} (part.end - part.start) (drop part.start bundle) in
    let left = length-drop {A = ℕ} part.start bundle in
    omega (arith, all, same, cut, left)
