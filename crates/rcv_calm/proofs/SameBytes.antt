-- Tokens of the same bytes say the same, wherever these stand in a text.
use Rattle.std.proofs.Common.{◌≡◌, ◌∙◌, ℕ, ◌+◌, ◌-◌, List, [], ◌∷◌, ◌++◌, take, drop, Option, Some, None, refl, sym, ap, subst}
use Rattle.std.specs.Prelude.{slice_range}
use Rattle.std.proofs.lemmas.List.{map-append}
use Rattle.rcv_lexer.specs.declared.piece.Piece.{Piece}
use Rattle.rcv_lexer.specs.declared.token.Kind.{Kind}
use Rattle.rcv_lexer.specs.declared.token.Span.{Span}
use Rattle.rcv_lexer.specs.declared.token.Token.{Token}
use Rattle.rcv_lexer.specs.Pieces.{piece_of}
use Rattle.rcv_lexer.specs.Parts.{parts_of}
use Rattle.rcv_lexer.specs.Tokens.{Cuts, line_at, token_at, tokens_of, text_of_part, AreTokens}
use Rattle.rcv_lexer.proofs.TokenBytes.{bytes_at, bytes_behind}
use Rattle.rcv_lexer.specs.Symbols.{Symbol, symbol_of, symbols_of}
use Rattle.rcv_syntax.specs.Symbols as protocols
use Rattle.rcv_script.specs.Symbols as scripts
use Rattle.rcv_calm.specs.Laws.{SameBytesSayTheSame}

module _ {S : Type 0} (by : Kind → List ℕ → Symbol S) (text other : List ℕ) where
  one_same : (token : Option Kind) (place there line line_there len : ℕ)
      → slice_range text place (place + len) ≡ slice_range other there (there + len)
      → symbols_of by text (token_at place line len token) ≡ symbols_of by other (token_at there line_there len token)
  one_same None place there line line_there len same = refl
  one_same (Some kind) place there line line_there len same = ap (λ (bytes : List ℕ). by kind bytes ∷ []) same

  all_same : (ps : List Piece) (place there k n : ℕ) → take k (drop place text) ≡ take n (drop there other)
      → Cuts ps (take k (drop place text)) []
      → symbols_of by text (tokens_of text place ps) ≡ symbols_of by other (tokens_of other there ps)
  all_same [] place there k n same cuts = refl
  all_same (p ∷ ps) place there k n same cuts =
      let first = token_at place (line_at text place) p.len p.token in
      let first_there = token_at there (line_at other there) p.len p.token in
      let piece_there = subst (λ (bytes : List ℕ). piece_of bytes ≡ Some p) same cuts.0 in
      let bytes : slice_range text place (place + p.len) ≡ slice_range other there (there + p.len) =
      bytes_at text place k p cuts.0 ∙ ap (take p.len) same ∙ sym (bytes_at other there n p piece_there) in
      let behind : take (k - p.len) (drop (place + p.len) text) ≡ take (n - p.len) (drop (there + p.len) other) =
      sym (bytes_behind text place k p cuts.0) ∙ ap (drop p.len) same ∙ bytes_behind other there n p piece_there in
      map-append (symbol_of by text) first (tokens_of text (place + p.len) ps)
      ∙ ap (λ (xs : List (Symbol S)). xs ++ symbols_of by text (tokens_of text (place + p.len) ps)) (one_same p.token place there (line_at text place) (line_at other there) p.len bytes)
      ∙ ap (λ (xs : List (Symbol S)). symbols_of by other first_there ++ xs)
      (all_same ps (place + p.len) (there + p.len) (k - p.len) (n - p.len) behind (subst (λ (bytes : List ℕ). Cuts ps bytes []) (bytes_behind text place k p cuts.0) cuts.1))
      ∙ sym (map-append (symbol_of by other) first_there (tokens_of other (there + p.len) ps))

  -- the other part has tokens, too, that say the same
  abbrev pub SaysTheSame : Span → List Token → Type 0
  SaysTheSame part tokens = (others : List Token) × AreTokens other part others × (symbols_of by text tokens ≡ symbols_of by other others)

  part_same : (part there : Span) (tokens : List Token) → text_of_part text part ≡ text_of_part other there → AreTokens text part tokens
      → SaysTheSame there tokens
  part_same part there tokens same are = (
    tokens_of other there.start are.0,
    (are.0, subst (λ (bytes : List ℕ). Cuts are.0 bytes []) same are.1, refl),
    ap (symbols_of by text) are.2 ∙ all_same are.0 part.start there.start (part.end - part.start) (there.end - there.start) same are.1,
  )

pub same_bytes : SameBytesSayTheSame
same_bytes text other session taken same =
    let protocol = part_same protocols.symbol_by text other (parts_of text).protocol (parts_of other).protocol taken.protocol.text.tokens same.protocol taken.protocol.text.cut in
    let lines = part_same scripts.symbol_by text other (parts_of text).scripts (parts_of other).scripts taken.are_scripts.tokens same.scripts taken.are_scripts.cut in (
      record { tokens = taken.protocol.text.tokens; other_tokens = protocol.0; cut = taken.protocol.text.cut; other_cut = protocol.1; same = protocol.2 },
      record { tokens = taken.are_scripts.tokens; other_tokens = lines.0; cut = taken.are_scripts.cut; other_cut = lines.1; same = lines.2 },
    )
