-- The bytes of a token are those of its kind, a word is a word, what is quoted may stand between quotes, and each token lies in the bundle.
use Rattle.std.proofs.Common.{◌≡◌, ℕ, ◌+◌, ◌-◌, ◌≤◌, List, [], ◌∷◌, length, take, drop, Option, Some, sym, ap, subst, ◌∙◌, arith, length-drop}
use Rattle.std.proofs.lemmas.Grind.{common_steps, elements}
use Rattle.std.specs.Prelude.{slice_range}
use Rattle.std.specs.List.{All}
use Rattle.std.proofs.lemmas.List.{drop-drop, drop-take, take-take, length-take}
use Rattle.std.proofs.lemmas.List.Elements.{All-append, All-nil, All-same, All-weaker}
use Rattle.rcv_lexer.specs.declared.token.Kind.{Kind}
use Rattle.rcv_lexer.specs.declared.token.Span.{Span}
use Rattle.rcv_lexer.specs.declared.token.Token.{Token}
use Rattle.rcv_lexer.specs.declared.piece.Piece.{Piece}
use Rattle.rcv_lexer.specs.Parts.{LiesIn}
use Rattle.rcv_lexer.specs.Pieces.{piece_of}
use Rattle.rcv_lexer.specs.Tokens.{Cuts, line_at, token_at, tokens_of, bytes_of, AreTokens, IsOfKind}
use Rattle.rcv_lexer.specs.Laws.{WordsAreWords}
use Rattle.rcv_lexer.proofs.Fitting.{Fits, Holds, piece_fits}

-- the piece lies in what is left of the part
pub piece_within : (bundle : List ℕ) (place k : ℕ) (p : Piece) → piece_of (take k (drop place bundle)) ≡ Some p
    → (p.len ≤ k) × (place + p.len ≤ length bundle)
piece_within bundle place k p e =
    let fits = piece_fits (take k (drop place bundle)) in
    grind (arith, length-take, length-drop)

-- what the pieces at the front of a stretch are in the bundle
pub bytes_at : (bundle : List ℕ) (place k : ℕ) (p : Piece) → piece_of (take k (drop place bundle)) ≡ Some p
    → slice_range bundle place (place + p.len) ≡ take p.len (take k (drop place bundle))
bytes_at bundle place k p e =
    let within = piece_within bundle place k p e in
    grind (arith, common_steps, take-take)

pub bytes_behind : (bundle : List ℕ) (place k : ℕ) (p : Piece) → piece_of (take k (drop place bundle)) ≡ Some p
    → drop p.len (take k (drop place bundle)) ≡ take (k - p.len) (drop (place + p.len) bundle)
bytes_behind bundle place k p e =
    let fits = (piece_within bundle place k p e).0 in
    let left : k ≡ p.len + (k - p.len) = omega arith in
    ap (λ (i : ℕ). drop p.len (take i (drop place bundle))) left ∙ drop-take p.len (k - p.len) (drop place bundle)
    ∙ ap (take (k - p.len)) (drop-drop p.len place bundle)

abbrev IsSound : List ℕ → Token → Type 0
IsSound bundle t = LiesIn bundle t.span × IsOfKind t.kind (bytes_of bundle t)

one_sound : (bundle : List ℕ) (place line len : ℕ) (token : Option Kind) → place + len ≤ length bundle
    → Holds token (slice_range bundle place (place + len))
    → All (IsSound bundle) (token_at place line len token)
one_sound bundle place line len token lies h = grind (arith, elements)

all_sound : (ps : List Piece) (bundle : List ℕ) (place k : ℕ) → Cuts ps (take k (drop place bundle)) []
    → All (IsSound bundle) (tokens_of bundle place ps)
all_sound [] bundle place k cuts = All-nil _
all_sound (p ∷ ps) bundle place k cuts =
    let here = (subst (Fits (take k (drop place bundle))) cuts.0 (piece_fits (take k (drop place bundle)))).2 in
    All-append (IsSound bundle) (token_at place (line_at bundle place) p.len p.token) (tokens_of bundle (place + p.len) ps)
    (one_sound bundle place (line_at bundle place) p.len p.token (piece_within bundle place k p cuts.0).1
    (subst (Holds p.token) (sym (bytes_at bundle place k p cuts.0)) here))
    (all_sound ps bundle (place + p.len) (k - p.len) (subst (λ (x : List ℕ). Cuts ps x []) (bytes_behind bundle place k p cuts.0) cuts.1))

tokens_sound : (bundle : List ℕ) (part : Span) (ts : List Token) → AreTokens bundle part ts → All (IsSound bundle) ts
tokens_sound bundle part ts are = All-same (IsSound bundle) ts _ are.2 (all_sound are.0 bundle part.start (part.end - part.start) are.1)

pub all_lie : (bundle : List ℕ) (part : Span) (ts : List Token) → AreTokens bundle part ts → All (λ (t : Token). LiesIn bundle t.span) ts
all_lie bundle part ts are =
    All-weaker (IsSound bundle) (λ (t : Token). LiesIn bundle t.span) (λ t h. h.0) ts (tokens_sound bundle part ts are)

pub words_are_words : WordsAreWords
words_are_words bundle part ts are =
    All-weaker (IsSound bundle) (λ (t : Token). IsOfKind t.kind (bytes_of bundle t)) (λ t h. h.1) ts
    (tokens_sound bundle part ts are)
