-- Pieces one behind another, as the loop over a part reads them.
use Rattle.std.proofs.Common.{◌≡◌, ◌≢◌, ℕ, ◌+◌, ◌-◌, ◌≤◌, List, [], ◌∷◌, ◌++◌, take, drop, None, Some, refl, sym, ap, subst, ◌∙◌, arith, append_assoc}
use Rattle.std.proofs.lemmas.Grind.{common_steps}
use Rattle.std.specs.Prelude.{slice_range, count_by, ◌==◌}
use Rattle.std.proofs.Math.Seq.{take-add}
use Rattle.rcv_lexer.specs.declared.token.Span.{Span}
use Rattle.rcv_lexer.specs.declared.token.Token.{Token}
use Rattle.rcv_lexer.specs.declared.piece.Piece.{Piece}
use Rattle.rcv_lexer.specs.Parts.{span}
use Rattle.rcv_lexer.specs.Pieces.{piece_of}
use Rattle.rcv_lexer.specs.Tokens.{Cuts, line_at, token_at, AreTokens, HasTokens, IsLetterAt}
use Rattle.rcv_lexer.proofs.TokenBytes.{bytes_behind, piece_within}

-- ---- a piece, and what is behind it

text_behind : (bundle : List ℕ) (place stop : ℕ) (p : Piece) → piece_of (slice_range bundle place stop) ≡ Some p
    → slice_range bundle (place + p.len) stop ≡ drop p.len (slice_range bundle place stop)
text_behind bundle place stop p e =
    let k : stop - (place + p.len) ≡ stop - place - p.len = omega arith in
    ap (λ (i : ℕ). take i (drop (place + p.len) bundle)) k ∙ sym (bytes_behind bundle place (stop - place) p e)

pub tokens_before : (bundle : List ℕ) (place stop : ℕ) (p : Piece) → piece_of (slice_range bundle place stop) ≡ Some p
    → (us : List Token) → AreTokens bundle (span (place + p.len) stop) us
    → AreTokens bundle (span place stop) (token_at place (line_at bundle place) p.len p.token ++ us)
tokens_before bundle place stop p e us are = (
  p ∷ are.0,
  (e, subst (λ (text : List ℕ). Cuts are.0 text []) (text_behind bundle place stop p e) are.1),
  ap (λ (x : List Token). token_at place (line_at bundle place) p.len p.token ++ x) are.2,
)

pub letter_before : (bundle : List ℕ) (place stop : ℕ) (p : Piece) → piece_of (slice_range bundle place stop) ≡ Some p
    → (at : ℕ) → IsLetterAt bundle (span (place + p.len) stop) at → IsLetterAt bundle (span place stop) at
letter_before bundle place stop p e at is =
    (p ∷ is.0, is.1, (e, subst (λ (text : List ℕ). Cuts is.0 text is.1) (text_behind bundle place stop p e) is.2), is.3, is.4, is.5)

-- ---- the loop

-- the line goes on by the line feeds in between
pub line-more : (bundle : List ℕ) (place n : ℕ) → line_at bundle place + count_by (λ b. b == 10) (slice_range bundle place (place + n)) ≡ line_at bundle (place + n)
line-more bundle place n = grind (arith, common_steps, take-add)

-- what the rest of the part gives, the whole part gives with the tokens so far
pub record Progress (bundle : List ℕ) (part : Span) (ts : List Token) (place line : ℕ) : Type 0 where
  pub tokens : (us : List Token) → AreTokens bundle (span place part.end) us → AreTokens bundle part (ts ++ us)
  pub letter : (at : ℕ) → IsLetterAt bundle (span place part.end) at → IsLetterAt bundle part at
  pub line-is : line ≡ line_at bundle place
  pub inside : place ≤ part.end

pub progress_more : (bundle : List ℕ) (part : Span) (ts ts' : List Token) (place line line' : ℕ) (p : Piece)
    → Progress bundle part ts place line
    → piece_of (slice_range bundle place part.end) ≡ Some p → ts' ≡ ts ++ token_at place line p.len p.token → line' ≡ line_at bundle (place + p.len)
    → Progress bundle part ts' (place + p.len) line'
progress_more bundle part ts ts' place line line' p so_far e more is =
    let token = token_at place (line_at bundle place) p.len p.token in
    let same : ts' ≡ ts ++ token = more ∙ ap (λ (i : ℕ). ts ++ token_at place i p.len p.token) so_far.line-is in
    let fits = (piece_within bundle place (part.end - place) p e).0 in
    let so_far_inside = so_far.inside in
    record {
      tokens = λ us are. subst (AreTokens bundle part) (sym (ap (λ (x : List Token). x ++ us) same ∙ append_assoc ts token us))
          (so_far.tokens (token ++ us) (tokens_before bundle place part.end p e us are));
      letter = λ at bad. so_far.letter at (letter_before bundle place part.end p e at bad);
      line-is = is;
      inside = omega arith;
    }

-- the same without the tokens themselves: what the rest of the part is, the whole part is
pub record Onward (bundle : List ℕ) (part : Span) (place : ℕ) : Type 0 where
  pub tokens : HasTokens bundle (span place part.end) → HasTokens bundle part
  pub letter : (at : ℕ) → IsLetterAt bundle (span place part.end) at → IsLetterAt bundle part at
  pub from : part.start ≤ place
  pub inside : place ≤ part.end

pub onward_more : (bundle : List ℕ) (part : Span) (place : ℕ) (p : Piece) → Onward bundle part place
    → piece_of (slice_range bundle place part.end) ≡ Some p → Onward bundle part (place + p.len)
onward_more bundle part place p so_far e =
    let fits = (piece_within bundle place (part.end - place) p e).0 in
    let so_far_inside = so_far.inside in
    let so_far_from = so_far.from in
    record {
      tokens = λ has. so_far.tokens (_, tokens_before bundle place part.end p e has.0 has.1);
      letter = λ at bad. so_far.letter at (letter_before bundle place part.end p e at bad);
      from = omega arith;
      inside = omega arith;
    }

pub onward_none : (bundle : List ℕ) (part : Span) (place : ℕ) → Onward bundle part place → part.end ≤ place → HasTokens bundle part
onward_none bundle part place so_far end =
    let nothing : part.end - place ≡ 0 = omega arith in
    so_far.tokens ([], ([], ap (λ (i : ℕ). take i (drop place bundle)) nothing, refl))

pub onward_letter : (bundle : List ℕ) (part : Span) (place : ℕ) → Onward bundle part place → slice_range bundle place part.end ≢ []
    → piece_of (slice_range bundle place part.end) ≡ None → IsLetterAt bundle part place
onward_letter bundle part place so_far some none = so_far.letter place ([], _, refl, some, none, refl)
