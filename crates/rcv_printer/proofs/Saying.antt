-- What texts say, from the back to the front: words, marks and blanks in front of a text that says symbols.
use Rattle.std.proofs.Common.{◌≡◌, ℕ, ◌+◌, ◌-◌, Bool, true, false, List, [], ◌∷◌, ◌++◌, length, Option, Some, None, refl, ap, subst, arith, le-leb, ne_eqb, append_assoc, length-append, take_while, slice_get, slice_range, ◌==◌, ◌&&◌, ◌||◌}
use Rattle.std.proofs.lemmas.Bool.Decides.{nat_tests}
use Rattle.std.proofs.lemmas.List.Sums.{take_while-cons}
use Rattle.std.proofs.Math.Seq.{take-append_seam, drop-append_seam}
use Rattle.rcv_lexer.specs.declared.token.Kind.{Kind}
use Rattle.rcv_lexer.specs.declared.token.Kind.TheVariants as kinds
use Rattle.rcv_lexer.specs.declared.piece.Piece.{Piece}
use Rattle.rcv_lexer.specs.Parts.{here, first_from}
use Rattle.rcv_lexer.specs.Pieces.{is_inside, pairs, piece_of}
use Rattle.rcv_lexer.specs.declared.token.Token.{Token}
use Rattle.rcv_lexer.specs.Tokens.{Cuts, token_at, tokens_of, IsQuotable}
use Rattle.rcv_lexer.proofs.Fitting.{letter_is_word_byte}
use Rattle.rcv_tree.specs.Words.{is_letter, is_word_byte, Passes, IsWord}
use Rattle.rcv_syntax.specs.declared.sign.Sign.TheVariants.{Open, Close, Left, Dot}
use Rattle.rcv_syntax.specs.Symbols.{Symbol, Is, Word, Text, symbol_by, symbols_of, unquoted}
use Rattle.rcv_grammar.specs.Printable.{IsName}

-- ---- what a text says

-- the symbol of a piece with these bytes, if it is a token, in front of others
abbrev pub symbol_if : Option Kind → List ℕ → List Symbol → List Symbol
symbol_if None bytes next = next
symbol_if (Some kind) bytes next = symbol_by kind bytes ∷ next

one_symbol : (bundle : List ℕ) (place line len : ℕ) (token : Option Kind) (rest : List Token)
    → symbols_of bundle (token_at place line len token ++ rest) ≡ symbol_if token (slice_range bundle place (place + len)) (symbols_of bundle rest)
one_symbol bundle place line len None rest = refl
one_symbol bundle place line len (Some kind) rest = refl

-- no line of the text separates parts, where a line begins at the front or not
abbrev IsCalm : List ℕ → Type 0
IsCalm text = (fresh : Bool) (place : ℕ) → first_from true fresh place text ≡ None

-- The text is cut into pieces whose tokens say these symbols, whatever stands in front of it, and no line of it separates parts.
pub record Says (text : List ℕ) (symbols : List Symbol) : Type 0 where
  pub pieces : List Piece
  pub cuts : Cuts pieces text []
  pub say : (front : List ℕ) → symbols_of (front ++ text) (tokens_of (front ++ text) (length front) pieces) ≡ symbols
  pub calm : IsCalm text

pub says_nothing : Says [] []
says_nothing = record { pieces = []; cuts = refl; say = λ front. refl; calm = λ fresh place. refl }

-- a piece with a token of this kind, or with none, and so many bytes
abbrev piece : Option Kind → ℕ → Piece
piece token n = record { token = token; len = n }

-- One more piece.
in_front : (w : List ℕ) (token : Option Kind) {next : List ℕ} {s : List Symbol} → piece_of (w ++ next) ≡ Some (piece token (length w))
    → IsCalm (w ++ next) → Says next s → Says (w ++ next) (symbol_if token w s)
in_front w token {next} {s} is calm said =
    record {
      pieces = piece token (length w) ∷ said.pieces;
      cuts = (is, rw (drop-append_seam w next) said.cuts);
      say = λ front.
          let n : length front + length w - length front ≡ length w = omega arith in
          let bytes : slice_range (front ++ (w ++ next)) (length front) (length front + length w) ≡ w =
          rw (n, drop-append_seam front (w ++ next), take-append_seam w next) refl in
          let rest : symbols_of (front ++ (w ++ next)) (tokens_of (front ++ (w ++ next)) (length front + length w) said.pieces) ≡ s =
          subst (λ (x : List ℕ). symbols_of x (tokens_of x (length front + length w) said.pieces) ≡ s) (append_assoc front w next)
          (rw (← length-append front w) (said.say (front ++ w))) in
          rw (one_symbol, bytes, rest) refl;
      calm = calm;
    }

-- ---- bytes

-- no separator begins with another byte than %
none_here : (fresh : Bool) (place b : ℕ) (bs : List ℕ) → (b == 37) ≡ false → here true fresh place (b ∷ bs) ≡ None
none_here false place b bs e = refl
none_here true place b bs e = let other : (37 == b) ≡ false = grind (arith, nat_tests) in rw other (refl {a = None})

-- a piece of one byte
byte : (b : ℕ) (token : Option Kind) {next : List ℕ} {s : List Symbol} → piece_of (b ∷ next) ≡ Some (piece token 1) → (b == 37) ≡ false
    → Says next s → Says (b ∷ next) (symbol_if token (b ∷ []) s)
byte b token {next} is other said =
    in_front (b ∷ []) token is (λ fresh place. rw (none_here fresh place b next other) (said.calm (b == 10) (place + 1))) said

pub space : {next : List ℕ} {s : List Symbol} → Says next s → Says (32 ∷ next) s
space said = byte 32 None refl refl said

pub feed : {next : List ℕ} {s : List Symbol} → Says next s → Says (10 ∷ next) s
feed said = byte 10 None refl refl said

-- a mark in front of what makes no pair with it
pub mark : (b : ℕ) {next : List ℕ} {s : List Symbol} → piece_of (b ∷ next) ≡ Some (piece (Some kinds.Mark) 1) → (b == 37) ≡ false
    → Says next s → Says (b ∷ next) (symbol_by kinds.Mark (b ∷ []) ∷ s)
mark b is other said = byte b (Some kinds.Mark) is other said

-- { at the end of a line
pub opened : {next : List ℕ} {s : List Symbol} → Says next s → Says (123 ∷ 10 ∷ next) (Is Open ∷ s)
opened said = mark 123 refl refl (feed said)

-- a mark with which no pair begins
alone : (a : ℕ) (next : List ℕ) → (a == 60 || a == 62 || a == 61 || a == 33) ≡ false → pairs a next ≡ false
alone a [] h = refl
alone a (b ∷ next) h = let never : (b == 61 && false) ≡ false = grind arith in rw (h, never) refl

pub left : {next : List ℕ} {s : List Symbol} → Says next s → Says (40 ∷ next) (Is Left ∷ s)
left {next} said = mark 40 (rw (alone 40 next refl) refl) refl said

pub dot : {next : List ℕ} {s : List Symbol} → Says next s → Says (46 ∷ next) (Is Dot ∷ s)
dot {next} said = mark 46 (rw (alone 46 next refl) refl) refl said

pub close : {next : List ℕ} {s : List Symbol} → Says next s → Says (125 ∷ next) (Is Close ∷ s)
close {next} said = mark 125 (rw (alone 125 next refl) refl) refl said

-- ---- words and quotes

-- the next byte, if there is one, doesn't pass
abbrev pub StopsAt : (ℕ → Bool) → List ℕ → Type 0
StopsAt p [] = Unit {0}
StopsAt p (b ∷ bs) = p b ≡ false

run_is : (p : ℕ → Bool) (w next : List ℕ) → Passes p w → StopsAt p next → take_while p (w ++ next) ≡ w
run_is p [] [] h stop = refl
run_is p [] (b ∷ bs) h stop = rw (take_while-cons p b bs, stop) refl
run_is p (b ∷ w) next h stop = rw (take_while-cons p b (w ++ next), h.0, run_is p w next h.1 stop) refl

-- a byte that passes isn't one that doesn't
isn't : (p : ℕ → Bool) (b c : ℕ) → p b ≡ true → p c ≡ false → (b == c) ≡ false
isn't p b c passes fails = ne_eqb b c (λ e. let same = ap p e in cc (same, passes, fails))

-- no line ends in such a run
calm_run : (p : ℕ → Bool) (w next : List ℕ) (place : ℕ) → Passes p w → p 10 ≡ false → IsCalm next
    → first_from true false place (w ++ next) ≡ None
calm_run p [] next place h fails calm = calm false place
calm_run p (b ∷ w) next place h fails calm = rw (isn't p b 10 h.0 fails) (calm_run p w next (place + 1) h.1 fails calm)

-- a word, reserved or not
word : (w : List ℕ) {next : List ℕ} {s : List Symbol} → IsWord w → Says next s → StopsAt is_word_byte next
    → Says (w ++ next) (symbol_by kinds.Word w ∷ s)
word [] h said stop = absurd h
word (b ∷ w) {next} h said stop =
    let run = run_is is_word_byte (b ∷ w) next (letter_is_word_byte b h.0, h.1) stop in
    let cut : piece_of (b ∷ (w ++ next)) ≡ Some (piece (Some kinds.Word) (length (b ∷ w))) =
    rw (run, le-leb (length (b ∷ w)) 64 h.2, h.0) refl in
    let calm : IsCalm (b ∷ (w ++ next)) = λ fresh place.
    rw (none_here fresh place b (w ++ next) (isn't is_letter b 37 h.0 refl), isn't is_letter b 10 h.0 refl)
    (calm_run is_word_byte w next (place + 1) h.1 refl said.calm) in
    in_front (b ∷ w) (Some kinds.Word) cut calm said

-- one in front of a space
pub spaced : (w : List ℕ) {next : List ℕ} {s : List Symbol} → IsWord w → Says next s → Says (w ++ 32 ∷ next) (symbol_by kinds.Word w ∷ s)
spaced w h said = word w h (space said) refl

pub name : (n : List ℕ) {next : List ℕ} {s : List Symbol} → IsName n → Says next s → StopsAt is_word_byte next
    → Says (n ++ next) (Word n ∷ s)
name n h said stop = rw h.1 at (word n h.0 said stop)

-- < in front of a word
pub less_piece : (w next : List ℕ) → IsWord w → piece_of (60 ∷ (w ++ next)) ≡ Some (piece (Some kinds.Mark) 1)
less_piece [] next h = absurd h
less_piece (b ∷ w) next h = rw (isn't is_letter b 61 h.0 refl) refl

get_behind : (q next : List ℕ) (b : ℕ) → slice_get (q ++ b ∷ next) (length q) ≡ Some b
get_behind [] next b = refl
get_behind (c ∷ q) next b = get_behind q next b

-- what stands between two quotes
pub text : (q : List ℕ) {next : List ℕ} {s : List Symbol} → IsQuotable q → Says next s → Says (34 ∷ (q ++ 34 ∷ next)) (Text q ∷ s)
text q {next} {s} h said =
    let joined = append_assoc q (34 ∷ []) next in
    let len : length q + 2 ≡ length (34 ∷ (q ++ 34 ∷ [])) = omega (arith, length-append q (34 ∷ [])) in
    let cut : piece_of (34 ∷ ((q ++ 34 ∷ []) ++ next)) ≡ Some (piece (Some kinds.Text) (length (34 ∷ (q ++ 34 ∷ [])))) =
    rw (joined, run_is is_inside q (34 ∷ next) h.0 refl, get_behind q next 34, le-leb (length q) 64 h.1, len) refl in
    let calm : IsCalm (34 ∷ ((q ++ 34 ∷ []) ++ next)) = λ fresh place.
    rw (none_here fresh place 34 _ refl, joined)
    (calm_run is_inside q (34 ∷ next) (place + 1) h.0 refl (λ f p. rw (none_here f p 34 next refl) (said.calm false (p + 1)))) in
    let within : length (34 ∷ (q ++ 34 ∷ [])) - 1 - 1 ≡ length q = omega arith in
    let bare : unquoted (34 ∷ (q ++ 34 ∷ [])) ≡ q = rw (within, take-append_seam q (34 ∷ [])) refl in
    rw (joined, bare) at (in_front (34 ∷ (q ++ 34 ∷ [])) (Some kinds.Text) cut calm said)
