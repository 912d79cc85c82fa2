-- A line feed behind a printed text changes no token.
use Rattle.std.proofs.Common.{◌≡◌, ℕ, Bool, true, false, cond, ◌&&◌, List, [], ◌∷◌, ◌++◌, refl, sym, ap, ap₂, ◌∙◌, append_assoc}
use Rattle.json.specs.Token.{Token, begin_object, end_object, begin_array, end_array, key, string, number, boolean, null, bad}
use Rattle.json.specs.Word.{ends_word, word}
use Rattle.json.specs.Lex.{Lexeme, token, comma, colon, string_token, lex, between, punctuate, fresh, tokens}
use Rattle.json.specs.Print.{escape, quoted, token_text, begins, ends, print_from, print, IsPrintable, ArePrintable}
use Rattle.json.proofs.Printed.Strings.{content-escape, lex-escape}
use Rattle.json.proofs.Printed.Numbers.{lex-number, in_word-ended}

abbrev lexemes_of : Token → List Lexeme
lexemes_of begin_object = token begin_object ∷ []
lexemes_of end_object = token end_object ∷ []
lexemes_of begin_array = token begin_array ∷ []
lexemes_of end_array = token end_array ∷ []
lexemes_of (key s) = token (string s) ∷ colon ∷ []
lexemes_of (string s) = token (string s) ∷ []
lexemes_of (number s) = token (number s) ∷ []
lexemes_of (boolean b) = token (boolean b) ∷ []
lexemes_of null = token null ∷ []
lexemes_of bad = []

quoted_lexes : (s r : List ℕ) → lex between (quoted s ++ r) ≡ token (string s) ∷ lex between r
unfolding lex
quoted_lexes s r =
    let e = append_assoc (escape s) (34 ∷ []) r in
    ap (λ l. lex between (34 ∷ l)) e ∙ ap₂ (λ o l. token (string_token o) ∷ l) (content-escape s r) (lex-escape s r)

token_lexes : (t : Token) (r : List ℕ) → IsPrintable t → (ends t ≡ true → ends_word r ≡ true) → lex between (token_text t ++ r) ≡ lexemes_of t ++ lex between r
unfolding lex word
token_lexes begin_object r h ended = refl
token_lexes end_object r h ended = refl
token_lexes begin_array r h ended = refl
token_lexes end_array r h ended = refl
token_lexes (key s) r h ended = ap (lex between) (append_assoc (quoted s) (58 ∷ []) r) ∙ quoted_lexes s (58 ∷ r)
token_lexes (string s) r h ended = quoted_lexes s r
token_lexes (number s) r h ended = lex-number s r h (ended refl)
token_lexes (boolean true) r h ended = ap₂ (λ b l. token (cond b (boolean true) bad) ∷ l) (ended refl) (in_word-ended r (ended refl))
token_lexes (boolean false) r h ended = ap₂ (λ b l. token (cond b (boolean false) bad) ∷ l) (ended refl) (in_word-ended r (ended refl))
token_lexes null r h ended = ap₂ (λ b l. token (cond b null bad) ∷ l) (ended refl) (in_word-ended r (ended refl))
token_lexes bad r h ended = absurd h

comma_lexes : (b : Bool) (r s : List ℕ) → lex between r ≡ lex between s → lex between (cond b (44 ∷ []) [] ++ r) ≡ lex between (cond b (44 ∷ []) [] ++ s)
unfolding lex
comma_lexes true r s same = ap (λ l. comma ∷ l) same
comma_lexes false r s same = same

-- Behind a value a word ends, with the line feed and without.
value_ends : (ts : List Token) → ends_word (print_from true ts) ≡ true
unfolding print_from
value_ends [] = refl
value_ends (begin_object ∷ ts) = refl
value_ends (end_object ∷ ts) = refl
value_ends (begin_array ∷ ts) = refl
value_ends (end_array ∷ ts) = refl
value_ends (key s ∷ ts) = refl
value_ends (string s ∷ ts) = refl
value_ends (number s ∷ ts) = refl
value_ends (boolean b ∷ ts) = refl
value_ends (null ∷ ts) = refl
value_ends (bad ∷ ts) = refl

value_ends_fed : (ts : List Token) → ends_word (print_from true ts ++ 10 ∷ []) ≡ true
unfolding print_from
value_ends_fed [] = refl
value_ends_fed (begin_object ∷ ts) = refl
value_ends_fed (end_object ∷ ts) = refl
value_ends_fed (begin_array ∷ ts) = refl
value_ends_fed (end_array ∷ ts) = refl
value_ends_fed (key s ∷ ts) = refl
value_ends_fed (string s ∷ ts) = refl
value_ends_fed (number s ∷ ts) = refl
value_ends_fed (boolean b ∷ ts) = refl
value_ends_fed (null ∷ ts) = refl
value_ends_fed (bad ∷ ts) = refl

fed : (c : Bool) (ts : List Token) → ArePrintable ts → lex between (print_from c ts ++ 10 ∷ []) ≡ lex between (print_from c ts)
unfolding lex print_from ArePrintable
fed c [] h = refl
fed c (t ∷ ts) h =
    let rest = print_from (ends t) ts in
    let comma_text = cond (c && begins t) (44 ∷ []) [] in
    ap (lex between) (append_assoc comma_text (token_text t ++ rest) (10 ∷ []) ∙ ap (λ l. comma_text ++ l) (append_assoc (token_text t) rest (10 ∷ [])))
    ∙ comma_lexes (c && begins t) (token_text t ++ (rest ++ 10 ∷ [])) (token_text t ++ rest)
    (token_lexes t (rest ++ 10 ∷ []) h.0 (λ e. ap (λ b. ends_word (print_from b ts ++ 10 ∷ [])) e ∙ value_ends_fed ts)
    ∙ ap (λ l. lexemes_of t ++ l) (fed (ends t) ts h.1)
    ∙ sym (token_lexes t rest h.0 (λ e. ap (λ b. ends_word (print_from b ts)) e ∙ value_ends ts)))

pub tokens_with_line_feed : (ts : List Token) → ArePrintable ts → tokens (print ts ++ 10 ∷ []) ≡ tokens (print ts)
tokens_with_line_feed ts printable = ap (punctuate fresh) (fed false ts printable)
