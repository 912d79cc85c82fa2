-- Scripts that were read have numbers of 63 bits, and first values of 64 bits with their signs.
use Rattle.std.proofs.Common.{◌≡◌, ◌<◌, ◌≤◌, ◌^◌, ℕ, zero, suc, Bool, true, false, List, [], ◌∷◌, All, FitsSigned, refl, sym, subst, inl, inr, arith, codes, w64}
use Rattle.std.specs.Prelude.{nat_le, if◌then◌else◌, slice_range, slice_set}
use Rattle.std.specs.Str.{bytes_eq}
use Rattle.std.proofs.lemmas.Bool.Decides.{nat_tests}
use Rattle.std.proofs.lemmas.List.Elements.{All-nil, All-cons, All-head, All-tail, All-push, All-set}
use Rattle.rcv_lexer.specs.declared.token.Kind.{Kind}
use Rattle.rcv_lexer.specs.declared.token.Kind.TheVariants as kinds
use Rattle.rcv_lexer.specs.declared.token.Token.{Token}
use Rattle.rcv_model.specs.Script.{Expr, TheValue, TheAttempt, Variable, Plus, Minus, Times, Line}
use Rattle.rcv_points.specs.Follow.{PointView}
use Rattle.rcv_lexer.specs.Symbols.{number_of, symbol_of}
use Rattle.rcv_script.specs.declared.sign.Sign.TheVariants as signs
use Rattle.rcv_script.specs.Symbols.{Symbol, Is, Word, Number, Text, greatest, number_or_foreign, symbol_by, symbols_of}
use Rattle.rcv_script.specs.Labels.{place_in}
use Rattle.rcv_script.specs.Grammar.{WrittenAtom, Digits, Named, Signed, Inside, MoreAtoms, NoAtom, TimesAtom, MoreProducts, NoProduct, PlusProduct, MinusProduct, WrittenSum, SumOf, WrittenLine, VarText, SendText, PickText, WhenText, OnText, WrittenScript, atom_text, atoms_text, products_text, sum_text, test_mark, number_text, line_text, lines_text, scripts_text}
use Rattle.rcv_script.specs.Meaning.{word_says, atom_says, product_says, terms_say, sum_says, signed_number, line_says, names_behind, lines_say, scripts_say, no_lines}
use Rattle.rcv_script.specs.Refusals.{AreRead}
use Rattle.rcv_lines.specs.SmallScripts.{IsSmallExpr, IsSmallLine}

-- ---- symbols of tokens

-- its number, if it has one, is below 2 ^ 63
abbrev IsSmall : Symbol → Type 0
IsSmall (Is sign) = Unit {0}
IsSmall (Word bytes) = Unit {0}
IsSmall (Number n) = n < 2 ^ 63
IsSmall (Text bytes) = Unit {0}

number_small : (n : ℕ) → IsSmall (number_or_foreign n)
number_small n = go (nat_le n greatest) refl
  where
    go : (b : Bool) → nat_le n greatest ≡ b → IsSmall (if b then Number n else Is signs.Foreign)
    go true is = let le : n ≤ greatest = grind (arith, nat_tests) in omega (arith, le)
    go false is = tt

symbol_small : (kind : Kind) (bytes : List ℕ) → IsSmall (symbol_by kind bytes)
symbol_small kinds.Word bytes = tt
symbol_small kinds.Number bytes = number_small (number_of bytes)
symbol_small kinds.Text bytes = tt
symbol_small kinds.Mark bytes = tt

symbols_small : (bundle : List ℕ) (tokens : List Token) → All IsSmall (symbols_of bundle tokens)
symbols_small bundle [] = All-nil IsSmall
symbols_small bundle (t ∷ ts) =
    All-cons IsSmall (symbol_of symbol_by bundle t) (symbols_of bundle ts) (symbol_small t.kind (slice_range bundle t.span.start t.span.end)) (symbols_small bundle ts)

-- ---- expressions

word_small : (names : List (List ℕ)) (w : List ℕ) → IsSmallExpr (word_says names w)
word_small names w = go (bytes_eq w (codes "value")) (bytes_eq w (codes "attempt"))
  where
    go : (v a : Bool) → IsSmallExpr (if v then TheValue else (if a then TheAttempt else Variable (place_in names w)))
    go true a = tt
    go false true = tt
    go false false = tt

mutual
  atom_small : (names : List (List ℕ)) (a : WrittenAtom) (next : List Symbol) → All IsSmall (atom_text a next) → IsSmallExpr (atom_says names a) × All IsSmall next
  atom_small names (Digits n) next all = (All-head IsSmall (Number n) next all, All-tail IsSmall (Number n) next all)
  atom_small names (Named w) next all = (word_small names w, All-tail IsSmall (Word w) next all)
  atom_small names (Signed a) next all = atom_small names a next (All-tail IsSmall (Is signs.Minus) (atom_text a next) all)
  atom_small names (Inside s) next all =
      let r = sum_small names s (Is signs.Right ∷ next) (All-tail IsSmall (Is signs.Left) (sum_text s (Is signs.Right ∷ next)) all) in
      (r.0, All-tail IsSmall (Is signs.Right) next r.1)

  product_small : (names : List (List ℕ)) (left : Expr) (more : MoreAtoms) (next : List Symbol) → All IsSmall (atoms_text more next) → IsSmallExpr left → IsSmallExpr (product_says names left more) × All IsSmall next
  product_small names left NoAtom next all small = (small, all)
  product_small names left (TimesAtom a more) next all small =
      let r = atom_small names a (atoms_text more next) (All-tail IsSmall (Is signs.Times) (atom_text a (atoms_text more next)) all) in
      product_small names (Times left (atom_says names a)) more next r.1 (small, r.0)

  terms_small : (names : List (List ℕ)) (left : Expr) (more : MoreProducts) (next : List Symbol) → All IsSmall (products_text more next) → IsSmallExpr left → IsSmallExpr (terms_say names left more) × All IsSmall next
  terms_small names left NoProduct next all small = (small, all)
  terms_small names left (PlusProduct a atoms more) next all small =
      let first = atom_small names a (atoms_text atoms (products_text more next)) (All-tail IsSmall (Is signs.Plus) (atom_text a (atoms_text atoms (products_text more next))) all) in
      let r = product_small names (atom_says names a) atoms (products_text more next) first.1 first.0 in
      terms_small names (Plus left (product_says names (atom_says names a) atoms)) more next r.1 (small, r.0)
  terms_small names left (MinusProduct a atoms more) next all small =
      let first = atom_small names a (atoms_text atoms (products_text more next)) (All-tail IsSmall (Is signs.Minus) (atom_text a (atoms_text atoms (products_text more next))) all) in
      let r = product_small names (atom_says names a) atoms (products_text more next) first.1 first.0 in
      terms_small names (Minus left (product_says names (atom_says names a) atoms)) more next r.1 (small, r.0)

  sum_small : (names : List (List ℕ)) (s : WrittenSum) (next : List Symbol) → All IsSmall (sum_text s next) → IsSmallExpr (sum_says names s) × All IsSmall next
  sum_small names (SumOf a atoms more) next all =
      let first = atom_small names a (atoms_text atoms (products_text more next)) all in
      let r = product_small names (atom_says names a) atoms (products_text more next) first.1 first.0 in
      terms_small names (product_says names (atom_says names a) atoms) more next r.1 r.0

-- ---- lines

first_small : (below : Bool) (n : ℕ) (next : List Symbol) → All IsSmall (number_text below n next) → FitsSigned w64 (signed_number below n) × All IsSmall next
first_small false n next all =
    let small = All-head IsSmall (Number n) next all in
    (record { sfits = small }, All-tail IsSmall (Number n) next all)
first_small true zero next all =
    let others = All-tail IsSmall (Is signs.Minus) (Number zero ∷ next) all in
    (record { sfits = omega arith }, All-tail IsSmall (Number zero) next others)
first_small true (suc n) next all =
    let others = All-tail IsSmall (Is signs.Minus) (Number (suc n) ∷ next) all in
    let small = All-head IsSmall (Number (suc n)) next others in
    (record { sfits = omega (arith, small) }, All-tail IsSmall (Number (suc n)) next others)

-- behind two and behind three symbols
behind_two : (a b : Symbol) (next : List Symbol) → All IsSmall (a ∷ b ∷ next) → All IsSmall next
behind_two a b next all = All-tail IsSmall b next (All-tail IsSmall a (b ∷ next) all)

behind_three : (a b c : Symbol) (next : List Symbol) → All IsSmall (a ∷ b ∷ c ∷ next) → All IsSmall next
behind_three a b c next all = All-tail IsSmall c next (behind_two a b (c ∷ next) all)

line_small : (names : List (List ℕ)) (w : WrittenLine) (next : List Symbol) → All IsSmall (line_text w next) → IsSmallLine (line_says names w) × All IsSmall next
line_small names (VarText name below n) next all =
    let r = first_small below n (Is signs.Semicolon ∷ next) (behind_three _ _ _ _ all) in
    (r.0, All-tail IsSmall (Is signs.Semicolon) next r.1)
line_small names (SendText label t) next all =
    let r = sum_small names t (Is signs.Semicolon ∷ next) (behind_three _ _ _ _ all) in
    (r.0, All-tail IsSmall (Is signs.Semicolon) next r.1)
line_small names (PickText label) next all = (tt, behind_three _ _ _ _ all)
line_small names (WhenText label left test right) next all =
    let l = sum_small names left (Is (test_mark test) ∷ sum_text right (Is signs.Semicolon ∷ next)) (behind_three _ _ _ _ all) in
    let r = sum_small names right (Is signs.Semicolon ∷ next) (All-tail IsSmall (Is (test_mark test)) (sum_text right (Is signs.Semicolon ∷ next)) l.1) in
    (tt, All-tail IsSmall (Is signs.Semicolon) next r.1)
line_small names (OnText label name t) next all =
    let expr = sum_text t (Is signs.Semicolon ∷ next) in
    let set = behind_three (Word (codes "on")) (Word label) (Word (codes "set")) (Word name ∷ Is signs.Equals ∷ expr) all in
    let r = sum_small names t (Is signs.Semicolon ∷ next) (behind_two (Word name) (Is signs.Equals) expr set) in
    (r.0, All-tail IsSmall (Is signs.Semicolon) next r.1)

lines_small : (names : List (List ℕ)) (ws : List WrittenLine) (next : List Symbol) → All IsSmall (lines_text ws next) → All IsSmallLine (lines_say names ws) × All IsSmall next
lines_small names [] next all = (All-nil IsSmallLine, All-tail IsSmall (Is signs.Close) next all)
lines_small names (w ∷ ws) next all =
    let r = line_small names w (lines_text ws next) all in
    let others = lines_small (names_behind names w) ws next r.1 in
    (All-cons IsSmallLine (line_says names w) (lines_say (names_behind names w) ws) r.0 others.0, others.1)

-- ---- scripts

scripts_small : (roles : List (List ℕ)) (before : List (List Line)) (ws : List WrittenScript) → All IsSmall (scripts_text ws) → All (All IsSmallLine) before → All (All IsSmallLine) (scripts_say roles before ws)
scripts_small roles before [] all small = small
scripts_small roles before (w ∷ ws) all small =
    let r = lines_small [] w.lines (scripts_text ws) (behind_three _ _ _ _ all) in
    let role = place_in roles w.role in
    scripts_small roles (slice_set before role (lines_say [] w.lines)) ws r.1 (All-set (All IsSmallLine) before role (lines_say [] w.lines) r.0 small)

none_small : (roles : List (List ℕ)) → All (All IsSmallLine) (no_lines roles)
none_small [] = All-nil (All IsSmallLine)
none_small (name ∷ roles) = All-cons (All IsSmallLine) [] (no_lines roles) (All-nil IsSmallLine) (none_small roles)

pub scripts_are_small : (roles : List (List ℕ)) (messages : List PointView) (bundle : List ℕ) (tokens : List Token) (ss : List (List Line)) → AreRead roles messages (symbols_of bundle tokens) ss → All (All IsSmallLine) ss
scripts_are_small roles messages bundle tokens ss read =
    let small = subst (All IsSmall) read.derived (symbols_small bundle tokens) in
    subst (All (All IsSmallLine)) (sym read.said) (scripts_small roles (no_lines roles) read.written small (none_small roles))
