-- Pieces of texts, for worked cases.
use Rattle.std.proofs.Common.{ℕ, zero, suc, codes, List, [], ◌∷◌}
use Rattle.rcv_syntax.specs.declared.sign.Sign.TheVariants.{Module, Global, Protocol, Role, From, To, Rec, Continue, Par, And, Do, Open, Close, Left, Right, Comma, Semicolon, Less, Greater}
use Rattle.rcv_syntax.specs.Symbols.{Symbol, Is, Word, Text}
use Rattle.rcv_syntax.specs.Grammar.{roles_behind}

-- names
abbrev pub a : Symbol
a = Word (codes "A")

abbrev pub b : Symbol
b = Word (codes "B")

abbrev pub c : Symbol
c = Word (codes "C")

abbrev pub x : Symbol
x = Word (codes "X")

abbrev pub y : Symbol
y = Word (codes "Y")

abbrev pub both : List (List ℕ)
both = codes "A" ∷ codes "B" ∷ []

-- module X; global protocol Y(role A, role B
abbrev pub heading : List Symbol → List Symbol
heading next = Is Module ∷ x ∷ Is Semicolon ∷ Is Global ∷ Is Protocol ∷ y ∷ Is Left ∷ Is Role ∷ a ∷ Is Comma ∷ Is Role ∷ b ∷ next

-- module X; global protocol Y(role A, role B) {
abbrev pub text : List Symbol → List Symbol
text next = heading (Is Right ∷ Is Open ∷ next)

-- module X; global protocol Y(role A, role B, role C, role D) {
abbrev pub text_of_four : List Symbol → List Symbol
text_of_four next = heading (roles_behind (codes "C" ∷ codes "D" ∷ []) (Is Right ∷ Is Open ∷ next))

-- X() from
abbrev pub begins : List Symbol → List Symbol
begins next = x ∷ Is Left ∷ Is Right ∷ Is From ∷ next

-- X() from A to
abbrev pub sends : List Symbol → List Symbol
sends next = begins (a ∷ Is To ∷ next)

-- X() from A to B;
abbrev pub message : List Symbol → List Symbol
message next = sends (b ∷ Is Semicolon ∷ next)

-- X() from C to D;
abbrev pub of_others : List Symbol → List Symbol
of_others next = begins (c ∷ Is To ∷ Word (codes "D") ∷ Is Semicolon ∷ next)

-- par { and, behind a block of it, } and {
abbrev pub in_par : List Symbol → List Symbol
in_par next = Is Par ∷ Is Open ∷ next

abbrev pub beside : List Symbol → List Symbol
beside next = Is Close ∷ Is And ∷ Is Open ∷ next

-- do X( and do X(A);
abbrev pub calls : List Symbol → List Symbol
calls next = Is Do ∷ x ∷ Is Left ∷ next

abbrev pub call : List Symbol → List Symbol
call next = calls (a ∷ Is Right ∷ Is Semicolon ∷ next)

-- } global protocol X(role B) {
abbrev pub second : List Symbol → List Symbol
second next = Is Close ∷ Is Global ∷ Is Protocol ∷ x ∷ Is Left ∷ Is Role ∷ b ∷ Is Right ∷ Is Open ∷ next

-- rec X { and continue X;
abbrev pub rec_x : List Symbol → List Symbol
rec_x next = Is Rec ∷ x ∷ Is Open ∷ next

abbrev pub again_x : List Symbol → List Symbol
again_x next = Is Continue ∷ x ∷ Is Semicolon ∷ next

-- n recursions, one in another
abbrev pub nested : ℕ → List Symbol → List Symbol
nested zero next = next
nested (suc n) next = rec_x (nested n next)

-- type <X> "" from "" as A;
abbrev pub alias_a : List Symbol → List Symbol
alias_a next = Word (codes "type") ∷ Is Less ∷ x ∷ Is Greater ∷ Text [] ∷ Is From ∷ Text [] ∷ Word (codes "as") ∷ a ∷ Is Semicolon ∷ next

-- the roles A, B and C to H
abbrev pub more_roles : List (List ℕ)
more_roles = codes "C" ∷ codes "D" ∷ codes "E" ∷ codes "F" ∷ codes "G" ∷ codes "H" ∷ []

-- module X; global protocol Y(role A, role B, role .., role
abbrev pub with_roles : List (List ℕ) → List Symbol → List Symbol
with_roles names next = heading (roles_behind names (Is Comma ∷ Is Role ∷ next))
