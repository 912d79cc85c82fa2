-- The codes from 12 on, each by the symbols alone. Everywhere back are the symbols before, the nearest first, t is the symbol at
-- which the code may hold, and ts are the symbols after it.
use Rattle.std.specs.Prelude.{◌≡◌, ℕ, nat_le, Bool, true, false, not, ◌||◌, cond, List, [], ◌∷◌, ◌++◌, length, drop}
use Rattle.std.specs.List.{list_any}
use Rattle.std.specs.Str.{bytes_eq}
use Rattle.rcv_syntax.specs.declared.sign.Sign.TheVariants.{Global, Protocol, Left, Role, From, To, Choice, At, Or, Rec, Continue, Par, And, Do, Open, Close, Comma, Semicolon}
use Rattle.rcv_syntax.specs.declared.fault.Fault.{Fault}
use Rattle.rcv_syntax.specs.declared.fault.Fault.TheVariants.{Token, Deep, NoName, Twice, SelfMessage, AfterContinue, Unguarded, TooMany, NotYet, Shared}
use Rattle.rcv_syntax.specs.Symbols.{Symbol, Is, Word, Text}

abbrev pub code_of : Fault → ℕ
code_of Token = 11
code_of Deep = 12
code_of NoName = 13
code_of Twice = 14
code_of SelfMessage = 15
code_of AfterContinue = 16
code_of Unguarded = 17
code_of TooMany = 18
code_of NotYet = 19
code_of Shared = 29

-- the name is one of these
abbrev pub is_among : List ℕ → List (List ℕ) → Bool
is_among name names = list_any (λ other. bytes_eq name other) names

-- ---- what stands where

-- What a name stands as: a protocol or a role that it declares, an alias, a role that sends or chooses, one that receives, the
-- protocol of a call, an argument of a call, the name of a continue, or something else.
pub data Standing : Type 0 where
  AsNewProtocol : Standing
  AsNewRole : Standing
  AsAlias : Standing
  AsActor : Standing
  AsReceiver : Standing
  AsCalled : Standing
  AsArgument : Standing
  AsTarget : Standing
  AsOther : Standing

-- after a comma, if a name before it stands so
abbrev pub goes_on : Standing → Standing
goes_on AsReceiver = AsReceiver
goes_on AsArgument = AsArgument
goes_on _ = AsOther

-- after a parenthesis, if the name before it stands so
abbrev pub goes_in : Standing → Standing
goes_in AsCalled = AsArgument
goes_in _ = AsOther

-- What a name stands as after these symbols. The word after a text is `as`.
abbrev pub standing : List Symbol → Standing
standing (Is Protocol ∷ back) = AsNewProtocol
standing (Is Role ∷ back) = AsNewRole
standing (Word w ∷ Text q ∷ back) = AsAlias
standing (Is From ∷ back) = AsActor
standing (Is At ∷ back) = AsActor
standing (Is To ∷ back) = AsReceiver
standing (Is Comma ∷ Word r ∷ back) = goes_on (standing back)
standing (Is Do ∷ back) = AsCalled
standing (Is Left ∷ Word p ∷ back) = goes_in (standing back)
standing (Is Continue ∷ back) = AsTarget
standing _ = AsOther

abbrev pub is_so : Standing → Standing → Bool
is_so AsNewProtocol AsNewProtocol = true
is_so AsNewRole AsNewRole = true
is_so AsAlias AsAlias = true
is_so AsReceiver AsReceiver = true
is_so _ _ = false

-- The names that stand so, in their order.
abbrev pub names_as : Standing → List Symbol → List (List ℕ)
names_as s [] = []
names_as s (Word n ∷ back) = cond (is_so s (standing back)) (names_as s back ++ n ∷ []) (names_as s back)
names_as s (_ ∷ back) = names_as s back

-- The same since the last word global: those of this protocol.
abbrev pub names_here : Standing → List Symbol → List (List ℕ)
names_here s [] = []
names_here s (Is Global ∷ back) = []
names_here s (Word n ∷ back) = cond (is_so s (standing back)) (names_here s back ++ n ∷ []) (names_here s back)
names_here s (_ ∷ back) = names_here s back

abbrev pub protocols_before : List Symbol → List (List ℕ)
protocols_before back = names_as AsNewProtocol back

abbrev pub aliases_before : List Symbol → List (List ℕ)
aliases_before back = names_as AsAlias back

abbrev pub roles_before : List Symbol → List (List ℕ)
roles_before back = names_here AsNewRole back

-- each receiver makes a point
abbrev pub points_before : List Symbol → ℕ
points_before back = length (names_here AsReceiver back)

-- the receivers or the arguments of this list so far
abbrev pub listed : List Symbol → List (List ℕ)
listed (Is Comma ∷ Word r ∷ back) = listed back ++ r ∷ []
listed _ = []

-- the name after the `from` of this list
abbrev pub sender : List Symbol → List ℕ
sender (Is Comma ∷ Word r ∷ back) = sender back
sender (Is To ∷ Word s ∷ back) = s
sender _ = []

-- What stands before each `{` that is open, the innermost first.
abbrev pub open_braces : List Symbol → List (List Symbol)
open_braces [] = []
open_braces (Is Open ∷ back) = back ∷ open_braces back
open_braces (Is Close ∷ back) = drop 1 (open_braces back)
open_braces (_ ∷ back) = open_braces back

-- the names of the recursions among them, the innermost last
abbrev pub recs_of : List (List Symbol) → List (List ℕ)
recs_of [] = []
recs_of ((Word x ∷ Is Rec ∷ back) ∷ braces) = recs_of braces ++ x ∷ []
recs_of (_ ∷ braces) = recs_of braces

-- A walk comes from the `{` of an enclosing `rec x` to here without a message and without a call: only openings and the finished
-- branches of open choices stand between.
pub data Comes : List ℕ → List Symbol → Type 0 where
  FromItsStart : (x : List ℕ) (back : List Symbol) → Comes x (Is Open ∷ Word x ∷ Is Rec ∷ back)
  IntoRec : (x y : List ℕ) (back : List Symbol) → Comes x back → Comes x (Is Open ∷ Word y ∷ Is Rec ∷ back)
  IntoChoice : (x a : List ℕ) (back : List Symbol) → Comes x back → Comes x (Is Open ∷ Word a ∷ Is At ∷ Is Choice ∷ back)
  IntoBranch : (x : List ℕ) (back first : List Symbol) (braces : List (List Symbol)) → open_braces back ≡ first ∷ braces
      → Comes x (Is Open ∷ first)
      → Comes x (Is Open ∷ Is Or ∷ Is Close ∷ back)

-- ---- a role in another block of a par

-- as a role that sends, chooses or receives, or as an argument
abbrev pub is_role : Standing → Bool
is_role AsActor = true
is_role AsReceiver = true
is_role AsArgument = true
is_role _ = false

-- The roles that are named since the last word par with no more open blocks before it than so many, the nearest first: those of
-- this protocol.
abbrev pub named_since_par : ℕ → List Symbol → List (List ℕ)
named_since_par depth [] = []
named_since_par depth (Is Global ∷ back) = []
named_since_par depth (Is Par ∷ back) = cond (nat_le (length (open_braces back)) depth) [] (named_since_par depth back)
named_since_par depth (Word n ∷ back) =
    cond (is_role (standing back)) (n ∷ named_since_par depth back) (named_since_par depth back)
named_since_par depth (_ ∷ back) = named_since_par depth back

-- What stands before each `{` that is open is given. One of them begins a block of a par, after the word and, and the role is
-- named in a block of the same par before it: between this par's word and this `{`. The par's own word is the last one with no
-- more open blocks before it than the `{` has, since a par within one of its blocks has that one open.
abbrev pub is_beside : List ℕ → List (List Symbol) → Bool
is_beside n [] = false
is_beside n ((Is And ∷ back) ∷ braces) = is_among n (named_since_par (length braces) back) || is_beside n braces
is_beside n (_ ∷ braces) = is_beside n braces

-- ---- the table

-- The codes at a name, by what it stands as.
abbrev pub is_at_name : Fault → Standing → List Symbol → List ℕ → Bool
-- 13: a role or an argument that this protocol doesn't declare, or the name of a continue with no enclosing rec of that name
is_at_name NoName AsActor back n = not (is_among n (roles_before back))
is_at_name NoName AsReceiver back n = not (is_among n (roles_before back))
is_at_name NoName AsArgument back n = not (is_among n (roles_before back))
is_at_name NoName AsTarget back n = not (is_among n (recs_of (open_braces back)))
-- 14: a protocol, a role of this one or an alias that is declared before, a receiver or an argument that stands before in the
-- same list
is_at_name Twice AsNewProtocol back n = is_among n (protocols_before back)
is_at_name Twice AsNewRole back n = is_among n (roles_before back)
is_at_name Twice AsAlias back n = is_among n (aliases_before back)
is_at_name Twice AsReceiver back n = is_among n (listed back)
is_at_name Twice AsArgument back n = is_among n (listed back)
-- 15: a receiver that is the sender
is_at_name SelfMessage AsReceiver back n = bytes_eq n (sender back)
-- 18: the name of the 65th protocol, that of the ninth role of one, or the receiver that makes its 257th point
is_at_name TooMany AsNewProtocol back n = nat_le 64 (length (protocols_before back))
is_at_name TooMany AsNewRole back n = nat_le 8 (length (roles_before back))
is_at_name TooMany AsReceiver back n = nat_le 256 (points_before back)
-- 29: a role in a block of a par that is named in an earlier block of this par
is_at_name Shared AsActor back n = is_beside n (open_braces back)
is_at_name Shared AsReceiver back n = is_beside n (open_braces back)
is_at_name Shared AsArgument back n = is_beside n (open_braces back)
is_at_name _ _ back n = false

abbrev pub is_behind_continue : List Symbol → Bool
is_behind_continue (Is Semicolon ∷ Word x ∷ Is Continue ∷ back) = true
is_behind_continue _ = false

abbrev pub begins_a_statement : Symbol → Bool
begins_a_statement (Word n) = true
begins_a_statement (Is Choice) = true
begins_a_statement (Is Rec) = true
begins_a_statement (Is Continue) = true
begins_a_statement (Is Par) = true
begins_a_statement (Is Do) = true
begins_a_statement _ = false

-- The codes that hold at a symbol, whatever stands after it.
abbrev pub is_at : Fault → List Symbol → Symbol → Bool
-- 12: a { that begins the 33rd nested block
is_at Deep back (Is Open) = nat_le 32 (length (open_braces back))
-- 16: the first symbol of a statement after a continue in the same block
is_at AfterContinue back t = cond (begins_a_statement t) (is_behind_continue back) false
-- 19: the word par if a block is open in the protocol's own, or if it stands in another protocol than the first
is_at NotYet back (Is Par) = nat_le 2 (length (open_braces back)) || nat_le 2 (length (protocols_before back))
-- 13, 14, 15, 18 and 29
is_at f back (Word n) = is_at_name f (standing back) back n
is_at f back _ = false

-- 17: the word continue if a walk comes from the start of the body of its rec to it without a message and without a call
abbrev pub IsUnguarded : List Symbol → Symbol → List Symbol → Type 0
IsUnguarded back (Is Continue) (Word x ∷ ts) = Comes x back
IsUnguarded back _ _ = ⊥

-- The code holds at t. (Code 11 is that of the grammar.)
abbrev pub Holds : Fault → List Symbol → Symbol → List Symbol → Type 0
Holds Token back t ts = ⊥
Holds Unguarded back t ts = IsUnguarded back t ts
Holds f back t ts = is_at f back t ≡ true
