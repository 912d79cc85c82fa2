-- Reading one symbol after another, with a stack of what is awaited. Each item that needs it knows its place in the text.
use Rattle.std.specs.Prelude.{ℕ, ◌+◌, ◌-◌, ◌==◌, nat_le, Bool, true, false, not, ◌||◌, cond, codes, List, [], ◌∷◌, ◌++◌, length, drop, Option, Some, None}
use Rattle.std.specs.Str.{bytes_eq}
use Rattle.rcv_tree.specs.Names.{place_of}
use Rattle.rcv_syntax.specs.declared.sign.Sign.{Sign}
use Rattle.rcv_syntax.specs.contracts.sign.Sign.{the_type}
use denote.Enum.Bare.{sameb}
use Rattle.rcv_syntax.specs.declared.sign.Sign.TheVariants.{Module, Global, Protocol, Role, From, To, Choice, At, Or, Rec, Continue, Par, And, Do, Open, Close, Left, Right, Comma, Semicolon, Dot, Less, Greater}
use Rattle.rcv_syntax.specs.declared.fault.Fault.{Fault}
use Rattle.rcv_syntax.specs.declared.fault.Fault.TheVariants.{Token, Deep, NoName, Twice, SelfMessage, AfterContinue, Unguarded, TooMany, NotYet, Shared}
use Rattle.rcv_syntax.specs.Symbols.{Symbol, Is, Word, Text, Number}
use Rattle.rcv_syntax.specs.Grammar.{is_decl_word}
use Rattle.rcv_syntax.specs.Codes.{is_among}
use Rattle.rcv_syntax.specs.Trees.{is_listed}

-- A set of roles, by their names: what it says of each name.
abbrev pub Named : Type 0
Named = List ℕ → Bool

abbrev pub nobody : Named
nobody = λ n. false

abbrev pub with_role : Named → List ℕ → Named
with_role named role = λ n. bytes_eq n role || named n

-- A place in a block.
pub record Place : Type 0 where
  pub depth : ℕ  -- so many blocks are open
  pub recs : List (List ℕ)  -- the names of the enclosing recursions, the innermost last
  pub comes : ℕ  -- so many of the innermost have a walk from the start of their body to here without a message
  pub ended : Bool  -- after a `continue` of this block
  pub earlier : Named  -- the roles of the earlier blocks, in a block of a par

pub data Item : Type 0 where
  This : (symbol : Symbol) → Item
  AnyName : Item
  AnyQuoted : Item
  MoreModules : Item  -- ("." Name)* ";"
  Decls : (aliases : List (List ℕ)) → Item  -- decl* "global"
  Alias : (aliases : List (List ℕ)) → Item  -- Name ";" decl* "global"
  RoleName : Item  -- Name ("," "role" Name)* ")"
  MoreRoles : Item  -- ("," "role" Name)* ")"
  Sorts : Item  -- [Name ("," Name)*] ")"
  MoreSorts : Item  -- ("," Name)* ")"
  Subject : (earlier : Named) → Item  -- Name
  Sender : (earlier : Named) → Item  -- Name "to" Name ("," Name)* ";"
  Receiver : (earlier : Named) (sender : ℕ) (before : List ℕ) → Item  -- Name ("," Name)* ";"
  MoreReceivers : (earlier : Named) (sender : ℕ) (before : List ℕ) → Item  -- ("," Name)* ";"
  RecName : (place : Place) → Item  -- Name block
  AgainName : (place : Place) → Item  -- Name ";"
  Opening : (place : Place) → Item  -- block
  First : (place : Place) → Item  -- stmt+ "}"
  Rest : (place : Place) → Item  -- stmt* "}"
  More : (place : Place) → Item  -- ("or" block)* stmt* "}"
  Lane : (place : Place) → Item  -- block, of a par
  Later : (place : Place) → Item  -- ("and" block)* stmt* "}"
  Argument : (earlier : Named) (before : List ℕ) → Item  -- Name ("," Name)* ")"
  MoreArguments : (earlier : Named) (before : List ℕ) → Item  -- ("," Name)* ")"
  ProtocolName : Item  -- Name "(" "role" Name ("," "role" Name)* ")" "{" stmt* "}" protocol*
  MoreProtocols : Item  -- protocol*, up to the end

-- What is known so far: the names of the protocols; and of this one the roles, the number of points, and which roles are named
-- since its last par began.
pub record State : Type 0 where
  pub protocols : List (List ℕ)
  pub roles : List (List ℕ)
  pub count : ℕ
  pub since : Named

abbrev pub known : List (List ℕ) → List (List ℕ) → ℕ → Named → State
known protocols roles count since = record { protocols = protocols; roles = roles; count = count; since = since }

-- at the word global, with which a protocol begins
abbrev pub anew : State → State
anew s = known s.protocols [] 0 nobody

-- there is a step, or the fault with the least code that holds
pub data Outcome : Type 0 where
  On : (state : State) (items : List Item) → Outcome
  Wrong : (fault : Fault) → Outcome

-- After a statement no walk comes without a message.
abbrev pub after_statement : Place → Bool → Place
after_statement p ended = record { depth = p.depth; recs = p.recs; comes = 0; ended = ended; earlier = p.earlier }

abbrev pub inside : Place → Place
inside p = record { depth = p.depth + 1; recs = p.recs; comes = p.comes; ended = false; earlier = p.earlier }

abbrev pub inside_rec : Place → List ℕ → Place
inside_rec p name = record { depth = p.depth; recs = p.recs ++ name ∷ []; comes = p.comes + 1; ended = false; earlier = p.earlier }

-- where a par stands, for a block of it after those that name these roles
abbrev pub beside : Place → Named → Place
beside p earlier = record { depth = p.depth; recs = p.recs; comes = 0; ended = false; earlier = earlier }

-- the fault if the test holds, else what follows
abbrev pub unless : Bool → Fault → Outcome → Outcome
unless test fault next = cond test (Wrong fault) next

abbrev pub named : Symbol → (List ℕ → Outcome) → Outcome
named (Word n) next = next n
named _ next = Wrong Token

abbrev pub by_place : Option ℕ → (ℕ → Outcome) → Outcome
by_place None next = Wrong NoName
by_place (Some r) next = next r

-- the name of a declared role, with its place
abbrev pub role_named : State → Symbol → (List ℕ → ℕ → Outcome) → Outcome
role_named s t next = named t (λ n. by_place (place_of s.roles n) (next n))

-- a role that sends or chooses, and stands in no earlier block of its par
abbrev pub acts : State → Named → List Item → List ℕ → Outcome
acts s earlier k n = unless (earlier n) Shared (On (record s { since = with_role s.since n }) k)

abbrev pub meets : Symbol → Symbol → Bool
meets (Is a) (Is b) = sameb the_type a b
meets (Word a) (Word b) = bytes_eq a b
meets (Text a) (Text b) = bytes_eq a b
meets (Number a) (Number b) = a == b
meets _ _ = false

-- What is awaited after the symbol, if k is awaited after the item. One sign, or the other with which the item ends.
abbrev pub either : State → Symbol → Sign → List Item → Sign → List Item → Outcome
either s t sign next other k = cond (meets t (Is sign)) (On s next) (cond (meets t (Is other)) (On s k) (Wrong Token))

abbrev pub quoted : Symbol → Outcome → Outcome
quoted (Text q) next = next
quoted _ next = Wrong Token

abbrev pub declares : State → List (List ℕ) → Symbol → List Item → Outcome
declares s aliases (Is Global) k = On (anew s) k
declares s aliases (Word w) k =
    cond (is_decl_word w) (On s (This (Is Less) ∷ AnyName ∷ This (Is Greater) ∷ AnyQuoted ∷ This (Is From) ∷ AnyQuoted
    ∷ This (Word (codes "as")) ∷ Alias aliases ∷ k)) (Wrong Token)
declares s aliases _ k = Wrong Token

abbrev pub sorts : State → Symbol → List Item → Outcome
sorts s (Word n) k = On s (MoreSorts ∷ k)
sorts s (Is Right) k = On s k
sorts s _ k = Wrong Token

-- A receiver makes a point.
abbrev pub receives : State → Named → ℕ → List ℕ → List Item → List ℕ → ℕ → Outcome
receives s earlier sender before k n r =
    unless (is_listed r before) Twice
    (unless (r == sender) SelfMessage
    (unless (nat_le 256 s.count) TooMany
    (unless (earlier n) Shared
    (On (record s { count = s.count + 1; since = with_role s.since n }) (MoreReceivers earlier sender (before ++ r ∷ []) ∷ k)))))

abbrev pub declares_role : State → List Item → List ℕ → Outcome
declares_role s k n =
    unless (is_among n s.roles) Twice
    (unless (nat_le 8 (length s.roles)) TooMany
    (On (record s { roles = s.roles ++ n ∷ [] }) (MoreRoles ∷ k)))

-- An argument of a call, which stands in no earlier block of its par.
abbrev pub argues : State → Named → List ℕ → List Item → List ℕ → ℕ → Outcome
argues s earlier before k n r =
    unless (is_listed r before) Twice
    (unless (earlier n) Shared
    (On (record s { since = with_role s.since n }) (MoreArguments earlier (before ++ r ∷ []) ∷ k)))

abbrev pub opens : State → Place → Symbol → List Item → Outcome
opens s p (Is Open) k = unless (nat_le 32 p.depth) Deep (On s (First (inside p) ∷ k))
opens s p _ k = Wrong Token

-- From the start of the body of the recursion that `continue` names, a walk comes here without a message.
abbrev pub is_open : Place → List Symbol → Bool
is_open p (Word n ∷ ts) = is_among n (drop (length p.recs - p.comes) p.recs)
is_open p _ = false

-- the first symbol of a statement, with the symbols after it
abbrev pub begins : State → Place → Symbol → List Symbol → List Item → Outcome
begins s p (Word n) ts k =
    unless p.ended AfterContinue (On s (This (Is Left) ∷ Sorts ∷ This (Is From) ∷ Sender p.earlier ∷ Rest (after_statement p false) ∷ k))
begins s p (Is Choice) ts k = unless p.ended AfterContinue (On s (This (Is At) ∷ Subject p.earlier ∷ Opening p ∷ More p ∷ k))
begins s p (Is Rec) ts k = unless p.ended AfterContinue (On s (RecName p ∷ Rest (after_statement p false) ∷ k))
begins s p (Is Continue) ts k =
    unless p.ended AfterContinue (unless (is_open p ts) Unguarded (On s (AgainName p ∷ Rest (after_statement p true) ∷ k)))
begins s p (Is Par) ts k =
    unless p.ended AfterContinue (unless (nat_le 2 p.depth || nat_le 2 (length s.protocols)) NotYet
    (On (record s { since = nobody }) (Lane p ∷ This (Is And) ∷ Lane p ∷ Later p ∷ k)))
begins s p (Is Do) ts k =
    unless p.ended AfterContinue (On s (AnyName ∷ This (Is Left) ∷ Argument p.earlier [] ∷ This (Is Semicolon) ∷ Rest (after_statement p false) ∷ k))
begins s p _ ts k = Wrong Token

abbrev pub ends : State → Place → Symbol → List Symbol → List Item → Outcome
ends s p (Is Close) ts k = On s k
ends s p t ts k = begins s p t ts k

abbrev pub branches : State → Place → Symbol → List Symbol → List Item → Outcome
branches s p (Is Or) ts k = On s (Opening p ∷ More p ∷ k)
branches s p t ts k = ends s (after_statement p false) t ts k

abbrev pub later : State → Place → Symbol → List Symbol → List Item → Outcome
later s p (Is And) ts k = On s (Lane p ∷ Later p ∷ k)
later s p t ts k = ends s (after_statement p false) t ts k

-- in the protocol's own block
abbrev pub outermost : Place
outermost = record { depth = 1; recs = []; comes = 0; ended = false; earlier = nobody }

-- the name of a protocol, with what stands after it
abbrev pub declares_protocol : State → List Item → List ℕ → Outcome
declares_protocol s k n =
    unless (is_among n s.protocols) Twice
    (unless (nat_le 64 (length s.protocols)) TooMany
    (On (record s { protocols = s.protocols ++ n ∷ [] })
    (This (Is Left) ∷ This (Is Role) ∷ RoleName ∷ This (Is Open) ∷ Rest outermost ∷ MoreProtocols ∷ k)))

abbrev pub follows : State → Symbol → List Item → Outcome
follows s (Is Global) k = On (anew s) (This (Is Protocol) ∷ ProtocolName ∷ k)
follows s _ k = Wrong Token

abbrev pub step : State → Symbol → List Symbol → List Item → Outcome
step s t ts [] = Wrong Token
step s t ts (This m ∷ k) = cond (meets t m) (On s k) (Wrong Token)
step s t ts (AnyName ∷ k) = named t (λ n. On s k)
step s t ts (AnyQuoted ∷ k) = quoted t (On s k)
step s t ts (MoreModules ∷ k) = either s t Dot (AnyName ∷ MoreModules ∷ k) Semicolon k
step s t ts (Decls aliases ∷ k) = declares s aliases t k
step s t ts (Alias aliases ∷ k) = named t (λ n. unless (is_among n aliases) Twice
    (On s (This (Is Semicolon) ∷ Decls (aliases ++ n ∷ []) ∷ k)))
step s t ts (RoleName ∷ k) = named t (declares_role s k)
step s t ts (MoreRoles ∷ k) = either s t Comma (This (Is Role) ∷ RoleName ∷ k) Right k
step s t ts (Sorts ∷ k) = sorts s t k
step s t ts (MoreSorts ∷ k) = either s t Comma (AnyName ∷ MoreSorts ∷ k) Right k
step s t ts (Subject earlier ∷ k) = role_named s t (λ n r. acts s earlier k n)
step s t ts (Sender earlier ∷ k) = role_named s t (λ n r. acts s earlier (This (Is To) ∷ Receiver earlier r [] ∷ k) n)
step s t ts (Receiver earlier sender before ∷ k) = role_named s t (receives s earlier sender before k)
step s t ts (MoreReceivers earlier sender before ∷ k) = either s t Comma (Receiver earlier sender before ∷ k) Semicolon k
step s t ts (RecName p ∷ k) = named t (λ n. On s (Opening (inside_rec p n) ∷ k))
step s t ts (AgainName p ∷ k) = named t (λ n. unless (not (is_among n p.recs)) NoName (On s (This (Is Semicolon) ∷ k)))
step s t ts (Opening p ∷ k) = opens s p t k
step s t ts (First p ∷ k) = begins s p t ts k
step s t ts (Rest p ∷ k) = ends s p t ts k
step s t ts (More p ∷ k) = branches s p t ts k
step s t ts (Lane p ∷ k) = opens s (beside p s.since) t k
step s t ts (Later p ∷ k) = later s p t ts k
step s t ts (Argument earlier before ∷ k) = role_named s t (argues s earlier before k)
step s t ts (MoreArguments earlier before ∷ k) = either s t Comma (Argument earlier before ∷ k) Right k
step s t ts (ProtocolName ∷ k) = named t (declares_protocol s k)
step s t ts (MoreProtocols ∷ k) = follows s t k

-- The answer: all is taken, or the fault and what is left from its symbol on.
pub data Answer : Type 0 where
  Taken : Answer
  Refuses : (fault : Fault) (left : List Symbol) → Answer

-- After a protocol the text may end.
abbrev pub at_end : List Item → Answer
at_end (MoreProtocols ∷ []) = Taken
at_end k = Refuses Token []

abbrev pub after : Outcome → List Symbol → (State → List Item → Answer) → Answer
after (On s k) left go = go s k
after (Wrong fault) left go = Refuses fault left

abbrev pub answer : State → List Item → List Symbol → Answer
answer s k [] = at_end k
answer s k (t ∷ ts) = after (step s t ts k) (t ∷ ts) (λ s' k'. answer s' k' ts)

-- what is known and awaited at first
abbrev pub begin : State
begin = known [] [] 0 nobody

-- what is awaited in front of the protocols, and in all
abbrev pub in_head : List Item → List Item
in_head k = This (Is Module) ∷ AnyName ∷ MoreModules ∷ Decls [] ∷ k

abbrev pub awaited : List Item
awaited = in_head (This (Is Protocol) ∷ ProtocolName ∷ [])

abbrev pub reading : List Symbol → Answer
reading symbols = answer begin awaited symbols
