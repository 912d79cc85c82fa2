-- What the awaited items derive, in which codes play no part. A step goes on, or stops with a code, only where the
-- grammar has the symbol: behind it is derived what the item derives.
use Rattle.std.proofs.Common.{◌≡◌, ℕ, Bool, true, false, cond, ◌||◌, List, [], ◌∷◌, ◌++◌, length, refl, ap, ◌==◌, nat_le, Option, Some, None, arith, rules}
use Rattle.std.proofs.lemmas.Bool.Decides.{nat_tests}
use Rattle.std.proofs.lemmas.Slice.Eq.{bytes_eq-Decides}
use denote.Enum.Bare.{same_true}
use Rattle.rcv_machine.specs.Words.{Global, Left, Role, To, Or, Choice, Rec, Continue, Par, And, Do, Open, Close, Right, Comma, Semicolon, Dot, Fault, Token, Deep, NoName, Twice, SelfMessage, AfterContinue, Unguarded, TooMany, NotYet, Shared, Symbol, Is, Word, Text, Number}
use Rattle.rcv_machine.specs.Words.{Written, NoStmt, AMessage, AChoice, ARec, AContinue, APar, ADo, Blocks, NoBlock, ABlock, dotted, names_behind, sort_list, roles_behind, decls, stmts, blocks_behind, IsBegun, IsProper, AreProper, is_decl_word, AreDecls, WrittenProtocol, declared, protocols, AreProperBodies, Source, IsDerived, place_of, is_listed, is_among, Decl}
use Rattle.rcv_machine.specs.Words.{Place, Item, This, AnyName, AnyQuoted, MoreModules, Decls, Alias, RoleName, MoreRoles, Sorts, MoreSorts, Subject, Sender, Receiver, MoreReceivers, RecName, AgainName, Opening, First, Rest, More, Lane, Later, Argument, MoreArguments, ProtocolName, MoreProtocols, State, Outcome, On, Wrong, after_statement, unless, by_place, meets, is_open, begins, ends, branches, later, outermost, step, awaited}
use Rattle.rcv_syntax.specs.contracts.sign.Sign.{the_type}

-- A symbol meets no other one.
pub meets_only : (t m : Symbol) → meets t m ≡ true → t ≡ m
meets_only (Is a) (Is b) e = ap Is (same_true the_type (search rules) a b e)
meets_only (Word a) (Word b) e = ap Word ((bytes_eq-Decides a b).0 e)
meets_only (Text a) (Text b) e = ap Text ((bytes_eq-Decides a b).0 e)
meets_only (Number a) (Number b) e = ap Number (grind (arith, nat_tests))
meets_only _ _ e = absurd cc

-- what an item derives, in front of what follows
abbrev pub Front : Item → List Symbol → List Symbol → Type 0
Front (This m) ts us = ts ≡ m ∷ us
Front AnyQuoted ts us = (q : List ℕ) × (ts ≡ Text q ∷ us)
Front MoreModules ts us = (ns : List (List ℕ)) × (ts ≡ dotted ns (Is Semicolon ∷ us))
Front (Decls aliases) ts us = (ds : List Decl) × AreDecls ds × (ts ≡ decls ds (Is Global ∷ us))
Front (Alias aliases) ts us = (n : List ℕ) × (ds : List Decl) × AreDecls ds × (ts ≡ Word n ∷ Is Semicolon ∷ decls ds (Is Global ∷ us))
Front RoleName ts us = (n : List ℕ) × (ns : List (List ℕ)) × (ts ≡ Word n ∷ roles_behind ns (Is Right ∷ us))
Front MoreRoles ts us = (ns : List (List ℕ)) × (ts ≡ roles_behind ns (Is Right ∷ us))
Front Sorts ts us = (ns : List (List ℕ)) × (ts ≡ sort_list ns (Is Right ∷ us))
Front MoreSorts ts us = (ns : List (List ℕ)) × (ts ≡ names_behind ns (Is Right ∷ us))
Front (Sender earlier) ts us =
    (s : List ℕ) × (r : List ℕ) × (ns : List (List ℕ)) × (ts ≡ Word s ∷ Is To ∷ Word r ∷ names_behind ns (Is Semicolon ∷ us))
Front (Receiver earlier sender before) ts us = (r : List ℕ) × (ns : List (List ℕ)) × (ts ≡ Word r ∷ names_behind ns (Is Semicolon ∷ us))
Front (MoreReceivers earlier sender before) ts us = (ns : List (List ℕ)) × (ts ≡ names_behind ns (Is Semicolon ∷ us))
Front (RecName p) ts us =
    (n : List ℕ) × (b : Written) × IsBegun b × IsProper b × (ts ≡ Word n ∷ Is Open ∷ stmts b (Is Close ∷ us))
Front (AgainName p) ts us = (n : List ℕ) × (ts ≡ Word n ∷ Is Semicolon ∷ us)
Front (Opening p) ts us = (b : Written) × IsBegun b × IsProper b × (ts ≡ Is Open ∷ stmts b (Is Close ∷ us))
Front (First p) ts us = (b : Written) × IsBegun b × IsProper b × (ts ≡ stmts b (Is Close ∷ us))
Front (Rest p) ts us = (b : Written) × IsProper b × (ts ≡ stmts b (Is Close ∷ us))
Front (More p) ts us = (bs : Blocks) × (b : Written) × AreProper bs × IsProper b × (ts ≡ blocks_behind Or bs (stmts b (Is Close ∷ us)))
Front (Lane p) ts us = (b : Written) × IsBegun b × IsProper b × (ts ≡ Is Open ∷ stmts b (Is Close ∷ us))
Front (Argument earlier before) ts us = (r : List ℕ) × (ns : List (List ℕ)) × (ts ≡ Word r ∷ names_behind ns (Is Right ∷ us))
Front (MoreArguments earlier before) ts us = (ns : List (List ℕ)) × (ts ≡ names_behind ns (Is Right ∷ us))
Front ProtocolName ts us =
    (p : WrittenProtocol) × (ps : List WrittenProtocol) × AreProperBodies (p ∷ ps) × (ts ≡ declared p (protocols ps us))
Front MoreProtocols ts us = (ps : List WrittenProtocol) × AreProperBodies ps × (ts ≡ protocols ps us)
Front (Later p) ts us = (bs : Blocks) × (b : Written) × AreProper bs × IsProper b × (ts ≡ blocks_behind And bs (stmts b (Is Close ∷ us)))
Front _ ts us = (n : List ℕ) × (ts ≡ Word n ∷ us)

abbrev pub Derives : List Item → List Symbol → Type 0
Derives [] ts = ts ≡ []
Derives (i ∷ k) ts = (us : List Symbol) × Front i ts us × Derives k us

-- a block of one statement
abbrev one : Written
one = AContinue [] NoStmt

-- a protocol with no statement
abbrev empty : WrittenProtocol
empty = record { name = []; role = []; other_roles = []; body = NoStmt }

some_front : (i : Item) (us : List Symbol) → (ts : List Symbol) × Front i ts us
some_front (This m) us = (_, refl)
some_front (Decls aliases) us = (_, ([], tt, refl))
some_front (Alias aliases) us = (_, ([], [], tt, refl))
some_front RoleName us = (_, ([], [], refl))
some_front (Sender earlier) us = (_, ([], [], [], refl))
some_front (Receiver earlier sender before) us = (_, ([], [], refl))
some_front (RecName p) us = (_, ([], one, tt, tt, refl))
some_front (Opening p) us = (_, (one, tt, tt, refl))
some_front (First p) us = (_, (one, tt, tt, refl))
some_front (Rest p) us = (_, (NoStmt, tt, refl))
some_front (More p) us = (_, (NoBlock, NoStmt, tt, tt, refl))
some_front (Lane p) us = (_, (one, tt, tt, refl))
some_front (Later p) us = (_, (NoBlock, NoStmt, tt, tt, refl))
some_front (Argument earlier before) us = (_, ([], [], refl))
some_front ProtocolName us = (_, (empty, [], (tt, tt), refl))
some_front MoreProtocols us = (_, ([], tt, refl))
some_front _ us = (_, ([], refl))

-- some list is derived
pub completion : (k : List Item) → (ts : List Symbol) × Derives k ts
completion [] = ([], refl)
completion (i ∷ k) = let c = completion k in let f = some_front i c.0 in (f.0, (c.0, f.1, c.1))

-- what is awaited at first derives only what the grammar derives
pub derived : (ts : List Symbol) → Derives awaited ts → IsDerived ts
derived ts (_, a, (_, (x, b), (_, (xs, c), (_, (ds, are, d), (_, e, (_, (p, ps, proper, f), g)))))) =
    let source : Source = record { module_name = x; module_more = xs; declared = ds; first = p; others = ps } in
    (source, (are, proper, simp (a, b, c, d, e, f, g)))

-- behind the symbol stands what the others derive
abbrev Offers : List Item → Symbol → List Item → Type 0
Offers k t next = (us : List Symbol) → Derives next us → Derives k (t ∷ us)

abbrev pub Has : List Item → Symbol → Type 0
Has k t = (us : List Symbol) × Derives k (t ∷ us)

abbrev pub Agrees : Outcome → List Item → Symbol → Type 0
Agrees (On s next) k t = Offers k t next
Agrees (Wrong Token) k t = Unit {0}
Agrees (Wrong _) k t = Has k t

has : (k : List Item) (t : Symbol) (next : List Item) → Offers k t next → Has k t
has k t next o = let c = completion next in (c.0, o c.0 c.1)

tested : (b : Bool) (f : Fault) (o : Outcome) (k : List Item) (t : Symbol) → Has k t → Agrees o k t → Agrees (unless b f o) k t
tested false f o k t h a = a
tested true Token o k t h a = tt
tested true _ o k t h a = h

-- one test
asked : (b : Bool) (f : Fault) (s : State) (k : List Item) (t : Symbol) (next : List Item) → Offers k t next
    → Agrees (unless b f (On s next)) k t
asked b f s k t next o = tested b f (On s next) k t (has k t next o) o

placed : (o : Option ℕ) (next : ℕ → Outcome) (k : List Item) (t : Symbol) → Has k t → ((r : ℕ) → Agrees (next r) k t)
    → Agrees (by_place o next) k t
placed None next k t h a = h
placed (Some r) next k t h a = a r

chosen : (b : Bool) (s : State) (k : List Item) (t : Symbol) (next : List Item) → (b ≡ true → Offers k t next)
    → Agrees (cond b (On s next) (Wrong Token)) k t
chosen true s k t next o = o refl
chosen false s k t next o = tt

-- what is said of one item holds of one that derives more
through : (o : Outcome) (i j : Item) (k : List Item) (t : Symbol) → ((ts : List Symbol) → Derives (j ∷ k) ts → Derives (i ∷ k) ts)
    → Agrees o (j ∷ k) t → Agrees o (i ∷ k) t
through (On s next) i j k t e a = λ us d. e (t ∷ us) (a us d)
through (Wrong Token) i j k t e a = tt
through (Wrong _) i j k t e a = (a.0, e (t ∷ a.0) a.1)

begins_agrees : (t : Symbol) (ts : List Symbol) (s : State) (p : Place) (k : List Item) → Agrees (begins s p t ts k) (First p ∷ k) t
begins_agrees (Word n) ts s p k = asked p.ended AfterContinue s _ _ _ (λ us d.
    let (_, a, (_, (ss, b), (_, c, (_, (s, r, rs, e), (vs, (rest, is, g), more))))) = d in
    (vs, (AMessage n ss s r rs rest, tt, is, simp (a, b, c, e, g)), more))
begins_agrees (Is Choice) ts s p k = asked p.ended AfterContinue s _ _ _ (λ us d.
    let (_, a, (_, (s, b), (_, (f, begun, proper, c), (vs, (os, rest, are, is, e), more)))) = d in
    (vs, (AChoice s f os rest, tt, (begun, proper, are, is), simp (a, b, c, e)), more))
begins_agrees (Is Rec) ts s p k = asked p.ended AfterContinue s _ _ _ (λ us d.
    let (_, (m, body, begun, proper, a), (vs, (rest, is, b), more)) = d in
    (vs, (ARec m body rest, tt, (begun, proper, is), simp (a, b)), more))
begins_agrees (Is Continue) ts s p k =
    let o : Offers (First p ∷ k) (Is Continue) (AgainName p ∷ Rest (after_statement p true) ∷ k) = λ us (_, (m, a), (vs, (rest, is, b), more)).
    (vs, (AContinue m rest, tt, is, simp (a, b)), more) in
    let some = has (First p ∷ k) (Is Continue) (AgainName p ∷ Rest (after_statement p true) ∷ k) o in
    tested p.ended AfterContinue _ _ _ some (asked (is_open p ts) Unguarded s _ _ _ o)
begins_agrees (Is Par) ts s p k =
    let o : Offers (First p ∷ k) (Is Par) (Lane p ∷ This (Is And) ∷ Lane p ∷ Later p ∷ k) = λ us d.
    let (_, (f, begun, proper, a), (_, b, (_, (g, more_begun, more_proper, c), (vs, (os, rest, are, is, e), more)))) = d in
    (vs, (APar f g os rest, tt, (begun, proper, more_begun, more_proper, are, is), simp (a, b, c, e)), more) in
    let some = has (First p ∷ k) (Is Par) (Lane p ∷ This (Is And) ∷ Lane p ∷ Later p ∷ k) o in
    tested p.ended AfterContinue _ _ _ some (asked (nat_le 2 p.depth || nat_le 2 (length s.protocols)) NotYet _ _ _ _ o)
begins_agrees (Is Do) ts s p k = asked p.ended AfterContinue s _ _ _ (λ us d.
    let (_, (m, a), (_, b, (_, (r, rs, c), (_, e, (vs, (rest, is, g), more))))) = d in
    (vs, (ADo m r rs rest, tt, is, simp (a, b, c, e, g)), more))
begins_agrees _ ts s p k = tt

ends_agrees : (t : Symbol) (ts : List Symbol) (s : State) (p : Place) (k : List Item) → Agrees (ends s p t ts k) (Rest p ∷ k) t
ends_agrees (Is Close) ts s p k = λ us d. (us, (NoStmt, tt, refl), d)
ends_agrees t ts s p k =
    through (begins s p t ts k) (Rest p) (First p) k t (λ us d. (d.0, (d.1.0, d.1.2, d.1.3), d.2)) (begins_agrees t ts s p k)

branches_agrees : (t : Symbol) (ts : List Symbol) (s : State) (p : Place) (k : List Item) → Agrees (branches s p t ts k) (More p ∷ k) t
branches_agrees (Is Or) ts s p k = λ us (_, (f, begun, proper, a), (vs, (os, rest, are, is, b), more)).
    (vs, (ABlock f os, rest, (begun, proper, are), is, simp (a, b)), more)
branches_agrees t ts s p k =
    through (ends s (after_statement p false) t ts k) (More p) (Rest (after_statement p false)) k t (λ us d. (d.0, (NoBlock, d.1.0, tt, d.1.1, d.1.2), d.2))
    (ends_agrees t ts s (after_statement p false) k)

later_agrees : (t : Symbol) (ts : List Symbol) (s : State) (p : Place) (k : List Item) → Agrees (later s p t ts k) (Later p ∷ k) t
later_agrees (Is And) ts s p k = λ us (_, (f, begun, proper, a), (vs, (os, rest, are, is, b), more)).
    (vs, (ABlock f os, rest, (begun, proper, are), is, simp (a, b)), more)
later_agrees t ts s p k =
    through (ends s (after_statement p false) t ts k) (Later p) (Rest (after_statement p false)) k t (λ us d. (d.0, (NoBlock, d.1.0, tt, d.1.1, d.1.2), d.2))
    (ends_agrees t ts s (after_statement p false) k)

pub agrees : (k : List Item) (t : Symbol) (ts : List Symbol) (s : State) → Agrees (step s t ts k) k t
agrees (This m ∷ k) t ts s = chosen (meets t m) s _ t k (λ e us d. (us, ap (λ (x : Symbol). x ∷ us) (meets_only t m e), d))
agrees (First p ∷ k) t ts s = begins_agrees t ts s p k
agrees (Rest p ∷ k) t ts s = ends_agrees t ts s p k
agrees (More p ∷ k) t ts s = branches_agrees t ts s p k
agrees (Later p ∷ k) t ts s = later_agrees t ts s p k
agrees (Lane p ∷ k) (Is Open) ts s = asked (nat_le 32 p.depth) Deep s _ _ _ (λ us (vs, (b, begun, proper, a), more).
    (vs, (b, begun, proper, simp a), more))
agrees (AnyName ∷ k) (Word n) ts s = λ us d. (us, (n, refl), d)
agrees (AnyQuoted ∷ k) (Text q) ts s = λ us d. (us, (q, refl), d)
agrees (MoreModules ∷ k) (Is Dot) ts s = λ us (_, (n, a), (vs, (ns, b), more)). (vs, (n ∷ ns, simp (a, b)), more)
agrees (MoreModules ∷ k) (Is Semicolon) ts s = λ us d. (us, ([], refl), d)
agrees (Decls aliases ∷ k) (Is Global) ts s = λ us d. (us, ([], tt, refl), d)
agrees (Decls aliases ∷ k) (Word w) ts s = chosen (is_decl_word w) s _ (Word w) _ (λ is us d.
    let (_, a, (_, (schema, b), (_, c, (_, (extern, e), (_, g, (_, (file, h), (_, i, (vs, (alias, ds, are, j), more)))))))) = d in
    let first : Decl = record { word = w; schema = schema; extern_name = extern; file = file; alias = alias } in
    (vs, (first ∷ ds, (is, are), simp (a, b, c, e, g, h, i, j)), more))
agrees (Alias aliases ∷ k) (Word n) ts s = asked (is_among n aliases) Twice s _ _ _ (λ us (_, a, (vs, (ds, are, b), more)).
    (vs, (n, ds, are, simp (a, b)), more))
agrees (RoleName ∷ k) (Word n) ts s =
    let o : Offers (RoleName ∷ k) (Word n) (MoreRoles ∷ k) = λ us (vs, (ns, a), more). (vs, (n, ns, simp a), more) in
    let some = has (RoleName ∷ k) (Word n) (MoreRoles ∷ k) o in
    tested (is_among n s.roles) Twice _ _ _ some (asked (nat_le 8 (length s.roles)) TooMany _ _ _ _ o)
agrees (MoreRoles ∷ k) (Is Comma) ts s = λ us (_, a, (vs, (n, ns, b), more)). (vs, (n ∷ ns, simp (a, b)), more)
agrees (MoreRoles ∷ k) (Is Right) ts s = λ us d. (us, ([], refl), d)
agrees (Sorts ∷ k) (Word n) ts s = λ us (vs, (ns, a), more). (vs, (n ∷ ns, simp a), more)
agrees (Sorts ∷ k) (Is Right) ts s = λ us d. (us, ([], refl), d)
agrees (MoreSorts ∷ k) (Is Comma) ts s = λ us (_, (n, a), (vs, (ns, b), more)). (vs, (n ∷ ns, simp (a, b)), more)
agrees (MoreSorts ∷ k) (Is Right) ts s = λ us d. (us, ([], refl), d)
agrees (Subject earlier ∷ k) (Word n) ts s = let o : Offers (Subject earlier ∷ k) (Word n) k = λ us d. (us, (n, refl), d) in
    placed (place_of s.roles n) _ _ _ (has (Subject earlier ∷ k) (Word n) k o) (λ r. asked (earlier n) Shared _ _ _ _ o)
agrees (Sender earlier ∷ k) (Word n) ts s =
    let o : (r : ℕ) → Offers (Sender earlier ∷ k) (Word n) (This (Is To) ∷ Receiver earlier r [] ∷ k) = λ r us d.
    let (_, a, (vs, (m, ns, b), more)) = d in (vs, (n, m, ns, simp (a, b)), more) in
    placed (place_of s.roles n) _ _ _ (has (Sender earlier ∷ k) (Word n) (This (Is To) ∷ Receiver earlier 0 [] ∷ k) (o 0))
    (λ r. asked (earlier n) Shared _ _ _ _ (o r))
agrees (Receiver earlier sender before ∷ k) (Word n) ts s =
    let o : (r : ℕ) → Offers (Receiver earlier sender before ∷ k) (Word n) (MoreReceivers earlier sender (before ++ r ∷ []) ∷ k) = λ r us (vs, (ns, a), more).
    (vs, (n, ns, simp a), more) in
    let some = has (Receiver earlier sender before ∷ k) (Word n) (MoreReceivers earlier sender (before ++ 0 ∷ []) ∷ k) (o 0) in
    placed (place_of s.roles n) _ _ _ some (λ r. tested (is_listed r before) Twice _ _ _ some
    (tested (r == sender) SelfMessage _ _ _ some (tested (nat_le 256 s.count) TooMany _ _ _ some
    (asked (earlier n) Shared _ _ _ _ (o r)))))
agrees (MoreReceivers earlier sender before ∷ k) (Is Comma) ts s = λ us (vs, (r, rs, a), more). (vs, (r ∷ rs, simp a), more)
agrees (MoreReceivers earlier sender before ∷ k) (Is Semicolon) ts s = λ us d. (us, ([], refl), d)
agrees (RecName p ∷ k) (Word n) ts s = λ us (vs, (b, begun, proper, a), more). (vs, (n, b, begun, proper, simp a), more)
agrees (AgainName p ∷ k) (Word n) ts s = asked _ NoName s _ _ _ (λ us (vs, a, more). (vs, (n, simp a), more))
agrees (Opening p ∷ k) (Is Open) ts s = asked (nat_le 32 p.depth) Deep s _ _ _ (λ us (vs, (b, begun, proper, a), more).
    (vs, (b, begun, proper, simp a), more))
agrees (Argument earlier before ∷ k) (Word n) ts s =
    let o : (r : ℕ) → Offers (Argument earlier before ∷ k) (Word n) (MoreArguments earlier (before ++ r ∷ []) ∷ k) = λ r us (vs, (ns, a), more).
    (vs, (n, ns, simp a), more) in
    let some = has (Argument earlier before ∷ k) (Word n) (MoreArguments earlier (before ++ 0 ∷ []) ∷ k) (o 0) in
    placed (place_of s.roles n) _ _ _ some (λ r. tested (is_listed r before) Twice _ _ _ some (asked (earlier n) Shared _ _ _ _ (o r)))
agrees (MoreArguments earlier before ∷ k) (Is Comma) ts s = λ us (vs, (r, rs, a), more). (vs, (r ∷ rs, simp a), more)
agrees (MoreArguments earlier before ∷ k) (Is Right) ts s = λ us d. (us, ([], refl), d)
agrees (ProtocolName ∷ k) (Word n) ts s =
    let next : List Item = This (Is Left) ∷ This (Is Role) ∷ RoleName ∷ This (Is Open) ∷ Rest outermost ∷ MoreProtocols ∷ k in
    let o : Offers (ProtocolName ∷ k) (Word n) next = λ us d.
    let (_, a, (_, b, (_, (r, rs, c), (_, e, (_, (body, is, g), (vs, (ps, are, h), more)))))) = d in
    let first : WrittenProtocol = record { name = n; role = r; other_roles = rs; body = body } in
    (vs, (first, ps, (is, are), simp (a, b, c, e, g, h)), more) in
    let some = has (ProtocolName ∷ k) (Word n) next o in
    tested (is_among n s.protocols) Twice _ _ _ some (asked (nat_le 64 (length s.protocols)) TooMany _ _ _ _ o)
agrees (MoreProtocols ∷ k) (Is Global) ts s = λ us (_, a, (vs, (p, ps, are, b), more)). (vs, (p ∷ ps, are, simp (a, b)), more)
agrees _ _ ts s = tt
