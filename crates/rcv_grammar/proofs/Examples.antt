-- Worked cases of the machine: what it takes, and where it refuses with which code.
use Rattle.std.proofs.Common.{◌≡◌, ℕ, true, codes, List, [], ◌∷◌, ◌++◌, ◌^◌, ◌<◌, length, map, Some, None, refl, arith, Option}
use Rattle.rcv_lexer.specs.Parts.{parts_of}
use Rattle.rcv_lexer.specs.Tokens.{line_at}
use Rattle.rcv_machine.specs.Words.{Module, Global, Protocol, Choice, At, Rec, Continue, Par, And, Do, Open, Close, Left, Right, Comma, Semicolon, Symbol, Is, Word, line_before, Written, NoStmt, AMessage, AChoice, ARec, AContinue, APar, ADo, NoBlock, ABlock, WrittenProtocol, Source, IsDerived, spelling, tree_of, code_of, Decl}
use Rattle.rcv_machine.specs.Words.{nobody, with_role, RoleName, Receiver, Rest, Answer, Taken, Refuses, answer, reading, known}
use Rattle.rcv_model.specs.Text as trees
use Rattle.rcv_tree.specs.declared.protocol.Protocol as tree
use Rattle.rcv_reader.specs.Refusals.{AreReadAs}
use Rattle.rcv_grammar.proofs.Answered.{source_read}
use Rattle.rcv_grammar.specs.Canonical.{written_of}
use Rattle.rcv_syntax.proofs.Texts.{a, b, c, x, y, both, text, text_of_four, of_others, begins, sends, message, in_par, beside, calls, call, second, rec_x, again_x, nested, alias_a, more_roles}

-- the code, and what is left from the wrong symbol on
abbrev shown : Answer → Option (ℕ × List Symbol)
shown Taken = None
shown (Refuses fault left) = Some (code_of fault, left)

abbrev refusal : List Symbol → Option (ℕ × List Symbol)
refusal symbols = shown (reading symbols)

-- where a receiver is awaited behind so many points, and where a ninth role is
abbrev at_receiver : ℕ → List ℕ → List Symbol → Option (ℕ × List Symbol)
at_receiver count before symbols = shown (answer (known [] both count nobody) (Receiver nobody 0 before ∷ []) symbols)

abbrev at_ninth : Symbol → Option (ℕ × List Symbol)
at_ninth role = shown (answer (known [] (both ++ more_roles) 0 nobody) (RoleName ∷ []) (role ∷ []))

-- where a receiver is awaited that isn't one of A
abbrev shared_receiver : ℕ → List ℕ → List Symbol → Option (ℕ × List Symbol)
shared_receiver sender before symbols =
    shown (answer (known [] both 0 nobody) (Receiver (with_role nobody (codes "A")) sender before ∷ []) symbols)

-- behind a continue
abbrev at_ended : List Symbol → Option (ℕ × List Symbol)
at_ended symbols =
    let place = Rest (record { depth = 2; recs = codes "X" ∷ []; comes = 1; ended = true; earlier = nobody }) in
    shown (answer (known [] both 0 nobody) (place ∷ []) symbols)

-- an answer, the code that it has, and what is left
abbrev Case : Type 0
Case = Option (ℕ × List Symbol) × ℕ × List Symbol

abbrev AreRefused : List Case → Type 0
AreRefused cases = map (λ (c : Case). c.0) cases ≡ map (λ (c : Case). Some (c.1, c.2)) cases

refused : AreRefused (
    -- a wrong symbol, an early end, a branch without a statement, and the end behind the deepest block
    (refusal (text (x ∷ y ∷ Is Close ∷ [])), 11, y ∷ Is Close ∷ []) ∷ (refusal (text (message [])), 11, [])
    ∷ (refusal (text (Is Choice ∷ Is At ∷ a ∷ Is Open ∷ Is Close ∷ [])), 11, Is Close ∷ [])
    ∷ (refusal (text (nested 31 [])), 11, [])
    -- a block too deep
    ∷ (refusal (text (nested 31 (rec_x []))), 12, Is Open ∷ [])
    -- a receiver and a subject that are no roles
    ∷ (refusal (text (sends (c ∷ Is Semicolon ∷ []))), 13, c ∷ Is Semicolon ∷ [])
    ∷ (refusal (text (Is Choice ∷ Is At ∷ c ∷ [])), 13, c ∷ [])
    -- received twice, declared twice
    ∷ (refusal (text (sends (b ∷ Is Comma ∷ b ∷ []))), 14, b ∷ [])
    ∷ (refusal (Is Module ∷ x ∷ Is Semicolon ∷ alias_a (alias_a [])), 14, a ∷ Is Semicolon ∷ [])
    -- a message to its sender
    ∷ (refusal (text (sends (a ∷ []))), 15, a ∷ [])
    -- a statement behind a continue
    ∷ (refusal (text (rec_x (message (again_x (message []))))), 16, message [])
    -- a continue without a message before it, also through a branch and past a recursion inside
    ∷ (refusal (text (rec_x (again_x []))), 17, again_x [])
    ∷ (refusal (text (rec_x (Is Choice ∷ Is At ∷ a ∷ Is Open ∷ Is Rec ∷ y ∷ Is Open ∷ again_x []))), 17, again_x [])
    -- a ninth role, and a point behind 256
    ∷ (at_ninth (Word (codes "I")), 18, Word (codes "I") ∷ [])
    ∷ (at_receiver 256 [] (b ∷ Is Semicolon ∷ []), 18, b ∷ Is Semicolon ∷ [])
    -- a par in another block and in another protocol; no symbol but global behind a protocol
    ∷ (refusal (text (rec_x (Is Par ∷ []))), 19, Is Par ∷ []) ∷ (refusal (text (in_par (Is Par ∷ []))), 19, Is Par ∷ [])
    ∷ (refusal (text (message (second (Is Par ∷ [])))), 19, Is Par ∷ [])
    ∷ (refusal (text (Is Close ∷ Is Close ∷ [])), 11, Is Close ∷ [])
    ∷ (refusal (text (Is Close ∷ Is Global ∷ [])), 11, [])
    -- a call without arguments, of a role that isn't declared, and of a role twice
    ∷ (refusal (text (calls (Is Right ∷ []))), 11, Is Right ∷ [])
    ∷ (refusal (text (calls (c ∷ []))), 13, c ∷ []) ∷ (refusal (text (calls (a ∷ Is Comma ∷ a ∷ []))), 14, a ∷ [])
    -- a protocol's name for a second time; a role of the first protocol in the second; a continue of the first in the second
    ∷ (refusal (text (message (Is Close ∷ Is Global ∷ Is Protocol ∷ y ∷ []))), 14, y ∷ [])
    ∷ (refusal (text (message (second (begins (a ∷ []))))), 13, a ∷ [])
    ∷ (refusal (text (rec_x (message (Is Close ∷ second (Is Continue ∷ x ∷ []))))), 13, x ∷ [])
    -- code 17 at the word, before its name is read
    ∷ (refusal (text (rec_x (Is Continue ∷ x ∷ []))), 17, Is Continue ∷ x ∷ [])
    ∷ (refusal (text (rec_x (Is Continue ∷ []))), 11, [])
    ∷ (refusal (text (rec_x (Is Continue ∷ y ∷ Is Semicolon ∷ []))), 13, y ∷ Is Semicolon ∷ [])
    -- the least code: par and do behind a continue
    ∷ (refusal (text (rec_x (message (again_x (Is Par ∷ []))))), 16, Is Par ∷ [])
    ∷ (refusal (text (rec_x (message (again_x (Is Do ∷ []))))), 16, Is Do ∷ [])
    -- where no point is left: a name of no role, one that stands before, the sender
    ∷ (at_receiver 256 [] (c ∷ []), 13, c ∷ []) ∷ (at_receiver 256 (1 ∷ []) (b ∷ []), 14, b ∷ [])
    ∷ (at_receiver 256 [] (a ∷ []), 15, a ∷ [])
    -- a ninth role with the name of the first
    ∷ (at_ninth a, 14, a ∷ [])
    -- a role of another block of a par; where it is the sender, or stands before in the list
    ∷ (refusal (text (in_par (message (beside (begins (a ∷ [])))))), 29, a ∷ [])
    ∷ (shared_receiver 0 [] (a ∷ []), 15, a ∷ []) ∷ (shared_receiver 1 (0 ∷ []) (a ∷ []), 14, a ∷ [])
    ∷ (shared_receiver 1 [] (a ∷ []), 29, a ∷ []) ∷ (shared_receiver 1 [] (c ∷ []), 13, c ∷ [])
    -- a par of one block, and empty blocks
    ∷ (refusal (text (in_par (message (Is Close ∷ Is Close ∷ [])))), 11, Is Close ∷ [])
    ∷ (refusal (text (in_par (Is Close ∷ []))), 11, Is Close ∷ [])
    ∷ (refusal (text (in_par (message (beside (Is Close ∷ []))))), 11, Is Close ∷ [])
    -- behind a continue, at a place to which a walk comes
    ∷ (at_ended (Is Continue ∷ x ∷ []), 16, Is Continue ∷ x ∷ []) ∷ [])
refused = refl

-- ---- what is taken

-- a body that is never left: rec X { rec Y { X() from A to B; continue X; } and what follows
abbrev never_left : List Symbol → List Symbol
never_left next = rec_x (Is Rec ∷ y ∷ Is Open ∷ message (again_x (Is Close ∷ next)))

-- each is taken
abbrev AreTaken : List Answer → Type 0
AreTaken answers = map shown answers ≡ map (λ (a : Answer). None) answers

-- A text of one protocol without a call, up to its last brace: it may end there, and other protocols may follow.
are_taken : AreTaken (
    reading (text (message (Is Close ∷ [])))
    -- what stands behind a body that is never left isn't behind a continue of its own block
    ∷ reading (text (never_left (again_x (Is Close ∷ Is Close ∷ []))))
    ∷ reading (text (never_left (message (Is Close ∷ Is Close ∷ []))))
    -- a par, and behind it another one that has the roles in other blocks
    ∷ reading (text_of_four (in_par (message (beside (of_others (Is Close ∷ in_par (of_others (beside (message (Is Close ∷ Is Close ∷ []))))))))))
    -- a second protocol, which has a role of the first one's; calls, of which one guards a continue
    ∷ reading (text (message (second (Is Close ∷ []))))
    ∷ reading (text (call (second (calls (b ∷ Is Right ∷ Is Semicolon ∷ Is Close ∷ [])))))
    ∷ reading (text (rec_x (call (again_x (Is Close ∷ Is Close ∷ [])))))
    ∷ [])
are_taken = refl

-- ---- the line of a part's end

line_of_the_end : line_before [] 6 0 ≡ 6
line_of_the_end = refl

abbrev cut_off : List ℕ
cut_off = codes "module" ++ 10 ∷ codes "X" ++ 10 ∷ codes "%% plan" ++ 10 ∷ []

-- the line of the separator
line_of_the_separator : line_at cut_off (parts_of cut_off).protocol.end ≡ 3
line_of_the_separator = refl

-- ---- the canonical source

-- X(..) from A to B, ..
abbrev an_x : List (List ℕ) → List (List ℕ) → Written → Written
an_x sorts others rest = AMessage (codes "X") sorts (codes "A") (codes "B") others rest

-- a message to B and C is written as two
two_receivers : written_of (both ++ more_roles) (tree_of (both ++ more_roles) 0 (an_x [] (codes "C" ∷ []) NoStmt))
    ≡ an_x [] [] (AMessage (codes "X") [] (codes "A") (codes "C") [] NoStmt)
two_receivers = refl

-- ---- texts of each production

abbrev protocol_with : List (List ℕ) → Written → WrittenProtocol
protocol_with others w = record { name = codes "Y"; role = codes "A"; other_roles = others; body = w }

abbrev source_with : List (List ℕ) → Written → Source
source_with others w = record { module_name = codes "X"; module_more = []; declared = []; first = protocol_with others w; others = [] }

-- a par of two blocks, of which the second is a do
par_and_do : IsDerived (text (Is Par ∷ Is Open ∷ message (Is Close ∷ Is And ∷ Is Open ∷ Is Do ∷ y ∷ Is Left ∷ a ∷ Is Comma ∷ b ∷ Is Right ∷ Is Semicolon ∷ Is Close ∷ Is Close ∷ [])))
par_and_do = (
  source_with (codes "B" ∷ []) (APar (an_x [] [] NoStmt) (ADo (codes "Y") (codes "A") (codes "B" ∷ []) NoStmt) NoBlock NoStmt),
  (tt, ((tt, tt, tt, tt, tt, tt), tt), refl),
)

abbrev decl_as : List ℕ → List ℕ → Decl
decl_as word alias = record { word = word; schema = codes "X"; extern_name = []; file = []; alias = alias }

abbrev three : List (List ℕ)
three = codes "A" ∷ codes "B" ∷ codes "C" ∷ []

-- a dotted module, both declarations, sorts, two receivers, a choice of two, a recursion with its continue
abbrev each_written : Written
each_written =
    ARec (codes "X") (AChoice (codes "A")
    (an_x (codes "T" ∷ codes "U" ∷ []) (codes "C" ∷ []) (AContinue (codes "X") NoStmt))
    (ABlock (an_x [] [] (AMessage (codes "Y") [] (codes "B") (codes "C") [] NoStmt)) NoBlock) NoStmt) NoStmt

abbrev each_production : Source
each_production =
    record (source_with (codes "B" ∷ codes "C" ∷ []) each_written) {
      module_more = codes "Y" ∷ [];
      declared = decl_as (codes "type") (codes "T") ∷ decl_as (codes "data") (codes "U") ∷ [];
    }

-- The symbols are read as a module.
abbrev IsReadSo : Source → Type 0
IsReadSo s = (main : tree.Protocol) × (others : List tree.Protocol) × AreReadAs (spelling s) main others × (length others < 2 ^ 63)

each_is_read : IsReadSo each_production
each_is_read =
    source_read (spelling each_production) each_production (omega arith) ((refl, (refl, tt)), ((tt, (tt, tt, (tt, tt, tt), tt), tt), tt), refl) refl

its_tree : tree_of three 0 each_written
    ≡ trees.Loop (codes "X") (trees.Choose 0 (trees.Or
    (trees.Single (codes "X") (codes "T" ∷ codes "U" ∷ []) 0 1 1 (trees.Single (codes "X") (codes "T" ∷ codes "U" ∷ []) 0 2 2 (trees.Again (codes "X") trees.End)))
    (trees.Or (trees.Single (codes "X") [] 0 1 3 (trees.Single (codes "Y") [] 1 2 4 trees.End)) trees.NoMore)) trees.End) trees.End
its_tree = refl

-- a par, with a message behind it
abbrev beside_written : Written
beside_written = APar (an_x [] [] NoStmt) (AMessage (codes "Y") [] (codes "C") (codes "D") [] NoStmt) NoBlock
    (AMessage (codes "Z") [] (codes "B") (codes "C") [] NoStmt)

abbrev beside_each_other : Source
beside_each_other = source_with (codes "B" ∷ codes "C" ∷ codes "D" ∷ []) beside_written

par_is_read : IsReadSo beside_each_other
par_is_read =
    source_read (spelling beside_each_other) beside_each_other (omega arith) (tt, ((tt, tt, tt, tt, tt, tt), tt), refl) refl

par_tree : tree_of (codes "A" ∷ codes "B" ∷ codes "C" ∷ codes "D" ∷ []) 0 beside_written
    ≡ trees.Parallel (trees.Or (trees.Single (codes "X") [] 0 1 1 trees.End) (trees.Or (trees.Single (codes "Y") [] 2 3 2 trees.End) trees.NoMore))
    (trees.Single (codes "Z") [] 1 2 3 trees.End)
par_tree = refl

-- Two protocols, of which the first calls the second, with its roles exchanged; the points of each begin anew.
abbrev half : WrittenProtocol
half = record { name = codes "Half"; role = codes "C"; other_roles = codes "D" ∷ []; body = AMessage (codes "X") [] (codes "C") (codes "D") [] NoStmt }

abbrev calling : Written
calling = an_x [] [] (ADo (codes "Half") (codes "B") (codes "A" ∷ []) NoStmt)

abbrev two_protocols : Source
two_protocols = record (source_with (codes "B" ∷ []) calling) { others = half ∷ [] }

calls_are_read : IsReadSo two_protocols
calls_are_read = source_read (spelling two_protocols) two_protocols (omega arith) (tt, (tt, (tt, tt)), refl) refl

call_tree : (tree_of both 0 calling ≡ trees.Single (codes "X") [] 0 1 1 (trees.Call (codes "Half") (1 ∷ 0 ∷ []) trees.End))
    × (tree_of (codes "C" ∷ codes "D" ∷ []) 0 half.body ≡ trees.Single (codes "X") [] 0 1 1 trees.End)
call_tree = (refl, refl)
