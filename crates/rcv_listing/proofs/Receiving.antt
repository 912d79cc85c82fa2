-- The tokens that are receivers name the receivers of the points, and the lines are theirs.
use Rattle.std.proofs.Common.{◌≡◌, ℕ, ◌+◌, Bool, true, false, List, [], ◌∷◌, ◌++◌, map, length, append_assoc, append-nil, refl, sym, ◌∙◌, ap, subst}
use Rattle.std.specs.Prelude.{Option, Some, None, if◌then◌else◌}
use Rattle.std.proofs.lemmas.List.{map-append}
use Rattle.rcv_tree.specs.declared.protocol.Decl.{Decl}
use Rattle.rcv_tree.specs.declared.protocol.Protocol.{Protocol}
use Rattle.rcv_tree.specs.Lists as tree
use Rattle.rcv_tree.specs.Names.{name_at, place_of}
use Rattle.rcv_tree.proofs.Naming.{is_named}
use Rattle.rcv_model.specs.Text.{Body}
use Rattle.rcv_model.specs.Places as model
use Rattle.rcv_model.specs.Places.{SingleMessage}
use Rattle.rcv_lexer.specs.declared.piece.Piece.{Piece}
use Rattle.rcv_lexer.specs.declared.token.Kind.{Kind}
use Rattle.rcv_lexer.specs.declared.token.Kind.TheVariants as kinds
use Rattle.rcv_lexer.specs.declared.token.Token.{Token}
use Rattle.rcv_lexer.specs.Parts.{parts_of}
use Rattle.rcv_lexer.specs.Tokens.{bytes_of, line_at, token_at, tokens_of}
use Rattle.rcv_syntax.specs.declared.sign.Sign.{Sign}
use Rattle.rcv_syntax.specs.declared.sign.Sign.TheVariants.{From, To, Or, And, Open, Close, Right, Semicolon}
use Rattle.rcv_syntax.specs.Symbols.{Symbol, Is, Word, reserved, sign_or, symbol_by, symbols_of}
use Rattle.rcv_syntax.specs.Grammar.{Written, NoStmt, AMessage, AChoice, ARec, AContinue, APar, ADo, Blocks, NoBlock, ABlock, WrittenProtocol, Source, dotted, names_behind, sort_list, roles_behind, decls, stmts, blocks_behind, declared, protocols, spelling}
use Rattle.rcv_syntax.specs.Trees.{role_at, roles_at, singles, points, points_of, tree_of, trees_of, is_call, lines_of_calls, IsDeclared, MayReceive, IsFit, AreFit, IsTreeOf, AreTreesOf}
use Rattle.rcv_listing.specs.Receivers.{listed_behind, goes_on, is_receiver, is_global, said_by, receivers_of, up_to_next, texts_of, receivers_of_all, lines_of, receiver_lines, calls_in}
use Rattle.rcv_listing.specs.Laws.{receivers_in, named_by, written_at, first_lines, LinesAreThoseOfReceivers}

-- ---- what symbols name as receivers

abbrev name_if : Bool → Symbol → List (List ℕ) → List (List ℕ)
name_if listed (Word n) rest = if listed then n ∷ rest else rest
name_if listed other rest = rest

-- up to the next protocol, and in each protocol
abbrev named : Bool → List Symbol → List (List ℕ)
named listed [] = []
named listed (s ∷ ss) = if is_global s then [] else name_if listed s (named (goes_on listed s) ss)

abbrev all_named : List Symbol → List (List (List ℕ))
all_named [] = []
all_named (s ∷ ss) = if is_global s then named false ss ∷ all_named ss else all_named ss

kept_word : (input : List ℕ) (t : Token) (r : List Token) (listed : Bool) (o : Option Sign) → written_at input (if is_receiver listed (sign_or o (Word (bytes_of input t))) then t ∷ r else r) ≡ name_if listed (sign_or o (Word (bytes_of input t))) (written_at input r)
kept_word input t r true None = refl
kept_word input t r false None = refl
kept_word input t r listed (Some s) = refl

kept : (input : List ℕ) (t : Token) (r : List Token) (listed : Bool) (kind : Kind) → written_at input (if is_receiver listed (symbol_by kind (bytes_of input t)) then t ∷ r else r) ≡ name_if listed (symbol_by kind (bytes_of input t)) (written_at input r)
kept input t r listed kinds.Word = kept_word input t r listed (reserved (bytes_of input t))
kept input t r listed kinds.Number = refl
kept input t r listed kinds.Text = refl
kept input t r listed kinds.Mark = refl

up_to_here : (input : List ℕ) (listed : Bool) (t : Token) (ts : List Token) (b : Bool) → written_at input (receivers_of input listed (if b then [] else t ∷ ts)) ≡ (if b then [] else written_at input (receivers_of input listed (t ∷ ts)))
up_to_here input listed t ts true = refl
up_to_here input listed t ts false = refl

tokens_named : (input : List ℕ) (listed : Bool) (ts : List Token) → written_at input (receivers_of input listed (up_to_next input ts)) ≡ named listed (symbols_of input ts)
tokens_named input listed [] = refl
tokens_named input listed (t ∷ ts) =
    up_to_here input listed t (up_to_next input ts) (is_global (said_by input t))
    ∙ ap (λ l. if is_global (said_by input t) then [] else l)
    (kept input t (receivers_of input (goes_on listed (said_by input t)) (up_to_next input ts)) listed t.kind
    ∙ ap (name_if listed (said_by input t)) (tokens_named input (goes_on listed (said_by input t)) ts))

one_text : (input : List ℕ) (text : List Token) (texts : List (List Token)) (b : Bool) → map (written_at input) (map (receivers_of input false) (if b then text ∷ texts else texts)) ≡ (if b then written_at input (receivers_of input false text) ∷ map (written_at input) (map (receivers_of input false) texts) else map (written_at input) (map (receivers_of input false) texts))
one_text input text texts true = refl
one_text input text texts false = refl

texts_named : (input : List ℕ) (ts : List Token) → map (written_at input) (receivers_of_all input ts) ≡ all_named (symbols_of input ts)
texts_named input [] = refl
texts_named input (t ∷ ts) =
    let begins = is_global (said_by input t) in
    let rest = map (written_at input) (map (receivers_of input false) (texts_of input ts)) in
    one_text input (up_to_next input ts) (texts_of input ts) begins
    ∙ ap (λ names. if begins then names ∷ rest else rest) (tokens_named input false ts)
    ∙ ap (λ others. if begins then named false (symbols_of input ts) ∷ others else others) (texts_named input ts)

-- ---- what is written

behind_named : (ns : List (List ℕ)) (next : List Symbol) → named false (names_behind ns next) ≡ named false next
behind_named [] next = refl
behind_named (n ∷ ns) next = behind_named ns next

sorts_named : (ns : List (List ℕ)) (next : List Symbol) → named false (sort_list ns next) ≡ named false next
sorts_named [] next = refl
sorts_named (n ∷ ns) next = behind_named ns next

roles_named : (ns : List (List ℕ)) (next : List Symbol) → named false (roles_behind ns next) ≡ named false next
roles_named [] next = refl
roles_named (n ∷ ns) next = roles_named ns next

listed_named : (ns : List (List ℕ)) (next : List Symbol) → named true (names_behind ns next) ≡ ns ++ named true next
listed_named [] next = refl
listed_named (n ∷ ns) next = ap (λ l. n ∷ l) (listed_named ns next)

-- the receivers that are written
abbrev mutual
  written : Written → List (List ℕ)
  written NoStmt = []
  written (AMessage label sorts sender receiver others rest) = (receiver ∷ others) ++ written rest
  written (AChoice subject first others rest) = (written first ++ written_of others) ++ written rest
  written (ARec name body rest) = written body ++ written rest
  written (AContinue name rest) = written rest
  written (APar first second others rest) = (written first ++ (written second ++ written_of others)) ++ written rest
  written (ADo name role others rest) = written rest

  written_of : Blocks → List (List ℕ)
  written_of NoBlock = []
  written_of (ABlock first others) = written first ++ written_of others

mutual
  stmts_named : (w : Written) (next : List Symbol) → named false (stmts w next) ≡ written w ++ named false next
  stmts_named NoStmt next = refl
  stmts_named (AMessage label sorts sender receiver others rest) next =
      sorts_named sorts (Is Right ∷ Is From ∷ Word sender ∷ Is To ∷ Word receiver ∷ names_behind others (Is Semicolon ∷ stmts rest next))
      ∙ ap (λ l. receiver ∷ l) (listed_named others (Is Semicolon ∷ stmts rest next))
      ∙ ap (λ l. receiver ∷ (others ++ l)) (stmts_named rest next)
      ∙ sym (append_assoc (receiver ∷ others) (written rest) (named false next))
  stmts_named (AChoice subject first others rest) next =
      stmts_named first (Is Close ∷ blocks_behind Or others (stmts rest next))
      ∙ ap (λ l. written first ++ l) (blocks_named Or others (stmts rest next) refl refl ∙ ap (λ l. written_of others ++ l) (stmts_named rest next))
      ∙ sym (append_assoc (written first) (written_of others) (written rest ++ named false next))
      ∙ sym (append_assoc (written first ++ written_of others) (written rest) (named false next))
  stmts_named (ARec name body rest) next =
      stmts_named body (Is Close ∷ stmts rest next) ∙ ap (λ l. written body ++ l) (stmts_named rest next)
      ∙ sym (append_assoc (written body) (written rest) (named false next))
  stmts_named (AContinue name rest) next = stmts_named rest next
  stmts_named (APar first second others rest) next =
      stmts_named first (Is Close ∷ Is And ∷ Is Open ∷ stmts second (Is Close ∷ blocks_behind And others (stmts rest next)))
      ∙ ap (λ l. written first ++ l)
      (stmts_named second (Is Close ∷ blocks_behind And others (stmts rest next))
      ∙ ap (λ l. written second ++ l) (blocks_named And others (stmts rest next) refl refl ∙ ap (λ l. written_of others ++ l) (stmts_named rest next))
      ∙ sym (append_assoc (written second) (written_of others) (written rest ++ named false next)))
      ∙ sym (append_assoc (written first) (written second ++ written_of others) (written rest ++ named false next))
      ∙ sym (append_assoc (written first ++ (written second ++ written_of others)) (written rest) (named false next))
  stmts_named (ADo name role others rest) next = behind_named others (Is Right ∷ Is Semicolon ∷ stmts rest next) ∙ stmts_named rest next

  blocks_named : (word : Sign) (bs : Blocks) (next : List Symbol) → listed_behind false word ≡ false → is_global (Is word) ≡ false → named false (blocks_behind word bs next) ≡ written_of bs ++ named false next
  blocks_named word NoBlock next e g = refl
  blocks_named word (ABlock first others) next e g =
      ap (λ b. if b then [] else named (listed_behind false word) (Is Open ∷ stmts first (Is Close ∷ blocks_behind word others next))) g
      ∙ ap (λ b. named b (Is Open ∷ stmts first (Is Close ∷ blocks_behind word others next))) e
      ∙ stmts_named first (Is Close ∷ blocks_behind word others next) ∙ ap (λ l. written first ++ l) (blocks_named word others next e g)
      ∙ sym (append_assoc (written first) (written_of others) (named false next))

-- ---- where no protocol begins

dotted_skipped : (ns : List (List ℕ)) (next : List Symbol) → all_named (dotted ns next) ≡ all_named next
dotted_skipped [] next = refl
dotted_skipped (n ∷ ns) next = dotted_skipped ns next

behind_skipped : (ns : List (List ℕ)) (next : List Symbol) → all_named (names_behind ns next) ≡ all_named next
behind_skipped [] next = refl
behind_skipped (n ∷ ns) next = behind_skipped ns next

sorts_skipped : (ns : List (List ℕ)) (next : List Symbol) → all_named (sort_list ns next) ≡ all_named next
sorts_skipped [] next = refl
sorts_skipped (n ∷ ns) next = behind_skipped ns next

roles_skipped : (ns : List (List ℕ)) (next : List Symbol) → all_named (roles_behind ns next) ≡ all_named next
roles_skipped [] next = refl
roles_skipped (n ∷ ns) next = roles_skipped ns next

decls_skipped : (ds : List Decl) (next : List Symbol) → all_named (decls ds next) ≡ all_named next
decls_skipped [] next = refl
decls_skipped (d ∷ ds) next = decls_skipped ds next

mutual
  stmts_skipped : (w : Written) (next : List Symbol) → all_named (stmts w next) ≡ all_named next
  stmts_skipped NoStmt next = refl
  stmts_skipped (AMessage label sorts sender receiver others rest) next =
      sorts_skipped sorts (Is Right ∷ Is From ∷ Word sender ∷ Is To ∷ Word receiver ∷ names_behind others (Is Semicolon ∷ stmts rest next))
      ∙ behind_skipped others (Is Semicolon ∷ stmts rest next) ∙ stmts_skipped rest next
  stmts_skipped (AChoice subject first others rest) next =
      stmts_skipped first (Is Close ∷ blocks_behind Or others (stmts rest next)) ∙ blocks_skipped Or others (stmts rest next) refl ∙ stmts_skipped rest next
  stmts_skipped (ARec name body rest) next = stmts_skipped body (Is Close ∷ stmts rest next) ∙ stmts_skipped rest next
  stmts_skipped (AContinue name rest) next = stmts_skipped rest next
  stmts_skipped (APar first second others rest) next =
      stmts_skipped first (Is Close ∷ Is And ∷ Is Open ∷ stmts second (Is Close ∷ blocks_behind And others (stmts rest next)))
      ∙ stmts_skipped second (Is Close ∷ blocks_behind And others (stmts rest next)) ∙ blocks_skipped And others (stmts rest next) refl ∙ stmts_skipped rest next
  stmts_skipped (ADo name role others rest) next = behind_skipped others (Is Right ∷ Is Semicolon ∷ stmts rest next) ∙ stmts_skipped rest next

  blocks_skipped : (word : Sign) (bs : Blocks) (next : List Symbol) → is_global (Is word) ≡ false → all_named (blocks_behind word bs next) ≡ all_named next
  blocks_skipped word NoBlock next g = refl
  blocks_skipped word (ABlock first others) next g =
      let inner = Is Open ∷ stmts first (Is Close ∷ blocks_behind word others next) in
      ap (λ b. if b then named false inner ∷ all_named inner else all_named inner) g
      ∙ stmts_skipped first (Is Close ∷ blocks_behind word others next) ∙ blocks_skipped word others next g

-- ---- the protocols

none_behind : (ps : List WrittenProtocol) → named false (protocols ps []) ≡ []
none_behind [] = refl
none_behind (p ∷ ps) = refl

declared_named : (p : WrittenProtocol) (ps : List WrittenProtocol) → named false (declared p (protocols ps [])) ≡ written p.body
declared_named p ps =
    roles_named p.other_roles (Is Right ∷ Is Open ∷ stmts p.body (Is Close ∷ protocols ps []))
    ∙ stmts_named p.body (Is Close ∷ protocols ps []) ∙ ap (λ l. written p.body ++ l) (none_behind ps) ∙ append-nil (written p.body)

declared_skipped : (p : WrittenProtocol) (next : List Symbol) → all_named (declared p next) ≡ all_named next
declared_skipped p next = roles_skipped p.other_roles (Is Right ∷ Is Open ∷ stmts p.body (Is Close ∷ next)) ∙ stmts_skipped p.body (Is Close ∷ next)

protocols_named : (ps : List WrittenProtocol) → all_named (protocols ps []) ≡ map (λ (p : WrittenProtocol). written p.body) ps
protocols_named [] = refl
protocols_named (p ∷ ps) =
    ap (λ names. names ∷ all_named (declared p (protocols ps []))) (declared_named p ps)
    ∙ ap (λ others. written p.body ∷ others) (declared_skipped p (protocols ps []) ∙ protocols_named ps)

spelling_named : (s : Source) → all_named (spelling s) ≡ map (λ (p : WrittenProtocol). written p.body) (s.first ∷ s.others)
spelling_named s =
    dotted_skipped s.module_more (Is Semicolon ∷ decls s.declared (protocols (s.first ∷ s.others) []))
    ∙ decls_skipped s.declared (protocols (s.first ∷ s.others) []) ∙ protocols_named (s.first ∷ s.others)

-- ---- the tree

role_named : (roles : List (List ℕ)) (n : List ℕ) → IsDeclared roles n → name_at roles (role_at roles n) ≡ n
role_named roles n d = go (place_of roles n) refl d.1
  where
    go : (o : Option ℕ) → place_of roles n ≡ o → o ≡ Some d.0 → name_at roles (role_at roles n) ≡ n
    go None e f = absurd (cc)
    go (Some r) e f = rw e (is_named roles n r e).1

receivers_named : (roles : List (List ℕ)) (sender : ℕ) (before : List ℕ) (ns : List (List ℕ)) → MayReceive roles sender before ns → map (name_at roles) (roles_at roles ns) ≡ ns
receivers_named roles sender before [] h = refl
receivers_named roles sender before (n ∷ ns) h =
    ap (λ x. x ∷ map (name_at roles) (roles_at roles ns)) (role_named roles n h.0)
    ∙ ap (λ l. n ∷ l) (receivers_named roles sender (before ++ role_at roles n ∷ []) ns h.3)

singles_named : (roles : List (List ℕ)) (label : List ℕ) (sorts : List (List ℕ)) (sender : ℕ) (rs : List ℕ) (n : ℕ) (rest : Body) → receivers_in roles (model.singles (singles label sorts sender rs n rest)) ≡ map (name_at roles) rs ++ receivers_in roles (model.singles rest)
singles_named roles label sorts sender [] n rest = refl
singles_named roles label sorts sender (r ∷ rs) n rest = ap (λ l. name_at roles r ∷ l) (singles_named roles label sorts sender rs (n + 1) rest)

both_named : (roles : List (List ℕ)) (xs ys : List (ℕ × SingleMessage)) (a b : List (List ℕ)) → receivers_in roles xs ≡ a → receivers_in roles ys ≡ b → receivers_in roles (xs ++ ys) ≡ a ++ b
both_named roles xs ys a b e f = map-append (λ (m : ℕ × SingleMessage). name_at roles m.1.receiver) xs ys ∙ ap (λ l. l ++ receivers_in roles ys) e ∙ ap (λ l. a ++ l) f

mutual
  tree_named : (roles : List (List ℕ)) (n : ℕ) (w : Written) → IsFit roles w → receivers_in roles (model.singles (tree_of roles n w)) ≡ written w
  tree_named roles n NoStmt fit = refl
  tree_named roles n (AMessage label sorts sender receiver others rest) fit =
      singles_named roles label sorts (role_at roles sender) (roles_at roles (receiver ∷ others)) n (tree_of roles (n + (1 + length others)) rest)
      ∙ ap (λ l. l ++ receivers_in roles (model.singles (tree_of roles (n + (1 + length others)) rest))) (receivers_named roles (role_at roles sender) [] (receiver ∷ others) fit.1)
      ∙ ap (λ l. (receiver ∷ others) ++ l) (tree_named roles (n + (1 + length others)) rest fit.2)
  tree_named roles n (AChoice subject first others rest) fit =
      both_named roles (model.singles (tree_of roles n first) ++ model.singles_of (trees_of roles (n + points first) others)) (model.singles (tree_of roles (n + (points first + points_of others)) rest)) (written first ++ written_of others) (written rest)
      (both_named roles (model.singles (tree_of roles n first)) (model.singles_of (trees_of roles (n + points first) others)) (written first) (written_of others) (tree_named roles n first fit.1) (trees_named roles (n + points first) others fit.2))
      (tree_named roles (n + (points first + points_of others)) rest fit.3)
  tree_named roles n (ARec name body rest) fit =
      both_named roles (model.singles (tree_of roles n body)) (model.singles (tree_of roles (n + points body) rest)) (written body) (written rest) (tree_named roles n body fit.0) (tree_named roles (n + points body) rest fit.1)
  tree_named roles n (AContinue name rest) fit = tree_named roles n rest fit
  tree_named roles n (APar first second others rest) fit =
      both_named roles (model.singles (tree_of roles n first) ++ (model.singles (tree_of roles (n + points first) second) ++ model.singles_of (trees_of roles (n + points first + points second) others))) (model.singles (tree_of roles (n + (points first + (points second + points_of others))) rest)) (written first ++ (written second ++ written_of others)) (written rest)
      (both_named roles (model.singles (tree_of roles n first)) (model.singles (tree_of roles (n + points first) second) ++ model.singles_of (trees_of roles (n + points first + points second) others)) (written first) (written second ++ written_of others) (tree_named roles n first fit.0)
      (both_named roles (model.singles (tree_of roles (n + points first) second)) (model.singles_of (trees_of roles (n + points first + points second) others)) (written second) (written_of others) (tree_named roles (n + points first) second fit.1) (trees_named roles (n + points first + points second) others fit.2)))
      (tree_named roles (n + (points first + (points second + points_of others))) rest fit.3)
  tree_named roles n (ADo name role others rest) fit = tree_named roles n rest fit.1

  trees_named : (roles : List (List ℕ)) (n : ℕ) (bs : Blocks) → AreFit roles bs → receivers_in roles (model.singles_of (trees_of roles n bs)) ≡ written_of bs
  trees_named roles n NoBlock fit = refl
  trees_named roles n (ABlock first others) fit =
      both_named roles (model.singles (tree_of roles n first)) (model.singles_of (trees_of roles (n + points first) others)) (written first) (written_of others) (tree_named roles n first fit.0) (trees_named roles (n + points first) others fit.1)

protocol_named : (w : WrittenProtocol) (p : Protocol) → IsTreeOf w p → written w.body ≡ named_by p
protocol_named w p t = sym (tree_named p.roles 0 w.body t.fit) ∙ sym (ap (λ (b : Body). receivers_in p.roles (model.singles b)) t.tree)

others_named : (ws : List WrittenProtocol) (ps : List Protocol) → AreTreesOf ws ps → map (λ (w : WrittenProtocol). written w.body) ws ≡ map named_by ps
others_named [] [] h = refl
others_named [] (p ∷ ps) h = absurd h
others_named (w ∷ ws) [] h = absurd h
others_named (w ∷ ws) (p ∷ ps) h =
    ap (λ names. names ∷ map (λ (o : WrittenProtocol). written o.body) ws) (protocol_named w p h.0) ∙ ap (λ others. named_by p ∷ others) (others_named ws ps h.3)

-- ---- the lines

-- each token has the line of its first byte
abbrev AreLined : List ℕ → List Token → Type 0
AreLined input [] = Unit {0}
AreLined input (t ∷ ts) = (t.line ≡ line_at input t.span.start) × AreLined input ts

one_lined : (input : List ℕ) (place len : ℕ) (o : Option Kind) (ts : List Token) → AreLined input ts → AreLined input (token_at place (line_at input place) len o ++ ts)
one_lined input place len None ts h = h
one_lined input place len (Some kind) ts h = (refl, h)

all_lined : (input : List ℕ) (place : ℕ) (ps : List Piece) → AreLined input (tokens_of input place ps)
all_lined input place [] = tt
all_lined input place (p ∷ ps) = one_lined input place p.len p.token (tokens_of input (place + p.len) ps) (all_lined input (place + p.len) ps)

receivers_lined : (input : List ℕ) (listed : Bool) (ts : List Token) → AreLined input ts → AreLined input (receivers_of input listed ts)
receivers_lined input listed [] h = tt
receivers_lined input listed (t ∷ ts) h = go (is_receiver listed (said_by input t)) (receivers_lined input (goes_on listed (said_by input t)) ts h.1)
  where
    go : (b : Bool) → AreLined input (receivers_of input (goes_on listed (said_by input t)) ts) → AreLined input (if b then t ∷ receivers_of input (goes_on listed (said_by input t)) ts else receivers_of input (goes_on listed (said_by input t)) ts)
    go true more = (h.0, more)
    go false more = more

lined : (input : List ℕ) (ts : List Token) → AreLined input ts → lines_of ts ≡ first_lines input ts
lined input [] h = refl
lined input (t ∷ ts) h = ap (λ n. n ∷ lines_of ts) h.0 ∙ ap (λ l. line_at input t.span.start ∷ l) (lined input ts h.1)

up_to_next_lined : (input : List ℕ) (ts : List Token) → AreLined input ts → AreLined input (up_to_next input ts)
up_to_next_lined input [] h = tt
up_to_next_lined input (t ∷ ts) h = go (is_global (said_by input t)) (up_to_next_lined input ts h.1)
  where
    go : (b : Bool) → AreLined input (up_to_next input ts) → AreLined input (if b then [] else t ∷ up_to_next input ts)
    go true more = tt
    go false more = (h.0, more)

all_in_line : (input : List ℕ) (ts : List Token) → AreLined input ts → receiver_lines input ts ≡ map (first_lines input) (receivers_of_all input ts)
all_in_line input [] h = refl
all_in_line input (t ∷ ts) h = go (is_global (said_by input t)) (all_in_line input ts h.1) (lined input (receivers_of input false (up_to_next input ts)) (receivers_lined input false (up_to_next input ts) (up_to_next_lined input ts h.1)))
  where
    go : (b : Bool) → receiver_lines input ts ≡ map (first_lines input) (receivers_of_all input ts) → lines_of (receivers_of input false (up_to_next input ts)) ≡ first_lines input (receivers_of input false (up_to_next input ts)) → map lines_of (map (receivers_of input false) (if b then up_to_next input ts ∷ texts_of input ts else texts_of input ts)) ≡ map (first_lines input) (map (receivers_of input false) (if b then up_to_next input ts ∷ texts_of input ts else texts_of input ts))
    go true more first = ap (λ l. l ∷ receiver_lines input ts) first ∙ ap (λ l. first_lines input (receivers_of input false (up_to_next input ts)) ∷ l) more
    go false more first = more

calls_in_line : (input : List ℕ) (ts : List Token) → AreLined input ts → lines_of_calls input ts ≡ first_lines input (calls_in input ts)
calls_in_line input [] h = refl
calls_in_line input (t ∷ ts) h = go (is_call (said_by input t)) (calls_in_line input ts h.1)
  where
    go : (b : Bool) → lines_of_calls input ts ≡ first_lines input (calls_in input ts) → (if b then t.line ∷ lines_of_calls input ts else lines_of_calls input ts) ≡ first_lines input (if b then t ∷ calls_in input ts else calls_in input ts)
    go true more = ap (λ n. n ∷ lines_of_calls input ts) h.0 ∙ ap (λ l. line_at input t.span.start ∷ l) more
    go false more = more

pub lines_are_those_of_receivers : LinesAreThoseOfReceivers
lines_are_those_of_receivers = record {
  named = λ input tokens m read.
      let r = read.0.1 in
      texts_named input tokens ∙ ap all_named r.spelled.2 ∙ spelling_named r.source
      ∙ ap (λ names. names ∷ map (λ (w : WrittenProtocol). written w.body) r.source.others) (protocol_named r.source.first m.main r.first)
      ∙ ap (λ others. named_by m.main ∷ others) (others_named r.source.others (tree.protocols m.others) r.more);
  lines = λ input tokens cut.
      let ts = tokens_of input (parts_of input).protocol.start cut.0 in
      subst (λ (given : List Token). receiver_lines input given ≡ map (first_lines input) (receivers_of_all input given)) (sym cut.2)
      (all_in_line input ts (all_lined input (parts_of input).protocol.start cut.0));
  calls = λ input tokens cut.
      let ts = tokens_of input (parts_of input).protocol.start cut.0 in
      subst (λ (given : List Token). lines_of_calls input given ≡ first_lines input (calls_in input given)) (sym cut.2)
      (calls_in_line input ts (all_lined input (parts_of input).protocol.start cut.0));
}
