-- What was read is printable: each of its names stands in the symbols that were read. There a name is a word that
-- isn't reserved, and what is quoted can stand between quotes.
use Rattle.std.proofs.Common.{◌≡◌, ℕ, ◌+◌, Bool, true, false, List, [], ◌∷◌, ◌++◌, length, Option, Some, None, refl, All}
use Rattle.std.proofs.lemmas.List.Elements.{All-append, All-cons, All-head, All-nil, All-tail}
use Rattle.std.specs.List.{AllByRecursion}
use Rattle.rcv_tree.specs.Words.{IsWord}
use Rattle.rcv_tree.specs.Names.{name_at}
use Rattle.rcv_machine.specs.Words.{Sign, Or, And, Symbol, Is, Word, Text, Number, reserved, sign_or, symbol_by, symbols_of, Written, NoStmt, AMessage, AChoice, ARec, AContinue, APar, ADo, Blocks, NoBlock, ABlock, dotted, names_behind, sort_list, roles_behind, decls, stmts, blocks_behind, declared, protocols, WrittenProtocol, IsTreeOf, AreTreesOf, AreDecls}
use Rattle.rcv_machine.specs.Words.{role_at, roles_at, points, points_of, singles, tree_of, trees_of, IsDeclared, Decl, Named, nobody, Place, after_statement, beside, inside, inside_rec, outermost}
use Rattle.rcv_tree.specs.declared.protocol.Protocol.{Protocol}
use Rattle.rcv_model.specs.Text as trees
use Rattle.rcv_model.specs.Places as places
use Rattle.rcv_lexer.specs.declared.token.Kind.{Kind}
use Rattle.rcv_lexer.specs.declared.token.Kind.TheVariants as kinds
use Rattle.rcv_lexer.specs.declared.token.Span.{Span}
use Rattle.rcv_lexer.specs.declared.token.Token.{Token}
use Rattle.rcv_lexer.specs.Tokens.{AreTokens, bytes_of, IsQuotable, IsOfKind}
use Rattle.rcv_lexer.proofs.TokenBytes.{words_are_words}
use Rattle.rcv_reader.specs.Refusals.{AreReadAs}
use Rattle.rcv_grammar.specs.Canonical.{names_at}
use Rattle.rcv_grammar.specs.Printable.{IsName, AreNames, SomeNames, ArePrintableDecls, IsPrintableBody, ArePrintableBlocks, IsPrintable}
use Rattle.rcv_machine.proofs.Passing.{named_by, AreTaken, AreGiven, Passes, PassAll, PassBeside}
use Rattle.rcv_grammar.proofs.Headings.{is_later, IsAdmitted, AreAdmitted}
use Rattle.rcv_grammar.proofs.Canonizing.{name_of, admitted}

-- ---- what tokens say

abbrev IsFine : Symbol → Type 0
IsFine (Is sign) = Unit {0}
IsFine (Word n) = IsName n
IsFine (Text q) = IsQuotable q
IsFine (Number n) = Unit {0}

abbrev AreFine : List Symbol → Type 0
AreFine [] = Unit {0}
AreFine (s ∷ symbols) = IsFine s × AreFine symbols

sign_fine : (o : Option Sign) (symbol : Symbol) → (o ≡ None → IsFine symbol) → IsFine (sign_or o symbol)
sign_fine None symbol h = h refl
sign_fine (Some sign) symbol h = tt

symbol_fine : (kind : Kind) (bytes : List ℕ) → IsOfKind kind bytes → IsFine (symbol_by kind bytes)
symbol_fine kinds.Word bytes h = sign_fine (reserved bytes) (Word bytes) (λ e. (h, e))
symbol_fine kinds.Text bytes h = h
symbol_fine _ bytes h = tt

abbrev Fits : List ℕ → Token → Type 0
Fits bundle t = IsOfKind t.kind (bytes_of bundle t)

tokens_fine : (bundle : List ℕ) (tokens : List Token) → All (Fits bundle) tokens → AreFine (symbols_of bundle tokens)
tokens_fine bundle [] h = tt
tokens_fine bundle (t ∷ tokens) h =
    let first = symbol_fine t.kind (bytes_of bundle t) (All-head (Fits bundle) t tokens h) in
    (first, tokens_fine bundle tokens (All-tail (Fits bundle) t tokens h))

-- ---- lists

-- names that are spelled so, in front of what follows
abbrev Holds : (List (List ℕ) → List Symbol → List Symbol) → List (List ℕ) → List Symbol → Type 0
Holds spell ns next = AreFine (spell ns next) → AreNames ns × AreFine next

fine_names : (ns : List (List ℕ)) (next : List Symbol)
    → Holds names_behind ns next × Holds dotted ns next × Holds roles_behind ns next × Holds sort_list ns next
fine_names [] next = assumption
fine_names (n ∷ ns) next =
    let more = fine_names ns next in (
      λ h. let m = more.0 h.1.1 in assumption,
      λ h. let m = more.1 h.1.1 in assumption,
      λ h. let m = more.2 h.1.1.1 in assumption,
      λ h. let m = more.0 h.1 in assumption,
    )

fine_decls : (ds : List Decl) (next : List Symbol) → AreDecls ds → AreFine (decls ds next) → ArePrintableDecls ds × AreFine next
fine_decls [] next are h = (tt, h)
fine_decls (d ∷ ds) next are (_, (_, (schema, (_, (extern_name, (_, (file, (_, (alias, (_, others)))))))))) =
    let more = fine_decls ds next are.1 others in assumption

-- ---- the body

abbrev pub HasLabel : ℕ × places.SingleMessage → Type 0
HasLabel message = IsWord message.1.label

module _ (later : Bool) (roles : List (List ℕ)) where
  -- the names that a body says, and its labels
  abbrev IsSaid : trees.Body → Type 0
  IsSaid b = IsPrintableBody roles b × All HasLabel (places.singles b)

  abbrev AreSaid : trees.Bodies → Type 0
  AreSaid bs = ArePrintableBlocks roles bs × All HasLabel (places.singles_of bs)

  role_name : (n : List ℕ) → IsDeclared roles n → IsName n → IsName (name_at roles (role_at roles n))
  role_name n is h = rw (name_of roles n is) h

  -- one message for each receiver
  fine_singles : (earlier : Named) (label : List ℕ) (sorts : List (List ℕ)) (sender : ℕ) (rs : List (List ℕ)) (n : ℕ) (before : List ℕ)
      (rest : trees.Body) → IsName label → AreNames sorts → IsName (name_at roles sender)
      → AreTaken roles earlier sender n before rs → AreNames rs → IsSaid rest
      → IsSaid (singles label sorts sender (roles_at roles rs) n rest)
  fine_singles earlier label sorts sender [] n before rest l ss from may names h = h
  fine_singles earlier label sorts sender (r ∷ rs) n before rest l ss from may names h =
      let more = fine_singles earlier label sorts sender rs (n + 1) _ rest l ss from may.5 names.1 h in
      ((l, ss, from, role_name r may.0 names.0, more.0), All-cons HasLabel _ _ l.0 more.1)

  -- the arguments of a call
  fine_places : (earlier : Named) (before : List ℕ) (rs : List (List ℕ)) → AreGiven roles earlier before rs → AreNames rs
      → AreNames (names_at roles (roles_at roles rs))
  fine_places earlier before [] h names = tt
  fine_places earlier before (r ∷ rs) h names =
      (role_name r h.0 names.0, fine_places earlier (before ++ role_at roles r ∷ []) rs h.3 names.1)

  mutual
    fine_body : (n : ℕ) (p : Place) (w : Written) (next : List Symbol) → Passes later roles n p w → AreFine (stmts w next)
        → IsSaid (tree_of roles n w) × AreFine next
    fine_body n p NoStmt next h f = ((tt, All-nil HasLabel), f)
    fine_body n p (AMessage label sorts sender receiver others rest) next h f =
        let ss = (fine_names sorts _).3 f.1.1 in
        let from = role_name sender h.1 ss.1.1.1.0 in
        let receivers = (fine_names others _).0 ss.1.1.1.1.1.1 in
        let more = fine_body (n + (1 + length others)) (after_statement p false) rest next h.4 receivers.1.1 in
        (fine_singles p.earlier label sorts _ (receiver ∷ others) n [] _ f.0 ss.0 from h.3 (ss.1.1.1.1.1.0, receivers.0) more.0, more.1)
    fine_body n p (AChoice subject first others rest) next h f =
        let block = fine_body n (inside p) first _ h.4 f.1.1.1.1 in
        let blocks = fine_blocks (n + points first) p others _ h.5 block.1.1 in
        let more = fine_body (n + (points first + points_of others)) (after_statement p false) rest next h.6 blocks.1 in
        let labels = All-append HasLabel _ _ (All-append HasLabel _ _ block.0.1 blocks.0.1) more.0.1 in
        (((role_name subject h.1 f.1.1.0, (block.0.0, blocks.0.0), more.0.0), labels), more.1)
    fine_body n p (ARec name body rest) next h f =
        let block = fine_body n (inside (inside_rec p name)) body _ h.2 f.1.1.1 in
        let more = fine_body (n + points body) (after_statement p false) rest next h.3 block.1.1 in
        (((f.1.0, block.0.0, more.0.0), All-append HasLabel _ _ block.0.1 more.0.1), more.1)
    fine_body n p (AContinue name rest) next h f =
        let more = fine_body n (after_statement p true) rest next h.3 f.1.1.1 in
        (((f.1.0, more.0.0), more.0.1), more.1)
    fine_body n p (APar first second others rest) next h f =
        let one = named_by nobody first in
        let block = fine_body n (inside (beside p nobody)) first _ h.2.1 f.1.1 in
        let next_block = fine_body (n + points first) (inside (beside p one)) second _ h.2.3 block.1.1.1.1 in
        let blocks = fine_beside (n + points first + points second) p (named_by one second) others _ h.2.4 next_block.1.1 in
        let more = fine_body (n + (points first + (points second + points_of others))) (after_statement p false) rest next h.3 blocks.1 in
        let labels = All-append HasLabel _ _ (All-append HasLabel _ _ block.0.1 (All-append HasLabel _ _ next_block.0.1 blocks.0.1)) more.0.1 in
        ((((block.0.0, (next_block.0.0, blocks.0.0)), more.0.0), labels), more.1)
    fine_body n p (ADo x r rs rest) next h f =
        let others = (fine_names rs _).0 f.1.1.1.1 in
        let more = fine_body n (after_statement p false) rest next h.2 others.1.1.1 in
        let places = fine_places p.earlier [] (r ∷ rs) h.1 (f.1.1.1.0, others.0) in
        (((f.1.0, places, more.0.0), more.0.1), more.1)

    fine_blocks : (n : ℕ) (p : Place) (bs : Blocks) (next : List Symbol) → PassAll later roles n p bs
        → AreFine (blocks_behind Or bs next) → AreSaid (trees_of roles n bs) × AreFine next
    fine_blocks n p NoBlock next h f = ((tt, All-nil HasLabel), f)
    fine_blocks n p (ABlock first others) next h f =
        let block = fine_body n (inside p) first _ h.1 f.1.1 in
        let blocks = fine_blocks (n + points first) p others next h.2 block.1.1 in
        (((block.0.0, blocks.0.0), All-append HasLabel _ _ block.0.1 blocks.0.1), blocks.1)

    fine_beside : (n : ℕ) (p : Place) (since : Named) (bs : Blocks) (next : List Symbol) → PassBeside later roles n p since bs
        → AreFine (blocks_behind And bs next) → AreSaid (trees_of roles n bs) × AreFine next
    fine_beside n p since NoBlock next h f = ((tt, All-nil HasLabel), f)
    fine_beside n p since (ABlock first others) next h f =
        let block = fine_body n (inside (beside p since)) first _ h.1 f.1.1 in
        let blocks = fine_beside (n + points first) p (named_by since first) others next h.2 block.1.1 in
        (((block.0.0, blocks.0.0), All-append HasLabel _ _ block.0.1 blocks.0.1), blocks.1)

-- ---- the protocols

-- Each name that stands before the body of a protocol is one; it can be printed, and its labels are words.
abbrev pub IsSaidSo : Protocol → Type 0
IsSaidSo p = IsName p.name × SomeNames p.roles × IsPrintableBody p.roles (trees.body_of p.body) × All HasLabel (places.singles (trees.body_of p.body))

protocol_said : (names : List (List ℕ)) (w : WrittenProtocol) (p : Protocol) (next : List Symbol) → IsAdmitted names w → IsTreeOf w p
    → AreFine (declared w next) → IsSaidSo p × AreFine next
protocol_said names w p next is tree h =
    let first = h.1.1.1 in
    let others = (fine_names w.other_roles _).2 first.1 in
    let body = fine_body (is_later names w) (w.role ∷ w.other_roles) 0 outermost w.body _ is.passes others.1.1.1 in (
      (
        rw tree.named h.0,
        rw tree.role_names (first.0, others.0),
        rw (tree.tree, tree.role_names) body.0.0,
        rw (tree.tree, tree.role_names) body.0.1,
      ),
      body.1.1,
    )

protocols_said : (names : List (List ℕ)) (ws : List WrittenProtocol) (ps : List Protocol) → AreAdmitted names ws → AreTreesOf ws ps
    → AreFine (protocols ws []) → AllByRecursion IsSaidSo ps
protocols_said names [] [] are trees h = tt
protocols_said names [] (p ∷ ps) are trees h = absurd trees
protocols_said names (w ∷ ws) [] are trees h = absurd trees
protocols_said names (w ∷ ws) (p ∷ ps) are trees h =
    let one = protocol_said names w p (protocols ws []) are.0 trees.0 h.1.1 in
    (one.0, protocols_said (names ++ w.name ∷ []) ws ps are.1 trees.3 one.1)

-- The first one is printable as a module of its own; and the labels of all are words.
pub read_is_named : (bundle : List ℕ) (part : Span) (tokens : List Token) (main : Protocol) (others : List Protocol)
    → AreTokens bundle part tokens → AreReadAs (symbols_of bundle tokens) main others
    → IsPrintable main × All HasLabel (places.singles (trees.body_of main.body)) × AllByRecursion IsSaidSo others
read_is_named bundle part tokens main others are read =
    let r = read.1 in
    let s = r.source in
    let all = admitted (symbols_of bundle tokens) main others read in
    let h = rw r.spelled.2 at (tokens_fine bundle tokens (words_are_words bundle part tokens are)) in
    let modules = (fine_names s.module_more _).1 h.1.1 in
    let decls = fine_decls s.declared _ r.spelled.0 modules.1.1 in
    let first = protocol_said [] s.first main (protocols s.others []) all.0 r.first decls.1.1.1 in (
      record {
        modules = rw r.modules (h.1.0, modules.0);
        declared = rw r.declared decls.0;
        named = first.0.0;
        role_names = first.0.1;
        body = first.0.2;
      },
      first.0.3,
      protocols_said (s.first.name ∷ []) s.others others all.1 r.more first.1,
    )

pub read_is_printable : (bundle : List ℕ) (part : Span) (tokens : List Token) (main : Protocol) (others : List Protocol)
    → AreTokens bundle part tokens → AreReadAs (symbols_of bundle tokens) main others → IsPrintable main
read_is_printable bundle part tokens main others are read = (read_is_named bundle part tokens main others are read).0
