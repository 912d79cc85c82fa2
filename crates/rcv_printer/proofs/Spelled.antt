-- A canonical text says the spelling of its source.
use Rattle.std.proofs.Common.{◌≡◌, ℕ, true, List, [], ◌∷◌, ◌++◌, refl, ⊎_elim, append_assoc, rules, codes, bytes_eq}
use Rattle.std.proofs.lemmas.Bool.{cases_Bool}
use Rattle.std.proofs.lemmas.Slice.Eq.{bytes_eq-Decides}
use Rattle.rcv_tree.specs.Lists.{declarations}
use Rattle.rcv_tree.specs.Words.{is_word_byte}
use Rattle.rcv_tree.specs.declared.protocol.Decl.{Decl}
use Rattle.rcv_tree.specs.declared.protocol.Protocol.{Protocol}
use Rattle.rcv_tree.specs.Names.{name_at}
use Rattle.rcv_model.specs.Text.{Body, End, Single, Choose, Loop, Again, Parallel, Call, Bodies, NoMore, Or, body_of}
use Rattle.rcv_syntax.specs.declared.sign.Sign.{Sign}
use Rattle.rcv_syntax.specs.declared.sign.Sign.TheVariants as sign
use Rattle.rcv_syntax.specs.Symbols.{Symbol, Is, Word}
use Rattle.rcv_syntax.specs.Grammar.{is_decl_word, dotted, names_behind, sort_list, roles_behind, decl, decls, stmts, blocks_behind, spelling}
use Rattle.rcv_grammar.specs.Canonical.{names_at, first_name, more_names, written_of, blocks_of, source_of}
use Rattle.rcv_grammar.specs.Printable.{IsName, AreNames, SomeNames, IsPrintableDecl, ArePrintableDecls, IsPrintableBody, ArePrintableBlocks, IsPrintable}
use Rattle.rcv_printer.specs.CanonicalText.{inner, listed, comma_list, module_line, decl_line, decl_lines, body_text, blocks_text, head_line, canonical}
use Rattle.rcv_printer.proofs.Saying.{StopsAt, Says, space, feed, mark, left, dot, opened, close, spaced, name, less_piece, text, says_nothing}

-- ---- lists of names

-- This text in front of each name says what the symbols of a list have in front of each, and ends a word.
record IsList (between : List ℕ) (spelled : List (List ℕ) → List Symbol → List Symbol) : Type 0 where
  pub stops : (next : List ℕ) → StopsAt is_word_byte (between ++ next)
  pub none : (s : List Symbol) → spelled [] s ≡ s
  pub more : (n : List ℕ) (ns : List (List ℕ)) (next : List ℕ) (s : List Symbol) → Says next (Word n ∷ spelled ns s) → Says (between ++ next) (spelled (n ∷ ns) s)

-- , A, B
commas : IsList (codes ", ") names_behind
commas = record { stops = λ next. refl; none = λ s. refl; more = λ n ns next s said. mark 44 refl refl (space said) }

-- .a.b
dots : IsList (codes ".") dotted
dots = record { stops = λ next. refl; none = λ s. refl; more = λ n ns next s said. dot said }

-- , role A, role B
role_commas : IsList (codes ", role ") roles_behind
role_commas = record {
  stops = λ next. refl;
  none = λ s. refl;
  more = λ n ns next s said. mark 44 refl refl (space (spaced (codes "role") (search rules) said));
}

-- a name in front of such a list
says_list : {between : List ℕ} {spelled : List (List ℕ) → List Symbol → List Symbol} → IsList between spelled → (n : List ℕ) (ns : List (List ℕ)) {next : List ℕ} {s : List Symbol}
    → IsName n → AreNames ns → Says next s → StopsAt is_word_byte next → Says (n ++ listed between between ns next) (Word n ∷ spelled ns s)
says_list list n [] {next} {s} h others said stop = name n h (rw (list.none s) said) stop
says_list list n (m ∷ ns) {next} {s} h others said stop =
    name n h (list.more m ns _ s (says_list list m ns others.0 others.1 said stop)) (list.stops _)

says_sorts : (ns : List (List ℕ)) {next : List ℕ} {s : List Symbol} → AreNames ns → Says next s → StopsAt is_word_byte next
    → Says (comma_list ns next) (sort_list ns s)
says_sorts [] h said stop = said
says_sorts (n ∷ ns) h said stop = says_list commas n ns h.0 h.1 said stop

-- ---- declarations

-- type or data
says_decl_word : (w : List ℕ) {next : List ℕ} {s : List Symbol} → is_decl_word w ≡ true → Says next s → Says (w ++ 32 ∷ next) (Word w ∷ s)
says_decl_word w h said =
    ⊎_elim (λ e. rw ((bytes_eq-Decides w (codes "type")).0 e) (spaced (codes "type") (search rules) said))
    (λ e. rw ((bytes_eq-Decides w (codes "data")).0 (rw e at h)) (spaced (codes "data") (search rules) said))
    (cases_Bool (bytes_eq w (codes "type")))

says_decl : (d : Decl) {next : List ℕ} {s : List Symbol} → IsPrintableDecl d → Says next s → Says (decl_line d next) (decl d s)
says_decl d h said =
    let alias = name d.alias h.alias (mark 59 refl refl (feed said)) refl in
    let file = text d.file h.file (space (spaced (codes "as") (search rules) alias)) in
    let extern_name = text d.extern_name h.extern_name (space (spaced (codes "from") (search rules) file)) in
    let schema = name d.schema h.schema (mark 62 refl refl (space extern_name)) refl in
    says_decl_word d.word h.word (mark 60 (less_piece d.schema _ h.schema.0) refl schema)

says_decls : (ds : List Decl) {next : List ℕ} {s : List Symbol} → ArePrintableDecls ds → Says next s → Says (decl_lines ds next) (decls ds s)
says_decls [] h said = said
says_decls (d ∷ ds) h said = says_decl d h.0 (says_decls ds h.1 said)

-- ---- statements

-- blanks, which say nothing
abbrev IsMargin : List ℕ → Type 0
IsMargin margin = (next : List ℕ) (s : List Symbol) → Says next s → Says (margin ++ next) s

inner_margin : (margin : List ℕ) → IsMargin margin → IsMargin (inner margin)
inner_margin margin m next s said = rw (append_assoc margin (codes "  ") next) (m _ s (space (space said)))

-- what stands in front of a brace says this sign
abbrev Joins : List ℕ → Sign → Type 0
Joins between word = (next : List ℕ) (s : List Symbol) → Says next s → Says (between ++ next) (Is word ∷ s)

mutual
  says_body : (roles : List (List ℕ)) (margin : List ℕ) (b : Body) (next : List ℕ) (s : List Symbol) → IsMargin margin → IsPrintableBody roles b → Says next s
      → Says (body_text roles margin b next) (stmts (written_of roles b) s)
  says_body roles margin End next s m h said = said
  says_body roles margin (Single label sorts sender receiver point rest) next s m h said =
      let after = mark 59 refl refl (feed (says_body roles margin rest next s m h.4 said)) in
      let to = space (spaced (codes "to") (search rules) (name (name_at roles receiver) h.3 after refl)) in
      let source = mark 41 refl refl (space (spaced (codes "from") (search rules) (name (name_at roles sender) h.2 to refl))) in
      m _ _ (name label h.0 (left (says_sorts sorts h.1 source refl)) refl)
  says_body roles margin (Choose subject (Or first others) rest) next s m h said =
      let after = feed (says_body roles margin rest next s m h.2 said) in
      let joins : Joins (codes " or ") sign.Or = λ _ _ more. space (spaced (codes "or") (search rules) more) in
      let more = m _ _ (close (says_blocks roles margin (codes " or ") sign.Or others _ _ m joins h.1.1 after)) in
      let block = space (opened (says_body roles (inner margin) first _ _ (inner_margin margin m) h.1.0 more)) in
      m _ _ (spaced (codes "choice") (search rules) (spaced (codes "at") (search rules) (name (name_at roles subject) h.0 block refl)))
  says_body roles margin (Loop n body rest) next s m h said =
      let more = m _ _ (close (feed (says_body roles margin rest next s m h.2 said))) in
      let block = space (opened (says_body roles (inner margin) body _ _ (inner_margin margin m) h.1 more)) in
      m _ _ (spaced (codes "rec") (search rules) (name n h.0 block refl))
  says_body roles margin (Again n rest) next s m h said =
      let after = mark 59 refl refl (feed (says_body roles margin rest next s m h.1 said)) in
      m _ _ (spaced (codes "continue") (search rules) (name n h.0 after refl))
  says_body roles margin (Parallel (Or first (Or second others)) rest) next s m h said =
      let after = feed (says_body roles margin rest next s m h.1 said) in
      let joins : Joins (codes " and ") sign.And = λ _ _ more. space (spaced (codes "and") (search rules) more) in
      let more = m _ _ (close (says_blocks roles margin (codes " and ") sign.And (Or second others) _ _ m joins h.0.1 after)) in
      m _ _ (spaced (codes "par") (search rules) (opened (says_body roles (inner margin) first _ _ (inner_margin margin m) h.0.0 more)))
  says_body roles margin (Call n (r ∷ rs) rest) next s m h said =
      let after = mark 41 refl refl (mark 59 refl refl (feed (says_body roles margin rest next s m h.2 said))) in
      let places = says_list commas (name_at roles r) (names_at roles rs) h.1.0 h.1.1 after refl in
      m _ _ (spaced (codes "do") (search rules) (name n h.0 (left places) refl))
  says_body roles margin _ next s m h said = absurd assumption

  says_blocks : (roles : List (List ℕ)) (margin between : List ℕ) (word : Sign) (bs : Bodies) (next : List ℕ) (s : List Symbol) → IsMargin margin → Joins between word
      → ArePrintableBlocks roles bs → Says next s → Says (blocks_text roles margin between between bs next) (blocks_behind word (blocks_of roles bs) s)
  says_blocks roles margin between word NoMore next s m joins h said = said
  says_blocks roles margin between word (Or first others) next s m joins h said =
      let more = m _ _ (close (says_blocks roles margin between word others next s m joins h.1 said)) in
      joins _ _ (opened (says_body roles (inner margin) first _ _ (inner_margin margin m) h.0 more))

-- ---- the whole text

says_module : (names : List (List ℕ)) {next : List ℕ} {s : List Symbol} → SomeNames names → Says next s
    → Says (module_line names next) (Is sign.Module ∷ Word (first_name names) ∷ dotted (more_names names) (Is sign.Semicolon ∷ s))
says_module [] h said = absurd h
says_module (n ∷ ns) h said = spaced (codes "module") (search rules) (says_list dots n ns h.0 h.1 (mark 59 refl refl (feed said)) refl)

says_head : (n : List ℕ) (roles : List (List ℕ)) {next : List ℕ} {s : List Symbol} → IsName n → SomeNames roles → Says next s
    → Says (head_line n roles next)
    (Is sign.Global ∷ Is sign.Protocol ∷ Word n ∷ Is sign.Left ∷ Is sign.Role ∷ Word (first_name roles) ∷ roles_behind (more_names roles) (Is sign.Right ∷ Is sign.Open ∷ s))
says_head n [] h names said = absurd names
says_head n (r ∷ rs) h names said =
    let after = mark 41 refl refl (space (opened said)) in
    let roles = left (spaced (codes "role") (search rules) (says_list role_commas r rs names.0 names.1 after refl)) in
    spaced (codes "global") (search rules) (spaced (codes "protocol") (search rules) (name n h roles refl))

pub says_canonical : (p : Protocol) → IsPrintable p → Says (canonical p) (spelling (source_of p))
says_canonical p h =
    let body = says_body p.roles (inner []) (body_of p.body) _ _ (λ next s said. space (space said)) h.body (close (feed says_nothing)) in
    says_module p.«module» h.modules (says_decls (declarations p.decls) h.declared (feed (says_head p.name p.roles h.named h.role_names body)))
