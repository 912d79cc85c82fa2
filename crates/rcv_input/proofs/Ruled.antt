-- An input that a rule of acceptance refuses, at a role that has a name.
use denote.RawPtr.{null_ptr}
use Rattle.std.specs.Global.{Vec}
use Rattle.std.specs.Fmt.{digits}
use Rattle.std.proofs.Common.{◌≡◌, ℕ, ◌≤◌, map, codes, List, [], ◌∷◌, length, refl, sym, ◌∙◌, ap, subst, inl, inr, arith}
use Rattle.rcv_tree.specs.Words.{IsWord}
use Rattle.rcv_tree.specs.declared.statement.Stmt.{Stmt}
use Rattle.rcv_tree.specs.declared.statement.Stmt.TheVariants as stmt
use Rattle.rcv_tree.specs.declared.statement.Stmt.TheOpen.{Block-F, Blocks-F}
use Rattle.rcv_tree.specs.declared.statement.Stmt.TheViews.{roll-Block, out-roll-Block, roll-Blocks, out-roll-Blocks}
use Rattle.rcv_tree.specs.declared.statement.Block.{Block}
use Rattle.rcv_tree.specs.declared.statement.Blocks.{Blocks}
use Rattle.rcv_tree.specs.declared.protocol.Protocol.{Protocol}
use Rattle.rcv_model.specs.Text.{Body, End, Single, Choose, NoMore, Or, stmt_body, body_of, bodies_of, joined, alternatives}
use Rattle.rcv_model.proofs.Text.{body_of_lem, bodies_of_lem, stmt_body-Message, stmt_body-Choice}
use Rattle.rcv_model.specs.Net.{IsIn}
use Rattle.rcv_model.specs.Places.{branch, single}
use Rattle.rcv_model.specs.Accept.{choices, IsFirstOf, Fails, subject, mixed, senders, labels, not_enabled, maybe_done, unreachable, lane_end, IsNotAfter, IsRefusal}
use Rattle.rcv_model.proofs.PlacesLemmas.{offers_complete}
use Rattle.rcv_module.specs.Answers.{IsExpanded}
use Rattle.rcv_lexer.specs.declared.piece.Piece.{Piece}
use Rattle.rcv_lexer.specs.declared.token.Token.{Token}
use Rattle.rcv_lexer.specs.Tokens.{tokens_of}
use Rattle.rcv_syntax.specs.Symbols.{Symbol, symbols_of}
use Rattle.rcv_syntax.specs.Grammar.{NoStmt, AMessage, AChoice, NoBlock, Source}
use Rattle.rcv_reader.specs.Refusals.{AreReadAs}
use Rattle.rcv_reader.proofs.Answering.{read_of}
use Rattle.rcv_input.specs.declared.refused.Refused.TheVariants.{Rule}
use Rattle.rcv_input.specs.Input.{AreProtocolTokens, IsProtocolOf}
use Rattle.rcv_input.specs.Line.{refusal_line}
use Rattle.rcv_input.specs.Refusals.{IsFirstRefusal, ruled_out}
use Rattle.rcv_input.proofs.Cutting.{cuts}
use Rattle.rcv_input.proofs.Once.{one_answer}
use Rattle.rcv_input.proofs.Alone.{own_expansion}
use Rattle.rcv_input.proofs.Worked.{word, sign, space, both, no_decl, one_stmt, alone}

-- B has to choose, but A sends first
abbrev input : List ℕ
input = codes "module m;global protocol P(role A,role B){choice at B{p()from A to B;}}"

abbrev pieces : List Piece
pieces =
    word 6 ∷ space ∷ word 1 ∷ sign ∷ word 6 ∷ space ∷ word 8 ∷ space ∷ word 1 ∷ sign
    ∷ word 4 ∷ space ∷ word 1 ∷ sign ∷ word 4 ∷ space ∷ word 1 ∷ sign ∷ sign
    ∷ word 6 ∷ space ∷ word 2 ∷ space ∷ word 1 ∷ sign
    ∷ word 1 ∷ sign ∷ sign ∷ word 4 ∷ space ∷ word 1 ∷ space ∷ word 2 ∷ space ∷ word 1 ∷ sign ∷ sign ∷ sign ∷ []

abbrev tokens : List Token
tokens = tokens_of input 0 pieces

cut : AreProtocolTokens input tokens
cut = (pieces, cuts 50 input pieces refl, refl)

abbrev symbols : List Symbol
symbols = symbols_of input tokens

abbrev source : Source
source = record {
  module_name = codes "m";
  module_more = [];
  declared = [];
  first = record { name = codes "P"; role = codes "A"; other_roles = codes "B" ∷ []; body = AChoice (codes "B") (AMessage (codes "p") [] (codes "A") (codes "B") [] NoStmt) NoBlock NoStmt };
  others = [];
}

-- ---- its tree

abbrev branches_in : Vec Block
branches_in = record {
  items = roll-Block (record { items = one_stmt }) ∷ [];
  ptr = null_ptr;
  len = 1;
  cap = 1;
  alloc = record { memory = record { seal = tt } };
  ok = (refl, omega arith);
  small = omega arith;
}

abbrev branches : Blocks
branches = roll-Blocks (record { items = branches_in })

abbrev one_choice : Vec Stmt
one_choice = record {
  items = stmt.Choice 1 branches ∷ [];
  ptr = null_ptr;
  len = 1;
  cap = 1;
  alloc = record { memory = record { seal = tt } };
  ok = (refl, omega arith);
  small = omega arith;
}

abbrev protocol : Protocol
protocol = record {
  «module» = codes "m" ∷ [];
  decls = record { items = no_decl };
  name = codes "P";
  roles = both;
  body = roll-Block (record { items = one_choice });
}

abbrev one : Body
one = Single (codes "p") [] 0 1 1 End

abbrev body : Body
body = Choose 1 (Or one NoMore) End

its_branch : body_of (roll-Block (record { items = one_stmt })) ≡ one
its_branch =
    body_of_lem (roll-Block (record { items = one_stmt }))
    ∙ ap (λ (b : Block-F Stmt Block Blocks). joined (map stmt_body b.items.items)) (out-roll-Block (record { items = one_stmt }))
    ∙ stmt_body-Message (codes "p") [] 0 1 1 End

its_branches : bodies_of branches ≡ Or one NoMore
its_branches =
    bodies_of_lem branches
    ∙ ap (λ (b : Blocks-F Stmt Block Blocks). alternatives (map body_of b.items.items)) (out-roll-Blocks (record { items = branches_in }))
    ∙ ap (λ (b : Body). Or b NoMore) its_branch

its_body : body_of protocol.body ≡ body
its_body =
    body_of_lem protocol.body
    ∙ ap (λ (b : Block-F Stmt Block Blocks). joined (map stmt_body b.items.items)) (out-roll-Block (record { items = one_choice }))
    ∙ stmt_body-Choice 1 branches End
    ∙ ap (λ bs. Choose 1 bs End) its_branches

is_read : AreReadAs symbols protocol []
is_read = read_of symbols protocol [] (
  refl,
  record {
    source = source;
    spelled = (tt, ((tt, tt, tt, tt), tt), refl);
    modules = refl;
    declared = refl;
    first = record { named = refl; role_names = refl; fit = ((1, refl), ((0, refl), ((1, refl), refl, refl, tt), tt), tt, tt); tree = its_body };
    more = tt;
  },
)

expanded : IsExpanded (alone protocol) protocol
expanded = own_expansion (alone protocol) body refl its_body ((λ n. n, tt, tt), tt) (refl, tt)

text : IsProtocolOf input protocol
text = record { tokens = tokens; whole = alone protocol; cut = cut; read = (is_read, refl); expanded = expanded }

-- ---- its refusal

-- A sends the choice's first point
wrong_subject : Fails body 2 20 1 1
wrong_subject = subject (inl (refl, branch one (inl refl) single)) (λ e. omega arith)

-- no rule comes before that on subjects, and no choice has another first point
none_before : {d q m : ℕ} → Fails body 2 d q m → IsNotAfter 20 1 1 d q m
none_before (subject {s} {p} first unsent) = at_subject first
  where
    low : (p : ℕ) → IsIn p (1 ∷ []) → 1 ≤ p
    low p (inl e) = omega (arith, e)
    low p (inr i) = absurd i

    at_subject : {s p : ℕ} → IsFirstOf (choices [] body) s p → IsNotAfter 20 1 1 20 s p
    at_subject {s} {p} (inl a) = inr (refl, inr (a.0, low p (offers_complete (record { left = body; frames = [] }) p a.1)))
    at_subject {s} {p} (inr i) = absurd i
none_before (mixed x y declared place next other sends receives) = inl (omega arith)
none_before (senders x y declared place next other first second differ) = inl (omega arith)
none_before (labels x y declared place next other alike differ) = inl (omega arith)
none_before (not_enabled declared place closed) = inl (omega arith)
none_before (maybe_done z w declared place next walk ended none) = inl (omega arith)
none_before (unreachable sends first last unreached) = inl (omega arith)
none_before (lane_end sends first last later never) = inl (omega arith)

refusal : IsRefusal (body_of protocol.body) (length protocol.roles) 20 1 1
refusal = subst (λ (b : Body). IsRefusal b 2 20 1 1) (sym its_body) (record { fails = wrong_subject; least = λ d q m fails. none_before fails })

is_refused : IsFirstRefusal input (Rule 20 (codes "B") 1)
is_refused = ruled_out protocol 20 1 1 (codes "B") text refusal refl

-- its name is a word, as the law says
is_named : IsWord (codes "B")
is_named = one_answer.named input 20 (codes "B") 1 is_refused

is_written : refusal_line (Rule 20 (codes "B") 1) ≡ codes "refused 20 Subject B 1\n"
unfolding digits
is_written = refl
