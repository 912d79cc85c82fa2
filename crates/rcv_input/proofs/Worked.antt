-- An input of one message that is taken as a session without a plan: what the laws ask of inputs is met.
use denote.RawPtr.{null_ptr}
use Rattle.std.specs.Global.{Vec}
use Rattle.std.proofs.Common.{◌≡◌, ℕ, map, Some, None, codes, List, [], ◌∷◌, length, refl, sym, ◌∙◌, ap, subst, arith}
use Rattle.rcv_tree.specs.declared.statement.Stmt.{Stmt}
use Rattle.rcv_tree.specs.declared.statement.Stmt.TheVariants as stmt
use Rattle.rcv_tree.specs.declared.statement.Stmt.TheOpen.{Block-F}
use Rattle.rcv_tree.specs.declared.statement.Stmt.TheViews.{roll-Block, out-roll-Block}
use Rattle.rcv_tree.specs.declared.statement.Block.{Block}
use Rattle.rcv_tree.specs.declared.statement.Blocks.{Blocks}
use Rattle.rcv_tree.specs.declared.module.Module.{Module}
use Rattle.rcv_tree.specs.declared.protocol.Decl.{Decl}
use Rattle.rcv_tree.specs.declared.protocol.Protocol.{Protocol}
use Rattle.rcv_model.specs.Text.{Body, End, Single, stmt_body, body_of, joined}
use Rattle.rcv_model.proofs.Text.{body_of_lem, stmt_body-Message}
use Rattle.rcv_model.specs.Plain.{IsPlain}
use Rattle.rcv_model.specs.Places.{net_of}
use Rattle.rcv_model.specs.Next.{IsAccepted}
use Rattle.rcv_model.specs.Accept.{HasSubjects}
use Rattle.rcv_model.specs.Form.{HasForm}
use Rattle.rcv_model.proofs.PlainNets.{plain_accepted}
use Rattle.rcv_module.specs.Answers.{IsExpanded}
use Rattle.rcv_session.specs.Session.{SessionView}
use Rattle.rcv_lexer.specs.declared.piece.Piece.{Piece}
use Rattle.rcv_lexer.specs.declared.token.Kind.TheVariants.{Word, Mark}
use Rattle.rcv_lexer.specs.declared.token.Token.{Token}
use Rattle.rcv_lexer.specs.Tokens.{tokens_of}
use Rattle.rcv_syntax.specs.Symbols.{Symbol, symbols_of}
use Rattle.rcv_syntax.specs.Grammar.{NoStmt, AMessage, Source}
use Rattle.rcv_reader.specs.Refusals.{AreReadAs}
use Rattle.rcv_reader.proofs.Answering.{read_of}
use Rattle.rcv_script.specs.Meaning.{no_lines}
use Rattle.rcv_script.specs.Scripts.{messages_of}
use Rattle.rcv_script.proofs.Answering.{none_read as no_scripts_read}
use Rattle.rcv_plan.proofs.Answered.{none_read}
use Rattle.rcv_input.specs.Input.{AreProtocolTokens, IsProtocolOf, IsTaken}
use Rattle.rcv_input.proofs.Cutting.{cuts}
use Rattle.rcv_input.proofs.Alone.{own_expansion}
use Rattle.rcv_input.proofs.Formed.{has_form, is_full, has_names}

abbrev pub input : List ℕ
input = codes "module m;global protocol P(role A,role B){p()from A to B;}"

abbrev pub word : ℕ → Piece
word n = record { token = Some Word; len = n }

abbrev pub sign : Piece
sign = record { token = Some Mark; len = 1 }

abbrev pub space : Piece
space = record { token = None; len = 1 }

abbrev pub pieces : List Piece
pieces =
    word 6 ∷ space ∷ word 1 ∷ sign ∷ word 6 ∷ space ∷ word 8 ∷ space ∷ word 1 ∷ sign
    ∷ word 4 ∷ space ∷ word 1 ∷ sign ∷ word 4 ∷ space ∷ word 1 ∷ sign ∷ sign
    ∷ word 1 ∷ sign ∷ sign ∷ word 4 ∷ space ∷ word 1 ∷ space ∷ word 2 ∷ space ∷ word 1 ∷ sign ∷ sign ∷ []

abbrev pub tokens : List Token
tokens = tokens_of input 0 pieces

pub cut : AreProtocolTokens input tokens
cut = (pieces, cuts 40 input pieces refl, refl)

abbrev pub symbols : List Symbol
symbols = symbols_of input tokens

abbrev pub both : List (List ℕ)
both = codes "A" ∷ codes "B" ∷ []

abbrev source : Source
source = record {
  module_name = codes "m";
  module_more = [];
  declared = [];
  first = record { name = codes "P"; role = codes "A"; other_roles = codes "B" ∷ []; body = AMessage (codes "p") [] (codes "A") (codes "B") [] NoStmt };
  others = [];
}

abbrev pub no_decl : Vec Decl
no_decl = record { items = []; ptr = null_ptr; len = 0; cap = 0; alloc = record { memory = record { seal = tt } }; ok = (refl, omega arith); small = omega arith }

abbrev pub one_stmt : Vec Stmt
one_stmt = record {
  items = stmt.Message (codes "p") [] 0 1 1 ∷ [];
  ptr = null_ptr;
  len = 1;
  cap = 1;
  alloc = record { memory = record { seal = tt } };
  ok = (refl, omega arith);
  small = omega arith;
}

abbrev pub protocol : Protocol
protocol = record {
  «module» = codes "m" ∷ [];
  decls = record { items = no_decl };
  name = codes "P";
  roles = both;
  body = roll-Block (record { items = one_stmt });
}

abbrev pub one : Body
one = Single (codes "p") [] 0 1 1 End

pub its_body : body_of protocol.body ≡ one
its_body =
    body_of_lem protocol.body
    ∙ ap (λ (b : Block-F Stmt Block Blocks). joined (map stmt_body b.items.items)) (out-roll-Block (record { items = one_stmt }))
    ∙ stmt_body-Message (codes "p") [] 0 1 1 End

pub is_read : AreReadAs symbols protocol []
is_read = read_of symbols protocol [] (
  refl,
  record {
    source = source;
    spelled = (tt, (tt, tt), refl);
    modules = refl;
    declared = refl;
    first = record { named = refl; role_names = refl; fit = ((0, refl), ((1, refl), refl, refl, tt), tt); tree = its_body };
    more = tt;
  },
)

abbrev pub no_protocol : Vec Protocol
no_protocol = record { items = []; ptr = null_ptr; len = 0; cap = 0; alloc = record { memory = record { seal = tt } }; ok = (refl, omega arith); small = omega arith }

-- a module of it alone, without calls
abbrev pub alone : Protocol → Module
alone p = record { main = p; others = record { items = no_protocol }; dos = [] }

pub expanded : IsExpanded (alone protocol) protocol
expanded = own_expansion (alone protocol) one refl its_body tt (refl, tt)

pub text : IsProtocolOf input protocol
text = record { tokens = tokens; whole = alone protocol; cut = cut; read = (is_read, refl); expanded = expanded }

form : HasForm (body_of protocol.body) (length protocol.roles)
form = has_form input protocol text

fine : IsAccepted (net_of (body_of protocol.body)) (length protocol.roles) × HasSubjects (body_of protocol.body)
fine = plain_accepted (body_of protocol.body) (length protocol.roles) (subst IsPlain (sym its_body) tt) form

abbrev pub session : SessionView
session = record { protocol = protocol; scripts = no_lines protocol.roles; plan = [] }

pub taken : IsTaken input session
taken = record {
  protocol = record {
    text = text;
    accepted = record {
      form = form;
      full = is_full input protocol text;
      names = has_names input protocol text;
      accepted = fine.0;
      subjects = fine.1;
    };
  };
  are_scripts = record { tokens = []; cut = ([], refl, refl); read = no_scripts_read both (messages_of protocol) };
  plan = record { tokens = []; cut = ([], refl, refl); read = none_read both };
}
