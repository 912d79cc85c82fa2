-- Inputs of two protocols: one is taken with the roles of the called one exchanged, one is refused at its call.
use denote.RawPtr.{null_ptr}
use Rattle.std.specs.Global.{Vec}
use Rattle.std.specs.Prelude.{slice_get}
use Rattle.std.proofs.Common.{◌≡◌, ℕ, zero, suc, ◌<◌, map, Option, Some, None, codes, List, [], ◌∷◌, ◌++◌, refl, sym, ◌∙◌, ap, subst, inl, arith}
use Rattle.rcv_tree.specs.declared.statement.Stmt.{Stmt}
use Rattle.rcv_tree.specs.declared.statement.Stmt.TheVariants as stmt
use Rattle.rcv_tree.specs.declared.statement.Stmt.TheOpen.{Block-F}
use Rattle.rcv_tree.specs.declared.statement.Stmt.TheViews.{roll-Block, out-roll-Block}
use Rattle.rcv_tree.specs.declared.statement.Block.{Block}
use Rattle.rcv_tree.specs.declared.statement.Blocks.{Blocks}
use Rattle.rcv_tree.specs.declared.module.Module.{Module}
use Rattle.rcv_tree.specs.declared.protocol.Protocol.{Protocol}
use Rattle.rcv_model.specs.Text.{Body, End, Single, Call, stmt_body, body_of, joined}
use Rattle.rcv_model.specs.Plain.{IsPlain}
use Rattle.rcv_model.specs.Places.{net_of}
use Rattle.rcv_model.specs.Next.{IsAccepted}
use Rattle.rcv_model.specs.Accept.{HasSubjects}
use Rattle.rcv_model.specs.Form.{HasForm}
use Rattle.rcv_model.proofs.PlainNets.{plain_accepted}
use Rattle.rcv_model.proofs.Text.{body_of_lem, stmt_body-Message, stmt_body-Do}
use Rattle.rcv_module.specs.declared.fault.Fault.{Fault}
use Rattle.rcv_module.specs.declared.fault.Fault.TheVariants.{Deep, NoName, TooMany, Arity, Recursive, Empty}
use Rattle.rcv_module.specs.Answers.{IsExpanded}
use Rattle.rcv_module.specs.Expansion as expansion
use Rattle.rcv_module.specs.Expansion.{IsExpansion}
use Rattle.rcv_module.specs.Parts.{Part, IsNamed, Site, parts_of, site, sites}
use Rattle.rcv_module.specs.Refusing.{code_of, itself, by_call, Reaches, HoldsAt, AreCallable, IsFirstCall, IsFree, IsRefusedAt}
use Rattle.rcv_module.specs.Sizes as sizes
use Rattle.rcv_module.specs.Sizes.{Size}
use Rattle.rcv_lexer.specs.declared.piece.Piece.{Piece}
use Rattle.rcv_lexer.specs.declared.token.Token.{Token}
use Rattle.rcv_lexer.specs.Tokens.{tokens_of}
use Rattle.rcv_syntax.specs.Symbols.{symbols_of}
use Rattle.rcv_syntax.specs.Grammar.{NoStmt, AMessage, ADo, Source}
use Rattle.rcv_reader.specs.Refusals.{IsRead}
use Rattle.rcv_reader.proofs.Answering.{read_of}
use Rattle.rcv_script.specs.Meaning.{no_lines}
use Rattle.rcv_script.specs.Scripts.{messages_of}
use Rattle.rcv_script.proofs.Answering.{none_read as no_scripts_read}
use Rattle.rcv_plan.proofs.Answered.{none_read}
use Rattle.rcv_input.specs.declared.refused.Refused.TheVariants.{Line}
use Rattle.rcv_input.specs.Input.{AreProtocolTokens, IsProtocolOf, IsTaken}
use Rattle.rcv_input.specs.Refusals.{IsFirstRefusal, uncallable}
use Rattle.rcv_input.proofs.Cutting.{cuts}
use Rattle.rcv_input.proofs.Formed.{has_form, is_full, has_names}
use Rattle.rcv_input.proofs.Worked.{word, sign, space, both, no_decl}

-- ---- what both inputs have

-- { stmt } and { p() from the first role to the second; }
abbrev vec_of_one : Stmt → Vec Stmt
vec_of_one s = record { items = s ∷ []; ptr = null_ptr; len = 1; cap = 1; alloc = record { memory = record { seal = tt } }; ok = (refl, omega arith); small = omega arith }

abbrev block_of_one : Stmt → Block
block_of_one s = roll-Block (record { items = vec_of_one s })

body_of_one : (s : Stmt) → body_of (block_of_one s) ≡ stmt_body s End
body_of_one s = body_of_lem (block_of_one s) ∙ ap (λ (b : Block-F Stmt Block Blocks). joined (map stmt_body b.items.items)) (out-roll-Block (record { items = vec_of_one s }))

abbrev p_to : ℕ → ℕ → Stmt
p_to s r = stmt.Message (codes "p") [] s r 1

abbrev one : ℕ → ℕ → Body
one s r = Single (codes "p") [] s r 1 End

one_message : (s r : ℕ) → body_of (block_of_one (p_to s r)) ≡ one s r
one_message s r = body_of_one (p_to s r) ∙ stmt_body-Message (codes "p") [] s r 1 End

-- the second protocol, and the first with these arguments
abbrev half : Protocol
half = record { «module» = []; decls = record { items = no_decl }; name = codes "H"; roles = codes "C" ∷ codes "D" ∷ []; body = block_of_one (p_to 0 1) }

abbrev calling : List ℕ → Protocol
calling rs = record { «module» = codes "m" ∷ []; decls = record { items = no_decl }; name = codes "P"; roles = both; body = block_of_one (stmt.Do (codes "H") rs) }

abbrev whole : List ℕ → Module
whole rs = record {
  main = calling rs;
  others = record { items = record { items = half ∷ []; ptr = null_ptr; len = 1; cap = 1; alloc = record { memory = record { seal = tt } }; ok = (refl, omega arith); small = omega arith } };
  dos = 1 ∷ [];
}

abbrev part : List ℕ → Body → Part
part name body = record { name = name; roles = 2; body = body }

abbrev half_part : Part
half_part = part (codes "H") (one 0 1)

abbrev parts : List ℕ → List Part
parts rs = part (codes "P") (Call (codes "H") rs End) ∷ half_part ∷ []

its_call : (rs : List ℕ) → body_of (calling rs).body ≡ Call (codes "H") rs End
its_call rs = body_of_one (stmt.Do (codes "H") rs) ∙ stmt_body-Do (codes "H") rs End

its_parts : (rs : List ℕ) → parts_of (whole rs) ≡ parts rs
its_parts rs = ap (λ (b : Body). part (codes "P") b ∷ part (codes "H") (body_of half.body) ∷ []) (its_call rs) ∙ ap (λ (b : Body). part (codes "P") (Call (codes "H") rs End) ∷ part (codes "H") b ∷ []) (one_message 0 1)

-- the heads of both, with this between them
abbrev around : List ℕ → List ℕ
around arguments = codes "module m;global protocol P(role A,role B){do H(" ++ arguments ++ codes ");}global protocol H(role C,role D){p()from C to D;}"

abbrev heading : List Piece
heading =
    word 6 ∷ space ∷ word 8 ∷ space ∷ word 1 ∷ sign ∷ word 4 ∷ space ∷ word 1 ∷ sign ∷ word 4 ∷ space ∷ word 1 ∷ sign ∷ sign ∷ []

abbrev pieces : List Piece → List Piece
pieces arguments =
    word 6 ∷ space ∷ word 1 ∷ sign ∷ heading ++ word 2 ∷ space ∷ word 1 ∷ sign ∷ arguments ++ sign ∷ sign ∷ sign
    ∷ heading ++ word 1 ∷ sign ∷ sign ∷ word 4 ∷ space ∷ word 1 ∷ space ∷ word 2 ∷ space ∷ word 1 ∷ sign ∷ sign ∷ []

abbrev source : List ℕ → List (List ℕ) → Source
source role others = record {
  module_name = codes "m";
  module_more = [];
  declared = [];
  first = record { name = codes "P"; role = codes "A"; other_roles = codes "B" ∷ []; body = ADo (codes "H") role others NoStmt };
  others = record { name = codes "H"; role = codes "C"; other_roles = codes "D" ∷ []; body = AMessage (codes "p") [] (codes "C") (codes "D") [] NoStmt } ∷ [];
}

-- ---- do H(B,A);

abbrev exchanged : List ℕ
exchanged = around (codes "B,A")

abbrev exchanged_tokens : List Token
exchanged_tokens = tokens_of exchanged 0 (pieces (word 1 ∷ sign ∷ word 1 ∷ []))

exchanged_cut : AreProtocolTokens exchanged exchanged_tokens
exchanged_cut = (pieces (word 1 ∷ sign ∷ word 1 ∷ []), cuts 80 exchanged (pieces (word 1 ∷ sign ∷ word 1 ∷ [])) refl, refl)

exchanged_read : IsRead exchanged exchanged_tokens (whole (1 ∷ 0 ∷ []))
exchanged_read = (
  read_of (symbols_of exchanged exchanged_tokens) (calling (1 ∷ 0 ∷ [])) (half ∷ []) (
    refl,
    record {
      source = source (codes "B") (codes "A" ∷ []);
      spelled = (tt, (tt, (tt, tt)), refl);
      modules = refl;
      declared = refl;
      first = record { named = refl; role_names = refl; fit = (((1, refl), refl, ((0, refl), refl, tt)), tt); tree = its_call (1 ∷ 0 ∷ []) };
      more = (record { named = refl; role_names = refl; fit = ((0, refl), ((1, refl), refl, refl, tt), tt); tree = one_message 0 1 }, refl, refl, tt);
    },
  ),
  refl,
)

-- the place of the second protocol
abbrev second : Option ℕ
second = Some 1

-- no code holds at the call: the second protocol has the name, two roles and a message, and doesn't call
abbrev here : Site
here = site 0 (codes "H") (1 ∷ 0 ∷ [])

comes_back : (j k : ℕ) → j ≡ 1 → k ≡ 0 → Reaches (parts (1 ∷ 0 ∷ [])) j k → ⊥
comes_back j k at end (itself i) = omega (arith, at, end)
comes_back j k at end (by_call a b c one more) = go one.number one.call one.is (one.holds ∙ at)
  where
    go : (n : ℕ) (s : Site) → slice_get (sites (parts (1 ∷ 0 ∷ []))) n ≡ Some s → s.holder ≡ 1 → ⊥
    go zero s is holds = let same : here ≡ s = cc in let first : 0 ≡ s.holder = ap (λ (x : Site). x.holder) same in omega (arith, first, holds)
    go (suc n) s is holds = absurd cc

is_half : (p : Part) → IsNamed (parts (1 ∷ 0 ∷ [])) (codes "H") p → half_part ≡ p
is_half p named =
    let at : Some 1 ≡ Some named.0 = named.1 in
    let same : 1 ≡ named.0 = cc in
    let found : Some half_part ≡ Some p = subst (λ (i : ℕ). slice_get (parts (1 ∷ 0 ∷ [])) i ≡ Some p) (sym same) named.2 in
    cc

no_fault : (g : Fault) → HoldsAt (parts (1 ∷ 0 ∷ [])) g here → ⊥
no_fault Deep h = h
no_fault NoName h = let named : second ≡ None = h in absurd cc
no_fault TooMany h = h
no_fault Arity h = h.2 (ap (λ (x : Part). x.roles) (is_half h.0 h.1))
no_fault Recursive h = let at : Some 1 ≡ Some h.0 = h.1 in let same : 1 ≡ h.0 = cc in comes_back h.0 0 (sym same) refl h.2
no_fault Empty h = let empty : one 0 1 ≡ End = ap (λ (x : Part). x.body) (is_half h.0 h.1) ∙ h.2 in absurd cc

callable : AreCallable (parts (1 ∷ 0 ∷ []))
callable zero s g is holds = let same : here ≡ s = cc in no_fault g (subst (HoldsAt (parts (1 ∷ 0 ∷ [])) g) (sym same) holds)
callable (suc n) s g is holds = absurd cc

abbrev in_size : Size
in_size = record { points = 1; blocks = 1 }

free : IsFree (parts (1 ∷ 0 ∷ []))
free = (
  callable,
  (
    in_size ∷ [],
    record {
      main = part (codes "P") (Call (codes "H") (1 ∷ 0 ∷ []) End);
      first = refl;
      ends = in_size ∷ [];
      whole = in_size;
      passes = sizes.call half_part (1, refl, refl) (sizes.message sizes.at_end) sizes.at_end;
      blames = refl;
    },
    refl,
    refl,
  ),
)

expands : IsExpansion (parts (1 ∷ 0 ∷ [])) (one 1 0)
expands = record {
  main = part (codes "P") (Call (codes "H") (1 ∷ 0 ∷ []) End);
  first = refl;
  expands = expansion.call half_part (1, refl, refl) (expansion.message 1 expansion.at_end) expansion.at_end;
  numbered = (refl, tt);
}

-- B sends, not A
abbrev expanded : Protocol
expanded = record (calling (1 ∷ 0 ∷ [])) { body = block_of_one (p_to 1 0) }

is_expanded : IsExpanded (whole (1 ∷ 0 ∷ [])) expanded
is_expanded = record {
  free = subst IsFree (sym (its_parts (1 ∷ 0 ∷ []))) free;
  modules = refl;
  declared = refl;
  named = refl;
  role_names = refl;
  body = subst (λ (ps : List Part). IsExpansion ps (body_of expanded.body)) (sym (its_parts (1 ∷ 0 ∷ []))) (subst (IsExpansion (parts (1 ∷ 0 ∷ []))) (sym (one_message 1 0)) expands);
}

text : IsProtocolOf exchanged expanded
text = record { tokens = exchanged_tokens; whole = whole (1 ∷ 0 ∷ []); cut = exchanged_cut; read = exchanged_read; expanded = is_expanded }

form : HasForm (body_of expanded.body) 2
form = has_form exchanged expanded text

fine : IsAccepted (net_of (body_of expanded.body)) 2 × HasSubjects (body_of expanded.body)
fine = plain_accepted (body_of expanded.body) 2 (subst IsPlain (sym (one_message 1 0)) tt) form

taken : IsTaken exchanged (record { protocol = expanded; scripts = no_lines expanded.roles; plan = [] })
taken = record {
  protocol = record {
    text = text;
    accepted = record { form = form; full = is_full exchanged expanded text; names = has_names exchanged expanded text; accepted = fine.0; subjects = fine.1 };
  };
  are_scripts = record { tokens = []; cut = ([], refl, refl); read = no_scripts_read both (messages_of expanded) };
  plan = record { tokens = []; cut = ([], refl, refl); read = none_read both };
}

-- ---- do H(B);

abbrev too_few : List ℕ
too_few = around (codes "B")

abbrev few_tokens : List Token
few_tokens = tokens_of too_few 0 (pieces (word 1 ∷ []))

few_cut : AreProtocolTokens too_few few_tokens
few_cut = (pieces (word 1 ∷ []), cuts 80 too_few (pieces (word 1 ∷ [])) refl, refl)

few_read : IsRead too_few few_tokens (whole (1 ∷ []))
few_read = (
  read_of (symbols_of too_few few_tokens) (calling (1 ∷ [])) (half ∷ []) (
    refl,
    record {
      source = source (codes "B") [];
      spelled = (tt, (tt, (tt, tt)), refl);
      modules = refl;
      declared = refl;
      first = record { named = refl; role_names = refl; fit = (((1, refl), refl, tt), tt); tree = its_call (1 ∷ []) };
      more = (record { named = refl; role_names = refl; fit = ((0, refl), ((1, refl), refl, refl, tt), tt); tree = one_message 0 1 }, refl, refl, tt);
    },
  ),
  refl,
)

-- one argument for two roles, and the protocol has the name
none_less : (g : Fault) → code_of g < 52 → HoldsAt (parts (1 ∷ [])) g (site 0 (codes "H") (1 ∷ [])) → ⊥
none_less Deep lt h = h
none_less NoName lt h = let named : second ≡ None = h in absurd cc
none_less TooMany lt h = h
none_less Arity lt h = omega (arith, lt)
none_less Recursive lt h = omega (arith, lt)
none_less Empty lt h = omega (arith, lt)

first_call : IsFirstCall (parts (1 ∷ [])) Arity 0
first_call = record {
  here = site 0 (codes "H") (1 ∷ []);
  is = refl;
  holds = (half_part, (1, refl, refl), λ e. omega (arith, e));
  least = none_less;
  first = λ m s g lt e h. omega (arith, lt);
}

refused : IsFirstRefusal too_few (Line 52 1)
refused = uncallable few_tokens (whole (1 ∷ [])) 52 1 few_cut few_read (record {
  fault = Arity;
  number = 0;
  line = 1;
  refused = subst (λ (ps : List Part). IsRefusedAt ps Arity 0) (sym (its_parts (1 ∷ []))) (inl first_call);
  at_line = refl;
  said = refl;
})
