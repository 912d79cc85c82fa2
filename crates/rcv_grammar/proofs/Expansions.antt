-- The expansion of a module that was read can be printed, and what is written for it is read as it.
use Rattle.std.proofs.Common.{◌≡◌, ℕ, zero, suc, ◌<◌, false, List, [], ◌∷◌, length, map, Some, refl, sym, ap, subst, ◌∙◌, arith}
use Rattle.std.specs.Prelude.{slice_get}
use Rattle.std.specs.List.{AllByRecursion}
use Rattle.rcv_tree.specs.Lists.{protocols}
use Rattle.rcv_tree.specs.declared.module.Module.{Module}
use Rattle.rcv_tree.specs.declared.protocol.Protocol.{Protocol}
use Rattle.rcv_tree.specs.Names.{name_at}
use Rattle.rcv_lexer.specs.declared.token.Span.{Span}
use Rattle.rcv_lexer.specs.declared.token.Token.{Token}
use Rattle.rcv_lexer.specs.Tokens.{AreTokens}
use Rattle.rcv_model.specs.Text.{Body, End, Single, Choose, Loop, Again, Parallel, Call, Bodies, NoMore, Or, body_of}
use Rattle.rcv_model.specs.Form.{IsNumberedFrom, HaveEnds, HaveSubjects}
use Rattle.rcv_model.specs.Places.{singles, IsFull, AreFull, OthersFull, IsFullText}
use Rattle.rcv_module.specs.Parts.{Part, part_of, parts_of, calls, calls_of}
use Rattle.rcv_module.specs.Refusing.{itself}
use Rattle.rcv_module.specs.Answers.{IsExpanded}
use Rattle.rcv_module.specs.Expansion as expansion
use Rattle.rcv_module.specs.Expansion.{themselves, Expands, AllExpand}
use Rattle.rcv_module.proofs.Sites.{of_module}
use Rattle.rcv_module.proofs.Entered.{enters_full}
use Rattle.rcv_module.proofs.Fitting.{StandWell}
use Rattle.rcv_module.proofs.Formed.{parts_fit, expansions_have_form}
use Rattle.rcv_machine.specs.Words.{symbols_of, Source, Spells, spelling, tree_of, IsTreeOf, Reads, IsFit, nobody, MoreProtocols, outermost}
use Rattle.rcv_machine.proofs.Exactly.{taken_is_free}
use Rattle.rcv_machine.proofs.Passing.{passing}
use Rattle.rcv_reader.specs.Refusals.{AreReadAs, IsRead}
use Rattle.rcv_grammar.specs.Canonical.{written_of, source_of}
use Rattle.rcv_grammar.specs.Printable.{IsName, AreNames, SomeNames, IsPrintableBody, IsPrintable}
use Rattle.rcv_grammar.proofs.Headings.{roles_of, head_follows}
use Rattle.rcv_grammar.proofs.Canonizing.{source_taken, admitted}
use Rattle.rcv_grammar.proofs.Printables.{IsSaidSo, read_is_named}
use Rattle.rcv_grammar.proofs.Sharing.{lanes_disjoint}
use Rattle.rcv_grammar.proofs.Mentioned.{HasDisjointLanes}
use Rattle.rcv_grammar.proofs.Nesting.{Nests, nests}
use Rattle.rcv_grammar.proofs.Formed.{read_modules_have_form}
use Rattle.rcv_grammar.proofs.Entering.{few_blocks, lanes_kept, PartsPrint, expansion_prints}
use Rattle.rcv_grammar.proofs.Rewritten.{AreBehind, text_back}

-- ---- texts without calls

mutual
  full_calls : (h : ℕ) (recs bare : List (List ℕ)) (b : Body) → IsFull recs bare b → calls h b ≡ []
  full_calls h recs bare End f = refl
  full_calls h recs bare (Single label sorts s r p rest) f = full_calls h recs [] rest f
  full_calls h recs bare (Choose s bs rest) f = rw (all_full_calls h recs bare bs f.0, full_calls h recs [] rest f.1) refl
  full_calls h recs bare (Loop name body rest) f = rw (full_calls h (name ∷ recs) (name ∷ bare) body f.1, full_calls h recs [] rest f.2) refl
  full_calls h recs bare (Again name End) f = refl
  full_calls h recs bare (Again name rest) f = absurd f.2
  full_calls h recs bare (Parallel bs rest) f = absurd f
  full_calls h recs bare (Call name rs rest) f = absurd f

  all_full_calls : (h : ℕ) (recs bare : List (List ℕ)) (bs : Bodies) → AreFull recs bare bs → calls_of h bs ≡ []
  all_full_calls h recs bare NoMore f = absurd f
  all_full_calls h recs bare (Or b bs) f = rw (full_calls h recs bare b f.1, others_full_calls h recs bare bs f.2) refl

  others_full_calls : (h : ℕ) (recs bare : List (List ℕ)) (bs : Bodies) → OthersFull recs bare bs → calls_of h bs ≡ []
  others_full_calls h recs bare NoMore f = refl
  others_full_calls h recs bare (Or b bs) f = rw (full_calls h recs bare b f.1, others_full_calls h recs bare bs f.2) refl

pub no_calls : (h : ℕ) (b : Body) → IsFullText b → calls h b ≡ []
no_calls h End f = refl
no_calls h (Single label sorts s r p rest) f = no_calls h rest f
no_calls h (Choose s bs rest) f = rw (all_full_calls h [] [] bs f.0, no_calls h rest f.1) refl
no_calls h (Loop name body rest) f = rw (full_calls h (name ∷ []) (name ∷ []) body f.1, no_calls h rest f.2) refl
no_calls h (Again name rest) f = absurd f
no_calls h (Parallel bs rest) f = rw (all_full_calls h [] [] bs f.0, no_calls h rest f.1) refl
no_calls h (Call name rs rest) f = absurd f

-- Each of them is its own expansion.
mutual
  full_itself : (parts : List Part) (recs bare : List (List ℕ)) (b : Body) → IsFull recs bare b → Expands parts themselves b End b
  full_itself parts recs bare End f = expansion.at_end
  full_itself parts recs bare (Single label sorts s r p rest) f = expansion.message p (full_itself parts recs [] rest f)
  full_itself parts recs bare (Choose s bs rest) f = expansion.choice (all_full_itself parts recs bare bs f.0) (full_itself parts recs [] rest f.1)
  full_itself parts recs bare (Loop name body rest) f =
      expansion.loop (full_itself parts (name ∷ recs) (name ∷ bare) body f.1) (full_itself parts recs [] rest f.2)
  full_itself parts recs bare (Again name End) f = expansion.again expansion.at_end
  full_itself parts recs bare (Again name rest) f = absurd f.2
  full_itself parts recs bare (Parallel bs rest) f = absurd f
  full_itself parts recs bare (Call name rs rest) f = absurd f

  all_full_itself : (parts : List Part) (recs bare : List (List ℕ)) (bs : Bodies) → AreFull recs bare bs → AllExpand parts themselves bs bs
  all_full_itself parts recs bare NoMore f = absurd f
  all_full_itself parts recs bare (Or b bs) f = expansion.one_more (full_itself parts recs bare b f.1) (others_full_itself parts recs bare bs f.2)

  others_full_itself : (parts : List Part) (recs bare : List (List ℕ)) (bs : Bodies) → OthersFull recs bare bs → AllExpand parts themselves bs bs
  others_full_itself parts recs bare NoMore f = expansion.no_more
  others_full_itself parts recs bare (Or b bs) f = expansion.one_more (full_itself parts recs bare b f.1) (others_full_itself parts recs bare bs f.2)

pub expands_itself : (parts : List Part) (b : Body) → IsFullText b → Expands parts themselves b End b
expands_itself parts End f = expansion.at_end
expands_itself parts (Single label sorts s r p rest) f = expansion.message p (expands_itself parts rest f)
expands_itself parts (Choose s bs rest) f = expansion.choice (all_full_itself parts [] [] bs f.0) (expands_itself parts rest f.1)
expands_itself parts (Loop name body rest) f =
    expansion.loop (full_itself parts (name ∷ []) (name ∷ []) body f.1) (expands_itself parts rest f.2)
expands_itself parts (Again name rest) f = absurd f
expands_itself parts (Parallel bs rest) f = expansion.beside (all_full_itself parts [] [] bs f.0) (expands_itself parts rest f.1)
expands_itself parts (Call name rs rest) f = absurd f

-- ---- names

name_is : (names : List (List ℕ)) → AreNames names → (r : ℕ) → r < length names → IsName (name_at names r)
name_is [] h r inside = absurd (omega (arith, inside))
name_is (n ∷ names) h zero inside = h.0
name_is (n ∷ names) h (suc r) inside = name_is names h.1 r (omega (arith, inside))

role_is : (names : List (List ℕ)) → SomeNames names → (r : ℕ) → r < length names → IsName (name_at names r)
role_is [] h = absurd h
role_is (n ∷ names) h = name_is (n ∷ names) h

-- The text of this one can be printed with the names of its roles.
abbrev Prints : Part → Type 0
Prints p = (names : List (List ℕ)) × IsPrintableBody names p.body

others_print : (ps : List Protocol) → AllByRecursion IsSaidSo ps → (i : ℕ) (p : Part) → slice_get (map part_of ps) i ≡ Some p → Prints p
others_print [] h i p e = absurd (cc)
others_print (q ∷ ps) h zero p e = let same : part_of q ≡ p = cc in subst Prints same (q.roles, h.0.2)
others_print (q ∷ ps) h (suc i) p e = others_print ps h.1 i p e

parts_print : (main : Protocol) (ps : List Protocol) → IsPrintable main → AllByRecursion IsSaidSo ps → PartsPrint (map part_of (main ∷ ps))
parts_print main ps first others zero p e = let same : part_of main ≡ p = cc in subst Prints same (main.roles, first.body)
parts_print main ps first others (suc i) p e = others_print ps others i p e

-- ---- the expansion

-- The protocol can be printed, what is written for it is read as it, its blocks are full, and its points are in text order.
pub record IsPlain (p : Protocol) : Type 0 where
  pub printable : IsPrintable p
  pub read : AreReadAs (spelling (source_of p)) p []
  pub full : IsFullText (body_of p.body)
  pub numbered : IsNumberedFrom 1 (singles (body_of p.body))

pub expansions_are_plain : (bundle : List ℕ) (part : Span) (tokens : List Token) (m : Module) (p : Protocol) → AreTokens bundle part tokens
    → IsRead bundle tokens m → IsExpanded m p → IsPlain p
expansions_are_plain bundle part tokens m p are (read, lines) x =
    let symbols = symbols_of bundle tokens in
    let ps = protocols m.others in
    let parts = parts_of m in
    let main = part_of m.main in
    let body = body_of p.body in
    let r = read.1 in
    let s = r.source in
    let R = roles_of s.first in
    let formed = (read_modules_have_form bundle part tokens m are (read, lines)).formed in
    let form = expansions_have_form parts main body formed x.free refl x.body in
    let whole : Some x.body.main ≡ Some main = sym x.body.first in
    let one : x.body.main ≡ main = cc in
    let e : Expands parts themselves main.body End body = subst (λ (q : Part). Expands parts themselves q.body End body) one x.body.expands in
    let enters = enters_full 0 formed x.free.0 (itself 0) (λ c a. of_module parts 0 main c refl a) e in
    let fit = parts_fit parts formed x.free.0 in
    let admit = (admitted symbols m.main ps read).0 in
    let said = read_is_named bundle part tokens m.main ps are read in
    let names = r.first.role_names in
    let roles : p.roles ≡ R = x.role_names ∙ names in
    let long : length m.main.roles ≡ length R = ap length names in
    let well : StandWell themselves main.roles main.roles = record { inside = λ q lt. lt; differ = λ q t lq lt z. z } in
    let well_named : StandWell themselves main.roles (length R) = subst (λ (n : ℕ). StandWell themselves main.roles n) long well in
    let role_names = rw names at said.0.role_names in
    let text = parts_print m.main ps said.0 said.2 in
    let print : IsPrintableBody R body = expansion_prints R (role_is R role_names) main.roles m.main.roles fit text well_named e (fit 0 main refl) said.0.body tt in
    let own_lanes : HasDisjointLanes main.body = rw (r.first.tree, names) (lanes_disjoint false R 0 outermost s.first.body (omega arith) admit.passes) in
    let lanes : HasDisjointLanes body = lanes_kept main.roles main.roles fit well e enters (fit 0 main refl) own_lanes tt in
    let own_blocks : Nests 1 main.body = rw (r.first.tree, names) (nests false R 0 outermost s.first.body admit.passes) in
    let deep : Nests 1 body = few_blocks parts main body refl own_blocks x.free.1 e in
    let ends : HaveEnds (length R) (singles body) = subst (λ (n : ℕ). HaveEnds n (singles body)) long form.0.ends in
    let subjects : HaveSubjects (length R) body = subst (λ (n : ℕ). HaveSubjects n body) long form.0.subjects in
    let few = form.0.few_points in
    let are_all : AreBehind R admit.different 0 (singles body) = record { numbered = form.0.numbered; ends = ends; few = omega (arith, few) } in
    let k = text_back R admit.different 0 body form.1 print lanes are_all subjects deep in
    let w = written_of R body in
    let c : Source = record s { first = record (s.first) { body = w }; others = [] } in
    let spelled : Spells (spelling c) c = (r.spelled.0, (k.proper, tt), refl) in
    let is_fit : IsFit p.roles w = rw roles k.fit in
    let tree : body ≡ tree_of p.roles 0 w = rw roles (sym k.tree) in
    let same : c ≡ source_of p = rw (x.modules, r.modules, x.declared, r.declared, x.named, r.first.named, roles) refl in
    let goes = (passing (s.first.name ∷ []) R 0 nobody outermost w k.proper (MoreProtocols ∷ []) []).1 (k.passes, refl) in
    let follows = head_follows s r.spelled.1 (source_taken symbols m.main ps read) in
    let free = (taken_is_free (spelling c) (follows.1 w ∙ goes)).1 in
    let is : IsTreeOf c.first p = record { named = x.named ∙ r.first.named; role_names = roles; fit = is_fit; tree = tree } in
    let reads : Reads (spelling c) p [] = record { source = c; spelled = spelled; modules = x.modules ∙ r.modules; declared = x.declared ∙ r.declared; first = is; more = tt } in
    record {
      printable = record {
        modules = rw x.modules said.0.modules;
        declared = rw x.declared said.0.declared;
        named = rw x.named said.0.named;
        role_names = rw x.role_names said.0.role_names;
        body = rw roles print;
      };
      read = subst (λ (y : Source). AreReadAs (spelling y) p []) same (free, reads);
      full = form.1;
      numbered = form.0.numbered;
    }
