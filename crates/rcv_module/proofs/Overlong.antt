-- That texts are short is needed: of the module with a rec of 2^63 - 1 statements no block has the 2^63 statements of its
-- expansion. It isn't refused, and so it has no answer.
use Rattle.std.proofs.Common.{◌≡◌, ℕ, zero, suc, ◌+◌, ◌^◌, Some, List, [], ◌∷◌, length, refl, sym, ap, subst, ◌∙◌, ◌⊎◌, inl, inr, arith}
use Rattle.rcv_tree.specs.declared.module.Module.{Module}
use Rattle.rcv_tree.specs.declared.protocol.Decl.{Decl}
use Rattle.rcv_tree.specs.declared.protocol.Protocol.{Protocol}
use Rattle.rcv_tree.specs.declared.refusal.Refusal.{Refusal}
use Rattle.rcv_tree.specs.declared.statement.Block.{Block}
use Rattle.rcv_model.specs.Text.{Body, End, Loop, body_of}
use Rattle.rcv_module.specs.Parts.{Part, parts_of, sites}
use Rattle.rcv_module.specs.Refusing.{IsFree}
use Rattle.rcv_module.specs.Expansion as expansion
use Rattle.rcv_module.specs.Expansion.{Stands, themselves, Expands, IsExpansion}
use Rattle.rcv_module.specs.Form.{AreFormed, HasModuleForm}
use Rattle.rcv_module.specs.Answers.{IsExpanded, IsRefused}
use Rattle.rcv_module.proofs.Walking.{named_once}
use Rattle.rcv_module.proofs.Once.{free_modules_are_not_refused}
use Rattle.rcv_module.proofs.Building.{own, a_vec, built}
use Rattle.rcv_module.proofs.Inside.{inner_short}
use Rattle.rcv_module.proofs.LongText.{again, called_name, main_name, fill, fill_own, fill_room, inner_text, long_text, two, main_part, called_part, parts_with, one_call, formed}
use Rattle.rcv_module.proofs.LongFree.{named, callable, small}

fill_grown : {parts : List Part} {st : Stands} {b next w : Body} (k : ℕ) → b ≡ fill k → Expands parts st b next w → own w ≡ k + own next
unfolding fill
fill_grown zero e expansion.at_end = omega arith
fill_grown zero e (expansion.message q x) = absurd (cc)
fill_grown zero e (expansion.choice xs x) = absurd (cc)
fill_grown zero e (expansion.loop x y) = absurd (cc)
fill_grown zero e (expansion.again x) = absurd (cc)
fill_grown zero e (expansion.beside xs x) = absurd (cc)
fill_grown zero e (expansion.call p i x y) = absurd (cc)
fill_grown (suc k) e expansion.at_end = absurd (cc)
fill_grown (suc k) e (expansion.message q x) = absurd (cc)
fill_grown (suc k) e (expansion.choice {rest = rest} xs x) = let same : rest ≡ fill k = cc in let more = fill_grown k same x in omega (arith, more)
fill_grown (suc k) e (expansion.loop x y) = absurd (cc)
fill_grown (suc k) e (expansion.again x) = absurd (cc)
fill_grown (suc k) e (expansion.beside xs x) = absurd (cc)
fill_grown (suc k) e (expansion.call p i x y) = absurd (cc)

two_grown : {parts : List Part} {st : Stands} {next w : Body} → Expands parts st two next w → own w ≡ 2 + own next
two_grown (expansion.message q (expansion.message r expansion.at_end)) = omega arith

inner_grown : {st : Stands} {w : Body} (k : ℕ) → Expands (parts_with k) st (inner_text k) End w → own w ≡ 3 + k
inner_grown {st} k (expansion.message q (expansion.call {behind = behind} {whole = whole} p i x y)) =
    let same = named_once (parts_with k) called_name p called_part i (named k) in
    let a = two_grown (subst (λ (z : Part). Expands (parts_with k) (expansion.called_with st (0 ∷ 1 ∷ [])) z.body behind whole) same x) in
    let b = fill_grown k refl y in omega (arith, a, b)

whole_grown : (k : ℕ) (w : Body) → Expands (parts_with k) themselves (long_text k) End w → (inner : Body) × (w ≡ Loop again inner End) × (own inner ≡ 3 + k)
whole_grown k w (expansion.loop {inner = inner} x expansion.at_end) = (inner, refl, inner_grown k x)

-- ---- so it has no answer

abbrev protocol : List ℕ → Block → Protocol
protocol name body = record {
  «module» = [];
  decls = record { items = a_vec Decl [] (omega arith) };
  name = name;
  roles = (65 ∷ []) ∷ (66 ∷ []) ∷ [];
  body = body;
}

abbrev the_module : Block → Block → Module
the_module b c = record { main = protocol main_name b; others = record { items = a_vec Protocol (protocol called_name c ∷ []) (omega arith) }; dos = 1 ∷ [] }

abbrev HasAnswer : Module → Type 0
HasAnswer m = ((p : Protocol) × IsExpanded m p) ⊎ ((r : Refusal) × IsRefused m r)

module _ (k : ℕ) (long : 3 + k ≡ 2 ^ 63) (b c : Block) (says : body_of b ≡ long_text k) (other : body_of c ≡ two) where
  parts_are : parts_of (the_module b c) ≡ parts_with k
  parts_are = rw (says, other) refl

  has_form : HasModuleForm (the_module b c)
  has_form = record { few = omega arith; formed = subst AreFormed (sym parts_are) (formed k); lines = sym (ap length (ap sites parts_are ∙ one_call k)) }

  not_expanded : (p : Protocol) → IsExpanded (the_module b c) p → ⊥
  not_expanded p x =
      let is : IsExpansion (parts_with k) (body_of p.body) = subst (λ ps. IsExpansion ps (body_of p.body)) parts_are x.body in
      let first : Some (main_part k) ≡ Some is.main = is.first in
      let same : is.main ≡ main_part k = cc in
      let e = subst (λ (q : Part). Expands (parts_with k) themselves q.body End (body_of p.body)) same is.expands in
      let grown = whole_grown k (body_of p.body) e in
      let few = inner_short p.body again grown.0 End grown.1 in
      let many = grown.2 in omega (arith, few, many, long)

  no_answer : HasAnswer (the_module b c) → ⊥
  no_answer (inl x) = not_expanded x.0 x.1
  no_answer (inr r) =
      free_modules_are_not_refused (parts_of (the_module b c)) r.1.fault r.1.number (subst IsFree (sym parts_are) (callable k, small k)) r.1.refused

enough : (k : ℕ) × (3 + k ≡ 2 ^ 63)
enough = (9223372036854775805, omega arith)

main_says : (k : ℕ) → 3 + k ≡ 2 ^ 63 → (b : Block) × (body_of b ≡ long_text k)
main_says k long = let own_is = fill_own k in built (long_text k) (omega arith) (omega (arith, own_is, long), fill_room k, tt)

called_says : (b : Block) × (body_of b ≡ two)
called_says = built two (omega arith) tt

pub texts_must_be_short : ((m : Module) → HasModuleForm m → HasAnswer m) → ⊥
texts_must_be_short all =
    let b = main_says enough.0 enough.1 in
    no_answer enough.0 enough.1 b.0 called_says.0 b.1 called_says.1
    (all (the_module b.0 called_says.0) (has_form enough.0 enough.1 b.0 called_says.0 b.1 called_says.1))
