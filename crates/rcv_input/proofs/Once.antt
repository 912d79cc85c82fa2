-- An input has one answer.
use Rattle.std.proofs.Common.{◌≡◌, ℕ, zero, suc, ◌∷◌, refl, List, [], length, map, sym, ap, subst, ◌∙◌, inr}
use Rattle.std.specs.Prelude.{Some, slice_get}
use Rattle.std.specs.List.{All}
use Rattle.std.proofs.lemmas.List.Elements.{All-head, All-tail}
use Rattle.rcv_tree.specs.Words.{IsWord}
use Rattle.rcv_tree.specs.Lists as tree
use Rattle.rcv_tree.specs.declared.module.Module.{Module}
use Rattle.rcv_tree.specs.declared.protocol.Protocol.{Protocol}
use Rattle.rcv_tree.specs.declared.refusal.Refusal.TheVariants as refusals
use Rattle.rcv_model.specs.Text.{Body, body_of}
use Rattle.rcv_model.specs.Script as model
use Rattle.rcv_model.specs.Plan.{PlanLine}
use Rattle.rcv_module.specs.Answers as answers
use Rattle.rcv_module.specs.Parts as modules
use Rattle.rcv_module.specs.Parts.{Part, part_of}
use Rattle.rcv_module.specs.Expansion.{IsExpansion}
use Rattle.rcv_module.specs.Refusing.{IsFree, IsRefusedAt}
use Rattle.rcv_module.proofs.Once.{free_modules_are_not_refused}
use Rattle.rcv_module.proofs.Unique.{refusals_are_one, expansions_are_one}
use Rattle.rcv_session.specs.Session.{SessionView}
use Rattle.rcv_model.specs.Places.{singles}
use Rattle.rcv_model.specs.Accept.{IsRefusal}
use Rattle.rcv_model.proofs.Accepting.{one_refusal}
use Rattle.rcv_model.proofs.Decided.{faultless}
use Rattle.rcv_lexer.specs.declared.token.Span.{Span}
use Rattle.rcv_lexer.specs.declared.token.Token.{Token}
use Rattle.rcv_tree.specs.declared.refusal.TextError.TheVariants as errors
use Rattle.rcv_lexer.specs.Parts.{parts_of}
use Rattle.rcv_lexer.specs.Tokens.{AreTokens, IsLetter, line_at}
use Rattle.rcv_lexer.proofs.Once.{one_reading}
use Rattle.rcv_syntax.specs.Symbols as protocols
use Rattle.rcv_reader.specs.Refusals as reader
use Rattle.rcv_grammar.specs.Laws.{SayTheSame, AllSayTheSame}
use Rattle.rcv_grammar.proofs.Answered.{parts_have_one_answer}
use Rattle.rcv_grammar.proofs.Once.{texts_have_one_tree}
use Rattle.rcv_points.specs.Follow.{PointView, message_of}
use Rattle.rcv_script.specs.Symbols as scripts
use Rattle.rcv_script.specs.Refusals as scripting
use Rattle.rcv_script.proofs.Once.{scripts_have_one_answer}
use Rattle.rcv_plan.specs.Symbols as plans
use Rattle.rcv_plan.specs.Refusing as planning
use Rattle.rcv_plan.proofs.Once.{plans_have_one_answer}
use Rattle.rcv_input.specs.declared.refused.Refused.{Refused}
use Rattle.rcv_input.specs.declared.refused.Refused.TheVariants.{Line, Rule}
use Rattle.rcv_input.specs.Input.{AreProtocolTokens, AreScriptTokens, ArePlanTokens, IsProtocolOf, IsAcceptedOf, AreScriptsOf, IsPlanOf, IsTaken}
use Rattle.rcv_input.specs.Refusals.{IsRefusedText, AreRefusedScripts, IsRefusedPlan, IsFirstRefusal, letter, unread, uncallable, ruled_out, script_letter, unscripted, plan_letter, unplanned}
use Rattle.rcv_input.proofs.Answered.{answered}
use Rattle.rcv_input.proofs.Formed.{has_names}
use Rattle.rcv_input.specs.Laws.{AreSame, InputsHaveOneAnswer}

-- ---- tokens

no_letter : (input : List ℕ) (part : Span) (ts : List Token) (line : ℕ) → AreTokens input part ts → IsLetter input part line → ⊥
no_letter input part ts line a b = one_reading.either input part ts line a b

same_letter : (input : List ℕ) (part : Span) (m n : ℕ) → IsLetter input part m → IsLetter input part n → Line 10 m ≡ Line 10 n
same_letter input part m n a b = ap (λ (l : ℕ). Line 10 l) (one_reading.letter input part m n a b)

same_line : (c l d m : ℕ) → c ≡ d → l ≡ m → Line c l ≡ Line d m
same_line c l d m codes lines = ap (λ (x : ℕ). Line x l) codes ∙ ap (λ (x : ℕ). Line d x) lines

-- ---- the protocol part

is_module : (input : List ℕ) (ts us : List Token) (m : Module) (code line : ℕ) → AreProtocolTokens input ts → reader.IsRead input ts m → AreProtocolTokens input us → IsRefusedText input us code line → ⊥
is_module input ts us m code line cut read other h = parts_have_one_answer.either input (parts_of input).protocol (line_at input (parts_of input).protocol.end) code line (ts, m, cut, read) (inr (us, other, h))

same_unread : (input : List ℕ) (ts us : List Token) (code line other_code other_line : ℕ) → AreProtocolTokens input ts → AreProtocolTokens input us → IsRefusedText input ts code line → IsRefusedText input us other_code other_line
    → Line code line ≡ Line other_code other_line
same_unread input ts us code line other_code other_line a b x y =
    let one = parts_have_one_answer.refusal input (parts_of input).protocol (line_at input (parts_of input).protocol.end) code line other_code other_line (inr (ts, a, x)) (inr (us, b, y)) in
    same_line code line other_code other_line one.0 one.1

-- ---- calls

abbrev part_with : List ℕ → List (List ℕ) → Body → Part
part_with name roles body = record { name = name; roles = length roles; body = body }

same_part : (p q : Protocol) → SayTheSame p q → part_of p ≡ part_of q
same_part p q say =
    ap (λ (name : List ℕ). part_with name p.roles (body_of p.body)) say.names
    ∙ ap (λ (roles : List (List ℕ)). part_with q.name roles (body_of p.body)) say.role_names
    ∙ ap (part_with q.name q.roles) say.bodies

same_parts : (ps qs : List Protocol) → AllSayTheSame ps qs → map part_of ps ≡ map part_of qs
same_parts [] [] say = refl
same_parts [] (q ∷ qs) say = absurd say
same_parts (p ∷ ps) [] say = absurd say
same_parts (p ∷ ps) (q ∷ qs) say =
    ap (λ (x : Part). x ∷ map part_of ps) (same_part p q say.0) ∙ ap (λ (xs : List Part). part_of q ∷ xs) (same_parts ps qs say.1)

-- Both modules say the same.
record AreAlike (m n : Module) : Type 0 where
  main : SayTheSame m.main n.main
  parts : modules.parts_of m ≡ modules.parts_of n
  lines : m.dos ≡ n.dos

alike : (input : List ℕ) (ts us : List Token) (m n : Module) → AreProtocolTokens input ts → AreProtocolTokens input us → reader.IsRead input ts m → reader.IsRead input us n → AreAlike m n
alike input ts us m n cut other x y =
    let y = subst (λ (zs : List Token). reader.IsRead input zs n) (one_reading.tokens input (parts_of input).protocol us ts other cut) y in
    let say = texts_have_one_tree (protocols.symbols_of input ts) m.main n.main (tree.protocols m.others) (tree.protocols n.others) x.0 y.0 in
    record { main = say.0; parts = same_parts (m.main ∷ tree.protocols m.others) (n.main ∷ tree.protocols n.others) say; lines = x.1 ∙ sym y.1 }

is_called : (input : List ℕ) (p : Protocol) (text : IsProtocolOf input p) (ts : List Token) (m : Module) (code line : ℕ) → AreProtocolTokens input ts → reader.IsRead input ts m
    → answers.IsRefused m (refusals.Text code line) → ⊥
is_called input p text ts m code line cut read bad =
    let same = (alike input text.tokens ts text.whole m text.cut cut text.read read).parts in
    free_modules_are_not_refused (modules.parts_of m) bad.fault bad.number (subst IsFree same text.expanded.free) bad.refused

same_uncallable : (input : List ℕ) (ts us : List Token) (m n : Module) (code line other_code other_line : ℕ) → AreProtocolTokens input ts → AreProtocolTokens input us → reader.IsRead input ts m → reader.IsRead input us n
    → answers.IsRefused m (refusals.Text code line) → answers.IsRefused n (refusals.Text other_code other_line) → Line code line ≡ Line other_code other_line
same_uncallable input ts us m n code line other_code other_line cut other x y a b =
    let same = alike input ts us m n cut other x y in
    let one = refusals_are_one (modules.parts_of n) a.fault b.fault a.number b.number (subst (λ (ps : List Part). IsRefusedAt ps a.fault a.number) same.parts a.refused) b.refused in
    let dos = same.lines in
    let fault = one.0 in
    let number = one.1 in
    let said = a.said in
    let other_said = b.said in
    let here = a.at_line in
    let there = b.at_line in
    let codes : code ≡ other_code = cc in
    let lines : line ≡ other_line = cc in
    same_line code line other_code other_line codes lines

same_text : (input : List ℕ) (p q : Protocol) → IsProtocolOf input p → IsProtocolOf input q → SayTheSame p q
same_text input p q x y =
    let same = alike input x.tokens y.tokens x.whole y.whole x.cut y.cut x.read y.read in
    let say = same.main in
    let a = x.expanded in
    let b = y.expanded in
    record {
      modules = a.modules ∙ say.modules ∙ sym b.modules;
      declared = a.declared ∙ say.declared ∙ sym b.declared;
      names = a.named ∙ say.names ∙ sym b.named;
      role_names = a.role_names ∙ say.role_names ∙ sym b.role_names;
      bodies = expansions_are_one (modules.parts_of y.whole) (body_of p.body) (body_of q.body) (subst (λ (ps : List Part). IsExpansion ps (body_of p.body)) same.parts a.body) b.body;
    }

-- ---- acceptance

-- what holds of the body and the roles of one protocol holds of those of the other
moves : (P : List (List ℕ) → Body → Type 0) (p q : Protocol) → SayTheSame p q → P p.roles (body_of p.body) → P q.roles (body_of q.body)
moves P p q say h = subst (P q.roles) say.bodies (subst (λ (rs : List (List ℕ)). P rs (body_of p.body)) say.role_names h)

abbrev RuledOut : ℕ → ℕ → ℕ → List (List ℕ) → Body → Type 0
RuledOut c r n roles body = IsRefusal body (length roles) c r n

is_accepted : (input : List ℕ) (p q : Protocol) (c r n : ℕ) → IsAcceptedOf input p → IsProtocolOf input q → IsRefusal (body_of q.body) (length q.roles) c r n → ⊥
is_accepted input p q c r n a text refusal =
    let moved : IsRefusal (body_of p.body) (length p.roles) c r n = moves (RuledOut c r n) q p (same_text input q p text a.text) refusal in
    (faultless (body_of p.body) (length p.roles) a.accepted.form).1 (a.accepted.accepted, a.accepted.subjects) c r n moved.fails

same_name : (names : List (List ℕ)) (r s : ℕ) (x y : List ℕ) → r ≡ s → slice_get names r ≡ Some x → slice_get names s ≡ Some y → x ≡ y
same_name names r s x y same at other = cc

same_rule : (input : List ℕ) (p q : Protocol) (c r n : ℕ) (name : List ℕ) (d s m : ℕ) (other : List ℕ) → IsProtocolOf input p → IsProtocolOf input q → IsRefusal (body_of p.body) (length p.roles) c r n → IsRefusal (body_of q.body) (length q.roles) d s m
    → slice_get p.roles r ≡ Some name → slice_get q.roles s ≡ Some other → Rule c name n ≡ Rule d other m
same_rule input p q c r n name d s m other x y a b at there =
    let say = same_text input p q x y in
    let one = one_refusal (body_of q.body) (length q.roles) c r n d s m (moves (RuledOut c r n) p q say a) b in
    let names = same_name q.roles r s name other one.1 (subst (λ (rs : List (List ℕ)). slice_get rs r ≡ Some name) say.role_names at) there in
    ap (λ (k : ℕ). Rule k name n) one.0 ∙ ap (λ (k : List ℕ). Rule d k n) names ∙ ap (λ (k : ℕ). Rule d other k) one.2

-- ---- scripts

-- the messages of a text
abbrev messages_by : Body → List PointView
messages_by body = map message_of (singles body)

-- they are refused with this code and line, for these roles and this text
abbrev RefusedScripts : List ℕ → ℕ → ℕ → List (List ℕ) → Body → List Token → Type 0
RefusedScripts input code line roles body ts =
    scripting.IsRefused input ts (line_at input (parts_of input).scripts.end) roles (messages_by body) (errors.Refused (refusals.Text code line))

-- what a reader says of the scripts of one reading holds of the other's
same_scripts_part : (input : List ℕ) (p q : Protocol) (ts us : List Token) (P : List (List ℕ) → Body → List Token → Type 0) → SayTheSame p q → AreScriptTokens input ts → AreScriptTokens input us
    → P p.roles (body_of p.body) ts → P q.roles (body_of q.body) us
same_scripts_part input p q ts us P say cut other h =
    subst (P q.roles (body_of q.body)) (one_reading.tokens input (parts_of input).scripts ts us cut other)
    (subst (λ (body : Body). P q.roles body ts) say.bodies (subst (λ (rs : List (List ℕ)). P rs (body_of p.body) ts) say.role_names h))

are_scripts : (input : List ℕ) (p q : Protocol) (lines : List (List model.Line)) (us : List Token) (code line : ℕ) → SayTheSame p q → AreScriptsOf input p lines → AreScriptTokens input us
    → AreRefusedScripts input q us code line → ⊥
are_scripts input p q lines us code line say s cut h =
    scripts_have_one_answer.either q.roles (messages_by (body_of q.body)) (scripts.symbols_of input us) lines h.0 h.1
    (same_scripts_part input p q s.tokens us (λ rs body ts. scripting.AreRead rs (messages_by body) (scripts.symbols_of input ts) lines) say s.cut cut s.read) h.2

same_lines : (input : List ℕ) (p q : Protocol) (l m : List (List model.Line)) → SayTheSame p q → AreScriptsOf input p l → AreScriptsOf input q m → l ≡ m
same_lines input p q l m say s t =
    scripts_have_one_answer.one q.roles (messages_by (body_of q.body)) (scripts.symbols_of input t.tokens) l m
    (same_scripts_part input p q s.tokens t.tokens (λ rs body ts. scripting.AreRead rs (messages_by body) (scripts.symbols_of input ts) l) say s.cut t.cut s.read) t.read

same_unscripted : (input : List ℕ) (p q : Protocol) (ts us : List Token) (code line other_code other_line : ℕ) → SayTheSame p q → AreScriptTokens input ts
    → AreScriptTokens input us → AreRefusedScripts input p ts code line → AreRefusedScripts input q us other_code other_line → Line code line ≡ Line other_code other_line
same_unscripted input p q ts us code line other_code other_line say cut other x y = go (same_scripts_part input p q ts us (RefusedScripts input code line) say cut other x)
  where
    go : RefusedScripts input code line q.roles (body_of q.body) us → Line code line ≡ Line other_code other_line
    go z =
        let first = scripts_have_one_answer.first q.roles (messages_by (body_of q.body)) (scripts.symbols_of input us) z.0 y.0 z.1 y.1 z.2 y.2 in
        let faults : z.0 ≡ y.0 = first.0 in
        let left : z.1 ≡ y.1 = first.1 in
        let z3 = z.3 in
        let y3 = y.3 in
        let codes : code ≡ other_code = cc in
        let lines : line ≡ other_line = cc in
        same_line code line other_code other_line codes lines

-- ---- the plan

-- the plan is refused with this code and line, for these roles
abbrev RefusedPlan : List ℕ → ℕ → ℕ → List (List ℕ) → List Token → Type 0
RefusedPlan input code line roles ts = planning.IsRefused input ts (line_at input (parts_of input).plan.end) roles (errors.Refused (refusals.Text code line))

-- what a reader says of the plan of one reading holds of the other's
same_plan_part : (input : List ℕ) (p q : Protocol) (ts us : List Token) (P : List (List ℕ) → List Token → Type 0) → SayTheSame p q → ArePlanTokens input ts → ArePlanTokens input us → P p.roles ts → P q.roles us
same_plan_part input p q ts us P say cut other h = subst (P q.roles) (one_reading.tokens input (parts_of input).plan ts us cut other) (subst (λ (rs : List (List ℕ)). P rs ts) say.role_names h)

is_plan : (input : List ℕ) (p q : Protocol) (lines : List PlanLine) (us : List Token) (code line : ℕ) → SayTheSame p q → IsPlanOf input p lines → ArePlanTokens input us
    → IsRefusedPlan input q us code line → ⊥
is_plan input p q lines us code line say s cut h =
    plans_have_one_answer.either q.roles (plans.symbols_of input us) lines h.0 h.1
    (same_plan_part input p q s.tokens us (λ rs ts. planning.IsRead rs (plans.symbols_of input ts) lines) say s.cut cut s.read) h.2

same_plan : (input : List ℕ) (p q : Protocol) (l m : List PlanLine) → SayTheSame p q → IsPlanOf input p l → IsPlanOf input q m → l ≡ m
same_plan input p q l m say s t =
    plans_have_one_answer.lines q.roles (plans.symbols_of input t.tokens) l m
    (same_plan_part input p q s.tokens t.tokens (λ rs ts. planning.IsRead rs (plans.symbols_of input ts) l) say s.cut t.cut s.read) t.read

same_unplanned : (input : List ℕ) (p q : Protocol) (ts us : List Token) (code line other_code other_line : ℕ) → SayTheSame p q → ArePlanTokens input ts
    → ArePlanTokens input us → IsRefusedPlan input p ts code line → IsRefusedPlan input q us other_code other_line → Line code line ≡ Line other_code other_line
same_unplanned input p q ts us code line other_code other_line say cut other x y = go (same_plan_part input p q ts us (RefusedPlan input code line) say cut other x)
  where
    go : RefusedPlan input code line q.roles us → Line code line ≡ Line other_code other_line
    go z =
        let first = plans_have_one_answer.first q.roles (plans.symbols_of input us) z.0 y.0 z.1 y.1 z.2 y.2 in
        let faults : z.0 ≡ y.0 = first.0 in
        let left : z.1 ≡ y.1 = first.1 in
        let z3 = z.3 in
        let y3 = y.3 in
        let codes : code ≡ other_code = cc in
        let lines : line ≡ other_line = cc in
        same_line code line other_code other_line codes lines

-- ---- the law

one_first : (input : List ℕ) (r s : Refused) → IsFirstRefusal input r → IsFirstRefusal input s → r ≡ s
one_first input r s (letter l1 x1) (letter l2 x2) = same_letter input (parts_of input).protocol l1 l2 x1 x2
one_first input r s (letter l1 x1) (unread ts2 c2 l2 cut2 x2) = absurd (no_letter input (parts_of input).protocol ts2 l1 cut2 x1)
one_first input r s (letter l1 x1) (uncallable ts2 m2 c2 l2 cut2 read2 x2) = absurd (no_letter input (parts_of input).protocol ts2 l1 cut2 x1)
one_first input r s (letter l1 x1) (ruled_out p2 c2 r2 n2 name2 text2 x2 at2) = absurd (no_letter input (parts_of input).protocol text2.tokens l1 text2.cut x1)
one_first input r s (letter l1 x1) (script_letter p2 l2 acc2 x2) = absurd (no_letter input (parts_of input).protocol acc2.text.tokens l1 acc2.text.cut x1)
one_first input r s (letter l1 x1) (unscripted p2 ts2 c2 l2 acc2 cut2 x2) = absurd (no_letter input (parts_of input).protocol acc2.text.tokens l1 acc2.text.cut x1)
one_first input r s (letter l1 x1) (plan_letter p2 lines2 l2 acc2 are2 x2) = absurd (no_letter input (parts_of input).protocol acc2.text.tokens l1 acc2.text.cut x1)
one_first input r s (letter l1 x1) (unplanned p2 lines2 ts2 c2 l2 acc2 are2 cut2 x2) = absurd (no_letter input (parts_of input).protocol acc2.text.tokens l1 acc2.text.cut x1)
one_first input r s (unread ts1 c1 l1 cut1 x1) (letter l2 x2) = absurd (no_letter input (parts_of input).protocol ts1 l2 cut1 x2)
one_first input r s (unread ts1 c1 l1 cut1 x1) (unread ts2 c2 l2 cut2 x2) = same_unread input ts1 ts2 c1 l1 c2 l2 cut1 cut2 x1 x2
one_first input r s (unread ts1 c1 l1 cut1 x1) (uncallable ts2 m2 c2 l2 cut2 read2 x2) = absurd (is_module input ts2 ts1 m2 c1 l1 cut2 read2 cut1 x1)
one_first input r s (unread ts1 c1 l1 cut1 x1) (ruled_out p2 c2 r2 n2 name2 text2 x2 at2) = absurd (is_module input text2.tokens ts1 text2.whole c1 l1 text2.cut text2.read cut1 x1)
one_first input r s (unread ts1 c1 l1 cut1 x1) (script_letter p2 l2 acc2 x2) = absurd (is_module input acc2.text.tokens ts1 acc2.text.whole c1 l1 acc2.text.cut acc2.text.read cut1 x1)
one_first input r s (unread ts1 c1 l1 cut1 x1) (unscripted p2 ts2 c2 l2 acc2 cut2 x2) = absurd (is_module input acc2.text.tokens ts1 acc2.text.whole c1 l1 acc2.text.cut acc2.text.read cut1 x1)
one_first input r s (unread ts1 c1 l1 cut1 x1) (plan_letter p2 lines2 l2 acc2 are2 x2) = absurd (is_module input acc2.text.tokens ts1 acc2.text.whole c1 l1 acc2.text.cut acc2.text.read cut1 x1)
one_first input r s (unread ts1 c1 l1 cut1 x1) (unplanned p2 lines2 ts2 c2 l2 acc2 are2 cut2 x2) = absurd (is_module input acc2.text.tokens ts1 acc2.text.whole c1 l1 acc2.text.cut acc2.text.read cut1 x1)
one_first input r s (uncallable ts1 m1 c1 l1 cut1 read1 x1) (letter l2 x2) = absurd (no_letter input (parts_of input).protocol ts1 l2 cut1 x2)
one_first input r s (uncallable ts1 m1 c1 l1 cut1 read1 x1) (unread ts2 c2 l2 cut2 x2) = absurd (is_module input ts1 ts2 m1 c2 l2 cut1 read1 cut2 x2)
one_first input r s (uncallable ts1 m1 c1 l1 cut1 read1 x1) (uncallable ts2 m2 c2 l2 cut2 read2 x2) = same_uncallable input ts1 ts2 m1 m2 c1 l1 c2 l2 cut1 cut2 read1 read2 x1 x2
one_first input r s (uncallable ts1 m1 c1 l1 cut1 read1 x1) (ruled_out p2 c2 r2 n2 name2 text2 x2 at2) = absurd (is_called input p2 text2 ts1 m1 c1 l1 cut1 read1 x1)
one_first input r s (uncallable ts1 m1 c1 l1 cut1 read1 x1) (script_letter p2 l2 acc2 x2) = absurd (is_called input p2 acc2.text ts1 m1 c1 l1 cut1 read1 x1)
one_first input r s (uncallable ts1 m1 c1 l1 cut1 read1 x1) (unscripted p2 ts2 c2 l2 acc2 cut2 x2) = absurd (is_called input p2 acc2.text ts1 m1 c1 l1 cut1 read1 x1)
one_first input r s (uncallable ts1 m1 c1 l1 cut1 read1 x1) (plan_letter p2 lines2 l2 acc2 are2 x2) = absurd (is_called input p2 acc2.text ts1 m1 c1 l1 cut1 read1 x1)
one_first input r s (uncallable ts1 m1 c1 l1 cut1 read1 x1) (unplanned p2 lines2 ts2 c2 l2 acc2 are2 cut2 x2) = absurd (is_called input p2 acc2.text ts1 m1 c1 l1 cut1 read1 x1)
one_first input r s (ruled_out p1 c1 r1 n1 name1 text1 x1 at1) (letter l2 x2) = absurd (no_letter input (parts_of input).protocol text1.tokens l2 text1.cut x2)
one_first input r s (ruled_out p1 c1 r1 n1 name1 text1 x1 at1) (unread ts2 c2 l2 cut2 x2) = absurd (is_module input text1.tokens ts2 text1.whole c2 l2 text1.cut text1.read cut2 x2)
one_first input r s (ruled_out p1 c1 r1 n1 name1 text1 x1 at1) (uncallable ts2 m2 c2 l2 cut2 read2 x2) = absurd (is_called input p1 text1 ts2 m2 c2 l2 cut2 read2 x2)
one_first input r s (ruled_out p1 c1 r1 n1 name1 text1 x1 at1) (ruled_out p2 c2 r2 n2 name2 text2 x2 at2) = same_rule input p1 p2 c1 r1 n1 name1 c2 r2 n2 name2 text1 text2 x1 x2 at1 at2
one_first input r s (ruled_out p1 c1 r1 n1 name1 text1 x1 at1) (script_letter p2 l2 acc2 x2) = absurd (is_accepted input p2 p1 c1 r1 n1 acc2 text1 x1)
one_first input r s (ruled_out p1 c1 r1 n1 name1 text1 x1 at1) (unscripted p2 ts2 c2 l2 acc2 cut2 x2) = absurd (is_accepted input p2 p1 c1 r1 n1 acc2 text1 x1)
one_first input r s (ruled_out p1 c1 r1 n1 name1 text1 x1 at1) (plan_letter p2 lines2 l2 acc2 are2 x2) = absurd (is_accepted input p2 p1 c1 r1 n1 acc2 text1 x1)
one_first input r s (ruled_out p1 c1 r1 n1 name1 text1 x1 at1) (unplanned p2 lines2 ts2 c2 l2 acc2 are2 cut2 x2) = absurd (is_accepted input p2 p1 c1 r1 n1 acc2 text1 x1)
one_first input r s (script_letter p1 l1 acc1 x1) (letter l2 x2) = absurd (no_letter input (parts_of input).protocol acc1.text.tokens l2 acc1.text.cut x2)
one_first input r s (script_letter p1 l1 acc1 x1) (unread ts2 c2 l2 cut2 x2) = absurd (is_module input acc1.text.tokens ts2 acc1.text.whole c2 l2 acc1.text.cut acc1.text.read cut2 x2)
one_first input r s (script_letter p1 l1 acc1 x1) (uncallable ts2 m2 c2 l2 cut2 read2 x2) = absurd (is_called input p1 acc1.text ts2 m2 c2 l2 cut2 read2 x2)
one_first input r s (script_letter p1 l1 acc1 x1) (ruled_out p2 c2 r2 n2 name2 text2 x2 at2) = absurd (is_accepted input p1 p2 c2 r2 n2 acc1 text2 x2)
one_first input r s (script_letter p1 l1 acc1 x1) (script_letter p2 l2 acc2 x2) = same_letter input (parts_of input).scripts l1 l2 x1 x2
one_first input r s (script_letter p1 l1 acc1 x1) (unscripted p2 ts2 c2 l2 acc2 cut2 x2) = absurd (no_letter input (parts_of input).scripts ts2 l1 cut2 x1)
one_first input r s (script_letter p1 l1 acc1 x1) (plan_letter p2 lines2 l2 acc2 are2 x2) = absurd (no_letter input (parts_of input).scripts are2.tokens l1 are2.cut x1)
one_first input r s (script_letter p1 l1 acc1 x1) (unplanned p2 lines2 ts2 c2 l2 acc2 are2 cut2 x2) = absurd (no_letter input (parts_of input).scripts are2.tokens l1 are2.cut x1)
one_first input r s (unscripted p1 ts1 c1 l1 acc1 cut1 x1) (letter l2 x2) = absurd (no_letter input (parts_of input).protocol acc1.text.tokens l2 acc1.text.cut x2)
one_first input r s (unscripted p1 ts1 c1 l1 acc1 cut1 x1) (unread ts2 c2 l2 cut2 x2) = absurd (is_module input acc1.text.tokens ts2 acc1.text.whole c2 l2 acc1.text.cut acc1.text.read cut2 x2)
one_first input r s (unscripted p1 ts1 c1 l1 acc1 cut1 x1) (uncallable ts2 m2 c2 l2 cut2 read2 x2) = absurd (is_called input p1 acc1.text ts2 m2 c2 l2 cut2 read2 x2)
one_first input r s (unscripted p1 ts1 c1 l1 acc1 cut1 x1) (ruled_out p2 c2 r2 n2 name2 text2 x2 at2) = absurd (is_accepted input p1 p2 c2 r2 n2 acc1 text2 x2)
one_first input r s (unscripted p1 ts1 c1 l1 acc1 cut1 x1) (script_letter p2 l2 acc2 x2) = absurd (no_letter input (parts_of input).scripts ts1 l2 cut1 x2)
one_first input r s (unscripted p1 ts1 c1 l1 acc1 cut1 x1) (unscripted p2 ts2 c2 l2 acc2 cut2 x2) = same_unscripted input p1 p2 ts1 ts2 c1 l1 c2 l2 (same_text input p1 p2 acc1.text acc2.text) cut1 cut2 x1 x2
one_first input r s (unscripted p1 ts1 c1 l1 acc1 cut1 x1) (plan_letter p2 lines2 l2 acc2 are2 x2) = absurd (are_scripts input p2 p1 lines2 ts1 c1 l1 (same_text input p2 p1 acc2.text acc1.text) are2 cut1 x1)
one_first input r s (unscripted p1 ts1 c1 l1 acc1 cut1 x1) (unplanned p2 lines2 ts2 c2 l2 acc2 are2 cut2 x2) = absurd (are_scripts input p2 p1 lines2 ts1 c1 l1 (same_text input p2 p1 acc2.text acc1.text) are2 cut1 x1)
one_first input r s (plan_letter p1 lines1 l1 acc1 are1 x1) (letter l2 x2) = absurd (no_letter input (parts_of input).protocol acc1.text.tokens l2 acc1.text.cut x2)
one_first input r s (plan_letter p1 lines1 l1 acc1 are1 x1) (unread ts2 c2 l2 cut2 x2) = absurd (is_module input acc1.text.tokens ts2 acc1.text.whole c2 l2 acc1.text.cut acc1.text.read cut2 x2)
one_first input r s (plan_letter p1 lines1 l1 acc1 are1 x1) (uncallable ts2 m2 c2 l2 cut2 read2 x2) = absurd (is_called input p1 acc1.text ts2 m2 c2 l2 cut2 read2 x2)
one_first input r s (plan_letter p1 lines1 l1 acc1 are1 x1) (ruled_out p2 c2 r2 n2 name2 text2 x2 at2) = absurd (is_accepted input p1 p2 c2 r2 n2 acc1 text2 x2)
one_first input r s (plan_letter p1 lines1 l1 acc1 are1 x1) (script_letter p2 l2 acc2 x2) = absurd (no_letter input (parts_of input).scripts are1.tokens l2 are1.cut x2)
one_first input r s (plan_letter p1 lines1 l1 acc1 are1 x1) (unscripted p2 ts2 c2 l2 acc2 cut2 x2) = absurd (are_scripts input p1 p2 lines1 ts2 c2 l2 (same_text input p1 p2 acc1.text acc2.text) are1 cut2 x2)
one_first input r s (plan_letter p1 lines1 l1 acc1 are1 x1) (plan_letter p2 lines2 l2 acc2 are2 x2) = same_letter input (parts_of input).plan l1 l2 x1 x2
one_first input r s (plan_letter p1 lines1 l1 acc1 are1 x1) (unplanned p2 lines2 ts2 c2 l2 acc2 are2 cut2 x2) = absurd (no_letter input (parts_of input).plan ts2 l1 cut2 x1)
one_first input r s (unplanned p1 lines1 ts1 c1 l1 acc1 are1 cut1 x1) (letter l2 x2) = absurd (no_letter input (parts_of input).protocol acc1.text.tokens l2 acc1.text.cut x2)
one_first input r s (unplanned p1 lines1 ts1 c1 l1 acc1 are1 cut1 x1) (unread ts2 c2 l2 cut2 x2) = absurd (is_module input acc1.text.tokens ts2 acc1.text.whole c2 l2 acc1.text.cut acc1.text.read cut2 x2)
one_first input r s (unplanned p1 lines1 ts1 c1 l1 acc1 are1 cut1 x1) (uncallable ts2 m2 c2 l2 cut2 read2 x2) = absurd (is_called input p1 acc1.text ts2 m2 c2 l2 cut2 read2 x2)
one_first input r s (unplanned p1 lines1 ts1 c1 l1 acc1 are1 cut1 x1) (ruled_out p2 c2 r2 n2 name2 text2 x2 at2) = absurd (is_accepted input p1 p2 c2 r2 n2 acc1 text2 x2)
one_first input r s (unplanned p1 lines1 ts1 c1 l1 acc1 are1 cut1 x1) (script_letter p2 l2 acc2 x2) = absurd (no_letter input (parts_of input).scripts are1.tokens l2 are1.cut x2)
one_first input r s (unplanned p1 lines1 ts1 c1 l1 acc1 are1 cut1 x1) (unscripted p2 ts2 c2 l2 acc2 cut2 x2) = absurd (are_scripts input p1 p2 lines1 ts2 c2 l2 (same_text input p1 p2 acc1.text acc2.text) are1 cut2 x2)
one_first input r s (unplanned p1 lines1 ts1 c1 l1 acc1 are1 cut1 x1) (plan_letter p2 lines2 l2 acc2 are2 x2) = absurd (no_letter input (parts_of input).plan ts1 l2 cut1 x2)
one_first input r s (unplanned p1 lines1 ts1 c1 l1 acc1 are1 cut1 x1) (unplanned p2 lines2 ts2 c2 l2 acc2 are2 cut2 x2) = same_unplanned input p1 p2 ts1 ts2 c1 l1 c2 l2 (same_text input p1 p2 acc1.text acc2.text) cut1 cut2 x1 x2

not_both : (input : List ℕ) (s : SessionView) (r : Refused) → IsTaken input s → IsFirstRefusal input r → ⊥
not_both input s r taken (letter l1 x1) = no_letter input (parts_of input).protocol taken.protocol.text.tokens l1 taken.protocol.text.cut x1
not_both input s r taken (unread ts1 c1 l1 cut1 x1) = is_module input taken.protocol.text.tokens ts1 taken.protocol.text.whole c1 l1 taken.protocol.text.cut taken.protocol.text.read cut1 x1
not_both input s r taken (uncallable ts1 m1 c1 l1 cut1 read1 x1) = is_called input s.protocol taken.protocol.text ts1 m1 c1 l1 cut1 read1 x1
not_both input s r taken (ruled_out p1 c1 r1 n1 name1 text1 x1 at1) = is_accepted input s.protocol p1 c1 r1 n1 taken.protocol text1 x1
not_both input s r taken (script_letter p1 l1 acc1 x1) = no_letter input (parts_of input).scripts taken.are_scripts.tokens l1 taken.are_scripts.cut x1
not_both input s r taken (unscripted p1 ts1 c1 l1 acc1 cut1 x1) =
    are_scripts input s.protocol p1 s.scripts ts1 c1 l1 (same_text input s.protocol p1 taken.protocol.text acc1.text) taken.are_scripts cut1 x1
not_both input s r taken (plan_letter p1 lines1 l1 acc1 are1 x1) = no_letter input (parts_of input).plan taken.plan.tokens l1 taken.plan.cut x1
not_both input s r taken (unplanned p1 lines1 ts1 c1 l1 acc1 are1 cut1 x1) =
    is_plan input s.protocol p1 s.plan ts1 c1 l1 (same_text input s.protocol p1 taken.protocol.text acc1.text) taken.plan cut1 x1

one_content : (input : List ℕ) (s t : SessionView) → IsTaken input s → IsTaken input t → AreSame s t
one_content input s t a b =
    let say = same_text input s.protocol t.protocol a.protocol.text b.protocol.text in
    record {
      protocols = say;
      scripts = same_lines input s.protocol t.protocol s.scripts t.scripts say a.are_scripts b.are_scripts;
      plans = same_plan input s.protocol t.protocol s.plan t.plan say a.plan b.plan;
    }

-- ---- the name of a role

is_word : (names : List (List ℕ)) (r : ℕ) (name : List ℕ) → All IsWord names → slice_get names r ≡ Some name → IsWord name
is_word [] r name all at = absurd cc
is_word (x ∷ names) zero name all at = let same : x ≡ name = cc in subst IsWord same (All-head IsWord x names all)
is_word (x ∷ names) (suc r) name all at = is_word names r name (All-tail IsWord x names all) at

named : (input : List ℕ) (r : Refused) (code : ℕ) (name : List ℕ) (number : ℕ) → r ≡ Rule code name number → IsFirstRefusal input r → IsWord name
named input r code name number is (letter l x) = absurd cc
named input r code name number is (unread ts c l cut x) = absurd cc
named input r code name number is (uncallable ts m c l cut read x) = absurd cc
named input r code name number is (ruled_out p c role n other text x at) =
    let same : other ≡ name = cc in
    subst IsWord same (is_word p.roles role other (has_names input p text).role_words at)
named input r code name number is (script_letter p l acc x) = absurd cc
named input r code name number is (unscripted p ts c l acc cut x) = absurd cc
named input r code name number is (plan_letter p lines l acc are x) = absurd cc
named input r code name number is (unplanned p lines ts c l acc are cut x) = absurd cc

pub one_answer : InputsHaveOneAnswer
one_answer = record {
  answered = answered;
  sessions = one_content;
  either = not_both;
  refusals = one_first;
  named = λ input code name number. named input (Rule code name number) code name number refl;
}
