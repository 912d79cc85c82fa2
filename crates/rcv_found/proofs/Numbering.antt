-- Numbered tokens say what the tokens say, and the line of a refusal among them is a place.
use Rattle.std.proofs.Common.{◌≡◌, ◌≤◌, ℕ, zero, suc, ◌+◌, ◌-◌, List, [], ◌∷◌, ◌++◌, length, drop, refl, ◌∙◌, ap, subst, arith, length-append, append_assoc}
use Rattle.std.specs.List.{All}
use Rattle.rcv_tree.specs.declared.refusal.Refusal.TheVariants as refusals
use Rattle.rcv_lexer.specs.declared.token.Kind.{Kind}
use Rattle.rcv_lexer.specs.declared.token.Token.{Token}
use Rattle.rcv_tree.specs.declared.refusal.TextError.TheVariants as errors
use Rattle.rcv_lexer.specs.Parts.{LiesIn}
use Rattle.rcv_lexer.specs.Symbols as scan
use Rattle.rcv_syntax.specs.Symbols as protocols
use Rattle.rcv_syntax.specs.Codes as protocols_codes
use Rattle.rcv_syntax.specs.Refusing as protocols_first
use Rattle.rcv_reader.specs.Refusals as reader
use Rattle.rcv_script.specs.Symbols as scripts
use Rattle.rcv_script.specs.Refusals as scripting
use Rattle.rcv_script.specs.Scripts.{messages_of}
use Rattle.rcv_plan.specs.Symbols as plans
use Rattle.rcv_plan.specs.Refusing as planning
use Rattle.rcv_found.proofs.Little.{first_of_all, others_of_all, all_of}
use Rattle.rcv_found.specs.Grammars.{GrammarView, OfProtocol, OfScripts, OfPlan}
use Rattle.rcv_found.specs.Stops.{IsTakenBy, IsRefusedBy, IsFirstAt, numbered}

pub as_many : (n : ℕ) (ts : List Token) → length (numbered n ts) ≡ length ts
as_many n [] = refl
as_many n (t ∷ ts) = ap suc (as_many (n + 1) ts)

pub all_lie : (bundle : List ℕ) (n : ℕ) (ts : List Token) → All (λ (t : Token). LiesIn bundle t.span) ts
    → All (λ (t : Token). LiesIn bundle t.span) (numbered n ts)
all_lie bundle n [] h = h
all_lie bundle n (t ∷ ts) h =
    all_of (λ (s : Token). LiesIn bundle s.span) (record { kind = t.kind; span = t.span; line = n }) (numbered (n + 1) ts)
    (first_of_all (λ (s : Token). LiesIn bundle s.span) t ts h) (all_lie bundle (n + 1) ts (others_of_all (λ (s : Token). LiesIn bundle s.span) t ts h))

-- One token more.
pub one_more : (before : List Token) (t : Token) (after : List Token) (place : ℕ)
    → (before ++ record { kind = t.kind; span = t.span; line = place } ∷ []) ++ numbered (place + 1) after ≡ before ++ numbered place (t ∷ after)
one_more before t after place = append_assoc before (record { kind = t.kind; span = t.span; line = place } ∷ []) (numbered (place + 1) after)

say_the_same : {S : Type 0} (by : Kind → List ℕ → scan.Symbol S) (bundle : List ℕ) (n : ℕ) (ts : List Token)
    → scan.symbols_of by bundle (numbered n ts) ≡ scan.symbols_of by bundle ts
say_the_same by bundle n [] = refl
say_the_same {S} by bundle n (t ∷ ts) =
    ap (λ (ss : List (scan.Symbol S)). scan.symbol_of by bundle t ∷ ss) (say_the_same by bundle (n + 1) ts)

pub as_many_said : {S : Type 0} (by : Kind → List ℕ → scan.Symbol S) (bundle : List ℕ) (ts : List Token)
    → length (scan.symbols_of by bundle ts) ≡ length ts
as_many_said by bundle [] = refl
as_many_said by bundle (t ∷ ts) = ap suc (as_many_said by bundle ts)

line_of_place : (k n last : ℕ) (ts : List Token) → last ≡ n + length ts → k ≤ length ts
    → scan.line_of_first (drop k (numbered n ts)) last ≡ n + k
line_of_place zero n last [] e h = omega (arith, e)
line_of_place zero n last (t ∷ ts) e h = omega arith
line_of_place (suc k) n last [] e h = absurd (omega (arith, h))
line_of_place (suc k) n last (t ∷ ts) e h =
    let there = line_of_place k (n + 1) last ts (omega (arith, e)) (omega (arith, h)) in
    omega (arith, there)

place_of : (list : List Token) (left : ℕ) → left ≤ length list
    → scan.line_before (numbered 0 list) (length list) left + left ≡ length list
place_of list left h =
    let same = ap (λ (n : ℕ). scan.line_of_first (drop (n - left) (numbered 0 list)) (length list)) (as_many 0 list) in
    let there = line_of_place (length list - left) 0 (length list) list (omega arith) (omega arith) in
    let is : scan.line_before (numbered 0 list) (length list) left ≡ 0 + (length list - left) = same ∙ there in
    omega (arith, is, h)

placed : {S : Type 0} (by : Kind → List ℕ → scan.Symbol S) (bundle : List ℕ) (list : List Token) (front left : List (scan.Symbol S)) (line : ℕ)
    → scan.symbols_of by bundle (numbered 0 list) ≡ front ++ left
    → line ≡ scan.line_before (numbered 0 list) (length list) (length left) → line + length left ≡ length list
placed by bundle list front left line cut is =
    let all = ap length cut ∙ length-append front left in
    let many = as_many_said by bundle (numbered 0 list) in
    let same = as_many 0 list in
    ap (λ (n : ℕ). n + length left) is ∙ place_of list (length left) (omega (arith, all, many, same))

pub first_of : (g : GrammarView) (bundle : List ℕ) (list : List Token) (code line : ℕ)
    → IsRefusedBy g bundle (numbered 0 list) (length list) (errors.Refused (refusals.Text code line))
    → IsFirstAt g bundle list code line
first_of OfProtocol bundle list code line (f, left, first, e) =
    let c : code ≡ protocols_codes.code_of f = cc in
    let l : line ≡ scan.line_before (numbered 0 list) (length list) (length left) = cc in (
      f,
      left,
      subst (λ (ss : List protocols.Symbol). protocols_first.IsFirst ss f left) (say_the_same protocols.symbol_by bundle 0 list) first,
      c,
      placed protocols.symbol_by bundle list first.front left line first.cut l,
    )
first_of (OfScripts a) bundle list code line (f, left, first, e) =
    let c : code ≡ scripting.code_of f = cc in
    let l : line ≡ scan.line_before (numbered 0 list) (length list) (length left) = cc in (
      f,
      left,
      subst (λ (ss : List scripts.Symbol). scripting.IsFirst a.protocol.roles (messages_of a.protocol) ss f left)
          (say_the_same scripts.symbol_by bundle 0 list) first,
      c,
      placed scripts.symbol_by bundle list first.front left line first.cut l,
    )
first_of (OfPlan a) bundle list code line (f, left, first, e) =
    let c : code ≡ planning.code_of f = cc in
    let l : line ≡ scan.line_before (numbered 0 list) (length list) (length left) = cc in (
      f,
      left,
      subst (λ (ss : List plans.Symbol). planning.IsFirst a.protocol.roles ss f left) (say_the_same plans.symbol_by bundle 0 list) first,
      c,
      placed plans.symbol_by bundle list first.front left line first.cut l,
    )

pub taken_of : (g : GrammarView) (bundle : List ℕ) (list : List Token) → IsTakenBy g bundle (numbered 0 list) → IsTakenBy g bundle list
taken_of OfProtocol bundle list (main, others, read) = (
  main,
  others,
  subst (λ (ss : List protocols.Symbol). reader.AreReadAs ss main others) (say_the_same protocols.symbol_by bundle 0 list) read,
)
taken_of (OfScripts a) bundle list (lines, read) = (
  lines,
  subst (λ (ss : List scripts.Symbol). scripting.AreRead a.protocol.roles (messages_of a.protocol) ss lines)
      (say_the_same scripts.symbol_by bundle 0 list) read,
)
taken_of (OfPlan a) bundle list (lines, read) = (
  lines,
  subst (λ (ss : List plans.Symbol). planning.IsRead a.protocol.roles ss lines) (say_the_same plans.symbol_by bundle 0 list) read,
)
