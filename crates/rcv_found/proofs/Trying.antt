-- A thing that is tried behind tokens is refused there, or the grammar has it.
use Rattle.std.proofs.Common.{◌≡◌, ℕ, ◌+◌, List, [], ◌∷◌, ◌++◌, length, refl, sym, ◌∙◌, ap, subst, arith, length-append, Option, Some, None}
use Rattle.std.specs.Prelude.{slice_range, MatchOption}
use Rattle.std.specs.List.{All}
use Rattle.std.proofs.lemmas.List.{map-append}
use Rattle.rcv_lexer.specs.declared.token.Kind.{Kind}
use Rattle.rcv_lexer.specs.declared.token.Token.{Token}
use Rattle.rcv_lexer.specs.Parts.{LiesIn}
use Rattle.rcv_lexer.specs.Symbols as scan
use Rattle.rcv_syntax.specs.Symbols as protocols
use Rattle.rcv_syntax.specs.Codes as protocols_codes
use Rattle.rcv_syntax.specs.Refusing as protocols_first
use Rattle.rcv_syntax.specs.declared.fault.Fault as protocols_fault
use Rattle.rcv_syntax.specs.declared.fault.Fault.TheVariants as protocols_faults
use Rattle.rcv_machine.proofs.Exactly.{one_first}
use Rattle.rcv_script.specs.Symbols as scripts
use Rattle.rcv_script.specs.Refusals as scripting
use Rattle.rcv_script.specs.Scripts.{messages_of}
use Rattle.rcv_script.specs.declared.fault.Fault as scripts_fault
use Rattle.rcv_script.specs.declared.fault.Fault.TheVariants as scripts_faults
use Rattle.rcv_script.proofs.Once.{scripts_have_one_answer}
use Rattle.rcv_plan.specs.Symbols as plans
use Rattle.rcv_plan.specs.Refusing as planning
use Rattle.rcv_plan.specs.declared.fault.Fault as plans_fault
use Rattle.rcv_plan.specs.declared.fault.Fault.TheVariants as plans_faults
use Rattle.rcv_plan.proofs.Once.{plans_have_one_answer}
use Rattle.rcv_found.specs.Grammars.{GrammarView, OfProtocol, OfScripts, OfPlan}
use Rattle.rcv_found.specs.Things.{ThingView}
use Rattle.rcv_found.specs.Stops.{IsTakenBy, IsFirstAt, token_code}
use Rattle.rcv_found.specs.declared.stop.Stop.{Stop}
use Rattle.rcv_found.specs.May.{symbols_by, IsNotHad}
use Rattle.rcv_found.specs.Trial.{bytes_with, token_by, tokens_with}
use Rattle.rcv_found.proofs.Little.{first_of_all, others_of_all, same_behind, slice_of_front, slice_behind}

-- ---- there is one stop, and none of a part that is read

pub one_stop : (g : GrammarView) (bundle : List ℕ) (list : List Token) (c p d q : ℕ) → IsFirstAt g bundle list c p
    → IsFirstAt g bundle list d q → (c ≡ d) × (p ≡ q)
one_stop OfProtocol bundle list c p d q (f, left, first, code, place) (h, other, second, code', place') =
    let e = one_first (protocols.symbols_of bundle list) f h left other first second in
    let same : h ≡ f = cc in
    let rest : other ≡ left = cc in
    (code ∙ ap protocols_codes.code_of (sym same) ∙ sym code', omega (arith, place, place', ap length rest))
one_stop (OfScripts a) bundle list c p d q (f, left, first, code, place) (h, other, second, code', place') =
    let e = scripts_have_one_answer.first a.protocol.roles (messages_of a.protocol) (scripts.symbols_of bundle list) f h left other first second in
    (code ∙ ap scripting.code_of e.0 ∙ sym code', omega (arith, place, place', ap length e.1))
one_stop (OfPlan a) bundle list c p d q (f, left, first, code, place) (h, other, second, code', place') =
    let e = plans_have_one_answer.first a.protocol.roles (plans.symbols_of bundle list) f h left other first second in
    (code ∙ ap planning.code_of e.0 ∙ sym code', omega (arith, place, place', ap length e.1))

pub never_both : (g : GrammarView) (bundle : List ℕ) (list : List Token) (c p : ℕ) → IsTakenBy g bundle list → IsFirstAt g bundle list c p → ⊥
never_both OfProtocol bundle list c p (main, others, read) (f, left, first, code, place) = read.0 f first.front left first.cut first.holds
never_both (OfScripts a) bundle list c p (lines, read) (f, left, first, code, place) = read.free f first.front left first.cut first.holds
never_both (OfPlan a) bundle list c p (lines, read) (f, left, first, code, place) = read.free f first.front left first.cut first.holds

-- ---- what tokens with a thing behind them say

said_in_front : {S : Type 0} (by : Kind → List ℕ → scan.Symbol S) (bundle more : List ℕ) (ts : List Token)
    → All (λ (t : Token). LiesIn bundle t.span) ts
    → scan.symbols_of by (bundle ++ more) ts ≡ scan.symbols_of by bundle ts
said_in_front by bundle more [] h = refl
said_in_front {S} by bundle more (t ∷ ts) h =
    let lies = first_of_all (λ (s : Token). LiesIn bundle s.span) t ts h in
    let one : slice_range (bundle ++ more) t.span.start t.span.end ≡ slice_range bundle t.span.start t.span.end
    = slice_of_front bundle more t.span.start t.span.end lies.0 lies.1 in
    let first : scan.symbol_of by (bundle ++ more) t ≡ scan.symbol_of by bundle t = ap (by t.kind) one in
    ap (λ (s : scan.Symbol S). s ∷ scan.symbols_of by (bundle ++ more) ts) first
    ∙ ap (λ (ss : List (scan.Symbol S)). scan.symbol_of by bundle t ∷ ss) (said_in_front by bundle more ts (others_of_all (λ (s : Token). LiesIn bundle s.span) t ts h))

said_by_it : {S : Type 0} (by : Kind → List ℕ → scan.Symbol S) (bundle bytes : List ℕ) (o : Option Kind)
    → scan.symbols_of by (bundle ++ bytes) (token_by o (length bundle) (length bundle + length bytes)) ≡ symbols_by by o bytes
said_by_it by bundle bytes None = refl
said_by_it {S} by bundle bytes (Some kind) = ap (λ (bs : List ℕ). by kind bs ∷ []) (slice_behind bundle bytes)

said_with : {S : Type 0} (by : Kind → List ℕ → scan.Symbol S) (bundle : List ℕ) (front : List Token) (x : ThingView)
    → All (λ (t : Token). LiesIn bundle t.span) front
    → scan.symbols_of by (bytes_with bundle x) (tokens_with bundle front x) ≡ scan.symbols_of by bundle front ++ symbols_by by x.kind x.bytes
said_with {S} by bundle front x h =
    let last = token_by x.kind (length bundle) (length bundle + length x.bytes) in
    map-append (scan.symbol_of by (bundle ++ x.bytes)) front last
    ∙ ap (λ (ss : List (scan.Symbol S)). ss ++ scan.symbols_of by (bundle ++ x.bytes) last) (said_in_front by bundle x.bytes front h)
    ∙ ap (λ (ss : List (scan.Symbol S)). scan.symbols_of by bundle front ++ ss) (said_by_it by bundle x.bytes x.kind)

as_many_by : {S : Type 0} (by : Kind → List ℕ → scan.Symbol S) (o : Option Kind) (bytes : List ℕ) (start end : ℕ)
    → length (symbols_by by o bytes) ≡ length (token_by o start end)
as_many_by by None bytes start end = refl
as_many_by by (Some kind) bytes start end = refl

as_many_with : {S : Type 0} (by : Kind → List ℕ → scan.Symbol S) (bundle : List ℕ) (front : List Token) (x : ThingView)
    → length front + length (symbols_by by x.kind x.bytes) ≡ length (tokens_with bundle front x)
as_many_with by bundle front x =
    let last = token_by x.kind (length bundle) (length bundle + length x.bytes) in
    let one = as_many_by by x.kind x.bytes (length bundle) (length bundle + length x.bytes) in
    let all = length-append front last in
    omega (arith, one, all)

-- ---- the code of the grammar is that of one fault

protocol_token : (f : protocols_fault.Fault) → 11 ≡ protocols_codes.code_of f → f ≡ protocols_faults.Token
protocol_token protocols_faults.Token e = refl
protocol_token _ e = absurd (omega (arith, e))

script_token : (f : scripts_fault.Fault) → 30 ≡ scripting.code_of f → f ≡ scripts_faults.Token
script_token scripts_faults.Token e = refl
script_token _ e = absurd (omega (arith, e))

plan_token : (f : plans_fault.Fault) → 40 ≡ planning.code_of f → f ≡ plans_faults.Token
plan_token plans_faults.Token e = refl
plan_token _ e = absurd (omega (arith, e))

-- ---- a stop there, and a thing that isn't had

pub stopped : (g : GrammarView) (bundle : List ℕ) (front : List Token) (x : ThingView) → All (λ (t : Token). LiesIn bundle t.span) front
    → IsNotHad g bundle front x → IsFirstAt g (bytes_with bundle x) (tokens_with bundle front x) (token_code g) (length front)
stopped OfProtocol bundle front x lie h =
    let here = symbols_by protocols.symbol_by x.kind x.bytes in (
      protocols_faults.Token,
      here,
      subst (λ (ss : List protocols.Symbol). protocols_first.IsFirst ss protocols_faults.Token here)
          (sym (said_with protocols.symbol_by bundle front x lie)) h,
      refl,
      as_many_with protocols.symbol_by bundle front x,
    )
stopped (OfScripts a) bundle front x lie h =
    let here = symbols_by scripts.symbol_by x.kind x.bytes in (
      scripts_faults.Token,
      here,
      subst (λ (ss : List scripts.Symbol). scripting.IsFirst a.protocol.roles (messages_of a.protocol) ss scripts_faults.Token here)
          (sym (said_with scripts.symbol_by bundle front x lie)) h,
      refl,
      as_many_with scripts.symbol_by bundle front x,
    )
stopped (OfPlan a) bundle front x lie h =
    let here = symbols_by plans.symbol_by x.kind x.bytes in (
      plans_faults.Token,
      here,
      subst (λ (ss : List plans.Symbol). planning.IsFirst a.protocol.roles ss plans_faults.Token here)
          (sym (said_with plans.symbol_by bundle front x lie)) h,
      refl,
      as_many_with plans.symbol_by bundle front x,
    )

pub not_had : (g : GrammarView) (bundle : List ℕ) (front : List Token) (x : ThingView) → All (λ (t : Token). LiesIn bundle t.span) front
    → IsFirstAt g (bytes_with bundle x) (tokens_with bundle front x) (token_code g) (length front) → IsNotHad g bundle front x
not_had OfProtocol bundle front x lie (f, left, first, code, place) =
    let here = symbols_by protocols.symbol_by x.kind x.bytes in
    let said = said_with protocols.symbol_by bundle front x lie in
    let many = as_many_with protocols.symbol_by bundle front x in
    let same = same_behind first.front left (protocols.symbols_of bundle front) here (sym first.cut ∙ said) (omega (arith, place, many)) in
    subst (λ (ss : List protocols.Symbol). protocols_first.IsFirst ss protocols_faults.Token here) said
    (subst (λ (ss : List protocols.Symbol). protocols_first.IsFirst (protocols.symbols_of (bytes_with bundle x) (tokens_with bundle front x)) protocols_faults.Token ss) same
    (subst (λ (h : protocols_fault.Fault). protocols_first.IsFirst (protocols.symbols_of (bytes_with bundle x) (tokens_with bundle front x)) h left) (protocol_token f code) first))
not_had (OfScripts a) bundle front x lie (f, left, first, code, place) =
    let here = symbols_by scripts.symbol_by x.kind x.bytes in
    let said = said_with scripts.symbol_by bundle front x lie in
    let many = as_many_with scripts.symbol_by bundle front x in
    let same = same_behind first.front left (scripts.symbols_of bundle front) here (sym first.cut ∙ said) (omega (arith, place, many)) in
    let roles = a.protocol.roles in
    let messages = messages_of a.protocol in
    subst (λ (ss : List scripts.Symbol). scripting.IsFirst roles messages ss scripts_faults.Token here) said
    (subst (λ (ss : List scripts.Symbol). scripting.IsFirst roles messages (scripts.symbols_of (bytes_with bundle x) (tokens_with bundle front x)) scripts_faults.Token ss) same
    (subst (λ (h : scripts_fault.Fault). scripting.IsFirst roles messages (scripts.symbols_of (bytes_with bundle x) (tokens_with bundle front x)) h left) (script_token f code) first))
not_had (OfPlan a) bundle front x lie (f, left, first, code, place) =
    let here = symbols_by plans.symbol_by x.kind x.bytes in
    let said = said_with plans.symbol_by bundle front x lie in
    let many = as_many_with plans.symbol_by bundle front x in
    let same = same_behind first.front left (plans.symbols_of bundle front) here (sym first.cut ∙ said) (omega (arith, place, many)) in
    let roles = a.protocol.roles in
    subst (λ (ss : List plans.Symbol). planning.IsFirst roles ss plans_faults.Token here) said
    (subst (λ (ss : List plans.Symbol). planning.IsFirst roles (plans.symbols_of (bytes_with bundle x) (tokens_with bundle front x)) plans_faults.Token ss) same
    (subst (λ (h : plans_fault.Fault). planning.IsFirst roles (plans.symbols_of (bytes_with bundle x) (tokens_with bundle front x)) h left) (plan_token f code) first))

-- ---- what the trial says

pub judged_no : (g : GrammarView) (bundle : List ℕ) (front : List Token) (x : ThingView) (text : List ℕ) (list : List Token) (o : Option Stop)
    → All (λ (t : Token). LiesIn bundle t.span) front → text ≡ bytes_with bundle x → list ≡ tokens_with bundle front x
    → MatchOption o (IsTakenBy g text list) (λ s. IsFirstAt g text list s.code s.place)
    → ((s : Stop) × (o ≡ Some s) × (s.code ≡ token_code g) × (s.place ≡ length front)) → IsNotHad g bundle front x
judged_no g bundle front x text list o lie is_text is_list h (s, is, code, place) =
    let first : IsFirstAt g text list s.code s.place = subst (λ (p : Option Stop). MatchOption p (IsTakenBy g text list) (λ q. IsFirstAt g text list q.code q.place)) is h in
    not_had g bundle front x lie
    (subst (IsFirstAt g (bytes_with bundle x) (tokens_with bundle front x) (token_code g)) place
    (subst (λ (c : ℕ). IsFirstAt g (bytes_with bundle x) (tokens_with bundle front x) c s.place) code
    (subst (λ (ts : List Token). IsFirstAt g (bytes_with bundle x) ts s.code s.place) is_list
    (subst (λ (bs : List ℕ). IsFirstAt g bs list s.code s.place) is_text first))))

pub judged_yes : (g : GrammarView) (bundle : List ℕ) (front : List Token) (x : ThingView) (text : List ℕ) (list : List Token) (o : Option Stop)
    → All (λ (t : Token). LiesIn bundle t.span) front → text ≡ bytes_with bundle x → list ≡ tokens_with bundle front x
    → MatchOption o (IsTakenBy g text list) (λ s. IsFirstAt g text list s.code s.place)
    → ((s : Stop) → o ≡ Some s → s.code ≡ token_code g → s.place ≡ length front → ⊥) → IsNotHad g bundle front x → ⊥
judged_yes g bundle front x text list o lie is_text is_list h never not = go o refl h
  where
    there : IsFirstAt g text list (token_code g) (length front)
    there = subst (λ (ts : List Token). IsFirstAt g text ts (token_code g) (length front)) (sym is_list)
        (subst (λ (bs : List ℕ). IsFirstAt g bs (tokens_with bundle front x) (token_code g) (length front)) (sym is_text) (stopped g bundle front x lie not))

    go : (p : Option Stop) → o ≡ p → MatchOption p (IsTakenBy g text list) (λ s. IsFirstAt g text list s.code s.place) → ⊥
    go None e taken = never_both g text list (token_code g) (length front) taken there
    go (Some s) e first = let same = one_stop g text list s.code s.place (token_code g) (length front) first there in never s e same.0 same.1
