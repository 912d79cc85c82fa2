-- What scripts with numbers of 64 bits send fits 64 bits.
use Rattle.std.proofs.Common.{◌≡◌, ◌<◌, ◌^◌, ◌==◌, ℕ, zero, suc, Bool, true, false, cond, List, [], ◌∷◌, ◌++◌, All, Some, None, length, drop, slice_index_or, slice_set, FitsSigned, sym, subst, arith, w64}
use Rattle.std.specs.Prelude.{ℤ, pos, negsuc}
use Rattle.std.specs.List.{cons_option}
use Rattle.std.specs.Str.{bytes_eq}
use Rattle.std.proofs.lemmas.List.Elements.{All-nil, All-cons, All-head, All-tail, All-push, All-set, All-filter, All-drop}
use Rattle.rcv_tree.specs.declared.event.Event.{Event}
use Rattle.rcv_tree.specs.declared.event.Message.{Message}
use Rattle.rcv_tree.specs.declared.entry.Entry.{Entry}
use Rattle.rcv_tree.specs.declared.entry.Entry.TheVariants.{Send, Recv, Crash, Recover}
use Rattle.rcv_model.specs.Net.{Net}
use Rattle.rcv_model.specs.Run.{put, puts_on, taken}
use Rattle.rcv_model.specs.Undo.{Kept, is_blocked, keep_from, keep_one, bound_of}
use Rattle.rcv_model.specs.Script.{Expr, Line, Literal, TheValue, TheAttempt, Variable, Negated, Plus, Minus, Times, VarLine, SendLine, PickLine, OnLine, saturated, calculate, carry_out, first_vars, number_for, vars_from, vars_of, with_first_values, zeros}
use Rattle.rcv_model.specs.Journal.{Rules, State, numbers_at, start, reading, after, durable, events_of, group_of, May, IsLegal, IsLegalFrom}
use Rattle.rcv_model.proofs.Legal.{legal_more}
use Rattle.rcv_model.proofs.Numbers.{bounded}
use Rattle.rcv_model.proofs.StableLines.{reading_join}
use Rattle.rcv_accept.specs.Accepted.{IsAcceptedProtocol}
use Rattle.rcv_plan.specs.Lines.{IsPlanned}
use Rattle.rcv_session.specs.Session.{SessionView, net_for, roles_of, rules_of, lines_of}
use Rattle.rcv_core.proofs.Ranges.{few_crash_lines}
use Rattle.rcv_lines.specs.FinalTexts.{HasFittingValue}
use Rattle.rcv_lines.specs.SmallScripts.{IsSmallExpr, IsSmallLine, HasSmallScripts, ValuesFit}

abbrev Fits : ℤ → Type 0
Fits z = FitsSigned w64 z

nothing : Fits (pos 0)
nothing = record { sfits = omega arith }

-- ---- expressions

nearest : (z : ℤ) → Fits (saturated z)
nearest (pos n) = record { sfits = omega arith }
nearest (negsuc n) = record { sfits = omega arith }

variable : (vars : List ℤ) (place : ℕ) → All Fits vars → Fits (slice_index_or vars place (pos 0))
variable [] place all = nothing
variable (v ∷ vars) zero all = All-head Fits v vars all
variable (v ∷ vars) (suc place) all = variable vars place (All-tail Fits v vars all)

value_of : (expr : Expr) (vars : List ℤ) (value : ℤ) (attempt : ℕ) → IsSmallExpr expr → All Fits vars → Fits value → attempt < 2 ^ 63 → Fits (calculate expr vars value attempt)
value_of (Literal number) vars value attempt small all fits few = record { sfits = small }
value_of TheValue vars value attempt small all fits few = fits
value_of TheAttempt vars value attempt small all fits few = record { sfits = few }
value_of (Variable place) vars value attempt small all fits few = variable vars place all
value_of (Negated a) vars value attempt small all fits few = nearest _
value_of (Plus a b) vars value attempt small all fits few = nearest _
value_of (Minus a b) vars value attempt small all fits few = nearest _
value_of (Times a b) vars value attempt small all fits few = nearest _

-- ---- scripts

set_one : (vars : List ℤ) (place : ℕ) (v : ℤ) → Fits v → All Fits vars → All Fits (slice_set vars place v)
set_one vars place v fits all = All-set Fits vars place v fits all

carried : (label : List ℕ) (value : ℤ) (lines : List Line) (vars : List ℤ) → All IsSmallLine lines → Fits value → All Fits vars → All Fits (carry_out label value lines vars)
carried label value [] vars small fits all = all
carried label value (VarLine first ∷ lines) vars small fits all = carried label value lines vars (All-tail IsSmallLine (VarLine first) lines small) fits all
carried label value (SendLine other expr ∷ lines) vars small fits all = carried label value lines vars (All-tail IsSmallLine (SendLine other expr) lines small) fits all
carried label value (PickLine other when ∷ lines) vars small fits all = carried label value lines vars (All-tail IsSmallLine (PickLine other when) lines small) fits all
carried label value (OnLine other place expr ∷ lines) vars small fits all =
    carried label value lines (cond (bytes_eq other label) (slice_set vars place (calculate expr vars value 0)) vars) (All-tail IsSmallLine (OnLine other place expr) lines small) fits (go (bytes_eq other label))
  where
    go : (b : Bool) → All Fits (cond b (slice_set vars place (calculate expr vars value 0)) vars)
    go true = set_one vars place (calculate expr vars value 0) (value_of expr vars value 0 (All-head IsSmallLine (OnLine other place expr) lines small) all fits (omega arith)) all
    go false = all

firsts : (vars : List ℤ) (place : ℕ) (lines : List Line) → All IsSmallLine lines → All Fits vars → All Fits (with_first_values vars place lines)
firsts vars place [] small all = all
firsts vars place (VarLine first ∷ lines) small all =
    firsts (slice_set vars place first) (suc place) lines (All-tail IsSmallLine (VarLine first) lines small) (set_one vars place first (All-head IsSmallLine (VarLine first) lines small) all)
firsts vars place (SendLine other expr ∷ lines) small all = firsts vars place lines (All-tail IsSmallLine (SendLine other expr) lines small) all
firsts vars place (PickLine other when ∷ lines) small all = firsts vars place lines (All-tail IsSmallLine (PickLine other when) lines small) all
firsts vars place (OnLine other to expr ∷ lines) small all = firsts vars place lines (All-tail IsSmallLine (OnLine other to expr) lines small) all

all_zeros : (n : ℕ) → All Fits (zeros n)
all_zeros zero = All-nil Fits
all_zeros (suc n) = All-cons Fits (pos 0) (zeros n) nothing (all_zeros n)

abbrev Sent : Event → Type 0
Sent e = Fits e.value

variables : (net : Net) (lines : List Line) (vars : List ℤ) (events : List Event) → All IsSmallLine lines → All Sent events → All Fits vars → All Fits (vars_from net lines vars events)
variables net lines vars [] small sent all = all
variables net lines vars (e ∷ events) small sent all =
    variables net lines (carry_out (net.label e.point) e.value lines vars) events small (All-tail Sent e events sent) (carried (net.label e.point) e.value lines vars small (All-head Sent e events sent) all)

sent_number : (label : List ℕ) (lines : List Line) (vars : List ℤ) (attempt : ℕ) → All IsSmallLine lines → All Fits vars → attempt < 2 ^ 63 → Fits (number_for label lines vars attempt)
sent_number label [] vars attempt small all few = nothing
sent_number label (VarLine first ∷ lines) vars attempt small all few = sent_number label lines vars attempt (All-tail IsSmallLine (VarLine first) lines small) all few
sent_number label (PickLine other when ∷ lines) vars attempt small all few = sent_number label lines vars attempt (All-tail IsSmallLine (PickLine other when) lines small) all few
sent_number label (OnLine other place expr ∷ lines) vars attempt small all few = sent_number label lines vars attempt (All-tail IsSmallLine (OnLine other place expr) lines small) all few
sent_number label (SendLine other expr ∷ lines) vars attempt small all few =
    go (bytes_eq other label) (sent_number label lines vars attempt (All-tail IsSmallLine (SendLine other expr) lines small) all few)
  where
    go : (b : Bool) → Fits (number_for label lines vars attempt) → Fits (cond b (calculate expr vars (pos 0) attempt) (number_for label lines vars attempt))
    go true others = value_of expr vars (pos 0) attempt (All-head IsSmallLine (SendLine other expr) lines small) all nothing few
    go false others = others

script_small : (scripts : List (List Line)) (r : ℕ) → All (All IsSmallLine) scripts → All IsSmallLine (slice_index_or scripts r [])
script_small [] r all = All-nil IsSmallLine
script_small (x ∷ scripts) zero all = All-head (All IsSmallLine) x scripts all
script_small (x ∷ scripts) (suc r) all = script_small scripts r (All-tail (All IsSmallLine) x scripts all)

-- ---- messages and kept events

messages : (net : Net) (s r : ℕ) (h : List Event) → All Sent h → All (λ (m : Message). Fits m.value) (put net s r h)
messages net s r [] all = All-nil (λ (m : Message). Fits m.value)
messages net s r (e ∷ h) all = go (puts_on net s r e) (messages net s r h (All-tail Sent e h all))
  where
    go : (b : Bool) → All (λ (m : Message). Fits m.value) (put net s r h) → All (λ (m : Message). Fits m.value) (cons_option (cond b (Some (record { point = e.point; value = e.value; stamp = e.stamp })) None) (put net s r h))
    go true rest = All-cons (λ (m : Message). Fits m.value) (record { point = e.point; value = e.value; stamp = e.stamp }) (put net s r h) (All-head Sent e h all) rest
    go false rest = rest

front_fits : (xs rest : List Message) (m : Message) → All (λ (x : Message). Fits x.value) xs → xs ≡ m ∷ rest → Fits m.value
front_fits xs rest m all is =
    All-head (λ (x : Message). Fits x.value) m rest (subst (All (λ (x : Message). Fits x.value)) is all)

kept_fit : (net : Net) (bound : ℕ → ℕ) (kept : Kept) (h : List Event) → All Sent kept.events → All Sent h → All Sent (keep_from net bound kept h).events
kept_fit net bound kept [] before all = before
kept_fit net bound kept (e ∷ h) before all =
    kept_fit net bound (keep_one net bound kept e) h (go (is_blocked net bound kept e)) (All-tail Sent e h all)
  where
    go : (b : Bool) → All Sent (cond {A = Kept} b (record { events = kept.events; stopped = e.role ∷ kept.stopped }) (record { events = kept.events ++ e ∷ []; stopped = kept.stopped })).events
    go true = before
    go false = All-push Sent kept.events e before (All-head Sent e h all)

-- ---- journals

module _ (session : SessionView) (plain : IsAcceptedProtocol session.protocol) (planned : IsPlanned (roles_of session) session.plan) (small : HasSmallScripts session) where
  abbrev rules : Rules
  rules = rules_of session

  value_fits : (front : List Entry) (e : Entry) → IsLegal rules front → All Sent (reading rules front).kept → May rules (reading rules front) e → HasFittingValue e
  value_fits front (Send e) legal all may =
      let s = reading rules front in
      let script = script_small session.scripts e.role small in
      let attempts = (bounded rules front legal).attempts e.role in
      let lines = few_crash_lines session plain.form.few_roles planned in
      let events = All-filter (λ (x : Event). x.role == e.role) Sent s.kept all in
      let vars = variables (net_for session) (lines_of session e.role) (first_vars (lines_of session e.role)) (events_of e.role s.kept) script events (firsts (zeros 16) 0 (lines_of session e.role) script (all_zeros 16)) in
      subst Fits (sym may.value) (sent_number ((net_for session).label e.point) (lines_of session e.role) (vars_of (net_for session) (lines_of session e.role) (events_of e.role s.kept)) (numbers_at s.roles e.role).attempt script vars (omega (arith, attempts, lines)))
  value_fits front (Recv e) legal all may =
      let s = reading rules front in
      front_fits (drop (length (taken (net_for session) may.own.from e.role s.kept)) (put (net_for session) may.own.from e.role s.kept)) may.front.0 (record { point = e.point; value = e.value; stamp = e.sent }) (All-drop (λ (m : Message). Fits m.value) (length (taken (net_for session) may.own.from e.role s.kept)) (put (net_for session) may.own.from e.role s.kept) (messages (net_for session) may.own.from e.role s.kept all)) may.front.1
  value_fits front (Crash p) legal all may = tt
  value_fits front (Recover p concerned kept undone) legal all may = tt

  still_fit : (s : State) (e : Entry) → All Sent s.kept → HasFittingValue e → All Sent (after rules s e).kept
  still_fit s (Send e) all fits = All-push Sent s.kept e all fits
  still_fit s (Recv e) all fits = All-push Sent s.kept e all fits
  still_fit s (Crash p) all fits = all
  still_fit s (Recover p concerned kept undone) all fits =
      kept_fit (net_for session) (bound_of (group_of rules p) (durable rules s) s.kept) (record { events = []; stopped = [] }) s.kept (All-nil Sent) all

  values_from : (front back : List Entry) → IsLegal rules front → IsLegalFrom rules (reading rules front) back → All Sent (reading rules front).kept → All HasFittingValue back
  values_from front [] legal rest all = All-nil HasFittingValue
  values_from front (e ∷ back) legal rest all =
      let fits = value_fits front e legal all rest.0 in
      let next : reading rules (front ++ e ∷ []) ≡ after rules (reading rules front) e = reading_join rules (start rules.roles) front (e ∷ []) in
      All-cons HasFittingValue e back fits (values_from (front ++ e ∷ []) back (legal_more rules (start rules.roles) front e legal rest.0) (subst (λ s. IsLegalFrom rules s back) (sym next) rest.1) (subst (λ (s : State). All Sent s.kept) (sym next) (still_fit (reading rules front) e all fits)))

pub values_fit : ValuesFit
values_fit session entries plain planned small legal = values_from session plain planned small [] entries tt legal (All-nil Sent)
