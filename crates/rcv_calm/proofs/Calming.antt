-- What the reader of a plan does with an item, it does as well where the crash lines so far are left out.
use Rattle.std.proofs.Common.{◌≡◌, ℕ, Bool, true, false, cond, List, [], ◌∷◌, ◌++◌, append-nil, refl, sym, ap, subst, ◌∙◌}
use Rattle.std.specs.Prelude.{◌||◌, ◌&&◌, codes}
use Rattle.std.specs.List.{list_any}
use Rattle.std.proofs.lemmas.List.Elements.{filter-append}
use Rattle.rcv_tree.specs.Bits.{is_listed}
use Rattle.rcv_model.specs.Plan.{PlanLine, EveryLine, CrashLine, LimitLine, RoomLine, HostLine}
use Rattle.rcv_plan.specs.declared.sign.Sign.{Sign}
use Rattle.rcv_plan.specs.declared.sign.Sign.TheVariants.{Equals, Comma, Foreign}
use Rattle.rcv_plan.specs.declared.fault.Fault.TheVariants.{Twice}
use Rattle.rcv_plan.specs.Symbols.{Symbol, Word, Number, Is, Text}
use Rattle.rcv_plan.specs.Lines.{is_every, is_limit, is_room, is_host, has_every, has_limit, has_room, is_hosted}
use Rattle.rcv_plan.specs.Grammar.{Written, WrittenEvery, WrittenCrash, WrittenLimit, WrittenRoom, WrittenHost, more_roles, item_text, is_role, place}
use Rattle.rcv_plan.specs.Codes.{is_second}
use Rattle.rcv_plan.specs.Items.{KnownView, Step, Takes, Stops, goes_on, with_line, with_host, next_name, next_number, next_count, next_role, next_sign, unhosted, next_member, next_members, host_roles, every_line, crash_line, limit_line, room_line, host_line, next_item}
use Rattle.rcv_transparent.specs.Calm.{is_calm, without_crash_lines}
use Rattle.rcv_calm.specs.Without.{is_calm_item}

-- ---- what is known without the crash lines

abbrev pub known_of : List PlanLine → List (List ℕ) → KnownView
known_of lines names = record { lines = lines; names = names }

abbrev pub calmed : KnownView → KnownView
calmed k = known_of (without_crash_lines k.lines) k.names

-- a test that no crash line passes
any_stays : (test : PlanLine → Bool) → ((r n : ℕ) → test (CrashLine r n) ≡ false) → (plan : List PlanLine)
    → list_any test (without_crash_lines plan) ≡ list_any test plan
any_stays test none [] = refl
any_stays test none (EveryLine q n ∷ plan) = ap (λ (b : Bool). test (EveryLine q n) || b) (any_stays test none plan)
any_stays test none (CrashLine q n ∷ plan) = rw (none q n) (any_stays test none plan)
any_stays test none (LimitLine n ∷ plan) = ap (λ (b : Bool). test (LimitLine n) || b) (any_stays test none plan)
any_stays test none (RoomLine n ∷ plan) = ap (λ (b : Bool). test (RoomLine n) || b) (any_stays test none plan)
any_stays test none (HostLine qs ∷ plan) = ap (λ (b : Bool). test (HostLine qs) || b) (any_stays test none plan)

every_stays : (r : ℕ) (plan : List PlanLine) → has_every r (without_crash_lines plan) ≡ has_every r plan
every_stays r plan = any_stays (is_every r) (λ q n. refl) plan

limit_stays : (plan : List PlanLine) → has_limit (without_crash_lines plan) ≡ has_limit plan
limit_stays plan = any_stays is_limit (λ q n. refl) plan

room_stays : (plan : List PlanLine) → has_room (without_crash_lines plan) ≡ has_room plan
room_stays plan = any_stays is_room (λ q n. refl) plan

hosted_stays : (r : ℕ) (plan : List PlanLine) → is_hosted r (without_crash_lines plan) ≡ is_hosted r plan
hosted_stays r plan = any_stays (is_host r) (λ q n. refl) plan

-- a line more
one_more : (lines : List PlanLine) (line : PlanLine) → is_calm line ≡ true
    → without_crash_lines lines ++ line ∷ [] ≡ without_crash_lines (lines ++ line ∷ [])
one_more lines line e = sym (filter-append is_calm lines (line ∷ []) ∙ ap (λ (b : Bool). without_crash_lines lines ++ cond b (line ∷ []) []) e)

with_line_calm : (k : KnownView) (line : PlanLine) → is_calm line ≡ true → with_line (calmed k) line ≡ calmed (with_line k line)
with_line_calm k line e = ap (λ (l : List PlanLine). known_of l k.names) (one_more k.lines line e)

with_host_calm : (k : KnownView) (name : List ℕ) (qs : List ℕ) → with_host (calmed k) name qs ≡ calmed (with_host k name qs)
with_host_calm k name qs = ap (λ (l : List PlanLine). known_of l (k.names ++ name ∷ [])) (one_more k.lines (HostLine qs) refl)

with_crash_calm : (k : KnownView) (r n : ℕ) → calmed (with_line k (CrashLine r n)) ≡ calmed k
with_crash_calm k r n = ap (λ (l : List PlanLine). known_of l k.names) (filter-append is_calm k.lines (CrashLine r n ∷ []) ∙ append-nil (without_crash_lines k.lines))

-- ---- steps

-- the same step, where the crash lines are left out behind it
abbrev pub then_calm : Step KnownView → Step KnownView
then_calm (Takes k left) = Takes (calmed k) left
then_calm (Stops f left) = Stops f left

goes_calm : {X : Type 0} (s : Step X) (more other : X → List Symbol → Step KnownView)
    → ((x : X) (left : List Symbol) → other x left ≡ then_calm (more x left)) → goes_on s other ≡ then_calm (goes_on s more)
goes_calm (Takes x left) more other h = h x left
goes_calm (Stops f left) more other h = refl

goes_same : {X Y : Type 0} (s : Step X) (more other : X → List Symbol → Step Y)
    → ((x : X) (left : List Symbol) → other x left ≡ more x left) → goes_on s other ≡ goes_on s more
goes_same (Takes x left) more other h = h x left
goes_same (Stops f left) more other h = refl

unless_second : (second other : Bool) (here : List Symbol) (step calm : Step KnownView) → other ≡ second → calm ≡ then_calm step
    → cond other (Stops Twice here) calm ≡ then_calm (cond second (Stops Twice here) step)
unless_second true true here step calm e h = refl
unless_second false false here step calm e h = h
unless_second true false here step calm e h = absurd cc
unless_second false true here step calm e h = absurd cc

every_calm : (roles : List (List ℕ)) (k : KnownView) (ts : List Symbol) → every_line roles (calmed k) ts ≡ then_calm (every_line roles k ts)
every_calm roles k ts =
    goes_calm (next_role roles ts) (λ p us. goes_on (next_number 1 100000 us) (λ n vs. Takes (with_line k (EveryLine p n)) vs)) (λ p us. goes_on (next_number 1 100000 us) (λ n vs. Takes (with_line (calmed k) (EveryLine p n)) vs))
    (λ p us. goes_calm (next_number 1 100000 us) (λ n vs. Takes (with_line k (EveryLine p n)) vs) (λ n vs. Takes (with_line (calmed k) (EveryLine p n)) vs)
    (λ n vs. ap (λ (x : KnownView). Takes x vs) (with_line_calm k (EveryLine p n) refl)))

limit_calm : (k : KnownView) (ts : List Symbol) → limit_line (calmed k) ts ≡ then_calm (limit_line k ts)
limit_calm k ts =
    goes_calm (next_number 1 100000 ts) (λ n us. Takes (with_line k (LimitLine n)) us) (λ n us. Takes (with_line (calmed k) (LimitLine n)) us)
    (λ n us. ap (λ (x : KnownView). Takes x us) (with_line_calm k (LimitLine n) refl))

room_calm : (k : KnownView) (ts : List Symbol) → room_line (calmed k) ts ≡ then_calm (room_line k ts)
room_calm k ts =
    goes_calm (next_number 1 1024 ts) (λ n us. Takes (with_line k (RoomLine n)) us) (λ n us. Takes (with_line (calmed k) (RoomLine n)) us)
    (λ n us. ap (λ (x : KnownView). Takes x us) (with_line_calm k (RoomLine n) refl))

-- ---- hosts

unhosted_stays : (k : KnownView) (qs : List ℕ) (here : List Symbol) (p : ℕ) (after : List Symbol)
    → unhosted (calmed k) qs here p after ≡ unhosted k qs here p after
unhosted_stays k qs here p after = ap (λ (b : Bool). cond (is_listed qs p || b) (Stops Twice here) (Takes (qs ++ p ∷ []) after)) (hosted_stays p k.lines)

member_stays : (roles : List (List ℕ)) (k : KnownView) (qs : List ℕ) (here : List Symbol)
    → next_member roles (calmed k) qs here ≡ next_member roles k qs here
member_stays roles k qs here = goes_same (next_role roles here) (unhosted k qs here) (unhosted (calmed k) qs here) (unhosted_stays k qs here)

members_stay : (roles : List (List ℕ)) (k : KnownView) (ts : List Symbol) (qs : List ℕ)
    → next_members roles (calmed k) qs ts ≡ next_members roles k qs ts
members_stay roles k [] qs = refl
members_stay roles k (Word w ∷ ts) qs = refl
members_stay roles k (Number n ∷ ts) qs = refl
members_stay roles k (Text x ∷ ts) qs = refl
members_stay roles k (Is Equals ∷ ts) qs = refl
members_stay roles k (Is Foreign ∷ ts) qs = refl
members_stay roles k (Is Comma ∷ []) qs = refl
members_stay roles k (Is Comma ∷ Number n ∷ ts) qs = refl
members_stay roles k (Is Comma ∷ Text x ∷ ts) qs = refl
members_stay roles k (Is Comma ∷ Is m ∷ ts) qs = refl
members_stay roles k (Is Comma ∷ Word r ∷ ts) qs =
    ap (λ (s : Step (List ℕ)). goes_on s (λ all after. next_members roles (calmed k) all ts)) (member_stays roles k qs (Word r ∷ ts))
    ∙ goes_same (next_member roles k qs (Word r ∷ ts)) (λ all after. next_members roles k all ts) (λ all after. next_members roles (calmed k) all ts) (λ all after. members_stay roles k ts all)

host_roles_stay : (roles : List (List ℕ)) (k : KnownView) (ts : List Symbol) → host_roles roles (calmed k) ts ≡ host_roles roles k ts
host_roles_stay roles k ts =
    ap (λ (s : Step (List ℕ)). goes_on s (second (calmed k))) (member_stays roles k [] ts)
    ∙ goes_same (next_member roles k [] ts) (second k) (second (calmed k))
    (λ q us. goes_same (next_sign Comma us) (third k q) (third (calmed k) q)
    (λ m vs. ap (λ (s : Step (List ℕ)). goes_on s (next_members roles (calmed k))) (member_stays roles k q vs)
    ∙ goes_same (next_member roles k q vs) (next_members roles k) (next_members roles (calmed k)) (λ all ws. members_stay roles k ws all)))
  where
    third : KnownView → List ℕ → Sign → List Symbol → Step (List ℕ)
    third j q m vs = goes_on (next_member roles j q vs) (next_members roles j)

    second : KnownView → List ℕ → List Symbol → Step (List ℕ)
    second j q us = goes_on (next_sign Comma us) (third j q)

host_calm : (roles : List (List ℕ)) (k : KnownView) (ts : List Symbol) → host_line roles (calmed k) ts ≡ then_calm (host_line roles k ts)
host_calm roles k ts =
    goes_calm (next_name k ts)
    (λ h us. goes_on (next_sign Equals us) (λ m vs. goes_on (host_roles roles k vs) (λ qs ws. Takes (with_host k h qs) ws)))
    (λ h us. goes_on (next_sign Equals us) (λ m vs. goes_on (host_roles roles (calmed k) vs) (λ qs ws. Takes (with_host (calmed k) h qs) ws)))
    (λ h us. goes_calm (next_sign Equals us)
    (λ m vs. goes_on (host_roles roles k vs) (λ qs ws. Takes (with_host k h qs) ws))
    (λ m vs. goes_on (host_roles roles (calmed k) vs) (λ qs ws. Takes (with_host (calmed k) h qs) ws))
    (λ m vs. ap (λ (s : Step (List ℕ)). goes_on s (λ qs ws. Takes (with_host (calmed k) h qs) ws)) (host_roles_stay roles k vs)
    ∙ goes_calm (host_roles roles k vs) (λ qs ws. Takes (with_host k h qs) ws) (λ qs ws. Takes (with_host (calmed k) h qs) ws)
    (λ qs ws. ap (λ (x : KnownView). Takes x ws) (with_host_calm k h qs))))

-- ---- items

-- An item that isn't a crash line is taken alike, whatever crash lines are known.
pub item_calm : (roles : List (List ℕ)) (k : KnownView) (w : Written) (ts : List Symbol) → is_calm_item w ≡ true
    → next_item roles (calmed k) (item_text w ++ ts) ≡ then_calm (next_item roles k (item_text w ++ ts))
item_calm roles k (WrittenEvery r n) ts e =
    unless_second (is_second roles k.lines (codes "every") (Word r ∷ Number n ∷ ts)) (is_second roles (without_crash_lines k.lines) (codes "every") (Word r ∷ Number n ∷ ts))
    (item_text (WrittenEvery r n) ++ ts) (every_line roles k (Word r ∷ Number n ∷ ts)) (every_line roles (calmed k) (Word r ∷ Number n ∷ ts))
    (ap (λ (b : Bool). ((is_role roles r && b) || false) || false) (every_stays (place roles r) k.lines)) (every_calm roles k (Word r ∷ Number n ∷ ts))
item_calm roles k (WrittenCrash r n) ts e = absurd cc
item_calm roles k (WrittenLimit n) ts e =
    unless_second (is_second roles k.lines (codes "limit") (Number n ∷ ts)) (is_second roles (without_crash_lines k.lines) (codes "limit") (Number n ∷ ts))
    (item_text (WrittenLimit n) ++ ts) (limit_line k (Number n ∷ ts)) (limit_line (calmed k) (Number n ∷ ts))
    (ap (λ (b : Bool). b || false) (limit_stays k.lines)) (limit_calm k (Number n ∷ ts))
item_calm roles k (WrittenRoom n) ts e =
    unless_second (is_second roles k.lines (codes "room") (Number n ∷ ts)) (is_second roles (without_crash_lines k.lines) (codes "room") (Number n ∷ ts))
    (item_text (WrittenRoom n) ++ ts) (room_line k (Number n ∷ ts)) (room_line (calmed k) (Number n ∷ ts))
    (room_stays k.lines) (room_calm k (Number n ∷ ts))
item_calm roles k (WrittenHost h a b qs) ts e = host_calm roles k (Word h ∷ Is Equals ∷ Word a ∷ Is Comma ∷ Word b ∷ more_roles qs ++ ts)

-- what is known behind a step, if anything is taken
abbrev Leaves : KnownView → Step KnownView → Type 0
Leaves k (Takes k' left) = calmed k' ≡ calmed k
Leaves k (Stops f left) = Unit {0}

leaves_on : {X : Type 0} (k : KnownView) (s : Step X) (more : X → List Symbol → Step KnownView)
    → ((x : X) (left : List Symbol) → Leaves k (more x left)) → Leaves k (goes_on s more)
leaves_on k (Takes x left) more h = h x left
leaves_on k (Stops f left) more h = tt

crash_leaves : (roles : List (List ℕ)) (k : KnownView) (ts : List Symbol) → Leaves k (crash_line roles k ts)
crash_leaves roles k ts =
    leaves_on k (next_role roles ts) (λ p us. goes_on (next_count k p us) (λ n vs. Takes (with_line k (CrashLine p n)) vs))
    (λ p us. leaves_on k (next_count k p us) (λ n vs. Takes (with_line k (CrashLine p n)) vs) (λ n vs. with_crash_calm k p n))

-- A crash line adds nothing but itself.
pub item_leaves : (roles : List (List ℕ)) (k k' : KnownView) (w : Written) (ts left : List Symbol) → is_calm_item w ≡ false
    → next_item roles k (item_text w ++ ts) ≡ Takes k' left → calmed k' ≡ calmed k
item_leaves roles k k' (WrittenCrash r n) ts left e taken = subst (Leaves k) taken (crash_leaves roles k (Word r ∷ Number n ∷ ts))
item_leaves roles k k' (WrittenEvery r n) ts left e taken = absurd cc
item_leaves roles k k' (WrittenLimit n) ts left e taken = absurd cc
item_leaves roles k k' (WrittenRoom n) ts left e taken = absurd cc
item_leaves roles k k' (WrittenHost h a b qs) ts left e taken = absurd cc
