-- The codes from 41 on, each by the symbols alone. Everywhere back are the symbols before, the nearest first, t is the symbol at
-- which the code may hold, and ts are the symbols after it.
use Rattle.std.specs.Prelude.{◌≡◌, ℕ, nat_le, Bool, true, false, not, ◌&&◌, ◌||◌, codes, if◌then◌else◌, List, [], ◌∷◌, ◌++◌}
use Rattle.std.specs.List.{list_any}
use Rattle.std.specs.Str.{bytes_eq}
use Rattle.rcv_model.specs.Plan.{PlanLine, EveryLine, CrashLine, LimitLine, RoomLine, HostLine}
use Rattle.rcv_plan.specs.Symbols.{Symbol, Word, Number, Is, is_comma, is_equals}
use Rattle.rcv_plan.specs.declared.fault.Fault.{Fault}
use Rattle.rcv_plan.specs.declared.fault.Fault.TheVariants.{Token, Role, Twice, Range}
use Rattle.rcv_plan.specs.Lines.{has_every, has_crash, has_limit, has_room, is_hosted}
use Rattle.rcv_plan.specs.Grammar.{is_role, place}

abbrev pub is_among : List ℕ → List (List ℕ) → Bool
is_among name names = list_any (λ other. bytes_eq other name) names

-- ---- what stands where

-- An item may begin here: at the start, after a number, or after a role that follows a comma. No word is reserved, so a word
-- begins an item by its place alone.
abbrev pub is_between : List Symbol → Bool
is_between [] = true
is_between (Number n ∷ back) = true
is_between (Word q ∷ Is m ∷ back) = is_comma m
is_between _ = false

-- the first word of an item is this one, and stands directly before
abbrev pub is_behind : List ℕ → List Symbol → Bool
is_behind word (Word w ∷ back) = is_between back && bytes_eq w word
is_behind word _ = false

-- the first word of an item is this one, and one word more stands before
abbrev pub is_behind_role : List ℕ → List Symbol → Bool
is_behind_role word (Word r ∷ back) = is_behind word back
is_behind_role word _ = false

-- a role of a host stands here
abbrev pub is_in_list : List Symbol → Bool
is_in_list (Is m ∷ back) = is_equals m || is_comma m
is_in_list _ = false

-- the line that a number ends
abbrev pub line_with_role : List (List ℕ) → List Symbol → ℕ → List PlanLine
line_with_role roles (Word r ∷ back) n =
    if is_behind (codes "every") back then EveryLine (place roles r) n ∷ []
    else (if is_behind (codes "crash") back then CrashLine (place roles r) n ∷ [] else [])
line_with_role roles _ n = []

abbrev pub line_ended : List (List ℕ) → List Symbol → ℕ → List PlanLine
line_ended roles back n =
    if is_behind (codes "limit") back then LimitLine n ∷ []
    else (if is_behind (codes "room") back then RoomLine n ∷ [] else line_with_role roles back n)

-- one role more of the last line
abbrev pub with_role : List PlanLine → ℕ → List PlanLine
with_role [] q = []
with_role (HostLine qs ∷ []) q = HostLine (qs ++ q ∷ []) ∷ []
with_role (line ∷ lines) q = line ∷ with_role lines q

-- a role after a = begins a host, and one after a comma goes on with it
abbrev pub with_hosted : List Symbol → List PlanLine → ℕ → List PlanLine
with_hosted (Is m ∷ back) lines q = if is_equals m then lines ++ HostLine (q ∷ []) ∷ [] else with_role lines q
with_hosted _ lines q = lines

-- The lines so far, the last host as far as it has come.
abbrev pub lines_before : List (List ℕ) → List Symbol → List PlanLine
lines_before roles [] = []
lines_before roles (Number n ∷ back) = lines_before roles back ++ line_ended roles back n
lines_before roles (Word w ∷ back) = with_hosted back (lines_before roles back) (place roles w)
lines_before roles (_ ∷ back) = lines_before roles back

-- the names of the hosts so far
abbrev pub hosts_before : List Symbol → List (List ℕ)
hosts_before [] = []
hosts_before (Word h ∷ back) = if is_behind (codes "host") back then hosts_before back ++ h ∷ [] else hosts_before back
hosts_before (_ ∷ back) = hosts_before back

-- ---- the table

-- 41: a role of every, of crash or of a host that isn't declared
abbrev pub is_unknown : List (List ℕ) → List Symbol → Symbol → Bool
is_unknown roles back (Word r) =
    (is_behind (codes "every") back || is_behind (codes "crash") back || is_in_list back) && not (is_role roles r)
is_unknown roles back _ = false

-- 42: the first word of a second every of the role after it, if that is declared, or of a second limit or room; the number of a
-- crash line that stands before; the name of a host that stands before; and a role that has a host
abbrev pub is_second_every : List (List ℕ) → List PlanLine → List Symbol → Bool
is_second_every roles lines (Word r ∷ ts) = is_role roles r && has_every (place roles r) lines
is_second_every roles lines _ = false

abbrev pub is_second : List (List ℕ) → List PlanLine → List ℕ → List Symbol → Bool
is_second roles lines w ts =
    (bytes_eq w (codes "every") && is_second_every roles lines ts)
    || (bytes_eq w (codes "limit") && has_limit lines)
    || (bytes_eq w (codes "room") && has_room lines)

abbrev pub is_second_crash : List (List ℕ) → List Symbol → ℕ → Bool
is_second_crash roles (Word r ∷ back) n = is_behind (codes "crash") back && has_crash (place roles r) n (lines_before roles (Word r ∷ back))
is_second_crash roles _ n = false

abbrev pub is_repeated : List (List ℕ) → List Symbol → Symbol → List Symbol → Bool
is_repeated roles back (Word w) ts =
    (is_between back && is_second roles (lines_before roles back) w ts)
    || (is_behind (codes "host") back && is_among w (hosts_before back))
    || (is_in_list back && is_hosted (place roles w) (lines_before roles back))
is_repeated roles back (Number n) ts = is_second_crash roles back n
is_repeated roles back _ ts = false

-- 43: a number out of the range of its line
abbrev pub within : ℕ → ℕ → ℕ → Bool
within low high n = nat_le low n && nat_le n high

abbrev pub is_out_of_range : List Symbol → Symbol → Bool
is_out_of_range back (Number n) =
    (is_behind_role (codes "every") back && not (within 1 100000 n))
    || (is_behind_role (codes "crash") back && not (within 0 100000 n))
    || (is_behind (codes "limit") back && not (within 1 100000 n))
    || (is_behind (codes "room") back && not (within 1 1024 n))
is_out_of_range back _ = false

-- The code holds at t. (Code 40 is that of the grammar.)
abbrev pub Holds : List (List ℕ) → Fault → List Symbol → Symbol → List Symbol → Type 0
Holds roles Token back t ts = ⊥
Holds roles Role back t ts = is_unknown roles back t ≡ true
Holds roles Twice back t ts = is_repeated roles back t ts ≡ true
Holds roles Range back t ts = is_out_of_range back t ≡ true
