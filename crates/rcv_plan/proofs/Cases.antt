-- Worked cases: a plan with each form of item, and for each code a list that has it and a neighbour that hasn't.
use Rattle.std.proofs.Common.{◌≡◌, ℕ, Bool, true, false, List, [], ◌∷◌, ◌++◌, refl}
use Rattle.std.specs.Prelude.{◌&&◌, not, codes}
use Rattle.rcv_model.specs.Plan.{EveryLine, CrashLine, LimitLine, RoomLine, HostLine}
use Rattle.rcv_plan.specs.declared.sign.Sign.TheVariants.{Equals, Comma}
use Rattle.rcv_plan.specs.Symbols.{Symbol, Word, Number, Is}
use Rattle.rcv_plan.specs.declared.fault.Fault.TheVariants.{Token, Role, Twice, Range}
use Rattle.rcv_plan.specs.Grammar.{Written, WrittenEvery, WrittenCrash, WrittenLimit, WrittenRoom, WrittenHost, plan_text}
use Rattle.rcv_plan.specs.Codes.{is_unknown, is_repeated, is_out_of_range}
use Rattle.rcv_plan.specs.Refusing.{backward, HoldsAt, IsRead}
use Rattle.rcv_plan.proofs.Telling.{has, AllFree}
use Rattle.rcv_plan.proofs.Exactly.{free_of, derived_is_over, begun_has}

abbrev a : List ℕ
a = codes "A"

abbrev b : List ℕ
b = codes "B"

abbrev c : List ℕ
c = codes "C"

abbrev h : List ℕ
h = codes "h"

-- a role may have the word of an item for its name
abbrev roles : List (List ℕ)
roles = a ∷ b ∷ codes "limit" ∷ []

abbrev every_symbols : List Symbol
every_symbols = Word (codes "every") ∷ []

abbrev crash_symbols : List Symbol
crash_symbols = Word (codes "crash") ∷ Word a ∷ []

abbrev host_symbols : List Symbol
host_symbols = Word (codes "host") ∷ Word h ∷ Is Equals ∷ Word a ∷ Is Comma ∷ []

-- ---- a plan that is read

abbrev passes : List Symbol → Symbol → List Symbol → Bool
passes back t ts = (has back t && not (is_unknown roles back t)) && (not (is_repeated roles back t ts) && not (is_out_of_range back t))

abbrev all_pass : List Symbol → List Symbol → Bool
all_pass back [] = true
all_pass back (t ∷ ts) = passes back t (ts ++ []) && all_pass (t ∷ back) ts

none_at : (x y z w : Bool) → ((x && not y) && (not z && not w)) ≡ true → (x ≡ true) × (y ≡ false) × (z ≡ false) × (w ≡ false)
none_at true false false false e = (refl, refl, refl, refl)
none_at false y z w e = absurd cc
none_at true true z w e = absurd cc
none_at true false true w e = absurd cc
none_at true false false true e = absurd cc

both : (x y : Bool) → (x && y) ≡ true → (x ≡ true) × (y ≡ true)
both true y e = (refl, e)
both false y e = absurd cc

all_free : (back ts : List Symbol) → all_pass back ts ≡ true → AllFree roles back ts []
all_free back [] e = tt
all_free back (t ∷ ts) e =
    let parts = both (passes back t (ts ++ [])) (all_pass (t ∷ back) ts) e in
    let none = none_at (has back t) (is_unknown roles back t) (is_repeated roles back t (ts ++ [])) (is_out_of_range back t) parts.0 in
    (record { had = none.0; known = none.1; single = none.2; ranged = none.3 }, all_free (t ∷ back) ts parts.1)

abbrev each_form : List Written
each_form = WrittenEvery (codes "limit") 100000 ∷ WrittenCrash b 0 ∷ WrittenHost h b a [] ∷ WrittenLimit 7 ∷ WrittenRoom 1024 ∷ WrittenCrash b 1 ∷ WrittenEvery b 1 ∷ []

is_read : IsRead roles (plan_text each_form) (EveryLine 2 100000 ∷ CrashLine 1 0 ∷ HostLine (1 ∷ 0 ∷ []) ∷ LimitLine 7 ∷ RoomLine 1024 ∷ CrashLine 1 1 ∷ EveryLine 1 1 ∷ [])
is_read = record { items = each_form; derived = refl; free = free_of roles (plan_text each_form) (each_form, refl) (all_free [] (plan_text each_form) refl); said_by = refl }

-- ---- 40: the end of an item that isn't whole, and a number where a role is due; behind a whole item there may be an end

ends_early : HoldsAt roles Token crash_symbols []
ends_early = ((Number 1 ∷ [], (WrittenCrash a 1 ∷ [], refl)), λ d. let over = derived_is_over crash_symbols d in cc)

number_for_role : HoldsAt roles Token every_symbols (Number 1 ∷ [])
number_for_role = ((Word a ∷ Number 1 ∷ [], (WrittenEvery a 1 ∷ [], refl)), λ d. let had = begun_has every_symbols (Number 1) d in cc)

whole : HoldsAt roles Token (plan_text (WrittenLimit 1 ∷ [])) [] → ⊥
whole e = e.1 (WrittenLimit 1 ∷ [], refl)

-- ---- 41: a role of every, of crash and of a host

unknown_every : HoldsAt roles Role every_symbols (Word c ∷ [])
unknown_every = refl

unknown_crash : HoldsAt roles Role (Word (codes "crash") ∷ []) (Word c ∷ [])
unknown_crash = refl

unknown_member : HoldsAt roles Role host_symbols (Word c ∷ [])
unknown_member = refl

known_member : is_unknown roles (backward host_symbols []) (Word b) ≡ false
known_member = refl

-- any word may name a host
name_of_host : is_unknown roles (Word (codes "host") ∷ []) (Word c) ≡ false
name_of_host = refl

-- ---- 42: the first word of a second every, by the role behind it

second_every : HoldsAt roles Twice (plan_text (WrittenEvery a 1 ∷ [])) (Word (codes "every") ∷ Word a ∷ [])
second_every = refl

other_every : is_repeated roles (backward (plan_text (WrittenEvery a 1 ∷ [])) []) (Word (codes "every")) (Word b ∷ []) ≡ false
other_every = refl

every_at_the_end : is_repeated roles (backward (plan_text (WrittenEvery a 1 ∷ [])) []) (Word (codes "every")) [] ≡ false
every_at_the_end = refl

second_limit : HoldsAt roles Twice (plan_text (WrittenLimit 1 ∷ WrittenCrash a 1 ∷ [])) (Word (codes "limit") ∷ [])
second_limit = refl

-- as a role it is none
limit_as_role : is_repeated roles (backward (plan_text (WrittenLimit 1 ∷ []) ++ every_symbols) []) (Word (codes "limit")) [] ≡ false
limit_as_role = refl

second_room : HoldsAt roles Twice (plan_text (WrittenRoom 1 ∷ [])) (Word (codes "room") ∷ [])
second_room = refl

second_crash : HoldsAt roles Twice (plan_text (WrittenCrash a 1 ∷ []) ++ crash_symbols) (Number 1 ∷ [])
second_crash = refl

other_count : is_repeated roles (backward (plan_text (WrittenCrash a 1 ∷ []) ++ crash_symbols) []) (Number 2) [] ≡ false
other_count = refl

other_role : is_repeated roles (backward (plan_text (WrittenCrash b 1 ∷ []) ++ crash_symbols) []) (Number 1) [] ≡ false
other_role = refl

second_host : HoldsAt roles Twice (plan_text (WrittenHost h a b [] ∷ []) ++ Word (codes "host") ∷ []) (Word h ∷ [])
second_host = refl

twice_in_host : HoldsAt roles Twice host_symbols (Word a ∷ [])
twice_in_host = refl

once_in_host : is_repeated roles (backward host_symbols []) (Word b) [] ≡ false
once_in_host = refl

in_two_hosts : HoldsAt roles Twice (plan_text (WrittenHost (codes "g") a b [] ∷ []) ++ Word (codes "host") ∷ Word h ∷ Is Equals ∷ []) (Word b ∷ [])
in_two_hosts = refl

-- ---- 43: each range at both its ends

every_0 : HoldsAt roles Range (every_symbols ++ Word a ∷ []) (Number 0 ∷ [])
every_0 = refl

every_100000 : is_out_of_range (backward (every_symbols ++ Word a ∷ []) []) (Number 100000) ≡ false
every_100000 = refl

every_100001 : HoldsAt roles Range (every_symbols ++ Word a ∷ []) (Number 100001 ∷ [])
every_100001 = refl

crash_0 : is_out_of_range (backward crash_symbols []) (Number 0) ≡ false
crash_0 = refl

crash_100001 : HoldsAt roles Range crash_symbols (Number 100001 ∷ [])
crash_100001 = refl

limit_0 : HoldsAt roles Range (Word (codes "limit") ∷ []) (Number 0 ∷ [])
limit_0 = refl

room_1024 : is_out_of_range (Word (codes "room") ∷ []) (Number 1024) ≡ false
room_1024 = refl

room_1025 : HoldsAt roles Range (Word (codes "room") ∷ []) (Number 1025 ∷ [])
room_1025 = refl
