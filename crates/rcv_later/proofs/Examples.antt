-- The definitions at small plans, and at an input that is taken.
use Prim.Native.Nat.{zero, suc}
use Rattle.std.proofs.Common.{◌≡◌, ℕ, ◌<◌, List, [], ◌∷◌, length, refl, ap, arith, inl, inr, ⊎_elim, slice_index_or}
use Rattle.rcv_model.specs.Plan.{PlanLine, EveryLine, CrashLine, LimitLine, RoomLine, HostLine, crashes_in}
use Rattle.rcv_plan.specs.Shifted.{shifted}
use Rattle.rcv_input.proofs.Planned.{input, session, is_taken}
use Rattle.rcv_later.specs.Later.{later, IsLaterOf}
use Rattle.rcv_later.specs.Preparing.{PreparationView, Waits, Prepared, Stops, preparation_of, waiting, IsShortInput, IsPrepared, ArePrepared}
use Rattle.rcv_later.specs.Laws.{IsPlannedSession}
use Rattle.rcv_later.proofs.Laters.{are_planned, one_later}

-- ---- a plan of each kind of line, in which both roles crash

abbrev plan : List PlanLine
plan = EveryLine 0 2 ∷ CrashLine 0 3 ∷ CrashLine 1 5 ∷ LimitLine 9 ∷ RoomLine 4 ∷ HostLine (0 ∷ 1 ∷ []) ∷ []

-- the third one of several sessions has counts that are two more, and all else as it is
of_the_third : shifted 2 plan ≡ EveryLine 0 2 ∷ CrashLine 0 5 ∷ CrashLine 1 7 ∷ LimitLine 9 ∷ RoomLine 4 ∷ HostLine (0 ∷ 1 ∷ []) ∷ []
of_the_third = refl

-- not one line alone is later
not_one_line_alone : shifted 2 plan ≡ EveryLine 0 2 ∷ CrashLine 0 5 ∷ CrashLine 1 5 ∷ LimitLine 9 ∷ RoomLine 4 ∷ HostLine (0 ∷ 1 ∷ []) ∷ [] → ⊥
not_one_line_alone same = let count : 7 ≡ 5 = ap (λ (l : List PlanLine). slice_index_or (crashes_in l 1) 0 0) same in absurd (omega (arith, count))

-- ---- an input whose plan is `crash A 1` and `host h=A,B`

-- its second session has the crash at 2
second : IsLaterOf input 1 (record { protocol = session.protocol; scripts = session.scripts; plan = CrashLine 0 2 ∷ HostLine (0 ∷ 1 ∷ []) ∷ [] })
second = record { session = session; taken = is_taken; is_later = refl }

-- and its first session isn't its second one
first_is_not_second : IsLaterOf input 1 session → ⊥
first_is_not_second is =
    let same = (one_later input session session 1 is_taken is).plans in
    let count : 2 ≡ 1 = ap (λ (l : List PlanLine). slice_index_or (crashes_in l 0) 0 0) same in
    absurd (omega (arith, count))

-- its last one of 64 has a plan for its roles
last_is_planned : IsPlannedSession (later session 63)
last_is_planned = are_planned.taken input session 63 (omega arith) is_taken

is_short : IsShortInput input
is_short = let size : length input ≡ 87 = refl in record { taken = (session, is_taken); short = omega (arith, size) }

-- ---- preparations

two_wait : waiting input 2 ≡ preparation_of input 0 Waits ∷ preparation_of input 1 Waits ∷ []
two_wait = refl

-- the first one is ready, and for the second one there was no memory
abbrev two : List PreparationView
two = preparation_of input 0 (Prepared session) ∷ preparation_of input 1 Stops ∷ []

one_of_two : (i : ℕ) (d : PreparationView) → i < 2 → IsPrepared input i (slice_index_or two i d)
one_of_two zero d lt = record { input_is = refl; by_is = refl; through = inl tt }
one_of_two (suc zero) d lt = record { input_is = refl; by_is = refl; through = inr tt }
one_of_two (suc (suc i)) d lt = absurd (omega (arith, lt))

are_two : ArePrepared input 2 two
are_two = record { count = refl; each = one_of_two }

-- not where one of them hasn't begun
not_while_one_waits : ArePrepared input 1 (preparation_of input 0 Waits ∷ []) → ⊥
not_while_one_waits are = ⊎_elim (λ ready. ready) (λ stopped. stopped) (are.each 0 (preparation_of input 0 Waits) (omega arith)).through

-- nor in another order
not_in_another_order : ArePrepared input 2 (preparation_of input 1 Stops ∷ preparation_of input 0 Stops ∷ []) → ⊥
not_in_another_order are = let by : 1 ≡ 0 = (are.each 0 (preparation_of input 0 Waits) (omega arith)).by_is in absurd (omega (arith, by))
