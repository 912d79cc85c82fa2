-- A worked session with two lanes side by side and a stage behind them: a host of the first lane's two roles crashes when
-- both lanes are at their ends and the stage behind is done. The recovery undoes a part of the first lane and the stage
-- behind it, and nothing of the other lane.
use Rattle.std.proofs.Common.{◌≡◌, ℕ, zero, suc, Some, None, List, [], ◌∷◌, ◌++◌, length, refl, ap, ◌∙◌, ◌⊎◌, inl, inr, arith}
use Rattle.std.specs.Prelude.{if◌then◌else◌, replicate, slice_index, pos}
use Rattle.rcv_tree.specs.Bits.{has_bit, is_listed}
use Rattle.rcv_tree.specs.declared.entry.Entry.{Entry}
use Rattle.rcv_tree.specs.declared.entry.Entry.TheVariants.{Send, Recv, Crash}
use Rattle.rcv_model.specs.Text.{Body, End, Single, Choose, Loop, Again, Parallel, NoMore, Or}
use Rattle.rcv_model.specs.Form.{HasForm}
use Rattle.rcv_model.specs.Net.{Net, IsIn}
use Rattle.rcv_model.specs.Next.{IsProper, IsAccepted}
use Rattle.rcv_model.specs.Places.{Behind, Inside, IsFullText, net_of}
use Rattle.rcv_model.specs.Plan.{PlanLine, EveryLine, CrashLine, HostLine, session_rules}
use Rattle.rcv_model.specs.Run.{acts}
use Rattle.rcv_model.specs.Script.{Line, VarLine, PickLine, OnLine, Variable, Literal, Plus, Less}
use Rattle.rcv_model.specs.Accept.{HasSubjects, Fails}
use Rattle.rcv_model.specs.Journal.{Rules, State, start, after, place, reading, concerned_in, kept_by, May, IsLegal}
use Rattle.rcv_model.specs.Final.{IsFinal, AreDone}
use Rattle.rcv_model.proofs.Accepting.{accepted_both}
use Rattle.rcv_model.proofs.Cases.{says, hears, recover}
use Rattle.rcv_model.proofs.Decided.{decided}
use Rattle.rcv_model.proofs.Forms.{proper}
use Rattle.rcv_model.proofs.Journals.{below_8}
use Rattle.rcv_model.proofs.PlacesLemmas.{offers_complete}
use Rattle.rcv_model.proofs.Recovering.{may_recover}
use Rattle.rcv_parallel.proofs.LaneNexts.{next_in}
use Rattle.rcv_parallel.proofs.LaneAccepted.{accepted_in_lanes}
use Rattle.rcv_parallel.proofs.LaneSteps.{send_in, recv_in, final_in}
use Rattle.rcv_model.proofs.Roles.{up}

-- par { rec L { choice at A { a from A to B; continue L; } or { b from A to B; } } } and { c from C to D; } e from B to C;
abbrev pub a_or_b : Body
a_or_b = Choose 0 (Or (Single (97 ∷ []) [] 0 1 1 (Again (76 ∷ []) End)) (Or (Single (98 ∷ []) [] 0 1 2 End) NoMore)) End

abbrev pub behind : Body
behind = Single (101 ∷ []) [] 1 2 4 End

abbrev pub text : Body
text = Parallel (Or (Loop (76 ∷ []) a_or_b End) (Or (Single (99 ∷ []) [] 2 3 3 End) NoMore)) behind

abbrev pub net : Net
net = net_of text

-- the points 1 and 2 stand in one lane, 3 beside them, and 4 in the stage behind
lanes_are : net.lane 1 ∷ net.lane 2 ∷ net.lane 3 ∷ net.lane 4 ∷ [] ≡ 1 ∷ 1 ∷ 2 ∷ 3 ∷ []
lanes_are = refl

stages_are : net.stage 1 ∷ net.stage 2 ∷ net.stage 3 ∷ [] ≡ 1 ∷ 1 ∷ 2 ∷ []
stages_are = refl

pub text_form : HasForm text 4
text_form = record {
  numbered = (refl, (refl, (refl, (refl, tt))));
  ends = (omega arith, omega arith, (λ e. omega arith), (omega arith, omega arith, (λ e. omega arith), (omega arith, omega arith, (λ e. omega arith), (omega arith, omega arith, (λ e. omega arith), tt))));
  subjects = ((((omega arith, (tt, (tt, tt)), tt), tt), (tt, tt)), tt);
  apart = ((apart, ((λ r h k. k), tt)), tt);
  few_roles = omega arith;
  few_points = omega arith;
}
  where
    two : (r : ℕ) → (0 ≡ r) ⊎ (1 ≡ r) → (((2 ≡ r) ⊎ (3 ≡ r)) ⊎ ⊥) → ⊥
    two r (inl e) (inl (inl f)) = omega (arith, e, f)
    two r (inl e) (inl (inr f)) = omega (arith, e, f)
    two r (inr e) (inl (inl f)) = omega (arith, e, f)
    two r (inr e) (inl (inr f)) = omega (arith, e, f)
    two r d (inr none) = none

    apart : (r : ℕ) → ((0 ≡ r) ⊎ (1 ≡ r)) ⊎ (((0 ≡ r) ⊎ (1 ≡ r)) ⊎ ⊥) → (((2 ≡ r) ⊎ (3 ≡ r)) ⊎ ⊥) → ⊥
    apart r (inl d) k = two r d k
    apart r (inr (inl d)) k = two r d k
    apart r (inr (inr none)) k = none

pub text_proper : IsProper net 4
text_proper = proper text 4 text_form

pub text_full : IsFullText text
text_full = (((λ n. n), ((λ n. n), (((λ n. n), (inl refl, (λ n. n), tt), ((λ n. n), tt, tt)), tt), tt), ((λ n. n), tt, tt)), tt)

-- no rule of acceptance fails
pub text_accepted : IsAccepted net 4
text_accepted = accepted_in_lanes net 4 text_proper refl refl refl

pub text_subjects : HasSubjects text
text_subjects s p (inl a) = from_a p (offers_complete (record { left = a_or_b; frames = Inside (76 ∷ []) a_or_b End ∷ Behind behind ∷ [] }) p a.1) ∙ a.0
  where
    from_a : (p : ℕ) → IsIn p (1 ∷ 2 ∷ []) → net.sender p ≡ 0
    from_a p (inl e) = ap net.sender e
    from_a p (inr (inl e)) = ap net.sender e
    from_a p (inr (inr i)) = absurd i
text_subjects s p (inr i) = absurd i

no_rule_fails : (c r n : ℕ) → Fails text 4 c r n → ⊥
no_rule_fails = (accepted_both text 4 (decided text 4 text_form)).1 (text_accepted, text_subjects)

-- A sends a twice, and then b
abbrev pub scripts : ℕ → List Line
scripts zero =
    VarLine (pos 0) ∷ OnLine (97 ∷ []) 0 (Plus (Variable 0) (Literal 1)) ∷ PickLine (97 ∷ []) (Some (record { left = Variable 0; test = Less; right = Literal 2 })) ∷ PickLine (98 ∷ []) None ∷ []
scripts (suc r) = []

-- A and B are on one host and save each second event; B crashes at its fourth
abbrev pub plan : List PlanLine
plan = HostLine (0 ∷ 1 ∷ []) ∷ EveryLine 0 2 ∷ EveryLine 1 2 ∷ CrashLine 1 4 ∷ []

abbrev pub rules : Rules
rules = session_rules text 4 scripts plan

-- B's fourth event is e, and C receives it before B recovers
abbrev pub until_crash : List Entry
until_crash =
    Send (says 0 1 0 1) ∷ Send (says 2 3 0 1) ∷ Send (says 0 1 0 2) ∷ Send (says 0 2 0 3) ∷ Recv (hears 1 1 0 2 1) ∷ Recv (hears 3 3 0 2 1)
    ∷ Recv (hears 1 1 0 3 2) ∷ Recv (hears 1 2 0 4 3) ∷ Send (says 1 4 0 5) ∷ Crash 1 ∷ []

abbrev pub c_receives : Entry
c_receives = Recv (hears 2 4 0 6 5)

abbrev pub front : List Entry
front = until_crash ++ c_receives ∷ []

-- A has saved two events and B four: A loses b, and with it B b and e, and C e
abbrev pub kept : List ℕ
kept = 2 ∷ 2 ∷ 1 ∷ replicate 5 0

abbrev pub back : Entry
back = recover 1 7 kept 4

abbrev pub rest : List Entry
rest = Send (says 0 2 0 8) ∷ Recv (hears 1 2 0 9 8) ∷ Send (says 1 4 0 10) ∷ Recv (hears 2 4 0 11 10) ∷ []

abbrev pub journal : List Entry
journal = front ++ back ∷ rest

-- the states
abbrev pub s0 : State
s0 = start 4

abbrev s1 : State
s1 = after rules s0 (Send (says 0 1 0 1))

abbrev s2 : State
s2 = after rules s1 (Send (says 2 3 0 1))

abbrev s3 : State
s3 = after rules s2 (Send (says 0 1 0 2))

abbrev s4 : State
s4 = after rules s3 (Send (says 0 2 0 3))

abbrev pub s5 : State
s5 = after rules s4 (Recv (hears 1 1 0 2 1))

abbrev s6 : State
s6 = after rules s5 (Recv (hears 3 3 0 2 1))

abbrev s7 : State
s7 = after rules s6 (Recv (hears 1 1 0 3 2))

abbrev s8 : State
s8 = after rules s7 (Recv (hears 1 2 0 4 3))

abbrev s9 : State
s9 = after rules s8 (Send (says 1 4 0 5))

abbrev pub s10 : State
s10 = after rules s9 (Crash 1)

abbrev pub s11 : State
s11 = after rules s10 c_receives

-- behind the recovery: what A and B did with a, and all of the lane beside
abbrev pub s12 : State
s12 = record {
  kept = says 0 1 0 1 ∷ says 2 3 0 1 ∷ says 0 1 0 2 ∷ hears 1 1 0 2 1 ∷ hears 3 3 0 2 1 ∷ hears 1 1 0 3 2 ∷ [];
  roles = up 3 0 1 7 ∷ up 4 1 1 7 ∷ up 2 0 1 7 ∷ up 1 0 0 2 ∷ [];
}

twelve : after rules s11 back ≡ s12
twelve = refl

abbrev s13 : State
s13 = after rules s12 (Send (says 0 2 0 8))

abbrev s14 : State
s14 = after rules s13 (Recv (hears 1 2 0 9 8))

abbrev s15 : State
s15 = after rules s14 (Send (says 1 4 0 10))

abbrev pub s16 : State
s16 = after rules s15 (Recv (hears 2 4 0 11 10))

pub sixteen : reading rules journal ≡ s16
sixteen = refl

pub recovers : May rules s11 back
recovers = may_recover rules s11 1 text_proper text_accepted.lanes_end 7 kept 4 (omega arith, refl) (omega arith) (below_8 (λ q. has_bit 7 q ≡ is_listed (concerned_in rules s11 1) q) refl refl refl refl refl refl refl refl) refl (below_8 (λ q. slice_index kept q ≡ (if has_bit 7 q then length (acts q (kept_by rules s11 1)) else 0)) refl refl refl refl refl refl refl refl) refl

pub legal : IsLegal rules journal
legal =
    (send_in rules text_proper s0 (says 0 1 0 1) refl refl refl refl refl refl refl, (send_in rules text_proper s1 (says 2 3 0 1) refl refl refl refl refl refl refl, (send_in rules text_proper s2 (says 0 1 0 2) refl refl refl refl refl refl refl, (send_in rules text_proper s3 (says 0 2 0 3) refl refl refl refl refl refl refl, (recv_in rules text_proper s4 (hears 1 1 0 2 1) (record { point = 1; value = pos 0; stamp = 2 } ∷ record { point = 2; value = pos 0; stamp = 3 } ∷ []) refl refl refl refl refl, (recv_in rules text_proper s5 (hears 3 3 0 2 1) [] refl refl refl refl refl, (recv_in rules text_proper s6 (hears 1 1 0 3 2) (record { point = 2; value = pos 0; stamp = 3 } ∷ []) refl refl refl refl refl, (recv_in rules text_proper s7 (hears 1 2 0 4 3) [] refl refl refl refl refl, (send_in rules text_proper s8 (says 1 4 0 5) refl refl refl refl refl refl refl, ((omega arith, (refl, omega arith)), (recv_in rules text_proper s10 (hears 2 4 0 6 5) [] refl refl refl refl refl, (recovers, (send_in rules text_proper s12 (says 0 2 0 8) refl refl refl refl refl refl refl, (recv_in rules text_proper s13 (hears 1 2 0 9 8) [] refl refl refl refl refl, (send_in rules text_proper s14 (says 1 4 0 10) refl refl refl refl refl refl refl, (recv_in rules text_proper s15 (hears 2 4 0 11 10) [] refl refl refl refl refl, tt))))))))))))))))

pub final : IsFinal rules (reading rules journal)
final = final_in rules text_proper s16 refl

-- nothing is next for any role
pub done : AreDone rules (reading rules journal)
done zero lt z n = (next_in net 4 text_proper 0 (place s16 0) refl).complete z n
done (suc zero) lt z n = (next_in net 4 text_proper 1 (place s16 1) refl).complete z n
done (suc (suc zero)) lt z n = (next_in net 4 text_proper 2 (place s16 2) refl).complete z n
done (suc (suc (suc zero))) lt z n = (next_in net 4 text_proper 3 (place s16 3) refl).complete z n
done (suc (suc (suc (suc r)))) lt z n = omega arith
