-- The laws on runs, stuck states, messages and recoveries, applied to the worked session with lanes: each has something to
-- speak of there.
use Rattle.std.proofs.Common.{◌≡◌, ℕ, zero, suc, ◌<◌, Bool, List, [], ◌∷◌, ◌++◌, refl, sym, ap, subst, ◌⊎◌, inl, inr, ⊎_elim, arith}
use Rattle.std.specs.Prelude.{pos}
use Rattle.rcv_tree.specs.declared.event.Dir.TheVariants.{Got}
use Rattle.rcv_model.specs.Net.{IsIn, opened, IsWalk}
use Rattle.rcv_model.specs.Run.{joint_of, channel, IsRun, IsReachedState}
use Rattle.rcv_model.specs.Act.{IsNotStuck}
use Rattle.rcv_model.specs.Next.{IsNext, AreNext}
use Rattle.rcv_model.specs.Table.{IsRestart, AreRestarts, IsConcernedByAny, start_of}
use Rattle.rcv_model.specs.TableLaws.{IsForeseen}
use Rattle.rcv_model.specs.Undo.{UndoesExactly, keep_of, picked}
use Rattle.rcv_model.specs.UndoLaws.{TellsRight}
use Rattle.rcv_model.specs.Premises.{IsSession, IsBystander}
use Rattle.rcv_model.specs.Journal.{numbers_at, durable, group_of, events_of, reading, IsDue, KeepsRuns}
use Rattle.rcv_model.specs.Final.{CanAct, AreDone, HasOneAtLimit, ChoosesOffered}
use Rattle.rcv_model.proofs.Choosing.{chosen_in}
use Rattle.rcv_model.proofs.Finals.{no_stuck, done_or_limited}
use Rattle.rcv_model.proofs.Groups.{foreseen, group_keeps, group_channel_kept}
use Rattle.rcv_model.proofs.Lanes.{ended_stays}
use Rattle.rcv_model.proofs.Legal.{accepted_runs}
use Rattle.rcv_model.proofs.Reached.{reach}
use Rattle.rcv_model.proofs.Recoveries.{undo_in_journal}
use Rattle.rcv_model.proofs.Recovering.{listed}
use Rattle.rcv_model.proofs.RestartLists.{restart_list}
use Rattle.rcv_model.proofs.Stepping.{calm_by, due_not}
use Rattle.rcv_model.proofs.Stuck.{not_stuck}
use Rattle.rcv_model.proofs.Telling.{tells_right}
use Rattle.rcv_model.proofs.Walks.{come_front, come_back}
use Rattle.rcv_theory.specs.Bystander.{KeepsAll}
use Rattle.rcv_theory.specs.Expected.{IsExpected}
use Rattle.rcv_theory.specs.ExpectedLaws.{IsNotStuckIn}
use Rattle.rcv_theory.specs.Foreseen.{IsSparedOrForeseen}
use Rattle.rcv_theory.proofs.BesideRounds.{legal_front}
use Rattle.rcv_theory.proofs.Besides.{keeps}
use Rattle.rcv_theory.proofs.Expecting.{unexpected}
use Rattle.rcv_theory.proofs.Foreseeing.{recoveries_are_foreseen}
use Rattle.rcv_parallel.proofs.LaneNexts.{next_in}
use Rattle.rcv_parallel.proofs.LaneSession.{text, net, text_form, text_proper, text_accepted, scripts, rules, until_crash, c_receives, front, kept, back, rest, journal, s0, s10, s11, s12, recovers, legal, final}
use Rattle.rcv_model.proofs.Cases.{says, hears}

pub is_session : IsSession rules
is_session = record { proper = text_proper; accepted = text_accepted }

-- ---- runs, and the states of the protocol

pub runs : KeepsRuns rules journal
runs = accepted_runs rules journal text_proper text_accepted legal

reached : IsReachedState net (joint_of net (reading rules front).kept)
reached = reach rules text front (back ∷ rest) refl text_form text_accepted legal

-- what was done when B crashes, and before and behind its recovery
run_then : IsRun net s10.kept
run_then = runs until_crash (c_receives ∷ back ∷ rest) refl

pub run : IsRun net s11.kept
run = runs front (back ∷ rest) refl

-- ---- stuck states

pub chooses : ChoosesOffered rules
chooses r events attempt zs some = chosen_in net scripts r events attempt zs some

-- with both lanes at their ends some role can go on, by the protocol alone
goes_on : IsNotStuck net 4 s12.kept
goes_on = let r = runs (front ++ back ∷ []) rest refl in not_stuck net 4 r.0 s12.kept text_proper text_accepted r.1

-- and behind the recovery the session goes on
no_due : (r : ℕ) → r < 4 → IsDue rules (reading rules (front ++ back ∷ [])) r → ⊥
no_due zero lt d = due_not rules s12 0 refl d
no_due (suc zero) lt d = due_not rules s12 1 refl d
no_due (suc (suc zero)) lt d = due_not rules s12 2 refl d
no_due (suc (suc (suc zero))) lt d = due_not rules s12 3 refl d
no_due (suc (suc (suc (suc r)))) lt d = omega arith

not_stuck_then : IsNotStuckIn rules (reading rules (front ++ back ∷ []))
not_stuck_then = no_stuck rules (front ++ back ∷ []) text_proper text_accepted chooses (omega arith) (legal_front rules s0 (front ++ back ∷ []) rest legal) (λ r c. calm_by s12 refl r c) no_due

-- so some role can make a step: A isn't done, for a and b are next, and nobody has come to the limit
a_chooses : IsNext net 0 1 2
a_chooses = (next_in net 4 text_proper 0 1 refl).sound 2 (inr (inl refl))

below_limit : (r : ℕ) → r < 4 → (numbers_at (reading rules (front ++ back ∷ [])).roles r).raw ≡ rules.limit → ⊥
below_limit zero lt e = let f : ◌≡◌ {A = ℕ} 3 10000 = e in omega (arith, f)
below_limit (suc zero) lt e = let f : ◌≡◌ {A = ℕ} 4 10000 = e in omega (arith, f)
below_limit (suc (suc zero)) lt e = let f : ◌≡◌ {A = ℕ} 2 10000 = e in omega (arith, f)
below_limit (suc (suc (suc zero))) lt e = let f : ◌≡◌ {A = ℕ} 1 10000 = e in omega (arith, f)
below_limit (suc (suc (suc (suc r)))) lt e = omega arith

some_role_acts : (r : ℕ) × (r < 4) × CanAct rules (reading rules (front ++ back ∷ [])) r
some_role_acts = ⊎_elim (λ done. absurd (done 0 (omega arith) 2 a_chooses)) (λ more. ⊎_elim (λ can. can) (λ at. absurd (below_limit at.0 at.1 at.3)) more) not_stuck_then

at_end : AreDone rules (reading rules journal) ⊎ HasOneAtLimit rules (reading rules journal)
at_end = done_or_limited rules journal text_proper text_accepted chooses (omega arith) legal final

-- ---- messages

-- when B crashes, C is at the end of its lane and expects e, which comes from the other lane's role in the stage behind
from_b : (z : ℕ) → IsIn z (4 ∷ []) → (net.receiver z ≡ 2) × (net.sender z ≡ 1)
from_b z (inl e) = (ap net.receiver e, ap net.sender e)
from_b z (inr i) = absurd i

c_next : AreNext net 2 3 (4 ∷ [])
c_next = next_in net 4 text_proper 2 3 refl

c_expects : IsExpected net run_then.0 s10.kept 2 4
c_expects = unexpected net run_then.0 s10.kept 2 1 (record { point = 4; value = pos 0; stamp = 5 }) [] (4, text_proper) run_then.1 (4, c_next.sound 4 (inl refl)) (λ z n. from_b z (c_next.complete z n)) refl

-- ---- the recovery

undone : (has : ℕ → Bool) × UndoesExactly net s11.kept (group_of rules 1) (durable rules s11) has × ((reading rules (front ++ back ∷ [])).kept ≡ picked has s11.kept)
undone = undo_in_journal rules front rest 1 _ _ _ legal

-- it undoes four of ten events, as its line says: b of the failed lane, sent and received, and e of the stage behind
pub tells : TellsRight rules (reading rules front) (reading rules (front ++ back ∷ [])) 1 (record { 0 = 7 }) kept 4
tells = tells_right rules front rest 1 _ _ _ legal

what_is_left : picked tells.has s11.kept ≡ says 0 1 0 1 ∷ says 2 3 0 1 ∷ says 0 1 0 2 ∷ hears 1 1 0 2 1 ∷ hears 3 3 0 2 1 ∷ hears 1 1 0 3 2 ∷ []
what_is_left = sym tells.rest.left

-- D, a role of the lane beside alone, isn't named, and keeps all
each : (q : ℕ) → q < 8 → IsSparedOrForeseen rules (reading rules front) (reading rules (front ++ back ∷ [])) 1 (record { 0 = 7 }) q
each = recoveries_are_foreseen rules front rest 1 (record { 0 = 7 }) kept 4 is_session legal

pub d_keeps : KeepsAll net (reading rules front) (reading rules (front ++ back ∷ [])) 3
d_keeps = (each 3 (omega arith)).spared (λ e. cc)

d_keeps_then : KeepsAll net s11 s12 3
d_keeps_then = keeps rules s11 1 3 (record { 0 = 7 }) kept 4 text_proper text_accepted.lanes_end run recovers (omega arith) (λ e. cc)

-- A and B restart at b, in their lane, and C at e, behind its own
pub a_restarts : IsForeseen net (group_of rules 1) (durable rules (reading rules front)) (reading rules front).kept 0 2
a_restarts = (each 0 (omega arith)).restarts _ refl

pub b_restarts : IsForeseen net (group_of rules 1) (durable rules (reading rules front)) (reading rules front).kept 1 2
b_restarts = (each 1 (omega arith)).restarts _ refl

pub c_restarts : IsForeseen net (group_of rules 1) (durable rules (reading rules front)) (reading rules front).kept 2 4
c_restarts = (each 2 (omega arith)).restarts _ refl

-- the same by the law on runs, and the list of C's restart points, where A goes back to b
c_foreseen : IsForeseen net (group_of rules 1) (durable rules s11) s11.kept 2 4
c_foreseen = foreseen net (group_of rules 1) (durable rules s11) 2 s11.kept (record { dir = Got; point = 4 }) (4, text_proper) run refl

c_list : (zs : List ℕ) × AreRestarts net 0 2 2 zs
c_list = restart_list net 4 0 2 2 text_proper

-- in it c isn't, for no walk from b goes through the lane beside
no_c_behind : (w u v : List ℕ) → IsWalk net 2 w → u ++ 3 ∷ v ≡ w → ⊥
no_c_behind w u v walk whole =
    let along = subst (IsWalk net 2) (sym whole) walk in
    let shut = ended_stays net (opened net 2) u 2 (come_front net (opened net 2) u (3 ∷ v) along) refl in
    subst (IsIn 3) shut (come_back net (opened net 2) u (3 ∷ v) along).0.offered

never_at_c : IsRestart net 0 2 2 3 → ⊥
never_at_c (inl e) = let f = e.0 in omega arith
never_at_c (inr m) = go m.1.before m.1.walk.2
  where
    go : (u : List ℕ) → u ++ 3 ∷ m.1.after ≡ 2 ∷ m.1.walk.0 → ⊥
    go [] e = let f : ◌≡◌ {A = ℕ} 3 2 = cc in omega (arith, f)
    go (x ∷ u) e = no_c_behind m.1.walk.0 u m.1.after m.1.walk.1 (cc)

c_not_listed : IsIn 3 c_list.0 → ⊥
c_not_listed i = never_at_c (c_list.1.sound 3 i)

-- D isn't concerned: it loses nothing, and its channel from C stays
d_free : IsConcernedByAny net (group_of rules 1) (start_of (durable rules s11) s11.kept) 3 → ⊥
d_free c = let t = (listed rules s11 1 text_proper text_accepted.lanes_end 3).1 c in absurd (cc)

d_is_bystander : IsBystander net (group_of rules 1) (durable rules s11) 3 s11.kept
d_is_bystander = record { proper = (4, text_proper); run = run; free = d_free }

d_events : events_of 3 (keep_of net (group_of rules 1) (durable rules s11) s11.kept) ≡ events_of 3 s11.kept
d_events = group_keeps net (group_of rules 1) (durable rules s11) s11.kept (4, text_proper) run 3 d_free

d_channel : channel net 2 3 (keep_of net (group_of rules 1) (durable rules s11) s11.kept) ≡ channel net 2 3 s11.kept
d_channel = group_channel_kept net (group_of rules 1) (durable rules s11) s11.kept (4, text_proper) run 3 d_free 2
