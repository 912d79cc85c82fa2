-- The worked protocol on hosts: B and D share one, so that B's crash takes D along, and C by B's start, and leaves A.
use Rattle.std.proofs.Common.{◌≡◌, ℕ, zero, suc, Bool, List, [], ◌∷◌, ◌++◌, length, refl, arith}
use Rattle.std.specs.Prelude.{if◌then◌else◌, replicate, slice_index}
use Rattle.rcv_tree.specs.Bits.{has_bit, is_listed}
use Rattle.rcv_tree.specs.declared.event.Dir.TheVariants.{Got}
use Rattle.rcv_tree.specs.declared.entry.Entry.{Entry}
use Rattle.rcv_tree.specs.declared.entry.Entry.TheVariants.{Send, Recv, Crash}
use Rattle.rcv_model.specs.Plan.{PlanLine, EveryLine, CrashLine, LimitLine, RoomLine, HostLine, session_rules}
use Rattle.rcv_model.specs.Run.{acts}
use Rattle.rcv_model.specs.Undo.{UndoesExactly, picked}
use Rattle.rcv_model.specs.TableLaws.{IsForeseen}
use Rattle.rcv_model.specs.UndoLaws.{TellsRight}
use Rattle.rcv_model.specs.NumberLaws.{lines_reached}
use Rattle.rcv_model.specs.Transparent.{without_crashes, DidTheSame, IsSteady}
use Rattle.rcv_model.specs.Journal.{Rules, State, numbers_at, start, after, place, reading, durable, group_of, concerned_in, kept_by, May, IsLegal, KeepsRuns}
use Rattle.rcv_model.specs.Final.{IsFinal, AreDone, IsCompleted, IsOneThread, ChoosesOffered}
use Rattle.rcv_model.proofs.Cases.{says, hears, recover}
use Rattle.rcv_model.proofs.Checked.{next_by, send_by, recv_by}
use Rattle.rcv_model.proofs.Choosing.{chosen_in}
use Rattle.rcv_model.proofs.Groups.{foreseen}
use Rattle.rcv_model.proofs.Journals.{below_8}
use Rattle.rcv_model.proofs.Legal.{accepted_runs}
use Rattle.rcv_model.proofs.OneThread.{one_journal}
use Rattle.rcv_model.proofs.Recoveries.{undo_in_journal}
use Rattle.rcv_model.proofs.Recovering.{may_recover}
use Rattle.rcv_model.proofs.Session.{feed, net, feed_proper, feed_one, feed_accepted, scripts}
use Rattle.rcv_model.proofs.Applied.{blind}
use Rattle.rcv_model.proofs.AsPlanned.{crashes_are_as_planned}
use Rattle.rcv_model.proofs.Telling.{tells_right}
use Rattle.rcv_model.proofs.Steady.{steady}
use Rattle.rcv_model.proofs.Stepping.{final_by}
use Rattle.rcv_model.proofs.Threads.{one_thread}
use Rattle.rcv_model.proofs.Transparency.{transparent}
use Rattle.rcv_model.proofs.Roles.{up}

-- B crashes at its second event; neither it nor D has saved any
abbrev pub plan : List PlanLine
plan = EveryLine 1 100 ∷ EveryLine 3 100 ∷ HostLine (1 ∷ 3 ∷ []) ∷ CrashLine 1 2 ∷ LimitLine 50 ∷ RoomLine 2 ∷ []

abbrev pub rules : Rules
rules = session_rules feed 4 scripts plan

abbrev pub front : List Entry
front =
    Send (says 0 1 10 1) ∷ Send (says 0 3 0 2) ∷ Recv (hears 1 1 10 2 1) ∷ Send (says 1 2 11 3) ∷ Recv (hears 3 3 0 3 2)
    ∷ Recv (hears 2 2 11 4 3) ∷ Crash 1 ∷ []

abbrev pub back : Entry
back = recover 1 14 (replicate 8 0) 4

-- A's two messages are received again; then A stops
abbrev pub rest : List Entry
rest =
    Recv (hears 1 1 10 6 1) ∷ Recv (hears 3 3 0 6 2) ∷ Send (says 1 2 11 7) ∷ Recv (hears 2 2 11 8 7) ∷ Send (says 0 4 0 3)
    ∷ Recv (hears 1 4 0 8 3) ∷ Send (says 1 5 0 9) ∷ Recv (hears 2 5 0 10 9) ∷ Send (says 0 6 0 4) ∷ Recv (hears 3 6 0 7 4) ∷ []

abbrev pub journal : List Entry
journal = front ++ back ∷ rest

-- the states
abbrev s0 : State
s0 = start 4

abbrev s1 : State
s1 = after rules s0 (Send (says 0 1 10 1))

abbrev s2 : State
s2 = after rules s1 (Send (says 0 3 0 2))

abbrev s3 : State
s3 = after rules s2 (Recv (hears 1 1 10 2 1))

abbrev s4 : State
s4 = after rules s3 (Send (says 1 2 11 3))

abbrev s5 : State
s5 = after rules s4 (Recv (hears 3 3 0 3 2))

abbrev s6 : State
s6 = after rules s5 (Recv (hears 2 2 11 4 3))

abbrev pub s7 : State
s7 = after rules s6 (Crash 1)

-- all that B, C and D did is gone, and their clocks are above all that they were
abbrev pub s8 : State
s8 = record { kept = says 0 1 10 1 ∷ says 0 3 0 2 ∷ []; roles = up 2 0 0 2 ∷ up 2 1 1 5 ∷ up 1 0 1 5 ∷ up 1 0 1 5 ∷ [] }

eight : after rules s7 back ≡ s8
eight = refl

abbrev s9 : State
s9 = after rules s8 (Recv (hears 1 1 10 6 1))

abbrev s10 : State
s10 = after rules s9 (Recv (hears 3 3 0 6 2))

abbrev s11 : State
s11 = after rules s10 (Send (says 1 2 11 7))

abbrev s12 : State
s12 = after rules s11 (Recv (hears 2 2 11 8 7))

abbrev s13 : State
s13 = after rules s12 (Send (says 0 4 0 3))

abbrev s14 : State
s14 = after rules s13 (Recv (hears 1 4 0 8 3))

abbrev s15 : State
s15 = after rules s14 (Send (says 1 5 0 9))

abbrev s16 : State
s16 = after rules s15 (Recv (hears 2 5 0 10 9))

abbrev s17 : State
s17 = after rules s16 (Send (says 0 6 0 4))

abbrev s18 : State
s18 = after rules s17 (Recv (hears 3 6 0 7 4))

pub recovers : May rules s7 back
recovers = may_recover rules s7 1 feed_proper feed_accepted.lanes_end 14 (replicate 8 0) 4 (omega arith, refl) (omega arith) (below_8 (λ q. has_bit 14 q ≡ is_listed (concerned_in rules s7 1) q) refl refl refl refl refl refl refl refl) refl (below_8 (λ q. slice_index (replicate 8 0) q ≡ (if has_bit 14 q then length (acts q (kept_by rules s7 1)) else 0)) refl refl refl refl refl refl refl refl) refl

pub legal : IsLegal rules journal
legal =
    (send_by rules feed_one s0 (says 0 1 10 1) refl refl refl refl refl refl refl, (send_by rules feed_one s1 (says 0 3 0 2) refl refl refl refl refl refl refl, (recv_by rules feed_one s2 (hears 1 1 10 2 1) [] refl refl refl refl refl, (send_by rules feed_one s3 (says 1 2 11 3) refl refl refl refl refl refl refl, (recv_by rules feed_one s4 (hears 3 3 0 3 2) [] refl refl refl refl refl, (recv_by rules feed_one s5 (hears 2 2 11 4 3) [] refl refl refl refl refl, ((omega arith, (refl, omega arith)), (recovers, (recv_by rules feed_one s8 (hears 1 1 10 6 1) [] refl refl refl refl refl, (recv_by rules feed_one s9 (hears 3 3 0 6 2) [] refl refl refl refl refl, (send_by rules feed_one s10 (says 1 2 11 7) refl refl refl refl refl refl refl, (recv_by rules feed_one s11 (hears 2 2 11 8 7) [] refl refl refl refl refl, (send_by rules feed_one s12 (says 0 4 0 3) refl refl refl refl refl refl refl, (recv_by rules feed_one s13 (hears 1 4 0 8 3) [] refl refl refl refl refl, (send_by rules feed_one s14 (says 1 5 0 9) refl refl refl refl refl refl refl, (recv_by rules feed_one s15 (hears 2 5 0 10 9) [] refl refl refl refl refl, (send_by rules feed_one s16 (says 0 6 0 4) refl refl refl refl refl refl refl, (recv_by rules feed_one s17 (hears 3 6 0 7 4) [] refl refl refl refl refl, tt))))))))))))))))))

pub final : IsFinal rules s18
final = final_by rules s18 (feed_proper.two_ends, feed_one) refl

pub runs : KeepsRuns rules journal
runs = accepted_runs rules journal feed_proper feed_accepted legal

-- the recovery undoes exactly what both roles of the host lost and what depends on it
undone : (has : ℕ → Bool) × UndoesExactly net s7.kept (group_of rules 1) (durable rules s7) has × ((reading rules (front ++ back ∷ [])).kept ≡ picked has s7.kept)
undone = undo_in_journal rules front rest 1 _ _ _ legal

-- as many as its line says: four, and nothing is left of B, C and D
tells : TellsRight rules (reading rules front) (reading rules (front ++ back ∷ [])) 1 (record { 0 = 14 }) (replicate 8 0) 4
tells = tells_right rules front rest 1 _ _ _ legal

-- B crashed once, as its one line says, and D, which failed with it, not at all
b_as_planned : (numbers_at (reading rules journal).roles 1).crashes ≡ lines_reached rules (reading rules journal) 1
b_as_planned = crashes_are_as_planned rules journal 1 legal final (omega arith)

d_as_planned : (numbers_at (reading rules journal).roles 3).crashes ≡ 0
d_as_planned = crashes_are_as_planned rules journal 3 legal final (omega arith)

-- C restarts by B's start, and D by its own
c_foreseen : IsForeseen net (group_of rules 1) (durable rules s7) s7.kept 2 2
c_foreseen = foreseen net (group_of rules 1) (durable rules s7) 2 s7.kept (record { dir = Got; point = 2 }) (4, feed_proper) (runs front (back ∷ rest) refl) refl

d_foreseen : IsForeseen net (group_of rules 1) (durable rules s7) s7.kept 3 3
d_foreseen = foreseen net (group_of rules 1) (durable rules s7) 3 s7.kept (record { dir = Got; point = 3 }) (4, feed_proper) (runs front (back ∷ rest) refl) refl

-- the crash is transparent, though it took two roles
sees_none : IsSteady rules
sees_none = steady rules scripts (record { chosen = λ r h a zs. refl; value = λ r h a p. refl }) blind

chooses : ChoosesOffered rules
chooses r events attempt zs some = chosen_in net scripts r events attempt zs some

done : AreDone rules (reading rules journal)
done zero lt z n = (next_by net feed_one 0 (place s18 0) refl).complete z n
done (suc zero) lt z n = (next_by net feed_one 1 (place s18 1) refl).complete z n
done (suc (suc zero)) lt z n = (next_by net feed_one 2 (place s18 2) refl).complete z n
done (suc (suc (suc zero))) lt z n = (next_by net feed_one 3 (place s18 3) refl).complete z n
done (suc (suc (suc (suc r)))) lt z n = omega arith

calm : (other : List Entry) × IsOneThread (without_crashes rules) other
calm = one_thread (without_crashes rules) feed_proper feed_accepted.lanes_end

same : IsCompleted (without_crashes rules) (reading (without_crashes rules) calm.0) × DidTheSame (reading rules journal) (reading (without_crashes rules) calm.0)
same =
    let j = one_journal (without_crashes rules) calm.0 calm.0 in
    transparent rules journal calm.0 feed_proper feed_accepted sees_none chooses (omega arith) legal done (j.legal calm.1) (j.final calm.1)
