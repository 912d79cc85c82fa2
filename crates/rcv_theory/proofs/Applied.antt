-- Each law has something to speak of: applied to the worked session, with a round beside its first recovery.
use Rattle.std.proofs.Common.{◌≡◌, ℕ, zero, suc, ◌<◌, ◌≤◌, true, Some, List, [], ◌∷◌, ◌++◌, length, take, drop, refl, sym, ◌∙◌, ap, subst, ◌⊎◌, inl, inr, arith, ne_eqb}
use Rattle.std.specs.Prelude.{pos, replicate, slice_get}
use Rattle.std.proofs.lemmas.Bool.Decides.{nat_tests}
use Rattle.rcv_tree.specs.declared.event.Event.{Event}
use Rattle.rcv_tree.specs.declared.event.Message.{Message}
use Rattle.rcv_tree.specs.declared.entry.Entry.TheVariants.{Send, Recv, Crash}
use Rattle.rcv_model.specs.Net.{IsIn, IsPrefix}
use Rattle.rcv_model.specs.Next.{AreNext}
use Rattle.rcv_model.specs.Run.{acts, put, taken, IsRun, IsRunOf}
use Rattle.rcv_model.specs.Undo.{bound_of, keep_within}
use Rattle.rcv_tree.specs.Bits.{has_bit}
use Rattle.rcv_model.specs.Journal.{own_of, durable, group_of, events_of, after, place, reading_from, reading, IsDue, MaySend, MayOwnRecv, IsLegal}
use Rattle.rcv_model.specs.Premises.{IsSession}
use Rattle.rcv_model.specs.Final.{CanAct, AreDone, HasOneAtLimit}
use Rattle.rcv_model.proofs.Applied.{runs, queued, chooses}
use Rattle.rcv_model.proofs.Cases.{four, says, hears}
use Rattle.rcv_model.proofs.Checked.{accepted_by, next_by, send_by, recv_by}
use Rattle.rcv_model.proofs.Finals.{no_stuck}
use Rattle.rcv_model.proofs.Keeping.{by_role, keep_is_run, taken_same, queued_now}
use Rattle.rcv_model.proofs.Legal.{accepted_runs}
use Rattle.rcv_model.proofs.Lists.{some_same}
use Rattle.rcv_model.specs.Next.{IsAccepted}
use Rattle.rcv_model.specs.Places.{net_of}
use Rattle.rcv_model.proofs.Hosts.{apart_rules, apart_front, apart_recover, apart_journal, q4, four_proper, apart_recovers, apart_legal}
use Rattle.rcv_model.proofs.Roles.{up, down}
use Rattle.rcv_model.proofs.Same.{one_next}
use Rattle.rcv_model.proofs.Session.{net, feed_proper, feed_accepted, rules, before, first_recover, meanwhile, rest, s0, s5, s6, s20, b_recovers, journal_legal}
use Rattle.rcv_model.proofs.Stepping.{calm_by, due_not}
use Rattle.rcv_model.proofs.Undoing.{put_same}
use Rattle.rcv_model.proofs.HostSession as host
use Rattle.rcv_theory.specs.Bystander.{KeepsAll}
use Rattle.rcv_theory.specs.Foreseen.{IsSparedOrForeseen}
use Rattle.rcv_theory.specs.Counts.{IsGreatestClosed, kept_counts, capped, IsLowered, IsLowest}
use Rattle.rcv_theory.specs.Expected.{IsExpected}
use Rattle.rcv_theory.specs.BystanderLaws.{IsRoundBeside}
use Rattle.rcv_theory.specs.Own.{own_through, own_behind}
use Rattle.rcv_theory.specs.Round.{IsBefore, Placed, NeverFalls, AreOf, role_of, entries, events_in, of_role, IsLog, IsRound, IsMerge, IsAscending, IsByStamp, in_order}
use Rattle.rcv_theory.specs.RoundLaws.{IsMergedRound}
use Rattle.rcv_tree.specs.declared.entry.Timed.{Timed}
use Rattle.rcv_theory.proofs.BesideRounds.{legal_front, beside_recovery}
use Rattle.rcv_theory.proofs.Besides.{keeps}
use Rattle.rcv_theory.proofs.Counting.{lost_of_group, lost_of_one, begins, ends, greatest_kept, reaches}
use Rattle.rcv_theory.proofs.Expecting.{unexpected}
use Rattle.rcv_theory.proofs.Foreseeing.{recoveries_are_foreseen}
use Rattle.rcv_theory.proofs.Following.{follows_log, bystander_follows, concerned_goes_back}
use Rattle.rcv_theory.proofs.Merging.{kept_log, legal_join, merged_round}
use Rattle.rcv_theory.proofs.Owning.{through_log, own_recovery}
use Rattle.rcv_theory.proofs.StampLists.{stamp_orders, one_order}
use Rattle.rcv_theory.proofs.Stamps.{never_falls, order_kept, stamp_order}
use Rattle.rcv_model.proofs.OneLane.{one_lane}
use Rattle.rcv_model.proofs.Session.{feed_one}

-- B's recovery: what is kept follows the walk, begins what was done, and is counted by the greatest closed counts
abbrev lost : ℕ → ℕ
lost = bound_of (group_of rules 1) (durable rules s5) s5.kept

run : IsRun net s5.kept
run = runs before (first_recover ∷ meanwhile ++ rest) refl

follows : IsRunOf net run.0 (keep_within net lost s5.kept)
follows = keep_is_run net lost run.0 s5.kept run.1

begins_c : IsPrefix (events_of 2 (keep_within net lost s5.kept)) (events_of 2 s5.kept)
begins_c = begins net lost s5.kept queued 2

greatest : IsGreatestClosed net s5.kept lost (kept_counts net lost s5.kept)
greatest = greatest_kept net lost s5.kept queued

-- lowering comes to an end, and there it has reached them
lowest : (counts : ℕ → ℕ) × IsLowered net s5.kept (capped lost s5.kept) counts × IsLowest net s5.kept counts
lowest = ends net (capped lost s5.kept) s5.kept queued

found : (r : ℕ) → lowest.0 r ≡ kept_counts net lost s5.kept r
found = reaches net lost lowest.0 s5.kept queued lowest.1 lowest.2

counts : kept_counts net lost s5.kept 0 ∷ kept_counts net lost s5.kept 1 ∷ kept_counts net lost s5.kept 2 ∷ [] ≡ 1 ∷ 0 ∷ 0 ∷ []
counts = refl

-- A and D keep everything
a_keeps : KeepsAll net s5 (after rules s5 first_recover) 0
a_keeps = keeps rules s5 1 0 (record { 0 = 6 }) (replicate 8 0) 3 feed_proper feed_accepted.lanes_end run b_recovers (omega arith) (λ e. cc)

d_keeps : KeepsAll net s5 (after rules s5 first_recover) 3
d_keeps = keeps rules s5 1 3 (record { 0 = 6 }) (replicate 8 0) 3 feed_proper feed_accepted.lanes_end run b_recovers (omega arith) (λ e. cc)

-- behind the recovery B expects A's message again
run_then : IsRun net s6.kept
run_then = runs (before ++ first_recover ∷ []) (meanwhile ++ rest) refl

from_a : (z : ℕ) → IsIn z (1 ∷ 4 ∷ []) → (net.receiver z ≡ 1) × (net.sender z ≡ 0)
from_a z (inl e) = (ap net.receiver e, ap net.sender e)
from_a z (inr (inl e)) = (ap net.receiver e, ap net.sender e)
from_a z (inr (inr i)) = absurd i

b_next : AreNext net 1 0 (1 ∷ 4 ∷ [])
b_next = next_by net feed_one 1 0 refl

b_expects : IsExpected net run_then.0 s6.kept 1 1
b_expects = unexpected net run_then.0 s6.kept 1 0 (record { point = 1; value = pos 10; stamp = 1 }) [] (4, feed_proper) run_then.1 (1, b_next.sound 1 (inl refl)) (λ z n. from_a z (b_next.complete z n)) refl

-- nobody is crashed or due there, and the session isn't stuck
no_due : (r : ℕ) → r < 4 → IsDue rules (reading rules (before ++ first_recover ∷ [])) r → ⊥
no_due zero lt d = due_not rules s6 0 refl d
no_due (suc zero) lt d = due_not rules s6 1 refl d
no_due (suc (suc zero)) lt d = due_not rules s6 2 refl d
no_due (suc (suc (suc zero))) lt d = due_not rules s6 3 refl d
no_due (suc (suc (suc (suc r)))) lt d = omega arith

goes_on : AreDone rules (reading rules (before ++ first_recover ∷ [])) ⊎ (((r : ℕ) × (r < 4) × CanAct rules (reading rules (before ++ first_recover ∷ [])) r) ⊎ HasOneAtLimit rules (reading rules (before ++ first_recover ∷ [])))
goes_on = no_stuck rules (before ++ first_recover ∷ []) feed_proper feed_accepted chooses (omega arith) (legal_front rules s0 (before ++ first_recover ∷ []) (meanwhile ++ rest) journal_legal) (λ r c. calm_by s6 refl r c) no_due

-- meanwhile A and D have logs of their own
abbrev a_sends : Timed
a_sends = record { stamp = 2; step = Send (says 0 3 0 2) }

abbrev d_hears : Timed
d_hears = record { stamp = 3; step = Recv (hears 3 3 0 3 2) }

abbrev d_crashes : Timed
d_crashes = record { stamp = 3; step = Crash 3 }

abbrev logs : ℕ → List Timed
logs zero = a_sends ∷ []
logs (suc zero) = []
logs (suc (suc zero)) = []
logs (suc (suc (suc zero))) = d_hears ∷ d_crashes ∷ []
logs (suc (suc (suc (suc r)))) = []

may_a : MaySend rules s5 (says 0 3 0 2)
may_a = send_by rules feed_one s5 (says 0 3 0 2) refl refl refl refl refl refl refl

to_d : (z : ℕ) → IsIn z (3 ∷ 6 ∷ []) → (net.receiver z ≡ 3) × (net.sender z ≡ 0)
to_d z (inl e) = (ap net.receiver e, ap net.sender e)
to_d z (inr (inl e)) = (ap net.receiver e, ap net.sender e)
to_d z (inr (inr i)) = absurd i

may_d : MayOwnRecv rules (own_of s5 3) (hears 3 3 0 3 2)
may_d = record { free = record { declared = omega arith; running = refl; not_due = due_not rules s5 3 refl; below_limit = omega arith }; offered = 3 ∷ 6 ∷ []; some = λ e. cc; from = 0; next = next_by net feed_one 3 0 refl; receives = to_d; is_recv = refl; sender = refl; stamp = refl }

each_log : (r : ℕ) → IsLog rules r s5 (logs r)
each_log zero = (refl, (refl, may_a), tt)
each_log (suc zero) = tt
each_log (suc (suc zero)) = tt
each_log (suc (suc (suc zero))) = (refl, (refl, may_d), (refl, (refl, omega arith, (refl, omega arith)), tt))
each_log (suc (suc (suc (suc r)))) = tt

-- they match: without the recovery their events are those of a legal journal too
abbrev all : List Event
all = s5.kept ++ says 0 3 0 2 ∷ hears 3 3 0 3 2 ∷ []

legal_all : IsLegal rules (before ++ Send (says 0 3 0 2) ∷ Recv (hears 3 3 0 3 2) ∷ [])
legal_all = legal_join rules s0 before (Send (says 0 3 0 2) ∷ Recv (hears 3 3 0 3 2) ∷ []) (legal_front rules s0 before (first_recover ∷ meanwhile ++ rest) journal_legal) (may_a, (recv_by rules feed_one (after rules s5 (Send (says 0 3 0 2))) (hears 3 3 0 3 2) [] refl refl refl refl refl, tt))

run_all : IsRun net all
run_all = accepted_runs rules (before ++ Send (says 0 3 0 2) ∷ Recv (hears 3 3 0 3 2) ∷ []) feed_proper feed_accepted legal_all (before ++ Send (says 0 3 0 2) ∷ Recv (hears 3 3 0 3 2) ∷ []) [] refl

others : (r : ℕ) → by_role (suc (suc (suc (suc r)))) all ≡ []
others r = let a = ne_eqb 0 (suc (suc (suc (suc r)))) (λ e. omega arith) in let b = ne_eqb 1 (suc (suc (suc (suc r)))) (λ e. omega arith) in let c = ne_eqb 2 (suc (suc (suc (suc r)))) (λ e. omega arith) in let d = ne_eqb 3 (suc (suc (suc (suc r)))) (λ e. omega arith) in grind (arith, nat_tests)

nobody : (r : ℕ) → by_role (suc (suc (suc (suc r)))) s5.kept ≡ []
nobody r = let a = ne_eqb 0 (suc (suc (suc (suc r)))) (λ e. omega arith) in let b = ne_eqb 1 (suc (suc (suc (suc r)))) (λ e. omega arith) in let c = ne_eqb 2 (suc (suc (suc (suc r)))) (λ e. omega arith) in grind (arith, nat_tests)

role_events : (r : ℕ) → by_role r (s5.kept ++ events_in (logs r)) ≡ by_role r all
role_events zero = refl
role_events (suc zero) = refl
role_events (suc (suc zero)) = refl
role_events (suc (suc (suc zero))) = refl
role_events (suc (suc (suc (suc r)))) = nobody r ∙ sym (others r)

logs_match : (t r : ℕ) → IsPrefix (taken net t r (s5.kept ++ events_in (logs r))) (put net t r (s5.kept ++ events_in (logs t)))
logs_match t r = subst (λ l. IsPrefix l (put net t r (s5.kept ++ events_in (logs t)))) (sym (taken_same net t r (s5.kept ++ events_in (logs r)) all (role_events r))) (subst (IsPrefix (taken net t r all)) (sym (put_same net t r (s5.kept ++ events_in (logs t)) all (role_events t))) (queued_now net all run_all.1.queued t r))

round : IsRound rules (reading rules before) logs
round = record { local = each_log; match = logs_match }

-- their order by stamp
abbrev at : ℕ → ℕ → Timed → Placed
at role position timed = record { role = role; position = position; timed = timed }

abbrev placed : List Placed
placed = at 0 0 a_sends ∷ at 3 0 d_hears ∷ at 3 1 d_crashes ∷ []

ascending : IsAscending placed
ascending = ((inl (omega arith), (inl (omega arith), tt)), ((inr (refl, inr (refl, omega arith)), tt), (tt, tt)))

sound : (i : ℕ) (a : Placed) → slice_get placed i ≡ Some a → slice_get (logs a.role) a.position ≡ Some a.timed
sound zero a e = let f : at 0 0 a_sends ≡ a = cc in subst (λ (z : Placed). slice_get (logs z.role) z.position ≡ Some z.timed) f refl
sound (suc zero) a e = let f : at 3 0 d_hears ≡ a = cc in subst (λ (z : Placed). slice_get (logs z.role) z.position ≡ Some z.timed) f refl
sound (suc (suc zero)) a e = let f : at 3 1 d_crashes ≡ a = cc in subst (λ (z : Placed). slice_get (logs z.role) z.position ≡ Some z.timed) f refl
sound (suc (suc (suc i))) a e = absurd (cc)

complete : (r k : ℕ) (x : Timed) → slice_get (logs r) k ≡ Some x → (i : ℕ) × (slice_get placed i ≡ Some (at r k x))
complete zero zero x e = (0, ap (λ y. Some (at 0 0 y)) (some_same e))
complete zero (suc k) x e = absurd (cc)
complete (suc zero) k x e = absurd (cc)
complete (suc (suc zero)) k x e = absurd (cc)
complete (suc (suc (suc zero))) zero x e = (1, ap (λ y. Some (at 3 0 y)) (some_same e))
complete (suc (suc (suc zero))) (suc zero) x e = (2, ap (λ y. Some (at 3 1 y)) (some_same e))
complete (suc (suc (suc zero))) (suc (suc k)) x e = absurd (cc)
complete (suc (suc (suc (suc r)))) k x e = absurd (cc)

by_stamp : IsByStamp logs placed
by_stamp = record { ascending = ascending; sound = sound; complete = complete }

-- it is the one that exists
none_above : (r : ℕ) → 4 ≤ r → logs r ≡ []
none_above zero le = absurd (omega arith)
none_above (suc zero) le = absurd (omega arith)
none_above (suc (suc zero)) le = absurd (omega arith)
none_above (suc (suc (suc zero))) le = absurd (omega arith)
none_above (suc (suc (suc (suc r)))) le = refl

that_one : (stamp_orders 4 logs none_above).0 ≡ placed
that_one = one_order logs (stamp_orders 4 logs none_above).0 placed (stamp_orders 4 logs none_above).1 by_stamp

d_rises : NeverFalls (logs 3)
d_rises = never_falls rules 3 s5 (logs 3) (each_log 3)

-- it is a merge; it may come behind B's crash, and behind B's recovery
merge : IsMerge net s5.kept logs (in_order placed)
merge = stamp_order rules before logs placed (legal_front rules s0 before (first_recover ∷ meanwhile ++ rest) journal_legal) round by_stamp

legal_before : IsLegal rules (before ++ meanwhile)
legal_before = merged_round rules before logs (in_order placed) feed_proper feed_accepted (legal_front rules s0 before (first_recover ∷ meanwhile ++ rest) journal_legal) round merge

not_concerned : (r : ℕ) → has_bit 6 r ≡ true → logs r ≡ []
not_concerned zero t = absurd (cc)
not_concerned (suc zero) t = refl
not_concerned (suc (suc zero)) t = refl
not_concerned (suc (suc (suc zero))) t = absurd (cc)
not_concerned (suc (suc (suc (suc r)))) t = refl

legal_beside : IsLegal rules (before ++ first_recover ∷ meanwhile)
legal_beside = beside_recovery rules before 1 (record { 0 = 6 }) (replicate 8 0) 3 logs (in_order placed) (omega arith) feed_proper feed_accepted (legal_front rules s0 (before ++ first_recover ∷ []) (meanwhile ++ rest) journal_legal) round not_concerned merge

-- behind the merged round each role has what its own log leaves it
merged : IsMergedRound rules before logs (in_order placed)
merged = record { legal = legal_front rules s0 before (first_recover ∷ meanwhile ++ rest) journal_legal; round = round; merge = merge }

session : IsSession rules
session = record { proper = feed_proper; accepted = feed_accepted }

d_as_alone : own_of (reading rules (before ++ meanwhile)) 3 ≡ own_of (reading_from rules s5 (entries (logs 3))) 3
d_as_alone = follows_log rules before logs (in_order placed) 3 session merged

d_kept : (reading_from rules s5 (entries (logs 3))).kept ≡ s5.kept ++ events_in (logs 3)
d_kept = kept_log rules 3 s5 (logs 3) (each_log 3)

-- beside the recovery D has the same, and B what it goes back to
beside : IsRoundBeside rules before first_recover (record { 0 = 6 }) logs (in_order placed)
beside = record { few = omega arith; legal = legal_front rules s0 (before ++ first_recover ∷ []) (meanwhile ++ rest) journal_legal; round = round; apart = not_concerned; merge = merge }

d_beside : own_of (reading rules (before ++ first_recover ∷ meanwhile)) 3 ≡ own_of (reading_from rules s5 (entries (logs 3))) 3
d_beside = bystander_follows rules before 1 (record { 0 = 6 }) (replicate 8 0) 3 logs (in_order placed) session beside 3 (omega arith) (λ t. cc)

b_beside : own_of (reading rules (before ++ first_recover ∷ meanwhile)) 1 ≡ own_behind rules s5 1 1
b_beside = concerned_goes_back rules before 1 (record { 0 = 6 }) (replicate 8 0) 3 logs (in_order placed) session beside 1 (omega arith) refl

b_goes_back : own_behind rules s5 1 1 ≡ record { events = []; numbers = up 2 1 1 5 }
b_goes_back = refl

-- who isn't concerned has other numbers than a concerned role would: A has its attempt and its clock still
a_stays : own_of (after rules s5 first_recover) 0 ≡ own_of s5 0
a_stays = refl

-- a log leaves of its role what the role makes of it
d_through : own_of (reading_from rules s5 (entries (logs 3))) 3 ≡ own_through (own_of s5 3) (logs 3)
d_through = through_log rules 3 s5 (logs 3) (each_log 3)

d_makes : own_through (own_of s5 3) (logs 3) ≡ record { events = hears 3 3 0 3 2 ∷ []; numbers = down 1 1 0 3 }
d_makes = refl

c_own_recovery : own_of (after rules s5 first_recover) 2 ≡ own_behind rules s5 1 2
c_own_recovery = own_recovery rules s5 1 2 (record { 0 = 6 }) (replicate 8 0) 3 queued (omega arith)

-- the order by stamp keeps the logs
own_entries : (r : ℕ) → AreOf r (logs r)
own_entries zero zero x e = ap (λ (y : Timed). role_of y.step) (sym (some_same e))
own_entries zero (suc i) x e = absurd (cc)
own_entries (suc zero) i x e = absurd (cc)
own_entries (suc (suc zero)) i x e = absurd (cc)
own_entries (suc (suc (suc zero))) zero x e = ap (λ (y : Timed). role_of y.step) (sym (some_same e))
own_entries (suc (suc (suc zero))) (suc zero) x e = ap (λ (y : Timed). role_of y.step) (sym (some_same e))
own_entries (suc (suc (suc zero))) (suc (suc i)) x e = absurd (cc)
own_entries (suc (suc (suc (suc r)))) i x e = absurd (cc)

d_in_order : of_role 3 (in_order placed) ≡ logs 3
d_in_order = order_kept logs placed (λ r. never_falls rules r s5 (logs r) (each_log r)) own_entries by_stamp 3

-- a Recv before its Send is no merge, and without its Send no round
not_merged : IsMerge net s5.kept logs (d_hears ∷ a_sends ∷ d_crashes ∷ []) → ⊥
not_merged m = let x = m.behind [] (a_sends ∷ d_crashes ∷ []) 3 (hears 3 3 0 3 2) refl in omega arith

out_of_order : IsMerge net s5.kept logs (a_sends ∷ d_crashes ∷ d_hears ∷ []) → ⊥
out_of_order m = let e : d_crashes ∷ d_hears ∷ [] ≡ d_hears ∷ d_crashes ∷ [] = m.order 3 in differ (cc)
  where
    differ : d_crashes.step ≡ d_hears.step → ⊥
    differ e = cc

abbrev d_alone : ℕ → List Timed
d_alone zero = []
d_alone (suc zero) = []
d_alone (suc (suc zero)) = []
d_alone (suc (suc (suc zero))) = d_hears ∷ []
d_alone (suc (suc (suc (suc r)))) = []

not_a_round : IsRound rules s5 d_alone → ⊥
not_a_round m = let p = m.match 0 3 in nothing_begins p.0 p.1
  where
    nothing_begins : (rest : List Message) → (record { point = 3; value = pos 0; stamp = 2 } ∷ []) ++ rest ≡ [] → ⊥
    nothing_begins rest e = cc

-- a role that is done takes nothing
b_is_done : MayOwnRecv rules (own_of s20 1) (hears 1 4 0 11 3) → ⊥
b_is_done m = m.some (one_next net 1 (place s20 1) m.offered [] m.next (next_by net feed_one 1 (place s20 1) refl))

-- with a host: A and D fail, and C, which isn't concerned, keeps everything
four_accepted : IsAccepted (net_of four) 4
four_accepted = accepted_by (net_of four) (one_lane four tt) 4 four_proper refl

c_keeps : KeepsAll (net_of four) q4 (after apart_rules q4 apart_recover) 0
c_keeps =
    let run = accepted_runs apart_rules apart_journal four_proper four_accepted apart_legal apart_front (drop 4 apart_journal) refl in
    keeps apart_rules q4 2 0 (record { 0 = 14 }) (replicate 8 0) 2 four_proper four_accepted.lanes_end run apart_recovers (omega arith) (λ e. cc)

-- where B and D share a host, B's recovery spares A, and C and D restart where the table says
host_session : IsSession host.rules
host_session = record { proper = feed_proper; accepted = feed_accepted }

host_foreseen : (q : ℕ) → q < 8 → IsSparedOrForeseen host.rules (reading host.rules host.front) (reading host.rules (host.front ++ host.back ∷ [])) 1 (record { 0 = 14 }) q
host_foreseen = recoveries_are_foreseen host.rules host.front host.rest 1 (record { 0 = 14 }) (replicate 8 0) 4 host_session host.legal

host_spares_a : KeepsAll net (reading host.rules host.front) (reading host.rules (host.front ++ host.back ∷ [])) 0
host_spares_a = (host_foreseen 0 (omega arith)).spared (λ e. cc)

-- B's Recv is lost, as one of the group's own and as B's own
b_lost : (e : Event) × (slice_get s5.kept 1 ≡ Some e) × IsIn e.role (group_of rules 1) × (durable rules s5 e.role ≤ length (acts e.role (take 1 s5.kept)))
b_lost = (lost_of_group s5.kept (group_of rules 1) (durable rules s5) 1).0 (record { event = hears 1 1 10 2 1; at = refl; behind = omega arith })

b_lost_alone : (e : Event) × (slice_get s5.kept 1 ≡ Some e) × (e.role ≡ 1) × (0 ≤ length (acts 1 (take 1 s5.kept)))
b_lost_alone = (lost_of_one s5.kept 1 0 1).0 (record { event = hears 1 1 10 2 1; at = refl; behind = omega arith })

-- a later stamp doesn't come first
not_by_stamp : IsByStamp logs (at 3 0 d_hears ∷ at 0 0 a_sends ∷ at 3 1 d_crashes ∷ []) → ⊥
not_by_stamp by = first by.ascending.0.0
  where
    first : IsBefore (at 3 0 d_hears) (at 0 0 a_sends) → ⊥
    first (inl lt) = omega arith
    first (inr e) = let f = e.0 in omega arith
