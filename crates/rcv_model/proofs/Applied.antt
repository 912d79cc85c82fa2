-- Each law has something to speak of: applied to the worked session, and to smaller ones.
use Rattle.std.proofs.Common.{◌≡◌, ℕ, zero, suc, ◌*◌, ◌<◌, ◌≤◌, max, Bool, Some, List, [], ◌∷◌, ◌++◌, length, refl, sym, ◌∙◌, ap, subst, inl, inr, append-nil, ne_eqb, arith}
use Rattle.std.proofs.lemmas.Bool.Decides.{nat_tests}
use Rattle.std.specs.Prelude.{◌↔◌, ◌⊎◌}
use Rattle.rcv_tree.specs.declared.event.Event.{Event}
use Rattle.rcv_tree.specs.declared.event.Dir.TheVariants.{Got}
use Rattle.rcv_tree.specs.declared.role.RoleSet.{RoleSet}
use Rattle.rcv_tree.specs.declared.entry.Entry.{Entry}
use Rattle.rcv_tree.specs.declared.entry.Entry.TheVariants.{Send, Recover}
use Rattle.rcv_model.specs.Accept.{HasSubjects, Fails, IsDecided}
use Rattle.rcv_model.specs.Act.{IsNotStuck}
use Rattle.rcv_model.specs.UndoLaws.{IsLeastKept}
use Rattle.rcv_model.specs.TableLaws.{IsForeseen, FailsAlone}
use Rattle.rcv_model.specs.StableLine.{IsStable, IsStableLine, StableLineHolds}
use Rattle.rcv_model.specs.Next.{IsEnabledAt, IsEnabledBy, AreNext}
use Rattle.rcv_model.specs.Plain.{bare_rules}
use Rattle.rcv_model.specs.Numbers.{crash_line_count, IsBounded}
use Rattle.rcv_model.specs.Places.{loop, Spot, spot_of, offers_at, net_of, IsFullText, IsEndIn}
use Rattle.rcv_model.specs.Run.{acts, channel, joint_of, IsReachedState, IsQueued}
use Rattle.rcv_model.specs.Table.{IsConcernedByAny, concerned_by_any, AreRestarts, start_of}
use Rattle.rcv_model.specs.Transparent.{AreBlind, IsSteady, without_crashes, DidTheSame}
use Rattle.rcv_model.specs.Undo.{IsQueuedByPositions, bound_of, keep_of, keep_within, only, IsUndone, IsLatestCut, UndoesExactly, picked}
use Rattle.rcv_model.specs.Journal.{Rules, durable, group_of, events_of, place, reading, MaySend, MayRecv, May, IsLegal, KeepsRuns}
use Rattle.rcv_model.specs.Final.{IsCrashed, IsStep, IsFinal, AreDone, IsCompleted, HasOneAtLimit, ChoosesOffered, IsOneThread}
use Rattle.rcv_model.proofs.Bare.{one_completes}
use Rattle.rcv_model.specs.ByPoints.{IsUndoneByPoints}
use Rattle.rcv_model.proofs.PointLinks.{undone_by_points, run_by_ends}
use Rattle.rcv_model.proofs.Cases.{plain, four, sent, says, hears, ping}
use Rattle.rcv_model.proofs.Checked.{next_by, send_by, recv_by}
use Rattle.rcv_model.proofs.Choosing.{chosen_in}
use Rattle.rcv_model.proofs.Cuts.{latest}
use Rattle.rcv_model.proofs.Decided.{decided}
use Rattle.rcv_model.proofs.EndsOfText.{end_offers_nothing}
use Rattle.rcv_model.proofs.Finals.{done_or_limited}
use Rattle.rcv_model.proofs.Groups.{foreseen, group_keeps, group_channel_kept, is_least_kept, lonely, undone_one_by_one}
use Rattle.rcv_model.specs.Net.{IsIn}
use Rattle.rcv_model.specs.TransparencyLaws.{UsedAlike}
use Rattle.rcv_model.proofs.Accepting.{accepted_both}
use Rattle.rcv_model.proofs.ChannelFacts.{used_alike}
use Rattle.rcv_model.proofs.Concerned.{listed_concerned}
use Rattle.rcv_model.proofs.GreatestLine.{line_exists}
use Rattle.rcv_model.proofs.NextLists.{lists_exist, next_offered}
use Rattle.rcv_model.proofs.PlacesLemmas.{offers_complete}
use Rattle.rcv_model.proofs.Queues.{queued_both}
use Rattle.rcv_model.proofs.Legal.{accepted_runs}
use Rattle.rcv_model.proofs.Lines.{Counts, closed_of_counts}
use Rattle.rcv_model.proofs.Numbers.{bounded}
use Rattle.rcv_model.proofs.OneThread.{one_step, one_journal}
use Rattle.rcv_model.proofs.Ping.{ping_form}
use Rattle.rcv_model.proofs.PlainNets.{plain_reach}
use Rattle.rcv_model.proofs.Reached.{reach, roles_decide}
use Rattle.rcv_model.proofs.Recoveries.{undo_in_journal}
use Rattle.rcv_model.proofs.Recovering.{listed, recovery}
use Rattle.rcv_model.proofs.RestartLists.{restart_list, one_restart_list}
use Rattle.rcv_model.proofs.Same.{enabled_both, met_text_rises}
use Rattle.rcv_model.proofs.Session.{feed, net, feed_form, feed_proper, feed_accepted, scripts, rules, before, first_recover, meanwhile, rest, journal, s1, s5, s6, s7, s20, b_recovers, journal_legal, journal_final}
use Rattle.rcv_model.proofs.StableLines.{line_holds, lines_join, never_falls}
use Rattle.rcv_model.proofs.Steady.{steady}
use Rattle.rcv_model.proofs.Stuck.{not_stuck}
use Rattle.rcv_model.proofs.Threads.{one_thread, step_or_final}
use Rattle.rcv_model.proofs.Transparency.{transparent}
use Rattle.rcv_model.proofs.Undoing.{blocked_iff_undone}
use Rattle.rcv_model.proofs.Unique.{one_recovery, one_send, one_recv, not_both}
use Rattle.rcv_model.proofs.Session.{feed_one}

-- kept events are runs, and the protocol reaches the joint states
pub runs : KeepsRuns rules journal
runs = accepted_runs rules journal feed_proper feed_accepted journal_legal

reached : IsReachedState net (joint_of net (reading rules before).kept)
reached = reach rules feed before (first_recover ∷ meanwhile ++ rest) refl feed_form feed_accepted journal_legal

pub queued : IsQueued net s5.kept
queued = (runs before (first_recover ∷ meanwhile ++ rest) refl).1.queued

-- B's recovery undoes exactly what it should
abbrev lost : ℕ → ℕ
lost = bound_of (group_of rules 1) (durable rules s5) s5.kept

undone : (has : ℕ → Bool) × UndoesExactly net s5.kept (group_of rules 1) (durable rules s5) has × ((reading rules (before ++ first_recover ∷ [])).kept ≡ picked has s5.kept)
undone = undo_in_journal rules before (meanwhile ++ rest) 1 _ _ _ journal_legal

cut : (has : ℕ → Bool) × IsLatestCut net s5.kept lost has × (keep_within net lost s5.kept ≡ picked has s5.kept)
cut = latest net lost s5.kept queued

-- C's Recv, the fourth event, is undone: by B's loss alone too
c_undone : IsUndone net s5.kept lost 3
c_undone = (blocked_iff_undone net lost s5.kept queued (says 0 1 10 1 ∷ hears 1 1 10 2 1 ∷ says 1 2 11 3 ∷ []) [] (hears 2 2 11 4 3) refl).0 refl

by_one : (p : ℕ) × IsUndone net s5.kept (only p (lost p) s5.kept) 3
by_one = (undone_one_by_one net lost s5.kept 3).0 c_undone

by_points : IsUndoneByPoints s5.kept lost 3
by_points = (undone_by_points net s5.kept queued (run_by_ends net s5.kept (runs before (first_recover ∷ meanwhile ++ rest) refl)) lost 3).0 c_undone

c_least : IsLeastKept net lost s5.kept 2
c_least = is_least_kept net lost s5.kept queued 2

-- C restarts at the point that it lost, by the table from B's start
c_foreseen : IsForeseen net (group_of rules 1) (durable rules s5) s5.kept 2 2
c_foreseen = foreseen net (group_of rules 1) (durable rules s5) 2 s5.kept (record { dir = Got; point = 2 }) (4, feed_proper) (runs before (first_recover ∷ meanwhile ++ rest) refl) refl

c_restarts : (zs : List ℕ) × AreRestarts net 1 1 2 zs
c_restarts = restart_list net 4 1 1 2 feed_proper

-- D isn't concerned: it loses nothing, nor does a channel to it
d_free : IsConcernedByAny net (group_of rules 1) (start_of (durable rules s5) s5.kept) 3 → ⊥
d_free c = let t = (listed rules s5 1 feed_proper feed_accepted.lanes_end 3).1 c in absurd (cc)

d_keeps : events_of 3 (keep_of net (group_of rules 1) (durable rules s5) s5.kept) ≡ events_of 3 s5.kept
d_keeps = group_keeps net (group_of rules 1) (durable rules s5) s5.kept (4, feed_proper) (runs before (first_recover ∷ meanwhile ++ rest) refl) 3 d_free

d_channel : channel net 0 3 (keep_of net (group_of rules 1) (durable rules s5) s5.kept) ≡ channel net 0 3 s5.kept
d_channel = group_channel_kept net (group_of rules 1) (durable rules s5) s5.kept (4, feed_proper) (runs before (first_recover ∷ meanwhile ++ rest) refl) 3 d_free 0

-- the session isn't stuck on the way, and its end is as the laws say
goes_on : IsNotStuck net 4 s5.kept
goes_on = let r = runs before (first_recover ∷ meanwhile ++ rest) refl in not_stuck net 4 r.0 s5.kept feed_proper feed_accepted r.1

pub chooses : ChoosesOffered rules
chooses r events attempt zs some = chosen_in net scripts r events attempt zs some

at_end : AreDone rules (reading rules journal) ⊎ HasOneAtLimit rules (reading rules journal)
at_end = done_or_limited rules journal feed_proper feed_accepted chooses (omega arith) journal_legal journal_final

numbers : IsBounded rules journal (reading rules journal)
numbers = bounded rules journal journal_legal

two_lines : crash_line_count rules ≡ 2
two_lines = refl

-- its crashes are transparent
pub blind : (r : ℕ) → AreBlind (scripts r)
blind zero = ((tt, tt), (tt, tt, tt))
blind (suc zero) = ((tt, tt), tt)
blind (suc (suc r)) = tt

sees_none : IsSteady rules
sees_none = steady rules scripts (record { chosen = λ r h a zs. refl; value = λ r h a p. refl }) blind

all_done : AreDone rules (reading rules journal)
all_done zero lt z n = (next_by net feed_one 0 (place s20 0) refl).complete z n
all_done (suc zero) lt z n = (next_by net feed_one 1 (place s20 1) refl).complete z n
all_done (suc (suc zero)) lt z n = (next_by net feed_one 2 (place s20 2) refl).complete z n
all_done (suc (suc (suc zero))) lt z n = (next_by net feed_one 3 (place s20 3) refl).complete z n
all_done (suc (suc (suc (suc r)))) lt z n = omega arith

calm : (other : List Entry) × IsOneThread (without_crashes rules) other
calm = one_thread (without_crashes rules) feed_proper feed_accepted.lanes_end

same : IsCompleted (without_crashes rules) (reading (without_crashes rules) calm.0) × DidTheSame (reading rules journal) (reading (without_crashes rules) calm.0)
same =
    let j = one_journal (without_crashes rules) calm.0 calm.0 in
    transparent rules journal calm.0 feed_proper feed_accepted sees_none chooses (omega arith) journal_legal all_done (j.legal calm.1) (j.final calm.1)

-- A's first event is within a stable line before B's recovery, and stays to the end
abbrev first_of_a : ℕ → ℕ
first_of_a zero = 1
first_of_a (suc r) = 0

a_counts : Counts net s5.kept first_of_a
a_counts s zero = omega arith
a_counts s (suc r) = omega arith

a_stable : IsStable net rules.every s5.kept first_of_a
a_stable = record { steps = steps; kept = kept; closed = closed_of_counts net s5.kept first_of_a a_counts }
  where
    steps : (r : ℕ) → (k : ℕ) × (k * rules.every r ≡ first_of_a r)
    steps zero = (1, refl)
    steps (suc r) = (0, omega arith)

    kept : (r : ℕ) → first_of_a r ≤ length (acts r s5.kept)
    kept zero = omega arith
    kept (suc r) = omega arith

a_stays : StableLineHolds net rules.every s5.kept (reading rules journal).kept first_of_a
a_stays = line_holds rules before (first_recover ∷ meanwhile ++ rest) first_of_a feed_proper feed_accepted journal_legal a_stable

-- on texts: the choice is enabled with lists and without; no rule fails; at most one recovery may come
a_next : AreNext net 0 3 (1 ∷ 4 ∷ [])
a_next = next_by net feed_one 0 3 refl

enabled : IsEnabledAt net 0 3 ↔ IsEnabledBy net 0 3 (1 ∷ 4 ∷ [])
enabled = enabled_both net 0 3 (1 ∷ 4 ∷ []) (met_text_rises feed 0) a_next

feed_decided : IsDecided feed 4
feed_decided = decided feed 4 feed_form

one : (concerned : RoleSet) (kept : List ℕ) (undone : ℕ) → May rules s5 (Recover 1 concerned kept undone) → Recover 1 concerned kept undone ≡ first_recover
one concerned kept undone may = one_recovery rules s5 1 concerned _ kept _ undone _ may b_recovers

pub feed_full : IsFullText feed
feed_full = ((λ n. n), (((λ n. n), (inl refl, (λ n. n), tt), ((λ n. n), tt, tt)), tt), tt)

at_the_end : (s : Spot) → spot_of feed 6 ≡ Some s → (offers_at s ≡ []) ↔ IsEndIn s.frames s.left
at_the_end s e = end_offers_nothing feed 0 6 s feed_full e

-- two lines that join: C's first event, and A's
abbrev each_one : Rules
each_one = plain four 4 (λ r. 1) (λ r. [])

abbrev both_sent : List Event
both_sent = sent 0 2 1 ∷ sent 2 1 1 ∷ []

abbrev of_c : ℕ → ℕ
of_c zero = 1
of_c (suc r) = 0

abbrev of_a : ℕ → ℕ
of_a zero = 0
of_a (suc zero) = 0
of_a (suc (suc zero)) = 1
of_a (suc (suc (suc r))) = 0

c_stable : IsStable each_one.net each_one.every both_sent of_c
c_stable = record { steps = λ r. (of_c r, omega arith); kept = kept; closed = closed_of_counts each_one.net both_sent of_c counts }
  where
    kept : (r : ℕ) → of_c r ≤ length (acts r both_sent)
    kept zero = omega arith
    kept (suc r) = omega arith

    counts : Counts each_one.net both_sent of_c
    counts s zero = omega arith
    counts s (suc r) = omega arith

a_line : IsStable each_one.net each_one.every both_sent of_a
a_line = record { steps = λ r. (of_a r, omega arith); kept = kept; closed = closed_of_counts each_one.net both_sent of_a counts }
  where
    kept : (r : ℕ) → of_a r ≤ length (acts r both_sent)
    kept zero = omega arith
    kept (suc zero) = omega arith
    kept (suc (suc zero)) = omega arith
    kept (suc (suc (suc r))) = omega arith

    counts : Counts each_one.net both_sent of_a
    counts s zero = omega arith
    counts s (suc zero) = omega arith
    counts s (suc (suc zero)) = omega arith
    counts s (suc (suc (suc r))) = omega arith

joined : IsStable each_one.net each_one.every both_sent (λ r. max (of_c r) (of_a r))
joined = lines_join each_one.net each_one.every both_sent of_c of_a c_stable a_line

-- a plain text: one thread completes it, and the protocol reaches what its journal leaves
plain_one : (thread : List Entry) × IsOneThread (bare_rules ping 2 (λ r. [])) thread × IsCompleted (bare_rules ping 2 (λ r. [])) (reading (bare_rules ping 2 (λ r. [])) thread)
plain_one = one_completes ping 2 (λ r. []) tt ping_form

plain_reached : IsReachedState (net_of ping) (joint_of (net_of ping) (reading (bare_rules ping 2 (λ r. [])) plain_one.0).kept)
plain_reached = plain_reach ping 2 (λ r. []) plain_one.0 [] tt ping_form (subst (IsLegal (bare_rules ping 2 (λ r. []))) (sym (append-nil plain_one.0)) ((one_journal (bare_rules ping 2 (λ r. [])) plain_one.0 plain_one.0).legal plain_one.1))

-- a state in which a role can act isn't final, and a line that holds a Recv without its Send isn't stable
not_final : IsFinal rules s6 → ⊥
not_final f = f.none_acts 0 (omega arith) (Send (says 0 3 0 2), (refl, send_by rules feed_one s6 (says 0 3 0 2) refl refl refl refl refl refl refl, omega arith))

abbrev of_b : ℕ → ℕ
of_b zero = 0
of_b (suc zero) = 1
of_b (suc (suc r)) = 0

not_stable : IsStable net (λ r. 1) (says 0 1 10 1 ∷ hears 1 1 10 2 1 ∷ []) of_b → ⊥
not_stable stable =
    let w = stable.closed 0 1 0 0 1 (record { event = says 0 1 10 1; at = refl; puts = refl; number = refl }) (record { event = hears 1 1 10 2 1; at = refl; takes = refl; number = refl }) (omega arith) in
    omega arith

-- the channels are queues by positions too
by_positions : IsQueuedByPositions net s5.kept
by_positions = (queued_both net s5.kept).0 queued

-- what each role did decides what lies in the channels, whoever was first
abbrev b_first : List Event
b_first = says 0 1 10 1 ∷ hears 1 1 10 2 1 ∷ says 0 3 0 2 ∷ []

abbrev a_first : List Event
a_first = says 0 1 10 1 ∷ says 0 3 0 2 ∷ hears 1 1 10 2 1 ∷ []

did_same : (r : ℕ) → (joint_of net b_first).done r ≡ (joint_of net a_first).done r
did_same zero = refl
did_same (suc zero) = refl
did_same (suc (suc r)) = let a = ne_eqb 0 (suc (suc r)) (λ e. omega arith) in let b = ne_eqb 1 (suc (suc r)) (λ e. omega arith) in grind (arith, nat_tests)

lies_same : (joint_of net b_first).lies 0 3 ≡ (joint_of net a_first).lies 0 3
lies_same = roles_decide net b_first a_first did_same 0 3

-- the stable line behind B's crash is at most that at the end
line_then : (line : ℕ → ℕ) × IsStableLine net rules.every s5.kept line
line_then = line_exists net rules.every s5.kept

line_now : (line : ℕ → ℕ) × IsStableLine net rules.every (reading rules journal).kept line
line_now = line_exists net rules.every (reading rules journal).kept

no_fall : (r : ℕ) → line_then.0 r ≤ line_now.0 r
no_fall = never_falls rules before (first_recover ∷ meanwhile ++ rest) line_then.0 line_now.0 feed_proper feed_accepted journal_legal line_then.1 line_now.1

-- C's restart points are one list, C is listed as concerned, and B fails alone
one_list : (zs : List ℕ) → AreRestarts net 1 1 2 zs → c_restarts.0 ≡ zs
one_list zs are = one_restart_list net 1 1 2 c_restarts.0 zs c_restarts.1 are

c_listed : IsIn 2 (concerned_by_any net 4 (group_of rules 1) (start_of (durable rules s5) s5.kept)) ↔ IsConcernedByAny net (group_of rules 1) (start_of (durable rules s5) s5.kept) 2
c_listed = listed_concerned net 4 (start_of (durable rules s5) s5.kept) feed_proper feed_accepted.lanes_end (group_of rules 1) 2

b_alone : FailsAlone rules s5 1
b_alone = lonely rules s5 1 refl

-- next points exist, and are offered
d_next_exists : (zs : List ℕ) × AreNext net 3 0 zs
d_next_exists = lists_exist net 4 3 0 feed_proper

d_next_offered : ((j : ℕ) × IsIn 6 (net.offers j)) ⊎ ((l : ℕ) × IsIn 6 (net.begins l))
d_next_offered = next_offered net 3 0 6 ((next_by net feed_one 3 0 refl).sound 6 (inr (inl refl)))

-- one step may come, and it is there
first_step : IsStep rules s5 first_recover
first_step = (((omega arith, refl), λ q lt c. only_b q lt c), b_recovers)
  where
    only_b : (q : ℕ) → q < 1 → IsCrashed s5 q → ⊥
    only_b zero lt c = let x = c.1 in cc
    only_b (suc q) lt c = omega arith

no_other : (e : Entry) → IsStep rules s5 e → first_recover ≡ e
no_other e step = (one_step rules s5 first_recover e).same feed_proper.two_ends first_step step

a_step : MaySend rules s5 (says 0 3 0 2)
a_step = send_by rules feed_one s5 (says 0 3 0 2) refl refl refl refl refl refl refl

no_other_send : (f : Event) → 0 ≡ f.role → MaySend rules s5 f → says 0 3 0 2 ≡ f
no_other_send f same may = one_send rules s5 (says 0 3 0 2) f same a_step may

no_recv_beside : (f : Event) → 0 ≡ f.role → MayRecv rules s5 f → ⊥
no_recv_beside f same may = not_both rules s5 (says 0 3 0 2) f same feed_proper.two_ends a_step may

d_step : MayRecv rules s7 (hears 3 3 0 3 2)
d_step = recv_by rules feed_one s7 (hears 3 3 0 3 2) [] refl refl refl refl refl

no_other_recv : (f : Event) → 3 ≡ f.role → MayRecv rules s7 f → hears 3 3 0 3 2 ≡ f
no_other_recv f same may = one_recv rules s7 (hears 3 3 0 3 2) f same d_step may

some_step : ((e : Entry) × IsStep rules s5 e) ⊎ IsFinal rules s5
some_step = step_or_final rules feed_proper feed_accepted.lanes_end s5 refl

b_has_one : (concerned : RoleSet) × (kept : List ℕ) × (undone : ℕ) × May rules s5 (Recover 1 concerned kept undone)
b_has_one = (_, _, _, recovery rules s5 1 feed_proper feed_accepted.lanes_end (omega arith, refl))

-- with and without crashes the channel from A to B was used alike
alike : UsedAlike net (reading rules journal) (reading (without_crashes rules) calm.0) 0 1
alike = used_alike net (reading rules journal) (reading (without_crashes rules) calm.0) same.1 0 1

-- no rule fails of the text, its choice's subject being the sender of both first points
pub feed_subjects : HasSubjects feed
feed_subjects s p (inl a) = from_a p (offers_complete (record { left = feed; frames = [] }) p (loop a.1)) ∙ a.0
  where
    from_a : (p : ℕ) → IsIn p (1 ∷ 4 ∷ []) → net.sender p ≡ 0
    from_a p (inl e) = ap net.sender e
    from_a p (inr (inl e)) = ap net.sender e
    from_a p (inr (inr i)) = absurd i
feed_subjects s p (inr i) = absurd i

feed_faultless : (c r n : ℕ) → Fails feed 4 c r n → ⊥
feed_faultless = (accepted_both feed 4 feed_decided).1 (feed_accepted, feed_subjects)

-- A's first event isn't undone, no step comes before a recovery, and several workers' journal isn't one thread's
a_stands : IsUndone net s5.kept lost 0 → ⊥
a_stands u = let t = (blocked_iff_undone net lost s5.kept queued [] (hears 1 1 10 2 1 ∷ says 1 2 11 3 ∷ hears 2 2 11 4 3 ∷ []) (says 0 1 10 1) refl).1 u in absurd (cc)

recovery_first : IsStep rules s5 (Send (says 0 3 0 2)) → ⊥
recovery_first step = step.0 1 (omega arith, refl)

not_one_thread : IsOneThread rules journal → ⊥
not_one_thread thread = thread.1.0.2.1 0 (omega arith) (Send (says 0 3 0 2), (refl, send_by rules feed_one s1 (says 0 3 0 2) refl refl refl refl refl refl refl, omega arith))
