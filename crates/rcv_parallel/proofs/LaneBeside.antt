-- A lane beside goes on while the other one recovers: the worked text with lanes once more, where C's message still waits
-- for D when B crashes. D isn't concerned, and what it does may come behind the recovery as without it.
use Rattle.std.proofs.Common.{◌≡◌, ℕ, zero, suc, ◌<◌, cond, true, List, [], ◌∷◌, ◌++◌, length, take, drop, refl, sym, ◌∙◌, ap, subst, inl, inr, ne_eqb, arith}
use Rattle.std.specs.Prelude.{pos, if◌then◌else◌, slice_index}
use Rattle.std.proofs.lemmas.Bool.Decides.{nat_tests}
use Rattle.rcv_tree.specs.Bits.{has_bit, is_listed}
use Rattle.rcv_tree.specs.declared.event.Event.{Event}
use Rattle.rcv_tree.specs.declared.entry.Entry.{Entry}
use Rattle.rcv_tree.specs.declared.entry.Timed.{Timed}
use Rattle.rcv_tree.specs.declared.entry.Entry.TheVariants.{Send, Recv, Crash}
use Rattle.rcv_model.specs.Net.{IsIn, IsPrefix}
use Rattle.rcv_model.specs.Run.{acts, put, taken, channel, IsRun}
use Rattle.rcv_model.specs.Journal.{State, after, reading_from, reading, concerned_in, kept_by, May, IsLegal, own_of, MayOwnRecv}
use Rattle.rcv_model.proofs.Cases.{says, hears, recover}
use Rattle.rcv_model.proofs.Journals.{below_8}
use Rattle.rcv_model.proofs.Keeping.{by_role, taken_same, queued_now}
use Rattle.rcv_model.proofs.Legal.{accepted_runs}
use Rattle.rcv_model.proofs.Recovering.{may_recover}
use Rattle.rcv_model.proofs.Stepping.{due_not}
use Rattle.rcv_model.proofs.Undoing.{put_same}
use Rattle.rcv_theory.specs.Bystander.{KeepsAll}
use Rattle.rcv_theory.specs.BystanderLaws.{IsRoundBeside}
use Rattle.rcv_theory.specs.Own.{own_behind}
use Rattle.rcv_theory.specs.Round.{entries, events_in, of_role, IsLog, IsRound, IsMerge}
use Rattle.rcv_theory.proofs.BesideRounds.{legal_front, beside_recovery}
use Rattle.rcv_theory.proofs.Besides.{keeps}
use Rattle.rcv_theory.proofs.Following.{bystander_follows, concerned_goes_back}
use Rattle.rcv_theory.proofs.Merging.{legal_join}
use Rattle.rcv_parallel.proofs.LaneNexts.{next_in}
use Rattle.rcv_parallel.proofs.LaneSteps.{send_in, recv_in}
use Rattle.rcv_parallel.proofs.LaneSession.{net, text_proper, text_accepted, rules, kept, journal, s0, s5, legal}
use Rattle.rcv_parallel.proofs.LaneLaws.{is_session}
use Rattle.rcv_model.proofs.Roles.{up}

-- ---- B crashes before D has received c, and before C has received e

abbrev later : List Entry
later = Recv (hears 1 1 0 3 2) ∷ Recv (hears 1 2 0 4 3) ∷ Send (says 1 4 0 5) ∷ Crash 1 ∷ []

abbrev early : List Entry
early = take 5 journal ++ later

abbrev u6 : State
u6 = after rules s5 (Recv (hears 1 1 0 3 2))

abbrev u7 : State
u7 = after rules u6 (Recv (hears 1 2 0 4 3))

abbrev u8 : State
u8 = after rules u7 (Send (says 1 4 0 5))

abbrev u9 : State
u9 = after rules u8 (Crash 1)

early_legal : IsLegal rules early
early_legal = legal_join rules s0 (take 5 journal) later (legal_front rules s0 (take 5 journal) (drop 5 journal) legal)
    (recv_in rules text_proper s5 (hears 1 1 0 3 2) (record { point = 2; value = pos 0; stamp = 3 } ∷ []) refl refl refl refl refl, (recv_in rules text_proper u6 (hears 1 2 0 4 3) [] refl refl refl refl refl, (send_in rules text_proper u7 (says 1 4 0 5) refl refl refl refl refl refl refl, ((omega arith, (refl, omega arith)), tt))))

run : IsRun net u9.kept
run = accepted_runs rules early text_proper text_accepted early_legal early [] refl

-- it takes back A's b, and B's b and e; C has lost nothing
abbrev goes_back : Entry
goes_back = recover 1 7 kept 3

recovers : May rules u9 goes_back
recovers = may_recover rules u9 1 text_proper text_accepted.lanes_end 7 kept 3 (omega arith, refl) (omega arith) (below_8 (λ q. has_bit 7 q ≡ is_listed (concerned_in rules u9 1) q) refl refl refl refl refl refl refl refl) refl (below_8 (λ q. slice_index kept q ≡ (if has_bit 7 q then length (acts q (kept_by rules u9 1)) else 0)) refl refl refl refl refl refl refl refl) refl

recovered : IsLegal rules (early ++ goes_back ∷ [])
recovered = legal_join rules s0 early (goes_back ∷ []) early_legal (recovers, tt)

-- D keeps all, with the message that waits for it
d_keeps : KeepsAll net u9 (after rules u9 goes_back) 3
d_keeps = keeps rules u9 1 3 (record { 0 = 7 }) kept 3 text_proper text_accepted.lanes_end run recovers (omega arith) (λ e. cc)

c_waits : channel net 2 3 (after rules u9 goes_back).kept ≡ record { point = 3; value = pos 0; stamp = 1 } ∷ []
c_waits = d_keeps.channels 2

-- ---- what D does beside the recovery

abbrev d_hears : Timed
d_hears = record { stamp = 2; step = Recv (hears 3 3 0 2 1) }

abbrev logs : ℕ → List Timed
logs zero = []
logs (suc zero) = []
logs (suc (suc zero)) = []
logs (suc (suc (suc zero))) = d_hears ∷ []
logs (suc (suc (suc (suc r)))) = []

from_c : (z : ℕ) → IsIn z (3 ∷ []) → (net.receiver z ≡ 3) × (net.sender z ≡ 2)
from_c z (inl e) = (ap net.receiver e, ap net.sender e)
from_c z (inr i) = absurd i

d_may : MayOwnRecv rules (own_of u9 3) (hears 3 3 0 2 1)
d_may = record { free = record { declared = omega arith; running = refl; not_due = due_not rules u9 3 refl; below_limit = omega arith }; offered = 3 ∷ []; some = λ e. cc; from = 2; next = next_in net 4 text_proper 3 0 refl; receives = from_c; is_recv = refl; sender = refl; stamp = refl }

each_log : (r : ℕ) → IsLog rules r u9 (logs r)
each_log zero = tt
each_log (suc zero) = tt
each_log (suc (suc zero)) = tt
each_log (suc (suc (suc zero))) = (refl, (refl, d_may), tt)
each_log (suc (suc (suc (suc r)))) = tt

-- the logs match: without the recovery D's event is one of a legal journal too
abbrev all : List Event
all = u9.kept ++ hears 3 3 0 2 1 ∷ []

run_all : IsRun net all
run_all = accepted_runs rules (early ++ Recv (hears 3 3 0 2 1) ∷ []) text_proper text_accepted (legal_join rules s0 early (Recv (hears 3 3 0 2 1) ∷ []) early_legal (recv_in rules text_proper u9 (hears 3 3 0 2 1) [] refl refl refl refl refl, tt)) (early ++ Recv (hears 3 3 0 2 1) ∷ []) [] refl

nobody : (r : ℕ) → by_role (suc (suc (suc (suc r)))) u9.kept ≡ []
nobody r = let a = ne_eqb 0 (suc (suc (suc (suc r)))) (λ e. omega arith) in let b = ne_eqb 1 (suc (suc (suc (suc r)))) (λ e. omega arith) in let c = ne_eqb 2 (suc (suc (suc (suc r)))) (λ e. omega arith) in grind (arith, nat_tests)

others : (r : ℕ) → by_role (suc (suc (suc (suc r)))) all ≡ []
others r = let a = ne_eqb 0 (suc (suc (suc (suc r)))) (λ e. omega arith) in let b = ne_eqb 1 (suc (suc (suc (suc r)))) (λ e. omega arith) in let c = ne_eqb 2 (suc (suc (suc (suc r)))) (λ e. omega arith) in let d = ne_eqb 3 (suc (suc (suc (suc r)))) (λ e. omega arith) in grind (arith, nat_tests)

role_events : (r : ℕ) → by_role r (u9.kept ++ events_in (logs r)) ≡ by_role r all
role_events zero = refl
role_events (suc zero) = refl
role_events (suc (suc zero)) = refl
role_events (suc (suc (suc zero))) = refl
role_events (suc (suc (suc (suc r)))) = nobody r ∙ sym (others r)

logs_match : (t r : ℕ) → IsPrefix (taken net t r (u9.kept ++ events_in (logs r))) (put net t r (u9.kept ++ events_in (logs t)))
logs_match t r = subst (λ l. IsPrefix l (put net t r (u9.kept ++ events_in (logs t)))) (sym (taken_same net t r (u9.kept ++ events_in (logs r)) all (role_events r))) (subst (IsPrefix (taken net t r all)) (sym (put_same net t r (u9.kept ++ events_in (logs t)) all (role_events t))) (queued_now net all run_all.1.queued t r))

round : IsRound rules (reading rules early) logs
round = record { local = each_log; match = logs_match }

order : (r : ℕ) → of_role r (d_hears ∷ []) ≡ logs r
order zero = refl
order (suc zero) = refl
order (suc (suc zero)) = refl
order (suc (suc (suc zero))) = refl
order (suc (suc (suc (suc r)))) = ap (λ b. cond b (d_hears ∷ []) []) (ne_eqb 3 (suc (suc (suc (suc r)))) (λ e. omega arith))

sent_before : (front back : List Timed) (time : ℕ) (e : Event) → front ++ record { stamp = time; step = Recv e } ∷ back ≡ d_hears ∷ [] → length (taken net (net.sender e.point) e.role (u9.kept ++ events_in front)) < length (put net (net.sender e.point) e.role (u9.kept ++ events_in front))
sent_before [] back time e f =
    let g : record { stamp = time; step = Recv e } ≡ d_hears = cc in
    let k : Recv e ≡ Recv (hears 3 3 0 2 1) = ap (λ (x : Timed). x.step) g in
    let same : e ≡ hears 3 3 0 2 1 = cc in
    subst (λ (x : Event). length (taken net (net.sender x.point) x.role u9.kept) < length (put net (net.sender x.point) x.role u9.kept)) (sym same) (omega arith)
sent_before (x ∷ []) back time e f = absurd (cc)
sent_before (x ∷ y ∷ front) back time e f = absurd (cc)

merge : IsMerge net (reading rules early).kept logs (d_hears ∷ [])
merge = record { order = order; behind = sent_before }

apart : (r : ℕ) → has_bit 7 r ≡ true → logs r ≡ []
apart zero t = refl
apart (suc zero) t = refl
apart (suc (suc zero)) t = refl
apart (suc (suc (suc zero))) t = absurd (cc)
apart (suc (suc (suc (suc r)))) t = refl

-- D's Recv may come behind the recovery
goes_on : IsLegal rules (early ++ goes_back ∷ entries (d_hears ∷ []))
goes_on = beside_recovery rules early 1 (record { 0 = 7 }) kept 3 logs (d_hears ∷ []) (omega arith) text_proper text_accepted recovered round apart merge

beside : IsRoundBeside rules early goes_back (record { 0 = 7 }) logs (d_hears ∷ [])
beside = record { few = omega arith; legal = recovered; round = round; apart = apart; merge = merge }

-- there D has what its own log leaves it where no recovery came before
d_follows : own_of (reading rules (early ++ goes_back ∷ entries (d_hears ∷ []))) 3 ≡ own_of (reading_from rules (reading rules early) (entries (d_hears ∷ []))) 3
d_follows = bystander_follows rules early 1 (record { 0 = 7 }) kept 3 logs (d_hears ∷ []) is_session beside 3 (omega arith) (λ t. cc)

-- and C, which is concerned by e, has what it did in its lane: it gets the clock alone
c_goes_back : own_of (reading rules (early ++ goes_back ∷ entries (d_hears ∷ []))) 2 ≡ own_behind rules u9 1 2
c_goes_back = concerned_goes_back rules early 1 (record { 0 = 7 }) kept 3 logs (d_hears ∷ []) is_session beside 2 (omega arith) refl

c_gets_the_clock : own_behind rules u9 1 2 ≡ record { events = says 2 3 0 1 ∷ []; numbers = up 1 0 0 6 }
c_gets_the_clock = refl
