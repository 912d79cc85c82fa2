-- The definitions at the worked protocol of rcv_model: lists of events that its machines make, and lists that they don't.
use Rattle.std.proofs.Common.{◌≡◌, ℕ, zero, suc, ◌&&◌, Bool, true, false, List, [], ◌∷◌, ◌++◌, length, drop, refl, sym, ◌∙◌, ap, inl, arith}
use Rattle.std.specs.Prelude.{◌==◌, pos, nat_abs}
use Rattle.rcv_tree.specs.declared.event.Event.{Event}
use Rattle.rcv_tree.specs.declared.event.Message.{Message}
use Rattle.rcv_tree.specs.declared.entry.Entry.{Entry}
use Rattle.rcv_model.specs.Run.{put, taken, channel, IsRun}
use Rattle.rcv_model.specs.Transparent.{Fact}
use Rattle.rcv_model.specs.Journal.{Rules}
use Rattle.rcv_model.proofs.Cases.{says, hears}
use Rattle.rcv_model.proofs.Checked.{next_by}
use Rattle.rcv_model.proofs.Keeping.{put_none, taken_none}
use Rattle.rcv_model.proofs.Session.{net, feed_proper, feed_one, feed_accepted, rules, before, first_recover, meanwhile, rest, journal_legal}
use Rattle.rcv_project.specs.Act.{Sending, Receiving, Ended, IsActAt}
use Rattle.rcv_project.specs.Local.{LocalView}
use Rattle.rcv_fidelity.specs.Laws.{IsAcceptedNet}
use Rattle.rcv_fidelity.specs.Machines.{IsMachineStep, AreMachineSteps, AreTables, AreTableSteps}
use Rattle.rcv_fidelity.specs.Safe.{AreAtEnd, AreSafe}
use Rattle.rcv_fidelity.specs.Restamped.{AreRestamped, AreCalmRules, IsJournalOf}
use Rattle.rcv_fidelity.proofs.Computing.{sending, receiving, sends, are_steps, can_make, not_it, neither}
use Rattle.rcv_fidelity.proofs.Computing.{hears as makes_hears}
use Rattle.rcv_fidelity.proofs.Stepping.{made_by_machines}
use Rattle.rcv_fidelity.proofs.Tables.{tables_exist, made_by_tables}
use Rattle.rcv_fidelity.proofs.Seeing.{sees_its_own}
use Rattle.rcv_fidelity.proofs.Safety.{machines_safe}
use Rattle.rcv_fidelity.proofs.Recording.{journals_exist, journals_keep_steps}

-- rec X { choice at A { more to B; echo from B to C; tick to D; continue X; } or { stop to B; last from B to C; halt to D; } }
protocol : IsAcceptedNet net 4
protocol = record { proper = feed_proper; accepted = feed_accepted }

tables : (tables : ℕ → LocalView) × AreTables net 4 tables
tables = tables_exist net 4 protocol

abbrev message : ℕ → ℕ → ℕ → Message
message point value stamp = record { point = point; value = pos value; stamp = stamp }

-- A runs ahead into its second round and stops there, before B has heard of the first
abbrev ahead : List Event
ahead =
    says 0 1 10 1 ∷ says 0 3 0 2 ∷ says 0 4 0 3 ∷ hears 1 1 10 2 1 ∷ says 1 2 11 3 ∷ hears 1 4 0 4 3 ∷ hears 2 2 11 4 3 ∷ hears 3 3 0 3 2 ∷ []

ahead_steps : AreMachineSteps net ahead
ahead_steps = are_steps net ahead (sends net feed_one [] (says 0 1 10 1) refl refl refl, (sends net feed_one (says 0 1 10 1 ∷ []) (says 0 3 0 2) refl refl refl, (sends net feed_one (says 0 1 10 1 ∷ says 0 3 0 2 ∷ []) (says 0 4 0 3) refl refl refl, (makes_hears net feed_one (says 0 1 10 1 ∷ says 0 3 0 2 ∷ says 0 4 0 3 ∷ []) (hears 1 1 10 2 1) 0 refl refl refl (message 4 0 3 ∷ [], refl), (sends net feed_one (says 0 1 10 1 ∷ says 0 3 0 2 ∷ says 0 4 0 3 ∷ hears 1 1 10 2 1 ∷ []) (says 1 2 11 3) refl refl refl, (makes_hears net feed_one (says 0 1 10 1 ∷ says 0 3 0 2 ∷ says 0 4 0 3 ∷ hears 1 1 10 2 1 ∷ says 1 2 11 3 ∷ []) (hears 1 4 0 4 3) 0 refl refl refl ([], refl), (makes_hears net feed_one (says 0 1 10 1 ∷ says 0 3 0 2 ∷ says 0 4 0 3 ∷ hears 1 1 10 2 1 ∷ says 1 2 11 3 ∷ hears 1 4 0 4 3 ∷ []) (hears 2 2 11 4 3) 1 refl refl refl ([], refl), (makes_hears net feed_one (says 0 1 10 1 ∷ says 0 3 0 2 ∷ says 0 4 0 3 ∷ hears 1 1 10 2 1 ∷ says 1 2 11 3 ∷ hears 1 4 0 4 3 ∷ hears 2 2 11 4 3 ∷ []) (hears 3 3 0 3 2) 0 refl refl refl ([], refl), tt))))))))

-- so it is a run; the tables make it, nothing is wrong after it, and a journal without crashes keeps it
ahead_runs : IsRun net ahead
ahead_runs = (made_by_machines net 4 ahead protocol).1 ahead_steps

ahead_by_tables : AreTableSteps net 4 tables.0 ahead
ahead_by_tables = (made_by_tables net 4 tables.0 ahead protocol tables.1).0 ahead_runs

ahead_safe : AreSafe net 4 ahead
ahead_safe = machines_safe net 4 ahead protocol ahead_steps

ahead_kept : (rules : Rules) × (journal : List Entry) × AreCalmRules net 4 rules × IsJournalOf rules ahead journal
ahead_kept = journals_exist net 4 ahead protocol ahead_runs

-- A stops at once: all come to their ends, and no message is left
abbrev brief : List Event
brief = says 0 4 0 1 ∷ hears 1 4 0 2 1 ∷ says 1 5 0 3 ∷ hears 2 5 0 4 3 ∷ says 0 6 0 2 ∷ hears 3 6 0 3 2 ∷ []

brief_steps : AreMachineSteps net brief
brief_steps = are_steps net brief (sends net feed_one [] (says 0 4 0 1) refl refl refl, (makes_hears net feed_one (says 0 4 0 1 ∷ []) (hears 1 4 0 2 1) 0 refl refl refl ([], refl), (sends net feed_one (says 0 4 0 1 ∷ hears 1 4 0 2 1 ∷ []) (says 1 5 0 3) refl refl refl, (makes_hears net feed_one (says 0 4 0 1 ∷ hears 1 4 0 2 1 ∷ says 1 5 0 3 ∷ []) (hears 2 5 0 4 3) 1 refl refl refl ([], refl), (sends net feed_one (says 0 4 0 1 ∷ hears 1 4 0 2 1 ∷ says 1 5 0 3 ∷ hears 2 5 0 4 3 ∷ []) (says 0 6 0 2) refl refl refl, (makes_hears net feed_one (says 0 4 0 1 ∷ hears 1 4 0 2 1 ∷ says 1 5 0 3 ∷ hears 2 5 0 4 3 ∷ says 0 6 0 2 ∷ []) (hears 3 6 0 3 2) 0 refl refl refl ([], refl), tt))))))

brief_ends : AreAtEnd net 4 brief
brief_ends zero lt = next_by net feed_one 0 6 refl
brief_ends (suc zero) lt = next_by net feed_one 1 5 refl
brief_ends (suc (suc zero)) lt = next_by net feed_one 2 5 refl
brief_ends (suc (suc (suc zero))) lt = next_by net feed_one 3 6 refl
brief_ends (suc (suc (suc (suc r)))) lt = absurd (omega arith)

none_left : (from to : ℕ) → channel net from to brief ≡ []
none_left = (machines_safe net 4 brief protocol brief_steps).none_left brief_ends

-- at the start A sends more or stop, and B receives one of them; after more B sends echo; after halt A is at its end
a_starts : IsActAt net 0 0 (Sending (1 ∷ 4 ∷ []))
a_starts = sending net feed_one 0 0 1 refl (inl refl)

b_starts : IsActAt net 1 0 (Receiving 0 (1 ∷ 4 ∷ []))
b_starts = receiving net feed_one 1 0 0 1 refl (inl refl)

b_echoes : IsActAt net 1 1 (Sending (2 ∷ []))
b_echoes = sending net feed_one 1 1 2 refl (inl refl)

a_ends : IsActAt net 0 6 Ended
a_ends = next_by net feed_one 0 6 refl

-- a Recv before its Send
early : AreMachineSteps net (hears 1 1 10 2 1 ∷ says 0 1 10 1 ∷ []) → ⊥
early steps =
    let takes = (can_make net [] (hears 1 1 10 2 1) (Receiving 0 (1 ∷ 4 ∷ [])) feed_proper.two_ends b_starts (steps [] (says 0 1 10 1 ∷ []) (hears 1 1 10 2 1) refl)).2 in
    let front : [] ≡ message 1 10 1 ∷ takes.0 = takes.1 in
    cc

-- a Recv of a message that isn't in front
abbrev first_stamp : List Message → ℕ
first_stamp [] = 0
first_stamp (m ∷ ms) = m.stamp

overtakes : AreMachineSteps net (says 0 1 10 1 ∷ says 0 3 0 2 ∷ says 0 1 20 3 ∷ hears 1 1 20 4 3 ∷ []) → ⊥
overtakes steps =
    let takes = (can_make net (says 0 1 10 1 ∷ says 0 3 0 2 ∷ says 0 1 20 3 ∷ []) (hears 1 1 20 4 3) (Receiving 0 (1 ∷ 4 ∷ [])) feed_proper.two_ends b_starts (steps (says 0 1 10 1 ∷ says 0 3 0 2 ∷ says 0 1 20 3 ∷ []) [] (hears 1 1 20 4 3) refl)).2 in
    let front : message 1 10 1 ∷ message 1 20 3 ∷ [] ≡ message 1 20 3 ∷ takes.0 = takes.1 in
    let stamp = ap first_stamp front in
    omega (arith, stamp)

-- a Send that the machine doesn't make at its place: A ticks first
ticks_first : AreMachineSteps net (says 0 3 0 1 ∷ []) → ⊥
ticks_first steps = neither 3 1 4 (λ e. omega arith) (λ e. omega arith) (can_make net [] (says 0 3 0 1) (Sending (1 ∷ 4 ∷ [])) feed_proper.two_ends a_starts (steps [] [] (says 0 3 0 1) refl)).1

-- the other branch: B hears more from A, and goes on as after stop
abbrev wrong : List Event
wrong = says 0 1 10 1 ∷ hears 1 1 10 2 1 ∷ says 1 5 0 3 ∷ []

wrong_branch : AreMachineSteps net wrong → ⊥
wrong_branch steps = not_it 5 2 (λ e. omega arith) (can_make net (says 0 1 10 1 ∷ hears 1 1 10 2 1 ∷ []) (says 1 5 0 3) (Sending (2 ∷ [])) feed_proper.two_ends b_echoes (steps (says 0 1 10 1 ∷ hears 1 1 10 2 1 ∷ []) [] (says 1 5 0 3) refl)).1

wrong_run : IsRun net wrong → ⊥
wrong_run run = wrong_branch ((made_by_machines net 4 wrong protocol).0 run)

wrong_by_tables : AreTableSteps net 4 tables.0 wrong → ⊥
wrong_by_tables steps = wrong_run ((made_by_tables net 4 tables.0 wrong protocol tables.1).1 steps)

-- B's machine isn't that of all, and at the start A isn't at its end
one_for_all : AreTables net 4 (λ r. tables.0 1) → ⊥
one_for_all are = let a = (tables.1 1 (omega arith)).whose in let b = (are 0 (omega arith)).whose in omega (arith, a, b)

starts_at_end : AreAtEnd net 4 [] → ⊥
starts_at_end ended = (ended 0 (omega arith)).complete 1 (a_starts.0.sound 1 (inl refl))

-- a step after the end
after_end : AreMachineSteps net (says 0 4 0 1 ∷ says 0 6 0 2 ∷ says 0 1 10 3 ∷ []) → ⊥
after_end steps = can_make net (says 0 4 0 1 ∷ says 0 6 0 2 ∷ []) (says 0 1 10 3) Ended feed_proper.two_ends a_ends (steps (says 0 4 0 1 ∷ says 0 6 0 2 ∷ []) [] (says 0 1 10 3) refl)

-- whether A has ticked to D or not is nothing to B
same_lies : (from : ℕ) → channel net from 1 (says 0 1 10 1 ∷ []) ≡ channel net from 1 (says 0 1 10 1 ∷ says 0 3 0 2 ∷ [])
same_lies from =
    ap (λ l. drop (length l) (put net from 1 (says 0 1 10 1 ∷ []))) (sym (taken_none net from 1 (says 0 1 10 1 ∷ []) (says 0 3 0 2) refl))
    ∙ ap (drop (length (taken net from 1 (says 0 1 10 1 ∷ says 0 3 0 2 ∷ [])))) (sym (put_none net from 1 (says 0 1 10 1 ∷ []) (says 0 3 0 2) (never (0 == from))))
  where
    never : (b : Bool) → (b && false) ≡ false
    never true = refl
    never false = refl

b_hears : IsMachineStep net (says 0 1 10 1 ∷ []) (hears 1 1 10 2 1)
b_hears = makes_hears net feed_one (says 0 1 10 1 ∷ []) (hears 1 1 10 2 1) 0 refl refl refl ([], refl)

b_hears_too : IsMachineStep net (says 0 1 10 1 ∷ says 0 3 0 2 ∷ []) (hears 1 1 10 2 1)
b_hears_too = sees_its_own net (says 0 1 10 1 ∷ []) (says 0 1 10 1 ∷ says 0 3 0 2 ∷ []) (hears 1 1 10 2 1) refl same_lies b_hears

-- after B's recovery in the worked journal, A's Send is kept alone
after_recovery : AreMachineSteps net (says 0 1 10 1 ∷ [])
after_recovery = journals_keep_steps rules (before ++ first_recover ∷ []) (meanwhile ++ rest) (record { proper = feed_proper; accepted = feed_accepted }) journal_legal

-- other stamps, and another number
restamped : AreRestamped (says 0 1 10 1 ∷ hears 1 1 10 2 1 ∷ []) (says 0 1 10 7 ∷ hears 1 1 10 9 7 ∷ [])
restamped = refl

abbrev first_number : List (ℕ × Fact) → ℕ
first_number [] = 0
first_number (d ∷ ds) = nat_abs d.1.value

renumbered : AreRestamped (says 0 1 10 1 ∷ []) (says 0 1 11 1 ∷ []) → ⊥
renumbered e = let number = ap first_number e in omega (arith, number)

-- rules with crash lines
with_crashes : AreCalmRules net 4 rules → ⊥
with_crashes are = let none = are.no_crash_lines 1 in cc

-- a journal that keeps nothing
keeps_nothing : (rules : Rules) → IsJournalOf rules ahead [] → ⊥
keeps_nothing rules is = let kept = is.kept in cc
