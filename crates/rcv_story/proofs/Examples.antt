-- Worked journals: of a message that is received again, dropped, lost with its Recv, and waiting; and which entries are shown.
use Rattle.std.proofs.Common.{◌≡◌, ℕ, zero, suc, ◌<◌, ◌≤◌, ◌⊎◌, Some, List, [], ◌∷◌, length, replicate, refl, ap, inl, inr, ⊎_elim, arith}
use Rattle.std.specs.Prelude.{slice_get}
use Rattle.rcv_tree.specs.declared.event.Event.{Event}
use Rattle.rcv_tree.specs.declared.entry.Entry.{Entry}
use Rattle.rcv_tree.specs.declared.entry.Entry.TheVariants.{Recv, Crash}
use Rattle.rcv_model.specs.Net.{Net}
use Rattle.rcv_model.specs.Places.{net_of}
use Rattle.rcv_model.specs.Journal.{reading}
use Rattle.rcv_model.proofs.Cases.{ping, workers, sent, got, send, recv, recover, several_all}
use Rattle.rcv_model.proofs.Journals.{several_legal}
use Rattle.rcv_model.proofs.Ping.{ping_proper, ping_accepted}
use Rattle.rcv_model.proofs.Lists.{some_same}
use Rattle.rcv_fates.specs.Fates.{IsAmong, IsMessage}
use Rattle.rcv_story.specs.Kept.{kept_places, kept_before, left_after, IsUndoneBy}
use Rattle.rcv_story.specs.Recoveries.{IsLatestCrash, GoesBack, Stays, IsFirstLost, IsLastKept}
use Rattle.rcv_story.specs.Messages.{IsAgain, IsDropped, IsWaiting}
use Rattle.rcv_story.specs.Shown.{IsPicked, IsShownAt}
use Rattle.rcv_story.specs.Laws.{AreEventsAt, IsJournal}
use Rattle.rcv_story.proofs.Keeping.{kept_or_undone}
use Rattle.rcv_story.proofs.Legal.{kept_are_kept, undone_by_one}

abbrev net : Net
net = net_of ping

-- B receives, crashes, loses its Recv, and receives again
abbrev again : List Entry
again = send 0 1 1 ∷ recv 1 1 2 1 ∷ Crash 1 ∷ recover 1 3 (1 ∷ replicate 7 0) 1 ∷ recv 1 1 4 1 ∷ []

had : kept_before 1 again 3 ≡ 1 ∷ []
had = refl

left : left_after 1 again 3 ≡ []
left = refl

at_end : kept_places 1 again ≡ 4 ∷ []
at_end = refl

undone_here : IsUndoneBy again 1 3
undone_here = record { role = 1; had = inl refl; lost = λ i. i }

kept_there : IsUndoneBy again 0 3 → ⊥
kept_there u = kept_or_undone again 0 3 (0, inl refl) u

first_lost : IsFirstLost again 3 1 1
first_lost = record { had = inl refl; lost = λ i. i; first = λ o i out. ⊎_elim (λ e. omega (arith, e)) (λ j. absurd j) i }

goes_back : GoesBack again 3 1
goes_back = omega arith

sender_stays : Stays again 3 0
sender_stays = refl

receiver_goes : Stays again 3 1 → ⊥
receiver_goes s = let n = ap length s in omega (arith, n)

last_kept : IsLastKept again 3 0 0
last_kept = record { kept = inl refl; last = λ o i. ⊎_elim (λ e. omega (arith, e)) (λ j. absurd j) i }

latest_crash : IsLatestCrash again 1 3 2
latest_crash = record { before = omega arith; there = refl; latest = λ d lt at. omega (arith, lt) }

first_message : IsMessage net again 0 1
first_message = record { sent = sent 0 1 1; got = got 1 1 2 1; send_at = refl; recv_at = refl; sender = refl; stamp = refl }

second_message : IsMessage net again 0 4
second_message = record { sent = sent 0 1 1; got = got 1 1 4 1; send_at = refl; recv_at = refl; sender = refl; stamp = refl }

received_again : IsAgain net again 4
received_again = record { send = 0; earlier = 1; this = second_message; other = first_message; before = omega arith }

-- the first receipt isn't one again
first_time : IsAgain net again 1 → ⊥
first_time x = go x.earlier x.before x.other.recv_at
  where
    go : (t : ℕ) → t < 1 → slice_get again t ≡ Some (Recv x.other.got) → ⊥
    go zero lt at = let f : send 0 1 1 ≡ Recv x.other.got = some_same at in cc
    go (suc t) lt at = omega (arith, lt)

not_waiting : IsWaiting net again 0 → ⊥
not_waiting w = w.unmet 4 second_message (1, inl refl)

-- A's only message is in flight where A crashes
abbrev flight : List Entry
flight = send 0 1 1 ∷ Crash 0 ∷ recover 0 3 (replicate 8 0) 1 ∷ []

nobody_receives : (t : ℕ) → IsMessage net flight 0 t → ⊥
nobody_receives t m = go t m.recv_at
  where
    go : (t : ℕ) → slice_get flight t ≡ Some (Recv m.got) → ⊥
    go zero at = let f : send 0 1 1 ≡ Recv m.got = some_same at in cc
    go (suc zero) at = let f : Crash 0 ≡ Recv m.got = some_same at in cc
    go (suc (suc zero)) at = let f : recover 0 3 (replicate 8 0) 1 ≡ Recv m.got = some_same at in cc
    go (suc (suc (suc t))) at = cc

in_flight : IsDropped net flight 0 2
in_flight = record { event = sent 0 1 1; send_at = refl; undone = record { role = 0; had = inl refl; lost = λ i. i }; unmet = λ t m u. nobody_receives t m }

-- its message was received, and both lose it
abbrev both : List Entry
both = send 0 1 1 ∷ recv 1 1 2 1 ∷ Crash 0 ∷ recover 0 3 (replicate 8 0) 2 ∷ []

message_of_both : IsMessage net both 0 1
message_of_both = record { sent = sent 0 1 1; got = got 1 1 2 1; send_at = refl; recv_at = refl; sender = refl; stamp = refl }

received_before : IsDropped net both 0 3 → ⊥
received_before d = d.unmet 1 message_of_both (record { role = 1; had = inl refl; lost = λ i. i })

-- a message that nobody has received yet
abbrev alone : List Entry
alone = send 0 1 1 ∷ []

waits : IsWaiting net alone 0
waits = record { event = sent 0 1 1; send_at = refl; kept = (0, inl refl); unmet = λ t m k. go t m m.recv_at }
  where
    go : (t : ℕ) (m : IsMessage net alone 0 t) → slice_get alone t ≡ Some (Recv m.got) → ⊥
    go zero m at = let f : send 0 1 1 ≡ Recv m.got = some_same at in cc
    go (suc t) m at = cc

-- a legal journal with two recoveries: the laws hold of it
several : IsJournal workers several_all
several = record { session = record { proper = ping_proper; accepted = ping_accepted }; few = omega arith; legal = several_legal }

several_places : kept_places 0 several_all ≡ 8 ∷ 11 ∷ []
several_places = refl

several_kept : AreEventsAt several_all (8 ∷ 11 ∷ []) (sent 0 1 6 ∷ got 0 2 9 8 ∷ [])
several_kept = kept_are_kept workers several_all 0 several (omega arith)

several_undone : (q : ℕ) × IsUndoneBy several_all 0 q
several_undone = (undone_by_one workers several_all 0 several).0 (record { entry = send 0 1 1; there = refl; undone = λ i. out i })
  where
    out : IsAmong (sent 0 1 1) (reading workers several_all).kept → ⊥
    out (inl e) = let f = ap (λ (x : Event). x.stamp) e in omega (arith, f)
    out (inr (inl e)) = let f = ap (λ (x : Event). x.stamp) e in omega (arith, f)
    out (inr (inr (inl e))) = let f = ap (λ (x : Event). x.stamp) e in omega (arith, f)
    out (inr (inr (inr (inl e)))) = let f = ap (λ (x : Event). x.stamp) e in omega (arith, f)
    out (inr (inr (inr (inr i)))) = i

-- a journal of 160 entries is shown whole, and of 161 the middle isn't
whole_shown : IsShownAt 160 [] 80
whole_shown = inl (omega arith)

picked_ends : (p : ℕ) → IsPicked 161 [] p → (p < 8) ⊎ (153 ≤ p)
picked_ends p k = ⊎_elim inl (λ g. ⊎_elim (λ e. inr (omega (arith, e))) (λ t. absurd (let f = t.there in cc)) g) k.1

middle_hidden : IsShownAt 161 [] 80 → ⊥
middle_hidden s = ⊎_elim
    (λ short. omega (arith, short))
    (λ g. ⊎_elim
    (λ k. ⊎_elim (λ low. omega (arith, low)) (λ high. omega (arith, high)) (picked_ends 80 k))
    (λ b. ⊎_elim
    (λ low. let a = b.few in let c = b.below in omega (arith, a, c, low))
    (λ high. let a = b.above in omega (arith, a, high))
    (picked_ends b.lower b.lower_picked)) g) s
