-- A worked journal: B receives a message, crashes, loses its Recv, and receives the message again.
use Rattle.std.proofs.Common.{◌≡◌, ℕ, zero, suc, ◌<◌, cond, Some, List, [], ◌∷◌, length, refl, sym, ◌∙◌, ap, inl, inr, arith}
use Rattle.std.specs.Prelude.{replicate, slice_get, slice_index}
use Rattle.rcv_tree.specs.Bits.{has_bit, is_listed}
use Rattle.rcv_tree.specs.declared.event.Event.{Event}
use Rattle.rcv_tree.specs.declared.entry.Entry.{Entry}
use Rattle.rcv_tree.specs.declared.entry.Entry.TheVariants.{Send, Recv, Crash}
use Rattle.rcv_model.specs.Net.{Net}
use Rattle.rcv_model.specs.Places.{net_of}
use Rattle.rcv_model.specs.Run.{acts}
use Rattle.rcv_model.specs.Journal.{Rules, State, start, after, concerned_in, kept_by, IsDue, MaySend, MayRecv, MayRecover, IsLegal}
use Rattle.rcv_model.proofs.Lists.{some_same}
use Rattle.rcv_model.proofs.Cases.{ping, plain, workers, sent, got, send, recv, recover, several_all}
use Rattle.rcv_model.proofs.Journals.{several_legal}
use Rattle.rcv_model.proofs.Ping.{begin, may_send, may_recv, ping_proper, ping_accepted}
use Rattle.rcv_model.proofs.Recovering.{may_recover}
use Rattle.rcv_fates.specs.declared.arrow.Arrow.{Arrow}
use Rattle.rcv_fates.specs.Fates.{IsKeptIn, IsMessage, AreArrows, arrow}
use Rattle.rcv_fates.specs.Laws.{HasOneSend}
use Rattle.rcv_fates.proofs.Clocks.{grow, once}
use Rattle.rcv_fates.proofs.Messages.{one_send}
use Rattle.rcv_fates.proofs.Joining.{AreArrowsTo, no_arrows, arrows_other, arrows_own, all_arrows}

abbrev net : Net
net = net_of ping

abbrev lines : ℕ → List ℕ
lines zero = []
lines (suc r) = 1 ∷ []

abbrev rules : Rules
rules = plain ping 2 (λ r. 100) lines

abbrev again : List Entry
again = send 0 1 1 ∷ recv 1 1 2 1 ∷ Crash 1 ∷ recover 1 3 (1 ∷ replicate 7 0) 1 ∷ recv 1 1 4 1 ∷ []

-- it is legal
abbrev s0 : State
s0 = start 2

abbrev s1 : State
s1 = after rules s0 (send 0 1 1)

abbrev s2 : State
s2 = after rules s1 (recv 1 1 2 1)

abbrev s3 : State
s3 = after rules s2 (Crash 1)

abbrev s4 : State
s4 = after rules s3 (recover 1 3 (1 ∷ replicate 7 0) 1)

m0 : MaySend rules s0 (sent 0 1 1)
m0 = may_send (λ r. 100) lines s0 0 0 1 (omega arith) begin (λ e. omega arith) refl (λ d. let x = d.1 in omega arith) (omega arith) refl refl refl

m1 : MayRecv rules s1 (got 1 1 2 1)
m1 = may_recv (λ r. 100) lines s1 1 0 2 0 1 [] (omega arith) begin (λ e. omega arith) refl (λ d. let x = d.1 in omega arith) (omega arith) refl refl refl refl refl

m2 : (1 < 2) × IsDue rules s2 1
m2 = (omega arith, (refl, omega arith))

below_8 : (P : ℕ → Type 0) → P 0 → P 1 → P 2 → P 3 → P 4 → P 5 → P 6 → P 7 → (q : ℕ) → q < 8 → P q
below_8 P a b c d e f g h zero lt = a
below_8 P a b c d e f g h (suc zero) lt = b
below_8 P a b c d e f g h (suc (suc zero)) lt = c
below_8 P a b c d e f g h (suc (suc (suc zero))) lt = d
below_8 P a b c d e f g h (suc (suc (suc (suc zero)))) lt = e
below_8 P a b c d e f g h (suc (suc (suc (suc (suc zero))))) lt = f
below_8 P a b c d e f g h (suc (suc (suc (suc (suc (suc zero)))))) lt = g
below_8 P a b c d e f g h (suc (suc (suc (suc (suc (suc (suc zero))))))) lt = h
below_8 P a b c d e f g h (suc (suc (suc (suc (suc (suc (suc (suc q)))))))) lt = absurd (omega arith)

m3 : MayRecover rules s3 1 3 (1 ∷ replicate 7 0) 1
m3 = may_recover rules s3 1 ping_proper ping_accepted.lanes_end 3 (1 ∷ replicate 7 0) 1 (omega arith, refl) (omega arith) (below_8 (λ q. has_bit 3 q ≡ is_listed (concerned_in rules s3 1) q) refl refl refl refl refl refl refl refl) refl (below_8 (λ q. slice_index (1 ∷ replicate 7 0) q ≡ cond (has_bit 3 q) (length (acts q (kept_by rules s3 1))) 0) refl refl refl refl refl refl refl refl) refl

m4 : MayRecv rules s4 (got 1 1 4 1)
m4 = may_recv (λ r. 100) lines s4 1 0 4 0 1 [] (omega arith) begin (λ e. omega arith) refl (λ d. let x = d.1 in omega arith) (omega arith) refl refl refl refl refl

again_legal : IsLegal rules again
again_legal = (m0, (m1, (m2, (m3, (m4, tt)))))

-- the Send and the second Recv are kept, and the first Recv is undone
send_kept : IsKeptIn rules again (sent 0 1 1)
send_kept = inl refl

second_kept : IsKeptIn rules again (got 1 1 4 1)
second_kept = inr (inl refl)

first_undone : IsKeptIn rules again (got 1 1 2 1) → ⊥
first_undone (inl e) = let f = ap (λ (x : Event). x.role) e in omega (arith, f)
first_undone (inr (inl e)) = let f = ap (λ (x : Event). x.stamp) e in omega (arith, f)
first_undone (inr (inr i)) = i

-- the message was received twice
first_message : IsMessage net again 0 1
first_message = record { sent = sent 0 1 1; got = got 1 1 2 1; send_at = refl; recv_at = refl; sender = refl; stamp = refl }

second_message : IsMessage net again 0 4
second_message = record { sent = sent 0 1 1; got = got 1 1 4 1; send_at = refl; recv_at = refl; sender = refl; stamp = refl }

one_at_1 : HasOneSend net again 1 (got 1 1 2 1)
one_at_1 = one_send rules again again_legal 1 (got 1 1 2 1) refl

one_at_4 : HasOneSend net again 4 (got 1 1 4 1)
one_at_4 = one_send rules again again_legal 4 (got 1 1 4 1) refl

-- so these are its arrows
to_2 : AreArrowsTo net again 2 (arrow 0 1 ∷ [])
to_2 = arrows_own net again 1 0 [] (arrows_other net again 0 [] (no_arrows net again [] refl) (λ e at. let f : send 0 1 1 ≡ Recv e = some_same at in cc)) first_message (λ other o. one_at_1.only other o ∙ sym (one_at_1.only 0 first_message))

to_4 : AreArrowsTo net again 4 (arrow 0 1 ∷ [])
to_4 = arrows_other net again 3 (arrow 0 1 ∷ []) (arrows_other net again 2 (arrow 0 1 ∷ []) to_2 (λ e at. let f : Crash 1 ≡ Recv e = some_same at in cc)) (λ e at. let f : recover 1 3 (1 ∷ replicate 7 0) 1 ≡ Recv e = some_same at in cc)

two_arrows : AreArrows net again (arrow 0 1 ∷ arrow 0 4 ∷ [])
two_arrows = all_arrows net again 5 (arrow 0 1 ∷ arrow 0 4 ∷ []) (omega arith) (arrows_own net again 4 0 (arrow 0 1 ∷ []) to_4 second_message (λ other o. one_at_4.only other o ∙ sym (one_at_4.only 0 second_message)))

-- and not the first alone
not_one_arrow : AreArrows net again (arrow 0 1 ∷ []) → ⊥
not_one_arrow are = go (are.complete 0 4 second_message).0 (are.complete 0 4 second_message).1
  where
    go : (i : ℕ) → slice_get (arrow 0 1 ∷ []) i ≡ Some (arrow 0 4) → ⊥
    go zero at = let f = ap (λ (a : Arrow). a.receive) (some_same at) in omega (arith, f)
    go (suc i) at = cc

-- a Send and a Recv of one point, where the Recv names another Send's stamp, are no message
other_send : IsMessage net several_all 0 9 → ⊥
other_send m =
    let f : send 0 1 1 ≡ Send m.sent = some_same m.send_at in
    let g : recv 1 1 7 6 ≡ Recv m.got = some_same m.recv_at in
    let a : sent 0 1 1 ≡ m.sent = cc in
    let b : got 1 1 7 6 ≡ m.got = cc in
    let p : 1 ≡ m.sent.stamp = ap (λ (x : Event). x.stamp) a in
    let q : 6 ≡ m.got.sent = ap (λ (x : Event). x.sent) b in
    let r = m.stamp in
    omega (arith, p, q, r)

-- stamps grow over a recovery, and an event stands once
over_recovery : 1 < 6
over_recovery = grow workers several_all 0 8 (sent 0 1 1) (sent 0 1 6) several_legal (omega arith) (inl refl) (inl refl) refl

stands_once : (i : ℕ) → slice_get again i ≡ Some (Recv (got 1 1 2 1)) → i ≡ 1
stands_once i at = once rules again i 1 (got 1 1 2 1) again_legal (inr at) (inr refl)
