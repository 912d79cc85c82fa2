-- A journal of a message whose Recv is undone, and a crash: what tells of it, and what doesn't.
use Rattle.std.proofs.Common.{◌≡◌, true, false, List, [], ◌∷◌, refl, ap, inl, ⊎_elim, arith}
use Rattle.std.specs.Prelude.{pos}
use Rattle.std.proofs.lemmas.List.Elements.{All-nil, All-cons}
use Rattle.rcv_tree.specs.declared.event.Event.{Event}
use Rattle.rcv_tree.specs.declared.event.Dir.TheVariants.{Sent, Got}
use Rattle.rcv_tree.specs.declared.entry.Entry.{Entry}
use Rattle.rcv_tree.specs.declared.entry.Entry.TheVariants.{Send, Recv, Crash}
use Rattle.rcv_model.specs.Net.{Net}
use Rattle.rcv_picture.specs.declared.group.Counts.{Counts}
use Rattle.rcv_picture.specs.declared.group.Says.{Says}
use Rattle.rcv_picture.specs.declared.group.Says.TheVariants as says
use Rattle.rcv_fates.specs.Fates.{IsAmong, IsMessage, IsUndoneAt}
use Rattle.rcv_rows.specs.Told.{ArePieces, AreApart, AreUndone, AtEnd, Undone, Passed, AreCounts, IsRight, AreRows, IsShown, AreWires}
use Rattle.rcv_rows.proofs.Counting.{same_number}
use Rattle.rcv_fates.proofs.Undoing.{entry_undone}

abbrev net : Net
net = record { count = 1; offers = λ k. []; sender = λ p. 0; receiver = λ p. 1; label = λ p. []; lane = λ p. 0; stage = λ l. 0; begins = λ l. [] }

abbrev sent_event : Event
sent_event = record { role = 0; dir = Sent; point = 1; value = pos 0; stamp = 1; sent = 1 }

abbrev got_event : Event
got_event = record { role = 1; dir = Got; point = 1; value = pos 0; stamp = 2; sent = 1 }

abbrev entries : List Entry
entries = Send sent_event ∷ Recv got_event ∷ Crash 1 ∷ []

abbrev kept : List Event
kept = sent_event ∷ []

-- the Recv is undone, and the Send isn't
recv_gone : IsAmong got_event kept → ⊥
recv_gone i = ⊎_elim (λ (e : got_event ≡ sent_event). let roles : 1 ≡ 0 = ap (λ (x : Event). x.role) e in omega (arith, roles)) (λ (n : ⊥). n) i

send_stays : IsUndoneAt kept entries 0 → ⊥
send_stays at = entry_undone kept entries 0 (Send sent_event) refl at (inl refl)

abbrev folded : Counts
folded = record { sends = 0; receives = 1; crashes = 1; recoveries = 0; undone = 1 }

one_gone : AreUndone kept (Recv got_event ∷ Crash 1 ∷ []) 1
one_gone = Undone recv_gone (Passed (λ u. u) AtEnd)

-- the Send stands alone, and the other two are folded
abbrev rows : List Says
rows = says.Entry 0 false ∷ says.Fold 1 3 folded ∷ []

rows_tell : AreRows kept entries rows
rows_tell = record {
  pieces = (refl, (refl, omega arith, omega arith, refl));
  right = All-cons (IsRight kept entries) (says.Entry 0 false) (says.Fold 1 3 folded ∷ []) ((λ t. absurd (cc)), λ at. absurd (send_stays at))
      (All-cons (IsRight kept entries) (says.Fold 1 3 folded) [] (record { sends = refl; receives = refl; crashes = refl; recoveries = refl; undone = one_gone })
      (All-nil (IsRight kept entries)));
  apart = (refl, tt);
}

-- an entry is left out
left_out : ArePieces 0 3 (says.Entry 0 false ∷ says.Entry 2 false ∷ []) → ⊥
left_out p = omega (arith, p.1.0)

-- an entry is told of twice
told_twice : ArePieces 0 3 (says.Fold 0 2 folded ∷ says.Fold 1 3 folded ∷ []) → ⊥
told_twice p = omega (arith, p.3.0)

-- an undone event is said to be kept
said_kept : IsRight kept entries (says.Entry 1 false) → ⊥
said_kept right = let t : false ≡ true = right.1 (record { entry = Recv got_event; there = refl; undone = recv_gone }) in absurd (cc)

-- an undone event isn't counted
not_counted : AreCounts kept (Recv got_event ∷ Crash 1 ∷ []) (record { sends = 0; receives = 1; crashes = 1; recoveries = 0; undone = 0 }) → ⊥
not_counted are = let same : 0 ≡ 1 = same_number kept (Recv got_event ∷ Crash 1 ∷ []) 0 1 are.undone one_gone in omega (arith, same)

-- two folds stand side by side
side_by_side : AreApart (says.Fold 0 1 folded ∷ says.Fold 1 3 folded ∷ []) → ⊥
side_by_side apart = absurd (cc)

-- the message
message : IsMessage net entries 0 1
message = record { sent = sent_event; got = got_event; send_at = refl; recv_at = refl; sender = refl; stamp = refl }

-- it is to be drawn where its Send is shown
undrawn : AreWires net kept entries (IsShown rows) [] → ⊥
undrawn are = (are.all 0 1 message (inl (false, inl refl))).1

-- once
drawn_twice : AreWires net kept entries (IsShown rows) (says.Arrow 0 1 true ∷ says.Arrow 0 1 true ∷ []) → ⊥
drawn_twice are = are.once.0 (true, inl refl)
