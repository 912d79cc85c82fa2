-- A session with a choice, its shorter memory that keeps a message in flight, and a failure behind it; and memories that forget
-- too much.
use Prim.Native.Nat.{zero, suc}
use Rattle.std.proofs.Common.{◌≡◌, ℕ, ◌+◌, ◌<◌, ◌≤◌, true, cond, Option, Some, None, List, [], ◌∷◌, length, replicate, refl, sym, ◌∙◌, ap, inl, inr, arith, length-append, ne_eqb}
use Rattle.std.specs.Prelude.{pos, if◌then◌else◌, slice_index}
use Rattle.std.specs.List.{cons_option}
use Rattle.rcv_tree.specs.Bits.{has_bit, is_listed}
use Rattle.rcv_tree.specs.declared.event.Event.{Event}
use Rattle.rcv_tree.specs.declared.event.Message.{Message}
use Rattle.rcv_tree.specs.declared.entry.Entry.{Entry}
use Rattle.rcv_tree.specs.declared.entry.Entry.TheVariants.{Crash}
use Rattle.rcv_model.specs.Text.{Body, End, Single, Choose, NoMore, Or}
use Rattle.rcv_model.specs.Places.{net_of}
use Rattle.rcv_model.specs.Run.{put, taken, IsQueued}
use Rattle.rcv_model.specs.Journal.{events_of}
use Rattle.rcv_model.specs.Next.{IsProper}
use Rattle.rcv_model.specs.Table.{start_of, concerned_by_any}
use Rattle.rcv_model.proofs.Cases.{sent, got, send, recv, recover}
use Rattle.rcv_model.proofs.Checked.{next_by}
use Rattle.rcv_model.proofs.Concerned.{listed_concerned}
use Rattle.rcv_model.proofs.Forms.{proper}
use Rattle.rcv_model.proofs.Journals.{below_8}
use Rattle.rcv_model.proofs.Keeping.{queued_nil}
use Rattle.rcv_model.proofs.OneLane.{one_lane, one_ends}
use Rattle.rcv_model.proofs.Roles.{up}
use Rattle.rcv_model.proofs.Scanning.{among, is_member}
use Rattle.rcv_model.proofs.Steps.{send_queued, recv_queued}
use Rattle.rcv_told.specs.Told.{Terms, Remembered, held_of, made_of, left_at, HasFailed, told_after, told_from, told, IsToldFrom}
use Rattle.rcv_told.specs.Forgetting.{seeds_of, Lacks, lacked, LacksMessages, IsShorter, AreToldAbove}
use Rattle.rcv_told.proofs.Remembering.{no_later_answer}

-- a from A to B; choice at A { b from A to B; } or { c from A to B; } d from B to A;
abbrev asked : Body
asked =
    Single (97 ∷ []) [] 0 1 1
    (Choose 0 (Or (Single (98 ∷ []) [] 0 1 2 End) (Or (Single (99 ∷ []) [] 0 1 3 End) NoMore)) (Single (100 ∷ []) [] 1 0 4 End))

abbrev terms : Terms
terms = record { net = net_of asked; roles = 2; host = λ r. [] }

-- A sends the first message, which B receives, and then c, which is in flight.
abbrev first_entries : List Entry
first_entries = send 0 1 1 ∷ recv 1 1 2 1 ∷ send 0 3 2 ∷ []

abbrev longer : Remembered
longer =
    record {
      held = sent 0 1 1 ∷ got 1 1 2 1 ∷ sent 0 3 2 ∷ [];
      seeds = 0 ∷ 0 ∷ [];
      forgotten = 0 ∷ 0 ∷ [];
      points = 0 ∷ 0 ∷ [];
      roles = up 2 0 0 2 ∷ up 1 0 0 2 ∷ [];
    }

all_told : told terms first_entries ≡ longer
all_told = refl

-- All of it is forgotten, but for the message in flight.
abbrev shorter : Remembered
shorter = record longer { held = sent 0 3 2 ∷ []; seeds = 1 ∷ 0 ∷ []; forgotten = 2 ∷ 1 ∷ []; points = 3 ∷ 1 ∷ [] }

abbrev gone : ℕ → ℕ
gone r = slice_index shorter.forgotten r

abbrev first_message : Message
first_message = record { point = 1; value = pos 0; stamp = 1 }

-- There are no other roles than 0 and 1.
passed : (r : ℕ) (e : Event) (h : List Event) → (e.role ≡ r → ⊥) → events_of r h ≡ [] → events_of r (e ∷ h) ≡ []
passed r e h n rest = ap (λ b. cond b (e ∷ events_of r h) (events_of r h)) (ne_eqb e.role r n) ∙ rest

none_longer : (r : ℕ) → events_of (suc (suc r)) longer.held ≡ []
none_longer r =
    passed (suc (suc r)) (sent 0 1 1) (got 1 1 2 1 ∷ sent 0 3 2 ∷ []) (λ e. omega (arith, e))
    (passed (suc (suc r)) (got 1 1 2 1) (sent 0 3 2 ∷ []) (λ e. omega (arith, e)) (passed (suc (suc r)) (sent 0 3 2) [] (λ e. omega (arith, e)) refl))

none_shorter : (r : ℕ) → events_of (suc (suc r)) shorter.held ≡ []
none_shorter r = passed (suc (suc r)) (sent 0 3 2) [] (λ e. omega (arith, e)) refl

none_to : (b : ℕ) → put terms.net 0 (suc (suc b)) (sent 0 1 1 ∷ sent 0 3 2 ∷ []) ≡ put terms.net 0 (suc (suc b)) (sent 0 3 2 ∷ [])
none_to b =
    ap (λ t. cons_option (cond t (Some first_message) None) (put terms.net 0 (suc (suc b)) (sent 0 3 2 ∷ [])))
    (ne_eqb 1 (suc (suc b)) (λ e. omega (arith, e)))

none_from : (a : ℕ) → taken terms.net (suc (suc a)) 1 (got 1 1 2 1 ∷ []) ≡ []
none_from a = ap (λ t. cons_option (cond t (Some first_message) None) []) (ne_eqb 0 (suc (suc a)) (λ e. omega (arith, e)))

lacks : (r : ℕ) → Lacks longer shorter r (gone r)
lacks zero = record { enough = omega arith; forgotten = refl; since_is = refl; point = refl; old_seeds = omega arith; new_seeds = omega arith }
lacks (suc zero) = record { enough = omega arith; forgotten = refl; since_is = refl; point = refl; old_seeds = omega arith; new_seeds = omega arith }
lacks (suc (suc r)) = record {
  enough = omega arith;
  forgotten = refl;
  since_is = none_shorter r ∙ sym (none_longer r);
  point = refl;
  old_seeds = omega arith;
  new_seeds = omega arith;
}

lacks_messages : (a b : ℕ) → LacksMessages terms.net longer shorter gone a b
lacks_messages zero (suc zero) = record { received = first_message ∷ []; sent_is = refl; received_is = refl; seeds_are = refl }
lacks_messages zero zero = record { received = []; sent_is = refl; received_is = refl; seeds_are = refl }
lacks_messages zero (suc (suc b)) = record { received = []; sent_is = none_to b; received_is = refl; seeds_are = refl }
lacks_messages (suc zero) zero = record { received = []; sent_is = refl; received_is = refl; seeds_are = refl }
lacks_messages (suc zero) (suc zero) = record { received = []; sent_is = refl; received_is = refl; seeds_are = refl }
lacks_messages (suc zero) (suc (suc b)) = record { received = []; sent_is = refl; received_is = refl; seeds_are = refl }
lacks_messages (suc (suc a)) zero = record { received = []; sent_is = refl; received_is = refl; seeds_are = refl }
lacks_messages (suc (suc a)) (suc zero) = record { received = []; sent_is = refl; received_is = none_from a; seeds_are = refl }
lacks_messages (suc (suc a)) (suc (suc b)) = record { received = []; sent_is = refl; received_is = refl; seeds_are = refl }

longer_queued : IsQueued terms.net longer.held
longer_queued =
    let one = send_queued terms.net [] (sent 0 1 1) (queued_nil terms.net) refl in
    let two = recv_queued terms.net (sent 0 1 1 ∷ []) (got 1 1 2 1) 0 [] one refl refl in
    send_queued terms.net (sent 0 1 1 ∷ got 1 1 2 1 ∷ []) (sent 0 3 2) two refl

is_shorter : IsShorter terms.net longer shorter
is_shorter = record {
  gone = gone;
  lacks = lacks;
  messages = lacks_messages;
  old_queued = longer_queued;
  new_queued = send_queued terms.net [] (sent 0 3 2) (queued_nil terms.net) refl;
  roles = refl;
}

-- Later B receives c and sends d, crashes, and has saved two of its three events.
abbrev later_entries : List Entry
later_entries = recv 1 3 3 2 ∷ send 1 4 4 ∷ Crash 1 ∷ recover 1 3 (2 ∷ 2 ∷ replicate 6 0) 1 ∷ []

-- Both memories are left with the message received, and have the same numbers.
longer_after : told_from terms longer later_entries
    ≡ record longer { held = sent 0 1 1 ∷ got 1 1 2 1 ∷ sent 0 3 2 ∷ got 1 3 3 2 ∷ []; roles = up 2 0 0 5 ∷ up 3 1 1 5 ∷ [] }
longer_after = refl

shorter_after : told_from terms shorter later_entries
    ≡ record shorter { held = sent 0 3 2 ∷ got 1 3 3 2 ∷ []; roles = up 2 0 0 5 ∷ up 3 1 1 5 ∷ [] }
shorter_after = refl

-- These entries may be told to the shorter memory.
abbrev heard : Remembered
heard = told_after terms shorter (recv 1 3 3 2)

abbrev answered : Remembered
answered = told_after terms heard (send 1 4 4)

abbrev crashed : Remembered
crashed = told_after terms answered (Crash 1)

abbrev two_saved : ℕ → ℕ
two_saved q = 2

abbrev starts : ℕ → Option ℕ
starts = start_of (held_of crashed two_saved) crashed.held

asked_proper : IsProper terms.net 2
asked_proper = proper asked 2 (record {
  numbered = (refl, (refl, (refl, (refl, tt))));
  ends = (
    omega arith,
    omega arith,
    (λ e. omega (arith, e)),
    (
      omega arith,
      omega arith,
      (λ e. omega (arith, e)),
      (omega arith, omega arith, (λ e. omega (arith, e)), (omega arith, omega arith, (λ e. omega (arith, e)), tt)),
    ),
  );
  subjects = (omega arith, (tt, (tt, tt)), tt);
  apart = tt;
  few_roles = omega arith;
  few_points = omega arith;
})

failed : HasFailed terms crashed 1 two_saved (record { 0 = 3 }) (2 ∷ 2 ∷ replicate 6 0) 1
failed = record {
  above = above;
  concerned_is = λ q lt.
      let c = listed_concerned terms.net 2 starts asked_proper (one_ends terms.net (one_lane asked tt)) (1 ∷ []) q in
      let s = same q lt in
      (λ t. c.0 (is_member q listed (sym s ∙ t)), λ x. s ∙ among q listed (c.1 x));
  eight = refl;
  counts =
      below_8
      (λ q. slice_index (2 ∷ 2 ∷ replicate 6 0) q ≡ (if has_bit 3 q then made_of crashed (left_at terms.net crashed (1 ∷ []) two_saved) q else 0))
      refl refl refl refl refl refl refl refl;
  undone_is = refl;
}
  where
    above : (q : ℕ) → is_listed (1 ∷ []) q ≡ true → slice_index crashed.forgotten q ≤ 2
    above zero t = omega arith
    above (suc zero) t = omega arith
    above (suc (suc q)) t = omega arith

    listed : List ℕ
    listed = concerned_by_any terms.net 2 (1 ∷ []) starts

    same : (q : ℕ) → q < 8 → has_bit 3 q ≡ is_listed listed q
    same = below_8 (λ q. has_bit 3 q ≡ is_listed listed q) refl refl refl refl refl refl refl refl

may_be_told : IsToldFrom terms shorter later_entries
may_be_told = (
  record {
    up = refl;
    next = (next_by terms.net (one_lane asked tt) 1 1 refl).sound 3 (inr (inl refl));
    receives = refl;
    is_recv = refl;
    front = ([], refl);
    stamp = refl;
  },
  (
    record { up = refl; next = (next_by terms.net (one_lane asked tt) 1 3 refl).sound 4 (inl refl); sends = refl; is_send = refl; stamp = refl; sent = refl },
    (refl, ((refl, (two_saved, failed)), tt)),
  ),
)

-- So they may be told to the longer one, and leave memories of one session.
later_told : AreToldAbove terms longer shorter later_entries
later_told = (no_later_answer terms longer shorter later_entries is_shorter).0.0 may_be_told

later_shorter : IsShorter terms.net (told_from terms longer later_entries) (told_from terms shorter later_entries)
later_shorter = (no_later_answer terms longer shorter later_entries is_shorter).1 may_be_told

-- Who forgets the message in flight too, or a message as received without having forgotten it as sent, doesn't have the
-- shorter memory of this session.
abbrev without_message : Remembered
without_message = record shorter { held = []; seeds = 0 ∷ 0 ∷ [] }

abbrev without_send : Remembered
without_send = record longer { held = sent 0 1 1 ∷ sent 0 3 2 ∷ []; forgotten = 0 ∷ 1 ∷ []; points = 0 ∷ 1 ∷ [] }

-- What the messages of a channel say of two counts.
counts_agree : (new : Remembered) (m n : ℕ) (s : IsShorter terms.net longer new) → s.gone 0 ≡ m → s.gone 1 ≡ n
    → length (put terms.net 0 1 (lacked longer 0 m)) ≡ length (taken terms.net 0 1 (lacked longer 1 n)) + length (put terms.net 0 1 (seeds_of new 0))
counts_agree new m n s e f =
    let ms = s.messages 0 1 in
    let a = ap length ms.sent_is in
    let b = ap length ms.received_is in
    let c = ap (λ k. length (put terms.net 0 1 (lacked longer 0 k))) e in
    let d = ap (λ k. length (taken terms.net 0 1 (lacked longer 1 k))) f in
    omega (arith, a, b, c, d, length-append ms.received (put terms.net 0 1 (seeds_of new 0)))

not_without_message : IsShorter terms.net longer without_message → ⊥
not_without_message s =
    let e : 2 ≡ 0 + s.gone 0 = (s.lacks 0).forgotten in
    let f : 1 ≡ 0 + s.gone 1 = (s.lacks 1).forgotten in
    let c : 2 ≡ 1 + 0 = counts_agree without_message 2 1 s (omega (arith, e)) (omega (arith, f)) in
    omega (arith, c)

not_without_send : IsShorter terms.net longer without_send → ⊥
not_without_send s =
    let e : 0 ≡ 0 + s.gone 0 = (s.lacks 0).forgotten in
    let f : 1 ≡ 0 + s.gone 1 = (s.lacks 1).forgotten in
    let c : 0 ≡ 1 + 0 = counts_agree without_send 0 1 s (omega (arith, e)) (omega (arith, f)) in
    omega (arith, c)
