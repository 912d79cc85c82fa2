-- What may be told to the shorter memory may be told to the longer one and the other way round, and then they are still of one session.
use Prim.Native.Nat.{zero, suc}
use Rattle.std.proofs.Common.{◌≡◌, ℕ, ◌+◌, ◌<◌, max, true, cond, Option, length, List, [], ◌∷◌, ◌++◌, refl, sym, ◌∙◌, ap, subst, inl, inr, arith}
use Rattle.std.specs.Prelude.{◌↔◌, slice_get, slice_index, slice_set}
use Rattle.std.specs.List.{range_with_len}
use Rattle.rcv_tree.specs.Bits.{has_bit, is_listed}
use Rattle.rcv_tree.specs.declared.event.Event.{Event}
use Rattle.rcv_tree.specs.declared.numbers.Numbers.{Numbers}
use Rattle.rcv_tree.specs.declared.entry.Entry.{Entry}
use Rattle.rcv_tree.specs.declared.entry.Entry.TheVariants.{Send, Recv, Crash, Recover}
use Rattle.rcv_tree.specs.declared.role.RoleSet.{RoleSet}
use Rattle.rcv_model.specs.Net.{Net, IsIn}
use Rattle.rcv_model.specs.Run.{IsQueued}
use Rattle.rcv_model.specs.Next.{IsNext}
use Rattle.rcv_model.specs.Table.{start_of, IsConcernedByAny}
use Rattle.rcv_model.specs.Journal.{numbers_at, advanced, failed, map_roles, numbers_behind}
use Rattle.rcv_model.proofs.NextLists.{of_filter}
use Rattle.rcv_model.proofs.Scanning.{among, is_member}
use Rattle.rcv_model.proofs.Steps.{send_queued, recv_queued}
use Rattle.rcv_told.specs.Told.{Terms, Remembered, state_of, down_of, Standpoint, standpoint, IsSend, IsRecv, group_of, made_of, held_of, left_at, roles_in, HasFailed, MayBeTold, after_event, after_crash, after_recovery, told_after, told_from, IsToldFrom}
use Rattle.rcv_told.specs.Forgetting.{IsShorter, LosesNothingForgotten, MayBeToldAbove, AreToldAbove}
use Rattle.rcv_told.proofs.Memories.{same_place}
use Rattle.rcv_told.proofs.Channels.{channel_same}
use Rattle.rcv_told.proofs.Staying.{with_held, still_shorter, renumbered, event_more}
use Rattle.rcv_told.proofs.Losing.{ReachForgotten, concerned_alike, failed_shorter, made_alike, lost_alike, numbers_alike, starts_alike}

-- Two standpoints that agree.
record Agree (at to : Standpoint) : Type 0 where
  down : to.down ≡ at.down
  place : to.place ≡ at.place
  clock : to.clock ≡ at.clock
  lies : (from : ℕ) → to.lies from ≡ at.lies from

agree_back : (at to : Standpoint) → Agree at to → Agree to at
agree_back at to k = record { down = sym k.down; place = sym k.place; clock = sym k.clock; lies = λ from. sym (k.lies from) }

send_agrees : (net : Net) (at to : Standpoint) (e : Event) → Agree at to → IsSend net at e → IsSend net to e
send_agrees net at to e k x = record {
  up = k.down ∙ x.up;
  next = subst (λ p. IsNext net e.role p e.point) (sym k.place) x.next;
  sends = x.sends;
  is_send = x.is_send;
  stamp = x.stamp ∙ ap (λ c. c + 1) (sym k.clock);
  sent = x.sent;
}

recv_agrees : (net : Net) (at to : Standpoint) (e : Event) → Agree at to → IsRecv net at e → IsRecv net to e
recv_agrees net at to e k x = record {
  up = k.down ∙ x.up;
  next = subst (λ p. IsNext net e.role p e.point) (sym k.place) x.next;
  receives = x.receives;
  is_recv = x.is_recv;
  front = (x.front.0, k.lies (net.sender e.point) ∙ x.front.1);
  stamp = x.stamp ∙ ap (λ c. max c e.sent + 1) (sym k.clock);
}

-- The roles of a set are below 8, and have its bits.
in_range : (a n q : ℕ) → IsIn q (range_with_len a n) → q < a + n
in_range a zero q i = absurd i
in_range a (suc n) q (inl e) = omega (arith, e)
in_range a (suc n) q (inr i) = let r = in_range (a + 1) n q i in omega (arith, r)

in_set : (set : RoleSet) (q : ℕ) → is_listed (roles_in set) q ≡ true → (q < 8) × (has_bit set.0 q ≡ true)
in_set set q t = let i = of_filter (has_bit set.0) q (range_with_len 0 8) (is_member q (roles_in set) t) in (in_range 0 8 q i.0, i.1)

module _ (net : Net) (old new : Remembered) (s : IsShorter net old new) where
  agree : (r : ℕ) → Agree (standpoint net old r) (standpoint net new r)
  agree r = record {
    down = ap (λ l. down_of (slice_get l r)) s.roles;
    place = same_place old new r (s.gone r) (s.lacks r);
    clock = ap (λ l. (numbers_at l r).clock) s.roles;
    lies = λ from. sym (channel_same net old new s from r);
  }

  event_told : (e : Event) → IsQueued net (old.held ++ e ∷ []) → IsQueued net (new.held ++ e ∷ []) → IsShorter net (after_event old e) (after_event new e)
  event_told e old_queued new_queued =
      renumbered net (with_held old (old.held ++ e ∷ [])) (with_held new (new.held ++ e ∷ []))
      (still_shorter net old new s (old.held ++ e ∷ []) (new.held ++ e ∷ []) (λ r. event_more old new e r (s.gone r) (s.lacks r)) old_queued new_queued)
      (more old.roles) (more new.roles) (ap more s.roles)
    where
      more : List Numbers → List Numbers
      more l = slice_set l e.role (advanced (numbers_at l e.role) e.stamp)

  send_told : (e : Event) → IsSend net (standpoint net new e.role) e → IsShorter net (after_event old e) (after_event new e)
  send_told e x = event_told e (send_queued net old.held e s.old_queued x.is_send) (send_queued net new.held e s.new_queued x.is_send)

  recv_told : (e : Event) → IsRecv net (standpoint net new e.role) e → IsShorter net (after_event old e) (after_event new e)
  recv_told e x = event_told e
      (recv_queued net old.held e (net.sender e.point) x.front.0 s.old_queued refl (channel_same net old new s (net.sender e.point) e.role ∙ x.front.1))
      (recv_queued net new.held e (net.sender e.point) x.front.0 s.new_queued refl x.front.1)

  crash_told : (p : ℕ) → IsShorter net (after_crash old p) (after_crash new p)
  crash_told p = renumbered net old new s (fallen old.roles) (fallen new.roles) (ap fallen s.roles)
    where
      fallen : List Numbers → List Numbers
      fallen l = slice_set l p (failed (numbers_at l p))

  recovery_told : (group roles : List ℕ) (counts : ℕ → ℕ) → ReachForgotten new roles counts
      → IsShorter net (after_recovery old group roles (left_at net old roles counts)) (after_recovery new group roles (left_at net new roles counts))
  recovery_told group roles counts above =
      renumbered net (with_held old (left_at net old roles counts)) (with_held new (left_at net new roles counts))
      (failed_shorter net old new s roles counts above)
      (map_roles (numbers_behind (state_of old) group roles (left_at net old roles counts)) 0 old.roles)
      (map_roles (numbers_behind (state_of new) group roles (left_at net new roles counts)) 0 new.roles)
      (numbers_alike net old new s roles counts above group)

-- What is said of a failure of p: whom it concerns, how many events each keeps, and how many are undone.
record Said : Type 0 where
  concerned : RoleSet
  kept : List ℕ
  undone : ℕ

abbrev Fits : Terms → Remembered → ℕ → (ℕ → ℕ) → Said → Type 0
Fits terms m p saved said = HasFailed terms m p saved said.concerned said.kept said.undone

module _ (terms : Terms) (old new : Remembered) (s : IsShorter terms.net old new) (p : ℕ) (saved : ℕ → ℕ) (said : Said) where
  abbrev group : List ℕ
  group = group_of terms p

  abbrev old_starts : ℕ → Option ℕ
  old_starts = start_of (held_of old saved) old.held

  abbrev new_starts : ℕ → Option ℕ
  new_starts = start_of (held_of new saved) new.held

  module _ (above : LosesNothingForgotten terms new p saved) where
    same_starts : (q : ℕ) → IsIn q group → new_starts q ≡ old_starts q
    same_starts q i = starts_alike terms.net old new s group saved above q (among q group i)

    to_old : (q : ℕ) → IsConcernedByAny terms.net group new_starts q → IsConcernedByAny terms.net group old_starts q
    to_old = concerned_alike terms.net group new_starts old_starts same_starts

    to_new : (q : ℕ) → IsConcernedByAny terms.net group old_starts q → IsConcernedByAny terms.net group new_starts q
    to_new = concerned_alike terms.net group old_starts new_starts (λ q i. sym (same_starts q i))

    same_made : (q : ℕ) → made_of new (left_at terms.net new group saved) q ≡ made_of old (left_at terms.net old group saved) q
    same_made = made_alike terms.net old new s group saved above

    same_lost : length (left_at terms.net old group saved) + length new.held ≡ length (left_at terms.net new group saved) + length old.held
    same_lost = lost_alike terms.net old new s group saved above

  of_longer : Fits terms new p saved said → Fits terms old p saved said
  of_longer x = record {
    above = λ q t. let a = x.above q t in let f = (s.lacks q).forgotten in omega (arith, a, f);
    concerned_is = λ q lt. (λ t. to_old x.above q ((x.concerned_is q lt).0 t), λ c. (x.concerned_is q lt).1 (to_new x.above q c));
    eight = x.eight;
    counts = λ q lt. x.counts q lt ∙ ap (λ n. cond {A = ℕ} (has_bit said.concerned.0 q) n 0) (same_made x.above q);
    undone_is = let a = x.undone_is in let l = same_lost x.above in omega (arith, a, l);
  }

  of_shorter : LosesNothingForgotten terms new p saved → Fits terms old p saved said → Fits terms new p saved said
  of_shorter above x = record {
    above = above;
    concerned_is = λ q lt. (λ t. to_new above q ((x.concerned_is q lt).0 t), λ c. (x.concerned_is q lt).1 (to_old above q c));
    eight = x.eight;
    counts = λ q lt. x.counts q lt ∙ ap (λ n. cond {A = ℕ} (has_bit said.concerned.0 q) n 0) (sym (same_made above q));
    undone_is = let a = x.undone_is in let l = same_lost above in omega (arith, a, l);
  }

  -- What a recovery lists of a concerned role reaches what is forgotten.
  lists_enough : Fits terms new p saved said → ReachForgotten new (roles_in said.concerned) (slice_index said.kept)
  lists_enough x q t =
      let i = in_set said.concerned q t in
      let c : slice_index said.kept q ≡ made_of new (left_at terms.net new group saved) q =
      x.counts q i.0 ∙ ap (λ b. cond {A = ℕ} b (made_of new (left_at terms.net new group saved) q) 0) i.1 in
      omega (arith, c)

-- Of one entry: it may be told to both, and then they are still of one session.
abbrev One : Terms → Remembered → Remembered → Entry → Type 0
One terms old new e =
    (MayBeTold terms new e ↔ MayBeToldAbove terms old new e)
    × (MayBeTold terms new e → IsShorter terms.net (told_after terms old e) (told_after terms new e))

pub no_answer : (terms : Terms) (old new : Remembered) (e : Entry) → IsShorter terms.net old new → One terms old new e
no_answer terms old new (Send e) s =
    let at = standpoint terms.net old e.role in
    let to = standpoint terms.net new e.role in
    let k = agree terms.net old new s e.role in
    ((send_agrees terms.net to at e (agree_back at to k), send_agrees terms.net at to e k), send_told terms.net old new s e)
no_answer terms old new (Recv e) s =
    let at = standpoint terms.net old e.role in
    let to = standpoint terms.net new e.role in
    let k = agree terms.net old new s e.role in
    ((recv_agrees terms.net to at e (agree_back at to k), recv_agrees terms.net at to e k), recv_told terms.net old new s e)
no_answer terms old new (Crash p) s =
    ((λ x. ap (λ l. down_of (slice_get l p)) (sym s.roles) ∙ x, λ x. ap (λ l. down_of (slice_get l p)) s.roles ∙ x), λ x. crash_told terms.net old new s p)
no_answer terms old new (Recover p concerned kept undone) s =
    let said : Said = record { concerned = concerned; kept = kept; undone = undone } in (
      (
        λ x. (ap (λ l. down_of (slice_get l p)) (sym s.roles) ∙ x.0, (x.1.0, x.1.1.above, of_longer terms old new s p x.1.0 said x.1.1)),
        λ x. (ap (λ l. down_of (slice_get l p)) s.roles ∙ x.0, (x.1.0, of_shorter terms old new s p x.1.0 said x.1.1 x.1.2)),
      ),
      λ x. recovery_told terms.net old new s (group_of terms p) (roles_in concerned) (slice_index kept) (lists_enough terms old new s p x.1.0 said x.1.1),
    )

-- And of entries one after another.
abbrev Later : Terms → Remembered → Remembered → List Entry → Type 0
Later terms old new entries =
    (IsToldFrom terms new entries ↔ AreToldAbove terms old new entries)
    × (IsToldFrom terms new entries → IsShorter terms.net (told_from terms old entries) (told_from terms new entries))

one_more : (terms : Terms) (old new : Remembered) (e : Entry) (entries : List Entry) → One terms old new e
    → (IsShorter terms.net (told_after terms old e) (told_after terms new e) → Later terms (told_after terms old e) (told_after terms new e) entries)
    → Later terms old new (e ∷ entries)
one_more terms old new e entries one later = (
  (λ x. (one.0.0 x.0, (later (one.1 x.0)).0.0 x.1), λ x. (one.0.1 x.0, (later (one.1 (one.0.1 x.0))).0.1 x.1)),
  λ x. (later (one.1 x.0)).1 x.1,
)

pub no_later_answer : (terms : Terms) (old new : Remembered) (entries : List Entry) → IsShorter terms.net old new → Later terms old new entries
no_later_answer terms old new [] s = ((λ x. x, λ x. x), λ x. s)
no_later_answer terms old new (e ∷ entries) s =
    one_more terms old new e entries (no_answer terms old new e s) (no_later_answer terms (told_after terms old e) (told_after terms new e) entries)
