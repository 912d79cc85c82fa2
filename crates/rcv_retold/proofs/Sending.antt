-- Each Recv of a told journal has one Send; and each event that is held stands among the entries.
use Rattle.std.proofs.Common.{◌≡◌, ℕ, zero, suc, ◌<◌, true, Some, List, [], ◌∷◌, length, take, refl, sym, ◌∙◌, ap, subst, inl, inr, ⊎_elim, ◌⊎◌, arith}
use Rattle.std.specs.Prelude.{slice_get, slice_index}
use Rattle.std.proofs.lemmas.Bool.{cases_lt}
use Rattle.rcv_tree.specs.declared.event.Event.{Event}
use Rattle.rcv_tree.specs.declared.event.Message.{Message}
use Rattle.rcv_tree.specs.declared.entry.Entry.{Entry}
use Rattle.rcv_tree.specs.declared.entry.Entry.TheVariants.{Send, Recv, Crash, Recover}
use Rattle.rcv_model.specs.Run.{is_sent, puts_on, put_by, taken, put}
use Rattle.rcv_model.proofs.Keeping.{message_of}
use Rattle.rcv_model.proofs.Lists.{some_same}
use Rattle.rcv_model.proofs.Queues.{From, from_of, put_message, put_by_true}
use Rattle.rcv_told.specs.Told.{Terms, Remembered, nothing_told, bound_at, roles_in, IsRecv, standpoint, MayBeTold, told_after, told_from, told, IsToldFrom, IsTold}
use Rattle.rcv_fates.specs.Fates.{IsAmong, IsEventAt, IsMessage}
use Rattle.rcv_fates.specs.Laws.{HasOneSend}
use Rattle.rcv_fates.proofs.Keeping.{among_here, AllAre, all_less, all_more, kept_keeps}
use Rattle.rcv_fates.proofs.Messages.{within, front_at, is_send, not_got, one_got}
use Rattle.rcv_retold.proofs.Growing.{told_grow}

module _ (terms : Terms) (Q : Event → Type 0) where
  pub all_after : (m : Remembered) (x : Entry) → ((e : Event) → (x ≡ Send e) ⊎ (x ≡ Recv e) → Q e) → AllAre Q m.held → AllAre Q (told_after terms m x).held
  all_after m (Send e) new all = all_more Q m.held e all (new e (inl refl))
  all_after m (Recv e) new all = all_more Q m.held e all (new e (inr refl))
  all_after m (Crash p) new all = all
  all_after m (Recover p concerned kept undone) new all =
      kept_keeps (AllAre Q) (all_less Q) terms.net (bound_at m (roles_in concerned) (slice_index kept)) (record { events = []; stopped = [] }) m.held all

  -- what holds of the events of all entries holds of those that are held
  all_from : (m : Remembered) (journal : List Entry) → ((i : ℕ) (e : Event) → IsEventAt journal i e → Q e) → AllAre Q m.held → AllAre Q (told_from terms m journal).held
  all_from m [] new all = all
  all_from m (x ∷ journal) new all = all_from (told_after terms m x) journal (λ i e at. new (suc i) e at) (all_after m x (λ e f. new 0 e (⊎_elim (λ g. inl (ap Some g)) (λ g. inr (ap Some g)) f)) all)

-- each event that is held stands among the entries
pub told_stands : (terms : Terms) (journal : List Entry) (e : Event) → IsAmong e (told terms journal).held → (i : ℕ) × IsEventAt journal i e
told_stands terms journal = all_from terms (λ e. (i : ℕ) × IsEventAt journal i e) (nothing_told terms.roles) journal (λ i e at. (i, at)) (λ e i. absurd i)

-- the entry at a place might be told behind those before it
told_at_from : (terms : Terms) (m : Remembered) (journal : List Entry) (t : ℕ) (x : Entry) → IsToldFrom terms m journal → slice_get journal t ≡ Some x → MayBeTold terms (told_from terms m (take t journal)) x
told_at_from terms m [] t x told at = absurd (cc)
told_at_from terms m (y ∷ journal) zero x told at = subst (MayBeTold terms m) (some_same at) told.0
told_at_from terms m (y ∷ journal) (suc t) x told at = told_at_from terms (told_after terms m y) journal t x told.1 at

pub told_at : (terms : Terms) (journal : List Entry) (t : ℕ) (x : Entry) → IsTold terms journal → slice_get journal t ≡ Some x → MayBeTold terms (told terms (take t journal)) x
told_at terms journal t x is at = told_at_from terms (nothing_told terms.roles) journal t x is at

module _ (terms : Terms) (journal : List Entry) (is : IsTold terms journal) (t : ℕ) (got : Event) (at : slice_get journal t ≡ Some (Recv got)) where
  may : IsRecv terms.net (standpoint terms.net (told terms (take t journal)) got.role) got
  may = told_at terms journal t (Recv got) is at

  from : ℕ
  from = terms.net.sender got.point

  held : List Event
  held = (told terms (take t journal)).held

  origin : From (put_by terms.net from got.role) held (length (taken terms.net from got.role held)) (message_of got)
  unfolding held from
  origin = from_of (put_by terms.net from got.role) held (length (taken terms.net from got.role held)) (message_of got) (front_at (length (taken terms.net from got.role held)) (put terms.net from got.role held) may.front.0 (message_of got) may.front.1)

  gives : (puts_on terms.net from got.role origin.item ≡ true) × (put_message origin.item ≡ message_of got)
  gives = put_by_true terms.net from got.role origin.item (message_of got) origin.gives

  kind : (is_sent origin.item.dir ≡ true) × (origin.item.role ≡ from)
  kind = is_send terms.net from got.role origin.item gives.0

  there : (i : ℕ) × IsEventAt (take t journal) i origin.item
  unfolding held
  there = told_stands terms (take t journal) origin.item (subst (IsAmong origin.item) origin.whole (among_here origin.front origin.back origin.item))

  place : (there.0 < t) × (slice_get journal there.0 ≡ Some (Send origin.item))
  place = go there.1
    where
      go : IsEventAt (take t journal) there.0 origin.item → (there.0 < t) × (slice_get journal there.0 ≡ Some (Send origin.item))
      go (inl f) = within t journal there.0 (Send origin.item) f
      go (inr f) =
          let w = within t journal there.0 (Recv origin.item) f in
          let m : IsRecv terms.net (standpoint terms.net (told terms (take there.0 journal)) origin.item.role) origin.item = told_at terms journal there.0 (Recv origin.item) is w.1 in
          absurd (not_got origin.item m.is_recv kind.0)

  message : IsMessage terms.net journal there.0 t
  unfolding from
  message = record { sent = origin.item; got = got; send_at = place.1; recv_at = at; sender = kind.1; stamp = ap (λ (m : Message). m.stamp) gives.1 }

  only : (s : ℕ) → IsMessage terms.net journal s t → s ≡ there.0
  unfolding message
  only s m = ⊎_elim
      (λ lt. absurd (let a = told_grow terms journal s there.0 m.sent origin.item is lt (inl m.send_at) (inl place.1) role in omega (arith, a, stamp)))
      (λ le. ⊎_elim
      (λ lt. absurd (let a = told_grow terms journal there.0 s origin.item m.sent is lt (inl place.1) (inl m.send_at) (sym role) in omega (arith, a, stamp)))
      (λ same. omega (arith, same, le))
      (cases_lt there.0 s))
      (cases_lt s there.0)
    where
      g : m.got ≡ got
      g = one_got journal t m.got got m.recv_at at

      role : m.sent.role ≡ origin.item.role
      role = m.sender ∙ ap (λ (e : Event). terms.net.sender e.point) g ∙ sym message.sender

      stamp : m.sent.stamp ≡ origin.item.stamp
      stamp = m.stamp ∙ ap (λ (e : Event). e.sent) g ∙ sym message.stamp

  pub told_one_send : HasOneSend terms.net journal t got
  unfolding message origin from
  told_one_send = record { s = there.0; message = message; before = place.0; point = ap (λ (m : Message). m.point) gives.1; value = ap (λ (m : Message). m.value) gives.1; only = only }
