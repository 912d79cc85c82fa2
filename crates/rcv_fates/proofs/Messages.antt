-- Each Recv of a legal journal has one Send.
use Rattle.std.proofs.Common.{◌≡◌, ℕ, zero, suc, ◌<◌, true, Some, List, [], ◌∷◌, length, take, drop, sym, ◌∙◌, ap, subst, inl, inr, ⊎_elim, arith}
use Rattle.std.specs.Prelude.{slice_get}
use Rattle.std.proofs.lemmas.Bool.{cases_lt}
use Rattle.std.proofs.lemmas.Bool.Decides.{nat_tests}
use Rattle.rcv_tree.specs.declared.event.Event.{Event}
use Rattle.rcv_tree.specs.declared.event.Message.{Message}
use Rattle.rcv_tree.specs.declared.event.Dir.TheVariants.{Got}
use Rattle.rcv_tree.specs.declared.entry.Entry.{Entry}
use Rattle.rcv_tree.specs.declared.entry.Entry.TheVariants.{Send, Recv}
use Rattle.rcv_model.specs.Net.{Net}
use Rattle.rcv_model.specs.Run.{is_sent, puts_on, put_by, taken, put}
use Rattle.rcv_model.specs.Journal.{Rules, State, start, MayRecv, May, after, reading_from, reading, IsLegalFrom, IsLegal}
use Rattle.rcv_model.proofs.Keeping.{message_of}
use Rattle.rcv_model.proofs.Lists.{some_same}
use Rattle.rcv_model.proofs.Queues.{From, from_of, put_message, put_by_true}
use Rattle.rcv_fates.specs.Fates.{IsAmong, IsEventAt, IsMessage}
use Rattle.rcv_fates.specs.Laws.{HasOneSend}
use Rattle.rcv_fates.proofs.Clocks.{grow}
use Rattle.rcv_fates.proofs.Keeping.{among_here, stands}

-- the entry at a place might come behind those before it
may_from : (rules : Rules) (s : State) (journal : List Entry) (t : ℕ) (x : Entry) → IsLegalFrom rules s journal → slice_get journal t ≡ Some x → May rules (reading_from rules s (take t journal)) x
may_from rules s [] t x legal at = absurd (cc)
may_from rules s (y ∷ journal) zero x legal at = subst (May rules s) (some_same at) legal.0
may_from rules s (y ∷ journal) (suc t) x legal at = may_from rules (after rules s y) journal t x legal.1 at

pub may_at : (rules : Rules) (journal : List Entry) (t : ℕ) (x : Entry) → IsLegal rules journal → slice_get journal t ≡ Some x → May rules (reading rules (take t journal)) x
may_at rules journal t x legal at = may_from rules (start rules.roles) journal t x legal at

-- an item of a beginning stands in the whole
pub within : (t : ℕ) (xs : List Entry) (i : ℕ) (x : Entry) → slice_get (take t xs) i ≡ Some x → (i < t) × (slice_get xs i ≡ Some x)
within zero xs i x e = absurd (cc)
within (suc t) [] i x e = absurd (cc)
within (suc t) (y ∷ xs) zero x e = (omega arith, e)
within (suc t) (y ∷ xs) (suc i) x e = let r = within t xs i x e in (omega (arith, r.0), r.1)

-- what is in front behind the first n stands at n
pub front_at : {A : Type 0} (n : ℕ) (xs rest : List A) (m : A) → drop n xs ≡ m ∷ rest → slice_get xs n ≡ Some m
front_at zero [] rest m e = absurd (cc)
front_at zero (x ∷ xs) rest m e = let f : x ≡ m = cc in ap Some f
front_at (suc n) [] rest m e = absurd (cc)
front_at (suc n) (x ∷ xs) rest m e = front_at n xs rest m e

pub is_send : (net : Net) (s r : ℕ) (e : Event) → puts_on net s r e ≡ true → (is_sent e.dir ≡ true) × (e.role ≡ s)
is_send net s r e f = (grind (arith, nat_tests), grind (arith, nat_tests))

pub not_got : (e : Event) → e.dir ≡ Got → is_sent e.dir ≡ true → ⊥
not_got e k t = let a = ap is_sent k in cc

-- one Recv stands at a place
pub one_got : (journal : List Entry) (t : ℕ) (d e : Event) → slice_get journal t ≡ Some (Recv d) → slice_get journal t ≡ Some (Recv e) → d ≡ e
one_got journal t d e f g = let h : Recv d ≡ Recv e = some_same (sym f ∙ g) in cc

module _ (rules : Rules) (journal : List Entry) (legal : IsLegal rules journal) (t : ℕ) (got : Event) (at : slice_get journal t ≡ Some (Recv got)) where
  may : MayRecv rules (reading rules (take t journal)) got
  may = may_at rules journal t (Recv got) legal at

  kept : List Event
  kept = (reading rules (take t journal)).kept

  origin : From (put_by rules.net may.own.from got.role) kept (length (taken rules.net may.own.from got.role kept)) (message_of got)
  unfolding kept
  origin = from_of (put_by rules.net may.own.from got.role) kept (length (taken rules.net may.own.from got.role kept)) (message_of got) (front_at (length (taken rules.net may.own.from got.role kept)) (put rules.net may.own.from got.role kept) may.front.0 (message_of got) may.front.1)

  gives : (puts_on rules.net may.own.from got.role origin.item ≡ true) × (put_message origin.item ≡ message_of got)
  gives = put_by_true rules.net may.own.from got.role origin.item (message_of got) origin.gives

  kind : (is_sent origin.item.dir ≡ true) × (origin.item.role ≡ may.own.from)
  kind = is_send rules.net may.own.from got.role origin.item gives.0

  there : (i : ℕ) × IsEventAt (take t journal) i origin.item
  unfolding kept
  there = stands rules (take t journal) origin.item (subst (IsAmong origin.item) origin.whole (among_here origin.front origin.back origin.item))

  place : (there.0 < t) × (slice_get journal there.0 ≡ Some (Send origin.item))
  place = go there.1
    where
      go : IsEventAt (take t journal) there.0 origin.item → (there.0 < t) × (slice_get journal there.0 ≡ Some (Send origin.item))
      go (inl f) = within t journal there.0 (Send origin.item) f
      go (inr f) =
          let w = within t journal there.0 (Recv origin.item) f in
          let m : MayRecv rules (reading rules (take there.0 journal)) origin.item = may_at rules journal there.0 (Recv origin.item) legal w.1 in
          absurd (not_got origin.item m.own.is_recv kind.0)

  message : IsMessage rules.net journal there.0 t
  message = record { sent = origin.item; got = got; send_at = place.1; recv_at = at; sender = kind.1 ∙ sym (may.own.receives got.point may.among).1; stamp = ap (λ (m : Message). m.stamp) gives.1 }

  only : (s : ℕ) → IsMessage rules.net journal s t → s ≡ there.0
  unfolding message
  only s m = ⊎_elim
      (λ lt. absurd (let a = grow rules journal s there.0 m.sent origin.item legal lt (inl m.send_at) (inl place.1) role in omega (arith, a, stamp)))
      (λ le. ⊎_elim
      (λ lt. absurd (let a = grow rules journal there.0 s origin.item m.sent legal lt (inl place.1) (inl m.send_at) (sym role) in omega (arith, a, stamp)))
      (λ same. omega (arith, same, le))
      (cases_lt there.0 s))
      (cases_lt s there.0)
    where
      g : m.got ≡ got
      g = one_got journal t m.got got m.recv_at at

      role : m.sent.role ≡ origin.item.role
      role = m.sender ∙ ap (λ (e : Event). rules.net.sender e.point) g ∙ sym message.sender

      stamp : m.sent.stamp ≡ origin.item.stamp
      stamp = m.stamp ∙ ap (λ (e : Event). e.sent) g ∙ sym message.stamp

  pub one_send : HasOneSend rules.net journal t got
  unfolding message origin
  one_send = record { s = there.0; message = message; before = place.0; point = ap (λ (m : Message). m.point) gives.1; value = ap (λ (m : Message). m.value) gives.1; only = only }
