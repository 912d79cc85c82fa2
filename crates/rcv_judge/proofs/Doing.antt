-- What a role can do next, from how it stands.
use Rattle.std.proofs.Common.{◌≡◌, ◌≢◌, ℕ, ◌<◌, true, false, List, [], ◌∷◌, refl, sym, ◌∙◌, subst, inl, ⊎_elim, arith}
use Rattle.std.specs.Prelude.{◌+◌, max}
use Rattle.std.proofs.lemmas.Bool.{cases_lt}
use Rattle.rcv_tree.specs.declared.event.Event.{Event}
use Rattle.rcv_tree.specs.declared.event.Message.{Message}
use Rattle.rcv_tree.specs.declared.event.Dir.TheVariants.{Got}
use Rattle.rcv_tree.specs.declared.entry.Entry.{Entry}
use Rattle.rcv_tree.specs.declared.entry.Entry.TheVariants.{Send, Recv, Crash, Recover}
use Rattle.rcv_model.specs.Net.{IsIn}
use Rattle.rcv_model.specs.Next.{AreNext, IsNext}
use Rattle.rcv_model.specs.Journal.{place, numbers_at, IsDue, IsFree, MaySend, May, IsLegal}
use Rattle.rcv_model.specs.Final.{IsCrashed, IsActOf, CanAct}
use Rattle.rcv_model.proofs.Numbers.{bounded}
use Rattle.rcv_model.proofs.Same.{one_next}
use Rattle.rcv_theory.specs.Round.{role_of}
use Rattle.rcv_accept.specs.Accepted.{IsAcceptedProtocol}
use Rattle.rcv_session.specs.Session.{roles_of, net_for, rules_of}
use Rattle.rcv_core.specs.Book.{BookView, state_of, in_channel, IsRecoveryOf}
use Rattle.rcv_core.specs.Book as books
use Rattle.rcv_core.proofs.Acting.{can_recv}
use Rattle.rcv_judge.specs.declared.could.Could.TheVariants.{Make, Awaits, Done, AtLimit}
use Rattle.rcv_judge.specs.Could.{NoneMay, IsDoneIn, IsCould, HasSender, IsSendOf}
use Rattle.rcv_judge.proofs.Sends.{form, run, running, done_here}
use Rattle.rcv_judge.proofs.Unique.{one_of_role, two_ends}

module _ (book : BookView) (plain : IsAcceptedProtocol book.setup.protocol) (r : ℕ) where
  pub makes : (e : Entry) → role_of e ≡ r → May (rules_of book.setup) (state_of book) e → IsCould book r (Make e)
  makes e own may = record {
    role = own;
    may = may;
    one = λ d same also. one_of_role (rules_of book.setup) (state_of book) d e (two_ends book.setup plain) (same ∙ sym own) also may;
  }

  pub recovers : (e : Entry) → IsRecoveryOf book r e → IsCould book r (Make e)
  recovers (Recover p c k u) is = makes (Recover p c k u) is.0 is.1
  recovers (Send d) is = absurd is
  recovers (Recv d) is = absurd is
  recovers (Crash p) is = absurd is

  pub acts : (e : Entry) → IsActOf (rules_of book.setup) (state_of book) r e → IsCould book r (Make e)
  acts (Send d) is = makes (Send d) is.0 is.1
  acts (Recv d) is = makes (Recv d) is.0 is.1
  acts (Crash p) is = absurd is
  acts (Recover p c k u) is = absurd is

  pub sends : (e : Event) → IsSendOf book r e → IsCould book r (Make (Send e))
  sends e is = makes (Send e) is.0 is.1

-- a role with next points isn't done
pub not_done : (book : BookView) (r from : ℕ) → HasSender book r from → IsDoneIn book r → ⊥
not_done book r from has done = go has.zs has.next has.some
  where
    go : (zs : List ℕ) → AreNext (net_for book.setup) r (place (state_of book) r) zs → zs ≢ [] → ⊥
    go [] next some = some refl
    go (z ∷ zs) next some = done_here book r z done (next.sound z (inl refl))

-- a role that is neither crashed nor due makes a step or nothing
module _ (book : BookView) (r : ℕ) (calm : IsCrashed (state_of book) r → ⊥) (idle : IsDue (rules_of book.setup) (state_of book) r → ⊥) where
  none_but_steps : ((e : Event) → e.role ≡ r → MaySend (rules_of book.setup) (state_of book) e → ⊥) → ((e : Event) → e.role ≡ r → May (rules_of book.setup) (state_of book) (Recv e) → ⊥) → NoneMay book r
  none_but_steps sends receives (Send e) own may = sends e own may
  none_but_steps sends receives (Recv e) own may = receives e own may
  none_but_steps sends receives (Crash p) own may = idle (subst (IsDue (rules_of book.setup) (state_of book)) own may.1)
  none_but_steps sends receives (Recover p c k u) own may = calm (subst (IsCrashed (state_of book)) own may.crashed)

  pub is_done : IsDoneIn book r → IsCould book r Done
  is_done done = (
    none_but_steps
        (λ e own may. done_here book r e.point done (subst (λ q. IsNext (net_for book.setup) q (place (state_of book) q) e.point) own (may.next.sound e.point may.among)))
        (λ e own may. done_here book r e.point done (subst (λ q. IsNext (net_for book.setup) q (place (state_of book) q) e.point) own (may.own.next.sound e.point may.among))),
    done,
  )

  pub is_at_limit : (from : ℕ) → HasSender book r from → (numbers_at (state_of book).roles r).raw ≡ (rules_of book.setup).limit → IsCould book r AtLimit
  is_at_limit from has at = (
    none_but_steps (λ e own may. below e.role own may.free.below_limit) (λ e own may. below e.role own may.own.free.below_limit),
    not_done book r from has,
    at,
  )
    where
      below : (q : ℕ) → q ≡ r → (numbers_at (state_of book).roles q).raw < (rules_of book.setup).limit → ⊥
      below q own lt = let here = subst (λ t. (numbers_at (state_of book).roles t).raw < (rules_of book.setup).limit) own lt in omega (arith, here, at)

-- below the limit it may make one
pub is_free : (book : BookView) → IsAcceptedProtocol book.setup.protocol → IsLegal (rules_of book.setup) book.entries → (r : ℕ) → r < roles_of book.setup → (IsCrashed (state_of book) r → ⊥) → (IsDue (rules_of book.setup) (state_of book) r → ⊥) → (numbers_at (state_of book).roles r).raw ≢ (rules_of book.setup).limit → IsFree (rules_of book.setup) (state_of book) r
is_free book plain legal r lt calm idle below =
    let most = (bounded (rules_of book.setup) book.entries legal).raw r in
    record {
      declared = lt;
      running = running book plain legal r lt calm;
      not_due = idle;
      below_limit = ⊎_elim (λ less. less) (λ more. absurd (below (omega (arith, most, more)))) (cases_lt (numbers_at (state_of book).roles r).raw (rules_of book.setup).limit);
    }

-- a role that may make a step, receives next and can't, awaits a message
module _ (book : BookView) (plain : IsAcceptedProtocol book.setup.protocol) (legal : IsLegal (rules_of book.setup) book.entries) (r from : ℕ) (free : IsFree (rules_of book.setup) (state_of book) r) (has : HasSender book r from) (other : from ≢ r) (stuck : CanAct (rules_of book.setup) (state_of book) r → ⊥) where
  no_send : (e : Event) → e.role ≡ r → MaySend (rules_of book.setup) (state_of book) e → ⊥
  no_send e own may =
      let next = subst (λ q. AreNext (net_for book.setup) q (place (state_of book) q) may.offered) own may.next in
      let same : may.offered ≡ has.zs = one_next (net_for book.setup) r (place (state_of book) r) may.offered has.zs next has.next in
      other (sym (has.sends e.point (subst (IsIn e.point) same may.among)) ∙ may.sends e.point may.among ∙ own)

  empty : in_channel book from r ≡ []
  empty = go (in_channel book from r) refl
    where
      go : (messages : List Message) → in_channel book from r ≡ messages → in_channel book from r ≡ []
      go [] is = is
      go (m ∷ rest) is = absurd (stuck (Recv (record { role = r; dir = Got; point = m.point; value = m.value; stamp = max (numbers_at (state_of book).roles r).clock m.stamp + 1; sent = m.stamp }), can_recv book.setup (state_of book) r from (max (numbers_at (state_of book).roles r).clock m.stamp + 1) m rest has.zs free (form book plain legal) (run book plain legal) has.next has.some (λ z i. (has.receives other z i, has.sends z i)) is refl))

  some_next : (zs : List ℕ) → AreNext (net_for book.setup) r (place (state_of book) r) zs → zs ≢ [] → (z : ℕ) × books.IsNextOf book r z
  some_next [] next some = absurd (some refl)
  some_next (z ∷ zs) next some = (z, next.sound z (inl refl))

  pub awaits : IsCould book r (Awaits from)
  awaits = (
    none_but_steps book r
        (λ yes. let there : true ≡ false = sym yes.1 ∙ free.running in cc)
        free.not_due
        no_send
        (λ e own may. stuck (Recv e, (own, may))),
    not_done book r from has,
    (λ at. let lt = free.below_limit in omega (arith, lt, at)),
    record {
      some = some_next has.zs has.next has.some;
      receives = λ z n. (has.receives other z (has.next.complete z n), has.sends z (has.next.complete z n));
    },
    empty,
  )
