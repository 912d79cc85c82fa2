-- What a role did, where that leaves it, and what it sends next, whether or not its channel has room.
use Rattle.std.proofs.Common.{◌≡◌, ℕ, zero, suc, ◌+◌, ◌<◌, ◌≤◌, Bool, true, false, ◌==◌, cond, None, Some, List, [], ◌∷◌, ◌++◌, length, get_or, refl, sym, ◌∙◌, ap, subst, ⊎_elim, arith}
use Rattle.std.specs.Prelude.{slice_get, ℤ}
use Rattle.std.specs.List.{cons_option}
use Rattle.std.proofs.lemmas.Bool.{cases_eq}
use Rattle.std.proofs.lemmas.Option.{none-some, same_Some}
use Rattle.rcv_tree.specs.declared.event.Event.{Event}
use Rattle.rcv_tree.specs.declared.event.Dir.TheVariants.{Sent}
use Rattle.rcv_tree.specs.declared.entry.Entry.{Entry}
use Rattle.rcv_model.specs.Net.{IsIn, IsWalk}
use Rattle.rcv_model.specs.Run.{Act, acts, place_of, IsRun}
use Rattle.rcv_model.specs.Next.{IsNext, AreNext, IsPlaceOf, IsProper}
use Rattle.rcv_model.specs.Script.{pick, number_for}
use Rattle.rcv_model.specs.Journal.{State, numbers_at, place, events_of, IsFree, MaySend, IsLegal}
use Rattle.rcv_model.specs.Final.{IsCrashed}
use Rattle.rcv_model.proofs.Choosing.{chosen_in}
use Rattle.rcv_model.proofs.Forms.{proper}
use Rattle.rcv_model.proofs.Legal.{accepted_runs}
use Rattle.rcv_model.proofs.Numbers.{bounded}
use Rattle.rcv_model.proofs.Parts.{cut}
use Rattle.rcv_model.proofs.Same.{one_next}
use Rattle.rcv_model.proofs.Ways.{stands}
use Rattle.rcv_model.proofs.Roles.{place_is, runs}
use Rattle.rcv_accept.specs.Accepted.{IsAcceptedProtocol}
use Rattle.rcv_session.specs.Session.{SessionView, text_of, roles_of, net_for, lines_of, rules_of}
use Rattle.rcv_core.specs.Setup.{vars_by}
use Rattle.rcv_core.specs.Book.{BookView, state_of}
use Rattle.rcv_core.specs.Choices.{AreSent}
use Rattle.rcv_core.proofs.Picking.{nothing, first_in, all_sent}
use Rattle.rcv_judge.specs.Could.{HasSender, IsDoneIn}

-- ---- acts and events

abbrev act : Event → Act
act e = record { dir = e.dir; point = e.point }

act_there : (r : ℕ) (h : List Event) (n : ℕ) (e : Event) → slice_get (events_of r h) n ≡ Some e → slice_get (acts r h) n ≡ Some (act e)
act_there r [] n e at = absurd (none-some e at)
act_there r (x ∷ h) n e at = go (x.role == r) n (λ m. act_there r h m e) at
  where
    go : (b : Bool) (n : ℕ) → ((m : ℕ) → slice_get (events_of r h) m ≡ Some e → slice_get (acts r h) m ≡ Some (act e)) → slice_get (cond b (x ∷ events_of r h) (events_of r h)) n ≡ Some e → slice_get (cons_option (cond b (Some (act x)) None) (acts r h)) n ≡ Some (act e)
    go true zero more at = ap (λ (y : Event). Some (act y)) (same_Some x e at)
    go true (suc m) more at = more m at
    go false n more at = more n at

last_place : (k : ℕ) (done : List Act) (n : ℕ) (a : Act) → suc n ≡ length done → slice_get done n ≡ Some a → place_of k done ≡ a.point
last_place k [] n a size at = absurd (none-some a at)
last_place k (x ∷ []) zero a size at = ap (λ (y : Act). y.point) (same_Some x a at)
last_place k (x ∷ y ∷ done) zero a size at = absurd (omega (arith, size))
last_place k (x ∷ []) (suc n) a size at = absurd (none-some a at)
last_place k (x ∷ y ∷ done) (suc n) a size at = last_place x.point (y ∷ done) n a (omega (arith, size)) at

pub place_there : (s : State) (r n : ℕ) (e : Event) → n + 1 ≡ length (acts r s.kept) → slice_get (events_of r s.kept) n ≡ Some e → place s r ≡ e.point
place_there s r n e size at = place_is s r ∙ last_place 0 (acts r s.kept) n (act e) (omega (arith, size)) (act_there r s.kept n e at)

pub place_at_first : (s : State) (r : ℕ) → 0 ≡ length (acts r s.kept) → place s r ≡ 0
place_at_first s r none = place_is s r ∙ go (acts r s.kept) none
  where
    go : (done : List Act) → 0 ≡ length done → place_of 0 done ≡ 0
    go [] none = refl
    go (a ∷ done) none = absurd (omega (arith, none))

-- ---- a book's roles

module _ (book : BookView) (plain : IsAcceptedProtocol book.setup.protocol) (legal : IsLegal (rules_of book.setup) book.entries) where
  pub form : IsProper (net_for book.setup) (roles_of book.setup)
  form = proper (text_of book.setup) (roles_of book.setup) plain.form

  pub run : IsRun (net_for book.setup) (state_of book).kept
  run = accepted_runs (rules_of book.setup) book.entries form plain.accepted legal book.entries [] (append_nothing book.entries)
    where
      append_nothing : (es : List Entry) → es ++ [] ≡ es
      append_nothing [] = refl
      append_nothing (e ∷ es) = ap (λ xs. e ∷ xs) (append_nothing es)

  pub stands_there : (r : ℕ) → IsPlaceOf (net_for book.setup) r (place (state_of book) r)
  stands_there r =
      let c = cut (net_for book.setup) r 0 run.0 (acts r (state_of book).kept) (run.1.parts r) in
      subst (IsPlaceOf (net_for book.setup) r) (sym (place_is (state_of book) r))
      (subst (λ l. IsPlaceOf (net_for book.setup) r (place_of 0 l)) c.did (stands (net_for book.setup) (roles_of book.setup) r c.front c.back form (subst (IsWalk (net_for book.setup) 0) (sym c.whole) run.1.walk)))

  pub running : (r : ℕ) → r < roles_of book.setup → (IsCrashed (state_of book) r → ⊥) → (numbers_at (state_of book).roles r).crashed ≡ false
  running r lt calm = runs (state_of book) r (subst (λ n. r < n) (sym (bounded (rules_of book.setup) book.entries legal).numbers) lt) calm

-- ---- who sends at a role's next points

-- where a role that is done stands, nothing is next
pub done_here : (book : BookView) (r z : ℕ) → IsDoneIn book r → IsNext (net_for book.setup) r (place (state_of book) r) z → ⊥
done_here book r z done n = done z (subst (λ k. IsNext (net_for book.setup) r k z) (place_is (state_of book) r) n)

module _ (book : BookView) (plain : IsAcceptedProtocol book.setup.protocol) (legal : IsLegal (rules_of book.setup) book.entries) (r : ℕ) (lt : r < roles_of book.setup) (zs : List ℕ) (next : AreNext (net_for book.setup) r (place (state_of book) r) zs) where
  pub done_there : length zs < 1 → IsDoneIn book r
  done_there few z n = subst (IsIn z) (nothing zs few) (next.complete z (subst (λ k. IsNext (net_for book.setup) r k z) (sym (place_is (state_of book) r)) n))

  -- where another role sends at the first of them, each is one to receive from it
  all_receive : (z y : ℕ) → IsIn z zs → IsIn y zs → ((net_for book.setup).sender z ≡ r → ⊥) → ((net_for book.setup).receiver y ≡ r) × ((net_for book.setup).sender y ≡ (net_for book.setup).sender z)
  all_receive z y first i other =
      let stands = stands_there book plain legal r in
      let mine : (net_for book.setup).receiver z ≡ r = ⊎_elim (λ e. absurd (other e)) (λ e. e) (next.sound z first).own in
      let own : (net_for book.setup).receiver y ≡ r = ⊎_elim (λ e. absurd (plain.accepted.unmixed r (place (state_of book) r) y z lt stands (next.sound y i) (next.sound z first) e mine)) (λ e. e) (next.sound y i).own in
      (own, plain.accepted.one_sender r (place (state_of book) r) y z lt stands (next.sound y i) (next.sound z first) own mine)

  pub has_sender : (z from : ℕ) → 1 ≤ length zs → z ≡ get_or zs 0 z → from ≡ (net_for book.setup).sender z → HasSender book r from
  has_sender z from le is from_is = record {
    zs = zs;
    next = next;
    some = λ none. let size = ap length none in absurd (omega (arith, size, le));
    sends = λ y i. ⊎_elim
        (λ own. (all_sent book.setup plain r (place (state_of book) r) lt (stands_there book plain legal r) zs next z le is (sym from_is ∙ own)).sends y i ∙ sym own)
        (λ other. (all_receive z y (first_in zs z le is) i (λ own. other (from_is ∙ own))).1 ∙ sym from_is)
        (cases_eq from r);
    receives = λ other y i. (all_receive z y (first_in zs z le is) i (λ own. other (from_is ∙ own))).0;
  }

-- ---- what a script says, of one session and of the same one

pub pick_told : (a b : SessionView) (r p m n : ℕ) (vars : List ℤ) (offered : List ℕ) → a ≡ b → m ≡ n → p ≡ pick (net_for a) (lines_of a r) vars m offered → p ≡ pick (net_for b) (lines_of b r) vars n offered
pick_told a b r p m n vars offered same attempt is = is ∙ ap (λ (s : SessionView). pick (net_for s) (lines_of s r) vars m offered) same ∙ ap (λ k. pick (net_for b) (lines_of b r) vars k offered) attempt

pub number_told : (a b : SessionView) (r p q m n : ℕ) (value : ℤ) (vars : List ℤ) → a ≡ b → m ≡ n → p ≡ q → value ≡ number_for ((net_for a).label p) (lines_of a r) vars m → value ≡ number_for ((net_for b).label q) (lines_of b r) vars n
number_told a b r p q m n value vars same attempt point is =
    is
    ∙ ap (λ (s : SessionView). number_for ((net_for s).label p) (lines_of s r) vars m) same
    ∙ ap (λ k. number_for ((net_for b).label p) (lines_of b r) vars k) attempt
    ∙ ap (λ k. number_for ((net_for b).label k) (lines_of b r) vars n) point

-- ---- the Send that a role's script chooses

pub are_sent : (book : BookView) (r : ℕ) (offered : List ℕ) → HasSender book r r → AreNext (net_for book.setup) r (place (state_of book) r) offered → AreSent (net_for book.setup) r offered
are_sent book r offered has next =
    let same : has.zs ≡ offered = one_next (net_for book.setup) r (place (state_of book) r) has.zs offered has.next next in
    record {
      some = λ none. has.some (same ∙ none);
      sends = λ z i. has.sends z (subst (IsIn z) (sym same) i);
    }

module _ (setup : SessionView) (s : State) (r : ℕ) (vars : List ℤ) (offered : List ℕ) (vars_is : vars ≡ vars_by setup r (events_of r s.kept)) (next : AreNext (net_for setup) r (place s r) offered) where
  pub pick_in : (p : ℕ) → (offered ≡ [] → ⊥) → p ≡ pick (net_for setup) (lines_of setup r) vars (numbers_at s.roles r).attempt offered → IsIn p offered
  pick_in p some point = subst (λ z. IsIn z offered) (sym (point ∙ ap (λ vs. pick (net_for setup) (lines_of setup r) vs (numbers_at s.roles r).attempt offered) vars_is)) (chosen_in (net_for setup) (lines_of setup) r (events_of r s.kept) (numbers_at s.roles r).attempt offered some)

  pub sends : (point stamp : ℕ) (value : ℤ) → IsFree (rules_of setup) s r → AreSent (net_for setup) r offered → point ≡ pick (net_for setup) (lines_of setup r) vars (numbers_at s.roles r).attempt offered → value ≡ number_for ((net_for setup).label point) (lines_of setup r) vars (numbers_at s.roles r).attempt → stamp ≡ (numbers_at s.roles r).clock + 1
      → MaySend (rules_of setup) s (record { role = r; dir = Sent; point = point; value = value; stamp = stamp; sent = stamp })
  sends point stamp value free sent chosen number clock = record {
    free = free;
    offered = offered;
    next = next;
    sends = sent.sends;
    is_send = refl;
    among = pick_in point sent.some chosen;
    point = chosen ∙ ap (λ vs. pick (net_for setup) (lines_of setup r) vs (numbers_at s.roles r).attempt offered) vars_is;
    value = number ∙ ap (λ vs. number_for ((net_for setup).label point) (lines_of setup r) vs (numbers_at s.roles r).attempt) vars_is;
    stamp = clock;
    sent = refl;
  }

-- ---- the Send that may come is that one

module _ (book : BookView) (e : Event) where
  pub none_to_send : IsDoneIn book e.role → MaySend (rules_of book.setup) (state_of book) e → ⊥
  none_to_send done may = done_here book e.role e.point done (may.next.sound e.point may.among)

  pub not_to_send : (from : ℕ) → HasSender book e.role from → (from ≡ e.role → ⊥) → MaySend (rules_of book.setup) (state_of book) e → ⊥
  not_to_send from has other may =
      let same : may.offered ≡ has.zs = one_next (net_for book.setup) e.role (place (state_of book) e.role) may.offered has.zs may.next has.next in
      other (sym (has.sends e.point (subst (IsIn e.point) same may.among)) ∙ may.sends e.point may.among)
