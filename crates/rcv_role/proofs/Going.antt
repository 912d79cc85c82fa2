-- A cell goes on entry by entry, and one step behind another.
use Rattle.std.proofs.Common.{◌≡◌, ℕ, ◌+◌, ◌<◌, ◌≤◌, List, [], ◌∷◌, ◌++◌, length, refl, sym, ◌∙◌, ap, subst, arith, append_assoc, append-nil}
use Rattle.rcv_tree.specs.declared.entry.Entry.{Entry}
use Rattle.rcv_tree.specs.declared.entry.Entry.TheVariants.{Crash}
use Rattle.rcv_tree.specs.declared.entry.Timed.{Timed}
use Rattle.rcv_tree.specs.declared.event.Event.{Event}
use Rattle.rcv_tree.specs.declared.event.Dir.TheVariants.{Sent, Got}
use Rattle.rcv_model.specs.Journal.{Rules, Own, MayOwnSend, MayOwnRecv, own_place, own_event, own_after}
use Rattle.rcv_model.proofs.Same.{one_next}
use Rattle.rcv_theory.specs.Own.{IsOwnLog, own_through}
use Rattle.rcv_session.specs.Session.{SessionView, roles_of, net_for, rules_of}
use Rattle.rcv_mailbox.specs.Ends.{End, IsChannel}
use Rattle.rcv_role.specs.declared.poll.Poll.TheVariants.{Crashed, Done, Tired}
use Rattle.rcv_role.specs.Part.{PartView, Offers, IsBelow, HasNoStrangers, with_crash, entry_by, entry_of_event}
use Rattle.rcv_role.specs.Ends.{end_at, AreEnds}
use Rattle.rcv_role.specs.Cell.{CellView, cell_of, IsSettled, Goes}
use Rattle.rcv_role.specs.Poll.{IsDue, IsReady, Polled}

-- one log behind another
log_join : (rules : Rules) (r : ℕ) (own : Own) (front back : List Timed) → IsOwnLog rules r own front → IsOwnLog rules r (own_through own front) back → IsOwnLog rules r own (front ++ back)
log_join rules r own [] back a b = b
log_join rules r own (x ∷ front) back a b = (a.0, a.1, log_join rules r (own_after own x.step) front back a.2 b)

through_join : (own : Own) (front back : List Timed) → own_through own (front ++ back) ≡ own_through (own_through own front) back
through_join own [] back = refl
through_join own (x ∷ front) back = through_join (own_after own x.step) front back

-- one step behind another
pub goes_on : (a b c : CellView) → Goes a b → Goes b c → Goes a c
goes_on a b c f g = record {
  more = f.more ++ g.more;
  setup = g.setup ∙ f.setup;
  role = g.role ∙ f.role;
  base = g.base ∙ f.base;
  log = g.log ∙ ap (λ l. l ++ g.more) f.log ∙ append_assoc a.part.log f.more g.more;
  lawful = log_join (rules_of a.part.setup) a.part.role a.part.own f.more g.more f.lawful (subst (λ (z : SessionView × (ℕ × Own)). IsOwnLog (rules_of z.0) z.1.0 z.1.1 g.more) (λ i. (f.setup i, (f.role i, f.own i))) g.lawful);
  own = g.own ∙ ap (λ o. own_through o g.more) f.own ∙ sym (through_join a.part.own f.more g.more);
  settled = g.settled;
  strangers = g.strangers;
  posts = λ q d e lt n h. subst (λ r. IsChannel (end_at c.posts r q d) e) f.role (g.posts q d e (subst (λ s. q < roles_of s) (sym f.setup) lt) (λ i. n (i ∙ f.role)) (subst (λ r. IsChannel (end_at b.posts r q d) e) (sym f.role) (f.posts q d e lt n h)));
  inboxes = λ q d e lt n h. subst (λ r. IsChannel e (end_at c.inboxes r q d)) f.role (g.inboxes q d e (subst (λ s. q < roles_of s) (sym f.setup) lt) (λ i. n (i ∙ f.role)) (subst (λ r. IsChannel e (end_at b.inboxes r q d)) (sym f.role) (f.inboxes q d e lt n h)));
}

-- a poll that did nothing
pub stays : (c : CellView) → IsSettled c → HasNoStrangers c.part → Goes c c
stays c settled strangers = record {
  more = [];
  setup = refl;
  role = refl;
  base = refl;
  log = sym (append-nil c.part.log);
  lawful = tt;
  own = refl;
  settled = settled;
  strangers = strangers;
  posts = λ q d e lt n h. h;
  inboxes = λ q d e lt n h. h;
}

-- one event is a log
abbrev IsOneEvent : PartView → Event → Entry → Type 0
IsOneEvent p e x = IsOwnLog (rules_of p.setup) p.role p.own (record { stamp = e.stamp; step = x } ∷ []) × (own_event p.own e ≡ own_through p.own (record { stamp = e.stamp; step = x } ∷ []))

pub one_send : (p : PartView) (e : Event) → e.role ≡ p.role → e.dir ≡ Sent → MayOwnSend (rules_of p.setup) p.own e → IsOneEvent p e (entry_of_event e)
one_send p e own dir may = subst (IsOneEvent p e) (sym (ap (λ d. entry_by d e) dir)) ((own, (refl, may), tt), refl)

pub one_recv : (p : PartView) (e : Event) → e.role ≡ p.role → e.dir ≡ Got → MayOwnRecv (rules_of p.setup) p.own e → IsOneEvent p e (entry_of_event e)
one_recv p e own dir may = subst (IsOneEvent p e) (sym (ap (λ d. entry_by d e) dir)) ((own, (refl, may), tt), refl)

-- a part that has next points is ready
pub ready : (p : PartView) (zs : List ℕ) → (IsDue p → ⊥) → Offers p zs → (zs ≡ [] → ⊥) → IsBelow p → IsReady p
ready p zs calm offers some below = record {
  calm = calm;
  next = λ none. some (one_next (net_for p.setup) p.role (own_place p.role p.own) zs [] offers none);
  below = below;
}

-- the polls that send and receive nothing, as their function has them
module _ (p : PartView) (posts inboxes : List End) (q : CellView) (is : cell_of p posts inboxes ≡ q) (settled : IsSettled q) (strangers : HasNoStrangers p) where
  pub stays_as : Goes q q
  stays_as = stays q settled (subst (λ (c : CellView). HasNoStrangers c.part) is strangers)

  module _ (crashed : PartView) (same : crashed ≡ with_crash p) (due : IsDue p) (declared : p.role < roles_of p.setup) where
    crash_goes : Goes (cell_of p posts inboxes) (cell_of (with_crash p) posts inboxes)
    crash_goes = record {
      more = record { stamp = p.own.numbers.clock; step = Crash p.role } ∷ [];
      setup = refl;
      role = refl;
      base = refl;
      log = refl;
      lawful = (refl, (refl, declared, due), tt);
      own = refl;
      settled = subst (λ (c : CellView). IsSettled c) (sym is) settled;
      strangers = strangers;
      posts = λ s d e lt n h. h;
      inboxes = λ s d e lt n h. h;
    }

    pub crash_moves : Goes q (cell_of crashed posts inboxes)
    crash_moves = subst (λ c. Goes c (cell_of crashed posts inboxes)) is (subst (λ x. Goes (cell_of p posts inboxes) (cell_of x posts inboxes)) (sym same) crash_goes)

    pub crash_polled : Polled q (cell_of crashed posts inboxes) Crashed
    crash_polled = subst (λ c. Polled c (cell_of crashed posts inboxes) Crashed) is (due, ap (λ x. cell_of x posts inboxes) same)

    pub crash_ends : AreEnds (rules_of p.setup) p.role posts inboxes → AreEnds (rules_of crashed.setup) crashed.role posts inboxes
    crash_ends ends = subst (λ (x : PartView). AreEnds (rules_of x.setup) x.role posts inboxes) (sym same) ends

    pub crash_few : length crashed.log ≤ length q.part.log + 1
    crash_few = subst (λ (c : CellView). length crashed.log ≤ length c.part.log + 1) is (subst (λ (x : PartView). length x.log ≤ length p.log + 1) (sym same) (grow p.log (record { stamp = p.own.numbers.clock; step = Crash p.role })))
      where
        grow : (xs : List Timed) (x : Timed) → length (xs ++ x ∷ []) ≤ length xs + 1
        grow [] x = omega arith
        grow (y ∷ xs) x = let le = grow xs x in omega (arith, le)

  pub done_polled : (zs : List ℕ) → (IsDue p → ⊥) → Offers p zs → zs ≡ [] → Polled q q Done
  done_polled zs calm offers none = subst (λ c. Polled c q Done) is (calm, subst (Offers p) none offers, sym is)

  pub tired_polled : (zs : List ℕ) → (IsDue p → ⊥) → Offers p zs → (zs ≡ [] → ⊥) → (IsBelow p → ⊥) → Polled q q Tired
  tired_polled zs calm offers some tired = subst (λ c. Polled c q Tired) is (calm, (λ none. some (one_next (net_for p.setup) p.role (own_place p.role p.own) zs [] offers none)), tired, sym is)
