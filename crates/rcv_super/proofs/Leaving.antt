-- Behind its Recover the concerned cells can go back to what the book keeps.
use Rattle.std.proofs.Common.{◌≡◌, ℕ, ◌+◌, ◌<◌, ◌≤◌, ◌^◌, true, false, cond, Option, List, [], ◌∷◌, length, sym, ◌∙◌, ap, subst, ◌⊎◌, inl, inr, arith, append-nil}
use Rattle.std.specs.Prelude.{◌/◌, ◌*◌}
use Rattle.std.proofs.lemmas.Bool.{cases_Bool}
use Rattle.rcv_tree.specs.Bits.{has_bit, is_listed}
use Rattle.rcv_tree.specs.declared.event.Event.{Event}
use Rattle.rcv_tree.specs.declared.role.RoleSet.{RoleSet}
use Rattle.rcv_tree.specs.declared.entry.Entry.{Entry}
use Rattle.rcv_tree.specs.declared.entry.Entry.TheVariants.{Send, Recv, Crash, Recover}
use Rattle.rcv_model.specs.Next.{IsProper}
use Rattle.rcv_model.specs.Run.{acts, put, IsRun}
use Rattle.rcv_model.specs.Undo.{bound_of}
use Rattle.rcv_model.specs.Journal.{State, Own, own_of, numbers_at, start, after, durable, events_of, group_of, kept_by, May, IsLegal}
use Rattle.rcv_model.proofs.Bystanders.{as_many}
use Rattle.rcv_model.proofs.Forms.{proper}
use Rattle.rcv_model.proofs.Keeping.{keep_front, put_through}
use Rattle.rcv_model.proofs.Legal.{accepted_runs}
use Rattle.rcv_model.proofs.Lists.{prefix_length}
use Rattle.rcv_model.proofs.Losses.{at_most}
use Rattle.rcv_model.proofs.Numbers.{bounded}
use Rattle.rcv_model.proofs.StableLines.{reading_join}
use Rattle.rcv_theory.specs.Bystander.{KeepsAll}
use Rattle.rcv_theory.specs.Own.{own_back, own_behind, clock_in}
use Rattle.rcv_theory.proofs.Besides.{keeps}
use Rattle.rcv_theory.proofs.Owning.{own_recovery}
use Rattle.rcv_ring.specs.Lists.{Begins}
use Rattle.rcv_mailbox.specs.Ends.{End, IsChannel}
use Rattle.rcv_accept.specs.Accepted.{IsAcceptedProtocol}
use Rattle.rcv_plan.specs.Lines.{IsPlanned}
use Rattle.rcv_session.specs.Session.{SessionView, text_of, roles_of, net_for, rules_of}
use Rattle.rcv_core.specs.Book.{BookView, state_of, with_entry, IsRecoveryOf}
use Rattle.rcv_core.proofs.Ranges.{few_crash_lines}
use Rattle.rcv_role.specs.Part.{durable_of, HoldsStates}
use Rattle.rcv_role.specs.Ends.{end_at}
use Rattle.rcv_role.specs.Cell.{CellView, AreJoined, post_to, inbox_from}
use Rattle.rcv_cells.specs.Home.{cell_at, AreHome}
use Rattle.rcv_rollback.specs.Halves.{Has, Lacks, AreSplit}
use Rattle.rcv_rollback.specs.Back.{kept_of, kept_in, clock_in_book, CanGo, CanGoBack}
use Rattle.rcv_super.specs.Bases.{AreBased}
use Rattle.rcv_super.specs.Steps.{concerned_of}
use Rattle.rcv_super.proofs.Bases.{held_above}
use Rattle.rcv_super.proofs.Apart.{IsGone, IsHomeAt, gone_cell, left_cell, home_at}

-- what a book leaves with a Recover more
abbrev pub with_recover : BookView → ℕ → RoleSet → List ℕ → ℕ → BookView
with_recover book p concerned kept undone = with_entry book (Recover p concerned kept undone)

pub recovered : (book : BookView) (p : ℕ) (concerned : RoleSet) (kept : List ℕ) (undone : ℕ) → state_of (with_recover book p concerned kept undone) ≡ after (rules_of book.setup) (state_of book) (Recover p concerned kept undone)
recovered book p concerned kept undone = reading_join (rules_of book.setup) (start (roles_of book.setup)) book.entries (Recover p concerned kept undone ∷ [])

module _ (book : BookView) (accepted : IsAcceptedProtocol book.setup.protocol) (legal : IsLegal (rules_of book.setup) book.entries) (p : ℕ) (concerned : RoleSet) (kept : List ℕ) (undone : ℕ) where
  is_proper : IsProper (net_for book.setup) (roles_of book.setup)
  is_proper = proper (text_of book.setup) (roles_of book.setup) accepted.form

  run : IsRun (net_for book.setup) (state_of book).kept
  run = accepted_runs (rules_of book.setup) book.entries is_proper accepted.accepted legal book.entries [] (append-nil book.entries)

  numbers : length (state_of book).roles ≡ roles_of book.setup
  numbers = (bounded (rules_of book.setup) book.entries legal).numbers

  -- what each role has of its own there
  pub own_there : (r : ℕ) → r < roles_of book.setup → own_of (state_of (with_recover book p concerned kept undone)) r ≡ own_behind (rules_of book.setup) (state_of book) p r
  own_there r lt = ap (λ s. own_of s r) (recovered book p concerned kept undone) ∙ own_recovery (rules_of book.setup) (state_of book) p r concerned kept undone run.1.queued (let n = numbers in omega (arith, n, lt))

  kept_there : (r : ℕ) → kept_in (with_recover book p concerned kept undone) r ≡ length (acts r (kept_by (rules_of book.setup) (state_of book) p))
  kept_there r = ap (λ (s : State). length (acts r s.kept)) (recovered book p concerned kept undone)

  -- who isn't concerned has what it had
  pub keeps_there : (q : ℕ) → May (rules_of book.setup) (state_of book) (Recover p concerned kept undone) → q < roles_of book.setup → has_bit concerned.0 q ≡ false → KeepsAll (net_for book.setup) (state_of book) (state_of (with_recover book p concerned kept undone)) q
  keeps_there q may lt free = subst (λ s. KeepsAll (net_for book.setup) (state_of book) s q) (sym (recovered book p concerned kept undone)) (keeps (rules_of book.setup) (state_of book) p q concerned kept undone is_proper accepted.accepted.lanes_end run may (let few = accepted.form.few_roles in omega (arith, few, lt)) (λ t. let e = sym free ∙ t in cc))

  -- a role keeps some of its first events; of the failed group no more than it has saved
  kept_few : (r : ℕ) → length (acts r (kept_by (rules_of book.setup) (state_of book) p)) ≤ length (events_of r (state_of book).kept)
  kept_few r =
      let a = prefix_length _ _ (keep_front (net_for book.setup) (bound_of (group_of (rules_of book.setup) p) (durable (rules_of book.setup) (state_of book)) (state_of book).kept) (state_of book).kept run.1.queued r) in
      let b = as_many r (state_of book).kept in
      omega (arith, a, b)

  kept_saved : (r : ℕ) → is_listed (group_of (rules_of book.setup) p) r ≡ true → length (acts r (kept_by (rules_of book.setup) (state_of book) p)) ≤ durable (rules_of book.setup) (state_of book) r
  kept_saved r t =
      let bound : ℕ → ℕ = bound_of (group_of (rules_of book.setup) p) (durable (rules_of book.setup) (state_of book)) (state_of book).kept in
      let a : length (acts r (kept_by (rules_of book.setup) (state_of book) p)) ≤ bound r = at_most (net_for book.setup) bound r (record { events = []; stopped = [] }) (state_of book).kept (omega arith) in
      let b : bound r ≡ durable (rules_of book.setup) (state_of book) r = ap (λ x. cond x (durable (rules_of book.setup) (state_of book) r) (length (acts r (state_of book).kept))) t in
      omega (arith, a, b)

  module _ (planned : IsPlanned (roles_of book.setup) book.setup.plan) (r : ℕ) (c : CellView) (lt : r < roles_of book.setup) (here : IsHomeAt book r c) (states : HoldsStates c.part) (above : c.part.base ≤ kept_in (with_recover book p concerned kept undone) r) where
    events : events_of r (state_of book).kept ≡ c.part.own.events
    events = ap (λ (o : Own). o.events) here.own

    made : kept_in (with_recover book p concerned kept undone) r ≤ length c.part.own.events
    made = let a = kept_there r in let b = kept_few r in let e = ap (λ (l : List Event). length l) events in omega (arith, a, b, e)

    back : own_of (state_of (with_recover book p concerned kept undone)) r ≡ own_back c.part.own (kept_in (with_recover book p concerned kept undone) r) (is_listed (group_of (rules_of book.setup) p) r) (clock_in_book (with_recover book p concerned kept undone) r)
    back =
        own_there r lt
        ∙ ap (λ o. own_back o (length (acts r (kept_by (rules_of book.setup) (state_of book) p))) (is_listed (group_of (rules_of book.setup) p) r) (clock_in (rules_of book.setup) (state_of book) p r)) here.own
        ∙ ap (λ n. own_back c.part.own n (is_listed (group_of (rules_of book.setup) p) r) (clock_in (rules_of book.setup) (state_of book) p r)) (sym (kept_there r))
        ∙ ap (λ n. own_back c.part.own (kept_in (with_recover book p concerned kept undone) r) (is_listed (group_of (rules_of book.setup) p) r) n) (sym (ap (λ (o : Own). o.numbers.clock) (own_there r lt)))

    -- the saved states are held
    saved_held : durable (rules_of book.setup) (state_of book) r ≤ c.part.held
    saved_held =
        let count : length (acts r (state_of book).kept) ≡ length c.part.own.events = as_many r (state_of book).kept ∙ ap (λ (l : List Event). length l) events in
        let every : (rules_of c.part.setup).every c.part.role ≡ (rules_of book.setup).every r = ap (λ (s : SessionView). (rules_of s).every c.part.role) here.setup_is ∙ ap (rules_of book.setup).every here.role_is in
        let same : durable_of c.part ≡ durable (rules_of book.setup) (state_of book) r = ap (λ n. length c.part.own.events / n * n) every ∙ ap (λ n. n / (rules_of book.setup).every r * (rules_of book.setup).every r) (sym count) in
        subst (λ n. n ≤ c.part.held) same states.saved

    held : (own_of (state_of (with_recover book p concerned kept undone)) r).numbers.crashed ≡ false → kept_in (with_recover book p concerned kept undone) r ≤ c.part.held
    held runs = go (cases_Bool (is_listed (group_of (rules_of book.setup) p) r))
      where
        go : (is_listed (group_of (rules_of book.setup) p) r ≡ true) ⊎ (is_listed (group_of (rules_of book.setup) p) r ≡ false) → kept_in (with_recover book p concerned kept undone) r ≤ c.part.held
        go (inl t) = let a = kept_there r in let b = kept_saved r t in let s = saved_held in omega (arith, a, b, s)
        go (inr f) =
            let e : c.part.own.numbers.crashed ≡ false = sym (ap (λ b. cond b false c.part.own.numbers.crashed) f) ∙ sym (ap (λ (o : Own). o.numbers.crashed) back) ∙ runs in
            let h = states.running e in
            let m = made in
            omega (arith, h, m)

    attempt : c.part.own.numbers.attempt + 1 < 2 ^ 32
    attempt =
        let a : (numbers_at (state_of book).roles r).attempt ≡ c.part.own.numbers.attempt = ap (λ (o : Own). o.numbers.attempt) here.own in
        let b = (bounded (rules_of book.setup) book.entries legal).attempts r in
        let e = few_crash_lines book.setup accepted.form.few_roles planned in
        omega (arith, a, b, e)

    pub can_go : CanGo (with_recover book p concerned kept undone) r c
    can_go = record {
      setup_is = here.setup_is;
      role_is = here.role_is;
      failed = is_listed (group_of (rules_of book.setup) p) r;
      back = back;
      made = made;
      base = above;
      held = held;
      attempt = attempt;
      settled = here.settled;
    }

-- the concerned cells can go back
pub can_go_back : (book : BookView) (cells : List CellView) (p : ℕ) (concerned : RoleSet) (kept : List ℕ) (undone : ℕ) (back beside : List (Option CellView)) → IsAcceptedProtocol book.setup.protocol → IsPlanned (roles_of book.setup) book.setup.plan → IsLegal (rules_of book.setup) book.entries → May (rules_of book.setup) (state_of book) (Recover p concerned kept undone) → AreHome book cells → AreBased book cells → ((r : ℕ) (d : CellView) → r < length cells → HoldsStates (cell_at cells r d).part) → AreSplit concerned cells back beside → CanGoBack (with_recover book p concerned kept undone) back
can_go_back book cells p concerned kept undone back beside accepted planned legal may home based states split = record {
  count = split.back_count ∙ home.out.count;
  each = λ r c has. each r c has;
  joined = λ s r a b here there n e. joined s r a b here there n e;
  begun = λ s r a b e here there n. begun s r a b e here there n;
  spared = λ r q c has lacks. spared r q c has lacks;
}
  where
    low : (r : ℕ) → r < length cells → r < roles_of book.setup
    low r lt = let c = home.out.count in omega (arith, c, lt)

    of : (r : ℕ) (c : CellView) → Has back r c → IsGone concerned cells r c
    of r c has = gone_cell concerned cells back beside split r c has

    here_at : (r : ℕ) (c : CellView) → Has back r c → IsHomeAt book r c
    here_at r c has = let g = of r c has in subst (IsHomeAt book r) (sym (g.is c)) (home_at book cells r c home (low r g.declared))

    each : (r : ℕ) (c : CellView) → Has back r c → CanGo (with_recover book p concerned kept undone) r c
    each r c has =
        let g = of r c has in
        can_go book accepted legal p concerned kept undone planned r c (low r g.declared) (here_at r c has) (subst (λ (x : CellView). HoldsStates x.part) (sym (g.is c)) (states r c g.declared)) (subst (λ (x : CellView). x.part.base ≤ kept_in (with_recover book p concerned kept undone) r) (sym (g.is c)) (held_above book cells (Recover p concerned kept undone) accepted legal may based r c (low r g.declared)))

    -- the ends of two of them, as both name them
    named : (P : End → End → Type 0) (s r : ℕ) (a b : CellView) (d : CellView) (e : End) → Has back s a → Has back r b → P (end_at (cell_at cells s d).posts s r e) (end_at (cell_at cells r d).inboxes r s e) → P (post_to a b e) (inbox_from a b e)
    named P s r a b d e here there h =
        let x : P (end_at a.posts s r e) (end_at b.inboxes r s e) = subst (λ (z : CellView × CellView). P (end_at z.0.posts s r e) (end_at z.1.inboxes r s e)) (λ i. (sym ((of s a here).is d) i, sym ((of r b there).is d) i)) h in
        subst (λ (z : ℕ × ℕ). P (end_at a.posts z.0 z.1 e) (end_at b.inboxes z.1 z.0 e)) (λ i. (sym (here_at s a here).role_is i, sym (here_at r b there).role_is i)) x

    joined : (s r : ℕ) (a b : CellView) → Has back s a → Has back r b → (s ≡ r → ⊥) → AreJoined a b
    joined s r a b here there n e = named IsChannel s r a b a e here there (home.out.joined s r a e (low s (of s a here).declared) (low r (of r b there).declared) n)

    begun : (s r : ℕ) (a b : CellView) (e : End) → Has back s a → Has back r b → (s ≡ r → ⊥) → Begins (inbox_from a b e).list (post_to a b e).list
    begun s r a b e here there n = named (λ (x y : End). Begins y.list x.list) s r a b a e here there (home.begun s r a e (low s (of s a here).declared) (low r (of r b there).declared) n)

    spared : (r q : ℕ) (c : CellView) → Has back r c → Lacks back q → put (net_for book.setup) r q (kept_of (with_recover book p concerned kept undone) r) ≡ put (net_for book.setup) r q c.part.own.events
    spared r q c has lacks =
        let l = left_cell concerned cells back beside split q lacks in
        sym (put_through (net_for book.setup) r q (state_of (with_recover book p concerned kept undone)).kept)
        ∙ (keeps_there book accepted legal p concerned kept undone q may (low q l.declared) l.bit).puts r
        ∙ put_through (net_for book.setup) r q (state_of book).kept
        ∙ ap (put (net_for book.setup) r q) (ap (λ (o : Own). o.events) (here_at r c has).own)

-- the same of the entry that a recovery made
pub may_come : (book : BookView) (p : ℕ) (e : Entry) → IsRecoveryOf book p e → May (rules_of book.setup) (state_of book) e
may_come book p (Send e) is = absurd is
may_come book p (Recv e) is = absurd is
may_come book p (Crash q) is = absurd is
may_come book p (Recover q concerned kept undone) is = is.1

pub can_go_back_by : (book : BookView) (cells : List CellView) (p : ℕ) (e : Entry) (back beside : List (Option CellView)) → IsAcceptedProtocol book.setup.protocol → IsPlanned (roles_of book.setup) book.setup.plan → IsLegal (rules_of book.setup) book.entries → IsRecoveryOf book p e → AreHome book cells → AreBased book cells → ((r : ℕ) (d : CellView) → r < length cells → HoldsStates (cell_at cells r d).part) → AreSplit (concerned_of e) cells back beside → CanGoBack (with_entry book e) back
can_go_back_by book cells p (Send e) half beside accepted planned legal is home based states split = absurd is
can_go_back_by book cells p (Recv e) half beside accepted planned legal is home based states split = absurd is
can_go_back_by book cells p (Crash q) half beside accepted planned legal is home based states split = absurd is
can_go_back_by book cells p (Recover q concerned kept undone) half beside accepted planned legal is home based states split = can_go_back book cells q concerned kept undone half beside accepted planned legal is.1 home based states split
