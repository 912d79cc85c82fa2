-- One step of one thread: the cells go out by it, and are out with its entry alone.
use Rattle.std.proofs.Common.{◌≡◌, ℕ, ◌+◌, ◌<◌, ◌≤◌, ◌^◌, false, List, [], ◌∷◌, ◌++◌, length, take, refl, sym, ◌∙◌, ap, subst, ◌⊎◌, inl, inr, ⊎_elim, arith}
use Rattle.std.proofs.lemmas.Bool.{cases_eq, cases_lt}
use Rattle.rcv_tree.specs.declared.entry.Entry.{Entry}
use Rattle.rcv_tree.specs.declared.entry.Entry.TheVariants.{Send, Recv, Crash}
use Rattle.rcv_tree.specs.declared.entry.Timed.{Timed}
use Rattle.rcv_tree.specs.declared.event.Event.{Event}
use Rattle.rcv_tree.specs.declared.event.Message.{Message}
use Rattle.rcv_model.specs.Net.{HasTwoEnds}
use Rattle.rcv_model.specs.Run.{put, taken, channel}
use Rattle.rcv_model.specs.Next.{IsNext, IsProper}
use Rattle.rcv_model.specs.Journal.{Own, own_of, numbers_at, IsOwnDue, place, reading_from, May, IsLegal}
use Rattle.rcv_model.specs.Final.{IsStep}
use Rattle.rcv_model.proofs.Forms.{proper}
use Rattle.rcv_model.proofs.Keeping.{put_through, taken_through}
use Rattle.rcv_model.proofs.Located.{item}
use Rattle.rcv_model.proofs.Numbers.{bounded}
use Rattle.rcv_model.proofs.Ways.{next_in_text}
use Rattle.rcv_theory.specs.Round.{role_of, entries, IsLog}
use Rattle.rcv_ring.specs.Lists.{Begins}
use Rattle.rcv_mailbox.specs.Ends.{End, Knows, IsChannel}
use Rattle.rcv_merge.specs.Merge.{log_at}
use Rattle.rcv_plan.specs.Lines.{IsPlanned}
use Rattle.rcv_accept.specs.Accepted.{IsAcceptedProtocol}
use Rattle.rcv_session.specs.Session.{SessionView, text_of, roles_of, net_for, rules_of}
use Rattle.rcv_core.specs.Book.{BookView, state_of}
use Rattle.rcv_core.proofs.Books.{few_entries}
use Rattle.rcv_role.specs.declared.poll.Poll.{Poll}
use Rattle.rcv_role.specs.declared.poll.Poll.TheVariants as polls
use Rattle.rcv_role.specs.Part.{PartView, with_crash}
use Rattle.rcv_role.specs.Ends.{slot, end_at, IsSettledWith}
use Rattle.rcv_role.specs.Cell.{CellView, Goes, cell_of}
use Rattle.rcv_role.specs.Poll.{IsDue, OnePost, OneInbox, Polled}
use Rattle.rcv_role.proofs.Going.{stays}
use Rattle.rcv_role.proofs.Slots.{slot_apart}
use Rattle.rcv_cells.specs.Home.{cell_at, AreBegun, AreOut, AreHome, AllGo, AllMet, AllCanMeet, ArePaired, logs_in, round_steps}
use Rattle.rcv_cells.proofs.Rounds.{gone_out, met_out, log_is, no_log, is_round, merged_legal}
use Rattle.rcv_super.specs.OneStep.{IsNextEvent, CanPoll, WasPolled, AreOutWith}
use Rattle.rcv_super.proofs.Polling.{CanSend, CanRecv, HasMade, send_made, recv_made}
use Rattle.rcv_super.proofs.OneEntry.{HoldOne, one_merge, sent_is, got_is}

-- cells that are out can meet
pub out_can_meet : (book : BookView) (cells : List CellView) → AreOut book cells → AllCanMeet cells
out_can_meet book cells out s r d ls lr n =
    let c = out.count in
    let a = out.each s d (omega (arith, c, ls)) in
    let b = out.each r d (omega (arith, c, lr)) in
    record {
      setup = a.setup_is ∙ sym b.setup_is;
      apart = λ f. n (sym a.role_is ∙ f ∙ b.role_is);
      channel = λ e. subst (λ (z : ℕ × ℕ). IsChannel (end_at (cell_at cells s d).posts z.0 z.1 e) (end_at (cell_at cells r d).inboxes z.1 z.0 e)) (λ i. (sym a.role_is i, sym b.role_is i)) (out.joined s r d e (omega (arith, c, ls)) (omega (arith, c, lr)) n);
    }

-- cells that meet at home are at home
pub met_home : (book : BookView) (old met : List CellView) → AreHome book old → AllMet old met → AreHome book met
met_home book old met home meet = record {
  out = met_out book old met home.out meet;
  begun = λ s r d e ls lr n. subst (λ (z : List Message × List Message). Begins z.0 z.1) (λ i. (sym ((meet.1 r d).inboxes (slot r s) e).list i, sym ((meet.1 s d).posts (slot s r) e).list i)) (home.begun s r d e ls lr n);
  logs = λ r d lt. ap (λ (p : PartView). p.log) (meet.1 r d).part ∙ home.logs r d lt;
}

module _ (book : BookView) (cells : List CellView) (home : AreHome book cells) where
  pub own_at_home : (r : ℕ) (d : CellView) → r < roles_of book.setup → own_of (state_of book) r ≡ (cell_at cells r d).part.own
  own_at_home r d lt = subst (λ l. own_of (reading_from (rules_of book.setup) (state_of book) (entries l)) r ≡ (cell_at cells r d).part.own) (home.logs r d lt) (home.out.each r d lt).own

  pub can_poll : (r : ℕ) (d : CellView) → r < roles_of book.setup → (numbers_at (state_of book).roles r).crashed ≡ false → CanPoll (cell_at cells r d)
  can_poll r d lt free = record {
    running = subst (λ (o : Own). o.numbers.crashed ≡ false) (own_at_home r d lt) free;
    ready = ((home.out.each r d lt).settled, subst (λ (l : List Timed). length l ≤ round_steps) (sym (home.logs r d lt)) (omega arith));
  }

  -- one of them is polled
  pub one_goes : (new : List CellView) (r : ℕ) → length new ≡ length cells → ((k : ℕ) (d : CellView) → (k ≡ r → ⊥) → cell_at new k d ≡ cell_at cells k d) → ((d : CellView) → WasPolled (cell_at cells r d) (cell_at new r d)) → AllGo cells new
  one_goes new r count others was = (
    count,
    λ k d lt. ⊎_elim
        (λ f. subst (λ j. Goes (cell_at cells j d) (cell_at new j d)) (sym f) (was d).goes)
        (λ n. let c = home.out.count in let o = home.out.each k d (omega (arith, c, lt)) in subst (Goes (cell_at cells k d)) (sym (others k d n)) (stays (cell_at cells k d) o.settled o.strangers))
        (cases_eq k r),
  )

  -- what its ends with another role hold is what the book keeps
  settled_home : (r q : ℕ) (d : CellView) (e : End) → r < roles_of book.setup → q < roles_of book.setup → (q ≡ r → ⊥) → IsSettledWith (net_for book.setup) r q (cell_at cells r d).part.own.events (cell_at cells r d).part.own.numbers.raw (end_at (cell_at cells r d).posts r q e) (end_at (cell_at cells r d).inboxes r q e)
  settled_home r q d e lt lq n =
      let o = home.out.each r d lt in
      subst (λ (z : SessionView × ℕ). q < roles_of z.0 → (q ≡ z.1 → ⊥) → IsSettledWith (net_for z.0) z.1 q (cell_at cells r d).part.own.events (cell_at cells r d).part.own.numbers.raw (end_at (cell_at cells r d).posts z.1 q e) (end_at (cell_at cells r d).inboxes z.1 q e)) (λ i. (o.setup_is i, o.role_is i)) (λ l m. o.settled q e l m) lq n

  put_home : (r q : ℕ) (d : CellView) (e : End) → r < roles_of book.setup → q < roles_of book.setup → (q ≡ r → ⊥) → (end_at (cell_at cells r d).posts r q e).list ≡ put (net_for book.setup) r q (state_of book).kept
  put_home r q d e lt lq n = (settled_home r q d e lt lq n).put ∙ ap (λ (o : Own). put (net_for book.setup) r q o.events) (sym (own_at_home r d lt)) ∙ sym (put_through (net_for book.setup) r q (state_of book).kept)

  got_home : (r q : ℕ) (d : CellView) (e : End) → r < roles_of book.setup → q < roles_of book.setup → (q ≡ r → ⊥) → (end_at (cell_at cells r d).inboxes r q e).got ≡ length (taken (net_for book.setup) q r (state_of book).kept)
  got_home r q d e lt lq n = (settled_home r q d e lt lq n).got ∙ ap (λ (o : Own). length (taken (net_for book.setup) q r o.events)) (sym (own_at_home r d lt)) ∙ ap length (sym (taken_through (net_for book.setup) q r (state_of book).kept))

  taken_home : (r q : ℕ) (d : CellView) (e : End) → r < roles_of book.setup → q < roles_of book.setup → (q ≡ r → ⊥) → take (end_at (cell_at cells r d).inboxes r q e).got (end_at (cell_at cells r d).inboxes r q e).list ≡ taken (net_for book.setup) q r (state_of book).kept
  taken_home r q d e lt lq n = (settled_home r q d e lt lq n).taken ∙ ap (λ (o : Own). taken (net_for book.setup) q r o.events) (sym (own_at_home r d lt)) ∙ sym (taken_through (net_for book.setup) q r (state_of book).kept)

  module _ (accepted : IsAcceptedProtocol book.setup.protocol) (planned : IsPlanned (roles_of book.setup) book.setup.plan) (legal : IsLegal (rules_of book.setup) book.entries) where
    few_clock : (r : ℕ) (d : CellView) → r < roles_of book.setup → (cell_at cells r d).part.own.numbers.clock < 2 ^ 62
    few_clock r d lt = subst (λ (o : Own). o.numbers.clock < 2 ^ 62) (own_at_home r d lt)
        (let b = bounded (rules_of book.setup) book.entries legal in
        let a = b.clocks r in
        let m = b.entries in
        let f = few_entries book.setup accepted planned in
        omega (arith, a, m, f))

    two : HasTwoEnds (net_for book.setup)
    two = (proper (text_of book.setup) (roles_of book.setup) accepted.form).two_ends

-- the two ends of a channel have met, and their cells are at home
module _ (book : BookView) (old met : List CellView) (home : AreHome book old) (meet : AllMet old met) (from to : ℕ) (lf : from < roles_of book.setup) (lt : to < roles_of book.setup) (apart : from ≡ to → ⊥) (paired : (d : CellView) → ArePaired (cell_at old from d) (cell_at met from d) (cell_at old to d) (cell_at met to d)) (accepted : IsAcceptedProtocol book.setup.protocol) (planned : IsPlanned (roles_of book.setup) book.setup.plan) (legal : IsLegal (rules_of book.setup) book.entries) where
  home' : AreHome book met
  home' = met_home book old met home meet

  role_before : (r : ℕ) (d : CellView) → r < roles_of book.setup → (cell_at old r d).part.role ≡ r
  role_before r d l = (home.out.each r d l).role_is

  role_now : (r : ℕ) (d : CellView) → r < roles_of book.setup → (cell_at met r d).part.role ≡ r
  role_now r d l = (home'.out.each r d l).role_is

  post_knows : (d : CellView) (x : End) → Knows (end_at (cell_at met from d).posts from to x) (length (end_at (cell_at met to d).inboxes to from x).list)
  post_knows d x =
      let have : Knows (end_at (cell_at met from d).posts (cell_at met from d).part.role (cell_at met to d).part.role x) (length (end_at (cell_at old to d).inboxes (cell_at old to d).part.role (cell_at old from d).part.role x).list) = (paired d).met.post_knows x in
      let here : Knows (end_at (cell_at met from d).posts from to x) (length (end_at (cell_at old to d).inboxes to from x).list) = subst (λ (z : ℕ × ℕ × ℕ × ℕ). Knows (end_at (cell_at met from d).posts z.0 z.1 x) (length (end_at (cell_at old to d).inboxes z.2 z.3 x).list)) (λ i. (role_now from d lf i, role_now to d lt i, role_before to d lt i, role_before from d lf i)) have in
      subst (λ (l : List Message). Knows (end_at (cell_at met from d).posts from to x) (length l)) (sym ((meet.1 to d).inboxes (slot to from) x).list) here

  inbox_knows : (d : CellView) (x : End) → Knows (end_at (cell_at met to d).inboxes to from x) (length (end_at (cell_at met from d).posts from to x).list)
  inbox_knows d x =
      let have : Knows (end_at (cell_at met to d).inboxes (cell_at met to d).part.role (cell_at met from d).part.role x) (length (end_at (cell_at old from d).posts (cell_at old from d).part.role (cell_at old to d).part.role x).list) = (paired d).met.inbox_knows x in
      let here : Knows (end_at (cell_at met to d).inboxes to from x) (length (end_at (cell_at old from d).posts from to x).list) = subst (λ (z : ℕ × ℕ × ℕ × ℕ). Knows (end_at (cell_at met to d).inboxes z.0 z.1 x) (length (end_at (cell_at old from d).posts z.2 z.3 x).list)) (λ i. (role_now to d lt i, role_now from d lf i, role_before from d lf i, role_before to d lt i)) have in
      subst (λ (l : List Message). Knows (end_at (cell_at met to d).inboxes to from x) (length l)) (sym ((meet.1 from d).posts (slot from to) x).list) here

  here_is : (r : ℕ) (d : CellView) → r < roles_of book.setup → (P : SessionView → ℕ → Type 0) → P book.setup r → P (cell_at met r d).part.setup (cell_at met r d).part.role
  here_is r d l P p = let o = home'.out.each r d l in subst (λ (z : SessionView × ℕ). P z.0 z.1) (λ i. (sym o.setup_is i, sym o.role_is i)) p

  module _ (e : Event) (from_is : (net_for book.setup).sender e.point ≡ from) (to_is : (net_for book.setup).receiver e.point ≡ to) where
    can_send : (d : CellView) → IsStep (rules_of book.setup) (state_of book) (Send e) → CanSend book.setup from (state_of book) (cell_at met from d) e
    can_send d step = record {
      own = own_at_home book met home' from d lf;
      clock = few_clock book met home' accepted planned legal from d lf;
      two = two book met home' accepted planned legal;
      may = step.3.1;
      role = role;
      room = subst (λ r. length (channel (net_for book.setup) r ((net_for book.setup).receiver e.point) (state_of book).kept) < (rules_of book.setup).room) role step.3.2;
      declared = subst (λ q. q < roles_of book.setup) (sym to_is) lt;
      apart = λ f. apart (sym f ∙ to_is);
      inbox = λ x. end_at (cell_at met to d).inboxes to from x;
      joined = λ x. subst (λ q. IsChannel (end_at (cell_at met from d).posts from q x) (end_at (cell_at met to d).inboxes to from x)) (sym to_is) (home'.out.joined from to d x lf lt apart);
      knows = λ x. subst (λ q. Knows (end_at (cell_at met from d).posts from q x) (length (end_at (cell_at met to d).inboxes to from x).list)) (sym to_is) (post_knows d x);
      put = λ x. subst (λ q. (end_at (cell_at met from d).posts from q x).list ≡ put (net_for book.setup) from q (state_of book).kept) (sym to_is) (put_home book met home' from to d x lf lt (λ f. apart (sym f)));
      got = λ x. got_home book met home' to from d x lt lf apart ∙ ap (λ q. length (taken (net_for book.setup) from q (state_of book).kept)) (sym to_is);
      first = λ x. taken_home book met home' to from d x lt lf apart ∙ ap (λ q. taken (net_for book.setup) from q (state_of book).kept) (sym to_is);
    }
      where
        role : e.role ≡ from
        role = sym (step.3.1.sends e.point step.3.1.among) ∙ from_is

    can_recv : (d : CellView) → IsStep (rules_of book.setup) (state_of book) (Recv e) → CanRecv book.setup to (state_of book) (cell_at met to d) e
    can_recv d step = record {
      own = own_at_home book met home' to d lt;
      clock = few_clock book met home' accepted planned legal to d lt;
      two = two book met home' accepted planned legal;
      may = step.3.1;
      role = sym (step.3.1.own.receives e.point step.3.1.among).0 ∙ to_is;
      declared = subst (λ q. q < roles_of book.setup) (sym from_is) lf;
      apart = λ f. apart (sym from_is ∙ f);
      post = λ x. end_at (cell_at met from d).posts from to x;
      joined = λ x. subst (λ q. IsChannel (end_at (cell_at met from d).posts from to x) (end_at (cell_at met to d).inboxes to q x)) (sym from_is) (home'.out.joined from to d x lf lt apart);
      knows = λ x. subst (λ q. Knows (end_at (cell_at met to d).inboxes to q x) (length (end_at (cell_at met from d).posts from to x).list)) (sym from_is) (inbox_knows d x);
      put = λ x. put_home book met home' from to d x lf lt (λ f. apart (sym f)) ∙ ap (λ q. put (net_for book.setup) q to (state_of book).kept) (sym from_is);
      got = λ x. subst (λ q. (end_at (cell_at met to d).inboxes to q x).got ≡ length (taken (net_for book.setup) q to (state_of book).kept)) (sym from_is) (got_home book met home' to from d x lt lf apart);
    }

    made_is : (r : ℕ) (d : CellView) (new : CellView) → r < roles_of book.setup → HasMade (cell_at met r d) new ((net_for (cell_at met r d).part.setup).sender e.point) ((net_for (cell_at met r d).part.setup).receiver e.point) → HasMade (cell_at met r d) new from to
    made_is r d new l made = subst (λ (z : ℕ × ℕ). HasMade (cell_at met r d) new z.0 z.1) (λ i. ((ap (λ (s : SessionView). (net_for s).sender e.point) (home'.out.each r d l).setup_is ∙ from_is) i, (ap (λ (s : SessionView). (net_for s).receiver e.point) (home'.out.each r d l).setup_is ∙ to_is) i)) made

    -- the cell of a Send's or Recv's role makes a step
    pub event_made : (entry : Entry) → IsStep (rules_of book.setup) (state_of book) entry → (entry ≡ Send e) ⊎ (entry ≡ Recv e) → (d new : CellView) → WasPolled (cell_at met e.role d) new → HasMade (cell_at met e.role d) new from to
    event_made entry step (inl f) d new was =
        let now : IsStep (rules_of book.setup) (state_of book) (Send e) = subst (IsStep (rules_of book.setup) (state_of book)) f step in
        let role : from ≡ e.role = sym from_is ∙ now.3.1.sends e.point now.3.1.among in
        subst (λ q. WasPolled (cell_at met q d) new → HasMade (cell_at met q d) new from to) role
        (λ w. made_is from d new lf (send_made (cell_at met from d) new (state_of book) e (home'.logs from d lf) w (here_is from d lf (λ s r. CanSend s r (state_of book) (cell_at met from d) e) (can_send d now))))
        was
    event_made entry step (inr f) d new was =
        let now : IsStep (rules_of book.setup) (state_of book) (Recv e) = subst (IsStep (rules_of book.setup) (state_of book)) f step in
        let role : to ≡ e.role = sym to_is ∙ (now.3.1.own.receives e.point now.3.1.among).0 in
        subst (λ q. WasPolled (cell_at met q d) new → HasMade (cell_at met q d) new from to) role
        (λ w. made_is to d new lt (recv_made (cell_at met to d) new (state_of book) e (home'.logs to d lt) w (here_is to d lt (λ s r. CanRecv s r (state_of book) (cell_at met to d) e) (can_recv d now))))
        was

-- a cell at home was polled and made an entry, and of the channel from one role to another one end changed
module _ (book : BookView) (met gone : List CellView) (home : AreHome book met) (r from to : ℕ) (lr : r < roles_of book.setup) (lf : from < roles_of book.setup) (lt : to < roles_of book.setup) (apart : from ≡ to → ⊥) (count : length gone ≡ length met) (others : (k : ℕ) (d : CellView) → (k ≡ r → ⊥) → cell_at gone k d ≡ cell_at met k d) (was : (d : CellView) → WasPolled (cell_at met r d) (cell_at gone r d)) (made : (d : CellView) → HasMade (cell_at met r d) (cell_at gone r d) from to) (legal : IsLegal (rules_of book.setup) book.entries) where
  pub out_gone : AreOut book gone
  out_gone = gone_out book met gone home (one_goes book met home gone r count others was)

  role_met : (d : CellView) → (cell_at met r d).part.role ≡ r
  role_met d = (home.out.each r d lr).role_is

  -- the other ends hold what they held
  own_inbox : (s : ℕ) (d : CellView) (x : End) → (s ≡ r → ⊥) → ((s ≡ from) × (r ≡ to) → ⊥) → ((cell_at met r d).part.role ≡ from) × OnePost (cell_at met r d) (cell_at gone r d) to ⊎ ((cell_at met r d).part.role ≡ to) × OneInbox (cell_at met r d) (cell_at gone r d) from → (end_at (cell_at gone r d).inboxes r s x).list ≡ (end_at (cell_at met r d).inboxes r s x).list
  own_inbox s d x n other (inl o) = ap (λ l. (end_at l r s x).list) o.1.inboxes
  own_inbox s d x n other (inr o) =
      let here : r ≡ to = sym (role_met d) ∙ o.0 in
      ap (λ (y : End). y.list) (o.1.others.others (slot r s) x (λ f. slot_apart r s from n (λ g. apart (g ∙ here)) (λ g. other (g, here)) (f ∙ ap (λ k. slot k from) (role_met d))))

  own_post : (q : ℕ) (d : CellView) (x : End) → (q ≡ r → ⊥) → ((r ≡ from) × (q ≡ to) → ⊥) → ((cell_at met r d).part.role ≡ from) × OnePost (cell_at met r d) (cell_at gone r d) to ⊎ ((cell_at met r d).part.role ≡ to) × OneInbox (cell_at met r d) (cell_at gone r d) from → (end_at (cell_at gone r d).posts r q x).list ≡ (end_at (cell_at met r d).posts r q x).list
  own_post q d x n other (inl o) =
      let here : r ≡ from = sym (role_met d) ∙ o.0 in
      ap (λ (y : End). y.list) (o.1.others.others (slot r q) x (λ f. slot_apart r q to n (λ g. apart (sym here ∙ sym g)) (λ g. other (here, g)) (f ∙ ap (λ k. slot k to) (role_met d))))
  own_post q d x n other (inr o) = ap (λ l. (end_at l r q x).list) o.1.posts

  inbox_same : (s q : ℕ) (d : CellView) (x : End) → (s ≡ q → ⊥) → ((s ≡ from) × (q ≡ to) → ⊥) → (end_at (cell_at gone q d).inboxes q s x).list ≡ (end_at (cell_at met q d).inboxes q s x).list
  inbox_same s q d x n other = ⊎_elim
      (λ f. subst (λ k. (end_at (cell_at gone k d).inboxes k s x).list ≡ (end_at (cell_at met k d).inboxes k s x).list) (sym f) (own_inbox s d x (λ g. n (g ∙ sym f)) (λ g. other (g.0, f ∙ g.1)) (made d).ends))
      (λ m. ap (λ (c : CellView). (end_at c.inboxes q s x).list) (others q d m))
      (cases_eq q r)

  post_same : (s q : ℕ) (d : CellView) (x : End) → (s ≡ q → ⊥) → ((s ≡ from) × (q ≡ to) → ⊥) → (end_at (cell_at gone s d).posts s q x).list ≡ (end_at (cell_at met s d).posts s q x).list
  post_same s q d x n other = ⊎_elim
      (λ f. subst (λ k. (end_at (cell_at gone k d).posts k q x).list ≡ (end_at (cell_at met k d).posts k q x).list) (sym f) (own_post q d x (λ g. n (f ∙ sym g)) (λ g. other (f ∙ g.0, g.1)) (made d).ends))
      (λ m. ap (λ (c : CellView). (end_at c.posts s q x).list) (others s d m))
      (cases_eq s r)

  module _ (last : List CellView) (meet : AllMet gone last) (paired : (d : CellView) → ArePaired (cell_at gone from d) (cell_at last from d) (cell_at gone to d) (cell_at last to d)) where
    pub out_last : AreOut book last
    out_last = met_out book gone last out_gone meet

    begun_pair : (d : CellView) (x : End) → Begins (end_at (cell_at gone to d).inboxes to from x).list (end_at (cell_at gone from d).posts from to x).list
    begun_pair d x =
        let a : (cell_at gone from d).part.role ≡ from = (out_gone.each from d lf).role_is in
        let b : (cell_at gone to d).part.role ≡ to = (out_gone.each to d lt).role_is in
        subst (λ (z : ℕ × ℕ). Begins (end_at (cell_at gone to d).inboxes z.1 z.0 x).list (end_at (cell_at gone from d).posts z.0 z.1 x).list) (λ i. (a i, b i)) ((paired d).met.begins x)

    begun_other : (s q : ℕ) (d : CellView) (x : End) → s < roles_of book.setup → q < roles_of book.setup → (s ≡ q → ⊥) → ((s ≡ from) × (q ≡ to) → ⊥) → Begins (end_at (cell_at gone q d).inboxes q s x).list (end_at (cell_at gone s d).posts s q x).list
    begun_other s q d x ls lq n other = subst (λ (z : List Message × List Message). Begins z.0 z.1) (λ i. (sym (inbox_same s q d x n other) i, sym (post_same s q d x n other) i)) (home.begun s q d x ls lq n)

    begun_gone : AreBegun (roles_of book.setup) gone
    begun_gone s q d x ls lq n = ⊎_elim
        (λ f. ⊎_elim
        (λ g. subst (λ (z : ℕ × ℕ). Begins (end_at (cell_at gone z.1 d).inboxes z.1 z.0 x).list (end_at (cell_at gone z.0 d).posts z.0 z.1 x).list) (λ i. (sym f i, sym g i)) (begun_pair d x))
        (λ m. begun_other s q d x ls lq n (λ both. m both.1))
        (cases_eq q to))
        (λ m. begun_other s q d x ls lq n (λ both. m both.0))
        (cases_eq s from)

    pub begun_last : AreBegun (roles_of book.setup) last
    begun_last s q d x ls lq n = subst (λ (z : List Message × List Message). Begins z.0 z.1) (λ i. (sym ((meet.1 q d).inboxes (slot q s) x).list i, sym ((meet.1 s d).posts (slot s q) x).list i)) (begun_gone s q d x ls lq n)

    some_cell : CellView
    some_cell = (item last r (let c = out_last.count in omega (arith, c, lr))).0

    pub an_end : (s q : ℕ) → s < roles_of book.setup → q < roles_of book.setup → (s ≡ q → ⊥) → End
    an_end s q ls lq n = (item (cell_at gone r some_cell).posts 0 (let a : length (cell_at gone r some_cell).posts + 1 ≡ roles_of book.setup = (was some_cell).ends.post_count ∙ ap roles_of (out_gone.each r some_cell lr).setup_is in omega (arith, a, ls, lq, n))).0

    abbrev made_one : Timed
    made_one = record { stamp = (made some_cell).time; step = (made some_cell).entry }

    module _ (accepted : IsAcceptedProtocol book.setup.protocol) where
      hold : HoldOne (log_at (logs_in last)) r made_one
      hold = record {
        one = log_is book last out_last begun_last accepted legal r some_cell lr ∙ ap (λ (p : PartView). p.log) (meet.1 r some_cell).part ∙ (made some_cell).log;
        none = λ q n. ⊎_elim
            (λ l. log_is book last out_last begun_last accepted legal q some_cell l ∙ ap (λ (p : PartView). p.log) (meet.1 q some_cell).part ∙ ap (λ (c : CellView). c.part.log) (others q some_cell n) ∙ home.logs q some_cell l)
            (λ le. no_log book last out_last begun_last accepted legal q le)
            (cases_lt q (roles_of book.setup));
      }

      made_role : role_of made_one.step ≡ r
      made_role = (subst (IsLog (rules_of book.setup) r (state_of book)) (sym (log_is book last out_last begun_last accepted legal r some_cell lr) ∙ hold.one) (out_last.each r some_cell lr).lawful).0

      made_may : May (rules_of book.setup) (state_of book) made_one.step
      made_may = (merged_legal book last out_last begun_last accepted legal (made_one.step ∷ []) (one_merge (logs_in last) r made_one hold) (is_round book last out_last begun_last accepted legal an_end)).0

      -- they are out with the entry of the one-thread order
      pub out_with : (e : Event) (entry : Entry) → IsNextEvent book entry e → e.role ≡ r → AreOutWith book last entry
      out_with e entry next role = record {
        step = next.step;
        out = out_last;
        begun = begun_last;
        declared = subst (λ q. q < roles_of book.setup) (sym of) lr;
        stamp = made_one.stamp;
        made = λ d. subst (λ q. (cell_at last q d).part.log ≡ record { stamp = made_one.stamp; step = entry } ∷ []) (sym of) (sym (log_is book last out_last begun_last accepted legal r d lr) ∙ hold.one ∙ ap (λ (z : Entry). record { stamp = made_one.stamp; step = z } ∷ []) same);
        others = λ q d l n. sym (log_is book last out_last begun_last accepted legal q d l) ∙ hold.none q (λ f. n (f ∙ sym of));
        there = an_end;
      }
        where
          two_ends : HasTwoEnds (net_for book.setup)
          two_ends = (proper (text_of book.setup) (roles_of book.setup) accepted.form).two_ends

          same : made_one.step ≡ entry
          same = ⊎_elim
              (λ f. sent_is (rules_of book.setup) (state_of book) e made_one.step two_ends (subst (IsStep (rules_of book.setup) (state_of book)) f next.step) (made_role ∙ sym role) made_may ∙ sym f)
              (λ f. got_is (rules_of book.setup) (state_of book) e made_one.step two_ends (subst (IsStep (rules_of book.setup) (state_of book)) f next.step) (made_role ∙ sym role) made_may ∙ sym f)
              next.is

          of : role_of entry ≡ r
          of = ap role_of (sym same) ∙ made_role

-- a poll where a crash is due
crash_only : (c c' : CellView) (poll : Poll) → Polled c c' poll → IsDue c.part → c' ≡ cell_of (with_crash c.part) c.posts c.inboxes
crash_only c c' polls.Crashed p due = p.1
crash_only c c' polls.Done p due = absurd (p.0 due)
crash_only c c' polls.Tired p due = absurd (p.0 due)
crash_only c c' polls.Waiting p due = absurd (p.0.calm due)
crash_only c c' polls.Moved p due = absurd (p.0.calm due)

-- a cell at home whose role is due was polled
module _ (book : BookView) (old gone : List CellView) (home : AreHome book old) (r : ℕ) (step : IsStep (rules_of book.setup) (state_of book) (Crash r)) (count : length gone ≡ length old) (others : (k : ℕ) (d : CellView) → (k ≡ r → ⊥) → cell_at gone k d ≡ cell_at old k d) (was : (d : CellView) → WasPolled (cell_at old r d) (cell_at gone r d)) where
  is_due : (d : CellView) → IsDue (cell_at old r d).part
  is_due d =
      let o = home.out.each r d step.2 in
      let own : IsOwnDue (rules_of book.setup) r (cell_at old r d).part.own = subst (IsOwnDue (rules_of book.setup) r) (own_at_home book old home r d step.2) step.1.0 in
      subst (λ (z : SessionView × ℕ). IsOwnDue (rules_of z.0) z.1 (cell_at old r d).part.own) (λ i. (sym o.setup_is i, sym o.role_is i)) own

  crashed_cell : (d : CellView) → cell_at gone r d ≡ cell_of (with_crash (cell_at old r d).part) (cell_at old r d).posts (cell_at old r d).inboxes
  crashed_cell d = crash_only (cell_at old r d) (cell_at gone r d) (was d).poll (was d).polled (is_due d)

  same_posts : (k : ℕ) (d : CellView) → (cell_at gone k d).posts ≡ (cell_at old k d).posts
  same_posts k d = ⊎_elim
      (λ f. subst (λ j. (cell_at gone j d).posts ≡ (cell_at old j d).posts) (sym f) (ap (λ (c : CellView). c.posts) (crashed_cell d)))
      (λ n. ap (λ (c : CellView). c.posts) (others k d n))
      (cases_eq k r)

  same_inboxes : (k : ℕ) (d : CellView) → (cell_at gone k d).inboxes ≡ (cell_at old k d).inboxes
  same_inboxes k d = ⊎_elim
      (λ f. subst (λ j. (cell_at gone j d).inboxes ≡ (cell_at old j d).inboxes) (sym f) (ap (λ (c : CellView). c.inboxes) (crashed_cell d)))
      (λ n. ap (λ (c : CellView). c.inboxes) (others k d n))
      (cases_eq k r)

  crash_out : AreOut book gone
  crash_out = gone_out book old gone home (one_goes book old home gone r count others was)

  some_old : CellView
  some_old = (item old r (let c = home.out.count in let l = step.2 in omega (arith, c, l))).0

  crash_end : (s q : ℕ) → s < roles_of book.setup → q < roles_of book.setup → (s ≡ q → ⊥) → End
  crash_end s q ls lq n = (item (cell_at gone r some_old).posts 0 (let a : length (cell_at gone r some_old).posts + 1 ≡ roles_of book.setup = (was some_old).ends.post_count ∙ ap roles_of (crash_out.each r some_old step.2).setup_is in omega (arith, a, ls, lq, n))).0

  crash_log : (d : CellView) → (cell_at gone r d).part.log ≡ record { stamp = (numbers_at (state_of book).roles r).clock; step = Crash r } ∷ []
  crash_log d =
      ap (λ (c : CellView). c.part.log) (crashed_cell d)
      ∙ ap (λ l. l ++ record { stamp = (cell_at old r d).part.own.numbers.clock; step = Crash (cell_at old r d).part.role } ∷ []) (home.logs r d step.2)
      ∙ ap (λ (o : Own). record { stamp = o.numbers.clock; step = Crash (cell_at old r d).part.role } ∷ []) (sym (own_at_home book old home r d step.2))
      ∙ ap (λ q. record { stamp = (numbers_at (state_of book).roles r).clock; step = Crash q } ∷ []) (home.out.each r d step.2).role_is

  pub out_with_crash : AreOutWith book gone (Crash r)
  out_with_crash = record {
    step = step;
    out = crash_out;
    begun = λ s q d e ls lq n. subst (λ (z : List End × List End). Begins (end_at z.0 q s e).list (end_at z.1 s q e).list) (λ i. (sym (same_inboxes q d) i, sym (same_posts s d) i)) (home.begun s q d e ls lq n);
    declared = step.2;
    stamp = (numbers_at (state_of book).roles r).clock;
    made = crash_log;
    others = λ q d l n. ap (λ (c : CellView). c.part.log) (others q d n) ∙ home.logs q d l;
    there = crash_end;
  }

-- the point of a next Send or Recv stands in the text, between two roles of the protocol
pub record IsBetween (setup : SessionView) (p : ℕ) : Type 0 where
  pub first : 1 ≤ p
  pub last : p ≤ (net_for setup).count
  pub sender : (net_for setup).sender p < roles_of setup
  pub receiver : (net_for setup).receiver p < roles_of setup

between : (setup : SessionView) (r k p : ℕ) → IsAcceptedProtocol setup.protocol → IsNext (net_for setup) r k p → IsBetween setup p
between setup r k p accepted next = record {
  first = in_text.0;
  last = in_text.1;
  sender = known.senders p in_text.0 in_text.1;
  receiver = known.receivers p in_text.0 in_text.1;
}
  where
    known : IsProper (net_for setup) (roles_of setup)
    known = proper (text_of setup) (roles_of setup) accepted.form

    in_text : (1 ≤ p) × (p ≤ (net_for setup).count)
    in_text = next_in_text (net_for setup) (roles_of setup) r k p known next

module _ (book : BookView) (accepted : IsAcceptedProtocol book.setup.protocol) (entry : Entry) (e : Event) (next : IsNextEvent book entry e) where
  as_send : entry ≡ Send e → IsStep (rules_of book.setup) (state_of book) (Send e)
  as_send f = subst (IsStep (rules_of book.setup) (state_of book)) f next.step

  as_recv : entry ≡ Recv e → IsStep (rules_of book.setup) (state_of book) (Recv e)
  as_recv f = subst (IsStep (rules_of book.setup) (state_of book)) f next.step

  pub event_between : IsBetween book.setup e.point
  event_between = ⊎_elim
      (λ f. let may = (as_send f).3.1 in between book.setup e.role (place (state_of book) e.role) e.point accepted (may.next.sound e.point may.among))
      (λ f. let may = (as_recv f).3.1 in between book.setup e.role (place (state_of book) e.role) e.point accepted (may.own.next.sound e.point may.among))
      next.is

  pub event_declared : e.role < roles_of book.setup
  event_declared = ⊎_elim (λ f. (as_send f).3.1.free.declared) (λ f. (as_recv f).3.1.own.free.declared) next.is

  pub event_running : (numbers_at (state_of book).roles e.role).crashed ≡ false
  event_running = ⊎_elim (λ f. (as_send f).3.1.free.running) (λ f. (as_recv f).3.1.own.free.running) next.is

  pub ends_apart : (net_for book.setup).sender e.point ≡ (net_for book.setup).receiver e.point → ⊥
  ends_apart = (proper (text_of book.setup) (roles_of book.setup) accepted.form).two_ends e.point

-- a next Send or Recv, from the meeting before it to the one behind it
module _ (book : BookView) (old : List CellView) (home : AreHome book old) (entry : Entry) (e : Event) (next : IsNextEvent book entry e) (from to : ℕ) (from_is : (net_for book.setup).sender e.point ≡ from) (to_is : (net_for book.setup).receiver e.point ≡ to) (accepted : IsAcceptedProtocol book.setup.protocol) where
  low_from : from < roles_of book.setup
  low_from = subst (λ r. r < roles_of book.setup) from_is (event_between book accepted entry e next).sender

  low_to : to < roles_of book.setup
  low_to = subst (λ r. r < roles_of book.setup) to_is (event_between book accepted entry e next).receiver

  pub old_from : from < length old
  old_from = let c = home.out.count in let l = low_from in omega (arith, c, l)

  pub old_to : to < length old
  old_to = let c = home.out.count in let l = low_to in omega (arith, c, l)

  pub from_apart : from ≡ to → ⊥
  from_apart f = ends_apart book accepted entry e next (from_is ∙ f ∙ sym to_is)

  module _ (met : List CellView) (meet : AllMet old met) where
    pub met_can_poll : (d : CellView) → CanPoll (cell_at met e.role d)
    met_can_poll d = can_poll book met (met_home book old met home meet) e.role d (event_declared book accepted entry e next) (event_running book accepted entry e next)

    pub met_role : e.role < length met
    met_role = let c = (met_home book old met home meet).out.count in let l = event_declared book accepted entry e next in omega (arith, c, l)

    module _ (paired : (d : CellView) → ArePaired (cell_at old from d) (cell_at met from d) (cell_at old to d) (cell_at met to d)) (planned : IsPlanned (roles_of book.setup) book.setup.plan) (legal : IsLegal (rules_of book.setup) book.entries) (gone : List CellView) (count : length gone ≡ length met) (others : (k : ℕ) (d : CellView) → (k ≡ e.role → ⊥) → cell_at gone k d ≡ cell_at met k d) (was : (d : CellView) → WasPolled (cell_at met e.role d) (cell_at gone e.role d)) where
      made : (d : CellView) → HasMade (cell_at met e.role d) (cell_at gone e.role d) from to
      made d = event_made book old met home meet from to low_from low_to from_apart paired accepted planned legal e from_is to_is entry next.step next.is d (cell_at gone e.role d) (was d)

      gone_is_out : AreOut book gone
      gone_is_out = out_gone book met gone (met_home book old met home meet) e.role from to (event_declared book accepted entry e next) low_from low_to from_apart count others was made legal

      pub gone_from : from < length gone
      gone_from = let c = gone_is_out.count in let l = low_from in omega (arith, c, l)

      pub gone_to : to < length gone
      gone_to = let c = gone_is_out.count in let l = low_to in omega (arith, c, l)

      pub gone_meet : AllCanMeet gone
      gone_meet = out_can_meet book gone gone_is_out

      pub event_out : (last : List CellView) → AllMet gone last → ((d : CellView) → ArePaired (cell_at gone from d) (cell_at last from d) (cell_at gone to d) (cell_at last to d)) → AreOutWith book last entry
      event_out last meet' paired' = out_with book met gone (met_home book old met home meet) e.role from to (event_declared book accepted entry e next) low_from low_to from_apart count others was made legal last meet' paired' accepted e entry next refl
