-- A round: the cells go out, meet, and come home with their entries in the book.
use Rattle.std.proofs.Common.{◌≡◌, ℕ, zero, suc, ◌<◌, ◌≤◌, Some, List, [], ◌∷◌, ◌++◌, length, map, take, drop, refl, sym, ◌∙◌, ap, subst, ◌⊎◌, inl, inr, ⊎_elim, arith, append_assoc, append-nil}
use Rattle.std.specs.Prelude.{slice_get, slice_index_or, All}
use Rattle.std.proofs.lemmas.Bool.{cases_eq, cases_lt}
use Rattle.std.proofs.lemmas.List.{take-append-drop}
use Rattle.rcv_tree.specs.declared.entry.Entry.{Entry}
use Rattle.rcv_tree.specs.declared.entry.Timed.{Timed}
use Rattle.rcv_model.specs.Net.{IsPrefix}
use Rattle.rcv_model.specs.Run.{put, taken, IsRun}
use Rattle.rcv_model.specs.Journal.{Own, own_of, reading_from, IsLegal, IsLegalFrom}
use Rattle.rcv_model.proofs.Forms.{proper}
use Rattle.rcv_model.proofs.Keeping.{by_role, put_through, taken_through}
use Rattle.rcv_model.proofs.Legal.{accepted_runs}
use Rattle.rcv_model.proofs.Lists.{prefix_trans, prefix_map}
use Rattle.rcv_model.proofs.Located.{item}
use Rattle.rcv_model.specs.Run.{put_by}
use Rattle.rcv_model.specs.Premises.{IsSession}
use Rattle.rcv_theory.specs.Round.{entries, events_in, NeverFalls, IsLog, IsRound, IsMerge, in_order}
use Rattle.rcv_theory.proofs.Following.{follows_log}
use Rattle.rcv_theory.proofs.Merging.{kept_log, legal_merge}
use Rattle.rcv_theory.proofs.Stamps.{by_stamp_merges, never_falls}
use Rattle.rcv_ring.specs.Lists.{Begins}
use Rattle.rcv_mailbox.specs.Ends.{End, IsChannel}
use Rattle.rcv_merge.specs.Merge.{log_at, IsMergeOf}
use Rattle.rcv_accept.specs.Accepted.{IsAcceptedProtocol}
use Rattle.rcv_session.specs.Session.{SessionView, text_of, roles_of, net_for, rules_of}
use Rattle.rcv_core.specs.Book.{BookView, state_of, with_more}
use Rattle.rcv_role.specs.Part.{PartView, HasNoStrangers}
use Rattle.rcv_role.specs.Ends.{slot, end_at}
use Rattle.rcv_role.specs.Cell.{CellView, Goes, without_log}
use Rattle.rcv_role.proofs.Lawful.{cells_follow_the_session}
use Rattle.rcv_role.proofs.Meeting.{channel_same, settled_met}
use Rattle.rcv_cells.specs.Home.{cell_at, round_steps, AreJoined, AreBegun, IsOutAt, AreOut, AreHome, IsReady, AllGo, AllMet, AllBegun, AllCanMeet, HasBegun, logs_in}
use Rattle.rcv_fence.specs.Shown.{Shown}
use Rattle.rcv_cells.specs.Running.{HaveRun, HasMadeRound}
use Rattle.rcv_cells.proofs.Meeting.{begun_on}
use Rattle.rcv_cells.proofs.Running.{all_go}

-- a look-up in a list that was mapped
pub map_at : {A B : Type 0} (f : A → B) (xs : List A) (k : ℕ) (d : A) → slice_index_or (map f xs) k (f d) ≡ f (slice_index_or xs k d)
map_at f [] k d = refl
map_at f (x ∷ xs) zero d = refl
map_at f (x ∷ xs) (suc k) d = map_at f xs k d

map_beyond : {A : Type 0} (xs : List A) (k : ℕ) (d : A) → length xs ≤ k → slice_index_or xs k d ≡ d
map_beyond [] k d le = refl
map_beyond (x ∷ xs) zero d le = absurd (omega (arith, le))
map_beyond (x ∷ xs) (suc k) d le = map_beyond xs k d (omega (arith, le))

pub map_length : {A B : Type 0} (f : A → B) (xs : List A) → length (map f xs) ≡ length xs
map_length f [] = refl
map_length f (x ∷ xs) = let e = map_length f xs in omega (arith, e)

-- an element is one under each default
pub any_default : {A : Type 0} (xs : List A) (k : ℕ) (d e : A) → k < length xs → slice_index_or xs k d ≡ slice_index_or xs k e
any_default [] k d e lt = absurd (omega (arith, lt))
any_default (x ∷ xs) zero d e lt = refl
any_default (x ∷ xs) (suc k) d e lt = any_default xs k d e (omega (arith, lt))

-- the cells have gone out
pub gone_out : (book : BookView) (old new : List CellView) → AreHome book old → AllGo old new → AreOut book new
gone_out book old new home go = record {
  count = go.0 ∙ home.out.count;
  each = λ r d lt. out r d lt (home.out.each r d lt) (home.logs r d lt) (go.1 r d (within r lt));
  joined = λ s r d e ls lr n. joined s r d e ls lr n;
}
  where
    within : (r : ℕ) → r < roles_of book.setup → r < length old
    within r lt = let c = home.out.count in omega (arith, c, lt)

    out : (r : ℕ) (d : CellView) → r < roles_of book.setup → IsOutAt book.setup (state_of book) r (cell_at old r d) → (cell_at old r d).part.log ≡ [] → Goes (cell_at old r d) (cell_at new r d) → IsOutAt book.setup (state_of book) r (cell_at new r d)
    out r d lt o none g =
        let log : (cell_at new r d).part.log ≡ g.more = g.log ∙ ap (λ l. l ++ g.more) none in
        let here : own_of (state_of book) r ≡ (cell_at old r d).part.own = subst (λ l. own_of (reading_from (rules_of book.setup) (state_of book) (entries l)) r ≡ (cell_at old r d).part.own) none o.own in
        let law = cells_follow_the_session (cell_at old r d) (cell_at new r d) (state_of book) g (subst (λ q. own_of (state_of book) q ≡ (cell_at old r d).part.own) (sym o.role_is) here) in
        let law' : IsLog (rules_of book.setup) r (state_of book) g.more × (own_of (reading_from (rules_of book.setup) (state_of book) (entries g.more)) r ≡ (cell_at new r d).part.own) = subst (λ (z : SessionView × ℕ). IsLog (rules_of z.0) z.1 (state_of book) g.more × (own_of (reading_from (rules_of z.0) (state_of book) (entries g.more)) z.1 ≡ (cell_at new r d).part.own)) (λ i. (o.setup_is i, o.role_is i)) law in
        record {
          setup_is = g.setup ∙ o.setup_is;
          role_is = g.role ∙ o.role_is;
          lawful = subst (IsLog (rules_of book.setup) r (state_of book)) (sym log) law'.0;
          own = subst (λ l. own_of (reading_from (rules_of book.setup) (state_of book) (entries l)) r ≡ (cell_at new r d).part.own) (sym log) law'.1;
          settled = g.settled;
          strangers = g.strangers;
        }

    post_goes : (s r : ℕ) (d : CellView) (e x : End) → s < roles_of book.setup → r < roles_of book.setup → (s ≡ r → ⊥) → IsChannel (end_at (cell_at old s d).posts s r e) x → IsChannel (end_at (cell_at new s d).posts s r e) x
    post_goes s r d e x ls lr n h =
        let o = home.out.each s d ls in
        let g = go.1 s d (within s ls) in
        subst (λ q. IsChannel (end_at (cell_at new s d).posts q r e) x) o.role_is (g.posts r e x (subst (λ z. r < roles_of z) (sym o.setup_is) lr) (λ f. n (sym o.role_is ∙ sym f)) (subst (λ q. IsChannel (end_at (cell_at old s d).posts q r e) x) (sym o.role_is) h))

    inbox_goes : (s r : ℕ) (d : CellView) (e x : End) → s < roles_of book.setup → r < roles_of book.setup → (s ≡ r → ⊥) → IsChannel x (end_at (cell_at old r d).inboxes r s e) → IsChannel x (end_at (cell_at new r d).inboxes r s e)
    inbox_goes s r d e x ls lr n h =
        let o = home.out.each r d lr in
        let g = go.1 r d (within r lr) in
        subst (λ q. IsChannel x (end_at (cell_at new r d).inboxes q s e)) o.role_is (g.inboxes s e x (subst (λ z. s < roles_of z) (sym o.setup_is) ls) (λ f. n (f ∙ o.role_is)) (subst (λ q. IsChannel x (end_at (cell_at old r d).inboxes q s e)) (sym o.role_is) h))

    joined : AreJoined (roles_of book.setup) new
    joined s r d e ls lr n = inbox_goes s r d e (end_at (cell_at new s d).posts s r e) ls lr n (post_goes s r d e (end_at (cell_at old r d).inboxes r s e) ls lr n (home.out.joined s r d e ls lr n))

-- the cells have met
pub met_out : (book : BookView) (old new : List CellView) → AreOut book old → AllMet old new → AreOut book new
met_out book old new out met = record {
  count = met.0 ∙ out.count;
  each = λ r d lt. let o = out.each r d lt in let m = met.1 r d in record {
    setup_is = ap (λ (p : PartView). p.setup) m.part ∙ o.setup_is;
    role_is = ap (λ (p : PartView). p.role) m.part ∙ o.role_is;
    lawful = subst (λ (p : PartView). IsLog (rules_of book.setup) r (state_of book) p.log) (sym m.part) o.lawful;
    own = subst (λ (p : PartView). own_of (reading_from (rules_of book.setup) (state_of book) (entries p.log)) r ≡ p.own) (sym m.part) o.own;
    settled = settled_met (cell_at old r d) (cell_at new r d) m o.settled;
    strangers = subst HasNoStrangers (sym m.part) o.strangers;
  };
  joined = λ s r d e ls lr n. channel_same _ _ _ _ ((met.1 s d).posts (slot s r) e) ((met.1 r d).inboxes (slot r s) e) (out.joined s r d e ls lr n);
}

module _ (book : BookView) (cells : List CellView) (out : AreOut book cells) (begun : AreBegun (roles_of book.setup) cells) (accepted : IsAcceptedProtocol book.setup.protocol) (legal : IsLegal (rules_of book.setup) book.entries) where
  run : IsRun (net_for book.setup) (state_of book).kept
  run = accepted_runs (rules_of book.setup) book.entries (proper (text_of book.setup) (roles_of book.setup) accepted.form) accepted.accepted legal book.entries [] (append-nil book.entries)

  abbrev log_of : ℕ → List Timed
  log_of r = log_at (logs_in cells) r

  pub log_is : (r : ℕ) (d : CellView) → r < roles_of book.setup → log_of r ≡ (cell_at cells r d).part.log
  log_is r d lt =
      let c = out.count in
      let m = map_length (λ (x : CellView). x.part.log) cells in
      any_default (logs_in cells) r [] d.part.log (omega (arith, c, m, lt)) ∙ map_at (λ (x : CellView). x.part.log) cells r d

  pub no_log : (r : ℕ) → roles_of book.setup ≤ r → log_of r ≡ []
  no_log r le = let c = out.count in let m = map_length (λ (x : CellView). x.part.log) cells in map_beyond (logs_in cells) r [] (omega (arith, c, m, le))

  a_cell : (r : ℕ) → r < roles_of book.setup → CellView
  a_cell r lt = (item cells r (let c = out.count in omega (arith, c, lt))).0

  log_lawful : (r : ℕ) → IsLog (rules_of book.setup) r (state_of book) (log_of r)
  log_lawful r = ⊎_elim
      (λ lt. let d = a_cell r lt in subst (IsLog (rules_of book.setup) r (state_of book)) (sym (log_is r d lt)) (out.each r d lt).lawful)
      (λ le. subst (IsLog (rules_of book.setup) r (state_of book)) (sym (no_log r le)) tt)
      (cases_lt r (roles_of book.setup))

  own_log : (r : ℕ) (d : CellView) → r < roles_of book.setup → own_of (reading_from (rules_of book.setup) (state_of book) (entries (log_of r))) r ≡ (cell_at cells r d).part.own
  own_log r d lt = subst (λ l. own_of (reading_from (rules_of book.setup) (state_of book) (entries l)) r ≡ (cell_at cells r d).part.own) (sym (log_is r d lt)) (out.each r d lt).own

  -- what a cell holds is what the book keeps of its role, and its log
  held : (r : ℕ) (d : CellView) → r < roles_of book.setup → (cell_at cells r d).part.own.events ≡ by_role r ((state_of book).kept ++ events_in (log_of r))
  held r d lt = sym (ap (λ (o : Own). o.events) (own_log r d lt)) ∙ ap (by_role r) (kept_log (rules_of book.setup) r (state_of book) (log_of r) (log_lawful r))

  taken_held : (t r : ℕ) (d : CellView) → r < roles_of book.setup → taken (net_for book.setup) t r ((state_of book).kept ++ events_in (log_of r)) ≡ taken (net_for book.setup) t r (cell_at cells r d).part.own.events
  taken_held t r d lt = taken_through (net_for book.setup) t r ((state_of book).kept ++ events_in (log_of r)) ∙ ap (taken (net_for book.setup) t r) (sym (held r d lt))

  put_held : (t r : ℕ) (d : CellView) → t < roles_of book.setup → put (net_for book.setup) t r ((state_of book).kept ++ events_in (log_of t)) ≡ put (net_for book.setup) t r (cell_at cells t d).part.own.events
  put_held t r d lt = put_through (net_for book.setup) t r ((state_of book).kept ++ events_in (log_of t)) ∙ ap (put (net_for book.setup) t r) (sym (held t d lt))

  nothing : (t r : ℕ) (d : CellView) → r < roles_of book.setup → (t ≡ r) ⊎ (roles_of book.setup ≤ t) → taken (net_for book.setup) t r (cell_at cells r d).part.own.events ≡ []
  nothing t r d lt o =
      let x = out.each r d lt in
      subst (λ (z : SessionView × ℕ). (t ≡ z.1) ⊎ (roles_of z.0 ≤ t) → taken (net_for z.0) t z.1 (cell_at cells r d).part.own.events ≡ []) (λ i. (x.setup_is i, x.role_is i)) (x.strangers t) o

  Match : ℕ → ℕ → Type 0
  Match t r = IsPrefix (taken (net_for book.setup) t r ((state_of book).kept ++ events_in (log_of r))) (put (net_for book.setup) t r ((state_of book).kept ++ events_in (log_of t)))

  match_none : (t r : ℕ) → r < roles_of book.setup → (t ≡ r) ⊎ (roles_of book.setup ≤ t) → Match t r
  unfolding Match
  match_none t r lt o =
      let d = a_cell r lt in
      subst (λ l. IsPrefix l (put (net_for book.setup) t r ((state_of book).kept ++ events_in (log_of t)))) (sym (taken_held t r d lt ∙ nothing t r d lt o)) (put (net_for book.setup) t r ((state_of book).kept ++ events_in (log_of t)), refl)

  match_beyond : (t r : ℕ) → roles_of book.setup ≤ r → Match t r
  unfolding Match
  match_beyond t r le =
      let first : IsPrefix (taken (net_for book.setup) t r (state_of book).kept) (put (net_for book.setup) t r (state_of book).kept) = run.1.queued (state_of book).kept [] (append-nil (state_of book).kept) t r in
      let second : IsPrefix (put (net_for book.setup) t r (state_of book).kept) (put (net_for book.setup) t r ((state_of book).kept ++ events_in (log_of t))) = prefix_map (put_by (net_for book.setup) t r) (state_of book).kept ((state_of book).kept ++ events_in (log_of t)) (events_in (log_of t), refl) in
      subst (λ l. IsPrefix (taken (net_for book.setup) t r l) (put (net_for book.setup) t r ((state_of book).kept ++ events_in (log_of t)))) (sym (ap (λ l. (state_of book).kept ++ events_in l) (no_log r le) ∙ append-nil (state_of book).kept)) (prefix_trans _ _ _ first second)

  match_ends : (t r : ℕ) (e : End) → t < roles_of book.setup → r < roles_of book.setup → (t ≡ r → ⊥) → Match t r
  unfolding Match
  match_ends t r e lt lr n =
      let d : CellView = a_cell r lr in
      let x = out.each r d lr in
      let y = out.each t d lt in
      let inbox : End = end_at (cell_at cells r d).inboxes r t e in
      let post : End = end_at (cell_at cells t d).posts t r e in
      let from = subst (λ (z : SessionView × ℕ). t < roles_of z.0 → (t ≡ z.1 → ⊥) → take (end_at (cell_at cells r d).inboxes z.1 t e).got (end_at (cell_at cells r d).inboxes z.1 t e).list ≡ taken (net_for z.0) t z.1 (cell_at cells r d).part.own.events) (λ i. (x.setup_is i, x.role_is i)) (λ l m. (x.settled t e l m).taken) lt n in
      let to = subst (λ (z : SessionView × ℕ). r < roles_of z.0 → (r ≡ z.1 → ⊥) → (end_at (cell_at cells t d).posts z.1 r e).list ≡ put (net_for z.0) z.1 r (cell_at cells t d).part.own.events) (λ i. (y.setup_is i, y.role_is i)) (λ l m. (y.settled r e l m).put) lr (λ f. n (sym f)) in
      let b : Begins inbox.list post.list = begun t r d e lt lr n in
      let whole : take inbox.got inbox.list ++ (drop inbox.got inbox.list ++ b.0) ≡ post.list = sym (append_assoc (take inbox.got inbox.list) (drop inbox.got inbox.list) b.0) ∙ ap (λ l. l ++ b.0) (take-append-drop inbox.got inbox.list) ∙ b.1 in
      (drop inbox.got inbox.list ++ b.0, ap (λ l. l ++ (drop inbox.got inbox.list ++ b.0)) (taken_held t r d lr ∙ sym from) ∙ whole ∙ to ∙ sym (put_held t r d lt))

  pub is_round : ((t r : ℕ) → t < roles_of book.setup → r < roles_of book.setup → (t ≡ r → ⊥) → End) → IsRound (rules_of book.setup) (state_of book) log_of
  unfolding Match
  is_round e = record {
    local = log_lawful;
    match = λ t r. ⊎_elim
        (λ lr. ⊎_elim
        (λ lt. ⊎_elim (λ f. match_none t r lr (inl f)) (λ n. match_ends t r (e t r lt lr n) lt lr n) (cases_eq t r))
        (λ le. match_none t r lr (inr le))
        (cases_lt t (roles_of book.setup)))
        (λ le. match_beyond t r le)
        (cases_lt r (roles_of book.setup));
  }

  pub logs_rise : All NeverFalls (logs_in cells)
  logs_rise r d lt i j x y le f g =
      let c = any_default (logs_in cells) r d [] lt in
      never_falls (rules_of book.setup) r (state_of book) (log_of r) (log_lawful r) i j x y le (subst (λ l. slice_get l i ≡ Some x) c f) (subst (λ l. slice_get l j ≡ Some y) c g)

  module _ (merged : List Entry) (is : IsMergeOf (logs_in cells) merged) (round : IsRound (rules_of book.setup) (state_of book) log_of) where
    merge : IsMerge (net_for book.setup) (state_of book).kept log_of (in_order is.placed)
    merge = by_stamp_merges (rules_of book.setup) (state_of book) log_of is.placed round is.by_stamp

    pub merged_legal : IsLegalFrom (rules_of book.setup) (state_of book) merged
    merged_legal = subst (IsLegalFrom (rules_of book.setup) (state_of book)) (sym is.is) (legal_merge (rules_of book.setup) (state_of book) log_of (in_order is.placed) (proper (text_of book.setup) (roles_of book.setup) accepted.form) accepted.accepted round merge run)

    session : IsSession (rules_of book.setup)
    session = record { proper = proper (text_of book.setup) (roles_of book.setup) accepted.form; accepted = accepted.accepted }

    own_home : (r : ℕ) (d : CellView) → r < roles_of book.setup → own_of (state_of (with_more book merged)) r ≡ (cell_at cells r d).part.own
    own_home r d lt =
        ap (λ l. own_of (state_of (with_more book l)) r) is.is
        ∙ follows_log (rules_of book.setup) book.entries log_of (in_order is.placed) r session (record { legal = legal; round = round; merge = merge })
        ∙ own_log r d lt

    -- the cells come home with cleared logs
    pub come_home : (cells' : List CellView) → length cells' ≡ length cells → ((r : ℕ) (d : CellView) → r < length cells → cell_at cells' r d ≡ without_log (cell_at cells r d)) → AreHome (with_more book merged) cells'
    come_home cells' count same = record {
      out = record {
        count = count ∙ out.count;
        each = λ r d lt. let o = out.each r d lt in subst (IsOutAt book.setup (state_of (with_more book merged)) r) (sym (same r d (within r lt))) (record {
          setup_is = o.setup_is;
          role_is = o.role_is;
          lawful = tt;
          own = own_home r d lt;
          settled = o.settled;
          strangers = o.strangers;
        });
        joined = λ s r d e ls lr n. subst (λ (z : CellView × CellView). IsChannel (end_at z.0.posts s r e) (end_at z.1.inboxes r s e)) (λ i. (sym (same s d (within s ls)) i, sym (same r d (within r lr)) i)) (out.joined s r d e ls lr n);
      };
      begun = λ s r d e ls lr n. subst (λ (z : CellView × CellView). Begins (end_at z.1.inboxes r s e).list (end_at z.0.posts s r e).list) (λ i. (sym (same s d (within s ls)) i, sym (same r d (within r lr)) i)) (begun s r d e ls lr n);
      logs = λ r d lt. ap (λ (c : CellView). c.part.log) (same r d (within r lt));
    }
      where
        within : (r : ℕ) → r < roles_of book.setup → r < length cells
        within r lt = let c = out.count in omega (arith, c, lt)

-- a round: what was at home has gone, has met, and comes home
module _ (book : BookView) (old gone met : List CellView) (home : AreHome book old) (go : AllGo old gone) (meet : AllMet gone met) (known : AllBegun gone) (accepted : IsAcceptedProtocol book.setup.protocol) (legal : IsLegal (rules_of book.setup) book.entries) where
  out : AreOut book gone
  out = gone_out book old gone home go

  out' : AreOut book met
  out' = met_out book gone met out meet

  here : (s r : ℕ) (d : CellView) → s < roles_of book.setup → r < roles_of book.setup → (s ≡ r → ⊥) → HasBegun (cell_at met r d) (cell_at met s d)
  here s r d ls lr n = begun_on _ _ _ _ (meet.1 r d) (meet.1 s d) (known s r d (let c = out.count in omega (arith, c, ls)) (let c = out.count in omega (arith, c, lr)) n)

  begun' : AreBegun (roles_of book.setup) met
  begun' s r d e ls lr n = subst (λ (z : ℕ × ℕ). Begins (end_at (cell_at met r d).inboxes z.1 z.0 e).list (end_at (cell_at met s d).posts z.0 z.1 e).list) (λ i. ((out'.each s d ls).role_is i, (out'.each r d lr).role_is i)) ((here s r d ls lr n).begins e)

  some_cell : (r : ℕ) → r < roles_of book.setup → CellView
  some_cell r lt = (item met r (let c = out'.count in omega (arith, c, lt))).0

  pub round' : IsRound (rules_of book.setup) (state_of book) (λ r. log_at (logs_in met) r)
  round' = is_round book met out' begun' accepted legal (λ t r lt lr n. (here t r (some_cell r lr) lt lr n).there)

  pub rise : All NeverFalls (logs_in met)
  rise = logs_rise book met out' begun' accepted legal

  module _ (merged : List Entry) (is : IsMergeOf (logs_in met) merged) where
    pub may_come : IsLegalFrom (rules_of book.setup) (state_of book) merged
    may_come = merged_legal book met out' begun' accepted legal merged is round'

    pub come_back : (book' : BookView) (cells' : List CellView) → book' ≡ with_more book merged → length cells' ≡ length met → ((r : ℕ) (d : CellView) → r < length met → cell_at cells' r d ≡ without_log (cell_at met r d)) → AreHome book' cells'
    come_back book' cells' f count same = subst (λ b. AreHome b cells') (sym f) (come_home book met out' begun' accepted legal merged is round' cells' count same)

-- cells at home may run
pub all_ready : (book : BookView) (cells : List CellView) → AreHome book cells → All IsReady cells
all_ready book cells home r d lt = let c = home.out.count in let l : r < roles_of book.setup = omega (arith, c, lt) in ((home.out.each r d l).settled, few (cell_at cells r d).part.log (home.logs r d l))
  where
    few : (log : List Timed) → log ≡ [] → length log ≤ round_steps
    few log none = let e = ap length none in omega (arith, e)

-- and those that are out can meet
pub gone_can_meet : (book : BookView) (old gone : List CellView) → AreHome book old → AllGo old gone → AllCanMeet gone
gone_can_meet book old gone home go s r d ls lr n =
    let out = gone_out book old gone home go in
    let c = out.count in
    let a = out.each s d (omega (arith, c, ls)) in
    let b = out.each r d (omega (arith, c, lr)) in
    record {
      setup = a.setup_is ∙ sym b.setup_is;
      apart = λ f. n (sym a.role_is ∙ f ∙ b.role_is);
      channel = λ e. subst (λ (z : ℕ × ℕ). IsChannel (end_at (cell_at gone s d).posts z.0 z.1 e) (end_at (cell_at gone r d).inboxes z.1 z.0 e)) (λ i. (sym a.role_is i, sym b.role_is i)) (out.joined s r d e (omega (arith, c, ls)) (omega (arith, c, lr)) n);
    }

-- the logs of cells that have met are what they were
pub same_logs : (gone met : List CellView) → AllMet gone met → logs_in met ≡ logs_in gone
same_logs [] [] all = refl
same_logs [] (y ∷ ys) all = absurd (let c = all.0 in omega (arith, c))
same_logs (x ∷ xs) [] all = absurd (let c = all.0 in omega (arith, c))
same_logs (x ∷ xs) (y ∷ ys) all =
    ap (λ l. l ∷ logs_in ys) (ap (λ (p : PartView). p.log) (all.1 0 x).part)
    ∙ ap (λ l. x.part.log ∷ l) (same_logs xs ys (let c = all.0 in omega (arith, c), λ r d. all.1 (suc r) d))

-- there are no more cells than roles
pub few_cells : (book : BookView) (old gone met : List CellView) → AreHome book old → AllGo old gone → AllMet gone met → roles_of book.setup ≤ 8 → length met ≤ 8
few_cells book old gone met home go meet few = let a = home.out.count in let b = go.0 in let c = meet.0 in omega (arith, a, b, c, few)

-- what was added came of a round
module _ (watch : Shown) (book : BookView) (old gone met : List CellView) (home : AreHome book old) (ran : HaveRun watch old gone) (meet : AllMet gone met) (known : AllBegun gone) (accepted : IsAcceptedProtocol book.setup.protocol) (legal : IsLegal (rules_of book.setup) book.entries) where
  pub made_round : (merged : List Entry) → IsMergeOf (logs_in met) merged → (new : BookView) → new ≡ with_more book merged → HasMadeRound watch book new old
  made_round merged is new added = record {
    gone = gone;
    ran = ran;
    merged = merged;
    is = subst (λ l. IsMergeOf l merged) (same_logs gone met meet) is;
    lawful = λ r. subst (λ l. IsLog (rules_of book.setup) r (state_of book) (log_at l r)) (same_logs gone met meet) ((round' book old gone met home (all_go watch old gone ran) meet known accepted legal).local r);
    added = added;
  }
