-- A recovery beside a round: the cells that went back and those that went on can meet, what these did is legal behind the
-- recovery, and all come home.
use Rattle.std.proofs.Common.{◌≡◌, ℕ, zero, suc, ◌<◌, ◌≤◌, Bool, true, false, List, [], ◌∷◌, ◌++◌, length, refl, sym, ◌∙◌, ap, subst, ⊎_elim, arith, append_assoc, append-nil}
use Rattle.std.specs.Prelude.{slice_index_or, All}
use Rattle.std.proofs.lemmas.Bool.{cases_Bool, cases_lt}
use Rattle.rcv_tree.specs.Bits.{has_bit}
use Rattle.rcv_tree.specs.declared.entry.Entry.{Entry}
use Rattle.rcv_tree.specs.declared.entry.Entry.TheVariants.{Recover}
use Rattle.rcv_tree.specs.declared.role.RoleSet.{RoleSet}
use Rattle.rcv_model.specs.Run.{IsRun}
use Rattle.rcv_model.specs.Journal.{own_of, start, reading, reading_from, May, IsLegal, IsLegalFrom}
use Rattle.rcv_model.specs.Premises.{IsSession}
use Rattle.rcv_model.proofs.Forms.{proper}
use Rattle.rcv_model.proofs.Legal.{accepted_runs, legal_more}
use Rattle.rcv_model.proofs.Located.{item}
use Rattle.rcv_model.proofs.Numbers.{bounded}
use Rattle.rcv_model.proofs.StableLines.{reading_join, legal_back}
use Rattle.rcv_theory.specs.BystanderLaws.{IsRoundBeside}
use Rattle.rcv_theory.specs.Round.{entries, NeverFalls, IsRound, IsMerge, in_order}
use Rattle.rcv_theory.proofs.BesideRounds.{beside_recovery}
use Rattle.rcv_theory.proofs.Following.{bystander_follows, concerned_goes_back}
use Rattle.rcv_theory.proofs.Owning.{own_recovery}
use Rattle.rcv_theory.proofs.Stamps.{by_stamp_merges}
use Rattle.rcv_fence.specs.Shown.{FenceId}
use Rattle.rcv_ring.specs.Lists.{Begins}
use Rattle.rcv_mailbox.specs.Ends.{End, IsChannel}
use Rattle.rcv_merge.specs.Merge.{log_at, IsMergeOf}
use Rattle.rcv_accept.specs.Accepted.{IsAcceptedProtocol}
use Rattle.rcv_session.specs.Session.{SessionView, text_of, roles_of, net_for, rules_of}
use Rattle.rcv_core.specs.Book.{BookView, state_of, with_entry, with_more}
use Rattle.rcv_role.specs.Part.{PartView, HasNoStrangers}
use Rattle.rcv_role.specs.Ends.{slot, end_at}
use Rattle.rcv_role.specs.Cell.{CellView, IsSettled, Goes, HasMet, without_log}
use Rattle.rcv_role.proofs.Going.{stays}
use Rattle.rcv_role.proofs.Meeting.{same_self, channel_same, settled_met}
use Rattle.rcv_cells.specs.Home.{cell_at, AreJoined, AreBegun, IsOutAt, AreOut, AreHome, AllGo, AllMet, AllBegun, AllCanMeet, logs_in}
use Rattle.rcv_cells.proofs.Running.{runs_go}
use Rattle.rcv_cells.proofs.Rounds.{gone_out, met_out, is_round, logs_rise}
use Rattle.rcv_super.proofs.Returning.{still_channel}
use Rattle.rcv_super.proofs.Mixed.{mixed, mixed_length, mixed_first, mixed_second, mixed_logs, beyond}
use Rattle.rcv_super.specs.Beside.{HaveParted}

-- the ends of a cell that goes on stay ends of their channels
post_on : (setup : SessionView) (s r : ℕ) (a a' : CellView) (e x : End) → a.part.setup ≡ setup → a.part.role ≡ s → Goes a a' → r < roles_of setup → (s ≡ r → ⊥) → IsChannel (end_at a.posts s r e) x → IsChannel (end_at a'.posts s r e) x
post_on setup s r a a' e x setup_is role_is g lr n h = subst (λ q. IsChannel (end_at a'.posts q r e) x) role_is (g.posts r e x (subst (λ z. r < roles_of z) (sym setup_is) lr) (λ f. n (sym role_is ∙ sym f)) (subst (λ q. IsChannel (end_at a.posts q r e) x) (sym role_is) h))

inbox_on : (setup : SessionView) (s r : ℕ) (b b' : CellView) (e x : End) → b.part.setup ≡ setup → b.part.role ≡ r → Goes b b' → s < roles_of setup → (s ≡ r → ⊥) → IsChannel x (end_at b.inboxes r s e) → IsChannel x (end_at b'.inboxes r s e)
inbox_on setup s r b b' e x setup_is role_is g ls n h = subst (λ q. IsChannel x (end_at b'.inboxes q s e)) role_is (g.inboxes s e x (subst (λ z. s < roles_of z) (sym setup_is) ls) (λ f. n (f ∙ role_is)) (subst (λ q. IsChannel x (end_at b.inboxes q s e)) (sym role_is) h))

met_self : (c : CellView) → HasMet c c
met_self c = record { part = refl; posts = λ k d. same_self (slice_index_or c.posts k d); through = λ k d. refl; inboxes = λ k d. same_self (slice_index_or c.inboxes k d) }

pub log_of_cell : (cells : List CellView) (r : ℕ) (d : CellView) → r < length cells → log_at (logs_in cells) r ≡ (cell_at cells r d).part.log
log_of_cell [] r d lt = absurd (omega (arith, lt))
log_of_cell (x ∷ xs) zero d lt = refl
log_of_cell (x ∷ xs) (suc r) d lt = log_of_cell xs r d (omega (arith, lt))

pub log_beyond : (cells : List CellView) (r : ℕ) → length cells ≤ r → log_at (logs_in cells) r ≡ []
log_beyond [] r le = refl
log_beyond (x ∷ xs) zero le = absurd (omega (arith, le))
log_beyond (x ∷ xs) (suc r) le = log_beyond xs r (omega (arith, le))

-- what one cell took from the channel of another begins what this put on it
abbrev BeginsAt : ℕ → ℕ → End → CellView → CellView → Type 0
BeginsAt s r e a b = Begins (end_at b.inboxes r s e).list (end_at a.posts s r e).list

-- who ran went on
pub went_on_at : (fence : FenceId) (book : BookView) (concerned : RoleSet) (cells gone : List CellView) → HaveParted fence book concerned cells gone → (r : ℕ) (d : CellView) → r < length cells → has_bit concerned.0 r ≡ false → Goes (cell_at cells r d) (cell_at gone r d)
went_on_at fence book concerned cells gone parted r d lt f = runs_go fence (cell_at cells r d) (cell_at gone r d) (parted.ran r d lt f)

-- the cells that went back and those that went on
module _ (fence : FenceId) (book : BookView) (recover : Entry) (concerned : RoleSet) (cells gone : List CellView) (home : AreHome book cells) (parted : HaveParted fence (with_entry book recover) concerned cells gone) where
  within : (r : ℕ) → r < roles_of book.setup → r < length cells
  within r lt = let c = home.out.count in omega (arith, c, lt)

  there : (r : ℕ) → r < roles_of book.setup → r < length gone
  there r lt = let c = home.out.count in let n = parted.count in omega (arith, c, n, lt)

  gone_setup : (r : ℕ) (d : CellView) → r < roles_of book.setup → (cell_at gone r d).part.setup ≡ book.setup
  gone_setup r d lt = ⊎_elim
      (λ t. (parted.back r d (within r lt) t).setup_is)
      (λ f. (went_on_at fence (with_entry book recover) concerned cells gone parted r d (within r lt) f).setup ∙ (home.out.each r d lt).setup_is)
      (cases_Bool (has_bit concerned.0 r))

  gone_role : (r : ℕ) (d : CellView) → r < roles_of book.setup → (cell_at gone r d).part.role ≡ r
  gone_role r d lt = ⊎_elim
      (λ t. (parted.back r d (within r lt) t).role_is)
      (λ f. (went_on_at fence (with_entry book recover) concerned cells gone parted r d (within r lt) f).role ∙ (home.out.each r d lt).role_is)
      (cases_Bool (has_bit concerned.0 r))

  gone_settled : (r : ℕ) (d : CellView) → r < roles_of book.setup → IsSettled (cell_at gone r d)
  gone_settled r d lt = ⊎_elim
      (λ t. (parted.back r d (within r lt) t).settled)
      (λ f. (went_on_at fence (with_entry book recover) concerned cells gone parted r d (within r lt) f).settled)
      (cases_Bool (has_bit concerned.0 r))

  gone_strangers : (r : ℕ) (d : CellView) → r < roles_of book.setup → HasNoStrangers (cell_at gone r d).part
  gone_strangers r d lt = ⊎_elim
      (λ t. (parted.back r d (within r lt) t).strangers)
      (λ f. (went_on_at fence (with_entry book recover) concerned cells gone parted r d (within r lt) f).strangers)
      (cases_Bool (has_bit concerned.0 r))

  gone_joined : AreJoined (roles_of book.setup) gone
  gone_joined s r d e ls lr n = joined (has_bit concerned.0 s) (has_bit concerned.0 r) refl refl
    where
      joined : (a b : Bool) → has_bit concerned.0 s ≡ a → has_bit concerned.0 r ≡ b → IsChannel (end_at (cell_at gone s d).posts s r e) (end_at (cell_at gone r d).inboxes r s e)
      joined true true f g = subst (λ (z : ℕ × ℕ). IsChannel (end_at (cell_at gone s d).posts z.0 z.1 e) (end_at (cell_at gone r d).inboxes z.1 z.0 e)) (λ i. (gone_role s d ls i, gone_role r d lr i)) (parted.joined s r d (within s ls) (within r lr) f g n e)
      joined true false f g =
          let old = home.out.each r d lr in
          subst (λ x. IsChannel x (end_at (cell_at gone r d).inboxes r s e)) (sym ((parted.alone s r d (within s ls) (within r lr) f g).post e))
          (inbox_on book.setup s r (cell_at cells r d) (cell_at gone r d) e (end_at (cell_at cells s d).posts s r e) old.setup_is old.role_is (went_on_at fence (with_entry book recover) concerned cells gone parted r d (within r lr) g) ls n (home.out.joined s r d e ls lr n))
      joined false true f g =
          let old = home.out.each s d ls in
          let a = parted.alone r s d (within r lr) (within s ls) g f in
          subst (IsChannel (end_at (cell_at gone s d).posts s r e)) (sym (a.inbox e))
          (still_channel (end_at (cell_at gone s d).posts s r e) (end_at (cell_at cells r d).inboxes r s e) a.count
          (post_on book.setup s r (cell_at cells s d) (cell_at gone s d) e (end_at (cell_at cells r d).inboxes r s e) old.setup_is old.role_is (went_on_at fence (with_entry book recover) concerned cells gone parted s d (within s ls) f) lr n (home.out.joined s r d e ls lr n)))
      joined false false f g =
          let a = home.out.each s d ls in
          let b = home.out.each r d lr in
          inbox_on book.setup s r (cell_at cells r d) (cell_at gone r d) e (end_at (cell_at gone s d).posts s r e) b.setup_is b.role_is (went_on_at fence (with_entry book recover) concerned cells gone parted r d (within r lr) g) ls n
          (post_on book.setup s r (cell_at cells s d) (cell_at gone s d) e (end_at (cell_at cells r d).inboxes r s e) a.setup_is a.role_is (went_on_at fence (with_entry book recover) concerned cells gone parted s d (within s ls) f) lr n (home.out.joined s r d e ls lr n))

  -- they can meet
  pub can_meet : AllCanMeet gone
  can_meet s r d ls lr n =
      let c = home.out.count in
      let m = parted.count in
      let ls' : s < roles_of book.setup = omega (arith, c, m, ls) in
      let lr' : r < roles_of book.setup = omega (arith, c, m, lr) in
      record {
        setup = gone_setup s d ls' ∙ sym (gone_setup r d lr');
        apart = λ f. n (sym (gone_role s d ls') ∙ f ∙ gone_role r d lr');
        channel = λ e. subst (λ (z : ℕ × ℕ). IsChannel (end_at (cell_at gone s d).posts z.0 z.1 e) (end_at (cell_at gone r d).inboxes z.1 z.0 e)) (λ i. (sym (gone_role s d ls') i, sym (gone_role r d lr') i)) (gone_joined s r d e ls' lr' n);
      }

-- the cells as if no recovery had come: the concerned ones as they were, the others as they are
module _ (fence : FenceId) (book : BookView) (p : ℕ) (concerned : RoleSet) (kept : List ℕ) (undone : ℕ) (cells gone met : List CellView) (home : AreHome book cells) (parted : HaveParted fence (with_entry book (Recover p concerned kept undone)) concerned cells gone) (meet : AllMet gone met) (known : AllBegun gone) (accepted : IsAcceptedProtocol book.setup.protocol) (legal : IsLegal (rules_of book.setup) book.entries) (may : May (rules_of book.setup) (state_of book) (Recover p concerned kept undone)) where
  abbrev bits : ℕ → Bool
  bits r = has_bit concerned.0 r

  abbrev recover : Entry
  recover = Recover p concerned kept undone

  abbrev behind : BookView
  behind = with_entry book recover

  low : (r : ℕ) → r < roles_of book.setup → r < length cells
  low r lt = within fence book recover concerned cells gone home parted r lt

  met_count : length met ≡ length cells
  met_count = meet.0 ∙ parted.count

  abbrev as_gone : List CellView
  as_gone = mixed bits cells gone

  abbrev as_met : List CellView
  as_met = mixed bits cells met

  stayed : (r : ℕ) (d : CellView) → r < length cells → bits r ≡ true → cell_at as_gone r d ≡ cell_at cells r d
  stayed r d lt t = mixed_first bits cells gone r d parted.count lt t

  went : (r : ℕ) (d : CellView) → r < length cells → bits r ≡ false → cell_at as_gone r d ≡ cell_at gone r d
  went r d lt f = mixed_second bits cells gone r d parted.count lt f

  all_go : AllGo cells as_gone
  all_go = (mixed_length bits cells gone parted.count, go)
    where
      go : (r : ℕ) (d : CellView) → r < length cells → Goes (cell_at cells r d) (cell_at as_gone r d)
      go r d lt = ⊎_elim
          (λ t. let o = home.out.each r d (let c = home.out.count in omega (arith, c, lt)) in subst (Goes (cell_at cells r d)) (sym (stayed r d lt t)) (stays (cell_at cells r d) o.settled o.strangers))
          (λ f. subst (Goes (cell_at cells r d)) (sym (went r d lt f)) (went_on_at fence behind concerned cells gone parted r d lt f))
          (cases_Bool (bits r))

  all_meet : AllMet as_gone as_met
  all_meet = (mixed_length bits cells met met_count ∙ sym (mixed_length bits cells gone parted.count), each)
    where
      each : (r : ℕ) (d : CellView) → HasMet (cell_at as_gone r d) (cell_at as_met r d)
      each r d = ⊎_elim
          (λ lt. ⊎_elim
          (λ t. subst (λ (z : CellView × CellView). HasMet z.0 z.1) (λ i. (sym (stayed r d lt t) i, sym (mixed_first bits cells met r d met_count lt t) i)) (met_self (cell_at cells r d)))
          (λ f. subst (λ (z : CellView × CellView). HasMet z.0 z.1) (λ i. (sym (went r d lt f) i, sym (mixed_second bits cells met r d met_count lt f) i)) (meet.1 r d))
          (cases_Bool (bits r)))
          (λ le. subst (λ (z : CellView × CellView). HasMet z.0 z.1) (λ i. (sym (beyond as_gone r d (let n = mixed_length bits cells gone parted.count in omega (arith, n, le))) i, sym (beyond as_met r d (let n = mixed_length bits cells met met_count in omega (arith, n, le))) i)) (met_self d))
          (cases_lt r (length cells))

  out : AreOut book as_met
  out = met_out book as_gone as_met (gone_out book cells as_gone home all_go) all_meet

  -- what each took begins what was put, among the cells that are
  gone_begun : (s r : ℕ) (d : CellView) (e : End) → s < roles_of book.setup → r < roles_of book.setup → (s ≡ r → ⊥) → BeginsAt s r e (cell_at gone s d) (cell_at gone r d)
  gone_begun s r d e ls lr n = subst (λ (z : ℕ × ℕ). BeginsAt z.0 z.1 e (cell_at gone s d) (cell_at gone r d)) (λ i. (gone_role fence book recover concerned cells gone home parted s d ls i, gone_role fence book recover concerned cells gone home parted r d lr i)) ((known s r d (there fence book recover concerned cells gone home parted s ls) (there fence book recover concerned cells gone home parted r lr) n).begins e)

  -- and so among those as if no recovery had come
  as_begun : (s r : ℕ) (d : CellView) (e : End) → s < roles_of book.setup → r < roles_of book.setup → (s ≡ r → ⊥) → BeginsAt s r e (cell_at as_gone s d) (cell_at as_gone r d)
  as_begun s r d e ls lr n = by (bits s) (bits r) refl refl
    where
      now : BeginsAt s r e (cell_at gone s d) (cell_at gone r d)
      now = gone_begun s r d e ls lr n

      by : (a b : Bool) → bits s ≡ a → bits r ≡ b → BeginsAt s r e (cell_at as_gone s d) (cell_at as_gone r d)
      by true true f g = subst (λ (z : CellView × CellView). BeginsAt s r e z.0 z.1) (λ i. (sym (stayed s d (low s ls) f) i, sym (stayed r d (low r lr) g) i)) (home.begun s r d e ls lr n)
      by true false f g =
          let post = (parted.alone s r d (low s ls) (low r lr) f g).post e in
          subst (λ (z : CellView × CellView). BeginsAt s r e z.0 z.1) (λ i. (sym (stayed s d (low s ls) f) i, sym (went r d (low r lr) g) i))
          (subst (λ (x : End). Begins (end_at (cell_at gone r d).inboxes r s e).list x.list) post now)
      by false true f g =
          let inbox = (parted.alone r s d (low r lr) (low s ls) g f).inbox e in
          subst (λ (z : CellView × CellView). BeginsAt s r e z.0 z.1) (λ i. (sym (went s d (low s ls) f) i, sym (stayed r d (low r lr) g) i))
          (subst (λ (x : End). Begins x.list (end_at (cell_at gone s d).posts s r e).list) inbox now)
      by false false f g = subst (λ (z : CellView × CellView). BeginsAt s r e z.0 z.1) (λ i. (sym (went s d (low s ls) f) i, sym (went r d (low r lr) g) i)) now

  begun : AreBegun (roles_of book.setup) as_met
  begun s r d e ls lr n =
      let a = (all_meet.1 s d).posts (slot s r) e in
      let b = (all_meet.1 r d).inboxes (slot r s) e in
      subst (λ l. Begins l (end_at (cell_at as_met s d).posts s r e).list) (sym b.list) (subst (λ l. Begins (end_at (cell_at as_gone r d).inboxes r s e).list l) (sym a.list) (as_begun s r d e ls lr n))

  -- a concerned cell has no log, now as then
  no_log : (r : ℕ) (d : CellView) → r < length cells → bits r ≡ true → (cell_at cells r d).part.log ≡ []
  no_log r d lt t = home.logs r d (let c = home.out.count in omega (arith, c, lt))

  met_log : (r : ℕ) (d : CellView) → r < length cells → bits r ≡ true → (cell_at met r d).part.log ≡ []
  met_log r d lt t = ap (λ (x : PartView). x.log) (meet.1 r d).part ∙ (parted.back r d lt t).log ∙ no_log r d lt t

  same_logs : logs_in as_met ≡ logs_in met
  same_logs = mixed_logs bits cells met met_count (λ r d lt t. no_log r d lt t ∙ sym (met_log r d lt t))

  -- so stamps rise in the logs that are
  pub stamps_rise : All NeverFalls (logs_in met)
  stamps_rise = subst (λ l. All NeverFalls l) same_logs (logs_rise book as_met out begun accepted legal)

  a_cell : (r : ℕ) → r < roles_of book.setup → CellView
  a_cell r lt = (item cells r (low r lt)).0

  round : IsRound (rules_of book.setup) (state_of book) (λ r. log_at (logs_in as_met) r)
  round = is_round book as_met out begun accepted legal (λ t r lt lr n. (known t r (a_cell r lr) (there fence book recover concerned cells gone home parted t lt) (there fence book recover concerned cells gone home parted r lr) n).there)

  log_is : (r : ℕ) (d : CellView) → r < length cells → log_at (logs_in as_met) r ≡ (cell_at as_met r d).part.log
  log_is r d lt = log_of_cell as_met r d (let n = mixed_length bits cells met met_count in omega (arith, n, lt))

  apart : (r : ℕ) → bits r ≡ true → log_at (logs_in as_met) r ≡ []
  apart r t = ⊎_elim
      (λ lt. let d = (item cells r lt).0 in log_is r d lt ∙ ap (λ (c : CellView). c.part.log) (mixed_first bits cells met r d met_count lt t) ∙ no_log r d lt t)
      (λ le. log_beyond as_met r (let n = mixed_length bits cells met met_count in omega (arith, n, le)))
      (cases_lt r (length cells))

  session : IsSession (rules_of book.setup)
  session = record { proper = proper (text_of book.setup) (roles_of book.setup) accepted.form; accepted = accepted.accepted }

  run : IsRun (net_for book.setup) (state_of book).kept
  run = accepted_runs (rules_of book.setup) book.entries session.proper session.accepted legal book.entries [] (append-nil book.entries)

  module _ (merged : List Entry) (is : IsMergeOf (logs_in met) merged) where
    as_is : IsMergeOf (logs_in as_met) merged
    as_is = subst (λ l. IsMergeOf l merged) (sym same_logs) is

    merge : IsMerge (net_for book.setup) (state_of book).kept (log_at (logs_in as_met)) (in_order as_is.placed)
    merge = by_stamp_merges (rules_of book.setup) (state_of book) (log_at (logs_in as_met)) as_is.placed round as_is.by_stamp

    round_beside : IsRoundBeside (rules_of book.setup) book.entries recover concerned (log_at (logs_in as_met)) (in_order as_is.placed)
    round_beside = record {
      few = accepted.form.few_roles;
      legal = legal_more (rules_of book.setup) (start (roles_of book.setup)) book.entries recover legal may;
      round = round;
      apart = apart;
      merge = merge;
    }

    all_legal : IsLegal (rules_of book.setup) (book.entries ++ recover ∷ merged)
    all_legal = subst (λ l. IsLegal (rules_of book.setup) (book.entries ++ recover ∷ l)) (sym as_is.is)
        (beside_recovery (rules_of book.setup) book.entries p concerned kept undone (log_at (logs_in as_met)) (in_order as_is.placed) accepted.form.few_roles session.proper session.accepted round_beside.legal round apart merge)

    one_more : book.entries ++ recover ∷ merged ≡ behind.entries ++ merged
    one_more = sym (append_assoc book.entries (recover ∷ []) merged)

    -- what the others did may come behind the recovery
    pub may_follow : IsLegalFrom (rules_of behind.setup) (state_of behind) merged
    may_follow = legal_back (rules_of book.setup) (start (roles_of book.setup)) behind.entries merged (subst (IsLegal (rules_of book.setup)) one_more all_legal)

    abbrev full : BookView
    full = with_more behind merged

    state_is : reading (rules_of book.setup) (book.entries ++ recover ∷ entries (in_order as_is.placed)) ≡ state_of full
    state_is = ap (λ l. reading (rules_of book.setup) (book.entries ++ recover ∷ l)) (sym as_is.is) ∙ ap (reading (rules_of book.setup)) one_more

    -- each has what the book has of it then
    own_back_then : (r : ℕ) (d : CellView) → r < roles_of book.setup → bits r ≡ true → own_of (state_of full) r ≡ (cell_at gone r d).part.own
    own_back_then r d lt t =
        ap (λ s. own_of s r) (sym state_is)
        ∙ concerned_goes_back (rules_of book.setup) book.entries p concerned kept undone (log_at (logs_in as_met)) (in_order as_is.placed) session round_beside r lt t
        ∙ sym (own_recovery (rules_of book.setup) (state_of book) p r concerned kept undone run.1.queued (let n = (bounded (rules_of book.setup) book.entries legal).numbers in omega (arith, n, lt)))
        ∙ ap (λ s. own_of s r) (sym (reading_join (rules_of book.setup) (start (roles_of book.setup)) book.entries (recover ∷ [])))
        ∙ (parted.back r d (low r lt) t).own

    own_on : (r : ℕ) (d : CellView) → r < roles_of book.setup → bits r ≡ false → own_of (state_of full) r ≡ (cell_at met r d).part.own
    own_on r d lt f =
        ap (λ s. own_of s r) (sym state_is)
        ∙ bystander_follows (rules_of book.setup) book.entries p concerned kept undone (log_at (logs_in as_met)) (in_order as_is.placed) session round_beside r lt (λ t. absurd (let g = sym t ∙ f in cc))
        ∙ ap (λ l. own_of (reading_from (rules_of book.setup) (state_of book) (entries l)) r) (log_is r d (low r lt))
        ∙ (out.each r d lt).own
        ∙ ap (λ (c : CellView). c.part.own) (mixed_second bits cells met r d met_count (low r lt) f)

    own_then : (r : ℕ) (d : CellView) → r < roles_of book.setup → own_of (state_of full) r ≡ (cell_at met r d).part.own
    own_then r d lt = ⊎_elim
        (λ t. own_back_then r d lt t ∙ ap (λ (x : PartView). x.own) (sym (meet.1 r d).part))
        (λ f. own_on r d lt f)
        (cases_Bool (bits r))

    met_begun : (s r : ℕ) (d : CellView) (e : End) → s < roles_of book.setup → r < roles_of book.setup → (s ≡ r → ⊥) → BeginsAt s r e (cell_at met s d) (cell_at met r d)
    met_begun s r d e ls lr n =
        let a = (meet.1 s d).posts (slot s r) e in
        let b = (meet.1 r d).inboxes (slot r s) e in
        subst (λ l. Begins l (end_at (cell_at met s d).posts s r e).list) (sym b.list) (subst (λ l. Begins (end_at (cell_at gone r d).inboxes r s e).list l) (sym a.list) (gone_begun s r d e ls lr n))

    met_joined : AreJoined (roles_of book.setup) met
    met_joined s r d e ls lr n = channel_same _ _ _ _ ((meet.1 s d).posts (slot s r) e) ((meet.1 r d).inboxes (slot r s) e) (gone_joined fence book recover concerned cells gone home parted s r d e ls lr n)

    -- all come home with cleared logs
    module _ (cells' : List CellView) (count : length cells' ≡ length met) (cleared : (r : ℕ) (d : CellView) → r < length met → cell_at cells' r d ≡ without_log (cell_at met r d)) where
      here : (r : ℕ) → r < roles_of book.setup → r < length met
      here r lt = let n = met_count in let l = low r lt in omega (arith, n, l)

      home_out : (r : ℕ) (d : CellView) → r < roles_of book.setup → IsOutAt book.setup (state_of full) r (without_log (cell_at met r d))
      home_out r d lt = record {
        setup_is = ap (λ (x : PartView). x.setup) (meet.1 r d).part ∙ gone_setup fence book recover concerned cells gone home parted r d lt;
        role_is = ap (λ (x : PartView). x.role) (meet.1 r d).part ∙ gone_role fence book recover concerned cells gone home parted r d lt;
        lawful = tt;
        own = own_then r d lt;
        settled = settled_met (cell_at gone r d) (cell_at met r d) (meet.1 r d) (gone_settled fence book recover concerned cells gone home parted r d lt);
        strangers = subst HasNoStrangers (sym (meet.1 r d).part) (gone_strangers fence book recover concerned cells gone home parted r d lt);
      }

      pub all_home : AreHome full cells'
      all_home = record {
        out = record {
          count = count ∙ met_count ∙ home.out.count;
          each = λ r d lt. subst (IsOutAt book.setup (state_of full) r) (sym (cleared r d (here r lt))) (home_out r d lt);
          joined = λ s r d e ls lr n. subst (λ (z : CellView × CellView). IsChannel (end_at z.0.posts s r e) (end_at z.1.inboxes r s e)) (λ i. (sym (cleared s d (here s ls)) i, sym (cleared r d (here r lr)) i)) (met_joined s r d e ls lr n);
        };
        begun = λ s r d e ls lr n. subst (λ (z : CellView × CellView). BeginsAt s r e z.0 z.1) (λ i. (sym (cleared s d (here s ls)) i, sym (cleared r d (here r lr)) i)) (met_begun s r d e ls lr n);
        logs = λ r d lt. ap (λ (c : CellView). c.part.log) (cleared r d (here r lt));
      }
