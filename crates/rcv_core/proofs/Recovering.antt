-- A book with a Recover more: the ledger is cut to what is kept, and the numbers go back.
use Rattle.std.proofs.Common.{◌≡◌, ℕ, ◌+◌, ◌<◌, Bool, true, false, cond, List, [], ◌∷◌, ◌++◌, length, refl, sym, ◌∙◌, ap, subst, arith}
use Rattle.std.specs.Prelude.{slice_index}
use Rattle.rcv_tree.specs.Bits.{has_bit, is_listed}
use Rattle.rcv_tree.specs.declared.role.RoleSet.{RoleSet}
use Rattle.rcv_tree.specs.declared.entry.Entry.{Entry}
use Rattle.rcv_tree.specs.declared.entry.Entry.TheVariants.{Recover}
use Rattle.rcv_model.specs.Run.{acts}
use Rattle.rcv_model.specs.Undo.{bound_of}
use Rattle.rcv_model.specs.Journal.{State, numbers_at, gone_back, greatest, clock_behind, map_roles, numbers_behind, start, after, reading, durable, group_of, kept_by, concerned_in, IsConcernedIn, MayRecover}
use Rattle.rcv_model.proofs.StableLines.{reading_join}
use Rattle.rcv_model.proofs.Legal.{legal_more}
use Rattle.rcv_model.proofs.Bystanders.{as_many}
use Rattle.rcv_model.proofs.Groups.{group_keeps}
use Rattle.rcv_model.proofs.Recovering.{listed}
use Rattle.rcv_model.proofs.Roles.{greatest_same, mapped_alike, length_mapped}
use Rattle.rcv_tree.specs.declared.event.Event.{Event}
use Rattle.rcv_checkpoint.specs.Stack.{StackView}
use Rattle.rcv_session.specs.Session.{SessionView, roles_of, net_for, rules_of}
use Rattle.rcv_plan.specs.Plans.{IsGroup}
use Rattle.rcv_ledger.specs.Logs.{log_at}
use Rattle.rcv_ledger.specs.Ledger.{LedgerView, MayCut, IsCutTo, HoldsKept}
use Rattle.rcv_ledger.proofs.Holding.{kept_may_be_cut_to, cuts_hold_what_is_kept}
use Rattle.rcv_tree.specs.declared.numbers.Numbers.{Numbers}
use Rattle.rcv_core.specs.Setup.{vars_by}
use Rattle.rcv_core.specs.Failing.{AreUnlisted}
use Rattle.rcv_core.specs.Numbers.{after_recovery, AreFew}
use Rattle.rcv_core.specs.Book.{IsBook}
use Rattle.rcv_core.proofs.Books.{low_role, few_entries, left_by, is_proper, sizes, run_now, queued_now, stands_at, few_attempts, few_clocks, made, crashed_low}

-- two tests that hold together are the same
pub same_tests : (a b : Bool) → (a ≡ true → b ≡ true) → (b ≡ true → a ≡ true) → a ≡ b
same_tests true b f g = sym (f refl)
same_tests false true f g = g refl
same_tests false false f g = refl

not_both : false ≡ true → ⊥
not_both e = absurd (cc)

-- what the code makes of the roles' numbers, where it knows the same as the definition
behind_same : (s : State) (group concerned : ℕ) (all some : List ℕ) (events : List Event) (logs : List (List Event)) (counts : List ℕ) → ((q : ℕ) → q < length s.roles → has_bit group q ≡ is_listed all q) → ((q : ℕ) → q < length s.roles → has_bit concerned q ≡ is_listed some q) → ((q : ℕ) → q < length s.roles → slice_index counts q ≡ length (acts q events)) → ((q : ℕ) → q < length s.roles → length (log_at logs q) ≡ length (acts q s.kept)) → map_roles (after_recovery s.roles group concerned logs counts) 0 s.roles ≡ map_roles (numbers_behind s all some events) 0 s.roles
behind_same s group concerned all some events logs counts fails named keeps did = mapped_alike (after_recovery s.roles group concerned logs counts) (numbers_behind s all some events) 0 s.roles
    (λ q lt. subst (λ n. after_recovery s.roles group concerned logs counts n (numbers_at s.roles q) ≡ numbers_behind s all some events n (numbers_at s.roles q)) (omega arith) (each q lt))
  where
    latest : greatest (has_bit concerned) 0 s.roles ≡ greatest (is_listed some) 0 s.roles
    latest = greatest_same (has_bit concerned) (is_listed some) 0 s.roles (λ q lt. subst (λ n. has_bit concerned n ≡ is_listed some n) (omega arith) (named q lt))

    clock : (q : ℕ) → q < length s.roles → clock_behind s.roles (has_bit concerned) q (numbers_at s.roles q) ≡ clock_behind s.roles (is_listed some) q (numbers_at s.roles q)
    clock q lt = ap (λ b. cond b (greatest (has_bit concerned) 0 s.roles + 1) (numbers_at s.roles q).clock) (named q lt) ∙ ap (λ n. cond (is_listed some q) (n + 1) (numbers_at s.roles q).clock) latest

    each : (q : ℕ) → q < length s.roles → after_recovery s.roles group concerned logs counts q (numbers_at s.roles q) ≡ numbers_behind s all some events q (numbers_at s.roles q)
    each q lt =
        ap (λ b. gone_back (numbers_at s.roles q) b (slice_index counts q) (length (log_at logs q)) (clock_behind s.roles (has_bit concerned) q (numbers_at s.roles q))) (fails q lt)
        ∙ ap (λ n. gone_back (numbers_at s.roles q) (is_listed all q) n (length (log_at logs q)) (clock_behind s.roles (has_bit concerned) q (numbers_at s.roles q))) (keeps q lt)
        ∙ ap (λ n. gone_back (numbers_at s.roles q) (is_listed all q) (length (acts q events)) n (clock_behind s.roles (has_bit concerned) q (numbers_at s.roles q))) (did q lt)
        ∙ ap (λ n. gone_back (numbers_at s.roles q) (is_listed all q) (length (acts q events)) (length (acts q s.kept)) n) (clock q lt)

module _ (setup : SessionView) (entries : List Entry) (numbers : List Numbers) (ledger : LedgerView) (kept : IsBook setup entries numbers ledger) where
  -- attempts and clocks can go up
  pub few_numbers : AreFew numbers
  few_numbers = record {
    attempts = λ r lt.
        let attempt = ap (λ (x : Numbers). x.attempt) (stands_at setup entries numbers ledger kept r) in
        let few = few_attempts setup entries numbers ledger kept r in
        omega (arith, attempt, few);
    clocks = λ r lt.
        let clock = ap (λ (x : Numbers). x.clock) (stands_at setup entries numbers ledger kept r) in
        let most = few_clocks setup entries numbers ledger kept r in
        let all = few_entries setup kept.protocol kept.planned in
        omega (arith, clock, most, all);
  }

module _ (setup : SessionView) (entries : List Entry) (numbers : List Numbers) (ledger : LedgerView) (kept : IsBook setup entries numbers ledger) (p : ℕ) (concerned : RoleSet) (listed_ : List ℕ) (undone : ℕ) (may : MayRecover (rules_of setup) (left_by setup entries) p concerned.0 listed_ undone) where
  pub declared : p < roles_of setup
  declared = crashed_low setup entries numbers ledger kept p may.crashed

  pub concerned_is : (q : ℕ) → q < 8 → has_bit concerned.0 q ≡ is_listed (concerned_in (rules_of setup) (left_by setup entries) p) q
  concerned_is q lt =
      let by_list = listed (rules_of setup) (left_by setup entries) p (is_proper setup entries numbers ledger kept) kept.protocol.accepted.lanes_end q in
      same_tests (has_bit concerned.0 q) (is_listed (concerned_in (rules_of setup) (left_by setup entries) p) q)
      (λ t. by_list.1 ((may.concerned q lt).0 t))
      (λ t. (may.concerned q lt).1 (by_list.0 t))

  -- a role that isn't concerned keeps all
  keeps_all : (q : ℕ) → (IsConcernedIn (rules_of setup) (left_by setup entries) p q → ⊥) → length (acts q (kept_by (rules_of setup) (left_by setup entries) p)) ≡ length (acts q (left_by setup entries).kept)
  keeps_all q free =
      as_many q (kept_by (rules_of setup) (left_by setup entries) p)
      ∙ ap length (group_keeps (net_for setup) (group_of (rules_of setup) p) (durable (rules_of setup) (left_by setup entries)) (left_by setup entries).kept (roles_of setup, is_proper setup entries numbers ledger kept) (run_now setup entries numbers ledger kept) q free)
      ∙ sym (as_many q (left_by setup entries).kept)

  module _ (counts : List ℕ) (are : AreUnlisted ledger.logs concerned.0 listed_ counts) where
    pub counts_are : (q : ℕ) → q < roles_of setup → slice_index counts q ≡ length (acts q (kept_by (rules_of setup) (left_by setup entries) p))
    counts_are q lt = go (has_bit concerned.0 q) refl
      where
        low : q < 8
        low = low_role setup q kept.protocol lt

        here : slice_index counts q ≡ cond (has_bit concerned.0 q) (slice_index listed_ q) (length (log_at ledger.logs q))
        here = are q (omega (arith, lt, kept.holds.logs))

        go : (b : Bool) → has_bit concerned.0 q ≡ b → slice_index counts q ≡ length (acts q (kept_by (rules_of setup) (left_by setup entries) p))
        go true e =
            here
            ∙ ap (λ b. cond b (slice_index listed_ q) (length (log_at ledger.logs q))) e
            ∙ may.counts q low
            ∙ ap (λ b. cond b (length (acts q (kept_by (rules_of setup) (left_by setup entries) p))) 0) e
        go false e =
            here
            ∙ ap (λ b. cond b (slice_index listed_ q) (length (log_at ledger.logs q))) e
            ∙ made setup entries numbers ledger kept q
            ∙ sym (keeps_all q (λ c. not_both (sym e ∙ (may.concerned q low).1 c)))

    pub may_cut : MayCut (net_for setup) ledger counts
    may_cut = kept_may_be_cut_to (net_for setup) (roles_of setup) (vars_by setup) (left_by setup entries).kept (bound_of (group_of (rules_of setup) p) (durable (rules_of setup) (left_by setup entries)) (left_by setup entries).kept) counts ledger kept.holds (queued_now setup entries numbers ledger kept) counts_are

    -- the numbers behind the recovery are as the definition has them
    as_defined : (group : ℕ) → IsGroup setup.plan p group → map_roles (after_recovery (left_by setup entries).roles group concerned.0 ledger.logs counts) 0 (left_by setup entries).roles ≡ (after (rules_of setup) (left_by setup entries) (Recover p concerned listed_ undone)).roles
    as_defined group is = behind_same (left_by setup entries) group concerned.0 (group_of (rules_of setup) p) (concerned_in (rules_of setup) (left_by setup entries) p) (kept_by (rules_of setup) (left_by setup entries) p) ledger.logs counts
        (λ q lt. is q (low_role setup q kept.protocol (low q lt)))
        (λ q lt. concerned_is q (low_role setup q kept.protocol (low q lt)))
        (λ q lt. counts_are q (low q lt))
        (λ q lt. made setup entries numbers ledger kept q)
      where
        low : (q : ℕ) → q < length (left_by setup entries).roles → q < roles_of setup
        low q lt = subst (λ n. q < n) (sizes setup entries numbers ledger kept) lt

    -- the book behind the recovery
    pub with_recovery : (group : ℕ) (now_numbers : List Numbers) (now_ledger : LedgerView) → IsGroup setup.plan p group → now_numbers ≡ map_roles (after_recovery numbers group concerned.0 ledger.logs counts) 0 numbers → IsCutTo (net_for setup) ledger now_ledger counts → IsBook setup (entries ++ Recover p concerned listed_ undone ∷ []) now_numbers now_ledger
    with_recovery group now_numbers now_ledger is back cut = record {
      protocol = kept.protocol;
      planned = kept.planned;
      legal = legal_more (rules_of setup) (start (roles_of setup)) entries (Recover p concerned listed_ undone) kept.legal may;
      many = ap length back ∙ length_mapped (after_recovery numbers group concerned.0 ledger.logs counts) 0 numbers ∙ kept.many;
      stand = back ∙ ap (λ l. map_roles (after_recovery l group concerned.0 ledger.logs counts) 0 l) kept.stand ∙ as_defined group is ∙ ap (λ (s : State). s.roles) (sym next);
      holds = subst (λ (s : State). HoldsKept (net_for setup) (roles_of setup) (vars_by setup) s.kept now_ledger) (sym next)
          (cuts_hold_what_is_kept (net_for setup) (roles_of setup) (vars_by setup) (left_by setup entries).kept (bound_of (group_of (rules_of setup) p) (durable (rules_of setup) (left_by setup entries)) (left_by setup entries).kept) counts ledger now_ledger kept.holds (queued_now setup entries numbers ledger kept) counts_are cut);
      saves = λ r lt. ap (λ (x : StackView). x.every) (cut.stack r (omega (arith, lt, kept.holds.logs))) ∙ kept.saves r lt;
    }
      where
        next : reading (rules_of setup) (entries ++ Recover p concerned listed_ undone ∷ []) ≡ after (rules_of setup) (left_by setup entries) (Recover p concerned listed_ undone)
        next = reading_join (rules_of setup) (start (roles_of setup)) entries (Recover p concerned listed_ undone ∷ [])
