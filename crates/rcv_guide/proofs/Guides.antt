-- What a guide keeps says of its logs, its roles and where they stand.
use Rattle.std.proofs.Common.{◌≡◌, ℕ, zero, suc, ◌+◌, ◌-◌, ◌<◌, ◌≤◌, ◌^◌, Some, List, [], length, get_or, drop, ◌∙◌, ap, subst, inl, ⊎_elim, arith}
use Rattle.std.specs.Prelude.{slice_get}
use Rattle.std.specs.List.{sum_by, range_with_len}
use Rattle.std.proofs.lemmas.Bool.{cases_lt}
use Rattle.std.proofs.lemmas.List.{get_or_default}
use Rattle.std.proofs.lemmas.List.Sums.{sum_by-cons}
use Rattle.rcv_tree.specs.declared.event.Event.{Event}
use Rattle.rcv_model.specs.Text.{body_of}
use Rattle.rcv_model.specs.Run.{acts, place_of}
use Rattle.rcv_model.specs.Next.{IsNext, IsPlaceOf, IsProper}
use Rattle.rcv_model.proofs.Forms.{proper}
use Rattle.rcv_model.proofs.Located.{item}
use Rattle.rcv_model.proofs.Ways.{next_in_text}
use Rattle.rcv_tables.specs.Rows.{TableView}
use Rattle.rcv_tables.specs.Starts.{IsOwnPoint}
use Rattle.rcv_ledger.specs.Logs.{log_at}
use Rattle.rcv_ledger.specs.Ledger.{LedgerView, AreCarried}
use Rattle.rcv_ledger.proofs.Holding.{carried_of}
use Rattle.rcv_ledger.proofs.Lists.{none_there}
use Rattle.rcv_told.specs.Laws.{AreAccepted}
use Rattle.rcv_guide.specs.declared.numbers.Numbers.{Numbers}
use Rattle.rcv_guide.specs.Numbers.{at_start, numbers_at}
use Rattle.rcv_guide.specs.Failing.{all_events}
use Rattle.rcv_guide.specs.Guide.{GuideView, net_for, roles_of, terms_of, stand, no_vars, IsGuide}
use Rattle.rcv_guide.proofs.Placing.{place_first, place_last}

-- one of some numbers is at most their sum
one_of_sum : (f : ℕ → ℕ) (a n k : ℕ) → k < n → f (a + k) ≤ sum_by f (range_with_len a n)
one_of_sum f a zero k lt = absurd (omega (arith, lt))
one_of_sum f a (suc n) zero lt = let e : f (a + 0) ≡ f a = ap f (omega arith) in omega (arith, e, sum_by-cons f a (range_with_len (a + 1) n))
one_of_sum f a (suc n) (suc k) lt =
    let ih = one_of_sum f (a + 1) n k (omega (arith, lt)) in
    let e : f (a + suc k) ≡ f (a + 1 + k) = ap f (omega arith) in
    omega (arith, ih, e, sum_by-cons f a (range_with_len (a + 1) n))

pub one_of_all : (logs : List (List Event)) (r : ℕ) → length (log_at logs r) ≤ all_events logs
one_of_all logs r = ⊎_elim
    (λ lt.
    let here : length (log_at logs (0 + r)) ≡ length (log_at logs r) = ap (λ q. length (log_at logs q)) (omega arith) in
    let most = one_of_sum (λ q. length (log_at logs q)) 0 (length logs) r lt in
    omega (arith, here, most))
    (λ le. let n = ap length (none_there logs r [] le) in omega (arith, n))
    (cases_lt r (length logs))

module _ {g : GuideView} {table : TableView} {ledger : LedgerView} (kept : IsGuide g table ledger) where
  pub few_roles : roles_of g ≤ 8
  few_roles = kept.protocol.form.few_roles

  pub low : (r : ℕ) → r < roles_of g → r < 8
  low r lt = let few = few_roles in omega (arith, few, lt)

  pub is_proper : IsProper (net_for g) (roles_of g)
  is_proper = proper (body_of g.protocol.body) (roles_of g) kept.protocol.form

  -- the logs are the ledger's
  pub log_is : (r : ℕ) → log_at ledger.logs r ≡ log_at g.logs r
  log_is r = kept.holds.holds.log r ∙ kept.holds.is.events r

  pub many_logs : length ledger.logs ≡ roles_of g
  many_logs = kept.holds.holds.logs

  pub carried : AreCarried (net_for g) ledger.logs ledger.channels
  carried = carried_of (net_for g) (roles_of g) no_vars kept.holds.memory.held ledger kept.holds.holds

  pub none_beyond : (r : ℕ) → roles_of g ≤ r → log_at g.logs r ≡ []
  none_beyond r le = none_there g.logs r [] (let a = kept.logs in omega (arith, a, le))

  pub few_logged : (r : ℕ) → length (log_at g.logs r) ≤ g.used
  few_logged r = let a = one_of_all g.logs r in let b = kept.rooms.logged in omega (arith, a, b)

  pub few_log : (r : ℕ) → length (log_at g.logs r) < 2 ^ 31
  few_log r = let a = few_logged r in let b = kept.rooms.filled in let c = kept.rooms.few in omega (arith, a, b, c)

  pub few_all : all_events g.logs < 2 ^ 31
  few_all = let a = kept.rooms.logged in let b = kept.rooms.filled in let c = kept.rooms.few in omega (arith, a, b, c)

  pub known : AreAccepted (terms_of g)
  known = record { few = few_roles; proper = is_proper; accepted = kept.protocol.accepted }

  -- a role's numbers as the code reads them
  pub own_at : (r : ℕ) → r < roles_of g → (x : Numbers) → x ≡ get_or g.numbers r x → x ≡ numbers_at g.numbers r
  own_at r lt x is = is ∙ get_or_default g.numbers r x at_start (let a = kept.numbers in omega (arith, a, lt))

  -- each event is at one of its role's points
  pub own_point : (r n : ℕ) (e : Event) → slice_get (log_at g.logs r) n ≡ Some e → IsOwnPoint (net_for g) r e.point
  own_point r n e at = let own = kept.sound.events r n e at in ⊎_elim (λ zero. absurd (let a = own.1 in omega (arith, zero, a))) (λ of. of) own.3

  -- so each role stands at one of its own, or at the start
  stands_declared : (r : ℕ) → r < roles_of g → IsPlaceOf (net_for g) r (stand g r).place
  stands_declared r lt = ⊎_elim
      (λ some.
      let last : length (log_at g.logs r) - 1 < length (log_at g.logs r) = omega (arith, some) in
      let e = item (log_at g.logs r) (length (log_at g.logs r) - 1) last in
      subst (IsPlaceOf (net_for g) r) (place_last kept r (length (log_at g.logs r) - 1) e.0 e.1 (omega (arith, some)) (omega (arith, some)))
      (kept.sound.events r (length (log_at g.logs r) - 1) e.0 e.1).3)
      (λ none. subst (IsPlaceOf (net_for g) r) (place_first kept r none) (kept.sound.points r lt))
      (cases_lt (numbers_at g.numbers r).seeds (length (log_at g.logs r)))

  none_done : (r : ℕ) → roles_of g ≤ r → (stand g r).place ≡ 0
  none_done r le =
      ap (λ (x : Numbers). place_of x.point (drop x.seeds (acts r (log_at g.logs r)))) (none_there g.numbers r at_start (let a = kept.numbers in omega (arith, a, le)))
      ∙ ap (λ l. place_of 0 (acts r l)) (none_beyond r le)

  pub stands_at : (r : ℕ) → IsPlaceOf (net_for g) r (stand g r).place
  stands_at r = ⊎_elim
      (λ lt. stands_declared r lt)
      (λ le. inl (none_done r le))
      (cases_lt r (roles_of g))

  -- a next point stands in the text, and its ends are declared
  pub next_in : (r x : ℕ) → IsNext (net_for g) r (stand g r).place x → (1 ≤ x) × (x ≤ (net_for g).count)
  next_in r x next = next_in_text (net_for g) (roles_of g) r (stand g r).place x is_proper next

  pub sender_in : (x : ℕ) → (1 ≤ x) × (x ≤ (net_for g).count) → (net_for g).sender x < roles_of g
  sender_in x i = is_proper.senders x i.0 i.1

  pub receiver_in : (x : ℕ) → (1 ≤ x) × (x ≤ (net_for g).count) → (net_for g).receiver x < roles_of g
  receiver_in x i = is_proper.receivers x i.0 i.1
