-- What a failure leaves: the latest cut, and to who isn't concerned all.
use Rattle.std.proofs.Common.{◌≡◌, ℕ, zero, suc, ◌+◌, ◌-◌, ◌<◌, ◌≤◌, Bool, true, false, cond, List, length, sym, ◌∙◌, ap, subst, ◌⊎◌, inl, inr, ⊎_elim, arith}
use Rattle.std.specs.Prelude.{Some, slice_get, slice_index}
use Rattle.std.specs.List.{filter, range_with_len}
use Rattle.std.proofs.lemmas.Bool.{cases_Bool, cases_lt}
use Rattle.rcv_tree.specs.Bits.{has_bit, is_listed}
use Rattle.rcv_tree.specs.declared.event.Event.{Event}
use Rattle.rcv_tree.specs.declared.entry.Entry.TheVariants.{Recover}
use Rattle.rcv_tree.specs.declared.role.RoleSet.{RoleSet}
use Rattle.rcv_model.specs.Net.{Net, IsIn, IsWalk}
use Rattle.rcv_model.specs.Next.{IsProper, IsProperNet}
use Rattle.rcv_model.specs.Run.{Act, acts, IsRun}
use Rattle.rcv_model.specs.Table.{point_of}
use Rattle.rcv_model.specs.TableLaws.{IsForeseen}
use Rattle.rcv_model.proofs.Groups.{group_keeps, foreseen}
use Rattle.rcv_model.proofs.Keeping.{keep_front}
use Rattle.rcv_model.proofs.Lanes.{walk_in_text}
use Rattle.rcv_model.proofs.Lists.{prefix_length}
use Rattle.rcv_model.proofs.Located.{get_front, locate, item}
use Rattle.rcv_model.proofs.NextLists.{in_filter, of_filter, in_range, from_in}
use Rattle.rcv_model.proofs.Scanning.{among, is_member, acts_same}
use Rattle.rcv_told.specs.Told.{Terms, Remembered, roles_in, group_of, held_of, bound_at, left_at, made, made_of, IsConcernedWhere, HasFailed, told, told_after}
use Rattle.rcv_told.specs.Laws.{AreAccepted, LeavesLatestCut, FailuresLeaveTheLatestCut, BystandersKeepAll, LosersRestartByTheTable}
use Rattle.rcv_told.proofs.Telling.{ForgotNothing, HoldsTold, holds_after}
use Rattle.rcv_told.proofs.Cutting.{same_cut}
use Rattle.rcv_told.proofs.LatestCuts.{latest_cut}

of_range : (a n q : ℕ) → IsIn q (range_with_len a n) → q < a + n
of_range a zero q i = absurd i
of_range a (suc n) q (inl e) = omega (arith, e)
of_range a (suc n) q (inr i) = let ih = of_range (a + 1) n q i in omega (arith, ih)

-- the roles below n that a test lets through
pub listed_of : (t : ℕ → Bool) (n q : ℕ) → q < n → t q ≡ true → is_listed (filter t (range_with_len 0 n)) q ≡ true
listed_of t n q lt e =
    let i = from_in q (range_with_len 0 n) (in_range 0 n q (omega arith) (omega (arith, lt))) in
    among q (filter t (range_with_len 0 n)) (in_filter t q (range_with_len 0 n) i e)

pub of_listed : (t : ℕ → Bool) (n q : ℕ) → is_listed (filter t (range_with_len 0 n)) q ≡ true → (q < n) × (t q ≡ true)
of_listed t n q e =
    let i = of_filter t q (range_with_len 0 n) (is_member q (filter t (range_with_len 0 n)) e) in
    (let lt = of_range 0 n q i.0 in omega (arith, lt), i.1)

not_listed : (t : ℕ → Bool) (n q : ℕ) → (q < n → t q ≡ true → ⊥) → is_listed (filter t (range_with_len 0 n)) q ≡ false
not_listed t n q none = ⊎_elim
    (λ e. absurd (let l = of_listed t n q e in none l.0 l.1))
    (λ f. f)
    (cases_Bool (is_listed (filter t (range_with_len 0 n)) q))

-- a bound at a role that is listed, and at one that isn't
bound_listed : (m : Remembered) (roles : List ℕ) (counts : ℕ → ℕ) (q : ℕ) → is_listed roles q ≡ true → bound_at m roles counts q ≡ held_of m counts q
bound_listed m roles counts q e = ap (λ b. cond b (held_of m counts q) (length (acts q m.held))) e

bound_else : (m : Remembered) (roles : List ℕ) (counts : ℕ → ℕ) (q : ℕ) → is_listed roles q ≡ false → bound_at m roles counts q ≡ length (acts q m.held)
bound_else m roles counts q e = ap (λ b. cond b (held_of m counts q) (length (acts q m.held))) e

-- counts of all of a role's events are those of the remembered ones
pub held_is : (roles : ℕ) (m : Remembered) (counts : ℕ → ℕ) (q : ℕ) → ForgotNothing roles m → held_of m counts q ≡ counts q
held_is roles m counts q nothing = let s = nothing.seeds q in let f = nothing.forgotten q in omega (arith, s, f)

pub made_is : (roles : ℕ) (m : Remembered) (h : List Event) (q : ℕ) → ForgotNothing roles m → made_of m h q ≡ length (acts q h)
made_is roles m h q nothing = let s = nothing.seeds q in let f = nothing.forgotten q in omega (arith, s, f)

-- an undeclared role has no event in a run
pub no_acts : (net : Net) (roles : ℕ) (h : List Event) (q : ℕ) → IsProper net roles → IsRun net h → roles ≤ q → length (acts q h) ≡ 0
no_acts net roles h q proper run le = ⊎_elim some (λ few. omega (arith, few)) (cases_lt 0 (length (acts q h)))
  where
    some : 0 < length (acts q h) → length (acts q h) ≡ 0
    some lt =
        let a = item (acts q h) 0 lt in
        let w = locate net q run.0 0 a.0 (subst (λ l. slice_get l 0 ≡ Some a.0) (run.1.parts q).1 (get_front (acts q h) (run.1.parts q).0 0 a.0 a.1)) in
        let t = walk_in_text net roles 0 a.0.point w.before w.after proper (subst (IsWalk net 0) (sym w.whole) run.1.walk) in
        absurd (⊎_elim
        (λ e. let s = proper.senders a.0.point t.0 t.1 in omega (arith, s, e, le))
        (λ e. let r = proper.receivers a.0.point t.0 t.1 in omega (arith, r, e, le))
        w.own)

-- a failure of p
module _ (terms : Terms) (known : AreAccepted terms) (m : Remembered) (holds : HoldsTold terms known m) (p : ℕ) (saved : ℕ → ℕ)
    (concerned : RoleSet) (kept : List ℕ) (undone : ℕ) (failed : HasFailed terms m p saved concerned kept undone) where
  abbrev pub left : List Event
  left = left_at terms.net m (group_of terms p) saved

  abbrev pub listed : List Event
  listed = left_at terms.net m (roles_in concerned) (slice_index kept)

  -- from role 8 on there are no events
  none_left : (q : ℕ) → 8 ≤ q → (length (acts q m.held) ≡ 0) × (length (acts q left) ≡ 0)
  none_left q le =
      let none = no_acts terms.net terms.roles m.held q known.proper holds.run (omega (arith, le, known.few)) in
      let fewer = prefix_length _ _ (keep_front terms.net (bound_at m (group_of terms p) saved) m.held holds.run.1.queued q) in
      (none, omega (arith, none, fewer))

  -- who isn't concerned has all its events left
  spared : (q : ℕ) → (has_bit concerned.0 q ≡ true → ⊥) → length (acts q left) ≡ length (acts q m.held)
  spared q free = ⊎_elim
      (λ lt. ap length (acts_same q left m.held (group_keeps terms.net (group_of terms p) (held_of m saved) m.held two holds.run q (apart lt))))
      (λ le. let n = none_left q le in n.1 ∙ sym n.0)
      (cases_lt q 8)
    where
      two : IsProperNet terms.net
      two = (terms.roles, known.proper)

      apart : q < 8 → IsConcernedWhere terms m p saved q → ⊥
      apart lt c = free ((failed.concerned_is q lt).1 c)

  -- what the line lists of a concerned role is what it has left
  counted : (q : ℕ) → q < 8 → has_bit concerned.0 q ≡ true → held_of m (slice_index kept) q ≡ length (acts q left)
  counted q lt t =
      held_is terms.roles m (slice_index kept) q holds.nothing ∙ failed.counts q lt ∙ ap (λ b. cond b (made_of m left q) 0) t
      ∙ made_is terms.roles m left q holds.nothing

  bound_is : (q : ℕ) → bound_at m (roles_in concerned) (slice_index kept) q ≡ length (acts q left)
  bound_is q = go (cases_lt q 8) (cases_Bool (has_bit concerned.0 q))
    where
      go : (q < 8) ⊎ (8 ≤ q) → (has_bit concerned.0 q ≡ true) ⊎ (has_bit concerned.0 q ≡ false)
          → bound_at m (roles_in concerned) (slice_index kept) q ≡ length (acts q left)
      go (inl lt) (inl t) = bound_listed m (roles_in concerned) (slice_index kept) q (listed_of (has_bit concerned.0) 8 q lt t) ∙ counted q lt t
      go (inl lt) (inr f) =
          let out = not_listed (has_bit concerned.0) 8 q (λ l t. absurd (cc)) in
          bound_else m (roles_in concerned) (slice_index kept) q out ∙ sym (spared q (λ t. absurd (cc)))
      go (inr le) b =
          let out = not_listed (has_bit concerned.0) 8 q (λ lt t. omega (arith, lt, le)) in
          let n = none_left q le in
          bound_else m (roles_in concerned) (slice_index kept) q out ∙ n.0 ∙ sym n.1

  -- what the line leaves is what the failure leaves
  pub left_is : listed ≡ left
  left_is = same_cut terms.net (bound_at m (group_of terms p) saved) (bound_at m (roles_in concerned) (slice_index kept)) m.held bound_is

  pub leaves_latest : LeavesLatestCut terms m p saved (told_after terms m (Recover p concerned kept undone))
  leaves_latest =
      let c = latest_cut terms.net (bound_at m (group_of terms p) saved) m.held holds.run.1.queued in
      record { has = c.has; latest = c.latest; undoes = c.undoes; left = left_is ∙ c.undoes.kept }

  pub bystander_keeps : (q : ℕ) → (has_bit concerned.0 q ≡ true → ⊥) → made (told_after terms m (Recover p concerned kept undone)) q ≡ made m q
  bystander_keeps q free =
      ap (λ (h : List Event). made_of m h q) left_is ∙ ap (λ n. slice_index m.forgotten q + (n - slice_index m.seeds q)) (spared q free)

  -- who goes back restarts at one of the table's points
  pub restarts : (q : ℕ) (own : Act)
      → slice_get (acts q m.held) (made (told_after terms m (Recover p concerned kept undone)) q) ≡ Some own
      → IsForeseen terms.net (group_of terms p) saved m.held q own.point
  restarts q own e =
      let many = ap (λ (h : List Event). made_of m h q) left_is ∙ made_is terms.roles m left q holds.nothing in
      let e' = subst (λ n. slice_get (acts q m.held) n ≡ Some own) many e in
      let f = foreseen terms.net (group_of terms p) (held_of m saved) q m.held own (terms.roles, known.proper) holds.run e' in
      let first = subst (λ n. point_of (slice_get (acts f.p m.held) n) ≡ Some f.n) (held_is terms.roles m saved f.p holds.nothing) f.start in
      record { p = f.p; n = f.n; member = f.member; start = first; restart = f.restart }

pub failures_leave_the_latest_cut : FailuresLeaveTheLatestCut
failures_leave_the_latest_cut terms front p saved concerned kept undone known are failed =
    leaves_latest terms known (told terms front) (holds_after terms known front are) p saved concerned kept undone failed

pub bystanders_keep_all : BystandersKeepAll
bystanders_keep_all terms front p saved concerned kept undone q known are failed free =
    bystander_keeps terms known (told terms front) (holds_after terms known front are) p saved concerned kept undone failed q free

pub losers_restart_by_the_table : LosersRestartByTheTable
losers_restart_by_the_table terms front p saved concerned kept undone q own known are failed e =
    restarts terms known (told terms front) (holds_after terms known front are) p saved concerned kept undone failed q own e
