-- The session in which one role alone crashes, beside the one in which nobody does: what is told of both up to the recovery.
use Rattle.std.proofs.Common.{◌≡◌, ℕ, ◌+◌, ◌<◌, ◌≤◌, Bool, true, false, cond, List, [], ◌∷◌, ◌++◌, length, length-append, refl, sym, ◌∙◌, ap, subst, ◌⊎◌, inl, inr, ⊎_elim, append_assoc, eq-eqb, ne_eqb, arith}
use Rattle.std.specs.Prelude.{◌==◌, if◌then◌else◌, nat_le}
use Rattle.std.specs.List.{All, count_by}
use Rattle.std.proofs.lemmas.Bool.{cases_eq, cases_lt}
use Rattle.std.proofs.lemmas.Bool.Decides.{nat_tests}
use Rattle.std.proofs.lemmas.List.{length-set, get_or-replicate}
use Rattle.rcv_tree.specs.Numbers.{fresh}
use Rattle.rcv_tree.specs.declared.numbers.Numbers.{Numbers}
use Rattle.rcv_tree.specs.declared.role.RoleSet.{RoleSet}
use Rattle.rcv_tree.specs.declared.entry.Entry.{Entry}
use Rattle.rcv_tree.specs.declared.entry.Entry.TheVariants.{Send, Recv, Crash, Recover}
use Rattle.rcv_model.specs.Net.{HasTwoEnds}
use Rattle.rcv_model.specs.Run.{acts}
use Rattle.rcv_model.specs.Journal.{Rules, State, nobody, numbers_at, failed, start, after, reading_from, reading, events_of, IsDue}
use Rattle.rcv_model.specs.Final.{IsCrashed, IsFinal, IsStep, IsOneThreadFrom, IsOneThread}
use Rattle.rcv_model.specs.Transparent.{without_crashes}
use Rattle.rcv_model.proofs.Bystanders.{as_many}
use Rattle.rcv_model.proofs.Forms.{proper}
use Rattle.rcv_model.proofs.OneThread.{one_journal}
use Rattle.rcv_model.proofs.Quiet.{quiet_end}
use Rattle.rcv_model.proofs.Roles.{set_else}
use Rattle.rcv_model.proofs.StableLines.{reading_join}
use Rattle.rcv_model.proofs.Threads.{one_thread}
use Rattle.rcv_session.specs.Session.{SessionView, text_of, roles_of, rules_of}
use Rattle.rcv_accept.specs.Accepted.{IsAcceptedProtocol}
use Rattle.rcv_transparent.specs.Calm.{calm}
use Rattle.rcv_costs.specs.Rehearsal.{crash_session, IsRecover, IsNoRecover, IsBeginningFrom}
use Rattle.rcv_costs.specs.Costs.{IsCalmRun}
use Rattle.rcv_costs.proofs.Beginnings.{Parted, parted, steps_more, begins, at_end, none_at_start, crashed_now, sizes_stay, numbers_stay, all_kept}
use Rattle.rcv_costs.proofs.Calming.{same_reading, steps_move, final_without, stuck}
use Rattle.rcv_costs.proofs.Sessions.{rules_crash, line_of}

-- one line is reached where the count has come to it
reached : (n raw c : ℕ) → c < count_by (λ m. nat_le m raw) (n ∷ []) → n ≤ raw
reached n raw c lt = ⊎_elim (λ low. absurd (none (nat_le n raw) (below n raw low) lt)) (λ le. le) (cases_lt raw n)
  where
    below : (a b : ℕ) → b < a → nat_le a b ≡ false
    below a b l = grind (arith, nat_tests)

    none : (b : Bool) → b ≡ false → c < 0 + cond b 1 0 → ⊥
    none true e l = absurd (cc)
    none false e l = omega (arith, l)

reaches : (n raw : ℕ) → n ≤ raw → 0 < count_by (λ m. nat_le m raw) (n ∷ [])
reaches n raw le = one (nat_le n raw) (above n raw le)
  where
    above : (a b : ℕ) → a ≤ b → nat_le a b ≡ true
    above a b l = grind (arith, nat_tests)

    one : (b : Bool) → b ≡ true → 0 < 0 + cond b 1 0
    one true e = omega arith
    one false e = absurd (cc)

-- whether this is whose line it is
whose : (b : Bool) (n : ℕ) → b ≡ false → (if b then n ∷ [] else []) ≡ []
whose true n e = absurd (cc)
whose false n e = refl

own : (b : Bool) (n : ℕ) → b ≡ true → (if b then n ∷ [] else []) ≡ n ∷ []
own true n e = refl
own false n e = absurd (cc)

module _ (session : SessionView) (p n : ℕ) where
  abbrev rules : Rules
  rules = rules_of (crash_session session p n)

  due_line : (s : State) (q : ℕ) → IsDue rules s q → (q ≡ p) × (n ≤ (numbers_at s.roles p).raw)
  due_line s q due = ⊎_elim
      (λ (e : p ≡ q).
      let is = line_of session p n q ∙ own (p == q) n (eq-eqb p q e) in
      let lt = subst (λ lines. (numbers_at s.roles q).crashes < count_by (λ m. nat_le m (numbers_at s.roles q).raw) lines) is due.1 in
      (sym e, subst (λ r. n ≤ (numbers_at s.roles r).raw) (sym e) (reached n (numbers_at s.roles q).raw (numbers_at s.roles q).crashes lt)))
      (λ other.
      let is = line_of session p n q ∙ whose (p == q) n (ne_eqb p q other) in
      let lt = subst (λ lines. (numbers_at s.roles q).crashes < count_by (λ m. nat_le m (numbers_at s.roles q).raw) lines) is due.1 in
      absurd (omega (arith, lt)))
      (cases_eq p q)

  line_due : (s : State) → (numbers_at s.roles p).crashed ≡ false → (numbers_at s.roles p).crashes ≡ 0 → n ≤ (numbers_at s.roles p).raw → IsDue rules s p
  line_due s up first le =
      let is = line_of session p n p ∙ own (p == p) n (eq-eqb p p refl) in (
        up,
        subst (λ lines. (numbers_at s.roles p).crashes < count_by (λ m. nat_le m (numbers_at s.roles p).raw) lines) (sym is)
            (subst (λ c. c < count_by (λ m. nat_le m (numbers_at s.roles p).raw) (n ∷ [])) (sym first) (reaches n (numbers_at s.roles p).raw le)),
      )

  module _ (accepted : IsAcceptedProtocol session.protocol) where
    two : HasTwoEnds rules.net
    two = (proper (text_of session) (roles_of session) accepted.form).two_ends

    -- the steps of the book up to the first Recover, and the events among them
    module _ (k : List Entry) (steps : IsBeginningFrom rules (start rules.roles) k) (calmly : All IsNoRecover k) where
      part : Parted rules (start rules.roles) k
      part = parted rules (start rules.roles) k (none_at_start rules.roles) steps calmly

      abbrev before : State
      before = reading_from rules (start rules.roles) part.events

      none_crashed : (r : ℕ) → IsCrashed before r → ⊥
      none_crashed r e = none_at_start rules.roles r (
        subst (λ n. r < n) (sizes_stay rules (start rules.roles) part.events part.only) e.0,
        sym (numbers_stay (λ (x : Numbers). x.crashed) (λ x stamp. refl) rules (start rules.roles) part.events part.only r) ∙ e.1,
      )

      -- a journal of the session without crashes begins with these events
      calm_rest : (j : List Entry) → IsOneThread (without_crashes rules) j → (rest : List Entry) × (j ≡ part.events ++ rest) × IsOneThreadFrom (without_crashes rules) before rest
      calm_rest j alone =
          let b = begins (without_crashes rules) (start rules.roles) part.events j two (steps_move rules (start rules.roles) part.events part.only part.steps) alone in
          (b.0, b.1, subst (λ (t : State). IsOneThreadFrom (without_crashes rules) t b.0) (same_reading rules (start rules.roles) part.events part.only) b.2)

      calm_state : (j : List Entry) (alone : IsOneThread (without_crashes rules) j) → reading (without_crashes rules) j ≡ reading_from (without_crashes rules) before (calm_rest j alone).0
      calm_state j alone =
          let b = calm_rest j alone in
          ap (reading (without_crashes rules)) b.1
          ∙ reading_join (without_crashes rules) (start rules.roles) part.events b.0
          ∙ ap (λ (t : State). reading_from (without_crashes rules) t b.0) (same_reading rules (start rules.roles) part.events part.only)

      -- nothing else follows where the book is at its end and nobody has crashed
      calm_end : (j : List Entry) → IsOneThread (without_crashes rules) j → IsFinal rules before → reading (without_crashes rules) j ≡ before
      calm_end j alone final =
          let b = calm_rest j alone in
          calm_state j alone
          ∙ ap (reading_from (without_crashes rules) before) (at_end (without_crashes rules) before b.0 (final_without rules before final) b.2)

      -- what stands after a crash
      behind_crash : (q : ℕ) → k ≡ part.events ++ Crash q ∷ [] → reading rules k ≡ after rules before (Crash q)
      behind_crash q e = ap (reading rules) e ∙ reading_join rules (start rules.roles) part.events (Crash q ∷ [])

      -- next comes a Recover, or nothing
      abbrev Ends : Type 0
      Ends = IsFinal rules (reading rules k) ⊎ ((e : Entry) × IsRecover e × IsStep rules (reading rules k) e)

      no_recover : (s : State) → ((r : ℕ) → IsCrashed s r → ⊥) → (e : Entry) → IsRecover e → IsStep rules s e → ⊥
      no_recover s none (Send e) is x = absurd is
      no_recover s none (Recv e) is x = absurd is
      no_recover s none (Crash q) is x = absurd is
      no_recover s none (Recover q c d u) is x = none q x.0.0

      -- where the role crashes at its end, if at all, its events are those that it makes without crashes
      pub own_events : (j : List Entry) → IsOneThread (without_crashes rules) j → Ends → rules.limit ≤ n → events_of p (reading (without_crashes rules) j).kept ≡ events_of p (reading rules k).kept
      own_events j alone ends most = go part.rest
        where
          go : (k ≡ part.events) ⊎ ((q : ℕ) × (k ≡ part.events ++ Crash q ∷ []) × IsStep rules before (Crash q)) → events_of p (reading (without_crashes rules) j).kept ≡ events_of p (reading rules k).kept
          go (inl e) = ⊎_elim
              (λ (final : IsFinal rules (reading rules k)).
              ap (λ (t : State). events_of p t.kept) (calm_end j alone (subst (λ l. IsFinal rules (reading rules l)) e final) ∙ sym (ap (reading rules) e)))
              (λ next. absurd (no_recover before none_crashed next.0 next.1 (subst (λ l. IsStep rules (reading rules l) next.0) e next.2)))
              ends
          go (inr a) =
              let line = due_line before a.0 a.2.1.0 in
              ap (λ (t : State). events_of p t.kept) (calm_state j alone)
              ∙ stuck rules p before (calm_rest j alone).0 none_crashed (let le = line.1 in omega (arith, le, most)) (calm_rest j alone).2
              ∙ ap (λ (t : State). events_of p t.kept) (sym (behind_crash a.0 a.1))

      -- the crash comes, where the role makes so many events without crashes
      pub crash_comes : (j : List Entry) → IsOneThread (without_crashes rules) j → p < rules.roles → n ≤ length (events_of p (reading (without_crashes rules) j).kept) → IsFinal rules (reading rules k) → ⊥
      crash_comes j alone low few final = go part.rest
        where
          go : (k ≡ part.events) ⊎ ((q : ℕ) × (k ≡ part.events ++ Crash q ∷ []) × IsStep rules before (Crash q)) → ⊥
          go (inl e) =
              let here : IsFinal rules before = subst (λ l. IsFinal rules (reading rules l)) e final in
              let same : reading (without_crashes rules) j ≡ before = calm_end j alone here in
              let quiet = (quiet_end (without_crashes rules) (λ r. refl) j ((one_journal (without_crashes rules) j j).legal alone)).1.whole p in
              let raw : (numbers_at before.roles p).raw ≡ length (acts p before.kept) = subst (λ (t : State). (numbers_at t.roles p).raw ≡ length (acts p t.kept)) same quiet in
              let many : n ≤ length (events_of p before.kept) = subst (λ (t : State). n ≤ length (events_of p t.kept)) same few in
              let at_first = get_or-replicate rules.roles p fresh nobody low in
              let up : (numbers_at before.roles p).crashed ≡ false =
              numbers_stay (λ (x : Numbers). x.crashed) (λ x stamp. refl) rules (start rules.roles) part.events part.only p ∙ ap (λ (x : Numbers). x.crashed) at_first in
              let first : (numbers_at before.roles p).crashes ≡ 0 =
              numbers_stay (λ (x : Numbers). x.crashes) (λ x stamp. refl) rules (start rules.roles) part.events part.only p ∙ ap (λ (x : Numbers). x.crashes) at_first in
              here.none_due p low (line_due before up first (omega (arith, raw, many, as_many p before.kept)))
          go (inr a) =
              (subst (λ (t : State). IsFinal rules t) (behind_crash a.0 a.1) final).none_crashed a.0 (crashed_now rules before a.0 a.2.1.0)

      -- what recovers is the role, and all entries are kept events but for its Crash
      pub whose_recovery : (q : ℕ) (c : RoleSet) (d : List ℕ) (u : ℕ) → IsStep rules (reading rules k) (Recover q c d u) → (q ≡ p) × (length (reading rules k).kept + 1 ≡ length k)
      whose_recovery q c d u step = go part.rest
        where
          go : (k ≡ part.events) ⊎ ((q : ℕ) × (k ≡ part.events ++ Crash q ∷ []) × IsStep rules before (Crash q)) → (q ≡ p) × (length (reading rules k).kept + 1 ≡ length k)
          go (inl e) = absurd (none_crashed q (subst (λ l. IsCrashed (reading rules l) q) e step.0.0))
          go (inr a) =
              let state = behind_crash a.0 a.1 in
              let is : a.0 ≡ p = (due_line before a.0 a.2.1.0).0 in
              let marked : IsCrashed (after rules before (Crash a.0)) q = subst (λ (t : State). IsCrashed t q) state step.0.0 in
              let events = all_kept rules (start rules.roles) part.events part.only in
              let same = ap (λ (t : State). length t.kept) state in
              let whole = ap length a.1 in (
                ⊎_elim
                    (λ (e : q ≡ a.0). e ∙ is)
                    (λ other. absurd (none_crashed q (
                      subst (λ n. q < n) (length-set before.roles a.0 _) marked.0,
                      sym (ap (λ (x : Numbers). x.crashed) (set_else before.roles a.0 q (failed (numbers_at before.roles a.0)) (λ f. other (sym f)))) ∙ marked.1,
                    )))
                    (cases_eq q a.0),
                omega (arith, events, same, whole, length-append part.events (Crash a.0 ∷ [])),
              )

      -- the whole journal begins so
      pub whole_journal : (e : Entry) → IsStep rules (reading rules k) e → (back : List Entry) × IsOneThread rules (k ++ e ∷ back)
      whole_journal e step =
          let j = one_thread rules (proper (text_of session) (roles_of session) accepted.form) accepted.accepted.lanes_end in
          let b = begins rules (start rules.roles) (k ++ e ∷ []) j.0 two (steps_more rules (start rules.roles) k e steps step) j.1 in
          (b.0, subst (IsOneThread rules) (b.1 ∙ append_assoc k (e ∷ []) b.0) j.1)

-- a journal of one thread without crashes exists
pub calm_run : (session : SessionView) → IsAcceptedProtocol session.protocol → (run : List Entry) × IsCalmRun session run
calm_run session accepted = one_thread (rules_of (calm session)) (proper (text_of session) (roles_of session) accepted.form) accepted.accepted.lanes_end

-- and it is one of the rules of the session with one crash, without those
pub calm_moves : (session : SessionView) (p n : ℕ) (run : List Entry) → IsCalmRun session run → IsOneThread (without_crashes (rules_of (crash_session session p n))) run
calm_moves session p n run alone = subst (λ (x : Rules). IsOneThread x run) (sym (rules_crash session p n)) alone
