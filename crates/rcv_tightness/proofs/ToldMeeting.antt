-- In told sessions, too, each restart point of the table is met; and what is met is a restart point.
use Rattle.std.proofs.Common.{◌≡◌, ℕ, ◌<◌, true, cond, ◌||◌, Some, List, [], ◌∷◌, ◌++◌, length, refl, sym, ◌∙◌, ap, subst, inl, ⊎_elim, append_assoc}
use Rattle.std.specs.Prelude.{◌↔◌, nat_le, slice_get}
use Rattle.rcv_tree.specs.Bits.{is_listed}
use Rattle.rcv_tree.specs.declared.event.Event.{Event}
use Rattle.rcv_tree.specs.declared.numbers.Numbers.{Numbers}
use Rattle.rcv_tree.specs.declared.entry.Entry.{Entry}
use Rattle.rcv_tree.specs.declared.entry.Entry.TheVariants.{Crash, Recover}
use Rattle.rcv_tree.specs.declared.role.RoleSet.{RoleSet}
use Rattle.rcv_model.specs.Net.{Net, IsWalk}
use Rattle.rcv_model.specs.Run.{acts, IsRunOf}
use Rattle.rcv_model.specs.Journal.{numbers_at, failed as failed_once}
use Rattle.rcv_model.specs.Table.{IsRestart}
use Rattle.rcv_model.specs.TableLaws.{IsForeseen}
use Rattle.rcv_model.specs.Undo.{Kept, is_stopped, is_starved, keep_one, keep_from, keep_within, bound_of}
use Rattle.rcv_model.proofs.Roles.{set_here}
use Rattle.rcv_model.proofs.Scanning.{lose, hold}
use Rattle.rcv_told.specs.Told.{Terms, Remembered, nothing_told, down_at, told, told_from, told_after, made, made_of, group_of, bound_at, HasFailed, IsTold, IsToldFrom}
use Rattle.rcv_told.specs.Laws.{AreAccepted}
use Rattle.rcv_told.proofs.Failing.{left_is, held_is, made_is, losers_restart_by_the_table}
use Rattle.rcv_told.proofs.Telling.{ForgotNothing, down_here, nothing_after, HoldsTold}
use Rattle.rcv_tightness.specs.Met.{LosesFrom}
use Rattle.rcv_tightness.specs.Laws.{MayFail, IsNextAfterKept}
use Rattle.rcv_tightness.specs.Told.{with_failure, IsMetInTold, MayFailInTold}
use Rattle.rcv_tightness.proofs.Turns.{run_in_turn}
use Rattle.rcv_tightness.proofs.Reaching.{reach}
use Rattle.rcv_tightness.proofs.Firsts.{first_undone_is_next}
use Rattle.rcv_tightness.proofs.Meeting.{GoesBack, rest_of, walk_of, goes_back, from_start}
use Rattle.rcv_tightness.proofs.Telling.{told_join, are_told_join, up_at_start, is_up, Tells, tells}
use Rattle.rcv_tightness.proofs.Failing.{concerned, kept, undone, left, has_failed}

are_told_front : (terms : Terms) (m : Remembered) (u v : List Entry) → IsToldFrom terms m (u ++ v) → IsToldFrom terms m u
are_told_front terms m [] v a = tt
are_told_front terms m (e ∷ u) v a = (a.0, are_told_front terms (told_after terms m e) u v a.1)

-- bounds that say the same keep the same
keep_same : (net : Net) (bound other : ℕ → ℕ) (k : Kept) (h : List Event) → ((r : ℕ) → bound r ≡ other r)
    → keep_from net bound k h ≡ keep_from net other k h
keep_same net bound other k [] same = refl
keep_same net bound other k (e ∷ h) same =
    ap (λ n. keep_from net bound (cond (is_stopped k e || (nat_le n (length (acts e.role k.events)) || is_starved net k e)) (lose k e) (hold k e)) h)
    (same e.role)
    ∙ keep_same net bound other (keep_one net other k e) h same

module _ (terms : Terms) (p n q z : ℕ) (may : MayFailInTold terms p n) where
  known : AreAccepted terms
  known = may.accepted

  may_fail : MayFail terms.net terms.roles (group_of terms p) p n
  may_fail = record { proper = known.proper; accepted = known.accepted; member = inl refl; least = may.least; most = may.most; own = may.own }

  module _ (r : IsRestart terms.net p n q z) where
    to_n : (front : List ℕ) × ((w : List ℕ) → IsWalk terms.net n w → IsWalk terms.net 0 (front ++ n ∷ w))
    to_n = reach terms.net terms.roles n known.proper known.accepted may.least may.most

    abbrev way : List ℕ
    way = to_n.0 ++ n ∷ rest_of terms.net p n q z r

    walk : IsWalk terms.net 0 way
    walk = to_n.1 (rest_of terms.net p n q z r) (walk_of terms.net p n q z r)

    t : Tells terms known (nothing_told terms.roles) [] way
    t = tells terms known (nothing_told terms.roles) [] way (up_at_start terms known) walk

    -- what is remembered before the crash, and after it
    abbrev before : Remembered
    before = told_from terms (nothing_told terms.roles) t.entries

    abbrev down : Remembered
    down = told_after terms before (Crash p)

    is_down : told terms (t.entries ++ Crash p ∷ []) ≡ down
    is_down = told_join terms (nothing_told terms.roles) t.entries (Crash p ∷ [])

    g : GoesBack terms.net (group_of terms p) p n q z before.held
    g = goes_back terms.net terms.roles (group_of terms p) p n q z may_fail r to_n.0 before.held walk t.up.turns

    run : IsRunOf terms.net way before.held
    run = run_in_turn terms.net way before.held known.proper.two_ends walk t.up.turns

    nothing : ForgotNothing terms.roles down
    nothing = nothing_after terms before (Crash p) t.up.nothing

    holds : HoldsTold terms known down
    holds = record { nothing = nothing; run = (way, run) }

    abbrev set : RoleSet
    set = record { 0 = concerned terms known down nothing p g.has_saved }

    abbrev keeps : List ℕ
    keeps = kept terms known down nothing p g.has_saved

    abbrev takes : ℕ
    takes = undone terms known down nothing p g.has_saved

    failed : HasFailed terms down p g.has_saved set keeps takes
    failed = has_failed terms known down nothing p g.has_saved

    declared : p < terms.roles
    declared = ⊎_elim
        (λ e. subst (λ k. k < terms.roles) e (known.proper.senders n may.least may.most))
        (λ e. subst (λ k. k < terms.roles) e (known.proper.receivers n may.least may.most))
        may.own

    has_crashed : down_at down p ≡ Some true
    has_crashed =
        down_here down.roles p (subst (λ k. p < k) (sym nothing.numbers) declared)
        ∙ ap (λ (x : Numbers). Some x.crashed)
        (set_here before.roles p (failed_once (numbers_at before.roles p)) (subst (λ k. p < k) (sym t.up.nothing.numbers) declared))

    are_told : IsTold terms (with_failure t.entries p set keeps takes)
    are_told =
        are_told_join terms (nothing_told terms.roles) t.entries (Crash p ∷ (Recover p set keeps takes ∷ [])) t.are_told
        (is_up terms known before way p t.up declared, ((has_crashed, (g.has_saved, failed)), tt))

    recovered : told terms (with_failure t.entries p set keeps takes) ≡ told_after terms down (Recover p set keeps takes)
    recovered = told_join terms (nothing_told terms.roles) t.entries (Crash p ∷ (Recover p set keeps takes ∷ []))

    next : IsNextAfterKept terms.net down.held (bound_of (group_of terms p) g.has_saved down.held) q z
    next = (first_undone_is_next terms.net down.held (bound_of (group_of terms p) g.has_saved down.held) q z run.queued).0 g.back

    -- so many events q keeps
    keeps_many : made (told_after terms down (Recover p set keeps takes)) q ≡ length
        (acts q (keep_within terms.net (bound_of (group_of terms p) g.has_saved down.held) down.held))
    keeps_many =
        ap (λ (h : List Event). made_of down h q) (left_is terms known down holds p g.has_saved set keeps takes failed)
        ∙ made_is terms.roles down (left terms known down nothing p g.has_saved) q nothing
        ∙ ap (λ (k : Kept). length (acts q k.events))
        (keep_same terms.net (bound_at down (group_of terms p) g.has_saved) (bound_of (group_of terms p) g.has_saved down.held)
        (record { events = []; stopped = [] }) down.held bounds)
      where
        bounds : (r : ℕ) → bound_at down (group_of terms p) g.has_saved r ≡ bound_of (group_of terms p) g.has_saved down.held r
        bounds r = ap (λ k. cond (is_listed (group_of terms p) r) k (length (acts r down.held))) (held_is terms.roles down g.has_saved r nothing)

    back : slice_get (acts q down.held) (made (told_after terms down (Recover p set keeps takes)) q) ≡ Some next.0
    back = ap (slice_get (acts q down.held)) keeps_many ∙ next.1

    pub meets_told : IsMetInTold terms p n q z
    meets_told = record {
      entries = t.entries;
      saved = g.has_saved;
      concerned = set;
      kept = keeps;
      undone = takes;
      are_told = are_told;
      failed = subst (λ m. HasFailed terms m p g.has_saved set keeps takes) (sym is_down) failed;
      loses = subst (λ (m : Remembered). LosesFrom m.held g.has_saved p n) (sym is_down) g.loses_then;
      own = next.0;
      back = subst (λ (m : Remembered). slice_get (acts q m.held) (made (told terms (with_failure t.entries p set keeps takes)) q) ≡ Some next.0)
          (sym is_down) (subst (λ m. slice_get (acts q down.held) (made m q) ≡ Some next.0) (sym recovered) back);
      point = next.2;
    }

  told_restarts : IsMetInTold terms p n q z → IsRestart terms.net p n q z
  told_restarts met =
      subst (IsRestart terms.net p n q) met.point
      (from_start terms.net (group_of terms p) p n q met.own.point (told terms (met.entries ++ Crash p ∷ [])).held met.saved met.loses foreseen_)
    where
      whole : (met.entries ++ Crash p ∷ [])
          ++ Recover p met.concerned met.kept met.undone ∷ [] ≡ with_failure met.entries p met.concerned met.kept met.undone
      whole = append_assoc met.entries (Crash p ∷ []) (Recover p met.concerned met.kept met.undone ∷ [])

      are_front : IsTold terms (met.entries ++ Crash p ∷ [])
      are_front =
          are_told_front terms (nothing_told terms.roles) (met.entries ++ Crash p ∷ []) (Recover p met.concerned met.kept met.undone ∷ [])
          (subst (IsTold terms) (sym whole) met.are_told)

      last : told terms (with_failure met.entries p met.concerned met.kept met.undone) ≡ told_after terms (told terms (met.entries ++ Crash p ∷ []))
          (Recover p met.concerned met.kept met.undone)
      last = ap (told terms) (sym whole)
          ∙ told_join terms (nothing_told terms.roles) (met.entries ++ Crash p ∷ []) (Recover p met.concerned met.kept met.undone ∷ [])

      foreseen_ : IsForeseen terms.net (group_of terms p) met.saved (told terms (met.entries ++ Crash p ∷ [])).held q met.own.point
      foreseen_ =
          losers_restart_by_the_table terms (met.entries ++ Crash p ∷ [])
          p met.saved met.concerned met.kept met.undone q met.own known are_front met.failed
          (subst (λ m. slice_get (acts q (told terms (met.entries ++ Crash p ∷ [])).held) (made m q) ≡ Some met.own) last met.back)

pub told_restarts_are_met : (terms : Terms) (p n q z : ℕ) → MayFailInTold terms p n → IsRestart terms.net p n q z ↔ IsMetInTold terms p n q z
told_restarts_are_met terms p n q z may = (meets_told terms p n q z may, told_restarts terms p n q z may)
