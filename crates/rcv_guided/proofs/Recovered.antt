-- Answers to failures.
use Rattle.std.proofs.Common.{◌≡◌, ℕ, ◌<◌, ◌≤◌, Bool, true, false, cond, Option, Some, None, List, [], ◌∷◌, map, length, get_or, refl, sym, ◌∙◌, ap, subst, append-nil, arith}
use Rattle.std.specs.Prelude.{nat_lt, All, slice_index}
use Rattle.std.proofs.lemmas.List.Elements.{All-nil, All-cons, All-head, All-tail, All-same}
use Rattle.rcv_tree.specs.Bits.{has_bit}
use Rattle.rcv_tree.specs.declared.entry.Entry.{Entry}
use Rattle.rcv_accept.specs.Accepted.{AcceptedView, roles_of}
use Rattle.rcv_guide.specs.declared.recovery.Recovery.{Recovery}
use Rattle.rcv_guide.specs.Guide.{terms_of, HaveSavedEnough, MayRecover}
use Rattle.rcv_dialogue.specs.declared.answer.Answer.{Answer}
use Rattle.rcv_dialogue.specs.declared.answer.Answer.TheVariants as answer
use Rattle.rcv_dialogue.specs.declared.answer.Back.{Back}
use Rattle.rcv_dialogue.specs.declared.answer.Cause.TheVariants as cause
use Rattle.rcv_dialogue.specs.declared.answer.Undone.{Undone}
use Rattle.rcv_dialogue.specs.declared.few.Failed.{Failed}
use Rattle.rcv_dialogue.specs.declared.few.Kept.{Kept}
use Rattle.rcv_dialogue.specs.declared.line.Flight.{Flight}
use Rattle.rcv_dialogue.specs.declared.line.Line.TheVariants as line
use Rattle.rcv_dialogue.specs.declared.line.Stated.{Stated}
use Rattle.rcv_dialogue.specs.declared.line.ToldRecovery.{ToldRecovery}
use Rattle.rcv_dialogue.specs.Answers.{HasRole, IsNamed}
use Rattle.rcv_dialogue.specs.Lines.{AreRoles}
use Rattle.rcv_guided.specs.declared.taken.Taken.{Taken}
use Rattle.rcv_guided.specs.Session.{SessionView, roles_in, incarnation_of}
use Rattle.rcv_guided.specs.Histories.{GoesOnBy}
use Rattle.rcv_guided.specs.Hearing.{accepted_of, IsUnchanged, IsDown}
use Rattle.rcv_guided.specs.Counts.{made_of, roles_where, with_counts}
use Rattle.rcv_guided.specs.Flights.{flights_to_all}
use Rattle.rcv_guided.specs.Failures.{is_told_below, first_below, entries_of, FailsOnce, in_turn, FailInTurn, is_concerned, gone_back, back_of, FailAll, IsRefusalOfFail, Fails, first_of, MayRestart, IsStatedAs, IsRefusalToRestart, Recovers}
use Rattle.rcv_guided.specs.Taking.{MayFail, MayRestartNow, IsTaken, HaveTaken, raised_in, IsTakenAnswer, SaysTaken}
use Rattle.rcv_guided.specs.Answers.{ComesBy}
use Rattle.rcv_model.proofs.Lists.{some_same}
use Rattle.rcv_guided.proofs.Listing.{chosen, all_made}

-- ---- what is answered

module _ (s new : SessionView) (before : List ℕ) (few : roles_in new ≤ 8) (before_is : (r : ℕ) → r < roles_in new → slice_index before r ≡ incarnation_of s r) where
  same_raised : raised_in before new ≡ gone_back s new
  same_raised = chosen (λ r. nat_lt (slice_index before r) (incarnation_of new r)) (λ r. nat_lt (incarnation_of s r) (incarnation_of new r)) (roles_in new)
      (λ r lt. ap (λ n. nat_lt n (incarnation_of new r)) (before_is r lt))

  pub recovered : (failed : List Failed) (roles : List ℕ) (backs : List Recovery) (entries : List Entry) (taken : Taken) (undone : Undone) (back : List Back) (flight : List Flight)
      → FailInTurn failed roles s backs entries new → IsTaken backs taken → IsTakenAnswer before taken new undone back flight
      → FailAll s failed roles undone back flight entries new
  recovered failed roles backs entries taken undone back flight fail is it = record {
    backs = backs;
    fail = fail;
    undone_is = record {
      count = it.count ∙ is.undone;
      kept_is = it.kept_is ∙ ap (with_counts (made_of new)) (chosen (has_bit taken.concerned.0) (is_concerned backs) (roles_in new) (λ r lt. is.concerned r (omega (arith, few, lt))));
    };
    back_is = it.back_is ∙ ap (map (back_of new)) same_raised;
    flight_is = it.flight_is ∙ ap (flights_to_all new.guide) same_raised;
  }

  -- `fail` is taken
  pub fail_comes : (failed : List Failed) (taken : Taken) (said : Answer) → MayFail s failed → HaveTaken s failed taken new → SaysTaken before taken new said → ComesBy s (line.Fail failed) new said
  fail_comes failed taken said may have it = record { added = have.entries; comes = go said it; history = have.history }
    where
      go : (said : Answer) → SaysTaken before taken new said → Fails s failed said have.entries new
      go (answer.Recovered undone back flight) it = record {
        above = may.above;
        all = recovered failed (in_turn (terms_of s.guide) [] failed) have.backs have.entries taken undone back.now flight.now have.fail have.taken_is it;
      }
      go other it = absurd it

  -- `recover` is taken
  pub recover_comes : (told : ToldRecovery) (back : Recovery) (entries : List Entry) (taken : Taken) (said : Answer) → MayRestart s told.failed → FailsOnce told.failed (first_of told.failed) s back new
      → entries ≡ entries_of s.guide (first_of told.failed) back → IsTaken (back ∷ []) taken → GoesOnBy s entries new
      → ((undone : Undone) → undone.undone ≡ taken.undone → undone.kept.now ≡ with_counts (made_of new) (roles_where new (has_bit taken.concerned.0)) → IsStatedAs told.stated undone)
      → SaysTaken before taken new said → ComesBy s (line.Recover told) new said
  recover_comes told back entries taken said may once entries_are is history stated it = record { added = entries; comes = go said it; history = history }
    where
      turn : FailInTurn told.failed (first_of told.failed ∷ []) s (back ∷ []) entries new
      turn = (new, [], once, (refl, refl), entries_are ∙ sym (append-nil (entries_of s.guide (first_of told.failed) back)))

      go : (said : Answer) → SaysTaken before taken new said → Recovers s told said entries new
      go (answer.Recovered undone back' flight) it = record {
        may = may;
        stated = stated undone it.count it.kept_is;
        all = recovered told.failed (first_of told.failed ∷ []) (back ∷ []) entries taken undone back'.now flight.now turn is it;
      }
      go other it = absurd it

-- They aren't taken.
pub fail_refused : (s : SessionView) (failed : List Failed) (said : Answer) (added : List Entry) (after : SessionView) → IsRefusalOfFail s failed said → IsUnchanged s added after → Fails s failed said added after
fail_refused s failed (answer.Recovered undone back flight) added after is same = absurd is
fail_refused s failed other added after is same = (is, same)

pub recover_refused : (s : SessionView) (told : ToldRecovery) (said : Answer) (added : List Entry) (after : SessionView) → IsRefusalToRestart s told said → IsUnchanged s added after → Recovers s told said added after
recover_refused s told (answer.Recovered undone back flight) added after is same = absurd is
recover_refused s told other added after is same = (is, same)

-- ---- names

pub all_declared : (a : AcceptedView) (failed : List Failed) → AreRoles a failed → All (λ f. f.role < roles_of a) failed
all_declared a [] are = All-nil (λ f. f.role < roles_of a)
all_declared a (f ∷ failed) are = All-cons (λ f. f.role < roles_of a) f failed are.0 (all_declared a failed are.2)

below_declared : (line : ℕ → ℕ) (roles : ℕ) (failed : List Failed) (kept : Kept) → All (λ f. f.role < roles) failed → first_below line failed ≡ Some kept → kept.role < roles
below_declared line roles [] kept all e = absurd (cc)
below_declared line roles (f ∷ failed) kept all e =
    go (is_told_below (line f.role) f.count) (below_declared line roles failed kept (All-tail (λ f. f.role < roles) f failed all)) e
  where
    go : (b : Bool) → (first_below line failed ≡ Some kept → kept.role < roles) → cond b (Some (record { role = f.role; count = line f.role })) (first_below line failed) ≡ Some kept → kept.role < roles
    go true rest e = subst (λ r. r < roles) (ap (λ (k : Kept). k.role) (some_same e)) (All-head (λ f. f.role < roles) f failed all)
    go false rest e = rest e

pub counts_named : (s : SessionView) (count : ℕ → ℕ) (p : ℕ → Bool) → All (HasRole (accepted_of s)) (with_counts count (roles_where s p))
counts_named s count p = all_made (HasRole (accepted_of s)) (λ r. record { role = r; count = count r }) p (roles_in s) (λ r lt. lt)

pub fail_named : (s : SessionView) (failed : List Failed) (said : Answer) → All (λ f. f.role < roles_in s) failed → IsRefusalOfFail s failed said → IsNamed (accepted_of s) said
fail_named s failed (answer.Illegal (cause.Line kept)) all is = below_declared (slice_index is.stable) (roles_in s) failed kept all is.is
fail_named s failed answer.Memory all is = tt
fail_named s failed other all is = absurd is

pub restart_named : (s : SessionView) (told : ToldRecovery) (said : Answer) → All (λ f. f.role < roles_in s) told.failed → IsRefusalToRestart s told said → IsNamed (accepted_of s) said
restart_named s told (answer.Illegal cause.Up) all is = tt
restart_named s told (answer.Illegal cause.Host) all is = tt
restart_named s told (answer.Illegal (cause.Line kept)) all is = below_declared (slice_index is.below.stable) (roles_in s) told.failed kept all is.below.is
restart_named s told (answer.Illegal (cause.Recovery undone)) all is =
    All-same (HasRole (accepted_of s)) undone.kept.now (with_counts (slice_index is.back.kept) (roles_where s (is_concerned (is.back ∷ [])))) is.undone_is.kept_is
    (counts_named s (slice_index is.back.kept) (is_concerned (is.back ∷ [])))
restart_named s told answer.Memory all is = tt
restart_named s told other all is = absurd is

-- ---- what is stated

pub stated_same : (stated : Option Stated) (u v : Undone) → v.undone ≡ u.undone → v.kept.now ≡ u.kept.now → IsStatedAs stated u → IsStatedAs stated v
stated_same None u v count kept is = tt
stated_same (Some st) u v count kept is = (is.0 ∙ sym count, is.1 ∙ sym kept)

-- The first of some roles.
pub first_is : (failed : List Failed) (d : Failed) → 1 ≤ length failed → (get_or failed 0 d).role ≡ first_of failed
first_is [] d some = absurd (omega (arith, some))
first_is (f ∷ failed) d some = refl

-- The first one may recover.
pub may_restart : (s : SessionView) (failed : List Failed) (role : ℕ) (saved : List ℕ) → MayRestartNow s failed → role ≡ first_of failed → HaveSavedEnough s.guide role saved → MayRecover s.guide role saved
may_restart s failed role saved may is enough = record {
  down = subst (λ r. IsDown s r) (sym is) may.may.down;
  told = let room = may.room in omega (arith, room);
  enough = enough;
}
