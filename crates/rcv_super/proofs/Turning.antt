-- The turns of a session so far, in front of what comes later.
use Rattle.std.proofs.Common.{◌≡◌, Bool, true, false, ℕ, ◌<◌, ◌≤◌, ◌-◌, suc, List, [], ◌∷◌, ◌++◌, length, length-append, refl, sym, ◌∙◌, ap, subst, append_assoc, append-nil, arith}
use Rattle.rcv_tree.specs.declared.entry.Entry.{Entry}
use Rattle.rcv_model.specs.Final.{IsOneThreadFrom}
use Rattle.rcv_session.specs.Session.{SessionView, rules_of}
use Rattle.rcv_core.specs.Book.{BookView, state_of, most_entries, with_more, IsAtEnd, EndsAlone}
use Rattle.rcv_core.proofs.Alone.{SoFar, one_more, ends}
use Rattle.std.specs.Prelude.{Result, Ok, Err, Option, Some}
use Rattle.rcv_core.specs.declared.skip.Skip.{Skip}
use Rattle.rcv_core.specs.Skips.{IsSkip}
use Rattle.rcv_super.specs.declared.session.Turn.{Turn}
use Rattle.rcv_super.specs.declared.session.Turn.TheVariants as turns
use Rattle.rcv_super.specs.declared.session.SessionError.{SessionError}
use Rattle.rcv_super.specs.declared.session.SessionError.TheVariants.{Closed, Memory}
use Rattle.rcv_super.specs.Super.{SuperView}
use Rattle.rcv_super.specs.Turn.{HasCounted, HasNotCounted, Turned}
use Rattle.rcv_alone.specs.Steps.{HasStepped}
use Rattle.rcv_super.specs.Steps.{HasGoneOn}
use Rattle.rcv_super.specs.Finish.{HasFinished, HasTurned, FinishedAlone, Finished}
use Rattle.rcv_super.proofs.Ending.{Came, came_some, step_on, grown_at_most}

-- entries were added; one worker added the first ones of one thread
pub record Goes (workers : ℕ) (old now : BookView) : Type 0 where
  pub more : List Entry
  pub added : now ≡ with_more old more
  pub alone : workers ≡ 1 → SoFar old now

pub begins : (workers : ℕ) (book : BookView) → Goes workers book book
begins workers book = record { more = []; added = same; alone = λ one. record { more = []; added = same; behind = λ rest alone. alone } }
  where
    same : book ≡ with_more book []
    same = ap (λ (j : List Entry). record { setup = book.setup; entries = j }) (sym (append-nil book.entries))

pub goes_on : (workers : ℕ) (old now new : BookView) → Goes workers old now → HasGoneOn now new → (workers ≡ 1 → HasStepped now new) → Goes workers old new
goes_on workers old now new so on step = record {
  more = so.more ++ on.first ∷ on.more;
  added = on.added ∙ ap (λ (b : BookView). with_more b (on.first ∷ on.more)) so.added ∙ ap (λ (j : List Entry). record { setup = old.setup; entries = j }) (append_assoc old.entries so.more (on.first ∷ on.more));
  alone = λ one. let s = step one in one_more old now new s.entry (so.alone one) s.step s.added;
}

pub finishes : (workers : ℕ) (old now : BookView) → Goes workers old now → IsAtEnd now → HasFinished workers old now
finishes workers old now so end = record { more = so.more; added = so.added; end = end; alone = λ one. ends old now (so.alone one) end }

-- behind what was added so far one thread added the rest
all_alone : (old now new : BookView) → SoFar old now → EndsAlone now new → EndsAlone old new
all_alone old now new so done = record {
  more = so.more ++ done.more;
  added = done.added
      ∙ ap (λ (b : BookView). with_more b done.more) so.added
      ∙ ap (λ (j : List Entry). record { setup = old.setup; entries = j }) (append_assoc old.entries so.more done.more);
  alone = so.behind done.more (subst (λ (x : SessionView). IsOneThreadFrom (rules_of x) (state_of now) done.more) (ap (λ (b : BookView). b.setup) so.added) done.alone);
}

pub finishes_on : (workers : ℕ) (old now new : BookView) → Goes workers old now → HasFinished 1 now new → HasFinished workers old new
finishes_on workers old now new so done = record {
  more = so.more ++ done.more;
  added = done.added
      ∙ ap (λ (b : BookView). with_more b done.more) so.added
      ∙ ap (λ (j : List Entry). record { setup = old.setup; entries = j }) (append_assoc old.entries so.more done.more);
  end = done.end;
  alone = λ one. all_alone old now new (so.alone one) (done.alone refl);
}

-- each turn leaves less to add
pub grows : (now new : BookView) → HasGoneOn now new → length now.entries ≤ most_entries (rules_of now.setup) → suc (most_entries (rules_of new.setup)) - length new.entries < suc (most_entries (rules_of now.setup)) - length now.entries
grows now new on few =
    let size = length-append now.entries (on.first ∷ on.more) in
    subst (λ (b : BookView). suc (most_entries (rules_of b.setup)) - length b.entries < suc (most_entries (rules_of now.setup)) - length now.entries) (sym on.added) (omega (arith, size, few))

-- ---- what a turn said

pub few_in : (n : ℕ) (seen book : BookView) → seen ≡ book → n ≡ length seen.entries → n ≤ most_entries (rules_of seen.setup) → length book.entries ≤ most_entries (rules_of book.setup)
few_in n seen book same is few = subst (λ (b : BookView). length b.entries ≤ most_entries (rules_of b.setup)) same (subst (λ (m : ℕ). m ≤ most_entries (rules_of seen.setup)) is few)

abbrev after_turn : ℕ → SuperView → SuperView → Turn → Type 0
after_turn workers old new t = Turned workers old new (Ok t)

-- what was counted so far, and a turn more or none
pub counted_on : (first old new : SuperView) → HasTurned first old → HasCounted old new → HasTurned first new
counted_on first old new so counted =
    let least = so.turns in
    let next = counted.turns in
    record {
      turns = omega (arith, least, next);
      stays = λ none. counted.stays (none new.turns (omega (arith, least, next)) (omega arith)) ∙ so.stays (λ n lt le is. none n lt (omega (arith, le, next)) is);
    }

pub still_counted : (first old new : SuperView) → HasTurned first old → HasNotCounted old new → HasTurned first new
still_counted first old new so same =
    let least = so.turns in
    let count = same.turns in
    record {
      turns = omega (arith, least, count);
      stays = λ none. same.stable ∙ so.stays (λ n lt le is. none n lt (omega (arith, le, count)) is);
    }

pub none_counted : (session : SuperView) → HasTurned session session
none_counted session = record { turns = omega arith; stays = λ none. refl }

-- the turns of a session so far: it is open as it was, and where it is closed nothing was done
pub record Turns (workers : ℕ) (old now : SuperView) : Type 0 where
  pub goes : Goes workers old.book now.book
  pub turned : HasTurned old now
  pub as_open : now.closed ≡ old.closed
  pub still : now.closed ≡ true → now ≡ old

pub no_turn : (workers : ℕ) (session : SuperView) → Turns workers session session
no_turn workers session = record { goes = begins workers session.book; turned = none_counted session; as_open = refl; still = λ closed. refl }

not_both : (closed : Bool) → closed ≡ false → closed ≡ true → ⊥
not_both closed shut open_then = absurd (cc)

module _ (workers : ℕ) (first old new : SuperView) (so : Turns workers first old) where
  pub turn_shrinks : (t : Turn) → after_turn workers old new t → t ≡ turns.More → length old.book.entries ≤ most_entries (rules_of old.book.setup)
      → suc (most_entries (rules_of new.book.setup)) - length new.book.entries < suc (most_entries (rules_of old.book.setup)) - length old.book.entries
  turn_shrinks t turned is few = grows old.book new.book (subst (after_turn workers old new) is turned).2 few

  pub turn_goes_on : (t : Turn) → after_turn workers old new t → t ≡ turns.More → Turns workers first new
  turn_goes_on t turned is =
      let more = subst (after_turn workers old new) is turned in
      record {
        goes = goes_on workers first.book old.book new.book so.goes more.2 more.3;
        turned = counted_on first old new so.turned more.5;
        as_open = more.1 ∙ sym more.0.not_closed ∙ so.as_open;
        still = λ closed. absurd (not_both new.closed more.1 closed);
      }

  at_end : old.closed ≡ false → new ≡ old → IsAtEnd old.book → Finished workers first new (Ok tt)
  at_end not_closed same end = (
    sym so.as_open ∙ not_closed,
    ap (λ (v : SuperView). v.closed) same ∙ not_closed,
    subst (λ (v : SuperView). HasFinished workers first.book v.book) (sym same) (finishes workers first.book old.book so.goes end),
    subst (λ (v : SuperView). HasTurned first v) (sym same) so.turned,
  )

  pub turn_completes : (t : Turn) → after_turn workers old new t → t ≡ turns.Completed → Finished workers first new (Ok tt)
  turn_completes t turned is =
      let end = subst (after_turn workers old new) is turned in
      at_end end.0.not_closed end.1 end.0.end.0

  pub turn_limits : (t : Turn) → after_turn workers old new t → t ≡ turns.Limited → Finished workers first new (Ok tt)
  turn_limits t turned is =
      let end = subst (after_turn workers old new) is turned in
      at_end end.0.not_closed end.1 end.0.end.0

  pub turn_fails : (e : SessionError) → Turned workers old new (Err e) → Finished workers first new (Err e)
  turn_fails Closed turned =
      let same = so.still turned.0 in
      (subst (λ (v : SuperView). v.closed ≡ true) same turned.0, turned.1 ∙ same)
  turn_fails Memory turned =
      let grown = grown_at_most old.book new.book turned.2 in (
        sym so.as_open ∙ turned.0.not_closed,
        turned.1,
        record {
          more = so.goes.more ++ grown.more;
          added = grown.added
              ∙ ap (λ (b : BookView). with_more b grown.more) so.goes.added
              ∙ ap (λ (j : List Entry). record { setup = first.book.setup; entries = j }) (append_assoc first.book.entries so.goes.more grown.more);
        },
        still_counted first old new so.turned turned.4,
      )

  -- and behind them one thread made the rest
  pub finished_on : (result : Result (Unit {0}) SessionError) → FinishedAlone old new result → Finished workers first new result
  finished_on (Ok done) finished = (
    sym so.as_open ∙ finished.0,
    finished.1,
    finishes_on workers first.book old.book new.book so.goes finished.2,
    still_counted first old new so.turned finished.3,
  )
  finished_on (Err Closed) closed =
      let same = so.still closed.0 in
      (subst (λ (v : SuperView). v.closed ≡ true) same closed.0, closed.1 ∙ same)
  finished_on (Err Memory) never = absurd never

-- ---- one thread alone

-- the steps of one thread so far, and what is known of the next one
pub record StepsAlone (old now : BookView) (skip : Skip) : Type 0 where
  pub goes : Goes 1 old now
  pub skip_is : IsSkip now skip

pub no_step : (book : BookView) (skip : Skip) → IsSkip book skip → StepsAlone book book skip
no_step book skip is = record { goes = begins 1 book; skip_is = is }

module _ (first old new : BookView) (skip skip' : Skip) (so : StepsAlone first old skip) (result : Option Skip) (came : Came old new result) where
  pub step_shrinks : result ≡ Some skip' → length old.entries ≤ most_entries (rules_of old.setup)
      → suc (most_entries (rules_of new.setup)) - length new.entries < suc (most_entries (rules_of old.setup)) - length old.entries
  step_shrinks is few = grows old new (step_on old new (came_some old new result skip' is came).1) few

  pub step_goes_on : result ≡ Some skip' → StepsAlone first new skip'
  step_goes_on is =
      let made = came_some old new result skip' is came in
      record { goes = goes_on 1 first old new so.goes (step_on old new made.1) (λ one. made.1); skip_is = made.2 }
