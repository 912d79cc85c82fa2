-- How a book goes on, and where a session is at its end.
use Rattle.std.proofs.Common.{◌≡◌, Bool, true, false, ℕ, ◌+◌, ◌%◌, ◌<◌, ◌≤◌, List, [], ◌∷◌, length, length-append, append-nil, refl, sym, ◌∙◌, ap, subst, inl, inr, ⊎_elim, arith}
use Rattle.rcv_tree.specs.declared.entry.Entry.{Entry}
use Rattle.std.specs.Prelude.{Result, Ok, Err, OnOk}
use Rattle.std.proofs.lemmas.Bool.{cases_lt}
use Rattle.rcv_model.specs.Final.{IsCrashed, IsFinal, IsLeastOf}
use Rattle.rcv_model.specs.Journal.{State}
use Rattle.rcv_session.specs.Session.{roles_of, rules_of}
use Rattle.rcv_core.specs.Book.{BookView, state_of, with_more, HasMore, IsStableLineOf}
use Rattle.rcv_fence.specs.Shown.{Shown}
use Rattle.rcv_cells.specs.Home.{HasGrown, AreHome, HaveBases}
use Rattle.rcv_cells.specs.Running.{HasMadeRound}
use Rattle.std.specs.Prelude.{MatchOption, Option, Some, IsTrue, ◌↔◌}
use Rattle.rcv_core.specs.declared.skip.Skip.{Skip}
use Rattle.rcv_core.specs.Book.{IsAtEnd}
use Rattle.rcv_core.specs.Skips.{IsSkip, no_skip}
use Rattle.rcv_role.specs.Cell.{CellView}
use Rattle.rcv_super.specs.Super.{SuperView, IsAlone, Stands, IsOpen}
use Rattle.rcv_super.proofs.OneByOne.{stepped_on, same_setup}
use Rattle.rcv_super.specs.declared.session.Turn.{Turn}
use Rattle.rcv_super.specs.declared.session.Turn.TheVariants.{More, Completed, Limited}
use Rattle.rcv_super.specs.declared.session.SessionError.TheVariants.{Memory}
use Rattle.rcv_super.specs.Turn.{IsAtCompletion, IsAtLimit, GoesOn, IsEndOf, HasCounted, HasNotCounted, Turned}
use Rattle.rcv_alone.specs.Steps.{HasStepped}
use Rattle.rcv_super.specs.Steps.{HasGoneOn, HasRecovered}
use Rattle.rcv_super.specs.Rounds.{NoneIsCrashed, HasRecoveredBeside, HasGoneRound, HasGoneTogether, HasOneRecovered, HasRecoveredAtMost}
use Rattle.rcv_super.specs.Finish.{HasFinished}
use Rattle.rcv_super.specs.declared.whereabouts.Whereabouts.{Whereabouts}
use Rattle.rcv_super.specs.declared.whereabouts.Whereabouts.TheVariants as places

-- where something is left to do, a session isn't at its end
pub not_final : (book : BookView) → HasMore book → IsFinal (rules_of book.setup) (state_of book) → ⊥
not_final book more final = ⊎_elim
    (λ c. final.none_crashed c.0 c.2)
    (λ o. ⊎_elim (λ d. final.none_due d.0 d.1 d.2) (λ a. final.none_acts a.0 a.1 a.2) o)
    more

-- a book without more entries is what it was
none_more : (old : BookView) (more : List Entry) → length (with_more old more).entries ≤ length old.entries → with_more old more ≡ old
none_more old [] le = ap (λ (l : List Entry). record { setup = old.setup; entries = l }) (append-nil old.entries)
none_more old (e ∷ more) le = let n = length-append old.entries (e ∷ more) in absurd (omega (arith, n, le))

some_more : (old : BookView) (more : List Entry) → length old.entries < length (with_more old more).entries → HasGoneOn old (with_more old more)
some_more old [] lt = let n = length-append old.entries [] in absurd (omega (arith, n, lt))
some_more old (e ∷ more) lt = record { first = e; more = more; added = refl }

pub stayed : (old new : BookView) → HasGrown old new → length new.entries ≤ length old.entries → new ≡ old
stayed old new grown le = grown.added ∙ none_more old grown.more (subst (λ (b : BookView). length b.entries ≤ length old.entries) grown.added le)

pub went_on : (old new : BookView) → HasGrown old new → length old.entries < length new.entries → HasGoneOn old new
went_on old new grown lt = subst (HasGoneOn old) (sym grown.added) (some_more old grown.more (subst (λ (b : BookView). length old.entries < length b.entries) grown.added lt))

-- a step and a recovery add an entry at least
pub step_on : (old new : BookView) → HasStepped old new → HasGoneOn old new
step_on old new stepped = record { first = stepped.entry; more = []; added = stepped.added }

pub recovery_on : (old new : BookView) (role : ℕ) → HasRecoveredBeside old new role → HasGoneOn old new
recovery_on old new role recovered = record { first = recovered.entry; more = recovered.merged; added = recovered.added }

-- there is one least crashed role at most
least_same : (s : State) (p q : ℕ) → IsLeastOf (IsCrashed s) p → IsLeastOf (IsCrashed s) q → p ≡ q
least_same s p q x y = ⊎_elim
    (λ lt. absurd (y.1 p lt x.0))
    (λ le. ⊎_elim (λ lt. absurd (x.1 q lt y.0)) (λ ge. omega (arith, le, ge)) (cases_lt q p))
    (cases_lt p q)

-- the least crashed role recovered, and others ran beside it; or none was crashed, and a round was made
pub recovered_together : (old new : BookView) (role : ℕ) → IsLeastOf (IsCrashed (state_of old)) role → HasRecoveredBeside old new role → HasGoneTogether old new
recovered_together old new role least recovered = record {
  recovered = λ p mine. subst (HasRecoveredBeside old new) (least_same (state_of old) role p least mine) recovered;
  round = λ none. absurd (none role least.0);
}

pub round_together : (old new : BookView) → NoneIsCrashed old → HasGoneRound old new → HasGoneTogether old new
round_together old new none round = record { recovered = λ p mine. absurd (none p mine.0); round = λ calm. round }

pub round_on : (old new : BookView) → HasGoneRound old new → HasGoneOn old new
round_on old new round = ⊎_elim (λ added. subst (HasGoneOn old) (sym added.0) added.1) (λ stepped. step_on old new stepped.1) round.goes

-- a round that added something is all that was done; behind one that added nothing there was a step
module _ (old behind : BookView) (cells : List CellView) (watch : Shown) (home : AreHome old cells) (made : HasMadeRound watch old behind cells) where
  round_grew : HasGrown old behind
  round_grew = record { more = made.merged; added = made.added }

  pub round_went : length old.entries < length behind.entries → HasGoneRound old behind
  round_went lt = record { cells = cells; home = home; watch = watch; behind = behind; made = made; goes = inl (refl, went_on old behind round_grew lt) }

  pub round_stayed : length behind.entries ≤ length old.entries → behind ≡ old
  round_stayed le = stayed old behind round_grew le

  pub round_stepped : (new : BookView) → length behind.entries ≤ length old.entries → HasStepped behind new → HasGoneRound old new
  round_stepped new le stepped = record {
    cells = cells;
    home = home;
    watch = watch;
    behind = behind;
    made = made;
    goes = inr (round_stayed le, subst (λ (b : BookView). HasStepped b new) (round_stayed le) stepped);
  }

pub not_several : (workers : ℕ) (old new : BookView) → workers ≡ 1 → 2 ≤ workers → HasGoneTogether old new
not_several workers old new one several = absurd (omega (arith, one, several))

-- what holds anyhow holds where a call succeeded
pub on_ok : {T E : Type 0} (result : Result T E) (A : Type 0) → A → OnOk result A
on_ok (Ok x) A here = here
on_ok (Err e) A here = tt

-- a book that stayed, or has a step more, has grown
pub grown_same : (old new : BookView) → new ≡ old → HasGrown old new
grown_same old new same = record { more = []; added = same ∙ sym (ap (λ (l : List Entry). record { setup = old.setup; entries = l }) (append-nil old.entries)) }

pub grown_on : (old new : BookView) → HasGoneOn old new → HasGrown old new
grown_on old new on = record { more = on.first ∷ on.more; added = on.added }

pub more_entries : (old new : BookView) → HasGoneOn old new → length old.entries < length new.entries
more_entries old new on = let n = length-append old.entries (on.first ∷ on.more) in let e = ap (λ (b : BookView). length b.entries) on.added in omega (arith, n, e)

pub fewer_entries : (old new : BookView) → HasGrown old new → length old.entries ≤ length new.entries
fewer_entries old new grown = let n = length-append old.entries grown.more in let e = ap (λ (b : BookView). length b.entries) grown.added in omega (arith, n, e)

pub grown_recovery : (old new : BookView) (role : ℕ) → HasRecovered old new role → HasGrown old new
grown_recovery old new role recovered = record { more = recovered.entry ∷ []; added = recovered.added }

pub grown_at_most : (old new : BookView) → HasRecoveredAtMost old new → HasGrown old new
grown_at_most old new some = ⊎_elim (grown_same old new) (λ (one : HasOneRecovered old new). grown_recovery old new one.0 one.2) some

pub grown_step : (old new : BookView) → HasStepped old new → HasGrown old new
grown_step old new stepped = record { more = stepped.entry ∷ []; added = stepped.added }

pub finished_grown : (workers : ℕ) (old new : BookView) → HasFinished workers old new → HasGrown old new
finished_grown workers old new finished = record { more = finished.more; added = finished.added }

-- what a turn answers, of a session with this book
abbrev session_of : BookView → Bool → ℕ → List ℕ → SuperView
session_of book closed turns line = record { book = book; closed = closed; turns = turns; stable = line }

module _ (workers : ℕ) (old : SuperView) (book : BookView) (closed : Bool) (turns : ℕ) (line : List ℕ) (is : session_of book closed turns line ≡ old) (not_closed : closed ≡ false) where
  not_counted : (new : BookView) (closed' : Bool) → HasNotCounted old (session_of new closed' turns line)
  not_counted new closed' = subst (λ (s : SuperView). HasNotCounted s (session_of new closed' turns line)) is (record { turns = refl; stable = refl })

  pub ends : (turn : Turn) → IsEndOf book turn → (new : SuperView) → new ≡ old → Turned workers old new (Ok turn)
  ends Completed end new same = (subst (λ (s : SuperView). IsAtCompletion s) is (record { not_closed = not_closed; end = end }), same)
  ends Limited end new same = (subst (λ (s : SuperView). IsAtLimit s) is (record { not_closed = not_closed; end = end }), same)
  ends More end new same = absurd end

  goes : HasMore book → GoesOn old
  goes more = subst (λ (s : SuperView). GoesOn s) is (record { not_closed = not_closed; more = more })

  pub more_made : HasMore book → (new there : BookView) → there ≡ new → HasGoneOn book new → (workers ≡ 1 → HasStepped book new) → (2 ≤ workers → HasGoneTogether book new) → (count : ℕ) (line' : List ℕ) → count ≡ turns + 1 → (count % 1024 ≡ 0 → IsStableLineOf new line') → ((count % 1024 ≡ 0 → ⊥) → line' ≡ line) → Turned workers old (session_of there false count line') (Ok More)
  more_made more new there same gone stepped together count line' counted found stays = subst (λ (b : BookView). Turned workers old (session_of b false count line') (Ok More)) (sym same) (
    goes more,
    refl,
    subst (λ (s : SuperView). HasGoneOn s.book new) is gone,
    λ one. subst (λ (s : SuperView). HasStepped s.book new) is (stepped one),
    λ several. subst (λ (s : SuperView). HasGoneTogether s.book new) is (together several),
    subst (λ (s : SuperView). HasCounted s (session_of new false count line')) is (record { turns = counted; line = found; stays = stays }),
  )

  pub memory_wanted : HasMore book → (new : BookView) → HasRecoveredAtMost book new → (workers ≡ 1 → new ≡ book) → Turned workers old (session_of new true turns line) (Err Memory)
  memory_wanted more new some same = (
    goes more,
    refl,
    subst (λ (s : SuperView). HasRecoveredAtMost s.book new) is some,
    λ one. subst (λ (s : SuperView). new ≡ s.book) is (same one),
    not_counted new true,
  )

-- what a step of the book alone came to
abbrev pub Came : BookView → BookView → Option Skip → Type 0
Came old new result = MatchOption result ((new ≡ old) × IsAtEnd old) (λ behind. HasMore old × HasStepped old new × IsSkip new behind)

pub came_some : (old new : BookView) (result : Option Skip) (skip : Skip) → result ≡ Some skip → Came old new result → HasMore old × HasStepped old new × IsSkip new skip
came_some old new result skip is came = subst (Came old new) is came

-- where nothing is known, that is right
pub nothing_known : (book : BookView) → IsSkip book no_skip
nothing_known book = record { calm = λ t. absurd (cc); idle = λ r lt. absurd (omega (arith, lt)) }

-- where the cells of a session stand
pub was_home : (at : Whereabouts) (book : BookView) (line : List ℕ) (cells : List CellView) → at ≡ places.Home → Stands at book line cells → AreHome book cells × HaveBases (roles_of book.setup) line cells
was_home at book line cells is stands = subst (λ (w : Whereabouts). Stands w book line cells) is stands

pub was_before : (at : Whereabouts) (book : BookView) (line : List ℕ) (cells : List CellView) → at ≡ places.Before → Stands at book line cells → IsAlone book cells
was_before at book line cells is stands = subst (λ (w : Whereabouts). Stands w book line cells) is stands

pub now_before : (at : Whereabouts) (book : BookView) (line : List ℕ) (cells : List CellView) → at ≡ places.Before → IsAlone book cells → Stands at book line cells
now_before at book line cells is alone = subst (λ (w : Whereabouts). Stands w book line cells) (sym is) alone

-- where they aren't at home, and the session isn't at its end
pub was_alone : (at : Whereabouts) (book : BookView) (line : List ℕ) (cells : List CellView) → Stands at book line cells → (at ≡ places.Home → ⊥) → (IsAtEnd book → ⊥) → IsAlone book cells
was_alone places.Before book line cells stands away left = stands
was_alone places.Home book line cells stands away left = absurd (away refl)
was_alone places.Over book line cells stands away left = absurd (left stands)

-- before the first entry they aren't at home
pub before_away : (at : Whereabouts) → at ≡ places.Before → at ≡ places.Home → ⊥
before_away at before home = absurd (cc)

-- a test that says no
pub not_so : {A : Type 0} (test : Bool) → IsTrue test ↔ A → test ≡ false → A → ⊥
not_so test says fails here = let holds = says.1 here in absurd (let f = sym holds ∙ fails in cc)

-- the same of the same
pub still_open : (book book' : BookView) (cells : List CellView) (watch watch' : Shown) (watches watches' : List Shown) (at : Whereabouts) (skip : Skip) (turns : ℕ) (line : List ℕ) → IsOpen book cells watch watches at skip turns line → book' ≡ book → watch' ≡ watch → watches' ≡ watches → IsOpen book' cells watch' watches' at skip turns line
still_open book book' cells watch watch' watches watches' at skip turns line here b w ws =
    subst (λ (z : List Shown). IsOpen book' cells watch' z at skip turns line) (sym ws)
    (subst (λ (z : Shown). IsOpen book' cells z watches at skip turns line) (sym w)
    (subst (λ (z : BookView). IsOpen z cells watch watches at skip turns line) (sym b) here))

-- and a book that goes on alone does so still
pub alone_on : (old new : BookView) (cells : List CellView) → IsAlone old cells → HasStepped old new → IsAlone new cells
alone_on old new cells was stepped = record {
  steps = stepped_on old new was.steps stepped;
  cells_are = subst (λ s. AreHome (record { setup = s; entries = [] }) cells) (sym (same_setup old new stepped)) was.cells_are;
  bases = subst (λ s. HaveBases (roles_of s) [] cells) (sym (same_setup old new stepped)) was.bases;
}
