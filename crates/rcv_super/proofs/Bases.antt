-- What the cells have forgotten stays before a stable line, whatever comes.
use Rattle.std.proofs.Common.{◌≡◌, ℕ, ◌+◌, ◌*◌, ◌/◌, ◌<◌, ◌≤◌, ◌^◌, Option, List, [], ◌∷◌, ◌++◌, length, refl, sym, ◌∙◌, ap, subst, ⊎_elim, arith, mul-le-mul}
use Prim.Native.Nat.{zero, suc}
use Rattle.std.specs.Prelude.{Result, Ok, Err, OnOk, OnErr, slice_index, replicate}
use Rattle.std.proofs.lemmas.Bool.{cases_Bool, cases_eq}
use Rattle.std.proofs.lemmas.List.{get_or_past}
use Rattle.rcv_tree.specs.Bits.{has_bit}
use Rattle.rcv_tree.specs.declared.role.RoleSet.{RoleSet}
use Rattle.rcv_tree.specs.declared.entry.Entry.{Entry}
use Rattle.rcv_model.specs.Journal.{Own, start, May, IsLegal, events_of}
use Rattle.rcv_model.proofs.Bystanders.{as_many}
use Rattle.rcv_model.proofs.Forms.{proper}
use Rattle.rcv_model.proofs.Legal.{legal_more}
use Rattle.rcv_model.proofs.StableLines.{line_holds, floor_high}
use Rattle.rcv_accept.specs.Accepted.{IsAcceptedProtocol}
use Rattle.rcv_plan.specs.Lines.{IsPlanned}
use Rattle.rcv_session.specs.Session.{SessionView, text_of, roles_of, rules_of}
use Rattle.rcv_core.specs.Book.{BookView, state_of, with_entry, most_entries, IsStableLineOf}
use Rattle.rcv_core.proofs.Ranges.{ranges, few_crash_lines}
use Rattle.rcv_fence.specs.Shown.{FenceId}
use Rattle.rcv_mailbox.specs.Ends.{IsChannel}
use Rattle.rcv_ring.specs.Lists.{Begins}
use Rattle.rcv_role.specs.Ends.{end_at}
use Rattle.rcv_role.specs.Cell.{CellView}
use Rattle.rcv_cells.specs.Home.{cell_at, IsOutAt, AreHome, AllMet, HasGrown, HaveBases, SameBases}
use Rattle.rcv_cells.proofs.Running.{runs_go}
use Rattle.rcv_cells.proofs.Bases.{all_bases, met_bases}
use Rattle.rcv_rollback.specs.Halves.{AreSplit}
use Rattle.rcv_rollback.specs.Back.{kept_in, HaveGoneBack}
use Rattle.rcv_super.specs.Bases.{IsStableIn, AreBased, CanForget, without_states}
use Rattle.rcv_super.specs.Beside.{HaveParted}
use Rattle.rcv_super.specs.OneStep.{WasPolled}
use Rattle.rcv_super.proofs.Apart.{IsHomeAt, same_cell, home_at}

-- what follows holds where a call succeeded
pub then_ok : {T E P Q : Type 0} (result : Result T E) → (P → Q) → OnOk result P → OnOk result Q
then_ok (Ok x) f p = f p
then_ok (Err e) f p = tt

-- so does what follows of two facts
pub both_ok : {T E A P Q : Type 0} (result : Result T E) → (A → P → Q) → OnOk result A → OnOk result P → OnOk result Q
both_ok (Ok x) f a p = f a p
both_ok (Err e) f a p = tt

-- what follows holds where a call failed
pub then_err : {T E P Q : Type 0} (result : Result T E) → (P → Q) → OnErr result P → OnErr result Q
then_err (Ok x) f p = tt
then_err (Err e) f p = f p

-- ---- stable counts

-- a list that ends says 0
nothing_at : (r : ℕ) → slice_index [] r ≡ 0
nothing_at r = get_or_past [] r 0 (omega arith)

zeros : (n r : ℕ) → slice_index (replicate n 0) r ≡ 0
zeros zero r = nothing_at r
zeros (suc n) zero = refl
zeros (suc n) (suc r) = zeros n r

-- where nothing is asked to stay, it does
zero_stable : (book : BookView) (line : List ℕ) → ((r : ℕ) → slice_index line r ≡ 0) → IsStableIn book line
zero_stable book line none = record {
  steps = λ r. (0, let z = none r in omega (arith, z));
  kept = λ r. let z = none r in omega (arith, z);
  closed = λ s r k i j p t lt. absurd (let z = none r in omega (arith, z, lt));
}

pub nothing_stable : (book : BookView) → IsStableIn book []
nothing_stable book = zero_stable book [] nothing_at

pub zeros_stable : (book : BookView) → IsStableIn book (replicate 8 0)
zeros_stable book = zero_stable book (replicate 8 0) (zeros 8)

-- they stay stable as entries are added
pub stays_stable : (old new : BookView) (line : List ℕ) → IsAcceptedProtocol new.setup.protocol → IsLegal (rules_of new.setup) new.entries → HasGrown old new → IsStableIn old line → IsStableIn new line
stays_stable old new line accepted legal grown stable =
    let form : IsAcceptedProtocol old.setup.protocol = subst (λ (b : BookView). IsAcceptedProtocol b.setup.protocol) grown.added accepted in
    let joined : IsLegal (rules_of old.setup) (old.entries ++ grown.more) = subst (λ (b : BookView). IsLegal (rules_of b.setup) b.entries) grown.added legal in
    subst (λ (b : BookView). IsStableIn b line) (sym grown.added) (line_holds (rules_of old.setup) old.entries grown.more (slice_index line) (proper (text_of old.setup) (roles_of old.setup) form.form) form.accepted joined stable).stable

pub based_on : (old new : BookView) (cells cells' : List CellView) → IsAcceptedProtocol new.setup.protocol → IsLegal (rules_of new.setup) new.entries → HasGrown old new → SameBases cells cells' → AreBased old cells → AreBased new cells'
based_on old new cells cells' accepted legal grown same based = record {
  line = based.line;
  stable = stays_stable old new based.line accepted legal grown based.stable;
  bases = λ r d lt. same r d ∙ based.bases r d (subst (λ (b : BookView). r < roles_of b.setup) grown.added lt);
}

pub held_on : (old new : BookView) (line : List ℕ) (cells cells' : List CellView) → HasGrown old new → HaveBases (roles_of old.setup) line cells → SameBases cells cells' → HaveBases (roles_of new.setup) line cells'
held_on old new line cells cells' grown bases same r d lt = same r d ∙ bases r d (subst (λ (b : BookView). r < roles_of b.setup) grown.added lt)

-- an entry that may come keeps what the cells have forgotten
pub held_above : (book : BookView) (cells : List CellView) (e : Entry) → IsAcceptedProtocol book.setup.protocol → IsLegal (rules_of book.setup) book.entries → May (rules_of book.setup) (state_of book) e → AreBased book cells → (r : ℕ) (d : CellView) → r < roles_of book.setup → (cell_at cells r d).part.base ≤ kept_in (with_entry book e) r
held_above book cells e accepted legal may based r d lt =
    let stable = stays_stable book (with_entry book e) based.line accepted (legal_more (rules_of book.setup) (start (roles_of book.setup)) book.entries e legal may) (record { more = e ∷ []; added = refl }) based.stable in
    let kept = stable.kept r in
    let base = based.bases r d lt in
    omega (arith, kept, base)

-- ---- what forgets nothing

-- a recovery
pub split_bases : (book : BookView) (concerned : RoleSet) (cells cells' : List CellView) (back back' beside : List (Option CellView)) → AreSplit concerned cells back beside → HaveGoneBack book back back' → AreSplit concerned cells' back' beside → SameBases cells cells'
split_bases book concerned cells cells' back back' beside split gone united = all_bases cells cells' count same
  where
    count : length cells' ≡ length cells
    count = sym united.back_count ∙ gone.count ∙ split.back_count

    same : (r : ℕ) (d : CellView) → r < length cells → (cell_at cells' r d).part.base ≡ (cell_at cells r d).part.base
    same r d lt = ⊎_elim
        (λ t.
        let is = gone.each r (cell_at cells r d) (split.goes r d lt t).0 in
        let now = same_cell back' r is.cell (cell_at cells' r d) is.has (united.goes r d (let n = count in omega (arith, n, lt)) t).0 in
        ap (λ (c : CellView). c.part.base) (sym now) ∙ is.gone.base)
        (λ f. ap (λ (c : CellView). c.part.base) (same_cell beside r (cell_at cells' r d) (cell_at cells r d) (united.stays r d (let n = count in omega (arith, n, lt)) f).1 (split.stays r d lt f).1))
        (cases_Bool (has_bit concerned.0 r))

-- one beside which others ran
pub parted_bases : (fence : FenceId) (book : BookView) (concerned : RoleSet) (cells gone : List CellView) → HaveParted fence book concerned cells gone → SameBases cells gone
parted_bases fence book concerned cells gone parted = all_bases cells gone parted.count (λ r d lt. ⊎_elim (λ t. (parted.back r d lt t).base) (λ f. (runs_go fence (cell_at cells r d) (cell_at gone r d) (parted.ran r d lt f)).base) (cases_Bool (has_bit concerned.0 r)))

-- a poll of one cell
pub polled_bases : (old gone : List CellView) (r : ℕ) → ((k : ℕ) (d : CellView) → (k ≡ r → ⊥) → cell_at gone k d ≡ cell_at old k d) → ((d : CellView) → WasPolled (cell_at old r d) (cell_at gone r d)) → SameBases old gone
polled_bases old gone r others was k d = ⊎_elim
    (λ f. subst (λ j. (cell_at gone j d).part.base ≡ (cell_at old j d).part.base) (sym f) (was d).goes.base)
    (λ n. ap (λ (c : CellView). c.part.base) (others k d n))
    (cases_eq k r)

-- a poll between two meetings
pub event_bases : (old met gone last : List CellView) (r : ℕ) → AllMet old met → ((k : ℕ) (d : CellView) → (k ≡ r → ⊥) → cell_at gone k d ≡ cell_at met k d) → ((d : CellView) → WasPolled (cell_at met r d) (cell_at gone r d)) → AllMet gone last → SameBases old last
event_bases old met gone last r meet others was again k d = met_bases gone last again k d ∙ polled_bases met gone r others was k d ∙ met_bases old met meet k d

-- ---- forgetting

-- of each role the state at its count is saved
pub can_forget : (book : BookView) (cells : List CellView) (line : List ℕ) → AreHome book cells → IsStableIn book line → ((r : ℕ) (d : CellView) → r < roles_of book.setup → (cell_at cells r d).part.base ≤ slice_index line r) → (r : ℕ) (d : CellView) → r < length cells → CanForget (slice_index line r) (cell_at cells r d)
can_forget book cells line home stable above r d lt = record { step = step; above = above r d low; saved = saved }
  where
    low : r < roles_of book.setup
    low = let c = home.out.count in omega (arith, c, lt)

    here : IsHomeAt book r (cell_at cells r d)
    here = home_at book cells r d home low

    every : (rules_of (cell_at cells r d).part.setup).every (cell_at cells r d).part.role ≡ (rules_of book.setup).every r
    every = ap (λ (s : SessionView). (rules_of s).every (cell_at cells r d).part.role) here.setup_is ∙ ap (rules_of book.setup).every here.role_is

    step : (k : ℕ) × (k * (rules_of (cell_at cells r d).part.setup).every (cell_at cells r d).part.role ≡ slice_index line r)
    step = subst (λ n. (k : ℕ) × (k * n ≡ slice_index line r)) (sym every) (stable.steps r)

    within : slice_index line r ≤ length (cell_at cells r d).part.own.events
    within =
        let kept = stable.kept r in
        let count = as_many r (state_of book).kept in
        let events : length (events_of r (state_of book).kept) ≡ length (cell_at cells r d).part.own.events = ap (λ (o : Own). length o.events) here.own in
        omega (arith, kept, count, events)

    saved : slice_index line r ≤ length (cell_at cells r d).part.own.events / (rules_of (cell_at cells r d).part.setup).every (cell_at cells r d).part.role * (rules_of (cell_at cells r d).part.setup).every (cell_at cells r d).part.role
    saved = subst (λ n. n ≤ length (cell_at cells r d).part.own.events / (rules_of (cell_at cells r d).part.setup).every (cell_at cells r d).part.role * (rules_of (cell_at cells r d).part.setup).every (cell_at cells r d).part.role) step.1
        (floor_high step.0 ((rules_of (cell_at cells r d).part.setup).every (cell_at cells r d).part.role) (length (cell_at cells r d).part.own.events) (subst (λ n. n ≤ length (cell_at cells r d).part.own.events) (sym step.1) within))

-- cells that forgot are where they were
module _ (book : BookView) (old new : List CellView) (line : List ℕ) (home : AreHome book old) (count : length new ≡ length old) (forgot : (r : ℕ) (d : CellView) → r < length old → cell_at new r d ≡ without_states (cell_at old r d) (slice_index line r)) where
  there : (r : ℕ) (d : CellView) → r < roles_of book.setup → cell_at new r d ≡ without_states (cell_at old r d) (slice_index line r)
  there r d lt = forgot r d (let c = home.out.count in omega (arith, c, lt))

  pub forgot_home : AreHome book new
  forgot_home = record {
    out = record {
      count = count ∙ home.out.count;
      each = λ r d lt. let o = home.out.each r d lt in subst (IsOutAt book.setup (state_of book) r) (sym (there r d lt)) (record {
        setup_is = o.setup_is;
        role_is = o.role_is;
        lawful = o.lawful;
        own = o.own;
        settled = o.settled;
        strangers = o.strangers;
      });
      joined = λ s r d e ls lr n. subst (λ (z : CellView × CellView). IsChannel (end_at z.0.posts s r e) (end_at z.1.inboxes r s e)) (λ i. (sym (there s d ls) i, sym (there r d lr) i)) (home.out.joined s r d e ls lr n);
    };
    begun = λ s r d e ls lr n. subst (λ (z : CellView × CellView). Begins (end_at z.1.inboxes r s e).list (end_at z.0.posts s r e).list) (λ i. (sym (there s d ls) i, sym (there r d lr) i)) (home.begun s r d e ls lr n);
    logs = λ r d lt. ap (λ (c : CellView). c.part.log) (there r d lt) ∙ home.logs r d lt;
  }

  pub forgot_bases : HaveBases (roles_of book.setup) line new
  forgot_bases r d lt = ap (λ (c : CellView). c.part.base) (there r d lt)

-- the greatest line is no less than the one before
pub line_rises : (book : BookView) (old new : List ℕ) (cells : List CellView) → IsStableLineOf book new → IsStableIn book old → HaveBases (roles_of book.setup) old cells → (r : ℕ) (d : CellView) → r < roles_of book.setup → (cell_at cells r d).part.base ≤ slice_index new r
line_rises book old new cells line stable bases r d lt =
    let up = line.greatest (slice_index old) stable r in
    let base = bases r d lt in
    omega (arith, up, base)

-- ---- turns are few

pub few_turns : (setup : SessionView) → IsAcceptedProtocol setup.protocol → IsPlanned (roles_of setup) setup.plan → most_entries (rules_of setup) + 1 < 2 ^ 32
few_turns setup plain planned =
    let steps : roles_of setup * (rules_of setup).limit ≤ 8 * 100000 = mul-le-mul plain.form.few_roles (ranges setup planned).limit_last in
    let crashes = few_crash_lines setup plain.form.few_roles planned in
    omega (arith, steps, crashes)
