-- Cells that are ahead of their book: its next entries are what they have made.
use Rattle.std.proofs.Common.{◌≡◌, ℕ, zero, suc, ◌+◌, ◌<◌, ◌≤◌, Option, Some, None, List, [], ◌∷◌, ◌++◌, length, map, take, drop, cond, refl, sym, ◌∙◌, ap, subst, arith, append_assoc, length-append, eq-eqb}
use Rattle.std.specs.Prelude.{ℤ, slice_get, slice_index_or, IfSome}
use Rattle.rcv_tree.specs.declared.entry.Entry.{Entry}
use Rattle.rcv_tree.specs.declared.entry.Entry.TheVariants.{Send, Recv, Crash, Recover}
use Rattle.rcv_tree.specs.declared.entry.Timed.{Timed}
use Rattle.rcv_tree.specs.declared.event.Event.{Event}
use Rattle.rcv_model.specs.Net.{IsPrefix}
use Rattle.rcv_model.specs.Run.{acts}
use Rattle.rcv_model.specs.Journal.{Rules, State, Own, own_of, own_after, start, after, after_event, reading_from, events_of, May, IsLegalFrom, IsLegal}
use Rattle.rcv_model.proofs.Bystanders.{as_many}
use Rattle.rcv_model.proofs.Keeping.{by_role_more}
use Rattle.rcv_model.proofs.Lists.{prefix_refl, prefix_trans}
use Rattle.rcv_model.proofs.Numbers.{bounded}
use Rattle.rcv_model.proofs.StableLines.{reading_join}
use Rattle.rcv_theory.specs.Own.{IsOwnLog}
use Rattle.rcv_theory.specs.Round.{entries, Placed, in_order}
use Rattle.rcv_merge.specs.Merge.{log_at, IsMergeOf}
use Rattle.rcv_accept.specs.Accepted.{IsAcceptedProtocol}
use Rattle.rcv_session.specs.Session.{SessionView, roles_of, rules_of}
use Rattle.rcv_checkpoint.specs.declared.state.State as checkpoints
use Rattle.rcv_core.specs.Book.{BookView, state_of, with_entry, with_more}
use Rattle.rcv_core.specs.Behind.{vars_behind_in}
use Rattle.rcv_core.specs.Setup.{vars_behind, vars_by}
use Rattle.rcv_core.proofs.Pushing.{behind_told}
use Rattle.rcv_role.specs.Cell.{CellView, without_log}
use Rattle.rcv_cells.specs.Home.{cell_at, IsOutAt, AreHome, AllGo, AllMet, AllBegun, logs_in}
use Rattle.rcv_cells.specs.Ahead.{IsNoRecover, HaveNoRecover, BringHome, IsAheadBy, IsNextOfCell, IsNextOfCells}
use Rattle.rcv_cells.proofs.Pushing.{drop_at, plus, pushed}
use Rattle.rcv_cells.proofs.Rounds.{map_at, map_length, any_default, round', come_back}

-- no entry of a log is a Recover
pub no_recover_in_log : (rules : Rules) (r : ℕ) (own : Own) (log : List Timed) → IsOwnLog rules r own log → HaveNoRecover (entries log)
no_recover_in_log rules r own [] l = tt
no_recover_in_log rules r own (x ∷ log) l = (one x.step l, no_recover_in_log rules r (own_after own x.step) log l.2)
  where
    one : (y : Entry) → IsOwnLog rules r own (record { stamp = x.stamp; step = y } ∷ log) → IsNoRecover y
    one (Send e) l = tt
    one (Recv e) l = tt
    one (Crash p) l = tt
    one (Recover p concerned kept undone) l = absurd l.1

no_recover_at : (log : List Timed) (k : ℕ) (x : Timed) → HaveNoRecover (entries log) → slice_get log k ≡ Some x → IsNoRecover x.step
no_recover_at [] k x none e = absurd (cc)
no_recover_at (y ∷ log) zero x none e = let f : y ≡ x = cc in subst (λ (z : Timed). IsNoRecover z.step) f none.0
no_recover_at (y ∷ log) (suc k) x none e = no_recover_at log k x none.1 e

no_recover_placed : (placed : List Placed) → ((i : ℕ) (a : Placed) → slice_get placed i ≡ Some a → IsNoRecover a.timed.step) → HaveNoRecover (entries (in_order placed))
no_recover_placed [] each = tt
no_recover_placed (a ∷ placed) each = (each 0 a refl, no_recover_placed placed (λ i b e. each (suc i) b e))

-- nor of what is merged of logs
pub no_recover_merged : (logs : List (List Timed)) (merged : List Entry) → IsMergeOf logs merged → ((r : ℕ) → HaveNoRecover (entries (log_at logs r))) → HaveNoRecover merged
no_recover_merged logs merged is none = subst HaveNoRecover (sym is.is) (no_recover_placed is.placed (λ i a e. no_recover_at (log_at logs a.role) a.position a.timed (none a.role) (is.by_stamp.sound i a e)))

-- where there is no Recover a role's events only grow
event_grows : (r : ℕ) (s : State) (e : Event) → IsPrefix (events_of r s.kept) (events_of r (after_event s e).kept)
event_grows r s e = (events_of r (e ∷ []), sym (by_role_more r s.kept e))

grows : (rules : Rules) (s : State) (r : ℕ) (x : Entry) → IsNoRecover x → IsPrefix (events_of r s.kept) (events_of r (after rules s x).kept)
grows rules s r (Send e) none = event_grows r s e
grows rules s r (Recv e) none = event_grows r s e
grows rules s r (Crash p) none = prefix_refl (events_of r s.kept)
grows rules s r (Recover p concerned kept undone) none = absurd none

all_grow : (rules : Rules) (s : State) (r : ℕ) (more : List Entry) → HaveNoRecover more → IsPrefix (events_of r s.kept) (events_of r (reading_from rules s more).kept)
all_grow rules s r [] none = prefix_refl (events_of r s.kept)
all_grow rules s r (x ∷ more) none = prefix_trans _ _ _ (grows rules s r x none.0) (all_grow rules (after rules s x) r more none.1)

one_event : (e : Event) → events_of e.role (e ∷ []) ≡ e ∷ []
one_event e = ap (λ b. cond b (e ∷ []) []) (eq-eqb e.role e.role refl)

event_begins : (rules : Rules) (s : State) (e : Event) (more : List Entry) → HaveNoRecover more → IsPrefix (events_of e.role s.kept ++ e ∷ []) (events_of e.role (reading_from rules (after_event s e) more).kept)
event_begins rules s e more none =
    subst (λ l. IsPrefix l (events_of e.role (reading_from rules (after_event s e) more).kept))
    (by_role_more e.role s.kept e ∙ ap (λ l. events_of e.role s.kept ++ l) (one_event e))
    (all_grow rules (after_event s e) e.role more none)

-- what the cell of a role has, where it comes home behind these entries
home_at : (book : BookView) (more : List Entry) (cells : List CellView) (r : ℕ) (d : CellView) → BringHome book more cells → r < roles_of book.setup → IsOutAt book.setup (state_of (with_more book more)) r (without_log (cell_at cells r d))
home_at book more cells r d bring lt = subst (IsOutAt book.setup (state_of (with_more book more)) r) (map_at without_log cells r d) (bring.home.out.each r (without_log d) lt)

event_next : (book : BookView) (x : Entry) (e : Event) (more : List Entry) (cells : List CellView) → BringHome book (x ∷ more) cells → e.role < roles_of book.setup → after (rules_of book.setup) (state_of book) x ≡ after_event (state_of book) e → IsNextOfCell book cells e
event_next book x e more cells bring declared grown = record {
  declared = declared;
  there = let c = bring.home.out.count in let m = map_length without_log cells in omega (arith, c, m, declared);
  ahead = λ d. let home = home_at book (x ∷ more) cells e.role d bring declared in record {
    setup_is = home.setup_is;
    role_is = home.role_is;
    begins = subst (IsPrefix (events_of e.role (state_of book).kept ++ e ∷ [])) (last d home.own) (event_begins (rules_of book.setup) (state_of book) e more bring.no_recover.1);
  };
}
  where
    last : (d : CellView) → own_of (state_of (with_more book (x ∷ more))) e.role ≡ (cell_at cells e.role d).part.own → events_of e.role (reading_from (rules_of book.setup) (after_event (state_of book) e) more).kept ≡ (cell_at cells e.role d).part.own.events
    last d own =
        ap (λ (s : State). events_of e.role (reading_from (rules_of book.setup) s more).kept) (sym grown)
        ∙ ap (λ (s : State). events_of e.role s.kept) (sym (reading_join (rules_of book.setup) (start (roles_of book.setup)) book.entries (x ∷ more)))
        ∙ ap (λ (o : Own). o.events) own

pub next_of_cells : (book : BookView) (x : Entry) (more : List Entry) (cells : List CellView) → BringHome book (x ∷ more) cells → May (rules_of book.setup) (state_of book) x → IsNextOfCells book cells x
next_of_cells book (Send e) more cells bring may = event_next book (Send e) e more cells bring may.free.declared refl
next_of_cells book (Recv e) more cells bring may = event_next book (Recv e) e more cells bring may.own.free.declared refl
next_of_cells book (Crash p) more cells bring may = tt
next_of_cells book (Recover p concerned kept undone) more cells bring may = tt

-- behind the first entry the others bring the cells home
pub bring_on : (book : BookView) (x : Entry) (more : List Entry) (cells : List CellView) → BringHome book (x ∷ more) cells → BringHome (with_entry book x) more cells
bring_on book x more cells bring = record {
  no_recover = bring.no_recover.1;
  home = subst (λ (l : List Entry). AreHome (record { setup = book.setup; entries = l }) (map without_log cells)) (sym (append_assoc book.entries (x ∷ []) more)) bring.home;
}

-- cells that come home with cleared logs
pub cleared_at : (cells : List CellView) (r : ℕ) (d : CellView) → r < length cells → cell_at (map without_log cells) r d ≡ without_log (cell_at cells r d)
cleared_at cells r d lt =
    any_default (map without_log cells) r d (without_log d) (let m = map_length without_log cells in omega (arith, m, lt))
    ∙ map_at without_log cells r d

pub cleared_count : (cells : List CellView) → length (map without_log cells) ≡ length cells
cleared_count cells = map_length without_log cells

-- few events are kept of a role
pub few_events : (book : BookView) (session : SessionView) (r kept limit : ℕ) → session ≡ book.setup → IsLegal (rules_of book.setup) book.entries → kept ≡ length (acts r (state_of book).kept) → limit ≡ (rules_of session).limit → limit ≤ 100000 → kept ≤ 100000
few_events book session r kept limit same legal is most few =
    let all = bounded (rules_of book.setup) book.entries legal in
    let events = all.kept r in
    let raw = all.raw r in
    let bound : limit ≡ (rules_of book.setup).limit = most ∙ ap (λ (s : SessionView). (rules_of s).limit) same in
    omega (arith, is, bound, few, events, raw)

-- the first elements, as many as a beginning has
take_none : {A : Type 0} (xs : List A) → take 0 xs ≡ []
take_none [] = refl
take_none (x ∷ xs) = refl

take_front : {A : Type 0} (xs ys : List A) → take (length xs) (xs ++ ys) ≡ xs
take_front [] ys = take_none ys
take_front (x ∷ xs) ys = ap (λ l. x ∷ l) (take_front xs ys)

take_begins : {A : Type 0} (xs ys : List A) (n : ℕ) → IsPrefix xs ys → n ≡ length xs → take n ys ≡ xs
take_begins xs ys n p e = ap (λ k. take k ys) e ∙ ap (take (length xs)) (sym p.1) ∙ take_front xs p.0

-- the variables behind so many events of the cell are those behind the event
pub vars_ahead : (book : BookView) (e : Event) (c : CellView) (kept : ℕ) (vars : List ℤ) → IsAheadBy book e c → kept ≡ length (acts e.role (state_of book).kept) → vars ≡ vars_by c.part.setup c.part.role (take (kept + 1) c.part.own.events) → vars ≡ vars_behind_in book e
vars_ahead book e c kept vars ahead count is =
    is
    ∙ ap (λ (z : SessionView × ℕ). vars_by z.0 z.1 (take (kept + 1) c.part.own.events)) (λ i. (ahead.setup_is i, ahead.role_is i))
    ∙ ap (vars_by book.setup e.role) (take_begins (mine ++ e ∷ []) c.part.own.events (kept + 1) ahead.begins (let n = as_many e.role (state_of book).kept in let m = length-append mine (e ∷ []) in omega (arith, n, m, count)))
    ∙ sym (ap (λ (s : checkpoints.State). s.vars) (behind_told book.setup mine e (record { k = e.point; vars = vars_behind book.setup e (vars_by book.setup e.role mine) }) refl refl))
  where
    mine : List Event
    mine = events_of e.role (state_of book).kept

if_some : {A : Type 0} {P Q : A → Type 0} (o : Option A) → ((x : A) → P x → Q x) → IfSome o P → IfSome o Q
if_some None goes holds = tt
if_some (Some x) goes holds = goes x holds

pub vars_held : (book : BookView) (cells : List CellView) (e : Event) (c : CellView) (kept : ℕ) (vars : Option (List ℤ)) → IsNextOfCell book cells e → c ≡ cell_at cells e.role c → kept ≡ length (acts e.role (state_of book).kept) → IfSome vars (λ v. v ≡ vars_by c.part.setup c.part.role (take (kept + 1) c.part.own.events)) → IfSome vars (λ v. v ≡ vars_behind_in book e)
vars_held book cells e c kept vars next is count held = if_some vars (λ v same. vars_ahead book e c kept v (subst (IsAheadBy book e) (sym is) (next.ahead c)) count same) held

-- so many of the entries went into the book
abbrev pub HavePushed : BookView → List Entry → List CellView → BookView → ℕ → Type 0
HavePushed old more cells now k =
    (now ≡ with_more old (take k more)) × IsLegalFrom (rules_of now.setup) (state_of now) (drop k more) × BringHome now (drop k more) cells

pub next_pushed : (old now : BookView) (more : List Entry) (cells : List CellView) (k : ℕ) (x : Entry) → k < length more → slice_index_or more k x ≡ x → HavePushed old more cells now k → IsNextOfCells now cells x
next_pushed old now more cells k x lt is so =
    let legal : May (rules_of now.setup) (state_of now) x × IsLegalFrom (rules_of now.setup) (after (rules_of now.setup) (state_of now) x) (drop (suc k) more) = subst (IsLegalFrom (rules_of now.setup) (state_of now)) (drop_at more k x lt is) so.1 in
    next_of_cells now x (drop (suc k) more) cells (subst (λ (l : List Entry). BringHome now l cells) (drop_at more k x lt is) so.2) legal.0

pub one_pushed : (old now new : BookView) (more : List Entry) (cells : List CellView) (k : ℕ) (x : Entry) → k < length more → slice_index_or more k x ≡ x → HavePushed old more cells now k → new ≡ with_entry now x → HavePushed old more cells new (k + 1)
one_pushed old now new more cells k x lt is so grown =
    let both = pushed old now new more k x lt is (so.0, so.1) grown in (
      both.0,
      both.1,
      subst (λ b. BringHome b (drop (k + 1) more) cells) (sym grown)
          (subst (λ n. BringHome (with_entry now x) (drop n more) cells) (sym (plus k))
          (bring_on now x (drop (suc k) more) cells (subst (λ (l : List Entry). BringHome now l cells) (drop_at more k x lt is) so.2))),
    )

-- a round's merged entries bring the cells home
pub round_brings_home : (book : BookView) (old gone met : List CellView) → AreHome book old → AllGo old gone → AllMet gone met → AllBegun gone → IsAcceptedProtocol book.setup.protocol → IsLegal (rules_of book.setup) book.entries → (merged : List Entry) → IsMergeOf (logs_in met) merged → BringHome book merged met
round_brings_home book old gone met home go meet known accepted legal merged is = record {
  no_recover = no_recover_merged (logs_in met) merged is (λ r. no_recover_in_log (rules_of book.setup) r (own_of (state_of book) r) (log_at (logs_in met) r) ((round' book old gone met home go meet known accepted legal).local r));
  home = come_back book old gone met home go meet known accepted legal merged is (with_more book merged) (map without_log met) refl (cleared_count met) (λ r d lt. cleared_at met r d lt);
}
