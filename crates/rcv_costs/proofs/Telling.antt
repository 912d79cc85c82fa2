-- What a rehearsed crash tells: the points of a role's events, and what the crash costs.
use Rattle.std.proofs.Common.{◌≡◌, ℕ, ◌+◌, ◌<◌, ◌≤◌, Option, List, [], ◌∷◌, ◌++◌, length, map, sym, ◌∙◌, ap, subst, arith}
use Rattle.std.proofs.lemmas.List.{length-map}
use Rattle.rcv_tree.specs.declared.event.Event.{Event}
use Rattle.rcv_tree.specs.declared.role.RoleSet.{RoleSet}
use Rattle.rcv_tree.specs.declared.entry.Entry.{Entry}
use Rattle.rcv_tree.specs.declared.entry.Entry.TheVariants.{Recover}
use Rattle.rcv_model.specs.Journal.{Rules, start, reading, events_of, IsLegal}
use Rattle.rcv_model.specs.Final.{IsFinal, IsStep, IsOneThread}
use Rattle.rcv_model.specs.Transparent.{without_crashes}
use Rattle.rcv_model.proofs.Bystanders.{as_many}
use Rattle.rcv_model.proofs.Numbers.{bounded}
use Rattle.rcv_session.specs.Session.{SessionView, roles_of, net_for, rules_of}
use Rattle.rcv_accept.specs.Accepted.{IsAcceptedProtocol}
use Rattle.rcv_transparent.specs.Calm.{calm}
use Rattle.rcv_plan.specs.Lines.{IsPlanned}
use Rattle.rcv_core.specs.Book.{BookView, state_of, with_entry}
use Rattle.rcv_core.proofs.Ranges.{ranges}
use Rattle.rcv_costs.specs.declared.numbers.Cost.{Cost}
use Rattle.rcv_costs.specs.Rehearsal.{crash_session, IsBeginningFrom, GoesOnCalmly, ComesToRecovery}
use Rattle.rcv_costs.specs.Losses.{lost_in, again_in, HaveReceived}
use Rattle.rcv_costs.specs.Costs.{points_of, AreOwnPoints, IsRead}
use Rattle.rcv_costs.proofs.Sessions.{rules_crash}
use Rattle.rcv_costs.proofs.Runs.{own_events, crash_comes, whose_recovery, whole_journal, calm_run, calm_moves}
use Rattle.rcv_costs.proofs.Going.{at_first, FromStart, from_start, ends_so}

-- the points of a role that crashes at its end, if at all, are its points without crashes
pub own_told : (old setup : SessionView) (p : ℕ) → setup ≡ crash_session old p 100000 → IsAcceptedProtocol setup.protocol → IsPlanned (roles_of setup) setup.plan → (book new : BookView) (next : Option Entry) → book ≡ at_first setup → ComesToRecovery book new next → (points : List ℕ) → points ≡ points_of p (state_of new).kept → AreOwnPoints old p points
own_told old setup p ok accepted planned book new next begin comes points is run alone =
    is
    ∙ ap (λ (b : BookView). points_of p (state_of b).kept) from.is
    ∙ ap (map (λ (e : Event). e.point)) (sym (own_events old p 100000 plain from.entries from.steps from.calmly run (calm_moves old p 100000 run alone) (ends_so (crash_session old p 100000) from.entries new next book from.is comes) most))
    ∙ ap (λ (x : Rules). points_of p (reading x run).kept) (rules_crash old p 100000)
  where
    plain : IsAcceptedProtocol old.protocol
    plain = subst (λ (x : SessionView). IsAcceptedProtocol x.protocol) ok accepted

    most : (rules_of (crash_session old p 100000)).limit ≤ 100000
    most = subst (λ (x : SessionView). (rules_of x).limit ≤ 100000) ok (ranges setup planned).limit_last

    from : FromStart (crash_session old p 100000) new
    from = from_start (crash_session old p 100000) book new (begin ∙ ap at_first ok) comes.0

-- they are few
pub few_told : (setup : SessionView) (p : ℕ) → IsPlanned (roles_of setup) setup.plan → (book new : BookView) → book ≡ at_first setup → GoesOnCalmly book new → IsLegal (rules_of new.setup) new.entries → (points : List ℕ) → points ≡ points_of p (state_of new).kept → length points ≤ 100000
few_told setup p planned book new begin goes legal points is =
    let from = from_start setup book new begin goes in
    let here : IsLegal (rules_of setup) from.entries = subst (λ (b : BookView). IsLegal (rules_of b.setup) b.entries) from.is legal in
    let all = bounded (rules_of setup) from.entries here in
    let few = (ranges setup planned).limit_last in
    let many = ap length is ∙ ap (λ (b : BookView). length (points_of p (state_of b).kept)) from.is ∙ length-map (events_of p (reading (rules_of setup) from.entries).kept) (λ (e : Event). e.point) in
    omega (arith, few, many, all.raw p, all.kept p, as_many p (reading (rules_of setup) from.entries).kept)

-- what is received again, by what had been received before
pub again_told : (new pushed : BookView) (e : Entry) (received : List (List ℕ)) (again : ℕ) → pushed ≡ with_entry new e → HaveReceived (net_for new.setup) (roles_of new.setup) (state_of new).kept received → ((old : List Event) → HaveReceived (net_for pushed.setup) (roles_of pushed.setup) old received → again ≡ again_in (net_for pushed.setup) (roles_of pushed.setup) old (state_of pushed).kept) → again ≡ again_in (net_for pushed.setup) (roles_of pushed.setup) (state_of new).kept (state_of pushed).kept
again_told new pushed e received again grown before told =
    told (state_of new).kept (subst (λ (x : SessionView). HaveReceived (net_for x) (roles_of x) (state_of new).kept received) (sym (ap (λ (b : BookView). b.setup) grown)) before)

-- a session that has the one crash
module _ (setup : SessionView) (p n : ℕ) (accepted : IsAcceptedProtocol setup.protocol) (crash : setup ≡ crash_session setup p n) (book new : BookView) (begin : book ≡ at_first setup) (goes : GoesOnCalmly book new) where
  from : FromStart setup new
  from = from_start setup book new begin goes

  steps : IsBeginningFrom (rules_of (crash_session setup p n)) (start (roles_of setup)) from.entries
  steps = subst (λ (x : SessionView). IsBeginningFrom (rules_of x) (start (roles_of x)) from.entries) crash from.steps

  -- the role crashes
  pub must_crash : p < roles_of setup → (points : List ℕ) → AreOwnPoints setup p points → n ≤ length points → IsFinal (rules_of new.setup) (state_of new) → ⊥
  must_crash low points own few final =
      let run = calm_run setup accepted in
      let many : length points ≡ length (events_of p (reading (without_crashes (rules_of (crash_session setup p n))) run.0).kept) =
      ap length (own run.0 run.1)
      ∙ length-map (events_of p (reading (rules_of (calm setup)) run.0).kept) (λ (e : Event). e.point)
      ∙ ap (λ (x : Rules). length (events_of p (reading x run.0).kept)) (sym (rules_crash setup p n)) in
      crash_comes setup p n accepted from.entries steps from.calmly run.0 (calm_moves setup p n run.0 run.1) low (omega (arith, few, many))
      (subst (λ (x : SessionView). IsFinal (rules_of x) (reading (rules_of x) from.entries)) crash
      (subst (λ (b : BookView). IsFinal (rules_of b.setup) (state_of b)) from.is final))

  -- and its recovery comes next
  module _ (q : ℕ) (c : RoleSet) (d : List ℕ) (u : ℕ) (next : IsStep (rules_of new.setup) (state_of new) (Recover q c d u)) where
    own_step : IsStep (rules_of setup) (reading (rules_of setup) from.entries) (Recover q c d u)
    own_step = subst (λ (b : BookView). IsStep (rules_of b.setup) (state_of b) (Recover q c d u)) from.is next

    step : IsStep (rules_of (crash_session setup p n)) (reading (rules_of (crash_session setup p n)) from.entries) (Recover q c d u)
    step = subst (λ (x : SessionView). IsStep (rules_of x) (reading (rules_of x) from.entries) (Recover q c d u)) crash own_step

    is_own : (q ≡ p) × (length (reading (rules_of (crash_session setup p n)) from.entries).kept + 1 ≡ length from.entries)
    is_own = whose_recovery setup p n accepted from.entries steps from.calmly q c d u step

    pub kept_and_crash : length (state_of new).kept + 1 ≡ length new.entries
    kept_and_crash =
        subst (λ (b : BookView). length (state_of b).kept + 1 ≡ length b.entries) (sym from.is)
        (subst (λ (x : SessionView). length (reading (rules_of x) from.entries).kept + 1 ≡ length from.entries) (sym crash) is_own.1)

    abbrev cost : Option ℕ → Option ℕ → ℕ → ℕ → ℕ → Cost
    cost before after lost kept again =
        record { role = p; count = n; before = before; after = after; lost = lost; undone = u; kept = kept; concerned = c; again = again }

    pub is_read : (pushed : BookView) → pushed ≡ with_entry new (Recover q c d u) → (before after : Option ℕ) (lost kept again : ℕ) → kept + 1 ≡ length new.entries → lost ≡ lost_in (rules_of new.setup) (state_of new) p → again ≡ again_in (net_for pushed.setup) (roles_of pushed.setup) (state_of new).kept (state_of pushed).kept → IsRead setup (cost before after lost kept again)
    is_read pushed grown before after lost kept again many lose twice = record {
      front = from.entries;
      keeps = d;
      back = whole.0;
      journal = subst (λ (x : SessionView). IsOneThread (rules_of x) (from.entries ++ Recover p c d u ∷ whole.0)) (sym crash) whole.1;
      first = from.calmly;
      kept_is = (let one = kept_and_crash in let same = ap (λ (b : BookView). length (state_of b).kept) from.is in omega (arith, many, one, same));
      lost_is = subst (λ (b : BookView). lost ≡ lost_in (rules_of b.setup) (state_of b) p) from.is lose;
      again_is = subst (λ (r : ℕ). again ≡ again_in (net_for setup) (roles_of setup) (reading (rules_of setup) from.entries).kept (reading (rules_of setup) (from.entries ++ Recover r c d u ∷ [])).kept) is_own.0
          (subst (λ (b : BookView). again ≡ again_in (net_for setup) (roles_of setup) (state_of b).kept (reading (rules_of setup) (from.entries ++ Recover q c d u ∷ [])).kept) from.is
          (subst (λ (b : BookView). again ≡ again_in (net_for b.setup) (roles_of b.setup) (state_of new).kept (state_of b).kept) (grown ∙ ap (λ (b : BookView). with_entry b (Recover q c d u)) from.is) twice));
    }
      where
        whole : (back : List Entry) × IsOneThread (rules_of (crash_session setup p n)) (from.entries ++ Recover p c d u ∷ back)
        whole = whole_journal setup p n accepted from.entries steps from.calmly (Recover p c d u) (subst (λ (r : ℕ). IsStep (rules_of (crash_session setup p n)) (reading (rules_of (crash_session setup p n)) from.entries) (Recover r c d u)) is_own.0 step)
