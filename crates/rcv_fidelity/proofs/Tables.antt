-- What stands in the tables of the machines is what the machines do, at each place where a run leaves a role.
use Rattle.std.proofs.Common.{◌≡◌, ℕ, ◌+◌, ◌<◌, Some, List, ◌∷◌, length, map, refl, sym, ◌∙◌, subst, arith}
use Rattle.std.specs.Prelude.{◌↔◌, slice_get}
use Rattle.std.specs.List.{range_with_len}
use Rattle.std.proofs.lemmas.List.FromFn.{get_or-map-range_with_len, length-map-range_with_len}
use Rattle.std.proofs.lemmas.Option.{slice_get_within, get_or_from_slice_get}
use Rattle.rcv_tree.specs.declared.event.Event.{Event}
use Rattle.rcv_model.specs.Net.{Net, IsWalk}
use Rattle.rcv_model.specs.Run.{acts, place_of, IsRun, IsRunOf}
use Rattle.rcv_model.specs.Next.{IsPlaceOf, IsProper}
use Rattle.rcv_model.proofs.NextLists.{lists_exist}
use Rattle.rcv_model.proofs.Parts.{Cut, cut}
use Rattle.rcv_model.proofs.Ways.{stands}
use Rattle.rcv_project.specs.Act.{ActView, Sending, Receiving, Ended, IsActAt, act_of}
use Rattle.rcv_project.specs.Local.{LocalView, act_at}
use Rattle.rcv_project.proofs.Acting.{one_act}
use Rattle.rcv_project.proofs.Machine.{is_act, own_act, has_place}
use Rattle.rcv_fidelity.specs.Laws.{IsAcceptedNet}
use Rattle.rcv_fidelity.specs.Machines.{place_after, CanMake, IsMachineStep, AreTables, IsTableStep, AreTableSteps}
use Rattle.rcv_fidelity.proofs.Stepping.{run_front, declared, steps_of_run, step_keeps, run_of}

module _ (net : Net) (roles : ℕ) (proper : IsProper net roles) where
  -- a run leaves a role at one of its places
  stands_in : (h : List Event) (r : ℕ) → IsRun net h → IsPlaceOf net r (place_after r h)
  stands_in h r run =
      let c : Cut net r 0 run.0 (acts r h) = cut net r 0 run.0 (acts r h) (run.1.parts r) in
      subst (λ l. IsPlaceOf net r (place_of 0 l)) c.did (stands net roles r c.front c.back proper (subst (IsWalk net 0) (sym c.whole) run.1.walk))

  -- the role of a step is one of the protocol
  step_declared : (h : List Event) (e : Event) → IsMachineStep net h e → e.role < roles
  step_declared h e step = go step.act step.does step.makes
    where
      go : (act : ActView) → IsActAt net e.role (place_after e.role h) act → CanMake act net h e → e.role < roles
      go (Sending zs) does m = declared net roles proper e.role (place_after e.role h) e.point (does.0.sound e.point m.1)
      go (Receiving from zs) does m = declared net roles proper e.role (place_after e.role h) e.point (does.0.sound e.point m.1)
      go Ended does m = absurd m

  module _ (tables : ℕ → LocalView) (are : AreTables net roles tables) where
    table_does : (h : List Event) (r : ℕ) → IsRun net h → r < roles → IsActAt net r (place_after r h) (act_at (tables r) (place_after r h))
    table_does h r run lt =
        let here = stands_in h r run in
        own_act net r (tables r) (place_after r h) (are r lt) (has_place net r (tables r) (place_after r h) (are r lt) here) here

    to_table : (h : List Event) (e : Event) → IsRun net h → IsMachineStep net h e → IsTableStep net roles tables h e
    to_table h e run step =
        let lt = step_declared h e step in
        let same = one_act net e.role (place_after e.role h) proper.two_ends step.act (act_at (tables e.role) (place_after e.role h)) step.does (table_does h e.role run lt) in
        record { declared = lt; makes = subst (λ act. CanMake act net h e) same step.makes }

    of_table : (h : List Event) (e : Event) → IsRun net h → IsTableStep net roles tables h e → IsMachineStep net h e
    of_table h e run step = record { act = act_at (tables e.role) (place_after e.role h); does = table_does h e.role run step.declared; makes = step.makes }

-- each accepted protocol has such tables
module _ (net : Net) (roles : ℕ) (protocol : IsAcceptedNet net roles) where
  act_for : ℕ → ℕ → ActView
  act_for r k = act_of net r (lists_exist net roles r k protocol.proper).0

  table : ℕ → LocalView
  table r = record { role = r; acts = map (act_for r) (range_with_len 0 (net.count + 1)) }

  are_tables : AreTables net roles table
  unfolding act_for table
  are_tables r lt = record { whose = refl; all = length-map-range_with_len (act_for r) 0 (net.count + 1); each = λ k act found here. subst (IsActAt net r k) (same k act found) (is_act net roles r k (lists_exist net roles r k protocol.proper).0 protocol.accepted lt here (lists_exist net roles r k protocol.proper).1) }
    where
      same : (k : ℕ) (act : ActView) → slice_get (map (act_for r) (range_with_len 0 (net.count + 1))) k ≡ Some act → act_for r k ≡ act
      same k act found =
          let within : k < length (map (act_for r) (range_with_len 0 (net.count + 1))) = slice_get_within (map (act_for r) (range_with_len 0 (net.count + 1))) k act found in
          sym (get_or-map-range_with_len (act_for r) 0 (net.count + 1) k k act (omega (arith, within, length-map-range_with_len (act_for r) 0 (net.count + 1))) (omega arith)) ∙ get_or_from_slice_get (map (act_for r) (range_with_len 0 (net.count + 1))) k act act found

  pub tables_exist : (tables : ℕ → LocalView) × AreTables net roles tables
  tables_exist = (table, are_tables)

pub made_by_tables : (net : Net) (roles : ℕ) (tables : ℕ → LocalView) (h : List Event) → IsAcceptedNet net roles → AreTables net roles tables → IsRun net h ↔ AreTableSteps net roles tables h
made_by_tables net roles tables h protocol are = (
  λ run before after e whole. to_table net roles protocol.proper tables are before e (run.0, run_front net run.0 before (e ∷ after) (subst (IsRunOf net run.0) (sym whole) run.1)) (steps_of_run net roles protocol.proper protocol.accepted h run before after e whole),
  run_of net (IsTableStep net roles tables) h (λ g e run step. step_keeps net roles protocol.proper protocol.accepted g e run (of_table net roles protocol.proper tables are g e run step)),
)
