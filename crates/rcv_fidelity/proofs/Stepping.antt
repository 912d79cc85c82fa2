-- Runs are made by machines: each event of a run is a step of its role's machine, and each such step keeps a run.
use Rattle.std.proofs.Common.{◌≡◌, ℕ, ◌<◌, true, false, List, [], ◌∷◌, ◌++◌, refl, sym, ◌∙◌, ap, subst, inl, inr, ⊎_elim, append_assoc, append-nil, arith, eq-eqb}
use Rattle.std.specs.Prelude.{◌↔◌}
use Rattle.std.proofs.lemmas.Bool.Decides.{nat_tests}
use Rattle.std.proofs.lemmas.List.Prefix.{front_rest}
use Rattle.rcv_tree.specs.declared.event.Event.{Event}
use Rattle.rcv_tree.specs.declared.event.Message.{Message}
use Rattle.rcv_tree.specs.declared.event.Dir.TheVariants.{Sent, Got}
use Rattle.rcv_model.specs.Net.{Net, IsIn, IsWalk, IsPrefix}
use Rattle.rcv_model.specs.Run.{Act, act_of, acts, part, place_of, is_sent, takes_on, put, taken, channel, IsRun, IsRunOf}
use Rattle.rcv_model.specs.Next.{IsOf, IsNext, AreNext, IsPlaceOf, IsProper, IsAccepted}
use Rattle.rcv_model.proofs.Keeping.{message_of, queued_nil, queued_now, taken_some, put_none, not_put}
use Rattle.rcv_model.proofs.Lists.{prefix_trans, prefix_map, prefix_drop, not_empty}
use Rattle.rcv_model.proofs.NextLists.{lists_exist}
use Rattle.rcv_model.proofs.Parts.{part_join, Cut, cut, IsKind, Head, head, acts_own}
use Rattle.rcv_model.proofs.Steps.{recv_keeps, send_keeps}
use Rattle.rcv_model.proofs.Ways.{point_is_next, next_in_text, stands}
use Rattle.rcv_project.specs.Act.{ActView, Sending, Receiving, Ended, IsActAt}
use Rattle.rcv_project.proofs.Acting.{all_sent, all_received}
use Rattle.rcv_fidelity.specs.Laws.{IsAcceptedNet}
use Rattle.rcv_fidelity.specs.Machines.{place_after, CanMake, IsMachineStep, AreMachineSteps}

-- a beginning of a run is a run with the same walk
pub run_front : (net : Net) (w : List ℕ) (before after : List Event) → IsRunOf net w (before ++ after) → IsRunOf net w before
run_front net w before after run = record {
  walk = run.walk;
  parts = λ r. prefix_trans _ _ _ (prefix_map (act_of r) before (before ++ after) (after, refl)) (run.parts r);
  queued = λ front back e s r. run.queued front (back ++ after) (sym (append_assoc front back after) ∙ ap (λ l. l ++ after) e) s r;
}

abbrev act_in : Event → Act
act_in e = record { dir = e.dir; point = e.point }

-- the last event of a run is at a next point of its role, and is a Send or a Recv as the point has it
record IsAtNext (net : Net) (h : List Event) (e : Event) : Type 0 where
  next : IsNext net e.role (place_after e.role h) e.point
  place : IsPlaceOf net e.role (place_after e.role h)
  kind : IsKind net e.role (act_in e) e.point

module _ (net : Net) (roles : ℕ) (proper : IsProper net roles) where
  at_next : (w : List ℕ) (h : List Event) (e : Event) → IsRunOf net w (h ++ e ∷ []) → IsAtNext net h e
  at_next w h e run = record {
    next = subst (IsNext net e.role (place_after e.role h)) same (subst (λ l. IsNext net e.role (place_of 0 l) found.point) c.did (point_is_next net roles e.role found.point c.front found.before found.after proper whole found.none_before own));
    place = subst (λ l. IsPlaceOf net e.role (place_of 0 l)) c.did (stands net roles e.role c.front c.back proper cut_walk);
    kind = subst (IsKind net e.role (act_in e)) same found.kind;
  }
    where
      c : Cut net e.role 0 w (acts e.role h)
      c = cut net e.role 0 w (acts e.role h) ((run_front net w h (e ∷ []) run).parts e.role)

      cut_walk : IsWalk net 0 (c.front ++ c.back)
      cut_walk = subst (IsWalk net 0) (sym c.whole) run.walk

      part_is : part net e.role w ≡ acts e.role h ++ part net e.role c.back
      part_is = ap (part net e.role) (sym c.whole) ∙ part_join net e.role c.front c.back ∙ ap (λ l. l ++ part net e.role c.back) c.did

      first : IsPrefix (act_in e ∷ []) (part net e.role c.back)
      first = prefix_drop (acts e.role h) (act_in e ∷ []) (part net e.role c.back) (subst (λ l. IsPrefix l (acts e.role h ++ part net e.role c.back)) (acts_own h e) (subst (IsPrefix (acts e.role (h ++ e ∷ []))) part_is (run.parts e.role)))

      found : Head net e.role c.back (act_in e)
      found = head net e.role c.back (act_in e) first.0 (sym first.1)

      whole : IsWalk net 0 (c.front ++ (found.before ++ found.point ∷ found.after))
      whole = subst (λ l. IsWalk net 0 (c.front ++ l)) (sym found.whole) cut_walk

      same : found.point ≡ e.point
      same = ⊎_elim (λ k. sym (ap (λ (a : Act). a.point) k.0)) (λ k. sym (ap (λ (a : Act). a.point) k.0)) found.kind

      own : IsOf net e.role found.point
      own = ⊎_elim (λ k. inl k.1) (λ k. inr k.1) found.kind

  -- its role is one of the protocol
  pub declared : (r k z : ℕ) → IsNext net r k z → r < roles
  declared r k z next =
      let there = next_in_text net roles r k z proper next in
      ⊎_elim (λ s. subst (λ n. n < roles) s (proper.senders z there.0 there.1)) (λ t. subst (λ n. n < roles) t (proper.receivers z there.0 there.1)) next.own

-- the last event of a run, if it is a Recv, takes what lies in front of its channel
taken_front : (net : Net) (w : List ℕ) (h : List Event) (e : Event) → IsRunOf net w (h ++ e ∷ []) → e.dir ≡ Got → (rest : List Message) × (channel net (net.sender e.point) e.role h ≡ message_of e ∷ rest)
taken_front net w h e run d = (waits.0, front_rest (put net (net.sender e.point) e.role h) (taken net (net.sender e.point) e.role h) (message_of e ∷ waits.0) (sym waits.1 ∙ append_assoc (taken net (net.sender e.point) e.role h) (message_of e ∷ []) waits.0))
  where
    takes : takes_on net (net.sender e.point) e.role e ≡ true
    takes =
        let a : is_sent e.dir ≡ false = ap is_sent d in
        let b = eq-eqb e.role e.role refl in
        let c = eq-eqb (net.sender e.point) (net.sender e.point) refl in
        grind (arith, nat_tests)

    waits : IsPrefix (taken net (net.sender e.point) e.role h ++ message_of e ∷ []) (put net (net.sender e.point) e.role h)
    waits = subst (IsPrefix (taken net (net.sender e.point) e.role h ++ message_of e ∷ [])) (put_none net (net.sender e.point) e.role h e (not_put net (net.sender e.point) e.role e takes)) (subst (λ l. IsPrefix l (put net (net.sender e.point) e.role (h ++ e ∷ []))) (taken_some net (net.sender e.point) e.role h e takes) (queued_now net (h ++ e ∷ []) run.queued (net.sender e.point) e.role))

module _ (net : Net) (roles : ℕ) (proper : IsProper net roles) (accepted : IsAccepted net roles) where
  -- the last event of a run is a step of its role's machine
  last_is_step : (w : List ℕ) (h : List Event) (e : Event) → IsRunOf net w (h ++ e ∷ []) → IsMachineStep net h e
  last_is_step w h e run = ⊎_elim (λ k. sends (ap (λ (a : Act). a.dir) k.0) k.1) (λ k. receives (ap (λ (a : Act). a.dir) k.0) k.2) at.kind
    where
      at : IsAtNext net h e
      at = at_next net roles proper w h e run

      there : e.role < roles
      there = declared net roles proper e.role (place_after e.role h) e.point at.next

      list : (zs : List ℕ) × AreNext net e.role (place_after e.role h) zs
      list = lists_exist net roles e.role (place_after e.role h) proper

      among : IsIn e.point list.0
      among = list.1.complete e.point at.next

      sends : e.dir ≡ Sent → net.sender e.point ≡ e.role → IsMachineStep net h e
      sends d s = record { act = Sending list.0; does = (list.1, not_empty e.point list.0 among, all_sent net roles e.role (place_after e.role h) accepted there at.place e.point list.0 list.1 among s); makes = (d, among) }

      receives : e.dir ≡ Got → (net.sender e.point ≡ e.role → ⊥) → IsMachineStep net h e
      receives d other = record { act = Receiving (net.sender e.point) list.0; does = (list.1, not_empty e.point list.0 among, all_received net roles e.role (place_after e.role h) accepted there at.place e.point list.0 list.1 among other); makes = (d, among, taken_front net w h e run d) }

  pub steps_of_run : (h : List Event) → IsRun net h → AreMachineSteps net h
  steps_of_run h run before after e whole =
      last_is_step run.0 before e (run_front net run.0 (before ++ e ∷ []) after (subst (IsRunOf net run.0) (sym (append_assoc before (e ∷ []) after ∙ whole)) run.1))

  -- and a step of a machine keeps a run
  pub step_keeps : (h : List Event) (e : Event) → IsRun net h → IsMachineStep net h e → IsRun net (h ++ e ∷ [])
  step_keeps h e run step = go step.act step.does step.makes
    where
      go : (act : ActView) → IsActAt net e.role (place_after e.role h) act → CanMake act net h e → IsRun net (h ++ e ∷ [])
      go (Sending zs) does m =
          let next = does.0.sound e.point m.1 in
          send_keeps net roles run.0 h e proper accepted run.1 (declared net roles proper e.role (place_after e.role h) e.point next) next (λ z n. does.2 z (does.0.complete z n)) m.0
      go (Receiving from zs) does m = (run.0, recv_keeps net roles run.0 h e from m.2.0 proper run.1 (λ z n. does.2 z (does.0.complete z n)) (does.2 e.point m.1) m.0 m.2.1)
      go Ended does m = absurd m

-- steps that keep runs lead from the start to runs
abbrev KeepRuns : Net → (List Event → Event → Type 0) → Type 0
KeepRuns net Step = (h : List Event) (e : Event) → IsRun net h → Step h e → IsRun net (h ++ e ∷ [])

abbrev AreAll : (List Event → Event → Type 0) → List Event → Type 0
AreAll Step h = (before after : List Event) (e : Event) → before ++ e ∷ after ≡ h → Step before e

run_from : (net : Net) (Step : List Event → Event → Type 0) (g rest h : List Event) → KeepRuns net Step → g ++ rest ≡ h → IsRun net g → AreAll Step h → IsRun net h
run_from net Step g [] h keep e run steps = subst (IsRun net) (sym (append-nil g) ∙ e) run
run_from net Step g (x ∷ rest) h keep e run steps = run_from net Step (g ++ x ∷ []) rest h keep (append_assoc g (x ∷ []) rest ∙ e) (keep g x run (steps g rest x e)) steps

pub run_of : (net : Net) (Step : List Event → Event → Type 0) (h : List Event) → KeepRuns net Step → AreAll Step h → IsRun net h
run_of net Step h keep steps = run_from net Step [] h h keep refl ([], record { walk = tt; parts = λ r. (_, refl); queued = queued_nil net }) steps

-- runs are exactly the lists of such steps
pub made_by_machines : (net : Net) (roles : ℕ) (h : List Event) → IsAcceptedNet net roles → IsRun net h ↔ AreMachineSteps net h
made_by_machines net roles h protocol = (steps_of_run net roles protocol.proper protocol.accepted h, run_of net (IsMachineStep net) h (step_keeps net roles protocol.proper protocol.accepted))
