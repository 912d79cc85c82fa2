-- The machines of an accepted protocol are safe together: this is what its runs say of them.
use Rattle.std.proofs.Common.{◌≡◌, ℕ, ◌≤◌, None, List, [], ◌∷◌, ◌++◌, length, refl, sym, ◌∙◌, ap, subst, ◌⊎◌, inl, inr, ⊎_elim, append-nil, arith, ne_eqb}
use Rattle.std.specs.Prelude.{pos}
use Rattle.std.specs.List.{filter_map, cons_option}
use Rattle.std.proofs.lemmas.Bool.{cases_eq}
use Rattle.std.proofs.lemmas.Bool.Decides.{nat_tests}
use Rattle.std.proofs.lemmas.List.Prefix.{front_rest}
use Rattle.rcv_tree.specs.declared.event.Event.{Event}
use Rattle.rcv_tree.specs.declared.event.Message.{Message}
use Rattle.rcv_tree.specs.declared.event.Dir.TheVariants.{Sent, Got}
use Rattle.rcv_model.specs.Act.{CanSend, CanRecv, IsDone}
use Rattle.rcv_model.specs.Net.{Net, IsIn, IsWalk, HasTwoEnds}
use Rattle.rcv_model.specs.Run.{acts, part, place_of, put, taken, channel, IsRun}
use Rattle.rcv_model.specs.Next.{IsNext, AreNext, IsProper, IsAccepted}
use Rattle.rcv_model.proofs.Crossing.{sent_to, got_from, crosses, points, put_points, taken_points, crossing, part_sent, part_got, length_points}
use Rattle.rcv_model.proofs.Keeping.{queued_now}
use Rattle.rcv_model.proofs.Lists.{whole_prefix, not_empty}
use Rattle.rcv_model.proofs.NextLists.{lists_exist}
use Rattle.rcv_model.proofs.Parts.{part_join, part_none, First, never, at, first, Cut, cut}
use Rattle.rcv_model.proofs.Same.{rises_nil}
use Rattle.rcv_model.proofs.Steps.{expected}
use Rattle.rcv_model.proofs.Stuck.{not_stuck}
use Rattle.rcv_model.proofs.Ways.{point_is_next}
use Rattle.rcv_project.specs.Act.{Sending, Receiving, Ended, AreReceivedBy, IsActAt}
use Rattle.rcv_fidelity.specs.Laws.{IsAcceptedNet}
use Rattle.rcv_fidelity.specs.Machines.{place_after, IsMachineStep, AreMachineSteps}
use Rattle.rcv_fidelity.specs.Safe.{AreAtEnd, AreSafe}
use Rattle.rcv_fidelity.proofs.Stepping.{declared, made_by_machines}

-- a channel from a role to itself is never crossed
crosses_none : (net : Net) (r p : ℕ) → HasTwoEnds net → crosses net r r p ≡ None
crosses_none net r p two = go (cases_eq (net.sender p) r) (cases_eq (net.receiver p) r)
  where
    go : (net.sender p ≡ r) ⊎ (net.sender p ≡ r → ⊥) → (net.receiver p ≡ r) ⊎ (net.receiver p ≡ r → ⊥) → crosses net r r p ≡ None
    go (inl e) (inl f) = absurd (two p (e ∙ sym f))
    go (inl e) (inr n) = let a = ne_eqb (net.receiver p) r n in grind (arith, nat_tests)
    go (inr n) d = let a = ne_eqb (net.sender p) r n in grind (arith, nat_tests)

crossing_itself : (net : Net) (r : ℕ) (w : List ℕ) → HasTwoEnds net → crossing net r r w ≡ []
crossing_itself net r [] two = refl
crossing_itself net r (p ∷ w) two = ap (λ o. cons_option o (crossing net r r w)) (crosses_none net r p two) ∙ crossing_itself net r w two

module _ (net : Net) (roles : ℕ) (proper : IsProper net roles) (h : List Event) (run : IsRun net h) where
  -- a machine expects the message in front
  pub expects : (r from : ℕ) (zs : List ℕ) (front : Message) (rest : List Message) → IsActAt net r (place_after r h) (Receiving from zs) → channel net from r h ≡ front ∷ rest → IsIn front.point zs
  expects r from zs front rest does waits = does.0.complete front.point (expected net roles run.0 h r from front rest proper (apart zs does.1 does.2) run.1 (λ z n. does.2 z (does.0.complete z n)) waits).0
    where
      apart : (zs : List ℕ) → (zs ≡ [] → ⊥) → AreReceivedBy net r from zs → from ≡ r → ⊥
      apart [] some received e = some refl
      apart (z ∷ zs) some received e = let ends = received z (inl refl) in proper.two_ends z (ends.1 ∙ e ∙ sym ends.0)

  -- if all machines are at their ends, each role has made its whole part of the walk
  module _ (ended : AreAtEnd net roles h) where
    whole_part : (r : ℕ) → part net r run.0 ≡ acts r h
    whole_part r = go (first net r c.back)
      where
        c : Cut net r 0 run.0 (acts r h)
        c = cut net r 0 run.0 (acts r h) (run.1.parts r)

        cut_walk : IsWalk net 0 (c.front ++ c.back)
        cut_walk = subst (IsWalk net 0) (sym c.whole) run.1.walk

        go : First net r c.back → part net r run.0 ≡ acts r h
        go (never none) = ap (part net r) (sym c.whole) ∙ part_join net r c.front c.back ∙ ap (λ l. part net r c.front ++ l) (part_none net r c.back none) ∙ append-nil _ ∙ c.did
        go (at before z after f none own) =
            let next : IsNext net r (place_after r h) z = subst (λ l. IsNext net r (place_of 0 l) z) c.did (point_is_next net roles r z c.front before after proper (subst (λ l. IsWalk net 0 (c.front ++ l)) (sym f) cut_walk) none own) in
            absurd ((ended r (declared net roles proper r (place_after r h) z next)).complete z next)

    put_all : (s r : ℕ) → points (put net s r h) ≡ crossing net s r run.0
    put_all s r = put_points net s r h ∙ ap (filter_map (sent_to net r)) (sym (whole_part s)) ∙ part_sent net s r run.0

    taken_all : (s r : ℕ) → (s ≡ r → ⊥) → points (taken net s r h) ≡ crossing net s r run.0
    taken_all s r apart = taken_points net s r h ∙ ap (filter_map (got_from net s)) (sym (whole_part r)) ∙ part_got net s r run.0 apart

    enough : (s r : ℕ) → (s ≡ r) ⊎ (s ≡ r → ⊥) → length (put net s r h) ≤ length (taken net s r h)
    enough s r (inl e) = omega (arith, length_points (put net s r h), ap length (put_all s r), ap length (ap (λ q. crossing net q r run.0) e), ap length (crossing_itself net r run.0 proper.two_ends))
    enough s r (inr n) = omega (arith, length_points (put net s r h), length_points (taken net s r h), ap length (put_all s r), ap length (taken_all s r n))

    none_left : (s r : ℕ) → channel net s r h ≡ []
    none_left s r =
        let same : taken net s r h ≡ put net s r h = whole_prefix _ _ (queued_now net h run.1.queued s r) (enough s r (cases_eq s r)) in
        front_rest (put net s r h) (taken net s r h) [] (sym same ∙ sym (append-nil _))

module _ (net : Net) (roles : ℕ) (proper : IsProper net roles) (accepted : IsAccepted net roles) (h : List Event) (run : IsRun net h) where
  -- the next step of a machine that isn't at its end
  next_list : (r : ℕ) → (zs : List ℕ) × AreNext net r (place_after r h) zs
  next_list r = lists_exist net roles r (place_after r h) proper

  can_send : (r : ℕ) → CanSend net r h → (e : Event) × IsMachineStep net h e
  can_send r can =
      let zs = next_list r in
      let i : IsIn can.point zs.0 = zs.1.complete can.point can.next in (
        record { role = r; dir = Sent; point = can.point; value = pos 0; stamp = 0; sent = 0 },
        record { act = Sending zs.0; does = (zs.1, not_empty can.point zs.0 i, λ z j. can.sends z (zs.1.sound z j)); makes = (refl, i) },
      )

  can_recv : (r : ℕ) → CanRecv net r h → (e : Event) × IsMachineStep net h e
  can_recv r can =
      let zs = next_list r in
      let i : IsIn can.front.point zs.0 = zs.1.complete can.front.point can.expected in (
        record { role = r; dir = Got; point = can.front.point; value = can.front.value; stamp = 0; sent = can.front.stamp },
        record { act = Receiving can.from zs.0; does = (zs.1, not_empty can.front.point zs.0 i, λ z j. can.receives z (zs.1.sound z j)); makes = (refl, i, (can.rest, can.waits)) },
      )

  at_end : (r : ℕ) → IsDone net r h → IsActAt net r (place_after r h) Ended
  at_end r done = record { ascending = rises_nil; sound = λ z i. absurd i; complete = λ z n. done z n }

  goes_on : ((e : Event) × IsMachineStep net h e) ⊎ AreAtEnd net roles h
  goes_on = ⊎_elim
      (λ a. inl (⊎_elim (can_send a.0) (can_recv a.0) a.2))
      (λ done. inr (λ r lt. at_end r (done r lt)))
      (not_stuck net roles run.0 h proper accepted run.1)

pub machines_safe : (net : Net) (roles : ℕ) (h : List Event) → IsAcceptedNet net roles → AreMachineSteps net h → AreSafe net roles h
machines_safe net roles h protocol steps =
    let run = (made_by_machines net roles h protocol).1 steps in
    record {
      not_stuck = goes_on net roles protocol.proper protocol.accepted h run;
      expected = expects net roles protocol.proper h run;
      none_left = none_left net roles protocol.proper h run;
    }
