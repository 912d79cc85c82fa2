-- The laws of polls and runs, of a cell in a session, and of going back.
use Prim.Native.Nat.{zero, suc}
use Rattle.std.proofs.Common.{◌≡◌, ℕ, ◌≤◌, Option, Some, None, List, [], ◌∷◌, length, take, refl, sym, ◌∙◌, ap, subst, arith}
use Rattle.std.specs.List.{filter_map, cons_option}
use Rattle.std.proofs.lemmas.List.{take-take}
use Rattle.rcv_model.specs.Run.{put_by, taken_by, put, taken}
use Rattle.rcv_theory.specs.Own.{own_through, IsOwnLog}
use Rattle.rcv_theory.specs.Round.{IsLog}
use Rattle.rcv_theory.proofs.Owning.{through_log}
use Rattle.rcv_ledger.proofs.Lists.{take_left}
use Rattle.rcv_session.specs.Session.{rules_of}
use Rattle.rcv_role.specs.declared.poll.Poll.TheVariants as polls
use Rattle.rcv_role.specs.declared.poll.Stop.TheVariants as stops
use Rattle.rcv_role.specs.Laws.{PollsAreExact, RunsAreFencedExactly, CellsFollowTheSession, RewindsHoldFirstEvents, RewindsAloneHoldFirstEvents}
use Rattle.rcv_role.proofs.Slots.{taken_length}

pub polls_are_exact : PollsAreExact
polls_are_exact old new polls.Crashed p = record {
  crashed = ((λ e. p.0), λ d. refl);
  done = ((λ e. absurd (cc)), λ d. absurd (d.0 p.0));
  tired = ((λ e. absurd (cc)), λ d. absurd (d.0 p.0));
}
polls_are_exact old new polls.Done p = record {
  crashed = ((λ e. absurd (cc)), λ d. absurd (p.0 d));
  done = ((λ e. (p.0, p.1)), λ d. refl);
  tired = ((λ e. absurd (cc)), λ d. absurd (d.1 p.1));
}
polls_are_exact old new polls.Tired p = record {
  crashed = ((λ e. absurd (cc)), λ d. absurd (p.0 d));
  done = ((λ e. absurd (cc)), λ d. absurd (p.1 d.1));
  tired = ((λ e. (p.0, p.1, p.2)), λ d. refl);
}
polls_are_exact old new polls.Moved p = record {
  crashed = ((λ e. absurd (cc)), λ d. absurd (p.0.calm d));
  done = ((λ e. absurd (cc)), λ d. absurd (p.0.next d.1));
  tired = ((λ e. absurd (cc)), λ d. absurd (d.2 p.0.below));
}
polls_are_exact old new polls.Waiting p = record {
  crashed = ((λ e. absurd (cc)), λ d. absurd (p.0.calm d));
  done = ((λ e. absurd (cc)), λ d. absurd (p.0.next d.1));
  tired = ((λ e. absurd (cc)), λ d. absurd (d.2 p.0.below));
}

pub runs_are_fenced_exactly : RunsAreFencedExactly
runs_are_fenced_exactly turns old new watch now stops.Waiting r = ((λ e. absurd (cc)), λ f. absurd (r.0.unfenced f))
runs_are_fenced_exactly turns old new watch now stops.Done r = ((λ e. absurd (cc)), λ f. absurd (r.0.unfenced f))
runs_are_fenced_exactly turns old new watch now stops.Tired r = ((λ e. absurd (cc)), λ f. absurd (r.0.unfenced f))
runs_are_fenced_exactly turns old new watch now stops.Crashed r = ((λ e. absurd (cc)), λ f. absurd (r.0.unfenced f))
runs_are_fenced_exactly turns old new watch now stops.Spent r = ((λ e. absurd (cc)), λ f. absurd (r.unfenced f))
runs_are_fenced_exactly turns old new watch now stops.Fenced r = ((λ e. r.fenced), λ f. refl)

pub cells_follow_the_session : CellsFollowTheSession
cells_follow_the_session old new s goes own =
    let log : IsLog (rules_of old.part.setup) old.part.role s goes.more = subst (λ o. IsOwnLog (rules_of old.part.setup) old.part.role o goes.more) (sym own) goes.lawful in
    (log, through_log (rules_of old.part.setup) old.part.role s goes.more log ∙ ap (λ o. own_through o goes.more) own ∙ sym goes.own)

-- what a filter leaves of the first items are the first of what it leaves
first_left : {A B : Type 0} (f : A → Option B) (xs : List A) (k : ℕ) → take (length (filter_map f (take k xs))) (filter_map f xs) ≡ filter_map f (take k xs)
first_left f xs zero = refl
first_left f [] (suc k) = refl
first_left f (x ∷ xs) (suc k) = go (f x) (first_left f xs k)
  where
    go : (o : _) → take (length (filter_map f (take k xs))) (filter_map f xs) ≡ filter_map f (take k xs) → take (length (cons_option o (filter_map f (take k xs)))) (cons_option o (filter_map f xs)) ≡ cons_option o (filter_map f (take k xs))
    go None same = same
    go (Some y) same = ap (λ l. y ∷ l) same

fewer_left : {A B : Type 0} (f : A → Option B) (xs : List A) (k : ℕ) → length (filter_map f (take k xs)) ≤ length (filter_map f xs)
fewer_left f xs zero = omega arith
fewer_left f [] (suc k) = omega arith
fewer_left f (x ∷ xs) (suc k) = go (f x) (fewer_left f xs k)
  where
    go : (o : _) → length (filter_map f (take k xs)) ≤ length (filter_map f xs) → length (cons_option o (filter_map f (take k xs))) ≤ length (cons_option o (filter_map f xs))
    go None le = le
    go (Some y) le = omega (arith, le)

pub rewinds_hold_first_events : RewindsHoldFirstEvents
rewinds_hold_first_events net s r sent got post post_now inbox inbox_now sends gots held back = record {
  put = back.rewound.put ∙ ap (λ n. take n post.list) back.drop_is ∙ ap (take (length (put net s r (take sends sent)))) held.put ∙ first_left (put_by net s r) sent sends;
  count = back.rewound.got ∙ back.keep_is;
  taken =
      ap (λ n. take n inbox_now.list) back.rewound.got
      ∙ ap (take back.keep) back.rewound.taken
      ∙ take-take back.keep back.drop_from post.list back.order
      ∙ ap (take back.keep) (sym back.rewound.begins.1)
      ∙ take_left inbox.list back.rewound.begins.0 back.keep few
      ∙ sym (take-take back.keep inbox.got inbox.list within)
      ∙ ap (take back.keep) held.taken
      ∙ ap (λ n. take n (taken net s r got)) back.keep_is
      ∙ first_left (taken_by net s r) got gots;
}
  where
    within : back.keep ≤ inbox.got
    within = let k = back.keep_is in let g = held.count in let f = fewer_left (taken_by net s r) got gots in omega (arith, k, g, f)

    few : back.keep ≤ length inbox.list
    few = let w = within in let t = taken_length inbox.list inbox.got (held.count ∙ ap length (sym held.taken)) in omega (arith, w, t)

pub rewinds_alone_hold_first_events : RewindsAloneHoldFirstEvents
rewinds_alone_hold_first_events net s r sent got post inbox gots held = record {
  put = held.put;
  count = refl;
  taken =
      sym (take-take (length (taken net s r (take gots got))) inbox.got inbox.list (let g = held.count in let f = fewer_left (taken_by net s r) got gots in omega (arith, g, f)))
      ∙ ap (take (length (taken net s r (take gots got)))) held.taken
      ∙ first_left (taken_by net s r) got gots;
}
