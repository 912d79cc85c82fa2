-- Rounds of ping: their text has a form, and their events are those of logs whose channels are queues.
use Prim.Native.Nat.{zero, suc}
use Rattle.std.proofs.Common.{◌≡◌, ℕ, ◌+◌, ◌<◌, ◌≤◌, ◌^◌, Bool, true, false, cond, Some, List, [], ◌∷◌, ◌++◌, length, take, refl, sym, ◌∙◌, ap, subst, inl, ⊎_elim, arith}
use Rattle.std.specs.Prelude.{◌==◌, not, ◌&&◌, slice_get}
use Rattle.std.proofs.lemmas.Bool.{cases_Bool}
use Rattle.std.proofs.lemmas.List.Sums.{length-filter, count_by-le-length}
use Rattle.std.proofs.lemmas.List.Elements.{filter-append}
use Rattle.rcv_tree.specs.declared.event.Event.{Event}
use Rattle.rcv_tree.specs.declared.event.Dir.TheVariants.{Sent, Got}
use Rattle.rcv_model.specs.Net.{Net, IsPrefix}
use Rattle.rcv_model.specs.Run.{is_sent, takes_on, put, taken, IsQueued}
use Rattle.rcv_model.specs.Journal.{events_of}
use Rattle.rcv_model.specs.Form.{HasForm}
use Rattle.rcv_model.specs.Places.{net_of, IsFullText}
use Rattle.rcv_model.specs.ByPoints.{IsByEnd, AreByEnds}
use Rattle.rcv_model.proofs.Lists.{some_same}
use Rattle.rcv_model.proofs.Forms.{proper}
use Rattle.rcv_model.proofs.Keeping.{is_by, queued_nil, queued_more, fits_else, is_recv}
use Rattle.rcv_depend.specs.Logs.{log_at, IsSound, AreSound, AreLogsOf}
use Rattle.rcv_depend.specs.Rounds.{rounds, at, both_logs, AreOfRounds}
use Rattle.rcv_depend.proofs.Scans.{is_same}
use Rattle.rcv_depend.proofs.Lowering.{take_next}

-- The text.
pub has_form : HasForm rounds 2
has_form = record {
  numbered = (refl, (refl, tt));
  ends = (omega arith, omega arith, (λ e. absurd (omega (arith, e))), (omega arith, omega arith, (λ e. absurd (omega (arith, e))), tt));
  subjects = (tt, tt);
  apart = tt;
  few_roles = omega arith;
  few_points = omega arith;
}

pub is_full : IsFullText rounds
is_full = ((λ x. x), (inl refl, (λ x. x), tt), tt)

abbrev net : Net
net = net_of rounds

-- A Send more, and a Recv more that fits its own channel.
sent : (h : List Event) (e : Event) → is_sent e.dir ≡ true → IsQueued net h → IsQueued net (h ++ e ∷ [])
sent h e is q = queued_more net h e q (λ s r. fits_else net e h s r q (ap (λ b. not b && ((e.role == r) && (net.sender e.point == s))) is))

got : (h : List Event) (e : Event) → IsPrefix (taken net (net.sender e.point) e.role (h ++ e ∷ [])) (put net (net.sender e.point) e.role (h ++ e ∷ [])) → IsQueued net h → IsQueued net (h ++ e ∷ [])
got h e fits q = queued_more net h e q (λ s r. ⊎_elim
    (λ t. let is = is_recv net s r e t in subst (λ x. IsPrefix (taken net x r (h ++ e ∷ [])) (put net x r (h ++ e ∷ []))) is.2 (subst (λ x. IsPrefix (taken net (net.sender e.point) x (h ++ e ∷ [])) (put net (net.sender e.point) x (h ++ e ∷ []))) is.1 fits))
    (λ f. fits_else net e h s r q f)
    (cases_Bool (takes_on net s r e)))

abbrev pub one_round : List Event
one_round = at 0 Sent 1 ∷ at 1 Got 1 ∷ at 1 Sent 2 ∷ at 0 Got 2 ∷ []

abbrev pub two_rounds : List Event
two_rounds = at 0 Sent 1 ∷ at 1 Got 1 ∷ at 1 Sent 2 ∷ at 0 Got 2 ∷ one_round

one_queued : IsQueued net one_round
one_queued =
    got (take 3 one_round) (at 0 Got 2) ([], refl)
    (sent (take 2 one_round) (at 1 Sent 2) refl
    (got (take 1 one_round) (at 1 Got 1) ([], refl)
    (sent [] (at 0 Sent 1) refl (queued_nil net))))

two_queued : IsQueued net two_rounds
two_queued =
    got (take 7 two_rounds) (at 0 Got 2) ([], refl)
    (sent (take 6 two_rounds) (at 1 Sent 2) refl
    (got (take 5 two_rounds) (at 1 Got 1) ([], refl)
    (sent one_round (at 0 Sent 1) refl one_queued)))

-- An event of one of the two roles, at one of the two points.
record IsStep (e : Event) : Type 0 where
  declared : e.role < 2
  sound : IsSound net e.role e
  end : IsByEnd net e

abbrev AreSteps : List Event → Type 0
AreSteps [] = Unit {0}
AreSteps (e ∷ h) = IsStep e × AreSteps h

-- Each of the four.
sound_at : (e : Event) → 1 ≤ e.point → e.point ≤ 2 → IsSound net e.role e
sound_at e first last = record {
  role = refl;
  first = first;
  last = last;
  sender = (let s = (proper rounds 2 has_form).senders e.point first last in omega (arith, s));
  receiver = (let r = (proper rounds 2 has_form).receivers e.point first last in omega (arith, r));
}

sends : (e : Event) → e.role < 2 → 1 ≤ e.point → e.point ≤ 2 → is_sent e.dir ≡ true → e.role ≡ net.sender e.point → IsStep e
sends e low first last is by = record { declared = low; sound = sound_at e first last; end = record { sends = λ t. by; recvs = λ f. absurd (let g = sym is ∙ f in cc) } }

receives : (e : Event) → e.role < 2 → 1 ≤ e.point → e.point ≤ 2 → is_sent e.dir ≡ false → e.role ≡ net.receiver e.point → IsStep e
receives e low first last is by = record { declared = low; sound = sound_at e first last; end = record { sends = λ t. absurd (let g = sym is ∙ t in cc); recvs = λ f. by } }

round_of : (h : List Event) → AreSteps h → AreSteps (one_round ++ h)
round_of h steps =
    let sent = sends (at 0 Sent 1) (omega arith) (omega arith) (omega arith) refl refl in
    let received = receives (at 1 Got 1) (omega arith) (omega arith) (omega arith) refl refl in
    let answer = sends (at 1 Sent 2) (omega arith) (omega arith) (omega arith) refl refl in
    let end = receives (at 0 Got 2) (omega arith) (omega arith) (omega arith) refl refl in
    (sent, (received, (answer, (end, steps))))

-- What such events put into the logs.
sound_in : (r : ℕ) (h : List Event) → AreSteps h → (n : ℕ) (f : Event) → slice_get (events_of r h) n ≡ Some f → IsSound net r f
sound_in r [] steps n f is = absurd (cc)
sound_in r (e ∷ h) steps n f is = go (e.role == r) refl n is (sound_in r h steps.1)
  where
    go : (b : Bool) → (e.role == r) ≡ b → (n : ℕ) → slice_get (cond b (e ∷ events_of r h) (events_of r h)) n ≡ Some f → ((m : ℕ) (g : Event) → slice_get (events_of r h) m ≡ Some g → IsSound net r g) → IsSound net r f
    go false t n is ih = ih n f is
    go true t zero is ih = subst (IsSound net r) (some_same is) (subst (λ q. IsSound net q e) (is_same e.role r true (sym t) refl) steps.0.sound)
    go true t (suc n) is ih = ih n f is

none_behind : (r : ℕ) (h : List Event) → AreSteps h → 2 ≤ r → events_of r h ≡ []
none_behind r [] steps le = refl
none_behind r (e ∷ h) steps le = go (e.role == r) refl (none_behind r h steps.1 le)
  where
    go : (b : Bool) → (e.role == r) ≡ b → events_of r h ≡ [] → cond b (e ∷ events_of r h) (events_of r h) ≡ []
    go false t ih = ih
    go true t ih = let same = is_same e.role r true (sym t) refl in let low = steps.0.declared in absurd (omega (arith, same, low, le))

ends_in : (h : List Event) → AreSteps h → AreByEnds net h
ends_in [] steps = tt
ends_in (e ∷ h) steps = (steps.0.end, ends_in h steps.1)

of_rounds : (h : List Event) → AreSteps h → IsQueued net h → length h < 2 ^ 32 → AreOfRounds h
of_rounds h steps queued few = record {
  sound = sound;
  logs = record { lists = lists; eight = omega arith; few = λ r. (let e = ap length (lists r) in let n = length-filter (λ (x : Event). x.role == r) h in let c = count_by-le-length (λ (x : Event). x.role == r) h in omega (arith, e, n, c, few)); queued = queued; ends = ends_in h steps; two = (proper rounds 2 has_form).two_ends };
}
  where
    sound : AreSound net (both_logs h)
    sound zero n e is = sound_in 0 h steps n e is
    sound (suc zero) n e is = sound_in 1 h steps n e is
    sound (suc (suc r)) n e is = absurd (cc)

    lists : (r : ℕ) → log_at (both_logs h) r ≡ events_of r h
    lists zero = refl
    lists (suc zero) = refl
    lists (suc (suc r)) = sym (none_behind (suc (suc r)) h steps (omega arith))

pub one_round_is : AreOfRounds one_round
one_round_is = of_rounds one_round (round_of [] tt) one_queued (omega arith)

pub two_rounds_are : AreOfRounds two_rounds
two_rounds_are = of_rounds two_rounds (round_of one_round (round_of [] tt)) two_queued (omega arith)

-- The four events of a round by other names.
pub told : (f : Event → Event → Event → Event → List Event) (a b c d : Event) → a ≡ at 0 Sent 1 → b ≡ at 1 Got 1 → c ≡ at 1 Sent 2 → d ≡ at 0 Got 2 → AreOfRounds (f (at 0 Sent 1) (at 1 Got 1) (at 1 Sent 2) (at 0 Got 2)) → AreOfRounds (f a b c d)
told f a b c d w x y z =
    subst AreOfRounds (sym (ap (λ e. f e b c d) w ∙ ap (λ e. f (at 0 Sent 1) e c d) x ∙ ap (λ e. f (at 0 Sent 1) (at 1 Got 1) e d) y ∙ ap (f (at 0 Sent 1) (at 1 Got 1) (at 1 Sent 2)) z))

-- What a role did of the first events, with the next one.
pub next_own : (r n : ℕ) (h : List Event) (e : Event) → slice_get h n ≡ Some e → events_of r (take (n + 1) h) ≡ events_of r (take n h) ++ events_of r (e ∷ [])
next_own r n h e there = ap (events_of r) (take_next n h e there) ∙ filter-append (λ (x : Event). x.role == r) (take n h) (e ∷ [])

-- An event is its role's, and no other one's.
pub own_event : (r : ℕ) (e : Event) → (e.role == r) ≡ true → events_of r (e ∷ []) ≡ e ∷ []
own_event r e t = ap (λ b. cond b (e ∷ []) []) t

pub other_event : (r : ℕ) (e : Event) → (e.role == r) ≡ false → events_of r (e ∷ []) ≡ []
other_event r e f = ap (λ b. cond b (e ∷ []) []) f

-- A Recv with no Send isn't of a queue, and a Send by its receiver isn't by an end of its point.
pub from_nowhere : AreOfRounds (at 1 Got 1 ∷ []) → ⊥
from_nowhere are = let p = are.logs.queued (at 1 Got 1 ∷ []) [] refl 0 1 in absurd (let n = ap length p.1 in omega (arith, n))

pub by_the_other : AreOfRounds (at 1 Sent 1 ∷ []) → ⊥
by_the_other are = let e : 1 ≡ 0 = are.logs.ends.0.sends refl in absurd (omega (arith, e))
