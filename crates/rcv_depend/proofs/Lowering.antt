-- What lies within a cut, with one event fewer of a role.
use Rattle.std.proofs.Common.{◌≡◌, ℕ, ◌+◌, ◌-◌, ◌<◌, ◌≤◌, cond, Some, None, List, [], ◌∷◌, ◌++◌, length, take, length-append, length-set, refl, sym, ◌∙◌, ap, subst, ⊎_elim, arith}
use Rattle.std.specs.Prelude.{slice_get, slice_index, slice_set}
use Rattle.std.proofs.lemmas.Bool.{cases_Bool, cases_eq}
use Rattle.std.proofs.lemmas.List.{get_or-set_other, take_more}
use Rattle.std.proofs.lemmas.Grind.{get_or-set_at}
use Rattle.std.proofs.lemmas.Option.{get_or_from_slice_get, slice_get_within}
use Rattle.rcv_tree.specs.declared.event.Event.{Event}
use Rattle.rcv_tree.specs.declared.event.Dir.TheVariants.{Sent, Got}
use Rattle.rcv_model.specs.Net.{Net}
use Rattle.rcv_model.specs.Run.{puts_on, takes_on, put_by, taken_by, put, taken}
use Rattle.rcv_model.proofs.Queues.{put_message}
use Rattle.rcv_model.proofs.Keeping.{message_of, put_none, taken_none}
use Rattle.rcv_model.proofs.Steps.{not_taken}
use Rattle.rcv_depend.specs.declared.mark.Mark.{Mark}
use Rattle.rcv_depend.specs.Logs.{between, log_at, HasMark, IsSound, AreSound}
use Rattle.rcv_depend.specs.Cuts.{put_within, taken_within, AreCounted}
use Rattle.rcv_depend.proofs.Crossing.{mapped, sent_here, sent_else, got_here, got_else, no_put, apart}

-- Of each mark the point is one of the net, with its ends among eight roles.
pub record IsInNet (net : Net) (point : ℕ) : Type 0 where
  pub first : 1 ≤ point
  pub last : point ≤ net.count
  pub sender : net.sender point < 8
  pub receiver : net.receiver point < 8

pub mark_in_net : (net : Net) (logs : List (List Event)) (r n : ℕ) (m : Mark) → AreSound net logs → HasMark logs r n m → IsInNet net m.point
mark_in_net net logs r n m sound has =
    let is = sound r n has.event has.there in
    subst (IsInNet net) (sym has.own.point) (record { first = is.first; last = is.last; sender = is.sender; receiver = is.receiver })

-- One event more puts one message more on its channel, or takes one more from it.
pub one_put : (net : Net) (a b : ℕ) (l : List Event) (e : Event) → length (put net a b (l ++ e ∷ [])) ≡ length (put net a b l) + cond {A = ℕ} (puts_on net a b e) 1 0
one_put net a b l e = ⊎_elim
    (λ t.
    let more = ap length (mapped (put_by net a b) l e (put_message e) (ap (λ v. cond v (Some (put_message e)) None) t)) in
    let n = length-append (put net a b l) (put_message e ∷ []) in
    let w = ap {B = ℕ} (λ v. cond v 1 0) t in
    omega (arith, more, n, w))
    (λ f. let same = ap length (put_none net a b l e f) in let w = ap {B = ℕ} (λ v. cond v 1 0) f in omega (arith, same, w))
    (cases_Bool (puts_on net a b e))

pub one_taken : (net : Net) (a b : ℕ) (l : List Event) (e : Event) → length (taken net a b (l ++ e ∷ [])) ≡ length (taken net a b l) + cond {A = ℕ} (takes_on net a b e) 1 0
one_taken net a b l e = ⊎_elim
    (λ t.
    let more = ap length (mapped (taken_by net a b) l e (message_of e) (ap (λ v. cond v (Some (message_of e)) None) t)) in
    let n = length-append (taken net a b l) (message_of e ∷ []) in
    let w = ap {B = ℕ} (λ v. cond v 1 0) t in
    omega (arith, more, n, w))
    (λ f. let same = ap length (taken_none net a b l e f) in let w = ap {B = ℕ} (λ v. cond v 1 0) f in omega (arith, same, w))
    (cases_Bool (takes_on net a b e))

-- The first events with the next one.
pub take_next : (n : ℕ) (l : List Event) (e : Event) → slice_get l n ≡ Some e → take (n + 1) l ≡ take n l ++ e ∷ []
take_next n l e at = take_more l n e (slice_get_within l n e at) ∙ ap (λ x. take n l ++ x ∷ []) (get_or_from_slice_get l n e e at)

pub next_put : (net : Net) (a b n : ℕ) (l : List Event) (e : Event) → slice_get l n ≡ Some e → length (put net a b (take (n + 1) l)) ≡ length (put net a b (take n l)) + cond {A = ℕ} (puts_on net a b e) 1 0
next_put net a b n l e at = ap (λ x. length (put net a b x)) (take_next n l e at) ∙ one_put net a b (take n l) e

pub next_taken : (net : Net) (a b n : ℕ) (l : List Event) (e : Event) → slice_get l n ≡ Some e → length (taken net a b (take (n + 1) l)) ≡ length (taken net a b (take n l)) + cond {A = ℕ} (takes_on net a b e) 1 0
next_taken net a b n l e at = ap (λ x. length (taken net a b x)) (take_next n l e at) ∙ one_taken net a b (take n l) e

module _ (net : Net) (logs : List (List Event)) (cs : List ℕ) (r : ℕ) (e : Event) (few : length logs ≤ 8) (sound : AreSound net logs) (here : r < length logs) (some : 0 < slice_index cs r) (at : slice_get (log_at logs r) (slice_index cs r - 1) ≡ Some e) (eight : length cs ≡ 8) where
  abbrev pub fewer : List ℕ
  fewer = slice_set cs r (slice_index cs r - 1)

  pub sound_here : IsSound net r e
  sound_here = sound r (slice_index cs r - 1) e at

  there_now : slice_index fewer r ≡ slice_index cs r - 1
  there_now = get_or-set_at cs r r (slice_index cs r - 1) 0 refl (omega (arith, here, eight, few))

  pub lower_now : (q : ℕ) → slice_index fewer q ≤ slice_index cs q
  lower_now q = ⊎_elim
      (λ same. subst (λ x. slice_index fewer x ≤ slice_index cs x) (sym same) (let a = there_now in omega (arith, a)))
      (λ other. let a = get_or-set_other cs r q (slice_index cs r - 1) 0 other in omega (arith, a))
      (cases_eq q r)

  split : take (slice_index cs r) (log_at logs r) ≡ take (slice_index fewer r) (log_at logs r) ++ e ∷ []
  split =
      let up : slice_index cs r ≡ slice_index cs r - 1 + 1 = omega (arith, some) in
      ap (λ n. take n (log_at logs r)) up
      ∙ take_next (slice_index cs r - 1) (log_at logs r) e at
      ∙ ap (λ n. take n (log_at logs r) ++ e ∷ []) (sym there_now)

  pub put_down : (a b : ℕ) → put_within net logs cs a b ≡ put_within net logs fewer a b + cond {A = ℕ} (puts_on net a b e) 1 0
  put_down a b = ⊎_elim
      (λ same. subst (λ q. put_within net logs cs q b ≡ put_within net logs fewer q b + cond {A = ℕ} (puts_on net q b e) 1 0) (sym same) (ap (λ l. length (put net r b l)) split ∙ one_put net r b (take (slice_index fewer r) (log_at logs r)) e))
      (λ other.
      let n = ap (λ k. length (put net a b (take k (log_at logs a)))) (get_or-set_other cs r a (slice_index cs r - 1) 0 other) in
      let role = sound_here.role in
      let w = ap {B = ℕ} (λ v. cond v 1 0) (sent_else net a b e (λ x. other (sym x.0 ∙ role))) in
      omega (arith, n, w))
      (cases_eq a r)

  pub taken_down : (a b : ℕ) → taken_within net logs cs a b ≡ taken_within net logs fewer a b + cond {A = ℕ} (takes_on net a b e) 1 0
  taken_down a b = ⊎_elim
      (λ same. subst (λ q. taken_within net logs cs a q ≡ taken_within net logs fewer a q + cond {A = ℕ} (takes_on net a q e) 1 0) (sym same) (ap (λ l. length (taken net a r l)) split ∙ one_taken net a r (take (slice_index fewer r) (log_at logs r)) e))
      (λ other.
      let n = ap (λ k. length (taken net a b (take k (log_at logs b)))) (get_or-set_other cs r b (slice_index cs r - 1) 0 other) in
      let role = sound_here.role in
      let w = ap {B = ℕ} (λ v. cond v 1 0) (got_else net a b e (λ x. other (sym x.1 ∙ role))) in
      omega (arith, n, w))
      (cases_eq b r)

  low : e.role < 8
  low = let role = sound_here.role in omega (arith, role, here, few)

  declared : e.role < length logs
  declared = let role = sound_here.role in omega (arith, role, here)

  module _ (put_on taken_from : List ℕ) (a : AreCounted net logs cs put_on taken_from) (to place : ℕ) where
    module _ (sent : e.dir ≡ Sent) (to_is : to ≡ net.receiver e.point) (place_is : place ≡ between e.role to) where
      low_to : to < 8
      low_to = let s = sound_here.receiver in omega (arith, to_is, s)

      weight : cond {A = ℕ} (puts_on net e.role to e) 1 0 ≡ 1
      weight = ap {B = ℕ} (λ v. cond v 1 0) (sent_here net e.role to e sent refl (sym to_is))

      pub sent_lowered : AreCounted net logs fewer (slice_set put_on place (slice_index put_on place - 1)) taken_from
      sent_lowered = record {
        eight = length-set cs r (slice_index cs r - 1) ∙ eight;
        as_many_put = length-set put_on place (slice_index put_on place - 1) ∙ a.as_many_put;
        as_many_taken = a.as_many_taken;
        made = λ q. let x = lower_now q in let y = a.made q in omega (arith, x, y);
        put_is = λ p q lp lq. ⊎_elim
            (λ same.
            ⊎_elim (λ same_to. subst (λ y. slice_index (slice_set put_on place (slice_index put_on place - 1)) (between p y) ≡ put_within net logs fewer p y) (sym same_to) (subst (λ x. slice_index (slice_set put_on place (slice_index put_on place - 1)) (between x to) ≡ put_within net logs fewer x to) (sym same) (own (omega (arith, lq, same_to)))))
            (λ other. else p q lp lq (λ x. other (sym x.1)))
            (cases_eq q to))
            (λ other. else p q lp lq (λ x. other (sym x.0)))
            (cases_eq p e.role);
        taken_is = λ p q lp lq. let is = a.taken_is p q lp lq in let down = taken_down p q in let w = ap {B = ℕ} (λ v. cond v 1 0) (not_taken net p q e sent) in omega (arith, is, down, w);
      }
        where
          own : to < length logs → slice_index (slice_set put_on place (slice_index put_on place - 1)) (between e.role to) ≡ put_within net logs fewer e.role to
          own lt =
              let there = get_or-set_at put_on place (between e.role to) (slice_index put_on place - 1) 0 (sym place_is) (let n = a.as_many_put in let x = low in let y = low_to in omega (arith, place_is, n, x, y)) in
              let is = ap (slice_index put_on) place_is ∙ a.put_is e.role to declared lt in
              let down = put_down e.role to in
              let w = weight in
              omega (arith, there, is, down, w)

          else : (p q : ℕ) → p < length logs → q < length logs → ((e.role ≡ p) × (to ≡ q) → ⊥) → slice_index (slice_set put_on place (slice_index put_on place - 1)) (between p q) ≡ put_within net logs fewer p q
          else p q lp lq other =
              let there = get_or-set_other put_on place (between p q) (slice_index put_on place - 1) 0 (λ x. apart e.role to p q low low_to (omega (arith, lp, few)) (omega (arith, lq, few)) other (x ∙ place_is)) in
              let is = a.put_is p q lp lq in
              let down = put_down p q in
              let w = ap {B = ℕ} (λ v. cond v 1 0) (sent_else net p q e (λ x. other (x.0, to_is ∙ x.1))) in
              omega (arith, there, is, down, w)

    module _ (got : e.dir ≡ Got) (to_is : to ≡ net.sender e.point) (place_is : place ≡ between to e.role) where
      low_from : to < 8
      low_from = let s = sound_here.sender in omega (arith, to_is, s)

      load : cond {A = ℕ} (takes_on net to e.role e) 1 0 ≡ 1
      load = ap {B = ℕ} (λ v. cond v 1 0) (got_here net to e.role e got (sym to_is) refl)

      pub got_lowered : AreCounted net logs fewer put_on (slice_set taken_from place (slice_index taken_from place - 1))
      got_lowered = record {
        eight = length-set cs r (slice_index cs r - 1) ∙ eight;
        as_many_put = a.as_many_put;
        as_many_taken = length-set taken_from place (slice_index taken_from place - 1) ∙ a.as_many_taken;
        made = λ q. let x = lower_now q in let y = a.made q in omega (arith, x, y);
        put_is = λ p q lp lq. let is = a.put_is p q lp lq in let down = put_down p q in let w = ap {B = ℕ} (λ v. cond v 1 0) (no_put net p q e got) in omega (arith, is, down, w);
        taken_is = λ p q lp lq. ⊎_elim
            (λ same.
            ⊎_elim (λ same_from. subst (λ x. slice_index (slice_set taken_from place (slice_index taken_from place - 1)) (between x q) ≡ taken_within net logs fewer x q) (sym same_from) (subst (λ y. slice_index (slice_set taken_from place (slice_index taken_from place - 1)) (between to y) ≡ taken_within net logs fewer to y) (sym same) (own (omega (arith, lp, same_from)))))
            (λ other. else p q lp lq (λ x. other (sym x.0)))
            (cases_eq p to))
            (λ other. else p q lp lq (λ x. other (sym x.1)))
            (cases_eq q e.role);
      }
        where
          own : to < length logs → slice_index (slice_set taken_from place (slice_index taken_from place - 1)) (between to e.role) ≡ taken_within net logs fewer to e.role
          own lt =
              let there = get_or-set_at taken_from place (between to e.role) (slice_index taken_from place - 1) 0 (sym place_is) (let n = a.as_many_taken in let x = low in let y = low_from in omega (arith, place_is, n, x, y)) in
              let is = ap (slice_index taken_from) place_is ∙ a.taken_is to e.role lt declared in
              let down = taken_down to e.role in
              let w = load in
              omega (arith, there, is, down, w)

          else : (p q : ℕ) → p < length logs → q < length logs → ((to ≡ p) × (e.role ≡ q) → ⊥) → slice_index (slice_set taken_from place (slice_index taken_from place - 1)) (between p q) ≡ taken_within net logs fewer p q
          else p q lp lq other =
              let there = get_or-set_other taken_from place (between p q) (slice_index taken_from place - 1) 0 (λ x. apart to e.role p q low_from low (omega (arith, lp, few)) (omega (arith, lq, few)) other (x ∙ place_is)) in
              let is = a.taken_is p q lp lq in
              let down = taken_down p q in
              let w = ap {B = ℕ} (λ v. cond v 1 0) (got_else net p q e (λ x. other (to_is ∙ x.0, x.1))) in
              omega (arith, there, is, down, w)
