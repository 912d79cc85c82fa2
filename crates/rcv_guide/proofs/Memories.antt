-- What a guide's numbers and logs say of any of its memories.
use Rattle.std.proofs.Common.{◌≡◌, ℕ, zero, suc, ◌+◌, ◌-◌, ◌<◌, ◌≤◌, Bool, true, false, Some, List, [], ◌∷◌, length, drop, sym, ◌∙◌, ap, subst, arith}
use Rattle.std.specs.Prelude.{max, Result, Ok, Err, IsOk, OnOk, is_err, slice_get, slice_index}
use Rattle.std.proofs.lemmas.Option.{slice_get-get_or, get_or_from_slice_get}
use Rattle.rcv_tree.specs.declared.event.Event.{Event}
use Rattle.rcv_tree.specs.declared.event.Message.{Message}
use Rattle.rcv_model.specs.Run.{Act, acts, place_of, put, taken, channel}
use Rattle.rcv_model.specs.Next.{IsNext}
use Rattle.rcv_model.proofs.Bystanders.{as_many}
use Rattle.rcv_model.proofs.Keeping.{acts_through, put_through, taken_through}
use Rattle.rcv_model.proofs.Lists.{some_same}
use Rattle.rcv_ledger.specs.Logs.{log_at}
use Rattle.rcv_ledger.proofs.Lists.{none_there}
use Rattle.rcv_told.specs.Told.{Remembered, down_at, standpoint, place, made, IsSend, IsRecv}
use Rattle.rcv_told.proofs.Telling.{down_here as down_told}
use Rattle.rcv_guide.specs.declared.numbers.Numbers.{Numbers}
use Rattle.rcv_guide.specs.Numbers.{at_start, numbers_at, down_of, AreNumbersOf}
use Rattle.rcv_guide.specs.Guide.{GuideView, net_for, roles_of, stand, in_channel, IsMemory}

-- whether a role is down is known of those that have numbers
pub down_there : (xs : List Numbers) (r : ℕ) (b : Bool) → down_of (slice_get xs r) ≡ Some b → (r < length xs) × ((numbers_at xs r).down ≡ b)
down_there [] r b e = absurd (cc)
down_there (x ∷ xs) zero b e = (omega arith, some_same e)
down_there (x ∷ xs) (suc r) b e = let d = down_there xs r b e in (let lt = d.0 in omega (arith, lt), d.1)

pub down_here : (xs : List Numbers) (r : ℕ) → r < length xs → down_of (slice_get xs r) ≡ Some (numbers_at xs r).down
down_here xs r lt = ap down_of (slice_get-get_or xs r at_start lt)

pub true_or_false : true ≡ false → ⊥
true_or_false e = absurd (cc)

-- what follows from success
pub on_success : {T E : Type 0} (P Q : Type 0) (result : Result T E) → (P → Q) → OnOk result P → OnOk result Q
on_success P Q (Ok x) f p = f p
on_success P Q (Err e) f p = tt

-- what succeeds doesn't fail
pub not_err : {T E : Type 0} (result : Result T E) → IsOk result → true ≡ is_err result → ⊥
not_err (Ok x) ok err = absurd (cc)
not_err (Err e) ok err = absurd (cc)

module _ (g : GuideView) (m : Remembered) (is : IsMemory g m) where
  -- a role's events are its log
  pub acts_held : (r : ℕ) → acts r m.held ≡ acts r (log_at g.logs r)
  acts_held r = acts_through r m.held ∙ ap (acts r) (is.events r)

  pub many_held : (r : ℕ) → length (acts r m.held) ≡ length (log_at g.logs r)
  many_held r = as_many r m.held ∙ ap length (is.events r)

  pub put_held : (a b : ℕ) → put (net_for g) a b m.held ≡ put (net_for g) a b (log_at g.logs a)
  put_held a b = put_through (net_for g) a b m.held ∙ ap (put (net_for g) a b) (is.events a)

  pub taken_held : (a b : ℕ) → taken (net_for g) a b m.held ≡ taken (net_for g) a b (log_at g.logs b)
  taken_held a b = taken_through (net_for g) a b m.held ∙ ap (taken (net_for g) a b) (is.events b)

  pub lies : (a b : ℕ) → channel (net_for g) a b m.held ≡ in_channel g a b
  lies a b =
      ap (λ (l : List Message). drop (length l) (put (net_for g) a b m.held)) (taken_held a b)
      ∙ ap (drop (length (taken (net_for g) a b (log_at g.logs b)))) (put_held a b)

  -- the numbers of a declared role
  module _ (r : ℕ) (lt : r < roles_of g) where
    own : AreNumbersOf m r (numbers_at g.numbers r)
    own = is.numbers_are.each r lt

    pub seeds_at : slice_index m.seeds r ≡ (numbers_at g.numbers r).seeds
    seeds_at = get_or_from_slice_get m.seeds r (numbers_at g.numbers r).seeds 0 own.seeds

    pub forgotten_at : slice_index m.forgotten r ≡ (numbers_at g.numbers r).forgotten
    forgotten_at = get_or_from_slice_get m.forgotten r (numbers_at g.numbers r).forgotten 0 own.forgotten

    pub point_at : slice_index m.points r ≡ (numbers_at g.numbers r).point
    point_at = get_or_from_slice_get m.points r (numbers_at g.numbers r).point 0 own.point

    pub place_at : place m r ≡ (stand g r).place
    place_at =
        ap (λ k. place_of k (drop (slice_index m.seeds r) (acts r m.held))) point_at
        ∙ ap (λ k. place_of (numbers_at g.numbers r).point (drop k (acts r m.held))) seeds_at
        ∙ ap (λ (l : List Act). place_of (numbers_at g.numbers r).point (drop (numbers_at g.numbers r).seeds l)) (acts_held r)

    pub made_at : made m r ≡ (numbers_at g.numbers r).forgotten + (length (log_at g.logs r) - (numbers_at g.numbers r).seeds)
    made_at =
        let a = seeds_at in
        let b = forgotten_at in
        let c = many_held r in
        omega (arith, a, b, c)

  -- of another role nothing is known
  pub no_forgotten : (r : ℕ) → roles_of g ≤ r → slice_index m.forgotten r ≡ 0
  no_forgotten r le = none_there m.forgotten r 0 (let a = is.numbers_are.have.forgotten in omega (arith, a, le))

  pub no_seeds : (r : ℕ) → roles_of g ≤ r → slice_index m.seeds r ≡ 0
  no_seeds r le = none_there m.seeds r 0 (let a = is.numbers_are.have.seeds in omega (arith, a, le))

  -- whether it is down
  pub declared_by : (r : ℕ) (b : Bool) → (stand g r).down ≡ Some b → r < roles_of g
  declared_by r b e = let d = down_there g.numbers r b e in let lt = d.0 in let a = is.numbers_are.all in omega (arith, lt, a)

  pub down_held : (r : ℕ) (b : Bool) → (stand g r).down ≡ Some b → down_at m r ≡ Some b
  down_held r b e =
      let lt = declared_by r b e in
      let a = is.numbers_are.have.numbers in
      down_told m.roles r (omega (arith, lt, a)) ∙ ap Some ((is.numbers_are.each r lt).down ∙ (down_there g.numbers r b e).1)

  -- what may be told to the guide may be told to the memory
  pub tells_send : (e : Event) → IsSend (net_for g) (stand g e.role) e → IsSend (net_for g) (standpoint (net_for g) m e.role) e
  tells_send e may =
      let lt = declared_by e.role false may.up in
      record {
        up = down_held e.role false may.up;
        next = subst (λ k. IsNext (net_for g) e.role k e.point) (sym (place_at e.role lt)) may.next;
        sends = may.sends;
        is_send = may.is_send;
        stamp = may.stamp ∙ ap (λ c. c + 1) (sym (is.numbers_are.each e.role lt).clock);
        sent = may.sent;
      }

  pub tells_recv : (e : Event) → IsRecv (net_for g) (stand g e.role) e → IsRecv (net_for g) (standpoint (net_for g) m e.role) e
  tells_recv e may =
      let lt = declared_by e.role false may.up in
      record {
        up = down_held e.role false may.up;
        next = subst (λ k. IsNext (net_for g) e.role k e.point) (sym (place_at e.role lt)) may.next;
        receives = may.receives;
        is_recv = may.is_recv;
        front = (may.front.0, lies ((net_for g).sender e.point) e.role ∙ may.front.1);
        stamp = may.stamp ∙ ap (λ c. max c e.sent + 1) (sym (is.numbers_are.each e.role lt).clock);
      }
