-- A role's remembered events: those of which only messages are left, and the others; and what a shorter memory lacks of them.
use Prim.Native.Nat.{zero, suc}
use Rattle.std.proofs.Common.{◌≡◌, ℕ, ◌+◌, ◌-◌, Bool, true, false, cond, Some, None, List, [], ◌∷◌, ◌++◌, length, take, drop, refl, sym, ◌∙◌, ap, append_assoc, arith, length-append, length-drop, length-take-le}
use Rattle.std.specs.Prelude.{◌==◌, slice_get, slice_index}
use Rattle.std.specs.List.{cons_option}
use Rattle.std.proofs.lemmas.List.{take-append-drop}
use Rattle.std.proofs.lemmas.List.Elements.{filter_map-append}
use Rattle.rcv_tree.specs.declared.event.Event.{Event}
use Rattle.rcv_model.specs.Net.{Net}
use Rattle.rcv_model.specs.Run.{Act, act_of, acts, place_of, put, taken, put_by, taken_by}
use Rattle.rcv_model.specs.Journal.{events_of}
use Rattle.rcv_model.proofs.Keeping.{by_role, acts_through, put_through, taken_through}
use Rattle.rcv_model.proofs.Bystanders.{as_many}
use Rattle.rcv_told.specs.Told.{Remembered, place}
use Rattle.rcv_told.specs.Forgetting.{since, seeds_of, Lacks, lacked}

-- What joined lists put on a channel, take from it, and do.
pub put_join : (net : Net) (a b : ℕ) (xs ys : List Event) → put net a b (xs ++ ys) ≡ put net a b xs ++ put net a b ys
put_join net a b xs ys = filter_map-append (put_by net a b) xs ys

pub taken_join : (net : Net) (a b : ℕ) (xs ys : List Event) → taken net a b (xs ++ ys) ≡ taken net a b xs ++ taken net a b ys
taken_join net a b xs ys = filter_map-append (taken_by net a b) xs ys

pub acts_join : (r : ℕ) (xs ys : List Event) → acts r (xs ++ ys) ≡ acts r xs ++ acts r ys
acts_join r xs ys = filter_map-append (act_of r) xs ys

pub place_join : (k : ℕ) (xs ys : List Act) → place_of k (xs ++ ys) ≡ place_of (place_of k xs) ys
place_join k [] ys = refl
place_join k (a ∷ xs) ys = place_join a.point xs ys

-- Places of the second of two joined lists.
pub get_behind : {A : Type 0} (xs ys : List A) (i : ℕ) → slice_get (xs ++ ys) (length xs + i) ≡ slice_get ys i
get_behind [] ys i = ap (slice_get ys) (omega arith)
get_behind (x ∷ xs) ys i = ap (slice_get (x ∷ (xs ++ ys))) e ∙ get_behind xs ys i
  where
    e : suc (length xs) + i ≡ suc (length xs + i)
    e = omega arith

-- Behind its first acts stand those of the events behind its first ones.
pub drop_acts : (r n : ℕ) (h : List Event) → drop n (acts r h) ≡ acts r (drop n (by_role r h))
drop_acts r zero h = acts_through r h
drop_acts r (suc n) [] = refl
drop_acts r (suc n) (e ∷ h) = go (e.role == r) (drop_acts r n h) (drop_acts r (suc n) h)
  where
    go : (b : Bool) → drop n (acts r h) ≡ acts r (drop n (by_role r h)) → drop (suc n) (acts r h) ≡ acts r (drop (suc n) (by_role r h))
        → drop (suc n) (cons_option (cond b (Some (record { dir = e.dir; point = e.point })) None) (acts r h))
        ≡ acts r (drop (suc n) (cond b (e ∷ by_role r h) (by_role r h)))
    go true own other = own
    go false own other = other

-- A role has an act for each of its events.
pub acts_many : (r n : ℕ) (h : List Event) → length (acts r (drop n (by_role r h))) ≡ length (drop n (by_role r h))
acts_many r n h = ap length (sym (drop_acts r n h)) ∙ length-drop n (acts r h) ∙ ap (λ k. k - n) (as_many r h) ∙ sym (length-drop n (by_role r h))

module _ (m : Remembered) where
  pub place_since : (r : ℕ) → place m r ≡ place_of (slice_index m.points r) (acts r (since m r))
  place_since r = ap (place_of (slice_index m.points r)) (drop_acts r (slice_index m.seeds r) m.held)

  pub events_split : (r : ℕ) → events_of r m.held ≡ seeds_of m r ++ since m r
  events_split r = sym (take-append-drop (slice_index m.seeds r) (events_of r m.held))

  pub put_split : (net : Net) (a b : ℕ) → put net a b m.held ≡ put net a b (seeds_of m a) ++ put net a b (since m a)
  put_split net a b = put_through net a b m.held ∙ ap (put net a b) (events_split a) ∙ put_join net a b (seeds_of m a) (since m a)

  pub taken_split : (net : Net) (a b : ℕ) → taken net a b m.held ≡ taken net a b (seeds_of m b) ++ taken net a b (since m b)
  taken_split net a b = taken_through net a b m.held ∙ ap (taken net a b) (events_split b) ∙ taken_join net a b (seeds_of m b) (since m b)

-- The events of a role in the longer memory: what the shorter one lacks, and what both have.
module _ (old new : Remembered) (r gone : ℕ) (l : Lacks old new r gone) where
  pub since_split : since old r ≡ take gone (since old r) ++ since new r
  since_split = sym (take-append-drop gone (since old r)) ∙ ap (λ xs. take gone (since old r) ++ xs) (sym l.since_is)

  pub old_events : events_of r old.held ≡ lacked old r gone ++ since new r
  old_events =
      events_split old r
      ∙ ap (λ xs. seeds_of old r ++ xs) since_split
      ∙ sym (append_assoc (seeds_of old r) (take gone (since old r)) (since new r))

  pub many_lacked : length (lacked old r gone) ≡ slice_index old.seeds r + gone
  many_lacked =
      let a = length-append (seeds_of old r) (take gone (since old r)) in
      let b = length-take-le (slice_index old.seeds r) (events_of r old.held) l.old_seeds in
      let c = length-take-le gone (since old r) l.enough in
      omega (arith, a, b, c)

  pub same_place : place new r ≡ place old r
  same_place =
      place_since new r
      ∙ ap (λ k. place_of k (acts r (since new r))) l.point
      ∙ sym (place_join (slice_index old.points r) (acts r (take gone (since old r))) (acts r (since new r)))
      ∙ ap (place_of (slice_index old.points r)) (sym (acts_join r (take gone (since old r)) (since new r)) ∙ ap (acts r) (sym since_split))
      ∙ sym (place_since old r)

  pub many_old : length (acts r old.held) ≡ slice_index old.seeds r + gone + length (since new r)
  many_old =
      let a = as_many r old.held in
      let b = l.old_seeds in
      let c = l.enough in
      let d = length-drop (slice_index old.seeds r) (events_of r old.held) in
      let e = ap length l.since_is ∙ length-drop gone (since old r) in
      omega (arith, a, b, c, d, e)

  -- An act behind the lacked ones is the same in both.
  pub old_act : (k : ℕ) → slice_get (acts r old.held) (slice_index old.seeds r + gone + k) ≡ slice_get (acts r (since new r)) k
  old_act k =
      let whole : acts r old.held ≡ acts r (lacked old r gone) ++ acts r (since new r) =
      acts_through r old.held ∙ ap (acts r) old_events ∙ acts_join r (lacked old r gone) (since new r) in
      let n = ap length whole in
      let m = length-append (acts r (lacked old r gone)) (acts r (since new r)) in
      let o = acts_many r (slice_index new.seeds r) new.held in
      let i : slice_index old.seeds r + gone + k ≡ length (acts r (lacked old r gone)) + k = omega (arith, n, m, o, many_old) in
      ap (λ x. slice_get x (slice_index old.seeds r + gone + k)) whole
      ∙ ap (slice_get (acts r (lacked old r gone) ++ acts r (since new r))) i
      ∙ get_behind (acts r (lacked old r gone)) (acts r (since new r)) k

  pub many_new : length (acts r new.held) ≡ slice_index new.seeds r + length (since new r)
  many_new =
      let a = as_many r new.held in
      let b = l.new_seeds in
      let d = length-drop (slice_index new.seeds r) (events_of r new.held) in
      omega (arith, a, b, d)

  pub new_act : (k : ℕ) → slice_get (acts r new.held) (slice_index new.seeds r + k) ≡ slice_get (acts r (since new r)) k
  new_act k =
      let whole : acts r new.held ≡ acts r (seeds_of new r) ++ acts r (since new r) =
      acts_through r new.held ∙ ap (acts r) (events_split new r) ∙ acts_join r (seeds_of new r) (since new r) in
      let n = ap length whole in
      let m = length-append (acts r (seeds_of new r)) (acts r (since new r)) in
      let o = acts_many r (slice_index new.seeds r) new.held in
      let i : slice_index new.seeds r + k ≡ length (acts r (seeds_of new r)) + k = omega (arith, n, m, o, many_new) in
      ap (λ x. slice_get x (slice_index new.seeds r + k)) whole
      ∙ ap (slice_get (acts r (seeds_of new r) ++ acts r (since new r))) i
      ∙ get_behind (acts r (seeds_of new r)) (acts r (since new r)) k
