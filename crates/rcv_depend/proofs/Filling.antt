-- All events are counted, role by role, and then channel by channel.
use Rattle.std.proofs.Common.{◌≡◌, ℕ, ◌+◌, ◌<◌, ◌≤◌, List, [], length, length-set, take, refl, sym, ◌∙◌, ap, subst, ⊎_elim, arith}
use Rattle.std.specs.Prelude.{slice_index, slice_set}
use Rattle.std.proofs.Math.Seq.{take-length}
use Rattle.std.proofs.lemmas.Bool.{cases_eq, cases_lt}
use Rattle.std.proofs.lemmas.List.{get_or_past, get_or-set_other}
use Rattle.std.proofs.lemmas.Grind.{get_or-set_at}
use Rattle.rcv_tree.specs.declared.event.Event.{Event}
use Rattle.rcv_model.specs.Net.{Net}
use Rattle.rcv_model.specs.Run.{put, taken}
use Rattle.rcv_depend.specs.Logs.{between, log_at}
use Rattle.rcv_depend.specs.declared.cut.Counted.{Counted}
use Rattle.rcv_depend.specs.Cuts.{IsCounted}

-- The roles before this one are counted, and no other.
pub record IsFilled (logs : List (List Event)) (cut : Counted) (role : ℕ) : Type 0 where
  pub eight : length cut.counts ≡ 8
  pub as_many_put : length cut.put ≡ 64
  pub as_many_taken : length cut.taken ≡ 64
  pub before : (r : ℕ) → r < role → slice_index cut.counts r ≡ length (log_at logs r)
  pub behind : (r : ℕ) → role ≤ r → slice_index cut.counts r ≡ 0

-- All roles are counted, and the channels before this place between two roles with logs.
pub record IsTold (net : Net) (logs : List (List Event)) (cut : Counted) (place : ℕ) : Type 0 where
  pub eight : length cut.counts ≡ 8
  pub as_many_put : length cut.put ≡ 64
  pub as_many_taken : length cut.taken ≡ 64
  pub counts : (r : ℕ) → slice_index cut.counts r ≡ length (log_at logs r)
  pub put_is : (a b : ℕ) → a < length logs → b < length logs → between a b < place → slice_index cut.put (between a b) ≡ length (put net a b (log_at logs a))
  pub taken_is : (a b : ℕ) → a < length logs → b < length logs → between a b < place → slice_index cut.taken (between a b) ≡ length (taken net a b (log_at logs b))

pub one_filled : (logs : List (List Event)) (cut : Counted) (role count : ℕ) → role < 8 → IsFilled logs cut role → count ≡ length (log_at logs role) → IsFilled logs (record { counts = slice_set cut.counts role count; put = cut.put; taken = cut.taken }) (role + 1)
one_filled logs cut role count lt is e = record {
  eight = length-set cut.counts role count ∙ is.eight;
  as_many_put = is.as_many_put;
  as_many_taken = is.as_many_taken;
  before = λ r low. ⊎_elim
      (λ same. subst (λ q. slice_index (slice_set cut.counts role count) q ≡ length (log_at logs q)) (sym same) (get_or-set_at cut.counts role role count 0 refl (let n = is.eight in omega (arith, lt, n)) ∙ e))
      (λ other. get_or-set_other cut.counts role r count 0 other ∙ is.before r (omega (arith, low, other)))
      (cases_eq r role);
  behind = λ r le. get_or-set_other cut.counts role r count 0 (λ x. absurd (omega (arith, le, x))) ∙ is.behind r (omega (arith, le));
}

pub all_filled : (net : Net) (logs : List (List Event)) (cut : Counted) (role : ℕ) → length logs ≤ role → IsFilled logs cut role → IsTold net logs cut 0
all_filled net logs cut role le is = record {
  eight = is.eight;
  as_many_put = is.as_many_put;
  as_many_taken = is.as_many_taken;
  counts = λ r. ⊎_elim
      (λ low. is.before r low)
      (λ high. is.behind r high ∙ sym (ap length (get_or_past logs r [] (omega (arith, le, high)))))
      (cases_lt r role);
  put_is = λ a b la lb lt. absurd (omega (arith, lt));
  taken_is = λ a b la lb lt. absurd (omega (arith, lt));
}

module _ (net : Net) (logs : List (List Event)) (cut : Counted) (from to : ℕ) (few : length logs ≤ 8) (is : IsTold net logs cut (between from to)) where
  pub one_told : (n m : ℕ) → from < length logs → to < length logs → n ≡ length (put net from to (log_at logs from)) → m ≡ length (taken net from to (log_at logs to)) → IsTold net logs (record { counts = cut.counts; put = slice_set cut.put (between from to) n; taken = slice_set cut.taken (between from to) m }) (between from (to + 1))
  one_told n m lf lt put_here taken_here = record {
    eight = is.eight;
    as_many_put = length-set cut.put (between from to) n ∙ is.as_many_put;
    as_many_taken = length-set cut.taken (between from to) m ∙ is.as_many_taken;
    counts = is.counts;
    put_is = λ a b la lb low. ⊎_elim
        (λ same. get_or-set_at cut.put (between from to) (between a b) n 0 same (let k = is.as_many_put in omega (arith, lf, lt, few, k)) ∙ put_here ∙ sym (here a b la lb same (λ x y. length (put net x y (log_at logs x)))))
        (λ other. get_or-set_other cut.put (between from to) (between a b) n 0 other ∙ is.put_is a b la lb (omega (arith, low, other)))
        (cases_eq (between a b) (between from to));
    taken_is = λ a b la lb low. ⊎_elim
        (λ same. get_or-set_at cut.taken (between from to) (between a b) m 0 same (let k = is.as_many_taken in omega (arith, lf, lt, few, k)) ∙ taken_here ∙ sym (here a b la lb same (λ x y. length (taken net x y (log_at logs y)))))
        (λ other. get_or-set_other cut.taken (between from to) (between a b) m 0 other ∙ is.taken_is a b la lb (omega (arith, low, other)))
        (cases_eq (between a b) (between from to));
  }
    where
      here : (a b : ℕ) → a < length logs → b < length logs → between a b ≡ between from to → (f : ℕ → ℕ → ℕ) → f a b ≡ f from to
      here a b la lb same f =
          let x : a ≡ from = omega (arith, la, lb, lf, lt, few, same) in
          let y : b ≡ to = omega (arith, la, lb, lf, lt, few, same) in
          ap (λ k. f k b) x ∙ ap (f from) y

  -- Behind the last role the next sender's begin.
  pub row_told : length logs ≤ to → IsTold net logs cut (between (from + 1) 0)
  row_told le = record {
    eight = is.eight;
    as_many_put = is.as_many_put;
    as_many_taken = is.as_many_taken;
    counts = is.counts;
    put_is = λ a b la lb low. is.put_is a b la lb (omega (arith, low, lb, few, le));
    taken_is = λ a b la lb low. is.taken_is a b la lb (omega (arith, low, lb, few, le));
  }

  pub all_told : length logs ≤ from → IsCounted net logs cut
  all_told le = record {
    eight = is.eight;
    as_many_put = is.as_many_put;
    as_many_taken = is.as_many_taken;
    made = λ r. let a = is.counts r in omega (arith, a);
    put_is = λ a b la lb. is.put_is a b la lb (omega (arith, la, lb, few, le)) ∙ ap (λ l. length (put net a b l)) (whole a);
    taken_is = λ a b la lb. is.taken_is a b la lb (omega (arith, la, lb, few, le)) ∙ ap (λ l. length (taken net a b l)) (whole b);
  }
    where
      whole : (r : ℕ) → log_at logs r ≡ take (slice_index cut.counts r) (log_at logs r)
      whole r = sym (take-length (log_at logs r)) ∙ ap (λ n. take n (log_at logs r)) (sym (is.counts r))
