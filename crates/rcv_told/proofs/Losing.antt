-- A failure that loses nothing forgotten is the same for both memories, and leaves one that is the shorter of two.
use Rattle.std.proofs.Common.{◌≡◌, ℕ, ◌+◌, ◌-◌, ◌≤◌, Bool, true, false, cond, Option, List, length, refl, sym, ◌∙◌, ap, ◌⊎◌, inl, inr, ⊎_elim, arith, eq-eqb, ne_eqb}
use Rattle.std.specs.Prelude.{◌==◌, slice_get, slice_index}
use Rattle.std.proofs.lemmas.Bool.{cases_eq}
use Rattle.rcv_tree.specs.Bits.{is_listed}
use Rattle.rcv_tree.specs.declared.event.Event.{Event}
use Rattle.rcv_tree.specs.declared.numbers.Numbers.{Numbers}
use Rattle.rcv_model.specs.Net.{Net, IsIn}
use Rattle.rcv_model.specs.Run.{acts}
use Rattle.rcv_model.specs.Table.{point_of, start_of, IsConcernedByAny}
use Rattle.rcv_model.specs.Journal.{numbers_at, clock_behind, map_roles, numbers_behind}
use Rattle.rcv_model.proofs.Roles.{mapped_alike}
use Rattle.rcv_theory.specs.Counts.{kept_counts}
use Rattle.rcv_told.specs.Told.{Remembered, state_of, made_of, held_of, bound_at, left_at}
use Rattle.rcv_told.specs.Forgetting.{since, IsShorter}
use Rattle.rcv_told.proofs.Memories.{many_old, many_new, old_act, new_act}
use Rattle.rcv_told.proofs.Lengths.{same_losses}
use Rattle.rcv_told.proofs.Staying.{with_held}
use Rattle.rcv_told.proofs.Leaving.{ReachBeyond, kept_alike, left_shorter}

-- Concerned are the same roles where the failed ones start from the same points.
pub concerned_alike : (net : Net) (group : List ℕ) (f g : ℕ → Option ℕ) → ((p : ℕ) → IsIn p group → f p ≡ g p) → (q : ℕ) → IsConcernedByAny net group f q
    → IsConcernedByAny net group g q
concerned_alike net group f g same q (inl i) = inl i
concerned_alike net group f g same q (inr x) = inr (x.0, x.1, x.2, sym (same x.0 x.2) ∙ x.3, x.4)

same_test : (a b c d : ℕ) → (a ≡ b → c ≡ d) → (c ≡ d → a ≡ b) → (a == b) ≡ (c == d)
same_test a b c d to from = ⊎_elim (λ e. eq-eqb a b e ∙ sym (eq-eqb c d (to e))) (λ n. ne_eqb a b n ∙ sym (ne_eqb c d (λ e. n (from e)))) (cases_eq a b)

-- Where these roles are to keep so many of all their events, the counts lose nothing forgotten.
abbrev pub ReachForgotten : Remembered → List ℕ → (ℕ → ℕ) → Type 0
ReachForgotten m roles counts = (q : ℕ) → is_listed roles q ≡ true → slice_index m.forgotten q ≤ counts q

module _ (net : Net) (old new : Remembered) (s : IsShorter net old new) (roles : List ℕ) (counts : ℕ → ℕ) (above : ReachForgotten new roles counts) where
  abbrev longer_left : List Event
  longer_left = left_at net old roles counts

  abbrev shorter_left : List Event
  shorter_left = left_at net new roles counts

  -- How many events behind those that the shorter memory lacks each role may keep.
  abbrev beyond : ℕ → ℕ
  beyond q = counts q - slice_index new.forgotten q

  abbrev spare : ℕ → ℕ
  spare q = cond (is_listed roles q) (beyond q) (length (since new q))

  bounds : ReachBeyond old new s.gone (bound_at old roles counts) (bound_at new roles counts) spare
  bounds = record { longer = λ q. longer q (is_listed roles q) refl; shorter = λ q. shorter q (is_listed roles q) refl }
    where
      longer : (q : ℕ) (b : Bool) → is_listed roles q ≡ b
          → cond b (held_of old counts q) (length (acts q old.held))
          ≡ slice_index old.seeds q + s.gone q + cond b (beyond q) (length (since new q))
      longer q true t = let a = above q t in let f = (s.lacks q).forgotten in omega (arith, a, f)
      longer q false t = many_old old new q (s.gone q) (s.lacks q)

      shorter : (q : ℕ) (b : Bool) → is_listed roles q ≡ b
          → cond b (held_of new counts q) (length (acts q new.held)) ≡ slice_index new.seeds q + cond b (beyond q) (length (since new q))
      shorter q true t = refl
      shorter q false t = many_new old new q (s.gone q) (s.lacks q)

  -- What is left of both.
  pub failed_shorter : IsShorter net (with_held old longer_left) (with_held new shorter_left)
  failed_shorter = left_shorter net old new s (bound_at old roles counts) (bound_at new roles counts) spare bounds

  abbrev more : ℕ → ℕ
  more r = kept_counts net (bound_at new roles counts) new.held r - slice_index new.seeds r

  alike : ReachBeyond old new s.gone (kept_counts net (bound_at old roles counts) old.held) (kept_counts net (bound_at new roles counts) new.held) more
  alike = kept_alike net old new s (bound_at old roles counts) (bound_at new roles counts) spare bounds

  pub made_alike : (r : ℕ) → made_of new shorter_left r ≡ made_of old longer_left r
  made_alike r = let a = alike.longer r in let b = alike.shorter r in let f = (s.lacks r).forgotten in omega (arith, a, b, f)

  pub lost_alike : length longer_left + length new.held ≡ length shorter_left + length old.held
  lost_alike = same_losses longer_left old.held shorter_left new.held (λ r.
      let a = alike.longer r in
      let b = alike.shorter r in
      let m = many_old old new r (s.gone r) (s.lacks r) in
      let n = many_new old new r (s.gone r) (s.lacks r) in
      omega (arith, a, b, m, n))

  lost_none : (r : ℕ) → (length (acts r longer_left) == length (acts r old.held)) ≡ (length (acts r shorter_left) == length (acts r new.held))
  lost_none r =
      let a = alike.longer r in
      let b = alike.shorter r in
      let m = many_old old new r (s.gone r) (s.lacks r) in
      let n = many_new old new r (s.gone r) (s.lacks r) in
      same_test (length (acts r longer_left)) (length (acts r old.held)) (length (acts r shorter_left)) (length (acts r new.held))
      (λ e. omega (arith, a, b, m, n, e)) (λ e. omega (arith, a, b, m, n, e))

  -- And what it makes of the same numbers.
  pub numbers_alike : (group : List ℕ) → map_roles (numbers_behind (state_of new) group roles shorter_left) 0 new.roles
      ≡ map_roles (numbers_behind (state_of old) group roles longer_left) 0 old.roles
  numbers_alike group =
      mapped_alike (behind new.roles shorter_left new.held) (behind new.roles longer_left old.held) 0 new.roles (λ i lt. each (0 + i) (numbers_at new.roles i))
      ∙ ap (λ l. map_roles (behind l longer_left old.held) 0 l) s.roles
    where
      behind : List Numbers → List Event → List Event → ℕ → Numbers → Numbers
      behind all left held r n = numbers_behind (record { kept = held; roles = all }) group roles left r n

      each : (r : ℕ) (n : Numbers) → behind new.roles shorter_left new.held r n ≡ behind new.roles longer_left old.held r n
      each r n = ap (λ b. record n {
        crashed = cond (is_listed group r) false n.crashed;
        attempt = cond b n.attempt (n.attempt + 1);
        clock = clock_behind new.roles (is_listed roles) r n;
      }) (sym (lost_none r))

  -- A failed role starts from the same point.
  pub starts_alike : (q : ℕ) → is_listed roles q ≡ true → start_of (held_of new counts) new.held q ≡ start_of (held_of old counts) old.held q
  starts_alike q t =
      let a = above q t in
      let f = (s.lacks q).forgotten in
      let i : held_of old counts q ≡ slice_index old.seeds q + s.gone q + beyond q = omega (arith, a, f) in
      ap point_of (new_act old new q (s.gone q) (s.lacks q) (beyond q)
      ∙ sym (old_act old new q (s.gone q) (s.lacks q) (beyond q))
      ∙ ap (slice_get (acts q old.held)) (sym i))
