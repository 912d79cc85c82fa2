-- What a recovery leaves of a guide's counts.
use Rattle.std.proofs.Common.{◌≡◌, ℕ, ◌+◌, ◌<◌, ◌≤◌, Bool, List, length, ◌∙◌, ap, length-take-le, arith}
use Rattle.std.specs.Prelude.{◌||◌, nat_lt, if◌then◌else◌, slice_index}
use Rattle.rcv_tree.specs.Bits.{has_bit, is_listed}
use Rattle.rcv_model.specs.Run.{acts}
use Rattle.rcv_model.specs.Journal.{events_of}
use Rattle.rcv_model.proofs.Bystanders.{as_many}
use Rattle.rcv_model.proofs.Lists.{prefix_length}
use Rattle.rcv_theory.proofs.Counting.{begins}
use Rattle.rcv_plan.specs.Plans.{IsGroup}
use Rattle.rcv_ledger.specs.Logs.{log_at}
use Rattle.rcv_saves.specs.Counts.{up_to}
use Rattle.rcv_saves.specs.Saves.{SavesView, told_of}
use Rattle.rcv_told.specs.Told.{Remembered, group_of, bound_at}
use Rattle.rcv_guide.specs.declared.numbers.Numbers.{Numbers}
use Rattle.rcv_guide.specs.declared.recovery.Recovery.{Recovery}
use Rattle.rcv_guide.specs.Numbers.{numbers_at}
use Rattle.rcv_guide.specs.Guide.{GuideView, net_for, roles_of, terms_of, IsMemory, left_in, IsFailureOf, HasRecovered}
use Rattle.rcv_guide.proofs.Memories.{forgotten_at, seeds_at}
use Rattle.rcv_guided.specs.Session.{made_in}
use Rattle.rcv_guided.specs.Failures.{goes_back, AreCut, AreRaised}

module _ (old new : GuideView) (p : ℕ) (saved : List ℕ) (back : Recovery) (m : Remembered) (is : IsMemory old m) (failure : IsFailureOf old p saved back) (recovered : HasRecovered old new p saved back) where
  own : (r : ℕ) → r < roles_of old → r < length old.numbers
  own r lt = let a = is.numbers_are.all in omega (arith, a, lt)

  pub same_forgotten : (r : ℕ) → r < roles_of old → (numbers_at new.numbers r).forgotten ≡ (numbers_at old.numbers r).forgotten
  same_forgotten r lt = ap (λ (x : Numbers). x.forgotten) (recovered.gone.numbers.each r (own r lt))

  same_seeds : (r : ℕ) → r < roles_of old → (numbers_at new.numbers r).seeds ≡ (numbers_at old.numbers r).seeds
  same_seeds r lt = ap (λ (x : Numbers). x.seeds) (recovered.gone.numbers.each r (own r lt))

  left_within : (r : ℕ) → length (acts r (left_in old m p saved)) ≤ length (log_at old.logs r)
  left_within r =
      let a = prefix_length (events_of r (left_in old m p saved)) (events_of r m.held) (begins (net_for old) (bound_at m (group_of (terms_of old) p) (slice_index saved)) m.held is.queued r) in
      let b = as_many r (left_in old m p saved) in
      let c = ap length (is.events r) in
      omega (arith, a, b, c)

  -- each role keeps what the recovery says
  pub kept_is : (r : ℕ) → r < roles_of old → slice_index back.kept r ≡ made_in new r
  kept_is r lt =
      let told = (failure.tells m is).counts r lt in
      let left = recovered.left_is m is r in
      let within = left_within r in
      let log = ap length (recovered.gone.log r) in
      let size = length-take-le (slice_index recovered.left r) (log_at old.logs r) (omega (arith, left, within)) in
      let f = forgotten_at old m is r lt in
      let s = seeds_at old m is r lt in
      let nf = same_forgotten r lt in
      let ns = same_seeds r lt in
      omega (arith, told, left, log, size, f, s, nf, ns)

  -- and who goes back is of the group, or keeps less than before
  pub goes : (group bits : ℕ) (before : List ℕ) → roles_of old ≤ 8 → IsGroup old.plan p group
      → ((r : ℕ) → r < roles_of old → slice_index before r ≡ made_in old r)
      → ((r : ℕ) → r < 8 → has_bit bits r ≡ (has_bit group r || nat_lt (slice_index back.kept r) (slice_index before r)))
      → (r : ℕ) → r < roles_of old → has_bit bits r ≡ goes_back old new p r
  goes group bits before few is_group made_before who r lt =
      let low : r < 8 = omega (arith, few, lt) in
      who r low
      ∙ ap (λ b. b || nat_lt (slice_index back.kept r) (slice_index before r)) (is_group r low)
      ∙ ap (λ n. is_listed (group_of (terms_of old) p) r || nat_lt n (slice_index before r)) (kept_is r lt)
      ∙ ap (λ n. is_listed (group_of (terms_of old) p) r || nat_lt (made_in new r) n) (made_before r lt)

-- Counts and tests that agree on the roles.
pub cut_by : (old new : SavesView) (roles : ℕ) (f g : ℕ → ℕ) → ((r : ℕ) → r < roles → f r ≡ g r) → AreCut old new roles f → AreCut old new roles g
cut_by old new roles f g same are = record {
  steps = are.steps;
  all = are.all;
  cut = λ r lt. are.cut r lt ∙ ap (λ n. up_to n (told_of old r)) (same r lt);
}

pub raised_by : (old new : List ℕ) (f g : ℕ → Bool) → ((r : ℕ) → r < length old → f r ≡ g r) → AreRaised old new f → AreRaised old new g
raised_by old new f g same are = record {
  all = are.all;
  each = λ r lt. are.each r lt ∙ ap (λ b. if b then slice_index old r + 1 else slice_index old r) (same r lt);
}
