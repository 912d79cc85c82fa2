-- The same session, where some of what is stable is forgotten.
use Rattle.std.proofs.Common.{◌≡◌, ℕ, zero, suc, ◌+◌, ◌<◌, ◌≤◌, List, [], length, replicate, take, refl, sym, ◌∙◌, ap, subst, arith, add-zero}
use Rattle.std.specs.Prelude.{slice_index}
use Rattle.std.proofs.lemmas.Option.{get_or_from_slice_get}
use Rattle.rcv_tree.specs.declared.protocol.Protocol.{Protocol}
use Rattle.rcv_model.specs.Text.{body_of}
use Rattle.rcv_model.specs.Places.{net_of}
use Rattle.rcv_model.specs.Run.{put, taken}
use Rattle.rcv_told.specs.Told.{Remembered}
use Rattle.rcv_told.specs.Forgetting.{seeds_of, IsShorter}
use Rattle.rcv_told.proofs.Adding.{adds_up}
use Rattle.rcv_saves.specs.Counts.{above}
use Rattle.rcv_saves.specs.Saves.{SavesView, told_of}
use Rattle.rcv_ledger.specs.Logs.{log_at}
use Rattle.rcv_guide.specs.Numbers.{numbers_at}
use Rattle.rcv_guide.specs.Guide.{GuideView, net_for, roles_of, IsMemory, HasMemory, MayForget, HasForgotten}
use Rattle.rcv_guide.specs.Line.{IsLine}
use Rattle.rcv_guided.specs.Session.{SessionView, roles_in, forgotten_of, IsSameSession}
use Rattle.rcv_guided.specs.Room.{HaveForgotten, HasGrown}

pub zero_at : (n r : ℕ) → slice_index (replicate n 0) r ≡ 0
zero_at zero r = refl
zero_at (suc n) zero = refl
zero_at (suc n) (suc r) = zero_at n r

module _ (old : SessionView) (g : GuideView) (saves : SavesView) (counts : List ℕ) (room : ℕ) (line : IsLine old.guide old.saves counts) (forgot : HasForgotten old.guide g counts room) (have : HaveForgotten g old.saves saves) where
  roles_same : roles_of g ≡ roles_in old
  roles_same = ap (λ (x : GuideView). roles_of x) forgot.rest

  pub same_forgotten : IsSameSession old (record old { guide = g; saves = saves })
  same_forgotten = record {
    protocol = ap (λ (x : GuideView). x.protocol) forgot.rest;
    plan = ap (λ (x : GuideView). x.plan) forgot.rest;
    told = ap (λ (x : GuideView). x.told) forgot.rest;
    shorter = forgot.shorter;
    stable = λ other stable r lt. (let e = forgot.gone r lt in let le = stable.greatest counts line.stable r lt in omega (arith, e, le));
    steps = have.steps;
    saved = λ r lt. have.saved r (subst (λ n. r < n) (sym roles_same) lt);
    incarnations = refl;
    restored = refl;
  }

module _ (old mid new : SessionView) (same : IsSameSession old mid) (grown : HasGrown mid new) where
  roles_mid : roles_in mid ≡ roles_in old
  roles_mid = ap (λ (p : Protocol). length p.roles) same.protocol

  -- nothing more is forgotten
  no_more : (r : ℕ) → r < roles_in old → forgotten_of new r ≡ forgotten_of mid r
  no_more r lt = grown.forgotten.gone r (subst (λ n. r < n) (sym roles_mid) lt) ∙ ap (λ n. forgotten_of mid r + n) (zero_at 8 r) ∙ add-zero (forgotten_of mid r)

  pub same_grown : IsSameSession old new
  same_grown = record {
    protocol = ap (λ (x : GuideView). x.protocol) grown.forgotten.rest ∙ same.protocol;
    plan = ap (λ (x : GuideView). x.plan) grown.forgotten.rest ∙ same.plan;
    told = ap (λ (x : GuideView). x.told) grown.forgotten.rest ∙ same.told;
    shorter = λ m is.
        let x = same.shorter m is in
        let y = grown.forgotten.shorter x.0 x.1 in
        (y.0, y.1, adds_up (net_for old.guide) m x.0 y.0 x.2 (subst (λ (p : Protocol). IsShorter (net_of (body_of p.body)) x.0 y.0) same.protocol y.2));
    stable = λ counts line r lt. (let a = no_more r lt in let b = same.stable counts line r lt in omega (arith, a, b));
    steps = ap (λ (s : SessionView). s.saves.steps) grown.rest ∙ same.steps;
    saved = λ r lt. ap (λ (s : SessionView). told_of s.saves r) grown.rest ∙ same.saved r lt ∙ ap (λ k. above k (told_of old.saves r)) (sym (no_more r lt));
    incarnations = ap (λ (s : SessionView). s.incarnations) grown.rest ∙ same.incarnations;
    restored = ap (λ (s : SessionView). s.restored) grown.rest ∙ same.restored;
  }

-- Where something was forgotten, it can be forgotten that there is nothing more to forget: of the seeds nothing was received.
pub may_forget_nothing : (old new : GuideView) (counts : List ℕ) (room : ℕ) → HasMemory old → HasForgotten old new counts room → MayForget new (replicate 8 0)
may_forget_nothing old new counts room has forgot = record { eight = refl; held = held; closed = closed }
  where
    short : (m : Remembered) × IsMemory new m × IsShorter (net_for old) has.memory m
    short = forgot.shorter has.memory has.is

    seeds_is : (r : ℕ) → r < roles_of new → slice_index short.0.seeds r ≡ (numbers_at new.numbers r).seeds
    seeds_is r lt = get_or_from_slice_get short.0.seeds r (numbers_at new.numbers r).seeds 0 (short.1.numbers_are.each r lt).seeds

    held : (r : ℕ) → r < roles_of new → (numbers_at new.numbers r).seeds + slice_index (replicate 8 0) r ≤ length (log_at new.logs r)
    held r lt = let a = (short.2.lacks r).new_seeds in let b = ap length (short.1.events r) in omega (arith, a, b, seeds_is r lt, zero_at 8 r)

    first : (r : ℕ) → r < roles_of new → take ((numbers_at new.numbers r).seeds + slice_index (replicate 8 0) r) (log_at new.logs r) ≡ seeds_of short.0 r
    first r lt = ap (λ n. take n (log_at new.logs r)) (ap (λ n. (numbers_at new.numbers r).seeds + n) (zero_at 8 r) ∙ add-zero (numbers_at new.numbers r).seeds ∙ sym (seeds_is r lt)) ∙ ap (take (slice_index short.0.seeds r)) (sym (short.1.events r))

    none : (a b : ℕ) → b < roles_of new → taken (net_for new) a b (take ((numbers_at new.numbers b).seeds + slice_index (replicate 8 0) b) (log_at new.logs b)) ≡ []
    none a b lt = ap (taken (net_for new) a b) (first b lt) ∙ ap (λ (x : GuideView). taken (net_for x) a b (seeds_of short.0 b)) forgot.rest ∙ (short.2.messages a b).seeds_are

    closed : (a b : ℕ) → a < roles_of new → b < roles_of new
        → length (taken (net_for new) a b (take ((numbers_at new.numbers b).seeds + slice_index (replicate 8 0) b) (log_at new.logs b)))
        ≤ length (put (net_for new) a b (take ((numbers_at new.numbers a).seeds + slice_index (replicate 8 0) a) (log_at new.logs a)))
    closed a b _ lt = let e = ap length (none a b lt) in omega (arith, e)
