-- Counts come down to what is kept, channel by channel.
use Rattle.std.proofs.Common.{◌≡◌, ℕ, ◌+◌, ◌-◌, ◌/◌, ◌%◌, ◌<◌, ◌≤◌, true, cond, List, [], ◌++◌, length, length-set, take, drop, refl, sym, ◌∙◌, ap, subst, ⊎_elim, arith}
use Rattle.std.specs.Prelude.{slice_index, slice_set}
use Rattle.std.specs.List.{sum}
use Rattle.std.proofs.lemmas.Bool.{cases_Bool, cases_eq, cases_lt}
use Rattle.std.proofs.lemmas.List.{get_or_past, get_or-set_other, take-take, take-append-drop}
use Rattle.std.proofs.lemmas.List.Sums.{sum_by-set}
use Rattle.std.proofs.lemmas.Grind.{get_or-set_at}
use Rattle.rcv_tree.specs.declared.event.Event.{Event}
use Rattle.rcv_model.specs.Net.{Net, IsPrefix}
use Rattle.rcv_model.specs.Run.{acts, put_by, taken_by, put, taken}
use Rattle.rcv_model.proofs.Bystanders.{as_many}
use Rattle.rcv_model.proofs.Keeping.{put_through, taken_through, queued_now}
use Rattle.rcv_model.proofs.Lists.{prefix_map, prefix_length}
use Rattle.rcv_model.proofs.Lines.{Counts, closed_of_counts, counts_of_closed}
use Rattle.rcv_theory.specs.Counts.{IsGreatestClosed, kept_counts}
use Rattle.rcv_theory.proofs.Counting.{greatest_kept}
use Rattle.rcv_depend.specs.declared.keeps.Keeps.{Keeps}
use Rattle.rcv_depend.specs.Keeps.{fails, ceiling_of}
use Rattle.rcv_depend.specs.Logs.{between, log_at, AreLogsOf}
use Rattle.rcv_depend.specs.declared.cut.Counted.{Counted}
use Rattle.rcv_depend.specs.Cuts.{put_within, taken_within, IsCounted, AllEven, IsAbove, IsKeptOf, Owes}
use Rattle.rcv_depend.proofs.Scans.{failed_bound}

-- Of the roles before this one each that fails has at most what it may keep.
abbrev pub IsLow : Keeps → List ℕ → ℕ → Type 0
IsLow keeps counts role = (r : ℕ) → r < role → fails keeps r ≡ true → slice_index counts r ≤ slice_index keeps.keep r

pub low_next : (keeps : Keeps) (cs : List ℕ) (role : ℕ) → IsLow keeps cs role → (fails keeps role ≡ true → slice_index cs role ≤ slice_index keeps.keep role) → IsLow keeps cs (role + 1)
low_next keeps cs role low here r h t = ⊎_elim
    (λ a. low r a t)
    (λ b. let e : r ≡ role = omega (arith, h, b) in subst (λ x. slice_index cs x ≤ slice_index keeps.keep x) (sym e) (here (subst (λ x. fails keeps x ≡ true) e t)))
    (cases_lt r role)

pub low_less : (keeps : Keeps) (cs ds : List ℕ) (role : ℕ) → ((r : ℕ) → slice_index ds r ≤ slice_index cs r) → IsLow keeps cs role → IsLow keeps ds role
low_less keeps cs ds role less low r h t = let a = less r in let b = low r h t in omega (arith, a, b)

-- A count with one fewer is no higher, and the sum is less.
pub lower_less : (cs : List ℕ) (r q : ℕ) → slice_index (slice_set cs r (slice_index cs r - 1)) q ≤ slice_index cs q
lower_less cs r q = ⊎_elim
    (λ same. ⊎_elim
    (λ low. let a = get_or-set_at cs r q (slice_index cs r - 1) 0 same low in let b = ap (slice_index cs) same in omega (arith, a, b))
    (λ high. let a = get_or_past (slice_set cs r (slice_index cs r - 1)) q 0 (let n = length-set cs r (slice_index cs r - 1) in omega (arith, n, high, same)) in omega (arith, a))
    (cases_lt r (length cs)))
    (λ other. let a = get_or-set_other cs r q (slice_index cs r - 1) 0 other in omega (arith, a))
    (cases_eq q r)

pub less_sum : (cs : List ℕ) (r : ℕ) → r < length cs → 0 < slice_index cs r → sum (slice_set cs r (slice_index cs r - 1)) < sum cs
less_sum cs r lt some = let a = sum_by-set (λ x. x) cs r (slice_index cs r - 1) 0 lt in omega (arith, a, some)

-- The first events of a list put no more on a channel than more of them do; the same of what is taken.
front_of_take : (m n : ℕ) (l : List Event) → m ≤ n → IsPrefix (take m l) (take n l)
front_of_take m n l le = (drop m (take n l), ap (λ x. x ++ drop m (take n l)) (sym (take-take m n l le)) ∙ take-append-drop m (take n l))

more_put : (net : Net) (a b m n : ℕ) (l : List Event) → m ≤ n → length (put net a b (take m l)) ≤ length (put net a b (take n l))
more_put net a b m n l le = prefix_length _ _ (prefix_map (put_by net a b) (take m l) (take n l) (front_of_take m n l le))

all_taken : (net : Net) (a b n : ℕ) (l : List Event) → length (taken net a b (take n l)) ≤ length (taken net a b l)
all_taken net a b n l = prefix_length _ _ (prefix_map (taken_by net a b) (take n l) l (drop n l, take-append-drop n l))

module _ (net : Net) (h : List Event) (logs : List (List Event)) (are : AreLogsOf net h logs) (bound : ℕ → ℕ) (cs : List ℕ) where
  g : IsGreatestClosed net h bound (kept_counts net bound h)
  g = greatest_kept net bound h are.queued

  -- Where more is taken than was put within counts that hold what is kept, the receiver can still be lowered.
  pub owes_above : ((r : ℕ) → kept_counts net bound h r ≤ slice_index cs r) → (a b : ℕ) → put_within net logs cs a b < taken_within net logs cs a b → kept_counts net bound h b < slice_index cs b
  owes_above above a b lt = ⊎_elim (λ x. x) (λ le. absurd (never le)) (cases_lt (kept_counts net bound h b) (slice_index cs b))
    where
      never : slice_index cs b ≤ kept_counts net bound h b → ⊥
      never le =
          let high = above b in
          let same : slice_index cs b ≡ kept_counts net bound h b = omega (arith, le, high) in
          let t = ap (λ n. length (taken net a b (take n (log_at logs b)))) same ∙ ap (λ l. length (taken net a b (take (kept_counts net bound h b) l))) (are.lists b) in
          let p = ap (λ l. length (put net a b (take (kept_counts net bound h a) l))) (are.lists a) in
          let counts = counts_of_closed net h (kept_counts net bound h) are.queued g.closed.sends a b in
          let more = more_put net a b (kept_counts net bound h a) (slice_index cs a) (log_at logs a) (above a) in
          omega (arith, lt, t, p, counts, more)

  -- Where no channel owes, the counts are what is kept.
  pub reached : ((r : ℕ) → kept_counts net bound h r ≤ slice_index cs r) → ((r : ℕ) → slice_index cs r ≤ bound r) → ((r : ℕ) → slice_index cs r ≤ length (log_at logs r)) → ((a b : ℕ) → a < length logs → b < length logs → taken_within net logs cs a b ≤ put_within net logs cs a b) → (r : ℕ) → slice_index cs r ≡ kept_counts net bound h r
  reached above low made even r =
      let high = above r in
      let le = g.greatest (slice_index cs) (record { made = made_all; sends = closed_of_counts net h (slice_index cs) counts }) low r in
      omega (arith, high, le)
    where
      made_all : (q : ℕ) → slice_index cs q ≤ length (acts q h)
      made_all q = let a = made q in let b = ap length (are.lists q) in let n = as_many q h in omega (arith, a, b, n)

      no_log : (q : ℕ) → length logs ≤ q → log_at logs q ≡ []
      no_log q le = get_or_past logs q [] le

      all_even : (a b : ℕ) → taken_within net logs cs a b ≤ put_within net logs cs a b
      all_even a b = ⊎_elim
          (λ la. ⊎_elim
          (λ lb. even a b la lb)
          (λ hb.
          let none = ap length (no_log b hb) in
          let zero_count : slice_index cs b ≡ 0 = (let m = made b in omega (arith, none, m)) in
          let t : taken_within net logs cs a b ≡ 0 = ap (λ n. length (taken net a b (take n (log_at logs b)))) zero_count in
          omega (arith, t))
          (cases_lt b (length logs)))
          (λ ha.
          let all = all_taken net a b (slice_index cs b) (log_at logs b) in
          let t = ap length (taken_through net a b h) ∙ ap (λ l. length (taken net a b l)) (sym (are.lists b)) in
          let p : length (put net a b h) ≡ 0 = ap length (put_through net a b h) ∙ ap (λ l. length (put net a b l)) (sym (are.lists a) ∙ no_log a ha) in
          let q = prefix_length _ _ (queued_now net h are.queued a b) in
          omega (arith, all, t, p, q))
          (cases_lt a (length logs))

      counts : Counts net h (slice_index cs)
      counts a b =
          let e = all_even a b in
          let t = ap (λ l. length (taken net a b (take (slice_index cs b) l))) (are.lists b) in
          let p = ap (λ l. length (put net a b (take (slice_index cs a) l))) (are.lists a) in
          omega (arith, e, t, p)

-- All events are at least what is kept.
pub start_above : (net : Net) (logs : List (List Event)) (bound : List Event → ℕ → ℕ) (cs : List ℕ) → ((r : ℕ) → slice_index cs r ≡ length (log_at logs r)) → IsAbove net logs bound cs
start_above net logs bound cs all h are r =
    let m = (greatest_kept net (bound h) h are.queued).closed.made r in
    let a = all r in
    let b = ap length (are.lists r) in
    let n = as_many r h in
    omega (arith, m, a, b, n)

-- The role's count with one fewer, where that is still at least what is kept of it.
one_less : (net : Net) (logs : List (List Event)) (bound : List Event → ℕ → ℕ) (cs : List ℕ) (role : ℕ) → role < length cs → IsAbove net logs bound cs → ((h : List Event) → AreLogsOf net h logs → kept_counts net (bound h) h role < slice_index cs role) → IsAbove net logs bound (slice_set cs role (slice_index cs role - 1))
one_less net logs bound cs role within above more h are q = ⊎_elim
    (λ same.
    let there = get_or-set_at cs role role (slice_index cs role - 1) 0 refl within in
    let k = more h are in
    subst (λ x. kept_counts net (bound h) h x ≤ slice_index (slice_set cs role (slice_index cs role - 1)) x) (sym same) (omega (arith, there, k)))
    (λ other. let b = get_or-set_other cs role q (slice_index cs role - 1) 0 other in let d = above h are q in omega (arith, b, d))
    (cases_eq q role)

-- What is lost isn't kept.
pub lose_above : (net : Net) (logs : List (List Event)) (keeps : Keeps) (cs : List ℕ) (role : ℕ) → role < length cs → IsAbove net logs (ceiling_of keeps) cs → fails keeps role ≡ true → slice_index keeps.keep role < slice_index cs role → IsAbove net logs (ceiling_of keeps) (slice_set cs role (slice_index cs role - 1))
lose_above net logs keeps cs role within above t lt = one_less net logs (ceiling_of keeps) cs role within above (λ h are.
    let k = (greatest_kept net (ceiling_of keeps h) h are.queued).bounded role in
    let b = failed_bound h keeps role t in
    omega (arith, k, b, lt))

-- A channel's place says whose it is.
pub place_parts : (place : ℕ) → between (place / 8) (place % 8) ≡ place
place_parts place = omega arith

module _ (net : Net) (logs : List (List Event)) (cut : Counted) (place : ℕ) (a : IsCounted net logs cut) (owes : Owes (length logs) cut place) where
  pub more_within : put_within net logs cut.counts (place / 8) (place % 8) < taken_within net logs cut.counts (place / 8) (place % 8)
  more_within =
      let here = place_parts place in
      let more = owes.more in
      let p = ap (slice_index cut.put) (sym here) ∙ a.put_is (place / 8) (place % 8) owes.sender owes.receiver in
      let t = ap (slice_index cut.taken) (sym here) ∙ a.taken_is (place / 8) (place % 8) owes.sender owes.receiver in
      omega (arith, more, p, t)

  -- Its receiver has an event that can be taken off.
  pub some_within : 0 < slice_index cut.counts (place % 8)
  some_within = ⊎_elim
      (λ none.
      let zero_count : slice_index cut.counts (place % 8) ≡ 0 = omega (arith, none) in
      let t : taken_within net logs cut.counts (place / 8) (place % 8) ≡ 0 = ap (λ n. length (taken net (place / 8) (place % 8) (take n (log_at logs (place % 8))))) zero_count in
      let more = more_within in
      absurd (omega (arith, t, more)))
      (λ some. omega (arith, some))
      (cases_lt (slice_index cut.counts (place % 8)) 1)

  -- Taking it off leaves the counts at least what is kept.
  pub still_above : (bound : List Event → ℕ → ℕ) → IsAbove net logs bound cut.counts → IsAbove net logs bound (slice_set cut.counts (place % 8) (slice_index cut.counts (place % 8) - 1))
  still_above bound above = one_less net logs bound cut.counts (place % 8) (let n = a.eight in omega (arith, n)) above (λ h are. owes_above net h logs are (bound h) cut.counts (above h are) (place / 8) (place % 8) more_within)

-- Where no channel owes the counts are what is kept.
pub kept_now : (net : Net) (logs : List (List Event)) (keeps : Keeps) (cut : Counted) (role : ℕ) → length logs ≤ role → IsCounted net logs cut → IsLow keeps cut.counts role → IsAbove net logs (ceiling_of keeps) cut.counts → AllEven (length logs) cut → IsKeptOf net logs (ceiling_of keeps) cut.counts
kept_now net logs keeps cut role all a low above even h are r = reached net h logs are (ceiling_of keeps h) cut.counts (above h are) bounded a.made channels r
  where
    channels : (x y : ℕ) → x < length logs → y < length logs → taken_within net logs cut.counts x y ≤ put_within net logs cut.counts x y
    channels x y lx ly =
        let e = even x y lx ly in
        let p = a.put_is x y lx ly in
        let t = a.taken_is x y lx ly in
        omega (arith, e, p, t)

    bounded : (q : ℕ) → slice_index cut.counts q ≤ ceiling_of keeps h q
    bounded q = ⊎_elim
        (λ t. let b = failed_bound h keeps q t in
        ⊎_elim (λ in'. let l = low q in' t in omega (arith, b, l))
        (λ out. let z = ap length (get_or_past logs q [] (omega (arith, all, out))) in let m = a.made q in omega (arith, z, m))
        (cases_lt q role))
        (λ f. let b : ceiling_of keeps h q ≡ length (acts q h) = ap (λ y. cond y (slice_index keeps.keep q) (length (acts q h))) f in
        let m = a.made q in
        let d = ap length (are.lists q) in
        let n = as_many q h in
        omega (arith, b, m, d, n))
        (cases_Bool (fails keeps q))
