-- Counts come down to the stable line, and no further.
use Rattle.std.proofs.Common.{◌≡◌, ℕ, zero, suc, ◌+◌, ◌*◌, ◌/◌, ◌%◌, ◌-◌, ◌<◌, ◌≤◌, List, [], ◌∷◌, length, take, refl, sym, ◌∙◌, ap, subst, ⊎_elim, arith}
use Rattle.std.specs.Prelude.{slice_index, slice_set}
use Rattle.std.specs.List.{sum}
use Rattle.std.proofs.Math.Nat.{mul-mod_left, mod-eq-sub-div-mul, div-mul-le_self}
use Rattle.std.proofs.lemmas.Bool.{cases_eq, cases_lt}
use Rattle.std.proofs.lemmas.Grind.{get_or-set_at}
use Rattle.std.proofs.lemmas.List.{get_or-set_other, get_or_past}
use Rattle.std.proofs.lemmas.List.Sums.{sum_by-cons}
use Rattle.rcv_tree.specs.declared.event.Event.{Event}
use Rattle.rcv_model.specs.Net.{Net}
use Rattle.rcv_model.specs.Run.{acts, put, taken}
use Rattle.rcv_model.specs.StableLine.{IsStable, IsStableLine}
use Rattle.rcv_model.proofs.Bystanders.{as_many}
use Rattle.rcv_theory.specs.Counts.{IsGreatestClosed, kept_counts}
use Rattle.rcv_theory.proofs.Counting.{greatest_kept}
use Rattle.rcv_depend.specs.Logs.{log_at, AreLogsOf}
use Rattle.rcv_depend.specs.declared.cut.Counted.{Counted}
use Rattle.rcv_depend.specs.Cuts.{put_within, taken_within, IsCounted, AllEven, StaysAbove}
use Rattle.rcv_depend.proofs.Keeping.{reached}
use Rattle.rcv_line.specs.Line.{AreSaved, IsLineOf, IsAboveLines}

-- All events are at least each stable line.
pub all_above : (net : Net) (logs : List (List Event)) (every : ℕ → ℕ) (cs : List ℕ) → ((r : ℕ) → slice_index cs r ≡ length (log_at logs r)) → IsAboveLines net logs every cs
all_above net logs every cs all h are other stable r =
    let m = stable.kept r in
    let a = all r in
    let b = ap length (are.lists r) in
    let n = as_many r h in
    omega (arith, m, a, b, n)

-- A stable line is kept where each role may keep as much as it says.
stable_kept : (net : Net) (every : ℕ → ℕ) (h : List Event) (logs : List (List Event)) → AreLogsOf net h logs → (other : ℕ → ℕ) → IsStable net every h other → (r : ℕ) → other r ≤ kept_counts net other h r
stable_kept net every h logs are other stable r =
    (greatest_kept net other h are.queued).greatest other (record { made = stable.kept; sends = stable.closed }) (λ q. omega arith) r

-- So what leaves the counts above what is kept leaves them above each stable line.
pub lines_stay : (net : Net) (logs : List (List Event)) (every : ℕ → ℕ) (cs ds : List ℕ) → StaysAbove net logs cs ds → IsAboveLines net logs every cs → IsAboveLines net logs every ds
lines_stay net logs every cs ds stays above h are other stable r =
    let kept = stable_kept net every h logs are other stable r in
    let low = stays (λ g. other) (λ g areg q. let b = (greatest_kept net other g areg.queued).bounded q in let o = above h are other stable q in omega (arith, b, o)) h are r in
    omega (arith, kept, low)

-- And so does taking an event off a role that hasn't saved its last one.
pub lines_lower : (net : Net) (logs : List (List Event)) (every : ℕ → ℕ) (cs : List ℕ) (role : ℕ) → role < length cs → 0 < slice_index cs role % every role → IsAboveLines net logs every cs → IsAboveLines net logs every (slice_set cs role (slice_index cs role - 1))
lines_lower net logs every cs role within unsaved above h are other stable q = ⊎_elim
    (λ same.
    let there = get_or-set_at cs role role (slice_index cs role - 1) 0 refl within in
    let o = above h are other stable role in
    let less : other role < slice_index cs role = ⊎_elim
    (λ equal. absurd (never equal))
    (λ other'. omega (arith, o, other'))
    (cases_eq (other role) (slice_index cs role)) in
    subst (λ x. other x ≤ slice_index (slice_set cs role (slice_index cs role - 1)) x) (sym same) (omega (arith, there, less)))
    (λ apart. let b = get_or-set_other cs role q (slice_index cs role - 1) 0 apart in let d = above h are other stable q in omega (arith, b, d))
    (cases_eq q role)
  where
    never : other role ≡ slice_index cs role → ⊥
    never equal =
        let m = stable.steps role in
        let z = mul-mod_left m.0 (every role) in
        let same = ap (λ n. n % every role) (m.1 ∙ equal) in
        omega (arith, unsaved, z, same)

-- A role that hasn't saved its last event has one, and a log.
pub has_log : (net : Net) (logs : List (List Event)) (cut : Counted) (every role : ℕ) → IsCounted net logs cut → 0 < slice_index cut.counts role % every → (0 < slice_index cut.counts role) × (role < length logs)
has_log net logs cut every role a unsaved = (some, ⊎_elim (λ lt. lt) (λ le. absurd (never le)) (cases_lt role (length logs)))
  where
    some : 0 < slice_index cut.counts role
    some = ⊎_elim
        (λ none.
        let z : slice_index cut.counts role ≡ 0 = omega (arith, none) in
        let m = ap (λ n. n % every) z in
        absurd (let u = unsaved in let w = mul-mod_left 0 every in omega (arith, u, m, w)))
        (λ more. omega (arith, more))
        (cases_lt (slice_index cut.counts role) 1)

    never : length logs ≤ role → ⊥
    never le =
        let z = ap length (get_or_past logs role [] le) in
        let m = a.made role in
        omega (arith, z, m, some)

-- A number that leaves no rest is a multiple.
exact : (n m : ℕ) → n % m ≡ 0 → n / m * m ≡ n
exact n m e = whole n (n / m * m) (sym (mod-eq-sub-div-mul n m) ∙ e) (div-mul-le_self n m)
  where
    whole : (n q : ℕ) → n - q ≡ 0 → q ≤ n → q ≡ n
    whole n q z le = omega (arith, z, le)

first : (x : ℕ) (xs : List ℕ) → sum (x ∷ xs) ≡ x + sum xs
first x xs = sum_by-cons (λ n. n) x xs

-- What isn't 0 is more.
pub more : (n : ℕ) → (n ≡ 0 → ⊥) → 0 < n
more n some = ⊎_elim (λ lt. absurd (some (omega (arith, lt)))) (λ le. omega (arith, le)) (cases_lt n 1)

-- Counts that are nowhere higher have no greater sum, and a less one where one of them is less.
sum_low : (xs ys : List ℕ) → length xs ≡ length ys → ((r : ℕ) → slice_index xs r ≤ slice_index ys r) → sum xs ≤ sum ys
sum_low [] ys e low = omega arith
sum_low (x ∷ xs) [] e low = absurd (omega (arith, e))
sum_low (x ∷ xs) (y ∷ ys) e low = let a : x ≤ y = low 0 in let b = sum_low xs ys (omega (arith, e)) (λ r. low (suc r)) in omega (arith, a, b, first x xs, first y ys)

pub sum_less : (xs ys : List ℕ) (r : ℕ) → length xs ≡ length ys → ((q : ℕ) → slice_index xs q ≤ slice_index ys q) → slice_index xs r < slice_index ys r → sum xs < sum ys
sum_less xs [] r e low lt = absurd (omega (arith, lt))
sum_less [] (y ∷ ys) r e low lt = absurd (omega (arith, e))
sum_less (x ∷ xs) (y ∷ ys) zero e low lt = let a : x < y = lt in let b = sum_low xs ys (omega (arith, e)) (λ q. low (suc q)) in omega (arith, a, b, first x xs, first y ys)
sum_less (x ∷ xs) (y ∷ ys) (suc r) e low lt = let a : x ≤ y = low 0 in let b = sum_less xs ys r (omega (arith, e)) (λ q. low (suc q)) lt in omega (arith, a, b, first x xs, first y ys)

-- Where each role stands where it has saved, and no channel owes, the counts are the stable line.
pub line_found : (net : Net) (logs : List (List Event)) (every : List ℕ) (cut : Counted) → IsCounted net logs cut → AreSaved every cut.counts → AllEven (length logs) cut → IsAboveLines net logs (slice_index every) cut.counts → IsLineOf net logs (slice_index every) cut.counts
line_found net logs every cut a saved even above h are = record {
  stable = record {
    steps = steps;
    kept = kept;
    closed = λ s r k i j p t lt. subst (λ c. length (acts s (take i h)) < c) (sym (same s)) (g.closed.sends s r k i j p t (subst (λ c. length (acts r (take j h)) < c) (same r) lt));
  };
  greatest = above h are;
}
  where
    bound : ℕ → ℕ
    bound = slice_index cut.counts

    g : IsGreatestClosed net h (slice_index cut.counts) (kept_counts net (slice_index cut.counts) h)
    g = greatest_kept net (slice_index cut.counts) h are.queued

    same : (r : ℕ) → slice_index cut.counts r ≡ kept_counts net (slice_index cut.counts) h r
    same = reached net h logs are (slice_index cut.counts) cut.counts g.bounded (λ r. omega arith) a.made channels
      where
        channels : (x y : ℕ) → x < length logs → y < length logs → taken_within net logs cut.counts x y ≤ put_within net logs cut.counts x y
        channels x y lx ly =
            let e = even x y lx ly in
            let p = a.put_is x y lx ly in
            let t = a.taken_is x y lx ly in
            omega (arith, e, p, t)

    steps : (r : ℕ) → (k : ℕ) × (k * slice_index every r ≡ slice_index cut.counts r)
    steps r = ⊎_elim
        (λ low. (slice_index cut.counts r / slice_index every r, exact (slice_index cut.counts r) (slice_index every r) (saved r low)))
        (λ high. (0, let n = a.eight in let z = get_or_past cut.counts r 0 (omega (arith, high, n)) in omega (arith, z)))
        (cases_lt r 8)

    kept : (r : ℕ) → slice_index cut.counts r ≤ length (acts r h)
    kept r = let m = a.made r in let b = ap length (are.lists r) in let n = as_many r h in omega (arith, m, b, n)

-- Of roles beyond the eighth nothing was done, so how often they save is of no account.
stable_agrees : (net : Net) (a b : ℕ → ℕ) (h : List Event) (line : ℕ → ℕ) → ((r : ℕ) → r < 8 → a r ≡ b r) → ((r : ℕ) → 8 ≤ r → length (acts r h) ≡ 0) → IsStable net a h line → IsStable net b h line
stable_agrees net a b h line same none stable = record {
  steps = λ r. ⊎_elim
      (λ low. subst (λ e. (k : ℕ) × (k * e ≡ line r)) (same r low) (stable.steps r))
      (λ high. (0, let z = none r high in let m = stable.kept r in omega (arith, z, m)))
      (cases_lt r 8);
  kept = stable.kept;
  closed = stable.closed;
}

pub line_agrees : (net : Net) (a b : ℕ → ℕ) (h : List Event) (line : ℕ → ℕ) → ((r : ℕ) → r < 8 → a r ≡ b r) → ((r : ℕ) → 8 ≤ r → length (acts r h) ≡ 0) → IsStableLine net a h line → IsStableLine net b h line
line_agrees net a b h line same none is = record {
  stable = stable_agrees net a b h line same none is.stable;
  greatest = λ other stable. is.greatest other (stable_agrees net b a h other (λ r low. sym (same r low)) none stable);
}
