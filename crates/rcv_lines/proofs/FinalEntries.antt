-- The entries of a legal journal are of the form.
use Rattle.std.proofs.Common.{◌≡◌, ◌∙◌, ◌<◌, ◌≤◌, ◌+◌, ◌-◌, ◌*◌, ◌/◌, ◌%◌, ◌^◌, ◌==◌, ◌⊎◌, ℕ, zero, suc, Bool, true, false, true≢false, cond, List, [], ◌∷◌, ◌++◌, All, Option, Some, None, length, slice_get, slice_index, get_or, refl, sym, ap, subst, inl, inr, ⊎_elim, arith, append_assoc, append-nil, length-append, mul-le-mul, pow-suc, div-lt_iff_lt-mul, le-div_iff_mul-le}
use Rattle.std.proofs.lemmas.Bool.{cases_lt}
use Rattle.std.proofs.lemmas.Option.{none-some, same_Some}
use Rattle.std.proofs.lemmas.List.Elements.{All-nil, All-cons, All-head, All-tail}
use Rattle.std.proofs.lemmas.Nat.{pow_pos as two_pos}
use Rattle.std.proofs.lemmas.Nat.Bits.{bit_at-zero}
use Rattle.std.specs.List.{list_any}
use Rattle.rcv_model.proofs.Located.{get_front, locate}
use Rattle.std.proofs.Math.Seq.{get_or-append_seam}
use Rattle.rcv_tree.specs.Bits.{has_bit}
use Rattle.rcv_tree.specs.declared.event.Event.{Event}
use Rattle.rcv_tree.specs.declared.entry.Entry.{Entry}
use Rattle.rcv_tree.specs.declared.entry.Entry.TheVariants.{Send, Recv, Crash, Recover}
use Rattle.rcv_model.specs.Net.{Net, IsIn, IsWalk}
use Rattle.rcv_model.specs.Next.{IsProper}
use Rattle.rcv_model.specs.Run.{Act, acts, part, IsRun}
use Rattle.rcv_model.specs.Table.{mark, marks, start_of, point_of, IsMarkedAt, IsConcernedByAny}
use Rattle.rcv_model.specs.Journal.{Rules, State, start, reading, after, after_event, durable, group_of, kept_by, May, MayRecover, IsLegal, IsLegalFrom}
use Rattle.rcv_model.specs.Numbers.{IsBounded}
use Rattle.rcv_model.proofs.Forms.{proper}
use Rattle.rcv_model.proofs.Legal.{accepted_runs, legal_more}
use Rattle.rcv_model.proofs.Numbers.{bounded}
use Rattle.rcv_model.proofs.StableLines.{reading_join}
use Rattle.rcv_model.proofs.Lanes.{walk_in_text}
use Rattle.rcv_model.proofs.Ways.{ends_declared}
use Rattle.rcv_accept.specs.Accepted.{IsAcceptedProtocol}
use Rattle.rcv_plan.specs.Lines.{IsPlanned}
use Rattle.rcv_session.specs.Session.{SessionView, text_of, roles_of, net_for, rules_of}
use Rattle.rcv_core.proofs.Ranges.{ranges, few_crash_lines}
use Rattle.rcv_journal.specs.JournalText.{IsNamed}
use Rattle.rcv_journal.proofs.Named.{legal_is_named}
use Rattle.rcv_journal.specs.Recorded.{bare}
use Rattle.rcv_journal.specs.Form.{IsFormedEntry, IsFormedRecovery}
use Rattle.rcv_lines.specs.FinalTexts.{HasFittingValue}

-- ---- a number whose higher bits aren't set is small

no_high_bit : (n k : ℕ) → n < 2 ^ suc k → has_bit n k ≡ false → n < 2 ^ k
no_high_bit n k lt bit = ⊎_elim (λ less. less) (λ le. absurd (wrong le)) (cases_lt n (2 ^ k))
  where
    some : 0 < 2 ^ k
    some = two_pos k

    wrong : 2 ^ k ≤ n → ⊥
    wrong le =
        let once : 1 * 2 ^ k ≤ n = omega (arith, le) in
        let twice : n < 2 * 2 ^ k = omega (arith, lt, pow-suc 2 k) in
        let low : 1 ≤ n / 2 ^ k = (le-div_iff_mul-le some).1 once in
        let high : n / 2 ^ k < 2 = (div-lt_iff_lt-mul some).1 twice in
        let one : n / 2 ^ k ≡ 1 = omega (arith, low, high) in
        let odd : n / 2 ^ k % 2 ≡ 1 = ap (λ m. m % 2) one in
        true≢false (sym (ap (λ m. m == 1) odd) ∙ bit)

small : (n k m : ℕ) → n < 2 ^ (m + k) → ((q : ℕ) → k ≤ q → q < m + k → has_bit n q ≡ false) → n < 2 ^ k
small n k zero lt none = subst (λ j. n < 2 ^ j) (omega arith) lt
small n k (suc m) lt none =
    let up : suc m + k ≡ suc (m + k) = omega arith in
    small n k m (no_high_bit n (m + k) (subst (λ j. n < 2 ^ j) up lt) (none (m + k) (omega arith) (omega arith))) (λ q le less. none q le (omega (arith, less)))

-- ---- who is concerned is declared

among : (P : ℕ → Type 0) (xs : List ℕ) (q : ℕ) → All P xs → IsIn q xs → P q
among P [] q all i = absurd i
among P (x ∷ xs) q all i = ⊎_elim (λ e. subst P (sym e) (All-head P x xs all)) (λ j. among P xs q (All-tail P x xs all) j) i

from_among : (m : ℕ) (xs : List ℕ) → ((q : ℕ) → IsIn q xs → q < m) → All (λ q. q < m) xs
from_among m [] each = All-nil (λ q. q < m)
from_among m (x ∷ xs) each = All-cons (λ q. q < m) x xs (each x (inl refl)) (from_among m xs (λ q i. each q (inr i)))

get_or_same : (xs : List ℕ) (k d : ℕ) → k < length xs → slice_index xs k ≡ get_or xs k d
get_or_same [] k d lt = absurd (omega (arith, lt))
get_or_same (x ∷ xs) zero d lt = refl
get_or_same (x ∷ xs) (suc k) d lt = get_or_same xs k d (omega (arith, lt))

front_all : (P : ℕ → Type 0) (xs ys : List ℕ) → All P (xs ++ ys) → All P xs
front_all P [] ys all = All-nil P
front_all P (x ∷ xs) ys all = All-cons P x xs (All-head P x (xs ++ ys) all) (front_all P xs ys (All-tail P x (xs ++ ys) all))

module _ (net : Net) (roles : ℕ) (lawful : IsProper net roles) where
  abbrev HasReceiver : ℕ → Type 0
  HasReceiver x = net.receiver x < roles

  marked_declared : (marked ws : List ℕ) → All (λ q. q < roles) marked → All HasReceiver ws → All (λ q. q < roles) (marks net marked ws)
  marked_declared marked [] are all = are
  marked_declared marked (x ∷ ws) are all =
      marked_declared (mark net marked x) ws (go (list_any (λ r. r == net.sender x) marked)) (All-tail HasReceiver x ws all)
    where
      go : (b : Bool) → All (λ q. q < roles) (cond b (net.receiver x ∷ marked) marked)
      go true = All-cons (λ q. q < roles) (net.receiver x) marked (All-head HasReceiver x ws all) are
      go false = are

  walk_declared : (k : ℕ) (front w : List ℕ) → IsWalk net k (front ++ w) → All HasReceiver w
  walk_declared k front [] walk = All-nil HasReceiver
  walk_declared k front (x ∷ w) walk =
      let t = walk_in_text net roles k x front w lawful walk in
      All-cons HasReceiver x w (lawful.receivers x t.0 t.1) (walk_declared k (front ++ x ∷ []) w (subst (IsWalk net k) (sym (append_assoc front (x ∷ []) w)) walk))

  -- the receiver at an act of a run is declared
  act_declared : (h : List Event) (p i : ℕ) (a : Act) → IsRun net h → slice_get (acts p h) i ≡ Some a → HasReceiver a.point
  act_declared h p i a run at =
      let whole = run.1.parts p in
      let there : slice_get (part net p run.0) i ≡ Some a = subst (λ xs. slice_get xs i ≡ Some a) whole.1 (get_front (acts p h) whole.0 i a at) in
      let found = locate net p run.0 i a there in
      (ends_declared net roles a.point found.before found.after lawful (subst (IsWalk net 0) (sym found.whole) run.1.walk)).1

  concerned_declared : (group : List ℕ) (counts : ℕ → ℕ) (h : List Event) (q : ℕ) → All (λ r. r < roles) group → IsRun net h → IsConcernedByAny net group (start_of counts h) q → q < roles
  concerned_declared group counts h q declared run concerned =
      ⊎_elim
      (λ own. among (λ r. r < roles) group q declared own)
      (λ by. ⊎_elim
      (λ own. subst (λ r. r < roles) (sym own.0) (among (λ r. r < roles) group by.0 declared by.2))
      (λ marked. spread by.0 by.1 (among (λ r. r < roles) group by.0 declared by.2) (at_start by.0 by.1 by.3) q by.4.0 marked.1)
      by.4.1)
      concerned
    where
      at_start : (p n : ℕ) → start_of counts h p ≡ Some n → HasReceiver n
      at_start p n is = go (slice_get (acts p h) (counts p)) refl is
        where
          go : (o : Option Act) → slice_get (acts p h) (counts p) ≡ o → point_of o ≡ Some n → HasReceiver n
          go None at none = absurd (none-some n none)
          go (Some a) at some = subst HasReceiver (same_Some a.point n some) (act_declared h p (counts p) a run at)

      spread : (p n : ℕ) → p < roles → HasReceiver n → (r z : ℕ) → IsMarkedAt net p n r z → r < roles
      spread p n lt start r z at =
          let first : All (λ x. x < roles) (p ∷ []) = All-cons (λ x. x < roles) p [] lt (All-nil (λ x. x < roles)) in
          let walked : All HasReceiver (n ∷ at.walk.0) = All-cons HasReceiver n at.walk.0 start (walk_declared n [] at.walk.0 at.walk.1) in
          let front : All HasReceiver (at.before ++ z ∷ []) = front_all HasReceiver (at.before ++ z ∷ []) at.after (subst (All HasReceiver) (sym at.walk.2 ∙ sym (append_assoc at.before (z ∷ []) at.after)) walked) in
          among (λ x. x < roles) (marks net (p ∷ []) (at.before ++ z ∷ [])) r (marked_declared (p ∷ []) (at.before ++ z ∷ []) first front) at.now

-- ---- an entry of a legal journal

last_of : {A : Type 0} (P : A → Type 0) (xs : List A) (x : A) → All P (xs ++ x ∷ []) → P x
last_of P xs x all =
    subst P (get_or-append_seam xs x [] x) (all (length xs) x (omega (arith, length-append xs (x ∷ []))))

module _ (session : SessionView) (plain : IsAcceptedProtocol session.protocol) (planned : IsPlanned (roles_of session) session.plan) where
  abbrev rules : Rules
  rules = rules_of session

  lawful : IsProper (net_for session) (roles_of session)
  lawful = proper (text_of session) (roles_of session) plain.form

  -- journals are short
  few : (entries : List Entry) → IsLegal rules entries → length entries ≤ 2401024
  few entries legal =
      let steps : roles_of session * rules.limit ≤ 8 * 100000 = mul-le-mul plain.form.few_roles (ranges session planned).limit_last in
      let crashes = few_crash_lines session plain.form.few_roles planned in
      let all = (bounded rules entries legal).entries in
      omega (arith, steps, crashes, all)

  module _ (front : List Entry) (legal : IsLegal rules front) where
    abbrev now : State
    now = reading rules front

    joined : (e : Entry) → reading rules (front ++ e ∷ []) ≡ after rules now e
    joined e = reading_join rules (start rules.roles) front (e ∷ [])

    event : (e : Event) → IsBounded rules (front ++ Send e ∷ []) (after_event now e) ⊎ IsBounded rules (front ++ Recv e ∷ []) (after_event now e) → (e.stamp ≤ length front + 1) × (e.sent ≤ length front + 1)
    event e bounds =
        let long_sent = length-append front (Send e ∷ []) in
        let long_got = length-append front (Recv e ∷ []) in
        ⊎_elim
        (λ b. (
          let le = last_of (λ (x : Event). x.stamp ≤ length (front ++ Send e ∷ [])) now.kept e b.stamps in omega (arith, le, long_sent),
          let le = last_of (λ (x : Event). x.sent ≤ length (front ++ Send e ∷ [])) now.kept e b.sent in omega (arith, le, long_sent),
        ))
        (λ b. (
          let le = last_of (λ (x : Event). x.stamp ≤ length (front ++ Recv e ∷ [])) now.kept e b.stamps in omega (arith, le, long_got),
          let le = last_of (λ (x : Event). x.sent ≤ length (front ++ Recv e ∷ [])) now.kept e b.sent in omega (arith, le, long_got),
        ))
        bounds

    bounds_of : (e : Entry) → May rules now e → IsBounded rules (front ++ e ∷ []) (after rules now e)
    bounds_of e may =
        subst (IsBounded rules (front ++ e ∷ [])) (joined e) (bounded rules (front ++ e ∷ []) (legal_more rules (start rules.roles) front e legal may))

    named_of : (e : Entry) → May rules now e → IsNamed session e
    named_of e may =
        last_of (IsNamed session) front e (legal_is_named session (front ++ e ∷ []) plain (legal_more rules (start rules.roles) front e legal may))

    recovery : (p concerned : ℕ) (kept : List ℕ) (undone : ℕ) → p < roles_of session → MayRecover rules now p concerned kept undone → ((q : ℕ) → length (acts q (kept_by rules now p)) ≤ rules.limit) → IsFormedRecovery (bare session.protocol) p concerned kept undone
    recovery p concerned kept undone lt may within = record {
      role = lt;
      cuts = record {
        some = λ none.
            let told = (may.concerned p in_byte).1 (inl (inl refl)) in
            let no_bit : has_bit concerned p ≡ false = ap (λ n. has_bit n p) none ∙ ap (λ b. b == 1) (bit_at-zero p) in
            true≢false (sym told ∙ no_bit);
        declared = small concerned (roles_of session) (8 - roles_of session) (subst (λ n. concerned < 2 ^ n) eight_is may.byte) (λ q le less. no_bit_above q le (omega (arith, less, eight)));
        eight = may.eight;
        fit = λ k d less. let small_count = count k (omega (arith, less, may.eight)) in subst (λ n. n < 2 ^ 32) (get_or_same kept k d less) small_count;
        others = λ q none less. may.counts q less ∙ ap (λ b. cond b (length (acts q (kept_by rules now p))) 0) none;
      };
      undone_fits =
          let all = (bounded rules front legal).events in
          let short = few front legal in
          let undone_is = may.undone in
          omega (arith, all, short, undone_is);
    }
      where
        eight : roles_of session ≤ 8
        eight = plain.form.few_roles

        eight_is : 8 ≡ 8 - roles_of session + roles_of session
        eight_is = omega (arith, eight)

        in_byte : p < 8
        in_byte = omega (arith, lt, eight)

        run : IsRun (net_for session) now.kept
        run = accepted_runs rules front lawful plain.accepted legal front [] (append-nil front)

        group : All (λ q. q < roles_of session) (group_of rules p)
        group = All-cons (λ q. q < roles_of session) p (rules.host p) lt (from_among (roles_of session) (rules.host p) (λ q i. (ranges session planned).hosts p q i))

        no_bit_above : (q : ℕ) → roles_of session ≤ q → q < 8 → has_bit concerned q ≡ false
        no_bit_above q le less = go (has_bit concerned q) refl
          where
            go : (b : Bool) → has_bit concerned q ≡ b → b ≡ false
            go false is = refl
            go true is =
                let who : q < roles_of session = concerned_declared (net_for session) (roles_of session) lawful (group_of rules p) (durable rules now) now.kept q group run ((may.concerned q less).0 is) in
                absurd (omega (arith, le, who))

        count : (k : ℕ) → k < 8 → slice_index kept k < 2 ^ 32
        count k less = subst (λ n. n < 2 ^ 32) (sym (may.counts k less)) (go (has_bit concerned k))
          where
            go : (b : Bool) → cond b (length (acts k (kept_by rules now p))) 0 < 2 ^ 32
            go false = omega arith
            go true =
                let le = within k in
                let last = (ranges session planned).limit_last in
                omega (arith, le, last)

    entry_formed : (e : Entry) → HasFittingValue e → May rules now e → IsFormedEntry (bare session.protocol) e
    entry_formed (Send e) value may =
        let short = few front legal in
        let fits = event e (inl (bounds_of (Send e) may)) in
        let stamp = fits.0 in
        let sent = fits.1 in
        let named = (named_of (Send e) may).0 in
        (record { named = record { role = named.role; first = named.first; last = named.last }; way = may.is_send; value = value; stamp = omega (arith, stamp, short); sent = omega (arith, sent, short) }, may.sent)
    entry_formed (Recv e) value may =
        let short = few front legal in
        let fits = event e (inr (bounds_of (Recv e) may)) in
        let stamp = fits.0 in
        let sent = fits.1 in
        let named = (named_of (Recv e) may).0 in
        record { named = record { role = named.role; first = named.first; last = named.last }; way = may.own.is_recv; value = value; stamp = omega (arith, stamp, short); sent = omega (arith, sent, short) }
    entry_formed (Crash p) value may = may.0
    entry_formed (Recover p concerned kept undone) value may =
        let b = bounds_of (Recover p concerned kept undone) may in
        recovery p concerned.0 kept undone (named_of (Recover p concerned kept undone) may) may (λ q. let le = b.kept q in let most = b.raw q in omega (arith, le, most))

  entries_formed : (front back : List Entry) → IsLegal rules front → IsLegalFrom rules (reading rules front) back → All HasFittingValue back → All (IsFormedEntry (bare session.protocol)) back
  entries_formed front [] legal rest values = All-nil (IsFormedEntry (bare session.protocol))
  entries_formed front (e ∷ back) legal rest values =
      All-cons (IsFormedEntry (bare session.protocol)) e back (entry_formed front legal e (All-head HasFittingValue e back values) rest.0) (entries_formed (front ++ e ∷ []) back (legal_more rules (start rules.roles) front e legal rest.0) (subst (λ s. IsLegalFrom rules s back) (sym (joined front legal e)) rest.1) (All-tail HasFittingValue e back values))

  pub formed : (entries : List Entry) → IsLegal rules entries → All HasFittingValue entries → All (IsFormedEntry (bare session.protocol)) entries
  formed entries legal values = entries_formed [] entries tt legal values
