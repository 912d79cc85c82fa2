-- One channel more went back.
use Rattle.std.proofs.Common.{◌≡◌, ℕ, ◌+◌, ◌<◌, Bool, true, false, Option, Some, None, List, [], length, refl, sym, ◌∙◌, ap, subst, ⊎_elim, arith, append-nil}
use Rattle.std.specs.Prelude.{slice_get}
use Rattle.std.proofs.lemmas.Bool.{cases_eq}
use Rattle.std.proofs.lemmas.Bool.Decides.{nat_tests}
use Rattle.rcv_model.specs.Run.{put, taken, IsRun}
use Rattle.rcv_model.specs.Journal.{KeepsRuns}
use Rattle.rcv_ring.specs.Lists.{Begins}
use Rattle.rcv_mailbox.specs.Ends.{End, IsChannel, received}
use Rattle.rcv_session.specs.Session.{roles_of, net_for, rules_of}
use Rattle.rcv_core.specs.Book.{BookView, state_of}
use Rattle.rcv_role.specs.Part.{PartView}
use Rattle.rcv_role.specs.Ends.{end_at}
use Rattle.rcv_role.specs.Cell.{CellView, cell_of, AreJoined, post_to, inbox_from}
use Rattle.rcv_rollback.specs.Halves.{Has, Lacks}
use Rattle.rcv_rollback.specs.Back.{HasGoneAlone}
use Rattle.rcv_rollback.specs.Going.{HasRewoundChannel, IsGoing, HoldsPut, HoldsTaken, is_passed, by_then, AreGoing, IsStep, HasStep, HaveStepped, HaveMoved}
use Rattle.rcv_rollback.proofs.Standing.{get_within, either, one_cell, not_both}
use Rattle.rcv_rollback.proofs.Channels.{by_roles, to_pair, alone_step, sender_step, receiver_step, both_joined, both_begun, idle_step}

-- what the book keeps is a run
pub kept_run : (book : BookView) → KeepsRuns (rules_of book.setup) book.entries → IsRun (net_for book.setup) (state_of book).kept
kept_run book keeps = keeps book.entries [] (append-nil book.entries)

-- the channels that went back before, and those before the next one
pub passed_on : (s t r q : ℕ) → (r ≡ s → q ≡ t → ⊥) → is_passed s (t + 1) r q ≡ is_passed s t r q
passed_on s t r q n = go (is_passed s (t + 1) r q) (is_passed s t r q) refl refl
  where
    go : (a b : Bool) → is_passed s (t + 1) r q ≡ a → is_passed s t r q ≡ b → a ≡ b
    go true true f g = refl
    go false false f g = refl
    go true false f g = absurd (n (grind (arith, nat_tests)) (grind (arith, nat_tests)))
    go false true f g = absurd (grind (arith, nat_tests))

pub passed_now : (s t : ℕ) → is_passed s (t + 1) s t ≡ true
passed_now s t = go (is_passed s (t + 1) s t) refl
  where
    go : (b : Bool) → is_passed s (t + 1) s t ≡ b → b ≡ true
    go true f = refl
    go false f = absurd (grind (arith, nat_tests))

-- the cells behind a rewind of the channel from s to t
module _ (book : BookView) (s t keep drop_from : ℕ) (old new : List (Option CellView)) (going : AreGoing book s t old)
    (ls : s < roles_of book.setup) (lt : t < roles_of book.setup) (apart : s ≡ t → ⊥)
    (run : IsRun (net_for book.setup) (state_of book).kept)
    (keep_is : keep ≡ length (taken (net_for book.setup) s t (state_of book).kept))
    (drop_is : drop_from ≡ length (put (net_for book.setup) s t (state_of book).kept))
    (went : HasRewoundChannel old new s t keep drop_from) where
  -- a place that isn't touched
  idle : (r : ℕ) (c : CellView) → Has old r c → slice_get new r ≡ slice_get old r → (r ≡ t → ⊥) → (r ≡ s → Lacks old t) → HasStep book old new s t keep r c
  idle r c has same other spared = record { cell = c; has = same ∙ has; step = idle_step book s t old going ls lt apart keep r c has other spared }

  step_none : Lacks old t → HaveStepped book old new s t keep
  step_none none = record {
    count = went.count;
    empty = λ r l. went.none none r ∙ l;
    each = λ r c has. idle r c has (went.none none r) (λ e. not_both old t c (subst (λ x. Has old x c) e has) none) (λ e. none);
    joined = λ a b ha hb. absurd (not_both old t b (sym (went.none none t) ∙ hb) none);
    begun = λ a b e ha hb. absurd (not_both old t b (sym (went.none none t) ∙ hb) none);
  }

  step_alone : (b : CellView) → Has old t b → Lacks old s → HaveStepped book old new s t keep
  step_alone b hb lacks =
      let received = went.alone b hb lacks in
      let step = alone_step book s t old going ls lt apart keep drop_from keep_is drop_is b received.to_now hb lacks received.rewound in
      record {
        count = went.count;
        empty = λ r l. ⊎_elim
            (λ e. subst (λ x. Lacks new x) (sym e) (went.empty lacks))
            (λ n. went.others r n (λ e. not_both old t b hb (subst (λ x. Lacks old x) e l)) ∙ l)
            (cases_eq r s);
        each = λ r c has. ⊎_elim
            (λ e.
            let same : b ≡ c = one_cell old t b c hb (subst (λ x. Has old x c) e has) in
            subst (λ x. HasStep book old new s t keep x c) (sym e) (subst (λ x. HasStep book old new s t keep t x) same (record {
              cell = received.to_now;
              has = received.has;
              step = step;
            })))
            (λ n. idle r c has (went.others r (λ e. not_both old s c (subst (λ x. Has old x c) e has) lacks) n) n
            (λ e. absurd (not_both old s c (subst (λ x. Has old x c) e has) lacks)))
            (cases_eq r t);
        joined = λ a c ha hc. absurd (not_both new s a ha (went.empty lacks));
        begun = λ a c e ha hc. absurd (not_both new s a ha (went.empty lacks));
      }

  step_both : (a b : CellView) → Has old s a → Has old t b → HaveStepped book old new s t keep
  step_both a b ha hb =
      let both = went.pair a b ha hb in
      let a' : CellView = both.sender.from_now in
      let b' : CellView = both.to_now in
      let send : IsStep book old s t keep s a a' = sender_step book s t old going ls lt apart keep drop_from keep_is
      drop_is a a' b b' ha hb both.sender.rewound run in
      let receive : IsStep book old s t keep t b b' = receiver_step book s t old going ls lt apart keep drop_from
      keep_is drop_is a a' b b' ha hb both.sender.rewound run in
      record {
        count = went.count;
        empty = λ r l. went.others r (λ e. not_both old s a ha (subst (λ x. Lacks old x) e l)) (λ e. not_both old t b hb (subst (λ x. Lacks old x) e l)) ∙ l;
        each = λ r c has. ⊎_elim
            (λ e.
            let same : a ≡ c = one_cell old s a c ha (subst (λ x. Has old x c) e has) in
            subst (λ x. HasStep book old new s t keep x c) (sym e) (subst (λ x. HasStep book old new s t keep s x) same (record {
              cell = a';
              has = both.sender.has;
              step = send;
            })))
            (λ n. ⊎_elim
            (λ e.
            let same : b ≡ c = one_cell old t b c hb (subst (λ x. Has old x c) e has) in
            subst (λ x. HasStep book old new s t keep x c) (sym e) (subst (λ x. HasStep book old new s t keep t x) same (record {
              cell = b';
              has = both.has;
              step = receive;
            })))
            (λ m. idle r c has (went.others r n m) m (λ e. absurd (n e)))
            (cases_eq r t))
            (cases_eq r s);
        joined = λ x y hx hy. subst (λ (z : CellView × CellView). AreJoined z.0 z.1)
            (λ i. (one_cell new s a' x both.sender.has hx i, one_cell new t b' y both.has hy i))
            (both_joined book s t old going ls lt apart keep drop_from keep_is drop_is a a' b b' ha hb
            both.sender.rewound);
        begun = λ x y d hx hy. subst (λ (z : CellView × CellView). Begins (inbox_from z.0 z.1 d).list
            (post_to z.0 z.1 d).list) (λ i. (
              one_cell new s a' x both.sender.has hx i,
              one_cell new t b' y both.has hy i,
            )) (both_begun book s t old going ls lt apart keep drop_from keep_is drop_is a a' b b' ha hb
            both.sender.rewound d);
      }

  pub have_stepped : HaveStepped book old new s t keep
  have_stepped = ⊎_elim
      step_none
      (λ b. ⊎_elim
      (λ lacks. step_alone b.0 b.1 lacks)
      (λ a. step_both a.0 b.0 a.1 b.1)
      (either old s (let c = going.count in omega (arith, c, ls))))
      (either old t (let c = going.count in omega (arith, c, lt)))

-- what is told of a cell without its ends is so of each with its part
going_by : (book : BookView) (r : ℕ) (c c' : CellView) → c'.part ≡ c.part → IsGoing book r c → IsGoing book r c'
going_by book r c c' same g =
    let moved : IsGoing book r (cell_of c.part c'.posts c'.inboxes) = record {
      setup_is = g.setup_is;
      role_is = g.role_is;
      failed = g.failed;
      back = g.back;
      made = g.made;
      base = g.base;
      held = g.held;
      attempt = g.attempt;
    } in
    subst (λ (p : PartView). IsGoing book r (cell_of p c'.posts c'.inboxes)) (sym same) moved

module _ (book : BookView) (s t keep : ℕ) (old new : List (Option CellView)) (going : AreGoing book s t old)
    (ls : s < roles_of book.setup) (lt : t < roles_of book.setup) (apart : s ≡ t → ⊥)
    (went : HaveStepped book old new s t keep) where
  record Before (r : ℕ) (c' : CellView) : Type 0 where
    cell : CellView
    has : Has old r cell
    step : IsStep book old s t keep r cell c'

  before : (r : ℕ) (c' : CellView) → Has new r c' → Before r c'
  before r c' has = ⊎_elim
      (λ l. absurd (not_both new r c' has (went.empty r l)))
      (λ c. let now = went.each r c.0 c.1 in record {
        cell = c.0;
        has = c.1;
        step = subst (λ x. IsStep book old s t keep r c.0 x) (one_cell new r now.cell c' now.has has) now.step;
      })
      (either old r (let w = get_within new r (Some c') has in let n = went.count in omega (arith, w, n)))

  -- the channel between two others is as it was
  pair_on : (P : End → End → Type 0) (x y : ℕ) (a' b' : CellView) (d : End) → (fa : Before x a') → (fb : Before y b')
      → (x ≡ y → ⊥) → (x ≡ s → y ≡ t → ⊥) → P (post_to fa.cell fb.cell d) (inbox_from fa.cell fb.cell d)
      → P (post_to a' b' d) (inbox_from a' b' d)
  pair_on P x y a' b' d fa fb n m h =
      let ra : fa.cell.part.role ≡ x = (going.each x fa.cell fa.has).role_is in
      let rb : fb.cell.part.role ≡ y = (going.each y fb.cell fb.has).role_is in
      let posts : end_at a'.posts x y d ≡ end_at fa.cell.posts x y d = fa.step.posts y d (λ e. n (sym e)) m in
      let inboxes : end_at b'.inboxes y x d ≡ end_at fb.cell.inboxes y x d = fb.step.inboxes x d n (λ e f. m f e) in
      let moved : P (end_at a'.posts x y d) (end_at b'.inboxes y x d) =
      subst (λ (z : End × End). P z.0 z.1) (λ i. (sym posts i, sym inboxes i))
      (by_roles P fa.cell fb.cell x y d ra rb h) in
      to_pair P a' b' x y d (ap (λ p. p.role) fa.step.part ∙ ra) (ap (λ p. p.role) fb.step.part ∙ rb) moved

  joined_on : (x y : ℕ) (a' b' : CellView) → Has new x a' → Has new y b' → (x ≡ y → ⊥) → AreJoined a' b'
  joined_on x y a' b' ha hb n d = ⊎_elim
      (λ e. ⊎_elim
      (λ f. went.joined a' b' (subst (λ z. Has new z a') e ha) (subst (λ z. Has new z b') f hb) d)
      (λ f. rest (λ g h. f h))
      (cases_eq y t))
      (λ e. rest (λ g h. e g))
      (cases_eq x s)
    where
      rest : (x ≡ s → y ≡ t → ⊥) → IsChannel (post_to a' b' d) (inbox_from a' b' d)
      rest m = let fa = before x a' ha in let fb = before y b' hb in
          pair_on IsChannel x y a' b' d fa fb n m (going.joined x y fa.cell fb.cell fa.has fb.has n d)

  begun_on : (x y : ℕ) (a' b' : CellView) (d : End) → Has new x a' → Has new y b' → (x ≡ y → ⊥) → Begins (inbox_from a' b' d).list (post_to a' b' d).list
  begun_on x y a' b' d ha hb n = ⊎_elim
      (λ e. ⊎_elim
      (λ f. went.begun a' b' d (subst (λ z. Has new z a') e ha) (subst (λ z. Has new z b') f hb))
      (λ f. rest (λ g h. f h))
      (cases_eq y t))
      (λ e. rest (λ g h. e g))
      (cases_eq x s)
    where
      rest : (x ≡ s → y ≡ t → ⊥) → Begins (inbox_from a' b' d).list (post_to a' b' d).list
      rest m = let fa = before x a' ha in let fb = before y b' hb in
          pair_on (λ p i. Begins i.list p.list) x y a' b' d fa fb n m
          (going.begun x y fa.cell fb.cell d fa.has fb.has n)

  posts_on : (r q : ℕ) (c' : CellView) (d : End) → Has new r c' → q < roles_of book.setup → (q ≡ r → ⊥)
      → HoldsPut (net_for book.setup) r q (by_then book (is_passed s (t + 1) r q) r c') c'.part.own.numbers.raw
      (end_at c'.posts r q d)
  posts_on r q c' d has lq n = ⊎_elim
      (λ e. ⊎_elim (λ f. this e f) (λ f. rest (λ g h. f h)) (cases_eq q t))
      (λ e. rest (λ g h. e g))
      (cases_eq r s)
    where
      rest : (r ≡ s → q ≡ t → ⊥) → HoldsPut (net_for book.setup) r q (by_then book (is_passed s (t + 1) r q) r c') c'.part.own.numbers.raw (end_at c'.posts r q d)
      rest m =
          let f = before r c' has in
          let old_holds : HoldsPut (net_for book.setup) r q (by_then book (is_passed s (t + 1) r q) r f.cell)
          f.cell.part.own.numbers.raw (end_at c'.posts r q d) =
          subst (λ (z : Bool × End). HoldsPut (net_for book.setup) r q (by_then book z.0 r f.cell)
          f.cell.part.own.numbers.raw z.1) (λ i. (sym (passed_on s t r q m) i, sym (f.step.posts q d n m) i))
          (going.posts r q f.cell d f.has lq n) in
          subst (λ (p : PartView). HoldsPut (net_for book.setup) r q
          (by_then book (is_passed s (t + 1) r q) r (cell_of p c'.posts c'.inboxes)) p.own.numbers.raw
          (end_at c'.posts r q d)) (sym f.step.part) old_holds

      this : r ≡ s → q ≡ t → HoldsPut (net_for book.setup) r q (by_then book (is_passed s (t + 1) r q) r c') c'.part.own.numbers.raw (end_at c'.posts r q d)
      this e g =
          let f = before r c' has in
          let raw : f.cell.part.own.numbers.raw ≡ c'.part.own.numbers.raw = sym (ap (λ p. p.own.numbers.raw) f.step.part) in
          let held : HoldsPut (net_for book.setup) s t (by_then book (is_passed s (t + 1) s t) s c') c'.part.own.numbers.raw
          (end_at c'.posts s t d) = subst (λ (z : Bool × ℕ). HoldsPut (net_for book.setup) s t
          (by_then book z.0 s c') z.1 (end_at c'.posts s t d)) (λ i. (sym (passed_now s t) i, raw i))
          (f.step.put d e) in
          subst (λ (z : ℕ × ℕ). HoldsPut (net_for book.setup) z.0 z.1
          (by_then book (is_passed s (t + 1) z.0 z.1) z.0 c') c'.part.own.numbers.raw (end_at c'.posts z.0 z.1 d))
          (λ i. (sym e i, sym g i)) held

  inboxes_on : (r q : ℕ) (c' : CellView) (d : End) → Has new r c' → q < roles_of book.setup → (q ≡ r → ⊥)
      → HoldsTaken (net_for book.setup) q r (by_then book (is_passed s (t + 1) q r) r c') (end_at c'.inboxes r q d)
  inboxes_on r q c' d has lq n = ⊎_elim
      (λ e. ⊎_elim (λ f. this e f) (λ f. rest (λ g h. f h)) (cases_eq q s))
      (λ e. rest (λ g h. e g))
      (cases_eq r t)
    where
      rest : (r ≡ t → q ≡ s → ⊥) → HoldsTaken (net_for book.setup) q r (by_then book (is_passed s (t + 1) q r) r c') (end_at c'.inboxes r q d)
      rest m =
          let f = before r c' has in
          let old_holds : HoldsTaken (net_for book.setup) q r (by_then book (is_passed s (t + 1) q r) r f.cell)
          (end_at c'.inboxes r q d) = subst (λ (z : Bool × End). HoldsTaken (net_for book.setup) q r
          (by_then book z.0 r f.cell) z.1) (λ i. (
            sym (passed_on s t q r (λ g h. m h g)) i,
            sym (f.step.inboxes q d n m) i,
          )) (going.inboxes r q f.cell d f.has lq n) in
          subst (λ (p : PartView). HoldsTaken (net_for book.setup) q r
          (by_then book (is_passed s (t + 1) q r) r (cell_of p c'.posts c'.inboxes)) (end_at c'.inboxes r q d))
          (sym f.step.part) old_holds

      this : r ≡ t → q ≡ s → HoldsTaken (net_for book.setup) q r (by_then book (is_passed s (t + 1) q r) r c') (end_at c'.inboxes r q d)
      this e g =
          let f = before r c' has in
          let held : HoldsTaken (net_for book.setup) s t (by_then book (is_passed s (t + 1) s t) t c')
          (end_at c'.inboxes t s d) = subst (λ z. HoldsTaken (net_for book.setup) s t (by_then book z t c')
          (end_at c'.inboxes t s d)) (sym (passed_now s t)) (f.step.taken d e) in
          subst (λ (z : ℕ × ℕ). HoldsTaken (net_for book.setup) z.1 z.0
          (by_then book (is_passed s (t + 1) z.1 z.0) z.0 c') (end_at c'.inboxes z.0 z.1 d))
          (λ i. (sym e i, sym g i)) held

  pub going_on : AreGoing book s (t + 1) new
  going_on = record {
    count = went.count ∙ going.count;
    each = λ r c' has. let f = before r c' has in going_by book r f.cell c' f.step.part (going.each r f.cell f.has);
    posts = posts_on;
    inboxes = inboxes_on;
    joined = joined_on;
    begun = begun_on;
    spared = λ r q c' has lacks.
        let f = before r c' has in
        going.spared r q f.cell f.has (lacked q lacks) ∙ ap (λ (p : PartView). put (net_for book.setup) r q p.own.events) (sym f.step.part);
  }
    where
      lacked : (q : ℕ) → Lacks new q → Lacks old q
      lacked q lacks = ⊎_elim
          (λ l. l)
          (λ c. let now = went.each q c.0 c.1 in absurd (not_both new q now.cell now.has lacks))
          (either old q (let w = get_within new q None lacks in let n = went.count in omega (arith, w, n)))

  alone_on : (r q : ℕ) (c c' : CellView) → Has old r c → IsStep book old s t keep r c c' → Lacks old q → HasGoneAlone r q c c'
  alone_on r q c c' has step lacks = ⊎_elim
      (λ e. ⊎_elim (λ f. this e f) (λ f. rest (λ g h. f h)) (cases_eq q s))
      (λ e. rest (λ g h. e g))
      (cases_eq r t)
    where
      other : q ≡ r → ⊥
      other e = not_both old r c has (subst (λ x. Lacks old x) e lacks)

      lq : q < roles_of book.setup
      lq = let w = get_within old q None lacks in let n = going.count in omega (arith, w, n)

      rest : (r ≡ t → q ≡ s → ⊥) → HasGoneAlone r q c c'
      rest m = record {
        post = λ d. step.spared q d lacks;
        count = length (taken (net_for book.setup) q r (by_then book (is_passed s t q r) r c));
        inbox = λ d. step.inboxes q d other m ∙ ap (λ n. received (end_at c.inboxes r q d) n) (going.inboxes r q c d has lq other).got;
      }

      this : r ≡ t → q ≡ s → HasGoneAlone r q c c'
      this e f = record {
        post = λ d. step.spared q d lacks;
        count = keep;
        inbox = λ d. subst (λ (z : ℕ × ℕ). end_at c'.inboxes z.0 z.1 d ≡ received (end_at c.inboxes z.0 z.1 d) keep)
            (λ i. (sym e i, sym f i)) (step.alone d e (subst (λ x. Lacks old x) f lacks));
      }

  pub moved_on : HaveMoved old new
  moved_on = record {
    count = went.count;
    empty = went.empty;
    each = λ r c has.
        let now = went.each r c has in
        record {
          cell = now.cell;
          has = now.has;
          base = ap (λ (p : PartView). p.base) now.step.part;
          log = ap (λ (p : PartView). p.log) now.step.part;
          alone = λ q lacks. alone_on r q c now.cell has now.step lacks;
        };
  }

-- where nothing is to be done
pub moved_self : (book : BookView) (s t : ℕ) (half : List (Option CellView)) → AreGoing book s t half → HaveMoved half half
moved_self book s t half going = record {
  count = refl;
  empty = λ r l. l;
  each = λ r c has. record {
    cell = c;
    has = has;
    base = refl;
    log = refl;
    alone = λ q lacks. record {
      post = λ d. refl;
      count = length (taken (net_for book.setup) q r (by_then book (is_passed s t q r) r c));
      inbox = λ d. ap (λ n. received (end_at c.inboxes r q d) n)
          (going.inboxes r q c d has (let w = get_within half q None lacks in let n = going.count in
          omega (arith, w, n)) (λ e. not_both half r c has (subst (λ x. Lacks half x) e lacks))).got;
    };
  };
}

passed_as : (book : BookView) (s t s' t' : ℕ) (half : List (Option CellView))
    → ((r q : ℕ) → r < roles_of book.setup → q < roles_of book.setup → (q ≡ r → ⊥)
    → is_passed s t r q ≡ is_passed s' t' r q) → AreGoing book s t half → AreGoing book s' t' half
passed_as book s t s' t' half same going = record {
  count = going.count;
  each = going.each;
  posts = λ r q c d has lq n. subst (λ p. HoldsPut (net_for book.setup) r q (by_then book p r c) c.part.own.numbers.raw
      (end_at c.posts r q d)) (same r q (low r c has) lq n) (going.posts r q c d has lq n);
  inboxes = λ r q c d has lq n. subst (λ p. HoldsTaken (net_for book.setup) q r (by_then book p r c)
      (end_at c.inboxes r q d)) (same q r lq (low r c has) (λ e. n (sym e))) (going.inboxes r q c d has lq n);
  joined = going.joined;
  begun = going.begun;
  spared = going.spared;
}
  where
    low : (r : ℕ) (c : CellView) → Has half r c → r < roles_of book.setup
    low r c has = let w = get_within half r (Some c) has in let n = going.count in omega (arith, w, n)

-- there is no channel from a role to itself
pub self_on : (book : BookView) (s t : ℕ) (half : List (Option CellView)) → s ≡ t → AreGoing book s t half → AreGoing book s (t + 1) half × HaveMoved half half
self_on book s t half e going = (
  passed_as book s t s (t + 1) half
      (λ r q lr lq n. sym (passed_on s t r q (λ f g. n (g ∙ sym e ∙ sym f)))) going,
  moved_self book s t half going,
)

-- behind the last channel of a sender comes the next one's first
pub next_sender : (book : BookView) (s t : ℕ) (half : List (Option CellView)) → t ≡ roles_of book.setup → AreGoing book s t half → AreGoing book (s + 1) 0 half
next_sender book s t half e going = passed_as book s t (s + 1) 0 half (λ r q lr lq n. same r q (omega (arith, lq, e))) going
  where
    same : (r q : ℕ) → q < t → is_passed s t r q ≡ is_passed (s + 1) 0 r q
    same r q lq = go (is_passed s t r q) (is_passed (s + 1) 0 r q) refl refl
      where
        go : (a b : Bool) → is_passed s t r q ≡ a → is_passed (s + 1) 0 r q ≡ b → a ≡ b
        go true true f g = refl
        go false false f g = refl
        go true false f g = absurd (grind (arith, nat_tests))
        go false true f g = absurd (grind (arith, nat_tests))

-- one move behind another
pub moved_then : (a b c : List (Option CellView)) → HaveMoved a b → HaveMoved b c → HaveMoved a c
moved_then a b c f g = record {
  count = g.count ∙ f.count;
  empty = λ r l. g.empty r (f.empty r l);
  each = λ r x has.
      let first = f.each r x has in
      let second = g.each r first.cell first.has in
      record {
        cell = second.cell;
        has = second.has;
        base = second.base ∙ first.base;
        log = second.log ∙ first.log;
        alone = λ q lacks.
            let one = first.alone q lacks in
            let two = second.alone q (f.empty q lacks) in
            record {
              post = λ d. two.post d ∙ one.post d;
              count = two.count;
              inbox = λ d. two.inbox d ∙ ap (λ (e : End). received e two.count) (one.inbox d);
            };
      };
}
