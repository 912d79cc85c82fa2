-- The parts go back, one after another.
use Rattle.std.proofs.Common.{◌≡◌, ℕ, ◌+◌, ◌<◌, Bool, true, false, Option, Some, None, List, length, refl, sym, ◌∙◌, ap, subst, ⊎_elim, arith}
use Rattle.std.specs.Prelude.{slice_get, slice_set, if◌then◌else◌, IsTrue, ◌↔◌}
use Rattle.std.proofs.lemmas.Bool.{cases_eq, cases_lt}
use Rattle.std.proofs.lemmas.Bool.Decides.{nat_tests}
use Rattle.rcv_tree.specs.declared.event.Event.{Event}
use Rattle.rcv_model.specs.Run.{taken}
use Rattle.rcv_model.specs.Journal.{Own, own_of, IsLegal}
use Rattle.rcv_model.specs.Final.{IsCrashed}
use Rattle.rcv_model.proofs.Numbers.{bounded}
use Rattle.rcv_model.proofs.Roles.{runs}
use Rattle.rcv_theory.specs.Own.{own_back}
use Rattle.rcv_ring.specs.Lists.{Begins}
use Rattle.rcv_mailbox.specs.Ends.{End, IsChannel, received}
use Rattle.rcv_session.specs.Session.{SessionView, roles_of, net_for, rules_of}
use Rattle.rcv_core.specs.Book.{BookView, state_of}
use Rattle.rcv_role.specs.Part.{HasNoStrangers}
use Rattle.rcv_role.specs.Ends.{end_at, IsSettledWith}
use Rattle.rcv_role.specs.Cell.{CellView, cell_of, IsSettled, IsSettledAt, post_to, inbox_from}
use Rattle.rcv_rollback.specs.Halves.{Has, Lacks}
use Rattle.rcv_rollback.specs.Back.{kept_of, kept_in, clock_in_book, CanGoBack, HasGone, HasGoneAlone, HaveGoneBack}
use Rattle.rcv_rollback.specs.Going.{StayBut, IsGoing, HoldsPut, HoldsTaken, is_passed, by_then, AreGoing, HasMoved, HaveMoved, part_back, HasGoneInPlace, HasGoneAt, AreGone}
use Rattle.rcv_rollback.proofs.Standing.{get_within, one_cell, not_both, set_here, stay_set}

module _ (book : BookView) (r : ℕ) (stays : Bool) (legal : IsLegal (rules_of book.setup) book.entries)
    (lr : r < roles_of book.setup) (tells : IsTrue stays ↔ IsCrashed (state_of book) r) where
  pub is_running : stays ≡ false → (own_of (state_of book) r).numbers.crashed ≡ false
  is_running e = runs (state_of book) r (let n = (bounded (rules_of book.setup) book.entries legal).numbers in omega (arith, n, lr))
      (λ f. no stays e (tells.1 f))
    where
      no : (b : Bool) → b ≡ false → IsTrue b → ⊥
      no true f t = absurd (cc)
      no false f t = absurd (grind (arith, nat_tests))

  pub is_crashed : stays ≡ true → (own_of (state_of book) r).numbers.crashed ≡ true
  is_crashed e = (tells.0 (yes stays e)).1
    where
      yes : (b : Bool) → b ≡ true → IsTrue b
      yes true f = refl
      yes false f = absurd (cc)

  -- a role that stays crashed was so before
  pub was_crashed : (c : CellView) → IsGoing book r c → stays ≡ true → c.part.own.numbers.crashed ≡ true
  was_crashed c g e = go g.failed (sym (ap (λ (o : Own). o.numbers.crashed) g.back) ∙ is_crashed e)
    where
      go : (b : Bool) → (if b then false else c.part.own.numbers.crashed) ≡ true → c.part.own.numbers.crashed ≡ true
      go true f = absurd (cc)
      go false f = f

  abbrev with_crashed : Own → Bool → Own
  with_crashed o b = record o { numbers = record o.numbers { crashed = b } }

  -- what the book has of the role is what the cell has
  own_gone : (c : CellView) → IsGoing book r c → (keep clock : ℕ) → keep ≡ kept_in book r
      → clock ≡ clock_in_book book r → own_of (state_of book) r ≡ (part_back stays c.part keep clock).own
  own_gone c g keep clock k t = subst (λ (z : ℕ × ℕ). own_of (state_of book) r ≡ (part_back stays c.part z.0 z.1).own) (λ i. (sym k i, sym t i)) (go stays refl)
    where
      mark : (b : Bool) → b ≡ (if g.failed then false else c.part.own.numbers.crashed)
          → own_of (state_of book) r ≡ with_crashed (own_back c.part.own (kept_in book r) true (clock_in_book book r)) b
      mark b e = g.back ∙ ap (with_crashed (own_back c.part.own (kept_in book r) true (clock_in_book book r))) (sym e)

      go : (b : Bool) → stays ≡ b → own_of (state_of book) r ≡ (part_back b c.part (kept_in book r) (clock_in_book book r)).own
      go true e = mark c.part.own.numbers.crashed (was_crashed c g e ∙ sym (is_crashed e) ∙ ap (λ (o : Own). o.numbers.crashed) g.back)
      go false e = mark false (sym (is_running e) ∙ ap (λ (o : Own). o.numbers.crashed) g.back)

  pub gone_in_place : (c c' : CellView) (keep clock : ℕ) → IsGoing book r c → keep ≡ kept_in book r
      → clock ≡ clock_in_book book r → c' ≡ cell_of (part_back stays c.part keep clock) c.posts c.inboxes
      → IsSettled c' → HasNoStrangers c'.part → HasGoneInPlace book r c c'
  gone_in_place c c' keep clock g k t is settled strangers = record {
    gone = record {
      setup_is = ap (λ (x : CellView). x.part.setup) is ∙ setup stays ∙ g.setup_is;
      role_is = ap (λ (x : CellView). x.part.role) is ∙ role stays ∙ g.role_is;
      own = own_gone c g keep clock k t ∙ sym (ap (λ (x : CellView). x.part.own) is);
      base = ap (λ (x : CellView). x.part.base) is ∙ base stays;
      log = ap (λ (x : CellView). x.part.log) is ∙ log stays;
      settled = settled;
      strangers = strangers;
    };
    posts = ap (λ (x : CellView). x.posts) is;
    inboxes = ap (λ (x : CellView). x.inboxes) is;
  }
    where
      setup : (b : Bool) → (part_back b c.part keep clock).setup ≡ c.part.setup
      setup true = refl
      setup false = refl

      role : (b : Bool) → (part_back b c.part keep clock).role ≡ c.part.role
      role true = refl
      role false = refl

      base : (b : Bool) → (part_back b c.part keep clock).base ≡ c.part.base
      base true = refl
      base false = refl

      log : (b : Bool) → (part_back b c.part keep clock).log ≡ c.part.log
      log true = refl
      log false = refl

-- how much is received from another role's channel
gots_at : (c : CellView) (events : List Event) (roles r q : ℕ) → roles_of c.part.setup ≡ roles → c.part.role ≡ r
    → IsSettledAt c events → q < roles → (q ≡ r → ⊥) → (d : End)
    → (end_at c.inboxes r q d).got ≡ length (taken (net_for c.part.setup) q c.part.role events)
gots_at c events roles r q f g settled lq n d = subst (λ x. (end_at c.inboxes x q d).got ≡ length
    (taken (net_for c.part.setup) q c.part.role events)) g (settled q d (omega (arith, f, lq)) (λ e. n (e ∙ g))).got

stay_alone : (r q count : ℕ) (c c' : CellView) → c'.posts ≡ c.posts → c'.inboxes ≡ c.inboxes
    → ((d : End) → (end_at c.inboxes r q d).got ≡ count) → HasGoneAlone r q c c'
stay_alone r q count c c' f g got = record {
  post = λ d. ap (λ l. end_at l r q d) f;
  count = count;
  inbox = λ d. ap (λ l. end_at l r q d) g ∙ ap (λ n. received (end_at c.inboxes r q d) n) (got d);
}

module _ (book : BookView) (n : ℕ) (old : List (Option CellView)) (gone : AreGone book n old) where
  alone_here : (r q : ℕ) (c c' : CellView) → Has old r c → Lacks old q → c'.posts ≡ c.posts → c'.inboxes ≡ c.inboxes → HasGoneAlone r q c c'
  alone_here r q c c' has lacks f g = ⊎_elim
      (λ lt. let now = gone.gone r c has lt in stay_alone r q _ c c' f g
      (gots_at c c.part.own.events (roles_of book.setup) r q (ap roles_of now.setup_is) now.role_is now.settled lq
      other))
      (λ le. let left = gone.left r c has le in stay_alone r q _ c c' f g
      (gots_at c (kept_of book r) (roles_of book.setup) r q (ap roles_of left.0.setup_is) left.0.role_is left.1 lq
      other))
      (cases_lt r n)
    where
      other : q ≡ r → ⊥
      other e = not_both old r c has (subst (λ x. Lacks old x) e lacks)

      lq : q < roles_of book.setup
      lq = let w = get_within old q None lacks in let k = gone.count in omega (arith, w, k)

  role_here : (r : ℕ) (c : CellView) → Has old r c → c.part.role ≡ r
  role_here r c has = ⊎_elim (λ lt. (gone.gone r c has lt).role_is) (λ le. (gone.left r c has le).0.role_is) (cases_lt r n)

  pub gone_self : HaveMoved old old
  gone_self = record {
    count = refl;
    empty = λ r l. l;
    each = λ r c has. record { cell = c; has = has; base = refl; log = refl; alone = λ q lacks. alone_here r q c c has lacks refl refl };
  }

  -- a place without a cell
  module _ (new : List (Option CellView)) (lacks : Lacks old n) (lacks' : Lacks new n) (stay : StayBut old new n) where
    same : (r : ℕ) → slice_get new r ≡ slice_get old r
    same r = ⊎_elim (λ e. ap (slice_get new) e ∙ lacks' ∙ sym lacks ∙ ap (slice_get old) (sym e)) (λ m. stay.others r m) (cases_eq r n)

    pub none_on : AreGone book (n + 1) new
    none_on = record {
      count = stay.count ∙ gone.count;
      left = λ r c has le. gone.left r c (sym (same r) ∙ has) (omega (arith, le));
      gone = λ r c has lt. ⊎_elim
          (λ l. gone.gone r c (sym (same r) ∙ has) l)
          (λ l. absurd (not_both new n c (subst (λ x. Has new x c) (omega (arith, lt, l)) has) lacks'))
          (cases_lt r n);
      joined = λ s r a b ha hb. gone.joined s r a b (sym (same s) ∙ ha) (sym (same r) ∙ hb);
      begun = λ s r a b d ha hb. gone.begun s r a b d (sym (same s) ∙ ha) (sym (same r) ∙ hb);
    }

    pub none_moved : HaveMoved old new
    none_moved = record {
      count = stay.count;
      empty = λ r l. same r ∙ l;
      each = λ r c has. record { cell = c; has = same r ∙ has; base = refl; log = refl; alone = λ q l. alone_here r q c c has l refl refl };
    }

  -- a place with one
  module _ (new : List (Option CellView)) (x x' : CellView) (hx : Has old n x) (hx' : Has new n x') (stay : StayBut old new n)
      (went : HasGoneInPlace book n x x') where
    apart : (r : ℕ) → (r ≡ n → ⊥) → slice_get new r ≡ slice_get old r
    apart = stay.others

    record Before (r : ℕ) (c' : CellView) : Type 0 where
      cell : CellView
      has : Has old r cell
      posts : c'.posts ≡ cell.posts
      inboxes : c'.inboxes ≡ cell.inboxes
      role : cell.part.role ≡ r
      role_now : c'.part.role ≡ r

    before : (r : ℕ) (c' : CellView) → Has new r c' → Before r c'
    before r c' has = ⊎_elim
        (λ e. subst (λ k. Before k c') (sym e) (subst (λ y. Before n y) (one_cell new n x' c' hx' (subst (λ k. Has new k c') e has)) (record {
          cell = x;
          has = hx;
          posts = went.posts;
          inboxes = went.inboxes;
          role = role_here n x hx;
          role_now = went.gone.role_is;
        })))
        (λ m. let h : Has old r c' = sym (apart r m) ∙ has in record {
          cell = c';
          has = h;
          posts = refl;
          inboxes = refl;
          role = role_here r c' h;
          role_now = role_here r c' h;
        })
        (cases_eq r n)

    pair_on : (P : End → End → Type 0) (s r : ℕ) (a' b' : CellView) (d : End) → (fa : Before s a')
        → (fb : Before r b') → P (post_to fa.cell fb.cell d) (inbox_from fa.cell fb.cell d)
        → P (post_to a' b' d) (inbox_from a' b' d)
    pair_on P s r a' b' d fa fb h = subst (λ (z : (List End × List End) × (ℕ × ℕ)). P (end_at z.0.0 z.1.0 z.1.1 d)
        (end_at z.0.1 z.1.1 z.1.0 d)) (λ i. (
          (sym fa.posts i, sym fb.inboxes i),
          ((fa.role ∙ sym fa.role_now) i, (fb.role ∙ sym fb.role_now) i),
        )) h

    gone_now : HasGone book n x' x'
    gone_now = let g = went.gone in record {
      setup_is = g.setup_is;
      role_is = g.role_is;
      own = g.own;
      base = refl;
      log = refl;
      settled = g.settled;
      strangers = g.strangers;
    }

    pub one_on : AreGone book (n + 1) new
    one_on = record {
      count = stay.count ∙ gone.count;
      left = λ r c has le. gone.left r c (sym (apart r (λ e. absurd (omega (arith, le, e)))) ∙ has) (omega (arith, le));
      gone = λ r c has lt. ⊎_elim
          (λ l. gone.gone r c (sym (apart r (λ e. absurd (omega (arith, l, e)))) ∙ has) l)
          (λ l.
          let e : r ≡ n = omega (arith, lt, l) in
          subst (λ k. HasGone book k c c) (sym e) (subst (λ y. HasGone book n y y) (one_cell new n x' c hx' (subst (λ k. Has new k c) e has)) gone_now))
          (cases_lt r n);
      joined = λ s r a b ha hb m d. let fa = before s a ha in let fb = before r b hb in
          pair_on IsChannel s r a b d fa fb (gone.joined s r fa.cell fb.cell fa.has fb.has m d);
      begun = λ s r a b d ha hb m. let fa = before s a ha in let fb = before r b hb in
          pair_on (λ p i. Begins i.list p.list) s r a b d fa fb (gone.begun s r fa.cell fb.cell d fa.has fb.has m);
    }

    pub one_moved : HaveMoved old new
    one_moved = record {
      count = stay.count;
      empty = λ r l. apart r (λ e. not_both old n x hx (subst (λ k. Lacks old k) e l)) ∙ l;
      each = λ r c has. ⊎_elim
          (λ e.
          let same : x ≡ c = one_cell old n x c hx (subst (λ k. Has old k c) e has) in
          subst (λ k. HasMoved old new k c) (sym e) (subst (λ y. HasMoved old new n y) same (record {
            cell = x';
            has = hx';
            base = went.gone.base;
            log = went.gone.log;
            alone = λ q l. alone_here n q x x' hx l went.posts went.inboxes;
          })))
          (λ m. record { cell = c; has = apart r m ∙ has; base = refl; log = refl; alone = λ q l. alone_here r q c c has l refl refl })
          (cases_eq r n);
    }

  -- a place is set to what became of what stood there
  pub settled_on : (x x' : Option CellView) → slice_get old n ≡ Some x → HasGoneAt book n x x'
      → AreGone book (n + 1) (slice_set old n x') × HaveMoved old (slice_set old n x')
  settled_on None x' has went =
      let new : List (Option CellView) = slice_set old n x' in
      let lacks : Lacks new n = set_here old n x' (get_within old n None has) ∙ ap Some went in
      (none_on new has lacks (stay_set old n x'), none_moved new has lacks (stay_set old n x'))
  settled_on (Some x) x' has went =
      let new : List (Option CellView) = slice_set old n x' in
      let there : Has new n went.0 = set_here old n x' (get_within old n (Some x) has) ∙ ap Some went.1 in
      (one_on new x went.0 has there (stay_set old n x') went.2, one_moved new x went.0 has there (stay_set old n x') went.2)

-- all channels went back: the ends hold what the book keeps
all_passed : (n r q : ℕ) → r < n → is_passed n 0 r q ≡ true
all_passed n r q lt = go (is_passed n 0 r q) refl
  where
    go : (b : Bool) → is_passed n 0 r q ≡ b → b ≡ true
    go true f = refl
    go false f = absurd (grind (arith, nat_tests))

none_passed : (r q : ℕ) → is_passed 0 0 r q ≡ false
none_passed r q = go (is_passed 0 0 r q) refl
  where
    go : (b : Bool) → is_passed 0 0 r q ≡ b → b ≡ false
    go true f = absurd (grind (arith, nat_tests))
    go false f = refl

pub to_settle : (book : BookView) (half : List (Option CellView)) → AreGoing book (roles_of book.setup) 0 half → AreGone book 0 half
to_settle book half going = record {
  count = going.count;
  left = λ r c has le. (going.each r c has, settled r c has);
  gone = λ r c has lt. absurd (omega (arith, lt));
  joined = going.joined;
  begun = going.begun;
}
  where
    settled : (r : ℕ) (c : CellView) → Has half r c → IsSettledAt c (kept_of book r)
    settled r c has q d lq n =
        let g = going.each r c has in
        let low : r < roles_of book.setup = let w = get_within half r (Some c) has in let k = going.count in omega (arith, w, k) in
        let lq' : q < roles_of book.setup = subst (λ v. q < roles_of v) g.setup_is lq in
        let m : q ≡ r → ⊥ = λ e. n (e ∙ sym g.role_is) in
        let p : HoldsPut (net_for book.setup) r q (kept_of book r) c.part.own.numbers.raw (end_at c.posts r q d) =
        subst (λ b. HoldsPut (net_for book.setup) r q (by_then book b r c) c.part.own.numbers.raw (end_at c.posts r q d))
        (all_passed (roles_of book.setup) r q low) (going.posts r q c d has lq' m) in
        let t : HoldsTaken (net_for book.setup) q r (kept_of book r) (end_at c.inboxes r q d) =
        subst (λ b. HoldsTaken (net_for book.setup) q r (by_then book b r c) (end_at c.inboxes r q d))
        (all_passed (roles_of book.setup) q r lq') (going.inboxes r q c d has lq' m) in
        let made : IsSettledWith (net_for book.setup) r q (kept_of book r) c.part.own.numbers.raw (end_at c.posts r q d) (end_at c.inboxes r q d) = record {
          put = p.put;
          through = p.through;
          got = t.got;
          taken = t.taken;
        } in
        subst (λ (z : SessionView × ℕ). IsSettledWith (net_for z.0) z.1 q (kept_of book r) c.part.own.numbers.raw
        (end_at c.posts z.1 q d) (end_at c.inboxes z.1 q d)) (λ i. (sym g.setup_is i, sym g.role_is i)) made

pub to_go : (book : BookView) (half : List (Option CellView)) → CanGoBack book half → AreGoing book 0 0 half
to_go book half can = record {
  count = can.count;
  each = λ r c has. let g = can.each r c has in record {
    setup_is = g.setup_is;
    role_is = g.role_is;
    failed = g.failed;
    back = g.back;
    made = g.made;
    base = g.base;
    held = g.held;
    attempt = g.attempt;
  };
  posts = λ r q c d has lq n. subst (λ b. HoldsPut (net_for book.setup) r q (by_then book b r c) c.part.own.numbers.raw
      (end_at c.posts r q d)) (sym (none_passed r q)) (let s = settled r q c d has lq n in record {
        put = s.put;
        through = s.through;
      });
  inboxes = λ r q c d has lq n. subst (λ b. HoldsTaken (net_for book.setup) q r (by_then book b r c)
      (end_at c.inboxes r q d)) (sym (none_passed q r)) (let s = settled r q c d has lq n in record {
        got = s.got;
        taken = s.taken;
      });
  joined = can.joined;
  begun = can.begun;
  spared = can.spared;
}
  where
    settled : (r q : ℕ) (c : CellView) (d : End) → Has half r c → q < roles_of book.setup → (q ≡ r → ⊥)
        → IsSettledWith (net_for book.setup) r q c.part.own.events c.part.own.numbers.raw (end_at c.posts r q d)
        (end_at c.inboxes r q d)
    settled r q c d has lq n =
        let g = can.each r c has in
        subst (λ (z : SessionView × ℕ). IsSettledWith (net_for z.0) z.1 q c.part.own.events c.part.own.numbers.raw
        (end_at c.posts z.1 q d) (end_at c.inboxes z.1 q d)) (λ i. (g.setup_is i, g.role_is i))
        (g.settled q d (subst (λ v. q < roles_of v) (sym g.setup_is) lq) (λ e. n (e ∙ g.role_is)))

pub gone_back_all : (book : BookView) (old new : List (Option CellView)) → length old ≡ roles_of book.setup
    → HaveMoved old new → AreGone book (roles_of book.setup) new → HaveGoneBack book old new
gone_back_all book old new count moved gone = record {
  count = moved.count;
  empty = moved.empty;
  each = λ r c has.
      let now = moved.each r c has in
      let g = gone.gone r now.cell now.has (let w = get_within old r (Some c) has in omega (arith, w, count)) in
      record {
        cell = now.cell;
        has = now.has;
        gone = record {
          setup_is = g.setup_is;
          role_is = g.role_is;
          own = g.own;
          base = now.base;
          log = now.log;
          settled = g.settled;
          strangers = g.strangers;
        };
        alone = now.alone;
      };
  joined = gone.joined;
  begun = gone.begun;
}
