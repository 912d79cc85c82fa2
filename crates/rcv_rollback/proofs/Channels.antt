-- The ends of one channel behind a rewind to what a book keeps.
use Prim.Native.Nat.{zero, suc}
use Rattle.std.proofs.Common.{◌≡◌, ℕ, ◌<◌, ◌≤◌, Bool, true, false, Option, Some, None, List, [], ◌∷◌, length, take, refl, sym, ◌∙◌, ap, subst, arith, append-nil, length-append}
use Rattle.std.specs.List.{filter_map, cons_option}
use Rattle.std.proofs.lemmas.Bool.Decides.{nat_tests}
use Rattle.rcv_tree.specs.declared.event.Event.{Event}
use Rattle.rcv_tree.specs.declared.event.Message.{Message}
use Rattle.rcv_model.specs.Net.{IsPrefix}
use Rattle.rcv_model.specs.Run.{put_by, taken_by, put, taken, IsRun}
use Rattle.rcv_model.proofs.Keeping.{put_through, taken_through}
use Rattle.rcv_mailbox.specs.Ends.{End, IsChannel, received}
use Rattle.rcv_ring.specs.Lists.{Begins}
use Rattle.rcv_session.specs.Session.{roles_of, net_for}
use Rattle.rcv_core.specs.Book.{BookView, state_of}
use Rattle.rcv_role.specs.Ends.{slot, end_at, AreRewound, OthersStay}
use Rattle.rcv_role.specs.Cell.{CellView, post_to, inbox_from, HaveRewound, HasRewoundAlone}
use Rattle.rcv_role.specs.Laws.{IsHeld}
use Rattle.rcv_role.proofs.Slots.{slot_apart}
use Rattle.rcv_role.proofs.Lawful.{rewinds_hold_first_events, rewinds_alone_hold_first_events}
use Rattle.rcv_rollback.specs.Halves.{Has, Lacks}
use Rattle.rcv_rollback.specs.Back.{kept_of, kept_in}
use Rattle.rcv_rollback.specs.Going.{CanRewind, CanRewindAlone, IsGoing, HoldsPut, HoldsTaken, is_passed, by_then, AreGoing, IsStep}
use Rattle.rcv_rollback.proofs.Standing.{not_both}

-- the channel that goes back next is still as it was
pub still : (s t : ℕ) → is_passed s t s t ≡ false
still s t = go (is_passed s t s t) refl
  where
    go : (b : Bool) → is_passed s t s t ≡ b → b ≡ false
    go true f = absurd (grind (arith, nat_tests))
    go false f = refl

fewer_left : {A B : Type 0} (f : A → Option B) (xs : List A) (k : ℕ) → length (filter_map f (take k xs)) ≤ length (filter_map f xs)
fewer_left f xs zero = omega arith
fewer_left f [] (suc k) = omega arith
fewer_left f (x ∷ xs) (suc k) = go (f x) (fewer_left f xs k)
  where
    go : (o : _) → length (filter_map f (take k xs)) ≤ length (filter_map f xs)
        → length (cons_option o (filter_map f (take k xs))) ≤ length (cons_option o (filter_map f xs))
    go None le = le
    go (Some y) le = omega (arith, le)

prefix_few : (xs ys : List Message) → IsPrefix xs ys → length xs ≤ length ys
prefix_few xs ys p = let e = ap length p.1 in omega (arith, length-append xs p.0, e)

-- what is said of a pair's ends, said by their roles
pub by_roles : (P : End → End → Type 0) (a b : CellView) (s t : ℕ) (d : End) → a.part.role ≡ s → b.part.role ≡ t
    → P (post_to a b d) (inbox_from a b d) → P (end_at a.posts s t d) (end_at b.inboxes t s d)
by_roles P a b s t d f g h = subst (λ (z : ℕ × ℕ). P (end_at a.posts z.0 z.1 d) (end_at b.inboxes z.1 z.0 d)) (λ i. (f i, g i)) h

pub to_pair : (P : End → End → Type 0) (a b : CellView) (s t : ℕ) (d : End) → a.part.role ≡ s → b.part.role ≡ t
    → P (end_at a.posts s t d) (end_at b.inboxes t s d) → P (post_to a b d) (inbox_from a b d)
to_pair P a b s t d f g h = subst (λ (z : ℕ × ℕ). P (end_at a.posts z.0 z.1 d) (end_at b.inboxes z.1 z.0 d)) (λ i. (sym f i, sym g i)) h

module _ (book : BookView) (s t : ℕ) (half : List (Option CellView)) (going : AreGoing book s t half)
    (ls : s < roles_of book.setup) (lt : t < roles_of book.setup) (apart : s ≡ t → ⊥) where
  pub kept_first : (r : ℕ) (c : CellView) → IsGoing book r c → kept_of book r ≡ take (kept_in book r) c.part.own.events
  kept_first r c g = ap (λ o. o.events) g.back

  pub put_own : (a : CellView) (d : End) → Has half s a → HoldsPut (net_for book.setup) s t a.part.own.events a.part.own.numbers.raw (end_at a.posts s t d)
  put_own a d has = subst (λ p. HoldsPut (net_for book.setup) s t (by_then book p s a) a.part.own.numbers.raw
      (end_at a.posts s t d)) (still s t) (going.posts s t a d has lt (λ e. apart (sym e)))

  pub taken_own : (b : CellView) (d : End) → Has half t b → HoldsTaken (net_for book.setup) s t b.part.own.events (end_at b.inboxes t s d)
  taken_own b d has = subst (λ p. HoldsTaken (net_for book.setup) s t (by_then book p t b) (end_at b.inboxes t s d))
      (still s t) (going.inboxes t s b d has ls apart)

  put_first : (a : CellView) → IsGoing book s a → put (net_for book.setup) s t (state_of book).kept ≡ put
      (net_for book.setup) s t (take (kept_in book s) a.part.own.events)
  put_first a g = put_through (net_for book.setup) s t (state_of book).kept ∙ ap (put (net_for book.setup) s t) (kept_first s a g)

  taken_first : (b : CellView) → IsGoing book t b → taken (net_for book.setup) s t (state_of book).kept ≡ taken
      (net_for book.setup) s t (take (kept_in book t) b.part.own.events)
  taken_first b g = taken_through (net_for book.setup) s t (state_of book).kept ∙ ap (taken (net_for book.setup) s t) (kept_first t b g)

  few_put : (a : CellView) (d : End) → Has half s a → length (put (net_for book.setup) s t (state_of book).kept) ≤ length (end_at a.posts s t d).list
  few_put a d has =
      let e = ap length (put_first a (going.each s a has)) in
      let f = fewer_left (put_by (net_for book.setup) s t) a.part.own.events (kept_in book s) in
      let g = ap length (put_own a d has).put in
      omega (arith, e, f, g)

  few_taken : (b : CellView) (d : End) → Has half t b → length (taken (net_for book.setup) s t (state_of book).kept) ≤ (end_at b.inboxes t s d).got
  few_taken b d has =
      let e = ap length (taken_first b (going.each t b has)) in
      let f = fewer_left (taken_by (net_for book.setup) s t) b.part.own.events (kept_in book t) in
      let g = (taken_own b d has).got in
      omega (arith, e, f, g)

  pub in_order : IsRun (net_for book.setup) (state_of book).kept
      → length (taken (net_for book.setup) s t (state_of book).kept) ≤ length
      (put (net_for book.setup) s t (state_of book).kept)
  in_order run = prefix_few _ _ (run.1.queued (state_of book).kept [] (append-nil (state_of book).kept) s t)

  module _ (keep drop_from : ℕ) (keep_is : keep ≡ length (taken (net_for book.setup) s t (state_of book).kept))
      (drop_is : drop_from ≡ length (put (net_for book.setup) s t (state_of book).kept)) where
    -- both ends can go back, or the receiving one alone
    pub can_both : IsRun (net_for book.setup) (state_of book).kept → (a b : CellView) → Has half s a → Has half t b → CanRewind a b keep drop_from
    can_both run a b ha hb =
        let ga = going.each s a ha in
        let gb = going.each t b hb in
        record {
          setup = ga.setup_is ∙ sym gb.setup_is;
          apart = λ e. apart (sym ga.role_is ∙ e ∙ gb.role_is);
          channel = going.joined s t a b ha hb apart;
          got = λ d. to_pair (λ p i. keep ≤ i.got) a b s t d ga.role_is gb.role_is (let f = few_taken b d hb in omega (arith, f, keep_is));
          order = let f = in_order run in omega (arith, f, keep_is, drop_is);
          put = λ d. to_pair (λ p i. drop_from ≤ length p.list) a b s t d ga.role_is gb.role_is (let f = few_put a d ha in omega (arith, f, drop_is));
        }

    pub can_alone : (b : CellView) → Has half t b → CanRewindAlone b s keep
    can_alone b hb =
        let gb = going.each t b hb in
        record {
          declared = subst (λ v. s < roles_of v) (sym gb.setup_is) ls;
          apart = λ e. apart (e ∙ gb.role_is);
          got = λ d. subst (λ r. keep ≤ (end_at b.inboxes r s d).got) (sym gb.role_is) (let f = few_taken b d hb in omega (arith, f, keep_is));
        }

    -- the receiving end went back alone
    module _ (b b' : CellView) (hb : Has half t b) (lacks : Lacks half s) (went : HasRewoundAlone b b' s keep) where
      alone_end : (d : End) → end_at b'.inboxes t s d ≡ received (end_at b.inboxes t s d) keep
      alone_end d = subst (λ r. end_at b'.inboxes r s d ≡ received (end_at b.inboxes r s d) keep) (going.each t b hb).role_is (went.inbox d)

      alone_others : OthersStay b.inboxes b'.inboxes (slot t s)
      alone_others = subst (λ r. OthersStay b.inboxes b'.inboxes (slot r s)) (going.each t b hb).role_is went.other_inboxes

      alone_held : (d : End) → HoldsTaken (net_for book.setup) s t (kept_of book t) (end_at b'.inboxes t s d)
      alone_held d =
          let own = taken_own b d hb in
          let before : IsHeld (net_for book.setup) s t [] b.part.own.events (record d { list = [] }) (end_at b.inboxes t s d) = record {
            put = refl;
            count = own.got;
            taken = own.taken;
          } in
          let behind = rewinds_alone_hold_first_events (net_for book.setup) s t [] b.part.own.events
          (record d { list = [] }) (end_at b.inboxes t s d) (kept_in book t) before in
          let count : length (taken (net_for book.setup) s t (take (kept_in book t) b.part.own.events)) ≡ keep =
          sym (keep_is ∙ ap length (taken_first b (going.each t b hb))) in
          let made : HoldsTaken (net_for book.setup) s t (take (kept_in book t) b.part.own.events)
          (received (end_at b.inboxes t s d) (length
          (taken (net_for book.setup) s t (take (kept_in book t) b.part.own.events)))) = record {
            got = behind.count;
            taken = behind.taken;
          } in
          subst (HoldsTaken (net_for book.setup) s t (kept_of book t)) (sym (alone_end d))
          (subst (λ n. HoldsTaken (net_for book.setup) s t (kept_of book t) (received (end_at b.inboxes t s d) n))
          count (subst (λ l. HoldsTaken (net_for book.setup) s t l
          (received (end_at b.inboxes t s d) (length
          (taken (net_for book.setup) s t (take (kept_in book t) b.part.own.events)))))
          (sym (kept_first t b (going.each t b hb))) made))

      pub alone_step : IsStep book half s t keep t b b'
      alone_step = record {
        part = went.part;
        posts = λ q d n m. ap (λ l. end_at l t q d) went.posts;
        inboxes = λ q d n m. alone_others.others (slot t q) d (slot_apart t q s n apart (m refl));
        spared = λ q d l. ap (λ l. end_at l t q d) went.posts;
        alone = λ d e l. alone_end d;
        put = λ d e. absurd (apart (sym e));
        taken = λ d e. alone_held d;
      }

    -- both ends went back
    module _ (a a' b b' : CellView) (ha : Has half s a) (hb : Has half t b) (went : HaveRewound a a' b b' keep drop_from) where
      now_s : a'.part.role ≡ s
      now_s = ap (λ p. p.role) went.sender_part ∙ (going.each s a ha).role_is

      now_t : b'.part.role ≡ t
      now_t = ap (λ p. p.role) went.receiver_part ∙ (going.each t b hb).role_is

      both_ends : (d : End) → AreRewound (end_at a.posts s t d) (end_at a'.posts s t d) (end_at b.inboxes t s d) (end_at b'.inboxes t s d) keep drop_from
      both_ends d =
          subst (λ (z : (ℕ × ℕ) × (ℕ × ℕ)). AreRewound (end_at a.posts z.0.0 z.0.1 d) (end_at a'.posts z.1.0 z.1.1 d)
          (end_at b.inboxes z.0.1 z.0.0 d) (end_at b'.inboxes z.1.1 z.1.0 d) keep drop_from)
          (λ i. (((going.each s a ha).role_is i, (going.each t b hb).role_is i), (now_s i, now_t i)))
          (went.rewound d)

      other_posts : OthersStay a.posts a'.posts (slot s t)
      other_posts = subst (λ (z : ℕ × ℕ). OthersStay a.posts a'.posts (slot z.0 z.1))
          (λ i. ((going.each s a ha).role_is i, (going.each t b hb).role_is i)) went.other_posts

      other_inboxes : OthersStay b.inboxes b'.inboxes (slot t s)
      other_inboxes = subst (λ (z : ℕ × ℕ). OthersStay b.inboxes b'.inboxes (slot z.1 z.0))
          (λ i. ((going.each s a ha).role_is i, (going.each t b hb).role_is i)) went.other_inboxes

      both_held : IsRun (net_for book.setup) (state_of book).kept → (d : End)
          → IsHeld (net_for book.setup) s t (kept_of book s) (kept_of book t) (end_at a'.posts s t d)
          (end_at b'.inboxes t s d)
      both_held run d =
          let posted = put_own a d ha in
          let own = taken_own b d hb in
          let before : IsHeld (net_for book.setup) s t a.part.own.events b.part.own.events (end_at a.posts s t d) (end_at b.inboxes t s d) = record {
            put = posted.put;
            count = own.got;
            taken = own.taken;
          } in
          let behind = rewinds_hold_first_events (net_for book.setup) s t a.part.own.events b.part.own.events
          (end_at a.posts s t d) (end_at a'.posts s t d) (end_at b.inboxes t s d) (end_at b'.inboxes t s d)
          (kept_in book s) (kept_in book t) before (record {
            keep = keep;
            drop_from = drop_from;
            order = (let f = in_order run in omega (arith, f, keep_is, drop_is));
            keep_is = keep_is ∙ ap length (taken_first b (going.each t b hb));
            drop_is = drop_is ∙ ap length (put_first a (going.each s a ha));
            rewound = both_ends d;
          }) in
          subst (λ (z : List Event × List Event). IsHeld (net_for book.setup) s t z.0 z.1 (end_at a'.posts s t d)
          (end_at b'.inboxes t s d)) (λ i. (
            sym (kept_first s a (going.each s a ha)) i,
            sym (kept_first t b (going.each t b hb)) i,
          )) behind

      pub sender_step : IsRun (net_for book.setup) (state_of book).kept → IsStep book half s t keep s a a'
      sender_step run = record {
        part = went.sender_part;
        posts = λ q d n m. other_posts.others (slot s q) d (slot_apart s q t n (λ e. apart (sym e)) (m refl));
        inboxes = λ q d n m. ap (λ l. end_at l s q d) went.sender_inboxes;
        spared = λ q d l. other_posts.others (slot s q) d
            (slot_apart s q t (λ e. not_both half s a ha (subst (λ r. Lacks half r) e l)) (λ e. apart (sym e))
            (λ e. not_both half t b hb (subst (λ r. Lacks half r) e l)));
        alone = λ d e l. absurd (apart e);
        put = λ d e. record {
          put = (both_held run d).put;
          through = (let f = (both_ends d).through in let g = (put_own a d ha).through in omega (arith, f, g));
        };
        taken = λ d e. absurd (apart e);
      }

      pub receiver_step : IsRun (net_for book.setup) (state_of book).kept → IsStep book half s t keep t b b'
      receiver_step run = record {
        part = went.receiver_part;
        posts = λ q d n m. ap (λ l. end_at l t q d) went.receiver_posts;
        inboxes = λ q d n m. other_inboxes.others (slot t q) d (slot_apart t q s n apart (m refl));
        spared = λ q d l. ap (λ l. end_at l t q d) went.receiver_posts;
        alone = λ d e l. absurd (not_both half s a ha l);
        put = λ d e. absurd (apart (sym e));
        taken = λ d e. record { got = (both_held run d).count; taken = (both_held run d).taken };
      }

      pub both_joined : (d : End) → IsChannel (post_to a' b' d) (inbox_from a' b' d)
      both_joined d = to_pair IsChannel a' b' s t d now_s now_t (both_ends d).channel

      pub both_begun : (d : End) → Begins (inbox_from a' b' d).list (post_to a' b' d).list
      both_begun d = to_pair (λ p i. Begins i.list p.list) a' b' s t d now_s now_t ([], append-nil _ ∙ (both_ends d).taken ∙ sym (both_ends d).put)

  -- a cell that isn't the receiver's, and whose post is spared where it is the sender's
  pub idle_step : (keep r : ℕ) (c : CellView) → Has half r c → (r ≡ t → ⊥) → (r ≡ s → Lacks half t) → IsStep book half s t keep r c c
  idle_step keep r c has other spared = record {
    part = refl;
    posts = λ q d n m. refl;
    inboxes = λ q d n m. refl;
    spared = λ q d l. refl;
    alone = λ d e l. absurd (other e);
    put = λ d e.
        let hs : Has half s c = subst (λ x. Has half x c) e has in
        let own = put_own c d hs in
        record { put = own.put ∙ sym (going.spared s t c hs (spared e)); through = own.through };
    taken = λ d e. absurd (other e);
  }
