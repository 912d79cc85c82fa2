-- One event after another is gone over, in the order of the stamps.
use Rattle.std.proofs.Common.{◌≡◌, ℕ, zero, suc, ◌+◌, ◌-◌, ◌<◌, ◌≤◌, false, Some, List, [], ◌∷◌, ◌++◌, length, length-append, length-set, take, refl, sym, ◌∙◌, ap, subst, ⊎_elim, arith}
use Rattle.std.specs.Prelude.{slice_get, slice_index, slice_set}
use Rattle.std.proofs.lemmas.Bool.{cases_Bool, cases_eq, cases_lt}
use Rattle.std.proofs.lemmas.List.{get_or-set_same, get_or-set_other}
use Rattle.rcv_tree.specs.declared.event.Event.{Event}
use Rattle.rcv_tree.specs.declared.event.Message.{Message}
use Rattle.rcv_tree.specs.declared.event.Dir.{Dir}
use Rattle.rcv_tree.specs.declared.event.Dir.TheVariants.{Sent, Got}
use Rattle.rcv_model.specs.Net.{Net, IsPrefix}
use Rattle.rcv_model.specs.Run.{is_sent, puts_on, takes_on, put_by, taken_by, put, taken}
use Rattle.rcv_model.proofs.Keeping.{message_of}
use Rattle.rcv_model.proofs.Lists.{some_same, prefix_shorter, prefix_trans, prefix_map}
use Rattle.rcv_model.proofs.Located.{item, get_below}
use Rattle.rcv_model.proofs.Queues.{prefix_at, from_of, at_number, get_here, take_here, around, put_by_true, taken_by_some}
use Rattle.rcv_depend.specs.Logs.{between, IsSound}
use Rattle.rcv_ledger.specs.Logs.{log_at}
use Rattle.rcv_depend.specs.Cuts.{put_within, taken_within}
use Rattle.rcv_depend.proofs.Crossing.{sent_here, sent_else, got_here, no_put, apart}
use Rattle.rcv_ledger.proofs.Lists.{none_there}
use Rattle.rcv_guide.specs.declared.renewal.Front.{Front}
use Rattle.rcv_guide.specs.Renewal.{AreOrdered, ArePassed, IsLeast, IsNextEvent, left_in}
use Rattle.rcv_guide.proofs.Growing.{one_more_in}
use Rattle.rcv_guide.proofs.Staying.{take_more, put_both, taken_both, put_up, put_one, put_nothing, taken_one, taken_nothing, from_sender}

-- a role with an event has a log
pub logged : (logs : List (List Event)) (r n : ℕ) (e : Event) → slice_get (log_at logs r) n ≡ Some e → r < length logs
logged logs r n e at = ⊎_elim
    (λ lt. lt)
    (λ le. absurd (none n (sym at ∙ ap (λ l. slice_get l n) (none_there logs r [] le))))
    (cases_lt r (length logs))
  where
    none : (n : ℕ) → Some e ≡ slice_get [] n → ⊥
    none n f = absurd (cc)

module _ (net : Net) (logs : List (List Event)) (o : AreOrdered net logs) where
  -- the Send of a Recv is at a place of its own log, and its stamp is below the Recv's
  pub record IsSendOf (a r i k : ℕ) (e : Event) : Type 0 where
    pub place : ℕ
    pub event : Event
    pub there : slice_get (log_at logs a) place ≡ Some event
    pub before : event.stamp < e.stamp
    pub behind : k < length (put net a r (take (suc place) (log_at logs a)))

  pub send_of : (r i : ℕ) (e : Event) → slice_get (log_at logs r) i ≡ Some e → e.dir ≡ Got → IsSendOf (net.sender e.point) r i (length (taken net (net.sender e.point) r (take i (log_at logs r)))) e
  send_of r i e at got =
      let a = net.sender e.point in
      let k = length (taken net (net.sender e.point) r (take i (log_at logs r))) in
      let h = around (log_at logs r) i e at in
      let takes = got_here net (net.sender e.point) r e got refl (o.sound r i e at).role in
      let here : slice_get (taken net (net.sender e.point) r (log_at logs r)) (length (taken net (net.sender e.point) r (take i (log_at logs r)))) ≡ Some (message_of e) =
      ap (λ l. slice_get (taken net (net.sender e.point) r l) (length (taken net (net.sender e.point) r (take i (log_at logs r))))) (sym h.whole)
      ∙ ap (λ l. slice_get (taken net (net.sender e.point) r (h.front ++ e ∷ h.back)) (length (taken net (net.sender e.point) r l))) h.taken_is
      ∙ at_number (taken_by net (net.sender e.point) r) h.front h.back e (message_of e) (taken_by_some net (net.sender e.point) r e takes) in
      let f = from_of (put_by net (net.sender e.point) r) (log_at logs (net.sender e.point)) k (message_of e) (prefix_at _ _ k (message_of e) (o.queued (net.sender e.point) r) here) in
      let there : slice_get (log_at logs (net.sender e.point)) (length f.front) ≡ Some f.item = ap (λ l. slice_get l (length f.front)) (sym f.whole) ∙ get_here f.front f.back f.item in
      let puts = put_by_true net (net.sender e.point) r f.item (message_of e) f.gives in
      let stamp = ap (λ (m : Message). m.stamp) puts.1 in
      let later = o.after r i e at got in
      let first : take (suc (length f.front)) (log_at logs (net.sender e.point)) ≡ f.front ++ f.item ∷ [] =
      take_more (length f.front) (log_at logs (net.sender e.point)) f.item there
      ∙ ap (λ l. take (length f.front) l ++ f.item ∷ []) (sym f.whole)
      ∙ ap (λ l. l ++ f.item ∷ []) (take_here f.front (f.item ∷ f.back)) in
      let size = ap length (ap (put net (net.sender e.point) r) first ∙ put_both net (net.sender e.point) r f.front (f.item ∷ [])) in
      let one = ap length (put_one net (net.sender e.point) r f.item puts.0) in
      let many = length-append (put net (net.sender e.point) r f.front) (put net (net.sender e.point) r (f.item ∷ [])) in
      let number = f.number in
      record {
        place = length f.front;
        event = f.item;
        there = there;
        before = omega (arith, stamp, later);
        behind = omega (arith, size, one, many, number);
      }

  -- the next event with the least stamp has its message behind it
  pub next_of : (counts : List ℕ) (front : Front) → IsLeast logs counts (length logs) front → IsNextEvent net logs counts front.role
  next_of counts front is = record {
    role = is.role;
    event = is.event;
    there = is.there;
    waits = λ got.
        let s = send_of front.role (slice_index counts front.role) is.event is.there got in
        let a = net.sender is.event.point in
        ⊎_elim
        (λ lt.
        let up = put_up net (net.sender is.event.point) front.role (suc s.place) (slice_index counts (net.sender is.event.point)) (log_at logs (net.sender is.event.point)) (omega (arith, lt)) in
        let low = s.behind in
        omega (arith, up, low))
        (λ le. absurd (late got s le))
        (cases_lt s.place (slice_index counts (net.sender is.event.point)));
  }
    where
      late : (got : is.event.dir ≡ Got) (s : IsSendOf (net.sender is.event.point) front.role (slice_index counts front.role) (length (taken net (net.sender is.event.point) front.role (take (slice_index counts front.role) (log_at logs front.role)))) is.event) → slice_index counts (net.sender is.event.point) ≤ s.place → ⊥
      late got s le =
          let below = get_below (log_at logs (net.sender is.event.point)) s.place s.event s.there in
          let x = item (log_at logs (net.sender is.event.point)) (slice_index counts (net.sender is.event.point)) (omega (arith, le, below)) in
          let least = is.least (net.sender is.event.point) x.0 (logged logs (net.sender is.event.point) (slice_index counts (net.sender is.event.point)) x.0 x.1) x.1 in
          let stamp = is.stamp in
          let before = s.before in
          ⊎_elim
          (λ lt. let up = o.grow (net.sender is.event.point) (slice_index counts (net.sender is.event.point)) s.place x.0 s.event lt x.1 s.there in omega (arith, least, stamp, before, up))
          (λ high.
          let here : slice_index counts (net.sender is.event.point) ≡ s.place = omega (arith, le, high) in
          let same : x.0 ≡ s.event = some_same (sym x.1 ∙ ap (slice_get (log_at logs (net.sender is.event.point))) here ∙ s.there) in
          let f = ap (λ (y : Event). y.stamp) same in
          omega (arith, least, stamp, before, f))
          (cases_lt (slice_index counts (net.sender is.event.point)) s.place)

-- of first events that take no more than is put, what is taken begins what is put
pub queued_within : (net : Net) (logs : List (List Event)) → AreOrdered net logs → (counts : List ℕ) (a b : ℕ) → taken_within net logs counts a b ≤ put_within net logs counts a b → IsPrefix (taken net a b (take (slice_index counts b) (log_at logs b))) (put net a b (take (slice_index counts a) (log_at logs a)))
queued_within net logs o counts a b le =
    prefix_shorter _ _ (put net a b (log_at logs a))
    (prefix_trans _ (taken net a b (log_at logs b)) _ (prefix_map (taken_by net a b) _ _ (begins (slice_index counts b) (log_at logs b))) (o.queued a b))
    (prefix_map (put_by net a b) _ _ (begins (slice_index counts a) (log_at logs a)))
    le
  where
    begins : {A : Type 0} (n : ℕ) (xs : List A) → IsPrefix (take n xs) xs
    begins zero xs = (xs, refl)
    begins (suc n) [] = ([], refl)
    begins (suc n) (x ∷ xs) = let p = begins n xs in (p.0, ap (λ l. x ∷ l) p.1)

-- one event more is gone over
module _ (net : Net) (logs : List (List Event)) (o : AreOrdered net logs) (counts : List ℕ) (r : ℕ) (next : IsNextEvent net logs counts r) where
  abbrev pub n : ℕ
  n = slice_index counts r

  abbrev pub now : List ℕ
  now = slice_set counts r (n + 1)

  e : Event
  e = next.event

  pub low : r < 8
  low = let a = o.few in let b = next.role in omega (arith, a, b)

  pub is_sound : IsSound net r next.event
  is_sound = o.sound r n next.event next.there

  pub step : take (n + 1) (log_at logs r) ≡ take n (log_at logs r) ++ next.event ∷ []
  step =
      let up : n + 1 ≡ suc n = omega arith in
      ap (λ k. take k (log_at logs r)) up ∙ take_more n (log_at logs r) next.event next.there

  module _ (eight : length counts ≡ 8) where
    pub count_own : slice_index now r ≡ n + 1
    count_own = get_or-set_same counts r (n + 1) 0 (omega (arith, eight, low))

    pub count_other : (q : ℕ) → (q ≡ r → ⊥) → slice_index now q ≡ slice_index counts q
    count_other q other = get_or-set_other counts r q (n + 1) 0 other

    put_own : (b : ℕ) → put net r b (take (slice_index now r) (log_at logs r)) ≡ put net r b (take n (log_at logs r)) ++ put net r b (next.event ∷ [])
    put_own b = ap (λ k. put net r b (take k (log_at logs r))) count_own ∙ ap (put net r b) step ∙ put_both net r b (take n (log_at logs r)) (next.event ∷ [])

    taken_own : (a : ℕ) → taken net a r (take (slice_index now r) (log_at logs r)) ≡ taken net a r (take n (log_at logs r)) ++ taken net a r (next.event ∷ [])
    taken_own a = ap (λ k. taken net a r (take k (log_at logs r))) count_own ∙ ap (taken net a r) step ∙ taken_both net a r (take n (log_at logs r)) (next.event ∷ [])

    put_more : (a b : ℕ) → put_within net logs counts a b ≤ put_within net logs now a b
    put_more a b = ⊎_elim
        (λ f. let is = ap length (put_own b) in let size = length-append (put net r b (take n (log_at logs r))) (put net r b (next.event ∷ [])) in
        subst (λ q. put_within net logs counts q b ≤ put_within net logs now q b) (sym f) (omega (arith, is, size)))
        (λ other. let is = ap (λ k. length (put net a b (take k (log_at logs a)))) (count_other a other) in omega (arith, is))
        (cases_eq a r)

    got_of : (d : Dir) → is_sent d ≡ false → d ≡ Got
    got_of Sent f = absurd (cc)
    got_of Got f = refl

    taken_next : (a : ℕ) → taken_within net logs counts a r ≤ put_within net logs counts a r → taken_within net logs now a r ≤ put_within net logs counts a r
    taken_next a le =
        let is = ap length (taken_own a) in
        let size = length-append (taken net a r (take n (log_at logs r))) (taken net a r (next.event ∷ [])) in
        ⊎_elim
        (λ t.
        let s = from_sender net a r next.event t in
        let one = ap length (taken_one net a r next.event t) in
        let waits = subst (λ q. length (taken net q r (take n (log_at logs r))) < put_within net logs counts q r) s.2 (next.waits (got_of next.event.dir s.0)) in
        omega (arith, is, size, one, waits))
        (λ t. let none = ap length (taken_nothing net a r next.event t) in omega (arith, is, size, none, le))
        (cases_Bool (takes_on net a r next.event))

    pub even_more : ((a b : ℕ) → taken_within net logs counts a b ≤ put_within net logs counts a b) → (a b : ℕ) → taken_within net logs now a b ≤ put_within net logs now a b
    even_more even a b =
        let up = put_more a b in
        ⊎_elim
        (λ f. let t = subst (λ q. taken_within net logs now a q ≤ put_within net logs counts a q) (sym f) (taken_next a (even a r)) in omega (arith, up, t))
        (λ other. let is = ap (λ k. length (taken net a b (take k (log_at logs b)))) (count_other b other) in let le = even a b in omega (arith, up, is, le))
        (cases_eq b r)

    pub left_less : left_in logs counts ≡ left_in logs now + 1
    left_less = one_more_in (λ q. length (log_at logs q) - slice_index counts q) (λ q. length (log_at logs q) - slice_index now q) r 0 (length logs) (omega arith) (let lt = next.role in omega (arith, lt))
        (let own = count_own in let below = get_below (log_at logs r) n next.event next.there in omega (arith, own, below))
        (λ q other. ap (λ k. length (log_at logs q) - k) (sym (count_other q (λ f. other (sym f)))))

  module _ (sent more : List ℕ) (are : ArePassed net logs counts sent) (on_sent : next.event.dir ≡ Sent → more ≡ slice_set sent (between r (net.receiver next.event.point)) (slice_index sent (between r (net.receiver next.event.point)) + 1)) (on_got : next.event.dir ≡ Got → more ≡ sent) where
    abbrev to : ℕ
    to = net.receiver next.event.point

    all_more : (d : Dir) → next.event.dir ≡ d → length more ≡ 64
    all_more Sent d = ap length (on_sent d) ∙ length-set sent _ _ ∙ are.all
    all_more Got d = ap length (on_got d) ∙ are.all

    -- no message more on this channel
    sent_same : (a b : ℕ) → a < 8 → b < 8 → (a ≡ r → puts_on net r b next.event ≡ false) → slice_index more (between a b) ≡ slice_index sent (between a b) → slice_index more (between a b) ≡ put_within net logs now a b
    sent_same a b la lb none same =
        same ∙ are.sent_is a b la lb
        ∙ ⊎_elim
        (λ f.
        let is = ap length (put_own are.eight b) in
        let size = length-append (put net r b (take n (log_at logs r))) (put net r b (next.event ∷ [])) in
        let zero_more = ap length (put_nothing net r b next.event (none f)) in
        let e : put_within net logs counts r b ≡ put_within net logs now r b = omega (arith, is, size, zero_more) in
        subst (λ q. put_within net logs counts q b ≡ put_within net logs now q b) (sym f) e)
        (λ other. ap (λ k. length (put net a b (take k (log_at logs a)))) (sym (count_other are.eight a other)))
        (cases_eq a r)

    sent_own : next.event.dir ≡ Sent → slice_index more (between r to) ≡ put_within net logs now r to
    sent_own d =
        let set : slice_index more (between r to) ≡ slice_index sent (between r to) + 1 =
        ap (λ l. slice_index l (between r to)) (on_sent d) ∙ get_or-set_same sent (between r to) _ 0 (let s = is_sound.receiver in let all = are.all in omega (arith, s, all, low)) in
        let old = are.sent_is r to low is_sound.receiver in
        let is = ap length (put_own are.eight to) in
        let size = length-append (put net r to (take n (log_at logs r))) (put net r to (next.event ∷ [])) in
        let one = ap length (put_one net r to next.event (sent_here net r to next.event d is_sound.role refl)) in
        omega (arith, set, old, is, size, one)

    sent_more : (a b : ℕ) → a < 8 → b < 8 → (d : Dir) → next.event.dir ≡ d → slice_index more (between a b) ≡ put_within net logs now a b
    sent_more a b la lb Got d = sent_same a b la lb (λ f. no_put net r b next.event d) (ap (λ l. slice_index l (between a b)) (on_got d))
    sent_more a b la lb Sent d = ⊎_elim
        (λ f. ⊎_elim
        (λ g. subst (λ q. slice_index more (between q b) ≡ put_within net logs now q b) (sym f) (subst (λ q. slice_index more (between r q) ≡ put_within net logs now r q) (sym g) (sent_own d)))
        (λ g. elsewhere (λ x. g (sym x.1)))
        (cases_eq b to))
        (λ f. elsewhere (λ x. f (sym x.0)))
        (cases_eq a r)
      where
        elsewhere : ((r ≡ a) × (to ≡ b) → ⊥) → slice_index more (between a b) ≡ put_within net logs now a b
        elsewhere other = sent_same a b la lb
            (λ f. sent_else net r b next.event (λ x. other (sym f, x.1)))
            (ap (λ l. slice_index l (between a b)) (on_sent d) ∙ get_or-set_other sent (between r to) (between a b) _ 0 (apart r to a b low is_sound.receiver la lb other))

    pub passed_more : ArePassed net logs now more
    passed_more = record {
      eight = length-set counts r (n + 1) ∙ are.eight;
      all = all_more next.event.dir refl;
      within = λ q lt. ⊎_elim
          (λ f. let own = count_own are.eight in let below = get_below (log_at logs r) n next.event next.there in subst (λ k. slice_index now k ≤ length (log_at logs k)) (sym f) (omega (arith, own, below)))
          (λ other. subst (λ k. k ≤ length (log_at logs q)) (sym (count_other are.eight q other)) (are.within q lt))
          (cases_eq q r);
      others = λ q le. count_other are.eight q (λ f. let lt = next.role in omega (arith, le, f, lt)) ∙ are.others q le;
      sent_is = λ a b la lb. sent_more a b la lb next.event.dir refl;
      even = even_more are.eight are.even;
    }
