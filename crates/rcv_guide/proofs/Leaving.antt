-- What a failure leaves of each of a guide's memories, by the counts of its logs.
use Rattle.std.proofs.Common.{◌≡◌, ℕ, zero, suc, ◌+◌, ◌<◌, ◌≤◌, ◌^◌, Bool, true, false, cond, ◌&&◌, Some, None, List, [], ◌∷◌, length, take, refl, sym, ◌∙◌, ap, subst, inl, inr, ⊎_elim, ◌⊎◌, le_antisymm, eq-eqb, ne_eqb, arith}
use Rattle.std.specs.Prelude.{◌==◌, ◌↔◌, min, nat_lt, slice_get, slice_index, map}
use Rattle.std.specs.List.{sum_by, range_with_len, cons_option}
use Rattle.std.proofs.lemmas.Bool.{cases_Bool, cases_lt}
use Rattle.std.proofs.lemmas.Bool.Decides.{nat_tests}
use Rattle.std.proofs.lemmas.List.Sums.{sum_by-cons}
use Rattle.std.proofs.lemmas.Nat.Bits.{bit_at-zero}
use Rattle.std.proofs.lemmas.Option.{slice_get-get_or}
use Rattle.rcv_tree.specs.Bits.{has_bit, is_listed}
use Rattle.rcv_tree.specs.declared.event.Event.{Event}
use Rattle.rcv_model.specs.Net.{Net, IsIn, IsPrefix}
use Rattle.rcv_model.specs.Run.{acts, taken, IsQueued}
use Rattle.rcv_model.specs.Undo.{IsLost}
use Rattle.rcv_model.specs.Table.{point_of, start_of}
use Rattle.rcv_model.specs.Journal.{events_of}
use Rattle.rcv_model.proofs.Bystanders.{as_many}
use Rattle.rcv_model.proofs.Groups.{keeps_more}
use Rattle.rcv_model.proofs.Lists.{prefix_length, some_same}
use Rattle.rcv_model.proofs.Scanning.{among, is_member}
use Rattle.rcv_model.proofs.StableLines.{made_before}
use Rattle.rcv_theory.specs.Counts.{kept_counts}
use Rattle.rcv_theory.proofs.Counting.{begins}
use Rattle.rcv_depend.specs.declared.keeps.Keeps.{Keeps}
use Rattle.rcv_depend.specs.Keeps as keeping
use Rattle.rcv_depend.specs.Logs.{AreLogsOf, AreFew}
use Rattle.rcv_plan.specs.Plans.{IsGroup}
use Rattle.rcv_tables.specs.Laws.{number_of}
use Rattle.rcv_tables.specs.Rows.{TableView, rows_at}
use Rattle.rcv_tables.specs.Starts.{IsOwnPoint}
use Rattle.rcv_tables.specs.Told.{start_at, HaveRows, AreStarts, TellsFailure}
use Rattle.rcv_ledger.specs.Logs.{log_at}
use Rattle.rcv_ledger.specs.Ledger.{LedgerView}
use Rattle.rcv_depend.specs.Cuts.{IsKeptOf}
use Rattle.rcv_ledger.proofs.Lists.{none_there}
use Rattle.rcv_told.specs.Told.{Remembered, made_of, group_of, held_of, bound_at, IsConcernedWhere, HasFailed}
use Rattle.rcv_guide.specs.declared.numbers.Numbers.{Numbers}
use Rattle.rcv_guide.specs.declared.recovery.Recovery.{Recovery}
use Rattle.rcv_guide.specs.Numbers.{numbers_at}
use Rattle.rcv_tree.specs.Events.{point_or_none}
use Rattle.rcv_guide.specs.Failing.{HaveLogs, AreKeeps, AreStartsOf, AreMade, all_events, within_counts, AreCountsOf}
use Rattle.rcv_guide.specs.Guide.{GuideView, net_for, roles_of, terms_of, IsMemory, MayRecover, TellsLeft, listed_of, left_in, IsFailureOf, AreLeft, IsGuide}
use Rattle.rcv_guide.proofs.Hosts.{host_range}
use Rattle.rcv_guide.proofs.Memories.{many_held, seeds_at, forgotten_at, no_seeds, no_forgotten, declared_by}
use Rattle.rcv_guide.proofs.Guides.{few_roles, low, is_proper, none_beyond, few_log, own_point}
use Rattle.rcv_guide.proofs.Tracking.{none_taken, ends_all, seeds_kept}
use Rattle.rcv_guide.proofs.Growing.{sums_alike, one_more_in}
use Rattle.rcv_guide.proofs.Foretelling.{may_ask, foretold}

-- bounds that agree up to what there is keep as many
lost_below : (b c : ℕ → ℕ) (h : List Event) → ((r : ℕ) → min (b r) (length (acts r h)) ≡ min (c r) (length (acts r h))) → (i : ℕ) → IsLost h c i → IsLost h b i
lost_below b c h same i lost = record {
  event = lost.event;
  at = lost.at;
  behind = let a = made_before h i lost.event lost.at in let e = same lost.event.role in let f = lost.behind in omega (arith, a, e, f);
}

pub same_counts : (net : Net) (b c : ℕ → ℕ) (h : List Event) → IsQueued net h → ((r : ℕ) → min (b r) (length (acts r h)) ≡ min (c r) (length (acts r h))) → (r : ℕ) → kept_counts net b h r ≡ kept_counts net c h r
same_counts net b c h queued same r = le_antisymm
    (keeps_more net b c h queued (lost_below b c h same) r)
    (keeps_more net c b h queued (lost_below c b h (λ q. sym (same q))) r)

-- what isn't there
get_past : {A : Type 0} (xs : List A) (n : ℕ) → length xs ≤ n → slice_get xs n ≡ None
get_past [] n le = refl
get_past (x ∷ xs) zero le = absurd (omega (arith, le))
get_past (x ∷ xs) (suc n) le = get_past xs n (omega (arith, le))

get_capped : {A : Type 0} (xs : List A) (n : ℕ) → slice_get xs (min n (length xs)) ≡ slice_get xs n
get_capped xs n = ⊎_elim
    (λ lt. ap (slice_get xs) (let e : min n (length xs) ≡ n = omega (arith, lt) in e))
    (λ le. get_past xs (min n (length xs)) (omega (arith, le)) ∙ sym (get_past xs n le))
    (cases_lt n (length xs))

-- the point of an act, by that of its event
point_at : (q : ℕ) (h : List Event) (n : ℕ) → number_of (point_of (slice_get (acts q h) n)) ≡ point_or_none (slice_get (events_of q h) n)
point_at q [] n = refl
point_at q (e ∷ h) n = go (e.role == q) n (point_at q h)
  where
    go : (b : Bool) (n : ℕ) → ((m : ℕ) → number_of (point_of (slice_get (acts q h) m)) ≡ point_or_none (slice_get (events_of q h) m)) → number_of (point_of (slice_get (cons_option (cond b (Some (record { dir = e.dir; point = e.point })) None) (acts q h)) n)) ≡ point_or_none (slice_get (cond b (e ∷ events_of q h) (events_of q h)) n)
    go true zero ih = refl
    go true (suc n) ih = ih n
    go false n ih = ih n

-- the event of an act
event_of_act : (q : ℕ) (h : List Event) (k n : ℕ) → point_of (slice_get (acts q h) k) ≡ Some n → (e : Event) × (slice_get (events_of q h) k ≡ Some e) × (e.point ≡ n)
event_of_act q [] k n at = absurd (cc)
event_of_act q (x ∷ h) k n at = go (x.role == q) k (λ m f. event_of_act q h m n f) at
  where
    go : (b : Bool) (k : ℕ) → ((m : ℕ) → point_of (slice_get (acts q h) m) ≡ Some n → (e : Event) × (slice_get (events_of q h) m ≡ Some e) × (e.point ≡ n)) → point_of (slice_get (cons_option (cond b (Some (record { dir = x.dir; point = x.point })) None) (acts q h)) k) ≡ Some n → (e : Event) × (slice_get (cond b (x ∷ events_of q h) (events_of q h)) k ≡ Some e) × (e.point ≡ n)
    go true zero ih f = (x, refl, some_same f)
    go true (suc k) ih f = ih k f
    go false k ih f = ih k f

-- what begins nothing is nothing
empty_front : {A : Type 0} (xs ys : List A) → IsPrefix xs ys → ys ≡ [] → xs ≡ []
empty_front [] ys p e = refl
empty_front (x ∷ xs) ys p e = absurd (let a = prefix_length (x ∷ xs) ys p in let b = ap length e in omega (arith, a, b))

-- an item of a mapped range
pub at_range : (f : ℕ → ℕ) (a n q : ℕ) → q < n → slice_index (map f (range_with_len a n)) q ≡ f (a + q)
at_range f a zero q lt = absurd (omega (arith, lt))
at_range f a (suc n) zero lt = ap f (omega arith)
at_range f a (suc n) (suc q) lt = at_range f (a + 1) n q (omega (arith, lt)) ∙ ap f (omega arith)

-- the roles' events are all of them
abbrev many_of : List Event → ℕ → ℕ
many_of h r = length (events_of r h)

all_of : (roles : ℕ) (h : List Event) → ((r : ℕ) → roles ≤ r → events_of r h ≡ []) → sum_by (many_of h) (range_with_len 0 roles) ≡ length h
all_of roles [] none = nothing 0 roles
  where
    nothing : (a n : ℕ) → sum_by (many_of []) (range_with_len a n) ≡ 0
    nothing a zero = refl
    nothing a (suc n) = let ih = nothing (a + 1) n in omega (arith, ih, sum_by-cons (many_of []) a (range_with_len (a + 1) n))
all_of roles (e ∷ h) none =
    let ih = all_of roles h (λ r le. fewer (e.role == r) (events_of r h) e (none r le)) in
    let low : e.role < roles = ⊎_elim (λ lt. lt) (λ le. absurd (own_none (e.role == e.role) (events_of e.role h) e (eq-eqb e.role e.role refl) (none e.role le))) (cases_lt e.role roles) in
    let more = one_more_in (many_of (e ∷ h)) (many_of h) e.role 0 roles (omega arith) (omega (arith, low))
    (own_more (e.role == e.role) (events_of e.role h) e (eq-eqb e.role e.role refl))
    (λ r other. own_same (e.role == r) (events_of r h) e (ne_eqb e.role r other)) in
    omega (arith, ih, more)
  where
    fewer : (b : Bool) (l : List Event) (x : Event) → cond b (x ∷ l) l ≡ [] → l ≡ []
    fewer true l x f = absurd (cc)
    fewer false l x f = f

    own_none : (b : Bool) (l : List Event) (x : Event) → b ≡ true → cond b (x ∷ l) l ≡ [] → ⊥
    own_none true l x t f = absurd (cc)
    own_none false l x t f = absurd (cc)

    own_more : (b : Bool) (l : List Event) (x : Event) → b ≡ true → length (cond b (x ∷ l) l) ≡ length l + 1
    own_more true l x t = omega arith
    own_more false l x t = absurd (cc)

    own_same : (b : Bool) (l : List Event) (x : Event) → b ≡ false → length (cond b (x ∷ l) l) ≡ length l
    own_same true l x t = absurd (cc)
    own_same false l x t = refl

module _ {g : GuideView} {table : TableView} {ledger : LedgerView} (kept : IsGuide g table ledger) where
  -- the logs are those of each memory
  pub logs_are : (m : Remembered) → IsMemory g m → AreLogsOf (net_for g) m.held g.logs
  logs_are m is = record {
    lists = λ r. sym (is.events r);
    eight = let a = kept.logs in let b = few_roles kept in omega (arith, a, b);
    few = λ r. let a = few_log kept r in omega (arith, a);
    queued = is.queued;
    ends = ends_all (net_for g) m.held (λ r n e at. kept.sound.ends r n e (ap (λ l. slice_get l n) (sym (is.events r)) ∙ at));
    two = (is_proper kept).two_ends;
  }

  pub few_to_cut : AreFew g.logs
  few_to_cut = record { eight = let a = kept.logs in let b = few_roles kept in omega (arith, a, b); each = λ r. let a = few_log kept r in omega (arith, a) }

  pub no_group : HaveLogs 0 g.logs
  no_group = record { eight = few_to_cut.eight; each = λ r lt. few_to_cut.each r; set_in = λ r lt t. absurd (let f : has_bit 0 r ≡ false = ap (λ b. b == 1) (bit_at-zero r) in cc) }

  pub all_is : (m : Remembered) → IsMemory g m → all_events g.logs ≡ length m.held
  all_is m is =
      sums_alike (λ r. length (log_at g.logs r)) (many_of m.held) 0 (length g.logs) (λ r le lt. ap length (sym (is.events r)))
      ∙ all_of (length g.logs) m.held (λ r le. is.events r ∙ none_there g.logs r [] le)

  -- a failed group
  module _ (p group : ℕ) (saved : List ℕ) (may : MayRecover g p saved) (is_group : IsGroup g.plan p group) where
    pub declared : p < roles_of g
    declared = declared_by g kept.holds.memory kept.holds.is p true may.down

    pub member_low : (q : ℕ) → IsIn q (group_of (terms_of g) p) → q < roles_of g
    member_low q i = ⊎_elim (λ e. subst (λ n. n < roles_of g) (sym e) declared) (λ j. host_range (roles_of g) g.plan p q kept.planned.fits j) i

    pub in_group : (q : ℕ) → q < 8 → (has_bit group q ≡ true) ↔ IsIn q (group_of (terms_of g) p)
    in_group q lt = (
      (λ t. is_member q (group_of (terms_of g) p) (sym (is_group q lt) ∙ t)),
      λ i. is_group q lt ∙ among q (group_of (terms_of g) p) i,
    )

    pub have_logs : HaveLogs group g.logs
    have_logs = record {
      eight = few_to_cut.eight;
      each = λ r lt. few_to_cut.each r;
      set_in = λ q lt t. let a = member_low q ((in_group q lt).0 t) in let b = kept.logs in omega (arith, a, b);
    }

    module _ (m : Remembered) (is : IsMemory g m) where
      -- each role of it keeps what it has saved, of what there is
      keep_at : (keeps : Keeps) → AreKeeps g.numbers g.logs group saved keeps → (q : ℕ) → q < 8 → has_bit group q ≡ true → slice_index keeps.keep q ≡ min (held_of m (slice_index saved) q) (length (acts q m.held))
      keep_at keeps are q lt t =
          let in_ = member_low q ((in_group q lt).0 t) in
          let own = are.saved_is q lt t in
          let a = seeds_at g m is q in_ in
          let b = forgotten_at g m is q in_ in
          let c = many_held g m is q in
          omega (arith, own, a, b, c)

      not_in : (q : ℕ) → 8 ≤ q → (is_listed (group_of (terms_of g) p) q ≡ true) ⊎ (is_listed (group_of (terms_of g) p) q ≡ false) → is_listed (group_of (terms_of g) p) q ≡ false
      not_in q le (inl t) = absurd (let a = member_low q (is_member q (group_of (terms_of g) p) t) in let b = few_roles kept in omega (arith, a, b, le))
      not_in q le (inr f) = f

      -- so the bounds agree up to what there is
      same_bound : (keeps : Keeps) → AreKeeps g.numbers g.logs group saved keeps → (q : ℕ) → min (keeping.ceiling_of keeps m.held q) (length (acts q m.held)) ≡ min (bound_at m (group_of (terms_of g) p) (slice_index saved) q) (length (acts q m.held))
      same_bound keeps are q = ⊎_elim
          (λ lt.
          let here : keeping.fails keeps q ≡ has_bit group q = ap (λ b. b && has_bit keeps.failed.0 q) (below q lt) ∙ ap (λ set. has_bit set q) are.group_is in
          ap (λ b. min (cond b (slice_index keeps.keep q) (length (acts q m.held))) (length (acts q m.held))) here
          ∙ own lt (has_bit group q) refl
          ∙ ap (λ b. min (cond b (held_of m (slice_index saved) q) (length (acts q m.held))) (length (acts q m.held))) (is_group q lt))
          (λ le.
          let here : keeping.fails keeps q ≡ false = ap (λ b. b && has_bit keeps.failed.0 q) (beyond q le) in
          ap (λ b. min (cond b (slice_index keeps.keep q) (length (acts q m.held))) (length (acts q m.held))) here
          ∙ sym (ap (λ b. min (cond b (held_of m (slice_index saved) q) (length (acts q m.held))) (length (acts q m.held))) (not_in q le (cases_Bool (is_listed (group_of (terms_of g) p) q)))))
          (cases_lt q 8)
        where
          below : (n : ℕ) → n < 8 → nat_lt n 8 ≡ true
          below n lt = grind (arith, nat_tests)

          beyond : (n : ℕ) → 8 ≤ n → nat_lt n 8 ≡ false
          beyond n le = grind (arith, nat_tests)

          twice : (k a n : ℕ) → k ≡ min a n → min k n ≡ min a n
          twice k a n e = omega (arith, e)

          own : q < 8 → (b : Bool) → has_bit group q ≡ b → min (cond (has_bit group q) (slice_index keeps.keep q) (length (acts q m.held))) (length (acts q m.held)) ≡ min (cond (has_bit group q) (held_of m (slice_index saved) q) (length (acts q m.held))) (length (acts q m.held))
          own lt true e =
              ap (λ b. min (cond b (slice_index keeps.keep q) (length (acts q m.held))) (length (acts q m.held))) e
              ∙ twice (slice_index keeps.keep q) (held_of m (slice_index saved) q) (length (acts q m.held)) (keep_at keeps are q lt e)
              ∙ sym (ap (λ b. min (cond b (held_of m (slice_index saved) q) (length (acts q m.held))) (length (acts q m.held))) e)
          own lt false e =
              ap (λ b. min (cond b (slice_index keeps.keep q) (length (acts q m.held))) (length (acts q m.held))) e
              ∙ sym (ap (λ b. min (cond b (held_of m (slice_index saved) q) (length (acts q m.held))) (length (acts q m.held))) e)

      pub counts_told : (keeps : Keeps) (counts : List ℕ) → AreKeeps g.numbers g.logs group saved keeps → IsKeptOf (net_for g) g.logs (keeping.ceiling_of keeps) counts → (q : ℕ) → slice_index counts q ≡ length (acts q (left_in g m p saved))
      counts_told keeps counts are cut q =
          cut m.held (logs_are m is) q
          ∙ same_counts (net_for g) (keeping.ceiling_of keeps m.held) (bound_at m (group_of (terms_of g) p) (slice_index saved)) m.held is.queued (same_bound keeps are) q

      -- what is left begins what there was
      pub left_begins : (q : ℕ) → IsPrefix (events_of q (left_in g m p saved)) (events_of q m.held)
      left_begins q = begins (net_for g) (bound_at m (group_of (terms_of g) p) (slice_index saved)) m.held is.queued q

      pub left_within : (q : ℕ) → length (acts q (left_in g m p saved)) ≤ length (log_at g.logs q)
      left_within q =
          let a = prefix_length (events_of q (left_in g m p saved)) (events_of q m.held) (left_begins q) in
          let b = as_many q (left_in g m p saved) in
          let c = ap length (is.events q) in
          omega (arith, a, b, c)

      pub within_is : (counts : List ℕ) → ((q : ℕ) → slice_index counts q ≡ length (acts q (left_in g m p saved))) → within_counts g.logs counts ≡ length (left_in g m p saved)
      within_is counts are =
          sums_alike (λ r. slice_index counts r) (many_of (left_in g m p saved)) 0 (length g.logs) (λ r le lt. are r ∙ as_many r (left_in g m p saved))
          ∙ all_of (length g.logs) (left_in g m p saved) (λ r le. empty_front (events_of r (left_in g m p saved)) (events_of r m.held) (left_begins r) (is.events r ∙ none_there g.logs r [] le))

      -- the starts are those of what is lost
      start_is : (keeps : Keeps) (starts : List ℕ) → AreKeeps g.numbers g.logs group saved keeps → AreStartsOf g.logs keeps starts → (q : ℕ) → q < 8 → start_at starts q ≡ cond (has_bit group q) (number_of (start_of (held_of m (slice_index saved)) m.held q)) 0
      start_is keeps starts are starts_are q lt =
          starts_are.1 q lt
          ∙ ap (λ set. cond (has_bit set q) (point_or_none (slice_get (log_at g.logs q) (slice_index keeps.keep q))) 0) are.group_is
          ∙ told (has_bit group q) refl
        where
          told : (b : Bool) → has_bit group q ≡ b → cond (has_bit group q) (point_or_none (slice_get (log_at g.logs q) (slice_index keeps.keep q))) 0 ≡ cond (has_bit group q) (number_of (start_of (held_of m (slice_index saved)) m.held q)) 0
          told true e = ap (λ n. cond (has_bit group q) n 0)
              (ap (λ (l : List Event). point_or_none (slice_get l (slice_index keeps.keep q))) (sym (is.events q))
              ∙ sym (point_at q m.held (slice_index keeps.keep q))
              ∙ ap (λ n. number_of (point_of (slice_get (acts q m.held) n))) (keep_at keeps are q lt e)
              ∙ ap (λ o. number_of (point_of o)) (get_capped (acts q m.held) (held_of m (slice_index saved) q)))
          told false e =
              ap (λ b. cond b (point_or_none (slice_get (log_at g.logs q) (slice_index keeps.keep q))) 0) e
              ∙ sym (ap (λ b. cond b (number_of (start_of (held_of m (slice_index saved)) m.held q)) 0) e)

      pub above_forgotten : (q : ℕ) → is_listed (group_of (terms_of g) p) q ≡ true → slice_index m.forgotten q ≤ slice_index saved q
      above_forgotten q t =
          let in_ = member_low q (is_member q (group_of (terms_of g) p) t) in
          let enough = may.enough q (low kept q in_) t in
          let b = forgotten_at g m is q in_ in
          omega (arith, enough, b)

      -- the seeds are left
      abbrev seeds : ℕ → List Event
      seeds r = take (slice_index m.seeds r) (events_of r m.held)

      many_seeds : (r : ℕ) → slice_index m.seeds r ≤ length (events_of r m.held)
      many_seeds r = ⊎_elim
          (λ lt. let a = seeds_at g m is r lt in let b = kept.sound.seeds r lt in let c = ap length (is.events r) in omega (arith, a, b, c))
          (λ le. let a = no_seeds g m is r le in omega (arith, a))
          (cases_lt r (roles_of g))

      none_received : (a b : ℕ) → taken (net_for g) a b (seeds b) ≡ []
      none_received a b = ⊎_elim
          (λ lt.
          ap (λ n. taken (net_for g) a b (take n (events_of b m.held))) (seeds_at g m is b lt)
          ∙ ap (λ l. taken (net_for g) a b (take (numbers_at g.numbers b).seeds l)) (is.events b)
          ∙ kept.sound.seeds_are a b)
          (λ le. ap (λ l. taken (net_for g) a b (take (slice_index m.seeds b) l)) (is.events b ∙ none_beyond kept b le) ∙ ap (taken (net_for g) a b) (none_taken (slice_index m.seeds b)))
          (cases_lt b (roles_of g))

      pub seeds_left : (q : ℕ) → slice_index m.seeds q ≤ length (acts q (left_in g m p saved))
      seeds_left q = seeds_kept (net_for g) m many_seeds none_received is.queued (group_of (terms_of g) p) (slice_index saved) above_forgotten q

      member_few : (q : ℕ) → IsIn q (group_of (terms_of g) p) → q < 8
      member_few q i = low kept q (member_low q i)

      own_start : (q n : ℕ) → start_of (held_of m (slice_index saved)) m.held q ≡ Some n → IsOwnPoint (net_for g) q n
      own_start q n at =
          let e = event_of_act q m.held (held_of m (slice_index saved) q) n at in
          subst (IsOwnPoint (net_for g) q) e.2 (own_point kept q (held_of m (slice_index saved) q) e.0 (ap (λ l. slice_get l (held_of m (slice_index saved) q)) (sym (is.events q)) ∙ e.1))

      starts_fit : (keeps : Keeps) (starts : List ℕ) → AreKeeps g.numbers g.logs group saved keeps → AreStartsOf g.logs keeps starts → AreStarts (net_for g) group starts
      starts_fit keeps starts are starts_are = may_ask (net_for g) m.held (held_of m (slice_index saved)) own_start (group_of (terms_of g) p) group starts member_few in_group (start_is keeps starts are starts_are)

      concerned_told : (keeps : Keeps) (starts : List ℕ) (bits : ℕ) → AreKeeps g.numbers g.logs group saved keeps → AreStartsOf g.logs keeps starts → TellsFailure table group starts bits → (q : ℕ) → q < 8 → (has_bit bits q ≡ true) ↔ IsConcernedWhere (terms_of g) m p (slice_index saved) q
      concerned_told keeps starts bits are starts_are told q lt =
          foretold (net_for g) m.held (held_of m (slice_index saved)) own_start (group_of (terms_of g) p) group starts member_few in_group (start_is keeps starts are starts_are) bits
          (told (net_for g) (roles_of g) kept.table_is (starts_fit keeps starts are starts_are)) q lt

      -- and so is the whole answer
      module _ (keeps : Keeps) (left starts : List ℕ) (back : Recovery) (are : AreKeeps g.numbers g.logs group saved keeps) (cut : IsKeptOf (net_for g) g.logs (keeping.ceiling_of keeps) left) (starts_are : AreStartsOf g.logs keeps starts) (told : TellsFailure table group starts back.concerned.0) (made : AreMade g.numbers left back.kept) (undone : back.undone + within_counts g.logs left ≡ all_events g.logs) where
        count_at : (q : ℕ) → slice_index back.kept q ≡ made_of m (left_in g m p saved) q
        count_at q = ⊎_elim
            (λ lt.
            let own = made.each q (let a = kept.numbers in omega (arith, a, lt)) in
            let a = seeds_at g m is q lt in
            let b = forgotten_at g m is q lt in
            let c = counts_told keeps left are cut q in
            omega (arith, own, a, b, c))
            (λ le.
            let own = made.others q (let a = kept.numbers in omega (arith, a, le)) in
            let b = no_forgotten g m is q le in
            let c = left_within q in
            let d = ap length (none_beyond kept q le) in
            omega (arith, own, b, c, d))
            (cases_lt q (roles_of g))

        undone_told : back.undone + length (left_in g m p saved) ≡ length m.held
        undone_told = sym (ap (λ n. back.undone + n) (within_is left (counts_told keeps left are cut))) ∙ undone ∙ all_is m is

        pub tells_left : TellsLeft g m (left_in g m p saved) back
        tells_left = record { eight = made.eight; counts = λ r lt. count_at r; undone = undone_told }

        pub has_failed : HasFailed (terms_of g) m p (slice_index saved) back.concerned (listed_of back) back.undone
        has_failed = record {
          above = above_forgotten;
          concerned_is = concerned_told keeps starts back.concerned.0 are starts_are told;
          eight = refl;
          counts = λ q lt. at_range (λ r. cond (has_bit back.concerned.0 r) (slice_index back.kept r) 0) 0 8 q lt ∙ ap (λ r. cond (has_bit back.concerned.0 r) (slice_index back.kept r) 0) (omega arith) ∙ ap (λ n. cond (has_bit back.concerned.0 q) n 0) (count_at q);
          undone_is = undone_told;
        }

    -- the table has a row for each start
    pub have_rows : (keeps : Keeps) (starts : List ℕ) → AreKeeps g.numbers g.logs group saved keeps → AreStartsOf g.logs keeps starts → HaveRows table starts
    have_rows keeps starts are starts_are q lt some =
        let start = starts_fit kept.holds.memory kept.holds.is keeps starts are starts_are q lt some in
        let in_ = member_low q ((in_group q lt).0 start.among) in
        let inside : q < length table.rows = (let a = kept.table_is.all in omega (arith, in_, a)) in
        let row = kept.table_is.each q (rows_at table q) (slice_get-get_or table.rows q [] inside) in
        let last = start.own.1 in
        (inside, let a = row.all in omega (arith, a, last))

    -- the counts are of logged events
    pub counts_within : (left : List ℕ) → AreLeft g p saved left → AreCountsOf g.logs left
    counts_within left are r lt = let a = are kept.holds.memory kept.holds.is r in let b = left_within kept.holds.memory kept.holds.is r in omega (arith, a, b)

    -- and the counts of all events fit their type
    pub made_fits : (left : List ℕ) → AreLeft g p saved left → (numbers : List Numbers) → numbers ≡ g.numbers → (r : ℕ) → r < length numbers → ((numbers_at numbers r).seeds ≤ slice_index left r) × ((numbers_at numbers r).forgotten + slice_index left r < 2 ^ 64)
    made_fits left are numbers same r lt =
        let e = ap (λ (n : List Numbers). numbers_at n r) same in
        let low : r < roles_of g = (let n = ap length same in let a = kept.numbers in omega (arith, n, a, lt)) in
        let seeds = ap (λ (x : Numbers). x.seeds) e in
        let forgotten = ap (λ (x : Numbers). x.forgotten) e in
        let own = seeds_at g kept.holds.memory kept.holds.is r low in
        let behind = seeds_left kept.holds.memory kept.holds.is r in
        let a = are kept.holds.memory kept.holds.is r in
        let b = left_within kept.holds.memory kept.holds.is r in
        let c = few_log kept r in
        let made = (kept.few r low).made in
        let raw = (kept.few r low).raw in
        let told = kept.told in
        (omega (arith, seeds, own, behind, a), omega (arith, forgotten, made, raw, told, a, b, c))

    pub is_failure : (keeps : Keeps) (left starts : List ℕ) (back : Recovery) → AreKeeps g.numbers g.logs group saved keeps → IsKeptOf (net_for g) g.logs (keeping.ceiling_of keeps) left → AreStartsOf g.logs keeps starts → TellsFailure table group starts back.concerned.0 → AreMade g.numbers left back.kept → back.undone + within_counts g.logs left ≡ all_events g.logs → IsFailureOf g p saved back
    is_failure keeps left starts back are cut starts_are told made undone = record {
      tells = λ m is. tells_left m is keeps left starts back are cut starts_are told made undone;
      failed = λ m is. has_failed m is keeps left starts back are cut starts_are told made undone;
    }

    pub are_left : (keeps : Keeps) (left : List ℕ) → AreKeeps g.numbers g.logs group saved keeps → IsKeptOf (net_for g) g.logs (keeping.ceiling_of keeps) left → AreLeft g p saved left
    are_left keeps left are cut m is q = counts_told m is keeps left are cut q
