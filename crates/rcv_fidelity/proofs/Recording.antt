-- Legal journals keep steps of machines. And each run is what one of them keeps, stamps apart: each role chooses what it did.
use Rattle.std.proofs.Common.{◌≡◌, ℕ, suc, ◌+◌, ◌<◌, ◌≤◌, max, Bool, true, false, cond, Option, Some, None, List, [], ◌∷◌, ◌++◌, length, map, drop, refl, sym, ◌∙◌, ap, subst, inl, append_assoc, append-nil, length-append, arith, eq-eqb}
use Rattle.std.specs.Prelude.{ℤ, pos, ◌==◌, slice_get, if◌then◌else◌}
use Rattle.std.specs.List.{filter_map, cons_option}
use Rattle.std.proofs.lemmas.List.{drop-map, length-map, map-append}
use Rattle.std.proofs.lemmas.List.Elements.{filter-append}
use Rattle.std.proofs.lemmas.Option.{slice_get-get_or}
use Rattle.std.proofs.Math.Seq.{get_or-append_seam}
use Rattle.rcv_tree.specs.Bits.{is_listed}
use Rattle.rcv_tree.specs.declared.event.Event.{Event}
use Rattle.rcv_tree.specs.declared.event.Message.{Message}
use Rattle.rcv_tree.specs.declared.event.Dir.{Dir}
use Rattle.rcv_tree.specs.declared.event.Dir.TheVariants.{Sent, Got}
use Rattle.rcv_tree.specs.declared.entry.Entry.{Entry}
use Rattle.rcv_tree.specs.declared.entry.Entry.TheVariants.{Send, Recv}
use Rattle.rcv_model.specs.Net.{Net, IsIn}
use Rattle.rcv_model.specs.Run.{Act, act_of, acts, place_of, put, taken, channel, IsRun}
use Rattle.rcv_model.specs.Next.{AreNext, IsProper, IsAccepted}
use Rattle.rcv_model.specs.Script.{first_point}
use Rattle.rcv_model.specs.Transparent.{Fact, fact_of, facts}
use Rattle.rcv_model.specs.Journal.{Rules, State, nobody, numbers_at, start, events_of, own_of, after, reading_from, reading, IsFree, MaySend, MayOwnRecv, MayRecv, May, IsLegalFrom, IsLegal}
use Rattle.rcv_model.specs.Premises.{IsSession}
use Rattle.rcv_model.proofs.Facts.{Letter, letter_of, comes_from, goes_to, takes_told, puts_told, same_acts}
use Rattle.rcv_model.proofs.Keeping.{message_of, is_by}
use Rattle.rcv_model.proofs.Legal.{accepted_runs}
use Rattle.rcv_model.proofs.Quiet.{Quiet, at_start, after_one, quiet_end}
use Rattle.rcv_model.proofs.Roles.{place_is}
use Rattle.rcv_model.proofs.Scanning.{among as to_listed, is_member as of_listed}
use Rattle.rcv_project.specs.Act.{ActView, Sending, Receiving, Ended, IsActAt}
use Rattle.rcv_fidelity.specs.Laws.{IsAcceptedNet}
use Rattle.rcv_fidelity.specs.Machines.{place_after, TakesFront, CanMake, IsMachineStep, AreMachineSteps}
use Rattle.rcv_fidelity.specs.Restamped.{deed_of, AreRestamped, AreCalmRules, IsJournalOf}
use Rattle.rcv_fidelity.proofs.Stepping.{declared, steps_of_run}

-- what a role chooses and sends that did this in the run
abbrev chosen_in : Option Event → List ℕ → ℕ
chosen_in None zs = first_point zs
chosen_in (Some e) zs = if is_listed zs e.point then e.point else first_point zs

abbrev number_in : Option Event → ℤ
number_in None = pos 0
number_in (Some e) = e.value

-- each role does again what it did in the run
abbrev pub rules_by : Net → ℕ → List Event → Rules
rules_by net roles h =
    record {
      net = net;
      roles = roles;
      chosen = λ r events attempt zs. chosen_in (slice_get (events_of r h) (length events)) zs;
      value = λ r events attempt p. number_in (slice_get (events_of r h) (length events));
      every = λ r. 1;
      host = λ r. [];
      crash_lines = λ r. [];
      limit = length h;
      room = 1 + length h;
    }

first_in : (zs : List ℕ) → (zs ≡ [] → ⊥) → IsIn (first_point zs) zs
first_in [] some = absurd (some refl)
first_in (z ∷ zs) some = inl refl

chooses_one : (o : Option Event) (zs : List ℕ) → (zs ≡ [] → ⊥) → IsIn (chosen_in o zs) zs
chooses_one None zs some = first_in zs some
chooses_one (Some e) zs some = go (is_listed zs e.point) refl (first_in zs some)
  where
    go : (b : Bool) → is_listed zs e.point ≡ b → IsIn (first_point zs) zs → IsIn (cond b e.point (first_point zs)) zs
    go true t i = of_listed e.point zs t
    go false t i = i

same_length : (h g : List Event) → map fact_of h ≡ map fact_of g → length h ≡ length g
same_length h g e = sym (length-map h fact_of) ∙ ap length e ∙ length-map g fact_of

pub calm_rules : (net : Net) (roles : ℕ) (h : List Event) → AreCalmRules net roles (rules_by net roles h)
calm_rules net roles h = record {
  of_net = refl;
  of_roles = refl;
  no_crash_lines = λ r. refl;
  goes_on = record { chooses = λ r events attempt zs some. chooses_one (slice_get (events_of r h) (length events)) zs some; room = omega arith };
  steady = record {
    chosen = λ r a b m n zs e. ap (λ k. chosen_in (slice_get (events_of r h) k) zs) (same_length a b e);
    value = λ r a b m n p e. ap (λ k. number_in (slice_get (events_of r h) k)) (same_length a b e);
  };
}

-- what was done, stamps apart, says what each role did
same_facts : (r : ℕ) (a b : List Event) → AreRestamped a b → facts r a ≡ facts r b
same_facts r [] [] e = refl
same_facts r [] (y ∷ b) e = absurd (cc)
same_facts r (x ∷ a) [] e = absurd (cc)
same_facts r (x ∷ a) (y ∷ b) e = go (x.role == r) (same_facts r a b (cc)) ∙ ap (λ n. map fact_of (cond (n == r) (y ∷ events_of r b) (events_of r b))) role
  where
    first : deed_of x ≡ deed_of y
    first = cc

    role : x.role ≡ y.role
    role = ap (λ (d : ℕ × Fact). d.0) first

    fact : fact_of x ≡ fact_of y
    fact = ap (λ (d : ℕ × Fact). d.1) first

    go : (c : Bool) → facts r a ≡ facts r b → map fact_of (cond c (x ∷ events_of r a) (events_of r a)) ≡ map fact_of (cond c (y ∷ events_of r b) (events_of r b))
    go true ih = ap (λ f. f ∷ facts r a) fact ∙ ap (λ l. fact_of y ∷ l) ih
    go false ih = ih

-- and what lies in each channel, stamps apart
same_letters : (net : Net) (s r : ℕ) (a b : List Event) → AreRestamped a b → map letter_of (channel net s r a) ≡ map letter_of (channel net s r b)
same_letters net s r a b e =
    let taken_alike : length (taken net s r a) ≡ length (taken net s r b) = takes_told net s r a ∙ ap (λ l. length (filter_map (comes_from net s) l)) (same_facts r a b e) ∙ sym (takes_told net s r b) in
    let put_alike : map letter_of (put net s r a) ≡ map letter_of (put net s r b) = puts_told net s r a ∙ ap (filter_map (goes_to net r)) (same_facts s a b e) ∙ sym (puts_told net s r b) in
    sym (drop-map letter_of (length (taken net s r a)) (put net s r a))
    ∙ ap (λ n. drop n (map letter_of (put net s r a))) taken_alike
    ∙ ap (drop (length (taken net s r b))) put_alike
    ∙ drop-map letter_of (length (taken net s r b)) (put net s r b)

abbrev lying : ℕ → ℤ → ℕ → Message
lying point value stamp = record { point = point; value = value; stamp = stamp }

-- the front message, by its point and number
front_of : (ms rest : List Message) (m : Message) → map letter_of ms ≡ map letter_of (m ∷ rest) → (stamp : ℕ) × (others : List Message) × (ms ≡ lying m.point m.value stamp ∷ others)
front_of [] rest m e = absurd (cc)
front_of (x ∷ ms) rest m e = (x.stamp, ms, ap (λ y. y ∷ ms) same)
  where
    letter : letter_of x ≡ letter_of m
    letter = cc

    same : x ≡ lying m.point m.value x.stamp
    same = ap (λ (l : Letter). lying l.point l.value x.stamp) letter

few_acts : (r : ℕ) (g : List Event) → length (acts r g) ≤ length g
few_acts r [] = omega arith
few_acts r (e ∷ g) = go (act_of r e) (few_acts r g)
  where
    go : (o : Option Act) → length (acts r g) ≤ length g → length (cons_option o (acts r g)) ≤ suc (length g)
    go None ih = omega arith
    go (Some a) ih = omega arith

at_seam : (xs ys : List Event) (e : Event) → slice_get (xs ++ e ∷ ys) (length xs) ≡ Some e
at_seam xs ys e = slice_get-get_or (xs ++ e ∷ ys) (length xs) e (omega (arith, length-append xs (e ∷ ys))) ∙ ap Some (get_or-append_seam xs e ys e)

abbrev deed : ℕ → Dir → ℕ → ℤ → ℕ × Fact
deed role dir point value = (role, record { dir = dir; point = point; value = value })

-- an event with other stamps
abbrev made : Event → Dir → ℕ → ℕ → Event
made e dir stamp sent = record { role = e.role; dir = dir; point = e.point; value = e.value; stamp = stamp; sent = sent }

-- a state that keeps these events, stamps apart, in which nobody is crashed
record Follows (roles : ℕ) (g : List Event) (s : State) : Type 0 where
  same : AreRestamped s.kept g
  quiet : Quiet roles s

module _ (net : Net) (roles : ℕ) (proper : IsProper net roles) (accepted : IsAccepted net roles) (h : List Event) where
  -- the entry of an event of the run
  record IsEntryOf (g : List Event) (e : Event) (s : State) : Type 0 where
    entry : Entry
    may : May (rules_by net roles h) s entry
    follows : Follows roles (g ++ e ∷ []) (after (rules_by net roles h) s entry)

  record IsEndOf (g rest : List Event) (s : State) : Type 0 where
    journal : List Entry
    legal : IsLegalFrom (rules_by net roles h) s journal
    kept : AreRestamped (reading_from (rules_by net roles h) s journal).kept (g ++ rest)

  module _ (g rest : List Event) (e : Event) (s : State) (whole : g ++ e ∷ rest ≡ h) (f : Follows roles g s) where
    done_alike : acts e.role s.kept ≡ acts e.role g
    done_alike = same_acts e.role s.kept g (same_facts e.role s.kept g f.same)

    free : e.role < roles → IsFree (rules_by net roles h) s e.role
    free lt = record {
      declared = lt;
      running = f.quiet.calm e.role nobody (subst (λ n. e.role < n) (sym f.quiet.size) lt);
      not_due = λ d. (let x = d.1 in omega arith);
      below_limit = omega (arith, f.quiet.whole e.role, ap length done_alike, few_acts e.role g, length-append g (e ∷ rest), ap length whole);
    }

    -- what the role did at this place of its events in the run
    here : slice_get (events_of e.role h) (length (events_of e.role s.kept)) ≡ Some e
    here = ap (λ n. slice_get (events_of e.role h) n) (same_length (events_of e.role s.kept) (events_of e.role g) (same_facts e.role s.kept g f.same)) ∙ ap (λ l. slice_get l (length (events_of e.role g))) split ∙ at_seam (events_of e.role g) (events_of e.role rest) e
      where
        split : events_of e.role h ≡ events_of e.role g ++ e ∷ events_of e.role rest
        split = ap (events_of e.role) (sym whole) ∙ filter-append (is_by e.role) g (e ∷ rest) ∙ ap (λ b. events_of e.role g ++ cond b (e ∷ events_of e.role rest) (events_of e.role rest)) (eq-eqb e.role e.role refl)

    chooses : (zs : List ℕ) → IsIn e.point zs → e.point ≡ chosen_in (slice_get (events_of e.role h) (length (events_of e.role s.kept))) zs
    chooses zs i = sym (ap (λ o. chosen_in o zs) here ∙ ap (λ b. cond b e.point (first_point zs)) (to_listed e.point zs i))

    sends : e.value ≡ number_in (slice_get (events_of e.role h) (length (events_of e.role s.kept)))
    sends = sym (ap number_in here)

    -- one event more, with other stamps
    follows : (entry : Entry) (dir : Dir) (stamp sent : ℕ) → e.dir ≡ dir → May (rules_by net roles h) s entry → (after (rules_by net roles h) s entry).kept ≡ s.kept ++ made e dir stamp sent ∷ [] → Follows roles (g ++ e ∷ []) (after (rules_by net roles h) s entry)
    follows entry dir stamp sent d may kept = record {
      same =
          ap (map deed_of) kept ∙ map-append deed_of s.kept (made e dir stamp sent ∷ [])
          ∙ ap (λ l. l ++ deed_of (made e dir stamp sent) ∷ []) f.same
          ∙ ap (λ x. map deed_of g ++ deed e.role x e.point e.value ∷ []) (sym d)
          ∙ sym (map-append deed_of g (e ∷ []));
      quiet = (after_one (rules_by net roles h) (λ r. refl) s entry f.quiet may).1;
    }

    send_entry : (zs : List ℕ) → IsActAt net e.role (place_after e.role g) (Sending zs) → e.dir ≡ Sent → IsIn e.point zs → IsEntryOf g e s
    send_entry zs does d i = record { entry = Send event; may = may; follows = follows (Send event) Sent event.stamp event.stamp d may refl }
      where
        event : Event
        event = made e Sent ((numbers_at s.roles e.role).clock + 1) ((numbers_at s.roles e.role).clock + 1)

        may : MaySend (rules_by net roles h) s event
        may = record {
          free = free (declared net roles proper e.role (place_after e.role g) e.point (does.0.sound e.point i));
          offered = zs;
          next = subst (λ k. AreNext net e.role k zs) (sym (place_is s e.role ∙ ap (place_of 0) done_alike)) does.0;
          sends = does.2;
          is_send = refl;
          among = i;
          point = chooses zs i;
          value = sends;
          stamp = refl;
          sent = refl;
        }

    recv_entry : (from : ℕ) (zs : List ℕ) → IsActAt net e.role (place_after e.role g) (Receiving from zs) → e.dir ≡ Got → IsIn e.point zs → TakesFront net from g e → IsEntryOf g e s
    recv_entry from zs does d i takes = record { entry = Recv event; may = may; follows = follows (Recv event) Got event.stamp event.sent d may refl }
      where
        waits : (stamp : ℕ) × (others : List Message) × (channel net from e.role s.kept ≡ lying e.point e.value stamp ∷ others)
        waits = front_of (channel net from e.role s.kept) takes.0 (message_of e) (same_letters net from e.role s.kept g f.same ∙ ap (map letter_of) takes.1)

        event : Event
        event = made e Got (max (numbers_at s.roles e.role).clock waits.0 + 1) waits.0

        own : MayOwnRecv (rules_by net roles h) (own_of s e.role) event
        own = record {
          free = free (declared net roles proper e.role (place_after e.role g) e.point (does.0.sound e.point i));
          offered = zs;
          some = λ none. subst (IsIn e.point) none i;
          from = from;
          next = subst (λ k. AreNext net e.role k zs) (sym (place_is s e.role ∙ ap (place_of 0) done_alike)) does.0;
          receives = does.2;
          is_recv = refl;
          sender = (does.2 e.point i).1;
          stamp = refl;
        }

        may : MayRecv (rules_by net roles h) s event
        may = record { own = own; among = i; front = (waits.1, waits.2) }

    entry_of : IsMachineStep net g e → IsEntryOf g e s
    entry_of step = go step.act step.does step.makes
      where
        go : (act : ActView) → IsActAt net e.role (place_after e.role g) act → CanMake act net g e → IsEntryOf g e s
        go (Sending zs) does m = send_entry zs does m.0 m.1
        go (Receiving from zs) does m = recv_entry from zs does m.0 m.1 m.2
        go Ended does m = absurd m

  -- the run from here to its end
  goes_on : (g rest : List Event) (s : State) → g ++ rest ≡ h → Follows roles g s → AreMachineSteps net h → IsEndOf g rest s
  goes_on g [] s whole f steps = record { journal = []; legal = tt; kept = f.same ∙ ap (map deed_of) (sym (append-nil g)) }
  goes_on g (e ∷ rest) s whole f steps =
      let one = entry_of g rest e s whole f (steps g rest e whole) in
      let more = goes_on (g ++ e ∷ []) rest (after (rules_by net roles h) s one.entry) (append_assoc g (e ∷ []) rest ∙ whole) one.follows steps in
      record { journal = one.entry ∷ more.journal; legal = (one.may, more.legal); kept = more.kept ∙ ap (map deed_of) (append_assoc g (e ∷ []) rest) }

  pub journal_of : IsRun net h → (journal : List Entry) × IsJournalOf (rules_by net roles h) h journal
  journal_of run =
      let all = goes_on [] h (start roles) refl (record { same = refl; quiet = at_start (rules_by net roles h) (λ r. refl) }) (steps_of_run net roles proper accepted h run) in
      (all.journal, record { legal = all.legal; acts = (quiet_end (rules_by net roles h) (λ r. refl) all.journal all.legal).0; kept = all.kept })

pub journals_exist : (net : Net) (roles : ℕ) (h : List Event) → IsAcceptedNet net roles → IsRun net h → (rules : Rules) × (journal : List Entry) × AreCalmRules net roles rules × IsJournalOf rules h journal
journals_exist net roles h protocol run =
    let journal = journal_of net roles protocol.proper protocol.accepted h run in
    (rules_by net roles h, journal.0, calm_rules net roles h, journal.1)

-- what a legal journal keeps after each entry is a run, so machines make it
pub journals_keep_steps : (rules : Rules) (front back : List Entry) → IsSession rules → IsLegal rules (front ++ back) → AreMachineSteps rules.net (reading rules front).kept
journals_keep_steps rules front back session legal = steps_of_run rules.net rules.roles session.proper session.accepted (reading rules front).kept (accepted_runs rules (front ++ back) session.proper session.accepted legal front back refl)
