-- Ping, where A has sent its message and saved its state behind that, and B has done nothing: A's Send is forgotten, with its
-- message in flight. The line stays where it is.
use Prim.Native.Nat.{zero, suc}
use Rattle.std.proofs.Common.{◌≡◌, ℕ, ◌+◌, ◌<◌, ◌≤◌, cond, List, [], ◌∷◌, ◌++◌, length, take, drop, replicate, refl, sym, ◌∙◌, ap, subst, inl, inr, append-nil, ne_eqb, arith}
use Rattle.std.specs.Prelude.{slice_index, slice_index_or}
use Rattle.rcv_tree.specs.declared.event.Event.{Event}
use Rattle.rcv_tree.specs.declared.protocol.Protocol.{Protocol}
use Rattle.rcv_model.specs.Plan.{PlanLine}
use Rattle.rcv_model.specs.Text.{Body, body_of}
use Rattle.rcv_model.specs.Places.{net_of}
use Rattle.rcv_model.specs.Run.{acts, place_of, put, taken}
use Rattle.rcv_model.specs.Journal.{events_of}
use Rattle.rcv_model.proofs.Cases.{ping, says}
use Rattle.rcv_model.proofs.Keeping.{queued_nil}
use Rattle.rcv_model.proofs.Roles.{up}
use Rattle.rcv_model.proofs.Steps.{send_queued}
use Rattle.rcv_ledger.specs.Logs.{log_at}
use Rattle.rcv_ledger.proofs.Lists.{none_there}
use Rattle.rcv_saves.specs.Counts.{above}
use Rattle.rcv_saves.specs.Saves.{SavesView, saves_of}
use Rattle.rcv_told.specs.Told.{Remembered}
use Rattle.rcv_told.specs.Forgetting.{since, seeds_of, Lacks, lacked, IsShorter}
use Rattle.rcv_told.proofs.Telling.{none_at}
use Rattle.rcv_guide.specs.declared.numbers.Numbers.{Numbers}
use Rattle.rcv_guide.specs.Numbers.{at_start, numbers_at, AreNumbersOf}
use Rattle.rcv_guide.specs.Guide.{GuideView, net_for, roles_of, in_channel, IsMemory, HasMemory, HasForgotten}
use Rattle.rcv_guide.specs.Line.{IsSavedBehind, AreStable, IsLine, HaveForgotten}
use Rattle.rcv_guide.proofs.Memories.{seeds_at, forgotten_at, point_at, no_seeds, no_forgotten}
use Rattle.rcv_guide.proofs.Tracking.{none_taken}
use Rattle.rcv_guide.proofs.Unmoved.{forgetting_moves_no_line}

-- A's first event
abbrev sent : Event
sent = says 0 1 0 1

abbrev told_once : Numbers
told_once = record at_start { raw = 1; clock = 1 }

abbrev forgotten_once : Numbers
forgotten_once = record told_once { seeds = 1; forgotten = 1; point = 1 }

-- one event of A, and none of B
abbrev one : List ℕ
one = 1 ∷ replicate 7 0

none_else : (r : ℕ) → 2 ≤ r → slice_index one r ≡ 0
none_else zero le = absurd (omega (arith, le))
none_else (suc r) le = none_at 7 r

-- A has saved its state behind its first event
abbrev saves : SavesView
saves = saves_of (0 ∷ 0 ∷ []) ((1 ∷ []) ∷ [] ∷ [])

abbrev left : SavesView
left = saves_of (0 ∷ 0 ∷ []) ([] ∷ [] ∷ [])

module _ (protocol : Protocol) (text : body_of protocol.body ≡ ping) (two : length protocol.roles ≡ 2) (plan : List PlanLine) where
  abbrev before : GuideView
  before = record { protocol = protocol; plan = plan; logs = (sent ∷ []) ∷ [] ∷ []; numbers = told_once ∷ at_start ∷ []; room = 4; used = 1; told = 1 }

  abbrev after : GuideView
  after = record before { numbers = forgotten_once ∷ at_start ∷ [] }

  -- its message is in flight, before and after
  in_flight : (in_channel after 0 1 ≡ record { point = 1; value = sent.value; stamp = 1 } ∷ []) × (in_channel before 0 1 ≡ in_channel after 0 1)
  in_flight = (ap (λ (b : Body). put (net_of b) 0 1 (sent ∷ [])) text, refl)

  abbrev whole : Remembered
  whole =
      record {
        held = sent ∷ [];
        seeds = 0 ∷ 0 ∷ [];
        forgotten = 0 ∷ 0 ∷ [];
        points = 0 ∷ 0 ∷ [];
        roles = up 1 0 0 1 ∷ up 0 0 0 0 ∷ [];
      }

  whole_events : (r : ℕ) → events_of r whole.held ≡ log_at before.logs r
  whole_events zero = refl
  whole_events (suc zero) = refl
  whole_events (suc (suc r)) = ap (λ b. cond b (sent ∷ []) []) (ne_eqb 0 (suc (suc r)) (λ e. omega (arith, e)))

  whole_numbers : (r : ℕ) → r < 2 → AreNumbersOf whole r (numbers_at before.numbers r)
  whole_numbers zero lt = record { seeds = refl; forgotten = refl; point = refl; raw = refl; attempt = refl; clock = refl; down = refl }
  whole_numbers (suc zero) lt = record { seeds = refl; forgotten = refl; point = refl; raw = refl; attempt = refl; clock = refl; down = refl }
  whole_numbers (suc (suc r)) lt = absurd (omega (arith, lt))

  has_memory : HasMemory before
  has_memory = record {
    memory = whole;
    is = record {
      events = whole_events;
      queued = send_queued (net_for before) [] sent (queued_nil (net_for before)) refl;
      numbers_are = record {
        have = record { seeds = sym two; forgotten = sym two; points = sym two; numbers = sym two };
        all = sym two;
        each = λ r lt. whole_numbers r (subst (λ n. r < n) two lt);
      };
    };
  }

  -- whatever the memory is, its shorter one has the Send as A's seed
  module _ (m : Remembered) (is : IsMemory before m) where
    abbrev short : Remembered
    short = record m { seeds = 1 ∷ 0 ∷ []; forgotten = 1 ∷ 0 ∷ []; points = 1 ∷ 0 ∷ [] }

    abbrev gone : ℕ → ℕ
    gone r = slice_index (1 ∷ 0 ∷ []) r

    declared : (r : ℕ) → r < 2 → r < roles_of before
    declared r lt = subst (λ n. r < n) (sym two) lt

    short_numbers : (r : ℕ) → r < 2 → AreNumbersOf short r (numbers_at after.numbers r)
    short_numbers zero lt = let x = is.numbers_are.each 0 (declared 0 lt) in record { seeds = refl; forgotten = refl; point = refl; raw = x.raw; attempt = x.attempt; clock = x.clock; down = x.down }
    short_numbers (suc zero) lt = let x = is.numbers_are.each 1 (declared 1 lt) in record { seeds = refl; forgotten = refl; point = refl; raw = x.raw; attempt = x.attempt; clock = x.clock; down = x.down }
    short_numbers (suc (suc r)) lt = absurd (omega (arith, lt))

    short_is : IsMemory after short
    short_is = record {
      events = is.events;
      queued = is.queued;
      numbers_are = record {
        have = record {
          seeds = sym two;
          forgotten = sym two;
          points = sym two;
          numbers = is.numbers_are.have.numbers;
        };
        all = sym two;
        each = λ r lt. short_numbers r (subst (λ n. r < n) two lt);
      };
    }

    -- of each role nothing is forgotten before
    no_seeds_yet : (r : ℕ) → slice_index m.seeds r ≡ 0
    no_seeds_yet zero = seeds_at before m is 0 (declared 0 (omega arith))
    no_seeds_yet (suc zero) = seeds_at before m is 1 (declared 1 (omega arith))
    no_seeds_yet (suc (suc r)) = no_seeds before m is (suc (suc r)) (omega (arith, two))

    none_yet : (r : ℕ) → slice_index m.forgotten r ≡ 0
    none_yet zero = forgotten_at before m is 0 (declared 0 (omega arith))
    none_yet (suc zero) = forgotten_at before m is 1 (declared 1 (omega arith))
    none_yet (suc (suc r)) = no_forgotten before m is (suc (suc r)) (omega (arith, two))

    at_first : (r : ℕ) → slice_index m.points r ≡ 0
    at_first zero = point_at before m is 0 (declared 0 (omega arith))
    at_first (suc zero) = point_at before m is 1 (declared 1 (omega arith))
    at_first (suc (suc r)) = none_there m.points (suc (suc r)) 0 (let a = is.numbers_are.have.points in omega (arith, a, two))

    since_all : (r : ℕ) → since m r ≡ log_at before.logs r
    since_all r = ap (λ n. drop n (events_of r m.held)) (no_seeds_yet r) ∙ is.events r

    no_seeds_of : (r : ℕ) → seeds_of m r ≡ []
    no_seeds_of r = ap (λ n. take n (events_of r m.held)) (no_seeds_yet r)

    -- a role of which no event is forgotten
    lacks_none : (r : ℕ) → slice_index (1 ∷ 0 ∷ []) r ≡ 0 → Lacks m short r 0
    lacks_none r none = record {
      enough = omega arith;
      forgotten = let a = none_yet r in omega (arith, a, none);
      since_is = ap (λ n. drop n (events_of r m.held)) (none ∙ sym (no_seeds_yet r));
      point = none ∙ sym (at_first r);
      old_seeds = let a = no_seeds_yet r in omega (arith, a);
      new_seeds = omega (arith, none);
    }

    lacks : (r : ℕ) → Lacks m short r (gone r)
    lacks zero = record {
      enough = let a = ap length (since_all 0) in omega (arith, a);
      forgotten = let a = none_yet 0 in omega (arith, a);
      since_is = ap (drop 1) (is.events 0) ∙ sym (ap (drop 1) (since_all 0));
      point = sym (ap (λ l. place_of (slice_index m.points 0) (acts 0 (take 1 l))) (since_all 0));
      old_seeds = let a = no_seeds_yet 0 in omega (arith, a);
      new_seeds = let a = ap length (is.events 0) in omega (arith, a);
    }
    lacks (suc zero) = lacks_none 1 refl
    lacks (suc (suc r)) = lacks_none (suc (suc r)) refl

    -- what is forgotten of a role is what it has as seeds
    lacked_is : (r : ℕ) → lacked m r (gone r) ≡ seeds_of short r
    lacked_is zero = ap (λ l. l ++ take 1 (since m 0)) (no_seeds_of 0) ∙ ap (take 1) (since_all 0) ∙ sym (ap (take 1) (is.events 0))
    lacked_is (suc zero) = append-nil (seeds_of m 1) ∙ no_seeds_of 1
    lacked_is (suc (suc r)) = append-nil (seeds_of m (suc (suc r))) ∙ no_seeds_of (suc (suc r))

    no_recv : (a b : ℕ) → taken (net_for before) a b (seeds_of short b) ≡ []
    no_recv a zero = ap (λ l. taken (net_for before) a 0 (take 1 l)) (is.events 0)
    no_recv a (suc zero) = refl
    no_recv a (suc (suc b)) = refl

    is_shorter : IsShorter (net_for before) m short
    is_shorter = record {
      gone = gone;
      lacks = lacks;
      messages = λ a b. record {
        received = [];
        sent_is = ap (put (net_for before) a b) (lacked_is a);
        received_is = ap (taken (net_for before) a b) (lacked_is b) ∙ no_recv a b;
        seeds_are = no_recv a b;
      };
      old_queued = is.queued;
      new_queued = is.queued;
      roles = refl;
    }

  gone_now : (r : ℕ) → r < 2 → (numbers_at after.numbers r).forgotten ≡ (numbers_at before.numbers r).forgotten + slice_index one r
  gone_now zero lt = refl
  gone_now (suc zero) lt = refl
  gone_now (suc (suc r)) lt = absurd (omega (arith, lt))

  has_forgotten : HasForgotten before after one 4
  has_forgotten = record {
    shorter = λ m is. (short m is, short_is m is, is_shorter m is);
    gone = λ r lt. gone_now r (subst (λ n. r < n) two lt);
    used = refl;
    few = omega arith;
    rest = refl;
  }

  have_forgotten : HaveForgotten after saves left
  have_forgotten = record { steps = refl; told = λ r lt. told r (subst (λ n. r < n) two lt) }
    where
      told : (r : ℕ) → r < 2 → slice_index_or left.told r [] ≡ above (numbers_at after.numbers r).forgotten (slice_index_or saves.told r [])
      told zero lt = refl
      told (suc zero) lt = refl
      told (suc (suc r)) lt = absurd (omega (arith, lt))

  -- nothing is received
  none_received : (a b n : ℕ) → length (taken (net_for before) a b (take n (log_at before.logs b))) ≡ 0
  none_received a zero zero = refl
  none_received a zero (suc n) = ap (λ l. length (taken (net_for before) a 0 (sent ∷ l))) (none_taken n)
  none_received a (suc zero) zero = refl
  none_received a (suc zero) (suc n) = refl
  none_received a (suc (suc b)) zero = refl
  none_received a (suc (suc b)) (suc n) = refl

  stable_before : AreStable before saves one
  stable_before = record {
    forget = record {
      eight = refl;
      held = λ r lt. held r (subst (λ n. r < n) two lt);
      closed = λ a b la lb. let z = none_received a b ((numbers_at before.numbers b).seeds + slice_index one b) in omega (arith, z);
    };
    saved = λ r lt. saved r (subst (λ n. r < n) two lt);
  }
    where
      held : (r : ℕ) → r < 2 → (numbers_at before.numbers r).seeds + slice_index one r ≤ length (log_at before.logs r)
      held zero lt = omega arith
      held (suc zero) lt = omega arith
      held (suc (suc r)) lt = absurd (omega (arith, lt))

      saved : (r : ℕ) → r < 2 → IsSavedBehind before.numbers saves r (slice_index one r)
      saved zero lt = inr (omega arith, inl (0, omega arith, refl))
      saved (suc zero) lt = inl refl
      saved (suc (suc r)) lt = absurd (omega (arith, lt))

  line_before : IsLine before saves one
  line_before = record {
    stable = stable_before;
    greatest = λ other s r lt. greatest other r (subst (λ n. r < n) two lt) (s.forget.held r lt);
    others = λ r le. none_else r (subst (λ n. n ≤ r) two le);
  }
    where
      greatest : (other : List ℕ) (r : ℕ) → r < 2 → (numbers_at before.numbers r).seeds + slice_index other r ≤ length (log_at before.logs r) → slice_index other r ≤ slice_index one r
      greatest other zero lt le = omega (arith, le)
      greatest other (suc zero) lt le = omega (arith, le)
      greatest other (suc (suc r)) lt le = absurd (omega (arith, lt))

  line_after : IsLine after left (replicate 8 0)
  line_after = record {
    stable = record {
      forget = record {
        eight = refl;
        held = λ r lt. held r (subst (λ n. r < n) two lt);
        closed = λ a b la lb. let z = none_received a b ((numbers_at after.numbers b).seeds + slice_index (replicate 8 0) b) in omega (arith, z);
      };
      saved = λ r lt. inl (let z = none_at 8 r in omega (arith, z));
    };
    greatest = λ other s r lt. greatest other r (subst (λ n. r < n) two lt) (s.forget.held r lt);
    others = λ r le. none_at 8 r;
  }
    where
      held : (r : ℕ) → r < 2 → (numbers_at after.numbers r).seeds + slice_index (replicate 8 0) r ≤ length (log_at after.logs r)
      held zero lt = omega arith
      held (suc zero) lt = omega arith
      held (suc (suc r)) lt = absurd (omega (arith, lt))

      greatest : (other : List ℕ) (r : ℕ) → r < 2 → (numbers_at after.numbers r).seeds + slice_index other r ≤ length (log_at after.logs r) → slice_index other r ≤ slice_index (replicate 8 0) r
      greatest other zero lt le = omega (arith, le)
      greatest other (suc zero) lt le = omega (arith, le)
      greatest other (suc (suc r)) lt le = absurd (omega (arith, lt))

  -- The line of A is behind its first event, before and after.
  unmoved : (r : ℕ) → (numbers_at after.numbers r).forgotten + slice_index (replicate 8 0) r ≡ (numbers_at before.numbers r).forgotten + slice_index one r
  unmoved = forgetting_moves_no_line before after saves left one one (replicate 8 0) 4 has_memory stable_before has_forgotten have_forgotten line_before line_after
