-- A session whose snapshot has a line of each kind: A sent two messages to B, the first of which is forgotten, and saved its state.
use denote.RawPtr.{null_ptr}
use Rattle.std.proofs.Common.{◌≡◌, ℕ, zero, suc, ◌<◌, ◌≤◌, ◌^◌, false, Some, None, List, [], ◌∷◌, length, map, take, drop, refl, sym, ◌∙◌, ap, subst, inl, inr, arith}
use Rattle.std.specs.Prelude.{slice_get, slice_index, slice_index_or, All}
use Rattle.std.specs.Global.{Vec}
use Rattle.std.proofs.lemmas.List.Elements.{All-nil, All-cons}
use Rattle.std.proofs.lemmas.List.Sorted.{IsNonDecreasingBy-short}
use Rattle.rcv_tree.specs.declared.event.Event.{Event}
use Rattle.rcv_tree.specs.declared.event.Dir.TheVariants.{Sent, Got}
use Rattle.rcv_tree.specs.declared.statement.Stmt.{Stmt}
use Rattle.rcv_tree.specs.declared.statement.Stmt.TheVariants as stmt
use Rattle.rcv_tree.specs.declared.statement.Stmt.TheOpen.{Block-F}
use Rattle.rcv_tree.specs.declared.statement.Stmt.TheViews.{roll-Block, out-roll-Block}
use Rattle.rcv_tree.specs.declared.statement.Block.{Block}
use Rattle.rcv_tree.specs.declared.statement.Blocks.{Blocks}
use Rattle.rcv_tree.specs.declared.protocol.Decl.{Decl}
use Rattle.rcv_tree.specs.declared.protocol.Protocol.{Protocol}
use Rattle.rcv_model.specs.Text.{Body, End, Single, stmt_body, body_of, joined}
use Rattle.rcv_model.specs.Net.{Net, IsPrefix}
use Rattle.rcv_model.specs.Places.{net_of}
use Rattle.rcv_model.specs.ByPoints.{IsByEnd}
use Rattle.rcv_model.specs.Run.{is_sent, put, taken}
use Rattle.rcv_model.specs.Next.{IsNext, IsPlaceOf}
use Rattle.rcv_model.specs.Journal.{events_of}
use Rattle.rcv_model.proofs.Cases.{says}
use Rattle.rcv_model.proofs.Lists.{some_same}
use Rattle.rcv_model.proofs.Text.{body_of_lem, stmt_body-Message}
use Rattle.rcv_ledger.specs.Logs.{log_at}
use Rattle.rcv_saves.specs.Saves.{told_of}
use Rattle.rcv_guide.specs.Numbers.{at_start, numbers_at}
use Rattle.rcv_guide.specs.Guide.{net_for, AreFewOf}
use Rattle.rcv_guide.specs.Remembered.{seeds_at, IsDeclaredIn, AreRemembered}
use Rattle.rcv_guided.specs.Session.{SessionView, incarnation_of, begun}
use Rattle.rcv_guided.specs.Counts.{made_of}
use Rattle.rcv_guided.specs.Restoring.{snapshot_of, AreTaken}
use Rattle.rcv_guided.specs.Laws.{IsSentBy, HasForm, IsRestorable, restored_whole, place_before}
use Rattle.rcv_guided.proofs.LawsLists.{first_other}
use Rattle.rcv_guided.proofs.LawsTaken.{snapshots_are_taken}

-- ---- its text: m from A to B; n from A to B
abbrev a_vec : (X : Type 0) (xs : List X) → length xs < 2 ^ 63 → Vec X
a_vec X xs short = record { items = xs; ptr = null_ptr; len = length xs; cap = length xs; alloc = record { memory = record { seal = tt } }; ok = (refl, omega arith); small = short }

abbrev sends : List Stmt
sends = stmt.Message (109 ∷ []) [] 0 1 1 ∷ stmt.Message (110 ∷ []) [] 0 1 2 ∷ []

abbrev text : Block
text = roll-Block (record { items = a_vec Stmt sends (omega arith) })

abbrev two : Body
two = Single (109 ∷ []) [] 0 1 1 (Single (110 ∷ []) [] 0 1 2 End)

its_body : body_of text ≡ two
its_body =
    body_of_lem text
    ∙ ap (λ (b : Block-F Stmt Block Blocks). joined (map stmt_body b.items.items)) (out-roll-Block (record { items = a_vec Stmt sends (omega arith) }))
    ∙ simp (stmt_body-Message)

abbrev protocol : Protocol
protocol = record {
  «module» = (109 ∷ []) ∷ [];
  decls = record { items = a_vec Decl [] (omega arith) };
  name = 80 ∷ [];
  roles = (65 ∷ []) ∷ (66 ∷ []) ∷ [];
  body = text;
}

-- ---- the session
abbrev first : Event
first = says 0 1 5 1

abbrev second : Event
second = says 0 2 6 2

abbrev session : SessionView
session = record {
  guide = record {
    protocol = protocol;
    plan = [];
    logs = (first ∷ second ∷ []) ∷ [] ∷ [];
    numbers = record { seeds = 1; forgotten = 1; point = 1; raw = 2; attempt = 0; clock = 2; down = false } ∷ at_start ∷ [];
    room = 4;
    used = 2;
    told = 2;
  };
  saves = record { steps = 0 ∷ 0 ∷ []; told = (2 ∷ []) ∷ [] ∷ [] };
  incarnations = 0 ∷ 0 ∷ [];
  restored = None;
}

same : net_for session.guide ≡ net_of two
same = ap net_of its_body

-- what holds of both events holds of each
each : (P : ℕ → ℕ → Event → Type 0) → P 0 0 first → P 0 1 second → (r n : ℕ) (e : Event) → slice_get (log_at session.guide.logs r) n ≡ Some e → P r n e
each P one other zero zero e there = subst (P 0 0) (some_same there) one
each P one other zero (suc zero) e there = subst (P 0 1) (some_same there) other
each P one other zero (suc (suc n)) e there = absurd (cc)
each P one other (suc zero) n e there = absurd (cc)
each P one other (suc (suc r)) n e there = absurd (cc)

not_got : Sent ≡ Got → ⊥
not_got e = absurd (let a = ap is_sent e in cc)

form : HasForm session
form = record {
  logs = refl;
  numbers = refl;
  incarnations = refl;
  steps = refl;
  told = refl;
  ascending = ascending;
  seeds = seeds;
  seeds_are = seeds_are;
}
  where
    ascending : (r : ℕ) → r < 2 → (i j : ℕ) → i < j → j < length (slice_index_or session.saves.told r []) → slice_index (slice_index_or session.saves.told r []) i < slice_index (slice_index_or session.saves.told r []) j
    ascending zero lt i j less low = absurd (omega (arith, less, low))
    ascending (suc zero) lt i j less low = absurd (omega (arith, low))
    ascending (suc (suc r)) lt i j less low = absurd (omega (arith, lt))

    seeds : (r : ℕ) → r < 2 → (numbers_at session.guide.numbers r).seeds ≤ length (log_at session.guide.logs r)
    seeds zero lt = omega arith
    seeds (suc zero) lt = omega arith
    seeds (suc (suc r)) lt = absurd (omega (arith, lt))

    seeds_are : (r n : ℕ) (e : Event) → r < 2 → slice_get (seeds_at session.guide r) n ≡ Some e → IsSentBy r e
    seeds_are zero zero e lt there = subst (IsSentBy 0) (some_same there) (record { role = refl; dir = refl; sent = refl })
    seeds_are zero (suc n) e lt there = absurd (cc)
    seeds_are (suc zero) n e lt there = absurd (cc)
    seeds_are (suc (suc r)) n e lt there = absurd (omega (arith, lt))

by_end : (n : Net) → n ≡ net_of two → IsByEnd n first × IsByEnd n second
by_end n is = subst (λ (m : Net). IsByEnd m first × IsByEnd m second) (sym is)
    (record { sends = λ t. refl; recvs = λ t. absurd (cc) }, record { sends = λ t. refl; recvs = λ t. absurd (cc) })

own_places : (n : Net) → n ≡ net_of two → IsPlaceOf n 0 1 × IsPlaceOf n 0 2 × (2 ≤ n.count)
own_places n is = subst (λ (m : Net). IsPlaceOf m 0 1 × IsPlaceOf m 0 2 × (2 ≤ m.count)) (sym is)
    (inr (omega arith, omega arith, inl refl), inr (omega arith, omega arith, inl refl), omega arith)

next_one : (n : Net) → n ≡ net_of two → IsNext n 0 1 2
next_one n is = subst (λ (m : Net). IsNext m 0 1 2) (sym is) (record { way = []; walk = (record { offered = inl refl; ended = λ l lt. absurd (omega (arith, lt)) }, tt); none = tt; own = inl refl })

restorable : IsRestorable session
restorable = record {
  told = omega arith;
  least = omega arith;
  most = omega arith;
  filled = omega arith;
  incarnations = incarnations;
  sound = record {
    points = points;
    events = each (λ r n e. (r < 2) × (1 ≤ e.point) × (e.point ≤ (net_for session.guide).count) × IsPlaceOf (net_for session.guide) r e.point)
        (omega arith, omega arith, (let a = places.2 in omega (arith, a)), places.0) (omega arith, omega arith, places.2, places.1);
    seeds = form.seeds;
    seeds_are = seeds_are;
    ends = each (λ r n e. IsByEnd (net_for session.guide) e) (by_end (net_for session.guide) same).0 (by_end (net_for session.guide) same).1;
  };
  stamped = record {
    grow = λ r i j e f lt at_i at_j. each (λ q n g. (k : ℕ) (d : Event) → k < n → slice_get (log_at session.guide.logs q) k ≡ Some d → d.stamp < g.stamp)
        (λ k d less at_k. absurd (omega (arith, less))) lower r j f at_j i e lt at_i;
    within = each (λ r n e. e.stamp ≤ (numbers_at session.guide.numbers r).clock) (omega arith) (omega arith);
    after = each (λ r n e. e.dir ≡ Got → e.sent < e.stamp) (λ got. absurd (not_got got)) (λ got. absurd (not_got got));
    sent = each (λ r n e. e.dir ≡ Sent → e.sent ≡ e.stamp) (λ d. refl) (λ d. refl);
  };
  few = few;
  queued = queued;
  turns = λ r n e lt le there. each (λ q k f. (numbers_at session.guide.numbers q).seeds ≤ k → IsNext (net_for session.guide) q (place_before session q k) f.point)
      (λ low. absurd (omega (arith, low))) (λ low. next_one (net_for session.guide) same) r n e there le;
  saved = saved;
}
  where
    incarnations : (r : ℕ) → r < 2 → incarnation_of session r ≤ 2
    incarnations zero lt = omega arith
    incarnations (suc zero) lt = omega arith
    incarnations (suc (suc r)) lt = absurd (omega (arith, lt))

    places : IsPlaceOf (net_for session.guide) 0 1 × IsPlaceOf (net_for session.guide) 0 2 × (2 ≤ (net_for session.guide).count)
    places = own_places (net_for session.guide) same

    points : (r : ℕ) → r < 2 → IsPlaceOf (net_for session.guide) r (numbers_at session.guide.numbers r).point
    points zero lt = places.0
    points (suc zero) lt = inl refl
    points (suc (suc r)) lt = absurd (omega (arith, lt))

    seeds_are : (a b : ℕ) → taken (net_for session.guide) a b (take (numbers_at session.guide.numbers b).seeds (log_at session.guide.logs b)) ≡ []
    seeds_are a zero = refl
    seeds_are a (suc zero) = refl
    seeds_are a (suc (suc b)) = refl

    lower : (k : ℕ) (d : Event) → k < 1 → slice_get (log_at session.guide.logs 0) k ≡ Some d → d.stamp < 2
    lower zero d lt there = let is = ap (λ (x : Event). x.stamp) (some_same there) in omega (arith, is)
    lower (suc k) d lt there = absurd (omega (arith, lt))

    few : (r : ℕ) → r < 2 → AreFewOf 2 (log_at session.guide.logs r) (numbers_at session.guide.numbers r)
    few zero lt = record { raw = omega arith; made = omega arith; attempts = omega arith; clocks = omega arith }
    few (suc zero) lt = record { raw = omega arith; made = omega arith; attempts = omega arith; clocks = omega arith }
    few (suc (suc r)) lt = absurd (omega (arith, lt))

    queued : (a b : ℕ) → IsPrefix (taken (net_for session.guide) a b (log_at session.guide.logs b)) (put (net_for session.guide) a b (log_at session.guide.logs a))
    queued a zero = (put (net_for session.guide) a 0 (log_at session.guide.logs a), refl)
    queued a (suc zero) = (put (net_for session.guide) a 1 (log_at session.guide.logs a), refl)
    queued a (suc (suc b)) = (put (net_for session.guide) a (suc (suc b)) (log_at session.guide.logs a), refl)

    saved : (r : ℕ) → r < 2 → All (λ count. count ≤ made_of session r) (told_of session.saves r)
    saved zero lt = All-cons (λ count. count ≤ 2) 2 [] (omega arith) (All-nil (λ count. count ≤ 2))
    saved (suc zero) lt = All-nil (λ count. count ≤ made_of session 1)
    saved (suc (suc r)) lt = absurd (omega (arith, lt))

remembered : AreRemembered session.guide (second ∷ [])
remembered = record {
  each = each_role;
  sorted = IsNonDecreasingBy-short (λ (e : Event). e.stamp) (second ∷ []) (omega arith);
  declared = All-cons (IsDeclaredIn session.guide) second [] (record { role = omega arith; first = omega arith; last = (own_places (net_for session.guide) same).2 }) (All-nil (IsDeclaredIn session.guide));
}
  where
    each_role : (r : ℕ) → events_of r (second ∷ []) ≡ drop (numbers_at session.guide.numbers r).seeds (log_at session.guide.logs r)
    each_role zero = refl
    each_role (suc zero) = refl
    each_role (suc (suc r)) = first_other (suc (suc r)) second [] (λ e. absurd (omega (arith, e)))

-- How much was told, two roles, a message, an event and a save; and a new session takes these lines, and is the same.
six_lines : length (snapshot_of session (second ∷ [])) ≡ 6
six_lines = refl

it_is_taken : AreTaken (begun protocol [] 9 (0 ∷ 0 ∷ [])) (snapshot_of session (second ∷ [])) (restored_whole session)
it_is_taken = snapshots_are_taken session (snapshot_of session (second ∷ [])) 9 form restorable (record { events = second ∷ []; remembered = remembered; lines_are = refl })
