-- A memory and a shorter one of the same session, which may be itself.
use Rattle.std.proofs.Common.{◌≡◌, ℕ, zero, suc, ◌≤◌, Bool, true, false, cond, Some, List, [], ◌∷◌, length, take, drop, refl, ◌∙◌, ap, append-nil, eq-eqb, arith}
use Rattle.std.specs.Prelude.{◌==◌, replicate, slice_get, slice_index}
use Rattle.rcv_tree.specs.Bits.{is_listed}
use Rattle.rcv_tree.specs.declared.event.Event.{Event}
use Rattle.rcv_tree.specs.declared.entry.Entry.{Entry}
use Rattle.rcv_tree.specs.declared.entry.Entry.TheVariants.{Send, Recv, Crash, Recover}
use Rattle.rcv_model.specs.Net.{Net}
use Rattle.rcv_model.specs.ByPoints.{IsByEnd, AreByEnds}
use Rattle.rcv_model.specs.Run.{acts, put, taken, IsQueued}
use Rattle.rcv_model.specs.Journal.{events_of}
use Rattle.rcv_model.proofs.Bystanders.{as_many}
use Rattle.rcv_model.proofs.Keeping.{queued_nil}
use Rattle.rcv_told.specs.Told.{Terms, Remembered, nothing_told, left_at, MayBeTold}
use Rattle.rcv_told.specs.Forgetting.{seeds_of, Lacks, LacksMessages, IsShorter}
use Rattle.rcv_told.proofs.Losing.{failed_shorter}
use Rattle.rcv_told.proofs.Remembering.{no_answer}
use Rattle.rcv_told.proofs.Telling.{none_at}

-- events are by the ends of their points where each role's are
pub ends_all : (net : Net) (h : List Event) → ((r n : ℕ) (e : Event) → slice_get (events_of r h) n ≡ Some e → IsByEnd net e) → AreByEnds net h
ends_all net [] each = tt
ends_all net (e ∷ h) each = (
  each e.role 0 e (ap (λ b. slice_get (cond b (e ∷ events_of e.role h) (events_of e.role h)) 0) (eq-eqb e.role e.role refl)),
  ends_all net h (λ r n f at. later r n f at (e.role == r) refl),
)
  where
    later : (r n : ℕ) (f : Event) → slice_get (events_of r h) n ≡ Some f → (b : Bool) → (e.role == r) ≡ b → IsByEnd net f
    later r n f at true t = each r (suc n) f (ap (λ b. slice_get (cond b (e ∷ events_of r h) (events_of r h)) (suc n)) t ∙ at)
    later r n f at false t = each r n f (ap (λ b. slice_get (cond b (e ∷ events_of r h) (events_of r h)) n) t ∙ at)

-- at the start
pub none_taken : {A : Type 0} (n : ℕ) → take {A = A} n [] ≡ []
none_taken zero = refl
none_taken (suc n) = refl

none_dropped : {A : Type 0} (n : ℕ) → drop {A = A} n [] ≡ []
none_dropped zero = refl
none_dropped (suc n) = refl

-- a memory is shorter than itself, or the same
module _ (net : Net) (m : Remembered) (many : (r : ℕ) → slice_index m.seeds r ≤ length (events_of r m.held)) (none : (a b : ℕ) → taken net a b (seeds_of m b) ≡ []) (queued : IsQueued net m.held) where
  lacks_nothing : (r : ℕ) → Lacks m m r 0
  lacks_nothing r = record { enough = omega arith; forgotten = omega arith; since_is = refl; point = refl; old_seeds = many r; new_seeds = many r }

  lacks_no_message : (a b : ℕ) → LacksMessages net m m (λ r. 0) a b
  lacks_no_message a b = record {
    received = [];
    sent_is = ap (put net a b) (append-nil (seeds_of m a));
    received_is = ap (taken net a b) (append-nil (seeds_of m b)) ∙ none a b;
    seeds_are = none a b;
  }

  pub shorter_itself : IsShorter net m m
  shorter_itself = record {
    gone = λ r. 0;
    lacks = lacks_nothing;
    messages = lacks_no_message;
    old_queued = queued;
    new_queued = queued;
    roles = refl;
  }

  -- a failure that loses nothing forgotten leaves what is remembered of that
  pub seeds_kept : (group : List ℕ) (saved : ℕ → ℕ) → ((q : ℕ) → is_listed group q ≡ true → slice_index m.forgotten q ≤ saved q) → (q : ℕ) → slice_index m.seeds q ≤ length (acts q (left_at net m group saved))
  seeds_kept group saved above q =
      let a = ((failed_shorter net m m shorter_itself group saved above).lacks q).new_seeds in
      let b = as_many q (left_at net m group saved) in
      omega (arith, a, b)

pub start_shorter : (net : Net) (roles : ℕ) → IsShorter net (nothing_told roles) (nothing_told roles)
start_shorter net roles =
    shorter_itself net (nothing_told roles)
    (λ r. let a = none_at roles r in omega (arith, a))
    (λ a b. ap (taken net a b) (none_taken (slice_index (replicate roles 0) b)))
    (queued_nil net)

-- what may be told to the shorter memory may be told to the longer one
pub to_longer : (terms : Terms) (old new : Remembered) → IsShorter terms.net old new → (e : Entry) → MayBeTold terms new e → MayBeTold terms old e
to_longer terms old new is (Send e) may = (no_answer terms old new (Send e) is).0.0 may
to_longer terms old new is (Recv e) may = (no_answer terms old new (Recv e) is).0.0 may
to_longer terms old new is (Crash p) may = (no_answer terms old new (Crash p) is).0.0 may
to_longer terms old new is (Recover p concerned kept undone) may =
    let a = (no_answer terms old new (Recover p concerned kept undone) is).0.0 may in
    (a.0, (a.1.0, a.1.2))
