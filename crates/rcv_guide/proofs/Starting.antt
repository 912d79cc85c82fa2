-- A guide before the first event.
use Rattle.std.proofs.Common.{◌≡◌, ℕ, ℤ, zero, suc, ◌+◌, ◌<◌, ◌^◌, Some, List, [], ◌∷◌, ◌++◌, length, replicate, refl, sym, ◌∙◌, ap, subst, inl, take, arith}
use Rattle.std.specs.Prelude.{pos, slice_get, slice_index_or}
use Rattle.std.specs.List.{sum_by, range_with_len}
use Rattle.std.proofs.lemmas.List.{length-replicate, get_or-replicate}
use Rattle.std.proofs.lemmas.List.Sums.{sum_by-cons}
use Rattle.std.proofs.lemmas.Option.{get_or_from_slice_get}
use Rattle.rcv_tree.specs.declared.protocol.Protocol.{Protocol}
use Rattle.rcv_tree.specs.declared.entry.Entry.{Entry}
use Rattle.rcv_tree.specs.Numbers.{fresh as none_counted}
use Rattle.rcv_tree.specs.declared.event.Event.{Event}
use Rattle.rcv_tree.specs.declared.numbers.Numbers as counts
use Rattle.rcv_model.specs.Plan.{PlanLine}
use Rattle.rcv_model.specs.Text.{body_of}
use Rattle.rcv_model.specs.Places.{net_of}
use Rattle.rcv_model.specs.Run.{taken}
use Rattle.rcv_model.specs.Journal.{nobody, numbers_at as counted_at}
use Rattle.rcv_model.proofs.Keeping.{queued_nil}
use Rattle.rcv_checkpoint.specs.Stack.{StackView}
use Rattle.rcv_accept.specs.Accepted.{IsAcceptedProtocol}
use Rattle.rcv_plan.specs.Lines.{IsPlanned}
use Rattle.rcv_tables.specs.Rows.{TableView, IsTable}
use Rattle.rcv_ledger.specs.Logs.{log_at}
use Rattle.rcv_ledger.specs.Ledger.{LedgerView, IsStart, HoldsKept}
use Rattle.rcv_ledger.proofs.Holding.{starts_hold_nothing}
use Rattle.rcv_told.specs.Told.{nothing_told}
use Rattle.rcv_guide.specs.declared.numbers.Numbers.{Numbers}
use Rattle.rcv_guide.specs.Numbers.{at_start, numbers_at, AreNumbersOf}
use Rattle.rcv_guide.specs.Guide.{GuideView, guide_of, opened, no_vars, IsMemory, AreFewOf, IsGuide}

-- lists of one item
pub replicate_more : {A : Type 0} (n : ℕ) (x : A) → replicate (suc n) x ≡ replicate n x ++ x ∷ []
replicate_more zero x = refl
replicate_more (suc n) x = ap (λ l. x ∷ l) (replicate_more n x)

pub one_more : {A : Type 0} (xs more : List A) (n : ℕ) (x y : A) → xs ≡ replicate n x → y ≡ x → more ≡ xs ++ y ∷ [] → more ≡ replicate (n + 1) x
one_more xs more n x y are is grown =
    let next : suc n ≡ n + 1 = omega arith in
    grown ∙ ap (λ l. l ++ y ∷ []) are ∙ ap (λ z. replicate n x ++ z ∷ []) is ∙ sym (replicate_more n x) ∙ ap (λ k. replicate k x) next

at_replicate : {A : Type 0} (n r : ℕ) (x : A) → slice_index_or (replicate n x) r x ≡ x
at_replicate zero r x = refl
at_replicate (suc n) zero x = refl
at_replicate (suc n) (suc r) x = at_replicate n r x

pub get_replicate : {A : Type 0} (n r : ℕ) (x : A) → r < n → slice_get (replicate n x) r ≡ Some x
get_replicate zero r x lt = absurd (omega (arith, lt))
get_replicate (suc n) zero x lt = refl
get_replicate (suc n) (suc r) x lt = get_replicate n r x (omega (arith, lt))

nothing_logged : (k a n : ℕ) → sum_by (λ r. length (log_at (replicate k []) r)) (range_with_len a n) ≡ 0
nothing_logged k a zero = refl
nothing_logged k a (suc n) =
    let here = ap (λ (l : List Event). length l) (at_replicate k a []) in
    let ih = nothing_logged k (a + 1) n in
    omega (arith, here, ih, sum_by-cons (λ r. length (log_at (replicate k []) r)) a (range_with_len (a + 1) n))

abbrev pub view_with : Protocol → List PlanLine → List (List Event) → List Numbers → ℕ → ℕ → ℕ → GuideView
view_with protocol plan logs numbers room used told =
    record { protocol = protocol; plan = plan; logs = logs; numbers = numbers; room = room; used = used; told = told }

module _ (protocol : Protocol) (plan : List PlanLine) (room : ℕ) where
  abbrev roles : ℕ
  roles = length protocol.roles

  pub opened_view : (ledger : LedgerView) (numbers : List Numbers) → ledger.logs ≡ replicate roles [] → numbers ≡ replicate roles at_start → ledger.entries ≡ [] → guide_of protocol plan ledger numbers room 0 ≡ opened protocol plan room
  opened_view ledger numbers e f h =
      ap (λ l. view_with protocol plan l numbers room (length ledger.entries) 0) e
      ∙ ap (λ n. view_with protocol plan (replicate roles []) n room (length ledger.entries) 0) f
      ∙ ap (λ (es : List Entry). view_with protocol plan (replicate roles []) (replicate roles at_start) room (length es) 0) h

  number_at : (r : ℕ) → numbers_at (replicate roles at_start) r ≡ at_start
  number_at r = at_replicate roles r at_start

  counted_first : (r : ℕ) → r < roles → counted_at (replicate roles none_counted) r ≡ none_counted
  counted_first r lt = get_or-replicate roles r none_counted nobody lt

  no_log : (r : ℕ) → log_at (replicate roles []) r ≡ []
  no_log r = at_replicate roles r []

  no_event : (r n : ℕ) (e : Event) → slice_get (log_at (replicate roles []) r) n ≡ Some e → ⊥
  no_event r n e at = nowhere n e (subst (λ l. slice_get l n ≡ Some e) (no_log r) at)
    where
      nowhere : (n : ℕ) (e : Event) → slice_get [] n ≡ Some e → ⊥
      nowhere n e at = absurd (cc)

  pub memory_first : IsMemory (opened protocol plan room) (nothing_told roles)
  memory_first = record {
    events = λ r. sym (no_log r);
    queued = queued_nil (net_of (body_of protocol.body));
    numbers_are = record {
      have = record {
        seeds = length-replicate _ _;
        forgotten = length-replicate _ _;
        points = length-replicate _ _;
        numbers = length-replicate _ _;
      };
      all = length-replicate _ _;
      each = λ r lt. subst (λ (x : Numbers). AreNumbersOf (nothing_told roles) r x) (sym (number_at r)) (record {
        seeds = get_replicate roles r 0 lt;
        forgotten = get_replicate roles r 0 lt;
        point = get_replicate roles r 0 lt;
        raw = ap (λ (x : counts.Numbers). x.raw) (counted_first r lt);
        attempt = ap (λ (x : counts.Numbers). x.attempt) (counted_first r lt);
        clock = ap (λ (x : counts.Numbers). x.clock) (counted_first r lt);
        down = ap (λ (x : counts.Numbers). x.crashed) (counted_first r lt);
      });
    };
  }

  pub guide_first : (table : TableView) (ledger : LedgerView) (firsts : List (List ℤ)) (everys : List ℕ) → IsAcceptedProtocol protocol → IsPlanned roles plan → IsTable (net_of (body_of protocol.body)) roles table → room < 2 ^ 31 → firsts ≡ replicate roles (replicate 16 (pos 0)) → IsStart firsts everys room room ledger → IsGuide (opened protocol plan room) table ledger
  guide_first table ledger firsts everys accepted planned table_is few are begun = record {
    protocol = accepted;
    planned = planned;
    table_is = table_is;
    logs = length-replicate _ _;
    numbers = length-replicate _ _;
    holds = record {
      memory = nothing_told roles;
      is = memory_first;
      holds = subst (λ n. HoldsKept (net_of (body_of protocol.body)) n no_vars [] ledger) size
          (starts_hold_nothing (net_of (body_of protocol.body)) no_vars firsts everys room room ledger (let a = accepted.form.few_roles in omega (arith, a, size))
          (λ r lt. sym (get_or_from_slice_get firsts r (replicate 16 (pos 0)) [] (ap (λ l. slice_get l r) are ∙ get_replicate roles r (replicate 16 (pos 0)) (omega (arith, lt, size)))))
          begun);
    };
    sound = record {
      points = λ r lt. inl (ap (λ (x : Numbers). x.point) (number_at r));
      events = λ r n e at. absurd (no_event r n e at);
      seeds = λ r lt. let a = ap (λ (x : Numbers). x.seeds) (number_at r) in omega (arith, a);
      seeds_are = λ a b. ap (λ (x : Numbers). taken (net_of (body_of protocol.body)) a b (take x.seeds (log_at (replicate roles []) b))) (number_at b);
      ends = λ r n e at. absurd (no_event r n e at);
    };
    stamped = record {
      grow = λ r i j d f lt at_i at_j. absurd (no_event r i d at_i);
      within = λ r i d at. absurd (no_event r i d at);
      after = λ r i d at got. absurd (no_event r i d at);
      sent = λ r i d at is. absurd (no_event r i d at);
    };
    told = omega arith;
    few = λ r lt. subst (λ (x : Numbers). AreFewOf 0 (log_at (replicate roles []) r) x) (sym (number_at r))
        (let none = ap (λ (l : List Event). length l) (no_log r) in record { raw = omega arith; made = omega (arith, none); attempts = omega arith; clocks = omega arith });
    rooms = record {
      few = few;
      used = sym (ap length begun.entries);
      filled = omega arith;
      logged = let a = nothing_logged roles 0 (length (opened protocol plan room).logs) in omega (arith, a);
      most = let a = begun.room_in_all in omega (arith, a);
      events = let a = begun.room in omega (arith, a);
      states = λ r lt. let a = ap (λ (x : StackView). x.room) (begun.stacks r (omega (arith, lt, size))) in omega (arith, a);
    };
  }
    where
      size : length firsts ≡ roles
      size = ap length are ∙ length-replicate _ _
