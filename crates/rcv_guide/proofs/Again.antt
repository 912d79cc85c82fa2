-- What may be restored fits, and the guide that is restored.
use Rattle.std.proofs.Common.{◌≡◌, ℕ, ℤ, ◌+◌, ◌-◌, ◌<◌, ◌≤◌, ◌^◌, Bool, true, false, cond, Some, List, [], ◌∷◌, ◌++◌, length, length-append, take, replicate, refl, sym, ◌∙◌, ap, arith}
use Rattle.std.specs.Prelude.{pos, slice_get, slice_set}
use Rattle.std.proofs.lemmas.List.{set-get_or}
use Rattle.std.proofs.lemmas.List.Elements.{filter_map-append}
use Rattle.rcv_tree.specs.declared.protocol.Protocol.{Protocol}
use Rattle.rcv_tree.specs.declared.event.Event.{Event}
use Rattle.rcv_tree.specs.declared.event.Message.{Message}
use Rattle.rcv_tree.specs.declared.event.Dir.{Dir}
use Rattle.rcv_tree.specs.declared.event.Dir.TheVariants.{Sent, Got}
use Rattle.rcv_tree.specs.declared.entry.Entry.TheVariants.{Send, Recv}
use Rattle.rcv_tree.specs.Events.{message_got}
use Rattle.rcv_model.specs.Net.{Net}
use Rattle.rcv_model.specs.ByPoints.{IsByEnd}
use Rattle.rcv_model.specs.Plan.{PlanLine}
use Rattle.rcv_model.specs.Run.{is_sent, taken, taken_by}
use Rattle.rcv_model.proofs.Lists.{some_same}
use Rattle.rcv_checkpoint.specs.declared.state.State as checkpoints
use Rattle.rcv_tables.specs.Rows.{TableView}
use Rattle.rcv_ledger.specs.Logs.{log_at}
use Rattle.rcv_ledger.specs.Ledger as ledgers
use Rattle.rcv_ledger.specs.Ledger.{LedgerView, behind_event, with_send, with_recv, IsStart}
use Rattle.rcv_ledger.proofs.Lists.{take_left, take_whole}
use Rattle.rcv_told.specs.Told.{Remembered, made, IsInFront}
use Rattle.rcv_guide.specs.declared.numbers.Numbers.{Numbers}
use Rattle.rcv_guide.specs.Numbers.{at_start, numbers_at}
use Rattle.rcv_guide.specs.Guide.{GuideView, guide_of, net_for, roles_of, opened, stand, IsMemory, HasMemory, IsGuide}
use Rattle.rcv_guide.specs.Renewal.{with_one}
use Rattle.rcv_guide.specs.Restoring.{begun_again, MayLie, MayBeAgain, sent_by, with_again, IsTurn, FitsEvent, with_logged}
use Rattle.rcv_guide.proofs.Guides.{next_in}
use Rattle.rcv_guide.proofs.Logging.{seeded}
use Rattle.rcv_guide.proofs.Memories.{made_at}
use Rattle.rcv_guide.proofs.Starting.{view_with, opened_view, guide_first}

-- what is first in a list, and what is behind it
pub first_rest : {A : Type 0} (xs : List A) (x : A) → slice_get xs 0 ≡ Some x → (rest : List A) × (xs ≡ x ∷ rest)
first_rest [] x at = absurd (cc)
first_rest (y ∷ xs) x at = (xs, ap (λ z. z ∷ xs) (some_same at))

-- how many events a role made
pub made_is : (g : GuideView) (x r : ℕ) → HasMemory g → r < roles_of g → ((m : Remembered) → IsMemory g m → x ≡ made m r) → x ≡ (numbers_at g.numbers r).forgotten + (length (log_at g.logs r) - (numbers_at g.numbers r).seeds)
made_is g x r has lt is = is has.memory has.is ∙ made_at g has.memory has.is r lt

-- ---- the beginning
module _ {g : GuideView} {table : TableView} {ledger : LedgerView} (kept : IsGuide g table ledger) (room told : ℕ) (few : room < 2 ^ 31) (most : told ≤ 2 ^ 62) (now : LedgerView)
    (begun : IsStart (replicate (roles_of g) (replicate 16 (pos 0))) (replicate (roles_of g) 1) room room now) where
  first : IsGuide (opened g.protocol g.plan room) table now
  first = guide_first g.protocol g.plan room table now (replicate (roles_of g) (replicate 16 (pos 0))) (replicate (roles_of g) 1) kept.protocol kept.planned kept.table_is few refl begun

  pub guide_begun : IsGuide (begun_again g.protocol g.plan room told) table now
  guide_begun = record {
    protocol = first.protocol;
    planned = first.planned;
    table_is = first.table_is;
    logs = first.logs;
    numbers = first.numbers;
    holds = record {
      memory = first.holds.memory;
      is = record { events = first.holds.is.events; queued = first.holds.is.queued; numbers_are = first.holds.is.numbers_are };
      holds = first.holds.holds;
    };
    sound = record {
      points = first.sound.points;
      events = first.sound.events;
      seeds = first.sound.seeds;
      seeds_are = first.sound.seeds_are;
      ends = first.sound.ends;
    };
    stamped = record { grow = first.stamped.grow; within = first.stamped.within; after = first.stamped.after; sent = first.stamped.sent };
    told = most;
    few = λ r lt.
        let old = first.few r lt in
        record {
          raw = let a = old.raw in omega (arith, a);
          made = old.made;
          attempts = let a = old.attempts in omega (arith, a);
          clocks = let a = old.clocks in omega (arith, a);
        };
    rooms = record {
      few = first.rooms.few;
      used = first.rooms.used;
      filled = first.rooms.filled;
      logged = first.rooms.logged;
      most = first.rooms.most;
      events = first.rooms.events;
      states = first.rooms.states;
    };
  }

abbrev at_told : ℕ → GuideView → GuideView
at_told told g = record g { told = told }

pub begun_view : (protocol : Protocol) (plan : List PlanLine) (room told : ℕ) (ledger : LedgerView) (numbers : List Numbers) → ledger.logs ≡ replicate (length protocol.roles) [] → numbers ≡ replicate (length protocol.roles) at_start → ledger.entries ≡ [] → guide_of protocol plan ledger numbers room told ≡ begun_again protocol plan room told
begun_view protocol plan room told ledger numbers e f h = ap (at_told told) (opened_view protocol plan room ledger numbers e f h)

-- ---- an event
-- with the numbers that its role had it is only logged
pub again_is : (g : GuideView) (e : Event) → with_logged g e (numbers_at g.numbers e.role).seeds ≡ with_again g e
again_is g e =
    ap (λ n. view_with g.protocol g.plan (ledgers.with_event g.logs e) n g.room (g.used + 1) g.told)
    (set-get_or g.numbers e.role at_start)

-- the same guide with one event more
module _ (net : Net) (ledger : LedgerView) (e : Event) (state : checkpoints.State) where
  abbrev either : Bool → LedgerView
  either b = cond b (with_send ledger e (net.receiver e.point) state) (with_recv ledger e (net.sender e.point) state)

  pub either_logs : (b : Bool) → (either b).logs ≡ ledgers.with_event ledger.logs e
  either_logs true = refl
  either_logs false = refl

  pub either_entries : (b : Bool) → length (either b).entries ≡ length ledger.entries + 1
  either_entries true = length-append ledger.entries (Send e ∷ [])
  either_entries false = length-append ledger.entries (Recv e ∷ [])

pub logged_view : (net : Net) (protocol : Protocol) (plan : List PlanLine) (ledger now : LedgerView) (numbers new : List Numbers) (room told : ℕ) (e : Event) (k : ℕ) → now ≡ with_one net ledger e (replicate 16 (pos 0)) → new ≡ slice_set numbers e.role (seeded (numbers_at numbers e.role) k) → guide_of protocol plan now new room told ≡ with_logged (guide_of protocol plan ledger numbers room told) e k
logged_view net protocol plan ledger now numbers new room told e k one is =
    ap (λ l. view_with protocol plan l new room (length now.entries) told) (ap (λ (l : LedgerView). l.logs) one ∙ either_logs net ledger e (behind_event e (replicate 16 (pos 0))) (is_sent e.dir))
    ∙ ap (λ n. view_with protocol plan (ledgers.with_event ledger.logs e) n room (length now.entries) told) is
    ∙ ap (λ n. view_with protocol plan (ledgers.with_event ledger.logs e) (slice_set numbers e.role (seeded (numbers_at numbers e.role) k)) room n told)
    (ap (λ (l : LedgerView). length l.entries) one ∙ either_entries net ledger e (behind_event e (replicate 16 (pos 0))) (is_sent e.dir))

-- the Send of a message, with its number as the code has it
abbrev pub sent_with : ℕ → Message → ℤ → Event
sent_with r m v = record { role = r; dir = Sent; point = m.point; value = v; stamp = m.stamp; sent = m.stamp }

sent_not_got : Sent ≡ Got → ⊥
sent_not_got e = absurd (let a = ap is_sent e in cc)

module _ {g : GuideView} {table : TableView} {ledger : LedgerView} (kept : IsGuide g table ledger) where
  -- the Send of a message that may lie in its channel fits
  pub lie_fits : (r : ℕ) (m : Message) → MayLie g r m → FitsEvent g (sent_by r m) ((numbers_at g.numbers r).seeds + 1)
  lie_fits r m may =
      let only = may.only in
      record {
        log = may.log;
        text = may.text;
        ends = record { sends = λ t. sym may.sender; recvs = λ t. absurd (let a = t in cc) };
        after = λ got. absurd (sent_not_got got);
        sent = λ d. refl;
        front = λ got. absurd (sent_not_got got);
        seeds = omega (arith, only);
        seeds_are = λ a.
            let size : (numbers_at g.numbers r).seeds + 1 ≡ length (log_at g.logs r ++ sent_by r m ∷ []) = (let b = length-append (log_at g.logs r) (sent_by r m ∷ []) in omega (arith, b, only)) in
            let old : take (numbers_at g.numbers r).seeds (log_at g.logs r) ≡ log_at g.logs r = ap (λ n. take n (log_at g.logs r)) (sym only) ∙ take_whole (log_at g.logs r) in
            ap (λ n. taken (net_for g) a r (take n (log_at g.logs r ++ sent_by r m ∷ []))) size
            ∙ ap (taken (net_for g) a r) (take_whole (log_at g.logs r ++ sent_by r m ∷ []))
            ∙ filter_map-append (taken_by (net_for g) a r) (log_at g.logs r) (sent_by r m ∷ [])
            ∙ ap (λ l. taken (net_for g) a r l ++ taken (net_for g) a r (sent_by r m ∷ [])) (sym old)
            ∙ ap (λ l. l ++ taken (net_for g) a r (sent_by r m ∷ [])) (kept.sound.seeds_are a r);
        made = let a = (kept.few r may.log.declared).made in omega (arith, a, only);
      }

  -- an event that may come again fits
  module _ (e : Event) (may : MayBeAgain g e) where
    abbrev seeds : ℕ
    seeds = (numbers_at g.numbers e.role).seeds

    few_seeds : seeds ≤ length (log_at g.logs e.role)
    few_seeds = kept.sound.seeds e.role may.log.declared

    fits_with : (1 ≤ e.point) × (e.point ≤ (net_for g).count) → IsByEnd (net_for g) e → (e.dir ≡ Got → e.sent < e.stamp) → (e.dir ≡ Sent → e.sent ≡ e.stamp) → (e.dir ≡ Got → IsInFront (net_for g) (stand g e.role) (message_got e)) → FitsEvent g e seeds
    fits_with text ends after same front = record {
      log = may.log;
      text = text;
      ends = ends;
      after = after;
      sent = same;
      front = front;
      seeds = let a = few_seeds in omega (arith, a);
      seeds_are = λ a. ap (taken (net_for g) a e.role) (take_left (log_at g.logs e.role) (e ∷ []) seeds few_seeds) ∙ kept.sound.seeds_are a e.role;
      made = let a = may.made in let b = few_seeds in omega (arith, a, b);
    }

    by_turn : (d : Dir) → e.dir ≡ d → IsTurn g e d → FitsEvent g e seeds
    by_turn Sent is turn = fits_with (next_in kept e.role e.point turn.0.next)
        (record { sends = λ t. sym turn.0.end_is; recvs = λ t. absurd (let a = ap is_sent is in cc) })
        (λ got. absurd (sent_not_got (sym is ∙ got)))
        (λ d. turn.1)
        (λ got. absurd (sent_not_got (sym is ∙ got)))
    by_turn Got is turn = fits_with (next_in kept e.role e.point turn.0.next)
        (record { sends = λ t. absurd (let a = ap is_sent is in cc); recvs = λ t. sym turn.0.end_is })
        (λ got. turn.2)
        (λ d. absurd (sent_not_got (sym d ∙ is)))
        (λ got. turn.1)

    pub again_fits : FitsEvent g e seeds
    again_fits = by_turn e.dir refl may.turn
