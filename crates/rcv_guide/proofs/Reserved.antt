-- There is room in the ledger for one event more.
use Rattle.std.proofs.Common.{◌≡◌, ℕ, suc, List, [], ◌∷◌, ◌+◌, ◌<◌, ◌≤◌, ◌^◌, Some, length, replicate, sym, ◌∙◌, ap, subst, arith}
use Rattle.std.specs.Prelude.{pos, slice_get, Option, None}
use Rattle.std.specs.List.{filter_map, cons_option}
use Rattle.std.proofs.lemmas.Option.{get_or_from_slice_get}
use Rattle.std.proofs.Math.Seq.{take-length}
use Rattle.rcv_model.specs.Run.{put_by}
use Rattle.rcv_model.specs.Journal.{events_of}
use Rattle.rcv_checkpoint.specs.declared.state.State as checkpoints
use Rattle.rcv_checkpoint.specs.Rows.{nowhere}
use Rattle.rcv_checkpoint.specs.Stack.{held, last_vars}
use Rattle.rcv_tables.specs.Rows.{TableView}
use Rattle.rcv_ledger.specs.Channels.{ChannelView}
use Rattle.rcv_ledger.specs.Logs.{log_at}
use Rattle.rcv_ledger.specs.Ledger.{LedgerView, stack_at, state_behind, HasRoom, HasRoomToSend}
use Rattle.rcv_guide.specs.Guide.{GuideView, net_for, roles_of, no_vars, IsGuide}
use Rattle.rcv_guide.proofs.Guides.{low, is_proper, log_is, many_logs, carried, few_logged, receiver_in}

-- a map that may leave out elements makes a list no longer
pub no_longer : {A B : Type 0} (f : A → Option B) (xs : List A) → length (filter_map f xs) ≤ length xs
no_longer f [] = omega arith
no_longer {A} {B} f (x ∷ xs) = go (f x) (no_longer f xs)
  where
    go : (o : Option B) → length (filter_map f xs) ≤ length xs → length (cons_option o (filter_map f xs)) ≤ suc (length xs)
    go None h = omega arith
    go (Some y) h = omega arith

module _ {g : GuideView} {table : TableView} {ledger : LedgerView} (kept : IsGuide g table ledger) (free : g.used < g.room) where
  pub few_entries : length ledger.entries < 2 ^ 32
  few_entries = let a = kept.rooms.used in let b = kept.rooms.filled in let c = kept.rooms.few in omega (arith, a, b, c)

  log_fits : (r : ℕ) → length (log_at ledger.logs r) < ledger.room
  log_fits r = let a = ap length (log_is kept r) in let b = few_logged kept r in let d = kept.rooms.events in omega (arith, a, b, free, d)

  held_is : (r : ℕ) → r < roles_of g → held (stack_at ledger.stacks r) ≡ length (log_at g.logs r)
  held_is r lt = let a = (kept.holds.holds.states r lt).all in let b = ap length (kept.holds.is.events r) in omega (arith, a, b)

  pub few_held : (r : ℕ) → r < roles_of g → held (stack_at ledger.stacks r) + 1 < 2 ^ 32
  few_held r lt = let a = held_is r lt in let b = few_logged kept r in let d = kept.rooms.few in omega (arith, a, b, free, d)

  pub event_fits : (r : ℕ) → r < roles_of g → HasRoom ledger r
  event_fits r lt = record {
    entry = let a = kept.rooms.used in let c = kept.rooms.most in omega (arith, a, free, c);
    log = log_fits r;
    stack = let a = held_is r lt in let b = few_logged kept r in let d = kept.rooms.states r lt in omega (arith, a, b, free, d);
  }

  -- the variables are none, before and behind it
  pub no_change : (r : ℕ) → r < roles_of g → replicate 16 (pos 0) ≡ last_vars (stack_at ledger.stacks r)
  no_change r lt =
      let events = events_of r kept.holds.memory.held in
      let last : held (stack_at ledger.stacks r) ≡ length events = (let a = (kept.holds.holds.states r lt).all in omega (arith, a)) in
      let at : slice_get (stack_at ledger.stacks r).states (held (stack_at ledger.stacks r)) ≡ Some (state_behind no_vars r events) =
      subst (λ n. slice_get (stack_at ledger.stacks r).states n ≡ Some (state_behind no_vars r events)) (sym last)
      ((kept.holds.holds.states r lt).each (length events) (omega arith) ∙ ap (λ l. Some (state_behind no_vars r l)) (take-length events)) in
      sym (ap (λ (x : checkpoints.State). x.vars) (get_or_from_slice_get (stack_at ledger.stacks r).states (held (stack_at ledger.stacks r)) (state_behind no_vars r events) nowhere at))

  -- and for a Send's message
  pub send_fits : (r p : ℕ) → r < roles_of g → (1 ≤ p) × (p ≤ (net_for g).count) → (net_for g).sender p ≡ r → HasRoomToSend ledger r ((net_for g).receiver p)
  send_fits r p lt in_text sends = record {
    event = event_fits r lt;
    reserved = record {
      sender = let a = many_logs kept in omega (arith, a, lt);
      receiver = let a = many_logs kept in let b = receiver_in kept p in_text in omega (arith, a, b);
      apart = λ same. (is_proper kept).two_ends p (sends ∙ same);
    };
    message =
        let here = ap (λ (c : ChannelView). length c.put) ((carried kept).each r ((net_for g).receiver p) (low kept r lt) (low kept ((net_for g).receiver p) (receiver_in kept p in_text))) in
        let shorter = no_longer (put_by (net_for g) r ((net_for g).receiver p)) (log_at ledger.logs r) in
        let few = log_fits r in
        omega (arith, here, shorter, few);
  }
