-- A guide's logs are in the order of their stamps.
use Rattle.std.proofs.Common.{◌≡◌, ℕ, ◌-◌, ◌<◌, ◌≤◌, ◌^◌, List, length, length-append, length-drop, drop, ◌∙◌, ap, subst, arith}
use Rattle.std.specs.Prelude.{slice_get, slice_index}
use Rattle.rcv_tree.specs.declared.event.Event.{Event}
use Rattle.rcv_tree.specs.declared.event.Message.{Message}
use Rattle.rcv_model.specs.Net.{Net, IsPrefix}
use Rattle.rcv_model.specs.Run.{put, taken}
use Rattle.rcv_model.proofs.Keeping.{queued_now}
use Rattle.rcv_tables.specs.Rows.{TableView}
use Rattle.rcv_ledger.specs.Logs.{log_at}
use Rattle.rcv_ledger.specs.Ledger.{LedgerView, HoldsKept}
use Rattle.rcv_told.specs.Told.{Remembered}
use Rattle.rcv_guide.specs.Failing.{all_events}
use Rattle.rcv_guide.specs.Guide.{GuideView, net_for, roles_of, no_vars, IsMemory, AreStamped, IsGuide}
use Rattle.rcv_guide.specs.Renewal.{AreOrdered, MayEnd, staying, IsRenewed}
use Rattle.rcv_guide.proofs.Guides.{few_all, one_of_all}
use Rattle.rcv_guide.proofs.Memories.{put_held, taken_held}
use Rattle.rcv_guide.proofs.Shortening.{all_staying}

pub ordered : (g : GuideView) (ledger : LedgerView) (m : Remembered) → IsMemory g m → HoldsKept (net_for g) (roles_of g) no_vars m.held ledger → length g.logs ≡ roles_of g → AreStamped g → all_events g.logs < 2 ^ 31 → AreOrdered (net_for g) g.logs
ordered g ledger m is holds many stamped small = record {
  few = let few = holds.few in omega (arith, few, many);
  sound = λ r n e at. holds.sound r n e (ap (λ l. slice_get l n) (holds.log r ∙ is.events r) ∙ at);
  small = small;
  queued = λ a b.
      subst (λ (l : List Message). IsPrefix l (put (net_for g) a b (log_at g.logs a))) (taken_held g m is a b)
      (subst (λ (l : List Message). IsPrefix (taken (net_for g) a b m.held) l) (put_held g m is a b) (queued_now (net_for g) m.held is.queued a b));
  grow = stamped.grow;
  after = stamped.after;
}

pub guide_ordered : {g : GuideView} {table : TableView} {ledger : LedgerView} → IsGuide g table ledger → AreOrdered (net_for g) g.logs
guide_ordered {g} {table} {ledger} kept = ordered g ledger kept.holds.memory kept.holds.is kept.holds.holds kept.logs kept.stamped (few_all kept)

-- how long a renewed ledger's logs are
module _ (net : Net) (logs : List (List Event)) (ends : List ℕ) (room : ℕ) (fresh : LedgerView) (o : AreOrdered net logs) (is : IsRenewed net logs ends room fresh) (r : ℕ) where
  pub log_long : MayEnd net logs ends → r < length logs → length (log_at logs r) - slice_index ends r ≤ length (log_at fresh.logs r)
  log_long may lt =
      let a = ap length (is.holds.log r ∙ is.stay r ∙ all_staying net logs ends o may r lt) in
      let b = length-append (staying net logs ends r (slice_index ends r)) (drop (slice_index ends r) (log_at logs r)) in
      let c = length-drop (slice_index ends r) (log_at logs r) in
      omega (arith, a, b, c)

  pub log_small : length (log_at fresh.logs r) < 2 ^ 31
  log_small =
      let a = one_of_all fresh.logs r in
      let b = is.entries in
      let c = is.few in
      let d = o.small in
      omega (arith, a, b, c, d)
