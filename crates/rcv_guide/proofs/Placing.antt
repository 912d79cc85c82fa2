-- Where a role stands, by its log.
use Rattle.std.proofs.Common.{◌≡◌, ℕ, zero, suc, ◌+◌, ◌-◌, ◌≤◌, Bool, true, false, cond, Some, None, List, [], ◌∷◌, length, length-drop, drop, refl, sym, ◌∙◌, ap, inl, arith}
use Rattle.std.specs.Prelude.{◌==◌, slice_get}
use Rattle.std.specs.List.{cons_option}
use Rattle.std.proofs.Math.ListN.{drop_of_length-le}
use Rattle.std.proofs.lemmas.Bool.Decides.{nat_tests}
use Rattle.rcv_tree.specs.declared.event.Event.{Event}
use Rattle.rcv_model.specs.Net.{IsIn}
use Rattle.rcv_model.specs.Run.{Act, acts, place_of}
use Rattle.rcv_model.specs.Journal.{events_of}
use Rattle.rcv_model.proofs.Lists.{some_same}
use Rattle.rcv_tables.specs.Rows.{TableView}
use Rattle.rcv_ledger.specs.Logs.{log_at}
use Rattle.rcv_ledger.specs.Ledger.{LedgerView}
use Rattle.rcv_guide.specs.Numbers.{numbers_at}
use Rattle.rcv_guide.specs.Guide.{GuideView, stand, IsGuide}
use Rattle.rcv_guide.proofs.Memories.{acts_held, many_held}
use Rattle.rcv_guide.proofs.Shortening.{get_behind}

-- the act of an event
abbrev act_of : Event → Act
act_of e = record { dir = e.dir; point = e.point }

act_of_event : (r : ℕ) (h : List Event) (n : ℕ) (e : Event) → slice_get (events_of r h) n ≡ Some e → slice_get (acts r h) n ≡ Some (act_of e)
act_of_event r [] n e at = absurd (cc)
act_of_event r (x ∷ h) n e at = go (x.role == r) n (λ m f. act_of_event r h m e f) at
  where
    go : (b : Bool) (n : ℕ) → ((m : ℕ) → slice_get (events_of r h) m ≡ Some e → slice_get (acts r h) m ≡ Some (act_of e)) → slice_get (cond b (x ∷ events_of r h) (events_of r h)) n ≡ Some e → slice_get (cons_option (cond b (Some (record { dir = x.dir; point = x.point })) None) (acts r h)) n ≡ Some (act_of e)
    go true zero ih f = ap (λ (y : Event). Some (act_of y)) (some_same f)
    go true (suc n) ih f = ih n f
    go false n ih f = ih n f

-- the place behind some acts is the point of the last
last_place : (k n : ℕ) (xs : List Act) (a : Act) → slice_get xs n ≡ Some a → length xs ≡ suc n → place_of k xs ≡ a.point
last_place k n [] a at size = absurd (omega (arith, size))
last_place k zero (x ∷ []) a at size = ap (λ (y : Act). y.point) (some_same at)
last_place k zero (x ∷ (y ∷ xs)) a at size = absurd (omega (arith, size))
last_place k (suc n) (x ∷ xs) a at size = last_place x.point n xs a at (omega (arith, size))

-- a list of no length has no items, and one without items has none
pub none_in_none : (xs : List ℕ) (p : ℕ) → (length xs == 0) ≡ true → IsIn p xs → ⊥
none_in_none [] p e i = i
none_in_none (x ∷ xs) p e i = absurd (grind (arith, nat_tests))

pub some_in : (xs : List ℕ) → ((p : ℕ) → IsIn p xs → ⊥) → (length xs == 0) ≡ true
some_in [] none = refl
some_in (x ∷ xs) none = absurd (none x (inl refl))

module _ {g : GuideView} {table : TableView} {ledger : LedgerView} (kept : IsGuide g table ledger) (r : ℕ) where
  -- behind the forgotten events
  pub place_first : length (log_at g.logs r) ≤ (numbers_at g.numbers r).seeds → (numbers_at g.numbers r).point ≡ (stand g r).place
  place_first le =
      let many = ap length (sym (acts_held g kept.holds.memory kept.holds.is r)) ∙ many_held g kept.holds.memory kept.holds.is r in
      let short : length (acts r (log_at g.logs r)) ≤ (numbers_at g.numbers r).seeds = omega (arith, many, le) in
      sym (ap (place_of (numbers_at g.numbers r).point) (drop_of_length-le (acts r (log_at g.logs r)) short))

  -- behind the last one of the log, which isn't forgotten
  pub place_last : (n : ℕ) (e : Event) → slice_get (log_at g.logs r) n ≡ Some e → length (log_at g.logs r) ≡ suc n → (numbers_at g.numbers r).seeds ≤ n → e.point ≡ (stand g r).place
  place_last n e at size few =
      let m = kept.holds.memory in
      let whole : slice_get (acts r (log_at g.logs r)) n ≡ Some (act_of e) = ap (λ l. slice_get l n) (sym (acts_held g m kept.holds.is r)) ∙ act_of_event r m.held n e (ap (λ l. slice_get l n) (kept.holds.is.events r) ∙ at) in
      let here : (numbers_at g.numbers r).seeds + (n - (numbers_at g.numbers r).seeds) ≡ n = omega (arith, few) in
      let many = ap length (sym (acts_held g m kept.holds.is r)) ∙ many_held g m kept.holds.is r in
      let rest = length-drop (numbers_at g.numbers r).seeds (acts r (log_at g.logs r)) in
      sym (last_place (numbers_at g.numbers r).point (n - (numbers_at g.numbers r).seeds) (drop (numbers_at g.numbers r).seeds (acts r (log_at g.logs r))) (act_of e)
      (get_behind (numbers_at g.numbers r).seeds (n - (numbers_at g.numbers r).seeds) (acts r (log_at g.logs r)) ∙ ap (slice_get (acts r (log_at g.logs r))) here ∙ whole)
      (omega (arith, many, rest, size, few)))
