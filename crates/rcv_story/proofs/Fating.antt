-- What becomes of events: one fate each, by Recovers alone.
use Rattle.std.proofs.Common.{◌≡◌, ℕ, ◌<◌, Option, Some, None, List, length, refl, sym, ap, subst, ◌⊎◌, inl, inr, ⊎_elim, arith}
use Rattle.std.specs.Prelude.{slice_get}
use Rattle.std.proofs.lemmas.Bool.{cases_lt}
use Rattle.std.proofs.lemmas.Option.{slice_get_within}
use Rattle.rcv_tree.specs.declared.event.Event.{Event}
use Rattle.rcv_tree.specs.declared.entry.Entry.{Entry}
use Rattle.rcv_tree.specs.declared.entry.Entry.TheVariants.{Send, Recv, Crash, Recover}
use Rattle.rcv_model.specs.Net.{IsIn}
use Rattle.rcv_fates.specs.Fates.{IsEventAt}
use Rattle.rcv_story.specs.Kept.{kept_places, kept_before, left_after, IsUndoneBy}
use Rattle.rcv_story.specs.Recoveries.{IsRecoverAt, GoesBack, Stays}
use Rattle.rcv_story.specs.Laws.{HasOneFate}
use Rattle.rcv_story.proofs.Places.{take_over}
use Rattle.rcv_story.proofs.Keeping.{undone_stands, undone_once, end_either, kept_or_undone, event_keeps, crash_same}
use Rattle.rcv_story.proofs.Going.{keeps_all}

pub one_fate : (entries : List Entry) (p : ℕ) (e : Event) → IsEventAt entries p e → HasOneFate entries p
one_fate entries p e there = record {
  fate = end_either entries p e there (⊎_elim (λ at. slice_get_within entries p (Send e) at) (λ at. slice_get_within entries p (Recv e) at) there);
  apart = λ q k u. kept_or_undone entries p q k u;
  once = λ q o u v. undone_once entries p q o u v;
}

pub recover_undoes : (entries : List Entry) (p q : ℕ) → IsUndoneBy entries p q → (p < q) × (r : ℕ) × IsRecoverAt entries q r
recover_undoes entries p q u = let r = go (slice_get entries q) refl in ((undone_stands entries p q u).0, r.0, r.1)
  where
    go : (o : Option Entry) → slice_get entries q ≡ o → (r : ℕ) × IsRecoverAt entries q r
    go None at = absurd (u.lost (subst (λ (l : List Entry). IsIn p (kept_places u.role l)) (sym (take_over entries q at)) u.had))
    go (Some (Send e)) at = absurd (u.lost (event_keeps entries q u.role p e (inl at) u.had))
    go (Some (Recv e)) at = absurd (u.lost (event_keeps entries q u.role p e (inr at) u.had))
    go (Some (Crash c)) at = absurd (u.lost (subst (IsIn p) (sym (crash_same entries q u.role c at)) u.had))
    go (Some (Recover r concerned keeps n)) at = (r, record { concerned = concerned; keeps = keeps; undone = n; there = at })

pub back_or_stay : (entries : List Entry) (q p r : ℕ) → IsRecoverAt entries q p → (GoesBack entries q r ⊎ Stays entries q r) × (GoesBack entries q r → Stays entries q r → ⊥)
back_or_stay entries q p r at = (
  ⊎_elim inl (λ le. inr (keeps_all entries q p r at le)) (cases_lt (length (left_after r entries q)) (length (kept_before r entries q))),
  (λ back same. let size = ap length same in omega (arith, back, size)),
)
