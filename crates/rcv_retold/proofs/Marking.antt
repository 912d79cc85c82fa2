-- Marks of the entries whose stamps are lacking.
use Rattle.std.proofs.Common.{◌≡◌, ℕ, ◌+◌, Some, Bool, List, [], ◌∷◌, ◌++◌, ◌∙◌, ap, inl, inr}
use Rattle.std.specs.Prelude.{◌↔◌, IsTrue, slice_get}
use Rattle.rcv_tree.specs.declared.event.Event.{Event}
use Rattle.rcv_tree.specs.declared.entry.Entry.{Entry}
use Rattle.rcv_tree.specs.declared.entry.Entry.TheVariants.{Send, Recv, Crash, Recover}
use Rattle.rcv_fates.specs.Fates.{IsEventAt, IsUndone}
use Rattle.rcv_fates.proofs.Recording.{AreMarked, marked_more}
use Rattle.rcv_fates.proofs.Undoing.{by_entry}
use Rattle.rcv_retold.specs.Stamps.{LacksStamp, IsEventOf}

-- the event of the entry at a place
pub event_at : (entries : List Entry) (place : ℕ) (x : Entry) (e : Event) → slice_get entries place ≡ Some x → IsEventOf x e → IsEventAt entries place e
event_at entries place (Send d) e there of = inl (there ∙ ap (λ (z : Event). Some (Send z)) of)
event_at entries place (Recv d) e there of = inr (there ∙ ap (λ (z : Event). Some (Recv z)) of)
event_at entries place (Crash p) e there of = absurd of
event_at entries place (Recover p c k u) e there of = absurd of

pub one_marked : (lists : List (List ℕ)) (kept : List Event) (entries : List Entry) (place : ℕ) (x : Entry) (undone more : List Bool) (b : Bool) → slice_get entries place ≡ Some x
    → ((k : ℕ) (e : Entry) → slice_get entries k ≡ Some e → LacksStamp lists e ↔ IsUndone kept e) → AreMarked kept entries place undone → IsTrue b ↔ LacksStamp lists x → more ≡ undone ++ b ∷ [] → AreMarked kept entries (place + 1) more
one_marked lists kept entries place x undone more b there right are test added =
    let same = right place x there in
    marked_more kept entries place undone more b are
    (by_entry kept entries place x b there ((λ t. same.0 (test.0 t)), (λ u. test.1 (same.1 u))))
    added
