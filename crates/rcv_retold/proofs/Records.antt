-- The record of a told journal.
use Rattle.std.proofs.Common.{◌≡◌, ℕ, ◌<◌, ◌^◌, Some, Bool, List, length, inl, inr, arith}
use Rattle.std.specs.Prelude.{◌↔◌, slice_get}
use Rattle.std.specs.List.Sorted.{IsNonDecreasing}
use Rattle.rcv_tree.specs.declared.event.Event.{Event}
use Rattle.rcv_tree.specs.declared.entry.Entry.{Entry}
use Rattle.rcv_tree.specs.declared.entry.Entry.TheVariants.{Send, Recv}
use Rattle.rcv_accept.specs.Accepted.{IsAcceptedProtocol}
use Rattle.rcv_session.specs.Session.{SessionView, roles_of}
use Rattle.rcv_told.specs.Told.{told}
use Rattle.rcv_fates.specs.Fates.{IsEventAt, IsUndone}
use Rattle.rcv_fates.specs.Record.{IsSound, IsRecord, HasKept}
use Rattle.rcv_retold.specs.Retold.{terms_for, IsRetold, HasStamps}
use Rattle.rcv_retold.specs.Stamps.{stamps_at, LacksStamp}
use Rattle.rcv_retold.proofs.Rising.{lists_rise, lacks}
use Rattle.rcv_retold.proofs.Sounding.{told_sound, retold_is_told}

module _ (setup : SessionView) (entries : List Entry) (plain : IsAcceptedProtocol setup.protocol) (few : length entries < 2 ^ 31) (is : IsRetold (terms_for setup) entries) where
  sound : IsSound setup entries
  sound = told_sound setup entries plain (omega (arith, few)) (retold_is_told (terms_for setup) entries is)

  pub event_declared : (place : ℕ) (e : Event) → IsEventAt entries place e → e.role < roles_of setup
  event_declared place e (inl f) = (sound.named place (Send e) f).0.role
  event_declared place e (inr f) = (sound.named place (Recv e) f).0.role

  module _ (lists : List (List ℕ)) (has : HasStamps setup entries lists) where
    pub stamps_rise : (r : ℕ) → r < roles_of setup → IsNonDecreasing (stamps_at lists r)
    stamps_rise r low = lists_rise setup entries lists (retold_is_told (terms_for setup) entries is) has r low

    pub all_lack : (place : ℕ) (e : Entry) → slice_get entries place ≡ Some e → LacksStamp lists e ↔ IsUndone (told (terms_for setup) entries).held e
    all_lack place e there = lacks setup entries lists (retold_is_told (terms_for setup) entries is) has place e (λ d at. event_declared place d at) there

  pub is_record : (undone : List Bool) → HasKept (record { setup = setup; entries = entries; undone = undone }) (told (terms_for setup) entries).held → IsRecord (record { setup = setup; entries = entries; undone = undone })
  is_record undone has = record { sound = sound; kept = (told (terms_for setup) entries).held; has = has }
