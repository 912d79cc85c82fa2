-- Both memories have the same in their channels: the longer one has more of what was sent, and as much more of what was received.
use Rattle.std.proofs.Common.{◌≡◌, ℕ, ◌+◌, ◌++◌, length, drop, sym, ◌∙◌, ap, append_assoc, length-append}
use Rattle.std.proofs.Math.Seq.{drop-append-add}
use Rattle.rcv_model.specs.Net.{Net}
use Rattle.rcv_model.specs.Run.{put, taken, channel}
use Rattle.rcv_model.proofs.Keeping.{put_through, taken_through}
use Rattle.rcv_told.specs.Told.{Remembered}
use Rattle.rcv_told.specs.Forgetting.{since, seeds_of, lacked, LacksMessages, IsShorter}
use Rattle.rcv_told.proofs.Memories.{put_join, taken_join, put_split, taken_split, old_events}

module _ (net : Net) (old new : Remembered) (s : IsShorter net old new) (a b : ℕ) where
  ms : LacksMessages net old new s.gone a b
  ms = s.messages a b

  put_old : put net a b old.held ≡ ms.received ++ put net a b new.held
  put_old =
      put_through net a b old.held
      ∙ ap (put net a b) (old_events old new a (s.gone a) (s.lacks a))
      ∙ put_join net a b (lacked old a (s.gone a)) (since new a)
      ∙ ap (λ l. l ++ put net a b (since new a)) ms.sent_is
      ∙ append_assoc ms.received (put net a b (seeds_of new a)) (put net a b (since new a))
      ∙ ap (λ l. ms.received ++ l) (sym (put_split new net a b))

  taken_new : taken net a b new.held ≡ taken net a b (since new b)
  taken_new = taken_split new net a b ∙ ap (λ l. l ++ taken net a b (since new b)) ms.seeds_are

  taken_old : taken net a b old.held ≡ ms.received ++ taken net a b new.held
  taken_old =
      taken_through net a b old.held
      ∙ ap (taken net a b) (old_events old new b (s.gone b) (s.lacks b))
      ∙ taken_join net a b (lacked old b (s.gone b)) (since new b)
      ∙ ap (λ l. l ++ taken net a b (since new b)) ms.received_is
      ∙ ap (λ l. ms.received ++ l) (sym taken_new)

  pub channel_same : channel net a b old.held ≡ channel net a b new.held
  channel_same =
      ap (λ l. drop (length l) (put net a b old.held)) taken_old
      ∙ ap (λ n. drop n (put net a b old.held)) (length-append ms.received (taken net a b new.held))
      ∙ ap (drop (length ms.received + length (taken net a b new.held))) put_old
      ∙ drop-append-add ms.received (put net a b new.held) (length (taken net a b new.held))
