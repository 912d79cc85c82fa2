-- What is within counts of a memory's events, and within those of a shorter one.
use Rattle.std.proofs.Common.{◌≡◌, ℕ, ◌+◌, List, ◌++◌, length, length-append, take, take-add, sym, ◌∙◌, ap, append_assoc, arith}
use Rattle.std.specs.Prelude.{slice_index}
use Rattle.rcv_tree.specs.declared.event.Event.{Event}
use Rattle.rcv_model.specs.Net.{Net}
use Rattle.rcv_model.specs.Run.{put, taken}
use Rattle.rcv_model.specs.Journal.{events_of}
use Rattle.rcv_told.specs.Told.{Remembered}
use Rattle.rcv_told.specs.Forgetting.{since, seeds_of, lacked, IsShorter}
use Rattle.rcv_told.proofs.Memories.{put_join, taken_join}

-- a role's seeds, and so many of its events behind them
abbrev pub within : Remembered → ℕ → ℕ → List Event
within m r k = take (slice_index m.seeds r + k) (events_of r m.held)

within_split : (m : Remembered) (r k : ℕ) → within m r k ≡ seeds_of m r ++ take k (since m r)
within_split m r k = take-add (slice_index m.seeds r) k (events_of r m.held)

module _ (net : Net) (old new : Remembered) (s : IsShorter net old new) where
  within_old : (r k : ℕ) → within old r (s.gone r + k) ≡ lacked old r (s.gone r) ++ take k (since new r)
  within_old r k =
      within_split old r (s.gone r + k)
      ∙ ap (λ xs. seeds_of old r ++ xs) (take-add (s.gone r) k (since old r) ∙ ap (λ xs. take (s.gone r) (since old r) ++ take k xs) (sym (s.lacks r).since_is))
      ∙ sym (append_assoc (seeds_of old r) (take (s.gone r) (since old r)) (take k (since new r)))

  -- the shorter memory lacks as many that were put on a channel as were taken from it
  pub put_moved : (a b k : ℕ) → length (put net a b (within old a (s.gone a + k))) ≡ length (s.messages a b).received + length (put net a b (within new a k))
  put_moved a b k =
      let x = ap length (ap (put net a b) (within_old a k) ∙ put_join net a b (lacked old a (s.gone a)) (take k (since new a)) ∙ ap (λ ms. ms ++ put net a b (take k (since new a))) (s.messages a b).sent_is) in
      let y = ap length (ap (put net a b) (within_split new a k) ∙ put_join net a b (seeds_of new a) (take k (since new a))) in
      let p = length-append ((s.messages a b).received ++ put net a b (seeds_of new a)) (put net a b (take k (since new a))) in
      let q = length-append (s.messages a b).received (put net a b (seeds_of new a)) in
      let t = length-append (put net a b (seeds_of new a)) (put net a b (take k (since new a))) in
      omega (arith, x, y, p, q, t)

  pub taken_moved : (a b k : ℕ) → length (taken net a b (within old b (s.gone b + k))) ≡ length (s.messages a b).received + length (taken net a b (within new b k))
  taken_moved a b k =
      let x = ap length (ap (taken net a b) (within_old b k) ∙ taken_join net a b (lacked old b (s.gone b)) (take k (since new b)) ∙ ap (λ ms. ms ++ taken net a b (take k (since new b))) (s.messages a b).received_is) in
      let y = ap length (ap (taken net a b) (within_split new b k) ∙ taken_join net a b (seeds_of new b) (take k (since new b)) ∙ ap (λ ms. ms ++ taken net a b (take k (since new b))) (s.messages a b).seeds_are) in
      let p = length-append (s.messages a b).received (taken net a b (take k (since new b))) in
      omega (arith, x, y, p)
