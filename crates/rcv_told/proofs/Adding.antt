-- Who forgets twice has forgotten.
use Rattle.std.proofs.Common.{◌≡◌, ℕ, ◌+◌, ◌++◌, length, take, drop, sym, ◌∙◌, ap, append_assoc, arith, length-drop, drop-drop, take-add}
use Rattle.std.specs.Prelude.{slice_index}
use Rattle.rcv_model.specs.Net.{Net}
use Rattle.rcv_model.specs.Run.{acts, place_of, put, taken}
use Rattle.rcv_told.specs.Told.{Remembered}
use Rattle.rcv_told.specs.Forgetting.{since, seeds_of, Lacks, lacked, LacksMessages, IsShorter}
use Rattle.rcv_told.proofs.Memories.{put_join, taken_join, acts_join, place_join}

module _ (a b c : Remembered) (r m n : ℕ) (x : Lacks a b r m) (y : Lacks b c r n) where
  take_both : take (m + n) (since a r) ≡ take m (since a r) ++ take n (since b r)
  take_both = take-add m n (since a r) ∙ ap (λ xs. take m (since a r) ++ take n xs) (sym x.since_is)

  pub lacked_both : lacked a r (m + n) ≡ lacked a r m ++ take n (since b r)
  lacked_both = ap (λ xs. seeds_of a r ++ xs) take_both ∙ sym (append_assoc (seeds_of a r) (take m (since a r)) (take n (since b r)))

  pub lacks_both : Lacks a c r (m + n)
  lacks_both = record {
    enough = omega (arith, x.enough, y.enough, ap length x.since_is, length-drop m (since a r));
    forgotten = omega (arith, x.forgotten, y.forgotten);
    since_is = y.since_is ∙ ap (drop n) x.since_is ∙ drop-drop n m (since a r);
    point =
        y.point
        ∙ ap (λ k. place_of k (acts r (take n (since b r)))) x.point
        ∙ sym (place_join (slice_index a.points r) (acts r (take m (since a r))) (acts r (take n (since b r))))
        ∙ ap (place_of (slice_index a.points r)) (sym (acts_join r (take m (since a r)) (take n (since b r))) ∙ ap (acts r) (sym take_both));
    old_seeds = x.old_seeds;
    new_seeds = y.new_seeds;
  }

module _ (net : Net) (a b c : Remembered) (x : IsShorter net a b) (y : IsShorter net b c) where
  messages_both : (p q : ℕ) → LacksMessages net a c (λ r. x.gone r + y.gone r) p q
  messages_both p q = record {
    received = u.received ++ v.received;
    sent_is =
        ap (put net p q) (lacked_both a b c p (x.gone p) (y.gone p) (x.lacks p) (y.lacks p))
        ∙ put_join net p q (lacked a p (x.gone p)) (take (y.gone p) (since b p))
        ∙ ap (λ ms. ms ++ put net p q (take (y.gone p) (since b p))) u.sent_is
        ∙ append_assoc u.received (put net p q (seeds_of b p)) (put net p q (take (y.gone p) (since b p)))
        ∙ ap (λ ms. u.received ++ ms) (sym (put_join net p q (seeds_of b p) (take (y.gone p) (since b p))) ∙ v.sent_is)
        ∙ sym (append_assoc u.received v.received (put net p q (seeds_of c p)));
    received_is =
        ap (taken net p q) (lacked_both a b c q (x.gone q) (y.gone q) (x.lacks q) (y.lacks q))
        ∙ taken_join net p q (lacked a q (x.gone q)) (take (y.gone q) (since b q))
        ∙ ap (λ ms. ms ++ taken net p q (take (y.gone q) (since b q))) u.received_is
        ∙ ap (λ ms. u.received ++ (ms ++ taken net p q (take (y.gone q) (since b q)))) (sym u.seeds_are)
        ∙ ap (λ ms. u.received ++ ms) (sym (taken_join net p q (seeds_of b q) (take (y.gone q) (since b q))) ∙ v.received_is);
    seeds_are = v.seeds_are;
  }
    where
      u : LacksMessages net a b x.gone p q
      u = x.messages p q

      v : LacksMessages net b c y.gone p q
      v = y.messages p q

  pub adds_up : IsShorter net a c
  adds_up = record {
    gone = λ r. x.gone r + y.gone r;
    lacks = λ r. lacks_both a b c r (x.gone r) (y.gone r) (x.lacks r) (y.lacks r);
    messages = messages_both;
    old_queued = x.old_queued;
    new_queued = y.new_queued;
    roles = y.roles ∙ x.roles;
  }
