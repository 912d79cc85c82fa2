-- What is kept of what went through a ring, and ends that aren't those of one channel.
use Rattle.std.proofs.Common.{◌≡◌, ℕ, pos, List, [], ◌∷◌, length, get_or, refl, ap, arith}
use Rattle.rcv_tree.specs.declared.event.Message.{Message}
use Rattle.rcv_ring.specs.Shown.{RingId}
use Rattle.rcv_mailbox.specs.Ends.{End, Follows, IsChannel, WasFull, new_end}

abbrev first : Message
first = record { point = 1; value = pos 5; stamp = 1 }

abbrev second : Message
second = record { point = 2; value = pos 6; stamp = 2 }

abbrev third : Message
third = record { point = 3; value = pos 7; stamp = 3 }

abbrev again : Message
again = record { point = 4; value = pos 8; stamp = 9 }

-- Three messages went through, two were dropped, and one came behind the rewind.
went_back : Follows (first ∷ second ∷ third ∷ again ∷ []) 2 1 (first ∷ again ∷ [])
went_back = record { count = refl; within = omega arith; behind = refl }

-- An undone message isn't kept.
undone_stays : Follows (first ∷ second ∷ third ∷ again ∷ []) 2 1 (first ∷ third ∷ []) → ⊥
undone_stays f = let same : again.point ≡ third.point = ap (λ (l : List Message). (get_or l 0 first).point) f.behind in omega arith

-- Each message that wasn't dropped is kept.
one_is_lost : Follows (first ∷ second ∷ third ∷ []) 0 0 (first ∷ second ∷ []) → ⊥
one_is_lost f = let count = f.count in omega arith

-- The ends of a new channel are those of one, and no longer where one of them alone went back.
new_channel : (ring : RingId) (room limit : ℕ) (points : List ℕ) → IsChannel (new_end ring room limit points) (new_end ring room limit points)
new_channel ring room limit points = record { ring = refl; dropped_is = refl; rewound_is = refl; limit_is = refl; first = refl }

went_back_alone : (post inbox : End) → post.dropped ≡ 1 → inbox.dropped ≡ 0 → IsChannel post inbox → ⊥
went_back_alone post inbox one none channel = let same = channel.dropped_is in omega arith

-- On a new channel no look finds it full.
not_full : (ring : RingId) (limit : ℕ) (points : List ℕ) (new : End) → new.list ≡ [] → new.dropped ≡ 0 → new.base.room ≡ 4 → WasFull (new_end ring 4 limit points) new → ⊥
not_full ring limit points new empty none room full =
    let count : length new.list ≡ 0 = ap length empty in
    let sum = full.1 in
    omega arith
