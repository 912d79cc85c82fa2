-- Cutting and joining seats keeps the ring's rule, and a new ring has it.
use Rattle.std.proofs.Common.{◌≡◌, ℕ, ◌<◌, true, false, List, [], ◌∷◌, ◌++◌, set, get_or, length, refl, sym, ap, ◌∙◌, subst, ⊎_elim, mod-lt, arith}
use Rattle.std.specs.Prelude.{replicate}
use mathlib.Core.Option.{some, some-ne-none}
use lib.ListN.{get_or-replicate, length-map, length-replicate}
use Rattle.atomic_table.specs.Table.{Splits, Joins, opening}
use Rattle.atomic_table.proofs.Lists.{at_set, some_there}
use Rattle.rcv_tree.specs.declared.event.Message.{Message}
use Rattle.rcv_ring.specs.declared.rule.View.{View}
use Rattle.rcv_ring.specs.Places.{place, at_put, at_got, all_words}
use Rattle.rcv_ring.specs.Ring.{Cells, Ends, Fits, AllFit, Ring}
use Rattle.rcv_ring.specs.Views.{newcomer, spent, pusher_of, puller_of, note_of, heard_taken, heard_sent, Pushing, Pulling}
use Rattle.rcv_ring.proofs.Lists.{begins_length, at_added}
use Rattle.rcv_ring.proofs.Steps.{never, fits_set}

-- one seat more
added : (room : ℕ) (points : List ℕ) (s : Cells) (r : Ring room points s) (puller : ℕ) (views : List View) (w : View)
    → let ends : Ends = record { pusher = r.ends.pusher; puller = puller; filling = r.ends.filling; lifting = r.ends.lifting } in AllFit room points r.sent r.taken ends views
    → Fits room points r.sent r.taken ends (length views) w → Ring room points record { words = s.words; homes = s.homes; views = views ++ w ∷ [] }
added room points s r puller views w all new =
    let ends : Ends = record { pusher = r.ends.pusher; puller = puller; filling = r.ends.filling; lifting = r.ends.lifting } in record {
      sent = r.sent;
      taken = r.taken;
      ends = ends;
      some_room = r.some_room;
      size = r.size;
      slots = r.slots;
      put = r.put;
      got = r.got;
      begins = r.begins;
      within = r.within;
      cells = r.cells;
      free = r.free;
      legal = r.legal;
      fits = λ k v at. let P : ℕ → View → Type 0 = λ j u. Fits room points r.sent r.taken ends j u in
          ⊎_elim (all k v) (λ t. subst (λ (z : ℕ × View). P z.0 z.1) (λ i. (sym t.0 i, t.1 i)) new) (at_added views w v k at);
    }

-- the first seat, which has both ends, becomes the two ends
pub parts : (room : ℕ) (points : List ℕ) (id : ℕ) (v : View) → v.pushes ≡ true → v.pulls ≡ true → v.out ≡ [] → Splits (Ring room points) id v (pusher_of v) (puller_of v)
parts room points id v is_pusher is_puller idle s r at =
    let f = r.fits id v at in
    let p = f.pushes is_pusher in
    let q = f.pulls is_puller in
    let views = set s.views id (pusher_of v) in
    let ends : Ends = record { pusher = r.ends.pusher; puller = length views; filling = r.ends.filling; lifting = r.ends.lifting } in
    added room points s r (length views) views (puller_of v)
    (λ k u there. ⊎_elim
    (λ t. subst (λ (z : ℕ × View). Fits room points r.sent r.taken ends z.0 z.1) (λ i. (sym t.0 i, t.1 i))
    record { told_sent = f.told_sent; told_taken = f.told_taken; pushes = λ _. record { seat = p.seat; all = p.all; seen = p.seen; known = p.known; out_is = p.out_is; room_is = p.room_is; points_is = p.points_is }; pulls = λ b. absurd (never false refl b) })
    (λ t. let g = r.fits k u t.1 in record { told_sent = g.told_sent; told_taken = g.told_taken; pushes = g.pushes; pulls = λ b. absurd (t.0 ((g.pulls b).seat ∙ sym q.seat)) })
    (at_set s.views id k (pusher_of v) u there))
    record {
      told_sent = f.told_sent;
      told_taken = f.told_taken;
      pushes = λ b. absurd (never false refl b);
      pulls = λ _. record { seat = refl; all = q.all; seen = q.seen; known = q.known; out_is = q.out_is; front = q.front; room_is = q.room_is; points_is = q.points_is };
    }

pub notes : (room : ℕ) (points : List ℕ) (id : ℕ) (v : View) → Splits (Ring room points) id v v (note_of v)
notes room points id v s r at =
    let f = r.fits id v at in
    added room points s r r.ends.puller (set s.views id v) (note_of v)
    (fits_set room points r.sent r.taken r.sent r.taken r.ends r.ends id s.views v r.fits (λ _ _ _ g. g) f)
    record { told_sent = f.told_sent; told_taken = f.told_taken; pushes = λ b. absurd (never false refl b); pulls = λ b. absurd (never false refl b) }

-- a seat has heard of another, which is spent
joined : (room : ℕ) (points : List ℕ) (s : Cells) (r : Ring room points s) (id other : ℕ) (w : View) → Fits room points r.sent r.taken r.ends id w
    → Ring room points record { words = s.words; homes = s.homes; views = set (set s.views id w) other spent }
joined room points s r id other w new =
    let once = fits_set room points r.sent r.taken r.sent r.taken r.ends r.ends id s.views w r.fits (λ _ _ _ g. g) new in record {
      sent = r.sent;
      taken = r.taken;
      ends = r.ends;
      some_room = r.some_room;
      size = r.size;
      slots = r.slots;
      put = r.put;
      got = r.got;
      begins = r.begins;
      within = r.within;
      cells = r.cells;
      free = r.free;
      legal = r.legal;
      fits = fits_set room points r.sent r.taken r.sent r.taken r.ends r.ends other (set s.views id w) spent once (λ _ _ _ g. g)
          record { told_sent = (r.sent, refl); told_taken = (r.taken, refl); pushes = λ b. absurd (never false refl b); pulls = λ b. absurd (never false refl b) };
    }

pub hears_taken : (room : ℕ) (points : List ℕ) (id other : ℕ) (v w : View) → Pushing v → Joins (Ring room points) id v other w (heard_taken v w) spent
hears_taken room points id other v w is s r at ne there =
    let f = r.fits id v at in
    let p = f.pushes is.0 in
    let told = ⊎_elim (λ t. absurd (ne t.0)) (λ t. (r.fits other w t.1).told_taken) (at_set s.views id other (heard_taken v w) w there) in
    joined room points s r id other (heard_taken v w)
    record {
      told_sent = f.told_sent;
      told_taken = told;
      pushes = λ _. record { seat = p.seat; all = p.all; seen = p.seen; known = begins_length w.taken r.taken told; out_is = p.out_is; room_is = p.room_is; points_is = p.points_is };
      pulls = λ b. absurd (never v.pulls is.1 b);
    }

pub hears_sent : (room : ℕ) (points : List ℕ) (id other : ℕ) (v w : View) → Pulling v → Joins (Ring room points) id v other w (heard_sent v w) spent
hears_sent room points id other v w is s r at ne there =
    let f = r.fits id v at in
    let p = f.pulls is.1 in
    let told = ⊎_elim (λ t. absurd (ne t.0)) (λ t. (r.fits other w t.1).told_sent) (at_set s.views id other (heard_sent v w) w there) in
    joined room points s r id other (heard_sent v w)
    record {
      told_sent = told;
      told_taken = f.told_taken;
      pushes = λ b. absurd (never v.pushes is.0 b);
      pulls = λ _. record { seat = p.seat; all = p.all; seen = p.seen; known = begins_length w.sent r.sent told; out_is = p.out_is; front = p.front; room_is = p.room_is; points_is = p.points_is };
    }

pub opens : (room : ℕ) (points words : List ℕ) (slots : List Message) → 0 < room → words ≡ replicate all_words 0 → length slots ≡ room → Ring room points (opening words slots (newcomer room points))
opens room points words slots pos is as_many =
    let zeros : (i : ℕ) → i < all_words → get_or words i 0 ≡ 0 = λ i lt. ap (λ (l : List ℕ). get_or l i 0) is ∙ get_or-replicate all_words i 0 0 lt in
    let ends : Ends = record { pusher = 0; puller = 0; filling = 0; lifting = 0 } in record {
      sent = [];
      taken = [];
      ends = ends;
      some_room = pos;
      size = ap length is ∙ length-replicate {A = ℕ} all_words 0;
      slots = length-map slots (λ (m : Message). some m) ∙ as_many;
      put = zeros at_put (omega arith);
      got = zeros at_got (omega arith);
      begins = ([], refl);
      within = omega arith;
      cells = λ i m from e. absurd (some-ne-none m (sym e));
      free = λ i from lt. some_there slots (place room i) (subst (λ (z : ℕ). place room i < z) (sym as_many) (mod-lt i pos));
      legal = λ i m e. absurd (some-ne-none m (sym e));
      fits = λ k v at. ⊎_elim (λ t. absurd (some-ne-none v (sym t)))
          (λ t. subst (λ (z : ℕ × View). Fits room points [] [] ends z.0 z.1) (λ i. (sym t.0 i, t.1 i))
          record {
            told_sent = ([], refl);
            told_taken = ([], refl);
            pushes = λ _. record { seat = refl; all = refl; seen = omega arith; known = omega arith; out_is = refl; room_is = refl; points_is = refl };
            pulls = λ _. record { seat = refl; all = refl; seen = omega arith; known = omega arith; out_is = refl; front = λ m e. absurd (no_slot m e); room_is = refl; points_is = refl };
          })
          (at_added [] (newcomer room points) v k at);
    }
  where
    no_slot : (x : Message) → [] ≡ x ∷ [] → ⊥
    no_slot x e = cc
