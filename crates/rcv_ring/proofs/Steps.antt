-- Each step on a word keeps the ring's rule.
use Rattle.std.proofs.Common.{◌≡◌, ◌≢◌, ℕ, ◌+◌, ◌≤◌, ◌<◌, Bool, true, false, List, [], ◌∷◌, ◌++◌, set, get_or, length, refl, sym, ap, ◌∙◌, subst, ⊎_elim, mod-lt, arith, append_assoc, append-nil, length-append, length-set, get_or-set_other, get_or-set_same}
use Rattle.std.proofs.Math.Nat.{add-mod_right}
use mathlib.Core.Option.{none, some}
use mathlib.Core.Logic.{dite}
use native.Mathlib.Decide.{ℕ_discrete}
use lib.ListN.{get_elem?}
use Rattle.std.proofs.lemmas.List.{set-get_or}
use Rattle.atomic_table.specs.Table.{step, keeps, takes, gives, Allows}
use Rattle.atomic_table.proofs.Lists.{at_set, at_longer, set_here, set_else}
use Rattle.rcv_tree.specs.declared.event.Message.{Message}
use Rattle.rcv_ring.specs.Points.{CanPass}
use Rattle.rcv_ring.specs.Lists.{Begins}
use Rattle.rcv_ring.specs.declared.rule.View.{View}
use Rattle.rcv_ring.specs.Places.{place, at_put, at_got}
use Rattle.rcv_ring.specs.Ring.{Cells, Ends, Fits, AllFit, Ring}
use Rattle.rcv_ring.specs.Views.{Mine, holding, published, released, looked, Pushing, Pulling, MayFill, MayRead, fill_place, read_place, Claimed, Published, Lifted, Released, SawGot, SawPut}
use Rattle.rcv_ring.proofs.Lists.{begins_longer, begins_length, begins_next, at_added, elem_lt, elem_at, apart}

pub never : (b : Bool) → b ≡ false → b ≡ true → ⊥
never b f t = let bad : false ≡ true = sym f ∙ t in cc

-- the seat id has a new view, and each other one fits what has changed
pub fits_set : (room : ℕ) (points : List ℕ) (sent taken sent' taken' : List Message) (ends ends' : Ends) (id : ℕ) (views : List View) (w : View)
    → AllFit room points sent taken ends views
    → ((k : ℕ) (v : View) → k ≢ id → Fits room points sent taken ends k v → Fits room points sent' taken' ends' k v)
    → Fits room points sent' taken' ends' id w → AllFit room points sent' taken' ends' (set views id w)
fits_set room points sent taken sent' taken' ends ends' id views w all others new k v at =
    let P : ℕ → View → Type 0 = λ j u. Fits room points sent' taken' ends' j u in
    ⊎_elim (λ t. subst (λ (z : ℕ × View). P z.0 z.1) (λ i. (sym t.0 i, t.1 i)) new) (λ t. others k v t.0 (all k v t.1)) (at_set views id k w v at)

-- a load leaves the words
pub loaded : (room : ℕ) (points : List ℕ) (s : Cells) (r : Ring room points s) (i id : ℕ) (w : View) → Fits room points r.sent r.taken r.ends id w
    → Ring room points record { words = set s.words i (get_or s.words i 0); homes = s.homes; views = set s.views id w }
loaded room points s r i id w new =
    let P : List ℕ → Type 0 = λ ws. Ring room points record { words = ws; homes = s.homes; views = set s.views id w } in
    subst P (sym (set-get_or s.words i 0))
    record {
      sent = r.sent;
      taken = r.taken;
      ends = r.ends;
      some_room = r.some_room;
      size = r.size;
      slots = r.slots;
      put = r.put;
      got = r.got;
      begins = r.begins;
      within = r.within;
      cells = r.cells;
      free = r.free;
      legal = r.legal;
      fits = fits_set room points r.sent r.taken r.sent r.taken r.ends r.ends id s.views w r.fits (λ k v ne f. f) new;
    }

pub sees_got : (room : ℕ) (points : List ℕ) (n id : ℕ) (me : Mine) → Pushing me.0 → Allows (Ring room points) n id me at_got (λ x. x) (SawGot (step n at_got 0 0 none) me)
sees_got room points n id me is s r wide at below =
    let found : ℕ = get_or s.words at_got 0 in
    let f = r.fits id me.0 at in
    let p = f.pushes is.0 in
    let got : found ≡ length r.taken = r.got in
    let long : length me.0.sent ≡ length r.sent = ap length p.all in
    let le : length r.taken ≤ length r.sent = begins_length r.taken r.sent r.begins in
    let within : length r.sent ≤ length r.taken + room = r.within in
    let known : me.0.known ≤ length r.taken = p.known in
    let room_is : me.0.room ≡ room = p.room_is in
    let rest : Begins me.0.taken me.0.sent = (f.told_taken.0 ++ r.begins.0, sym (append_assoc me.0.taken f.told_taken.0 r.begins.0) ∙ ap (λ l. l ++ r.begins.0) f.told_taken.1 ∙ r.begins.1 ∙ sym p.all) in (
      looked me.0 found,
      keeps,
      tt,
      loaded room points s r at_got id (looked me.0 found)
          record {
            told_sent = f.told_sent;
            told_taken = f.told_taken;
            pushes = λ _. record { seat = p.seat; all = p.all; seen = omega arith; known = omega arith; out_is = p.out_is; room_is = p.room_is; points_is = p.points_is };
            pulls = λ b. absurd (never me.0.pulls is.1 b);
          },
      (refl, refl, omega arith, omega arith, omega arith, rest),
    )

pub sees_put : (room : ℕ) (points : List ℕ) (n id : ℕ) (me : Mine) → Pulling me.0 → Allows (Ring room points) n id me at_put (λ x. x) (SawPut (step n at_put 0 0 none) me)
sees_put room points n id me is s r wide at below =
    let found : ℕ = get_or s.words at_put 0 in
    let f = r.fits id me.0 at in
    let p = f.pulls is.1 in
    let put : found ≡ length r.sent = r.put in
    let long : length me.0.taken ≡ length r.taken = ap length p.all in
    let le : length r.taken ≤ length r.sent = begins_length r.taken r.sent r.begins in
    let within : length r.sent ≤ length r.taken + room = r.within in
    let room_is : me.0.room ≡ room = p.room_is in
    let known : me.0.known ≤ length r.sent = p.known in (
      looked me.0 found,
      keeps,
      tt,
      loaded room points s r at_put id (looked me.0 found)
          record {
            told_sent = f.told_sent;
            told_taken = f.told_taken;
            pushes = λ b. absurd (never me.0.pushes is.0 b);
            pulls = λ _. record { seat = p.seat; all = p.all; seen = omega arith; known = omega arith; out_is = p.out_is; front = p.front; room_is = p.room_is; points_is = p.points_is };
          },
      (refl, refl, omega arith, omega arith, omega arith),
    )

-- the slot of the message i is out, which no message needs that has to be at home
out : (room : ℕ) (points : List ℕ) (s : Cells) (r : Ring room points s) (word i at id : ℕ) (w : View) (ends : Ends) → at ≡ place room i
    → ((j : ℕ) → length r.taken + ends.lifting ≤ j → j < length r.sent → (length r.taken + r.ends.lifting ≤ j) × (place room j ≢ place room i))
    → ((j : ℕ) → length r.sent + ends.filling ≤ j → j < length r.taken + room → (length r.sent + r.ends.filling ≤ j) × (place room j ≢ place room i))
    → AllFit room points r.sent r.taken ends (set s.views id w)
    → Ring room points record { words = set s.words word (get_or s.words word 0); homes = set s.homes at none; views = set s.views id w }
out room points s r word i at id w ends here full free all =
    let P : List ℕ × ℕ → Type 0 = λ z. Ring room points record { words = z.0; homes = set s.homes z.1 none; views = set s.views id w } in
    subst P (λ k. (sym (set-get_or s.words word 0) k, sym here k))
    record {
      sent = r.sent;
      taken = r.taken;
      ends = ends;
      some_room = r.some_room;
      size = r.size;
      slots = length-set s.homes (place room i) none ∙ r.slots;
      put = r.put;
      got = r.got;
      begins = r.begins;
      within = r.within;
      cells = λ j m le e. let t = full j le (elem_lt r.sent j m e) in set_else s.homes (place room i) (place room j) none t.1 ∙ r.cells j m t.0 e;
      free = λ j le lt. let t = free j le lt in let old = r.free j t.0 lt in (old.0, set_else s.homes (place room i) (place room j) none t.1 ∙ old.1);
      legal = r.legal;
      fits = all;
    }

pub claims : (room : ℕ) (points : List ℕ) (n id : ℕ) (me : Mine) → Pushing me.0 → me.0.out ≡ [] → MayFill me.0 → Allows (Ring room points) n id me at_put (λ x. x) (Claimed (step n at_put 0 0 none) me)
claims room points n id me is idle more s r wide at below =
    let f = r.fits id me.0 at in
    let p = f.pushes is.0 in
    let put : ℕ = length r.sent in
    let got : ℕ = length r.taken in
    let le : got ≤ put = begins_length r.taken r.sent r.begins in
    let within : put ≤ got + room = r.within in
    let long : length me.0.sent ≡ put = ap length p.all in
    let room_is : me.0.room ≡ room = p.room_is in
    let seen : me.0.seen ≤ got = p.seen in
    let near : put < got + room = omega arith in
    let none_out : r.ends.filling ≡ 0 = sym p.out_is ∙ ap length idle in
    let home = r.free put (omega arith) near in
    let here : fill_place me.0 ≡ place room put = λ i. place (p.room_is i) (long i) in
    let ends : Ends = record { pusher = r.ends.pusher; puller = r.ends.puller; filling = 1; lifting = r.ends.lifting } in (
      holding me.0 home.0,
      takes (fill_place me.0) home.0,
      ap (λ (i : ℕ). get_elem? s.homes i) here ∙ home.1,
      out room points s r at_put put (fill_place me.0) id (holding me.0 home.0) ends here
          (λ j from lt. (from, λ e. apart room j put lt (let from' : got ≤ j = omega arith in omega arith) (sym e)))
          (λ j from lt. (omega arith, apart room put j (omega arith) (omega arith)))
          (fits_set room points r.sent r.taken r.sent r.taken r.ends ends id s.views (holding me.0 home.0) r.fits
          (λ k v ne g. record { told_sent = g.told_sent; told_taken = g.told_taken; pushes = λ b. absurd (ne ((g.pushes b).seat ∙ sym p.seat)); pulls = g.pulls })
          record {
            told_sent = f.told_sent;
            told_taken = f.told_taken;
            pushes = λ _. record { seat = p.seat; all = p.all; seen = p.seen; known = p.known; out_is = refl; room_is = p.room_is; points_is = p.points_is };
            pulls = λ b. absurd (never me.0.pulls is.1 b);
          }),
      (home.0, refl, refl),
    )

pub lifts : (room : ℕ) (points : List ℕ) (n id : ℕ) (me : Mine) → Pulling me.0 → me.0.out ≡ [] → MayRead me.0 → Allows (Ring room points) n id me at_got (λ x. x) (Lifted (step n at_got 0 0 none) me)
lifts room points n id me is idle more s r wide at below =
    let f = r.fits id me.0 at in
    let p = f.pulls is.1 in
    let put : ℕ = length r.sent in
    let got : ℕ = length r.taken in
    let within : put ≤ got + room = r.within in
    let long : length me.0.taken ≡ got = ap length p.all in
    let seen : me.0.seen ≤ put = p.seen in
    let lt : got < put = omega arith in
    let none_out : r.ends.lifting ≡ 0 = sym p.out_is ∙ ap length idle in
    let front = elem_at r.sent got lt in
    let here : read_place me.0 ≡ place room got = λ i. place (p.room_is i) (long i) in
    let ends : Ends = record { pusher = r.ends.pusher; puller = r.ends.puller; filling = r.ends.filling; lifting = 1 } in (
      holding me.0 front.0,
      takes (read_place me.0) front.0,
      ap (λ (i : ℕ). get_elem? s.homes i) here ∙ r.cells got front.0 (omega arith) front.1,
      out room points s r at_got got (read_place me.0) id (holding me.0 front.0) ends here
          (λ j from few. (omega arith, apart room got j (omega arith) (omega arith)))
          (λ j from few. (from, apart room got j (let from' : put ≤ j = omega arith in omega arith) few))
          (fits_set room points r.sent r.taken r.sent r.taken r.ends ends id s.views (holding me.0 front.0) r.fits
          (λ k v ne g. record { told_sent = g.told_sent; told_taken = g.told_taken; pushes = g.pushes; pulls = λ b. absurd (ne ((g.pulls b).seat ∙ sym p.seat)) })
          record {
            told_sent = f.told_sent;
            told_taken = f.told_taken;
            pushes = λ b. absurd (never me.0.pushes is.0 b);
            pulls = λ _. record {
              seat = p.seat;
              all = p.all;
              seen = p.seen;
              known = p.known;
              out_is = refl;
              front = λ m e. front.1 ∙ ap some (first_is front.0 m e);
              room_is = p.room_is;
              points_is = p.points_is;
            };
          }),
      (front.0, refl, refl, subst (λ (z : List ℕ). CanPass z front.0) (sym p.points_is) (r.legal got front.0 front.1)),
    )
  where
    first_is : (a b : Message) → a ∷ [] ≡ b ∷ [] → a ≡ b
    first_is a b e = cc

publishes_at : (room : ℕ) (points : List ℕ) (n id : ℕ) (v : View) (old m : Message) (new : ℕ) → Pushing v → MayFill v → CanPass v.points m → new ≡ length v.sent + 1
    → let me : Mine = (holding v old, (fill_place v, m) ∷ []) in Allows (Ring room points) n id me at_put (λ _. new) (Published (step n at_put new 0 none) me)
publishes_at room points n id v old m new is more ok next s r wide at below =
    let f = r.fits id (holding v old) at in
    let p = f.pushes is.0 in
    let put : ℕ = length r.sent in
    let got : ℕ = length r.taken in
    let le : got ≤ put = begins_length r.taken r.sent r.begins in
    let long : length v.sent ≡ put = ap length p.all in
    let room_is : v.room ≡ room = p.room_is in
    let seen : v.seen ≤ got = p.seen in
    let near : put < got + room = omega arith in
    let one_out : r.ends.filling ≡ 1 = sym p.out_is in
    let here : fill_place v ≡ place room put = λ i. place (p.room_is i) (long i) in
    let sent' = r.sent ++ m ∷ [] in
    let longer : length sent' ≡ put + 1 = length-append r.sent (m ∷ []) in
    let size : length s.words ≡ 48 = r.size in
    let all' : v.sent ++ m ∷ [] ≡ sent' = ap (λ l. l ++ m ∷ []) p.all in
    let ok' : CanPass points m = subst (λ (z : List ℕ). CanPass z m) p.points_is ok in
    let ends : Ends = record { pusher = r.ends.pusher; puller = r.ends.puller; filling = 0; lifting = r.ends.lifting } in
    let inside : place room put < length s.homes = subst (λ (z : ℕ). place room put < z) (sym r.slots) (mod-lt put r.some_room) in
    let w = published (holding v old) (m ∷ []) in
    let P : ℕ → Type 0 = λ k. Ring room points record { words = set s.words at_put new; homes = set s.homes k (some m); views = set s.views id w } in (
      w,
      gives,
      tt,
      subst P (sym here)
          record {
            sent = sent';
            taken = r.taken;
            ends = ends;
            some_room = r.some_room;
            size = length-set s.words at_put new ∙ r.size;
            slots = length-set s.homes (place room put) (some m) ∙ r.slots;
            put = get_or-set_same s.words at_put new 0 (omega arith) ∙ next ∙ (omega arith);
            got = get_or-set_other s.words at_put at_got new 0 (λ e. omega arith) ∙ r.got;
            begins = begins_longer r.taken r.sent (m ∷ []) r.begins;
            within = omega arith;
            cells = λ i x from e. ⊎_elim
                (λ there. let lt : i < put = elem_lt r.sent i x there in let from' : got ≤ i = omega arith in
                set_else s.homes (place room put) (place room i) (some m) (λ same. apart room i put lt (omega arith) (sym same)) ∙ r.cells i x from there)
                (λ last. ap (λ (k : ℕ). get_elem? (set s.homes (place room put) (some m)) (place room k)) last.0 ∙ set_here s.homes (place room put) (some m) inside ∙ ap (λ (y : Message). some (some y)) last.1)
                (at_added r.sent m x i e);
            free = λ i from lt. let home = r.free i (omega arith) lt in
                (home.0, set_else s.homes (place room put) (place room i) (some m) (apart room put i (omega arith) (omega arith)) ∙ home.1);
            legal = λ i x e. ⊎_elim (λ there. r.legal i x there) (λ last. subst (CanPass points) last.1 ok') (at_added r.sent m x i e);
            fits = fits_set room points r.sent r.taken sent' r.taken r.ends ends id s.views w r.fits
                (λ k u ne g. record {
                  told_sent = begins_longer u.sent r.sent (m ∷ []) g.told_sent;
                  told_taken = g.told_taken;
                  pushes = λ b. absurd (ne ((g.pushes b).seat ∙ sym p.seat));
                  pulls = λ b. let q = g.pulls b in let seen' : u.seen ≤ put = q.seen in let known' : u.known ≤ put = q.known in record {
                    seat = q.seat;
                    all = q.all;
                    seen = omega arith;
                    known = omega arith;
                    out_is = q.out_is;
                    front = λ x e. at_longer r.sent (m ∷ []) got x (q.front x e);
                    room_is = q.room_is;
                    points_is = q.points_is;
                  };
                })
                record {
                  told_sent = ([], append-nil (v.sent ++ m ∷ []) ∙ all');
                  told_taken = f.told_taken;
                  pushes = λ _. record { seat = p.seat; all = all'; seen = p.seen; known = p.known; out_is = refl; room_is = p.room_is; points_is = p.points_is };
                  pulls = λ b. absurd (never v.pulls is.1 b);
                };
          },
      (refl, refl),
    )

pub publishes : (room : ℕ) (points : List ℕ) (n id : ℕ) (me : Mine) (v : View) (old m : Message) (new : ℕ) → me ≡ (holding v old, (fill_place v, m) ∷ []) → Pushing v → MayFill v → CanPass v.points m
    → new ≡ length v.sent + 1 → Allows (Ring room points) n id me at_put (λ _. new) (Published (step n at_put new 0 none) me)
publishes room points n id me v old m new e is more ok next =
    let P : Mine → Type 0 = λ z. Allows (Ring room points) n id z at_put (λ _. new) (Published (step n at_put new 0 none) z) in subst P (sym e) (publishes_at room points n id v old m new is more ok next)

releases_at : (room : ℕ) (points : List ℕ) (n id : ℕ) (v : View) (front m : Message) (new : ℕ) → Pulling v → new ≡ length v.taken + 1
    → let me : Mine = (holding v front, (read_place v, m) ∷ []) in Allows (Ring room points) n id me at_got (λ _. new) (Released (step n at_got new 0 none) me)
releases_at room points n id v front m new is next s r wide at below =
    let f = r.fits id (holding v front) at in
    let p = f.pulls is.1 in
    let put : ℕ = length r.sent in
    let got : ℕ = length r.taken in
    let long : length v.taken ≡ got = ap length p.all in
    let is_front = p.front front refl in
    let lt : got < put = elem_lt r.sent got front is_front in
    let one_out : r.ends.lifting ≡ 1 = sym p.out_is in
    let here : read_place v ≡ place room got = λ i. place (p.room_is i) (long i) in
    let taken' = r.taken ++ front ∷ [] in
    let longer : length taken' ≡ got + 1 = length-append r.taken (front ∷ []) in
    let size : length s.words ≡ 48 = r.size in
    let within : put ≤ got + room = r.within in
    let all' : v.taken ++ front ∷ [] ≡ taken' = ap (λ l. l ++ front ∷ []) p.all in
    let ends : Ends = record { pusher = r.ends.pusher; puller = r.ends.puller; filling = r.ends.filling; lifting = 0 } in
    let inside : place room got < length s.homes = subst (λ (z : ℕ). place room got < z) (sym r.slots) (mod-lt got r.some_room) in
    let w = released (holding v front) in
    let P : ℕ → Type 0 = λ k. Ring room points record { words = set s.words at_got new; homes = set s.homes k (some m); views = set s.views id w } in (
      w,
      gives,
      tt,
      subst P (sym here)
          record {
            sent = r.sent;
            taken = taken';
            ends = ends;
            some_room = r.some_room;
            size = length-set s.words at_got new ∙ r.size;
            slots = length-set s.homes (place room got) (some m) ∙ r.slots;
            put = get_or-set_other s.words at_got at_put new 0 (λ e. omega arith) ∙ r.put;
            got = get_or-set_same s.words at_got new 0 (omega arith) ∙ next ∙ (omega arith);
            begins = begins_next front r.taken r.sent r.begins is_front;
            within = omega arith;
            cells = λ i x from e. let few : i < put = elem_lt r.sent i x e in
                set_else s.homes (place room got) (place room i) (some m) (apart room got i (omega arith) (omega arith)) ∙ r.cells i x (omega arith) e;
            free = λ i from few. dite (ℕ_discrete i (got + room))
                (λ e. (m, ap (λ (k : ℕ). get_elem? (set s.homes (place room got) (some m)) (place room k)) e ∙ ap (λ (k : ℕ). get_elem? (set s.homes (place room got) (some m)) k) (add-mod_right got room) ∙ set_here s.homes (place room got) (some m) inside))
                (λ ne. let near : i < got + room = omega arith in let from' : put ≤ i = omega arith in let home = r.free i from near in
                (home.0, set_else s.homes (place room got) (place room i) (some m) (apart room got i (omega arith) near) ∙ home.1));
            legal = r.legal;
            fits = fits_set room points r.sent r.taken r.sent taken' r.ends ends id s.views w r.fits
                (λ k u ne g. record {
                  told_sent = g.told_sent;
                  told_taken = begins_longer u.taken r.taken (front ∷ []) g.told_taken;
                  pushes = λ b. let q = g.pushes b in let seen' : u.seen ≤ got = q.seen in let known' : u.known ≤ got = q.known in
                      record { seat = q.seat; all = q.all; seen = omega arith; known = omega arith; out_is = q.out_is; room_is = q.room_is; points_is = q.points_is };
                  pulls = λ b. absurd (ne ((g.pulls b).seat ∙ sym p.seat));
                })
                record {
                  told_sent = f.told_sent;
                  told_taken = ([], append-nil (v.taken ++ front ∷ []) ∙ all');
                  pushes = λ b. absurd (never v.pushes is.0 b);
                  pulls = λ _. record { seat = p.seat; all = all'; seen = p.seen; known = p.known; out_is = refl; front = λ x e. absurd (no_slot x e); room_is = p.room_is; points_is = p.points_is };
                };
          },
      (refl, refl),
    )
  where
    no_slot : (x : Message) → [] ≡ x ∷ [] → ⊥
    no_slot x e = cc

pub releases : (room : ℕ) (points : List ℕ) (n id : ℕ) (me : Mine) (v : View) (front m : Message) (new : ℕ) → me ≡ (holding v front, (read_place v, m) ∷ []) → Pulling v → new ≡ length v.taken + 1
    → Allows (Ring room points) n id me at_got (λ _. new) (Released (step n at_got new 0 none) me)
releases room points n id me v front m new e is next =
    let P : Mine → Type 0 = λ z. Allows (Ring room points) n id z at_got (λ _. new) (Released (step n at_got new 0 none) z) in subst P (sym e) (releases_at room points n id v front m new is next)
