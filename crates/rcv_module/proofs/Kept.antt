-- Walks through a module give what walks of its expansion give.
use Rattle.std.proofs.Common.{◌≡◌, ℕ, zero, suc, ◌+◌, ◌<◌, ◌≤◌, cond, List, [], ◌∷◌, ◌++◌, map, Some, refl, sym, ap, subst, ◌∙◌, inl, inr, ⊎_elim, eq-eqb, ne_eqb, arith}
use Rattle.std.specs.Prelude.{◌==◌, slice_get}
use Rattle.std.proofs.lemmas.Bool.{cases_eq, cases_lt}
use Rattle.rcv_model.specs.Text.{Body, End}
use Rattle.rcv_model.specs.Net.{IsIn, ComeFrom, opened, moved}
use Rattle.rcv_model.specs.Form.{IsNumberedFrom}
use Rattle.rcv_model.specs.Places.{Spot, SingleMessage, Lane, single_at, singles, net_of, spot_of, offers_at, offers_of, lanes_of, lane_at, lane_in, lane_or_none}
use Rattle.rcv_model.proofs.PlacesLemmas.{offers_sound, offers_complete}
use Rattle.rcv_model.proofs.LanesOfText.{Has, singles_all, flat, lane_is, later_lane}
use Rattle.rcv_model.proofs.Walks.{opened_here, opened_later, opened_none}
use Rattle.rcv_module.specs.Parts.{Part}
use Rattle.rcv_module.specs.Expansion.{Expands, themselves}
use Rattle.rcv_module.specs.Walks.{Todo, IsOver, InLanes, at_first, gone_on, IsModuleWalk, IsWalkOfModule, IsWalkOfText}
use Rattle.rcv_module.specs.Laws.{ExpansionKeepsWalks}
use Rattle.rcv_module.proofs.Sites.{IsAmong, among_left, among_right}
use Rattle.rcv_module.proofs.Laned.{laned}
use Rattle.rcv_module.proofs.Going.{spot, gone, offered}
use Rattle.rcv_module.proofs.Walking.{Related, outside, forward, backward}
use Rattle.rcv_module.proofs.Places.{IsOf, AreOf, IsSpotOf, leads_inside, at_start, is_place, is_message}

-- the message of a point
abbrev said_at : Body → ℕ → SingleMessage
said_at whole p = single_at p (singles whole)

-- ---- points of lanes

abbrev Made : Type 0
Made = List (ℕ × SingleMessage)

among_has : (p : ℕ) (m : SingleMessage) (es : Made) → IsAmong (p, m) es → Has p es
among_has p m [] i = absurd i
among_has p m (e ∷ es) (inl h) = inl (sym (ap (λ (x : ℕ × SingleMessage). x.0) h))
among_has p m (e ∷ es) (inr i) = inr (among_has p m es i)

among_all : (e : ℕ × SingleMessage) (ls : List Lane) (l : ℕ) → IsAmong e (singles (lane_or_none (slice_get ls l)).body) → IsAmong e (singles_all ls)
among_all e [] l i = absurd i
among_all e (x ∷ ls) zero i = among_left e (singles x.body) (singles_all ls) i
among_all e (x ∷ ls) (suc l) i = among_right e (singles x.body) (singles_all ls) (among_all e ls l i)

front_numbers : (n : ℕ) (xs ys : Made) → IsNumberedFrom n (xs ++ ys) → IsNumberedFrom n xs
front_numbers n [] ys k = tt
front_numbers n (x ∷ xs) ys k = (k.0, front_numbers (n + 1) xs ys k.1)

back_numbers : (n : ℕ) (xs ys : Made) → IsNumberedFrom n (xs ++ ys) → (m : ℕ) × (n ≤ m) × IsNumberedFrom m ys
back_numbers n [] ys k = (n, omega arith, k)
back_numbers n (x ∷ xs) ys k = let a = back_numbers (n + 1) xs ys k.1 in (a.0, let h = a.1 in omega arith, a.2)

lane_numbers : (n : ℕ) (ls : List Lane) (l : ℕ) → IsNumberedFrom n (singles_all ls) → (m : ℕ) × (n ≤ m) × IsNumberedFrom m (singles (lane_or_none (slice_get ls l)).body)
lane_numbers n [] l k = (n, omega arith, tt)
lane_numbers n (x ∷ ls) zero k = (n, omega arith, front_numbers n (singles x.body) (singles_all ls) k)
lane_numbers n (x ∷ ls) (suc l) k =
    let a = back_numbers n (singles x.body) (singles_all ls) k in
    let b = lane_numbers a.0 ls l a.2 in (b.0, let h = a.1 in let g = b.1 in omega arith, b.2)

-- A point at a spot of a lane: it is in that lane, it offers what the spot offers, and its message is that of the spot.
record IsPoint (whole : Body) (l p : ℕ) (m : SingleMessage) (there : Spot) : Type 0 where
  lane : lane_in whole p ≡ l
  offers : (net_of whole).offers p ≡ offers_at there
  message : said_at whole p ≡ m

point_of : (whole : Body) (l p : ℕ) (m : SingleMessage) (there : Spot) → IsNumberedFrom 1 (singles_all (lanes_of whole)) → IsSpotOf (lane_at whole l).body p m there → IsPoint whole l p m there
point_of whole l p m there numbers s =
    let n = lane_numbers 1 (lanes_of whole) l numbers in
    let in_lane : lane_in whole p ≡ l = lane_is whole p l numbers (among_has p m (singles (lane_at whole l).body) s.message) in
    record {
      lane = in_lane;
      offers = ap (λ k. offers_of (spot_of (lane_at whole k).body p)) in_lane ∙ ap offers_of (is_place (lane_at whole l).body n.0 p m there n.1 n.2 s);
      message = ap (single_at p) (flat whole) ∙ is_message 1 p m (singles_all (lanes_of whole)) numbers (among_all (p, m) (lanes_of whole) l s.message);
    }

-- ---- lanes

-- A lane's configuration is where the lane is.
record IsAt (parts : List Part) (lane : Body) (now : Todo) (s : Spot) (ahead : List ℕ) : Type 0 where
  related : Related parts now s
  left : IsOf lane s.left s.frames
  frames : AreOf lane s.frames
  offers : ahead ≡ offers_at s

abbrev AreAt : List Part → Body → InLanes → (ℕ → List ℕ) → Type 0
AreAt parts whole now ahead = (l : ℕ) → (s : Spot) × IsAt parts (lane_at whole l).body (now l) s (ahead l)

nothing_in : (xs : List ℕ) → ((p : ℕ) → IsIn p xs → ⊥) → xs ≡ []
nothing_in [] n = refl
nothing_in (x ∷ xs) n = absurd (n x (inl refl))

-- A lane is over where nothing is offered in it.
over_there : (parts : List Part) (lane : Body) (now : Todo) (s : Spot) (ahead : List ℕ) → IsAt parts lane now s ahead → IsOver parts now → ahead ≡ []
over_there parts lane now s ahead a over = nothing_in ahead (λ p i.
    let g = gone (offers_sound s p (subst (IsIn p) a.offers i)) in
    let b = backward parts g.goes now.left.body now.left.roles now.around a.related.next a.related.expands a.related.around in
    over g.message b.new b.takes)

over_here : (parts : List Part) (lane : Body) (now : Todo) (s : Spot) (ahead : List ℕ) → IsAt parts lane now s ahead → ahead ≡ [] → IsOver parts now
over_here parts lane now s ahead a none m new t =
    let f = forward t a.related.next s.left s.frames a.related.expands a.related.around in
    subst (IsIn f.point) (sym a.offers ∙ none) (offers_complete s f.point (offered f.goes))

-- one lane has gone on
gone_at : (parts : List Part) (whole : Body) (now : InLanes) (ahead : ℕ → List ℕ) (l p : ℕ) (new : Todo) (m : SingleMessage) (there : Spot) → AreAt parts whole now ahead
    → IsPoint whole l p m there → IsSpotOf (lane_at whole l).body p m there → Related parts new there → AreAt parts whole (gone_on now l new) (moved (net_of whole) ahead p)
gone_at parts whole now ahead l p new m there a x o r k =
    subst (λ n. (s : Spot) × IsAt parts (lane_at whole k).body (gone_on now l new k) s (cond (k == n) ((net_of whole).offers p) (ahead k))) (sym x.lane)
    (⊎_elim
    (λ e. subst (λ b. (s : Spot) × IsAt parts (lane_at whole k).body (cond b new (now k)) s (cond b ((net_of whole).offers p) (ahead k))) (sym (eq-eqb k l e))
    (there, record { related = r; left = subst (λ n. IsOf (lane_at whole n).body there.left there.frames) (sym e) o.left; frames = subst (λ n. AreOf (lane_at whole n).body there.frames) (sym e) o.frames; offers = x.offers }))
    (λ n. subst (λ b. (s : Spot) × IsAt parts (lane_at whole k).body (cond b new (now k)) s (cond b ((net_of whole).offers p) (ahead k))) (sym (ne_eqb k l n)) (a k))
    (cases_eq k l))

-- ---- walks

-- The lanes of the two texts are in the same stages.
abbrev SameStages : Body → Body → Type 0
SameStages text whole = (l : ℕ) → (lane_at text l).stage ≡ (lane_at whole l).stage

record Spelled (whole : Body) (ahead : ℕ → List ℕ) (ms : List SingleMessage) : Type 0 where
  points : List ℕ
  walk : ComeFrom (net_of whole) ahead points
  messages : map (said_at whole) points ≡ ms

spelled : (parts : List Part) (text whole : Body) → SameStages text whole → IsNumberedFrom 1 (singles_all (lanes_of whole)) → (now : InLanes) (ahead : ℕ → List ℕ) (ms : List SingleMessage)
    → AreAt parts whole now ahead → IsModuleWalk parts text now ms → Spelled whole ahead ms
spelled parts text whole stages numbers now ahead [] a w = record { points = []; walk = tt; messages = refl }
spelled parts text whole stages numbers now ahead (m ∷ ms) a w =
    let l = w.0 in
    let s = (a l).0 in
    let at = (a l).1 in
    let f = forward w.2.takes at.related.next s.left s.frames at.related.expands at.related.around in
    let o : IsSpotOf (lane_at whole l).body f.point m f.there = leads_inside f.goes at.left at.frames in
    let x = point_of whole l f.point m f.there numbers o in
    let more = spelled parts text whole stages numbers (gone_on now l w.1) (moved (net_of whole) ahead f.point) ms (gone_at parts whole now ahead l f.point w.1 m f.there a x o f.related) w.3 in
    let here : IsIn f.point (ahead l) = subst (IsIn f.point) (sym at.offers) (offers_complete s f.point (offered f.goes)) in
    record {
      points = f.point ∷ more.points;
      walk = (
        record {
          offered = subst (λ k. IsIn f.point (ahead k)) (sym x.lane) here;
          ended = λ k lt. over_there parts (lane_at whole k).body (now k) (a k).0 (ahead k) (a k).1 (w.2.over k (below k lt x.lane));
        },
        more.walk,
      );
      messages = said_more (said_at whole f.point) m (map (said_at whole) more.points) ms x.message more.messages;
    }
  where
    said_more : (n m : SingleMessage) (ns ms : List SingleMessage) → n ≡ m → ns ≡ ms → n ∷ ns ≡ m ∷ ms
    said_more n m ns ms e f = ap (λ x. x ∷ ns) e ∙ ap (λ l. m ∷ l) f

    below : (k : ℕ) {n : ℕ} → (lane_at whole k).stage < (lane_at whole n).stage → n ≡ w.0 → (lane_at text k).stage < (lane_at text w.0).stage
    below k lt e = subst (λ i. i < (lane_at text w.0).stage) (sym (stages k)) (subst (λ i. (lane_at whole k).stage < i) (ap (λ i. (lane_at whole i).stage) e ∙ sym (stages w.0)) lt)

walked : (parts : List Part) (text whole : Body) → SameStages text whole → IsNumberedFrom 1 (singles_all (lanes_of whole)) → (now : InLanes) (ahead : ℕ → List ℕ) (ps : List ℕ)
    → AreAt parts whole now ahead → ComeFrom (net_of whole) ahead ps → IsModuleWalk parts text now (map (said_at whole) ps)
walked parts text whole stages numbers now ahead [] a w = tt
walked parts text whole stages numbers now ahead (p ∷ ps) a w =
    let l = lane_in whole p in
    let s = (a l).0 in
    let at = (a l).1 in
    let g = gone (offers_sound s p (subst (IsIn p) at.offers w.0.offered)) in
    let b = backward parts g.goes (now l).left.body (now l).left.roles (now l).around at.related.next at.related.expands at.related.around in
    let o : IsSpotOf (lane_at whole l).body p g.message g.new = leads_inside g.goes at.left at.frames in
    let x = point_of whole l p g.message g.new numbers o in
    let more = walked parts text whole stages numbers (gone_on now l b.new) (moved (net_of whole) ahead p) ps (gone_at parts whole now ahead l p b.new g.message g.new a x o b.related) w.1 in
    subst (λ m. IsModuleWalk parts text now (m ∷ map (said_at whole) ps)) (sym x.message) (
      l,
      b.new,
      record {
        takes = b.takes;
        over = λ k lt. over_here parts (lane_at whole k).body (now k) (a k).0 (ahead k) (a k).1 (w.0.ended k (subst (λ i. i < (lane_at whole l).stage) (stages k) (subst (λ i. (lane_at text k).stage < i) (stages l) lt)));
      },
      more,
    )

-- from the start each lane is open at its start
open_first : (whole : Body) (l : ℕ) → IsNumberedFrom 1 (singles_all (lanes_of whole)) → opened (net_of whole) 0 l ≡ (net_of whole).begins l
open_first whole l numbers = ⊎_elim
    (λ e. opened_here (net_of whole) 0 l e ∙ ap (net_of whole).begins (sym e))
    (λ n. ⊎_elim
    (λ e. absurd (n e))
    (⊎_elim
    (λ none. ⊎_elim (λ lt. opened_later (net_of whole) 0 l n lt) (λ le. opened_none (net_of whole) 0 l n (λ lt. omega (arith, le, lt)) ∙ sym none) (cases_lt ((net_of whole).stage ((net_of whole).lane 0)) ((net_of whole).stage l)))
    (λ lt. opened_later (net_of whole) 0 l n lt))
    (later_lane whole l numbers))
    (cases_eq l ((net_of whole).lane 0))

pub expansion_keeps_walks : ExpansionKeepsWalks
expansion_keeps_walks parts body ms formed callable x = (to, from)
  where
    numbers : IsNumberedFrom 1 (singles_all (lanes_of body))
    numbers = subst (IsNumberedFrom 1) (flat body) x.numbered

    lanes : (l : ℕ) → ((lane_at x.main.body l).stage ≡ (lane_at body l).stage) × Expands parts themselves (lane_at x.main.body l).body End (lane_at body l).body
    lanes l = laned parts x.main body l formed callable x.first x.expands

    started : AreAt parts body (at_first x.main.body) (opened (net_of body) 0)
    started l = (
      spot (lane_at body l).body [],
      record {
        related = record { next = End; expands = (lanes l).1; around = outside };
        left = at_start (lane_at body l).body;
        frames = tt;
        offers = open_first body l numbers;
      },
    )

    to : IsWalkOfModule parts ms → IsWalkOfText body ms
    to w =
        let same : Some w.main ≡ Some x.main = sym w.first ∙ x.first in
        let main : w.main ≡ x.main = cc in
        let walk : IsModuleWalk parts x.main.body (at_first x.main.body) ms = subst (λ (p : Part). IsModuleWalk parts p.body (at_first p.body) ms) main w.walk in
        let s = spelled parts x.main.body body (λ l. (lanes l).0) numbers (at_first x.main.body) (opened (net_of body) 0) ms started walk in
        record { points = s.points; walk = s.walk; messages = s.messages }

    from : IsWalkOfText body ms → IsWalkOfModule parts ms
    from w = record {
      main = x.main;
      first = x.first;
      walk = subst (IsModuleWalk parts x.main.body (at_first x.main.body)) w.messages (walked parts x.main.body body (λ l. (lanes l).0) numbers (at_first x.main.body) (opened (net_of body) 0) w.points started w.walk);
    }
