-- The expansion of short texts has room in each block: a protocol that is called has a point for each statement of its own
-- block.
use Rattle.std.proofs.Common.{◌≡◌, ℕ, ◌+◌, ◌^◌, ◌<◌, ◌≤◌, Some, List, [], ◌∷◌, length, refl, ap, subst, length-append, arith}
use Rattle.std.specs.Prelude.{slice_get}
use Rattle.rcv_model.specs.Text.{Body, End, Single, Choose, Loop, Again, Parallel, Call, Bodies}
use Rattle.rcv_model.specs.Places.{IsNothing, singles, singles_of}
use Rattle.rcv_model.specs.Places as places
use Rattle.rcv_module.specs.Parts.{Part}
use Rattle.rcv_module.specs.Form.{IsFilled, AreFilled}
use Rattle.rcv_module.specs.Short.{extent, extent_of, IsShort}
use Rattle.rcv_module.specs.Expansion as expansion
use Rattle.rcv_module.specs.Expansion.{Stands, Expands, AllExpand}
use Rattle.rcv_module.proofs.Entered.{EntersFull, AllEnterFull}
use Rattle.rcv_module.proofs.Building.{own, width, HasRoomInside, AllHaveRoom}

abbrev Names : Type 0
Names = List (List ℕ)

-- what follows has no more points than the whole
points_kept : {parts : List Part} {st : Stands} {b next w : Body} → Expands parts st b next w → length (singles next) ≤ length (singles w)
points_kept expansion.at_end = omega arith
points_kept (expansion.message q e) = let x = points_kept e in omega (arith, x)
points_kept (expansion.choice {whole = whole} {cs = cs} es e) = let x = points_kept e in let z = length-append (singles_of cs) (singles whole) in omega (arith, x, z)
points_kept (expansion.loop {whole = whole} {inner = inner} e f) = let x = points_kept f in let z = length-append (singles inner) (singles whole) in omega (arith, x, z)
points_kept (expansion.again e) = points_kept e
points_kept (expansion.beside {whole = whole} {cs = cs} es e) = let x = points_kept e in let z = length-append (singles_of cs) (singles whole) in omega (arith, x, z)
points_kept (expansion.call p i e f) = let x = points_kept e in let y = points_kept f in omega (arith, x, y)

-- ---- where no rec around it has had a message, a text that isn't empty has a point

mutual
  has_point : {parts : List Part} {st : Stands} {b next w : Body} (roles : ℕ) (recs bare : Names) → recs ≡ bare → (e : Expands parts st b next w) → EntersFull e
      → IsFilled roles recs bare b → (IsNothing b → ⊥) → length (singles next) < length (singles w)
  has_point roles recs bare same expansion.at_end x f n = absurd (n tt)
  has_point roles recs bare same (expansion.message q e) x f n = let y = points_kept e in omega (arith, y)
  has_point roles recs bare same (expansion.choice {whole = whole} {cs = cs} es e) x f n =
      let y = points_kept e in
      let p = has_points roles recs bare same es x.0 f.0 in
      let z = length-append (singles_of cs) (singles whole) in omega (arith, y, p, z)
  has_point roles recs bare same (expansion.loop {whole = whole} {inner = inner} {name = name} e g) x f n =
      let y = points_kept g in
      let p = has_point roles (name ∷ recs) (name ∷ bare) (ap (λ l. name ∷ l) same) e x.0 f.1 f.0 in
      let z = length-append (singles inner) (singles whole) in omega (arith, y, p, z)
  has_point roles recs bare same (expansion.again {name = name} e) x f n = absurd (f.1 (subst (places.IsNamed name) same f.0))
  has_point roles recs bare same (expansion.beside es e) x f n = absurd f
  has_point roles recs bare same (expansion.call p i e g) x f n =
      let y = points_kept g in
      let q = has_point p.roles [] [] refl e x.1 x.0.0 x.0.1 in omega (arith, y, q)

  has_points : {parts : List Part} {st : Stands} {bs cs : Bodies} (roles : ℕ) (recs bare : Names) → recs ≡ bare → (es : AllExpand parts st bs cs) → AllEnterFull es
      → AreFilled roles recs bare bs → 0 < length (singles_of cs)
  has_points roles recs bare same expansion.no_more x f = absurd f
  has_points roles recs bare same (expansion.one_more {c = c} {cs = cs} e es) x f =
      let p = has_point roles recs bare same e x.0 f.1 f.0 in
      let z = length-append (singles c) (singles_of cs) in omega (arith, p, z)

-- So each statement of the own block of a protocol that is called has one.
own_few : {parts : List Part} {st : Stands} {b next w : Body} (roles : ℕ) (e : Expands parts st b next w) → EntersFull e → IsFilled roles [] [] b
    → own w + length (singles next) ≤ own next + length (singles w)
own_few roles expansion.at_end x f = omega arith
own_few roles (expansion.message q e) x f = let y = own_few roles e x f in omega (arith, y)
own_few roles (expansion.choice {whole = whole} {cs = cs} es e) x f =
    let y = own_few roles e x.1 f.1 in
    let p = has_points roles [] [] refl es x.0 f.0 in
    let z = length-append (singles_of cs) (singles whole) in omega (arith, y, p, z)
own_few roles (expansion.loop {whole = whole} {inner = inner} {name = name} e g) x f =
    let y = own_few roles g x.1 f.2 in
    let p = has_point roles (name ∷ []) (name ∷ []) refl e x.0 f.1 f.0 in
    let z = length-append (singles inner) (singles whole) in omega (arith, y, p, z)
own_few roles (expansion.again e) x f = absurd f.0
own_few roles (expansion.beside es e) x f = absurd f
own_few roles (expansion.call p i e g) x f =
    let y = own_few p.roles e x.1 x.0.0 in
    let z = own_few roles g x.2 f.1 in omega (arith, y, z)

-- A block has as many statements more than the text's, at most, as it has points.
own_grows : {parts : List Part} {st : Stands} {b next w : Body} (e : Expands parts st b next w) → EntersFull e
    → own w + length (singles next) ≤ own b + own next + length (singles w)
own_grows expansion.at_end x = omega arith
own_grows (expansion.message q e) x = let y = own_grows e x in omega (arith, y)
own_grows (expansion.choice {whole = whole} {cs = cs} es e) x = let y = own_grows e x.1 in let z = length-append (singles_of cs) (singles whole) in omega (arith, y, z)
own_grows (expansion.loop {whole = whole} {inner = inner} e g) x = let y = own_grows g x.1 in let z = length-append (singles inner) (singles whole) in omega (arith, y, z)
own_grows (expansion.again e) x = let y = own_grows e x in omega (arith, y)
own_grows (expansion.beside {whole = whole} {cs = cs} es e) x = let y = own_grows e x.1 in let z = length-append (singles_of cs) (singles whole) in omega (arith, y, z)
own_grows (expansion.call p i e g) x =
    let y = own_few p.roles e x.1 x.0.0 in
    let z = own_grows g x.2 in omega (arith, y, z)

-- ---- room

own_extent : (b : Body) → own b ≤ extent b
own_extent End = omega arith
own_extent (Single label sorts s r p rest) = let x = own_extent rest in omega (arith, x)
own_extent (Choose s bs rest) = let x = own_extent rest in omega (arith, x)
own_extent (Loop name body rest) = let x = own_extent rest in omega (arith, x)
own_extent (Again name rest) = let x = own_extent rest in omega (arith, x)
own_extent (Parallel bs rest) = let x = own_extent rest in omega (arith, x)
own_extent (Call name roles rest) = let x = own_extent rest in omega (arith, x)

-- as many blocks as in the text
wide : {parts : List Part} {st : Stands} {bs cs : Bodies} → AllExpand parts st bs cs → extent_of bs < 2 ^ 62 → width cs < 2 ^ 63
wide {bs = bs} es short = let x = as_wide es in omega (arith, x, short)
  where
    as_wide : {parts : List Part} {st : Stands} {bs cs : Bodies} → AllExpand parts st bs cs → width cs ≤ extent_of bs
    as_wide expansion.no_more = omega arith
    as_wide (expansion.one_more e es) = let x = as_wide es in omega (arith, x)

-- Each protocol's text is short.
abbrev pub AllShort : List Part → Type 0
AllShort parts = (i : ℕ) (p : Part) → slice_get parts i ≡ Some p → IsShort p

-- A block of a short text with at most 256 points has room.
pub own_room : {parts : List Part} {st : Stands} {b w : Body} (e : Expands parts st b End w) → EntersFull e → extent b < 2 ^ 62 → length (singles w) ≤ 256 → own w < 2 ^ 63
own_room {b = b} e x short few = let y = own_grows e x in let z = own_extent b in omega (arith, y, z, short, few)

mutual
  pub room_inside : {parts : List Part} {st : Stands} {b next w : Body} → AllShort parts → (e : Expands parts st b next w) → EntersFull e
      → extent b < 2 ^ 62 → length (singles w) ≤ 256 → HasRoomInside next → HasRoomInside w
  room_inside all expansion.at_end x short few room = room
  room_inside all (expansion.message q e) x short few room = room_inside all e x (omega (arith, short)) (omega (arith, few)) room
  room_inside all (expansion.choice {whole = whole} {cs = cs} es e) x short few room =
      let z = length-append (singles_of cs) (singles whole) in (
        wide es (omega (arith, short)),
        rooms_inside all es x.0 (omega (arith, short)) (omega (arith, few, z)),
        room_inside all e x.1 (omega (arith, short)) (omega (arith, few, z)) room,
      )
  room_inside all (expansion.loop {whole = whole} {inner = inner} e g) x short few room =
      let z = length-append (singles inner) (singles whole) in (
        own_room e x.0 (omega (arith, short)) (omega (arith, few, z)),
        room_inside all e x.0 (omega (arith, short)) (omega (arith, few, z)) tt,
        room_inside all g x.1 (omega (arith, short)) (omega (arith, few, z)) room,
      )
  room_inside all (expansion.again e) x short few room = room_inside all e x (omega (arith, short)) few room
  room_inside all (expansion.beside {whole = whole} {cs = cs} es e) x short few room =
      let z = length-append (singles_of cs) (singles whole) in (
        wide es (omega (arith, short)),
        rooms_inside all es x.0 (omega (arith, short)) (omega (arith, few, z)),
        room_inside all e x.1 (omega (arith, short)) (omega (arith, few, z)) room,
      )
  room_inside all (expansion.call p i e g) x short few room =
      let y = points_kept e in room_inside all e x.1 (all i.0 p i.2) few (room_inside all g x.2 (omega (arith, short)) (omega (arith, few, y)) room)

  rooms_inside : {parts : List Part} {st : Stands} {bs cs : Bodies} → AllShort parts → (es : AllExpand parts st bs cs) → AllEnterFull es
      → extent_of bs < 2 ^ 62 → length (singles_of cs) ≤ 256 → AllHaveRoom cs
  rooms_inside all expansion.no_more x short few = tt
  rooms_inside all (expansion.one_more {c = c} {cs = cs} e es) x short few =
      let z = length-append (singles c) (singles_of cs) in (
        own_room e x.0 (omega (arith, short)) (omega (arith, few, z)),
        room_inside all e x.0 (omega (arith, short)) (omega (arith, few, z)) tt,
        rooms_inside all es x.1 (omega (arith, short)) (omega (arith, few, z)),
      )
