-- Lists of roles that failed.
use Rattle.std.proofs.Common.{◌≡◌, ◌≢◌, ◌∙◌, ◌+◌, ◌<◌, ◌≤◌, ◌==◌, ◌&&◌, ◌||◌, ◌⊎◌, inl, inr, ℕ, zero, suc, Bool, true, false, true≢false, cond, List, [], ◌∷◌, ◌++◌, map, take, drop, length, get_or, Option, Some, None, Result, Ok, Err, refl, sym, ap, ap₂, subst, ⊎_elim, arith, append_assoc, append-nil, length-append, decimal, codes}
use Rattle.std.specs.Prelude.{nat_lt}
use Rattle.std.specs.List.{position, position_or_len}
use Rattle.std.proofs.lemmas.Bool.{cases_Bool}
use Rattle.std.proofs.lemmas.Bool.Decides.{nat_tests}
use Rattle.std.proofs.lemmas.List.{take_at, drop_at, take-append-drop, drop_more, get_or_append_left, get_or-append-add}
use Rattle.std.proofs.lemmas.List.Quantifiers.{position-Some}
use Rattle.std.proofs.lemmas.List.Sums.{position_or_len_is}
use Rattle.rcv_model.specs.Names.{AreDifferent}
use Rattle.rcv_accept.specs.Accepted.{AcceptedView, roles_of}
use Rattle.rcv_dialogue.specs.declared.few.Failed.{Failed}
use Rattle.rcv_dialogue.specs.declared.words.Misfit.{Misfit}
use Rattle.rcv_dialogue.specs.declared.wrong.Expected.{Expected}
use Rattle.rcv_dialogue.specs.declared.wrong.Expected.TheVariants as expected
use Rattle.rcv_lines.specs.Cutting.{Lacks}
use Rattle.rcv_dialogue.specs.Lines.{AreOthers, AreRoles, EachOnce, IsRole, MayFit, NoneSaysUndone, count_text, failed_word}
use Rattle.rcv_dialogue.specs.Names.{name_of, role_in}
use Rattle.rcv_dialogue.specs.Numbers.{is_word, number_in}
use Rattle.rcv_dialogue.specs.Reading.{◌>>=◌, Words, failed_cut, failed_if, failed_in, more_at, names_role, one_more, or_wrong, unless_all, wrong}
use Rattle.rcv_dialogue.proofs.Naming.{role_again, role_takes}
use Rattle.rcv_dialogue.proofs.Numerals.{number_again, number_takes, same_word}
use Rattle.rcv_dialogue.proofs.Steps.{bind_ok, ok_is}

-- ---- one word

abbrev read_as : Failed → Result Failed Expected
read_as f = Ok f

failed_is : (f g : Failed) → read_as f ≡ read_as g → f ≡ g
failed_is f g e = cc

-- What a word of these two parts says.
abbrev Says : AcceptedView → List ℕ → Failed → Type 0
Says a w f = IsRole a f.role × MayFit f.count × (w ≡ failed_word a f)

cut_at_sign : (w : List ℕ) (i : ℕ) → position (λ b. b == 61) w ≡ Some i → w ≡ take i w ++ 61 ∷ drop (i + 1) w
cut_at_sign w i at =
    let found = position-Some (λ b. b == 61) w i 0 at in
    let test = found.1 in
    let here : get_or w i 0 ≡ 61 = grind (arith, nat_tests) in
    sym (take-append-drop i w) ∙ ap (λ xs. take i w ++ xs) (drop_more w i 0 found.0 ∙ ap (λ b. b ∷ drop (i + 1) w) here)

alone_says : (a : AcceptedView) (w : List ℕ) (f : Failed) (o : Option ℕ) → role_in a w ≡ o → failed_if o None ≡ Ok f → Says a w f
alone_says a w f None read is = absurd cc
alone_says a w f (Some r) read is =
    let t = role_takes a w r read in
    subst (Says a w) (failed_is (record { role = r; count = None }) f is) (t.0, tt, t.1 ∙ sym (append-nil (name_of a r)))

both_say : (a : AcceptedView) (w v u : List ℕ) (f : Failed) (o n : Option ℕ) → w ≡ v ++ 61 ∷ u → role_in a v ≡ o → number_in u ≡ n → failed_if o (Some n) ≡ Ok f → Says a w f
both_say a w v u f None n cut role number is = absurd cc
both_say a w v u f (Some r) None cut role number is = absurd cc
both_say a w v u f (Some r) (Some n) cut role number is =
    let t = role_takes a v r role in
    let k = number_takes u n number in
    subst (Says a w) (failed_is (record { role = r; count = Some n }) f is) (t.0, k.1, cut ∙ ap₂ (λ x y. x ++ 61 ∷ y) t.1 k.0)

pub failed_takes : (a : AcceptedView) (w : List ℕ) (f : Failed) → failed_in a w ≡ Ok f → IsRole a f.role × MayFit f.count × (w ≡ failed_word a f)
failed_takes a w f is = go (position (λ b. b == 61) w) refl is
  where
    go : (o : Option ℕ) → position (λ b. b == 61) w ≡ o → failed_cut a w o ≡ Ok f → IsRole a f.role × MayFit f.count × (w ≡ failed_word a f)
    go None at is = alone_says a w f (role_in a w) refl is
    go (Some i) at is = both_say a w (take i w) (drop (i + 1) w) f (role_in a (take i w)) (number_in (drop (i + 1) w)) (cut_at_sign w i at) refl refl is

-- A name has no such sign.
no_sign : (w : List ℕ) → Lacks 61 w → (k : ℕ) → k < length w → (get_or w k 0 == 61) ≡ false
no_sign [] lacks k inside = absurd (omega (arith, inside))
no_sign (b ∷ w) lacks zero inside = let other = lacks.0 in grind (arith, nat_tests)
no_sign (b ∷ w) lacks (suc k) inside = no_sign w lacks.1 k (omega (arith, inside))

position_of : (p : ℕ → Bool) (w : List ℕ) (i : ℕ) → i < length w → position_or_len p w ≡ i → position p w ≡ Some i
position_of p w i inside is =
    ap (λ k. cond (nat_lt k (length w)) (Some k) None) is
    ∙ (let below : nat_lt i (length w) ≡ true = grind (arith, nat_tests) in ap (λ b. cond b (Some i) None) below)

no_position : (p : ℕ → Bool) (w : List ℕ) → position_or_len p w ≡ length w → position p w ≡ None
no_position p w is =
    ap (λ k. cond (nat_lt k (length w)) (Some k) None) is
    ∙ (let past : nat_lt (length w) (length w) ≡ false = grind (arith, nat_tests) in ap (λ b. cond b (Some (length w)) None) past)

in_name : (w : List ℕ) → Lacks 61 w → position (λ b. b == 61) w ≡ None
in_name w lacks =
    no_position (λ b. b == 61) w (position_or_len_is (λ b. b == 61) w (length w) 0 (omega arith) (no_sign w lacks) (λ inside. absurd (omega (arith, inside))))

behind_name : (w u : List ℕ) → Lacks 61 w → position (λ b. b == 61) (w ++ 61 ∷ u) ≡ Some (length w)
behind_name w u lacks =
    let long : length (w ++ 61 ∷ u) ≡ length w + suc (length u) = length-append w (61 ∷ u) in
    position_of (λ b. b == 61) (w ++ 61 ∷ u) (length w) (omega (arith, long))
    (position_or_len_is (λ b. b == 61) (w ++ 61 ∷ u) (length w) 0 (omega (arith, long))
    (λ k before. subst (λ b. (b == 61) ≡ false) (sym (get_or_append_left w (61 ∷ u) 0 k before)) (no_sign w lacks k before))
    (λ _. let plus : length w + 0 ≡ length w = omega arith in
    let here : get_or (w ++ 61 ∷ u) (length w) 0 ≡ 61 = subst (λ j. get_or (w ++ 61 ∷ u) j 0 ≡ 61) plus (get_or-append-add w (61 ∷ u) 0 0) in
    ap (λ b. b == 61) here))

pub failed_again : (a : AcceptedView) (f : Failed) → AreDifferent a.protocol.roles → Lacks 61 (name_of a f.role) → IsRole a f.role → MayFit f.count → failed_in a (failed_word a f) ≡ Ok f
failed_again a f differ lacks inside fits = go f.count fits
  where
    go : (o : Option ℕ) → MayFit o → failed_in a (name_of a f.role ++ count_text o) ≡ Ok (record { role = f.role; count = o })
    go None fits =
        ap (failed_in a) (append-nil (name_of a f.role))
        ∙ ap (failed_cut a (name_of a f.role)) (in_name (name_of a f.role) lacks)
        ∙ ap (λ o. failed_if o None) (role_again a f.role differ inside)
    go (Some n) fits =
        let w = name_of a f.role in
        let u = decimal n in
        let front : take (length w) (w ++ 61 ∷ u) ≡ w = take_at w (61 ∷ u) (length w) refl in
        let regroup : (w ++ 61 ∷ []) ++ u ≡ w ++ 61 ∷ u = append_assoc w (61 ∷ []) u in
        let long : length (w ++ 61 ∷ []) ≡ length w + 1 = length-append w (61 ∷ []) in
        let back : drop (length w + 1) (w ++ 61 ∷ u) ≡ u = ap (drop (length w + 1)) (sym regroup) ∙ drop_at (w ++ 61 ∷ []) u (length w + 1) long in
        ap (failed_cut a (w ++ 61 ∷ u)) (behind_name w u lacks)
        ∙ ap₂ (λ x y. failed_if (role_in a x) (Some (number_in y))) front back
        ∙ ap₂ (λ x y. failed_if x (Some y)) (role_again a f.role differ inside) (number_again n fits)

-- ---- lists

or_not : (b c : Bool) → (b || c) ≡ false → (b ≡ false) × (c ≡ false)
or_not true c e = absurd (true≢false e)
or_not false c e = (refl, e)

neither : (b c : Bool) → b ≡ false → c ≡ false → (b || c) ≡ false
neither true c off also = absurd (true≢false off)
neither false c off also = also

others_end : (r : ℕ) (found : List Failed) (f : Failed) → AreOthers r found → f.role ≢ r → AreOthers r (found ++ f ∷ [])
others_end r [] f others other = (other, tt)
others_end r (g ∷ found) f others other = (others.0, others_end r found f others.1 other)

differs : (x y : ℕ) → (x == y) ≡ false → y ≡ x → ⊥
differs x y off same = grind (arith, nat_tests)

once_end : (found : List Failed) (f : Failed) → EachOnce found → names_role f.role found ≡ false → EachOnce (found ++ f ∷ [])
once_end [] f once none = (tt, tt)
once_end (g ∷ found) f once none =
    let o = or_not (g.role == f.role) (names_role f.role found) none in
    (others_end g.role found f once.0 (differs g.role f.role o.0), once_end found f once.1 o.1)

other_at : (r : ℕ) (found : List Failed) (f : Failed) (more : List Failed) → AreOthers r (found ++ f ∷ more) → f.role ≢ r
other_at r [] f more others = others.0
other_at r (g ∷ found) f more others = other_at r found f more others.1

differ_so : (x y : ℕ) → y ≢ x → (x == y) ≡ false
differ_so x y other = grind (arith, nat_tests)

not_named : (found : List Failed) (f : Failed) (more : List Failed) → EachOnce (found ++ f ∷ more) → names_role f.role found ≡ false
not_named [] f more once = refl
not_named (g ∷ found) f more once =
    neither (g.role == f.role) (names_role f.role found) (differ_so g.role f.role (other_at g.role found f more once.0)) (not_named found f more once.1)

-- ---- one more

pub or_wrong_ok : (left : Words) (r : Result Failed Expected) (f : Failed) → or_wrong left r ≡ Ok f → r ≡ Ok f
or_wrong_ok left (Ok g) f is = ap (λ x. Ok x) (ok_is g f is)
or_wrong_ok left (Err e) f is = absurd cc

record OneMore (found : List Failed) (f : Failed) (all : List Failed) : Type 0 where
  pub named : names_role f.role found ≡ false
  pub all_is : found ++ f ∷ [] ≡ all

one_more_ok : (left : Words) (found : List Failed) (f : Failed) (all : List Failed) → one_more left found f ≡ Ok all → OneMore found f all
one_more_ok left found f all is = go (names_role f.role found) refl is
  where
    go : (b : Bool) → names_role f.role found ≡ b → cond b (wrong left expected.Role) (Ok (found ++ f ∷ [])) ≡ Ok all → OneMore found f all
    go true so is = absurd cc
    go false so is = record { named = so; all_is = ok_is (found ++ f ∷ []) all is }

one_more_so : (left : Words) (found : List Failed) (f : Failed) → names_role f.role found ≡ false → one_more left found f ≡ Ok (found ++ f ∷ [])
one_more_so left found f named = rw named refl

-- Not all roles are named yet.
pub room_for : {A : Type 0} (a : AcceptedView) (count : ℕ) (left : Words) (read : Result A Misfit) (x : A) → unless_all a count left read ≡ Ok x → (count < roles_of a) × (read ≡ Ok x)
room_for {A} a count left read x is = go (nat_lt count (roles_of a)) refl is
  where
    go : (b : Bool) → nat_lt count (roles_of a) ≡ b → cond b read (wrong left expected.End) ≡ Ok x → (count < roles_of a) × (read ≡ Ok x)
    go true below is = (grind (arith, nat_tests), is)
    go false all is = absurd cc

pub has_room : {A : Type 0} (a : AcceptedView) (count : ℕ) (left : Words) (read : Result A Misfit) → count < roles_of a → unless_all a count left read ≡ read
has_room {A} a count left read room = let below : nat_lt count (roles_of a) ≡ true = grind (arith, nat_tests) in ap (λ b. cond b read (wrong left expected.End)) below

-- ---- several

abbrev pair : List Failed → Words → Result (List Failed × Words) Misfit
pair found ws = Ok (found, ws)

-- Where the roles stop: at the end, or at the word that ends them.
abbrev pub Stops : Bool → Words → Type 0
Stops stops rest = (rest ≡ []) ⊎ ((stops ≡ true) × ((ws : Words) × (rest ≡ codes "undone" ∷ ws)))

pub record Grew (a : AcceptedView) (stops : Bool) (found : List Failed) (left : Words) (all : List Failed) (rest : Words) : Type 0 where
  pub more : List Failed
  pub all_is : all ≡ found ++ more
  pub words : left ≡ map (failed_word a) more ++ rest
  pub roles : AreRoles a more
  pub once : EachOnce all
  pub few : length all ≤ roles_of a
  pub rest_is : Stops stops rest
  pub none : stops ≡ true → NoneSaysUndone a more

at_once : (a : AcceptedView) (stops : Bool) (found : List Failed) (left : Words) → EachOnce found → length found ≤ roles_of a → Stops stops left → Grew a stops found left found left
at_once a stops found left once few stop =
    record { more = []; all_is = sym (append-nil found); words = refl; roles = tt; once = once; few = few; rest_is = stop; none = λ _. tt }

both_on : (b c : Bool) → (b && c) ≡ true → (b ≡ true) × (c ≡ true)
both_on true true e = (refl, refl)
both_on true false e = absurd (true≢false (sym e))
both_on false c e = absurd (true≢false (sym e))

other_off : (b c : Bool) → (b && c) ≡ false → b ≡ true → c ≡ false
other_off true c e on = e
other_off false c e on = absurd (true≢false (sym on))

module _ (a : AcceptedView) (stops : Bool) (all : List Failed) (rest : Words) where
  abbrev Later : Words → Type 0
  Later ws = (found : List Failed) → EachOnce found → length found ≤ roles_of a → more_at a stops found ws ≡ Ok (all, rest) → Grew a stops found ws all rest

  more_step : (found : List Failed) (w : List ℕ) (ws : Words) → EachOnce found → length found < roles_of a → Later ws → (stops && is_word w (codes "undone")) ≡ false
      → (or_wrong (w ∷ ws) (failed_in a w) >>= λ f. one_more (w ∷ ws) found f >>= λ more. more_at a stops more ws) ≡ pair all rest → Grew a stops found (w ∷ ws) all rest
  more_step found w ws once room later off is =
      let b0 = bind_ok (or_wrong (w ∷ ws) (failed_in a w)) (λ f. one_more (w ∷ ws) found f >>= λ more. more_at a stops more ws) (all, rest) is in
      let f = b0.0 in
      let b1 = bind_ok (one_more (w ∷ ws) found f) (λ more. more_at a stops more ws) (all, rest) b0.2 in
      let t = failed_takes a w f (or_wrong_ok (w ∷ ws) (failed_in a w) f b0.1) in
      let one = one_more_ok (w ∷ ws) found f b1.0 b1.1 in
      let long : length (found ++ f ∷ []) ≡ length found + 1 = length-append found (f ∷ []) in
      let g = later b1.0 (subst EachOnce one.all_is (once_end found f once one.named)) (subst (λ xs. length xs ≤ roles_of a) one.all_is (omega (arith, long, room))) b1.2 in
      record {
        more = f ∷ g.more;
        all_is = g.all_is ∙ ap (λ xs. xs ++ g.more) (sym one.all_is) ∙ append_assoc found (f ∷ []) g.more;
        words = ap₂ (λ x xs. x ∷ xs) t.2 g.words;
        roles = (t.0, t.1, g.roles);
        once = g.once;
        few = g.few;
        rest_is = g.rest_is;
        none = λ on. (λ same. true≢false (sym (ap (λ v. is_word v (codes "undone")) (t.2 ∙ same)) ∙ other_off stops (is_word w (codes "undone")) off on), g.none on);
      }

pub more_takes : (a : AcceptedView) (stops : Bool) (found : List Failed) (left : Words) (all : List Failed) (rest : Words) → EachOnce found → length found ≤ roles_of a
    → more_at a stops found left ≡ Ok (all, rest) → Grew a stops found left all rest
unfolding more_at
more_takes a stops found [] all rest once few is =
    subst (λ (x : List Failed × Words). Grew a stops found [] x.0 x.1) (ok_is (found, []) (all, rest) is) (at_once a stops found [] once few (inl refl))
more_takes a stops found (w ∷ ws) all rest once few is = go (stops && is_word w (codes "undone")) refl is (λ found once few is. more_takes a stops found ws all rest once few is)
  where
    go : (b : Bool) → (stops && is_word w (codes "undone")) ≡ b
        → cond b (pair found (w ∷ ws)) (unless_all a (length found) (w ∷ ws) (or_wrong (w ∷ ws) (failed_in a w) >>= λ f. one_more (w ∷ ws) found f >>= λ more. more_at a stops more ws)) ≡ pair all rest
        → Later a stops all rest ws → Grew a stops found (w ∷ ws) all rest
    go true so is later =
        let both = both_on stops (is_word w (codes "undone")) so in
        let word = same_word w (codes "undone") both.1 in
        subst (λ (x : List Failed × Words). Grew a stops found (w ∷ ws) x.0 x.1) (ok_is (found, w ∷ ws) (all, rest) is)
        (at_once a stops found (w ∷ ws) once few (inr (both.0, (ws, ap (λ v. v ∷ ws) word))))
    go false so is later =
        let room = room_for a (length found) (w ∷ ws) (or_wrong (w ∷ ws) (failed_in a w) >>= λ f. one_more (w ∷ ws) found f >>= λ more. more_at a stops more ws) (all, rest) is in
        more_step a stops all rest found w ws once room.0 later so room.1

stop_so : (a : AcceptedView) (stops : Bool) (found : List Failed) (rest : Words) → Stops stops rest → more_at a stops found rest ≡ Ok (found, rest)
unfolding more_at
stop_so a stops found rest (inl none) = ap (more_at a stops found) none ∙ ap (λ (xs : Words). pair found xs) (sym none)
stop_so a true found rest (inr (on, (ws, is))) = ap (more_at a true found) is ∙ ap (λ (xs : Words). pair found xs) (sym is)
stop_so a false found rest (inr (on, stop)) = absurd (true≢false (sym on))

goes_on : (a : AcceptedView) (stops : Bool) (w : List ℕ) → (stops ≡ true → w ≢ codes "undone") → (stops && is_word w (codes "undone")) ≡ false
goes_on a true w none = ⊎_elim (λ on. absurd (none refl (same_word w (codes "undone") on))) (λ off. off) (cases_Bool (is_word w (codes "undone")))
goes_on a false w none = refl

pub record Known (a : AcceptedView) : Type 0 where
  pub differ : AreDifferent a.protocol.roles
  pub lack : (r : ℕ) → Lacks 61 (name_of a r)

pub more_again : (a : AcceptedView) → Known a → (stops : Bool) (found more : List Failed) (rest : Words) → AreRoles a more → EachOnce (found ++ more) → length (found ++ more) ≤ roles_of a
    → (stops ≡ true → NoneSaysUndone a more) → Stops stops rest → more_at a stops found (map (failed_word a) more ++ rest) ≡ Ok (found ++ more, rest)
unfolding more_at
more_again a known stops found [] rest roles once few none stop =
    stop_so a stops found rest stop ∙ ap (λ (xs : List Failed). pair xs rest) (sym (append-nil found))
more_again a known stops found (f ∷ more) rest roles once few none stop =
    let w = failed_word a f in
    let ws = map (failed_word a) more ++ rest in
    let off = goes_on a stops w (λ on. (none on).0) in
    let read = failed_again a f known.differ (known.lack f.role) roles.0 roles.1 in
    let long : length (found ++ f ∷ more) ≡ length found + suc (length more) = length-append found (f ∷ more) in
    let room : nat_lt (length found) (roles_of a) ≡ true = grind (arith, nat_tests) in
    let one = one_more_so (w ∷ ws) found f (not_named found f more once) in
    let regroup : (found ++ f ∷ []) ++ more ≡ found ++ f ∷ more = append_assoc found (f ∷ []) more in
    let later = more_again a known stops (found ++ f ∷ []) more rest roles.2 (subst EachOnce (sym regroup) once) (subst (λ xs. length xs ≤ roles_of a) (sym regroup) few) (λ on. (none on).1) stop in
    rw (off, room, read, one) (later ∙ ap (λ (xs : List Failed). pair xs rest) regroup)
