-- An expansion has as many points as were counted for it.
use Rattle.std.proofs.Common.{◌≡◌, ℕ, ◌+◌, ◌≤◌, Bool, true, false, cond, Some, None, List, [], ◌∷◌, ◌++◌, length, refl, sym, ap, subst, ◌∙◌, inl, inr, length-append, arith}
use Rattle.std.specs.Prelude.{slice_get, nat_lt}
use Rattle.std.proofs.lemmas.Bool.Decides.{nat_tests}
use Rattle.rcv_model.specs.Text.{Body, End, Bodies}
use Rattle.rcv_model.specs.Places.{singles, singles_of}
use Rattle.rcv_module.specs.Parts.{Part, first_from}
use Rattle.rcv_module.specs.Sizes as sizes
use Rattle.rcv_module.specs.Sizes.{Size, Passes, AllPass, nothing, heading, opened, joined, blamed, AreMarks, first_many}
use Rattle.rcv_module.specs.Refusing.{IsSmall}
use Rattle.rcv_module.specs.Expansion as expansion
use Rattle.rcv_module.specs.Expansion.{Stands, themselves, called_with, Expands, AllExpand}
use Rattle.rcv_module.proofs.Sites.{IsAmong}
use Rattle.rcv_module.proofs.Walking.{named_once}

mutual
  points_counted : {parts : List Part} {st : Stands} {b next w : Body} {d : ℕ} {s t : Size} {ends : List Size} → Expands parts st b next w → Passes parts d s b ends t
      → length (singles w) + s.points ≡ t.points + length (singles next)
  points_counted {next = next} {s = s} expansion.at_end sizes.at_end = omega arith
  points_counted (expansion.message q e) (sizes.message p) = let x = points_counted e p in omega (arith, x)
  points_counted (expansion.choice {whole = whole} {cs = cs} es e) (sizes.choice a p) =
      let x = all_counted es a in
      let y = points_counted e p in
      let z = length-append (singles_of cs) (singles whole) in omega (arith, x, y, z)
  points_counted (expansion.loop {whole = whole} {inner = inner} e f) (sizes.loop a p) =
      let x = points_counted e a in
      let y = points_counted f p in
      let z = length-append (singles inner) (singles whole) in omega (arith, x, y, z)
  points_counted (expansion.again e) (sizes.again p) = points_counted e p
  points_counted (expansion.beside {whole = whole} {cs = cs} es e) (sizes.beside a p) =
      let x = all_counted es a in
      let y = points_counted e p in
      let z = length-append (singles_of cs) (singles whole) in omega (arith, x, y, z)
  points_counted {parts} {st} (expansion.call {behind = behind} {whole = whole} {name = name} {roles = roles} p i e f) (sizes.call q j a r) =
      let e' : Expands parts (called_with st roles) q.body behind whole = subst (λ (x : Part). Expands parts (called_with st roles) x.body behind whole) (named_once parts name p q i j) e in
      let x = points_counted e' a in
      let y = points_counted f r in omega (arith, x, y)

  all_counted : {parts : List Part} {st : Stands} {bs cs : Bodies} {d : ℕ} {s t : Size} {ends : List Size} → AllExpand parts st bs cs → AllPass parts d s bs ends t
      → length (singles_of cs) + s.points ≡ t.points
  all_counted expansion.no_more sizes.no_more = omega arith
  all_counted (expansion.one_more {c = c} {cs = cs} e es) (sizes.one_more a p) =
      let x = points_counted e a in
      let y = all_counted es p in
      let z = length-append (singles c) (singles_of cs) in omega (arith, x, y, z)

-- ---- a text without calls has its own points

no_left : {A : Type 0} (xs ys : List A) → xs ++ ys ≡ [] → xs ≡ []
no_left [] ys e = refl
no_left (x ∷ xs) ys e = absurd (cc)

no_right : {A : Type 0} (xs ys : List A) → xs ++ ys ≡ [] → ys ≡ []
no_right [] ys e = e
no_right (x ∷ xs) ys e = absurd (cc)

mutual
  own_points : {parts : List Part} {d : ℕ} {s t : Size} {b : Body} {ends : List Size} → ends ≡ [] → Passes parts d s b ends t → t.points ≡ s.points + length (singles b)
  own_points n sizes.at_end = omega arith
  own_points n (sizes.message p) = let x = own_points n p in omega (arith, x)
  own_points n (sizes.choice {inner = inner} {ends = ends} {bs = bs} {rest = rest} a p) =
      let x = all_own_points (no_left inner ends n) a in
      let y = own_points (no_right inner ends n) p in
      let z = length-append (singles_of bs) (singles rest) in omega (arith, x, y, z)
  own_points n (sizes.loop {inner = inner} {ends = ends} {body = body} {rest = rest} a p) =
      let x = own_points (no_left inner ends n) a in
      let y = own_points (no_right inner ends n) p in
      let z = length-append (singles body) (singles rest) in omega (arith, x, y, z)
  own_points n (sizes.again p) = own_points n p
  own_points n (sizes.beside {inner = inner} {ends = ends} {bs = bs} {rest = rest} a p) =
      let x = all_own_points (no_left inner ends n) a in
      let y = own_points (no_right inner ends n) p in
      let z = length-append (singles_of bs) (singles rest) in omega (arith, x, y, z)
  own_points n (sizes.call q j a r) = absurd (cc)

  all_own_points : {parts : List Part} {d : ℕ} {s t : Size} {bs : Bodies} {ends : List Size} → ends ≡ [] → AllPass parts d s bs ends t → t.points ≡ s.points + length (singles_of bs)
  all_own_points n sizes.no_more = omega arith
  all_own_points n (sizes.one_more {inner = inner} {ends = ends} {b = b} {bs = bs} a p) =
      let x = own_points (no_left inner ends n) a in
      let y = all_own_points (no_right inner ends n) p in
      let z = length-append (singles b) (singles_of bs) in omega (arith, x, y, z)

-- ---- marks

pub never_first : {A : Type 0} (holds : A → Bool) (i : ℕ) (xs : List A) (x : A) → first_from holds i xs ≡ None → IsAmong x xs → holds x ≡ false
never_first holds i [] x e a = absurd a
never_first holds i (y ∷ ys) x e a = go (holds y) refl e a (λ f b. never_first holds (i + 1) ys x f b)
  where
    go : (t : Bool) → holds y ≡ t → cond t (Some i) (first_from holds (i + 1) ys) ≡ None → IsAmong x (y ∷ ys) → (first_from holds (i + 1) ys ≡ None → IsAmong x ys → holds x ≡ false) → holds x ≡ false
    go true h e a k = absurd (cc)
    go false h e (inl s) k = ap holds s ∙ h
    go false h e (inr b) k = k e b

blames_whole : (s : Size) (ends : List Size) (whole : Size) → IsAmong whole (blamed (s ∷ ends) whole)
blames_whole s [] whole = inl refl
blames_whole s (r ∷ ends) whole = inr (blames_whole r ends whole)

-- A small module's expansion has at most 256 points, where its first protocol has.
pub few_points : (parts : List Part) (main : Part) (w : Body) → slice_get parts 0 ≡ Some main → length (singles main.body) ≤ 256 → IsSmall parts → Expands parts themselves main.body End w → length (singles w) ≤ 256
few_points parts main w first few small e =
    let marks = small.1 in
    let same : Some marks.main ≡ Some main = sym marks.first ∙ first in
    let one : marks.main ≡ main = cc in
    let p : Passes parts 1 heading main.body marks.ends marks.whole = subst (λ (x : Part). Passes parts 1 heading x.body marks.ends marks.whole) one marks.passes in
    let counted : length (singles w) + 0 ≡ marks.whole.points + 0 = points_counted e p in
    go marks.ends refl p counted
  where
    go : (ends : List Size) → small.1.ends ≡ ends → Passes parts 1 heading main.body small.1.ends small.1.whole → length (singles w) + 0 ≡ small.1.whole.points + 0 → length (singles w) ≤ 256
    go [] none p counted = let own = own_points none p in omega (arith, own, counted, few)
    go (s ∷ ends) some p counted =
        let none : first_many (blamed (s ∷ ends) small.1.whole) ≡ None = ap (λ l. first_many (blamed l small.1.whole)) (sym some) ∙ ap first_many (sym small.1.blames) ∙ small.3 in
        let fits : nat_lt 256 small.1.whole.points ≡ false = never_first (λ (z : Size). nat_lt 256 z.points) 0 (blamed (s ∷ ends) small.1.whole) small.1.whole none (blames_whole s ends small.1.whole) in
        let le : small.1.whole.points ≤ 256 = grind (arith, nat_tests) in
        omega (arith, counted, le)
