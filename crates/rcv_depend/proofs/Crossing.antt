-- An event more on its channel, and on the others.
use Rattle.std.proofs.Common.{◌≡◌, ℕ, ◌<◌, Bool, true, false, ◌==◌, ◌&&◌, not, Option, Some, List, [], ◌∷◌, ◌++◌, refl, ◌∙◌, ap, arith}
use Rattle.std.specs.List.{filter_map, cons_option}
use Rattle.std.proofs.lemmas.Bool.Decides.{nat_tests}
use Rattle.std.proofs.lemmas.List.Elements.{filter_map-append}
use Rattle.rcv_tree.specs.declared.event.Event.{Event}
use Rattle.rcv_tree.specs.declared.event.Dir.TheVariants.{Sent, Got}
use Rattle.rcv_model.specs.Net.{Net}
use Rattle.rcv_model.specs.Run.{is_sent, puts_on, takes_on}
use Rattle.rcv_depend.specs.Logs.{between}

-- one more element that a map takes, or leaves out
pub mapped : {A B : Type 0} (f : A → Option B) (xs : List A) (x : A) (y : B) → f x ≡ Some y → filter_map f (xs ++ x ∷ []) ≡ filter_map f xs ++ y ∷ []
mapped f xs x y e = filter_map-append f xs (x ∷ []) ∙ ap (λ o. filter_map f xs ++ cons_option o []) e

-- a Send on its own channel and on the others
pub sent_here : (net : Net) (a b : ℕ) (e : Event) → e.dir ≡ Sent → e.role ≡ a → net.receiver e.point ≡ b → puts_on net a b e ≡ true
sent_here net a b e d f g =
    let x : (e.role == a) ≡ true = grind (arith, nat_tests) in
    let y : (net.receiver e.point == b) ≡ true = grind (arith, nat_tests) in
    ap (λ v. is_sent v && ((e.role == a) && (net.receiver e.point == b))) d ∙ ap (λ v. v && (net.receiver e.point == b)) x ∙ y

pub sent_else : (net : Net) (a b : ℕ) (e : Event) → ((e.role ≡ a) × (net.receiver e.point ≡ b) → ⊥) → puts_on net a b e ≡ false
sent_else net a b e other = go (e.role == a) (net.receiver e.point == b) refl refl
  where
    step : (d : Bool) → d && false ≡ false
    step true = refl
    step false = refl

    go : (p q : Bool) → (e.role == a) ≡ p → (net.receiver e.point == b) ≡ q → is_sent e.dir && (p && q) ≡ false
    go true true f g = absurd (other (grind (arith, nat_tests), grind (arith, nat_tests)))
    go true false f g = step (is_sent e.dir)
    go false q f g = step (is_sent e.dir)

pub got_here : (net : Net) (a b : ℕ) (e : Event) → e.dir ≡ Got → net.sender e.point ≡ a → e.role ≡ b → takes_on net a b e ≡ true
got_here net a b e d f g =
    let x : (e.role == b) ≡ true = grind (arith, nat_tests) in
    let y : (net.sender e.point == a) ≡ true = grind (arith, nat_tests) in
    ap (λ v. not (is_sent v) && ((e.role == b) && (net.sender e.point == a))) d ∙ ap (λ v. v && (net.sender e.point == a)) x ∙ y

pub got_else : (net : Net) (a b : ℕ) (e : Event) → ((net.sender e.point ≡ a) × (e.role ≡ b) → ⊥) → takes_on net a b e ≡ false
got_else net a b e other = go (e.role == b) (net.sender e.point == a) refl refl
  where
    step : (d : Bool) → not d && false ≡ false
    step true = refl
    step false = refl

    go : (p q : Bool) → (e.role == b) ≡ p → (net.sender e.point == a) ≡ q → not (is_sent e.dir) && (p && q) ≡ false
    go true true f g = absurd (other (grind (arith, nat_tests), grind (arith, nat_tests)))
    go true false f g = step (is_sent e.dir)
    go false q f g = step (is_sent e.dir)

pub no_put : (net : Net) (a b : ℕ) (e : Event) → e.dir ≡ Got → puts_on net a b e ≡ false
no_put net a b e d = ap (λ v. is_sent v && ((e.role == a) && (net.receiver e.point == b))) d

-- Two channels have two places.
pub apart : (a b c d : ℕ) → a < 8 → b < 8 → c < 8 → d < 8 → ((a ≡ c) × (b ≡ d) → ⊥) → between c d ≡ between a b → ⊥
apart a b c d la lb lc ld other e = other (let x : a ≡ c = omega arith in let y : b ≡ d = omega arith in (x, y))
