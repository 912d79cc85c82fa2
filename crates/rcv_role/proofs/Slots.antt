-- Where ends stand, and what lists of events and messages tell of them.
use Prim.Native.Nat.{zero, suc}
use Rattle.std.proofs.Common.{◌≡◌, ℕ, ◌+◌, ◌<◌, ◌≤◌, Bool, true, false, Option, Some, None, List, [], ◌∷◌, ◌++◌, length, take, refl, ◌∙◌, ap, cond, arith}
use Rattle.std.specs.Prelude.{nat_lt, slice_get}
use Rattle.std.specs.List.{filter_map, cons_option}
use Rattle.std.proofs.lemmas.Bool.Decides.{nat_tests}
use Rattle.std.proofs.lemmas.List.Elements.{filter_map-append}
use Rattle.rcv_tree.specs.declared.event.Event.{Event}
use Rattle.rcv_tree.specs.declared.event.Dir.TheVariants.{Sent, Got}
use Rattle.rcv_tree.specs.Events.{message_sent}
use Rattle.rcv_model.specs.Net.{Net}
use Rattle.rcv_model.specs.Run.{is_sent, puts_on, takes_on, put_by, put}
use Rattle.rcv_model.proofs.Keeping.{is_recv}
use Rattle.rcv_role.specs.Ends.{slot}

-- slots of two roles differ
pub slot_apart : (r q t : ℕ) → (q ≡ r → ⊥) → (t ≡ r → ⊥) → (q ≡ t → ⊥) → slot r q ≡ slot r t → ⊥
slot_apart r q t n m other e = go (nat_lt q r) (nat_lt t r) refl refl
  where
    go : (a b : Bool) → nat_lt q r ≡ a → nat_lt t r ≡ b → ⊥
    go a b f g = grind (arith, nat_tests)

-- and lie among the ends
pub slot_within : (r t n at : ℕ) → r < n + 1 → t < n + 1 → (t ≡ r → ⊥) → at ≡ slot r t → at < n
slot_within r t n at lr lt m f = grind (arith, nat_tests)

-- what a filter of events leaves isn't longer
pub fewer : {A B : Type 0} (f : A → Option B) (xs : List A) → length (filter_map f xs) ≤ length xs
fewer f [] = omega arith
fewer f (x ∷ xs) = go (f x) (fewer f xs)
  where
    go : (o : _) → length (filter_map f xs) ≤ length xs → length (cons_option o (filter_map f xs)) ≤ length (x ∷ xs)
    go None le = omega (arith, le)
    go (Some y) le = omega (arith, le)

pub put_some : (net : Net) (s r : ℕ) (h : List Event) (e : Event) → puts_on net s r e ≡ true → put net s r (h ++ e ∷ []) ≡ put net s r h ++ message_sent e ∷ []
put_some net s r h e t = filter_map-append (put_by net s r) h (e ∷ []) ∙ ap (λ b. put net s r h ++ cons_option (cond b (Some (message_sent e)) None) []) t

pub own_puts : (net : Net) (r q : ℕ) (e : Event) → e.dir ≡ Sent → e.role ≡ r → net.receiver e.point ≡ q → puts_on net r q e ≡ true
own_puts net r q e d f g = let a = ap is_sent d in grind (arith, nat_tests)

pub else_puts : (net : Net) (r q : ℕ) (e : Event) → (net.receiver e.point ≡ q → ⊥) → puts_on net r q e ≡ false
else_puts net r q e n = go (puts_on net r q e) refl
  where
    go : (b : Bool) → puts_on net r q e ≡ b → b ≡ false
    go true f = absurd (n (grind (arith, nat_tests)))
    go false f = refl

pub recv_puts : (net : Net) (r q : ℕ) (e : Event) → e.dir ≡ Got → puts_on net r q e ≡ false
recv_puts net r q e d = let a = ap is_sent d in grind (arith, nat_tests)

pub else_takes : (net : Net) (t r : ℕ) (e : Event) → (net.sender e.point ≡ t → ⊥) → takes_on net t r e ≡ false
else_takes net t r e n = go (takes_on net t r e) refl
  where
    go : (b : Bool) → takes_on net t r e ≡ b → b ≡ false
    go true f = absurd (n (is_recv net t r e f).2)
    go false f = refl

pub take_more : {A : Type 0} (xs : List A) (k : ℕ) (x : A) → slice_get xs k ≡ Some x → take (suc k) xs ≡ take k xs ++ x ∷ []
take_more [] k x e = absurd (cc)
take_more (y ∷ xs) zero x e = let f : y ≡ x = cc in ap (λ z. z ∷ []) f
take_more (y ∷ xs) (suc k) x e = ap (λ l. y ∷ l) (take_more xs k x e)

pub one_more : (k : ℕ) → k + 1 ≡ suc k
one_more k = omega arith

pub taken_length : {A : Type 0} (xs : List A) (k : ℕ) → k ≡ length (take k xs) → k ≤ length xs
taken_length xs zero e = omega arith
taken_length [] (suc k) e = absurd (omega (arith, e))
taken_length (x ∷ xs) (suc k) e = let le = taken_length xs k (omega (arith, e)) in omega (arith, le)
