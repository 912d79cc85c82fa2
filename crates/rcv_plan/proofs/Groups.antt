-- A set that takes in the roles of a list, one after another.
use Rattle.std.proofs.Common.{◌≡◌, ℕ, ◌+◌, ◌<◌, ◌≤◌, Bool, true, false, List, ◌∷◌, length, drop, refl, sym, ap, ◌∙◌}
use Rattle.std.specs.Prelude.{◌==◌, ◌||◌, slice_index_or}
use Rattle.std.proofs.lemmas.List.{at_drop_more, at_drop_all}
use Rattle.rcv_tree.specs.Bits.{has_bit, is_listed}

-- Those of the set, and those still to be taken in, are the role and these members.
abbrev pub Gathers : ℕ → List ℕ → ℕ → List ℕ → Type 0
Gathers role members set left = (q : ℕ) → q < 8 → (has_bit set q || is_listed left q) ≡ is_listed (role ∷ members) q

pub begun : (role set : ℕ) (members : List ℕ) → ((q : ℕ) → q < 8 → has_bit set q ≡ (role == q)) → Gathers role members set members
begun role set members e q l = ap (λ b. b || is_listed members q) (e q l)

either : (a b c : Bool) → ((a || b) || c) ≡ (a || (b || c))
either true b c = refl
either false b c = refl

pub one_more : (role set new i m : ℕ) (members : List ℕ) → i < length members → m ≡ slice_index_or members i m → Gathers role members set (drop i members)
    → ((q : ℕ) → q < 8 → has_bit new q ≡ (has_bit set q || m == q)) → Gathers role members new (drop (i + 1) members)
one_more role set new i m members l is so_far e q b =
    let next : is_listed (drop i members) q ≡ (slice_index_or members i m == q || is_listed (drop (i + 1) members) q) = at_drop_more (λ xs. is_listed xs q) members i m l in
    ap (λ x. x || is_listed (drop (i + 1) members) q) (e q b)
    ∙ either (has_bit set q) (m == q) (is_listed (drop (i + 1) members) q)
    ∙ ap (λ x. has_bit set q || (x == q || is_listed (drop (i + 1) members) q)) is
    ∙ sym (ap (λ x. has_bit set q || x) next)
    ∙ so_far q b

or_none : (b : Bool) → (b || false) ≡ b
or_none true = refl
or_none false = refl

pub gathered : (role set i : ℕ) (members : List ℕ) → length members ≤ i → Gathers role members set (drop i members) → (q : ℕ) → q < 8 → has_bit set q ≡ is_listed (role ∷ members) q
gathered role set i members l so_far q b = sym (ap (λ x. has_bit set q || x) (at_drop_all (λ xs. is_listed xs q) members i l) ∙ or_none (has_bit set q)) ∙ so_far q b
