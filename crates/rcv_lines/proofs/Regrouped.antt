-- The texts of lines as fields between spaces.
use Rattle.std.proofs.Common.{◌≡◌, ◌∙◌, ℕ, List, [], ◌∷◌, ◌++◌, flat_map, map, refl, sym, ap, append_assoc, append-nil}
use Rattle.std.proofs.lemmas.Grind.{flat_map-append}
use Rattle.rcv_lines.specs.Cutting.{joined, spaced}

event_regroups : (k s n p l v a t more : List ℕ)
    → ((k ++ s) ++ (n ++ s ++ p ++ s ++ l ++ s ++ v ++ a ++ t)) ++ more ≡ (k ++ ((s ++ n) ++ ((s ++ p) ++ ((s ++ l) ++ ((s ++ v) ++ ((a ++ t) ++ [])))))) ++ more
event_regroups k s n p l v a t more = simp (append_assoc, append-nil)

recv_regroups : (k s n p l v a t b z more : List ℕ)
    → ((k ++ s) ++ (n ++ s ++ p ++ s ++ l ++ s ++ v ++ a ++ t)) ++ b ++ z ++ more ≡ (k ++ ((s ++ n) ++ ((s ++ p) ++ ((s ++ l) ++ ((s ++ v) ++ ((a ++ t) ++ ((b ++ z) ++ []))))))) ++ more
recv_regroups k s n p l v a t b z more = simp (append_assoc, append-nil)

two_regroup : (k s n more : List ℕ) → (k ++ s) ++ n ++ more ≡ (k ++ ((s ++ n) ++ [])) ++ more
two_regroup k s n more = simp (append_assoc, append-nil)

recovery_regroups : (k s n u d c cuts end : List ℕ)
    → (k ++ s) ++ n ++ ((s ++ u) ++ s) ++ d ++ c ++ cuts ++ end ≡ (k ++ ((s ++ n) ++ ((s ++ u) ++ ((s ++ (d ++ c)) ++ cuts)))) ++ end
recovery_regroups k s n u d c cuts end = simp (append_assoc, append-nil)

role_regroups : (k s n u d r w t more : List ℕ)
    → (k ++ s) ++ n ++ ((s ++ u) ++ s) ++ d ++ ((s ++ r) ++ s) ++ w ++ s ++ t ++ more ≡ (k ++ ((s ++ n) ++ ((s ++ u) ++ ((s ++ d) ++ ((s ++ r) ++ ((s ++ w) ++ ((s ++ t) ++ []))))))) ++ more
role_regroups k s n u d r w t more = simp (append_assoc, append-nil)

-- An event, and what stands behind it.
pub event_joins : (k n p l v s more : List ℕ)
    → ((k ++ 32 ∷ []) ++ (n ++ 32 ∷ [] ++ p ++ 32 ∷ [] ++ l ++ 32 ∷ [] ++ v ++ 32 ∷ 64 ∷ [] ++ s)) ++ more ≡ joined (k ∷ n ∷ p ∷ l ∷ v ∷ (64 ∷ s) ∷ []) ++ more
event_joins k n p l v s more = event_regroups k (32 ∷ []) n p l v (32 ∷ 64 ∷ []) s more

pub recv_joins : (k n p l v s t more : List ℕ)
    → ((k ++ 32 ∷ []) ++ (n ++ 32 ∷ [] ++ p ++ 32 ∷ [] ++ l ++ 32 ∷ [] ++ v ++ 32 ∷ 64 ∷ [] ++ s)) ++ 32 ∷ 60 ∷ [] ++ t ++ more ≡ joined (k ∷ n ∷ p ∷ l ∷ v ∷ (64 ∷ s) ∷ (60 ∷ t) ∷ []) ++ more
recv_joins k n p l v s t more = recv_regroups k (32 ∷ []) n p l v (32 ∷ 64 ∷ []) s (32 ∷ 60 ∷ []) t more

pub two_join : (k n more : List ℕ) → (k ++ 32 ∷ []) ++ n ++ more ≡ joined (k ∷ n ∷ []) ++ more
two_join k n more = two_regroup k (32 ∷ []) n more

pub recovery_joins : (k n u d cuts : List ℕ) (more : List (List ℕ)) (end : List ℕ) → cuts ≡ flat_map spaced more
    → (k ++ 32 ∷ []) ++ n ++ ((32 ∷ u) ++ 32 ∷ []) ++ d ++ 58 ∷ [] ++ cuts ++ end ≡ joined (k ∷ n ∷ u ∷ (d ++ 58 ∷ []) ∷ more) ++ end
recovery_joins k n u d cuts more end are =
    recovery_regroups k (32 ∷ []) n u d (58 ∷ []) cuts end ∙ ap (λ xs. (k ++ ((32 ∷ n) ++ ((32 ∷ u) ++ ((32 ∷ (d ++ 58 ∷ [])) ++ xs)))) ++ end) are

pub role_joins : (k n u d r w t more : List ℕ)
    → (k ++ 32 ∷ []) ++ n ++ ((32 ∷ u) ++ 32 ∷ []) ++ d ++ ((32 ∷ r) ++ 32 ∷ []) ++ w ++ 32 ∷ [] ++ t ++ more ≡ joined (k ∷ n ∷ u ∷ d ∷ r ∷ w ∷ t ∷ []) ++ more
role_joins k n u d r w t more = role_regroups k (32 ∷ []) n u d r w t more

-- What is said of each, in fields and as a text.
pub said_spaced : {X : Type 0} (texts : X → List ℕ) (fields : X → List (List ℕ)) → ((x : X) → texts x ≡ flat_map spaced (fields x))
    → (xs : List X) → flat_map texts xs ≡ flat_map spaced (flat_map fields xs)
said_spaced texts fields same [] = refl
said_spaced texts fields same (x ∷ xs) =
    ap (λ t. t ++ flat_map texts xs) (same x) ∙ ap (λ t. flat_map spaced (fields x) ++ t) (said_spaced texts fields same xs) ∙ sym (flat_map-append spaced (fields x) (flat_map fields xs))

pub named_spaced : {X : Type 0} (name : X → List ℕ) → (xs : List X) → flat_map (λ x. 32 ∷ [] ++ name x) xs ≡ flat_map spaced (map name xs)
named_spaced name [] = refl
named_spaced name (x ∷ xs) = ap (λ t. 32 ∷ name x ++ t) (named_spaced name xs)
