-- A text that goes on number by number.
use Rattle.std.proofs.Common.{◌≡◌, ℕ, ◌+◌, List, [], ◌∷◌, ◌++◌, flat_map, sym, ◌∙◌, ap, append_assoc}
use Rattle.std.specs.List.{range_with_len}
use Rattle.std.proofs.lemmas.List.{map-id, flat_map_more}
use Rattle.std.proofs.lemmas.List.FromFn.{map-range_with_len_more}

range_more : (a n j : ℕ) → a + n ≡ j → range_with_len a (n + 1) ≡ range_with_len a n ++ j ∷ []
range_more a n j e = sym (map-id (range_with_len a (n + 1))) ∙ map-range_with_len_more (λ (p : ℕ). p) a n j e ∙ ap (λ r. r ++ j ∷ []) (map-id (range_with_len a n))

pub goes_on : (f : ℕ → List ℕ) (a n j : ℕ) (start before after : List ℕ) → a + n ≡ j → before ≡ start ++ flat_map f (range_with_len a n) → after ≡ before ++ f j → after ≡ start ++ flat_map f (range_with_len a (n + 1))
goes_on f a n j start before after e so more =
    more ∙ ap (λ t. t ++ f j) so ∙ flat_map_more f start (range_with_len a n) j ∙ ap (λ r. start ++ flat_map f r) (sym (range_more a n j e))

-- a text that goes on piece by piece
pub three : (s t u v a b c : List ℕ) → t ≡ s ++ a → u ≡ t ++ b → v ≡ u ++ c → v ≡ s ++ (a ++ b ++ c)
three s t u v a b c one two last =
    let ab : u ≡ s ++ (a ++ b) = two ∙ ap (λ l. l ++ b) one ∙ append_assoc s a b in
    last ∙ ap (λ l. l ++ c) ab ∙ append_assoc s (a ++ b) c

pub four : (s t u v w a b c d : List ℕ) → t ≡ s ++ a → u ≡ t ++ b → v ≡ u ++ c → w ≡ v ++ d → w ≡ s ++ (a ++ b ++ c ++ d)
four s t u v w a b c d one two more last =
    last ∙ ap (λ l. l ++ d) (three s t u v a b c one two more) ∙ append_assoc s (a ++ b ++ c) d

pub five : (s t u v w x a b c d e : List ℕ) → t ≡ s ++ a → u ≡ t ++ b → v ≡ u ++ c → w ≡ v ++ d → x ≡ w ++ e → x ≡ s ++ (a ++ b ++ c ++ d ++ e)
five s t u v w x a b c d e one two three four last =
    let ab : u ≡ s ++ (a ++ b) = two ∙ ap (λ l. l ++ b) one ∙ append_assoc s a b in
    let abc : v ≡ s ++ (a ++ b ++ c) = three ∙ ap (λ l. l ++ c) ab ∙ append_assoc s (a ++ b) c in
    let abcd : w ≡ s ++ (a ++ b ++ c ++ d) = four ∙ ap (λ l. l ++ d) abc ∙ append_assoc s (a ++ b ++ c) d in
    last ∙ ap (λ l. l ++ e) abcd ∙ append_assoc s (a ++ b ++ c ++ d) e

pub six : (s t u v w x y a b c d e f : List ℕ) → t ≡ s ++ a → u ≡ t ++ b → v ≡ u ++ c → w ≡ v ++ d → x ≡ w ++ e → y ≡ x ++ f
    → y ≡ s ++ (a ++ b ++ c ++ d ++ e ++ f)
six s t u v w x y a b c d e f one two three four more last =
    last ∙ ap (λ l. l ++ f) (five s t u v w x a b c d e one two three four more) ∙ append_assoc s (a ++ b ++ c ++ d ++ e) f
