-- Where lines end.
use Rattle.std.proofs.Common.{◌≡◌, ◌∙◌, ◌+◌, ◌<◌, ◌≤◌, ◌==◌, ℕ, zero, suc, false, List, [], ◌∷◌, ◌++◌, take, drop, length, get_or, Option, Some, None, refl, sym, ap, arith, append_assoc, take-append-drop, position}
use Rattle.std.specs.Prelude.{IfNone, IfSome}
use Rattle.std.specs.List.{position_or_len}
use Rattle.std.proofs.lemmas.Bool.Decides.{nat_tests}
use Rattle.std.proofs.lemmas.List.{drop_more}
use Rattle.std.proofs.lemmas.List.Quantifiers.{position-Some}
use Rattle.std.proofs.lemmas.List.Sums.{fails_before_first}
use Rattle.std.proofs.lemmas.Grind.{common_steps}
use Rattle.rcv_pipe.specs.Feeds.{HasNoFeed, IsFeed, ended}

is_no_feed : (b : ℕ) → (b == 10) ≡ false → b ≡ 10 → ⊥
is_no_feed b off is = grind (arith, nat_tests)

front_so : (bytes : List ℕ) (i : ℕ) → ((k : ℕ) → k < i → (get_or bytes k 0 == 10) ≡ false) → HasNoFeed (take i bytes)
front_so bytes zero none = tt
front_so [] (suc i) none = tt
front_so (b ∷ bytes) (suc i) none = (is_no_feed b (none 0 (omega arith)), front_so bytes i (λ k before. none (suc k) (omega (arith, before))))

all_so : (bytes : List ℕ) → ((k : ℕ) → k < length bytes → (get_or bytes k 0 == 10) ≡ false) → HasNoFeed bytes
all_so [] none = tt
all_so (b ∷ bytes) none = (is_no_feed b (none 0 (omega arith)), all_so bytes (λ k inside. none (suc k) (omega (arith, inside))))

-- What a search says.
pub feed_some : (bytes : List ℕ) (i : ℕ) → position (λ b. b == 10) bytes ≡ Some i → IsFeed bytes i
feed_some bytes i at =
    let found = position-Some (λ b. b == 10) bytes i 0 at in
    let test = found.1 in
    let here : get_or bytes i 0 ≡ 10 = grind (arith, nat_tests) in
    let behind : drop i bytes ≡ 10 ∷ drop (i + 1) bytes = drop_more bytes i 0 found.0 ∙ ap (λ b. b ∷ drop (i + 1) bytes) here in
    record {
      inside = found.0;
      line = front_so bytes i found.2;
      whole = sym (take-append-drop i bytes) ∙ ap (λ xs. take i bytes ++ xs) behind ∙ sym (append_assoc (take i bytes) (10 ∷ []) (drop (i + 1) bytes));
    }

pub feed_none : (bytes : List ℕ) → position (λ b. b == 10) bytes ≡ None → HasNoFeed bytes
feed_none bytes at =
    let far : length bytes ≤ position_or_len (λ b. b == 10) bytes = grind (arith, common_steps) in
    all_so bytes (λ k inside. fails_before_first (λ b. b == 10) bytes k 0 (omega (arith, inside, far)))

-- Bytes one behind the other.
pub both_lack : (xs ys : List ℕ) → HasNoFeed xs → HasNoFeed ys → HasNoFeed (xs ++ ys)
both_lack [] ys front back = back
both_lack (x ∷ xs) ys front back = (front.0, both_lack xs ys front.1 back)

-- A line's end is a feed.
pub ended_has : (xs more : List ℕ) → HasNoFeed (ended xs ++ more) → ⊥
ended_has [] more lack = lack.0 refl
ended_has (x ∷ xs) more lack = ended_has xs more lack.1

-- Bytes begin with one line.
pub one_line : (xs ys more rest : List ℕ) → HasNoFeed xs → HasNoFeed ys → ended xs ++ more ≡ ended ys ++ rest → (xs ≡ ys) × (more ≡ rest)
one_line [] [] more rest lack other is = (refl, cc)
one_line [] (y ∷ ys) more rest lack other is = absurd (other.0 cc)
one_line (x ∷ xs) [] more rest lack other is = absurd (lack.0 cc)
one_line (x ∷ xs) (y ∷ ys) more rest lack other is =
    let later = one_line xs ys more rest lack.1 other.1 cc in
    let same : x ≡ y = cc in
    (λ i. same i ∷ later.0 i, later.1)

-- A line that goes on is no shorter than what lacks a feed before it.
pub line_longer : (xs ys more rest : List ℕ) → HasNoFeed xs → xs ++ more ≡ ended ys ++ rest → length xs ≤ length ys
line_longer [] ys more rest lack is = omega arith
line_longer (x ∷ xs) [] more rest lack is = absurd (lack.0 cc)
line_longer (x ∷ xs) (y ∷ ys) more rest lack is = let later = line_longer xs ys more rest lack.1 cc in omega (arith, later)

pub some_feed : (bytes : List ℕ) (o : Option ℕ) → o ≡ position (λ b. b == 10) bytes → IfSome o (IsFeed bytes)
some_feed bytes None is = tt
some_feed bytes (Some i) is = feed_some bytes i (sym is)

pub no_feed : (bytes : List ℕ) (o : Option ℕ) → o ≡ position (λ b. b == 10) bytes → IfNone o (HasNoFeed bytes)
no_feed bytes None is = feed_none bytes (sym is)
no_feed bytes (Some i) is = tt
