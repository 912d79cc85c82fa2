-- Fields are the cuts of their text.
use Rattle.std.proofs.Common.{◌≡◌, ◌∙◌, ℕ, Bool, true, false, List, [], ◌∷◌, ◌++◌, flat_map, refl, sym, ap, append_assoc, append-nil, arith, nat_eq, ne_eqb}
use Rattle.std.proofs.lemmas.Bool.Decides.{nat_tests}
use Rattle.rcv_lines.specs.Cutting.{fields_from, fields_of, joined, spaced, Lacks}
use Rattle.rcv_lines.proofs.Cuts.{at_a_space, at_another}
use Rattle.rcv_lines.proofs.Lacking.{AllLack}

one_by_one : (begun field : List ℕ) (fields : List (List ℕ)) → Lacks 32 field → AllLack 32 fields
    → fields_from begun (field ++ flat_map spaced fields) ≡ (begun ++ field) ∷ fields
one_by_one begun [] [] lacks all = ap (λ f. f ∷ []) (sym (append-nil begun))
one_by_one begun [] (next ∷ fields) lacks all =
    at_a_space begun (next ++ flat_map spaced fields) 32 refl
    ∙ ap (λ xs. begun ∷ xs) (one_by_one [] next fields all.0 all.1)
    ∙ ap (λ f. f ∷ next ∷ fields) (sym (append-nil begun))
one_by_one begun (b ∷ field) fields lacks all =
    at_another begun (field ++ flat_map spaced fields) b (ne_eqb b 32 lacks.0)
    ∙ one_by_one (begun ++ b ∷ []) field fields lacks.1 all
    ∙ ap (λ f. f ∷ fields) (append_assoc begun (b ∷ []) field)

-- Fields with no spaces in them are read from their text.
pub cut_again : (field : List ℕ) (fields : List (List ℕ)) → AllLack 32 (field ∷ fields) → fields_of (joined (field ∷ fields)) ≡ field ∷ fields
cut_again field fields all = one_by_one [] field fields all.0 all.1

record Fields (begun text : List ℕ) : Type 0 where
  pub first : List ℕ
  pub others : List (List ℕ)
  pub are : fields_from begun text ≡ first ∷ others
  pub whole : joined (first ∷ others) ≡ begun ++ text

fields : (begun text : List ℕ) → Fields begun text
fields begun [] = record { first = begun; others = []; are = refl; whole = refl }
fields begun (b ∷ text) = go (nat_eq b 32) refl (fields [] text) (fields (begun ++ b ∷ []) text)
  where
    go : (t : Bool) → nat_eq b 32 ≡ t → Fields [] text → Fields (begun ++ b ∷ []) text → Fields begun (b ∷ text)
    go true is new old = let space : 32 ≡ b = grind (arith, nat_tests) in record {
      first = begun;
      others = new.first ∷ new.others;
      are = at_a_space begun text b is ∙ ap (λ xs. begun ∷ xs) new.are;
      whole = ap (λ xs. begun ++ 32 ∷ xs) new.whole ∙ ap (λ n. begun ++ n ∷ text) space;
    }
    go false is new old = record {
      first = old.first;
      others = old.others;
      are = at_another begun text b is ∙ old.are;
      whole = old.whole ∙ append_assoc begun (b ∷ []) text;
    }

-- The fields of a text have it as their text.
pub join_again : (text : List ℕ) → joined (fields_of text) ≡ text
join_again text = ap joined (fields [] text).are ∙ (fields [] text).whole

pub cut_all : (fields : List (List ℕ)) → (fields ≡ [] → ⊥) → AllLack 32 fields → fields_of (joined fields) ≡ fields
cut_all [] some all = absurd (some refl)
cut_all (field ∷ fields) some all = cut_again field fields all
