-- A module with a rec of so many statements, one of which calls a protocol of two messages. It has the form.
use Rattle.std.proofs.Common.{◌≡◌, ℕ, zero, suc, List, [], ◌∷◌, ◌++◌, length, refl, sym, ap, subst, ◌⊎◌, inl, inr, arith}
use Rattle.std.specs.List.{All}
use Rattle.std.proofs.lemmas.List.Elements.{All-from_recursion}
use Rattle.rcv_tree.specs.Words.{IsWord}
use Rattle.rcv_model.specs.Text.{Body, End, Single, Choose, Loop, Again, Call, NoMore, Or}
use Rattle.rcv_model.specs.Form.{HasForm, HaveSubjects, HaveEnds, IsNumberedFrom}
use Rattle.rcv_model.specs.Places.{SingleMessage, singles}
use Rattle.rcv_module.specs.Parts.{Part, Site, site, calls, sites}
use Rattle.rcv_module.specs.Form.{IsFilled, AreFormed}
use Rattle.rcv_module.proofs.Building.{own, HasRoomInside}

abbrev label : List ℕ
label = 109 ∷ []

abbrev pub again : List ℕ
again = 88 ∷ []

abbrev pub main_name : List ℕ
main_name = 77 ∷ []

abbrev pub called_name : List ℕ
called_name = 80 ∷ []

-- so many choices of one branch, which goes back
unfoldable pub fill : ℕ → Body
fill zero = End
fill (suc k) = Choose 0 (Or (Again again End) NoMore) (fill k)

abbrev pub inner_text : ℕ → Body
inner_text k = Single label [] 0 1 1 (Call called_name (0 ∷ 1 ∷ []) (fill k))

abbrev pub long_text : ℕ → Body
long_text k = Loop again (inner_text k) End

abbrev pub two : Body
two = Single label [] 0 1 1 (Single label [] 0 1 2 End)

abbrev pub main_part : ℕ → Part
main_part k = record { name = main_name; roles = 2; body = long_text k }

abbrev pub called_part : Part
called_part = record { name = called_name; roles = 2; body = two }

abbrev pub parts_with : ℕ → List Part
parts_with k = main_part k ∷ called_part ∷ []

abbrev pub the_call : Site
the_call = site 0 called_name (0 ∷ 1 ∷ [])

abbrev message : SingleMessage
message = record { label = label; sorts = []; sender = 0; receiver = 1 }

fill_singles : (k : ℕ) → singles (fill k) ≡ []
unfolding fill
fill_singles zero = refl
fill_singles (suc k) = fill_singles k

fill_calls : (h k : ℕ) → calls h (fill k) ≡ []
unfolding fill
fill_calls h zero = refl
fill_calls h (suc k) = fill_calls h k

pub fill_own : (k : ℕ) → own (fill k) ≡ k
unfolding fill
fill_own zero = refl
fill_own (suc k) = let more = fill_own k in omega (arith, more)

fill_filled : (k : ℕ) → IsFilled 2 (again ∷ []) [] (fill k)
unfolding fill
fill_filled zero = tt
fill_filled (suc k) = (((λ n. n), (inl refl, (λ n. n), tt), tt), fill_filled k)

fill_subjects : (k : ℕ) → HaveSubjects 2 (fill k)
unfolding fill
fill_subjects zero = tt
fill_subjects (suc k) = (omega arith, (tt, tt), fill_subjects k)

pub fill_room : (k : ℕ) → HasRoomInside (fill k)
unfolding fill
fill_room zero = tt
fill_room (suc k) = (omega arith, (omega arith, tt, tt), fill_room k)

one_message : (k : ℕ) → singles (long_text k) ≡ (1, message) ∷ []
one_message k = ap (λ l. ((1, message) ∷ l) ++ []) (fill_singles k)

pub one_call : (k : ℕ) → sites (parts_with k) ≡ the_call ∷ []
one_call k = ap (λ l. ((the_call ∷ l) ++ []) ++ []) (fill_calls 0 k)

-- ---- it has the form

long_form : (k : ℕ) → HasForm (long_text k) 2
long_form k =
    let made = sym (one_message k) in
    record {
      numbered = subst (IsNumberedFrom 1) made (refl, tt);
      ends = subst (HaveEnds 2) made (omega arith, omega arith, (λ e. absurd (omega (arith, e))), tt);
      subjects = (fill_subjects k, tt);
      apart = tt;
      few_roles = omega arith;
      few_points = let n = ap length (one_message k) in omega (arith, n);
    }

two_form : HasForm two 2
two_form = record {
  numbered = (refl, (refl, tt));
  ends = (omega arith, omega arith, (λ e. absurd (omega (arith, e))), (omega arith, omega arith, (λ e. absurd (omega (arith, e))), tt));
  subjects = tt;
  apart = tt;
  few_roles = omega arith;
  few_points = omega arith;
}

abbrev HasWord : ℕ × SingleMessage → Type 0
HasWord m = IsWord m.1.label

word : IsWord label
word = (refl, tt, omega arith)

differ : (◌≡◌ {A = ℕ} 0 1) ⊎ ⊥ → ⊥
differ (inl e) = omega (arith, e)
differ (inr n) = n

pub formed : (k : ℕ) → AreFormed (parts_with k)
formed k = (
  record {
    form = long_form k;
    filled = ((λ n. n), ((omega arith, differ, (omega arith, (λ i. i), tt)), fill_filled k), tt);
    words = subst (λ l. All HasWord l) (sym (one_message k)) (All-from_recursion HasWord ((1, message) ∷ []) (word, tt));
  },
  (record { form = two_form; filled = tt; words = All-from_recursion HasWord ((1, message) ∷ (2, message) ∷ []) (word, (word, tt)) }, tt),
)
