-- The protocol of the worked session with lanes is an accepted one: its form, its names, and that no rule fails.
use Rattle.std.proofs.Common.{◌≡◌, ℕ, zero, suc, ◌+◌, true, Some, List, [], ◌∷◌, refl, sym, ◌∙◌, subst, arith}
use Rattle.std.specs.Prelude.{slice_get}
use Rattle.std.specs.List.{All}
use Rattle.std.proofs.lemmas.List.Elements.{All-nil, All-cons}
use Rattle.rcv_tree.specs.Words.{is_letter, IsWord}
use Rattle.rcv_model.specs.Form.{HasForm}
use Rattle.rcv_model.specs.Names.{AreDifferent, HasNames}
use Rattle.rcv_model.specs.Next.{IsAccepted}
use Rattle.rcv_model.specs.Places.{SingleMessage, singles, IsFullText, net_of}
use Rattle.rcv_model.specs.Accept.{HasSubjects}
use Rattle.rcv_model.proofs.Lists.{some_same}
use Rattle.rcv_accept.specs.Accepted.{IsAcceptedProtocol}
use Rattle.rcv_parallel.proofs.LaneSession.{text, text_form, text_full, text_accepted, text_subjects}
use Rattle.rcv_parallel.proofs.LaneTraces.{its_body, view}

-- the roles A to D
abbrev names : List (List ℕ)
names = (65 ∷ []) ∷ (66 ∷ []) ∷ (67 ∷ []) ∷ (68 ∷ []) ∷ []

word : (b : ℕ) → is_letter b ≡ true → IsWord (b ∷ [])
word b t = (t, tt, omega arith)

role_words : All IsWord names
role_words = All-cons IsWord (65 ∷ []) ((66 ∷ []) ∷ (67 ∷ []) ∷ (68 ∷ []) ∷ []) (word 65 refl) (All-cons IsWord (66 ∷ []) ((67 ∷ []) ∷ (68 ∷ []) ∷ []) (word 66 refl) (All-cons IsWord (67 ∷ []) ((68 ∷ []) ∷ []) (word 67 refl) (All-cons IsWord (68 ∷ []) [] (word 68 refl) (All-nil IsWord))))

name_at : (i : ℕ) (name : List ℕ) → slice_get names i ≡ Some name → name ≡ (65 + i) ∷ []
name_at zero name e = sym (some_same e)
name_at (suc zero) name e = sym (some_same e)
name_at (suc (suc zero)) name e = sym (some_same e)
name_at (suc (suc (suc zero))) name e = sym (some_same e)
name_at (suc (suc (suc (suc i)))) name e = absurd (cc)

differ : AreDifferent names
differ i j name e f =
    let same : (65 + i) ∷ [] ≡ (65 + j) ∷ [] = sym (name_at i name e) ∙ name_at j name f in
    let heads : 65 + i ≡ 65 + j = cc in
    omega arith

abbrev HasWord : ℕ × SingleMessage → Type 0
HasWord m = IsWord m.1.label

-- the labels a, b, c and e, from the last on
abbrev said : ℕ → ℕ → ℕ → SingleMessage
said label sender receiver = record { label = label ∷ []; sorts = []; sender = sender; receiver = receiver }

abbrev from_e : List (ℕ × SingleMessage)
from_e = (4, said 101 1 2) ∷ []

abbrev from_c : List (ℕ × SingleMessage)
from_c = (3, said 99 2 3) ∷ from_e

abbrev from_b : List (ℕ × SingleMessage)
from_b = (2, said 98 0 1) ∷ from_c

label_words : All HasWord (singles text)
label_words = All-cons HasWord (1, said 97 0 1) from_b (word 97 refl) (All-cons HasWord (2, said 98 0 1) from_c (word 98 refl) (All-cons HasWord (3, said 99 2 3) from_e (word 99 refl) (All-cons HasWord (4, said 101 1 2) [] (word 101 refl) (All-nil HasWord))))

pub lawful : IsAcceptedProtocol view.protocol
lawful = record {
  form = subst (λ b. HasForm b 4) (sym its_body) text_form;
  full = subst IsFullText (sym its_body) text_full;
  names = subst (HasNames names) (sym its_body) (record { role_words = role_words; differ = differ; label_words = label_words });
  accepted = subst (λ b. IsAccepted (net_of b) 4) (sym its_body) text_accepted;
  subjects = subst HasSubjects (sym its_body) text_subjects;
}
