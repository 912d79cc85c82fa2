-- A text that grows by a role's name and by what it could do.
use Rattle.std.proofs.Common.{◌≡◌, ℕ, List, ◌++◌, sym, ◌∙◌, ap, append_assoc}
use Rattle.rcv_session.specs.Session.{SessionView}
use Rattle.rcv_journal.specs.JournalText.{name_of}
use Rattle.rcv_judge.specs.declared.could.Could.{Could}
use Rattle.rcv_diagnosis.specs.Telling.{could_text}

pub three_words : (old first second new a b c : List ℕ) → first ≡ old ++ a → second ≡ first ++ b → new ≡ second ++ c → new ≡ old ++ (a ++ (b ++ c))
three_words old first second new a b c x y z = z ∙ ap (λ t. t ++ c) (y ∙ ap (λ t. t ++ b) x) ∙ append_assoc (old ++ a) b c ∙ append_assoc old a (b ++ c)

pub said_could : (session : SessionView) (r : ℕ) (could is : Could) (old mid new name line : List ℕ) → could ≡ is → mid ≡ old ++ name → name ≡ name_of session r → new ≡ mid ++ line → could_text session r is ≡ name_of session r ++ line → new ≡ old ++ could_text session r could
said_could session r could is old mid new name line same begun named grown text =
    grown
    ∙ ap (λ t. t ++ line) (begun ∙ ap (λ n. old ++ n) named)
    ∙ append_assoc old (name_of session r) line
    ∙ ap (λ t. old ++ t) (sym text)
    ∙ ap (λ c. old ++ could_text session r c) (sym same)
