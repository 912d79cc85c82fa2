-- Words are a command, or they are none.
use Rattle.std.proofs.Common.{◌≡◌, ◌≤◌, ℕ, Bool, true, false, List, [], ◌∷◌, Option, Some, None, refl, sym, ap, subst, ◌⊎◌, inl, inr, ⊎_elim, codes, arith}
use Rattle.std.specs.Prelude.{unwrap_or}
use Rattle.std.specs.Str.{bytes_eq}
use Rattle.std.proofs.lemmas.Bool.{cases_lt}
use Rattle.std.proofs.lemmas.Slice.Eq.{bytes_eq-Decides}
use Rattle.clap.specs.Words.{Kinds, Text, fault_of}
use Rattle.rcv_look.specs.Commands.{CommandView, DrawJournal, DrawSession, DrawTold, ReplayJournal, DrawTable, ExportTable, DrawRole, ExportRole, DrawProtocol, ListPoints, ExportPoints, DrawFailures, ListFailures, ExportFailures, Explain, Form, Usual, AsText, AsJson, AreFlags, Given, IsGiven, Says, IsWithin, IsCommand, IsNoCommand, given, line_of}
use Rattle.rcv_look.specs.Asked.{asked}
use Rattle.rcv_look.proofs.OneCommand.{is_asked}
use Rattle.rcv_look.specs.Program.{rcv_show}

abbrev OrNot : Type 0 → Type 0
OrNot A = A ⊎ (A → ⊥)

both : {A B : Type 0} → OrNot A → OrNot B → OrNot (A × B)
both (inl a) (inl b) = inl (a, b)
both (inl a) (inr never) = inr (λ ab. never ab.1)
both (inr never) b = inr (λ ab. never ab.0)

is_none : {X : Type 0} (o : Option X) → OrNot (o ≡ None)
is_none None = inl refl
is_none (Some x) = inr (λ e. cc)

is_text : (a b : Text) → OrNot (a ≡ b)
is_text a b = go (bytes_eq a b) refl
  where
    go : (t : Bool) → bytes_eq a b ≡ t → OrNot (a ≡ b)
    go true e = inl ((bytes_eq-Decides a b).0 e)
    go false e = inr (λ same. let yes = (bytes_eq-Decides a b).1 same in cc)

is_word : (o : Option Text) (w : Text) → OrNot (o ≡ Some w)
is_word None w = inr (λ e. cc)
is_word (Some v) w = ⊎_elim (λ e. inl (ap Some e)) (λ never. inr (λ e. never (ap (λ (o : Option Text). unwrap_or o []) e))) (is_text v w)

is_at_most : (m n : ℕ) → OrNot (m ≤ n)
is_at_most m n = ⊎_elim (λ more. inr (λ few. omega (arith, more, few))) (λ few. inl few) (cases_lt n m)

is_number : (o : Option ℕ) (n : ℕ) → OrNot (o ≡ Some n)
is_number None n = inr (λ e. cc)
is_number (Some m) n =
    ⊎_elim (λ less. inr (λ e. let same = ap (λ (o : Option ℕ). unwrap_or o 0) e in omega (arith, less, same)))
    (λ least. ⊎_elim (λ more. inr (λ e. let same = ap (λ (o : Option ℕ). unwrap_or o 0) e in omega (arith, more, same))) (λ most. inl (ap Some (omega (arith, least, most)))) (cases_lt n m))
    (cases_lt m n)

are_flags : (form : Form) (text json : Bool) → OrNot (AreFlags form text json)
are_flags Usual false false = inl (refl, refl)
are_flags Usual false true = inr (λ h. let no = h.1 in cc)
are_flags Usual true json = inr (λ h. let no = h.0 in cc)
are_flags AsText true false = inl (refl, refl)
are_flags AsText true true = inr (λ h. let no = h.1 in cc)
are_flags AsText false json = inr (λ h. let no = h.0 in cc)
are_flags AsJson false true = inl (refl, refl)
are_flags AsJson false false = inr (λ h. let no = h.1 in cc)
are_flags AsJson true json = inr (λ h. let no = h.0 in cc)

is_given : (g : Given) (w : Text) (r : Option Text) (n i : Option ℕ) (f : Form) → OrNot (g.role ≡ r) → OrNot (g.code ≡ n) → OrNot (g.session ≡ i) → OrNot (IsGiven g w r n i f)
is_given g w r n i f role code session = go (both (is_word g.command w) (both role (both code (both session (are_flags f g.text g.json)))))
  where
    go : OrNot ((g.command ≡ Some w) × ((g.role ≡ r) × ((g.code ≡ n) × ((g.session ≡ i) × AreFlags f g.text g.json)))) → OrNot (IsGiven g w r n i f)
    go (inl a) = inl (record { word_is = a.0; role_is = a.1.0; code_is = a.1.1.0; session_is = a.1.1.1.0; flags = a.1.1.1.1 })
    go (inr never) = inr (λ h. never (h.word_is, (h.role_is, (h.code_is, (h.session_is, h.flags)))))

-- What is given says this command, whose number is in range.
abbrev SaysWithin : Given → CommandView → Type 0
SaysWithin g c = Says g c × IsWithin c

free : {A : Type 0} → OrNot A → OrNot (A × Unit {0})
free (inl a) = inl (a, tt)
free (inr never) = inr (λ b. never b.0)

-- No option, or the role, is given, with flags of this form.
alone : (g : Given) (word : Text) (f : Form) → OrNot (IsGiven g word None None None f × Unit {0})
alone g word f = free (is_given g word None None None f (is_none g.role) (is_none g.code) (is_none g.session))

of_role : (g : Given) (name : Text) (f : Form) → OrNot (IsGiven g (codes "role") (Some name) None None f × Unit {0})
of_role g name f = free (is_given g (codes "role") (Some name) None None f (is_word g.role name) (is_none g.code) (is_none g.session))

says : (g : Given) (c : CommandView) → OrNot (SaysWithin g c)
says g DrawJournal = alone g (codes "journal") Usual
says g (DrawSession number) =
    both (is_given g (codes "journal") None None (Some number) Usual (is_none g.role) (is_none g.code) (is_number g.session number))
    (both (is_at_most 1 number) (is_at_most number 64))
says g DrawTold = alone g (codes "told") Usual
says g ReplayJournal = alone g (codes "replay") Usual
says g DrawTable = alone g (codes "table") Usual
says g ExportTable = alone g (codes "table") AsJson
says g (DrawRole name) = of_role g name Usual
says g (ExportRole name) = of_role g name AsJson
says g DrawProtocol = alone g (codes "protocol") Usual
says g ListPoints = alone g (codes "points") Usual
says g ExportPoints = alone g (codes "points") AsJson
says g DrawFailures = alone g (codes "failures") Usual
says g ListFailures = alone g (codes "failures") AsText
says g ExportFailures = alone g (codes "failures") AsJson
says g (Explain code) =
    both (is_given g (codes "explain") None (Some code) None Usual (is_none g.role) (is_number g.code code) (is_none g.session)) (is_at_most code 255)

-- It says what it asks for, or nothing.
says_or_not : (g : Given) → ((c : CommandView) × SaysWithin g c) ⊎ ((c : CommandView) → SaysWithin g c → ⊥)
says_or_not g =
    ⊎_elim (λ s. inl (asked g, s)) (λ never. inr (λ c s. never (subst (SaysWithin g) (sym (is_asked g c s.0)) s)))
    (says g (asked g))

pub command_or_none : (words : List Text) → ((c : CommandView) × IsCommand words c) ⊎ IsNoCommand words
command_or_none words = go (fault_of rcv_show (line_of words)) refl
  where
    said : fault_of rcv_show (line_of words) ≡ [] → ((c : CommandView) × SaysWithin (given words) c) ⊎ ((c : CommandView) → SaysWithin (given words) c → ⊥) → ((c : CommandView) × IsCommand words c) ⊎ IsNoCommand words
    said taken (inl s) = inl (s.0, (taken, s.1.0, s.1.1))
    said taken (inr none) = inr (λ c is. none c (is.1, is.2))

    go : (kinds : Kinds) → fault_of rcv_show (line_of words) ≡ kinds → ((c : CommandView) × IsCommand words c) ⊎ IsNoCommand words
    go [] e = said e (says_or_not (given words))
    go (k ∷ ks) e = inr (λ c is. let taken = is.0 in cc)
