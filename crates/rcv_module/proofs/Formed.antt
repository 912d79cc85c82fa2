-- The expansion of a module that has the form has the form of a protocol.
use Rattle.std.proofs.Common.{◌≡◌, ℕ, zero, suc, Some, List, [], ◌∷◌, ◌++◌, length, refl, sym, subst, ◌∙◌, inl, inr, ⊎_elim}
use Rattle.std.specs.Prelude.{slice_get}
use Rattle.std.proofs.lemmas.Bool.{cases_eq}
use Rattle.std.proofs.lemmas.List.Elements.{recursion_from_All, All-from_recursion}
use Rattle.rcv_tree.specs.Words.{IsWord}
use Rattle.rcv_model.specs.Text.{Body, End, Single, Choose, Loop, Again, Parallel, Call, Bodies, NoMore, Or}
use Rattle.rcv_model.specs.Form.{HaveEnds, HaveSubjects, HaveSubjectsIn}
use Rattle.rcv_model.specs.Places.{SingleMessage, singles, singles_of}
use Rattle.rcv_module.specs.declared.fault.Fault.TheVariants.{Arity}
use Rattle.rcv_module.specs.Parts.{Part, Site, IsNamed, site, calls, calls_of, sites}
use Rattle.rcv_module.specs.Form.{AreArguments, IsFilled, AreFilled, OthersFilled, IsFilledText, IsFormedFirst, AreFormed}
use Rattle.rcv_module.specs.Refusing.{itself, AreCallable}
use Rattle.rcv_module.specs.Expansion.{themselves, Expands}
use Rattle.rcv_module.specs.Laws.{ExpansionsHaveForm}
use Rattle.rcv_module.proofs.Sites.{IsAmong, among_at, among_left, among_right, among_split, of_module}
use Rattle.rcv_module.proofs.Entered.{formed_other, enters_full}
use Rattle.rcv_module.proofs.Fitting.{Fits, AllFit, PartsFit, StandWell, AreWords, expands_fit, fit_ends, fit_words, fit_subjects}
use Rattle.rcv_module.proofs.Filling.{text_full, text_apart}
use Rattle.rcv_module.proofs.Points.{few_points}

-- ---- arguments

mutual
  filled_arguments : (h roles : ℕ) (recs bare : List (List ℕ)) (b : Body) (s : Site) → IsFilled roles recs bare b → IsAmong s (calls h b) → AreArguments roles s.roles
  filled_arguments h roles recs bare End s f a = absurd a
  filled_arguments h roles recs bare (Single label sorts p q n rest) s f a = filled_arguments h roles recs [] rest s f a
  filled_arguments h roles recs bare (Choose p bs rest) s f a = ⊎_elim (λ x. filled_arguments_of h roles recs bare bs s f.0 x) (λ y. filled_arguments h roles recs [] rest s f.1 y) (among_split s (calls_of h bs) (calls h rest) a)
  filled_arguments h roles recs bare (Loop name body rest) s f a = ⊎_elim (λ x. filled_arguments h roles (name ∷ recs) (name ∷ bare) body s f.1 x) (λ y. filled_arguments h roles recs [] rest s f.2 y) (among_split s (calls h body) (calls h rest) a)
  filled_arguments h roles recs bare (Again name End) s f a = absurd a
  filled_arguments h roles recs bare (Again name rest) s f a = absurd f.2
  filled_arguments h roles recs bare (Parallel bs rest) s f a = absurd f
  filled_arguments h roles recs bare (Call name rs rest) s f (inl e) = subst (λ (x : Site). AreArguments roles x.roles) (sym e) f.0
  filled_arguments h roles recs bare (Call name rs rest) s f (inr a) = filled_arguments h roles recs [] rest s f.1 a

  filled_arguments_of : (h roles : ℕ) (recs bare : List (List ℕ)) (bs : Bodies) (s : Site) → AreFilled roles recs bare bs → IsAmong s (calls_of h bs) → AreArguments roles s.roles
  filled_arguments_of h roles recs bare NoMore s f a = absurd f
  filled_arguments_of h roles recs bare (Or b bs) s f a = ⊎_elim (λ x. filled_arguments h roles recs bare b s f.1 x) (λ y. others_arguments h roles recs bare bs s f.2 y) (among_split s (calls h b) (calls_of h bs) a)

  others_arguments : (h roles : ℕ) (recs bare : List (List ℕ)) (bs : Bodies) (s : Site) → OthersFilled roles recs bare bs → IsAmong s (calls_of h bs) → AreArguments roles s.roles
  others_arguments h roles recs bare NoMore s f a = absurd a
  others_arguments h roles recs bare (Or b bs) s f a = ⊎_elim (λ x. filled_arguments h roles recs bare b s f.1 x) (λ y. others_arguments h roles recs bare bs s f.2 y) (among_split s (calls h b) (calls_of h bs) a)

text_arguments : (h roles : ℕ) (b : Body) (s : Site) → IsFilledText roles b → IsAmong s (calls h b) → AreArguments roles s.roles
text_arguments h roles End s f a = absurd a
text_arguments h roles (Single label sorts p q n rest) s f a = text_arguments h roles rest s f a
text_arguments h roles (Choose p bs rest) s f a = ⊎_elim (λ x. filled_arguments_of h roles [] [] bs s f.0 x) (λ y. text_arguments h roles rest s f.1 y) (among_split s (calls_of h bs) (calls h rest) a)
text_arguments h roles (Loop name body rest) s f a = ⊎_elim (λ x. filled_arguments h roles (name ∷ []) (name ∷ []) body s f.1 x) (λ y. text_arguments h roles rest s f.2 y) (among_split s (calls h body) (calls h rest) a)
text_arguments h roles (Again name rest) s f a = absurd f
text_arguments h roles (Parallel bs rest) s f a = ⊎_elim (λ x. filled_arguments_of h roles [] [] bs s f.0 x) (λ y. text_arguments h roles rest s f.2 y) (among_split s (calls_of h bs) (calls h rest) a)
text_arguments h roles (Call name rs rest) s f (inl e) = subst (λ (x : Site). AreArguments roles x.roles) (sym e) f.0
text_arguments h roles (Call name rs rest) s f (inr a) = text_arguments h roles rest s f.1 a

-- ---- texts that fit

abbrev Made : Type 0
Made = List (ℕ × SingleMessage)

ends_left : (n : ℕ) (xs ys : Made) → HaveEnds n (xs ++ ys) → HaveEnds n xs
ends_left n [] ys h = tt
ends_left n (x ∷ xs) ys h = (h.0, h.1, h.2, ends_left n xs ys h.3)

ends_right : (n : ℕ) (xs ys : Made) → HaveEnds n (xs ++ ys) → HaveEnds n ys
ends_right n [] ys h = h
ends_right n (x ∷ xs) ys h = ends_right n xs ys h.3

words_left : (xs ys : Made) → AreWords (xs ++ ys) → AreWords xs
words_left [] ys h = tt
words_left (x ∷ xs) ys h = (h.0, words_left xs ys h.1)

words_right : (xs ys : Made) → AreWords (xs ++ ys) → AreWords ys
words_right [] ys h = h
words_right (x ∷ xs) ys h = words_right xs ys h.1

-- a call of a text that fits
abbrev CallFits : List Part → ℕ → Site → Type 0
CallFits parts n s = AreArguments n s.roles × ((q : Part) → IsNamed parts s.name q → length s.roles ≡ q.roles)

mutual
  fit_made : (parts : List Part) (h n : ℕ) (b : Body) → HaveEnds n (singles b) → HaveSubjects n b → AreWords (singles b) → ((s : Site) → IsAmong s (calls h b) → CallFits parts n s) → Fits parts n b
  fit_made parts h n End ends subjects words c = tt
  fit_made parts h n (Single label sorts s r p rest) ends subjects words c = ((words.0, ends.0, ends.1, ends.2), fit_made parts h n rest ends.3 subjects words.1 c)
  fit_made parts h n (Choose s bs rest) ends subjects words c = (
    subjects.0,
    fit_made_of parts h n bs (ends_left n (singles_of bs) (singles rest) ends) subjects.1 (words_left (singles_of bs) (singles rest) words) (λ s a. c s (among_left s (calls_of h bs) (calls h rest) a)),
    fit_made parts h n rest (ends_right n (singles_of bs) (singles rest) ends) subjects.2 (words_right (singles_of bs) (singles rest) words) (λ s a. c s (among_right s (calls_of h bs) (calls h rest) a)),
  )
  fit_made parts h n (Loop name body rest) ends subjects words c = (
    fit_made parts h n body (ends_left n (singles body) (singles rest) ends) subjects.0 (words_left (singles body) (singles rest) words) (λ s a. c s (among_left s (calls h body) (calls h rest) a)),
    fit_made parts h n rest (ends_right n (singles body) (singles rest) ends) subjects.1 (words_right (singles body) (singles rest) words) (λ s a. c s (among_right s (calls h body) (calls h rest) a)),
  )
  fit_made parts h n (Again name rest) ends subjects words c = fit_made parts h n rest ends subjects words c
  fit_made parts h n (Parallel bs rest) ends subjects words c = (
    fit_made_of parts h n bs (ends_left n (singles_of bs) (singles rest) ends) subjects.0 (words_left (singles_of bs) (singles rest) words) (λ s a. c s (among_left s (calls_of h bs) (calls h rest) a)),
    fit_made parts h n rest (ends_right n (singles_of bs) (singles rest) ends) subjects.1 (words_right (singles_of bs) (singles rest) words) (λ s a. c s (among_right s (calls_of h bs) (calls h rest) a)),
  )
  fit_made parts h n (Call name rs rest) ends subjects words c = (c (site h name rs) (inl refl), fit_made parts h n rest ends subjects words (λ s a. c s (inr a)))

  fit_made_of : (parts : List Part) (h n : ℕ) (bs : Bodies) → HaveEnds n (singles_of bs) → HaveSubjectsIn n bs → AreWords (singles_of bs) → ((s : Site) → IsAmong s (calls_of h bs) → CallFits parts n s) → AllFit parts n bs
  fit_made_of parts h n NoMore ends subjects words c = tt
  fit_made_of parts h n (Or b bs) ends subjects words c = (
    fit_made parts h n b (ends_left n (singles b) (singles_of bs) ends) subjects.0 (words_left (singles b) (singles_of bs) words) (λ s a. c s (among_left s (calls h b) (calls_of h bs) a)),
    fit_made_of parts h n bs (ends_right n (singles b) (singles_of bs) ends) subjects.1 (words_right (singles b) (singles_of bs) words) (λ s a. c s (among_right s (calls h b) (calls_of h bs) a)),
  )

-- as many arguments as roles
arity_of : (parts : List Part) (s : Site) → AreCallable parts → IsAmong s (sites parts) → (q : Part) → IsNamed parts s.name q → length s.roles ≡ q.roles
arity_of parts s callable a q i =
    let n = among_at s (sites parts) a in
    ⊎_elim (λ e. e) (λ ne. absurd (callable n.0 s Arity n.1 (q, i, ne))) (cases_eq (length s.roles) q.roles)

-- Each protocol of a module that may be expanded fits.
pub parts_fit : (parts : List Part) → AreFormed parts → AreCallable parts → PartsFit parts
parts_fit [] formed callable i p e = absurd formed
parts_fit (q ∷ ps) formed callable zero p e =
    let same : q ≡ p = cc in
    let f : IsFormedFirst p = subst IsFormedFirst same formed.0 in
    fit_made (q ∷ ps) 0 p.roles p.body f.form.ends f.form.subjects (recursion_from_All (λ m. IsWord m.1.label) (singles p.body) f.words)
    (λ s a. (text_arguments 0 p.roles p.body s f.filled a, arity_of (q ∷ ps) s callable (of_module (q ∷ ps) 0 p s e a)))
parts_fit (q ∷ ps) formed callable (suc j) p e =
    let f = formed_other (q ∷ ps) j p formed e in
    fit_made (q ∷ ps) (suc j) p.roles p.body f.form.ends f.form.subjects (recursion_from_All (λ m. IsWord m.1.label) (singles p.body) f.words)
    (λ s a. (filled_arguments (suc j) p.roles [] [] p.body s f.filled a, arity_of (q ∷ ps) s callable (of_module (q ∷ ps) (suc j) p s e a)))

pub formed_first : (parts : List Part) (p : Part) → AreFormed parts → slice_get parts 0 ≡ Some p → IsFormedFirst p
formed_first [] p f e = absurd f
formed_first (q ∷ ps) p f e = let same : q ≡ p = cc in subst IsFormedFirst same f.0

-- ---- the expansion

pub expansions_have_form : ExpansionsHaveForm
expansions_have_form parts main body formed free first x =
    let same : Some x.main ≡ Some main = sym x.first ∙ first in
    let one : x.main ≡ main = cc in
    let e : Expands parts themselves main.body End body = subst (λ (p : Part). Expands parts themselves p.body End body) one x.expands in
    let f = formed_first parts main formed first in
    let full = enters_full 0 formed free.0 (itself 0) (λ s a. of_module parts 0 main s first a) e in
    let fit = parts_fit parts formed free.0 in
    let well : StandWell themselves main.roles main.roles = record { inside = λ r lt. lt; differ = λ r q lt lq z. z } in
    let own = expands_fit main.roles main.roles fit well e (fit 0 main first) tt in (
      record {
        numbered = x.numbered;
        ends = fit_ends parts main.roles body own;
        subjects = fit_subjects parts main.roles body own;
        apart = text_apart main.roles main.roles fit well e full (fit 0 main first) f.filled tt;
        few_roles = f.form.few_roles;
        few_points = few_points parts main body first f.form.few_points free.1 e;
      },
      text_full main.roles e full f.filled tt,
      All-from_recursion (λ m. IsWord m.1.label) (singles body) (fit_words parts main.roles body own),
    )
