-- The fields of the last line.
use Rattle.std.proofs.Common.{◌≡◌, ◌≢◌, ◌∙◌, ℕ, List, [], ◌∷◌, map, drop, length, get_or, Option, Result, refl, sym, ap, ap₂, arith, codes, Bor, Vec, Global}
use Rattle.std.specs.Prelude.{IfNone, IfOk, IfSome}
use Rattle.std.proofs.lemmas.List.{length-map}
use Rattle.rcv_session.specs.Session.{SessionView}
use Rattle.rcv_journal.specs.JournalText.{name_of}
use Rattle.rcv_journal.specs.Form.{AreLimited}
use Rattle.rcv_lines.specs.Cutting.{texts}
use Rattle.rcv_lines.specs.Fields.{end_fields, SaysLimited}
use Rattle.rcv_lines.proofs.Parses.{ok_none_from, ok_some_from}

pub completed_said : (setup : SessionView) (F : List (List ℕ)) (roles : List ℕ) → roles ≡ [] → F ≡ codes "completed" ∷ [] → F ≡ end_fields setup roles
completed_said setup F roles none is = is ∙ ap (end_fields setup) (sym none)

as_end : (setup : SessionView) (roles : List ℕ) (F : List (List ℕ)) → SaysLimited setup roles F → F ≡ end_fields setup roles
as_end setup [] F says = absurd (says.some refl)
as_end setup (r ∷ rest) F says = says.said

pub limited_said : {E : Type 0} (setup : SessionView) (F : List (List ℕ)) (r : Result (Option (Vec ℕ Global)) E) → IfOk r (λ o. IfSome o (λ roles. SaysLimited setup roles.items F))
    → IfOk r (λ o. IfSome o (λ roles. F ≡ end_fields setup roles.items))
limited_said setup F r says = ok_some_from r (λ roles s. as_end setup roles.items F s) says

pub neither : (setup : SessionView) (F : List (List ℕ)) → (F ≡ codes "completed" ∷ [] → ⊥)
    → ((roles : List ℕ) → AreLimited setup roles → SaysLimited setup roles F → ⊥) → (roles : List ℕ) → AreLimited setup roles → F ≡ end_fields setup roles → ⊥
neither setup F unsaid none [] formed is = unsaid is
neither setup F unsaid none (r ∷ rest) formed is = none (r ∷ rest) formed (record { some = λ e. absurd (omega (arith, e)); said = is })

pub neither_said : {E : Type 0} (setup : SessionView) (F : List (List ℕ)) (r : Result (Option (Vec ℕ Global)) E) → (F ≡ codes "completed" ∷ [] → ⊥)
    → IfOk r (λ o. IfNone o ((roles : List ℕ) → AreLimited setup roles → SaysLimited setup roles F → ⊥))
    → IfOk r (λ o. IfNone o ((roles : List ℕ) → AreLimited setup roles → F ≡ end_fields setup roles → ⊥))
neither_said setup F r unsaid none = ok_none_from r (neither setup F unsaid) none

-- The first field and the others.
pub tail_said : (setup : SessionView) (fields rest : List (Bor (List ℕ))) (kind : Bor (List ℕ)) (roles : List ℕ) → fields ≡ kind ∷ rest → SaysLimited setup roles (texts fields)
    → (kind.now ≡ codes "limited") × (map (name_of setup) roles ≡ texts rest)
tail_said setup fields rest kind roles cut says =
    let whole = sym (ap texts cut) ∙ says.said in
    (ap (λ l. get_or l 0 []) whole, sym (ap (drop 1) whole))

pub front_said : (setup : SessionView) (fields rest : List (Bor (List ℕ))) (kind : Bor (List ℕ)) (roles : List ℕ) → fields ≡ kind ∷ rest → kind.now ≡ codes "limited"
    → length rest ≢ 0 → map (name_of setup) roles ≡ texts rest → SaysLimited setup roles (texts fields)
front_said setup fields rest kind roles cut is more named =
    record {
      some = λ none. more (sym (length-map rest (λ (f : Bor (List ℕ)). f.now)) ∙ sym (ap length named) ∙ length-map roles (name_of setup) ∙ none);
      said = ap texts cut ∙ ap₂ (λ f fs. f ∷ fs) is (sym named);
    }
