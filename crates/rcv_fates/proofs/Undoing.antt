-- Whether an entry is undone, by a test.
use Rattle.std.proofs.Common.{◌≡◌, ℕ, zero, suc, ◌<◌, Bool, true, false, Some, None, Option, List, [], ◌∷◌, refl, sym, ◌∙◌, ap, subst, ⊎_elim}
use Rattle.std.specs.Prelude.{◌↔◌, IsTrue, not, slice_get}
use Rattle.rcv_tree.specs.declared.event.Event.{Event}
use Rattle.rcv_tree.specs.declared.entry.Entry.{Entry}
use Rattle.rcv_tree.specs.declared.entry.Entry.TheVariants.{Send, Recv, Crash, Recover}
use Rattle.rcv_model.specs.Journal.{Rules, State, after, start, IsLegalFrom, IsLegal}
use Rattle.rcv_fates.specs.Fates.{IsAmong, IsEventAt, IsUndone, IsUndoneAt}

-- what is at a place
pub entry_undone : (kept : List Event) (entries : List Entry) (place : ℕ) (e : Entry) → slice_get entries place ≡ Some e → IsUndoneAt kept entries place → IsUndone kept e
entry_undone kept entries place e there at = subst (IsUndone kept) (same (sym at.there ∙ there)) at.undone
  where
    same : {x y : Entry} → Some x ≡ Some y → x ≡ y
    same f = cc

pub by_entry : (kept : List Event) (entries : List Entry) (place : ℕ) (e : Entry) (b : Bool) → slice_get entries place ≡ Some e → IsTrue b ↔ IsUndone kept e → IsTrue b ↔ IsUndoneAt kept entries place
by_entry kept entries place e b there test = (
  (λ t. record { entry = e; there = there; undone = test.0 t }),
  λ at. test.1 (entry_undone kept entries place e there at),
)

pub by_nothing : (kept : List Event) (entries : List Entry) (place : ℕ) → slice_get entries place ≡ None → IsTrue false ↔ IsUndoneAt kept entries place
by_nothing kept entries place none = ((λ t. absurd (cc)), λ at. absurd (differ (sym none ∙ at.there)))
  where
    differ : {e : Entry} → (let o : Option Entry = None in o) ≡ Some e → ⊥
    differ f = absurd (cc)

-- a test that is turned round
pub by_not : (P : Type 0) (b : Bool) → IsTrue b ↔ P → IsTrue (not b) ↔ (P → ⊥)
by_not P true test = ((λ t. absurd (cc)), λ none. absurd (none (test.0 refl)))
by_not P false test = ((λ t p. let f : false ≡ true = test.1 p in absurd (cc)), λ none. refl)

pub never : (P : Type 0) → (P → ⊥) → IsTrue false ↔ P
never P not_so = ((λ t. absurd (cc)), λ p. absurd (not_so p))

-- the roles of a legal journal's events are declared
declared_from : (rules : Rules) (s : State) (journal : List Entry) (i : ℕ) (e : Event) → IsLegalFrom rules s journal → IsEventAt journal i e → e.role < rules.roles
declared_from rules s [] i e legal at = ⊎_elim (λ f. absurd (cc)) (λ f. absurd (cc)) at
declared_from rules s (Send x ∷ journal) zero e legal at = ⊎_elim
    (λ (f : Some (Send x) ≡ Some (Send e)). let g : x ≡ e = cc in subst (λ (y : Event). y.role < rules.roles) g legal.0.free.declared)
    (λ (f : Some (Send x) ≡ Some (Recv e)). absurd (cc))
    at
declared_from rules s (Recv x ∷ journal) zero e legal at = ⊎_elim
    (λ (f : Some (Recv x) ≡ Some (Send e)). absurd (cc))
    (λ (f : Some (Recv x) ≡ Some (Recv e)). let g : x ≡ e = cc in subst (λ (y : Event). y.role < rules.roles) g legal.0.own.free.declared)
    at
declared_from rules s (Crash p ∷ journal) zero e legal at = ⊎_elim (λ f. absurd (cc)) (λ f. absurd (cc)) at
declared_from rules s (Recover p c k u ∷ journal) zero e legal at = ⊎_elim (λ f. absurd (cc)) (λ f. absurd (cc)) at
declared_from rules s (x ∷ journal) (suc i) e legal at = declared_from rules (after rules s x) journal i e legal.1 at

pub declared : (rules : Rules) (journal : List Entry) (i : ℕ) (e : Event) → IsLegal rules journal → IsEventAt journal i e → e.role < rules.roles
declared rules journal i e legal at = declared_from rules (start rules.roles) journal i e legal at

-- for each kind of entry
pub by_send : (kept : List Event) (entries : List Entry) (place : ℕ) (x : Entry) (e : Event) (b : Bool) → slice_get entries place ≡ Some x → x ≡ Send e → IsTrue b ↔ IsAmong e kept → IsTrue (not b) ↔ IsUndoneAt kept entries place
by_send kept entries place x e b there is test = by_entry kept entries place (Send e) (not b) (there ∙ ap Some is) (by_not (IsAmong e kept) b test)

pub by_recv : (kept : List Event) (entries : List Entry) (place : ℕ) (x : Entry) (e : Event) (b : Bool) → slice_get entries place ≡ Some x → x ≡ Recv e → IsTrue b ↔ IsAmong e kept → IsTrue (not b) ↔ IsUndoneAt kept entries place
by_recv kept entries place x e b there is test = by_entry kept entries place (Recv e) (not b) (there ∙ ap Some is) (by_not (IsAmong e kept) b test)

pub by_other : (kept : List Event) (entries : List Entry) (place : ℕ) (x : Entry) → slice_get entries place ≡ Some x → (IsUndone kept x → ⊥) → IsTrue false ↔ IsUndoneAt kept entries place
by_other kept entries place x there plain = by_entry kept entries place x false there (never (IsUndone kept x) plain)
