-- What is kept is what was added, without some of it.
use Rattle.std.proofs.Common.{◌≡◌, ℕ, suc, Some, List, [], ◌∷◌, ◌++◌, refl, sym, ap, subst, ◌⊎◌, inl, inr, ⊎_elim, append_assoc, append-nil}
use Rattle.rcv_tree.specs.declared.event.Event.{Event}
use Rattle.rcv_tree.specs.declared.entry.Entry.{Entry}
use Rattle.rcv_tree.specs.declared.entry.Entry.TheVariants.{Send, Recv, Crash, Recover}
use Rattle.rcv_model.specs.Net.{Net}
use Rattle.rcv_model.specs.Undo.{Kept, keep_one, keep_from, bound_of}
use Rattle.rcv_model.specs.Journal.{Rules, State, start, durable, group_of, after, reading_from}
use Rattle.rcv_model.proofs.Scanning.{Step, lost, held, step}
use Rattle.rcv_fates.specs.Fates.{IsAmong, IsKeptIn, IsEventAt}

pub among_back : (xs ys : List Event) (e : Event) → IsAmong e ys → IsAmong e (xs ++ ys)
among_back [] ys e i = i
among_back (x ∷ xs) ys e i = inr (among_back xs ys e i)

pub among_here : (xs ys : List Event) (e : Event) → IsAmong e (xs ++ e ∷ ys)
among_here xs ys e = among_back xs (e ∷ ys) e (inl refl)

pub among_either : (xs ys : List Event) (e : Event) → IsAmong e (xs ++ ys) → IsAmong e xs ⊎ IsAmong e ys
among_either [] ys e i = inr i
among_either (x ∷ xs) ys e (inl f) = inl (inl f)
among_either (x ∷ xs) ys e (inr i) = ⊎_elim (λ a. inl (inr a)) (λ b. inr b) (among_either xs ys e i)

pub among_front : (xs ys : List Event) (e : Event) → IsAmong e xs → IsAmong e (xs ++ ys)
among_front [] ys e i = absurd i
among_front (x ∷ xs) ys e (inl f) = inl f
among_front (x ∷ xs) ys e (inr i) = inr (among_front xs ys e i)

-- an element of what is left is one of the whole
pub among_less : (xs ys : List Event) (d e : Event) → IsAmong e (xs ++ ys) → IsAmong e (xs ++ d ∷ ys)
among_less xs ys d e i = ⊎_elim (λ a. among_front xs (d ∷ ys) e a) (λ b. among_back xs (d ∷ ys) e (inr b)) (among_either xs ys e i)

-- what holds of a list and of each with one event less holds of what a scan keeps
module _ (P : List Event → Type 0) (less : (xs ys : List Event) (e : Event) → P (xs ++ e ∷ ys) → P (xs ++ ys)) where
  pub kept_keeps : (net : Net) (bound : ℕ → ℕ) (kept : Kept) (h : List Event) → P (kept.events ++ h) → P (keep_from net bound kept h).events
  kept_keeps net bound kept [] p = subst P (append-nil kept.events) p
  kept_keeps net bound kept (e ∷ h) p = kept_keeps net bound (keep_one net bound kept e) h (go (step net bound kept e))
    where
      go : Step net bound kept e → P ((keep_one net bound kept e).events ++ h)
      go (lost t f) = subst (λ (k : Kept). P (k.events ++ h)) (sym f) (less kept.events h e p)
      go (held t f) = subst (λ (k : Kept). P (k.events ++ h)) (sym f) (subst P (sym (append_assoc kept.events (e ∷ []) h)) p)

-- a fact of each event
abbrev pub AllAre : (Event → Type 0) → List Event → Type 0
AllAre Q xs = (e : Event) → IsAmong e xs → Q e

pub all_less : (Q : Event → Type 0) (xs ys : List Event) (d : Event) → AllAre Q (xs ++ d ∷ ys) → AllAre Q (xs ++ ys)
all_less Q xs ys d all e i = all e (among_less xs ys d e i)

pub all_more : (Q : Event → Type 0) (xs : List Event) (d : Event) → AllAre Q xs → Q d → AllAre Q (xs ++ d ∷ [])
all_more Q xs d all one e i = ⊎_elim (λ a. all e a) (λ b. ⊎_elim (λ f. subst Q (sym f) one) (λ n. absurd n) b) (among_either xs (d ∷ []) e i)

module _ (rules : Rules) (Q : Event → Type 0) where
  pub all_after : (s : State) (x : Entry) → ((e : Event) → (x ≡ Send e) ⊎ (x ≡ Recv e) → Q e) → AllAre Q s.kept → AllAre Q (after rules s x).kept
  all_after s (Send e) new all = all_more Q s.kept e all (new e (inl refl))
  all_after s (Recv e) new all = all_more Q s.kept e all (new e (inr refl))
  all_after s (Crash p) new all = all
  all_after s (Recover p concerned kept undone) new all =
      kept_keeps (AllAre Q) (all_less Q) rules.net (bound_of (group_of rules p) (durable rules s) s.kept) (record { events = []; stopped = [] }) s.kept all

  -- what holds of the events of all entries holds of the kept ones
  pub all_from : (s : State) (journal : List Entry) → ((i : ℕ) (e : Event) → IsEventAt journal i e → Q e) → AllAre Q s.kept → AllAre Q (reading_from rules s journal).kept
  all_from s [] new all = all
  all_from s (x ∷ journal) new all = all_from (after rules s x) journal (λ i e at. new (suc i) e at) (all_after s x (λ e f. new 0 e (⊎_elim (λ g. inl (ap Some g)) (λ g. inr (ap Some g)) f)) all)

-- each kept event stands among the entries
pub stands : (rules : Rules) (journal : List Entry) (e : Event) → IsKeptIn rules journal e → (i : ℕ) × IsEventAt journal i e
stands rules journal = all_from rules (λ e. (i : ℕ) × IsEventAt journal i e) (start rules.roles) journal (λ i e at. (i, at)) (λ e i. absurd i)
