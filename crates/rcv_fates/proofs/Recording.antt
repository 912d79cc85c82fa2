-- A book's journal is sound, and its undone events are those that it doesn't keep.
use Rattle.std.proofs.Common.{◌≡◌, ℕ, ◌+◌, ◌*◌, ◌^◌, ◌<◌, ◌≤◌, Some, None, Bool, true, false, List, [], ◌∷◌, ◌++◌, length, refl, sym, ◌∙◌, ap, subst, inl, inr, ⊎_elim, arith, length-append}
use Rattle.std.specs.Prelude.{◌↔◌, IsTrue, slice_get}
use Rattle.std.proofs.Math.Nat.{mul-le-mul}
use Rattle.std.proofs.lemmas.Bool.{cases_lt}
use Rattle.std.proofs.lemmas.Option.{slice_get_cases, slice_get_within}
use Rattle.std.proofs.lemmas.List.Elements.{All-get_or}
use Rattle.rcv_tree.specs.declared.event.Event.{Event}
use Rattle.rcv_tree.specs.declared.entry.Entry.{Entry}
use Rattle.rcv_model.specs.Journal.{IsLegal}
use Rattle.rcv_model.proofs.Numbers.{bounded}
use Rattle.rcv_model.proofs.Lists.{some_same}
use Rattle.rcv_accept.specs.Accepted.{IsAcceptedProtocol}
use Rattle.rcv_plan.specs.Lines.{IsPlanned}
use Rattle.rcv_session.specs.Session.{SessionView, roles_of, rules_of}
use Rattle.rcv_ledger.proofs.Lists.{get_left}
use Rattle.rcv_core.proofs.Ranges.{ranges, few_crash_lines}
use Rattle.rcv_journal.specs.JournalText.{IsNamed}
use Rattle.rcv_journal.proofs.Named.{legal_is_named}
use Rattle.rcv_fates.specs.Fates.{IsUndoneAt}
use Rattle.rcv_core.specs.Book.{BookView, state_of}
use Rattle.rcv_fates.specs.Record.{IsSound, RecordView, HasKept, IsRecord}
use Rattle.rcv_fates.proofs.Clocks.{grow}
use Rattle.rcv_fates.proofs.Messages.{one_send}

few : (setup : SessionView) (entries : List Entry) → IsAcceptedProtocol setup.protocol → IsPlanned (roles_of setup) setup.plan → IsLegal (rules_of setup) entries → length entries < 2 ^ 32
few setup entries plain planned legal =
    let steps : roles_of setup * (rules_of setup).limit ≤ 8 * 100000 = mul-le-mul plain.form.few_roles (ranges setup planned).limit_last in
    let crashes = few_crash_lines setup plain.form.few_roles planned in
    let all = (bounded (rules_of setup) entries legal).entries in
    omega (arith, steps, crashes, all)

-- what a legal journal names is declared
named_at : (setup : SessionView) (entries : List Entry) → IsAcceptedProtocol setup.protocol → IsLegal (rules_of setup) entries → (at : ℕ) (e : Entry) → slice_get entries at ≡ Some e → IsNamed setup e
named_at setup entries plain legal at e is =
    let all = legal_is_named setup entries plain legal in
    elim (slice_get_cases entries at).1 [
      | inl w ↦
          (let found : Some w.0 ≡ Some e = sym w.2 ∙ is in
          let same : w.0 ≡ e = cc in
          subst (IsNamed setup) (w.3 ∙ same) (All-get_or (IsNamed setup) entries at w.0 w.1 all))
      | inr w ↦ (let wrong : None ≡ Some e = sym w.1 ∙ is in absurd cc)
    ]

pub legal_is_sound : (setup : SessionView) (entries : List Entry) → IsAcceptedProtocol setup.protocol → IsPlanned (roles_of setup) setup.plan → IsLegal (rules_of setup) entries → IsSound setup entries
legal_is_sound setup entries plain planned legal = record {
  accepted = plain;
  few = few setup entries plain planned legal;
  named = named_at setup entries plain legal;
  grow = λ i j d e. grow (rules_of setup) entries i j d e legal;
  sent = λ t got. one_send (rules_of setup) entries legal t got;
}

-- marks for the entries before a place
pub record AreMarked (kept : List Event) (entries : List Entry) (place : ℕ) (undone : List Bool) : Type 0 where
  pub count : length undone ≡ place
  pub right : (k : ℕ) → k < place → (slice_get undone k ≡ Some true) ↔ IsUndoneAt kept entries k

pub none_marked : (kept : List Event) (entries : List Entry) (undone : List Bool) → undone ≡ [] → AreMarked kept entries 0 undone
none_marked kept entries undone none = record { count = ap length none; right = λ k lt. absurd (omega (arith, lt)) }

length_more : {A : Type 0} (xs : List A) (x : A) → length (xs ++ x ∷ []) ≡ length xs + 1
length_more xs x = let a = length-append xs (x ∷ []) in omega (arith, a)

at_end : (xs : List Bool) (x : Bool) → slice_get (xs ++ x ∷ []) (length xs) ≡ Some x
at_end [] x = refl
at_end (y ∷ xs) x = at_end xs x

module _ (kept : List Event) (entries : List Entry) where
  pub marked_more : (place : ℕ) (undone more : List Bool) (b : Bool) → AreMarked kept entries place undone → IsTrue b ↔ IsUndoneAt kept entries place → more ≡ undone ++ b ∷ [] → AreMarked kept entries (place + 1) more
  marked_more place undone more b are test added = subst (AreMarked kept entries (place + 1)) (sym added) (record {
    count = length_more undone b ∙ ap (λ n. n + 1) are.count;
    right = λ k lt. ⊎_elim
        (λ (low : k < place). let left = get_left undone (b ∷ []) k (let c = are.count in omega (arith, c, low)) in (
          (λ t. (are.right k low).0 (sym left ∙ t)),
          (λ u. left ∙ (are.right k low).1 u),
        ))
        (λ (from : place ≤ k).
        let same : k ≡ length undone = (let c = are.count in omega (arith, c, from, lt)) in
        let here : k ≡ place = same ∙ are.count in
        let last : slice_get (undone ++ b ∷ []) k ≡ Some b = ap (slice_get (undone ++ b ∷ [])) same ∙ at_end undone b in (
          (λ t. subst (IsUndoneAt kept entries) (sym here) (test.0 (some_same (sym last ∙ t)))),
          (λ u. last ∙ ap Some (test.1 (subst (IsUndoneAt kept entries) here u))),
        ))
        (cases_lt k place);
  })

  -- behind the last entry nothing is undone
  pub all_marked : (setup : SessionView) (place : ℕ) (undone : List Bool) → length entries ≤ place → AreMarked kept entries place undone → HasKept (record { setup = setup; entries = entries; undone = undone }) kept
  all_marked setup place undone over are k = (
    (λ t. (are.right k (let c = are.count in let w = slice_get_within undone k true t in omega (arith, c, w))).0 t),
    (λ u. (are.right k (let w = slice_get_within entries k u.entry u.there in omega (arith, w, over))).1 u),
  )

-- where there is no mark, nothing is undone
pub no_mark : (r : RecordView) (kept : List Event) (place : ℕ) (marks : List Bool) → marks ≡ r.undone → length marks ≤ place → HasKept r kept → IsTrue false ↔ IsUndoneAt kept r.entries place
no_mark r kept place marks same past has = (
  (λ t. absurd cc),
  (λ u. absurd (let at : slice_get marks place ≡ Some true = ap (λ l. slice_get l place) same ∙ (has place).1 u in let w = slice_get_within marks place true at in omega (arith, w, past))),
)

pub recorded : (book : BookView) (setup : SessionView) (entries : List Entry) (undone : List Bool) → setup ≡ book.setup → entries ≡ book.entries
    → IsAcceptedProtocol book.setup.protocol → IsPlanned (roles_of book.setup) book.setup.plan → IsLegal (rules_of book.setup) book.entries
    → HasKept (record { setup = book.setup; entries = book.entries; undone = undone }) (state_of book).kept
    → IsRecord (record { setup = setup; entries = entries; undone = undone })
recorded book setup entries undone same all plain planned legal has =
    subst (λ (s : SessionView). IsRecord (record { setup = s; entries = entries; undone = undone })) (sym same)
    (subst (λ (l : List Entry). IsRecord (record { setup = book.setup; entries = l; undone = undone })) (sym all)
    (record { sound = legal_is_sound book.setup book.entries plain planned legal; kept = (state_of book).kept; has = has }))
