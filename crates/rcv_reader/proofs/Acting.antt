-- A role that is taken: what the machine says of it, and what is known behind it.
use Rattle.std.proofs.Common.{◌≡◌, ℕ, ◌+◌, ◌<◌, ◌≤◌, false, ◌||◌, ◌==◌, nat_le, List, [], ◌∷◌, ◌++◌, length, Option, Some, refl, sym, ap, subst, ◌∙◌, arith}
use Rattle.std.proofs.lemmas.Bool.Decides.{nat_tests}
use Rattle.rcv_tree.specs.Bits.{has_bit}
use Rattle.rcv_machine.specs.Words.{Sign, To, Twice, SelfMessage, TooMany, Shared, Symbol, Is, Word, place_of, is_listed, Named, with_role, Item, This, Subject, Sender, Receiver, MoreReceivers, Argument, MoreArguments, Outcome, On, by_place, unless, after, answer, known}
use Rattle.rcv_reader.specs.Descent.{Standing, at, back_at, has_place, named_in, answers}
use Rattle.rcv_reader.proofs.Named.{named_more}

-- It is a role, and none of the earlier ones.
passes_role : (o : Option ℕ) (r earlier : ℕ) (next : ℕ → Outcome) → o ≡ Some r → has_bit earlier r ≡ false
    → by_place o (λ q. unless (has_place earlier o) Shared (next q)) ≡ next r
passes_role o r earlier next is free = rw (is, free) refl

passes_receiver : (o : Option ℕ) (r earlier sender count : ℕ) (before : List ℕ) (next : ℕ → Outcome) → o ≡ Some r
    → is_listed r before ≡ false → (r == sender) ≡ false → nat_le 256 count ≡ false → has_bit earlier r ≡ false
    → by_place o (λ q. unless (is_listed q before) Twice (unless (q == sender) SelfMessage (unless (nat_le 256 count) TooMany
    (unless (has_place earlier o) Shared (next q))))) ≡ next r
passes_receiver o r earlier sender count before next is first apart few free = rw (is, first, apart, few, free) refl

passes_argument : (o : Option ℕ) (r earlier : ℕ) (before : List ℕ) (next : ℕ → Outcome) → o ≡ Some r
    → is_listed r before ≡ false → has_bit earlier r ≡ false
    → by_place o (λ q. unless (is_listed q before) Twice (unless (has_place earlier o) Shared (next q))) ≡ next r
passes_argument o r earlier before next is first free = rw (is, first, free) refl

pub is_few : (n m : ℕ) → n < m → nat_le m n ≡ false
is_few n m lt = grind (arith, nat_tests)

-- the bit of the role was set
abbrev pub IsNamed : ℕ → ℕ → ℕ → Type 0
IsNamed old new r = (q : ℕ) → q < 8 → has_bit new q ≡ (has_bit old q || r == q)

module _ (p new : Standing) (earlier r : ℕ) (n : List ℕ) (ts : List Symbol) where
  pub acted : length p.roles ≤ 8 → p ≡ at p (Word n ∷ ts) → place_of p.roles n ≡ Some r → has_bit earlier r ≡ false
      → IsNamed p.since new.since r → new ≡ back_at p p.count new.since ts → (k : List Item)
      → (answers p (Subject (named_in p.roles earlier) ∷ k) ≡ answers new k)
      × (answers p (Sender (named_in p.roles earlier) ∷ k) ≡ answers new (This (Is To) ∷ Receiver (named_in p.roles earlier) r [] ∷ k))
  acted few here is free set there k =
      let since = named_more p.roles p.since new.since r n few is set in
      let on = λ (items : ℕ → List Item).
      ap (λ (o : Outcome). after o (Word n ∷ ts) (λ s' k'. answer s' k' ts))
      (passes_role (place_of p.roles n) r earlier (λ q. On (known p.protocols p.roles p.count (with_role (named_in p.roles p.since) n)) (items q)) is free)
      ∙ ap (λ (named : Named). answer (known p.protocols p.roles p.count named) (items r) ts) (sym since)
      ∙ ap (λ (x : Standing). answers x (items r)) (sym there) in (
        ap (λ (x : Standing). answers x (Subject (named_in p.roles earlier) ∷ k)) here ∙ on (λ q. k),
        ap (λ (x : Standing). answers x (Sender (named_in p.roles earlier) ∷ k)) here
            ∙ on (λ q. This (Is To) ∷ Receiver (named_in p.roles earlier) q [] ∷ k),
      )

  pub received : (sender : ℕ) (before : List ℕ) → length p.roles ≤ 8 → p ≡ at p (Word n ∷ ts) → place_of p.roles n ≡ Some r
      → is_listed r before ≡ false → (r == sender) ≡ false → nat_le 256 p.count ≡ false → has_bit earlier r ≡ false
      → IsNamed p.since new.since r → new ≡ back_at p (p.count + 1) new.since ts → (k : List Item)
      → answers p (Receiver (named_in p.roles earlier) sender before ∷ k)
      ≡ answers new (MoreReceivers (named_in p.roles earlier) sender (before ++ r ∷ []) ∷ k)
  received sender before few here is first apart short free set there k =
      let since = named_more p.roles p.since new.since r n few is set in
      let items = λ (q : ℕ). MoreReceivers (named_in p.roles earlier) sender (before ++ q ∷ []) ∷ k in
      ap (λ (x : Standing). answers x (Receiver (named_in p.roles earlier) sender before ∷ k)) here
      ∙ ap (λ (o : Outcome). after o (Word n ∷ ts) (λ s' k'. answer s' k' ts))
      (passes_receiver (place_of p.roles n) r earlier sender p.count before
      (λ q. On (known p.protocols p.roles (p.count + 1) (with_role (named_in p.roles p.since) n)) (items q)) is first apart short free)
      ∙ ap (λ (named : Named). answer (known p.protocols p.roles (p.count + 1) named) (items r) ts) (sym since)
      ∙ ap (λ (x : Standing). answers x (items r)) (sym there)

  pub argued : (before : List ℕ) → length p.roles ≤ 8 → p ≡ at p (Word n ∷ ts) → place_of p.roles n ≡ Some r
      → is_listed r before ≡ false → has_bit earlier r ≡ false → IsNamed p.since new.since r → new ≡ back_at p p.count new.since ts
      → (k : List Item) → answers p (Argument (named_in p.roles earlier) before ∷ k)
      ≡ answers new (MoreArguments (named_in p.roles earlier) (before ++ r ∷ []) ∷ k)
  argued before few here is first free set there k =
      let since = named_more p.roles p.since new.since r n few is set in
      let items = λ (q : ℕ). MoreArguments (named_in p.roles earlier) (before ++ q ∷ []) ∷ k in
      ap (λ (x : Standing). answers x (Argument (named_in p.roles earlier) before ∷ k)) here
      ∙ ap (λ (o : Outcome). after o (Word n ∷ ts) (λ s' k'. answer s' k' ts))
      (passes_argument (place_of p.roles n) r earlier before
      (λ q. On (known p.protocols p.roles p.count (with_role (named_in p.roles p.since) n)) (items q)) is first free)
      ∙ ap (λ (named : Named). answer (known p.protocols p.roles p.count named) (items r) ts) (sym since)
      ∙ ap (λ (x : Standing). answers x (items r)) (sym there)

-- the same behind a sign
pub role_taken : (old p new : Standing) (sign : Sign) (n : List ℕ) (r earlier : ℕ) (ts : List Symbol)
    → ((k : List Item) → answers old (This (Is sign) ∷ k) ≡ answers p k) → old ≡ at p (Is sign ∷ p.rest)
    → length p.roles ≤ 8 → p ≡ at p (Word n ∷ ts) → place_of p.roles n ≡ Some r → has_bit earlier r ≡ false
    → IsNamed p.since new.since r → new ≡ back_at p p.count new.since ts → (k : List Item)
    → (answers old (This (Is sign) ∷ Subject (named_in old.roles earlier) ∷ k) ≡ answers new k)
    × (answers old (This (Is sign) ∷ Sender (named_in old.roles earlier) ∷ k)
    ≡ answers new (This (Is To) ∷ Receiver (named_in old.roles earlier) r [] ∷ k))
role_taken old p new sign n r earlier ts goes read few here is free set there k =
    let roles : p.roles ≡ old.roles = sym (ap (λ (x : Standing). x.roles) read) in
    let on = acted p new earlier r n ts few here is free set there k in
    subst (λ (all : List (List ℕ)). (answers old (This (Is sign) ∷ Subject (named_in all earlier) ∷ k) ≡ answers new k)
    × (answers old (This (Is sign) ∷ Sender (named_in all earlier) ∷ k) ≡ answers new (This (Is To) ∷ Receiver (named_in all earlier) r [] ∷ k)))
    roles (goes (Subject (named_in p.roles earlier) ∷ k) ∙ on.0, goes (Sender (named_in p.roles earlier) ∷ k) ∙ on.1)

pub role_spelled : (old p new : Standing) (sign : Sign) (n : List ℕ) (r : ℕ) (ts : List Symbol) → old ≡ at p (Is sign ∷ p.rest)
    → p ≡ at p (Word n ∷ ts) → place_of p.roles n ≡ Some r → new ≡ back_at p p.count new.since ts
    → (place_of new.roles n ≡ Some r) × (old ≡ back_at new new.count old.since (Is sign ∷ Word n ∷ new.rest))
role_spelled old p new sign n r ts read here is there =
    let protocols = ap (λ (x : Standing). x.protocols) there in
    let roles = ap (λ (x : Standing). x.roles) there in
    let recs = ap (λ (x : Standing). x.recs) there in
    let count = ap (λ (x : Standing). x.count) there in
    let rest = ap (λ (x : Standing). x.rest) there in
    let since = ap (λ (x : Standing). x.since) read in (
      rw roles is,
      read ∙ rw (protocols, roles, recs, count, rest, since) (ap (λ (x : Standing). at p (Is sign ∷ x.rest)) here),
    )
