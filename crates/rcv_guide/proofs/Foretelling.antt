-- What the table says of a failure is what some events lose, however many of each failed role were saved.
use Rattle.std.proofs.Common.{◌≡◌, ℕ, ◌<◌, Bool, true, false, if◌then◌else◌, Option, Some, None, List, refl, sym, ◌∙◌, ap, subst, inl, inr, ⊎_elim, arith}
use Rattle.std.specs.Prelude.{◌↔◌}
use Rattle.rcv_tree.specs.Bits.{has_bit}
use Rattle.rcv_tree.specs.declared.event.Event.{Event}
use Rattle.rcv_model.specs.Net.{Net, IsIn}
use Rattle.rcv_model.specs.Table.{IsConcerned, start_of, IsConcernedByAny}
use Rattle.rcv_tables.specs.Starts.{IsOwnPoint}
use Rattle.rcv_tables.specs.Told.{start_at, AreStarts, AreConcernedBy}
use Rattle.rcv_tables.specs.Laws.{number_of}

number_some : (o : Option ℕ) (n : ℕ) → number_of o ≡ n → (n ≡ 0 → ⊥) → o ≡ Some n
number_some None n e some = absurd (some (sym e))
number_some (Some m) n e some = ap Some e

-- where each role's start is one of its points
module _ (net : Net) (h : List Event) (counts : ℕ → ℕ) (own_start : (q n : ℕ) → start_of counts h q ≡ Some n → IsOwnPoint net q n) where
  -- a group fails, and these are its starts
  module _ (group : List ℕ) (failed : ℕ) (starts : List ℕ) (few : (q : ℕ) → IsIn q group → q < 8) (in_group : (q : ℕ) → q < 8 → (has_bit failed q ≡ true) ↔ IsIn q group) (starts_are : (q : ℕ) → q < 8 → start_at starts q ≡ (if has_bit failed q then number_of (start_of counts h q) else 0)) where
    -- a start that isn't 0
    real : (q : ℕ) → q < 8 → (start_at starts q ≡ 0 → ⊥) → (has_bit failed q ≡ true) × (start_of counts h q ≡ Some (start_at starts q))
    real q low some = go (has_bit failed q) refl
      where
        told : (b : Bool) → has_bit failed q ≡ b → start_at starts q ≡ (if b then number_of (start_of counts h q) else 0)
        told b e = subst (λ c. start_at starts q ≡ (if c then number_of (start_of counts h q) else 0)) e (starts_are q low)

        go : (b : Bool) → has_bit failed q ≡ b → (has_bit failed q ≡ true) × (start_of counts h q ≡ Some (start_at starts q))
        go true e = (e, number_some (start_of counts h q) (start_at starts q) (sym (told true e)) some)
        go false e = absurd (some (told false e))

    pub may_ask : AreStarts net failed starts
    may_ask q low some =
        let r = real q low some in
        record { own = own_start q (start_at starts q) r.1; among = r.0 }

    -- the start of a role of the group
    told_of : (q n : ℕ) → IsIn q group → start_of counts h q ≡ Some n → start_at starts q ≡ n
    told_of q n i e =
        let low = few q i in
        starts_are q low ∙ ap (λ b. if b then number_of (start_of counts h q) else 0) ((in_group q low).1 i) ∙ ap number_of e

    pub foretold : (bits : ℕ) → AreConcernedBy net failed starts bits → (q : ℕ) → q < 8 → (has_bit bits q ≡ true) ↔ IsConcernedByAny net group (start_of counts h) q
    foretold bits are q low = (
      λ t. ⊎_elim (λ f. inl ((in_group q low).0 f)) (λ a. let r = real a.0 a.1 a.2 in inr (a.0, start_at starts a.0, (in_group a.0 a.1).0 r.0, r.1, a.3)) ((are q low).0 t),
      λ c. (are q low).1 (⊎_elim (λ i. inl ((in_group q low).1 i)) (λ a. inr (below a)) c),
    )
      where
        below : (r : ℕ) × (n : ℕ) × IsIn r group × (start_of counts h r ≡ Some n) × IsConcerned net r n q → (r : ℕ) × (r < 8) × (start_at starts r ≡ 0 → ⊥) × IsConcerned net r (start_at starts r) q
        below a =
            let same = told_of a.0 a.1 a.2 a.3 in
            let own = own_start a.0 a.1 a.3 in
            let low = own.0 in
            (a.0, few a.0 a.2, (λ e. absurd (omega (arith, low, same, e))), subst (λ n. IsConcerned net a.0 n q) (sym same) a.4)
