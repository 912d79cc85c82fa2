-- A crash line more is found, and the steps of a reader at one number.
use Rattle.std.proofs.Common.{◌≡◌, ℕ, Bool, true, false, List, [], ◌∷◌, ◌++◌, refl, ◌∙◌, ap, sym, subst}
use Rattle.std.proofs.lemmas.List.Folds.{list_any-append}
use Rattle.std.specs.Prelude.{◌<◌, cond, Option, Some, None, ◌||◌, ◌&&◌, ◌==◌}
use Rattle.rcv_tree.specs.declared.role.RoleSet.{RoleSet}
use Rattle.rcv_tree.specs.Bits.{is_listed}
use Rattle.rcv_tree.specs.Names.{place_of}
use Rattle.rcv_model.specs.Plan.{PlanLine, CrashLine}
use Rattle.rcv_plan.specs.declared.sign.Sign.TheVariants.{Comma}
use Rattle.rcv_plan.specs.Symbols.{Symbol, Is, Word, Number, Text}
use Rattle.rcv_plan.specs.declared.fault.Fault.TheVariants.{Twice}
use Rattle.rcv_plan.specs.Lines.{has_crash, is_crash, is_hosted}
use Rattle.rcv_plan.specs.Codes.{within}
use Rattle.rcv_plan.specs.CrashCounts.{crashes_at}
use Rattle.rcv_plan.specs.Items.{AreFound, KnownView, Step, Takes, Stops, goes_on, found, unhosted, next_member, next_members, next_count}

pub found_more : (p m : ℕ) (lines : List PlanLine) (before now : List RoleSet) → AreFound before lines
    → ((r n : ℕ) → r < 8 → crashes_at r n now ≡ (crashes_at r n before || (p == r && m == n)))
    → AreFound now (lines ++ CrashLine p m ∷ [])
found_more p m lines before now ties more r n l =
    more r n l
    ∙ ap (λ (b : Bool). b || (p == r && m == n)) (ties r n l)
    ∙ ap (λ (b : Bool). has_crash r n lines || b) (sym (or_none (p == r && m == n)))
    ∙ sym (list_any-append (is_crash r n) lines (CrashLine p m ∷ []))
  where
    or_none : (b : Bool) → (b || false) ≡ b
    or_none true = refl
    or_none false = refl

pub count_twice : (k : KnownView) (p n number : ℕ) (old after : List Symbol) → old ≡ Number number ∷ after → n ≡ number → within 0 100000 n ≡ true → has_crash p n k.lines ≡ true
    → next_count k p old ≡ Stops Twice old
count_twice k p n number old after e is w h =
    subst (λ (z : List Symbol). next_count k p z ≡ Stops Twice z) (sym e)
    (subst (λ (x : ℕ). next_count k p (Number x ∷ after) ≡ Stops Twice (Number x ∷ after)) is (rw (w, h) refl))

pub count_taken : (k : KnownView) (p n number : ℕ) (old after : List Symbol) → old ≡ Number number ∷ after → n ≡ number → within 0 100000 n ≡ true → has_crash p n k.lines ≡ false
    → next_count k p old ≡ Takes n after
count_taken k p n number old after e is w h =
    subst (λ (z : List Symbol). next_count k p z ≡ Takes n after) (sym e)
    (subst (λ (x : ℕ). next_count k p (Number x ∷ after) ≡ Takes n after) is (rw (w, h) refl))

-- what is left behind a role of a host
member_left : (roles : List (List ℕ)) (k : KnownView) (qs all : List ℕ) (r : List ℕ) (ts new : List Symbol) → next_member roles k qs (Word r ∷ ts) ≡ Takes all new → new ≡ ts
member_left roles k qs all r ts new e = go (place_of roles r) e
  where
    taken : (b : Bool) (p : ℕ) → cond b (Stops Twice (Word r ∷ ts)) (Takes (qs ++ p ∷ []) ts) ≡ Takes all new → new ≡ ts
    taken true p h = absurd cc
    taken false p h = cc

    go : (o : Option ℕ) → goes_on (found o (Word r ∷ ts) ts) (unhosted k qs (Word r ∷ ts)) ≡ Takes all new → new ≡ ts
    go None h = absurd cc
    go (Some p) h = taken (is_listed qs p || is_hosted p k.lines) p h

pub comma_more : (roles : List (List ℕ)) (k : KnownView) (qs all : List ℕ) (old mid new : List Symbol) → old ≡ Is Comma ∷ mid → next_member roles k qs mid ≡ Takes all new
    → next_members roles k all new ≡ next_members roles k qs old
comma_more roles k qs all old (Word r ∷ ts) new cut e =
    let left = member_left roles k qs all r ts new e in
    ap (next_members roles k all) left
    ∙ sym (ap (next_members roles k qs) cut ∙ ap (λ (s : Step (List ℕ)). goes_on s (λ q after. next_members roles k q ts)) e)
comma_more roles k qs all old [] new cut e = absurd cc
comma_more roles k qs all old (Number n ∷ ts) new cut e = absurd cc
comma_more roles k qs all old (Is n ∷ ts) new cut e = absurd cc
comma_more roles k qs all old (Text n ∷ ts) new cut e = absurd cc
