-- How many entries are undone, one entry more at a time.
use Rattle.std.proofs.Common.{◌≡◌, ℕ, suc, ◌+◌, ◌-◌, ◌≤◌, ◌<◌, Some, List, [], ◌∷◌, ◌++◌, length, take, drop, get_or, refl, sym, ◌∙◌, ap, subst, arith}
use Rattle.std.specs.Prelude.{slice_range}
use Rattle.std.proofs.Math.Seq.{take-suc}
use Rattle.std.proofs.lemmas.List.{get_or-drop, length-drop, length-take}
use Rattle.std.proofs.lemmas.Option.{slice_get-get_or}
use Rattle.rcv_tree.specs.declared.event.Event.{Event}
use Rattle.rcv_tree.specs.declared.entry.Entry.{Entry}
use Rattle.rcv_fates.specs.Fates.{IsUndone, IsUndoneAt}
use Rattle.rcv_rows.specs.Told.{AreUndone, AtEnd, Undone, Passed}

one_more : (kept : List Event) (run : List Entry) (e : Entry) (n : ℕ) → AreUndone kept run n → IsUndone kept e → AreUndone kept (run ++ e ∷ []) (suc n)
one_more kept [] e n AtEnd u = Undone u AtEnd
one_more kept (x ∷ run) e (suc n) (Undone v are) u = Undone v (one_more kept run e n are u)
one_more kept (x ∷ run) e n (Passed v are) u = Passed v (one_more kept run e n are u)

no_more : (kept : List Event) (run : List Entry) (e : Entry) (n : ℕ) → AreUndone kept run n → (IsUndone kept e → ⊥) → AreUndone kept (run ++ e ∷ []) n
no_more kept [] e n AtEnd u = Passed u AtEnd
no_more kept (x ∷ run) e (suc n) (Undone v are) u = Undone v (no_more kept run e n are u)
no_more kept (x ∷ run) e n (Passed v are) u = Passed v (no_more kept run e n are u)

-- one entry more of a list
range_more : {A : Type 0} (xs : List A) (a i : ℕ) (d : A) → a ≤ i → i < length xs → slice_range xs a (i + 1) ≡ slice_range xs a i ++ get_or xs i d ∷ []
range_more xs a i d le lt =
    let size : i - a < length (drop a xs) = omega (arith, length-drop a xs) in
    let longer : i + 1 - a ≡ suc (i - a) = omega arith in
    let there : a + (i - a) ≡ i = omega arith in
    ap (λ n. take n (drop a xs)) longer ∙ take-suc (drop a xs) (i - a) d size ∙ ap (λ x. take (i - a) (drop a xs) ++ x ∷ []) (get_or-drop a xs (i - a) d ∙ ap (λ n. get_or xs n d) there)

nth : (entries : List Entry) (i : ℕ) → i < length entries → Entry
nth [] i lt = absurd (omega arith)
nth (e ∷ entries) i lt = get_or (e ∷ entries) i e

-- the next entry of a run is undone, or isn't
pub next_undone : (kept : List Event) (entries : List Entry) (a i n : ℕ) → a ≤ i → i < length entries → AreUndone kept (slice_range entries a i) n → IsUndoneAt kept entries i → AreUndone kept (slice_range entries a (i + 1)) (n + 1)
next_undone kept entries a i n le lt are at =
    let e = at.entry in
    let is : get_or entries i e ≡ e = some_of (sym (slice_get-get_or entries i e lt) ∙ at.there) in
    let longer : suc n ≡ n + 1 = omega arith in
    subst (λ l. AreUndone kept l (n + 1)) (sym (range_more entries a i e le lt ∙ ap (λ x. slice_range entries a i ++ x ∷ []) is))
    (subst (λ m. AreUndone kept (slice_range entries a i ++ e ∷ []) m) longer
    (one_more kept (slice_range entries a i) e n are at.undone))
  where
    some_of : {x y : Entry} → Some x ≡ Some y → x ≡ y
    some_of e = cc

pub next_other : (kept : List Event) (entries : List Entry) (a i n : ℕ) → a ≤ i → i < length entries → AreUndone kept (slice_range entries a i) n → (IsUndoneAt kept entries i → ⊥) → AreUndone kept (slice_range entries a (i + 1)) n
next_other kept entries a i n le lt are plain =
    let e = nth entries i lt in
    subst (λ l. AreUndone kept l n) (sym (range_more entries a i e le lt))
    (no_more kept (slice_range entries a i) (get_or entries i e) n are (λ u. plain (record { entry = get_or entries i e; there = slice_get-get_or entries i e lt; undone = u })))

-- nothing is undone of no entries
pub no_range : {A : Type 0} (xs : List A) (a : ℕ) → slice_range xs a a ≡ []
no_range xs a = let zero_is : a - a ≡ 0 = omega arith in ap (λ n. take n (drop a xs)) zero_is

pub none_yet : (kept : List Event) (entries : List Entry) (a : ℕ) → AreUndone kept (slice_range entries a a) 0
none_yet kept entries a = subst (λ l. AreUndone kept l 0) (sym (no_range entries a)) AtEnd

-- no more than there are entries
pub few_undone : (kept : List Event) (run : List Entry) (n : ℕ) → AreUndone kept run n → n ≤ length run
few_undone kept [] n AtEnd = omega arith
few_undone kept (x ∷ run) (suc n) (Undone v are) = let few = few_undone kept run n are in omega (arith, few)
few_undone kept (x ∷ run) n (Passed v are) = let few = few_undone kept run n are in omega (arith, few)

pub few_in_range : (kept : List Event) (entries : List Entry) (a i n : ℕ) → a ≤ i → i ≤ length entries → AreUndone kept (slice_range entries a i) n → n ≤ i - a
few_in_range kept entries a i n le lt are =
    let few = few_undone kept (slice_range entries a i) n are in
    omega (arith, few, length-take (i - a) (drop a entries))

-- one number alone
pub same_number : (kept : List Event) (run : List Entry) (m n : ℕ) → AreUndone kept run m → AreUndone kept run n → m ≡ n
same_number kept [] m n AtEnd AtEnd = refl
same_number kept (x ∷ run) (suc m) (suc n) (Undone u a) (Undone v b) = ap suc (same_number kept run m n a b)
same_number kept (x ∷ run) (suc m) n (Undone u a) (Passed v b) = absurd (v u)
same_number kept (x ∷ run) m (suc n) (Passed u a) (Undone v b) = absurd (u v)
same_number kept (x ∷ run) m n (Passed u a) (Passed v b) = same_number kept run m n a b
