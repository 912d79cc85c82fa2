-- At the end each role has crashed exactly as often as it has crash lines that its raw count has come to.
use Rattle.std.proofs.Common.{◌≡◌, ℕ, zero, suc, ◌<◌, ◌≤◌, Bool, true, false, cond, List, [], ◌∷◌, refl, sym, ap, subst, ◌⊎◌, inl, inr, ⊎_elim, arith}
use Rattle.std.specs.Prelude.{nat_le, replicate}
use Rattle.std.specs.List.{count_by}
use Rattle.std.proofs.lemmas.Bool.{cases_eq, cases_lt, cases_Bool}
use Rattle.std.proofs.lemmas.List.Sums.{sum_by-cons}
use Rattle.std.proofs.lemmas.Bool.Decides.{nat_tests}
use Rattle.rcv_tree.specs.Numbers.{fresh}
use Rattle.rcv_tree.specs.declared.numbers.Numbers.{Numbers}
use Rattle.rcv_tree.specs.declared.event.Event.{Event}
use Rattle.rcv_tree.specs.declared.entry.Entry.{Entry}
use Rattle.rcv_tree.specs.declared.entry.Entry.TheVariants.{Send, Recv, Crash, Recover}
use Rattle.rcv_model.specs.Journal.{Rules, State, numbers_at, start, advanced, failed, numbers_behind, kept_by, group_of, concerned_in, after, after_event, reading_from, reading, May, IsLegalFrom, IsLegal}
use Rattle.rcv_model.specs.Final.{IsFinal}
use Rattle.rcv_model.specs.NumberLaws.{lines_reached}
use Rattle.rcv_model.proofs.Roles.{set_here, set_else, set_keeps, mapped_keeps, within, runs}
use Rattle.rcv_model.proofs.Numbers.{bounded}

-- a greater count comes to no fewer lines
reaches_more : (a b : ℕ) → a ≤ b → (xs : List ℕ) → count_by (λ n. nat_le n a) xs ≤ count_by (λ n. nat_le n b) xs
reaches_more a b le [] = omega arith
reaches_more a b le (x ∷ xs) =
    let ih = reaches_more a b le xs in
    omega (arith, ih, one x (cases_Bool (nat_le x a)) (cases_Bool (nat_le x b)), sum_by-cons (λ y. cond (nat_le y a) 1 0) x xs, sum_by-cons (λ y. cond (nat_le y b) 1 0) x xs)
  where
    one : (y : ℕ) → (nat_le y a ≡ true) ⊎ (nat_le y a ≡ false) → (nat_le y b ≡ true) ⊎ (nat_le y b ≡ false) → cond (nat_le y a) 1 0 ≤ cond (nat_le y b) 1 0
    one y (inl s) (inl t) = omega (arith, ap {B = ℕ} (λ (b : Bool). cond b 1 0) s, ap {B = ℕ} (λ (b : Bool). cond b 1 0) t)
    one y (inl s) (inr t) = absurd (grind (arith, nat_tests))
    one y (inr s) t = omega (arith, ap {B = ℕ} (λ (b : Bool). cond b 1 0) s)

no_number : (n r : ℕ) → (numbers_at (replicate n fresh) r).crashes ≡ 0
no_number zero r = refl
no_number (suc n) zero = refl
no_number (suc n) (suc r) = no_number n r

module _ (rules : Rules) where
  -- in a legal journal no role has crashed more often than its raw count has come to lines
  abbrev IsFew : State → ℕ → Type 0
  IsFew s r = (numbers_at s.roles r).crashes ≤ lines_reached rules s r

  few_more : (s t : State) (r : ℕ) → (numbers_at t.roles r).crashes ≡ (numbers_at s.roles r).crashes → (numbers_at s.roles r).raw ≤ (numbers_at t.roles r).raw → IsFew s r → IsFew t r
  few_more s t r same le few = omega (arith, few, same, reaches_more (numbers_at s.roles r).raw (numbers_at t.roles r).raw le (rules.crash_lines r))

  few_after : (s : State) (e : Event) (r : ℕ) → (numbers_at s.roles e.role).crashed ≡ false → IsFew s r → IsFew (after_event s e) r
  few_after s e r running few = few_more s (after_event s e) r (set_keeps (λ (n : Numbers). n.crashes) s.roles e.role r (advanced (numbers_at s.roles e.role) e.stamp) refl) (⊎_elim (λ f. own f) (λ f. omega (arith, ap (λ n. n.raw) (set_else s.roles e.role r (advanced (numbers_at s.roles e.role) e.stamp) f))) (cases_eq e.role r)) few
    where
      own : e.role ≡ r → (numbers_at s.roles r).raw ≤ (numbers_at (after_event s e).roles r).raw
      own f = subst (λ q. (numbers_at s.roles q).raw ≤ (numbers_at (after_event s e).roles q).raw) f (omega (arith, ap (λ n. n.raw) (set_here s.roles e.role (advanced (numbers_at s.roles e.role) e.stamp) (within s.roles e.role running))))

  few_one : (s : State) (e : Entry) (r : ℕ) → May rules s e → IsFew s r → IsFew (after rules s e) r
  few_one s (Send e) r may few = few_after s e r may.free.running few
  few_one s (Recv e) r may few = few_after s e r may.own.free.running few
  few_one s (Crash p) r may few = ⊎_elim (λ f. own f) (λ f. few_more s (after rules s (Crash p)) r (ap (λ n. n.crashes) (set_else s.roles p r (failed (numbers_at s.roles p)) f)) (omega (arith, set_keeps (λ (n : Numbers). n.raw) s.roles p r (failed (numbers_at s.roles p)) refl)) few) (cases_eq p r)
    where
      here : IsFew (after rules s (Crash p)) p
      here = let same = set_here s.roles p (failed (numbers_at s.roles p)) (within s.roles p may.1.0) in subst (λ n. n.crashes ≤ count_by (λ m. nat_le m n.raw) (rules.crash_lines p)) (sym same) (omega (arith, may.1.1))

      own : p ≡ r → IsFew (after rules s (Crash p)) r
      own f = subst (IsFew (after rules s (Crash p))) f here
  few_one s (Recover p concerned kept undone) r may few =
      let back = numbers_behind s (group_of rules p) (concerned_in rules s p) (kept_by rules s p) in
      few_more s (after rules s (Recover p concerned kept undone)) r (mapped_keeps (λ (n : Numbers). n.crashes) back (λ i n. refl) 0 r s.roles) (omega (arith, mapped_keeps (λ (n : Numbers). n.raw) back (λ i n. refl) 0 r s.roles)) few

  few_all : (s : State) (journal : List Entry) (r : ℕ) → IsLegalFrom rules s journal → IsFew s r → IsFew (reading_from rules s journal) r
  few_all s [] r legal few = few
  few_all s (e ∷ journal) r legal few = few_all (after rules s e) journal r legal.1 (few_one s e r legal.0 few)

pub crashes_are_as_planned : (rules : Rules) (journal : List Entry) (r : ℕ) → IsLegal rules journal → IsFinal rules (reading rules journal) → r < rules.roles → (numbers_at (reading rules journal).roles r).crashes ≡ lines_reached rules (reading rules journal) r
crashes_are_as_planned rules journal r legal final lt =
    let s = reading rules journal in
    let b = bounded rules journal legal in
    let most = few_all rules (start rules.roles) journal r legal (omega (arith, no_number rules.roles r)) in
    let calm = runs s r (subst (λ m. r < m) (sym b.numbers) lt) (final.none_crashed r) in
    let not_less : (numbers_at s.roles r).crashes < lines_reached rules s r → ⊥ = λ less. final.none_due r lt (calm, less) in
    ⊎_elim (λ less. absurd (not_less less)) (λ same. omega (arith, most, same)) (cases_lt (numbers_at s.roles r).crashes (lines_reached rules s r))
