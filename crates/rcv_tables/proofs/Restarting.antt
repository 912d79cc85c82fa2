-- Where each role restarts, and which roles are concerned.
use Rattle.std.proofs.Common.{◌≡◌, ℕ, zero, suc, ◌+◌, ◌<◌, ◌≤◌, Bool, true, false, ◌&&◌, ◌||◌, List, [], ◌∷◌, ◌++◌, length, get_or, take, refl, sym, ◌∙◌, ap, subst, ◌⊎◌, inl, inr, ⊎_elim, arith}
use Rattle.std.specs.Prelude.{◌==◌, ◌↔◌, Some, slice_get}
use Rattle.std.proofs.lemmas.Bool.{cases_eq, or_cases, or_left, or_right}
use Rattle.std.proofs.lemmas.Bool.Decides.{nat_tests}
use Rattle.rcv_tree.specs.Bits.{has_bit, has_point}
use Rattle.rcv_model.specs.Net.{Net, IsIn}
use Rattle.rcv_model.specs.Next.{IsProper}
use Rattle.rcv_model.specs.Table.{mark, IsMarkedAt, IsConcerned, AreRestarts}
use Rattle.rcv_tables.proofs.Rising.{rises_last}
use Rattle.rcv_points.proofs.Finding.{in_left, in_right, in_either}
use Rattle.rcv_accept.proofs.Rows.{each_pushed, long_pushed}
use Rattle.rcv_tables.specs.Line.{HasLine, line}
use Rattle.rcv_tables.specs.Ahead.{IsAhead, offered_here, behind_one}
use Rattle.rcv_tables.specs.Starts.{has_any, AreFirstMarks, AreListed, AreReceived, IsOwnPoint}
use Rattle.std.specs.List.Sorted.{IsStrictlyIncreasing}
use Rattle.std.proofs.lemmas.List.{take_all}
use Rattle.rcv_model.proofs.Checked.{both_true}
use Rattle.rcv_model.proofs.Same.{tail_rises, above_each}
use Rattle.rcv_points.proofs.Adding.{in_at, in_more, last_in}
use Rattle.rcv_tables.proofs.LineFacts.{line_proper}
use Rattle.rcv_tables.proofs.Starting.{of_marked, to_marked}

-- one point more of a set
module _ (words : List ℕ) where
  pub one_listed : (n : ℕ) (zs : List ℕ) → AreListed words n zs → has_point words (n + 1) ≡ true → AreListed words (n + 1) (zs ++ (n + 1) ∷ [])
  one_listed n zs are holds = record {
    ascending = rises_last zs (n + 1) are.ascending (λ z i. let le = (are.sound z i).1 in omega (arith, le));
    sound = λ z i. ⊎_elim (λ m. let a = are.sound z m in (a.0, (let le = a.1 in omega (arith, le)), a.2)) (λ m. ⊎_elim (λ e. new z e) (λ none. absurd none) m) (in_either z zs ((n + 1) ∷ []) i);
    complete = λ z low high t. ⊎_elim (λ same. in_right z zs ((n + 1) ∷ []) (inl same)) (λ m. in_left z zs ((n + 1) ∷ []) (are.complete z low (omega (arith, high, m)) t)) (cases_eq z (n + 1));
  }
    where
      new : (z : ℕ) → z ≡ n + 1 → (1 ≤ z) × (z ≤ n + 1) × (has_point words z ≡ true)
      new z e = (omega (arith, e), omega (arith, e), ap (has_point words) e ∙ holds)

  pub not_listed : (n : ℕ) (zs : List ℕ) → AreListed words n zs → has_point words (n + 1) ≡ false → AreListed words (n + 1) zs
  not_listed n zs are fails = record {
    ascending = are.ascending;
    sound = λ z i. let a = are.sound z i in (a.0, (let le = a.1 in omega (arith, le)), a.2);
    complete = λ z low high t. ⊎_elim (λ same. absurd (let a : has_point words (n + 1) ≡ true = sym (ap (has_point words) same) ∙ t in cc)) (λ m. are.complete z low (omega (arith, high, m)) t) (cases_eq z (n + 1));
  }

-- what stands before an item of a list that ascends is less
before_less : (xs : List ℕ) (i z : ℕ) → IsStrictlyIncreasing xs → i < length xs → IsIn z (take i xs) → z < get_or xs i 0
before_less [] i z up lt m = absurd (omega arith)
before_less (x ∷ xs) zero z up lt m = absurd m
before_less (x ∷ xs) (suc i) z up lt (inl e) = let f : x < get_or xs i 0 = above_each x xs up (get_or xs i 0) (in_at xs i (omega (arith, lt))) in omega (arith, e, f)
before_less (x ∷ xs) (suc i) z up lt (inr m) = before_less xs i z (tail_rises x xs up) (omega (arith, lt)) m

-- one point more of a list
module _ (net : Net) (marked : List ℕ) (q i y : ℕ) (zs : List ℕ) (lt : i < length marked) (is : y ≡ get_or marked i 0) (are : AreReceived net (take i marked) q zs) where
  pub one_received : IsStrictlyIncreasing marked → (net.receiver y == q) ≡ true → AreReceived net (take (i + 1) marked) q (zs ++ y ∷ [])
  one_received up holds = record {
    ascending = rises_last zs y are.ascending (λ z m. let less = before_less marked i z up lt (are.sound z m).0 in omega (arith, less, is));
    sound = λ z m. ⊎_elim (λ o. let a = are.sound z o in (in_more z marked i lt (inl a.0), a.1)) (λ o. ⊎_elim (λ e. (in_more z marked i lt (inr (e ∙ is)), ap net.receiver e ∙ got)) (λ none. absurd none) o) (in_either z zs (y ∷ []) m);
    complete = λ z m e. ⊎_elim (λ o. in_left z zs (y ∷ []) (are.complete z o e)) (λ same. in_right z zs (y ∷ []) (inl (same ∙ sym is))) (last_in z marked i lt m);
  }
    where
      got : net.receiver y ≡ q
      got = let f = holds in grind (arith, nat_tests)

  pub not_received : (net.receiver y == q) ≡ false → AreReceived net (take (i + 1) marked) q zs
  not_received fails = record {
    ascending = are.ascending;
    sound = λ z m. let a = are.sound z m in (in_more z marked i lt (inl a.0), a.1);
    complete = λ z m e. ⊎_elim (λ o. are.complete z o e) (λ same. absurd (never z (same ∙ sym is) e)) (last_in z marked i lt m);
  }
    where
      never : (z : ℕ) → z ≡ y → net.receiver z ≡ q → ⊥
      never z same e = let r : net.receiver y ≡ q = sym (ap net.receiver same) ∙ e in let f = fails in absurd (grind (arith, nat_tests))

pub received_whole : (net : Net) (marked : List ℕ) (q i : ℕ) (zs : List ℕ) → length marked ≤ i → AreReceived net (take i marked) q zs → AreReceived net marked q zs
received_whole net marked q i zs le are = subst (λ l. AreReceived net l q zs) (take_all i marked le) are

-- what lies ahead is a point of the text
pub ahead_in_text : (net : Net) → IsProper net 8 → {m : List ℕ} {k z : ℕ} → IsAhead net m k z → (1 ≤ z) × (z ≤ net.count)
ahead_in_text net proper (offered_here {marked = m} {k = k} {z = z} i g) = proper.in_text k z i
ahead_in_text net proper (behind_one i a) = ahead_in_text net proper a

-- the others restart where they are first marked
pub other_restarts : (net : Net) (has : HasLine net) (p n q : ℕ) (words marked zs : List ℕ) → IsProper net 8 → net.count ≤ 256 → (q ≡ p → ⊥) → IsOwnPoint net p n → AreFirstMarks (line net) p n words → AreListed words net.count marked → AreReceived net marked q zs → AreRestarts net p n q zs
other_restarts net has p n q words marked zs proper few apart start marks listed are = record {
  ascending = are.ascending;
  sound = λ z i.
      let a = are.sound z i in
      let b = listed.sound z a.0 in
      let low = b.0 in
      let high = b.1 in
      let m = (marks z (record { first = low; last = omega (arith, high, few) })).0 b.2 in
      inr (apart, subst (λ r. IsMarkedAt net p n r z) a.1 (to_marked net proper has p n start z (λ e. apart (sym a.1 ∙ e)) m));
  complete = λ z r. ⊎_elim (λ a. absurd (apart a.0)) (λ a. to_list z (of_marked net proper has p n start q z apart a.1)) r;
}
  where
    in_text : (z : ℕ) → ((z ≡ n) × (net.sender n ≡ p)) ⊎ IsAhead (line net) (mark net (p ∷ []) n) n z → (1 ≤ z) × (z ≤ net.count)
    in_text z (inl a) = subst (λ k. (1 ≤ k) × (k ≤ net.count)) (sym a.0) (start.0, start.1)
    in_text z (inr a) = ahead_in_text (line net) (line_proper net 8 proper) a

    to_list : (z : ℕ) → (q ≡ net.receiver z) × (((z ≡ n) × (net.sender n ≡ p)) ⊎ IsAhead (line net) (mark net (p ∷ []) n) n z) → IsIn z zs
    to_list z a =
        let t = in_text z a.1 in
        let low = t.0 in
        let high = t.1 in
        are.complete z (listed.complete z low high ((marks z (record { first = low; last = omega (arith, high, few) })).1 a.1)) (sym a.0)

-- the roles below a number, of a row
pub record RowSoFar (net : Net) (p n roles bits : ℕ) (lists : List (List ℕ)) : Type 0 where
  pub all : length lists ≡ roles
  pub each : (q : ℕ) (zs : List ℕ) → slice_get lists q ≡ Some zs → AreRestarts net p n q zs
  pub bits_are : (q : ℕ) → q < 8 → (has_bit bits q ≡ true) ↔ ((q < roles) × IsConcerned net p n q)

-- a role is concerned where it restarts anywhere
concerned_by : (net : Net) (p n q : ℕ) (zs : List ℕ) → AreRestarts net p n q zs → (has_any zs ≡ true) ↔ IsConcerned net p n q
concerned_by net p n q [] are = (λ t. absurd (cc), λ c. absurd (are.complete c.0 c.1))
concerned_by net p n q (z ∷ zs) are = (λ t. (z, are.sound z (inl refl)), λ c. refl)

module _ (net : Net) (p n : ℕ) where
  pub row_more : (roles bits more : ℕ) (lists new : List (List ℕ)) (zs : List ℕ) → RowSoFar net p n roles bits lists → AreRestarts net p n roles zs → new ≡ lists ++ zs ∷ [] → ((r : ℕ) → r < 8 → has_bit more r ≡ (has_bit bits r || (roles == r && has_any zs))) → RowSoFar net p n (roles + 1) more new
  row_more roles bits more lists new zs so are pushed set = record {
    all = long_pushed lists new zs roles pushed so.all;
    each = each_pushed (λ q (l : List ℕ). AreRestarts net p n q l) lists new zs roles pushed so.all so.each are;
    bits_are = λ q low. (λ t. to q low (or_cases (has_bit bits q) (roles == q && has_any zs) (sym (set q low) ∙ t)), λ a. set q low ∙ from q low a (cases_eq q roles));
  }
    where
      to : (q : ℕ) → q < 8 → (has_bit bits q ≡ true) ⊎ ((roles == q && has_any zs) ≡ true) → (q < roles + 1) × IsConcerned net p n q
      to q low (inl t) = let a = (so.bits_are q low).0 t in let lt = a.0 in (omega (arith, lt), a.1)
      to q low (inr t) =
          let a = both_true (roles == q) (has_any zs) t in
          let e : roles ≡ q = (let f = a.0 in grind (arith, nat_tests)) in
          (omega (arith, e), subst (λ r. IsConcerned net p n r) e ((concerned_by net p n roles zs are).0 a.1))

      from : (q : ℕ) → q < 8 → (q < roles + 1) × IsConcerned net p n q → (q ≡ roles) ⊎ (q ≡ roles → ⊥) → (has_bit bits q || (roles == q && has_any zs)) ≡ true
      from q low a (inl e) =
          let f : (roles == q) ≡ true = grind (arith, nat_tests) in
          let g : has_any zs ≡ true = (concerned_by net p n roles zs are).1 (subst (λ r. IsConcerned net p n r) e a.1) in
          or_right (has_bit bits q) (roles == q && has_any zs) (rw (f, g) refl)
      from q low a (inr m) = let lt = a.0 in or_left (has_bit bits q) (roles == q && has_any zs) ((so.bits_are q low).1 (omega (arith, lt, m), a.1))
