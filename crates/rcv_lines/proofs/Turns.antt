-- What a recovery says, role by role.
use Rattle.std.proofs.Common.{◌≡◌, ◌∙◌, ◌+◌, ◌-◌, ◌<◌, ◌≤◌, ◌*◌, ◌^◌, ◌/◌, ◌%◌, ◌==◌, ◌||◌, ℕ, zero, suc, Bool, true, false, true≢false, cond, List, [], ◌∷◌, ◌++◌, flat_map, take, drop, length, get_or, set, Option, Some, None, refl, sym, ap, ap₂, subst, ⊎_elim, arith, eq-eqb, ne_eqb, append_assoc, append-nil, length-append, Bor}
use Rattle.std.specs.Prelude.{slice_index, IfNone}
use Rattle.std.specs.List.{All, range_with_len}
use Rattle.std.specs.Int.{bit_at}
use Rattle.std.proofs.lemmas.Bool.{cases_eq, cases_lt}
use Rattle.std.proofs.lemmas.List.{flat_map_more, get_or-set_same, get_or-set_other, length-set}
use Rattle.std.proofs.lemmas.Nat.Bits.{same_from_bits_below, bit_at-lt, bit_at-zero}
use Rattle.std.proofs.lemmas.List.{length-drop, length-map, drop-map, take_rest}
use Rattle.std.proofs.lemmas.Nat.{shr-shr, pow_pos}
use Rattle.std.proofs.Math.Nat.{lt-div-mul-add, div-eq_of_lt, div-le_self}
use Rattle.std.proofs.Math.Pow.{pow-lt}
use Rattle.rcv_tree.specs.Bits.{has_bit}
use Rattle.rcv_tree.specs.Names.{name_at}
use Rattle.rcv_model.specs.Names.{AreDifferent}
use Rattle.rcv_lines.specs.Cutting.{texts}
use Rattle.rcv_journal.specs.Form.{AreCuts}
use Rattle.rcv_lines.specs.Named.{cut_at, cut_fields, cuts_fields, kept_fields, BeginOtherwise, FitsCut}
use Rattle.rcv_lines.proofs.Naming.{same_role}

range_more : (a n : ℕ) → range_with_len a (suc n) ≡ range_with_len a n ++ (a + n) ∷ []
range_more a zero = let same : a ≡ a + 0 = omega arith in ap (λ x. x ∷ []) same
range_more a (suc n) =
    let next : a + 1 + n ≡ a + suc n = omega arith in
    ap (λ xs. a ∷ xs) (range_more (a + 1) n ∙ ap (λ x. range_with_len (a + 1) n ++ x ∷ []) next)

-- What is said of the numbers from 0 on, and of one more.
said_of_one_more : {X : Type 0} (said : ℕ → List X) (n : ℕ) → flat_map said (range_with_len 0 (n + 1)) ≡ flat_map said (range_with_len 0 n) ++ said n
said_of_one_more said n =
    let count : n + 1 ≡ suc n = omega arith in
    let next : 0 + n ≡ n = omega arith in
    ap (λ k. flat_map said (range_with_len 0 k)) count ∙ ap (flat_map said) (range_more 0 n ∙ ap (λ k. range_with_len 0 n ++ k ∷ []) next) ∙ sym (flat_map_more said [] (range_with_len 0 n) n)

-- What is said of numbers that two ways say alike.
said_alike : {X : Type 0} (f g : ℕ → List X) (a n : ℕ) → ((q : ℕ) → a ≤ q → q < a + n → f q ≡ g q) → flat_map f (range_with_len a n) ≡ flat_map g (range_with_len a n)
said_alike f g a zero same = refl
said_alike f g a (suc n) same =
    ap₂ (λ x y. x ++ y) (same a (omega arith) (omega arith)) (said_alike f g (a + 1) n (λ q from below. same q (omega (arith, from)) (omega (arith, below))))

-- Nothing is said where nothing is said of each.
said_nothing : {X : Type 0} (f : ℕ → List X) (a n : ℕ) → ((q : ℕ) → f q ≡ []) → flat_map f (range_with_len a n) ≡ []
said_nothing f a zero none = refl
said_nothing f a (suc n) none = ap₂ (λ x y. x ++ y) (none a) (said_nothing f (a + 1) n none)

empty_left : {X : Type 0} (xs ys : List X) → xs ++ ys ≡ [] → xs ≡ []
empty_left [] ys e = refl
empty_left (x ∷ xs) ys e = absurd (omega (arith, ap length e))

empty_right : {X : Type 0} (xs ys : List X) → xs ++ ys ≡ [] → ys ≡ []
empty_right [] ys e = e
empty_right (x ∷ xs) ys e = absurd (omega (arith, ap length e))

said_none : {X : Type 0} (f : ℕ → List X) (a n : ℕ) → flat_map f (range_with_len a n) ≡ [] → (q : ℕ) → a ≤ q → q < a + n → f q ≡ []
said_none f a zero e q from below = absurd (omega (arith, from, below))
said_none f a (suc n) e q from below = ⊎_elim
    (λ same. subst (λ k. f k ≡ []) (sym same) (empty_left (f a) (flat_map f (range_with_len (a + 1) n)) e))
    (λ other. said_none f (a + 1) n (empty_right (f a) (flat_map f (range_with_len (a + 1) n)) e) q (omega (arith, from, other)) (omega (arith, below)))
    (cases_eq q a)

-- Bits.
no_bit : (w i : ℕ) → has_bit w i ≡ false → bit_at w i ≡ 0
no_bit w i e = go (bit_at w i) (bit_at-lt w i) e
  where
    go : (x : ℕ) → x < 2 → (x == 1) ≡ false → x ≡ 0
    go zero p f = refl
    go (suc zero) p f = absurd (cc)
    go (suc (suc x)) p f = absurd (omega arith)

pub zero_bit : (i : ℕ) → has_bit 0 i ≡ false
zero_bit i = ap (λ n. n == 1) (bit_at-zero i)

bit_left : (word s i : ℕ) → bit_at (word / 2 ^ s) i ≡ bit_at word (s + i)
bit_left word s i = ap (λ n. n % 2) (shr-shr word s i)

-- A number with no bit from n on, of 8, is below 2 ^ n.
pub below_power : (word n : ℕ) → word < 2 ^ 8 → n ≤ 8 → ((q : ℕ) → n ≤ q → q < 8 → has_bit word q ≡ false) → word < 2 ^ n
below_power word n fits few none =
    let gone : word / 2 ^ n ≡ 0 = same_from_bits_below 8 (word / 2 ^ n) 0 (small word n fits) (omega arith) (λ i lt. bit_left word n i ∙ ⊎_elim
    (λ inside. no_bit word (n + i) (none (n + i) (omega arith) inside))
    (λ past. ap (λ m. m % 2) (div-eq_of_lt (lt_le_lt word (2 ^ 8) (2 ^ (n + i)) fits (powers 8 (n + i) past))))
    (cases_lt (n + i) 8) ∙ sym (bit_at-zero i)) in
    let at = subst (λ m. word < m * 2 ^ n + 2 ^ n) gone (lt-div-mul-add (pow_pos n)) in
    omega (arith, at)
  where
    lt_le_lt : (a b c : ℕ) → a < b → b ≤ c → a < c
    lt_le_lt a b c p q = omega (arith, p, q)

    powers : (a b : ℕ) → a ≤ b → 2 ^ a ≤ 2 ^ b
    powers a b le = ⊎_elim (λ same. subst (λ k. 2 ^ a ≤ 2 ^ k) (sym same) (omega arith)) (λ other. let below = pow-lt {i = a} {j = b} (omega (arith, le, other)) in omega (arith, below)) (cases_eq b a)

    small : (w k : ℕ) → w < 2 ^ 8 → w / 2 ^ k < 2 ^ 8
    small w k lt = let least = div-le_self w (2 ^ k) in omega (arith, least, lt)

-- The roles up to one that were read, the place behind their fields, and what was read.
pub record Reading (names F : List (List ℕ)) (role place concerned : ℕ) (kept : List ℕ) : Type 0 where
  pub inside : place ≤ length F
  pub above : (q : ℕ) → role ≤ q → q < 8 → has_bit concerned q ≡ false
  pub eight : length kept ≡ 8
  pub fit : All (λ n. n < 2 ^ 32) kept
  pub others : (q : ℕ) → has_bit concerned q ≡ false → q < 8 → slice_index kept q ≡ 0
  pub said : F ≡ cuts_fields names concerned kept role ++ drop place F
  pub only : (c : ℕ) (k : List ℕ) → AreCuts (length names) c k → F ≡ cuts_fields names c k (length names)
      → drop place F ≡ flat_map (kept_fields names c k) (range_with_len role (length names - role))

any_number : (xs : List ℕ) (i d e : ℕ) → i < length xs → get_or xs i d ≡ get_or xs i e
any_number [] i d e inside = absurd (omega (arith, inside))
any_number (x ∷ xs) zero d e inside = refl
any_number (x ∷ xs) (suc i) d e inside = any_number xs i d e (omega (arith, inside))

-- Nothing was read yet.
pub begun : (names F : List (List ℕ)) (concerned : ℕ) (kept : List ℕ) → concerned ≡ 0 → length kept ≡ 8 → ((q : ℕ) → slice_index kept q ≡ 0) → Reading names F 0 0 concerned kept
begun names F concerned kept none eight zeros =
    record {
      inside = omega arith;
      above = λ q from below. ap (λ c. has_bit c q) none ∙ zero_bit q;
      eight = eight;
      fit = λ k d inside. let zero_so = any_number kept k d 0 inside ∙ zeros k in omega (arith, zero_so);
      others = λ q off below. zeros q;
      said = refl;
      only = λ c k are is. let all : length names ≡ length names - 0 = omega arith in is ∙ ap (λ n. flat_map (kept_fields names c k) (range_with_len 0 n)) all;
    }

-- What a role's cut changes.
pub record Noted (role : ℕ) (count : Option ℕ) (concerned concerned' : ℕ) (kept kept' : List ℕ) : Type 0 where
  pub here : cut_at concerned' kept' role ≡ count
  pub quiet : has_bit concerned' role ≡ false → slice_index kept' role ≡ slice_index kept role
  pub bits : (q : ℕ) → q < 8 → (q ≡ role → ⊥) → has_bit concerned' q ≡ has_bit concerned q
  pub counts : (q : ℕ) → (q ≡ role → ⊥) → slice_index kept' q ≡ slice_index kept q
  pub eight : length kept' ≡ length kept
  pub fit : FitsCut count → All (λ n. n < 2 ^ 32) kept → All (λ n. n < 2 ^ 32) kept'

set_fits : (xs : List ℕ) (i n : ℕ) → n < 2 ^ 32 → All (λ m. m < 2 ^ 32) xs → All (λ m. m < 2 ^ 32) (set xs i n)
set_fits xs i n fits all = λ k d inside. ⊎_elim
    (λ same. subst (λ j. get_or (set xs i n) j d < 2 ^ 32) (sym same) (subst (λ m. m < 2 ^ 32) (sym (get_or-set_same xs i n d (omega (arith, inside, length-set xs i n, same)))) fits))
    (λ other. subst (λ m. m < 2 ^ 32) (sym (get_or-set_other xs i k n d other)) (all k d (omega (arith, inside, length-set xs i n))))
    (cases_eq k i)

or_true : (b : Bool) → (b || true) ≡ true
or_true true = refl
or_true false = refl

or_false : (b : Bool) → (b || false) ≡ b
or_false true = refl
or_false false = refl

pub noted : (role : ℕ) (count : Option ℕ) (concerned concerned' : ℕ) (kept kept' : List ℕ) → role < 8 → length kept ≡ 8 → has_bit concerned role ≡ false
    → (count ≡ None → (concerned' ≡ concerned) × (kept' ≡ kept))
    → ((n : ℕ) → count ≡ Some n → (q : ℕ) → q < 8 → has_bit concerned' q ≡ (has_bit concerned q || role == q))
    → ((n : ℕ) → count ≡ Some n → kept' ≡ set kept role n)
    → Noted role count concerned concerned' kept kept'
noted role None concerned concerned' kept kept' below eight off none some set_so =
    let same = none refl in
    record {
      here = ap (λ b. cond b (Some (slice_index kept' role)) None) (ap (λ c. has_bit c role) same.0 ∙ off);
      quiet = λ _. ap (λ k. slice_index k role) same.1;
      bits = λ q lt other. ap (λ c. has_bit c q) same.0;
      counts = λ q other. ap (λ k. slice_index k q) same.1;
      eight = ap length same.1;
      fit = λ _ all. subst (All (λ n. n < 2 ^ 32)) (sym same.1) all;
    }
noted role (Some n) concerned concerned' kept kept' below eight off none some set_so =
    let on : has_bit concerned' role ≡ true = some n refl role below ∙ ap (λ b. has_bit concerned role || b) (eq-eqb role role refl) ∙ or_true (has_bit concerned role) in
    let put : slice_index kept' role ≡ n = ap (λ k. slice_index k role) (set_so n refl) ∙ get_or-set_same kept role n 0 (omega (arith, below, eight)) in
    record {
      here = ap (λ b. cond b (Some (slice_index kept' role)) None) on ∙ ap Some put;
      quiet = λ silent. absurd (true≢false (sym on ∙ silent));
      bits = λ q lt other. some n refl q lt ∙ ap (λ b. has_bit concerned q || b) (ne_eqb role q (λ e. other (sym e))) ∙ or_false (has_bit concerned q);
      counts = λ q other. ap (λ k. slice_index k q) (set_so n refl) ∙ get_or-set_other kept role q n 0 other;
      eight = ap length (set_so n refl) ∙ length-set kept role n;
      fit = λ fits all. subst (All (λ m. m < 2 ^ 32)) (sym (set_so n refl)) (set_fits kept role n fits all);
    }

drop_front : (A M : List (List ℕ)) → drop (length A) (A ++ M) ≡ M
drop_front [] M = refl
drop_front (a ∷ A) M = drop_front A M

drop_end : (A M F : List (List ℕ)) → F ≡ A ++ M → drop (length F - length M) F ≡ M
drop_end A M F is =
    let long : length F ≡ length A + length M = ap length is ∙ length-append A M in
    let place : length F - length M ≡ length A = omega (arith, long) in
    ap (λ n. drop n F) place ∙ ap (drop (length A)) is ∙ drop_front A M

-- What later roles say doesn't begin with the name of an earlier one.
pub others_begin : (names : List (List ℕ)) (c : ℕ) (k : List ℕ) (role a n : ℕ) → AreDifferent names → role < a → a + n ≤ length names
    → BeginOtherwise (name_at names role) (flat_map (kept_fields names c k) (range_with_len a n))
others_begin names c k role a zero differ later all = tt
others_begin names c k role a (suc n) differ later all = go (has_bit c a) (others_begin names c k role (a + 1) n differ (omega (arith, later)) (omega (arith, all)))
  where
    go : (b : Bool) → BeginOtherwise (name_at names role) (flat_map (kept_fields names c k) (range_with_len (a + 1) n))
        → BeginOtherwise (name_at names role) (cut_fields (name_at names a) (cond b (Some (slice_index k a)) None) ++ flat_map (kept_fields names c k) (range_with_len (a + 1) n))
    go true rest = λ e. let same = same_role names a role differ (omega (arith, all)) (omega (arith, later, all)) e in omega (arith, same, later)
    go false rest = rest

pub fits_cut : (names : List (List ℕ)) (c : ℕ) (k : List ℕ) (q : ℕ) → AreCuts (length names) c k → q < 8 → FitsCut (cut_at c k q)
fits_cut names c k q are below = go (has_bit c q)
  where
    go : (b : Bool) → FitsCut (cond b (Some (slice_index k q)) None)
    go true = are.fit q 0 (omega (arith, below, are.eight))
    go false = tt

-- The next role, of a whole that is said of it and of those behind it.
pub next_said : (names F : List (List ℕ)) (role place c : ℕ) (k : List ℕ) → role < length names
    → drop place F ≡ flat_map (kept_fields names c k) (range_with_len role (length names - role))
    → drop place F ≡ kept_fields names c k role ++ flat_map (kept_fields names c k) (range_with_len (role + 1) (length names - (role + 1)))
next_said names F role place c k inside is =
    let count : length names - role ≡ suc (length names - (role + 1)) = omega (arith, inside) in
    is ∙ ap (λ n. flat_map (kept_fields names c k) (range_with_len role n)) count

-- A turn: the fields say the cut of one more role.
pub turn : (names F : List (List ℕ)) (role place place' concerned concerned' : ℕ) (kept kept' : List ℕ) (count : Option ℕ) (M : List (List ℕ))
    → length names ≤ 8 → role < length names → AreDifferent names
    → Reading names F role place concerned kept
    → drop place F ≡ cut_fields (name_at names role) count ++ M
    → ((k : Option ℕ) (rest : List (List ℕ)) → FitsCut k → BeginOtherwise (name_at names role) rest → drop place F ≡ cut_fields (name_at names role) k ++ rest → M ≡ rest)
    → place' ≡ length F - length M
    → Noted role count concerned concerned' kept kept' → FitsCut count
    → Reading names F (role + 1) place' concerned' kept'
turn names F role place place' concerned concerned' kept kept' count M few inside differ r found only_so place_is noted_so fits =
    let before = cuts_fields names concerned kept role in
    let split : F ≡ (before ++ cut_fields (name_at names role) count) ++ M = r.said ∙ ap (λ xs. before ++ xs) found ∙ sym (append_assoc before (cut_fields (name_at names role) count) M) in
    let left : drop place' F ≡ M = ap (λ n. drop n F) place_is ∙ drop_end (before ++ cut_fields (name_at names role) count) M F split in
    let as_before : cuts_fields names concerned' kept' role ≡ before =
    said_alike (kept_fields names concerned' kept') (kept_fields names concerned kept) 0 role (λ q from below.
    ap₂ (λ b n. cut_fields (name_at names q) (cond b (Some n) None)) (noted_so.bits q (omega (arith, below, inside, few)) (λ e. omega (arith, e, below))) (noted_so.counts q (λ e. omega (arith, e, below)))) in
    let now_said : cuts_fields names concerned' kept' (role + 1) ≡ before ++ cut_fields (name_at names role) count =
    said_of_one_more (kept_fields names concerned' kept') role ∙ ap₂ (λ x y. x ++ cut_fields (name_at names role) y) as_before noted_so.here in
    record {
      inside = omega (arith, place_is);
      above = λ q from below. noted_so.bits q below (λ e. omega (arith, e, from)) ∙ r.above q (omega (arith, from)) below;
      eight = noted_so.eight ∙ r.eight;
      fit = noted_so.fit fits r.fit;
      others = λ q off below. ⊎_elim
          (λ same. subst (λ k. slice_index kept' k ≡ 0) (sym same)
          (noted_so.quiet (subst (λ k. has_bit concerned' k ≡ false) same off) ∙ r.others role (r.above role (omega arith) (omega (arith, inside, few))) (omega (arith, inside, few))))
          (λ other. noted_so.counts q other ∙ r.others q (sym (noted_so.bits q below other) ∙ off) below)
          (cases_eq q role);
      said = split ∙ ap₂ (λ x y. x ++ y) (sym now_said) (sym left);
      only = λ c k are is. left ∙ only_so (cut_at c k role) (flat_map (kept_fields names c k) (range_with_len (role + 1) (length names - (role + 1))))
          (fits_cut names c k role are (omega (arith, inside, few)))
          (others_begin names c k role (role + 1) (length names - (role + 1)) differ (omega arith) (omega (arith, inside)))
          (next_said names F role place c k inside (r.only c k are is));
    }

-- No cut at the next role: no recovery is said.
pub no_turn : (names F : List (List ℕ)) (role place concerned : ℕ) (kept : List ℕ) → length names ≤ 8 → role < length names → AreDifferent names
    → Reading names F role place concerned kept
    → ((k : Option ℕ) (rest : List (List ℕ)) → FitsCut k → BeginOtherwise (name_at names role) rest → drop place F ≡ cut_fields (name_at names role) k ++ rest → ⊥)
    → (c : ℕ) (k : List ℕ) → AreCuts (length names) c k → F ≡ cuts_fields names c k (length names) → ⊥
no_turn names F role place concerned kept few inside differ r none c k are is =
    none (cut_at c k role) (flat_map (kept_fields names c k) (range_with_len (role + 1) (length names - (role + 1))))
    (fits_cut names c k role are (omega (arith, inside, few)))
    (others_begin names c k role (role + 1) (length names - (role + 1)) differ (omega arith) (omega (arith, inside)))
    (next_said names F role place c k inside (r.only c k are is))

-- Behind the last role.
pub at_end : (names F : List (List ℕ)) (role place concerned : ℕ) (kept : List ℕ) → length names ≤ role → role ≤ length names
    → Reading names F role place concerned kept → (length F ≡ 0 → ⊥) → place ≡ length F → length names ≤ 8 → concerned < 2 ^ 8
    → AreCuts (length names) concerned kept × (F ≡ cuts_fields names concerned kept (length names))
at_end names F role place concerned kept le ge r some all few fits =
    let end : role ≡ length names = omega (arith, le, ge) in
    let nothing : drop place F ≡ [] = ap (λ n. drop n F) all ∙ none_left F in
    let whole : F ≡ cuts_fields names concerned kept (length names) =
    r.said ∙ ap (λ xs. cuts_fields names concerned kept role ++ xs) nothing ∙ append-nil (cuts_fields names concerned kept role) ∙ ap (cuts_fields names concerned kept) end in (
      record {
        some = λ zero_so. some (ap length (whole ∙ said_nothing (kept_fields names concerned kept) 0 (length names) (λ q. ap (λ b. cut_fields (name_at names q) (cond b (Some (slice_index kept q)) None)) (ap (λ c. has_bit c q) zero_so ∙ zero_bit q))));
        declared = below_power concerned (length names) fits few (λ q from below. r.above q (omega (arith, end, from)) below);
        eight = r.eight;
        fit = r.fit;
        others = r.others;
      },
      whole,
    )
  where
    none_left : (xs : List (List ℕ)) → drop (length xs) xs ≡ []
    none_left [] = refl
    none_left (x ∷ xs) = none_left xs

-- More fields behind what is said of the roles.
pub more_left : (names F : List (List ℕ)) (role place concerned : ℕ) (kept : List ℕ) → length names ≤ role
    → Reading names F role place concerned kept → (place ≡ length F → ⊥)
    → (c : ℕ) (k : List ℕ) → AreCuts (length names) c k → F ≡ cuts_fields names c k (length names) → ⊥
more_left names F role place concerned kept le r more c k are is =
    let count : length names - role ≡ 0 = omega (arith, le) in
    let nothing = r.only c k are is ∙ ap (λ n. flat_map (kept_fields names c k) (range_with_len role n)) count in
    let inside = r.inside in
    omega (arith, ap length nothing, length-drop place F, inside, more)

-- No fields say no recovery.
pub none_said : (names : List (List ℕ)) (c : ℕ) (k : List ℕ) → length names ≤ 8 → AreCuts (length names) c k → [] ≡ cuts_fields names c k (length names) → ⊥
none_said names c k few are is =
    are.some (same_from_bits_below (length names) c 0 are.declared (pow_pos (length names)) (λ i lt. no_bit c i (off i lt) ∙ sym (bit_at-zero i)))
  where
    off_at : (b : Bool) (i : ℕ) → cut_fields (name_at names i) (cond b (Some (slice_index k i)) None) ≡ [] → b ≡ false
    off_at true i e = absurd (omega (arith, ap length e))
    off_at false i e = refl

    off : (i : ℕ) → i < length names → has_bit c i ≡ false
    off i lt = off_at (has_bit c i) i (said_none (kept_fields names c k) 0 (length names) (sym is) i (omega arith) (omega (arith, lt)))

-- The fields from a place on.
pub rest_texts : (fields : List (Bor (List ℕ))) (place : ℕ) → texts (take (length fields - place) (drop place fields)) ≡ drop place (texts fields)
rest_texts fields place = ap texts (take_rest fields place) ∙ sym (drop-map (λ (f : Bor (List ℕ)). f.now) place fields)

pub as_many : (fields : List (Bor (List ℕ))) → length (texts fields) ≡ length fields
as_many fields = length-map fields (λ (f : Bor (List ℕ)). f.now)

pub any_default : (xs : List (List ℕ)) (i : ℕ) (d e : List ℕ) → i < length xs → get_or xs i d ≡ get_or xs i e
any_default [] i d e inside = absurd (omega (arith, inside))
any_default (x ∷ xs) zero d e inside = refl
any_default (x ∷ xs) (suc i) d e inside = any_default xs i d e (omega (arith, inside))

pub when_none : {T P : Type 0} (o : Option T) → P → IfNone o P
when_none None p = p
when_none (Some x) p = tt
