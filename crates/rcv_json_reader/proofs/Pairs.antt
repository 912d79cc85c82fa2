-- The pairs of a recovery, role by role.
use Rattle.std.proofs.Common.{◌≡◌, ◌≢◌, ℕ, zero, suc, ◌+◌, ◌-◌, ◌^◌, ◌<◌, ◌≤◌, Bool, true, false, ◌==◌, ◌||◌, Some, List, [], ◌∷◌, ◌++◌, length, take, drop, set, refl, sym, ◌∙◌, ap, subst, ⊎_elim, arith, append_assoc, append-nil, add-one, drop-cons}
use Rattle.std.specs.Prelude.{if◌then◌else◌, All, flat_map, slice_get, slice_index, slice_index_or, unwrap_or}
use Rattle.std.specs.List.{range_with_len}
use Rattle.std.proofs.lemmas.Bool.{cases_Bool, cases_eq, cases_lt}
use Rattle.std.proofs.lemmas.Bool.Decides.{nat_tests}
use Rattle.std.proofs.lemmas.Grind.{get_or-set_at}
use Rattle.std.proofs.lemmas.List.{get_or-set_same, get_or-set_other, length-set, get_or_past, take_more, take_all, length-drop}
use Rattle.std.proofs.lemmas.Option.{slice_get_within, slice_get-get_or, get_or_from_slice_get}
use Rattle.serde_json.specs.Data.{Data}
use Rattle.serde_json.specs.Find.{as_str}
use Rattle.rcv_tree.specs.Bits.{has_bit}
use Rattle.rcv_model.specs.Names.{AreDifferent}
use Rattle.rcv_session.specs.Session.{SessionView, roles_of}
use Rattle.rcv_journal.specs.JournalText.{name_of}
use Rattle.rcv_journal.specs.Json.{count, cut_data, cuts_data, list_of, role_data}
use Rattle.rcv_json_reader.specs.Parts.{HasRead, SaysCuts, later_cuts, pair_data}
use Rattle.rcv_json_reader.proofs.Bits.{all_clear, below_bits, no_bit, zero_has_none}
use Rattle.rcv_json_reader.proofs.Items.{same_list}

pub head_of : {X : Type 0} (x y : X) (xs ys : List X) → x ∷ xs ≡ y ∷ ys → x ≡ y
head_of x y xs ys is = ap (λ l. slice_index_or l 0 x) is

pub tail_of : {X : Type 0} (x y : X) (xs ys : List X) → x ∷ xs ≡ y ∷ ys → xs ≡ ys
tail_of x y xs ys is = ap (λ l. drop 1 l) is

-- What stands in front of the items from i on.
pub front_is : (xs : List Data) (i : ℕ) (v d : Data) (rest : List Data) → slice_get xs i ≡ Some v → drop i xs ≡ d ∷ rest → v ≡ d
front_is xs i v d rest here is =
    sym (get_or_from_slice_get xs i v v here)
    ∙ head_of (slice_index_or xs i v) d (drop (suc i) xs) rest (sym (drop-cons xs i v (slice_get_within xs i v here)) ∙ is)

-- One name has one role.
pub same_role : (setup : SessionView) (a b : ℕ) → AreDifferent setup.protocol.roles → a < roles_of setup → b < roles_of setup → role_data setup a ≡ role_data setup b → a ≡ b
same_role setup a b differ in_a in_b is =
    let names : name_of setup a ≡ name_of setup b = ap (λ d. unwrap_or (as_str d) []) is in
    differ a b (name_of setup a) (slice_get-get_or setup.protocol.roles a [] in_a) (slice_get-get_or setup.protocol.roles b [] in_b ∙ ap Some (sym names))

-- The pair of one role isn't that of another.
pair_role : (setup : SessionView) (a b n m : ℕ) → AreDifferent setup.protocol.roles → a < roles_of setup → b < roles_of setup → pair_data setup a n ≡ pair_data setup b m → a ≡ b
pair_role setup a b n m differ in_a in_b is =
    same_role setup a b differ in_a in_b
    (head_of (role_data setup a) (role_data setup b) (count n ∷ []) (count m ∷ []) (same_list (role_data setup a ∷ count n ∷ []) (role_data setup b ∷ count m ∷ []) is))

-- A role that is concerned has its pair, and another has none.
pub cut_there : (setup : SessionView) (c : ℕ) (k : List ℕ) (q : ℕ) → has_bit c q ≡ true → cut_data setup c k q ≡ pair_data setup q (slice_index k q) ∷ []
cut_there setup c k q is = ap (λ b. if b then pair_data setup q (slice_index k q) ∷ [] else []) is

pub cut_none : (setup : SessionView) (c : ℕ) (k : List ℕ) (q : ℕ) → has_bit c q ≡ false → cut_data setup c k q ≡ []
cut_none setup c k q is = ap (λ b. if b then pair_data setup q (slice_index k q) ∷ [] else []) is

-- One role more.
range_more : (f : ℕ → List Data) (a n : ℕ) → flat_map f (range_with_len a (suc n)) ≡ flat_map f (range_with_len a n) ++ f (a + n)
range_more f a zero = append-nil (f a) ∙ ap f (omega arith)
range_more f a (suc n) =
    ap (λ xs. f a ++ xs) (range_more f (a + 1) n) ∙ sym (append_assoc (f a) (flat_map f (range_with_len (a + 1) n)) (f (a + 1 + n)))
    ∙ ap (λ j. (f a ++ flat_map f (range_with_len (a + 1) n)) ++ f j) (omega arith)

range_same : (f g : ℕ → List Data) (a n : ℕ) → ((i : ℕ) → a ≤ i → i < a + n → f i ≡ g i) → flat_map f (range_with_len a n) ≡ flat_map g (range_with_len a n)
range_same f g a zero same = refl
range_same f g a (suc n) same =
    ap (λ xs. xs ++ flat_map f (range_with_len (a + 1) n)) (same a (omega arith) (omega arith))
    ∙ ap (λ xs. g a ++ xs) (range_same f g (a + 1) n (λ i from below. same i (omega arith) (omega arith)))

more_cuts : (setup : SessionView) (c : ℕ) (k : List ℕ) (q : ℕ) → cuts_data setup c k (q + 1) ≡ cuts_data setup c k q ++ cut_data setup c k q
more_cuts setup c k q = ap (λ n. cuts_data setup c k n) (add-one q) ∙ range_more (cut_data setup c k) 0 q ∙ ap (λ j. cuts_data setup c k q ++ cut_data setup c k j) (zero_more q)
  where
    zero_more : (n : ℕ) → 0 + n ≡ n
    zero_more n = omega arith

from_here : (setup : SessionView) (c : ℕ) (k : List ℕ) (q : ℕ) → q < roles_of setup → later_cuts setup c k q ≡ cut_data setup c k q ++ later_cuts setup c k (q + 1)
from_here setup c k q declared = ap (λ n. flat_map (cut_data setup c k) (range_with_len q n)) (less (roles_of setup) q declared)
  where
    less : (r q : ℕ) → q < r → r - q ≡ suc (r - (q + 1))
    less r q below = omega arith

-- What a recovery keeps fits 32 bits.
pub fits_at : (k : List ℕ) (q : ℕ) → All (λ n. n < 2 ^ 32) k → slice_index k q < 2 ^ 32
fits_at k q fit = ⊎_elim (λ inside. fit q 0 inside) (λ past. subst (λ n. n < 2 ^ 32) (sym (get_or_past k q 0 past)) (omega arith)) (cases_lt q (length k))

fits_after : (k : List ℕ) (q n : ℕ) → All (λ n. n < 2 ^ 32) k → n < 2 ^ 32 → All (λ n. n < 2 ^ 32) (set k q n)
fits_after k q n fit fits i d inside = ⊎_elim
    (λ same. subst (λ m. m < 2 ^ 32) (sym (get_or-set_at k q i n d same (omega (arith, length-set k q n)))) fits)
    (λ other. subst (λ m. m < 2 ^ 32) (sym (get_or-set_other k q i n d other)) (fit i d (omega (arith, length-set k q n))))
    (cases_eq i q)

-- No pair of a later role is that of an earlier one.
pub not_later : (setup : SessionView) (c : ℕ) (k : List ℕ) (q n a m : ℕ) (rest : List Data) → AreDifferent setup.protocol.roles → q < a → a + m ≤ roles_of setup
    → flat_map (cut_data setup c k) (range_with_len a m) ≡ pair_data setup q n ∷ rest → ⊥
not_later setup c k q n a zero rest differ above within is = absurd (cc)
not_later setup c k q n a (suc m) rest differ above within is = ⊎_elim
    (λ there.
    let pair = head_of (pair_data setup a (slice_index k a)) (pair_data setup q n) (flat_map (cut_data setup c k) (range_with_len (a + 1) m)) rest
    (ap (λ xs. xs ++ flat_map (cut_data setup c k) (range_with_len (a + 1) m)) (sym (cut_there setup c k a there)) ∙ is) in
    let same = pair_role setup a q (slice_index k a) n differ (omega arith) (omega arith) pair in
    omega (arith, same))
    (λ clear. not_later setup c k q n (a + 1) m rest differ (omega arith) (omega arith)
    (ap (λ xs. xs ++ flat_map (cut_data setup c k) (range_with_len (a + 1) m)) (sym (cut_none setup c k a clear)) ∙ is))
    (cases_Bool (has_bit c a))

-- The next value isn't the role's pair.
pub skipped : (setup : SessionView) (pairs : List Data) (q read concerned : ℕ) (kept : List ℕ) → q < roles_of setup → roles_of setup ≤ 8
    → ((n : ℕ) → n < 2 ^ 32 → (rest : List Data) → drop read pairs ≡ pair_data setup q n ∷ rest → ⊥)
    → HasRead setup pairs q read concerned kept → HasRead setup pairs (q + 1) read concerned kept
skipped setup pairs q read concerned kept declared few other so_far = record {
  within = so_far.within;
  said = so_far.said ∙ sym (append-nil (cuts_data setup concerned kept q))
      ∙ ap (λ xs. cuts_data setup concerned kept q ++ xs) (sym (cut_none setup concerned kept q (so_far.later q (omega arith) (omega arith))))
      ∙ sym (more_cuts setup concerned kept q);
  later = λ r from below. so_far.later r (omega arith) below;
  byte = so_far.byte;
  eight = so_far.eight;
  fit = so_far.fit;
  others = so_far.others;
  rest = λ c k fit is. ⊎_elim
      (λ there. absurd (other (slice_index k q) (fits_at k q fit) (later_cuts setup c k (q + 1))
      (so_far.rest c k fit is ∙ from_here setup c k q declared ∙ ap (λ xs. xs ++ later_cuts setup c k (q + 1)) (cut_there setup c k q there))))
      (λ clear. so_far.rest c k fit is ∙ from_here setup c k q declared ∙ ap (λ xs. xs ++ later_cuts setup c k (q + 1)) (cut_none setup c k q clear))
      (cases_Bool (has_bit c q));
}

-- The next value is the role's pair.
pub taken : (setup : SessionView) (pairs : List Data) (q read concerned more n : ℕ) (kept : List ℕ) (fits : n < 2 ^ 32) (byte : more < 2 ^ 8) → q < roles_of setup → roles_of setup ≤ 8
    → AreDifferent setup.protocol.roles → slice_get pairs read ≡ Some (pair_data setup q n)
    → ((r : ℕ) → r < 8 → has_bit more r ≡ (has_bit concerned r || q == r))
    → HasRead setup pairs q read concerned kept → HasRead setup pairs (q + 1) (read + 1) more (set kept q n)
taken setup pairs q read concerned more n kept fits byte declared few differ at_read bits so_far = record {
  within = omega (arith, inside);
  said = take_more pairs read (pair_data setup q n) inside
      ∙ ap (λ d. take read pairs ++ d ∷ []) here
      ∙ ap (λ xs. xs ++ pair_data setup q n ∷ []) (so_far.said ∙ range_same (cut_data setup concerned kept) (cut_data setup more (set kept q n)) 0 q before)
      ∙ ap (λ xs. cuts_data setup more (set kept q n) q ++ xs) (sym (cut_there setup more (set kept q n) q itself ∙ ap (λ m. pair_data setup q m ∷ []) kept_here))
      ∙ sym (more_cuts setup more (set kept q n) q);
  later = λ r from below. bits r below ∙ ap (λ b. b || q == r) (so_far.later r (omega arith) below) ∙ unequal q r (omega arith);
  byte = byte;
  eight = length-set kept q n ∙ so_far.eight;
  fit = fits_after kept q n so_far.fit fits;
  others = λ r clear below.
      let apart = either (has_bit concerned r) (q == r) (sym (bits r below) ∙ clear) in
      get_or-set_other kept q r n 0 (differs q r apart.1) ∙ so_far.others r apart.0 below;
  rest = λ c k fit is.
      let pairs_here : pair_data setup q n ∷ drop (suc read) pairs ≡ cut_data setup c k q ++ later_cuts setup c k (q + 1)
      = ap (λ d. d ∷ drop (suc read) pairs) (sym here) ∙ sym (drop-cons pairs read (pair_data setup q n) inside) ∙ so_far.rest c k fit is ∙ from_here setup c k q declared in
      ap (λ m. drop m pairs) (add-one read) ∙ ⊎_elim
      (λ there. tail_of (pair_data setup q n) (pair_data setup q (slice_index k q)) (drop (suc read) pairs) (later_cuts setup c k (q + 1))
      (pairs_here ∙ ap (λ xs. xs ++ later_cuts setup c k (q + 1)) (cut_there setup c k q there)))
      (λ clear. absurd (not_later setup c k q n (q + 1) (roles_of setup - (q + 1)) (drop (suc read) pairs) differ (omega arith) (omega arith)
      (sym (pairs_here ∙ ap (λ xs. xs ++ later_cuts setup c k (q + 1)) (cut_none setup c k q clear)))))
      (cases_Bool (has_bit c q));
}
  where
    inside : read < length pairs
    inside = slice_get_within pairs read (pair_data setup q n) at_read

    here : slice_index_or pairs read (pair_data setup q n) ≡ pair_data setup q n
    here = get_or_from_slice_get pairs read (pair_data setup q n) (pair_data setup q n) at_read

    unequal : (a b : ℕ) → a < b → (false || a == b) ≡ false
    unequal a b below = grind (arith, nat_tests)

    or_equal : (b : Bool) (a : ℕ) → (b || a == a) ≡ true
    or_equal true a = refl
    or_equal false a = grind (arith, nat_tests)

    or_unequal : (b : Bool) (a c : ℕ) → c < a → (b || a == c) ≡ b
    or_unequal true a c below = refl
    or_unequal false a c below = grind (arith, nat_tests)

    either : (a b : Bool) → (a || b) ≡ false → (a ≡ false) × (b ≡ false)
    either true b is = absurd (cc)
    either false b is = (refl, is)

    differs : (a b : ℕ) → (a == b) ≡ false → b ≢ a
    differs a b is = grind (arith, nat_tests)

    itself : has_bit more q ≡ true
    itself = bits q (omega arith) ∙ or_equal (has_bit concerned q) q

    kept_here : slice_index (set kept q n) q ≡ n
    kept_here = get_or-set_same kept q n 0 (omega (arith, so_far.eight))

    before : (r : ℕ) → 0 ≤ r → r < 0 + q → cut_data setup concerned kept r ≡ cut_data setup more (set kept q n) r
    before r from below =
        ap (λ b. if b then pair_data setup r (slice_index kept r) ∷ [] else []) (sym (bits r (omega arith) ∙ or_unequal (has_bit concerned r) q r (omega arith)))
        ∙ ap (λ m. if has_bit more r then pair_data setup r m ∷ [] else []) (sym (get_or-set_other kept q r n 0 (omega arith)))

-- Nothing is read yet.
pub at_start : (setup : SessionView) (pairs : List Data) (kept : List ℕ) → length kept ≡ 8 → ((r : ℕ) → r < 8 → slice_index kept r ≡ 0) → All (λ n. n < 2 ^ 32) kept → HasRead setup pairs 0 0 0 kept
at_start setup pairs kept eight none fit = record {
  within = omega arith;
  said = refl;
  later = λ r from below. zero_has_none r;
  byte = omega arith;
  eight = eight;
  fit = fit;
  others = λ r clear below. none r below;
  rest = λ c k fit is. is ∙ ap (λ n. flat_map (cut_data setup c k) (range_with_len 0 n)) (none_less (roles_of setup));
}
  where
    none_less : (n : ℕ) → n ≡ n - 0
    none_less n = omega arith

-- All is read.
pub all_read : (setup : SessionView) (pairs : List Data) (read concerned : ℕ) (kept : List ℕ) → roles_of setup ≤ 8
    → HasRead setup pairs (roles_of setup) read concerned kept → read ≡ length pairs → concerned ≢ 0 → SaysCuts setup (list_of pairs) concerned kept
all_read setup pairs read concerned kept few so_far full some = record {
  cuts = record {
    some = some;
    declared = below_bits (roles_of setup) (8 - roles_of setup) concerned (subst (λ n. concerned < 2 ^ n) (width (roles_of setup) few) so_far.byte)
        (λ i from below. no_bit concerned i (so_far.later i from (omega arith)));
    eight = so_far.eight;
    fit = so_far.fit;
    others = so_far.others;
  };
  is = ap list_of (sym (take_all read pairs (omega arith)) ∙ so_far.said);
}
  where
    width : (n : ℕ) → n ≤ 8 → 8 ≡ n + (8 - n)
    width n few = omega arith

-- Where a recovery says the pairs, all are read.
pub must_be_read : (setup : SessionView) (pairs : List Data) (read concerned : ℕ) (kept : List ℕ) → HasRead setup pairs (roles_of setup) read concerned kept
    → (c : ℕ) (k : List ℕ) → SaysCuts setup (list_of pairs) c k → read ≡ length pairs
must_be_read setup pairs read concerned kept so_far c k says =
    let left : length (drop read pairs) ≡ 0
    = ap length (so_far.rest c k says.cuts.fit (same_list pairs (cuts_data setup c k (roles_of setup)) says.is)) ∙ ap (λ n. length (flat_map (cut_data setup c k) (range_with_len (roles_of setup) n))) (nothing (roles_of setup)) in
    omega (arith, length-drop read pairs, left, so_far.within)
  where
    nothing : (n : ℕ) → n - n ≡ 0
    nothing n = omega arith

-- And one role at least is concerned.
pub must_concern : (setup : SessionView) (pairs : List Data) (read : ℕ) (kept : List ℕ) → HasRead setup pairs (roles_of setup) read 0 kept
    → (c : ℕ) (k : List ℕ) → SaysCuts setup (list_of pairs) c k → ⊥
must_concern setup pairs read kept so_far c k says =
    says.cuts.some (all_clear (roles_of setup) c says.cuts.declared (λ i below. no_bit c i (clear 0 (roles_of setup) silent i (omega arith) (omega arith))))
  where
    empty : (a m : ℕ) → flat_map (cut_data setup 0 kept) (range_with_len a m) ≡ []
    empty a zero = refl
    empty a (suc m) = ap (λ xs. xs ++ flat_map (cut_data setup 0 kept) (range_with_len (a + 1) m)) (cut_none setup 0 kept a (zero_has_none a)) ∙ empty (a + 1) m

    silent : cuts_data setup c k (roles_of setup) ≡ []
    silent =
        sym (same_list pairs (cuts_data setup c k (roles_of setup)) says.is)
        ∙ sym (take_all read pairs (omega (arith, must_be_read setup pairs read 0 kept so_far c k says)))
        ∙ so_far.said ∙ empty 0 (roles_of setup)

    clear : (a m : ℕ) → flat_map (cut_data setup c k) (range_with_len a m) ≡ [] → (i : ℕ) → a ≤ i → i < a + m → has_bit c i ≡ false
    clear a zero is i from below = absurd (omega arith)
    clear a (suc m) is i from below = ⊎_elim
        (λ there. absurd (some_pair (ap (λ xs. xs ++ flat_map (cut_data setup c k) (range_with_len (a + 1) m)) (sym (cut_there setup c k a there)) ∙ is)))
        (λ none. ⊎_elim
        (λ same. subst (λ j. has_bit c j ≡ false) (sym same) none)
        (λ other. clear (a + 1) m (ap (λ xs. xs ++ flat_map (cut_data setup c k) (range_with_len (a + 1) m)) (sym (cut_none setup c k a none)) ∙ is) i (omega arith) (omega arith))
        (cases_eq i a))
        (cases_Bool (has_bit c a))
      where
        some_pair : pair_data setup a (slice_index k a) ∷ flat_map (cut_data setup c k) (range_with_len (a + 1) m) ≡ [] → ⊥
        some_pair is = absurd (cc)
