-- Cells are split into two halves one after another, and united again.
use Prim.Native.Nat.{zero, suc}
use Rattle.std.proofs.Common.{◌≡◌, ℕ, ◌+◌, ◌<◌, ◌≤◌, Bool, true, false, Option, Some, None, List, [], ◌∷◌, ◌++◌, length, take, refl, sym, ◌∙◌, ap, subst, ⊎_elim, arith, length-append, append-nil, append_assoc}
use Rattle.std.specs.Prelude.{slice_get, slice_index_or, if◌then◌else◌}
use Rattle.std.proofs.lemmas.Bool.{cases_lt}
use Rattle.std.proofs.lemmas.List.{get_or_append_left, length-take, take_all}
use Rattle.std.proofs.Math.Seq.{get_or-append_seam, take-suc}
use Rattle.std.proofs.Math.Nat.{min-le_left}
use Rattle.rcv_tree.specs.Bits.{has_bit}
use Rattle.rcv_tree.specs.declared.role.RoleSet.{RoleSet}
use Rattle.rcv_role.specs.Cell.{CellView}
use Rattle.rcv_rollback.specs.Halves.{Has, Lacks, AreSplit}
use Rattle.rcv_rollback.specs.Going.{StayBut}
use Rattle.rcv_rollback.specs.Parting.{ArePushedApart, AreUnitedTo}

-- look-ups in a list with one item more
get_front : {A : Type 0} (xs : List A) (y : A) (k : ℕ) → k < length xs → slice_get (xs ++ y ∷ []) k ≡ slice_get xs k
get_front [] y k lt = absurd (omega (arith, lt))
get_front (x ∷ xs) y zero lt = refl
get_front (x ∷ xs) y (suc k) lt = get_front xs y k (omega (arith, lt))

get_back : {A : Type 0} (xs : List A) (y : A) (k : ℕ) → k ≡ length xs → slice_get (xs ++ y ∷ []) k ≡ Some y
get_back [] y zero e = refl
get_back [] y (suc k) e = absurd (omega (arith, e))
get_back (x ∷ xs) y zero e = absurd (omega (arith, e))
get_back (x ∷ xs) y (suc k) e = get_back xs y k (omega (arith, e))

module _ {T : Type 0} where
  pub split_none : (concerned : RoleSet) (back beside : List (Option T)) → back ≡ [] → beside ≡ []
      → AreSplit concerned [] back beside
  split_none concerned back beside none none' = record {
    back_count = ap length none;
    beside_count = ap length none';
    goes = λ r d lt. absurd (omega (arith, lt));
    stays = λ r d lt. absurd (omega (arith, lt));
  }

  -- there is room for the next one of all
  pub has_next : (all done left rest : List T) (x : T) → done ++ left ≡ all → left ≡ x ∷ rest → length done < length all
  has_next all done left rest x is next =
      let sizes = ap length is in
      let more = ap length next in
      omega (arith, length-append done left, sizes, more)

  pub one_on : (all done left rest : List T) (x : T) → done ++ left ≡ all → left ≡ x ∷ rest → (done ++ x ∷ []) ++ rest ≡ all
  one_on all done left rest x is next = append_assoc done (x ∷ []) rest ∙ ap (λ l. done ++ l) (sym next) ∙ is

  -- one cell more
  module _ (concerned : RoleSet) (cells : List T) (back back' beside beside' : List (Option T)) (x : T) (n : ℕ) (is_concerned : Bool)
      (so : AreSplit concerned cells back beside) (place : n ≡ length back) (bit : is_concerned ≡ has_bit concerned.0 n)
      (pushed : ArePushedApart back back' beside beside' x is_concerned) where
    -- at the places before, and at the new one
    early : (r : ℕ) → r < length cells → (slice_get back' r ≡ slice_get back r) × (slice_get beside' r ≡ slice_get beside r)
    early r lt =
        let m = so.back_count in
        let k = so.beside_count in (
          ap (λ h. slice_get h r) pushed.back_is ∙ get_front back (if is_concerned then Some x else None) r (omega (arith, m, lt)),
          ap (λ h. slice_get h r) pushed.beside_is ∙ get_front beside (if is_concerned then None else Some x) r (omega (arith, k, lt)),
        )

    late_back : (r : ℕ) → r ≡ length cells → slice_get back' r ≡ Some (if is_concerned then Some x else None)
    late_back r e = ap (λ h. slice_get h r) pushed.back_is ∙ get_back back (if is_concerned then Some x else None) r (e ∙ sym so.back_count)

    late_beside : (r : ℕ) → r ≡ length cells → slice_get beside' r ≡ Some (if is_concerned then None else Some x)
    late_beside r e = ap (λ h. slice_get h r) pushed.beside_is ∙ get_back beside (if is_concerned then None else Some x) r (e ∙ sym so.beside_count)

    was_cell : (r : ℕ) (d : T) → r < length cells → Some (Some (slice_index_or cells r d)) ≡ Some (Some (slice_index_or (cells ++ x ∷ []) r d))
    was_cell r d lt = ap (λ c. Some (Some c)) (sym (get_or_append_left cells (x ∷ []) d r lt))

    is_cell : (r : ℕ) (d : T) → r ≡ length cells → Some (Some x) ≡ Some (Some (slice_index_or (cells ++ x ∷ []) r d))
    is_cell r d e = ap (λ c. Some (Some c)) (sym (ap (λ k. slice_index_or (cells ++ x ∷ []) k d) e ∙ get_or-append_seam cells x [] d))

    is_last : (r : ℕ) → r < length (cells ++ x ∷ []) → length cells ≤ r → r ≡ length cells
    is_last r lt le = omega (arith, lt, le, length-append cells (x ∷ []))

    bit_at : (r : ℕ) → r ≡ length cells → is_concerned ≡ has_bit concerned.0 r
    bit_at r e = bit ∙ ap (λ k. has_bit concerned.0 k) (place ∙ so.back_count ∙ sym e)

    pub split_more : AreSplit concerned (cells ++ x ∷ []) back' beside'
    split_more = record {
      back_count = ap length pushed.back_is ∙ longer back (if is_concerned then Some x else None) so.back_count;
      beside_count = ap length pushed.beside_is ∙ longer beside (if is_concerned then None else Some x) so.beside_count;
      goes = λ r d lt b. ⊎_elim
          (λ l. let old = so.goes r d l b in ((early r l).0 ∙ old.0 ∙ was_cell r d l, (early r l).1 ∙ old.1))
          (λ le. let e : r ≡ length cells = is_last r lt le in goes_last r d e (bit_at r e ∙ b))
          (cases_lt r (length cells));
      stays = λ r d lt b. ⊎_elim
          (λ l. let old = so.stays r d l b in ((early r l).0 ∙ old.0, (early r l).1 ∙ old.1 ∙ was_cell r d l))
          (λ le. let e : r ≡ length cells = is_last r lt le in stays_last r d e (bit_at r e ∙ b))
          (cases_lt r (length cells));
    }
      where
        longer : (half : List (Option T)) (o : Option T) → length half ≡ length cells → length (half ++ o ∷ []) ≡ length (cells ++ x ∷ [])
        longer half o e = omega (arith, length-append half (o ∷ []), length-append cells (x ∷ []), e)

        goes_last : (r : ℕ) (d : T) → r ≡ length cells → is_concerned ≡ true → Has back' r (slice_index_or (cells ++ x ∷ []) r d) × Lacks beside' r
        goes_last r d e is = (
          late_back r e ∙ ap (λ b. Some (if b then Some x else None)) is ∙ is_cell r d e,
          late_beside r e ∙ ap (λ b. Some (if b then None else Some x)) is,
        )

        stays_last : (r : ℕ) (d : T) → r ≡ length cells → is_concerned ≡ false → Lacks back' r × Has beside' r (slice_index_or (cells ++ x ∷ []) r d)
        stays_last r d e is = (
          late_back r e ∙ ap (λ b. Some (if b then Some x else None)) is,
          late_beside r e ∙ ap (λ b. Some (if b then None else Some x)) is ∙ is_cell r d e,
        )

  -- behind the last one
  pub split_all : (concerned : RoleSet) (all done left : List T) (back beside : List (Option T)) → done ++ left ≡ all → left ≡ []
      → AreSplit concerned done back beside → AreSplit concerned all back beside
  split_all concerned all done left back beside is none so =
      subst (λ l. AreSplit concerned l back beside) (sym (append-nil done) ∙ ap (λ l. done ++ l) (sym none) ∙ is) so

pub united_none : (concerned : RoleSet) (back beside : List (Option CellView)) (cells : List CellView) → cells ≡ []
    → AreUnitedTo concerned back beside 0 cells back beside
united_none concerned back beside cells e =
    record { back_count = refl; beside_count = refl; cells_are = λ all split. e; back_stays = λ k le. refl; beside_stays = λ k le. refl }

-- one place more
module _ (concerned : RoleSet) (old_back old_beside : List (Option CellView)) (n : ℕ) (cells : List CellView) (back beside : List (Option CellView))
    (so : AreUnitedTo concerned old_back old_beside n cells back beside) (lt : n < length old_back) where
  pub few : (all : List CellView) → AreSplit concerned all old_back old_beside → length cells < length old_back
  few all split =
      let sizes = ap length (so.cells_are all split) in
      omega (arith, lt, sizes, length-take n all, min-le_left n (length all))

  -- where the second half has a cell, none came from the first one
  pub few_still : (all mid : List CellView) → AreSplit concerned all old_back old_beside → (Lacks back n → mid ≡ cells)
      → (c : CellView) → Has beside n c → length mid < length old_back
  few_still all mid split none c has = go (has_bit concerned.0 n) refl
    where
      low : n < length all
      low = let e = split.back_count in omega (arith, e, lt)

      go : (b : Bool) → has_bit concerned.0 n ≡ b → length mid < length old_back
      go true e =
          let lacks : Lacks beside n = so.beside_stays n (omega arith) ∙ (split.goes n c low e).1 in
          let both : Some (Some c) ≡ Some None = sym has ∙ lacks in
          absurd (cc)
      go false e =
          let size = ap length (none (so.back_stays n (omega arith) ∙ (split.stays n c low e).0)) in
          let f = few all split in
          omega (arith, size, f)

  pub united_more :
      (mid new : List CellView) (back' beside' : List (Option CellView)) → StayBut back back' n → StayBut beside beside' n
      → ((c : CellView) → Has back n c → mid ≡ cells ++ c ∷ []) → (Lacks back n → mid ≡ cells)
      → ((c : CellView) → Has beside n c → new ≡ mid ++ c ∷ []) → (Lacks beside n → new ≡ mid)
      → AreUnitedTo concerned old_back old_beside (n + 1) new back' beside'
  united_more mid new back' beside' first second moved none moved' none' = record {
    back_count = first.count ∙ so.back_count;
    beside_count = second.count ∙ so.beside_count;
    cells_are = λ all split.
        let low : n < length all = let c = split.back_count in omega (arith, c, lt) in
        grown all split low (some_cell all low) (has_bit concerned.0 n) refl;
    back_stays = λ k le. first.others k (λ e. absurd (omega (arith, le, e))) ∙ so.back_stays k (omega (arith, le));
    beside_stays = λ k le. second.others k (λ e. absurd (omega (arith, le, e))) ∙ so.beside_stays k (omega (arith, le));
  }
    where
      some_cell : (all : List CellView) → n < length all → CellView
      some_cell [] lt = absurd (omega (arith, lt))
      some_cell (x ∷ all) lt = x

      taken : (all : List CellView) (d : CellView) → n < length all → take n all ++ slice_index_or all n d ∷ [] ≡ take (n + 1) all
      taken all d low = let e : suc n ≡ n + 1 = omega arith in sym (take-suc all n d low) ∙ ap (λ k. take k all) e

      grown : (all : List CellView) (split : AreSplit concerned all old_back old_beside) → n < length all → (d : CellView) (b : Bool)
          → has_bit concerned.0 n ≡ b → new ≡ take (n + 1) all
      grown all split low d true e =
          let both = split.goes n d low e in
          none' (so.beside_stays n (omega arith) ∙ both.1)
          ∙ moved (slice_index_or all n d) (so.back_stays n (omega arith) ∙ both.0)
          ∙ ap (λ l. l ++ slice_index_or all n d ∷ []) (so.cells_are all split)
          ∙ taken all d low
      grown all split low d false e =
          let both = split.stays n d low e in
          moved' (slice_index_or all n d) (so.beside_stays n (omega arith) ∙ both.1)
          ∙ ap (λ l. l ++ slice_index_or all n d ∷ []) (none (so.back_stays n (omega arith) ∙ both.0) ∙ so.cells_are all split)
          ∙ taken all d low

pub united_all : (concerned : RoleSet) (old_back old_beside : List (Option CellView)) (n : ℕ) (cells all : List CellView) (back beside : List (Option CellView))
    → AreUnitedTo concerned old_back old_beside n cells back beside → n ≡ length old_back
    → AreSplit concerned all old_back old_beside → AreSplit concerned cells old_back old_beside
united_all concerned old_back old_beside n cells all back beside so e split =
    let count = split.back_count in
    subst (λ l. AreSplit concerned l old_back old_beside) (sym (so.cells_are all split ∙ take_all n all (omega (arith, e, count)))) split
