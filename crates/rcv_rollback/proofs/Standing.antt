-- What stands at the places of a half.
use Prim.Native.Nat.{zero, suc}
use Rattle.std.proofs.Common.{◌≡◌, ℕ, ◌<◌, Option, Some, None, List, [], ◌∷◌, ◌++◌, length, take, drop, refl, sym, ◌∙◌, ap, subst, ◌⊎◌, inl, inr, ⊎_elim, arith}
use Rattle.std.specs.Prelude.{slice_get, slice_index_or, slice_set}
use Rattle.std.proofs.lemmas.Bool.{cases_eq, cases_lt}
use Rattle.std.proofs.lemmas.Option.{slice_get-get_or, slice_get_past}
use Rattle.std.proofs.lemmas.List.{take_at}
use Rattle.rcv_role.specs.Cell.{CellView}
use Rattle.rcv_rollback.specs.Halves.{Has, Lacks}
use Rattle.rcv_rollback.specs.Going.{StayBut, CanRewind, CanRewindAlone, CanRewindAt, HaveRewoundAt, HasSender, HasBoth, HasReceiver, HasRewoundChannel}

pub get_within : {A : Type 0} (xs : List A) (k : ℕ) (x : A) → slice_get xs k ≡ Some x → k < length xs
get_within [] k x e = absurd (cc)
get_within (y ∷ xs) zero x e = omega arith
get_within (y ∷ xs) (suc k) x e = let lt = get_within xs k x e in omega (arith, lt)

pub either : (half : List (Option CellView)) (r : ℕ) → r < length half → Lacks half r ⊎ ((c : CellView) × Has half r c)
either [] r lt = absurd (omega (arith, lt))
either (None ∷ half) zero lt = inl refl
either (Some c ∷ half) zero lt = inr (c, refl)
either (x ∷ half) (suc r) lt = either half r (omega (arith, lt))

inside : Option CellView → CellView → CellView
inside None d = d
inside (Some c) d = c

within : Option (Option CellView) → CellView → CellView
within None d = d
within (Some o) d = inside o d

pub one_cell : (half : List (Option CellView)) (r : ℕ) (a b : CellView) → Has half r a → Has half r b → a ≡ b
unfolding within inside
one_cell half r a b f g = ap (λ o. within o a) (sym f ∙ g)

pub not_both : (half : List (Option CellView)) (r : ℕ) (a : CellView) → Has half r a → Lacks half r → ⊥
not_both half r a f g = let e : Some (Some a) ≡ Some None = sym f ∙ g in absurd (cc)

-- a list with one item set
pub set_here : {A : Type 0} (xs : List A) (k : ℕ) (x : A) → k < length xs → slice_get (slice_set xs k x) k ≡ Some x
set_here [] k x lt = absurd (omega (arith, lt))
set_here (y ∷ xs) zero x lt = refl
set_here (y ∷ xs) (suc k) x lt = set_here xs k x (omega (arith, lt))

set_else : {A : Type 0} (xs : List A) (k : ℕ) (x : A) (j : ℕ) → (j ≡ k → ⊥) → slice_get (slice_set xs k x) j ≡ slice_get xs j
set_else [] k x j n = refl
set_else (y ∷ xs) zero x zero n = absurd (n refl)
set_else (y ∷ xs) zero x (suc j) n = refl
set_else (y ∷ xs) (suc k) x zero n = refl
set_else (y ∷ xs) (suc k) x (suc j) n = set_else xs k x j (λ e. n (ap suc e))

set_length : {A : Type 0} (xs : List A) (k : ℕ) (x : A) → length (slice_set xs k x) ≡ length xs
set_length [] k x = refl
set_length (y ∷ xs) zero x = refl
set_length (y ∷ xs) (suc k) x = ap suc (set_length xs k x)

pub stay_set : (xs : List (Option CellView)) (k : ℕ) (x : Option CellView) → StayBut xs (slice_set xs k x) k
stay_set xs k x = record { count = set_length xs k x; others = λ j n. set_else xs k x j n }

-- a list that is lent as a slice ends as what the slice became
pub written_back : {A : Type 0} (old new : List A) (n : ℕ) → n ≡ length old → length new ≡ length old
    → take n (new ++ drop (length new) old) ≡ new
written_back old new n size count = take_at new (drop (length new) old) n (count ∙ sym size)

-- what is told of two places is told of what stands there
pub can_at :
    (half : List (Option CellView)) (s t keep drop_from : ℕ) → s < length half → t < length half
    → ((a b : CellView) → Has half s a → Has half t b → CanRewind a b keep drop_from)
    → ((b : CellView) → Has half t b → Lacks half s → CanRewindAlone b s keep)
    → (d : Option CellView) → CanRewindAt (slice_index_or half t d) (slice_index_or half s d) s keep drop_from
can_at half s t keep drop_from ls lt pair alone d = record {
  pair = λ a b is is'. pair a b (slice_get-get_or half s d ls ∙ ap Some is) (slice_get-get_or half t d lt ∙ ap Some is');
  alone = λ b is is'. alone b (slice_get-get_or half t d lt ∙ ap Some is') (slice_get-get_or half s d ls ∙ ap Some is);
}

-- the channel between two places went back
module _ (old new : List (Option CellView)) (s t keep drop_from : ℕ) (ls : s < length old) (lt : t < length old)
    (count : length new ≡ length old)
    (apart : (k : ℕ) (d : Option CellView) → (k ≡ t → ⊥) → (k ≡ s → ⊥) → slice_index_or new k d ≡ slice_index_or old k d) where
  others : (k : ℕ) → (k ≡ s → ⊥) → (k ≡ t → ⊥) → slice_get new k ≡ slice_get old k
  others k n m = ⊎_elim
      (λ low.
      let low' : k < length new = omega (arith, low, count) in
      slice_get-get_or new k None low' ∙ ap Some (apart k None m n) ∙ sym (slice_get-get_or old k None low))
      (λ high. slice_get_past new k (omega (arith, high, count)) ∙ sym (slice_get_past old k high))
      (cases_lt k (length old))

  by_cases :
      (b b' a a' : Option CellView) → slice_get old t ≡ Some b → slice_get new t ≡ Some b' → slice_get old s ≡ Some a
      → slice_get new s ≡ Some a' → HaveRewoundAt b b' a a' s keep drop_from → HasRewoundChannel old new s t keep drop_from
  by_cases None b' a a' at_t now_t at_s now_s went = record {
    count = count;
    others = others;
    none = λ l k. ⊎_elim
        (λ e. ap (slice_get new) e ∙ now_s ∙ ap Some went.1 ∙ sym at_s ∙ ap (slice_get old) (sym e))
        (λ n. ⊎_elim
        (λ e. ap (slice_get new) e ∙ now_t ∙ ap Some went.0 ∙ sym at_t ∙ ap (slice_get old) (sym e))
        (λ m. others k n m)
        (cases_eq k t))
        (cases_eq k s);
    empty = λ l. now_s ∙ ap Some went.1 ∙ sym at_s ∙ l;
    alone = λ c hc l. absurd (not_both old t c hc at_t);
    pair = λ x c hx hc. absurd (not_both old t c hc at_t);
  }
  by_cases (Some b) b' None a' at_t now_t at_s now_s went = record {
    count = count;
    others = others;
    none = λ l. absurd (not_both old t b at_t l);
    empty = λ l. now_s ∙ ap Some went.2;
    alone = λ c hc l.
        let received : HasReceiver new s t b keep = record { to_now = went.0; has = now_t ∙ ap Some went.1; rewound = went.3 } in
        subst (λ x. HasReceiver new s t x keep) (one_cell old t b c at_t hc) received;
    pair = λ x c hx hc. absurd (not_both old s x hx at_s);
  }
  by_cases (Some b) b' (Some a) a' at_t now_t at_s now_s went = record {
    count = count;
    others = others;
    none = λ l. absurd (not_both old t b at_t l);
    empty = λ l. absurd (not_both old s a at_s l);
    alone = λ c hc l. absurd (not_both old s a at_s l);
    pair = λ x c hx hc.
        let sent : HasSender new s a b went.0 keep drop_from =
        record { from_now = went.1; has = now_s ∙ ap Some went.3; rewound = went.4 } in
        let both : HasBoth new s t a b keep drop_from =
        record { to_now = went.0; has = now_t ∙ ap Some went.2; sender = sent } in
        subst (λ y. HasBoth new s t x y keep drop_from) (one_cell old t b c at_t hc)
        (subst (λ y. HasBoth new s t y b keep drop_from) (one_cell old s a x at_s hx) both);
  }

  pub between :
      ((d : Option CellView) → HaveRewoundAt (slice_index_or old t d) (slice_index_or new t d) (slice_index_or old s d)
      (slice_index_or new s d) s keep drop_from)
      → HasRewoundChannel old new s t keep drop_from
  between done =
      let ls' : s < length new = omega (arith, ls, count) in
      let lt' : t < length new = omega (arith, lt, count) in
      by_cases _ _ _ _ (slice_get-get_or old t None lt) (slice_get-get_or new t None lt') (slice_get-get_or old s None ls)
      (slice_get-get_or new s None ls') (done None)
