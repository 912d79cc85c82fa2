-- What the steps of a reader say in the words of the table: no code holds at what is taken, and where it stops the first
-- and least one holds.
use Rattle.std.proofs.Common.{◌≡◌, ℕ, Bool, true, false, List, [], ◌∷◌, ◌++◌, ◌<◌, ◌≤◌, length, arith, refl, sym, ◌∙◌, ap, subst, append_assoc, append-nil}
use Rattle.std.specs.Prelude.{◌&&◌, ◌||◌, ◌==◌, not, codes, cond, Option, Some, None}
use Rattle.rcv_tree.specs.Names.{place_of}
use Rattle.rcv_tree.proofs.Naming.{is_named}
use Rattle.rcv_model.specs.Plan.{PlanLine, EveryLine, CrashLine, LimitLine, RoomLine, HostLine}
use Rattle.rcv_lexer.proofs.Refusing.{backward_append}
use Rattle.rcv_plan.specs.declared.sign.Sign.{Sign}
use Rattle.rcv_plan.specs.Symbols.{Symbol, Word, Number, Is, Text, is_comma, is_equals}
use Rattle.rcv_plan.specs.declared.fault.Fault.{Fault}
use Rattle.rcv_plan.specs.declared.fault.Fault.TheVariants.{Token, Role, Twice, Range}
use Rattle.std.proofs.lemmas.Bool.Decides.{nat_tests}
use Rattle.std.proofs.lemmas.List.Elements.{All-head, All-tail, All-cons}
use Rattle.rcv_plan.specs.Lines.{IsReadLine, IsReadPlan, has_crash}
use Rattle.rcv_plan.specs.Grammar.{Written, WrittenEvery, WrittenCrash, WrittenLimit, WrittenRoom, item_text, is_role, place, said}
use Rattle.rcv_plan.specs.Codes.{is_between, is_behind, is_behind_role, is_in_list, lines_before, hosts_before, is_unknown, is_repeated, is_second, is_out_of_range, within}
use Rattle.rcv_plan.specs.Refusing.{backward}
use Rattle.rcv_plan.specs.Items.{KnownView, Step, Takes, Stops, goes_on, with_line, found, next_role, next_number, next_count, every_line, crash_line, limit_line, room_line, is_first_word}
use Rattle.rcv_plan.proofs.Fresh.{Fresh}
use Rattle.rcv_plan.proofs.Crashes.{same_crash}

-- the grammar has the symbol behind those
abbrev pub has : List Symbol → Symbol → Bool
has back (Word w) = is_behind (codes "every") back || (is_behind (codes "crash") back || (is_behind (codes "host") back || (is_in_list back || (is_between back && is_first_word w))))
has back (Number n) = is_behind_role (codes "every") back || (is_behind_role (codes "crash") back || (is_behind (codes "limit") back || is_behind (codes "room") back))
has (Word q ∷ back) (Is m) = (is_behind (codes "host") back && is_equals m) || (is_in_list back && is_comma m)
has back (Is m) = false
has back (Text x) = false

-- no code from 41 on holds at the symbol, and the grammar has it
pub record NoneAt (roles : List (List ℕ)) (back : List Symbol) (t : Symbol) (ts : List Symbol) : Type 0 where
  pub had : has back t ≡ true
  pub known : is_unknown roles back t ≡ false
  pub single : is_repeated roles back t ts ≡ false
  pub ranged : is_out_of_range back t ≡ false

abbrev pub AllFree : List (List ℕ) → List Symbol → List Symbol → List Symbol → Type 0
AllFree roles back [] left = Unit {0}
AllFree roles back (t ∷ xs) left = NoneAt roles back t (xs ++ left) × AllFree roles (t ∷ back) xs left

-- the code holds at the first of what is left, and no lesser one
abbrev pub Speaks : List (List ℕ) → Fault → List Symbol → List Symbol → Type 0
Speaks roles Token back [] = is_between back ≡ false
Speaks roles Token back (t ∷ ts) = has back t ≡ false
Speaks roles f back [] = ⊥
Speaks roles Role back (t ∷ ts) = (has back t ≡ true) × (is_unknown roles back t ≡ true)
Speaks roles Twice back (t ∷ ts) = (has back t ≡ true) × (is_unknown roles back t ≡ false) × (is_repeated roles back t ts ≡ true)
Speaks roles Range back (t ∷ ts) = (has back t ≡ true) × (is_unknown roles back t ≡ false) × (is_repeated roles back t ts ≡ false) × (is_out_of_range back t ≡ true)

-- What is known is what stands before.
pub record Knows (roles : List (List ℕ)) (back : List Symbol) (k : KnownView) : Type 0 where
  pub lines : k.lines ≡ lines_before roles back
  pub names : k.names ≡ hosts_before back
  pub fits : IsReadPlan (length roles) k.lines

-- An item was taken, or the first and least code holds where the reader stops.
pub record TakesItem (roles : List (List ℕ)) (back : List Symbol) (k k' : KnownView) (symbols left : List Symbol) : Type 0 where
  pub item : Written
  pub cut : symbols ≡ item_text item ++ left
  pub free : AllFree roles back (item_text item) left
  pub knows : Knows roles (backward (item_text item) back) k'
  pub over : is_between (backward (item_text item) back) ≡ true
  pub settled : (m : Sign) (us : List Symbol) → left ≡ Is m ∷ us → has (backward (item_text item) back) (Is m) ≡ false
  pub more : k'.lines ≡ k.lines ++ said roles item ∷ []
  pub alone : (r n : ℕ) → said roles item ≡ CrashLine r n → has_crash r n k.lines ≡ false

-- the symbols begin an item
abbrev pub Completes : List Symbol → Type 0
Completes front = (item : Written) × (rest : List Symbol) × (front ++ rest ≡ item_text item)

-- with the symbol at which a code from 41 on holds they still do
abbrev pub Allowed : Fault → List Symbol → List Symbol → Type 0
Allowed Token front left = Unit {0}
Allowed f front [] = Unit {0}
Allowed f front (t ∷ ts) = Completes (front ++ t ∷ [])

pub record StopsAt (roles : List (List ℕ)) (back symbols : List Symbol) (f : Fault) (left : List Symbol) : Type 0 where
  pub front : List Symbol
  pub cut : symbols ≡ front ++ left
  pub free : AllFree roles back front left
  pub speaks : Speaks roles f (backward front back) left
  pub item : Written
  pub rest : List Symbol
  pub begins : front ++ rest ≡ item_text item
  pub allowed : Allowed f front left

abbrev pub Tells : List (List ℕ) → List Symbol → KnownView → List Symbol → Step KnownView → Type 0
Tells roles back k symbols (Takes k' left) = TakesItem roles back k k' symbols left
Tells roles back k symbols (Stops f left) = StopsAt roles back symbols f left

-- a role that was found is one of them
pub declared : (roles : List (List ℕ)) (r : List ℕ) (p : ℕ) → place_of roles r ≡ Some p → p < length roles
declared roles r p e = (is_named roles r p e).0

-- a line more
pub fits_more : (m : ℕ) (lines : List PlanLine) (line : PlanLine) → IsReadPlan m lines → IsReadLine m line → IsReadPlan m (lines ++ line ∷ [])
fits_more m [] line f g = All-cons (IsReadLine m) line [] g f
fits_more m (x ∷ lines) line f g = All-cons (IsReadLine m) x (lines ++ line ∷ []) (All-head (IsReadLine m) x lines f) (fits_more m lines line (All-tail (IsReadLine m) x lines f) g)

pub in_range : (low high n : ℕ) → within low high n ≡ true → (low ≤ n) × (n ≤ high)
in_range low high n e = (grind (arith, nat_tests), grind (arith, nat_tests))

-- a number out of range stands in no crash line
no_crash : (m p n : ℕ) (lines : List PlanLine) → IsReadPlan m lines → within 0 100000 n ≡ false → has_crash p n lines ≡ false
no_crash m p n [] f w = refl
no_crash m p n (CrashLine q c ∷ lines) f w =
    let others = no_crash m p n lines (All-tail (IsReadLine m) (CrashLine q c) lines f) w in
    let first = All-head (IsReadLine m) (CrashLine q c) lines f in
    let last : c ≤ 100000 = first.1 in
    let other : (c == n) ≡ false = grind (arith, nat_tests) in
    rw (other, others) (none (q == p))
  where
    none : (a : Bool) → ((a && false) || false) ≡ false
    none true = refl
    none false = refl
no_crash m p n (EveryLine q c ∷ lines) f w = no_crash m p n lines (All-tail (IsReadLine m) (EveryLine q c) lines f) w
no_crash m p n (LimitLine c ∷ lines) f w = no_crash m p n lines (All-tail (IsReadLine m) (LimitLine c) lines f) w
no_crash m p n (RoomLine c ∷ lines) f w = no_crash m p n lines (All-tail (IsReadLine m) (RoomLine c) lines f) w
no_crash m p n (HostLine qs ∷ lines) f w = no_crash m p n lines (All-tail (IsReadLine m) (HostLine qs) lines f) w

-- ---- where an item stops, and its first word

pub free_append : (roles : List (List ℕ)) (back xs ys left : List Symbol) → AllFree roles back xs (ys ++ left) → AllFree roles (backward xs back) ys left → AllFree roles back (xs ++ ys) left
free_append roles back [] ys left a b = b
free_append roles back (x ∷ xs) ys left a b = (subst (λ (z : List Symbol). NoneAt roles back x z) (sym (append_assoc xs ys left)) a.0, free_append roles (x ∷ back) xs ys left a.1 b)

-- behind symbols that begin an item, and at which no code holds
pub stops : (roles : List (List ℕ)) (back front : List Symbol) (fault : Fault) (left : List Symbol) → Completes front → AllFree roles back front left
    → Speaks roles fault (backward front back) left → Allowed fault front left → StopsAt roles back (front ++ left) fault left
stops roles back front fault left begun free speaks allowed = record {
  front = front;
  cut = refl;
  free = free;
  speaks = speaks;
  item = begun.0;
  rest = begun.1;
  begins = begun.2;
  allowed = allowed;
}

pub first_free : (roles : List (List ℕ)) (back : List Symbol) (w : List ℕ) (ts : List Symbol) → Fresh back → is_first_word w ≡ true → is_second roles (lines_before roles back) w ts ≡ false → NoneAt roles back (Word w) ts
first_free roles back w ts f first e = record {
  had = rw (f.behind (codes "every"), f.behind (codes "crash"), f.behind (codes "host"), f.in_list, f.between, first) refl;
  known = rw (f.behind (codes "every"), f.behind (codes "crash"), f.in_list) refl;
  single = rw (f.between, f.behind (codes "host"), f.in_list, e) refl;
  ranged = refl;
}

-- ---- the number at the end of an item

-- a number in a range, and not one that stands before
abbrev next_new : ℕ → ℕ → (ℕ → Bool) → List Symbol → Step ℕ
next_new low high stands (Number n ∷ ts) = cond (within low high n) (cond (stands n) (Stops Twice (Number n ∷ ts)) (Takes n ts)) (Stops Range (Number n ∷ ts))
next_new low high stands ts = Stops Token ts

any_is_new : (low high : ℕ) (ts : List Symbol) → next_number low high ts ≡ next_new low high (λ n. false) ts
any_is_new low high [] = refl
any_is_new low high (Word w ∷ ts) = refl
any_is_new low high (Number n ∷ ts) = refl
any_is_new low high (Is m ∷ ts) = refl
any_is_new low high (Text x ∷ ts) = refl

count_is_new : (k : KnownView) (p : ℕ) (ts : List Symbol) → next_count k p ts ≡ next_new 0 100000 (λ n. has_crash p n k.lines) ts
count_is_new k p [] = refl
count_is_new k p (Word w ∷ ts) = refl
count_is_new k p (Number n ∷ ts) = refl
count_is_new k p (Is m ∷ ts) = refl
count_is_new k p (Text x ∷ ts) = refl

module _ (roles : List (List ℕ)) (back : List Symbol) (k : KnownView) (f : Fresh back) (kn : Knows roles back k) where
  -- Behind this front of an item a number is next, and ends the item: one in this range that doesn't stand before.
  record AsksNumber (front : List Symbol) (low high : ℕ) (stands : ℕ → Bool) (written : ℕ → Written) : Type 0 where
    whole : (n : ℕ) → item_text (written n) ≡ front ++ Number n ∷ []
    over : is_between (backward front back) ≡ false
    word : (w : List ℕ) → has (backward front back) (Word w) ≡ false
    sign : (m : Sign) → has (backward front back) (Is m) ≡ false
    number : (n : ℕ) → has (backward front back) (Number n) ≡ true
    single : (n : ℕ) (ts : List Symbol) → is_repeated roles (backward front back) (Number n) ts ≡ stands n
    ranged : (n : ℕ) → within low high n ≡ true → is_out_of_range (backward front back) (Number n) ≡ false
    beyond : (n : ℕ) → within low high n ≡ false → (stands n ≡ false) × (is_out_of_range (backward front back) (Number n) ≡ true)
    lines : (n : ℕ) → lines_before roles (Number n ∷ backward front back) ≡ lines_before roles back ++ said roles (written n) ∷ []
    names : hosts_before (backward front back) ≡ hosts_before back
    fits : (n : ℕ) → within low high n ≡ true → IsReadLine (length roles) (said roles (written n))
    alone : (n r c : ℕ) → stands n ≡ false → said roles (written n) ≡ CrashLine r c → has_crash r c k.lines ≡ false

  -- the step with the number's line
  abbrev ended : (ℕ → Written) → Step ℕ → Step KnownView
  ended written step = goes_on step (λ n ts. Takes (with_line k (said roles (written n))) ts)

  number_tells : (front : List Symbol) {low high : ℕ} {stands : ℕ → Bool} {written : ℕ → Written} → AsksNumber front low high stands written
      → (next : List Symbol → Step ℕ) → ((ts : List Symbol) → next ts ≡ next_new low high stands ts)
      → (ts : List Symbol) → AllFree roles back front ts → Tells roles back k (front ++ ts) (ended written (next ts))
  number_tells front {low} {high} {stands} {written} asks next is_new ts free = subst (λ (s : Step ℕ). Tells roles back k (front ++ ts) (ended written s)) (sym (is_new ts)) (go ts free)
    where
      begun : Completes front
      begun = (written 0, Number 0 ∷ [], sym (asks.whole 0))

      go : (ts : List Symbol) → AllFree roles back front ts → Tells roles back k (front ++ ts) (ended written (next_new low high stands ts))
      go [] free = stops roles back front Token [] begun free asks.over tt
      go (Word w ∷ ts) free = stops roles back front Token (Word w ∷ ts) begun free (asks.word w) tt
      go (Is m ∷ ts) free = stops roles back front Token (Is m ∷ ts) begun free (asks.sign m) tt
      go (Text x ∷ ts) free = stops roles back front Token (Text x ∷ ts) begun free refl tt
      go (Number n ∷ ts) free = test (within low high n) (stands n) refl refl
        where
          allowed : Completes (front ++ Number n ∷ [])
          allowed = (written n, [], append-nil (front ++ Number n ∷ []) ∙ sym (asks.whole n))

          behind : Number n ∷ backward front back ≡ backward (item_text (written n)) back
          behind = sym (ap (λ (xs : List Symbol). backward xs back) (asks.whole n) ∙ backward_append front (Number n ∷ []) back)

          test : (in_range twice : Bool) → within low high n ≡ in_range → stands n ≡ twice
              → Tells roles back k (front ++ Number n ∷ ts) (ended written (cond in_range (cond twice (Stops Twice (Number n ∷ ts)) (Takes n ts)) (Stops Range (Number n ∷ ts))))
          test false twice w t = stops roles back front Range (Number n ∷ ts) begun free (asks.number n, refl, asks.single n ts ∙ (asks.beyond n w).0, (asks.beyond n w).1) allowed
          test true true w t = stops roles back front Twice (Number n ∷ ts) begun free (asks.number n, refl, asks.single n ts ∙ t) allowed
          test true false w t = record {
            item = written n;
            cut = sym (append_assoc front (Number n ∷ []) ts) ∙ ap (λ (xs : List Symbol). xs ++ ts) (sym (asks.whole n));
            free = subst (λ (xs : List Symbol). AllFree roles back xs ts) (sym (asks.whole n))
                (free_append roles back front (Number n ∷ []) ts free (record { had = asks.number n; known = refl; single = asks.single n ts ∙ t; ranged = asks.ranged n w }, tt));
            knows = subst (λ (b : List Symbol). Knows roles b (with_line k (said roles (written n)))) behind (record {
              lines = ap (λ (l : List PlanLine). l ++ said roles (written n) ∷ []) kn.lines ∙ sym (asks.lines n);
              names = kn.names ∙ sym asks.names;
              fits = fits_more (length roles) k.lines (said roles (written n)) kn.fits (asks.fits n w);
            });
            over = subst (λ (b : List Symbol). is_between b ≡ true) behind refl;
            settled = λ m us x. subst (λ (b : List Symbol). has b (Is m) ≡ false) behind refl;
            more = refl;
            alone = λ r c x. asks.alone n r c t x;
          }

  -- ---- the role before it

  -- Behind this first word a declared role is next, and then a number.
  record AsksRole (w : List ℕ) (written : List ℕ → ℕ → Written) : Type 0 where
    whole : (r : List ℕ) (n : ℕ) → item_text (written r n) ≡ Word w ∷ Word r ∷ Number n ∷ []
    number : (n : ℕ) → has (Word w ∷ back) (Number n) ≡ false
    role : (r : List ℕ) → has (Word w ∷ back) (Word r) ≡ true
    known : (r : List ℕ) → is_unknown roles (Word w ∷ back) (Word r) ≡ not (is_role roles r)
    single : (r : List ℕ) (ts : List Symbol) → is_repeated roles (Word w ∷ back) (Word r) ts ≡ false

  word_tells : (w : List ℕ) {written : List ℕ → ℕ → Written} → AsksRole w written → (line : ℕ → List Symbol → Step KnownView) (ts : List Symbol) → NoneAt roles back (Word w) ts
      → ((r : List ℕ) (us : List Symbol) → place roles r < length roles → AllFree roles back (Word w ∷ Word r ∷ []) us → Tells roles back k (Word w ∷ Word r ∷ us) (line (place roles r) us))
      → Tells roles back k (Word w ∷ ts) (goes_on (next_role roles ts) line)
  word_tells w {written} asks line ts free tells = go ts free
    where
      begun : Completes (Word w ∷ [])
      begun = (written [] 0, Word [] ∷ Number 0 ∷ [], sym (asks.whole [] 0))

      go : (ts : List Symbol) → NoneAt roles back (Word w) ts → Tells roles back k (Word w ∷ ts) (goes_on (next_role roles ts) line)
      go [] free = stops roles back (Word w ∷ []) Token [] begun (free, tt) (f.word w) tt
      go (Number n ∷ ts) free = stops roles back (Word w ∷ []) Token (Number n ∷ ts) begun (free, tt) (asks.number n) tt
      go (Is m ∷ ts) free = stops roles back (Word w ∷ []) Token (Is m ∷ ts) begun (free, tt) (rw (f.behind (codes "host"), f.in_list) refl) tt
      go (Text x ∷ ts) free = stops roles back (Word w ∷ []) Token (Text x ∷ ts) begun (free, tt) refl tt
      go (Word r ∷ ts) free = found_so (place_of roles r) refl
        where
          found_so : (o : Option ℕ) → place_of roles r ≡ o → Tells roles back k (Word w ∷ Word r ∷ ts) (goes_on (found o (Word r ∷ ts) ts) line)
          found_so None is =
              let none : not (is_role roles r) ≡ true = rw is refl in
              stops roles back (Word w ∷ []) Role (Word r ∷ ts) begun (free, tt) (asks.role r, asks.known r ∙ none) (written r 0, Number 0 ∷ [], sym (asks.whole r 0))
          found_so (Some p) is =
              let there : place roles r ≡ p = rw is refl in
              let below : place roles r < length roles = rw is (declared roles r p is) in
              let one : not (is_role roles r) ≡ false = rw is refl in
              let role : NoneAt roles (Word w ∷ back) (Word r) ts = record { had = asks.role r; known = asks.known r ∙ one; single = asks.single r ts; ranged = refl } in
              subst (λ (q : ℕ). Tells roles back k (Word w ∷ Word r ∷ ts) (line q ts)) there (tells r ts below (free, (role, tt)))

  -- ---- limit and room

  limit_asks : AsksNumber (Word (codes "limit") ∷ []) 1 100000 (λ n. false) WrittenLimit
  limit_asks = record {
    whole = λ n. refl;
    over = f.word (codes "limit");
    word = λ w. rw (f.between, f.word (codes "limit")) refl;
    sign = λ m. rw (f.behind (codes "host"), f.in_list) refl;
    number = λ n. rw (f.behind (codes "every"), f.behind (codes "crash"), f.between) refl;
    single = λ n ts. rw (f.behind (codes "crash")) refl;
    ranged = λ n w. rw (f.behind (codes "every"), f.behind (codes "crash"), f.between, w) refl;
    beyond = λ n w. (refl, rw (f.behind (codes "every"), f.behind (codes "crash"), f.between, w) refl);
    lines = λ n. rw (f.hosted (lines_before roles back) (place roles (codes "limit")), f.between) refl;
    names = rw (f.behind (codes "host")) refl;
    fits = λ n w. in_range 1 100000 n w;
    alone = λ n r c t x. absurd cc;
  }

  pub limit_tells : (ts : List Symbol) → is_second roles (lines_before roles back) (codes "limit") ts ≡ false → Tells roles back k (Word (codes "limit") ∷ ts) (limit_line k ts)
  limit_tells ts e = number_tells (Word (codes "limit") ∷ []) limit_asks (next_number 1 100000) (any_is_new 1 100000) ts (first_free roles back (codes "limit") ts f refl e, tt)

  room_asks : AsksNumber (Word (codes "room") ∷ []) 1 1024 (λ n. false) WrittenRoom
  room_asks = record {
    whole = λ n. refl;
    over = f.word (codes "room");
    word = λ w. rw (f.between, f.word (codes "room")) refl;
    sign = λ m. rw (f.behind (codes "host"), f.in_list) refl;
    number = λ n. rw (f.behind (codes "every"), f.behind (codes "crash"), f.between) refl;
    single = λ n ts. rw (f.behind (codes "crash")) refl;
    ranged = λ n w. rw (f.behind (codes "every"), f.behind (codes "crash"), f.between, w) refl;
    beyond = λ n w. (refl, rw (f.behind (codes "every"), f.behind (codes "crash"), f.between, w) refl);
    lines = λ n. rw (f.hosted (lines_before roles back) (place roles (codes "room")), f.between) refl;
    names = rw (f.behind (codes "host")) refl;
    fits = λ n w. in_range 1 1024 n w;
    alone = λ n r c t x. absurd cc;
  }

  pub room_tells : (ts : List Symbol) → is_second roles (lines_before roles back) (codes "room") ts ≡ false → Tells roles back k (Word (codes "room") ∷ ts) (room_line k ts)
  room_tells ts e = number_tells (Word (codes "room") ∷ []) room_asks (next_number 1 1024) (any_is_new 1 1024) ts (first_free roles back (codes "room") ts f refl e, tt)

  -- ---- every and crash

  every_role : AsksRole (codes "every") WrittenEvery
  every_role = record {
    whole = λ r n. refl;
    number = λ n. rw (f.behind (codes "every"), f.behind (codes "crash"), f.between) refl;
    role = λ r. rw f.between refl;
    known = λ r. rw f.between refl;
    single = λ r ts. rw (f.word (codes "every"), f.between) refl;
  }

  every_number : (r : List ℕ) → place roles r < length roles → AsksNumber (Word (codes "every") ∷ Word r ∷ []) 1 100000 (λ n. false) (WrittenEvery r)
  every_number r below = record {
    whole = λ n. refl;
    over = refl;
    word = λ w. rw (f.word (codes "every")) refl;
    sign = λ m. rw f.between refl;
    number = λ n. rw f.between refl;
    single = λ n ts. rw f.between refl;
    ranged = λ n w. rw (f.between, f.word (codes "every"), w) refl;
    beyond = λ n w. (refl, rw (f.between, f.word (codes "every"), w) refl);
    lines = λ n. rw (f.word (codes "every"), f.hosted (lines_before roles back) (place roles (codes "every")), f.between) refl;
    names = rw (f.behind (codes "host"), f.between) refl;
    fits = λ n w. (below, (in_range 1 100000 n w).0, (in_range 1 100000 n w).1);
    alone = λ n q c t x. absurd cc;
  }

  pub every_tells : (ts : List Symbol) → is_second roles (lines_before roles back) (codes "every") ts ≡ false → Tells roles back k (Word (codes "every") ∷ ts) (every_line roles k ts)
  every_tells ts e =
      word_tells (codes "every") every_role (λ p us. goes_on (next_number 1 100000 us) (λ n vs. Takes (with_line k (EveryLine p n)) vs)) ts (first_free roles back (codes "every") ts f refl e)
      (λ r us below free. number_tells (Word (codes "every") ∷ Word r ∷ []) (every_number r below) (next_number 1 100000) (any_is_new 1 100000) us free)

  crash_role : AsksRole (codes "crash") WrittenCrash
  crash_role = record {
    whole = λ r n. refl;
    number = λ n. rw (f.behind (codes "every"), f.behind (codes "crash"), f.between) refl;
    role = λ r. rw f.between refl;
    known = λ r. rw f.between refl;
    single = λ r ts. rw (f.word (codes "crash"), f.between) refl;
  }

  crash_number : (r : List ℕ) → place roles r < length roles → AsksNumber (Word (codes "crash") ∷ Word r ∷ []) 0 100000 (λ n. has_crash (place roles r) n k.lines) (WrittenCrash r)
  crash_number r below = record {
    whole = λ n. refl;
    over = refl;
    word = λ w. rw (f.word (codes "crash")) refl;
    sign = λ m. rw f.between refl;
    number = λ n. rw f.between refl;
    single = λ n ts. rw (f.between, f.hosted (lines_before roles back) (place roles (codes "crash"))) (ap (λ (l : List PlanLine). has_crash (place roles r) n l) (sym kn.lines));
    ranged = λ n w. rw (f.between, f.word (codes "crash"), w) refl;
    beyond = λ n w. (no_crash (length roles) (place roles r) n k.lines kn.fits w, rw (f.between, f.word (codes "crash"), w) refl);
    lines = λ n. rw (f.word (codes "crash"), f.hosted (lines_before roles back) (place roles (codes "crash")), f.between) refl;
    names = rw (f.behind (codes "host"), f.between) refl;
    fits = λ n w. (below, (in_range 0 100000 n w).1);
    alone = λ n q c t x. same_crash (place roles r) n q c k.lines x t;
  }

  pub crash_tells : (ts : List Symbol) → is_second roles (lines_before roles back) (codes "crash") ts ≡ false → Tells roles back k (Word (codes "crash") ∷ ts) (crash_line roles k ts)
  crash_tells ts e =
      word_tells (codes "crash") crash_role (λ p us. goes_on (next_count k p us) (λ n vs. Takes (with_line k (CrashLine p n)) vs)) ts (first_free roles back (codes "crash") ts f refl e)
      (λ r us below free. number_tells (Word (codes "crash") ∷ Word r ∷ []) (crash_number r below) (next_count k (place roles r)) (count_is_new k (place roles r)) us free)
