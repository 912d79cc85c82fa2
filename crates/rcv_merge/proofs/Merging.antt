-- One entry after another goes to the end of the merged list.
use Rattle.std.proofs.Common.{◌≡◌, ℕ, zero, suc, ◌+◌, ◌-◌, ◌<◌, ◌≤◌, Option, None, Some, List, [], ◌∷◌, ◌++◌, length, refl, sym, ◌∙◌, ap, subst, ◌⊎◌, inl, inr, ⊎_elim, arith}
use denote.Ref.{Bor}
use Rattle.std.specs.Prelude.{slice_get, slice_index, slice_index_or, slice_set, replicate, All}
use Rattle.std.proofs.lemmas.Bool.{cases_eq, cases_lt}
use Rattle.std.proofs.lemmas.List.{get_or-set_same, get_or-set_other, length-set}
use Rattle.std.proofs.lemmas.Option.{slice_get_within}
use Rattle.rcv_tree.specs.declared.entry.Entry.{Entry}
use Rattle.rcv_tree.specs.declared.entry.Timed.{Timed}
use Rattle.rcv_theory.specs.Round.{NeverFalls, entries, Placed, IsBefore, IsBeforeAll, IsAscending, in_order}
use Rattle.rcv_theory.proofs.Stamps.{Among, among_at, at_among}
use Rattle.rcv_model.proofs.Located.{item}
use Rattle.rcv_model.proofs.Lists.{some_same}
use Rattle.rcv_merge.specs.declared.round.Front.{Front}
use Rattle.rcv_merge.specs.Merge.{lent_logs, log_at, IsMergeOf, nobody, stamp_at, stamp_of, HasLeft, AreDone, AreWithin, IsFirst, AreStamps, AreStampsOf, AreDry, IsFront}

abbrev placed_at : ℕ → ℕ → Timed → Placed
placed_at role position timed = record { role = role; position = position; timed = timed }

-- an item as a look-up with a default has it
got_or : {A : Type 0} (xs : List A) (k : ℕ) (d x : A) → slice_get xs k ≡ Some x → slice_index_or xs k d ≡ x
got_or [] k d x e = absurd (cc)
got_or (y ∷ xs) zero d x e = some_same e
got_or (y ∷ xs) (suc k) d x e = got_or xs k d x e

-- one element more at the end of an ascending list
before_snoc : (a : Placed) (xs : List Placed) (b : Placed) → IsBeforeAll a xs → IsBefore a b → IsBeforeAll a (xs ++ b ∷ [])
before_snoc a [] b all one = (one, tt)
before_snoc a (x ∷ xs) b all one = (all.0, before_snoc a xs b all.1 one)

ascending_snoc : (xs : List Placed) (b : Placed) → IsAscending xs → ((a : Placed) → Among a xs → IsBefore a b) → IsAscending (xs ++ b ∷ [])
ascending_snoc [] b up before = (tt, tt)
ascending_snoc (x ∷ xs) b up before = (before_snoc x xs b up.0 (before x (inl refl)), ascending_snoc xs b up.1 (λ a i. before a (inr i)))

among_snoc : {A : Type 0} (xs : List A) (a b : A) → Among a (xs ++ b ∷ []) → Among a xs ⊎ (b ≡ a)
among_snoc [] a b (inl e) = inr e
among_snoc [] a b (inr i) = absurd i
among_snoc (x ∷ xs) a b (inl e) = inl (inl e)
among_snoc (x ∷ xs) a b (inr i) = ⊎_elim (λ j. inl (inr j)) (λ e. inr e) (among_snoc xs a b i)

among_front : {A : Type 0} (xs : List A) (a b : A) → Among a xs → Among a (xs ++ b ∷ [])
among_front [] a b i = absurd i
among_front (x ∷ xs) a b (inl e) = inl e
among_front (x ∷ xs) a b (inr i) = inr (among_front xs a b i)

among_end : {A : Type 0} (xs : List A) (b : A) → Among b (xs ++ b ∷ [])
among_end [] b = inl refl
among_end (x ∷ xs) b = inr (among_end xs b)

entries_snoc : (xs : List Placed) (b : Placed) → entries (in_order (xs ++ b ∷ [])) ≡ entries (in_order xs) ++ b.timed.step ∷ []
entries_snoc [] b = refl
entries_snoc (x ∷ xs) b = ap (λ l. x.timed.step ∷ l) (entries_snoc xs b)

-- what is merged so far: the entries before the heads, each before all that are left
pub record IsMerging (logs : List (List Timed)) (heads : List ℕ) (merged : List Entry) : Type 0 where
  pub within : AreWithin logs heads
  pub placed : List Placed
  pub is : merged ≡ entries (in_order placed)
  pub up : IsAscending placed
  pub sound : (b : Placed) → Among b placed → slice_get (log_at logs b.role) b.position ≡ Some b.timed
  pub complete : (r k : ℕ) (x : Timed) → k < slice_index heads r → slice_get (log_at logs r) k ≡ Some x → Among (placed_at r k x) placed
  pub before : (b : Placed) → Among b placed → (r k : ℕ) (x : Timed) → slice_index heads r ≤ k → slice_get (log_at logs r) k ≡ Some x → IsBefore b (placed_at r k x)

zeros_index : (n r : ℕ) → slice_index (replicate n 0) r ≡ 0
zeros_index zero r = refl
zeros_index (suc n) zero = refl
zeros_index (suc n) (suc r) = zeros_index n r

zeros_length : (n : ℕ) → length (replicate {A = ℕ} n 0) ≡ n
zeros_length zero = refl
zeros_length (suc n) = let e = zeros_length n in omega (arith, e)

pub begun : (logs : List (List Timed)) (heads : List ℕ) (merged : List Entry) (n : ℕ) → heads ≡ replicate n 0 → length logs ≤ n → merged ≡ [] → IsMerging logs heads merged
begun logs heads merged n e few m = record {
  within = record { count = let c = ap length e ∙ zeros_length n in omega (arith, c, few); within = λ r. let z = none r in omega (arith, z) };
  placed = [];
  is = m;
  up = tt;
  sound = λ b i. absurd i;
  complete = λ r k x lt g. absurd (let z = none r in omega (arith, z, lt));
  before = λ b i. absurd i;
}
  where
    none : (r : ℕ) → slice_index heads r ≡ 0
    none r = ap (λ l. slice_index l r) e ∙ zeros_index n r

module _ (logs : List (List Timed)) (heads : List ℕ) (merged : List Entry) (falls : (r : ℕ) → NeverFalls (log_at logs r)) (so : IsMerging logs heads merged) (r : ℕ) (first : IsFirst logs heads r) where
  x : (x : Timed) × (slice_get (log_at logs r) (slice_index heads r) ≡ Some x)
  x = item (log_at logs r) (slice_index heads r) first.left

  here : slice_index_or (log_at logs r) (slice_index heads r) nobody ≡ x.0
  here = got_or (log_at logs r) (slice_index heads r) nobody x.0 x.1

  abbrev heads' : List ℕ
  heads' = slice_set heads r (slice_index heads r + 1)

  own : slice_index heads' r ≡ slice_index heads r + 1
  own = get_or-set_same heads r (slice_index heads r + 1) 0 (let c = so.within.count in let l = first.role in omega (arith, c, l))

  other : (q : ℕ) → (q ≡ r → ⊥) → slice_index heads' q ≡ slice_index heads q
  other q n = get_or-set_other heads r q (slice_index heads r + 1) 0 n

  abbrev added : Placed
  added = record { role = r; position = slice_index heads r; timed = x.0 }

  declared : (q k : ℕ) (y : Timed) → slice_get (log_at logs q) k ≡ Some y → q < length logs
  declared q k y e = go logs q e
    where
      go : (ls : List (List Timed)) (q : ℕ) → slice_get (log_at ls q) k ≡ Some y → q < length ls
      go [] q e = absurd (cc)
      go (l ∷ ls) zero e = omega arith
      go (l ∷ ls) (suc q) e = let n = go ls q e in omega (arith, n)

  -- the entry that is added stands before all that are left
  first_of_left : (q k : ℕ) (y : Timed) → slice_index heads q ≤ k → slice_get (log_at logs q) k ≡ Some y → (q ≡ r → k ≡ slice_index heads r → ⊥) → IsBefore added (placed_at q k y)
  first_of_left q k y le e apart = ⊎_elim same else (cases_eq q r)
    where
      head : (z : Timed) × (slice_get (log_at logs q) (slice_index heads q) ≡ Some z)
      head = item (log_at logs q) (slice_index heads q) (let w = slice_get_within (log_at logs q) k y e in omega (arith, w, le))

      rises : head.0.stamp ≤ y.stamp
      rises = falls q (slice_index heads q) k head.0 y le head.1 e

      is : stamp_at logs heads q ≡ head.0.stamp
      is = ap (λ (t : Timed). t.stamp) (got_or (log_at logs q) (slice_index heads q) nobody head.0 head.1)

      mine : stamp_at logs heads r ≡ x.0.stamp
      mine = ap (λ (t : Timed). t.stamp) here

      least : (stamp_at logs heads r < stamp_at logs heads q) ⊎ ((stamp_at logs heads r ≡ stamp_at logs heads q) × (r ≤ q))
      least = first.first q (declared q k y e) (let w = slice_get_within (log_at logs q) k y e in omega (arith, w, le))

      same : q ≡ r → IsBefore added (placed_at q k y)
      same f =
          let g : slice_get (log_at logs q) (slice_index heads r) ≡ Some x.0 = ap (λ z. slice_get (log_at logs z) (slice_index heads r)) f ∙ x.1 in
          let low : slice_index heads r ≤ k = subst (λ z. slice_index heads z ≤ k) f le in
          let up : x.0.stamp ≤ y.stamp = falls q (slice_index heads r) k x.0 y low g e in
          let more : slice_index heads r < k = ⊎_elim (λ l. l) (λ m. absurd (apart f (omega (arith, low, m)))) (cases_lt (slice_index heads r) k) in
          ⊎_elim (λ l. inl l) (λ m. inr (omega (arith, up, m), inr (sym f, more))) (cases_lt x.0.stamp y.stamp)

      else : (q ≡ r → ⊥) → IsBefore added (placed_at q k y)
      else n = ⊎_elim
          (λ l. inl (omega (arith, l, is, mine, rises)))
          (λ f. ⊎_elim
          (λ l. inl l)
          (λ m. inr (omega (arith, f.0, is, mine, rises, m), inl (⊎_elim (λ l. l) (λ m. absurd (n (omega (arith, m, f.1)))) (cases_lt r q))))
          (cases_lt x.0.stamp y.stamp))
          least

  complete' : (q k : ℕ) (y : Timed) → k < slice_index heads' q → slice_get (log_at logs q) k ≡ Some y → Among (placed_at q k y) (so.placed ++ added ∷ [])
  complete' q k y lt e = ⊎_elim
      (λ f. ⊎_elim
      (λ l. among_front so.placed (placed_at q k y) added (so.complete q k y (subst (λ z. k < slice_index heads z) (sym f) l) e))
      (λ m. at_end f (let l : k < slice_index heads r + 1 = subst (λ z. k < z) own (subst (λ z. k < slice_index heads' z) f lt) in omega (arith, m, l)))
      (cases_lt k (slice_index heads r)))
      (λ n. among_front so.placed (placed_at q k y) added (so.complete q k y (subst (λ z. k < z) (other q n) lt) e))
      (cases_eq q r)
    where
      at_end : q ≡ r → k ≡ slice_index heads r → Among (placed_at q k y) (so.placed ++ added ∷ [])
      at_end f g =
          let t : y ≡ x.0 = some_same (sym e ∙ ap (λ z. slice_get (log_at logs z) k) f ∙ ap (slice_get (log_at logs r)) g ∙ x.1) in
          subst (λ b. Among b (so.placed ++ added ∷ [])) (sym (equal q r k (slice_index heads r) y x.0 f g t)) (among_end so.placed added)
        where
          equal : (q r k n : ℕ) (y x : Timed) → q ≡ r → k ≡ n → y ≡ x → placed_at q k y ≡ placed_at r n x
          equal q r k n y x f g h = cc

  before' : (b : Placed) → Among b (so.placed ++ added ∷ []) → (q k : ℕ) (y : Timed) → slice_index heads' q ≤ k → slice_get (log_at logs q) k ≡ Some y → IsBefore b (placed_at q k y)
  before' b i q k y le e = ⊎_elim
      (λ j. so.before b j q k y low e)
      (λ f. subst (λ z. IsBefore z (placed_at q k y)) f (first_of_left q k y low e apart))
      (among_snoc so.placed b added i)
    where
      low : slice_index heads q ≤ k
      low = ⊎_elim
          (λ f. let l : slice_index heads r + 1 ≤ k = subst (λ z. z ≤ k) own (subst (λ z. slice_index heads' z ≤ k) f le) in subst (λ z. slice_index heads z ≤ k) (sym f) (omega (arith, l)))
          (λ n. subst (λ z. z ≤ k) (other q n) le)
          (cases_eq q r)

      apart : q ≡ r → k ≡ slice_index heads r → ⊥
      apart f g = let l : slice_index heads r + 1 ≤ k = subst (λ z. z ≤ k) own (subst (λ z. slice_index heads' z ≤ k) f le) in omega (arith, l, g)

  within' : (q : ℕ) → slice_index heads' q ≤ length (log_at logs q)
  within' q = ⊎_elim
      (λ f. subst (λ z. slice_index heads' z ≤ length (log_at logs z)) (sym f) (let l = first.left in omega (arith, own, l)))
      (λ n. subst (λ z. z ≤ length (log_at logs q)) (sym (other q n)) (so.within.within q))
      (cases_eq q r)

  pub merged_more : IsMerging logs (slice_set heads r (slice_index heads r + 1)) (merged ++ (slice_index_or (log_at logs r) (slice_index heads r) nobody).step ∷ [])
  merged_more = record {
    within = record { count = let l = length-set heads r (slice_index heads r + 1) in let c = so.within.count in omega (arith, l, c); within = within' };
    placed = so.placed ++ added ∷ [];
    is = ap (λ l. l ++ (slice_index_or (log_at logs r) (slice_index heads r) nobody).step ∷ []) so.is ∙ ap (λ (t : Timed). entries (in_order so.placed) ++ t.step ∷ []) here ∙ sym (entries_snoc so.placed added);
    up = ascending_snoc so.placed added so.up (λ a i. so.before a i r (slice_index heads r) x.0 (omega arith) x.1);
    sound = λ b i. ⊎_elim (λ j. so.sound b j) (λ f. subst (λ (z : Placed). slice_get (log_at logs z.role) z.position ≡ Some z.timed) f x.1) (among_snoc so.placed b added i);
    complete = complete';
    before = before';
  }

-- all logs are done
pub ended : (logs : List (List Timed)) (heads : List ℕ) (merged : List Entry) → IsMerging logs heads merged → ((r : ℕ) → r < length heads → slice_index heads r ≡ length (log_at logs r)) → IsMergeOf logs merged
ended logs heads merged so done = record {
  placed = so.placed;
  by_stamp = record {
    ascending = so.up;
    sound = λ i a e. so.sound a (among_at so.placed i a e);
    complete = λ r k x e. at_among so.placed (placed_at r k x) (so.complete r k x (below r k x e) e);
  };
  is = so.is;
}
  where
    role : (ls : List (List Timed)) (q k : ℕ) (y : Timed) → slice_get (log_at ls q) k ≡ Some y → q < length ls
    role [] q k y e = absurd (cc)
    role (l ∷ ls) zero k y e = omega arith
    role (l ∷ ls) (suc q) k y e = let n = role ls q k y e in omega (arith, n)

    below : (r k : ℕ) (x : Timed) → slice_get (log_at logs r) k ≡ Some x → k < slice_index heads r
    below r k x e = let d = done r (let c = so.within.count in let n = role logs r k x e in omega (arith, c, n)) in let w = slice_get_within (log_at logs r) k x e in omega (arith, d, w)

-- how many entries are left
pub left_of : List (List Timed) → List ℕ → ℕ
left_of [] heads = 0
left_of (l ∷ ls) [] = 0
left_of (l ∷ ls) (h ∷ heads) = (length l - h) + left_of ls heads

pub left_less : (logs : List (List Timed)) (heads : List ℕ) (r : ℕ) → r < length logs → r < length heads → slice_index heads r < length (log_at logs r) → left_of logs (slice_set heads r (slice_index heads r + 1)) < left_of logs heads
unfolding left_of
left_less [] heads r lt lh l = absurd (omega (arith, lt))
left_less (x ∷ ls) [] r lt lh l = absurd (omega (arith, lh))
left_less (x ∷ ls) (h ∷ heads) zero lt lh l = at_front (length x) h (left_of ls heads) l
  where
    at_front : (n h m : ℕ) → h < n → (n - (h + 1)) + m < (n - h) + m
    at_front n h m l = omega (arith, l)
left_less (x ∷ ls) (h ∷ heads) (suc r) lt lh l = further (length x - h) (left_of ls (slice_set heads r (slice_index heads r + 1))) (left_of ls heads) (left_less ls heads r (omega (arith, lt)) (omega (arith, lh)) l)
  where
    further : (k n m : ℕ) → n < m → k + n < k + m
    further k n m l = omega (arith, l)

-- each log's stamps don't fall, where no list's do
pub falls_at : (logs : List (List Timed)) → All NeverFalls logs → (r : ℕ) → NeverFalls (log_at logs r)
falls_at logs all r = ⊎_elim (λ l. all r [] l) (λ m. subst NeverFalls (sym (beyond logs r m)) (λ i j x y le e f. absurd (cc))) (cases_lt r (length logs))
  where
    beyond : (ls : List (List Timed)) (r : ℕ) → length ls ≤ r → log_at ls r ≡ []
    beyond [] r le = refl
    beyond (l ∷ ls) zero le = absurd (omega (arith, le))
    beyond (l ∷ ls) (suc r) le = beyond ls r (omega (arith, le))

-- the same as the loop has it
pub merged_next : (logs : List (List Timed)) (heads : List ℕ) (merged : List Entry) (r : ℕ) (behind : List ℕ) (e : Entry) (longer : List Entry) → All NeverFalls logs → IsMerging logs heads merged → IsFirst logs heads r → behind ≡ slice_set heads r (slice_index heads r + 1) → e ≡ (slice_index_or (log_at logs r) (slice_index heads r) nobody).step → longer ≡ merged ++ e ∷ [] → IsMerging logs behind longer
merged_next logs heads merged r behind e longer falls so first h f m =
    subst (λ z. IsMerging logs z longer) (sym h) (subst (λ z. IsMerging logs (slice_set heads r (slice_index heads r + 1)) z) (sym (m ∙ ap (λ x. merged ++ x ∷ []) f)) (merged_more logs heads merged (falls_at logs falls) so r first))

pub less_left : (logs : List (List Timed)) (heads : List ℕ) (merged : List Entry) (r : ℕ) (behind : List ℕ) → IsMerging logs heads merged → IsFirst logs heads r → behind ≡ slice_set heads r (slice_index heads r + 1) → left_of logs behind < left_of logs heads
less_left logs heads merged r behind so first h = subst (λ z. left_of logs z < left_of logs heads) (sym h) (left_less logs heads r first.role (let c = so.within.count in let l = first.role in omega (arith, c, l)) first.left)

-- what the stamps say of the next entries
declared_at : (logs : List (List Timed)) (q k : ℕ) (y : Timed) → slice_get (log_at logs q) k ≡ Some y → q < length logs
declared_at [] q k y e = absurd (cc)
declared_at (l ∷ ls) zero k y e = omega arith
declared_at (l ∷ ls) (suc q) k y e = let n = declared_at ls q k y e in omega (arith, n)

module _ (logs : List (List Timed)) (heads : List ℕ) (stamps : List (Option ℕ)) (are : AreStamps logs heads stamps) where
  -- a role with a stamp has an entry left, which has that stamp
  entry_of : (r t : ℕ) → slice_index_or stamps r None ≡ Some t → (x : Timed) × (slice_get (log_at logs r) (slice_index heads r) ≡ Some x) × (x.stamp ≡ t)
  entry_of r t e = go (slice_get (log_at logs r) (slice_index heads r)) refl
    where
      go : (o : Option Timed) → slice_get (log_at logs r) (slice_index heads r) ≡ o → (x : Timed) × (slice_get (log_at logs r) (slice_index heads r) ≡ Some x) × (x.stamp ≡ t)
      go None f = absurd (none (sym (are.1 r ∙ ap stamp_of f) ∙ e))
        where
          none : None ≡ Some t → ⊥
          none g = absurd (cc)
      go (Some x) f = (x, f, some_same (sym (are.1 r ∙ ap stamp_of f) ∙ e))

  -- and a role with an entry left has its stamp
  stamp_there : (r : ℕ) (x : Timed) → slice_get (log_at logs r) (slice_index heads r) ≡ Some x → slice_index_or stamps r None ≡ Some x.stamp
  stamp_there r x f = are.1 r ∙ ap stamp_of f

  stamp_is : (r : ℕ) (x : Timed) → slice_get (log_at logs r) (slice_index heads r) ≡ Some x → stamp_at logs heads r ≡ x.stamp
  stamp_is r x f = ap (λ (t : Timed). t.stamp) (got_or (log_at logs r) (slice_index heads r) nobody x f)

  pub is_first : length logs ≤ 8 → (front : Front) → IsFront stamps front → IsFirst logs heads front.role
  is_first few front is = record {
    role = declared_at logs front.role (slice_index heads front.role) mine.0 mine.1;
    left = slice_get_within (log_at logs front.role) (slice_index heads front.role) mine.0 mine.1;
    first = each;
  }
    where
      mine : (x : Timed) × (slice_get (log_at logs front.role) (slice_index heads front.role) ≡ Some x) × (x.stamp ≡ front.stamp)
      mine = entry_of front.role front.stamp is.stamp

      own : stamp_at logs heads front.role ≡ front.stamp
      own = stamp_is front.role mine.0 mine.1 ∙ mine.2

      each : (q : ℕ) → q < length logs → HasLeft logs heads q → (stamp_at logs heads front.role < stamp_at logs heads q) ⊎ ((stamp_at logs heads front.role ≡ stamp_at logs heads q) × (front.role ≤ q))
      each q lt left =
          let x = item (log_at logs q) (slice_index heads q) left in
          let f = stamp_is q x.0 x.1 in
          ⊎_elim
          (λ l. inl (omega (arith, own, f, l)))
          (λ m. inr (own ∙ m.0 ∙ sym f, m.1))
          (is.first q x.0.stamp (omega (arith, lt, few)) (stamp_there q x.0 x.1))

  pub are_done : AreWithin logs heads → length logs ≤ 8 → AreDry stamps 8 → AreDone logs heads
  are_done within few dry r lt = ⊎_elim
      (λ left. absurd (none r (item (log_at logs r) (slice_index heads r) left)))
      (λ done. let w = within.within r in omega (arith, done, w))
      (cases_lt (slice_index heads r) (length (log_at logs r)))
    where
      none : (r : ℕ) → (x : Timed) × (slice_get (log_at logs r) (slice_index heads r) ≡ Some x) → ⊥
      none r x = no (sym (dry r (let d = declared_at logs r (slice_index heads r) x.0 x.1 in omega (arith, d, few))) ∙ stamp_there r x.0 x.1)
        where
          no : None ≡ Some x.0.stamp → ⊥
          no g = absurd (cc)

-- at the beginning
pub first_are : (logs : List (List Timed)) (heads : List ℕ) (stamps : List (Option ℕ)) (n : ℕ) → ((r : ℕ) → slice_index heads r ≡ 0) → n ≡ length logs → AreStampsOf logs n stamps → AreStamps logs heads stamps
first_are logs heads stamps n zeros e are = (are.0, λ r. ⊎_elim (λ lt. are.1 r lt ∙ ap (λ k. stamp_of (slice_get (log_at logs r) k)) (sym (zeros r))) (λ le. are.2 r le ∙ sym (nothing r (slice_index heads r) (omega (arith, e, le)))) (cases_lt r n))
  where
    nothing : (r k : ℕ) → length logs ≤ r → stamp_of (slice_get (log_at logs r) k) ≡ None
    nothing r k le = go (slice_get (log_at logs r) k) refl
      where
        go : (o : Option Timed) → slice_get (log_at logs r) k ≡ o → stamp_of (slice_get (log_at logs r) k) ≡ None
        go None f = ap stamp_of f
        go (Some x) f = absurd (let d = declared_at logs r k x f in omega (arith, d, le))

pub eight_zeros : (r : ℕ) → slice_index (0 ∷ 0 ∷ 0 ∷ 0 ∷ 0 ∷ 0 ∷ 0 ∷ 0 ∷ []) r ≡ 0
eight_zeros r = zeros_index 8 r

pub lists_count : (logs : List (Bor (List Timed))) → length logs ≡ length (lent_logs logs)
lists_count [] = refl
lists_count (x ∷ xs) = let e = lists_count xs in omega (arith, e)

pub lists_few : (logs : List (Bor (List Timed))) → length logs ≤ 8 → length (lent_logs logs) ≤ 8
lists_few logs few = let e = lists_count logs in omega (arith, e, few)
