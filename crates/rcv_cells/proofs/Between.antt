-- The points from one role to another, and a channel that carries them.
use Prim.Native.Nat.{zero, suc}
use Rattle.std.proofs.Common.{◌≡◌, ℕ, ◌+◌, ◌<◌, ◌≤◌, true, List, [], ◌∷◌, ◌++◌, length, refl, sym, ◌∙◌, ap, subst, ◌⊎◌, inl, inr, ⊎_elim, arith}
use Rattle.std.specs.Prelude.{slice_index_or}
use Rattle.std.proofs.lemmas.Bool.{cases_lt}
use Rattle.rcv_tree.specs.Bits.{IsPoint, has_point, is_listed}
use Rattle.rcv_model.specs.Net.{Net, IsIn}
use Rattle.rcv_model.specs.Journal.{Rules}
use Rattle.rcv_model.proofs.Scanning.{among, is_member}
use Rattle.rcv_ring.specs.Shown.{RingId}
use Rattle.rcv_mailbox.specs.Ends.{End, IsChannel, new_end}
use Rattle.rcv_role.specs.Ends.{IsPostTo, IsInboxFrom}
use Rattle.rcv_cells.specs.Making.{ArePointsBetween, IsSetBetween, IsNewChannel}

-- look-ups in a list with one item more
pub at_front : {A : Type 0} (xs ys : List A) (d : A) (r : ℕ) → r < length xs → slice_index_or (xs ++ ys) r d ≡ slice_index_or xs r d
at_front [] ys d r lt = absurd (omega (arith, lt))
at_front (x ∷ xs) ys d zero lt = refl
at_front (x ∷ xs) ys d (suc r) lt = at_front xs ys d r (omega (arith, lt))

pub at_back : {A : Type 0} (xs : List A) (y d : A) (r : ℕ) → r ≡ length xs → slice_index_or (xs ++ y ∷ []) r d ≡ y
at_back [] y d zero e = refl
at_back [] y d (suc r) e = absurd (omega (arith, e))
at_back (x ∷ xs) y d zero e = absurd (omega (arith, e))
at_back (x ∷ xs) y d (suc r) e = at_back xs y d r (omega (arith, e))

in_either : (xs : List ℕ) (x p : ℕ) → IsIn p (xs ++ x ∷ []) → IsIn p xs ⊎ (p ≡ x)
in_either [] x p i = ⊎_elim (λ e. inr e) (λ n. absurd n) i
in_either (y ∷ xs) x p i = ⊎_elim (λ e. inl (inl e)) (λ j. ⊎_elim (λ k. inl (inr k)) (λ e. inr e) (in_either xs x p j)) i

in_front : (xs : List ℕ) (x p : ℕ) → IsIn p xs → IsIn p (xs ++ x ∷ [])
in_front [] x p i = absurd i
in_front (y ∷ xs) x p i = ⊎_elim (λ e. inl e) (λ j. inr (in_front xs x p j)) i

in_back : (xs : List ℕ) (x : ℕ) → IsIn x (xs ++ x ∷ [])
in_back [] x = inl refl
in_back (y ∷ xs) x = inr (in_back xs x)

pub length_more : {A : Type 0} (xs : List A) (x : A) → length (xs ++ x ∷ []) ≡ length xs + 1
length_more [] x = omega arith
length_more (y ∷ xs) x = let e = length_more xs x in omega (arith, e)

module _ (net : Net) (s r : ℕ) where
  pub none_between : ArePointsBetween net s r 0 []
  none_between = record {
    all = λ k d lt. absurd (omega (arith, lt));
    sound = λ p e. absurd (cc);
    complete = λ p a b. absurd (omega (arith, a, b));
  }

  pub one_between : (n : ℕ) (ps : List ℕ) → n < net.count → net.count ≤ 256 → net.sender (n + 1) ≡ s → net.receiver (n + 1) ≡ r → ArePointsBetween net s r n ps → ArePointsBetween net s r (n + 1) (ps ++ (n + 1) ∷ [])
  one_between n ps lt few f g are = record {
    all = λ k d within. ⊎_elim
        (λ low. subst IsPoint (sym (at_front ps ((n + 1) ∷ []) d k low)) (are.all k d low))
        (λ high. subst IsPoint (sym (at_back ps (n + 1) d k (let m = length_more ps (n + 1) in omega (arith, m, within, high)))) (record { first = omega arith; last = omega (arith, lt, few) }))
        (cases_lt k (length ps));
    sound = λ p e. ⊎_elim
        (λ i. let old = are.sound p (among p ps i) in let le = old.1 in (old.0, omega (arith, le), old.2, old.3))
        (λ i. subst (λ q. (1 ≤ q) × (q ≤ n + 1) × (net.sender q ≡ s) × (net.receiver q ≡ r)) (sym i) (omega arith, omega arith, f, g))
        (in_either ps (n + 1) p (is_member p (ps ++ (n + 1) ∷ []) e));
    complete = λ p a b h i. ⊎_elim
        (λ low. among p (ps ++ (n + 1) ∷ []) (in_front ps (n + 1) p (is_member p ps (are.complete p a (omega (arith, low)) h i))))
        (λ high. subst (λ q. is_listed (ps ++ (n + 1) ∷ []) q ≡ true) (omega (arith, b, high)) (among (n + 1) (ps ++ (n + 1) ∷ []) (in_back ps (n + 1))))
        (cases_lt p (n + 1));
  }

  pub not_between : (n : ℕ) (ps : List ℕ) → ((net.sender (n + 1) ≡ s) × (net.receiver (n + 1) ≡ r) → ⊥) → ArePointsBetween net s r n ps → ArePointsBetween net s r (n + 1) ps
  not_between n ps none are = record {
    all = are.all;
    sound = λ p e. let old = are.sound p e in let le = old.1 in (old.0, omega (arith, le), old.2, old.3);
    complete = λ p a b h i. ⊎_elim
        (λ low. are.complete p a (omega (arith, low)) h i)
        (λ high. let f : p ≡ n + 1 = omega (arith, b, high) in absurd (none (subst (λ q. (net.sender q ≡ s) × (net.receiver q ≡ r)) f (h, i))))
        (cases_lt p (n + 1));
  }

  pub set_between : (n : ℕ) (ps words : List ℕ) → n ≡ net.count → net.count ≤ 256 → ArePointsBetween net s r n ps → ((p : ℕ) → IsPoint p → has_point words p ≡ is_listed ps p) → IsSetBetween net s r words
  set_between n ps words all few are set = record {
    sound = λ p h. let old = are.sound p (sym (set p h.0) ∙ h.1) in let le = old.1 in (omega (arith, le, all), old.2, old.3);
    complete = λ p a b h i. let point : IsPoint p = record { first = a; last = omega (arith, b, few) } in (point, set p point ∙ are.complete p a (omega (arith, b, all)) h i);
  }

-- a channel that was made for these points
pub new_channel : (rules : Rules) (s r room limit : ℕ) (words : List ℕ) (ring : RingId) (post inbox : End) → room ≡ rules.room → limit ≡ rules.limit → IsSetBetween rules.net s r words → IsChannel post inbox → post ≡ new_end ring room limit words → inbox ≡ new_end ring room limit words → IsNewChannel rules s r post inbox
new_channel rules s r room limit words ring post inbox room_is limit_is set channel post_new inbox_new = record {
  channel = channel;
  post_is = subst (λ (e : End). IsPostTo rules s r e) (sym post_new) (record { limit = limit_is; room = room_is; points = set.complete });
  inbox_is = subst (λ (e : End). IsInboxFrom rules r s e) (sym inbox_new) (record { limit = limit_is; points = set.sound });
  put = ap (λ (e : End). e.list) post_new;
  sent = ap (λ (e : End). e.base.sent) post_new;
  taken = ap (λ (e : End). e.list) inbox_new;
  got = ap (λ (e : End). e.got) inbox_new;
}
