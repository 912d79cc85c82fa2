-- What a text may call: of an order in which each place stands behind all that it calls, what stands before the text's.
use Rattle.std.proofs.Common.{◌≡◌, ℕ, zero, suc, ◌+◌, ◌<◌, Some, List, [], ◌∷◌, ◌++◌, length, take, get_or, refl, ap, subst, inl, inr, ⊎_elim, append-nil, append_assoc, sym, arith}
use Rattle.std.specs.Prelude.{slice_get}
use Rattle.std.proofs.lemmas.List.{take_more}
use Rattle.rcv_model.specs.Net.{IsIn}
use Rattle.rcv_module.specs.Parts.{Part, Site, place, site, calls}
use Rattle.rcv_module.specs.Refusing.{AreCallable}
use Rattle.rcv_module.proofs.Sites.{IsAmong, of_module, calls_one, has_place}
use Rattle.rcv_do.specs.Code.{CallsAmong, CallsBehind, IsFront, AreUnder}
use Rattle.rcv_do.proofs.Known.{reheld}
use Rattle.rcv_do.proofs.Ordering.{in_push}

-- ---- what stands before a place

pub front_at : (xs : List ℕ) (i p d : ℕ) → i < length xs → get_or xs i d ≡ p → IsFront xs p (take i xs)
front_at [] i p d lt e = absurd (omega (arith, lt))
front_at (x ∷ xs) zero p d lt e = record { behind = xs; is = ap (λ y. y ∷ xs) e }
front_at (x ∷ xs) (suc i) p d lt e = let f = front_at xs i p d (omega (arith, lt)) e in record { behind = f.behind; is = ap (λ l. x ∷ l) f.is }

pub not_taken : (xs : List ℕ) (i p d : ℕ) → i < length xs → (get_or xs i d ≡ p → ⊥) → (IsIn p (take i xs) → ⊥) → IsIn p (take (i + 1) xs) → ⊥
not_taken xs i p d lt ne none k = ⊎_elim none (λ e. ne (sym e)) (in_push p (get_or xs i d) (take i xs) (subst (IsIn p) (take_more xs i d lt) k))

split_at : (parts : List Part) (done front behind : List ℕ) (p : ℕ) → CallsBehind parts done (front ++ p ∷ behind) → CallsAmong parts p (done ++ front) × CallsBehind parts done front
split_at parts done [] behind p b = (subst (CallsAmong parts p) (sym (append-nil done)) b.0, tt)
split_at parts done (x ∷ front) behind p b =
    let s = split_at parts (done ++ x ∷ []) front behind p b.1 in
    (subst (CallsAmong parts p) (append_assoc done (x ∷ []) front) s.0, (b.0, s.1))

pub behind_front : (parts : List Part) (order : List ℕ) (p : ℕ) (front : List ℕ) → CallsBehind parts [] order → IsFront order p front → CallsAmong parts p front × CallsBehind parts [] front
behind_front parts order p front b f = split_at parts [] front f.behind p (subst (CallsBehind parts []) f.is b)

-- ---- the calls of a text

pub under_left : (parts : List Part) (under : List ℕ) (xs ys : List Site) → AreUnder parts under (xs ++ ys) → AreUnder parts under xs
under_left parts under [] ys u = tt
under_left parts under (x ∷ xs) ys u = (u.0, under_left parts under xs ys u.1)

pub under_right : (parts : List Part) (under : List ℕ) (xs ys : List Site) → AreUnder parts under (xs ++ ys) → AreUnder parts under ys
under_right parts under [] ys u = u
under_right parts under (x ∷ xs) ys u = under_right parts under xs ys u.1

-- what a protocol calls is among these: so its text's calls are
pub are_under : (parts : List Part) (under : List ℕ) (h : ℕ) (p : Part) → AreCallable parts → slice_get parts h ≡ Some p → CallsAmong parts h under → AreUnder parts under (calls 0 p.body)
are_under parts under h p callable at among = go (calls 0 p.body) (λ s a. one s a)
  where
    one : (s : Site) → IsAmong s (calls 0 p.body) → (j : ℕ) × (place parts s.name ≡ Some j) × IsIn j under
    one s a =
        let here = of_module parts h p (site h s.name s.roles) at (reheld 0 h p.body s a) in
        let j = has_place parts (site h s.name s.roles) callable here in
        (j.0, j.1, among j.0 (calls_one parts h j.0 (site h s.name s.roles) here refl j.1))

    go : (ss : List Site) → ((s : Site) → IsAmong s ss → (j : ℕ) × (place parts s.name ≡ Some j) × IsIn j under) → AreUnder parts under ss
    go [] f = tt
    go (s ∷ ss) f = (f s (inl refl), go ss (λ t a. f t (inr a)))
