-- Marked roles that are the same where a role counts; and points that change places.
use Rattle.std.proofs.Common.{◌≡◌, ℕ, List, [], ◌∷◌, ◌++◌, refl, sym, ◌∙◌, ap, subst, ◌⊎◌, inl, inr, ⊎_elim}
use Rattle.rcv_model.specs.Net.{Net, IsIn}
use Rattle.rcv_model.specs.Next.{IsOf}
use Rattle.rcv_model.specs.Table.{mark, marks}
use Rattle.rcv_model.proofs.Marks.{mark_here, mark_cases, mark_keeps, unmarked}

-- each role of the first list that counts is in the second; and so the other way, too
abbrev pub Within : (ℕ → Type 0) → List ℕ → List ℕ → Type 0
Within P m k = (r : ℕ) → P r → IsIn r m → IsIn r k

abbrev pub Agree : (ℕ → Type 0) → List ℕ → List ℕ → Type 0
Agree P m k = Within P m k × Within P k m

-- where every role counts
abbrev pub Each : ℕ → Type 0
Each r = Unit {0}

pub agree_same : (P : ℕ → Type 0) (m : List ℕ) → Agree P m m
agree_same P m = (λ r c i. i, λ r c i. i)

pub agree_on : (P : ℕ → Type 0) (a b c : List ℕ) → Agree P a b → Agree P b c → Agree P a c
agree_on P a b c f g = (λ r p i. g.0 r p (f.0 r p i), λ r p i. f.1 r p (g.1 r p i))

-- fewer roles count
pub agree_less : (P Q : ℕ → Type 0) (m k : List ℕ) → ((r : ℕ) → Q r → P r) → Agree P m k → Agree Q m k
agree_less P Q m k f a = (λ r q i. a.0 r (f r q) i, λ r q i. a.1 r (f r q) i)

-- the same points mark the same roles, if each has a sender that counts or a receiver that doesn't
pub within_mark : (net : Net) (P : ℕ → Type 0) (m k : List ℕ) (x : ℕ) → Within P m k → P (net.sender x) ⊎ (P (net.receiver x) → ⊥) → Within P (mark net m x) (mark net k x)
within_mark net P m k x w d r c i = ⊎_elim
    (λ j. mark_keeps net k x r (w r c j))
    (λ a. ⊎_elim (λ s. subst (λ q. IsIn q (mark net k x)) (sym a.0) (mark_here net k x (w (net.sender x) s a.1))) (λ n. absurd (n (subst P a.0 c))) d)
    (mark_cases net m x r i)

pub within_marks : (net : Net) (P : ℕ → Type 0) (m k w : List ℕ) → Within P m k → ((x : ℕ) → IsIn x w → P (net.sender x) ⊎ (P (net.receiver x) → ⊥)) → Within P (marks net m w) (marks net k w)
within_marks net P m k [] f d = f
within_marks net P m k (x ∷ w) f d = within_marks net P (mark net m x) (mark net k x) w (within_mark net P m k x f (d x (inl refl))) (λ y i. d y (inr i))

pub agree_marks : (net : Net) (P : ℕ → Type 0) (m k w : List ℕ) → Agree P m k → ((x : ℕ) → IsIn x w → P (net.sender x) ⊎ (P (net.receiver x) → ⊥)) → Agree P (marks net m w) (marks net k w)
agree_marks net P m k w a d = (within_marks net P m k w a.0 d, within_marks net P k m w a.1 d)

-- marks stay, and each comes by a point
pub marks_keep : (net : Net) (m w : List ℕ) (r : ℕ) → IsIn r m → IsIn r (marks net m w)
marks_keep net m [] r i = i
marks_keep net m (x ∷ w) r i = marks_keep net (mark net m x) w r (mark_keeps net m x r i)

pub marks_join : (net : Net) (m u v : List ℕ) → marks net m (u ++ v) ≡ marks net (marks net m u) v
marks_join net m [] v = refl
marks_join net m (x ∷ u) v = marks_join net (mark net m x) u v

pub marked_by : (net : Net) (m w : List ℕ) (r : ℕ) → IsIn r (marks net m w) → IsIn r m ⊎ ((x : ℕ) × IsIn x w × (r ≡ net.receiver x))
marked_by net m [] r i = inl i
marked_by net m (x ∷ w) r i = go (marked_by net (mark net m x) w r i)
  where
    at_x : IsIn r m ⊎ ((r ≡ net.receiver x) × IsIn (net.sender x) m) → IsIn r m ⊎ ((y : ℕ) × IsIn y (x ∷ w) × (r ≡ net.receiver y))
    at_x (inl j) = inl j
    at_x (inr a) = inr (x, inl refl, a.0)

    go : IsIn r (mark net m x) ⊎ ((y : ℕ) × IsIn y w × (r ≡ net.receiver y)) → IsIn r m ⊎ ((y : ℕ) × IsIn y (x ∷ w) × (r ≡ net.receiver y))
    go (inl j) = at_x (mark_cases net m x r j)
    go (inr a) = inr (a.0, inr a.1, a.2)

-- points whose receivers don't count make no difference
pub none_marked : (net : Net) (P : ℕ → Type 0) (m w : List ℕ) → ((x : ℕ) → IsIn x w → P (net.receiver x) → ⊥) → Agree P m (marks net m w)
none_marked net P m w n = (λ r c i. marks_keep net m w r i, λ r c i. ⊎_elim (λ j. j) (λ a. absurd (n a.0 a.1 (subst P a.2 c))) (marked_by net m w r i))

-- nor do points whose senders aren't marked
pub idle : (net : Net) (m w : List ℕ) → ((x : ℕ) → IsIn x w → IsIn (net.sender x) m → ⊥) → marks net m w ≡ m
idle net m [] n = refl
idle net m (x ∷ w) n = ap (λ k. marks net k w) (unmarked net m x (n x (inl refl))) ∙ idle net m w (λ y i. n y (inr i))

-- no role has an end of both points
abbrev pub ShareNone : Net → ℕ → ℕ → Type 0
ShareNone net x y = (r : ℕ) → IsOf net r x → IsOf net r y → ⊥

-- such points mark the same roles in any order
swapped : (net : Net) (m : List ℕ) (x y : ℕ) → ShareNone net x y → Within Each (mark net (mark net m x) y) (mark net (mark net m y) x)
swapped net m x y apart r c i = ⊎_elim at_x at_y (mark_cases net (mark net m x) y r i)
  where
    at_x : IsIn r (mark net m x) → IsIn r (mark net (mark net m y) x)
    at_x j = within_mark net Each m (mark net m y) x (λ q u k. mark_keeps net m y q k) (inl tt) r tt j

    at_y : (r ≡ net.receiver y) × IsIn (net.sender y) (mark net m x) → IsIn r (mark net (mark net m y) x)
    at_y a = ⊎_elim
        (λ j. mark_keeps net (mark net m y) x r (subst (λ q. IsIn q (mark net m y)) (sym a.0) (mark_here net m y j)))
        (λ b. absurd (apart (net.receiver x) (inr refl) (inl b.0)))
        (mark_cases net m x (net.sender y) a.1)

-- so a point goes past others
pub to_front : (net : Net) (m u : List ℕ) (y : ℕ) (v : List ℕ) → ((x : ℕ) → IsIn x u → ShareNone net x y) → Within Each (marks net m (u ++ y ∷ v)) (marks net (mark net m y) (u ++ v))
to_front net m [] y v apart r c i = i
to_front net m (x ∷ u) y v apart r c i =
    within_marks net Each (mark net (mark net m x) y) (mark net (mark net m y) x) (u ++ v) (swapped net m x y (apart x (inl refl))) (λ z j. inl tt) r tt
    (to_front net (mark net m x) u y v (λ z j. apart z (inr j)) r tt i)

pub from_front : (net : Net) (m u : List ℕ) (y : ℕ) (v : List ℕ) → ((x : ℕ) → IsIn x u → ShareNone net x y) → Within Each (marks net (mark net m y) (u ++ v)) (marks net m (u ++ y ∷ v))
from_front net m [] y v apart r c i = i
from_front net m (x ∷ u) y v apart r c i =
    from_front net (mark net m x) u y v (λ z j. apart z (inr j)) r tt
    (within_marks net Each (mark net (mark net m y) x) (mark net (mark net m x) y) (u ++ v) (swapped net m y x (λ q a b. apart x (inl refl) q b a)) (λ z j. inl tt) r tt i)
