-- Where each call may be made, each protocol has a size and expansions: one that is called reaches fewer protocols.
use Rattle.std.proofs.Common.{◌≡◌, ℕ, zero, suc, ◌+◌, ◌<◌, ◌≤◌, Some, List, length, sym, subst, inl, inr, ⊎_elim, arith}
use Rattle.std.specs.Prelude.{slice_get}
use Rattle.std.proofs.lemmas.Bool.{cases_eq}
use Rattle.std.proofs.lemmas.Option.{slice_get_within}
use Rattle.rcv_module.specs.Parts.{Part}
use Rattle.rcv_module.specs.Sizes.{nothing}
use Rattle.rcv_module.specs.Refusing.{CallsOne, Reaches, itself, by_call, AreCallable}
use Rattle.rcv_module.proofs.Sites.{holder_is, of_module, calls_one, never_back, has_place}
use Rattle.rcv_module.proofs.Reaching.{Decided, reaching_decided, part_at}
use Rattle.rcv_module.proofs.Measured.{IsKnown, CallsKnown, has_size}
use Rattle.rcv_module.proofs.Unfolding.{unfolds}

-- ---- how many places it reaches

abbrev one_if : {P : Type 0} → Decided P → ℕ
one_if (inl p) = 1
one_if (inr n) = 0

-- the places below the limit that are reached
abbrev reached : List Part → ℕ → ℕ → ℕ
reached parts i zero = 0
reached parts i (suc k) = reached parts i k + one_if (reaching_decided parts i k)

no_more_than : {P Q : Type 0} (p : Decided P) (q : Decided Q) → (P → Q) → one_if p ≤ one_if q
no_more_than (inl p) (inl q) f = omega arith
no_more_than (inl p) (inr n) f = absurd (n (f p))
no_more_than (inr n) (inl q) f = omega arith
no_more_than (inr n) (inr m) f = omega arith

less_than : {P Q : Type 0} (p : Decided P) (q : Decided Q) → (P → ⊥) → Q → one_if p < one_if q
less_than (inl p) d n q = absurd (n p)
less_than (inr m) (inl r) n q = omega arith
less_than (inr m) (inr r) n q = absurd (r q)

module _ (parts : List Part) (i j : ℕ) (on : (k : ℕ) → Reaches parts j k → Reaches parts i k) where
  reached_fewer : (k : ℕ) → reached parts j k ≤ reached parts i k
  reached_fewer zero = omega arith
  reached_fewer (suc k) =
      let x = reached_fewer k in
      let y = no_more_than (reaching_decided parts j k) (reaching_decided parts i k) (on k) in omega (arith, x, y)

  -- and one place of the one isn't one of the other
  reached_less : (k m : ℕ) → m < k → Reaches parts i m → (Reaches parts j m → ⊥) → reached parts j k < reached parts i k
  reached_less zero m lt r n = absurd (omega (arith, lt))
  reached_less (suc k) m lt r n = ⊎_elim
      (λ e.
      let x = reached_fewer k in
      let y = less_than (reaching_decided parts j k) (reaching_decided parts i k) (λ q. n (subst (Reaches parts j) (sym e) q)) (subst (Reaches parts i) e r) in
      omega (arith, x, y))
      (λ e.
      let x = reached_less k m (omega (arith, lt, e)) r n in
      let y = no_more_than (reaching_decided parts j k) (reaching_decided parts i k) (on k) in omega (arith, x, y))
      (cases_eq m k)

called_less : (parts : List Part) (i j : ℕ) → AreCallable parts → i < length parts → CallsOne parts i j → reached parts j (length parts) < reached parts i (length parts)
called_less parts i j callable lt c = reached_less parts i j (λ k r. by_call i j k c r) (length parts) i lt (itself i) (never_back parts i j callable c)

-- ---- each is known

called_known : (parts : List Part) → AreCallable parts → (i : ℕ) (p : Part) → slice_get parts i ≡ Some p
    → ((j : ℕ) (q : Part) → slice_get parts j ≡ Some q → reached parts j (length parts) < reached parts i (length parts) → IsKnown parts q) → CallsKnown parts i p.body
called_known parts callable i p e each s a =
    let in_module = of_module parts i p s e a in
    let j = has_place parts s callable in_module in
    let q = part_at parts s.name j.0 j.1 in
    let c = calls_one parts i j.0 s in_module (holder_is i p.body s a) j.1 in
    (q.0, (j.0, j.1, q.1), each j.0 q.0 q.1 (called_less parts i j.0 callable (slice_get_within parts i p e) c))

known : (parts : List Part) → AreCallable parts → (fuel i : ℕ) (p : Part) → slice_get parts i ≡ Some p → reached parts i (length parts) < fuel → IsKnown parts p
known parts callable zero i p e lt = absurd (omega (arith, lt))
known parts callable (suc fuel) i p e lt =
    let k = called_known parts callable i p e (λ j q f less. known parts callable fuel j q f (omega (arith, less, lt))) in
    let x = has_size parts i 0 nothing p.body k in
    record { ends = x.0; size = x.1; passes = x.2; unfolds = λ st. unfolds parts i st p.body k }

pub calls_known : (parts : List Part) → AreCallable parts → (i : ℕ) (p : Part) → slice_get parts i ≡ Some p → CallsKnown parts i p.body
calls_known parts callable i p e = called_known parts callable i p e (λ j q f less. known parts callable (reached parts i (length parts)) j q f less)
