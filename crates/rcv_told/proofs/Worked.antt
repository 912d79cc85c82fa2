-- A told session of ping, computed: role 1 fails with its first event saved, and with none.
use Rattle.std.proofs.Common.{◌≡◌, ℕ, zero, suc, ◌+◌, ◌*◌, ◌/◌, ◌<◌, ◌≤◌, true, List, [], ◌∷◌, ◌++◌, length, replicate, refl, sym, ◌∙◌, subst, inl, inr, arith}
use Rattle.std.specs.Prelude.{◌↔◌, if◌then◌else◌, slice_index}
use Rattle.rcv_tree.specs.Bits.{has_bit, is_listed}
use Rattle.rcv_tree.specs.declared.entry.Entry.{Entry}
use Rattle.rcv_tree.specs.declared.entry.Entry.TheVariants.{Crash}
use Rattle.rcv_model.specs.Net.{IsIn}
use Rattle.rcv_model.specs.Journal.{numbers_at}
use Rattle.rcv_model.specs.Next.{IsNext}
use Rattle.rcv_model.specs.Table.{start_of, concerned_by_any}
use Rattle.rcv_model.specs.Places.{net_of}
use Rattle.rcv_model.proofs.Cases.{ping, sent, got, send, recv, recover}
use Rattle.rcv_model.proofs.Concerned.{listed_concerned}
use Rattle.rcv_model.proofs.Journals.{below_8}
use Rattle.rcv_model.proofs.Ping.{ping_proper, ping_accepted, begin, middle, next_at}
use Rattle.rcv_model.proofs.Roles.{up, down}
use Rattle.rcv_model.proofs.Scanning.{among, is_member}
use Rattle.rcv_told.specs.Told.{Terms, Remembered, nothing_told, told, held_of, made, made_of, left_at, IsConcernedWhere, HasFailed, MayBeTold, IsTold}
use Rattle.rcv_told.specs.Hindsight.{FailBySteps, IsLegalInHindsight}
use Rattle.rcv_told.specs.Laws.{AreAccepted}
use Rattle.rcv_told.proofs.Telling.{none_at}
use Rattle.rcv_told.proofs.Hindsight.{told_journals_are_legal}

abbrev terms : Terms
terms = record { net = net_of ping; roles = 2; host = λ r. [] }

known : AreAccepted terms
known = record { few = omega arith; proper = ping_proper; accepted = ping_accepted }

-- role 1 has received and answered, and is down
abbrev front : List Entry
front = send 0 1 1 ∷ recv 1 1 2 1 ∷ send 1 2 3 ∷ Crash 1 ∷ []

abbrev before : Remembered
before = told terms front

before_is : before ≡ record {
  held = sent 0 1 1 ∷ got 1 1 2 1 ∷ sent 1 2 3 ∷ [];
  seeds = 0 ∷ 0 ∷ [];
  forgotten = 0 ∷ 0 ∷ [];
  points = 0 ∷ 0 ∷ [];
  roles = up 1 0 0 1 ∷ down 2 1 0 3 ∷ [];
}
before_is = refl

-- a role that is down tells nothing
down_is_quiet : MayBeTold terms before (recv 1 1 4 1) → ⊥
down_is_quiet may = let up = may.up in cc

-- a failure of role 1 that concerns both roles
abbrev AreListed : (ℕ → ℕ) → ℕ → Type 0
AreListed saved q = has_bit 3 q ≡ is_listed (concerned_by_any terms.net 2 (1 ∷ []) (start_of (held_of before saved) before.held)) q

abbrev AreCounted : (ℕ → ℕ) → List ℕ → ℕ → Type 0
AreCounted saved kept q = slice_index kept q ≡ (if has_bit 3 q then made_of before (left_at terms.net before (1 ∷ []) saved) q else 0)

fails : (saved : ℕ → ℕ) (kept : List ℕ) (undone : ℕ) → ((q : ℕ) → q < 8 → AreListed saved q) → length kept ≡ 8
    → ((q : ℕ) → q < 8 → AreCounted saved kept q) → undone + length (left_at terms.net before (1 ∷ []) saved) ≡ length before.held
    → HasFailed terms before 1 saved (record { 0 = 3 }) kept undone
fails saved kept undone listed eight counted rest =
    record { above = none_forgotten; concerned_is = both; eight = eight; counts = counted; undone_is = rest }
  where
    none_forgotten : (q : ℕ) → is_listed (1 ∷ []) q ≡ true → slice_index before.forgotten q ≤ saved q
    none_forgotten q t = let z = none_at 2 q in omega (arith, z)

    both : (q : ℕ) → q < 8 → (has_bit 3 q ≡ true) ↔ IsConcernedWhere terms before 1 saved q
    both q lt =
        let starts = start_of (held_of before saved) before.held in
        let c = listed_concerned terms.net 2 starts ping_proper ping_accepted.lanes_end (1 ∷ []) q in (
          λ t. c.0 (is_member q (concerned_by_any terms.net 2 (1 ∷ []) starts) (sym (listed q lt) ∙ t)),
          λ a. listed q lt ∙ among q (concerned_by_any terms.net 2 (1 ∷ []) starts) (c.1 a),
        )

-- one of its two events is saved, which is no multiple of any step: the other one is undone
abbrev with_one : List Entry
with_one = front ++ recover 1 3 (1 ∷ 1 ∷ replicate 6 0) 1 ∷ []

fails_with_one : HasFailed terms before 1 (λ q. 1) (record { 0 = 3 }) (1 ∷ 1 ∷ replicate 6 0) 1
fails_with_one =
    fails (λ q. 1) (1 ∷ 1 ∷ replicate 6 0) 1 (below_8 (AreListed (λ q. 1)) refl refl refl refl refl refl refl refl) refl
    (below_8 (AreCounted (λ q. 1) (1 ∷ 1 ∷ replicate 6 0)) refl refl refl refl refl refl refl refl) refl

left_with_one : (told terms with_one).held ≡ sent 0 1 1 ∷ got 1 1 2 1 ∷ []
left_with_one = refl

-- none is saved: both are undone, and the message is in flight again
abbrev with_none : List Entry
with_none = front ++ recover 1 3 (1 ∷ 0 ∷ replicate 6 0) 2 ∷ recv 1 1 5 1 ∷ []

fails_with_none : HasFailed terms before 1 (λ q. 0) (record { 0 = 3 }) (1 ∷ 0 ∷ replicate 6 0) 2
fails_with_none =
    fails (λ q. 0) (1 ∷ 0 ∷ replicate 6 0) 2 (below_8 (AreListed (λ q. 0)) refl refl refl refl refl refl refl refl) refl
    (below_8 (AreCounted (λ q. 0) (1 ∷ 0 ∷ replicate 6 0)) refl refl refl refl refl refl refl refl) refl

left_with_none : told terms with_none ≡ record {
  held = sent 0 1 1 ∷ got 1 1 5 1 ∷ [];
  seeds = 0 ∷ 0 ∷ [];
  forgotten = 0 ∷ 0 ∷ [];
  points = 0 ∷ 0 ∷ [];
  roles = up 1 0 0 4 ∷ up 3 1 1 5 ∷ [];
}
left_with_none = refl

-- the points that come next
first_point : (r : ℕ) → r < 2 → IsNext terms.net r 0 1
first_point r lt = next_at r 0 lt begin (λ e. omega (arith, e))

second_point : (r : ℕ) → r < 2 → IsNext terms.net r 1 2
second_point r lt = next_at r 1 lt middle (λ e. omega (arith, e))

-- all of it may be told
may_send : MayBeTold terms (nothing_told 2) (send 0 1 1)
may_send = record { up = refl; next = first_point 0 (omega arith); sends = refl; is_send = refl; stamp = refl; sent = refl }

may_receive : MayBeTold terms (told terms (send 0 1 1 ∷ [])) (recv 1 1 2 1)
may_receive = record { up = refl; next = first_point 1 (omega arith); receives = refl; is_recv = refl; front = ([], refl); stamp = refl }

may_answer : MayBeTold terms (told terms (send 0 1 1 ∷ recv 1 1 2 1 ∷ [])) (send 1 2 3)
may_answer = record { up = refl; next = second_point 1 (omega arith); sends = refl; is_send = refl; stamp = refl; sent = refl }

may_again : MayBeTold terms (told terms (front ++ recover 1 3 (1 ∷ 0 ∷ replicate 6 0) 2 ∷ [])) (recv 1 1 5 1)
may_again = record { up = refl; next = first_point 1 (omega arith); receives = refl; is_recv = refl; front = ([], refl); stamp = refl }

told_with_one : IsTold terms with_one
told_with_one = (may_send, (may_receive, (may_answer, (refl, ((refl, (λ q. 1, fails_with_one)), tt)))))

told_with_none : IsTold terms with_none
told_with_none = (may_send, (may_receive, (may_answer, (refl, ((refl, (λ q. 0, fails_with_none)), (may_again, tt))))))

-- where each role saves a state each hundred events, role 1 has saved none: so that is a legal journal in hindsight
by_hundred : FailBySteps terms (λ r. 100) (nothing_told 2) with_none
by_hundred = (tt, (tt, (tt, (tt, (record { byte = omega arith; saved = λ q. 0; multiple = multiple; failed = fails_with_none }, (tt, tt))))))
  where
    multiple : (q : ℕ) → is_listed (1 ∷ []) q ≡ true → 0 ≡ made before q / 100 * 100
    multiple q t = subst (λ r. 0 ≡ made before r / 100 * 100) (own (is_member q (1 ∷ []) t)) refl
      where
        own : IsIn q (1 ∷ []) → 1 ≡ q
        own (inl e) = sym e
        own (inr i) = absurd i

few_told : (r : ℕ) → (numbers_at (told terms with_none).roles r).raw ≤ 3
few_told zero = omega arith
few_told (suc zero) = omega arith
few_told (suc (suc r)) = omega arith

legal_with_none : IsLegalInHindsight terms (λ r. 100) 3 with_none
legal_with_none = told_journals_are_legal terms (λ r. 100) 3 with_none known told_with_none by_hundred few_told
