-- What is told is what the entry states, or the entry may not be told.
use Rattle.std.proofs.Common.{◌≡◌, ℕ, ℤ, suc, ◌+◌, ◌<◌, max, true, false, List, [], ◌∷◌, length, refl, sym, ◌∙◌, ap, subst, ◌⊎◌, inl, inr, arith}
use Rattle.std.specs.Prelude.{◌↔◌, slice_index, if◌then◌else◌}
use Rattle.std.specs.Int.{bit_at}
use Rattle.std.proofs.lemmas.Nat.Bits.{bit_at-lt, same_from_bits_below}
use Rattle.std.proofs.lemmas.Bool.{cases_Bool}
use Rattle.std.proofs.lemmas.Bool.Decides.{nat_tests}
use Rattle.rcv_tree.specs.Bits.{has_bit}
use Rattle.rcv_tree.specs.declared.event.Event.{Event}
use Rattle.rcv_tree.specs.declared.event.Dir.{Dir}
use Rattle.rcv_tree.specs.declared.event.Dir.TheVariants.{Sent, Got}
use Rattle.rcv_tree.specs.declared.entry.Entry.{Entry}
use Rattle.rcv_tree.specs.declared.entry.Entry.TheVariants.{Send, Recv, Crash, Recover}
use Rattle.rcv_tree.specs.declared.role.RoleSet.{RoleSet}
use Rattle.rcv_ledger.specs.Logs.{with_event_of}
use Rattle.rcv_told.specs.Told.{Terms, Remembered, group_of, made_of, left_at, HasFailed}
use Rattle.rcv_guide.specs.declared.recovery.Recovery.{Recovery}
use Rattle.rcv_guide.specs.Numbers.{with_crash}
use Rattle.rcv_guide.specs.Guide.{GuideView, terms_of, IsAfter, with_event, with_numbers, sent, received, stamp_to_send, stamp_to_receive, listed_of, recovery_entry, IsFailureOf, HasRecovered, MayRecover}
use Rattle.rcv_guide.proofs.Memories.{down_held}
use Rattle.rcv_retold.specs.Retold.{news_for, GoesOn, Follows, IsTellable, IsUntold}
use Rattle.rcv_retold.proofs.Refusing.{known}

abbrev made : ℕ → Dir → ℕ → ℤ → ℕ → ℕ → Event
made role dir point value stamp sent = record { role = role; dir = dir; point = point; value = value; stamp = stamp; sent = sent }

same_event : (e f : Event) → e.role ≡ f.role → e.dir ≡ f.dir → e.point ≡ f.point → e.value ≡ f.value → e.stamp ≡ f.stamp → e.sent ≡ f.sent → e ≡ f
same_event e f a b c d g h =
    ap (λ x. made x e.dir e.point e.value e.stamp e.sent) a
    ∙ ap (λ x. made f.role x e.point e.value e.stamp e.sent) b
    ∙ ap (λ x. made f.role f.dir x e.value e.stamp e.sent) c
    ∙ ap (λ x. made f.role f.dir f.point x e.stamp e.sent) d
    ∙ ap (λ x. made f.role f.dir f.point f.value x e.sent) g
    ∙ ap (λ x. made f.role f.dir f.point f.value f.stamp x) h

-- the Send and the Recv that a guide was told, with these stamps
abbrev pub told_send : Event → ℕ → Event
told_send e stamp = made e.role Sent e.point e.value stamp stamp

abbrev pub told_recv : Event → ℕ → Event
told_recv e stamp = made e.role Got e.point e.value stamp e.sent

module _ (old new : GuideView) (e : Event) (stamp : ℕ) where
  -- one event more
  event_goes : (x : Entry) → IsAfter old new x → (new ≡ with_event old e) → ((old.logs ≡ old.logs) → Follows old.logs (with_event_of old.logs e.role e) x) → GoesOn old new x
  event_goes x after grown logs = subst (λ (n : GuideView). IsAfter old n x → GoesOn old n x) (sym grown)
      (λ a. record { after = a; protocol = refl; plan = refl; room = refl; used = omega arith; told = omega arith; logs = logs refl })
      after

  pub send_goes : e ≡ told_send e stamp → stamp ≡ stamp_to_send old e.role → new ≡ with_event old (sent old (news_for old e)) → IsAfter old new (Send (sent old (news_for old e))) → GoesOn old new (Send e)
  send_goes same is grown after =
      let all : e ≡ sent old (news_for old e) = same ∙ ap (told_send e) is in
      event_goes (Send e) (subst (λ (f : Event). IsAfter old new (Send f)) (sym all) after) (grown ∙ ap (with_event old) (sym all)) (λ r. refl)

  pub recv_goes : e ≡ told_recv e stamp → stamp ≡ stamp_to_receive old e.role e.sent → new ≡ with_event old (received old (news_for old e) e.sent) → IsAfter old new (Recv (received old (news_for old e) e.sent)) → GoesOn old new (Recv e)
  recv_goes same is grown after =
      let all : e ≡ received old (news_for old e) e.sent = same ∙ ap (told_recv e) is in
      event_goes (Recv e) (subst (λ (f : Event). IsAfter old new (Recv f)) (sym all) after) (grown ∙ ap (with_event old) (sym all)) (λ r. refl)

  -- another event may not come
  pub other_send : (e ≡ told_send e stamp → ⊥) → stamp ≡ stamp_to_send old e.role → IsUntold old (Send e)
  other_send other is m mem may =
      let clock = (mem.numbers_are.each e.role (known old m mem e.role false may.up)).clock in
      let own : e.stamp ≡ stamp = (let a = may.stamp in omega (arith, a, clock, is)) in
      other (same_event e (told_send e stamp) refl may.is_send refl refl own (may.sent ∙ own))

  pub other_recv : (e ≡ told_recv e stamp → ⊥) → stamp ≡ stamp_to_receive old e.role e.sent → IsUntold old (Recv e)
  other_recv other is m mem may =
      let clock = (mem.numbers_are.each e.role (known old m mem e.role false may.up)).clock in
      let own : e.stamp ≡ stamp = may.stamp ∙ ap (λ c. max c e.sent + 1) clock ∙ sym is in
      other (same_event e (told_recv e stamp) refl may.is_recv refl refl own refl)

-- what goes on was tellable
pub goes_tellable_send : (old new : GuideView) (e : Event) → GoesOn old new (Send e) → IsTellable old (Send e)
goes_tellable_send old new e goes m mem = goes.after.may m mem

pub goes_tellable_recv : (old new : GuideView) (e : Event) → GoesOn old new (Recv e) → IsTellable old (Recv e)
goes_tellable_recv old new e goes m mem = goes.after.may m mem

pub goes_tellable_crash : (old new : GuideView) (p : ℕ) → GoesOn old new (Crash p) → IsTellable old (Crash p)
goes_tellable_crash old new p goes m mem = goes.after.may m mem

pub crash_goes : (old new : GuideView) (p : ℕ) → new ≡ with_numbers old (with_crash old.numbers p) → IsAfter old new (Crash p) → GoesOn old new (Crash p)
crash_goes old new p grown after = subst (λ (n : GuideView). IsAfter old n (Crash p) → GoesOn old n (Crash p)) (sym grown)
    (λ a. record { after = a; protocol = refl; plan = refl; room = refl; used = omega arith; told = omega arith; logs = refl })
    after

-- lists of one length with the same numbers
pub same_numbers : (xs ys : List ℕ) → length xs ≡ length ys → ((q : ℕ) → q < length xs → slice_index xs q ≡ slice_index ys q) → xs ≡ ys
same_numbers [] [] e h = refl
same_numbers [] (y ∷ ys) e h = absurd (omega (arith, e))
same_numbers (x ∷ xs) [] e h = absurd (omega (arith, e))
same_numbers (x ∷ xs) (y ∷ ys) e h =
    let a : x ≡ y = h 0 (omega arith) in
    let b = same_numbers xs ys (omega (arith, e)) (λ q lt. h (suc q) (omega arith)) in
    cc

-- sets of bits that tell the same are the same
same_bits : (a b : ℕ) (P : ℕ → Type 0) → a < 256 → b < 256 → ((q : ℕ) → q < 8 → (has_bit a q ≡ true) ↔ P q) → ((q : ℕ) → q < 8 → (has_bit b q ≡ true) ↔ P q) → a ≡ b
same_bits a b P la lb f g = same_from_bits_below 8 a b la lb bit
  where
    bit : (i : ℕ) → i < 8 → bit_at a i ≡ bit_at b i
    bit i lt = go (cases_Bool (has_bit a i)) (cases_Bool (has_bit b i))
      where
        go : (has_bit a i ≡ true) ⊎ (has_bit a i ≡ false) → (has_bit b i ≡ true) ⊎ (has_bit b i ≡ false) → bit_at a i ≡ bit_at b i
        go (inl t) (inl u) = grind (arith, nat_tests)
        go (inl t) (inr u) = let v = (g i lt).1 ((f i lt).0 t) in absurd (cc)
        go (inr t) (inl u) = let v = (f i lt).1 ((g i lt).0 u) in absurd (cc)
        go (inr t) (inr u) = let x = bit_at-lt a i in let y = bit_at-lt b i in grind (arith, nat_tests)

-- what a failure states is one thing
pub one_failure : (terms : Terms) (m : Remembered) (p : ℕ) (saved : ℕ → ℕ) (c d : RoleSet) (k l : List ℕ) (u n : ℕ) → c.0 < 256 → d.0 < 256
    → HasFailed terms m p saved c k u → HasFailed terms m p saved d l n → (c ≡ d) × (k ≡ l) × (u ≡ n)
one_failure terms m p saved c d k l u n few other a b = (ap (λ (x : ℕ). let s : RoleSet = record { 0 = x } in s) same, kept, omega (arith, a.undone_is, b.undone_is))
  where
    same : c.0 ≡ d.0
    same = same_bits c.0 d.0 _ few other a.concerned_is b.concerned_is

    kept : k ≡ l
    kept = same_numbers k l (a.eight ∙ sym b.eight) (λ q lt. let t : q < 8 = omega (arith, a.eight, lt) in a.counts q t ∙ ap (λ x. if has_bit x q then made_of m (left_at terms.net m (group_of terms p) saved) q else 0) same ∙ sym (b.counts q t))

-- a recovery that is stated as it is
module _ (old new : GuideView) (p : ℕ) (saved : List ℕ) (back : Recovery) (concerned : RoleSet) (kept : List ℕ) (undone : ℕ) where
  pub recover_goes : back.concerned ≡ concerned → kept ≡ listed_of back → back.undone ≡ undone → IsAfter old new (recovery_entry p back) → HasRecovered old new p saved back → GoesOn old new (Recover p concerned kept undone)
  recover_goes same listed few after gone =
      let all : recovery_entry p back ≡ Recover p concerned kept undone = ap (λ c. Recover p c (listed_of back) back.undone) same ∙ ap (λ k. Recover p concerned k back.undone) (sym listed) ∙ ap (Recover p concerned kept) few in
      let rest = gone.gone.rest in
      record {
        after = subst (IsAfter old new) all after;
        protocol = ap (λ (g : GuideView). g.protocol) rest;
        plan = ap (λ (g : GuideView). g.plan) rest;
        room = ap (λ (g : GuideView). g.room) rest;
        used = let u : new.used ≡ old.used = ap (λ (g : GuideView). g.used) rest in omega (arith, u);
        told = let t : new.told ≡ old.told + 1 = ap (λ (g : GuideView). g.told) rest in omega (arith, t);
        logs = λ r. (slice_index gone.left r, gone.gone.log r);
      }

  pub recover_tellable : back.concerned ≡ concerned → kept ≡ listed_of back → back.undone ≡ undone → saved ≡ kept → MayRecover old p saved → IsFailureOf old p saved back → IsTellable old (Recover p concerned kept undone)
  recover_tellable same listed few own may failure m mem = (
    down_held old m mem p true may.down,
    subst (λ (s : List ℕ). HasFailed (terms_of old) m p (slice_index s) concerned kept undone) own
        (subst (λ (c : RoleSet). HasFailed (terms_of old) m p (slice_index saved) c kept undone) same
        (subst (λ (k : List ℕ). HasFailed (terms_of old) m p (slice_index saved) back.concerned k undone) (sym listed)
        (subst (HasFailed (terms_of old) m p (slice_index saved) back.concerned (listed_of back)) few (failure.failed m mem)))),
  )

  pub other_recover : concerned.0 < 256 → back.concerned.0 < 256 → saved ≡ kept → IsFailureOf old p saved back → (back.concerned ≡ concerned → kept ≡ listed_of back → back.undone ≡ undone → ⊥) → IsUntold old (Recover p concerned kept undone)
  other_recover low few own failure other m mem may =
      let one = one_failure (terms_of old) m p (slice_index saved) back.concerned concerned (listed_of back) kept back.undone undone few low (failure.failed m mem)
      (subst (λ (s : List ℕ). HasFailed (terms_of old) m p (slice_index s) concerned kept undone) (sym own) may.1) in
      other one.0 (sym one.1) one.2
