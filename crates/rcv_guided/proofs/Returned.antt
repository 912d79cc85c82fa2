-- A session in which a role has recovered.
use Rattle.std.proofs.Common.{◌≡◌, ℕ, ◌+◌, ◌<◌, ◌≤◌, Bool, true, false, cond, List, [], ◌∷◌, length, refl, sym, ◌∙◌, ap, subst, ⊎_elim, arith}
use Rattle.std.specs.Prelude.{◌||◌, nat_lt, All, slice_index}
use Rattle.std.proofs.lemmas.Bool.{cases_lt}
use Rattle.std.proofs.lemmas.List.{get_or_past}
use Rattle.rcv_tree.specs.Bits.{has_bit}
use Rattle.rcv_tree.specs.declared.entry.Entry.{Entry}
use Rattle.rcv_tree.specs.declared.entry.Entry.TheVariants.{Crash}
use Rattle.rcv_tree.specs.declared.protocol.Protocol.{Protocol}
use Rattle.rcv_plan.specs.Plans.{IsGroup}
use Rattle.rcv_saves.specs.Counts.{up_to}
use Rattle.rcv_saves.specs.Saves.{SavesView, told_of}
use Rattle.rcv_guide.specs.declared.recovery.Recovery.{Recovery}
use Rattle.rcv_guide.specs.Guide.{GuideView, roles_of, terms_of, HasMemory, MayRecover, HaveSavedEnough, IsFailureOf, HasRecovered, IsAfter}
use Rattle.rcv_guided.specs.Session.{SessionView, roles_in, made_in, IsSession}
use Rattle.rcv_guided.specs.Histories.{GoesOnBy}
use Rattle.rcv_guided.specs.Hearing.{IsDown}
use Rattle.rcv_guided.specs.Failures.{is_down_in, fallen, fall_of, goes_back, AreCut, AreRaised, GoesBack}
use Rattle.rcv_guided.specs.Taking.{HasRoomFor, IsStill}
use Rattle.rcv_guided.proofs.Backs.{kept_is, goes, same_forgotten, cut_by, raised_by}
use Rattle.rcv_guided.proofs.Falling.{IsAlike, fallen_alike, fallen_enough}
use Rattle.rcv_guided.proofs.Going.{on_same, on_told}
use Rattle.rcv_guided.proofs.InTurn.{same_terms}
use Rattle.rcv_guided.proofs.Made.{within_cut}

at_most : (b : Bool) (n m : ℕ) → n ≤ m → cond b (n + 1) n ≤ m + 1
at_most true n m le = omega (arith, le)
at_most false n m le = omega (arith, le)

module _ (s : SessionView) (new : GuideView) (saves : SavesView) (incarnations : List ℕ) (p : ℕ) (saved : List ℕ) (back : Recovery) (has : HasMemory s.guide) (failure : IsFailureOf s.guide p saved back) (recovered : HasRecovered s.guide new p saved back) where
  abbrev after : SessionView
  after = record { guide = new; saves = saves; incarnations = incarnations; restored = s.restored }

  same_protocol : new.protocol ≡ s.guide.protocol
  same_protocol = ap (λ (g : GuideView). g.protocol) recovered.gone.rest

  same_roles : roles_of new ≡ roles_in s
  same_roles = ap (λ (p : Protocol). length p.roles) same_protocol

  pub is_still : IsStill s after 1
  is_still = record {
    protocol = same_protocol;
    plan = ap (λ (g : GuideView). g.plan) recovered.gone.rest;
    told = let e = ap (λ (g : GuideView). g.told) recovered.gone.rest in omega (arith, e);
    forgotten = λ r lt. same_forgotten s.guide new p saved back has.memory has.is failure recovered r lt;
  }

  pub is_session : IsSession s → AreCut s.saves saves (roles_in s) (slice_index back.kept) → (bits : ℕ) → AreRaised s.incarnations incarnations (has_bit bits) → IsSession after
  is_session is cut bits raised = record {
    steps = ap length cut.steps ∙ is.steps ∙ sym same_roles;
    incarnations = raised.all ∙ is.incarnations ∙ sym same_roles;
    few = λ r. ⊎_elim
        (λ lt.
        let one = raised.each r lt in
        let most = at_most (has_bit bits r) (slice_index s.incarnations r) s.guide.told (is.few r) in
        let told = ap (λ (g : GuideView). g.told) recovered.gone.rest in
        omega (arith, one, most, told))
        (λ le.
        let none : slice_index incarnations r ≡ 0 = get_or_past incarnations r 0 (let a = raised.all in omega (arith, a, le)) in
        omega (arith, none))
        (cases_lt r (length s.incarnations));
    room = let e = ap (λ (g : GuideView). g.room) recovered.gone.rest in let a = is.room in omega (arith, e, a);
    saved = λ r lt.
        let old = subst (λ n. r < n) same_roles lt in
        subst (All (λ count. count ≤ made_in new r)) (sym (cut.cut r old))
        (subst (λ n. All (λ count. count ≤ n) (up_to (slice_index back.kept r) (told_of s.saves r))) (kept_is s.guide new p saved back has.memory has.is failure recovered r old)
        (within_cut (slice_index back.kept r) (told_of s.saves r)));
  }

  pub has_gone_back : IsSession s → MayRecover s.guide p saved → roles_in s ≤ 8 → (group bits : ℕ) (before : List ℕ) → IsGroup s.guide.plan p group
      → ((r : ℕ) → r < roles_in s → slice_index before r ≡ made_in s.guide r)
      → ((r : ℕ) → r < 8 → has_bit bits r ≡ (has_bit group r || nat_lt (slice_index back.kept r) (slice_index before r)))
      → AreCut s.saves saves (roles_in s) (slice_index back.kept) → AreRaised s.incarnations incarnations (has_bit bits) → GoesBack p saved s back after
  has_gone_back is may few group bits before is_group made who cut raised = record {
    may = may;
    failure = failure;
    recovered = recovered;
    saves = cut_by s.saves saves (roles_in s) (slice_index back.kept) (made_in new) (kept_is s.guide new p saved back has.memory has.is failure recovered) cut;
    restored = refl;
    incarnations = raised_by s.incarnations incarnations (has_bit bits) (goes_back s.guide new p)
        (λ r lt. goes s.guide new p saved back has.memory has.is failure recovered group bits before few is_group made who r (let a = is.incarnations in omega (arith, a, lt))) raised;
  }

  pub goes_on : (e : Entry) → IsAfter s.guide new e → GoesOnBy s (e ∷ []) after
  goes_on e told = on_told s after e told (same_terms s after same_protocol (ap (λ (g : GuideView). g.plan) recovered.gone.rest))

-- What is told of a role that falls.
pub fell_not : (s : SessionView) (p : ℕ) → is_down_in s.guide p ≡ true → GoesOnBy s (fall_of s.guide p) s
fell_not s p e = subst (λ (es : List Entry). GoesOnBy s es s) (sym (ap (λ b. cond b [] (Crash p ∷ [])) e)) (on_same s s refl)

pub fell : (s new : SessionView) (p : ℕ) → is_down_in s.guide p ≡ false → IsAfter s.guide new.guide (Crash p) → terms_of new.guide ≡ terms_of s.guide → GoesOnBy s (fall_of s.guide p) new
fell s new p e told same = subst (λ (es : List Entry). GoesOnBy s es new) (sym (ap (λ b. cond b [] (Crash p ∷ [])) e)) (on_told s new (Crash p) told same)

-- It may recover then.
pub may_go_back : (s mid : SessionView) (p : ℕ) (saved : List ℕ) → mid ≡ fallen s p → IsDown mid p → HasRoomFor s 2 → HaveSavedEnough s.guide p saved → MayRecover mid.guide p saved
may_go_back s mid p saved is down room enough = record {
  down = down;
  told =
      let a = (fallen_alike s p).most in
      let e = ap (λ (t : SessionView). t.guide.told) is in
      omega (arith, a, e, room);
  enough = subst (λ (t : SessionView). HaveSavedEnough t.guide p saved) (sym is) (fallen_enough s p saved enough);
}

pub still_behind : (s mid new : SessionView) (p : ℕ) → mid ≡ fallen s p → IsStill mid new 1 → IsStill s new 2
still_behind s mid new p is still =
    let alike = subst (IsAlike s) (sym is) (fallen_alike s p) in
    record {
      protocol = still.protocol ∙ alike.protocol;
      plan = still.plan ∙ alike.plan;
      told = let a = still.told in let b = alike.most in omega (arith, a, b);
      forgotten = λ r lt. still.forgotten r (let same = ap (λ (q : Protocol). length q.roles) alike.protocol in omega (arith, same, lt)) ∙ alike.forgotten r;
    }
