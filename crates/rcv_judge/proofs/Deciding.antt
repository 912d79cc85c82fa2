-- Whether an entry may come is decided, and so each list of entries is a legal journal or has a first wrong one.
use Rattle.std.proofs.Common.{◌≡◌, ℕ, ◌<◌, suc, Some, List, [], ◌∷◌, length, take, refl, sym, ap, subst, ◌⊎◌, inl, inr, ⊎_elim, arith}
use Rattle.std.specs.Prelude.{ℤ, slice_get}
use Rattle.std.specs.Ordering.{int_eq}
use Rattle.std.proofs.lemmas.Bool.{cases_Bool, cases_eq, cases_lt}
use Rattle.std.proofs.lemmas.Bool.Decides.{Decides-int_eq}
use Rattle.std.proofs.lemmas.Option.{same_Some}
use Rattle.rcv_tree.specs.declared.event.Event.{Event}
use Rattle.rcv_tree.specs.declared.event.Dir.{Dir}
use Rattle.rcv_tree.specs.declared.event.Dir.TheVariants.{Sent, Got}
use Rattle.rcv_tree.specs.declared.entry.Entry.{Entry}
use Rattle.rcv_tree.specs.declared.entry.Entry.TheVariants.{Send, Recv, Crash, Recover}
use Rattle.rcv_tree.specs.declared.role.RoleSet.{RoleSet}
use Rattle.rcv_model.specs.Run.{channel}
use Rattle.rcv_model.specs.Next.{IsProper, LanesEnd}
use Rattle.rcv_model.specs.Journal.{Rules, State, start, after, reading_from, MaySend, MayRecv, MayRecover, May, IsLegalFrom}
use Rattle.rcv_model.specs.Final.{IsActOf}
use Rattle.rcv_model.proofs.Acting.{is_crashed, is_due, can_act}
use Rattle.rcv_model.proofs.Decided.{same_list}
use Rattle.rcv_model.proofs.Recovering.{recovery}
use Rattle.rcv_model.proofs.Unique.{one_recovery, one_send, one_recv, not_both}
use Rattle.rcv_judge.specs.Laws.{EntriesAreJudged}

abbrev pub OrNot : Type 0 → Type 0
OrNot A = A ⊎ (A → ⊥)

pub both : {A B : Type 0} → OrNot A → OrNot B → OrNot (A × B)
both (inl a) (inl b) = inl (a, b)
both (inl a) (inr never) = inr (λ ab. never ab.1)
both (inr never) b = inr (λ ab. never ab.0)

-- ---- two events are one, or they aren't

same_dir : (a b : Dir) → OrNot (a ≡ b)
same_dir Sent Sent = inl refl
same_dir Sent Got = inr (λ e. cc)
same_dir Got Sent = inr (λ e. cc)
same_dir Got Got = inl refl

same_value : (x y : ℤ) → OrNot (x ≡ y)
same_value x y = ⊎_elim (λ t. inl ((Decides-int_eq x y).0 t)) (λ f. inr (λ e. let t = (Decides-int_eq x y).1 e in cc)) (cases_Bool (int_eq x y))

-- all their fields are the same
abbrev AreSame : Event → Event → Type 0
AreSame d e = (d.role ≡ e.role) × ((d.dir ≡ e.dir) × ((d.point ≡ e.point) × ((d.value ≡ e.value) × ((d.stamp ≡ e.stamp) × (d.sent ≡ e.sent)))))

one_event : (d e : Event) → AreSame d e → d ≡ e
one_event d e (role, (dir, (point, (value, (stamp, sent))))) i = record { role = role i; dir = dir i; point = point i; value = value i; stamp = stamp i; sent = sent i }

are_same : (d e : Event) → d ≡ e → AreSame d e
are_same d e same = subst (AreSame d) same (refl, (refl, (refl, (refl, (refl, refl)))))

same_event : (d e : Event) → OrNot (d ≡ e)
same_event d e = ⊎_elim (λ a. inl (one_event d e a)) (λ never. inr (λ same. never (are_same d e same)))
    (both (cases_eq d.role e.role) (both (same_dir d.dir e.dir) (both (cases_eq d.point e.point) (both (same_value d.value e.value) (both (cases_eq d.stamp e.stamp) (cases_eq d.sent e.sent))))))

-- ---- with another room

abbrev roomy : Rules → ℕ → Rules
roomy rules room = record rules { room = room }

send_roomy : (rules : Rules) (room : ℕ) (s : State) (e : Event) → MaySend rules s e → MaySend (roomy rules room) s e
send_roomy rules room s e may = record {
  free = record { declared = may.free.declared; running = may.free.running; not_due = may.free.not_due; below_limit = may.free.below_limit };
  offered = may.offered;
  next = may.next;
  sends = may.sends;
  is_send = may.is_send;
  among = may.among;
  point = may.point;
  value = may.value;
  stamp = may.stamp;
  sent = may.sent;
}

roomy_send : (rules : Rules) (room : ℕ) (s : State) (e : Event) → MaySend (roomy rules room) s e → MaySend rules s e
roomy_send rules room s e may = record {
  free = record { declared = may.free.declared; running = may.free.running; not_due = may.free.not_due; below_limit = may.free.below_limit };
  offered = may.offered;
  next = may.next;
  sends = may.sends;
  is_send = may.is_send;
  among = may.among;
  point = may.point;
  value = may.value;
  stamp = may.stamp;
  sent = may.sent;
}

roomy_recv : (rules : Rules) (room : ℕ) (s : State) (e : Event) → MayRecv (roomy rules room) s e → MayRecv rules s e
roomy_recv rules room s e may =
    let free = may.own.free in
    record {
      own = record {
        free = record { declared = free.declared; running = free.running; not_due = free.not_due; below_limit = free.below_limit };
        offered = may.own.offered;
        some = may.own.some;
        from = may.own.from;
        next = may.own.next;
        receives = may.own.receives;
        is_recv = may.own.is_recv;
        sender = may.own.sender;
        stamp = may.own.stamp;
      };
      among = may.among;
      front = may.front;
    }

one_more : (n : ℕ) → n < suc n
one_more n = omega arith

-- what a Recover says
abbrev set_of : Entry → ℕ
set_of (Send e) = 0
set_of (Recv e) = 0
set_of (Crash p) = 0
set_of (Recover p concerned kept undone) = concerned.0

abbrev kept_of : Entry → List ℕ
kept_of (Send e) = []
kept_of (Recv e) = []
kept_of (Crash p) = []
kept_of (Recover p concerned kept undone) = kept

abbrev undone_of : Entry → ℕ
undone_of (Send e) = 0
undone_of (Recv e) = 0
undone_of (Crash p) = 0
undone_of (Recover p concerned kept undone) = undone

-- ---- one entry

module _ (rules : Rules) (s : State) (proper : IsProper rules.net rules.roles) (ends : LanesEnd rules.net) where
  -- room for one message more in the channel of a Send
  abbrev enough : Event → ℕ
  enough e = suc (length (channel rules.net e.role (rules.net.receiver e.point) s.kept))

  sends : (e : Event) → OrNot (MaySend rules s e)
  sends e = ⊎_elim (λ act. by_act act.0 act.1) (λ none. inr (λ may. none (Send e, (refl, send_roomy rules (enough e) s e may, one_more (length (channel rules.net e.role (rules.net.receiver e.point) s.kept)))))) (can_act (roomy rules (enough e)) s e.role proper)
    where
      by_act : (d : Entry) → IsActOf (roomy rules (enough e)) s e.role d → OrNot (MaySend rules s e)
      by_act (Send d) x = ⊎_elim
          (λ same. inl (subst (MaySend rules s) same (roomy_send rules (enough e) s d x.1)))
          (λ other. inr (λ may. other (one_send rules s d e x.0 (roomy_send rules (enough e) s d x.1) may)))
          (same_event d e)
      by_act (Recv d) x = inr (λ may. not_both rules s e d (sym x.0) proper.two_ends may (roomy_recv rules (enough e) s d x.1))
      by_act (Crash p) x = absurd x
      by_act (Recover p c k u) x = absurd x

  receives : (e : Event) → OrNot (MayRecv rules s e)
  receives e = ⊎_elim (λ act. by_act act.0 act.1) (λ none. inr (λ may. none (Recv e, (refl, may)))) (can_act rules s e.role proper)
    where
      by_act : (d : Entry) → IsActOf rules s e.role d → OrNot (MayRecv rules s e)
      by_act (Recv d) x = ⊎_elim
          (λ same. inl (subst (MayRecv rules s) same x.1))
          (λ other. inr (λ may. other (one_recv rules s d e x.0 x.1 may)))
          (same_event d e)
      by_act (Send d) x = inr (λ may. not_both rules s d e x.0 proper.two_ends x.1 may)
      by_act (Crash p) x = absurd x
      by_act (Recover p c k u) x = absurd x

  crashes : (p : ℕ) → OrNot (May rules s (Crash p))
  crashes p = both (⊎_elim (λ lt. inl lt) (λ le. inr (λ lt. omega (arith, lt, le))) (cases_lt p rules.roles)) (is_due rules s p)

  recovers : (p : ℕ) (c : RoleSet) (k : List ℕ) (m : ℕ) → OrNot (May rules s (Recover p c k m))
  recovers p c k m = ⊎_elim (λ crashed. go _ _ _ (recovery rules s p proper ends crashed)) (λ up. inr (λ may. up may.crashed)) (is_crashed rules s p)
    where
      one : (set : ℕ) (l : List ℕ) (n : ℕ) → (set ≡ c.0) × ((l ≡ k) × (n ≡ m)) → Recover p (record { 0 = set }) l n ≡ Recover p c k m
      one set l n (sets, (kept, undone)) i = Recover p (record { 0 = sets i }) (kept i) (undone i)

      parts : (set : ℕ) (l : List ℕ) (n : ℕ) → Recover p (record { 0 = set }) l n ≡ Recover p c k m → (set ≡ c.0) × ((l ≡ k) × (n ≡ m))
      parts set l n same = (ap set_of same, (ap kept_of same, ap undone_of same))

      go : (set : ℕ) (l : List ℕ) (n : ℕ) → MayRecover rules s p set l n → OrNot (May rules s (Recover p c k m))
      go set l n it = ⊎_elim
          (λ same. inl (subst (May rules s) (one set l n same) it))
          (λ other. inr (λ may. other (parts set l n (one_recovery rules s p (record { 0 = set }) c l k n m it may))))
          (both (cases_eq set c.0) (both (same_list l k) (cases_eq n m)))

  pub may_or_not : (e : Entry) → OrNot (May rules s e)
  may_or_not (Send e) = sends e
  may_or_not (Recv e) = receives e
  may_or_not (Crash p) = crashes p
  may_or_not (Recover p c k m) = recovers p c k m

-- ---- entry by entry

abbrev IsFirstFrom : Rules → State → List Entry → ℕ → Type 0
IsFirstFrom rules s entries k =
    (k < length entries) × IsLegalFrom rules s (take k entries)
    × ((e : Entry) → slice_get entries k ≡ Some e → May rules (reading_from rules s (take k entries)) e → ⊥)

judged_from : (rules : Rules) → IsProper rules.net rules.roles → LanesEnd rules.net → (s : State) (entries : List Entry) → IsLegalFrom rules s entries ⊎ ((k : ℕ) × IsFirstFrom rules s entries k)
judged_from rules proper ends s [] = inl tt
judged_from rules proper ends s (d ∷ entries) = go (may_or_not rules s proper ends d) (judged_from rules proper ends (after rules s d) entries)
  where
    go : OrNot (May rules s d) → IsLegalFrom rules (after rules s d) entries ⊎ ((k : ℕ) × IsFirstFrom rules (after rules s d) entries k) → IsLegalFrom rules s (d ∷ entries) ⊎ ((k : ℕ) × IsFirstFrom rules s (d ∷ entries) k)
    go (inr never) more = inr (0, (omega arith, tt, λ e at may. never (subst (May rules s) (sym (same_Some d e at)) may)))
    go (inl may) (inl legal) = inl (may, legal)
    go (inl may) (inr (k, (inside, before, wrong))) = inr (suc k, (omega (arith, inside), (may, before), wrong))

pub entries_judged : EntriesAreJudged
entries_judged rules entries proper ends = ⊎_elim
    (λ legal. inl legal)
    (λ first. inr (first.0, record { inside = first.1.0; before = first.1.1; wrong = first.1.2 }))
    (judged_from rules proper ends (start rules.roles) entries)
