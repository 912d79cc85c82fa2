-- What may be told keeps a run.
use Rattle.std.proofs.Common.{◌≡◌, ℕ, ◌<◌, ◌≤◌, zero, suc, Bool, false, Some, List, [], ◌∷◌, ◌++◌, length, replicate, drop, refl, sym, ◌∙◌, ap, subst, append-nil, ⊎_elim, arith}
use Rattle.std.specs.Prelude.{slice_get, slice_index}
use Rattle.std.proofs.lemmas.Bool.{cases_lt}
use Rattle.std.proofs.lemmas.List.{length-set, length-replicate, get_or-replicate, get_or_past}
use Rattle.std.proofs.lemmas.Option.{slice_get-get_or}
use Rattle.rcv_tree.specs.declared.event.Event.{Event}
use Rattle.rcv_tree.specs.declared.numbers.Numbers.{Numbers}
use Rattle.rcv_tree.specs.declared.entry.Entry.{Entry}
use Rattle.rcv_tree.specs.declared.entry.Entry.TheVariants.{Send, Recv, Crash, Recover}
use Rattle.rcv_model.specs.Net.{IsWalk}
use Rattle.rcv_model.specs.Run.{acts, place_of, IsRun}
use Rattle.rcv_model.specs.Next.{IsNext, IsPlaceOf}
use Rattle.rcv_model.specs.Journal.{nobody, numbers_at, numbers_behind}
use Rattle.rcv_model.proofs.Keeping.{keep_is_run, queued_nil}
use Rattle.rcv_model.proofs.Lists.{some_same}
use Rattle.rcv_model.proofs.Parts.{cut}
use Rattle.rcv_model.proofs.Roles.{length_mapped}
use Rattle.rcv_model.proofs.Steps.{recv_keeps, send_keeps}
use Rattle.rcv_model.proofs.Ways.{stands}
use Rattle.rcv_told.specs.Told.{Terms, Remembered, nothing_told, state_of, down_of, place, standpoint, IsSend, IsRecv, MayBeTold, roles_in, bound_at, left_at, group_of, told_after, told_from, told, IsToldFrom, IsTold}
use Rattle.rcv_told.specs.Laws.{AreAccepted, ToldEventsKeepRuns}

-- whether a role is down is known of those that have numbers
pub down_there : (roles : List Numbers) (r : ℕ) (b : Bool) → down_of (slice_get roles r) ≡ Some b → (r < length roles) × ((numbers_at roles r).crashed ≡ b)
down_there [] r b e = absurd (cc)
down_there (n ∷ roles) zero b e = (omega arith, some_same e)
down_there (n ∷ roles) (suc r) b e = let d = down_there roles r b e in (let lt = d.0 in omega (arith, lt), d.1)

pub down_here : (roles : List Numbers) (r : ℕ) → r < length roles → down_of (slice_get roles r) ≡ Some (numbers_at roles r).crashed
down_here roles r lt = ap down_of (slice_get-get_or roles r nobody lt)

-- nothing is forgotten, and each role has numbers
pub record ForgotNothing (roles : ℕ) (m : Remembered) : Type 0 where
  pub seeds : (r : ℕ) → slice_index m.seeds r ≡ 0
  pub forgotten : (r : ℕ) → slice_index m.forgotten r ≡ 0
  pub points : (r : ℕ) → slice_index m.points r ≡ 0
  pub numbers : length m.roles ≡ roles

pub none_at : (n r : ℕ) → slice_index (replicate n 0) r ≡ 0
none_at n r = ⊎_elim
    (λ lt. get_or-replicate n r 0 0 lt)
    (λ le. get_or_past (replicate n 0) r 0 (subst (λ l. l ≤ r) (sym (length-replicate n 0)) le))
    (cases_lt r n)

pub at_start : (roles : ℕ) → ForgotNothing roles (nothing_told roles)
at_start roles = record { seeds = none_at roles; forgotten = none_at roles; points = none_at roles; numbers = length-replicate _ _ }

module _ (terms : Terms) where
  pub nothing_after : (m : Remembered) (e : Entry) → ForgotNothing terms.roles m → ForgotNothing terms.roles (told_after terms m e)
  nothing_after m (Send e) n = record { seeds = n.seeds; forgotten = n.forgotten; points = n.points; numbers = length-set m.roles e.role _ ∙ n.numbers }
  nothing_after m (Recv e) n = record { seeds = n.seeds; forgotten = n.forgotten; points = n.points; numbers = length-set m.roles e.role _ ∙ n.numbers }
  nothing_after m (Crash p) n = record { seeds = n.seeds; forgotten = n.forgotten; points = n.points; numbers = length-set m.roles p _ ∙ n.numbers }
  nothing_after m (Recover p concerned kept undone) n =
      let left = left_at terms.net m (roles_in concerned) (slice_index kept) in record {
        seeds = n.seeds;
        forgotten = n.forgotten;
        points = n.points;
        numbers = length_mapped (numbers_behind (state_of m) (group_of terms p) (roles_in concerned) left) 0 m.roles ∙ n.numbers;
      }

-- a role's place is that behind all that it did
pub place_is : (roles : ℕ) (m : Remembered) (r : ℕ) → ForgotNothing roles m → place m r ≡ place_of 0 (acts r m.held)
place_is roles m r n =
    ap (λ k. place_of k (drop (slice_index m.seeds r) (acts r m.held))) (n.points r) ∙ ap (λ k. place_of 0 (drop k (acts r m.held))) (n.seeds r)

module _ (terms : Terms) (known : AreAccepted terms) where
  -- each role of a run stands at a place of its own
  pub stands_in : (h : List Event) (r : ℕ) → IsRun terms.net h → IsPlaceOf terms.net r (place_of 0 (acts r h))
  stands_in h r run =
      let c = cut terms.net r 0 run.0 (acts r h) (run.1.parts r) in
      subst (λ l. IsPlaceOf terms.net r (place_of 0 l)) c.did
      (stands terms.net terms.roles r c.front c.back known.proper (subst (IsWalk terms.net 0) (sym c.whole) run.1.walk))

  -- a role that may send at one of its next points sends at each
  pub all_sent : (h : List Event) (r x : ℕ) → IsRun terms.net h → r < terms.roles
      → IsNext terms.net r (place_of 0 (acts r h)) x → terms.net.sender x ≡ r
      → (z : ℕ) → IsNext terms.net r (place_of 0 (acts r h)) z → terms.net.sender z ≡ r
  all_sent h r x run lt next sends z n = ⊎_elim (λ f. f)
      (λ f. absurd (known.accepted.unmixed r (place_of 0 (acts r h)) x z lt (stands_in h r run) next n sends f)) n.own

  -- one that may receive receives at each, from one sender
  pub all_received : (h : List Event) (r x : ℕ) → IsRun terms.net h → r < terms.roles
      → IsNext terms.net r (place_of 0 (acts r h)) x → terms.net.receiver x ≡ r
      → (z : ℕ) → IsNext terms.net r (place_of 0 (acts r h)) z → (terms.net.receiver z ≡ r) × (terms.net.sender z ≡ terms.net.sender x)
  all_received h r x run lt next receives z n =
      let own : terms.net.receiver z ≡ r = ⊎_elim
      (λ f. absurd (known.accepted.unmixed r (place_of 0 (acts r h)) z x lt (stands_in h r run) n next f receives))
      (λ f. f) n.own in
      (own, known.accepted.one_sender r (place_of 0 (acts r h)) z x lt (stands_in h r run) n next own receives)

  -- a role of which it is known that it isn't down is declared
  pub declared : (m : Remembered) (r : ℕ) → ForgotNothing terms.roles m → (standpoint terms.net m r).down ≡ Some false → r < terms.roles
  declared m r n up = subst (λ l. r < l) n.numbers (down_there m.roles r false up).0

  pub next_at : (m : Remembered) (r x : ℕ) → ForgotNothing terms.roles m → IsNext terms.net r (place m r) x
      → IsNext terms.net r (place_of 0 (acts r m.held)) x
  next_at m r x n next = subst (λ k. IsNext terms.net r k x) (place_is terms.roles m r n) next

  sent : (m : Remembered) (e : Event) → ForgotNothing terms.roles m → IsRun terms.net m.held
      → IsSend terms.net (standpoint terms.net m e.role) e → IsRun terms.net (m.held ++ e ∷ [])
  sent m e n run may =
      let lt = declared m e.role n may.up in
      let next = next_at m e.role e.point n may.next in
      let all = all_sent m.held e.role e.point run lt next may.sends in
      send_keeps terms.net terms.roles run.0 m.held e known.proper known.accepted run.1 lt next all may.is_send

  received : (m : Remembered) (e : Event) → ForgotNothing terms.roles m → IsRun terms.net m.held
      → IsRecv terms.net (standpoint terms.net m e.role) e → IsRun terms.net (m.held ++ e ∷ [])
  received m e n run may =
      let lt = declared m e.role n may.up in
      let next = next_at m e.role e.point n may.next in
      let all = all_received m.held e.role e.point run lt next may.receives in
      let from = terms.net.sender e.point in
      (run.0, recv_keeps terms.net terms.roles run.0 m.held e from may.front.0 known.proper run.1 all (may.receives, refl) may.is_recv may.front.1)

  pub told_keeps : (m : Remembered) (e : Entry) → ForgotNothing terms.roles m → IsRun terms.net m.held → MayBeTold terms m e
      → IsRun terms.net (told_after terms m e).held
  told_keeps m (Send e) n run may = sent m e n run may
  told_keeps m (Recv e) n run may = received m e n run may
  told_keeps m (Crash p) n run may = run
  told_keeps m (Recover p concerned kept undone) n run may =
      (run.0, keep_is_run terms.net (bound_at m (roles_in concerned) (slice_index kept)) run.0 m.held run.1)

  -- what holds after each thing that is told
  pub record HoldsTold (m : Remembered) : Type 0 where
    pub nothing : ForgotNothing terms.roles m
    pub run : IsRun terms.net m.held

  pub holds_one : (m : Remembered) (e : Entry) → HoldsTold m → MayBeTold terms m e → HoldsTold (told_after terms m e)
  holds_one m e holds may = record { nothing = nothing_after terms m e holds.nothing; run = told_keeps m e holds.nothing holds.run may }

  pub holds_from : (m : Remembered) (front back entries : List Entry) → HoldsTold m → IsToldFrom terms m entries → front ++ back ≡ entries
      → HoldsTold (told_from terms m front)
  holds_from m [] back entries holds are f = holds
  holds_from m (e ∷ front) back [] holds are f = absurd (cc)
  holds_from m (e ∷ front) back (d ∷ entries) holds are f =
      let g : d ≡ e = cc in
      let rest : front ++ back ≡ entries = cc in
      let may : MayBeTold terms m e = subst (MayBeTold terms m) g are.0 in
      let later : IsToldFrom terms (told_after terms m e) entries = subst (λ x. IsToldFrom terms (told_after terms m x) entries) g are.1 in
      holds_from (told_after terms m e) front back entries (holds_one m e holds may) later rest

  pub holds_first : HoldsTold (nothing_told terms.roles)
  holds_first = record {
    nothing = at_start terms.roles;
    run = ([], record { walk = tt; parts = λ r. (_, refl); queued = queued_nil terms.net });
  }

  pub holds_within : (entries front back : List Entry) → IsTold terms entries → front ++ back ≡ entries → HoldsTold (told terms front)
  holds_within entries front back are f =
      holds_from (nothing_told terms.roles) front back entries holds_first are f

  pub holds_after : (entries : List Entry) → IsTold terms entries → HoldsTold (told terms entries)
  holds_after entries are = holds_within entries entries [] are (append-nil entries)

-- told events keep runs
pub told_keeps_runs : ToldEventsKeepRuns
told_keeps_runs terms entries front back known are f = (holds_within terms known entries front back are f).run
