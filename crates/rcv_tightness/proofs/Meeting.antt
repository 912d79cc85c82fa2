-- Each restart point of the table is met, by a walk that is done in turn; and what is met is a restart point.
use Rattle.std.proofs.Common.{◌≡◌, ℕ, ◌≤◌, true, cond, Some, None, List, [], ◌∷◌, ◌++◌, length, refl, sym, ◌∙◌, ap, subst, ◌⊎◌, inl, inr, ⊎_elim, append_assoc, arith, eq-eqb, ne_eqb}
use Rattle.std.specs.Prelude.{◌↔◌, ◌==◌, if◌then◌else◌, slice_get}
use Rattle.std.specs.List.{cons_option}
use Rattle.std.proofs.lemmas.Bool.{cases_Bool, cases_eq}
use Rattle.rcv_tree.specs.Bits.{is_listed}
use Rattle.rcv_tree.specs.declared.event.Event.{Event}
use Rattle.rcv_model.specs.Net.{Net, IsIn, IsWalk}
use Rattle.rcv_model.specs.Next.{IsOf}
use Rattle.rcv_model.specs.Run.{Act, act_at, acts, part, put, taken, IsRunOf}
use Rattle.rcv_model.specs.Table.{mark, marks, IsRestart, AreRestarts, IsConcerned, point_of, start_of}
use Rattle.rcv_model.specs.TableLaws.{IsForeseen}
use Rattle.rcv_model.specs.Undo.{bound_of, is_blocked, scanned}
use Rattle.rcv_model.proofs.Groups.{foreseen}
use Rattle.rcv_model.proofs.Lists.{some_same}
use Rattle.rcv_model.proofs.Marks.{mark_keeps, marks_more, mark_cases}
use Rattle.rcv_model.proofs.Parts.{ActCase, none, sends, gets, act_case, part_join}
use Rattle.rcv_model.proofs.Queues.{get_here}
use Rattle.rcv_model.proofs.Scanning.{among}
use Rattle.rcv_tightness.specs.Met.{IsFirstUndone, LosesFrom, IsMet}
use Rattle.rcv_tightness.specs.Laws.{MayFail}
use Rattle.rcv_tightness.proofs.Turns.{IsTurn, AreInTurn, in_turn, are_in_turn, acts_in_turn, all_taken, run_in_turn, turns_join, CutTurns, cut_turns, split_turns}
use Rattle.rcv_tightness.proofs.Reaching.{reach}
use Rattle.rcv_tightness.proofs.Marking.{Agrees, acts_grow, agree_along, IsDoomed, stopped_then, still_doomed, lost_event, later_whole, free_now, starved_recv}
use Rattle.rcv_tightness.proofs.Firsts.{first_at, first_undone_is_next}

-- nobody marks anybody if nobody is marked at first
marks_none : (net : Net) (w : List ℕ) → marks net [] w ≡ []
marks_none net [] = refl
marks_none net (x ∷ w) = marks_none net w

pub marks_keep : (net : Net) (m w : List ℕ) (q : ℕ) → IsIn q m → IsIn q (marks net m w)
marks_keep net m [] q i = i
marks_keep net m (x ∷ w) q i = marks_keep net (mark net m x) w q (mark_keeps net m x q i)

-- what a role does at its point
own_act : (net : Net) (p n : ℕ) → IsOf net p n → (own : Act) × (act_at net p n ≡ Some own) × (own.point ≡ n)
own_act net p n own = go (act_case net p n)
  where
    go : ActCase net p n → (own : Act) × (act_at net p n ≡ Some own) × (own.point ≡ n)
    go (none e m) = absurd (m own)
    go (sends e f) = (_, e, refl)
    go (gets e f m) = (_, e, refl)

pub past_end : {A : Type 0} (xs : List A) → slice_get xs (length xs) ≡ None
past_end [] = refl
past_end (x ∷ xs) = past_end xs

-- A walk by n, in turn. Role p has saved its events before n, each other role all of its events.
module _ (net : Net) (roles : ℕ) (group : List ℕ) (p n : ℕ) (may : MayFail net roles group p n) (h g f : List Event) (w0 rest : List ℕ)
    (before : AreInTurn net w0 g) (after : AreInTurn net (n ∷ rest) f) (whole : g ++ f ≡ h) (run : IsRunOf net (w0 ++ n ∷ rest) h)
    (did : (r : ℕ) → acts r h ≡ part net r (w0 ++ n ∷ rest)) where
  abbrev pub saved : ℕ → ℕ
  saved r = if r == p then length (acts p g) else length (acts r h)

  saved_own : saved p ≡ length (acts p g)
  saved_own = ap (λ b. cond b (length (acts p g)) (length (acts p h))) (eq-eqb p p refl)

  saved_else : (r : ℕ) → (r ≡ p → ⊥) → saved r ≡ length (acts r h)
  saved_else r m = ap (λ b. cond b (length (acts p g)) (length (acts r h))) (ne_eqb r p m)

  abbrev bound : ℕ → ℕ
  bound = bound_of group saved h

  bound_own : bound p ≡ length (acts p g)
  bound_own = ap (λ b. cond b (saved p) (length (acts p h))) (among p group may.member) ∙ saved_own

  bound_else : (r : ℕ) → (r ≡ p → ⊥) → bound r ≡ length (acts r h)
  bound_else r m = ⊎_elim
      (λ t. ap (λ b. cond b (saved r) (length (acts r h))) t ∙ saved_else r m)
      (λ t. ap (λ b. cond b (saved r) (length (acts r h))) t)
      (cases_Bool (is_listed group r))

  loses : LosesFrom h saved p n
  loses = record { start = start; others = λ r m. saved_else r m }
    where
      start : start_of saved h p ≡ Some n
      start =
          let own = own_act net p n may.own in
          let split : acts p h ≡ part net p w0 ++ own.0 ∷ part net p rest = did p ∙ part_join net p w0 (n ∷ rest)
          ∙ ap (λ o. part net p w0 ++ cons_option o (part net p rest)) own.1 in
          let many : saved p ≡ length (part net p w0) = saved_own ∙ ap length (acts_in_turn net w0 g p may.proper.two_ends before) in
          ap point_of
          (ap (slice_get (acts p h)) many ∙ ap (λ l. slice_get l (length (part net p w0))) split
          ∙ get_here (part net p w0) (part net p rest) own.0) ∙ ap Some own.2

  fits : (r : ℕ) → length (acts r g) ≤ bound r
  fits r = ⊎_elim
      (λ e. subst (λ z. length (acts z g) ≤ bound z) (sym e) (omega (arith, bound_own)))
      (λ m. let more = acts_grow r g f in omega (arith, more, bound_else r m, ap (λ l. length (acts r l)) whole))
      (cases_eq r p)

  -- before n nobody loses
  quiet : Agrees net bound h run.queued g []
  quiet = subst (Agrees net bound h run.queued g) (marks_none net w0)
      (agree_along net bound h run.queued may.proper.two_ends w0 g [] f [] before whole (λ s r. refl)
      (record { free = λ q m i. i; doomed = λ q i. absurd i }) (λ r m. fits r))

  -- from n on p keeps nothing more
  begins : Agrees net bound h run.queued g (p ∷ [])
  begins =
      record {
        free = λ q m i. quiet.free q (λ j. j) i;
        doomed =
            λ q i. ⊎_elim (λ e. inr (subst (λ z. bound z ≤ length (acts z g)) (sym e) (omega (arith, bound_own)))) (λ j. absurd j) i;
      }

  empty : (s r : ℕ) → put net s r g ≡ taken net s r g
  empty s r = all_taken net w0 g s r before

  room : (r : ℕ) → (IsIn r (p ∷ []) → ⊥) → length (acts r h) ≤ bound r
  room r m = omega (arith, bound_else r (λ e. m (inl e)))

  -- so p goes back to n
  own_back : IsFirstUndone net h bound p n
  own_back = go f after whole
    where
      go : (l : List Event) → AreInTurn net (n ∷ rest) l → g ++ l ≡ h → IsFirstUndone net h bound p n
      go [] t e = absurd t
      go (a ∷ []) t e = absurd t
      go (a ∷ (b ∷ l)) t e = ⊎_elim as_sender as_receiver (cases_eq (net.sender n) p)
        where
          turn : IsTurn net n a b
          turn = t.0

          doomed : IsDoomed net bound h run.queued p g
          doomed = begins.doomed p (inl refl)

          as_sender : net.sender n ≡ p → IsFirstUndone net h bound p n
          as_sender s =
              let role : a.role ≡ p = turn.sender ∙ s in
              subst (λ r. IsFirstUndone net h bound r n) role (subst (IsFirstUndone net h bound a.role) turn.sent_at (
              first_at net bound h run.queued g (b ∷ l) a e (λ i. quiet.free a.role (λ j. j) i)
              (lost_event net bound h run.queued g (b ∷ l) a e (subst (λ z. IsDoomed net bound h run.queued z g) (sym role) doomed))
              ))

          as_receiver : (net.sender n ≡ p → ⊥) → IsFirstUndone net h bound p n
          as_receiver m =
              let own : net.receiver n ≡ p = ⊎_elim (λ s. absurd (m s)) (λ r. r) may.own in
              let role : b.role ≡ p = turn.receiver ∙ own in
              let later : (g ++ a ∷ []) ++ b ∷ l ≡ h = append_assoc g (a ∷ []) (b ∷ l) ∙ e in
              let free : IsIn b.role (scanned net bound (g ++ a ∷ [])).stopped → ⊥ =
              λ i. no_stop (subst (λ z. IsIn z (scanned net bound (g ++ a ∷ [])).stopped) role i) in
              subst (λ r. IsFirstUndone net h bound r n) role (subst (IsFirstUndone net h bound b.role) turn.got_at (
              first_at net bound h run.queued (g ++ a ∷ []) l b later free
              (lost_event net bound h run.queued (g ++ a ∷ []) l b later
              (subst (λ z. IsDoomed net bound h run.queued z (g ++ a ∷ [])) (sym role) (still_doomed net bound h run.queued g a p doomed)))
              ))
            where
              no_stop : IsIn p (scanned net bound (g ++ a ∷ [])).stopped → ⊥
              no_stop i = ⊎_elim
                  (quiet.free p (λ j. j))
                  (λ k. m (sym turn.sender ∙ sym k.0))
                  (stopped_then net bound h run.queued g a p i)

  -- and q to where it is first marked
  other_back : (q z : ℕ) (u v : List ℕ) → u ++ z ∷ v ≡ n ∷ rest → (IsIn q (marks net (p ∷ []) u) → ⊥) → IsIn q (marks net (p ∷ []) (u ++ z ∷ []))
      → IsFirstUndone net h bound q z
  other_back q z u v cut not_yet now =
      subst (λ r. IsFirstUndone net h bound r z) role
      (subst (IsFirstUndone net h bound c.recv.role) c.turn.got_at
      (first_at net bound h run.queued ((g ++ c.ahead) ++ c.send ∷ []) c.back c.recv later free lost))
    where
      c : CutTurns net u z f
      c = cut_turns net u z v f (subst (λ l. AreInTurn net l f) (sym cut) after)

      joined : g ++ (c.ahead ++ c.send ∷ (c.recv ∷ c.back)) ≡ h
      joined = ap (λ l. g ++ l) c.all ∙ whole

      here : (g ++ c.ahead) ++ c.send ∷ (c.recv ∷ c.back) ≡ h
      here = append_assoc g c.ahead (c.send ∷ (c.recv ∷ c.back)) ∙ joined

      less : (r : ℕ) (a b : List Event) → a ++ b ≡ h → (IsIn r (p ∷ []) → ⊥) → length (acts r a) ≤ bound r
      less r a b e m = let more = acts_grow r a b in omega (arith, more, room r m, ap (λ l. length (acts r l)) e)

      agrees : Agrees net bound h run.queued (g ++ c.ahead) (marks net (p ∷ []) u)
      agrees =
          agree_along net bound h run.queued may.proper.two_ends u c.ahead g (c.send ∷ (c.recv ∷ c.back)) (p ∷ []) c.turns joined empty begins
          (λ r m. less r (g ++ c.ahead) (c.send ∷ (c.recv ∷ c.back)) here m)

      empty_here : (s r : ℕ) → put net s r (g ++ c.ahead) ≡ taken net s r (g ++ c.ahead)
      empty_here s r = all_taken net (w0 ++ u) (g ++ c.ahead) s r (turns_join net w0 u g c.ahead before c.turns)

      room_here : (r : ℕ) → (IsIn r (marks net (p ∷ []) u) → ⊥) → length (acts r ((g ++ c.ahead) ++ c.send ∷ (c.recv ∷ []))) ≤ bound r
      room_here r m =
          less r ((g ++ c.ahead) ++ c.send ∷ (c.recv ∷ [])) c.back (append_assoc (g ++ c.ahead) (c.send ∷ (c.recv ∷ [])) c.back ∙ here)
          (λ i. m (marks_keep net (p ∷ []) u r i))

      by : (q ≡ net.receiver z) × IsIn (net.sender z) (marks net (p ∷ []) u)
      by = ⊎_elim (λ j. absurd (not_yet j)) (λ j. j) (mark_cases net (marks net (p ∷ []) u) z q (subst (IsIn q) (marks_more net (p ∷ []) u z) now))

      role : c.recv.role ≡ q
      role = c.turn.receiver ∙ sym by.0

      later : ((g ++ c.ahead) ++ c.send ∷ []) ++ c.recv ∷ c.back ≡ h
      later = later_whole net bound h run.queued may.proper.two_ends (g ++ c.ahead) c.back (marks net (p ∷ []) u)
          z c.send c.recv c.turn here empty_here agrees room_here

      free : IsIn c.recv.role (scanned net bound ((g ++ c.ahead) ++ c.send ∷ [])).stopped → ⊥
      free i =
          free_now net bound h run.queued may.proper.two_ends (g ++ c.ahead) c.back (marks net (p ∷ []) u)
          z c.send c.recv c.turn here empty_here agrees room_here q not_yet
          (subst (λ r. IsIn r (scanned net bound ((g ++ c.ahead) ++ c.send ∷ [])).stopped) role i)

      lost : is_blocked net bound (scanned net bound ((g ++ c.ahead) ++ c.send ∷ [])) c.recv ≡ true
      lost = starved_recv net bound h run.queued may.proper.two_ends (g ++ c.ahead) c.back (marks net (p ∷ []) u)
          z c.send c.recv c.turn here empty_here agrees room_here by.1 (λ i. not_yet (subst (λ r. IsIn r (marks net (p ∷ []) u)) (sym by.0) i))

-- after these events p loses from n on, and q goes back to z by that
pub record GoesBack (net : Net) (group : List ℕ) (p n q z : ℕ) (h : List Event) : Type 0 where
  pub has_saved : ℕ → ℕ
  pub loses_then : LosesFrom h has_saved p n
  pub back : IsFirstUndone net h (bound_of group has_saved h) q z

-- how the walk to a restart point goes on after n
pub rest_of : (net : Net) (p n q z : ℕ) → IsRestart net p n q z → List ℕ
rest_of net p n q z (inl e) = []
rest_of net p n q z (inr m) = m.1.walk.0

pub walk_of : (net : Net) (p n q z : ℕ) (r : IsRestart net p n q z) → IsWalk net n (rest_of net p n q z r)
unfolding rest_of
walk_of net p n q z (inl e) = tt
walk_of net p n q z (inr m) = m.1.walk.1

-- all of such a walk in turn makes q go back to z
pub goes_back : (net : Net) (roles : ℕ) (group : List ℕ) (p n q z : ℕ) → MayFail net roles group p n
    → (r : IsRestart net p n q z) (w0 : List ℕ) (h : List Event) → IsWalk net 0 (w0 ++ n ∷ rest_of net p n q z r)
    → AreInTurn net (w0 ++ n ∷ rest_of net p n q z r) h → GoesBack net group p n q z h
unfolding rest_of
goes_back net roles group p n q z may (inl e) w0 h walk turns =
    let two = may.proper.two_ends in
    let c = split_turns net w0 (n ∷ []) h turns in
    let run : IsRunOf net (w0 ++ n ∷ []) h = run_in_turn net (w0 ++ n ∷ []) h two walk turns in
    let did : (r : ℕ) → acts r h ≡ part net r (w0 ++ n ∷ []) = λ r. acts_in_turn net (w0 ++ n ∷ []) h r two turns in
    subst (λ r. GoesBack net group p n r z h) (sym e.0) (subst (λ k. GoesBack net group p n p k h) (sym e.1) (record {
      has_saved = saved net roles group p n may h c.front c.back w0 [] c.first c.second c.all run did;
      loses_then = loses net roles group p n may h c.front c.back w0 [] c.first c.second c.all run did;
      back = own_back net roles group p n may h c.front c.back w0 [] c.first c.second c.all run did;
    }))
goes_back net roles group p n q z may (inr m) w0 h walk turns =
    let two = may.proper.two_ends in
    let k = m.1 in
    let rest = k.walk.0 in
    let c = split_turns net w0 (n ∷ rest) h turns in
    let run : IsRunOf net (w0 ++ n ∷ rest) h = run_in_turn net (w0 ++ n ∷ rest) h two walk turns in
    let did : (r : ℕ) → acts r h ≡ part net r (w0 ++ n ∷ rest) = λ r. acts_in_turn net (w0 ++ n ∷ rest) h r two turns in
    record {
      has_saved = saved net roles group p n may h c.front c.back w0 rest c.first c.second c.all run did;
      loses_then = loses net roles group p n may h c.front c.back w0 rest c.first c.second c.all run did;
      back = other_back net roles group p n may h c.front c.back w0 rest c.first c.second c.all run did q z k.before k.after k.walk.2 k.not_yet k.now;
    }

-- a restart point is met
pub meets : (net : Net) (roles : ℕ) (group : List ℕ) (p n q z : ℕ) → MayFail net roles group p n → IsRestart net p n q z → IsMet net group p n q z
meets net roles group p n q z may r =
    let to_n = reach net roles n may.proper may.accepted may.least may.most in
    let w : List ℕ = to_n.0 ++ n ∷ rest_of net p n q z r in
    let walk : IsWalk net 0 (to_n.0 ++ n ∷ rest_of net p n q z r) = to_n.1 (rest_of net p n q z r) (walk_of net p n q z r) in
    let g = goes_back net roles group p n q z may r to_n.0 (in_turn net w) walk (are_in_turn net w) in
    record {
      events = in_turn net w;
      saved = g.has_saved;
      run =
          (w, run_in_turn net w (in_turn net w) may.proper.two_ends walk (are_in_turn net w));
      loses = g.loses_then;
      back = g.back;
    }

-- if p alone loses, what is foreseen is a restart point from its start
pub from_start : (net : Net) (group : List ℕ) (p n q z : ℕ) (h : List Event) (saved : ℕ → ℕ) → LosesFrom h saved p n
    → IsForeseen net group saved h q z → IsRestart net p n q z
from_start net group p n q z h saved loses f = go (cases_eq f.p p)
  where
    go : (f.p ≡ p) ⊎ (f.p ≡ p → ⊥) → IsRestart net p n q z
    go (inl e) =
        let same : n ≡ f.n = some_same (sym loses.start ∙ subst (λ r. start_of saved h r ≡ Some f.n) e f.start) in
        subst (λ r. IsRestart net r n q z) e (subst (λ k. IsRestart net f.p k q z) (sym same) f.restart)
    go (inr m) = absurd (
        let none' : start_of saved h f.p ≡ None = ap point_of (ap (slice_get (acts f.p h)) (loses.others f.p m) ∙ past_end (acts f.p h)) in
        let some = f.start in
        cc
        )

-- what is met is a restart point
pub met_restarts : (net : Net) (roles : ℕ) (group : List ℕ) (p n q z : ℕ) → MayFail net roles group p n → IsMet net group p n q z
    → IsRestart net p n q z
met_restarts net roles group p n q z may met =
    let next = (first_undone_is_next net met.events (bound_of group met.saved met.events) q z met.run.1.queued).0 met.back in
    let f : IsForeseen net group met.saved met.events q next.0.point =
    foreseen net group met.saved q met.events next.0 (roles, may.proper) met.run next.1 in
    subst (IsRestart net p n q) next.2 (from_start net group p n q next.0.point met.events met.saved met.loses f)

pub restarts_are_met : (net : Net) (roles : ℕ) (group : List ℕ) (p n q z : ℕ) → MayFail net roles group p n
    → IsRestart net p n q z ↔ IsMet net group p n q z
restarts_are_met net roles group p n q z may = (meets net roles group p n q z may, met_restarts net roles group p n q z may)

pub rows_are_met : (net : Net) (roles : ℕ) (group : List ℕ) (p n q : ℕ) (zs : List ℕ) → MayFail net roles group p n → AreRestarts net p n q zs
    → (z : ℕ) → IsIn z zs ↔ IsMet net group p n q z
rows_are_met net roles group p n q zs may are z = (
  λ i. meets net roles group p n q z may (are.sound z i),
  λ m. are.complete z (met_restarts net roles group p n q z may m),
)

pub concerned_do_lose : (net : Net) (roles : ℕ) (group : List ℕ) (p n q : ℕ) → MayFail net roles group p n
    → IsConcerned net p n q ↔ ((z : ℕ) × IsMet net group p n q z)
concerned_do_lose net roles group p n q may = (
  λ c. (c.0, meets net roles group p n q c.0 may c.1),
  λ m. (m.0, met_restarts net roles group p n q m.0 may m.1),
)
