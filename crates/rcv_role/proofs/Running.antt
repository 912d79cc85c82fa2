-- A run goes on poll by poll.
use Rattle.std.proofs.Common.{◌≡◌, ℕ, ◌+◌, ◌<◌, ◌≤◌, Bool, true, false, List, [], ◌∷◌, ◌++◌, length, refl, sym, ◌∙◌, ap, subst, arith, append_assoc, append-nil, length-append}
use Rattle.std.specs.Prelude.{◌↔◌, IsTrue}
use Rattle.std.proofs.lemmas.List.Elements.{All-nil, All-cons, All-append}
use Rattle.rcv_fence.specs.Codes.{code, IsPairOf}
use Rattle.rcv_fence.specs.Shown.{Shown}
use Rattle.rcv_session.specs.Session.{SessionView}
use Rattle.rcv_role.specs.declared.poll.Poll.{Poll}
use Rattle.rcv_role.specs.declared.poll.Poll.TheVariants as polls
use Rattle.rcv_role.specs.declared.poll.Stop.TheVariants as stops
use Rattle.rcv_role.specs.Part.{PartView, HasNoStrangers, ReachesRole}
use Rattle.rcv_mailbox.specs.Ends.{End}
use Rattle.rcv_role.specs.Cell.{CellView, cell_of, IsSettled, Goes}
use Rattle.rcv_role.specs.Poll.{Polled}
use Rattle.rcv_role.specs.Run.{IsFencedBy, LetsPass, AllPass, signal_of, Moves, unmoved, step, EndsBy, EndsFenced, EndsSpent, Ran}
use Rattle.rcv_role.proofs.Going.{goes_on, stays}

-- a word is the code of one pair
same_pair : (w r n q m : ℕ) → IsPairOf w r n → IsPairOf w q m → (r ≡ q) × (n ≡ m)
same_pair w r n q m a b =
    let e : code r n ≡ code q m = sym a.code_is ∙ b.code_is in
    let nf = a.point_is.first in
    let nl = a.point_is.last in
    let mf = b.point_is.first in
    let ml = b.point_is.last in
    (omega (arith, e, nf, nl, mf, ml), omega (arith, e, nf, nl, mf, ml))

-- what a look tells
pub none_fenced : (p : PartView) (w : ℕ) → w ≡ 0 → IsTrue false ↔ IsFencedBy p w
none_fenced p w e = ((λ t. absurd (cc)), λ f. absurd (let g = f.pair.code_is in omega (arith, e, g)))

pub some_fenced : (p : PartView) (w q n : ℕ) (b : Bool) → IsPairOf w q n → IsTrue b ↔ ReachesRole p.setup q n p.role → IsTrue b ↔ IsFencedBy p w
some_fenced p w q n b pair is = (
  (λ t. record { role = q; point = n; pair = pair; reaches = is.0 t }),
  λ f.
      let same = same_pair w f.role f.point q n f.pair pair in
      is.1 (subst (λ (z : ℕ × ℕ). ReachesRole p.setup z.0 z.1 p.role) (λ i. (same.0 i, same.1 i)) f.reaches),
)

-- the same of a cell as contracts see it
pub seen_fenced : (p : PartView) (c : CellView) (posts inboxes : List End) (w q n : ℕ) (b : Bool) → cell_of p posts inboxes ≡ c → IsTrue b ↔ ReachesRole p.setup q n p.role → IsPairOf w q n → IsTrue b ↔ IsFencedBy c.part w
seen_fenced p c posts inboxes w q n b is reached pair = some_fenced c.part w q n b pair (subst (λ (x : CellView). IsTrue b ↔ ReachesRole x.part.setup q n x.part.role) is reached)

-- no look yet, and one look more
none_yet : (p : PartView) (seen : List ℕ) → AllPass p seen seen 0
none_yet p seen = record { words = []; loaded = sym (append-nil seen); count = refl; pass = All-nil (LetsPass p) }

one_more_passes : (p : PartView) (before seen now : List ℕ) (w n : ℕ) → AllPass p before seen n → now ≡ seen ++ w ∷ [] → LetsPass p w → AllPass p before now (n + 1)
one_more_passes p before seen now w n passed e new = record {
  words = passed.words ++ w ∷ [];
  loaded = e ∙ ap (λ l. l ++ w ∷ []) passed.loaded ∙ append_assoc before passed.words (w ∷ []);
  count = length-append passed.words (w ∷ []) ∙ ap (λ k. k + 1) passed.count;
  pass = All-append (LetsPass p) passed.words (w ∷ []) passed.pass (All-cons (LetsPass p) w [] new (All-nil (LetsPass p)));
}

pub record IsRunning (from now : CellView) (watch w : Shown) (n : ℕ) : Type 0 where
  pub goes : Goes from now
  pub few : length now.part.log ≤ length from.part.log + n
  pub running : now.part.own.numbers.crashed ≡ false
  pub made : Moves from n now
  pub fence : w.fence ≡ watch.fence
  pub looks : w.looks ≡ watch.looks + n
  pub raised : w.raised ≡ watch.raised
  pub passed : AllPass from.part watch.seen w.seen n
  pub unfenced : 0 < n → IsFencedBy from.part w.last → ⊥

pub run_start : (c : CellView) (watch : Shown) → IsSettled c → HasNoStrangers c.part → c.part.own.numbers.crashed ≡ false → IsRunning c c watch watch 0
run_start c watch settled strangers running = record {
  goes = stays c settled strangers;
  few = omega arith;
  running = running;
  made = unmoved;
  fence = refl;
  looks = omega arith;
  raised = refl;
  passed = none_yet c.part watch.seen;
  unfenced = λ lt f. omega (arith, lt);
}

-- the role and its session are those of the start
still_fenced : (a b : CellView) (w : ℕ) → Goes a b → IsFencedBy a.part w → IsFencedBy b.part w
still_fenced a b w g f = record {
  role = f.role;
  point = f.point;
  pair = f.pair;
  reaches = subst (λ (z : SessionView × ℕ). ReachesRole z.0 f.role f.point z.1) (λ i. (sym g.setup i, sym g.role i)) f.reaches;
}

was_fenced : (a b : CellView) (w : ℕ) → Goes a b → IsFencedBy b.part w → IsFencedBy a.part w
was_fenced a b w g f = record {
  role = f.role;
  point = f.point;
  pair = f.pair;
  reaches = subst (λ (z : SessionView × ℕ). ReachesRole z.0 f.role f.point z.1) (λ i. (g.setup i, g.role i)) f.reaches;
}

module _ (a b : CellView) (watch w w2 : Shown) (k turns : ℕ) (fenced : Bool) (so : IsRunning a b watch w k) (in_turn : k < turns) (fence : w2.fence ≡ w.fence) (looks : w2.looks ≡ w.looks + 1) (raised : w2.raised ≡ w.raised) (seen : w2.seen ≡ w.seen ++ w2.last ∷ []) (tells : IsTrue fenced ↔ IsFencedBy b.part w2.last) where
  pub ends_fenced : fenced ≡ true → EndsFenced turns a b watch w2
  ends_fenced t = record {
    steps = k;
    few = in_turn;
    made = so.made;
    looks = let l = so.looks in omega (arith, looks, l);
    seen_before = w.seen;
    passed = so.passed;
    loaded = seen;
    fenced = was_fenced a b w2.last so.goes (tells.0 t);
    raised = raised ∙ so.raised;
  }

  pub fenced_few : length b.part.log ≤ length a.part.log + turns
  fenced_few = let f = so.few in omega (arith, f, in_turn)

  module _ (c : CellView) (calm : fenced ≡ false) (goes : Goes b c) (few : length c.part.log ≤ length b.part.log + 1) where
    none_seen : IsFencedBy a.part w2.last → ⊥
    none_seen f = let t : fenced ≡ true = tells.1 (still_fenced a b w2.last so.goes f) in cc

    all_pass : AllPass a.part watch.seen w2.seen (k + 1)
    all_pass = one_more_passes a.part watch.seen w.seen w2.seen w2.last k so.passed seen none_seen

    pub run_goes : Goes a c
    run_goes = goes_on a b c so.goes goes

    pub run_few : length c.part.log ≤ length a.part.log + turns
    run_few = let f = so.few in omega (arith, f, few, in_turn)

    pub run_more : Polled b c polls.Moved → IsRunning a c watch w2 (k + 1)
    run_more polled = record {
      goes = run_goes;
      few = let f = so.few in omega (arith, f, few);
      running = ap (λ (p : PartView). p.own.numbers.crashed) polled.1.part ∙ so.running;
      made = step so.made polled;
      fence = fence ∙ so.fence;
      looks = let l = so.looks in omega (arith, looks, l);
      raised = raised ∙ so.raised;
      passed = all_pass;
      unfenced = λ lt f. none_seen f;
    }

    pub ends_by : (poll : Poll) (w3 : Shown) → w3.looks ≡ w2.looks → w3.last ≡ w2.last → w3.seen ≡ w2.seen → Polled b c poll → EndsBy turns a c watch w3 poll
    ends_by poll w3 same_looks same_last same_seen polled = record {
      steps = k;
      few = in_turn;
      before = b;
      made = so.made;
      last = polled;
      looks = let l = so.looks in omega (arith, looks, l, same_looks);
      passed = subst (λ l. AllPass a.part watch.seen l (k + 1)) (sym same_seen) all_pass;
      unfenced = λ f. none_seen (subst (IsFencedBy a.part) same_last f);
    }

    pub ran_waiting : Polled b c polls.Waiting → Ran turns a c watch w2 stops.Waiting
    ran_waiting polled = (ends_by polls.Waiting w2 refl refl refl polled, raised ∙ so.raised)

    pub ran_done : Polled b c polls.Done → Ran turns a c watch w2 stops.Done
    ran_done polled = (ends_by polls.Done w2 refl refl refl polled, raised ∙ so.raised)

    pub ran_tired : Polled b c polls.Tired → Ran turns a c watch w2 stops.Tired
    ran_tired polled = (ends_by polls.Tired w2 refl refl refl polled, raised ∙ so.raised)

    pub ran_crashed : (w3 : Shown) → w3.looks ≡ w2.looks → w3.last ≡ w2.last → w3.seen ≡ w2.seen → w3.raised ≡ w2.raised ++ signal_of c.part → Polled b c polls.Crashed → Ran turns a c watch w3 stops.Crashed
    ran_crashed w3 same_looks same_last same_seen signalled polled = (ends_by polls.Crashed w3 same_looks same_last same_seen polled, signalled ∙ ap (λ l. l ++ signal_of c.part) (raised ∙ so.raised))

pub ran_spent : (a b : CellView) (watch w : Shown) (n turns : ℕ) → IsRunning a b watch w n → n ≡ turns → 1 ≤ turns → Ran turns a b watch w stops.Spent
ran_spent a b watch w n turns so e one = subst (λ k. EndsSpent k a b watch w) e (record {
  made = so.made;
  looks = so.looks;
  passed = so.passed;
  unfenced = so.unfenced (omega (arith, e, one));
  raised = so.raised;
})
