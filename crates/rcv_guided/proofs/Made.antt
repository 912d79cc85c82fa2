-- What a role saved it did: this stays.
use Rattle.std.proofs.Common.{◌≡◌, ℕ, ◌+◌, ◌<◌, ◌≤◌, Bool, true, false, cond, List, [], ◌∷◌, ◌++◌, length, refl, sym, ◌∙◌, ap, subst, ⊎_elim, length-set, length-append, length-drop, arith}
use Rattle.std.specs.Prelude.{All, nat_le, nat_lt, slice_set, slice_index, slice_index_or}
use Rattle.std.proofs.lemmas.Bool.{cases_eq, cases_lt}
use Rattle.std.proofs.lemmas.Bool.Decides.{nat_tests}
use Rattle.std.proofs.lemmas.List.{get_or-set_same, get_or-set_other, get_or_past}
use Rattle.std.proofs.lemmas.List.Elements.{All-nil, All-cons, All-append, All-filter}
use Rattle.rcv_tree.specs.declared.event.Event.{Event}
use Rattle.rcv_tree.specs.declared.event.Message.{Message}
use Rattle.rcv_tree.specs.declared.protocol.Protocol.{Protocol}
use Rattle.rcv_model.specs.Journal.{events_of}
use Rattle.rcv_ledger.specs.Logs.{log_at, with_event_of}
use Rattle.rcv_saves.specs.Counts.{up_to, above, below, with_count}
use Rattle.rcv_saves.specs.Saves.{SavesView, told_of, with_told}
use Rattle.rcv_told.specs.Forgetting.{since}
use Rattle.rcv_guide.specs.declared.numbers.Numbers.{Numbers}
use Rattle.rcv_guide.specs.Numbers.{at_start, numbers_at, with_crash}
use Rattle.rcv_guide.specs.Guide.{GuideView, roles_of, with_event, with_numbers, HasMemory, HasForgotten}
use Rattle.rcv_guide.specs.Restoring.{sent_by, with_seed, with_again, MayLie}
use Rattle.rcv_guide.proofs.Memories.{seeds_at, forgotten_at}
use Rattle.rcv_guided.specs.Session.{made_in, HaveMade}
use Rattle.rcv_guided.specs.Room.{HaveForgotten}

-- what is up to a count is at most that
pub within_cut : (n : ℕ) (cs : List ℕ) → All (λ c. c ≤ n) (up_to n cs)
within_cut n [] = All-nil (λ c. c ≤ n)
within_cut n (c ∷ cs) = go (nat_le c n) refl (within_cut n cs)
  where
    go : (b : Bool) → nat_le c n ≡ b → All (λ x. x ≤ n) (up_to n cs) → All (λ x. x ≤ n) (cond b (c ∷ up_to n cs) (up_to n cs))
    go true e rest = All-cons (λ x. x ≤ n) c (up_to n cs) (grind (arith, nat_tests)) rest
    go false e rest = rest

within_more : (n c : ℕ) (cs : List ℕ) → c ≤ n → All (λ x. x ≤ n) cs → All (λ x. x ≤ n) (with_count c cs)
within_more n c cs le all =
    All-append (λ x. x ≤ n) (below c cs) (c ∷ above c cs) (All-filter (λ x. nat_lt x c) (λ x. x ≤ n) cs all)
    (All-cons (λ x. x ≤ n) c (above c cs) le (All-filter (λ x. nat_lt c x) (λ x. x ≤ n) cs all))

-- Where no role's count is lower than before.
pub made_still : (old new : GuideView) (saves : SavesView) → HaveMade old saves → new.protocol ≡ old.protocol → ((r : ℕ) → r < roles_of old → made_in old r ≤ made_in new r) → HaveMade new saves
made_still old new saves made same more r lt k d low =
    let own = subst (λ n. r < n) (ap (λ (p : Protocol). length p.roles) same) lt in
    let a = made r own k d low in
    let b = more r own in
    omega (arith, a, b)

-- what holds of each item and itself, and of the one that is set, holds of all
set_holds : {A : Type 0} (R : A → A → Type 0) (xs : List A) (p r : ℕ) (y d : A) → ((x : A) → R x x) → R (slice_index_or xs p d) y → R (slice_index_or xs r d) (slice_index_or (slice_set xs p y) r d)
set_holds R xs p r y d self one = ⊎_elim
    (λ own. ⊎_elim
    (λ lt. subst (λ q. R (slice_index_or xs q d) (slice_index_or (slice_set xs p y) q d)) (sym own) (subst (R (slice_index_or xs p d)) (sym (get_or-set_same xs p y d lt)) one))
    (λ le.
    let none : length xs ≤ r = omega (arith, le, own) in
    let size : length (slice_set xs p y) ≡ length xs = length-set xs p y in
    subst (R (slice_index_or xs r d)) (get_or_past xs r d none ∙ sym (get_or_past (slice_set xs p y) r d (omega (arith, none, size)))) (self (slice_index_or xs r d)))
    (cases_lt p (length xs)))
    (λ other. subst (R (slice_index_or xs r d)) (sym (get_or-set_other xs p r y d other)) (self (slice_index_or xs r d)))
    (cases_eq r p)

abbrev IsLonger : List Event → List Event → Type 0
IsLonger old new = length old ≤ length new

record IsAtLeast (old new : Numbers) : Type 0 where
  pub forgotten : new.forgotten ≡ old.forgotten
  pub seeds : new.seeds ≡ old.seeds

longer : (logs : List (List Event)) (e : Event) (r : ℕ) → IsLonger (log_at logs r) (log_at (with_event_of logs e.role e) r)
longer logs e r = set_holds IsLonger logs e.role r (log_at logs e.role ++ e ∷ []) [] (λ x. omega arith) (let l = length-append (log_at logs e.role) (e ∷ []) in omega (arith, l))

pub event_made : (g : GuideView) (e : Event) (r : ℕ) → made_in g r ≤ made_in (with_event g e) r
event_made g e r =
    let x = numbers_at g.numbers e.role in
    let a = longer g.logs e r in
    let b = set_holds IsAtLeast g.numbers e.role r (record x { raw = x.raw + 1; clock = e.stamp }) at_start (λ y. record { forgotten = refl; seeds = refl }) (record { forgotten = refl; seeds = refl }) in
    let f = b.forgotten in
    let s = b.seeds in
    omega (arith, a, f, s)

pub crash_made : (g : GuideView) (p r : ℕ) → made_in g r ≤ made_in (with_numbers g (with_crash g.numbers p)) r
crash_made g p r =
    let x = numbers_at g.numbers p in
    let b = set_holds IsAtLeast g.numbers p r (record x { down = true }) at_start (λ y. record { forgotten = refl; seeds = refl }) (record { forgotten = refl; seeds = refl }) in
    let f = b.forgotten in
    let s = b.seeds in
    omega (arith, f, s)

pub again_made : (g : GuideView) (e : Event) (r : ℕ) → made_in g r ≤ made_in (with_again g e) r
again_made g e r = let a = longer g.logs e r in omega (arith, a)

-- a seed is none of what was made
pub seed_made : (g : GuideView) (p : ℕ) (m : Message) → MayLie g p m → (r : ℕ) → made_in g r ≤ made_in (with_seed g p m) r
seed_made g p m may r = ⊎_elim
    (λ own.
    let only = subst (λ q. length (log_at g.logs q) ≡ (numbers_at g.numbers q).seeds) (sym own) may.only in
    let x = numbers_at g.numbers p in
    let f = set_holds (λ (y z : Numbers). z.forgotten ≡ y.forgotten) g.numbers p r (record x { seeds = x.seeds + 1 }) at_start (λ y. refl) refl in
    omega (arith, only, f))
    (λ other.
    let x = numbers_at g.numbers p in
    let n = get_or-set_other g.numbers p r (record x { seeds = x.seeds + 1 }) at_start other in
    let s = ap (λ (y : Numbers). y.seeds) n in
    let f = ap (λ (y : Numbers). y.forgotten) n in
    let l = ap (λ (l : List Event). length l) (get_or-set_other g.logs p r (log_at g.logs p ++ sent_by p m ∷ []) [] other) in
    omega (arith, s, f, l))
    (cases_eq r p)

-- Forgetting takes nothing from what was made.
pub forgotten_made : (old new : GuideView) (counts : List ℕ) (room : ℕ) → HasMemory old → HasForgotten old new counts room → (r : ℕ) → r < roles_of old → made_in old r ≤ made_in new r
forgotten_made old new counts room has forgot r lt =
    let x = forgot.shorter has.memory has.is in
    let now = subst (λ n. r < n) (sym (ap (λ (g : GuideView). roles_of g) forgot.rest)) lt in
    let lacks = x.2.lacks r in
    let enough = lacks.enough in
    let f = lacks.forgotten in
    let fo = forgotten_at old has.memory has.is r lt in
    let fn = forgotten_at new x.0 x.1 r now in
    let so = seeds_at old has.memory has.is r lt in
    let sn = seeds_at new x.0 x.1 r now in
    let lo = ap (λ (l : List Event). length l) (has.is.events r) in
    let ln = ap (λ (l : List Event). length l) (x.1.events r) in
    let e = ap (λ (l : List Event). length l) lacks.since_is in
    let a = length-drop (x.2.gone r) (since has.memory r) in
    let b = length-drop (slice_index has.memory.seeds r) (events_of r has.memory.held) in
    let c = length-drop (slice_index x.0.seeds r) (events_of r x.0.held) in
    omega (arith, enough, f, fo, fn, so, sn, lo, ln, e, a, b, c)

-- Saves: one more that was made, and those that are left.
pub made_more : (g : GuideView) (saves : SavesView) (p count : ℕ) → HaveMade g saves → count ≤ made_in g p → HaveMade g (with_told saves p (with_count count (told_of saves p)))
made_more g saves p count made le r lt = ⊎_elim
    (λ own.
    subst (λ q. All (λ c. c ≤ made_in g q) (told_of (with_told saves p (with_count count (told_of saves p))) q)) (sym own)
    (set_own p (subst (λ q. q < roles_of g) own lt)))
    (λ other. subst (All (λ c. c ≤ made_in g r)) (sym (get_or-set_other saves.told p r (with_count count (told_of saves p)) [] other)) (made r lt))
    (cases_eq r p)
  where
    set_own : (q : ℕ) → p < roles_of g → All (λ c. c ≤ made_in g p) (told_of (with_told saves p (with_count count (told_of saves p))) p)
    set_own q low = ⊎_elim
        (λ here. subst (All (λ c. c ≤ made_in g p)) (sym (get_or-set_same saves.told p (with_count count (told_of saves p)) [] here)) (within_more (made_in g p) count (told_of saves p) le (made p low)))
        (λ past. subst (All (λ c. c ≤ made_in g p)) (sym (get_or_past (with_told saves p (with_count count (told_of saves p))).told p [] (let l = length-set saves.told p (with_count count (told_of saves p)) in omega (arith, l, past)))) (All-nil (λ c. c ≤ made_in g p)))
        (cases_lt p (length saves.told))

pub made_left : (g : GuideView) (old new : SavesView) → HaveMade g old → HaveForgotten g old new → HaveMade g new
made_left g old new made have r lt =
    subst (All (λ c. c ≤ made_in g r)) (sym (have.saved r lt)) (All-filter (λ x. nat_lt (numbers_at g.numbers r).forgotten x) (λ c. c ≤ made_in g r) (told_of old r) (made r lt))
