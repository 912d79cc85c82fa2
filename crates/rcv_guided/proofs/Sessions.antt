-- What a session keeps where its parts go on.
use Rattle.std.proofs.Common.{◌≡◌, ℕ, ◌+◌, ◌-◌, ◌≤◌, Option, List, [], length, refl, sym, ◌∙◌, ap, subst, ⊎_elim, length-set, arith}
use Rattle.std.specs.Prelude.{All, Result, Ok, Err, OnOk, OnErr, slice_set, slice_index}
use Rattle.std.proofs.lemmas.Bool.{cases_eq, cases_lt}
use Rattle.std.proofs.lemmas.List.{get_or-set_same, get_or-set_other, get_or_past}
use Rattle.std.proofs.lemmas.List.Elements.{All-nil}
use Rattle.rcv_tree.specs.declared.event.Event.{Event}
use Rattle.rcv_tree.specs.declared.event.Message.{Message}
use Rattle.rcv_tree.specs.declared.protocol.Protocol.{Protocol}
use Rattle.rcv_saves.specs.Counts.{with_count}
use Rattle.rcv_saves.specs.Saves.{SavesView, told_of, with_told}
use Rattle.rcv_ledger.specs.Logs.{log_at}
use Rattle.rcv_guide.specs.declared.numbers.Numbers.{Numbers}
use Rattle.rcv_guide.specs.Numbers.{at_start, with_crash}
use Rattle.rcv_guide.specs.Guide.{GuideView, with_event, with_numbers, HasMemory, HasForgotten}
use Rattle.rcv_guide.specs.declared.standing.Standing.{Standing}
use Rattle.rcv_guide.specs.Restoring.{begun_again, numbers_of, with_standing, with_seed, with_again, MayLie}
use Rattle.rcv_guided.specs.Session.{SessionView, made_in, IsSession, HaveMade}
use Rattle.rcv_guided.specs.Restoring.{IsUnsaved, AreUnsaved}
use Rattle.rcv_guided.specs.Room.{HaveForgotten}
use Rattle.rcv_guided.proofs.Made.{made_still, event_made, crash_made, again_made, seed_made, forgotten_made, made_more, made_left}

pub session_on : (s : SessionView) (g : GuideView) → IsSession s → g.protocol ≡ s.guide.protocol → s.guide.told ≤ g.told → 1 ≤ g.room → HaveMade g s.saves → IsSession (record s { guide = g })
session_on s g is same told room saved = record {
  steps = is.steps ∙ sym (ap (λ (p : Protocol). length p.roles) same);
  incarnations = is.incarnations ∙ sym (ap (λ (p : Protocol). length p.roles) same);
  few = λ r. (let few = is.few r in omega (arith, few, told));
  room = room;
  saved = saved;
}

abbrev pub IsSessionWith : SessionView → GuideView → Type 0
IsSessionWith s g = IsSession (record s { guide = g })

pub session_same : (s : SessionView) (g : GuideView) → IsSession s → g ≡ s.guide → IsSessionWith s g
session_same s g is value = subst (IsSessionWith s) (sym value) is

pub session_event : (s : SessionView) (g : GuideView) (e : Event) → IsSession s → g ≡ with_event s.guide e → IsSessionWith s g
session_event s g e is value = subst (IsSessionWith s) (sym value)
    (session_on s (with_event s.guide e) is refl (omega arith) is.room (made_still s.guide (with_event s.guide e) s.saves is.saved refl (λ r lt. event_made s.guide e r)))

pub session_crash : (s : SessionView) (g : GuideView) (p : ℕ) → IsSession s → g ≡ with_numbers s.guide (with_crash s.guide.numbers p) → IsSessionWith s g
session_crash s g p is value = subst (IsSessionWith s) (sym value)
    (session_on s (with_numbers s.guide (with_crash s.guide.numbers p)) is refl (omega arith) is.room
    (made_still s.guide (with_numbers s.guide (with_crash s.guide.numbers p)) s.saves is.saved refl (λ r lt. crash_made s.guide p r)))

pub session_again : (s : SessionView) (g : GuideView) (e : Event) → IsSession s → g ≡ with_again s.guide e → IsSessionWith s g
session_again s g e is value = subst (IsSessionWith s) (sym value)
    (session_on s (with_again s.guide e) is refl (omega arith) is.room (made_still s.guide (with_again s.guide e) s.saves is.saved refl (λ r lt. again_made s.guide e r)))

pub session_seed : (s : SessionView) (g : GuideView) (p : ℕ) (m : Message) → IsSession s → MayLie s.guide p m → g ≡ with_seed s.guide p m → IsSessionWith s g
session_seed s g p m is may value = subst (IsSessionWith s) (sym value)
    (session_on s (with_seed s.guide p m) is refl (omega arith) is.room (made_still s.guide (with_seed s.guide p m) s.saves is.saved refl (λ r lt. seed_made s.guide p m may r)))

-- One more save that was made.
pub session_saved : (s : SessionView) (saves : SavesView) (p count : ℕ) → IsSession s → count ≤ made_in s.guide p → saves ≡ with_told s.saves p (with_count count (told_of s.saves p)) → IsSession (record s { saves = saves })
session_saved s saves p count is le value =
    let more : SavesView = with_told s.saves p (with_count count (told_of s.saves p)) in
    subst (λ x. IsSession (record s { saves = x })) (sym value)
    (record { steps = is.steps; incarnations = is.incarnations; few = is.few; room = is.room; saved = made_more s.guide s.saves p count is.saved le })

-- What is stable is forgotten; or there is another room.
pub session_forgot : (s : SessionView) (g : GuideView) (counts : List ℕ) (room : ℕ) → IsSession s → HasMemory s.guide → HasForgotten s.guide g counts room → 1 ≤ room → IsSessionWith s g
session_forgot s g counts room is has forgot some =
    let told = ap (λ (x : GuideView). x.told) forgot.rest in
    let rooms = ap (λ (x : GuideView). x.room) forgot.rest in
    session_on s g is (ap (λ (x : GuideView). x.protocol) forgot.rest) (omega (arith, told)) (omega (arith, rooms, some))
    (made_still s.guide g s.saves is.saved (ap (λ (x : GuideView). x.protocol) forgot.rest) (forgotten_made s.guide g counts room has forgot))

pub session_left : (s : SessionView) (saves : SavesView) → IsSession s → HaveForgotten s.guide s.saves saves → IsSession (record s { saves = saves })
session_left s saves is have = record { steps = ap length have.steps ∙ is.steps; incarnations = is.incarnations; few = is.few; room = is.room; saved = made_left s.guide s.saves saves is.saved have }

-- A snapshot begins, where no saves were told; and a role stands somewhere, none of whose saves was told.
pub session_begun : (s : SessionView) (g : GuideView) (room told : ℕ) (restored : Option ℕ) → IsSession s → s.guide.told ≡ 0 → AreUnsaved s → 1 ≤ room → g ≡ begun_again s.guide.protocol s.guide.plan room told → IsSession (record s { guide = g; restored = restored })
session_begun s g room told restored is nothing unsaved some value = subst (λ x. IsSession (record s { guide = x; restored = restored })) (sym value) (record {
  steps = is.steps;
  incarnations = is.incarnations;
  few = λ r. (let few = is.few r in omega (arith, few, nothing));
  room = some;
  saved = λ r lt. subst (All (λ c. c ≤ made_in (begun_again s.guide.protocol s.guide.plan room told) r)) (sym (unsaved r lt)) (All-nil (λ c. c ≤ made_in (begun_again s.guide.protocol s.guide.plan room told) r));
})

pub session_stands : (s : SessionView) (g : GuideView) (p : ℕ) (x : Standing) (incarnation : ℕ) → IsSession s → incarnation ≤ s.guide.told → IsUnsaved s p → g ≡ with_standing s.guide p x
    → IsSession (record s { guide = g; incarnations = slice_set s.incarnations p incarnation })
session_stands s g p x incarnation is low unsaved value = subst (λ y. IsSession (record s { guide = y; incarnations = slice_set s.incarnations p incarnation })) (sym value) (record {
  steps = is.steps;
  incarnations = length-set s.incarnations p incarnation ∙ is.incarnations;
  few = few;
  room = is.room;
  saved = saved;
})
  where
    few : (r : ℕ) → slice_index (slice_set s.incarnations p incarnation) r ≤ s.guide.told
    few r = ⊎_elim
        (λ own. ⊎_elim
        (λ lt. let e = get_or-set_same s.incarnations p incarnation 0 lt in subst (λ q. slice_index (slice_set s.incarnations p incarnation) q ≤ s.guide.told) (sym own) (omega (arith, e, low)))
        (λ le. let e = get_or_past (slice_set s.incarnations p incarnation) r 0 (let l = length-set s.incarnations p incarnation in omega (arith, l, le, own)) in omega (arith, e))
        (cases_lt p (length s.incarnations)))
        (λ other. let e = get_or-set_other s.incarnations p r incarnation 0 other in let f = is.few r in omega (arith, e, f))
        (cases_eq r p)

    saved : HaveMade (with_standing s.guide p x) s.saves
    saved r lt = ⊎_elim
        (λ own. subst (All (λ c. c ≤ made_in (with_standing s.guide p x) r)) (sym (subst (λ q. told_of s.saves q ≡ []) (sym own) unsaved)) (All-nil (λ c. c ≤ made_in (with_standing s.guide p x) r)))
        (λ other. subst (λ n. All (λ c. c ≤ n) (told_of s.saves r)) (same other) (is.saved r lt))
        (cases_eq r p)
      where
        same : (r ≡ p → ⊥) → made_in s.guide r ≡ made_in (with_standing s.guide p x) r
        same other = ap (λ (n : Numbers). n.forgotten + (length (log_at s.guide.logs r) - n.seeds)) (sym (get_or-set_other s.guide.numbers p r (numbers_of x) at_start other))

-- What follows from success and from failure follows.
pub either_way : {T E : Type 0} (P Q R : Type 0) (result : Result T E) → (P → R) → (Q → R) → OnOk result P → OnErr result Q → R
either_way P Q R (Ok x) f g p q = f p
either_way P Q R (Err e) f g p q = g q
