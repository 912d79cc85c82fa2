-- Roles that fail in turn.
use Rattle.std.proofs.Common.{◌≡◌, ℕ, ◌+◌, ◌*◌, ◌<◌, ◌≤◌, true, false, cond, List, [], ◌∷◌, ◌++◌, length, refl, sym, ◌∙◌, ap, ap₂, subst, append_assoc, append-nil, arith}
use Rattle.std.specs.Prelude.{◌||◌, ◌==◌, IfSome}
use Rattle.std.proofs.lemmas.List.Folds.{list_any-append}
use Rattle.rcv_tree.specs.declared.protocol.Protocol.{Protocol}
use Rattle.rcv_model.specs.Plan.{PlanLine, host_in}
use Rattle.rcv_model.specs.Text.{body_of}
use Rattle.rcv_model.specs.Places.{net_of}
use Rattle.rcv_plan.specs.Plans.{IsGroup}
use Rattle.rcv_tree.specs.Bits.{has_bit, is_listed}
use Rattle.rcv_tree.specs.declared.entry.Entry.{Entry}
use Rattle.rcv_told.specs.Told.{Terms, group_of}
use Rattle.rcv_guide.specs.declared.recovery.Recovery.{Recovery}
use Rattle.rcv_guide.specs.Guide.{terms_of}
use Rattle.rcv_guide.specs.History.{HasHistory}
use Rattle.rcv_dialogue.specs.declared.few.Failed.{Failed}
use Rattle.rcv_guided.specs.declared.taken.Taken.{Taken}
use Rattle.rcv_guided.specs.Session.{SessionView, roles_in}
use Rattle.rcv_guided.specs.Histories.{GoesOnBy}
use Rattle.rcv_guided.specs.Failures.{told_count, FailsOnce, entries_of, in_turn, FailInTurn}
use Rattle.rcv_guided.specs.Taking.{AreEnough, HasRoomFor, IsStill, IsTaken, HaveTaken}
use Rattle.rcv_guided.proofs.Counting.{one_taken}

-- What is left of the told roles, where these went back, goes on to all of them: behind these recoveries and entries.
abbrev pub GoesOn : SessionView → List Failed → List Failed → List ℕ → List Recovery → List Entry → SessionView → Type 0
GoesOn start failed left gone backs entries now =
    (more : List Recovery) (rest : List Entry) (new : SessionView) → FailInTurn failed (in_turn (terms_of now.guide) gone left) now more rest new
    → FailInTurn failed (in_turn (terms_of start.guide) [] failed) start (backs ++ more) (entries ++ rest) new

pub at_first : (start : SessionView) (failed : List Failed) → GoesOn start failed failed [] [] [] start
at_first start failed more rest new it = it

pub skipped : (start now : SessionView) (failed left : List Failed) (f : Failed) (gone : List ℕ) (backs : List Recovery) (entries : List Entry)
    → is_listed gone f.role ≡ true → GoesOn start failed (f ∷ left) gone backs entries now → GoesOn start failed left gone backs entries now
skipped start now failed left f gone backs entries e on more rest new it =
    on more rest new
    (subst (λ roles. FailInTurn failed roles now more rest new)
    (sym (ap (λ b. cond b (in_turn (terms_of now.guide) gone left) (f.role ∷ in_turn (terms_of now.guide) (gone ++ group_of (terms_of now.guide) f.role) left)) e)) it)

pub failed_one : (start now next : SessionView) (failed left : List Failed) (f : Failed) (gone : List ℕ) (backs : List Recovery) (entries : List Entry) (back : Recovery)
    → is_listed gone f.role ≡ false → FailsOnce failed f.role now back next → terms_of next.guide ≡ terms_of now.guide → GoesOn start failed (f ∷ left) gone backs entries now
    → GoesOn start failed left (gone ++ group_of (terms_of now.guide) f.role) (backs ++ back ∷ []) (entries ++ entries_of now.guide f.role back) next
failed_one start now next failed left f gone backs entries back e once same on more rest new it =
    let here : FailInTurn failed (in_turn (terms_of now.guide) (gone ++ group_of (terms_of now.guide) f.role) left) next more rest new =
    subst (λ (t : Terms). FailInTurn failed (in_turn t (gone ++ group_of (terms_of now.guide) f.role) left) next more rest new) same it in
    let all : FailInTurn failed (f.role ∷ in_turn (terms_of now.guide) (gone ++ group_of (terms_of now.guide) f.role) left) now (back ∷ more) (entries_of now.guide f.role back ++ rest) new =
    (next, rest, once, here, refl) in
    let told = on (back ∷ more) (entries_of now.guide f.role back ++ rest) new
    (subst (λ roles. FailInTurn failed roles now (back ∷ more) (entries_of now.guide f.role back ++ rest) new)
    (sym (ap (λ b. cond b (in_turn (terms_of now.guide) gone left) (f.role ∷ in_turn (terms_of now.guide) (gone ++ group_of (terms_of now.guide) f.role) left)) e)) all) in
    subst (λ bs. FailInTurn failed (in_turn (terms_of start.guide) [] failed) start bs ((entries ++ entries_of now.guide f.role back) ++ rest) new) (sym (append_assoc backs (back ∷ []) more))
    (subst (λ es. FailInTurn failed (in_turn (terms_of start.guide) [] failed) start (backs ++ back ∷ more) es new) (sym (append_assoc entries (entries_of now.guide f.role back) rest)) told)

-- None is left.
pub at_last : (start now : SessionView) (failed : List Failed) (gone : List ℕ) (backs : List Recovery) (entries : List Entry) → GoesOn start failed [] gone backs entries now
    → FailInTurn failed (in_turn (terms_of start.guide) [] failed) start backs entries now
at_last start now failed gone backs entries on =
    subst (λ bs. FailInTurn failed (in_turn (terms_of start.guide) [] failed) start bs entries now) (append-nil backs)
    (subst (λ es. FailInTurn failed (in_turn (terms_of start.guide) [] failed) start (backs ++ []) es now) (append-nil entries) (on [] [] now (refl, refl)))

-- Some of the told roles have failed, and these are left.
pub record Going (start : SessionView) (failed left : List Failed) (bits : ℕ) (taken : Taken) (now : SessionView) : Type 0 where
  pub gone : List ℕ
  pub gone_is : (r : ℕ) → r < 8 → has_bit bits r ≡ is_listed gone r
  pub backs : List Recovery
  pub entries : List Entry
  pub goes_on : GoesOn start failed left gone backs entries now
  pub taken_is : IsTaken backs taken
  pub history : GoesOnBy start entries now
  pub protocol : now.guide.protocol ≡ start.guide.protocol
  pub plan : now.guide.plan ≡ start.guide.plan
  pub enough : AreEnough now failed
  pub room : HasRoomFor now (2 * length left)

-- None has failed.
pub not_yet : (start : SessionView) (failed : List Failed) (bits : ℕ) (taken : Taken) → ((r : ℕ) → r < 8 → has_bit bits r ≡ false) → IsTaken [] taken → GoesOnBy start [] start → AreEnough start failed → HasRoomFor start (2 * length failed)
    → Going start failed failed bits taken start
not_yet start failed bits taken none is same enough room = record {
  gone = [];
  gone_is = none;
  backs = [];
  entries = [];
  goes_on = at_first start failed;
  taken_is = is;
  history = same;
  protocol = refl;
  plan = refl;
  enough = enough;
  room = room;
}

-- The next one went back with one before it.
pub skips : (start now : SessionView) (failed left : List Failed) (f : Failed) (bits : ℕ) (taken : Taken) → f.role < 8 → has_bit bits f.role ≡ true → Going start failed (f ∷ left) bits taken now → Going start failed left bits taken now
skips start now failed left f bits taken low has going = record {
  gone = going.gone;
  gone_is = going.gone_is;
  backs = going.backs;
  entries = going.entries;
  goes_on = skipped start now failed left f going.gone going.backs going.entries (sym (going.gone_is f.role low) ∙ has) going.goes_on;
  taken_is = going.taken_is;
  history = going.history;
  protocol = going.protocol;
  plan = going.plan;
  enough = going.enough;
  room = let room = going.room in omega (arith, room);
}

-- The same terms.
pub same_terms : (old new : SessionView) → new.guide.protocol ≡ old.guide.protocol → new.guide.plan ≡ old.guide.plan → terms_of new.guide ≡ terms_of old.guide
same_terms old new protocol plan =
    ap₂ (λ (p : Protocol) (lines : List PlanLine). record { net = net_of (body_of p.body); roles = length p.roles; host = host_in lines }) protocol plan

-- One history behind the other.
pub behind : (start now next : SessionView) (one two : List Entry) → GoesOnBy start one now → GoesOnBy now two next → GoesOnBy start (one ++ two) next
behind start now next one two first second history has =
    subst (λ (h : List Entry). HasHistory next.guide h) (append_assoc history one two) (second (history ++ one) (first history has))

-- What reaches the same counts.
still_enough : (old new : SessionView) (count : ℕ) (failed : List Failed) → IsStill old new count → AreEnough old failed → AreEnough new failed
still_enough old new count failed still enough r lt =
    let declared : r < roles_in old = (let same = ap (λ (p : Protocol). length p.roles) still.protocol in omega (arith, same, lt)) in
    subst (λ n. IfSome (told_count failed r) (λ told. n ≤ told)) (sym (still.forgotten r declared)) (enough r declared)

-- The next one fails.
pub fails : (start now next : SessionView) (failed left : List Failed) (f : Failed) (bits group more : ℕ) (taken new : Taken) (back : Recovery) → f.role < 8 → has_bit bits f.role ≡ false
    → IsGroup now.guide.plan f.role group → ((r : ℕ) → r < 8 → has_bit more r ≡ (has_bit bits r || has_bit group r))
    → FailsOnce failed f.role now back next → IsStill now next 2 → GoesOnBy now (entries_of now.guide f.role back) next
    → new.undone ≡ taken.undone + back.undone → ((r : ℕ) → r < 8 → has_bit new.concerned.0 r ≡ (has_bit taken.concerned.0 r || has_bit back.concerned.0 r))
    → Going start failed (f ∷ left) bits taken now → Going start failed left more new next
fails start now next failed left f bits group more taken new back low free is_group both once still history undone concerned going = record {
  gone = going.gone ++ group_of (terms_of now.guide) f.role;
  gone_is = λ r lt.
      both r lt
      ∙ ap₂ (λ b c. b || c) (going.gone_is r lt) (is_group r lt)
      ∙ sym (list_any-append (λ q. q == r) going.gone (group_of (terms_of now.guide) f.role));
  backs = going.backs ++ back ∷ [];
  entries = going.entries ++ entries_of now.guide f.role back;
  goes_on = failed_one start now next failed left f going.gone going.backs going.entries back (sym (going.gone_is f.role low) ∙ free) once (same_terms now next still.protocol still.plan) going.goes_on;
  taken_is = one_taken going.backs back taken new going.taken_is undone concerned;
  history = behind start now next going.entries (entries_of now.guide f.role back) going.history history;
  protocol = still.protocol ∙ going.protocol;
  plan = still.plan ∙ going.plan;
  enough = still_enough now next 2 failed still going.enough;
  room = let room = going.room in let told = still.told in omega (arith, room, told);
}

-- All have failed.
pub have_taken : (start now : SessionView) (failed : List Failed) (bits : ℕ) (taken : Taken) → Going start failed [] bits taken now → HaveTaken start failed taken now
have_taken start now failed bits taken going = record {
  backs = going.backs;
  entries = going.entries;
  fail = at_last start now failed going.gone going.backs going.entries going.goes_on;
  taken_is = going.taken_is;
  history = going.history;
  protocol = going.protocol;
}
