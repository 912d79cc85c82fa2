-- Lists of roles with what they keep.
use Rattle.std.proofs.Common.{◌≡◌, ◌∙◌, ◌+◌, ◌<◌, ◌≤◌, ℕ, suc, Bool, true, false, cond, List, [], ◌∷◌, ◌++◌, flat_map, length, Option, Some, None, Result, Ok, refl, sym, ap, subst, arith, append_assoc, append-nil, length-append}
use Rattle.std.specs.Prelude.{nat_lt}
use Rattle.std.proofs.lemmas.Bool.Decides.{nat_tests}
use Rattle.rcv_model.specs.Names.{AreDifferent}
use Rattle.rcv_accept.specs.Accepted.{AcceptedView, roles_of}
use Rattle.rcv_dialogue.specs.declared.few.Kept.{Kept}
use Rattle.rcv_dialogue.specs.declared.words.Misfit.{Misfit}
use Rattle.rcv_dialogue.specs.declared.wrong.Expected.TheVariants as expected
use Rattle.rcv_dialogue.specs.Lines.{AreKeptFrom, Fits, IsRole, kept_words}
use Rattle.rcv_dialogue.specs.Names.{role_in}
use Rattle.rcv_dialogue.specs.Numbers.{number_in}
use Rattle.rcv_dialogue.specs.Reading.{◌>>=◌, Words, are_before, cuts_at, next_if, said, wrong}
use Rattle.rcv_dialogue.proofs.Failing.{room_for}
use Rattle.rcv_dialogue.proofs.Naming.{role_again, role_takes}
use Rattle.rcv_dialogue.proofs.Numerals.{are_both, both_so, number_again, number_takes}
use Rattle.rcv_dialogue.proofs.Steps.{bind_ok, ok_is}

-- ---- order

kept_end : (a : AcceptedView) (least : ℕ) (found : List Kept) (k : Kept) → AreKeptFrom a least found → are_before k.role found ≡ true → least ≤ k.role → IsRole a k.role → Fits k.count
    → AreKeptFrom a least (found ++ k ∷ [])
kept_end a least [] k are before low role fits = (low, role, fits, tt)
kept_end a least (g ∷ found) k are before low role fits =
    let b = both_so (nat_lt g.role k.role) (are_before k.role found) before in
    let test = b.0 in
    let above : g.role + 1 ≤ k.role = grind (arith, nat_tests) in
    (are.0, are.1, are.2, kept_end a (g.role + 1) found k are.3 b.1 above role fits)

at_least : (a : AcceptedView) (least : ℕ) (found : List Kept) (k : Kept) (more : List Kept) → AreKeptFrom a least (found ++ k ∷ more) → least ≤ k.role
at_least a least [] k more are = are.0
at_least a least (g ∷ found) k more are = let up = at_least a (g.role + 1) found k more are.3 in omega (arith, up, are.0)

before_so : (a : AcceptedView) (least : ℕ) (found : List Kept) (k : Kept) (more : List Kept) → AreKeptFrom a least (found ++ k ∷ more) → are_before k.role found ≡ true
before_so a least [] k more are = refl
before_so a least (g ∷ found) k more are =
    let up = at_least a (g.role + 1) found k more are.3 in
    let below : nat_lt g.role k.role ≡ true = grind (arith, nat_tests) in
    are_both (nat_lt g.role k.role) (are_before k.role found) below (before_so a (g.role + 1) found k more are.3)

fits_at : (a : AcceptedView) (least : ℕ) (found : List Kept) (k : Kept) (more : List Kept) → AreKeptFrom a least (found ++ k ∷ more) → IsRole a k.role × Fits k.count
fits_at a least [] k more are = (are.1, are.2)
fits_at a least (g ∷ found) k more are = fits_at a (g.role + 1) found k more are.3

-- ---- one

record Next (found : List Kept) (o : Option ℕ) (r : ℕ) : Type 0 where
  pub read : o ≡ Some r
  pub before : are_before r found ≡ true

next_ok : (left : Words) (found : List Kept) (o : Option ℕ) (r : ℕ) → next_if left found o ≡ Ok r → Next found o r
next_ok left found None r is = absurd cc
next_ok left found (Some x) r is = go (are_before x found) refl is
  where
    go : (b : Bool) → are_before x found ≡ b → cond b (Ok x) (wrong left expected.Role) ≡ Ok r → Next found (Some x) r
    go true so is =
        let same = ok_is x r is in
        record { read = ap (λ y. Some y) same; before = subst (λ y. are_before y found ≡ true) same so }
    go false so is = absurd cc

count_ok : (left : Words) (o : Option ℕ) (n : ℕ) → said left expected.Count o ≡ Ok n → o ≡ Some n
count_ok left None n is = absurd cc
count_ok left (Some m) n is = ap (λ y. Some y) (ok_is m n is)

-- ---- several

pub record Listed (a : AcceptedView) (found : List Kept) (left : Words) (all : List Kept) : Type 0 where
  pub more : List Kept
  pub all_is : all ≡ found ++ more
  pub words : left ≡ flat_map (kept_words a) more
  pub kept : AreKeptFrom a 0 all
  pub few : length all ≤ roles_of a

module _ (a : AcceptedView) (all : List Kept) where
  abbrev Later : Words → Type 0
  Later ws = (found : List Kept) → AreKeptFrom a 0 found → length found ≤ roles_of a → cuts_at a found None ws ≡ Ok all → Listed a found ws all

  cuts_step : (found : List Kept) (w c : List ℕ) (ws : Words) → AreKeptFrom a 0 found → length found < roles_of a → Later ws
      → (r n : ℕ) → Next found (role_in a w) r → number_in c ≡ Some n → cuts_at a (found ++ (record { role = r; count = n }) ∷ []) None ws ≡ Ok all → Listed a found (w ∷ c ∷ ws) all
  cuts_step found w c ws are room later r n next number is =
      let k : Kept = record { role = r; count = n } in
      let t = role_takes a w r next.read in
      let m = number_takes c n number in
      let long : length (found ++ k ∷ []) ≡ length found + 1 = length-append found (k ∷ []) in
      let g = later (found ++ k ∷ []) (kept_end a 0 found k are next.before (omega arith) t.0 m.1) (omega (arith, long, room)) is in
      record {
        more = k ∷ g.more;
        all_is = g.all_is ∙ append_assoc found (k ∷ []) g.more;
        words = λ i. t.1 i ∷ m.0 i ∷ g.words i;
        kept = g.kept;
        few = g.few;
      }

pub cuts_takes : (a : AcceptedView) (found : List Kept) (left : Words) (all : List Kept) → AreKeptFrom a 0 found → length found ≤ roles_of a → cuts_at a found None left ≡ Ok all → Listed a found left all
unfolding cuts_at
cuts_takes a found [] all are few is =
    let same = ok_is found all is in
    record {
      more = [];
      all_is = sym same ∙ sym (append-nil found);
      words = refl;
      kept = subst (AreKeptFrom a 0) same are;
      few = subst (λ xs. length xs ≤ roles_of a) same few;
    }
cuts_takes a found (w ∷ []) all are few is =
    let room = room_for a (length found) (w ∷ []) (next_if (w ∷ []) found (role_in a w) >>= λ r. wrong [] expected.Count) all is in
    let b = bind_ok (next_if (w ∷ []) found (role_in a w)) (λ r. wrong [] expected.Count) all room.1 in
    absurd (let never = b.2 in cc)
cuts_takes a found (w ∷ c ∷ ws) all are few is =
    let counted : ℕ → Result (List Kept) Misfit = λ r. said (c ∷ ws) expected.Count (number_in c) >>= λ n. cuts_at a (found ++ (record { role = r; count = n }) ∷ []) None ws in
    let room = room_for a (length found) (w ∷ c ∷ ws) (next_if (w ∷ c ∷ ws) found (role_in a w) >>= counted) all is in
    let b0 = bind_ok (next_if (w ∷ c ∷ ws) found (role_in a w)) counted all room.1 in
    let r = b0.0 in
    let b1 = bind_ok (said (c ∷ ws) expected.Count (number_in c)) (λ n. cuts_at a (found ++ (record { role = r; count = n }) ∷ []) None ws) all b0.2 in
    cuts_step a all found w c ws are room.0 (λ found are few is. cuts_takes a found ws all are few is) r b1.0 (next_ok (w ∷ c ∷ ws) found (role_in a w) r b0.1) (count_ok (c ∷ ws) (number_in c) b1.0 b1.1) b1.2

pub cuts_again : (a : AcceptedView) → AreDifferent a.protocol.roles → (found more : List Kept) → AreKeptFrom a 0 (found ++ more) → length (found ++ more) ≤ roles_of a
    → cuts_at a found None (flat_map (kept_words a) more) ≡ Ok (found ++ more)
unfolding cuts_at
cuts_again a differ found [] are few = ap (λ (xs : List Kept). Ok xs) (sym (append-nil found))
cuts_again a differ found (k ∷ more) are few =
    let f = fits_at a 0 found k more are in
    let long : length (found ++ k ∷ more) ≡ length found + suc (length more) = length-append found (k ∷ more) in
    let room : nat_lt (length found) (roles_of a) ≡ true = grind (arith, nat_tests) in
    let regroup : (found ++ k ∷ []) ++ more ≡ found ++ k ∷ more = append_assoc found (k ∷ []) more in
    let later = cuts_again a differ (found ++ k ∷ []) more (subst (AreKeptFrom a 0) (sym regroup) are) (subst (λ xs. length xs ≤ roles_of a) (sym regroup) few) in
    rw (room, role_again a k.role differ f.0, before_so a 0 found k more are, number_again k.count f.1) (later ∙ ap (λ (xs : List Kept). Ok xs) regroup)
