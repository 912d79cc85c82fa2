-- A short input whose journal isn't JSON is said the same as a replay.
use Rattle.std.proofs.Common.{◌≡◌, ℕ, ◌+◌, ◌≤◌, suc, Bool, true, false, Some, None, Option, List, [], ◌∷◌, length, inl, inr, sym, ap, ⊎_elim, arith}
use Rattle.std.specs.Prelude.{◌==◌, option_map}
use Rattle.std.proofs.lemmas.Option.{none-some, same_Some}
use Rattle.rcv_session.specs.Session.{SessionView}
use Rattle.rcv_replay.specs.declared.cut.Cut.{Cut}
use Rattle.rcv_replay.specs.declared.replayed.Replayed.{Replayed}
use Rattle.rcv_replay.specs.Cutting.{cut_at, here, or_else, first_from, cut_of, bundle_of, journal_of, feeds_before}
use Rattle.rcv_replay.specs.Replaying.{IsReplay}
use Rattle.rcv_replay.specs.Replaying as replaying
use Rattle.rcv_diagnosis.specs.Diagnosing.{is_json, IsOfInput, IsOfBundle, IsOfText, IsOfLines}
use Rattle.rcv_diagnosis.specs.Laws.{DiagnosesAreReplays}
use Rattle.rcv_diagnosis.proofs.Saying.{says_more}

-- a cut lies within its text
here_within : (fresh : Bool) (place : ℕ) (text : List ℕ) (cut : Cut) → here fresh place text ≡ Some cut → cut.end ≡ place
here_within false place text cut is = absurd (none-some cut is)
here_within true place text cut is = go _ is
  where
    go : (len : Option ℕ) → option_map (cut_at place) len ≡ Some cut → cut.end ≡ place
    go None is = absurd (none-some cut is)
    go (Some n) is = sym (ap (λ (c : Cut). c.end) (same_Some (cut_at place n) cut is))

first_within : (fresh : Bool) (place : ℕ) (text : List ℕ) (cut : Cut) → first_from fresh place text ≡ Some cut → cut.end ≤ place + length text
first_within fresh place [] cut is = absurd (none-some cut is)
first_within fresh place (b ∷ bs) cut is = go (here fresh place (b ∷ bs)) (here_within fresh place (b ∷ bs) cut) (first_within (b == 10) (place + 1) bs cut) is
  where
    go : (found : Option Cut) → (found ≡ Some cut → cut.end ≡ place) → (first_from (b == 10) (place + 1) bs ≡ Some cut → cut.end ≤ place + 1 + length bs) → or_else found (first_from (b == 10) (place + 1) bs) ≡ Some cut → cut.end ≤ place + suc (length bs)
    go None at more is = let le = more is in omega (arith, le)
    go (Some c) at more is = let e = at is in omega (arith, e)

-- what is said of lines
lines_said : (session : SessionView) (text : List ℕ) (feeds : ℕ) (said : Replayed) (more : List ℕ) → IsOfLines session text feeds said more → replaying.IsOfText session text feeds said
lines_said session text feeds said more is = ⊎_elim
    (λ wrong. inl (wrong.0, wrong.2.0, wrong.1))
    (λ formed. inr (formed.0, formed.1, formed.2.0))
    is

text_said : (b : Bool) (session : SessionView) (text : List ℕ) (feeds : ℕ) (said : Replayed) (more : List ℕ) → b ≡ false → IsOfText b session text feeds said more → replaying.IsOfText session text feeds said
text_said false session text feeds said more other is = lines_said session text feeds said more is
text_said true session text feeds said more other is = absurd (cc)

bundle_said : (bundle text : List ℕ) (feeds : ℕ) (said : Replayed) (more : List ℕ) → is_json text ≡ false → IsOfBundle bundle text feeds said more → replaying.IsOfBundle bundle text feeds said
bundle_said bundle text feeds said more other is = ⊎_elim
    (λ refused. inl (refused.0, refused.2.0, refused.1))
    (λ taken. inr (taken.0, taken.1, text_said (is_json text) taken.0 text feeds said more other taken.2))
    is

input_said : (input : List ℕ) (said : Replayed) (more : List ℕ) → ((cut : Cut) → cut_of input ≡ Some cut → is_json (journal_of input cut) ≡ false) → IsOfInput input said more → IsReplay input said
input_said input said more other is = ⊎_elim
    (λ uncut. inl (uncut.0, uncut.1.0))
    (λ parted. inr (parted.0, parted.1, bundle_said (bundle_of input parted.0) (journal_of input parted.0) (feeds_before input parted.0) said more (other parted.0 parted.1) parted.3))
    is

pub diagnoses_are_replays : DiagnosesAreReplays
diagnoses_are_replays input finding bytes short other is = ⊎_elim
    (λ long. let within = first_within true 0 input long.0 long.1 in let over = long.2 in absurd (omega (arith, within, over, short)))
    (λ says. says_more (IsOfInput input) (λ said more. IsReplay input said) (λ said more of. input_said input said more other of) finding bytes says)
    is
