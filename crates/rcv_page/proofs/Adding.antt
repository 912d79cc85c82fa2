-- How a text goes on through a page.
use Rattle.std.proofs.Common.{◌≡◌, ℕ, ◌+◌, ◌<◌, ◌≤◌, Bool, true, false, List, [], ◌++◌, length, take, get_or, flat_map, Option, Some, None, refl, sym, ◌∙◌, ap, subst, arith, append_assoc, append-nil, length-append}
use Rattle.std.proofs.lemmas.List.{flat_map_more, take_more}
use Rattle.std.specs.Io.KnownBytes.{append_known}
use Rattle.rcv_io.specs.Causes.{Rose}
use Rattle.rcv_io.specs.Sink.{WroteBeginning}
use Rattle.rcv_page.specs.Page.{PageState, state, Broke, Carries, Adds}

append_more : (known : Option (List ℕ)) (a b : List ℕ) → append_known (append_known known a) b ≡ append_known known (a ++ b)
append_more None a b = refl
append_more (Some xs) a b = ap (λ (ys : List ℕ). Some ys) (append_assoc xs a b)

append_none : (known : Option (List ℕ)) → known ≡ append_known known []
append_none None = refl
append_none (Some xs) = ap (λ (ys : List ℕ). Some ys) (sym (append-nil xs))

-- the same text
pub as_text : (start : Option (List ℕ)) (before : ℕ) (s : PageState) (a b : List ℕ) → a ≡ b → Carries start before s a → Carries start before s b
as_text start before s a b same on = subst (λ (l : List ℕ). Carries start before s l) same on

-- the same bytes
pub adds_same : (s t : PageState) (a b : List ℕ) → a ≡ b → Adds s t a → Adds s t b
adds_same s t a b same adds = subst (λ (l : List ℕ). Adds s t l) same adds

-- nothing
pub adds_nothing : (s : PageState) → Adds s s []
adds_nothing s = record { goes_on = λ start before text on. as_text start before s text (text ++ []) (sym (append-nil text)) on }

-- one after another
pub then : {s t u : PageState} {a b : List ℕ} → Adds s t a → Adds t u b → Adds s u (a ++ b)
then {s} {t} {u} {a} {b} first second = record {
  goes_on = λ start before text on.
      as_text start before u ((text ++ a) ++ b) (text ++ (a ++ b)) (append_assoc text a b) (second.goes_on start before (text ++ a) (first.goes_on start before text on));
}

-- what was broken is so for a longer text
broke_more : (start : Option (List ℕ)) (before : ℕ) (s : PageState) (text more : List ℕ) → Broke start before s text → Broke start before s (text ++ more)
broke_more start before s text more broke = record {
  beginning = record {
    front = broke.beginning.front;
    back = broke.beginning.back ++ more;
    whole = sym (append_assoc broke.beginning.front broke.beginning.back more) ∙ ap (λ (l : List ℕ). l ++ more) broke.beginning.whole;
    missing = omega (arith, broke.beginning.missing, length-append broke.beginning.back more);
    written = broke.beginning.written;
  };
  later = broke.later;
  rose = broke.rose;
}

-- the page holds more
pub holds_more : (written : Option (List ℕ)) (faults : ℕ) (held more : List ℕ) (failed : Bool) → Adds (state written faults held failed) (state written faults (held ++ more) failed) more
holds_more written faults held more failed = record {
  goes_on = λ start before text on. record {
    waits = λ e.
        let waits = on.waits e in
        record {
          front = waits.front;
          whole = sym (append_assoc waits.front held more) ∙ ap (λ (l : List ℕ). l ++ more) waits.whole;
          written = waits.written;
          calm = waits.calm;
        };
    broke = λ e. let broke = on.broke e in record {
      beginning = (broke_more start before (state written faults held failed) text more broke).beginning;
      later = broke.later;
      rose = broke.rose;
    };
  };
}

-- all that the page held was written
pub all_written : (written now : Option (List ℕ)) (faults later : ℕ) (held : List ℕ) → now ≡ append_known written held → later ≡ faults
    → Adds (state written faults held false) (state now later [] false) []
all_written written now faults later held all fine = record {
  goes_on = λ start before text on. record {
    waits = λ e.
        let waits = on.waits refl in
        record {
          front = waits.front ++ held;
          whole = ap (λ (l : List ℕ). l ++ []) waits.whole;
          written = all ∙ ap (λ (o : Option (List ℕ)). append_known o held) waits.written ∙ append_more start waits.front held;
          calm = fine ∙ waits.calm;
        };
    broke = λ (e : false ≡ true). absurd (cc);
  };
}

-- a beginning of it was written
pub beginning_written : (written now : Option (List ℕ)) (faults later : ℕ) (held : List ℕ) → WroteBeginning written now held → faults ≤ later → Rose faults later
    → Adds (state written faults held false) (state now later [] true) []
beginning_written written now faults later held some risen rose = record {
  goes_on = λ start before text on. record {
    waits = λ (e : true ≡ false). absurd (cc);
    broke = λ e.
        let waits = on.waits refl in
        record {
          beginning = record {
            front = waits.front ++ some.front;
            back = some.back;
            whole =
                append_assoc waits.front some.front some.back
                ∙ ap (λ (l : List ℕ). waits.front ++ l) some.whole
                ∙ waits.whole ∙ sym (append-nil text);
            missing = some.missing;
            written =
                some.written
                ∙ ap (λ (o : Option (List ℕ)). append_known o some.front) waits.written
                ∙ append_more start waits.front some.front;
          };
          later = subst (λ (n : ℕ). n ≤ later) waits.calm risen;
          rose = subst (λ (n : ℕ). Rose n later) waits.calm rose;
        };
  };
}

-- what comes behind a failed call is thrown away
pub thrown_away : (written : Option (List ℕ)) (faults : ℕ) (held : List ℕ) → Adds (state written faults held true) (state written faults [] true) []
thrown_away written faults held = record {
  goes_on = λ start before text on. record {
    waits = λ (e : true ≡ false). absurd (cc);
    broke = λ e. let broke = on.broke refl in record {
      beginning = (broke_more start before (state written faults held true) text [] broke).beginning;
      later = broke.later;
      rose = broke.rose;
    };
  };
}

-- a text begins on an empty page, in front of any sink
fresh : (start : Option (List ℕ)) (before : ℕ) → Carries start before (state start before [] false) []
fresh start before = record {
  waits = λ e. record { front = []; whole = refl; written = append_none start; calm = refl };
  broke = λ (e : false ≡ true). absurd (cc);
}

-- at the end the whole text was written
pub whole_written : (start now : Option (List ℕ)) (before faults : ℕ) (text : List ℕ) → Adds (state start before [] false) (state now faults [] false) text → (now ≡ append_known start text) × (faults ≡ before)
whole_written start now before faults text adds =
    let waits = (adds.goes_on start before [] (fresh start before)).waits refl in
    let all : waits.front ≡ text = sym (append-nil waits.front) ∙ waits.whole in
    (waits.written ∙ ap (append_known start) all, waits.calm)

-- or a beginning of it, since a call has failed
pub partly_written : (start now : Option (List ℕ)) (before faults : ℕ) (text : List ℕ) → Adds (state start before [] false) (state now faults [] true) text → Broke start before (state now faults [] true) text
partly_written start now before faults text adds = (adds.goes_on start before [] (fresh start before)).broke refl

-- what is said of one more item of a list
pub one_more : {X : Type 0} (said : X → List ℕ) (s t u : PageState) (xs : List X) (i : ℕ) (d : X) → i < length xs
    → Adds s t (flat_map said (take i xs)) → Adds t u (said (get_or xs i d)) → Adds s u (flat_map said (take (i + 1) xs))
one_more said s t u xs i d inside before here =
    let next = flat_map_more said [] (take i xs) (get_or xs i d) ∙ ap (flat_map said) (sym (take_more xs i d inside)) in
    adds_same s u _ _ next (then before here)
