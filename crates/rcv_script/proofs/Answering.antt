-- The machine's answer is by grammar and table.
use Rattle.std.proofs.Common.{◌≡◌, ℕ, ◌<◌, List, [], ◌∷◌, ◌++◌, refl, sym, ap, subst, ◌∙◌, append_assoc, append-nil, arith, inl, inr, None}
use Rattle.rcv_points.specs.Follow.{PointView}
use Rattle.rcv_script.specs.declared.fault.Fault.{Fault}
use Rattle.rcv_script.specs.declared.fault.Fault.TheVariants as faults
use Rattle.rcv_script.specs.Symbols.{Symbol}
use Rattle.rcv_script.specs.Grammar.{NoAtom, NoProduct, IsDerived, IsBeginning}
use Rattle.rcv_script.specs.Meaning.{no_lines, scripts_say}
use Rattle.rcv_script.specs.Refusals.{code_of, backward, HoldsAt, IsFree, IsFirst, AreRead}
use Rattle.rcv_script.specs.Laws.{IsAnswered}
use Rattle.rcv_script.specs.Machine.{Item, Scripts, Factors, Terms, Outcome, On, Wrong, Answer, Taken, Refuses, step}
use Rattle.rcv_script.specs.Machine.{at_end, after, answer, awaited, reading}
use Rattle.rcv_script.proofs.Least.{Frame, Speaks, least_code, holds, none_lesser}
use Rattle.rcv_script.proofs.Knowing.{Told, ToldBy}
use Rattle.rcv_script.proofs.Deriving.{AllLines, Derives, completion}
use Rattle.rcv_script.proofs.Agreeing.{Agrees, agrees}
use Rattle.rcv_script.proofs.Lining.{scripts_told}

-- ---- symbols, the nearest first

turned : (back ts : List Symbol) → backward back ts ≡ backward back [] ++ ts
turned [] ts = refl
turned (t ∷ back) ts = turned back (t ∷ ts)
    ∙ sym (append_assoc (backward back []) (t ∷ []) ts) ∙ ap (λ (z : List Symbol). z ++ ts) (sym (turned back (t ∷ [])))

twice : (back ts : List Symbol) → backward (backward back ts) [] ≡ backward ts back
twice [] ts = refl
twice (t ∷ back) ts = twice back (t ∷ ts)

joined : (front ts back : List Symbol) → backward (front ++ ts) back ≡ backward ts (backward front back)
joined [] ts back = refl
joined (t ∷ front) ts back = joined front ts (t ∷ back)

module _ (roles : List (List ℕ)) (messages : List PointView) where
  abbrev frame : Frame
  frame = record { roles = roles; messages = messages }

  abbrev start : Item
  start = awaited roles messages

  -- no code from 31 on holds at any of these symbols
  abbrev NoneIn : List Symbol → Type 0
  NoneIn [] = Unit {0}
  NoneIn (t ∷ back) = Speaks frame None back t × NoneIn back

  none_behind : (ts back : List Symbol) → NoneIn (backward ts back) → NoneIn back
  none_behind [] back h = h
  none_behind (t ∷ ts) back h = (none_behind ts (t ∷ back) h).1

  -- where the grammar has the symbol, no code holds that is less than the least one
  none_below : (front : List Symbol) (t : Symbol) (others left : List Symbol) (c : ℕ) → IsDerived (front ++ t ∷ others)
      → least_code frame (backward front []) t ≡ c → (f : Fault) → code_of f < c
      → HoldsAt roles messages f front (t ∷ left) → ⊥
  none_below front t others left c d is faults.Token less h =
      h.1 (others, subst IsDerived (sym (append_assoc front (t ∷ []) others)) d)
  none_below front t others left c d is f less h =
      let upto = none_lesser frame f (backward front []) t h in omega (arith, is, less, upto)

  none_before : (back : List Symbol) → NoneIn back → IsBeginning (backward back []) → (f : Fault) (front : List Symbol) (t : Symbol)
      → (others left : List Symbol) → backward back [] ≡ front ++ t ∷ others → HoldsAt roles messages f front (t ∷ left) → ⊥
  none_before back none b f front t others left e h =
      let d = subst IsDerived (ap (λ (z : List Symbol). z ++ b.0) e ∙ append_assoc front (t ∷ others) b.0) b.1 in
      let same = sym (twice back []) ∙ ap (λ (z : List Symbol). backward z []) e ∙ joined front (t ∷ others) [] in
      let here = (none_behind others (t ∷ backward front []) (subst NoneIn same none)).0 in
      none_below front t (others ++ b.0) left 37 d here f (grind arith) h

  -- the machine came to this item behind these symbols
  record Reached (i : Item) (back : List Symbol) : Type 0 where
    pub sound : (ts : List Symbol) (ss : AllLines) → Derives i ts ss → Derives start (backward back ts) ss
    pub told : (ts : List Symbol) (ss : AllLines) → Derives start (backward back ts) ss → Told frame i back ts ss
    pub none : NoneIn back

  begins : (i : Item) (back : List Symbol) → Reached i back → IsBeginning (backward back [])
  begins i back r = let c = completion i in let d = r.sound c.0 c.1 c.2 in (c.0, (d.0, sym (turned back c.0) ∙ d.1))

  abbrev Result : List Symbol → Answer → Type 0
  Result symbols (Taken ss) = AreRead roles messages symbols ss × ((others : AllLines) → Derives start symbols others → others ≡ ss)
  Result symbols (Refuses f left) = IsFirst roles messages symbols f left

  -- the symbols are over
  ended : (i : Item) (back : List Symbol) → NoneIn back → IsBeginning (backward back [])
      → ((ss : AllLines) → Derives i [] ss → Derives start (backward back []) ss)
      → ((ss : AllLines) → Derives start (backward back []) ss → at_end i ≡ Taken ss) → Result (backward back []) (at_end i)
  ended (Scripts known) back none b sound told = let d = sound known.scripts ([], refl, refl) in
      (record { written = d.0; derived = d.1; free = free; said = d.2 }, λ others t. let same = told others t in cc)
    where
      free : IsFree roles messages (backward back [])
      free faults.Token front [] e h =
          let d = sound known.scripts ([], refl, refl) in h.1 (subst IsDerived (e ∙ append-nil front) (d.0, d.1))
      free _ front [] e h = h
      free f front (t ∷ ts) e h = none_before back none b f front t ts ts e h
  ended (Factors p left k) back none b sound told = ended (k left) back none b (λ ss d. sound ss (NoAtom, [], refl, d)) told
  ended (Terms p left k) back none b sound told = ended (k left) back none b (λ ss d. sound ss (NoProduct, [], refl, d)) told
  ended _ back none b sound told = record {
    front = backward back [];
    cut = sym (append-nil (backward back []));
    holds = (b, λ d. let same = told (scripts_say roles (no_lines roles) d.0) (d.0, d.1, refl) in absurd cc);
    least = λ g less h. grind (arith, less);
    first = λ g before t others e h. none_before back none b g before t others (others ++ []) e h;
  }

  -- one symbol more
  abbrev Tells : Outcome → List Symbol → Symbol → Type 0
  Tells o back t = (ts : List Symbol) (ss : AllLines) → Derives start (backward (t ∷ back) ts) ss
      → ToldBy frame o back t (λ j. Told frame j (t ∷ back) ts ss)

  stops : (i : Item) (back : List Symbol) (t : Symbol) (ts : List Symbol) (f : Fault) → Reached i back
      → Tells (Wrong f) back t → Agrees (Wrong f) i t → HoldsAt roles messages f (backward back []) (t ∷ ts)
      × ((g : Fault) → code_of g < code_of f → HoldsAt roles messages g (backward back []) (t ∷ ts) → ⊥)
  stops i back t ts faults.Token r told a =
      let never : IsBeginning (backward back [] ++ t ∷ []) → ⊥ = λ c.
      let d = turned (t ∷ back) c.0 ∙ ap (λ (z : List Symbol). z ++ c.0) (turned back (t ∷ [])) ∙ c.1.1 in
      holds frame faults.Token back t (told c.0 (scripts_say roles (no_lines roles) c.1.0) (c.1.0, d, refl)) in
      ((begins i back r, never), λ g less h. grind (arith, less))
  stops i back t ts f r told a =
      let d = r.sound (t ∷ a.0) a.1 a.2 in
      let is = ap (λ (z : List Symbol). least_code frame z t) (twice back []) ∙ told a.0 a.1 d in
      let b : IsDerived (backward back [] ++ t ∷ a.0) = (d.0, sym (turned back (t ∷ a.0)) ∙ d.1) in
      (holds frame f (backward (backward back []) []) t is, none_below (backward back []) t a.0 ts (code_of f) b is)

  by_outcome : (i : Item) (back ts : List Symbol) (t : Symbol) (o : Outcome) → Reached i back → Tells o back t
      → Agrees o i t → ((j : Item) → Reached j (t ∷ back) → Result (backward back (t ∷ ts)) (answer j ts))
      → Result (backward back (t ∷ ts)) (after o (t ∷ ts) (λ j. answer j ts))
  by_outcome i back ts t (On j) r told a next = let c = completion j in next j (record {
    sound = λ ts ss d. r.sound (t ∷ ts) ss (a ts ss d);
    told = λ ts ss d. (told ts ss d).1;
    none = ((told c.0 c.1 (r.sound (t ∷ c.0) c.1 (a c.0 c.1 c.2))).0, r.none);
  })
  by_outcome i back ts t (Wrong f) r told a next = let h = stops i back t ts f r told a in record {
    front = backward back [];
    cut = turned back (t ∷ ts);
    holds = h.0;
    least = h.1;
    first = λ g before u others e' h'. none_before back r.none (begins i back r) g before u others (others ++ t ∷ ts) e' h';
  }

  result : (ts : List Symbol) (i : Item) (back : List Symbol) → Reached i back → Result (backward back ts) (answer i ts)
  result [] i back r = ended i back r.none (begins i back r) (r.sound []) (r.told [])
  result (t ∷ ts) i back r =
      by_outcome i back ts t (step i t) r (λ us. r.told (t ∷ us)) (agrees t i) (λ j. result ts j (t ∷ back))

  all_read : (symbols : List Symbol) → Result symbols (reading roles messages symbols)
  all_read symbols = result symbols start [] (record {
    sound = λ ts ss d. d;
    told = λ ts ss (ws, e, said). subst (λ (z : List Symbol). Told frame start [] z ss) (sym e) (scripts_told frame ss ws _ []
        (record { roles_are = refl; messages_are = refl; has = λ n r e. refl; fresh = refl; none = refl; closed = refl }) said);
    none = tt;
  })

  pub taken : (symbols : List Symbol) (ss : AllLines) → reading roles messages symbols ≡ Taken ss → AreRead roles messages symbols ss
  taken symbols ss e = let r = subst (Result symbols) e (all_read symbols) in r.0

  pub refused : (symbols : List Symbol) (f : Fault) (left : List Symbol) → reading roles messages symbols ≡ Refuses f left
      → IsFirst roles messages symbols f left
  refused symbols f left e = subst (Result symbols) e (all_read symbols)

  pub answered : (symbols : List Symbol) → IsAnswered roles messages symbols
  answered ts = elim (reading roles messages ts) as (λ a. Result ts a → IsAnswered roles messages ts)
      [ Taken ss ↦ λ r. inl (ss, r.0) | Refuses f left ↦ λ r. inr (f, left, r) ] (all_read ts)

  pub one_reading : (symbols : List Symbol) (ss others : AllLines) → AreRead roles messages symbols ss
      → AreRead roles messages symbols others → ss ≡ others
  one_reading symbols ss others r s = elim (reading roles messages symbols) as (λ a. Result symbols a → ss ≡ others) [
    | Taken _ ↦ λ h. h.1 ss (r.written, r.derived, r.said) ∙ sym (h.1 others (s.written, s.derived, s.said))
    | Refuses f left ↦ λ h. absurd (r.free f h.front left h.cut h.holds)
  ] (all_read symbols)

  -- no symbols are scripts without lines
  pub none_read : AreRead roles messages [] (no_lines roles)
  none_read = taken [] (no_lines roles) refl
