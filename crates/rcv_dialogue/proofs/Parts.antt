-- What is read of some words are these words, and what they say is read again.
use Rattle.std.proofs.Common.{◌≡◌, ◌∙◌, ◌<◌, ◌≤◌, ◌^◌, ◌==◌, ℕ, ℤ, Bool, true, false, cond, List, [], ◌∷◌, ◌++◌, Option, Some, None, Result, Ok, FitsSigned, refl, sym, ap, subst, arith, append-nil, decimal, codes}
use Rattle.std.specs.Fmt.{signed_decimal}
use mir.Syntax.{w64}
use Rattle.std.proofs.lemmas.Bool.Decides.{nat_tests}
use Rattle.rcv_model.specs.Names.{AreDifferent}
use Rattle.rcv_accept.specs.Accepted.{AcceptedView, net_for}
use Rattle.rcv_dialogue.specs.declared.words.Misfit.{Misfit}
use Rattle.rcv_dialogue.specs.declared.wrong.Expected.{Expected}
use Rattle.rcv_dialogue.specs.declared.wrong.Expected.TheVariants as expected
use Rattle.rcv_dialogue.specs.Lines.{Fits, IsMessage, IsRole, MayFit, down_text, marked_word, message_words}
use Rattle.rcv_lines.proofs.Parses.{within}
use Rattle.rcv_dialogue.specs.Names.{name_of, place_in, point_said, role_in}
use Rattle.rcv_dialogue.specs.Numbers.{is_word, marked_in, number_in, signed_in}
use Rattle.rcv_dialogue.specs.Reading.{◌>>=◌, Words, begins, down_at, down_in, literal_at, marked_at, message_at, named_at, number_at, optional_at, place_at, point_at, role_at, value_at}
use Rattle.rcv_dialogue.proofs.Naming.{place_again, place_takes, point_again, point_takes, role_again, role_takes}
use Rattle.rcv_dialogue.proofs.Numerals.{is_within, marked_again, marked_takes, number_again, number_takes, same_word, signed_again, signed_takes}
use Rattle.rcv_dialogue.proofs.Steps.{bind_ok, literal_again, literal_takes, ok_is, one_again, one_takes}

-- ---- one word

pub role_at_takes : (a : AcceptedView) (left : Words) (r : ℕ) (rest : Words) → role_at a left ≡ Ok (r, rest) → IsRole a r × (left ≡ name_of a r ∷ rest)
unfolding role_at
role_at_takes a left r rest is =
    let o = one_takes (role_in a) expected.Role left r rest is in
    let t = role_takes a o.0 r o.2 in
    (t.0, o.1 ∙ ap (λ (w : List ℕ). w ∷ rest) t.1)

pub role_at_again : (a : AcceptedView) (r : ℕ) (rest : Words) → AreDifferent a.protocol.roles → IsRole a r → role_at a (name_of a r ∷ rest) ≡ Ok (r, rest)
unfolding role_at
role_at_again a r rest differ inside = one_again (role_in a) expected.Role (name_of a r) rest r (role_again a r differ inside)

pub number_at_takes : (e : Expected) (left : Words) (n : ℕ) (rest : Words) → number_at e left ≡ Ok (n, rest) → Fits n × (left ≡ decimal n ∷ rest)
unfolding number_at
number_at_takes e left n rest is =
    let o = one_takes number_in e left n rest is in
    let t = number_takes o.0 n o.2 in
    (t.1, o.1 ∙ ap (λ (w : List ℕ). w ∷ rest) t.0)

pub number_at_again : (e : Expected) (n : ℕ) (rest : Words) → Fits n → number_at e (decimal n ∷ rest) ≡ Ok (n, rest)
unfolding number_at
number_at_again e n rest fits = one_again number_in e (decimal n) rest n (number_again n fits)

pub marked_at_takes : (mark : ℕ) (e : Expected) (left : Words) (n : ℕ) (rest : Words) → marked_at mark e left ≡ Ok (n, rest) → Fits n × (left ≡ (mark ∷ decimal n) ∷ rest)
unfolding marked_at
marked_at_takes mark e left n rest is =
    let o = one_takes (marked_in mark) e left n rest is in
    let t = marked_takes mark o.0 n o.2 in
    (t.1, o.1 ∙ ap (λ (w : List ℕ). w ∷ rest) t.0)

pub marked_at_again : (mark : ℕ) (e : Expected) (n : ℕ) (rest : Words) → Fits n → marked_at mark e ((mark ∷ decimal n) ∷ rest) ≡ Ok (n, rest)
unfolding marked_at
marked_at_again mark e n rest fits = one_again (marked_in mark) e (mark ∷ decimal n) rest n (marked_again mark n fits)

pub place_at_takes : (a : AcceptedView) (left : Words) (p : ℕ) (rest : Words) → place_at a left ≡ Ok (p, rest) → (p ≤ (net_for a).count) × (left ≡ decimal p ∷ rest)
unfolding place_at
place_at_takes a left p rest is =
    let o = one_takes (place_in a) expected.Point left p rest is in
    let t = place_takes a o.0 p o.2 in
    (t.0, o.1 ∙ ap (λ (w : List ℕ). w ∷ rest) t.1)

pub place_at_again : (a : AcceptedView) (p : ℕ) (rest : Words) → p ≤ (net_for a).count → p < 2 ^ 64 → place_at a (decimal p ∷ rest) ≡ Ok (p, rest)
unfolding place_at
place_at_again a p rest last fits = one_again (place_in a) expected.Point (decimal p) rest p (place_again a p last fits)

down_takes : (w : List ℕ) (down : Bool) → down_in w ≡ Some down → w ≡ down_text down
down_takes w down is = go (is_word w (codes "up")) (is_word w (codes "down")) refl refl down is
  where
    go : (u d : Bool) → is_word w (codes "up") ≡ u → is_word w (codes "down") ≡ d → (x : Bool) → cond u (Some false) (cond d (Some true) None) ≡ Some x → w ≡ down_text x
    go true d up is-d true e = absurd cc
    go true d up is-d false e = same_word w (codes "up") up
    go false true up is-d true e = same_word w (codes "down") is-d
    go false true up is-d false e = absurd cc
    go false false up is-d x e = absurd cc

pub down_at_takes : (left : Words) (down : Bool) (rest : Words) → down_at left ≡ Ok (down, rest) → left ≡ down_text down ∷ rest
unfolding down_at
down_at_takes left down rest is =
    let o = one_takes down_in expected.Up left down rest is in
    o.1 ∙ ap (λ (w : List ℕ). w ∷ rest) (down_takes o.0 down o.2)

pub down_at_again : (down : Bool) (rest : Words) → down_at (down_text down ∷ rest) ≡ Ok (down, rest)
unfolding down_at
down_at_again true rest = refl
down_at_again false rest = refl

-- ---- several

pub named_at_takes : (text : List ℕ) (name e : Expected) (left : Words) (n : ℕ) (rest : Words) → named_at text name e left ≡ Ok (n, rest)
    → Fits n × (left ≡ text ∷ decimal n ∷ rest)
unfolding named_at
named_at_takes text name e left n rest is =
    let b = bind_ok (literal_at text name left) (λ begun. number_at e begun) (n, rest) is in
    let t = number_at_takes e b.0 n rest b.2 in
    (t.0, literal_takes text name left b.0 b.1 ∙ ap (λ (ws : Words). text ∷ ws) t.1)

pub named_at_again : (text : List ℕ) (name e : Expected) (n : ℕ) (rest : Words) → Fits n → named_at text name e (text ∷ decimal n ∷ rest) ≡ Ok (n, rest)
unfolding named_at
named_at_again text name e n rest fits = ap (λ (r : Result Words Misfit). r >>= λ begun. number_at e begun) (literal_again text name (decimal n ∷ rest)) ∙ number_at_again e n rest fits

abbrev both : Option ℕ → Words → Option ℕ × Words
both o ws = (o, ws)

abbrev maybe : Option ℕ → Words → Result (Option ℕ × Words) Misfit
maybe o ws = Ok (o, ws)

abbrev three : ℕ → ℤ → Words → Result (ℕ × ℤ × Words) Misfit
three p v ws = Ok (p, v, ws)

pub optional_at_takes : (mark : ℕ) (e : Expected) (left : Words) (o : Option ℕ) (rest : Words) → optional_at mark e left ≡ Ok (o, rest)
    → MayFit o × (left ≡ marked_word mark o ++ rest)
unfolding optional_at
optional_at_takes mark e left o rest is = go (begins mark left) is
  where
    found : (n : ℕ × Words) → marked_at mark e left ≡ Ok n → both (Some n.0) n.1 ≡ both o rest → MayFit o × (left ≡ marked_word mark o ++ rest)
    found n marked same =
        let t = marked_at_takes mark e left n.0 n.1 marked in
        subst (λ (x : Option ℕ × Words). MayFit x.0 × (left ≡ marked_word mark x.0 ++ x.1)) same t

    go : (b : Bool) → cond b (marked_at mark e left >>= λ n. maybe (Some n.0) n.1) (maybe None left) ≡ maybe o rest → MayFit o × (left ≡ marked_word mark o ++ rest)
    go true is =
        let b = bind_ok (marked_at mark e left) (λ n. maybe (Some n.0) n.1) (o, rest) is in
        found b.0 b.1 (ok_is (Some b.0.0, b.0.1) (o, rest) b.2)
    go false is = subst (λ (x : Option ℕ × Words). MayFit x.0 × (left ≡ marked_word mark x.0 ++ x.1)) (ok_is (None, left) (o, rest) is) (tt, refl)

pub optional_at_again : (mark : ℕ) (e : Expected) (o : Option ℕ) (rest : Words) → MayFit o → begins mark rest ≡ false → optional_at mark e (marked_word mark o ++ rest) ≡ Ok (o, rest)
unfolding optional_at
optional_at_again mark e None rest fits other = rw other refl
optional_at_again mark e (Some n) rest fits other =
    let same : (mark == mark) ≡ true = grind (arith, nat_tests) in
    rw (same, marked_at_again mark e n rest fits) refl

pub optional_at_last : (mark : ℕ) (e : Expected) (o : Option ℕ) → MayFit o → optional_at mark e (marked_word mark o) ≡ Ok (o, [])
optional_at_last mark e o fits = ap (optional_at mark e) (sym (append-nil (marked_word mark o))) ∙ optional_at_again mark e o [] fits refl

-- A word with another mark, or none.
pub other_begins : (mark other : ℕ) (o : Option ℕ) → (other == mark) ≡ false → begins mark (marked_word other o) ≡ false
other_begins mark other None differ = refl
other_begins mark other (Some n) differ = differ

pub message_at_takes : (a : AcceptedView) (left : Words) (p : ℕ) (v : ℤ) (rest : Words) → message_at a left ≡ Ok (p, v, rest)
    → IsMessage a p v × (left ≡ message_words a p v ++ rest)
unfolding message_at point_at value_at
message_at_takes a left p v rest is =
    let b0 = bind_ok (point_at a left) (λ point. literal_at ((net_for a).label point.0) expected.Label point.1 >>= λ label. value_at label >>= λ value. three point.0 value.0 value.1) (p, v, rest) is in
    let n = b0.0.0 in
    let b1 = bind_ok (literal_at ((net_for a).label n) expected.Label b0.0.1) (λ label. value_at label >>= λ value. three n value.0 value.1) (p, v, rest) b0.2 in
    let b2 = bind_ok (value_at b1.0) (λ value. three n value.0 value.1) (p, v, rest) b1.2 in
    let same = ok_is (n, b2.0.0, b2.0.1) (p, v, rest) b2.2 in
    let o0 = one_takes (point_said a) expected.Point left n b0.0.1 b0.1 in
    let t0 = point_takes a o0.0 n o0.2 in
    let t1 = literal_takes ((net_for a).label n) expected.Label b0.0.1 b1.0 b1.1 in
    let o2 = one_takes signed_in expected.Value b1.0 b2.0.0 b2.0.1 b2.1 in
    let t2 = signed_takes o2.0 b2.0.0 o2.2 in
    subst (λ (x : ℕ × ℤ × Words). IsMessage a x.0 x.1 × (left ≡ message_words a x.0 x.1 ++ x.2)) same (
      record { first = t0.0; last = t0.1; value_fits = is_within b2.0.0 t2.1 },
      o0.1 ∙ ap (λ (w : List ℕ). w ∷ b0.0.1) t0.2
          ∙ ap (λ (ws : Words). decimal n ∷ ws) (t1 ∙ ap (λ (ws : Words). (net_for a).label n ∷ ws) (o2.1 ∙ ap (λ (w : List ℕ). w ∷ b2.0.1) t2.0)),
    )

point_at_again : (a : AcceptedView) (p : ℕ) (rest : Words) → 1 ≤ p → p ≤ (net_for a).count → p < 2 ^ 64 → point_at a (decimal p ∷ rest) ≡ Ok (p, rest)
unfolding point_at
point_at_again a p rest first last fits = one_again (point_said a) expected.Point (decimal p) rest p (point_again a p first last fits)

value_at_again : (v : ℤ) (rest : Words) → FitsSigned w64 v → value_at (signed_decimal v ∷ rest) ≡ Ok (v, rest)
unfolding value_at
value_at_again v rest fits = one_again signed_in expected.Value (signed_decimal v) rest v (signed_again v (within v fits))

pub message_at_again : (a : AcceptedView) (p : ℕ) (v : ℤ) (rest : Words) → IsMessage a p v → p < 2 ^ 64 → message_at a (message_words a p v ++ rest) ≡ Ok (p, v, rest)
unfolding message_at
message_at_again a p v rest is fits =
    let label = (net_for a).label p in
    rw (point_at_again a p (label ∷ signed_decimal v ∷ rest) is.first is.last fits, literal_again label expected.Label (signed_decimal v ∷ rest), value_at_again v rest is.value_fits) refl
