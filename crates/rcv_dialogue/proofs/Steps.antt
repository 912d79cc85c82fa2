-- Steps of a reading.
use Rattle.std.proofs.Common.{◌≡◌, ◌∙◌, ℕ, Bool, true, false, cond, List, [], ◌∷◌, Option, Some, None, Result, Ok, Err, refl, ap}
use Rattle.rcv_dialogue.specs.declared.words.Misfit.{Misfit}
use Rattle.rcv_dialogue.specs.declared.wrong.Expected.{Expected}
use Rattle.rcv_dialogue.specs.Numbers.{is_word}
use Rattle.rcv_dialogue.specs.Reading.{◌>>=◌, Words, said, wrong, word_at, one_word, literal_at, ended}
use Rattle.rcv_dialogue.proofs.Numerals.{same_word, is_itself}

-- The value of a step that found nothing wrong.
pub bind_ok : {A B : Type 0} (r : Result A Misfit) (f : A → Result B Misfit) (y : B) → (r >>= f) ≡ Ok y → (x : A) × (r ≡ Ok x) × (f x ≡ Ok y)
bind_ok (Ok x) f y e = (x, refl, e)
bind_ok (Err d) f y e = absurd cc

pub then_ok : {A B : Type 0} (r : Result A Misfit) (x : A) (f : A → Result B Misfit) → r ≡ Ok x → (r >>= f) ≡ f x
then_ok r x f e = ap (λ q. q >>= f) e

abbrev done : {A : Type 0} → A → Result A Misfit
done x = Ok x

pub ok_is : {A : Type 0} (x y : A) → done x ≡ done y → x ≡ y
ok_is x y e = cc

-- The next word, and what it says.
pub word_takes : (e : Expected) (left : Words) (w : List ℕ) (rest : Words) → word_at e left ≡ Ok (w, rest) → left ≡ w ∷ rest
word_takes e [] w rest is = absurd cc
word_takes e (v ∷ vs) w rest is = let same = ok_is (v, vs) (w, rest) is in λ i. (same i).0 ∷ (same i).1

pub said_ok : {A : Type 0} (left : Words) (e : Expected) (o : Option A) (x : A) → said left e o ≡ Ok x → o ≡ Some x
said_ok {A} left e None x is = absurd cc
said_ok {A} left e (Some y) x is = ap (λ (z : A). Some z) (ok_is y x is)

abbrev paired : {A : Type 0} → A → Words → Result (A × Words) Misfit
paired x ws = Ok (x, ws)

-- A word that was read says what was read.
pub one_takes : {A : Type 0} (read : List ℕ → Option A) (e : Expected) (left : Words) (x : A) (rest : Words) → one_word read e left ≡ Ok (x, rest)
    → (w : List ℕ) × (left ≡ w ∷ rest) × (read w ≡ Some x)
one_takes {A} read e [] x rest is = absurd cc
one_takes {A} read e (w ∷ ws) x rest is = go (read w) refl is
  where
    go : (o : Option A) → read w ≡ o → (said (w ∷ ws) e o >>= λ y. paired y ws) ≡ paired x rest → (v : List ℕ) × (w ∷ ws ≡ v ∷ rest) × (read v ≡ Some x)
    go None read-is is = absurd cc
    go (Some y) read-is is =
        let both = ok_is (y, ws) (x, rest) is in
        (w, ap (λ (p : A × Words). w ∷ p.1) both, read-is ∙ ap (λ (p : A × Words). Some p.0) both)

pub one_again : {A : Type 0} (read : List ℕ → Option A) (e : Expected) (w : List ℕ) (rest : Words) (x : A) → read w ≡ Some x → one_word read e (w ∷ rest) ≡ Ok (x, rest)
one_again {A} read e w rest x is = ap (λ (o : Option A). said (w ∷ rest) e o >>= λ y. paired y rest) is

-- A word that has to stand there.
pub literal_takes : (text : List ℕ) (e : Expected) (left rest : Words) → literal_at text e left ≡ Ok rest → left ≡ text ∷ rest
unfolding literal_at
literal_takes text e [] rest is = absurd cc
literal_takes text e (w ∷ ws) rest is = go (is_word w text) refl is
  where
    go : (b : Bool) → is_word w text ≡ b → cond b (Ok ws) (wrong (w ∷ ws) e) ≡ Ok rest → w ∷ ws ≡ text ∷ rest
    go true same is = let v = same_word w text same in let r = ok_is ws rest is in λ i. v i ∷ r i
    go false other is = absurd cc

pub literal_again : (text : List ℕ) (e : Expected) (rest : Words) → literal_at text e (text ∷ rest) ≡ Ok rest
unfolding literal_at
literal_again text e rest = rw (is_itself text) refl

-- The end.
pub ended_takes : {A : Type 0} (left : Words) (x y : A) → ended left x ≡ Ok y → (left ≡ []) × (x ≡ y)
ended_takes [] x y is = (refl, ok_is x y is)
ended_takes (w ∷ ws) x y is = absurd cc
