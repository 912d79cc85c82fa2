-- Where the machine stops, or goes on otherwise, at a sign that isn't awaited.
use Rattle.std.proofs.Common.{◌≡◌, Bool, true, false, List, [], ◌∷◌, ◌++◌, Some, Result, Ok, Err, IsErrAnd, refl, ap, ◌∙◌, cond}
use Rattle.rcv_machine.specs.Words.{Sign, Global, Close, Or, And, Right, Comma, Dot, Token, Symbol, Is, IsNotNext, Item, This, MoreModules, MoreRoles, Sorts, MoreSorts, MoreReceivers, MoreArguments, MoreProtocols, Rest, More, Later, State, Outcome, On, Wrong, meets, step, at_end, after, Refuses, answer, known}
use Rattle.rcv_machine.proofs.Agreeing.{meets_only}
use Rattle.rcv_reader.specs.declared.stop.Stop.TheVariants as errors
use Rattle.rcv_reader.specs.Descent.{Stop, Standing, answers, going_on, named_in, IsOver, Halts, Consumes}

-- What halts behind others halts in front of them.
pub halts_behind : {X : Type 0} (r : Result X Stop) (e : Stop) (p q new : Standing) (front item over : List Item → List Item)
    (behind : X → List Item → List Item)
    → IsErrAnd r (λ f. f ≡ e) → Halts e q new item → ((k : List Item) → answers p (front k) ≡ answers q (item (over k)))
    → Consumes r p new front behind
halts_behind (Ok x) e p q new front item over behind is halts goes = absurd is
halts_behind (Err f) errors.Memory p q new front item over behind is halts goes = rw is (tt, tt)
halts_behind (Err f) (errors.Refused fault) p q new front item over behind is halts goes = rw is (λ k. goes k ∙ halts (over k), tt)

-- The same of what halts or not, where the machine goes on in place.
pub goes_on : {X : Type 0} (r : Result X Stop) (p new : Standing) (front item : List Item → List Item) (behind : X → List Item → List Item)
    → ((k : List Item) → answers p (front k) ≡ answers p (item k)) → Consumes r p new item behind → Consumes r p new front behind
goes_on (Ok x) p new front item behind goes h = (λ k. goes k ∙ h.0 k, h.1)
goes_on (Err errors.Memory) p new front item behind goes h = h
goes_on (Err (errors.Refused fault)) p new front item behind goes h = (λ k. goes k ∙ h.0 k, tt)

-- ---- a sign isn't next

no_this : (b : Bool) (s : State) (k : List Item) (m t : Symbol) → meets t m ≡ b → (t ≡ m → ⊥) → cond b (On s k) (Wrong Token) ≡ Wrong Token
no_this true s k m t e h = absurd (h (meets_only t m e))
no_this false s k m t e h = refl

stops_at : (s : State) (sign : Sign) (ts : List Symbol) → IsNotNext (Is sign) ts → (k : List Item)
    → answer s (This (Is sign) ∷ k) ts ≡ Refuses Token ts
stops_at s sign [] h k = refl
stops_at s sign (t ∷ ts) h k = ap (λ (o : Outcome). after o (t ∷ ts) (λ s' k'. answer s' k' ts))
    (no_this (meets t (Is sign)) s k (Is sign) t refl (λ e. h ts (rw e refl)))

over_step : (s : State) (i : Item) (sign : Sign) (k : List Item) (t : Symbol) (ts : List Symbol) → (going_on i).0 ≡ Some sign → (t ≡ Is sign → ⊥)
    → step s t ts (i ∷ k) ≡ step s t ts ((going_on i).1 ∷ (going_on i).2 ++ k)
over_step s MoreModules sign k (Is Dot) ts is h = absurd (h cc)
over_step s MoreRoles sign k (Is Comma) ts is h = absurd (h cc)
over_step s Sorts sign k (Is Right) ts is h = absurd (h cc)
over_step s MoreSorts sign k (Is Comma) ts is h = absurd (h cc)
over_step s (MoreReceivers earlier sender before) sign k (Is Comma) ts is h = absurd (h cc)
over_step s (MoreArguments earlier before) sign k (Is Comma) ts is h = absurd (h cc)
over_step s (Rest p) sign k (Is Close) ts is h = absurd (h cc)
over_step s (More p) sign k (Is Or) ts is h = absurd (h cc)
over_step s (Later p) sign k (Is And) ts is h = absurd (h cc)
over_step s _ sign k _ ts is h = refl

over_end : (i : Item) (k : List Item) → at_end (i ∷ k) ≡ at_end ((going_on i).1 ∷ (going_on i).2 ++ k)
over_end MoreProtocols k = refl
over_end _ k = refl

over_at : (s : State) (sign : Sign) (ts : List Symbol) → IsNotNext (Is sign) ts → (i : Item) (k : List Item) → (going_on i).0 ≡ Some sign
    → answer s (i ∷ k) ts ≡ answer s ((going_on i).1 ∷ (going_on i).2 ++ k) ts
over_at s sign [] h i k is = over_end i k
over_at s sign (t ∷ ts) h i k is =
    ap (λ (o : Outcome). after o (t ∷ ts) (λ s' k'. answer s' k' ts)) (over_step s i sign k t ts is (λ e. h ts (rw e refl)))

pub is_over : (sign : Sign) (p : Standing) → IsNotNext (Is sign) p.rest → IsOver sign p
is_over sign p h = record {
  unlike = h;
  stops = stops_at (known p.protocols p.roles p.count (named_in p.roles p.since)) sign p.rest h;
  over = over_at (known p.protocols p.roles p.count (named_in p.roles p.since)) sign p.rest h;
}

-- Behind a protocol neither another one nor the end is next.
pub not_ended : (p : Standing) → IsNotNext (Is Global) p.rest → (p.rest ≡ [] → ⊥) → answers p (MoreProtocols ∷ []) ≡ Refuses Token p.rest
not_ended p h some = go p.rest h some
  where
    go : (ts : List Symbol) → IsNotNext (Is Global) ts → (ts ≡ [] → ⊥)
        → answer (known p.protocols p.roles p.count (named_in p.roles p.since)) (MoreProtocols ∷ []) ts ≡ Refuses Token ts
    go [] h some = absurd (some refl)
    go (Is Global ∷ ts) h some = absurd (h ts refl)
    go (t ∷ ts) h some = refl
