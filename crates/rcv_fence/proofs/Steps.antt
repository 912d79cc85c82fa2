-- Each step keeps the fence's rule.
use Rattle.std.proofs.Common.{◌≡◌, ℕ, ◌≤◌, List, [], ◌∷◌, set, get_or, refl, sym, ap, ⊎_elim, arith}
use mathlib.Core.Option.{none, some}
use Rattle.atomic_table.specs.Table.{step, keeps, Allows, Splits, opening}
use Rattle.atomic_table.proofs.Lists.{at_set, at_snoc}
use Rattle.rcv_fence.specs.declared.rule.Sight.{Sight}
use Rattle.rcv_fence.specs.Fence.{Mine, unlooked, AllSawWords, Keeps, after_look, after_write, Looked, Wrote}

views_set : (views : List Sight) (id : ℕ) (w : Sight) → AllSawWords views → w.last ≤ 2048 → AllSawWords (set views id w)
views_set views id w all new k v at = ⊎_elim (λ t. let e : w.last ≡ v.last = ap (λ (x : Sight). x.last) t.1 in omega arith) (λ t. all k v t.1) (at_set views id k w v at)

pub looks : (n id : ℕ) (me : Mine) → Allows Keeps n id me 0 (λ x. x) (Looked (step n 0 0 0 none) me)
looks n id me s r wide at below =
    let found : ℕ = get_or s.words 0 0 in
    let is : found ≡ r.word = ap (λ (l : List ℕ). get_or l 0 0) r.words_are in
    let range : r.word ≤ 2048 = r.word_is in
    let low : found ≤ 2048 = omega arith in (
      after_look me.0 found,
      keeps,
      tt,
      record { word = found; words_are = ap (λ (l : List ℕ). set l 0 found) r.words_are; word_is = low; seen = views_set s.views id (after_look me.0 found) r.seen low },
      (refl, low),
    )

pub writes : (n id : ℕ) (me : Mine) (word : ℕ) → word ≤ 2048 → me.0.last ≤ 2048 → Allows Keeps n id me 0 (λ x. word) (Wrote (step n 0 word 0 none) me)
writes n id me word low last s r wide at below = (
  after_write me.0 word,
  keeps,
  tt,
  record { word = word; words_are = ap (λ (l : List ℕ). set l 0 word) r.words_are; word_is = low; seen = views_set s.views id (after_write me.0 word) r.seen last },
  refl,
)

pub splits : (id : ℕ) (v : Sight) → v.last ≤ 2048 → Splits Keeps id v v unlooked
splits id v last s r at = record {
  word = r.word;
  words_are = r.words_are;
  word_is = r.word_is;
  seen = λ k w there. ⊎_elim (λ old. views_set s.views id v r.seen last k w old) (λ (e : unlooked ≡ w). let e' : 0 ≡ w.last = ap (λ (x : Sight). x.last) e in omega arith) (at_snoc (set s.views id v) unlooked w k there);
}

pub opens : Keeps (opening (0 ∷ []) [] unlooked)
opens = record {
  word = 0;
  words_are = refl;
  word_is = omega arith;
  seen = λ k w there. ⊎_elim (λ t. absurd (mathlib.Core.Option.some-ne-none w (sym t))) (λ (e : unlooked ≡ w). let e' : 0 ≡ w.last = ap (λ (x : Sight). x.last) e in omega arith) (at_snoc [] unlooked w k there);
}
