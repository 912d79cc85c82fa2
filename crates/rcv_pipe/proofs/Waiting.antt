-- What waits in a pipe.
use Rattle.std.proofs.Common.{◌≡◌, ◌∙◌, ◌<◌, ◌≤◌, ℕ, Bool, true, false, true≢false, cond, List, [], ◌++◌, length, refl, sym, ap, subst, arith, append_assoc, append-nil, length-append}
use Rattle.std.specs.Prelude.{nat_lt}
use Rattle.std.proofs.lemmas.Bool.Decides.{nat_tests}
use Rattle.rcv_pipe.specs.Buffer.{most_held}
use Rattle.rcv_pipe.specs.Feeds.{HasNoFeed}
use Rattle.rcv_pipe.specs.Pipe.{PipeView, Waits, empty, roomy, with_more}
use Rattle.rcv_pipe.proofs.Feeds.{both_lack}

pub roomy_short : (p : PipeView) → length (roomy p).held ≤ most_held
roomy_short p = go (nat_lt most_held (length p.held)) refl
  where
    go : (b : Bool) → nat_lt most_held (length p.held) ≡ b → length (cond b (record { held = []; long = true }) p).held ≤ most_held
    go true is = omega arith
    go false is = grind (arith, nat_tests)

pub roomy_same : (p : PipeView) → length p.held ≤ most_held → roomy p ≡ p
roomy_same p few = let off : nat_lt most_held (length p.held) ≡ false = grind (arith, nat_tests) in ap (λ b. cond b (record { held = []; long = true }) p) off

-- Nothing waits in an empty pipe.
pub waits_none : Waits empty []
waits_none = record { dropped = []; whole = refl; short = λ _. refl; front = tt; long = λ on. absurd (true≢false (sym on)) }

longer : (xs ys : List ℕ) → most_held < length ys → most_held < length (xs ++ ys)
longer xs ys full = let both = length-append xs ys in omega (arith, full, both)

-- Bytes that are dropped wait on.
pub waits_roomy : (p : PipeView) (bytes : List ℕ) → Waits p bytes → HasNoFeed p.held → Waits (roomy p) bytes
waits_roomy p bytes waits lack = go (nat_lt most_held (length p.held)) refl
  where
    go : (b : Bool) → nat_lt most_held (length p.held) ≡ b → Waits (cond b (record { held = []; long = true }) p) bytes
    go false is = waits
    go true is =
        let full : most_held < length p.held = grind (arith, nat_tests) in
        record {
          dropped = bytes;
          whole = sym (append-nil bytes);
          short = λ off. absurd (true≢false off);
          front = subst HasNoFeed (sym waits.whole) (both_lack waits.dropped p.held waits.front lack);
          long = λ _. subst (λ xs. most_held < length xs) (sym waits.whole) (longer waits.dropped p.held full);
        }

-- More bytes wait behind them.
pub waits_more : (p : PipeView) (bytes more : List ℕ) → Waits p bytes → Waits (with_more p more) (bytes ++ more)
waits_more p bytes more waits = record {
  dropped = waits.dropped;
  whole = ap (λ xs. xs ++ more) waits.whole ∙ append_assoc waits.dropped p.held more;
  short = waits.short;
  front = waits.front;
  long = waits.long;
}

pub waits_read : (p q : PipeView) (bytes more : List ℕ) → Waits p bytes → HasNoFeed p.held → q.held ≡ (roomy p).held ++ more → q.long ≡ (roomy p).long → Waits q (bytes ++ more)
waits_read p q bytes more waits lack held long =
    let w = waits_more (roomy p) bytes more (waits_roomy p bytes waits lack) in
    record {
      dropped = w.dropped;
      whole = w.whole ∙ ap (λ xs. w.dropped ++ xs) (sym held);
      short = λ off. w.short (sym long ∙ off);
      front = w.front;
      long = λ on. w.long (sym long ∙ on);
    }

-- Of a line without a feed none is lost.
pub waits_lack : (p : PipeView) (bytes : List ℕ) → Waits p bytes → HasNoFeed p.held → HasNoFeed bytes
waits_lack p bytes waits lack = subst HasNoFeed (sym waits.whole) (both_lack waits.dropped p.held waits.front lack)
