-- A label that is made to fit is shown so.
use Rattle.std.proofs.Common.{◌≡◌, ℕ, Bool, true, false, ◌-◌, List, ◌++◌, length, take, drop, sym, ◌∙◌, ap, arith, append_assoc, length-append}
use Rattle.std.specs.Prelude.{nat_lt, if◌then◌else◌}
use Rattle.std.proofs.lemmas.Bool.Decides.{nat_tests}
use Rattle.std.proofs.Math.Seq.{take-append_seam, drop-append_seam}
use Rattle.rcv_picture.specs.Names.{ellipsis, IsShortened, as_it_is, too_long}
use Rattle.rcv_charts.specs.StateTitles.{shown_label}

abbrev shown_if : List ℕ → Bool → List ℕ
shown_if label long = if long then take 10 label ++ ellipsis ++ drop (length label - 5) label else label

front_is : (label front after : List ℕ) → label ≡ front ++ after → length front ≡ 10 → take 10 label ≡ front
front_is label front after whole ten =
    ap (λ (n : ℕ). take n label) (sym ten) ∙ ap (λ (l : List ℕ). take (length front) l) whole ∙ take-append_seam front after

back_is : (label before back : List ℕ) → label ≡ before ++ back → length back ≡ 5 → drop (length label - 5) label ≡ back
back_is label before back whole five =
    let there : length label - 5 ≡ length before = omega (arith, length-append before back, ap length whole, five) in
    ap (λ (n : ℕ). drop n label) there ∙ ap (λ (l : List ℕ). drop (length before) l) whole ∙ drop-append_seam before back

pub is_shown : (label text : List ℕ) → IsShortened 16 label text → text ≡ shown_label label
is_shown label text (as_it_is few is) =
    let short : nat_lt 16 (length label) ≡ false = grind (arith, nat_tests) in
    is ∙ sym (ap (shown_if label) short)
is_shown label text (too_long more cut) =
    let long : nat_lt 16 (length label) ≡ true = grind (arith, nat_tests) in
    let front : take 10 label ≡ cut.front = front_is label cut.front (cut.middle ++ cut.back) cut.whole (omega (arith, cut.letters, cut.third)) in
    let back : drop (length label - 5) label ≡ cut.back =
    back_is label (cut.front ++ cut.middle) cut.back (cut.whole ∙ sym (append_assoc cut.front cut.middle cut.back)) (omega (arith, cut.third)) in
    cut.is
    ∙ ap (λ (f : List ℕ). f ++ ellipsis ++ cut.back) (sym front)
    ∙ ap (λ (b : List ℕ). take 10 label ++ ellipsis ++ b) (sym back)
    ∙ sym (ap (shown_if label) long)
