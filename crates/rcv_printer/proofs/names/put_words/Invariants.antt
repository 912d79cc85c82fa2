use Rattle.std.proofs.Common.{◌≡◌, ℕ, List, ◌++◌, map, drop}
use Rattle.rcv_printer.specs.CanonicalText.{words}
use Rattle.rcv_printer.proofs.names.put_words.Given as goal

abbrev pub invariant-loop-word : goal.invariant-loop-word
invariant-loop-word l =
    (next : List ℕ) → l.text ++ words (map (λ word. word.now) (drop l.word-index l.all)) next ≡ l.fn.text ++ words (map (λ word. word.now) l.all) next
