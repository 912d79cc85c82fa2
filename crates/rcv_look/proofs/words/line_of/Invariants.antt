-- The name and the words so far.
use Rattle.std.specs.Prelude.{◌≡◌, map, take}
use Rattle.rcv_look.specs.Commands.{line_of, texts_of}
use Rattle.rcv_look.proofs.words.line_of.Given as goal

abbrev pub invariant-loop-word : goal.invariant-loop-word
invariant-loop-word l = map (λ word. word.now) l.line.items ≡ line_of (texts_of (take l.word-index l.fn.words))
