-- It is the word `--told`.
use Rattle.std.proofs.Common.{◌∙◌, codes, sym}
use Rattle.std.specs.Cmp.Lexicographic.{bytes_decides}
use Rattle.rcv_talk.proofs.OneWord.{one_word}
use Rattle.rcv_talk.proofs.words.saving_of.Goals as goal

pub returns-in-len1 : goal.returns-in-len1
returns-in-len1 c =
    let said = (bytes_decides c.as_str.result.now (codes "--told")).0 (sym c.eq.ensures ∙ c.if-eq.true) in
    one_word c.args.words.now c.word-item.result (codes "--told") c.in-len1.len_at_least c.in-len1.len_below c.word-item.is (sym c.as_str.ensures.value ∙ said)
