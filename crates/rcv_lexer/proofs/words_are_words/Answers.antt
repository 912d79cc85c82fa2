use Rattle.rcv_lexer.proofs.TokenBytes.{words_are_words}
use Rattle.rcv_lexer.proofs.words_are_words.Goals as goal

pub returns : goal.returns
returns c = words_are_words
