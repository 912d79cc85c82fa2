-- The record is of the book's journal.
use Rattle.std.proofs.Common.{◌∙◌}
use Rattle.std.proofs.lemmas.Result.{IfOk-weaker}
use Rattle.rcv_core.specs.Book.{state_of}
use Rattle.rcv_look.proofs.Telling.{of_book}
use Rattle.rcv_look.proofs.draw.draw_book.Goals as goal

pub returns : goal.returns
returns c = IfOk-weaker c.draw.result _ _
    (λ text is. of_book c.args.book.now c.in_ok-record.record c.args.lines.now c.as_slice.result.now text.items c.in_ok-record.ensures.setup c.in_ok-record.ensures.entries
    (c.as_slice.ensures.value ∙ c.in_ok-ends.ensures) (is (state_of c.args.book.now).kept c.in_ok-record.ensures.kept)) c.draw.ensures
