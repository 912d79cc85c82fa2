-- What the page held was written, and then the word.
use Rattle.std.proofs.Common.{ℕ, Bool, List, [], ◌++◌, sym, ◌∙◌, ap, subst, append-nil}
use Rattle.rcv_page.specs.Page.{PageView, Adds, at, state}
use Rattle.rcv_page.proofs.Adding.{then, adds_same, holds_more}
use Rattle.rcv_page.proofs.page.Page.word_behind.Goals as goal

pub returns-then-word-gt-PAGE : goal.returns-then-word-gt-PAGE
returns-then-word-gt-PAGE g c =
    let word = c.args.word.now in
    let before = at g.K.Sink.written g.K.Sink.faults c.args.sink.now c.args.self.now in
    let written = g.K.Sink.written c.flush.new.sink in
    let faults = g.K.Sink.faults c.flush.new.sink in
    let failed = ap (λ (p : PageView). p.failed) (sym c.self.view_is) in
    let empty = subst (λ (held : List ℕ). Adds before (state written faults held c.flush.new.self.failed) []) c.flush.ensures.empty c.flush.ensures.adds in
    let flushed = subst (λ (b : Bool). Adds before (state written faults [] b) []) failed empty in
    let taken = then flushed (holds_more written faults [] word c.self.inside.failed) in
    let whole = adds_same _ _ (word ++ []) word (append-nil word) (then taken c.goes_wrong-self-inside.ensures) in
    let now = λ (held : List ℕ). state (g.K.Sink.written c.goes_wrong-self-inside.new.sink) (g.K.Sink.faults c.goes_wrong-self-inside.new.sink) held c.goes_wrong-self-inside.result in
    let none = ap (λ (p : PageView). p.held) c.self.view_is ∙ c.flush.ensures.empty in
    subst (λ (held : List ℕ). Adds before (now held) word) (sym none) whole
