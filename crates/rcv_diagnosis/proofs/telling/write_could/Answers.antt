-- The name, and why.
use Rattle.std.proofs.Common.{codes, refl, ◌++◌, ◌∙◌, ap, append_assoc}
use Rattle.std.proofs.lemmas.Result.{on_ok_weaker}
use Rattle.rcv_journal.specs.JournalText.{name_of}
use Rattle.rcv_judge.specs.declared.could.Could.TheVariants.{Awaits, Done, AtLimit}
use Rattle.rcv_diagnosis.proofs.Texts.{three_words, said_could}
use Rattle.rcv_diagnosis.proofs.telling.write_could.Goals as goal

pub returns-in_ok-word-in-Awaits-2 : goal.returns-in_ok-word-in-Awaits-2
returns-in_ok-word-in-Awaits-2 c =
    let waits = codes " could do nothing: it waits for " in
    let name = name_of c.args.setup.now c.args.role in
    let from = name_of c.args.setup.now c.in-Awaits.from in
    on_ok_weaker c.word-in-Awaits-3.result
    (λ grown. said_could c.args.setup.now c.args.role c.args.could.now (Awaits c.in-Awaits.from) c.args.text.now c.word.new.self c.word-in-Awaits-3.new.self c.name_of.result.now (waits ++ (from ++ codes "\n"))
    c.in-Awaits.is c.in_ok-word.ensures.ok c.name_of.ensures
    (three_words c.word.new.self c.word-in-Awaits.new.self c.word-in-Awaits-2.new.self c.word-in-Awaits-3.new.self waits from (codes "\n") c.in_ok-word-in-Awaits.ensures.ok
    (c.in_ok-word-in-Awaits-2.ensures.ok ∙ ap (λ n. c.word-in-Awaits.new.self ++ n) c.name_of-in-Awaits.ensures) grown)
    (append_assoc (name ++ waits) from (codes "\n") ∙ append_assoc name waits (from ++ codes "\n")))
    c.word-in-Awaits-3.ensures.ok

pub returns-in-Done : goal.returns-in-Done
returns-in-Done c =
    on_ok_weaker c.word-in-Done.result
    (λ grown. said_could c.args.setup.now c.args.role c.args.could.now Done c.args.text.now c.word.new.self c.word-in-Done.new.self c.name_of.result.now (codes " could do nothing: it is done\n") c.in-Done.is c.in_ok-word.ensures.ok c.name_of.ensures grown refl)
    c.word-in-Done.ensures.ok

pub returns-in-AtLimit : goal.returns-in-AtLimit
returns-in-AtLimit c =
    on_ok_weaker c.word-in-AtLimit.result
    (λ grown. said_could c.args.setup.now c.args.role c.args.could.now AtLimit c.args.text.now c.word.new.self c.word-in-AtLimit.new.self c.name_of.result.now (codes " could do nothing: it is at the limit\n") c.in-AtLimit.is c.in_ok-word.ensures.ok c.name_of.ensures grown refl)
    c.word-in-AtLimit.ensures.ok
