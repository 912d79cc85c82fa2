-- Each step adds an entry, and where there is none the session is at its end.
use Rattle.std.proofs.Common.{rules, ◌≡◌, refl, sym, subst}
use Rattle.rcv_core.specs.Book.{BookView, IsAtEnd}
use Rattle.rcv_super.specs.Finish.{HasFinished}
use Rattle.rcv_super.proofs.Turning.{no_step, few_in, step_shrinks, step_goes_on, finishes}
use Rattle.rcv_super.proofs.alone.finish_alone.Goals as goal

pub loop-behind-init : goal.loop-behind-init
loop-behind-init g c = no_step c.args.book.now c.args.skip c.requires

pub step_alone-requires : goal.step_alone-requires
step_alone-requires g c = c.loop-behind.invariant.skip_is

pub returns-in_default : goal.returns-in_default
returns-in_default g c =
    let same : c.step_alone.new.book ≡ c.loop-behind.book = search rules in
    let end : IsAtEnd c.loop-behind.book = search rules in
    subst (λ (b : BookView). HasFinished 1 c.args.book.now b) (sym same) (finishes 1 c.args.book.now c.loop-behind.book c.loop-behind.invariant.goes end)

pub loop-behind-smaller : goal.loop-behind-smaller
loop-behind-smaller g c =
    step_shrinks c.args.book.now c.loop-behind.book c.step_alone.new.book c.loop-behind.skip c.in-Some.behind c.loop-behind.invariant c.step_alone.result c.step_alone.ensures c.in-Some.is
    (few_in c.len-few.result c.loop-behind.book c.loop-behind.book refl c.len-few.ensures.value c.len-few.ensures.few)

pub loop-behind-preserved : goal.loop-behind-preserved
loop-behind-preserved g c =
    step_goes_on c.args.book.now c.loop-behind.book c.step_alone.new.book c.loop-behind.skip c.in-Some.behind c.loop-behind.invariant c.step_alone.result c.step_alone.ensures c.in-Some.is
