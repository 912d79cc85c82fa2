-- By the number of values.
use Rattle.std.proofs.Common.{subst, arith}
use Rattle.rcv_journal.specs.Recorded.{bare}
use Rattle.rcv_json_reader.specs.Parts.{SaysEntry}
use Rattle.rcv_json_reader.proofs.Firsts.{no_entry, none_always, only_crash, only_recover, only_recv, only_send}
use Rattle.rcv_json_reader.proofs.entry.read_entry.Goals as goal

pub returns-in_err-crash-in-2-clause-none : goal.returns-in_err-crash-in-2-clause-none
returns-in_err-crash-in-2-clause-none c =
    let setup = bare c.args.accepted.now.protocol in
    none_always c.from_residual-in_err-crash-in-2.result (λ e says.
    only_crash setup c.in_ok-parts.parts.now c.in-2.is c.in_err-crash-in-2.ensures.none e (subst (λ d. SaysEntry setup d e) c.in_ok-parts.ensures.some says))

pub returns-in_err-recovery-in-4-clause-none : goal.returns-in_err-recovery-in-4-clause-none
returns-in_err-recovery-in-4-clause-none c =
    let setup = bare c.args.accepted.now.protocol in
    none_always c.from_residual-in_err-recovery-in-4.result (λ e says.
    only_recover setup c.in_ok-parts.parts.now c.in-4.is c.in_err-recovery-in-4.ensures.none e (subst (λ d. SaysEntry setup d e) c.in_ok-parts.ensures.some says))

pub returns-in_err-send-in-6-clause-none : goal.returns-in_err-send-in-6-clause-none
returns-in_err-send-in-6-clause-none c =
    let setup = bare c.args.accepted.now.protocol in
    none_always c.from_residual-in_err-send-in-6.result (λ e says.
    only_send setup c.in_ok-parts.parts.now c.in-6.is c.in_err-send-in-6.ensures.none e (subst (λ d. SaysEntry setup d e) c.in_ok-parts.ensures.some says))

pub returns-in_err-recv-in-7-clause-none : goal.returns-in_err-recv-in-7-clause-none
returns-in_err-recv-in-7-clause-none c =
    let setup = bare c.args.accepted.now.protocol in
    none_always c.from_residual-in_err-recv-in-7.result (λ e says.
    only_recv setup c.in_ok-parts.parts.now c.in-7.is c.in_err-recv-in-7.ensures.none e (subst (λ d. SaysEntry setup d e) c.in_ok-parts.ensures.some says))

pub returns-in_default-clause-none : goal.returns-in_default-clause-none
returns-in_default-clause-none c =
    let setup = bare c.args.accepted.now.protocol in
    let apart = c.in_default in
    λ e says. no_entry setup c.in_ok-parts.parts.now (λ two. absurd (omega (arith, two))) (λ four. absurd (omega (arith, four))) (λ six. absurd (omega (arith, six))) (λ seven. absurd (omega (arith, seven))) e (subst (λ d. SaysEntry setup d e) c.in_ok-parts.ensures.some says)
