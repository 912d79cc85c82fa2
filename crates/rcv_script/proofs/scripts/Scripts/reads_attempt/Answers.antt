use Rattle.std.proofs.Common.{◌≡◌, rules, tests}
use Rattle.std.proofs.lemmas.Iterator.{YieldsList-from_slice}
use Rattle.std.proofs.lemmas.Iterator.Search.{any_from_yields_List}
use Rattle.rcv_script.specs.Attempts.{lines_read, scripts_read}
use Rattle.rcv_script.proofs.Blindness.{all_blind}
use Rattle.rcv_script.proofs.scripts.Scripts.reads_attempt.Goals as goal

pub returns : goal.returns
returns c =
    let scripts = c.args.self.now.lines in
    let read : c.any.result ≡ scripts_read scripts =
    any_from_yields_List lines_read _ _ c.any.result c.any.ensures.ran
    (YieldsList-from_slice scripts cc) (λ x b q k. search (rules, tests)) in
    rw read (all_blind scripts)
