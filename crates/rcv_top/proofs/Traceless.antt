-- If a session completes and no script reads the attempt, it completes without its crash lines, too, and later ones keep the same.
use Rattle.std.proofs.Common.{◌≡◌, refl}
use Rattle.rcv_model.specs.Journal.{Rules, State}
use Rattle.rcv_model.specs.Final.{AreDone}
use Rattle.rcv_later.specs.Later.{later}
use Rattle.rcv_transparent.proofs.Beginnings.{plans_leave_no_trace}
use Rattle.rcv_transparent.proofs.Traceless.{calm_journals_complete}
use Rattle.rcv_top.specs.declared.status.Status.{Status}
use Rattle.rcv_top.specs.declared.status.Status.TheVariants.{Completed}
use Rattle.rcv_top.specs.Running.{EndsAs, all_done, at_limit}
use Rattle.rcv_top.specs.Laws.{CalmSessionsComplete, SessionsKeepAlike}
use Rattle.rcv_top.proofs.Headlines.{blind_by}

-- a journal that leaves all roles done ends so
completed_by : (rules : Rules) (s : State) (status : Status) → EndsAs rules s status → AreDone rules s → status ≡ Completed
completed_by rules s status (all_done done) all = refl
completed_by rules s status (at_limit at) all = absurd (at.2 (all at.0 at.1))

pub calm_sessions_complete : CalmSessionsComplete
calm_sessions_complete session journal is workers json status bytes run =
    let headline = run.is_journal.headline in
    let end = calm_journals_complete session journal run.journal (blind_by session is.can is.blind) is.done headline.legal headline.final in
    completed_by _ _ status run.ends end.0.1

-- two that complete differ in their plans alone
pub sessions_keep_alike : SessionsKeepAlike
sessions_keep_alike session i k first second is other =
    plans_leave_no_trace (later session i) (later session k).plan first second (blind_by (later session i) is.can is.blind) is.done other.done
