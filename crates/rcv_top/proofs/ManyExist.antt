-- Several sessions of what is taken come to something.
use Rattle.std.proofs.Common.{ℕ, ◌*◌, Bool, List, refl, inl, inr, ⊎_elim, arith}
use Rattle.std.proofs.lemmas.Bool.{cases_lt}
use Rattle.rcv_session.specs.Session.{SessionView, roles_of, rules_of}
use Rattle.rcv_input.specs.Input.{IsTaken}
use Rattle.rcv_input.specs.Line.{refusal_line}
use Rattle.rcv_input.specs.declared.refused.Refused.TheVariants.{TooMuch}
use Rattle.rcv_joined.specs.Joined.{joined}
use Rattle.rcv_joined.proofs.Places.{some_list}
use Rattle.rcv_later.specs.Later.{later}
use Rattle.rcv_top.specs.declared.status.Status.{Status}
use Rattle.rcv_top.specs.declared.status.Status.TheVariants.{Refused}
use Rattle.rcv_top.specs.Many.{OneRun, AreRuns, ended_as, texts_of, IsRunOfMany}
use Rattle.rcv_top.proofs.Ending.{run_exists}
use Rattle.rcv_top.proofs.ManyRuns.{IsRunAt, from_places}
use Rattle.rcv_top.proofs.Rooms.{taken_sessions_can_run}

-- each has a run
run_at : (json : Bool) (input : List ℕ) (session : SessionView) → IsTaken input session → (i : ℕ) → (run : OneRun) × IsRunAt json session i run
run_at json input session taken i =
    let run = run_exists json (later session i) ((taken_sessions_can_run input session taken).1 i) in
    (record { status = run.0; bytes = run.1 }, run.2)

runs_some : (n : ℕ) (json : Bool) (input : List ℕ) (session : SessionView) → IsTaken input session → (runs : List OneRun) × AreRuns n json session runs
runs_some n json input session taken =
    let all = some_list (IsRunAt json session) (run_at json input session taken) n 0 in
    (all.0, from_places n json session all.0 all.1)

pub many_some : (n : ℕ) (json : Bool) (input : List ℕ) (session : SessionView) → IsTaken input session → (status : Status) × (bytes : List ℕ) × IsRunOfMany n json session status bytes
many_some n json input session taken = ⊎_elim
    (λ much. (Refused, refusal_line TooMuch, inl (record { too_much = much; status_is = refl; bytes_are = refl })))
    (λ few.
    let all = runs_some n json input session taken in (
      ended_as all.0,
      joined json 0 (texts_of all.0),
      inr (record {
        fits = λ much. omega (arith, much, few);
        many_run = record { runs = all.0; are_runs = all.1; status_is = refl; bytes_are = refl };
      }),
    ))
    (cases_lt 3200000 (roles_of session * (rules_of session).limit * n))
