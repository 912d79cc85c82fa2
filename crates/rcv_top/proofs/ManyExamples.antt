-- Several sessions: the words for them, what is too much, how they end in all, and what is written.
use Rattle.std.proofs.Common.{◌≡◌, ℕ, Bool, true, false, codes, List, [], ◌∷◌, length, refl, sym, subst, inl, inr, ⊎_elim, arith}
use Rattle.std.specs.Prelude.{if◌then◌else◌}
use Rattle.std.specs.List.{list_any}
use Rattle.std.specs.Fmt.{digits}
use Rattle.clap.proofs.OnLiterals.{clap_on_literals}
use Rattle.rcv_model.specs.Plan.{LimitLine}
use Rattle.rcv_session.specs.Session.{SessionView}
use Rattle.rcv_input.specs.Input.{IsTaken}
use Rattle.rcv_input.proofs.Worked.{input, protocol, session, taken}
use Rattle.rcv_joined.specs.Joined.{joined}
use Rattle.rcv_words.specs.Commands.{Run, RunMany, IsCommand}
use Rattle.rcv_top.specs.declared.status.Status.{Status}
use Rattle.rcv_top.specs.declared.status.Status.TheVariants.{Completed, Limited}
use Rattle.rcv_top.specs.Commands.{AskForSeveral}
use Rattle.rcv_top.specs.Many.{OneRun, is_limited, ended_as, texts_of, IsTooMuch, IsManyRun, AreWritten, IsRunOfMany}
use Rattle.rcv_top.specs.Outcome.{IsOutcome, answered, made}
use Rattle.rcv_top.specs.Laws.{HasEnded, HasOutcome}
use Rattle.rcv_top.proofs.Asked.{outcomes_are_many_runs}
use Rattle.rcv_top.proofs.Existing.{outcomes_exist}
use Rattle.rcv_top.proofs.Workers.{one_each, workers_decide_nothing}
use Rattle.rcv_top.proofs.ManyExist.{many_some}

-- ---- words

abbrev with_sessions : List ℕ → List (List ℕ)
with_sessions word = codes "run" ∷ codes "--sessions" ∷ word ∷ []

two : IsCommand (with_sessions (codes "2")) (RunMany 2 1 false)
unfolding clap_on_literals
two = (refl, (refl, refl, refl, refl, refl, refl), (omega arith, omega arith, omega arith, omega arith))

-- one session is the plain command
one : IsCommand (with_sessions (codes "1")) (Run 1 false)
unfolding clap_on_literals
one = (refl, (refl, refl, refl, refl, refl, refl), (omega arith, omega arith))

-- with three workers, which aren't several of one session
abbrev by_three : List (List ℕ)
by_three = codes "run" ∷ codes "--sessions" ∷ codes "2" ∷ codes "--workers" ∷ codes "3" ∷ []

shared : IsCommand by_three (RunMany 2 3 false)
unfolding clap_on_literals
shared = (refl, (refl, refl, refl, refl, refl, refl), (omega arith, omega arith, omega arith, omega arith))

not_several : AskForSeveral by_three → ⊥
not_several = one_each by_three 2 3 false shared

-- two outcomes of that, which one worker makes as three do
by_one : HasOutcome (with_sessions (codes "2")) input
by_one = outcomes_exist (with_sessions (codes "2")) input

made_by_three : HasOutcome by_three input
made_by_three = outcomes_exist by_three input

same_outcome : (by_one.0 ≡ made_by_three.0) × (by_one.1 ≡ made_by_three.1)
same_outcome = workers_decide_nothing (with_sessions (codes "2")) by_three input 2 1 3 false by_one.0 made_by_three.0 by_one.1 made_by_three.1 two shared by_one.2 made_by_three.2

-- ---- too much: 3,200,001 events are, and 3,200,000 aren't

abbrev of_limit : ℕ → SessionView
of_limit limit = record { protocol = record protocol { roles = codes "A" ∷ [] }; scripts = []; plan = LimitLine limit ∷ [] }

too_much : IsTooMuch 3 (of_limit 1066667)
too_much = omega arith

not_too_much : IsTooMuch 32 (of_limit 100000) → ⊥
not_too_much much = omega (arith, much)

-- ---- how they end

abbrev first : OneRun
first = record { status = Completed; bytes = codes "a\n" }

abbrev second : OneRun
second = record { status = Limited; bytes = codes "b\n" }

all_complete : ended_as (first ∷ first ∷ []) ≡ Completed
all_complete = refl

one_is_limited : ended_as (second ∷ first ∷ []) ≡ Limited
one_is_limited = refl

last_is_limited : ended_as (first ∷ second ∷ []) ≡ Completed → ⊥
last_is_limited e = cc

-- ---- what is written

in_order : joined false 0 (texts_of (first ∷ second ∷ [])) ≡ codes "session 1\na\nsession 2\nb\n"
unfolding digits
in_order = refl

-- two sessions of an input come to something, which isn't a refusal
come : (status : Status) × (bytes : List ℕ) × IsRunOfMany 2 false session status bytes
come = many_some 2 false input session taken

written : AreWritten 2 false session come.0 come.1
written = ⊎_elim (λ refused. absurd (let much = refused.too_much in omega (arith, much))) (λ fits. fits) come.2

-- `run --sessions 2` answers that, and what it answers is the journals of two sessions of what the input is taken as
ran : IsOutcome (with_sessions (codes "2")) input come.0 come.1
ran = answered (RunMany 2 1 false) (record { words_are = two; short = omega arith }) (made session taken come.2)

either : (limited : Bool) → HasEnded (if limited then Limited else Completed)
either true = inr refl
either false = inl refl

ended : HasEnded come.0
ended = subst HasEnded (sym written.many_run.status_is) (either (list_any is_limited written.many_run.runs))

are_runs : (s : SessionView) × IsTaken input s × AreWritten 2 false s come.0 come.1
are_runs = outcomes_are_many_runs (with_sessions (codes "2")) input 2 1 false come.0 come.1 two ended ran

-- nothing is no journal of theirs
not_nothing : (status : Status) → IsManyRun 2 false session status [] → ⊥
not_nothing status run = go run.runs run.are_runs.count run.bytes_are
  where
    go : (runs : List OneRun) → length runs ≡ 2 → [] ≡ joined false 0 (texts_of runs) → ⊥
    go [] count e = omega (arith, count)
    go (x ∷ runs) count e = cc
