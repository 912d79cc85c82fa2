-- What contracts see of a preparation, and what it keeps.
use Rattle.std.specs.Prelude.{◌≡◌, ◌⊎◌, ℕ, ◌<◌, ◌≤◌, List, length, map, slice_index_or}
use Rattle.std.specs.List.{range_with_len}
use Rattle.rcv_session.specs.Session.{SessionView}
use Rattle.rcv_input.specs.Input.{IsTaken}
use Rattle.rcv_later.specs.Later.{IsLaterOf}
use Rattle.rcv_later.specs.declared.preparation.Stage.{Stage}
use Rattle.rcv_later.specs.declared.preparation.Stage.TheVariants.{Unread, Ready, Stopped}

-- How far a preparation has come: not begun; at its end, with the setup of this session; or stopped because memory ran out.
pub data StageView : Type 0 where
  Waits : StageView
  Prepared : (setup : SessionView) → StageView
  Stops : StageView

-- The input that is read, which of several sessions it is, counted from 0, and how far that has come.
pub record PreparationView : Type 0 where
  pub input : List ℕ
  pub by : ℕ
  pub stage : StageView

abbrev pub preparation_of : List ℕ → ℕ → StageView → PreparationView
preparation_of input by stage = record { input = input; by = by; stage = stage }

abbrev pub seen : Stage → StageView
seen Unread = Waits
seen (Ready setup) = Prepared setup
seen Stopped = Stops

-- If there is a setup, it is that of this session.
abbrev pub IsReadyFor : List ℕ → ℕ → Stage → Type 0
IsReadyFor input by Unread = Unit {0}
IsReadyFor input by (Ready setup) = IsLaterOf input by setup
IsReadyFor input by Stopped = Unit {0}

-- The input is taken as some session, and is no longer than an input may be.
pub record IsShortInput (input : List ℕ) : Type 0 where
  pub taken : (session : SessionView) × IsTaken input session
  pub short : length input ≤ 1048576

-- What a preparation keeps.
pub record IsPreparation (input : List ℕ) (by : ℕ) (stage : Stage) : Type 0 where
  pub of_input : IsShortInput input
  pub few : by ≤ 63
  pub ready : IsReadyFor input by stage

-- The setup has been made; or memory ran out, and that stopped the preparation.
abbrev pub IsReady : StageView → Type 0
IsReady (Prepared setup) = Unit {0}
IsReady _ = ⊥

abbrev pub HasStopped : StageView → Type 0
HasStopped Stops = Unit {0}
HasStopped _ = ⊥

-- How many turns are left: one to read the input and to make the setup.
abbrev pub left_of : StageView → ℕ
left_of Waits = 1
left_of (Prepared setup) = 0
left_of Stops = 0

-- No preparation is ready and has stopped.
pub not_both : (s : StageView) → IsReady s → HasStopped s → ⊥
not_both Waits e s = e
not_both (Prepared setup) e s = s
not_both Stops e s = e

-- The preparations of so many sessions before any of them has begun.
abbrev pub waiting : List ℕ → ℕ → List PreparationView
waiting input sessions = map (λ i. preparation_of input i Waits) (range_with_len 0 sessions)

-- The preparation of session i of this input, which is ready or has stopped.
pub record IsPrepared (input : List ℕ) (i : ℕ) (p : PreparationView) : Type 0 where
  pub input_is : p.input ≡ input
  pub by_is : p.by ≡ i
  pub through : IsReady p.stage ⊎ HasStopped p.stage

-- So many of them, in the order of the sessions.
pub record ArePrepared (input : List ℕ) (sessions : ℕ) (all : List PreparationView) : Type 0 where
  pub count : length all ≡ sessions
  pub each : (i : ℕ) (d : PreparationView) → i < sessions → IsPrepared input i (slice_index_or all i d)
