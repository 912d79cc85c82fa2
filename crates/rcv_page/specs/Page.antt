-- A text on its way to a sink: its front was written, and a page holds its end.
use Rattle.std.specs.Prelude.{◌≡◌, ℕ, ◌≤◌, Bool, true, false, List, ◌++◌}
use Rattle.std.specs.declared.option.Option.{Option}
use Rattle.std.specs.Io.KnownBytes.{append_known}
use Rattle.rcv_io.specs.Causes.{Rose}
use Rattle.rcv_io.specs.Sink.{WroteBeginning}

-- A page: the bytes that it holds, and whether a call of the sink has failed.
pub record PageView : Type 0 where
  pub held : List ℕ
  pub failed : Bool

-- A page in front of a sink, and what the sink tells: what was written to it, and how often a call has failed.
pub record PageState : Type 0 where
  pub written : Option (List ℕ)
  pub faults : ℕ
  pub held : List ℕ
  pub failed : Bool

abbrev pub state : Option (List ℕ) → ℕ → List ℕ → Bool → PageState
state written faults held failed = record { written = written; faults = faults; held = held; failed = failed }

-- This page in front of this sink, by what the sink tells.
abbrev pub at : {K : Type 0} → (K → Option (List ℕ)) → (K → ℕ) → K → PageView → PageState
at written faults sink page = state (written sink) (faults sink) page.held page.failed

-- A text began on a sink that told `start` and `before`, and no call has failed: the front of the text was written, and the rest is held.
pub record Waits (start : Option (List ℕ)) (before : ℕ) (s : PageState) (text : List ℕ) : Type 0 where
  pub front : List ℕ
  pub whole : front ++ s.held ≡ text
  pub written : s.written ≡ append_known start front
  pub calm : s.faults ≡ before

-- A text began on a sink that told `start` and `before`, and a call has failed: a beginning of the text was written, not all of it.
pub record Broke (start : Option (List ℕ)) (before : ℕ) (s : PageState) (text : List ℕ) : Type 0 where
  pub beginning : WroteBeginning start s.written text
  pub later : before ≤ s.faults
  pub rose : Rose before s.faults

-- The text is on its way: one of the two, as the page says.
pub record Carries (start : Option (List ℕ)) (before : ℕ) (s : PageState) (text : List ℕ) : Type 0 where
  pub waits : s.failed ≡ false → Waits start before s text
  pub broke : s.failed ≡ true → Broke start before s text

-- From s to t the text that is on its way went on with these bytes, whichever text it was.
pub record Adds (s t : PageState) (added : List ℕ) : Type 0 where
  pub goes_on :
      (start : Option (List ℕ)) (before : ℕ) (text : List ℕ)
      → Carries start before s text
      → Carries start before t (text ++ added)
