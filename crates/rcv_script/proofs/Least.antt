-- The least code that holds at a symbol.
use Rattle.std.proofs.Common.{◌≡◌, ℕ, ◌≤◌, cond, List, arith, Option, Some, option_map, unwrap_or}
use Rattle.std.proofs.lemmas.Bool.Decides.{nat_tests}
use Rattle.rcv_points.specs.Follow.{PointView}
use Rattle.rcv_script.specs.declared.fault.Fault.{Fault}
use Rattle.rcv_script.specs.declared.fault.Fault.TheVariants as faults
use Rattle.rcv_script.specs.Symbols.{Symbol}
use Rattle.rcv_script.specs.Table.{Holds, is_role, is_label, is_variable, is_attempt_in_state, is_without_payload, is_too_many}
use Rattle.rcv_script.specs.Refusals.{code_of}

-- the protocol's roles and messages
pub record Frame : Type 0 where
  pub roles : List (List ℕ)
  pub messages : List PointView

-- the first code from 31 on of which the test holds, and 37 where there is none
abbrev pub least_code : Frame → List Symbol → Symbol → ℕ
least_code frame back t =
    cond (is_role frame.roles back t) 31 (cond (is_label frame.roles frame.messages back t) 32
    (cond (is_variable back t) 33 (cond (is_attempt_in_state back t) 34
    (cond (is_without_payload frame.roles frame.messages back t) 35 (cond (is_too_many back t) 36 37)))))

-- what speaks against the symbol is the least code from 31 on that holds
abbrev pub Speaks : Frame → Option Fault → List Symbol → Symbol → Type 0
Speaks frame o back t = least_code frame back t ≡ unwrap_or (option_map code_of o) 37

-- the least code holds, and no lesser one
pub holds : (frame : Frame) (f : Fault) (back : List Symbol) (t : Symbol) → Speaks frame (Some f) back t
    → Holds frame.roles frame.messages f back t
holds frame faults.Token back t is = absurd (grind (arith, nat_tests, is))
holds frame _ back t is = grind (arith, nat_tests, is)

pub none_lesser : (frame : Frame) (f : Fault) (back : List Symbol) (t : Symbol) → Holds frame.roles frame.messages f back t
    → least_code frame back t ≤ code_of f
none_lesser frame faults.Token back t h = absurd h
none_lesser frame _ back t h = grind (arith, nat_tests, h)
