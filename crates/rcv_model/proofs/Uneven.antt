-- Hosts whose roles save at different steps, a role that has made more than it keeps, and roles that are due at once.
use Rattle.std.proofs.Common.{◌≡◌, ℕ, zero, suc, List, [], ◌∷◌, ◌++◌, refl, arith}
use Rattle.std.specs.Prelude.{pos, replicate}
use Rattle.rcv_tree.specs.declared.entry.Entry.{Entry}
use Rattle.rcv_tree.specs.declared.entry.Entry.TheVariants.{Crash}
use Rattle.rcv_model.specs.Text.{Body, End, Single}
use Rattle.rcv_model.specs.Plan.{EveryLine, CrashLine, HostLine, session_rules}
use Rattle.rcv_model.specs.Script.{Line, SendLine, TheAttempt}
use Rattle.rcv_model.specs.Journal.{Rules, start, reading, MaySend}
use Rattle.rcv_model.specs.Final.{IsStep}
use Rattle.rcv_model.proofs.Cases.{plain, ping, sent, got, says, send, recv, recover}
use Rattle.rcv_model.proofs.Checked.{send_by}
use Rattle.rcv_model.proofs.OneLane.{one_lane}
use Rattle.rcv_model.proofs.Roles.{up}

-- A tells B three times, B tells C, and C tells A. A and B share a host: A saves each event, B each third one
abbrev round_trip : Body
round_trip = Single [] [] 0 1 1 (Single [] [] 0 1 2 (Single [] [] 0 1 3 (Single [] [] 1 2 4 (Single [] [] 2 0 5 End))))

abbrev uneven : Rules
uneven = session_rules round_trip 3 (λ r. []) (EveryLine 1 3 ∷ HostLine (0 ∷ 1 ∷ []) ∷ CrashLine 0 4 ∷ CrashLine 1 4 ∷ [])

-- several workers: both roles of the host have crashed
abbrev both_crashed : List Entry
both_crashed =
    send 0 1 1 ∷ send 0 2 2 ∷ send 0 3 3 ∷ recv 1 1 2 1 ∷ recv 1 2 3 2 ∷ recv 1 3 4 3 ∷ send 1 4 5 ∷ Crash 1 ∷ recv 2 4 6 5
    ∷ send 2 5 7 ∷ recv 0 5 8 7 ∷ Crash 0 ∷ []

-- A has saved all, and loses only what depends on B's lost Send; B keeps the three events that it has saved itself; C is concerned
-- by B's start, since A has none; and one Recover takes the marks of both
one_recovery : reading uneven (both_crashed ++ recover 0 7 (3 ∷ 3 ∷ replicate 6 0) 4 ∷ []) ≡ record { kept = sent 0 1 1 ∷ sent 0 2 2 ∷ sent 0 3 3 ∷ got 1 1 2 1 ∷ got 1 2 3 2 ∷ got 1 3 4 3 ∷ []; roles = up 4 1 1 9 ∷ up 4 1 1 9 ∷ up 2 0 1 9 ∷ [] }
one_recovery = refl

-- what is saved is counted among the kept events: A has made two, keeps one, and saves each second one
abbrev twice : Rules
twice = plain ping 2 (λ r. 2) (λ r. 1 ∷ 2 ∷ [])

abbrev lost_once : List Entry
lost_once = send 0 1 1 ∷ Crash 0 ∷ recover 0 3 (replicate 8 0) 1 ∷ []

lost_again : reading twice (lost_once ++ send 0 1 3 ∷ Crash 0 ∷ recover 0 3 (replicate 8 0) 1 ∷ []) ≡ record { kept = []; roles = up 2 2 2 4 ∷ up 0 0 0 4 ∷ [] }
lost_again = refl

-- a crash that undoes nothing is no attempt: A sends its attempt, which is still 0
abbrev tells_attempt : ℕ → List Line
tells_attempt zero = SendLine [] TheAttempt ∷ []
tells_attempt (suc r) = []

abbrev early : Rules
early = session_rules ping 2 tells_attempt (CrashLine 0 0 ∷ [])

first_attempt : MaySend early (reading early (Crash 0 ∷ recover 0 1 (replicate 8 0) 0 ∷ [])) (sent 0 1 2)
first_attempt = send_by early (one_lane ping tt) (reading early (Crash 0 ∷ recover 0 1 (replicate 8 0) 0 ∷ [])) (sent 0 1 2) refl refl refl refl refl refl refl

not_one_more : MaySend early (reading early (Crash 0 ∷ recover 0 1 (replicate 8 0) 0 ∷ [])) (says 0 1 1 2) → ⊥
not_one_more may = let x = may.value in absurd (apart (cc))
  where
    apart : pos 1 ≡ pos 0 → ⊥
    apart e = cc

-- two roles that are due at once: the lower one crashes, and it recovers before the other crashes
abbrev at_once : Rules
at_once = plain ping 2 (λ r. 1) (λ r. 0 ∷ [])

not_the_higher : IsStep at_once (start 2) (Crash 1) → ⊥
not_the_higher step = step.1.1 0 (omega arith) (refl, omega arith)

not_before_the_recovery : IsStep at_once (reading at_once (Crash 0 ∷ [])) (Crash 1) → ⊥
not_before_the_recovery step = step.0 0 (omega arith, refl)
