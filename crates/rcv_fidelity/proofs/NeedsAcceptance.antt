-- The laws need acceptance: machines of a text that isn't accepted make what is no run, and meet a message that they don't expect.
use Rattle.std.proofs.Common.{List, [], ◌∷◌, refl, inl, arith}
use Rattle.rcv_tree.specs.declared.event.Event.{Event}
use Rattle.rcv_model.specs.Net.{Net, HasOneLane}
use Rattle.rcv_model.specs.Next.{IsProper, IsAccepted}
use Rattle.rcv_model.specs.Run.{IsRun}
use Rattle.rcv_model.specs.Form.{HasForm}
use Rattle.rcv_model.specs.Places.{net_of}
use Rattle.rcv_model.specs.Text.{Body, End, Single, Choose, NoMore, Or}
use Rattle.rcv_model.proofs.Cases.{sent, got}
use Rattle.rcv_model.proofs.Forms.{proper}
use Rattle.rcv_model.proofs.OneLane.{one_lane}
use Rattle.rcv_project.specs.Act.{Receiving, IsActAt}
use Rattle.rcv_fidelity.specs.Machines.{AreMachineSteps}
use Rattle.rcv_fidelity.specs.Safe.{AreSafe}
use Rattle.rcv_fidelity.proofs.Computing.{receiving, sends, are_steps, not_it}
use Rattle.rcv_fidelity.proofs.Computing.{hears as makes_hears}
use Rattle.rcv_fidelity.proofs.Safety.{expects, machines_safe}

-- choice at A { a from A to B; a from C to B; } or { b from A to B; b from C to B; }: nobody tells C
abbrev guess : Body
guess =
    Choose 0 (Or (Single (97 ∷ []) [] 0 1 1 (Single (97 ∷ []) [] 2 1 2 End)) (Or (Single (98 ∷ []) [] 0 1 3 (Single (98 ∷ []) [] 2 1 4 End)) NoMore)) End

abbrev net : Net
net = net_of guess

form : HasForm guess 3
form = record { numbered = (refl, (refl, (refl, (refl, tt)))); ends = (omega arith, omega arith, (λ e. omega arith), (omega arith, omega arith, (λ e. omega arith), (omega arith, omega arith, (λ e. omega arith), (omega arith, omega arith, (λ e. omega arith), tt)))); subjects = (omega arith, (tt, (tt, tt)), tt); apart = tt; few_roles = omega arith; few_points = omega arith }

is_proper : IsProper net 3
is_proper = proper guess 3 form

one : HasOneLane net
one = one_lane guess tt

-- A sends a, and C guesses b
abbrev guessed : List Event
guessed = sent 0 1 1 ∷ sent 2 4 1 ∷ got 1 1 2 1 ∷ []

guessed_steps : AreMachineSteps net guessed
guessed_steps = are_steps net guessed (sends net one [] (sent 0 1 1) refl refl refl, (sends net one (sent 0 1 1 ∷ []) (sent 2 4 1) refl refl refl, (makes_hears net one (sent 0 1 1 ∷ sent 2 4 1 ∷ []) (got 1 1 2 1) 0 refl refl refl ([], refl), tt)))

-- B has heard a from A, and waits for a from C
b_waits : IsActAt net 1 1 (Receiving 2 (2 ∷ []))
b_waits = receiving net one 1 1 2 2 refl (inl refl)

not_safe : AreSafe net 3 guessed → ⊥
not_safe safe = not_it 4 2 (λ e. omega arith) (safe.expected 1 2 (2 ∷ []) _ [] b_waits refl)

no_run : IsRun net guessed → ⊥
no_run run = not_it 4 2 (λ e. omega arith) (expects net 3 is_proper guessed run 1 2 (2 ∷ []) _ [] b_waits refl)

not_accepted : IsAccepted net 3 → ⊥
not_accepted accepted = not_safe (machines_safe net 3 guessed (record { proper = is_proper; accepted = accepted }) guessed_steps)
