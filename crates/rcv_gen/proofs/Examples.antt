-- The generated input with number 12, byte by byte, and the summary of a short journal.
use Rattle.std.proofs.Common.{◌≡◌, ℕ, List, [], ◌∷◌, ◌++◌, ap, arith, flat_map, codes, get_or, refl}
use Rattle.std.specs.Prelude.{pos}
use Rattle.std.specs.Fmt.{digits}
use Rattle.rcv_tree.specs.declared.entry.Entry.{Entry}
use Rattle.rcv_tree.specs.declared.entry.Entry.TheVariants.{Send, Recv, Crash, Recover}
use Rattle.rcv_tree.specs.declared.event.Dir.TheVariants.{Sent, Got}
use Rattle.rcv_gen.specs.Generated.{first_script, generated, head, message_line, messages, plan, protocol, script_line, scripts}
use Rattle.rcv_gen.specs.Summary.{counts_of, events_line, failures_line, number_line, size_line, summary_text}

abbrev lines : List (List ℕ)
lines =
    codes "module gen;" ∷
    codes "global protocol Gen(role R0, role R1, role R2, role R3, role R4, role R5, role R6, role R7) {" ∷
    codes "rec L {" ∷
    codes "choice at R0 {" ∷
    codes "more(Int) from R0 to R1;" ∷
    codes "more(Int) from R1 to R2;" ∷
    codes "more(Int) from R2 to R3;" ∷
    codes "more(Int) from R3 to R4;" ∷
    codes "more(Int) from R4 to R5;" ∷
    codes "more(Int) from R5 to R6;" ∷
    codes "more(Int) from R6 to R7;" ∷
    codes "more(Int) from R7 to R0;" ∷
    codes "continue L;" ∷
    codes "} or {" ∷
    codes "stop() from R0 to R1;" ∷
    codes "stop() from R1 to R2;" ∷
    codes "stop() from R2 to R3;" ∷
    codes "stop() from R3 to R4;" ∷
    codes "stop() from R4 to R5;" ∷
    codes "stop() from R5 to R6;" ∷
    codes "stop() from R6 to R7;" ∷
    codes "}" ∷
    codes "}" ∷
    codes "}" ∷
    codes "%% scripts" ∷
    codes "role R0 { var left = 424; on more set left = left - 1; send more = left; pick more when left > 0; pick stop; }" ∷
    codes "role R1 { var v = 0; on more set v = value; send more = v + 1; }" ∷
    codes "role R2 { var v = 0; on more set v = value; send more = v + 1; }" ∷
    codes "role R3 { var v = 0; on more set v = value; send more = v + 1; }" ∷
    codes "role R4 { var v = 0; on more set v = value; send more = v + 1; }" ∷
    codes "role R5 { var v = 0; on more set v = value; send more = v + 1; }" ∷
    codes "role R6 { var v = 0; on more set v = value; send more = v + 1; }" ∷
    codes "role R7 { var v = 0; on more set v = value; send more = v + 1; }" ∷
    codes "%% plan" ∷
    codes "every R3 64" ∷
    codes "crash R3 101" ∷
    codes "crash R6 250" ∷
    []

number_12 : generated 12 ≡ flat_map (λ line. line ++ codes "\n") lines
unfolding first_script head message_line messages plan protocol script_line scripts digits
number_12 = refl

-- A short journal of ping and pong, in which B fails behind its Send.
abbrev entries : List Entry
entries =
    Send (record { role = 0; dir = Sent; point = 1; value = pos 0; stamp = 1; sent = 1 })
    ∷ Recv (record { role = 1; dir = Got; point = 1; value = pos 0; stamp = 2; sent = 1 })
    ∷ Send (record { role = 1; dir = Sent; point = 2; value = pos 0; stamp = 3; sent = 3 })
    ∷ Crash 1
    ∷ Recover 1 (record { 0 = 2 }) (1 ∷ 0 ∷ 0 ∷ 0 ∷ 0 ∷ 0 ∷ 0 ∷ 0 ∷ []) 2
    ∷ Recv (record { role = 1; dir = Got; point = 1; value = pos 0; stamp = 5; sent = 1 })
    ∷ Send (record { role = 1; dir = Sent; point = 2; value = pos 0; stamp = 6; sent = 6 })
    ∷ Recv (record { role = 0; dir = Got; point = 2; value = pos 0; stamp = 7; sent = 6 })
    ∷ []

-- It is counted whole: undone events, too.
counted_whole : counts_of entries ≡ record { sends = 3; receives = 3; crashes = 1; recoveries = 1; undone = 2 }
counted_whole = refl

summed_up : summary_text 12 2 2 entries 4 (codes "completed\n") ≡ flat_map (λ line. line ++ codes "\n")
    (codes "gen 12" ∷
    codes "roles 2 points 2" ∷
    codes "entries 8" ∷
    codes "sends 3 receives 3" ∷
    codes "crashes 1 recoveries 1 undone 2" ∷
    codes "kept 4" ∷
    codes "completed" ∷
    [])
unfolding number_line size_line events_line failures_line digits
summed_up = refl

-- Undone events aren't left out of the Sends.
not_the_kept_sends : (counts_of entries).sends ≡ 2 → ⊥
not_the_kept_sends e = let three : 3 ≡ (counts_of entries).sends = refl in omega (arith, three, e)

-- Another number is another input: R0 counts down from 422, not from 424.
abbrev digit_2 : ℕ
digit_2 = 50

abbrev digit_4 : ℕ
digit_4 = 52

other_digit : generated 11 ≡ generated 12 → digit_2 ≡ digit_4
unfolding first_script head message_line messages plan protocol script_line scripts digits
other_digit e = ap (λ text. get_or text 542 0) e

not_number_11 : generated 11 ≡ generated 12 → ⊥
not_number_11 e = let other = other_digit e in omega (arith, other)
