-- How long the generated input is.
use Rattle.std.proofs.Common.{◌≡◌, ℕ, ◌≤◌, ◌<◌, ◌+◌, ◌*◌, ◌++◌, length, codes, decimal, refl, arith, length-append}
use Rattle.std.proofs.lemmas.Fmt.{length-decimal-le}
use Rattle.std.specs.Fmt.{digits}
use Rattle.rcv_gen.specs.Generated.{first_script, generated, head, message_line, messages, plan, protocol, script_line, scripts}

length_protocol : length protocol ≡ 508
unfolding protocol head messages message_line digits
length_protocol = refl

length_scripts : length (scripts 7) ≡ 455
unfolding scripts script_line digits
length_scripts = refl

length_plan : length plan ≡ 46
unfolding plan
length_plan = refl

-- What stands before and behind the number, and at most four digits of it.
length_first_script : (left : ℕ) → left < 10000 → length (first_script left) ≤ 120
unfolding first_script
length_first_script left few =
    omega (
      arith,
      length-append (codes "role R0 { var left = " ++ decimal left)
          (codes "; on more set left = left - 1; send more = left; pick more when left > 0; pick stop; }\n"),
      length-append (codes "role R0 { var left = ") (decimal left),
      length-decimal-le 4 left (omega arith) few (omega arith),
    )

pub generated_fits : (number : ℕ) → number ≤ 4000 → length (generated number) ≤ 1048576
generated_fits number few =
    let all = length_first_script (2 * (200 + number)) (omega arith) in
    omega (
      arith,
      all,
      length_protocol,
      length_scripts,
      length_plan,
      length-append (protocol ++ codes "%% scripts\n" ++ first_script (2 * (200 + number)) ++ scripts 7) plan,
      length-append (protocol ++ codes "%% scripts\n" ++ first_script (2 * (200 + number))) (scripts 7),
      length-append (protocol ++ codes "%% scripts\n") (first_script (2 * (200 + number))),
      length-append protocol (codes "%% scripts\n"),
    )
