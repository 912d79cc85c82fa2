-- The definitions, computed at small examples.
use Rattle.std.proofs.Common.{◌≡◌, Some, None, [], ◌∷◌, refl, codes, arith}
use Rattle.std.specs.Fmt.{digits}
use Rattle.std.specs.List.{All}
use Rattle.std.proofs.lemmas.List.Elements.{All-nil, All-cons}
use Rattle.serde_json.specs.Written.{compact_text}
use Rattle.serde_json.proofs.OnLiterals.{serde_json_on_literals}
use Rattle.rcv_session.specs.Session.{SessionView, net_for}
use Rattle.rcv_costs.specs.declared.numbers.Cost.{Cost}
use Rattle.rcv_losses.specs.Totals.{worst_of}
use Rattle.rcv_costs_json.specs.CostsJson.{failure_data, total_data, worst_data}
use Rattle.rcv_costs_json.specs.Told.{FitsNumbers}

-- A and B; commit, point 1, from A to B; ack, point 2, from B to A
abbrev of_two : SessionView → SessionView
of_two session = record session { protocol = record session.protocol { roles = codes "A" ∷ codes "B" ∷ [] } }

record IsCommit (session : SessionView) : Type 0 where
  commit : (net_for (of_two session)).label 1 ≡ codes "commit"
  ack : (net_for (of_two session)).label 2 ≡ codes "ack"

-- B crashes between the two; and after both
abbrev between : Cost
between = record { role = 1; count = 1; before = Some 1; after = Some 2; lost = 1; undone = 1; kept = 2; concerned = record { 0 = 3 }; again = 1 }

abbrev at_end : Cost
at_end = record { role = 1; count = 2; before = Some 2; after = None; lost = 2; undone = 2; kept = 3; concerned = record { 0 = 3 }; again = 1 }

a_failure : (session : SessionView) → IsCommit session → compact_text (failure_data (of_two session) between) ≡ codes "{\"after\":\"commit\",\"again\":1,\"before\":\"ack\",\"concerned\":[\"A\",\"B\"],\"count\":1,\"kept\":2,\"lost\":1,\"role\":\"B\",\"undone\":1}"
unfolding digits serde_json_on_literals
a_failure session is = rw (is.commit, is.ack) refl

-- null stands for no event more
the_last : (session : SessionView) → IsCommit session → compact_text (failure_data (of_two session) at_end) ≡ codes "{\"after\":\"ack\",\"again\":1,\"before\":null,\"concerned\":[\"A\",\"B\"],\"count\":2,\"kept\":3,\"lost\":2,\"role\":\"B\",\"undone\":2}"
unfolding digits serde_json_on_literals
the_last session is = rw is.ack refl

a_total : (session : SessionView) → compact_text (total_data (of_two session) (between ∷ at_end ∷ []) 1) ≡ codes "{\"kept\":5,\"role\":\"B\",\"undone\":3,\"worst\":2}"
unfolding digits serde_json_on_literals
a_total session = refl

no_total : (session : SessionView) → compact_text (total_data (of_two session) (between ∷ at_end ∷ []) 0) ≡ codes "{\"kept\":0,\"role\":\"A\",\"undone\":0,\"worst\":null}"
unfolding digits serde_json_on_literals
no_total session = refl

the_worst : (session : SessionView) → compact_text (worst_data (of_two session) (worst_of (between ∷ at_end ∷ []))) ≡ codes "{\"count\":2,\"role\":\"B\"}"
unfolding digits serde_json_on_literals
the_worst session = refl

-- another count is another value, and so is no worst
another_count : (session : SessionView) → failure_data session between ≡ failure_data session (record between { count = 2 }) → ⊥
another_count session e = cc

not_none : (session : SessionView) → worst_data session None ≡ worst_data session (Some between) → ⊥
not_none session e = cc

-- costs with numbers that fit, and one with a number that doesn't
they_fit : All FitsNumbers (between ∷ [])
they_fit = All-cons FitsNumbers between [] (record { count = omega arith; lost = omega arith; undone = omega arith; kept = omega arith; again = omega arith }) (All-nil FitsNumbers)

too_many : FitsNumbers (record between { undone = 4294967296 }) → ⊥
too_many fits = omega (arith, fits.undone)
