-- Some later stage has a point where the stage of the last point is later.
use Rattle.std.proofs.Common.{◌≡◌, ℕ, ◌<◌, true, arith}
use Rattle.std.specs.Prelude.{◌↔◌, IsTrue, nat_lt}
use Rattle.std.proofs.lemmas.Bool.Decides.{nat_tests}
use Rattle.rcv_model.specs.Net.{Net}
use Rattle.rcv_model.specs.Next.{HasLater, IsProper}
use Rattle.rcv_accept.specs.Lists.{IsInText}

to_less : (a b : ℕ) → nat_lt a b ≡ true → a < b
to_less a b t = grind (arith, nat_tests)

of_less : (a b : ℕ) → a < b → nat_lt a b ≡ true
of_less a b lt = grind (arith, nat_tests)

pub later_by_last : (net : Net) (roles p own last : ℕ) → IsProper net roles → IsInText net p → own ≡ net.stage (net.lane p) → last ≡ net.stage (net.lane net.count) → IsTrue (nat_lt own last) ↔ HasLater net p
later_by_last net roles p own last proper text e f = (to, of)
  where
    to : IsTrue (nat_lt own last) → HasLater net p
    to t = let lt = to_less own last t in (net.count, (let low = text.0 in let high = text.1 in omega (arith, low, high)), omega arith, omega (arith, lt, e, f))

    of : HasLater net p → IsTrue (nat_lt own last)
    of a = of_less own last (let up = proper.lanes.in_order a.0 net.count a.1 a.2 (omega arith) in let lt = a.3 in omega (arith, up, lt, e, f))
