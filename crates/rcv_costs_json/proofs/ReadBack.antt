-- The value of costs is plain, and so it is read back.
use Rattle.std.proofs.Common.{ℕ, suc, ◌*◌, ◌^◌, ◌<◌, ◌≤◌, Bool, true, false, cond, Option, None, Some, List, [], ◌∷◌, length, refl, arith, codes}
use Rattle.std.specs.Prelude.{◌==◌, nat_lt, if◌then◌else◌}
use Rattle.std.specs.List.{All, range_with_len}
use Rattle.std.proofs.lemmas.List.Sums.{sum_by-cons}
use Rattle.std.proofs.lemmas.List.Elements.{All-head, All-tail}
use Rattle.json.proofs.Printed.Utf8.{IsUtf8-are_ascii}
use Rattle.serde_json.specs.View.{items_of}
use Rattle.rcv_tree.specs.Bits.{has_bit}
use Rattle.rcv_session.specs.Session.{SessionView, roles_of, net_for}
use Rattle.rcv_journal.specs.JournalText.{name_of}
use Rattle.rcv_export.specs.Pieces.{word_data}
use Rattle.rcv_export.proofs.Plain.{IsPlain, ArePlain, line_is_read, plain_each, plain_map, plain_range}
use Rattle.rcv_export.proofs.Names.{ascii_is_text}
use Rattle.rcv_costs.specs.declared.numbers.Cost.{Cost}
use Rattle.rcv_costs.specs.declared.numbers.Costs.{Costs}
use Rattle.rcv_losses.specs.Totals.{costs_by, undone_in_all, worse, worst_after, worst_of}
use Rattle.rcv_costs_json.specs.CostsJson.{label_data, name_data, concerned_data, failure_data, worst_count, total_data, worst_data, costs_data}
use Rattle.rcv_costs_json.specs.Told.{FitsNumbers, FitNumbers}
use Rattle.rcv_costs_json.specs.Laws.{CostsAreReadBack}

-- a role's crashes undo fewer than 2 ^ 64 events
undone_few : (r : ℕ) (costs : List Cost) → All FitsNumbers costs → undone_in_all (costs_by r costs) ≤ length costs * 2 ^ 32
undone_few r [] all = omega arith
undone_few r (cost ∷ costs) all = go (cost.role == r) (undone_few r costs (All-tail FitsNumbers cost costs all)) (All-head FitsNumbers cost costs all).undone
  where
    go : (b : Bool) → undone_in_all (costs_by r costs) ≤ length costs * 2 ^ 32 → cost.undone < 2 ^ 32 → undone_in_all (cond b (cost ∷ costs_by r costs) (costs_by r costs)) ≤ suc (length costs) * 2 ^ 32
    go true rest few =
        let more = sum_by-cons (λ (c : Cost). c.undone) cost (costs_by r costs) in
        let both : undone_in_all (cost ∷ costs_by r costs) ≤ suc (length costs) * 2 ^ 32 = omega (arith, more, rest, few) in
        both
    go false rest few =
        let same : undone_in_all (costs_by r costs) ≤ suc (length costs) * 2 ^ 32 = omega (arith, rest) in
        same

-- the worst fits if all do
abbrev Fits : Option Cost → Type 0
Fits None = Unit {0}
Fits (Some cost) = FitsNumbers cost

worse_fits : (best : Option Cost) (cost : Cost) → Fits best → FitsNumbers cost → Fits (worse best cost)
worse_fits None cost so here = here
worse_fits (Some best) cost so here = go (nat_lt best.undone cost.undone)
  where
    go : (b : Bool) → Fits (cond b (Some cost) (Some best))
    go true = here
    go false = so

worst_fits : (best : Option Cost) (costs : List Cost) → Fits best → All FitsNumbers costs → Fits (worst_after best costs)
worst_fits best [] so all = so
worst_fits best (cost ∷ costs) so all =
    worst_fits (worse best cost) costs (worse_fits best cost so (All-head FitsNumbers cost costs all)) (All-tail FitsNumbers cost costs all)

worst_by_fits : (r : ℕ) (best : Option Cost) (costs : List Cost) → Fits best → All FitsNumbers costs → Fits (worst_after best (costs_by r costs))
worst_by_fits r best [] so all = so
worst_by_fits r best (cost ∷ costs) so all =
    let rest = All-tail FitsNumbers cost costs all in
    go (cost.role == r) (worst_by_fits r (worse best cost) costs (worse_fits best cost so (All-head FitsNumbers cost costs all)) rest) (worst_by_fits r best costs so rest)
  where
    go : (b : Bool) → Fits (worst_after (worse best cost) (costs_by r costs)) → Fits (worst_after best (costs_by r costs)) → Fits (worst_after best (cond b (cost ∷ costs_by r costs) (costs_by r costs)))
    go true with_it without = with_it
    go false with_it without = without

module _ (session : SessionView) where
  plain_label : (n : ℕ) (o : Option ℕ) → IsPlain n (label_data session o)
  plain_label n None = tt
  plain_label n (Some p) = ascii_is_text ((net_for session).label p)

  plain_concerned : (set r : ℕ) → ArePlain 0 (items_of (concerned_data session set r))
  plain_concerned set r = go (has_bit set r)
    where
      go : (b : Bool) → ArePlain 0 (items_of (if b then name_data session r ∷ [] else []))
      go true = (ascii_is_text (name_of session r), tt)
      go false = tt

  plain_failure : (cost : Cost) → FitsNumbers cost → IsPlain 2 (failure_data session cost)
  plain_failure cost fits = (
    1,
    omega arith,
    (
      IsUtf8-are_ascii (codes "after") refl,
      plain_label 1 cost.before,
      (
        IsUtf8-are_ascii (codes "again") refl,
        fits.again,
        (
          IsUtf8-are_ascii (codes "before") refl,
          plain_label 1 cost.after,
          (
            IsUtf8-are_ascii (codes "concerned") refl,
            (0, omega arith, plain_range 0 (concerned_data session cost.concerned.0) 0 (roles_of session) (λ r low high. plain_concerned cost.concerned.0 r)),
            (
              IsUtf8-are_ascii (codes "count") refl,
              omega (arith, fits.count),
              (
                IsUtf8-are_ascii (codes "kept") refl,
                fits.kept,
                (
                  IsUtf8-are_ascii (codes "lost") refl,
                  fits.lost,
                  (
                    IsUtf8-are_ascii (codes "role") refl,
                    ascii_is_text (name_of session cost.role),
                    (IsUtf8-are_ascii (codes "undone") refl, omega (arith, fits.undone), tt),
                  ),
                ),
              ),
            ),
          ),
        ),
      ),
    ),
    (
      ((refl, tt), ((refl, tt), ((refl, tt), ((refl, tt), ((refl, tt), ((refl, tt), ((refl, tt), ((refl, tt), tt)))))))),
      (
        ((refl, tt), ((refl, tt), ((refl, tt), ((refl, tt), ((refl, tt), ((refl, tt), ((refl, tt), tt))))))),
        (
          ((refl, tt), ((refl, tt), ((refl, tt), ((refl, tt), ((refl, tt), ((refl, tt), tt)))))),
          (
            ((refl, tt), ((refl, tt), ((refl, tt), ((refl, tt), ((refl, tt), tt))))),
            (
              ((refl, tt), ((refl, tt), ((refl, tt), ((refl, tt), tt)))),
              (
                ((refl, tt), ((refl, tt), ((refl, tt), tt))),
                (((refl, tt), ((refl, tt), tt)), (((refl, tt), tt), (tt, tt))),
              ),
            ),
          ),
        ),
      ),
    ),
  )

  plain_count : (n : ℕ) (worst : Option Cost) → Fits worst → IsPlain n (worst_count worst)
  plain_count n None fits = tt
  plain_count n (Some cost) fits = omega (arith, fits.count)

  plain_total : (costs : List Cost) → length costs < 2 ^ 32 → All FitsNumbers costs → (r : ℕ) → IsPlain 2 (total_data session costs r)
  plain_total costs few all r = (
    1,
    omega arith,
    (
      IsUtf8-are_ascii (codes "kept") refl,
      omega arith,
      (
        IsUtf8-are_ascii (codes "role") refl,
        ascii_is_text (name_of session r),
        (
          IsUtf8-are_ascii (codes "undone") refl,
          omega (arith, few, undone_few r costs all),
          (IsUtf8-are_ascii (codes "worst") refl, plain_count 1 (worst_of (costs_by r costs)) (worst_by_fits r None costs tt all), tt),
        ),
      ),
    ),
    (
      ((refl, tt), ((refl, tt), ((refl, tt), tt))),
      (((refl, tt), ((refl, tt), tt)), (((refl, tt), tt), (tt, tt))),
    ),
  )

  plain_worst : (worst : Option Cost) → Fits worst → IsPlain 4 (worst_data session worst)
  plain_worst None fits = tt
  plain_worst (Some cost) fits = (
    3,
    omega arith,
    (
      IsUtf8-are_ascii (codes "count") refl,
      omega (arith, fits.count),
      (IsUtf8-are_ascii (codes "role") refl, ascii_is_text (name_of session cost.role), tt),
    ),
    (((refl, tt), tt), (tt, tt)),
  )

  pub plain_costs : (costs : Costs) → FitNumbers costs → IsPlain 100 (costs_data session costs)
  plain_costs costs fit = (
    4,
    omega arith,
    (
      IsUtf8-are_ascii (codes "failures") refl,
      (2, omega arith, plain_map 2 FitsNumbers (failure_data session) plain_failure costs.list.items fit.each),
      (
        IsUtf8-are_ascii (codes "protocol") refl,
        ascii_is_text session.protocol.name,
        (
          IsUtf8-are_ascii (codes "roles") refl,
          (0, omega arith, plain_each 0 word_data (λ name. ascii_is_text name) session.protocol.roles),
          (
            IsUtf8-are_ascii (codes "step") refl,
            omega (arith, fit.step),
            (
              IsUtf8-are_ascii (codes "totals") refl,
              (2, omega arith, plain_each 2 (total_data session costs.list.items) (plain_total costs.list.items fit.few fit.each) (range_with_len 0 (roles_of session))),
              (IsUtf8-are_ascii (codes "worst") refl, plain_worst (worst_of costs.list.items) (worst_fits None costs.list.items tt fit.each), tt),
            ),
          ),
        ),
      ),
    ),
    (
      ((refl, tt), ((refl, tt), ((refl, tt), ((refl, tt), ((refl, tt), tt))))),
      (
        ((refl, tt), ((refl, tt), ((refl, tt), ((refl, tt), tt)))),
        (
          ((refl, tt), ((refl, tt), ((refl, tt), tt))),
          (((refl, tt), ((refl, tt), tt)), (((refl, tt), tt), (tt, tt))),
        ),
      ),
    ),
  )

pub costs_are_read_back : CostsAreReadBack
costs_are_read_back session costs fit = line_is_read (costs_data session costs) (plain_costs session costs fit)
