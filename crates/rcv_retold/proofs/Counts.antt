-- The counts that a recovery lists.
use Rattle.std.proofs.Common.{◌≡◌, ℕ, zero, suc, ◌<◌, refl, arith}
use Rattle.std.specs.Prelude.{slice_index, if◌then◌else◌}
use Rattle.rcv_tree.specs.Bits.{has_bit}
use Rattle.rcv_guide.specs.declared.recovery.Recovery.{Recovery}
use Rattle.rcv_guide.specs.Guide.{listed_of}

pub listed_at : (back : Recovery) (r : ℕ) → r < 8 → slice_index (listed_of back) r ≡ (if has_bit back.concerned.0 r then slice_index back.kept r else 0)
listed_at back zero lt = refl
listed_at back (suc zero) lt = refl
listed_at back (suc (suc zero)) lt = refl
listed_at back (suc (suc (suc zero))) lt = refl
listed_at back (suc (suc (suc (suc zero)))) lt = refl
listed_at back (suc (suc (suc (suc (suc zero))))) lt = refl
listed_at back (suc (suc (suc (suc (suc (suc zero)))))) lt = refl
listed_at back (suc (suc (suc (suc (suc (suc (suc zero))))))) lt = refl
listed_at back (suc (suc (suc (suc (suc (suc (suc (suc r)))))))) lt = absurd (omega (arith, lt))
