-- What the closure borrows that runs the cells of a half can be lent to another thread.
use denote.Ref.{NamedLft}
use mathlib.Core.List.{[], ◌∷◌}
use Prim.Native.Nat.{ℕ}
use base.Fml.{Lft}
use mir.Syntax.{Sym, Ty, Lifetime}
use denote.Exit.{Kept}
use denote.Param.{arg, param}
use denote.Param.Send.{IsSend, IsSync, sendable, param_send, param_sync, arg_send, recorded_send, struct_send, shr_send, mut_send, mut_slice_send}
use denote.RattleType.{RattleType}
use denote.Ref.{ShrRef, MutRef}
use denote.Slice.{MutSlice}
use denote.Struct.Declared.{shape}
use denote.Struct.Tuple.{TupleAt, type_at}
use Rattle.std.proofs.Crossing as std
use Rattle.std.specs.contracts.alloc.Global as allocator
use Rattle.std.specs.contracts.impls.GlobalAllocator.TheImpl as heaps
use Rattle.std.specs.contracts.option.Option as option
use Rattle.std.specs.contracts.vec.Vec as vector
use Rattle.rcv_fence.proofs.watch.Watch.TheSendSync as watches
use Rattle.rcv_fence.specs.contracts.watch.Watch as watch
use Rattle.rcv_role.specs.contracts.cell.Cell as cell
use Rattle.rcv_cells.specs.contracts.house.Crew as crew
use Rattle.rcv_cells.proofs.house.Crew.TheSendSync as crews
use Rattle.rcv_cells.proofs.Crossing.{place_send}

pub half_send : (ℓ : NamedLft) → IsSend (vector.the_row (option.the_row (cell.the_row ℓ)) allocator.the_row heaps.ghosts)
half_send ℓ = search (std.crosses, place_send ℓ, sendable) depth 60 fits 20000

-- a crew whose runtime and gate can be shared
pub crew_sync : (ℓ : NamedLft) (R G : RattleType) → IsSync R → IsSync G → IsSync (crew.the_row ℓ R G)
crew_sync ℓ R G r g = search (std.crosses, crews.the_sync, r, g, sendable) depth 60 fits 20000

-- and a closure over four things that can be lent
closure_send : (name : Sym) (A B C D : RattleType) → IsSend A → IsSend B → IsSend C → IsSend D → IsSend (TupleAt name (A ∷ B ∷ C ∷ D ∷ []))
closure_send name A B C D a b c d =
    let T = type_at name (A ∷ B ∷ C ∷ D ∷ []) in
    recorded_send _ T.D T.to T.to_one (struct_send (shape T) (a, (b, (c, (d, tt)))))

-- the closure that runs such cells
pub runner_send : (i j k : ℕ) (δ : Ty) (kept : Kept) (name : Sym) (m m' m'' m3 : Lifetime) (κ κ' κ'' κ3 : Lft) (ℓ ℓ' : NamedLft) (R G : RattleType) → IsSync R → IsSync G
    → IsSend (param i (arg δ kept (TupleAt name (ShrRef m κ (crew.the_row ℓ (param j R) (param k G)) ∷ MutRef m' κ' (vector.the_row (option.the_row (cell.the_row ℓ')) allocator.the_row heaps.ghosts) ∷ MutRef m'' κ'' watch.the_row ∷ MutSlice m3 κ3 watch.the_row ∷ []))))
runner_send i j k δ kept name m m' m'' m3 κ κ' κ'' κ3 ℓ ℓ' R G r g = param_send i _ (arg_send δ kept _ (closure_send name _ _ _ _
    (shr_send m κ (crew.the_row ℓ (param j R) (param k G)) (crew_sync ℓ (param j R) (param k G) (param_sync j R r) (param_sync k G g)))
    (mut_send m' κ' _ (half_send ℓ'))
    (mut_send m'' κ'' watch.the_row (search (std.crosses, watches.the_send, sendable)))
    (mut_slice_send m3 κ3 watch.the_row (search (std.crosses, watches.the_send, sendable)))))
