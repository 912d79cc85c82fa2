-- The chain goes on to places that weren't met before; where it comes back or ends, the role meets nowhere what is wanted.
use Rattle.std.proofs.Common.{◌∙◌, subst, sym, refl, inl, arith}
use Rattle.rcv_model.specs.Net.{IsIn}
use Rattle.rcv_model.specs.Next.{met_by}
use Rattle.rcv_points.specs.Follow.{net_in}
use Rattle.rcv_points.specs.Found.{IsForced}
use Rattle.rcv_points.proofs.Finding.{no_flag_is_up}
use Rattle.rcv_points.proofs.Meeting.{met_in_text, met_own}
use Rattle.rcv_points.proofs.Chains.{ChainSoFar, chain_start, chain_within, chain_back, chain_on, chain_ends, longer}
use Rattle.rcv_points.proofs.chain.chain_meets.Goals as goal

pub loop-role-init : goal.loop-role-init
loop-role-init c = (
  subst (λ l. ChainSoFar (net_in c.args.points.now) c.args.role c.args.place c.args.wanted.now l c.args.place) (sym c.new-met.ensures) (chain_start (net_in c.args.points.now) c.args.role c.args.place c.args.wanted.now),
  c.owns-owned.ensures,
)

pub has-requires : goal.has-requires
has-requires c = let le = chain_within (net_in c.args.points.now) c.args.role 8 c.count.ensures.within.proper c.requires c.loop-role.invariant.0.chain in let few = c.count.ensures.within.few in omega (arith, le, few)

pub add-requires : goal.add-requires
add-requires c = let le = chain_within (net_in c.args.points.now) c.args.role 8 c.count.ensures.within.proper c.requires c.loop-role.invariant.0.chain in let few = c.count.ensures.within.few in omega (arith, le, few)

pub met_at-ahead-requires-clause-last : goal.met_at-ahead-requires-clause-last
met_at-ahead-requires-clause-last c = chain_within (net_in c.args.points.now) c.args.role 8 c.count.ensures.within.proper c.requires c.loop-role.invariant.0.chain

pub met_at-ahead-requires-clause-told : goal.met_at-ahead-requires-clause-told
met_at-ahead-requires-clause-told c = c.loop-role.invariant.1

pub returns-then-are_same : goal.returns-then-are_same
returns-then-are_same c = (λ t. (c.loop-role.at, c.loop-role.invariant.0.chain, sym c.met_at-ahead.ensures ∙ c.if-are_same.ensures.0 refl), λ m. refl)

pub forced-requires : goal.forced-requires
forced-requires c = λ p i. met_in_text (net_in c.args.points.now) 8 c.args.role c.loop-role.at p c.count.ensures.within.proper (subst (IsIn p) c.met_at-ahead.ensures i)

pub loop-role-smaller : goal.loop-role-smaller
loop-role-smaller c = let lt = longer c.loop-role.met c.add.new.self c.loop-role.at c.add.ensures.adds (λ i. no_flag_is_up (c.loop-role-test.ensures.1 i)) in let few = c.add.ensures.few in omega (arith, lt, few)

pub loop-role-preserved : goal.loop-role-preserved
loop-role-preserved c =
    let net = net_in c.args.points.now in
    let forced' = subst (λ p. IsForced net c.args.role (met_by net c.args.role c.loop-role.at) p) (sym c.point.view_is) (subst (λ ps. IsForced net c.args.role ps c.in-Some.point) c.met_at-ahead.ensures c.in-Some.ensures) in (
      chain_on net c.args.role c.args.place c.args.wanted.now c.loop-role.met c.add.new.self c.loop-role.at c.point.inside.0 c.loop-role.invariant.0 c.add.ensures.adds (λ e. no_flag_is_up (c.if-are_same.ensures.1 (c.met_at-ahead.ensures ∙ e))) forced',
      λ low. (λ t. met_own net 8 c.args.role c.loop-role.at c.point.inside.0 c.count.ensures.within.proper (subst (IsIn c.point.inside.0) (sym forced'.0) (inl refl)), λ h. refl),
    )

pub returns-in-None : goal.returns-in-None
returns-in-None c = (λ t. absurd (no_flag_is_up t), λ m. absurd (chain_ends (net_in c.args.points.now) c.args.role c.args.place c.args.wanted.now c.loop-role.met c.add.new.self c.loop-role.at c.loop-role.invariant.0 c.add.ensures.adds (λ e. no_flag_is_up (c.if-are_same.ensures.1 (c.met_at-ahead.ensures ∙ e))) (λ p f. c.in-None.ensures p (subst (λ ps. IsForced (net_in c.args.points.now) c.args.role ps p) (sym c.met_at-ahead.ensures) f)) m))

pub returns : goal.returns
returns c = (λ t. absurd (no_flag_is_up t), λ m. absurd (chain_back (net_in c.args.points.now) c.args.role c.args.place c.args.wanted.now c.loop-role.met c.loop-role.at c.loop-role.invariant.0 (c.loop-role-test.ensures.0 refl) m))
