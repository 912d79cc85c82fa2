-- Each failed role has saved enough; of a role that isn't declared nothing is forgotten.
use Rattle.std.proofs.Common.{◌≡◌, ◌<◌, ◌≤◌, true, false, length, refl, sym, ◌∙◌, ap, subst, ⊎_elim, arith}
use Rattle.std.specs.Prelude.{slice_index}
use Rattle.std.proofs.lemmas.Bool.{cases_lt}
use Rattle.rcv_tree.specs.Bits.{has_bit, is_listed}
use Rattle.rcv_ledger.proofs.Lists.{none_there}
use Rattle.rcv_guide.specs.declared.numbers.Numbers.{Numbers}
use Rattle.rcv_guide.specs.Numbers.{at_start, numbers_at}
use Rattle.rcv_guide.specs.Guide.{GuideView, roles_of, terms_of}
use Rattle.rcv_told.specs.Told.{group_of}
use Rattle.rcv_guide.proofs.Guides.{low, few_roles}
use Rattle.rcv_guide.proofs.guide.Guide.have_saved_enough.Goals as goal

pub group-group-requires : goal.group-group-requires
group-group-requires c = low c.self.invariant c.args.role (subst (λ (g : GuideView). c.args.role < roles_of g) (sym c.self.view_is) c.requires)

pub loop-number-preserved-then-not-has : goal.loop-number-preserved-then-not-has
loop-number-preserved-then-not-has c q lt t = ⊎_elim
    (λ below. c.loop-number.invariant q below t)
    (λ above.
    let here : q ≡ c.loop-number.number = omega (arith, lt, above) in
    let is : has_bit c.group-group.result.0 c.loop-number.number ≡ true = subst (λ n. has_bit c.group-group.result.0 n ≡ true) here t in
    let not : c.has.result ≡ false = (let g = c.if-not-has.true in cc) in
    let own = c.has.ensures in
    absurd (cc))
    (cases_lt q c.loop-number.number)

pub loop-number-preserved : goal.loop-number-preserved
loop-number-preserved c q lt t = ⊎_elim
    (λ below. c.loop-number.invariant q below t)
    (λ above.
    let here : c.loop-number.number ≡ q = omega (arith, lt, above) in
    let enough : c.has_saved_enough.result ≡ true = (let g = c.if-not-has_saved_enough.false in cc) in
    subst (λ n. (numbers_at c.args.self.now.numbers n).forgotten ≤ slice_index c.args.saved.now n) here (c.has_saved_enough.ensures.0 enough))
    (cases_lt q c.loop-number.number)

pub returns-then-not-has_saved_enough : goal.returns-then-not-has_saved_enough
returns-then-not-has_saved_enough c = (
  (λ t. absurd (cc)),
  λ all.
      let roles = few_roles c.self.invariant in
      let eight : c.loop-number.number < 8 = omega (arith, c.loop-number-test.true, c.roles-number-end.ensures.few) in
      let has : c.has.result ≡ true = (let g = c.if-not-has.false in cc) in
      let group = subst (λ (g : GuideView). is_listed (group_of (terms_of g) c.args.role) c.loop-number.number ≡ true) c.self.view_is (sym (c.group-group.ensures c.loop-number.number eight) ∙ sym c.has.ensures ∙ has) in
      let yes = c.has_saved_enough.ensures.1 (all c.loop-number.number eight group) in
      let no = c.if-not-has_saved_enough.true in
      absurd (cc),
)

pub returns : goal.returns
returns c = (
  (λ t q lt listed. ⊎_elim
      (λ declared.
      let has : has_bit c.group-group.result.0 q ≡ true = c.group-group.ensures q lt ∙ subst (λ (g : GuideView). is_listed (group_of (terms_of g) c.args.role) q ≡ true) (sym c.self.view_is) listed in
      c.loop-number.invariant q (omega (arith, declared, c.loop-number-test.false, c.roles-number-end.ensures.value)) has)
      (λ beyond.
      let size : length c.self.inside.numbers.items ≤ q = (let a = c.self.invariant.numbers in let r : roles_of c.args.self.now ≡ length c.self.inside.accepted.protocol.roles = ap (λ (g : GuideView). roles_of g) (sym c.self.view_is) in omega (arith, a, r, beyond)) in
      let none = ap (λ (x : Numbers). x.forgotten) (ap (λ (g : GuideView). numbers_at g.numbers q) (sym c.self.view_is) ∙ none_there c.self.inside.numbers.items q at_start size) in
      omega (arith, none))
      (cases_lt q (roles_of c.args.self.now))),
  λ all. refl,
)
