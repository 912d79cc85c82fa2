-- What the line offers, found lane by lane from the last one on.
use Rattle.std.proofs.Common.{◌≡◌, ℕ, suc, ◌+◌, ◌-◌, ◌<◌, ◌||◌, true, false, List, [], ◌∷◌, refl, sym, ◌∙◌, ap, ⊎_elim, arith}
use Rattle.std.specs.Prelude.{if◌then◌else◌}
use Rattle.std.specs.List.{range_with_len}
use Rattle.std.proofs.lemmas.Bool.{cases_lt}
use Rattle.rcv_tree.specs.Bits.{has_point, members, IsPoint}
use Rattle.rcv_model.specs.Net.{Net}
use Rattle.rcv_model.specs.Places.{union}
use Rattle.rcv_points.proofs.Members.{none_members, union_members}
use Rattle.rcv_tables.specs.Line.{is_last, or_else, offered_from, lanes_after, offered_after, offered_on}

-- at the start of one lane more, before others
module _ (net : Net) (l : ℕ) (ls : List ℕ) (start behind : List ℕ) (begins : net.begins l ≡ members start) (others : members behind ≡ offered_from net ls) where
  pub from_last : (both : List ℕ) → is_last net l ≡ true → ((p : ℕ) → IsPoint p → has_point both p ≡ (has_point start p || has_point behind p)) → members both ≡ offered_from net (l ∷ ls)
  from_last both last set =
      union_members start behind both set
      ∙ ap (λ ps. union ps (members behind)) (sym begins)
      ∙ ap (union (net.begins l)) others
      ∙ ap (λ b. if b then union (net.begins l) (offered_from net ls) else or_else (net.begins l) (offered_from net ls)) (sym last)

  pub from_next : is_last net l ≡ false → net.begins l ≡ [] → members behind ≡ offered_from net (l ∷ ls)
  from_next last none =
      others
      ∙ ap (λ ps. or_else ps (offered_from net ls)) (sym none)
      ∙ ap (λ b. if b then union (net.begins l) (offered_from net ls) else or_else (net.begins l) (offered_from net ls)) (sym last)

  pub from_here : is_last net l ≡ false → (net.begins l ≡ [] → ⊥) → members start ≡ offered_from net (l ∷ ls)
  from_here last some =
      sym begins
      ∙ open_ (net.begins l) some
      ∙ ap (λ b. if b then union (net.begins l) (offered_from net ls) else or_else (net.begins l) (offered_from net ls)) (sym last)
    where
      open_ : (ps : List ℕ) → (ps ≡ [] → ⊥) → ps ≡ or_else ps (offered_from net ls)
      open_ [] n = absurd (n refl)
      open_ (p ∷ ps) n = refl

-- at the end of a lane of the last stage, and of another one
pub after_last : (net : Net) (l : ℕ) (none : List ℕ) → is_last net l ≡ true → ((p : ℕ) → has_point none p ≡ false) → members none ≡ offered_after net l
after_last net l none last empty = none_members none empty ∙ ap (λ b. if b then [] else offered_from net (lanes_after net l)) (sym last)

-- one lane more, going back from the last one
pub back_one : (net : Net) (last back : ℕ) (offered : List ℕ) → back < last → members offered ≡ offered_from net ((last - back) ∷ range_with_len (last - back + 1) back) → members offered ≡ offered_from net (range_with_len (last - (back + 1) + 1) (back + 1))
back_one net last back offered lt e =
    let here' : last - back ≡ last - (back + 1) + 1 = omega (arith, lt) in
    let more : suc back ≡ back + 1 = omega arith in
    e ∙ ap (λ k. offered_from net (range_with_len k (suc back))) here' ∙ ap (λ n. offered_from net (range_with_len (last - (back + 1) + 1) n)) more

pub after_other : (net : Net) (l last back : ℕ) (offered : List ℕ) → is_last net l ≡ false → last ≡ net.lane net.count → back ≡ last - l → members offered ≡ offered_from net (range_with_len (last - back + 1) back) → members offered ≡ offered_after net l
after_other net l last back offered other top end e =
    e
    ∙ ⊎_elim
    (λ lt. ap (λ k. offered_from net (range_with_len k back)) (let k : last - back + 1 ≡ l + 1 = omega (arith, lt, end) in k))
    (λ le. let none : back ≡ 0 = omega (arith, le, end) in ap (λ n. offered_from net (range_with_len (last - back + 1) n)) none ∙ sym (ap (λ n. offered_from net (range_with_len (l + 1) n)) none))
    (cases_lt l last)
    ∙ ap (λ n. offered_from net (range_with_len (l + 1) n)) (end ∙ ap (λ m. m - l) top)
    ∙ ap (λ b. if b then [] else offered_from net (lanes_after net l)) (sym other)

-- at a place
pub on_end : (net : Net) (k : ℕ) (offered : List ℕ) → net.offers k ≡ [] → members offered ≡ offered_after net (net.lane k) → members offered ≡ offered_on net k
on_end net k offered none e = e ∙ ap (λ ps. or_else ps (offered_after net (net.lane k))) (sym none)

pub on_lane : (net : Net) (k : ℕ) (offered : List ℕ) → (net.offers k ≡ [] → ⊥) → net.offers k ≡ members offered → members offered ≡ offered_on net k
on_lane net k offered some e = sym e ∙ go (net.offers k) some
  where
    go : (ps : List ℕ) → (ps ≡ [] → ⊥) → ps ≡ or_else ps (offered_after net (net.lane k))
    go [] n = absurd (n refl)
    go (p ∷ ps) n = refl
