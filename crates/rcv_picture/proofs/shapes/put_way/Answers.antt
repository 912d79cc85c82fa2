-- The places, one by one.
use Rattle.std.proofs.Common.{◌≡◌, ◌∙◌, ℕ, List, ◌++◌, OnOk, codes, flat_map, sym, ap, subst}
use Rattle.rcv_picture.specs.Tree.{escaped, attribute_text}
use Rattle.rcv_picture.specs.Drawn.{place_text}
use Rattle.rcv_picture.proofs.Chains.{three}
use Rattle.rcv_picture.proofs.Escapes.{way_escaped}
use Rattle.rcv_picture.proofs.shapes.put_way.Goals as goal

pub returns : goal.returns
unfolding attribute_text
returns c =
    let t = c.args.text.now in
    let p1 : List ℕ = codes " d=\"M" in
    let p2 : List ℕ = flat_map (λ at. escaped (place_text at)) c.args.places.now in
    let end : List ℕ = codes "\"" in
    let s1 = c.in_ok-word.ensures.ok in
    let s2 = c.in_ok-put_places.ensures ∙ ap (λ (s : List ℕ). s ++ p2) s1 in
    let said = ap (λ (s : List ℕ). s ++ end) s2 ∙ three t p1 p2 end ∙ ap (λ (s : List ℕ). t ++ (p1 ++ s ++ end)) (sym (way_escaped c.args.places.now)) in
    subst (λ (s : List ℕ). OnOk c.byte.result (c.byte.new.self ≡ s)) said c.byte.ensures.ok
