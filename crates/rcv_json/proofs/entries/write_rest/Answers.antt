-- The value is written as the number that it is.
use Rattle.std.proofs.Common.{◌≡◌, List, ◌++◌, ℕ, ℤ, OnOk, codes, decimal, append_assoc, ◌∙◌, ap, subst, rules, w64}
use mir.Val.{SFits}
use Rattle.std.proofs.lemmas.Int.{to_z-of_z}
use Rattle.std.specs.Fmt.{signed_decimal}
use Rattle.rcv_json.proofs.entries.write_rest.Goals as goal

pub returns : goal.returns
returns c =
    let event = c.args.event.now in
    let text = c.args.text.now in
    let value = signed_decimal event.value in
    let stamp = decimal event.stamp in
    let fits : SFits w64 event.value = search rules in
    let before =
    c.in_ok-word.ensures.ok
    ∙ ap (λ (t : List ℕ). t ++ codes ",") c.in_ok-signed_number.ensures.ok
    ∙ ap (λ (v : ℤ). text ++ signed_decimal v ++ codes ",") (to_z-of_z w64 event.value fits)
    ∙ append_assoc text value (codes ",") in
    let said = ap (λ (t : List ℕ). t ++ stamp) before ∙ append_assoc text (value ++ codes ",") stamp in
    subst (λ (t : List ℕ). OnOk c.large_number.result (c.large_number.new.self ≡ t)) said c.large_number.ensures.ok
