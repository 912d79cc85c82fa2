-- One text more.
use Rattle.std.proofs.Common.{[], ◌∷◌, ◌∙◌, ap}
use Rattle.std.proofs.lemmas.List.Elements.{filter_map-append}
use Rattle.rcv_picture.specs.declared.pixels.At.{At}
use Rattle.rcv_picture.specs.declared.shape.Shape.TheVariants.{Text}
use Rattle.rcv_heat.specs.Words.{words_of, words_in}
use Rattle.rcv_heat.proofs.labels.add_words.Goals as goal

pub returns : goal.returns
returns c =
    let place : At = record { x = record { 0 = c.args.x }; y = record { 0 = c.args.base } } in
    ap words_in c.in_ok-push.ensures.items
    ∙ filter_map-append words_of c.args.shapes.now.items (Text place c.args.anchor c.args.look c.args.text ∷ [])
