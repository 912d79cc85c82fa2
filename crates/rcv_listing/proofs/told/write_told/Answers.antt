-- The pieces, one after another.
use Rattle.std.proofs.Common.{◌++◌, codes, refl, sym, ◌∙◌, ap, subst}
use Rattle.rcv_tree.specs.Names.{name_at}
use Rattle.rcv_points.specs.Follow.{net_in}
use Rattle.rcv_input.specs.Line.{refusal_line}
use Rattle.rcv_input.specs.declared.refused.Refused.TheVariants.{Rule}
use Rattle.rcv_accept.specs.Lists.{AreInText}
use Rattle.rcv_listing.specs.Lines.{where_text, points_text, rule_text, told_text}
use Rattle.rcv_listing.proofs.Lines.{six}
use Rattle.rcv_listing.proofs.told.write_told.Goals as goal

pub write_points-requires : goal.write_points-requires
write_points-requires c = subst (AreInText (net_in c.args.table.now.points.now)) (sym c.as_slice-2.ensures.value) c.in_ok-points.ensures.text

pub returns : goal.returns
returns c =
    let roles = c.args.table.now.roles.now in
    let net = net_in c.args.table.now.points.now in
    let lines = c.args.table.now.lines.now in
    let way = c.in_ok-write_way.ensures in (
      told_text roles net lines c.args.code c.args.role c.args.number c.in_ok-points.points.items way.0 c.in-Some.explanation,
      record {
        shown = c.in_ok-points.points.items;
        way = way.0;
        explanation = c.in-Some.explanation;
        are_shown = c.in_ok-points.ensures.shown;
        is_way = way.1;
        explains = c.in-Some.ensures.some;
        text = refl;
      },
      six c.args.text.now c.word.new.self c.word-2.new.self c.write_where.new.text c.write_points.new.text c.write_way.new.text c.write_rule.new.text
          (codes "\n") (refusal_line (Rule c.args.code (name_at roles c.args.role) c.args.number)) (where_text roles lines c.args.code c.args.role c.args.number)
          (points_text roles net lines c.in_ok-points.points.items) way.0 (rule_text c.in-Some.explanation)
          c.in_ok-word.ensures.ok (c.in_ok-word-2.ensures.ok ∙ ap (λ l. c.word.new.self ++ l) (c.as_slice.ensures.value ∙ c.in_ok-line.ensures)) c.in_ok-write_where.ensures
          (c.in_ok-write_points.ensures ∙ ap (λ l. c.write_where.new.text ++ points_text roles net lines l) c.as_slice-2.ensures.value) way.2 c.in_ok-write_rule.ensures,
    )
