-- Field by field.
use Rattle.std.proofs.Common.{[], ◌∷◌, ◌∙◌, arith}
use Rattle.rcv_journal.specs.Recorded.{bare}
use Rattle.rcv_lines.specs.Fields.{role_fields}
use Rattle.rcv_lines.proofs.Fielded.{at, seven_are}
use Rattle.rcv_lines.proofs.Parses.{none_from, some_from}
use Rattle.rcv_lines.proofs.roles.role_line.Goals as goal

pub returns-then-not-is_same-3-clause-none : goal.returns-then-not-is_same-3-clause-none
returns-then-not-is_same-3-clause-none c = λ line formed is.
    c.is_same-3.ensures.no c.if-not-is_same-3.true (at c.args.fields.now (role_fields (bare c.args.accepted.now.protocol) line) 4 _ is (omega arith))

pub returns-clause-none : goal.returns-clause-none
returns-clause-none c = none_from c.line_of.result (λ none line formed is.
    let fields = role_fields (bare c.args.accepted.now.protocol) line in
    none line formed (record {
      role = at c.args.fields.now fields 1 _ is (omega arith);
      kept_is = at c.args.fields.now fields 3 _ is (omega arith);
      raw_is = at c.args.fields.now fields 5 _ is (omega arith);
      word_is = at c.args.fields.now fields 6 _ is (omega arith);
    })) c.line_of.ensures.none

pub returns-clause-some : goal.returns-clause-some
returns-clause-some c =
    let first = c.is_same.ensures.yes c.if-not-is_same.false in
    let second = c.is_same-2.ensures.yes c.if-not-is_same-2.false in
    let third = c.is_same-3.ensures.yes c.if-not-is_same-3.false in
    some_from c.line_of.result (λ line says.
    seven_are c.args.fields.now _ c.if-fields-ne7.false ∙ (λ i. first i ∷ says.role i ∷ second i ∷ says.kept_is i ∷ third i ∷ says.raw_is i ∷ says.word_is i ∷ [])) c.line_of.ensures.says
