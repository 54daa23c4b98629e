-- Bytes of another length are none; eight bytes are what their fields are.
-- Assumes nothing.
use Rattle.std.proofs.Common.{rules, tests, ap, ◌∙◌}
use Rattle.std.proofs.lemmas.Option.{IfSome_then}
use Rattle.model.specs.Records.{fields_in, well_formed, action_of, decode}
use Rattle.records.specs.Actions.{fields_from, action_to}
use Rattle.records.proofs.Bytes.{decoded_law, then_law}
use Rattle.records.proofs.decode.Goals as goal

pub returns-in_err-as_array : goal.returns-in_err-as_array
unfolding decode
returns-in_err-as_array c = search (rules, tests)

pub returns : goal.returns
returns c =
    let k = c.in_ok-as_array.ensures.cases in
    let f = fields_from c.of-fields.result in
    then_law (well_formed f) (action_to (action_of f)) c.then.result (c.then.ensures.variant ∙ c.well_formed-2.ensures)
    (IfSome_then c.then.result c.then.ensures.some (λ x p. search rules))
    ∙ decoded_law c.args.r.now f k.long (c.of-fields.ensures ∙ ap fields_in k.same)
