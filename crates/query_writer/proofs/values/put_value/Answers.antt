-- `put_value` meets its contract, by the value's kind. Assumes nothing.
use mathlib.Core.Path.{subst}
use lib.ListN.{length}
use Rattle.model.specs.PlainData.{ValueWithin}
use Rattle.putting.proofs.PuttingLaws.{puts_same}
use Rattle.query_writer.proofs.ValueLaws.{number_value, text_value, truth_value}
use Rattle.query_writer.proofs.values.put_value.Goals as goal

pub put_quoted-requires : goal.put_quoted-requires
put_quoted-requires c =
    subst (ValueWithin (length c.args.query.now)) c.in-Text.is c.requires

pub returns-in-Number : goal.returns-in-Number
returns-in-Number c =
    puts_same (number_value c.args.query.now c.args.value _ c.in-Number.is) c.put_whole.ensures

pub returns-in-Text : goal.returns-in-Text
returns-in-Text c =
    puts_same (text_value c.args.query.now c.args.value _ _ c.in-Text.is) c.put_quoted.ensures

pub returns-in-Truth : goal.returns-in-Truth
returns-in-Truth c =
    puts_same (truth_value c.args.query.now c.args.value _ c.in-Truth.is) c.put_truth.ensures
